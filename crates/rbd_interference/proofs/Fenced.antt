-- What holds behind an operation, by whether its instance is fenced; and who is fenced stays so.
use Rattle.std.proofs.Common.{◌≡◌, cond, Bool, true, false, refl, sym, ap, ◌∙◌}
use Rattle.std.specs.Prelude.{IsFalse}
use Rattle.std.proofs.lemmas.Bool.{true≢false}
use Rattle.rbd_kinds.specs.declared.answer.Answer.{Answer}
use Rattle.rbd_kinds.specs.declared.answer.Answer.TheVariants as answer
use Rattle.rbd_kinds.specs.declared.id.Instance.{Instance}
use Rattle.rbd_kinds.specs.declared.operation.Op.{Op}
use Rattle.rbd_kinds.specs.declared.operation.Op.TheVariants as op
use Rattle.rbd_site.specs.Records.{Records}
use Rattle.rbd_site.specs.Step.{is_fenced, answer_to, answer_served, after, after_served}
use Rattle.rbd_site.proofs.FenceLemmas.{fence_stays, lists_it}

-- What holds where the instance is fenced, and where it isn't and is served, holds of any.
pub where_free : (P : Answer → Records → Type 0) (r : Records) (me : Instance) (o : Op) → P answer.Fenced r → (IsFalse (is_fenced r me) → P (answer_served r me o) (after_served r me o))
    → P (answer_to r me o) (after r me o)
where_free P r me o fenced served = go (is_fenced r me) refl
  where
    go : (b : Bool) → is_fenced r me ≡ b → P (cond b answer.Fenced (answer_served r me o)) (cond b r (after_served r me o))
    go true is = fenced
    go false is = served is

-- who isn't fenced is served
pub served_is : (r : Records) (me : Instance) (o : Op) → IsFalse (is_fenced r me) → after r me o ≡ after_served r me o
served_is r me o free = ap (λ b. cond b r (after_served r me o)) free

-- the same of the records alone
pub after_free : (P : Records → Type 0) (r : Records) (me : Instance) (o : Op) → P r → (IsFalse (is_fenced r me) → P (after_served r me o)) → P (after r me o)
after_free P r me o fenced served = where_free (λ a s. P s) r me o fenced served

-- who isn't fenced behind an operation wasn't before it
pub was_free : (r : Records) (you me : Instance) (o : Op) → IsFalse (is_fenced (after r you o) me) → IsFalse (is_fenced r me)
was_free r you me o free = go (is_fenced r me) refl
  where
    go : (b : Bool) → is_fenced r me ≡ b → b ≡ false
    go true listed = absurd (true≢false (sym (fence_stays r you me o listed) ∙ free))
    go false is = refl

-- ---- a fence that is put up

module _ (r : Records) (me i : Instance) (free : IsFalse (is_fenced r me)) where
  put_up : after r me (op.BlockAdd i) ≡ after_served r me (op.BlockAdd i)
  put_up = ap (λ b. cond b r (after_served r me (op.BlockAdd i))) free

  pub is_put_up : is_fenced (after_served r me (op.BlockAdd i)) i ≡ true
  is_put_up = ap (λ s. is_fenced s i) (sym put_up) ∙ lists_it r me i free

  pub stays_put_up : (other : Instance) → is_fenced r other ≡ true → is_fenced (after_served r me (op.BlockAdd i)) other ≡ true
  stays_put_up other listed = ap (λ s. is_fenced s other) (sym put_up) ∙ fence_stays r me other (op.BlockAdd i) listed
