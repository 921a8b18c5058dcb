-- From what is served to what any instance does: a fenced one leaves the records, and is answered
-- fenced.
use Rattle.std.proofs.Common.{◌≡◌, Bool, true, false, cond, refl, sym, ap, ◌∙◌}
use Rattle.std.specs.Prelude.{IsFalse, IsTrue}
use Rattle.std.proofs.lemmas.Bool.{true≢false}
use Rattle.rbd_kinds.specs.declared.answer.Answer.{Answer}
use Rattle.rbd_kinds.specs.declared.answer.Answer.TheVariants as answer
use Rattle.rbd_kinds.specs.declared.id.Instance.{Instance}
use Rattle.rbd_kinds.specs.declared.operation.Op.{Op}
use Rattle.rbd_site.specs.Found.{done_where}
use Rattle.rbd_site.specs.Records.{Records}
use Rattle.rbd_site.specs.Step.{is_fenced, answer_to, answer_served, after, after_served}

-- what was done where a thing is there was done where it is
pub was_there : (there : Bool) → done_where there ≡ answer.Done → there ≡ true
was_there true e = refl
was_there false e = absurd (cc)

abbrev pub is_served : Answer → Bool
is_served answer.Fenced = false
is_served a = true

-- What follows from an answer that isn't `fenced`, where the operation was served, follows of any
-- instance.
pub where_served : (P : Records → Type 0) (r : Records) (me : Instance) (o : Op) (a : Answer) → is_served a ≡ true → (answer_served r me o ≡ a → P (after_served r me o))
    → answer_to r me o ≡ a → P (after r me o)
where_served P r me o a free served = go (is_fenced r me)
  where
    go : (b : Bool) → cond b answer.Fenced (answer_served r me o) ≡ a → P (cond b r (after_served r me o))
    go true e = absurd (true≢false (sym free ∙ sym (ap is_served e)))
    go false e = served e

-- What holds of the answer and the records, where it is fenced and where it is served, holds of any
-- instance.
pub where_either : (P : Answer → Records → Type 0) (r : Records) (me : Instance) (o : Op) → P answer.Fenced r → P (answer_served r me o) (after_served r me o) → P (answer_to r me o) (after r me o)
where_either P r me o fenced served = go (is_fenced r me)
  where
    go : (b : Bool) → P (cond b answer.Fenced (answer_served r me o)) (cond b r (after_served r me o))
    go true = fenced
    go false = served

pub fenced_answer : (r : Records) (me : Instance) (o : Op) → IsTrue (is_fenced r me) → answer_to r me o ≡ answer.Fenced
fenced_answer r me o fenced = ap (λ b. cond b answer.Fenced (answer_served r me o)) fenced

pub free_answer : (r : Records) (me : Instance) (o : Op) → IsFalse (is_fenced r me) → answer_served r me o ≡ answer_to r me o
free_answer r me o free = ap (λ b. cond b answer.Fenced (answer_served r me o)) (sym free)

pub fenced_after : (r : Records) (me : Instance) (o : Op) → IsTrue (is_fenced r me) → after r me o ≡ r
fenced_after r me o fenced = ap (λ b. cond b r (after_served r me o)) fenced
