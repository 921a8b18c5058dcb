-- A log with one more line.
use Rattle.std.proofs.Common.{◌≡◌, ℕ, ◌+◌, List, [], ◌∷◌, ◌++◌, length, refl, sym, ap, ◌∙◌, subst, arith, length-append}
use Rattle.rbd_site.specs.declared.done.Done.{Done}
use Rattle.rbd_site.specs.Records.{Records, no_records}
use Rattle.rbd_site.specs.Log.{after_op, after_all, IsAnswer, AreAnswered, AreNumbered, IsSoundLog}
use Rattle.rbd_site.specs.InForm.{AreInForm}
use Rattle.rbd_site.proofs.FormLemmas.{form_at_first}

pub after_all-more : (r : Records) (log : List Done) (d : Done) → after_all r (log ++ d ∷ []) ≡ after_op (after_all r log) d.instance d.op
after_all-more r [] d = refl
after_all-more r (e ∷ log) d = after_all-more (after_op r e.instance e.op) log d

pub answered_more : (r : Records) (log : List Done) (d : Done) → AreAnswered r log → IsAnswer (after_all r log) d.instance d.op d.answer
    → AreAnswered r (log ++ d ∷ [])
answered_more r [] d answered is = (is, tt)
answered_more r (e ∷ log) d answered is = (answered.0, answered_more (after_op r e.instance e.op) log d answered.1 is)

pub numbered_more : (next : ℕ) (log : List Done) (d : Done) → AreNumbered next log → d.number ≡ next + length log → AreNumbered next (log ++ d ∷ [])
numbered_more next [] d numbered is = (omega arith, tt)
numbered_more next (e ∷ log) d numbered is = (numbered.0, numbered_more (next + 1) log d numbered.1 (omega arith))

-- one more operation is logged
pub sound_more : (r new : Records) (log : List Done) (d : Done) → IsSoundLog r log → new ≡ after_op r d.instance d.op → IsAnswer r d.instance d.op d.answer
    → d.number ≡ length log + 1 → AreInForm new (length log + 1) → IsSoundLog new (log ++ d ∷ [])
sound_more r new log d sound is answer number form = record {
  kept = is ∙ ap (λ x. after_op x d.instance d.op) sound.kept ∙ sym (after_all-more no_records log d);
  answered = answered_more no_records log d sound.answered (subst (λ x. IsAnswer x d.instance d.op d.answer) sound.kept answer);
  numbered = numbered_more 1 log d sound.numbered (omega arith);
  form = subst (AreInForm new) (sym (length-append log (d ∷ []))) form;
}

pub sound_at_first : (r : Records) (log : List Done) → r ≡ no_records → log ≡ [] → IsSoundLog r log
sound_at_first r log none empty =
    rw (none, empty) (record { kept = refl; answered = tt; numbered = tt; form = form_at_first })
