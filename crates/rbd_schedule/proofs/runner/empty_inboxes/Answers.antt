use Rattle.std.proofs.Common.{◌≡◌, ℕ, zero, suc, List, [], ◌∷◌, ◌++◌, slice_get, refl, ap, ◌∙◌}
use Rattle.std.specs.declared.collections.VecDeque.{VecDeque}
use Rattle.rbd_schedule.specs.Playing.{numbers_in}
use Rattle.rbd_schedule.proofs.runner.empty_inboxes.Goals as goal

one_more : {Z : Type 0} (xs : List (VecDeque ℕ Z)) (x : VecDeque ℕ Z) → x.items ≡ [] → ((k : ℕ) → numbers_in (slice_get xs k) ≡ []) → (k : ℕ) → numbers_in (slice_get (xs ++ x ∷ []) k) ≡ []
one_more [] x none all zero = none
one_more [] x none all (suc k) = refl
one_more (y ∷ xs) x none all zero = all zero
one_more (y ∷ xs) x none all (suc k) = one_more xs x none (λ j. all (suc j)) k

pub loop-session-init : goal.loop-session-init
loop-session-init c = λ k. ap (λ xs. numbers_in (slice_get xs k)) c.new-inboxes.ensures.items

pub loop-session-preserved : goal.loop-session-preserved
loop-session-preserved c = λ k. ap (λ xs. numbers_in (slice_get xs k)) c.in_ok-push.ensures.items ∙ one_more c.loop-session.inboxes.items c.new.result c.new.ensures.items c.loop-session.invariant k

pub returns : goal.returns
returns c = c.loop-session.invariant
