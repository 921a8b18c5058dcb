-- The operation that was logged last is the latest of the log.
use Rattle.std.proofs.Common.{◌≡◌, ℕ, suc, ◌-◌, List, [], ◌∷◌, ◌++◌, length, slice_get, Some, refl, sym, ap, ◌∙◌, arith}
use Rattle.std.proofs.lemmas.Option.{same_Some}
use Rattle.rbd_kinds.specs.declared.answer.Answer.{Answer}
use Rattle.rbd_kinds.specs.declared.id.Instance.{Instance}
use Rattle.rbd_kinds.specs.declared.operation.Op.{Op}
use Rattle.rbd_site.specs.declared.done.Done.{Done}
use Rattle.rbd_site.specs.Log.{SiteLog, log_line}
use Rattle.rbd_world.specs.Sending.{latest_op, op_in}
use Rattle.rbd_world.specs.Step.{with_log_lines}

one_longer : {T : Type 0} (xs : List T) (x : T) → length (xs ++ x ∷ []) ≡ suc (length xs)
one_longer [] x = refl
one_longer (y ∷ xs) x = ap suc (one_longer xs x)

there_last : {T : Type 0} (xs : List T) (x : T) → slice_get (xs ++ x ∷ []) (length xs) ≡ Some x
there_last [] x = refl
there_last (y ∷ xs) x = there_last xs x

last_of : {T : Type 0} (xs : List T) (x : T) → slice_get (xs ++ x ∷ []) (length (xs ++ x ∷ []) - 1) ≡ Some x
last_of xs x = ap (slice_get (xs ++ x ∷ [])) (before_last xs x) ∙ there_last xs x
  where
    before_last : {T : Type 0} (xs : List T) (x : T) → length (xs ++ x ∷ []) - 1 ≡ length xs
    before_last xs x = omega (arith, one_longer xs x)

pub latest_of : (log : List Done) (n : ℕ) (who : Instance) (o : Op) (a : Answer) → latest_op (log ++ log_line n who o a ∷ []) ≡ Some o
latest_of log n who o a = ap op_in (last_of log (log_line n who o a))

-- what is read there is the operation that was logged
pub same_op : (before behind there : SiteLog) (n : ℕ) (who : Instance) (o : Op) (a : Answer) (log : List Done) (done : Op) → behind ≡ with_log_lines (log_line n who o a ∷ []) before → there ≡ behind
    → log ≡ there.log → Some done ≡ latest_op log → o ≡ done
same_op before behind there n who o a log done logged at is read =
    same_Some o done
    (sym (latest_of before.log n who o a) ∙ ap (λ (s : SiteLog). latest_op s.log) (sym logged) ∙ ap (λ (s : SiteLog). latest_op s.log) (sym at) ∙ ap latest_op (sym is) ∙ sym read)
