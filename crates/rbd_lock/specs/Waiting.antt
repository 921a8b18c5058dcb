-- Which steps ask again, and whether a client counts a lock as its own.
use Rattle.std.specs.Prelude.{Bool, true, false, List, [], ◌∷◌}
use Rattle.rbd_kinds.specs.declared.answer.Answer.{Answer}
use Rattle.rbd_kinds.specs.declared.answer.Answer.TheVariants as answer
use Rattle.rbd_kinds.specs.declared.operation_kind.OpKind.{OpKind}
use Rattle.rbd_kinds.specs.declared.operation_kind.OpKind.TheVariants as kind
use Rattle.rbd_lock.specs.Comings.{owns_after}
use Rattle.rbd_machine.specs.Path.{Answered}
use Rattle.rbd_machine.specs.declared.reason.Reason.{Reason}
use Rattle.rbd_machine.specs.declared.reason.Reason.TheVariants as reason

-- ---- waiting

-- An answer by which the way asks again: the lock is held, its watchers are told, its owner is
-- asked. An answer that ends the request isn't among these.
abbrev pub asks_again : OpKind → Answer → Bool
asks_again kind.LockTake (answer.Held owner) = true
asks_again kind.WatchersGet (answer.Instances watchers) = true
asks_again kind.Notify answer.Done = true
asks_again _ _ = false

-- a step on the way to a lock that asks again
abbrev pub asks_for_lock : Reason → OpKind → Answer → Bool
asks_for_lock reason.Acquiring k a = asks_again k a
asks_for_lock why k a = false

-- ---- what a client counts

-- whether a client counts a lock as its own after steps that are all of the lock's image
abbrev pub owned_by : (owned : Bool) → List Answered → Bool
owned_by owned [] = owned
owned_by owned (s ∷ steps) = owned_by (owns_after owned s.op s.answer) steps
