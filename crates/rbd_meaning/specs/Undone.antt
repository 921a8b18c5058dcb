-- Operations that changed nothing that users see.
use Rattle.std.specs.Prelude.{◌≡◌, ◌⊎◌, Bool, true, false, List, [], ◌∷◌}
use Rattle.rbd_kinds.specs.declared.answer.Answer.{Answer}
use Rattle.rbd_kinds.specs.declared.answer.Answer.TheVariants as answer
use Rattle.rbd_commands.specs.declared.command.Command.{Command}
use Rattle.rbd_commands.specs.declared.command.Command.TheVariants as command
use Rattle.rbd_commands.specs.declared.refusal.Refusal.{Refusal}
use Rattle.rbd_machine.specs.Path.{Answered}
use Rattle.rbd_machine.specs.Refused.{never, by_fence, only_looks}
use Rattle.rbd_meaning.specs.Closes.{gone_or_fenced}

-- whether the answer says that the operation wasn't done
abbrev pub tells_undone : Answer → Bool
tells_undone answer.Absent = true
tells_undone answer.Exists = true
tells_undone answer.Full = true
tells_undone answer.Fenced = true
tells_undone _ = false

abbrev pub ChangesNothing : Answered → Type 0
ChangesNothing step = (only_looks step.op ≡ true) ⊎ (tells_undone step.answer ≡ true)

abbrev pub ChangeNothing : List Answered → Type 0
ChangeNothing [] = Unit {0}
ChangeNothing (step ∷ steps) = ChangesNothing step × ChangeNothing steps

-- which refusals of a command may come when a part of it was done
abbrev pub ComesLate : Command → Refusal → Type 0
ComesLate (command.Create image size shape) = by_fence
ComesLate (command.Write image at bytes) = by_fence
ComesLate (command.Fill image at len byte) = by_fence
ComesLate (command.Discard image at len) = by_fence
ComesLate (command.Resize image size) = by_fence
ComesLate (command.Remove image) = by_fence
ComesLate (command.SnapRemove image snap) = by_fence
ComesLate (command.SnapRollback image snap) = by_fence
ComesLate (command.Close image) = gone_or_fenced
ComesLate _ = never

-- The command drops a lock, and after that it may find the image gone.
abbrev pub lets_go : Command → Bool
lets_go (command.Close image) = true
lets_go _ = false
