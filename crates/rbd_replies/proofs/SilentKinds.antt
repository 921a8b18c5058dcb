-- What changes nothing that users see has no effect. So a command none of whose kinds changes any
-- of it did nothing that has one, wherever it has come.
use Rattle.std.proofs.Common.{◌≡◌, true, false, List, [], ◌∷◌, Option, Some, None, refl}
use Rattle.rbd_commands.specs.declared.command.Command.{Command}
use Rattle.rbd_kinds.specs.OperationKind.{kind_of}
use Rattle.rbd_kinds.specs.declared.answer.Answer.{Answer}
use Rattle.rbd_kinds.specs.declared.answer.Answer.TheVariants as answer
use Rattle.rbd_kinds.specs.declared.children_op.ChildrenOp.TheVariants as child
use Rattle.rbd_kinds.specs.declared.data_op.DataOp.TheVariants as object
use Rattle.rbd_kinds.specs.declared.directory_op.DirectoryOp.TheVariants as directory
use Rattle.rbd_kinds.specs.declared.header.HeaderView.{HeaderView}
use Rattle.rbd_kinds.specs.declared.header_op.HeaderOp.TheVariants as header
use Rattle.rbd_kinds.specs.declared.operation.Op.{Op}
use Rattle.rbd_kinds.specs.declared.operation.Op.TheVariants as op
use Rattle.rbd_machine.specs.Path.{Answered}
use Rattle.rbd_machine.specs.Plan.{Plan}
use Rattle.rbd_machine.specs.declared.seat.Seat.{Seat}
use Rattle.rbd_catalog.proofs.Consequences.{none_done}
use Rattle.rbd_catalog.proofs.FollowsAll.{command_follows}
use Rattle.rbd_catalog.specs.Follows.{AreNoneOf}
use Rattle.rbd_catalog.specs.Profile.{changes_what_is_seen, profile}
use Rattle.rbd_stands.specs.Effect.{effect_of_op}
use Rattle.rbd_world.specs.Sound.{IsLedTo}
use Rattle.rbd_replies.proofs.Silent.{AreSilent}
use Rattle.rbd_replies.specs.Replies.{changes_no_image}

pub unseen_has_none : (known : Option HeaderView) (o : Op) (a : Answer) → changes_what_is_seen (kind_of o) ≡ false → effect_of_op known o a ≡ None
unseen_has_none known (op.Directory (directory.Find name)) a unseen = refl
unseen_has_none known (op.Directory directory.List) a unseen = refl
unseen_has_none known (op.Directory _) a unseen = cc
unseen_has_none known (op.Children (child.List parent snap)) a unseen = refl
unseen_has_none known (op.Children _) a unseen = cc
unseen_has_none known (op.BlockAdd instance) a unseen = refl
unseen_has_none known (op.Header image header.Get) a unseen = refl
unseen_has_none known (op.Header image _) a unseen = cc
unseen_has_none None (op.Data image number (object.Read snap parts)) a unseen = refl
unseen_has_none (Some h) (op.Data image number (object.Read snap parts)) answer.Done unseen = refl
unseen_has_none (Some h) (op.Data image number (object.Read snap parts)) a unseen = refl
unseen_has_none None (op.Data image number (object.CopyUp bytes)) a unseen = refl
unseen_has_none (Some h) (op.Data image number (object.CopyUp bytes)) answer.Done unseen = refl
unseen_has_none (Some h) (op.Data image number (object.CopyUp bytes)) a unseen = refl
unseen_has_none known (op.Data image number _) a unseen = cc
unseen_has_none known (op.Map image o) a unseen = refl
unseen_has_none known (op.Journal image o) a unseen = refl

unseen_are_silent : (steps : List Answered) → AreNoneOf changes_what_is_seen steps → AreSilent steps
unseen_are_silent [] none = tt
unseen_are_silent (step ∷ steps) none = (λ known. unseen_has_none known step.op step.answer none.0, unseen_are_silent steps none.1)

pub led_is_silent : (seat : Seat) (c : Command) (steps : List Answered) (last : Plan) → IsLedTo seat c steps last → changes_no_image c ≡ true → AreSilent steps
led_is_silent seat c steps last is none =
    unseen_are_silent steps (none_done changes_what_is_seen (profile c) none is.start (command_follows seat c is.start is.plan) is.feds steps last is.walk)
