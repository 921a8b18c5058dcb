-- The laws of the part of `snap rollback`: lemmas that the laws of an `impl` cite. They define
-- nothing.
use Rattle.std.proofs.Common.{Some, refl}
use Rattle.rbd_kinds.specs.declared.answer.Answer.{Answer}
use Rattle.rbd_kinds.specs.declared.machine.Fed.TheVariants as fed
use Rattle.rbd_machine.specs.Answers.{CanBeFed}
use Rattle.rbd_machine.specs.Plan.{Plan}
use Rattle.rbd_change.specs.OwnStep.{AsksByItself}
use Rattle.rbd_pieces.proofs.Tells.{read_tells}
use Rattle.rbd_pieces.specs.Full as full
use Rattle.rbd_pieces.specs.declared.full_piece.Way.{Way}
use Rattle.rbd_pieces.specs.declared.full_piece.Way.TheVariants as way
use Rattle.rbd_pieces.specs.declared.replace.Replace.{Replace}
use Rattle.rbd_pieces.specs.declared.replace.Stage as of_replace
use Rattle.rbd_pieces.specs.declared.replace.Stage.TheVariants as replace_stage
use Rattle.rbd_pieces.proofs.ZerosTell.{full_tells, size_tells}
use Rattle.rbd_snap.specs.Restore as restore
use Rattle.rbd_snap.specs.Restore.{Restoring, rest_of_others, rest_of_some}
use Rattle.rbd_snap.specs.Rolling.{rest_from, rest_of_rollback, Tells, TellsAt}
use Rattle.rbd_snap.specs.declared.restore.Stage as of_restore
use Rattle.rbd_snap.specs.declared.restore.Stage.TheVariants as restore_stage
use Rattle.rbd_snap.specs.declared.rollback.Rollback.{Rollback}
use Rattle.rbd_snap.specs.declared.rollback.Stage.{Stage}
use Rattle.rbd_snap.specs.declared.rollback.Stage.TheVariants as stage
use Rattle.rbd_image.specs.SizeLaws.{size_asks, zero_asks}

-- ---- at each stage there is an operation that it wants

replace_asks : (s : of_replace.Stage) (r : Replace) (next : Plan) → AsksByItself (full.replace_from s r next)
replace_asks replace_stage.Raising r next = refl
replace_asks replace_stage.Writing r next = refl

full_asks : (w : Way) (next : Plan) → AsksByItself (full.rest_from w next)
full_asks (way.Replacing r) next = replace_asks r.stage r next
full_asks (way.Zeroing z) next = zero_asks z.stage z next

restore_asks : (s : of_restore.Stage) (r : Restoring) (next : Plan) → AsksByItself (restore.rest_from s r next)
restore_asks restore_stage.Reading r next = refl
restore_asks (restore_stage.Replacing f) r next = full_asks f.way (rest_of_others r next)

rolling_asks : (s : Stage) (next : Plan) → AsksByItself (rest_from s next)
rolling_asks (stage.Sizing z objects) next = size_asks z.stage z (rest_of_some objects next)
rolling_asks (stage.Restoring objects) next = restore_asks objects.stage objects next

pub rollback_asks : (r : Rollback) (next : Plan) → AsksByItself (rest_of_rollback r next)
rollback_asks r next = rolling_asks r.stage next

-- ---- what it may be fed tells it how to go on

restore_tells : (s : of_restore.Stage) (r : Restoring) (next : Plan) (a : Answer)
    → CanBeFed (restore.rest_from s r next) (fed.Answer a) → restore.Tells s a
restore_tells restore_stage.Reading r next a can = read_tells r.image (Some r.snap) r.piece a can
restore_tells (restore_stage.Replacing f) r next a can = full_tells f.way (rest_of_others r next) a can

rolling_tells : (s : Stage) (next : Plan) (a : Answer) → CanBeFed (rest_from s next) (fed.Answer a) → TellsAt s a
rolling_tells (stage.Sizing z objects) next a can = size_tells z.stage z (rest_of_some objects next) a can
rolling_tells (stage.Restoring objects) next a can = restore_tells objects.stage objects next a can

pub rollback_tells : (r : Rollback) (next : Plan) (a : Answer)
    → CanBeFed (rest_of_rollback r next) (fed.Answer a) → Tells r a
rollback_tells r next a can = rolling_tells r.stage next a can
