-- The laws of the parts of `snap create` and `snap rm`: lemmas that the laws of an `impl` cite.
-- They define nothing.
use Rattle.std.proofs.Common.{ℕ, List, Some, refl}
use Rattle.rbd_kinds.specs.declared.answer.Answer.{Answer}
use Rattle.rbd_kinds.specs.declared.answer.Answer.TheVariants as answer
use Rattle.rbd_kinds.specs.declared.header_op.HeaderOp.TheVariants as header
use Rattle.rbd_kinds.specs.declared.machine.Fed.TheVariants as fed
use Rattle.rbd_kinds.specs.declared.map_op.MapOp.TheVariants as states
use Rattle.rbd_kinds.specs.declared.operation.Op.TheVariants as op
use Rattle.rbd_machine.specs.Answers.{CanBeFed, CanGive}
use Rattle.rbd_machine.specs.Plan.{Plan}
use Rattle.rbd_machine.specs.Steps.{TellsDone}
use Rattle.rbd_change.specs.OwnStep.{AsksByItself}
use Rattle.rbd_snap.specs.Snap.{TellsGone, TellsSnap}
use Rattle.rbd_snap.specs.SnapParts.{taking_from, TellsTaking, removing_from, TellsRemoving}
use Rattle.rbd_snap.specs.Snapping.{rest_of_part, TellsPart}
use Rattle.rbd_snap.specs.declared.remove_snap.RemoveSnap.{RemoveSnap}
use Rattle.rbd_snap.specs.declared.remove_snap.Stage as of_remove
use Rattle.rbd_snap.specs.declared.remove_snap.Stage.TheVariants as remove_stage
use Rattle.rbd_snap.specs.declared.snap.SnapPart.{SnapPart}
use Rattle.rbd_snap.specs.declared.snap.SnapPart.TheVariants as part
use Rattle.rbd_snap.specs.declared.take_snap.Stage as of_take
use Rattle.rbd_snap.specs.declared.take_snap.Stage.TheVariants as take_stage
use Rattle.rbd_snap.specs.declared.take_snap.TakeSnap.{TakeSnap}
use Rattle.rbd_image.proofs.Tells.{states_tell}

-- ---- what the answers that an operation can give tell

putting_tells : (image next : ℕ) (bits : List ℕ) (a : Answer)
    → CanGive (op.Map image (states.Put (Some next) bits)) a → TellsDone a
putting_tells image next bits answer.Done can = tt
putting_tells image next bits answer.Fenced can = tt
putting_tells image next bits _ can = let no = can.word in cc

taking_tells : (image : ℕ) (snap : List ℕ) (a : Answer)
    → CanGive (op.Header image (header.SnapAdd snap)) a → TellsSnap a
taking_tells image snap (answer.Snap taken) can = tt
taking_tells image snap answer.Absent can = tt
taking_tells image snap answer.Fenced can = tt
taking_tells image snap _ can = let no = can.word in cc

removing_tells : (image listed : ℕ) (a : Answer) → CanGive (op.Header image (header.SnapRemove listed)) a → TellsDone a
removing_tells image listed answer.Done can = tt
removing_tells image listed answer.Absent can = tt
removing_tells image listed answer.Fenced can = tt
removing_tells image listed _ can = let no = can.word in cc

unmapping_tells : (image removed : ℕ) (a : Answer)
    → CanGive (op.Map image (states.Remove (Some removed))) a → TellsGone a
unmapping_tells image removed answer.Done can = tt
unmapping_tells image removed answer.Absent can = tt
unmapping_tells image removed answer.Fenced can = tt
unmapping_tells image removed _ can = let no = can.word in cc

-- ---- what a stage may be fed tells it how to go on

pub take_tells : (s : of_take.Stage) (t : TakeSnap) (next : Plan) (a : Answer)
    → CanBeFed (taking_from s t next) (fed.Answer a) → TellsTaking s a
take_tells take_stage.Copying t next a can = states_tell t.image a can
take_tells (take_stage.Putting bits) t next a can = putting_tells t.image t.snap bits a can
take_tells take_stage.Taking t next a can = taking_tells t.image t.name a can

pub remove_tells : (s : of_remove.Stage) (r : RemoveSnap) (next : Plan) (a : Answer)
    → CanBeFed (removing_from s r next) (fed.Answer a) → TellsRemoving s a
remove_tells remove_stage.Removing r next a can = removing_tells r.image r.snap a can
remove_tells remove_stage.Unmapping r next a can = unmapping_tells r.image r.snap a can

pub part_tells : (x : SnapPart) (next : Plan) (a : Answer) → CanBeFed (rest_of_part x next) (fed.Answer a)
    → TellsPart x a
part_tells (part.Take t) next a can = take_tells t.stage t next a can
part_tells (part.Remove r) next a can = remove_tells r.stage r next a can

-- ---- at each stage there is an operation that it wants

take_asks : (s : of_take.Stage) (t : TakeSnap) (next : Plan) → AsksByItself (taking_from s t next)
take_asks take_stage.Copying t next = refl
take_asks (take_stage.Putting bits) t next = refl
take_asks take_stage.Taking t next = refl

remove_asks : (s : of_remove.Stage) (r : RemoveSnap) (next : Plan) → AsksByItself (removing_from s r next)
remove_asks remove_stage.Removing r next = refl
remove_asks remove_stage.Unmapping r next = refl

pub part_asks : (x : SnapPart) (next : Plan) → AsksByItself (rest_of_part x next)
part_asks (part.Take t) next = take_asks t.stage t next
part_asks (part.Remove r) next = remove_asks r.stage r next
