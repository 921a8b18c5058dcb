-- Where the parts of `snap create` and `snap rm` stand, which come behind the event.
use Rattle.std.specs.Prelude.{◌≡◌, ℕ, List, Option, Some, None}
use Rattle.rbd_kinds.specs.declared.answer.Answer.{Answer}
use Rattle.rbd_kinds.specs.declared.answer.Answer.TheVariants as answer
use Rattle.rbd_machine.specs.Plan.{Plan}
use Rattle.rbd_machine.specs.Steps.{TellsBits, TellsDone}
use Rattle.rbd_snap.specs.Snap.{TellsSnap, TellsGone, taking_snap, putting, copying, unmapping, removing}
use Rattle.rbd_snap.specs.declared.remove_snap.RemoveSnap.{RemoveSnap}
use Rattle.rbd_snap.specs.declared.remove_snap.Stage as of_remove
use Rattle.rbd_snap.specs.declared.remove_snap.Stage.TheVariants as remove_stage
use Rattle.rbd_snap.specs.declared.take_snap.Stage as of_take
use Rattle.rbd_snap.specs.declared.take_snap.Stage.TheVariants as take_stage
use Rattle.rbd_snap.specs.declared.take_snap.TakeSnap.{TakeSnap}

-- ---- the one that takes a snapshot

abbrev pub taking_from : of_take.Stage → TakeSnap → (next : Plan) → Plan
taking_from take_stage.Copying t next = copying t.site t.name t.image t.snap next
taking_from (take_stage.Putting bits) t next = putting t.site t.name t.image t.snap next bits
taking_from take_stage.Taking t next = taking_snap t.site t.name t.image next

-- what is left of one
abbrev pub rest_of_taking : TakeSnap → (next : Plan) → Plan
rest_of_taking t next = taking_from t.stage t next

-- what its operation may be answered
abbrev pub TellsTaking : of_take.Stage → Answer → Type 0
TellsTaking take_stage.Copying = TellsBits
TellsTaking (take_stage.Putting bits) = TellsDone
TellsTaking take_stage.Taking = TellsSnap

-- the memory that an answer needs: the bits that are told
abbrev pub HasBitsAt : of_take.Stage → (readied : Option (List ℕ)) → Answer → Type 0
HasBitsAt take_stage.Copying readied (answer.Bits bits) = readied ≡ Some bits
HasBitsAt take_stage.Copying readied a = readied ≡ None
HasBitsAt _ readied a = Unit {0}

abbrev pub HasBits : TakeSnap → Answer → Type 0
HasBits t a = HasBitsAt t.stage t.readied a

-- ---- the one that removes a snapshot

abbrev pub removing_from : of_remove.Stage → RemoveSnap → (next : Plan) → Plan
removing_from remove_stage.Removing r next = removing r.site r.image r.snap next
removing_from remove_stage.Unmapping r next = unmapping r.site r.image r.snap next

-- what is left of one
abbrev pub rest_of_removing : RemoveSnap → (next : Plan) → Plan
rest_of_removing r next = removing_from r.stage r next

-- what its operation may be answered
abbrev pub TellsRemoving : of_remove.Stage → Answer → Type 0
TellsRemoving remove_stage.Removing = TellsDone
TellsRemoving remove_stage.Unmapping = TellsGone
