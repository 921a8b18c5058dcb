-- Which release of a lock the house of an instance is in the middle of.
use Rattle.std.specs.Prelude.{◌≡◌, ℕ, ◌&&◌, if◌then◌else◌, Bool, true, false, List, [], ◌∷◌, ◌++◌, Option, None}
use Rattle.std.specs.List.{list_any}
use Rattle.rbd_kinds.specs.declared.answer.Answer.{Answer}
use Rattle.rbd_kinds.specs.declared.answer.Answer.TheVariants as answer
use Rattle.rbd_kinds.specs.declared.header_op.HeaderOp.TheVariants as header
use Rattle.rbd_kinds.specs.declared.id.Instance.{Instance}
use Rattle.rbd_kinds.specs.declared.id.SiteId.{SiteId}
use Rattle.rbd_kinds.specs.declared.operation.Op.{Op}
use Rattle.rbd_kinds.specs.declared.operation.Op.TheVariants as op
use Rattle.rbd_kinds.specs.declared.reply.Reply.{Reply}
use Rattle.rbd_kinds.specs.Instances.{same_instance}
use Rattle.rbd_lock.specs.Release.{release_behind}
use Rattle.rbd_lock.specs.Steps.{lock_drop}
use Rattle.rbd_lock.specs.declared.release.Release.{Release}
use Rattle.rbd_lock.specs.declared.release.Stage.TheVariants as stage
use Rattle.rbd_world.specs.Run.{Doer, House, Happening, Did, Stopped, Restarted, Operation}

-- ---- what its house does

abbrev pub is_house : Doer → Bool
is_house House = true
is_house by = false

-- whether the instance's house has an operation done, or its life ends or begins
abbrev pub moves_house : Instance → Happening → Bool
moves_house who (Did o reply) = is_house o.by && same_instance o.instance who
moves_house who (Stopped other wanted lost) = same_instance other who
moves_house who (Restarted other) = same_instance other who
moves_house who h = false

-- ---- the release that is under way

-- the release that is left after an operation: after a drop that was done the watchers are still to
-- be told, and after anything else nothing is left
abbrev pub release_left : SiteId → Op → Answer → Option Release
release_left site (op.Header image header.LockDrop) a = release_behind stage.Dropping site image a
release_left site o a = None

abbrev pub left_by : Happening → Option Release
left_by (Did o reply) = release_left o.site o.op o.answer
left_by h = None

-- the release that an instance's house is in the middle of behind a run
abbrev pub release_of : Instance → List Happening → Option Release
release_of who [] = None
release_of who (h ∷ run) = if moves_house who h then left_by h else release_of who run

-- The house dropped the lock of the image there, and the drop was done. Since then the house did
-- nothing, and its life went on.
pub record HasDropped (who : Instance) (site : SiteId) (image : ℕ) (run : List Happening) : Type 0 where
  pub drop : Operation
  pub reply : Option Reply
  pub before : List Happening
  pub since : List Happening
  pub is : run ≡ since ++ (Did drop reply ∷ before)
  pub by : drop.by ≡ House
  pub whose : drop.instance ≡ who
  pub there : drop.site ≡ site
  pub drops : drop.op ≡ lock_drop image
  pub done : drop.answer ≡ answer.Done
  pub nothing : list_any (moves_house who) since ≡ false
