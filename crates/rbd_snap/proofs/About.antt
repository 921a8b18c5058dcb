-- The operations of requests are their own.
use Rattle.std.proofs.Common.{ℕ, ◌+◌, List, Option, Some, None, refl}
use Rattle.rbd_kinds.specs.declared.sharing.Sharing.TheVariants as sharing
use Rattle.rbd_kinds.specs.declared.answer.Answer.{Answer}
use Rattle.rbd_kinds.specs.declared.answer.Answer.TheVariants as answer
use Rattle.rbd_commands.specs.declared.command.Command.TheVariants as command
use Rattle.rbd_kinds.specs.declared.header.HeaderView.{HeaderView}
use Rattle.rbd_kinds.specs.declared.header.SnapView.{SnapView}
use Rattle.rbd_kinds.specs.declared.id.SiteId.{SiteId}
use Rattle.rbd_kinds.specs.declared.machine.Fed.{Fed}
use Rattle.rbd_kinds.specs.Header.{snap_named}
use Rattle.rbd_machine.specs.About.{AreOwn, look_up}
use Rattle.rbd_machine.specs.Path.{Answered, IsWalk}
use Rattle.rbd_machine.specs.Plan.{Plan, Goto}
use Rattle.rbd_machine.specs.Steps.{on_id, joining, applied}
use Rattle.rbd_machine.proofs.About.{IsOfImage, of_not_there, of_on_done, of_joining, by_on_id, are_own}
use Rattle.rbd_meaning.specs.Snaps.{create_refuses, remove_refuses}
use Rattle.rbd_snap.specs.Snap.{on_snap, on_gone, taking_snap, putting, copying, take, unmapping, removing, remove_listed, remove_snap_plan, snap_plan}
use Rattle.rbd_image.proofs.About.{of_on_bits}

module _ (site : SiteId) where
  of_on_snap : (image : ℕ) (next : Plan) → IsOfImage site image next → (a : Answer) → IsOfImage site image (on_snap next a)
  of_on_snap image next of (answer.Snap snap) = of
  of_on_snap image next of a = of_not_there site image a

  of_on_gone : (image : ℕ) (next : Plan) → IsOfImage site image next → (a : Answer) → IsOfImage site image (on_gone next a)
  of_on_gone image next of answer.Done = of
  of_on_gone image next of answer.Absent = of
  of_on_gone image next of a = of_not_there site image a

  of_copying : (snap : List ℕ) (image id : ℕ) (next : Plan) → IsOfImage site image next → IsOfImage site image (copying site snap image id next)
  of_copying snap image id next of =
      (refl, refl, of_on_bits site image (putting site snap image id next) (λ bits. (refl, refl, of_on_done site image (taking_snap site snap image next) (refl, refl, of_on_snap image next of))))

  of_removing : (image snap : ℕ) (next : Plan) → IsOfImage site image next → IsOfImage site image (removing site image snap next)
  of_removing image snap next of = (refl, refl, of_on_done site image (unmapping site image snap next) (refl, refl, of_on_gone image next of))

  of_take : (snap : List ℕ) (image : ℕ) (h : HeaderView) → IsOfImage site image (take site snap image h)
  of_take snap image h = of_copying snap image (h.snap_seq + 1) (applied site image) tt

  of_remove : (snap : List ℕ) (image : ℕ) (listed : Option SnapView) → IsOfImage site image (remove_listed site snap image listed)
  of_remove snap image None = tt
  of_remove snap image (Some listed) = of_removing image listed.id (applied site image) tt

  pub taking_is_own : (name snap : List ℕ) (feds : List Fed) (steps : List Answered) (last : Plan) → IsWalk Goto (snap_plan site (command.SnapCreate name snap)) feds steps last → AreOwn site (look_up name) steps
  taking_is_own name snap feds steps last walk =
      let way = joining site sharing.Alone (create_refuses snap) (take site snap) in
      are_own site (look_up name) (on_id way) (by_on_id site way (λ image. of_joining site image sharing.Alone (create_refuses snap) (take site snap) (of_take snap image))) feds steps last walk

  pub removing_is_own : (name snap : List ℕ) (feds : List Fed) (steps : List Answered) (last : Plan) → IsWalk Goto (snap_plan site (command.SnapRemove name snap)) feds steps last → AreOwn site (look_up name) steps
  removing_is_own name snap feds steps last walk =
      let way = joining site sharing.Alone (remove_refuses snap) (remove_snap_plan site snap) in
      are_own site (look_up name) (on_id way)
      (by_on_id site way (λ image. of_joining site image sharing.Alone (remove_refuses snap) (remove_snap_plan site snap) (λ h. of_remove snap image (snap_named h.snaps snap))))
      feds steps last walk
