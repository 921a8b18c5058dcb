-- The operations of a rollback are its own.
use Rattle.std.proofs.Common.{◌≡◌, ℕ, List, Option, Some, None}
use Rattle.rbd_kinds.specs.declared.sharing.Sharing.TheVariants as sharing
use Rattle.rbd_kinds.specs.declared.header.HeaderView.{HeaderView}
use Rattle.rbd_kinds.specs.declared.header.SnapView.{SnapView}
use Rattle.rbd_kinds.specs.declared.id.SiteId.{SiteId}
use Rattle.rbd_kinds.specs.declared.machine.Fed.{Fed}
use Rattle.rbd_kinds.specs.Header.{snap_named}
use Rattle.rbd_machine.specs.About.{AreOwn, image_of, look_up}
use Rattle.rbd_machine.specs.Path.{Answered, IsWalk}
use Rattle.rbd_machine.specs.Plan.{Plan, Goto}
use Rattle.rbd_machine.specs.Steps.{applied, joining, on_id}
use Rattle.rbd_machine.proofs.About.{IsOfImage, are_own, by_on_id, of_joining}
use Rattle.rbd_meaning.specs.Rollbacks.{rollback_refuses}
use Rattle.rbd_snap.specs.Rollback.{roll_back_listed, roll_back_to, rollback}
use Rattle.rbd_snap.proofs.RollbacksBuilt.{built_roll_back}
use Rattle.rbd_image.proofs.ResizesOwn.{of_rules}

module _ (site : SiteId) (image : ℕ) where
  of_listed : (snap : List ℕ) (h : HeaderView) (listed : Option SnapView) → IsOfImage site image (roll_back_listed site snap image h listed)
  of_listed snap h None = tt
  of_listed snap h (Some listed) =
      built_roll_back (λ k p. IsOfImage site image k) (λ k p. IsOfImage site image k) (λ o. image_of o ≡ Some image) (λ inside. Unit {0}) site image (of_rules site image) h (λ number. tt) listed
      (applied site image) (applied site image) tt

pub rollback_is_own : (site : SiteId) (name snap : List ℕ) (feds : List Fed) (steps : List Answered) (last : Plan) → IsWalk Goto (rollback site name snap) feds steps last → AreOwn site (look_up name) steps
rollback_is_own site name snap feds steps last walk =
    let way = joining site sharing.Alone (rollback_refuses snap) (roll_back_to site snap) in
    are_own site (look_up name) (on_id way)
    (by_on_id site way (λ image. of_joining site image sharing.Alone (rollback_refuses snap) (roll_back_to site snap) (λ h. of_listed site image snap h (snap_named h.snaps snap)))) feds steps last walk
