-- Bounds of the plans.
use Rattle.std.proofs.Common.{ℕ, suc, ◌+◌, List, Option, Some, None, arith}
use Rattle.rbd_kinds.specs.declared.sharing.Sharing.TheVariants as sharing
use Rattle.rbd_kinds.specs.declared.answer.Answer.{Answer}
use Rattle.rbd_kinds.specs.declared.answer.Answer.TheVariants as answer
use Rattle.rbd_commands.specs.declared.command.Command.{Command}
use Rattle.rbd_commands.specs.declared.command.Command.TheVariants as command
use Rattle.rbd_kinds.specs.declared.header.HeaderView.{HeaderView}
use Rattle.rbd_kinds.specs.declared.header.SnapView.{SnapView}
use Rattle.rbd_kinds.specs.declared.id.SiteId.{SiteId}
use Rattle.rbd_kinds.specs.Header.{snap_named}
use Rattle.rbd_machine.specs.Plan.{Plan}
use Rattle.rbd_machine.specs.Path.{IsBounded}
use Rattle.rbd_machine.proofs.Bounds.{bounded_not_there, bounded_on_done, bounded_change, bounded_more}
use Rattle.rbd_machine.specs.Steps.{applied}
use Rattle.rbd_meaning.specs.Snaps.{create_refuses, remove_refuses}
use Rattle.rbd_snap.specs.Snap.{on_snap, on_gone, taking_snap, putting, copying, take, unmapping, removing, remove_listed, remove_snap_plan, snap_plan}
use Rattle.rbd_image.proofs.Bounds.{bounded_on_bits}

bounded_on_snap : (next : Plan) (n : ℕ) → IsBounded next n → (a : Answer) → IsBounded (on_snap next a) n
bounded_on_snap next n b (answer.Snap snap) = b
bounded_on_snap next n b answer.Fenced = tt
bounded_on_snap next n b _ = tt

bounded_on_gone : (next : Plan) (n : ℕ) → IsBounded next n → (a : Answer) → IsBounded (on_gone next a) n
bounded_on_gone next n b answer.Done = b
bounded_on_gone next n b answer.Absent = b
bounded_on_gone next n b a = bounded_not_there a n

pub bounded_copying : (site : SiteId) (snap : List ℕ) (image id : ℕ) (next : Plan) (n : ℕ) → IsBounded next n → IsBounded (copying site snap image id next) (suc (suc (suc n)))
bounded_copying site snap image id next n b =
    bounded_on_bits (putting site snap image id next) (suc (suc n)) (λ bits. bounded_on_done (taking_snap site snap image next) (suc n) (bounded_on_snap next n b))

pub bounded_removing : (site : SiteId) (image snap : ℕ) (next : Plan) (n : ℕ) → IsBounded next n → IsBounded (removing site image snap next) (suc (suc n))
bounded_removing site image snap next n b = bounded_on_done (unmapping site image snap next) (suc n) (bounded_on_gone next n b)

bounded_take : (site : SiteId) (snap : List ℕ) (image : ℕ) (h : HeaderView) → IsBounded (take site snap image h) 3
bounded_take site snap image h = bounded_copying site snap image (h.snap_seq + 1) (applied site image) 0 tt

bounded_remove_listed : (site : SiteId) (snap : List ℕ) (image : ℕ) (listed : Option SnapView) → IsBounded (remove_listed site snap image listed) 2
bounded_remove_listed site snap image None = tt
bounded_remove_listed site snap image (Some listed) = bounded_removing site image listed.id (applied site image) 0 tt

bounded_remove : (site : SiteId) (snap : List ℕ) (image : ℕ) (h : HeaderView) → IsBounded (remove_snap_plan site snap image h) 2
bounded_remove site snap image h = bounded_remove_listed site snap image (snap_named h.snaps snap)

pub bounded_removal : (site : SiteId) (image snap : List ℕ) → IsBounded (snap_plan site (command.SnapRemove image snap)) 5
bounded_removal site image snap = bounded_change site (remove_refuses snap) (remove_snap_plan site snap) 2 (bounded_remove site snap) image sharing.Alone

pub bounded_snap : (site : SiteId) (c : Command) → IsBounded (snap_plan site c) 6
bounded_snap site (command.SnapCreate image snap) = bounded_change site (create_refuses snap) (take site snap) 3 (bounded_take site snap) image sharing.Alone
bounded_snap site (command.SnapRemove image snap) = bounded_more (snap_plan site (command.SnapRemove image snap)) 5 6 (omega arith) (bounded_removal site image snap)
bounded_snap site _ = tt
