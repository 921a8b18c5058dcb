-- What replies mean, command by command.
use Rattle.std.proofs.Common.{◌≡◌, inl, inr, ℕ, ◌+◌, List, [], true, false, Option, Some, None, refl, subst}
use Rattle.rbd_kinds.specs.declared.sharing.Sharing.TheVariants as sharing
use Rattle.rbd_kinds.specs.declared.answer.Answer.{Answer}
use Rattle.rbd_kinds.specs.declared.answer.Answer.TheVariants as answer
use Rattle.rbd_commands.specs.declared.command.Command.{Command}
use Rattle.rbd_commands.specs.declared.command.Command.TheVariants as command
use Rattle.rbd_kinds.specs.declared.header.SnapView.{SnapView}
use Rattle.rbd_kinds.specs.declared.header_op.HeaderOp.TheVariants as header
use Rattle.rbd_kinds.specs.declared.id.SiteId.{SiteId}
use Rattle.rbd_kinds.specs.declared.machine.Fed.{Fed}
use Rattle.rbd_kinds.specs.declared.map_op.MapOp.TheVariants as states
use Rattle.rbd_kinds.specs.declared.operation.Op.TheVariants as op
use Rattle.rbd_commands.specs.declared.refusal.Refusal.TheVariants as refusal
use Rattle.rbd_kinds.proofs.Results.{same_refusal}
use Rattle.rbd_kinds.specs.declared.reply.Reply.{Reply}
use Rattle.rbd_kinds.specs.declared.reply.Reply.TheVariants as reply
use Rattle.rbd_kinds.specs.Header.{snap_named}
use Rattle.rbd_machine.specs.Path.{Answered, IsWalk}
use Rattle.rbd_machine.specs.declared.seat.Seat.{Seat}
use Rattle.rbd_machine.specs.Plan.{Return, Goto}
use Rattle.rbd_machine.specs.Refused.{never, by_fence, AreGiven, IsGiven, IsRefusedBy}
use Rattle.rbd_machine.specs.Steps.{on_done, applied, non_primary, on_bits}
use Rattle.rbd_machine.proofs.Lawful.{or_else_none}
use Rattle.rbd_machine.proofs.Refused.{IsRefusing, Answers, EndsBy, ends_by, only_image, refusing_change}
use Rattle.rbd_meaning.specs.Meant.{IsMeantBy}
use Rattle.rbd_meaning.specs.Snaps.{SnapCreateMeans, SnapRemoveMeans, removal_refusal, create_refuses, remove_refuses}
use Rattle.rbd_snap.specs.Snap.{is_snap, on_snap, on_gone, taking_snap, putting, take, unmapping, remove_listed, remove_snap_plan, snap_plan}
use Rattle.rbd_snap.proofs.About.{taking_is_own, removing_is_own}
use Rattle.rbd_snap.proofs.Changes.{takes_one, removes_one}
use Rattle.rbd_snap.proofs.Removed.{removal_stops, refuses_removal}
use Rattle.rbd_image.proofs.Meant.{IsDone}

module _ (site : SiteId) (snap : List ℕ) (image : ℕ) where
  refusing_taken : (a : Answer) → IsGiven (op.Header image (header.SnapAdd snap)) a
      → Answers (create_refuses snap) never IsDone (only_image site image) false site (op.Header image (header.SnapAdd snap)) a (on_snap (applied site image) a)
  refusing_taken (answer.Snap taken) can = inr (λ live may. refl, tt)
  refusing_taken answer.Absent can = inl (record { why = refusal.NoImage; own = inr (inl refl); is = refl; ends = refl; comes = λ was. cc })
  refusing_taken answer.Fenced can = inl (record { why = refusal.Fenced; own = inl refl; is = refl; ends = refl; comes = λ was. cc })
  refusing_taken _ can = let no = can.can.word in cc

  refusing_put : (next : ℕ) (bits : List ℕ) (a : Answer) → IsGiven (op.Map image (states.Put (Some next) bits)) a
      → Answers (create_refuses snap) never IsDone (only_image site image) false site (op.Map image (states.Put (Some next) bits)) a (on_done (taking_snap site snap image (applied site image)) a)
  refusing_put next bits answer.Done can = inr (λ live may. refl, refusing_taken)
  refusing_put next bits answer.Fenced can = inl (record { why = refusal.Fenced; own = inl refl; is = refl; ends = refl; comes = λ was. cc })
  refusing_put next bits _ can = let no = can.can.word in cc

  refusing_copied : (next : ℕ) (a : Answer) → IsGiven (op.Map image (states.Get None)) a
      → Answers (create_refuses snap) never IsDone (only_image site image) false site (op.Map image (states.Get None)) a (on_bits (putting site snap image next (applied site image)) a)
  refusing_copied next (answer.Bits bits) can = inr (λ live may. refl, refusing_put next bits)
  refusing_copied next answer.Absent can = inl (record { why = refusal.NoImage; own = inr (inl refl); is = refl; ends = refl; comes = λ was. cc })
  refusing_copied next answer.Fenced can = inl (record { why = refusal.Fenced; own = inl refl; is = refl; ends = refl; comes = λ was. cc })
  refusing_copied next _ can = let no = can.can.word in cc

  refusing_unmapped : (id : ℕ) (a : Answer) → IsGiven (op.Map image (states.Remove (Some id))) a
      → Answers (remove_refuses snap) by_fence IsDone (only_image site image) true site (op.Map image (states.Remove (Some id))) a (on_gone (applied site image) a)
  refusing_unmapped id answer.Done can = inr (λ live may. refl, tt)
  refusing_unmapped id answer.Absent can = inr (λ live may. refl, tt)
  refusing_unmapped id answer.Fenced can = inl (record { why = refusal.Fenced; own = inl refl; is = refl; ends = refl; comes = λ was. refl })
  refusing_unmapped id _ can = let no = can.can.word in cc

  refusing_removed : (id : ℕ) (a : Answer) → IsGiven (op.Header image (header.SnapRemove id)) a
      → Answers (remove_refuses snap) by_fence IsDone (only_image site image) false site (op.Header image (header.SnapRemove id)) a (on_done (unmapping site image id (applied site image)) a)
  refusing_removed id answer.Done can = inr (λ live may. refl, refusing_unmapped id)
  refusing_removed id answer.Absent can = inl (record { why = refusal.NoImage; own = inr (inl refl); is = refl; ends = refl; comes = λ was. cc })
  refusing_removed id answer.Fenced can = inl (record { why = refusal.Fenced; own = inl refl; is = refl; ends = refl; comes = λ was. refl })
  refusing_removed id _ can = let no = can.can.word in cc

  refusing_remove : (listed : Option SnapView) → removal_refusal listed ≡ None → IsRefusing (remove_refuses snap) by_fence IsDone (only_image site image) false (remove_listed site snap image listed)
  refusing_remove None may = cc
  refusing_remove (Some listed) may = refusing_removed listed.id

taking_means : (site : SiteId) (image snap : List ℕ) (feds : List Fed) (steps : List Answered) (r : Reply) → EndsBy (create_refuses snap) never IsDone [] false steps r
    → IsWalk Goto (snap_plan site (command.SnapCreate image snap)) feds steps (Return r) → SnapCreateMeans site image snap steps r
taking_means site image snap feds steps reply.Done ends walk = takes_one site image snap feds steps walk
taking_means site image snap feds steps (reply.Refused x) (inl granted) walk = absurd granted
taking_means site image snap feds steps (reply.Refused x) (inr (y, same, from)) walk = record {
  own = taking_is_own site image snap feds steps (Return (reply.Refused x)) walk;
  by = subst (IsRefusedBy (create_refuses snap) never steps) (same_refusal x y same) from.by;
}
taking_means site image snap feds steps _ (inl granted) walk = absurd granted
taking_means site image snap feds steps _ (inr (y, same, from)) walk = cc

removing_means : (site : SiteId) (image snap : List ℕ) (feds : List Fed) (steps : List Answered) (r : Reply) → EndsBy (remove_refuses snap) by_fence IsDone [] false steps r
    → IsWalk Goto (snap_plan site (command.SnapRemove image snap)) feds steps (Return r) → SnapRemoveMeans site image snap steps r
removing_means site image snap feds steps reply.Done ends walk = removes_one site image snap feds steps walk
removing_means site image snap feds steps (reply.Refused x) (inl granted) walk = absurd granted
removing_means site image snap feds steps (reply.Refused x) (inr (y, same, from)) walk =
    refuses_removal site image snap steps x (removing_is_own site image snap feds steps (Return (reply.Refused x)) walk)
    (subst (IsRefusedBy (remove_refuses snap) by_fence steps) (same_refusal x y same) from.by)
    (removal_stops x site image snap feds steps walk)
removing_means site image snap feds steps _ (inl granted) walk = absurd granted
removing_means site image snap feds steps _ (inr (y, same, from)) walk = cc

pub snap_means : (seat : Seat) (c : Command) (feds : List Fed) (steps : List Answered) (r : Reply) → is_snap c ≡ true → AreGiven steps
    → IsWalk Goto (snap_plan seat.home c) feds steps (Return r) → IsMeantBy seat c steps r
snap_means seat (command.SnapCreate image snap) feds steps r is given walk =
    taking_means seat.home image snap feds steps r
    (ends_by (create_refuses snap) never IsDone feds [] false (snap_plan seat.home (command.SnapCreate image snap)) steps r
    (refusing_change (create_refuses snap) never IsDone seat.home image sharing.Alone (take seat.home snap) (λ i h may. refusing_copied seat.home snap i (h.snap_seq + 1))) given walk) walk
snap_means seat (command.SnapRemove image snap) feds steps r is given walk =
    removing_means seat.home image snap feds steps r
    (ends_by (remove_refuses snap) by_fence IsDone feds [] false (snap_plan seat.home (command.SnapRemove image snap)) steps r
    (refusing_change (remove_refuses snap) by_fence IsDone seat.home image sharing.Alone (remove_snap_plan seat.home snap) (λ i h may.
    refusing_remove seat.home snap i (snap_named h.snaps snap) (or_else_none (non_primary h.role) _ may))) given walk) walk
snap_means seat _ feds steps r is given walk = cc
