-- What a `snap rm` has done when it is refused, step by step.
use Rattle.std.proofs.Common.{◌≡◌, ◌⊎◌, inl, inr, ℕ, List, [], ◌∷◌, ◌++◌, Option, Some, None, refl, ap, sym, subst, ◌∙◌}
use Rattle.rbd_kinds.specs.declared.sharing.Sharing.TheVariants as sharing
use Rattle.rbd_kinds.specs.declared.answer.Answer.{Answer}
use Rattle.rbd_kinds.specs.declared.answer.Answer.TheVariants as answer
use Rattle.rbd_commands.specs.declared.command.Command.TheVariants as command
use Rattle.rbd_kinds.specs.declared.header.HeaderView.{HeaderView}
use Rattle.rbd_kinds.specs.declared.header.SnapView.{SnapView}
use Rattle.rbd_kinds.specs.declared.header_op.HeaderOp.TheVariants as header
use Rattle.rbd_kinds.specs.declared.id.SiteId.{SiteId}
use Rattle.rbd_kinds.specs.declared.journal.JournalEvent.TheVariants as event
use Rattle.rbd_kinds.specs.declared.machine.Fed.{Fed}
use Rattle.rbd_kinds.specs.declared.map_op.MapOp.TheVariants as states
use Rattle.rbd_kinds.specs.declared.operation.Op.{Op}
use Rattle.rbd_kinds.specs.declared.operation.Op.TheVariants as op
use Rattle.rbd_commands.specs.declared.refusal.Refusal.{Refusal}
use Rattle.rbd_commands.specs.declared.refusal.Refusal.TheVariants as refusal
use Rattle.rbd_kinds.specs.declared.reply.Reply.TheVariants as reply
use Rattle.rbd_kinds.specs.Header.{snap_named}
use Rattle.rbd_machine.specs.About.{AreOwn, look_up}
use Rattle.rbd_machine.specs.Path.{Answered, IsWalk, found, looked_at}
use Rattle.rbd_machine.specs.Plan.{Plan, Return, Goto}
use Rattle.rbd_machine.specs.Refused.{by_fence, AreLooks, IsRefusedBy}
use Rattle.rbd_machine.specs.Steps.{on_id, on_header, on_done, unless, joining, looking, looked, holding, under_lock, owned, applied}
use Rattle.rbd_machine.specs.Wait as wait
use Rattle.rbd_machine.specs.declared.reason.Reason.TheVariants as reason
use Rattle.rbd_machine.proofs.Walked.{ended, absent_ends, asked_to, awaited_to, noted_to}
use Rattle.rbd_meaning.specs.Snaps.{remove_refuses, snap_removed, RemovesListed, RefusesRemoval}
use Rattle.rbd_meaning.proofs.Ends.{same_front}
use Rattle.rbd_snap.specs.Snap.{on_gone, unmapping, removing, remove_listed, remove_snap_plan, snap_plan}

-- up to a last operation it had only looked, or removed the snapshot
pub record Stops (site : SiteId) (name snap : List ℕ) (steps : List Answered) : Type 0 where
  pub before : List Answered
  pub last : Answered
  pub are : steps ≡ before ++ last ∷ []
  pub so_far : AreLooks before ⊎ RemovesListed site name snap before

module _ (x : Refusal) (site : SiteId) (name snap : List ℕ) where
  abbrev Refused : Plan
  Refused = Return (reply.Refused x)

  abbrev refuses : HeaderView → Option Refusal
  refuses = remove_refuses snap

  abbrev act : ℕ → HeaderView → Plan
  act = remove_snap_plan site snap

  abbrev asked : Op → Answer → Answered
  asked o a = record { site = site; op = o; answer = a }

  -- it stops at an operation behind which nothing came
  stop : (before : List Answered) (last : Answered) (rest steps : List Answered) → steps ≡ before ++ last ∷ rest → rest ≡ [] → AreLooks before ⊎ RemovesListed site name snap before
      → Stops site name snap steps
  stop before last rest steps are none so_far = record { before = before; last = last; are = are ∙ ap (λ r. before ++ last ∷ r) none; so_far = so_far }

  refused_ends : (y : Refusal) (feds : List Fed) (steps : List Answered) → IsWalk Goto (Return (reply.Refused y)) feds steps Refused → steps ≡ []
  refused_ends y feds steps walk = (ended (reply.Refused y) feds steps Refused walk).0

  -- ---- behind the looks

  applied_isnt_refused : (image : ℕ) (feds : List Fed) (steps : List Answered) → IsWalk Goto (applied site image) feds steps Refused → ⊥
  applied_isnt_refused image feds steps walk =
      let a = awaited_to (reply.Refused x) (wait.Applied site image) (Return reply.Done) feds steps walk in
      let other : Refused ≡ Return reply.Done = (ended reply.Done a.more steps Refused a.walk).1 in
      cc

  module _ (image : ℕ) (first own : HeaderView) (may_wait : refuses first ≡ None) (may : refuses own ≡ None) (steps : List Answered) where
    abbrev looks : List Answered → List Answered
    looks rest = found site name image ∷ looked_at site image first ∷ looked_at site image own ∷ rest

    unmapping_stops : (listed : SnapView) → snap_named own.snaps snap ≡ Some listed → (feds : List Fed) (rest : List Answered) → steps ≡ looks (snap_removed site image listed.id ∷ rest)
        → IsWalk Goto (unmapping site image listed.id (applied site image)) feds rest Refused → Stops site name snap steps
    unmapping_stops listed is feds rest are walk =
        let u = asked_to (reply.Refused x) site reason.Own (op.Map image (states.Remove (Some listed.id))) (on_gone (applied site image)) feds rest walk in
        stop (looks (snap_removed site image listed.id ∷ [])) _ u.rest steps (are ∙ ap (λ r. looks (snap_removed site image listed.id ∷ r)) u.are) (go u.answer u.more u.rest u.walk)
        (inr (record { image = image; first = first; own = own; may_wait = may_wait; may = may; listed = listed; is_listed = is; are = refl }))
      where
        go : (a : Answer) (more : List Fed) (last : List Answered) → IsWalk Goto (on_gone (applied site image) a) more last Refused → last ≡ []
        go answer.Done more last w = absurd (applied_isnt_refused image more last w)
        go answer.Absent more last w = absurd (applied_isnt_refused image more last w)
        go a more last w = absent_ends a more last Refused w

    removing_stops : (listed : Option SnapView) → snap_named own.snaps snap ≡ listed → (feds : List Fed) (rest : List Answered) → steps ≡ looks rest
        → IsWalk Goto (remove_listed site snap image listed) feds rest Refused → Stops site name snap steps
    removing_stops None is feds rest are walk = stop (found site name image ∷ looked_at site image first ∷ []) (looked_at site image own) rest steps are (refused_ends refusal.NoSnap feds rest walk) (inl (refl, (refl, tt)))
    removing_stops (Some listed) is feds rest are walk =
        let n = noted_to (reply.Refused x) site image (event.SnapRemove snap) (removing site image listed.id (applied site image)) feds rest walk in
        let w = asked_to (reply.Refused x) site reason.Own (op.Header image (header.SnapRemove listed.id)) (on_done (unmapping site image listed.id (applied site image))) n.more rest n.walk in
        go w.answer w.more w.rest (are ∙ ap looks w.are) w.walk
      where
        go : (a : Answer) (more : List Fed) (last : List Answered) → steps ≡ looks (asked (op.Header image (header.SnapRemove listed.id)) a ∷ last)
            → IsWalk Goto (on_done (unmapping site image listed.id (applied site image)) a) more last Refused → Stops site name snap steps
        go answer.Done more last are w = unmapping_stops listed is more last are w
        go a more last are w = stop (looks []) _ last steps are (absent_ends a more last Refused w) (inl (refl, (refl, (refl, tt))))

  -- ---- the looks

  own_stops : (image : ℕ) (first own : HeaderView) → refuses first ≡ None → (feds : List Fed) (rest steps : List Answered)
      → steps ≡ found site name image ∷ looked_at site image first ∷ looked_at site image own ∷ rest
      → (r : Option Refusal) → refuses own ≡ r → IsWalk Goto (unless r (act image own)) feds rest Refused → Stops site name snap steps
  own_stops image first own may_wait feds rest steps are (Some y) is walk =
      stop (found site name image ∷ looked_at site image first ∷ []) (looked_at site image own) rest steps are (refused_ends y feds rest walk) (inl (refl, (refl, tt)))
  own_stops image first own may_wait feds rest steps are None may walk = removing_stops image first own may_wait may steps (snap_named own.snaps snap) refl feds rest are walk

  look_stops : (image : ℕ) (first : HeaderView) (feds : List Fed) (rest steps : List Answered) → steps ≡ found site name image ∷ looked_at site image first ∷ rest
      → (r : Option Refusal) → refuses first ≡ r → IsWalk Goto (unless r (holding site refuses act image)) feds rest Refused → Stops site name snap steps
  look_stops image first feds rest steps are (Some y) is walk = stop (found site name image ∷ []) (looked_at site image first) rest steps are (refused_ends y feds rest walk) (inl (refl, tt))
  look_stops image first feds rest steps are None may_wait walk =
      let l = awaited_to (reply.Refused x) (wait.Hold site image) (under_lock site refuses act image) feds rest walk in
      let o = asked_to (reply.Refused x) site reason.Own (op.Header image header.Get) (on_header (owned refuses act image)) l.more rest l.walk in
      go o.answer o.more o.rest (are ∙ ap (λ s. found site name image ∷ looked_at site image first ∷ s) o.are) o.walk
    where
      go : (a : Answer) (more : List Fed) (last : List Answered) → steps ≡ found site name image ∷ looked_at site image first ∷ asked (op.Header image header.Get) a ∷ last
          → IsWalk Goto (on_header (owned refuses act image) a) more last Refused → Stops site name snap steps
      go (answer.Header own) more last are w = own_stops image first own may_wait more last steps are (refuses own) refl w
      go a more last are w = stop (found site name image ∷ looked_at site image first ∷ []) _ last steps are (absent_ends a more last Refused w) (inl (refl, (refl, tt)))

  found_stops : (image : ℕ) (feds : List Fed) (rest steps : List Answered) → steps ≡ found site name image ∷ rest
      → IsWalk Goto (joining site sharing.Alone refuses act image) feds rest Refused → Stops site name snap steps
  found_stops image feds rest steps are walk =
      let j = awaited_to (reply.Refused x) (wait.Join site image sharing.Alone) (looking site refuses act image) feds rest walk in
      let v = asked_to (reply.Refused x) site reason.Own (op.Header image header.Get) (on_header (looked site refuses act image)) j.more rest j.walk in
      go v.answer v.more v.rest (are ∙ ap (λ s. found site name image ∷ s) v.are) v.walk
    where
      go : (a : Answer) (more : List Fed) (last : List Answered) → steps ≡ found site name image ∷ asked (op.Header image header.Get) a ∷ last
          → IsWalk Goto (on_header (looked site refuses act image) a) more last Refused → Stops site name snap steps
      go (answer.Header first) more last are w = look_stops image first more last steps are (refuses first) refl w
      go a more last are w = stop (found site name image ∷ []) _ last steps are (absent_ends a more last Refused w) (inl (refl, tt))

  pub removal_stops : (feds : List Fed) (steps : List Answered) → IsWalk Goto (snap_plan site (command.SnapRemove name snap)) feds steps Refused → Stops site name snap steps
  removal_stops feds steps walk =
      let w = asked_to (reply.Refused x) site reason.Own (look_up name) (on_id (joining site sharing.Alone refuses act)) feds steps walk in
      go w.answer w.more w.rest w.are w.walk
    where
      go : (a : Answer) (more : List Fed) (rest : List Answered) → steps ≡ asked (look_up name) a ∷ rest → IsWalk Goto (on_id (joining site sharing.Alone refuses act) a) more rest Refused → Stops site name snap steps
      go (answer.Id image) more rest are w = found_stops image more rest steps are w
      go a more rest are w = stop [] _ rest steps are (absent_ends a more rest Refused w) (inl tt)

-- ---- where it was refused

pub refuses_removal : (site : SiteId) (name snap : List ℕ) (steps : List Answered) (x : Refusal) → AreOwn site (look_up name) steps → IsRefusedBy (remove_refuses snap) by_fence steps x
    → Stops site name snap steps → RefusesRemoval site name snap steps x
refuses_removal site name snap steps x own by stops = record {
  refused = record { own = own; by = by };
  so_far =
      subst (λ before. AreLooks before ⊎ RemovesListed site name snap before)
      (same_front stops.before by.before stops.last by.last (sym stops.are ∙ by.are)) stops.so_far;
}
