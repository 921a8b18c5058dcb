-- The plans do what they may.
use Rattle.std.proofs.Common.{◌≡◌, ◌≢◌, ◌⊎◌, inl, inr, ℕ, ◌+◌, ◌<◌, ◌≤◌, List, [], ◌∷◌, Bool, true, false, cond, eqb, Option, Some, None, refl, ap, ◌∙◌, subst, arith}
use Rattle.std.specs.Prelude.{nat_eq}
use Rattle.std.specs.Cmp.Lexicographic.{pointwise}
use Rattle.std.proofs.lemmas.Bool.Decides.{eqb_tells}
use Rattle.rbd_kinds.specs.declared.sharing.Sharing.TheVariants as sharing
use Rattle.rbd_kinds.specs.declared.answer.Answer.{Answer}
use Rattle.rbd_kinds.specs.declared.answer.Answer.TheVariants as answer
use Rattle.rbd_commands.specs.declared.command.Command.{Command}
use Rattle.rbd_commands.specs.declared.command.Command.TheVariants as command
use Rattle.rbd_kinds.specs.declared.header.HeaderView.{HeaderView}
use Rattle.rbd_kinds.specs.declared.header.SnapView.{SnapView}
use Rattle.rbd_kinds.specs.declared.header_op.HeaderOp.TheVariants as header
use Rattle.rbd_kinds.specs.declared.id.SiteId.{SiteId}
use Rattle.rbd_kinds.specs.declared.map_op.MapOp.TheVariants as states
use Rattle.rbd_kinds.specs.declared.operation.Op.TheVariants as op
use Rattle.rbd_kinds.specs.Form.{RiseFrom, AreRising, IsHeaderInForm}
use Rattle.rbd_kinds.specs.Header.{snap_named}
use Rattle.rbd_kinds.specs.States.{HoldStates}
use Rattle.rbd_kinds.proofs.Images.{at_itself}
use Rattle.rbd_header.specs.Header.{snap_in, without_snap}
use Rattle.rbd_header.proofs.Changed.{removed_is_unlisted}
use Rattle.rbd_machine.specs.Knowledge.{Knowledge, MapsKnown, nothing_known, own_of, learned, maps_of}
use Rattle.rbd_machine.specs.Label.{Label}
use Rattle.rbd_machine.specs.Lawful.{IsLawful}
use Rattle.rbd_machine.specs.Plan.{Plan}
use Rattle.rbd_machine.specs.Steps.{applied, non_primary}
use Rattle.rbd_machine.proofs.Lawful.{or_else_none, own_at, under_lock_known, own_is_found, lawful_not_there, lawful_on_done, lawful_change, told_first}
use Rattle.rbd_meaning.specs.Snaps.{removal_refusal, create_refuses, remove_refuses, IsGone}
use Rattle.rbd_meaning.proofs.Allowed.{may_take, unprotected}
use Rattle.rbd_snap.specs.Snap.{on_snap, on_gone, taking_snap, putting, copying, take, unmapping, removing, remove_listed, remove_snap_plan, snap_plan}
use Rattle.rbd_image.proofs.Lawful.{lawful_on_bits}

-- ---- snapshots by name and by id

named_first : (u : SnapView) (snaps : List SnapView) (name : List ℕ) (s : SnapView)
    → (snap_named snaps name ≡ Some s → (u.id < s.id) × (snap_in snaps s.id ≡ Some s))
    → snap_named (u ∷ snaps) name ≡ Some s → (u.id ≤ s.id) × (snap_in (u ∷ snaps) s.id ≡ Some s)
named_first u snaps name s later is = go (pointwise nat_eq u.name name) is
  where
    itself : ((eqb u.id u.id ≡ true) × (u.id ≡ u.id)) ⊎ ((eqb u.id u.id ≡ false) × (u.id ≢ u.id)) → snap_in (u ∷ snaps) u.id ≡ Some u
    itself (inl same) = ap (λ b. cond b (Some u) (snap_in snaps u.id)) same.0
    itself (inr other) = absurd (other.1 refl)

    behind : (u.id < s.id) × (snap_in snaps s.id ≡ Some s) → ((eqb u.id s.id ≡ true) × (u.id ≡ s.id)) ⊎ ((eqb u.id s.id ≡ false) × (u.id ≢ s.id)) → (u.id ≤ s.id) × (snap_in (u ∷ snaps) s.id ≡ Some s)
    behind (less, there) (inl same) = let e = same.1 in absurd (omega (arith, less, e))
    behind (less, there) (inr other) = (omega (arith, less), ap (λ b. cond b (Some u) (snap_in snaps s.id)) other.0 ∙ there)

    go : (b : Bool) → cond b (Some u) (snap_named snaps name) ≡ Some s → (u.id ≤ s.id) × (snap_in (u ∷ snaps) s.id ≡ Some s)
    go true this = let same : u ≡ s = cc in subst (λ (t : SnapView). (u.id ≤ t.id) × (snap_in (u ∷ snaps) t.id ≡ Some t)) same (let le : u.id ≤ u.id = omega arith in le, itself (eqb_tells u.id u.id))
    go false rest = behind (later rest) (eqb_tells u.id s.id)

named_above : (snaps : List SnapView) (below most : ℕ) (name : List ℕ) (s : SnapView) → RiseFrom below most snaps → snap_named snaps name ≡ Some s → (below < s.id) × (snap_in snaps s.id ≡ Some s)
named_above [] below most name s rise is = cc
named_above (u ∷ snaps) below most name s (above, rise) is =
    let first = named_first u snaps name s (named_above snaps u.id most name s rise) is in
    (let le = first.0 in omega (arith, above, le), first.1)

-- the snapshot of a name is the one of its id
named_by_id : (snaps : List SnapView) (most : ℕ) (name : List ℕ) (s : SnapView) → AreRising most snaps → snap_named snaps name ≡ Some s → snap_in snaps s.id ≡ Some s
named_by_id [] most name s rise is = cc
named_by_id (u ∷ snaps) most name s rise is = (named_first u snaps name s (named_above snaps u.id most name s rise) is).1

-- ---- what is known, step by step

-- the head's states were told
abbrev told_known : SiteId → (image : ℕ) → HeaderView → (bits : List ℕ) → Knowledge
told_known site image h bits = learned (under_lock_known sharing.Alone None site image h) site (op.Map image (states.Get None)) (answer.Bits bits)

-- and put as the map of the next snapshot
abbrev put_known : SiteId → (image : ℕ) → HeaderView → (bits : List ℕ) → Knowledge
put_known site image h bits = learned (told_known site image h bits) site (op.Map image (states.Put (Some (h.snap_seq + 1)) bits)) answer.Done

-- a snapshot was removed
abbrev removed_known : SiteId → (image id : ℕ) → HeaderView → Knowledge
removed_known site image id h = learned (under_lock_known sharing.Alone None site image h) site (op.Header image (header.SnapRemove id)) answer.Done

-- a snapshot was taken
abbrev taken_known : SiteId → (snap : List ℕ) → (image : ℕ) → HeaderView → (bits : List ℕ) → (taken : ℕ) → Knowledge
taken_known site snap image h bits taken = learned (put_known site image h bits) site (op.Header image (header.SnapAdd snap)) (answer.Snap taken)

-- the map of one that was removed is gone
abbrev unmapped_known : SiteId → (image id : ℕ) → HeaderView → (gone : Answer) → Knowledge
unmapped_known site image id h gone = learned (removed_known site image id h) site (op.Map image (states.Remove (Some id))) gone

own_is_changed : (site : SiteId) (image id : ℕ) (h : HeaderView) → own_of (removed_known site image id h).owns site image ≡ Some (own_at sharing.Alone site image (without_snap id h))
own_is_changed site image id h =
    ap (λ b. own_of (cond b (own_at sharing.Alone site image (without_snap id h)) (own_at sharing.Alone site image h) ∷ []) site image) (at_itself site image)
    ∙ own_is_found sharing.Alone None site image (without_snap id h)

module _ (at : Label → Knowledge) where
  lawful_on_snap : (known : Answer → Knowledge) (next : Plan) → ((taken : ℕ) → IsLawful at (known (answer.Snap taken)) next) → (a : Answer) → IsLawful at (known a) (on_snap next a)
  lawful_on_snap known next lawful (answer.Snap taken) = lawful taken
  lawful_on_snap known next lawful a = lawful_not_there at (known a) a

  lawful_on_gone : (known : Answer → Knowledge) (next : Plan) → ((gone : Answer) → IsGone gone → IsLawful at (known gone) next) → (a : Answer) → IsLawful at (known a) (on_gone next a)
  lawful_on_gone known next lawful answer.Done = lawful answer.Done tt
  lawful_on_gone known next lawful answer.Absent = lawful answer.Absent tt
  lawful_on_gone known next lawful a = lawful_not_there at (known a) a

  lawful_taking : (site : SiteId) (snap : List ℕ) (image : ℕ) (h : HeaderView) (bits : List ℕ) (next : Plan) → create_refuses snap h ≡ None
      → ((taken : ℕ) → IsLawful at (taken_known site snap image h bits taken) next) → IsLawful at (put_known site image h bits) (taking_snap site snap image next)
  lawful_taking site snap image h bits next may lawful = (
    record {
      sharing = sharing.Alone;
      header = h;
      is = own_is_found sharing.Alone None site image h;
      meets = (refl, may_take (maps_of (put_known site image h bits).maps site image) snap h may (ap (λ (m : MapsKnown). m.put) (told_first site image _ (told_known site image h bits).maps)));
    },
    λ a can. lawful_on_snap (learned (put_known site image h bits) site (op.Header image (header.SnapAdd snap))) next lawful a,
  )

  lawful_putting : (site : SiteId) (snap : List ℕ) (image : ℕ) (h : HeaderView) (bits : List ℕ) (next : Plan) → create_refuses snap h ≡ None → HoldStates bits
      → ((taken : ℕ) → IsLawful at (taken_known site snap image h bits taken) next) → IsLawful at (told_known site image h bits) (putting site snap image (h.snap_seq + 1) next bits)
  lawful_putting site snap image h bits next may hold lawful = (
    record {
      sharing = sharing.Alone;
      header = h;
      is = own_is_found sharing.Alone None site image h;
      meets = (refl, record { next = refl; told = ap (λ (m : MapsKnown). m.states) (told_first site image _ (under_lock_known sharing.Alone None site image h).maps); hold = hold });
    },
    λ a can. lawful_on_done at (learned (told_known site image h bits) site (op.Map image (states.Put (Some (h.snap_seq + 1)) bits))) (taking_snap site snap image next) (lawful_taking site snap image h bits next may lawful) a,
  )

  -- the part that takes a snapshot, by the look under the lock
  lawful_copying : (site : SiteId) (snap : List ℕ) (image : ℕ) (h : HeaderView) (next : Plan) → create_refuses snap h ≡ None
      → ((bits : List ℕ) (taken : ℕ) → IsLawful at (taken_known site snap image h bits taken) next)
      → IsLawful at (under_lock_known sharing.Alone None site image h) (copying site snap image (h.snap_seq + 1) next)
  lawful_copying site snap image h next may lawful = (
    tt,
    lawful_on_bits at (under_lock_known sharing.Alone None site image h) site (learned (under_lock_known sharing.Alone None site image h) site (op.Map image (states.Get None))) image (putting site snap image (h.snap_seq + 1) next)
        (λ bits hold. lawful_putting site snap image h bits next may hold (lawful bits)),
  )

  lawful_unmapping : (site : SiteId) (image id : ℕ) (h : HeaderView) (next : Plan) → ((gone : Answer) → IsGone gone → IsLawful at (unmapped_known site image id h gone) next)
      → IsLawful at (removed_known site image id h) (unmapping site image id next)
  lawful_unmapping site image id h next lawful = (
    inr (record { sharing = sharing.Alone; header = without_snap id h; is = own_is_changed site image id h; meets = (refl, removed_is_unlisted h.snaps id) }),
    λ a can. lawful_on_gone (learned (removed_known site image id h) site (op.Map image (states.Remove (Some id)))) next lawful a,
  )

  -- the part that removes a snapshot, by the look under the lock
  lawful_removing : (site : SiteId) (image : ℕ) (h : HeaderView) (listed : SnapView) (next : Plan) → snap_in h.snaps listed.id ≡ Some listed → removal_refusal (Some listed) ≡ None
      → ((gone : Answer) → IsGone gone → IsLawful at (unmapped_known site image listed.id h gone) next)
      → IsLawful at (under_lock_known sharing.Alone None site image h) (removing site image listed.id next)
  lawful_removing site image h listed next is may lawful = (
    record {
      sharing = sharing.Alone;
      header = h;
      is = own_is_found sharing.Alone None site image h;
      meets = (refl, record { view = listed; listed = is; unprotected = unprotected listed.status may });
    },
    λ a can. lawful_on_done at (learned (under_lock_known sharing.Alone None site image h) site (op.Header image (header.SnapRemove listed.id))) (unmapping site image listed.id next)
        (lawful_unmapping site image listed.id h next lawful) a,
  )

  lawful_remove_listed : (site : SiteId) (snap : List ℕ) (image : ℕ) (h : HeaderView) → IsHeaderInForm h → (listed : Option SnapView)
      → snap_named h.snaps snap ≡ listed → removal_refusal listed ≡ None → IsLawful at (under_lock_known sharing.Alone None site image h) (remove_listed site snap image listed)
  lawful_remove_listed site snap image h form None is may = tt
  lawful_remove_listed site snap image h form (Some listed) is may =
      lawful_removing site image h listed (applied site image) (named_by_id h.snaps h.snap_seq snap listed form.rising is) may (λ gone is_gone. tt)

  pub lawful_snap : (site : SiteId) (c : Command) → IsLawful at nothing_known (snap_plan site c)
  lawful_snap site (command.SnapCreate image snap) =
      lawful_change at site image sharing.Alone (create_refuses snap) (take site snap) (λ i h form may.
      lawful_copying site snap i h (applied site i) may (λ bits taken. tt))
  lawful_snap site (command.SnapRemove image snap) =
      lawful_change at site image sharing.Alone (remove_refuses snap) (remove_snap_plan site snap) (λ i h form may.
      lawful_remove_listed site snap i h form (snap_named h.snaps snap) refl (or_else_none (non_primary h.role) _ may))
  lawful_snap site _ = tt
