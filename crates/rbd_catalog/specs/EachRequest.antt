-- What holds of each kind of request holds of the request of each command: a lemma that the laws of
-- an `impl` cite. So those over all commands don't go through them one by one.
use Rattle.std.proofs.Common.{◌≡◌, ◌↔◌, refl, sym, ◌∙◌, subst, ap, ℕ, true, false, Bool, cond, List, Option, Some, None, is_some}
use Rattle.rbd_commands.specs.declared.command.Command.{Command}
use Rattle.rbd_commands.specs.declared.command.Command.TheVariants as command
use Rattle.rbd_commands.specs.declared.command.Shape.{Shape}
use Rattle.rbd_commands.specs.declared.refusal.Refusal.TheVariants as refusal
use Rattle.rbd_header.specs.Header.{new_header}
use Rattle.rbd_kinds.specs.declared.id.SiteId.{SiteId}
use Rattle.rbd_layout.specs.Asked.{KeepsLimits, layout_of}
use Rattle.rbd_machine.specs.Plan.{Plan, Standing, without_labels}
use Rattle.rbd_machine.specs.Steps.{refused}
use Rattle.rbd_machine.specs.declared.seat.Seat.{Seat}
use Rattle.rbd_meaning.specs.Count.{object_count}
use Rattle.rbd_meaning.specs.Straight.{Straight, straight_of}
use Rattle.rbd_meaning.proofs.Counts.{counts, one_count}
use Rattle.rbd_image.specs.Create.{IsCreate, IsCreatePlan, drawing}
use Rattle.rbd_image.specs.Listing.{is_listing, listing_plan}
use Rattle.rbd_snap.specs.Snap.{is_snap, snap_plan}
use Rattle.rbd_session.specs.Close.{is_close, close_plan, straight_plan}
use Rattle.rbd_data.specs.Discard.{is_discard, discard_plan}
use Rattle.rbd_image.specs.Remove.{is_remove, remove_plan}
use Rattle.rbd_data.specs.Read.{IsReadOf, is_read}
use Rattle.rbd_data.specs.Write.{is_write, write_plan}
use Rattle.rbd_image.specs.Resize.{is_resize, resize_plan}
use Rattle.rbd_snap.specs.Rollback.{is_rollback, rollback_plan}
use Rattle.rbd_catalog.specs.Limits.{limits_are_told}
use Rattle.rbd_catalog.specs.Plans.{IsPlanFor, create_at, keeps_limits, planned, planned_straight}

pub same_some : (s t : Standing) → Some s ≡ Some t → s ≡ t
same_some s t is = cc

pub stands_at : (plan : Plan) (s : Standing) → planned plan ≡ Some s → s ≡ without_labels plan
stands_at plan s is = sym (same_some (without_labels plan) s is)

-- what holds of a request at its plan holds of the request of its command
pub of_plan : (P : Standing → Type 0) (plan : Plan) (s : Standing) → planned plan ≡ Some s → P (without_labels plan)
    → P s
of_plan P plan s is holds = subst P (same_some (without_labels plan) s is) holds

-- ---- create

module _ (site : SiteId) (name : List ℕ) (size : ℕ) (shape : Shape) where
  abbrev drawn : Plan
  drawn = drawing site name (object_count (layout_of shape) size) (new_header (layout_of shape) size)

  abbrev created : Plan
  created = create_at site name size (layout_of shape)

  limits : (keeps_limits (layout_of shape) size ≡ true) ↔ KeepsLimits (layout_of shape) size
  limits = limits_are_told (layout_of shape) size

  -- inside the limits it draws an id, and outside of them it is refused
  inside : KeepsLimits (layout_of shape) size → created ≡ drawn
  inside keeps = ap (λ b. cond b drawn (refused refusal.BadShape)) (limits.1 keeps)

  outside : (KeepsLimits (layout_of shape) size → ⊥) → created ≡ refused refusal.BadShape
  outside fails = by (keeps_limits (layout_of shape) size) refl
    where
      by : (b : Bool) → keeps_limits (layout_of shape) size ≡ b
          → cond b drawn (refused refusal.BadShape) ≡ refused refusal.BadShape
      by false is = refl
      by true is = absurd (fails (limits.0 is))

  pub is_create : shape.journal ≡ false → IsCreate site name size shape created
  is_create plain = record {
    plain = plain;
    outside = outside;
    objects = object_count (layout_of shape) size;
    counted = λ keeps. counts (layout_of shape) size keeps.is_layout;
    within = inside;
  }

  -- and there is no other, since a size has one number of objects
  pub one_create : (plan : Plan) → IsCreate site name size shape plan → plan ≡ created
  one_create plan is = by (keeps_limits (layout_of shape) size) refl
    where
      fails : keeps_limits (layout_of shape) size ≡ false → KeepsLimits (layout_of shape) size → ⊥
      fails told keeps = let no : true ≡ false = sym (limits.1 keeps) ∙ told in cc

      by : (b : Bool) → keeps_limits (layout_of shape) size ≡ b → plan ≡ created
      by true told =
          let keeps = limits.0 told in
          let same = one_count (layout_of shape) size is.objects (object_count (layout_of shape) size)
          (is.counted keeps) (counts (layout_of shape) size keeps.is_layout) in
          is.within keeps ∙ ap (λ objects. drawing site name objects (new_header (layout_of shape) size)) same ∙ sym
          (inside keeps)
      by false told = is.outside (fails told) ∙ sym (outside (fails told))

pub of_create : (P : Standing → Type 0) (seat : Seat) (name : List ℕ) (size : ℕ) (shape : Shape) (s : Standing)
    → ((plan : Plan) → IsCreate seat.home name size shape plan → P (without_labels plan))
    → IsPlanFor seat (command.Create name size shape) s → P s
of_create P seat name size shape s holds is = by shape.journal refl is
  where
    by : (b : Bool) → shape.journal ≡ b → cond b None (planned (create_at seat.home name size (layout_of shape)))
        ≡ Some s → P s
    by true journal told = cc
    by false plain told =
        of_plan P (create_at seat.home name size (layout_of shape)) s told
        (holds (create_at seat.home name size (layout_of shape)) (is_create seat.home name size shape plain))

-- ---- each request

pub is_one_read : (home : SiteId) (c : Command) (s : Standing) → IsReadOf home c s → is_read c ≡ true
is_one_read home (command.Read image snap at len) s is = refl
is_one_read home _ s is = absurd is

module _ (seat : Seat) (P : Command → Standing → Type 0) where
  -- of the requests of some commands, at their plans
  abbrev Of : (serves : Command → Bool) → (plan : Command → Plan) → Type 0
  Of serves plan = (c : Command) → serves c ≡ true → P c (without_labels (plan c))

  pub record HoldsOfEach : Type 0 where
    pub writes : Of is_write (write_plan seat.home)
    pub discards : Of is_discard (discard_plan seat.home)
    pub reads : (c : Command) (s : Standing) → IsReadOf seat.home c s → P c s
    pub creates : (c : Command) (plan : Plan) → IsCreatePlan seat.home c plan → P c (without_labels plan)
    pub lists : Of is_listing (listing_plan seat.home)
    pub snaps : Of is_snap (snap_plan seat.home)
    pub resizes : Of is_resize (resize_plan seat.home)
    pub rollbacks : Of is_rollback (rollback_plan seat.home)
    pub removes : Of is_remove (remove_plan seat.home seat.session)
    pub closes : Of is_close (close_plan seat.home)

  of : (serves : Command → Bool) (plan : Command → Plan) → Of serves plan → (c : Command) (s : Standing)
      → serves c ≡ true → planned (plan c) ≡ Some s → P c s
  of serves plan holds c s served is = of_plan (P c) (plan c) s is (holds c served)

  is_row : (o : Option Straight) (s : Standing) → planned_straight seat.home o ≡ Some s → is_some o ≡ true
  is_row None s is = cc
  is_row (Some row) s is = refl

  row_plan : (o : Option Straight) (s : Standing) → planned_straight seat.home o ≡ Some s
      → planned (straight_plan seat.home o) ≡ Some s
  row_plan None s is = cc
  row_plan (Some row) s is = is

  pub of_command : HoldsOfEach → (c : Command) (s : Standing) → IsPlanFor seat c s → P c s
  of_command each (command.Write image at bytes) s is = of is_write (write_plan seat.home) each.writes
      (command.Write image at bytes) s refl is
  of_command each (command.Fill image at len byte) s is = of is_write (write_plan seat.home) each.writes
      (command.Fill image at len byte) s refl is
  of_command each (command.Discard image at len) s is = of is_discard (discard_plan seat.home) each.discards
      (command.Discard image at len) s refl is
  of_command each (command.Read image snap at len) s is = each.reads (command.Read image snap at len) s
      (sym (same_some _ s is))
  of_command each (command.Create image size shape) s is =
      of_create (P (command.Create image size shape)) seat image size shape s
      (λ plan creates. each.creates (command.Create image size shape) plan creates) is
  of_command each command.List s is = of is_listing (listing_plan seat.home) each.lists command.List s refl is
  of_command each (command.Info image) s is = of is_listing (listing_plan seat.home) each.lists
      (command.Info image) s refl is
  of_command each (command.Used image) s is = of is_listing (listing_plan seat.home) each.lists
      (command.Used image) s refl is
  of_command each (command.Rename from to) s is = of is_listing (listing_plan seat.home) each.lists
      (command.Rename from to) s refl is
  of_command each (command.Resize image size) s is = of is_resize (resize_plan seat.home) each.resizes
      (command.Resize image size) s refl is
  of_command each (command.Remove image) s is = of is_remove (remove_plan seat.home seat.session) each.removes
      (command.Remove image) s refl is
  of_command each (command.SnapCreate image snap) s is = of is_snap (snap_plan seat.home) each.snaps
      (command.SnapCreate image snap) s refl is
  of_command each (command.SnapRemove image snap) s is = of is_snap (snap_plan seat.home) each.snaps
      (command.SnapRemove image snap) s refl is
  of_command each (command.SnapRollback image snap) s is = of is_rollback (rollback_plan seat.home) each.rollbacks
      (command.SnapRollback image snap) s refl is
  of_command each (command.SnapList image) s is = of is_listing (listing_plan seat.home) each.lists
      (command.SnapList image) s refl is
  of_command each (command.Close image) s is = of is_close (close_plan seat.home) each.closes
      (command.Close image) s refl is
  of_command each (command.Quiesce image) s is = of is_close (close_plan seat.home) each.closes
      (command.Quiesce image) s refl is
  of_command each c s is = of is_close (close_plan seat.home) each.closes c s (is_row (straight_of c) s is)
      (row_plan (straight_of c) s is)
