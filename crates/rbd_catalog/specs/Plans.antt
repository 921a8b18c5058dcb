-- The plan of a command, and which commands are served.
use Rattle.std.specs.Prelude.{◌≡◌, ℕ, zero, suc, ◌^◌, ◌==◌, ◌&&◌, ◌||◌, nat_le, Bool, false, if◌then◌else◌, List, replicate, Option, Some, None, is_some}
use Rattle.rbd_commands.specs.declared.command.Command.{Command}
use Rattle.rbd_commands.specs.declared.command.Command.TheVariants as command
use Rattle.rbd_commands.specs.declared.command.Shape.{Shape}
use Rattle.rbd_commands.specs.declared.refusal.Refusal.TheVariants as refusal
use Rattle.rbd_kinds.specs.declared.id.SiteId.{SiteId}
use Rattle.rbd_kinds.specs.declared.id.SiteId.TheVariants as site
use Rattle.rbd_kinds.specs.declared.layout.Extent.{Extent}
use Rattle.rbd_kinds.specs.declared.layout.Layout.{Layout}
use Rattle.rbd_kinds.specs.declared.reply.Reply.TheVariants as reply
use Rattle.rbd_layout.specs.Asked.{layout_of}
use Rattle.rbd_header.specs.Header.{new_header}
use Rattle.rbd_machine.specs.Plan.{Plan, Standing, without_labels}
use Rattle.rbd_machine.specs.Steps.{refused}
use Rattle.rbd_machine.specs.declared.seat.Seat.{Seat}
use Rattle.rbd_meaning.specs.Count.{object_count}
use Rattle.rbd_meaning.specs.Listings.{shown_snaps}
use Rattle.rbd_meaning.specs.Resizes.{has_few_objects}
use Rattle.rbd_meaning.specs.Straight.{Straight, straight_of}
use Rattle.rbd_image.specs.Create.{drawing}
use Rattle.rbd_image.specs.Listing.{list_names, rename, show_header, show_used}
use Rattle.rbd_snap.specs.Snap.{snap_plan}
use Rattle.rbd_session.specs.Close as session
use Rattle.rbd_data.specs.Discard.{discard}
use Rattle.rbd_image.specs.Remove.{remove_image}
use Rattle.rbd_data.specs.Read.{pass, read_standing}
use Rattle.rbd_data.specs.Write.{write}
use Rattle.rbd_image.specs.Resize.{size_change}
use Rattle.rbd_snap.specs.Rollback.{rollback}
use Rattle.rbd_catalog.specs.Profile.{between}

-- ---- create

-- one of so many powers of two, from an exponent on
abbrev pub is_power_from : (exponent many : ℕ) → (value : ℕ) → Bool
is_power_from exponent zero value = false
is_power_from exponent (suc many) value = (value == 2 ^ exponent) || is_power_from (suc exponent) many value

-- The layout is within its limits (`IsLayout` of `rbd_kinds`), told by a test: an object is of 2^12
-- to 2^25 bytes, a unit of 2^9 bytes to an object, and a stripe of 1 to 16 objects.
abbrev pub is_layout : Layout → Bool
is_layout layout =
    is_power_from 12 14 layout.object
    && (is_power_from 9 17 layout.unit &&
    (nat_le layout.unit layout.object && (nat_le 1 layout.count && nat_le layout.count 16)))

-- And the size has few objects.
abbrev pub keeps_limits : Layout → (size : ℕ) → Bool
keeps_limits layout size = is_layout layout && has_few_objects layout size

-- A shape outside the limits is refused before any operation.
abbrev pub create_at : SiteId → (name : List ℕ) → (size : ℕ) → Layout → Plan
create_at site name size layout =
    if keeps_limits layout size then drawing site name (object_count layout size) (new_header layout size)
    else refused refusal.BadShape

-- ---- all of them

abbrev pub planned : Plan → Option Standing
planned plan = Some (without_labels plan)

abbrev pub unless_journaled : Shape → Plan → Option Standing
unless_journaled shape plan = if shape.journal then None else planned plan

abbrev pub read_from : SiteId → (name : List ℕ) → (snap : Option (List ℕ)) → Extent → Standing
read_from site name snap e = read_standing site name snap e (pass site name snap e)

abbrev pub planned_straight : SiteId → Option Straight → Option Standing
planned_straight home None = None
planned_straight home (Some s) = planned (session.straight home s)

-- Where the request of a command stands at first, of a session at its home site. None: it isn't
-- served.
abbrev pub plan_of : Seat → Command → Option Standing
plan_of seat (command.Write image at bytes) = planned (write seat.home image at bytes)
plan_of seat (command.Fill image at len byte) = planned (write seat.home image at (replicate len byte))
plan_of seat (command.Discard image at len) = planned (discard seat.home image (between at len))
plan_of seat (command.Read image snap at len) = Some (read_from seat.home image snap (between at len))
plan_of seat (command.Create image size shape) =
    unless_journaled shape (create_at seat.home image size (layout_of shape))
plan_of seat command.List = planned (list_names seat.home)
plan_of seat (command.Info image) = planned (show_header seat.home image reply.Info)
plan_of seat (command.Used image) = planned (show_used seat.home image)
plan_of seat (command.Rename from to) = planned (rename seat.home from to)
plan_of seat (command.Resize image size) = planned (size_change seat.home image size)
plan_of seat (command.Remove image) = planned (remove_image seat.home seat.session image)
plan_of seat (command.SnapCreate image snap) = planned (snap_plan seat.home (command.SnapCreate image snap))
plan_of seat (command.SnapRemove image snap) = planned (snap_plan seat.home (command.SnapRemove image snap))
plan_of seat (command.SnapRollback image snap) = planned (rollback seat.home image snap)
plan_of seat (command.SnapList image) = planned (show_header seat.home image shown_snaps)
plan_of seat (command.Close image) = planned (session.close seat.home image)
plan_of seat (command.Quiesce image) = planned (session.quiesce seat.home image)
plan_of seat c = planned_straight seat.home (straight_of c)

-- Where a request of a session stands at first, made of a command.
abbrev pub IsPlanFor : Seat → Command → Standing → Type 0
IsPlanFor seat c s = plan_of seat c ≡ Some s

-- A command is served where it has a plan. Whose it is makes no difference
-- (`what_is_served_has_a_plan`), so this looks at the first session's, at home at site A.
abbrev pub is_built : Command → Bool
is_built c = is_some (plan_of (record { session = 0; home = site.A }) c)
