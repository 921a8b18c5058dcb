-- The requests of commands keep to their line: lemmas that the laws of an `impl` cite. They define
-- nothing.
use Rattle.std.proofs.Common.{◌≡◌, true, false, Option, Some, None, refl}
use Rattle.rbd_commands.specs.declared.command.Command.{Command}
use Rattle.rbd_commands.specs.declared.command.Command.TheVariants as command
use Rattle.rbd_kinds.specs.declared.layout.Extent.{Extent}
use Rattle.rbd_machine.specs.Plan.{Plan, Goto, Standing, IsClosed, without_labels}
use Rattle.rbd_machine.specs.declared.seat.Seat.{Seat}
use Rattle.rbd_machine.specs.Course.{beginning}
use Rattle.rbd_machine.specs.Orderly.{IsOrderly, IsOrderlyFrom}
use Rattle.rbd_meaning.specs.Range.{extent_at}
use Rattle.rbd_data.specs.Write.{is_write, write_plan}
use Rattle.rbd_data.proofs.Closed.{closed_write_plan}
use Rattle.rbd_image.specs.Listing.{listing_plan}
use Rattle.rbd_snap.specs.Snap.{snap_plan}
use Rattle.rbd_image.proofs.Closed.{closed_create, closed_listing}
use Rattle.rbd_snap.proofs.Closed.{closed_snap}
use Rattle.rbd_session.proofs.Orderly.{orderly_from}
use Rattle.rbd_data.specs.Discard.{is_discard, discard_plan}
use Rattle.rbd_data.proofs.DiscardsClosed.{closed_discard_plan}
use Rattle.rbd_image.specs.Remove.{remove_plan}
use Rattle.rbd_image.proofs.RemovalsClosed.{closed_request}
use Rattle.rbd_image.specs.Resize.{resize_plan}
use Rattle.rbd_snap.specs.Rollback.{rollback_plan}
use Rattle.rbd_image.proofs.ResizesClosed.{closed_resize_plan}
use Rattle.rbd_snap.proofs.RollbacksClosed.{closed_rollback_plan}
use Rattle.rbd_catalog.specs.EachRequest.{HoldsOfEach, of_command, of_plan}
use Rattle.rbd_catalog.specs.OrderlyAlone.{orderly_remove, orderly_rollback, orderly_size, orderly_snap}
use Rattle.rbd_catalog.specs.OrderlyLooks.{orderly_create, orderly_listing, orderly_read}
use Rattle.rbd_catalog.specs.OrderlyParts.{begins_in_no_line}
use Rattle.rbd_catalog.specs.OrderlyWrites.{orderly_discard, orderly_fill, orderly_write}
use Rattle.rbd_catalog.specs.Plans.{IsPlanFor, planned}
use Rattle.rbd_catalog.specs.Profile.{between, extent_beside, profile}

-- a request without labels stands at an orderly plan
at_plan : (e : Option Extent) (plan : Plan) → IsOrderly e begins_in_no_line true beginning plan → IsClosed Goto plan
    → IsOrderlyFrom e true beginning (without_labels plan)
at_plan e plan orderly closed =
    record { at = begins_in_no_line; orderly = orderly; closed = closed; labels = λ label asks. absurd asks }

-- ---- who changes no extent beside others takes no turns

abbrev IsOrderlyAlone : Command → Standing → Type 0
IsOrderlyAlone c s = is_write c ≡ false → is_discard c ≡ false → IsOrderlyFrom None true beginning s

each_is_orderly : (seat : Seat) → HoldsOfEach seat IsOrderlyAlone
each_is_orderly seat = record {
  writes = λ c is writes discards. cc;
  discards = λ c is writes discards. cc;
  reads = λ c s is writes discards. orderly_read seat.home c s is;
  creates = λ c plan is writes discards. at_plan None plan (orderly_create seat.home c plan is)
      (closed_create seat.home c plan is);
  lists = λ c is writes discards. at_plan None (listing_plan seat.home c) (orderly_listing None seat.home c)
      (closed_listing seat.home c);
  snaps = λ c is writes discards. at_plan None (snap_plan seat.home c) (orderly_snap seat.home c)
      (closed_snap seat.home c);
  resizes = λ c is writes discards. at_plan None (resize_plan seat.home c) (orderly_size seat.home c)
      (closed_resize_plan seat.home c);
  rollbacks = λ c is writes discards. at_plan None (rollback_plan seat.home c) (orderly_rollback seat.home c)
      (closed_rollback_plan seat.home c);
  removes = λ c is writes discards. at_plan None (remove_plan seat.home seat.session c)
      (orderly_remove seat.home seat.session c) (closed_request seat.home seat.session c);
  closes = λ c is writes discards. orderly_from seat.home c;
}

-- ---- all of them

beside : (e : Extent) (plan : Plan) (s : Standing) → IsOrderly (Some e) begins_in_no_line true beginning plan
    → IsClosed Goto plan → planned plan ≡ Some s → IsOrderlyFrom (Some e) true beginning s
beside e plan s orderly closed is = of_plan (IsOrderlyFrom (Some e) true beginning) plan s is
    (at_plan (Some e) plan orderly closed)

pub command_is_orderly : (seat : Seat) (c : Command) (s : Standing) → IsPlanFor seat c s
    → IsOrderlyFrom (extent_beside (profile c)) true beginning s
command_is_orderly seat (command.Write name from bytes) s is =
    let c = command.Write name from bytes in
    beside (extent_at from bytes) (write_plan seat.home c) s (orderly_write seat.home name from bytes)
    (closed_write_plan seat.home c) is
command_is_orderly seat (command.Fill name from len byte) s is =
    let c = command.Fill name from len byte in
    beside (between from len) (write_plan seat.home c) s (orderly_fill seat.home name from len byte)
    (closed_write_plan seat.home c) is
command_is_orderly seat (command.Discard name from len) s is =
    let c = command.Discard name from len in
    beside (between from len) (discard_plan seat.home c) s (orderly_discard seat.home name (between from len))
    (closed_discard_plan seat.home c) is
command_is_orderly seat c s is = of_command seat IsOrderlyAlone (each_is_orderly seat) c s is refl refl
