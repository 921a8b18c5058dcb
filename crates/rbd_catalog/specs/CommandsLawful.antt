-- The requests of commands do only what they may by what they know: lemmas that the laws of an
-- `impl` cite. They define nothing.
use Rattle.rbd_commands.specs.declared.command.Command.{Command}
use Rattle.rbd_machine.specs.Knowledge.{nothing_known}
use Rattle.rbd_machine.specs.Lawful.{IsLawful, IsLawfulRequest}
use Rattle.rbd_machine.specs.Plan.{Plan, Standing, without_labels}
use Rattle.rbd_machine.specs.declared.seat.Seat.{Seat}
use Rattle.rbd_machine.proofs.AtLeast.{jump_lawful}
use Rattle.rbd_data.proofs.Lawful.{nothing_at, lawful_write_plan, lawful_read}
use Rattle.rbd_data.specs.Write.{write_plan}
use Rattle.rbd_image.proofs.Lawful.{lawful_create, lawful_listing}
use Rattle.rbd_snap.proofs.Lawful.{lawful_snap}
use Rattle.rbd_image.specs.Listing.{listing_plan}
use Rattle.rbd_snap.specs.Snap.{snap_plan}
use Rattle.rbd_session.proofs.Lawful.{lawful_request}
use Rattle.rbd_data.proofs.DiscardsLawful as of_discard
use Rattle.rbd_image.proofs.RemovalsLawful.{lawful_plan as lawful_remove_plan}
use Rattle.rbd_image.specs.Remove.{remove_plan}
use Rattle.rbd_image.proofs.ResizesLawful.{lawful_resize_request}
use Rattle.rbd_snap.proofs.RollbacksLawful.{lawful_rollback_request}
use Rattle.rbd_catalog.specs.EachRequest.{HoldsOfEach, of_command}
use Rattle.rbd_catalog.specs.Plans.{IsPlanFor}

at_plan : (plan : Plan) → IsLawful nothing_at nothing_known plan → IsLawfulRequest (without_labels plan)
at_plan plan lawful = record { known_at = nothing_at; plan = lawful; labels = jump_lawful nothing_at }

each_is_lawful : (seat : Seat) → HoldsOfEach seat (λ c s. IsLawfulRequest s)
each_is_lawful seat = record {
  writes = λ c is. at_plan (write_plan seat.home c) (lawful_write_plan nothing_at seat.home c);
  discards = λ c is. of_discard.lawful_request seat.home c;
  reads = λ c s is. lawful_read seat.home c s is;
  creates = λ c plan is. lawful_create seat.home c plan is;
  lists = λ c is. at_plan (listing_plan seat.home c) (lawful_listing nothing_at seat.home c);
  snaps = λ c is. at_plan (snap_plan seat.home c) (lawful_snap nothing_at seat.home c);
  resizes = λ c is. lawful_resize_request seat.home c;
  rollbacks = λ c is. lawful_rollback_request seat.home c;
  removes = λ c is. at_plan (remove_plan seat.home seat.session c)
      (lawful_remove_plan nothing_at seat.home seat.session c);
  closes = λ c is. lawful_request seat.home c;
}

pub command_is_lawful : (seat : Seat) (c : Command) (s : Standing) → IsPlanFor seat c s → IsLawfulRequest s
command_is_lawful seat c s is = of_command seat (λ at t. IsLawfulRequest t) (each_is_lawful seat) c s is
