-- A change of an extent takes its turns at the objects of the extent.
use Rattle.std.proofs.Common.{◌≡◌, ℕ, List, [], replicate, Option, Some, refl, sym, subst, ap}
use Rattle.std.specs.Prelude.{unwrap_or}
use Rattle.std.proofs.lemmas.List.{length-replicate}
use Rattle.rbd_kinds.specs.declared.sharing.Sharing.TheVariants as sharing
use Rattle.rbd_commands.specs.declared.command.Command.{Command}
use Rattle.rbd_commands.specs.declared.command.Command.TheVariants as command
use Rattle.rbd_kinds.specs.declared.id.SiteId.{SiteId}
use Rattle.rbd_kinds.specs.declared.layout.Extent.{Extent}
use Rattle.rbd_layout.specs.Pieces.{pieces_of}
use Rattle.rbd_machine.specs.Label.{Label}
use Rattle.rbd_machine.specs.Plan.{Plan, Standing, without_labels}
use Rattle.rbd_machine.specs.Turns.{AreTurns}
use Rattle.rbd_machine.specs.declared.seat.Seat.{Seat}
use Rattle.rbd_meaning.specs.Range.{extent_at}
use Rattle.rbd_meaning.specs.Writes.{write_refuses}
use Rattle.rbd_data.proofs.Closed.{closed_write_request}
use Rattle.rbd_data.proofs.DiscardsClosed.{closed_discard}
use Rattle.rbd_data.proofs.Turns.{turns_of_pieces}
use Rattle.rbd_data.specs.Write.{put_plan, write}
use Rattle.rbd_data.proofs.DiscardTurns as of_discard
use Rattle.rbd_data.specs.Discard.{discard, zero}
use Rattle.rbd_catalog.specs.EachRequest.{of_plan}
use Rattle.rbd_catalog.specs.OrderlyWrites.{objects_are}
use Rattle.rbd_catalog.specs.Plans.{IsPlanFor, planned}
use Rattle.rbd_catalog.specs.Profile.{between, extent_beside, profile}
use Rattle.rbd_catalog.specs.Touched.{TakesTurns}

-- no label is gone to
abbrev no_turns : Label → List ℕ
no_turns label = []

write_takes_turns : (site : SiteId) (name : List ℕ) (from : ℕ) (bytes : List ℕ) → TakesTurns (extent_at from bytes) (without_labels (write site name from bytes))
write_takes_turns site name from bytes = record {
  site = site;
  name = name;
  refuses = write_refuses (extent_at from bytes);
  act = put_plan site from bytes;
  sharing = sharing.Shared;
  shared = refl;
  is = refl;
  left = no_turns;
  turns = λ image h may.
      subst (AreTurns no_turns (put_plan site from bytes image h)) (sym (objects_are (extent_at from bytes) h may))
      (turns_of_pieces no_turns (pieces_of h.layout (extent_at from bytes)) site image h from bytes);
  closed = closed_write_request site name from bytes;
  labels = λ label asks. absurd asks;
}

-- the one extent
abbrev extent_in : (e : Extent) → Option Extent → Extent
extent_in e o = unwrap_or o e

fill_takes_turns : (site : SiteId) (name : List ℕ) (from len byte : ℕ) → TakesTurns (between from len) (without_labels (write site name from (replicate len byte)))
fill_takes_turns site name from len byte =
    subst (λ n. TakesTurns (record { at = from; len = n }) (without_labels (write site name from (replicate len byte)))) (length-replicate len byte)
    (write_takes_turns site name from (replicate len byte))

discard_takes_turns : (site : SiteId) (name : List ℕ) (e : Extent) → TakesTurns e (without_labels (discard site name e))
discard_takes_turns site name e = record {
  site = site;
  name = name;
  refuses = write_refuses e;
  act = zero site e;
  sharing = sharing.Discard;
  shared = refl;
  is = refl;
  left = no_turns;
  turns = λ image h may. subst (AreTurns no_turns (zero site e image h)) (sym (objects_are e h may)) (of_discard.turns_of_pieces no_turns (pieces_of h.layout e) site image h);
  closed = closed_discard site name e;
  labels = λ label asks. absurd asks;
}

at_plan : (plan : Plan) (s : Standing) (of e : Extent) → planned plan ≡ Some s → Some of ≡ Some e → TakesTurns of (without_labels plan) → TakesTurns e s
at_plan plan s of e is same turns =
    of_plan (TakesTurns e) plan s is (subst (λ extent. TakesTurns extent (without_labels plan)) (ap (extent_in e) same) turns)

pub command_takes_turns : (seat : Seat) (c : Command) (s : Standing) (e : Extent) → IsPlanFor seat c s → extent_beside (profile c) ≡ Some e → TakesTurns e s
command_takes_turns seat (command.Write name from bytes) s e is same = at_plan _ s (extent_at from bytes) e is same (write_takes_turns seat.home name from bytes)
command_takes_turns seat (command.Fill name from len byte) s e is same = at_plan _ s (between from len) e is same (fill_takes_turns seat.home name from len byte)
command_takes_turns seat (command.Discard name from len) s e is same = at_plan _ s (between from len) e is same (discard_takes_turns seat.home name (between from len))
command_takes_turns seat _ s e is same = cc
