-- A client as plans tell it: in each slot stands what is left of its request, in place of the
-- machine that does it. Whoever reads this needs to know no machine.
use Rattle.std.specs.Prelude.{map, Option}
use Rattle.std.specs.Option.{option_map}
use Rattle.rbd_client.specs.Client.{ClientView}
use Rattle.rbd_machine.specs.Plan.{Standing}
use Rattle.rbd_slots.specs.declared.running.Occupant.{Occupant}
use Rattle.rbd_slots.specs.declared.running.Occupant.TheVariants as occupant
use Rattle.rbd_slots.specs.declared.running.Running.{Running}
use Rattle.rbd_slots.specs.Session.{SessionView}

-- where a slot stands that holds just this
abbrev pub as_is : Standing → Standing
as_is s = s

module _ {R : Type 0} (stands : R → Standing) where
  abbrev pub seen_running : Running R → Running Standing
  seen_running r = record {
    line = r.line;
    request = stands r.request;
    extent = r.extent;
    place = r.place;
    turn = r.turn;
    looked = r.looked;
  }

  abbrev pub seen_occupant : Occupant R → Occupant Standing
  seen_occupant (occupant.Refused line refusal) = occupant.Refused line refusal
  seen_occupant (occupant.Running r) = occupant.Running (seen_running r)

  abbrev pub seen_slot : Option (Occupant R) → Option (Occupant Standing)
  seen_slot held = option_map seen_occupant held

  abbrev pub seen_session : SessionView R → SessionView Standing
  seen_session s = record {
    instance = s.instance;
    home = s.home;
    slots = map seen_slot s.slots;
    lowest = s.lowest;
    lines = s.lines;
  }

  abbrev pub seen : ClientView R → ClientView Standing
  seen c = record {
    session = seen_session c.session;
    locks = c.locks;
    slots = c.slots;
    release = c.release;
    heard = c.heard;
  }
