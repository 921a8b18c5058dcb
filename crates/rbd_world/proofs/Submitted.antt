-- A command that begins, as the client tells it and as the world does.
use Rattle.std.proofs.Common.{◌≡◌, ◌≢◌, ◌||◌, ℕ, Bool, false, cond, Some, sym, ap, ◌∙◌, subst}
use Rattle.std.specs.Prelude.{nat_lt}
use Rattle.rbd_client.specs.Client.{ClientView, newcomer, slot_state}
use Rattle.rbd_commands.specs.declared.command.Command.{Command}
use Rattle.rbd_commands.specs.declared.quiescing.Quiescing.{Quiescing}
use Rattle.rbd_commands.specs.Quiescing.{quiescing_of}
use Rattle.rbd_catalog.specs.declared.request.SessionRequest.{SessionRequest}
use Rattle.rbd_catalog.specs.Plans.{IsPlanFor}
use Rattle.rbd_catalog.specs.Session.{stands_of}
use Rattle.rbd_catalog.specs.Profile.{changed_extent}
use Rattle.rbd_slots.specs.Session.{IsNewcomer, held_in, seat_of}
use Rattle.rbd_world.specs.declared.event.Event.TheVariants as event
use Rattle.rbd_world.specs.Run.{Nothing, Began}
use Rattle.rbd_world.specs.Step.{Becomes, begins_of, submitted}

-- a command that a client took begins in the world
pub begins : (session line : ℕ) (c copy : Command) → copy ≡ c → (begun : Bool) → begun ≡ false → (old new : ClientView SessionRequest) → nat_lt 64 old.session.lowest ≡ false
    → IsNewcomer stands_of IsPlanFor changed_extent (seat_of old.session) line copy (held_in old.session.lowest new.session.slots)
    → (q : Quiescing) → q ≡ quiescing_of c → slot_state old.session.lowest new.slots ≡ newcomer q
    → ((slot : ℕ) → slot ≢ old.session.lowest → (held_in slot new.session.slots ≡ held_in slot old.session.slots) × (slot_state slot new.slots ≡ slot_state slot old.slots))
    → new.session.lines ≡ old.session.lines
    → (new.session.instance ≡ old.session.instance) × (new.session.home ≡ old.session.home) × (new.locks ≡ old.locks) × (new.release ≡ old.release) × (new.heard ≡ old.heard)
    → Becomes stands_of (event.Submit session line c) (submitted begun line c (Some old)) old new
begins session line c copy same begun first old new room held q q_is state others lines rest =
    subst (λ b. Becomes stands_of (event.Submit session line c) (cond b Nothing (Began (begins_of old.session.instance line c) old.session.lowest)) old new) (sym (ap (λ f. f || nat_lt 64 old.session.lowest) first ∙ room))
    (record {
      begins = record {
        held = subst (λ w. IsNewcomer stands_of IsPlanFor changed_extent (seat_of old.session) line w (held_in old.session.lowest new.session.slots)) same held;
        slots = λ slot apart. (others slot apart).0;
        lines = lines;
        client = record { instance = rest.0; home = rest.1 };
      };
      state = state ∙ ap newcomer q_is;
      states = λ slot apart. (others slot apart).1;
      house = record { locks = rest.2; release = rest.3; heard = rest.4 };
    })
