-- Who stands first in a line stays first, whatever the other slots of its session do. Meanwhile no
-- other one may go past its look under the lock, so that none is on its way to the lock.
use Rattle.std.proofs.Common.{◌≡◌, ◌≢◌, ℕ, true, List, ◌∷◌, Option, Some, None, refl, sym, ap, ◌∙◌}
use Rattle.rbd_client.specs.declared.actor.Actor.TheVariants as actor
use Rattle.rbd_client.specs.Actor.{op_by}
use Rattle.rbd_client.specs.Client.{ClientView}
use Rattle.rbd_client.specs.Sound.{IsSoundClient, WaitsForLook}
use Rattle.rbd_knowledge.proofs.Drops.{alone_goes_first, may, membership, waiting}
use Rattle.rbd_kinds.specs.declared.id.SiteId.{SiteId}
use Rattle.rbd_kinds.specs.Sharing.{is_alone}
use Rattle.rbd_knowledge.specs.Knowing.{AllKnow}
use Rattle.rbd_queue.specs.Line.{Member, is_past, may_pass, member_of}
use Rattle.rbd_machine.specs.Knowledge.{Knowledge}
use Rattle.rbd_machine.specs.Permits.{HoldsUnlooked}
use Rattle.rbd_machine.specs.Plan.{Standing}
use Rattle.rbd_lock.specs.Steps.{lock_drop}
use Rattle.rbd_slots.specs.declared.running.Occupant.{Occupant}
use Rattle.rbd_slots.specs.declared.running.Occupant.TheVariants as occupant
use Rattle.rbd_slots.specs.declared.running.Running.{Running}
use Rattle.rbd_slots.specs.Lines.{LinesView, lines_of}
use Rattle.rbd_slots.specs.Session.{running_in, script_line}
use Rattle.rbd_slots.proofs.LooksUnderLock.{at_look_under_lock}
use Rattle.rbd_world.specs.Closes.{StandsFirst, StandsFirstIf, has_let_go}
use Rattle.rbd_world.specs.Run.{Happening}
use Rattle.rbd_world.proofs.Quiet.{IsQuiet, steps_on}

-- ---- one line

-- where it stays as it is, and may pass still
pub stands_still : (slot : ℕ) (old new : List Member) → member_of slot new ≡ member_of slot old → (may_pass slot old ≡ true → may_pass slot new ≡ true) → StandsFirst slot old → StandsFirst slot new
stands_still slot old new same still first = record { member = first.member; found = same ∙ first.found; alone = first.alone; waits = first.waits; may = still first.may }

-- ---- who waits for its look under the lock

module _ {R : Type 0} (stands : R → Standing) (c : ClientView R) (sound : IsSoundClient stands c) where
  -- so no other request of the session is on its way to the lock
  pub no_way_beside : (slot other : ℕ) (s : SiteId) (image : ℕ) → slot ≢ other → StandsFirst slot (lines_of c.session.lines s image) → WaitsForLook stands other s image c.session → ⊥
  no_way_beside slot other s image differ first waits =
      let look = at_look_under_lock stands c.session other (record { site = s; image = image }) waits.at_look in
      alone_goes_first (lines_of c.session.lines s image) slot other first.member look.member differ first.found look.found first.alone first.waits first.may look.may

  -- who drops a lock stands first
  pub drops_first : (knows : ℕ → Knowledge) (all : AllKnow stands knows c.session) (slot : ℕ) (s : SiteId) (image : ℕ) → op_by stands slot c.session actor.Request ≡ Some (s, lock_drop image)
      → HoldsUnlooked (knows slot) s image → StandsFirst slot (lines_of c.session.lines s image)
  drops_first knows all slot s image wanted holds =
      let there = membership stands c knows sound all slot s image wanted holds in
      record {
        member = there.member;
        found = there.found;
        alone = sym (ap is_alone there.sharing);
        waits = ap is_past (waiting stands c knows sound all slot s image wanted holds);
        may = may stands c knows sound all slot s image wanted holds;
      }

-- ---- a slot that stays

-- where nothing concerns its line, and who stands first in a line does so still
pub first_on : {R : Type 0} (h : Happening) (run : List Happening) (slot : ℕ) (old new : LinesView) (o : Option (Occupant R)) → ((line : ℕ) → script_line o ≡ Some line → IsQuiet line h)
    → ((s : SiteId) (image : ℕ) → StandsFirst slot (lines_of old s image) → StandsFirst slot (lines_of new s image)) → StandsFirstIf run slot old (running_in o) → StandsFirstIf (h ∷ run) slot new (running_in o)
first_on h run slot old new None quiet stays first = tt
first_on h run slot old new (Some (occupant.Refused line refusal)) quiet stays first = tt
first_on h run slot old new (Some (occupant.Running r)) quiet stays first =
    λ s image gone. stays s image (first s image (ap (has_let_go s image) (sym (steps_on r.line h run (quiet r.line refl))) ∙ gone))
