-- A step of a world's parts, by its machines, is one by the plans that they follow.
use Rattle.std.proofs.Common.{ℕ, Bool, List, sym, subst}
use Rattle.rbd_client.specs.Seen.{as_is}
use Rattle.rbd_flat.specs.declared.entry.Entry.{Entry}
use Rattle.rbd_machine.specs.Plan.{Standing}
use Rattle.rbd_world.specs.declared.begun.BegunLines.{BegunLines}
use Rattle.rbd_world.specs.declared.event.Call.{Call}
use Rattle.rbd_world.specs.declared.event.Event.{Event}
use Rattle.rbd_world.specs.declared.event.Outcome.{Outcome}
use Rattle.rbd_world.specs.declared.sites.Sites.{Sites}
use Rattle.rbd_world.specs.Run.{Happening}
use Rattle.rbd_world.specs.Seen.{seen_lives}
use Rattle.rbd_world.specs.Step.{LeavesParts, StepsParts, happens}
use Rattle.rbd_world.specs.World.{LivesView}
use Rattle.rbd_world.proofs.SeenLives.{does_to_lives_seen, happens_seen, leaves_lives_seen}

module _ {R : Type 0} (stands : R → Standing) where
  pub steps_seen : (e : Event) (begun : (line : ℕ) → Bool) (old_sites new_sites : Sites) (old new : List (LivesView R)) (b after : BegunLines) (old_history new_history : List Entry) (old_calls new_calls : List Call) (result : Outcome)
      → StepsParts stands e (happens stands e begun old_sites old) old_sites new_sites old new b after old_history new_history old_calls new_calls result
      → StepsParts as_is e (happens as_is e begun old_sites (seen_lives stands old)) old_sites new_sites (seen_lives stands old) (seen_lives stands new) b after old_history new_history old_calls new_calls result
  steps_seen e begun old_sites new_sites old new b after old_history new_history old_calls new_calls result did =
      subst (λ (h : Happening). StepsParts as_is e h old_sites new_sites (seen_lives stands old) (seen_lives stands new) b after old_history new_history old_calls new_calls result)
      (sym (happens_seen stands e begun old_sites old))
      (record {
        parts = record {
          sites = did.parts.sites;
          lives = does_to_lives_seen stands e (happens stands e begun old_sites old) old new did.parts.lives;
          begun = did.parts.begun;
        };
        history = did.history;
        calls = did.calls;
        outcome = did.outcome;
      })

  pub leaves_seen : (old_sites new_sites : Sites) (old new : List (LivesView R)) (b after : BegunLines)
      → LeavesParts stands old_sites new_sites old new b after → LeavesParts as_is old_sites new_sites (seen_lives stands old) (seen_lives stands new) b after
  leaves_seen old_sites new_sites old new b after left = record {
    sites = left.sites;
    lives = leaves_lives_seen stands old new left.lives;
    begun = left.begun;
  }
