-- What is noted of an event is what it did.
use Rattle.std.proofs.Common.{◌≡◌, List, [], ◌∷◌, ◌++◌, refl, sym, ap, ◌∙◌}
use Rattle.std.proofs.lemmas.List.{append-nil}
use Rattle.rbd_flat.specs.declared.entry.Entry.{Entry}
use Rattle.rbd_machine.specs.Plan.{Standing}
use Rattle.rbd_world.specs.declared.event.Call.{Call}
use Rattle.rbd_world.specs.declared.event.Event.{Event}
use Rattle.rbd_world.specs.declared.event.Outcome.{Outcome}
use Rattle.rbd_world.specs.declared.sites.Sites.{Sites}
use Rattle.rbd_world.specs.declared.begun.BegunLines.{BegunLines}
use Rattle.rbd_world.specs.Noted.{history_with}
use Rattle.rbd_world.specs.Run.{Happening, Nothing, Waited, Began, Did, Refused, Trimmed, Expired, Heard, Stopped, Restarted, entries_of, outcome_of}
use Rattle.rbd_world.specs.Step.{DoesToParts, StepsParts}
use Rattle.rbd_world.specs.World.{LivesView}

noted_entries : (history : List Entry) (h : Happening) → history_with history h ≡ history ++ entries_of h
noted_entries history Nothing = sym (append-nil history)
noted_entries history Waited = sym (append-nil history)
noted_entries history (Began asked slot) = refl
noted_entries history (Did o reply) = refl
noted_entries history (Refused s line reply) = refl
noted_entries history (Trimmed s number image object) = sym (append-nil history)
noted_entries history (Expired s number image who) = sym (append-nil history)
noted_entries history (Heard notice) = sym (append-nil history)
noted_entries history (Stopped who wanted lost) = refl
noted_entries history (Restarted who) = sym (append-nil history)

-- the call bears the event and its outcome
pub noted_steps : {R : Type 0} (stands : R → Standing) (e : Event) (h : Happening) (old_sites new_sites : Sites) (old new : List (LivesView R))
    (old_begun new_begun : BegunLines) (old_history new_history : List Entry) (old_calls new_calls : List Call) (result : Outcome)
    → DoesToParts stands e h old_sites new_sites old new old_begun new_begun → new_history ≡ history_with old_history h
    → new_calls ≡ old_calls ++ record { event = e; outcome = result } ∷ [] → result ≡ outcome_of h
    → StepsParts stands e h old_sites new_sites old new old_begun new_begun old_history new_history old_calls new_calls result
noted_steps stands e h old_sites new_sites old new old_begun new_begun old_history new_history old_calls new_calls result parts history calls outcome = record {
  parts = parts;
  history = history ∙ noted_entries old_history h;
  calls = calls ∙ ap (λ (o : Outcome). old_calls ++ record { event = e; outcome = o } ∷ []) outcome;
  outcome = outcome;
}
