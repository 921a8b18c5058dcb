-- The history after an event, by what the event did.
use Rattle.std.specs.Prelude.{◌≡◌, List, [], ◌∷◌, ◌++◌, map, Bool, true, false}
use Rattle.rbd_flat.specs.declared.entry.Entry.{Entry}
use Rattle.rbd_flat.specs.declared.entry.Entry.TheVariants as entry
use Rattle.rbd_machine.specs.Plan.{Standing}
use Rattle.rbd_world.specs.declared.event.Event.{Event}
use Rattle.rbd_world.specs.declared.event.Outcome.{Outcome}
use Rattle.rbd_world.specs.declared.event.Outcome.TheVariants as outcome
use Rattle.rbd_world.specs.declared.sites.Sites.{Sites}
use Rattle.rbd_world.specs.declared.begun.BegunLines.{BegunLines}
use Rattle.rbd_world.specs.Run.{Happening, Nothing, Waited, Began, Did, Refused, Trimmed, Expired, Heard, Stopped, Restarted, ending_entries, entry_of, outcome_of}
use Rattle.rbd_world.specs.Step.{DoesToParts}
use Rattle.rbd_world.specs.World.{LivesView}

abbrev pub history_with : List Entry → Happening → List Entry
history_with history Nothing = history
history_with history Waited = history
history_with history (Began asked slot) = history ++ entry.Start asked.line asked.who ∷ []
history_with history (Did o reply) = history ++ entry_of o ∷ ending_entries o.by reply
history_with history (Refused site line reply) = history ++ entry.Reply line reply ∷ []
history_with history (Trimmed site number image object) = history
history_with history (Expired site number image who) = history
history_with history (Heard notice) = history
history_with history (Stopped who wanted lost) = history ++ entry.Stop who.session ∷ map entry.Lost lost
history_with history (Restarted who) = history

-- whether an entry is the start of a command
abbrev pub is_start : Outcome → Bool
is_start (outcome.Submitted slot) = true
is_start _ = false

-- An event did this to all parts, and so it is noted; its call isn't kept yet.
pub record IsNotedStep {R : Type 0} (stands : R → Standing) (e : Event) (h : Happening) (old_sites new_sites : Sites)
    (old new : List (LivesView R)) (old_begun new_begun : BegunLines)
    (old_history new_history : List Entry) (result : Outcome) : Type 0 where
  pub parts : DoesToParts stands e h old_sites new_sites old new old_begun new_begun
  pub history : new_history ≡ history_with old_history h
  pub outcome : result ≡ outcome_of h
