-- What holds of each operation that is due, holds at each place of a run that is right.
use Rattle.std.proofs.Common.{ℕ, List, [], ◌∷◌, Option}
use Rattle.rbd_kinds.specs.declared.id.SiteId.{SiteId}
use Rattle.rbd_kinds.specs.declared.reply.Reply.{Reply}
use Rattle.rbd_world.specs.Run.{Happening, Nothing, Waited, Began, Did, Refused, Trimmed, Expired, Heard, Stopped, Restarted, Operation}
use Rattle.rbd_world.specs.Sound.{IsRight}
use Rattle.rbd_replies.specs.Fenced.{AtEachOperation, IsStoppedByTheFence, IsTheOwners}
use Rattle.rbd_replies.specs.Sent.{ComesOnce}
use Rattle.rbd_replies.proofs.Fencing.{fenced_here}
use Rattle.rbd_replies.proofs.Owners.{owner_changes, owner_was_fenced}
use Rattle.rbd_replies.proofs.SentOnce.{comes_once}

module _ (homes : ℕ → SiteId) where
  at_each : (Holds : Operation → Option Reply → List Happening → Type 0) → ((o : Operation) (reply : Option Reply) (run : List Happening) → IsRight homes (Did o reply ∷ run) → Holds o reply run)
      → (run : List Happening) → IsRight homes run → AtEachOperation Holds run
  at_each Holds each [] right = tt
  at_each Holds each (Did o reply ∷ run) right = (each o reply run right, at_each Holds each run right.2)
  at_each Holds each (Nothing ∷ run) right = at_each Holds each run right.2
  at_each Holds each (Waited ∷ run) right = at_each Holds each run right.2
  at_each Holds each (Began asked slot ∷ run) right = at_each Holds each run right.2
  at_each Holds each (Refused s line reply ∷ run) right = at_each Holds each run right.2
  at_each Holds each (Trimmed s number image object ∷ run) right = at_each Holds each run right.2
  at_each Holds each (Expired s number image who ∷ run) right = at_each Holds each run right.2
  at_each Holds each (Heard notice ∷ run) right = at_each Holds each run right.2
  at_each Holds each (Stopped who wanted lost ∷ run) right = at_each Holds each run right.2
  at_each Holds each (Restarted who ∷ run) right = at_each Holds each run right.2

  pub fences_hold : (run : List Happening) → IsRight homes run → AtEachOperation IsStoppedByTheFence run
  fences_hold = at_each IsStoppedByTheFence (λ o reply run right. fenced_here homes run o reply right)

  pub locks_hold : (run : List Happening) → IsRight homes run → AtEachOperation (IsTheOwners homes) run
  locks_hold = at_each (IsTheOwners homes) (λ o reply run right. record {
    change = λ image. owner_changes homes run o reply image right;
    broken = λ image owner. owner_was_fenced homes run o reply image right owner;
  })

  pub late_once : (run : List Happening) → IsRight homes run → AtEachOperation (ComesOnce homes) run
  late_once = at_each (ComesOnce homes) (λ o reply run right. comes_once homes run o reply right)
