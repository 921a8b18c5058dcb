-- Each operation of a line in a run that is right: at its place the run is right, its site stands
-- for its flat site, and what was done is what the site does there.
use Rattle.std.proofs.Common.{ℕ, cond, Bool, true, false, List, [], ◌∷◌, ◌++◌}
use Rattle.rbd_kinds.specs.declared.id.SiteId.{SiteId}
use Rattle.rbd_world.specs.Run.{Happening, Nothing, Waited, Began, Did, Refused, Trimmed, Expired, Heard, Stopped, Restarted, is_own}
use Rattle.rbd_world.specs.Sound.{IsRightlyDone, IsDue, IsRight, IsStanding}
use Rattle.rbd_world.proofs.Runs.{done_of, standing_at}
use Rattle.rbd_replies.specs.Places.{Placed, placed_in, placed_of}

pub record IsPlacedRight (homes : ℕ → SiteId) (p : Placed) : Type 0 where
  pub right : IsRight homes p.before
  pub standing : IsStanding p.done.site p.before
  pub is : IsRightlyDone p.done p.before

abbrev pub ArePlacedRight : (homes : ℕ → SiteId) → List Placed → Type 0
ArePlacedRight homes [] = Unit {0}
ArePlacedRight homes (p ∷ places) = IsPlacedRight homes p × ArePlacedRight homes places

-- they are so where both parts of a list are, and the other way round
pub right_together : (homes : ℕ → SiteId) (front back : List Placed) → ArePlacedRight homes front → ArePlacedRight homes back → ArePlacedRight homes (front ++ back)
right_together homes [] back one other = other
right_together homes (p ∷ front) back (here, one) other = (here, right_together homes front back one other)

pub right_front : (homes : ℕ → SiteId) (front back : List Placed) → ArePlacedRight homes (front ++ back) → ArePlacedRight homes front
right_front homes [] back both = tt
right_front homes (p ∷ front) back (here, both) = (here, right_front homes front back both)

pub right_back : (homes : ℕ → SiteId) (front back : List Placed) → ArePlacedRight homes (front ++ back) → ArePlacedRight homes back
right_back homes [] back both = both
right_back homes (p ∷ front) back (here, both) = right_back homes front back both

right_in : (homes : ℕ → SiteId) (line : ℕ) (h : Happening) (run : List Happening) → IsDue homes h run → IsRight homes run → ArePlacedRight homes (placed_in line h run)
right_in homes line Nothing run due right = tt
right_in homes line Waited run due right = tt
right_in homes line (Began asked slot) run due right = tt
right_in homes line (Did o reply) run due right = go (is_own line o.by)
  where
    go : (b : Bool) → ArePlacedRight homes (cond b (record { before = run; done = o } ∷ []) [])
    go true = (record { right = right; standing = standing_at homes run right o.site; is = done_of homes o reply run due }, tt)
    go false = tt
right_in homes line (Refused s other reply) run due right = tt
right_in homes line (Trimmed s number image object) run due right = tt
right_in homes line (Expired s number image who) run due right = tt
right_in homes line (Heard notice) run due right = tt
right_in homes line (Stopped who wanted lost) run due right = tt
right_in homes line (Restarted who) run due right = tt

pub places_right : (homes : ℕ → SiteId) (line : ℕ) (run : List Happening) → IsRight homes run → ArePlacedRight homes (placed_of line run)
places_right homes line [] right = tt
places_right homes line (h ∷ run) (standing, due, right) =
    right_together homes (placed_of line run) (placed_in line h run) (places_right homes line run right) (right_in homes line h run due right)
