-- The places of a line stand in order: what was done before one was also done before a later one.
use Rattle.std.proofs.Common.{◌≡◌, ℕ, cond, Bool, true, false, List, [], ◌∷◌, ◌++◌, Option, refl, sym, ap, ◌∙◌, append_assoc}
use Rattle.rbd_kinds.specs.declared.reply.Reply.{Reply}
use Rattle.rbd_world.specs.Run.{Happening, Nothing, Waited, Began, Did, Refused, Trimmed, Expired, Heard, Stopped, Restarted, is_own}
use Rattle.rbd_replies.specs.Places.{Placed, placed_in, placed_of}

-- a run goes on from an earlier one
pub record GoesOn (later earlier : List Happening) : Type 0 where
  pub since : List Happening
  pub is : later ≡ since ++ earlier

at_once : (run : List Happening) → GoesOn run run
at_once run = record { since = []; is = refl }

pub one_more : (h : Happening) (later earlier : List Happening) → GoesOn later earlier → GoesOn (h ∷ later) earlier
one_more h later earlier goes = record { since = h ∷ goes.since; is = ap (λ run. h ∷ run) goes.is }

-- the operation of a place was done in a run
pub record IsBehind (run : List Happening) (p : Placed) : Type 0 where
  pub reply : Option Reply
  pub goes : GoesOn run (Did p.done reply ∷ p.before)

-- so it goes on from what was before
pub goes_on : (run : List Happening) (p : Placed) → IsBehind run p → GoesOn run p.before
goes_on run p is = record {
  since = is.goes.since ++ Did p.done is.reply ∷ [];
  is = is.goes.is ∙ sym (append_assoc is.goes.since (Did p.done is.reply ∷ []) p.before);
}

-- these places are all in a run
abbrev pub AreIn : (run : List Happening) → List Placed → Type 0
AreIn run [] = Unit {0}
AreIn run (p ∷ places) = IsBehind run p × AreIn run places

-- these places come behind one
abbrev pub AreBehind : Placed → List Placed → Type 0
AreBehind p [] = Unit {0}
AreBehind p (q ∷ places) = IsBehind q.before p × AreBehind p places

abbrev pub AreOrdered : List Placed → Type 0
AreOrdered [] = Unit {0}
AreOrdered (p ∷ places) = AreBehind p places × AreOrdered places

in_longer : (h : Happening) (run : List Happening) (places : List Placed) → AreIn run places → AreIn (h ∷ run) places
in_longer h run [] are = tt
in_longer h run (p ∷ places) are = (record { reply = are.0.reply; goes = one_more h run _ are.0.goes }, in_longer h run places are.1)

in_both : (run : List Happening) (some others : List Placed) → AreIn run some → AreIn run others → AreIn run (some ++ others)
in_both run [] others one other = other
in_both run (p ∷ some) others one other = (one.0, in_both run some others one.1 other)

last_behind : (p q : Placed) (places : List Placed) → AreBehind p places → IsBehind q.before p → AreBehind p (places ++ q ∷ [])
last_behind p q [] are goes = (goes, tt)
last_behind p q (other ∷ places) are goes = (are.0, last_behind p q places are.1 goes)

last_ordered : (q : Placed) (places : List Placed) → AreOrdered places → AreIn q.before places → AreOrdered (places ++ q ∷ [])
last_ordered q [] are before = (tt, tt)
last_ordered q (p ∷ places) are before = (last_behind p q places are.0 before.0, last_ordered q places are.1 before.1)

none_more : (places : List Placed) → AreOrdered places → AreOrdered (places ++ [])
none_more [] are = tt
none_more (p ∷ places) are = (behind places are.0, none_more places are.1)
  where
    behind : (others : List Placed) → AreBehind p others → AreBehind p (others ++ [])
    behind [] are = tt
    behind (q ∷ others) are = (are.0, behind others are.1)

one_in : (line : ℕ) (h : Happening) (run : List Happening) → AreIn (h ∷ run) (placed_in line h run)
one_in line Nothing run = tt
one_in line Waited run = tt
one_in line (Began asked slot) run = tt
one_in line (Refused s other reply) run = tt
one_in line (Trimmed s number image object) run = tt
one_in line (Expired s number image who) run = tt
one_in line (Heard notice) run = tt
one_in line (Stopped who wanted lost) run = tt
one_in line (Restarted who) run = tt
one_in line (Did o reply) run = by (is_own line o.by)
  where
    by : (b : Bool) → AreIn (Did o reply ∷ run) (cond b (record { before = run; done = o } ∷ []) [])
    by true = (record { reply = reply; goes = at_once (Did o reply ∷ run) }, tt)
    by false = tt

pub all_in : (line : ℕ) (run : List Happening) → AreIn run (placed_of line run)
all_in line [] = tt
all_in line (h ∷ run) = in_both (h ∷ run) (placed_of line run) (placed_in line h run) (in_longer h run (placed_of line run) (all_in line run)) (one_in line h run)

ordered_then : (line : ℕ) (h : Happening) (run : List Happening) → AreOrdered (placed_of line run) → AreOrdered (placed_of line run ++ placed_in line h run)
ordered_then line Nothing run are = none_more (placed_of line run) are
ordered_then line Waited run are = none_more (placed_of line run) are
ordered_then line (Began asked slot) run are = none_more (placed_of line run) are
ordered_then line (Refused s other reply) run are = none_more (placed_of line run) are
ordered_then line (Trimmed s number image object) run are = none_more (placed_of line run) are
ordered_then line (Expired s number image who) run are = none_more (placed_of line run) are
ordered_then line (Heard notice) run are = none_more (placed_of line run) are
ordered_then line (Stopped who wanted lost) run are = none_more (placed_of line run) are
ordered_then line (Restarted who) run are = none_more (placed_of line run) are
ordered_then line (Did o reply) run are = by (is_own line o.by)
  where
    by : (b : Bool) → AreOrdered (placed_of line run ++ cond b (record { before = run; done = o } ∷ []) [])
    by true = last_ordered (record { before = run; done = o }) (placed_of line run) are (all_in line run)
    by false = none_more (placed_of line run) are

pub places_ordered : (line : ℕ) (run : List Happening) → AreOrdered (placed_of line run)
places_ordered line [] = tt
places_ordered line (h ∷ run) = ordered_then line h run (places_ordered line run)

pub ordered_back : (front back : List Placed) → AreOrdered (front ++ back) → AreOrdered back
ordered_back [] back are = are
ordered_back (p ∷ front) back are = ordered_back front back are.1

-- the last place comes behind each
pub behind_last : (p last : Placed) (places : List Placed) → AreBehind p (places ++ last ∷ []) → IsBehind last.before p
behind_last p last [] are = are.0
behind_last p last (q ∷ places) are = behind_last p last places are.1
