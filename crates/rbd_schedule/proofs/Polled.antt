-- The polls of a round, one more after another.
use Rattle.std.proofs.Common.{◌≡◌, ℕ, zero, suc, ◌<◌, ◌+◌, Bool, true, false, List, length, replicate, slice_get, slice_set, Some, refl, ap, ◌∙◌, subst, arith}
use Rattle.std.proofs.lemmas.Bool.{true≢false}
use Rattle.rbd_machine.specs.Plan.{Standing}
use Rattle.rbd_script.specs.declared.script.Said.{Said}
use Rattle.rbd_world.specs.World.{WorldView}
use Rattle.rbd_schedule.specs.declared.given.Given.{Given}
use Rattle.rbd_schedule.specs.Schedule.{Pace, Plays, PollsWhere, Settles}
use Rattle.rbd_schedule.proofs.Done.{one_more_idle}
use Rattle.rbd_schedule.proofs.Queues.{set_other, set_there}

-- a list of what a function tells of each place, with one place more
pub one_more_set : {X : Type 0} (f : ℕ → X) (xs : List X) (n : ℕ) (y : X) → n < length xs → y ≡ f n → ((j : ℕ) → j < n → slice_get xs j ≡ Some (f j))
    → (j : ℕ) → j < n + 1 → slice_get (slice_set xs n y) j ≡ Some (f j)
one_more_set f xs n y within is each j below =
    one_more_idle (λ j. slice_get (slice_set xs n y) j ≡ Some (f j)) n
    (λ j before. set_other xs n j y (λ same. absurd (omega (arith, before, same))) ∙ each j before) (set_there xs n y within ∙ ap Some is) j below

-- a poll of a slot that was held so, where the sessions were given the same
pub polls_so : {R : Type 0} (stands : R → Standing) (given given' : (session : ℕ) → List Given) (held held' : Bool) (session slot : ℕ) (old new : Pace R)
    → given' ≡ given → held' ≡ held → PollsWhere stands given' held' session slot old new → PollsWhere stands given held session slot old new
polls_so stands given given' held held' session slot old new same is polls =
    subst (λ b. PollsWhere stands given b session slot old new) is (subst (λ gs. PollsWhere stands gs held' session slot old new) same polls)

-- a slot that isn't held isn't polled
pub not_held : {R : Type 0} (stands : R → Standing) (given : (session : ℕ) → List Given) (held : Bool) (session slot : ℕ) (p : Pace R) → held ≡ false → PollsWhere stands given held session slot p p
not_held stands given true session slot p is = absurd (true≢false is)
not_held stands given false session slot p is = refl

-- what a line does, and how a script settles, told of the same commands, notices, sessions and
-- world
pub plays_so : {R : Type 0} (stands : R → Standing) (given given' : (session : ℕ) → List Given) (lost lost' : (number : ℕ) → Bool) (sessions sessions' : ℕ) (s : Said) (old old' new : WorldView R)
    → given' ≡ given → lost' ≡ lost → sessions' ≡ sessions → old' ≡ old → Plays stands given' lost' sessions' s old' new → Plays stands given lost sessions s old new
plays_so stands given given' lost lost' sessions sessions' s old old' new same losing count world plays =
    subst (λ w. Plays stands given lost sessions s w new) world
    (subst (λ n. Plays stands given lost n s old' new) count
    (subst (λ l. Plays stands given l sessions' s old' new) losing (subst (λ gs. Plays stands gs lost' sessions' s old' new) same plays)))

pub settles_so : {R : Type 0} (stands : R → Standing) (given given' : (session : ℕ) → List Given) (lost lost' : (number : ℕ) → Bool) (sessions sessions' rounds rounds' : ℕ) (old new : WorldView R)
    → given' ≡ given → lost' ≡ lost → sessions' ≡ sessions → rounds' ≡ rounds → Settles stands given' lost' sessions' rounds' old new → Settles stands given lost sessions rounds old new
settles_so stands given given' lost lost' sessions sessions' rounds rounds' old new same losing count all settles =
    subst (λ n. Settles stands given lost sessions n old new) all
    (subst (λ n. Settles stands given lost n rounds' old new) count
    (subst (λ l. Settles stands given l sessions' rounds' old new) losing (subst (λ gs. Settles stands gs lost' sessions' rounds' old new) same settles)))

-- in a list of one value each place has it
pub all_alike : {X : Type 0} (x : X) (n j : ℕ) → j < n → slice_get (replicate n x) j ≡ Some x
all_alike x zero j below = absurd (omega (arith, below))
all_alike x (suc n) zero below = refl
all_alike x (suc n) (suc j) below = all_alike x n j (omega (arith, below))
