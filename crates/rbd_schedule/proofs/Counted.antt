-- The rounds that close a script are no more than the events of its play, and eight: in each round
-- in which a session runs there is an event, and where none runs eight rounds are the last.
use Rattle.std.proofs.Common.{◌≡◌, ◌⊎◌, inl, inr, ℕ, zero, suc, ◌+◌, ◌*◌, ◌<◌, ◌≤◌, ◌^◌, cond, Bool, true, false, List, length, refl, sym, ap, ◌∙◌, subst, arith}
use Rattle.std.proofs.lemmas.Bool.{cases_lt}
use Rattle.std.proofs.lemmas.List.{length_push}
use Rattle.rbd_machine.specs.Plan.{Standing}
use Rattle.rbd_script.specs.declared.script.Script.{Script}
use Rattle.rbd_world.specs.declared.event.Event.{Event}
use Rattle.rbd_world.specs.declared.event.Event.TheVariants as event
use Rattle.rbd_world.specs.declared.event.Outcome.{Outcome}
use Rattle.rbd_world.specs.Step.{IsWorldStep, call_of, happening}
use Rattle.rbd_world.specs.World.{WorldView}
use Rattle.rbd_schedule.specs.declared.given.Given.{Given}
use Rattle.rbd_schedule.specs.Deeds.{Deeds}
use Rattle.rbd_schedule.specs.Given.{commands_of, given_in, is_lost_by}
use Rattle.rbd_schedule.specs.Notices.{is_notice_due, runs}
use Rattle.rbd_schedule.specs.Playing.{IsPlay}
use Rattle.rbd_schedule.specs.Schedule.{Calm, DeliversWhere, Pace, PollsIn, PollsWhere, RoundsOn, Submits, SessionTurn, TurnOf, TurnWhere, closing_rounds, is_held, most_idle}
use Rattle.rbd_schedule.specs.Slots.{AreClientsCounted}
use Rattle.rbd_schedule.proofs.Ended.{NoneRuns, skip_turns}
use Rattle.rbd_schedule.proofs.Kept.{kept_by_deeds, kept_by_starts, kept_where, kept_where_due, kept_where_runs}

-- at least so many events came
abbrev HasMade : {R : Type 0} → (n : ℕ) → WorldView R → Type 0
HasMade n w = n ≤ length w.calls

module _ {R : Type 0} (stands : R → Standing) (given : (session : ℕ) → List Given) (lost : (number : ℕ) → Bool) where
  -- each event is one more
  one_event : (n : ℕ) (e : Event) (result : Outcome) (old new : WorldView R) → IsWorldStep stands e old result new → HasMade n old → HasMade (suc n) new
  one_event n e result old new (is, does) made =
      let more = length_push old.calls (call_of e (happening stands e old)) in
      subst (λ calls. suc n ≤ length calls) (sym does.calls) (omega (arith, more, made))

  keeps : (n : ℕ) (e : Event) (result : Outcome) (old new : WorldView R) → Unit {0} → IsWorldStep stands e old result new → AreClientsCounted new → HasMade n old → HasMade n new
  keeps n e result old new may step counted made = let more = one_event n e result old new step made in omega (arith, more)

  starts_keep : (n session : ℕ) (old new : WorldView R) → Submits stands given session old new → HasMade n old → HasMade n new
  starts_keep n session old new submits made = keeps n submits.command.submission submits.result old new tt submits.step submits.counted made

  -- a poll makes one
  poll_makes : (n session slot : ℕ) (old new : Pace R) → PollsIn stands given session slot old new → HasMade n old.world → HasMade (suc n) new.world
  poll_makes n session slot old new polls made =
      kept_by_starts stands (HasMade (suc n)) (λ e. Unit {0}) (λ s k. tt) (λ k. tt) (keeps (suc n)) given (starts_keep (suc n)) polls.comes.between new.world polls.comes.starts
      (one_event n (event.Poll session slot) polls.result old.world polls.comes.between polls.comes.step made)

  -- so does the turn of a session that runs
  turn_makes : (n session : ℕ) (old new : Pace R) → SessionTurn stands given lost session old new → HasMade n old.world → HasMade (suc n) new.world
  turn_makes n session old new turn made =
      let told = kept_by_deeds (HasMade n) (λ k. DeliversWhere stands given (is_notice_due lost session (k + 1) old.world) (k + 1))
      (λ k. kept_where_due stands (HasMade n) (λ e. Unit {0}) (λ s i. tt) (λ i. tt) (keeps n) given (starts_keep n) (is_notice_due lost session (k + 1) old.world) (k + 1))
      (length old.world.sites.mail) old.world turn.told turn.notices made in
      kept_by_deeds (λ (p : Pace R). HasMade (suc n) p.world) (λ k. PollsWhere stands given (is_held session (k + 1) turn.polls.point.world) session (k + 1))
      (λ k. kept_where stands (HasMade (suc n)) (λ e. Unit {0}) (λ s i. tt) (λ i. tt) (keeps (suc n)) given (starts_keep (suc n)) (is_held session (k + 1) turn.polls.point.world) session (k + 1))
      64 turn.polls.point new turn.polls.held
      (poll_makes n session 0 (record { world = turn.told; went_on = old.went_on }) turn.polls.point turn.polls.slot_0 told)

  -- so many turns made one, or none of their sessions runs, and nothing happened
  abbrev MadeOrStill : (n k : ℕ) → (old new : Pace R) → Type 0
  MadeOrStill n k old new = HasMade (suc n) new.world ⊎ ((new ≡ old) × NoneRuns stands given lost k old.world)

  turn_after : (n k : ℕ) (old between new : Pace R) (running : Bool) → runs k between.world ≡ running → HasMade n old.world → TurnWhere stands given lost running k between new
      → MadeOrStill n k old between → MadeOrStill n (suc k) old new
  turn_after n k old between new running at made turn (inl more) =
      inl (kept_where_runs stands (HasMade (suc n)) (λ e. Unit {0}) (λ s i. tt) (λ i. tt) (keeps (suc n)) given (starts_keep (suc n)) lost running k between new turn more)
  turn_after n k old between new true at made turn (inr (same, none)) = inl (turn_makes n k between new turn (subst (λ (p : Pace R). HasMade n p.world) (sym same) made))
  turn_after n k old between new false at made still (inr (same, none)) = inr (still ∙ same, λ s below. by s below (cases_lt s k))
    where
      by : (s : ℕ) → s < suc k → (s < k) ⊎ (k ≤ s) → runs s old.world ≡ false
      by s below (inl less) = none s less
      by s below (inr more) =
          let is : k ≡ s = omega (arith, below, more) in
          subst (λ i. runs i old.world ≡ false) is (ap (λ (p : Pace R). runs k p.world) (sym same) ∙ at)

  turns_make : (n k : ℕ) (old new : Pace R) → Deeds (TurnOf stands given lost) k old new → HasMade n old.world → MadeOrStill n k old new
  unfolding Deeds
  turns_make n zero old new done made = inr (done, λ s below. absurd (omega (arith, below)))
  turns_make n (suc k) old new (between, before, it) made = turn_after n k old between new (runs k between.world) refl made it (turns_make n k old between before made)

  -- ---- rounds

  module _ (sessions : ℕ) where
    -- each round made one; or nobody runs any more, and those that made none are the last
    abbrev AreMade : (n : ℕ) → Calm R → Type 0
    AreMade n c = HasMade n c.world ⊎ (NoneRuns stands given lost sessions c.world × (n ≤ length c.world.calls + c.idle))

    idle_round : (n : ℕ) (old new : Calm R) (on : RoundsOn stands given lost sessions old new)
        → ◌≡◌ {A = Pace R} (record { world = new.world; went_on = on.went_on }) (record { world = old.world; went_on = false })
        → NoneRuns stands given lost sessions old.world → n ≤ length old.world.calls + old.idle → AreMade (suc n) new
    idle_round n old new on same none few =
        let world : new.world ≡ old.world = ap (λ (p : Pace R). p.world) same in
        let idle : new.idle ≡ old.idle + 1 = on.idle ∙ ap (λ (p : Pace R). cond p.went_on 0 (old.idle + 1)) same in
        inr (
          subst (λ (w : WorldView R). NoneRuns stands given lost sessions w) (sym world) none,
          subst (λ (w : WorldView R). suc n ≤ length w.calls + new.idle) (sym world) (omega (arith, idle, few)),
        )

    one_round : (n : ℕ) (old new : Calm R) → RoundsOn stands given lost sessions old new → AreMade n old → AreMade (suc n) new
    one_round n old new on (inl made) = by (turns_make n sessions (record { world = old.world; went_on = false }) (record { world = new.world; went_on = on.went_on }) on.round made)
      where
        by : MadeOrStill n sessions (record { world = old.world; went_on = false }) (record { world = new.world; went_on = on.went_on }) → AreMade (suc n) new
        by (inl more) = inl more
        by (inr (same, none)) = idle_round n old new on same none (omega (arith, made))
    one_round n old new on (inr (none, few)) =
        idle_round n old new on (skip_turns stands given lost sessions (record { world = old.world; went_on = false }) (record { world = new.world; went_on = on.went_on }) on.round none) none few

    all_rounds : (n : ℕ) (old new : Calm R) → Deeds (λ i. RoundsOn stands given lost sessions) n old new → AreMade n new
    unfolding Deeds
    all_rounds zero old new done = inl (omega arith)
    all_rounds (suc n) old new (between, before, it) = one_round n between new it (all_rounds n old between before)

    -- eight at most are idle in a row
    few_idle : (n : ℕ) (old new : Calm R) → Deeds (λ i. RoundsOn stands given lost sessions) n old new → old.idle ≡ 0 → new.idle ≤ most_idle
    unfolding Deeds
    few_idle zero old new done none = subst (λ (c : Calm R). c.idle ≤ most_idle) (sym done) (omega (arith, none))
    few_idle (suc n) old new (between, before, it) none = by it.went_on it.idle
      where
        by : (b : Bool) → new.idle ≡ cond b 0 (between.idle + 1) → new.idle ≤ most_idle
        by true is = omega (arith, is)
        by false is = let few = it.few in omega (arith, is, few)

module _ {R : Type 0} (stands : R → Standing) (script : Script) (w : WorldView R) (play : IsPlay stands script w) where
  pub rounds_are_events : play.plays.closing.count ≤ length w.calls + 8
  rounds_are_events = by (all_rounds stands (given_in script.lines) (is_lost_by script.lines) (length script.sessions) count start end on)
    where
      count : ℕ
      count = play.plays.closing.count

      start : Calm R
      start = record { world = play.plays.between; idle = 0 }

      end : Calm R
      end = record { world = w; idle = play.plays.closing.idle }

      on : Deeds (λ i. RoundsOn stands (given_in script.lines) (is_lost_by script.lines) (length script.sessions)) count start end
      on = play.plays.closing.on

      eight : play.plays.closing.idle ≤ 8
      eight = few_idle stands (given_in script.lines) (is_lost_by script.lines) (length script.sessions) count start end on refl

      by : AreMade stands (given_in script.lines) (is_lost_by script.lines) (length script.sessions) count end → count ≤ length w.calls + 8
      by (inl made) = omega (arith, made)
      by (inr (none, few)) = omega (arith, few, eight)

  -- where fewer events came, never all the rounds that close a script
  pub ends_idle : length w.calls < 2 ^ 59 → play.plays.closing.idle ≡ most_idle
  ends_idle few = by play.plays.closing.ends
    where
      by : (play.plays.closing.count ≡ closing_rounds (length (commands_of script.lines))) ⊎ (play.plays.closing.idle ≡ most_idle) → play.plays.closing.idle ≡ most_idle
      by (inl spent) =
          let least : 2 ^ 60 ≤ 2 ^ 60 * (length (commands_of script.lines) + 1) = omega arith in
          let most = rounds_are_events in
          let small : 2 ^ 59 + 8 < 2 ^ 60 = omega arith in
          absurd (omega (arith, few, spent, least, most, small))
      by (inr eight) = eight
