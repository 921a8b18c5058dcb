-- A round in which nothing went on: at its end each slot of each session is still.
use Rattle.std.proofs.Common.{◌≡◌, ℕ, zero, suc, ◌+◌, ◌<◌, ◌≤◌, ◌==◌, ◌⊎◌, inl, inr, Bool, true, false, List, length, is_some, Option, Some, None, refl, sym, ap, ◌∙◌, subst, arith}
use Rattle.std.proofs.lemmas.Bool.{cases_lt, ne_eqb, or_parts, true≢false}
use Rattle.std.proofs.lemmas.Option.{none-some, same_Some}
use Rattle.rbd_client.specs.Actor.{actor_at}
use Rattle.rbd_client.specs.Client.{ClientView}
use Rattle.rbd_machine.specs.Plan.{Standing}
use Rattle.rbd_slots.specs.Session.{IsSoundSession, SessionView, held_in, script_line}
use Rattle.rbd_slots.specs.declared.running.Occupant.{Occupant}
use Rattle.rbd_slots.specs.declared.running.Occupant.TheVariants as occupant
use Rattle.rbd_world.specs.declared.event.Event.TheVariants as event
use Rattle.rbd_world.specs.declared.event.Outcome.{Outcome}
use Rattle.rbd_world.specs.Run.{outcome_of}
use Rattle.rbd_world.specs.Sound.{held_of}
use Rattle.rbd_world.specs.Step.{IsWorldStep, polled}
use Rattle.rbd_world.specs.World.{WorldView, client_in, session_in, session_of_client}
use Rattle.rbd_schedule.specs.declared.given.Given.{Given}
use Rattle.rbd_schedule.specs.Deeds.{Deeds}
use Rattle.rbd_schedule.specs.Notices.{is_notice_due, runs}
use Rattle.rbd_schedule.specs.Schedule.{Comes, DeliversWhere, Happens, Pace, PollsAll, PollsIn, PollsWhere, Starts, TurnOf, TurnWhere, goes_on, is_held}
use Rattle.rbd_schedule.specs.Starts.{IsIdle, IsQuiet}
use Rattle.rbd_schedule.proofs.Idle.{Asked, IsIdleStep, IsStill, IsStillIn, StaysIn, Told, same_sessions, stays_quiet, stays_still, still_before}

-- a slot whose line isn't there is free
pub free_there : {R : Type 0} (o : Option (Occupant R)) → script_line o ≡ None → o ≡ None
free_there None is = refl
free_there (Some (occupant.Refused line refusal)) is = absurd (none-some line (sym is))
free_there (Some (occupant.Running r)) is = absurd (none-some r.line (sym is))

unheld_there : {R : Type 0} (o : Option (Occupant R)) → is_some (script_line o) ≡ false → o ≡ None
unheld_there None is = refl
unheld_there (Some (occupant.Refused line refusal)) is = absurd (true≢false is)
unheld_there (Some (occupant.Running r)) is = absurd (true≢false is)

pub either_way : {P : Type 0} (n m : ℕ) → (n < m → P) → (m ≤ n → P) → P
either_way {P} n m less more = by (cases_lt n m)
  where
    by : (n < m) ⊎ (m ≤ n) → P
    by (inl is) = less is
    by (inr is) = more is

module _ {R : Type 0} (stands : R → Standing) (given : (session : ℕ) → List Given) where
  -- where none may start, none does
  pub no_starts : (count : ℕ) (old new : WorldView R) → Deeds (λ k. Starts stands given) count old new → IsQuiet given old → new ≡ old
  unfolding Deeds
  no_starts zero old new done quiet = done
  no_starts (suc n) old new (between, before, it) quiet =
      let same : between ≡ old = no_starts n old between before quiet in
      absurd (none-some it.submits.command (sym (subst (λ w. IsIdle given w it.session) (sym same) (quiet it.session)) ∙ it.submits.may))

  -- so an event of an idle round is all that comes
  told_alone : (number : ℕ) (old new : WorldView R) → Happens stands given (event.Deliver number) old new → IsQuiet given old → IsIdleStep stands old new
  told_alone number old new happens quiet =
      let comes = happens.comes in
      let first : IsIdleStep stands old comes.between = Told number happens.result comes.step in
      subst (IsIdleStep stands old) (sym (no_starts comes.starts.count comes.between new comes.starts.starts (stays_quiet stands given old comes.between first quiet))) first

  polled_alone : (session slot : ℕ) (result : Outcome) (old new : WorldView R) → Comes stands given (event.Poll session slot) result old new → goes_on result ≡ false → IsQuiet given old → IsIdleStep stands old new
  polled_alone session slot result old new comes still quiet =
      let first : IsIdleStep stands old comes.between = Asked session slot result still comes.step in
      subst (IsIdleStep stands old) (sym (no_starts comes.starts.count comes.between new comes.starts.starts (stays_quiet stands given old comes.between first quiet))) first

  -- ---- nothing went on before either

  before_poll : (session slot : ℕ) (old new : Pace R) → PollsIn stands given session slot old new → new.went_on ≡ false → old.went_on ≡ false
  before_poll session slot old new polls still = (or_parts old.went_on (goes_on polls.result) (sym polls.pace ∙ still)).0

  pub step_of : (session slot : ℕ) (old new : Pace R) → (polls : PollsIn stands given session slot old new) → new.went_on ≡ false → goes_on polls.result ≡ false
  step_of session slot old new polls still = (or_parts old.went_on (goes_on polls.result) (sym polls.pace ∙ still)).1

  pub before_where : (held : Bool) (session slot : ℕ) (old new : Pace R) → PollsWhere stands given held session slot old new → new.went_on ≡ false → old.went_on ≡ false
  before_where true session slot old new polls still = before_poll session slot old new polls still
  before_where false session slot old new same still = subst (λ (p : Pace R). p.went_on ≡ false) same still

  abbrev pub HeldPolls : (session : ℕ) → (point : Pace R) → ℕ → Pace R → Pace R → Type 0
  HeldPolls session point k = PollsWhere stands given (is_held session (k + 1) point.world) session (k + 1)

  pub before_polls : (session : ℕ) (point : Pace R) (n : ℕ) (old new : Pace R) → Deeds (HeldPolls session point) n old new → new.went_on ≡ false → old.went_on ≡ false
  unfolding Deeds
  before_polls session point zero old new done still = subst (λ (p : Pace R). p.went_on ≡ false) done still
  before_polls session point (suc n) old new (between, first, it) still =
      before_polls session point n old between first (before_where (is_held session (n + 1) point.world) session (n + 1) between new it still)

  before_all : (session : ℕ) (old new : Pace R) → PollsAll stands given session old new → new.went_on ≡ false → old.went_on ≡ false
  before_all session old new polls still = before_poll session 0 old polls.point polls.slot_0 (before_polls session polls.point 64 polls.point new polls.held still)

  module _ (lost : (number : ℕ) → Bool) where
    pub before_turn : (running : Bool) (session : ℕ) (old new : Pace R) → TurnWhere stands given lost running session old new → new.went_on ≡ false → old.went_on ≡ false
    before_turn true session old new turn still = before_all session (record { world = turn.told; went_on = old.went_on }) new turn.polls still
    before_turn false session old new same still = subst (λ (p : Pace R). p.went_on ≡ false) same still

  -- ---- what each of these events keeps, an idle round keeps, and its parts

  module _ (P : WorldView R → Type 0) (step : (a b : WorldView R) → IsIdleStep stands a b → P a → P b) where
    -- it holds again, and none may start
    abbrev Keeps : WorldView R → Type 0
    Keeps w = P w × IsQuiet given w

    keeps_step : (a b : WorldView R) → IsIdleStep stands a b → Keeps a → Keeps b
    keeps_step a b is (holds, quiet) = (step a b is holds, stays_quiet stands given a b is quiet)

    pub keeps_poll : (session slot : ℕ) (old new : Pace R) → PollsIn stands given session slot old new → new.went_on ≡ false → Keeps old.world → Keeps new.world
    keeps_poll session slot old new polls still keeps =
        keeps_step old.world new.world (polled_alone session slot polls.result old.world new.world polls.comes (step_of session slot old new polls still) keeps.1) keeps

    pub keeps_where : (held : Bool) (session slot : ℕ) (old new : Pace R) → PollsWhere stands given held session slot old new → new.went_on ≡ false → Keeps old.world → Keeps new.world
    keeps_where true session slot old new polls still keeps = keeps_poll session slot old new polls still keeps
    keeps_where false session slot old new same still keeps = subst (λ (p : Pace R). Keeps p.world) (sym same) keeps

    pub keeps_polls : (session : ℕ) (point : Pace R) (n : ℕ) (old new : Pace R) → Deeds (HeldPolls session point) n old new → new.went_on ≡ false → Keeps old.world → Keeps new.world
    unfolding Deeds
    keeps_polls session point zero old new done still keeps = subst (λ (p : Pace R). Keeps p.world) (sym done) keeps
    keeps_polls session point (suc n) old new (between, first, it) still keeps =
        keeps_where (is_held session (n + 1) point.world) session (n + 1) between new it still
        (keeps_polls session point n old between first (before_where (is_held session (n + 1) point.world) session (n + 1) between new it still) keeps)

    pub keeps_all : (session : ℕ) (old new : Pace R) → PollsAll stands given session old new → new.went_on ≡ false → Keeps old.world → Keeps new.world
    keeps_all session old new polls still keeps =
        keeps_polls session polls.point 64 polls.point new polls.held still
        (keeps_poll session 0 old polls.point polls.slot_0 (before_polls session polls.point 64 polls.point new polls.held still) keeps)

    pub keeps_due : (due : Bool) (number : ℕ) (old new : WorldView R) → DeliversWhere stands given due number old new → Keeps old → Keeps new
    keeps_due true number old new happens keeps = keeps_step old new (told_alone number old new happens keeps.1) keeps
    keeps_due false number old new same keeps = subst Keeps (sym same) keeps

    pub keeps_dues : (due : ℕ → Bool) (n : ℕ) (old new : WorldView R) → Deeds (λ k. DeliversWhere stands given (due k) (k + 1)) n old new → Keeps old → Keeps new
    unfolding Deeds
    keeps_dues due zero old new done keeps = subst Keeps (sym done) keeps
    keeps_dues due (suc n) old new (between, first, it) keeps = keeps_due (due n) (n + 1) between new it (keeps_dues due n old between first keeps)

    module _ (lost : (number : ℕ) → Bool) where
      pub keeps_turn : (running : Bool) (session : ℕ) (old new : Pace R) → TurnWhere stands given lost running session old new → new.went_on ≡ false → Keeps old.world → Keeps new.world
      keeps_turn true session old new turn still keeps =
          keeps_all session (record { world = turn.told; went_on = old.went_on }) new turn.polls still
          (keeps_dues (λ k. is_notice_due lost session (k + 1) old.world) (length old.world.sites.mail) old.world turn.told turn.notices keeps)
      keeps_turn false session old new same still keeps = subst (λ (p : Pace R). Keeps p.world) (sym same) keeps

      pub keeps_turns : (n : ℕ) (old new : Pace R) → Deeds (TurnOf stands given lost) n old new → new.went_on ≡ false → Keeps old.world → Keeps new.world
      unfolding Deeds
      keeps_turns zero old new done still keeps = subst (λ (p : Pace R). Keeps p.world) (sym done) keeps
      keeps_turns (suc n) old new (between, first, it) still keeps =
          keeps_turn (runs n between.world) n between new it still (keeps_turns n old between first (before_turn lost (runs n between.world) n between new it still) keeps)

  -- ---- sessions with their requests

  abbrev pub AreSoundSessions : WorldView R → Type 0
  AreSoundSessions w = (s : ℕ) (c : ClientView R) → client_in s w.lives ≡ Some c → IsSoundSession stands c.session

  session_at : (s : ℕ) (w : WorldView R) (c : ClientView R) → client_in s w.lives ≡ Some c → session_in s w.lives ≡ Some c.session
  session_at s w c is = ap session_of_client is

  pub client_of : (s : ℕ) (o : Option (ClientView R)) (x : SessionView R) → session_of_client o ≡ Some x → (c : ClientView R) × (o ≡ Some c) × (c.session ≡ x)
  client_of s None x is = absurd (none-some x is)
  client_of s (Some c) x is = (c, refl, same_Some c.session x is)

  -- where the requests are the same, they are sound again
  pub sound_again : (old new : WorldView R) → ((s : ℕ) → session_in s new.lives ≡ session_in s old.lives) → AreSoundSessions old → AreSoundSessions new
  sound_again old new same sound s c is =
      let was = client_of s (client_in s old.lives) c.session (sym (same s) ∙ session_at s new c is) in
      subst (IsSoundSession stands) was.2 (sound s was.0 was.1)

  pub sounds_step : (a b : WorldView R) → IsIdleStep stands a b → AreSoundSessions a → AreSoundSessions b
  sounds_step a b is sound = sound_again a b (same_sessions stands a b is) sound

  -- the requests are those of an earlier world
  abbrev pub HasRequestsOf : (before w : WorldView R) → Type 0
  HasRequestsOf before w = (s : ℕ) → session_in s w.lives ≡ session_in s before.lives

  pub requests_step : (before a b : WorldView R) → IsIdleStep stands a b → HasRequestsOf before a → HasRequestsOf before b
  requests_step before a b is same s = same_sessions stands a b is s ∙ same s

  -- ---- a slot that was polled is still

  still_by_poll : (session slot : ℕ) (old new : WorldView R) (result : Outcome) → IsWorldStep stands (event.Poll session slot) old result new → goes_on result ≡ false → AreSoundSessions old → IsStillIn stands session slot old
  still_by_poll session slot old new result (is, does) still sound c at =
      still_before stands old.sites c slot (sound session c at)
      (ap (λ o. goes_on (outcome_of (polled stands old.sites slot o))) (sym at) ∙ sym (ap goes_on is) ∙ still)

  pub not_zero : (k : ℕ) → ((k + 1) == 0) ≡ false
  not_zero k = ne_eqb (k + 1) 0 (λ is. absurd (omega (arith, is)))

  -- ---- what holds of each slot that was polled, and stays

  -- `I` holds of the worlds of an idle round. `Q` holds for a slot of a session behind its poll,
  -- and where it is free; and what an idle round plays leaves it.
  module _ (I : WorldView R → Type 0) (I_step : (a b : WorldView R) → IsIdleStep stands a b → I a → I b) where
    module _ (Q : (session slot : ℕ) → WorldView R → Type 0)
        (Q_step : (session slot : ℕ) → (slot == 0) ≡ false → (a b : WorldView R) → IsIdleStep stands a b → I a → Q session slot a → Q session slot b)
        (Q_behind : (session slot : ℕ) → (slot == 0) ≡ false → (a b : WorldView R) (result : Outcome) → IsWorldStep stands (event.Poll session slot) a result b → goes_on result ≡ false → I a → Q session slot b)
        (Q_free : (session slot : ℕ) (w : WorldView R) → ((c : ClientView R) → client_in session w.lives ≡ Some c → held_in slot c.session.slots ≡ None) → Q session slot w) where
      -- a slot that was polled, or wasn't held
      holds_where : (held : Bool) (session k : ℕ) (point old new : Pace R) → is_held session (k + 1) point.world ≡ held → PollsWhere stands given held session (k + 1) old new → new.went_on ≡ false
          → IsQuiet given old.world → I old.world → HasRequestsOf point.world old.world → Q session (k + 1) new.world
      holds_where true session k point old new at polls still quiet is same =
          let none = step_of session (k + 1) old new polls still in
          let comes = polls.comes in
          let first : IsIdleStep stands old.world comes.between = Asked session (k + 1) polls.result none comes.step in
          let settled = no_starts comes.starts.count comes.between new.world comes.starts.starts (stays_quiet stands given old.world comes.between first quiet) in
          subst (Q session (k + 1)) (sym settled) (Q_behind session (k + 1) (not_zero k) old.world comes.between polls.result comes.step none is)
      holds_where false session k point old new at same_pace still quiet is same = Q_free session (k + 1) new.world (λ c there.
          let was : session_in session point.world.lives ≡ Some c.session = sym (same session) ∙ session_at session old.world c (ap (λ (p : Pace R). client_in session p.world.lives) (sym same_pace) ∙ there) in
          unheld_there (held_in (k + 1) c.session.slots) (sym (ap (λ x. is_some (script_line (held_of (k + 1) x))) was) ∙ at))

      -- what holds of it stays beside the rest
      abbrev Both : (session slot : ℕ) → WorldView R → Type 0
      Both session slot w = Q session slot w × I w

      both_step : (session slot : ℕ) → (slot == 0) ≡ false → (a b : WorldView R) → IsIdleStep stands a b → Both session slot a → Both session slot b
      both_step session slot some a b step (holds, is) = (Q_step session slot some a b step is holds, I_step a b step is)

      -- so it holds of each of them, behind the polls of a turn
      holds_polls : (session : ℕ) (point : Pace R) (n : ℕ) (new : Pace R) → Deeds (HeldPolls session point) n point new → new.went_on ≡ false → IsQuiet given point.world → I point.world
          → (k : ℕ) → k < n → Q session (k + 1) new.world
      unfolding Deeds
      holds_polls session point zero new done still quiet is k below = absurd (omega (arith, below))
      holds_polls session point (suc n) new (between, first, it) still quiet is k below =
          let before = before_where (is_held session (n + 1) point.world) session (n + 1) between new it still in
          let then = keeps_polls I I_step session point n point between first before (is, quiet) in
          let requests = keeps_polls (HasRequestsOf point.world) (requests_step point.world) session point n point between first before ((λ s. refl), quiet) in
          either_way k n
          (λ less. (keeps_where (Both session (k + 1)) (both_step session (k + 1) (not_zero k)) (is_held session (n + 1) point.world) session (n + 1) between new it still
          ((holds_polls session point n between first before quiet is k less, then.0), then.1)).0.0)
          (λ more.
          let same : k ≡ n = omega (arith, below, more) in
          subst (λ j. Q session (j + 1) new.world) (sym same)
          (holds_where (is_held session (n + 1) point.world) session n point between new refl it still then.1 then.0 requests.0))

      module _ (lost : (number : ℕ) → Bool) where
        holds_turn : (running : Bool) (session : ℕ) (old new : Pace R) → runs session old.world ≡ running → TurnWhere stands given lost running session old new → new.went_on ≡ false → IsQuiet given old.world
            → I old.world → (k : ℕ) → k < 64 → Q session (k + 1) new.world
        holds_turn true session old new at turn still quiet is k below =
            let polls = turn.polls in
            let before = before_polls session polls.point 64 polls.point new polls.held still in
            let told = keeps_dues I I_step (λ k. is_notice_due lost session (k + 1) old.world) (length old.world.sites.mail) old.world turn.told turn.notices (is, quiet) in
            let point = keeps_poll I I_step session 0 (record { world = turn.told; went_on = old.went_on }) polls.point polls.slot_0 before told in
            holds_polls session polls.point 64 new polls.held still point.1 point.0 k below
        holds_turn false session old new at same still quiet is k below = Q_free session (k + 1) new.world (λ c there.
            absurd (true≢false (sym (ap is_some there) ∙ subst (λ (p : Pace R). runs session p.world ≡ false) (sym same) at)))

        -- and behind a round, of those of all sessions
        pub comes_turns : (n : ℕ) (old new : Pace R) → Deeds (TurnOf stands given lost) n old new → new.went_on ≡ false → IsQuiet given old.world → I old.world
            → (session : ℕ) → session < n → (k : ℕ) → k < 64 → Q session (k + 1) new.world
        unfolding Deeds
        comes_turns zero old new done still quiet is session below k within = absurd (omega (arith, below))
        comes_turns (suc n) old new (between, first, it) still quiet is session below k within =
            let before = before_turn lost (runs n between.world) n between new it still in
            let then = keeps_turns I I_step lost n old between first before (is, quiet) in
            either_way session n
            (λ less. (keeps_turn (Both session (k + 1)) (both_step session (k + 1) (not_zero k)) lost (runs n between.world) n between new it still
            ((comes_turns n old between first before quiet is session less k within, then.0), then.1)).0.0)
            (λ more.
            let same : session ≡ n = omega (arith, below, more) in
            subst (λ s. Q s (k + 1) new.world) (sym same) (holds_turn (runs n between.world) n between new refl it still then.1 then.0 k within))

  -- so does what holds of a client's slot where it is polled
  module _ (I : WorldView R → Type 0) (I_step : (a b : WorldView R) → IsIdleStep stands a b → I a → I b) (Q : (slot : ℕ) → ClientView R → Type 0) where
    abbrev HoldsIn : (session slot : ℕ) → WorldView R → Type 0
    HoldsIn session slot w = (c : ClientView R) → client_in session w.lives ≡ Some c → Q slot c

    module _ (Q_step : (session slot : ℕ) → (slot == 0) ≡ false → (a b : WorldView R) → IsIdleStep stands a b → I a → HoldsIn session slot a → HoldsIn session slot b)
        (Q_poll : (session slot : ℕ) (a b : WorldView R) (result : Outcome) → IsWorldStep stands (event.Poll session slot) a result b → goes_on result ≡ false → I a → HoldsIn session slot a)
        (Q_free : (slot : ℕ) (c : ClientView R) → held_in slot c.session.slots ≡ None → Q slot c) where
      pub holds_turns : (lost : (number : ℕ) → Bool) (n : ℕ) (old new : Pace R) → Deeds (TurnOf stands given lost) n old new → new.went_on ≡ false → IsQuiet given old.world → I old.world
          → (session : ℕ) → session < n → (k : ℕ) → k < 64 → HoldsIn session (k + 1) new.world
      holds_turns =
          comes_turns I I_step HoldsIn Q_step
          (λ session slot some a b result step none is. Q_step session slot some a b (Asked session slot result none step) is (Q_poll session slot a b result step none is))
          (λ session slot w free c there. Q_free slot c (free c there))

  module _ (lost : (number : ℕ) → Bool) where
    -- so each slot is still behind an idle round
    pub still_turns : (n : ℕ) (old new : Pace R) → Deeds (TurnOf stands given lost) n old new → new.went_on ≡ false → IsQuiet given old.world → AreSoundSessions old.world
        → (session : ℕ) → session < n → (k : ℕ) → k < 64 → IsStillIn stands session (k + 1) new.world
    still_turns n old new turns still quiet sound =
        holds_turns AreSoundSessions sounds_step (IsStill stands)
        (λ session slot some a b step is. stays_still stands session slot some a b step)
        (λ session slot a b result step none is. still_by_poll session slot a b result step none is)
        (λ slot c free. subst (StaysIn slot c.session.lines (actor_at stands slot c)) (sym free) tt) lost n old new turns still quiet sound

    -- ---- whether none may start behind a round

    quiet_where : (held : Bool) (session slot : ℕ) (old new : Pace R) → PollsWhere stands given held session slot old new → IsQuiet given old.world → IsQuiet given new.world
    quiet_where true session slot old new polls quiet = polls.comes.starts.quiet
    quiet_where false session slot old new same quiet = subst (λ (p : Pace R). IsQuiet given p.world) (sym same) quiet

    quiet_polls : (session : ℕ) (point : Pace R) (n : ℕ) (old new : Pace R) → Deeds (HeldPolls session point) n old new → IsQuiet given old.world → IsQuiet given new.world
    unfolding Deeds
    quiet_polls session point zero old new done quiet = subst (λ (p : Pace R). IsQuiet given p.world) (sym done) quiet
    quiet_polls session point (suc n) old new (between, first, it) quiet = quiet_where (is_held session (n + 1) point.world) session (n + 1) between new it (quiet_polls session point n old between first quiet)

    -- none runs of the first so many
    abbrev pub NoneRuns : (n : ℕ) → WorldView R → Type 0
    NoneRuns n w = (s : ℕ) → s < n → runs s w ≡ false

    quiet_turn : (running : Bool) (n : ℕ) (old between new : Pace R) → runs n between.world ≡ running → TurnWhere stands given lost running n between new
        → IsQuiet given between.world ⊎ ((between ≡ old) × NoneRuns n between.world) → IsQuiet given new.world ⊎ ((new ≡ old) × NoneRuns (suc n) new.world)
    quiet_turn true n old between new at turn so_far = inl (quiet_polls n turn.polls.point 64 turn.polls.point new turn.polls.held turn.polls.slot_0.comes.starts.quiet)
    quiet_turn false n old between new at same (inl quiet) = inl (subst (λ (p : Pace R). IsQuiet given p.world) (sym same) quiet)
    quiet_turn false n old between new at same (inr (was, none)) = inr (
      same ∙ was,
      λ s below. subst (λ (p : Pace R). runs s p.world ≡ false) (sym same)
          (either_way s n (none s) (λ more. let is : s ≡ n = omega (arith, below, more) in subst (λ k. runs k between.world ≡ false) (sym is) at)),
    )

    pub quiet_turns : (n : ℕ) (old new : Pace R) → Deeds (TurnOf stands given lost) n old new → IsQuiet given new.world ⊎ ((new ≡ old) × NoneRuns n new.world)
    unfolding Deeds
    quiet_turns zero old new done = inr (done, λ s below. absurd (omega (arith, below)))
    quiet_turns (suc n) old new (between, first, it) = quiet_turn (runs n between.world) n old between new refl it (quiet_turns n old between first)

    -- where none runs, nothing happens in a round
    skip_turn : (running : Bool) (session : ℕ) (old new : Pace R) → runs session old.world ≡ running → runs session old.world ≡ false → TurnWhere stands given lost running session old new → new ≡ old
    skip_turn true session old new at none turn = absurd (true≢false (sym at ∙ none))
    skip_turn false session old new at none same = same

    pub skip_turns : (n : ℕ) (old new : Pace R) → Deeds (TurnOf stands given lost) n old new → NoneRuns n old.world → new ≡ old
    unfolding Deeds
    skip_turns zero old new done none = done
    skip_turns (suc n) old new (between, first, it) none =
        let same : between ≡ old = skip_turns n old between first (λ s below. none s (omega (arith, below))) in
        skip_turn (runs n between.world) n between new refl (ap (λ (p : Pace R). runs n p.world) same ∙ none n (omega arith)) it ∙ same

    pub none_still : (n : ℕ) (old new : Pace R) → Deeds (TurnOf stands given lost) n old new → NoneRuns n old.world → NoneRuns n new.world
    none_still n old new turns none = subst (λ (p : Pace R). NoneRuns n p.world) (sym (skip_turns n old new turns none)) none
