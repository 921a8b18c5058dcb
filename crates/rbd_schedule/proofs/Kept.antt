-- What each event and each start keeps, a play keeps.
use Rattle.std.proofs.Common.{◌≡◌, ℕ, zero, suc, ◌+◌, Bool, true, false, List, [], ◌++◌, length, take, drop, take-append-drop, append-nil, slice_get, Some, sym, subst}
use Rattle.rbd_machine.specs.Plan.{Standing}
use Rattle.rbd_script.specs.declared.script.Line.{Line}
use Rattle.rbd_script.specs.declared.script.Said.{Said}
use Rattle.rbd_script.specs.declared.script.Said.TheVariants as said
use Rattle.rbd_script.specs.declared.script.Script.{Script}
use Rattle.rbd_world.specs.declared.event.Event.{Event}
use Rattle.rbd_world.specs.declared.event.Event.TheVariants as event
use Rattle.rbd_world.specs.declared.event.Outcome.{Outcome}
use Rattle.rbd_world.specs.Step.{IsWorldStep}
use Rattle.rbd_world.specs.World.{WorldView}
use Rattle.rbd_schedule.specs.declared.given.Given.{Given}
use Rattle.rbd_schedule.specs.Deeds.{Deeds}
use Rattle.rbd_schedule.specs.Given.{commands_of, given_in, is_lost_by}
use Rattle.rbd_schedule.specs.Notices.{is_notice_due, runs}
use Rattle.rbd_schedule.specs.Playing.{IsNoStart}
use Rattle.rbd_schedule.specs.Schedule.{Calm, Comes, DeliversWhere, Happens, Pace, Plays, PlaysLine, PlaysScript, Polls, PollsAll, PollsBefore, PollsIn, PollsWhere, Round, RoundsOn, Settles, Starts, StartsAll, Submits, SessionTurn, TurnOf, TurnWhere, closing_rounds, is_held}
use Rattle.rbd_schedule.specs.Slots.{AreClientsCounted}

-- what each of the deeds keeps, all keep
pub kept_by_deeds : {S : Type 0} (P : S → Type 0) (deed : ℕ → S → S → Type 0) → ((k : ℕ) (old new : S) → deed k old new → P old → P new) → (n : ℕ) (old new : S) → Deeds deed n old new → P old → P new
unfolding Deeds
kept_by_deeds P deed each zero old new done is = subst P (sym done) is
kept_by_deeds P deed each (suc n) old new (between, before, it) is = each n between new it (kept_by_deeds P deed each n old between before is)

-- the event of a line may come, where the line is one
abbrev pub MayComeBy : (May : Event → Type 0) → Said → Type 0
MayComeBy May (said.Expire session site image) = May (event.Expire session site image)
MayComeBy May (said.Stop session) = May (event.Stop session)
MayComeBy May (said.Restart session) = May (event.Restart session)
MayComeBy May (said.Late session slot) = May (event.Late session slot)
MayComeBy May (said.Trim site image object) = May (event.Trim site image object)
MayComeBy May s = Unit {0}

-- What each event keeps that may come, and each start. Polls and deliveries may come in each
-- script, and beside them the lines' own events.
module _ {R : Type 0} (stands : R → Standing) (P : WorldView R → Type 0) (May : Event → Type 0) (polls_may : (session slot : ℕ) → May (event.Poll session slot))
    (deliveries_may : (number : ℕ) → May (event.Deliver number))
    (event_keeps : (e : Event) (result : Outcome) (old new : WorldView R) → May e → IsWorldStep stands e old result new → AreClientsCounted new → P old → P new) where
  module _ (given : (session : ℕ) → List Given) (start : (session : ℕ) (old new : WorldView R) → Submits stands given session old new → P old → P new) where
    kept_by_start : (k : ℕ) (old new : WorldView R) → Starts stands given old new → P old → P new
    kept_by_start k old new starts is = start starts.session old new starts.submits is

    pub kept_by_starts : (old new : WorldView R) → StartsAll stands given old new → P old → P new
    kept_by_starts old new starts is = kept_by_deeds P (λ k. Starts stands given) kept_by_start starts.count old new starts.starts is

    kept_by_coming : (e : Event) (result : Outcome) (old new : WorldView R) → May e → Comes stands given e result old new → P old → P new
    kept_by_coming e result old new may comes is = kept_by_starts comes.between new comes.starts (event_keeps e result old comes.between may comes.step comes.counted is)

    kept_by_event : (e : Event) (old new : WorldView R) → May e → Happens stands given e old new → P old → P new
    kept_by_event e old new may happens is = kept_by_coming e happens.result old new may happens.comes is

    kept_in_round : (session slot : ℕ) (old new : Pace R) → PollsIn stands given session slot old new → P old.world → P new.world
    kept_in_round session slot old new polls is = kept_by_coming (event.Poll session slot) polls.result old.world new.world (polls_may session slot) polls.comes is

    pub kept_where : (held : Bool) (session slot : ℕ) (old new : Pace R) → PollsWhere stands given held session slot old new → P old.world → P new.world
    kept_where true session slot old new polls is = kept_in_round session slot old new polls is
    kept_where false session slot old new same is = subst (λ (p : Pace R). P p.world) (sym same) is

    pub kept_where_due : (due : Bool) (number : ℕ) (old new : WorldView R) → DeliversWhere stands given due number old new → P old → P new
    kept_where_due true number old new delivers is = kept_by_event (event.Deliver number) old new (deliveries_may number) delivers is
    kept_where_due false number old new same is = subst P (sym same) is

    kept_by_polls : (session : ℕ) (old new : Pace R) → PollsAll stands given session old new → P old.world → P new.world
    kept_by_polls session old new polls is =
        kept_by_deeds (λ (p : Pace R). P p.world) (λ k. PollsWhere stands given (is_held session (k + 1) polls.point.world) session (k + 1))
        (λ k. kept_where (is_held session (k + 1) polls.point.world) session (k + 1)) 64 polls.point new polls.held
        (kept_in_round session 0 old polls.point polls.slot_0 is)

    module _ (lost : (number : ℕ) → Bool) where
      kept_by_turn : (session : ℕ) (old new : Pace R) → SessionTurn stands given lost session old new → P old.world → P new.world
      kept_by_turn session old new turn is =
          kept_by_polls session (record { world = turn.told; went_on = old.went_on }) new turn.polls
          (kept_by_deeds P (λ k. DeliversWhere stands given (is_notice_due lost session (k + 1) old.world) (k + 1)) (λ k. kept_where_due (is_notice_due lost session (k + 1) old.world) (k + 1))
          (length old.world.sites.mail) old.world turn.told turn.notices is)

      pub kept_where_runs : (running : Bool) (session : ℕ) (old new : Pace R) → TurnWhere stands given lost running session old new → P old.world → P new.world
      kept_where_runs true session old new turn is = kept_by_turn session old new turn is
      kept_where_runs false session old new same is = subst (λ (p : Pace R). P p.world) (sym same) is

      kept_by_round : (sessions : ℕ) (went_on : Bool) (old new : WorldView R) → Round stands given lost sessions went_on old new → P old → P new
      kept_by_round sessions went_on old new round is =
          kept_by_deeds (λ (p : Pace R). P p.world) (TurnOf stands given lost) (λ session a b. kept_where_runs (runs session a.world) session a b) sessions (record { world = old; went_on = false }) (record { world = new; went_on = went_on }) round is

      pub kept_by_rounds : (sessions k : ℕ) (old new : Calm R) → RoundsOn stands given lost sessions old new → P old.world → P new.world
      kept_by_rounds sessions k old new on is = kept_by_round sessions on.went_on old.world new.world on.round is

      kept_by_settle : (sessions rounds : ℕ) (old new : WorldView R) → Settles stands given lost sessions rounds old new → P old → P new
      kept_by_settle sessions rounds old new settles is =
          kept_by_deeds (λ (c : Calm R). P c.world) (λ k. RoundsOn stands given lost sessions) (kept_by_rounds sessions) settles.count (record { world = old; idle = 0 }) (record { world = new; idle = settles.idle }) settles.on is

      kept_by_line : (sessions : ℕ) (s : Said) (old new : WorldView R) → MayComeBy May s → Plays stands given lost sessions s old new → P old → P new
      kept_by_line sessions (said.Command session beside command) old new may plays is = kept_by_starts old new plays is
      kept_by_line sessions (said.Poll session slot times) old new may plays is =
          kept_by_deeds P (λ k. Polls stands given session slot) (λ k a b. kept_by_event (event.Poll session slot) a b (polls_may session slot)) times old new plays is
      kept_by_line sessions (said.Until session slot kind) old new may plays is =
          kept_by_deeds P (λ k. PollsBefore stands given session slot kind) (λ k a b before. kept_by_event (event.Poll session slot) a b (polls_may session slot) before.polls) plays.count old new plays.polls is
      kept_by_line sessions (said.Settle rounds) old new may plays is = kept_by_settle sessions rounds old new plays is
      kept_by_line sessions (said.Deliver number) old new may plays is = kept_by_event (event.Deliver number) old new (deliveries_may number) plays is
      kept_by_line sessions (said.Lose number) old new may plays is = subst P (sym plays) is
      kept_by_line sessions (said.Expire session site image) old new may plays is = kept_by_event (event.Expire session site image) old new may plays is
      kept_by_line sessions (said.Stop session) old new may plays is = kept_by_event (event.Stop session) old new may plays is
      kept_by_line sessions (said.Restart session) old new may plays is = kept_by_event (event.Restart session) old new may plays is
      kept_by_line sessions (said.Late session slot) old new may plays is = kept_by_event (event.Late session slot) old new may plays is
      kept_by_line sessions (said.Trim site image object) old new may plays is = kept_by_event (event.Trim site image object) old new may plays is

  -- so it is kept, where each line's event may come, and each start of one of the first lines'
  -- commands keeps it
  module _ (script : Script) (may : (k : ℕ) (line : Line) → slice_get script.lines k ≡ Some line → MayComeBy May line.said)
      (start : (lines more : List Line) → script.lines ≡ lines ++ more → (session : ℕ) (old new : WorldView R) → Submits stands (given_in lines) session old new → P old → P new) where
    -- up to the closing rounds
    pub kept_to_closing : (old new : WorldView R) (plays : PlaysScript stands script old new) → P old → P plays.between
    kept_to_closing old new plays is =
        kept_by_deeds P (PlaysLine stands script)
        (λ k a b line.
        kept_by_line (given_in (take (k + 1) script.lines)) (start (take (k + 1) script.lines) (drop (k + 1) script.lines) (sym (take-append-drop (k + 1) script.lines))) (is_lost_by (take (k + 1) script.lines))
        (length script.sessions) line.line.said a b (may k line.line line.is) line.plays)
        (length script.lines) old plays.between plays.lines is

    -- and to the end of a play
    pub kept_by_lines : (old new : WorldView R) → PlaysScript stands script old new → P old → P new
    kept_by_lines old new plays is =
        kept_by_settle (given_in script.lines) (start script.lines [] (sym (append-nil script.lines))) (is_lost_by script.lines) (length script.sessions) (closing_rounds (length (commands_of script.lines))) plays.between new plays.closing
        (kept_to_closing old new plays is)

-- what each event keeps that begins no command, and each start
plain : (s : Said) → MayComeBy IsNoStart s
plain (said.Command session beside command) = tt
plain (said.Poll session slot times) = tt
plain (said.Until session slot kind) = tt
plain (said.Settle rounds) = tt
plain (said.Deliver number) = tt
plain (said.Lose number) = tt
plain (said.Expire session site image) = tt
plain (said.Stop session) = tt
plain (said.Restart session) = tt
plain (said.Late session slot) = tt
plain (said.Trim site image object) = tt

pub kept_by_parts : {R : Type 0} (stands : R → Standing) (P : WorldView R → Type 0) → ((e : Event) (result : Outcome) (old new : WorldView R) → IsNoStart e → IsWorldStep stands e old result new → P old → P new)
    → (script : Script)
    → ((lines more : List Line) → script.lines ≡ lines ++ more → (session : ℕ) (old new : WorldView R) → Submits stands (given_in lines) session old new → P old → P new)
    → (old new : WorldView R) → PlaysScript stands script old new → P old → P new
kept_by_parts stands P event_keeps script start old new plays is =
    kept_by_lines stands P IsNoStart (λ session slot. tt) (λ number. tt) (λ e result a b may step counted. event_keeps e result a b may step) script (λ k line at. plain line.said) start old new plays is

-- and what each step keeps, whatever the event
pub kept_by_play : {R : Type 0} (stands : R → Standing) (P : WorldView R → Type 0) → ((e : Event) (result : Outcome) (old new : WorldView R) → IsWorldStep stands e old result new → P old → P new)
    → (script : Script) (old new : WorldView R) → PlaysScript stands script old new → P old → P new
kept_by_play stands P step script old new plays is =
    kept_by_parts stands P (λ e result a b plain. step e result a b) script
    (λ lines more whole session a b submits. step submits.command.submission submits.result a b submits.step) old new plays is

-- the clients of a play's last world are counted, as those that each step leaves
pub ends_counted : {R : Type 0} (stands : R → Standing) (script : Script) (old new : WorldView R) → PlaysScript stands script old new → AreClientsCounted old → AreClientsCounted new
ends_counted stands script old new plays is =
    kept_by_lines stands AreClientsCounted IsNoStart (λ session slot. tt) (λ number. tt) (λ e result a b may step counted was. counted) script (λ k line at. plain line.said)
    (λ lines more whole session a b submits was. submits.counted) old new plays is
