-- At the end of a play nothing goes on any more: who isn't over is held up at a lock.
use Rattle.std.proofs.Common.{◌≡◌, ℕ, zero, suc, ◌+◌, ◌<◌, ◌≤◌, ◌^◌, ◌==◌, ◌&&◌, ◌||◌, ◌⊎◌, inl, inr, cond, not, nat_lt, Bool, true, false, List, [], ◌∷◌, map, All, length, is_some, slice_get, Option, Some, None, refl, sym, ap, ◌∙◌, subst, arith}
use Rattle.std.proofs.lemmas.Bool.{cases_lt, false≢true, true≢false}
use Rattle.std.proofs.lemmas.List.Elements.{All-cons, All-nil}
use Rattle.std.proofs.lemmas.Option.{none-some, same_Some}
use Rattle.std.proofs.lemmas.List.Folds.{list_any-append}
use Rattle.std.proofs.Math.Bool.{or-false}
use Rattle.rbd_client.specs.Client.{ClientView}
use Rattle.rbd_client.specs.Sound.{IsSoundClient}
use Rattle.rbd_flat.specs.declared.entry.Entry.TheVariants as entry
use Rattle.rbd_kinds.specs.declared.id.SiteId.{SiteId}
use Rattle.rbd_kinds.specs.declared.reply.Reply.{Reply}
use Rattle.rbd_kinds.proofs.Plain.{eqb_flip}
use Rattle.rbd_machine.specs.Plan.{Standing}
use Rattle.rbd_script.specs.declared.script.Declared.{Declared}
use Rattle.rbd_script.specs.declared.script.Said.{Said}
use Rattle.rbd_script.specs.declared.script.Said.TheVariants as said
use Rattle.rbd_script.specs.declared.script.Script.{Script}
use Rattle.rbd_lock.specs.Locks.{lock_state_at}
use Rattle.rbd_queue.specs.Line.{any_past}
use Rattle.rbd_slots.specs.Lines.{lines_of}
use Rattle.rbd_slots.specs.Session.{SessionView, held_in, script_line}
use Rattle.rbd_slots.specs.declared.running.Occupant.{Occupant}
use Rattle.rbd_world.specs.declared.event.Event.{Event}
use Rattle.rbd_world.specs.declared.event.Outcome.{Outcome}
use Rattle.rbd_world.specs.Run.{Asked, Doer, Itself, OnWay, House, AfterStop, Happening, Nothing, Waited, Began, Did, Refused, Trimmed, Expired, Heard, Stopped, Restarted, asked_by, cause_of, ending_entries, ends, entries_of, fence_of, history_of, is_line_among, is_for}
use Rattle.rbd_world.specs.Sound.{IsAtHome, IsInSlot, IsSoundWorld, has_ended, held_of, line_at}
use Rattle.rbd_world.specs.Step.{Does, IsWorldStep, LivesOnIf, happening, is_begun, names_session}
use Rattle.rbd_world.specs.World.{LivesView, WorldView, client_in, free_in, lives_in, running_of, session_of_client}
use Rattle.rbd_world.proofs.Runs.{begun_is_asked}
use Rattle.rbd_slots.proofs.Sound.{held_range}
use Rattle.rbd_schedule.specs.declared.given.Given.{Given}
use Rattle.rbd_schedule.specs.Deeds.{Deeds}
use Rattle.rbd_schedule.specs.Ends.{AreOver, HasCalmed, IsStuck, IsStuckIn, SomebodyIsHeldUp}
use Rattle.rbd_schedule.specs.Given.{given_in, is_lost_by}
use Rattle.rbd_schedule.specs.Notices.{runs}
use Rattle.rbd_schedule.specs.Playing.{IsPlay, homes_of}
use Rattle.rbd_schedule.specs.Schedule.{Calm, Pace, Round, RoundsOn, most_idle}
use Rattle.rbd_schedule.specs.Starts.{IsQuiet, earliest, is_end_of, is_ended}
use Rattle.rbd_schedule.proofs.AtRest.{none_past, none_taken}
use Rattle.rbd_schedule.proofs.Counted.{ends_idle}
use Rattle.rbd_schedule.proofs.Elsewhere.{round_keeps}
use Rattle.rbd_schedule.proofs.Ended.{AreSoundSessions, HasRequestsOf, NoneRuns, free_there, keeps_turns, none_still, quiet_turns, requests_step, sound_again, still_turns}
use Rattle.rbd_schedule.proofs.Idle.{IsStill}
use Rattle.rbd_schedule.proofs.Kept.{MayComeBy, kept_by_deeds, kept_by_play, kept_by_rounds, kept_to_closing}
use Rattle.rbd_schedule.proofs.Mailed.{IsMailed, mailed_first, mailed_step}
use Rattle.rbd_schedule.proofs.LetGo.{HasTaken, KeepsIn}
use Rattle.rbd_schedule.proofs.LastRounds.{AreLastRounds, IdleRounds, last_rounds, requests_kept, ways_show}
use Rattle.rbd_schedule.proofs.Quiet.{no_end, endings_end}
use Rattle.rbd_schedule.proofs.Stuck.{AllQuiet, WaysAreShown, stuck}
use Rattle.rbd_site.proofs.OneChange.{none_from_test}

-- ---- the end of a line in the history is one in the run

or_swap : (a b : Bool) → (a || b) ≡ (b || a)
or_swap true true = refl
or_swap true false = refl
or_swap false true = refl
or_swap false false = refl

ended_entries : (line : ℕ) (by : Doer) (reply : Reply) → is_ended line (ending_entries by (Some reply)) ≡ (is_for line by || false)
ended_entries line (Itself other) reply = ap (λ b. b || false) (eqb_flip line other ∙ sym (or-false (other == line)))
ended_entries line (OnWay other) reply = ap (λ b. b || false) (eqb_flip line other)
ended_entries line House reply = refl
ended_entries line (AfterStop slot) reply = refl

lost_entries : (line : ℕ) (lost : List ℕ) → is_ended line (map entry.Lost lost) ≡ is_line_among line lost
lost_entries line [] = refl
lost_entries line (other ∷ lost) = ap (λ b. b || is_ended line (map entry.Lost lost)) (eqb_flip line other) ∙ ap (λ b. (other == line) || b) (lost_entries line lost)

ended_by : (line : ℕ) (h : Happening) → is_ended line (entries_of h) ≡ ends line h
ended_by line Nothing = refl
ended_by line Waited = refl
ended_by line (Began asked slot) = refl
ended_by line (Did o None) = ap (λ b. b || is_ended line (ending_entries o.by None)) (no_end line (cause_of o.instance o.by) o.site o.number (fence_of o.op o.answer) o.effect) ∙ endings_end line o.by
ended_by line (Did o (Some reply)) =
    ap (λ b. b || is_ended line (ending_entries o.by (Some reply))) (no_end line (cause_of o.instance o.by) o.site o.number (fence_of o.op o.answer) o.effect) ∙ ended_entries line o.by reply
ended_by line (Refused s other reply) = ap (λ b. b || false) (eqb_flip line other)
ended_by line (Trimmed s number image object) = refl
ended_by line (Expired s number image who) = refl
ended_by line (Heard notice) = refl
ended_by line (Stopped who wanted lost) = lost_entries line lost
ended_by line (Restarted who) = refl

ended_is_ended : (line : ℕ) (run : List Happening) → is_ended line (history_of run) ≡ has_ended line run
ended_is_ended line [] = refl
ended_is_ended line (h ∷ run) =
    list_any-append (is_end_of line) (history_of run) (entries_of h) ∙ or_swap (is_ended line (history_of run)) (is_ended line (entries_of h))
    ∙ ap (λ b. b || is_ended line (history_of run)) (ended_by line h) ∙ ap (λ b. ends line h || b) (ended_is_ended line run)

-- ---- all are over

earliest_done : (b a : (line : ℕ) → Bool) → ((line : ℕ) → b line ≡ true → a line ≡ true) → (given : List Given) → earliest b a true given ≡ None → All (λ (c : Given). a c.line ≡ true) given
earliest_done b a done [] is = All-nil (λ (c : Given). a c.line ≡ true)
earliest_done b a done (c ∷ given) is = by (b c.line) c.beside (done c.line) (earliest_done b a done given) is
  where
    by : (p q : Bool) → (p ≡ true → a c.line ≡ true) → (earliest b a true given ≡ None → All (λ (c : Given). a c.line ≡ true) given)
        → cond (not p && (q || true)) (Some c) (earliest b a (true && a c.line) given) ≡ None → All (λ (c : Given). a c.line ≡ true) (c ∷ given)
    by true q begun rest is = All-cons (λ (c : Given). a c.line ≡ true) c given (begun refl) (rest (subst (λ r. earliest b a r given ≡ None) (begun refl) is))
    by false true begun rest is = absurd (none-some c (sym is))
    by false false begun rest is = absurd (none-some c (sym is))

-- ---- the sessions of a play

-- so many sessions are there
pub record AreSessions {R : Type 0} (n : ℕ) (w : WorldView R) : Type 0 where
  pub there : (session : ℕ) → session < n → is_some (lives_in session w.lives) ≡ true
  pub past : (session : ℕ) → n ≤ session → lives_in session w.lives ≡ None

module _ {R : Type 0} (stands : R → Standing) where
  there_stays : (e : Event) (h : Happening) (old new : Option (LivesView R)) → LivesOnIf stands e h old new → is_some new ≡ is_some old
  there_stays e h None new on = ap is_some on
  there_stays e h (Some a) None on = absurd on
  there_stays e h (Some a) (Some b) on = refl

  same_there : (e : Event) (h : Happening) (old new : WorldView R) → Does stands e h old new → (s : ℕ) (b : Bool) → names_session e h s ≡ b → is_some (lives_in s new.lives) ≡ is_some (lives_in s old.lives)
  same_there e h old new does s true named = there_stays e h (lives_in s old.lives) (lives_in s new.lives) (does.named s named)
  same_there e h old new does s false other = ap is_some (does.others s other)

  sessions_stay : (n : ℕ) (e : Event) (result : Outcome) (old new : WorldView R) → IsWorldStep stands e old result new → AreSessions n old → AreSessions n new
  sessions_stay n e result old new (is, does) are =
      let h = happening stands e old in
      record {
        there = λ s below. same_there e h old new does s (names_session e h s) refl ∙ are.there s below;
        past = λ s past. none_from_test (lives_in s new.lives) (same_there e h old new does s (names_session e h s) refl ∙ ap is_some (are.past s past));
      }

home_there : {R : Type 0} (home : Option SiteId) (l : Option (LivesView R)) → IsAtHome home l → is_some l ≡ is_some home
home_there None None at = refl
home_there None (Some l) at = absurd at
home_there (Some home) None at = absurd at
home_there (Some home) (Some l) at = refl

homes_within : (sessions : List Declared) (s : ℕ) → s < length sessions → is_some (slice_get (homes_of sessions) s) ≡ true
homes_within [] s below = absurd (omega (arith, below))
homes_within (x ∷ sessions) zero below = refl
homes_within (x ∷ sessions) (suc s) below = homes_within sessions s (omega (arith, below))

homes_past : (sessions : List Declared) (s : ℕ) → length sessions ≤ s → is_some (slice_get (homes_of sessions) s) ≡ false
homes_past [] s past = refl
homes_past (x ∷ sessions) zero past = absurd (omega (arith, past))
homes_past (x ∷ sessions) (suc s) past = homes_past sessions s (omega (arith, past))

-- ---- one or none, of so many

any_of : (P Q : ℕ → Type 0) → ((k : ℕ) → P k ⊎ Q k) → (n : ℕ) → ((k : ℕ) × (k < n) × P k) ⊎ ((k : ℕ) → k < n → Q k)
any_of P Q each zero = inr (λ k below. absurd (omega (arith, below)))
any_of P Q each (suc n) = by (any_of P Q each n) (each n)
  where
    by : ((k : ℕ) × (k < n) × P k) ⊎ ((k : ℕ) → k < n → Q k) → P n ⊎ Q n → ((k : ℕ) × (k < suc n) × P k) ⊎ ((k : ℕ) → k < suc n → Q k)
    by (inl (k, below, is)) last = inl (k, omega (arith, below), is)
    by (inr none) (inl is) = inl (n, omega arith, is)
    by (inr none) (inr last) = inr (λ k below. go k below (cases_lt k n))
      where
        go : (k : ℕ) → k < suc n → (k < n) ⊎ (n ≤ k) → Q k
        go k below (inl less) = none k less
        go k below (inr more) = let same : n ≡ k = omega (arith, below, more) in subst Q same last

module _ {R : Type 0} (stands : R → Standing) (script : Script) (w : WorldView R) (play : IsPlay stands script w) where
  pub sessions_there : AreSessions (length script.sessions) w
  sessions_there =
      kept_by_play stands (AreSessions (length script.sessions)) (sessions_stay stands (length script.sessions)) script play.first w play.plays (record {
        there = λ s below. home_there (slice_get (homes_of script.sessions) s) (lives_in s play.first.lives) (play.homes s) ∙ homes_within script.sessions s below;
        past = λ s past. none_from_test (lives_in s play.first.lives) (home_there (slice_get (homes_of script.sessions) s) (lives_in s play.first.lives) (play.homes s) ∙ homes_past script.sessions s past);
      })

  -- who runs is one of them
  pub runs_below : (s : ℕ) (c : ClientView R) → client_in s w.lives ≡ Some c → s < length script.sessions
  runs_below s c is = by (cases_lt s (length script.sessions))
    where
      by : (s < length script.sessions) ⊎ (length script.sessions ≤ s) → s < length script.sessions
      by (inl below) = below
      by (inr past) = absurd (none-some c (sym (ap running_of (sessions_there.past s past)) ∙ is))

-- in a world that is sound
module _ {R : Type 0} (stands : R → Standing) (script : Script) (w : WorldView R) (play : IsPlay stands script w) (world : IsSoundWorld stands w) where
  sound_there : (s : ℕ) (c : ClientView R) → client_in s w.lives ≡ Some c → IsSoundClient stands c
  sound_there s c is = (world.clients s c is).sound

  who_runs_below : (s : ℕ) (c : ClientView R) → client_in s w.lives ≡ Some c → s < length script.sessions
  who_runs_below s c is = runs_below stands script w play s c is

  -- a line that was begun has ended, or is in a slot
  begun_comes : (line : ℕ) → is_begun line w.history ≡ true → (is_ended line w.history ≡ true) ⊎ IsInSlot line w.lives
  begun_comes line begun = by (asked_by line world.told.run) refl (has_ended line world.told.run) refl
    where
      by : (asked : Option Asked) → asked_by line world.told.run ≡ asked → (b : Bool) → has_ended line world.told.run ≡ b → (is_ended line w.history ≡ true) ⊎ IsInSlot line w.lives
      by asked is true ended = inl (ap (is_ended line) world.told.history ∙ ended_is_ended line world.told.run ∙ ended)
      by None is false unended = absurd (false≢true (sym (ap (is_begun line) world.told.history ∙ begun_is_asked line world.told.run ∙ ap is_some is) ∙ begun))
      by (Some asked) is false unended = inr (world.slots line (record { asked = asked; is = is; unended = unended }))

  -- a slot with a line is one of a client that runs
  record IsHolder (session slot line : ℕ) : Type 0 where
    client : ClientView R
    runs : client_in session w.lives ≡ Some client
    occupant : Occupant R
    held : held_in slot client.session.slots ≡ Some occupant

  holder : (session slot line : ℕ) → line_at session slot w.lives ≡ Some line → IsHolder session slot line
  holder session slot line is = by (client_in session w.lives) refl is
    where
      slot_of : (c : ClientView R) → client_in session w.lives ≡ Some c → (o : Option (Occupant R)) → held_in slot c.session.slots ≡ o → script_line o ≡ Some line → IsHolder session slot line
      slot_of c runs None held at = absurd (none-some line at)
      slot_of c runs (Some o) held at = record { client = c; runs = runs; occupant = o; held = held }

      by : (o : Option (ClientView R)) → client_in session w.lives ≡ o → script_line (held_of slot (session_of_client o)) ≡ Some line → IsHolder session slot line
      by None runs at = absurd (none-some line at)
      by (Some c) runs at = slot_of c runs (held_in slot c.session.slots) refl at

  -- ---- where each slot of a session that runs is still
  module _ (still : (s : ℕ) (c : ClientView R) → client_in s w.lives ≡ Some c → (slot : ℕ) → 1 ≤ slot → slot ≤ 64 → IsStill stands slot c)
      (shown : (s : ℕ) (c : ClientView R) → client_in s w.lives ≡ Some c → WaysAreShown stands (is_lost_by script.lines) w c) (keeps : (s : ℕ) → s < length script.sessions → KeepsIn stands s w) where
    -- what was asked for is quiesced
    quiet_all : AllQuiet w
    quiet_all s c is site image asked = by (keeps s (who_runs_below s c is) c is site image asked)
      where
        by : ((lock_state_at site image c.locks).quiesced ≡ true) ⊎ ((any_past (lines_of c.session.lines site image) ≡ true) ⊎ HasTaken c) → (lock_state_at site image c.locks).quiesced ≡ true
        by (inl quiesced) = quiesced
        by (inr (inl past)) = absurd (false≢true (sym (none_past stands c (sound_there s c is) (still s c is) site image) ∙ past))
        by (inr (inr it)) = absurd (none_taken stands c (sound_there s c is) (still s c is) it.slot it.image it.taken)

    stuck_at : (session slot line : ℕ) → (at : line_at session slot w.lives ≡ Some line) → IsStuck stands (is_lost_by script.lines) w line
    stuck_at session slot line at =
        let there = holder session slot line at in
        record {
          session = session;
          client = there.client;
          runs = there.runs;
          slot = slot;
          holds = at;
          stuck = stuck stands (is_lost_by script.lines) w world there.client (sound_there session there.client there.runs) (shown session there.client there.runs) quiet_all (quiet_all session there.client there.runs) (still session there.client there.runs) slot there.occupant there.held;
        }

    each_line : (line : ℕ) → is_begun line w.history ≡ true → (is_ended line w.history ≡ true) ⊎ IsStuck stands (is_lost_by script.lines) w line
    each_line line begun = by (begun_comes line begun)
      where
        by : (is_ended line w.history ≡ true) ⊎ IsInSlot line w.lives → (is_ended line w.history ≡ true) ⊎ IsStuck stands (is_lost_by script.lines) w line
        by (inl ended) = inl ended
        by (inr there) = inr (stuck_at there.session there.slot line there.is)

    held_somewhere : (line : ℕ) → IsStuck stands (is_lost_by script.lines) w line → SomebodyIsHeldUp stands (is_lost_by script.lines) w
    held_somewhere line it = by it.stuck
      where
        by : IsStuckIn stands (is_lost_by script.lines) w it.client it.slot → SomebodyIsHeldUp stands (is_lost_by script.lines) w
        by (inl up) = record { session = it.session; client = it.client; runs = it.runs; slot = it.slot; held = up }
        by (inr (first, behind, up)) = record { session = it.session; client = it.client; runs = it.runs; slot = first; held = up }

    -- ---- where nobody is in a slot
    module _ (quiet : IsQuiet (given_in script.lines) w) (nobody : (s : ℕ) → s < length script.sessions → (slot : ℕ) → slot < 65 → line_at s slot w.lives ≡ None) where
      in_no_slot : (line : ℕ) → IsInSlot line w.lives → ⊥
      in_no_slot line there =
          let it = holder there.session there.slot line there.is in
          let range = range_of (there.session) it.client it.runs there.slot it.occupant it.held in
          none-some line (sym (nobody there.session (who_runs_below there.session it.client it.runs) there.slot (omega (arith, range))) ∙ there.is)
        where
          range_of : (s : ℕ) (c : ClientView R) → client_in s w.lives ≡ Some c → (slot : ℕ) (o : Occupant R) → held_in slot c.session.slots ≡ Some o → slot ≤ 64
          range_of s c is slot o held = (held_range stands c.session (sound_there s c is).session slot o held).1

      begun_ended : (line : ℕ) → is_begun line w.history ≡ true → is_ended line w.history ≡ true
      begun_ended line begun = by (begun_comes line begun)
        where
          by : (is_ended line w.history ≡ true) ⊎ IsInSlot line w.lives → is_ended line w.history ≡ true
          by (inl ended) = ended
          by (inr there) = absurd (in_no_slot line there)

      -- a session without requests has room
      room_there : (s : ℕ) (c : ClientView R) → client_in s w.lives ≡ Some c → is_some (free_in (client_in s w.lives)) ≡ true
      room_there s c is =
          let sound = (sound_there s c is).session in
          let free : held_in 1 c.session.slots ≡ None
          = free_there (held_in 1 c.session.slots) (sym (ap (λ x. script_line (held_of 1 (session_of_client x))) is) ∙ nobody s (who_runs_below s c is) 1 (omega arith)) in
          let least : c.session.lowest ≡ 1 = only_one c.session.lowest sound.lowest.some (λ more. false≢true (sym (ap is_some free) ∙ sound.lowest.below 1 (omega arith) more)) in
          ap (λ x. is_some (free_in x)) is ∙ ap (λ n. is_some (cond (nat_lt 64 n) None (Some n))) least
        where
          only_one : (n : ℕ) → 1 ≤ n → (1 < n → ⊥) → n ≡ 1
          only_one n some none = by (cases_lt 1 n)
            where
              by : (1 < n) ⊎ (n ≤ 1) → n ≡ 1
              by (inl more) = absurd (none more)
              by (inr few) = omega (arith, some, few)

      all_over : AreOver script w
      all_over = record { begun = begun_ended; given = λ s running. by s (client_in s w.lives) refl running }
        where
          by : (s : ℕ) (o : Option (ClientView R)) → client_in s w.lives ≡ o → is_some o ≡ true → All (λ (c : Given). is_ended c.line w.history ≡ true) (given_in script.lines s)
          by s None is running = absurd (false≢true running)
          by s (Some c) is running =
              earliest_done (λ line. is_begun line w.history) (λ line. is_ended line w.history) begun_ended (given_in script.lines s)
              (sym (ap (λ b. cond b (earliest (λ line. is_begun line w.history) (λ line. is_ended line w.history) true (given_in script.lines s)) None) (room_there s c is)) ∙ quiet s)

    -- ---- somebody is in a slot, or nobody
    all_or_held : IsQuiet (given_in script.lines) w → AreOver script w ⊎ SomebodyIsHeldUp stands (is_lost_by script.lines) w
    all_or_held quiet = by (any_of (λ s. (slot : ℕ) × (slot < 65) × Holds s slot) (λ s. (slot : ℕ) → slot < 65 → line_at s slot w.lives ≡ None) (λ s. any_of (Holds s) (λ slot. line_at s slot w.lives ≡ None) (line_or_none s) 65) (length script.sessions))
      where
        Holds : (s slot : ℕ) → Type 0
        Holds s slot = (line : ℕ) × (line_at s slot w.lives ≡ Some line)

        line_or_none : (s slot : ℕ) → Holds s slot ⊎ (line_at s slot w.lives ≡ None)
        line_or_none s slot = go (line_at s slot w.lives) refl
          where
            go : (o : Option ℕ) → line_at s slot w.lives ≡ o → Holds s slot ⊎ (line_at s slot w.lives ≡ None)
            go None is = inr is
            go (Some line) is = inl (line, is)

        by : ((s : ℕ) × (s < length script.sessions) × ((slot : ℕ) × (slot < 65) × Holds s slot)) ⊎ ((s : ℕ) → s < length script.sessions → (slot : ℕ) → slot < 65 → line_at s slot w.lives ≡ None)
            → AreOver script w ⊎ SomebodyIsHeldUp stands (is_lost_by script.lines) w
        by (inl (s, below, (slot, within, (line, is)))) = inr (held_somewhere line (stuck_at s slot line is))
        by (inr nobody) = inl (all_over quiet nobody)

    calmed : IsQuiet (given_in script.lines) w → HasCalmed stands script w
    calmed quiet = record { each = each_line; all = all_or_held quiet }

-- ---- the last round

module _ {R : Type 0} (stands : R → Standing) (given : (session : ℕ) → List Given) (lost : (number : ℕ) → Bool) (n : ℕ) where
  -- None may start, or no session runs.
  abbrev pub IsAtRest : WorldView R → Type 0
  IsAtRest w = IsQuiet given w ⊎ NoneRuns stands given lost n w

  -- the last of some rounds, which was idle, and those before it
  pub record IsLastRound (old : Calm R) (w : WorldView R) : Type 0 where
    pub before : Calm R
    pub count : ℕ
    pub first : Deeds (λ i. RoundsOn stands given lost n) count old before
    pub round : Round stands given lost n false before.world w
    pub rest : IsAtRest before.world

  round_rests : (went_on : Bool) (old new : WorldView R) → Round stands given lost n went_on old new → IsAtRest new
  round_rests went_on old new round = by (quiet_turns stands given lost n (record { world = old; went_on = false }) (record { world = new; went_on = went_on }) round)
    where
      by : IsQuiet given new ⊎ (◌≡◌ {A = Pace R} (record { world = new; went_on = went_on }) (record { world = old; went_on = false }) × NoneRuns stands given lost n new) → IsAtRest new
      by (inl quiet) = inl quiet
      by (inr (same, none)) = inr none

  -- behind at least one round none may start
  rounds_rest : (count : ℕ) (old new : Calm R) (k : ℕ) → Deeds (λ i. RoundsOn stands given lost n) count old new → old.idle ≡ 0 → new.idle ≡ suc k → IsAtRest new.world
  unfolding Deeds
  rounds_rest zero old new k done none some = let no : 0 ≡ suc k = sym none ∙ ap (λ (c : Calm R). c.idle) (sym done) ∙ some in absurd (omega (arith, no))
  rounds_rest (suc count) old new k (between, before, it) none some = round_rests it.went_on between.world new.world it.round

  pub last_round : (count : ℕ) (old new : Calm R) → Deeds (λ i. RoundsOn stands given lost n) count old new → old.idle ≡ 0 → new.idle ≡ most_idle → IsLastRound old new.world
  unfolding Deeds
  last_round zero old new done none eight = let no : 0 ≡ 8 = sym none ∙ ap (λ (c : Calm R). c.idle) (sym done) ∙ eight in absurd (omega (arith, no))
  last_round (suc count) old new (between, before, it) none eight = by it.went_on it.idle it.round
    where
      by : (b : Bool) → new.idle ≡ cond b 0 (between.idle + 1) → Round stands given lost n b between.world new.world → IsLastRound old new.world
      by true idle round = let no : 8 ≡ 0 = sym eight ∙ idle in absurd (omega (arith, no))
      by false idle round =
          let seven : between.idle ≡ suc 6 = let e : 8 ≡ between.idle + 1 = sym eight ∙ idle in omega (arith, e) in
          record { before = between; count = count; first = before; round = round; rest = rounds_rest count old between 6 before none seven }

-- where no session runs, none may start
none_quiet : {R : Type 0} (given : (session : ℕ) → List Given) (w : WorldView R) → ((s : ℕ) → runs s w ≡ false) → IsQuiet given w
none_quiet {R} given w none s = by (client_in s w.lives) refl
  where
    by : (o : Option (ClientView R)) → client_in s w.lives ≡ o → cond (is_some (free_in o)) (earliest (λ line. is_begun line w.history) (λ line. is_ended line w.history) true (given s)) None ≡ None
    by None is = refl
    by (Some c) is = absurd (true≢false (sym (ap is_some is) ∙ none s))

-- ---- the end of a play

module _ {R : Type 0} (stands : R → Standing) (script : Script) (w : WorldView R) (play : IsPlay stands script w) (world : IsSoundWorld stands w) where
  abbrev given : (session : ℕ) → List Given
  given = given_in script.lines

  abbrev lost : (number : ℕ) → Bool
  lost = is_lost_by script.lines

  abbrev count : ℕ
  count = length script.sessions

  sounds : AreSoundSessions stands given w
  sounds s c is = (sound_there stands script w play world s c is).session

  -- a round whose sessions all stopped
  nobody_calms : NoneRuns stands given lost count w → HasCalmed stands script w
  nobody_calms none =
      let all : (s : ℕ) → runs s w ≡ false = λ s. by s (cases_lt s count) in
      calmed stands script w play world (λ s c is slot least most. absurd (true≢false (sym (ap is_some is) ∙ all s))) (λ s c is. absurd (true≢false (sym (ap is_some is) ∙ all s)))
      (λ s below c is. absurd (true≢false (sym (ap is_some is) ∙ all s))) (none_quiet given w all)
    where
      by : (s : ℕ) → (s < count) ⊎ (count ≤ s) → runs s w ≡ false
      by s (inl below) = none s below
      by s (inr past) = ap (λ l. is_some (running_of l)) ((sessions_there stands script w play).past s past)

  -- a client is of its session, also before
  own_before : (before : WorldView R) → HasRequestsOf stands given before w → (s : ℕ) (c : ClientView R) → client_in s before.lives ≡ Some c → c.session.instance.session ≡ s
  own_before before same s c there = by (client_in s w.lives) refl
    where
      by : (o : Option (ClientView R)) → client_in s w.lives ≡ o → c.session.instance.session ≡ s
      by None at = absurd (none-some c.session (sym (ap session_of_client at) ∙ same s ∙ ap session_of_client there))
      by (Some x) at =
          let one : c.session ≡ x.session = same_Some c.session x.session (sym (ap session_of_client there) ∙ sym (same s) ∙ ap session_of_client at) in
          ap (λ (y : SessionView R). y.instance.session) one ∙ (world.clients s x at).whose

  round_calms : ((s : ℕ) (c : ClientView R) → client_in s w.lives ≡ Some c → WaysAreShown stands (is_lost_by script.lines) w c) → (before : WorldView R) → Round stands given lost count false before w → IsQuiet given before → HasCalmed stands script w
  round_calms shown before round quiet =
      let old : Pace R = record { world = before; went_on = false } in
      let new : Pace R = record { world = w; went_on = false } in
      let kept = keeps_turns stands given (HasRequestsOf stands given before) (requests_step stands given before) lost count old new round refl ((λ s. refl), quiet) in
      let sound = sound_again stands given w before (λ s. sym (kept.0 s)) sounds in
      calmed stands script w play world
      (λ s c is slot least most. by s c is slot least most (still_turns stands given lost count old new round refl quiet sound s (runs_below stands script w play s c is))) shown
      (round_keeps stands given lost count before w round quiet sound (own_before before kept.0)) kept.1
    where
      by : (s : ℕ) (c : ClientView R) → client_in s w.lives ≡ Some c → (slot : ℕ) → 1 ≤ slot → slot ≤ 64 → ((k : ℕ) → k < 64 → (c : ClientView R) → client_in s w.lives ≡ Some c → IsStill stands (k + 1) c) → IsStill stands slot c
      by s c is zero least most still = absurd (omega (arith, least))
      by s c is (suc k) least most still = let same : k + 1 ≡ suc k = omega arith in subst (λ n. IsStill stands n c) same (still k (omega (arith, most)) c is)

  -- the mail before the last rounds
  mailed_at : (last : AreLastRounds stands given lost count 7 (record { world = play.plays.between; idle = 0 }) w) → IsMailed last.before.world
  mailed_at last =
      kept_by_deeds (λ (c : Calm R). IsMailed c.world) _
      (λ k old new rounds was. kept_by_rounds stands IsMailed (λ e. Unit {0}) (λ session slot. tt) (λ number. tt) (λ e result old new may step counted. mailed_step stands e result old new step) given
      (λ session old new submits. mailed_step stands submits.command.submission submits.result old new submits.step) lost count k old new rounds was)
      last.made (record { world = play.plays.between; idle = 0 }) last.before last.first
      (kept_to_closing stands IsMailed (λ e. Unit {0}) (λ session slot. tt) (λ number. tt) (λ e result old new may step counted. mailed_step stands e result old new step) script (λ k line is. any_may line.said)
      (λ lines more is session old new submits. mailed_step stands submits.command.submission submits.result old new submits.step) play.first w play.plays (mailed_first stands play.first play.new))
    where
      any_may : (s : Said) → MayComeBy (λ e. Unit {0}) s
      any_may (said.Command session beside command) = tt
      any_may (said.Poll session slot times) = tt
      any_may (said.Until session slot kind) = tt
      any_may (said.Settle rounds) = tt
      any_may (said.Deliver number) = tt
      any_may (said.Lose number) = tt
      any_may (said.Expire session site image) = tt
      any_may (said.Stop session) = tt
      any_may (said.Restart session) = tt
      any_may (said.Late session slot) = tt
      any_may (said.Trim site image object) = tt

  -- the seven rounds behind the first that was idle: none may start in them, or no session runs
  shows_ways : (old before : WorldView R) → IdleRounds stands given lost count 6 old before → Round stands given lost count false before w → IsQuiet given old → IsMailed old → (s : ℕ) (c : ClientView R) → client_in s w.lives ≡ Some c → WaysAreShown stands lost w c
  shows_ways old before first last quiet mailed s c there slot some r runs a acts =
      ways_show stands given lost count old before w first last quiet mailed sounds (runs_below stands script w play) (λ s past. ap running_of ((sessions_there stands script w play).past s past)) s slot some c there r runs a acts

  still_none : (k : ℕ) (old new : WorldView R) → IdleRounds stands given lost count k old new → NoneRuns stands given lost count old → NoneRuns stands given lost count new
  unfolding Deeds
  still_none zero old new done none = subst (NoneRuns stands given lost count) (sym done) none
  still_none (suc k) old new (between, first, last) none =
      none_still stands given lost count (record { world = between; went_on = false }) (record { world = new; went_on = false }) last (still_none k old between first none)

  rests : AreLastRounds stands given lost count 7 (record { world = play.plays.between; idle = 0 }) w → HasCalmed stands script w
  unfolding Deeds
  rests last = go last.rounds (rounds_rest stands given lost count last.made (record { world = play.plays.between; idle = 0 }) last.before (pred last.before.idle) last.first refl (is_suc last.before.idle last.some))
    where
      pred : ℕ → ℕ
      pred zero = 0
      pred (suc k) = k

      is_suc : (k : ℕ) → 1 ≤ k → k ≡ suc (pred k)
      is_suc zero some = absurd (omega (arith, some))
      is_suc (suc k) some = refl

      go : IdleRounds stands given lost count 7 last.before.world w → IsAtRest stands given lost count last.before.world → HasCalmed stands script w
      go rounds (inr nobody) = nobody_calms (still_none 7 last.before.world w rounds nobody)
      go (between, first, round) (inl quiet) =
          round_calms (shows_ways last.before.world between first round quiet (mailed_at last)) between round (requests_kept stands given lost count 6 last.before.world between first quiet).1

  ends_with : play.plays.closing.idle ≡ most_idle → HasCalmed stands script w
  ends_with eight =
      rests (last_rounds stands given lost count 7 play.plays.closing.count (record { world = play.plays.between; idle = 0 }) (record { world = w; idle = play.plays.closing.idle }) play.plays.closing.on refl (omega (arith, eight)))

  pub plays_rest : length w.calls < 2 ^ 59 → HasCalmed stands script w
  plays_rest few = ends_with (ends_idle stands script w play few)
