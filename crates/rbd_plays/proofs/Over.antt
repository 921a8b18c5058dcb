-- Where one session alone changes images, all is over at the end.
use Rattle.std.proofs.Common.{◌≡◌, ◌⊎◌, inl, inr, ℕ, zero, suc, ◌+◌, ◌<◌, ◌≤◌, ◌^◌, ◌==◌, cond, Bool, true, false, List, [], ◌∷◌, ◌++◌, All, append-nil, length, is_some, slice_get, Option, Some, None, refl, sym, ap, ◌∙◌, subst, arith}
use Rattle.std.proofs.lemmas.Bool.{eq-eqb, false≢true, true≢false}
use Rattle.std.proofs.lemmas.List.Elements.{All-cons, All-filter, All-head, All-nil, All-tail, All-weaker}
use Rattle.std.proofs.lemmas.Option.{none-some, same_Some}
use Rattle.rbd_client.specs.declared.actor.Actor.{Actor}
use Rattle.rbd_client.specs.declared.actor.Actor.TheVariants as actor
use Rattle.rbd_client.specs.Actor.{actor_at, is_acquiring}
use Rattle.rbd_client.specs.Client.{ClientView}
use Rattle.rbd_kinds.specs.declared.image_at.ImageAt.{ImageAt}
use Rattle.rbd_lock.specs.Locks.{lock_state_at}
use Rattle.rbd_machine.specs.Plan.{Standing}
use Rattle.rbd_script.specs.declared.script.Line.{Line}
use Rattle.rbd_script.specs.declared.script.Said.{Said}
use Rattle.rbd_script.specs.declared.script.Said.TheVariants as said
use Rattle.rbd_script.specs.declared.script.Script.{Script}
use Rattle.rbd_slots.specs.Session.{held_in, running_in}
use Rattle.rbd_slots.specs.declared.running.Running.{Running}
use Rattle.rbd_world.specs.declared.event.Event.{Event}
use Rattle.rbd_world.specs.declared.event.Event.TheVariants as event
use Rattle.rbd_world.specs.declared.event.Outcome.{Outcome}
use Rattle.rbd_world.specs.Step.{IsWorldStep, is_begun}
use Rattle.rbd_world.specs.World.{LivesView, WorldView, client_in, lives_in, running_of}
use Rattle.rbd_world.proofs.Beginning.{new_world_is_sound}
use Rattle.rbd_schedule.specs.declared.given.Given.{Given}
use Rattle.rbd_schedule.specs.Ends.{AreOver, HasCalmed, IsLockedOut, SomebodyIsHeldUp}
use Rattle.rbd_schedule.specs.Given.{commands_of, given_by, given_in, is_lost_by, of_session}
use Rattle.rbd_schedule.specs.InOrder.{AreDeclared, NamesDeclared}
use Rattle.rbd_schedule.specs.Notices.{runs}
use Rattle.rbd_schedule.specs.Playing.{IsPlay, IsPlayable}
use Rattle.rbd_schedule.specs.Schedule.{Calm, Pace, Submits, most_idle}
use Rattle.rbd_schedule.specs.Slots.{AreClientsCounted}
use Rattle.rbd_schedule.specs.Starts.{is_ended}
use Rattle.rbd_schedule.proofs.Calmed.{IsAtRest, IsLastRound, last_round, runs_below, sessions_there}
use Rattle.rbd_schedule.proofs.Counted.{ends_idle}
use Rattle.rbd_schedule.proofs.Ended.{holds_turns, none_still}
use Rattle.rbd_schedule.proofs.Entries.{start_is_earliest}
use Rattle.rbd_schedule.proofs.Kept.{MayComeBy, ends_counted, kept_by_deeds, kept_by_lines, kept_by_rounds, kept_to_closing}
use Rattle.rbd_schedule.proofs.Goes.{earliest_is_given}
use Rattle.rbd_schedule.proofs.Slots.{counted_range, world_counted}
use Rattle.rbd_plays.specs.OneChanger.{AreAllReplied, HasOneChanger, LeavesChangesTo, is_replied}
use Rattle.rbd_plays.proofs.Counts.{IsFree}
use Rattle.rbd_plays.proofs.Idling.{ActsItself, idle_acts, idle_keeps, polls_act}
use Rattle.rbd_plays.proofs.Stepping.{MayCome, begins_unhindered, step_keeps}
use Rattle.rbd_plays.proofs.Tame.{running_held}
use Rattle.rbd_plays.proofs.Unhindered.{IsUnhindered}

-- ---- the lines of the script

at_line : (P : Line → Type 0) (lines : List Line) → All P lines → (k : ℕ) (line : Line) → slice_get lines k ≡ Some line → P line
at_line P [] all k line is = absurd (none-some line is)
at_line P (x ∷ lines) all zero line is = subst P (same_Some x line is) (All-head P x lines all)
at_line P (x ∷ lines) all (suc k) line is = at_line P lines (All-tail P x lines all) k line is

first_lines : (P : Line → Type 0) (lines more : List Line) → All P (lines ++ more) → All P lines
first_lines P [] more all = All-nil P
first_lines P (x ∷ lines) more all = All-cons P x lines (All-head P x (lines ++ more) all) (first_lines P lines more (All-tail P x (lines ++ more) all))

module _ (changer : ℕ) where
  abbrev Leaves : Line → Type 0
  Leaves line = LeavesChangesTo changer line.said

  line_may : (s : Said) → LeavesChangesTo changer s → MayComeBy (MayCome changer) s
  line_may (said.Command session beside command) leaves = tt
  line_may (said.Poll session slot times) leaves = tt
  line_may (said.Until session slot kind) leaves = tt
  line_may (said.Settle rounds) leaves = tt
  line_may (said.Deliver number) leaves = tt
  line_may (said.Lose number) leaves = tt
  line_may (said.Expire session site image) leaves = tt
  line_may (said.Stop session) leaves = absurd leaves
  line_may (said.Restart session) leaves = tt
  line_may (said.Late session slot) leaves = tt
  line_may (said.Trim site image object) leaves = tt

  -- its commands may be submitted
  abbrev MayBegin : Given → Type 0
  MayBegin c = MayCome changer c.submission

  given_may : (number : ℕ) (s : Said) (rest : List Given) → LeavesChangesTo changer s → All MayBegin rest → All MayBegin (given_by number s ++ rest)
  given_may number (said.Command session beside command) rest leaves all =
      All-cons MayBegin (record { session = session; line = number; beside = beside; submission = event.Submit session number command }) rest leaves all
  given_may number (said.Poll session slot times) rest leaves all = all
  given_may number (said.Until session slot kind) rest leaves all = all
  given_may number (said.Settle rounds) rest leaves all = all
  given_may number (said.Deliver notice) rest leaves all = all
  given_may number (said.Lose notice) rest leaves all = all
  given_may number (said.Expire session site image) rest leaves all = all
  given_may number (said.Stop session) rest leaves all = all
  given_may number (said.Restart session) rest leaves all = all
  given_may number (said.Late session slot) rest leaves all = all
  given_may number (said.Trim site image object) rest leaves all = all

  commands_may : (lines : List Line) → All Leaves lines → All MayBegin (commands_of lines)
  commands_may [] all = All-nil MayBegin
  commands_may (x ∷ lines) all = given_may x.number x.said (commands_of lines) (All-head Leaves x lines all) (commands_may lines (All-tail Leaves x lines all))

-- ---- commands by their sessions

-- what holds of those of each session that is there holds of all
by_session : (P : Given → Type 0) (There : ℕ → Type 0) (given : List Given) → ((s : ℕ) → There s → All P (of_session s given)) → All (λ (c : Given). There c.session) given → All P given
by_session P There [] each there = All-nil P
by_session P There (x ∷ given) each there =
    All-cons P x given (head (x.session == x.session) (eq-eqb x.session x.session refl) (each x.session (All-head (λ (c : Given). There c.session) x given there)))
    (by_session P There given (λ s is. tail s (x.session == s) (each s is)) (All-tail (λ (c : Given). There c.session) x given there))
  where
    head : (b : Bool) → b ≡ true → All P (cond b (x ∷ of_session x.session given) (of_session x.session given)) → P x
    head true is all = All-head P x (of_session x.session given) all
    head false is all = absurd (false≢true is)

    tail : (s : ℕ) (b : Bool) → All P (cond b (x ∷ of_session s given) (of_session s given)) → All P (of_session s given)
    tail s true all = All-tail P x (of_session s given) all
    tail s false all = all

-- each is one of a declared session
given_declared : (n number : ℕ) (s : Said) (rest : List Given) → NamesDeclared n s → All (λ (c : Given). c.session < n) rest → All (λ (c : Given). c.session < n) (given_by number s ++ rest)
given_declared n number (said.Command session beside command) rest names all =
    All-cons (λ (c : Given). c.session < n) (record { session = session; line = number; beside = beside; submission = event.Submit session number command }) rest names all
given_declared n number (said.Poll session slot times) rest names all = all
given_declared n number (said.Until session slot kind) rest names all = all
given_declared n number (said.Settle rounds) rest names all = all
given_declared n number (said.Deliver notice) rest names all = all
given_declared n number (said.Lose notice) rest names all = all
given_declared n number (said.Expire session site image) rest names all = all
given_declared n number (said.Stop session) rest names all = all
given_declared n number (said.Restart session) rest names all = all
given_declared n number (said.Late session slot) rest names all = all
given_declared n number (said.Trim site image object) rest names all = all

commands_declared : (n : ℕ) (lines : List Line) → AreDeclared n lines → All (λ (c : Given). c.session < n) (commands_of lines)
commands_declared n [] declared = All-nil (λ (c : Given). c.session < n)
commands_declared n (x ∷ lines) declared = given_declared n x.number x.said (commands_of lines) declared.0 (commands_declared n lines declared.1)

-- ---- a play

module _ {R : Type 0} (stands : R → Standing) (script : Script) (w : WorldView R) (playable : IsPlayable script) (one : HasOneChanger script) (play : IsPlay stands script w) where
  abbrev changer : ℕ
  changer = one.changer

  abbrev Unhindered : WorldView R → Type 0
  Unhindered = IsUnhindered stands changer

  abbrev given : (session : ℕ) → List Given
  given = given_in script.lines

  abbrev lost : (number : ℕ) → Bool
  lost = is_lost_by script.lines

  abbrev count : ℕ
  count = length script.sessions

  may : (k : ℕ) (line : Line) → slice_get script.lines k ≡ Some line → MayComeBy (MayCome changer) line.said
  may k line is = line_may changer line.said (at_line (Leaves changer) script.lines one.lines k line is)

  start : (lines more : List Line) → script.lines ≡ lines ++ more → (session : ℕ) (old new : WorldView R) → Submits stands (given_in lines) session old new → Unhindered old → Unhindered new
  start lines more is session old new submits was =
      let leaves = first_lines (Leaves changer) lines more (subst (All (Leaves changer)) is one.lines) in
      let all = All-filter (λ (c : Given). c.session == session) (MayBegin changer) (commands_of lines) (commands_may changer lines leaves) in
      let begins = earliest_is_given (MayBegin changer) (λ line. is_begun line old.history) (λ line. is_ended line old.history) true (given_in lines session) submits.command all
      (start_is_earliest (given_in lines session) old session submits.command submits.may) in
      step_keeps stands changer submits.command.submission submits.result old new begins submits.step was

  event_keeps : (e : Event) (result : Outcome) (old new : WorldView R) → MayCome changer e → IsWorldStep stands e old result new → AreClientsCounted new → Unhindered old → Unhindered new
  event_keeps e result old new may step counted was = step_keeps stands changer e result old new may step was

  at_closing : Unhindered play.plays.between
  at_closing =
      kept_to_closing stands Unhindered (MayCome changer) (λ session slot. tt) (λ number. tt) event_keeps script may start play.first w play.plays (begins_unhindered stands changer play.first play.new)

  at_end : Unhindered w
  at_end =
      kept_by_lines stands Unhindered (MayCome changer) (λ session slot. tt) (λ number. tt) event_keeps script may start play.first w play.plays (begins_unhindered stands changer play.first play.new)

  at_last : (last : IsLastRound stands given lost count (record { world = play.plays.between; idle = 0 }) w) → Unhindered last.before.world
  at_last last =
      kept_by_deeds (λ (c : Calm R). Unhindered c.world) _
      (λ k old new rounds was. kept_by_rounds stands Unhindered (MayCome changer) (λ session slot. tt) (λ number. tt) event_keeps given (start script.lines [] (sym (append-nil script.lines))) lost count k old new rounds was)
      last.count (record { world = play.plays.between; idle = 0 }) last.before last.first at_closing

  counted : AreClientsCounted w
  counted = ends_counted stands script play.first w play.plays (world_counted stands play.first (new_world_is_sound stands play.first play.new))

  -- ---- nobody is held up

  locked_out : (c : ClientView R) (slot : ℕ) (r : Running R) (p : ImageAt) → IsFree (lock_state_at p.site p.image c.locks) → (who : Actor) → is_acquiring who ≡ false → IsLockedOut lost p w c who → ⊥
  locked_out c slot r p free actor.Nobody none out = false≢true (sym free.quiesced ∙ out)
  locked_out c slot r p free actor.Request none out = out
  locked_out c slot r p free (actor.Way a) none out = true≢false none
  locked_out c slot r p free (actor.Release x) none out = out

  nobody_is_held_up : play.plays.closing.idle ≡ most_idle → SomebodyIsHeldUp stands lost w → ⊥
  nobody_is_held_up eight up =
      by (last_round stands given lost count play.plays.closing.count (record { world = play.plays.between; idle = 0 }) (record { world = w; idle = play.plays.closing.idle }) play.plays.closing.on refl eight)
    where
      below : up.session < count
      below = runs_below stands script w play up.session up.client up.runs

      acts : (slot : ℕ) → 1 ≤ slot → slot ≤ 64 → ((k : ℕ) → k < 64 → (c : ClientView R) → client_in up.session w.lives ≡ Some c → ActsItself stands (k + 1) c) → ActsItself stands slot up.client
      acts zero least most each = absurd (omega (arith, least))
      acts (suc k) least most each = let same : k + 1 ≡ suc k = omega arith in subst (λ n. ActsItself stands n up.client) same (each k (omega (arith, most)) up.client up.runs)

      by : IsLastRound stands given lost count (record { world = play.plays.between; idle = 0 }) w → ⊥
      by last = go last.rest
        where
          old : Pace R
          old = record { world = last.before.world; went_on = false }

          new : Pace R
          new = record { world = w; went_on = false }

          go : IsAtRest stands given lost count last.before.world → ⊥
          go (inl quiet) =
              let each = holds_turns stands given (IsUnhindered stands one.changer) (idle_keeps stands one.changer) (ActsItself stands) (idle_acts stands one.changer)
              (polls_act stands one.changer) (λ slot c free r runs. absurd (none-some r (sym (ap running_in free) ∙ runs)))
              lost count (record { world = last.before.world; went_on = false }) (record { world = w; went_on = false }) last.round refl quiet (at_last last) up.session below in
              let range = counted_range up.client (counted up.session up.client up.runs) up.slot _ (running_held (held_in up.slot up.client.session.slots) up.held.request up.held.runs) in
              locked_out up.client up.slot up.held.request up.held.image ((at_end.tame up.session up.client up.runs).locks up.held.image.site up.held.image.image) (actor_at stands up.slot up.client)
              (acts up.slot range.0 range.1 each up.held.request up.held.runs) up.held.out
          go (inr none) =
              let still = none_still stands given lost count (record { world = last.before.world; went_on = false }) (record { world = w; went_on = false }) last.round none in
              true≢false (sym (ap is_some up.runs) ∙ still up.session below)

  -- ---- so each command has its reply

  running_there : (s : ℕ) → s < count → runs s w ≡ true
  running_there s below = by (lives_in s w.lives) refl
    where
      by : (o : Option (LivesView R)) → lives_in s w.lives ≡ o → is_some (running_of (lives_in s w.lives)) ≡ true
      by None at = absurd (false≢true (sym (ap is_some at) ∙ (sessions_there stands script w play).there s below))
      by (Some l) at = ap (λ x. is_some (running_of x)) at ∙ at_end.runs s l at

  all_replied : AreOver script w → AreAllReplied script w
  all_replied over =
      All-weaker (λ (c : Given). is_ended c.line w.history ≡ true) (λ (c : Given). is_replied c.line w.history ≡ true) (λ c ended. sym (at_end.replies c.line) ∙ ended) (commands_of script.lines)
      (by_session (λ (c : Given). is_ended c.line w.history ≡ true) (λ s. s < count) (commands_of script.lines) (λ s below. over.given s (running_there s below))
      (commands_declared count script.lines playable.declared))

  pub changes_are_over : HasCalmed stands script w → length w.calls < 2 ^ 59 → AreOver script w × AreAllReplied script w
  changes_are_over calmed few = by calmed.all
    where
      by : AreOver script w ⊎ SomebodyIsHeldUp stands lost w → AreOver script w × AreAllReplied script w
      by (inl over) = (over, all_replied over)
      by (inr up) = absurd (nobody_is_held_up (ends_idle stands script w play few) up)
