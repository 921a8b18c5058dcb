-- Commands of a session that wait for each other come one after another.
use Rattle.std.proofs.Common.{◌≡◌, ℕ, ◌<◌, ◌==◌, ◌&&◌, ◌||◌, nat_lt, not, cond, Bool, true, false, List, [], ◌∷◌, ◌++◌, All, length, get_or, append_assoc, Option, Some, None, refl, sym, ap, ◌∙◌, subst}
use Rattle.std.specs.Prelude.{Contains}
use Rattle.std.proofs.lemmas.Bool.{and_parts}
use Rattle.std.proofs.lemmas.List.Elements.{All-cons, All-head, All-nil, All-tail}
use Rattle.std.proofs.lemmas.Option.{none-some, same_Some}
use Rattle.rbd_client.specs.Client.{ClientView}
use Rattle.rbd_flat.specs.declared.entry.Entry.{Entry}
use Rattle.rbd_commands.specs.declared.command.Command.{Command}
use Rattle.rbd_machine.specs.Plan.{Standing}
use Rattle.rbd_script.specs.declared.script.Line.{Line}
use Rattle.rbd_script.specs.declared.script.Script.{Script}
use Rattle.rbd_world.specs.declared.event.Event.{Event}
use Rattle.rbd_world.specs.declared.event.Event.TheVariants as event
use Rattle.rbd_world.specs.declared.event.Outcome.{Outcome}
use Rattle.rbd_world.specs.Run.{Nothing, Began, entries_of}
use Rattle.rbd_world.specs.Step.{IsWorldStep, begins_of, happening, is_begun, submitted}
use Rattle.rbd_world.specs.World.{WorldView, client_in}
use Rattle.rbd_schedule.specs.declared.given.Given.{Given}
use Rattle.rbd_schedule.specs.Given.{commands_of, given_in}
use Rattle.rbd_schedule.specs.InOrder.{AreLinesInOrder}
use Rattle.rbd_schedule.specs.InTurn.{AreInTurn, IsEndedBefore}
use Rattle.rbd_schedule.specs.Playing.{IsNoStart, IsPlay}
use Rattle.rbd_schedule.specs.Schedule.{Submits}
use Rattle.rbd_schedule.specs.Starts.{earliest, is_ended}
use Rattle.rbd_schedule.proofs.Before.{begins_in_turn, nothing_before, stays_before}
use Rattle.rbd_schedule.proofs.Begins.{event_begins}
use Rattle.rbd_schedule.proofs.Entries.{start_is_earliest}
use Rattle.rbd_schedule.proofs.Kept.{kept_by_parts}
use Rattle.rbd_schedule.proofs.Numbered.{IsSubmission, given_append, in_front, of_script, one_in_script, own_session, session_numbered, submitted_in}

-- ---- the earliest command that may start

-- It is one of those that were given; and unless it stands beside the others, all in front of it
-- have ended.
record IsEarliest (a : (line : ℕ) → Bool) (before : Bool) (given : List Given) (c : Given) : Type 0 where
  front : List Given
  back : List Given
  is : given ≡ front ++ c ∷ back
  turn : c.beside ≡ false → (before ≡ true) × All (λ (x : Given). a x.line ≡ true) front

earliest_first : (a : (line : ℕ) → Bool) (before : Bool) (x c : Given) (given : List Given) → (x.beside || before) ≡ true → x ≡ c → IsEarliest a before (x ∷ given) c
earliest_first a before x c given may same = record {
  front = [];
  back = given;
  is = ap (λ y. y ∷ given) same;
  turn = λ behind. (
    subst (λ b. (b || before) ≡ true) (ap (λ (y : Given). y.beside) same ∙ behind) may,
    All-nil (λ (y : Given). a y.line ≡ true),
  );
}

earliest_later : (a : (line : ℕ) → Bool) (before : Bool) (x c : Given) (given : List Given) → IsEarliest a (before && a x.line) given c → IsEarliest a before (x ∷ given) c
earliest_later a before x c given later = record {
  front = x ∷ later.front;
  back = later.back;
  is = ap (λ ys. x ∷ ys) later.is;
  turn = λ behind.
      let turn = later.turn behind in
      let both = and_parts before (a x.line) turn.0 in (
        both.0,
        All-cons (λ (y : Given). a y.line ≡ true) x later.front both.1 turn.1,
      );
}

earliest_is : (b a : (line : ℕ) → Bool) (before : Bool) (given : List Given) (c : Given) → earliest b a before given ≡ Some c → IsEarliest a before given c
earliest_is b a before [] c is = absurd (none-some c is)
earliest_is b a before (x ∷ given) c is = by (not (b x.line)) (x.beside || before) refl (earliest_is b a (before && a x.line) given c) is
  where
    by : (p q : Bool) → (x.beside || before) ≡ q → (earliest b a (before && a x.line) given ≡ Some c → IsEarliest a (before && a x.line) given c)
        → cond (p && q) (Some x) (earliest b a (before && a x.line) given) ≡ Some c → IsEarliest a before (x ∷ given) c
    by true true may rest is = earliest_first a before x c given may (same_Some x c is)
    by true false may rest is = earliest_later a before x c given (rest is)
    by false q may rest is = earliest_later a before x c given (rest is)

-- so what holds of all holds of it
all_at : (P : Given → Type 0) (given front back : List Given) (c : Given) → given ≡ front ++ c ∷ back → All P given → P c
all_at P given front back c is all = at front (subst (All P) is all)
  where
    at : (front : List Given) → All P (front ++ c ∷ back) → P c
    at [] all = All-head P c back all
    at (x ∷ front) all = at front (All-tail P x (front ++ c ∷ back) all)

-- ---- what begins by an event

submission_begins : {R : Type 0} (line : ℕ) (begun : Bool) (number : ℕ) (command : Command) (c : Option (ClientView R)) → (number == line) ≡ false → is_begun line (entries_of (submitted begun number command c)) ≡ false
submission_begins line begun number command None other = refl
submission_begins line begun number command (Some c) other = by (begun || nat_lt 64 c.session.lowest)
  where
    by : (b : Bool) → is_begun line (entries_of (cond b Nothing (Began (begins_of c.session.instance number command) c.session.lowest))) ≡ false
    by true = refl
    by false = ap (λ b. b || false) other

module _ {R : Type 0} (stands : R → Standing) where
  -- no other line than that of the submission
  other_begins : (e : Event) (session number : ℕ) (command : Command) (w : WorldView R) → e ≡ event.Submit session number command → (line : ℕ) → (number == line) ≡ false
      → is_begun line (entries_of (happening stands e w)) ≡ false
  other_begins e session number command w is line other =
      ap (λ x. is_begun line (entries_of (happening stands x w))) is
      ∙ submission_begins line (is_begun number w.history) number command (client_in session w.lives) other

-- ---- the commands of a session in a play

-- where no line begins
turns_stay : (given : List Given) (old more new : List Entry) → new ≡ old ++ more → ((line : ℕ) → is_begun line more ≡ false) → AreInTurn given old → AreInTurn given new
turns_stay given old more new is none turns i j d less within behind =
    let a = get_or given i d in
    let b = get_or given j d in
    subst (IsEndedBefore a.line b.line) (sym is) (stays_before a.line b.line old more (none b.line) (turns i j d less within behind))

turns_by_event : {R : Type 0} (stands : R → Standing) (given : List Given) (e : Event) (result : Outcome) (old new : WorldView R) → IsNoStart e → IsWorldStep stands e old result new → AreInTurn given old.history → AreInTurn given new.history
turns_by_event stands given e result old new plain step turns =
    turns_stay given old.history (entries_of (happening stands e old)) new.history step.1.history (λ line. event_begins stands line e old plain) turns

-- a command begins whose turn it is
module _ (all : List Line) (in_order : AreLinesInOrder all) (session : ℕ) where
  -- What is known of a command that starts: it is one of the script's, its event submits it, and
  -- where it is this session's and waits, who stands before it has ended.
  record IsTurnOf (c : Given) (history : List Entry) : Type 0 where
    there : Contains (commands_of all) c
    submission : IsSubmission c
    turn : c.beside ≡ false → c.session ≡ session → (i j : ℕ) (d : Given) → i < j → j < length (given_in all session) → (get_or (given_in all session) j d).line ≡ c.line
        → is_ended (get_or (given_in all session) i d).line history ≡ true

  turn_of : (lines more : List Line) (other : ℕ) (c : Given) (history : List Entry) → all ≡ lines ++ more
      → IsEarliest (λ line. is_ended line history) true (given_in lines other) c → IsTurnOf c history
  turn_of lines more other c history is first =
      let back = first.back ++ given_in more other in
      let whole : given_in all other ≡ first.front ++ c ∷ back
      = ap (λ ls. given_in ls other) is ∙ given_append lines more other ∙ ap (λ xs. xs ++ given_in more other) first.is ∙ append_assoc first.front (c ∷ first.back) (given_in more other) in
      record {
        there = all_at (Contains (commands_of all)) (given_in all other) first.front back c whole (of_script all other);
        submission = all_at IsSubmission (given_in all other) first.front back c whole (submitted_in all other);
        turn = λ behind mine i j d less within number.
            let same : other ≡ session = sym (all_at (λ (x : Given). x.session ≡ other) (given_in all other) first.front back c whole (own_session all other)) ∙ mine in
            in_front (λ (x : Given). is_ended x.line history ≡ true) (given_in all session) first.front back c
            (subst (λ s. given_in all s ≡ first.front ++ c ∷ back) same whole)
            (session_numbered all session in_order) (first.turn behind).1 i j d less within number;
      }

  turns_by_start : {R : Type 0} (stands : R → Standing) (lines more : List Line) → all ≡ lines ++ more → (other : ℕ) (old new : WorldView R) → Submits stands (given_in lines) other old new
      → AreInTurn (given_in all session) old.history → AreInTurn (given_in all session) new.history
  turns_by_start stands lines more is other old new submits turns i j d less within behind =
      let c = submits.command in
      let first = earliest_is (λ line. is_begun line old.history) (λ line. is_ended line old.history) true (given_in lines other) c (start_is_earliest (given_in lines other) old other c submits.may) in
      let turn = turn_of lines more other c old.history is first in
      let a = get_or (given_in all session) i d in
      let b = get_or (given_in all session) j d in
      let answered : c.line ≡ b.line → is_ended a.line old.history ≡ true
      = λ same. let one : c ≡ b = one_in_script all in_order c b turn.there (of_script all session j d within) same in
      turn.turn (ap (λ (x : Given). x.beside) one ∙ behind) (ap (λ (x : Given). x.session) one ∙ own_session all session j d within) i j d less within (sym same) in
      subst (IsEndedBefore a.line b.line) (sym submits.step.1.history)
      (begins_in_turn a.line b.line c.line old.history (entries_of (happening stands c.submission old))
      (other_begins stands c.submission c.session c.line turn.submission.command old turn.submission.is) answered (turns i j d less within behind))

-- the commands of a session take turns in a play
pub play_takes_turns : {R : Type 0} (stands : R → Standing) (script : Script) (w : WorldView R) → IsPlay stands script w → AreLinesInOrder script.lines → (session : ℕ) → AreInTurn (given_in script.lines session) w.history
play_takes_turns stands script w play in_order session =
    let given = given_in script.lines session in
    kept_by_parts stands (λ v. AreInTurn given v.history) (turns_by_event stands given) script
    (turns_by_start script.lines in_order session stands) play.first w play.plays
    (λ i j d less within behind. subst (IsEndedBefore (get_or given i d).line (get_or given j d).line) (sym play.new.history) (nothing_before (get_or given i d).line (get_or given j d).line))
