-- Each reply is one of a command of the script, and no command has two.
use Rattle.std.proofs.Common.{◌≡◌, ℕ, ◌+◌, ◌<◌, ◌≤◌, ◌==◌, ◌||◌, nat_lt, not, cond, Bool, true, false, List, [], ◌∷◌, ◌++◌, All, Contains, map, length, count_by, is_some, Option, Some, None, refl, sym, ap, ◌∙◌, subst, arith}
use Rattle.std.specs.List.{list_any}
use Rattle.std.proofs.Math.Bool.{or-false}
use Rattle.std.proofs.lemmas.Bool.{eq-eqb, eqb-true, false≢true, or_from, or_left, or_parts, or_right}
use Rattle.std.proofs.lemmas.List.Elements.{All-cons, All-contains_itself, All-filter, All-head, All-nil, All-tail, All-weaker}
use Rattle.std.proofs.lemmas.List.Folds.{list_any-append, list_any_at}
use Rattle.std.proofs.lemmas.List.Sums.{sum_by-append, sum_by-cons}
use Rattle.std.proofs.lemmas.Option.{none-some, same_Some}
use Rattle.rbd_client.specs.Client.{ClientView}
use Rattle.rbd_commands.specs.declared.command.Command.{Command}
use Rattle.rbd_flat.specs.declared.effect.Effect.{Effect}
use Rattle.rbd_flat.specs.declared.entry.Cause.{Cause}
use Rattle.rbd_flat.specs.declared.entry.Entry.{Entry}
use Rattle.rbd_flat.specs.declared.entry.Entry.TheVariants as entry
use Rattle.rbd_kinds.specs.declared.id.Instance.{Instance}
use Rattle.rbd_kinds.specs.declared.id.SiteId.{SiteId}
use Rattle.rbd_kinds.specs.declared.reply.Reply.{Reply}
use Rattle.rbd_kinds.proofs.Plain.{eqb_flip}
use Rattle.rbd_machine.specs.Plan.{Standing}
use Rattle.rbd_script.specs.declared.script.Line.{Line}
use Rattle.rbd_script.specs.declared.script.Said.{Said}
use Rattle.rbd_script.specs.declared.script.Said.TheVariants as said
use Rattle.rbd_script.specs.declared.script.Script.{Script}
use Rattle.rbd_world.specs.declared.event.Event.{Event}
use Rattle.rbd_world.specs.declared.event.Event.TheVariants as event
use Rattle.rbd_world.specs.declared.event.Outcome.{Outcome}
use Rattle.rbd_world.specs.Run.{AfterStop, Began, Did, Doer, Expired, Happening, Heard, House, Itself, Nothing, OnWay, Operation, Refused, Restarted, Stopped, Trimmed, Waited, cause_of, ending_entries, ends, entries_of, entry_by, entry_unfenced, fence_of, history_of, is_for, loses, replies_to}
use Rattle.rbd_world.specs.Sound.{EndsItsLine, IsDue, IsOpen, IsRight, has_ended}
use Rattle.rbd_world.specs.Step.{IsWorldStep, begins_of, happening, is_begun, is_start_of, submitted}
use Rattle.rbd_world.specs.World.{WorldView, client_in}
use Rattle.rbd_world.proofs.Runs.{begun_is_asked}
use Rattle.rbd_schedule.specs.declared.given.Given.{Given}
use Rattle.rbd_schedule.specs.Given.{commands_of, given_by, given_in}
use Rattle.rbd_schedule.specs.InOrder.{AreAscendingFrom, AreLinesInOrder}
use Rattle.rbd_schedule.specs.Playing.{IsNoStart, IsPlay}
use Rattle.rbd_schedule.specs.Schedule.{Submits}
use Rattle.rbd_schedule.specs.Starts.{is_ended}
use Rattle.rbd_schedule.proofs.Begins.{event_begins}
use Rattle.rbd_schedule.proofs.Entries.{start_is_earliest}
use Rattle.rbd_schedule.proofs.Goes.{earliest_is_given}
use Rattle.rbd_schedule.proofs.Kept.{kept_by_parts}
use Rattle.rbd_schedule.proofs.Numbered.{IsSubmission, given_append, submitted_in}
use Rattle.rbd_plays.specs.AddUp.{AddUp, is_reply}
use Rattle.rbd_plays.specs.OneChanger.{is_replied, is_reply_of}
use Rattle.rbd_plays.proofs.Replied.{no_reply}

-- ---- the commands of a script ascend

abbrev AscendFrom : (number : ℕ) → List Given → Type 0
AscendFrom number [] = Unit {0}
AscendFrom number (c ∷ given) = (number < c.line) × AscendFrom c.line given

from_less : (few more : ℕ) (given : List Given) → few ≤ more → AscendFrom more given → AscendFrom few given
from_less few more [] less up = tt
from_less few more (c ∷ given) less (first, up) = (omega (arith, first), up)

one_or_none : (P : List Given → Type 0) (number : ℕ) (s : Said) → P [] → ((c : Given) → c.line ≡ number → P (c ∷ [])) → P (given_by number s)
one_or_none P number (said.Command session beside command) none one =
    one (record { session = session; line = number; beside = beside; submission = event.Submit session number command }) refl
one_or_none P number _ none one = none

ascending : (number : ℕ) (lines : List Line) → AreAscendingFrom number lines → AscendFrom number (commands_of lines)
ascending number [] behind = tt
ascending number (line ∷ lines) behind =
    let first = behind.0 in
    let rest = ascending line.number lines behind.1 in
    one_or_none (λ given. AscendFrom number (given ++ commands_of lines)) line.number line.said (from_less number line.number (commands_of lines) (omega (arith, first)) rest)
    (λ c same. (subst (λ n. number < n) (sym same) first, subst (λ n. AscendFrom n (commands_of lines)) (sym same) rest))

-- ---- one reply more is one command less without a reply

-- the line is that of one of the commands
abbrev is_given : (line : ℕ) → List Given → Bool
is_given line given = list_any (λ (c : Given). c.line == line) given

-- how many have no reply
abbrev without : (replied : (line : ℕ) → Bool) → List Given → ℕ
without replied given = count_by (λ (c : Given). not (replied c.line)) given

without_cons : (replied : (line : ℕ) → Bool) (c : Given) (given : List Given) → without replied (c ∷ given) ≡ cond (not (replied c.line)) 1 0 + without replied given
without_cons replied c given = sum_by-cons (λ (x : Given). cond (not (replied x.line)) 1 0) c given

sums_same : (a b x y r s : ℕ) → a ≡ x + r → b ≡ y + s → x ≡ y → r ≡ s → a ≡ b
sums_same a b x y r s one other same rest = omega arith

sums_more : (a b x y r s : ℕ) → a ≡ x + r → b ≡ y + s → x ≡ y → r ≡ s + 1 → a ≡ b + 1
sums_more a b x y r s one other same rest = omega arith

sums_here : (a b x y r s : ℕ) → a ≡ x + r → b ≡ y + s → x ≡ 1 → y ≡ 0 → s ≡ r → a ≡ b + 1
sums_here a b x y r s one other full empty rest = omega arith

same_behind : (old new : (line : ℕ) → Bool) (number : ℕ) (given : List Given) → AscendFrom number given → ((line : ℕ) → number < line → new line ≡ old line) → without new given ≡ without old given
same_behind old new number [] up same = refl
same_behind old new number (c ∷ given) (first, up) same =
    sums_same (without new (c ∷ given)) (without old (c ∷ given)) (cond (not (new c.line)) 1 0) (cond (not (old c.line)) 1 0) (without new given) (without old given)
    (without_cons new c given) (without_cons old c given) (ap (λ b. cond (not b) 1 0) (same c.line first))
    (same_behind old new c.line given up (λ line more. same line (omega (arith, first, more))))

module _ (old new : (line : ℕ) → Bool) (n : ℕ) (step : (line : ℕ) → new line ≡ (old line || (line == n))) (fresh : old n ≡ false) where
  other_stays : (line : ℕ) → (line == n) ≡ false → new line ≡ old line
  other_stays line other = step line ∙ ap (λ b. old line || b) other ∙ or-false (old line)

  above_other : (line : ℕ) → n < line → (line == n) ≡ false
  above_other line more = by (line == n) refl
    where
      by : (b : Bool) → (line == n) ≡ b → b ≡ false
      by true is = let same = eqb-true line n is in absurd (omega (arith, more, same))
      by false is = refl

  one_more : (number : ℕ) (given : List Given) → AscendFrom number given → is_given n given ≡ true → without old given ≡ without new given + 1
  one_more number [] up there = absurd (false≢true there)
  one_more number (c ∷ given) (first, up) there = by (c.line == n) refl there (one_more c.line given up)
    where
      by : (b : Bool) → (c.line == n) ≡ b → (b || is_given n given) ≡ true → (is_given n given ≡ true → without old given ≡ without new given + 1)
          → without old (c ∷ given) ≡ without new (c ∷ given) + 1
      by true here there rest =
          let same : c.line ≡ n = eqb-true c.line n here in
          sums_here (without old (c ∷ given)) (without new (c ∷ given)) (cond (not (old c.line)) 1 0) (cond (not (new c.line)) 1 0) (without old given) (without new given)
          (without_cons old c given) (without_cons new c given)
          (ap (λ b. cond (not b) 1 0) (ap old same ∙ fresh))
          (ap (λ b. cond (not b) 1 0) (step c.line ∙ or_right (old c.line) (c.line == n) here))
          (same_behind old new c.line given up (λ line more. other_stays line (above_other line (omega (arith, same, more)))))
      by false other there rest =
          sums_more (without old (c ∷ given)) (without new (c ∷ given)) (cond (not (old c.line)) 1 0) (cond (not (new c.line)) 1 0) (without old given) (without new given)
          (without_cons old c given) (without_cons new c given)
          (ap (λ b. cond (not b) 1 0) (sym (other_stays c.line other))) (rest there)

all_without : (given : List Given) → length given ≡ without (λ line. false) given
all_without [] = refl
all_without (c ∷ given) = let cons = without_cons (λ line. false) c given in let rest = all_without given in omega (arith, cons, rest)

-- ---- what a happening replies to

abbrev line_by : Doer → Option ℕ
line_by (Itself line) = Some line
line_by (OnWay line) = Some line
line_by House = None
line_by (AfterStop slot) = None

-- the line that has its reply by it
abbrev reply_line : Happening → Option ℕ
reply_line (Did o (Some reply)) = line_by o.by
reply_line (Refused s line reply) = Some line
reply_line _ = None

abbrev many : Option ℕ → ℕ
many None = 0
many (Some n) = 1

abbrev is_that : (line : ℕ) → Option ℕ → Bool
is_that line None = false
is_that line (Some n) = line == n

skips_unfenced : (c : Cause) (s : SiteId) (number : ℕ) (e : Option Effect) (rest : List Entry) → count_by is_reply (entry_unfenced c s number e ∷ rest) ≡ count_by is_reply rest
skips_unfenced c s number None rest = refl
skips_unfenced c s number (Some e) rest = refl

skips : (c : Cause) (s : SiteId) (number : ℕ) (fence : Option Instance) (e : Option Effect) (rest : List Entry) → count_by is_reply (entry_by c s number fence e ∷ rest) ≡ count_by is_reply rest
skips c s number None e rest = skips_unfenced c s number e rest
skips c s number (Some who) e rest = refl

endings_many : (by : Doer) (reply : Reply) → count_by is_reply (ending_entries by (Some reply)) ≡ many (line_by by)
endings_many (Itself line) reply = refl
endings_many (OnWay line) reply = refl
endings_many House reply = refl
endings_many (AfterStop slot) reply = refl

no_ending : (by : Doer) → ending_entries by None ≡ []
no_ending (Itself line) = refl
no_ending (OnWay line) = refl
no_ending House = refl
no_ending (AfterStop slot) = refl

lost_many : (lost : List ℕ) → count_by is_reply (map entry.Lost lost) ≡ 0
lost_many [] = refl
lost_many (line ∷ lost) = lost_many lost

replies_many : (h : Happening) → count_by is_reply (entries_of h) ≡ many (reply_line h)
replies_many Nothing = refl
replies_many Waited = refl
replies_many (Began asked slot) = refl
replies_many (Did o None) =
    skips (cause_of o.instance o.by) o.site o.number (fence_of o.op o.answer) o.effect (ending_entries o.by None) ∙ ap (count_by is_reply) (no_ending o.by)
replies_many (Did o (Some reply)) =
    skips (cause_of o.instance o.by) o.site o.number (fence_of o.op o.answer) o.effect (ending_entries o.by (Some reply)) ∙ endings_many o.by reply
replies_many (Refused s line reply) = refl
replies_many (Trimmed s number image object) = refl
replies_many (Expired s number image who) = refl
replies_many (Heard notice) = refl
replies_many (Stopped who wanted lost) = lost_many lost
replies_many (Restarted who) = refl

one_ending : (line : ℕ) (by : Doer) (reply : Reply) → is_replied line (ending_entries by (Some reply)) ≡ is_that line (line_by by)
one_ending line (Itself other) reply = or-false (line == other)
one_ending line (OnWay other) reply = or-false (line == other)
one_ending line House reply = refl
one_ending line (AfterStop slot) reply = refl

lost_replies : (line : ℕ) (lost : List ℕ) → is_replied line (map entry.Lost lost) ≡ false
lost_replies line [] = refl
lost_replies line (other ∷ lost) = lost_replies line lost

replied_that : (line : ℕ) (h : Happening) → is_replied line (entries_of h) ≡ is_that line (reply_line h)
replied_that line Nothing = refl
replied_that line Waited = refl
replied_that line (Began asked slot) = refl
replied_that line (Did o None) =
    ap (λ b. b || is_replied line (ending_entries o.by None)) (no_reply line (cause_of o.instance o.by) o.site o.number (fence_of o.op o.answer) o.effect) ∙ ap (is_replied line) (no_ending o.by)
replied_that line (Did o (Some reply)) =
    ap (λ b. b || is_replied line (ending_entries o.by (Some reply))) (no_reply line (cause_of o.instance o.by) o.site o.number (fence_of o.op o.answer) o.effect) ∙ one_ending line o.by reply
replied_that line (Refused s other reply) = or-false (line == other)
replied_that line (Trimmed s number image object) = refl
replied_that line (Expired s number image who) = refl
replied_that line (Heard notice) = refl
replied_that line (Stopped who wanted lost) = lost_replies line lost
replied_that line (Restarted who) = refl

doer_that : (line : ℕ) (by : Doer) → is_that line (line_by by) ≡ is_for line by
doer_that line (Itself other) = eqb_flip line other ∙ sym (or-false (other == line))
doer_that line (OnWay other) = eqb_flip line other
doer_that line House = refl
doer_that line (AfterStop slot) = refl

that_replies : (line : ℕ) (h : Happening) → is_that line (reply_line h) ≡ replies_to line h
that_replies line Nothing = refl
that_replies line Waited = refl
that_replies line (Began asked slot) = refl
that_replies line (Did o None) = refl
that_replies line (Did o (Some reply)) = doer_that line o.by
that_replies line (Refused s other reply) = eqb_flip line other
that_replies line (Trimmed s number image object) = refl
that_replies line (Expired s number image who) = refl
that_replies line (Heard notice) = refl
that_replies line (Stopped who wanted lost) = refl
that_replies line (Restarted who) = refl

-- ---- a line that has ended has no second reply

unreplied : (line : ℕ) (run : List Happening) → has_ended line run ≡ false → is_replied line (history_of run) ≡ false
unreplied line [] fresh = refl
unreplied line (h ∷ run) fresh =
    let parts = or_parts (ends line h) (has_ended line run) fresh in
    list_any-append (is_reply_of line) (history_of run) (entries_of h)
    ∙ or_from (is_replied line (history_of run)) (is_replied line (entries_of h)) (unreplied line run parts.1)
    (replied_that line h ∙ that_replies line h ∙ (or_parts (replies_to line h) (loses line h) parts.0).0)

module _ (homes : ℕ → SiteId) where
  ending_open : (o : Operation) (reply : Reply) (run : List Happening) (n : ℕ) (by : Doer) → EndsItsLine homes o reply run by → line_by by ≡ Some n → IsOpen n run
  ending_open o reply run n (Itself line) meant is = subst (λ l. IsOpen l run) (same_Some line n is) meant.begun
  ending_open o reply run n (OnWay line) meant is = subst (λ l. IsOpen l run) (same_Some line n is) meant.begun
  ending_open o reply run n House meant is = absurd meant
  ending_open o reply run n (AfterStop slot) meant is = absurd meant

  replied_open : (h : Happening) (run : List Happening) (n : ℕ) → IsDue homes h run → reply_line h ≡ Some n → IsOpen n run
  replied_open (Did o (Some reply)) run n due is = ending_open o reply run n o.by due.1 is
  replied_open (Refused s line reply) run n due is = subst (λ l. IsOpen l run) (same_Some line n is) due.begun
  replied_open (Did o None) run n due is = absurd (none-some n is)
  replied_open Nothing run n due is = absurd (none-some n is)
  replied_open Waited run n due is = absurd (none-some n is)
  replied_open (Began asked slot) run n due is = absurd (none-some n is)
  replied_open (Trimmed s number image object) run n due is = absurd (none-some n is)
  replied_open (Expired s number image who) run n due is = absurd (none-some n is)
  replied_open (Heard notice) run n due is = absurd (none-some n is)
  replied_open (Stopped who wanted lost) run n due is = absurd (none-some n is)
  replied_open (Restarted who) run n due is = absurd (none-some n is)

-- ---- a run

sums_still : (n a b x y : ℕ) → n ≡ a + x → b ≡ a + 0 → x ≡ y → n ≡ b + y
sums_still n a b x y all one same = omega arith

sums_one : (n a b x y : ℕ) → n ≡ a + x → b ≡ a + 1 → x ≡ y + 1 → n ≡ b + y
sums_one n a b x y all one more = omega arith

module _ (homes : ℕ → SiteId) (given : List Given) (up : AscendFrom 0 given) where
  -- each line that was begun is that of a command
  abbrev Known : List Entry → Type 0
  Known history = (line : ℕ) → is_begun line history ≡ true → is_given line given ≡ true

  abbrev Adds : List Entry → Type 0
  Adds history = length given ≡ count_by is_reply history + without (λ line. is_replied line history) given

  one_step : (h : Happening) (run : List Happening) → IsDue homes h run → Known (history_of run) → Adds (history_of run) → Adds (history_of (h ∷ run))
  one_step h run due known adds = by (reply_line h) refl
    where
      old : (line : ℕ) → Bool
      old line = is_replied line (history_of run)

      new : (line : ℕ) → Bool
      new line = is_replied line (history_of run ++ entries_of h)

      more : (o : Option ℕ) → reply_line h ≡ o → count_by is_reply (history_of run ++ entries_of h) ≡ count_by is_reply (history_of run) + many o
      more o is =
          sum_by-append (λ (e : Entry). cond (is_reply e) 1 0) (history_of run) (entries_of h)
          ∙ ap (λ n. count_by is_reply (history_of run) + n) (replies_many h ∙ ap many is)

      then : (o : Option ℕ) → reply_line h ≡ o → (line : ℕ) → new line ≡ (old line || is_that line o)
      then o is line = list_any-append (is_reply_of line) (history_of run) (entries_of h) ∙ ap (λ b. old line || b) (replied_that line h ∙ ap (is_that line) is)

      by : (o : Option ℕ) → reply_line h ≡ o → Adds (history_of run ++ entries_of h)
      by None is =
          sums_still (length given) (count_by is_reply (history_of run)) (count_by is_reply (history_of run ++ entries_of h)) (without old given) (without new given)
          adds (more None is) (sym (same_behind old new 0 given up (λ line above. then None is line ∙ or-false (old line))))
      by (Some n) is =
          let begun = replied_open homes h run n due is in
          sums_one (length given) (count_by is_reply (history_of run)) (count_by is_reply (history_of run ++ entries_of h)) (without old given) (without new given)
          adds (more (Some n) is)
          (one_more old new n (then (Some n) is) (unreplied n run begun.unended) 0 given up (known n (begun_is_asked n run ∙ ap is_some begun.is)))

  run_adds : (run : List Happening) → IsRight homes run → Known (history_of run) → Adds (history_of run)
  run_adds [] right known = let all = all_without given in omega (arith, all)
  run_adds (h ∷ run) right known =
      let before : Known (history_of run)
      = λ line begun.
      known line (list_any-append (is_start_of line) (history_of run) (entries_of h) ∙ or_left (is_begun line (history_of run)) (is_begun line (entries_of h)) begun) in
      one_step h run right.1 before (run_adds run right.2 before)

-- ---- what a play begins is a command of the script

all_first : (P : Given → Type 0) (given more : List Given) → All P (given ++ more) → All P given
all_first P [] more all = All-nil P
all_first P (c ∷ given) more all = All-cons P c given (All-head P c (given ++ more) all) (all_first P given more (All-tail P c (given ++ more) all))

all_given : (given : List Given) → All (λ (c : Given). is_given c.line given ≡ true) given
all_given given =
    All-weaker (Contains given) (λ (c : Given). is_given c.line given ≡ true)
    (λ c there. list_any_at (λ (x : Given). x.line == c.line) given there.0 c there.1 (ap (λ (x : Given). x.line == c.line) there.2 ∙ eq-eqb c.line c.line refl))
    given (All-contains_itself given)

-- a submission begins no other line than its own
submission_begins : {R : Type 0} (line : ℕ) (begun : Bool) (number : ℕ) (command : Command) (c : Option (ClientView R)) → (number == line) ≡ false → is_begun line (entries_of (submitted begun number command c)) ≡ false
submission_begins line begun number command None other = refl
submission_begins line begun number command (Some c) other = by (begun || nat_lt 64 c.session.lowest)
  where
    by : (b : Bool) → is_begun line (entries_of (cond b Nothing (Began (begins_of c.session.instance number command) c.session.lowest))) ≡ false
    by true = refl
    by false = ap (λ b. b || false) other

module _ {R : Type 0} (stands : R → Standing) (all : List Line) where
  abbrev BeginsGiven : WorldView R → Type 0
  BeginsGiven w = (line : ℕ) → is_begun line w.history ≡ true → is_given line (commands_of all) ≡ true

  -- where no line begins
  still_given : (line : ℕ) (e : Event) (result : Outcome) (old new : WorldView R) → IsWorldStep stands e old result new → is_begun line (entries_of (happening stands e old)) ≡ false
      → BeginsGiven old → is_begun line new.history ≡ true → is_given line (commands_of all) ≡ true
  still_given line e result old new step none was begun =
      was line (sym (ap (is_begun line) step.1.history ∙ list_any-append (is_start_of line) old.history (entries_of (happening stands e old))
      ∙ ap (λ b. is_begun line old.history || b) none ∙ or-false (is_begun line old.history)) ∙ begun)

  given_by_event : (e : Event) (result : Outcome) (old new : WorldView R) → IsNoStart e → IsWorldStep stands e old result new → BeginsGiven old → BeginsGiven new
  given_by_event e result old new plain step was = λ line begun. still_given line e result old new step (event_begins stands line e old plain) was begun

  -- a command that starts
  record IsOfScript (c : Given) : Type 0 where
    submission : IsSubmission c
    there : is_given c.line (commands_of all) ≡ true

  of_script : (lines more : List Line) → all ≡ lines ++ more → (session : ℕ) → All IsOfScript (given_in lines session)
  of_script lines more is session = both (given_in lines session) (submitted_in lines session) there
    where
      Is : Given → Type 0
      Is c = is_given c.line (commands_of all) ≡ true

      there : All Is (given_in lines session)
      there =
          all_first Is (given_in lines session) (given_in more session)
          (subst (All Is) (ap (λ ls. given_in ls session) is ∙ given_append lines more session)
          (All-filter (λ (c : Given). c.session == session) Is (commands_of all) (all_given (commands_of all))))

      both : (given : List Given) → All IsSubmission given → All Is given → All IsOfScript given
      both [] first second = All-nil IsOfScript
      both (c ∷ given) first second =
          All-cons IsOfScript c given (record { submission = All-head IsSubmission c given first; there = All-head Is c given second })
          (both given (All-tail IsSubmission c given first) (All-tail Is c given second))

  given_by_start : (lines more : List Line) → all ≡ lines ++ more → (session : ℕ) (old new : WorldView R) → Submits stands (given_in lines) session old new → BeginsGiven old → BeginsGiven new
  given_by_start lines more is session old new submits was line begun = by (c.line == line) refl
    where
      c : Given
      c = submits.command

      starts : IsOfScript c
      starts =
          earliest_is_given IsOfScript (λ l. is_begun l old.history) (λ l. is_ended l old.history) true (given_in lines session) c (of_script lines more is session)
          (start_is_earliest (given_in lines session) old session c submits.may)

      by : (b : Bool) → (c.line == line) ≡ b → is_given line (commands_of all) ≡ true
      by true same = subst (λ l. is_given l (commands_of all) ≡ true) (eqb-true c.line line same) starts.there
      by false other =
          still_given line c.submission submits.result old new submits.step
          (ap (λ e. is_begun line (entries_of (happening stands e old))) starts.submission.is
          ∙ submission_begins line (is_begun c.line old.history) c.line starts.submission.command (client_in c.session old.lives) other) was begun

-- ---- a play

pub play_adds_up : {R : Type 0} (stands : R → Standing) (script : Script) (w : WorldView R) → AreLinesInOrder script.lines → IsPlay stands script w → AddUp script.lines w.history
play_adds_up stands script w in_order play =
    let begun = kept_by_parts stands (BeginsGiven stands script.lines) (given_by_event stands script.lines) script (given_by_start stands script.lines) play.first w play.plays
    (λ line begun. absurd (false≢true (sym (ap (is_begun line) play.new.history) ∙ begun))) in
    subst (AddUp script.lines) (sym play.told.history)
    (run_adds play.told.homes (commands_of script.lines) (ascending 0 script.lines in_order) play.told.run play.told.right
    (λ line is. begun line (ap (is_begun line) play.told.history ∙ is)))
