-- The commands of a script whose lines are in order: each has a line of its own.
use Rattle.std.proofs.Common.{◌≡◌, ℕ, ◌<◌, ◌≤◌, ◌==◌, ◌⊎◌, inl, inr, true, List, [], ◌∷◌, ◌++◌, All, AllPairs, length, get_or, append_assoc, refl, sym, ap, ◌∙◌, subst, arith}
use Rattle.std.specs.Prelude.{Contains}
use Rattle.std.proofs.lemmas.Bool.{cases_lt, eqb-true}
use Rattle.std.proofs.lemmas.List.{get_or_append_left, get_or_default}
use Rattle.std.proofs.lemmas.List.Elements.{All-contains_itself, All-cons, All-filter, All-nil, All-weaker, filter-append, filter_passes}
use Rattle.std.proofs.lemmas.List.Kept.{AllPairs-cons, AllPairs-filter}
use Rattle.rbd_commands.specs.declared.command.Command.{Command}
use Rattle.rbd_script.specs.declared.script.Line.{Line}
use Rattle.rbd_script.specs.declared.script.Said.{Said}
use Rattle.rbd_script.specs.declared.script.Said.TheVariants as said
use Rattle.rbd_world.specs.declared.event.Event.TheVariants as event
use Rattle.rbd_schedule.specs.declared.given.Given.{Given}
use Rattle.rbd_schedule.specs.Given.{commands_of, given_by, given_in, of_session}
use Rattle.rbd_schedule.specs.InOrder.{AreAscendingFrom}

-- ---- the command of a line

-- its event submits it, for its session and its line
pub record IsSubmission (c : Given) : Type 0 where
  pub command : Command
  pub is : c.submission ≡ event.Submit c.session c.line command

-- a line gives none, or one with the line's number
one_given : (P : List Given → Type 0) (number : ℕ) (s : Said) → P [] → ((c : Given) → c.line ≡ number → IsSubmission c → P (c ∷ [])) → P (given_by number s)
one_given P number (said.Command session beside command) none one =
    one (record { session = session; line = number; beside = beside; submission = event.Submit session number command }) refl (record { command = command; is = refl })
one_given P number (said.Poll session slot times) none one = none
one_given P number (said.Until session slot kind) none one = none
one_given P number (said.Settle rounds) none one = none
one_given P number (said.Deliver notice) none one = none
one_given P number (said.Lose notice) none one = none
one_given P number (said.Expire session site image) none one = none
one_given P number (said.Stop session) none one = none
one_given P number (said.Restart session) none one = none
one_given P number (said.Late session slot) none one = none
one_given P number (said.Trim site image object) none one = none

pub all_submitted : (lines : List Line) → All IsSubmission (commands_of lines)
all_submitted [] = All-nil IsSubmission
all_submitted (line ∷ lines) =
    one_given (λ given. All IsSubmission (given ++ commands_of lines)) line.number line.said (all_submitted lines)
    (λ c number is. All-cons IsSubmission c (commands_of lines) is (all_submitted lines))

-- ---- their numbers

-- of each two commands the later one has the greater number
abbrev pub AreNumbered : List Given → Type 0
AreNumbered given = AllPairs (λ (a b : Given). a.line < b.line) given

numbers_behind : (number : ℕ) (lines : List Line) → AreAscendingFrom number lines → All (λ (c : Given). number < c.line) (commands_of lines)
numbers_behind number [] behind = All-nil (λ (c : Given). number < c.line)
numbers_behind number (line ∷ lines) behind =
    let first = behind.0 in
    let later = All-weaker (λ (c : Given). line.number < c.line) (λ (c : Given). number < c.line) (λ c more. omega (arith, first, more)) (commands_of lines) (numbers_behind line.number lines behind.1) in
    one_given (λ given. All (λ (c : Given). number < c.line) (given ++ commands_of lines)) line.number line.said later
    (λ c same is. All-cons (λ (c : Given). number < c.line) c (commands_of lines) (subst (λ n. number < n) (sym same) first) later)

are_numbered : (number : ℕ) (lines : List Line) → AreAscendingFrom number lines → AreNumbered (commands_of lines)
are_numbered number [] behind = λ i j d less within. absurd (omega (arith, within))
are_numbered number (line ∷ lines) behind =
    let rest = are_numbered line.number lines behind.1 in
    one_given (λ given. AreNumbered (given ++ commands_of lines)) line.number line.said rest
    (λ c same is. AllPairs-cons (λ (a b : Given). a.line < b.line) c (commands_of lines)
    (subst (λ n. All (λ (x : Given). n < x.line) (commands_of lines)) (sym same) (numbers_behind line.number lines behind.1)) rest)

pub session_numbered : (lines : List Line) (session : ℕ) → AreAscendingFrom 0 lines → AreNumbered (given_in lines session)
session_numbered lines session behind = AllPairs-filter (λ (a b : Given). a.line < b.line) (λ (c : Given). c.session == session) (commands_of lines) (are_numbered 0 lines behind)

-- two places with one number are one place
one_place : (given : List Given) → AreNumbered given → (i j : ℕ) (d : Given) → i < length given → j < length given → (get_or given i d).line ≡ (get_or given j d).line → i ≡ j
one_place given numbered i j d first second same = by (cases_lt i j) (cases_lt j i)
  where
    by : (i < j) ⊎ (j ≤ i) → (j < i) ⊎ (i ≤ j) → i ≡ j
    by (inl less) more = let up = numbered i j d less second in absurd (omega (arith, up, same))
    by (inr least) (inl less) = let down = numbered j i d less first in absurd (omega (arith, down, same))
    by (inr least) (inr most) = omega (arith, least, most)

-- two commands of one line are one command
one_command : (given : List Given) → AreNumbered given → (x y : Given) → Contains given x → Contains given y → x.line ≡ y.line → x ≡ y
one_command given numbered x y (i, first, is) (j, second, at) same =
    let there : get_or given j x ≡ y = get_or_default given j x y second ∙ at in
    let place : i ≡ j = one_place given numbered i j x first second (ap (λ (c : Given). c.line) is ∙ same ∙ ap (λ (c : Given). c.line) (sym there)) in
    sym is ∙ ap (λ k. get_or given k x) place ∙ there

-- ---- those of a session

pub of_script : (lines : List Line) (session : ℕ) → All (Contains (commands_of lines)) (given_in lines session)
of_script lines session = All-filter (λ (c : Given). c.session == session) (Contains (commands_of lines)) (commands_of lines) (All-contains_itself (commands_of lines))

pub own_session : (lines : List Line) (session : ℕ) → All (λ (c : Given). c.session ≡ session) (given_in lines session)
own_session lines session =
    All-weaker (λ (c : Given). (c.session == session) ≡ true) (λ (c : Given). c.session ≡ session) (λ c is. eqb-true c.session session is) (given_in lines session)
    (filter_passes (λ (c : Given). c.session == session) (commands_of lines))

pub submitted_in : (lines : List Line) (session : ℕ) → All IsSubmission (given_in lines session)
submitted_in lines session = All-filter (λ (c : Given). c.session == session) IsSubmission (commands_of lines) (all_submitted lines)

pub one_in_script : (lines : List Line) → AreAscendingFrom 0 lines → (x y : Given) → Contains (commands_of lines) x → Contains (commands_of lines) y → x.line ≡ y.line → x ≡ y
one_in_script lines behind x y first second same = one_command (commands_of lines) (are_numbered 0 lines behind) x y first second same

-- first those of the first lines
commands_append : (lines more : List Line) → commands_of (lines ++ more) ≡ commands_of lines ++ commands_of more
commands_append [] more = refl
commands_append (line ∷ lines) more =
    ap (λ given. given_by line.number line.said ++ given) (commands_append lines more) ∙ sym (append_assoc (given_by line.number line.said) (commands_of lines) (commands_of more))

pub given_append : (lines more : List Line) (session : ℕ) → given_in (lines ++ more) session ≡ given_in lines session ++ given_in more session
given_append lines more session =
    ap (of_session session) (commands_append lines more) ∙ filter-append (λ (c : Given). c.session == session) (commands_of lines) (commands_of more)

-- ---- the place of a command

at_front : {X : Type 0} (front back : List X) (c d : X) → get_or (front ++ c ∷ back) (length front) d ≡ c
at_front [] back c d = refl
at_front (x ∷ front) back c d = at_front front back c d

within_front : {X : Type 0} (front back : List X) (c : X) → length front < length (front ++ c ∷ back)
within_front [] back c = omega arith
within_front (x ∷ front) back c = let rest = within_front front back c in omega (arith, rest)

-- who stands before the place of a command stands in front of it
pub in_front : (P : Given → Type 0) (given front back : List Given) (c : Given) → given ≡ front ++ c ∷ back → AreNumbered given → All P front
    → (i j : ℕ) (d : Given) → i < j → j < length given → (get_or given j d).line ≡ c.line → P (get_or given i d)
in_front P given front back c is numbered all i j d less within same =
    let there : get_or given (length front) d ≡ c = ap (λ xs. get_or xs (length front) d) is ∙ at_front front back c d in
    let inside : length front < length given = subst (λ xs. length front < length xs) (sym is) (within_front front back c) in
    let place : j ≡ length front = one_place given numbered j (length front) d within inside (same ∙ ap (λ (x : Given). x.line) (sym there)) in
    let before : i < length front = omega (arith, less, place) in
    subst P (sym (ap (λ xs. get_or xs i d) is ∙ get_or_append_left front (c ∷ back) d i before)) (all i d before)
