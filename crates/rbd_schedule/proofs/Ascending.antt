-- The lines of a script that was read ascend, and name sessions that it declares.
use Rattle.std.proofs.Common.{◌≡◌, ℕ, ◌+◌, ◌<◌, ◌≤◌, Bool, true, false, ◌&&◌, cond, List, [], ◌∷◌, ◌++◌, length, length-append, codes, Option, Some, None, Result, Ok, Err, refl, ap, subst, arith}
use Rattle.std.specs.Prelude.{nat_le, nat_lt, not, position}
use Rattle.std.specs.List.{list_any}
use Rattle.std.proofs.lemmas.Bool.Decides.{nat_tests}
use Rattle.std.proofs.lemmas.List.Quantifiers.{position-Some}
use Rattle.rbd_commands.specs.declared.command.Command.{Command}
use Rattle.rbd_kinds.specs.declared.id.SiteId.TheVariants.{A}
use Rattle.rbd_script.specs.declared.fault.LineCause.{LineCause}
use Rattle.rbd_script.specs.declared.fault.LineCause.TheVariants.{BadName, ScheduleLine}
use Rattle.rbd_script.specs.declared.fault.LineFault.{LineFault}
use Rattle.rbd_script.specs.declared.schedule.ScheduleVerb.{ScheduleVerb}
use Rattle.rbd_script.specs.declared.schedule.ScheduleVerb.TheVariants as schedule
use Rattle.rbd_script.specs.declared.script.Declared.{Declared}
use Rattle.rbd_script.specs.declared.script.Line.{Line}
use Rattle.rbd_script.specs.declared.script.Said.{Said}
use Rattle.rbd_script.specs.declared.script.Said.TheVariants as said
use Rattle.rbd_script.specs.declared.script.Script.{Script}
use Rattle.rbd_script.specs.Command.{command_of_tokens}
use Rattle.rbd_script.specs.Form.{From, and_then, form}
use Rattle.rbd_script.specs.Line.{asked_of, declaration_of, declaring, request_of_tokens, said_behind, saying, with_line, with_tokens}
use Rattle.rbd_script.specs.Number.{greatest}
use Rattle.rbd_script.specs.Part.{Front, Part, Value, with_rest, part_of, place}
use Rattle.rbd_script.specs.Part.Part.{Kind, NewSession, Number, ScheduleWord, Session, Site, Times}
use Rattle.rbd_script.specs.Reading.{and_on, limit, lines_before, no_script, reading, too_long, with_lines}
use Rattle.rbd_script.specs.Schedule.{schedule_form, schedule_of}
use Rattle.rbd_script.specs.Session.{has_session_name, is_session_name, known, new_session_of, session_of_token}
use Rattle.rbd_script.specs.Token.{begins_with, is as is_word, text_lines, tokens_of}
use Rattle.rbd_schedule.specs.InOrder.{AreAscendingFrom, AreDeclared, AreLinesInOrder, NamesDeclared}

-- ---- what the parts of a line say of its sessions

known_some : (o : Option ℕ) (n : ℕ) → known o ≡ Ok n → o ≡ Some n
known_some None n is = absurd (cc)
known_some (Some m) n is = cc

-- only to look into a list that may have none
nobody : Declared
nobody = record { line = 0; name = []; home = A }

named_is_declared : (sessions : List Declared) (token : List ℕ) (n : ℕ) → session_of_token sessions token ≡ Ok n → n < length sessions
unfolding session_of_token
named_is_declared sessions token n is =
    (position-Some (has_session_name token) sessions n nobody (known_some (position (has_session_name token) sessions) n is)).0

third_of : (a b c : Bool) (token name : List ℕ) → cond (a && b && c) (Ok token) (Err BadName) ≡ Ok name → c ≡ true
third_of true true true token name is = refl
third_of true true false token name is = absurd (cc)
third_of true false c token name is = absurd (cc)
third_of false b c token name is = absurd (cc)

new_has_room : (sessions : List Declared) (token name : List ℕ) → new_session_of sessions token ≡ Ok name → length sessions < 32
unfolding new_session_of
new_has_room sessions token name is =
    let few : nat_lt (length sessions) 32 ≡ true = third_of (is_session_name token) (not (list_any (has_session_name token) sessions)) (nat_lt (length sessions) 32) token name is in
    grind (arith, nat_tests)

-- a session that is named is declared, and a new one has room
abbrev IsSessionPart : (p : Part) → Value p → Type 0
IsSessionPart (Session sessions) n = n < length sessions
IsSessionPart (NewSession sessions) name = length sessions < 32
IsSessionPart _ value = Unit {0}

before_value : {X : Type 0} (tokens : List (List ℕ)) (r : Result X LineCause) (value : X) (behind : List (List ℕ)) → with_rest tokens r ≡ Ok (value, behind) → r ≡ Ok value
before_value {X} tokens (Ok other) value behind is =
    let same : (other, tokens) ≡ (value, behind) = cc in ap (λ (p : X × List (List ℕ)). Ok p.0) same
before_value tokens (Err cause) value behind is = absurd (cc)

place_value : {X : Type 0} (read : List ℕ → Result X LineCause) (value : X) (P : Type 0) → ((token : List ℕ) → read token ≡ Ok value → P)
    → (tokens behind : List (List ℕ)) → place read tokens ≡ Ok (value, behind) → P
place_value read value P goes [] behind is = absurd (cc)
place_value read value P goes (token ∷ tokens) behind is = goes token (before_value tokens (read token) value behind is)

part_says : (p : Part) (tokens : List (List ℕ)) (value : Value p) (behind : List (List ℕ)) → part_of p tokens ≡ Ok (value, behind) → IsSessionPart p value
unfolding part_of
part_says (Session sessions) tokens value behind is = place_value (session_of_token sessions) value _ (λ token. named_is_declared sessions token value) tokens behind is
part_says (NewSession sessions) tokens value behind is = place_value (new_session_of sessions) value _ (λ token. new_has_room sessions token value) tokens behind is
part_says _ tokens value behind is = tt

-- what holds whatever the parts say
abbrev HoldsOf : {S : Type 0} → (P : S → Type 0) → (parts : List Part) → From parts S → Type 0
HoldsOf P [] what = P what
HoldsOf P (p ∷ parts) what = (value : Value p) → IsSessionPart p value → HoldsOf P parts (what value)

then_goes : {X S : Type 0} (front : Front X) (next : X → List (List ℕ) → Result S LineCause) (what : S) (P : Type 0)
    → ((value : X) (behind : List (List ℕ)) → front ≡ Ok (value, behind) → next value behind ≡ Ok what → P) → and_then front next ≡ Ok what → P
then_goes (Ok (value, behind)) next what P goes is = goes value behind refl is
then_goes (Err cause) next what P goes is = absurd (cc)

form_holds : {S : Type 0} (P : S → Type 0) (parts : List Part) (made : From parts S) (tokens : List (List ℕ)) (what : S)
    → HoldsOf P parts made → form parts made tokens ≡ Ok what → P what
unfolding form
form_holds P [] made [] what holds is = let same : made ≡ what = cc in subst P same holds
form_holds P [] made (token ∷ tokens) what holds is = absurd (cc)
form_holds P (p ∷ parts) made tokens what holds is =
    then_goes (part_of p tokens) (λ value behind. form parts (made value) behind) what (P what)
    (λ value behind said. form_holds P parts (made value) behind what (holds value (part_says p tokens value behind said))) is

-- ---- what a line says

module _ (sessions : List Declared) where
  schedule_declared : (verb : ScheduleVerb) (tokens : List (List ℕ)) (what : Said) → schedule_form sessions verb tokens ≡ Ok what → NamesDeclared (length sessions) what
  schedule_declared schedule.Poll tokens what is =
      form_holds (NamesDeclared (length sessions)) (Session sessions ∷ Number 64 ∷ Times ∷ []) said.Poll tokens what (λ session among slot _ times _. among) is
  schedule_declared schedule.Until tokens what is =
      form_holds (NamesDeclared (length sessions)) (Session sessions ∷ Number 64 ∷ Kind ∷ []) said.Until tokens what (λ session among slot _ kind _. among) is
  schedule_declared schedule.Settle tokens what is = form_holds (NamesDeclared (length sessions)) (Number greatest ∷ []) said.Settle tokens what (λ n _. tt) is
  schedule_declared schedule.Deliver tokens what is = form_holds (NamesDeclared (length sessions)) (Number greatest ∷ []) said.Deliver tokens what (λ n _. tt) is
  schedule_declared schedule.Lose tokens what is = form_holds (NamesDeclared (length sessions)) (Number greatest ∷ []) said.Lose tokens what (λ n _. tt) is
  schedule_declared schedule.Expire tokens what is =
      form_holds (NamesDeclared (length sessions)) (Session sessions ∷ Site ∷ Number 4294967295 ∷ []) said.Expire tokens what (λ session among site _ image _. among) is
  schedule_declared schedule.Stop tokens what is = form_holds (NamesDeclared (length sessions)) (Session sessions ∷ []) said.Stop tokens what (λ session among. among) is
  schedule_declared schedule.Restart tokens what is = form_holds (NamesDeclared (length sessions)) (Session sessions ∷ []) said.Restart tokens what (λ session among. among) is
  schedule_declared schedule.Late tokens what is =
      form_holds (NamesDeclared (length sessions)) (Session sessions ∷ Number 64 ∷ []) said.Late tokens what (λ session among slot _. among) is
  schedule_declared schedule.Trim tokens what is =
      form_holds (NamesDeclared (length sessions)) (Site ∷ Number 4294967295 ∷ Number greatest ∷ []) said.Trim tokens what (λ site _ image _ object _. tt) is

  of_schedule : (tokens : List (List ℕ)) (what : Said) → schedule_of sessions tokens ≡ Ok what → NamesDeclared (length sessions) what
  unfolding schedule_of
  of_schedule tokens what is =
      then_goes (part_of ScheduleWord tokens) (schedule_form sessions) what (NamesDeclared (length sessions) what)
      (λ verb behind _. schedule_declared verb behind what) is

  asked_by : (session : ℕ) (beside : Bool) (r : Result Command LineCause) (what : Said) → session < length sessions → asked_of session beside r ≡ Ok what → NamesDeclared (length sessions) what
  asked_by session beside (Ok command) what among is =
      let same : said.Command session beside command ≡ what = cc in subst (NamesDeclared (length sessions)) same among
  asked_by session beside (Err cause) what among is = absurd (cc)

  of_request : (beside : Bool) (tokens : List (List ℕ)) (what : Said) → request_of_tokens sessions beside tokens ≡ Ok what → NamesDeclared (length sessions) what
  unfolding request_of_tokens
  of_request beside tokens what is =
      then_goes (part_of (Session sessions) tokens) (λ session command. asked_of session beside (command_of_tokens command)) what (NamesDeclared (length sessions) what)
      (λ session behind said. asked_by session beside (command_of_tokens behind) what (part_says (Session sessions) tokens session behind said)) is

  saying_declared : (threads : Bool) (first : List ℕ) (tokens : List (List ℕ)) (what : Said) → said_behind threads sessions first tokens ≡ Ok what → NamesDeclared (length sessions) what
  saying_declared threads first tokens what = by_word (begins_with 64 first) threads (is_word (codes "&") first)
    where
      by_word : (event threads beside : Bool)
          → cond event (cond threads (Err ScheduleLine) (schedule_of sessions (first ∷ tokens)))
          (cond beside (request_of_tokens sessions true tokens) (request_of_tokens sessions false (first ∷ tokens))) ≡ Ok what
          → NamesDeclared (length sessions) what
      by_word true true beside is = absurd (cc)
      by_word true false beside is = of_schedule (first ∷ tokens) what is
      by_word false threads true is = of_request true tokens what is
      by_word false threads false is = of_request false (first ∷ tokens) what is

  declaring_has_room : (number : ℕ) (tokens : List (List ℕ)) (d : Declared) → declaration_of sessions number tokens ≡ Ok d → length sessions < 32
  unfolding declaration_of
  declaring_has_room number tokens d is =
      form_holds (λ (d : Declared). length sessions < 32) (NewSession sessions ∷ Site ∷ []) (λ name home. record { line = number; name = name; home = home }) tokens d
      (λ name room home _. room) is

-- ---- one line more

-- each has a number below this one
abbrev AreBefore : (number : ℕ) → List Line → Type 0
AreBefore number [] = Unit {0}
AreBefore number (line ∷ lines) = (line.number < number) × AreBefore number lines

before_next : (number : ℕ) (lines : List Line) → AreBefore number lines → AreBefore (number + 1) lines
before_next number [] are = tt
before_next number (line ∷ lines) (first, are) = (omega arith, before_next number lines are)

before_more : (number : ℕ) (lines : List Line) (what : Said) → AreBefore number lines → AreBefore (number + 1) (lines ++ record { number = number; said = what } ∷ [])
before_more number [] what are = (omega arith, tt)
before_more number (line ∷ lines) what (first, are) = (omega arith, before_more number lines what are)

behind_more : (from number : ℕ) (lines : List Line) (what : Said) → from < number → AreAscendingFrom from lines → AreBefore number lines
    → AreAscendingFrom from (lines ++ record { number = number; said = what } ∷ [])
behind_more from number [] what less behind are = (less, tt)
behind_more from number (line ∷ lines) what less (first, behind) (below, are) = (first, behind_more line.number number lines what below behind are)

declared_more : (sessions number : ℕ) (lines : List Line) (what : Said) → AreDeclared sessions lines → NamesDeclared sessions what
    → AreDeclared sessions (lines ++ record { number = number; said = what } ∷ [])
declared_more sessions number [] what are new = (new, tt)
declared_more sessions number (line ∷ lines) what (first, are) new = (first, declared_more sessions number lines what are new)

-- one more session
one_declared : (few more : ℕ) (what : Said) → few ≤ more → NamesDeclared few what → NamesDeclared more what
one_declared few more (said.Command session beside command) less among = omega arith
one_declared few more (said.Poll session slot times) less among = omega arith
one_declared few more (said.Until session slot kind) less among = omega arith
one_declared few more (said.Expire session site image) less among = omega arith
one_declared few more (said.Stop session) less among = omega arith
one_declared few more (said.Restart session) less among = omega arith
one_declared few more (said.Late session slot) less among = omega arith
one_declared few more (said.Settle rounds) less among = tt
one_declared few more (said.Deliver notice) less among = tt
one_declared few more (said.Lose notice) less among = tt
one_declared few more (said.Trim site image object) less among = tt

declared_still : (few more : ℕ) (lines : List Line) → few ≤ more → AreDeclared few lines → AreDeclared more lines
declared_still few more [] less are = tt
declared_still few more (line ∷ lines) less (first, are) = (one_declared few more line.said less first, declared_still few more lines less are)

-- ---- all lines

pub record IsOrderly (s : Script) : Type 0 where
  pub lines : AreLinesInOrder s.lines
  pub declared : AreDeclared (length s.sessions) s.lines
  pub sessions : length s.sessions ≤ 32

-- so it is of the lines before this number
record IsSoFar (number : ℕ) (s : Script) : Type 0 where
  so : IsOrderly s
  before : AreBefore number s.lines

passed_over : (number : ℕ) (s t : Script) → IsSoFar number s → s ≡ t → IsSoFar (number + 1) t
passed_over number s t far same =
    subst (IsSoFar (number + 1)) same (record { so = far.so; before = before_next number s.lines far.before })

one_session : (number : ℕ) (s t : Script) (r : Result Declared LineCause) → IsSoFar number s → ((d : Declared) → r ≡ Ok d → length s.sessions < 32)
    → declaring s r ≡ Ok t → IsSoFar (number + 1) t
one_session number s t (Ok d) far room is =
    let same : record s { sessions = s.sessions ++ d ∷ [] } ≡ t = cc in
    let long : length (s.sessions ++ d ∷ []) ≡ length s.sessions + 1 = length-append s.sessions (d ∷ []) in
    let less : length s.sessions < 32 = room d refl in
    subst (IsSoFar (number + 1)) same
    (record {
      so = record {
        lines = far.so.lines;
        declared = declared_still (length s.sessions) (length (s.sessions ++ d ∷ [])) s.lines (omega arith) far.so.declared;
        sessions = omega arith;
      };
      before = before_next number s.lines far.before;
    })
one_session number s t (Err cause) far room is = absurd (cc)

one_line : (number : ℕ) (s t : Script) (r : Result Said LineCause) → 1 ≤ number → IsSoFar number s → ((what : Said) → r ≡ Ok what → NamesDeclared (length s.sessions) what)
    → saying s number r ≡ Ok t → IsSoFar (number + 1) t
one_line number s t (Ok what) some far among is =
    let same : record s { lines = s.lines ++ record { number = number; said = what } ∷ [] } ≡ t = cc in
    subst (IsSoFar (number + 1)) same
    (record {
      so = record {
        lines = behind_more 0 number s.lines what (omega arith) far.so.lines far.before;
        declared = declared_more (length s.sessions) number s.lines what far.so.declared (among what refl);
        sessions = far.so.sessions;
      };
      before = before_more number s.lines what far.before;
    })
one_line number s t (Err cause) some far among is = absurd (cc)

tokens_keep : (threads : Bool) (number : ℕ) (s t : Script) (tokens : List (List ℕ)) → 1 ≤ number → IsSoFar number s → with_tokens threads number s tokens ≡ Ok t → IsSoFar (number + 1) t
tokens_keep threads number s t [] some far is = passed_over number s t far (cc)
tokens_keep threads number s t (first ∷ tokens) some far said = by_word (is_word (codes "client") first) said
  where
    by_word : (declares : Bool) → cond declares (declaring s (declaration_of s.sessions number tokens)) (saying s number (said_behind threads s.sessions first tokens)) ≡ Ok t
        → IsSoFar (number + 1) t
    by_word true is = one_session number s t (declaration_of s.sessions number tokens) far (declaring_has_room s.sessions number tokens) is
    by_word false is = one_line number s t (said_behind threads s.sessions first tokens) some far (saying_declared s.sessions threads first tokens) is

line_keeps : (threads : Bool) (number : ℕ) (s t : Script) (line : List ℕ) → 1 ≤ number → IsSoFar number s → with_line threads number s line ≡ Ok t → IsSoFar (number + 1) t
unfolding with_line
line_keeps threads number s t line some far = by_begin (begins_with 35 line)
  where
    by_begin : (comment : Bool) → cond comment (Ok s) (with_tokens threads number s (tokens_of line)) ≡ Ok t → IsSoFar (number + 1) t
    by_begin true is = passed_over number s t far (cc)
    by_begin false is = tokens_keep threads number s t (tokens_of line) some far is

on_goes : (number : ℕ) (r : Result Script LineCause) (next : Script → Result Script LineFault) (t : Script) (P : Type 0)
    → ((s : Script) → r ≡ Ok s → next s ≡ Ok t → P) → and_on number r next ≡ Ok t → P
on_goes number (Ok s) next t P goes is = goes s refl is
on_goes number (Err cause) next t P goes is = absurd (cc)

lines_keep : (threads : Bool) (number : ℕ) (s t : Script) (lines : List (List ℕ)) → 1 ≤ number → IsSoFar number s → with_lines threads number s lines ≡ Ok t → IsOrderly t
unfolding with_lines
lines_keep threads number s t [] some far is = let same : s ≡ t = cc in subst IsOrderly same far.so
lines_keep threads number s t (line ∷ lines) some far is =
    on_goes number (with_line threads number s line) (λ u. with_lines threads (number + 1) u lines) t (IsOrderly t)
    (λ u read. lines_keep threads (number + 1) u t lines (omega arith) (line_keeps threads number s u line some far read)) is

none_yet : IsSoFar 1 no_script
none_yet = record { so = record { lines = tt; declared = tt; sessions = omega arith }; before = tt }

never_too_long : (lines : ℕ) (r : Result Script LineFault) (s : Script) → too_long lines r ≡ Ok s → ⊥
never_too_long lines (Ok t) s is = cc
never_too_long lines (Err fault) s is = cc

pub script_in_order : (threads : Bool) (bytes : List ℕ) (s : Script) → reading threads bytes ≡ Ok s → IsOrderly s
unfolding reading
script_in_order threads bytes s = by_length (nat_le (length bytes) limit)
  where
    by_length : (within : Bool)
        → cond within (with_lines threads 1 no_script (text_lines bytes)) (too_long (length (lines_before bytes)) (with_lines threads 1 no_script (lines_before bytes))) ≡ Ok s
        → IsOrderly s
    by_length true is = lines_keep threads 1 no_script s (text_lines bytes) (omega arith) none_yet is
    by_length false is = absurd (never_too_long (length (lines_before bytes)) (with_lines threads 1 no_script (lines_before bytes)) s is)
