-- The first line of a text, and what is read of the lines behind it.
use Rattle.std.proofs.Common.{◌≡◌, ℕ, ◌+◌, ◌-◌, ◌<◌, ◌≤◌, Bool, true, false, eqb, List, [], ◌∷◌, length, take, drop, Result, Ok, Err, refl, sym, ap, ◌∙◌, arith}
use Rattle.std.specs.Prelude.{nat_le}
use Rattle.std.specs.List.{position_or_len, onto_first}
use Rattle.std.proofs.lemmas.Bool.Decides.{nat_tests}
use Rattle.std.proofs.lemmas.List.Sums.{fails_before_first}
use Rattle.std.proofs.lemmas.List.Splits.{slice_split_first, slice_split_none}
use Rattle.std.proofs.lemmas.List.{drop-drop, take_all}
use Rattle.std.proofs.Common.{length-drop}
use Rattle.rbd_script.specs.declared.fault.LineCause.{LineCause}
use Rattle.rbd_script.specs.declared.fault.LineFault.{LineFault}
use Rattle.rbd_script.specs.declared.script.Script.{Script}
use Rattle.rbd_script.specs.Line.{with_line}
use Rattle.rbd_script.specs.declared.fault.ScriptFault.{ScriptFault}
use Rattle.rbd_script.specs.declared.fault.ScriptFault.TheVariants.{Line, NoMemory}
use Rattle.rbd_script.specs.Fault.{AtLine, LeavesAt}
use Rattle.rbd_script.specs.Reading.{limit, lines_before, no_script, reading, too_long, with_lines}
use Rattle.rbd_script.specs.Token.{text_lines, without_last}

-- there is always a line
onto_some : (b : ℕ) (parts : List (List ℕ)) → (first : List ℕ) × (more : List (List ℕ)) × (onto_first b parts ≡ first ∷ more)
onto_some b [] = (b ∷ [], [], refl)
onto_some b (p ∷ parts) = (b ∷ p, parts, refl)

some_line : (text : List ℕ) → (first : List ℕ) × (more : List (List ℕ)) × (text_lines text ≡ first ∷ more)
some_line [] = ([], [], refl)
some_line (b ∷ text) = go (eqb b 10) refl
  where
    go : (t : Bool) → eqb b 10 ≡ t → (first : List ℕ) × (more : List (List ℕ)) × (text_lines (b ∷ text) ≡ first ∷ more)
    go true is = ([], text_lines text, rw is refl)
    go false is = let p = onto_some b (text_lines text) in (p.0, p.1, rw is p.2)

pub whole_lines : (line text rest : List ℕ) → text_lines text ≡ line ∷ text_lines rest → without_last (text_lines text) ≡ line ∷ without_last (text_lines rest)
whole_lines line text rest is =
    let p = some_line rest in
    ap without_last is ∙ ap (λ ls. without_last (line ∷ ls)) p.2 ∙ ap (λ ls. line ∷ without_last ls) (sym p.2)

abbrev line_feed : ℕ → Bool
line_feed b = eqb b 10

pub one_line : (text : List ℕ) (place : ℕ) → place ≡ position_or_len line_feed text → length (drop place text) < 1 → text_lines text ≡ text ∷ []
one_line text place is none = slice_split_none line_feed text (λ k d within. fails_before_first line_feed text k d (let long = length-drop place text in omega arith))

pub more_lines : (text behind rest : List ℕ) (place : ℕ) → place ≡ position_or_len line_feed text → behind ≡ drop place text → 1 ≤ length behind → rest ≡ take (length behind - 1) (drop 1 behind) → text_lines text ≡ take place text ∷ text_lines rest
more_lines text behind rest place is at some rest_is =
    let long : length behind ≡ length text - place = ap length at ∙ length-drop place text in
    let within : position_or_len line_feed text < length text = omega arith in
    let whole : rest ≡ drop 1 behind = rest_is ∙ take_all (length behind - 1) (drop 1 behind) (omega (arith, length-drop 1 behind)) in
    let behind_is : drop 1 behind ≡ drop (position_or_len line_feed text + 1) text = ap (drop 1) at ∙ drop-drop 1 place text ∙ ap (λ n. drop (n + 1) text) is in
    slice_split_first line_feed text 0 within ∙ (λ i. take (sym is i) text ∷ text_lines (sym (whole ∙ behind_is) i))

-- the lines behind one that is read, and one that isn't
pub lines_on : (threads : Bool) (number : ℕ) (s t : Script) (line : List ℕ) (lines : List (List ℕ)) → with_line threads number s line ≡ Ok t → with_lines threads number s (line ∷ lines) ≡ with_lines threads (number + 1) t lines
unfolding with_lines
lines_on threads number s t line lines is = rw is refl

pub lines_stop : (threads : Bool) (number : ℕ) (s : Script) (line : List ℕ) (lines : List (List ℕ)) (cause : LineCause) → with_line threads number s line ≡ Err cause → with_lines threads number s (line ∷ lines) ≡ Err (record { line = number; cause = cause })
unfolding with_lines
lines_stop threads number s line lines cause is = rw is refl

pub no_lines : (threads : Bool) (number : ℕ) (s : Script) → with_lines threads number s [] ≡ Ok s
unfolding with_lines
no_lines threads number s = refl

-- the fault of a line is that of all lines
pub fault_of_lines : (threads : Bool) (number : ℕ) (s left : Script) (line : List ℕ) (lines : List (List ℕ)) (r : Result Script LineFault) (fault : ScriptFault)
    → r ≡ with_lines threads number s (line ∷ lines)
    → LeavesAt {A = ℕ} number (Err fault) left (with_line threads number s line)
    → AtLine (λ f. r ≡ Err f) fault
fault_of_lines threads number s left line lines r (Line f) is leaves =
    is ∙ lines_stop threads number s line lines f.cause leaves.0 ∙ ap (λ n. Err (record { line = n; cause = f.cause })) (sym leaves.1)
fault_of_lines threads number s left line lines r NoMemory is leaves = tt

pub at_line_weaker : (P Q : LineFault → Type 0) → ((f : LineFault) → Q f → P f) → (fault : ScriptFault) → AtLine Q fault → AtLine P fault
at_line_weaker P Q weaker (Line f) q = weaker f q
at_line_weaker P Q weaker NoMemory q = tt

-- a text within the limit, and one past it
pub read_within : (threads : Bool) (text : List ℕ) → length text ≤ limit → reading threads text ≡ with_lines threads 1 no_script (text_lines text)
unfolding reading
read_within threads text within =
    let is : nat_le (length text) limit ≡ true = grind (arith, nat_tests) in
    rw is refl

pub read_beyond : (threads : Bool) (text : List ℕ) → limit < length text → reading threads text ≡ too_long (length (lines_before text)) (with_lines threads 1 no_script (lines_before text))
unfolding reading
read_beyond threads text beyond =
    let is : nat_le (length text) limit ≡ false = grind (arith, nat_tests) in
    rw is refl
