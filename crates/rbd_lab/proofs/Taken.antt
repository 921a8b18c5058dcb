-- What is judged of the bytes that were taken, one past the limit at most, holds of all bytes.
use Rattle.std.proofs.Common.{◌≡◌, ℕ, ◌+◌, ◌≤◌, ◌<◌, false, cond, leb, List, [], length, take, drop, Option, Some, None, Result, Ok, Err, inl, inr, sym, ap, ◌∙◌, subst, arith}
use Rattle.std.proofs.Common.{length-take}
use Rattle.std.specs.Prelude.{IfSome, ◌⊎◌}
use Rattle.std.proofs.lemmas.Bool.Decides.{nat_tests}
use Rattle.std.proofs.lemmas.List.{take_all, drop_all, take-take}
use Rattle.rbd_edge.specs.Sink.{held_with, GainsFront}
use Rattle.rbd_edge.specs.Source.{left_after}
use Rattle.rbd_script.specs.declared.fault.LineFault.{LineFault}
use Rattle.rbd_script.specs.declared.script.Script.{Script}
use Rattle.rbd_script.specs.Reading.{limit, lines_before, no_script, too_long, reading, with_lines}
use Rattle.rbd_script.specs.Token.{text_lines, without_last}
use Rattle.rbd_lab.specs.Run.{IsToPrint, IsComplaint, IsOutput, IsText, Prints, PrintsFront}
use Rattle.rbd_lab.specs.Script.{if_built, judged}
use Rattle.rbd_words.specs.declared.asked.Mode.{Mode}
use Rattle.rbd_lab.specs.declared.run.Status.{Status}
use Rattle.rbd_lab.specs.declared.run.Status.TheVariants.{Done, Usage, BadLine, ReadFault, WriteFault, NoMemory}

cases : (n : ℕ) → (n ≤ limit) ⊎ (limit < n)
cases n = grind arith

same_before : (bytes : List ℕ) → lines_before (take (limit + 1) bytes) ≡ lines_before bytes
same_before bytes = ap (λ (b : List ℕ). without_last (text_lines b)) (take-take limit (limit + 1) bytes (omega arith))

-- how a text that is too long is read
past : (bytes : List ℕ) → limit < length bytes → reading false bytes ≡ too_long (length (lines_before bytes)) (with_lines false 1 no_script (lines_before bytes))
unfolding reading
past bytes long =
    ap (λ b. cond b (with_lines false 1 no_script (text_lines bytes)) (too_long (length (lines_before bytes)) (with_lines false 1 no_script (lines_before bytes))))
    (let h : leb (length bytes) limit ≡ false = grind (arith, nat_tests) in h)

pub same_reading : (bytes : List ℕ) → reading false (take (limit + 1) bytes) ≡ reading false bytes
same_reading bytes = go (cases (length bytes))
  where
    go : (length bytes ≤ limit) ⊎ (limit < length bytes) → reading false (take (limit + 1) bytes) ≡ reading false bytes
    go (inl few) = ap (reading false) (take_all (limit + 1) bytes (omega arith))
    go (inr long) =
        past (take (limit + 1) bytes) (omega (arith, length-take (limit + 1) bytes))
        ∙ ap (λ lines. too_long (length lines) (with_lines false 1 no_script lines)) (same_before bytes)
        ∙ sym (past bytes long)

same_judged : (bytes : List ℕ) → judged (take (limit + 1) bytes) ≡ judged bytes
same_judged bytes = ap if_built (same_reading bytes)

-- a text that is too long isn't played
refused : (lines : ℕ) (read : Result Script LineFault) (script : Script) → if_built (too_long lines read) ≡ Ok script → ⊥
refused lines (Ok s) script is = cc
refused lines (Err fault) script is = cc

few_bytes : (bytes : List ℕ) (script : Script) → judged bytes ≡ Ok script → length bytes ≤ limit
few_bytes bytes script is = go (cases (length bytes))
  where
    go : (length bytes ≤ limit) ⊎ (limit < length bytes) → length bytes ≤ limit
    go (inl few) = few
    go (inr long) = absurd (refused (length (lines_before bytes)) (with_lines false 1 no_script (lines_before bytes)) script (ap if_built (sym (past bytes long)) ∙ is))

output_of_taken : (mode : Mode) (bytes text : List ℕ) → IsOutput mode (take (limit + 1) bytes) text → IsOutput mode bytes text
output_of_taken mode bytes text is = record { script = is.script; is_script = sym (same_judged bytes) ∙ is.is_script; told = is.told }

complaint_of_taken : (bytes text : List ℕ) → IsComplaint (take (limit + 1) bytes) text → IsComplaint bytes text
complaint_of_taken bytes text is = record { fault = is.fault; faulty = sym (same_judged bytes) ∙ is.faulty; output = is.output }

-- what was taken is the front of what the source told
abbrev pub Took : List ℕ → Option (List ℕ) → Type 0
Took taken left = IfSome left (λ bytes. taken ≡ take (limit + 1) bytes)

pub done_told : (mode : Mode) (left left' held held' : Option (List ℕ)) (taken text : List ℕ) → Took taken left → left' ≡ left_after (limit + 1) left → IsOutput mode taken text → held' ≡ held_with text held
    → IfSome left (λ bytes. Prints (IsOutput mode bytes) held held' × (left' ≡ Some []))
done_told mode None left' held held' taken text took rest is gained = tt
done_told mode (Some bytes) left' held held' taken text took rest is gained =
    let all = output_of_taken mode bytes text (subst (λ b. IsOutput mode b text) took is) in
    let few : length bytes ≤ limit = few_bytes bytes all.script all.is_script in
    ((text, all, gained), rest ∙ ap Some (drop_all (limit + 1) bytes (omega arith)))

pub complaint_told : (left left' held held' : Option (List ℕ)) (taken text : List ℕ) → Took taken left → left' ≡ left_after (limit + 1) left → IsComplaint taken text → held' ≡ held_with text held
    → IfSome left (λ bytes. Prints (IsComplaint bytes) held held' × (left' ≡ Some (drop (limit + 1) bytes)))
complaint_told None left' held held' taken text took rest is gained = tt
complaint_told (Some bytes) left' held held' taken text took rest is gained =
    ((text, complaint_of_taken bytes text (subst (λ b. IsComplaint b text) took is), gained), rest)

text_of_taken : (mode : Mode) (bytes text : List ℕ) (status : Status) → IsToPrint mode (take (limit + 1) bytes) status text → IsText mode bytes text
text_of_taken mode bytes text Done is = inl (output_of_taken mode bytes text is)
text_of_taken mode bytes text BadLine is = inr (complaint_of_taken bytes text is)
text_of_taken mode bytes text Usage is = absurd is
text_of_taken mode bytes text ReadFault is = absurd is
text_of_taken mode bytes text WriteFault is = absurd is
text_of_taken mode bytes text NoMemory is = absurd is

pub front_told : (mode : Mode) (left held held' : Option (List ℕ)) (taken text : List ℕ) (status : Status) → Took taken left → IsToPrint mode taken status text → GainsFront text held held'
    → IfSome left (λ bytes. PrintsFront (IsText mode bytes) held held')
front_told mode None held held' taken text status took is front = tt
front_told mode (Some bytes) held held' taken text status took is front =
    (text, text_of_taken mode bytes text status (subst (λ b. IsToPrint mode b status text) took is), front)

-- an answer is never a write fault
pub no_write_fault : (mode : Mode) (bytes text : List ℕ) (status : Status) → IsToPrint mode bytes status text → status ≡ WriteFault → ⊥
no_write_fault mode bytes text status is same = subst (λ st. IsToPrint mode bytes st text) same is

-- nor is it the usage line
pub no_usage : (mode : Mode) (bytes text : List ℕ) (status : Status) → IsToPrint mode bytes status text → status ≡ Usage → ⊥
no_usage mode bytes text status is same = subst (λ st. IsToPrint mode bytes st text) same is
