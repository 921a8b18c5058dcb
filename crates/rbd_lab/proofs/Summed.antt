-- The counts of a summary add up.
use Rattle.std.proofs.Common.{◌≡◌, ℕ, ◌+◌, ◌&&◌, ◌||◌, not, cond, Bool, true, false, List, [], ◌∷◌, ◌++◌, length, count_by, refl, sym, ap, ◌∙◌, arith}
use Rattle.std.specs.List.{list_any}
use Rattle.std.proofs.lemmas.List.Sums.{sum_by-cons}
use Rattle.rbd_client.specs.Seen.{as_is}
use Rattle.rbd_machine.specs.Plan.{Standing}
use Rattle.rbd_plays.specs.AddUp.{AddUp, is_reply}
use Rattle.rbd_plays.specs.OneChanger.{is_replied, is_reply_of}
use Rattle.rbd_plays.proofs.AddUp.{play_adds_up}
use Rattle.rbd_flat.specs.declared.entry.Entry.{Entry}
use Rattle.rbd_flat.specs.declared.entry.Entry.TheVariants as entry
use Rattle.rbd_generate.specs.Summary.{command_count, is_granted, is_command, is_refusal, is_unfinished, refuses}
use Rattle.rbd_kinds.proofs.Plain.{eqb_flip}
use Rattle.rbd_schedule.specs.Given.{commands_of, given_by}
use Rattle.rbd_schedule.specs.InOrder.{AreLinesInOrder}
use Rattle.rbd_schedule.specs.Playing.{IsPlay}
use Rattle.rbd_schedule.specs.declared.given.Given.{Given}
use Rattle.rbd_script.specs.declared.script.Line.{Line}
use Rattle.rbd_script.specs.declared.script.Said.{Said}
use Rattle.rbd_script.specs.declared.script.Said.TheVariants as said
use Rattle.rbd_script.specs.declared.script.Script.{Script}
use Rattle.rbd_text.specs.Unanswered.{answers}
use Rattle.rbd_world.specs.World.{WorldView}
use Rattle.rbd_world.specs.declared.event.Event.TheVariants as event
use Rattle.rbd_lab.specs.Output.{AddsUp}

-- ---- the commands of a script

one_command : (number : ℕ) (s : Said) (rest : List Given) (n : ℕ) → n ≡ length rest → cond (is_command s) 1 0 + n ≡ length (given_by number s ++ rest)
one_command number (said.Command session beside command) rest n same = omega (arith, same)
one_command number _ rest n same = omega (arith, same)

commands_counted : (lines : List Line) → command_count lines ≡ length (commands_of lines)
commands_counted [] = refl
commands_counted (line ∷ lines) =
    sum_by-cons (λ (l : Line). cond (is_command l.said) 1 0) line lines ∙ one_command line.number line.said (commands_of lines) (command_count lines) (commands_counted lines)

-- ---- the replies of a history

sums_parted : (a b c x y z r s t : ℕ) → a ≡ x + r → b ≡ y + s → c ≡ z + t → x ≡ y + z → r ≡ s + t → a ≡ b + c
sums_parted a b c x y z r s t one other last here rest = omega arith

one_reply : (e : Entry) → cond (is_reply e) 1 0 ≡ cond (is_granted e) 1 0 + cond (refuses e) 1 0
one_reply (entry.Reply line reply) = by (is_refusal reply)
  where
    by : (b : Bool) → 1 ≡ cond (not b) 1 0 + cond b 1 0
    by true = refl
    by false = refl
one_reply _ = refl

replies_parted : (history : List Entry) → count_by is_reply history ≡ count_by is_granted history + count_by refuses history
replies_parted [] = refl
replies_parted (e ∷ history) =
    sums_parted (count_by is_reply (e ∷ history)) (count_by is_granted (e ∷ history)) (count_by refuses (e ∷ history)) (cond (is_reply e) 1 0) (cond (is_granted e) 1 0) (cond (refuses e) 1 0)
    (count_by is_reply history) (count_by is_granted history) (count_by refuses history)
    (sum_by-cons (λ (x : Entry). cond (is_reply x) 1 0) e history) (sum_by-cons (λ (x : Entry). cond (is_granted x) 1 0) e history) (sum_by-cons (λ (x : Entry). cond (refuses x) 1 0) e history)
    (one_reply e) (replies_parted history)

-- ---- the commands without a reply

one_answer : (line : ℕ) (e : Entry) → answers line e ≡ is_reply_of line e
one_answer line (entry.Reply other reply) = eqb_flip other line
one_answer line _ = refl

answered : (line : ℕ) (history : List Entry) → list_any (answers line) history ≡ is_replied line history
answered line [] = refl
answered line (e ∷ history) = ap (λ b. b || list_any (answers line) history) (one_answer line e) ∙ ap (λ b. is_reply_of line e || b) (answered line history)

module _ (history : List Entry) where
  abbrev has_none : Given → Bool
  has_none c = not (is_replied c.line history)

  one_unfinished : (number : ℕ) (s : Said) (rest : List Given) (n : ℕ) → n ≡ count_by has_none rest
      → cond (is_command s && not (list_any (answers number) history)) 1 0 + n ≡ count_by has_none (given_by number s ++ rest)
  one_unfinished number (said.Command session beside command) rest n same =
      ap (λ b. cond (not b) 1 0 + n) (answered number history) ∙ ap (λ m. cond (not (is_replied number history)) 1 0 + m) same
      ∙ sym (sum_by-cons (λ (c : Given). cond (has_none c) 1 0) (record { session = session; line = number; beside = beside; submission = event.Submit session number command }) rest)
  one_unfinished number _ rest n same = omega (arith, same)

  unfinished_counted : (lines : List Line) → count_by (is_unfinished history) lines ≡ count_by has_none (commands_of lines)
  unfinished_counted [] = refl
  unfinished_counted (line ∷ lines) =
      sum_by-cons (λ (l : Line). cond (is_unfinished history l) 1 0) line lines
      ∙ one_unfinished line.number line.said (commands_of lines) (count_by (is_unfinished history) lines) (unfinished_counted lines)

-- ---- all of it

in_all : (n m replies ok refused none unfinished : ℕ) → n ≡ m → m ≡ replies + none → replies ≡ ok + refused → unfinished ≡ none → n ≡ ok + refused + unfinished
in_all n m replies ok refused none unfinished same all parts rest = omega arith

counts : (script : Script) (history : List Entry) → AddUp script.lines history → AddsUp script history
counts script history add =
    in_all (command_count script.lines) (length (commands_of script.lines)) (count_by is_reply history) (count_by is_granted history) (count_by refuses history)
    (count_by (has_none history) (commands_of script.lines)) (count_by (is_unfinished history) script.lines)
    (commands_counted script.lines) add (replies_parted history) (unfinished_counted history script.lines)

pub counts_add_up : (script : Script) (w : WorldView Standing) → AreLinesInOrder script.lines → IsPlay as_is script w → AddsUp script w.history
counts_add_up script w in_order play = counts script w.history (play_adds_up as_is script w in_order play)
