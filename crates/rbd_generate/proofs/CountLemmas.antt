-- One more is counted.
use Rattle.std.proofs.Common.{◌≡◌, ℕ, ◌+◌, ◌*◌, ◌<◌, ◌≤◌, ◌||◌, Bool, true, false, cond, List, length, take, get_or, sym, ap, ◌∙◌, arith}
use Rattle.std.specs.Prelude.{sum_by}
use Rattle.std.specs.List.{list_any}
use Rattle.std.proofs.Math.Bool.{or_comm}
use Rattle.std.proofs.lemmas.List.Folds.{list_any_more}
use Rattle.std.proofs.lemmas.List.Sums.{sum_by_more}
use Rattle.std.proofs.lemmas.Nat.{mul-le}
use Rattle.rbd_flat.specs.declared.entry.Entry.{Entry}
use Rattle.rbd_line_table.specs.Known.{is_known}
use Rattle.rbd_line_table.specs.declared.line_map.LineMap.{LineMap}
use Rattle.rbd_text.specs.Unanswered.{answers}
use Rattle.rbd_generate.specs.Summary.{HasRepliesFor}

-- a sum, and one item more
pub sum_more : {X : Type 0} (f : X → ℕ) (xs : List X) (i : ℕ) (x : X) (sum more : ℕ) → i < length xs → x ≡ get_or xs i x → sum ≡ sum_by f (take i xs) → more ≡ f x
    → sum + more ≡ sum_by f (take (i + 1) xs)
sum_more f xs i x sum more within is before one =
    ap (λ n. n + more) before ∙ ap (λ n. sum_by f (take i xs) + n) (one ∙ ap f is) ∙ sym (sum_by_more f xs i x within)

-- nothing or one
pub one_at_most : (b : Bool) → cond b 1 0 ≤ 1
one_at_most true = omega arith
one_at_most false = omega arith

-- the lines that are answered, and one entry more
pub answered_more : {T : Type 0} (history : List Entry) (i : ℕ) (e : Entry) (old new : LineMap T) → i < length history → e ≡ get_or history i e → HasRepliesFor (take i history) old
    → ((line : ℕ) → is_known new line ≡ (answers line e || is_known old line)) → HasRepliesFor (take (i + 1) history) new
answered_more history i e old new within is before step = record {
  each = λ line.
      step line
      ∙ ap (λ b. answers line e || b) (before.each line)
      ∙ ap (λ x. answers line x || list_any (answers line) (take i history)) is
      ∙ or_comm (answers line (get_or history i e)) (list_any (answers line) (take i history))
      ∙ sym (list_any_more (answers line) history i e within);
}

-- commands of all turns are few
pub few_commands : (commands clients : ℕ) → commands ≤ 10000 → clients ≤ 16 → commands * clients ≤ 160000
few_commands commands clients c k = mul-le commands clients 10000 16 c k
