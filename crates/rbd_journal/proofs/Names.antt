-- A text has no misplaced byte exactly where it is a name.
use Rattle.std.proofs.Common.{◌≡◌, ℕ, suc, ◌+◌, ◌≤◌, Bool, true, false, cond, List, [], ◌∷◌, length, Some, None, refl, ap, arith}
use Rattle.std.specs.Prelude.{not, nat_lt, ◌&&◌, IsTrue}
use Rattle.std.specs.List.{position_or_len, prefix_len, list_all}
use Rattle.std.proofs.lemmas.Bool.{ltb-false, le-ltb}
use Rattle.rbd_values.specs.Name.{IsName, name_byte}
use Rattle.rbd_journal.specs.Faults.{misplaced}

-- no byte is found exactly where all bytes pass
all_pass : (p : ℕ → Bool) (xs : List ℕ) → length xs ≤ prefix_len (λ x. not (not (p x))) xs → IsTrue (list_all p xs)
all_pass p [] h = refl
all_pass p (x ∷ xs) h =
    elim (p x) as (λ b. suc (length xs) ≤ cond (not (not b)) (1 + prefix_len (λ y. not (not (p y))) xs) 0 → IsTrue (b && list_all p xs)) [
      | true ↦ λ le. all_pass p xs (omega arith)
      | false ↦ λ le. absurd (omega arith)
    ] h

none_found : (p : ℕ → Bool) (xs : List ℕ) → IsTrue (list_all p xs) → length xs ≤ prefix_len (λ x. not (not (p x))) xs
none_found p [] h = omega arith
none_found p (x ∷ xs) h =
    elim (p x) as (λ b. IsTrue (b && list_all p xs) → suc (length xs) ≤ cond (not (not b)) (1 + prefix_len (λ y. not (not (p y))) xs) 0) [
      | true ↦ λ all. let le = none_found p xs all in omega arith
      | false ↦ λ all. absurd cc
    ] h

within : (b : Bool) (n : ℕ) → cond b (Some n) None ≡ None → b ≡ false
within true n e = absurd cc
within false n e = refl

pub is_name : (text : List ℕ) → misplaced text ≡ None → 1 ≤ length text → length text ≤ 64 → IsName text
is_name text e some few =
    let n = position_or_len (λ byte. not (name_byte byte)) text in
    record {
      some = some;
      few = few;
      bytes = all_pass name_byte text (ltb-false _ _ (within (nat_lt n (length text)) n e));
    }

pub nothing_misplaced : (text : List ℕ) → IsName text → misplaced text ≡ None
nothing_misplaced text name =
    let n = position_or_len (λ byte. not (name_byte byte)) text in
    let past : nat_lt n (length text) ≡ false = le-ltb _ _ (none_found name_byte text name.bytes) in
    ap (λ (b : Bool). cond b (Some n) None) past
