-- The table of digits: what is said of each byte, in the order of the bytes.
use Rattle.std.proofs.Common.{◌≡◌, ℕ, ◌<◌, ◌≤◌, List, map, slice_index, Option, Some, None, unwrap_or, arith}
use Rattle.std.specs.List.{range_with_len}
use Rattle.std.proofs.lemmas.Bool.Decides.{nat_tests}
use Rattle.std.proofs.lemmas.List.FromFn.{get_or-map-range_with_len}
use Rattle.rbd_script.specs.Hex.{digit_of}

-- the digit's value, or 16
abbrev marked : ℕ → ℕ
marked b = unwrap_or (digit_of b) 16

abbrev pub digit_table : List ℕ
digit_table = map marked (range_with_len 0 256)

told_at : (b place : ℕ) → place ≡ b → b < 256 → slice_index digit_table place ≡ marked b
told_at b place is byte = get_or-map-range_with_len marked 0 256 place b 0 (omega (arith, is)) (omega (arith, is))

some_is : (b v : ℕ) → v ≡ marked b → v < 16 → Some v ≡ digit_of b
some_is b v is small = grind (arith, nat_tests)

none_is : (b v : ℕ) → v ≡ marked b → 16 ≤ v → ◌≡◌ {A = Option ℕ} None (digit_of b)
none_is b v is large = grind (arith, nat_tests)

pub some_digit : (b place : ℕ) → place ≡ b → b < 256 → slice_index digit_table place < 16 → Some (slice_index digit_table place) ≡ digit_of b
some_digit b place is byte small = some_is b (slice_index digit_table place) (told_at b place is byte) small

pub no_digit : (b place : ℕ) → place ≡ b → b < 256 → 16 ≤ slice_index digit_table place → ◌≡◌ {A = Option ℕ} None (digit_of b)
no_digit b place is byte large = none_is b (slice_index digit_table place) (told_at b place is byte) large
