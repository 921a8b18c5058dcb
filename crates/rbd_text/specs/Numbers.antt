-- How numbers are printed.
use Rattle.std.specs.Prelude.{ℕ, ◌==◌, List, map, slice_index, codes, if◌then◌else◌}
use Rattle.std.specs.Int.{w64, to_be_bytes}
use Rattle.std.specs.Int.Digits.{digits_of}
use Rattle.hex.specs.Hex.{lower_digits, encode_lower}

-- in lower-case hexadecimal, without leading zeros
unfoldable pub hexadecimal : ℕ → List ℕ
hexadecimal n = if n == 0 then codes "0" else map (slice_index lower_digits) (digits_of 16 n)

-- as 16 lower-case hexadecimal digits
unfoldable pub sixteen_digits : ℕ → List ℕ
sixteen_digits n = encode_lower (to_be_bytes w64 n)
