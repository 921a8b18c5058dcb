-- Tokens of pairs of lower-case hexadecimal digits.
use Rattle.std.specs.Prelude.{◌≡◌, ℕ, ◌+◌, ◌-◌, ◌*◌, ◌%◌, ◌==◌, ◌&&◌, ◌||◌, nat_le, Bool, false, if◌then◌else◌, List, [], ◌∷◌, length, Option, Some, None, Result, Ok, Err}
use Rattle.std.specs.List.{list_all}
use Rattle.rbd_script.specs.declared.fault.LineCause.{LineCause}
use Rattle.rbd_script.specs.declared.fault.LineCause.TheVariants.{BadNumber}
use Rattle.rbd_script.specs.declared.fault.PartFault.{PartFault}
use Rattle.rbd_script.specs.declared.fault.PartFault.TheVariants.{Cause, NoMemory}
use Rattle.rbd_script.specs.Number.{is_digit}

-- `0` to `9`, `a` to `f`
abbrev pub is_hex_digit : ℕ → Bool
is_hex_digit b = is_digit b || (nat_le 97 b && nat_le b 102)

abbrev pub hex_digit : ℕ → ℕ
hex_digit b = if is_digit b then b - 48 else b - 87

-- its value, or nothing of a byte that is no digit
abbrev pub digit_of : ℕ → Option ℕ
digit_of b = if is_hex_digit b then Some (hex_digit b) else None

-- an even number of digits
abbrev pub are_pairs : List ℕ → Bool
are_pairs token = list_all is_hex_digit token && (length token % 2 == 0)

-- the byte of a pair
abbrev pub pair : (high low : ℕ) → ℕ
pair high low = hex_digit high * 16 + hex_digit low

-- the byte of two digits, or nothing
abbrev pub pair_of : (high low : ℕ) → Option ℕ
pair_of high low = if is_hex_digit high && is_hex_digit low then Some (pair high low) else None

-- the bytes of some pairs
abbrev pub bytes_of_pairs : List ℕ → List ℕ
bytes_of_pairs [] = []
bytes_of_pairs (high ∷ []) = []
bytes_of_pairs (high ∷ low ∷ digits) = pair high low ∷ bytes_of_pairs digits

-- The token isn't pairs. Want of memory may come in place of that.
abbrev pub IsFaultOf : List ℕ → PartFault → Type 0
IsFaultOf token (Cause cause) = (cause ≡ BadNumber) × (are_pairs token ≡ false)
IsFaultOf token NoMemory = Unit {0}

-- 1 to 65,536 pairs
unfoldable pub bytes_of_digits : List ℕ → Result (List ℕ) LineCause
bytes_of_digits token = if nat_le (length token) 131072 && nat_le 2 (length token) && are_pairs token
    then Ok (bytes_of_pairs token) else Err BadNumber

-- one pair
unfoldable pub byte_of_digits : List ℕ → Result ℕ LineCause
byte_of_digits [] = Err BadNumber
byte_of_digits (high ∷ []) = Err BadNumber
byte_of_digits (high ∷ low ∷ []) = if is_hex_digit high && is_hex_digit low then Ok (pair high low) else Err BadNumber
byte_of_digits (high ∷ low ∷ b ∷ bytes) = Err BadNumber
