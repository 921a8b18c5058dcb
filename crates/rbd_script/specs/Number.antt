-- Tokens that are numbers.
use Rattle.std.specs.Prelude.{ℕ, ◌+◌, ◌-◌, ◌*◌, ◌==◌, ◌&&◌, ◌||◌, not, nat_le, Bool, if◌then◌else◌, List, [], ◌∷◌, length, slice_index, Result, Ok, Err}
use Rattle.std.specs.List.{list_all}
use Rattle.rbd_script.specs.declared.fault.LineCause.{LineCause}
use Rattle.rbd_script.specs.declared.fault.LineCause.TheVariants.{BadNumber}

-- `0` to `9`
abbrev pub is_digit : ℕ → Bool
is_digit b = nat_le 48 b && nat_le b 57

-- some digits, of which the first isn't `0` where there are several
abbrev pub is_numeral : List ℕ → Bool
is_numeral token = nat_le 1 (length token) && list_all is_digit token &&
    (nat_le (length token) 1 || not (slice_index token 0 == 48))

-- the number that digits spell behind a number
abbrev pub number_after : ℕ → List ℕ → ℕ
number_after n [] = n
number_after n (b ∷ digits) = number_after (10 * n + (b - 48)) digits

-- a number from the least to the greatest
unfoldable pub number_between : (least most : ℕ) → List ℕ → Result ℕ LineCause
number_between least most token =
    if is_numeral token && nat_le least (number_after 0 token) && nat_le (number_after 0 token) most
    then Ok (number_after 0 token) else Err BadNumber

-- numbers are below 2^63
abbrev pub greatest : ℕ
greatest = 9223372036854775807
