-- Tokens that name sessions.
use Rattle.std.specs.Prelude.{ℕ, nat_eq, ◌&&◌, ◌||◌, nat_le, nat_lt, not, Bool, if◌then◌else◌, List, length, slice_index, codes, Option, Some, None, Result, Ok, Err, position}
use Rattle.std.specs.Cmp.Lexicographic.{pointwise}
use Rattle.std.specs.List.{list_all, list_any}
use Rattle.rbd_script.specs.declared.fault.LineCause.{LineCause}
use Rattle.rbd_script.specs.declared.fault.LineCause.TheVariants.{BadName, UnknownWord}
use Rattle.rbd_script.specs.declared.script.Declared.{Declared}
use Rattle.rbd_script.specs.Token.{is}

-- `a` to `z`, and these or `0` to `9`
abbrev pub is_letter : ℕ → Bool
is_letter b = nat_le 97 b && nat_le b 122

abbrev pub is_letter_or_digit : ℕ → Bool
is_letter_or_digit b = is_letter b || (nat_le 48 b && nat_le b 57)

-- 1 to 32 letters and digits, a letter first, and not `client`
abbrev pub is_session_name : List ℕ → Bool
is_session_name token = is_letter (slice_index token 0) && nat_le (length token) 32 && list_all is_letter_or_digit token
    && not (is (codes "client") token)

abbrev pub has_session_name : (token : List ℕ) → Declared → Bool
has_session_name token d = pointwise nat_eq d.name token

-- the name of one more session, of 32 at most
unfoldable pub new_session_of : List Declared → List ℕ → Result (List ℕ) LineCause
new_session_of sessions token =
    if is_session_name token && not (list_any (has_session_name token) sessions) && nat_lt (length sessions) 32
    then Ok token else Err BadName

-- a value, or an unknown word
abbrev pub known : {A : Type 0} → Option A → Result A LineCause
known (Some value) = Ok value
known None = Err UnknownWord

-- the number of a session that was declared
unfoldable pub session_of_token : List Declared → List ℕ → Result ℕ LineCause
session_of_token sessions token = known (position (has_session_name token) sessions)
