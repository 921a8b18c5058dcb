-- Tokens that name images and snapshots.
use Rattle.std.specs.Prelude.{ℕ, ◌==◌, ◌&&◌, nat_le, not, Bool, if◌then◌else◌, List, length, slice_index, Option, Some, None, Result, Ok, Err}
use Rattle.std.specs.List.{list_all, list_any, before_first, after_first}
use Rattle.rbd_values.specs.Name.{name_byte}
use Rattle.rbd_script.specs.declared.fault.LineCause.{LineCause}
use Rattle.rbd_script.specs.declared.fault.LineCause.TheVariants.{BadName}

-- a name that a session may ask for: 1 to 64 bytes of a name, the first not `.` or `-`
abbrev pub is_asked_name : List ℕ → Bool
is_asked_name token = nat_le 1 (length token) && nat_le (length token) 64 && list_all name_byte token && not
    (slice_index token 0 == 46) && not (slice_index token 0 == 45)

-- `NAME`
unfoldable pub name_of_token : List ℕ → Result (List ℕ) LineCause
name_of_token token = if is_asked_name token then Ok token else Err BadName

-- `@`
abbrev pub is_at_sign : ℕ → Bool
is_at_sign b = b == 64

abbrev pub both : {A B : Type 0} → Result A LineCause → Result B LineCause → Result (A × B) LineCause
both (Ok a) (Ok b) = Ok (a, b)
both (Ok a) (Err cause) = Err cause
both (Err cause) second = Err cause

-- `IMAGE@SNAP`: two names. Where there is no `@` nothing stands behind it, which is no name.
unfoldable pub snap_of_token : List ℕ → Result (List ℕ × List ℕ) LineCause
snap_of_token token = both (name_of_token (before_first is_at_sign token))
    (name_of_token (after_first is_at_sign token))

-- `IMAGE` or `IMAGE@SNAP`
abbrev pub of_image : Result (List ℕ) LineCause → Result (List ℕ × Option (List ℕ)) LineCause
of_image (Ok image) = Ok (image, None)
of_image (Err cause) = Err cause

abbrev pub of_snap : Result (List ℕ × List ℕ) LineCause → Result (List ℕ × Option (List ℕ)) LineCause
of_snap (Ok (image, snap)) = Ok (image, Some snap)
of_snap (Err cause) = Err cause

unfoldable pub target_of : List ℕ → Result (List ℕ × Option (List ℕ)) LineCause
target_of token = if list_any is_at_sign token then of_snap (snap_of_token token) else of_image (name_of_token token)
