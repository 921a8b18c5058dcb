-- Beside which others a request goes.
use Rattle.std.specs.Prelude.{◌&&◌, not, Bool, true, false}
use Rattle.rbd_kinds.specs.declared.sharing.Sharing.{Sharing}
use Rattle.rbd_kinds.specs.declared.sharing.Sharing.TheVariants as sharing

-- whether a request goes beside no other
abbrev pub is_alone : Sharing → Bool
is_alone sharing.Alone = true
is_alone _ = false

-- whether two requests are kept apart though neither is alone: a flatten doesn't fill again what a
-- discard made zero, and one flatten of an image is enough
abbrev pub are_apart : (one other : Sharing) → Bool
are_apart sharing.Discard sharing.Flatten = true
are_apart sharing.Flatten sharing.Discard = true
are_apart sharing.Flatten sharing.Flatten = true
are_apart _ _ = false

-- whether two requests may be past their looks under the lock at once
abbrev pub go_together : (one other : Sharing) → Bool
go_together one other = not (is_alone one) && (not (is_alone other) && not (are_apart one other))
