-- Instances: one life of one session each.
use Rattle.std.specs.Prelude.{◌==◌, ◌&&◌, Bool}
use Rattle.rbd_kinds.specs.declared.id.Instance.{Instance}

-- whether two instances are one life of one session
abbrev pub same_instance : Instance → Instance → Bool
same_instance a b = (a.session == b.session) && (a.life == b.life)
