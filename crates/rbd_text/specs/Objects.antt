-- What the objects of a site are called.
use Rattle.std.specs.Prelude.{ℕ, List, [], ◌++◌, codes, Option, Some, None}
use Rattle.rbd_kinds.specs.declared.operation.Op.{Op}
use Rattle.rbd_kinds.specs.declared.operation.Op.TheVariants.{Directory, Children, BlockAdd, Header, Data, Map, Journal}
use Rattle.rbd_kinds.specs.Maps.{map_snap}
use Rattle.rbd_text.specs.Numbers.{hexadecimal, sixteen_digits}

abbrev pub header_name : (image : ℕ) → List ℕ
header_name image = codes "rbd_header." ++ hexadecimal image

abbrev pub data_name : (image object : ℕ) → List ℕ
data_name image object = codes "rbd_data." ++ hexadecimal image ++ codes "." ++ sixteen_digits object

abbrev pub snapshot_suffix : Option ℕ → List ℕ
snapshot_suffix None = []
snapshot_suffix (Some snap) = codes "." ++ sixteen_digits snap

-- the object map of an image's head, or of a snapshot
abbrev pub map_name : (image : ℕ) → (snap : Option ℕ) → List ℕ
map_name image snap = codes "rbd_object_map." ++ hexadecimal image ++ snapshot_suffix snap

abbrev pub journal_name : (image : ℕ) → List ℕ
journal_name image = codes "journal." ++ hexadecimal image

-- the object that an operation is about
abbrev pub object_name : Op → List ℕ
object_name (Directory op) = codes "rbd_directory"
object_name (Children op) = codes "rbd_children"
object_name (BlockAdd instance) = codes "blocklist"
object_name (Header image op) = header_name image
object_name (Data image object op) = data_name image object
object_name (Map image op) = map_name image (map_snap op)
object_name (Journal image op) = journal_name image
