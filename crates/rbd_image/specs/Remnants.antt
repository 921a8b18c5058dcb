-- What there is to remove, as a list that is short for the operations.
use Rattle.std.specs.Prelude.{ℕ, ◌==◌, not, Bool, true, false, List, [], ◌∷◌, ◌++◌, map, Option, Some, None}
use Rattle.rbd_kinds.specs.declared.children_op.ChildrenOp.TheVariants as child
use Rattle.rbd_kinds.specs.declared.directory_op.DirectoryOp.TheVariants as directory
use Rattle.rbd_kinds.specs.declared.header.ParentLink.{ParentLink}
use Rattle.rbd_kinds.specs.declared.header.SnapView.{SnapView}
use Rattle.rbd_kinds.specs.declared.header_op.HeaderOp.TheVariants as header
use Rattle.rbd_kinds.specs.declared.journal_op.JournalOp.TheVariants as journal
use Rattle.rbd_kinds.specs.declared.map_op.MapOp.TheVariants as states
use Rattle.rbd_kinds.specs.declared.operation.Op.{Op}
use Rattle.rbd_kinds.specs.declared.operation.Op.TheVariants as op
use Rattle.rbd_kinds.specs.States.{state_at}
use Rattle.rbd_meaning.specs.Removals.{removing_object, used_objects}
use Rattle.rbd_image.specs.declared.remnant.Remnant.{Remnant}
use Rattle.rbd_image.specs.declared.remnant.Remnant.TheVariants as remnant

-- the operation that removes it from an image
abbrev pub removal_op : (image : ℕ) → Remnant → Op
removal_op image remnant.Name = op.Directory (directory.Remove image)
removal_op image remnant.Header = op.Header image header.Remove
removal_op image (remnant.Link link) = op.Children (child.Remove link.image link.snap image)
removal_op image (remnant.Object number) = removing_object image number
removal_op image (remnant.Map snap) = op.Map image (states.Remove snap)
removal_op image remnant.Journal = op.Journal image journal.Remove

abbrev pub ops_of : (image : ℕ) → List Remnant → List Op
ops_of image = map (removal_op image)

-- ---- what an image leaves

-- the bits give the object another state than 0
abbrev pub is_in_use : (bits : List ℕ) → (object : ℕ) → Bool
is_in_use bits object = not (state_at bits object == 0)

abbrev pub object_remnant : (object : ℕ) → Remnant
object_remnant object = remnant.Object object

abbrev pub map_remnant : SnapView → Remnant
map_remnant s = remnant.Map (Some s.id)

abbrev pub link_remnants : Option ParentLink → List Remnant
link_remnants None = []
link_remnants (Some link) = remnant.Link link ∷ []

abbrev pub journal_remnants : Bool → List Remnant
journal_remnants false = []
journal_remnants true = remnant.Journal ∷ []

-- what is found by its id, by the states of its head's map: its objects, its maps, and its journal
abbrev pub contents : List SnapView → (journal : Bool) → (bits : List ℕ) → List Remnant
contents snaps journal bits =
    map object_remnant (used_objects bits) ++ (remnant.Map None ∷ (map map_remnant snaps ++ journal_remnants journal))

-- all that an image with this link, these snapshots and maybe a journal is
abbrev pub remnants : Option ParentLink → List SnapView → (journal : Bool) → (bits : List ℕ) → List Remnant
remnants link snaps journal bits = remnant.Name ∷ remnant.Header ∷ (link_remnants link ++ contents snaps journal bits)
