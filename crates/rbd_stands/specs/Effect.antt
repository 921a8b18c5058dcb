-- The effect of an operation on the flat site, told of the operation, its answer, and the header of
-- its image at that moment.
use Rattle.std.specs.Prelude.{ℕ, nat_lt, List, [], ◌∷◌, ◌++◌, map, take, drop, length, Option, Some, None}
use Rattle.std.specs.List.{filter, flat_map, range_with_len}
use Rattle.rbd_kinds.specs.declared.answer.Answer.{Answer}
use Rattle.rbd_kinds.specs.declared.answer.Answer.TheVariants as answer
use Rattle.rbd_kinds.specs.declared.children_op.ChildrenOp.TheVariants as children_op
use Rattle.rbd_kinds.specs.declared.data_op.DataOp.{DataOp}
use Rattle.rbd_kinds.specs.declared.data_op.DataOp.TheVariants as data_op
use Rattle.rbd_kinds.specs.declared.directory_op.DirectoryOp.TheVariants as directory_op
use Rattle.rbd_kinds.specs.declared.header.GlobalName.{GlobalName}
use Rattle.rbd_kinds.specs.declared.header.HeaderView.{HeaderView}
use Rattle.rbd_kinds.specs.declared.header.ParentLink.{ParentLink}
use Rattle.rbd_kinds.specs.declared.header.Role.{Role}
use Rattle.rbd_kinds.specs.declared.header.Role.TheVariants.{Primary}
use Rattle.rbd_kinds.specs.declared.header_op.HeaderOp.TheVariants as header_op
use Rattle.rbd_kinds.specs.declared.layout.Extent.{Extent}
use Rattle.rbd_kinds.specs.declared.layout.Layout.{Layout}
use Rattle.rbd_kinds.specs.declared.layout.Part.{Part}
use Rattle.rbd_kinds.specs.declared.operation.Op.{Op}
use Rattle.rbd_kinds.specs.declared.operation.Op.TheVariants as op
use Rattle.rbd_kinds.specs.Striping.{byte_at}
use Rattle.rbd_layout.specs.Pieces.{parts_at, places_in}
use Rattle.rbd_flat.specs.declared.effect.Effect.{Effect}
use Rattle.rbd_flat.specs.declared.effect.Effect.TheVariants as effect
use Rattle.rbd_site.specs.declared.done.DoneOp.{DoneOp}
use Rattle.rbd_site.specs.declared.done.DoneOp.TheVariants as done
use Rattle.rbd_site.specs.Records.{Records}
use Rattle.rbd_stands.specs.Condition.{extents_of}

-- ---- places

-- the image bytes below a size that bytes of an object are, ascending
abbrev pub places_below : Layout → (size number : ℕ) → Part → List ℕ
places_below l size number p = filter (λ x. nat_lt x size) (map (byte_at l number) (range_with_len p.offset p.len))

-- places of one object that ascend, as extents: those that touch are joined
abbrev pub joined_extents : Layout → List ℕ → List Extent
joined_extents l places = extents_of (parts_at l places)

-- the image bytes of parts of an object, and those of the whole object, below a size
abbrev pub extents_below : Layout → (size number : ℕ) → List Part → List Extent
extents_below l size number parts = flat_map (λ p. joined_extents l (places_below l size number p)) parts

abbrev pub whole_object : Layout → (size number : ℕ) → List Extent
whole_object l size number = joined_extents l (places_in l (record { at = 0; len = size }) number)

-- the bytes that go to places below a size, where each part has as many as its length
abbrev pub bytes_below : Layout → (size number : ℕ) → List Part → (bytes : List ℕ) → List ℕ
bytes_below l size number [] bytes = []
bytes_below l size number (p ∷ parts) bytes = take (length (places_below l size number p)) bytes
    ++ bytes_below l size number parts (drop p.len bytes)

-- ---- effects

-- the effect of making a header: one with a parent is a clone's
abbrev pub effect_of_making : (image size : ℕ) → Role → Option ParentLink → Effect
effect_of_making image size role None = effect.Create image size role
effect_of_making image size role (Some link) = effect.Clone image link.image link.snap

-- an image that gets its global name becomes the primary
abbrev pub effect_of_naming : (image : ℕ) → Option GlobalName → Option Effect
effect_of_naming image None = Some (effect.Role image Primary)
effect_of_naming image (Some name) = None

-- the effect of a change of an object of an image that has this header
abbrev pub effect_of_data : (image number : ℕ) → HeaderView → DataOp → Option Effect
effect_of_data image number h (data_op.Write context must parts bytes) =
    Some (effect.Piece image (extents_below h.layout h.size number parts)
    (bytes_below h.layout h.size number parts bytes))
effect_of_data image number h (data_op.WriteFull context bytes) =
    Some (effect.Piece image (whole_object h.layout h.size number) bytes)
effect_of_data image number h (data_op.Zero context must parts) =
    Some (effect.Zero image (extents_below h.layout h.size number parts))
effect_of_data image number h (data_op.Empty context) = Some (effect.Zero image (whole_object h.layout h.size number))
effect_of_data image number h (data_op.Remove context) = Some (effect.Zero image (whole_object h.layout h.size number))
effect_of_data image number h o = None

-- The effect of an operation and its answer. There is none where the answer isn't done, an id or a
-- snapshot, nor where the object's image has no header.
abbrev pub effect_of_op : Option HeaderView → Op → Answer → Option Effect
effect_of_op header (op.Directory (directory_op.Add name)) (answer.Id image) = Some (effect.Name name image)
effect_of_op header (op.Directory (directory_op.Remove image)) answer.Done = Some (effect.NameFree image)
effect_of_op header (op.Directory (directory_op.Rename from to)) answer.Done = Some (effect.Rename from to)
effect_of_op header (op.Children (children_op.Add parent snap child)) answer.Done = Some (effect.Link parent snap child)
effect_of_op header (op.Children (children_op.Remove parent snap child)) answer.Done =
    Some (effect.Unlink parent snap child)
effect_of_op header (op.Header image (header_op.Create view)) answer.Done =
    Some (effect_of_making image view.size view.role view.parent)
effect_of_op header (op.Header image (header_op.SetSize size)) answer.Done = Some (effect.Size image size)
effect_of_op header (op.Header image (header_op.SnapAdd name)) (answer.Snap snap) = Some (effect.Snap image snap name)
effect_of_op header (op.Header image (header_op.SnapRemove snap)) answer.Done = Some (effect.Unsnap image snap)
effect_of_op header (op.Header image (header_op.SnapStatus snap status)) answer.Done =
    Some (effect.Status image snap status)
effect_of_op header (op.Header image (header_op.Role role)) answer.Done = Some (effect.Role image role)
effect_of_op (Some h) (op.Header image header_op.Mirror) answer.Done = effect_of_naming image h.global
effect_of_op header (op.Header image header_op.Remove) answer.Done = Some (effect.Gone image)
effect_of_op (Some h) (op.Data image number o) answer.Done = effect_of_data image number h o
effect_of_op header o a = None

-- the header of the image that an operation is about
abbrev pub header_of : Records → Op → Option HeaderView
header_of r (op.Header image o) = r.headers image
header_of r (op.Data image number o) = r.headers image
header_of r o = None

-- The effect of a line of a log, after these records. A step of the store has none.
abbrev pub effect_of : Records → DoneOp → Answer → Option Effect
effect_of r (done.Op o) a = effect_of_op (header_of r o) o a
effect_of r o a = None
