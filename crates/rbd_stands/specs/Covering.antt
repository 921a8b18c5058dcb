-- When the object maps of a site cover its objects: state 0 means that an object is absent. And
-- what operations have to meet, so that they still do (Ceph: the order in which RBD sets an object
-- map's state and changes the object).
use Rattle.std.specs.Prelude.{◌≡◌, ◌≢◌, ℕ, ◌+◌, ◌*◌, Bool, IsFalse, List, length, slice_index, Option, Some, None, is_some}
use Rattle.rbd_kinds.specs.declared.data_op.DataOp.{DataOp}
use Rattle.rbd_kinds.specs.declared.data_op.DataOp.TheVariants as data_op
use Rattle.rbd_kinds.specs.declared.header.HeaderView.{HeaderView}
use Rattle.rbd_kinds.specs.declared.header_op.HeaderOp.{HeaderOp}
use Rattle.rbd_kinds.specs.declared.header_op.HeaderOp.TheVariants as header_op
use Rattle.rbd_kinds.specs.declared.map_op.MapOp.{MapOp}
use Rattle.rbd_kinds.specs.declared.map_op.MapOp.TheVariants as map_op
use Rattle.rbd_kinds.specs.declared.operation.Op.{Op}
use Rattle.rbd_kinds.specs.declared.operation.Op.TheVariants as op
use Rattle.rbd_map.specs.Covers.{Covers}
use Rattle.rbd_map.specs.States.{states_of}
use Rattle.rbd_object.specs.Mapped.{Mapped, versioned, mapped_blank}
use Rattle.rbd_object.specs.Versioned.{view}
use Rattle.rbd_site.specs.Records.{Records, object_at}
use Rattle.rbd_stands.specs.Condition.{IsContextOf}
use Rattle.rbd_stands.specs.View.{EachView, Shape, shape_of}

-- the maps of one image: of its head (None), and of its snapshots
abbrev pub Maps : Type 0
Maps = (view : Option ℕ) → Option (List ℕ)

-- whether an object exists at a view
abbrev pub exists_at : (objects : ℕ → Mapped) → Option ℕ → (number : ℕ) → Bool
exists_at objects v number = is_some (view (versioned (objects number)) v)

-- a map that isn't there says nothing
abbrev pub IsCovered : (map : Option (List ℕ)) → (exists : ℕ → Bool) → Type 0
IsCovered None exists = Unit {0}
IsCovered (Some states) exists = Covers states exists

-- at each view of an image, state 0 in its map means that the object is absent there
abbrev pub AreCovered : HeaderView → Maps → (objects : ℕ → Mapped) → Type 0
AreCovered h maps objects = EachView h (λ v shape. IsCovered (maps v) (exists_at objects v))

-- so it is of each image that has a header
abbrev pub MapsCover : Records → Type 0
MapsCover r = (image : ℕ) (h : HeaderView) → r.headers image ≡ Some h → AreCovered h (r.maps image) (object_at r image)

-- ---- what an operation has to meet

-- the state of an object isn't 0, where there is a map
abbrev pub IsRaised : (map : Option (List ℕ)) → (number : ℕ) → Type 0
IsRaised None number = Unit {0}
IsRaised (Some states) number = slice_index states number ≢ 0

-- A change of an object is done under the header's context, so that it leaves the snapshots. Where
-- it may make the head exist, the head's state was raised before; and before a copy-up, the state
-- at each view.
abbrev pub KeepsDataCover : HeaderView → Maps → (number : ℕ) → Mapped → DataOp → Type 0
KeepsDataCover h maps number o (data_op.Read snap parts) = Unit {0}
KeepsDataCover h maps number o (data_op.Write context must parts bytes) = IsContextOf h context
    × IsRaised (maps None) number
KeepsDataCover h maps number o (data_op.WriteFull context bytes) = IsContextOf h context × IsRaised (maps None) number
KeepsDataCover h maps number o (data_op.Zero context must parts) = IsContextOf h context
KeepsDataCover h maps number o (data_op.Empty context) = IsContextOf h context × IsRaised (maps None) number
KeepsDataCover h maps number o (data_op.Remove context) = IsContextOf h context
KeepsDataCover h maps number o (data_op.CopyUp bytes) = o.head ≡ None → EachView h (λ v shape. IsRaised (maps v) number)

-- A header is made where nothing was done to the objects. A snapshot is taken after its map was
-- put, which covers what the head has then.
abbrev pub KeepsHeaderCover : (header : Option HeaderView) → Maps → (objects : ℕ → Mapped) → HeaderOp → Type 0
KeepsHeaderCover None maps objects (header_op.Create view) = (number : ℕ) → objects number ≡ mapped_blank
KeepsHeaderCover None maps objects o = Unit {0}
KeepsHeaderCover (Some h) maps objects (header_op.SnapAdd name) =
    IsCovered (maps (Some (h.snap_seq + 1))) (exists_at objects None)
KeepsHeaderCover (Some h) maps objects o = Unit {0}

-- A head's first map is made while no object exists. A map that is put at a view covers it. State 0
-- is set of an object that is absent at the view.
abbrev pub KeepsMapCover : (header : Option HeaderView) → Maps → (objects : ℕ → Mapped) → MapOp → Type 0
KeepsMapCover None maps objects o = Unit {0}
KeepsMapCover (Some h) maps objects (map_op.Resize count) = maps None ≡ None → (number : ℕ)
    → IsFalse (exists_at objects None number)
KeepsMapCover (Some h) maps objects (map_op.Get snap) = Unit {0}
KeepsMapCover (Some h) maps objects (map_op.Put snap bits) =
    (shape : Shape) → shape_of h snap ≡ Some shape → Covers (states_of bits (4 * length bits)) (exists_at objects snap)
KeepsMapCover (Some h) maps objects (map_op.Set snap object state) = state ≡ 0 → IsFalse (exists_at objects snap object)
KeepsMapCover (Some h) maps objects (map_op.Remove snap) = Unit {0}

abbrev pub KeepsCover : Records → Op → Type 0
KeepsCover r (op.Header image o) = KeepsHeaderCover (r.headers image) (r.maps image) (object_at r image) o
KeepsCover r (op.Data image number o) = (h : HeaderView) → r.headers image ≡ Some h
    → KeepsDataCover h (r.maps image) number (object_at r image number) o
KeepsCover r (op.Map image o) = KeepsMapCover (r.headers image) (r.maps image) (object_at r image) o
KeepsCover r o = Unit {0}
