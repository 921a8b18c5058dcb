-- The bytes of one piece become zeros.
use Rattle.std.specs.Prelude.{◌≡◌, ℕ, ◌<◌, ◌==◌, ◌&&◌, nat_lt, Bool, true, false, List, [], ◌∷◌, Option, Some, None}
use Rattle.std.specs.Cmp.Lexicographic.{pointwise}
use Rattle.rbd_kinds.specs.declared.header.HeaderView.{HeaderView}
use Rattle.rbd_kinds.specs.declared.header.ParentLink.{ParentLink}
use Rattle.rbd_kinds.specs.declared.header.SnapContext.{SnapContext}
use Rattle.rbd_kinds.specs.declared.id.SiteId.{SiteId}
use Rattle.rbd_kinds.specs.declared.layout.Extent.{Extent}
use Rattle.rbd_kinds.specs.declared.layout.Part.{Part}
use Rattle.rbd_kinds.specs.Striping.{byte_at}
use Rattle.rbd_layout.specs.declared.types.Piece.{Piece}
use Rattle.rbd_layout.specs.Pieces.{piece_in}
use Rattle.rbd_header.specs.Header.{context_of}
use Rattle.rbd_machine.specs.Path.{Answered}
use Rattle.rbd_machine.specs.Plan.{Plan}
use Rattle.rbd_machine.specs.Steps.{own, on_done}
use Rattle.rbd_pieces.specs.Operations.{data_zero, data_empty, data_remove, map_set, done}
use Rattle.rbd_pieces.specs.declared.zero_piece.Stage.{Stage}
use Rattle.rbd_pieces.specs.declared.zero_piece.Stage.TheVariants as stage
use Rattle.rbd_pieces.specs.declared.zero_piece.ZeroPiece.{ZeroPiece}

-- ---- which bytes of which object

-- an object of the head: its first byte lies below the size
abbrev pub IsOfHead : HeaderView → (number : ℕ) → Type 0
IsOfHead h number = byte_at h.layout number 0 < h.size

-- all bytes of the head
abbrev pub head_of : HeaderView → Extent
head_of h = record { at = 0; len = h.size }

abbrev pub is_same : Part → Part → Bool
is_same p q = (p.offset == q.offset) && ((p.at == q.at) && (p.len == q.len))

-- the parts are all that the head has in the object
abbrev pub is_whole : HeaderView → Piece → Bool
is_whole h p = pointwise is_same p.parts (piece_in h.layout (head_of h) p.object).parts

abbrev pub is_below : Option ParentLink → (x : ℕ) → Bool
is_below None x = false
is_below (Some link) x = nat_lt x link.overlap

-- the object's first byte lies below the head's overlap
abbrev pub is_inside : HeaderView → (number : ℕ) → Bool
is_inside h number = is_below h.parent (byte_at h.layout number 0)

-- ---- the steps

module _ (site : SiteId) (image : ℕ) (context : SnapContext) (piece : Piece) where
  -- the object gets a state in the head's map
  abbrev pub setting : (state : ℕ) → (next : Plan) → Plan
  setting state next = own site (map_set image piece.object state) (on_done next)

  abbrev pub zeroing : (must : Bool) → (next : Plan) → Plan
  zeroing must next = own site (data_zero image context must piece) (on_done next)

  abbrev pub emptying : (next : Plan) → Plan
  emptying next = own site (data_empty image context piece.object) (on_done next)

  abbrev pub removing : (next : Plan) → Plan
  removing next = own site (data_remove image context piece.object) (on_done next)

  -- Some bytes of the object. Inside the overlap it has to be there: where it isn't, it was never
  -- copied up, and until there are clones that is no image.
  abbrev pub zero_some : (inside : Bool) → (next : Plan) → Plan
  zero_some false next = zeroing false next
  zero_some true next = setting 1 (zeroing true next)

  -- All bytes of it. Inside the overlap it stays, so that the parent's bytes don't show. Outside it
  -- goes, and meanwhile it may exist.
  abbrev pub zero_all : (inside : Bool) → (next : Plan) → Plan
  zero_all false next = setting 2 (removing (setting 0 next))
  zero_all true next = setting 1 (emptying next)

  abbrev pub zero_by : (whole inside : Bool) → (next : Plan) → Plan
  zero_by false inside next = zero_some inside next
  zero_by true inside next = zero_all inside next

-- by a header, under its snapshot context
abbrev pub zero_piece : SiteId → (image : ℕ) → HeaderView → Piece → (next : Plan) → Plan
zero_piece site image h piece next =
    zero_by site image (context_of h) piece (is_whole h piece) (is_inside h piece.object) next

-- ---- where it stands

abbrev pub rest_from : Stage → ZeroPiece → (next : Plan) → Plan
rest_from stage.Zeroing z next = zeroing z.site z.image z.context z.piece false next
rest_from stage.RaisingToZero z next = zero_some z.site z.image z.context z.piece true next
rest_from stage.ZeroingThere z next = zeroing z.site z.image z.context z.piece true next
rest_from stage.RaisingToEmpty z next = zero_all z.site z.image z.context z.piece true next
rest_from stage.Emptying z next = emptying z.site z.image z.context z.piece next
rest_from stage.Marking z next = zero_all z.site z.image z.context z.piece false next
rest_from stage.Removing z next =
    removing z.site z.image z.context z.piece (setting z.site z.image z.context z.piece 0 next)
rest_from stage.Lowering z next = setting z.site z.image z.context z.piece 0 next

-- what is left of one
abbrev pub rest_of_zero : ZeroPiece → (next : Plan) → Plan
rest_of_zero z next = rest_from z.stage z next

-- ---- what it has done when it ends

module _ (site : SiteId) (image : ℕ) (context : SnapContext) (piece : Piece) where
  abbrev pub some_zeroed : (inside : Bool) → List Answered
  some_zeroed false = done site (data_zero image context false piece) ∷ []
  some_zeroed true = done site (map_set image piece.object 1) ∷ done site (data_zero image context true piece) ∷ []

  abbrev pub all_zeroed : (inside : Bool) → List Answered
  all_zeroed false =
      done site (map_set image piece.object 2) ∷ done site (data_remove image context piece.object)
      ∷ done site (map_set image piece.object 0) ∷ []
  all_zeroed true = done site (map_set image piece.object 1) ∷ done site (data_empty image context piece.object) ∷ []

  abbrev pub zeroed_by : (whole inside : Bool) → List Answered
  zeroed_by false inside = some_zeroed inside
  zeroed_by true inside = all_zeroed inside

abbrev pub zeroed_steps : SiteId → (image : ℕ) → HeaderView → Piece → List Answered
zeroed_steps site image h piece = zeroed_by site image (context_of h) piece (is_whole h piece)
    (is_inside h piece.object)

-- a piece that has become zeros
abbrev pub IsZeroed : SiteId → (image : ℕ) → HeaderView → Piece → List Answered → Type 0
IsZeroed site image h piece steps = steps ≡ zeroed_steps site image h piece
