-- The size of the head is set.
use Rattle.std.specs.Prelude.{◌≡◌, ℕ, nat_le, Bool, true, false, List, [], ◌∷◌, ◌++◌}
use Rattle.rbd_kinds.specs.declared.answer.Answer.{Answer}
use Rattle.rbd_kinds.specs.declared.answer.Answer.TheVariants as answer
use Rattle.rbd_kinds.specs.declared.header.HeaderView.{HeaderView}
use Rattle.rbd_kinds.specs.declared.id.SiteId.{SiteId}
use Rattle.rbd_layout.specs.declared.types.Piece.{Piece}
use Rattle.rbd_machine.specs.Path.{Answered}
use Rattle.rbd_machine.specs.Plan.{Plan}
use Rattle.rbd_machine.specs.Steps.{own, on_bits, on_done, TellsBits, TellsDone}
use Rattle.rbd_pieces.specs.Operations.{header_set_size, map_get, map_resize, done}
use Rattle.rbd_pieces.specs.Pieces.{ArePieces}
use Rattle.rbd_pieces.specs.Shrink.{pieces_from}
use Rattle.rbd_pieces.specs.Zero.{IsZeroed, rest_of_zero, zeroed_steps, zero_piece}
use Rattle.rbd_pieces.specs.declared.size.Size.{Size}
use Rattle.rbd_pieces.specs.declared.size.Stage.{Stage}
use Rattle.rbd_pieces.specs.declared.size.Stage.TheVariants as stage
use Rattle.rbd_pieces.specs.declared.zero_piece.ZeroPiece.{ZeroPiece}

-- ---- the steps

abbrev pub sizing : SiteId → (image to : ℕ) → (next : Plan) → Plan
sizing site image to next = own site (header_set_size image to) (on_done next)

-- the map has room for the new objects before the size says that they are some
abbrev pub growing : SiteId → (image to objects : ℕ) → (next : Plan) → Plan
growing site image to objects next = own site (map_resize image objects) (on_done (sizing site image to next))

-- pieces become zeros, one after another
abbrev pub zero_pieces : SiteId → (image : ℕ) → HeaderView → List Piece → (next : Plan) → Plan
zero_pieces site image h [] next = next
zero_pieces site image h (p ∷ pieces) next = zero_piece site image h p (zero_pieces site image h pieces next)

-- by the states of the head's map
abbrev pub cutting : SiteId → (image : ℕ) → HeaderView → (to : ℕ) → (next : Plan) → (bits : List ℕ) → Plan
cutting site image h to next bits = zero_pieces site image h (pieces_from h to bits) (sizing site image to next)

abbrev pub shrinking : SiteId → (image : ℕ) → HeaderView → (to : ℕ) → (next : Plan) → Plan
shrinking site image h to next = own site (map_get image) (on_bits (cutting site image h to next))

abbrev pub resize_by : (grows : Bool) → SiteId → (image : ℕ) → HeaderView → (to objects : ℕ) → (next : Plan) → Plan
resize_by true site image h to objects next = growing site image to objects next
resize_by false site image h to objects next = shrinking site image h to next

-- to a size that has so many objects
abbrev pub resize : SiteId → (image : ℕ) → HeaderView → (to objects : ℕ) → (next : Plan) → Plan
resize site image h to objects next = resize_by (nat_le h.size to) site image h to objects next

-- ---- where it stands

-- the pieces that are left
abbrev pub rest_of_zeros : List ZeroPiece → (next : Plan) → Plan
rest_of_zeros [] next = next
rest_of_zeros (z ∷ pieces) next = rest_of_zero z (rest_of_zeros pieces next)

abbrev pub rest_from : Stage → Size → (next : Plan) → Plan
rest_from (stage.Growing objects to) s next = growing s.site s.image to objects next
rest_from (stage.Looking shrink) s next = shrinking s.site s.image shrink.header shrink.to next
rest_from (stage.Zeroing piece to) s next =
    rest_of_zero piece (rest_of_zeros s.pieces.items (sizing s.site s.image to next))
rest_from (stage.Sizing to) s next = sizing s.site s.image to next

-- what is left of one
abbrev pub rest_of_size : Size → (next : Plan) → Plan
rest_of_size s next = rest_from s.stage s next

-- what its operation may be answered
abbrev pub Tells : Stage → Answer → Type 0
Tells (stage.Looking shrink) = TellsBits
Tells _ = TellsDone

-- ---- the memory that an answer needs: where the states are told, the pieces

abbrev pub IsReadyAt : Stage → Size → Answer → Type 0
IsReadyAt (stage.Looking shrink) s (answer.Bits bits) = (next : Plan)
    → rest_of_zeros s.pieces.items next
    ≡ zero_pieces s.site s.image shrink.header (pieces_from shrink.header shrink.to bits) next
IsReadyAt _ s _ = Unit {0}

abbrev pub IsReady : Size → Answer → Type 0
IsReady s a = IsReadyAt s.stage s a

-- ---- what it has done when it ends

abbrev pub states_told : SiteId → (image : ℕ) → (bits : List ℕ) → Answered
states_told site image bits = record { site = site; op = map_get image; answer = answer.Bits bits }

-- the pieces became zeros, one after another
abbrev pub AreZeroed : SiteId → (image : ℕ) → HeaderView → List Piece → List Answered → Type 0
AreZeroed site image h pieces steps = ArePieces (IsZeroed site image h) pieces steps

-- the operations by which they did
abbrev pub pieces_zeroed : SiteId → (image : ℕ) → HeaderView → List Piece → List Answered
pieces_zeroed site image h [] = []
pieces_zeroed site image h (p ∷ pieces) = zeroed_steps site image h p ++ pieces_zeroed site image h pieces

abbrev pub grown : SiteId → (image to objects : ℕ) → List Answered
grown site image to objects = done site (map_resize image objects) ∷ done site (header_set_size image to) ∷ []

abbrev pub shrunk : SiteId → (image to : ℕ) → (bits : List ℕ) → (zeroed : List Answered) → List Answered
shrunk site image to bits zeroed =
    states_told site image bits ∷ (zeroed ++ done site (header_set_size image to) ∷ [])

-- by some states that the head's map told
pub record IsShrunk (site : SiteId) (image : ℕ) (h : HeaderView) (to : ℕ) (steps : List Answered) : Type 0 where
  pub bits : List ℕ
  pub zeroed : List Answered
  pub are_zeroed : AreZeroed site image h (pieces_from h to bits) zeroed
  pub are : steps ≡ shrunk site image to bits zeroed

abbrev pub IsResizedBy : (grows : Bool) → SiteId → (image : ℕ) → HeaderView → (to objects : ℕ) → List Answered → Type 0
IsResizedBy true site image h to objects steps = steps ≡ grown site image to objects
IsResizedBy false site image h to objects steps = IsShrunk site image h to steps

abbrev pub IsResized : SiteId → (image : ℕ) → HeaderView → (to objects : ℕ) → List Answered → Type 0
IsResized site image h to objects steps = IsResizedBy (nat_le h.size to) site image h to objects steps
