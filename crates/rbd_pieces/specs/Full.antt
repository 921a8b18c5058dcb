-- All bytes of one object are replaced.
use Rattle.std.specs.Prelude.{◌≡◌, ◌≢◌, ℕ, zero, suc, ◌-◌, List, [], ◌∷◌, ◌++◌, length, replicate, slice_index}
use Rattle.rbd_kinds.specs.declared.header.HeaderView.{HeaderView}
use Rattle.rbd_kinds.specs.declared.header.SnapContext.{SnapContext}
use Rattle.rbd_kinds.specs.declared.id.SiteId.{SiteId}
use Rattle.rbd_layout.specs.declared.types.Piece.{Piece}
use Rattle.rbd_header.specs.Header.{context_of}
use Rattle.rbd_machine.specs.Path.{Answered}
use Rattle.rbd_machine.specs.Plan.{Plan}
use Rattle.rbd_machine.specs.Steps.{own, on_done}
use Rattle.rbd_pieces.specs.Operations.{data_write_full, map_set, done}
use Rattle.rbd_pieces.specs.Zero.{all_zeroed, is_inside, rest_of_zero, zero_all}
use Rattle.rbd_pieces.specs.declared.full_piece.FullPiece.{FullPiece}
use Rattle.rbd_pieces.specs.declared.full_piece.Way.{Way}
use Rattle.rbd_pieces.specs.declared.full_piece.Way.TheVariants as way
use Rattle.rbd_pieces.specs.declared.replace.Replace.{Replace}
use Rattle.rbd_pieces.specs.declared.replace.Stage.{Stage}
use Rattle.rbd_pieces.specs.declared.replace.Stage.TheVariants as stage

-- ---- bytes without the zeros at their end

-- a byte and those behind it, of which a zero at the end is left out
abbrev pub trimmed_byte : (byte : ℕ) → (rest : List ℕ) → List ℕ
trimmed_byte zero [] = []
trimmed_byte zero (next ∷ rest) = zero ∷ next ∷ rest
trimmed_byte (suc byte) rest = suc byte ∷ rest

-- the bytes up to the last that isn't zero
abbrev pub cut_bytes : List ℕ → List ℕ
cut_bytes [] = []
cut_bytes (byte ∷ bytes) = trimmed_byte byte (cut_bytes bytes)

-- These are the bytes up to the last that isn't zero: none follows them but zeros, and they end in
-- one that is none.
pub record IsCut (bytes left : List ℕ) : Type 0 where
  pub zeros : left ++ replicate (length bytes - length left) 0 ≡ bytes
  pub last : (n : ℕ) → length left ≡ suc n → slice_index left n ≢ 0

-- ---- the steps

module _ (site : SiteId) (image : ℕ) (context : SnapContext) (number : ℕ) (bytes : List ℕ) where
  abbrev pub writing_full : (next : Plan) → Plan
  writing_full next = own site (data_write_full image context number bytes) (on_done next)

  -- the object's state is raised before
  abbrev pub replacing : (next : Plan) → Plan
  replacing next = own site (map_set image number 1) (on_done (writing_full next))

-- where no bytes are left, the piece becomes zeros
abbrev pub full_by : SiteId → (image : ℕ) → HeaderView → Piece → (left : List ℕ) → (next : Plan) → Plan
full_by site image h piece [] next = zero_all site image (context_of h) piece (is_inside h piece.object) next
full_by site image h piece (byte ∷ left) next = replacing site image (context_of h) piece.object (byte ∷ left) next

-- the bytes of a piece that is whole, from its object's first byte on
abbrev pub full_piece : SiteId → (image : ℕ) → HeaderView → Piece → (bytes : List ℕ) → (next : Plan) → Plan
full_piece site image h piece bytes next = full_by site image h piece (cut_bytes bytes) next

-- ---- where it stands

abbrev pub replace_from : Stage → Replace → (next : Plan) → Plan
replace_from stage.Raising r next = replacing r.site r.image r.context r.object r.bytes next
replace_from stage.Writing r next = writing_full r.site r.image r.context r.object r.bytes next

abbrev pub rest_of_replace : Replace → (next : Plan) → Plan
rest_of_replace r next = replace_from r.stage r next

abbrev pub rest_from : Way → (next : Plan) → Plan
rest_from (way.Replacing r) next = rest_of_replace r next
rest_from (way.Zeroing z) next = rest_of_zero z next

-- what is left of one
abbrev pub rest_of_full : FullPiece → (next : Plan) → Plan
rest_of_full f next = rest_from f.way next

-- ---- what it has done when it ends

abbrev pub replaced_by : SiteId → (image : ℕ) → HeaderView → Piece → (left : List ℕ) → List Answered
replaced_by site image h piece [] = all_zeroed site image (context_of h) piece (is_inside h piece.object)
replaced_by site image h piece (byte ∷ left) =
    done site (map_set image piece.object 1)
    ∷ done site (data_write_full image (context_of h) piece.object (byte ∷ left)) ∷ []

abbrev pub replaced : SiteId → (image : ℕ) → HeaderView → Piece → (bytes : List ℕ) → List Answered
replaced site image h piece bytes = replaced_by site image h piece (cut_bytes bytes)

-- a piece whose object has been replaced by these bytes
abbrev pub IsReplaced : SiteId → (image : ℕ) → HeaderView → Piece → (bytes : List ℕ) → List Answered → Type 0
IsReplaced site image h piece bytes steps = steps ≡ replaced site image h piece bytes
