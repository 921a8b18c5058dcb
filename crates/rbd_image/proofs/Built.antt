-- What holds of a size, and of what replaces objects, if it is kept by each of their steps.
use Rattle.std.proofs.Common.{ℕ, List, [], ◌∷◌, Bool, true, false, Option}
use Rattle.std.specs.Prelude.{nat_le}
use Rattle.rbd_kinds.specs.declared.header.HeaderView.{HeaderView}
use Rattle.rbd_kinds.specs.declared.header.SnapContext.{SnapContext}
use Rattle.rbd_kinds.specs.declared.id.SiteId.{SiteId}
use Rattle.rbd_kinds.specs.declared.operation.Op.{Op}
use Rattle.rbd_header.specs.Header.{context_of}
use Rattle.rbd_layout.specs.declared.types.Piece.{Piece}
use Rattle.rbd_machine.specs.Objects.{data_read}
use Rattle.rbd_machine.specs.Plan.{Plan}
use Rattle.rbd_machine.specs.Steps.{own, on_bits, on_done}
use Rattle.rbd_pieces.specs.Gather.{on_bytes}
use Rattle.rbd_pieces.specs.Full.{cut_bytes, full_by, full_piece, writing_full}
use Rattle.rbd_pieces.specs.Operations.{data_empty, data_remove, data_write_full, data_zero, header_set_size, map_get, map_resize, map_set}
use Rattle.rbd_pieces.specs.Shrink.{pieces_from}
use Rattle.rbd_pieces.specs.Size.{cutting, resize, resize_by, sizing, zero_pieces}
use Rattle.rbd_pieces.specs.Zero.{emptying, is_inside, is_whole, removing, setting, zero_all, zero_by, zeroing}

-- A relation of two plans that each step keeps, where its operation is fine. `First` is kept by a
-- step that comes first, and `May` says whether an object inside the overlap may be zeroed in part.
pub record Rules (Holds First : Plan → Plan → Type 0) (Fine : Op → Type 0) (May : Bool → Type 0) (site : SiteId) (image : ℕ) : Type 0 where
  pub done : (o : Op) (k p : Plan) → Fine o → Holds k p → Holds (own site o (on_done k)) (own site o (on_done p))
  pub read : (snap : Option ℕ) (piece : Piece) (k p : List ℕ → Plan) → ((bytes : List ℕ) → Holds (k bytes) (p bytes))
      → Holds (own site (data_read image snap piece) (on_bytes piece.parts k)) (own site (data_read image snap piece) (on_bytes piece.parts p))
  pub bits : (k p : List ℕ → Plan) → ((states : List ℕ) → Holds (k states) (p states)) → First (own site (map_get image) (on_bits k)) (own site (map_get image) (on_bits p))
  pub first : (k p : Plan) → Holds k p → First k p
  pub set : (number state : ℕ) → Fine (map_set image number state)
  pub zero : (context : SnapContext) (piece : Piece) → Fine (data_zero image context false piece)
  pub must : May true → (context : SnapContext) (piece : Piece) → Fine (data_zero image context true piece)
  pub empty : (context : SnapContext) (number : ℕ) → Fine (data_empty image context number)
  pub remove : (context : SnapContext) (number : ℕ) → Fine (data_remove image context number)
  pub full : (context : SnapContext) (number : ℕ) (bytes : List ℕ) → Fine (data_write_full image context number bytes)
  pub room : (objects : ℕ) → Fine (map_resize image objects)
  pub size : (to : ℕ) → Fine (header_set_size image to)

module _ (Holds First : Plan → Plan → Type 0) (Fine : Op → Type 0) (May : Bool → Type 0) (site : SiteId) (image : ℕ) (rules : Rules Holds First Fine May site image) where
  built_all : (inside : Bool) (context : SnapContext) (piece : Piece) (k p : Plan) → Holds k p → Holds (zero_all site image context piece inside k) (zero_all site image context piece inside p)
  built_all true context piece k p holds =
      rules.done (map_set image piece.object 1) (emptying site image context piece k) (emptying site image context piece p) (rules.set piece.object 1)
      (rules.done (data_empty image context piece.object) k p (rules.empty context piece.object) holds)
  built_all false context piece k p holds =
      let last = rules.done (map_set image piece.object 0) k p (rules.set piece.object 0) holds in
      rules.done (map_set image piece.object 2) (removing site image context piece (setting site image context piece 0 k)) (removing site image context piece (setting site image context piece 0 p)) (rules.set piece.object 2)
      (rules.done (data_remove image context piece.object) (setting site image context piece 0 k) (setting site image context piece 0 p) (rules.remove context piece.object) last)

  built_by : (whole inside : Bool) → May inside → (context : SnapContext) (piece : Piece) (k p : Plan) → Holds k p → Holds (zero_by site image context piece whole inside k) (zero_by site image context piece whole inside p)
  built_by true inside may context piece k p holds = built_all inside context piece k p holds
  built_by false true may context piece k p holds =
      rules.done (map_set image piece.object 1) (zeroing site image context piece true k) (zeroing site image context piece true p) (rules.set piece.object 1)
      (rules.done (data_zero image context true piece) k p (rules.must may context piece) holds)
  built_by false false may context piece k p holds = rules.done (data_zero image context false piece) k p (rules.zero context piece) holds

  module _ (h : HeaderView) where
    built_full_by : (left : List ℕ) (piece : Piece) (k p : Plan) → Holds k p → Holds (full_by site image h piece left k) (full_by site image h piece left p)
    built_full_by [] piece k p holds = built_all (is_inside h piece.object) (context_of h) piece k p holds
    built_full_by (byte ∷ left) piece k p holds =
        let context = context_of h in
        rules.done (map_set image piece.object 1) (writing_full site image context piece.object (byte ∷ left) k) (writing_full site image context piece.object (byte ∷ left) p) (rules.set piece.object 1)
        (rules.done (data_write_full image context piece.object (byte ∷ left)) k p (rules.full context piece.object (byte ∷ left)) holds)

    pub built_full : (piece : Piece) (bytes : List ℕ) (k p : Plan) → Holds k p → Holds (full_piece site image h piece bytes k) (full_piece site image h piece bytes p)
    built_full piece bytes k p holds = built_full_by (cut_bytes bytes) piece k p holds

    -- ---- a size

    module _ (may : (number : ℕ) → May (is_inside h number)) where
      built_zeros : (pieces : List Piece) (k p : Plan) → Holds k p → Holds (zero_pieces site image h pieces k) (zero_pieces site image h pieces p)
      built_zeros [] k p holds = holds
      built_zeros (q ∷ pieces) k p holds =
          built_by (is_whole h q) (is_inside h q.object) (may q.object) (context_of h) q (zero_pieces site image h pieces k) (zero_pieces site image h pieces p) (built_zeros pieces k p holds)

      built_resize_by : (grows : Bool) (to objects : ℕ) (k p : Plan) → Holds k p → First (resize_by grows site image h to objects k) (resize_by grows site image h to objects p)
      built_resize_by true to objects k p holds =
          rules.first (resize_by true site image h to objects k) (resize_by true site image h to objects p)
          (rules.done (map_resize image objects) (sizing site image to k) (sizing site image to p) (rules.room objects) (rules.done (header_set_size image to) k p (rules.size to) holds))
      built_resize_by false to objects k p holds =
          rules.bits (cutting site image h to k) (cutting site image h to p)
          (λ states. built_zeros (pieces_from h to states) (sizing site image to k) (sizing site image to p) (rules.done (header_set_size image to) k p (rules.size to) holds))

      pub built_resize : (to objects : ℕ) (k p : Plan) → Holds k p → First (resize site image h to objects k) (resize site image h to objects p)
      built_resize to objects k p holds = built_resize_by (nat_le h.size to) to objects k p holds
