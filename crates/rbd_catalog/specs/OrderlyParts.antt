-- Parts of requests keep to their line: lemmas that the laws of an `impl` cite. They define
-- nothing.
use Rattle.std.proofs.Common.{◌≡◌, ℕ, List, [], ◌∷◌, ◌++◌, replicate, Bool, true, false, cond, Option, Some, None, subst}
use Rattle.std.specs.Prelude.{nat_le}
use Rattle.rbd_kinds.specs.declared.answer.Answer.{Answer}
use Rattle.rbd_kinds.specs.declared.answer.Answer.TheVariants as answer
use Rattle.rbd_kinds.specs.declared.header.HeaderView.{HeaderView}
use Rattle.rbd_kinds.specs.declared.header.SnapContext.{SnapContext}
use Rattle.rbd_kinds.specs.declared.id.SiteId.{SiteId}
use Rattle.rbd_kinds.specs.declared.layout.Extent.{Extent}
use Rattle.rbd_kinds.specs.declared.layout.Part.{Part}
use Rattle.rbd_kinds.specs.Parts.{parts_len}
use Rattle.rbd_layout.specs.declared.types.Piece.{Piece}
use Rattle.rbd_header.specs.Header.{context_of}
use Rattle.rbd_machine.specs.Label.{Label}
use Rattle.rbd_machine.specs.Plan.{Plan}
use Rattle.rbd_machine.specs.Steps.{on_bits, on_done}
use Rattle.rbd_machine.specs.Course.{Course, beginning}
use Rattle.rbd_machine.specs.Orderly.{IsOrderly}
use Rattle.rbd_machine.proofs.CourseSteps.{orderly_not_there, orderly_on_done}
use Rattle.rbd_pieces.specs.Gather.{gather, on_bytes}
use Rattle.rbd_pieces.specs.Full.{cut_bytes, full_by, full_piece, replacing, writing_full}
use Rattle.rbd_pieces.specs.Shrink.{pieces_from}
use Rattle.rbd_pieces.specs.Size.{cutting, resize, resize_by, sizing, zero_pieces}
use Rattle.rbd_pieces.specs.Zero.{emptying, is_inside, is_whole, removing, setting, zero_all, zero_by, zero_piece, zeroing}

pub never_true : false ≡ true → ⊥
never_true is = subst (λ b. cond b ⊥ (Unit {0})) is tt

abbrev HasOne : {A : Type 0} → Option A → Type 0
HasOne None = ⊥
HasOne (Some a) = Unit {0}

pub never_none : {A : Type 0} {a : A} → Some a ≡ None → ⊥
never_none is = subst HasOne is tt

-- each part that is begun again is begun in no line
abbrev pub begins_in_no_line : Label → Course
begins_in_no_line label = beginning

-- A part does nothing on which its course depends, so it keeps to the line where nothing is due and
-- what comes next does.
module _ (e : Option Extent) (c : Course) (none : c.due ≡ []) where
  done : (next : Plan) → IsOrderly e begins_in_no_line true c next → (a : Answer)
      → IsOrderly e begins_in_no_line true c (on_done next a)
  done next orderly a = orderly_on_done e begins_in_no_line c next orderly a

  pub orderly_on_bits : (next : List ℕ → Plan) → ((bits : List ℕ) → IsOrderly e begins_in_no_line true c (next bits))
      → (a : Answer) → IsOrderly e begins_in_no_line true c (on_bits next a)
  orderly_on_bits next orderly (answer.Bits bits) = orderly bits
  orderly_on_bits next orderly a = orderly_not_there e begins_in_no_line c a

  -- ---- reading

  orderly_on_bytes : (parts : List Part) (next : List ℕ → Plan)
      → ((bytes : List ℕ) → IsOrderly e begins_in_no_line true c (next bytes)) → (a : Answer)
      → IsOrderly e begins_in_no_line true c (on_bytes parts next a)
  orderly_on_bytes parts next orderly (answer.Bytes bytes) = orderly bytes
  orderly_on_bytes parts next orderly answer.Absent = orderly (replicate (parts_len parts) 0)
  orderly_on_bytes parts next orderly a = orderly_not_there e begins_in_no_line c a

  pub orderly_gather : (pieces : List Piece) (site : SiteId) (image : ℕ) (snap : Option ℕ) (read : List ℕ)
      (next : List ℕ → Plan)
      → ((bytes : List ℕ) → IsOrderly e begins_in_no_line true c (next bytes))
      → IsOrderly e begins_in_no_line true c (gather site image snap pieces read next)
  orderly_gather [] site image snap read next orderly = orderly read
  orderly_gather (p ∷ pieces) site image snap read next orderly = (
    none,
    λ a can.
        orderly_on_bytes p.parts (λ bytes. gather site image snap pieces (read ++ bytes) next)
        (λ bytes. orderly_gather pieces site image snap (read ++ bytes) next orderly) a,
  )

  -- ---- zeros

  module _ (site : SiteId) (image : ℕ) (context : SnapContext) (piece : Piece) (next : Plan)
      (orderly : IsOrderly e begins_in_no_line true c next) (fresh : Bool) where
    orderly_all : (inside : Bool) → IsOrderly e begins_in_no_line fresh c
        (zero_all site image context piece inside next)
    orderly_all true = (
      none,
      λ raised can. done (emptying site image context piece next)
          (none, λ a can. done next orderly a) raised,
    )
    orderly_all false = (
      none,
      λ marked can. done (removing site image context piece (setting site image context piece 0 next)) (
        none,
        λ removed can. done (setting site image context piece 0 next) (none, λ a can. done next orderly a) removed,
      ) marked,
    )

    orderly_by : (whole inside : Bool)
        → IsOrderly e begins_in_no_line fresh c (zero_by site image context piece whole inside next)
    orderly_by true inside = orderly_all inside
    orderly_by false true = (
      none,
      λ raised can. done (zeroing site image context piece true next)
          (none, λ a can. done next orderly a) raised,
    )
    orderly_by false false = (none, λ a can. done next orderly a)

    orderly_replacing : (bytes : List ℕ)
        → IsOrderly e begins_in_no_line fresh c (replacing site image context piece.object bytes next)
    orderly_replacing bytes = (
      none,
      λ raised can. done (writing_full site image context piece.object bytes next)
          (none, λ a can. done next orderly a) raised,
    )

  module _ (site : SiteId) (image : ℕ) (h : HeaderView) where
    pub orderly_zero : (piece : Piece) (next : Plan) → IsOrderly e begins_in_no_line true c next → (fresh : Bool)
        → IsOrderly e begins_in_no_line fresh c (zero_piece site image h piece next)
    orderly_zero piece next orderly fresh = orderly_by site image (context_of h) piece next orderly fresh
        (is_whole h piece) (is_inside h piece.object)

    -- ---- all bytes of an object

    orderly_full_by : (left : List ℕ) (piece : Piece) (next : Plan) → IsOrderly e begins_in_no_line true c next
        → IsOrderly e begins_in_no_line true c (full_by site image h piece left next)
    orderly_full_by [] piece next orderly = orderly_all site image (context_of h) piece next orderly true
        (is_inside h piece.object)
    orderly_full_by (byte ∷ left) piece next orderly =
        orderly_replacing site image (context_of h) piece next orderly true (byte ∷ left)

    pub orderly_full : (piece : Piece) (bytes : List ℕ) (next : Plan) → IsOrderly e begins_in_no_line true c next
        → IsOrderly e begins_in_no_line true c (full_piece site image h piece bytes next)
    orderly_full piece bytes next orderly = orderly_full_by (cut_bytes bytes) piece next orderly

    -- ---- a size

    orderly_zeros : (pieces : List Piece) (next : Plan) → IsOrderly e begins_in_no_line true c next
        → IsOrderly e begins_in_no_line true c (zero_pieces site image h pieces next)
    orderly_zeros [] next orderly = orderly
    orderly_zeros (p ∷ pieces) next orderly = orderly_zero p (zero_pieces site image h pieces next)
        (orderly_zeros pieces next orderly) true

    module _ (to : ℕ) (next : Plan) (orderly : IsOrderly e begins_in_no_line true c next) where
      orderly_sizing : IsOrderly e begins_in_no_line true c (sizing site image to next)
      orderly_sizing = (none, λ a can. done next orderly a)

      orderly_resize_by : (grows : Bool) (objects : ℕ)
          → IsOrderly e begins_in_no_line true c (resize_by grows site image h to objects next)
      orderly_resize_by true objects = (none, λ a can. done (sizing site image to next) orderly_sizing a)
      orderly_resize_by false objects = (
        none,
        λ a can. orderly_on_bits (cutting site image h to next)
            (λ bits. orderly_zeros (pieces_from h to bits) (sizing site image to next) orderly_sizing) a,
      )

      pub orderly_resize : (objects : ℕ) → IsOrderly e begins_in_no_line true c (resize site image h to objects next)
      orderly_resize objects = orderly_resize_by (nat_le h.size to) objects
