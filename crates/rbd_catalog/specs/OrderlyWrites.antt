-- Requests that change an extent keep to their line: lemmas that the laws of an `impl` cite. They
-- define nothing.
use Rattle.std.proofs.Common.{◌≡◌, ℕ, List, [], ◌∷◌, replicate, Bool, true, false, cond, Option, Some, None, refl, ap, sym, subst}
use Rattle.std.proofs.lemmas.List.{length-replicate}
use Rattle.rbd_kinds.specs.declared.sharing.Sharing.TheVariants as sharing
use Rattle.rbd_commands.specs.declared.refusal.Refusal.TheVariants as refusal
use Rattle.rbd_kinds.specs.declared.header.HeaderView.{HeaderView}
use Rattle.rbd_kinds.specs.declared.header.SnapContext.{SnapContext}
use Rattle.rbd_kinds.specs.declared.id.SiteId.{SiteId}
use Rattle.rbd_kinds.specs.declared.layout.Extent.{Extent}
use Rattle.rbd_kinds.specs.Extents.{fits}
use Rattle.rbd_kinds.proofs.Images.{at_itself}
use Rattle.rbd_layout.specs.Pieces.{pieces_of}
use Rattle.rbd_layout.specs.declared.types.Piece.{Piece}
use Rattle.rbd_header.specs.Header.{context_of}
use Rattle.rbd_machine.specs.Plan.{Plan}
use Rattle.rbd_machine.specs.Steps.{applied, non_primary}
use Rattle.rbd_machine.proofs.Lawful.{or_else_none}
use Rattle.rbd_machine.specs.Course.{Course, PlaceInLine, objects_behind, beginning, objects_of, objects_within}
use Rattle.rbd_machine.specs.Orderly.{IsFirstObject, IsInLine, IsOrderly}
use Rattle.rbd_machine.specs.declared.stage.Stage.TheVariants as stage
use Rattle.rbd_machine.proofs.CourseSteps.{own_course, place_at, orderly_on_done, orderly_change}
use Rattle.rbd_meaning.specs.Range.{extent_at, out_of_range}
use Rattle.rbd_meaning.specs.Writes.{write_refuses}
use Rattle.rbd_pieces.specs.Write.{raising, writing}
use Rattle.rbd_data.specs.Write.{put_plan, write, write_pieces}
use Rattle.rbd_data.specs.Discard.{discard, zero, zero_in_turns}
use Rattle.rbd_catalog.specs.OrderlyParts.{never_none, orderly_zero, begins_in_no_line}

-- ---- the objects of its turns

-- the objects that its look under the lock tells are those of its pieces, since that look refuses
-- an extent that doesn't fit
pub objects_are : (e : Extent) (h : HeaderView) → write_refuses e h ≡ None
    → objects_within h e ≡ objects_of (pieces_of h.layout e)
objects_are e h may = go (fits e h.size) (or_else_none (non_primary h.role) (out_of_range e h.size) may)
  where
    go : (b : Bool) → cond b None (Some refusal.BadRange) ≡ None → cond b (objects_of (pieces_of h.layout e)) []
        ≡ objects_of (pieces_of h.layout e)
    go true none = refl
    go false none = absurd (never_none none)

-- ---- write, fill

-- at its turn a piece keeps to the line
orderly_raising : (e : Option Extent) (c : Course) → c.due ≡ []
    → (site : SiteId) (image : ℕ) (context : SnapContext) (piece : Piece) (bytes : List ℕ) (next : Plan)
    → IsOrderly e begins_in_no_line true c next → (fresh : Bool)
    → IsOrderly e begins_in_no_line fresh c (raising site image context piece bytes next)
orderly_raising e c none site image context piece bytes next orderly fresh = (
  none,
  λ raised can. orderly_on_done e begins_in_no_line c (writing site image context piece bytes next)
      (none, λ written can. orderly_on_done e begins_in_no_line c next orderly written) raised,
)

-- it takes its turns in the order of its pieces, and has the tickets that are left
orderly_pieces : (e : Option Extent) (pieces : List Piece) (site : SiteId) (image : ℕ) (h : HeaderView) (from : ℕ)
    (bytes : List ℕ) (fresh : Bool) (p : PlaceInLine) (turn : Option ℕ) (objects : List ℕ)
    → IsInLine site image (Some p) → objects_behind turn objects ≡ objects_of pieces
    → IsOrderly e begins_in_no_line fresh (record { place = Some p; turn = turn; due = []; objects = objects })
    (write_pieces site image h from bytes pieces (applied site image))
orderly_pieces e [] site image h from bytes fresh p turn objects in_line are = (in_line, tt)
orderly_pieces e (piece ∷ pieces) site image h from bytes fresh p turn objects in_line are = (
  subst (IsFirstObject piece.object) (sym are) refl,
  orderly_raising e (record {
    place = Some p;
    turn = Some piece.object;
    due = [];
    objects = objects_behind turn objects;
  }) refl site image (context_of h) piece _
      (write_pieces site image h from bytes pieces (applied site image))
      (orderly_pieces e pieces site image h from bytes true p (Some piece.object) (objects_behind turn objects) in_line
      (ap (objects_behind (Some piece.object)) are))
      false,
)

orderly_put : (site : SiteId) (from : ℕ) (bytes : List ℕ) (image : ℕ) (h : HeaderView)
    → write_refuses (extent_at from bytes) h ≡ None
    → IsOrderly (Some (extent_at from bytes)) begins_in_no_line true
    (own_course (Some (extent_at from bytes)) sharing.Shared site image h) (put_plan site from bytes image h)
orderly_put site from bytes image h may = (
  at_itself site image,
  orderly_pieces (Some (extent_at from bytes)) (pieces_of h.layout (extent_at from bytes)) site image h from bytes true
      (place_at sharing.Shared site image stage.Past) None
      (objects_within h (extent_at from bytes)) (at_itself site image) (objects_are (extent_at from bytes) h may),
)

pub orderly_write : (site : SiteId) (name : List ℕ) (from : ℕ) (bytes : List ℕ)
    → IsOrderly (Some (extent_at from bytes)) begins_in_no_line true beginning (write site name from bytes)
orderly_write site name from bytes =
    orderly_change (Some (extent_at from bytes)) begins_in_no_line site name sharing.Shared
    (write_refuses (extent_at from bytes)) (put_plan site from bytes)
    (λ image h form may. orderly_put site from bytes image h may)

pub orderly_fill : (site : SiteId) (name : List ℕ) (from len byte : ℕ)
    → IsOrderly (Some (record { at = from; len = len })) begins_in_no_line true beginning
    (write site name from (replicate len byte))
orderly_fill site name from len byte =
    subst (λ n. IsOrderly (Some (record { at = from; len = n })) begins_in_no_line true beginning
    (write site name from (replicate len byte)))
    (length-replicate len byte) (orderly_write site name from (replicate len byte))

-- ---- discard

-- it takes its turns in the order of its pieces, as a write does
orderly_zeros : (e : Option Extent) (pieces : List Piece) (site : SiteId) (image : ℕ) (h : HeaderView) (fresh : Bool)
    (p : PlaceInLine) (turn : Option ℕ) (objects : List ℕ)
    → IsInLine site image (Some p) → objects_behind turn objects ≡ objects_of pieces
    → IsOrderly e begins_in_no_line fresh (record { place = Some p; turn = turn; due = []; objects = objects })
    (zero_in_turns site image h pieces (applied site image))
orderly_zeros e [] site image h fresh p turn objects in_line are = (in_line, tt)
orderly_zeros e (piece ∷ pieces) site image h fresh p turn objects in_line are = (
  subst (IsFirstObject piece.object) (sym are) refl,
  orderly_zero e (record { place = Some p; turn = Some piece.object; due = []; objects = objects_behind turn objects })
      refl site image h piece
      (zero_in_turns site image h pieces (applied site image))
      (orderly_zeros e pieces site image h true p (Some piece.object) (objects_behind turn objects) in_line
      (ap (objects_behind (Some piece.object)) are))
      false,
)

pub orderly_discard : (site : SiteId) (name : List ℕ) (e : Extent)
    → IsOrderly (Some e) begins_in_no_line true beginning (discard site name e)
orderly_discard site name e =
    orderly_change (Some e) begins_in_no_line site name sharing.Discard (write_refuses e) (zero site e)
    (λ image h form may. (
      at_itself site image,
      orderly_zeros (Some e) (pieces_of h.layout e) site image h true
          (place_at sharing.Discard site image stage.Past) None (objects_within h e)
          (at_itself site image) (objects_are e h may),
    ))
