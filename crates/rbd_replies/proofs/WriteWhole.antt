-- A write that is done wrote its pieces to the flat image, at their places, and nothing else.
use Rattle.std.proofs.Common.{◌≡◌, ℕ, cond, Bool, true, false, List, [], ◌∷◌, map, Some, None, refl, ◌∙◌}
use Rattle.rbd_kinds.specs.declared.id.SiteId.{SiteId}
use Rattle.rbd_kinds.specs.declared.layout.Extent.{Extent}
use Rattle.rbd_commands.specs.declared.refusal.Refusal.TheVariants as refusal
use Rattle.rbd_kinds.specs.Extents.{fits}
use Rattle.rbd_layout.specs.Pieces.{pieces_of}
use Rattle.rbd_machine.specs.Path.{found, looked_at}
use Rattle.rbd_machine.specs.Steps.{non_primary}
use Rattle.rbd_machine.proofs.Lawful.{or_else_none}
use Rattle.rbd_meaning.specs.Range.{extent_at, out_of_range}
use Rattle.rbd_meaning.specs.Writes.{WritesWhole}
use Rattle.rbd_replies.specs.Changed.{Writes}
use Rattle.rbd_replies.specs.Places.{Placed}
use Rattle.rbd_replies.proofs.PlacedRight.{ArePlacedRight}
use Rattle.rbd_replies.proofs.Places.{step_at}
use Rattle.rbd_replies.proofs.PlacesTaken.{silent_first}
use Rattle.rbd_replies.proofs.PlacesTold.{finding_is_silent, found_there, header_there, looking_is_silent, looks_there}
use Rattle.rbd_replies.proofs.WritePieces.{pieces_there}

pub range_fits : (e : Extent) (size : ℕ) → out_of_range e size ≡ None → fits e size ≡ true
range_fits e size none = by (fits e size) none
  where
    by : (b : Bool) → cond b None (Some refusal.BadRange) ≡ None → b ≡ true
    by true none = refl
    by false none = cc

pub writes_at_places : (homes : ℕ → SiteId) (home : SiteId) (name : List ℕ) (at : ℕ) (bytes : List ℕ) (places : List Placed) → ArePlacedRight homes places
    → WritesWhole home name at bytes (map step_at places) → Writes name at bytes places
writes_at_places homes home name at bytes [] right whole = let are = whole.are in cc
writes_at_places homes home name at bytes (one ∷ []) right whole = let are = whole.are in cc
writes_at_places homes home name at bytes (one ∷ two ∷ []) right whole = let are = whole.are in cc
writes_at_places homes home name at bytes (one ∷ two ∷ three ∷ rest) (right, (also, (third, others))) whole =
    let are = whole.are in
    let is_one : step_at one ≡ found home name whole.image = cc in
    let is_two : step_at two ≡ looked_at home whole.image whole.first = cc in
    let is_three : step_at three ≡ looked_at home whole.image whole.own = cc in
    let written : map step_at rest ≡ whole.written = cc in
    record {
      finds = record {
        found = one;
        first = two;
        own = three;
        rest = rest;
        are = refl;
        image = whole.image;
        named = found_there homes one right home name whole.image is_one;
        header = whole.own;
        looked = looks_there three home whole.image whole.own is_three;
        tells = header_there homes three third home whole.image whole.own is_three;
      };
      within = range_fits (extent_at at bytes) whole.own.size (or_else_none (non_primary whole.own.role) (out_of_range (extent_at at bytes) whole.own.size) whole.may);
      effects =
          silent_first one (two ∷ three ∷ rest) (finding_is_silent homes one right home name whole.image is_one)
          ∙ silent_first two (three ∷ rest) (looking_is_silent homes two also home whole.image whole.first is_two)
          ∙ silent_first three rest (looking_is_silent homes three third home whole.image whole.own is_three)
          ∙ pieces_there homes home whole.image whole.own at bytes (pieces_of whole.own.layout (extent_at at bytes)) rest others whole.written written whole.are_written;
    }
