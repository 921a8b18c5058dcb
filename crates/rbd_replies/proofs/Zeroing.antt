-- Each piece that became zeros has its effect, whichever way it went; and a size that is set has
-- that of the pieces that a shrink zeros, and its own.
use Rattle.std.proofs.Common.{◌≡◌, ℕ, ◌+◌, ◌-◌, ◌≤◌, ◌<◌, cond, Bool, true, false, List, [], ◌∷◌, ◌++◌, map, Some, None, refl, sym, ap, ◌∙◌, subst, arith}
use Rattle.std.specs.Prelude.{All, nat_le}
use Rattle.std.proofs.lemmas.Bool.Decides.{nat_tests}
use Rattle.std.proofs.lemmas.List.Elements.{All-filter, All-head, All-tail}
use Rattle.rbd_flat.specs.declared.effect.Effect.TheVariants as effect
use Rattle.rbd_header.specs.Header.{context_of}
use Rattle.rbd_kinds.specs.declared.header.HeaderView.{HeaderView}
use Rattle.rbd_kinds.specs.declared.header.SnapContext.{SnapContext}
use Rattle.rbd_kinds.specs.declared.id.SiteId.{SiteId}
use Rattle.rbd_kinds.specs.declared.layout.Extent.{Extent}
use Rattle.rbd_kinds.specs.Striping.{IsLayout}
use Rattle.rbd_layout.proofs.Listed.{pieces_listed}
use Rattle.rbd_layout.specs.Pieces.{IsPartsOf, pieces_of}
use Rattle.rbd_layout.specs.declared.types.Piece.{Piece}
use Rattle.rbd_stands.specs.Condition.{AreWhole}
use Rattle.rbd_machine.specs.Path.{Answered}
use Rattle.rbd_pieces.proofs.AllBytes.{whole_is_all}
use Rattle.rbd_pieces.specs.Operations.{header_set_size, map_resize, map_set, done}
use Rattle.rbd_pieces.specs.Shrink.{piece_has_bytes, head_from, pieces_from}
use Rattle.rbd_pieces.specs.Size.{AreZeroed, IsResized, IsResizedBy, grown, shrunk, states_told}
use Rattle.rbd_pieces.specs.Zero.{all_zeroed, is_inside, is_whole, zeroed_by}
use Rattle.rbd_replies.specs.Places.{Placed, effects_of}
use Rattle.rbd_replies.specs.Zeroed.{SetsSize, zero_effect, zero_effects}
use Rattle.rbd_replies.proofs.Measured.{AllLike, effects_append, laid_there, like_back, like_front, empty_there, remove_there, zero_there}
use Rattle.rbd_replies.proofs.PlacedRight.{ArePlacedRight, IsPlacedRight, right_back, right_front}
use Rattle.rbd_replies.proofs.Places.{step_at}
use Rattle.rbd_replies.proofs.PlacesTaken.{change_first, none_taken, silent_first}
use Rattle.rbd_replies.proofs.PlacesTold.{effect_there}
use Rattle.rbd_replies.proofs.ReadShown.{Divides, divide, parts_within}

-- its parts are those of an extent, and each has its piece
abbrev pub ArePiecesIn : HeaderView → Extent → List Piece → Type 0
ArePiecesIn h e pieces = All (λ (p : Piece). IsPartsOf h.layout e p.object p.parts) pieces

module _ (homes : ℕ → SiteId) (home : SiteId) (image : ℕ) (h : HeaderView) where
  -- ---- one piece

  -- one change and the end
  last_change : (p : Placed) (places : List Placed) (piece : Piece) → p.done.effect ≡ Some (zero_effect image piece) → map step_at places ≡ [] → effects_of (p ∷ places) ≡ zero_effect image piece ∷ []
  last_change p places piece is none = change_first p places (zero_effect image piece) is ∙ ap (λ rest. zero_effect image piece ∷ effects_of rest) (none_taken places none)

  -- a state in the head's map has none
  setting_is_silent : (p : Placed) → IsPlacedRight homes p → (number state : ℕ) → step_at p ≡ done home (map_set image number state) → p.done.effect ≡ None
  setting_is_silent p right number state is = effect_there homes p right (done home (map_set image number state)) is

  pub all_there : (context : SnapContext) (piece : Piece) → AreWhole h piece.object piece.parts → (inside : Bool) (places : List Placed) → ArePlacedRight homes places → AllLike image h places
      → map step_at places ≡ all_zeroed home image context piece inside → effects_of places ≡ zero_effect image piece ∷ []
  all_there context piece whole false [] right like are = absurd (cc)
  all_there context piece whole false (p ∷ []) right like are = absurd (cc)
  all_there context piece whole false (p ∷ q ∷ []) right like are = absurd (cc)
  all_there context piece whole false (p ∷ q ∷ t ∷ places) right like are =
      silent_first p (q ∷ t ∷ places) (setting_is_silent p right.0 piece.object 2 cc)
      ∙ change_first q (t ∷ places) (zero_effect image piece) (remove_there homes home image h q right.1.0 like.1.0 context piece whole cc)
      ∙ ap (λ rest. zero_effect image piece ∷ rest) (silent_first t places (setting_is_silent t right.1.1.0 piece.object 0 cc) ∙ ap effects_of (none_taken places cc))
  all_there context piece whole true [] right like are = absurd (cc)
  all_there context piece whole true (p ∷ []) right like are = absurd (cc)
  all_there context piece whole true (p ∷ q ∷ places) right like are =
      silent_first p (q ∷ places) (setting_is_silent p right.0 piece.object 1 cc)
      ∙ last_change q places piece (empty_there homes home image h q right.1.0 like.1.0 context piece whole cc) cc

  module _ (e : Extent) (within : e.at + e.len ≤ h.size) (piece : Piece) (parts : IsPartsOf h.layout e piece.object piece.parts) where
    some_there : (context : SnapContext) (inside : Bool) (places : List Placed) → ArePlacedRight homes places → AllLike image h places
        → map step_at places ≡ zeroed_by home image context piece false inside → effects_of places ≡ zero_effect image piece ∷ []
    some_there context false [] right like are = absurd (cc)
    some_there context false (p ∷ places) right like are =
        last_change p places piece (zero_there homes home image h p right.0 like.0 context piece false (parts_within h e h.size piece.object piece within parts) cc) cc
    some_there context true [] right like are = absurd (cc)
    some_there context true (p ∷ []) right like are = absurd (cc)
    some_there context true (p ∷ q ∷ places) right like are =
        silent_first p (q ∷ places) (setting_is_silent p right.0 piece.object 1 cc)
        ∙ last_change q places piece (zero_there homes home image h q right.1.0 like.1.0 context piece true (parts_within h e h.size piece.object piece within parts) cc) cc

    piece_there : (whole : Bool) → is_whole h piece ≡ whole → (context : SnapContext) (inside : Bool) (places : List Placed) → ArePlacedRight homes places → AllLike image h places
        → map step_at places ≡ zeroed_by home image context piece whole inside → effects_of places ≡ zero_effect image piece ∷ []
    piece_there false is context inside places right like are = some_there context inside places right like are
    piece_there true is context inside [] right like are = absurd (nothing inside are)
      where
        nothing : (inside : Bool) → [] ≡ all_zeroed home image context piece inside → ⊥
        nothing false none = cc
        nothing true none = cc
    piece_there true is context inside (p ∷ places) right like are =
        all_there context piece ((whole_is_all h piece (laid_there homes home image h p right.0 like.0)).0 is) inside (p ∷ places) right like are

  -- ---- several

  pub zeros_there : (e : Extent) → e.at + e.len ≤ h.size → (pieces : List Piece) → ArePiecesIn h e pieces → (places : List Placed) → ArePlacedRight homes places → AllLike image h places
      → (steps : List Answered) → map step_at places ≡ steps → AreZeroed home image h pieces steps → effects_of places ≡ zero_effects image pieces
  zeros_there e within [] parts places right like steps are none = ap effects_of (none_taken places (are ∙ none))
  zeros_there e within (piece ∷ pieces) parts places right like steps are zeroed =
      let both = divide zeroed.first zeroed.others places (are ∙ zeroed.are) in
      let right_both : ArePlacedRight homes (both.front ++ both.back) = subst (ArePlacedRight homes) both.are right in
      let like_both : AllLike image h (both.front ++ both.back) = subst (AllLike image h) both.are like in
      let first = piece_there e within piece (All-head (λ (q : Piece). IsPartsOf h.layout e q.object q.parts) piece pieces parts) (is_whole h piece) refl (context_of h) (is_inside h piece.object)
      both.front (right_front homes both.front both.back right_both) (like_front image h both.front both.back like_both) (both.front_is ∙ zeroed.is_first) in
      let later = zeros_there e within pieces (All-tail (λ (q : Piece). IsPartsOf h.layout e q.object q.parts) piece pieces parts) both.back
      (right_back homes both.front both.back right_both) (like_back image h both.front both.back like_both) zeroed.others both.back_is zeroed.are_others in
      ap effects_of both.are ∙ effects_append both.front both.back ∙ ap (λ front. front ++ effects_of both.back) first ∙ ap (λ rest. zero_effect image piece ∷ rest) later

  -- ---- a size

  size_set : (p : Placed) (places : List Placed) (to : ℕ) → IsPlacedRight homes p → step_at p ≡ done home (header_set_size image to) → map step_at places ≡ []
      → effects_of (p ∷ places) ≡ effect.Size image to ∷ []
  size_set p places to right is none =
      change_first p places (effect.Size image to) (effect_there homes p right (done home (header_set_size image to)) is)
      ∙ ap (λ rest. effect.Size image to ∷ effects_of rest) (none_taken places none)

  cut_pieces : (to : ℕ) (bits : List ℕ) → ArePiecesIn h (head_from h to) (pieces_of h.layout (head_from h to)) → ArePiecesIn h (head_from h to) (pieces_from h to bits)
  cut_pieces to bits parts = All-filter (piece_has_bytes h bits) (λ (p : Piece). IsPartsOf h.layout (head_from h to) p.object p.parts) (pieces_of h.layout (head_from h to)) parts

  up_to_size : (to : ℕ) → nat_le h.size to ≡ false → to + (h.size - to) ≤ h.size
  up_to_size to shrinks = let less : to < h.size = grind (arith, nat_tests) in omega arith

  grown_there : (to objects : ℕ) (places : List Placed) → ArePlacedRight homes places → map step_at places ≡ grown home image to objects → effects_of places ≡ effect.Size image to ∷ []
  grown_there to objects [] right are = absurd (cc)
  grown_there to objects (p ∷ []) right are = absurd (cc)
  grown_there to objects (p ∷ q ∷ places) right are =
      let is : step_at p ≡ done home (map_resize image objects) = cc in
      let set : step_at q ≡ done home (header_set_size image to) = cc in
      let none : map step_at places ≡ [] = cc in
      silent_first p (q ∷ places) (effect_there homes p right.0 (done home (map_resize image objects)) is) ∙ size_set q places to right.1.0 set none

  sized_there : (to : ℕ) (places : List Placed) → ArePlacedRight homes places → map step_at places ≡ done home (header_set_size image to) ∷ [] → effects_of places ≡ effect.Size image to ∷ []
  sized_there to [] right are = absurd (cc)
  sized_there to (p ∷ places) right are =
      let set : step_at p ≡ done home (header_set_size image to) = cc in
      let none : map step_at places ≡ [] = cc in
      size_set p places to right.0 set none

  cut_and_sized : IsLayout h.layout → (to : ℕ) (bits : List ℕ) → nat_le h.size to ≡ false → (zeroed : List Answered) → AreZeroed home image h (pieces_from h to bits) zeroed
      → (places : List Placed) → ArePlacedRight homes places → AllLike image h places → Divides zeroed (done home (header_set_size image to) ∷ []) places
      → effects_of places ≡ zero_effects image (pieces_from h to bits) ++ effect.Size image to ∷ []
  cut_and_sized laid to bits shrinks zeroed are_zeroed places right like both =
      let right_both : ArePlacedRight homes (both.front ++ both.back) = subst (ArePlacedRight homes) both.are right in
      let like_both : AllLike image h (both.front ++ both.back) = subst (AllLike image h) both.are like in
      let zeros = zeros_there (head_from h to) (up_to_size to shrinks) (pieces_from h to bits) (cut_pieces to bits (pieces_listed h.layout laid (head_from h to)).parts) both.front
      (right_front homes both.front both.back right_both) (like_front image h both.front both.back like_both) zeroed both.front_is are_zeroed in
      ap effects_of both.are ∙ effects_append both.front both.back ∙ ap (λ front. front ++ effects_of both.back) zeros
      ∙ ap (λ back. zero_effects image (pieces_from h to bits) ++ back) (sized_there to both.back (right_back homes both.front both.back right_both) both.back_is)

  -- behind the states that the map told
  shrunk_there : IsLayout h.layout → (to : ℕ) (bits : List ℕ) → nat_le h.size to ≡ false → (zeroed : List Answered) → AreZeroed home image h (pieces_from h to bits) zeroed
      → (places : List Placed) → ArePlacedRight homes places → AllLike image h places → map step_at places ≡ shrunk home image to bits zeroed → effects_of places ≡ zero_effects image (pieces_from h to bits) ++ effect.Size image to ∷ []
  shrunk_there laid to bits shrinks zeroed are_zeroed [] right like are = absurd (cc)
  shrunk_there laid to bits shrinks zeroed are_zeroed (p ∷ places) right like are =
      let is : step_at p ≡ states_told home image bits = cc in
      silent_first p places (effect_there homes p right.0 (states_told home image bits) is)
      ∙ cut_and_sized laid to bits shrinks zeroed are_zeroed places right.1 like.1 (divide zeroed (done home (header_set_size image to) ∷ []) places cc)

  resized_by : IsLayout h.layout → (grows : Bool) (to objects : ℕ) → nat_le h.size to ≡ grows → (places : List Placed) → ArePlacedRight homes places → AllLike image h places
      → IsResizedBy grows home image h to objects (map step_at places) → SetsSize image h to (effects_of places)
  resized_by laid true to objects grows places right like are = record {
    bits = [];
    are =
        grown_there to objects places right are
        ∙ ap (λ b. zero_effects image (cond b [] (pieces_from h to [])) ++ effect.Size image to ∷ []) (sym grows);
  }
  resized_by laid false to objects grows places right like resized = record {
    bits = resized.bits;
    are =
        shrunk_there laid to resized.bits grows resized.zeroed resized.are_zeroed places right like resized.are
        ∙ ap (λ b. zero_effects image (cond b [] (pieces_from h to resized.bits)) ++ effect.Size image to ∷ []) (sym grows);
  }

  pub size_there : IsLayout h.layout → (to objects : ℕ) (places : List Placed) → ArePlacedRight homes places → AllLike image h places
      → IsResized home image h to objects (map step_at places) → SetsSize image h to (effects_of places)
  size_there laid to objects places right like resized = resized_by laid (nat_le h.size to) to objects refl places right like resized
