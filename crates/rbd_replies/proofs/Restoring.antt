-- Each object that became what it was at a snapshot was read there, and its head has the effect of
-- the bytes that were read.
use Rattle.std.proofs.Common.{◌≡◌, ℕ, List, [], ◌∷◌, ◌++◌, map, Some, option_map, unwrap_or, refl, sym, ap, ◌∙◌, subst, arith}
use Rattle.std.specs.Prelude.{IsSome}
use Rattle.std.proofs.lemmas.List.Elements.{All-head, All-tail}
use Rattle.rbd_flat.specs.declared.effect.Effect.TheVariants as effect
use Rattle.rbd_header.specs.Header.{context_of, snap_in}
use Rattle.rbd_header.specs.declared.view.View.{View}
use Rattle.rbd_kinds.specs.declared.answer.Answer.{Answer}
use Rattle.rbd_kinds.specs.declared.header.HeaderView.{HeaderView}
use Rattle.rbd_kinds.specs.declared.header.SnapView.{SnapView}
use Rattle.rbd_kinds.specs.declared.id.SiteId.{SiteId}
use Rattle.rbd_kinds.specs.Header.{snap_named}
use Rattle.rbd_layout.specs.Pieces.{IsPartsOf}
use Rattle.rbd_layout.specs.declared.types.Piece.{Piece}
use Rattle.rbd_machine.specs.Objects.{data_read}
use Rattle.rbd_machine.specs.Path.{Answered}
use Rattle.rbd_meaning.specs.Reads.{bytes_shown}
use Rattle.rbd_meaning.specs.Rollbacks.{AreRestored, IsRestored}
use Rattle.rbd_stands.specs.Condition.{extents_of}
use Rattle.rbd_stands.specs.View.{shape_of_snap}
use Rattle.rbd_pieces.specs.Full.{cut_bytes, replaced_by}
use Rattle.rbd_pieces.specs.Operations.{data_write_full, map_set, done}
use Rattle.rbd_pieces.specs.Zero.{head_of, is_inside}
use Rattle.rbd_replies.specs.Places.{Placed, effects_of, with_effect}
use Rattle.rbd_replies.specs.Reads.{TellsFlatPiece}
use Rattle.rbd_replies.specs.RolledBack.{RestoresAll, RestoresFirst, replacing_effect}
use Rattle.rbd_replies.proofs.Measured.{AllLike, IsLike, below_there, like_back, like_front, replace_there}
use Rattle.rbd_replies.proofs.PlacedRight.{ArePlacedRight, IsPlacedRight, right_back, right_front}
use Rattle.rbd_replies.proofs.Places.{step_at}
use Rattle.rbd_replies.proofs.PlacesTaken.{BeginWith, begin_with, change_first, none_taken, silent_first}
use Rattle.rbd_replies.proofs.PlacesTold.{effect_there, records_at}
use Rattle.rbd_replies.proofs.ReadNames.{IsViewOf, named_has_id}
use Rattle.rbd_replies.proofs.ReadParents.{views_alone}
use Rattle.rbd_replies.proofs.ReadPiece.{piece_shown}
use Rattle.rbd_replies.proofs.ReadShown.{Divides, divide, parts_within, shown_there}
use Rattle.rbd_replies.proofs.RefusalsNothing.{look_does_nothing}
use Rattle.rbd_replies.proofs.Zeroing.{ArePiecesIn, all_there}

-- the head at the snapshot's size, and the snapshot that it lists under a name
module _ (homes : ℕ → SiteId) (home : SiteId) (image : ℕ) (h : HeaderView) (snap : List ℕ) (listed : SnapView) (is_listed : snap_named h.snaps snap ≡ Some listed) (long : h.size ≡ listed.size) where
  -- ---- what is read

  abbrev view : View
  view = record { snap = Some listed.id; size = listed.size }

  -- its view is the snapshot's
  viewed_there : (p : Placed) → IsPlacedRight homes p → (like : IsLike h ((records_at p).headers image)) → IsViewOf like.view view
  viewed_there p right like =
      let form = right.standing.form.form image like.view like.is in
      let named : snap_named like.view.snaps snap ≡ Some listed = ap (λ snaps. snap_named snaps snap) like.snaps ∙ is_listed in
      let by_id : snap_in like.view.snaps listed.id ≡ Some listed = named_has_id like.view.snap_seq like.view.snaps snap listed form.rising named in
      record {
        shape = shape_of_snap listed;
        is = ap (option_map shape_of_snap) by_id;
        size = refl;
        no_parent = (views_alone homes p.done.site p.before right.right image like.view like.is).snap listed.id listed by_id;
      }

  told_there : (p : Placed) (piece : Piece) (a : Answer) (bytes : List ℕ) → IsPlacedRight homes p → IsLike h ((records_at p).headers image) → IsPartsOf h.layout (head_of h) piece.object piece.parts
      → step_at p ≡ record { site = home; op = data_read image (Some listed.id) piece; answer = a } → bytes_shown piece.parts a ≡ Some bytes → TellsFlatPiece image (Some listed.id) piece bytes p
  told_there p piece a bytes right like parts is shown =
      let told : p.done.answer ≡ a = ap (λ (s : Answered). s.answer) is in
      let some : bytes_shown piece.parts p.done.answer ≡ Some bytes = ap (bytes_shown piece.parts) told ∙ shown in
      let below = below_there homes home image h p right like listed.size piece.object piece.parts (parts_within h (head_of h) listed.size piece.object piece (omega (arith, long)) parts) in
      subst (λ b. TellsFlatPiece image (Some listed.id) piece b p) (ap (λ o. unwrap_or o []) some)
      (piece_shown homes home image like.view view (viewed_there p right like) p piece right like.is below (ap (λ (s : Answered). s.op) is) (subst IsSome (sym some) refl))

  -- ---- what replaces it

  replaced_there : (piece : Piece) → IsPartsOf h.layout (head_of h) piece.object piece.parts → (left : List ℕ) (places : List Placed) → ArePlacedRight homes places → AllLike image h places
      → map step_at places ≡ replaced_by home image h piece left → effects_of places ≡ replacing_effect image piece left ∷ []
  replaced_there piece whole [] places right like are = all_there homes home image h (context_of h) piece whole (is_inside h piece.object) places right like are
  replaced_there piece whole (byte ∷ left) [] right like are = absurd (cc)
  replaced_there piece whole (byte ∷ left) (p ∷ []) right like are = absurd (cc)
  replaced_there piece whole (byte ∷ left) (p ∷ q ∷ places) right like are =
      let set : step_at p ≡ done home (map_set image piece.object 1) = cc in
      let full : step_at q ≡ done home (data_write_full image (context_of h) piece.object (byte ∷ left)) = cc in
      let none : map step_at places ≡ [] = cc in
      silent_first p (q ∷ places) (effect_there homes p right.0 (done home (map_set image piece.object 1)) set)
      ∙ change_first q places (effect.Piece image (extents_of piece.parts) (byte ∷ left)) (replace_there homes home image h q right.1.0 like.1.0 (context_of h) piece (byte ∷ left) whole full)
      ∙ ap (λ rest. effect.Piece image (extents_of piece.parts) (byte ∷ left) ∷ effects_of rest) (none_taken places none)

  -- ---- one after another

  module _ (piece : Piece) (parts : IsPartsOf h.layout (head_of h) piece.object piece.parts) (AreOthers : List Placed → Type 0) (others : List Answered)
      (later : (places : List Placed) → ArePlacedRight homes places → AllLike image h places → map step_at places ≡ others → AreOthers places)
      (first : List Answered) (is_first : IsRestored home image h listed.id piece first) where
    restored_at : (places : List Placed) → ArePlacedRight homes places → AllLike image h places
        → (one : BeginWith (record { site = home; op = data_read image (Some listed.id) piece; answer = is_first.read.answer }) (is_first.replacing ++ others) places)
        → (both : Divides is_first.replacing others one.rest) → RestoresFirst AreOthers image listed.id piece places
    restored_at places right like one both =
        let right_one : ArePlacedRight homes (one.place ∷ one.rest) = subst (ArePlacedRight homes) one.are right in
        let like_one : AllLike image h (one.place ∷ one.rest) = subst (AllLike image h) one.are like in
        let right_both : ArePlacedRight homes (both.front ++ both.back) = subst (ArePlacedRight homes) both.are right_one.1 in
        let like_both : AllLike image h (both.front ++ both.back) = subst (AllLike image h) both.are like_one.1 in
        record {
          reading = one.place ∷ [];
          replaced = both.front;
          others = both.back;
          are = one.are ∙ ap (λ rest. one.place ∷ rest) both.are;
          bytes = is_first.read.bytes;
          shown = record {
            own = one.place;
            above = [];
            are = refl;
            shown = shown_there one.place image (Some listed.id) piece is_first.read.answer is_first.read.bytes is_first.read.shown home one.is;
            shows = refl;
            tells = told_there one.place piece is_first.read.answer is_first.read.bytes right_one.0 like_one.0 parts one.is is_first.read.shown;
          };
          silent =
              ap (λ e. with_effect e [])
              (effect_there homes one.place right_one.0 (record { site = home; op = data_read image (Some listed.id) piece; answer = is_first.read.answer }) one.is
              ∙ look_does_nothing ((records_at one.place).headers image) (data_read image (Some listed.id) piece) is_first.read.answer refl);
          effects = replaced_there piece parts (cut_bytes is_first.read.bytes) both.front (right_front homes both.front both.back right_both) (like_front image h both.front both.back like_both) (both.front_is ∙ is_first.is_replaced);
          are_others = later both.back (right_back homes both.front both.back right_both) (like_back image h both.front both.back like_both) both.back_is;
        }

  pub all_restored : (pieces : List Piece) → ArePiecesIn h (head_of h) pieces → (steps : List Answered) → AreRestored home image h listed.id pieces steps
      → (places : List Placed) → ArePlacedRight homes places → AllLike image h places → map step_at places ≡ steps → RestoresAll image listed.id pieces places
  all_restored [] parts steps none places right like are = none_taken places (are ∙ none)
  all_restored (piece ∷ pieces) parts steps restored places right like are =
      let first = restored.is_first in
      let all : map step_at places ≡ record { site = home; op = data_read image (Some listed.id) piece; answer = first.read.answer } ∷ (first.replacing ++ restored.others) =
      are ∙ restored.are ∙ ap (λ front. front ++ restored.others) (first.are ∙ ap (λ reading. reading ++ first.replacing) first.read.are) in
      let one = begin_with (record { site = home; op = data_read image (Some listed.id) piece; answer = first.read.answer }) (first.replacing ++ restored.others) places all in
      restored_at piece (All-head (λ (q : Piece). IsPartsOf h.layout (head_of h) q.object q.parts) piece pieces parts) (RestoresAll image listed.id pieces) restored.others
      (all_restored pieces (All-tail (λ (q : Piece). IsPartsOf h.layout (head_of h) q.object q.parts) piece pieces parts) restored.others restored.are_others)
      restored.first first places right like one (divide first.replacing restored.others one.rest one.others)
