-- The last pass of a read shows the flat view's bytes.
use Rattle.std.proofs.Common.{◌≡◌, ℕ, List, [], ◌∷◌, ◌++◌, map, Option, Some, refl, sym, ap, ◌∙◌, subst}
use Rattle.rbd_kinds.specs.declared.header.HeaderView.{HeaderView}
use Rattle.rbd_kinds.specs.declared.id.SiteId.{SiteId}
use Rattle.rbd_kinds.specs.declared.layout.Extent.{Extent}
use Rattle.rbd_layout.specs.Pieces.{pieces_of}
use Rattle.rbd_layout.proofs.Listed.{pieces_listed}
use Rattle.rbd_machine.specs.Passes.{steps_of_passes}
use Rattle.rbd_machine.specs.Path.{Answered, found, looked_at}
use Rattle.rbd_meaning.specs.Reads.{ShowsAtLast, ShowsBetween, bytes_read}
use Rattle.rbd_world.specs.Run.{records_after}
use Rattle.rbd_replies.specs.Places.{Placed}
use Rattle.rbd_replies.specs.Reads.{ShowsBytes}
use Rattle.rbd_replies.proofs.PlacedRight.{ArePlacedRight, right_back, right_front}
use Rattle.rbd_replies.proofs.Places.{step_at}
use Rattle.rbd_replies.proofs.PlacesTaken.{begin_with, none_taken}
use Rattle.rbd_replies.proofs.PlacesTold.{found_there, header_there, looks_there, records_at}
use Rattle.rbd_replies.proofs.ReadNames.{IsViewOf, shape_of_named}
use Rattle.rbd_replies.proofs.ReadOrder.{AreOrdered, ordered_back}
use Rattle.rbd_replies.proofs.ReadParents.{views_alone}
use Rattle.rbd_replies.proofs.ReadShown.{divide, pieces_shown, there_at, within_size}
use Rattle.rbd_replies.proofs.WriteWhole.{range_fits}

-- the places of a pass, at the end of all
record PassPlaces (home : SiteId) (name : List ℕ) (image : ℕ) (h closing : HeaderView) (reads_of_it : List Answered) (places : List Placed) : Type 0 where
  earlier : List Placed
  one : Placed
  two : Placed
  reads : List Placed
  last : Placed
  are : places ≡ earlier ++ (one ∷ two ∷ (reads ++ last ∷ []))
  one_is : step_at one ≡ found home name image
  two_is : step_at two ≡ looked_at home image h
  reads_are : map step_at reads ≡ reads_of_it
  last_is : step_at last ≡ looked_at home image closing

place_then : (p : Placed) (places rest others : List Placed) → places ≡ p ∷ rest → rest ≡ others → places ≡ p ∷ others
place_then p places rest others are is = are ∙ ap (λ more. p ∷ more) is

front_then : (front places back others : List Placed) → places ≡ front ++ back → back ≡ others → places ≡ front ++ others
front_then front places back others are is = are ∙ ap (λ more. front ++ more) is

-- the closing look is the last place
record EndsWith (step : Answered) (steps : List Answered) (places : List Placed) : Type 0 where
  front : List Placed
  last : Placed
  are : places ≡ front ++ last ∷ []
  front_are : map step_at front ≡ steps
  last_is : step_at last ≡ step

end_with : (step : Answered) (steps : List Answered) (places : List Placed) → map step_at places ≡ steps ++ step ∷ [] → EndsWith step steps places
end_with step steps places are =
    let parts = divide steps (step ∷ []) places are in
    let end = begin_with step [] parts.back parts.back_is in
    record {
      front = parts.front;
      last = end.place;
      are = front_then parts.front places parts.back (end.place ∷ []) parts.are (place_then end.place parts.back end.rest [] end.are (none_taken end.rest end.others));
      front_are = parts.front_is;
      last_is = end.is;
    }

take_apart : (home : SiteId) (name : List ℕ) (image : ℕ) (h closing : HeaderView) (reads_of_it before : List Answered) (places : List Placed)
    → map step_at places ≡ before ++ (found home name image ∷ looked_at home image h ∷ (reads_of_it ++ looked_at home image closing ∷ []))
    → PassPlaces home name image h closing reads_of_it places
take_apart home name image h closing reads_of_it before places are =
    let parts = divide before (found home name image ∷ looked_at home image h ∷ (reads_of_it ++ looked_at home image closing ∷ [])) places are in
    let first = begin_with (found home name image) (looked_at home image h ∷ (reads_of_it ++ looked_at home image closing ∷ [])) parts.back parts.back_is in
    let second = begin_with (looked_at home image h) (reads_of_it ++ looked_at home image closing ∷ []) first.rest first.others in
    let end = end_with (looked_at home image closing) reads_of_it second.rest second.others in
    record {
      earlier = parts.front;
      one = first.place;
      two = second.place;
      reads = end.front;
      last = end.last;
      are =
          front_then parts.front places parts.back (first.place ∷ second.place ∷ (end.front ++ end.last ∷ [])) parts.are
          (place_then first.place parts.back first.rest (second.place ∷ (end.front ++ end.last ∷ [])) first.are
          (place_then second.place first.rest second.rest (end.front ++ end.last ∷ []) second.are end.are));
      one_is = first.is;
      two_is = second.is;
      reads_are = end.front_are;
      last_is = end.last_is;
    }

module _ (homes : ℕ → SiteId) (home : SiteId) (name : List ℕ) (snap : Option (List ℕ)) (e : Extent) (bytes : List ℕ) where
  pass_shown : (earlier : List Placed) (one two last : Placed) (reads : List Placed) (steps : List Answered) (shows : ShowsBetween home name snap e steps bytes)
      → ArePlacedRight homes (one ∷ two ∷ (reads ++ last ∷ [])) → AreOrdered (one ∷ two ∷ (reads ++ last ∷ []))
      → step_at one ≡ found home name shows.pass.image → step_at two ≡ looked_at home shows.pass.image shows.pass.first
      → map step_at reads ≡ shows.pass.reads → step_at last ≡ looked_at home shows.pass.image shows.closing
      → ShowsBytes name snap e bytes (earlier ++ (one ∷ two ∷ (reads ++ last ∷ [])))
  pass_shown earlier one two last reads steps shows right ordered one_is two_is reads_are last_is =
      let image = shows.pass.image in
      let h = shows.pass.first in
      let view = shows.pass.view in
      let two_right = right.1.0 in
      let reads_right = right_front homes reads (last ∷ []) right.1.1 in
      let last_right = (right_back homes reads (last ∷ []) right.1.1).0 in
      let two_there : (records_at two).headers image ≡ Some h = there_at homes two two_right home image h two_is in
      let last_there : (records_at last).headers image ≡ Some shows.closing = there_at homes last last_right home image shows.closing last_is in
      let two_home : two.done.site ≡ home = ap (λ (s : Answered). s.site) two_is in
      let last_home : last.done.site ≡ home = ap (λ (s : Answered). s.site) last_is in
      let form = two_right.standing.form.form image h two_there in
      let viewed : IsViewOf h view = shape_of_named h snap view form.rising (views_alone homes two.done.site two.before two_right.right image h two_there) shows.pass.viewed in
      record {
        earlier = earlier;
        found = one;
        first = two;
        reads = reads;
        closing = last;
        are = refl;
        image = image;
        named = found_there homes one right.0 home name image one_is;
        header = h;
        looked = looks_there two home image h two_is;
        tells = header_there homes two two_right home image h two_is;
        again = shows.closing;
        looked_again = looks_there last home image shows.closing last_is;
        tells_again = header_there homes last last_right home image shows.closing last_is;
        generation = shows.same;
        view = view;
        viewed = shows.pass.viewed;
        within = range_fits e view.size shows.pass.fits;
        read = bytes_read home image view.snap (pieces_of h.layout e) shows.pass.reads shows.pass.read;
        pieces =
            pieces_shown homes home image h e view viewed (within_size e view.size (range_fits e view.size shows.pass.fits)) two last two_home last_home last_right shows.closing
            (subst (λ s. (records_after s two.before).headers image ≡ Some h) two_home two_there)
            (subst (λ s. (records_after s last.before).headers image ≡ Some shows.closing) last_home last_there)
            shows.same (pieces_of h.layout e) reads (pieces_listed h.layout form.layout e).parts reads_right ordered.1.0 ordered.1.1 shows.pass.reads reads_are shows.pass.read;
        shows = shows.shows;
      }

  whole_shown : (places : List Placed) → ArePlacedRight homes places → AreOrdered places → (steps : List Answered) (shows : ShowsBetween home name snap e steps bytes)
      → PassPlaces home name shows.pass.image shows.pass.first shows.closing shows.pass.reads places → ShowsBytes name snap e bytes places
  whole_shown places right ordered steps shows at =
      let pass = at.one ∷ at.two ∷ (at.reads ++ at.last ∷ []) in
      subst (ShowsBytes name snap e bytes) (sym at.are)
      (pass_shown at.earlier at.one at.two at.last at.reads steps shows
      (right_back homes at.earlier pass (subst (ArePlacedRight homes) at.are right))
      (ordered_back at.earlier pass (subst AreOrdered at.are ordered))
      at.one_is at.two_is at.reads_are at.last_is)

  pub shows_at_places : (places : List Placed) → ArePlacedRight homes places → AreOrdered places → ShowsAtLast home name snap e (map step_at places) bytes → ShowsBytes name snap e bytes places
  shows_at_places places right ordered shows =
      whole_shown places right ordered shows.pass shows.shows
      (take_apart home name shows.shows.pass.image shows.shows.pass.first shows.shows.closing shows.shows.pass.reads (steps_of_passes shows.passes) places
      (shows.are ∙ ap (λ pass. steps_of_passes shows.passes ++ pass) shows.shows.pass.are))
