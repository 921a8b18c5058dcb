-- What `ls`, `info`, `snap ls` and `du` show is the flat site's at their places.
use Rattle.std.proofs.Common.{◌≡◌, ℕ, List, [], ◌∷◌, map, Option, Some, None, refl, sym, ap, subst}
use Rattle.rbd_flat.specs.Flat.{FlatImage, image_at}
use Rattle.rbd_kinds.specs.declared.header.HeaderView.{HeaderView}
use Rattle.rbd_kinds.specs.declared.header.SnapView.{SnapView}
use Rattle.rbd_kinds.specs.declared.id.SiteId.{SiteId}
use Rattle.rbd_kinds.specs.declared.reply.Reply.TheVariants as reply
use Rattle.rbd_kinds.specs.Striping.{IsObjectCount}
use Rattle.rbd_machine.specs.Path.{Answered, found, looked_at}
use Rattle.rbd_meaning.specs.Listings.{ShowsHeader, ShowsUsed as ShowsUsedBy, names_told, shown_snaps}
use Rattle.rbd_meaning.specs.Snaps.{map_told}
use Rattle.rbd_stands.specs.Reading.{IsToldBy, TellsFlatImage}
use Rattle.rbd_replies.proofs.PlacedRight.{ArePlacedRight}
use Rattle.rbd_replies.proofs.Places.{step_at}
use Rattle.rbd_replies.proofs.PlacesTaken.{none_taken}
use Rattle.rbd_replies.proofs.PlacesTold.{found_there, header_there, listed_there, looks_there}
use Rattle.rbd_replies.specs.Listed.{ListsNames, ShowsImage, ShowsSnaps, ShowsUsedAt}
use Rattle.rbd_replies.specs.Places.{Placed, flat_at}

-- a flat image that a header tells
record IsToldThere (h : HeaderView) (flat : Option FlatImage) : Type 0 where
  i : FlatImage
  is : flat ≡ Some i
  told : IsToldBy h i

module _ (homes : ℕ → SiteId) where
  pub lists_names : (places : List Placed) → ArePlacedRight homes places → (site : SiteId) (names : List (List ℕ)) → map step_at places ≡ names_told site names ∷ []
      → ListsNames names places
  lists_names [] right site names are = absurd (cc)
  lists_names (p ∷ places) (here, right) site names are = record {
    at_place = p;
    are = ap (λ rest. p ∷ rest) (none_taken places cc);
    names_are = listed_there homes p here site names cc;
  }

  pub shows_image : (places : List Placed) → ArePlacedRight homes places → (site : SiteId) (name : List ℕ) (image : ℕ) (h : HeaderView)
      → map step_at places ≡ found site name image ∷ looked_at site image h ∷ [] → ShowsImage name h places
  shows_image [] right site name image h are = absurd (cc)
  shows_image (p ∷ []) right site name image h are = absurd (cc)
  shows_image (p ∷ q ∷ places) (here, (there, right)) site name image h are = record {
    found = p;
    look = q;
    are = ap (λ rest. p ∷ q ∷ rest) (none_taken places cc);
    image = image;
    named = found_there homes p here site name image cc;
    looked = looks_there q site image h cc;
    tells = header_there homes q there site image h cc;
  }

  pub info_shows : (places : List Placed) → ArePlacedRight homes places → (site : SiteId) (name : List ℕ) (h : HeaderView)
      → ShowsHeader site name reply.Info (reply.Info h) (map step_at places) → ShowsImage name h places
  info_shows places right site name h shows =
      let same : h ≡ shows.header = let e = shows.shows in cc in
      subst (λ k. ShowsImage name k places) (sym same) (shows_image places right site name shows.image shows.header shows.are)

  pub snaps_show : (places : List Placed) → ArePlacedRight homes places → (site : SiteId) (name : List ℕ) (snaps : List SnapView)
      → ShowsHeader site name shown_snaps (reply.Snaps snaps) (map step_at places) → ShowsSnaps name snaps places
  snaps_show places right site name snaps shows = record {
    header = shows.header;
    shows = shows_image places right site name shows.image shows.header shows.are;
    snaps_are = let e = shows.shows in cc;
  }

  -- ---- du

  told_flat : (flat : Option FlatImage) (h : HeaderView) → TellsFlatImage h flat → IsToldThere h flat
  told_flat None h tells = absurd tells
  told_flat (Some i) h tells = record { i = i; is = refl; told = tells }

  pub used_shows : (places : List Placed) → ArePlacedRight homes places → (site : SiteId) (name : List ℕ) (used of : ℕ) → ShowsUsedBy site name used of (map step_at places) → ShowsUsedAt name used of places
  used_shows places right site name used of shows = told_at places right shows.are
    where
      told_at : (places : List Placed) → ArePlacedRight homes places
          → map step_at places ≡ found site name shows.image ∷ looked_at site shows.image shows.header ∷ map_told site shows.image shows.bits ∷ [] → ShowsUsedAt name used of places
      told_at [] right are = absurd (cc)
      told_at (p ∷ []) right are = absurd (cc)
      told_at (p ∷ q ∷ []) right are = absurd (cc)
      told_at (p ∷ q ∷ t ∷ places) (here, (there, (told, right))) are =
          let one : step_at p ≡ found site name shows.image = cc in
          let two : step_at q ≡ looked_at site shows.image shows.header = cc in
          let three : step_at t ≡ map_told site shows.image shows.bits = cc in
          let none : places ≡ [] = none_taken places cc in
          let flat = told_flat (image_at (flat_at q) shows.image) shows.header (header_there homes q there site shows.image shows.header two) in
          record {
            found = p;
            look = q;
            told = t;
            are = ap (λ rest. p ∷ q ∷ t ∷ rest) none;
            image = shows.image;
            named = found_there homes p here site name shows.image one;
            header = shows.header;
            looked = looks_there q site shows.image shows.header two;
            flat = flat.i;
            is = flat.is;
            tells = flat.told;
            of_is = subst (λ size. IsObjectCount shows.header.layout size of) (sym flat.told.size) shows.of_is;
            bits = shows.bits;
            asks = ap (λ (s : Answered). s.op) three;
            answered = ap (λ (s : Answered). s.answer) three;
            used_is = shows.used_is;
          }
