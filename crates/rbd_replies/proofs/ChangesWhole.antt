-- What `discard`, `resize` and `snap rollback` did, and that they did nothing else, where the
-- header stays what their look under the lock told but for their own changes.
use Rattle.std.proofs.Common.{◌≡◌, ℕ, true, List, [], ◌∷◌, ◌++◌, length, map, Some, refl, sym, ap, ◌∙◌, subst}
use Rattle.rbd_flat.specs.Flat.{image_at}
use Rattle.rbd_flat.specs.declared.effect.Effect.{Effect}
use Rattle.rbd_kinds.specs.Extents.{fits}
use Rattle.rbd_kinds.specs.declared.header.HeaderView.{HeaderView}
use Rattle.rbd_kinds.specs.declared.id.SiteId.{SiteId}
use Rattle.rbd_kinds.specs.declared.layout.Extent.{Extent}
use Rattle.rbd_kinds.specs.Form.{AreRising}
use Rattle.rbd_kinds.specs.Header.{snap_named}
use Rattle.rbd_kinds.specs.Striping.{IsLayout}
use Rattle.rbd_layout.proofs.Listed.{pieces_listed}
use Rattle.rbd_layout.specs.Pieces.{pieces_of}
use Rattle.rbd_machine.proofs.Lawful.{or_else_none}
use Rattle.rbd_machine.specs.Path.{Answered, found, looked_at}
use Rattle.rbd_machine.specs.Steps.{non_primary}
use Rattle.rbd_meaning.specs.Discards.{DiscardsWhole}
use Rattle.rbd_meaning.specs.Range.{out_of_range}
use Rattle.rbd_meaning.specs.Resizes.{ResizesWhole}
use Rattle.rbd_meaning.specs.Rollbacks.{RollsBack, at_size}
use Rattle.rbd_stands.specs.Reading.{IsToldBy, TellsFlatImage}
use Rattle.rbd_pieces.specs.Size.{IsResized}
use Rattle.rbd_pieces.specs.Zero.{head_of}
use Rattle.rbd_replies.specs.Changed.{FindsImage}
use Rattle.rbd_replies.specs.Places.{Placed, effects_of, flat_at}
use Rattle.rbd_replies.specs.RolledBack.{RestoresAll, RollsBackTo}
use Rattle.rbd_replies.specs.Zeroed.{Discards, Resizes, SetsSize, zero_effects}
use Rattle.rbd_replies.proofs.ChangesDone.{listed_flat}
use Rattle.rbd_replies.proofs.FlatSnaps.{as_long}
use Rattle.rbd_replies.proofs.Measured.{AllLike, effects_append}
use Rattle.rbd_replies.proofs.PlacedRight.{ArePlacedRight, right_back, right_front}
use Rattle.rbd_replies.proofs.Places.{step_at}
use Rattle.rbd_replies.proofs.PlacesTaken.{silent_first}
use Rattle.rbd_replies.proofs.PlacesTold.{finding_is_silent, found_there, header_there, looking_is_silent, looks_there}
use Rattle.rbd_replies.proofs.ReadShown.{Divides, there_at, within_size}
use Rattle.rbd_replies.proofs.Restoring.{all_restored}
use Rattle.rbd_replies.proofs.WriteWhole.{range_fits}
use Rattle.rbd_replies.proofs.Zeroing.{size_there, zeros_there}

-- ---- the way of a change

-- the places of a change: those of its way, and those behind
pub record Goes (homes : ℕ → SiteId) (home : SiteId) (name : List ℕ) (image : ℕ) (own : HeaderView) (behind : List Answered) (places : List Placed) : Type 0 where
  pub found : Placed
  pub first : Placed
  pub look : Placed
  pub rest : List Placed
  pub are : places ≡ found ∷ first ∷ look ∷ rest
  pub right : ArePlacedRight homes rest
  pub rest_is : map step_at rest ≡ behind
  pub finds : FindsImage name places
  pub image_is : finds.image ≡ image
  pub header_is : finds.header ≡ own
  pub own_is : finds.own ≡ look
  pub behind_is : finds.rest ≡ rest
  pub laid : IsLayout own.layout
  pub rising : AreRising own.snap_seq own.snaps
  pub silent : effects_of places ≡ effects_of rest

module _ (homes : ℕ → SiteId) (home : SiteId) where
  pub goes_at : (places : List Placed) → ArePlacedRight homes places → (name : List ℕ) (image : ℕ) (first own : HeaderView) (behind : List Answered)
      → map step_at places ≡ found home name image ∷ looked_at home image first ∷ looked_at home image own ∷ behind → Goes homes home name image own behind places
  goes_at [] right name image first own behind are = absurd (cc)
  goes_at (p ∷ []) right name image first own behind are = absurd (cc)
  goes_at (p ∷ q ∷ []) right name image first own behind are = absurd (cc)
  goes_at (p ∷ q ∷ s ∷ places) (here, (there, (look, right))) name image first own behind are =
      let one : step_at p ≡ found home name image = cc in
      let two : step_at q ≡ looked_at home image first = cc in
      let three : step_at s ≡ looked_at home image own = cc in
      record {
        found = p;
        first = q;
        look = s;
        rest = places;
        are = refl;
        right = right;
        rest_is = cc;
        finds = record {
          found = p;
          first = q;
          own = s;
          rest = places;
          are = refl;
          image = image;
          named = found_there homes p here home name image one;
          header = own;
          looked = looks_there s home image own three;
          tells = header_there homes s look home image own three;
        };
        image_is = refl;
        header_is = refl;
        own_is = refl;
        behind_is = refl;
        laid = (look.standing.form.form image own (there_at homes s look home image own three)).layout;
        rising = (look.standing.form.form image own (there_at homes s look home image own three)).rising;
        silent =
            silent_first p (q ∷ s ∷ places) (finding_is_silent homes p here home name image one)
            ∙ silent_first q (s ∷ places) (looking_is_silent homes q there home image first two)
            ∙ silent_first s places (looking_is_silent homes s look home image own three);
      }

  -- ---- discard

  pub discard_discards : (places : List Placed) → ArePlacedRight homes places → (name : List ℕ) (e : Extent) (whole : DiscardsWhole home name e (map step_at places))
      → ((goes : Goes homes home name whole.image whole.own whole.zeroed places) → AllLike whole.image whole.own goes.rest) → Discards name e places
  discard_discards places right name e whole like =
      let goes = goes_at places right name whole.image whole.first whole.own _ whole.are in
      let within : fits e whole.own.size ≡ true = range_fits e whole.own.size (or_else_none (non_primary whole.own.role) (out_of_range e whole.own.size) whole.may) in
      let zeros = zeros_there homes home whole.image whole.own e (within_size e whole.own.size within) (pieces_of whole.own.layout e) (pieces_listed whole.own.layout goes.laid e).parts
      goes.rest goes.right (like goes) whole.zeroed goes.rest_is whole.are_zeroed in
      record {
        finds = goes.finds;
        within = ap (λ (h : HeaderView). fits e h.size) goes.header_is ∙ within;
        effects =
            goes.silent ∙ zeros ∙ ap (λ image. zero_effects image (pieces_of whole.own.layout e)) (sym goes.image_is)
            ∙ ap (λ (h : HeaderView). zero_effects goes.finds.image (pieces_of h.layout e)) (sym goes.header_is);
      }

  -- ---- resize

  sets_as : (to : ℕ) (image other : ℕ) (h also : HeaderView) (effects those : List Effect) → other ≡ image → also ≡ h → those ≡ effects → SetsSize image h to effects → SetsSize other also to those
  sets_as to image other h also effects those is_image is_header are sets =
      subst (SetsSize other also to) (sym are) (subst (λ (x : HeaderView). SetsSize other x to effects) (sym is_header) (subst (λ i. SetsSize i h to effects) (sym is_image) sets))

  pub resize_resizes : (places : List Placed) → ArePlacedRight homes places → (name : List ℕ) (to : ℕ) (whole : ResizesWhole home name to (map step_at places))
      → ((goes : Goes homes home name whole.image whole.own whole.resized places) → AllLike whole.image whole.own goes.rest) → Resizes name to places
  resize_resizes places right name to whole like =
      let goes = goes_at places right name whole.image whole.first whole.own _ whole.are in
      record {
        finds = goes.finds;
        sets =
            sets_as to whole.image goes.finds.image whole.own goes.finds.header (effects_of goes.rest) (effects_of places) goes.image_is goes.header_is goes.silent
            (size_there homes home whole.image whole.own goes.laid to whole.objects goes.rest goes.right (like goes)
            (subst (IsResized home whole.image whole.own to whole.objects) (sym goes.rest_is) whole.is_resized));
      }

  -- ---- snap rollback

  restores_as : (image other snap id size len : ℕ) (h also : HeaderView) (places : List Placed) → other ≡ image → also ≡ h → snap ≡ id → size ≡ len
      → RestoresAll image snap (pieces_of h.layout (record { at = 0; len = size })) places → RestoresAll other id (pieces_of also.layout (record { at = 0; len = len })) places
  restores_as image other snap id size len h also places is_image is_header is_snap is_size restores =
      subst (λ n. RestoresAll other id (pieces_of also.layout (record { at = 0; len = n })) places) is_size
      (subst (λ t. RestoresAll other t (pieces_of also.layout (record { at = 0; len = size })) places) is_snap
      (subst (λ (x : HeaderView). RestoresAll other snap (pieces_of x.layout (record { at = 0; len = size })) places) (sym is_header)
      (subst (λ i. RestoresAll i snap (pieces_of h.layout (record { at = 0; len = size })) places) (sym is_image) restores)))

  module _ (name snap : List ℕ) (places : List Placed) (rolls : RollsBack home name snap (map step_at places)) where
    abbrev pub sized : HeaderView
    sized = at_size rolls.listed.size rolls.own

    pub rolled_at : (goes : Goes homes home name rolls.image rolls.own (rolls.resized ++ rolls.restored) places) → (both : Divides rolls.resized rolls.restored goes.rest)
        → AllLike rolls.image rolls.own both.front → AllLike rolls.image sized both.back → RollsBackTo name snap places
    rolled_at goes both like_front like_back =
        let right_both : ArePlacedRight homes (both.front ++ both.back) = subst (ArePlacedRight homes) both.are goes.right in
        let listed : snap_named goes.finds.header.snaps snap ≡ Some rolls.listed = ap (λ (h : HeaderView). snap_named h.snaps snap) goes.header_is ∙ rolls.is_listed in
        let there = listed_flat (image_at (flat_at goes.finds.own) goes.finds.image) goes.finds.header snap rolls.listed goes.finds.tells listed in
        let told : IsToldBy goes.finds.header there.i = subst (TellsFlatImage goes.finds.header) there.is goes.finds.tells in
        let long = as_long goes.finds.header there.i snap rolls.listed there.gone told (subst (λ (h : HeaderView). AreRising h.snap_seq h.snaps) (sym goes.header_is) goes.rising) listed there.listed there.same in
        record {
          finds = goes.finds;
          flat = there.i;
          is = there.is;
          to = there.gone;
          listed = there.listed;
          sizing = both.front;
          restoring = both.back;
          behind = goes.behind_is ∙ both.are;
          sets =
              sets_as (length there.gone.bytes) rolls.image goes.finds.image rolls.own goes.finds.header (effects_of both.front) (effects_of both.front) goes.image_is goes.header_is refl
              (subst (λ n. SetsSize rolls.image rolls.own n (effects_of both.front)) (sym long)
              (size_there homes home rolls.image rolls.own goes.laid rolls.listed.size rolls.objects both.front (right_front homes both.front both.back right_both) like_front
              (subst (IsResized home rolls.image rolls.own rolls.listed.size rolls.objects) (sym both.front_is) rolls.is_resized)));
          restores =
              restores_as rolls.image goes.finds.image rolls.listed.id there.gone.id rolls.listed.size (length there.gone.bytes) rolls.own goes.finds.header both.back goes.image_is goes.header_is there.same
              (sym long)
              (all_restored homes home rolls.image sized snap rolls.listed rolls.is_listed refl (pieces_of rolls.own.layout (head_of sized))
              (pieces_listed rolls.own.layout goes.laid (head_of sized)).parts rolls.restored rolls.are_restored both.back (right_back homes both.front both.back right_both) like_back both.back_is);
          before = goes.silent ∙ ap effects_of both.are ∙ effects_append both.front both.back;
        }
