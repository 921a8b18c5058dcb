-- A size does what it may, and the image is its own by the header at the new size.
use Rattle.std.proofs.Common.{◌≡◌, ◌⊎◌, inl, inr, ℕ, zero, suc, ◌+◌, ◌-◌, ◌*◌, ◌^◌, ◌<◌, ◌≤◌, List, [], ◌∷◌, ◌++◌, All, Any, map, length, get_or, Bool, true, false, not, cond, ◌==◌, ◌||◌, Option, Some, None, option_map, refl, ap, ◌∙◌, sym, subst, arith}
use Rattle.std.specs.Prelude.{nat_le}
use Rattle.std.proofs.lemmas.Bool.{eqb-true}
use Rattle.std.proofs.lemmas.Bool.Decides.{nat_tests}
use Rattle.std.proofs.lemmas.List.Elements.{All-filter, All-head, All-tail}
use Rattle.rbd_kinds.specs.declared.answer.Answer.{Answer}
use Rattle.rbd_kinds.specs.declared.answer.Answer.TheVariants as answer
use Rattle.rbd_kinds.specs.declared.header.HeaderView.{HeaderView}
use Rattle.rbd_kinds.specs.declared.id.SiteId.{SiteId}
use Rattle.rbd_kinds.specs.declared.layout.Layout.{Layout}
use Rattle.rbd_kinds.specs.declared.sharing.Sharing.{Sharing}
use Rattle.rbd_kinds.specs.declared.sharing.Sharing.TheVariants.{Alone}
use Rattle.rbd_kinds.specs.Form.{HasFewObjects}
use Rattle.rbd_kinds.specs.States.{state_at}
use Rattle.rbd_kinds.specs.Striping.{IsLayout, IsObjectCount, object_of}
use Rattle.rbd_header.specs.Header.{with_size}
use Rattle.rbd_layout.specs.Pieces.{pieces_of}
use Rattle.rbd_layout.specs.declared.types.Piece.{Piece}
use Rattle.rbd_layout.proofs.Derived.{parts_cover}
use Rattle.rbd_layout.proofs.Listed.{pieces_listed}
use Rattle.rbd_map.specs.States.{states_of}
use Rattle.rbd_machine.specs.Knowledge.{Knowledge, MapsKnown, Own, is_at, learned, own_of, told_of, with_header}
use Rattle.rbd_machine.specs.Label.{Label}
use Rattle.rbd_machine.specs.Lawful.{IsLawful}
use Rattle.rbd_machine.specs.Path.{Answered}
use Rattle.rbd_machine.specs.Permits.{Permits}
use Rattle.rbd_machine.specs.Plan.{Plan}
use Rattle.rbd_machine.specs.Steps.{on_bits}
use Rattle.rbd_machine.proofs.Lawful.{lawful_not_there}
use Rattle.rbd_pieces.specs.Known.{OwnsByHeader, IsPieceOf, known_behind}
use Rattle.rbd_pieces.specs.Operations.{done, header_set_size, map_get, map_resize}
use Rattle.rbd_pieces.specs.Shrink.{piece_has_bytes, head_from, pieces_from}
use Rattle.rbd_pieces.specs.Size.{AreZeroed, IsResized, IsResizedBy, IsShrunk, cutting, growing, grown, resize, resize_by, shrinking, shrunk, sizing, zero_pieces}
use Rattle.rbd_pieces.specs.Zero.{is_inside}
use Rattle.rbd_pieces.proofs.Below.{pieces_below}
use Rattle.rbd_pieces.proofs.ZerosLawful.{lawful_own, lawful_zero, maps_changed}
use Rattle.rbd_pieces.proofs.Zeroed.{IsZero, Takes, behind_more, found_or_fails, told_zero, zeroed_own, zeros_own, zeros_there}

-- ---- counts

pub few_objects : (layout : Layout) (size objects : ℕ) → HasFewObjects layout size → IsObjectCount layout size objects → objects ≤ 2 ^ 20
few_objects layout zero objects few counted = subst (λ n. n ≤ 2 ^ 20) (sym (counted.none refl)) (omega arith)
few_objects layout (suc size) objects few counted =
    let last = counted.greatest (omega arith) in
    let less : object_of layout last.0 < 2 ^ 20 = few last.0 last.1 in
    let count : object_of layout last.0 + 1 ≡ objects = last.2 in
    omega (arith, less, count)

-- ---- the header at the new size

told_there : (site : SiteId) (image : ℕ) (change : Option HeaderView → Option HeaderView) (owns : List Own) → own_of (map (told_of site image change) owns) site image ≡ option_map (with_header change) (own_of owns site image)
told_there site image change [] = refl
told_there site image change (o ∷ owns) = go (is_at site image o.site o.image) refl (told_there site image change owns)
  where
    rest : List Own
    rest = map (told_of site image change) owns

    go : (b : Bool) → is_at site image o.site o.image ≡ b → own_of rest site image ≡ option_map (with_header change) (own_of owns site image)
        → own_of (cond (is_at site image o.site o.image) (with_header change o) o ∷ rest) site image ≡ option_map (with_header change) (cond (is_at site image o.site o.image) (Some o) (own_of owns site image))
    go true here later =
        ap (λ b. own_of (cond b (with_header change o) o ∷ rest) site image) here
        ∙ ap (λ b. cond b (Some (with_header change o)) (own_of rest site image)) here
        ∙ sym (ap (λ b. option_map (with_header change) (cond b (Some o) (own_of owns site image))) here)
    go false elsewhere later =
        ap (λ b. own_of (cond b (with_header change o) o ∷ rest) site image) elsewhere
        ∙ ap (λ b. cond b (Some o) (own_of rest site image)) elsewhere ∙ later
        ∙ sym (ap (λ b. option_map (with_header change) (cond b (Some o) (own_of owns site image))) elsewhere)

size_is_told : (site : SiteId) (image : ℕ) (h : HeaderView) (sharing : Sharing) (to : ℕ) (k : Knowledge) → OwnsByHeader k site image sharing h
    → OwnsByHeader (learned k site (header_set_size image to) answer.Done) site image sharing (with_size to h)
size_is_told site image h sharing to k owns = told_there site image (option_map (with_size to)) k.owns ∙ ap (option_map (with_header (option_map (with_size to)))) owns

-- ---- pieces one after another

lawful_zeros : (at : Label → Knowledge) (site : SiteId) (image : ℕ) (h : HeaderView) (pieces : List Piece) (k : Knowledge) (next : Plan) → OwnsByHeader k site image Alone h → All (IsPieceOf h) pieces
    → ((steps : List Answered) → AreZeroed site image h pieces steps → IsLawful at (known_behind k steps) next) → IsLawful at k (zero_pieces site image h pieces next)
lawful_zeros at site image h [] k next owns are lawful = lawful [] refl
lawful_zeros at site image h (p ∷ pieces) k next owns are lawful =
    lawful_zero at k site image h p (zero_pieces site image h pieces next) (record { sharing = Alone; owns = owns; turn = tt; zeros = refl }) (All-head (IsPieceOf h) p pieces are)
    (λ first is.
    lawful_zeros at site image h pieces (known_behind k first) next (zeroed_own site image h h Alone p k first is owns) (All-tail (IsPieceOf h) p pieces are)
    (λ others zeroed.
    subst (λ known. IsLawful at known next) (behind_more k first others)
    (lawful (first ++ others) (record { first = first; others = others; is_first = is; are_others = zeroed; are = refl }))))

module _ (site : SiteId) (image : ℕ) (h : HeaderView) (to : ℕ) where
  -- ---- growth

  module _ (at : Label → Knowledge) (k : Knowledge) (owns : OwnsByHeader k site image Alone h) (objects : ℕ) (few : HasFewObjects h.layout to) (counted : IsObjectCount h.layout to objects) where
    -- the map got room
    abbrev roomy : Knowledge
    roomy = learned k site (map_resize image objects) answer.Done

    abbrev resized : MapsKnown → MapsKnown
    resized m = record { raised = m.raised; states = None; count = Some objects; put = None }

    may_grow : h.size ≤ to → Permits roomy site (header_set_size image to)
    may_grow most = record {
      sharing = Alone;
      header = h;
      is = owns;
      meets = (
        refl,
        record {
          few = few;
          mapped = λ more. record {
            count = objects;
            known = ap (λ (m : MapsKnown). m.count) (maps_changed k site image resized);
            room = counted.each;
          };
          zeroed = λ x low high. absurd (omega (arith, most, low, high));
        },
      );
    }

    lawful_growing : (next : Plan) → h.size ≤ to → IsLawful at (known_behind k (grown site image to objects)) next → IsLawful at k (growing site image to objects next)
    lawful_growing next most lawful =
        lawful_own at k site (map_resize image objects) (sizing site image to next)
        (inr (record { sharing = Alone; header = h; is = owns; meets = (refl, few_objects h.layout to objects few counted) }))
        (lawful_own at roomy site (header_set_size image to) next (may_grow most) lawful)

  -- ---- a byte that goes

  module _ (is : IsLayout h.layout) (bits : List ℕ) where
    -- each of the pieces has all bytes of its object that go
    all_take : (x : ℕ) → to ≤ x → x < h.size → All (Takes site image h x) (pieces_from h to bits)
    all_take x low high =
        All-filter (piece_has_bytes h bits) (Takes site image h x) (pieces_of h.layout (head_from h to))
        (λ n d below.
        let p = get_or (pieces_of h.layout (head_from h to)) n d in
        λ same. (parts_cover h.layout (head_from h to) p.object p.parts ((pieces_listed h.layout is (head_from h to)).parts n d below) x).1
        ((low, (let less : x < to + (h.size - to) = omega (arith, low, high) in less)), sym same))

    module _ (k : Knowledge) where
      -- the states were told
      abbrev told : Knowledge
      told = learned k site (map_get image) (answer.Bits bits)

      abbrev with_states : MapsKnown → MapsKnown
      with_states m = record m { states = Some (states_of bits (4 * length bits)) }

      passed_over : (p : Piece) → piece_has_bytes h bits p ≡ false → state_at bits p.object ≡ 0
      passed_over p none = go (is_inside h p.object) (state_at bits p.object == 0) refl none
        where
          go : (inside zero : Bool) → (state_at bits p.object == 0) ≡ zero → inside || not zero ≡ false → state_at bits p.object ≡ 0
          go inside true none fails = eqb-true (state_at bits p.object) 0 none
          go true false none fails = cc
          go false false none fails = cc

      zero_or_left : (x : ℕ) → to ≤ x → x < h.size → IsZero site image h x told ⊎ Any (λ (q : Piece). q.object ≡ object_of h.layout x) (pieces_from h to bits)
      zero_or_left x low high =
          go (found_or_fails (piece_has_bytes h bits) (λ (q : Piece). q.object ≡ object_of h.layout x) (pieces_of h.layout (head_from h to))
          ((pieces_listed h.layout is (head_from h to)).whole x (low, (let less : x < to + (h.size - to) = omega (arith, low, high) in less))))
        where
          go : Any (λ (q : Piece). q.object ≡ object_of h.layout x) (pieces_from h to bits) ⊎ ((p : Piece) × (p.object ≡ object_of h.layout x) × (piece_has_bytes h bits p ≡ false))
              → IsZero site image h x told ⊎ Any (λ (q : Piece). q.object ≡ object_of h.layout x) (pieces_from h to bits)
          go (inl left) = inr left
          go (inr (p, same, none)) = inl (inl (record {
            states = states_of bits (4 * length bits);
            told = ap (λ (m : MapsKnown). m.states) (maps_changed k site image with_states);
            none = told_zero bits (object_of h.layout x) (ap (state_at bits) (sym same) ∙ passed_over p none);
          }))

      -- whichever steps zeroed them
      module _ (zeroed : List Answered) (are : AreZeroed site image h (pieces_from h to bits) zeroed) where
        abbrev cut_off : Knowledge
        cut_off = known_behind told zeroed

        all_zero : (x : ℕ) → to ≤ x → x < h.size → IsZero site image h x cut_off
        all_zero x low high = zeros_there site image h x (pieces_from h to bits) told zeroed are (all_take x low high) (zero_or_left x low high)

        may_shrink : OwnsByHeader k site image Alone h → HasFewObjects h.layout to → to < h.size → Permits cut_off site (header_set_size image to)
        may_shrink owns few less = record {
          sharing = Alone;
          header = h;
          is = zeros_own site image h h Alone (pieces_from h to bits) told zeroed are owns;
          meets = (
            refl,
            record {
              few = few;
              mapped = λ more. absurd (omega (arith, less, more));
              zeroed = all_zero;
            },
          );
        }

      lawful_cutting : (at : Label → Knowledge) (next : Plan) → OwnsByHeader k site image Alone h → HasFewObjects h.layout to → to < h.size
          → ((steps : List Answered) → IsShrunk site image h to steps → IsLawful at (known_behind k steps) next) → IsLawful at told (cutting site image h to next bits)
      lawful_cutting at next owns few less lawful =
          let below : All (IsPieceOf h) (pieces_of h.layout (head_from h to)) = pieces_below h (head_from h to) is (let all : to + (h.size - to) ≤ h.size = omega (arith, less) in all) in
          lawful_zeros at site image h (pieces_from h to bits) told (sizing site image to next) owns
          (All-filter (piece_has_bytes h bits) (IsPieceOf h) (pieces_of h.layout (head_from h to)) below)
          (λ zeroed are.
          lawful_own at (cut_off zeroed are) site (header_set_size image to) next (may_shrink zeroed are owns few less)
          (subst (λ known. IsLawful at known next) (behind_more told zeroed (done site (header_set_size image to) ∷ []))
          (lawful (shrunk site image to bits zeroed) (record { bits = bits; zeroed = zeroed; are_zeroed = are; are = refl }))))

  lawful_shrinking : (at : Label → Knowledge) (k : Knowledge) (next : Plan) → IsLayout h.layout → OwnsByHeader k site image Alone h → HasFewObjects h.layout to → to < h.size
      → ((steps : List Answered) → IsShrunk site image h to steps → IsLawful at (known_behind k steps) next) → IsLawful at k (shrinking site image h to next)
  lawful_shrinking at k next is owns few less lawful = (tt, λ a can. on a)
    where
      on : (a : Answer) → IsLawful at (learned k site (map_get image) a) (on_bits (cutting site image h to next) a)
      on (answer.Bits bits) = lawful_cutting is bits k at next owns few less lawful
      on a = lawful_not_there at (learned k site (map_get image) a) a

  -- ---- either

  lawful_resize_by : (grows : Bool) (at : Label → Knowledge) (k : Knowledge) (objects : ℕ) (next : Plan) → nat_le h.size to ≡ grows → IsLayout h.layout → OwnsByHeader k site image Alone h
      → HasFewObjects h.layout to → IsObjectCount h.layout to objects
      → ((steps : List Answered) → IsResizedBy grows site image h to objects steps → IsLawful at (known_behind k steps) next) → IsLawful at k (resize_by grows site image h to objects next)
  lawful_resize_by true at k objects next grows is owns few counted lawful =
      lawful_growing at k owns objects few counted next (grind (arith, nat_tests)) (lawful (grown site image to objects) refl)
  lawful_resize_by false at k objects next shrinks is owns few counted lawful = lawful_shrinking at k next is owns few (grind (arith, nat_tests)) lawful

  pub lawful_resize : (at : Label → Knowledge) (k : Knowledge) (objects : ℕ) (next : Plan) → IsLayout h.layout → OwnsByHeader k site image Alone h → HasFewObjects h.layout to → IsObjectCount h.layout to objects
      → ((steps : List Answered) → IsResized site image h to objects steps → IsLawful at (known_behind k steps) next) → IsLawful at k (resize site image h to objects next)
  lawful_resize at k objects next is owns few counted lawful = lawful_resize_by (nat_le h.size to) at k objects next refl is owns few counted lawful

  -- ---- whose the image is then

  shrunk_owns : (k : Knowledge) (bits : List ℕ) (zeroed : List Answered) → AreZeroed site image h (pieces_from h to bits) zeroed → OwnsByHeader k site image Alone h
      → OwnsByHeader (known_behind k (shrunk site image to bits zeroed)) site image Alone (with_size to h)
  shrunk_owns k bits zeroed are owns =
      subst (λ known. OwnsByHeader known site image Alone (with_size to h)) (sym (behind_more (told' k bits) zeroed (done site (header_set_size image to) ∷ [])))
      (size_is_told site image h Alone to (known_behind (told' k bits) zeroed) (zeros_own site image h h Alone (pieces_from h to bits) (told' k bits) zeroed are owns))
    where
      told' : Knowledge → List ℕ → Knowledge
      told' k bits = learned k site (map_get image) (answer.Bits bits)

  resized_owns_by : (grows : Bool) (k : Knowledge) (objects : ℕ) (steps : List Answered) → OwnsByHeader k site image Alone h → IsResizedBy grows site image h to objects steps
      → OwnsByHeader (known_behind k steps) site image Alone (with_size to h)
  resized_owns_by true k objects steps owns are =
      subst (λ done. OwnsByHeader (known_behind k done) site image Alone (with_size to h)) (sym are)
      (size_is_told site image h Alone to (learned k site (map_resize image objects) answer.Done) owns)
  resized_owns_by false k objects steps owns is =
      subst (λ done. OwnsByHeader (known_behind k done) site image Alone (with_size to h)) (sym is.are) (shrunk_owns k is.bits is.zeroed is.are_zeroed owns)

  pub resized_owns : (k : Knowledge) (objects : ℕ) (steps : List Answered) → OwnsByHeader k site image Alone h → IsResized site image h to objects steps → OwnsByHeader (known_behind k steps) site image Alone (with_size to h)
  resized_owns k objects steps owns are = resized_owns_by (nat_le h.size to) k objects steps owns are
