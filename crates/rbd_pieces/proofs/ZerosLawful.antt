-- Pieces do what they may.
use Rattle.std.proofs.Common.{◌≡◌, inr, ℕ, suc, ◌+◌, ◌-◌, ◌<◌, ◌≤◌, List, [], ◌∷◌, length, replicate, Bool, true, false, cond, Option, Some, None, refl, ap, ◌∙◌, sym, subst, arith}
use Rattle.std.proofs.lemmas.Bool.{eq-eqb, ltb-false}
use Rattle.std.proofs.lemmas.List.{get_or_past, length-append}
use Rattle.rbd_kinds.specs.declared.answer.Answer.TheVariants as answer
use Rattle.rbd_kinds.specs.declared.header.HeaderView.{HeaderView}
use Rattle.rbd_kinds.specs.declared.header.ParentLink.{ParentLink}
use Rattle.rbd_kinds.specs.declared.id.SiteId.{SiteId}
use Rattle.rbd_kinds.specs.declared.operation.Op.{Op}
use Rattle.rbd_kinds.specs.declared.sharing.Sharing.{Sharing}
use Rattle.rbd_kinds.specs.Sharing.{is_alone}
use Rattle.rbd_kinds.specs.Parts.{parts_len}
use Rattle.rbd_kinds.specs.Striping.{IsLayout, byte_at, offset_of}
use Rattle.rbd_kinds.proofs.Images.{at_itself}
use Rattle.rbd_header.specs.Header.{context_of}
use Rattle.rbd_layout.specs.declared.types.Piece.{Piece}
use Rattle.rbd_machine.specs.Knowledge.{Knowledge, MapsKnown, ObjectsKnown, is_absent, is_raised, learned, maps_of, marks_after, objects_known_of, removed, states_set, with_maps, with_objects}
use Rattle.rbd_machine.specs.Label.{Label}
use Rattle.rbd_machine.specs.Lawful.{IsLawful}
use Rattle.rbd_machine.specs.Path.{Answered}
use Rattle.rbd_machine.specs.Permits.{HasState, HasTurn, IsOutsideOverlap, Permits, makes_zeros}
use Rattle.rbd_machine.specs.Plan.{Plan}
use Rattle.rbd_machine.specs.Steps.{on_done, own}
use Rattle.rbd_machine.proofs.Lawful.{lawful_on_done}
use Rattle.rbd_pieces.specs.Full.{IsReplaced, cut_bytes, full_by, full_piece, replaced, replaced_by, writing_full}
use Rattle.rbd_pieces.specs.Known.{OwnsByHeader, IsPieceOf, OwnsObject, known_behind}
use Rattle.rbd_pieces.specs.Operations.{data_empty, data_remove, data_write_full, data_zero, map_set}
use Rattle.rbd_pieces.specs.Zero.{IsZeroed, all_zeroed, emptying, is_below, is_inside, is_whole, removing, setting, zero_all, zero_by, zero_piece, zeroed_steps, zeroed_by, zeroing}
use Rattle.rbd_pieces.proofs.Ends.{is_cut}
use Rattle.rbd_pieces.proofs.Held.{past_size, whole_is_held}

-- ---- what is known of an image behind a change

pub maps_changed : (k : Knowledge) (site : SiteId) (image : ℕ) (change : MapsKnown → MapsKnown) → maps_of (with_maps site image change k).maps site image ≡ change (maps_of k.maps site image)
maps_changed k site image change = ap (λ b. cond b (change (maps_of k.maps site image)) (maps_of k.maps site image)) (at_itself site image)

pub objects_changed : (k : Knowledge) (site : SiteId) (image : ℕ) (change : ObjectsKnown → ObjectsKnown) → objects_known_of (with_objects site image change k).objects site image ≡ change (objects_known_of k.objects site image)
objects_changed k site image change = ap (λ b. cond b (change (objects_known_of k.objects site image)) (objects_known_of k.objects site image)) (at_itself site image)

-- what a state teaches
abbrev pub with_state : (object state : ℕ) → MapsKnown → MapsKnown
with_state object state m = record { raised = marks_after None object state m.raised; states = states_set None object state m.states; count = m.count; put = None }

-- the last that was raised is known to be
pub raised_last : (k : Knowledge) (site : SiteId) (image object : ℕ) → HasState (maps_of (learned k site (map_set image object 1) answer.Done).maps site image) object
raised_last k site image object =
    ap (λ (m : MapsKnown). is_raised None object m.raised) (maps_changed k site image (with_state object 1))
    ∙ ap (λ b. cond b true (is_raised None object (maps_of k.maps site image).raised)) (eq-eqb object object refl)

-- an object that was removed is known to be absent
removed_last : (k : Knowledge) (site : SiteId) (image object : ℕ) → is_absent object (objects_known_of (with_objects site image (removed object) k).objects site image).absent ≡ true
removed_last k site image object =
    ap (λ (o : ObjectsKnown). is_absent object o.absent) (objects_changed k site image (removed object))
    ∙ ap (λ b. cond b true (is_absent object (objects_known_of k.objects site image).absent)) (eq-eqb object object refl)

-- ---- the overlap

above : (parent : Option ParentLink) (x : ℕ) → is_below parent x ≡ false → (link : ParentLink) → parent ≡ Some link → link.overlap ≤ x
above None x none link is = cc
above (Some l) x none link is = let same : l ≡ link = cc in subst (λ (l : ParentLink). l.overlap ≤ x) same (ltb-false x l.overlap none)

is_outside : (h : HeaderView) (number : ℕ) → is_inside h number ≡ false → IsOutsideOverlap h number
is_outside h number none = above h.parent (byte_at h.layout number 0) none

-- ---- bytes that replace

cut_len : (bytes : List ℕ) → length (cut_bytes bytes) ≤ length bytes
cut_len bytes =
    let left = cut_bytes bytes in
    let is : length left + length (replicate (length bytes - length left) 0) ≡ length bytes = sym (length-append left (replicate (length bytes - length left) 0)) ∙ ap length (is_cut bytes).zeros in
    omega (arith, is)

-- ---- steps

pub lawful_own : (at : Label → Knowledge) (k : Knowledge) (site : SiteId) (o : Op) (next : Plan) → Permits k site o → IsLawful at (learned k site o answer.Done) next → IsLawful at k (own site o (on_done next))
lawful_own at k site o next may lawful = (may, λ a can. lawful_on_done at (learned k site o) next lawful a)

module _ (site : SiteId) (image : ℕ) (h : HeaderView) (p : Piece) (is : IsPieceOf h p) (sharing : Sharing) where
  module _ (k : Knowledge) (owns : OwnsByHeader k site image sharing h) (turn : HasTurn (is_alone sharing) k.turn p.object) where
    pub may_raise : (state : ℕ) → state < 2 → Permits k site (map_set image p.object (suc state))
    may_raise state less = record {
      sharing = sharing;
      header = h;
      is = owns;
      meets = record { within = is.object; at_turn = turn; is_state = omega (arith, less); lowers = λ none. absurd (omega (arith, none)); zeros = λ none. absurd (omega (arith, none)) };
    }

    may_lower : makes_zeros sharing ≡ true → is_absent p.object (objects_known_of k.objects site image).absent ≡ true → Permits k site (map_set image p.object 0)
    may_lower zeros absent = record {
      sharing = sharing;
      header = h;
      is = owns;
      meets = record { within = is.object; at_turn = turn; is_state = omega arith; lowers = λ none. absent; zeros = λ none. zeros };
    }

    may_zero : makes_zeros sharing ≡ true → (must : Bool) → Permits k site (data_zero image (context_of h) must p)
    may_zero zeros must = record { sharing = sharing; header = h; is = owns; meets = record { under = refl; within = is.parts; at_turn = turn; zeros = zeros } }

    may_empty : makes_zeros sharing ≡ true → HasState (maps_of k.maps site image) p.object → Permits k site (data_empty image (context_of h) p.object)
    may_empty zeros raised = record { sharing = sharing; header = h; is = owns; meets = record { under = refl; within = is.object; at_turn = turn; raised = raised; zeros = zeros } }

    may_remove : makes_zeros sharing ≡ true → is_inside h p.object ≡ false → Permits k site (data_remove image (context_of h) p.object)
    may_remove zeros none =
        inr (record { sharing = sharing; header = h; is = owns; meets = record { under = refl; within = is.object; at_turn = turn; zeros = zeros; outside = is_outside h p.object none } })

    may_replace : HasState (maps_of k.maps site image) p.object → IsLayout h.layout → is_whole h p ≡ true → (bytes : List ℕ) → length bytes ≤ parts_len p.parts
        → Permits k site (data_write_full image (context_of h) p.object bytes)
    may_replace raised layout whole bytes few = record {
      sharing = sharing;
      header = h;
      is = owns;
      meets = record {
        under = refl;
        within = is.object;
        at_turn = turn;
        raised = raised;
        long = (let most : parts_len p.parts ≤ h.layout.object = (whole_is_held h p layout whole).within in omega (arith, most, few));
        clear = λ x past this.
            let behind : parts_len p.parts ≤ offset_of h.layout x = past_size h p layout whole x past this in
            get_or_past bytes (offset_of h.layout x) 0 (omega (arith, behind, few));
      };
    }

  module _ (at : Label → Knowledge) (k : Knowledge) (owns : OwnsByHeader k site image sharing h) (turn : HasTurn (is_alone sharing) k.turn p.object) (zeros : makes_zeros sharing ≡ true) (next : Plan) where
    lawful_all : (inside : Bool) → is_inside h p.object ≡ inside → IsLawful at (known_behind k (all_zeroed site image (context_of h) p inside)) next → IsLawful at k (zero_all site image (context_of h) p inside next)
    lawful_all true there lawful =
        let raised = learned k site (map_set image p.object 1) answer.Done in
        lawful_own at k site (map_set image p.object 1) (emptying site image (context_of h) p next) (may_raise k owns turn 0 (omega arith))
        (lawful_own at raised site (data_empty image (context_of h) p.object) next (may_empty raised owns turn zeros (raised_last k site image p.object)) lawful)
    lawful_all false none lawful =
        let marked = learned k site (map_set image p.object 2) answer.Done in
        let gone = learned marked site (data_remove image (context_of h) p.object) answer.Done in
        let lowering = setting site image (context_of h) p 0 next in
        lawful_own at k site (map_set image p.object 2) (removing site image (context_of h) p lowering) (may_raise k owns turn 1 (omega arith))
        (lawful_own at marked site (data_remove image (context_of h) p.object) lowering (may_remove marked owns turn zeros none)
        (lawful_own at gone site (map_set image p.object 0) next (may_lower gone owns turn zeros (removed_last marked site image p.object)) lawful))

    lawful_by : (whole inside : Bool) → is_inside h p.object ≡ inside → IsLawful at (known_behind k (zeroed_by site image (context_of h) p whole inside)) next → IsLawful at k (zero_by site image (context_of h) p whole inside next)
    lawful_by true inside there lawful = lawful_all inside there lawful
    lawful_by false false there lawful = lawful_own at k site (data_zero image (context_of h) false p) next (may_zero k owns turn zeros false) lawful
    lawful_by false true there lawful =
        let raised = learned k site (map_set image p.object 1) answer.Done in
        lawful_own at k site (map_set image p.object 1) (zeroing site image (context_of h) p true next) (may_raise k owns turn 0 (omega arith))
        (lawful_own at raised site (data_zero image (context_of h) true p) next (may_zero raised owns turn zeros true) lawful)

    lawful_full_by : IsLayout h.layout → is_whole h p ≡ true → (left : List ℕ) → length left ≤ parts_len p.parts → IsLawful at (known_behind k (replaced_by site image h p left)) next → IsLawful at k (full_by site image h p left next)
    lawful_full_by layout whole [] few lawful = lawful_all (is_inside h p.object) refl lawful
    lawful_full_by layout whole (byte ∷ left) few lawful =
        let raised = learned k site (map_set image p.object 1) answer.Done in
        lawful_own at k site (map_set image p.object 1) (writing_full site image (context_of h) p.object (byte ∷ left) next) (may_raise k owns turn 0 (omega arith))
        (lawful_own at raised site (data_write_full image (context_of h) p.object (byte ∷ left)) next (may_replace raised owns turn (raised_last k site image p.object) layout whole (byte ∷ left) few) lawful)

module _ (at : Label → Knowledge) (k : Knowledge) (site : SiteId) (image : ℕ) (h : HeaderView) (p : Piece) where
  pub lawful_zero : (next : Plan) → OwnsObject k site image h p.object → IsPieceOf h p → ((steps : List Answered) → IsZeroed site image h p steps → IsLawful at (known_behind k steps) next)
      → IsLawful at k (zero_piece site image h p next)
  lawful_zero next own is lawful = lawful_by site image h p is own.sharing at k own.owns own.turn own.zeros next (is_whole h p) (is_inside h p.object) refl (lawful (zeroed_steps site image h p) refl)

  pub lawful_full : (bytes : List ℕ) (next : Plan) → OwnsObject k site image h p.object → IsLayout h.layout → IsPieceOf h p → is_whole h p ≡ true → length bytes ≤ parts_len p.parts
      → ((steps : List Answered) → IsReplaced site image h p bytes steps → IsLawful at (known_behind k steps) next) → IsLawful at k (full_piece site image h p bytes next)
  lawful_full bytes next own layout is whole few lawful =
      let less : length (cut_bytes bytes) ≤ length bytes = cut_len bytes in
      lawful_full_by site image h p is own.sharing at k own.owns own.turn own.zeros next layout whole (cut_bytes bytes) (omega (arith, less, few)) (lawful (replaced site image h p bytes) refl)
