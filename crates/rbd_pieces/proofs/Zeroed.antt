-- What is known to be zero behind pieces that became zeros, and whose the image is then.
use Rattle.std.proofs.Common.{◌≡◌, ◌≢◌, ◌⊎◌, inl, inr, ℕ, zero, suc, ◌*◌, ◌<◌, List, [], ◌∷◌, ◌++◌, All, Any, length, set, get_or, Bool, true, false, not, cond, ◌==◌, Some, None, refl, ap, ◌∙◌, sym, subst, arith}
use Rattle.std.specs.Prelude.{filter}
use Rattle.std.proofs.lemmas.Bool.{ne_eqb}
use Rattle.std.proofs.lemmas.Bool.Decides.{eqb_tells}
use Rattle.std.proofs.lemmas.List.{get_or_past, get_or-set_other}
use Rattle.std.proofs.lemmas.List.Elements.{All-head, All-tail}
use Rattle.std.proofs.lemmas.List.FromFn.{get_or-map-range_with_len, length-map-range_with_len}
use Rattle.rbd_kinds.specs.declared.answer.Answer.TheVariants as answer
use Rattle.rbd_kinds.specs.declared.header.HeaderView.{HeaderView}
use Rattle.rbd_kinds.specs.declared.id.SiteId.{SiteId}
use Rattle.rbd_kinds.specs.declared.sharing.Sharing.{Sharing}
use Rattle.rbd_kinds.specs.States.{state_at}
use Rattle.rbd_kinds.specs.Striping.{object_of}
use Rattle.rbd_header.specs.Header.{context_of}
use Rattle.rbd_layout.specs.Pieces.{IsIn}
use Rattle.rbd_layout.specs.declared.types.Piece.{Piece}
use Rattle.rbd_layout.proofs.Derived.{Any-here, Any-there}
use Rattle.rbd_layout.proofs.Mixed.{cases_lt}
use Rattle.rbd_map.specs.States.{states_of}
use Rattle.rbd_machine.specs.Knowledge.{Blank, Knowledge, MapsKnown, ObjectsKnown, blanked, found_where, learned, made, maps_of, objects_known_of, removed, states_set, with_objects}
use Rattle.rbd_machine.specs.Path.{Answered}
use Rattle.rbd_machine.specs.Permits.{IsInParts, IsZeroByChange, IsZeroByState}
use Rattle.rbd_pieces.specs.Full.{IsReplaced, cut_bytes, replaced, replaced_by}
use Rattle.rbd_pieces.specs.Known.{OwnsByHeader, known_behind}
use Rattle.rbd_pieces.specs.Operations.{data_empty, data_remove, data_zero, map_set}
use Rattle.rbd_pieces.specs.Size.{AreZeroed}
use Rattle.rbd_pieces.specs.Zero.{IsZeroed, all_zeroed, is_inside, is_whole, zeroed_steps, zeroed_by}
use Rattle.rbd_pieces.proofs.ZerosLawful.{maps_changed, objects_changed, with_state}

-- ---- lists

-- what is found is passed by a filter, or fails its test
pub found_or_fails : {X : Type 0} (q : X → Bool) (P : X → Type 0) (xs : List X) → Any P xs → Any P (filter q xs) ⊎ ((x : X) × P x × (q x ≡ false))
found_or_fails q P [] (k, y, less, is, h) = absurd (omega arith)
found_or_fails q P (x ∷ xs) (zero, y, less, is, h) = go (q x) refl (subst P (sym is) h)
  where
    go : (b : Bool) → q x ≡ b → P x → Any P (cond (q x) (x ∷ filter q xs) (filter q xs)) ⊎ ((y : _) × P y × (q y ≡ false))
    go true passes holds = inl (subst (λ b. Any P (cond b (x ∷ filter q xs) (filter q xs))) (sym passes) (Any-here P x (filter q xs) holds))
    go false fails holds = inr (x, holds, fails)
found_or_fails q P (x ∷ xs) (suc k, y, less, is, h) = go (q x) refl (found_or_fails q P xs (k, y, omega arith, is, h))
  where
    go : (b : Bool) → q x ≡ b → Any P (filter q xs) ⊎ ((y : _) × P y × (q y ≡ false)) → Any P (cond (q x) (x ∷ filter q xs) (filter q xs)) ⊎ ((y : _) × P y × (q y ≡ false))
    go true passes (inl found) = inl (subst (λ b. Any P (cond b (x ∷ filter q xs) (filter q xs))) (sym passes) (Any-there P x (filter q xs) found))
    go false fails (inl found) = inl (subst (λ b. Any P (cond b (x ∷ filter q xs) (filter q xs))) (sym fails) found)
    go b is (inr fails) = inr fails

-- ---- behind operations one after another

pub behind_more : (k : Knowledge) (first second : List Answered) → known_behind k (first ++ second) ≡ known_behind (known_behind k first) second
behind_more k [] second = refl
behind_more k (a ∷ first) second = behind_more (learned k a.site a.op a.answer) first second

-- a piece leaves it its own, and its turn
pub zero_owns : (site : SiteId) (image : ℕ) (h own : HeaderView) (sharing : Sharing) (p : Piece) (k : Knowledge) → OwnsByHeader k site image sharing own → OwnsByHeader (known_behind k (zeroed_steps site image h p)) site image sharing own
zero_owns site image h own sharing p k owns = by (is_whole h p) (is_inside h p.object)
  where
    by : (whole inside : Bool) → OwnsByHeader (known_behind k (zeroed_by site image (context_of h) p whole inside)) site image sharing own
    by true true = owns
    by true false = owns
    by false true = owns
    by false false = owns

full_by_owns : (site : SiteId) (image : ℕ) (h own : HeaderView) (sharing : Sharing) (p : Piece) (left : List ℕ) (k : Knowledge) → OwnsByHeader k site image sharing own → OwnsByHeader (known_behind k (replaced_by site image h p left)) site image sharing own
full_by_owns site image h own sharing p (byte ∷ left) k owns = owns
full_by_owns site image h own sharing p [] k owns = by (is_inside h p.object)
  where
    by : (inside : Bool) → OwnsByHeader (known_behind k (all_zeroed site image (context_of h) p inside)) site image sharing own
    by true = owns
    by false = owns

-- and so does one that is replaced
pub full_owns : (site : SiteId) (image : ℕ) (h own : HeaderView) (sharing : Sharing) (p : Piece) (bytes : List ℕ) (k : Knowledge) → OwnsByHeader k site image sharing own → OwnsByHeader (known_behind k (replaced site image h p bytes)) site image sharing own
full_owns site image h own sharing p bytes k owns = full_by_owns site image h own sharing p (cut_bytes bytes) k owns

module _ (site : SiteId) (image : ℕ) (h own : HeaderView) (sharing : Sharing) where
  abbrev OwnsBehind : Knowledge → List Answered → Type 0
  OwnsBehind k steps = OwnsByHeader (known_behind k steps) site image sharing own

  -- whichever steps they were
  pub zeroed_own : (p : Piece) (k : Knowledge) (steps : List Answered) → IsZeroed site image h p steps → OwnsByHeader k site image sharing own → OwnsBehind k steps
  zeroed_own p k steps is owns = subst (OwnsBehind k) (sym is) (zero_owns site image h own sharing p k owns)

  pub replaced_own : (p : Piece) (bytes : List ℕ) (k : Knowledge) (steps : List Answered) → IsReplaced site image h p bytes steps → OwnsByHeader k site image sharing own → OwnsBehind k steps
  replaced_own p bytes k steps is owns = subst (OwnsBehind k) (sym is) (full_owns site image h own sharing p bytes k owns)

  pub zeros_own : (pieces : List Piece) (k : Knowledge) (steps : List Answered) → AreZeroed site image h pieces steps → OwnsByHeader k site image sharing own → OwnsBehind k steps
  zeros_own [] k steps none owns = subst (OwnsBehind k) (sym none) owns
  zeros_own (p ∷ pieces) k steps are owns =
      subst (OwnsBehind k) (sym are.are)
      (subst (λ known. OwnsByHeader known site image sharing own) (sym (behind_more k are.first are.others))
      (zeros_own pieces (known_behind k are.first) are.others are.are_others (zeroed_own p k are.first are.is_first owns)))

-- ---- zeros

-- a state that is told is what the bits say
pub told_zero : (bits : List ℕ) (number : ℕ) → state_at bits number ≡ 0 → get_or (states_of bits (4 * length bits)) number 0 ≡ 0
told_zero bits number none = go (cases_lt number (4 * length bits))
  where
    len : length (states_of bits (4 * length bits)) ≡ 4 * length bits
    len = length-map-range_with_len (state_at bits) 0 (4 * length bits)

    go : (number < 4 * length bits) ⊎ ((number ≡ 4 * length bits) ⊎ (4 * length bits < number)) → get_or (states_of bits (4 * length bits)) number 0 ≡ 0
    go (inl less) = get_or-map-range_with_len (state_at bits) 0 (4 * length bits) number number 0 less (omega arith) ∙ none
    go (inr (inl same)) = get_or_past (states_of bits (4 * length bits)) number 0 (omega (arith, len, same))
    go (inr (inr more)) = get_or_past (states_of bits (4 * length bits)) number 0 (omega (arith, len, more))

module _ (site : SiteId) (image : ℕ) (h : HeaderView) (x : ℕ) where
  -- by all that is known
  abbrev pub IsZero : Knowledge → Type 0
  IsZero k = IsZeroByState (maps_of k.maps site image) h x ⊎ IsZeroByChange (objects_known_of k.objects site image) h x

  abbrev IsBlank : Blank → Type 0
  IsBlank b = (b.object ≡ object_of h.layout x) × IsInParts b.parts x

  -- ---- where another object changes

  module _ (number : ℕ) (other : number ≢ object_of h.layout x) where
    set_elsewhere : (k : Knowledge) (state : ℕ) → IsZero k → IsZero (learned k site (map_set image number state) answer.Done)
    set_elsewhere k state (inl none) = inl (record {
      states = set none.states number state;
      told = ap (λ (m : MapsKnown). m.states) (maps_changed k site image (with_state number state)) ∙ ap (states_set None number state) none.told;
      none = get_or-set_other none.states number (object_of h.layout x) state 0 (λ same. other (sym same)) ∙ none.none;
    })
    set_elsewhere k state (inr blank) = inr blank

    changed_elsewhere : (k : Knowledge) (change : ObjectsKnown → ObjectsKnown) → ((o : ObjectsKnown) → IsZeroByChange o h x → IsZeroByChange (change o) h x) → IsZero k → IsZero (with_objects site image change k)
    changed_elsewhere k change keeps (inl none) = inl none
    changed_elsewhere k change keeps (inr blank) = inr (subst (λ o. IsZeroByChange o h x) (sym (objects_changed k site image change)) (keeps (objects_known_of k.objects site image) blank))

    kept_apart : (blank : List Blank) → Any IsBlank blank → Any IsBlank (filter (λ b. not (b.object == number)) blank)
    kept_apart blank found = go (found_or_fails (λ b. not (b.object == number)) IsBlank blank found)
      where
        go : Any IsBlank (filter (λ b. not (b.object == number)) blank) ⊎ ((b : Blank) × IsBlank b × (not (b.object == number) ≡ false)) → Any IsBlank (filter (λ b. not (b.object == number)) blank)
        go (inl kept) = kept
        go (inr (b, is, fails)) =
            let differs : b.object == number ≡ false = ne_eqb b.object number (λ same. other (sym same ∙ is.0)) in
            let no_more : true ≡ false = ap not (sym differs) ∙ fails in
            cc

    zeroed_elsewhere : (k : Knowledge) (context : _) (must : Bool) (p : Piece) → p.object ≡ number → IsZero k → IsZero (learned k site (data_zero image context must p) answer.Done)
    zeroed_elsewhere k context must p is zeros = changed_elsewhere k (λ o. blanked p.object (Some p.parts) (found_where must p.object o)) (λ o found. Any-there IsBlank (record { object = p.object; parts = Some p.parts }) o.blank found) zeros

    emptied_elsewhere : (k : Knowledge) (context : _) → IsZero k → IsZero (learned k site (data_empty image context number) answer.Done)
    emptied_elsewhere k context zeros =
        changed_elsewhere k (λ o. blanked number None (made number o)) (λ o found. Any-there IsBlank (record { object = number; parts = None }) (made number o).blank (kept_apart o.blank found)) zeros

    removed_elsewhere : (k : Knowledge) (context : _) → IsZero k → IsZero (learned k site (data_remove image context number) answer.Done)
    removed_elsewhere k context zeros = changed_elsewhere k (removed number) (λ o found. Any-there IsBlank (record { object = number; parts = None }) o.blank found) zeros

  -- a byte of another object stays zero
  zero_elsewhere : (p : Piece) (k : Knowledge) → p.object ≢ object_of h.layout x → IsZero k → IsZero (known_behind k (zeroed_steps site image h p))
  zero_elsewhere p k other zeros = by (is_whole h p) (is_inside h p.object)
    where
      by : (whole inside : Bool) → IsZero (known_behind k (zeroed_by site image (context_of h) p whole inside))
      by true true =
          emptied_elsewhere p.object other (learned k site (map_set image p.object 1) answer.Done) (context_of h) (set_elsewhere p.object other k 1 zeros)
      by true false =
          let marked = learned k site (map_set image p.object 2) answer.Done in
          set_elsewhere p.object other (learned marked site (data_remove image (context_of h) p.object) answer.Done) 0
          (removed_elsewhere p.object other marked (context_of h) (set_elsewhere p.object other k 2 zeros))
      by false true =
          zeroed_elsewhere p.object other (learned k site (map_set image p.object 1) answer.Done) (context_of h) true p refl (set_elsewhere p.object other k 1 zeros)
      by false false = zeroed_elsewhere p.object other k (context_of h) false p refl zeros

  -- ---- where its own object changes

  changed_there : (k : Knowledge) (change : ObjectsKnown → ObjectsKnown) → ((o : ObjectsKnown) → IsZeroByChange (change o) h x) → IsZeroByChange (objects_known_of (with_objects site image change k).objects site image) h x
  changed_there k change makes = subst (λ o. IsZeroByChange o h x) (sym (objects_changed k site image change)) (makes (objects_known_of k.objects site image))

  -- a byte of the piece becomes zero
  zero_there : (p : Piece) (k : Knowledge) → p.object ≡ object_of h.layout x → Any (IsIn x) p.parts → IsZeroByChange (objects_known_of (known_behind k (zeroed_steps site image h p)).objects site image) h x
  zero_there p k is among = by (is_whole h p) (is_inside h p.object)
    where
      some : Blank
      some = record { object = p.object; parts = Some p.parts }

      all : Blank
      all = record { object = p.object; parts = None }

      by : (whole inside : Bool) → IsZeroByChange (objects_known_of (known_behind k (zeroed_by site image (context_of h) p whole inside)).objects site image) h x
      by true true =
          changed_there (learned k site (map_set image p.object 1) answer.Done) (λ o. blanked p.object None (made p.object o)) (λ o. Any-here IsBlank all (made p.object o).blank (is, tt))
      by true false =
          changed_there (learned k site (map_set image p.object 2) answer.Done) (removed p.object) (λ o. Any-here IsBlank all o.blank (is, tt))
      by false true =
          changed_there (learned k site (map_set image p.object 1) answer.Done) (λ o. blanked p.object (Some p.parts) (found_where true p.object o)) (λ o. Any-here IsBlank some o.blank (is, among))
      by false false = changed_there k (λ o. blanked p.object (Some p.parts) (found_where false p.object o)) (λ o. Any-here IsBlank some o.blank (is, among))

  -- ---- piece by piece

  -- the piece has all bytes of its object that this one is among
  abbrev pub Takes : Piece → Type 0
  Takes p = p.object ≡ object_of h.layout x → Any (IsIn x) p.parts

  zero_step : (p : Piece) (pieces : List Piece) (k : Knowledge) → Takes p → IsZero k ⊎ Any (λ (q : Piece). q.object ≡ object_of h.layout x) (p ∷ pieces)
      → IsZero (known_behind k (zeroed_steps site image h p)) ⊎ Any (λ (q : Piece). q.object ≡ object_of h.layout x) pieces
  zero_step p pieces k takes either = go (eqb_tells p.object (object_of h.layout x)) either
    where
      later : p.object ≢ object_of h.layout x → Any (λ (q : Piece). q.object ≡ object_of h.layout x) (p ∷ pieces) → Any (λ (q : Piece). q.object ≡ object_of h.layout x) pieces
      later other (zero, y, less, is, same) = absurd (other (ap (λ (q : Piece). q.object) is ∙ same))
      later other (suc n, y, less, is, same) = (n, y, omega arith, is, same)

      go : ((p.object == object_of h.layout x ≡ true) × (p.object ≡ object_of h.layout x)) ⊎ ((p.object == object_of h.layout x ≡ false) × (p.object ≢ object_of h.layout x))
          → IsZero k ⊎ Any (λ (q : Piece). q.object ≡ object_of h.layout x) (p ∷ pieces) → IsZero (known_behind k (zeroed_steps site image h p)) ⊎ Any (λ (q : Piece). q.object ≡ object_of h.layout x) pieces
      go (inl (is, same)) either = inl (inr (zero_there p k same (takes same)))
      go (inr (is, other)) (inl zeros) = inl (zero_elsewhere p k other zeros)
      go (inr (is, other)) (inr found) = inr (later other found)

  -- whichever steps they were
  zeroed_step : (p : Piece) (pieces : List Piece) (k : Knowledge) (steps : List Answered) → IsZeroed site image h p steps → Takes p
      → IsZero k ⊎ Any (λ (q : Piece). q.object ≡ object_of h.layout x) (p ∷ pieces) → IsZero (known_behind k steps) ⊎ Any (λ (q : Piece). q.object ≡ object_of h.layout x) pieces
  zeroed_step p pieces k steps is takes either =
      subst (λ steps. IsZero (known_behind k steps) ⊎ Any (λ (q : Piece). q.object ≡ object_of h.layout x) pieces) (sym is) (zero_step p pieces k takes either)

  pub zeros_there : (pieces : List Piece) (k : Knowledge) (steps : List Answered) → AreZeroed site image h pieces steps → All Takes pieces
      → IsZero k ⊎ Any (λ (q : Piece). q.object ≡ object_of h.layout x) pieces → IsZero (known_behind k steps)
  zeros_there [] k steps none take (inl zeros) = subst (λ steps. IsZero (known_behind k steps)) (sym none) zeros
  zeros_there [] k steps none take (inr (n, y, less, is, same)) = absurd (omega arith)
  zeros_there (p ∷ pieces) k steps are take either =
      subst (λ steps. IsZero (known_behind k steps)) (sym are.are)
      (subst IsZero (sym (behind_more k are.first are.others))
      (zeros_there pieces (known_behind k are.first) are.others are.are_others (All-tail Takes p pieces take)
      (zeroed_step p pieces k are.first are.is_first (All-head Takes p pieces take) either)))
