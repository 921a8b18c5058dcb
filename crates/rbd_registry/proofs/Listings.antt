-- Directories, one step later.
use Rattle.std.proofs.Common.{◌≡◌, ℕ, ◌+◌, ◌-◌, ◌<◌, ◌≤◌, ◌^◌, Bool, true, false, cond, eqb, leb, not, ◌||◌, List, [], ◌∷◌, length, is_some, Option, Some, None, refl, sym, ◌∙◌, ap, subst, arith, suc, ◌⊎◌, inl, inr}
use Rattle.std.specs.Prelude.{◌↔◌, IsTrue}
use Rattle.std.specs.Bool.{OnFalse}
use Rattle.std.specs.List.{filter, list_any, slice_get}
use Rattle.std.specs.Map.{lookup, keys_of, values_of}
use Rattle.std.specs.BTreeMap.{is_at}
use Rattle.std.specs.Ordering.{eq_by_cmp}
use Rattle.std.specs.Cmp.{Equal-is, tied_itself, eq_by_cmp_equiv}
use Rattle.std.specs.Cmp.Lexicographic.{nat_list_cmp_total}
use Rattle.std.specs.List.Sorted.{IsStrictlySortedBy}
use Rattle.std.specs.FinMap as finmap
use Rattle.std.proofs.lemmas.Bool.{true≢false, eqb-true, eqb-false, leb-true, leb-false, eq-eqb, ne_eqb}
use Rattle.std.proofs.lemmas.Map.Lookups.{exact_bytes}
use Rattle.std.proofs.lemmas.Map.Keys.{IsDistinct-from_sorted}
use Rattle.std.proofs.lemmas.Map.Entries.{option_filter, lookup-filter-values, lookup_from_place}
use Rattle.rbd_registry.specs.Directory.{Listing, name_cmp, nothing_listed, listing_of, id_of, but, is_full, added, freed, holds_id, renamed, IsNamed, IsSoundListing}
use Rattle.rbd_values.proofs.Ordered.{get_entries, one_given, one_taken, entries_in_order, len_in_order, taken_and_given}

-- ---- from entries to names

pub id_listed : (es : List (List ℕ × ℕ)) (n : ℕ) (name : List ℕ) → id_of (listing_of es n) name ≡ lookup (is_at (name_cmp name)) es
id_listed es n name = get_entries nat_list_cmp_total es name

pub full_listed : (es : List (List ℕ × ℕ)) (n : ℕ) → IsStrictlySortedBy name_cmp (keys_of es) → is_full (listing_of es n) ≡ (leb 4096 (length es) || eqb n 4294967295)
full_listed es n sorted = ap (λ k. leb 4096 k || eqb n 4294967295) (len_in_order nat_list_cmp_total es sorted)

pub full_by_len : (es : List (List ℕ × ℕ)) (n : ℕ) (d : Listing) → IsStrictlySortedBy name_cmp (keys_of es) → listing_of es n ≡ d → 4096 ≤ length es → true ≡ is_full d
full_by_len es n d sorted view h = sym (sym (ap is_full view) ∙ full_listed es n sorted ∙ ap (λ b. b || eqb n 4294967295) (many (leb 4096 (length es)) refl))
  where
    many : (b : Bool) → leb 4096 (length es) ≡ b → leb 4096 (length es) ≡ true
    many true e = e
    many false e = let few = leb-false 4096 (length es) e in absurd (omega arith)

pub full_by_drawn : (es : List (List ℕ × ℕ)) (n : ℕ) (d : Listing) → IsStrictlySortedBy name_cmp (keys_of es) → listing_of es n ≡ d → length es < 4096 → eqb n 4294967295 ≡ is_full d
full_by_drawn es n d sorted view h = sym (sym (ap is_full view) ∙ full_listed es n sorted ∙ ap (λ b. b || eqb n 4294967295) (few (leb 4096 (length es)) refl))
  where
    few : (b : Bool) → leb 4096 (length es) ≡ b → leb 4096 (length es) ≡ false
    few false e = e
    few true e = let many = leb-true 4096 (length es) e in absurd (omega arith)

pub add_listed : (es fs : List (List ℕ × ℕ)) (n : ℕ) (name : List ℕ)
    → ((q : List ℕ) → lookup (is_at (name_cmp q)) fs ≡ cond (is_at (name_cmp name) q) (Some (n + 1)) (lookup (is_at (name_cmp q)) es))
    → listing_of fs (n + 1) ≡ added name (listing_of es n)
add_listed es fs n name h = ap (λ (m : finmap.FinMap name_cmp ℕ). record { names = m; drawn = n + 1 }) (one_given nat_list_cmp_total exact_bytes es fs name (n + 1) h)

-- ---- what a name has after a step

tie : List ℕ → List ℕ → Bool
tie q name = eq_by_cmp name_cmp q name

tied : (q name : List ℕ) → tie q name ≡ true → q ≡ name
unfolding tie
tied q name e = exact_bytes q name ((Equal-is (name_cmp q name)).0 e)

tied_self : (a b : List ℕ) → a ≡ b → tie a b ≡ true
unfolding tie
tied_self a b e = subst (λ c. tie a c ≡ true) e ((Equal-is (name_cmp a a)).1 (tied_itself nat_list_cmp_total a))

id_added : (d : Listing) (name q : List ℕ) → id_of (added name d) q ≡ cond (tie q name) (Some (d.drawn + 1)) (id_of d q)
unfolding tie
id_added d name q = finmap.get-insert nat_list_cmp_total d.names name (d.drawn + 1) q

id_renamed : (d : Listing) (from to : List ℕ) (image : ℕ) (q : List ℕ) → id_of (renamed (Some image) from to d) q ≡ cond (tie q to) (Some image) (cond (tie q from) None (id_of d q))
unfolding tie
id_renamed d from to image q =
    finmap.get-insert nat_list_cmp_total (finmap.remove d.names from) to image q
    ∙ ap (cond (tie q to) (Some image)) (finmap.get-remove nat_list_cmp_total d.names from q)

-- ---- soundness

pub sound_new : IsSoundListing nothing_listed
sound_new = record {
  drawn = λ name image e. absurd (true≢false (sym (sym (ap is_some (finmap.get-empty name_cmp name)) ∙ ap is_some e)));
  one_name = λ a b image e g. absurd (true≢false (sym (sym (ap is_some (finmap.get-empty name_cmp a)) ∙ ap is_some e)));
  few = omega (arith, finmap.len-empty name_cmp ℕ);
  last = omega arith;
}

room_in : (d : Listing) → is_full d ≡ false → (finmap.len d.names < 4096) × (d.drawn ≡ 4294967295 → ⊥)
room_in d e = go (leb 4096 (finmap.len d.names)) refl (eqb d.drawn 4294967295) refl e
  where
    go : (a : Bool) → leb 4096 (finmap.len d.names) ≡ a → (b : Bool) → eqb d.drawn 4294967295 ≡ b → (a || b) ≡ false → (finmap.len d.names < 4096) × (d.drawn ≡ 4294967295 → ⊥)
    go true p b q h = absurd (true≢false h)
    go false p true q h = absurd (true≢false h)
    go false p false q h = (leb-false 4096 (finmap.len d.names) p, eqb-false d.drawn 4294967295 q)

pub last_below : (d : Listing) → is_full d ≡ false → d.drawn < 2 ^ 32 → d.drawn + 1 < 2 ^ 32
last_below d e h = let ne = (room_in d e).1 in omega arith

pub sound_added : (d : Listing) (name : List ℕ) → IsSoundListing d → is_full d ≡ false → IsSoundListing (added name d)
sound_added d name s e = record {
  drawn = λ q image h. drawn_at q image (tie q name) refl (sym (id_added d name q) ∙ h);
  one_name = λ a b image p q. one_at a b image (tie a name) refl (tie b name) refl (sym (id_added d name a) ∙ p) (sym (id_added d name b) ∙ q);
  few = few_at (finmap.contains_key d.names name) (finmap.len-insert nat_list_cmp_total d.names name (d.drawn + 1));
  last = last_below d e s.last;
}
  where
    drawn_at : (q : List ℕ) (image : ℕ) (b : Bool) → tie q name ≡ b → cond b (Some (d.drawn + 1)) (id_of d q) ≡ Some image → (0 < image) × (image ≤ d.drawn + 1)
    drawn_at q image true t h = let same : d.drawn + 1 ≡ image = cc in (omega arith, omega arith)
    drawn_at q image false t h = let old = s.drawn q image h in (old.0, omega arith)

    one_at : (a b : List ℕ) (image : ℕ) (x : Bool) → tie a name ≡ x → (y : Bool) → tie b name ≡ y → cond x (Some (d.drawn + 1)) (id_of d a) ≡ Some image → cond y (Some (d.drawn + 1)) (id_of d b) ≡ Some image → a ≡ b
    one_at a b image true t true u p q = tied a name t ∙ sym (tied b name u)
    one_at a b image true t false u p q = let same : d.drawn + 1 ≡ image = cc in let old : image ≤ d.drawn = (s.drawn b image q).1 in absurd (omega arith)
    one_at a b image false t true u p q = let same : d.drawn + 1 ≡ image = cc in let old : image ≤ d.drawn = (s.drawn a image p).1 in absurd (omega arith)
    one_at a b image false t false u p q = s.one_name a b image p q

    few_at : (b : Bool) → finmap.len (finmap.insert d.names name (d.drawn + 1)) ≡ cond b (finmap.len d.names) (finmap.len d.names + 1) → finmap.len (finmap.insert d.names name (d.drawn + 1)) ≤ 4096
    few_at true l = let f = s.few in omega arith
    few_at false l = let f = (room_in d e).0 in omega arith

pub sound_renamed : (d : Listing) (from to : List ℕ) (image : ℕ) → IsSoundListing d → id_of d from ≡ Some image → IsSoundListing (renamed (Some image) from to d)
sound_renamed d from to image s held = record {
  drawn = λ q i h. drawn_at q i (tie q to) (tie q from) (sym (id_renamed d from to image q) ∙ h);
  one_name = λ a b i p q. one_at a b i (tie a to) refl (tie a from) refl (tie b to) refl (tie b from) refl (sym (id_renamed d from to image a) ∙ p) (sym (id_renamed d from to image b) ∙ q);
  few = few_at (finmap.contains_key (finmap.remove d.names from) to) (finmap.len-insert nat_list_cmp_total (finmap.remove d.names from) to image);
  last = s.last;
}
  where
    drawn_at : (q : List ℕ) (i : ℕ) (x y : Bool) → cond x (Some image) (cond y None (id_of d q)) ≡ Some i → (0 < i) × (i ≤ d.drawn)
    drawn_at q i true y h = s.drawn from i (held ∙ h)
    drawn_at q i false true h = cc
    drawn_at q i false false h = s.drawn q i h

    other : (a : List ℕ) (i : ℕ) → tie a from ≡ false → id_of d a ≡ Some i → image ≡ i → ⊥
    other a i apart h same = true≢false (sym (tied_self a from (s.one_name a from i h (held ∙ ap Some same))) ∙ apart)

    one_at : (a b : List ℕ) (i : ℕ) (x : Bool) → tie a to ≡ x → (x' : Bool) → tie a from ≡ x' → (y : Bool) → tie b to ≡ y → (y' : Bool) → tie b from ≡ y'
        → cond x (Some image) (cond x' None (id_of d a)) ≡ Some i → cond y (Some image) (cond y' None (id_of d b)) ≡ Some i → a ≡ b
    one_at a b i true t x' t' true u y' u' p q = tied a to t ∙ sym (tied b to u)
    one_at a b i true t x' t' false u true u' p q = cc
    one_at a b i true t x' t' false u false u' p q = let same : image ≡ i = cc in absurd (other b i u' q same)
    one_at a b i false t true t' y u y' u' p q = cc
    one_at a b i false t false t' true u y' u' p q = let same : image ≡ i = cc in absurd (other a i t' p same)
    one_at a b i false t false t' false u true u' p q = cc
    one_at a b i false t false t' false u false u' p q = s.one_name a b i p q

    there : finmap.contains_key d.names from ≡ true
    there = ap is_some held

    some_held : finmap.len d.names ≡ 0 → ⊥
    some_held e = absurd (true≢false (sym there ∙ ap (λ (m : finmap.FinMap name_cmp ℕ). finmap.contains_key m from) (finmap.empty_of_len d.names e) ∙ ap is_some (finmap.get-empty name_cmp from)))

    shorter : 1 + finmap.len (finmap.remove d.names from) ≡ finmap.len d.names
    shorter = let one_less = finmap.len-remove nat_list_cmp_total d.names from ∙ ap (λ b. cond b (finmap.len d.names - 1) (finmap.len d.names)) there in let some = some_held in omega arith

    few_at : (b : Bool) → finmap.len (finmap.insert (finmap.remove d.names from) to image) ≡ cond b (finmap.len (finmap.remove d.names from)) (finmap.len (finmap.remove d.names from) + 1)
        → finmap.len (finmap.insert (finmap.remove d.names from) to image) ≤ 4096
    few_at true l = let f = s.few in omega (arith, shorter)
    few_at false l = let f = s.few in omega (arith, shorter)

-- a name that is held isn't one that is free
pub held_and_free : (d : Listing) (from to : List ℕ) (image : ℕ) → id_of d from ≡ Some image → is_some (id_of d to) ≡ false → from ≡ to → ⊥
held_and_free d from to image held free same = true≢false (ap is_some (sym held) ∙ ap (λ name. is_some (id_of d name)) same ∙ free)

-- ---- a name replaced, the new one first

pub rename_listed : (es fs gs : List (List ℕ × ℕ)) (n : ℕ) (from to : List ℕ) (image : ℕ) → (from ≡ to → ⊥)
    → ((q : List ℕ) → lookup (is_at (name_cmp q)) fs ≡ cond (is_at (name_cmp to) q) (Some image) (lookup (is_at (name_cmp q)) es))
    → ((q : List ℕ) → lookup (is_at (name_cmp q)) gs ≡ cond (is_at (name_cmp from) q) None (lookup (is_at (name_cmp q)) fs))
    → listing_of gs n ≡ renamed (Some image) from to (listing_of es n)
rename_listed es fs gs n from to image ne h k =
    let with_names : finmap.FinMap name_cmp ℕ → Listing = λ m. record { names = m; drawn = n } in
    ap with_names
    (one_taken nat_list_cmp_total exact_bytes fs gs from k
    ∙ ap (λ (m : finmap.FinMap name_cmp ℕ). finmap.remove m from) (one_given nat_list_cmp_total exact_bytes es fs to image h)
    ∙ taken_and_given nat_list_cmp_total exact_bytes (finmap.from_entries es) from to image ne)

-- ---- an image's name freed

module _ (image : ℕ) where
  abbrev pub stays : List ℕ × ℕ → Bool
  stays e = not (eqb e.1 image)

  at_most : (b : Bool) (e : List ℕ × ℕ) (fs es : List (List ℕ × ℕ)) → length fs ≤ length es → length (cond b (e ∷ fs) fs) ≤ length (e ∷ es)
  at_most true e fs es h = omega arith
  at_most false e fs es h = omega arith

  shorter : (es : List (List ℕ × ℕ)) → length (filter stays es) ≤ length es
  shorter [] = omega arith
  shorter (e ∷ es) = at_most (stays e) e (filter stays es) es (shorter es)

  -- an entry of the image is there, and goes
  pub record Goes (es : List (List ℕ × ℕ)) : Type 0 where
    pub place : ℕ
    pub name : List ℕ
    pub there : slice_get es place ≡ Some (name, image)
    pub fewer : length (filter stays es) < length es

  -- an entry goes, or none does
  splits : (es : List (List ℕ × ℕ)) → Goes es ⊎ (filter stays es ≡ es)
  splits [] = inr refl
  splits (e ∷ es) = go (eqb e.1 image) refl (splits es) (shorter es)
    where
      go : (b : Bool) → eqb e.1 image ≡ b → Goes es ⊎ (filter stays es ≡ es) → length (filter stays es) ≤ length es → Goes (e ∷ es) ⊎ (filter stays (e ∷ es) ≡ e ∷ es)
      go true t rest l =
          let gone : filter stays (e ∷ es) ≡ filter stays es = ap (λ b. cond (not b) (e ∷ filter stays es) (filter stays es)) t in
          let long = ap length gone in
          inl (record { place = 0; name = e.0; there = ap (λ v. Some (e.0, v)) (eqb-true e.1 image t); fewer = omega arith })
      go false t (inl found) l =
          let kept : filter stays (e ∷ es) ≡ e ∷ filter stays es = ap (λ b. cond (not b) (e ∷ filter stays es) (filter stays es)) t in
          let long = ap length kept in
          let fewer = found.fewer in
          inl (record { place = suc found.place; name = found.name; there = found.there; fewer = omega arith })
      go false t (inr same) l = inr (ap (λ b. cond (not b) (e ∷ filter stays es) (filter stays es)) t ∙ ap (λ fs. e ∷ fs) same)

  module _ (es : List (List ℕ × ℕ)) (n : ℕ) (sorted : IsStrictlySortedBy name_cmp (keys_of es)) where
    pub free_listed : listing_of (filter stays es) n ≡ freed image (listing_of es n)
    free_listed = ap (λ (gs : List (List ℕ × ℕ)). listing_of (filter stays gs) n) (sym (entries_in_order nat_list_cmp_total es sorted))

    filtered : (o : Option ℕ) → option_filter (λ held. not (eqb held image)) o ≡ but image o
    filtered None = refl
    filtered (Some held) = go (eqb held image)
      where
        go : (b : Bool) → cond (not b) (Some held) None ≡ cond b None (Some held)
        go true = refl
        go false = refl

    pub id_freed : (name : List ℕ) → id_of (listing_of (filter stays es) n) name ≡ but image (id_of (listing_of es n) name)
    id_freed name =
        id_listed (filter stays es) n name
        ∙ lookup-filter-values (eq_by_cmp_equiv nat_list_cmp_total) (λ held. not (eqb held image)) name es (IsDistinct-from_sorted name_cmp (keys_of es) sorted)
        ∙ filtered (lookup (is_at (name_cmp name)) es)
        ∙ ap (but image) (sym (id_listed es n name))

    kept : (o : Option ℕ) (held : ℕ) → but image o ≡ Some held → o ≡ Some held
    kept None held e = e
    kept (Some x) held e = go (eqb x image) e
      where
        go : (b : Bool) → cond b None (Some x) ≡ Some held → Some x ≡ Some held
        go true e = cc
        go false e = e

    pub sound_freed : IsStrictlySortedBy name_cmp (keys_of (filter stays es)) → IsSoundListing (listing_of es n) → IsSoundListing (listing_of (filter stays es) n)
    sound_freed ordered s =
        let old : (name : List ℕ) (i : ℕ) → id_of (listing_of (filter stays es) n) name ≡ Some i → id_of (listing_of es n) name ≡ Some i = λ name i e. kept _ i (sym (id_freed name) ∙ e) in
        record {
          drawn = λ name i e. s.drawn name i (old name i e);
          one_name = λ a b i p q. s.one_name a b i (old a i p) (old b i q);
          few = omega (arith, s.few, len_in_order nat_list_cmp_total es sorted, len_in_order nat_list_cmp_total (filter stays es) ordered, shorter es);
          last = s.last;
        }

    -- the answer tells whether there was one
    pub found_freed : (after before : ℕ) → after ≡ length (filter stays es) → before ≡ length es → IsTrue (not (eqb after before)) ↔ IsNamed (listing_of es n) image
    found_freed after before p q = elim (splits es) [
      | inl found ↦
          let fewer : length (filter stays es) < length es = found.fewer in
          let there = id_listed es n found.name ∙ lookup_from_place (eq_by_cmp_equiv nat_list_cmp_total) es found.place found.name image (IsDistinct-from_sorted name_cmp (keys_of es) sorted) found.there in
          (λ _. (found.name, there), λ _. ap not (ne_eqb after before (λ same. omega arith)))
      | inr same ↦
          let equal : after ≡ before = p ∙ ap length same ∙ sym q in
          (λ t. absurd (true≢false (sym t ∙ ap not (eq-eqb after before equal))), λ named. absurd (gone named.0 (ap (λ gs. id_of (listing_of gs n) named.0) same) named.1))
    ]
      where
        gone : (name : List ℕ) → id_of (listing_of (filter stays es) n) name ≡ id_of (listing_of es n) name → id_of (listing_of es n) name ≡ Some image → ⊥
        gone name same there = none (eqb image image) (eq-eqb image image refl) (sym (id_freed name ∙ ap (but image) there) ∙ same ∙ there)
          where
            none : (b : Bool) → b ≡ true → cond b None (Some image) ≡ Some image → ⊥
            none true t e = cc
            none false t e = cc

    -- a name has the id exactly where one of the values is it
    held_listed : holds_id image (listing_of es n) ≡ list_any (λ e. eqb e.1 image) es
    held_listed = ap (list_any (λ e. eqb e.1 image)) (entries_in_order nat_list_cmp_total es sorted)

    valued : (fs : List (List ℕ × ℕ)) → list_any (λ held. eqb held image) (values_of fs) ≡ list_any (λ e. eqb e.1 image) fs
    valued [] = refl
    valued (e ∷ fs) = ap (λ b. eqb e.1 image || b) (valued fs)

    pub held_valued : list_any (λ held. eqb held image) (values_of es) ≡ holds_id image (listing_of es n)
    held_valued = valued es ∙ sym held_listed

    one_or_none : (fs : List (List ℕ × ℕ)) → ((list_any (λ e. eqb e.1 image) fs ≡ true) × (length (filter stays fs) < length fs)) ⊎ ((list_any (λ e. eqb e.1 image) fs ≡ false) × (filter stays fs ≡ fs))
    one_or_none [] = inr (refl, refl)
    one_or_none (e ∷ fs) = go (eqb e.1 image) refl (one_or_none fs) (shorter fs)
      where
        go : (b : Bool) → eqb e.1 image ≡ b
            → ((list_any (λ e. eqb e.1 image) fs ≡ true) × (length (filter stays fs) < length fs)) ⊎ ((list_any (λ e. eqb e.1 image) fs ≡ false) × (filter stays fs ≡ fs))
            → length (filter stays fs) ≤ length fs
            → ((b || list_any (λ e. eqb e.1 image) fs ≡ true) × (length (cond (not b) (e ∷ filter stays fs) (filter stays fs)) < suc (length fs)))
            ⊎ ((b || list_any (λ e. eqb e.1 image) fs ≡ false) × (cond (not b) (e ∷ filter stays fs) (filter stays fs) ≡ e ∷ fs))
        go true t rest l = inl (refl, omega arith)
        go false t (inl found) l = let fewer = found.1 in inl (found.0, omega arith)
        go false t (inr same) l = inr (same.0, ap (λ gs. e ∷ gs) same.1)

    -- whether there are fewer tells whether a name has the id
    pub held_freed : (after before : ℕ) → after ≡ length (filter stays es) → before ≡ length es → not (eqb after before) ≡ holds_id image (listing_of es n)
    held_freed after before p q =
        elim (one_or_none es) [
          | inl found ↦ let fewer = found.1 in ap not (ne_eqb after before (λ same. omega arith)) ∙ sym found.0
          | inr same ↦ ap not (eq-eqb after before (p ∙ ap length same.1 ∙ sym q)) ∙ sym same.0
        ]
        ∙ sym held_listed

    pub same_freed : (after before : ℕ) → after ≡ length (filter stays es) → before ≡ length es → OnFalse (not (eqb after before)) (listing_of (filter stays es) n ≡ listing_of es n)
    same_freed after before p q = elim (splits es) [
      | inl found ↦
          let fewer : length (filter stays es) < length es = found.fewer in
          on_false (not (eqb after before)) (λ e. absurd (true≢false (sym (ap not (ne_eqb after before (λ same. omega arith))) ∙ e)))
      | inr same ↦ on_false (not (eqb after before)) (λ _. ap (λ gs. listing_of gs n) same)
    ]
      where
        on_false : {P : Type 0} (b : Bool) → (b ≡ false → P) → OnFalse b P
        on_false true p = tt
        on_false false p = p refl
