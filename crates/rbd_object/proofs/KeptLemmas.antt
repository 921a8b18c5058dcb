-- What a list of versions keeps, look-up by look-up.
use Rattle.std.proofs.Common.{◌≡◌, ℕ, Bool, true, false, cond, ◌&&◌, ◌||◌, ◌==◌, List, [], ◌∷◌, filter, find, map, Option, Some, None, option_map, refl, sym, ap, ◌∙◌, subst, IsTrue, arith}
use Rattle.std.proofs.lemmas.Cmp.{nat_cmp_total}
use Rattle.std.specs.List.{list_all}
use Rattle.std.specs.List.Retain.{RetainsInTurn}
use Rattle.std.specs.Cmp.{unsigned_tied}
use Rattle.std.specs.Ordering.{nat_cmp}
use Rattle.std.specs.FinMap.{FinMap, get, get-insert, get-empty, get-retain_keys, retain_keys, same_map, nat_cmp-IsAntisymmetric}
use Rattle.rbd_kinds.proofs.Plain.{eqb_flip}
use Rattle.rbd_object.specs.Kept.{Kept, AreNewest, AreUsed, is_needed, is_listed, keep_each, kept_by, live_part}

cond_or : {A : Type 0} (a b : Bool) (x y : A) → cond a x (cond b x y) ≡ cond (a || b) x y
cond_or true b x y = refl
cond_or false b x y = refl

pub get-keep_each : (bytes : List ℕ) (snaps : List ℕ) (kept : FinMap nat_cmp (List ℕ)) (snap : ℕ)
    → get (keep_each bytes snaps kept) snap ≡ cond (is_listed snaps snap) (Some bytes) (get kept snap)
get-keep_each bytes [] kept snap = refl
get-keep_each bytes (s ∷ snaps) kept snap =
    get-insert nat_cmp_total (keep_each bytes snaps kept) s bytes snap
    ∙ ap (λ b. cond b (Some bytes) (get (keep_each bytes snaps kept) snap)) (unsigned_tied snap s ∙ eqb_flip snap s)
    ∙ ap (cond (s == snap) (Some bytes)) (get-keep_each bytes snaps kept snap)
    ∙ cond_or (s == snap) (is_listed snaps snap) (Some bytes) (get kept snap)

pub is_listed-filter : (p : ℕ → Bool) (snaps : List ℕ) (snap : ℕ) → is_listed (filter p snaps) snap ≡ (p snap && is_listed snaps snap)
is_listed-filter p [] snap = grind arith
is_listed-filter p (s ∷ snaps) snap = grind (arith, is_listed-filter p snaps snap)

-- the versions are looked through from the newest on
pub get_kept_by : (versions : List Kept) (snap : ℕ)
    → get (kept_by versions) snap ≡ option_map (λ v. v.bytes) (find (λ v. is_listed v.snaps snap) versions)
get_kept_by [] snap = get-empty nat_cmp snap
get_kept_by (v ∷ versions) snap =
    get-keep_each v.bytes v.snaps (kept_by versions) snap
    ∙ ap (cond (is_listed v.snaps snap) (Some v.bytes)) (get_kept_by versions snap)
    ∙ (elim (is_listed v.snaps snap)
    as (λ b. cond b (Some v.bytes) (option_map (λ w. w.bytes) (find (λ w. is_listed w.snaps snap) versions))
    ≡ option_map (λ w. w.bytes) (cond b (Some v) (find (λ w. is_listed w.snaps snap) versions)))
    [ true ↦ refl | false ↦ refl ])

-- a trim of a map, look-up by look-up
pub get-live : (live : List ℕ) (kept : FinMap nat_cmp (List ℕ)) (snap : ℕ)
    → get (retain_keys kept (is_listed live)) snap ≡ cond (is_listed live snap) (get kept snap) None
get-live live kept snap = get-retain_keys kept (is_listed live) snap (λ x e. ap (is_listed live) (sym (nat_cmp-IsAntisymmetric snap x e)))

live_choice : {A : Type 0} (live listed : Bool) (x : A) (y : Option A)
    → cond (live && listed) (Some x) (cond live y None) ≡ cond live (cond listed (Some x) y) None
live_choice true listed x y = refl
live_choice false listed x y = refl

pub get-live_versions : (live : List ℕ) (versions : List Kept) (snap : ℕ)
    → get (kept_by (map (live_part live) versions)) snap ≡ cond (is_listed live snap) (get (kept_by versions) snap) None
get-live_versions live [] snap = elim (is_listed live snap) as (λ b. get (kept_by []) snap ≡ cond b (get (kept_by []) snap) None) [
  | true ↦ refl
  | false ↦ get-empty nat_cmp snap
]
get-live_versions live (v ∷ versions) snap =
    get-keep_each v.bytes (filter (is_listed live) v.snaps) (kept_by (map (live_part live) versions)) snap
    ∙ ap (λ b. cond b (Some v.bytes) (get (kept_by (map (live_part live) versions)) snap)) (is_listed-filter (is_listed live) v.snaps snap)
    ∙ ap (cond (is_listed live snap && is_listed v.snaps snap) (Some v.bytes)) (get-live_versions live versions snap)
    ∙ live_choice (is_listed live snap) (is_listed v.snaps snap) v.bytes (get (kept_by versions) snap)
    ∙ ap (λ x. cond (is_listed live snap) x None) (sym (get-keep_each v.bytes v.snaps (kept_by versions) snap))

-- to trim each version is to trim what they keep
pub kept_by-live : (live : List ℕ) (versions : List Kept)
    → kept_by (map (live_part live) versions) ≡ retain_keys (kept_by versions) (is_listed live)
kept_by-live live versions =
    same_map nat_cmp_total nat_cmp-IsAntisymmetric _ _
    (λ snap. get-live_versions live versions snap ∙ sym (get-live live (kept_by versions) snap))

kept_by-cond : (live : List ℕ) (v w : Kept) (stays : Bool) (kept rest : List Kept)
    → w ≡ live_part live v → (stays ≡ false → w.snaps ≡ []) → kept_by kept ≡ kept_by rest
    → kept_by (cond stays (w ∷ kept) kept) ≡ kept_by (live_part live v ∷ rest)
kept_by-cond live v w true kept rest e unused same =
    ap (λ (x : Kept). keep_each x.bytes x.snaps (kept_by kept)) e ∙ ap (keep_each v.bytes (filter (is_listed live) v.snaps)) same
kept_by-cond live v w false kept rest e unused same =
    same ∙ sym (ap (λ snaps. keep_each v.bytes snaps (kept_by rest)) (ap (λ (x : Kept). x.snaps) (sym e) ∙ unused refl))

-- a `retain_mut` that trims each version, and may drop one that is then for no snapshot
pub kept_by-retained : {F : Type 0} (R : F → Kept → Bool → F → Kept → Type 0) (live : List ℕ) (f : F)
    → ((v : Kept) (stays : Bool) (g : F) (w : Kept) → R f v stays g w → (g ≡ f) × (w ≡ live_part live v) × (stays ≡ false → w.snaps ≡ []))
    → (old new : List Kept) → RetainsInTurn R f old new → kept_by new ≡ kept_by (map (live_part live) old)
kept_by-retained R live f says [] new r = ap kept_by r
kept_by-retained R live f says (v ∷ old) new r =
    let said = says v r.0 r.1 r.2 r.3 in
    ap kept_by r.6
    ∙ kept_by-cond live v r.2 r.0 r.4 (map (live_part live) old) said.1 said.2
    (kept_by-retained R live f says old r.4 (subst (λ g. RetainsInTurn R g old r.4) said.0 r.5))

-- the same `retain_mut` leaves versions that are for some snapshot, where it drops the others
pub AreUsed-retained : {F : Type 0} (R : F → Kept → Bool → F → Kept → Type 0) (f : F)
    → ((v : Kept) (stays : Bool) (g : F) (w : Kept) → R f v stays g w → (g ≡ f) × (stays ≡ true → IsTrue (is_needed w)))
    → (old new : List Kept) → RetainsInTurn R f old new → AreUsed new
AreUsed-retained R f says [] new r = subst AreUsed (sym r) refl
AreUsed-retained R f says (v ∷ old) new r =
    let said = says v r.0 r.1 r.2 r.3 in
    subst AreUsed (sym r.6)
    (go r.0 said.1 (AreUsed-retained R f says old r.4 (subst (λ g. RetainsInTurn R g old r.4) said.0 r.5))) where
      go : (stays : Bool) → (stays ≡ true → IsTrue (is_needed r.2)) → AreUsed r.4 → AreUsed (cond stays (r.2 ∷ r.4) r.4)
      go true used rest = rw (used refl) rest
      go false used rest = rest

-- ---- what is kept by versions that are the newest for their snapshots

abbrev pub AreEmpty : List Kept → Type 0
AreEmpty [] = Unit {0}
AreEmpty (v ∷ versions) = (v.bytes ≡ []) × AreEmpty versions

used_both : (v : Kept) (versions : List Kept) → AreUsed (v ∷ versions) → IsTrue (is_needed v) × AreUsed versions
used_both v versions used = go (is_needed v) refl where
  go : (test : Bool) → is_needed v ≡ test → IsTrue (is_needed v) × AreUsed versions
  go true e = (e, sym (ap (λ t. t && list_all is_needed versions) e) ∙ used)
  go false e = let clash : false ≡ true = sym (ap (λ t. t && list_all is_needed versions) e) ∙ used in cc

first_kept : (bytes snaps : List ℕ) (rest : FinMap nat_cmp (List ℕ)) → IsTrue (is_needed (record { snaps = snaps; bytes = bytes }))
    → ((snap : ℕ) (found : List ℕ) → get (keep_each bytes snaps rest) snap ≡ Some found → found ≡ []) → bytes ≡ []
first_kept bytes [] rest used empty = cc
first_kept bytes (s ∷ snaps) rest used empty =
    empty s bytes
    (get-keep_each bytes (s ∷ snaps) rest s
    ∙ ap (λ b. cond b (Some bytes) (get rest s)) (let here : is_listed (s ∷ snaps) s ≡ true = grind arith in here))

pub kept_empty : (versions : List Kept) → AreUsed versions → AreNewest versions
    → ((snap : ℕ) (bytes : List ℕ) → get (kept_by versions) snap ≡ Some bytes → bytes ≡ []) → AreEmpty versions
kept_empty [] used newest empty = tt
kept_empty (v ∷ versions) used newest empty =
    let both = used_both v versions used in (
      first_kept v.bytes v.snaps (kept_by versions) both.0 empty,
      kept_empty versions both.1 newest.1 (λ snap bytes found. later snap bytes found (is_listed v.snaps snap) refl),
    ) where
      later : (snap : ℕ) (bytes : List ℕ) → get (kept_by versions) snap ≡ Some bytes → (test : Bool) → is_listed v.snaps snap ≡ test → bytes ≡ []
      later snap bytes found true e = let clash : None ≡ Some bytes = sym (newest.0 snap e) ∙ found in cc
      later snap bytes found false e =
          empty snap bytes
          (get-keep_each v.bytes v.snaps (kept_by versions) snap ∙ ap (λ b. cond b (Some v.bytes) (get (kept_by versions) snap)) e ∙ found)
