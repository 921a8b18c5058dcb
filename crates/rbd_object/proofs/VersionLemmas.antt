-- Versions that are left by a trim, and the pages that go.
use Rattle.std.proofs.Common.{◌≡◌, ℕ, ◌+◌, ◌<◌, ◌≤◌, Bool, true, false, cond, List, [], ◌∷◌, length, drop, get_or, sym, ap, ◌∙◌, subst, drop-cons, add-one, arith}
use Rattle.std.specs.List.Retain.{RetainsInTurn}
use Rattle.rbd_pages.specs.Sheaves.{Stock}
use Rattle.rbd_pages.specs.Sheets.{count_at}
use Rattle.rbd_object.specs.Shared.{Stored, AreNamed, dead_named, dead_sheaves, is_live, live_stored, live_versions, named}
use Rattle.rbd_pages.specs.Paging.{occurs, AreCounted}

pub live_next : (live : List ℕ) (v : Stored) (old : List Stored) (test : Bool) → is_live live v ≡ test
    → live_versions live (v ∷ old) ≡ cond test (live_stored live v ∷ live_versions live old) (live_versions live old)
live_next live v old true e = grind arith
live_next live v old false e = grind arith

-- a `retain_mut` that trims each version, and drops those that aren't live
pub retained_live : {F : Type 0} (R : F → Stored → Bool → F → Stored → Type 0) (live : List ℕ) (f : F)
    → ((v : Stored) (stays : Bool) (g : F) (w : Stored) → R f v stays g w → (g ≡ f) × (w ≡ live_stored live v) × (stays ≡ is_live live v))
    → (old new : List Stored) → RetainsInTurn R f old new → new ≡ live_versions live old
retained_live R live f says [] new r = r
retained_live R live f says (v ∷ old) new r =
    let said = says v r.0 r.1 r.2 r.3 in
    let rest = retained_live R live f says old r.4 (subst (λ g. RetainsInTurn R g old r.4) said.0 r.5) in
    r.6 ∙ ap (λ (w : Stored). cond r.0 (w ∷ r.4) r.4) said.1
    ∙ ap (λ (xs : List Stored). cond r.0 (live_stored live v ∷ xs) xs) rest
    ∙ sym (live_next live v old r.0 (sym said.2))

abbrev pub no_version : Stored
no_version = record { snaps = []; content = record { sheaves = []; len = 0 } }

next_version : (versions : List Stored) (i : ℕ) → i < length versions → drop i versions ≡ get_or versions i no_version ∷ drop (i + 1) versions
next_version versions i below = drop-cons versions i no_version below ∙ ap (λ n. get_or versions i no_version ∷ drop n versions) (sym (add-one i))

pub counted_version : (a : Stock) (versions : List Stored) (i : ℕ) → i < length versions → AreNamed a (drop i versions)
    → AreCounted a.sheaves (get_or versions i no_version).content.sheaves
counted_version a versions i below names = record {
  each = λ s. let sum = ap (named s) (next_version versions i below) in let most = names.each s in omega arith;
}

dead_few : (live : List ℕ) (s : ℕ) (v : Stored) → dead_sheaves live s v ≤ occurs s v.content.sheaves
dead_few live s v = grind arith

pub named_more : (a b : Stock) (live : List ℕ) (versions : List Stored) (i : ℕ) → i < length versions → AreNamed a (drop i versions)
    → ((s : ℕ) → count_at b.sheaves s + dead_sheaves live s (get_or versions i no_version) ≡ count_at a.sheaves s) → AreNamed b (drop (i + 1) versions)
named_more a b live versions i below names counts = record {
  each = λ s.
      let sum = ap (named s) (next_version versions i below) in
      let most = names.each s in
      let few = dead_few live s (get_or versions i no_version) in
      let count = counts s in
      omega arith;
}

pub dead_next : (live : List ℕ) (versions : List Stored) (i s : ℕ) → i < length versions
    → dead_named live s (drop i versions) ≡ dead_sheaves live s (get_or versions i no_version) + dead_named live s (drop (i + 1) versions)
dead_next live versions i s below = ap (dead_named live s) (next_version versions i below)
