-- A map that was changed at one key, as the function that a site's records have.
use Rattle.std.proofs.Common.{◌≡◌, ℕ, Bool, true, false, cond, eqb, ◌&&◌, Option, Some, None, is_some, refl, sym, ap, ◌∙◌}
use Rattle.std.specs.Prelude.{IsFalse}
use Rattle.std.specs.declared.cmp.Ordering.{Ordering}
use Rattle.std.specs.declared.cmp.Ordering.TheVariants.{Less, Equal, Greater}
use Rattle.std.specs.Ordering.{nat_cmp, ordering_then, is_eq}
use Rattle.std.specs.Cmp.{unsigned_tied}
use Rattle.std.specs.BTreeMap.{BTreeMap, get, is_at}
use Rattle.std.proofs.lemmas.Bool.{and_parts, eqb-true}
use Rattle.rbd_kinds.specs.declared.header.HeaderView.{HeaderView}
use Rattle.rbd_kinds.proofs.Plain.{eqb_flip}
use Rattle.rbd_object.specs.Mapped.{Mapped}
use Rattle.rbd_site.specs.declared.object_key.ObjectKey.{ObjectKey}
use Rattle.rbd_site.specs.Records.{put}
use Rattle.rbd_site.specs.Maps.{key, key_cmp, header_in, object_in}

pub is_eq-then : (a b : Ordering) → is_eq (ordering_then a b) ≡ (is_eq a && is_eq b)
is_eq-then Less b = refl
is_eq-then Equal b = refl
is_eq-then Greater b = refl

pub is_eq-nat_cmp : (a b : ℕ) → is_eq (nat_cmp a b) ≡ eqb b a
is_eq-nat_cmp a b = unsigned_tied a b ∙ eqb_flip a b

-- the key of an object is the key of one object
same_object : (k : ObjectKey) (i n : ℕ) → is_at (key_cmp k) (key i n) ≡ (eqb i k.image && eqb n k.number)
same_object k i n = is_eq-then (nat_cmp k.image i) (nat_cmp k.number n) ∙ (λ j. is_eq-nat_cmp k.image i j && is_eq-nat_cmp k.number n j)

-- the map differs at one object
pub object_put : (old new : BTreeMap ObjectKey Mapped) (k : ObjectKey) (held after : Option Mapped)
    → ((q : ObjectKey) → get key_cmp new q ≡ cond (is_at (key_cmp k) q) held (get key_cmp old q)) → held ≡ after
    → (i n : ℕ) → object_in new i n ≡ put (object_in old) k.image (put (object_in old k.image) k.number after) i n
object_put old new k held after at_key is i n =
    at_key (key i n) ∙ (λ j. cond (same_object k i n j) (is j) (object_in old i n)) ∙ go (eqb i k.image) refl
  where
    go : (t : Bool) → eqb i k.image ≡ t
        → cond (t && eqb n k.number) after (object_in old i n) ≡ cond t (put (object_in old k.image) k.number after) (object_in old i) n
    go true is = ap (λ image. cond (eqb n k.number) after (object_in old image n)) (eqb-true i k.image is)
    go false is = refl

-- the value that was there was written again
pub object_same : (old new : BTreeMap ObjectKey Mapped) (k : ObjectKey) (held : Option Mapped)
    → ((q : ObjectKey) → get key_cmp new q ≡ cond (is_at (key_cmp k) q) held (get key_cmp old q)) → held ≡ object_in old k.image k.number
    → (i n : ℕ) → object_in new i n ≡ object_in old i n
object_same old new k held at_key is i n =
    at_key (key i n) ∙ (λ j. cond (same_object k i n j) (is j) (object_in old i n)) ∙ go (eqb i k.image && eqb n k.number) refl
  where
    go : (t : Bool) → eqb i k.image && eqb n k.number ≡ t → cond t (object_in old k.image k.number) (object_in old i n) ≡ object_in old i n
    go true is =
        let parts = and_parts (eqb i k.image) (eqb n k.number) is in
        (λ j. object_in old (sym (eqb-true i k.image parts.0) j) (sym (eqb-true n k.number parts.1) j))
    go false is = refl

-- what is written back is the object after the operation
pub done_or_same : (done : Bool) (old new : Mapped) (after : Option Mapped)
    → after ≡ cond done (Some new) (Some old) → (IsFalse done → new ≡ old) → Some new ≡ after
done_or_same true old new after is same = sym is
done_or_same false old new after is same = ap Some (same refl) ∙ sym is

-- the map differs at one header
pub header_put : (old new : BTreeMap ℕ HeaderView) (k : ℕ) (held after : Option HeaderView)
    → ((q : ℕ) → get nat_cmp new q ≡ cond (is_at (nat_cmp k) q) held (get nat_cmp old q)) → held ≡ after
    → (i : ℕ) → header_in new i ≡ put (header_in old) k after i
header_put old new k held after at_key is i = at_key i ∙ (λ j. cond (is_eq-nat_cmp k i j) (is j) (header_in old i))

pub header_same : (old new : BTreeMap ℕ HeaderView) (k : ℕ) (held : Option HeaderView)
    → ((q : ℕ) → get nat_cmp new q ≡ cond (is_at (nat_cmp k) q) held (get nat_cmp old q)) → held ≡ header_in old k
    → (i : ℕ) → header_in new i ≡ header_in old i
header_same old new k held at_key is i = at_key i ∙ (λ j. cond (is_eq-nat_cmp k i j) (is j) (header_in old i)) ∙ go (eqb i k) refl
  where
    go : (t : Bool) → eqb i k ≡ t → cond t (header_in old k) (header_in old i) ≡ header_in old i
    go true is = ap (header_in old) (sym (eqb-true i k is))
    go false is = refl

pub none_from_test : {T : Type 0} (o : Option T) → is_some o ≡ false → o ≡ None
none_from_test None e = refl
none_from_test (Some x) e = cc
