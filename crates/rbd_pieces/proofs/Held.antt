-- The bytes of a whole piece are the first of its object, as many as the object has below the size.
use Rattle.std.proofs.Common.{◌≡◌, ◌⊎◌, inl, inr, ℕ, ◌+◌, ◌-◌, ◌/◌, ◌<◌, ◌≤◌, List, [], ◌∷◌, true, length, map, refl, ap, ◌∙◌, sym, subst, arith}
use Rattle.std.specs.List.{flat_map, range_with_len}
use Rattle.std.proofs.lemmas.List.{length-append}
use Rattle.std.proofs.lemmas.List.FromFn.{length-map-range_with_len, length-range_with_len}
use Rattle.rbd_kinds.specs.declared.header.HeaderView.{HeaderView}
use Rattle.rbd_kinds.specs.declared.layout.Layout.{Layout}
use Rattle.rbd_kinds.specs.declared.layout.Part.{Part}
use Rattle.rbd_kinds.specs.Parts.{parts_len}
use Rattle.rbd_kinds.specs.Striping.{IsLayout, byte_at, object_of, offset_of}
use Rattle.rbd_layout.specs.Pieces.{IsHeld, IsPartsOf, places_of}
use Rattle.rbd_layout.specs.declared.types.Piece.{Piece}
use Rattle.rbd_layout.proofs.Cover.{cover}
use Rattle.rbd_layout.proofs.Mixed.{cases_lt}
use Rattle.rbd_layout.proofs.Places.{byte_of_place, held_after, held_all, held_at_start, held_before, held_none, held_own, offset_within}
use Rattle.rbd_pieces.specs.Zero.{head_of, is_whole}
use Rattle.rbd_pieces.proofs.AllBytes.{whole_is_all}

-- how many bytes of an object lie below a byte
held_by : (l : Layout) → IsLayout l → (n m : ℕ) → (held : ℕ) × IsHeld l n m held
held_by l is n m = sets (cases_lt (n / l.count) (object_of l m / l.count))
  where
    objects : n / l.count ≡ object_of l m / l.count → (n < object_of l m) ⊎ ((n ≡ object_of l m) ⊎ (object_of l m < n)) → (held : ℕ) × IsHeld l n m held
    objects same (inl before) = (_, held_before l is n m same before)
    objects same (inr (inl own)) = (offset_of l m, subst (λ number. IsHeld l number m (offset_of l m)) (sym own) (held_own l is m))
    objects same (inr (inr after)) = (_, held_after l is n m same after)

    sets : (n / l.count < object_of l m / l.count) ⊎ ((n / l.count ≡ object_of l m / l.count) ⊎ (object_of l m / l.count < n / l.count)) → (held : ℕ) × IsHeld l n m held
    sets (inl before) = (l.object, held_all l is n m before)
    sets (inr (inl same)) = objects same (cases_lt n (object_of l m))
    sets (inr (inr after)) = (0, held_none l is n m after)

places_len : (parts : List Part) → length (flat_map places_of parts) ≡ parts_len parts
places_len [] = refl
places_len (p ∷ parts) =
    length-append (places_of p) (flat_map places_of parts) ∙ ap (λ n. n + length (flat_map places_of parts)) (length-range_with_len p.at p.len)
    ∙ ap (λ n. p.len + n) (places_len parts)

-- so many bytes are held below the size
pub whole_is_held : (h : HeaderView) (p : Piece) → IsLayout h.layout → is_whole h p ≡ true → IsHeld h.layout p.object h.size (parts_len p.parts)
whole_is_held h p is whole =
    let l = h.layout in
    let are : IsPartsOf l (head_of h) p.object p.parts = (whole_is_all h p is).0 whole in
    let (held, there) = held_by l is p.object h.size in
    let none_before : 0 + h.size ≡ h.size = omega arith in
    let places = cover l is p.object 0 h.size 0 held (held_at_start l p.object) (subst (λ below. IsHeld l p.object below held) (sym none_before) there) in
    let many : length (map (byte_at l p.object) (range_with_len 0 (held - 0))) ≡ held - 0 = length-map-range_with_len (byte_at l p.object) 0 (held - 0) in
    let len : parts_len p.parts ≡ held - 0 = sym (places_len p.parts) ∙ ap length are.cover ∙ ap length places ∙ many in
    let same : held ≡ parts_len p.parts = omega (arith, len) in
    subst (IsHeld l p.object h.size) same there

-- a byte past the size lies behind them
pub past_size : (h : HeaderView) (p : Piece) → IsLayout h.layout → is_whole h p ≡ true → (x : ℕ) → h.size ≤ x → object_of h.layout x ≡ p.object → parts_len p.parts ≤ offset_of h.layout x
past_size h p is whole x past this = go (cases_lt (offset_of h.layout x) (parts_len p.parts))
  where
    there : byte_at h.layout p.object (offset_of h.layout x) ≡ x
    there = ap (λ number. byte_at h.layout number (offset_of h.layout x)) (sym this) ∙ byte_of_place h.layout is x

    go : (offset_of h.layout x < parts_len p.parts) ⊎ ((offset_of h.layout x ≡ parts_len p.parts) ⊎ (parts_len p.parts < offset_of h.layout x)) → parts_len p.parts ≤ offset_of h.layout x
    go (inl less) =
        let below : byte_at h.layout p.object (offset_of h.layout x) < h.size =
        ((whole_is_held h p is whole).each (offset_of h.layout x) (offset_within h.layout is x)).0 less in
        absurd (omega (arith, below, there, past))
    go (inr (inl same)) = omega (arith, same)
    go (inr (inr more)) = omega (arith, more)
