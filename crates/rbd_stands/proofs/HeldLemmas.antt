-- How many offsets of an object lie below a size.
use Rattle.std.proofs.Common.{◌≡◌, ℕ, ◌+◌, ◌-◌, ◌*◌, ◌/◌, ◌%◌, ◌<◌, ◌≤◌, ◌⊎◌, inl, inr, refl, sym, ap, subst, cond, arith, zero, suc, ◌∷◌, ◌∙◌, map, min, length, ltb}
use Rattle.std.specs.Prelude.{◌↔◌}
use Rattle.std.specs.List.{filter, range_with_len}
use Rattle.std.proofs.lemmas.Bool.{lt-ltb, le-ltb}
use Rattle.std.proofs.lemmas.List.FromFn.{length-map-range_with_len}
use Rattle.std.proofs.lemmas.Nat.{div-add-mod'}
use Rattle.std.proofs.Math.Nat.{mul-le-mul_right, mod-lt, div-mul-le_self}
use Rattle.rbd_kinds.specs.declared.layout.Layout.{Layout}
use Rattle.rbd_kinds.specs.declared.layout.Part.{Part}
use Rattle.rbd_kinds.specs.Striping.{IsLayout, byte_at, stripe_of, units_per_object}
use Rattle.rbd_layout.proofs.Limits.{Shape, shape_of}
use Rattle.rbd_layout.proofs.Mixed.{lex_lt, cases_lt, div_le}
use Rattle.rbd_stands.specs.Kept.{IsHeldBelow, held_in_stripe, kept_len}
use Rattle.rbd_stands.specs.Effect.{places_below}

both : {A B : Type 0} → A → B → A ↔ B
both a b = ((λ _. b), (λ _. a))

neither : {A B : Type 0} → (A → ⊥) → (B → ⊥) → A ↔ B
neither no_a no_b = ((λ a. absurd (no_a a)), (λ b. absurd (no_b b)))

-- ---- on numbers

-- the unit of the size's own stripe, by how its position and the size's lie
abbrev IsOwn : (p last r u e : ℕ) → Type 0
IsOwn p last r u e = ((p < last) × (e ≡ u)) ⊎ (((p ≡ last) × (e ≡ r)) ⊎ ((last < p) × (e ≡ 0)))

-- a stripe further back
later_stripe : (q p s last c u t r : ℕ) → last < c → r < u → s < q → (s * c + last) * u + r < (q * c + p) * u + t
later_stripe q p s last c u t r position rest less = lex_lt (s * c + last) (q * c + p) u r t (lex_lt s q c last p less position) rest

earlier_stripe : (q p s last c u t r : ℕ) → p < c → t < u → q < s → (q * c + p) * u + t < (s * c + last) * u + r
earlier_stripe q p s last c u t r position rest less = later_stripe s last q p c u r t position rest less

-- the own stripe
own_stripe : (p s last c u t r e : ℕ) → t < u → r < u → IsOwn p last r u e → (t < e) ↔ ((s * c + p) * u + t < (s * c + last) * u + r)
own_stripe p s last c u t r e some rest (inl (before, is)) =
    both (let low : t < e = omega arith in low) (lex_lt (s * c + p) (s * c + last) u t r (omega arith) some)
own_stripe p s last c u t r e some rest (inr (inl (same, is))) = (
  (λ less. let low : t < r = omega arith in subst (λ k. (s * c + p) * u + t < (s * c + k) * u + r) same (omega arith)),
  (λ less. let back : (s * c + p) * u + t < (s * c + p) * u + r = subst (λ k. (s * c + p) * u + t < (s * c + k) * u + r) (sym same) less in omega arith),
)
own_stripe p s last c u t r e some rest (inr (inr (behind, is))) =
    let other : (s * c + last) * u + r < (s * c + p) * u + t = lex_lt (s * c + last) (s * c + p) u r t (omega arith) rest in
    neither (λ less. omega arith) (λ less. omega arith)

own_within : (p last r u e : ℕ) → r < u → IsOwn p last r u e → e ≤ u
own_within p last r u e rest (inl (before, is)) = omega arith
own_within p last r u e rest (inr (inl (same, is))) = omega arith
own_within p last r u e rest (inr (inr (behind, is))) = omega arith

-- an offset in row q from stripe b on, against a size in stripe s
each_offset : (b s p last c u r e q t : ℕ) → p < c → last < c → r < u → t < u → b ≤ s → IsOwn p last r u e
    → (q * u + t < (s - b) * u + e) ↔ (((b + q) * c + p) * u + t < (s * c + last) * u + r)
each_offset b s p last c u r e q t position last_within rest some begun own = go (cases_lt (b + q) s)
  where
    go : (b + q < s) ⊎ ((b + q ≡ s) ⊎ (s < b + q)) → (q * u + t < (s - b) * u + e) ↔ (((b + q) * c + p) * u + t < (s * c + last) * u + r)
    go (inl earlier) =
        both (lex_lt q (s - b) u t e (omega arith) some) (earlier_stripe (b + q) p s last c u t r position some earlier)
    go (inr (inl same)) =
        let row : q ≡ s - b = omega arith in
        let at = own_stripe p s last c u t r e some rest own in (
          (λ less. subst (λ k. (k * c + p) * u + t < (s * c + last) * u + r) (sym same)
              (at.0 (let here : (s - b) * u + t < (s - b) * u + e = subst (λ k. k * u + t < (s - b) * u + e) row less in omega arith))),
          (λ less. let low : t < e = at.1 (subst (λ k. (k * c + p) * u + t < (s * c + last) * u + r) same less) in
              subst (λ k. k * u + t < (s - b) * u + e) (sym row) (omega arith)),
        )
    go (inr (inr later)) =
        let more : (s - b + 1) * u ≤ q * u = mul-le-mul_right u (let g : s - b + 1 ≤ q = omega arith in g) in
        let within : e ≤ u = own_within p last r u e rest own in
        let other : (s * c + last) * u + r < ((b + q) * c + p) * u + t = later_stripe (b + q) p s last c u t r last_within rest later in
        neither (λ less. omega arith) (λ less. omega arith)

-- ---- on layouts

whole_size : (l : Layout) (size : ℕ) → (stripe_of l size * l.count + size / l.unit % l.count) * l.unit + size % l.unit ≡ size
whole_size l size = rw (div-add-mod' (size / l.unit) l.count, div-add-mod' size l.unit) refl

in_stripe : (l : Layout) (p last size : ℕ) → IsOwn p last (size % l.unit) l.unit (held_in_stripe l.unit p last size)
in_stripe l p last size = go (cases_lt p last)
  where
    go : (p < last) ⊎ ((p ≡ last) ⊎ (last < p)) → IsOwn p last (size % l.unit) l.unit (held_in_stripe l.unit p last size)
    go (inl before) = inl (before, ap (λ b. cond b l.unit (cond (ltb last p) 0 (size % l.unit))) (lt-ltb p last before))
    go (inr (inl same)) = inr (inl (same, own))
      where
        own : held_in_stripe l.unit p last size ≡ size % l.unit
        own = (λ i. cond (le-ltb p last (omega arith) i) l.unit (cond (le-ltb last p (omega arith) i) 0 (size % l.unit)))
    go (inr (inr behind)) = inr (inr (behind, own))
      where
        own : held_in_stripe l.unit p last size ≡ 0
        own = (λ i. cond (le-ltb p last (omega arith) i) l.unit (cond (lt-ltb last p behind i) 0 (size % l.unit)))

pub some_held : (l : Layout) → IsLayout l → (n size : ℕ) → n / l.count ≤ stripe_of l size / units_per_object l
    → IsHeldBelow l n size ((stripe_of l size - n / l.count * units_per_object l) * l.unit + held_in_stripe l.unit (n % l.count) (size / l.unit % l.count) size)
some_held l is n size begun = record { each = each }
  where
    s : Shape l
    s = shape_of l is

    unit : 0 < l.unit
    unit = omega (arith, s.unit_least)

    count : 0 < l.count
    count = omega (arith, s.count_least)

    sets : n / l.count * units_per_object l ≤ stripe_of l size
    sets =
        let up : n / l.count * units_per_object l ≤ stripe_of l size / units_per_object l * units_per_object l = mul-le-mul_right (units_per_object l) begun in
        let low : stripe_of l size / units_per_object l * units_per_object l + stripe_of l size % units_per_object l ≡ stripe_of l size = div-add-mod' (stripe_of l size) (units_per_object l) in
        omega arith

    each : (o : ℕ) → (o < (stripe_of l size - n / l.count * units_per_object l) * l.unit + held_in_stripe l.unit (n % l.count) (size / l.unit % l.count) size) ↔ (byte_at l n o < size)
    each o =
        let at = each_offset (n / l.count * units_per_object l) (stripe_of l size) (n % l.count) (size / l.unit % l.count) l.count l.unit (size % l.unit)
        (held_in_stripe l.unit (n % l.count) (size / l.unit % l.count) size) (o / l.unit) (o % l.unit)
        (mod-lt n count) (mod-lt (size / l.unit) count) (mod-lt size unit) (mod-lt o unit) sets (in_stripe l (n % l.count) (size / l.unit % l.count) size) in
        subst (λ w. (o < (stripe_of l size - n / l.count * units_per_object l) * l.unit + held_in_stripe l.unit (n % l.count) (size / l.unit % l.count) size) ↔ (byte_at l n o < w)) (whole_size l size)
        (subst (λ v. (v < (stripe_of l size - n / l.count * units_per_object l) * l.unit + held_in_stripe l.unit (n % l.count) (size / l.unit % l.count) size) ↔ (byte_at l n o < (stripe_of l size * l.count + size / l.unit % l.count) * l.unit + size % l.unit)) (div-add-mod' o l.unit) at)

pub none_held : (l : Layout) → IsLayout l → (n size : ℕ) → stripe_of l size / units_per_object l < n / l.count → IsHeldBelow l n size 0
none_held l is n size past = record { each = λ o. neither (λ (less : o < 0). omega arith) (λ (less : byte_at l n o < size). let other : size < byte_at l n o = behind o in omega arith) }
  where
    s : Shape l
    s = shape_of l is

    unit : 0 < l.unit
    unit = omega (arith, s.unit_least)

    count : 0 < l.count
    count = omega (arith, s.count_least)

    sets : stripe_of l size < n / l.count * units_per_object l
    sets =
        let up : (stripe_of l size / units_per_object l + 1) * units_per_object l ≤ n / l.count * units_per_object l = mul-le-mul_right (units_per_object l) (let g : stripe_of l size / units_per_object l + 1 ≤ n / l.count = omega arith in g) in
        let low : stripe_of l size / units_per_object l * units_per_object l + stripe_of l size % units_per_object l ≡ stripe_of l size = div-add-mod' (stripe_of l size) (units_per_object l) in
        let rest : stripe_of l size % units_per_object l < units_per_object l = mod-lt (stripe_of l size) s.units in
        omega arith

    behind : (o : ℕ) → size < byte_at l n o
    behind o = subst (λ w. w < byte_at l n o) (whole_size l size)
        (later_stripe (n / l.count * units_per_object l + o / l.unit) (n % l.count) (stripe_of l size) (size / l.unit % l.count) l.count l.unit (o % l.unit) (size % l.unit)
        (mod-lt (size / l.unit) count) (mod-lt size unit) (omega (arith, sets)))

-- ---- the places of a part

filtered : (f : ℕ → ℕ) (size held : ℕ) → ((o : ℕ) → (o < held) ↔ (f o < size)) → (at len : ℕ)
    → filter (λ x. ltb x size) (map f (range_with_len at len)) ≡ map f (range_with_len at (min len (held - at)))
filtered f size held each at zero =
    let none : min 0 (held - at) ≡ 0 = omega arith in
    ap (λ n. map f (range_with_len at n)) (sym none)
filtered f size held each at (suc len) = go (filtered f size held each (at + 1) len) (cases_lt at held)
  where
    not_less : (a b : ℕ) → (a < b → ⊥) → b ≤ a
    not_less a b no_less = grind arith

    dropped : filter (λ x. ltb x size) (map f (range_with_len (at + 1) len)) ≡ map f (range_with_len (at + 1) (min len (held - (at + 1))))
        → held ≤ at → filter (λ x. ltb x size) (map f (range_with_len at (suc len))) ≡ map f (range_with_len at (min (suc len) (held - at)))
    dropped later past =
        let out : size ≤ f at = not_less (f at) size (λ less. let low : at < held = (each at).1 less in omega arith) in
        let none : min len (held - (at + 1)) ≡ 0 = omega arith in
        let none' : min (suc len) (held - at) ≡ 0 = omega arith in
        ap (λ b. cond b (f at ∷ filter (λ x. ltb x size) (map f (range_with_len (at + 1) len))) (filter (λ x. ltb x size) (map f (range_with_len (at + 1) len)))) (le-ltb (f at) size out)
        ∙ later ∙ ap (λ n. map f (range_with_len (at + 1) n)) none ∙ sym (ap (λ n. map f (range_with_len at n)) none')

    go : filter (λ x. ltb x size) (map f (range_with_len (at + 1) len)) ≡ map f (range_with_len (at + 1) (min len (held - (at + 1))))
        → (at < held) ⊎ ((at ≡ held) ⊎ (held < at)) → filter (λ x. ltb x size) (map f (range_with_len at (suc len))) ≡ map f (range_with_len at (min (suc len) (held - at)))
    go later (inl kept) =
        let more : min (suc len) (held - at) ≡ suc (min len (held - (at + 1))) = omega arith in
        ap (λ b. cond b (f at ∷ filter (λ x. ltb x size) (map f (range_with_len (at + 1) len))) (filter (λ x. ltb x size) (map f (range_with_len (at + 1) len)))) (lt-ltb (f at) size ((each at).0 kept))
        ∙ ap (λ xs. f at ∷ xs) later ∙ sym (ap (λ n. map f (range_with_len at n)) more)
    go later (inr (inl same)) = dropped later (omega arith)
    go later (inr (inr past)) = dropped later (omega arith)

pub part_places : (l : Layout) (n size held : ℕ) → IsHeldBelow l n size held → (p : Part)
    → places_below l size n p ≡ map (byte_at l n) (range_with_len p.offset (kept_len held p))
part_places l n size held is p = filtered (byte_at l n) size held is.each p.offset p.len

pub many_places : (l : Layout) (n size held : ℕ) → IsHeldBelow l n size held → (p : Part) → length (places_below l size n p) ≡ kept_len held p
many_places l n size held is p = ap length (part_places l n size held is p) ∙ length-map-range_with_len (byte_at l n) p.offset (kept_len held p)

-- ---- bounds

pub own_most : (l : Layout) → IsLayout l → (p last size : ℕ) → held_in_stripe l.unit p last size ≤ l.unit
own_most l is p last size =
    let s : Shape l = shape_of l is in
    own_within p last (size % l.unit) l.unit (held_in_stripe l.unit p last size) (mod-lt size (let some : 0 < l.unit = omega (arith, s.unit_least) in some)) (in_stripe l p last size)

pub stripes_most : (size unit count less : ℕ) → (size / unit / count - less) * unit ≤ size
stripes_most size unit count less =
    let stripe : size / unit / count ≤ size / unit = div_le (size / unit) count in
    let fewer : (size / unit / count - less) * unit ≤ size / unit * unit = mul-le-mul_right unit (let g : size / unit / count - less ≤ size / unit = omega arith in g) in
    let low : size / unit * unit ≤ size = div-mul-le_self size unit in
    omega arith
