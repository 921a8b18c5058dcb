-- Numbers in a mixed base. With units of `u` bytes, `c` objects in a stripe and `per` units in an
-- object, a byte is (set, row, position, rest): ((set * per + row) * c + position) * u + rest.
use Rattle.std.proofs.Common.{◌≡◌, ℕ, ◌+◌, ◌*◌, ◌/◌, ◌%◌, ◌<◌, ◌≤◌, ◌⊎◌, inl, inr, refl, ap, arith}
use Rattle.std.proofs.lemmas.Nat.{div-mul-add, mod-mul-add, div-add-mod', le-div, div_below}
use Rattle.std.proofs.Math.Nat.{mul-le-mul_right, mod-lt, div-mul-le_self}

-- the greater digit decides
pub lex_lt : (a b w x y : ℕ) → a < b → x < w → a * w + x < b * w + y
lex_lt a b w x y h k =
    let g : a + 1 ≤ b = omega arith in
    let m : (a + 1) * w ≤ b * w = mul-le-mul_right w g in
    omega arith

-- a digit's range
pub row_lt : (u per o : ℕ) → 0 < u → o < per * u → o / u < per
row_lt u per o hu h = div_below o u per hu h

-- the object, the offset and the byte, on numbers
abbrev pub obj : (u c per x : ℕ) → ℕ
obj u c per x = x / u / c / per * c + x / u % c

abbrev pub off : (u c per x : ℕ) → ℕ
off u c per x = x / u / c % per * u + x % u

abbrev pub byt : (u c per n o : ℕ) → ℕ
byt u c per n o = ((n / c * per + o / u) * c + n % c) * u + o % u

-- the digits of a byte's object and offset
pub obj-div : (u c per x : ℕ) → 0 < c → obj u c per x / c ≡ x / u / c / per
obj-div u c per x hc = div-mul-add (x / u / c / per) c (x / u % c) (mod-lt (x / u) hc)

pub obj-mod : (u c per x : ℕ) → 0 < c → obj u c per x % c ≡ x / u % c
obj-mod u c per x hc = mod-mul-add (x / u / c / per) c (x / u % c) (mod-lt (x / u) hc)

pub off-div : (u c per x : ℕ) → 0 < u → off u c per x / u ≡ x / u / c % per
off-div u c per x hu = div-mul-add (x / u / c % per) u (x % u) (mod-lt x hu)

pub off-mod : (u c per x : ℕ) → 0 < u → off u c per x % u ≡ x % u
off-mod u c per x hu = mod-mul-add (x / u / c % per) u (x % u) (mod-lt x hu)

pub off_lt : (u c per x : ℕ) → 0 < u → 0 < per → off u c per x < per * u
off_lt u c per x hu hp =
    let r : x / u / c % per < per = mod-lt (x / u / c) hp in
    let y : x % u < u = mod-lt x hu in
    let below : x / u / c % per * u + x % u < per * u + 0 = lex_lt (x / u / c % per) per u (x % u) 0 r y in
    omega arith

-- a byte's object and offset determine it
pub byt-obj-off : (u c per x : ℕ) → 0 < u → 0 < c → 0 < per → byt u c per (obj u c per x) (off u c per x) ≡ x
byt-obj-off u c per x hu hc hp =
    rw (obj-div u c per x hc, obj-mod u c per x hc, off-div u c per x hu, off-mod u c per x hu)
    (rw (div-add-mod' (x / u / c) per, div-add-mod' (x / u) c, div-add-mod' x u) refl)

-- the object and offset of a byte at a place are that place
pub obj-byt : (u c per n o : ℕ) → 0 < u → 0 < c → 0 < per → o < per * u → obj u c per (byt u c per n o) ≡ n
obj-byt u c per n o hu hc hp h =
    let row : o / u < per = row_lt u per o hu h in
    rw (
      div-mul-add ((n / c * per + o / u) * c + n % c) u (o % u) (mod-lt o hu),
      div-mul-add (n / c * per + o / u) c (n % c) (mod-lt n hc),
      mod-mul-add (n / c * per + o / u) c (n % c) (mod-lt n hc),
      div-mul-add (n / c) per (o / u) row,
    )
    (div-add-mod' n c)

pub off-byt : (u c per n o : ℕ) → 0 < u → 0 < c → 0 < per → o < per * u → off u c per (byt u c per n o) ≡ o
off-byt u c per n o hu hc hp h =
    let row : o / u < per = row_lt u per o hu h in
    rw (
      div-mul-add ((n / c * per + o / u) * c + n % c) u (o % u) (mod-lt o hu),
      div-mul-add (n / c * per + o / u) c (n % c) (mod-lt n hc),
      mod-mul-add ((n / c * per + o / u) * c + n % c) u (o % u) (mod-lt o hu),
      mod-mul-add (n / c) per (o / u) row,
    )
    (div-add-mod' o u)

-- Of two bytes the one in the lower set comes first; in one set the one in the lower row; in one
-- row the one in the lower object.
pub set_lt : (u c per n o m q : ℕ) → 0 < u → 0 < c → n / c < m / c → o < per * u → byt u c per n o < byt u c per m q
set_lt u c per n o m q hu hc s h =
    let row : o / u < per = row_lt u per o hu h in
    let stripe : n / c * per + o / u < m / c * per + q / u = lex_lt (n / c) (m / c) per (o / u) (q / u) s row in
    let block : (n / c * per + o / u) * c + n % c < (m / c * per + q / u) * c + m % c =
    lex_lt (n / c * per + o / u) (m / c * per + q / u) c (n % c) (m % c) stripe (mod-lt n hc) in
    lex_lt ((n / c * per + o / u) * c + n % c) ((m / c * per + q / u) * c + m % c) u (o % u) (q % u) block (mod-lt o hu)

pub row_first : (u c per n o m q : ℕ) → 0 < u → 0 < c → n / c ≡ m / c → o / u < q / u → byt u c per n o < byt u c per m q
row_first u c per n o m q hu hc s h =
    let stripe : n / c * per + o / u < m / c * per + q / u =
    rw s (omega arith) in
    let block : (n / c * per + o / u) * c + n % c < (m / c * per + q / u) * c + m % c =
    lex_lt (n / c * per + o / u) (m / c * per + q / u) c (n % c) (m % c) stripe (mod-lt n hc) in
    lex_lt ((n / c * per + o / u) * c + n % c) ((m / c * per + q / u) * c + m % c) u (o % u) (q % u) block (mod-lt o hu)

pub position_first : (u c per n o m q : ℕ) → 0 < u → n / c ≡ m / c → o / u ≡ q / u → n % c < m % c → byt u c per n o < byt u c per m q
position_first u c per n o m q hu s r h =
    let block : (n / c * per + o / u) * c + n % c < (m / c * per + q / u) * c + m % c = rw (s, r) (omega arith) in
    lex_lt ((n / c * per + o / u) * c + n % c) ((m / c * per + q / u) * c + m % c) u (o % u) (q % u) block (mod-lt o hu)

pub rest_first : (u c per n o q : ℕ) → o / u ≡ q / u → o % u < q % u → byt u c per n o < byt u c per n q
rest_first u c per n o q r h = rw r (omega arith)

pub cases_lt : (m n : ℕ) → (m < n) ⊎ ((m ≡ n) ⊎ (n < m))
cases_lt m n = grind arith

-- a quotient grows with the number
pub div_mono : (u a b : ℕ) → 0 < u → a ≤ b → a / u ≤ b / u
div_mono u a b hu h =
    let low : a / u * u ≤ a = div-mul-le_self a u in
    le-div (a / u) b u hu (omega arith)

-- in one object a greater offset is a greater byte
pub byt_mono : (u c per n o q : ℕ) → 0 < u → 0 < c → o < q → byt u c per n o < byt u c per n q
byt_mono u c per n o q hu hc h = go (cases_lt (o / u) (q / u))
  where
    go : (o / u < q / u) ⊎ ((o / u ≡ q / u) ⊎ (q / u < o / u)) → byt u c per n o < byt u c per n q
    go (inl lt) = row_first u c per n o n q hu hc refl lt
    go (inr (inl e)) =
        let a : o / u * u + o % u ≡ o = div-add-mod' o u in
        let b : q / u * u + q % u ≡ q = div-add-mod' q u in
        let a' : q / u * u + o % u ≡ o = rw (← e) a in
        rest_first u c per n o q e (omega arith)
    go (inr (inr gt)) =
        let m : o / u ≤ q / u = div_mono u o q hu (omega arith) in
        absurd (omega arith)

pub byt_mono_back : (u c per n o q : ℕ) → 0 < u → 0 < c → byt u c per n o < byt u c per n q → o < q
byt_mono_back u c per n o q hu hc h = go (cases_lt o q)
  where
    go : (o < q) ⊎ ((o ≡ q) ⊎ (q < o)) → o < q
    go (inl lt) = lt
    go (inr (inl e)) =
        let same : byt u c per n o ≡ byt u c per n q = ap (λ k. byt u c per n k) e in
        absurd (omega arith)
    go (inr (inr gt)) =
        let other : byt u c per n q < byt u c per n o = byt_mono u c per n q o hu hc gt in
        absurd (omega arith)

-- a quotient is at most the number
pub div_le : (a b : ℕ) → a / b ≤ a
div_le a b = grind arith
