-- How `clap` cuts a word in two.
use Rattle.std.proofs.Common.{◌≡◌, ℕ, ◌<◌, suc, true, false, Bool, [], ◌∷◌, ◌++◌, length, take, Option, Some, None, refl, sym, ap, ◌∙◌, true≢false, arith}
use Rattle.std.specs.Prelude.{◌+◌, ◌==◌, ◌||◌, cond, not, if◌then◌else◌, option_and_then}
use Rattle.std.specs.List.{after_first, before_first, position_or_len}
use Rattle.std.proofs.lemmas.Bool.{eqb-true}
use Rattle.std.proofs.lemmas.List.Sums.{passes_at_first, split_at_first}
use Rattle.std.proofs.lemmas.Option.{none-some, same_Some}
use Rattle.clap.specs.Lexer.{has_byte, long_of, long_of_rest, name_and_value, strip_byte}
use Rattle.clap.specs.Walk.{Text}
use Rattle.rbd_words.proofs.Rows.{neither}

abbrev pub equals : ℕ → Bool
equals b = b == 61

pub place_found : (text : Text) → has_byte 61 text ≡ true → position_or_len equals text < length text
place_found [] has = absurd (true≢false (sym has))
place_found (b ∷ bs) has = go (b == 61) has (place_found bs)
  where
    go : (t : Bool) → (t || has_byte 61 bs) ≡ true → (has_byte 61 bs ≡ true → position_or_len equals bs < length bs) → cond (not t) (1 + position_or_len equals bs) 0 < suc (length bs)
    go true has rest = omega arith
    go false has rest = let more = rest has in omega (arith, more)

pub place_none : (text : Text) → has_byte 61 text ≡ false → before_first equals text ≡ text
place_none [] has = refl
place_none (b ∷ bs) has =
    let parts = neither (b == 61) (has_byte 61 bs) has in
    let here : position_or_len equals (b ∷ bs) ≡ suc (position_or_len equals bs) = rw parts.0 (omega arith) in
    ap (λ n. take n (b ∷ bs)) here ∙ ap (λ xs. b ∷ xs) (place_none bs parts.1)

-- a text with a `=` is made of what stands before and behind the first
pub cut_is : (text : Text) → has_byte 61 text ≡ true → text ≡ before_first equals text ++ 61 ∷ after_first equals text
cut_is text has =
    let short = place_found text has in
    let sign = eqb-true _ 61 (passes_at_first equals text 0 short) in
    split_at_first equals text 0 short ∙ ap (λ b. before_first equals text ++ b ∷ after_first equals text) sign

-- a name and its value, as they stand in a word
abbrev pub joined_by : Text → Option Text → Text
joined_by name None = name
joined_by name (Some value) = name ++ 61 ∷ value

abbrev pub joined : Text × Option Text → Text
joined p = joined_by p.0 p.1

pub cut_joined : (text : Text) → joined (name_and_value text) ≡ text
cut_joined text = go (has_byte 61 text) refl
  where
    go : (b : Bool) → has_byte 61 text ≡ b → joined_by (before_first equals text) (if b then Some (after_first equals text) else None) ≡ text
    go true has = sym (cut_is text has)
    go false has = place_none text has

strip_is : (c : ℕ) (text rest : Text) → strip_byte c text ≡ Some rest → text ≡ c ∷ rest
strip_is c [] rest is = absurd (none-some rest is)
strip_is c (x ∷ xs) rest is = go (x == c) refl is
  where
    go : (b : Bool) → (x == c) ≡ b → (if b then Some xs else None) ≡ Some rest → (x ∷ xs) ≡ c ∷ rest
    go true same is = ap (λ y. y ∷ xs) (eqb-true x c same) ∙ ap (λ ys. c ∷ ys) (same_Some xs rest is)
    go false same is = absurd (none-some rest is)

-- a word that is read as a long option is this
pub long_form : (word : Text) (p : Text × Option Text) → long_of word ≡ Some p → word ≡ 45 ∷ 45 ∷ joined p
long_form word p is = first (strip_byte 45 word) refl is
  where
    third : (one two : Text) → word ≡ 45 ∷ one → one ≡ 45 ∷ two → long_of_rest two ≡ Some p → word ≡ 45 ∷ 45 ∷ joined p
    third one [] a b is = absurd (none-some p is)
    third one (z ∷ zs) a b is =
        a ∙ ap (λ xs. 45 ∷ xs) b ∙ ap (λ xs. 45 ∷ 45 ∷ xs) (sym (cut_joined (z ∷ zs))) ∙ ap (λ (q : Text × Option Text). 45 ∷ 45 ∷ joined q) (same_Some (name_and_value (z ∷ zs)) p is)

    second : (one : Text) → word ≡ 45 ∷ one → (o : Option Text) → strip_byte 45 one ≡ o → option_and_then long_of_rest o ≡ Some p → word ≡ 45 ∷ 45 ∷ joined p
    second one a None b is = absurd (none-some p is)
    second one a (Some two) b is = third one two a (strip_is 45 one two b) is

    first : (o : Option Text) → strip_byte 45 word ≡ o → option_and_then long_of_rest (option_and_then (strip_byte 45) o) ≡ Some p → word ≡ 45 ∷ 45 ∷ joined p
    first None a is = absurd (none-some p is)
    first (Some one) a is = second one (strip_is 45 word one a) (strip_byte 45 one) refl is
