-- Numbers, as they are printed and as scripts have them.
use Rattle.std.proofs.Common.{◌≡◌, ℕ, ◌<◌, ◌≤◌, ◌^◌, true, false, eqb, List, [], ◌∷◌, length, Option, Some, None, Result, Ok, Err, refl, sym, ap, ◌∙◌, subst, arith}
use Rattle.std.specs.Prelude.{decimal, is_some, nat_eq, IfSome, IfNone}
use Rattle.std.specs.Cmp.Lexicographic.{pointwise}
use Rattle.std.specs.List.{list_all}
use Rattle.std.specs.Result.{OkIff}
use Rattle.std.specs.Str.Parse.{ParsesUnsigned}
use Rattle.std.proofs.lemmas.Bool.Decides.{nat_tests}
use Rattle.std.proofs.lemmas.Fmt.{decimal_nonempty, digits_decimal, digits_value-decimal}
use Rattle.std.proofs.lemmas.Str.Parse.{parse_digits}
use Rattle.rbd_script.specs.declared.fault.LineCause.{LineCause}
use Rattle.rbd_script.specs.Number.{is_digit, number_after}
use Rattle.rbd_script.proofs.Numerals.{digits}
use Rattle.rbd_script.proofs.TokenSpelling.{number_read, number_said}
use Rattle.rbd_words.specs.Words.{number, once}

-- one text is as itself
pub same_text : (xs ys : List ℕ) → xs ≡ ys → pointwise nat_eq xs ys ≡ true
same_text xs ys is = subst (λ zs. pointwise nat_eq xs zs ≡ true) is (by_bytes xs)
  where
    by_bytes : (zs : List ℕ) → pointwise nat_eq zs zs ≡ true
    by_bytes [] = refl
    by_bytes (z ∷ zs) = let first : eqb z z ≡ true = grind (arith, nat_tests) in rw first (by_bytes zs)

-- what a number prints is read as the number
pub printed_parses : {E : Type 0} (value : List ℕ) (r : Result ℕ E) (n : ℕ) → value ≡ decimal n → n ≤ 4294967295 → ParsesUnsigned 32 10 value r → OkIff r ((0 < length value) × (number_after 0 value < 2 ^ 32)) n
printed_parses {E} value r n is small parses =
    let below : n < 2 ^ 64 = omega arith in
    let all : list_all is_digit value ≡ true = ap (list_all is_digit) is ∙ digits_decimal digits n below in
    subst (OkIff r ((0 < length value) × (number_after 0 value < 2 ^ 32))) (ap (number_after 0) is ∙ digits_value-decimal digits n below) (parse_digits digits 32 value r parses all)

pub printed_fits : (value : List ℕ) (n : ℕ) → value ≡ decimal n → n ≤ 4294967295 → (0 < length value) × (number_after 0 value < 2 ^ 32)
printed_fits value n is small =
    let value_is : number_after 0 value ≡ n = ap (number_after 0) is ∙ digits_value-decimal digits n (omega arith) in
    (subst (λ v. 0 < length v) (sym is) (decimal_nonempty n (omega arith)), omega arith)

abbrev IsRead : (value : List ℕ) → Option ℕ → Type 0
IsRead value r = IfSome r (λ n. (value ≡ decimal n) × (n ≤ 4294967295)) × IfNone r ((n : ℕ) → value ≡ decimal n → n ≤ 4294967295 → ⊥)

read_or_not : (value : List ℕ) (r : Option ℕ) → IsRead value r → r ≡ once None (number value)
read_or_not value (Some n) is =
    ap (once None) (sym (ap number is.0.0 ∙ number_read 0 4294967295 n (omega arith) is.0.1 (omega (arith, is.0.1))))
read_or_not value None is = go (number value) refl
  where
    go : (q : Result ℕ LineCause) → number value ≡ q → None ≡ once None q
    go (Ok m) read = let said = number_said 0 4294967295 m value (omega arith) read in absurd (is.1 m said.0 said.2)
    go (Err cause) read = refl

pub once_read : (before r : Option ℕ) (value : List ℕ) → is_some before ≡ false → IfSome r (λ n. (value ≡ decimal n) × (n ≤ 4294967295)) → IfNone r ((n : ℕ) → value ≡ decimal n → n ≤ 4294967295 → ⊥)
    → r ≡ once before (number value)
once_read None r value new found none = read_or_not value r (found, none)
once_read (Some n) r value new found none = let no : true ≡ false = new in absurd (cc)
