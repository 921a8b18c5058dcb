-- A letter and a number are a name that may be asked for.
use Rattle.std.proofs.Common.{◌≡◌, ℕ, ◌<◌, ◌≤◌, ◌^◌, true, List, [], ◌∷◌, length, refl, arith}
use Rattle.std.specs.Prelude.{decimal}
use Rattle.std.specs.List.{list_all}
use Rattle.std.proofs.lemmas.Bool.{and_parts}
use Rattle.std.proofs.lemmas.Bool.Decides.{nat_tests}
use Rattle.std.proofs.lemmas.Fmt.{digits_decimal, length-decimal-le}
use Rattle.rbd_script.specs.Number.{is_digit}
use Rattle.rbd_script.proofs.Numerals.{digits}
use Rattle.rbd_values.specs.Name.{IsAskedName, name_byte}

digit_named : (b : ℕ) → is_digit b ≡ true → name_byte b ≡ true
digit_named b is = grind (arith, nat_tests)

digits_named : (text : List ℕ) → list_all is_digit text ≡ true → list_all name_byte text ≡ true
digits_named [] is = refl
digits_named (b ∷ text) is =
    let parts = and_parts (is_digit b) (list_all is_digit text) is in
    rw (digit_named b parts.0) (digits_named text parts.1)

letter_named : (b : ℕ) → 97 ≤ b → b ≤ 122 → name_byte b ≡ true
letter_named b low high = grind (arith, nat_tests)

pub numbered_name : (letter number : ℕ) → 97 ≤ letter → letter ≤ 122 → number < 2 ^ 32 → IsAskedName (letter ∷ decimal number)
numbered_name letter number low high small =
    let short : length (decimal number) ≤ 10 = length-decimal-le 10 number (omega arith) (omega arith) (omega arith) in
    record {
      name = record {
        some = omega arith;
        few = omega (arith, short);
        bytes = rw (letter_named letter low high) (digits_named (decimal number) (digits_decimal digits number (omega arith)));
      };
      first_not_dot = λ is. absurd (omega (arith, is));
      first_not_dash = λ is. absurd (omega (arith, is));
    }
