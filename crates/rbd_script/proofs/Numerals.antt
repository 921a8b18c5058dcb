-- Digits, and the number that they spell.
use Rattle.std.proofs.Common.{◌≡◌, ℕ, ◌<◌, ◌≤◌, ◌^◌, ◌&&◌, true, List, length, Result, arith, rules}
use Rattle.std.specs.Prelude.{nat_le}
use Rattle.std.specs.List.{list_all}
use Rattle.std.specs.Str.{IsUtf8}
use Rattle.std.specs.Str.Parse.{ParsesUnsigned}
use Rattle.std.specs.Result.{OkIff}
use Rattle.std.proofs.lemmas.Bool.{and_parts}
use Rattle.std.proofs.lemmas.Bool.Decides.{nat_tests}
use Rattle.std.proofs.lemmas.Fmt.{IsAscii-from_digits}
use Rattle.std.proofs.lemmas.Str.{IsUtf8-from_ascii}
use Rattle.std.proofs.lemmas.Str.Parse.{IsNumeralModel, numerals_by_fold, parse_digits}
use Rattle.rbd_script.specs.Number.{is_digit, is_numeral, number_after}

pub digits : IsNumeralModel (λ ds. list_all is_digit ds ≡ true) (number_after 0)
digits = numerals_by_fold _ (search rules) number_after (search rules)

pub numeral_parts : (token : List ℕ) → is_numeral token ≡ true → (1 ≤ length token) × (list_all is_digit token ≡ true)
numeral_parts token is =
    let outer = and_parts (nat_le 1 (length token) && list_all is_digit token) _ is in
    let inner = and_parts (nat_le 1 (length token)) (list_all is_digit token) outer.0 in
    (grind (arith, nat_tests), inner.1)

pub numeral_is_text : (token : List ℕ) → is_numeral token ≡ true → IsUtf8 token
numeral_is_text token is = IsUtf8-from_ascii token (IsAscii-from_digits token (digits.to token (numeral_parts token is).1))

pub numeral_parses : {E : Type 0} (token : List ℕ) (r : Result ℕ E) → is_numeral token ≡ true → ParsesUnsigned 64 10 token r → OkIff r ((0 < length token) × (number_after 0 token < 2 ^ 64)) (number_after 0 token)
numeral_parses token r is parses = parse_digits digits 64 token r parses (numeral_parts token is).1
