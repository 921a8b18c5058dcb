-- A session's name is a name.
use Rattle.std.proofs.Common.{◌≡◌, ℕ, ◌&&◌, true, false, List, [], ◌∷◌, length, refl, arith}
use Rattle.std.specs.Prelude.{nat_le}
use Rattle.std.specs.List.{list_all}
use Rattle.std.proofs.lemmas.Bool.{and_parts, leb-true}
use Rattle.std.proofs.lemmas.Bool.Decides.{nat_tests}
use Rattle.rbd_values.specs.Name.{IsName, name_byte}
use Rattle.rbd_script.specs.Session.{is_letter, is_letter_or_digit, is_session_name}

name_byte_of_letter_or_digit : (b : ℕ) → is_letter_or_digit b ≡ true → name_byte b ≡ true
name_byte_of_letter_or_digit b is = grind (arith, nat_tests)

all_name_bytes : (text : List ℕ) → list_all is_letter_or_digit text ≡ true → list_all name_byte text ≡ true
all_name_bytes [] is = refl
all_name_bytes (b ∷ text) is =
    let parts = and_parts (is_letter_or_digit b) (list_all is_letter_or_digit text) is in
    rw (name_byte_of_letter_or_digit b parts.0) (all_name_bytes text parts.1)

pub name_of_session : (text : List ℕ) → is_session_name text ≡ true → IsName text
name_of_session [] is = absurd (let no : false ≡ true = is in cc)
name_of_session (b ∷ text) is =
    let outer = and_parts (is_letter b && nat_le (length (b ∷ text)) 32 && list_all is_letter_or_digit (b ∷ text)) _ is in
    let inner = and_parts (is_letter b && nat_le (length (b ∷ text)) 32) (list_all is_letter_or_digit (b ∷ text)) outer.0 in
    let front = and_parts (is_letter b) (nat_le (length (b ∷ text)) 32) inner.0 in
    let few = leb-true (length (b ∷ text)) 32 front.1 in
    record {
      some = omega arith;
      few = omega (arith, few);
      bytes = all_name_bytes (b ∷ text) inner.1;
    }
