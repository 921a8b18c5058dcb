-- One token: what spells a value is read as that value, and what is read spells it.
use Rattle.std.proofs.Common.{◌≡◌, ◌≢◌, ℕ, ◌+◌, ◌<◌, ◌≤◌, ◌^◌, ◌&&◌, ◌||◌, not, cond, suc, zero, Bool, true, false, eqb, List, [], ◌∷◌, ◌++◌, length, get_or, drop, Option, Some, None, Result, Ok, Err, refl, sym, ap, ◌∙◌, subst, arith, length-drop}
use Rattle.std.specs.Prelude.{nat_le, decimal, slice_index, IfSome}
use Rattle.std.specs.List.{list_all, list_any, before_first, after_first, position_or_len}
use Rattle.std.proofs.lemmas.Bool.{and_parts, eqb-true, le-leb, leb-true, not-false}
use Rattle.std.proofs.lemmas.Bool.Decides.{nat_tests}
use Rattle.std.proofs.lemmas.Fmt.{decimal_nonempty, digits_decimal, digits_value-decimal, first_decimal, decimal_digit, decimal-digits_value}
use Rattle.std.proofs.lemmas.List.Sums.{split_at_first, prefix_len_stops}
use Rattle.rbd_values.specs.Name.{IsAskedName, name_byte}
use Rattle.rbd_script.specs.declared.fault.LineCause.{LineCause}
use Rattle.rbd_script.specs.declared.fault.LineCause.TheVariants.{BadName, BadNumber}
use Rattle.rbd_script.specs.Name.{both, is_at_sign, is_asked_name, name_of_token, of_image, of_snap, snap_of_token, target_of}
use Rattle.rbd_script.specs.Number.{is_digit, is_numeral, number_after, number_between}
use Rattle.rbd_script.specs.Spelling.{snap_token, target_token}
use Rattle.rbd_script.proofs.Numerals.{digits, numeral_parts}
use Rattle.rbd_script.proofs.TokenLemmas.{take_one_more, drop_one_more}

pub ok_is : {A E : Type 0} (x y : A) → ◌≡◌ {A = Result A E} (Ok x) (Ok y) → x ≡ y
ok_is x y is = cc

pub if_ok : {A E : Type 0} (b : Bool) (x y : A) (e : E) → ◌≡◌ {A = Result A E} (cond b (Ok x) (Err e)) (Ok y) → (b ≡ true) × (x ≡ y)
if_ok {E = E} true x y e is = (refl, ok_is {E = E} x y is)
if_ok false x y e is = cc

-- names
other_byte : (a b : ℕ) → a ≢ b → not (eqb a b) ≡ true
other_byte a b ne = grind (arith, nat_tests)

byte_other : (a b : ℕ) → not (eqb a b) ≡ true → a ≢ b
byte_other a b is = grind (arith, nat_tests)

name_told : (t : List ℕ) → IsAskedName t → is_asked_name t ≡ true
name_told t n =
    rw (le-leb 1 (length t) n.name.some, le-leb (length t) 64 n.name.few, n.name.bytes, other_byte (slice_index t 0) 46 n.first_not_dot, other_byte (slice_index t 0) 45 n.first_not_dash) refl

told_name : (t : List ℕ) → is_asked_name t ≡ true → IsAskedName t
told_name t is =
    let dash = and_parts (nat_le 1 (length t) && nat_le (length t) 64 && list_all name_byte t && not (eqb (slice_index t 0) 46)) (not (eqb (slice_index t 0) 45)) is in
    let dot = and_parts (nat_le 1 (length t) && nat_le (length t) 64 && list_all name_byte t) (not (eqb (slice_index t 0) 46)) dash.0 in
    let bytes = and_parts (nat_le 1 (length t) && nat_le (length t) 64) (list_all name_byte t) dot.0 in
    let lengths = and_parts (nat_le 1 (length t)) (nat_le (length t) 64) bytes.0 in
    record {
      name = record {
        some = leb-true 1 (length t) lengths.0;
        few = leb-true (length t) 64 lengths.1;
        bytes = bytes.1;
      };
      first_not_dot = byte_other (slice_index t 0) 46 dot.1;
      first_not_dash = byte_other (slice_index t 0) 45 dash.1;
    }

pub name_read : (t : List ℕ) → IsAskedName t → name_of_token t ≡ Ok t
unfolding name_of_token
name_read t n = rw (name_told t n) refl

pub name_said : (t name : List ℕ) → name_of_token t ≡ Ok name → (t ≡ name) × IsAskedName name
unfolding name_of_token
name_said t name is =
    let told = if_ok (is_asked_name t) t name BadName is in
    (told.1, subst IsAskedName told.1 (told_name t told.0))

-- an image and its snapshot
no_at : (b : ℕ) → name_byte b ≡ true → is_at_sign b ≡ false
no_at b is = grind (arith, nat_tests)

halves_of : (image snap : List ℕ) → list_all name_byte image ≡ true → (before_first is_at_sign (snap_token image snap) ≡ image) × (after_first is_at_sign (snap_token image snap) ≡ snap)
halves_of [] snap all = (refl, refl)
halves_of (b ∷ image) snap all =
    let parts = and_parts (name_byte b) (list_all name_byte image) all in
    let rest = halves_of image snap parts.1 in
    let place = position_or_len is_at_sign (snap_token image snap) in
    let one : 1 + place + 1 ≡ 1 + (place + 1) = omega arith in (
      rw (no_at b parts.0) (take_one_more place b (snap_token image snap) ∙ ap (λ x. b ∷ x) rest.0),
      rw (no_at b parts.0) (ap (λ k. drop k (b ∷ snap_token image snap)) one ∙ drop_one_more (place + 1) b (snap_token image snap) ∙ rest.1),
    )

both_ok : {A B : Type 0} (r : Result A LineCause) (q : Result B LineCause) (a : A) (b : B) → both r q ≡ Ok (a, b) → (r ≡ Ok a) × (q ≡ Ok b)
both_ok {A = A} {B = B} (Ok x) (Ok y) a b is =
    let same : ◌≡◌ {A = A × B} (x, y) (a, b) = ok_is {E = LineCause} (x, y) (a, b) is in
    (ap (λ (p : A × B). Ok p.0) same, ap (λ (p : A × B). Ok p.1) same)
both_ok (Ok x) (Err cause) a b is = cc
both_ok (Err cause) q a b is = cc

pub snap_read : (image snap : List ℕ) → IsAskedName image → IsAskedName snap → snap_of_token (snap_token image snap) ≡ Ok (image, snap)
unfolding snap_of_token
snap_read image snap i s =
    let halves = halves_of image snap i.name.bytes in
    rw (halves.0, halves.1, name_read image i, name_read snap s) refl

pub snap_said : (t image snap : List ℕ) → snap_of_token t ≡ Ok (image, snap) → (t ≡ snap_token image snap) × IsAskedName image × IsAskedName snap
unfolding snap_of_token
snap_said t image snap is =
    let two = both_ok (name_of_token (before_first is_at_sign t)) (name_of_token (after_first is_at_sign t)) image snap is in
    let i = name_said (before_first is_at_sign t) image two.0 in
    let s = name_said (after_first is_at_sign t) snap two.1 in
    let place = position_or_len is_at_sign t in
    let long : 0 < length (drop (place + 1) t) = rw s.0 s.1.name.some in
    let within : place < length t = omega (arith, long, length-drop (place + 1) t) in
    let at : get_or t place 0 ≡ 64 = eqb-true (get_or t place 0) 64 (not-false (is_at_sign (get_or t place 0)) (prefix_len_stops (λ x. not (is_at_sign x)) t 0 within)) in (
      split_at_first is_at_sign t 0 within ∙ ap (λ b. before_first is_at_sign t ++ (b ∷ after_first is_at_sign t)) at ∙ (λ j. i.0 j ++ 64 ∷ s.0 j),
      i.1,
      s.1,
    )

-- an image, or an image and its snapshot
no_at_within : (t : List ℕ) → list_all name_byte t ≡ true → list_any is_at_sign t ≡ false
no_at_within [] all = refl
no_at_within (b ∷ t) all =
    let parts = and_parts (name_byte b) (list_all name_byte t) all in
    rw (no_at b parts.0) (no_at_within t parts.1)

at_within : (image snap : List ℕ) → list_any is_at_sign (snap_token image snap) ≡ true
at_within [] snap = refl
at_within (b ∷ image) snap = go (is_at_sign b) refl (at_within image snap)
  where
    go : (t : Bool) → is_at_sign b ≡ t → list_any is_at_sign (snap_token image snap) ≡ true → list_any is_at_sign (snap_token (b ∷ image) snap) ≡ true
    go true is rest = rw is refl
    go false is rest = rw is rest

pub target_read : (image : List ℕ) (snap : Option (List ℕ)) → IsAskedName image → IfSome snap IsAskedName → target_of (target_token image snap) ≡ Ok (image, snap)
unfolding target_of
target_read image None i s = rw (no_at_within image i.name.bytes, name_read image i) refl
target_read image (Some snap) i s = rw (at_within image snap, snap_read image snap i s) refl

image_said : (r : Result (List ℕ) LineCause) (image : List ℕ) (snap : Option (List ℕ)) → of_image r ≡ Ok (image, snap) → (r ≡ Ok image) × (snap ≡ None)
image_said (Ok x) image snap is =
    let same : ◌≡◌ {A = List ℕ × Option (List ℕ)} (x, None) (image, snap) = ok_is {E = LineCause} (x, None) (image, snap) is in
    (ap (λ (p : List ℕ × Option (List ℕ)). Ok p.0) same, sym (ap (λ (p : List ℕ × Option (List ℕ)). p.1) same))
image_said (Err cause) image snap is = cc

snapped_said : (r : Result (List ℕ × List ℕ) LineCause) (image : List ℕ) (snap : Option (List ℕ)) → of_snap r ≡ Ok (image, snap) → (s : List ℕ) × (r ≡ Ok (image, s)) × (snap ≡ Some s)
snapped_said (Ok (x, s)) image snap is =
    let same : ◌≡◌ {A = List ℕ × Option (List ℕ)} (x, Some s) (image, snap) = ok_is {E = LineCause} (x, Some s) (image, snap) is in
    (s, ap (λ (p : List ℕ × Option (List ℕ)). Ok (p.0, s)) same, sym (ap (λ (p : List ℕ × Option (List ℕ)). p.1) same))
snapped_said (Err cause) image snap is = cc

abbrev IsTarget : List ℕ → List ℕ → Option (List ℕ) → Type 0
IsTarget t image snap = (t ≡ target_token image snap) × IsAskedName image × IfSome snap IsAskedName

pub target_said : (t image : List ℕ) (snap : Option (List ℕ)) → target_of t ≡ Ok (image, snap) → (t ≡ target_token image snap) × IsAskedName image × IfSome snap IsAskedName
unfolding target_of
target_said t image snap is = go (list_any is_at_sign t) is
  where
    go : (b : Bool) → cond b (of_snap (snap_of_token t)) (of_image (name_of_token t)) ≡ Ok (image, snap) → IsTarget t image snap
    go true told =
        let s = snapped_said (snap_of_token t) image snap told in
        let said = snap_said t image s.0 s.1 in
        subst (λ o. IsTarget t image o) (sym s.2) (said.0, said.1, said.2)
    go false told =
        let s = image_said (name_of_token t) image snap told in
        let said = name_said t image s.0 in
        subst (λ o. IsTarget t image o) (sym s.1) (said.0, said.1, tt)

-- numbers
or_true : (a b : Bool) → b ≡ true → a || b ≡ true
or_true true b is = refl
or_true false b is = is

above_other : (b : ℕ) → 48 < b → not (eqb b 48) ≡ true
above_other b above = grind (arith, nat_tests)

numeral_told : (n : ℕ) → n < 2 ^ 64 → is_numeral (decimal n) ≡ true
numeral_told zero small = rw (decimal_digit 0 (omega arith)) refl
numeral_told (suc k) small =
    rw (le-leb 1 (length (decimal (suc k))) (decimal_nonempty (suc k) small), digits_decimal digits (suc k) small)
    (or_true (nat_le (length (decimal (suc k))) 1) (not (eqb (slice_index (decimal (suc k)) 0) 48)) (above_other (slice_index (decimal (suc k)) 0) (first_decimal (suc k) (omega arith) small)))

pub number_read : (least most n : ℕ) → least ≤ n → n ≤ most → n < 2 ^ 64 → number_between least most (decimal n) ≡ Ok n
unfolding number_between
number_read least most n low high small = rw (digits_value-decimal digits n small, numeral_told n small, le-leb least n low, le-leb n most high) refl

first_alone : (long b : ℕ) → nat_le long 1 || not (eqb b 48) ≡ true → 1 ≤ long → b ≡ 48 → long ≡ 1
first_alone long b is some first = grind (arith, nat_tests)

pub number_said : (least most n : ℕ) (t : List ℕ) → most < 2 ^ 64 → number_between least most t ≡ Ok n → (t ≡ decimal n) × (least ≤ n) × (n ≤ most)
unfolding number_between
number_said least most n t small is =
    let v = number_after 0 t in
    let told = if_ok (is_numeral t && nat_le least v && nat_le v most) v n BadNumber is in
    let high = and_parts (is_numeral t && nat_le least v) (nat_le v most) told.0 in
    let low = and_parts (is_numeral t) (nat_le least v) high.0 in
    let parts = numeral_parts t low.0 in
    let alone = and_parts (nat_le 1 (length t) && list_all is_digit t) (nat_le (length t) 1 || not (eqb (slice_index t 0) 48)) low.0 in
    let at_most : v ≤ most = leb-true v most high.1 in
    let at_least : least ≤ v = leb-true least v low.1 in (
      sym (decimal-digits_value digits t parts.1 parts.0 (first_alone (length t) (slice_index t 0) alone.1 parts.0) (omega arith)) ∙ ap decimal told.1,
      subst (λ x. least ≤ x) told.1 at_least,
      subst (λ x. x ≤ most) told.1 at_most,
    )
