-- Heads that are changed part by part.
use Rattle.std.proofs.Common.{◌≡◌, ℕ, ◌+◌, ◌-◌, ◌/◌, ◌<◌, ◌≤◌, inl, inr, List, [], ◌∷◌, Option, Some, None, length, get_or, take, drop, min, max, refl, sym, ap, ◌∙◌, subst, drop-cons, length-take, length-drop, add-one, arith}
use Rattle.std.specs.Prelude.{option_map, unwrap_or}
use Rattle.std.proofs.lemmas.Bool.{cases_lt}
use Rattle.std.proofs.lemmas.List.{drop_all}
use Rattle.rbd_kinds.specs.declared.layout.Part.{Part}
use Rattle.rbd_parts.specs.Contents.{overwritten, zeroed}
use Rattle.rbd_kinds.specs.Parts.{parts_len}
use Rattle.rbd_parts.specs.Parts.{parts_written, parts_zeroed, AreWithin}
use Rattle.rbd_parts.specs.declared.parts.TheConstants.{LARGEST_OBJECT}
use Rattle.rbd_pages.specs.Sheaves.{Exchanged, Stock, sheaves_between, sheaves_for}
use Rattle.rbd_pages.specs.Sheets.{in_use}
use Rattle.rbd_pages.specs.Listed.{Listed, sheaves_touched, touched}
use Rattle.rbd_pages.specs.Paging.{pages_for}
use Rattle.rbd_pages.specs.Places.{Grown}
use Rattle.rbd_object.specs.Shared.{IsHead, begun_head, bytes_of, len_of, sheaves_of, written_sheaves, written_touch, zeroed_sheaves, zeroed_touch}
use Rattle.rbd_parts.proofs.ContentsLemmas.{length_overwritten}
use Rattle.rbd_object.proofs.HeadLemmas.{empty_content}
use Rattle.rbd_pages.proofs.GrownLemmas.{between_all, grown_more, grown_refl, grown_trans, past_is, within_is}
use Rattle.rbd_pages.proofs.ListsLemmas.{exchanged_refl, exchanged_trans}
use Rattle.rbd_pages.proofs.ListedLemmas.{length-bytes_in}

abbrev pub no_part : Part
no_part = record { offset = 0; at = 0; len = 0 }

pub next_part : (parts : List Part) (i : ℕ) → i < length parts → drop i parts ≡ get_or parts i no_part ∷ drop (i + 1) parts
next_part parts i below = drop-cons parts i no_part below ∙ ap (λ n. get_or parts i no_part ∷ drop n parts) (sym (add-one i))

pub len_is : (a : Stock) (head : Option Listed) → len_of head ≡ length (unwrap_or (bytes_of a head) [])
len_is a None = refl
len_is a (Some c) = sym (length-bytes_in a c)

-- a part alone ends within the largest object with all bytes
pub sole_within : (parts : List Part) (d : Part) (bytes : List ℕ) → 1 ≤ length parts → length parts < 2 → AreWithin parts
    → length bytes ≡ parts_len parts → (get_or parts 0 d).offset + length bytes ≤ LARGEST_OBJECT
sole_within [] d bytes some few within long = absurd (omega arith)
sole_within (p ∷ []) d bytes some few within long = let end = within 0 p refl in omega arith
sole_within (p ∷ q ∷ parts) d bytes some few within long = absurd (omega arith)

-- what is left of a write of parts
pub record IsWritingParts (parts : List Part) (bytes : List ℕ) (old : Stock) (before : Option Listed) (i : ℕ) (rest : List ℕ) (new : Stock) (head : Option Listed) : Type 0 where
  pub exchanged : Exchanged old (sheaves_of before) new (sheaves_of head)
  pub is : IsHead new head
  pub there : bytes_of new head ≡ Some (unwrap_or (bytes_of new head) [])
  pub left : parts_written (drop i parts) rest (unwrap_or (bytes_of new head) []) ≡ parts_written parts bytes (unwrap_or (bytes_of old before) [])
  pub long : length rest ≡ parts_len (drop i parts)
  pub used : in_use new.sheets + written_touch (len_of head) (drop i parts) ≤ in_use old.sheets + written_touch (len_of before) parts
  pub grown : (next : Stock) → Grown (written_touch (len_of head) (drop i parts)) (written_sheaves (len_of head) (drop i parts)) new next
      → Grown (written_touch (len_of before) parts) (written_sheaves (len_of before) parts) old next

pub parts_begun : (parts : List Part) (bytes : List ℕ) (a : Stock) (before head : Option Listed) → head ≡ begun_head before → IsHead a before
    → length bytes ≡ parts_len parts → IsWritingParts parts bytes a before 0 bytes a head
parts_begun parts bytes a before head e is long = subst (IsWritingParts parts bytes a before 0 bytes a) (sym e) (go before is) where
  go : (before : Option Listed) → IsHead a before → IsWritingParts parts bytes a before 0 bytes a (begun_head before)
  go None is = record { exchanged = exchanged_refl a []; is = empty_content a; there = refl; left = refl; long = long; used = omega arith; grown = λ next all. all }
  go (Some c) is = record { exchanged = exchanged_refl a c.sheaves; is = is; there = refl; left = refl; long = long; used = omega arith; grown = λ next all. all }

pub parts_fit : (parts : List Part) (bytes : List ℕ) (old : Stock) (before : Option Listed) (i : ℕ) (rest : List ℕ) (a : Stock) (head : Option Listed)
    → IsWritingParts parts bytes old before i rest a head → i < length parts → (get_or parts i no_part).len ≤ length rest
parts_fit parts bytes old before i rest a head w below =
    let long = w.long in let sum = ap parts_len (next_part parts i below) in omega arith

touch_next : (parts : List Part) (i len : ℕ) → i < length parts → written_touch len (drop i parts)
    ≡ touched (min len (get_or parts i no_part).offset) ((get_or parts i no_part).offset + (get_or parts i no_part).len)
    + written_touch (max len ((get_or parts i no_part).offset + (get_or parts i no_part).len)) (drop (i + 1) parts)
touch_next parts i len below = ap (written_touch len) (next_part parts i below)

pub parts_more : (parts : List Part) (bytes : List ℕ) (old : Stock) (before : Option Listed) (i : ℕ) (rest : List ℕ) (a b : Stock) (head after : Option Listed) (first back : List ℕ)
    → IsWritingParts parts bytes old before i rest a head → i < length parts
    → first ≡ take (get_or parts i no_part).len rest → back ≡ drop (get_or parts i no_part).len rest
    → Exchanged a (sheaves_of head) b (sheaves_of after) → IsHead b after
    → bytes_of b after ≡ Some (overwritten (unwrap_or (bytes_of a head) []) (get_or parts i no_part).offset first)
    → in_use b.sheets ≤ in_use a.sheets + touched (min (len_of head) (get_or parts i no_part).offset) ((get_or parts i no_part).offset + length first)
    → Grown (touched (min (len_of head) (get_or parts i no_part).offset) ((get_or parts i no_part).offset + length first))
    (sheaves_touched (min (len_of head) (get_or parts i no_part).offset) ((get_or parts i no_part).offset + length first)) a b
    → IsWritingParts parts bytes old before (i + 1) back b after
parts_more parts bytes old before i rest a b head after first back w below f r exchanged is written used grown =
    let p = get_or parts i no_part in
    let fits = parts_fit parts bytes old before i rest a head w below in
    let short : length first ≡ p.len = ap length f ∙ length-take p.len rest ∙ omega arith in
    let held = ap (λ held. unwrap_or held []) written in
    let len : len_of after ≡ max (len_of head) (p.offset + p.len) =
    len_is b after ∙ ap length held ∙ length_overwritten (unwrap_or (bytes_of a head) []) p.offset first
    ∙ ap (λ n. max (length (unwrap_or (bytes_of a head) [])) (p.offset + n)) short ∙ ap (λ n. max n (p.offset + p.len)) (sym (len_is a head)) in
    record {
      exchanged = exchanged_trans old a b (sheaves_of before) (sheaves_of head) (sheaves_of after) w.exchanged exchanged;
      is = is;
      there = written ∙ ap (λ xs. Some xs) (sym held);
      left =
          ap (parts_written (drop (i + 1) parts) back) (held ∙ ap (overwritten (unwrap_or (bytes_of a head) []) p.offset) f)
          ∙ ap (λ xs. parts_written (drop (i + 1) parts) xs (overwritten (unwrap_or (bytes_of a head) []) p.offset (take p.len rest))) r
          ∙ sym (ap (λ ps. parts_written ps rest (unwrap_or (bytes_of a head) [])) (next_part parts i below))
          ∙ w.left;
      long = let sum = ap parts_len (next_part parts i below) in let long = w.long in ap length r ∙ length-drop p.len rest ∙ omega arith;
      used =
          let all = w.used in let split = touch_next parts i (len_of head) below in
          let step : in_use b.sheets ≤ in_use a.sheets + touched (min (len_of head) p.offset) (p.offset + p.len) =
          subst (λ n. in_use b.sheets ≤ in_use a.sheets + touched (min (len_of head) p.offset) (p.offset + n)) short used in
          subst (λ n. in_use b.sheets + written_touch n (drop (i + 1) parts) ≤ in_use old.sheets + written_touch (len_of before) parts) (sym len) (omega arith);
      grown = λ next rest.
          let step = subst (λ n. Grown (touched (min (len_of head) p.offset) (p.offset + n)) (sheaves_touched (min (len_of head) p.offset) (p.offset + n)) a b) short grown in
          let others = subst (λ n. Grown (written_touch n (drop (i + 1) parts)) (written_sheaves n (drop (i + 1) parts)) b next) len rest in
          w.grown next
          (subst (λ ps. Grown (written_touch (len_of head) ps) (written_sheaves (len_of head) ps) a next) (sym (next_part parts i below))
          (grown_trans _ _ _ _ a b next step others));
    }

-- a part that was refused
pub parts_refused : (parts : List Part) (bytes : List ℕ) (old : Stock) (before : Option Listed) (i : ℕ) (rest : List ℕ) (a b : Stock) (head : Option Listed) (first : List ℕ)
    → IsWritingParts parts bytes old before i rest a head → i < length parts → first ≡ take (get_or parts i no_part).len rest
    → in_use b.sheets ≤ in_use a.sheets + touched (min (len_of head) (get_or parts i no_part).offset) ((get_or parts i no_part).offset + length first)
    → in_use b.sheets ≤ in_use old.sheets + written_touch (len_of before) parts
parts_refused parts bytes old before i rest a b head first w below f used =
    let p = get_or parts i no_part in
    let fits = parts_fit parts bytes old before i rest a head w below in
    let short : length first ≡ p.len = ap length f ∙ length-take p.len rest ∙ omega arith in
    let step : in_use b.sheets ≤ in_use a.sheets + touched (min (len_of head) p.offset) (p.offset + p.len) =
    subst (λ n. in_use b.sheets ≤ in_use a.sheets + touched (min (len_of head) p.offset) (p.offset + n)) short used in
    let all = w.used in let split = touch_next parts i (len_of head) below in omega arith

pub parts_done : (parts : List Part) (bytes : List ℕ) (old : Stock) (before : Option Listed) (i : ℕ) (rest : List ℕ) (a : Stock) (head : Option Listed)
    → IsWritingParts parts bytes old before i rest a head → length parts ≤ i
    → bytes_of a head ≡ Some (parts_written parts bytes (unwrap_or (bytes_of old before) []))
parts_done parts bytes old before i rest a head w past =
    w.there
    ∙ ap (λ xs. Some xs) (ap (λ ps. parts_written ps rest (unwrap_or (bytes_of a head) [])) (sym (drop_all i parts past)) ∙ w.left)

pub parts_used : (parts : List Part) (bytes : List ℕ) (old : Stock) (before : Option Listed) (i : ℕ) (rest : List ℕ) (a : Stock) (head : Option Listed)
    → IsWritingParts parts bytes old before i rest a head → in_use a.sheets ≤ in_use old.sheets + written_touch (len_of before) parts
parts_used parts bytes old before i rest a head w = let all = w.used in omega arith

pub parts_grown : (parts : List Part) (bytes : List ℕ) (old : Stock) (before : Option Listed) (i : ℕ) (rest : List ℕ) (a b : Stock) (head : Option Listed) (first : List ℕ)
    → IsWritingParts parts bytes old before i rest a head → i < length parts → first ≡ take (get_or parts i no_part).len rest
    → Grown (touched (min (len_of head) (get_or parts i no_part).offset) ((get_or parts i no_part).offset + length first))
    (sheaves_touched (min (len_of head) (get_or parts i no_part).offset) ((get_or parts i no_part).offset + length first)) a b
    → Grown (written_touch (len_of before) parts) (written_sheaves (len_of before) parts) old b
parts_grown parts bytes old before i rest a b head first w below f grown =
    let p = get_or parts i no_part in
    let fits = parts_fit parts bytes old before i rest a head w below in
    let short : length first ≡ p.len = ap length f ∙ length-take p.len rest ∙ omega arith in
    let step = subst (λ n. Grown (touched (min (len_of head) p.offset) (p.offset + n)) (sheaves_touched (min (len_of head) p.offset) (p.offset + n)) a b) short grown in
    w.grown b
    (subst (λ ps. Grown (written_touch (len_of head) ps) (written_sheaves (len_of head) ps) a b) (sym (next_part parts i below))
    (grown_more _ _ _ _ a b step (omega arith) (omega arith)))

pub parts_grown_so : (parts : List Part) (bytes : List ℕ) (old : Stock) (before : Option Listed) (i : ℕ) (rest : List ℕ) (a : Stock) (head : Option Listed)
    → IsWritingParts parts bytes old before i rest a head → Grown (written_touch (len_of before) parts) (written_sheaves (len_of before) parts) old a
parts_grown_so parts bytes old before i rest a head w = w.grown a (grown_refl _ _ a)

-- ---- parts that are made zero

pub record IsZeroingParts (parts : List Part) (old : Stock) (before : Option Listed) (i : ℕ) (new : Stock) (head : Option Listed) : Type 0 where
  pub exchanged : Exchanged old (sheaves_of before) new (sheaves_of head)
  pub is : IsHead new head
  pub left : option_map (parts_zeroed (drop i parts)) (bytes_of new head) ≡ option_map (parts_zeroed parts) (bytes_of old before)
  pub used : in_use new.sheets + zeroed_touch (drop i parts) ≤ in_use old.sheets + zeroed_touch parts
  pub grown : (next : Stock) → Grown (zeroed_touch (drop i parts)) (zeroed_sheaves (drop i parts)) new next
      → Grown (zeroed_touch parts) (zeroed_sheaves parts) old next

pub zeros_begun : (parts : List Part) (a : Stock) (head : Option Listed) → IsHead a head → IsZeroingParts parts a head 0 a head
zeros_begun parts a head is = record { exchanged = exchanged_refl a (sheaves_of head); is = is; left = refl; used = omega arith; grown = λ next all. all }

zeroed_then : (parts : List Part) (p : Part) (held : Option (List ℕ))
    → option_map (parts_zeroed parts) (option_map (λ xs. zeroed xs p.offset p.len) held) ≡ option_map (parts_zeroed (p ∷ parts)) held
zeroed_then parts p None = refl
zeroed_then parts p (Some xs) = refl

pub zeros_more : (parts : List Part) (old : Stock) (before : Option Listed) (i : ℕ) (a b : Stock) (head after : Option Listed)
    → IsZeroingParts parts old before i a head → i < length parts
    → Exchanged a (sheaves_of head) b (sheaves_of after) → IsHead b after
    → bytes_of b after ≡ option_map (λ xs. zeroed xs (get_or parts i no_part).offset (get_or parts i no_part).len) (bytes_of a head)
    → in_use b.sheets ≤ in_use a.sheets + touched (get_or parts i no_part).offset ((get_or parts i no_part).offset + (get_or parts i no_part).len)
    → Grown (touched (get_or parts i no_part).offset ((get_or parts i no_part).offset + (get_or parts i no_part).len))
    (sheaves_touched (get_or parts i no_part).offset ((get_or parts i no_part).offset + (get_or parts i no_part).len)) a b
    → IsZeroingParts parts old before (i + 1) b after
zeros_more parts old before i a b head after z below exchanged is written used grown =
    let next = next_part parts i below in
    record {
      exchanged = exchanged_trans old a b (sheaves_of before) (sheaves_of head) (sheaves_of after) z.exchanged exchanged;
      is = is;
      left =
          ap (option_map (parts_zeroed (drop (i + 1) parts))) written
          ∙ zeroed_then (drop (i + 1) parts) (get_or parts i no_part) (bytes_of a head)
          ∙ sym (ap (λ ps. option_map (parts_zeroed ps) (bytes_of a head)) next)
          ∙ z.left;
      used = let all = z.used in let split = ap zeroed_touch next in omega arith;
      grown = λ end rest.
          z.grown end (subst (λ ps. Grown (zeroed_touch ps) (zeroed_sheaves ps) a end) (sym next) (grown_trans _ _ _ _ a b end grown rest));
    }

pub zeros_refused : (parts : List Part) (old : Stock) (before : Option Listed) (i : ℕ) (a b : Stock) (head : Option Listed)
    → IsZeroingParts parts old before i a head → i < length parts
    → in_use b.sheets ≤ in_use a.sheets + touched (get_or parts i no_part).offset ((get_or parts i no_part).offset + (get_or parts i no_part).len)
    → in_use b.sheets ≤ in_use old.sheets + zeroed_touch parts
zeros_refused parts old before i a b head z below used =
    let all = z.used in let split = ap zeroed_touch (next_part parts i below) in omega arith

pub zeros_grown : (parts : List Part) (old : Stock) (before : Option Listed) (i : ℕ) (a b : Stock) (head : Option Listed)
    → IsZeroingParts parts old before i a head → i < length parts
    → Grown (touched (get_or parts i no_part).offset ((get_or parts i no_part).offset + (get_or parts i no_part).len))
    (sheaves_touched (get_or parts i no_part).offset ((get_or parts i no_part).offset + (get_or parts i no_part).len)) a b
    → Grown (zeroed_touch parts) (zeroed_sheaves parts) old b
zeros_grown parts old before i a b head z below grown =
    z.grown b
    (subst (λ ps. Grown (zeroed_touch ps) (zeroed_sheaves ps) a b) (sym (next_part parts i below))
    (grown_more _ _ _ _ a b grown (omega arith) (omega arith)))

pub zeros_grown_so : (parts : List Part) (old : Stock) (before : Option Listed) (i : ℕ) (a : Stock) (head : Option Listed)
    → IsZeroingParts parts old before i a head → Grown (zeroed_touch parts) (zeroed_sheaves parts) old a
zeros_grown_so parts old before i a head z = z.grown a (grown_refl _ _ a)

zeroed_nothing : (held : Option (List ℕ)) → option_map (parts_zeroed []) held ≡ held
zeroed_nothing None = refl
zeroed_nothing (Some xs) = refl

pub zeros_done : (parts : List Part) (old : Stock) (before : Option Listed) (i : ℕ) (a : Stock) (head : Option Listed)
    → IsZeroingParts parts old before i a head → length parts ≤ i → bytes_of a head ≡ option_map (parts_zeroed parts) (bytes_of old before)
zeros_done parts old before i a head z past =
    sym (ap (λ ps. option_map (parts_zeroed ps) (bytes_of a head)) (drop_all i parts past) ∙ zeroed_nothing (bytes_of a head)) ∙ z.left

-- ---- a head that begins

-- a write into an absent head
pub begun_grown : (a b : Stock) (head : Option Listed) (c : Listed) (at n : ℕ) → head ≡ None → c ≡ record { sheaves = []; len = 0 }
    → Grown (touched (min c.len at) (at + n)) (sheaves_touched (min c.len at) (at + n)) a b
    → Grown (touched (min (len_of head) at) (at + n)) (sheaves_touched (min (len_of head) at) (at + n)) a b
begun_grown a b head c at n none blank grown =
    let same : c.len ≡ len_of head = ap (λ (x : Listed). x.len) blank ∙ sym (ap len_of none) in
    subst (λ len. Grown (touched (min len at) (at + n)) (sheaves_touched (min len at) (at + n)) a b) same grown

-- a write of all bytes
pub whole_grown : (a b : Stock) (len n : ℕ) → Grown (touched (min len 0) (0 + n)) (sheaves_touched (min len 0) (0 + n)) a b
    → Grown (pages_for n) (sheaves_for (pages_for n)) a b
whole_grown a b len n grown =
    let zero : min len 0 ≡ 0 = omega arith in
    let same : 0 + n ≡ n = omega arith in
    go n (subst (λ m. Grown (touched 0 m) (sheaves_touched 0 m) a b) same (subst (λ m. Grown (touched m (0 + n)) (sheaves_touched m (0 + n)) a b) zero grown))
  where
    go : (n : ℕ) → Grown (touched 0 n) (sheaves_touched 0 n) a b → Grown (pages_for n) (sheaves_for (pages_for n)) a b
    go n grown = elim (cases_lt 0 n) [
      | inr none ↦
          let pages : touched 0 n ≡ 0 = rw (past_is 0 n none) refl in
          let sheaves : sheaves_touched 0 n ≡ 0 = rw (past_is 0 n none) refl in
          grown_more _ _ _ _ a b grown (omega arith) (omega arith)
      | inl some ↦
          let pages : touched 0 n ≡ pages_for n - 0 / 4096 = rw (within_is 0 n some) refl in
          let sheaves : sheaves_touched 0 n ≡ sheaves_between (0 / 4096) (pages_for n) = rw (within_is 0 n some) refl in
          let all = between_all (pages_for n) in
          grown_more _ _ _ _ a b grown (omega arith) (omega arith)
    ]
