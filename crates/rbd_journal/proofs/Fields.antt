-- The parts of a frame, as reading takes them from the bytes.
use Rattle.std.proofs.Common.{◌≡◌, ℕ, suc, ◌+◌, ◌-◌, ◌<◌, ◌≤◌, true, List, [], ◌∷◌, ◌++◌, length, get_or, take, drop, Some, refl, sym, ap, subst, ◌∙◌, arith, inl, inr}
use Rattle.std.specs.Prelude.{◌==◌, ◌||◌, not, IsTrue}
use Rattle.std.specs.Int.{w32, w64, to_be_bytes}
use Rattle.std.proofs.lemmas.Bool.{cases_lt, eqb-true, eqb-false, ltb-false, not-true, or_parts}
use Rattle.std.proofs.lemmas.Bool.Decides.{nat_tests}
use Rattle.std.proofs.lemmas.List.{take-append-drop, drop-drop, length-take, length-drop, get_or-drop, get_or-take, get_or_past}
use Rattle.std.proofs.Math.Seq.{take-length}
use Rattle.std.proofs.lemmas.Nat.{be_bytes_4, be_bytes_8}
use Rattle.byteorder.specs.Endian.{big_number}
use Rattle.rbd_kinds.specs.declared.journal.JournalEvent.TheVariants as event
use Rattle.rbd_journal.specs.declared.kind.FrameKind.{FrameKind}
use Rattle.rbd_journal.specs.declared.kind.FrameKind.TheVariants.{Write, Discard, Resize, SnapCreate, SnapRemove, SnapRollback, Demote}
use Rattle.rbd_journal.specs.Faults.{allows_length, frame_kind_byte, ends_too_far, frame_kind_at}
use Rattle.rbd_journal.specs.Parts.{HasBody, HasBodyAfter, HasHeader}

abbrev pub IsBytes : List ℕ → Type 0
IsBytes bytes = (i : ℕ) → get_or bytes i 0 < 256

pub IsBytes-drop : (n : ℕ) (bytes : List ℕ) → IsBytes bytes → IsBytes (drop n bytes)
IsBytes-drop n bytes fits i = rw get_or-drop (fits (n + i))

pub IsBytes-take : (n : ℕ) (bytes : List ℕ) → IsBytes bytes → IsBytes (take n bytes)
IsBytes-take n bytes fits i =
    elim (cases_lt i n) [
      | inl lt ↦ rw (get_or-take n bytes i 0 lt) (fits i)
      | inr le ↦ rw (get_or_past (take n bytes) i 0 (omega (arith, length-take n bytes))) (omega arith)
    ]

-- what is read of four or eight bytes is written as they are
back_32 : (bytes : List ℕ) (n : ℕ) → length bytes ≡ 4 → IsBytes bytes → n ≡ big_number 4 bytes → to_be_bytes w32 n ≡ bytes
back_32 bytes n len fits e = be_bytes_4 bytes n len fits (omega (arith, e))

pub back_64 : (bytes : List ℕ) (n : ℕ) → length bytes ≡ 8 → IsBytes bytes → n ≡ big_number 8 bytes → to_be_bytes w64 n ≡ bytes
back_64 bytes n len fits e = be_bytes_8 bytes n len fits (omega (arith, e))

-- a discard, from the two halves of its body
pub discard_has : (body front back : List ℕ) (at len : ℕ) → (length body == 16) ≡ true → IsBytes body
    → front ≡ take 8 body → back ≡ drop 8 body → at ≡ big_number 8 front → len ≡ big_number 8 back
    → not (len == 0 || ends_too_far at len) ≡ true → HasBody Discard body (event.Discard at len)
discard_has body front back at len sixteen fits front-is back-is at-is len-is within =
    let long : length body ≡ 16 = eqb-true _ _ sixteen in
    let tests = or_parts (len == 0) (ends_too_far at len) (not-true _ within) in
    let some : len ≡ 0 → ⊥ = eqb-false len 0 tests.0 in
    let a : to_be_bytes w64 at ≡ front = back_64 front at (omega (arith, ap length front-is, length-take 8 body)) (subst IsBytes (sym front-is) (IsBytes-take 8 body fits)) at-is in
    let b : to_be_bytes w64 len ≡ back = back_64 back len (omega (arith, ap length back-is, length-drop 8 body)) (subst IsBytes (sym back-is) (IsBytes-drop 8 body fits)) len-is in
    let whole : to_be_bytes w64 at ++ to_be_bytes w64 len ≡ body = ap (λ (x : List ℕ). x ++ to_be_bytes w64 len) (a ∙ front-is) ∙ ap (λ (x : List ℕ). take 8 body ++ x) (b ∙ back-is) ∙ take-append-drop 8 body in
    record { in_range = record { some = omega (arith, some); end = ltb-false _ _ tests.1 }; kind_is = refl; body_is = whole }

-- a length, and as many bytes
pub body_has : (kind : FrameKind) (bytes front back : List ℕ) (n : ℕ) → IsBytes bytes → 4 ≤ length bytes
    → front ≡ take 4 bytes → back ≡ drop 4 bytes → n ≡ big_number 4 front → allows_length kind n ≡ true → n ≤ length back
    → HasBodyAfter bytes kind (take n back)
body_has kind bytes front back n fits four front-is back-is n-is allowed long =
    let len : length (take n back) ≡ n = omega (arith, length-take n back) in
    let a : to_be_bytes w32 n ≡ front = back_32 front n (omega (arith, ap length front-is, length-take 4 bytes)) (subst IsBytes (sym front-is) (IsBytes-take 4 bytes fits)) n-is in
    let more : drop n back ≡ drop (4 + n) bytes = ap (drop n) back-is ∙ drop-drop n 4 bytes in
    let behind : back ≡ take n back ++ drop (4 + n) bytes = sym (take-append-drop n back) ∙ ap (λ (x : List ℕ). take n back ++ x) more in
    let whole : bytes ≡ to_be_bytes w32 n ++ (take n back ++ drop (4 + n) bytes) =
    sym (take-append-drop 4 bytes) ∙ ap (λ (x : List ℕ). x ++ drop 4 bytes) (sym (a ∙ front-is)) ∙ ap (λ (x : List ℕ). to_be_bytes w32 n ++ x) (sym back-is ∙ behind) in
    record {
      allowed = subst (λ (m : ℕ). IsTrue (allows_length kind m)) (sym len) allowed;
      parts = subst (λ (m : ℕ). bytes ≡ to_be_bytes w32 m ++ (take n back ++ drop (4 + m) bytes)) (sym len) whole;
    }

pub byte_is : (byte : ℕ) (kind : FrameKind) → frame_kind_at byte ≡ Some kind → byte ≡ frame_kind_byte kind
byte_is byte Write e = grind (arith, nat_tests)
byte_is byte Discard e = grind (arith, nat_tests)
byte_is byte Resize e = grind (arith, nat_tests)
byte_is byte SnapCreate e = grind (arith, nat_tests)
byte_is byte SnapRemove e = grind (arith, nat_tests)
byte_is byte SnapRollback e = grind (arith, nat_tests)
byte_is byte Demote e = grind (arith, nat_tests)

-- a byte that names the kind, and its body
pub header_has : (byte : ℕ) (rest : List ℕ) (kind : FrameKind) (body : List ℕ) → frame_kind_at byte ≡ Some kind → HasBodyAfter rest kind body → HasHeader (byte ∷ rest) kind body
header_has byte rest kind body names has =
    let e : byte ≡ frame_kind_byte kind = byte_is byte kind names in
    let five : 5 + length body ≡ suc (4 + length body) = omega arith in
    let behind : drop (4 + length body) rest ≡ drop (5 + length body) (byte ∷ rest) = ap (λ (n : ℕ). drop n (byte ∷ rest)) (sym five) in
    record {
      allowed = has.allowed;
      parts = ap (λ (b : ℕ). b ∷ rest) e ∙ ap (λ (x : List ℕ). frame_kind_byte kind ∷ x) (has.parts ∙ ap (λ (x : List ℕ). to_be_bytes w32 (length body) ++ (body ++ x)) behind);
    }

-- a slice is its first byte and the others, as a pattern takes them
pub first_and_rest : (bytes : List ℕ) → 1 ≤ length bytes → get_or bytes 0 0 ∷ take (length bytes - 1) (drop 1 bytes) ≡ bytes
first_and_rest [] h = absurd (omega arith)
first_and_rest (b ∷ bytes) h =
    let one_less : suc (length bytes) - 1 ≡ length bytes = omega arith in
    ap (λ (n : ℕ). b ∷ take n bytes) one_less ∙ ap (λ (x : List ℕ). b ∷ x) (take-length bytes)
