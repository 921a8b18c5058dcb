-- Bytes without the zeros at their end.
use Rattle.std.proofs.Common.{◌≡◌, ◌≢◌, ℕ, zero, suc, ◌-◌, ◌≤◌, ◌<◌, List, [], ◌∷◌, ◌++◌, length, replicate, take, get_or, refl, ap, ◌∙◌, sym, subst, arith}
use Rattle.std.specs.Prelude.{slice_index}
use Rattle.rbd_kinds.specs.declared.header.HeaderView.{HeaderView}
use Rattle.rbd_kinds.specs.declared.id.SiteId.{SiteId}
use Rattle.rbd_header.specs.Header.{context_of}
use Rattle.rbd_layout.specs.declared.types.Piece.{Piece}
use Rattle.rbd_machine.specs.Plan.{Plan}
use Rattle.rbd_pieces.specs.Full.{trimmed_byte, cut_bytes, full_by, replacing, IsCut}

-- ---- a byte at the end

cut_zero : (bytes : List ℕ) → cut_bytes (bytes ++ 0 ∷ []) ≡ cut_bytes bytes
cut_zero [] = refl
cut_zero (byte ∷ bytes) = ap (trimmed_byte byte) (cut_zero bytes)

before_more : (byte : ℕ) (bytes : List ℕ) (last : ℕ) → trimmed_byte byte (bytes ++ last ∷ []) ≡ byte ∷ (bytes ++ last ∷ [])
before_more zero [] last = refl
before_more zero (next ∷ bytes) last = refl
before_more (suc byte) bytes last = refl

cut_some : (bytes : List ℕ) (last : ℕ) → last ≢ 0 → cut_bytes (bytes ++ last ∷ []) ≡ bytes ++ last ∷ []
cut_some [] zero some = absurd (some refl)
cut_some [] (suc last) some = refl
cut_some (byte ∷ bytes) last some = ap (trimmed_byte byte) (cut_some bytes last some) ∙ before_more byte bytes last

take_last : (n : ℕ) (bytes : List ℕ) → n < length bytes → take (suc n) bytes ≡ take n bytes ++ get_or bytes n 0 ∷ []
take_last n [] less = absurd (omega arith)
take_last zero (byte ∷ bytes) less = refl
take_last (suc n) (byte ∷ bytes) less = ap (λ rest. byte ∷ rest) (take_last n bytes (omega arith))

pub shorter : (n len : ℕ) (bytes : List ℕ) → suc n ≡ len → len ≤ length bytes → get_or bytes n 0 ≡ 0 → cut_bytes (take len bytes) ≡ cut_bytes (take n bytes)
shorter n len bytes is within none =
    ap (λ m. cut_bytes (take m bytes)) (sym is) ∙ ap cut_bytes (take_last n bytes (omega arith) ∙ ap (λ byte. take n bytes ++ byte ∷ []) none) ∙ cut_zero (take n bytes)

pub cut_there : (n len : ℕ) (bytes : List ℕ) → suc n ≡ len → len ≤ length bytes → get_or bytes n 0 ≢ 0 → cut_bytes (take len bytes) ≡ take len bytes
cut_there n len bytes is within some =
    subst (λ m. cut_bytes (take m bytes) ≡ take m bytes) is
    (subst (λ front. cut_bytes front ≡ front) (sym (take_last n bytes (omega arith))) (cut_some (take n bytes) (get_or bytes n 0) some))

-- ---- what is cut

zeros_before : (byte : ℕ) (left bytes : List ℕ) → left ++ replicate (length bytes - length left) 0 ≡ bytes
    → trimmed_byte byte left ++ replicate (length (byte ∷ bytes) - length (trimmed_byte byte left)) 0 ≡ byte ∷ bytes
zeros_before zero [] bytes zeros =
    let count : suc (length bytes - 0) ≡ suc (length bytes) - 0 = omega arith in
    subst (λ n. replicate n 0 ≡ 0 ∷ bytes) count (ap (λ rest. 0 ∷ rest) zeros)
zeros_before zero (next ∷ left) bytes zeros =
    let count : length bytes - suc (length left) ≡ suc (length bytes) - suc (suc (length left)) = omega arith in
    subst (λ n. (0 ∷ next ∷ left) ++ replicate n 0 ≡ 0 ∷ bytes) count (ap (λ rest. 0 ∷ rest) zeros)
zeros_before (suc byte) left bytes zeros =
    let count : length bytes - length left ≡ suc (length bytes) - suc (length left) = omega arith in
    subst (λ n. (suc byte ∷ left) ++ replicate n 0 ≡ suc byte ∷ bytes) count (ap (λ rest. suc byte ∷ rest) zeros)

last_before : (byte : ℕ) (left : List ℕ) → ((n : ℕ) → length left ≡ suc n → slice_index left n ≢ 0) → (n : ℕ) → length (trimmed_byte byte left) ≡ suc n → slice_index (trimmed_byte byte left) n ≢ 0
last_before zero [] last n long = λ same. cc
last_before zero (next ∷ left) last zero long = λ same. cc
last_before zero (next ∷ left) last (suc n) long = last n (omega arith)
last_before (suc byte) [] last zero long = λ same. cc
last_before (suc byte) [] last (suc n) long = λ same. cc
last_before (suc byte) (next ∷ left) last zero long = λ same. cc
last_before (suc byte) (next ∷ left) last (suc n) long = last n (omega arith)

pub is_cut : (bytes : List ℕ) → IsCut bytes (cut_bytes bytes)
is_cut [] = record { zeros = refl; last = λ n long same. cc }
is_cut (byte ∷ bytes) =
    let rest = is_cut bytes in
    record { zeros = zeros_before byte (cut_bytes bytes) bytes rest.zeros; last = last_before byte (cut_bytes bytes) rest.last }

-- ---- where bytes are left

pub full_left : (site : SiteId) (image : ℕ) (h : HeaderView) (piece : Piece) (left : List ℕ) (next : Plan) → (left ≡ [] → ⊥)
    → replacing site image (context_of h) piece.object left next ≡ full_by site image h piece left next
full_left site image h piece [] next some = absurd (some refl)
full_left site image h piece (byte ∷ left) next some = refl
