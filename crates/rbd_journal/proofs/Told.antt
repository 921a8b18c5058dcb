-- One lemma for each kind, and from them the laws: a frame has no fault, and tells its event.
use Rattle.std.proofs.Common.{◌≡◌, ℕ, ◌+◌, ◌-◌, ◌^◌, ◌<◌, ◌≤◌, Bool, false, cond, List, [], ◌∷◌, ◌++◌, length, take, drop, Option, Some, None, refl, sym, ap, ◌∙◌, arith}
use Rattle.std.specs.Prelude.{◌==◌, ◌&&◌, not, nat_le, nat_lt, IsTrue}
use Rattle.std.specs.Int.{w32, w64, to_be_bytes}
use Rattle.std.proofs.lemmas.Bool.{and_from, and_parts, leb-true, eqb-true, le-leb, le-ltb, ne_eqb, or_from, not_from_true}
use Rattle.std.proofs.lemmas.List.{take_at, drop_at, length-append, append-nil}
use Rattle.byteorder.specs.Endian.{big_number}
use Rattle.byteorder.specs.Numbers.{big_number-reads_back}
use Rattle.rbd_values.specs.Name.{IsName}
use Rattle.rbd_kinds.specs.declared.journal.JournalEvent.{JournalEvent}
use Rattle.rbd_kinds.specs.declared.journal.JournalEvent.TheVariants as event
use Rattle.rbd_journal.specs.declared.fault.FrameFault.{FrameFault}
use Rattle.rbd_journal.specs.declared.fault.FrameFault.TheVariants.{Short, BadLength}
use Rattle.rbd_journal.specs.declared.kind.FrameKind.{FrameKind}
use Rattle.rbd_journal.specs.declared.kind.FrameKind.TheVariants.{Write, Discard, Resize, SnapCreate, SnapRemove, SnapRollback, Demote}
use Rattle.rbd_kinds.specs.Frame.{IsInRange, IsWrite, IsDiscard, kind_byte, body_of, frame, furthest}
use Rattle.rbd_journal.specs.Faults.{allows_length, frame_kind_byte, frame_kind_at, body_fault, fault_after, fault_of_kind, first_fault, write_fault, discard_fault, resize_fault, name_fault, ends_too_far}
use Rattle.rbd_journal.specs.Parts.{HasBody, HasHeader, frame_kind_of}
use Rattle.rbd_journal.proofs.Names.{nothing_misplaced}

-- ---- a kind and its byte

kind_at_byte : (kind : FrameKind) → frame_kind_at (frame_kind_byte kind) ≡ Some kind
kind_at_byte Write = refl
kind_at_byte Discard = refl
kind_at_byte Resize = refl
kind_at_byte SnapCreate = refl
kind_at_byte SnapRemove = refl
kind_at_byte SnapRollback = refl
kind_at_byte Demote = refl

byte_of_kind : (e : JournalEvent) → frame_kind_byte (frame_kind_of e) ≡ kind_byte e
byte_of_kind (event.Write at bytes) = refl
byte_of_kind (event.Discard at len) = refl
byte_of_kind (event.Resize size) = refl
byte_of_kind (event.SnapCreate name) = refl
byte_of_kind (event.SnapRemove name) = refl
byte_of_kind (event.SnapRollback name) = refl
byte_of_kind event.Demote = refl

-- ---- numbers at the front

reads_4 : (n : ℕ) (rest : List ℕ) → n < 2 ^ 32 → big_number 4 (to_be_bytes w32 n ++ rest) ≡ n
reads_4 n rest h = big_number-reads_back 4 n rest h

reads_8 : (n : ℕ) (rest : List ℕ) → n < 2 ^ 64 → big_number 8 (to_be_bytes w64 n ++ rest) ≡ n
reads_8 n rest h = big_number-reads_back 8 n rest h

-- ---- the length of a body is one that its kind allows

allowed_write : (at : ℕ) (bytes : List ℕ) → IsWrite at bytes → IsTrue (allows_length Write (length (to_be_bytes w64 at ++ bytes)))
allowed_write at bytes fits =
    let n = length (to_be_bytes w64 at ++ bytes) in
    and_from (nat_le 9 n) (nat_le n 1048584) (le-leb 9 n (omega (arith, fits.some))) (le-leb n 1048584 (omega (arith, fits.few)))

allowed_name : (name : List ℕ) → IsName name → IsTrue (nat_le 1 (length name) && nat_le (length name) 64)
allowed_name name is = and_from (nat_le 1 (length name)) (nat_le (length name) 64) (le-leb 1 (length name) is.some) (le-leb (length name) 64 is.few)

allowed : (e : JournalEvent) → IsInRange e → IsTrue (allows_length (frame_kind_of e) (length (body_of e)))
allowed (event.Write at bytes) fits = allowed_write at bytes fits
allowed (event.Discard at len) fits = refl
allowed (event.Resize size) fits = refl
allowed (event.SnapCreate name) fits = allowed_name name fits
allowed (event.SnapRemove name) fits = allowed_name name fits
allowed (event.SnapRollback name) fits = allowed_name name fits
allowed event.Demote fits = refl

small_name : (n : ℕ) → IsTrue (nat_le 1 n && nat_le n 64) → n < 2 ^ 32
small_name n h = omega (arith, leb-true _ _ (and_parts (nat_le 1 n) (nat_le n 64) h).1)

small : (kind : FrameKind) (n : ℕ) → IsTrue (allows_length kind n) → n < 2 ^ 32
small Write n h = omega (arith, leb-true _ _ (and_parts (nat_le 9 n) (nat_le n 1048584) h).1)
small Discard n h = omega (arith, eqb-true _ _ h)
small Resize n h = omega (arith, eqb-true _ _ h)
small SnapCreate n h = small_name n h
small SnapRemove n h = small_name n h
small SnapRollback n h = small_name n h
small Demote n h = omega (arith, eqb-true _ _ h)

-- ---- the body of an event has no fault

clean_write_body : (body : List ℕ) (at n : ℕ) → big_number 8 body ≡ at → length body ≡ 8 + n → at + n ≤ furthest → write_fault body ≡ None
clean_write_body body at n at-is n-is end =
    let within : ends_too_far (big_number 8 body) (length body - 8) ≡ false = le-ltb furthest (big_number 8 body + (length body - 8)) (omega (arith, at-is, n-is)) in
    ap (λ (b : Bool). cond b (Some (BadLength (length body))) None) within

clean_write : (at : ℕ) (bytes : List ℕ) → IsWrite at bytes → write_fault (to_be_bytes w64 at ++ bytes) ≡ None
clean_write at bytes fits =
    clean_write_body (to_be_bytes w64 at ++ bytes) at (length bytes) (reads_8 at bytes (omega (arith, fits.end))) (length-append (to_be_bytes w64 at) bytes) fits.end

clean_discard_body : (body : List ℕ) (at len : ℕ) → big_number 8 body ≡ at → big_number 8 (drop 8 body) ≡ len → 1 ≤ len → at + len ≤ furthest → discard_fault body ≡ None
clean_discard_body body at len at-is len-is some end =
    let read = big_number 8 (drop 8 body) in
    let within : ends_too_far (big_number 8 body) read ≡ false = le-ltb furthest (big_number 8 body + read) (omega (arith, at-is, len-is)) in
    let not_none : (read == 0) ≡ false = ne_eqb read 0 (λ e. absurd (omega (arith, e, len-is))) in
    ap (λ (b : Bool). cond b (Some (BadLength read)) None) (or_from (read == 0) (ends_too_far (big_number 8 body) read) not_none within)

clean_discard : (at len : ℕ) → IsDiscard at len → discard_fault (to_be_bytes w64 at ++ to_be_bytes w64 len) ≡ None
clean_discard at len fits =
    clean_discard_body (to_be_bytes w64 at ++ to_be_bytes w64 len) at len
    (reads_8 at (to_be_bytes w64 len) (omega (arith, fits.end)))
    (ap (big_number 8) (drop_at (to_be_bytes w64 at) (to_be_bytes w64 len) 8 refl) ∙ ap (big_number 8) (sym (append-nil (to_be_bytes w64 len))) ∙ reads_8 len [] (omega (arith, fits.end)))
    fits.some fits.end

clean_resize_body : (body : List ℕ) (size : ℕ) → big_number 8 body ≡ size → size ≤ furthest → resize_fault body ≡ None
clean_resize_body body size size-is fits =
    let within : nat_lt furthest (big_number 8 body) ≡ false = le-ltb furthest (big_number 8 body) (omega (arith, size-is)) in
    ap (λ (b : Bool). cond b (Some (BadLength (big_number 8 body))) None) within

clean_resize : (size : ℕ) → size ≤ furthest → resize_fault (to_be_bytes w64 size) ≡ None
clean_resize size fits =
    clean_resize_body (to_be_bytes w64 size) size (ap (big_number 8) (sym (append-nil (to_be_bytes w64 size))) ∙ reads_8 size [] (omega (arith, fits))) fits

clean_name : (name : List ℕ) → IsName name → name_fault name ≡ None
clean_name name is = rw (nothing_misplaced name is) refl

clean : (e : JournalEvent) → IsInRange e → body_fault (frame_kind_of e) (body_of e) ≡ None
clean (event.Write at bytes) fits = clean_write at bytes fits
clean (event.Discard at len) fits = clean_discard at len fits
clean (event.Resize size) fits = clean_resize size fits
clean (event.SnapCreate name) fits = clean_name name fits
clean (event.SnapRemove name) fits = clean_name name fits
clean (event.SnapRollback name) fits = clean_name name fits
clean event.Demote fits = refl

-- ---- the event of a body

unfoldable pub event_with : FrameKind → List ℕ → JournalEvent
event_with Write body = event.Write (big_number 8 body) (drop 8 body)
event_with Discard body = event.Discard (big_number 8 body) (big_number 8 (drop 8 body))
event_with Resize body = event.Resize (big_number 8 body)
event_with SnapCreate body = event.SnapCreate body
event_with SnapRemove body = event.SnapRemove body
event_with SnapRollback body = event.SnapRollback body
event_with Demote body = event.Demote

again_write : (body : List ℕ) (at : ℕ) (bytes : List ℕ) → big_number 8 body ≡ at → drop 8 body ≡ bytes → event_with Write body ≡ event.Write at bytes
unfolding event_with
again_write body at bytes at-is bytes-is = ap (λ (n : ℕ). event.Write n (drop 8 body)) at-is ∙ ap (event.Write at) bytes-is

again_discard : (body : List ℕ) (at len : ℕ) → big_number 8 body ≡ at → big_number 8 (drop 8 body) ≡ len → event_with Discard body ≡ event.Discard at len
unfolding event_with
again_discard body at len at-is len-is = ap (λ (n : ℕ). event.Discard n (big_number 8 (drop 8 body))) at-is ∙ ap (event.Discard at) len-is

again : (e : JournalEvent) → IsInRange e → event_with (frame_kind_of e) (body_of e) ≡ e
unfolding event_with
again (event.Write at bytes) fits = again_write (to_be_bytes w64 at ++ bytes) at bytes (reads_8 at bytes (omega (arith, fits.end))) (drop_at (to_be_bytes w64 at) bytes 8 refl)
again (event.Discard at len) fits =
    again_discard (to_be_bytes w64 at ++ to_be_bytes w64 len) at len
    (reads_8 at (to_be_bytes w64 len) (omega (arith, fits.end)))
    (ap (big_number 8) (drop_at (to_be_bytes w64 at) (to_be_bytes w64 len) 8 refl) ∙ ap (big_number 8) (sym (append-nil (to_be_bytes w64 len))) ∙ reads_8 len [] (omega (arith, fits.end)))
again (event.Resize size) fits = ap event.Resize (ap (big_number 8) (sym (append-nil (to_be_bytes w64 size))) ∙ reads_8 size [] (omega (arith, fits)))
again (event.SnapCreate name) fits = refl
again (event.SnapRemove name) fits = refl
again (event.SnapRollback name) fits = refl
again event.Demote fits = refl

-- ---- the laws

same_head : (a b : ℕ) (xs ys : List ℕ) → a ∷ xs ≡ b ∷ ys → a ≡ b
same_head a b xs ys e = cc

same_tail : (a b : ℕ) (xs ys : List ℕ) → a ∷ xs ≡ b ∷ ys → xs ≡ ys
same_tail a b xs ys e = cc

same_kind : (e f : JournalEvent) → kind_byte e ≡ kind_byte f → frame_kind_of e ≡ frame_kind_of f
same_kind e f bytes =
    let some : Some (frame_kind_of e) ≡ Some (frame_kind_of f) =
    sym (kind_at_byte (frame_kind_of e)) ∙ ap frame_kind_at (byte_of_kind e ∙ bytes ∙ sym (byte_of_kind f)) ∙ kind_at_byte (frame_kind_of f) in
    cc

-- a body whose length is known, behind its length
measured : (body rest bytes : List ℕ) → length body < 2 ^ 32 → bytes ≡ to_be_bytes w32 (length body) ++ (body ++ rest) → (big_number 4 bytes ≡ length body) × (take (length body) (drop 4 bytes) ≡ body) × (drop (length body) (drop 4 bytes) ≡ rest)
measured body rest bytes fits e =
    let behind : drop 4 bytes ≡ body ++ rest = ap (drop 4) e ∙ drop_at (to_be_bytes w32 (length body)) (body ++ rest) 4 refl in (
      ap (big_number 4) e ∙ reads_4 (length body) (body ++ rest) fits,
      ap (take (length body)) behind ∙ take_at body rest (length body) refl,
      ap (drop (length body)) behind ∙ drop_at body rest (length body) refl,
    )

-- what stands in front of some bytes tells the event and the rest
pub one_frame : (e f : JournalEvent) (x y : List ℕ) → IsInRange e → IsInRange f → frame e ++ x ≡ frame f ++ y → (e ≡ f) × (x ≡ y)
one_frame e f x y in_e in_f same =
    let tail_e = to_be_bytes w32 (length (body_of e)) ++ (body_of e ++ x) in
    let tail_f = to_be_bytes w32 (length (body_of f)) ++ (body_of f ++ y) in
    let whole : kind_byte e ∷ tail_e ≡ kind_byte f ∷ tail_f = same in
    let heads : kind_byte e ≡ kind_byte f = same_head (kind_byte e) (kind_byte f) tail_e tail_f whole in
    let tails : tail_e ≡ tail_f = same_tail (kind_byte e) (kind_byte f) tail_e tail_f whole in
    let m = measured (body_of e) x tail_e (small (frame_kind_of e) (length (body_of e)) (allowed e in_e)) refl in
    let n = measured (body_of f) y tail_e (small (frame_kind_of f) (length (body_of f)) (allowed f in_f)) tails in
    let len : length (body_of e) ≡ length (body_of f) = sym m.0 ∙ n.0 in
    let bodies : body_of e ≡ body_of f = sym m.1 ∙ ap (λ (k : ℕ). take k (drop 4 tail_e)) len ∙ n.1 in
    let rests : x ≡ y = sym m.2 ∙ ap (λ (k : ℕ). drop k (drop 4 tail_e)) len ∙ n.2 in
    (sym (again e in_e) ∙ ap (λ (k : FrameKind). event_with k (body_of e)) (same_kind e f heads) ∙ ap (event_with (frame_kind_of f)) bodies ∙ again f in_f, rests)

none_applies : (a b c : Bool) (f g h o : Option FrameFault) → a ≡ false → b ≡ false → c ≡ false → o ≡ None → cond a f (cond b g (cond c h o)) ≡ None
none_applies a b c f g h o p q r last = rw (p, q, r) last

no_fault_after : (kind : FrameKind) (body rest bytes : List ℕ) → IsTrue (allows_length kind (length body)) → body_fault kind body ≡ None
    → bytes ≡ to_be_bytes w32 (length body) ++ (body ++ rest) → fault_after kind bytes ≡ None
no_fault_after kind body rest bytes fits sound e =
    let m = measured body rest bytes (small kind (length body) fits) e in
    let len = big_number 4 bytes in
    let total : length bytes ≡ 4 + length (body ++ rest) = ap length e ∙ length-append (to_be_bytes w32 (length body)) (body ++ rest) in
    let whole = length-append body rest in
    none_applies (nat_lt (length bytes) 4) (not (allows_length kind len)) (nat_lt (length bytes) (4 + len))
    (Some Short) (Some (BadLength len)) (Some Short) (body_fault kind (take len (drop 4 bytes)))
    (le-ltb (length bytes) 4 (omega (arith, total)))
    (ap (λ (n : ℕ). not (allows_length kind n)) m.0 ∙ not_from_true (allows_length kind (length body)) fits)
    (le-ltb (length bytes) (4 + len) (omega (arith, total, whole, m.0)))
    (ap (λ (n : ℕ). body_fault kind (take n (drop 4 bytes))) m.0 ∙ ap (body_fault kind) m.1 ∙ sound)

-- a frame has no fault, whatever follows it
pub no_fault : (e : JournalEvent) (rest : List ℕ) → IsInRange e → first_fault (frame e ++ rest) ≡ None
no_fault e rest fits =
    let tail = to_be_bytes w32 (length (body_of e)) ++ (body_of e ++ rest) in
    let kind : frame_kind_at (kind_byte e) ≡ Some (frame_kind_of e) = ap frame_kind_at (sym (byte_of_kind e)) ∙ kind_at_byte (frame_kind_of e) in
    ap (λ (k : Option FrameKind). fault_of_kind k (kind_byte e) tail) kind
    ∙ no_fault_after (frame_kind_of e) (body_of e) rest tail (allowed e fits) (clean e fits) refl

-- ---- what decode meets

pub never_faulty : (bytes : List ℕ) (fault : FrameFault) (e : JournalEvent) (rest : List ℕ) → first_fault bytes ≡ Some fault → IsInRange e → bytes ≡ frame e ++ rest → ⊥
never_faulty bytes fault e rest faulty fits at_front =
    let both : Some fault ≡ None = sym faulty ∙ ap first_fault at_front ∙ no_fault e rest fits in
    cc

pub stands : (bytes : List ℕ) (kind : FrameKind) (body : List ℕ) (e : JournalEvent) → HasHeader bytes kind body → HasBody kind body e → bytes ≡ frame e ++ drop (5 + length body) bytes
stands bytes kind body e header has =
    let rest = drop (5 + length body) bytes in
    let byte : frame_kind_byte kind ≡ kind_byte e = ap frame_kind_byte (sym has.kind_is) ∙ byte_of_kind e in
    header.parts ∙ ap (λ (b : ℕ). b ∷ (to_be_bytes w32 (length body) ++ (body ++ rest))) byte
    ∙ ap (λ (x : List ℕ). kind_byte e ∷ (to_be_bytes w32 (length x) ++ (x ++ rest))) (sym has.body_is)

pub only_event : (bytes : List ℕ) (kind : FrameKind) (body : List ℕ) (e f : JournalEvent) (rest : List ℕ) → HasHeader bytes kind body → HasBody kind body e
    → IsInRange f → bytes ≡ frame f ++ rest → e ≡ f
only_event bytes kind body e f rest header has fits at_front =
    (one_frame e f (drop (5 + length body) bytes) rest has.in_range fits (sym (stands bytes kind body e header has) ∙ at_front)).0
