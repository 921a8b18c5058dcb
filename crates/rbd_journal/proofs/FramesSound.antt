-- Where no fault applies, a frame stands at the front: one lemma for each kind, and then for all.
use Rattle.std.proofs.Common.{◌≡◌, ℕ, suc, ◌+◌, ◌-◌, ◌≤◌, Bool, true, false, cond, List, [], ◌∷◌, ◌++◌, length, take, drop, Option, Some, None, refl, sym, ap, ◌∙◌, arith}
use Rattle.std.specs.Prelude.{◌==◌, ◌&&◌, ◌||◌, not, nat_le, nat_lt, IsTrue, option_map}
use Rattle.std.specs.Int.{w64, to_be_bytes}
use Rattle.std.proofs.lemmas.Bool.{and_parts, leb-true, eqb-true, ltb-false, not-false, not_from_false}
use Rattle.std.proofs.lemmas.List.{nil_from_length, take-append-drop, length-take, length-drop}
use Rattle.byteorder.specs.Endian.{big_number}
use Rattle.byteorder.specs.Numbers.{big_from-take}
use Rattle.rbd_values.specs.Name.{IsName}
use Rattle.rbd_kinds.specs.declared.journal.JournalEvent.{JournalEvent}
use Rattle.rbd_kinds.specs.declared.journal.JournalEvent.TheVariants as event
use Rattle.rbd_journal.specs.declared.fault.FrameFault.{FrameFault}
use Rattle.rbd_journal.specs.declared.fault.FrameFault.TheVariants.{Short, BadLength, BadText}
use Rattle.rbd_journal.specs.declared.kind.FrameKind.{FrameKind}
use Rattle.rbd_journal.specs.declared.kind.FrameKind.TheVariants.{Write, Discard, Resize, SnapCreate, SnapRemove, SnapRollback, Demote}
use Rattle.rbd_kinds.specs.Frame.{IsInRange, frame, furthest}
use Rattle.rbd_journal.specs.Faults.{allows_length, body_fault, discard_fault, ends_too_far, fault_after, fault_of_kind, first_fault, frame_kind_at, misplaced, name_fault, resize_fault, write_fault}
use Rattle.rbd_journal.specs.Parts.{HasBody, HasBodyAfter}
use Rattle.rbd_journal.proofs.Fields.{IsBytes, IsBytes-take, IsBytes-drop, back_64, discard_has, body_has, header_has}
use Rattle.rbd_journal.proofs.Told.{event_with, stands}
use Rattle.rbd_journal.proofs.Names.{is_name}

untested : {A : Type 0} (b : Bool) (f o : Option A) (x : A) → f ≡ Some x → cond b f o ≡ None → (b ≡ false) × (o ≡ None)
untested true f o x is e = absurd cc
untested false f o x is e = (refl, e)

front_64 : (body : List ℕ) → 8 ≤ length body → IsBytes body → to_be_bytes w64 (big_number 8 body) ≡ take 8 body
front_64 body long fits = back_64 (take 8 body) (big_number 8 body) (omega (arith, length-take 8 body)) (IsBytes-take 8 body fits) (sym (big_from-take 0 8 8 body (omega arith)))

sound_write : (body : List ℕ) → IsTrue (allows_length Write (length body)) → IsBytes body → write_fault body ≡ None → HasBody Write body (event.Write (big_number 8 body) (drop 8 body))
sound_write body allowed fits e =
    let n = length body in
    let lengths = and_parts (nat_le 9 n) (nat_le n 1048584) allowed in
    let least : 9 ≤ n = leb-true 9 n lengths.0 in
    let most : n ≤ 1048584 = leb-true n 1048584 lengths.1 in
    let len : length (drop 8 body) ≡ n - 8 = length-drop 8 body in
    let end : big_number 8 body + (n - 8) ≤ furthest = ltb-false _ _ (untested (ends_too_far (big_number 8 body) (n - 8)) (Some (BadLength n)) None (BadLength n) refl e).0 in
    record {
      in_range = record { some = omega (arith, least, len); few = omega (arith, most, len); end = omega (arith, end, len) };
      kind_is = refl;
      body_is = ap (λ (x : List ℕ). x ++ drop 8 body) (front_64 body (omega (arith, least)) fits) ∙ take-append-drop 8 body;
    }

sound_discard : (body : List ℕ) → IsTrue (allows_length Discard (length body)) → IsBytes body → discard_fault body ≡ None → HasBody Discard body (event.Discard (big_number 8 body) (big_number 8 (drop 8 body)))
sound_discard body allowed fits e =
    let at = big_number 8 body in
    let len = big_number 8 (drop 8 body) in
    let within = (untested (len == 0 || ends_too_far at len) (Some (BadLength len)) None (BadLength len) refl e).0 in
    discard_has body (take 8 body) (drop 8 body) at len allowed fits refl refl (sym (big_from-take 0 8 8 body (omega arith))) refl (not_from_false _ within)

sound_resize : (body : List ℕ) → IsTrue (allows_length Resize (length body)) → IsBytes body → resize_fault body ≡ None → HasBody Resize body (event.Resize (big_number 8 body))
sound_resize body allowed fits e =
    let size = big_number 8 body in
    record {
      in_range = ltb-false furthest size (untested (nat_lt furthest size) (Some (BadLength size)) None (BadLength size) refl e).0;
      kind_is = refl;
      body_is = back_64 body size (eqb-true _ _ allowed) fits refl;
    }

not_mapped : (f : ℕ → FrameFault) (o : Option ℕ) → option_map f o ≡ None → o ≡ None
not_mapped f None e = refl
not_mapped f (Some n) e = absurd cc

sound_name : (text : List ℕ) → IsTrue (nat_le 1 (length text) && nat_le (length text) 64) → name_fault text ≡ None → IsName text
sound_name text allowed e =
    let lengths = and_parts (nat_le 1 (length text)) (nat_le (length text) 64) allowed in
    is_name text (not_mapped (λ place. BadText (5 + place)) (misplaced text) e) (leb-true _ _ lengths.0) (leb-true _ _ lengths.1)

sound : (kind : FrameKind) (body : List ℕ) → IsTrue (allows_length kind (length body)) → IsBytes body → body_fault kind body ≡ None → HasBody kind body (event_with kind body)
unfolding event_with
sound Write body allowed fits e = sound_write body allowed fits e
sound Discard body allowed fits e = sound_discard body allowed fits e
sound Resize body allowed fits e = sound_resize body allowed fits e
sound SnapCreate body allowed fits e = record { in_range = sound_name body allowed e; kind_is = refl; body_is = refl }
sound SnapRemove body allowed fits e = record { in_range = sound_name body allowed e; kind_is = refl; body_is = refl }
sound SnapRollback body allowed fits e = record { in_range = sound_name body allowed e; kind_is = refl; body_is = refl }
sound Demote body allowed fits e = record { in_range = tt; kind_is = refl; body_is = sym (nil_from_length body (eqb-true _ _ allowed)) }

named : (kind : Option FrameKind) (byte : ℕ) (rest : List ℕ) → fault_of_kind kind byte rest ≡ None → (k : FrameKind) × (kind ≡ Some k) × (fault_after k rest ≡ None)
named None byte rest e = absurd cc
named (Some k) byte rest e = (k, refl, e)

sound_after : (kind : FrameKind) (rest : List ℕ) → IsBytes rest → fault_after kind rest ≡ None → (body : List ℕ) × HasBodyAfter rest kind body × IsBytes body × (body_fault kind body ≡ None)
sound_after kind rest fits e =
    let len = big_number 4 rest in
    let body = take len (drop 4 rest) in
    let last = cond (nat_lt (length rest) (4 + len)) (Some Short) (body_fault kind body) in
    let a = untested (nat_lt (length rest) 4) (Some Short) (cond (not (allows_length kind len)) (Some (BadLength len)) last) Short refl e in
    let b = untested (not (allows_length kind len)) (Some (BadLength len)) last (BadLength len) refl a.1 in
    let c = untested (nat_lt (length rest) (4 + len)) (Some Short) (body_fault kind body) Short refl b.1 in
    let four : 4 ≤ length rest = ltb-false _ _ a.0 in
    let long : 4 + len ≤ length rest = ltb-false _ _ c.0 in (
      body,
      body_has kind rest (take 4 rest) (drop 4 rest) len fits four refl refl (sym (big_from-take 0 4 4 rest (omega arith))) (not-false _ b.0) (omega (arith, long, length-drop 4 rest)),
      IsBytes-take len (drop 4 rest) (IsBytes-drop 4 rest fits),
      c.1,
    )

pub frame_or_fault : (bytes : List ℕ) → IsBytes bytes → first_fault bytes ≡ None → (e : JournalEvent) × (rest : List ℕ) × IsInRange e × (bytes ≡ frame e ++ rest)
frame_or_fault [] fits e = absurd cc
frame_or_fault (byte ∷ rest) fits e =
    let k = named (frame_kind_at byte) byte rest e in
    let found = sound_after k.0 rest (λ i. fits (suc i)) k.2 in
    let body = found.0 in
    let header = header_has byte rest k.0 body k.1 found.1 in
    let has = sound k.0 body found.1.allowed found.2 found.3 in
    (event_with k.0 body, drop (5 + length body) (byte ∷ rest), has.in_range, stands (byte ∷ rest) k.0 body (event_with k.0 body) header has)
