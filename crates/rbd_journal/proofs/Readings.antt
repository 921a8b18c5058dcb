-- What is read after an append and after a trim.
use Rattle.std.proofs.Common.{◌≡◌, ◌≢◌, ℕ, zero, suc, ◌+◌, ◌-◌, ◌<◌, ◌≤◌, cond, List, [], ◌∷◌, ◌++◌, length, drop, Option, Some, None, refl, sym, ap, subst, ◌∙◌, arith, inl, inr}
use Rattle.std.specs.Prelude.{slice_get, nat_le, option_map, IsSome}
use Rattle.std.proofs.lemmas.Bool.{cases_lt, cond-true, cond-false, le-leb, lt-leb}
use Rattle.std.proofs.lemmas.List.{length-append, length-drop}
use Rattle.rbd_kinds.specs.declared.journal.Position.{Position}
use Rattle.rbd_journal.specs.Records.{Held, IsSoundJournal, JournalRecords, appended, first_held, frame_at, least_commit, positioned, frames_trimmed}

get_new : (xs : List Held) (y : Held) → slice_get (xs ++ y ∷ []) (length xs) ≡ Some y
get_new [] y = refl
get_new (x ∷ xs) y = get_new xs y

get_other : (xs : List Held) (y : Held) (i : ℕ) → (i ≡ length xs → ⊥) → slice_get (xs ++ y ∷ []) i ≡ slice_get xs i
get_other [] y zero other = absurd (other refl)
get_other [] y (suc i) other = refl
get_other (x ∷ xs) y zero other = refl
get_other (x ∷ xs) y (suc i) other = get_other xs y i (λ e. other (ap suc e))

get_drop : (n : ℕ) (xs : List Held) (i : ℕ) → slice_get (drop n xs) i ≡ slice_get xs (n + i)
get_drop zero xs i = ap (slice_get xs) (let e : i ≡ 0 + i = omega arith in e)
get_drop (suc n) [] i = refl
get_drop (suc n) (x ∷ xs) i = get_drop n xs i ∙ ap (slice_get (x ∷ xs)) (let e : suc (n + i) ≡ suc n + i = omega arith in e)

within : (xs : List Held) (i : ℕ) → i < length xs → IsSome (slice_get xs i)
within [] i lt = absurd (omega arith)
within (x ∷ xs) zero lt = refl
within (x ∷ xs) (suc i) lt = within xs i (omega arith)

some_mapped : {X Y : Type 0} (f : X → Y) (o : Option X) → IsSome o → IsSome (option_map f o)
some_mapped f None h = h
some_mapped f (Some x) h = refl

-- what is read of a list whose first item bears the number `first`
abbrev at_number : (first seq : ℕ) → List Held → Option (Position × List ℕ)
at_number first seq held = cond (nat_le first seq) (option_map (positioned seq) (slice_get held (seq - first))) None

at_held : (first seq : ℕ) (held : List Held) → first ≤ seq → at_number first seq held ≡ option_map (positioned seq) (slice_get held (seq - first))
at_held first seq held le = cond-true (nat_le first seq) _ _ (le-leb first seq le)

before_held : (first seq : ℕ) (held : List Held) → seq < first → at_number first seq held ≡ None
before_held first seq held lt = cond-false (nat_le first seq) _ _ (lt-leb first seq lt)

first_after : (j : JournalRecords) (p : Position) (frame : List ℕ) → IsSoundJournal j → p.seq ≡ j.end + 1 → first_held (appended p frame j) ≡ first_held j
first_after j p frame is next =
    let h : Held = record { tag = p.tag; frame = frame } in
    let len : length (j.held ++ h ∷ []) ≡ length j.held + 1 = length-append j.held (h ∷ []) in
    omega (arith, is.held, next, len)

pub reads_here : (j : JournalRecords) (p : Position) (frame : List ℕ) → IsSoundJournal j → p.seq ≡ j.end + 1 → frame_at (appended p frame j) p.seq ≡ Some (p, frame)
reads_here j p frame is next =
    let h : Held = record { tag = p.tag; frame = frame } in
    let first = first_held j in
    let index : p.seq - first ≡ length j.held = omega (arith, is.held, next) in
    ap (λ (f : ℕ). at_number f p.seq (j.held ++ h ∷ [])) (first_after j p frame is next)
    ∙ at_held first p.seq (j.held ++ h ∷ []) (omega (arith, is.held, next))
    ∙ ap (λ (i : ℕ). option_map (positioned p.seq) (slice_get (j.held ++ h ∷ []) i)) index
    ∙ ap (option_map (positioned p.seq)) (get_new j.held h)

pub reads_elsewhere : (j : JournalRecords) (p : Position) (frame : List ℕ) (seq : ℕ) → IsSoundJournal j → p.seq ≡ j.end + 1 → seq ≢ p.seq → frame_at (appended p frame j) seq ≡ frame_at j seq
reads_elsewhere j p frame seq is next other =
    let h : Held = record { tag = p.tag; frame = frame } in
    let first = first_held j in
    let moved = ap (λ (f : ℕ). at_number f seq (j.held ++ h ∷ [])) (first_after j p frame is next) in
    elim (cases_lt seq first) [
      | inl lt ↦ moved ∙ before_held first seq (j.held ++ h ∷ []) lt ∙ sym (before_held first seq j.held lt)
      | inr le ↦
          moved ∙ at_held first seq (j.held ++ h ∷ []) le
          ∙ ap (option_map (positioned seq)) (get_other j.held h (seq - first) (λ e. other (let same : seq ≡ p.seq = omega (arith, is.held, next, e, le) in same)))
          ∙ sym (at_held first seq j.held le)
    ]

-- how many frames a trim takes
abbrev taken : JournalRecords → ℕ
taken j = least_commit j + 1 - first_held j

least_within : (j : JournalRecords) → IsSoundJournal j → least_commit j ≤ j.end
least_within j is = omega (arith, is.local)

first_trimmed : (j : JournalRecords) → IsSoundJournal j → first_held (frames_trimmed j) ≡ first_held j + taken j
first_trimmed j is =
    let len : length (drop (taken j) j.held) ≡ length j.held - taken j = length-drop (taken j) j.held in
    omega (arith, is.held, least_within j is, len)

pub reads_committed : (j : JournalRecords) (seq : ℕ) → IsSoundJournal j → seq ≤ least_commit j → frame_at (frames_trimmed j) seq ≡ None
reads_committed j seq is le =
    before_held (first_held (frames_trimmed j)) seq (drop (taken j) j.held) (omega (arith, first_trimmed j is, le))

pub reads_needed : (j : JournalRecords) (seq : ℕ) → IsSoundJournal j → least_commit j < seq → frame_at (frames_trimmed j) seq ≡ frame_at j seq
reads_needed j seq is lt =
    let first = first_held j in
    let later = first_held (frames_trimmed j) in
    let e = first_trimmed j is in
    elim (cases_lt seq first) [
      | inl before ↦ before_held later seq (drop (taken j) j.held) (omega (arith, e, before)) ∙ sym (before_held first seq j.held before)
      | inr le ↦
          at_held later seq (drop (taken j) j.held) (omega (arith, e, lt, le))
          ∙ ap (option_map (positioned seq)) (get_drop (taken j) j.held (seq - later))
          ∙ ap (λ (i : ℕ). option_map (positioned seq) (slice_get j.held i)) (let i : taken j + (seq - later) ≡ seq - first = omega (arith, e, lt, le) in i)
          ∙ sym (at_held first seq j.held le)
    ]

pub uncommitted_held : (j : JournalRecords) (seq : ℕ) → IsSoundJournal j → j.local < seq → seq ≤ j.end → IsSome (frame_at j seq)
uncommitted_held j seq is after_local within_end =
    let first = first_held j in
    let le : first ≤ seq = omega (arith, is.uncommitted, after_local) in
    let index : seq - first < length j.held = omega (arith, is.held, is.uncommitted, after_local, within_end) in
    subst IsSome (sym (at_held first seq j.held le)) (some_mapped (positioned seq) (slice_get j.held (seq - first)) (within j.held (seq - first) index))

position_is : (o : Option Held) (seq : ℕ) (p : Position) (frame : List ℕ) → option_map (positioned seq) o ≡ Some (p, frame) → p.seq ≡ seq
position_is None seq p frame e = absurd cc
position_is (Some h) seq p frame e = let same : (record { tag = h.tag; seq = seq }, h.frame) ≡ (p, frame) = cc in sym (ap (λ (x : Position × List ℕ). x.0.seq) same)

pub reads_number : (j : JournalRecords) (seq : ℕ) (p : Position) (frame : List ℕ) → frame_at j seq ≡ Some (p, frame) → p.seq ≡ seq
reads_number j seq p frame e =
    let first = first_held j in
    elim (cases_lt seq first) [
      | inl lt ↦ position_is None seq p frame (sym (before_held first seq j.held lt) ∙ e)
      | inr le ↦ position_is (slice_get j.held (seq - first)) seq p frame (sym (at_held first seq j.held le) ∙ e)
    ]
