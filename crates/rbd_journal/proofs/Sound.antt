-- What each call leaves is sound.
use Rattle.std.proofs.Common.{◌≡◌, ℕ, ◌+◌, ◌-◌, ◌≤◌, List, [], ◌∷◌, ◌++◌, length, drop, true, false, cond, Option, Some, None, refl, sym, ap, subst, ◌∙◌, arith, inl, inr, max}
use Rattle.std.specs.Prelude.{IfSome, nat_le, unwrap_or}
use Rattle.std.proofs.lemmas.Bool.{cases_eq, cases_lt}
use Rattle.std.proofs.lemmas.List.{length-append, length-drop}
use Rattle.rbd_kinds.specs.declared.journal.JournalClient.{JournalClient}
use Rattle.rbd_kinds.specs.declared.journal.JournalClient.TheVariants.{Local, Mirror}
use Rattle.rbd_kinds.specs.declared.journal.Position.{Position}
use Rattle.rbd_kinds.specs.declared.journal.Span.{Span}
use Rattle.rbd_kinds.specs.Spans.{RunFrom, end_after}
use Rattle.rbd_journal.specs.Records.{Held, IsSoundJournal, JournalRecords, appended, based_on, committed, extended, first_held, frame_at, least_commit, mirror_registered, tag_drawn, tag_of, frames_trimmed}
use Rattle.rbd_journal.proofs.Newest.{ends_there, still_runs}
use Rattle.rbd_journal.proofs.Readings.{reads_committed, reads_elsewhere, reads_here, reads_needed}
use Rattle.rbd_journal.proofs.Tags.{tag_elsewhere, tag_here}

-- what is read with a number has the tag of the span that has the number
abbrev Tagged : List Span → (seq : ℕ) → Option (Position × List ℕ) → Type 0
Tagged spans seq read = IfSome read (λ x. tag_of spans seq ≡ Some x.0.tag)

further : (o : Option ℕ) (a b : ℕ) → a ≤ b → IfSome o (λ seq. seq ≤ a) → IfSome o (λ seq. seq ≤ b)
further None a b h below = below
further (Some n) a b h below = omega (arith, below)

-- ---- an append

at_the_end : (j : JournalRecords) (p : Position) → IsSoundJournal j → p.seq ≡ j.end + 1 → p.seq ≡ end_after 0 j.spans + 1
at_the_end j p is next = next ∙ ap (λ (n : ℕ). n + 1) is.end

other_tag : (j : JournalRecords) (p : Position) (seq : ℕ) (read : Option (Position × List ℕ)) → tag_of (extended p j.spans) seq ≡ tag_of j.spans seq
    → Tagged j.spans seq read → Tagged (extended p j.spans) seq read
other_tag j p seq None same tagged = tagged
other_tag j p seq (Some x) same tagged = same ∙ tagged

tags_appended : (j : JournalRecords) (p : Position) (frame : List ℕ) → IsSoundJournal j → p.seq ≡ j.end + 1 → (seq : ℕ)
    → Tagged (extended p j.spans) seq (frame_at (appended p frame j) seq)
tags_appended j p frame is next seq =
    elim (cases_eq seq p.seq) [
      | inl e ↦
          subst (λ (n : ℕ). Tagged (extended p j.spans) n (frame_at (appended p frame j) n)) (sym e)
          (subst (Tagged (extended p j.spans) p.seq) (sym (reads_here j p frame is next)) (tag_here p j.spans is.run (at_the_end j p is next)))
      | inr other ↦
          subst (Tagged (extended p j.spans) seq) (sym (reads_elsewhere j p frame seq is next other))
          (other_tag j p seq (frame_at j seq) (tag_elsewhere p j.spans seq (at_the_end j p is next) other) (is.tags seq))
    ]

pub sound_appended : (j : JournalRecords) (p : Position) (frame : List ℕ) → IsSoundJournal j → p.seq ≡ j.end + 1 → IsSoundJournal (appended p frame j)
sound_appended j p frame is next =
    let h : Held = record { tag = p.tag; frame = frame } in
    let len : length (j.held ++ h ∷ []) ≡ length j.held + 1 = length-append j.held (h ∷ []) in
    record {
      run = still_runs p j.spans is.run (at_the_end j p is next);
      end = sym (ends_there p j.spans);
      held = omega (arith, next, len, is.held);
      local = omega (arith, next, is.local);
      mirror = further j.mirror j.end p.seq (omega (arith, next)) is.mirror;
      uncommitted = omega (arith, next, len, is.uncommitted);
      tags = tags_appended j p frame is next;
    }

-- ---- a trim

tags_trimmed : (j : JournalRecords) → IsSoundJournal j → (seq : ℕ) → Tagged j.spans seq (frame_at (frames_trimmed j) seq)
tags_trimmed j is seq =
    elim (cases_lt (least_commit j) seq) [
      | inl lt ↦ subst (Tagged j.spans seq) (sym (reads_needed j seq is lt)) (is.tags seq)
      | inr le ↦ subst (Tagged j.spans seq) (sym (reads_committed j seq is le)) tt
    ]

pub sound_trimmed : (j : JournalRecords) → IsSoundJournal j → IsSoundJournal (frames_trimmed j)
sound_trimmed j is =
    let taken = least_commit j + 1 - first_held j in
    let len : length (drop taken j.held) ≡ length j.held - taken = length-drop taken j.held in
    record {
      run = is.run;
      end = is.end;
      held = omega (arith, len, is.held);
      local = is.local;
      mirror = is.mirror;
      uncommitted = omega (arith, len, is.held, is.local, is.uncommitted);
      tags = tags_trimmed j is;
    }

-- ---- the other calls

none_held : (spans : List Span) (seq : ℕ) → Tagged spans seq (frame_at (based_on spans) seq)
none_held spans seq = elim (nat_le (first_held (based_on spans)) seq) as (λ b. Tagged spans seq (cond b None None)) [ true ↦ tt | false ↦ tt ]

pub sound_based : (spans : List Span) → RunFrom 1 spans → IsSoundJournal (based_on spans)
sound_based spans run =
    record {
      run = run;
      end = refl;
      held = omega arith;
      local = omega arith;
      mirror = tt;
      uncommitted = omega arith;
      tags = none_held spans;
    }

raised : (o : Option ℕ) (seq end : ℕ) → IfSome o (λ n. n ≤ end) → seq ≤ end → max (unwrap_or o 0) seq ≤ end
raised None seq end within le = omega (arith, le)
raised (Some n) seq end within le = omega (arith, within, le)

pub sound_committed : (j : JournalRecords) (client : JournalClient) (seq : ℕ) → IsSoundJournal j → seq ≤ j.end → IsSoundJournal (committed client seq j)
sound_committed j Local seq is le =
    record {
      run = is.run;
      end = is.end;
      held = is.held;
      local = omega (arith, is.local, le);
      mirror = is.mirror;
      uncommitted = omega (arith, is.uncommitted);
      tags = is.tags;
    }
sound_committed j Mirror seq is le =
    record { run = is.run; end = is.end; held = is.held; local = is.local; mirror = raised j.mirror seq j.end is.mirror le; uncommitted = is.uncommitted; tags = is.tags }

at_least_none : (o : Option ℕ) (end : ℕ) → IfSome o (λ n. n ≤ end) → unwrap_or o 0 ≤ end
at_least_none None end within = omega arith
at_least_none (Some n) end within = within

pub sound_registered : (j : JournalRecords) → IsSoundJournal j → IsSoundJournal (mirror_registered j)
sound_registered j is =
    record { run = is.run; end = is.end; held = is.held; local = is.local; mirror = at_least_none j.mirror j.end is.mirror; uncommitted = is.uncommitted; tags = is.tags }

pub sound_drawn : (j : JournalRecords) → IsSoundJournal j → IsSoundJournal (tag_drawn j)
sound_drawn j is = record { run = is.run; end = is.end; held = is.held; local = is.local; mirror = is.mirror; uncommitted = is.uncommitted; tags = is.tags }

-- ---- what it says of tags

pub reads_tagged : (j : JournalRecords) (seq : ℕ) (p : Position) (frame : List ℕ) → IsSoundJournal j → frame_at j seq ≡ Some (p, frame) → tag_of j.spans seq ≡ Some p.tag
reads_tagged j seq p frame is read = subst (Tagged j.spans seq) read (is.tags seq)
