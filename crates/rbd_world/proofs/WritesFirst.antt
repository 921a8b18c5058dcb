-- Of two writes of an instance, the one that found the image first writes each object first.
use Rattle.std.proofs.Common.{◌≡◌, ◌⊎◌, inl, inr, ℕ, ◌==◌, ◌||◌, cond, Bool, true, false, List, [], ◌∷◌, Some, None, refl, sym, ap, ◌∙◌, subst}
use Rattle.std.proofs.lemmas.Bool.{true≢false, eqb-true}
use Rattle.rbd_kinds.specs.declared.id.Instance.{Instance}
use Rattle.rbd_kinds.specs.declared.id.SiteId.{SiteId}
use Rattle.rbd_world.specs.Order.{IsInTurn, IsWriterOf, KeepsOrder, WritesFirst, finds_in, found_before, has_found, has_written, writes_in, writes_object}
use Rattle.rbd_world.specs.Run.{Happening, Nothing, Waited, Began, Did, Refused, Trimmed, Expired, Heard, Stopped, Restarted, asked_by, steps_of}
use Rattle.rbd_world.specs.Sound.{IsDue, IsRight}
use Rattle.rbd_world.proofs.FoundFirst.{both_none, done_by_line, found_in_rest, never_written, writer_same, writes_nothing}
use Rattle.rbd_world.proofs.Runs.{unheard}

module _ (homes : ℕ → SiteId) (who : Instance) where
  -- it is a write of the instance, or has done nothing yet
  abbrev IsKnown : (line : ℕ) → List Happening → Type 0
  IsKnown line run = IsWriterOf who line run ⊎ (steps_of line run ≡ [])

  known_before : (line : ℕ) (h : Happening) (run : List Happening) → IsDue homes h run → IsRight homes run → IsKnown line (h ∷ run) → IsKnown line run
  known_before line h run due right (inr none) = inr (both_none (steps_of line run) _ none).0
  known_before line Nothing run due right (inl w) = inl (writer_same who line Nothing run refl w)
  known_before line Waited run due right (inl w) = inl (writer_same who line Waited run refl w)
  known_before line (Did o reply) run due right (inl w) = inl (writer_same who line (Did o reply) run refl w)
  known_before line (Refused s other reply) run due right (inl w) = inl (writer_same who line (Refused s other reply) run refl w)
  known_before line (Trimmed s n image object) run due right (inl w) = inl (writer_same who line (Trimmed s n image object) run refl w)
  known_before line (Expired s n image watcher) run due right (inl w) = inl (writer_same who line (Expired s n image watcher) run refl w)
  known_before line (Heard notice) run due right (inl w) = inl (writer_same who line (Heard notice) run refl w)
  known_before line (Stopped stopped wanted lost) run due right (inl w) = inl (writer_same who line (Stopped stopped wanted lost) run refl w)
  known_before line (Restarted next) run due right (inl w) = inl (writer_same who line (Restarted next) run refl w)
  known_before line (Began asked slot) run due right (inl w) = by (asked.line == line) refl
    where
      by : (b : Bool) → (asked.line == line) ≡ b → IsKnown line run
      by true here = inr (unheard homes line run right (subst (λ l. asked_by l run ≡ None) (eqb-true asked.line line here) due.new)).steps
      by false other = inl (writer_same who line (Began asked slot) run (ap (λ b. cond b (Some asked) (asked_by line run)) other) w)

  module _ (one other : ℕ) (s : SiteId) (image number : ℕ) where
    -- it found the image first, or hasn't found it yet
    abbrev IsEarlier : List Happening → Type 0
    IsEarlier run = (found_before one other s image run ≡ true) ⊎ (has_found one s image run ≡ false)

    earlier_before : (h : Happening) (run : List Happening) → IsEarlier (h ∷ run) → IsEarlier run
    earlier_before h run earlier = by (has_found one s image run) refl earlier
      where
        by : (b : Bool) → has_found one s image run ≡ b → IsEarlier (h ∷ run) → IsEarlier run
        by false none e = inr none
        by true found (inl first) = inl (found_in_rest one other s image h run found first)
        by true found (inr none) = absurd (true≢false (sym (or_right (finds_in one s image h) found) ∙ none))
          where
            or_right : (a : Bool) {b : Bool} → b ≡ true → (a || b) ≡ true
            or_right true is = refl
            or_right false is = is

    unwritten : (h : Happening) (run : List Happening) → IsInTurn h run → IsKnown one (h ∷ run) → IsKnown other run → IsEarlier run → writes_in one s image number h ≡ true
        → has_written other s image number run ≡ false
    unwritten h run turn (inr none) also earlier writes = absurd (true≢false (sym writes ∙ writes_nothing one s image number h (both_none (steps_of one run) _ none).1))
    unwritten (Did o reply) run turn (inl w) also earlier writes = by earlier also
      where
        is : (turn_of : has_found one s image run ≡ true) → IsEarlier run → IsKnown other run → ((writer : IsWriterOf who other run) → found_before one other s image run ≡ true → has_written other s image number run ≡ false)
            → has_written other s image number run ≡ false
        is found (inr none) also first = absurd (true≢false (sym found ∙ none))
        is found (inl earlier) (inl writer) first = first writer earlier
        is found (inl earlier) (inr nothing) first = never_written other s image number run nothing

        by : IsEarlier run → IsKnown other run → has_written other s image number run ≡ false
        by earlier also =
            let done = done_by_line one s o (writes_object image number o.op) writes in
            let at = turn who one image number done.own (writer_same who one (Did o reply) run refl w) done.so in
            is (subst (λ t. has_found one t image run ≡ true) done.site_is at.found) earlier also
            (λ writer before.
            subst (λ t. has_written other t image number run ≡ false) done.site_is
            (at.first other writer (subst (λ t. found_before one other t image run ≡ true) (sym done.site_is) before)))
    unwritten Nothing run turn (inl w) also earlier writes = cc
    unwritten Waited run turn (inl w) also earlier writes = cc
    unwritten (Began asked slot) run turn (inl w) also earlier writes = cc
    unwritten (Refused t line reply) run turn (inl w) also earlier writes = cc
    unwritten (Trimmed t n i object) run turn (inl w) also earlier writes = cc
    unwritten (Expired t n i watcher) run turn (inl w) also earlier writes = cc
    unwritten (Heard notice) run turn (inl w) also earlier writes = cc
    unwritten (Stopped stopped wanted lost) run turn (inl w) also earlier writes = cc
    unwritten (Restarted next) run turn (inl w) also earlier writes = cc

    in_all : (run : List Happening) → IsRight homes run → KeepsOrder run → IsKnown one run → IsKnown other run → IsEarlier run → WritesFirst one other s image number run
    in_all [] right order first second earlier = tt
    in_all (h ∷ run) (standing, due, right) (turn, order) first second earlier =
        let also = known_before other h run due right second in
        let rest = earlier_before h run earlier in (
          λ writes. unwritten h run turn first also rest writes,
          in_all run right order (known_before one h run due right first) also rest,
        )

    pub writes_first : (run : List Happening) → IsRight homes run → KeepsOrder run → IsWriterOf who one run → IsWriterOf who other run → found_before one other s image run ≡ true
        → WritesFirst one other s image number run
    writes_first run right order first second earlier = in_all run right order (inl first) (inl second) (inl earlier)
