-- A session that was made ready for an answer is as it was, and ready.
use Rattle.std.proofs.Common.{◌≡◌, ◌≢◌, ◌⊎◌, inl, inr, ℕ, ◌<◌, ◌≤◌, true, [], length, slice_set, Option, Some, None, Result, Ok, Err, OnOk, refl, sym, ap, ◌∙◌, subst}
use Rattle.std.proofs.lemmas.Bool.{cases_eq}
use Rattle.std.proofs.lemmas.List.{get_or-set_same, get_or-set_other}
use Rattle.rbd_kinds.specs.declared.answer.Answer.{Answer}
use Rattle.rbd_kinds.specs.declared.machine.Fed.{Fed}
use Rattle.rbd_queue.specs.Line.{member_of}
use Rattle.rbd_machine.specs.Answers.{CanBeFed}
use Rattle.rbd_machine.specs.Plan.{Standing, IsAsking}
use Rattle.rbd_slots.specs.declared.running.Occupant.{Occupant}
use Rattle.rbd_slots.specs.declared.running.Occupant.TheVariants as occupant
use Rattle.rbd_slots.specs.declared.running.Running.{Running}
use Rattle.rbd_slots.specs.Advance.{track_of, looked_for, IsSameStand, IsFedWell}
use Rattle.rbd_slots.specs.Lines.{AreUsed, LinesView, lines_of}
use Rattle.rbd_slots.specs.OnTrack.{IsOnTrack, IsSomewhere, AreFair, LeavesOthers}
use Rattle.rbd_slots.specs.Session.{SessionView, IsSoundSession, OfRunning, IsAnswered, IsAlikeIn, IsAlike, IsReadied, IsPrepared, held_in, running_in}
use Rattle.rbd_slots.specs.Waits.{waits}
use Rattle.rbd_slots.proofs.Sound.{set_sound, running_range, is_within, stays_lowest}

module _ {R : Type 0} (stands : R → Standing) where
  -- what is asked before
  pub can_prepare : (s : SessionView R) → IsSoundSession stands s → (slot : ℕ) (f : Fed) → OfRunning (IsAnswered stands slot s.lines f) (held_in slot s.slots)
      → OfRunning (λ r. IsAsking (stands r.request).plan × CanBeFed (stands r.request).plan f × IsSomewhere slot (track_of r s.lines)) (held_in slot s.slots)
  can_prepare s sound slot f answered = go (held_in slot s.slots) refl answered
    where
      go : (o : Option (Occupant R)) → held_in slot s.slots ≡ o → OfRunning (IsAnswered stands slot s.lines f) o
          → OfRunning (λ r. IsAsking (stands r.request).plan × CanBeFed (stands r.request).plan f × IsSomewhere slot (track_of r s.lines)) o
      go (Some (occupant.Running r)) is a = (sound.asks slot r (ap running_in is), a.can, (sound.runs slot r (ap running_in is)).somewhere)
      go (Some (occupant.Refused line refusal)) is a = elim a [ ]
      go None is a = elim a [ ]

  pub same_track : (r q : Running R) (old new : LinesView) → IsSameStand stands r q → lines_of new ≡ lines_of old → track_of q new ≡ track_of r old
  same_track r q old new same lines =
      ap (λ p. record { place = p; turn = q.turn; due = []; lines = lines_of new }) same.place
      ∙ ap (λ t. record { place = r.place; turn = t; due = []; lines = lines_of new }) same.turn
      ∙ ap (λ ls. record { place = r.place; turn = r.turn; due = []; lines = ls }) lines

  same_on_track : (slot : ℕ) (r q : Running R) (old new : LinesView) → IsSameStand stands r q → lines_of new ≡ lines_of old → IsOnTrack slot r.extent true (stands r.request) (track_of r old)
      → IsOnTrack slot q.extent true (stands q.request) (track_of q new)
  same_on_track slot r q old new same lines on =
      subst (λ e. IsOnTrack slot e true (stands q.request) (track_of q new)) (sym same.extent)
      (subst (λ s. IsOnTrack slot r.extent true s (track_of q new)) (sym same.same)
      (subst (IsOnTrack slot r.extent true (stands r.request)) (sym (same_track r q old new same lines)) on))

  -- the slot that was made ready, behind what it held before
  abbrev pub IsFrom : (is_ready : R → Answer → Type 0) → (slot : ℕ) → LinesView → Fed → (Type 0 → Type 0) → LinesView → Option (Occupant R) → Running R → Type 0
  IsFrom is_ready slot before f if_ok after o r = OfRunning (λ q. IsSameStand stands r q × if_ok (IsPrepared stands is_ready slot r before f q after)) o

  held_alike_itself : (o : Option (Occupant R)) → IsAlikeIn stands o o
  held_alike_itself (Some (occupant.Running r)) = record { same = refl; line = refl; extent = refl; place = refl; turn = refl }
  held_alike_itself (Some (occupant.Refused line refusal)) = refl
  held_alike_itself None = refl

  -- a session is alike itself
  pub alike_itself : (s : SessionView R) → IsAlike stands s s
  alike_itself s = record { instance = refl; home = refl; lowest = refl; slots = λ slot. held_alike_itself (held_in slot s.slots); lines = refl }

  module _ (is_ready : R → Answer → Type 0) (s : SessionView R) (sound : IsSoundSession stands s) (slot : ℕ) (f : Fed) (if_ok : Type 0 → Type 0) (o : Option (Occupant R)) (after : LinesView)
      (lines : lines_of after ≡ lines_of s.lines) (used : AreUsed s.lines.entries → AreUsed after.entries) (from : OfRunning (IsFrom is_ready slot s.lines f if_ok after o) (held_in slot s.slots)) where
    leaves : LeavesOthers slot (lines_of s.lines) (lines_of after)
    leaves other differ site image = ap (λ (ls : _). member_of other (ls site image)) lines

    fair : AreFair (lines_of after)
    fair = subst AreFair (sym lines) sound.fair

    less : slot < length s.slots
    less = is_within stands s sound slot (IsFrom is_ready slot s.lines f if_ok after o) from

    pub readied_sound : IsSoundSession stands (record { instance = s.instance; home = s.home; slots = slice_set s.slots slot o; lowest = s.lowest; lines = after })
    readied_sound = go (held_in slot s.slots) refl o refl from
      where
        range : (1 ≤ slot) × (slot ≤ 64)
        range = running_range stands s sound slot (IsFrom is_ready slot s.lines f if_ok after o) from

        go : (h : Option (Occupant R)) → held_in slot s.slots ≡ h → (p : Option (Occupant R)) → o ≡ p → OfRunning (IsFrom is_ready slot s.lines f if_ok after p) h
            → IsSoundSession stands (record { instance = s.instance; home = s.home; slots = slice_set s.slots slot o; lowest = s.lowest; lines = after })
        go (Some (occupant.Running r)) is (Some (occupant.Running q)) are both =
            subst (λ p. IsSoundSession stands (record { instance = s.instance; home = s.home; slots = slice_set s.slots slot p; lowest = s.lowest; lines = after })) (sym are)
            (set_sound stands s sound slot range.0 range.1 (Some (occupant.Running q)) s.lowest after leaves fair (used sound.used)
            (stays_lowest s.slots s.lowest slot (occupant.Running r) (occupant.Running q) sound.lowest less is) (
              same_on_track slot r q s.lines after both.0 lines (sound.runs slot r (ap running_in is)),
              subst (λ (t : Standing). IsAsking t.plan) (sym both.0.same) (sound.asks slot r (ap running_in is)),
            ))
        go (Some (occupant.Running r)) is (Some (occupant.Refused line refusal)) are both = elim both [ ]
        go (Some (occupant.Running r)) is None are both = elim both [ ]
        go (Some (occupant.Refused line refusal)) is p are both = elim both [ ]
        go None is p are both = elim both [ ]

    pub readied_alike : IsAlike stands s (record { instance = s.instance; home = s.home; slots = slice_set s.slots slot o; lowest = s.lowest; lines = after })
    readied_alike = record {
      instance = refl;
      home = refl;
      lowest = refl;
      slots = λ n. at (cases_eq n slot);
      lines = lines;
    }
      where
        here : (h : Option (Occupant R)) (p : Option (Occupant R)) → OfRunning (IsFrom is_ready slot s.lines f if_ok after p) h → IsAlikeIn stands h p
        here (Some (occupant.Running r)) (Some (occupant.Running q)) both = both.0
        here (Some (occupant.Running r)) (Some (occupant.Refused line refusal)) both = elim both [ ]
        here (Some (occupant.Running r)) None both = elim both [ ]
        here (Some (occupant.Refused line refusal)) p both = elim both [ ]
        here None p both = elim both [ ]

        at : {n : ℕ} → (n ≡ slot) ⊎ (n ≢ slot) → IsAlikeIn stands (held_in n s.slots) (held_in n (slice_set s.slots slot o))
        at {n} (inl same) =
            subst (λ k. IsAlikeIn stands (held_in k s.slots) (held_in k (slice_set s.slots slot o))) (sym same)
            (subst (IsAlikeIn stands (held_in slot s.slots)) (sym (get_or-set_same s.slots slot o None less)) (here (held_in slot s.slots) o from))
        at {n} (inr differ) = subst (IsAlikeIn stands (held_in n s.slots)) (sym (get_or-set_other s.slots slot n o None differ)) (held_alike_itself (held_in n s.slots))

  ready_is : (is_ready : R → Answer → Type 0) (s : SessionView R) → IsSoundSession stands s → (slot : ℕ) (f : Fed) (o : Option (Occupant R)) (after : LinesView) → lines_of after ≡ lines_of s.lines
      → OfRunning (IsFrom is_ready slot s.lines f (λ P. P) after o) (held_in slot s.slots) → OfRunning (IsAnswered stands slot s.lines f) (held_in slot s.slots)
      → OfRunning (λ q. IsFedWell stands is_ready slot q after f) o
  ready_is is_ready s sound slot f o after lines from answered = go (held_in slot s.slots) refl o from answered
    where
      range : (1 ≤ slot) × (slot ≤ 64)
      range = running_range stands s sound slot (IsFrom is_ready slot s.lines f (λ P. P) after o) from

      go : (h : Option (Occupant R)) → held_in slot s.slots ≡ h → (p : Option (Occupant R)) → OfRunning (IsFrom is_ready slot s.lines f (λ P. P) after p) h → OfRunning (IsAnswered stands slot s.lines f) h
          → OfRunning (λ q. IsFedWell stands is_ready slot q after f) p
      go (Some (occupant.Running r)) is (Some (occupant.Running q)) both a =
          let track = same_track r q s.lines after both.0 lines in
          record {
            from = range.0;
            to = range.1;
            asks = subst (λ (t : Standing). IsAsking t.plan) (sym both.0.same) (sound.asks slot r (ap running_in is));
            can = subst (λ (t : Standing). CanBeFed t.plan f) (sym both.0.same) a.can;
            ready = both.1.ready;
            looked =
                both.1.looked ∙ ap (λ e. looked_for slot e (track_of r s.lines) (stands r.request).plan f) (sym both.0.extent)
                ∙ ap (λ t. looked_for slot q.extent t (stands r.request).plan f) (sym track) ∙ ap (λ (t : Standing). looked_for slot q.extent (track_of q after) t.plan f) (sym both.0.same);
            goes = ap (waits slot) track ∙ a.goes;
            opens = both.1.opens;
            room = both.1.room;
            on = same_on_track slot r q s.lines after both.0 lines (sound.runs slot r (ap running_in is));
            fair = subst AreFair (sym lines) sound.fair;
          }
      go (Some (occupant.Running r)) is (Some (occupant.Refused line refusal)) both a = elim both [ ]
      go (Some (occupant.Running r)) is None both a = elim both [ ]
      go (Some (occupant.Refused line refusal)) is p both a = elim both [ ]
      go None is p both a = elim both [ ]

  pub ready_where_ok : {T E : Type 0} (result : Result T E) (is_ready : R → Answer → Type 0) (s : SessionView R) → IsSoundSession stands s → (slot : ℕ) (f : Fed) (o : Option (Occupant R)) (after : LinesView)
      → lines_of after ≡ lines_of s.lines → OfRunning (IsFrom is_ready slot s.lines f (OnOk result) after o) (held_in slot s.slots) → OfRunning (IsAnswered stands slot s.lines f) (held_in slot s.slots)
      → OnOk result (IsReadied stands is_ready slot f (record { instance = s.instance; home = s.home; slots = slice_set s.slots slot o; lowest = s.lowest; lines = after }))
  ready_where_ok (Ok x) is_ready s sound slot f o after lines from answered =
      subst (OfRunning (λ q. IsFedWell stands is_ready slot q after f))
      (sym (get_or-set_same s.slots slot o None (is_within stands s sound slot (IsAnswered stands slot s.lines f) answered)))
      (ready_is is_ready s sound slot f o after lines from answered)
  ready_where_ok (Err e) is_ready s sound slot f o after lines from answered = tt
