-- The writes of an instance stay in order where nothing of theirs happens.
use Rattle.std.proofs.Common.{◌≡◌, ◌⊎◌, inl, inr, ℕ, ◌||◌, true, false, List, [], ◌∷◌, Some, sym, ap, ◌∙◌, subst}
use Rattle.std.specs.Prelude.{IsSome}
use Rattle.rbd_kinds.specs.declared.id.Instance.{Instance}
use Rattle.rbd_kinds.specs.declared.id.SiteId.{SiteId}
use Rattle.rbd_queue.specs.Line.{ahead, is_member}
use Rattle.rbd_machine.specs.Plan.{Standing}
use Rattle.rbd_slots.specs.declared.running.Running.{Running}
use Rattle.rbd_slots.specs.Advance.{IsSameStand}
use Rattle.rbd_slots.specs.Lines.{lines_of}
use Rattle.rbd_slots.specs.Session.{SessionView, running_at}
use Rattle.rbd_world.specs.InLine.{IsPastWithout}
use Rattle.rbd_catalog.specs.InLine.{KeepsTo, LabelsKeepTo, ChangesInLine}
use Rattle.rbd_world.specs.Order.{IsBeforeFinding, IsBehindFinding, AreWritesInOrder, IsWriterOf, found_before, has_found, has_written, writes_in}
use Rattle.rbd_world.specs.Run.{Happening, asked_by, or_asked, steps_in}
use Rattle.rbd_world.specs.Sound.{IsDue, IsRight}
use Rattle.rbd_world.proofs.FoundFirst.{finds_nothing, found_earlier, writes_nothing, wrote_was}
use Rattle.rbd_world.proofs.Quiet.{IsQuiet}

-- ---- a happening that is none of a line's

pub found_still : (line : ℕ) (h : Happening) (run : List Happening) → steps_in line h ≡ [] → (s : SiteId) (image : ℕ) → has_found line s image (h ∷ run) ≡ has_found line s image run
found_still line h run none s image = ap (λ b. b || has_found line s image run) (finds_nothing line s image h none)

module _ {R : Type 0} (stands : R → Standing) (home : SiteId) (h : Happening) (run : List Happening) (r : Running R) (none : steps_in r.line h ≡ []) where
  before_still : IsBeforeFinding stands home run r → IsBeforeFinding stands home (h ∷ run) r
  before_still b = record {
    changes = b.changes;
    place = b.place;
    unfound = λ s image. found_still r.line h run none s image ∙ b.unfound s image;
  }

  behind_still : IsBehindFinding stands run r → IsBehindFinding stands (h ∷ run) r
  behind_still b = record {
    site = b.site;
    image = b.image;
    place = b.place;
    found = found_still r.line h run none b.site b.image ∙ b.found;
    only = λ s i is. b.only s i (sym (found_still r.line h run none s i) ∙ is);
    turn_at = b.turn_at;
    keeps = b.keeps;
    labels = b.labels;
  }

  pub comes_still : (IsBeforeFinding stands home run r) ⊎ (IsBehindFinding stands run r) → (IsBeforeFinding stands home (h ∷ run) r) ⊎ (IsBehindFinding stands (h ∷ run) r)
  comes_still (inl b) = inl (before_still b)
  comes_still (inr b) = inr (behind_still b)

-- an object that was written was written by what happened now, or before
pub written_before : (line : ℕ) (s : SiteId) (image number : ℕ) (h : Happening) (run : List Happening) → writes_in line s image number h ≡ false
    → has_written line s image number (h ∷ run) ≡ true → has_written line s image number run ≡ true
written_before line s image number h run none is = sym (ap (λ b. b || has_written line s image number run) none) ∙ is

module _ {R : Type 0} (stands : R → Standing) (homes : ℕ → SiteId) (home : SiteId) (who : Instance) (h : Happening) (run : List Happening) (c : SessionView R)
    (due : IsDue homes h run) (right : IsRight homes run) (foreign : (other : ℕ) → IsWriterOf who other (h ∷ run) → steps_in other h ≡ []) where
  -- it is no step of its writes, and begins none of its requests
  pub still_order : ((x : ℕ) (r : Running R) → running_at x c ≡ Some r → or_asked r.line h (asked_by r.line run) ≡ asked_by r.line run)
      → ((x : ℕ) (r : Running R) → running_at x c ≡ Some r → IsSome r.extent → steps_in r.line h ≡ []) → AreWritesInOrder stands home who run c → AreWritesInOrder stands home who (h ∷ run) c
  still_order same none old = record {
    extents = λ x r runs asked is. old.extents x r runs asked (sym (same x r runs) ∙ is);
    comes = λ x r runs writes. comes_still stands home h run r (none x r runs writes) (old.comes x r runs writes);
    in_line = λ x y r q runs also writes other_writes s image before member.
        old.in_line x y r q runs also writes other_writes s image
        (found_earlier r.line q.line s image h run (finds_nothing r.line s image h (none x r runs writes)) before) member;
    past = λ x r runs writes other writer s image number before written.
        let earlier = written_before other s image number h run (writes_nothing other s image number h (foreign other writer)) written in
        old.past x r runs writes other (wrote_was homes who other s image number h run due right writer earlier) s image number
        (found_earlier r.line other s image h run (finds_nothing r.line s image h (none x r runs writes)) before) earlier;
  }

  pub quiet_order : ((x : ℕ) (r : Running R) → running_at x c ≡ Some r → IsQuiet r.line h) → AreWritesInOrder stands home who run c → AreWritesInOrder stands home who (h ∷ run) c
  quiet_order quiet = still_order (λ x r runs. (quiet x r runs).asked (asked_by r.line run)) (λ x r runs writes. (quiet x r runs).steps)

-- ---- a session that holds the same requests in the same lines, or fewer

module _ {R : Type 0} (stands : R → Standing) (home : SiteId) (who : Instance) (run : List Happening) where
  before_same : (r q : Running R) → IsSameStand stands r q → IsBeforeFinding stands home run r → IsBeforeFinding stands home run q
  before_same r q same b = record {
    changes = subst (ChangesInLine home) (sym same.same) b.changes;
    place = same.place ∙ b.place;
    unfound = λ s image. ap (λ l. has_found l s image run) same.line ∙ b.unfound s image;
  }

  behind_same : (r q : Running R) → IsSameStand stands r q → IsBehindFinding stands run r → IsBehindFinding stands run q
  behind_same r q same b = record {
    site = b.site;
    image = b.image;
    place = same.place ∙ b.place;
    found = ap (λ l. has_found l b.site b.image run) same.line ∙ b.found;
    only = λ s i is. b.only s i (sym (ap (λ l. has_found l s i run) same.line) ∙ is);
    turn_at = b.turn_at;
    keeps =
        subst (λ turn. KeepsTo b.site b.image b.turn_at turn (stands q.request).plan) (sym same.turn)
        (subst (λ (x : Standing). KeepsTo b.site b.image b.turn_at r.turn x.plan) (sym same.same) b.keeps);
    labels = subst (λ (x : Standing). LabelsKeepTo b.site b.image b.turn_at x.labels) (sym same.same) b.labels;
  }

  comes_same : (r q : Running R) → IsSameStand stands r q → (IsBeforeFinding stands home run r) ⊎ (IsBehindFinding stands run r) → (IsBeforeFinding stands home run q) ⊎ (IsBehindFinding stands run q)
  comes_same r q same (inl b) = inl (before_same r q same b)
  comes_same r q same (inr b) = inr (behind_same r q same b)

  -- the request that stood there so
  pub record WasThere (x : ℕ) (c : SessionView R) (q : Running R) : Type 0 where
    pub was : Running R
    pub there : running_at x c ≡ Some was
    pub same : IsSameStand stands was q

  pub same_order : (c d : SessionView R) → ((x : ℕ) (q : Running R) → running_at x d ≡ Some q → WasThere x c q)
      → ((s : SiteId) (image : ℕ) → lines_of d.lines s image ≡ lines_of c.lines s image) → AreWritesInOrder stands home who run c → AreWritesInOrder stands home who run d
  same_order c d there lines old = record {
    extents = λ x q runs asked is.
        let w = there x q runs in w.same.extent ∙ old.extents x w.was w.there asked (sym (ap (λ l. asked_by l run) w.same.line) ∙ is);
    comes = λ x q runs writes. let w = there x q runs in comes_same w.was q w.same (old.comes x w.was w.there (subst IsSome w.same.extent writes));
    in_line = λ x y q p runs also writes other_writes s image before member.
        let w = there x q runs in
        let v = there y p also in
        ap (λ ms. is_member x (ahead y ms)) (lines s image)
        ∙ old.in_line x y w.was v.was w.there v.there (subst IsSome w.same.extent writes) (subst IsSome v.same.extent other_writes) s image
        (sym (ap (λ l. found_before l p.line s image run) w.same.line ∙ ap (λ l. found_before w.was.line l s image run) v.same.line) ∙ before)
        (sym (ap (is_member y) (lines s image)) ∙ member);
    past = λ x q runs writes other writer s image number before written.
        let w = there x q runs in
        subst (IsPastWithout x number) (sym (lines s image))
        (old.past x w.was w.there (subst IsSome w.same.extent writes) other writer s image number (sym (ap (λ l. found_before l other s image run) w.same.line) ∙ before) written);
  }
