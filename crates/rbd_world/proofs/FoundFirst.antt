-- Who found an image first, one happening after another.
use Rattle.std.proofs.Common.{◌≡◌, ℕ, ◌==◌, ◌&&◌, ◌||◌, not, cond, Bool, true, false, List, [], ◌∷◌, ◌++◌, Some, None, refl, sym, ap, ◌∙◌, subst}
use Rattle.std.proofs.lemmas.Bool.{true≢false, eqb-true, and_parts, or_parts}
use Rattle.rbd_kinds.specs.declared.id.Instance.{Instance}
use Rattle.rbd_kinds.specs.declared.id.SiteId.{SiteId}
use Rattle.rbd_kinds.proofs.Images.{same_site_is}
use Rattle.rbd_machine.specs.Knowledge.{same_site}
use Rattle.rbd_world.specs.Run.{Happening, Nothing, Waited, Began, Did, Refused, Trimmed, Expired, Heard, Stopped, Restarted, Operation, asked_by, is_own, or_asked, step_of, steps_in, steps_of}
use Rattle.rbd_world.specs.Sound.{IsDue, IsRight}
use Rattle.rbd_world.specs.Order.{IsInTurn, IsWriterOf, KeepsOrder, finds_in, found_before, has_found, has_written, tells_image, writes_in, writes_object}
use Rattle.rbd_world.proofs.Runs.{unheard}

-- ---- a happening without a step of the line

no_step : (o : Operation) (line : ℕ) → cond (is_own line o.by) (step_of o ∷ []) [] ≡ [] → is_own line o.by ≡ false
no_step o line none = by (is_own line o.by) refl none
  where
    by : (b : Bool) → is_own line o.by ≡ b → cond b (step_of o ∷ []) [] ≡ [] → is_own line o.by ≡ false
    by true is none = cc
    by false is none = is

pub finds_nothing : (line : ℕ) (s : SiteId) (image : ℕ) (h : Happening) → steps_in line h ≡ [] → finds_in line s image h ≡ false
finds_nothing line s image (Did o reply) none = ap (λ b. b && (same_site o.site s && tells_image image o.op o.answer)) (no_step o line none)
finds_nothing line s image Nothing none = refl
finds_nothing line s image Waited none = refl
finds_nothing line s image (Began asked slot) none = refl
finds_nothing line s image (Refused site other reply) none = refl
finds_nothing line s image (Trimmed site number i object) none = refl
finds_nothing line s image (Expired site number i who) none = refl
finds_nothing line s image (Heard notice) none = refl
finds_nothing line s image (Stopped who wanted lost) none = refl
finds_nothing line s image (Restarted who) none = refl

pub writes_nothing : (line : ℕ) (s : SiteId) (image number : ℕ) (h : Happening) → steps_in line h ≡ [] → writes_in line s image number h ≡ false
writes_nothing line s image number (Did o reply) none = ap (λ b. b && (same_site o.site s && writes_object image number o.op)) (no_step o line none)
writes_nothing line s image number Nothing none = refl
writes_nothing line s image number Waited none = refl
writes_nothing line s image number (Began asked slot) none = refl
writes_nothing line s image number (Refused site other reply) none = refl
writes_nothing line s image number (Trimmed site n i object) none = refl
writes_nothing line s image number (Expired site n i who) none = refl
writes_nothing line s image number (Heard notice) none = refl
writes_nothing line s image number (Stopped who wanted lost) none = refl
writes_nothing line s image number (Restarted who) none = refl

pub both_none : {T : Type 0} (xs ys : List T) → xs ++ ys ≡ [] → (xs ≡ []) × (ys ≡ [])
both_none [] ys none = (refl, none)
both_none (x ∷ xs) ys none = cc

pub never_found : (line : ℕ) (s : SiteId) (image : ℕ) (run : List Happening) → steps_of line run ≡ [] → has_found line s image run ≡ false
never_found line s image [] none = refl
never_found line s image (h ∷ run) none =
    let parts = both_none (steps_of line run) (steps_in line h) none in
    ap (λ b. b || has_found line s image run) (finds_nothing line s image h parts.1) ∙ never_found line s image run parts.0

pub never_written : (line : ℕ) (s : SiteId) (image number : ℕ) (run : List Happening) → steps_of line run ≡ [] → has_written line s image number run ≡ false
never_written line s image number [] none = refl
never_written line s image number (h ∷ run) none =
    let parts = both_none (steps_of line run) (steps_in line h) none in
    ap (λ b. b || has_written line s image number run) (writes_nothing line s image number h parts.1) ∙ never_written line s image number run parts.0

-- ---- who found it first

-- what it comes to at the latest happening, or before
pub record FindsNow (one other : ℕ) (s : SiteId) (image : ℕ) (run : List Happening) : Type 0 where
  pub found : has_found one s image run ≡ true
  pub unfound : has_found other s image run ≡ false

now_or_before : {P : Type 0} (one other : ℕ) (s : SiteId) (image : ℕ) (h : Happening) (run : List Happening) → found_before one other s image (h ∷ run) ≡ true
    → (FindsNow one other s image (h ∷ run) → P) → (found_before one other s image run ≡ true → P) → P
now_or_before {P} one other s image h run is now before = by (has_found one s image (h ∷ run)) refl (has_found other s image (h ∷ run)) refl is
  where
    by : (a : Bool) → has_found one s image (h ∷ run) ≡ a → (b : Bool) → has_found other s image (h ∷ run) ≡ b → ((a && not b) || found_before one other s image run) ≡ true → P
    by true e false f is = now (record { found = e; unfound = f })
    by true e true f is = before is
    by false e b f is = before is

pub found_has : (one other : ℕ) (s : SiteId) (image : ℕ) (run : List Happening) → found_before one other s image run ≡ true → has_found one s image run ≡ true
found_has one other s image [] is = absurd (true≢false (sym is))
found_has one other s image (h ∷ run) is =
    now_or_before one other s image h run is (λ now. now.found) (λ before. or_true (finds_in one s image h) (found_has one other s image run before))
  where
    or_true : (a : Bool) {b : Bool} → b ≡ true → (a || b) ≡ true
    or_true true is = refl
    or_true false is = is

-- nobody found it before itself
pub never_itself : (one : ℕ) (s : SiteId) (image : ℕ) (run : List Happening) → found_before one one s image run ≡ true → ⊥
never_itself one s image [] is = true≢false (sym is)
never_itself one s image (h ∷ run) is =
    now_or_before one one s image h run is (λ now. true≢false (sym now.found ∙ now.unfound)) (λ before. never_itself one s image run before)

now_is_before : (one other : ℕ) (s : SiteId) (image : ℕ) (run : List Happening) → has_found one s image run ≡ true → has_found other s image run ≡ false → found_before one other s image run ≡ true
now_is_before one other s image [] found unfound = found
now_is_before one other s image (h ∷ run) found unfound =
    ap (λ a. (a && not (has_found other s image (h ∷ run))) || found_before one other s image run) found
    ∙ ap (λ b. not b || found_before one other s image run) unfound

-- a happening that isn't its find
pub found_earlier : (one other : ℕ) (s : SiteId) (image : ℕ) (h : Happening) (run : List Happening) → finds_in one s image h ≡ false → found_before one other s image (h ∷ run) ≡ true
    → found_before one other s image run ≡ true
found_earlier one other s image h run none is =
    now_or_before one other s image h run is
    (λ now. now_is_before one other s image run (sym (ap (λ b. b || has_found one s image run) none) ∙ now.found) (or_parts (finds_in other s image h) (has_found other s image run) now.unfound).1)
    (λ before. before)

-- it had found it before already
pub found_in_rest : (one other : ℕ) (s : SiteId) (image : ℕ) (h : Happening) (run : List Happening) → has_found one s image run ≡ true → found_before one other s image (h ∷ run) ≡ true
    → found_before one other s image run ≡ true
found_in_rest one other s image h run found is =
    now_or_before one other s image h run is
    (λ now. now_is_before one other s image run found (or_parts (finds_in other s image h) (has_found other s image run) now.unfound).1)
    (λ before. before)

-- its find: the other hasn't found it
pub other_unfound : (one other : ℕ) (s : SiteId) (image : ℕ) (h : Happening) (run : List Happening) → has_found one s image run ≡ false → found_before one other s image (h ∷ run) ≡ true
    → has_found other s image run ≡ false
other_unfound one other s image h run none is =
    now_or_before one other s image h run is
    (λ now. (or_parts (finds_in other s image h) (has_found other s image run) now.unfound).1)
    (λ before. absurd (true≢false (sym (found_has one other s image run before) ∙ none)))

-- ---- who writes it

-- what a happening that finds or writes is
pub record IsDoneBy (line : ℕ) (s : SiteId) (o : Operation) (b : Bool) : Type 0 where
  pub own : is_own line o.by ≡ true
  pub site_is : o.site ≡ s
  pub so : b ≡ true

pub done_by_line : (line : ℕ) (s : SiteId) (o : Operation) (b : Bool) → (is_own line o.by && (same_site o.site s && b)) ≡ true → IsDoneBy line s o b
done_by_line line s o b is =
    let parts = and_parts (is_own line o.by) (same_site o.site s && b) is in
    let more = and_parts (same_site o.site s) b parts.1 in
    record { own = parts.0; site_is = same_site_is o.site s more.0; so = more.1 }

-- its command is asked for already, where it isn't the one that begins
pub writer_same : (who : Instance) (line : ℕ) (h : Happening) (run : List Happening) → or_asked line h (asked_by line run) ≡ asked_by line run → IsWriterOf who line (h ∷ run) → IsWriterOf who line run
writer_same who line h run same w = record { asked = w.asked; is = sym same ∙ w.is; mine = w.mine; writes = w.writes }

-- who has done a step was asked for before
writer_was : (homes : ℕ → SiteId) (who : Instance) (line : ℕ) (h : Happening) (run : List Happening) → IsDue homes h run → IsRight homes run → IsWriterOf who line (h ∷ run)
    → (steps_of line run ≡ [] → ⊥) → IsWriterOf who line run
writer_was homes who line Nothing run due right w some = writer_same who line Nothing run refl w
writer_was homes who line Waited run due right w some = writer_same who line Waited run refl w
writer_was homes who line (Did o reply) run due right w some = writer_same who line (Did o reply) run refl w
writer_was homes who line (Refused s other reply) run due right w some = writer_same who line (Refused s other reply) run refl w
writer_was homes who line (Trimmed s number image object) run due right w some = writer_same who line (Trimmed s number image object) run refl w
writer_was homes who line (Expired s number image watcher) run due right w some = writer_same who line (Expired s number image watcher) run refl w
writer_was homes who line (Heard notice) run due right w some = writer_same who line (Heard notice) run refl w
writer_was homes who line (Stopped stopped wanted lost) run due right w some = writer_same who line (Stopped stopped wanted lost) run refl w
writer_was homes who line (Restarted next) run due right w some = writer_same who line (Restarted next) run refl w
writer_was homes who line (Began asked slot) run due right w some = by (asked.line == line) refl
  where
    by : (b : Bool) → (asked.line == line) ≡ b → IsWriterOf who line run
    by true here = absurd (some (unheard homes line run right (subst (λ l. asked_by l run ≡ None) (eqb-true asked.line line here) due.new)).steps)
    by false other = writer_same who line (Began asked slot) run (ap (λ b. cond b (Some asked) (asked_by line run)) other) w

pub wrote_was : (homes : ℕ → SiteId) (who : Instance) (line : ℕ) (s : SiteId) (image number : ℕ) (h : Happening) (run : List Happening) → IsDue homes h run → IsRight homes run → IsWriterOf who line (h ∷ run)
    → has_written line s image number run ≡ true → IsWriterOf who line run
wrote_was homes who line s image number h run due right w written =
    writer_was homes who line h run due right w (λ none. true≢false (sym written ∙ never_written line s image number run none))

-- who has written it has found it
module _ (homes : ℕ → SiteId) (who : Instance) (line : ℕ) (s : SiteId) (image number : ℕ) where
  later : (h : Happening) (run : List Happening) → has_found line s image run ≡ true → has_found line s image (h ∷ run) ≡ true
  later h run found = by (finds_in line s image h)
    where
      by : (b : Bool) → (b || has_found line s image run) ≡ true
      by true = refl
      by false = found

  found_by : (h : Happening) (run : List Happening) → IsInTurn h run → IsWriterOf who line (h ∷ run) → writes_in line s image number h ≡ true → has_found line s image run ≡ true
  found_by (Did o reply) run turn w is =
      let by = done_by_line line s o (writes_object image number o.op) is in
      subst (λ t. has_found line t image run ≡ true) by.site_is (turn who line image number by.own (writer_same who line (Did o reply) run refl w) by.so).found
  found_by Nothing run turn w is = cc
  found_by Waited run turn w is = cc
  found_by (Began asked slot) run turn w is = cc
  found_by (Refused t other reply) run turn w is = cc
  found_by (Trimmed t n i object) run turn w is = cc
  found_by (Expired t n i watcher) run turn w is = cc
  found_by (Heard notice) run turn w is = cc
  found_by (Stopped stopped wanted lost) run turn w is = cc
  found_by (Restarted next) run turn w is = cc

  pub written_found : (run : List Happening) → IsRight homes run → KeepsOrder run → IsWriterOf who line run → has_written line s image number run ≡ true → has_found line s image run ≡ true
  written_found [] right keeps w is = cc
  written_found (h ∷ run) right keeps w is = by (writes_in line s image number h) refl is (written_found run right.2 keeps.1)
    where
      by : (b : Bool) → writes_in line s image number h ≡ b → (b || has_written line s image number run) ≡ true
          → (IsWriterOf who line run → has_written line s image number run ≡ true → has_found line s image run ≡ true) → has_found line s image (h ∷ run) ≡ true
      by true now is rest = later h run (found_by h run keeps.0 w now)
      by false now is rest = later h run (rest (wrote_was homes who line s image number h run right.1 right.2 w is) is)
