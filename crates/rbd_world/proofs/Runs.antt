-- What a run tells of a line, one happening after another.
use Rattle.std.proofs.Common.{◌≡◌, ℕ, ◌==◌, ◌||◌, cond, Bool, true, false, List, [], ◌∷◌, ◌++◌, map, is_some, Option, Some, None, refl, sym, ap, ◌∙◌}
use Rattle.std.proofs.lemmas.Bool.{eqb-true}
use Rattle.std.proofs.lemmas.Option.{none-some}
use Rattle.std.proofs.lemmas.List.Folds.{list_any-append}
use Rattle.std.proofs.Math.Bool.{or-false}
use Rattle.rbd_flat.specs.declared.effect.Effect.{Effect}
use Rattle.rbd_kinds.specs.declared.id.SiteId.{SiteId}
use Rattle.rbd_kinds.specs.declared.reply.Reply.{Reply}
use Rattle.rbd_flat.specs.declared.entry.Cause.{Cause}
use Rattle.rbd_flat.specs.declared.entry.Entry.TheVariants as entry
use Rattle.rbd_kinds.specs.declared.id.Instance.{Instance}
use Rattle.rbd_world.specs.Run.{Asked, Doer, Itself, OnWay, House, AfterStop, Happening, Nothing, Waited, Began, Did, Refused, Trimmed, Expired, Heard, Stopped, Restarted, Operation, asked_by, ending_entries, ends, entries_of, entry_by, entry_unfenced, history_of, is_line_among, is_for, or_asked, reply_entries, steps_in, steps_of, way_in, way_of}
use Rattle.rbd_world.specs.Sound.{EndsItsLine, EndsNoLine, IsDue, IsOpen, IsRight, has_ended, AreStanding, IsRightlyDone}
use Rattle.rbd_world.specs.Step.{is_begun, is_start_of}
use Rattle.rbd_world.proofs.Quiet.{IsQuiet, quiet_began, quiet_did, quiet_expired, quiet_heard, quiet_nothing, quiet_refused, quiet_restarted, quiet_stopped, quiet_trimmed, quiet_waited}

-- ---- a run that is right

-- both sites stand at its end
pub standing_at : (homes : ℕ → SiteId) (run : List Happening) → IsRight homes run → AreStanding run
standing_at homes [] right = right
standing_at homes (h ∷ run) right = right.0

-- an operation that is due is done, with a reply or without
pub done_of : (homes : ℕ → SiteId) (o : Operation) (reply : Option Reply) (run : List Happening) → IsDue homes (Did o reply) run → IsRightlyDone o run
done_of homes o None run due = due.0
done_of homes o (Some reply) run due = due.0

-- ---- lines that were begun

unfenced_no_start : (line : ℕ) (c : Cause) (s : SiteId) (number : ℕ) (e : Option Effect) → is_start_of line (entry_unfenced c s number e) ≡ false
unfenced_no_start line c s number None = refl
unfenced_no_start line c s number (Some e) = refl

pub no_start : (line : ℕ) (c : Cause) (s : SiteId) (number : ℕ) (fence : Option Instance) (e : Option Effect) → is_start_of line (entry_by c s number fence e) ≡ false
no_start line c s number None e = unfenced_no_start line c s number e
no_start line c s number (Some who) e = refl

replies_begin_nothing : (line other : ℕ) (reply : Option Reply) → is_begun line (reply_entries other reply) ≡ false
replies_begin_nothing line other None = refl
replies_begin_nothing line other (Some reply) = refl

pub endings_begin_nothing : (line : ℕ) (by : Doer) (reply : Option Reply) → is_begun line (ending_entries by reply) ≡ false
endings_begin_nothing line (Itself other) reply = replies_begin_nothing line other reply
endings_begin_nothing line (OnWay other) reply = replies_begin_nothing line other reply
endings_begin_nothing line House reply = refl
endings_begin_nothing line (AfterStop slot) reply = refl

pub lost_begin_nothing : (line : ℕ) (lost : List ℕ) → is_begun line (map entry.Lost lost) ≡ false
lost_begin_nothing line [] = refl
lost_begin_nothing line (other ∷ lost) = lost_begin_nothing line lost

-- a line is begun by the one entry of its start
begun_by : (line : ℕ) (h : Happening) (before : Option Asked) → (is_some before || is_begun line (entries_of h)) ≡ is_some (or_asked line h before)
begun_by line Nothing before = or-false (is_some before)
begun_by line Waited before = or-false (is_some before)
begun_by line (Began asked slot) before = go (asked.line == line) before
  where
    go : (b : Bool) (before : Option Asked) → (is_some before || (b || false)) ≡ is_some (cond b (Some asked) before)
    go true None = refl
    go true (Some other) = refl
    go false None = refl
    go false (Some other) = refl
begun_by line (Did o reply) before =
    ap (λ b. is_some before || (b || is_begun line (ending_entries o.by reply))) (no_start line _ o.site o.number _ o.effect)
    ∙ ap (λ b. is_some before || b) (endings_begin_nothing line o.by reply) ∙ or-false (is_some before)
begun_by line (Refused s other reply) before = or-false (is_some before)
begun_by line (Trimmed s number image object) before = or-false (is_some before)
begun_by line (Expired s number image who) before = or-false (is_some before)
begun_by line (Heard notice) before = or-false (is_some before)
begun_by line (Stopped who wanted lost) before = ap (λ b. is_some before || b) (lost_begin_nothing line lost) ∙ or-false (is_some before)
begun_by line (Restarted who) before = or-false (is_some before)

pub begun_is_asked : (line : ℕ) (run : List Happening) → is_begun line (history_of run) ≡ is_some (asked_by line run)
begun_is_asked line [] = refl
begun_is_asked line (h ∷ run) =
    list_any-append (is_start_of line) (history_of run) (entries_of h) ∙ ap (λ b. b || is_begun line (entries_of h)) (begun_is_asked line run)
    ∙ begun_by line h (asked_by line run)

-- ---- lines that weren't

-- nothing was done for it, and it hasn't ended
pub record IsUnheard (line : ℕ) (run : List Happening) : Type 0 where
  pub steps : steps_of line run ≡ []
  pub way : way_of line run ≡ []
  pub unended : has_ended line run ≡ false

pub other_line : (line other : ℕ) (run : List Happening) → asked_by line run ≡ None → IsOpen other run → (other == line) ≡ false
other_line line other run none begun = go (other == line) refl
  where
    go : (b : Bool) → (other == line) ≡ b → (other == line) ≡ false
    go false is = is
    go true is = absurd (none-some begun.asked (sym none ∙ ap (λ l. asked_by l run) (sym (eqb-true other line is)) ∙ begun.is))

asked_before : (line : ℕ) (h : Happening) (before : Option Asked) → or_asked line h before ≡ None → before ≡ None
asked_before line (Began asked slot) before none = go (asked.line == line) none
  where
    go : (b : Bool) → cond b (Some asked) before ≡ None → before ≡ None
    go true none = absurd (none-some asked (sym none))
    go false none = none
asked_before line Nothing before none = none
asked_before line Waited before none = none
asked_before line (Did o reply) before none = none
asked_before line (Refused s other reply) before none = none
asked_before line (Trimmed s number image object) before none = none
asked_before line (Expired s number image who) before none = none
asked_before line (Heard notice) before none = none
asked_before line (Stopped who wanted lost) before none = none
asked_before line (Restarted who) before none = none

-- one happening more leaves it unheard, where it is of another line
unheard_more : (line : ℕ) (h : Happening) (run : List Happening) → IsUnheard line run → IsQuiet line h → IsUnheard line (h ∷ run)
unheard_more line h run u quiet = record {
  steps = ap (λ xs. xs ++ steps_in line h) u.steps ∙ quiet.steps;
  way = ap (λ xs. xs ++ way_in line h) u.way ∙ quiet.way;
  unended = ap (λ b. b || has_ended line run) quiet.silent ∙ u.unended;
}

-- an operation whose line goes on is for no line that nobody began
goes_for_another : (homes : ℕ → SiteId) (o : Operation) (line : ℕ) (run : List Happening) (by : Doer) → asked_by line run ≡ None → EndsNoLine homes o by run → is_for line by ≡ false
goes_for_another homes o line run (Itself other) none begun = ap (λ b. b || false) (other_line line other run none begun)
goes_for_another homes o line run (OnWay other) none goes = other_line line other run none goes.begun
goes_for_another homes o line run House none goes = refl
goes_for_another homes o line run (AfterStop slot) none goes = refl

ends_another : (homes : ℕ → SiteId) (line : ℕ) (run : List Happening) (o : Operation) (reply : Reply) (by : Doer) → asked_by line run ≡ None → EndsItsLine homes o reply run by → is_for line by ≡ false
ends_another homes line run o reply (Itself other) none ends = ap (λ b. b || false) (other_line line other run none ends.begun)
ends_another homes line run o reply (OnWay other) none ends = other_line line other run none ends.begun
ends_another homes line run o reply House none ends = refl
ends_another homes line run o reply (AfterStop slot) none ends = refl

lost_another : (line : ℕ) (run : List Happening) (lost : List ℕ) → asked_by line run ≡ None → (is_line_among line lost ≡ true → IsOpen line run) → is_line_among line lost ≡ false
lost_another line run lost none each = by (is_line_among line lost) refl
  where
    by : (b : Bool) → is_line_among line lost ≡ b → is_line_among line lost ≡ false
    by true is = let begun = each is in absurd (none-some begun.asked (sym none ∙ begun.is))
    by false is = is

pub unheard : (homes : ℕ → SiteId) (line : ℕ) (run : List Happening) → IsRight homes run → asked_by line run ≡ None → IsUnheard line run
unheard homes line [] right none = record { steps = refl; way = refl; unended = refl }
unheard homes line (h ∷ run) (standing, due, right) none = unheard_more line h run (unheard homes line run right before) (by h due none)
  where
    before : asked_by line run ≡ None
    before = asked_before line h (asked_by line run) none

    by : (h : Happening) → IsDue homes h run → or_asked line h (asked_by line run) ≡ None → IsQuiet line h
    by Nothing due none = quiet_nothing line
    by Waited due none = quiet_waited line
    by (Began asked slot) due none = quiet_began line asked slot (go (asked.line == line) refl none)
      where
        go : (b : Bool) → (asked.line == line) ≡ b → cond b (Some asked) (asked_by line run) ≡ None → (asked.line == line) ≡ false
        go true is none = absurd (none-some asked (sym none))
        go false is none = is
    by (Did o None) due none = quiet_did line o None (goes_for_another homes o line run o.by before due.1)
    by (Did o (Some reply)) due none = quiet_did line o (Some reply) (ends_another homes line run o reply o.by before due.1)
    by (Refused s other reply) due none = quiet_refused line s other reply (other_line line other run before due.begun)
    by (Trimmed s number image object) due none = quiet_trimmed line s number image object
    by (Expired s number image who) due none = quiet_expired line s number image who
    by (Heard notice) due none = quiet_heard line notice
    by (Stopped who wanted lost) due none = quiet_stopped line who wanted lost (lost_another line run lost before (λ is. (due.each line is).begun))
    by (Restarted who) due none = quiet_restarted line who
