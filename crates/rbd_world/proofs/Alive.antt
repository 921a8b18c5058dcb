-- Who acts is a life that runs; a stopped one does no more than what it had sent, and that once.
use Rattle.std.proofs.Common.{◌≡◌, ℕ, ◌==◌, ◌||◌, cond, Bool, true, false, List, [], ◌∷◌, ◌++◌, Option, Some, None, refl, sym, ap, ◌∙◌, subst}
use Rattle.std.proofs.lemmas.Bool.{true≢false, and_parts, eqb-true, or_parts}
use Rattle.std.proofs.lemmas.Option.{none-some, same_Some}
use Rattle.rbd_kinds.specs.declared.id.Instance.{Instance}
use Rattle.rbd_kinds.specs.declared.id.SiteId.{SiteId}
use Rattle.rbd_kinds.specs.declared.reply.Reply.{Reply}
use Rattle.rbd_slots.specs.Session.{held_in}
use Rattle.rbd_world.specs.Late.{comes_among, comes_in, is_late, is_stopped_among, stops_in}
use Rattle.rbd_world.specs.Run.{Asked, Doer, Itself, OnWay, House, AfterStop, Happening, Nothing, Waited, Began, Did, Refused, Trimmed, Expired, Heard, Stopped, Restarted, Life, Operation, Sent, asked_by, comes_of, ends, life_after, or_asked, sent_after, sent_behind, sent_of}
use Rattle.rbd_world.specs.Sound.{EndsItsLine, EndsNoLine, IsDue, IsOf, IsOpen, IsRight, IsRunning, has_ended}

-- ---- a line that is open is of a life that runs

module _ (homes : ℕ → SiteId) (line : ℕ) where
  abbrev was_open : (h : Happening) (run : List Happening) → ((before : Option Asked) → or_asked line h before ≡ before) → IsOpen line (h ∷ run) → IsOpen line run
  was_open h run asks begun = record {
    asked = begun.asked;
    is = sym (asks (asked_by line run)) ∙ begun.is;
    unended = (or_parts (ends line h) (has_ended line run) begun.unended).1;
  }

  same_life : (one other : Instance) (l : Life) → one.session ≡ other.session → l ≡ record { number = one.life; runs = true } → l ≡ record { number = other.life; runs = true } → one ≡ other
  same_life one other l session first second =
      ap (λ s. record { session = s; life = one.life }) session
      ∙ ap (λ n. record { session = other.session; life = n }) (ap (λ (x : Life). x.number) (sym first ∙ second))

  pub open_is_running : (run : List Happening) → IsRight homes run → (begun : IsOpen line run) → IsRunning begun.asked.who run
  open_is_running [] right begun = absurd (none-some begun.asked begun.is)
  open_is_running (h ∷ run) (standing, due, right) begun = by h due (λ was. open_is_running run right was) begun
    where
      by : (h : Happening) → IsDue homes h run → ((was : IsOpen line run) → IsRunning was.asked.who run) → (begun : IsOpen line (h ∷ run)) → IsRunning begun.asked.who (h ∷ run)
      by Nothing due before begun = before (was_open Nothing run (λ asked. refl) begun)
      by Waited due before begun = before (was_open Waited run (λ asked. refl) begun)
      by (Did o reply) due before begun = before (was_open (Did o reply) run (λ asked. refl) begun)
      by (Refused s other reply) due before begun = before (was_open (Refused s other reply) run (λ asked. refl) begun)
      by (Trimmed s number image object) due before begun = before (was_open (Trimmed s number image object) run (λ asked. refl) begun)
      by (Expired s number image who) due before begun = before (was_open (Expired s number image who) run (λ asked. refl) begun)
      by (Heard notice) due before begun = before (was_open (Heard notice) run (λ asked. refl) begun)
      by (Began asked slot) due before begun = go (asked.line == line) refl begun.is
        where
          go : (b : Bool) → (asked.line == line) ≡ b → cond b (Some asked) (asked_by line run) ≡ Some begun.asked → IsRunning begun.asked.who run
          go true own is = subst (λ (a : Asked). IsRunning a.who run) (same_Some asked begun.asked is) due.runs
          go false other is = before (record { asked = begun.asked; is = is; unended = (or_parts (ends line (Began asked slot)) (has_ended line run) begun.unended).1 })
      by (Stopped who wanted lost) due before begun = go (who.session == begun.asked.who.session) refl
        where
          was : IsOpen line run
          was = was_open (Stopped who wanted lost) run (λ asked. refl) begun

          runs : IsRunning begun.asked.who run
          runs = before was

          go : (b : Bool) → (who.session == begun.asked.who.session) ≡ b
              → cond b (record { number = (life_after begun.asked.who.session run).number; runs = false }) (life_after begun.asked.who.session run) ≡ record { number = begun.asked.who.life; runs = true }
          go false other = runs
          go true same =
              let session = eqb-true who.session begun.asked.who.session same in
              absurd
              (true≢false
              (sym (due.all line was (same_life begun.asked.who who (life_after begun.asked.who.session run) (sym session) runs (ap (λ s. life_after s run) (sym session) ∙ due.runs)))
              ∙ (or_parts (ends line (Stopped who wanted lost)) (has_ended line run) begun.unended).0))
      by (Restarted who) due before begun = go (who.session == begun.asked.who.session) refl
        where
          runs : IsRunning begun.asked.who run
          runs = before (was_open (Restarted who) run (λ asked. refl) begun)

          go : (b : Bool) → (who.session == begun.asked.who.session) ≡ b
              → cond b (record { number = who.life; runs = true }) (life_after begun.asked.who.session run) ≡ record { number = begun.asked.who.life; runs = true }
          go false other = runs
          go true same =
              let session = eqb-true who.session begun.asked.who.session same in
              absurd (true≢false (ap (λ (x : Life). x.runs) (sym runs ∙ ap (λ s. life_after s run) (sym session) ∙ due.stopped)))

-- its line goes on or ends, where it is for one
data GoesOrEnds (homes : ℕ → SiteId) (o : Operation) (run : List Happening) (by : Doer) : Type 0 where
  On : EndsNoLine homes o by run → GoesOrEnds homes o run by
  To : (told : Reply) → EndsItsLine homes o told run by → GoesOrEnds homes o run by

-- who has an operation done runs, unless it had sent it before it was stopped
pub only_lives_that_run_act : (homes : ℕ → SiteId) (o : Operation) (reply : Option Reply) (run : List Happening) → IsRight homes (Did o reply ∷ run) → is_late o.by ≡ false → IsRunning o.instance run
only_lives_that_run_act homes o reply run (standing, due, right) itself = by o.by itself (whose reply due) (goes reply due)
  where
    whose : (r : Option Reply) → IsDue homes (Did o r) run → IsOf o.by o.instance o.site o.op run
    whose None due = due.0.whose
    whose (Some told) due = due.0.whose

    goes : (r : Option Reply) → IsDue homes (Did o r) run → GoesOrEnds homes o run o.by
    goes None due = On due.1
    goes (Some told) due = To told due.1

    of_line : (line : ℕ) → ((asked : Asked) → asked_by line run ≡ Some asked → o.instance ≡ asked.who) → (begun : IsOpen line run) → IsRunning o.instance run
    of_line line mine begun = subst (λ i. IsRunning i run) (sym (mine begun.asked begun.is)) (open_is_running homes line run right begun)

    by : (doer : Doer) → is_late doer ≡ false → IsOf doer o.instance o.site o.op run → GoesOrEnds homes o run doer → IsRunning o.instance run
    by (Itself line) itself mine (On begun) = of_line line mine begun
    by (Itself line) itself mine (To told ends) = of_line line mine ends.begun
    by (OnWay line) itself mine (On goes) = of_line line mine goes.begun
    by (OnWay line) itself mine (To told ends) = of_line line mine ends.begun
    by House itself mine on = mine
    by (AfterStop slot) itself mine on = absurd (true≢false itself)

-- ---- what a stopped life had sent comes once

module _ (homes : ℕ → SiteId) (session slot : ℕ) where
  -- nothing is left to come, and no stop leaves anything
  none_left : (h : Happening) (before : Option Sent) → before ≡ None → stops_in session h ≡ false → sent_behind session slot h before ≡ None
  none_left (Stopped who wanted lost) before none stays = ap (λ b. cond b (sent_of who (held_in slot wanted)) before) stays ∙ none
  none_left (Did o reply) before none stays = by (comes_of session slot o.instance o.by)
    where
      by : (b : Bool) → cond b None before ≡ None
      by true = refl
      by false = none
  none_left Nothing before none stays = none
  none_left Waited before none stays = none
  none_left (Began asked at) before none stays = none
  none_left (Refused s line reply) before none stays = none
  none_left (Trimmed s number image object) before none stays = none
  none_left (Expired s number image who) before none stays = none
  none_left (Heard notice) before none stays = none
  none_left (Restarted who) before none stays = none

  sent_there : (o : Operation) (run : List Happening) → IsOf o.by o.instance o.site o.op run → comes_of session slot o.instance o.by ≡ true → sent_after session slot run ≡ None → ⊥
  sent_there o run is comes none = by o.by is comes
    where
      by : (doer : Doer) → IsOf doer o.instance o.site o.op run → comes_of session slot o.instance doer ≡ true → ⊥
      by (Itself line) is comes = true≢false (sym comes)
      by (OnWay line) is comes = true≢false (sym comes)
      by House is comes = true≢false (sym comes)
      by (AfterStop at) is comes =
          let parts = and_parts (o.instance.session == session) (at == slot) comes in
          none-some _ (sym none ∙ ap (λ x. sent_after session x run) (sym (eqb-true at slot parts.1)) ∙ ap (λ s. sent_after s at run) (sym (eqb-true o.instance.session session parts.0)) ∙ is)

  comes_not : (h : Happening) (run : List Happening) → IsDue homes h run → sent_after session slot run ≡ None → comes_in session slot h ≡ false
  comes_not (Did o reply) run due none = by (comes_of session slot o.instance o.by) refl (whose reply due)
    where
      whose : (r : Option Reply) → IsDue homes (Did o r) run → IsOf o.by o.instance o.site o.op run
      whose None due = due.0.whose
      whose (Some told) due = due.0.whose

      by : (b : Bool) → comes_of session slot o.instance o.by ≡ b → IsOf o.by o.instance o.site o.op run → b ≡ false
      by false comes is = refl
      by true comes is = absurd (sent_there o run is comes none)
  comes_not Nothing run due none = refl
  comes_not Waited run due none = refl
  comes_not (Began asked at) run due none = refl
  comes_not (Refused s line reply) run due none = refl
  comes_not (Trimmed s number image object) run due none = refl
  comes_not (Expired s number image who) run due none = refl
  comes_not (Heard notice) run due none = refl
  comes_not (Stopped who wanted lost) run due none = refl
  comes_not (Restarted who) run due none = refl

  -- behind what came, as long as the session isn't stopped again
  pub comes_once : (o : Operation) (reply : Option Reply) (run more : List Happening) → comes_of session slot o.instance o.by ≡ true → is_stopped_among session more ≡ false
      → IsRight homes (more ++ (Did o reply ∷ run)) → (sent_after session slot (more ++ (Did o reply ∷ run)) ≡ None) × (comes_among session slot more ≡ false)
  comes_once o reply run [] comes stays right = (ap (λ b. cond b None (sent_after session slot run)) comes, refl)
  comes_once o reply run (h ∷ more) comes stays (standing, due, right) =
      let parts = or_parts (stops_in session h) (is_stopped_among session more) stays in
      let rest = comes_once o reply run more comes parts.1 right in
      (none_left h _ rest.0 parts.0, ap (λ b. b || comes_among session slot more) (comes_not h (more ++ (Did o reply ∷ run)) due rest.0) ∙ rest.1)
