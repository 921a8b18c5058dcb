-- The operations of each line on its way to the lock are a way, whatever else happened; so what
-- holds of ways holds of them.
use Rattle.std.proofs.Common.{◌≡◌, ℕ, ◌+◌, ◌*◌, ◌≤◌, Bool, true, false, cond, List, [], ◌∷◌, ◌++◌, Option, Some, None, refl, sym, subst, arith}
use Rattle.std.specs.Prelude.{count_by}
use Rattle.std.proofs.lemmas.Bool.{true≢false, eqb-true}
use Rattle.std.proofs.lemmas.List.{append-nil}
use Rattle.rbd_kinds.specs.declared.answer.Answer.{Answer}
use Rattle.rbd_kinds.specs.declared.id.Instance.{Instance}
use Rattle.rbd_kinds.specs.declared.id.SiteId.{SiteId}
use Rattle.rbd_kinds.specs.declared.id.SiteId.TheVariants as site
use Rattle.rbd_kinds.specs.declared.reply.Reply.{Reply}
use Rattle.rbd_kinds.specs.declared.reply.Reply.TheVariants as reply
use Rattle.rbd_machine.specs.Path.{Answered}
use Rattle.rbd_machine.specs.Plan.{Return, past_label}
use Rattle.rbd_lock.specs.Acquire.{acquire, lock_labels}
use Rattle.rbd_lock.specs.Counts.{first_watch, is_counted, is_fence, is_round, is_take_step}
use Rattle.rbd_lock.specs.Order.{AreStepsInOrder, EndsWith}
use Rattle.rbd_lock.specs.Steps.{fenced, lock_break}
use Rattle.rbd_lock.proofs.Behind.{ends_with, step_in_order}
use Rattle.rbd_lock.proofs.Bounded.{all_bounded, take_bounded}
use Rattle.rbd_lock.proofs.Ordered.{ordered_acquire, ordered_walk}
use Rattle.rbd_world.specs.LetGo.{release_of}
use Rattle.rbd_world.specs.Run.{Doer, Itself, OnWay, House, AfterStop, Happening, Nothing, Waited, Began, Did, Refused, Trimmed, Expired, Heard, Stopped, Restarted, Operation, is_on_way, step_of, way_of}
use Rattle.rbd_world.specs.Sound.{EndsItsLine as Ends, EndsNoLine, IsDue, IsNextOf, IsRight, StandsAtLook}
use Rattle.rbd_world.specs.Ways.{AreAWay, AsksNext, IsOfRelease, IsOver, WasRefused}
use Rattle.rbd_world.proofs.LetGo.{of_next}
use Rattle.rbd_world.proofs.Ways.{one_step_more}
use Rattle.rbd_world.proofs.Runs.{done_of}

-- ---- at each place of a run

module _ (homes : ℕ → SiteId) (line : ℕ) (o : Operation) (r : Option Reply) (run : List Happening) (right : IsRight homes (Did o r ∷ run)) where
  next_of : (by : Doer) → o.by ≡ by → IsNextOf by o.instance o.site o.op run
  next_of by is = subst (λ d. IsNextOf d o.instance o.site o.op run) is (done_of homes o r run right.1).next

  pub asked_on_way : o.by ≡ OnWay line → AsksNext o.site o.op (way_of line run)
  asked_on_way is = (next_of (OnWay line) is).0

  pub over_before : o.by ≡ Itself line → IsOver (way_of line run)
  over_before = next_of (Itself line)

  pub lets_go : o.by ≡ House → IsOfRelease o.op
  lets_go is = of_next (release_of o.instance run) o.site o.op (next_of House is)

  pub at_look : o.by ≡ OnWay line → StandsAtLook homes line o.site run
  at_look is = by r right.1
    where
      by : (x : Option Reply) → IsDue homes (Did o x) run → StandsAtLook homes line o.site run
      by None due = subst (λ d. EndsNoLine homes o d run) is due.1
      by (Some told) due =
          let refused = subst (Ends homes o told run) is due.1 in
          record { begun = refused.begun; plan = refused.plan; led = refused.led; wants = refused.wants }

pub refused_there : (homes : ℕ → SiteId) (line : ℕ) (o : Operation) (told : Reply) (run : List Happening) → IsRight homes (Did o (Some told) ∷ run) → o.by ≡ OnWay line
    → WasRefused o.site told (way_of line run ++ step_of o ∷ [])
refused_there homes line o told run right is = (subst (Ends homes o told run) is right.1.1).over

-- ---- all of them

no_way : AreAWay []
no_way = record { site = site.A; image = 0; last = acquire site.A 0 true (Return reply.Done); way = record { watched = true; feds = []; walk = (refl, refl) } }

one_more : (o : Operation) (steps : List Answered) → AsksNext o.site o.op steps → AreAWay (steps ++ step_of o ∷ [])
one_more o steps asks = record {
  site = o.site;
  image = asks.image;
  last = past_label (lock_labels o.site asks.image) (asks.next o.answer);
  way = one_step_more o.site asks.image steps o.site asks.why o.op asks.next o.answer (past_label (lock_labels o.site asks.image) (asks.next o.answer)) asks.way refl;
}

pub are_a_way : (homes : ℕ → SiteId) (line : ℕ) (run : List Happening) → IsRight homes run → AreAWay (way_of line run)
are_a_way homes line [] right = no_way
are_a_way homes line (h ∷ run) (standing, due, right) = by h due (subst AreAWay (sym (append-nil (way_of line run))) (are_a_way homes line run right))
  where
    by : (h : Happening) → IsDue homes h run → AreAWay (way_of line run ++ []) → AreAWay (way_of line (h ∷ run))
    by (Did o r) due still = go (is_on_way line o.by) refl
      where
        asked_of : (by : Doer) → is_on_way line by ≡ true → IsNextOf by o.instance o.site o.op run → AsksNext o.site o.op (way_of line run)
        asked_of (OnWay other) is next = subst (λ l. AsksNext o.site o.op (way_of l run)) (eqb-true other line is) next.0
        asked_of (Itself other) is next = absurd (true≢false (sym is))
        asked_of House is next = absurd (true≢false (sym is))
        asked_of (AfterStop slot) is next = absurd (true≢false (sym is))

        go : (b : Bool) → is_on_way line o.by ≡ b → AreAWay (way_of line run ++ cond b (step_of o ∷ []) [])
        go false other = still
        go true own = one_more o (way_of line run) (asked_of o.by own (done_of homes o r run due).next)
    by Nothing due still = still
    by Waited due still = still
    by (Began asked slot) due still = still
    by (Refused s other told) due still = still
    by (Trimmed s number image object) due still = still
    by (Expired s number image who) due still = still
    by (Heard notice) due still = still
    by (Stopped who wanted lost) due still = still
    by (Restarted who) due still = still

-- ---- so what holds of ways holds of them

module _ (steps : List Answered) (are : AreAWay steps) where
  pub takes_once_a_round : count_by is_take_step steps ≤ 1 + count_by is_round steps
  takes_once_a_round = take_bounded are.site are.image are.way.feds steps are.last are.way.watched are.way.walk

  pub is_bounded : count_by is_counted steps ≤ 2 + 2 * count_by is_fence steps
  is_bounded = by are.way.watched (all_bounded are.site are.image are.way.feds steps are.last are.way.watched are.way.walk)
    where
      by : (b : Bool) → count_by is_counted steps ≤ first_watch b + 1 + 2 * count_by is_fence steps → count_by is_counted steps ≤ 2 + 2 * count_by is_fence steps
      by true least = omega (arith, least)
      by false least = omega (arith, least)

  in_order : AreStepsInOrder are.site are.image [] steps
  in_order = (ordered_walk are.site are.image are.way.feds [] (acquire are.site are.image are.way.watched (Return reply.Done)) steps are.last
      (ordered_acquire are.site are.image are.way.watched) are.way.walk).steps_are

  -- each step is at the way's site
  at_site : (there : SiteId) (image : ℕ) (front before : List Answered) (s : Answered) (after : List Answered) → AreStepsInOrder there image front (before ++ s ∷ after) → s.site ≡ there
  at_site there image front [] s after are = are.0
  at_site there image front (b ∷ before) s after are = at_site there image (b ∷ front) before s after are.2

  pub fenced_first : (image : ℕ) (owner : Instance) (s : SiteId) (a : Answer) (before after : List Answered)
      → steps ≡ before ++ record { site = s; op = lock_break image owner; answer = a } ∷ after → EndsWith (fenced s owner) before
  fenced_first image owner s a before after is =
      let ordered = subst (AreStepsInOrder are.site are.image []) is in_order in
      subst (λ q. EndsWith (fenced q owner) before) (sym (at_site are.site are.image [] before _ after ordered))
      (ends_with (fenced are.site owner) before (step_in_order are.site are.image [] before _ after ordered).1)
