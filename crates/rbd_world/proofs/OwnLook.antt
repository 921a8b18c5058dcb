-- Who waits for its look under the lock looks at the header of its line's image first; and who is
-- past that look stays past it, once it waits for no lock any more.
use Rattle.std.proofs.Common.{◌≡◌, inl, inr, ℕ, ◌==◌, ◌&&◌, cond, Bool, true, false, Option, Some, None, refl, sym, ap, ◌∙◌, subst}
use Rattle.std.proofs.lemmas.Bool.{true≢false, and_parts, eqb-true}
use Rattle.rbd_kinds.specs.declared.answer.Answer.{Answer}
use Rattle.rbd_kinds.specs.declared.answer.Answer.TheVariants as answer
use Rattle.rbd_kinds.specs.declared.header.HeaderView.{HeaderView}
use Rattle.rbd_kinds.specs.declared.header_op.HeaderOp.TheVariants as header
use Rattle.rbd_kinds.specs.declared.id.SiteId.{SiteId}
use Rattle.rbd_kinds.specs.declared.journal.JournalEvent.{JournalEvent}
use Rattle.rbd_kinds.specs.declared.layout.Extent.{Extent}
use Rattle.rbd_kinds.specs.declared.operation.Op.{Op}
use Rattle.rbd_kinds.specs.declared.operation.Op.TheVariants as op
use Rattle.rbd_kinds.proofs.Images.{at_itself, same_site_is}
use Rattle.rbd_machine.specs.Answers.{CanGive}
use Rattle.rbd_machine.specs.Course.{Course, PlaceInLine, answered, course_past_look, held, is_waiting, looks_under_lock_at, past, waited}
use Rattle.rbd_machine.specs.Knowledge.{is_at, same_site}
use Rattle.rbd_machine.specs.Label.{Label}
use Rattle.rbd_machine.specs.Orderly.{IsInLine, MayWait}
use Rattle.rbd_machine.specs.Path.{at_operation}
use Rattle.rbd_machine.specs.Plan.{Plan, Ask, Await, Note, Return, Goto, Standing, past_label}
use Rattle.rbd_machine.specs.Steps.{EndsIt, not_there}
use Rattle.rbd_machine.specs.Wait.{Wait}
use Rattle.rbd_machine.specs.Wait as wait
use Rattle.rbd_machine.specs.declared.reason.Reason.{Reason}
use Rattle.rbd_slots.specs.OnTrack.{IsOnTrack, IsNowhereElse, IsSomewhere}
use Rattle.rbd_slots.specs.Track.{Track, course_of, run, track_noted, waited_by}
use Rattle.rbd_slots.proofs.Track.{course_applied, course_held, course_joined, course_noted, course_turned}
use Rattle.rbd_slots.proofs.Way.{in_line_there, nowhere_course, noted_on_track, place_there, waited_on_track}
use Rattle.rbd_catalog.specs.Looking.{HoldsNoMore, LooksAtItFirst, LooksOnce}
use Rattle.rbd_world.specs.Ways.{LooksAtItsOwn, awaits_its_look}

-- ---- what it waits for

there_is : (s : SiteId) (i : ℕ) (p : PlaceInLine) → is_at s i p.site p.image ≡ true → (s ≡ p.site) × (i ≡ p.image)
there_is s i p is = let parts = and_parts (same_site p.site s) (p.image == i) is in (sym (same_site_is p.site s parts.0), sym (eqb-true p.image i parts.1))

first_at : (s : SiteId) (i : ℕ) (p : PlaceInLine) (plan : Plan) → is_at s i p.site p.image ≡ true → LooksAtItFirst s i plan → LooksAtItFirst p.site p.image plan
first_at s i p plan is first =
    let at = there_is s i p is in subst (λ t. LooksAtItFirst t p.image plan) at.0 (subst (λ j. LooksAtItFirst s j plan) at.1 first)

held_own : (s : SiteId) (i : ℕ) (next : Plan) → LooksAtItFirst s i next → (place : Option PlaceInLine) → IsInLine s i place → LooksAtItsOwn (held place) next
held_own s i next first None in_line = tt
held_own s i next first (Some p) in_line = λ waits. first_at s i p next in_line first

own_still : (w : Wait) (next : Plan) (place : Option PlaceInLine) → LooksAtItsOwn place (Await w next) → LooksAtItsOwn place next
own_still w next None own = tt
own_still w next (Some p) own = own

waited_own : (fresh : Bool) (c : Course) (w : Wait) (next : Plan) → MayWait fresh c w → LooksOnce (Await w next) → LooksAtItsOwn c.place (Await w next) → LooksAtItsOwn (waited c w).place next
waited_own fresh c (wait.Hold s i) next may once own = held_own s i next once.0 c.place may.0
waited_own fresh c (wait.Join s i sharing) next may once own = λ waits. absurd (true≢false (sym waits))
waited_own fresh c (wait.Turn object) next may once own = own_still (wait.Turn object) next c.place own
waited_own fresh c (wait.Applied s i) next may once own = own_still (wait.Applied s i) next c.place own
waited_own fresh c (wait.Leave s i) next may once own = tt

once_behind : (w : Wait) (next : Plan) → LooksOnce (Await w next) → LooksOnce next
once_behind (wait.Hold s i) next once = once.1
once_behind (wait.Join s i sharing) next once = once
once_behind (wait.Turn object) next once = once
once_behind (wait.Applied s i) next once = once
once_behind (wait.Leave s i) next once = once

waited_past : (c : Course) (w : Wait) (next : Plan) → HoldsNoMore (Await w next) → awaits_its_look c.place ≡ false → awaits_its_look (waited c w).place ≡ false
waited_past c (wait.Hold s i) next holds none = absurd holds
waited_past c (wait.Join s i sharing) next holds none = refl
waited_past c (wait.Turn object) next holds none = none
waited_past c (wait.Applied s i) next holds none = none
waited_past c (wait.Leave s i) next holds none = refl

holds_behind : (w : Wait) (next : Plan) → HoldsNoMore (Await w next) → HoldsNoMore next
holds_behind (wait.Hold s i) next holds = absurd holds
holds_behind (wait.Join s i sharing) next holds = holds
holds_behind (wait.Turn object) next holds = holds
holds_behind (wait.Applied s i) next holds = holds
holds_behind (wait.Leave s i) next holds = holds

own_noted : (s : SiteId) (i : ℕ) (event : JournalEvent) (next : Plan) (place : Option PlaceInLine) → LooksAtItsOwn place (Note s i event next) → LooksAtItsOwn place next
own_noted s i event next None own = tt
own_noted s i event next (Some p) own = own

own_jumps : (label : Label) (next : Plan) (place : Option PlaceInLine) → LooksAtItsOwn place (Goto label) → LooksAtItsOwn place next
own_jumps label next None own = tt
own_jumps label next (Some p) own = λ waits. absurd (own waits)

-- ---- up to its next operation

module _ (slot : ℕ) (e : Option Extent) (labels : Label → Plan) where
  abbrev at : Plan → Standing
  at plan = record { labels = labels; plan = plan }

  place_waited : (fresh : Bool) (w : Wait) (next : Plan) (t : Track) → IsOnTrack slot e fresh (at (Await w next)) t → MayWait fresh (course_of slot t) w
      → (course_of slot (waited_by slot t w)).place ≡ (waited (course_of slot t) w).place
  place_waited fresh (wait.Join s i sharing) next t on may = joins on.somewhere
    where
      joins : IsSomewhere slot t → (course_of slot (waited_by slot t (wait.Join s i sharing))).place ≡ (waited (course_of slot t) (wait.Join s i sharing)).place
      joins (inl nowhere) = ap (λ (c : Course). c.place) (course_joined slot t s i sharing nowhere (subst (λ q. IsNowhereElse slot q t.lines) nowhere on.elsewhere s i refl))
      joins (inr (p, m, there)) = let clash = sym (place_there slot p m t there) ∙ may.1 in cc
  place_waited fresh (wait.Hold s i) next t on may =
      let (p, m, there) = in_line_there slot t s i on.somewhere may.0 in ap (λ (c : Course). c.place) (course_held slot p m t there s i)
  place_waited fresh (wait.Applied s i) next t on may =
      let (p, m, there) = in_line_there slot t s i on.somewhere may in ap (λ (c : Course). c.place) (course_applied slot p m t there s i)
  place_waited fresh (wait.Turn object) next t on may = turns on.somewhere
    where
      turns : IsSomewhere slot t → (course_of slot (waited_by slot t (wait.Turn object))).place ≡ (course_of slot t).place
      turns (inl nowhere) = nowhere_course slot (waited_by slot t (wait.Turn object)) nowhere ∙ sym (nowhere_course slot t nowhere)
      turns (inr (p, m, there)) = ap (λ (c : Course). c.place) (course_turned slot p m t there object)
  place_waited fresh (wait.Leave s i) next t on may = refl

  place_noted : (t : Track) (s : SiteId) (i : ℕ) → IsSomewhere slot t → IsInLine s i (course_of slot t).place → (course_of slot (track_noted slot t)).place ≡ (course_of slot t).place
  place_noted t s i somewhere in_line = let (p, m, there) = in_line_there slot t s i somewhere in_line in ap (λ (c : Course). c.place) (course_noted slot p m t there)

  pub own_run : (fresh : Bool) (plan : Plan) (t : Track) → IsOnTrack slot e fresh (at (past_label labels plan)) t → LooksOnce plan → LooksAtItsOwn (course_of slot t).place plan
      → LooksAtItsOwn (course_of slot (run slot plan t)).place (at_operation labels plan)
  own_run fresh (Ask s why o next) t on once own = own
  own_run fresh (Return reply) t on once own = own
  own_run fresh (Goto label) t on once own = own_jumps label (labels label) (course_of slot t).place own
  own_run fresh (Await w next) t on once own =
      let both = waited_on_track slot e labels fresh w next t on in
      own_run false next (waited_by slot t w) both.1 (once_behind w next once)
      (subst (λ place. LooksAtItsOwn place next) (sym (place_waited fresh w next t on both.0)) (waited_own fresh (course_of slot t) w next both.0 once own))
  own_run fresh (Note s i event next) t on once own =
      let both = noted_on_track slot e labels fresh s i event next t on in
      own_run fresh next (track_noted slot t) both.1 once
      (subst (λ place. LooksAtItsOwn place next) (sym (place_noted t s i on.somewhere both.0)) (own_noted s i event next (course_of slot t).place own))

  pub past_run : (fresh : Bool) (plan : Plan) (t : Track) → IsOnTrack slot e fresh (at (past_label labels plan)) t → HoldsNoMore plan → awaits_its_look (course_of slot t).place ≡ false
      → awaits_its_look (course_of slot (run slot plan t)).place ≡ false
  past_run fresh (Ask s why o next) t on holds none = none
  past_run fresh (Return reply) t on holds none = none
  past_run fresh (Goto label) t on holds none = none
  past_run fresh (Await w next) t on holds none =
      let both = waited_on_track slot e labels fresh w next t on in
      past_run false next (waited_by slot t w) both.1 (holds_behind w next holds)
      (ap awaits_its_look (place_waited fresh w next t on both.0) ∙ waited_past (course_of slot t) w next holds none)
  past_run fresh (Note s i event next) t on holds none =
      let both = noted_on_track slot e labels fresh s i event next t on in
      past_run fresh next (track_noted slot t) both.1 holds (ap awaits_its_look (place_noted t s i on.somewhere both.0) ∙ none)

-- ---- an answer

-- a look that tells no header
abbrev pub TellsNoHeader : Op → Answer → Type 0
TellsNoHeader (op.Header image header.Get) (answer.Header h) = ⊥
TellsNoHeader (op.Header image header.Get) a = Unit {0}
TellsNoHeader o a = ⊥

past_waits_no_more : (place : Option PlaceInLine) → awaits_its_look (past place) ≡ false
past_waits_no_more None = refl
past_waits_no_more (Some p) = refl

past_own : (plan : Plan) (place : Option PlaceInLine) → LooksAtItsOwn (past place) plan
past_own plan None = tt
past_own plan (Some p) = λ waits. absurd (true≢false (sym waits))

-- who waits for its look under the lock is at it where it looks at a header
at_its_own : (s : SiteId) (i : ℕ) (p : PlaceInLine) → (s ≡ p.site) × (i ≡ p.image) → is_waiting p.stage ≡ true → looks_under_lock_at s i (Some p) ≡ true
at_its_own s i p same waits =
    ap (λ b. is_at s i p.site p.image && b) waits
    ∙ ap (λ t. is_at t i p.site p.image && true) same.0 ∙ ap (λ j. is_at p.site j p.site p.image && true) same.1 ∙ ap (λ b. b && true) (at_itself p.site p.image)

module _ (e : Option Extent) (c : Course) (s : SiteId) (why : Reason) (next : Answer → Plan) where
  looked_own : (i : ℕ) (h : HeaderView) (plan : Plan) (place : Option PlaceInLine) → LooksAtItsOwn place (Ask s why (op.Header i header.Get) next) → looks_under_lock_at s i place ≡ false → LooksAtItsOwn place plan
  looked_own i h plan None own other = tt
  looked_own i h plan (Some p) own other = λ waits. absurd (true≢false (sym (at_its_own s i p (own waits) waits) ∙ other))

  looked_past : (i : ℕ) (place : Option PlaceInLine) → LooksAtItsOwn place (Ask s why (op.Header i header.Get) next) → looks_under_lock_at s i place ≡ false → awaits_its_look place ≡ false
  looked_past i None own other = refl
  looked_past i (Some p) own other = by (is_waiting p.stage) refl
    where
      by : (b : Bool) → is_waiting p.stage ≡ b → is_waiting p.stage ≡ false
      by true waits = absurd (true≢false (sym (at_its_own s i p (own waits) waits) ∙ other))
      by false none = none

  -- behind a look that told a header it waits for none
  pub look_behind : (i : ℕ) (h : HeaderView) → LooksAtItsOwn c.place (Ask s why (op.Header i header.Get) next)
      → awaits_its_look (answered e c s (op.Header i header.Get) (answer.Header h)).place ≡ false
  look_behind i h own = by (looks_under_lock_at s i c.place) refl
    where
      by : (b : Bool) → looks_under_lock_at s i c.place ≡ b → awaits_its_look (cond (looks_under_lock_at s i c.place) (course_past_look e h c) c).place ≡ false
      by true is = ap (λ f. awaits_its_look (cond f (course_past_look e h c) c).place) is ∙ past_waits_no_more c.place
      by false is = ap (λ f. awaits_its_look (cond f (course_past_look e h c) c).place) is ∙ looked_past i c.place own is

  still_first : (o : Op) (a : Answer) (place : Option PlaceInLine) → ((t : SiteId) (j : ℕ) → LooksAtItFirst t j (Ask s why o next) → LooksAtItFirst t j (next a)) → LooksAtItsOwn place (Ask s why o next)
      → LooksAtItsOwn place (next a)
  still_first o a None first own = tt
  still_first o a (Some p) first own = λ waits. first p.site p.image (own waits)

  pub answered_own : (o : Op) (a : Answer) → LooksAtItsOwn c.place (Ask s why o next) → (TellsNoHeader o a → (t : SiteId) (j : ℕ) → LooksAtItFirst t j (next a)) → LooksAtItsOwn (answered e c s o a).place (next a)
  answered_own (op.Header i header.Get) (answer.Header h) own ended = by (looks_under_lock_at s i c.place) refl
    where
      by : (b : Bool) → looks_under_lock_at s i c.place ≡ b → LooksAtItsOwn (cond (looks_under_lock_at s i c.place) (course_past_look e h c) c).place (next (answer.Header h))
      by true is = subst (λ f. LooksAtItsOwn (cond f (course_past_look e h c) c).place (next (answer.Header h))) (sym is) (past_own (next (answer.Header h)) c.place)
      by false is = subst (λ f. LooksAtItsOwn (cond f (course_past_look e h c) c).place (next (answer.Header h))) (sym is) (looked_own i h (next (answer.Header h)) c.place own is)
  answered_own (op.Header i header.Get) a own ended = still_first (op.Header i header.Get) a c.place (λ t j first. ended tt t j) own
  answered_own (op.Header i o) a own ended = still_first (op.Header i o) a c.place (λ t j first. first a) own
  answered_own o a own ended = still_first o a c.place (λ t j first. first a) own

  -- who waits for none waits for none behind any answer
  pub past_answered : (o : Op) (a : Answer) → awaits_its_look c.place ≡ false → awaits_its_look (answered e c s o a).place ≡ false
  past_answered (op.Header i header.Get) (answer.Header h) none = by (looks_under_lock_at s i c.place)
    where
      by : (b : Bool) → awaits_its_look (cond b (course_past_look e h c) c).place ≡ false
      by true = past_waits_no_more c.place
      by false = none
  past_answered o a none = none

-- a look that tells no header ends the request, which looks at none then
first_not_there : (t : SiteId) (j : ℕ) (a : Answer) → LooksAtItFirst t j (not_there a)
first_not_there t j answer.Fenced = tt
first_not_there t j _ = tt

pub ended_by_look : (o : Op) (a : Answer) (next : Answer → Plan) → CanGive o a → ((i : ℕ) → o ≡ op.Header i header.Get → EndsIt a → next a ≡ not_there a)
    → TellsNoHeader o a → (t : SiteId) (j : ℕ) → LooksAtItFirst t j (next a)
ended_by_look (op.Header i header.Get) (answer.Header h) next can ends none t j = absurd none
ended_by_look (op.Header i header.Get) answer.Absent next can ends none t j = subst (LooksAtItFirst t j) (sym (ends i refl tt)) (first_not_there t j answer.Absent)
ended_by_look (op.Header i header.Get) answer.Fenced next can ends none t j = subst (LooksAtItFirst t j) (sym (ends i refl tt)) (first_not_there t j answer.Fenced)
ended_by_look (op.Header i header.Get) a next can ends none t j = absurd (true≢false (sym can.word))
ended_by_look (op.Header i o) a next can ends none t j = absurd none
ended_by_look o a next can ends none t j = absurd none

-- so where it goes further it was told one
pub record IsToldHeader (a : Answer) : Type 0 where
  pub told : HeaderView
  pub is : a ≡ answer.Header told

pub told_header : (i : ℕ) (a : Answer) → CanGive (op.Header i header.Get) a → (EndsIt a → ⊥) → IsToldHeader a
told_header i (answer.Header h) can goes = record { told = h; is = refl }
told_header i answer.Absent can goes = absurd (goes tt)
told_header i answer.Fenced can goes = absurd (goes tt)
told_header i a can goes = absurd (true≢false (sym can.word))
