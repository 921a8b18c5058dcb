-- Whose look under the lock a request stands at, and who goes past its look under the lock.
use Rattle.std.proofs.Common.{◌≡◌, ◌≢◌, ◌⊎◌, inl, inr, ℕ, ◌==◌, ◌&&◌, ◌||◌, cond, not, Bool, true, false, List, [], ◌∷◌, ◌++◌, Option, Some, None, refl, sym, ap, ◌∙◌, subst}
use Rattle.std.proofs.lemmas.Bool.{true≢false, cases_eq, and_parts}
use Rattle.std.specs.Option.{option_map}
use Rattle.std.proofs.lemmas.Option.{none-some, same_Some}
use Rattle.rbd_kinds.specs.declared.sharing.Sharing.{Sharing}
use Rattle.rbd_machine.specs.Course.{looks_under_lock_at, is_waiting}
use Rattle.rbd_machine.specs.declared.stage.Stage.{Stage}
use Rattle.rbd_machine.specs.declared.stage.Stage.TheVariants as stage
use Rattle.rbd_kinds.specs.declared.answer.Answer.{Answer}
use Rattle.rbd_kinds.specs.declared.answer.Answer.TheVariants as answer
use Rattle.rbd_kinds.specs.declared.header_op.HeaderOp.TheVariants as header
use Rattle.rbd_kinds.specs.declared.id.SiteId.{SiteId}
use Rattle.rbd_kinds.specs.declared.layout.Extent.{Extent}
use Rattle.rbd_kinds.specs.declared.machine.Fed.{Fed}
use Rattle.rbd_kinds.specs.declared.machine.Fed.TheVariants as fed
use Rattle.rbd_kinds.specs.declared.operation.Op.{Op}
use Rattle.rbd_kinds.specs.declared.operation.Op.TheVariants as op
use Rattle.rbd_kinds.specs.declared.reply.Reply.{Reply}
use Rattle.rbd_queue.specs.Line.{Member, member_of, is_past_in, may_pass, changed_member, without, new_member, held, passed}
use Rattle.rbd_queue.specs.Steady.{IsSteady}
use Rattle.rbd_queue.proofs.Passing.{own_changed, gone, held_is_steady}
use Rattle.rbd_machine.specs.Knowledge.{is_at, same_site}
use Rattle.rbd_machine.specs.Label.{Label}
use Rattle.rbd_machine.specs.Path.{at_operation}
use Rattle.rbd_machine.specs.Plan.{Plan, Ask, Await, Note, Return, Goto, Standing, plan_after}
use Rattle.rbd_machine.specs.Wait.{Wait}
use Rattle.rbd_machine.specs.Wait as wait
use Rattle.rbd_machine.specs.declared.reason.Reason.{Reason}
use Rattle.rbd_kinds.specs.declared.image_at.ImageAt.{ImageAt}
use Rattle.rbd_slots.specs.declared.running.Occupant.{Occupant}
use Rattle.rbd_slots.specs.declared.running.Occupant.TheVariants as occupant
use Rattle.rbd_slots.specs.declared.running.Running.{Running}
use Rattle.rbd_slots.specs.Advance.{track_of, fed_by, AdvancesTo, GoesFurther, IsFedWell}
use Rattle.rbd_slots.specs.Lines.{LinesView, lines_of}
use Rattle.rbd_slots.specs.OnTrack.{LeavesOthers}
use Rattle.rbd_slots.specs.Session.{SessionView, IsAtLookUnderLock, OfRunning, IsReadied, IsFed, ComesToIn, held_in, running_in, running_at, going_in, kind_asked, is_look_at, look_under_lock_of, look_under_lock_in, look_under_lock_at}
use Rattle.rbd_slots.specs.Track.{Track, Lines, line_changed_at, place_of_image, line_in, course_in, course_of, given_tickets, done_with, waited_by, track_noted, track_looked, answered_by, run}
use Rattle.rbd_slots.specs.Waits.{waits, waits_at, awaits_turn, awaits_look}
use Rattle.rbd_slots.proofs.Behind.{KeepsPast}
use Rattle.rbd_slots.proofs.Consequences.{here_is}
use Rattle.rbd_slots.proofs.Track.{done_steady, given_steady}
use Rattle.rbd_slots.proofs.Way.{held_past, done_past}

abbrev stage_of : Option Member → Option Stage
stage_of o = option_map (λ (m : Member). m.stage) o

-- ---- who stands at a look under the lock

may_of : (may lacks : Bool) → (not may || lacks) ≡ false → may ≡ true
may_of true lacks is = refl
may_of false lacks is = absurd (true≢false is)

module _ {R : Type 0} (slot : ℕ) (s : SessionView R) (r : Running R) (q : ImageAt) (runs : running_at slot s ≡ Some r) (goes : waits slot (track_of r s.lines) ≡ false) (place : r.place ≡ Some q) where
  may_go : (m : Member) → member_of slot (lines_of s.lines q.site q.image) ≡ Some m → m.stage ≡ stage.Waiting → may_pass slot (lines_of s.lines q.site q.image) ≡ true
  may_go m found awaits =
      may_of (may_pass slot (lines_of s.lines q.site q.image)) (awaits_turn slot (track_of r s.lines))
      (sym (
      ap (λ p. (awaits_look (course_in r.turn [] p (member_of slot (line_in p (lines_of s.lines)))).place && not (may_pass slot (line_in p (lines_of s.lines)))) || awaits_turn slot (track_of r s.lines)) place
      ∙ ap (λ o. (awaits_look (course_in r.turn [] (Some q) o).place && not (may_pass slot (lines_of s.lines q.site q.image))) || awaits_turn slot (track_of r s.lines)) found
      ∙ ap (λ g. (is_waiting g && not (may_pass slot (lines_of s.lines q.site q.image))) || awaits_turn slot (track_of r s.lines)) awaits)
      ∙ goes)

  staged : (p : ImageAt) (m : Member) → member_of slot (lines_of s.lines q.site q.image) ≡ Some m → (g : Stage) → m.stage ≡ g → cond (is_waiting g) (Some q) None ≡ Some p → IsAtLookUnderLock slot p s
  staged p m found stage.Joined is at = absurd (none-some p at)
  staged p m found stage.Past is at = absurd (none-some p at)
  staged p m found stage.Waiting is at =
      subst (λ x. IsAtLookUnderLock slot x s) (same_Some q p at)
      (record { running = r; member = m; runs = runs; place = place; found = found; awaits = is; goes = goes; may = may_go m found is })

  looking : (p : ImageAt) (o : Option Member) → member_of slot (lines_of s.lines q.site q.image) ≡ o → (looks : Bool) → cond (looks && waits_at (stage_of o)) (Some q) None ≡ Some p → IsAtLookUnderLock slot p s
  looking p o found false at = absurd (none-some p at)
  looking p None found true at = absurd (none-some p at)
  looking p (Some m) found true at = staged p m found m.stage refl at

module _ {R : Type 0} (stands : R → Standing) where
  placed : (slot : ℕ) (s : SessionView R) (r : Running R) (p : ImageAt) → running_at slot s ≡ Some r → waits slot (track_of r s.lines) ≡ false → (q : Option ImageAt) → r.place ≡ q
      → look_under_lock_of slot (kind_asked (stands r.request).plan) q s.lines ≡ Some p → IsAtLookUnderLock slot p s
  placed slot s r p runs goes None place at = absurd (none-some p at)
  placed slot s r p runs goes (Some q) place at =
      looking slot s r q runs goes place p (member_of slot (lines_of s.lines q.site q.image)) refl (is_look_at q.site (kind_asked (stands r.request).plan)) at

  pub at_look_under_lock : (s : SessionView R) (slot : ℕ) (p : ImageAt) → look_under_lock_at stands slot s ≡ Some p → IsAtLookUnderLock slot p s
  at_look_under_lock s slot p at = by (held_in slot s.slots) refl at
    where
      going : (r : Running R) → running_at slot s ≡ Some r → (b : Bool) → waits slot (track_of r s.lines) ≡ b → look_under_lock_in stands slot s.lines (cond b None (Some r)) ≡ Some p → IsAtLookUnderLock slot p s
      going r runs true waiting at = absurd (none-some p at)
      going r runs false goes at = placed slot s r p runs goes r.place refl at

      by : (o : Option (Occupant R)) → held_in slot s.slots ≡ o → look_under_lock_in stands slot s.lines (going_in slot o s.lines) ≡ Some p → IsAtLookUnderLock slot p s
      by None is at = absurd (none-some p at)
      by (Some (occupant.Refused line refusal)) is at = absurd (none-some p at)
      by (Some (occupant.Running r)) is at = going r (ap running_in is) (waits slot (track_of r s.lines)) refl at

-- ---- who goes past its look under the lock

-- whether a slot is past its look under the lock in the line of an image
abbrev past_at : (slot : ℕ) → Lines → SiteId → (image : ℕ) → Bool
past_at slot lines site image = is_past_in (member_of slot (lines site image))

-- a change that takes a slot past its look under the lock nowhere
abbrev TakesNotPast : (slot : ℕ) → (List Member → List Member) → Type 0
TakesNotPast slot change = (members : List Member) → is_past_in (member_of slot (change members)) ≡ true → is_past_in (member_of slot members) ≡ true

past_before : (slot : ℕ) (place : Option ImageAt) (change : List Member → List Member) (lines : Lines) → TakesNotPast slot change
    → (site : SiteId) (image : ℕ) → past_at slot (line_changed_at place change lines) site image ≡ true → past_at slot lines site image ≡ true
past_before slot None change lines keeps site image past = past
past_before slot (Some p) change lines keeps site image past = by (is_at p.site p.image site image) past
  where
    by : (b : Bool) → is_past_in (member_of slot (cond b (change (lines site image)) (lines site image))) ≡ true → past_at slot lines site image ≡ true
    by true past = keeps (lines site image) past
    by false past = past

changed_not_past : (slot : ℕ) (f : Member → Member) → IsSteady f → KeepsPast f → TakesNotPast slot (changed_member slot f)
changed_not_past slot f steady keeps members past = by (member_of slot members) (sym (ap is_past_in (own_changed members slot f steady)) ∙ past)
  where
    by : (o : Option Member) → is_past_in (option_map f o) ≡ true → is_past_in o ≡ true
    by None past = past
    by (Some m) past = sym (keeps m) ∙ past

joined_not_past : (slot : ℕ) (sharing : Sharing) → TakesNotPast slot (λ members. members ++ new_member slot sharing ∷ [])
joined_not_past slot sharing [] past = by (slot == slot) past
  where
    by : (b : Bool) → is_past_in (cond b (Some (new_member slot sharing)) None) ≡ true → false ≡ true
    by true past = past
    by false past = past
joined_not_past slot sharing (m ∷ members) past = by (m.slot == slot) past (joined_not_past slot sharing members)
  where
    by : (b : Bool) → is_past_in (cond b (Some m) (member_of slot (members ++ new_member slot sharing ∷ []))) ≡ true
        → (is_past_in (member_of slot (members ++ new_member slot sharing ∷ [])) ≡ true → is_past_in (member_of slot members) ≡ true)
        → is_past_in (cond b (Some m) (member_of slot members)) ≡ true
    by true past rest = past
    by false past rest = rest past

left_not_past : (slot : ℕ) → TakesNotPast slot (without slot)
left_not_past slot members past = absurd (true≢false (sym past ∙ ap is_past_in (gone members slot)))

waited_past : (slot : ℕ) (t : Track) (w : Wait) (site : SiteId) (image : ℕ) → past_at slot (waited_by slot t w).lines site image ≡ true → past_at slot t.lines site image ≡ true
waited_past slot t (wait.Join at of sharing) site image past =
    past_before slot (Some (place_of_image at of)) (λ members. members ++ new_member slot sharing ∷ []) t.lines (joined_not_past slot sharing) site image past
waited_past slot t (wait.Hold at of) site image past = past_before slot t.place (changed_member slot held) t.lines (changed_not_past slot held held_is_steady held_past) site image past
waited_past slot t (wait.Turn object) site image past =
    past_before slot t.place (changed_member slot (done_with t.turn)) t.lines (changed_not_past slot (done_with t.turn) (done_steady t.turn) (done_past t.turn)) site image past
waited_past slot t (wait.Applied at of) site image past =
    past_before slot t.place (changed_member slot (done_with t.turn)) t.lines (changed_not_past slot (done_with t.turn) (done_steady t.turn) (done_past t.turn)) site image past
waited_past slot t (wait.Leave at of) site image past = past_before slot t.place (without slot) t.lines (left_not_past slot) site image past

noted_past : (slot : ℕ) (t : Track) (site : SiteId) (image : ℕ) → past_at slot (track_noted slot t).lines site image ≡ true → past_at slot t.lines site image ≡ true
noted_past slot t site image past =
    past_before slot t.place (changed_member slot (given_tickets t.due)) t.lines (changed_not_past slot (given_tickets t.due) (given_steady t.due) (λ m. refl)) site image past

-- up to its next operation it goes past nowhere
run_past : (slot : ℕ) (plan : Plan) (t : Track) (site : SiteId) (image : ℕ) → past_at slot (run slot plan t).lines site image ≡ true → past_at slot t.lines site image ≡ true
run_past slot (Ask at why o next) t site image past = past
run_past slot (Await w next) t site image past = waited_past slot t w site image (run_past slot next (waited_by slot t w) site image past)
run_past slot (Note at of event next) t site image past = noted_past slot t site image (run_past slot next (track_noted slot t) site image past)
run_past slot (Return reply) t site image past = past
run_past slot (Goto label) t site image past = past

-- it waits for its look under the lock in the line of an image, and looks at a header of that site
record LooksAt (slot : ℕ) (t : Track) (plan : Plan) (p : ImageAt) : Type 0 where
  pub place : t.place ≡ Some p
  pub looks : is_look_at p.site (kind_asked plan) ≡ true
  pub awaits : waits_at (stage_of (member_of slot (t.lines p.site p.image))) ≡ true

own_waits : (site : SiteId) (image : ℕ) (turn : Option ℕ) (due : List ℕ) (p : ImageAt) (o : Option Member) → looks_under_lock_at site image (course_in turn due (Some p) o).place ≡ true
    → (same_site p.site site ≡ true) × (waits_at (stage_of o) ≡ true)
own_waits site image turn due p None own = absurd (true≢false (sym own))
own_waits site image turn due p (Some m) own =
    let parts = and_parts (is_at site image p.site p.image) (is_waiting m.stage) own in
    let at = and_parts (same_site p.site site) (p.image == image) parts.0 in
    (at.0, parts.1)

-- an answer takes it past its look under the lock only at its look under the lock
answered_past : (slot : ℕ) (e : Option Extent) (t : Track) (at : SiteId) (why : Reason) (o : Op) (next : Answer → Plan) (a : Answer) (site : SiteId) (image : ℕ)
    → past_at slot (answered_by slot e t at o a).lines site image ≡ true → (past_at slot t.lines site image ≡ true) ⊎ LooksAt slot t (Ask at why o next) (place_of_image site image)
answered_past slot e t at why (op.Header of header.Get) next (answer.Header h) site image past = by (looks_under_lock_at at of (course_of slot t).place) refl past
  where
    here : (p : ImageAt) → t.place ≡ Some p → looks_under_lock_at at of (course_of slot t).place ≡ true → LooksAt slot t (Ask at why (op.Header of header.Get) next) p
    here p place own =
        let both = own_waits at of t.turn t.due p (member_of slot (t.lines p.site p.image))
        (sym (ap (λ q. looks_under_lock_at at of (course_in t.turn t.due q (member_of slot (line_in q t.lines))).place) place) ∙ own) in
        record { place = place; looks = both.0; awaits = both.1 }

    in_line : (p : ImageAt) → t.place ≡ Some p → looks_under_lock_at at of (course_of slot t).place ≡ true → (b : Bool) → is_at p.site p.image site image ≡ b
        → is_past_in (member_of slot (cond b (changed_member slot passed (t.lines site image)) (t.lines site image))) ≡ true
        → (past_at slot t.lines site image ≡ true) ⊎ LooksAt slot t (Ask at why (op.Header of header.Get) next) (place_of_image site image)
    in_line p place own true same past = inr (here (place_of_image site image) (place ∙ here_is (Some p) site image same) own)
    in_line p place own false other past = inl past

    placed : (q : Option ImageAt) → t.place ≡ q → looks_under_lock_at at of (course_of slot t).place ≡ true → past_at slot (line_changed_at q (changed_member slot passed) t.lines) site image ≡ true
        → (past_at slot t.lines site image ≡ true) ⊎ LooksAt slot t (Ask at why (op.Header of header.Get) next) (place_of_image site image)
    placed None place own past = inl past
    placed (Some p) place own past = in_line p place own (is_at p.site p.image site image) refl past

    by : (b : Bool) → looks_under_lock_at at of (course_of slot t).place ≡ b → is_past_in (member_of slot ((cond b (track_looked slot e h t) t).lines site image)) ≡ true
        → (past_at slot t.lines site image ≡ true) ⊎ LooksAt slot t (Ask at why (op.Header of header.Get) next) (place_of_image site image)
    by true own past = placed t.place refl own past
    by false own past = inl past
answered_past slot e t at why o next a site image past = inl past

fed_past : (slot : ℕ) (e : Option Extent) (t : Track) (plan : Plan) (f : Fed) (site : SiteId) (image : ℕ) → past_at slot (fed_by slot e t plan f).lines site image ≡ true
    → (past_at slot t.lines site image ≡ true) ⊎ LooksAt slot t plan (place_of_image site image)
fed_past slot e t (Ask at why o next) (fed.Answer a) site image past = answered_past slot e t at why o next a site image past
fed_past slot e t (Ask at why o next) fed.Passed site image past = inl past
fed_past slot e t (Await w next) f site image past = inl past
fed_past slot e t (Note at of event next) f site image past = inl past
fed_past slot e t (Return reply) f site image past = inl past
fed_past slot e t (Goto label) f site image past = inl past

module _ {R : Type 0} (stands : R → Standing) where
  further_past : (slot : ℕ) (to : Standing) (t : Track) (result : Option Reply) (r q : Running R) (after : LinesView) → GoesFurther stands slot to t result r q after
      → (site : SiteId) (image : ℕ) → past_at slot (lines_of after) site image ≡ true → past_at slot t.lines site image ≡ true
  further_past slot to t result r q after goes site image past = sym (ap (λ (x : Track). past_at slot x.lines site image) goes.track) ∙ past

  comes_past : (slot : ℕ) (labels : Label → Plan) (plan : Plan) (t : Track) (result : Option Reply) (r q : Running R) (after : LinesView) → AdvancesTo stands slot labels plan t result r q after
      → (site : SiteId) (image : ℕ) → past_at slot (lines_of after) site image ≡ true → past_at slot t.lines site image ≡ true
  comes_past slot labels (Return reply) t result r q after ended site image past =
      past_before slot t.place (without slot) t.lines (left_not_past slot) site image (sym (ap (λ (ls : Lines). past_at slot ls site image) ended.left) ∙ past)
  comes_past slot labels (Ask at why o next) t result r q after goes site image past = further_past slot (record { labels = labels; plan = Ask at why o next }) t result r q after goes site image past
  comes_past slot labels (Await w next) t result r q after goes site image past = further_past slot (record { labels = labels; plan = Await w next }) t result r q after goes site image past
  comes_past slot labels (Note at of event next) t result r q after goes site image past = further_past slot (record { labels = labels; plan = Note at of event next }) t result r q after goes site image past
  comes_past slot labels (Goto label) t result r q after goes site image past = further_past slot (record { labels = labels; plan = Goto label }) t result r q after goes site image past

  looks_own : (s : SessionView R) (slot : ℕ) (r : Running R) (p : ImageAt) → held_in slot s.slots ≡ Some (occupant.Running r) → waits slot (track_of r s.lines) ≡ false
      → LooksAt slot (track_of r s.lines) (stands r.request).plan p → look_under_lock_at stands slot s ≡ Some p
  looks_own s slot r p is goes at =
      ap (λ o. look_under_lock_in stands slot s.lines (going_in slot o s.lines)) is
      ∙ ap (λ b. look_under_lock_in stands slot s.lines (cond b None (Some r))) goes
      ∙ ap (λ q. look_under_lock_of slot (kind_asked (stands r.request).plan) q s.lines) at.place
      ∙ ap (λ b. cond (b && waits_at (stage_of (member_of slot (lines_of s.lines p.site p.image)))) (Some p) None) at.looks
      ∙ ap (λ b. cond b (Some p) None) at.awaits

  module _ (is_ready : R → Answer → Type 0) (s new : SessionView R) (slot : ℕ) (f : Fed) (reply : Option Reply) (site : SiteId) (image : ℕ) where
    abbrev WasOrLooks : Type 0
    WasOrLooks = (past_at slot (lines_of s.lines) site image ≡ true) ⊎ (look_under_lock_at stands slot s ≡ Some (place_of_image site image))

    in_its_way : (r : Running R) → held_in slot s.slots ≡ Some (occupant.Running r) → IsFedWell stands is_ready slot r s.lines f → (q : Running R)
        → AdvancesTo stands slot (stands r.request).labels (at_operation (stands r.request).labels (plan_after (stands r.request).plan f))
        (run slot (plan_after (stands r.request).plan f) (fed_by slot r.extent (track_of r s.lines) (stands r.request).plan f)) reply r q new.lines
        → past_at slot (lines_of new.lines) site image ≡ true → WasOrLooks
    in_its_way r is well q comes past =
        let t = track_of r s.lines in
        let plan = (stands r.request).plan in
        by
        (fed_past slot r.extent t plan f site image
        (run_past slot (plan_after plan f) (fed_by slot r.extent t plan f) site image
        (comes_past slot (stands r.request).labels (at_operation (stands r.request).labels (plan_after plan f)) (run slot (plan_after plan f) (fed_by slot r.extent t plan f)) reply r q new.lines comes site image past)))
      where
        by : (past_at slot (lines_of s.lines) site image ≡ true) ⊎ LooksAt slot (track_of r s.lines) (stands r.request).plan (place_of_image site image) → WasOrLooks
        by (inl was) = inl was
        by (inr looks) = inr (looks_own s slot r (place_of_image site image) is well.goes looks)

    its_own : IsReadied stands is_ready slot f s → IsFed stands slot f reply s new → past_at slot (lines_of new.lines) site image ≡ true → WasOrLooks
    its_own ready fed past = by (held_in slot s.slots) refl ready fed
      where
        to : (r : Running R) → held_in slot s.slots ≡ Some (occupant.Running r) → IsFedWell stands is_ready slot r s.lines f → (o : Option (Occupant R))
            → ComesToIn stands slot s.lines f reply r o new.lines → WasOrLooks
        to r is well (Some (occupant.Running q)) comes = in_its_way r is well q comes.1 past
        to r is well None comes = in_its_way r is well r comes.1 past
        to r is well (Some (occupant.Refused line refusal)) comes = elim comes [ ]

        by : (o : Option (Occupant R)) → held_in slot s.slots ≡ o → OfRunning (λ r. IsFedWell stands is_ready slot r s.lines f) o
            → OfRunning (λ r. ComesToIn stands slot s.lines f reply r (held_in slot new.slots) new.lines) o → WasOrLooks
        by (Some (occupant.Running r)) is well comes = to r is well (held_in slot new.slots) comes
        by (Some (occupant.Refused line refusal)) is well comes = elim well [ ]
        by None is well comes = elim well [ ]

  pub passes_by_look_under_lock : (is_ready : R → Answer → Type 0) (s new : SessionView R) (slot : ℕ) (f : Fed) (reply : Option Reply) → IsReadied stands is_ready slot f s → IsFed stands slot f reply s new
      → LeavesOthers slot (lines_of s.lines) (lines_of new.lines) → (k : ℕ) (site : SiteId) (image : ℕ) → is_past_in (member_of k (lines_of new.lines site image)) ≡ true
      → (is_past_in (member_of k (lines_of s.lines site image)) ≡ true) ⊎ ((k ≡ slot) × (look_under_lock_at stands slot s ≡ Some (place_of_image site image)))
  passes_by_look_under_lock is_ready s new slot f reply ready fed leaves k site image past = by (cases_eq k slot)
    where
      own : k ≡ slot → (past_at slot (lines_of s.lines) site image ≡ true) ⊎ (look_under_lock_at stands slot s ≡ Some (place_of_image site image))
          → (is_past_in (member_of k (lines_of s.lines site image)) ≡ true) ⊎ ((k ≡ slot) × (look_under_lock_at stands slot s ≡ Some (place_of_image site image)))
      own same (inl was) = inl (ap (λ n. is_past_in (member_of n (lines_of s.lines site image))) same ∙ was)
      own same (inr looks) = inr (same, looks)

      by : (k ≡ slot) ⊎ (k ≢ slot) → (is_past_in (member_of k (lines_of s.lines site image)) ≡ true) ⊎ ((k ≡ slot) × (look_under_lock_at stands slot s ≡ Some (place_of_image site image)))
      by (inl same) = own same (its_own is_ready s new slot f reply site image ready fed (sym (ap (λ n. is_past_in (member_of n (lines_of new.lines site image))) same) ∙ past))
      by (inr differ) = inl (sym (ap is_past_in (leaves k differ site image)) ∙ past)
