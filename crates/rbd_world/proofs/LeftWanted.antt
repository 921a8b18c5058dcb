-- Where an instance is stopped: for whom each of its slots wanted what it may still send, and what
-- that one knew.
use Rattle.std.proofs.Common.{◌≡◌, ℕ, ◌==◌, cond, Bool, true, false, List, Option, Some, None, refl, sym, ap, ◌∙◌, subst}
use Rattle.std.proofs.lemmas.Bool.{eqb-true, true≢false}
use Rattle.std.proofs.lemmas.Option.{none-some, same_Some}
use Rattle.std.proofs.Math.Bool.{or-false}
use Rattle.rbd_client.specs.declared.actor.Actor.{Actor}
use Rattle.rbd_client.specs.declared.actor.Actor.TheVariants as actor
use Rattle.rbd_client.specs.Actor.{actor_at, actor_on, due_release, is_acquiring, op_by, op_wanted, release_actor}
use Rattle.rbd_client.specs.Client.{ClientView, slot_state}
use Rattle.rbd_client.specs.Sound.{WaitsForLook}
use Rattle.rbd_client.proofs.OnWay.{is_release, on_way_no_release, way_waits}
use Rattle.rbd_kinds.specs.declared.id.Instance.{Instance}
use Rattle.rbd_kinds.specs.declared.id.SiteId.{SiteId}
use Rattle.rbd_kinds.specs.declared.operation.Op.{Op}
use Rattle.rbd_knowledge.specs.ClientsKnowing.{known_on_way, known_to, known_to_release}
use Rattle.rbd_knowledge.proofs.Wanting.{Wants, wants}
use Rattle.rbd_machine.specs.Knowledge.{Knowledge}
use Rattle.rbd_machine.specs.Path.{IsWalk}
use Rattle.rbd_machine.specs.Plan.{Standing}
use Rattle.rbd_lock.specs.Acquire.{op_of}
use Rattle.rbd_lock.specs.Release.{release_op}
use Rattle.rbd_lock.specs.declared.acquire.Acquire.{Acquire}
use Rattle.rbd_lock.specs.declared.release.Release.{Release}
use Rattle.rbd_slots.specs.declared.running.Occupant.{Occupant}
use Rattle.rbd_slots.specs.declared.running.Occupant.TheVariants as occupant
use Rattle.rbd_slots.specs.declared.running.Running.{Running}
use Rattle.rbd_slots.specs.Session.{held_in, is_look_at, kind_asked, look_under_lock_at, running_at, running_in, script_line}
use Rattle.rbd_world.specs.Run.{Asked, Doer, Itself, OnWay, House, Happening, asked_by, is_line_among, is_for, steps_of, way_of}
use Rattle.rbd_world.specs.Seats.{seat_at}
use Rattle.rbd_world.specs.Sending.{doer_at}
use Rattle.rbd_world.specs.Sound.{HasLearned, HasLearnedIf, IsHeldRightly, IsLedTo, IsStillSent, IsLiving, IsUnderWay, KeepsToItsWay, Recalls, RecallsBy, TakesAlone, place_of_request}
use Rattle.rbd_world.specs.Ways.{AgreesWithWay, IsNextOfRelease}
use Rattle.rbd_world.proofs.LetGo.{next_of_release}
use Rattle.rbd_world.proofs.Watching.{takes_behind_watch, way_watched}
use Rattle.rbd_world.proofs.Ways.{asks_next, way_acts, way_is_over}

-- for whom who acts at a slot does so
abbrev doer_in : {R : Type 0} → Option (Occupant R) → Actor → Doer
doer_in None acts = House
doer_in (Some (occupant.Refused line refusal)) acts = House
doer_in (Some (occupant.Running r)) acts = doer_at r.line acts

for_line : (line other : ℕ) (b : Bool) → is_for line (cond b (OnWay other) (Itself other)) ≡ true → other ≡ line
for_line line other true is = eqb-true other line is
for_line line other false is = eqb-true other line (sym (or-false (other == line)) ∙ is)

in_line : {R : Type 0} (o : Option (Occupant R)) (acts : Actor) (line : ℕ) → is_for line (doer_in o acts) ≡ true → script_line o ≡ Some line
in_line None acts line is = absurd (true≢false (sym is))
in_line (Some (occupant.Refused other refusal)) acts line is = absurd (true≢false (sym is))
in_line (Some (occupant.Running r)) acts line is = ap Some (for_line line r.line (is_acquiring acts) is)

module _ {R : Type 0} (stands : R → Standing) (homes : ℕ → SiteId) (session : ℕ) (run : List Happening) (knows : (slot : ℕ) → Knowledge) (c : ClientView R)
    (living : IsLiving stands (homes session) session run knows c) (lost : List ℕ) (are_lost : (x line : ℕ) → script_line (held_in x c.session.slots) ≡ Some line → is_line_among line lost ≡ true)
    (alone : (x : ℕ) (r : Running R) → held_in x c.session.slots ≡ Some (occupant.Running r) → (a : Acquire) → actor_at stands x c ≡ actor.Way a → TakesAlone c.session.instance a.site (op_of a) run) where
  abbrev who : Instance
  who = c.session.instance

  abbrev pub for_whom : (slot : ℕ) → Doer
  for_whom x = doer_in (held_in x c.session.slots) (actor_at stands x c)

  -- the line that it is for is in the slot
  pub whose_slot : (line x : ℕ) → is_for line (for_whom x) ≡ true → script_line (held_in x c.session.slots) ≡ Some line
  whose_slot line x is = in_line (held_in x c.session.slots) (actor_at stands x c) line is

  -- ---- of a request

  module _ (x : ℕ) (r : Running R) (holds : held_in x c.session.slots ≡ Some (occupant.Running r)) where
    runs : running_at x c.session ≡ Some r
    runs = ap running_in holds

    way : IsUnderWay stands (seat_at homes session) who run r
    way = subst (IsHeldRightly stands (seat_at homes session) who run) holds (living.held x)

    keeps : AgreesWithWay (stands r.request) (place_of_request x c.session.lines r) (slot_state x c.slots).way (way_of r.line run)
    keeps = (subst (KeepsToItsWay stands run x c.session.lines (slot_state x c.slots).way) runs (living.ways x)).1

    is_mine : (asked : Asked) → asked_by r.line run ≡ Some asked → who ≡ asked.who
    is_mine asked is = sym (ap (λ (a : Asked). a.who) (same_Some asked way.begun.asked (sym is ∙ way.begun.is)) ∙ way.mine)

    is_lost : is_line_among r.line lost ≡ true
    is_lost = are_lost x r.line (ap script_line holds)

    led_there : IsLedTo (seat_at homes way.begun.asked.who.session) way.begun.asked.command (steps_of r.line run) (stands r.request).plan
    led_there =
        subst (λ i. IsLedTo (seat_at homes i) way.begun.asked.command (steps_of r.line run) (stands r.request).plan) (sym (ap (λ (i : Instance). i.session) way.mine ∙ living.whose))
        (record { start = way.start; plan = way.plan; feds = way.feds; walk = way.walk; given = way.given; standalone = way.standalone })

    -- it acts itself
    itself : (s : SiteId) (o : Op) (w : Wants stands x c.session.lines s o (held_in x c.session.slots)) → w.request ≡ r → actor_at stands x c ≡ actor.Request
        → IsStillSent homes who lost x s o (Itself r.line) run
    itself s o w same acts = record {
      wanted = (
        is_lost,
        record {
          begun = way.begun;
          why = w.why;
          next = w.next;
          led =
              subst (IsLedTo (seat_at homes way.begun.asked.who.session) way.begun.asked.command (steps_of r.line run))
              (ap (λ (q : Running R). (stands q.request).plan) (sym same) ∙ w.plan) led_there;
        },
      );
      whose = is_mine;
      next = way_is_over stands x c living.sound r runs (way_of r.line run) keeps acts;
    }

    -- it is on its way
    module _ (a : Acquire) (acts : actor_at stands x c ≡ actor.Way a) where
      waiting : WaitsForLook stands x a.site a.image c.session
      waiting = way_waits stands x c a living.sound acts

      on_way : IsStillSent homes who lost x a.site (op_of a) (OnWay r.line) run
      on_way = record {
        wanted = (
          is_lost,
          record {
            begun = way.begun;
            plan = (stands r.request).plan;
            led = led_there;
            wants = subst (λ (q : Running R). is_look_at a.site (kind_asked (stands q.request).plan) ≡ true) (same_Some waiting.request r (sym waiting.runs ∙ runs)) waiting.wants;
          },
        );
        whose = is_mine;
        next = (
          asks_next a (way_of r.line run) (way_acts stands x c living.sound r runs (way_of r.line run) keeps a acts),
          takes_behind_watch a who run (way_watched stands x c who run living.watches a acts),
          alone x r holds a acts,
        );
      }

  -- ---- of the house

  module _ (x : ℕ) (z : Release) (acts : actor_at stands x c ≡ actor.Release z) where
    at_zero : x ≡ 0
    at_zero = by (x == 0) refl
      where
        by : (b : Bool) → (x == 0) ≡ b → x ≡ 0
        by true is = eqb-true x 0 is
        by false is =
            absurd (true≢false (sym (ap is_release acts) ∙ ap (λ b. is_release (cond b (release_actor c.release (due_release c)) (actor_on (slot_state x c.slots).way (look_under_lock_at stands x c.session) c.locks))) is
            ∙ on_way_no_release (slot_state x c.slots).way (look_under_lock_at stands x c.session) c.locks))

    is_free : held_in x c.session.slots ≡ None
    is_free = ap (λ n. held_in n c.session.slots) at_zero ∙ living.sound.session.zero

    of_house : IsStillSent homes who lost x z.site (release_op z) House run
    of_house = record {
      wanted = at_zero;
      whose = living.runs;
      next = subst (λ o. IsNextOfRelease o z.site (release_op z)) living.releases (next_of_release stands x c z acts);
    }

  -- ---- what a slot wanted

  abbrev Left : (x : ℕ) → SiteId × Op → Doer → Type 0
  Left x p by = IsStillSent homes who lost x p.0 p.1 by run

  by_request : (x : ℕ) (p : SiteId × Op) → actor_at stands x c ≡ actor.Request → Wants stands x c.session.lines p.0 p.1 (held_in x c.session.slots)
      → Left x p (doer_in (held_in x c.session.slots) actor.Request)
  by_request x p acts w = subst (λ h. Left x p (doer_in h actor.Request)) (sym w.is) (itself x w.request w.is p.0 p.1 w refl acts)

  by_way : (x : ℕ) (a : Acquire) → actor_at stands x c ≡ actor.Way a → (h : Option (Occupant R)) → held_in x c.session.slots ≡ h → (r : Running R) → running_in h ≡ Some r
      → Left x (a.site, op_of a) (doer_in h (actor.Way a))
  by_way x a acts None holds r is = absurd (none-some r is)
  by_way x a acts (Some (occupant.Refused line refusal)) holds r is = absurd (none-some r is)
  by_way x a acts (Some (occupant.Running q)) holds r is = on_way x q holds a acts

  by_house : (x : ℕ) (z : Release) → actor_at stands x c ≡ actor.Release z → Left x (z.site, release_op z) (doer_in (held_in x c.session.slots) (actor.Release z))
  by_house x z acts = subst (λ h. Left x (z.site, release_op z) (doer_in h (actor.Release z))) (sym (is_free x z acts)) (of_house x z acts)

  pub left_of : (x : ℕ) (p : SiteId × Op) → op_wanted stands x c ≡ Some p → IsStillSent homes who lost x p.0 p.1 (for_whom x) run
  left_of x p is = by (actor_at stands x c) refl is
    where
      by : (m : Actor) → actor_at stands x c ≡ m → op_by stands x c.session m ≡ Some p → Left x p (doer_in (held_in x c.session.slots) m)
      by actor.Nobody acts is = absurd (none-some p is)
      by actor.Request acts is = by_request x p acts (wants stands x c.session.lines p.0 p.1 (held_in x c.session.slots) is)
      by (actor.Way a) acts is =
          let waiting = way_waits stands x c a living.sound acts in
          subst (λ w. Left x w (doer_in (held_in x c.session.slots) (actor.Way a))) (same_Some (a.site, op_of a) p is)
          (by_way x a acts (held_in x c.session.slots) refl waiting.request waiting.runs)
      by (actor.Release z) acts is =
          subst (λ w. Left x w (doer_in (held_in x c.session.slots) (actor.Release z))) (same_Some (z.site, release_op z) p is) (by_house x z acts)

  -- ---- what it goes by

  -- a request goes by what a walk of its command taught
  by_what_it_learned : (x : ℕ) (p : SiteId × Op) → Wants stands x c.session.lines p.0 p.1 (held_in x c.session.slots) → RecallsBy (doer_in (held_in x c.session.slots) actor.Request) p.0 p.1 (knows x) run
  by_what_it_learned x p w = subst (λ h. RecallsBy (doer_in h actor.Request) p.0 p.1 (knows x) run) (sym w.is) recalls
    where
      has : HasLearned stands run w.request (knows x)
      has = subst (λ r. HasLearnedIf stands run r (knows x)) (ap running_in w.is) (living.learned x)

      recalls : Recalls w.request.line p.0 p.1 (knows x) run
      recalls = record {
        begun = has.begun;
        seat = has.seat;
        start = has.start;
        plan = has.plan;
        feds = has.feds;
        why = w.why;
        next = w.next;
        walk = subst (IsWalk has.start.labels has.start.plan has.feds (steps_of w.request.line run)) w.plan has.walk;
        known = has.known;
      }

  -- and a way by nothing that its request learned
  by_its_way : (a : Acquire) (s : SiteId) (o : Op) (k : Knowledge) (h : Option (Occupant R)) → RecallsBy (doer_in h (actor.Way a)) s o k run
  by_its_way a s o k None = tt
  by_its_way a s o k (Some (occupant.Refused line refusal)) = tt
  by_its_way a s o k (Some (occupant.Running r)) = tt

  pub recalls_of : (x : ℕ) (p : SiteId × Op) → op_wanted stands x c ≡ Some p → RecallsBy (for_whom x) p.0 p.1 (known_to (knows x) (actor_at stands x c)) run
  recalls_of x p is = by (actor_at stands x c) refl is
    where
      by : (m : Actor) → actor_at stands x c ≡ m → op_by stands x c.session m ≡ Some p → RecallsBy (doer_in (held_in x c.session.slots) m) p.0 p.1 (known_to (knows x) m) run
      by actor.Nobody acts is = absurd (none-some p is)
      by actor.Request acts is = by_what_it_learned x p (wants stands x c.session.lines p.0 p.1 (held_in x c.session.slots) is)
      by (actor.Way a) acts is = by_its_way a p.0 p.1 (known_on_way a) (held_in x c.session.slots)
      by (actor.Release z) acts is = subst (λ h. RecallsBy (doer_in h (actor.Release z)) p.0 p.1 (known_to_release z) run) (sym (is_free x z acts)) tt
