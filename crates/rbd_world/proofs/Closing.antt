-- Where a slot wants to end its client's watch of an image, its line let go of the lock, and it
-- stands first in the image's line. So no other slot is on its way to that lock, or wants to take
-- it.
use Rattle.std.proofs.Common.{◌≡◌, ◌≢◌, ◌⊎◌, inl, inr, ℕ, ◌||◌, Bool, true, false, List, [], ◌∷◌, ◌++◌, Option, Some, None, refl, sym, ap, ◌∙◌, subst}
use Rattle.std.proofs.lemmas.Bool.{true≢false, cases_eq}
use Rattle.std.proofs.lemmas.List.Folds.{list_any-append}
use Rattle.std.proofs.lemmas.Option.{none-some, same_Some}
use Rattle.std.proofs.Math.Bool.{or-false}
use Rattle.rbd_client.specs.declared.actor.Actor.{Actor}
use Rattle.rbd_client.specs.declared.actor.Actor.TheVariants as actor
use Rattle.rbd_client.specs.declared.slot_state.Way.TheVariants as way
use Rattle.rbd_client.specs.Actor.{actor_at, op_by, op_wanted}
use Rattle.rbd_client.specs.Client.{ClientView, slot_state}
use Rattle.rbd_client.specs.Sound.{IsSoundClient, IsWellOnWay, WaitsForLook}
use Rattle.rbd_client.proofs.OnWay.{way_waits}
use Rattle.rbd_session.specs.Close.{unwatch}
use Rattle.rbd_kinds.specs.declared.answer.Answer.{Answer}
use Rattle.rbd_kinds.specs.declared.id.Instance.{Instance}
use Rattle.rbd_kinds.specs.declared.id.SiteId.{SiteId}
use Rattle.rbd_kinds.specs.declared.machine.Fed.TheVariants as fed
use Rattle.rbd_kinds.specs.declared.operation.Op.{Op}
use Rattle.rbd_kinds.specs.declared.operation.Op.TheVariants as op
use Rattle.rbd_kinds.specs.declared.reply.Reply.{Reply}
use Rattle.rbd_kinds.proofs.Images.{at_itself}
use Rattle.rbd_knowledge.proofs.Wanting.{wants}
use Rattle.rbd_machine.specs.Label.{Label}
use Rattle.rbd_machine.specs.Path.{Answered, IsWalk, at_operation}
use Rattle.rbd_machine.specs.Plan.{Plan, Ask, Await, Note, Return, Goto, Standing, plan_after}
use Rattle.rbd_machine.specs.declared.reason.Reason.{Reason}
use Rattle.rbd_machine.specs.declared.seat.Seat.{Seat}
use Rattle.rbd_lock.specs.Acquire.{op_at_stage, op_of}
use Rattle.rbd_lock.specs.Steps.{lock_take}
use Rattle.rbd_lock.specs.declared.acquire.Acquire.{Acquire}
use Rattle.rbd_lock.specs.declared.acquire.Stage.{Stage}
use Rattle.rbd_lock.specs.declared.acquire.Stage.TheVariants as stage
use Rattle.rbd_lock.specs.declared.release.Release.{Release}
use Rattle.rbd_slots.specs.declared.running.Occupant.{Occupant}
use Rattle.rbd_slots.specs.declared.running.Occupant.TheVariants as occupant
use Rattle.rbd_slots.specs.declared.running.Running.{Running}
use Rattle.rbd_slots.specs.Advance.{AdvancesTo, fed_by, track_of}
use Rattle.rbd_slots.specs.Lines.{LinesView, lines_of}
use Rattle.rbd_slots.specs.Track.{Lines, Track, run as run_on}
use Rattle.rbd_slots.specs.Session.{ComesToIn, held_in, is_look_at, kind_asked, running_at, running_in, script_line}
use Rattle.rbd_world.specs.Closes.{StandsFirst, StandsFirstIf, has_let_go, lets_lock_go}
use Rattle.rbd_world.specs.Run.{Asked, Happening, asked_by, steps_of}
use Rattle.rbd_world.specs.Sound.{IsHeldRightly, IsUnderWay}
use Rattle.rbd_catalog.specs.Asking.{IsNoLook}
use Rattle.rbd_catalog.specs.Follows.{TakesNoLock}
use Rattle.rbd_world.proofs.LetsGoFirst.{LetsGoFirst, blind_stays, led_first, lets_go_blind, runs_still}
use Rattle.rbd_world.proofs.RefusedOnWay.{looks_at}
use Rattle.rbd_world.proofs.StaysFirst.{no_way_beside}
use Rattle.rbd_world.proofs.TakesNone.{release_takes_none, walks_take_none}
use Rattle.rbd_world.proofs.Unowned.{EndsNoWatch, release_keeps_watch}

-- ---- steps of a way

abbrev image_or : (otherwise : ℕ) → Op → ℕ
image_or otherwise (op.Header image o) = image
image_or otherwise o = otherwise

-- the image whose lock it takes is its own
pub takes_own : (at : Stage) (image on : ℕ) → op_at_stage at image ≡ lock_take on → image ≡ on
takes_own stage.Taking image on is = ap (image_or image) is
takes_own stage.Watching image on is = ap (image_or image) is
takes_own (stage.Looking owner) image on is = ap (image_or image) is
takes_own stage.Asking image on is = ap (image_or image) is
takes_own (stage.Fencing owner) image on is = ap (image_or image) is
takes_own (stage.Breaking owner) image on is = ap (image_or image) is

-- and it ends no watch
way_keeps_watch : (a : Acquire) → EndsNoWatch (op_of a)
way_keeps_watch a = by a.stage
  where
    by : (at : Stage) → EndsNoWatch (op_at_stage at a.image)
    by stage.Watching = tt
    by stage.Taking = tt
    by (stage.Looking owner) = tt
    by stage.Asking = tt
    by (stage.Fencing owner) = tt
    by (stage.Breaking owner) = tt

-- ---- a request that let go

-- it looks at no header any more
looks_no_more : (site s : SiteId) (image : ℕ) (plan : Plan) → LetsGoFirst s image true plan → is_look_at site (kind_asked plan) ≡ true → ⊥
looks_no_more site s image plan first looks = let at = looks_at site plan looks in (subst (LetsGoFirst s image true) at.is first).0.1

module _ {R : Type 0} (stands : R → Standing) (seat : Seat) (who : Instance) (run : List Happening) (s : SiteId) (image : ℕ) where
  underway_first : (r : Running R) → IsUnderWay stands seat who run r → LetsGoFirst s image (has_let_go s image (steps_of r.line run)) (stands r.request).plan
  underway_first r way = led_first s image seat way.begun.asked.command way.start way.feds (steps_of r.line run) (stands r.request).plan way.plan way.walk

  -- one that wants to end its watch of the image
  pub unwatches_gone : (r : Running R) (why : Reason) (next : Answer → Plan) → IsUnderWay stands seat who run r → (stands r.request).plan ≡ Ask s why (unwatch image) next → has_let_go s image (steps_of r.line run) ≡ true
  unwatches_gone r why next way asks = (subst (LetsGoFirst s image (has_let_go s image (steps_of r.line run))) asks (underway_first r way)).0.0 (at_itself s image)

  -- the request of a line that let go
  pub record LetGo (line : ℕ) (o : Option (Occupant R)) : Type 0 where
    pub request : Running R
    pub is : o ≡ Some (occupant.Running request)
    pub same : request.line ≡ line

  pub let_go_runs : (line : ℕ) (o : Option (Occupant R)) → script_line o ≡ Some line → IsHeldRightly stands seat who run o → has_let_go s image (steps_of line run) ≡ true → LetGo line o
  let_go_runs line None is held gone = absurd (none-some line is)
  let_go_runs line (Some (occupant.Refused number refusal)) is held gone =
      absurd (true≢false (sym gone ∙ ap (λ l. has_let_go s image (steps_of l run)) (sym (same_Some number line is)) ∙ ap (has_let_go s image) held.none))
  let_go_runs line (Some (occupant.Running r)) is held gone = record { request = r; is = refl; same = same_Some r.line line is }

-- whose a line in a slot is
pub line_whose : {R : Type 0} (stands : R → Standing) (seat : Seat) (who : Instance) (run : List Happening) (line : ℕ) (o : Option (Occupant R)) → script_line o ≡ Some line → IsHeldRightly stands seat who run o
    → (asked : Asked) → asked_by line run ≡ Some asked → asked.who ≡ who
line_whose stands seat who run line None is held asked at = absurd (none-some line is)
line_whose stands seat who run line (Some (occupant.Refused number refusal)) is held asked at =
    ap (λ (x : Asked). x.who) (same_Some asked held.begun.asked (sym at ∙ ap (λ l. asked_by l run) (sym (same_Some number line is)) ∙ held.begun.is)) ∙ held.mine
line_whose stands seat who run line (Some (occupant.Running r)) is held asked at =
    ap (λ (x : Asked). x.who) (same_Some asked held.begun.asked (sym at ∙ ap (λ l. asked_by l run) (sym (same_Some r.line line is)) ∙ held.begun.is)) ∙ held.mine

-- ---- the slots of a client

module _ {R : Type 0} (stands : R → Standing) (c : ClientView R) (sound : IsSoundClient stands c) (seat : Seat) (who : Instance) (run : List Happening)
    (held : (slot : ℕ) → IsHeldRightly stands seat who run (held_in slot c.session.slots)) (first : (slot : ℕ) → StandsFirstIf run slot c.session.lines (running_at slot c.session)) where
  under_way : (slot : ℕ) (r : Running R) → held_in slot c.session.slots ≡ Some (occupant.Running r) → IsUnderWay stands seat who run r
  under_way slot r is = subst (IsHeldRightly stands seat who run) is (held slot)

  -- a line that let go, and no way to that lock beside it
  pub gone_beside : (slot other : ℕ) (s : SiteId) (image : ℕ) (r : Running R) → held_in slot c.session.slots ≡ Some (occupant.Running r) → has_let_go s image (steps_of r.line run) ≡ true
      → WaitsForLook stands other s image c.session → ⊥
  gone_beside slot other s image r is gone waits = by (cases_eq slot other)
    where
      way : IsUnderWay stands seat who run r
      way = under_way slot r is

      by : (slot ≡ other) ⊎ (slot ≢ other) → ⊥
      by (inr differ) =
          no_way_beside stands c sound slot other s image differ (subst (StandsFirstIf run slot c.session.lines) (ap running_in is) (first slot) s image gone) waits
      by (inl same) =
          let mine : waits.request ≡ r = same_Some waits.request r (sym waits.runs ∙ ap (λ n. running_at n c.session) (sym same) ∙ ap running_in is) in
          looks_no_more s s image (stands r.request).plan
          (subst (λ b. LetsGoFirst s image b (stands r.request).plan) gone (underway_first stands seat who run s image r way))
          (ap (λ (q : Running R). is_look_at s (kind_asked (stands q.request).plan)) (sym mine) ∙ waits.wants)

  -- the request that ends a watch
  pub record Unwatches (slot : ℕ) (s : SiteId) (image : ℕ) : Type 0 where
    pub request : Running R
    pub is : held_in slot c.session.slots ≡ Some (occupant.Running request)
    pub gone : has_let_go s image (steps_of request.line run) ≡ true

  pub who_unwatches : (slot : ℕ) (s : SiteId) (image : ℕ) → op_wanted stands slot c ≡ Some (s, unwatch image) → Unwatches slot s image
  who_unwatches slot s image wanted = by (actor_at stands slot c) wanted
    where
      by : (m : Actor) → op_by stands slot c.session m ≡ Some (s, unwatch image) → Unwatches slot s image
      by actor.Nobody is = absurd (none-some (s, unwatch image) is)
      by actor.Request is =
          let w = wants stands slot c.session.lines s (unwatch image) (held_in slot c.session.slots) is in
          record { request = w.request; is = w.is; gone = unwatches_gone stands seat who run s image w.request w.why w.next (under_way slot w.request w.is) w.plan }
      by (actor.Way a) is = absurd (subst EndsNoWatch (ap (λ (p : SiteId × Op). p.1) (same_Some _ (s, unwatch image) is)) (way_keeps_watch a))
      by (actor.Release x) is = absurd (subst EndsNoWatch (ap (λ (p : SiteId × Op). p.1) (same_Some _ (s, unwatch image) is)) (release_keeps_watch x))

  -- who takes a lock is on its way to it
  pub who_takes : (slot : ℕ) (s : SiteId) (image : ℕ) → op_wanted stands slot c ≡ Some (s, lock_take image) → WaitsForLook stands slot s image c.session
  who_takes slot s image wanted = by (actor_at stands slot c) refl wanted
    where
      by : (m : Actor) → actor_at stands slot c ≡ m → op_by stands slot c.session m ≡ Some (s, lock_take image) → WaitsForLook stands slot s image c.session
      by actor.Nobody acts is = absurd (none-some (s, lock_take image) is)
      by actor.Request acts is =
          let w = wants stands slot c.session.lines s (lock_take image) (held_in slot c.session.slots) is in
          let way = under_way slot w.request w.is in
          absurd (walks_take_none seat way.begun.asked.command way.start way.feds (steps_of w.request.line run) s w.why (lock_take image) w.next way.plan
          (subst (IsWalk way.start.labels way.start.plan way.feds (steps_of w.request.line run)) w.plan way.walk))
      by (actor.Way a) acts is =
          let same = same_Some _ (s, lock_take image) is in
          subst (λ t. WaitsForLook stands slot t image c.session) (ap (λ (p : SiteId × Op). p.0) same)
          (subst (λ i. WaitsForLook stands slot a.site i c.session) (takes_own a.stage a.image image (ap (λ (p : SiteId × Op). p.1) same)) (way_waits stands slot c a sound acts))
      by (actor.Release x) acts is = absurd (subst TakesNoLock (ap (λ (p : SiteId × Op). p.1) (same_Some _ (s, lock_take image) is)) (release_takes_none x))

  pub none_takes_beside : (slot there : ℕ) (s : SiteId) (image : ℕ) → op_wanted stands slot c ≡ Some (s, unwatch image) → op_wanted stands there c ≡ Some (s, lock_take image) → ⊥
  none_takes_beside slot there s image ends takes =
      let u = who_unwatches slot s image ends in gone_beside slot there s image u.request u.is u.gone (who_takes there s image takes)

  -- and nobody goes on a way to it
  pub ways_spared : (slot x : ℕ) (s : SiteId) (image : ℕ) (a : Acquire) → op_wanted stands slot c ≡ Some (s, unwatch image) → (slot_state x c.slots).way ≡ way.On a → a.site ≡ s → a.image ≡ image → ⊥
  ways_spared slot x s image a ends on there same =
      let u = who_unwatches slot s image ends in
      gone_beside slot x s image u.request u.is u.gone
      (subst (λ t. WaitsForLook stands x t image c.session) there
      (subst (λ i. WaitsForLook stands x a.site i c.session) same (subst (λ w. IsWellOnWay stands x w c.session c.locks) on (sound.ways x))))

-- ---- its answer

or_true : (b : Bool) → (b || true) ≡ true
or_true true = refl
or_true false = refl

lines_then : {R : Type 0} (stands : R → Standing) (slot : ℕ) (labels : Label → Plan) (plan : Plan) (t : Track) (result : Option Reply) (r q : Running R) (lines : LinesView) → result ≡ None
    → AdvancesTo stands slot labels plan t result r q lines → lines_of lines ≡ t.lines
lines_then stands slot labels (Return reply) t result r q lines none comes = absurd (none-some reply (sym none ∙ comes.reply))
lines_then stands slot labels (Ask s why o next) t result r q lines none comes = ap (λ (x : Track). x.lines) comes.track
lines_then stands slot labels (Await w next) t result r q lines none comes = ap (λ (x : Track). x.lines) comes.track
lines_then stands slot labels (Note s image event next) t result r q lines none comes = ap (λ (x : Track). x.lines) comes.track
lines_then stands slot labels (Goto label) t result r q lines none comes = ap (λ (x : Track). x.lines) comes.track

module _ {R : Type 0} (stands : R → Standing) (seat : Seat) (who : Instance) (run : List Happening) (slot : ℕ) (r : Running R) (way : IsUnderWay stands seat who run r)
    (s : SiteId) (why : Reason) (o : Op) (next : Answer → Plan) (asks : (stands r.request).plan ≡ Ask s why o next) (a : Answer) (before after : LinesView) where
  -- who let go stays where it stands, up to its end
  pub first_behind : (result : Option Reply) (q : Running R) → ComesToIn stands slot before (fed.Answer a) result r (Some (occupant.Running q)) after
      → ((t : SiteId) (i : ℕ) → lets_lock_go s o a t i ≡ true → StandsFirst slot (lines_of before t i)) → StandsFirstIf run slot before (Some r)
      → (t : SiteId) (i : ℕ) → has_let_go t i (steps_of r.line run ++ record { site = s; op = o; answer = a } ∷ []) ≡ true → StandsFirst slot (lines_of after t i)
  first_behind result q comes drops first t i gone =
      by (has_let_go t i (steps_of r.line run)) refl
      (sym (list_any-append (λ (d : Answered). lets_lock_go d.site d.op d.answer t i) (steps_of r.line run) (record { site = s; op = o; answer = a } ∷ [])) ∙ gone)
    where
      lets_first : LetsGoFirst t i (has_let_go t i (steps_of r.line run)) (Ask s why o next)
      lets_first = subst (LetsGoFirst t i (has_let_go t i (steps_of r.line run))) asks (underway_first stands seat who run t i r way)

      same : LetsGoFirst t i true (next a) → IsNoLook o → lines_of after ≡ lines_of before
      same goes none =
          lines_then stands slot (stands r.request).labels (at_operation (stands r.request).labels (plan_after (stands r.request).plan (fed.Answer a))) _ result r q after comes.0 comes.1
          ∙ ap (λ p. (run_on slot (plan_after p (fed.Answer a)) (fed_by slot r.extent (track_of r before) p (fed.Answer a))).lines) asks
          ∙ ap (λ (x : Track). (run_on slot (next a) x).lines) (blind_stays slot r.extent (track_of r before) s o a none)
          ∙ ap (λ (x : Track). x.lines) (runs_still t i slot (next a) (track_of r before) goes)

      by : (b : Bool) → has_let_go t i (steps_of r.line run) ≡ b → (b || (lets_lock_go s o a t i || false)) ≡ true → StandsFirst slot (lines_of after t i)
      by true already more =
          let there = subst (λ b. LetsGoFirst t i b (Ask s why o next)) already lets_first in
          subst (λ (ls : Lines). StandsFirst slot (ls t i)) (sym (same (subst (λ b. LetsGoFirst t i b (next a)) (or_true (lets_lock_go s o a t i)) (there.1 a)) there.0.1)) (first t i already)
      by false yet more =
          let lets = sym (or-false (lets_lock_go s o a t i)) ∙ more in
          subst (λ (ls : Lines). StandsFirst slot (ls t i))
          (sym (same (subst (λ b. LetsGoFirst t i (b || has_let_go t i (steps_of r.line run)) (next a)) lets (lets_first.1 a)) (lets_go_blind s o a t i lets))) (drops t i lets)
