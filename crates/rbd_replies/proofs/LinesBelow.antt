-- A line that hasn't ended stands at its next operation, or is refused before its first: so it has
-- had fewer than its row allows. And each poll of its slot that doesn't wait is a step of it.
use Rattle.std.proofs.Common.{◌≡◌, ◌⊎◌, inl, inr, ℕ, ◌||◌, cond, Bool, true, false, List, Option, Some, None, refl, sym, ap, ◌∙◌, subst}
use Rattle.std.proofs.lemmas.Bool.{eq-eqb}
use Rattle.std.proofs.lemmas.Option.{none-some, same_Some}
use Rattle.rbd_client.specs.declared.actor.Actor.{Actor}
use Rattle.rbd_client.specs.declared.actor.Actor.TheVariants as actor
use Rattle.rbd_client.specs.Actor.{actor_at}
use Rattle.rbd_client.specs.Client.{ClientView}
use Rattle.rbd_kinds.specs.declared.id.Instance.{Instance}
use Rattle.rbd_kinds.specs.declared.id.SiteId.{SiteId}
use Rattle.rbd_machine.specs.Label.{Label}
use Rattle.rbd_machine.specs.Plan.{Plan, Ask, Await, Note, Return, Goto, IsAsking, Standing}
use Rattle.rbd_catalog.specs.Profile.{profile}
use Rattle.rbd_catalog.specs.Touched.{HasAtMost}
use Rattle.rbd_slots.specs.declared.running.Occupant.{Occupant}
use Rattle.rbd_slots.specs.declared.running.Occupant.TheVariants as occupant
use Rattle.rbd_slots.specs.declared.running.Running.{Running}
use Rattle.rbd_slots.specs.Advance.{track_of}
use Rattle.rbd_slots.specs.Session.{held_in, running_in, script_line}
use Rattle.rbd_slots.specs.Waits.{waits}
use Rattle.rbd_world.specs.declared.event.Event.TheVariants as event
use Rattle.rbd_world.specs.Run.{Asked, Happening, Waited, asked_by, steps_of}
use Rattle.rbd_world.specs.Seats.{seat_at}
use Rattle.rbd_world.specs.Sound.{IsHeldRightly, IsSoundWorld, has_ended, held_of, line_at}
use Rattle.rbd_world.specs.Step.{done_by, goes_on_by, happening, polled, polled_in}
use Rattle.rbd_world.specs.World.{WorldView, client_in, session_of_client}
use Rattle.rbd_replies.proofs.Below.{begins_below, walk_stays_below}
use Rattle.rbd_replies.specs.Bounds.{IsStepFor, StaysBelow}

-- ---- fewer than the row allows

module _ {R : Type 0} (stands : R → Standing) (homes : ℕ → SiteId) (session : ℕ) (who : Instance) (whose : who.session ≡ session) (run : List Happening) (asked : Asked) (pieces : ℕ) (few : HasAtMost pieces (profile asked.command).extent) where
  abbrev IsBelow : (line : ℕ) → Asked → Type 0
  IsBelow line a = StaysBelow (homes a.who.session) a.command pieces (steps_of line run)

  -- the command that the line began is the one that its slot has
  of_begun : (line : ℕ) (begun : Asked) → begun ≡ asked → begun.who ≡ who → (HasAtMost pieces (profile begun.command).extent → StaysBelow (homes session) begun.command pieces (steps_of line run)) → IsBelow line asked
  of_begun line begun same mine below =
      subst (IsBelow line) same
      (subst (λ n. StaysBelow (homes n) begun.command pieces (steps_of line run)) (sym (ap (λ (i : Instance). i.session) mine ∙ whose))
      (below (subst (λ (a : Asked). HasAtMost pieces (profile a.command).extent) (sym same) few)))

  held_below : (line : ℕ) (o : Option (Occupant R)) → script_line o ≡ Some line → IsHeldRightly stands (seat_at homes session) who run o
      → ((r : Running R) → running_in o ≡ Some r → IsAsking (stands r.request).plan) → asked_by line run ≡ Some asked → IsBelow line asked
  held_below line None is held asks by = absurd (none-some line is)
  held_below line (Some (occupant.Refused number refusal)) is held asks by =
      let same : number ≡ line = same_Some number line is in
      subst (λ l. IsBelow l asked) same
      (of_begun number held.begun.asked (same_Some held.begun.asked asked (sym held.begun.is ∙ ap (λ l. asked_by l run) same ∙ by)) held.mine
      (λ fewer. begins_below (seat_at homes session) held.begun.asked.command held.start held.plan pieces (steps_of number run) held.none))
  held_below line (Some (occupant.Running r)) is held asks by =
      let same : r.line ≡ line = same_Some r.line line is in
      subst (λ l. IsBelow l asked) same
      (of_begun r.line held.begun.asked (same_Some held.begun.asked asked (sym held.begun.is ∙ ap (λ l. asked_by l run) same ∙ by)) held.mine
      (λ fewer. walk_stays_below (seat_at homes session) held.begun.asked.command held.start held.plan pieces fewer held.feds (steps_of r.line run) (stands r.request).plan held.given (asks r refl) held.walk))

module _ {R : Type 0} (stands : R → Standing) (w : WorldView R) (sound : IsSoundWorld stands w) (line : ℕ) (asked : Asked) (pieces : ℕ) (few : HasAtMost pieces (profile asked.command).extent) (is : asked_by line sound.told.run ≡ Some asked) where
  abbrev IsBelowHere : Type 0
  IsBelowHere = StaysBelow (sound.told.homes asked.who.session) asked.command pieces (steps_of line sound.told.run)

  pub below_in_slot : (session slot : ℕ) → line_at session slot w.lives ≡ Some line → IsBelowHere
  below_in_slot session slot at = by (client_in session w.lives) refl at
    where
      by : (o : Option (ClientView R)) → client_in session w.lives ≡ o → script_line (held_of slot (session_of_client o)) ≡ Some line → IsBelowHere
      by None there none = absurd (none-some line none)
      by (Some c) there at_line =
          let living = sound.clients session c there in
          held_below stands sound.told.homes session c.session.instance living.whose sound.told.run asked pieces few line (held_in slot c.session.slots) at_line (living.held slot)
          (λ r runs. living.sound.session.asks slot r runs) is

  pub below_open : has_ended line sound.told.run ≡ false → IsBelowHere
  below_open unended =
      let there = sound.slots line (record { asked = asked; is = is; unended = unended }) in
      below_in_slot there.session there.slot there.is

  pub ended_at_bound : (IsBelowHere → ⊥) → has_ended line sound.told.run ≡ true
  ended_at_bound reached = by (has_ended line sound.told.run) refl
    where
      by : (b : Bool) → has_ended line sound.told.run ≡ b → b ≡ true
      by true ended = refl
      by false unended = absurd (reached (below_open unended))

-- ---- polls

module _ {R : Type 0} (stands : R → Standing) (old : WorldView R) (sound : IsSoundWorld stands old) (session slot line : ℕ) where
  abbrev WaitsOrSteps : Happening → Type 0
  WaitsOrSteps h = (h ≡ Waited) ⊎ IsStepFor line h

  own_step : (who : Instance) (labels : Label → Plan) (plan : Plan) → IsAsking plan → WaitsOrSteps (done_by old.sites who line labels plan)
  own_step who labels (Ask site why op next) asks = inr (ap (λ b. b || false) (eq-eqb line line refl))
  own_step who labels (Await wait next) asks = absurd asks
  own_step who labels (Note site image event next) asks = absurd asks
  own_step who labels (Return reply) asks = absurd asks
  own_step who labels (Goto label) asks = absurd asks

  acted : (c : ClientView R) (r : Running R) → r.line ≡ line → IsAsking (stands r.request).plan → (who : Actor) → WaitsOrSteps (goes_on_by stands old.sites c slot r who)
  acted c r same asks actor.Nobody = inl refl
  acted c r same asks actor.Request = by (waits slot (track_of r c.session.lines))
    where
      by : (b : Bool) → WaitsOrSteps (cond b Waited (done_by old.sites c.session.instance r.line (stands r.request).labels (stands r.request).plan))
      by true = inl refl
      by false = subst (λ l. WaitsOrSteps (done_by old.sites c.session.instance l (stands r.request).labels (stands r.request).plan)) (sym same)
          (own_step c.session.instance (stands r.request).labels (stands r.request).plan asks)
  acted c r same asks (actor.Way a) = inr (eq-eqb r.line line same)
  acted c r same asks (actor.Release x) = inl refl

  in_slot : (c : ClientView R) (o : Option (Occupant R)) → script_line o ≡ Some line → ((r : Running R) → running_in o ≡ Some r → IsAsking (stands r.request).plan)
      → WaitsOrSteps (polled_in stands old.sites c slot o)
  in_slot c None is asks = absurd (none-some line is)
  in_slot c (Some (occupant.Refused number refusal)) is asks = inr (same_Some number line is)
  in_slot c (Some (occupant.Running r)) is asks = acted c r (same_Some r.line line is) (asks r refl) (actor_at stands slot c)

  pub poll_steps : line_at session slot old.lives ≡ Some line → WaitsOrSteps (happening stands (event.Poll session slot) old)
  poll_steps at = by (client_in session old.lives) refl at
    where
      by : (o : Option (ClientView R)) → client_in session old.lives ≡ o → script_line (held_of slot (session_of_client o)) ≡ Some line → WaitsOrSteps (polled stands old.sites slot o)
      by None there none = absurd (none-some line none)
      by (Some c) there at_line =
          in_slot c (held_in slot c.session.slots) at_line (λ r runs. (sound.clients session c there).sound.session.asks slot r runs)
