-- What the requests of a client know once who acts at a slot was answered.
use Rattle.std.proofs.Common.{◌≡◌, ◌≢◌, ◌⊎◌, inl, inr, ℕ, ◌==◌, cond, Bool, true, false, Option, Some, None, refl, sym, ap, subst}
use Rattle.std.specs.Prelude.{is_some}
use Rattle.std.proofs.lemmas.Bool.{cases_eq, eq-eqb, ne_eqb}
use Rattle.rbd_client.specs.declared.actor.Actor.{Actor}
use Rattle.rbd_client.specs.declared.actor.Actor.TheVariants as actor
use Rattle.rbd_client.specs.Actor.{actor_at, op_by, op_wanted}
use Rattle.rbd_client.specs.Client.{ClientView}
use Rattle.rbd_client.specs.Feeding.{CanGet, GoesItsWay, IsFedBy}
use Rattle.rbd_client.specs.Sound.{IsSoundClient}
use Rattle.rbd_client.proofs.OnWay.{way_waits}
use Rattle.rbd_knowledge.specs.ClientsKnowing.{knows_fed, knows_on_way, plan_in_slot}
use Rattle.rbd_kinds.specs.declared.id.SiteId.{SiteId}
use Rattle.rbd_kinds.specs.declared.machine.Fed.{Fed}
use Rattle.rbd_kinds.specs.declared.operation.Op.{Op}
use Rattle.rbd_kinds.specs.declared.reply.Reply.{Reply}
use Rattle.rbd_knowledge.specs.Knowing.{AllKnow, KeepsTurns, KnowsIn, knows_after}
use Rattle.rbd_knowledge.proofs.Behind.{fed_know, others_know}
use Rattle.rbd_knowledge.proofs.Turning.{ended_keeps_turns}
use Rattle.rbd_knowledge.proofs.Wanting.{wants}
use Rattle.rbd_machine.specs.Answers.{CanBeFed}
use Rattle.rbd_machine.specs.Knowledge.{Knowledge, nothing_known}
use Rattle.rbd_machine.specs.Possible.{IsFedPossible}
use Rattle.rbd_machine.specs.Standalone.{IsFedStandalone}
use Rattle.rbd_machine.specs.Plan.{Plan, Standing}
use Rattle.rbd_lock.specs.declared.acquire.Acquire.{Acquire}
use Rattle.rbd_slots.specs.Advance.{track_of}
use Rattle.rbd_slots.specs.Lines.{lines_of}
use Rattle.rbd_slots.specs.OnTrack.{LeavesOthers}
use Rattle.rbd_slots.specs.Session.{IsAnswered, IsSoundSession, OfRunning, held_in, running_at, running_in}

-- ---- a request that is refused on its way

-- what each of them knows is what it knew, or nothing
pub less_known : (knows : ℕ → Knowledge) (slot : ℕ) (result : Option Reply) (x : ℕ) → (knows_on_way knows slot result x ≡ knows x) ⊎ (knows_on_way knows slot result x ≡ nothing_known)
less_known knows slot None x = by (x == slot)
  where
    by : (b : Bool) → (cond b (knows x) (knows x) ≡ knows x) ⊎ (cond b (knows x) (knows x) ≡ nothing_known)
    by true = inl refl
    by false = inl refl
less_known knows slot (Some reply) x = by (x == slot)
  where
    by : (b : Bool) → (cond b nothing_known (knows x) ≡ knows x) ⊎ (cond b nothing_known (knows x) ≡ nothing_known)
    by true = inr refl
    by false = inl refl

same_on_way : (knows : ℕ → Knowledge) (slot x : ℕ) → knows_on_way knows slot None x ≡ knows x
same_on_way knows slot x = by (x == slot)
  where
    by : (b : Bool) → cond b (knows x) (knows x) ≡ knows x
    by true = refl
    by false = refl

module _ {R : Type 0} (stands : R → Standing) (c d : ClientView R) (knows : ℕ → Knowledge) (slot : ℕ) (site : SiteId) (o : Op) (f : Fed) (result : Option Reply)
    (standalone : IsFedStandalone f) (possible : actor_at stands slot c ≡ actor.Request → IsFedPossible (knows slot) (plan_in_slot stands (running_at slot c.session)) f)
    (sound : IsSoundClient stands c) (session : IsSoundSession stands d.session) (all : AllKnow stands knows c.session)
    (slots : (other : ℕ) → other ≢ slot → held_in other d.session.slots ≡ held_in other c.session.slots)
    (leaves : LeavesOthers slot (lines_of c.session.lines) (lines_of d.session.lines)) where
  abbrev plan : Plan
  plan = plan_in_slot stands (running_at slot c.session)

  by_request : actor_at stands slot c ≡ actor.Request → op_by stands slot c.session actor.Request ≡ Some (site, o) → CanGet stands slot c.session f actor.Request
      → IsFedBy stands slot site o f result c d actor.Request → AllKnow stands (knows_after knows slot result plan f) d.session
  by_request acts is can fed =
      let w = wants stands slot c.session.lines site o (held_in slot c.session.slots) is in
      let runs = ap running_in w.is in
      subst (λ p. AllKnow stands (knows_after knows slot result p f) d.session) (sym (ap (plan_in_slot stands) runs))
      (fed_know stands c.session d.session slot w.request f result knows sound.session runs w.goes (can_of (subst (OfRunning (IsAnswered stands slot c.session.lines f)) w.is can)) standalone
      (subst (λ p. IsFedPossible (knows slot) p f) (ap (plan_in_slot stands) runs) (possible acts)) fed.fed slots leaves all)
    where
      can_of : {r : _} → IsAnswered stands slot c.session.lines f r → CanBeFed (stands r.request).plan f
      can_of answered = answered.can

  -- it is given up, and its line goes on without it
  given_up : (reply : Reply) → running_at slot d.session ≡ None → KeepsTurns slot (lines_of c.session.lines) (lines_of d.session.lines) → AllKnow stands (knows_on_way knows slot (Some reply)) d.session
  given_up reply none keeps other = by (cases_eq other slot)
    where
      by : (other ≡ slot) ⊎ (other ≢ slot) → KnowsIn stands other (running_at other d.session) d.session.lines (knows_on_way knows slot (Some reply) other)
      by (inl same) =
          subst (λ n. KnowsIn stands n (running_at n d.session) d.session.lines (knows_on_way knows slot (Some reply) n)) (sym same)
          (subst (λ r. KnowsIn stands slot r d.session.lines (knows_on_way knows slot (Some reply) slot)) (sym none) (ap (λ b. cond b nothing_known (knows slot)) (eq-eqb slot slot refl)))
      by (inr differ) =
          subst (KnowsIn stands other (running_at other d.session) d.session.lines) (sym (ap (λ b. cond b nothing_known (knows other)) (ne_eqb other slot differ)))
          (subst (λ h. KnowsIn stands other (running_in h) d.session.lines (knows other)) (sym (slots other differ))
          (others_know stands other (running_at other c.session) c.session.lines d.session.lines (knows other) (leaves other differ) (keeps other differ) (all other)))

  by_way : (a : Acquire) → actor_at stands slot c ≡ actor.Way a → (r : Option Reply) → GoesItsWay slot r c.session d.session → AllKnow stands (knows_on_way knows slot r) d.session
  by_way a acts None same =
      λ other. subst (KnowsIn stands other (running_at other d.session) d.session.lines) (sym (same_on_way knows slot other)) (subst (AllKnow stands knows) (sym same) all other)
  by_way a acts (Some reply) gives =
      let waiting = way_waits stands slot c a sound acts in
      given_up reply (ap running_in (gives.free (ap is_some waiting.runs)))
      (subst (KeepsTurns slot (lines_of c.session.lines)) (sym (gives.left waiting.request waiting.runs)) (ended_keeps_turns slot (track_of waiting.request c.session.lines)))

  pub feeding_is_known : op_wanted stands slot c ≡ Some (site, o) → CanGet stands slot c.session f (actor_at stands slot c) → IsFedBy stands slot site o f result c d (actor_at stands slot c)
      → AllKnow stands (knows_fed knows slot result plan f (actor_at stands slot c)) d.session
  feeding_is_known is can fed = by (actor_at stands slot c) refl is can fed
    where
      by : (who : Actor) → actor_at stands slot c ≡ who → op_by stands slot c.session who ≡ Some (site, o) → CanGet stands slot c.session f who → IsFedBy stands slot site o f result c d who
          → AllKnow stands (knows_fed knows slot result plan f who) d.session
      by actor.Nobody acts is can fed = absurd fed
      by actor.Request acts is can fed = by_request acts is can fed
      by (actor.Way a) acts is can fed = by_way a acts result fed.session
      by (actor.Release x) acts is can fed = subst (AllKnow stands knows) (sym fed.session) all
