-- What a client knows and counts is true again behind an operation of its own.
use Rattle.std.proofs.Common.{◌≡◌, ◌≢◌, ◌⊎◌, inl, inr, ℕ, ◌==◌, cond, Bool, true, false, [], Option, Some, None, refl, sym, ap, ◌∙◌, subst, true≢false}
use Rattle.std.specs.Prelude.{IsSome}
use Rattle.std.proofs.lemmas.Bool.{cases_eq, eq-eqb, ne_eqb}
use Rattle.std.proofs.lemmas.Option.{same_Some}
use Rattle.rbd_client.specs.declared.actor.Actor.{Actor}
use Rattle.rbd_client.specs.declared.actor.Actor.TheVariants as actor
use Rattle.rbd_client.specs.declared.slot_state.SlotState.{SlotState}
use Rattle.rbd_client.specs.declared.slot_state.Way.{Way}
use Rattle.rbd_client.specs.declared.slot_state.Way.TheVariants as way
use Rattle.rbd_client.specs.Actor.{actor_at, op_by, op_wanted}
use Rattle.rbd_client.specs.Client.{ClientView, slot_state}
use Rattle.rbd_client.specs.Feeding.{IsFedBy, WayComesTo, state_behind}
use Rattle.rbd_client.specs.Sound.{IsOwned, IsSoundClient}
use Rattle.rbd_flat.specs.Flat.{Flat}
use Rattle.rbd_knowledge.specs.ClientsKnowing.{known_on_way, known_to, known_to_release, knows_fed, knows_on_way, plan_in_slot}
use Rattle.rbd_knowledge.specs.Truth.{IsTrueOf, IsWayTrue}
use Rattle.rbd_client.proofs.Follows.{counted_by}
use Rattle.rbd_commands.specs.declared.quiescing.Quiescing.TheVariants as quiescing
use Rattle.rbd_knowledge.proofs.Acts.{release_may_act, way_may_act}
use Rattle.rbd_knowledge.proofs.Counted.{counted_nothing, counted_others, counted_own, counted_unless, release_removes_none, way_removes_none}
use Rattle.rbd_knowledge.proofs.Fed.{less_known}
use Rattle.rbd_knowledge.proofs.LocksHeld.{ends_elsewhere, held_behind, is_counted, owned_elsewhere, owned_then}
use Rattle.rbd_knowledge.proofs.HeadersOwned.{acts_by_lock}
use Rattle.rbd_knowledge.proofs.Told.{known_before_waits, own_before}
use Rattle.rbd_knowledge.proofs.Permitted.{asked_at}
use Rattle.rbd_knowledge.proofs.Releases.{beside_release}
use Rattle.rbd_knowledge.proofs.Ways.{beside_way, next_is_true, true_elsewhere_on_way, way_stays_true}
use Rattle.rbd_kinds.specs.declared.answer.Answer.{Answer}
use Rattle.rbd_kinds.specs.declared.id.Instance.{Instance}
use Rattle.rbd_kinds.specs.declared.id.SiteId.{SiteId}
use Rattle.rbd_kinds.specs.declared.machine.Fed.TheVariants as fed
use Rattle.rbd_kinds.specs.declared.operation.Op.{Op}
use Rattle.rbd_kinds.specs.declared.reply.Reply.{Reply}
use Rattle.rbd_knowledge.specs.Knowing.{AllKnow, known_at_operation, known_behind, knows_after, unless_ended}
use Rattle.rbd_knowledge.proofs.Little.{still_beside, still_true}
use Rattle.rbd_knowledge.proofs.Wanting.{Wants, wants}
use Rattle.rbd_lock.specs.Locks.{lock_state_at}
use Rattle.rbd_machine.specs.Knowledge.{Knowledge, learned, nothing_known, same_site}
use Rattle.rbd_machine.specs.Permits.{Permits}
use Rattle.rbd_machine.specs.Plan.{Plan, Standing}
use Rattle.rbd_lock.specs.Acquire.{op_of}
use Rattle.rbd_lock.specs.declared.acquire.Acquire.{Acquire}
use Rattle.rbd_interference.specs.Beside.{AreBeside, MayAct}
use Rattle.rbd_interference.specs.Locks.{HasLockWhileFree}
use Rattle.rbd_interference.specs.Truth.{AreMapped, IsTrueAt, known_header}
use Rattle.rbd_interference.proofs.Elsewhere.{beside_elsewhere, learned_same, true_elsewhere}
use Rattle.rbd_interference.proofs.Kept.{others_keep}
use Rattle.rbd_interference.proofs.Learned.{own_learned}
use Rattle.rbd_interference.proofs.Nothing.{nothing_is_beside, nothing_is_true}
use Rattle.rbd_interference.proofs.Together.{beside_mutual, beside_stays, learned_beside}
use Rattle.rbd_slots.specs.Session.{held_in, running_at, running_in}
use Rattle.rbd_site.specs.InForm.{AreInForm}
use Rattle.rbd_site.specs.Records.{Records}
use Rattle.rbd_site.specs.Step.{after, answer_to}
use Rattle.rbd_stands.specs.Site.{StandsFor}

-- ---- what is known, once one of the slots was answered

-- it holds of what two slots know
abbrev pub OfTwo : (P : (k j : Knowledge) → Type 0) → (knows : ℕ → Knowledge) → Type 0
OfTwo P knows = (slot other : ℕ) → slot ≢ other → P (knows slot) (knows other)

-- who has ended knows nothing
pub unless_over : (P : Knowledge → Type 0) (result : Option Reply) (k : Knowledge) → P nothing_known → P k → P (unless_ended result k)
unless_over P None k nothing goes = goes
unless_over P (Some reply) k nothing goes = nothing

-- a slot that knows something new, and the others what they knew
abbrev pub knows_new : (knows : ℕ → Knowledge) → (slot : ℕ) → Knowledge → (x : ℕ) → Knowledge
knows_new knows slot k x = cond (x == slot) k (knows x)

module _ (knows : ℕ → Knowledge) (slot : ℕ) (k : Knowledge) where
  new_here : (x : ℕ) → x ≡ slot → knows_new knows slot k x ≡ k
  new_here x same = ap (λ b. cond b k (knows x)) (eq-eqb x slot same)

  old_there : (x : ℕ) → x ≢ slot → knows_new knows slot k x ≡ knows x
  old_there x differ = ap (λ b. cond b k (knows x)) (ne_eqb x slot differ)

  pub of_each : (P : Knowledge → Type 0) → P k → ((x : ℕ) → x ≢ slot → P (knows x)) → (x : ℕ) → P (knows_new knows slot k x)
  of_each P own others x = by (cases_eq x slot)
    where
      by : (x ≡ slot) ⊎ (x ≢ slot) → P (knows_new knows slot k x)
      by (inl same) = subst P (sym (new_here x same)) own
      by (inr differ) = subst P (sym (old_there x differ)) (others x differ)

  pub of_two : (P : Knowledge → Knowledge → Type 0) → ((k j : Knowledge) → P k j → P j k) → ((x : ℕ) → x ≢ slot → P k (knows x)) → OfTwo P knows → OfTwo P (knows_new knows slot k)
  of_two P swap own others x y differ = by (cases_eq x slot) (cases_eq y slot)
    where
      by : (x ≡ slot) ⊎ (x ≢ slot) → (y ≡ slot) ⊎ (y ≢ slot) → P (knows_new knows slot k x) (knows_new knows slot k y)
      by (inl one) (inl two) = absurd (differ (one ∙ sym two))
      by (inl one) (inr two) = subst (λ q. P q (knows_new knows slot k y)) (sym (new_here x one)) (subst (P k) (sym (old_there y two)) (own y two))
      by (inr one) (inl two) = subst (P (knows_new knows slot k x)) (sym (new_here y two)) (subst (λ q. P q k) (sym (old_there x one)) (swap k (knows x) (own x one)))
      by (inr one) (inr two) = subst (λ q. P q (knows_new knows slot k y)) (sym (old_there x one)) (subst (P (knows x)) (sym (old_there y two)) (others x y differ))

-- each knows what it knew, or nothing
module _ (knows less : ℕ → Knowledge) (each : (x : ℕ) → (less x ≡ knows x) ⊎ (less x ≡ nothing_known)) where
  pub less_each : (P : Knowledge → Type 0) → P nothing_known → ((x : ℕ) → P (knows x)) → (x : ℕ) → P (less x)
  less_each P nothing all x = by (each x)
    where
      by : (less x ≡ knows x) ⊎ (less x ≡ nothing_known) → P (less x)
      by (inl same) = subst P (sym same) (all x)
      by (inr none) = subst P (sym none) nothing

  pub less_two : (P : Knowledge → Knowledge → Type 0) → ((k j : Knowledge) → P k j → P j k) → ((j : Knowledge) → P nothing_known j) → OfTwo P knows → OfTwo P less
  less_two P swap nothing all x y differ = by (each x) (each y)
    where
      by : (less x ≡ knows x) ⊎ (less x ≡ nothing_known) → (less y ≡ knows y) ⊎ (less y ≡ nothing_known) → P (less x) (less y)
      by (inr none) other = subst (λ q. P q (less y)) (sym none) (nothing (less y))
      by (inl same) (inr none) = subst (P (less x)) (sym none) (swap nothing_known (less x) (nothing (less x)))
      by (inl same) (inl also) = subst (λ q. P q (less y)) (sym same) (subst (P (knows x)) (sym also) (all x y differ))

-- ---- the client

module _ {R : Type 0} (stands : R → Standing) (c d : ClientView R) (knows : ℕ → Knowledge) (slot : ℕ) (site : SiteId) (r : Records) (me : Instance) (o : Op) (result : Option Reply)
    (is : op_wanted stands slot c ≡ Some (site, o)) (states : (other : ℕ) → other ≢ slot → slot_state other d.slots ≡ slot_state other c.slots)
    (permits : Permits (known_to (knows slot) (actor_at stands slot c)) site o) where
  abbrev a : Answer
  a = answer_to r me o

  abbrev plan : Plan
  plan = plan_in_slot stands (running_at slot c.session)

  abbrev knows_then : Actor → ℕ → Knowledge
  knows_then who = knows_fed knows slot result plan (fed.Answer a) who

  abbrev FedBy : Actor → Type 0
  FedBy who = IsFedBy stands slot site o (fed.Answer a) result c d who

  -- what a request learns by its own operation
  learns : op_by stands slot c.session actor.Request ≡ Some (site, o) → (P : Knowledge → Type 0) → P nothing_known
      → ((w : Wants stands slot c.session.lines site o (held_in slot c.session.slots)) → P (known_at_operation (learned (knows slot) site o a) (w.next a)))
      → P (unless_ended result (known_behind (knows slot) plan (fed.Answer a)))
  learns wanted P nothing of_wants =
      let w = wants stands slot c.session.lines site o (held_in slot c.session.slots) wanted in
      subst (λ p. P (unless_ended result (known_behind (knows slot) p (fed.Answer a)))) (sym (ap (plan_in_slot stands) (ap running_in w.is) ∙ w.plan))
      (unless_over P result (known_at_operation (learned (knows slot) site o a) (w.next a)) nothing (of_wants w))

  -- ---- at the site of the operation

  module _ (f : Flat) (most : ℕ) (stood : StandsFor [] r f) (form : AreInForm r most) (mapped : AreMapped r) (sound : IsSoundClient stands c) (all : AllKnow stands knows c.session) (t : IsTrueOf site r me knows c) (truly : IsTrueAt site r me (known_to (knows slot) (actor_at stands slot c)))
      (may : (other : ℕ) → slot ≢ other → MayAct site r me me (known_to (knows slot) (actor_at stands slot c)) (knows other) o) where
    abbrev now : Records
    now = after r me o

    abbrev Beside : Knowledge → Knowledge → Type 0
    Beside k j = AreBeside site now me me k j

    stay_beside : OfTwo Beside knows
    stay_beside x y differ = beside_stays site r me me me (knows x) (knows y) o (t.beside x y differ)

    module _ (wanted : op_by stands slot c.session actor.Request ≡ Some (site, o)) (known : IsTrueAt site r me (knows slot)) (allowed : Permits (knows slot) site o)
        (looks : (other : ℕ) → slot ≢ other → MayAct site r me me (knows slot) (knows other) o) where
      request_true : (x : ℕ) → IsTrueAt site now me (knows_after knows slot result plan (fed.Answer a) x)
      request_true =
          of_each knows slot (unless_ended result (known_behind (knows slot) plan (fed.Answer a))) (IsTrueAt site now me)
          (learns wanted (IsTrueAt site now me) (nothing_is_true site now me) (λ w. still_true site now me (w.next a) (learned (knows slot) site o a) (own_learned site r f (knows slot) me o most stood form mapped known allowed)))
          (λ x differ. others_keep site r (knows x) (knows slot) me me o (t.requests x) known (t.beside x slot differ) allowed (looks x (λ same. differ (sym same))))

      request_beside : OfTwo Beside (knows_after knows slot result plan (fed.Answer a))
      request_beside =
          of_two knows slot (unless_ended result (known_behind (knows slot) plan (fed.Answer a))) Beside (λ k j. beside_mutual site now me me k j)
          (λ x differ. learns wanted (λ k. Beside k (knows x)) (nothing_is_beside site now me me (knows x))
          (λ w. still_beside site now me me (knows x) (w.next a) (learned (knows slot) site o a)
          (learned_beside site r me me (knows slot) (knows x) (t.beside slot x (λ same. differ (sym same))) o (t.requests x) allowed (looks x (λ same. differ (sym same))))))
          stay_beside

    -- where another acts, each knows what it knew, or nothing
    module _ (j : Knowledge) (known : IsTrueAt site r me j) (allowed : Permits j site o) (apart : (k : Knowledge) → AreBeside site r me me k j) (acts : (x : ℕ) → MayAct site r me me j (knows x) o) where
      others_true : (x : ℕ) → IsTrueAt site now me (knows x)
      others_true x = others_keep site r (knows x) j me me o (t.requests x) known (apart (knows x)) allowed (acts x)

      way_true : (x : ℕ) → IsTrueAt site now me (knows_on_way knows slot result x)
      way_true = less_each knows (knows_on_way knows slot result) (less_known knows slot result) (IsTrueAt site now me) (nothing_is_true site now me) others_true

      way_beside : OfTwo Beside (knows_on_way knows slot result)
      way_beside =
          less_two knows (knows_on_way knows slot result) (less_known knows slot result) Beside (λ k j. beside_mutual site now me me k j) (nothing_is_beside site now me me) stay_beside

    -- ---- the ways

    kept_way : (w : Way) → IsWayTrue site r me w → IsWayTrue site now me w
    kept_way way.Unbegun on = tt
    kept_way (way.On b) on = way_stays_true site r me me b o on
    kept_way (way.Taken p) on = tt

    behind_way : (ended looked : Bool) (s : SlotState) → IsWayTrue site r me s.way → IsWayTrue site now me (state_behind ended looked s).way
    behind_way true looked s on = tt
    behind_way false true s on = tt
    behind_way false false s on = kept_way s.way on

    next_way : (b : Acquire) → asked_at b.site (op_of b) ≡ asked_at site o → (res : Option Reply) (w : Way) → WayComesTo b (fed.Answer a) res w → IsWayTrue site now me w
    next_way b asked None (way.On x) comes =
        let same : op_of b ≡ o = ap (λ (p : SiteId × Op). p.1) (same_Some (b.site, op_of b) (site, o) asked) in
        subst (λ q. IsTrueAt site (after r me q) me (known_on_way x)) same
        (next_is_true r me b x (subst (λ q. GoesOn b q x) (sym same) comes) site)
      where
        GoesOn : Acquire → Op → Acquire → Type 0
        GoesOn b q x = WayComesTo b (fed.Answer (answer_to r me q)) None (way.On x)
    next_way b asked None (way.Taken p) comes = tt
    next_way b asked None way.Unbegun comes = tt
    next_way b asked (Some reply) w comes = subst (IsWayTrue site now me) (sym comes.0) tt

    own_way : (who : Actor) → op_by stands slot c.session who ≡ Some (site, o) → FedBy who → IsWayTrue site now me (slot_state slot d.slots).way
    own_way actor.Nobody wanted fed = absurd fed
    own_way actor.Request wanted fed = subst (λ (s : SlotState). IsWayTrue site now me s.way) (sym fed.state) (behind_way _ _ (slot_state slot c.slots) (t.ways slot))
    own_way (actor.Way b) wanted fed = next_way b wanted result (slot_state slot d.slots).way fed.comes
    own_way (actor.Release x) wanted fed = subst (λ slots. IsWayTrue site now me (slot_state slot slots).way) (sym fed.slots) (kept_way (slot_state slot c.slots).way (t.ways slot))

    ways_then : (who : Actor) → op_by stands slot c.session who ≡ Some (site, o) → FedBy who → (x : ℕ) → IsWayTrue site now me (slot_state x d.slots).way
    ways_then who wanted fed x = by (cases_eq x slot)
      where
        by : (x ≡ slot) ⊎ (x ≢ slot) → IsWayTrue site now me (slot_state x d.slots).way
        by (inl same) = subst (λ n. IsWayTrue site now me (slot_state n d.slots).way) (sym same) (own_way who wanted fed)
        by (inr differ) = subst (λ (s : SlotState). IsWayTrue site now me s.way) (sym (states x differ)) (kept_way (slot_state x c.slots).way (t.ways x))

    -- ---- the locks

    locks_then : (who : Actor) → FedBy who → (image : ℕ) → IsOwned site image d.locks → HasLockWhileFree now me image
    locks_then who fed image owned = held_behind site r me (known_to (knows slot) (actor_at stands slot c)) truly (acts_by_lock stands c knows site r me t slot) image (lock_state_at site image c.locks).owned (t.locks image) o permits (counted who fed)
      where
        counted : (who : Actor) → FedBy who → owned_then site site image o a (lock_state_at site image c.locks).owned ≡ true
        counted actor.Nobody fed = absurd fed
        counted actor.Request fed = is_counted _ _ site site o a c.locks d.locks fed.counts image owned
        counted (actor.Way b) fed = is_counted quiescing.Leaves None site site o a c.locks d.locks fed.counts image owned
        counted (actor.Release x) fed = is_counted quiescing.Leaves None site site o a c.locks d.locks fed.counts image owned

    -- ---- all of it

    abbrev Counted : Knowledge → Type 0
    Counted k = (image : ℕ) → IsSome (known_header k site image) → IsOwned site image d.locks

    pub answers_are_true : FedBy (actor_at stands slot c) → IsTrueOf site now me (knows_then (actor_at stands slot c)) d
    answers_are_true is_fed = by (actor_at stands slot c) refl is is_fed truly permits may
      where
        counted_behind : actor_at stands slot c ≡ actor.Request → op_by stands slot c.session actor.Request ≡ Some (site, o) → (x : ℕ) → Counted (knows_after knows slot result plan (fed.Answer a) x)
        counted_behind acts wanted =
            of_each knows slot (unless_ended result (known_behind (knows slot) plan (fed.Answer a))) Counted
            (learns wanted Counted (counted_nothing stands c d knows sound all slot site o a result r me t is permits is_fed)
            (λ w. counted_own stands c d knows sound all slot site o a result r me t is permits is_fed acts (w.next a)))
            (counted_others stands c d knows sound all slot site o a result r me t is permits is_fed acts)

        by : (who : Actor) → actor_at stands slot c ≡ who → op_by stands slot c.session who ≡ Some (site, o) → FedBy who → IsTrueAt site r me (known_to (knows slot) who) → Permits (known_to (knows slot) who) site o
            → ((other : ℕ) → slot ≢ other → MayAct site r me me (known_to (knows slot) who) (knows other) o) → IsTrueOf site now me (knows_then who) d
        by actor.Nobody acts wanted goes known allowed looks = absurd goes
        by actor.Request acts wanted goes known allowed looks = record {
          requests = request_true wanted known allowed looks;
          beside = request_beside wanted known allowed looks;
          counted = counted_behind acts wanted;
          ways = ways_then actor.Request wanted goes;
          locks = locks_then actor.Request goes;
        }
        by (actor.Way b) acts wanted goes known allowed looks = record {
          requests = way_true (known_on_way b) known allowed (λ k. beside_way site r me me k b) (λ x. way_may_act r me me site o b wanted (knows x));
          beside = way_beside (known_on_way b) known allowed (λ k. beside_way site r me me k b) (λ x. way_may_act r me me site o b wanted (knows x));
          counted =
              less_each knows (knows_on_way knows slot result) (less_known knows slot result) Counted (counted_nothing stands c d knows sound all slot site o a result r me t is permits is_fed)
              (counted_unless stands c d knows sound all slot site o a result r me t is permits is_fed (way_removes_none stands c d knows sound all slot site o a result r me t is permits is_fed b acts));
          ways = ways_then (actor.Way b) wanted goes;
          locks = locks_then (actor.Way b) goes;
        }
        by (actor.Release x) acts wanted goes known allowed looks = record {
          requests = others_true (known_to_release x) known allowed (λ k. beside_release site r me me k x) (release_may_act stands c knows sound all r me me slot site o x acts wanted);
          beside = stay_beside;
          counted = counted_unless stands c d knows sound all slot site o a result r me t is permits is_fed (release_removes_none stands c d knows sound all slot site o a result r me t is permits is_fed x acts);
          ways = ways_then (actor.Release x) wanted goes;
          locks = locks_then (actor.Release x) goes;
        }

  -- ---- at the other site

  module _ (there : SiteId) (q : Records) (differ : same_site site there ≡ false) (t : IsTrueOf there q me knows c) where
    abbrev There : Knowledge → Knowledge → Type 0
    There k j = AreBeside there q me me k j

    learned_true : op_by stands slot c.session actor.Request ≡ Some (site, o) → (x : ℕ) → IsTrueAt there q me (knows_after knows slot result plan (fed.Answer a) x)
    learned_true wanted =
        of_each knows slot (unless_ended result (known_behind (knows slot) plan (fed.Answer a))) (IsTrueAt there q me)
        (learns wanted (IsTrueAt there q me) (nothing_is_true there q me)
        (λ w. still_true there q me (w.next a) (learned (knows slot) site o a) (true_elsewhere site there differ q me (knows slot) o a (t.requests slot))))
        (λ x apart. t.requests x)

    learned_beside_there : op_by stands slot c.session actor.Request ≡ Some (site, o) → OfTwo There (knows_after knows slot result plan (fed.Answer a))
    learned_beside_there wanted =
        of_two knows slot (unless_ended result (known_behind (knows slot) plan (fed.Answer a))) There (λ k j. beside_mutual there q me me k j)
        (λ x apart. learns wanted (λ k. There k (knows x)) (nothing_is_beside there q me me (knows x))
        (λ w. still_beside there q me me (knows x) (w.next a) (learned (knows slot) site o a)
        (beside_elsewhere site there differ q me me (knows slot) (knows x) o a (t.beside slot x (λ same. apart (sym same))))))
        t.beside

    way_behind : (ended looked : Bool) (s : SlotState) → IsWayTrue there q me s.way → IsWayTrue there q me (state_behind ended looked s).way
    way_behind true looked s on = tt
    way_behind false true s on = tt
    way_behind false false s on = on

    way_next : (b : Acquire) → asked_at b.site (op_of b) ≡ asked_at site o → (res : Option Reply) (w : Way) → WayComesTo b (fed.Answer a) res w → IsWayTrue there q me w
    way_next b asked None (way.On x) comes =
        true_elsewhere_on_way there q me x (ap (λ s. same_site s there) (comes.site ∙ ap (λ (p : SiteId × Op). p.0) (same_Some (b.site, op_of b) (site, o) asked)) ∙ differ)
    way_next b asked None (way.Taken p) comes = tt
    way_next b asked None way.Unbegun comes = tt
    way_next b asked (Some reply) w comes = subst (IsWayTrue there q me) (sym comes.0) tt

    way_there : (who : Actor) → op_by stands slot c.session who ≡ Some (site, o) → FedBy who → IsWayTrue there q me (slot_state slot d.slots).way
    way_there actor.Nobody wanted fed = absurd fed
    way_there actor.Request wanted fed = subst (λ (s : SlotState). IsWayTrue there q me s.way) (sym fed.state) (way_behind _ _ (slot_state slot c.slots) (t.ways slot))
    way_there (actor.Way b) wanted fed = way_next b wanted result (slot_state slot d.slots).way fed.comes
    way_there (actor.Release x) wanted fed = subst (λ slots. IsWayTrue there q me (slot_state slot slots).way) (sym fed.slots) (t.ways slot)

    ways_there : (who : Actor) → op_by stands slot c.session who ≡ Some (site, o) → FedBy who → (x : ℕ) → IsWayTrue there q me (slot_state x d.slots).way
    ways_there who wanted fed x = by (cases_eq x slot)
      where
        by : (x ≡ slot) ⊎ (x ≢ slot) → IsWayTrue there q me (slot_state x d.slots).way
        by (inl same) = subst (λ n. IsWayTrue there q me (slot_state n d.slots).way) (sym same) (way_there who wanted fed)
        by (inr apart) = subst (λ (s : SlotState). IsWayTrue there q me s.way) (sym (states x apart)) (t.ways x)

    locks_there : (who : Actor) → FedBy who → (image : ℕ) → IsOwned there image d.locks → HasLockWhileFree q me image
    locks_there who fed image owned = t.locks image (owned_elsewhere site there image o a (lock_state_at there image c.locks).owned differ (counted who fed))
      where
        counted : (who : Actor) → FedBy who → owned_then site there image o a (lock_state_at there image c.locks).owned ≡ true
        counted actor.Nobody fed = absurd fed
        counted actor.Request fed = is_counted _ _ site there o a c.locks d.locks fed.counts image owned
        counted (actor.Way b) fed = is_counted quiescing.Leaves None site there o a c.locks d.locks fed.counts image owned
        counted (actor.Release x) fed = is_counted quiescing.Leaves None site there o a c.locks d.locks fed.counts image owned

    -- no lock ends there
    abbrev Counts : Knowledge → Type 0
    Counts k = (image : ℕ) → IsSome (known_header k there image) → IsOwned there image d.locks

    counts_nothing : Counts nothing_known
    counts_nothing image some = absurd (true≢false (sym some))

    module _ (is_fed : FedBy (actor_at stands slot c)) where
      counts_still : (x : ℕ) → Counts (knows x)
      counts_still x image some =
          counted_by stands slot site o (fed.Answer a) result c d there image (actor_at stands slot c) is_fed (ends_elsewhere site there image o a differ) (t.counted x image some)

      counts_learned : op_by stands slot c.session actor.Request ≡ Some (site, o) → (x : ℕ) → Counts (knows_after knows slot result plan (fed.Answer a) x)
      counts_learned wanted =
          of_each knows slot (unless_ended result (known_behind (knows slot) plan (fed.Answer a))) Counts
          (learns wanted Counts counts_nothing
          (λ w image some. counts_still slot image (own_before there image (learned (knows slot) site o a) (knows slot) ((learned_same site there differ (knows slot) o a).owns image)
          (known_before_waits there image (w.next a) (learned (knows slot) site o a) some))))
          (λ x apart. counts_still x)

    pub answers_are_true_elsewhere : FedBy (actor_at stands slot c) → IsTrueOf there q me (knows_then (actor_at stands slot c)) d
    answers_are_true_elsewhere is_fed = by (actor_at stands slot c) is is_fed
      where
        by : (who : Actor) → op_by stands slot c.session who ≡ Some (site, o) → FedBy who → IsTrueOf there q me (knows_then who) d
        by actor.Nobody wanted goes = absurd goes
        by actor.Request wanted goes = record {
          requests = learned_true wanted;
          beside = learned_beside_there wanted;
          counted = counts_learned is_fed wanted;
          ways = ways_there actor.Request wanted goes;
          locks = locks_there actor.Request goes;
        }
        by (actor.Way b) wanted goes = record {
          requests = less_each knows (knows_on_way knows slot result) (less_known knows slot result) (IsTrueAt there q me) (nothing_is_true there q me) t.requests;
          beside =
              less_two knows (knows_on_way knows slot result) (less_known knows slot result) There (λ k j. beside_mutual there q me me k j) (nothing_is_beside there q me me) t.beside;
          counted = less_each knows (knows_on_way knows slot result) (less_known knows slot result) Counts counts_nothing (counts_still is_fed);
          ways = ways_there (actor.Way b) wanted goes;
          locks = locks_there (actor.Way b) goes;
        }
        by (actor.Release x) wanted goes = record {
          requests = t.requests;
          beside = t.beside;
          counted = counts_still is_fed;
          ways = ways_there (actor.Release x) wanted goes;
          locks = locks_there (actor.Release x) goes;
        }
