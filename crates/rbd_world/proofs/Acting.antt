-- Who acts at a slot of a client has an operation done: what is known then, by everybody.
use Rattle.std.proofs.Common.{◌≡◌, ◌≢◌, ◌⊎◌, inl, inr, ℕ, ◌<◌, cond, false, ◌∷◌, length, Option, Some, None, refl, sym, ap, ◌∙◌, subst, ◌==◌, Bool, true}
use Rattle.std.specs.Prelude.{IsSome}
use Rattle.std.proofs.lemmas.Bool.{true≢false, eq-eqb, ne_eqb}
use Rattle.std.proofs.Math.Nat.{lt_irrefl}
use Rattle.std.proofs.lemmas.Option.{none-some, same_Some}
use Rattle.rbd_client.specs.declared.actor.Actor.{Actor}
use Rattle.rbd_client.specs.declared.actor.Actor.TheVariants as actor
use Rattle.rbd_client.specs.Actor.{actor_at, op_by, op_wanted}
use Rattle.rbd_client.specs.Client.{ClientView}
use Rattle.rbd_client.specs.Sound.{IsSoundClient}
use Rattle.rbd_client.proofs.Wanted.{can_get}
use Rattle.rbd_knowledge.specs.ClientsKnowing.{known_to, knows_fed, plan_in_slot}
use Rattle.rbd_knowledge.specs.Truth.{IsTrueOf}
use Rattle.rbd_knowledge.proofs.Answered.{answers_are_true, answers_are_true_elsewhere, unless_over}
use Rattle.rbd_knowledge.proofs.Fed.{feeding_is_known}
use Rattle.rbd_knowledge.proofs.Acts.{acts_beside_others, acts_beside_own}
use Rattle.rbd_knowledge.proofs.HeadersOwned.{acts_by_lock, knows_by_lock}
use Rattle.rbd_knowledge.proofs.Permitted.{does_what_it_may, knows_truly}
use Rattle.rbd_knowledge.proofs.Releases.{beside_release}
use Rattle.rbd_knowledge.proofs.Ways.{beside_way}
use Rattle.rbd_kinds.specs.declared.answer.Answer.{Answer}
use Rattle.rbd_kinds.specs.declared.id.Instance.{Instance}
use Rattle.rbd_kinds.specs.declared.id.SiteId.{SiteId}
use Rattle.rbd_kinds.specs.declared.machine.Fed.TheVariants as fed
use Rattle.rbd_kinds.specs.declared.operation.Op.{Op}
use Rattle.rbd_kinds.specs.declared.reply.Reply.{Reply}
use Rattle.rbd_knowledge.specs.Knowing.{AllKnow, known_behind, unless_ended}
use Rattle.rbd_knowledge.proofs.Little.{still_beside, still_read}
use Rattle.rbd_knowledge.proofs.Wanting.{wants, Wants}
use Rattle.rbd_machine.specs.Knowledge.{Knowledge, learned, nothing_known, same_site, is_drawn}
use Rattle.rbd_machine.specs.Permits.{Permits}
use Rattle.rbd_machine.specs.Plan.{Ask, Standing}
use Rattle.rbd_machine.specs.Possible.{IsFedPossible, IsPossible}
use Rattle.rbd_machine.specs.Refused.{IsGiven}
use Rattle.rbd_machine.specs.Standalone.{TellsStandalone}
use Rattle.rbd_interference.specs.Ancestors.{DrewNoneOf, HasReadTruly}
use Rattle.rbd_interference.specs.Beside.{AreBeside, MayAct}
use Rattle.rbd_interference.specs.Locks.{KnowsByLock}
use Rattle.rbd_interference.specs.Truth.{IsTrueAt, known_header}
use Rattle.rbd_interference.proofs.Elsewhere.{beside_elsewhere}
use Rattle.rbd_interference.proofs.Nothing.{nothing_is_beside, nothing_is_read}
use Rattle.rbd_interference.proofs.Possible.{answer_possible}
use Rattle.rbd_interference.proofs.Together.{beside_mutual, learned_beside}
use Rattle.rbd_slots.specs.Session.{held_in, running_at, running_in}
use Rattle.rbd_site.specs.Records.{Records}
use Rattle.rbd_site.specs.Step.{answer_to}
use Rattle.rbd_world.specs.Run.{Doer, Happening, Did, Sent, flat_after, sent_of, records_after}
use Rattle.rbd_world.specs.Past.{HadNoHeader}
use Rattle.rbd_world.specs.Sound.{AreStrangers, Holder, InSlot, Sending, IsRightlyDone, IsLiving, IsNextOf, IsOf, IsSoundWorld, MayStillCome, known_in, RecallsBy}
use Rattle.rbd_world.specs.Step.{DoesAtSites, Goes, operation_at}
use Rattle.rbd_world.specs.World.{LateView, LivesView, WorldView, client_in, late_at, late_of, lives_in, records_in, sent_in, site_in}
use Rattle.rbd_world.proofs.ReadTruly.{acted_reads}
use Rattle.rbd_world.proofs.Unborn.{IsNew, acted_drawn, learned_drawn, never_born, new_is_past, way_drawn}
use Rattle.rbd_world.proofs.AtSites.{at_either, beside_then, can_give, elsewhere_now, here_now, is_done, others_true, reads_kept, reads_learned, sending_then, stands_in, stands_then, tells_alone, whole_then}
use Rattle.rbd_world.proofs.Carried.{HasWholeImages, StandFlat}
use Rattle.rbd_world.proofs.Changed.{lives_there, same_or_other}

-- who knows no header has each by its lock
pub by_no_lock : (site : SiteId) (r : Records) (me : Instance) (k : Knowledge) → ((image : ℕ) → known_header k site image ≡ None) → KnowsByLock site r me k
by_no_lock site r me k none image is = absurd (true≢false (sym (subst IsSome (none image) is)))

module _ {R : Type 0} (stands : R → Standing) (old new : WorldView R) (w : IsSoundWorld stands old) (session slot : ℕ) (c : ClientView R) (there : client_in session old.lives ≡ Some c)
    (s : SiteId) (o : Op) (wanted : op_wanted stands slot c ≡ Some (s, o)) where
  abbrev pub acts : Actor
  acts = actor_at stands slot c

  abbrev pub me : Instance
  me = c.session.instance

  -- what the client's requests know, and what who acts goes by
  abbrev pub knew : ℕ → Knowledge
  knew = known_in w.knows session

  abbrev pub goes_by : Knowledge
  goes_by = known_to (knew slot) acts

  pub living : IsLiving stands (w.told.homes session) session w.told.run knew c
  living = w.clients session c there

  pub was_true : (t : SiteId) → IsTrueOf t (records_in t old.sites) me knew c
  was_true = w.truth session c there

  pub permits : Permits goes_by s o
  permits = does_what_it_may stands slot c knew s o living.know wanted

  pub known : (t : SiteId) → IsTrueAt t (records_in t old.sites) me goes_by
  known t = knows_truly stands slot c knew t (records_in t old.sites) me (was_true t)

  -- ---- by its locks

  pub locked : (t : SiteId) → KnowsByLock t (records_in t old.sites) me goes_by
  locked t = acts_by_lock stands c knew t (records_in t old.sites) me (was_true t) slot

  -- ---- the others

  -- who may do something besides: what he knows is true, and he is another instance
  record HoldsTruly (g : Holder) : Type 0 where
    truth : (t : SiteId) → IsTrueAt t (records_in t old.sites) (w.who g) (w.knows g)
    locks : (t : SiteId) → KnowsByLock t (records_in t old.sites) (w.who g) (w.knows g)
    other : me ≢ w.who g

  session_differs : (i : Instance) (m : ℕ) → i.session ≡ m → m ≢ session → me ≢ i
  session_differs i m is differ same = differ (sym is ∙ sym (ap (λ (x : Instance). x.session) same) ∙ living.whose)

  slot_holds : (m x : ℕ) → m ≢ session → (o : Option (ClientView R)) → client_in m old.lives ≡ o → (w.knows (InSlot m x) ≡ nothing_known) ⊎ HoldsTruly (InSlot m x)
  slot_holds m x differ None is = inl (w.nobody m is x)
  slot_holds m x differ (Some q) is =
      let theirs = w.clients m q is in
      let who_is : w.who (InSlot m x) ≡ q.session.instance = w.in_slots m x q is in
      inr (record {
        truth = λ t. subst (λ i. IsTrueAt t (records_in t old.sites) i (w.knows (InSlot m x))) (sym who_is) ((w.truth m q is t).requests x);
        locks = λ t.
            subst (λ i. KnowsByLock t (records_in t old.sites) i (w.knows (InSlot m x))) (sym who_is)
            (knows_by_lock q (known_in w.knows m) x t (records_in t old.sites) q.session.instance (w.truth m q is t));
        other = λ same. session_differs q.session.instance m theirs.whose differ (same ∙ who_is);
      })

  -- what a stopped life may still send is of an earlier life
  pub sent_differs : (m x : ℕ) (y : Sent) → late_at m x old.lives ≡ Some y → me ≢ y.instance
  sent_differs m x y is = by (same_or_other m session)
    where
      late_is : (o : Option LateView) → sent_in x o ≡ Some y → (v : LateView) → o ≡ Some v → y.instance ≡ v.instance
      late_is None is v at = absurd (none-some y is)
      late_is (Some u) is v at = by (held_in x u.wanted) is
        where
          by : (h : Option (SiteId × Op)) → sent_of u.instance h ≡ Some y → y.instance ≡ v.instance
          by None is = absurd (none-some y is)
          by (Some wants) is = ap (λ (z : Sent). z.instance) (sym (same_Some _ y is)) ∙ ap (λ (z : LateView). z.instance) (same_Some u v at)

      older : (l : LivesView R) → lives_in session old.lives ≡ Some l → l.running ≡ Some c → sent_in x l.late ≡ Some y → me ≢ y.instance
      older l at runs sent same = by l.late refl sent
        where
          by : (o : Option LateView) → l.late ≡ o → sent_in x o ≡ Some y → ⊥
          by None none sent = none-some y sent
          by (Some v) late sent =
              let lives = w.told.lives session l at in
              let less : v.instance.life < l.latest.life = lives.older v late c runs in
              let mine : v.instance ≡ l.latest = sym (late_is (Some v) sent v refl) ∙ sym same ∙ lives.latest c runs in
              lt_irrefl l.latest.life (subst (λ (i : Instance). i.life < l.latest.life) mine less)

      by : (m ≡ session) ⊎ (m ≢ session) → me ≢ y.instance
      by (inr differ) = session_differs y.instance m ((w.sending m x y is).1).whose differ
      by (inl same) =
          let has = lives_there session old.lives c there in
          older has.lives_are has.there has.runs
          (sym (ap (λ o. sent_in x (late_of o)) has.there) ∙ ap (λ i. late_at i x old.lives) (sym same) ∙ is)

  sending_holds : (m x : ℕ) (o : Option Sent) → late_at m x old.lives ≡ o → (w.knows (Sending m x) ≡ nothing_known) ⊎ HoldsTruly (Sending m x)
  sending_holds m x None is = inl (w.unsent m x is)
  sending_holds m x (Some y) is =
      let sends = w.sending m x y is in
      inr (record {
        truth = λ t. subst (λ i. IsTrueAt t (records_in t old.sites) i (w.knows (Sending m x))) (sym sends.0) (sends.1.truth t);
        locks = λ t. subst (λ i. KnowsByLock t (records_in t old.sites) i (w.knows (Sending m x))) (sym sends.0) (sends.1.locks t);
        other = λ same. sent_differs m x y is (same ∙ sends.0);
      })

  holds_truly : (x : ℕ) (g : Holder) → AreStrangers (InSlot session x) g → (w.knows g ≡ nothing_known) ⊎ HoldsTruly g
  holds_truly x (InSlot m y) differ = slot_holds m y (λ same. differ (sym same)) (client_in m old.lives) refl
  holds_truly x (Sending m y) differ = sending_holds m y (late_at m y old.lives) refl

  -- ---- who is beside whom, before

  slot_is_me : (x : ℕ) → w.who (InSlot session x) ≡ me
  slot_is_me x = w.in_slots session x c there

  was_beside : (x : ℕ) (g : Holder) → AreStrangers (InSlot session x) g → (t : SiteId) → AreBeside t (records_in t old.sites) me (w.who g) (knew x) (w.knows g)
  was_beside x g differ t = subst (λ i. AreBeside t (records_in t old.sites) i (w.who g) (knew x) (w.knows g)) (slot_is_me x) (w.beside (InSlot session x) g differ t)

  acting_beside : (t : SiteId) (r : Records) (you : Instance) (j : Knowledge) → AreBeside t r you me j (knew slot) → (m : Actor) → AreBeside t r you me j (known_to (knew slot) m)
  acting_beside t r you j beside actor.Nobody = beside_mutual t r me you nothing_known j (nothing_is_beside t r me you j)
  acting_beside t r you j beside actor.Request = beside
  acting_beside t r you j beside (actor.Way a) = beside_way t r you me j a
  acting_beside t r you j beside (actor.Release x) = beside_release t r you me j x

  pub acts_beside : (g : Holder) → AreStrangers (InSlot session slot) g → (t : SiteId) → AreBeside t (records_in t old.sites) (w.who g) me (w.knows g) goes_by
  acts_beside g differ t =
      acting_beside t (records_in t old.sites) (w.who g) (w.knows g) (beside_mutual t (records_in t old.sites) me (w.who g) (knew slot) (w.knows g) (was_beside slot g differ t)) acts

  -- and it may do what it does beside each of another instance
  pub acts_apart : (you : Instance) (j : Knowledge) → me ≢ you → KnowsByLock s (records_in s old.sites) you j → MayAct s (records_in s old.sites) me you goes_by j o
  acts_apart you j differ theirs = acts_beside_others stands c knew living.sound living.know (records_in s old.sites) me you j s (was_true s) differ theirs slot o wanted

  -- ---- it is done

  module _ (doer : Doer) (result : Option Reply) (d : ClientView R) (became : Goes stands slot (operation_at (site_in s old.sites) me doer s o) result c d)
      (at_sites : DoesAtSites (Did (operation_at (site_in s old.sites) me doer s o) result) old.sites new.sites) (sound : IsSoundClient stands d) where
    abbrev pub a : Answer
    a = answer_to (records_in s old.sites) me o

    abbrev pub does_it : Happening
    does_it = Did (operation_at (site_in s old.sites) me doer s o) result

    abbrev pub knows_now : ℕ → Knowledge
    knows_now = knows_fed knew slot result (plan_in_slot stands (running_at slot c.session)) (fed.Answer a) acts

    pub standing : StandFlat (does_it ∷ w.told.run)
    standing = stands_then stands old new w me doer s o result goes_by known permits (locked s) at_sites

    pub whole : (t : SiteId) → HasWholeImages (records_in t new.sites)
    whole = whole_then stands old new w me doer s o result goes_by known permits (locked s) at_sites

    pub can : IsGiven o a
    can = can_give stands old new w me doer s o result goes_by known permits (locked s) at_sites

    pub alone : TellsStandalone a
    alone = tells_alone stands old new w me doer s o result goes_by known permits (locked s) at_sites

    pub done_so : RecallsBy doer s o goes_by w.told.run → IsOf doer me s o w.told.run → IsNextOf doer me s o w.told.run → IsRightlyDone (operation_at (site_in s old.sites) me doer s o) w.told.run
    done_so recalls whose next = is_done stands old new w me doer s o result goes_by known permits (locked s) at_sites (λ image drawn. w.new (InSlot session slot) s image (acted_drawn (knew slot) acts s image drawn)) recalls whose next

    -- the answer is possible by what who acts knew
    possible : IsPossible goes_by s o a
    possible = answer_possible s (records_in s old.sites) me goes_by (known s) o

    -- and so is what the request is fed, where that is who acts
    possible_to_it : acts ≡ actor.Request → IsFedPossible (knew slot) (plan_in_slot stands (running_at slot c.session)) (fed.Answer a)
    possible_to_it requests =
        let asks = wants stands slot c.session.lines s o (held_in slot c.session.slots) (subst (λ m. op_by stands slot c.session m ≡ Some (s, o)) requests wanted) in
        let plan_is : plan_in_slot stands (running_at slot c.session) ≡ Ask s asks.why o asks.next = ap (λ h. plan_in_slot stands (running_in h)) asks.is ∙ asks.plan in
        subst (λ p. IsFedPossible (knew slot) p (fed.Answer a)) (sym plan_is) (subst (λ m. IsPossible (known_to (knew slot) m) s o a) requests possible)

    pub all_know : AllKnow stands knows_now d.session
    all_know =
        feeding_is_known stands c d knew slot s o (fed.Answer a) result alone possible_to_it living.sound sound.session living.know became.slots became.others wanted (can_get stands slot c s o a wanted can.can) became.fed

    pub truth_now : (t : SiteId) → IsTrueOf t (records_in t new.sites) d.session.instance knows_now d
    truth_now t = subst (λ i. IsTrueOf t (records_in t new.sites) i knows_now d) (sym became.client.instance) (at_either s (λ q. IsTrueOf q (records_in q new.sites) me knows_now d) here elsewhere t)
      where
        here : IsTrueOf s (records_in s new.sites) me knows_now d
        here =
            subst (λ r. IsTrueOf s r me knows_now d) (sym (here_now stands old new w me doer s o result goes_by known permits (locked s) at_sites))
            (answers_are_true stands c d knew slot s (records_in s old.sites) me o result wanted became.states permits (flat_after s w.told.run) (length (site_in s old.sites).log)
            (stands_in stands old new w me doer s o result goes_by known permits (locked s) at_sites s) (w.form s) (w.mapped s) living.sound living.know (was_true s) (known s)
            (λ other differ. acts_beside_own stands c knew living.sound living.know (records_in s old.sites) me me slot other s o differ wanted) became.fed)

        elsewhere : (q : SiteId) → same_site s q ≡ false → IsTrueOf q (records_in q new.sites) me knows_now d
        elsewhere q differ =
            subst (λ r. IsTrueOf q r me knows_now d) (sym (elsewhere_now stands old new w me doer s o result goes_by known permits (locked s) at_sites q differ))
            (answers_are_true_elsewhere stands c d knew slot s (records_in s old.sites) me o result wanted became.states permits q (records_in q old.sites) differ (was_true q) became.fed)

    pub truth_of_others : (m : ℕ) (q : ClientView R) → m ≢ session → client_in m old.lives ≡ Some q → (t : SiteId) → IsTrueOf t (records_in t new.sites) q.session.instance (known_in w.knows m) q
    truth_of_others m q differ is =
        others_true stands old new w me doer s o result goes_by known permits (locked s) at_sites q.session.instance (known_in w.knows m) q
        (session_differs q.session.instance m (w.clients m q is).whose differ) (w.truth m q is)
        (λ x t.
        subst (λ i. AreBeside t (records_in t old.sites) i me (w.knows (InSlot m x)) goes_by) (w.in_slots m x q is)
        (acts_beside (InSlot m x) (λ same. differ (sym same)) t))
        (λ x.
        acts_apart q.session.instance (known_in w.knows m x) (session_differs q.session.instance m (w.clients m q is).whose differ)
        (knows_by_lock q (known_in w.knows m) x s (records_in s old.sites) q.session.instance (w.truth m q is s)))

    pub sending_now : (m x : ℕ) (y : Sent) → late_at m x old.lives ≡ Some y → MayStillCome m (λ t. records_in t new.sites) y (w.knows (Sending m x))
    sending_now m x y is =
        let sends = w.sending m x y is in
        sending_then stands old new w me doer s o result goes_by known permits (locked s) at_sites m y (w.knows (Sending m x)) (sent_differs m x y is)
        (λ t. subst (λ i. AreBeside t (records_in t old.sites) i me (w.knows (Sending m x)) goes_by) sends.0 (acts_beside (Sending m x) tt t))
        (acts_apart y.instance (w.knows (Sending m x)) (sent_differs m x y is) (sends.1.locks s)) sends.1

    -- ---- who is beside whom, then

    pub beside_of_others : (h g : Holder) → AreStrangers h g → (t : SiteId) → AreBeside t (records_in t new.sites) (w.who h) (w.who g) (w.knows h) (w.knows g)
    beside_of_others h g differ = beside_then stands old new w me doer s o result goes_by known permits (locked s) at_sites (w.who h) (w.who g) (w.knows h) (w.knows g) (w.beside h g differ)

    module _ (g : Holder) (x : ℕ) (differ : AreStrangers (InSlot session x) g) where
      abbrev Beside : SiteId → Knowledge → Type 0
      Beside t k = AreBeside t (records_in t new.sites) me (w.who g) k (w.knows g)

      still : (t : SiteId) → Beside t (knew x)
      still = beside_then stands old new w me doer s o result goes_by known permits (locked s) at_sites me (w.who g) (knew x) (w.knows g) (was_beside x g differ)

      nothing : (t : SiteId) → Beside t nothing_known
      nothing t = nothing_is_beside t (records_in t new.sites) me (w.who g) (w.knows g)

      over : (t : SiteId) (k : Knowledge) → Beside t k → Beside t (unless_ended result k)
      over t k beside = unless_over (Beside t) result k (nothing t) beside

      -- a request that learns
      module _ (requests : actor.Request ≡ acts) (at_slot : x ≡ slot) where
        permits_it : Permits (knew slot) s o
        permits_it = subst (λ m. Permits (known_to (knew slot) m) s o) (sym requests) permits

        beside_slot : (t : SiteId) → AreBeside t (records_in t old.sites) me (w.who g) (knew slot) (w.knows g)
        beside_slot t = subst (λ y. AreBeside t (records_in t old.sites) me (w.who g) (knew y) (w.knows g)) at_slot (was_beside x g differ t)

        learns : HoldsTruly g → (t : SiteId) → Beside t (learned (knew slot) s o a)
        learns holds =
            at_either s (λ t. Beside t (learned (knew slot) s o a))
            (subst (λ r. AreBeside s r me (w.who g) (learned (knew slot) s o a) (w.knows g)) (sym (here_now stands old new w me doer s o result goes_by known permits (locked s) at_sites))
            (learned_beside s (records_in s old.sites) me (w.who g) (knew slot) (w.knows g) (beside_slot s) o (holds.truth s) permits_it
            (subst (λ m. MayAct s (records_in s old.sites) me (w.who g) (known_to (knew slot) m) (w.knows g) o) (sym requests)
            (acts_beside_others stands c knew living.sound living.know (records_in s old.sites) me (w.who g) (w.knows g) s (was_true s) holds.other (holds.locks s) slot o wanted))))
            (λ t apart.
            subst (λ r. AreBeside t r me (w.who g) (learned (knew slot) s o a) (w.knows g)) (sym (elsewhere_now stands old new w me doer s o result goes_by known permits (locked s) at_sites t apart))
            (beside_elsewhere s t apart (records_in t old.sites) me (w.who g) (knew slot) (w.knows g) o a (beside_slot t)))

        learned_now : (t : SiteId) → Beside t (learned (knew slot) s o a)
        learned_now t = by (holds_truly x g differ)
          where
            by : (w.knows g ≡ nothing_known) ⊎ HoldsTruly g → Beside t (learned (knew slot) s o a)
            by (inr holds) = learns holds t
            by (inl none) =
                subst (AreBeside t (records_in t new.sites) me (w.who g) (learned (knew slot) s o a)) (sym none)
                (beside_mutual t (records_in t new.sites) (w.who g) me nothing_known (learned (knew slot) s o a) (nothing_is_beside t (records_in t new.sites) (w.who g) me (learned (knew slot) s o a)))

        goes_there : (t : SiteId) → Beside t (known_behind (knew slot) (plan_in_slot stands (running_at slot c.session)) (fed.Answer a))
        goes_there t =
            let asks = wants stands slot c.session.lines s o (held_in slot c.session.slots) (subst (λ m. op_by stands slot c.session m ≡ Some (s, o)) (sym requests) wanted) in
            let plan_is : plan_in_slot stands (running_at slot c.session) ≡ Ask s asks.why o asks.next = ap (λ h. plan_in_slot stands (running_in h)) asks.is ∙ asks.plan in
            subst (λ p. Beside t (known_behind (knew slot) p (fed.Answer a))) (sym plan_is)
            (still_beside t (records_in t new.sites) me (w.who g) (w.knows g) (asks.next a) (learned (knew slot) s o a) (learned_now t))

      pub beside_now : (t : SiteId) → Beside t (knows_now x)
      beside_now t = by acts refl (same_or_other x slot)
        where
          by : (m : Actor) → m ≡ acts → (x ≡ slot) ⊎ (x ≢ slot) → Beside t (knows_fed knew slot result (plan_in_slot stands (running_at slot c.session)) (fed.Answer a) m x)
          by actor.Nobody is either = still t
          by (actor.Release r) is either = still t
          by (actor.Way y) is (inr apart) = subst (λ b. Beside t (cond b (unless_ended result (knew x)) (knew x))) (sym (ne_eqb x slot apart)) (still t)
          by (actor.Way y) is (inl same) = subst (λ b. Beside t (cond b (unless_ended result (knew x)) (knew x))) (sym (eq-eqb x slot same)) (over t (knew x) (still t))
          by actor.Request is (inr apart) =
              subst (λ b. Beside t (cond b (unless_ended result (known_behind (knew slot) (plan_in_slot stands (running_at slot c.session)) (fed.Answer a))) (knew x))) (sym (ne_eqb x slot apart)) (still t)
          by actor.Request is (inl same) =
              subst (λ b. Beside t (cond b (unless_ended result (known_behind (knew slot) (plan_in_slot stands (running_at slot c.session)) (fed.Answer a))) (knew x))) (sym (eq-eqb x slot same))
              (over t (known_behind (knew slot) (plan_in_slot stands (running_at slot c.session)) (fed.Answer a)) (goes_there is same t))

    -- ---- what the requests know then

    -- what the request in a slot knows then, by who acts and whether it is in the slot of that
    abbrev known_by : (x : ℕ) → Actor → Bool → Knowledge
    known_by x actor.Nobody b = knew x
    known_by x (actor.Release r) b = knew x
    known_by x (actor.Way y) b = cond b (unless_ended result (knew x)) (knew x)
    known_by x actor.Request b = cond b (unless_ended result (known_behind (knew slot) (plan_in_slot stands (running_at slot c.session)) (fed.Answer a))) (knew x)

    known_so : (x : ℕ) (m : Actor) → knows_fed knew slot result (plan_in_slot stands (running_at slot c.session)) (fed.Answer a) m x ≡ known_by x m (x == slot)
    known_so x actor.Nobody = refl
    known_so x (actor.Release r) = refl
    known_so x (actor.Way y) = refl
    known_so x actor.Request = refl

    -- those in other slots know what they knew
    pub others_know : (x : ℕ) → x ≢ slot → knows_now x ≡ knew x
    others_know x apart = known_so x acts ∙ ap (known_by x acts) (ne_eqb x slot apart) ∙ by acts
      where
        by : (m : Actor) → known_by x m false ≡ knew x
        by actor.Nobody = refl
        by (actor.Release r) = refl
        by (actor.Way y) = refl
        by actor.Request = refl

    -- ---- ids that they know as drawn

    -- what a request learns by the operation
    learns_new : actor.Request ≡ acts → (t : SiteId) (image : ℕ) → is_drawn (known_behind (knew slot) (plan_in_slot stands (running_at slot c.session)) (fed.Answer a)).drawn t image ≡ true → HadNoHeader t image w.told.run
    learns_new requests t image drawn = by (learned_drawn (knew slot) s t image o a (way_drawn (asks.next a) (learned (knew slot) s o a) t image (subst (λ p. is_drawn (known_behind (knew slot) p (fed.Answer a)).drawn t image ≡ true) plan_is drawn)))
      where
        asks : Wants stands slot c.session.lines s o (held_in slot c.session.slots)
        asks = wants stands slot c.session.lines s o (held_in slot c.session.slots) (subst (λ m. op_by stands slot c.session m ≡ Some (s, o)) (sym requests) wanted)

        plan_is : plan_in_slot stands (running_at slot c.session) ≡ Ask s asks.why o asks.next
        plan_is = ap (λ h. plan_in_slot stands (running_in h)) asks.is ∙ asks.plan

        by : (is_drawn (knew slot).drawn t image ≡ true) ⊎ IsNew s o a t image → HadNoHeader t image w.told.run
        by (inl was) = w.new (InSlot session slot) t image was
        by (inr new) =
            never_born w.told.homes w.told.run w.told.right t image
            (subst (λ q. (records_after q w.told.run).directory.drawn < image) new.here
            (subst (λ (r : Records). r.directory.drawn < image) (w.told.records s) (new_is_past (records_in s old.sites) me s t o image new)))

    pub new_now : (x : ℕ) (t : SiteId) (image : ℕ) → is_drawn (knows_now x).drawn t image ≡ true → HadNoHeader t image w.told.run
    new_now x t image drawn = by acts refl (x == slot) (subst (λ k. is_drawn k.drawn t image ≡ true) (known_so x acts) drawn)
      where
        still : is_drawn (knew x).drawn t image ≡ true → HadNoHeader t image w.told.run
        still drawn = w.new (InSlot session x) t image drawn

        over : (k : Knowledge) → (is_drawn k.drawn t image ≡ true → HadNoHeader t image w.told.run) → (ended : Option Reply) → is_drawn (unless_ended ended k).drawn t image ≡ true → HadNoHeader t image w.told.run
        over k goes None drawn = goes drawn
        over k goes (Some reply) drawn = absurd (true≢false (sym drawn))

        by : (m : Actor) → m ≡ acts → (b : Bool) → is_drawn (known_by x m b).drawn t image ≡ true → HadNoHeader t image w.told.run
        by actor.Nobody is b = still
        by (actor.Release r) is b = still
        by (actor.Way y) is true = over (knew x) still result
        by (actor.Way y) is false = still
        by actor.Request is true = over (known_behind (knew slot) (plan_in_slot stands (running_at slot c.session)) (fed.Answer a)) (learns_new is t image) result
        by actor.Request is false = still

    -- ---- what was read of snapshots

    abbrev Reads : SiteId → Knowledge → Type 0
    Reads t k = HasReadTruly t (records_after t (does_it ∷ w.told.run)) (flat_after t (does_it ∷ w.told.run)) k

    -- who acts drew no id of an image whose header a request of its client was told
    strange_here : (m : Actor) → DrewNoneOf s (knew slot).seen (known_to (knew slot) m)
    strange_here actor.Nobody = λ image saw. refl
    strange_here actor.Request = ((was_true s).requests slot).strange
    strange_here (actor.Way y) = (beside_way s (records_in s old.sites) me me (knew slot) y).unseen
    strange_here (actor.Release y) = (beside_release s (records_in s old.sites) me me (knew slot) y).unseen

    strange_to : (x : ℕ) → DrewNoneOf s (knew x).seen goes_by
    strange_to x = by (same_or_other x slot)
      where
        by : (x ≡ slot) ⊎ (x ≢ slot) → DrewNoneOf s (knew x).seen goes_by
        by (inl same) = subst (λ y. DrewNoneOf s (knew y).seen goes_by) (sym same) (strange_here acts)
        by (inr differ) = (acting_beside s (records_in s old.sites) me (knew x) ((was_true s).beside x slot differ) acts).unseen

    reads_still : (x : ℕ) (t : SiteId) → Reads t (knew x)
    reads_still x = reads_kept stands old new w me doer s o result goes_by known permits (locked s) at_sites (knew x) (strange_to x) (w.reads (InSlot session x))

    pub others_read : (g : Holder) → AreStrangers (InSlot session slot) g → (t : SiteId) → Reads t (w.knows g)
    others_read g differ = reads_kept stands old new w me doer s o result goes_by known permits (locked s) at_sites (w.knows g) (acts_beside g differ s).unseen (w.reads g)

    -- a request that learns
    learns_reads : actor.Request ≡ acts → (t : SiteId) → Reads t (known_behind (knew slot) (plan_in_slot stands (running_at slot c.session)) (fed.Answer a))
    learns_reads requests t =
        subst (λ p. Reads t (known_behind (knew slot) p (fed.Answer a))) (sym plan_is)
        (still_read t (records_after t (does_it ∷ w.told.run)) (flat_after t (does_it ∷ w.told.run)) (asks.next a) (learned (knew slot) s o a) learned_then)
      where
        asks : Wants stands slot c.session.lines s o (held_in slot c.session.slots)
        asks = wants stands slot c.session.lines s o (held_in slot c.session.slots) (subst (λ m. op_by stands slot c.session m ≡ Some (s, o)) (sym requests) wanted)

        plan_is : plan_in_slot stands (running_at slot c.session) ≡ Ask s asks.why o asks.next
        plan_is = ap (λ h. plan_in_slot stands (running_in h)) asks.is ∙ asks.plan

        learned_then : Reads t (learned (knew slot) s o a)
        learned_then =
            subst (λ m. Reads t (learned (known_to (knew slot) m) s o a)) (sym requests)
            (reads_learned stands old new w me doer s o result goes_by known permits (locked s) at_sites
            (λ q. acted_reads q (records_after q w.told.run) (flat_after q w.told.run) (knew slot) acts (w.reads (InSlot session slot) q)) t)

    pub reads_now : (x : ℕ) (t : SiteId) → Reads t (knows_now x)
    reads_now x t = subst (Reads t) (sym (known_so x acts)) (by acts refl (x == slot))
      where
        over : (k : Knowledge) → Reads t k → Reads t (unless_ended result k)
        over k reads = unless_over (Reads t) result k (nothing_is_read t (records_after t (does_it ∷ w.told.run)) (flat_after t (does_it ∷ w.told.run))) reads

        by : (m : Actor) → m ≡ acts → (b : Bool) → Reads t (known_by x m b)
        by actor.Nobody is b = reads_still x t
        by (actor.Release r) is b = reads_still x t
        by (actor.Way y) is true = over (knew x) (reads_still x t)
        by (actor.Way y) is false = reads_still x t
        by actor.Request is true = over (known_behind (knew slot) (plan_in_slot stands (running_at slot c.session)) (fed.Answer a)) (learns_reads is t)
        by actor.Request is false = reads_still x t
