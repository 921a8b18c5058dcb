-- What has to be shown where the client of one session goes on in its life, put together.
use Rattle.std.proofs.Common.{◌≡◌, ◌≢◌, ◌⊎◌, inl, inr, ℕ, true, false, ◌==◌, cond, [], ◌∷◌, Some, None, refl, sym, ap, ◌∙◌, subst}
use Rattle.std.proofs.lemmas.Bool.{eq-eqb, ne_eqb}
use Rattle.std.proofs.lemmas.Option.{none-some, same_Some}
use Rattle.rbd_client.specs.Client.{ClientView}
use Rattle.rbd_knowledge.specs.Truth.{IsTrueOf}
use Rattle.rbd_kinds.specs.declared.id.SiteId.{SiteId}
use Rattle.rbd_machine.specs.Knowledge.{Knowledge, is_drawn, nothing_known}
use Rattle.rbd_machine.specs.Plan.{Standing}
use Rattle.rbd_interference.specs.Ancestors.{HasReadTruly}
use Rattle.rbd_interference.specs.Beside.{AreBeside}
use Rattle.rbd_interference.proofs.Together.{beside_mutual}
use Rattle.rbd_slots.specs.Session.{held_in, script_line}
use Rattle.rbd_world.specs.LetGo.{moves_house}
use Rattle.rbd_world.specs.Order.{AreWritesInOrder, IsInTurn, IsWriterOf}
use Rattle.rbd_world.specs.Past.{HadNoHeader}
use Rattle.rbd_world.specs.Run.{Happening, Sent, flat_after, records_after, sent_after, steps_in}
use Rattle.rbd_world.specs.Sound.{AreLinesApart, AreInSlots, AreStrangers, Holder, InSlot, Sending, IsDue, IsLiving, IsSoundWorld, MayStillCome, known_in}
use Rattle.rbd_world.specs.World.{WorldView, client_in, late_at, records_in}
use Rattle.rbd_world.proofs.Carried.{HasWholeImages, IsCarried, StandFlat}
use Rattle.rbd_world.proofs.Changed.{GoesOnAs, IsLifeless, SendsNothing, client_is, clients_stay, late_stays, lives_go_on, living_on, same_or_other}
use Rattle.rbd_world.proofs.Exactly.{IsOwedFor}
use Rattle.rbd_world.proofs.Left.{left_on, stops_none}
use Rattle.rbd_world.proofs.OrderedWorld.{orders_of}
use Rattle.rbd_world.proofs.Quiet.{IsQuiet}
use Rattle.rbd_world.proofs.Watching.{EndsNone}

module _ {R : Type 0} (stands : R → Standing) (old new : WorldView R) (w : IsSoundWorld stands old) (h : Happening) (session : ℕ) (c d : ClientView R) (goes : GoesOnAs old new session c d)
    (there : client_in session old.lives ≡ Some c) (instance : d.session.instance ≡ c.session.instance) (lifeless : IsLifeless h) (sends : SendsNothing h) (knows_now : ℕ → Knowledge) where
  -- ---- what is known then

  abbrev pub knows_then : Holder → Knowledge
  knows_then (InSlot m x) = cond (m == session) (knows_now x) (w.knows (InSlot m x))
  knows_then (Sending m x) = w.knows (Sending m x)

  known_here : known_in knows_then session ≡ knows_now
  known_here = ap (λ b x. cond b (knows_now x) (w.knows (InSlot session x))) (eq-eqb session session refl)

  known_there : (m : ℕ) → m ≢ session → known_in knows_then m ≡ known_in w.knows m
  known_there m differ = ap (λ b x. cond b (knows_now x) (w.knows (InSlot m x))) (ne_eqb m session differ)

  -- who knows: a request of the client, or somebody else, who knows what he did
  data Whose (g : Holder) : Type 0 where
    Mine : (x : ℕ) → g ≡ InSlot session x → Whose g
    Others : ((x : ℕ) → AreStrangers (InSlot session x) g) → knows_then g ≡ w.knows g → Whose g

  whose : (g : Holder) → Whose g
  whose (Sending m x) = Others (λ y. tt) refl
  whose (InSlot m x) = by (same_or_other m session)
    where
      by : (m ≡ session) ⊎ (m ≢ session) → Whose (InSlot m x)
      by (inl same) = Mine x (ap (λ i. InSlot i x) same)
      by (inr differ) = Others (λ y same. differ (sym same)) (ap (λ (k : ℕ → Knowledge). k x) (known_there m differ))

  mine_knows : (x : ℕ) → knows_then (InSlot session x) ≡ knows_now x
  mine_knows x = ap (λ (k : ℕ → Knowledge). k x) known_here

  mine_is : (x : ℕ) → w.who (InSlot session x) ≡ c.session.instance
  mine_is x = w.in_slots session x c there

  module _ (beside_now : (g : Holder) (x : ℕ) → AreStrangers (InSlot session x) g → (s : SiteId) → AreBeside s (records_in s new.sites) c.session.instance (w.who g) (knows_now x) (w.knows g))
      (beside_of_others : (a g : Holder) → AreStrangers a g → (s : SiteId) → AreBeside s (records_in s new.sites) (w.who a) (w.who g) (w.knows a) (w.knows g)) where
    own_beside : (g : Holder) (x : ℕ) → AreStrangers (InSlot session x) g → knows_then g ≡ w.knows g → (s : SiteId)
        → AreBeside s (records_in s new.sites) (w.who (InSlot session x)) (w.who g) (knows_then (InSlot session x)) (knows_then g)
    own_beside g x apart same s =
        subst (λ i. AreBeside s (records_in s new.sites) i (w.who g) (knows_then (InSlot session x)) (knows_then g)) (sym (mine_is x))
        (subst (λ k. AreBeside s (records_in s new.sites) c.session.instance (w.who g) k (knows_then g)) (sym (mine_knows x))
        (subst (AreBeside s (records_in s new.sites) c.session.instance (w.who g) (knows_now x)) (sym same) (beside_now g x apart s)))

    beside_then : (a g : Holder) → AreStrangers a g → (s : SiteId) → AreBeside s (records_in s new.sites) (w.who a) (w.who g) (knows_then a) (knows_then g)
    beside_then a g apart s = by (whose a) (whose g)
      where
        by : Whose a → Whose g → AreBeside s (records_in s new.sites) (w.who a) (w.who g) (knows_then a) (knows_then g)
        by (Mine x one) (Mine y two) =
            absurd (subst (λ v. AreStrangers v (InSlot session y)) one (subst (AreStrangers a) two apart) refl)
        by (Mine x one) (Others strange same) =
            subst (λ v. AreBeside s (records_in s new.sites) (w.who v) (w.who g) (knows_then v) (knows_then g)) (sym one) (own_beside g x (strange x) same s)
        by (Others strange same) (Mine y two) =
            subst (λ v. AreBeside s (records_in s new.sites) (w.who a) (w.who v) (knows_then a) (knows_then v)) (sym two)
            (beside_mutual s (records_in s new.sites) (w.who (InSlot session y)) (w.who a) (knows_then (InSlot session y)) (knows_then a) (own_beside a y (strange y) same s))
        by (Others one same) (Others two also) =
            subst (λ k. AreBeside s (records_in s new.sites) (w.who a) (w.who g) k (knows_then g)) (sym same)
            (subst (AreBeside s (records_in s new.sites) (w.who a) (w.who g) (w.knows a)) (sym also) (beside_of_others a g apart s))

    -- ---- all of it

    pub goes_carries : StandFlat (h ∷ w.told.run) → (due : IsDue w.told.homes h w.told.run) → ((s : SiteId) → HasWholeImages (records_in s new.sites))
        → IsLiving stands (w.told.homes session) session (h ∷ w.told.run) knows_now d
        → ((m : ℕ) (q : ClientView R) → m ≢ session → client_in m old.lives ≡ Some q → (x line : ℕ) → script_line (held_in x q.session.slots) ≡ Some line → IsQuiet line h)
        → AreLinesApart new.lives → AreInSlots (h ∷ w.told.run) new.lives
        → ((s : SiteId) → IsTrueOf s (records_in s new.sites) d.session.instance knows_now d)
        → ((m : ℕ) (q : ClientView R) → m ≢ session → client_in m old.lives ≡ Some q → (s : SiteId) → IsTrueOf s (records_in s new.sites) q.session.instance (known_in w.knows m) q)
        → ((m x : ℕ) (y : Sent) → late_at m x old.lives ≡ Some y → MayStillCome m (λ s. records_in s new.sites) y (w.knows (Sending m x)))
        → IsOwedFor h w.told.run → IsInTurn h w.told.run
        → ((m : ℕ) (q : ClientView R) → m ≢ session → client_in m old.lives ≡ Some q → (other : ℕ) → IsWriterOf q.session.instance other (h ∷ w.told.run) → steps_in other h ≡ [])
        → AreWritesInOrder stands (w.told.homes session) d.session.instance (h ∷ w.told.run) d.session
        → ((x : ℕ) (s : SiteId) (image : ℕ) → is_drawn (knows_now x).drawn s image ≡ true → HadNoHeader s image w.told.run)
        → ((x : ℕ) (s : SiteId) → HasReadTruly s (records_after s (h ∷ w.told.run)) (flat_after s (h ∷ w.told.run)) (knows_now x))
        → ((g : Holder) → ((x : ℕ) → AreStrangers (InSlot session x) g) → (s : SiteId) → HasReadTruly s (records_after s (h ∷ w.told.run)) (flat_after s (h ∷ w.told.run)) (w.knows g))
        → ((m : ℕ) (q : ClientView R) → m ≢ session → client_in m old.lives ≡ Some q → (moves_house q.session.instance h ≡ false) × EndsNone q.session.instance h)
        → IsCarried stands old new w h
    goes_carries standing due whole living quiet apart slots truth others sending owes turn foreign order none_yet reads others_read unmoved = record {
      who = w.who;
      knows = knows_then;
      carries = record {
        standing = standing;
        due = due;
        whole = whole;
        lives = lives_go_on old new session c d goes stands w h lifeless instance;
        clients = λ m q is. client_by m q is (same_or_other m session);
        in_slots = λ m x q is. slot_by m x q is (same_or_other m session);
        nobody = λ m none x. nobody_by m none x (same_or_other m session);
        apart = apart;
        slots = slots;
        truth = λ m q is s. truth_by m q is s (same_or_other m session);
        late = λ m x. late_same m x ∙ w.late m x ∙ sym (sends m x (sent_after m x w.told.run));
        sending = λ m x y is. let before = sym (late_same m x) ∙ is in ((w.sending m x y before).0, sending m x y before);
        was_left = λ m x y is.
            left_on w.told.homes x y.instance y.site y.op (w.knows (Sending m x)) h w.told.run (stops_none h sends y.instance.session) (w.was_left m x y (sym (late_same m x) ∙ is));
        unsent = λ m x none. w.unsent m x (sym (late_same m x) ∙ none);
        drops = λ m x z y differ is. w.drops m x z y differ (sym (late_same m x) ∙ is);
        none_yet = λ g s image. new_by g s image (whose g);
        reads = λ g s. reads_by g s (whose g);
        beside = beside_then;
        owes = owes;
        turn = turn;
        in_order = orders_of stands old new w h due session (clients_stay old new session c d goes) quiet foreign
            (λ q is. subst (λ (v : ClientView R). AreWritesInOrder stands (w.told.homes session) v.session.instance (h ∷ w.told.run) v.session) (same_Some d q (sym here ∙ is)) order);
      };
    }
      where
        new_by : (g : Holder) (s : SiteId) (image : ℕ) → Whose g → is_drawn (knows_then g).drawn s image ≡ true → HadNoHeader s image w.told.run
        new_by g s image (Mine x one) drawn =
            none_yet x s image (ap (λ (k : Knowledge). is_drawn k.drawn s image) (sym (mine_knows x) ∙ ap knows_then (sym one)) ∙ drawn)
        new_by g s image (Others strange same) drawn = w.new g s image (ap (λ (k : Knowledge). is_drawn k.drawn s image) (sym same) ∙ drawn)

        reads_by : (g : Holder) (s : SiteId) → Whose g → HasReadTruly s (records_after s (h ∷ w.told.run)) (flat_after s (h ∷ w.told.run)) (knows_then g)
        reads_by g s (Mine x one) = subst (HasReadTruly s (records_after s (h ∷ w.told.run)) (flat_after s (h ∷ w.told.run))) (sym (ap knows_then one ∙ mine_knows x)) (reads x s)
        reads_by g s (Others strange same) = subst (HasReadTruly s (records_after s (h ∷ w.told.run)) (flat_after s (h ∷ w.told.run))) (sym same) (others_read g strange s)

        here : client_in session new.lives ≡ Some d
        here = client_is old new session c d goes

        late_same : (m x : ℕ) → late_at m x new.lives ≡ late_at m x old.lives
        late_same = late_stays old new session c d goes

        was : (m : ℕ) (q : ClientView R) → m ≢ session → client_in m new.lives ≡ Some q → client_in m old.lives ≡ Some q
        was m q differ is = sym (clients_stay old new session c d goes m differ) ∙ is

        mine : (m : ℕ) (q : ClientView R) → client_in m new.lives ≡ Some q → m ≡ session → d ≡ q
        mine m q is same = same_Some d q (sym here ∙ ap (λ i. client_in i new.lives) (sym same) ∙ is)

        client_by : (m : ℕ) (q : ClientView R) → client_in m new.lives ≡ Some q → (m ≡ session) ⊎ (m ≢ session) → IsLiving stands (w.told.homes m) m (h ∷ w.told.run) (known_in knows_then m) q
        client_by m q is (inl same) =
            subst (λ i. IsLiving stands (w.told.homes i) i (h ∷ w.told.run) (known_in knows_then i) q) (sym same)
            (subst (λ k. IsLiving stands (w.told.homes session) session (h ∷ w.told.run) k q) (sym known_here)
            (subst (IsLiving stands (w.told.homes session) session (h ∷ w.told.run) knows_now) (mine m q is same) living))
        client_by m q is (inr differ) =
            let before = was m q differ is in
            subst (λ k. IsLiving stands (w.told.homes m) m (h ∷ w.told.run) k q) (sym (known_there m differ))
            (living_on stands (w.told.homes m) m h w.told.run lifeless (known_in w.knows m) q (quiet m q differ before) (unmoved m q differ before) (w.clients m q before))

        slot_by : (m x : ℕ) (q : ClientView R) → client_in m new.lives ≡ Some q → (m ≡ session) ⊎ (m ≢ session) → w.who (InSlot m x) ≡ q.session.instance
        slot_by m x q is (inl same) =
            ap (λ i. w.who (InSlot i x)) same ∙ mine_is x ∙ sym instance ∙ ap (λ (v : ClientView R). v.session.instance) (mine m q is same)
        slot_by m x q is (inr differ) = w.in_slots m x q (was m q differ is)

        nobody_by : (m : ℕ) → client_in m new.lives ≡ None → (x : ℕ) → (m ≡ session) ⊎ (m ≢ session) → knows_then (InSlot m x) ≡ nothing_known
        nobody_by m none x (inl same) = absurd (none-some d (sym none ∙ ap (λ i. client_in i new.lives) same ∙ here))
        nobody_by m none x (inr differ) =
            ap (λ (k : ℕ → Knowledge). k x) (known_there m differ) ∙ w.nobody m (sym (clients_stay old new session c d goes m differ) ∙ none) x

        truth_by : (m : ℕ) (q : ClientView R) → client_in m new.lives ≡ Some q → (s : SiteId) → (m ≡ session) ⊎ (m ≢ session) → IsTrueOf s (records_in s new.sites) q.session.instance (known_in knows_then m) q
        truth_by m q is s (inl same) =
            subst (λ i. IsTrueOf s (records_in s new.sites) q.session.instance (known_in knows_then i) q) (sym same)
            (subst (λ k. IsTrueOf s (records_in s new.sites) q.session.instance k q) (sym known_here)
            (subst (λ (v : ClientView R). IsTrueOf s (records_in s new.sites) v.session.instance knows_now v) (mine m q is same) (truth s)))
        truth_by m q is s (inr differ) =
            subst (λ k. IsTrueOf s (records_in s new.sites) q.session.instance k q) (sym (known_there m differ)) (others m q differ (was m q differ is) s)
