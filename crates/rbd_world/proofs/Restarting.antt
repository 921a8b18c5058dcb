-- Where a stopped session begins its next life: the new client knows nothing, and its instance is
-- another than any that was stopped.
use Rattle.std.proofs.Common.{◌≡◌, ◌≢◌, ◌⊎◌, inl, inr, ℕ, ◌+◌, ◌≤◌, ◌<◌, ◌==◌, cond, true, ◌∷◌, is_some, Option, Some, None, refl, sym, ap, ◌∙◌, subst, arith}
use Rattle.std.proofs.lemmas.Bool.{eq-eqb, ne_eqb}
use Rattle.std.proofs.lemmas.Option.{same_Some}
use Rattle.rbd_client.specs.Client.{ClientView}
use Rattle.rbd_knowledge.specs.Truth.{IsTrueOf}
use Rattle.rbd_kinds.specs.declared.id.Instance.{Instance}
use Rattle.rbd_kinds.specs.declared.id.SiteId.{SiteId}
use Rattle.rbd_kinds.proofs.Instances.{same_instance_itself}
use Rattle.rbd_machine.specs.Knowledge.{Knowledge, nothing_known}
use Rattle.rbd_machine.specs.Plan.{Standing}
use Rattle.rbd_interference.specs.Ancestors.{HasReadTruly}
use Rattle.rbd_interference.proofs.Nothing.{nothing_is_read}
use Rattle.rbd_slots.specs.Session.{script_line}
use Rattle.rbd_world.specs.declared.event.Event.TheVariants as event
use Rattle.rbd_world.specs.Order.{AreWritesInOrder}
use Rattle.rbd_world.specs.Run.{Happening, Life, Restarted, flat_after, life_after, life_behind, records_after}
use Rattle.rbd_world.specs.Past.{HadNoHeader}
use Rattle.rbd_world.specs.Sound.{AreLivesOf, Holder, InSlot, Sending, IsLiving, IsRestart, IsSoundWorld, held_of, known_in, line_at}
use Rattle.rbd_world.specs.Step.{Does, DoesAtSites, IsFresh, IsFreshIf, LivesOnIf, next_life}
use Rattle.rbd_world.specs.World.{LateView, LivesView, WorldView, client_in, late_at, late_of, lives_in, records_in, running_of, sent_in, session_of_client}
use Rattle.rbd_world.proofs.Beginning.{fresh_living, fresh_runs_none, fresh_true}
use Rattle.rbd_world.proofs.Carried.{IsCarried, whole_in}
use Rattle.rbd_world.proofs.Changed.{same_or_other}
use Rattle.rbd_world.proofs.Elsewhere.{IsAs, Same, Silent, all_still, beside_still, known_but, known_there, lives_still, living_still, nothing_here, new_still}
use Rattle.rbd_world.proofs.Left.{left_on}
use Rattle.rbd_world.proofs.LetGo.{moved_releases, other_instance}
use Rattle.rbd_world.proofs.OrderedWorld.{none_in_order, order_on}
use Rattle.rbd_world.proofs.Quiet.{quiet_restarted}
use Rattle.rbd_world.proofs.Rest.{StaysTrue, same_true, still_may_come, where_standing}
use Rattle.rbd_world.proofs.Slots.{open_back, same_slots}

-- it begins a life of its own session alone
pub begins_elsewhere : (who : Instance) (m : ℕ) (l : Life) → m ≢ who.session → life_behind m (Restarted who) l ≡ l
begins_elsewhere who m l differ = ap (λ b. cond b (record { number = who.life; runs = true }) l) (ne_eqb who.session m (λ same. differ (sym same)))

-- the life of the session that begins again
pub record IsReborn {R : Type 0} (stands : R → Standing) (new : WorldView R) (session : ℕ) (l : LivesView R) : Type 0 where
  pub behind : LivesView R
  pub is : lives_in session new.lives ≡ Some behind
  pub client : ClientView R
  pub runs : behind.running ≡ Some client
  pub fresh : IsFresh (next_life l.latest) l.home client
  pub home : behind.home ≡ l.home
  pub latest : behind.latest ≡ next_life l.latest
  pub late : behind.late ≡ l.late

module _ {R : Type 0} (stands : R → Standing) (old new : WorldView R) (w : IsSoundWorld stands old) (session : ℕ) (l : LivesView R) (there : lives_in session old.lives ≡ Some l) (none : l.running ≡ None)
    (others : (m : ℕ) → m ≢ session → lives_in m new.lives ≡ lives_in m old.lives) (at_sites : DoesAtSites (Restarted (next_life l.latest)) old.sites new.sites) (born : IsReborn stands new session l) where
  abbrev next : Instance
  next = next_life l.latest

  abbrev h : Happening
  h = Restarted next

  mine : AreLivesOf w.told.run (w.told.homes session) session l
  mine = w.told.lives session l there

  stays : (s : SiteId) → StaysTrue stands old new w s (records_in s new.sites)
  stays s = same_true stands old new w s (records_in s new.sites) (at_sites.records s)

  still_elsewhere : (m : ℕ) → m ≢ session → (x : Life) → life_behind m h x ≡ x
  still_elsewhere m differ x = begins_elsewhere next m x (λ same. differ (same ∙ mine.whose))

  begun_here : (m : ℕ) → l.latest.session ≡ m → life_after m (h ∷ w.told.run) ≡ record { number = next.life; runs = true }
  begun_here m same = ap (λ b. cond b (record { number = next.life; runs = true }) (life_after m w.told.run)) (eq-eqb l.latest.session m same)

  due : IsRestart next w.told.run
  due = record {
    latest = l.latest.life;
    stopped = ap (λ i. life_after i w.told.run) mine.whose ∙ mine.life ∙ ap (λ o. record { number = l.latest.life; runs = is_some o }) none;
    next = refl;
  }

  -- ---- who is where

  gone : client_in session old.lives ≡ None
  gone = ap running_of there ∙ none

  client_here : client_in session new.lives ≡ Some born.client
  client_here = ap running_of born.is ∙ born.runs

  is_it : (m : ℕ) (q : ClientView R) → m ≡ session → client_in m new.lives ≡ Some q → born.client ≡ q
  is_it m q same is = same_Some born.client q (sym client_here ∙ ap (λ i. client_in i new.lives) (sym same) ∙ is)

  was : (m : ℕ) (q : ClientView R) → m ≢ session → client_in m new.lives ≡ Some q → client_in m old.lives ≡ Some q
  was m q differ is = sym (ap running_of (others m differ)) ∙ is

  late_same : (m x : ℕ) → late_at m x new.lives ≡ late_at m x old.lives
  late_same m x = by (same_or_other m session)
    where
      by : (m ≡ session) ⊎ (m ≢ session) → late_at m x new.lives ≡ late_at m x old.lives
      by (inr differ) = ap (λ o. sent_in x (late_of o)) (others m differ)
      by (inl same) =
          subst (λ i. late_at i x new.lives ≡ late_at i x old.lives) (sym same)
          (ap (λ o. sent_in x (late_of o)) born.is ∙ ap (sent_in x) born.late ∙ sym (ap (λ o. sent_in x (late_of o)) there))

  line_same : (m x : ℕ) → line_at m x new.lives ≡ line_at m x old.lives
  line_same m x = by (same_or_other m session)
    where
      by : (m ≡ session) ⊎ (m ≢ session) → line_at m x new.lives ≡ line_at m x old.lives
      by (inr differ) = ap (λ o. script_line (held_of x (session_of_client (running_of o)))) (others m differ)
      by (inl same) =
          subst (λ i. line_at i x new.lives ≡ line_at i x old.lives) (sym same)
          (ap (λ o. script_line (held_of x (session_of_client o))) client_here ∙ ap script_line (born.fresh.slots x) ∙ sym (ap (λ o. script_line (held_of x (session_of_client o))) gone))

  lives_now : (m : ℕ) (k : LivesView R) → lives_in m new.lives ≡ Some k → AreLivesOf (h ∷ w.told.run) (w.told.homes m) m k
  lives_now m k is = by (same_or_other m session)
    where
      here : AreLivesOf (h ∷ w.told.run) (w.told.homes session) session born.behind
      here = record {
        home_is = born.home ∙ mine.home_is;
        whose = ap (λ (i : Instance). i.session) born.latest ∙ mine.whose;
        life =
            begun_here session mine.whose ∙ ap (λ (i : Instance). record { number = i.life; runs = true }) (sym born.latest)
            ∙ ap (λ o. record { number = born.behind.latest.life; runs = is_some o }) (sym born.runs);
        latest = λ q runs. ap (λ (v : ClientView R). v.session.instance) (same_Some q born.client (sym runs ∙ born.runs)) ∙ born.fresh.instance ∙ sym born.latest;
        most = λ v late. let less : v.instance.life < born.behind.latest.life = later v late in omega (arith, less);
        older = λ v late q runs. later v late;
      }
        where
          later : (v : LateView) → born.behind.late ≡ Some v → v.instance.life < born.behind.latest.life
          later v late =
              subst (λ (i : Instance). v.instance.life < i.life) (sym born.latest)
              (let least : v.instance.life ≤ l.latest.life = mine.most v (sym born.late ∙ late) in below_next v.instance.life l.latest.life least)
            where
              below_next : (n k : ℕ) → n ≤ k → n < k + 1
              below_next n k least = omega (arith, least)

      by : (m ≡ session) ⊎ (m ≢ session) → AreLivesOf (h ∷ w.told.run) (w.told.homes m) m k
      by (inr differ) = lives_still stands (w.told.homes m) m h w.told.run (still_elsewhere m differ) k (w.told.lives m k (sym (others m differ) ∙ is))
      by (inl same) =
          subst (λ i. AreLivesOf (h ∷ w.told.run) (w.told.homes i) i k) (sym same)
          (subst (AreLivesOf (h ∷ w.told.run) (w.told.homes session) session) (same_Some born.behind k (sym born.is ∙ ap (λ i. lives_in i new.lives) (sym same) ∙ is)) here)

  -- ---- what is known then

  abbrev who_then : Holder → Instance
  who_then (InSlot m x) = cond (m == session) next (w.who (InSlot m x))
  who_then (Sending m x) = w.who (Sending m x)

  abbrev knows_then : Holder → Knowledge
  knows_then (InSlot m x) = known_but w.knows session m x
  knows_then (Sending m x) = w.knows (Sending m x)

  each_is : (g : Holder) → IsAs w.who who_then w.knows knows_then g
  each_is (Sending m x) = Same refl refl
  each_is (InSlot m x) = by (same_or_other m session)
    where
      by : (m ≡ session) ⊎ (m ≢ session) → IsAs w.who who_then w.knows knows_then (InSlot m x)
      by (inl same) = Silent (ap (λ b. cond b nothing_known (w.knows (InSlot m x))) (eq-eqb m session same))
      by (inr differ) =
          Same (ap (λ b. cond b next (w.who (InSlot m x))) (ne_eqb m session differ)) (ap (λ b. cond b nothing_known (w.knows (InSlot m x))) (ne_eqb m session differ))

  clients_now : (m : ℕ) (q : ClientView R) → client_in m new.lives ≡ Some q → (m ≡ session) ⊎ (m ≢ session) → IsLiving stands (w.told.homes m) m (h ∷ w.told.run) (known_but w.knows session m) q
  clients_now m q is (inr differ) =
      subst (λ k. IsLiving stands (w.told.homes m) m (h ∷ w.told.run) k q) (sym (known_there w.knows session m differ))
      (living_still stands (w.told.homes m) m h w.told.run (still_elsewhere m differ) (known_in w.knows m) q (λ x line at. quiet_restarted line next)
      (other_instance next q.session.instance (λ same. differ (sym (w.clients m q (was m q differ is)).whose ∙ sym same ∙ mine.whose)), λ s image. refl) (w.clients m q (was m q differ is)))
  clients_now m q is (inl same) =
      subst (λ i. IsLiving stands (w.told.homes i) i (h ∷ w.told.run) (known_but w.knows session i) q) (sym same)
      (subst (λ k. IsLiving stands (w.told.homes session) session (h ∷ w.told.run) k q) (sym (nothing_here w.knows session))
      (subst (IsLiving stands (w.told.homes session) session (h ∷ w.told.run) (λ x. nothing_known)) (is_it m q same is)
      (fresh_living stands next l.home born.client born.fresh (w.told.homes session) session (h ∷ w.told.run) mine.whose mine.home_is (begun_here next.session refl) (moved_releases next h w.told.run (same_instance_itself next)))))

  truth_now : (m : ℕ) (q : ClientView R) → client_in m new.lives ≡ Some q → (s : SiteId) → (m ≡ session) ⊎ (m ≢ session)
      → IsTrueOf s (records_in s new.sites) q.session.instance (known_but w.knows session m) q
  truth_now m q is s (inr differ) =
      subst (λ k. IsTrueOf s (records_in s new.sites) q.session.instance k q) (sym (known_there w.knows session m differ))
      ((stays s).clients q.session.instance (known_in w.knows m) q (w.truth m q (was m q differ is) s))
  truth_now m q is s (inl same) =
      subst (λ i. IsTrueOf s (records_in s new.sites) q.session.instance (known_but w.knows session i) q) (sym same)
      (subst (λ k. IsTrueOf s (records_in s new.sites) q.session.instance k q) (sym (nothing_here w.knows session))
      (subst (IsTrueOf s (records_in s new.sites) q.session.instance (λ x. nothing_known)) (is_it m q same is)
      (fresh_true stands next l.home born.client born.fresh s (records_in s new.sites) q.session.instance)))

  slot_now : (m x : ℕ) (q : ClientView R) → client_in m new.lives ≡ Some q → (m ≡ session) ⊎ (m ≢ session) → who_then (InSlot m x) ≡ q.session.instance
  slot_now m x q is (inr differ) = ap (λ b. cond b next (w.who (InSlot m x))) (ne_eqb m session differ) ∙ w.in_slots m x q (was m q differ is)
  slot_now m x q is (inl same) =
      ap (λ b. cond b next (w.who (InSlot m x))) (eq-eqb m session same) ∙ sym born.fresh.instance ∙ ap (λ (v : ClientView R). v.session.instance) (is_it m q same is)

  nobody_now : (m : ℕ) → client_in m new.lives ≡ None → (x : ℕ) → (m ≡ session) ⊎ (m ≢ session) → knows_then (InSlot m x) ≡ nothing_known
  nobody_now m is x (inl same) = ap (λ b. cond b nothing_known (w.knows (InSlot m x))) (eq-eqb m session same)
  nobody_now m is x (inr differ) =
      ap (λ b. cond b nothing_known (w.knows (InSlot m x))) (ne_eqb m session differ) ∙ w.nobody m (sym (ap running_of (others m differ)) ∙ is) x

  order_now : (m : ℕ) (q : ClientView R) → client_in m new.lives ≡ Some q → (m ≡ session) ⊎ (m ≢ session) → AreWritesInOrder stands (w.told.homes m) q.session.instance (h ∷ w.told.run) q.session
  order_now m q is (inr differ) = order_on stands old new w h due m q (was m q differ is) (λ x line at. quiet_restarted line next) (λ other writer. refl)
  order_now m q is (inl same) =
      subst (λ (v : ClientView R). AreWritesInOrder stands (w.told.homes m) v.session.instance (h ∷ w.told.run) v.session) (is_it m q same is)
      (none_in_order stands (w.told.homes m) born.client.session.instance (h ∷ w.told.run) born.client.session (fresh_runs_none stands next l.home born.client born.fresh))

  reborn_keeps : IsCarried stands old new w h
  reborn_keeps = record {
    who = who_then;
    knows = knows_then;
    carries = record {
      standing = where_standing w.told.homes w.told.run w.told.right;
      due = due;
      whole = λ s. (stays s).whole (whole_in stands old w s);
      lives = lives_now;
      clients = λ m q is. clients_now m q is (same_or_other m session);
      in_slots = λ m x q is. slot_now m x q is (same_or_other m session);
      nobody = λ m is x. nobody_now m is x (same_or_other m session);
      apart = λ line m x other y one two. w.apart line m x other y (sym (line_same m x) ∙ one) (sym (line_same other y) ∙ two);
      slots = λ line begun. same_slots old.lives new.lives line_same line (w.slots line (open_back line h w.told.run (quiet_restarted line next) begun));
      truth = λ m q is s. truth_now m q is s (same_or_other m session);
      late = λ m x. late_same m x ∙ w.late m x;
      sending = λ m x y is.
          let before = w.sending m x y (sym (late_same m x) ∙ is) in
          (before.0, still_may_come stands old new w (λ s. records_in s new.sites) stays m y _ before.1);
      was_left = λ m x y is. left_on w.told.homes x y.instance y.site y.op (w.knows (Sending m x)) h w.told.run refl (w.was_left m x y (sym (late_same m x) ∙ is));
      unsent = λ m x is. w.unsent m x (sym (late_same m x) ∙ is);
      drops = λ m x z y differ is. w.drops m x z y differ (sym (late_same m x) ∙ is);
      beside = beside_still w.who who_then w.knows knows_then (λ s. records_in s new.sites)
          (λ a g apart s. (stays s).beside (w.who a) (w.who g) (w.knows a) (w.knows g) (w.beside a g apart s)) each_is;
      none_yet = new_still w.who who_then w.knows knows_then (λ s image. HadNoHeader s image w.told.run) w.new each_is;
      reads = all_still w.who who_then w.knows knows_then (λ s. HasReadTruly s (records_after s (h ∷ w.told.run)) (flat_after s (h ∷ w.told.run))) (λ s. nothing_is_read s (records_after s (h ∷ w.told.run)) (flat_after s (h ∷ w.told.run))) w.reads each_is;
      owes = tt;
      turn = tt;
      in_order = λ m q is. order_now m q is (same_or_other m session);
    };
  }

module _ {R : Type 0} (stands : R → Standing) where
  is_reborn : (old new : WorldView R) (session : ℕ) (l : LivesView R) → lives_in session old.lives ≡ Some l → Does stands (event.Restart session) (Restarted (next_life l.latest)) old new
      → IsReborn stands new session l
  is_reborn old new session l there does =
      by (lives_in session new.lives) refl
      (subst (λ o. LivesOnIf stands (event.Restart session) (Restarted (next_life l.latest)) o (lives_in session new.lives)) there (does.named session (eq-eqb session session refl)))
    where
      by : (o : Option (LivesView R)) → lives_in session new.lives ≡ o → LivesOnIf stands (event.Restart session) (Restarted (next_life l.latest)) (Some l) o → IsReborn stands new session l
      by None is on = absurd on
      by (Some m) is on = go m.running refl on.running
        where
          go : (o : Option (ClientView R)) → m.running ≡ o → IsFreshIf (next_life l.latest) l.home o → IsReborn stands new session l
          go None runs fresh = absurd fresh
          go (Some d) runs fresh = record { behind = m; is = is; client = d; runs = runs; fresh = fresh; home = on.home; latest = on.latest; late = on.late }

  pub restarted_keeps : (old new : WorldView R) (w : IsSoundWorld stands old) (session : ℕ) (l : LivesView R) → lives_in session old.lives ≡ Some l → l.running ≡ None
      → Does stands (event.Restart session) (Restarted (next_life l.latest)) old new → DoesAtSites (Restarted (next_life l.latest)) old.sites new.sites
      → IsCarried stands old new w (Restarted (next_life l.latest))
  restarted_keeps old new w session l there none does at_sites =
      reborn_keeps stands old new w session l there none (λ m differ. does.others m (ne_eqb session m (λ same. differ (sym same)))) at_sites (is_reborn old new session l there does)
