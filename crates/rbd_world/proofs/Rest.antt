-- Where no session changes: nothing happened, a slot waits, or the store did a step of its own.
use Rattle.std.proofs.Common.{◌≡◌, ℕ, Bool, true, false, cond, List, [], ◌∷◌, length, ◌+◌, is_some, Option, Some, None, refl, sym, ap, ◌∙◌, subst}
use Rattle.rbd_client.specs.Client.{ClientView}
use Rattle.rbd_knowledge.specs.Truth.{IsTrueOf}
use Rattle.rbd_knowledge.proofs.Others.{expiries_leave_it_true, trims_leave_it_true}
use Rattle.rbd_kinds.specs.declared.id.Instance.{Instance}
use Rattle.rbd_kinds.specs.declared.id.SiteId.{SiteId}
use Rattle.rbd_machine.specs.Knowledge.{Knowledge, same_site}
use Rattle.rbd_machine.specs.Plan.{Standing}
use Rattle.rbd_interference.specs.Ancestors.{HasReadTruly}
use Rattle.rbd_interference.specs.Beside.{AreBeside}
use Rattle.rbd_interference.specs.Locks.{KnowsByLock}
use Rattle.rbd_interference.proofs.Together.{still_beside}
use Rattle.rbd_interference.specs.Truth.{IsTrueAt}
use Rattle.rbd_interference.proofs.AncestorsKept.{told_expired, told_trimmed}
use Rattle.rbd_interference.proofs.Kept.{expiries_keep, trims_keep}
use Rattle.rbd_interference.proofs.Maps.{mapped_expired, mapped_trimmed}
use Rattle.rbd_interference.proofs.Ranked.{ranked_expired, ranked_trimmed}
use Rattle.rbd_slots.specs.Session.{script_line}
use Rattle.rbd_site.specs.Log.{expired, trimmed}
use Rattle.rbd_site.specs.Records.{Records}
use Rattle.rbd_stands.specs.Site.{StandsFor}
use Rattle.rbd_stands.proofs.StoreSteps.{expired_stands, trim_stands}
use Rattle.rbd_watch.specs.Watching.{oldest_of}
use Rattle.rbd_world.specs.declared.event.Event.{Event}
use Rattle.rbd_world.specs.LetGo.{moves_house}
use Rattle.rbd_world.specs.Order.{IsInTurn}
use Rattle.rbd_world.specs.Run.{Happening, Nothing, Waited, Trimmed, Expired, Sent, life_after, records_after, flat_after, sent_after}
use Rattle.rbd_world.specs.Sound.{AreLivesOf, IsDue, IsExpired, IsRight, IsSoundWorld, IsTrimmed, MayStillCome, Sending, held_of, known_in, line_at}
use Rattle.rbd_world.specs.Step.{Does, DoesAtSites, LivesOn, LivesOnIf, names_session, next_number}
use Rattle.rbd_world.specs.World.{LivesView, WorldView, client_in, late_at, late_of, lives_in, records_in, running_of, sent_in, session_of_client, site_in}
use Rattle.rbd_world.proofs.Carried.{HasWholeImages, IsCarried, StandFlat, whole_in}
use Rattle.rbd_world.proofs.Changed.{IsLifeless, SendsNothing, living_on}
use Rattle.rbd_world.proofs.Exactly.{IsOwedFor}
use Rattle.rbd_world.proofs.Left.{left_on, stops_none}
use Rattle.rbd_world.proofs.OrderedWorld.{order_on}
use Rattle.rbd_world.proofs.Quiet.{IsQuiet, quiet_expired, quiet_nothing, quiet_trimmed, quiet_waited}
use Rattle.rbd_world.proofs.Slots.{open_back, same_slots}
use Rattle.rbd_world.proofs.Watching.{EndsNone}

-- the sites stand for their flat sites behind each run that is right
pub where_standing : (homes : ℕ → SiteId) (run : List Happening) → IsRight homes run → StandFlat run
where_standing homes [] right s = (right s).stands
where_standing homes (h ∷ run) right s = (right.0 s).stands

module _ {R : Type 0} (stands : R → Standing) (old new : WorldView R) (w : IsSoundWorld stands old) where
  -- ---- what is known, where the records of a site change

  -- whatever is said of a site's records there stays true
  pub record StaysTrue (s : SiteId) (r : Records) : Type 0 where
    pub clients : (me : Instance) (knows : ℕ → Knowledge) (c : ClientView R) → IsTrueOf s (records_in s old.sites) me knows c → IsTrueOf s r me knows c
    pub known : (me : Instance) (k : Knowledge) → IsTrueAt s (records_in s old.sites) me k → IsTrueAt s r me k
    pub locks : (me : Instance) (k : Knowledge) → KnowsByLock s (records_in s old.sites) me k → KnowsByLock s r me k
    pub beside : (me you : Instance) (k j : Knowledge) → AreBeside s (records_in s old.sites) me you k j → AreBeside s r me you k j
    pub whole : HasWholeImages (records_in s old.sites) → HasWholeImages r

  pub same_true : (s : SiteId) (r : Records) → r ≡ records_in s old.sites → StaysTrue s r
  same_true s r same = record {
    clients = λ me knows c t. subst (λ x. IsTrueOf s x me knows c) (sym same) t;
    known = λ me k t. subst (λ x. IsTrueAt s x me k) (sym same) t;
    locks = λ me k t. subst (λ x. KnowsByLock s x me k) (sym same) t;
    beside = λ me you k j t. subst (λ x. AreBeside s x me you k j) (sym same) t;
    whole = λ t. subst HasWholeImages (sym same) t;
  }

  trim_true : (s : SiteId) (image number : ℕ) → StaysTrue s (trimmed image number (records_in s old.sites))
  trim_true s image number = record {
    clients = λ me knows c t. trims_leave_it_true s (records_in s old.sites) me knows c t image number;
    known = λ me k t. trims_keep s (records_in s old.sites) me k image number t;
    locks = λ me k t i known free. let lock = t i known free in record { header = lock.header; there = lock.there; owner = lock.owner };
    beside = λ me you k j t. still_beside s (records_in s old.sites) (trimmed image number (records_in s old.sites)) me you k j (λ other free. free) t;
    whole = λ t. record { standalone = t.standalone; mapped = mapped_trimmed (records_in s old.sites) image number t.mapped; ranked = ranked_trimmed (records_in s old.sites) image number t.ranked };
  }

  expiry_true : (s : SiteId) (image : ℕ) (who : Instance) → StaysTrue s (expired image who (records_in s old.sites))
  expiry_true s image who = record {
    clients = λ me knows c t. expiries_leave_it_true s (records_in s old.sites) me knows c t image who;
    known = λ me k t. expiries_keep s (records_in s old.sites) me k image who t;
    locks = λ me k t i known free. let lock = t i known free in record { header = lock.header; there = lock.there; owner = lock.owner };
    beside = λ me you k j t. still_beside s (records_in s old.sites) (expired image who (records_in s old.sites)) me you k j (λ other free. free) t;
    whole = λ t. record { standalone = t.standalone; mapped = mapped_expired (records_in s old.sites) image who t.mapped; ranked = ranked_expired (records_in s old.sites) image who t.ranked };
  }

  pub still_may_come : (r : SiteId → Records) → ((s : SiteId) → StaysTrue s (r s)) → (m : ℕ) (x : Sent) (k : Knowledge) → MayStillCome m (λ s. records_in s old.sites) x k → MayStillCome m r x k
  still_may_come r stays m x k may = record {
    whose = may.whose;
    permits = may.permits;
    truth = λ s. (stays s).known x.instance k (may.truth s);
    locks = λ s. (stays s).locks x.instance k (may.locks s);
  }

  -- ---- no lives change

  abbrev pub AreSame : Type 0
  AreSame = (session : ℕ) → lives_in session new.lives ≡ lives_in session old.lives

  same_of : (e : Event) (h : Happening) → ((a b : LivesView R) → LivesOn stands e h a b → b ≡ a) → (a b : Option (LivesView R)) → LivesOnIf stands e h a b → b ≡ a
  same_of e h leaves None b is = is
  same_of e h leaves (Some l) None is = absurd is
  same_of e h leaves (Some l) (Some m) is = ap Some (leaves l m is)

  pub lives_stay : (e : Event) (h : Happening) → ((a b : LivesView R) → LivesOn stands e h a b → b ≡ a) → Does stands e h old new → AreSame
  lives_stay e h leaves does session = by (names_session e h session) refl
    where
      by : (b : Bool) → names_session e h session ≡ b → lives_in session new.lives ≡ lives_in session old.lives
      by true is = same_of e h leaves (lives_in session old.lives) (lives_in session new.lives) (does.named session is)
      by false is = does.others session is

  rested : (h : Happening) → ((line : ℕ) → IsQuiet line h) → IsLifeless h → SendsNothing h → ((i : Instance) → (moves_house i h ≡ false) × EndsNone i h) → AreSame → StandFlat (h ∷ w.told.run) → IsDue w.told.homes h w.told.run → IsOwedFor h w.told.run → IsInTurn h w.told.run
      → ((s : SiteId) (k : Knowledge) → HasReadTruly s (records_after s w.told.run) (flat_after s w.told.run) k → HasReadTruly s (records_after s (h ∷ w.told.run)) (flat_after s (h ∷ w.told.run)) k)
      → ((s : SiteId) → StaysTrue s (records_in s new.sites)) → IsCarried stands old new w h
  rested h quiet lifeless sends unmoved same standing due owes turn reads stays = record {
    who = w.who;
    knows = w.knows;
    carries = record {
      standing = standing;
      due = due;
      whole = λ s. (stays s).whole (whole_in stands old w s);
      lives = λ session l is. lives_on session l (w.told.lives session l (sym (same session) ∙ is));
      clients = λ session c is.
          living_on stands (w.told.homes session) session h w.told.run lifeless (known_in w.knows session) c (λ slot line at. quiet line) (unmoved c.session.instance) (w.clients session c (client_was session c is));
      in_slots = λ session slot c is. w.in_slots session slot c (client_was session c is);
      nobody = λ session none slot. w.nobody session (sym (client_same session) ∙ none) slot;
      apart = λ line session slot other there one two. w.apart line session slot other there (sym (line_same session slot) ∙ one) (sym (line_same other there) ∙ two);
      slots = λ line begun. same_slots old.lives new.lives line_same line (w.slots line (open_back line h w.told.run (quiet line) begun));
      truth = λ session c is s. (stays s).clients c.session.instance (known_in w.knows session) c (w.truth session c (client_was session c is) s);
      late = λ session slot. late_same session slot ∙ w.late session slot ∙ sym (sends session slot (sent_after session slot w.told.run));
      sending = λ session slot x is.
          let was = w.sending session slot x (sym (late_same session slot) ∙ is) in
          (was.0, still_may_come (λ s. records_in s new.sites) stays session x _ was.1);
      was_left = λ session slot x is.
          left_on w.told.homes slot x.instance x.site x.op (w.knows (Sending session slot)) h w.told.run (stops_none h sends x.instance.session)
          (w.was_left session slot x (sym (late_same session slot) ∙ is));
      unsent = λ session slot none. w.unsent session slot (sym (late_same session slot) ∙ none);
      drops = λ session slot there x differ is. w.drops session slot there x differ (sym (late_same session slot) ∙ is);
      none_yet = w.new;
      reads = λ g s. reads s (w.knows g) (w.reads g s);
      beside = λ one other apart s. (stays s).beside (w.who one) (w.who other) (w.knows one) (w.knows other) (w.beside one other apart s);
      owes = owes;
      turn = turn;
      in_order = λ session c is. order_on stands old new w h due session c (client_was session c is) (λ slot line at. quiet line) (λ other writer. (quiet other).steps);
    };
  }
    where
      client_same : (session : ℕ) → client_in session new.lives ≡ client_in session old.lives
      client_same session = ap running_of (same session)

      client_was : (session : ℕ) (c : ClientView R) → client_in session new.lives ≡ Some c → client_in session old.lives ≡ Some c
      client_was session c is = sym (client_same session) ∙ is

      line_same : (session slot : ℕ) → line_at session slot new.lives ≡ line_at session slot old.lives
      line_same session slot = ap (λ o. script_line (held_of slot (session_of_client o))) (client_same session)

      late_same : (session slot : ℕ) → late_at session slot new.lives ≡ late_at session slot old.lives
      late_same session slot = ap (λ o. sent_in slot (late_of o)) (same session)

      lives_on : (session : ℕ) (l : LivesView R) → AreLivesOf w.told.run (w.told.homes session) session l → AreLivesOf (h ∷ w.told.run) (w.told.homes session) session l
      lives_on session l a = record {
        home_is = a.home_is;
        whose = a.whose;
        life = lifeless session (life_after session w.told.run) ∙ a.life;
        latest = a.latest;
        most = a.most;
        older = a.older;
      }

  pub nothing_keeps : (e : Event) → ((a b : LivesView R) → LivesOn stands e Nothing a b → b ≡ a) → Does stands e Nothing old new → DoesAtSites Nothing old.sites new.sites → IsCarried stands old new w Nothing
  nothing_keeps e leaves does at_sites =
      rested Nothing quiet_nothing (λ m l. refl) (λ m x o. refl) (λ i. (refl, λ s image. refl)) (lives_stay e Nothing leaves does) (where_standing w.told.homes w.told.run w.told.right) tt tt tt (λ s k was. was) (λ s. same_true s (records_in s new.sites) (at_sites.records s))

  pub waited_keeps : (e : Event) → ((a b : LivesView R) → LivesOn stands e Waited a b → b ≡ a) → Does stands e Waited old new → DoesAtSites Waited old.sites new.sites → IsCarried stands old new w Waited
  waited_keeps e leaves does at_sites =
      rested Waited quiet_waited (λ m l. refl) (λ m x o. refl) (λ i. (refl, λ s image. refl)) (lives_stay e Waited leaves does) (where_standing w.told.homes w.told.run w.told.right) tt tt tt (λ s k was. was) (λ s. same_true s (records_in s new.sites) (at_sites.records s))

  -- ---- the store trims an object that is there

  trim_due : (s : SiteId) (image object : ℕ) → is_some ((records_in s old.sites).objects image object) ≡ true
      → IsTrimmed s (next_number (site_in s old.sites)) image object w.told.run
  trim_due s image object there = record {
    is_number = ap (λ ds. length ds + 1) (w.told.logs s);
    there = sym (ap (λ (x : Records). is_some (x.objects image object)) (w.told.records s)) ∙ there;
  }

  pub trimmed_keeps : (e : Event) (site : SiteId) (image object : ℕ) → is_some ((records_in site old.sites).objects image object) ≡ true
      → ((a b : LivesView R) → LivesOn stands e (Trimmed site (next_number (site_in site old.sites)) image object) a b → b ≡ a)
      → Does stands e (Trimmed site (next_number (site_in site old.sites)) image object) old new
      → DoesAtSites (Trimmed site (next_number (site_in site old.sites)) image object) old.sites new.sites → IsCarried stands old new w (Trimmed site (next_number (site_in site old.sites)) image object)
  trimmed_keeps e site image object is_there leaves does at_sites =
      rested (Trimmed site number image object) (λ line. quiet_trimmed line site number image object) (λ m l. refl) (λ m x o. refl) (λ i. (refl, λ s image. refl)) (lives_stay e (Trimmed site number image object) leaves does)
      (λ s. stands_there s (same_site site s) (where_standing w.told.homes w.told.run w.told.right s)) (trim_due site image object is_there) tt tt (λ s k was. reads_there s (same_site site s) k was)
      (λ s. subst (StaysTrue s) (sym (at_sites.records s)) (true_there s (same_site site s)))
    where
      number : ℕ
      number = next_number (site_in site old.sites)

      stands_there : (s : SiteId) (b : Bool) → StandsFor [] (records_after s w.told.run) (flat_after s w.told.run)
          → StandsFor [] (cond b (trimmed image object (records_after s w.told.run)) (records_after s w.told.run)) (flat_after s w.told.run)
      stands_there s true stand = trim_stands [] (records_after s w.told.run) (flat_after s w.told.run) image object stand
      stands_there s false stand = stand

      true_there : (s : SiteId) (b : Bool) → StaysTrue s (cond b (trimmed image object (records_in s old.sites)) (records_in s old.sites))
      true_there s true = trim_true s image object
      true_there s false = same_true s (records_in s old.sites) refl

      reads_there : (s : SiteId) (b : Bool) (k : Knowledge) → HasReadTruly s (records_after s w.told.run) (flat_after s w.told.run) k
          → HasReadTruly s (cond b (trimmed image object (records_after s w.told.run)) (records_after s w.told.run)) (flat_after s w.told.run) k
      reads_there s true k was = told_trimmed s (records_after s w.told.run) (flat_after s w.told.run) k.seen k.told image object was
      reads_there s false k was = was

  -- ---- a watch ends

  pub expired_keeps : (e : Event) (site : SiteId) (image : ℕ) (who : Instance) → oldest_of who.session ((records_in site old.sites).watchers image) ≡ Some who
      → ((a b : LivesView R) → LivesOn stands e (Expired site (next_number (site_in site old.sites)) image who) a b → b ≡ a)
      → Does stands e (Expired site (next_number (site_in site old.sites)) image who) old new
      → DoesAtSites (Expired site (next_number (site_in site old.sites)) image who) old.sites new.sites → IsCarried stands old new w (Expired site (next_number (site_in site old.sites)) image who)
  expired_keeps e site image who oldest leaves does at_sites =
      rested (Expired site number image who) (λ line. quiet_expired line site number image who) (λ m l. refl) (λ m x o. refl) (λ i. (refl, λ s image. refl)) (lives_stay e (Expired site number image who) leaves does)
      (λ s. stands_there s (same_site site s) (where_standing w.told.homes w.told.run w.told.right s)) due tt tt (λ s k was. reads_there s (same_site site s) k was)
      (λ s. subst (StaysTrue s) (sym (at_sites.records s)) (true_there s (same_site site s)))
    where
      number : ℕ
      number = next_number (site_in site old.sites)

      due : IsExpired site number image who w.told.run
      due = record {
        is_number = ap (λ ds. length ds + 1) (w.told.logs site);
        oldest = sym (ap (λ (x : Records). oldest_of who.session (x.watchers image)) (w.told.records site)) ∙ oldest;
      }

      stands_there : (s : SiteId) (b : Bool) → StandsFor [] (records_after s w.told.run) (flat_after s w.told.run)
          → StandsFor [] (cond b (expired image who (records_after s w.told.run)) (records_after s w.told.run)) (flat_after s w.told.run)
      stands_there s true stand = expired_stands [] (records_after s w.told.run) (flat_after s w.told.run) image (Some who) stand
      stands_there s false stand = stand

      true_there : (s : SiteId) (b : Bool) → StaysTrue s (cond b (expired image who (records_in s old.sites)) (records_in s old.sites))
      true_there s true = expiry_true s image who
      true_there s false = same_true s (records_in s old.sites) refl

      reads_there : (s : SiteId) (b : Bool) (k : Knowledge) → HasReadTruly s (records_after s w.told.run) (flat_after s w.told.run) k
          → HasReadTruly s (cond b (expired image who (records_after s w.told.run)) (records_after s w.told.run)) (flat_after s w.told.run) k
      reads_there s true k was = told_expired s (records_after s w.told.run) (flat_after s w.told.run) k.seen k.told image who was
      reads_there s false k was = was
