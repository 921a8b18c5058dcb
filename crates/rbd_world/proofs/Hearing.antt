-- Where an instance hears a notice: its requests stay, and it counts no lock more.
use Rattle.std.proofs.Common.{◌≡◌, ◌≢◌, ◌⊎◌, inl, inr, ℕ, true, ◌∷◌, Some, refl, sym, ap, ◌∙◌, subst}
use Rattle.rbd_client.specs.Client.{ClientView, slot_state}
use Rattle.rbd_client.specs.Sound.{IsSoundClient}
use Rattle.rbd_knowledge.specs.Truth.{IsTrueOf}
use Rattle.rbd_knowledge.proofs.Calls.{heard_is_true}
use Rattle.rbd_kinds.specs.declared.id.Instance.{Instance}
use Rattle.rbd_kinds.specs.declared.id.SiteId.{SiteId}
use Rattle.rbd_kinds.specs.declared.notice.Notice.{Notice}
use Rattle.rbd_kinds.specs.Instances.{same_instance}
use Rattle.rbd_kinds.proofs.Instances.{same_instance_is}
use Rattle.rbd_knowledge.specs.Knowing.{AllKnow}
use Rattle.rbd_lock.specs.declared.lock_state.LockState.{LockState}
use Rattle.rbd_lock.specs.Locks.{lock_state_at}
use Rattle.rbd_machine.specs.Knowledge.{Knowledge}
use Rattle.rbd_machine.specs.Plan.{Standing}
use Rattle.rbd_interference.specs.Beside.{AreBeside}
use Rattle.rbd_slots.specs.Session.{SessionView, held_in, running_at, script_line}
use Rattle.rbd_watch.specs.Posting.{notice_numbered}
use Rattle.rbd_world.specs.declared.event.Event.TheVariants as event
use Rattle.rbd_world.specs.LetGo.{release_of}
use Rattle.rbd_world.specs.Run.{Heard, mail_of}
use Rattle.rbd_world.specs.Seats.{seat_at}
use Rattle.rbd_world.specs.Sound.{AreStrangers, HasLearnedIf, Holder, InSlot, IsDelivered, IsHeldRightly, IsLiving, IsRunning, IsSoundWorld, KeepsToItsWay, held_of, known_in, line_at}
use Rattle.rbd_world.specs.Step.{Does, DoesAtSites, Hears, IsSoundIf}
use Rattle.rbd_world.specs.Watched.{CountsItsWatches}
use Rattle.rbd_world.specs.World.{WorldView, client_in, records_in, session_of_client}
use Rattle.rbd_world.proofs.Carried.{IsCarried, numbered_is, whole_in}
use Rattle.rbd_world.proofs.Changed.{GoesOnAs, client_is, client_was, clients_stay, has_become, line_is, living_on, same_or_other}
use Rattle.rbd_world.proofs.GoesOn.{goes_carries}
use Rattle.rbd_world.proofs.OrderedWorld.{still_in_order}
use Rattle.rbd_world.proofs.Quiet.{quiet_heard}
use Rattle.rbd_world.proofs.Rest.{StaysTrue, same_true, still_may_come, where_standing}
use Rattle.rbd_world.proofs.Slots.{open_back, same_slots}
use Rattle.rbd_world.proofs.Watching.{counts_alike, heard_watches}
use Rattle.rbd_world.specs.Closes.{StandsFirstIf}

module _ {R : Type 0} (stands : R → Standing) (old new : WorldView R) (w : IsSoundWorld stands old) (notice : Notice) (c d : ClientView R) (there : client_in notice.to.session old.lives ≡ Some c)
    (goes : GoesOnAs old new notice.to.session c d) (hears : Hears stands notice c d) (at_sites : DoesAtSites (Heard notice) old.sites new.sites) where
  abbrev session : ℕ
  session = notice.to.session

  abbrev knew : ℕ → Knowledge
  knew = known_in w.knows session

  stays : (s : SiteId) → StaysTrue stands old new w s (records_in s new.sites)
  stays s = same_true stands old new w s (records_in s new.sites) (at_sites.records s)

  same_who : d.session.instance ≡ c.session.instance
  same_who = ap (λ (v : SessionView R). v.instance) hears.session

  -- ---- it is due

  delivered : (number : ℕ) → notice_numbered number old.sites.mail ≡ Some notice → same_instance c.session.instance notice.to ≡ true → IsDelivered notice w.told.run
  delivered number is same = record {
    posted = ap (λ n. notice_numbered n (mail_of w.told.run)) (numbered_is number old.sites.mail notice is) ∙ ap (notice_numbered number) (sym w.told.mail) ∙ is;
    runs = subst (λ i. IsRunning i w.told.run) (same_instance_is c.session.instance notice.to same) (w.clients session c there).runs;
  }

  -- ---- its requests stay

  line_same : (m x : ℕ) → line_at m x new.lives ≡ line_at m x old.lives
  line_same m x = by (same_or_other m session)
    where
      by : (m ≡ session) ⊎ (m ≢ session) → line_at m x new.lives ≡ line_at m x old.lives
      by (inr differ) = ap (λ o. script_line (held_of x (session_of_client o))) (clients_stay old new session c d goes m differ)
      by (inl same) =
          subst (λ i. line_at i x new.lives ≡ line_at i x old.lives) (sym same)
          (line_is old new session c d goes x ∙ ap (λ (v : SessionView R). script_line (held_in x v.slots)) hears.session
          ∙ sym (ap (λ o. script_line (held_of x (session_of_client o))) (client_was old new session c d goes)))

  living_now : IsSoundClient stands d → IsLiving stands (w.told.homes session) session (Heard notice ∷ w.told.run) knew d
  living_now sound = record {
    whose = ap (λ (i : Instance). i.session) same_who ∙ still.whose;
    runs = subst (λ i. IsRunning i (Heard notice ∷ w.told.run)) (sym same_who) still.runs;
    at_home = ap (λ (v : SessionView R). v.home) hears.session ∙ still.at_home;
    sound = sound;
    know = subst (AllKnow stands knew) (sym hears.session) still.know;
    held = subst (λ (v : SessionView R). (x : ℕ) → IsHeldRightly stands (seat_at w.told.homes session) v.instance (Heard notice ∷ w.told.run) (held_in x v.slots)) (sym hears.session) still.held;
    ways = λ x.
        subst (λ ss. KeepsToItsWay stands (Heard notice ∷ w.told.run) x d.session.lines (slot_state x ss).way (running_at x d.session)) (sym hears.slots)
        (subst (λ (v : SessionView R). KeepsToItsWay stands (Heard notice ∷ w.told.run) x v.lines (slot_state x c.slots).way (running_at x v)) (sym hears.session) (still.ways x));
    learned = λ x. subst (λ (v : SessionView R). HasLearnedIf stands (Heard notice ∷ w.told.run) (running_at x v) (knew x)) (sym hears.session) (still.learned x);
    releases = hears.release ∙ still.releases ∙ ap (λ i. release_of i (Heard notice ∷ w.told.run)) (sym same_who);
    watches =
        subst (λ i. CountsItsWatches i (Heard notice ∷ w.told.run) d) (sym same_who)
        (counts_alike c.session.instance (Heard notice ∷ w.told.run) c d
        (λ s image. ap (λ (l : LockState). l.watched) (hears.locks s image) ∙ heard_watches notice s image (lock_state_at s image c.locks)) hears.slots still.watches);
    first = λ x. subst (λ (v : SessionView R). StandsFirstIf (Heard notice ∷ w.told.run) x v.lines (running_at x v)) (sym hears.session) (still.first x);
  }
    where
      still : IsLiving stands (w.told.homes session) session (Heard notice ∷ w.told.run) knew c
      still = living_on stands (w.told.homes session) session (Heard notice) w.told.run (λ m l. refl) knew c (λ x line at. quiet_heard line notice) (refl, λ s image. refl) (w.clients session c there)

  truth_now : (s : SiteId) → IsTrueOf s (records_in s new.sites) d.session.instance knew d
  truth_now s =
      subst (λ i. IsTrueOf s (records_in s new.sites) i knew d) (sym same_who)
      ((stays s).clients c.session.instance knew d
      (heard_is_true s (records_in s old.sites) c.session.instance knew c d (w.truth session c there s) notice hears.slots (hears.locks s)))

  beside_now : (g : Holder) (x : ℕ) → AreStrangers (InSlot session x) g → (s : SiteId) → AreBeside s (records_in s new.sites) c.session.instance (w.who g) (knew x) (w.knows g)
  beside_now g x apart s =
      (stays s).beside c.session.instance (w.who g) (knew x) (w.knows g)
      (subst (λ i. AreBeside s (records_in s old.sites) i (w.who g) (knew x) (w.knows g)) (w.in_slots session x c there) (w.beside (InSlot session x) g apart s))

  hearing_keeps : IsDelivered notice w.told.run → IsSoundClient stands d → IsCarried stands old new w (Heard notice)
  hearing_keeps due sound =
      goes_carries stands old new w (Heard notice) session c d goes there same_who (λ m l. refl) (λ m x o. refl) knew beside_now
      (λ a g apart s. (stays s).beside (w.who a) (w.who g) (w.knows a) (w.knows g) (w.beside a g apart s))
      (where_standing w.told.homes w.told.run w.told.right) due (λ s. (stays s).whole (whole_in stands old w s)) (living_now sound) (λ m q differ is x line at. quiet_heard line notice)
      (λ line m x other y one two. w.apart line m x other y (sym (line_same m x) ∙ one) (sym (line_same other y) ∙ two))
      (λ line begun. same_slots old.lives new.lives line_same line (w.slots line (open_back line (Heard notice) w.told.run (quiet_heard line notice) begun)))
      truth_now (λ m q differ is s. (stays s).clients q.session.instance (known_in w.knows m) q (w.truth m q is s))
      (λ m x y is. still_may_come stands old new w (λ s. records_in s new.sites) stays m y _ (w.sending m x y is).1) tt tt (λ m q differ is other writer. refl)
      (still_in_order stands old new w (Heard notice) due session c d there hears.session (λ line before. refl) (λ other writer. refl))
      (λ x t image drawn. w.new (InSlot session x) t image drawn) (λ x. w.reads (InSlot session x)) (λ g strange. w.reads g) (λ m q differ is. (refl, λ s image. refl))

module _ {R : Type 0} (stands : R → Standing) where
  pub heard_keeps : (old new : WorldView R) (w : IsSoundWorld stands old) (number : ℕ) (notice : Notice) (c : ClientView R) → notice_numbered number old.sites.mail ≡ Some notice
      → client_in notice.to.session old.lives ≡ Some c → same_instance c.session.instance notice.to ≡ true → Does stands (event.Deliver number) (Heard notice) old new
      → DoesAtSites (Heard notice) old.sites new.sites → ((m : ℕ) → IsSoundIf stands (client_in m new.lives)) → IsCarried stands old new w (Heard notice)
  heard_keeps old new w number notice c is there same does at_sites sound =
      let become = has_become stands (event.Deliver number) (Heard notice) old new notice.to.session c there (λ m. refl) (λ home o n runs. runs) (λ l. refl) (λ l. refl) does in
      hearing_keeps stands old new w notice c become.after there become.goes become.becomes at_sites (delivered stands old new w notice c become.after there become.goes become.becomes at_sites number is same)
      (subst (IsSoundIf stands) (client_is old new notice.to.session c become.after become.goes) (sound notice.to.session))
