-- What each client counts of its locks stands in the run, whatever an event does.
use Rattle.std.proofs.Common.{◌≡◌, ℕ, ◌<◌, ◌==◌, cond, Bool, true, false, List, [], ◌∷◌, Option, Some, None, refl, sym, ap, ◌∙◌, subst, arith}
use Rattle.std.proofs.lemmas.Bool.{eq-eqb, eqb-true, true≢false}
use Rattle.std.proofs.lemmas.Option.{none-some, same_Some}
use Rattle.rbd_client.specs.declared.actor.Actor.{Actor}
use Rattle.rbd_client.specs.declared.actor.Actor.TheVariants as actor
use Rattle.rbd_client.specs.Actor.{actor_at}
use Rattle.rbd_client.specs.Client.{ClientView}
use Rattle.rbd_client.specs.Feeding.{CountsAll, IsFedBy, comings_of}
use Rattle.rbd_commands.specs.declared.quiescing.Quiescing.{Quiescing}
use Rattle.rbd_commands.specs.declared.quiescing.Quiescing.TheVariants as quiescing
use Rattle.rbd_knowledge.proofs.LocksHeld.{counted_since, owned_then}
use Rattle.rbd_kinds.specs.declared.answer.Answer.{Answer}
use Rattle.rbd_kinds.specs.declared.id.Instance.{Instance}
use Rattle.rbd_kinds.specs.declared.id.SiteId.{SiteId}
use Rattle.rbd_kinds.specs.declared.image_at.ImageAt.{ImageAt}
use Rattle.rbd_kinds.specs.declared.machine.Fed.TheVariants as fed
use Rattle.rbd_kinds.specs.declared.notice.Notice.{Notice}
use Rattle.rbd_kinds.specs.declared.operation.Op.{Op}
use Rattle.rbd_kinds.specs.declared.operation.Op.TheVariants as op
use Rattle.rbd_kinds.specs.declared.reply.Reply.{Reply}
use Rattle.rbd_kinds.specs.Images.{is_at}
use Rattle.rbd_kinds.specs.Instances.{same_instance}
use Rattle.rbd_kinds.proofs.Instances.{same_instance_is, same_instance_itself}
use Rattle.rbd_lock.specs.declared.lock_state.LockState.{LockState}
use Rattle.rbd_lock.specs.Comings.{ByAnswer, owned_since}
use Rattle.rbd_lock.specs.Locks.{LocksView, heard, lock_state_at}
use Rattle.rbd_lock.specs.States.{told_state}
use Rattle.rbd_lock.proofs.Lasting.{owned_is, told_owned}
use Rattle.rbd_machine.specs.Label.{Label}
use Rattle.rbd_machine.specs.Plan.{Plan, Ask, Await, Note, Return, Goto, Standing}
use Rattle.rbd_slots.specs.declared.running.Occupant.{Occupant}
use Rattle.rbd_slots.specs.declared.running.Occupant.TheVariants as occupant
use Rattle.rbd_slots.specs.declared.running.Running.{Running}
use Rattle.rbd_slots.specs.Advance.{track_of}
use Rattle.rbd_slots.specs.Session.{held_in}
use Rattle.rbd_slots.specs.Waits.{waits}
use Rattle.rbd_world.specs.declared.event.Event.{Event}
use Rattle.rbd_world.specs.declared.event.Event.TheVariants as event
use Rattle.rbd_world.specs.declared.sites.Sites.{Sites}
use Rattle.rbd_world.specs.Owning.{CountsItsLocks, owns_in}
use Rattle.rbd_world.specs.Run.{Happening, Nothing, Waited, Began, Did, Refused, Heard, Stopped, Restarted, Operation, Sent, IsLateOf, IsOfEvent, sent_after, sent_of}
use Rattle.rbd_world.specs.Sound.{AreLivesOf, IsDue, IsOf, IsSoundWorld}
use Rattle.rbd_world.specs.Step.{Becomes, BecomesOf, Does, LivesOnIf, RunsOn, done_by, goes_on_by, names_session, polled, polled_in, releases}
use Rattle.rbd_world.specs.World.{LateView, LivesView, WorldView, client_in, late_of, lives_in, running_of, sent_in}
use Rattle.rbd_world.proofs.FreshLives.{fresh_locks}
use Rattle.rbd_world.proofs.Changed.{HasLives, lives_there}
use Rattle.rbd_world.proofs.LetGo.{other_instance}
use Rattle.rbd_world.proofs.OwnersCount.{newborn_counts_none}
use Rattle.rbd_world.proofs.Runs.{done_of}

-- ---- what a poll does is by the client that is polled

abbrev pub IsBy : Instance → Happening → Type 0
IsBy who (Did o reply) = o.instance ≡ who
IsBy who h = Unit {0}

done_by_it : (sites : Sites) (who : Instance) (line : ℕ) (labels : Label → Plan) (plan : Plan) → IsBy who (done_by sites who line labels plan)
done_by_it sites who line labels (Ask s why o next) = refl
done_by_it sites who line labels (Await w next) = tt
done_by_it sites who line labels (Note s image e next) = tt
done_by_it sites who line labels (Return reply) = tt
done_by_it sites who line labels (Goto label) = tt

module _ {R : Type 0} (stands : R → Standing) where
  pub polled_by_it : (slot : ℕ) (sites : Sites) (c : ClientView R) → IsBy c.session.instance (polled stands sites slot (Some c))
  polled_by_it slot sites c = by (held_in slot c.session.slots)
    where
      house : (a : Actor) → IsBy c.session.instance (releases sites c.session.instance a)
      house actor.Nobody = tt
      house actor.Request = tt
      house (actor.Way a) = tt
      house (actor.Release r) = refl

      free : (b : Bool) → IsBy c.session.instance (cond b (releases sites c.session.instance (actor_at stands slot c)) Nothing)
      free true = house (actor_at stands slot c)
      free false = tt

      on : (r : Running R) (a : Actor) → IsBy c.session.instance (goes_on_by stands sites c slot r a)
      on r actor.Nobody = tt
      on r (actor.Release x) = tt
      on r (actor.Way a) = refl
      on r actor.Request = go (waits slot (track_of r c.session.lines))
        where
          go : (b : Bool) → IsBy c.session.instance (cond b Waited (done_by sites c.session.instance r.line (stands r.request).labels (stands r.request).plan))
          go true = tt
          go false = done_by_it sites c.session.instance r.line (stands r.request).labels (stands r.request).plan

      by : (o : Option (Occupant R)) → IsBy c.session.instance (polled_in stands sites c slot o)
      by None = free (slot == 0)
      by (Some (occupant.Refused line refusal)) = tt
      by (Some (occupant.Running r)) = on r (actor_at stands slot c)

-- ---- what is counted

-- it is no operation of the instance
abbrev IsOthers : Instance → Happening → Type 0
IsOthers who (Did o reply) = same_instance o.instance who ≡ false
IsOthers who h = Unit {0}

unaffected : (who : Instance) (s : SiteId) (image : ℕ) (h : Happening) (run : List Happening) → IsOthers who h → owns_in who s image (h ∷ run) ≡ owns_in who s image run
unaffected who s image (Did o reply) run other = ap (λ b. owned_since s image (owns_in who s image run) (cond b (ByAnswer o.site o.op o.answer ∷ []) [])) other
unaffected who s image h run other = refl

then_since : (there s : SiteId) (image : ℕ) (o : Op) (a : Answer) (b : Bool) → owned_then there s image o a b ≡ owned_since s image b (ByAnswer there o a ∷ [])
then_since there s image (op.Header on o) a b = refl
then_since there s image o a b = refl

heard_owned : (n : Notice) (s : SiteId) (image : ℕ) (st : LockState) → (heard n s image st).owned ≡ st.owned
heard_owned n s image st = by (is_at n.site n.image s image)
  where
    by : (b : Bool) → (cond b (told_state n.kind st) st).owned ≡ st.owned
    by true = told_owned n.kind st
    by false = refl

module _ (there : SiteId) (o : Op) (a : Answer) (old new : LocksView) where
  fed_owned : (q : Quiescing) (look : Option ImageAt) → CountsAll (comings_of q look there o (fed.Answer a)) old new → (s : SiteId) (image : ℕ)
      → (lock_state_at s image new).owned ≡ owned_since s image (lock_state_at s image old).owned (ByAnswer there o a ∷ [])
  fed_owned q look counts s image =
      ap (λ (st : LockState). st.owned) (counts s image) ∙ owned_is s image (comings_of q look there o (fed.Answer a)) (lock_state_at s image old)
      ∙ counted_since q look there s o a image (lock_state_at s image old).owned ∙ then_since there s image o a (lock_state_at s image old).owned

module _ {R : Type 0} (stands : R → Standing) (run : List Happening) (c d : ClientView R) (before : CountsItsLocks c.session.instance run c) (instance : d.session.instance ≡ c.session.instance) where
  -- it counts what it did
  counts_same : (h : Happening) → IsOthers d.session.instance h → ((s : SiteId) (image : ℕ) → (lock_state_at s image d.locks).owned ≡ (lock_state_at s image c.locks).owned) → CountsItsLocks d.session.instance (h ∷ run) d
  counts_same h other same s image = same s image ∙ before s image ∙ ap (λ i. owns_in i s image run) (sym instance) ∙ sym (unaffected d.session.instance s image h run other)

  -- it counts what it is told
  counts_told : (slot : ℕ) (o : Operation) (reply result : Option Reply) → o.instance ≡ c.session.instance → (m : Actor) → IsFedBy stands slot o.site o.op (fed.Answer o.answer) result c d m
      → CountsItsLocks d.session.instance (Did o reply ∷ run) d
  counts_told slot o reply result mine m is_fed s image =
      by m is_fed ∙ ap (λ b. owned_since s image b (ByAnswer o.site o.op o.answer ∷ [])) (before s image ∙ ap (λ i. owns_in i s image run) (sym instance))
      ∙ sym (ap (λ b. owned_since s image (owns_in d.session.instance s image run) (cond b (ByAnswer o.site o.op o.answer ∷ []) []))
      (ap (λ i. same_instance i d.session.instance) (mine ∙ sym instance) ∙ same_instance_itself d.session.instance))
    where
      by : (m : Actor) → IsFedBy stands slot o.site o.op (fed.Answer o.answer) result c d m
          → (lock_state_at s image d.locks).owned ≡ owned_since s image (lock_state_at s image c.locks).owned (ByAnswer o.site o.op o.answer ∷ [])
      by actor.Nobody is_fed = absurd is_fed
      by actor.Request is_fed = fed_owned o.site o.op o.answer c.locks d.locks _ _ is_fed.counts s image
      by (actor.Way a) is_fed = fed_owned o.site o.op o.answer c.locks d.locks quiescing.Leaves None is_fed.counts s image
      by (actor.Release x) is_fed = fed_owned o.site o.op o.answer c.locks d.locks quiescing.Leaves None is_fed.counts s image

-- ---- behind an event

-- where it is a poll, what is done is by the client that is polled
abbrev pub IsByItsClient : {R : Type 0} → WorldView R → Event → Happening → Type 0
IsByItsClient {R} w (event.Poll session slot) h = (c : ClientView R) → client_in session w.lives ≡ Some c → IsBy c.session.instance h
IsByItsClient w e h = Unit {0}

module _ {R : Type 0} (stands : R → Standing) (old new : WorldView R) (w : IsSoundWorld stands old) where
  -- ---- of a session that it doesn't name

  -- what another session does is done by another instance
  elsewhere : (e : Event) (h : Happening) (m : ℕ) (who : Instance) → who.session ≡ m → IsOfEvent e h → names_session e h m ≡ false → IsOthers who h
  elsewhere (event.Poll session slot) (Did o reply) m who whose of other =
      other_instance o.instance who (λ same. true≢false (sym (eq-eqb session m (sym of ∙ same ∙ whose)) ∙ other))
  elsewhere (event.Late session slot) (Did o reply) m who whose of other =
      other_instance o.instance who (λ same. true≢false (sym (eq-eqb session m (sym of.session_is ∙ same ∙ whose)) ∙ other))
  elsewhere e (Did o reply) m who whose of other = absurd of
  elsewhere e h m who whose of other = tt

  -- ---- of one that it names

  module _ (m : ℕ) (l : LivesView R) (there : lives_in m old.lives ≡ Some l) (c d : ClientView R) (ran : l.running ≡ Some c) where
    mine : AreLivesOf w.told.run (w.told.homes m) m l
    mine = w.told.lives m l there

    was : client_in m old.lives ≡ Some c
    was = ap running_of there ∙ ran

    before : CountsItsLocks c.session.instance w.told.run c
    before = w.owns m c was

    -- what comes late is of an earlier life
    earlier : (slot : ℕ) (o : Operation) → sent_after m slot w.told.run ≡ Some (record { instance = o.instance; site = o.site; op = o.op }) → o.instance.life < c.session.instance.life
    earlier slot o sent = by l.late refl (sym (ap (λ x. sent_in slot (late_of x)) there) ∙ w.late m slot ∙ sent)
      where
        by : (v : Option LateView) → l.late ≡ v → sent_in slot v ≡ Some (record { instance = o.instance; site = o.site; op = o.op }) → o.instance.life < c.session.instance.life
        by None is sent = absurd (none-some _ sent)
        by (Some v) is sent =
            subst (λ (i : Instance). i.life < c.session.instance.life) (its (held_in slot v.wanted) sent)
            (subst (λ (i : Instance). v.instance.life < i.life) (sym (mine.latest c ran)) (mine.older v is c ran))
          where
            its : (x : Option (SiteId × Op)) → sent_of v.instance x ≡ Some (record { instance = o.instance; site = o.site; op = o.op }) → v.instance ≡ o.instance
            its None sent = absurd (none-some _ sent)
            its (Some p) sent = ap (λ (y : Sent). y.instance) (same_Some _ _ sent)

    late_others : (slot : ℕ) (o : Operation) (reply : Option Reply) → IsDue w.told.homes (Did o reply) w.told.run → IsLateOf m slot o reply → same_instance o.instance c.session.instance ≡ false
    late_others slot o reply due of = by (same_instance o.instance c.session.instance) refl
      where
        sent : sent_after o.instance.session slot w.told.run ≡ Some (record { instance = o.instance; site = o.site; op = o.op })
        sent = subst (λ x. IsOf x o.instance o.site o.op w.told.run) of.by (done_of w.told.homes o reply w.told.run due).whose

        by : (b : Bool) → same_instance o.instance c.session.instance ≡ b → b ≡ false
        by false is = refl
        by true is =
            let less = earlier slot o (ap (λ n. sent_after n slot w.told.run) (sym of.session_is) ∙ sent) in
            let same : o.instance.life ≡ c.session.instance.life = ap (λ (i : Instance). i.life) (same_instance_is o.instance c.session.instance is) in
            absurd (omega (arith, less, same))

    stays : (h : Happening) → IsOthers c.session.instance h → d ≡ c → CountsItsLocks d.session.instance (h ∷ w.told.run) d
    stays h other same =
        subst (λ (q : ClientView R). CountsItsLocks q.session.instance (h ∷ w.told.run) q) (sym same) (counts_same stands w.told.run c c before refl h other (λ s image. refl))

    becomes : (e : Event) (h : Happening) → names_session e h m ≡ true → IsDue w.told.homes h w.told.run → IsOfEvent e h → IsByItsClient old e h → Becomes stands e h c d → CountsItsLocks d.session.instance (h ∷ w.told.run) d
    becomes (event.Submit session line command) (Began asked slot) here due of client b =
        counts_same stands w.told.run c d before b.begins.client.instance (Began asked slot) tt (λ s image. ap (λ (x : LocksView). (lock_state_at s image x).owned) b.house.locks)
    becomes (event.Submit session line command) Nothing here due of client b = stays Nothing tt b
    becomes (event.Poll session slot) (Did o reply) here due of client b =
        counts_told stands w.told.run c d before b.client.instance slot o reply reply (client c (ap (λ n. client_in n old.lives) (eqb-true session m here) ∙ was)) (actor_at stands slot c) b.fed
    becomes (event.Poll session slot) (Refused s line reply) here due of client b =
        counts_same stands w.told.run c d before b.client.instance (Refused s line reply) tt (λ s image. ap (λ (x : LocksView). (lock_state_at s image x).owned) b.house.locks)
    becomes (event.Poll session slot) Nothing here due of client b = stays Nothing tt b
    becomes (event.Poll session slot) Waited here due of client b = stays Waited tt b
    becomes (event.Deliver number) (Heard notice) here due of client b =
        counts_same stands w.told.run c d before (ap (λ x. x.instance) b.session) (Heard notice) tt
        (λ s image. ap (λ (st : LockState). st.owned) (b.locks s image) ∙ heard_owned notice s image (lock_state_at s image c.locks))
    becomes (event.Deliver number) Nothing here due of client b = stays Nothing tt b
    becomes (event.Late session slot) (Did o reply) here due of client b =
        stays (Did o reply) (late_others slot o reply due (subst (λ n. IsLateOf n slot o reply) (eqb-true session m here) of)) b
    becomes (event.Late session slot) Nothing here due of client b = stays Nothing tt b
    becomes (event.Stop session) Nothing here due of client b = stays Nothing tt b
    becomes (event.Stop session) (Stopped who wanted lost) here due of client b = stays (Stopped who wanted lost) tt b
    becomes (event.Restart session) Nothing here due of client b = stays Nothing tt b
    becomes (event.Restart session) (Restarted who) here due of client b = stays (Restarted who) tt b
    becomes (event.Expire session s image) h here due of client b = absurd (true≢false (sym here))
    becomes (event.Trim s image object) h here due of client b = absurd (true≢false (sym here))
    becomes e h here due of client b = absurd of

  module _ (m : ℕ) (l : LivesView R) (there : lives_in m old.lives ≡ Some l) (d : ClientView R) (e : Event) where
    goes_on : (h : Happening) → names_session e h m ≡ true → IsDue w.told.homes h w.told.run → IsOfEvent e h → IsByItsClient old e h → (o : Option (ClientView R)) → l.running ≡ o → BecomesOf stands e h o (Some d)
        → CountsItsLocks d.session.instance (h ∷ w.told.run) d
    goes_on h here due of client None ran b = absurd (none-some d (sym b))
    goes_on h here due of client (Some c) ran b = becomes m l there c d ran e h here due of client b

    -- it goes on, or begins its life
    runs : (h : Happening) → names_session e h m ≡ true → IsDue w.told.homes h w.told.run → IsOfEvent e h → IsByItsClient old e h → RunsOn stands e h l.home l.running (Some d)
        → CountsItsLocks d.session.instance (h ∷ w.told.run) d
    runs (Stopped who wanted lost) here due of client on = absurd (none-some d (sym on))
    runs (Restarted who) here due of client fresh = λ s image.
        ap (λ (st : LockState). st.owned) (fresh_locks who l.home d fresh s image)
        ∙ sym (ap (λ i. owns_in i s image w.told.run) fresh.instance ∙ newborn_counts_none w.told.homes who s image w.told.run w.told.right due)
    runs h here due of client on = goes_on h here due of client l.running refl on

  -- ---- of all

  module _ (e : Event) (h : Happening) (of : IsOfEvent e h) (client : IsByItsClient old e h) (due : IsDue w.told.homes h w.told.run) (does : Does stands e h old new) (m : ℕ) (d : ClientView R)
      (is : client_in m new.lives ≡ Some d) (whose : d.session.instance.session ≡ m) where
    pub owns_now : CountsItsLocks d.session.instance (h ∷ w.told.run) d
    owns_now = by (names_session e h m) refl
      where
        has : HasLives m new.lives d
        has = lives_there m new.lives d is

        named : (o : Option (LivesView R)) → lives_in m old.lives ≡ o → names_session e h m ≡ true → LivesOnIf stands e h o (Some has.lives_are) → CountsItsLocks d.session.instance (h ∷ w.told.run) d
        named None there here on = absurd (none-some has.lives_are (sym on))
        named (Some l) there here on = runs m l there d e h here due of client (subst (RunsOn stands e h l.home l.running) has.runs on.running)

        by : (b : Bool) → names_session e h m ≡ b → CountsItsLocks d.session.instance (h ∷ w.told.run) d
        by true here = named (lives_in m old.lives) refl here (subst (LivesOnIf stands e h (lives_in m old.lives)) has.there (does.named m here))
        by false other =
            counts_same stands w.told.run d d (w.owns m d (sym (ap running_of (does.others m other)) ∙ is)) refl h (elsewhere e h m d.session.instance whose of other) (λ s image. refl)
