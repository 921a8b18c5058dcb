-- What a client counts of its watches stands in the run: whatever happens, and whatever it is fed.
use Rattle.std.proofs.Common.{◌≡◌, ◌⊎◌, inl, inr, ℕ, ◌==◌, ◌&&◌, ◌||◌, ◌≢◌, not, cond, Bool, true, false, List, ◌∷◌, Option, Some, None, is_some, refl, sym, ap, ◌∙◌, subst}
use Rattle.std.proofs.lemmas.Bool.{true≢false, and_parts, eq-eqb, eqb-true}
use Rattle.std.proofs.lemmas.Option.{same_Some}
use Rattle.rbd_client.specs.declared.actor.Actor.{Actor}
use Rattle.rbd_client.specs.declared.actor.Actor.TheVariants as actor
use Rattle.rbd_client.specs.declared.slot_state.SlotState.{SlotState}
use Rattle.rbd_client.specs.declared.slot_state.Way.{Way}
use Rattle.rbd_client.specs.declared.slot_state.Way.TheVariants as way
use Rattle.rbd_client.specs.Actor.{actor_at, actor_at_look, actor_on, due_release, op_by, op_wanted, release_actor}
use Rattle.rbd_client.specs.Client.{ClientView, slot_state}
use Rattle.rbd_client.specs.Feeding.{CountsAll, IsFedBy, WayComesTo, comings_of, quiesced_by, resumes, state_behind}
use Rattle.rbd_client.proofs.OnWay.{is_way, releases_no_way, way_or}
use Rattle.rbd_session.specs.Close.{unwatch}
use Rattle.rbd_commands.specs.declared.quiescing.Quiescing.{Quiescing}
use Rattle.rbd_commands.specs.declared.quiescing.Quiescing.TheVariants as quiescing
use Rattle.rbd_kinds.specs.declared.answer.Answer.{Answer}
use Rattle.rbd_kinds.specs.declared.answer.Answer.TheVariants as answer
use Rattle.rbd_kinds.specs.declared.directory_op.DirectoryOp.TheVariants as directory
use Rattle.rbd_kinds.specs.declared.header_op.HeaderOp.{HeaderOp}
use Rattle.rbd_kinds.specs.declared.header_op.HeaderOp.TheVariants as header
use Rattle.rbd_kinds.specs.declared.id.Instance.{Instance}
use Rattle.rbd_kinds.specs.declared.id.SiteId.{SiteId}
use Rattle.rbd_kinds.specs.declared.image_at.ImageAt.{ImageAt}
use Rattle.rbd_kinds.specs.declared.machine.Fed.TheVariants as fed
use Rattle.rbd_kinds.specs.declared.notice.Notice.{Notice}
use Rattle.rbd_kinds.specs.declared.notice.NoticeKind.{NoticeKind}
use Rattle.rbd_kinds.specs.declared.notice.NoticeKind.TheVariants as notice
use Rattle.rbd_kinds.specs.declared.operation.Op.{Op}
use Rattle.rbd_kinds.specs.declared.operation.Op.TheVariants as op
use Rattle.rbd_kinds.specs.declared.reply.Reply.{Reply}
use Rattle.rbd_kinds.specs.declared.reply.Reply.TheVariants as reply
use Rattle.rbd_kinds.specs.Images.{is_at, same_site}
use Rattle.rbd_kinds.specs.Instances.{same_instance}
use Rattle.rbd_kinds.proofs.Images.{at_itself, same_site_is}
use Rattle.rbd_kinds.proofs.Instances.{same_instance_is, same_instance_itself}
use Rattle.rbd_lock.specs.declared.lock_state.LockState.{LockState}
use Rattle.rbd_lock.specs.Comings.{after_all}
use Rattle.rbd_lock.specs.Locks.{counted, heard, lock_state_at}
use Rattle.rbd_lock.specs.States.{answered, quieted, resumed, told_state}
use Rattle.rbd_machine.specs.Label.{Label}
use Rattle.rbd_machine.specs.Plan.{IsLive, Plan, Return, Standing, plan_after, past_label}
use Rattle.rbd_machine.specs.Steps.{IsGoing, on_done}
use Rattle.rbd_lock.specs.Acquire.{begun_way, first_stage, lock_of, op_at_stage, op_of, rest_of_acquire, taking}
use Rattle.rbd_lock.specs.Release.{release_op, release_op_at}
use Rattle.rbd_lock.specs.Steps.{lock_take}
use Rattle.rbd_lock.specs.declared.acquire.Acquire.{Acquire}
use Rattle.rbd_lock.specs.declared.acquire.Stage.{Stage}
use Rattle.rbd_lock.specs.declared.acquire.Stage.TheVariants as stage
use Rattle.rbd_lock.specs.declared.release.Release.{Release}
use Rattle.rbd_lock.specs.declared.release.Stage.{Stage as ReleaseStage}
use Rattle.rbd_lock.specs.declared.release.Stage.TheVariants as releasing_at
use Rattle.rbd_slots.specs.Session.{look_under_lock_at}
use Rattle.rbd_world.specs.Run.{Did, Happening, Operation}
use Rattle.rbd_world.specs.Step.{AreStatesBut}
use Rattle.rbd_world.specs.Watched.{CountsItsWatches, HasWatchedAt, HasWatchedOn, TakesBehindWatch, ends_own, is_watch, keeps_watch, unwatches_by, watches_by}

-- ---- an own `unwatch`

pub record EndsOwn (who : Instance) (there : SiteId) (me : Instance) (o : Op) (s : SiteId) (image : ℕ) : Type 0 where
  pub is : o ≡ unwatch image
  pub here : there ≡ s
  pub mine : me ≡ who

pub ends_own_is : (who : Instance) (there : SiteId) (me : Instance) (o : Op) (a : Answer) (s : SiteId) (image : ℕ) → ends_own who there me o a s image ≡ true → EndsOwn who there me o s image
ends_own_is who there me (op.Header on header.Unwatch) answer.Done s image ends =
    let parts = and_parts (is_at there on s image) (same_instance me who) ends in
    let at = and_parts (same_site s there) (image == on) parts.0 in
    record { is = ap unwatch (sym (eqb-true image on at.1)); here = sym (same_site_is s there at.0); mine = same_instance_is me who parts.1 }
ends_own_is who there me (op.Header on header.Unwatch) a s image ends = absurd (true≢false (sym ends))
ends_own_is who there me (op.Header on o) a s image ends = absurd (true≢false (sym ends))
ends_own_is who there me o a s image ends = absurd (true≢false (sym ends))

-- another one's isn't
pub others_end_none : (who : Instance) (o : Operation) (result : Option Reply) (s : SiteId) (image : ℕ) → o.instance ≢ who → unwatches_by who s image (Did o result) ≡ false
others_end_none who o result s image differ = by (ends_own who o.site o.instance o.op o.answer s image) refl
  where
    by : (b : Bool) → ends_own who o.site o.instance o.op o.answer s image ≡ b → b ≡ false
    by false is = refl
    by true is = absurd (differ (ends_own_is who o.site o.instance o.op o.answer s image is).mine)

-- neither a way nor a release does one
pub way_ends_none : (a : Acquire) (who : Instance) (there : SiteId) (me : Instance) (told : Answer) (s : SiteId) (image : ℕ) → ends_own who there me (op_of a) told s image ≡ false
way_ends_none a who there me told s image = by a.stage
  where
    by : (at : Stage) → ends_own who there me (op_at_stage at a.image) told s image ≡ false
    by stage.Watching = refl
    by stage.Taking = refl
    by (stage.Looking owner) = refl
    by stage.Asking = refl
    by (stage.Fencing owner) = refl
    by (stage.Breaking owner) = refl

pub release_ends_none : (x : Release) (who : Instance) (there : SiteId) (me : Instance) (told : Answer) (s : SiteId) (image : ℕ) → ends_own who there me (release_op x) told s image ≡ false
release_ends_none x who there me told s image = by x.stage
  where
    by : (at : ReleaseStage) → ends_own who there me (release_op_at at x.image) told s image ≡ false
    by releasing_at.Dropping = refl
    by releasing_at.Telling = refl

-- ---- a watch that is kept stays so

-- it ends none by itself
abbrev pub EndsNone : Instance → Happening → Type 0
EndsNone who h = (s : SiteId) (image : ℕ) → unwatches_by who s image h ≡ false

pub keeps_on : (who : Instance) (s : SiteId) (image : ℕ) (h : Happening) (run : List Happening) → unwatches_by who s image h ≡ false → keeps_watch who s image run ≡ true → keeps_watch who s image (h ∷ run) ≡ true
keeps_on who s image h run none keeps =
    ap (λ b. watches_by who s image h || (not b && keeps_watch who s image run)) none ∙ ap (λ b. watches_by who s image h || b) keeps ∙ or_true (watches_by who s image h)
  where
    or_true : (b : Bool) → (b || true) ≡ true
    or_true true = refl
    or_true false = refl

-- past its watch, at whichever step
past_watch : (at : Stage) (who : Instance) (s : SiteId) (image : ℕ) (run : List Happening) → keeps_watch who s image run ≡ true → HasWatchedAt at who s image run
past_watch stage.Watching who s image run is = tt
past_watch stage.Taking who s image run is = is
past_watch (stage.Looking owner) who s image run is = is
past_watch stage.Asking who s image run is = is
past_watch (stage.Fencing owner) who s image run is = is
past_watch (stage.Breaking owner) who s image run is = is

at_on : (at : Stage) (who : Instance) (s : SiteId) (image : ℕ) (h : Happening) (run : List Happening) → unwatches_by who s image h ≡ false → HasWatchedAt at who s image run → HasWatchedAt at who s image (h ∷ run)
at_on stage.Watching who s image h run none is = tt
at_on stage.Taking who s image h run none is = keeps_on who s image h run none is
at_on (stage.Looking owner) who s image h run none is = keeps_on who s image h run none is
at_on stage.Asking who s image h run none is = keeps_on who s image h run none is
at_on (stage.Fencing owner) who s image h run none is = keeps_on who s image h run none is
at_on (stage.Breaking owner) who s image h run none is = keeps_on who s image h run none is

pub way_on : (w : Way) (who : Instance) (h : Happening) (run : List Happening) → ((a : Acquire) → w ≡ way.On a → unwatches_by who a.site a.image h ≡ false) → HasWatchedOn w who run → HasWatchedOn w who (h ∷ run)
way_on (way.On a) who h run none is = at_on a.stage who a.site a.image h run (none a refl) is
way_on way.Unbegun who h run none is = tt
way_on (way.Taken p) who h run none is = tt

module _ {R : Type 0} where
  pub counts_on : (who : Instance) (h : Happening) (run : List Happening) (c : ClientView R) → EndsNone who h → CountsItsWatches who run c → CountsItsWatches who (h ∷ run) c
  counts_on who h run c none is = record {
    counts = λ s image watched. keeps_on who s image h run (none s image) (is.counts s image watched);
    ways = λ slot. way_on (slot_state slot c.slots).way who h run (λ a at. none a.site a.image) (is.ways slot);
  }

  -- where a client counts its watches as another one does
  pub counts_alike : (who : Instance) (run : List Happening) (c d : ClientView R) → ((s : SiteId) (image : ℕ) → (lock_state_at s image d.locks).watched ≡ (lock_state_at s image c.locks).watched) → d.slots ≡ c.slots
      → CountsItsWatches who run c → CountsItsWatches who run d
  counts_alike who run c d locks slots is = record {
    counts = λ s image watched. is.counts s image (sym (locks s image) ∙ watched);
    ways = λ slot. subst (λ ss. HasWatchedOn (slot_state slot ss).way who run) (sym slots) (is.ways slot);
  }

  -- where one slot begins no way
  pub counts_but : (who : Instance) (run : List Happening) (c d : ClientView R) (slot : ℕ) → d.locks ≡ c.locks → AreStatesBut slot c d → (slot_state slot d.slots).way ≡ way.Unbegun
      → CountsItsWatches who run c → CountsItsWatches who run d
  counts_but who run c d slot locks states none is = record {
    counts = λ s image watched. is.counts s image (sym (ap (λ l. (lock_state_at s image l).watched) locks) ∙ watched);
    ways = λ x. by x (x == slot) refl;
  }
    where
      by : (x : ℕ) (b : Bool) → (x == slot) ≡ b → HasWatchedOn (slot_state x d.slots).way who run
      by x true same = subst (λ i. HasWatchedOn (slot_state i d.slots).way who run) (sym (eqb-true x slot same)) (subst (λ w. HasWatchedOn w who run) (sym none) tt)
      by x false apart =
          subst (λ (s : SlotState). HasWatchedOn s.way who run) (sym (states x (λ same. true≢false (sym (eq-eqb x slot same) ∙ apart)))) (is.ways x)

-- ---- what is counted

pub heard_watches : (n : Notice) (s : SiteId) (image : ℕ) (st : LockState) → (heard n s image st).watched ≡ st.watched
heard_watches n s image st = by (is_at n.site n.image s image)
  where
    kind : (k : NoticeKind) → (told_state k st).watched ≡ st.watched
    kind notice.RequestLock = refl
    kind _ = refl

    by : (b : Bool) → (cond b (told_state n.kind st) st).watched ≡ st.watched
    by true = kind n.kind
    by false = refl

either_way : (b : Bool) (change : LockState → LockState) (st : LockState) → (change st).watched ≡ st.watched → (cond b (change st) st).watched ≡ st.watched
either_way true change st same = same
either_way false change st same = refl

resumes_watches : (site : SiteId) (o : Op) (i : ℕ) (s : SiteId) (image : ℕ) (st : LockState) → (after_all (resumes site o i) s image st).watched ≡ st.watched
resumes_watches site (op.Directory (directory.Find name)) i s image st = either_way (is_at site i s image) resumed st refl
resumes_watches site o i s image st = refl

quiesced_watches : (q : Quiescing) (look : Option ImageAt) (site : SiteId) (o : Op) (a : Answer) (s : SiteId) (image : ℕ) (st : LockState) → (after_all (quiesced_by q look site o a) s image st).watched ≡ st.watched
quiesced_watches quiescing.Begins None site o (answer.Header h) s image st = refl
quiesced_watches quiescing.Begins (Some p) site o (answer.Header h) s image st = either_way (is_at p.site p.image s image) quieted st refl
quiesced_watches quiescing.Ends look site o (answer.Id i) s image st = resumes_watches site o i s image st
quiesced_watches q look site o a s image st = refl

-- What counts as watched counted so, and the operation didn't end that; or it was watched by it.
module _ (who me : Instance) where
  abbrev StillWatched : SiteId → Op → Answer → SiteId → (image : ℕ) → LockState → Type 0
  StillWatched there o a s image st = ((st.watched ≡ true) × (ends_own who there me o a s image ≡ false)) ⊎ (is_watch there o a s image ≡ true)

  answered_watch : (o : HeaderOp) (a : Answer) (st : LockState) (there : SiteId) (on : ℕ) (s : SiteId) (image : ℕ) → is_at there on s image ≡ true → (answered o a st).watched ≡ true
      → StillWatched there (op.Header on o) a s image st
  answered_watch header.LockTake answer.Done st there on s image at is = inl (is, refl)
  answered_watch header.LockDrop a st there on s image at is = inl (is, refl)
  answered_watch header.Remove answer.Done st there on s image at is = inl (is, refl)
  answered_watch header.Watch answer.Done st there on s image at is = inr at
  answered_watch header.Unwatch a st there on s image at is = absurd (true≢false (sym is))
  answered_watch o a st there on s image at is = inl (is, refl)

  elsewhere_watch : (o : HeaderOp) (a : Answer) (there : SiteId) (on : ℕ) (s : SiteId) (image : ℕ) → is_at there on s image ≡ false → ends_own who there me (op.Header on o) a s image ≡ false
  elsewhere_watch header.Unwatch answer.Done there on s image at = ap (λ b. b && same_instance me who) at
  elsewhere_watch header.Unwatch a there on s image at = refl
  elsewhere_watch o a there on s image at = refl

  counted_watch : (there : SiteId) (o : Op) (a : Answer) (s : SiteId) (image : ℕ) (st : LockState) → (counted there o a s image st).watched ≡ true → StillWatched there o a s image st
  counted_watch there (op.Header on o) a s image st is = by (is_at there on s image) refl is
    where
      by : (b : Bool) → is_at there on s image ≡ b → (cond b (answered o a st) st).watched ≡ true → StillWatched there (op.Header on o) a s image st
      by true at is = answered_watch o a st there on s image at is
      by false at is = inl (is, elsewhere_watch o a there on s image at)
  counted_watch there o a s image st is = inl (is, refl)

  fed_watch : (q : Quiescing) (look : Option ImageAt) (there : SiteId) (o : Op) (a : Answer) (s : SiteId) (image : ℕ) (st : LockState) → (after_all (comings_of q look there o (fed.Answer a)) s image st).watched ≡ true
      → StillWatched there o a s image st
  fed_watch q look there o a s image st is = counted_watch there o a s image st (sym (quiesced_watches q look there o a s image (counted there o a s image st)) ∙ is)

-- ---- a way

-- its watch was done where it goes on behind it
watch_done : (labels : Label → Plan) (next left : Plan) (a : Answer) → IsGoing (past_label labels (on_done next a)) left → a ≡ answer.Done
watch_done labels next left answer.Done goes = refl
watch_done labels next left answer.Fenced goes = absurd (subst IsLive goes.is goes.live)
watch_done labels next left a goes = absurd (subst IsLive goes.is goes.live)

abbrev is_take : Op → Bool
is_take (op.Header image header.LockTake) = true
is_take o = false

abbrev image_of : Op → ℕ
image_of (op.Header image o) = image
image_of o = 0

-- one that takes the lock is past its watch
pub takes_behind_watch : (a : Acquire) (who : Instance) (run : List Happening) → HasWatchedAt a.stage who a.site a.image run → TakesBehindWatch who a.site (op_of a) run
takes_behind_watch a who run has image is = by a.stage has is
  where
    by : (at : Stage) → HasWatchedAt at who a.site a.image run → op_at_stage at a.image ≡ lock_take image → keeps_watch who a.site image run ≡ true
    by stage.Taking has is = subst (λ i. keeps_watch who a.site i run ≡ true) (ap image_of is) has
    by stage.Watching has is = absurd (true≢false (sym (ap is_take is)))
    by (stage.Looking owner) has is = absurd (true≢false (sym (ap is_take is)))
    by stage.Asking has is = absurd (true≢false (sym (ap is_take is)))
    by (stage.Fencing owner) has is = absurd (true≢false (sym (ap is_take is)))
    by (stage.Breaking owner) has is = absurd (true≢false (sym (ap is_take is)))

module _ {R : Type 0} (stands : R → Standing) (slot : ℕ) (c : ClientView R) (who : Instance) (run : List Happening) (watches : CountsItsWatches who run c) where
  -- a way that acts is past its watch, or does it
  pub way_watched : (a : Acquire) → actor_at stands slot c ≡ actor.Way a → HasWatchedAt a.stage who a.site a.image run
  way_watched a acts = by (slot == 0) acts
    where
      first : (p : ImageAt) (b : Bool) → (b ≡ true → keeps_watch who p.site p.image run ≡ true) → HasWatchedAt (first_stage b) who p.site p.image run
      first p true has = has refl
      first p false has = tt

      begins : (p : ImageAt) (held o : Bool) → cond held actor.Nobody (cond o actor.Request (actor.Way (begun_way p.site p.image (lock_state_at p.site p.image c.locks).watched))) ≡ actor.Way a
          → HasWatchedAt a.stage who a.site a.image run
      begins p true o is = absurd (true≢false (sym (ap is_way is)))
      begins p false true is = absurd (true≢false (sym (ap is_way is)))
      begins p false false is =
          subst (λ (x : Acquire). HasWatchedAt x.stage who x.site x.image run) (ap (way_or a) is)
          (first p (lock_state_at p.site p.image c.locks).watched (watches.counts p.site p.image))

      looking : (look : Option ImageAt) → actor_at_look look c.locks ≡ actor.Way a → HasWatchedAt a.stage who a.site a.image run
      looking None is = absurd (true≢false (sym (ap is_way is)))
      looking (Some p) is =
          let st : LockState = lock_state_at p.site p.image c.locks in begins p (st.quiesced || st.asked) st.owned is

      on : (w : Way) → HasWatchedOn w who run → actor_on w (look_under_lock_at stands slot c.session) c.locks ≡ actor.Way a → HasWatchedAt a.stage who a.site a.image run
      on way.Unbegun has is = looking (look_under_lock_at stands slot c.session) is
      on (way.On b) has is = subst (λ (x : Acquire). HasWatchedAt x.stage who x.site x.image run) (ap (way_or a) is) has
      on (way.Taken p) has is = absurd (true≢false (sym (ap is_way is)))

      by : (b : Bool) → cond b (release_actor c.release (due_release c)) (actor_on (slot_state slot c.slots).way (look_under_lock_at stands slot c.session) c.locks) ≡ actor.Way a → HasWatchedAt a.stage who a.site a.image run
      by true is = absurd (true≢false (sym (ap is_way is) ∙ releases_no_way c.release (due_release c)))
      by false is = on (slot_state slot c.slots).way (watches.ways slot) is

  -- ---- it is fed

  module _ (o : Operation) (result : Option Reply) (mine : o.instance ≡ who) (d : ClientView R) (states : AreStatesBut slot c d)
      (spares : (x : ℕ) (a : Acquire) → (slot_state x c.slots).way ≡ way.On a → unwatches_by who a.site a.image (Did o result) ≡ false) where
    abbrev h : Happening
    h = Did o result

    watched_by : (s : SiteId) (image : ℕ) → is_watch o.site o.op o.answer s image ≡ true → keeps_watch who s image (h ∷ run) ≡ true
    watched_by s image is =
        ap (λ b. b || (not (unwatches_by who s image h) && keeps_watch who s image run))
        (ap (λ i. same_instance i who && is_watch o.site o.op o.answer s image) mine ∙ ap (λ b. b && is_watch o.site o.op o.answer s image) (same_instance_itself who) ∙ is)

    counts_then : (q : Quiescing) (look : Option ImageAt) → CountsAll (comings_of q look o.site o.op (fed.Answer o.answer)) c.locks d.locks
        → (s : SiteId) (image : ℕ) → (lock_state_at s image d.locks).watched ≡ true → keeps_watch who s image (h ∷ run) ≡ true
    counts_then q look counts s image is =
        by (fed_watch who o.instance q look o.site o.op o.answer s image (lock_state_at s image c.locks) (sym (ap (λ (st : LockState). st.watched) (counts s image)) ∙ is))
      where
        by : StillWatched who o.instance o.site o.op o.answer s image (lock_state_at s image c.locks) → keeps_watch who s image (h ∷ run) ≡ true
        by (inl (was, none)) = keeps_on who s image h run none (watches.counts s image was)
        by (inr now) = watched_by s image now

    ways_then : HasWatchedOn (slot_state slot d.slots).way who (h ∷ run) → (x : ℕ) → HasWatchedOn (slot_state x d.slots).way who (h ∷ run)
    ways_then here x = by (x == slot) refl
      where
        by : (b : Bool) → (x == slot) ≡ b → HasWatchedOn (slot_state x d.slots).way who (h ∷ run)
        by true same = subst (λ i. HasWatchedOn (slot_state i d.slots).way who (h ∷ run)) (sym (eqb-true x slot same)) here
        by false apart =
            subst (λ (s : SlotState). HasWatchedOn s.way who (h ∷ run)) (sym (states x (λ same. true≢false (sym (eq-eqb x slot same) ∙ apart))))
            (way_on (slot_state x c.slots).way who h run (spares x) (watches.ways x))

    -- a request leaves its way, or has none any more
    behind_way : (has_ended has_looked : Bool) → HasWatchedOn (state_behind has_ended has_looked (slot_state slot c.slots)).way who (h ∷ run)
    behind_way true looked = tt
    behind_way false true = tt
    behind_way false false = way_on (slot_state slot c.slots).way who h run (spares slot) (watches.ways slot)

    -- a way goes on
    further : (a b : Acquire) → o.site ≡ a.site → o.op ≡ op_of a → HasWatchedAt a.stage who a.site a.image run → WayComesTo a (fed.Answer o.answer) None (way.On b) → HasWatchedAt b.stage who b.site b.image (h ∷ run)
    further a b there what has goes =
        subst (λ s. HasWatchedAt b.stage who s b.image (h ∷ run)) (sym goes.site)
        (subst (λ i. HasWatchedAt b.stage who a.site i (h ∷ run)) (sym goes.image) (past_watch b.stage who a.site a.image (h ∷ run) (by a.stage refl has)))
      where
        none : unwatches_by who a.site a.image h ≡ false
        none = ap (λ x. ends_own who o.site o.instance x o.answer a.site a.image) what ∙ way_ends_none a who o.site o.instance o.answer a.site a.image

        by : (at : Stage) → a.stage ≡ at → HasWatchedAt at who a.site a.image run → keeps_watch who a.site a.image (h ∷ run) ≡ true
        by stage.Watching at has =
            let going = goes.goes (λ l. lock_of a (Return reply.Done)) (Return reply.Done) refl in
            let done : o.answer ≡ answer.Done =
            watch_done (λ l. lock_of a (Return reply.Done)) (taking a.site a.image (Return reply.Done)) (rest_of_acquire b (Return reply.Done)) o.answer
            (subst (λ (x : Acquire). IsGoing (past_label (λ l. lock_of a (Return reply.Done)) (plan_of x)) (rest_of_acquire b (Return reply.Done))) (is_watching at) going) in
            watched_by a.site a.image
            (ap (λ s. is_watch s o.op o.answer a.site a.image) there ∙ ap (λ p. is_watch a.site p o.answer a.site a.image) (what ∙ ap (λ x. op_at_stage x a.image) at)
            ∙ ap (λ x. is_watch a.site (op_at_stage stage.Watching a.image) x a.site a.image) done ∙ at_itself a.site a.image)
          where
            plan_of : Acquire → Plan
            plan_of x = plan_after (rest_of_acquire x (Return reply.Done)) (fed.Answer o.answer)

            is_watching : a.stage ≡ stage.Watching → a ≡ record { site = a.site; image = a.image; stage = stage.Watching }
            is_watching at = ap (λ x. record { site = a.site; image = a.image; stage = x }) at
        by stage.Taking at has = keeps_on who a.site a.image h run none has
        by (stage.Looking owner) at has = keeps_on who a.site a.image h run none has
        by stage.Asking at has = keeps_on who a.site a.image h run none has
        by (stage.Fencing owner) at has = keeps_on who a.site a.image h run none has
        by (stage.Breaking owner) at has = keeps_on who a.site a.image h run none has

    comes_to : (a : Acquire) → o.site ≡ a.site → o.op ≡ op_of a → HasWatchedAt a.stage who a.site a.image run → (r : Option Reply) (w : Way) → WayComesTo a (fed.Answer o.answer) r w → HasWatchedOn w who (h ∷ run)
    comes_to a there what has None (way.On b) comes = further a b there what has comes
    comes_to a there what has None (way.Taken p) comes = tt
    comes_to a there what has None way.Unbegun comes = tt
    comes_to a there what has (Some r) w comes = subst (λ x. HasWatchedOn x who (h ∷ run)) (sym comes.0) tt

    -- whoever acts there
    pub counts_fed : op_wanted stands slot c ≡ Some (o.site, o.op) → IsFedBy stands slot o.site o.op (fed.Answer o.answer) result c d (actor_at stands slot c) → CountsItsWatches who (h ∷ run) d
    counts_fed wanted is_fed = by (actor_at stands slot c) refl wanted is_fed
      where
        by : (m : Actor) → actor_at stands slot c ≡ m → op_by stands slot c.session m ≡ Some (o.site, o.op) → IsFedBy stands slot o.site o.op (fed.Answer o.answer) result c d m → CountsItsWatches who (h ∷ run) d
        by actor.Nobody acts wanted is_fed = absurd is_fed
        by actor.Request acts wanted is_fed = record {
          counts = counts_then (slot_state slot c.slots).quiescing (look_under_lock_at stands slot c.session) is_fed.counts;
          ways = ways_then
              (subst (λ (s : SlotState). HasWatchedOn s.way who (h ∷ run)) (sym is_fed.state) (behind_way (is_some result) (is_some (look_under_lock_at stands slot c.session))));
        }
        by (actor.Way a) acts wanted is_fed =
            let same = same_Some _ _ wanted in
            record {
              counts = counts_then quiescing.Leaves None is_fed.counts;
              ways = ways_then
                  (comes_to a (ap (λ (p : SiteId × Op). p.0) (sym same)) (ap (λ (p : SiteId × Op). p.1) (sym same)) (way_watched a acts) result (slot_state slot d.slots).way is_fed.comes);
            }
        by (actor.Release x) acts wanted is_fed = record {
          counts = counts_then quiescing.Leaves None is_fed.counts;
          ways = λ y. subst (λ ss. HasWatchedOn (slot_state y ss).way who (h ∷ run)) (sym is_fed.slots) (way_on (slot_state y c.slots).way who h run (spares y) (watches.ways y));
        }
