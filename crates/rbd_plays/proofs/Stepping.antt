-- Each event that may come in such a script leaves a world unhindered.
use Rattle.std.proofs.Common.{◌≡◌, ◌⊎◌, inl, inr, ℕ, ◌==◌, ◌||◌, cond, nat_lt, Bool, true, false, is_some, Option, Some, None, refl, sym, ap, ◌∙◌, subst}
use Rattle.std.specs.FinSet.{contains-empty}
use Rattle.std.specs.Prelude.{IsTrue}
use Rattle.std.proofs.lemmas.Bool.{eq-eqb, eqb-true, false≢true, true≢false}
use Rattle.std.proofs.lemmas.Option.{none-some, same_Some}
use Rattle.rbd_client.specs.declared.actor.Actor.{Actor}
use Rattle.rbd_client.specs.declared.actor.Actor.TheVariants as actor
use Rattle.rbd_client.specs.Actor.{actor_at}
use Rattle.rbd_client.specs.Client.{ClientView, slot_state}
use Rattle.rbd_client.specs.Feeding.{IsFedBy, ReleaseIsFed, RequestIsFed, WayIsFed, comings_of}
use Rattle.rbd_commands.specs.declared.command.Command.{Command}
use Rattle.rbd_commands.specs.declared.command.Command.TheVariants as command
use Rattle.rbd_commands.specs.declared.quiescing.Quiescing.TheVariants as quiescing
use Rattle.rbd_commands.specs.Quiescing.{quiescing_of}
use Rattle.rbd_fence.specs.Instances.{instance_cmp}
use Rattle.rbd_kinds.specs.declared.answer.Answer.{Answer}
use Rattle.rbd_kinds.specs.declared.answer.Answer.TheVariants as answer
use Rattle.rbd_kinds.specs.declared.header_op.HeaderOp.TheVariants as header
use Rattle.rbd_kinds.specs.declared.id.Instance.{Instance}
use Rattle.rbd_kinds.specs.declared.id.SiteId.{SiteId}
use Rattle.rbd_kinds.specs.declared.machine.Fed.TheVariants as fed
use Rattle.rbd_kinds.specs.declared.notice.Notice.{Notice}
use Rattle.rbd_kinds.specs.declared.operation.Op.{Op}
use Rattle.rbd_kinds.specs.declared.operation.Op.TheVariants as op
use Rattle.rbd_kinds.specs.declared.reply.Reply.{Reply}
use Rattle.rbd_kinds.specs.Instances.{same_instance}
use Rattle.rbd_lock.specs.declared.lock_state.LockState.{LockState}
use Rattle.rbd_lock.specs.Comings.{after_all}
use Rattle.rbd_lock.specs.Locks.{lock_state_at}
use Rattle.rbd_machine.specs.Path.{at_operation}
use Rattle.rbd_machine.specs.Plan.{Ask, Await, Goto, Note, Plan, Return, Standing}
use Rattle.rbd_lock.specs.Acquire.{op_at_stage, op_of}
use Rattle.rbd_lock.specs.Release.{release_op, release_op_at}
use Rattle.rbd_lock.specs.declared.acquire.Acquire.{Acquire}
use Rattle.rbd_lock.specs.declared.acquire.Stage.{Stage}
use Rattle.rbd_lock.specs.declared.acquire.Stage.TheVariants as stage
use Rattle.rbd_lock.specs.declared.release.Release.{Release}
use Rattle.rbd_lock.specs.declared.release.Stage.{Stage as ReleaseStage}
use Rattle.rbd_lock.specs.declared.release.Stage.TheVariants as releasing
use Rattle.rbd_catalog.specs.Profile.{changed_extent}
use Rattle.rbd_slots.specs.Advance.{track_of}
use Rattle.rbd_slots.specs.Session.{SessionView, held_in, running_at, running_in, seat_of}
use Rattle.rbd_slots.specs.Waits.{waits}
use Rattle.rbd_slots.specs.declared.running.Occupant.{Occupant}
use Rattle.rbd_slots.specs.declared.running.Occupant.TheVariants as occupant
use Rattle.rbd_slots.specs.declared.running.Running.{Running}
use Rattle.rbd_site.specs.Log.{SiteLog, after_all as after_lines}
use Rattle.rbd_site.specs.Records.{Records, no_records}
use Rattle.rbd_site.specs.Step.{after_served, answer_served, answer_to, is_fenced}
use Rattle.rbd_watch.specs.Posting.{notice_numbered}
use Rattle.rbd_watch.specs.Watching.{oldest_of}
use Rattle.rbd_world.specs.declared.event.Event.{Event}
use Rattle.rbd_world.specs.declared.event.Event.TheVariants as event
use Rattle.rbd_world.specs.declared.event.Outcome.{Outcome}
use Rattle.rbd_world.specs.Run.{Began, Did, Expired, Happening, Heard, House, Itself, Nothing, OnWay, Refused, Trimmed, Waited}
use Rattle.rbd_world.specs.Sound.{IsNewWorld, first_life}
use Rattle.rbd_world.proofs.FreshLives.{fresh_locks}
use Rattle.rbd_world.specs.Step.{BeginsIn, Does, Goes, IsWorldStep, begins_of, come, delivered, done_by, ended_watch, goes_on_by, heard_by, is_begun, next_number, operation_at, polled, polled_in, releases, reply_at, reply_on_way, restarted, restarted_of, submitted}
use Rattle.rbd_world.specs.World.{LivesView, WorldView, client_in, late_of, lives_in, records_in, running_of, sent_in, site_in}
use Rattle.rbd_schedule.specs.Starts.{is_ended}
use Rattle.rbd_plays.specs.OneChanger.{holds_back, is_replied, takes_the_lock}
use Rattle.rbd_plays.proofs.Acting.{newcomer_is_tame, owned_fed, owned_on_way, owned_released, ways_are_early}
use Rattle.rbd_catalog.specs.Asking.{AsksOnly}
use Rattle.rbd_catalog.specs.Follows.{TakesNoLock}
use Rattle.rbd_plays.proofs.Counts.{IsFree, IsNoQuiesce, heard_free, heard_owned, taken_owned}
use Rattle.rbd_plays.proofs.Owners.{AsksNobody, IsNoFence, IsNoRequest, Keeps, asks_for_lock, answers, gives_up, held_by_another, no_fence, no_request, numbered_asks, owner_at, served_keeps, served_taken}
use Rattle.rbd_plays.proofs.Tame.{IsTame, IsTameSlot, tame_begun, tame_fed, tame_on_way, tame_released, tame_served}
use Rattle.rbd_plays.proofs.Unhindered.{GoesOnWell, HasOrTook, IsUnhindered, done, keeps_doing, keeps_quietly, keeps_still}
use Rattle.rbd_plays.proofs.Ways.{IsFreeFor, is_early}

-- the event may come: what it submits leaves changes to one session, and it stops nobody
abbrev pub MayCome : (changer : ℕ) → Event → Type 0
MayCome changer (event.Submit session line c) = (takes_the_lock c ≡ true → session ≡ changer) × (holds_back c ≡ false)
MayCome changer (event.Stop session) = ⊥
MayCome changer e = Unit {0}

-- ---- ways

quiets : (c : Command) → holds_back c ≡ false → IsNoQuiesce (quiescing_of c)
quiets (command.Quiesce image) none = absurd (true≢false none)
quiets c none = tt

release_takes_none : (at : ReleaseStage) (image : ℕ) → TakesNoLock (release_op_at at image)
release_takes_none releasing.Dropping image = tt
release_takes_none releasing.Telling image = tt

early_fences_none : (at : Stage) (image : ℕ) → is_early at ≡ true → IsNoFence (op_at_stage at image)
early_fences_none stage.Watching image early = tt
early_fences_none stage.Taking image early = tt
early_fences_none (stage.Looking owner) image early = tt
early_fences_none stage.Asking image early = tt
early_fences_none (stage.Fencing owner) image early = absurd (false≢true early)
early_fences_none (stage.Breaking owner) image early = tt

early_asks_none : (at : Stage) (image : ℕ) → is_early at ≡ true → IsNoRequest (op_at_stage at image)
early_asks_none stage.Watching image early = tt
early_asks_none stage.Taking image early = tt
early_asks_none (stage.Looking owner) image early = tt
early_asks_none stage.Asking image early = absurd (false≢true early)
early_asks_none (stage.Fencing owner) image early = tt
early_asks_none (stage.Breaking owner) image early = tt

pub free_for : (at : Stage) (told : Answer) → ((owner : Instance) → at ≡ stage.Taking → told ≡ answer.Held owner → ⊥) → IsFreeFor at told
free_for stage.Taking (answer.Held owner) never = never owner refl refl
free_for stage.Taking told never = tt
free_for at told never = tt

-- who has a lock behind an early step had it before, or took it
took : (r : Records) (me : Instance) (at : Stage) (on image : ℕ) (who : Instance) → is_early at ≡ true → owner_at (after_served r me (op_at_stage at on)) image ≡ Some who
    → Keeps me (gives_up image (op_at_stage at on)) (owner_at r image) who ⊎ ((at ≡ stage.Taking) × (image ≡ on) × (who ≡ me) × (answer_served r me (op_at_stage at on) ≡ answer.Done))
took r me stage.Watching on image who early is = inl (served_keeps r me (op_at_stage stage.Watching on) image who tt is)
took r me stage.Taking on image who early is = by (served_taken r me on image who is)
  where
    by : (owner_at r image ≡ Some who) ⊎ ((image ≡ on) × (who ≡ me) × (answer_served r me (op.Header on header.LockTake) ≡ answer.Done))
        → Keeps me false (owner_at r image) who ⊎ ((stage.Taking ≡ stage.Taking) × (image ≡ on) × (who ≡ me) × (answer_served r me (op.Header on header.LockTake) ≡ answer.Done))
    by (inl had) = inl (record { had = had; kept = λ gives. absurd (false≢true gives) })
    by (inr (same, mine, told)) = inr (refl, same, mine, told)
took r me (stage.Looking owner) on image who early is = absurd (false≢true early)
took r me stage.Asking on image who early is = absurd (false≢true early)
took r me (stage.Fencing owner) on image who early is = absurd (false≢true early)
took r me (stage.Breaking owner) on image who early is = absurd (false≢true early)

-- and then it counts
take_counts : (site : SiteId) (on : ℕ) (at : Stage) (told : Answer) (image : ℕ) (s : LockState) → at ≡ stage.Taking → told ≡ answer.Done → image ≡ on
    → (after_all (comings_of quiescing.Leaves None site (op_at_stage at on) (fed.Answer told)) site image s).owned ≡ true
take_counts site on at told image s takes done same =
    ap (λ (x : Stage). (after_all (comings_of quiescing.Leaves None site (op_at_stage x on) (fed.Answer told)) site image s).owned) takes
    ∙ ap (λ (a : Answer). (after_all (comings_of quiescing.Leaves None site (op.Header on header.LockTake) (fed.Answer a)) site image s).owned) done
    ∙ ap (λ n. (after_all (comings_of quiescing.Leaves None site (op.Header on header.LockTake) (fed.Answer answer.Done)) site n s).owned) same
    ∙ taken_owned site on s

module _ {R : Type 0} (stands : R → Standing) (changer : ℕ) where
  -- ---- a world in which a lock is taken

  -- nobody is told that another one has it
  pub nobody_else : (w : WorldView R) → IsUnhindered stands changer w → (session : ℕ) (c : ClientView R) → client_in session w.lives ≡ Some c → session ≡ changer → (s : SiteId) (at : Stage) (image : ℕ)
      → IsFreeFor at (answer_to (records_in s w.sites) c.session.instance (op_at_stage at image))
  nobody_else w is session c there same s at image = free_for at (answer_to (records_in s w.sites) c.session.instance (op_at_stage at image)) never
    where
      never : (owner : Instance) → at ≡ stage.Taking → answer_to (records_in s w.sites) c.session.instance (op_at_stage at image) ≡ answer.Held owner → ⊥
      never owner takes told =
          let held = held_by_another (records_in s w.sites) c.session.instance image owner
          (sym (answers (records_in s w.sites) c.session.instance (op.Header image header.LockTake) (is.sites s)) ∙ ap (λ (x : Stage). answer_to (records_in s w.sites) c.session.instance (op_at_stage x image)) (sym takes) ∙ told) in
          let has = is.owners s image owner held.0 in
          let one : has.client ≡ c = same_Some has.client c (sym has.runs ∙ ap (λ n. client_in n w.lives) (sym same) ∙ there) in
          held.1 (sym has.is ∙ ap (λ (x : ClientView R). x.session.instance) one)

  -- ---- an operation

  module _ (old new : WorldView R) (was : IsUnhindered stands changer old) (session slot : ℕ) (c : ClientView R) (there : client_in session old.lives ≡ Some c) where
    tame_there : IsTame stands (session == changer) c
    tame_there = was.tame session c there

    -- of a request itself
    request_keeps : (r : Running R) (held : held_in slot c.session.slots ≡ Some (occupant.Running r)) (acts : actor_at stands slot c ≡ actor.Request) (s : SiteId) (o : Op) (reply : Option Reply) → TakesNoLock o
        → Does stands (event.Poll session slot) (Did (operation_at (site_in s old.sites) c.session.instance (Itself r.line) s o) reply) old new → IsUnhindered stands changer new
    request_keeps r held acts s o reply may does =
        keeps_doing stands changer old new session slot c there (Itself r.line) s o reply does was
        (λ d goes.
        let fed : RequestIsFed stands slot s o (fed.Answer (answer_to (records_in s old.sites) c.session.instance o)) reply c d
        = subst (IsFedBy stands slot s o (fed.Answer (answer_to (records_in s old.sites) c.session.instance o)) reply c d) acts goes.fed in
        record {
          owned = λ at image keeps is.
              owned_fed stands (session == changer) c tame_there slot d at image s o (answer_to (records_in s old.sites) c.session.instance o) reply r (ap running_in held) fed keeps is;
          tame = tame_fed stands (session == changer) slot c d goes.slots goes.states s o (answer_to (records_in s old.sites) c.session.instance o) reply r held fed tame_there;
        })
        (no_fence o may) (no_request o may) (λ image who is. inl (served_keeps (records_in s old.sites) c.session.instance o image who may is))

    -- of a release
    release_keeps : (x : Release) (acts : actor_at stands slot c ≡ actor.Release x)
        → Does stands (event.Poll session slot) (Did (operation_at (site_in x.site old.sites) c.session.instance House x.site (release_op x)) None) old new → IsUnhindered stands changer new
    release_keeps x acts does =
        let o = release_op x in
        let s = x.site in
        let told = answer_to (records_in s old.sites) c.session.instance o in
        let may = release_takes_none x.stage x.image in
        keeps_doing stands changer old new session slot c there House s o None does was
        (λ d goes.
        let fed : ReleaseIsFed x s o (fed.Answer told) None c d = subst (IsFedBy stands slot s o (fed.Answer told) None c d) acts goes.fed in
        record {
          owned = λ at image keeps is. owned_released stands (session == changer) c tame_there slot d at image s o told None x fed keeps is;
          tame = tame_released stands (session == changer) c d s o told None x fed tame_there;
        })
        (no_fence o may) (no_request o may) (λ image who is. inl (served_keeps (records_in s old.sites) c.session.instance o image who may is))

    -- of a way
    module _ (r : Running R) (held : held_in slot c.session.slots ≡ Some (occupant.Running r)) (a : Acquire) (acts : actor_at stands slot c ≡ actor.Way a) where
      abbrev told : Answer
      told = answer_to (records_in a.site old.sites) c.session.instance (op_of a)

      abbrev reply : Option Reply
      reply = reply_on_way a told

      early : ((session == changer) ≡ true) × (is_early a.stage ≡ true)
      early = ways_are_early stands (session == changer) c tame_there slot r a (ap running_in held) acts

      abbrev GoesSo : ClientView R → Type 0
      GoesSo d = Goes stands slot (operation_at (site_in a.site old.sites) c.session.instance (OnWay r.line) a.site (op_of a)) reply c d

      fed_way : (d : ClientView R) → GoesSo d → WayIsFed a slot a.site (op_of a) (fed.Answer told) reply c d
      fed_way d goes = subst (IsFedBy stands slot a.site (op_of a) (fed.Answer told) reply c d) acts goes.fed

      has : (image : ℕ) (who : Instance) → owner_at (after_served (records_in a.site old.sites) c.session.instance (op_of a)) image ≡ Some who
          → HasOrTook stands changer old new session slot c there (OnWay r.line) a.site (op_of a) reply image who
      has image who owns = by (took (records_in a.site old.sites) c.session.instance a.stage a.image image who early.1 owns)
        where
          by : Keeps c.session.instance (gives_up image (op_of a)) (owner_at (records_in a.site old.sites) image) who
              ⊎ ((a.stage ≡ stage.Taking) × (image ≡ a.image) × (who ≡ c.session.instance) × (answer_served (records_in a.site old.sites) c.session.instance (op_of a) ≡ answer.Done))
              → HasOrTook stands changer old new session slot c there (OnWay r.line) a.site (op_of a) reply image who
          by (inl keeps) = inl keeps
          by (inr (takes, same, mine, served)) = inr (
            eqb-true session changer early.0,
            mine,
            λ d goes.
                ap (λ (s : LockState). s.owned) ((fed_way d goes).counts a.site image)
                ∙ take_counts a.site a.image a.stage told image (lock_state_at a.site image c.locks) takes
                (answers (records_in a.site old.sites) c.session.instance (op_of a) (was.sites a.site) ∙ served) same,
          )

      way_keeps : Does stands (event.Poll session slot) (Did (operation_at (site_in a.site old.sites) c.session.instance (OnWay r.line) a.site (op_of a)) reply) old new → IsUnhindered stands changer new
      way_keeps does =
          keeps_doing stands changer old new session slot c there (OnWay r.line) a.site (op_of a) reply does was
          (λ d goes. record {
            owned = λ at image keeps is. owned_on_way stands (session == changer) c tame_there slot d at image a.site (op_of a) told reply a (fed_way d goes) keeps is;
            tame = subst (λ b. IsTame stands b d) (sym early.0)
                (tame_on_way stands slot c d goes.slots goes.states a.site (op_of a) told reply r a held early.1
                (nobody_else old was session c there (eqb-true session changer early.0) a.site a.stage a.image) (fed_way d goes) (subst (λ b. IsTame stands b c) early.0 tame_there));
          })
          (early_fences_none a.stage a.image early.1) (early_asks_none a.stage a.image early.1) has

    -- ---- a poll

    abbrev Polls : Happening → Type 0
    Polls h = Does stands (event.Poll session slot) h old new

    nothing_polled : Polls Nothing → IsUnhindered stands changer new
    nothing_polled does = keeps_still stands changer (event.Poll session slot) Nothing old new does tt was tt (λ x d same. same)

    waits_polled : Polls Waited → IsUnhindered stands changer new
    waits_polled does = keeps_still stands changer (event.Poll session slot) Waited old new does tt was tt (λ x d same. same)

    served_keeps_on : (home : SiteId) (line : ℕ) (reply : Reply) → Polls (Refused home line reply) → IsUnhindered stands changer new
    served_keeps_on home line reply does =
        keeps_quietly stands changer (event.Poll session slot) (Refused home line reply) old new does tt was tt
        (λ n x d at named serves. record {
          instance = serves.client.instance;
          owned = λ s image is. subst (λ l. IsTrue (lock_state_at s image l).owned) (sym serves.house.locks) is;
          tame = λ tame. tame_served stands (n == changer) slot x d serves.slots serves.states serves.held serves.house.locks tame;
        })

    plan_keeps : (r : Running R) → held_in slot c.session.slots ≡ Some (occupant.Running r) → actor_at stands slot c ≡ actor.Request → (plan : Plan) → (stands r.request).plan ≡ plan
        → Polls (done_by old.sites c.session.instance r.line (stands r.request).labels plan) → IsUnhindered stands changer new
    plan_keeps r held acts (Ask s why o next) is does =
        request_keeps r held acts s o (reply_at (at_operation (stands r.request).labels (next (answer_to (records_in s old.sites) c.session.instance o))))
        (subst (AsksOnly TakesNoLock) is (tame_there.slots slot r (ap running_in held)).asks.plan).0 does
    plan_keeps r held acts (Await wait next) is does = nothing_polled does
    plan_keeps r held acts (Note s image e next) is does = nothing_polled does
    plan_keeps r held acts (Return last) is does = nothing_polled does
    plan_keeps r held acts (Goto label) is does = nothing_polled does

    running_keeps : (r : Running R) → held_in slot c.session.slots ≡ Some (occupant.Running r) → (who : Actor) → actor_at stands slot c ≡ who → Polls (goes_on_by stands old.sites c slot r who) → IsUnhindered stands changer new
    running_keeps r held actor.Nobody acts does = waits_polled does
    running_keeps r held actor.Request acts does = by (waits slot (track_of r c.session.lines)) does
      where
        by : (b : Bool) → Polls (cond b Waited (done_by old.sites c.session.instance r.line (stands r.request).labels (stands r.request).plan)) → IsUnhindered stands changer new
        by true does = waits_polled does
        by false does = plan_keeps r held acts (stands r.request).plan refl does
    running_keeps r held (actor.Way a) acts does = way_keeps r held a acts does
    running_keeps r held (actor.Release x) acts does = waits_polled does

    house_keeps : (who : Actor) → actor_at stands slot c ≡ who → Polls (releases old.sites c.session.instance who) → IsUnhindered stands changer new
    house_keeps actor.Nobody acts does = waits_polled does
    house_keeps actor.Request acts does = waits_polled does
    house_keeps (actor.Way a) acts does = waits_polled does
    house_keeps (actor.Release x) acts does = release_keeps x acts does

    held_keeps : (o : Option (Occupant R)) → held_in slot c.session.slots ≡ o → Polls (polled_in stands old.sites c slot o) → IsUnhindered stands changer new
    held_keeps None held does = by (slot == 0) does
      where
        by : (b : Bool) → Polls (cond b (releases old.sites c.session.instance (actor_at stands slot c)) Nothing) → IsUnhindered stands changer new
        by true does = house_keeps (actor_at stands slot c) refl does
        by false does = nothing_polled does
    held_keeps (Some (occupant.Refused line refusal)) held does = served_keeps_on c.session.home line _ does
    held_keeps (Some (occupant.Running r)) held does = running_keeps r held (actor_at stands slot c) refl does

  poll_keeps : (old new : WorldView R) → IsUnhindered stands changer old → (session slot : ℕ) (o : Option (ClientView R)) → client_in session old.lives ≡ o
      → Does stands (event.Poll session slot) (polled stands old.sites slot o) old new → IsUnhindered stands changer new
  poll_keeps old new was session slot None there does =
      keeps_still stands changer (event.Poll session slot) Nothing old new does tt was tt (λ x d same. same)
  poll_keeps old new was session slot (Some c) there does = held_keeps old new was session slot c there (held_in slot c.session.slots) refl does

  -- ---- the other events

  module _ (old new : WorldView R) (was : IsUnhindered stands changer old) where
    -- a command that leaves changes to one session begins
    begins_keeps : (session line : ℕ) (command : Command) (c : ClientView R) → MayCome changer (event.Submit session line command)
        → Does stands (event.Submit session line command) (Began (begins_of c.session.instance line command) c.session.lowest) old new → IsUnhindered stands changer new
    begins_keeps session line command c may does =
        keeps_quietly stands changer (event.Submit session line command) (Began (begins_of c.session.instance line command) c.session.lowest) old new does tt was tt (λ n x d at named begins. well n x d named begins)
      where
        takes : (n : ℕ) → (session == n) ≡ true → (n == changer) ≡ false → takes_the_lock command ≡ false
        takes n named other = by (takes_the_lock command) refl
          where
            by : (b : Bool) → takes_the_lock command ≡ b → b ≡ false
            by true is = absurd (true≢false (sym (eq-eqb n changer (sym (eqb-true session n named) ∙ may.0 is)) ∙ other))
            by false is = refl

        well : (n : ℕ) (x d : ClientView R) → (session == n) ≡ true → BeginsIn stands line command x d
            → GoesOnWell stands (n == changer) x d
        well n x d named begins = record {
          instance = begins.begins.client.instance;
          owned = λ s image is. subst (λ l. IsTrue (lock_state_at s image l).owned) (sym begins.house.locks) is;
          tame = λ tame.
              tame_begun stands (n == changer) x.session.lowest x d begins.begins.slots begins.states
              (newcomer_is_tame stands (n == changer) command (takes n named) changed_extent (seat_of x.session) line (held_in x.session.lowest d.session.slots) (quiescing_of command) (slot_state x.session.lowest d.slots)
              begins.begins.held begins.state (quiets command may.1))
              begins.house.locks tame;
        }

    nothing_submitted : (session line : ℕ) (command : Command) → Does stands (event.Submit session line command) Nothing old new → IsUnhindered stands changer new
    nothing_submitted session line command does = keeps_still stands changer (event.Submit session line command) Nothing old new does tt was tt (λ x d same. same)

    submit_keeps : (session line : ℕ) (command : Command) → MayCome changer (event.Submit session line command) → (begun : Bool) (o : Option (ClientView R))
        → Does stands (event.Submit session line command) (submitted begun line command o) old new → IsUnhindered stands changer new
    submit_keeps session line command may begun None does = nothing_submitted session line command does
    submit_keeps session line command may begun (Some c) does = by (begun || nat_lt 64 c.session.lowest) does
      where
        by : (b : Bool) → Does stands (event.Submit session line command) (cond b Nothing (Began (begins_of c.session.instance line command) c.session.lowest)) old new → IsUnhindered stands changer new
        by true does = nothing_submitted session line command does
        by false does = begins_keeps session line command c may does

    -- a notice is heard that asks for no lock
    deliver_nothing : (number : ℕ) → Does stands (event.Deliver number) Nothing old new → IsUnhindered stands changer new
    deliver_nothing number does =
        keeps_still stands changer (event.Deliver number) Nothing old new does tt was tt (λ x d same. same)

    hears_keeps : (number : ℕ) (notice : Notice) → asks_for_lock notice.kind ≡ false → Does stands (event.Deliver number) (Heard notice) old new → IsUnhindered stands changer new
    hears_keeps number notice none does =
        keeps_quietly stands changer (event.Deliver number) (Heard notice) old new does tt was tt
        (λ n x d at named hears. record {
          instance = ap (λ (s : SessionView R). s.instance) hears.session;
          owned = λ s image is. ap (λ (t : LockState). t.owned) (hears.locks s image) ∙ heard_owned notice s image (lock_state_at s image x.locks) is;
          tame = λ tame. record {
            slots = λ slot r runs.
                subst (λ l. IsTameSlot stands (n == changer) r (slot_state slot l)) (sym hears.slots) (tame.slots slot r (sym (ap (running_at slot) hears.session) ∙ runs));
            locks = λ s image. subst IsFree (sym (hears.locks s image)) (heard_free notice s image (lock_state_at s image x.locks) none (tame.locks s image));
          };
        })

    delivery_keeps : (number : ℕ) (o : Option Notice) → notice_numbered number old.sites.mail ≡ o → Does stands (event.Deliver number) (delivered o old.lives) old new → IsUnhindered stands changer new
    delivery_keeps number None at does = deliver_nothing number does
    delivery_keeps number (Some notice) at does = by (client_in notice.to.session old.lives) does
      where
        by : (c : Option (ClientView R)) → Does stands (event.Deliver number) (heard_by notice c) old new → IsUnhindered stands changer new
        by None does = deliver_nothing number does
        by (Some c) does = go (same_instance c.session.instance notice.to) does
          where
            go : (b : Bool) → Does stands (event.Deliver number) (cond b (Heard notice) Nothing) old new → IsUnhindered stands changer new
            go true does = hears_keeps number notice (numbered_asks number old.sites.mail notice was.mail at) does
            go false does = deliver_nothing number does

    -- the store's own steps
    trim_keeps : (s : SiteId) (image object : ℕ) (b : Bool) (number : ℕ) → Does stands (event.Trim s image object) (cond b (Trimmed s number image object) Nothing) old new → IsUnhindered stands changer new
    trim_keeps s image object true number does =
        keeps_still stands changer (event.Trim s image object) (Trimmed s number image object) old new does tt was tt (λ x d same. same)
    trim_keeps s image object false number does =
        keeps_still stands changer (event.Trim s image object) Nothing old new does tt was tt (λ x d same. same)

    expiry_keeps : (session : ℕ) (s : SiteId) (image : ℕ) (at_site : SiteLog) (o : Option Instance) → Does stands (event.Expire session s image) (ended_watch at_site s image o) old new → IsUnhindered stands changer new
    expiry_keeps session s image at_site None does =
        keeps_still stands changer (event.Expire session s image) Nothing old new does tt was tt (λ x d same. same)
    expiry_keeps session s image at_site (Some who) does =
        keeps_still stands changer (event.Expire session s image) (Expired s (next_number at_site) image who) old new does tt was tt (λ x d same. same)

    -- nothing comes late, and nobody begins again
    nothing_late : (session slot : ℕ) → Does stands (event.Late session slot) Nothing old new → IsUnhindered stands changer new
    nothing_late session slot does =
        keeps_still stands changer (event.Late session slot) Nothing old new does tt was tt (λ x d same. same)

    late_keeps : (session slot : ℕ) (o : Option (LivesView R)) → lives_in session old.lives ≡ o → Does stands (event.Late session slot) (come old.sites slot (sent_in slot (late_of o))) old new → IsUnhindered stands changer new
    late_keeps session slot None there does = nothing_late session slot does
    late_keeps session slot (Some l) there does =
        nothing_late session slot (subst (λ v. Does stands (event.Late session slot) (come old.sites slot (sent_in slot v)) old new) (was.late session l there) does)

    nothing_begins : (session : ℕ) → Does stands (event.Restart session) Nothing old new → IsUnhindered stands changer new
    nothing_begins session does =
        keeps_still stands changer (event.Restart session) Nothing old new does tt was tt (λ x d same. same)

    restart_keeps : (session : ℕ) (o : Option (LivesView R)) → lives_in session old.lives ≡ o → Does stands (event.Restart session) (restarted o) old new → IsUnhindered stands changer new
    restart_keeps session None there does = nothing_begins session does
    restart_keeps session (Some l) there does = by l.running (was.runs session l there) does
      where
        by : (c : Option (ClientView R)) → is_some c ≡ true → Does stands (event.Restart session) (restarted_of l.latest c) old new → IsUnhindered stands changer new
        by None some does = absurd (false≢true some)
        by (Some c) some does = nothing_begins session does

  -- ---- any event

  pub step_keeps : (e : Event) (result : Outcome) (old new : WorldView R) → MayCome changer e → IsWorldStep stands e old result new → IsUnhindered stands changer old → IsUnhindered stands changer new
  step_keeps (event.Submit session line c) result old new may step was = submit_keeps old new was session line c may (is_begun line old.history) (client_in session old.lives) step.1
  step_keeps (event.Poll session slot) result old new may step was = poll_keeps old new was session slot (client_in session old.lives) refl step.1
  step_keeps (event.Deliver number) result old new may step was = delivery_keeps old new was number (notice_numbered number old.sites.mail) refl step.1
  step_keeps (event.Expire session s image) result old new may step was =
      expiry_keeps old new was session s image (site_in s old.sites) (oldest_of session ((records_in s old.sites).watchers image)) step.1
  step_keeps (event.Stop session) result old new may step was = absurd may
  step_keeps (event.Late session slot) result old new may step was = late_keeps old new was session slot (lives_in session old.lives) refl step.1
  step_keeps (event.Restart session) result old new may step was = restart_keeps old new was session (lives_in session old.lives) refl step.1
  step_keeps (event.Trim s image object) result old new may step was =
      trim_keeps old new was s image object (is_some ((records_in s old.sites).objects image object)) (next_number (site_in s old.sites)) step.1

  -- ---- a new world

  pub begins_unhindered : (w : WorldView R) → IsNewWorld w → IsUnhindered stands changer w
  begins_unhindered w new = record {
    late = λ session l there. (new.lives session l there).late;
    runs = λ session l there. ap is_some (new.lives session l there).runs;
    tame = λ session c there. fresh_is_tame session c there (lives_in session w.lives) refl;
    sites = λ s i. ap (λ log. is_fenced (after_lines no_records log) i) (new.sites s) ∙ nobody_fenced i;
    owners = λ s image who has. absurd (none-some who (sym (ap (λ log. owner_at (after_lines no_records log) image) (new.sites s)) ∙ has));
    mail = subst AsksNobody (sym new.mail) tt;
    replies = λ line. ap (is_ended line) new.history ∙ sym (ap (is_replied line) new.history);
  }
    where
      nobody_fenced : (i : Instance) → is_fenced no_records i ≡ false
      nobody_fenced i = contains-empty instance_cmp i

      fresh_is_tame : (session : ℕ) (c : ClientView R) → client_in session w.lives ≡ Some c → (o : Option (LivesView R)) → lives_in session w.lives ≡ o → IsTame stands (session == changer) c
      fresh_is_tame session c there None at = absurd (none-some c (sym (ap running_of at) ∙ there))
      fresh_is_tame session c there (Some l) at =
          let first = new.lives session l at in
          let same : first.client ≡ c = same_Some first.client c (sym first.runs ∙ sym (ap running_of at) ∙ there) in
          subst (IsTame stands (session == changer)) same (record {
            slots = λ slot r runs. absurd (none-some r (sym (ap running_in (first.fresh.slots slot)) ∙ runs));
            locks = λ s image. subst IsFree (sym (fresh_locks (first_life session) l.home first.client first.fresh s image)) (record { quiesced = refl; asked = refl });
          })
