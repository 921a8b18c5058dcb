-- Only a submission begins a command.
use Rattle.std.proofs.Common.{◌≡◌, ℕ, ◌==◌, ◌||◌, cond, Bool, true, false, List, Option, Some, None, is_some, refl, ap, ◌∙◌}
use Rattle.rbd_client.specs.declared.actor.Actor.{Actor}
use Rattle.rbd_client.specs.declared.actor.Actor.TheVariants as actor
use Rattle.rbd_client.specs.Actor.{actor_at}
use Rattle.rbd_client.specs.Client.{ClientView}
use Rattle.rbd_kinds.specs.declared.id.Instance.{Instance}
use Rattle.rbd_kinds.specs.declared.id.SiteId.{SiteId}
use Rattle.rbd_kinds.specs.declared.notice.Notice.{Notice}
use Rattle.rbd_kinds.specs.declared.reply.Reply.{Reply}
use Rattle.rbd_kinds.specs.Instances.{same_instance}
use Rattle.rbd_machine.specs.Label.{Label}
use Rattle.rbd_machine.specs.Path.{at_operation}
use Rattle.rbd_machine.specs.Plan.{Plan, Ask, Await, Note, Return, Goto, Standing}
use Rattle.rbd_lock.specs.Acquire.{op_of}
use Rattle.rbd_lock.specs.Release.{release_op}
use Rattle.rbd_slots.specs.Advance.{track_of}
use Rattle.rbd_slots.specs.Session.{held_in}
use Rattle.rbd_slots.specs.Waits.{waits}
use Rattle.rbd_slots.specs.declared.running.Occupant.{Occupant}
use Rattle.rbd_slots.specs.declared.running.Occupant.TheVariants as occupant
use Rattle.rbd_slots.specs.declared.running.Running.{Running}
use Rattle.rbd_site.specs.Log.{SiteLog}
use Rattle.rbd_site.specs.Step.{answer_to}
use Rattle.rbd_watch.specs.Posting.{notice_numbered}
use Rattle.rbd_watch.specs.Watching.{oldest_of}
use Rattle.rbd_world.specs.declared.event.Event.{Event}
use Rattle.rbd_world.specs.declared.event.Event.TheVariants as event
use Rattle.rbd_world.specs.declared.sites.Sites.{Sites}
use Rattle.rbd_world.specs.Run.{AfterStop, House, Itself, OnWay, Nothing, Waited, Did, Heard, Restarted, Trimmed, Operation, Sent, cause_of, ending_entries, entries_of, fence_of}
use Rattle.rbd_world.specs.Step.{come, delivered, done_by, ended_watch, goes_on_by, happening, heard_by, is_begun, lost_by, next_life, operation_at, polled, polled_in, releases, reply_at, reply_on_way, restarted, restarted_of, stopped}
use Rattle.rbd_world.specs.World.{LivesView, WorldView, client_in, late_at, lives_in, records_in, site_in}
use Rattle.rbd_world.proofs.Runs.{endings_begin_nothing, lost_begin_nothing, no_start}
use Rattle.rbd_schedule.specs.Playing.{IsNoStart}

operation_begins : (line : ℕ) (o : Operation) (reply : Option Reply) → is_begun line (entries_of (Did o reply)) ≡ false
operation_begins line o reply =
    ap (λ b. b || is_begun line (ending_entries o.by reply)) (no_start line (cause_of o.instance o.by) o.site o.number (fence_of o.op o.answer) o.effect)
    ∙ endings_begin_nothing line o.by reply

trim_begins : (line : ℕ) (there : Bool) (s : SiteId) (number image object : ℕ) → is_begun line (entries_of (cond there (Trimmed s number image object) Nothing)) ≡ false
trim_begins line true s number image object = refl
trim_begins line false s number image object = refl

watch_begins : (line : ℕ) (at_site : SiteLog) (s : SiteId) (image : ℕ) (o : Option Instance) → is_begun line (entries_of (ended_watch at_site s image o)) ≡ false
watch_begins line at_site s image None = refl
watch_begins line at_site s image (Some who) = refl

late_begins : (line : ℕ) (sites : Sites) (slot : ℕ) (o : Option Sent) → is_begun line (entries_of (come sites slot o)) ≡ false
late_begins line sites slot None = refl
late_begins line sites slot (Some x) = operation_begins line (operation_at (site_in x.site sites) x.instance (AfterStop slot) x.site x.op) None

module _ {R : Type 0} (stands : R → Standing) where
  plan_begins : (line : ℕ) (sites : Sites) (who : Instance) (other : ℕ) (labels : Label → Plan) (plan : Plan) → is_begun line (entries_of (done_by sites who other labels plan)) ≡ false
  plan_begins line sites who other labels (Ask s why o next) =
      operation_begins line (operation_at (site_in s sites) who (Itself other) s o) (reply_at (at_operation labels (next (answer_to (records_in s sites) who o))))
  plan_begins line sites who other labels (Await wait next) = refl
  plan_begins line sites who other labels (Note s image e next) = refl
  plan_begins line sites who other labels (Return reply) = refl
  plan_begins line sites who other labels (Goto label) = refl

  release_begins : (line : ℕ) (sites : Sites) (who : Instance) (a : Actor) → is_begun line (entries_of (releases sites who a)) ≡ false
  release_begins line sites who actor.Nobody = refl
  release_begins line sites who actor.Request = refl
  release_begins line sites who (actor.Way a) = refl
  release_begins line sites who (actor.Release r) = operation_begins line (operation_at (site_in r.site sites) who House r.site (release_op r)) None

  going_begins : (line : ℕ) (sites : Sites) (c : ClientView R) (slot : ℕ) (r : Running R) (a : Actor) → is_begun line (entries_of (goes_on_by stands sites c slot r a)) ≡ false
  going_begins line sites c slot r actor.Nobody = refl
  going_begins line sites c slot r actor.Request = by (waits slot (track_of r c.session.lines))
    where
      by : (w : Bool) → is_begun line (entries_of (cond w Waited (done_by sites c.session.instance r.line (stands r.request).labels (stands r.request).plan))) ≡ false
      by true = refl
      by false = plan_begins line sites c.session.instance r.line (stands r.request).labels (stands r.request).plan
  going_begins line sites c slot r (actor.Way a) =
      operation_begins line (operation_at (site_in a.site sites) c.session.instance (OnWay r.line) a.site (op_of a)) (reply_on_way a (answer_to (records_in a.site sites) c.session.instance (op_of a)))
  going_begins line sites c slot r (actor.Release x) = refl

  held_begins : (line : ℕ) (sites : Sites) (c : ClientView R) (slot : ℕ) (held : Option (Occupant R)) → is_begun line (entries_of (polled_in stands sites c slot held)) ≡ false
  held_begins line sites c slot None = by (slot == 0)
    where
      by : (b : Bool) → is_begun line (entries_of (cond b (releases sites c.session.instance (actor_at stands slot c)) Nothing)) ≡ false
      by true = release_begins line sites c.session.instance (actor_at stands slot c)
      by false = refl
  held_begins line sites c slot (Some (occupant.Refused other refusal)) = refl
  held_begins line sites c slot (Some (occupant.Running r)) = going_begins line sites c slot r (actor_at stands slot c)

  poll_begins : (line : ℕ) (sites : Sites) (slot : ℕ) (c : Option (ClientView R)) → is_begun line (entries_of (polled stands sites slot c)) ≡ false
  poll_begins line sites slot None = refl
  poll_begins line sites slot (Some c) = held_begins line sites c slot (held_in slot c.session.slots)

  hearing_begins : (line : ℕ) (n : Notice) (c : Option (ClientView R)) → is_begun line (entries_of (heard_by n c)) ≡ false
  hearing_begins line n None = refl
  hearing_begins line n (Some c) = by (same_instance c.session.instance n.to)
    where
      by : (b : Bool) → is_begun line (entries_of (cond b (Heard n) Nothing)) ≡ false
      by true = refl
      by false = refl

  delivery_begins : (line : ℕ) (lives : List (LivesView R)) (o : Option Notice) → is_begun line (entries_of (delivered o lives)) ≡ false
  delivery_begins line lives None = refl
  delivery_begins line lives (Some n) = hearing_begins line n (client_in n.to.session lives)

  stop_begins : (line : ℕ) (c : Option (ClientView R)) → is_begun line (entries_of (stopped stands c)) ≡ false
  stop_begins line None = refl
  stop_begins line (Some c) = lost_begin_nothing line (lost_by stands c)

  life_begins : (line : ℕ) (latest : Instance) (c : Option (ClientView R)) → is_begun line (entries_of (restarted_of latest c)) ≡ false
  life_begins line latest (Some c) = refl
  life_begins line latest None = by _
    where
      by : (b : Bool) → is_begun line (entries_of (cond b (Restarted (next_life latest)) Nothing)) ≡ false
      by true = refl
      by false = refl

  restart_begins : (line : ℕ) (l : Option (LivesView R)) → is_begun line (entries_of (restarted l)) ≡ false
  restart_begins line None = refl
  restart_begins line (Some l) = life_begins line l.latest l.running

  pub event_begins : (line : ℕ) (e : Event) (w : WorldView R) → IsNoStart e → is_begun line (entries_of (happening stands e w)) ≡ false
  event_begins line (event.Submit session number command) w none = absurd none
  event_begins line (event.Poll session slot) w none = poll_begins line w.sites slot (client_in session w.lives)
  event_begins line (event.Deliver number) w none = delivery_begins line w.lives (notice_numbered number w.sites.mail)
  event_begins line (event.Expire session s image) w none = watch_begins line (site_in s w.sites) s image (oldest_of session ((records_in s w.sites).watchers image))
  event_begins line (event.Stop session) w none = stop_begins line (client_in session w.lives)
  event_begins line (event.Late session slot) w none = late_begins line w.sites slot (late_at session slot w.lives)
  event_begins line (event.Restart session) w none = restart_begins line (lives_in session w.lives)
  event_begins line (event.Trim s image object) w none = trim_begins line (is_some ((records_in s w.sites).objects image object)) s _ image object
