-- Whatever event comes, a sound world stays sound: by what the event does.
use Rattle.std.proofs.Common.{◌≡◌, ℕ, ◌==◌, ◌||◌, nat_lt, cond, Bool, true, false, is_some, Option, Some, None, refl, sym, ap, ◌∙◌, subst}
use Rattle.std.proofs.lemmas.Bool.{or_parts}
use Rattle.rbd_client.specs.declared.actor.Actor.{Actor}
use Rattle.rbd_client.specs.declared.actor.Actor.TheVariants as actor
use Rattle.rbd_client.specs.Actor.{actor_at}
use Rattle.rbd_client.specs.Client.{ClientView}
use Rattle.rbd_commands.specs.declared.command.Command.{Command}
use Rattle.rbd_kinds.specs.declared.id.Instance.{Instance}
use Rattle.rbd_kinds.specs.declared.id.SiteId.{SiteId}
use Rattle.rbd_kinds.specs.declared.notice.Notice.{Notice}
use Rattle.rbd_kinds.specs.Instances.{same_instance}
use Rattle.rbd_machine.specs.Plan.{Plan, Ask, Await, Note, Return, Goto, Standing}
use Rattle.rbd_catalog.specs.Plans.{is_built}
use Rattle.rbd_slots.specs.declared.running.Occupant.{Occupant}
use Rattle.rbd_slots.specs.declared.running.Occupant.TheVariants as occupant
use Rattle.rbd_slots.specs.declared.running.Running.{Running}
use Rattle.rbd_slots.specs.Advance.{track_of}
use Rattle.rbd_slots.specs.Session.{held_in}
use Rattle.rbd_slots.specs.Waits.{waits}
use Rattle.rbd_watch.specs.Posting.{notice_numbered}
use Rattle.rbd_watch.specs.Watching.{oldest_of}
use Rattle.rbd_world.specs.declared.event.Event.{Event}
use Rattle.rbd_world.specs.declared.event.Event.TheVariants as event
use Rattle.rbd_world.specs.Run.{Happening, Nothing, Waited, Began, Trimmed, Expired, Heard, Restarted, Sent}
use Rattle.rbd_world.specs.Sound.{IsSoundWorld}
use Rattle.rbd_world.specs.Step.{Becomes, BecomesOf, Does, DoesAtSites, IsBuiltEvent, IsSoundIf, LivesOn, RunsOn, begins_of, come, delivered, done_by, ended_watch, goes_on_by, happening, heard_by, is_begun, late_behind, latest_behind, next_life, next_number, polled, polled_in, releases, restarted, restarted_of, stopped, submitted, trimmed_at}
use Rattle.rbd_world.specs.World.{LateView, LivesView, WorldView, client_in, late_at, lives_in, records_in, site_in}
use Rattle.rbd_world.proofs.Carried.{IsCarried, carried, of_event}
use Rattle.rbd_world.proofs.Coming.{came_keeps}
use Rattle.rbd_world.proofs.Hearing.{heard_keeps}
use Rattle.rbd_world.proofs.Newcomer.{began_keeps}
use Rattle.rbd_world.proofs.OnWay.{way_keeps}
use Rattle.rbd_world.proofs.Operated.{did_keeps}
use Rattle.rbd_world.proofs.OwningNow.{IsBy, IsByItsClient, polled_by_it}
use Rattle.rbd_world.proofs.Refusal.{refused_keeps}
use Rattle.rbd_world.proofs.Releasing.{release_keeps}
use Rattle.rbd_world.proofs.Rest.{expired_keeps, nothing_keeps, trimmed_keeps, waited_keeps}
use Rattle.rbd_world.proofs.Restarting.{restarted_keeps}
use Rattle.rbd_world.proofs.Stopping.{stopped_keeps}
use Rattle.rbd_site.proofs.WatchLemmas.{oldest_session}

-- ---- an event that leaves a session's lives as they were

module _ {R : Type 0} (stands : R → Standing) where
  same_lives : (a b : LivesView R) → b.home ≡ a.home → b.latest ≡ a.latest → b.running ≡ a.running → b.late ≡ a.late → b ≡ a
  same_lives a b home latest running late =
      ap (λ h. record { home = h; latest = b.latest; running = b.running; late = b.late }) home
      ∙ ap (λ l. record { home = a.home; latest = l; running = b.running; late = b.late }) latest
      ∙ ap (λ r. record { home = a.home; latest = a.latest; running = r; late = b.late }) running
      ∙ ap (λ l. record { home = a.home; latest = a.latest; running = a.running; late = l }) late

  same_running : (e : Event) (h : Happening) → ((x y : ClientView R) → Becomes stands e h x y → y ≡ x) → (o n : Option (ClientView R)) → BecomesOf stands e h o n → n ≡ o
  same_running e h same None n is = is
  same_running e h same (Some c) None is = absurd is
  same_running e h same (Some c) (Some d) is = ap Some (same c d is)

  leaves : (e : Event) (h : Happening) → ((x y : ClientView R) → Becomes stands e h x y → y ≡ x) → ((home : SiteId) (o n : Option (ClientView R)) → RunsOn stands e h home o n → BecomesOf stands e h o n)
      → ((l : Instance) → latest_behind h l ≡ l) → ((l : Option LateView) → late_behind e h l ≡ l) → (a b : LivesView R) → LivesOn stands e h a b → b ≡ a
  leaves e h same runs_on latest late a b on =
      same_lives a b on.home (on.latest ∙ latest a.latest) (same_running e h same a.running b.running (runs_on a.home a.running b.running on.running)) (on.late ∙ late a.late)

module _ {R : Type 0} (stands : R → Standing) (old new : WorldView R) (w : IsSoundWorld stands old) (sound : (m : ℕ) → IsSoundIf stands (client_in m new.lives)) where
  abbrev Keeps : Event → Happening → Type 0
  Keeps e h = Does stands e h old new → DoesAtSites h old.sites new.sites → IsCarried stands old new w h

  -- ---- a submission

  module _ (session line : ℕ) (command : Command) (built : is_built command ≡ true) where
    abbrev submit : Event
    submit = event.Submit session line command

    not_submitted : Keeps submit Nothing
    not_submitted = nothing_keeps stands old new w submit (leaves stands submit Nothing (λ x y is. is) (λ at o n is. is) (λ l. refl) (λ l. refl))

    submission : (o : Option (ClientView R)) → client_in session old.lives ≡ o → Keeps submit (submitted (is_begun line old.history) line command o)
    submission None there = not_submitted
    submission (Some c) there = by (is_begun line old.history || nat_lt 64 c.session.lowest) refl
      where
        by : (b : Bool) → (is_begun line old.history || nat_lt 64 c.session.lowest) ≡ b → Keeps submit (cond b Nothing (Began (begins_of c.session.instance line command) c.session.lowest))
        by true is = not_submitted
        by false is = λ does at_sites.
            began_keeps stands old new w session line command built c there (or_parts (is_begun line old.history) (nat_lt 64 c.session.lowest) is).0 does at_sites sound

  -- ---- a poll

  module _ (session slot : ℕ) where
    abbrev poll : Event
    poll = event.Poll session slot

    nothing : Keeps poll Nothing
    nothing = nothing_keeps stands old new w poll (leaves stands poll Nothing (λ x y is. is) (λ at o n is. is) (λ l. refl) (λ l. refl))

    waited : Keeps poll Waited
    waited = waited_keeps stands old new w poll (leaves stands poll Waited (λ x y is. is) (λ at o n is. is) (λ l. refl) (λ l. refl))

    module _ (c : ClientView R) (there : client_in session old.lives ≡ Some c) where
      module _ (r : Running R) (holds : held_in slot c.session.slots ≡ Some (occupant.Running r)) where
        operation : actor_at stands slot c ≡ actor.Request → waits slot (track_of r c.session.lines) ≡ false → (p : Plan) → (stands r.request).plan ≡ p
            → Keeps poll (done_by old.sites c.session.instance r.line (stands r.request).labels p)
        operation acts goes (Ask s why o next) asks = λ does at_sites.
            did_keeps stands old new w session slot c there r holds acts goes s why o next asks does at_sites sound
        operation acts goes (Await wait next) asks = nothing
        operation acts goes (Note s image event next) asks = nothing
        operation acts goes (Return reply) asks = nothing
        operation acts goes (Goto label) asks = nothing

        goes_on : (a : Actor) → actor_at stands slot c ≡ a → Keeps poll (goes_on_by stands old.sites c slot r a)
        goes_on actor.Nobody acts = waited
        goes_on (actor.Release x) acts = waited
        goes_on (actor.Way a) acts = λ does at_sites. way_keeps stands old new w session slot c there r holds a acts does at_sites sound
        goes_on actor.Request acts = by (waits slot (track_of r c.session.lines)) refl
          where
            by : (b : Bool) → waits slot (track_of r c.session.lines) ≡ b
                → Keeps poll (cond b Waited (done_by old.sites c.session.instance r.line (stands r.request).labels (stands r.request).plan))
            by true is = waited
            by false is = operation acts is (stands r.request).plan refl

      house : held_in slot c.session.slots ≡ None → (a : Actor) → actor_at stands slot c ≡ a → Keeps poll (releases old.sites c.session.instance a)
      house free actor.Nobody acts = waited
      house free actor.Request acts = waited
      house free (actor.Way a) acts = waited
      house free (actor.Release x) acts = λ does at_sites. release_keeps stands old new w session slot c there free x acts does at_sites sound

      held : (o : Option (Occupant R)) → held_in slot c.session.slots ≡ o → Keeps poll (polled_in stands old.sites c slot o)
      held None holds = by (slot == 0)
        where
          by : (b : Bool) → Keeps poll (cond b (releases old.sites c.session.instance (actor_at stands slot c)) Nothing)
          by true = house holds (actor_at stands slot c) refl
          by false = nothing
      held (Some (occupant.Refused line refusal)) holds = λ does at_sites. refused_keeps stands old new w session slot c there line refusal holds does at_sites sound
      held (Some (occupant.Running r)) holds = goes_on r holds (actor_at stands slot c) refl

    poll_of : (o : Option (ClientView R)) → client_in session old.lives ≡ o → Keeps poll (polled stands old.sites slot o)
    poll_of None there = nothing
    poll_of (Some c) there = held c there (held_in slot c.session.slots) refl

  -- ---- a notice

  module _ (number : ℕ) where
    abbrev deliver : Event
    deliver = event.Deliver number

    not_heard : Keeps deliver Nothing
    not_heard = nothing_keeps stands old new w deliver (leaves stands deliver Nothing (λ x y is. is) (λ at o n is. is) (λ l. refl) (λ l. refl))

    heard : (notice : Notice) → notice_numbered number old.sites.mail ≡ Some notice → (o : Option (ClientView R)) → client_in notice.to.session old.lives ≡ o → Keeps deliver (heard_by notice o)
    heard notice is None there = not_heard
    heard notice is (Some c) there = by (same_instance c.session.instance notice.to) refl
      where
        by : (b : Bool) → same_instance c.session.instance notice.to ≡ b → Keeps deliver (cond b (Heard notice) Nothing)
        by true same = λ does at_sites. heard_keeps stands old new w number notice c is there same does at_sites sound
        by false same = not_heard

    delivery : (o : Option Notice) → notice_numbered number old.sites.mail ≡ o → Keeps deliver (delivered o old.lives)
    delivery None is = not_heard
    delivery (Some notice) is = heard notice is (client_in notice.to.session old.lives) refl

  -- ---- the store

  module _ (session : ℕ) (s : SiteId) (image : ℕ) where
    abbrev expire : Event
    expire = event.Expire session s image

    expiry : (o : Option Instance) → oldest_of session ((records_in s old.sites).watchers image) ≡ o → Keeps expire (ended_watch (site_in s old.sites) s image o)
    expiry None is = nothing_keeps stands old new w expire (leaves stands expire Nothing (λ x y is. is) (λ at o n is. is) (λ l. refl) (λ l. refl))
    expiry (Some who) is =
        expired_keeps stands old new w expire s image who
        (subst (λ i. oldest_of i ((records_in s old.sites).watchers image) ≡ Some who) (sym (oldest_session session ((records_in s old.sites).watchers image) who is)) is)
        (leaves stands expire (Expired s (next_number (site_in s old.sites)) image who) (λ x y is. is) (λ at o n is. is) (λ l. refl) (λ l. refl))

  trim : (s : SiteId) (image object : ℕ) → Keeps (event.Trim s image object) (trimmed_at old.sites s image object)
  trim s image object = by (is_some ((records_in s old.sites).objects image object)) refl
    where
      by : (b : Bool) → is_some ((records_in s old.sites).objects image object) ≡ b → Keeps (event.Trim s image object) (cond b (Trimmed s (next_number (site_in s old.sites)) image object) Nothing)
      by true is =
          trimmed_keeps stands old new w (event.Trim s image object) s image object is
          (leaves stands (event.Trim s image object) (Trimmed s (next_number (site_in s old.sites)) image object) (λ x y is. is) (λ at o n is. is) (λ l. refl) (λ l. refl))
      by false is =
          nothing_keeps stands old new w (event.Trim s image object) (leaves stands (event.Trim s image object) Nothing (λ x y is. is) (λ at o n is. is) (λ l. refl) (λ l. refl))

  -- ---- a stop, and what comes behind it

  module _ (session : ℕ) where
    stop_of : (o : Option (ClientView R)) → client_in session old.lives ≡ o → Keeps (event.Stop session) (stopped stands o)
    stop_of None there =
        nothing_keeps stands old new w (event.Stop session) (leaves stands (event.Stop session) Nothing (λ x y is. is) (λ at o n is. is) (λ l. refl) (λ l. refl))
    stop_of (Some c) there = λ does at_sites. stopped_keeps stands old new w session c there does at_sites

    late_of : (slot : ℕ) (o : Option Sent) → late_at session slot old.lives ≡ o → Keeps (event.Late session slot) (come old.sites slot o)
    late_of slot None sent =
        nothing_keeps stands old new w (event.Late session slot) (leaves stands (event.Late session slot) Nothing (λ x y is. is) (λ at o n is. is) (λ l. refl) (λ l. refl))
    late_of slot (Some x) sent = λ does at_sites. came_keeps stands old new w session slot x sent does at_sites

    not_restarted : Keeps (event.Restart session) Nothing
    not_restarted = nothing_keeps stands old new w (event.Restart session) (leaves stands (event.Restart session) Nothing (λ x y is. is) (λ at o n is. is) (λ l. refl) (λ l. refl))

    restart_of : (o : Option (LivesView R)) → lives_in session old.lives ≡ o → Keeps (event.Restart session) (restarted o)
    restart_of None there = not_restarted
    restart_of (Some l) there = by l.running refl
      where
        by : (o : Option (ClientView R)) → l.running ≡ o → Keeps (event.Restart session) (restarted_of l.latest o)
        by (Some c) runs = not_restarted
        by None none = go (nat_lt l.latest.life 4294967295)
          where
            go : (b : Bool) → Keeps (event.Restart session) (cond b (Restarted (next_life l.latest)) Nothing)
            go true = λ does at_sites. restarted_keeps stands old new w session l there none does at_sites
            go false = not_restarted

  any : (e : Event) → IsBuiltEvent e → Keeps e (happening stands e old)
  any (event.Submit session line command) built = submission session line command built (client_in session old.lives) refl
  any (event.Poll session slot) built = poll_of session slot (client_in session old.lives) refl
  any (event.Deliver number) built = delivery number (notice_numbered number old.sites.mail) refl
  any (event.Expire session s image) built = expiry session s image (oldest_of session ((records_in s old.sites).watchers image)) refl
  any (event.Stop session) built = stop_of session (client_in session old.lives) refl
  any (event.Late session slot) built = late_of session slot (late_at session slot old.lives) refl
  any (event.Restart session) built = restart_of session (lives_in session old.lives) refl
  any (event.Trim s image object) built = trim s image object

by_client : {R : Type 0} (stands : R → Standing) (e : Event) (w : WorldView R) → IsByItsClient w e (happening stands e w)
by_client stands (event.Poll session slot) w = λ c is. subst (λ o. IsBy c.session.instance (polled stands w.sites slot o)) (sym is) (polled_by_it stands slot w.sites c)
by_client stands _ w = tt

pub steps_keep : {R : Type 0} (stands : R → Standing) (e : Event) (old new : WorldView R) → IsSoundWorld stands old → IsBuiltEvent e
    → Does stands e (happening stands e old) old new → DoesAtSites (happening stands e old) old.sites new.sites
    → ((session : ℕ) → IsSoundIf stands (client_in session new.lives)) → IsSoundWorld stands new
steps_keep stands e old new w built does at_sites sound =
    carried stands e (happening stands e old) old new w (of_event stands e old w) (by_client stands e old) does at_sites (any stands old new w sound e built does at_sites)
