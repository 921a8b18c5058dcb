-- What an event does to the sites, the sessions and the table of lines, and so it is noted, for
-- each kind of event.
use Rattle.std.proofs.Common.{◌≡◌, ℕ, ◌==◌, ◌||◌, Bool, true, false, cond, List, is_some, IfOk, OnOk, Option, Some, None, OnErr, Result, Ok, Err, refl, sym, ap, ◌∙◌, subst}
use Rattle.std.specs.Prelude.{nat_lt}
use Rattle.std.proofs.Math.Bool.{or-false}
use Rattle.rbd_client.specs.declared.actor.Actor.{Actor}
use Rattle.rbd_client.specs.declared.actor.Actor.TheVariants as actor
use Rattle.rbd_client.specs.Actor.{actor_at}
use Rattle.rbd_client.specs.Client.{ClientView}
use Rattle.rbd_commands.specs.declared.command.Command.{Command}
use Rattle.rbd_flat.specs.declared.entry.Entry.{Entry}
use Rattle.rbd_kinds.specs.declared.id.Instance.{Instance}
use Rattle.rbd_kinds.specs.declared.id.SiteId.{SiteId}
use Rattle.rbd_kinds.specs.declared.notice.Notice.{Notice}
use Rattle.rbd_kinds.specs.Instances.{same_instance}
use Rattle.rbd_machine.specs.Label.{Label}
use Rattle.rbd_machine.specs.Plan.{Plan, Ask, Await, Note, Return, Goto, Standing}
use Rattle.rbd_slots.specs.declared.running.Occupant.{Occupant}
use Rattle.rbd_slots.specs.declared.running.Occupant.TheVariants as occupant
use Rattle.rbd_slots.specs.declared.running.Running.{Running}
use Rattle.rbd_slots.specs.Advance.{track_of}
use Rattle.rbd_slots.specs.Session.{held_in}
use Rattle.rbd_slots.specs.Waits.{waits}
use Rattle.rbd_watch.specs.Posting.{notice_numbered}
use Rattle.rbd_watch.specs.Watching.{oldest_of}
use Rattle.rbd_world.specs.declared.event.Event.{Event}
use Rattle.rbd_world.specs.declared.event.Event.TheVariants as event
use Rattle.rbd_world.specs.declared.event.Outcome.{Outcome}
use Rattle.rbd_world.specs.declared.sites.Sites.{Sites}
use Rattle.rbd_world.specs.Begun.{has_line}
use Rattle.rbd_world.specs.declared.begun.BegunLines.{BegunLines}
use Rattle.rbd_world.specs.Noted.{IsNotedStep, history_with}
use Rattle.rbd_world.specs.Run.{Happening, Nothing, Waited, Began, Did, Refused, Trimmed, Expired, Heard, Stopped, Restarted, Sent, entries_of, ending_entries, outcome_of}
use Rattle.rbd_world.specs.Step.{AreSameSites, DoesAtSites, DoesToLives, DoesToParts, LeavesLives, LeavesParts, begins_of, begun_behind, come, delivered, done_by, ended_watch, expired_at, goes_on_by, happens, heard_by, is_begun, last_life, next_life, next_number, polled, polled_in, releases, restarted, restarted_of, stopped, submitted, trimmed_at}
use Rattle.rbd_world.specs.World.{LivesView, client_in, late_at, lives_in, records_in, site_in}
use Rattle.rbd_world.proofs.BothSites.{left_sites}
use Rattle.rbd_world.proofs.OneLife.{does_to_nobody, leaves_all}
use Rattle.rbd_world.proofs.Runs.{endings_begin_nothing, lost_begin_nothing, no_start}

-- ---- what a happening leaves

-- it begins no line
abbrev pub BeginsNothing : Happening → Type 0
BeginsNothing (Began asked slot) = ⊥
BeginsNothing _ = Unit {0}

-- it does nothing at a site
abbrev pub LeavesSites : Happening → Type 0
LeavesSites (Did o reply) = ⊥
LeavesSites (Trimmed s number image object) = ⊥
LeavesSites (Expired s number image who) = ⊥
LeavesSites _ = Unit {0}

-- it isn't noted
abbrev pub IsUnnoted : Happening → Type 0
IsUnnoted (Began asked slot) = ⊥
IsUnnoted (Did o reply) = ⊥
IsUnnoted (Refused s line reply) = ⊥
IsUnnoted (Stopped who wanted lost) = ⊥
IsUnnoted _ = Unit {0}

begins_no_line : (h : Happening) → BeginsNothing h → (line : ℕ) → is_begun line (entries_of h) ≡ false
begins_no_line Nothing none line = refl
begins_no_line Waited none line = refl
begins_no_line (Began asked slot) none line = elim none [ ]
begins_no_line (Did o reply) none line = ap (λ b. b || is_begun line (ending_entries o.by reply)) (no_start line _ o.site o.number _ o.effect) ∙ endings_begin_nothing line o.by reply
begins_no_line (Refused s other reply) none line = refl
begins_no_line (Trimmed s number image object) none line = refl
begins_no_line (Expired s number image who) none line = refl
begins_no_line (Heard notice) none line = refl
begins_no_line (Stopped who wanted lost) none line = lost_begin_nothing line lost
begins_no_line (Restarted who) none line = refl

left_by : (h : Happening) → LeavesSites h → (sites : Sites) → DoesAtSites h sites sites
left_by Nothing none sites = left_sites Nothing sites (λ q. record { lines = refl; records = λ r. refl }) refl
left_by Waited none sites = left_sites Waited sites (λ q. record { lines = refl; records = λ r. refl }) refl
left_by (Began asked slot) none sites = left_sites (Began asked slot) sites (λ q. record { lines = refl; records = λ r. refl }) refl
left_by (Did o reply) none sites = elim none [ ]
left_by (Refused s line reply) none sites = left_sites (Refused s line reply) sites (λ q. record { lines = refl; records = λ r. refl }) refl
left_by (Trimmed s number image object) none sites = elim none [ ]
left_by (Expired s number image who) none sites = elim none [ ]
left_by (Heard notice) none sites = left_sites (Heard notice) sites (λ q. record { lines = refl; records = λ r. refl }) refl
left_by (Stopped who wanted lost) none sites = left_sites (Stopped who wanted lost) sites (λ q. record { lines = refl; records = λ r. refl }) refl
left_by (Restarted who) none sites = left_sites (Restarted who) sites (λ q. record { lines = refl; records = λ r. refl }) refl

unnoted_by : (h : Happening) → IsUnnoted h → (history : List Entry) → history ≡ history_with history h
unnoted_by Nothing none history = refl
unnoted_by Waited none history = refl
unnoted_by (Began asked slot) none history = elim none [ ]
unnoted_by (Did o reply) none history = elim none [ ]
unnoted_by (Refused s line reply) none history = elim none [ ]
unnoted_by (Trimmed s number image object) none history = refl
unnoted_by (Expired s number image who) none history = refl
unnoted_by (Heard notice) none history = refl
unnoted_by (Stopped who wanted lost) none history = elim none [ ]
unnoted_by (Restarted who) none history = refl

-- ---- what each event leaves

-- neither is a line begun, nor the history longer
pub record IsStill (h : Happening) : Type 0 where
  pub begins : BeginsNothing h
  pub notes : IsUnnoted h

still : (h : Happening) → BeginsNothing h → IsUnnoted h → IsStill h
still h begins notes = record { begins = begins; notes = notes }

trim_is_still : (b : Bool) (s : SiteId) (number image object : ℕ) → IsStill (cond b (Trimmed s number image object) Nothing)
trim_is_still true s number image object = still _ tt tt
trim_is_still false s number image object = still _ tt tt

expiry_is_still : (sites : Sites) (s : SiteId) (image : ℕ) (o : Option Instance) → IsStill (ended_watch (site_in s sites) s image o)
expiry_is_still sites s image None = still _ tt tt
expiry_is_still sites s image (Some who) = still _ tt tt

heard_if : (b : Bool) (notice : Notice) → IsStill (cond b (Heard notice) Nothing) × LeavesSites (cond b (Heard notice) Nothing)
heard_if true notice = (still _ tt tt, tt)
heard_if false notice = (still _ tt tt, tt)

restarted_if : (b : Bool) (who : Instance) → IsStill (cond b (Restarted who) Nothing) × LeavesSites (cond b (Restarted who) Nothing)
restarted_if true who = (still _ tt tt, tt)
restarted_if false who = (still _ tt tt, tt)

coming_begins_nothing : (sites : Sites) (slot : ℕ) (o : Option Sent) → BeginsNothing (come sites slot o)
coming_begins_nothing sites slot None = tt
coming_begins_nothing sites slot (Some x) = tt

asking_begins_nothing : (sites : Sites) (who : Instance) (line : ℕ) (labels : Label → Plan) (plan : Plan) (b : Bool) → BeginsNothing (cond b Waited (done_by sites who line labels plan))
asking_begins_nothing sites who line labels plan true = tt
asking_begins_nothing sites who line labels (Ask s why o next) false = tt
asking_begins_nothing sites who line labels (Await w next) false = tt
asking_begins_nothing sites who line labels (Note s image e next) false = tt
asking_begins_nothing sites who line labels (Return reply) false = tt
asking_begins_nothing sites who line labels (Goto label) false = tt

module _ {R : Type 0} where
  heard_is_still : (notice : Notice) (o : Option (ClientView R)) → IsStill (heard_by notice o) × LeavesSites (heard_by notice o)
  heard_is_still notice None = (still _ tt tt, tt)
  heard_is_still notice (Some c) = heard_if (same_instance c.session.instance notice.to) notice

  delivery_is_still : (o : Option Notice) (lives : List (LivesView R)) → IsStill (delivered o lives) × LeavesSites (delivered o lives)
  delivery_is_still None lives = (still _ tt tt, tt)
  delivery_is_still (Some notice) lives = heard_is_still notice (client_in notice.to.session lives)

  restart_is_still : (o : Option (LivesView R)) → IsStill (restarted o) × LeavesSites (restarted o)
  restart_is_still None = (still _ tt tt, tt)
  restart_is_still (Some l) = by l.running
    where
      by : (o : Option (ClientView R)) → IsStill (restarted_of l.latest o) × LeavesSites (restarted_of l.latest o)
      by (Some c) = (still _ tt tt, tt)
      by None = restarted_if (nat_lt l.latest.life last_life) (next_life l.latest)

  submission_leaves_sites : (begun : Bool) (line : ℕ) (command : Command) (o : Option (ClientView R)) → LeavesSites (submitted begun line command o)
  submission_leaves_sites begun line command None = tt
  submission_leaves_sites begun line command (Some c) = by (begun || nat_lt 64 c.session.lowest)
    where
      by : (b : Bool) → LeavesSites (cond b Nothing (Began (begins_of c.session.instance line command) c.session.lowest))
      by true = tt
      by false = tt

module _ {R : Type 0} (stands : R → Standing) where
  stop_begins_nothing : (o : Option (ClientView R)) → BeginsNothing (stopped stands o) × LeavesSites (stopped stands o)
  stop_begins_nothing None = (tt, tt)
  stop_begins_nothing (Some c) = (tt, tt)

  acting_begins_nothing : (sites : Sites) (c : ClientView R) (slot : ℕ) (r : Running R) (who : Actor) → BeginsNothing (goes_on_by stands sites c slot r who)
  acting_begins_nothing sites c slot r actor.Nobody = tt
  acting_begins_nothing sites c slot r actor.Request =
      asking_begins_nothing sites c.session.instance r.line (stands r.request).labels (stands r.request).plan (waits slot (track_of r c.session.lines))
  acting_begins_nothing sites c slot r (actor.Way a) = tt
  acting_begins_nothing sites c slot r (actor.Release x) = tt

  releasing_begins_nothing : (sites : Sites) (who : Instance) (b : Bool) (acts : Actor) → BeginsNothing (cond b (releases sites who acts) Nothing)
  releasing_begins_nothing sites who false acts = tt
  releasing_begins_nothing sites who true actor.Nobody = tt
  releasing_begins_nothing sites who true actor.Request = tt
  releasing_begins_nothing sites who true (actor.Way a) = tt
  releasing_begins_nothing sites who true (actor.Release r) = tt

  polled_begins_nothing : (sites : Sites) (slot : ℕ) (o : Option (ClientView R)) → BeginsNothing (polled stands sites slot o)
  polled_begins_nothing sites slot None = tt
  polled_begins_nothing sites slot (Some c) = by (held_in slot c.session.slots)
    where
      by : (o : Option (Occupant R)) → BeginsNothing (polled_in stands sites c slot o)
      by None = releasing_begins_nothing sites c.session.instance (slot == 0) (actor_at stands slot c)
      by (Some (occupant.Refused n refusal)) = tt
      by (Some (occupant.Running r)) = acting_begins_nothing sites c slot r (actor_at stands slot c)

  -- no line was begun
  lines_stay : (h : Happening) (b : BegunLines) → BeginsNothing h → (line : ℕ) → has_line line b ≡ begun_behind (λ l. has_line l b) h line
  lines_stay h b none line = sym (ap (λ f. has_line line b || f) (begins_no_line h none line) ∙ or-false (has_line line b))

  -- ---- what was done

  pub parts_of : (e : Event) (h : Happening) (sites new_sites : Sites) (old new : List (LivesView R)) (b : BegunLines) → BeginsNothing h → DoesAtSites h sites new_sites → DoesToLives stands e h old new
      → DoesToParts stands e h sites new_sites old new b b
  parts_of e h sites new_sites old new b none at_sites lives = record { sites = at_sites; lives = lives; begun = lines_stay h b none }

  -- as a poll by its parts
  pub poll_does : (session slot : ℕ) (sites new_sites : Sites) (old new : List (LivesView R)) (b : BegunLines) → DoesAtSites (polled stands sites slot (client_in session old)) sites new_sites
      → DoesToLives stands (event.Poll session slot) (polled stands sites slot (client_in session old)) old new
      → DoesToParts stands (event.Poll session slot) (polled stands sites slot (client_in session old)) sites new_sites old new b b
  poll_does session slot sites new_sites old new b at_sites lives =
      parts_of (event.Poll session slot) (polled stands sites slot (client_in session old)) sites new_sites old new b (polled_begins_nothing sites slot (client_in session old)) at_sites lives

  -- so is a delivery, which is at no site and unnoted
  pub delivery_does : (number : ℕ) (sites : Sites) (old new : List (LivesView R)) (b : BegunLines) → DoesToLives stands (event.Deliver number) (delivered (notice_numbered number sites.mail) old) old new
      → DoesToParts stands (event.Deliver number) (delivered (notice_numbered number sites.mail) old) sites sites old new b b
  delivery_does number sites old new b lives =
      let is = delivery_is_still (notice_numbered number sites.mail) old in
      parts_of (event.Deliver number) (delivered (notice_numbered number sites.mail) old) sites sites old new b is.0.begins (left_by (delivered (notice_numbered number sites.mail) old) is.1 sites) lives

  pub delivery_unnoted : (number : ℕ) (sites : Sites) (old : List (LivesView R)) (history : List Entry) → history ≡ history_with history (delivered (notice_numbered number sites.mail) old)
  delivery_unnoted number sites old history =
      unnoted_by (delivered (notice_numbered number sites.mail) old) (delivery_is_still (notice_numbered number sites.mail) old).0.notes history

  -- of sites, sessions, lines and history
  module _ {F : Type 0} (r : Result Outcome F) (sites : Sites) (old : List (LivesView R)) (b : BegunLines) (history : List Entry) where
    abbrev Does : Event → (new_sites : Sites) → (new : List (LivesView R)) → (after : BegunLines) → (later : List Entry) → Type 0
    Does e new_sites new after later = IfOk r (IsNotedStep stands e (happens stands e (λ l. has_line l b) sites old) sites new_sites old new b after history later)

    noted_step : (e : Event) (h : Happening) (new_sites : Sites) (new : List (LivesView R)) (after : BegunLines) (later : List Entry) → IfOk r (λ o. o ≡ outcome_of h) → OnOk r (later ≡ history_with history h)
        → OnOk r (DoesToParts stands e h sites new_sites old new b after) → IfOk r (IsNotedStep stands e h sites new_sites old new b after history later)
    noted_step e h new_sites new after later outcome noted parts = by r outcome noted parts
      where
        by : (r : Result Outcome F) → IfOk r (λ o. o ≡ outcome_of h) → OnOk r (later ≡ history_with history h) → OnOk r (DoesToParts stands e h sites new_sites old new b after)
            → IfOk r (IsNotedStep stands e h sites new_sites old new b after history later)
        by (Ok o) outcome noted parts = record { parts = parts; history = noted; outcome = outcome }
        by (Err x) outcome noted parts = tt

    where_ok : (P Q : Type 0) → (P → Q) → OnOk r P → OnOk r Q
    where_ok P Q f p = by r p
      where
        by : (r : Result Outcome F) → OnOk r P → OnOk r Q
        by (Ok o) p = f p
        by (Err x) p = tt

    both_ok : (P Q S : Type 0) → (P → Q → S) → OnOk r P → OnOk r Q → OnOk r S
    both_ok P Q S f p q = by r p q
      where
        by : (r : Result Outcome F) → OnOk r P → OnOk r Q → OnOk r S
        by (Ok o) p q = f p q
        by (Err x) p q = tt

    always_ok : (P : Type 0) → P → OnOk r P
    always_ok P p = by r
      where
        by : (r : Result Outcome F) → OnOk r P
        by (Ok o) = p
        by (Err x) = tt

    -- at no site, and unnoted
    still_step : (e : Event) (h : Happening) (new : List (LivesView R)) → IsStill h → LeavesSites h → IfOk r (λ o. o ≡ outcome_of h) → OnOk r (DoesToLives stands e h old new)
        → IfOk r (IsNotedStep stands e h sites sites old new b b history history)
    still_step e h new is leaves outcome lives =
        noted_step e h sites new b history outcome (always_ok _ (unnoted_by h is.notes history))
        (where_ok _ _ (λ does. parts_of e h sites sites old new b is.begins (left_by h leaves sites) does) lives)

    pub submission_noted : (session line : ℕ) (c : Command) (new : List (LivesView R)) (after : BegunLines) (later : List Entry)
        → IfOk r (λ o. o ≡ outcome_of (submitted (has_line line b) line c (client_in session old))) → OnOk r (later ≡ history_with history (submitted (has_line line b) line c (client_in session old)))
        → OnOk r (DoesToLives stands (event.Submit session line c) (submitted (has_line line b) line c (client_in session old)) old new)
        → OnOk r ((l : ℕ) → has_line l after ≡ begun_behind (λ l. has_line l b) (submitted (has_line line b) line c (client_in session old)) l)
        → Does (event.Submit session line c) sites new after later
    submission_noted session line c new after later outcome noted lives begun =
        let h = submitted (has_line line b) line c (client_in session old) in
        noted_step (event.Submit session line c) h sites new after later outcome noted
        (both_ok _ _ _ (λ does lines. record { sites = left_by h (submission_leaves_sites (has_line line b) line c (client_in session old)) sites; lives = does; begun = lines }) lives begun)

    pub poll_noted : (session slot : ℕ) (new_sites : Sites) (new : List (LivesView R)) (later : List Entry)
        → IfOk r (λ o. o ≡ outcome_of (polled stands sites slot (client_in session old))) → OnOk r (later ≡ history_with history (polled stands sites slot (client_in session old)))
        → OnOk r (DoesAtSites (polled stands sites slot (client_in session old)) sites new_sites)
        → OnOk r (DoesToLives stands (event.Poll session slot) (polled stands sites slot (client_in session old)) old new)
        → Does (event.Poll session slot) new_sites new b later
    poll_noted session slot new_sites new later outcome noted at_sites lives =
        noted_step (event.Poll session slot) (polled stands sites slot (client_in session old)) new_sites new b later outcome noted
        (both_ok _ _ _ (λ at does. poll_does session slot sites new_sites old new b at does) at_sites lives)

    pub delivery_noted : (number : ℕ) (new : List (LivesView R)) → IfOk r (λ o. o ≡ outcome_of (delivered (notice_numbered number sites.mail) old))
        → OnOk r (DoesToLives stands (event.Deliver number) (delivered (notice_numbered number sites.mail) old) old new) → Does (event.Deliver number) sites new b history
    delivery_noted number new outcome lives =
        let is = delivery_is_still (notice_numbered number sites.mail) old in
        still_step (event.Deliver number) (delivered (notice_numbered number sites.mail) old) new is.0 is.1 outcome lives

    pub expiry_noted : (session image : ℕ) (s : SiteId) (new_sites : Sites) → IfOk r (λ o. o ≡ outcome_of (expired_at sites session s image)) → OnOk r (DoesAtSites (expired_at sites session s image) sites new_sites)
        → Does (event.Expire session s image) new_sites old b history
    expiry_noted session image s new_sites outcome at_sites =
        let is = expiry_is_still sites s image (oldest_of session ((records_in s sites).watchers image)) in
        noted_step (event.Expire session s image) (expired_at sites session s image) new_sites old b history outcome (always_ok _ (unnoted_by _ is.notes history))
        (where_ok _ _ (λ at. parts_of (event.Expire session s image) (expired_at sites session s image) sites new_sites old old b is.begins at
        (does_to_nobody stands (event.Expire session s image) (expired_at sites session s image) old (λ n. refl))) at_sites)

    pub trim_noted : (s : SiteId) (image object : ℕ) (new_sites : Sites) → IfOk r (λ o. o ≡ outcome_of (trimmed_at sites s image object)) → OnOk r (DoesAtSites (trimmed_at sites s image object) sites new_sites)
        → Does (event.Trim s image object) new_sites old b history
    trim_noted s image object new_sites outcome at_sites =
        let is = trim_is_still (is_some ((records_in s sites).objects image object)) s (next_number (site_in s sites)) image object in
        noted_step (event.Trim s image object) (trimmed_at sites s image object) new_sites old b history outcome (always_ok _ (unnoted_by _ is.notes history))
        (where_ok _ _ (λ at. parts_of (event.Trim s image object) (trimmed_at sites s image object) sites new_sites old old b is.begins at
        (does_to_nobody stands (event.Trim s image object) (trimmed_at sites s image object) old (λ n. refl))) at_sites)

    pub stop_noted : (session : ℕ) (new : List (LivesView R)) (later : List Entry)
        → IfOk r (λ o. o ≡ outcome_of (stopped stands (client_in session old))) → OnOk r (later ≡ history_with history (stopped stands (client_in session old)))
        → OnOk r (DoesToLives stands (event.Stop session) (stopped stands (client_in session old)) old new) → Does (event.Stop session) sites new b later
    stop_noted session new later outcome noted lives =
        let is = stop_begins_nothing (client_in session old) in
        noted_step (event.Stop session) (stopped stands (client_in session old)) sites new b later outcome noted
        (where_ok _ _ (λ does. parts_of (event.Stop session) (stopped stands (client_in session old)) sites sites old new b is.0 (left_by _ is.1 sites) does) lives)

    pub coming_noted : (session slot : ℕ) (new_sites : Sites) (new : List (LivesView R)) (later : List Entry)
        → IfOk r (λ o. o ≡ outcome_of (come sites slot (late_at session slot old))) → OnOk r (later ≡ history_with history (come sites slot (late_at session slot old)))
        → OnOk r (DoesAtSites (come sites slot (late_at session slot old)) sites new_sites)
        → OnOk r (DoesToLives stands (event.Late session slot) (come sites slot (late_at session slot old)) old new) → Does (event.Late session slot) new_sites new b later
    coming_noted session slot new_sites new later outcome noted at_sites lives =
        noted_step (event.Late session slot) (come sites slot (late_at session slot old)) new_sites new b later outcome noted
        (both_ok _ _ _ (λ at does. parts_of (event.Late session slot) (come sites slot (late_at session slot old)) sites new_sites old new b (coming_begins_nothing sites slot (late_at session slot old)) at does) at_sites lives)

    pub restart_noted : (session : ℕ) (new : List (LivesView R)) → IfOk r (λ o. o ≡ outcome_of (restarted (lives_in session old)))
        → OnOk r (DoesToLives stands (event.Restart session) (restarted (lives_in session old)) old new) → Does (event.Restart session) sites new b history
    restart_noted session new outcome lives =
        let is = restart_is_still (lives_in session old) in
        still_step (event.Restart session) (restarted (lives_in session old)) new is.0 is.1 outcome lives

  -- ---- what is left where memory was refused

  module _ {T F : Type 0} (r : Result T F) (sites new_sites : Sites) (old new : List (LivesView R)) (b : BegunLines) where
    pub leaves_alike : (after : BegunLines) → OnErr r (AreSameSites sites new_sites) → OnErr r (LeavesLives stands old new) → OnErr r ((l : ℕ) → has_line l after ≡ has_line l b)
        → OnErr r (LeavesParts stands sites new_sites old new b after)
    leaves_alike after same left lines = by r same left lines
      where
        by : (r : Result T F) → OnErr r (AreSameSites sites new_sites) → OnErr r (LeavesLives stands old new) → OnErr r ((l : ℕ) → has_line l after ≡ has_line l b)
            → OnErr r (LeavesParts stands sites new_sites old new b after)
        by (Ok x) same left lines = tt
        by (Err e) same left lines = record { sites = same; lives = left; begun = lines }

    -- where sessions and lines are the same
    pub leaves_same : OnErr r (AreSameSites sites new_sites) → OnErr r (new ≡ old) → OnErr r (LeavesParts stands sites new_sites old new b b)
    leaves_same same left = by r same left
      where
        by : (r : Result T F) → OnErr r (AreSameSites sites new_sites) → OnErr r (new ≡ old) → OnErr r (LeavesParts stands sites new_sites old new b b)
        by (Ok x) same left = tt
        by (Err e) same left = record { sites = same; lives = subst (LeavesLives stands old) (sym left) (leaves_all stands old); begun = λ line. refl }

    -- where the sites weren't touched
    pub leaves_sites : (after : BegunLines) → OnErr r (new ≡ old) → OnErr r ((l : ℕ) → has_line l after ≡ has_line l b) → OnErr r (LeavesParts stands sites sites old new b after)
    leaves_sites after left lines = by r left lines
      where
        by : (r : Result T F) → OnErr r (new ≡ old) → OnErr r ((l : ℕ) → has_line l after ≡ has_line l b) → OnErr r (LeavesParts stands sites sites old new b after)
        by (Ok x) left lines = tt
        by (Err e) left lines = record { sites = record { sites = λ s. refl; mail = refl }; lives = subst (LeavesLives stands old) (sym left) (leaves_all stands old); begun = lines }

    -- a poll leaves what its client is ready for
    pub poll_leaves : OnErr r (AreSameSites sites new_sites) → OnErr r (LeavesLives stands old new) → OnErr r (LeavesParts stands sites new_sites old new b b)
    poll_leaves same left = by r same left
      where
        by : (r : Result T F) → OnErr r (AreSameSites sites new_sites) → OnErr r (LeavesLives stands old new) → OnErr r (LeavesParts stands sites new_sites old new b b)
        by (Ok x) same left = tt
        by (Err e) same left = record { sites = same; lives = left; begun = λ line. refl }
