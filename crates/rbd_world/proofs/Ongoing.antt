-- A life goes on where its client does: it neither stops nor begins, and nothing comes of an
-- earlier one.
use Rattle.std.proofs.Common.{◌≡◌, ℕ, ◌==◌, ◌||◌, Bool, true, false, cond, List, slice_set, is_some, OnOk, Option, Some, None, true≢false, Result, Ok, Err, refl, sym, ap, ◌∙◌, subst}
use Rattle.std.specs.Prelude.{nat_lt}
use Rattle.rbd_client.specs.declared.actor.Actor.{Actor}
use Rattle.rbd_client.specs.declared.actor.Actor.TheVariants as actor
use Rattle.rbd_client.specs.Actor.{actor_at}
use Rattle.rbd_client.specs.Client.{ClientView}
use Rattle.rbd_commands.specs.declared.command.Command.{Command}
use Rattle.rbd_kinds.specs.declared.id.Instance.{Instance}
use Rattle.rbd_kinds.specs.declared.id.SiteId.{SiteId}
use Rattle.rbd_kinds.specs.declared.notice.Notice.{Notice}
use Rattle.rbd_kinds.specs.Instances.{same_instance}
use Rattle.rbd_machine.specs.Label.{Label}
use Rattle.rbd_machine.specs.Plan.{Plan, Ask, Await, Note, Return, Goto, Standing}
use Rattle.rbd_slots.specs.declared.running.Occupant.{Occupant}
use Rattle.rbd_slots.specs.declared.running.Occupant.TheVariants as occupant
use Rattle.rbd_slots.specs.declared.running.Running.{Running}
use Rattle.rbd_slots.specs.Advance.{track_of}
use Rattle.rbd_slots.specs.Session.{held_in}
use Rattle.rbd_slots.specs.Waits.{waits}
use Rattle.rbd_world.specs.declared.event.Event.{Event}
use Rattle.rbd_world.specs.declared.event.Event.TheVariants as event
use Rattle.rbd_world.specs.declared.sites.Sites.{Sites}
use Rattle.rbd_world.specs.Run.{Happening, Nothing, Waited, Began, Heard, Stopped, Restarted, Sent, sent_of}
use Rattle.rbd_world.specs.Step.{Becomes, BecomesOf, IsFresh, IsSoundIf, LivesOn, RunsOn, late_behind, latest_behind, DoesToLives, begins_of, come, done_by, goes_on_by, heard_by, last_life, next_life, polled, polled_in, releases, restarted_of, submitted}
use Rattle.rbd_world.specs.World.{LateView, LivesView, lives_in, sent_in}
use Rattle.rbd_world.proofs.OneLife.{does_to_nobody, does_to_one, set_same}

-- it neither stops nor begins a life
abbrev pub GoesOn : Happening → Type 0
GoesOn (Stopped who wanted lost) = ⊥
GoesOn (Restarted who) = ⊥
GoesOn _ = Unit {0}

asking_goes_on : (sites : Sites) (who : Instance) (line : ℕ) (labels : Label → Plan) (plan : Plan) (b : Bool) → GoesOn (cond b Waited (done_by sites who line labels plan))
asking_goes_on sites who line labels plan true = tt
asking_goes_on sites who line labels (Ask s why o next) false = tt
asking_goes_on sites who line labels (Await w next) false = tt
asking_goes_on sites who line labels (Note s image e next) false = tt
asking_goes_on sites who line labels (Return reply) false = tt
asking_goes_on sites who line labels (Goto label) false = tt

heard_if_goes_on : (b : Bool) (notice : Notice) → GoesOn (cond b (Heard notice) Nothing)
heard_if_goes_on true notice = tt
heard_if_goes_on false notice = tt

module _ {R : Type 0} where
  submission_goes_on : (begun : Bool) (line : ℕ) (command : Command) (o : Option (ClientView R)) → GoesOn (submitted begun line command o)
  submission_goes_on begun line command None = tt
  submission_goes_on begun line command (Some c) = by (begun || nat_lt 64 c.session.lowest)
    where
      by : (b : Bool) → GoesOn (cond b Nothing (Began (begins_of c.session.instance line command) c.session.lowest))
      by true = tt
      by false = tt

  heard_goes_on : (notice : Notice) (o : Option (ClientView R)) → GoesOn (heard_by notice o)
  heard_goes_on notice None = tt
  heard_goes_on notice (Some c) = heard_if_goes_on (same_instance c.session.instance notice.to) notice

module _ {R : Type 0} (stands : R → Standing) where
  acting_goes_on : (sites : Sites) (c : ClientView R) (slot : ℕ) (r : Running R) (who : Actor) → GoesOn (goes_on_by stands sites c slot r who)
  acting_goes_on sites c slot r actor.Nobody = tt
  acting_goes_on sites c slot r actor.Request =
      asking_goes_on sites c.session.instance r.line (stands r.request).labels (stands r.request).plan (waits slot (track_of r c.session.lines))
  acting_goes_on sites c slot r (actor.Way a) = tt
  acting_goes_on sites c slot r (actor.Release x) = tt

  releasing_goes_on : (sites : Sites) (who : Instance) (b : Bool) (acts : Actor) → GoesOn (cond b (releases sites who acts) Nothing)
  releasing_goes_on sites who false acts = tt
  releasing_goes_on sites who true actor.Nobody = tt
  releasing_goes_on sites who true actor.Request = tt
  releasing_goes_on sites who true (actor.Way a) = tt
  releasing_goes_on sites who true (actor.Release r) = tt

  polled_goes_on : (sites : Sites) (slot : ℕ) (o : Option (ClientView R)) → GoesOn (polled stands sites slot o)
  polled_goes_on sites slot None = tt
  polled_goes_on sites slot (Some c) = by (held_in slot c.session.slots)
    where
      by : (o : Option (Occupant R)) → GoesOn (polled_in stands sites c slot o)
      by None = releasing_goes_on sites c.session.instance (slot == 0) (actor_at stands slot c)
      by (Some (occupant.Refused n refusal)) = tt
      by (Some (occupant.Running r)) = acting_goes_on sites c slot r (actor_at stands slot c)

  -- ---- the life of a client that becomes another

  latest_stays : (h : Happening) (latest : Instance) → GoesOn h → latest ≡ latest_behind h latest
  latest_stays (Restarted who) latest goes = elim goes [ ]
  latest_stays _ latest goes = refl

  runs_on : (e : Event) (h : Happening) (home : SiteId) (c t : ClientView R) → GoesOn h → Becomes stands e h c t → RunsOn stands e h home (Some c) (Some t)
  runs_on e (Stopped who wanted lost) home c t goes becomes = elim goes [ ]
  runs_on e (Restarted who) home c t goes becomes = elim goes [ ]
  runs_on e _ home c t goes becomes = becomes

  module _ (e : Event) (h : Happening) (goes : GoesOn h) (old : LivesView R) (late_stays : old.late ≡ late_behind e h old.late) (c t : ClientView R) (is : old.running ≡ Some c) where
    lives_so : (before : LivesView R) → before ≡ old → Becomes stands e h c t → LivesOn stands e h old (record { home = before.home; latest = before.latest; running = Some t; late = before.late })
    lives_so before same becomes = record {
      home = ap (λ (l : LivesView R). l.home) same;
      latest = ap (λ (l : LivesView R). l.latest) same ∙ latest_stays h old.latest goes;
      running = subst (λ (o : Option (ClientView R)). RunsOn stands e h old.home o (Some t)) (sym is) (runs_on e h old.home c t goes becomes);
      late = ap (λ (l : LivesView R). l.late) same ∙ late_stays;
    }

  poll_late : (session slot : ℕ) (h : Happening) (late : Option LateView) → GoesOn h → late ≡ late_behind (event.Poll session slot) h late
  poll_late session slot (Stopped who wanted lost) late goes = elim goes [ ]
  poll_late session slot _ late goes = refl

  submit_late : (session line : ℕ) (command : Command) (h : Happening) (late : Option LateView) → GoesOn h → late ≡ late_behind (event.Submit session line command) h late
  submit_late session line command (Stopped who wanted lost) late goes = elim goes [ ]
  submit_late session line command _ late goes = refl

  deliver_late : (number : ℕ) (h : Happening) (late : Option LateView) → GoesOn h → late ≡ late_behind (event.Deliver number) h late
  deliver_late number (Stopped who wanted lost) late goes = elim goes [ ]
  deliver_late number _ late goes = refl

  module _ {T F : Type 0} (r : Result T F) (old before : LivesView R) (same : before ≡ old) (c t : ClientView R) (is : before.running ≡ Some c) where
    abbrev Then : LivesView R
    Then = record { home = before.home; latest = before.latest; running = Some t; late = before.late }

    was : old.running ≡ Some c
    was = sym (ap (λ (l : LivesView R). l.running) same) ∙ is

    each_ok : (P Q : Type 0) → (P → Q) → OnOk r P → OnOk r Q
    each_ok P Q f p = by r p
      where
        by : (r : Result T F) → OnOk r P → OnOk r Q
        by (Ok o) p = f p
        by (Err x) p = tt

    pub poll_lives_on : (slot : ℕ) (sites : Sites) → OnOk r ((session : ℕ) → Becomes stands (event.Poll session slot) (polled stands sites slot (Some c)) c t)
        → OnOk r ((session : ℕ) → LivesOn stands (event.Poll session slot) (polled stands sites slot old.running) old Then)
    poll_lives_on slot sites becomes =
        let goes = polled_goes_on sites slot (Some c) in
        subst (λ (o : Option (ClientView R)). OnOk r ((session : ℕ) → LivesOn stands (event.Poll session slot) (polled stands sites slot o) old Then)) (sym was)
        (each_ok _ _ (λ b session. lives_so (event.Poll session slot) (polled stands sites slot (Some c)) goes old (poll_late session slot (polled stands sites slot (Some c)) old.late goes) c t was before same (b session)) becomes)

    pub submit_lives_on : (begun : Bool) (line : ℕ) (command : Command) → OnOk r ((session : ℕ) → Becomes stands (event.Submit session line command) (submitted begun line command (Some c)) c t)
        → OnOk r ((session : ℕ) → LivesOn stands (event.Submit session line command) (submitted begun line command old.running) old Then)
    submit_lives_on begun line command becomes =
        let goes = submission_goes_on begun line command (Some c) in
        subst (λ (o : Option (ClientView R)). OnOk r ((session : ℕ) → LivesOn stands (event.Submit session line command) (submitted begun line command o) old Then)) (sym was)
        (each_ok _ _ (λ b session. lives_so (event.Submit session line command) (submitted begun line command (Some c)) goes old (submit_late session line command (submitted begun line command (Some c)) old.late goes) c t was before same (b session)) becomes)

    pub hear_lives_on : (notice : Notice) → OnOk r ((number : ℕ) → Becomes stands (event.Deliver number) (heard_by notice (Some c)) c t)
        → OnOk r ((number : ℕ) → LivesOn stands (event.Deliver number) (heard_by notice old.running) old Then)
    hear_lives_on notice becomes =
        let goes = heard_goes_on notice (Some c) in
        subst (λ (o : Option (ClientView R)). OnOk r ((number : ℕ) → LivesOn stands (event.Deliver number) (heard_by notice o) old Then)) (sym was)
        (each_ok _ _ (λ b number. lives_so (event.Deliver number) (heard_by notice (Some c)) goes old (deliver_late number (heard_by notice (Some c)) old.late goes) c t was before same (b number)) becomes)

  -- ---- who hears a notice

  same_life : (old new : LivesView R) → new.home ≡ old.home → new.latest ≡ old.latest → new.running ≡ old.running → new.late ≡ old.late → new ≡ old
  same_life old new home latest running late =
      ap (λ (x : SiteId). record { home = x; latest = new.latest; running = new.running; late = new.late }) home
      ∙ ap (λ (x : Instance). record { home = old.home; latest = x; running = new.running; late = new.late }) latest
      ∙ ap (λ (x : Option (ClientView R)). record { home = old.home; latest = old.latest; running = x; late = new.late }) running
      ∙ ap (λ (x : Option LateView). record { home = old.home; latest = old.latest; running = old.running; late = x }) late

  same_running : (number : ℕ) (o n : Option (ClientView R)) → BecomesOf stands (event.Deliver number) Nothing o n → n ≡ o
  same_running number None n same = same
  same_running number (Some c) None same = elim same [ ]
  same_running number (Some c) (Some t) same = ap Some same

  module _ (notice : Notice) (at : ℕ) (xs : List (LivesView R)) (old new : LivesView R) (place : at ≡ notice.to.session) (there : lives_in notice.to.session xs ≡ Some old) (sound : IsSoundIf stands new.running) (number : ℕ) where
    nothing_heard : LivesOn stands (event.Deliver number) Nothing old new → DoesToLives stands (event.Deliver number) Nothing xs (slice_set xs at new)
    nothing_heard lives =
        let same = same_life old new lives.home lives.latest (same_running number old.running new.running lives.running) lives.late in
        subst (DoesToLives stands (event.Deliver number) Nothing xs)
        (sym (ap (slice_set xs at) same ∙ ap (λ (k : ℕ). slice_set xs k old) place ∙ set_same xs notice.to.session old there))
        (does_to_nobody stands (event.Deliver number) Nothing xs (λ n. refl))

    pub hears_or_not : (o : Option (ClientView R)) → LivesOn stands (event.Deliver number) (heard_by notice o) old new → DoesToLives stands (event.Deliver number) (heard_by notice o) xs (slice_set xs at new)
    hears_or_not None lives = nothing_heard lives
    hears_or_not (Some c) lives = by (same_instance c.session.instance notice.to) lives
      where
        by : (b : Bool) → LivesOn stands (event.Deliver number) (cond b (Heard notice) Nothing) old new → DoesToLives stands (event.Deliver number) (cond b (Heard notice) Nothing) xs (slice_set xs at new)
        by true lives = does_to_one stands (event.Deliver number) (Heard notice) notice.to.session at xs old new (λ n. refl) place there lives sound
        by false lives = nothing_heard lives

  -- ---- what comes of a life that was stopped

  coming_goes_on : (sites : Sites) (slot : ℕ) (o : Option Sent) → GoesOn (come sites slot o)
  coming_goes_on sites slot None = tt
  coming_goes_on sites slot (Some x) = tt

  pub coming_runs_on : (session slot : ℕ) (sites : Sites) (x : Option Sent) (home : SiteId) (o : Option (ClientView R)) → RunsOn stands (event.Late session slot) (come sites slot x) home o o
  coming_runs_on session slot sites None home None = refl
  coming_runs_on session slot sites None home (Some c) = refl
  coming_runs_on session slot sites (Some x) home None = refl
  coming_runs_on session slot sites (Some x) home (Some c) = refl

  pub late_lives_on : {T F : Type 0} (r : Result T F) (slot : ℕ) (sites : Sites) (old before : LivesView R) → before ≡ old → (l n : LateView) → before.late ≡ Some l
      → OnOk r ((session : ℕ) → Some n ≡ late_behind (event.Late session slot) (come sites slot (sent_of l.instance (held_in slot l.wanted))) (Some l))
      → OnOk r ((session : ℕ) → LivesOn stands (event.Late session slot) (come sites slot (sent_in slot old.late)) old (record { home = before.home; latest = before.latest; running = before.running; late = Some n }))
  late_lives_on {T} {F} r slot sites old before same l n is becomes =
      subst (λ (x : LivesView R). OnOk r ((session : ℕ) → LivesOn stands (event.Late session slot) (come sites slot (sent_in slot x.late)) x (record { home = before.home; latest = before.latest; running = before.running; late = Some n }))) same
      (by r becomes)
    where
      by : (r : Result T F) → OnOk r ((session : ℕ) → Some n ≡ late_behind (event.Late session slot) (come sites slot (sent_of l.instance (held_in slot l.wanted))) (Some l))
          → OnOk r ((session : ℕ) → LivesOn stands (event.Late session slot) (come sites slot (sent_in slot before.late)) before (record { home = before.home; latest = before.latest; running = before.running; late = Some n }))
      by (Err e) becomes = tt
      by (Ok v) becomes = λ session. record {
        home = refl;
        latest = latest_stays (come sites slot (sent_in slot before.late)) before.latest (coming_goes_on sites slot (sent_in slot before.late));
        running = coming_runs_on session slot sites (sent_in slot before.late) before.home before.running;
        late = becomes session ∙ sym (ap (λ (o : Option LateView). late_behind (event.Late session slot) (come sites slot (sent_in slot o)) o) is);
      }

  -- ---- the next life

  pub restarts : (latest : Instance) (o : Option (ClientView R)) → is_some o ≡ false → nat_lt latest.life last_life ≡ true → restarted_of latest o ≡ Restarted (next_life latest)
  restarts latest (Some c) none below = absurd (true≢false none)
  restarts latest None none below = ap (λ b. cond b (Restarted (next_life latest)) Nothing) below

  pub restart_lives_on : (session : ℕ) (old before : LivesView R) → before ≡ old → restarted_of old.latest old.running ≡ Restarted (next_life old.latest) → (c : ClientView R) → IsFresh (next_life old.latest) old.home c
      → (latest : Instance) → latest ≡ next_life old.latest
      → LivesOn stands (event.Restart session) (restarted_of old.latest old.running) old (record { home = before.home; latest = latest; running = Some c; late = before.late })
  restart_lives_on session old before same h c fresh latest is =
      subst (λ (x : Happening). LivesOn stands (event.Restart session) x old (record { home = before.home; latest = latest; running = Some c; late = before.late })) (sym h)
      (record { home = ap (λ (l : LivesView R). l.home) same; latest = is; running = fresh; late = ap (λ (l : LivesView R). l.late) same })
