-- What has to be shown of a happening: calls, history, logs, mail and records go with any.
use Rattle.std.proofs.Common.{◌≡◌, ◌≢◌, ℕ, ◌||◌, ◌==◌, nat_lt, cond, Bool, true, false, List, [], ◌∷◌, ◌++◌, length, ◌+◌, is_some, Option, Some, None, refl, sym, ap, ◌∙◌, subst}
use Rattle.std.proofs.lemmas.Bool.{true≢false, eqb-true}
use Rattle.std.proofs.lemmas.Option.{none-some, same_Some}
use Rattle.rbd_client.specs.declared.actor.Actor.{Actor}
use Rattle.rbd_client.specs.declared.actor.Actor.TheVariants as actor
use Rattle.rbd_client.specs.Actor.{actor_at}
use Rattle.rbd_client.specs.Client.{ClientView}
use Rattle.rbd_commands.specs.declared.command.Command.{Command}
use Rattle.rbd_knowledge.specs.Truth.{IsTrueOf}
use Rattle.rbd_kinds.specs.declared.id.Instance.{Instance}
use Rattle.rbd_kinds.specs.declared.id.SiteId.{SiteId}
use Rattle.rbd_kinds.specs.declared.notice.Notice.{Notice}
use Rattle.rbd_kinds.specs.Instances.{same_instance}
use Rattle.rbd_machine.specs.Knowledge.{Knowledge, is_drawn, nothing_known}
use Rattle.rbd_machine.specs.Label.{Label}
use Rattle.rbd_machine.specs.Plan.{Plan, Ask, Await, Note, Return, Goto, Standing}
use Rattle.rbd_interference.specs.Ancestors.{HasReadTruly}
use Rattle.rbd_interference.specs.Beside.{AreBeside, MayAct}
use Rattle.rbd_interference.specs.Truth.{AreMapped, AreRanked, AreStandalone}
use Rattle.rbd_slots.specs.declared.running.Occupant.{Occupant}
use Rattle.rbd_slots.specs.declared.running.Occupant.TheVariants as occupant
use Rattle.rbd_slots.specs.declared.running.Running.{Running}
use Rattle.rbd_slots.specs.Advance.{track_of}
use Rattle.rbd_slots.specs.Session.{held_in}
use Rattle.rbd_slots.specs.Waits.{waits}
use Rattle.rbd_site.specs.InForm.{AreInForm}
use Rattle.rbd_site.specs.Log.{SiteLog, records_of}
use Rattle.rbd_site.specs.Records.{Records}
use Rattle.rbd_site.specs.Step.{mail_after}
use Rattle.rbd_site.proofs.WatchLemmas.{oldest_session}
use Rattle.rbd_stands.specs.Site.{StandsFor}
use Rattle.rbd_watch.specs.Posting.{notice_numbered}
use Rattle.rbd_watch.specs.Watching.{oldest_of}
use Rattle.rbd_world.specs.declared.event.Event.{Event}
use Rattle.rbd_world.specs.declared.event.Event.TheVariants as event
use Rattle.rbd_world.specs.declared.sites.Sites.{Sites}
use Rattle.rbd_world.specs.Order.{AreWritesInOrder, IsInTurn}
use Rattle.rbd_world.specs.Past.{HadNoHeader}
use Rattle.rbd_world.specs.Run.{Happening, Nothing, Waited, Began, Did, Refused, Trimmed, Expired, Heard, Stopped, Restarted, Sent, IsOfEvent, entries_of, flat_after, lines_at, log_of, mail_of, records_after, records_behind, sent_after}
use Rattle.rbd_world.specs.Sound.{AreLinesApart, AreInSlots, AreLivesOf, AreStrangers, Holder, InSlot, Sending, IsDue, IsLiving, IsSoundWorld, IsStanding, MayStillCome, WasLeft, known_in}
use Rattle.rbd_world.specs.Step.{Does, DoesAtSites, begins_of, call_of, come, delivered, done_by, ended_watch, goes_on_by, happening, heard_by, is_begun, mail_then, polled, polled_in, releases, restarted, restarted_of, stopped, submitted}
use Rattle.rbd_world.specs.World.{LivesView, WorldView, client_in, late_at, lives_in, records_in, site_in}
use Rattle.rbd_world.proofs.Exactly.{IsOwedFor, exact_then}
use Rattle.rbd_world.proofs.OwningNow.{IsByItsClient, owns_now}

-- each site stands for its flat site
abbrev pub StandFlat : List Happening → Type 0
StandFlat run = (s : SiteId) → StandsFor [] (records_after s run) (flat_after s run)

-- No image has a parent, each has its object maps, and a parent is less deep than its child.
pub record HasWholeImages (r : Records) : Type 0 where
  pub standalone : AreStandalone r
  pub mapped : AreMapped r
  pub ranked : AreRanked r

-- ---- it is the event's

submitted_of : {R : Type 0} (begun : Bool) (session line : ℕ) (c : Command) (o : Option (ClientView R)) → ((client : ClientView R) → o ≡ Some client → client.session.instance.session ≡ session)
    → IsOfEvent (event.Submit session line c) (submitted begun line c o)
submitted_of begun session line c None mine = tt
submitted_of begun session line c (Some client) mine = by (begun || nat_lt 64 client.session.lowest)
  where
    by : (b : Bool) → IsOfEvent (event.Submit session line c) (cond b Nothing (Began (begins_of client.session.instance line c) client.session.lowest))
    by true = tt
    by false = record { session_is = mine client refl; line_is = refl; command_is = refl }

done_of : (session slot : ℕ) (sites : Sites) (who : Instance) (line : ℕ) (labels : Label → Plan) (plan : Plan) → who.session ≡ session → IsOfEvent (event.Poll session slot) (done_by sites who line labels plan)
done_of session slot sites who line labels (Ask s why o next) mine = mine
done_of session slot sites who line labels (Await w next) mine = tt
done_of session slot sites who line labels (Note s image e next) mine = tt
done_of session slot sites who line labels (Return reply) mine = tt
done_of session slot sites who line labels (Goto label) mine = tt

pub numbered_is : (number : ℕ) (mail : List Notice) (n : Notice) → notice_numbered number mail ≡ Some n → n.number ≡ number
numbered_is number [] n is = absurd (none-some n is)
numbered_is number (m ∷ mail) n is = by (m.number == number) refl (numbered_is number mail n) is
  where
    by : (b : Bool) → (m.number == number) ≡ b → (notice_numbered number mail ≡ Some n → n.number ≡ number) → cond b (Some m) (notice_numbered number mail) ≡ Some n → n.number ≡ number
    by true at rest is = ap (λ (x : Notice). x.number) (sym (same_Some m n is)) ∙ eqb-true m.number number at
    by false at rest is = rest is

module _ {R : Type 0} (stands : R → Standing) where
  polled_of : (session slot : ℕ) (sites : Sites) (o : Option (ClientView R)) → ((client : ClientView R) → o ≡ Some client → client.session.instance.session ≡ session)
      → IsOfEvent (event.Poll session slot) (polled stands sites slot o)
  polled_of session slot sites None mine = tt
  polled_of session slot sites (Some c) mine = by (held_in slot c.session.slots)
    where
      house : (a : Actor) → IsOfEvent (event.Poll session slot) (releases sites c.session.instance a)
      house actor.Nobody = tt
      house actor.Request = tt
      house (actor.Way a) = tt
      house (actor.Release r) = mine c refl

      free : (b : Bool) → IsOfEvent (event.Poll session slot) (cond b (releases sites c.session.instance (actor_at stands slot c)) Nothing)
      free true = house (actor_at stands slot c)
      free false = tt

      on : (r : Running R) (a : Actor) → IsOfEvent (event.Poll session slot) (goes_on_by stands sites c slot r a)
      on r actor.Nobody = tt
      on r (actor.Release x) = tt
      on r (actor.Way a) = mine c refl
      on r actor.Request = go (waits slot (track_of r c.session.lines))
        where
          go : (b : Bool) → IsOfEvent (event.Poll session slot) (cond b Waited (done_by sites c.session.instance r.line (stands r.request).labels (stands r.request).plan))
          go true = tt
          go false = done_of session slot sites c.session.instance r.line (stands r.request).labels (stands r.request).plan (mine c refl)

      by : (o : Option (Occupant R)) → IsOfEvent (event.Poll session slot) (polled_in stands sites c slot o)
      by None = free (slot == 0)
      by (Some (occupant.Refused line refusal)) = tt
      by (Some (occupant.Running r)) = on r (actor_at stands slot c)

  delivered_of : (number : ℕ) (mail : List Notice) (lives : List (LivesView R)) (o : Option Notice) → notice_numbered number mail ≡ o → IsOfEvent (event.Deliver number) (delivered o lives)
  delivered_of number mail lives None is = tt
  delivered_of number mail lives (Some n) is = by (client_in n.to.session lives)
    where
      by : (o : Option (ClientView R)) → IsOfEvent (event.Deliver number) (heard_by n o)
      by None = tt
      by (Some c) = go (same_instance c.session.instance n.to)
        where
          go : (b : Bool) → IsOfEvent (event.Deliver number) (cond b (Heard n) Nothing)
          go true = numbered_is number mail n is
          go false = tt

  stopped_of : (session : ℕ) (o : Option (ClientView R)) → ((client : ClientView R) → o ≡ Some client → client.session.instance.session ≡ session) → IsOfEvent (event.Stop session) (stopped stands o)
  stopped_of session None mine = tt
  stopped_of session (Some c) mine = mine c refl

  restarted_of_it : (session : ℕ) (o : Option (LivesView R)) → ((l : LivesView R) → o ≡ Some l → l.latest.session ≡ session) → IsOfEvent (event.Restart session) (restarted o)
  restarted_of_it session None mine = tt
  restarted_of_it session (Some l) mine = by l.running
    where
      by : (o : Option (ClientView R)) → IsOfEvent (event.Restart session) (restarted_of l.latest o)
      by (Some c) = tt
      by None = go (nat_lt l.latest.life 4294967295)
        where
          go : (b : Bool) → IsOfEvent (event.Restart session) (cond b (Restarted (record { session = l.latest.session; life = l.latest.life + 1 })) Nothing)
          go true = mine l refl
          go false = tt

  come_of : (session slot : ℕ) (sites : Sites) (o : Option Sent) → ((x : Sent) → o ≡ Some x → x.instance.session ≡ session) → IsOfEvent (event.Late session slot) (come sites slot o)
  come_of session slot sites None mine = tt
  come_of session slot sites (Some x) mine = record { by = refl; session_is = mine x refl; none = refl }

  expired_of_it : (session : ℕ) (s : SiteId) (image : ℕ) (at_site : SiteLog) (o : Option Instance) → oldest_of session ((records_of at_site).watchers image) ≡ o
      → IsOfEvent (event.Expire session s image) (ended_watch at_site s image o)
  expired_of_it session s image at_site None is = tt
  expired_of_it session s image at_site (Some i) is = (oldest_session session ((records_of at_site).watchers image) i is, refl, refl)

  pub of_event : (e : Event) (w : WorldView R) → IsSoundWorld stands w → IsOfEvent e (happening stands e w)
  of_event (event.Submit session line c) w sound =
      submitted_of (is_begun line w.history) session line c (client_in session w.lives) (λ client is. (sound.clients session client is).whose)
  of_event (event.Poll session slot) w sound = polled_of session slot w.sites (client_in session w.lives) (λ client is. (sound.clients session client is).whose)
  of_event (event.Deliver number) w sound = delivered_of number w.sites.mail w.lives (notice_numbered number w.sites.mail) refl
  of_event (event.Expire session s image) w sound = expired_of_it session s image (site_in s w.sites) (oldest_of session ((records_in s w.sites).watchers image)) refl
  of_event (event.Stop session) w sound = stopped_of session (client_in session w.lives) (λ client is. (sound.clients session client is).whose)
  of_event (event.Late session slot) w sound = come_of session slot w.sites (late_at session slot w.lives) (λ x is. ((sound.sending session slot x is).1).whose)
  of_event (event.Restart session) w sound = restarted_of_it session (lives_in session w.lives) (λ l is. (sound.told.lives session l is).whose)
  of_event (event.Trim s image object) w sound = by (is_some ((records_in s w.sites).objects image object))
    where
      by : (b : Bool) → IsOfEvent (event.Trim s image object) (cond b (Trimmed s (length (site_in s w.sites).log + 1) image object) Nothing)
      by true = (refl, refl, refl)
      by false = tt

  pub whole_in : (w : WorldView R) → IsSoundWorld stands w → (s : SiteId) → HasWholeImages (records_in s w.sites)
  whole_in w sound s = record { standalone = sound.standalone s; mapped = sound.mapped s; ranked = sound.ranked s }

  -- ---- what has to be shown

  pub record Carries (old new : WorldView R) (w : IsSoundWorld stands old) (h : Happening) (who : Holder → Instance) (knows : Holder → Knowledge) : Type 0 where
    pub standing : StandFlat (h ∷ w.told.run)
    pub due : IsDue w.told.homes h w.told.run
    pub whole : (s : SiteId) → HasWholeImages (records_in s new.sites)
    pub lives : (session : ℕ) (l : LivesView R) → lives_in session new.lives ≡ Some l → AreLivesOf (h ∷ w.told.run) (w.told.homes session) session l
    pub clients : (session : ℕ) (c : ClientView R) → client_in session new.lives ≡ Some c → IsLiving stands (w.told.homes session) session (h ∷ w.told.run) (known_in knows session) c
    pub in_slots : (session slot : ℕ) (c : ClientView R) → client_in session new.lives ≡ Some c → who (InSlot session slot) ≡ c.session.instance
    pub nobody : (session : ℕ) → client_in session new.lives ≡ None → (slot : ℕ) → knows (InSlot session slot) ≡ nothing_known
    pub apart : AreLinesApart new.lives
    pub slots : AreInSlots (h ∷ w.told.run) new.lives
    pub truth : (session : ℕ) (c : ClientView R) → client_in session new.lives ≡ Some c → (s : SiteId) → IsTrueOf s (records_in s new.sites) c.session.instance (known_in knows session) c
    pub late : (session slot : ℕ) → late_at session slot new.lives ≡ sent_after session slot (h ∷ w.told.run)
    pub sending : (session slot : ℕ) (x : Sent) → late_at session slot new.lives ≡ Some x
        → (who (Sending session slot) ≡ x.instance) × MayStillCome session (λ s. records_in s new.sites) x (knows (Sending session slot))
    pub was_left : (session slot : ℕ) (x : Sent) → late_at session slot new.lives ≡ Some x
        → WasLeft w.told.homes slot x.instance x.site x.op (knows (Sending session slot)) (h ∷ w.told.run)
    pub unsent : (session slot : ℕ) → late_at session slot new.lives ≡ None → knows (Sending session slot) ≡ nothing_known
    pub drops : (session slot there : ℕ) (x : Sent) → slot ≢ there → late_at session slot new.lives ≡ Some x → (r : Records)
        → MayAct x.site r (who (Sending session slot)) (who (Sending session there)) (knows (Sending session slot)) (knows (Sending session there)) x.op
    pub none_yet : (g : Holder) (s : SiteId) (image : ℕ) → is_drawn (knows g).drawn s image ≡ true → HadNoHeader s image w.told.run
    pub reads : (g : Holder) (s : SiteId) → HasReadTruly s (records_after s (h ∷ w.told.run)) (flat_after s (h ∷ w.told.run)) (knows g)
    pub beside : (h g : Holder) → AreStrangers h g → (s : SiteId) → AreBeside s (records_in s new.sites) (who h) (who g) (knows h) (knows g)
    pub owes : IsOwedFor h w.told.run
    pub turn : IsInTurn h w.told.run
    pub in_order : (session : ℕ) (c : ClientView R) → client_in session new.lives ≡ Some c → AreWritesInOrder stands (w.told.homes session) c.session.instance (h ∷ w.told.run) c.session

  -- it keeps what has to be shown, by what is known then
  pub record IsCarried (old new : WorldView R) (w : IsSoundWorld stands old) (h : Happening) : Type 0 where
    pub who : Holder → Instance
    pub knows : Holder → Knowledge
    pub carries : Carries old new w h who knows

  mail_goes : (h : Happening) (old : WorldView R) (w : IsSoundWorld stands old) → mail_then h old.sites ≡ mail_of (h ∷ w.told.run)
  mail_goes (Did o reply) old w =
      ap (λ s. mail_after s (records_in o.site old.sites) o.instance o.op old.sites.mail) (w.told.ids o.site)
      ∙ ap (λ r. mail_after o.site r o.instance o.op old.sites.mail) (w.told.records o.site)
      ∙ ap (mail_after o.site (records_after o.site w.told.run) o.instance o.op) w.told.mail
  mail_goes Nothing old w = w.told.mail
  mail_goes Waited old w = w.told.mail
  mail_goes (Began asked slot) old w = w.told.mail
  mail_goes (Refused s line reply) old w = w.told.mail
  mail_goes (Trimmed s number image object) old w = w.told.mail
  mail_goes (Expired s number image who) old w = w.told.mail
  mail_goes (Heard notice) old w = w.told.mail
  mail_goes (Stopped who wanted lost) old w = w.told.mail
  mail_goes (Restarted who) old w = w.told.mail

  pub carried : (e : Event) (h : Happening) (old new : WorldView R) (w : IsSoundWorld stands old) → IsOfEvent e h → IsByItsClient old e h
      → Does stands e h old new → DoesAtSites h old.sites new.sites → IsCarried old new w h → IsSoundWorld stands new
  carried e h old new w is_of by_client does at_sites is_carried =
      let carries : Carries old new w h is_carried.who is_carried.knows = is_carried.carries in
      record {
        told = record {
          run = h ∷ w.told.run;
          homes = w.told.homes;
          calls = (old.calls, record { last = call_of e h; are = does.calls; is = record { event = is_of; outcome = refl } }, w.told.calls);
          history = does.history ∙ ap (λ es. es ++ entries_of h) w.told.history;
          ids = λ s. ap (λ (l : SiteLog). l.id) (does.sites s) ∙ w.told.ids s;
          logs = logs_now;
          records = records_now;
          mail = does.mail ∙ mail_goes h old w;
          right = (λ s. standing_now carries.standing carries.whole s, carries.due, w.told.right);
          exact = exact_then stands old new w h at_sites carries.due carries.owes;
          lives = carries.lives;
          order = (carries.turn, w.told.order);
        };
        who = is_carried.who;
        knows = is_carried.knows;
        form = λ s. at_sites.form s (w.form s);
        standalone = λ s. (carries.whole s).standalone;
        mapped = λ s. (carries.whole s).mapped;
        ranked = λ s. (carries.whole s).ranked;
        clients = carries.clients;
        in_slots = carries.in_slots;
        nobody = carries.nobody;
        apart = carries.apart;
        slots = carries.slots;
        truth = carries.truth;
        owns = λ m d is. owns_now stands old new w e h is_of by_client carries.due does m d is (carries.clients m d is).whose;
        late = carries.late;
        sending = carries.sending;
        was_left = carries.was_left;
        unsent = carries.unsent;
        drops = carries.drops;
        new = λ g s image drawn. (none_now g s image drawn, carries.none_yet g s image drawn);
        reads = carries.reads;
        beside = carries.beside;
        in_order = carries.in_order;
      }
    where
      logs_now : (s : SiteId) → (site_in s new.sites).log ≡ log_of s (h ∷ w.told.run)
      logs_now s = ap (λ (l : SiteLog). l.log) (does.sites s) ∙ ap (λ ds. ds ++ lines_at s h) (w.told.logs s)

      records_now : (s : SiteId) → records_in s new.sites ≡ records_after s (h ∷ w.told.run)
      records_now s = at_sites.records s ∙ ap (λ r. records_behind s r h) (w.told.records s)

      -- nobody drew an id that has a header
      none_now : (g : Holder) (s : SiteId) (image : ℕ) → is_drawn (is_carried.knows g).drawn s image ≡ true → (records_after s (h ∷ w.told.run)).headers image ≡ None
      none_now (InSlot m x) s image drawn = by (client_in m new.lives) refl
        where
          by : (o : Option (ClientView R)) → client_in m new.lives ≡ o → (records_after s (h ∷ w.told.run)).headers image ≡ None
          by None is = absurd (true≢false (sym drawn ∙ ap (λ (k : Knowledge). is_drawn k.drawn s image) (is_carried.carries.nobody m is x)))
          by (Some c) is = ap (λ (r : Records). r.headers image) (sym (records_now s)) ∙ (((is_carried.carries.truth m c is s).requests x).drawn image drawn).header
      none_now (Sending m x) s image drawn = by (late_at m x new.lives) refl
        where
          by : (o : Option Sent) → late_at m x new.lives ≡ o → (records_after s (h ∷ w.told.run)).headers image ≡ None
          by None is = absurd (true≢false (sym drawn ∙ ap (λ (k : Knowledge). is_drawn k.drawn s image) (is_carried.carries.unsent m x is)))
          by (Some y) is = ap (λ (r : Records). r.headers image) (sym (records_now s)) ∙ (((is_carried.carries.sending m x y is).1.truth s).drawn image drawn).header

      standing_now : StandFlat (h ∷ w.told.run) → ((s : SiteId) → HasWholeImages (records_in s new.sites)) → (s : SiteId) → IsStanding s (h ∷ w.told.run)
      standing_now standing whole s = record {
        stands = standing s;
        standalone = subst AreStandalone (records_now s) (whole s).standalone;
        mapped = subst AreMapped (records_now s) (whole s).mapped;
        ranked = subst AreRanked (records_now s) (whole s).ranked;
        form =
            subst (λ ds. AreInForm (records_after s (h ∷ w.told.run)) (length ds)) (logs_now s)
            (subst (λ r. AreInForm r (length (site_in s new.sites).log)) (records_now s) (at_sites.form s (w.form s)));
      }
