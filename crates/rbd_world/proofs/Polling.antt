-- A poll did what is said of it, by who acts at the slot, and nothing at the other site.
use Rattle.std.proofs.Common.{◌≡◌, ℕ, ◌==◌, cond, Bool, true, false, List, [], ◌∷◌, Option, Some, None, refl, sym, ap, ◌∙◌, subst}
use Rattle.std.proofs.lemmas.Bool.{true≢false, eqb-true}
use Rattle.std.proofs.lemmas.Option.{none-some, same_Some}
use Rattle.rbd_client.specs.declared.actor.Actor.{Actor}
use Rattle.rbd_client.specs.declared.actor.Actor.TheVariants as actor
use Rattle.rbd_client.specs.declared.slot_state.Way.{Way}
use Rattle.rbd_client.specs.declared.slot_state.Way.TheVariants as way
use Rattle.rbd_client.specs.Actor.{actor_at, actor_on, due_release, op_by, op_wanted, release_actor}
use Rattle.rbd_client.specs.Client.{ClientView, slot_state}
use Rattle.rbd_client.specs.Feeding.{IsFedBy, WayComesTo, RefusesIt}
use Rattle.rbd_client.specs.Sound.{IsSoundClient}
use Rattle.rbd_client.proofs.OnWay.{on_way_no_release, releases_no_way, is_release, is_way}
use Rattle.rbd_flat.specs.declared.entry.Entry.{Entry}
use Rattle.rbd_kinds.specs.declared.answer.Answer.{Answer}
use Rattle.rbd_kinds.specs.declared.id.Instance.{Instance}
use Rattle.rbd_kinds.specs.declared.id.SiteId.{SiteId}
use Rattle.rbd_kinds.specs.declared.machine.Fed.{Fed}
use Rattle.rbd_kinds.specs.declared.machine.Fed.TheVariants as fed
use Rattle.rbd_kinds.specs.declared.operation.Op.{Op}
use Rattle.rbd_kinds.specs.declared.reply.Reply.{Reply}
use Rattle.rbd_kinds.specs.declared.reply.Reply.TheVariants as reply_is
use Rattle.rbd_kinds.proofs.Images.{same_site_itself}
use Rattle.rbd_machine.specs.Knowledge.{same_site}
use Rattle.rbd_machine.specs.Label.{Label, Lock}
use Rattle.rbd_machine.specs.Path.{at_operation}
use Rattle.rbd_machine.specs.Plan.{Plan, Ask, Await, Note, Return, Goto, Standing, IsAsking, IsLive, plan_after, past_label}
use Rattle.rbd_machine.specs.Steps.{IsGoing}
use Rattle.rbd_lock.specs.Acquire.{lock_of, op_of, rest_at, rest_of_acquire, taking}
use Rattle.rbd_lock.specs.declared.acquire.Acquire.{Acquire}
use Rattle.rbd_lock.specs.declared.acquire.Stage.{Stage}
use Rattle.rbd_lock.specs.declared.release.Release.{Release}
use Rattle.rbd_lock.specs.Release.{release_op}
use Rattle.rbd_slots.specs.declared.running.Occupant.{Occupant}
use Rattle.rbd_slots.specs.declared.running.Occupant.TheVariants as occupant
use Rattle.rbd_slots.specs.declared.running.Running.{Running}
use Rattle.rbd_slots.specs.Advance.{AdvancesTo, track_of}
use Rattle.rbd_slots.specs.Lines.{LinesView}
use Rattle.rbd_slots.specs.Session.{ComesToIn, OfRunning, going_in, held_in, of_going, op_asked, op_at, look_under_lock_at, refusal_in, reply_of, running_in, script_line}
use Rattle.rbd_slots.specs.Track.{Track}
use Rattle.rbd_slots.specs.Waits.{waits}
use Rattle.rbd_site.specs.Log.{log_line}
use Rattle.rbd_site.specs.Step.{after, answer_to}
use Rattle.rbd_world.specs.declared.event.Event.TheVariants as event
use Rattle.rbd_world.specs.declared.event.Outcome.{Outcome}
use Rattle.rbd_world.specs.declared.sites.Sites.{Sites}
use Rattle.rbd_world.specs.Noted.{history_with}
use Rattle.rbd_world.specs.Operate.{IsLogged, IsNoted, IsOperatedAt, IsSameElsewhere}
use Rattle.rbd_world.specs.Run.{Doer, Itself, OnWay, House, Happening, Nothing, Waited, Did, Operation, outcome_of}
use Rattle.rbd_world.specs.Sending.{ActsAt, OnlyWaits, doer_at}
use Rattle.rbd_world.specs.Step.{Becomes, DoesAt, DoesAtSites, Goes, done_by, goes_on_by, gone_by, operation_at, polled_in, release_done, releases, reply_at, reply_on_way, with_log_lines}
use Rattle.rbd_world.specs.World.{records_in, site_in}
use Rattle.rbd_world.proofs.BothSites.{IsNothingAt, done_at, left_sites}

-- ---- the sites

nothing_else : (o : Operation) (reply : Option Reply) (q : SiteId) → same_site o.site q ≡ false → IsNothingAt q (Did o reply)
nothing_else o reply q other = record {
  lines = ap (λ b. cond b (log_line o.number o.instance o.op o.answer ∷ []) []) other;
  records = λ r. ap (λ b. cond b (after r o.instance o.op) r) other;
}

-- It was done there, and so it is noted.
pub record IsDone (before behind : Sites) (earlier later : List Entry) (h : Happening) (result : Outcome) : Type 0 where
  pub outcome : result ≡ outcome_of h
  pub noted : later ≡ history_with earlier h
  pub sites : DoesAtSites h before behind

module _ (who : Instance) (by : Doer) (s : SiteId) (o : Op) (before behind : Sites) where
  abbrev operates : Operation
  operates = operation_at (site_in s before) who by s o

  here : (reply : Option Reply) → IsLogged who o (site_in s before) (site_in s behind) before.mail behind.mail → DoesAt s (Did operates reply) (site_in s before) (site_in s behind)
  here reply logged = record {
    site = logged.log ∙ sym (ap (λ b. with_log_lines (cond b (log_line operates.number operates.instance o operates.answer ∷ []) []) (site_in s before)) (same_site_itself s));
    records = logged.records ∙ sym (ap (λ b. cond b (after (records_in s before) who o) (records_in s before)) (same_site_itself s));
    form = λ form. logged.form;
  }

  pub done_there : (reply told : Option Reply) (earlier later : List Entry) (result : Outcome) → IsLogged who o (site_in s before) (site_in s behind) before.mail behind.mail
      → IsNoted who by s o (site_in s before) reply earlier later result → IsSameElsewhere s before behind → reply ≡ told → IsDone before behind earlier later (Did operates told) result
  done_there reply told earlier later result logged noted elsewhere is = record {
    outcome = noted.outcome ∙ ap (λ (r : Option Reply). outcome_of (Did operates r)) is;
    noted = noted.history ∙ ap (λ (r : Option Reply). history_with earlier (Did operates r)) is;
    sites = done_at s (Did operates told) before behind (here told logged) (λ q other. nothing_else operates told q other) elsewhere logged.mail;
  }

-- ---- the reply of a way

live_reply : (labels : Label → Plan) (plan left : Plan) → IsGoing (past_label labels plan) left → reply_at plan ≡ None
live_reply labels (Return reply) left going = absurd (subst IsLive going.is going.live)
live_reply labels (Ask site why o next) left going = refl
live_reply labels (Await w next) left going = refl
live_reply labels (Note site image e next) left going = refl
live_reply labels (Goto label) left going = refl

way_reply : (a : Acquire) (told : Answer) (result : Option Reply) (w : Way) → WayComesTo a (fed.Answer told) result w → result ≡ reply_on_way a told
way_reply a told None (way.On b) comes =
    sym (live_reply (λ l. lock_of a (Goto Lock)) (plan_after (rest_of_acquire a (Goto Lock)) (fed.Answer told)) (rest_of_acquire b (Goto Lock)) (comes.goes (λ l. lock_of a (Goto Lock)) (Goto Lock) refl))
way_reply a told None (way.Taken p) comes =
    sym (ap (λ (at : Stage). reply_at (plan_after (rest_at at a.site a.image (Goto Lock)) (fed.Answer told))) comes.asked
    ∙ ap (λ (f : Fed). reply_at (plan_after (taking a.site a.image (Goto Lock)) f)) comes.done)
way_reply a told None way.Unbegun comes = elim comes [ ]
way_reply a told (Some r) w comes = by r comes.1
  where
    by : (r : Reply) → RefusesIt a (fed.Answer told) r → Some r ≡ reply_on_way a told
    by (reply_is.Refused x) refuses = sym (ap reply_at (refuses (Goto Lock)))
    by _ refuses = elim refuses [ ]

module _ {R : Type 0} (stands : R → Standing) where
  -- ---- the reply is that of the plan

  comes_reply : (slot : ℕ) (labels : Label → Plan) (plan : Plan) (t : Track) (result : Option Reply) (r q : Running R) (lines : LinesView)
      → AdvancesTo stands slot labels plan t result r q lines → result ≡ reply_at plan
  comes_reply slot labels (Return reply) t result r q lines comes = comes.reply
  comes_reply slot labels (Ask site why o next) t result r q lines comes = comes.none
  comes_reply slot labels (Await w next) t result r q lines comes = comes.none
  comes_reply slot labels (Note site image event next) t result r q lines comes = comes.none
  comes_reply slot labels (Goto label) t result r q lines comes = comes.none

  in_reply : (slot : ℕ) (lines : LinesView) (f : Fed) (result : Option Reply) (r : Running R) (n : Option (Occupant R)) (after : LinesView)
      → ComesToIn stands slot lines f result r n after → result ≡ reply_at (at_operation (stands r.request).labels (plan_after (stands r.request).plan f))
  in_reply slot lines f result r (Some (occupant.Running q)) after comes =
      comes_reply slot (stands r.request).labels (at_operation (stands r.request).labels (plan_after (stands r.request).plan f)) _ result r q after comes.1
  in_reply slot lines f result r None after comes =
      comes_reply slot (stands r.request).labels (at_operation (stands r.request).labels (plan_after (stands r.request).plan f)) _ result r r after comes.1
  in_reply slot lines f result r (Some (occupant.Refused line refusal)) after comes = elim comes [ ]

  -- ---- the poll

  -- it is noted, and sites and client are as it says
  pub record IsPolled (before behind : Sites) (slot : ℕ) (c t : ClientView R) (earlier later : List Entry) (h : Happening) (result : Outcome) : Type 0 where
    pub outcome : result ≡ outcome_of h
    pub noted : later ≡ history_with earlier h
    pub sites : DoesAtSites h before behind
    pub becomes : (session : ℕ) → Becomes stands (event.Poll session slot) h c t

  module _ (slot : ℕ) (before behind : Sites) (c t : ClientView R) (earlier later : List Entry) (result : Outcome) where
    abbrev Acts : Doer → Option (SiteId × Op) → Type 0
    Acts by wanted = ActsAt stands slot by wanted before behind c t earlier later result

    abbrev Polls : Happening → Type 0
    Polls h = IsPolled before behind slot c t earlier later h result

    held_up : OnlyWaits before behind c t earlier later result → Polls Waited
    held_up is = record {
      outcome = is.outcome;
      noted = is.history;
      sites = subst (DoesAtSites Waited before) (sym is.sites) (left_sites Waited before (λ q. record { lines = refl; records = λ r. refl }) refl);
      becomes = λ session. is.client;
    }

    operated : (by : Doer) (s : SiteId) (o : Op) (told : Option Reply) → (is : IsOperatedAt stands slot by s o before behind c t earlier later result) → is.here.reply ≡ told
        → Polls (Did (operation_at (site_in s before) c.session.instance by s o) told)
    operated by s o told is replied =
        let done = done_there c.session.instance by s o before behind is.here.reply told earlier later result is.here.logged is.here.noted is.elsewhere replied in
        record {
          outcome = done.outcome;
          noted = done.noted;
          sites = done.sites;
          becomes = λ session. subst (λ (r : Option Reply). Goes stands slot (operation_at (site_in s before) c.session.instance by s o) r c t) replied is.here.goes;
        }

    -- ---- the request in the slot

    module _ (line : ℕ) (r : Running R) (held : held_in slot c.session.slots ≡ Some (occupant.Running r)) (line_is : line ≡ r.line) (acts_is : actor_at stands slot c ≡ actor.Request) where
      asks : (plan : Plan) → (stands r.request).plan ≡ plan → IsAsking plan → Acts (Itself line) (op_asked plan)
          → Polls (done_by before c.session.instance r.line (stands r.request).labels plan)
      asks (Ask s why o next) is asking acts =
          let told = answer_to (records_in s before) c.session.instance o in
          let ends = reply_at (at_operation (stands r.request).labels (next told)) in
          let is_fed = subst (IsFedBy stands slot s o (fed.Answer told) acts.here.reply c t) acts_is acts.here.goes.fed in
          subst (λ (l : ℕ). Polls (Did (operation_at (site_in s before) c.session.instance (Itself l) s o) ends)) line_is
          (operated (Itself line) s o ends acts
          (in_reply slot c.session.lines (fed.Answer told) acts.here.reply r (held_in slot t.session.slots) t.session.lines
          (subst (OfRunning (λ q. ComesToIn stands slot c.session.lines (fed.Answer told) acts.here.reply q (held_in slot t.session.slots) t.session.lines)) held is_fed.fed)
          ∙ ap (λ (p : Plan). reply_at (at_operation (stands r.request).labels (plan_after p (fed.Answer told)))) is))
      asks (Await w next) is asking acts = elim asking [ ]
      asks (Note s image e next) is asking acts = elim asking [ ]
      asks (Return x) is asking acts = elim asking [ ]
      asks (Goto label) is asking acts = elim asking [ ]

      goes : (b : Bool) → IsAsking (stands r.request).plan → Acts (Itself line) (of_going stands op_asked (cond b None (Some r)))
          → Polls (cond b Waited (done_by before c.session.instance r.line (stands r.request).labels (stands r.request).plan))
      goes true asking acts = held_up acts
      goes false asking acts = asks (stands r.request).plan refl asking acts

      request_acts : IsAsking (stands r.request).plan → Acts (Itself line) (op_at stands slot c.session) → Polls (goes_on_by stands before c slot r actor.Request)
      request_acts asking acts =
          goes (waits slot (track_of r c.session.lines)) asking
          (subst (λ (o : Option (Occupant R)). Acts (Itself line) (of_going stands op_asked (going_in slot o c.session.lines))) held acts)

    -- ---- its way, and a release

    way_acts : (line : ℕ) (a : Acquire) → actor_at stands slot c ≡ actor.Way a → Acts (OnWay line) (Some (a.site, op_of a)) → Polls (gone_by before c.session.instance line a)
    way_acts line a acts_is acts =
        let told = answer_to (records_in a.site before) c.session.instance (op_of a) in
        let is_fed = subst (IsFedBy stands slot a.site (op_of a) (fed.Answer told) acts.here.reply c t) acts_is acts.here.goes.fed in
        operated (OnWay line) a.site (op_of a) (reply_on_way a told) acts (way_reply a told acts.here.reply (slot_state slot t.slots).way is_fed.comes)

    release_acts : (r : Release) → actor_at stands slot c ≡ actor.Release r → Acts House (Some (r.site, release_op r)) → Polls (release_done before c.session.instance r)
    release_acts r acts_is acts =
        let told = answer_to (records_in r.site before) c.session.instance (release_op r) in
        let is_fed = subst (IsFedBy stands slot r.site (release_op r) (fed.Answer told) acts.here.reply c t) acts_is acts.here.goes.fed in
        operated House r.site (release_op r) None acts is_fed.none

    -- ---- by who acts

    module _ (line : ℕ) (r : Running R) (held : held_in slot c.session.slots ≡ Some (occupant.Running r)) (line_is : line ≡ r.line) (place : (slot == 0) ≡ false) where
      acts_by : (who : Actor) → actor_at stands slot c ≡ who → IsAsking (stands r.request).plan → Acts (doer_at line who) (op_by stands slot c.session who) → Polls (goes_on_by stands before c slot r who)
      acts_by actor.Nobody is asking acts = held_up acts
      acts_by actor.Request is asking acts = request_acts line r held line_is is asking acts
      acts_by (actor.Way a) is asking acts = subst (λ (l : ℕ). Polls (gone_by before c.session.instance l a)) line_is (way_acts line a is acts)
      acts_by (actor.Release x) is asking acts =
          absurd (true≢false (sym (ap is_release is) ∙ ap (λ b. is_release (cond b (release_actor c.release (due_release c)) (actor_on (slot_state slot c.slots).way (look_under_lock_at stands slot c.session) c.locks))) place
          ∙ on_way_no_release (slot_state slot c.slots).way (look_under_lock_at stands slot c.session) c.locks))

    pub polled_so : (line : ℕ) (by : Doer) → (slot == 0) ≡ false → Some line ≡ script_line (held_in slot c.session.slots) → None ≡ reply_of (refusal_in (held_in slot c.session.slots))
        → by ≡ doer_at line (actor_at stands slot c) → IsSoundClient stands c → Acts by (op_wanted stands slot c) → Polls (polled_in stands before c slot (held_in slot c.session.slots))
    polled_so line by place line_is unrefused by_is sound acts = go (held_in slot c.session.slots) refl line_is unrefused
      where
        go : (o : Option (Occupant R)) → held_in slot c.session.slots ≡ o → Some line ≡ script_line o → None ≡ reply_of (refusal_in o) → Polls (polled_in stands before c slot o)
        go None is line_is unrefused = absurd (none-some line (sym line_is))
        go (Some (occupant.Refused n x)) is line_is unrefused = absurd (none-some _ unrefused)
        go (Some (occupant.Running r)) is line_is unrefused =
            acts_by line r is (same_Some line r.line line_is) place (actor_at stands slot c) refl (sound.session.asks slot r (ap running_in is))
            (subst (λ (d : Doer). Acts d (op_wanted stands slot c)) by_is acts)

    pub released_so : slot ≡ 0 → IsSoundClient stands c → Acts House (op_wanted stands slot c) → Polls (polled_in stands before c slot (held_in slot c.session.slots))
    released_so is sound acts =
        subst (λ (o : Option (Occupant R)). Polls (polled_in stands before c slot o)) (sym free)
        (subst (λ (b : Bool). Polls (cond b (releases before c.session.instance (actor_at stands slot c)) Nothing)) (sym place)
        (by (actor_at stands slot c) refl acts))
      where
        place : (slot == 0) ≡ true
        place = ap (λ (n : ℕ). n == 0) is

        free : held_in slot c.session.slots ≡ None
        free = ap (λ (n : ℕ). held_in n c.session.slots) is ∙ sound.session.zero

        by : (who : Actor) → actor_at stands slot c ≡ who → Acts House (op_by stands slot c.session who) → Polls (releases before c.session.instance who)
        by actor.Nobody acts_is a = held_up a
        by actor.Request acts_is a = held_up (subst (λ (o : Option (Occupant R)). Acts House (of_going stands op_asked (going_in slot o c.session.lines))) free a)
        by (actor.Way w) acts_is a =
            absurd (true≢false (sym (ap is_way acts_is) ∙ ap (λ b. is_way (cond b (release_actor c.release (due_release c)) (actor_on (slot_state slot c.slots).way (look_under_lock_at stands slot c.session) c.locks))) place
            ∙ releases_no_way c.release (due_release c)))
        by (actor.Release r) acts_is a = release_acts r acts_is a

    -- and where nobody acts there
    pub nobody_so : slot ≡ 0 → IsSoundClient stands c → actor_at stands slot c ≡ actor.Nobody → OnlyWaits before behind c t earlier later result
        → Polls (polled_in stands before c slot (held_in slot c.session.slots))
    nobody_so is sound nobody held = released_so is sound (subst (Acts House) (sym (ap (op_by stands slot c.session) nobody)) held)

pub not_zero : (n : ℕ) → (n ≡ 0 → ⊥) → (n == 0) ≡ false
not_zero n apart = by (n == 0) refl
  where
    by : (b : Bool) → (n == 0) ≡ b → b ≡ false
    by true is = absurd (apart (eqb-true n 0 is))
    by false is = refl
