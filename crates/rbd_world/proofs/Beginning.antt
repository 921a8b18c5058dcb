-- A world in which nothing happened is sound.
use Rattle.std.proofs.Common.{◌≡◌, ℕ, true, List, [], length, is_some, Option, Some, None, refl, sym, ap, ◌∙◌, subst}
use Rattle.std.proofs.lemmas.Bool.{true≢false}
use Rattle.std.proofs.lemmas.Option.{none-some, same_Some}
use Rattle.rbd_client.specs.declared.slot_state.SlotState.{SlotState}
use Rattle.rbd_client.specs.Client.{ClientView, slot_state}
use Rattle.rbd_interference.specs.Exact.{IsExactBut, IsOwed}
use Rattle.rbd_interference.proofs.ExactlyKept.{none_exact}
use Rattle.rbd_knowledge.specs.Truth.{IsTrueOf}
use Rattle.rbd_knowledge.proofs.Calls.{new_client_is_true}
use Rattle.rbd_kinds.specs.declared.id.Instance.{Instance}
use Rattle.rbd_kinds.specs.declared.id.SiteId.{SiteId}
use Rattle.rbd_kinds.specs.declared.id.SiteId.TheVariants as site
use Rattle.rbd_knowledge.specs.Knowing.{KnowsIn}
use Rattle.rbd_machine.specs.Knowledge.{nothing_known}
use Rattle.rbd_lock.specs.declared.lock_state.LockState.{LockState}
use Rattle.rbd_machine.specs.Plan.{Standing}
use Rattle.rbd_interference.specs.Truth.{AreMapped, AreRanked, AreStandalone}
use Rattle.rbd_interference.proofs.Maps.{none_mapped}
use Rattle.rbd_interference.proofs.Nothing.{none_standalone, nothing_is_beside, nothing_is_read}
use Rattle.rbd_interference.proofs.Ranked.{none_ranked}
use Rattle.rbd_slots.specs.Session.{running_at, running_in, script_line}
use Rattle.rbd_site.specs.InForm.{AreInForm}
use Rattle.rbd_site.specs.Log.{after_all}
use Rattle.rbd_site.specs.Records.{Records, no_records}
use Rattle.rbd_site.proofs.FormLemmas.{form_at_first}
use Rattle.rbd_stands.proofs.Nothing.{nothing_stands}
use Rattle.rbd_world.specs.LetGo.{release_of}
use Rattle.rbd_world.specs.Owing.{owed_in}
use Rattle.rbd_world.specs.Run.{Happening, flat_after}
use Rattle.rbd_world.specs.Closes.{StandsFirstIf}
use Rattle.rbd_world.specs.Seats.{seat_of_home}
use Rattle.rbd_world.specs.Sound.{HasLearnedIf, AreLivesOf, Holder, InSlot, Sending, IsFirst, IsHeldRightly, IsLiving, IsNewWorld, IsRunning, IsSoundWorld, KeepsToItsWay, first_life, held_of, line_at}
use Rattle.rbd_world.specs.Step.{IsFresh}
use Rattle.rbd_world.specs.Watched.{HasWatchedOn}
use Rattle.rbd_world.specs.World.{LivesView, WorldView, client_in, late_at, late_of, lives_in, sent_in, session_of_client}
use Rattle.rbd_world.proofs.Changed.{lives_there}
use Rattle.rbd_world.proofs.FreshLives.{fresh_is_sound, fresh_locks}
use Rattle.rbd_world.proofs.OrderedWorld.{none_in_order}

module _ {R : Type 0} (stands : R → Standing) where
  -- ---- a life without requests

  module _ (who : Instance) (home : SiteId) (c : ClientView R) (fresh : IsFresh who home c) where
    pub fresh_living : (there : SiteId) (session : ℕ) (run : List Happening) → who.session ≡ session → home ≡ there → IsRunning who run → release_of who run ≡ None → IsLiving stands there session run (λ slot. nothing_known) c
    fresh_living there session run whose same runs none = record {
      whose = ap (λ (i : Instance). i.session) fresh.instance ∙ whose;
      runs = subst (λ i. IsRunning i run) (sym fresh.instance) runs;
      at_home = fresh.at_home ∙ same;
      sound = fresh_is_sound who home c stands fresh;
      know = λ slot. subst (λ o. KnowsIn stands slot (running_in o) c.session.lines nothing_known) (sym (fresh.slots slot)) refl;
      held = λ slot. subst (IsHeldRightly stands (seat_of_home session there) c.session.instance run) (sym (fresh.slots slot)) tt;
      ways = λ slot. subst (λ o. KeepsToItsWay stands run slot c.session.lines (slot_state slot c.slots).way (running_in o)) (sym (fresh.slots slot)) tt;
      learned = λ slot. subst (λ o. HasLearnedIf stands run (running_in o) nothing_known) (sym (fresh.slots slot)) tt;
      releases = fresh.release ∙ sym none ∙ ap (λ i. release_of i run) (sym fresh.instance);
      watches = record {
        counts = λ s image watched. absurd (true≢false (sym watched ∙ ap (λ (l : LockState). l.watched) (fresh_locks who home c fresh s image)));
        ways = λ slot. subst (λ (s : SlotState). HasWatchedOn s.way c.session.instance run) (sym (fresh.states slot)) tt;
      };
      first = λ slot. subst (λ o. StandsFirstIf run slot c.session.lines (running_in o)) (sym (fresh.slots slot)) tt;
    }

    pub fresh_true : (s : SiteId) (r : Records) (me : Instance) → IsTrueOf s r me (λ slot. nothing_known) c
    fresh_true s r me = new_client_is_true s r me stands c (fresh_is_sound who home c stands fresh) fresh.slots (fresh_locks who home c fresh s)

    pub fresh_runs_none : (x : ℕ) → running_at x c.session ≡ None
    fresh_runs_none x = ap running_in (fresh.slots x)

  -- ---- sessions in their first life

  abbrev home_of : Option (LivesView R) → SiteId
  home_of None = site.A
  home_of (Some l) = l.home

  abbrev first_of : Holder → Instance
  first_of (InSlot session slot) = first_life session
  first_of (Sending session slot) = first_life session

  module _ (w : WorldView R) (new : IsNewWorld w) where
    -- the client of a session is that of its first life
    record HasFirst (session : ℕ) (c : ClientView R) : Type 0 where
      lives : LivesView R
      there : lives_in session w.lives ≡ Some lives
      fresh : IsFresh (first_life session) lives.home c

    has_first : (session : ℕ) (c : ClientView R) → client_in session w.lives ≡ Some c → HasFirst session c
    has_first session c is =
        let has = lives_there session w.lives c is in
        let first = new.lives session has.lives_are has.there in
        record {
          lives = has.lives_are;
          there = has.there;
          fresh = subst (IsFresh (first_life session) has.lives_are.home) (same_Some first.client c (sym first.runs ∙ has.runs)) first.fresh;
        }

    no_line : (session slot : ℕ) → line_at session slot w.lives ≡ None
    no_line session slot = by (client_in session w.lives) refl
      where
        by : (o : Option (ClientView R)) → client_in session w.lives ≡ o → script_line (held_of slot (session_of_client o)) ≡ None
        by None is = refl
        by (Some c) is = ap script_line ((has_first session c is).fresh.slots slot)

    none_late : (session slot : ℕ) → late_at session slot w.lives ≡ None
    none_late session slot = by (lives_in session w.lives) refl
      where
        by : (o : Option (LivesView R)) → lives_in session w.lives ≡ o → sent_in slot (late_of o) ≡ None
        by None is = refl
        by (Some l) is = ap (sent_in slot) (new.lives session l is).late

    first_lives : (session : ℕ) (l : LivesView R) → lives_in session w.lives ≡ Some l → AreLivesOf [] (home_of (lives_in session w.lives)) session l
    first_lives session l is =
        let first : IsFirst session l = new.lives session l is in
        record {
          home_is = sym (ap home_of is);
          whose = ap (λ (i : Instance). i.session) first.latest;
          life =
              ap (λ (i : Instance). record { number = i.life; runs = true }) (sym first.latest)
              ∙ ap (λ o. record { number = l.latest.life; runs = is_some o }) (sym first.runs);
          latest = λ c runs. ap (λ (v : ClientView R). v.session.instance) (same_Some c first.client (sym runs ∙ first.runs)) ∙ first.fresh.instance ∙ sym first.latest;
          most = λ v late. absurd (none-some v (sym first.late ∙ late));
          older = λ v late. absurd (none-some v (sym first.late ∙ late));
        }

    first_living : (session : ℕ) (c : ClientView R) → client_in session w.lives ≡ Some c → IsLiving stands (home_of (lives_in session w.lives)) session [] (λ slot. nothing_known) c
    first_living session c is =
        let has : HasFirst session c = has_first session c is in
        fresh_living (first_life session) has.lives.home c has.fresh (home_of (lives_in session w.lives)) session [] refl (sym (ap home_of has.there)) refl refl

  pub new_world_is_sound : (w : WorldView R) → IsNewWorld w → IsSoundWorld stands w
  new_world_is_sound w new = record {
    told = record {
      run = [];
      homes = λ session. home_of (lives_in session w.lives);
      calls = new.calls;
      history = new.history;
      ids = new.ids;
      logs = new.sites;
      records = λ s. ap (after_all no_records) (new.sites s);
      mail = new.mail;
      right = λ s. record { stands = nothing_stands; standalone = none_standalone; mapped = none_mapped; ranked = none_ranked; form = form_at_first };
      exact = λ calm s. subst (λ log. IsExactBut (IsOwed (owed_in []) s) (after_all no_records log)) (sym (new.sites s)) (none_exact (IsOwed (owed_in []) s));
      lives = first_lives w new;
      order = tt;
    };
    who = first_of;
    knows = λ h. nothing_known;
    form = λ s. subst (λ log. AreInForm (after_all no_records log) (length log)) (sym (new.sites s)) form_at_first;
    standalone = λ s. subst (λ log. AreStandalone (after_all no_records log)) (sym (new.sites s)) none_standalone;
    mapped = λ s. subst (λ log. AreMapped (after_all no_records log)) (sym (new.sites s)) none_mapped;
    ranked = λ s. subst (λ log. AreRanked (after_all no_records log)) (sym (new.sites s)) none_ranked;
    clients = first_living w new;
    in_slots = λ session slot c is. sym (has_first w new session c is).fresh.instance;
    nobody = λ session none slot. refl;
    apart = λ line session slot other there is also. absurd (none-some line (sym (no_line w new session slot) ∙ is));
    slots = λ line begun. absurd (none-some begun.asked begun.is);
    truth = λ session c is s. let has = has_first w new session c is in fresh_true (first_life session) has.lives.home c has.fresh s _ c.session.instance;
    owns = λ session c is s image.
        let has = has_first w new session c is in
        ap (λ (l : LockState). l.owned) (fresh_locks (first_life session) has.lives.home c has.fresh s image);
    late = none_late w new;
    sending = λ session slot x is. absurd (none-some x (sym (none_late w new session slot) ∙ is));
    was_left = λ session slot x is. absurd (none-some x (sym (none_late w new session slot) ∙ is));
    unsent = λ session slot none. refl;
    drops = λ session slot there x differ is. absurd (none-some x (sym (none_late w new session slot) ∙ is));
    new = λ h s image drawn. tt;
    reads = λ h s. nothing_is_read s no_records (flat_after s []);
    beside = λ h g strangers s. nothing_is_beside s _ _ _ nothing_known;
    in_order = λ session c is.
        let has = has_first w new session c is in
        none_in_order stands (home_of (lives_in session w.lives)) c.session.instance [] c.session (fresh_runs_none (first_life session) has.lives.home c has.fresh);
  }
