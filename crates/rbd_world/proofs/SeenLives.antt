-- What an event does to sessions, by their machines, it does so by the plans that they follow.
use Rattle.std.proofs.Common.{◌≡◌, ℕ, ◌==◌, if◌then◌else◌, Bool, List, map, Option, Some, None, refl, sym, ap, ◌∙◌, subst}
use Rattle.std.proofs.lemmas.List.{length-map}
use Rattle.std.proofs.Math.Path.{fun_ext}
use Rattle.std.proofs.lemmas.Option.{slice_get-map}
use Rattle.std.specs.List.{flat_map}
use Rattle.std.specs.Option.{option_map}
use Rattle.std.specs.Prelude.{slice_get}
use Rattle.rbd_client.specs.declared.actor.Actor.{Actor}
use Rattle.rbd_client.specs.declared.actor.Actor.TheVariants as actor
use Rattle.rbd_client.specs.Actor.{actor_at, op_wanted}
use Rattle.rbd_client.specs.Client.{ClientView}
use Rattle.rbd_client.specs.Sound.{IsSoundClient}
use Rattle.rbd_client.specs.Seen.{as_is, seen, seen_running, seen_session, seen_slot}
use Rattle.rbd_client.proofs.SeenClient.{actor_seen, alike_seen, client_fed_seen, drops_unseen, kind_wanted_seen, op_wanted_seen, sound_seen, sound_unseen}
use Rattle.rbd_client.proofs.SeenSession.{free_slot_seen, held_seen, line_seen, newcomer_seen, of_same, same_slot_seen, unseen}
use Rattle.rbd_commands.specs.declared.command.Command.{Command}
use Rattle.rbd_kinds.specs.declared.id.Instance.{Instance}
use Rattle.rbd_kinds.specs.declared.id.SiteId.{SiteId}
use Rattle.rbd_kinds.specs.declared.machine.Fed.TheVariants as fed
use Rattle.rbd_kinds.specs.declared.notice.Notice.{Notice}
use Rattle.rbd_kinds.specs.declared.operation.Op.{Op}
use Rattle.rbd_kinds.specs.declared.reply.Reply.{Reply}
use Rattle.rbd_machine.specs.Plan.{Standing}
use Rattle.rbd_catalog.specs.Plans.{IsPlanFor}
use Rattle.rbd_catalog.specs.Profile.{changed_extent}
use Rattle.rbd_slots.specs.declared.running.Occupant.{Occupant}
use Rattle.rbd_slots.specs.declared.running.Occupant.TheVariants as occupant
use Rattle.rbd_slots.specs.declared.running.Running.{Running}
use Rattle.rbd_slots.specs.Session.{SessionView, held_in, script_line, seat_of}
use Rattle.rbd_watch.specs.Posting.{notice_numbered}
use Rattle.rbd_world.specs.declared.event.Event.{Event}
use Rattle.rbd_world.specs.declared.event.Event.TheVariants as event
use Rattle.rbd_world.specs.declared.sites.Sites.{Sites}
use Rattle.rbd_world.specs.Run.{Happening, Nothing, Waited, Began, Did, Refused, Trimmed, Expired, Heard, Stopped, Restarted, Operation}
use Rattle.rbd_world.specs.Seen.{seen_life, seen_lives}
use Rattle.rbd_world.specs.Sound.{AreAtHome, AreFirst, IsAtHome, IsFirst, first_life, held_of, line_at}
use Rattle.rbd_world.specs.Step.{AreLivesAlike, AreSlotsBut, Becomes, BecomesOf, BeginsIn, DoesToLives, DropsWhatItMay, Goes, Hears, IsAlikeOf, IsClientAlikeIf, IsFresh, IsFreshIf, IsSameClient, IsSameHouse, IsSoundIf, LeavesLives, LivesOn, LivesOnIf, RunsOn, Serves, WantsWhatItMay, all_slots, ascending, come, delivered, goes_on_by, happens, heard_by, line_or_none, lost_by, polled, polled_in, releases, restarted, restarted_of, stopped, submitted, wanted_in_slots}
use Rattle.rbd_world.specs.World.{LivesView, client_in, free_in, heard_in, kind_in, late_at, late_of, lives_in, running_of, sent_in, session_of_client}

module _ {R : Type 0} (stands : R → Standing) where
  -- ---- what is there

  pub lives_in_seen : (session : ℕ) (lives : List (LivesView R)) → lives_in session (seen_lives stands lives) ≡ option_map (seen_life stands) (lives_in session lives)
  lives_in_seen session lives = slice_get-map (seen_life stands) lives session

  running_of_seen : (o : Option (LivesView R)) → running_of (option_map (seen_life stands) o) ≡ option_map (seen stands) (running_of o)
  running_of_seen None = refl
  running_of_seen (Some l) = refl

  pub client_in_seen : (session : ℕ) (lives : List (LivesView R)) → client_in session (seen_lives stands lives) ≡ option_map (seen stands) (client_in session lives)
  client_in_seen session lives = ap running_of (lives_in_seen session lives) ∙ running_of_seen (lives_in session lives)

  late_of_seen : (o : Option (LivesView R)) → late_of (option_map (seen_life stands) o) ≡ late_of o
  late_of_seen None = refl
  late_of_seen (Some l) = refl

  pub late_at_seen : (session slot : ℕ) (lives : List (LivesView R)) → late_at session slot (seen_lives stands lives) ≡ late_at session slot lives
  late_at_seen session slot lives = ap (sent_in slot) (ap late_of (lives_in_seen session lives) ∙ late_of_seen (lives_in session lives))

  -- ---- what is asked of a session

  line_of_seen : (slot : ℕ) (o : Option (ClientView R)) → script_line (held_of slot (session_of_client (option_map (seen stands) o))) ≡ script_line (held_of slot (session_of_client o))
  line_of_seen slot None = refl
  line_of_seen slot (Some c) = ap script_line (held_seen stands slot c.session.slots) ∙ line_seen stands (held_in slot c.session.slots)

  pub line_at_seen : (session slot : ℕ) (lives : List (LivesView R)) → line_at session slot (seen_lives stands lives) ≡ line_at session slot lives
  line_at_seen session slot lives =
      ap (λ (o : Option (ClientView Standing)). script_line (held_of slot (session_of_client o))) (client_in_seen session lives) ∙ line_of_seen slot (client_in session lives)

  kind_of_seen : (slot : ℕ) (o : Option (ClientView R)) → kind_in as_is slot (option_map (seen stands) o) ≡ kind_in stands slot o
  kind_of_seen slot None = refl
  kind_of_seen slot (Some c) = kind_wanted_seen stands slot c

  pub kind_in_seen : (session slot : ℕ) (lives : List (LivesView R)) → kind_in as_is slot (client_in session (seen_lives stands lives)) ≡ kind_in stands slot (client_in session lives)
  kind_in_seen session slot lives = ap (kind_in as_is slot) (client_in_seen session lives) ∙ kind_of_seen slot (client_in session lives)

  -- what the plans leave as it is
  pub of_client_seen : {T : Type 0} (of_raw : Option (ClientView R) → T) (of_plans : Option (ClientView Standing) → T) → ((o : Option (ClientView R)) → of_plans (option_map (seen stands) o) ≡ of_raw o)
      → (session : ℕ) (lives : List (LivesView R)) → of_plans (client_in session (seen_lives stands lives)) ≡ of_raw (client_in session lives)
  of_client_seen of_raw of_plans same session lives = ap of_plans (client_in_seen session lives) ∙ same (client_in session lives)

  pub free_seen : (o : Option (ClientView R)) → free_in (option_map (seen stands) o) ≡ free_in o
  free_seen None = refl
  free_seen (Some c) = refl

  pub heard_seen : (o : Option (ClientView R)) → heard_in (option_map (seen stands) o) ≡ heard_in o
  heard_seen None = refl
  heard_seen (Some c) = refl

  -- ---- what an event does

  submitted_seen : (begun : Bool) (line : ℕ) (c : Command) (o : Option (ClientView R)) → submitted begun line c (option_map (seen stands) o) ≡ submitted begun line c o
  submitted_seen begun line c None = refl
  submitted_seen begun line c (Some client) = refl

  goes_on_seen : (sites : Sites) (c : ClientView R) (slot : ℕ) (r : Running R) (who : Actor) → goes_on_by as_is sites (seen stands c) slot (seen_running stands r) who ≡ goes_on_by stands sites c slot r who
  goes_on_seen sites c slot r actor.Nobody = refl
  goes_on_seen sites c slot r actor.Request = refl
  goes_on_seen sites c slot r (actor.Way a) = refl
  goes_on_seen sites c slot r (actor.Release x) = refl

  polled_in_seen : (sites : Sites) (c : ClientView R) (slot : ℕ) (o : Option (Occupant R)) → polled_in as_is sites (seen stands c) slot (seen_slot stands o) ≡ polled_in stands sites c slot o
  polled_in_seen sites c slot None = ap (λ who. if slot == 0 then releases sites c.session.instance who else Nothing) (actor_seen stands slot c)
  polled_in_seen sites c slot (Some (occupant.Refused line refusal)) = refl
  polled_in_seen sites c slot (Some (occupant.Running r)) = ap (goes_on_by as_is sites (seen stands c) slot (seen_running stands r)) (actor_seen stands slot c) ∙ goes_on_seen sites c slot r (actor_at stands slot c)

  polled_of_seen : (sites : Sites) (slot : ℕ) (o : Option (ClientView R)) → polled as_is sites slot (option_map (seen stands) o) ≡ polled stands sites slot o
  polled_of_seen sites slot None = refl
  polled_of_seen sites slot (Some c) = ap (polled_in as_is sites (seen stands c) slot) (held_seen stands slot c.session.slots) ∙ polled_in_seen sites c slot (held_in slot c.session.slots)

  pub polled_seen : (sites : Sites) (session slot : ℕ) (lives : List (LivesView R)) → polled as_is sites slot (client_in session (seen_lives stands lives)) ≡ polled stands sites slot (client_in session lives)
  polled_seen sites session slot lives = ap (polled as_is sites slot) (client_in_seen session lives) ∙ polled_of_seen sites slot (client_in session lives)

  heard_by_seen : (n : Notice) (o : Option (ClientView R)) → heard_by n (option_map (seen stands) o) ≡ heard_by n o
  heard_by_seen n None = refl
  heard_by_seen n (Some c) = refl

  delivered_seen : (n : Option Notice) (lives : List (LivesView R)) → delivered n (seen_lives stands lives) ≡ delivered n lives
  delivered_seen None lives = refl
  delivered_seen (Some n) lives = ap (heard_by n) (client_in_seen n.to.session lives) ∙ heard_by_seen n (client_in n.to.session lives)

  wanted_seen : (slots : List ℕ) (c : ClientView R) → map (λ slot. op_wanted as_is slot (seen stands c)) slots ≡ map (λ slot. op_wanted stands slot c) slots
  wanted_seen slots c = ap (λ (f : ℕ → Option (SiteId × Op)). map f slots) (fun_ext (λ slot. op_wanted_seen stands slot c))

  lost_line_seen : (c : ClientView R) (slot : ℕ) → line_or_none (script_line (held_in slot (map (seen_slot stands) c.session.slots))) ≡ line_or_none (script_line (held_in slot c.session.slots))
  lost_line_seen c slot = ap (λ (o : Option (Occupant Standing)). line_or_none (script_line o)) (held_seen stands slot c.session.slots) ∙ ap line_or_none (line_seen stands (held_in slot c.session.slots))

  lost_seen : (c : ClientView R) → lost_by as_is (seen stands c) ≡ lost_by stands c
  lost_seen c = ap (λ (f : ℕ → List ℕ). ascending (flat_map f all_slots)) (fun_ext (lost_line_seen c))

  stopped_seen : (o : Option (ClientView R)) → stopped as_is (option_map (seen stands) o) ≡ stopped stands o
  stopped_seen None = refl
  stopped_seen (Some c) = ap (λ wanted. Stopped c.session.instance wanted (lost_by as_is (seen stands c))) (wanted_seen all_slots c) ∙ ap (Stopped c.session.instance (wanted_in_slots stands c)) (lost_seen c)

  restarted_of_seen : (latest : Instance) (o : Option (ClientView R)) → restarted_of latest (option_map (seen stands) o) ≡ restarted_of latest o
  restarted_of_seen latest None = refl
  restarted_of_seen latest (Some c) = refl

  restarted_seen : (o : Option (LivesView R)) → restarted (option_map (seen_life stands) o) ≡ restarted o
  restarted_seen None = refl
  restarted_seen (Some l) = restarted_of_seen l.latest l.running

  pub happens_seen : (e : Event) (begun : (line : ℕ) → Bool) (sites : Sites) (lives : List (LivesView R)) → happens as_is e begun sites (seen_lives stands lives) ≡ happens stands e begun sites lives
  happens_seen (event.Submit session line c) begun sites lives = ap (submitted (begun line) line c) (client_in_seen session lives) ∙ submitted_seen (begun line) line c (client_in session lives)
  happens_seen (event.Poll session slot) begun sites lives = polled_seen sites session slot lives
  happens_seen (event.Deliver number) begun sites lives = delivered_seen (notice_numbered number sites.mail) lives
  happens_seen (event.Expire session s image) begun sites lives = refl
  happens_seen (event.Stop session) begun sites lives = ap (stopped as_is) (client_in_seen session lives) ∙ stopped_seen (client_in session lives)
  happens_seen (event.Late session slot) begun sites lives = ap (come sites slot) (late_at_seen session slot lives)
  happens_seen (event.Restart session) begun sites lives = ap restarted (lives_in_seen session lives) ∙ restarted_seen (lives_in session lives)
  happens_seen (event.Trim s image object) begun sites lives = refl

  -- ---- what becomes of a client

  slots_seen : (slot : ℕ) (old new : SessionView R) → AreSlotsBut slot old new → AreSlotsBut slot (seen_session stands old) (seen_session stands new)
  slots_seen slot old new same = λ other apart. same_slot_seen stands other old.slots new.slots (same other apart)

  same_client_seen : (old new : SessionView R) → IsSameClient old new → IsSameClient (seen_session stands old) (seen_session stands new)
  same_client_seen old new same = record { instance = same.instance; home = same.home }

  same_house_seen : (old new : ClientView R) → IsSameHouse old new → IsSameHouse (seen stands old) (seen stands new)
  same_house_seen old new same = record { locks = same.locks; release = same.release; heard = same.heard }

  begins_seen : (line : ℕ) (c : Command) (old new : ClientView R) → BeginsIn stands line c old new → BeginsIn as_is line c (seen stands old) (seen stands new)
  begins_seen line c old new is = record {
    begins = record {
      held = newcomer_seen stands IsPlanFor changed_extent (seat_of old.session) line c old.session.lowest new.session.slots is.begins.held;
      slots = slots_seen old.session.lowest old.session new.session is.begins.slots;
      lines = is.begins.lines;
      client = same_client_seen old.session new.session is.begins.client;
    };
    state = is.state;
    states = is.states;
    house = same_house_seen old new is.house;
  }

  goes_seen : (slot : ℕ) (o : Operation) (result : Option Reply) (old new : ClientView R) → Goes stands slot o result old new → Goes as_is slot o result (seen stands old) (seen stands new)
  goes_seen slot o result old new goes = record {
    fed = client_fed_seen stands slot o.site o.op (fed.Answer o.answer) result old new goes.fed;
    slots = slots_seen slot old.session new.session goes.slots;
    states = goes.states;
    others = goes.others;
    client = same_client_seen old.session new.session goes.client;
    heard = goes.heard;
  }

  serves_seen : (slot : ℕ) (old new : ClientView R) → Serves stands slot old new → Serves as_is slot (seen stands old) (seen stands new)
  serves_seen slot old new serves = record {
    held = free_slot_seen stands slot new.session.slots serves.held;
    slots = slots_seen slot old.session new.session serves.slots;
    states = serves.states;
    lines = serves.lines;
    client = same_client_seen old.session new.session serves.client;
    house = same_house_seen old new serves.house;
  }

  hears_seen : (n : Notice) (old new : ClientView R) → Hears stands n old new → Hears as_is n (seen stands old) (seen stands new)
  hears_seen n old new hears = record {
    session = ap (seen_session stands) hears.session;
    slots = hears.slots;
    release = hears.release;
    locks = hears.locks;
    told = hears.told;
  }

  becomes_seen : (e : Event) (h : Happening) (old new : ClientView R) → Becomes stands e h old new → Becomes as_is e h (seen stands old) (seen stands new)
  becomes_seen (event.Submit session line c) (Began asked slot) old new is = begins_seen line c old new is
  becomes_seen (event.Poll session slot) (Did o reply) old new is = goes_seen slot o reply old new is
  becomes_seen (event.Poll session slot) (Refused s line reply) old new is = serves_seen slot old new is
  becomes_seen (event.Deliver number) (Heard n) old new is = hears_seen n old new is
  becomes_seen e h old new is = ap (seen stands) is

  becomes_of_seen : (e : Event) (h : Happening) (old new : Option (ClientView R)) → BecomesOf stands e h old new → BecomesOf as_is e h (option_map (seen stands) old) (option_map (seen stands) new)
  becomes_of_seen e h None new is = ap (option_map (seen stands)) is
  becomes_of_seen e h (Some old) None is = is
  becomes_of_seen e h (Some old) (Some new) is = becomes_seen e h old new is

  pub fresh_seen : (who : Instance) (home : SiteId) (c : ClientView R) → IsFresh who home c → IsFresh who home (seen stands c)
  fresh_seen who home c fresh = record {
    instance = fresh.instance;
    at_home = fresh.at_home;
    slots = λ slot. free_slot_seen stands slot c.session.slots (fresh.slots slot);
    lowest = fresh.lowest;
    lines = fresh.lines;
    states = fresh.states;
    many = (length-map c.session.slots (seen_slot stands) ∙ fresh.many.0, fresh.many.1);
    noted = fresh.noted;
    asked = fresh.asked;
    release = fresh.release;
    heard = fresh.heard;
  }

  fresh_if_seen : (who : Instance) (home : SiteId) (o : Option (ClientView R)) → IsFreshIf who home o → IsFreshIf who home (option_map (seen stands) o)
  fresh_if_seen who home None fresh = fresh
  fresh_if_seen who home (Some c) fresh = fresh_seen who home c fresh

  runs_on_seen : (e : Event) (h : Happening) (home : SiteId) (old new : Option (ClientView R)) → RunsOn stands e h home old new → RunsOn as_is e h home (option_map (seen stands) old) (option_map (seen stands) new)
  runs_on_seen e (Stopped who wanted lost) home old new is = ap (option_map (seen stands)) is
  runs_on_seen e (Restarted who) home old new is = fresh_if_seen who home new is
  runs_on_seen e Nothing home old new is = becomes_of_seen e Nothing old new is
  runs_on_seen e Waited home old new is = becomes_of_seen e Waited old new is
  runs_on_seen e (Began asked slot) home old new is = becomes_of_seen e (Began asked slot) old new is
  runs_on_seen e (Did o reply) home old new is = becomes_of_seen e (Did o reply) old new is
  runs_on_seen e (Refused s line reply) home old new is = becomes_of_seen e (Refused s line reply) old new is
  runs_on_seen e (Trimmed s number image object) home old new is = becomes_of_seen e (Trimmed s number image object) old new is
  runs_on_seen e (Expired s number image who) home old new is = becomes_of_seen e (Expired s number image who) old new is
  runs_on_seen e (Heard n) home old new is = becomes_of_seen e (Heard n) old new is

  -- ---- and of its lives

  lives_on_seen : (e : Event) (h : Happening) (old new : LivesView R) → LivesOn stands e h old new → LivesOn as_is e h (seen_life stands old) (seen_life stands new)
  lives_on_seen e h old new on = record {
    home = on.home;
    latest = on.latest;
    running = runs_on_seen e h old.home old.running new.running on.running;
    late = on.late;
  }

  lives_on_if_seen : (e : Event) (h : Happening) (old new : Option (LivesView R)) → LivesOnIf stands e h old new → LivesOnIf as_is e h (option_map (seen_life stands) old) (option_map (seen_life stands) new)
  lives_on_if_seen e h None new on = ap (option_map (seen_life stands)) on
  lives_on_if_seen e h (Some old) None on = on
  lives_on_if_seen e h (Some old) (Some new) on = lives_on_seen e h old new on

  sound_if_seen : (o : Option (ClientView R)) → IsSoundIf stands o → IsSoundIf as_is (option_map (seen stands) o)
  sound_if_seen None sound = sound
  sound_if_seen (Some c) sound = sound_seen stands c sound

  pub does_to_lives_seen : (e : Event) (h : Happening) (old new : List (LivesView R)) → DoesToLives stands e h old new → DoesToLives as_is e h (seen_lives stands old) (seen_lives stands new)
  does_to_lives_seen e h old new does = record {
    named = λ session names. of_same (LivesOnIf as_is e h) _ _ _ _ (sym (lives_in_seen session old)) (sym (lives_in_seen session new))
        (lives_on_if_seen e h (lives_in session old) (lives_in session new) (does.named session names));
    others = λ session names. lives_in_seen session new ∙ ap (option_map (seen_life stands)) (does.others session names) ∙ sym (lives_in_seen session old);
    sound = λ session c names is. sound c (unseen (seen stands) (client_in session new) c (sym (client_in_seen session new) ∙ is)) (λ x at. does.sound session x names at);
  }
    where
      sound : {o : Option (ClientView R)} (c : ClientView Standing) → (x : ClientView R) × (o ≡ Some x) × (seen stands x ≡ c) → ((x : ClientView R) → o ≡ Some x → IsSoundClient stands x) → IsSoundClient as_is c
      sound c at each = subst (IsSoundClient as_is) at.2 (sound_seen stands at.0 (each at.0 at.1))

  -- ---- where memory was refused

  client_alike_if_seen : (old new : Option (ClientView R)) → IsClientAlikeIf stands old new → IsClientAlikeIf as_is (option_map (seen stands) old) (option_map (seen stands) new)
  client_alike_if_seen None new alike = ap (option_map (seen stands)) alike
  client_alike_if_seen (Some old) None alike = alike
  client_alike_if_seen (Some old) (Some new) alike = alike_seen stands old new alike

  lives_alike_seen : (old new : LivesView R) → AreLivesAlike stands old new → AreLivesAlike as_is (seen_life stands old) (seen_life stands new)
  lives_alike_seen old new alike = record {
    home = alike.home;
    latest = alike.latest;
    running = client_alike_if_seen old.running new.running alike.running;
    late = alike.late;
  }

  alike_of_seen : (old new : Option (LivesView R)) → IsAlikeOf stands old new → IsAlikeOf as_is (option_map (seen_life stands) old) (option_map (seen_life stands) new)
  alike_of_seen None new alike = ap (option_map (seen_life stands)) alike
  alike_of_seen (Some old) None alike = alike
  alike_of_seen (Some old) (Some new) alike = lives_alike_seen old new alike

  alike_lives_seen : (old new : List (LivesView R)) → ((session : ℕ) → IsAlikeOf stands (lives_in session old) (lives_in session new))
      → (session : ℕ) → IsAlikeOf as_is (lives_in session (seen_lives stands old)) (lives_in session (seen_lives stands new))
  alike_lives_seen old new alike session = of_same (IsAlikeOf as_is) _ _ _ _ (sym (lives_in_seen session old)) (sym (lives_in_seen session new))
      (alike_of_seen (lives_in session old) (lives_in session new) (alike session))

  sound_in_seen : (session : ℕ) (lives : List (LivesView R)) → IsSoundIf stands (client_in session lives) → IsSoundIf as_is (client_in session (seen_lives stands lives))
  sound_in_seen session lives sound = subst (IsSoundIf as_is) (sym (client_in_seen session lives)) (sound_if_seen (client_in session lives) sound)

  sound_if_unseen : (o : Option (ClientView R)) → IsSoundIf as_is (option_map (seen stands) o) → IsSoundIf stands o
  sound_if_unseen None sound = sound
  sound_if_unseen (Some c) sound = sound_unseen stands c sound

  pub sound_in_unseen : (session : ℕ) (lives : List (LivesView R)) → IsSoundIf as_is (client_in session (seen_lives stands lives)) → IsSoundIf stands (client_in session lives)
  sound_in_unseen session lives sound = sound_if_unseen (client_in session lives) (subst (IsSoundIf as_is) (client_in_seen session lives) sound)

  pub leaves_lives_seen : (old new : List (LivesView R)) → LeavesLives stands old new → LeavesLives as_is (seen_lives stands old) (seen_lives stands new)
  leaves_lives_seen old new left = record {
    alike = alike_lives_seen old new left.alike;
    sound = λ session was. sound_in_seen session new (left.sound session (sound_in_unseen session old was));
  }

  -- ---- what is asked of what is wanted

  pub client_is_seen : (session : ℕ) (lives : List (LivesView R)) (c : ClientView R) → client_in session lives ≡ Some c → client_in session (seen_lives stands lives) ≡ Some (seen stands c)
  client_is_seen session lives c is = client_in_seen session lives ∙ ap (option_map (seen stands)) is

  pub wants_unseen : (sites : Sites) (slot : ℕ) (c : ClientView R) → WantsWhatItMay as_is sites slot (seen stands c) → WantsWhatItMay stands sites slot c
  wants_unseen sites slot c wants = λ s o is. wants s o (op_wanted_seen stands slot c ∙ is)

  pub drops_what_unseen : (slot : ℕ) (c : ClientView R) → DropsWhatItMay as_is slot (seen stands c) → DropsWhatItMay stands slot c
  drops_what_unseen slot c drops = λ s o is. drops_unseen stands slot s o c (drops s o (op_wanted_seen stands slot c ∙ is))

  -- ---- a new world

  first_seen : (session : ℕ) (l : LivesView R) → IsFirst session l → IsFirst session (seen_life stands l)
  first_seen session l first = record {
    latest = first.latest;
    client = seen stands first.client;
    runs = ap (option_map (seen stands)) first.runs;
    fresh = fresh_seen (first_life session) l.home first.client first.fresh;
    late = first.late;
  }

  pub are_first_seen : (lives : List (LivesView R)) → AreFirst lives → AreFirst (seen_lives stands lives)
  are_first_seen lives first = λ session l is. at session l (unseen (seen_life stands) (lives_in session lives) l (sym (lives_in_seen session lives) ∙ is))
    where
      at : (session : ℕ) (l : LivesView Standing) → (x : LivesView R) × (lives_in session lives ≡ Some x) × (seen_life stands x ≡ l) → IsFirst session l
      at session l is = subst (IsFirst session) is.2 (first_seen session is.0 (first session is.0 is.1))

  home_seen : (home : Option SiteId) (o : Option (LivesView R)) → IsAtHome home o → IsAtHome home (option_map (seen_life stands) o)
  home_seen None None at = at
  home_seen None (Some l) at = at
  home_seen (Some home) None at = at
  home_seen (Some home) (Some l) at = at

  pub at_home_seen : (homes : List SiteId) (lives : List (LivesView R)) → AreAtHome homes lives → AreAtHome homes (seen_lives stands lives)
  at_home_seen homes lives at = λ session. subst (IsAtHome (slice_get homes session)) (sym (lives_in_seen session lives)) (home_seen (slice_get homes session) (lives_in session lives) (at session))
