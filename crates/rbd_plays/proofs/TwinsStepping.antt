-- A step of twins leaves twins.
use Rattle.std.proofs.Common.{◌≡◌, ◌==◌, ℕ, cond, Bool, true, false, Option, Some, None, refl, sym, ap, ◌∙◌, subst}
use Rattle.std.specs.Prelude.{IsSome}
use Rattle.std.proofs.lemmas.Bool.{eqb-true, true≢false}
use Rattle.rbd_client.specs.Actor.{actor_at}
use Rattle.rbd_client.specs.Client.{ClientView}
use Rattle.rbd_client.specs.Feeding.{IsClientAlike}
use Rattle.rbd_client.specs.declared.actor.Actor.TheVariants as actor
use Rattle.rbd_kinds.specs.declared.id.SiteId.{SiteId}
use Rattle.rbd_kinds.specs.declared.reply.Reply.{Reply}
use Rattle.rbd_machine.specs.Plan.{Standing}
use Rattle.rbd_lock.specs.declared.acquire.Acquire.{Acquire}
use Rattle.rbd_catalog.specs.Plans.{is_built}
use Rattle.rbd_slots.specs.Session.{held_in, running_in}
use Rattle.rbd_slots.specs.declared.running.Occupant.{Occupant}
use Rattle.rbd_slots.specs.declared.running.Occupant.TheVariants as occupant
use Rattle.rbd_world.specs.Run.{Happening, Nothing, Began, Did, Refused, Heard, Stopped, Restarted, Operation}
use Rattle.rbd_world.specs.Step.{AreLivesAlike, Becomes, BecomesOf, IsAlikeOf, IsBuiltEvent, IsClientAlikeIf, IsFreshIf, LivesOn, LivesOnIf, RunsOn, happening, late_behind, latest_behind, names_session, polled, polled_in, releases}
use Rattle.rbd_world.specs.World.{LivesView, WorldView, client_in, lives_in, running_of}
use Rattle.rbd_world.specs.declared.event.Event.{Event}
use Rattle.rbd_world.specs.declared.event.Event.TheVariants as event
use Rattle.rbd_world.specs.declared.sites.Sites.{Sites}
use Rattle.rbd_schedule.specs.Slots.{IsCounted}
use Rattle.rbd_plays.proofs.Behind.{begins_alike, goes_alike, hears_alike, serves_alike, stays_alike}
use Rattle.rbd_plays.proofs.FedAlike.{RunsOnWay}
use Rattle.rbd_plays.proofs.Fresh.{fresh_alike}

-- an operation was done
abbrev is_done : Happening → Bool
is_done (Did o reply) = true
is_done h = false

-- a command that begins is one that is built
abbrev pub BeginsBuilt : Event → Happening → Type 0
BeginsBuilt (event.Submit session line k) (Began asked slot) = is_built k ≡ true
BeginsBuilt e h = Unit {0}

pub begins_built : (e : Event) (h : Happening) → IsBuiltEvent e → BeginsBuilt e h
begins_built (event.Submit session line k) (Began asked slot) built = built
begins_built (event.Submit session line k) _ built = tt
begins_built e h built = tt

-- the client is counted, where one runs
abbrev pub IsCountedIf : {R : Type 0} → Option (ClientView R) → Type 0
IsCountedIf None = Unit {0}
IsCountedIf (Some c) = IsCounted c

module _ {R : Type 0} (stands : R → Standing) where
  -- ---- who goes on its way runs

  module _ (sites : Sites) (slot : ℕ) (c : ClientView R) (a : Acquire) (acts : actor_at stands slot c ≡ actor.Way a) where
    none_there : (is_zero : Bool) (h : Happening) → cond is_zero (releases sites c.session.instance (actor_at stands slot c)) Nothing ≡ h → is_done h ≡ true → ⊥
    none_there true h is done = true≢false (sym done ∙ ap is_done (sym is ∙ ap (releases sites c.session.instance) acts))
    none_there false h is done = true≢false (sym done ∙ ap is_done (sym is))

    runs_there : (o : Option (Occupant R)) (h : Happening) → polled_in stands sites c slot o ≡ h → is_done h ≡ true → IsSome (running_in o)
    runs_there None h is done = absurd (none_there (slot == 0) h is done)
    runs_there (Some (occupant.Refused line refusal)) h is done = absurd (true≢false (sym done ∙ ap is_done (sym is)))
    runs_there (Some (occupant.Running r)) h is done = refl

  runs_on_way : (sites : Sites) (slot : ℕ) (c : ClientView R) (o : Operation) (reply : Option Reply) → polled stands sites slot (Some c) ≡ Did o reply → RunsOnWay slot c (actor_at stands slot c)
  runs_on_way sites slot c o reply is a acts = runs_there sites slot c a acts (held_in slot c.session.slots) (Did o reply) is refl

  -- what a poll of a client did
  abbrev IsPollOf : Event → Happening → Sites → Option (ClientView R) → Type 0
  IsPollOf (event.Poll session slot) h sites c = polled stands sites slot c ≡ h
  IsPollOf e h sites c = Unit {0}

  -- ---- a client

  module _ (sites : Sites) (c d x y : ClientView R) (alike : IsClientAlike stands c d) (counted : IsCounted x) (also : IsCounted y) where
    becomes_alike : (e : Event) (h : Happening) → BeginsBuilt e h → IsPollOf e h sites (Some c) → Becomes stands e h c x → Becomes stands e h d y → IsClientAlike stands x y
    becomes_alike (event.Submit session line k) (Began asked slot) built is becomes other = begins_alike stands c d x y alike counted also line k built becomes other
    becomes_alike (event.Poll session slot) (Did o reply) built is becomes other = goes_alike stands c d x y alike counted also slot o reply (runs_on_way sites slot c o reply is) becomes other
    becomes_alike (event.Poll session slot) (Refused s line reply) built is becomes other = serves_alike stands c d x y alike counted also slot becomes other
    becomes_alike (event.Deliver number) (Heard notice) built is becomes other = hears_alike stands c d x y alike counted also notice becomes other
    becomes_alike e h built is becomes other = stays_alike stands c d x y alike counted also becomes other

  -- of one that runs, or of none
  module _ (sites : Sites) (e : Event) (h : Happening) (built : BeginsBuilt e h) where
    becomes_if : (o n p q : Option (ClientView R)) → IsClientAlikeIf stands o n → IsPollOf e h sites o → IsCountedIf p → IsCountedIf q
        → BecomesOf stands e h o p → BecomesOf stands e h n q → IsClientAlikeIf stands p q
    becomes_if None n p q alike is counted also becomes other =
        subst (λ z. IsClientAlikeIf stands z q) (sym becomes) (subst (λ z. BecomesOf stands e h z q) alike other)
    becomes_if (Some c) None p q alike is counted also becomes other = absurd alike
    becomes_if (Some c) (Some d) None q alike is counted also becomes other = absurd becomes
    becomes_if (Some c) (Some d) (Some x) None alike is counted also becomes other = absurd other
    becomes_if (Some c) (Some d) (Some x) (Some y) alike is counted also becomes other = becomes_alike sites c d x y alike counted also e h built is becomes other

  gone_alike : (p q : Option (ClientView R)) → p ≡ None → q ≡ None → IsClientAlikeIf stands p q
  gone_alike p q gone other = subst (λ z. IsClientAlikeIf stands z q) (sym gone) other

  anew_alike : (who : _) (home there : SiteId) (p q : Option (ClientView R)) → there ≡ home → IsFreshIf who home p → IsFreshIf who there q → IsClientAlikeIf stands p q
  anew_alike who home there None q same fresh other = absurd fresh
  anew_alike who home there (Some x) None same fresh other = absurd other
  anew_alike who home there (Some x) (Some y) same fresh other = fresh_alike stands who home there x y same fresh other

  module _ (sites : Sites) (e : Event) (home there : SiteId) (same : there ≡ home) (o n p q : Option (ClientView R)) (alike : IsClientAlikeIf stands o n)
      (counted : IsCountedIf p) (also : IsCountedIf q) where
    runs_alike : (h : Happening) → BeginsBuilt e h → IsPollOf e h sites o → RunsOn stands e h home o p → RunsOn stands e h there n q → IsClientAlikeIf stands p q
    runs_alike (Stopped who wanted lost) built is runs other = gone_alike p q runs other
    runs_alike (Restarted who) built is runs other = anew_alike who home there p q same runs other
    runs_alike h built is runs other = becomes_if sites e h built o n p q alike is counted also runs other

  -- ---- a session's lives

  module _ (sites : Sites) (e : Event) (h : Happening) (built : BeginsBuilt e h) where
    lives_alike : (l m k j : LivesView R) → AreLivesAlike stands l m → IsPollOf e h sites l.running → IsCountedIf k.running → IsCountedIf j.running
        → LivesOn stands e h l k → LivesOn stands e h m j → AreLivesAlike stands k j
    lives_alike l m k j alike is counted also lives other = record {
      home = other.home ∙ alike.home ∙ sym lives.home;
      latest = other.latest ∙ ap (latest_behind h) alike.latest ∙ sym lives.latest;
      running = runs_alike sites e l.home m.home alike.home l.running m.running k.running j.running alike.running counted also h built is lives.running other.running;
      late = other.late ∙ ap (late_behind e h) alike.late ∙ sym lives.late;
    }

    lives_if : (o n p q : Option (LivesView R)) → IsAlikeOf stands o n → IsPollOf e h sites (running_of o) → IsCountedIf (running_of p) → IsCountedIf (running_of q)
        → LivesOnIf stands e h o p → LivesOnIf stands e h n q → IsAlikeOf stands p q
    lives_if None n p q alike is counted also lives other =
        subst (λ z. IsAlikeOf stands z q) (sym lives) (subst (λ z. LivesOnIf stands e h z q) alike other)
    lives_if (Some l) None p q alike is counted also lives other = absurd alike
    lives_if (Some l) (Some m) None q alike is counted also lives other = absurd lives
    lives_if (Some l) (Some m) (Some k) None alike is counted also lives other = absurd other
    lives_if (Some l) (Some m) (Some k) (Some j) alike is counted also lives other = lives_alike l m k j alike is counted also lives other

  -- ---- the session that an event names

  pub poll_of : (e : Event) (v : WorldView R) (session : ℕ) → names_session e (happening stands e v) session ≡ true → IsPollOf e (happening stands e v) v.sites (client_in session v.lives)
  poll_of (event.Poll named slot) v session names = ap (λ s. polled stands v.sites slot (client_in s v.lives)) (sym (eqb-true named session names))
  poll_of e v session names = tt

  pub named_alike : (e : Event) (v : WorldView R) (session : ℕ) → BeginsBuilt e (happening stands e v) → names_session e (happening stands e v) session ≡ true → (n p q : Option (LivesView R))
      → IsAlikeOf stands (lives_in session v.lives) n → IsCountedIf (running_of p) → IsCountedIf (running_of q)
      → LivesOnIf stands e (happening stands e v) (lives_in session v.lives) p → LivesOnIf stands e (happening stands e v) n q → IsAlikeOf stands p q
  named_alike e v session built names n p q alike counted also lives other =
      lives_if v.sites e (happening stands e v) built (lives_in session v.lives) n p q alike (poll_of e v session names) counted also lives other
