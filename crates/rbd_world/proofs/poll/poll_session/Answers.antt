use Rattle.std.proofs.Common.{◌≡◌, IfOk, OnOk, slice_set, Some, None, refl, sym, ap, ◌∙◌, subst}
use Rattle.std.proofs.lemmas.Result.{on_ok_weaker, on_err_weaker}
use Rattle.rbd_world.specs.Noted.{history_with}
use Rattle.rbd_world.specs.Run.{outcome_of}
use Rattle.rbd_world.specs.Step.{DoesAtSites, DoesToLives, IsClientAlikeIf, polled}
use Rattle.rbd_world.specs.World.{LivesView, client_in, lives_in, running_of}
use Rattle.rbd_world.specs.declared.event.Event.TheVariants as of_event
use Rattle.rbd_world.proofs.BothSites.{left_sites, nothing_done}
use Rattle.rbd_world.proofs.OneLife.{does_to_none, does_to_one, leaves_one, leaves_stopped, lent, none_there}
use Rattle.rbd_world.proofs.Ongoing.{poll_lives_on}
use Rattle.rbd_world.proofs.poll.poll_session.Goals as goal

-- ---- no such session

none : (g : _) (c : goal.After-lives-in_default-2-1 g) → lives_in c.args.session c.args.lives.now.items ≡ None
none g c = none_there c.args.session c.session.inside.0 c.args.lives.now.items c.session.view_is c.in_default.ensures.item.3

pub returns-in_default-clause-sites : goal.returns-in_default-clause-sites
returns-in_default-clause-sites g c =
    subst (λ l. DoesAtSites (polled g.R.Machine.stands c.args.sites.now c.args.slot (running_of l)) c.args.sites.now c.args.sites.now) (sym (none g c)) (left_sites _ c.args.sites.now nothing_done refl)

pub returns-in_default-clause-lives : goal.returns-in_default-clause-lives
returns-in_default-clause-lives g c =
    does_to_none g.R.Machine.stands (of_event.Poll c.args.session c.args.slot)
    (polled g.R.Machine.stands c.args.sites.now c.args.slot (client_in c.args.session c.args.lives.now.items)) c.args.session c.args.lives.now.items (λ n. refl)
    (none g c)

-- ---- one that doesn't run

stopped : (g : _) (c : goal.After-lives-in_default-running-1 g) → client_in c.args.session c.args.lives.now.items ≡ None
stopped g c = ap running_of (lent c.args.session c.session.inside.0 c.args.lives.now.items c.in-Some.life.now c.session.view_is c.in-Some.ensures.item.3.0 c.in-Some.ensures.value) ∙ sym (ap (λ (l : LivesView _). l.running) c.life.view_is) ∙ c.in_default-running.is

pub returns-in_default-running-clause-outcome : goal.returns-in_default-running-clause-outcome
returns-in_default-running-clause-outcome g c = sym (ap (λ o. outcome_of (polled g.R.Machine.stands c.args.sites.now c.args.slot o)) (stopped g c))

pub returns-in_default-running-clause-history : goal.returns-in_default-running-clause-history
returns-in_default-running-clause-history g c = sym (ap (λ o. history_with c.args.book.now.history.items (polled g.R.Machine.stands c.args.sites.now c.args.slot o)) (stopped g c))

pub returns-in_default-running-clause-sites : goal.returns-in_default-running-clause-sites
returns-in_default-running-clause-sites g c =
    subst (λ o. DoesAtSites (polled g.R.Machine.stands c.args.sites.now c.args.slot o) c.args.sites.now c.args.sites.now) (sym (stopped g c)) (left_sites _ c.args.sites.now nothing_done refl)

pub returns-in_default-running-clause-lives : goal.returns-in_default-running-clause-lives
returns-in_default-running-clause-lives g c =
    let xs = c.args.lives.now.items in
    let before : LivesView _ = (record { home = c.life.inside.home; latest = c.life.inside.latest; running = c.life.inside.running; late = c.life.inside.late }) in
    subst (λ o. DoesToLives g.R.Machine.stands (of_event.Poll c.args.session c.args.slot) (polled g.R.Machine.stands c.args.sites.now c.args.slot o) xs (slice_set xs c.session.inside.0 before)) (sym (stopped g c))
    (leaves_stopped g.R.Machine.stands (of_event.Poll c.args.session c.args.slot) c.args.session c.session.inside.0 xs before (λ n. refl) c.session.view_is
    ((lent c.args.session c.session.inside.0 c.args.lives.now.items c.in-Some.life.now c.session.view_is c.in-Some.ensures.item.3.0 c.in-Some.ensures.value) ∙ ap Some (sym c.life.view_is)) c.in_default-running.is refl)

-- ---- one that runs

pub poll_slot-requires-clause-wants : goal.poll_slot-requires-clause-wants
poll_slot-requires-clause-wants g c =
    c.requires.wants c.in-Some-running.client
    (ap running_of (lent c.args.session c.session.inside.0 c.args.lives.now.items c.in-Some.life.now c.session.view_is c.in-Some.ensures.item.3.0 c.in-Some.ensures.value) ∙ sym (ap (λ (l : LivesView _). l.running) c.life.view_is) ∙ c.in-Some-running.is)

pub poll_slot-requires-clause-rest : goal.poll_slot-requires-clause-rest
poll_slot-requires-clause-rest g c =
    c.requires.rest c.in-Some-running.client
    (ap running_of (lent c.args.session c.session.inside.0 c.args.lives.now.items c.in-Some.life.now c.session.view_is c.in-Some.ensures.item.3.0 c.in-Some.ensures.value) ∙ sym (ap (λ (l : LivesView _). l.running) c.life.view_is) ∙ c.in-Some-running.is)

there : (g : _) (c : goal.After-lives-2-1 g) → lives_in c.args.session c.args.lives.now.items ≡ Some c.in-Some.life.now
there g c = (lent c.args.session c.session.inside.0 c.args.lives.now.items c.in-Some.life.now c.session.view_is c.in-Some.ensures.item.3.0 c.in-Some.ensures.value)

found : (g : _) (c : goal.After-lives-2-1 g) → client_in c.args.session c.args.lives.now.items ≡ Some c.in-Some-running.client
found g c = ap running_of (there g c) ∙ sym (ap (λ (l : LivesView _). l.running) c.life.view_is) ∙ c.in-Some-running.is

pub returns-clause-outcome : goal.returns-clause-outcome
returns-clause-outcome g c = subst (λ o. IfOk c.poll_slot.result (λ r. r ≡ outcome_of (polled g.R.Machine.stands c.args.sites.now c.args.slot o))) (sym (found g c)) c.poll_slot.ensures.outcome

pub returns-clause-history : goal.returns-clause-history
returns-clause-history g c =
    subst (λ o. OnOk c.poll_slot.result (c.poll_slot.new.history.items ≡ history_with c.args.book.now.history.items (polled g.R.Machine.stands c.args.sites.now c.args.slot o))) (sym (found g c)) c.poll_slot.ensures.history

pub returns-clause-sites : goal.returns-clause-sites
returns-clause-sites g c =
    subst (λ o. OnOk c.poll_slot.result (DoesAtSites (polled g.R.Machine.stands c.args.sites.now c.args.slot o) c.args.sites.now c.poll_slot.new.sites)) (sym (found g c)) c.poll_slot.ensures.sites

pub returns-clause-lives : goal.returns-clause-lives
returns-clause-lives g c =
    let e = of_event.Poll c.args.session c.args.slot in
    let xs = c.args.lives.now.items in
    let after : LivesView _ = (record { home = c.life.inside.home; latest = c.life.inside.latest; running = Some c.poll_slot.new.client; late = c.life.inside.late }) in
    subst (λ o. OnOk c.poll_slot.result (DoesToLives g.R.Machine.stands e (polled g.R.Machine.stands c.args.sites.now c.args.slot o) xs (slice_set xs c.session.inside.0 after))) (sym (ap running_of (there g c)))
    (on_ok_weaker c.poll_slot.result (λ goes.
    does_to_one g.R.Machine.stands e (polled g.R.Machine.stands c.args.sites.now c.args.slot c.in-Some.life.now.running) c.args.session c.session.inside.0 xs
    c.in-Some.life.now after (λ n. refl) c.session.view_is (there g c) (goes c.args.session) c.poll_slot.ensures.sound)
    (poll_lives_on g.R.Machine.stands c.poll_slot.result c.in-Some.life.now (record { home = c.life.inside.home; latest = c.life.inside.latest; running = c.life.inside.running; late = c.life.inside.late })
    c.life.view_is c.in-Some-running.client c.poll_slot.new.client c.in-Some-running.is c.args.slot c.args.sites.now c.poll_slot.ensures.becomes))

pub returns-clause-alike : goal.returns-clause-alike
returns-clause-alike g c =
    let before : LivesView _ = (record { home = c.life.inside.home; latest = c.life.inside.latest; running = c.life.inside.running; late = c.life.inside.late }) in
    let after : LivesView _ = (record { home = c.life.inside.home; latest = c.life.inside.latest; running = Some c.poll_slot.new.client; late = c.life.inside.late }) in
    on_err_weaker c.poll_slot.result (λ alike.
    leaves_one g.R.Machine.stands c.args.session c.session.inside.0 c.args.lives.now.items before after c.session.view_is (there g c ∙ ap Some (sym c.life.view_is))
    (record {
      home = refl;
      latest = refl;
      running = subst (λ o. IsClientAlikeIf g.R.Machine.stands o (Some c.poll_slot.new.client)) (sym c.in-Some-running.is) alike;
      late = refl;
    }) c.poll_slot.ensures.sound)
    c.poll_slot.ensures.alike
