use Rattle.std.proofs.Common.{◌≡◌, IfOk, slice_set, Option, Some, None, refl, sym, ap, ◌∙◌, subst}
use Rattle.std.proofs.lemmas.Result.{on_ok_weaker, on_err_weaker}
use Rattle.rbd_client.specs.Client.{ClientView}
use Rattle.rbd_world.specs.Run.{Nothing, outcome_of}
use Rattle.rbd_world.specs.Step.{DoesToLives, IsSoundIf, heard_by}
use Rattle.rbd_world.specs.World.{LivesView, client_in, lives_in, running_of}
use Rattle.rbd_world.specs.declared.event.Event.TheVariants as of_event
use Rattle.rbd_world.proofs.OneLife.{does_to_nobody, lent, none_there, set_same, set_unless}
use Rattle.rbd_world.proofs.Ongoing.{hear_lives_on, hears_or_not}
use Rattle.rbd_world.proofs.deliver.tell.Goals as goal

-- ---- no such session

none : (g : _) (c : goal.After-lives-in_default-2-1 g) → lives_in c.args.notice.now.to.session c.args.lives.now.items ≡ None
none g c = none_there c.args.notice.now.to.session c.session.inside.0 c.args.lives.now.items (c.session.view_is ∙ c.requires.session) c.in_default.ensures.item.3

pub returns-in_default-clause-outcome : goal.returns-in_default-clause-outcome
returns-in_default-clause-outcome g c = sym (ap (λ l. outcome_of (heard_by c.args.notice.now (running_of l))) (none g c))

pub returns-in_default-clause-lives : goal.returns-in_default-clause-lives
returns-in_default-clause-lives g c = λ number.
    subst (λ l. DoesToLives g.R.Machine.stands (of_event.Deliver number) (heard_by c.args.notice.now (running_of l)) c.args.lives.now.items c.args.lives.now.items) (sym (none g c))
    (does_to_nobody g.R.Machine.stands (of_event.Deliver number) _ c.args.lives.now.items (λ n. refl))

-- ---- one that doesn't run

stopped : (g : _) (c : goal.After-lives-in_default-running-1 g) → client_in c.args.notice.now.to.session c.args.lives.now.items ≡ None
stopped g c = ap running_of (lent c.args.notice.now.to.session c.session.inside.0 c.args.lives.now.items c.in-Some.life.now (c.session.view_is ∙ c.requires.session) c.in-Some.ensures.item.3.0 c.in-Some.ensures.value) ∙ sym (ap (λ (l : LivesView _). l.running) c.life.view_is) ∙ c.in_default-running.is

pub returns-in_default-running-clause-outcome : goal.returns-in_default-running-clause-outcome
returns-in_default-running-clause-outcome g c = sym (ap (λ o. outcome_of (heard_by c.args.notice.now o)) (stopped g c))

pub returns-in_default-running-clause-lives : goal.returns-in_default-running-clause-lives
returns-in_default-running-clause-lives g c = λ number.
    let xs = c.args.lives.now.items in
    let before : LivesView _ = (record { home = c.life.inside.home; latest = c.life.inside.latest; running = c.life.inside.running; late = c.life.inside.late }) in
    subst (λ o. DoesToLives g.R.Machine.stands (of_event.Deliver number) (heard_by c.args.notice.now o) xs (slice_set xs c.session.inside.0 before)) (sym (stopped g c))
    (subst (DoesToLives g.R.Machine.stands (of_event.Deliver number) Nothing xs)
    (sym (ap (λ k. slice_set xs k before) (c.session.view_is ∙ c.requires.session) ∙ set_same xs c.args.notice.now.to.session before ((lent c.args.notice.now.to.session c.session.inside.0 c.args.lives.now.items c.in-Some.life.now (c.session.view_is ∙ c.requires.session) c.in-Some.ensures.item.3.0 c.in-Some.ensures.value) ∙ ap Some (sym c.life.view_is))))
    (does_to_nobody g.R.Machine.stands (of_event.Deliver number) Nothing xs (λ n. refl)))

-- ---- one that runs

pub hear-requires : goal.hear-requires
hear-requires g c =
    subst (IsSoundIf g.R.Machine.stands)
    (ap running_of (lent c.args.notice.now.to.session c.session.inside.0 c.args.lives.now.items c.in-Some.life.now (c.session.view_is ∙ c.requires.session) c.in-Some.ensures.item.3.0 c.in-Some.ensures.value) ∙ sym (ap (λ (l : LivesView _). l.running) c.life.view_is) ∙ c.in-Some-running.is)
    (c.requires.sound c.args.notice.now.to.session)

there : (g : _) (c : goal.After-lives-2-1 g) → lives_in c.args.notice.now.to.session c.args.lives.now.items ≡ Some c.in-Some.life.now
there g c = (lent c.args.notice.now.to.session c.session.inside.0 c.args.lives.now.items c.in-Some.life.now (c.session.view_is ∙ c.requires.session) c.in-Some.ensures.item.3.0 c.in-Some.ensures.value)

found : (g : _) (c : goal.After-lives-2-1 g) → client_in c.args.notice.now.to.session c.args.lives.now.items ≡ Some c.in-Some-running.client
found g c = ap running_of (there g c) ∙ sym (ap (λ (l : LivesView _). l.running) c.life.view_is) ∙ c.in-Some-running.is

pub returns-clause-outcome : goal.returns-clause-outcome
returns-clause-outcome g c = subst (λ o. IfOk c.hear.result (λ r. r ≡ outcome_of (heard_by c.args.notice.now o))) (sym (found g c)) c.hear.ensures.outcome

pub returns-clause-lives : goal.returns-clause-lives
returns-clause-lives g c =
    let xs = c.args.lives.now.items in
    let after : LivesView _ = (record { home = c.life.inside.home; latest = c.life.inside.latest; running = Some c.hear.new.client; late = c.life.inside.late }) in
    on_ok_weaker c.hear.result (λ goes number.
    subst (λ o. DoesToLives g.R.Machine.stands (of_event.Deliver number) (heard_by c.args.notice.now o) xs (slice_set xs c.session.inside.0 after)) (sym (ap running_of (there g c)))
    (hears_or_not g.R.Machine.stands c.args.notice.now c.session.inside.0 xs c.in-Some.life.now after (c.session.view_is ∙ c.requires.session) (there g c) c.hear.ensures.sound number c.in-Some.life.now.running (goes number)))
    (hear_lives_on g.R.Machine.stands c.hear.result c.in-Some.life.now (record { home = c.life.inside.home; latest = c.life.inside.latest; running = c.life.inside.running; late = c.life.inside.late })
    c.life.view_is c.in-Some-running.client c.hear.new.client c.in-Some-running.is c.args.notice.now c.hear.ensures.becomes)

pub returns-clause-err : goal.returns-clause-err
returns-clause-err g c =
    let with_client : ClientView _ → LivesView _ = λ x. record { home = c.life.inside.home; latest = c.life.inside.latest; running = Some x; late = c.life.inside.late } in
    set_unless c.hear.result c.args.lives.now.items c.session.inside.0 (with_client c.in-Some-running.client) (with_client c.hear.new.client)
    (ap (λ k. lives_in k c.args.lives.now.items) (c.session.view_is ∙ c.requires.session) ∙ there g c ∙ ap Some (sym c.life.view_is)
    ∙ ap (λ (o : Option (ClientView _)). Some (record { home = c.life.inside.home; latest = c.life.inside.latest; running = o; late = c.life.inside.late })) c.in-Some-running.is)
    (on_err_weaker c.hear.result (λ same. ap with_client same) c.hear.ensures.err)
