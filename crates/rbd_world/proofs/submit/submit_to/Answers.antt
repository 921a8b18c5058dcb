use Rattle.std.proofs.Common.{◌≡◌, IfOk, OnOk, slice_set, Option, Some, None, refl, sym, ap, ◌∙◌, subst}
use Rattle.std.proofs.lemmas.Result.{on_ok_weaker, on_err_weaker}
use Rattle.rbd_client.specs.Client.{ClientView}
use Rattle.rbd_catalog.specs.Session.{stands_of}
use Rattle.rbd_world.specs.Noted.{history_with}
use Rattle.rbd_world.specs.Run.{outcome_of}
use Rattle.rbd_world.specs.Step.{DoesToLives, submitted}
use Rattle.rbd_world.specs.World.{LivesView, client_in, lives_in, running_of}
use Rattle.rbd_world.specs.declared.event.Event.TheVariants as of_event
use Rattle.rbd_world.proofs.OneLife.{does_to_none, does_to_one, leaves_stopped, lent, none_there, set_unless}
use Rattle.rbd_world.proofs.Ongoing.{submit_lives_on}
use Rattle.rbd_world.proofs.submit.submit_to.Goals as goal

-- ---- no such session

none : (c : goal.After-lives-in_default-2-1) → lives_in c.args.at.now.session c.args.lives.now.items ≡ None
none c = none_there c.args.at.now.session c.session.inside.0 c.args.lives.now.items c.session.view_is c.in_default.ensures.item.3

pub returns-in_default-clause-lives : goal.returns-in_default-clause-lives
returns-in_default-clause-lives c =
    does_to_none stands_of (of_event.Submit c.args.at.now.session c.args.at.now.line c.args.command.now)
    (submitted c.args.is_begun c.args.at.now.line c.args.command.now (client_in c.args.at.now.session c.args.lives.now.items)) c.args.at.now.session c.args.lives.now.items (λ n. refl)
    (none c)

-- ---- one that doesn't run

stopped : (c : goal.After-lives-in_default-running-1) → client_in c.args.at.now.session c.args.lives.now.items ≡ None
stopped c = ap running_of (lent c.args.at.now.session c.session.inside.0 c.args.lives.now.items c.in-Some.life.now c.session.view_is c.in-Some.ensures.item.3.0 c.in-Some.ensures.value) ∙ sym (ap (λ (l : LivesView _). l.running) c.life.view_is) ∙ c.in_default-running.is

pub returns-in_default-running-clause-outcome : goal.returns-in_default-running-clause-outcome
returns-in_default-running-clause-outcome c = sym (ap (λ o. outcome_of (submitted c.args.is_begun c.args.at.now.line c.args.command.now o)) (stopped c))

pub returns-in_default-running-clause-history : goal.returns-in_default-running-clause-history
returns-in_default-running-clause-history c = sym (ap (λ o. history_with c.args.history.now.items (submitted c.args.is_begun c.args.at.now.line c.args.command.now o)) (stopped c))

pub returns-in_default-running-clause-lives : goal.returns-in_default-running-clause-lives
returns-in_default-running-clause-lives c =
    let xs = c.args.lives.now.items in
    let before : LivesView _ = (record { home = c.life.inside.home; latest = c.life.inside.latest; running = c.life.inside.running; late = c.life.inside.late }) in
    subst (λ o. DoesToLives stands_of (of_event.Submit c.args.at.now.session c.args.at.now.line c.args.command.now) (submitted c.args.is_begun c.args.at.now.line c.args.command.now o) xs (slice_set xs c.session.inside.0 before)) (sym (stopped c))
    (leaves_stopped stands_of (of_event.Submit c.args.at.now.session c.args.at.now.line c.args.command.now) c.args.at.now.session c.session.inside.0 xs before (λ n. refl) c.session.view_is
    ((lent c.args.at.now.session c.session.inside.0 c.args.lives.now.items c.in-Some.life.now c.session.view_is c.in-Some.ensures.item.3.0 c.in-Some.ensures.value) ∙ ap Some (sym c.life.view_is)) c.in_default-running.is refl)

-- ---- one that runs

there : (c : goal.After-lives-2-1) → lives_in c.args.at.now.session c.args.lives.now.items ≡ Some c.in-Some.life.now
there c = (lent c.args.at.now.session c.session.inside.0 c.args.lives.now.items c.in-Some.life.now c.session.view_is c.in-Some.ensures.item.3.0 c.in-Some.ensures.value)

found : (c : goal.After-lives-2-1) → client_in c.args.at.now.session c.args.lives.now.items ≡ Some c.in-Some-running.client
found c = ap running_of (there c) ∙ sym (ap (λ (l : LivesView _). l.running) c.life.view_is) ∙ c.in-Some-running.is

pub returns-clause-outcome : goal.returns-clause-outcome
returns-clause-outcome c = subst (λ o. IfOk c.begin.result (λ r. r ≡ outcome_of (submitted c.args.is_begun c.args.at.now.line c.args.command.now o))) (sym (found c)) c.begin.ensures.outcome

pub returns-clause-history : goal.returns-clause-history
returns-clause-history c = subst (λ o. OnOk c.begin.result (c.begin.new.history.items ≡ history_with c.args.history.now.items (submitted c.args.is_begun c.args.at.now.line c.args.command.now o))) (sym (found c)) c.begin.ensures.history

pub returns-clause-lives : goal.returns-clause-lives
returns-clause-lives c =
    let xs = c.args.lives.now.items in
    let after : LivesView _ = (record { home = c.life.inside.home; latest = c.life.inside.latest; running = Some c.begin.new.client; late = c.life.inside.late }) in
    subst (λ o. OnOk c.begin.result (DoesToLives stands_of (of_event.Submit c.args.at.now.session c.args.at.now.line c.args.command.now) (submitted c.args.is_begun c.args.at.now.line c.args.command.now o) xs (slice_set xs c.session.inside.0 after))) (sym (ap running_of (there c)))
    (on_ok_weaker c.begin.result (λ goes.
    does_to_one stands_of (of_event.Submit c.args.at.now.session c.args.at.now.line c.args.command.now) (submitted c.args.is_begun c.args.at.now.line c.args.command.now c.in-Some.life.now.running) c.args.at.now.session c.session.inside.0 xs
    c.in-Some.life.now after (λ n. refl) c.session.view_is (there c) (goes c.args.at.now.session) c.begin.ensures.sound)
    (submit_lives_on stands_of c.begin.result c.in-Some.life.now (record { home = c.life.inside.home; latest = c.life.inside.latest; running = c.life.inside.running; late = c.life.inside.late })
    c.life.view_is c.in-Some-running.client c.begin.new.client c.in-Some-running.is c.args.is_begun c.args.at.now.line c.args.command.now c.begin.ensures.becomes))

pub returns-clause-err : goal.returns-clause-err
returns-clause-err c =
    let with_client : ClientView _ → LivesView _ = λ x. record { home = c.life.inside.home; latest = c.life.inside.latest; running = Some x; late = c.life.inside.late } in
    set_unless c.begin.result c.args.lives.now.items c.session.inside.0 (with_client c.in-Some-running.client) (with_client c.begin.new.client)
    (ap (λ k. lives_in k c.args.lives.now.items) c.session.view_is ∙ there c ∙ ap Some (sym c.life.view_is)
    ∙ ap (λ (o : Option (ClientView _)). Some (record { home = c.life.inside.home; latest = c.life.inside.latest; running = o; late = c.life.inside.late })) c.in-Some-running.is)
    (on_err_weaker c.begin.result (λ same. ap with_client same) c.begin.ensures.err)
