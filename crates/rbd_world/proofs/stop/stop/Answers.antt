use Rattle.std.proofs.Common.{◌≡◌, IfOk, OnOk, slice_set, Some, None, refl, sym, ap, ◌∙◌, subst}
use Rattle.rbd_world.specs.Noted.{history_with}
use Rattle.rbd_world.specs.Run.{outcome_of}
use Rattle.rbd_world.specs.Step.{DoesToLives, stopped}
use Rattle.rbd_world.specs.World.{client_in, lives_in, running_of}
use Rattle.rbd_world.specs.declared.event.Event.TheVariants as of_event
use Rattle.rbd_world.proofs.OneLife.{does_to_none, does_to_one, lent, none_there, on_both, set_unless}
use Rattle.rbd_world.proofs.stop.stop.Goals as goal

there : (g : _) (c : goal.After-lives-in-Some-1 g) → lives_in c.args.session c.args.lives.now.items ≡ Some c.in-Some.life.now
there g c =
    lent c.args.session c.session.inside.0 c.args.lives.now.items c.in-Some.life.now c.session.view_is c.in-Some.ensures.item.3.0 c.in-Some.ensures.value

found : (g : _) (c : goal.After-lives-in-Some-1 g) → client_in c.args.session c.args.lives.now.items ≡ c.in-Some.life.now.running
found g c = ap running_of (there g c)

pub returns-in-Some-clause-outcome : goal.returns-in-Some-clause-outcome
returns-in-Some-clause-outcome g c = subst (λ o. IfOk c.stop_life.result (λ r. r ≡ outcome_of (stopped g.R.Machine.stands o))) (sym (found g c)) c.stop_life.ensures.outcome

pub returns-in-Some-clause-history : goal.returns-in-Some-clause-history
returns-in-Some-clause-history g c =
    subst (λ o. OnOk c.stop_life.result (c.stop_life.new.history.items ≡ history_with c.args.history.now.items (stopped g.R.Machine.stands o))) (sym (found g c)) c.stop_life.ensures.history

pub returns-in-Some-clause-lives : goal.returns-in-Some-clause-lives
returns-in-Some-clause-lives g c =
    let e = of_event.Stop c.args.session in
    let xs = c.args.lives.now.items in
    let behind = slice_set xs c.session.inside.0 c.stop_life.new.life in
    subst (λ o. OnOk c.stop_life.result (DoesToLives g.R.Machine.stands e (stopped g.R.Machine.stands o) xs behind)) (sym (found g c))
    (on_both c.stop_life.result _ _ _ (λ goes sound.
    does_to_one g.R.Machine.stands e (stopped g.R.Machine.stands c.in-Some.life.now.running) c.args.session c.session.inside.0 xs
    c.in-Some.life.now c.stop_life.new.life (λ n. refl) c.session.view_is (there g c) (goes c.args.session) sound)
    c.stop_life.ensures.life c.stop_life.ensures.sound)

pub returns-in-Some-clause-err : goal.returns-in-Some-clause-err
returns-in-Some-clause-err g c =
    set_unless c.stop_life.result c.args.lives.now.items c.session.inside.0 c.in-Some.life.now c.stop_life.new.life
    (ap (λ k. lives_in k c.args.lives.now.items) c.session.view_is ∙ there g c) c.stop_life.ensures.err

none : (g : _) (c : goal.After-lives-in-None-2-1 g) → lives_in c.args.session c.args.lives.now.items ≡ None
none g c = none_there c.args.session c.session.inside.0 c.args.lives.now.items c.session.view_is c.in-None.ensures.item.3

pub returns-in-None-clause-outcome : goal.returns-in-None-clause-outcome
returns-in-None-clause-outcome g c = sym (ap (λ l. outcome_of (stopped g.R.Machine.stands (running_of l))) (none g c))

pub returns-in-None-clause-history : goal.returns-in-None-clause-history
returns-in-None-clause-history g c = sym (ap (λ l. history_with c.args.history.now.items (stopped g.R.Machine.stands (running_of l))) (none g c))

pub returns-in-None-clause-lives : goal.returns-in-None-clause-lives
returns-in-None-clause-lives g c =
    does_to_none g.R.Machine.stands (of_event.Stop c.args.session) (stopped g.R.Machine.stands (client_in c.args.session c.args.lives.now.items)) c.args.session c.args.lives.now.items (λ n. refl) (none g c)
