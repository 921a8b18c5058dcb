use Rattle.std.proofs.Common.{◌≡◌, IfOk, OnOk, slice_set, Some, None, refl, sym, ap, ◌∙◌, subst}
use Rattle.rbd_world.specs.Run.{outcome_of}
use Rattle.rbd_world.specs.Step.{DoesToLives, IsSoundIf, restarted}
use Rattle.rbd_world.specs.World.{lives_in, running_of}
use Rattle.rbd_world.specs.declared.event.Event.TheVariants as of_event
use Rattle.rbd_world.proofs.OneLife.{does_to_none, does_to_one, lent, none_there, on_both, set_unless}
use Rattle.rbd_world.proofs.stop.restart.Goals as goal

pub restart_life-requires : goal.restart_life-requires
restart_life-requires g c =
    subst (λ l. IsSoundIf g.R.Machine.stands (running_of l))
    (lent c.args.session c.session.inside.0 c.args.lives.now.items c.in-Some.life.now c.session.view_is c.in-Some.ensures.item.3.0 c.in-Some.ensures.value) c.requires

there : (g : _) (c : goal.After-lives-in-Some-1 g) → lives_in c.args.session c.args.lives.now.items ≡ Some c.in-Some.life.now
there g c =
    lent c.args.session c.session.inside.0 c.args.lives.now.items c.in-Some.life.now c.session.view_is c.in-Some.ensures.item.3.0 c.in-Some.ensures.value

found : (g : _) (c : goal.After-lives-in-Some-1 g) → lives_in c.args.session c.args.lives.now.items ≡ Some c.in-Some.life.now
found g c = there g c

pub returns-in-Some-clause-outcome : goal.returns-in-Some-clause-outcome
returns-in-Some-clause-outcome g c = subst (λ o. IfOk c.restart_life.result (λ r. r ≡ outcome_of (restarted o))) (sym (found g c)) c.restart_life.ensures.outcome

pub returns-in-Some-clause-lives : goal.returns-in-Some-clause-lives
returns-in-Some-clause-lives g c =
    let e = of_event.Restart c.args.session in
    let xs = c.args.lives.now.items in
    let behind = slice_set xs c.session.inside.0 c.restart_life.new.life in
    subst (λ o. OnOk c.restart_life.result (DoesToLives g.R.Machine.stands e (restarted o) xs behind)) (sym (found g c))
    (on_both c.restart_life.result _ _ _ (λ goes sound.
    does_to_one g.R.Machine.stands e (restarted (Some c.in-Some.life.now)) c.args.session c.session.inside.0 xs
    c.in-Some.life.now c.restart_life.new.life (λ n. refl) c.session.view_is (there g c) (goes c.args.session) sound)
    c.restart_life.ensures.life c.restart_life.ensures.sound)

pub returns-in-Some-clause-err : goal.returns-in-Some-clause-err
returns-in-Some-clause-err g c =
    set_unless c.restart_life.result c.args.lives.now.items c.session.inside.0 c.in-Some.life.now c.restart_life.new.life
    (ap (λ k. lives_in k c.args.lives.now.items) c.session.view_is ∙ there g c) c.restart_life.ensures.err

none : (g : _) (c : goal.After-lives-in-None-2-1 g) → lives_in c.args.session c.args.lives.now.items ≡ None
none g c = none_there c.args.session c.session.inside.0 c.args.lives.now.items c.session.view_is c.in-None.ensures.item.3

pub returns-in-None-clause-outcome : goal.returns-in-None-clause-outcome
returns-in-None-clause-outcome g c = sym (ap (λ l. outcome_of (restarted l)) (none g c))

pub returns-in-None-clause-lives : goal.returns-in-None-clause-lives
returns-in-None-clause-lives g c =
    does_to_none g.R.Machine.stands (of_event.Restart c.args.session) (restarted (lives_in c.args.session c.args.lives.now.items)) c.args.session c.args.lives.now.items (λ n. refl) (none g c)
