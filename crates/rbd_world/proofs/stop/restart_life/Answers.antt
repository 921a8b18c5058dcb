use Rattle.std.proofs.Common.{rules, ◌≡◌, true, false, is_some, sym, ap, ◌∙◌, subst}
use Rattle.std.specs.Prelude.{nat_lt}
use Rattle.std.proofs.lemmas.Bool.{lt-ltb}
use Rattle.rbd_world.specs.Run.{outcome_of}
use Rattle.rbd_world.specs.Step.{LivesOn, last_life, next_life, restarted_of}
use Rattle.rbd_world.specs.World.{LivesView}
use Rattle.rbd_world.specs.declared.event.Event.TheVariants as of_event
use Rattle.rbd_world.proofs.FreshLives.{is_fresh}
use Rattle.rbd_world.proofs.Ongoing.{restart_lives_on, restarts}
use Rattle.rbd_world.proofs.stop.restart_life.Goals as goal

pub returns-clause-outcome : goal.returns-clause-outcome
returns-clause-outcome g c =
    let none : is_some c.args.life.now.running ≡ false = search rules in
    let below : nat_lt c.args.life.now.latest.life last_life ≡ true =
    subst (λ (l : LivesView _). nat_lt l.latest.life last_life ≡ true) c.life.view_is (lt-ltb c.life.inside.latest.life last_life c.next_life.ensures.below) in
    sym (ap outcome_of (restarts g.R.Machine.stands c.args.life.now.latest c.args.life.now.running none below))

pub returns-clause-life : goal.returns-clause-life
returns-clause-life g c = λ session.
    let before : LivesView _ = record { home = c.life.inside.home; latest = c.life.inside.latest; running = c.life.inside.running; late = c.life.inside.late } in
    let none : is_some c.args.life.now.running ≡ false = search rules in
    let below : nat_lt c.args.life.now.latest.life last_life ≡ true =
    subst (λ (l : LivesView _). nat_lt l.latest.life last_life ≡ true) c.life.view_is (lt-ltb c.life.inside.latest.life last_life c.next_life.ensures.below) in
    let who : c.in_ok-client.client.session.instance ≡ next_life c.args.life.now.latest = search rules in
    let home : c.in_ok-client.client.session.home ≡ c.args.life.now.home = search rules in
    subst (λ running. LivesOn g.R.Machine.stands (of_event.Restart session) (restarted_of c.args.life.now.latest c.args.life.now.running) c.args.life.now
    (record { home = c.life.inside.home; latest = c.instance-life-inside.result; running = running; late = c.life.inside.late })) (sym c.replace.ensures.after)
    (restart_lives_on g.R.Machine.stands session c.args.life.now before c.life.view_is (restarts g.R.Machine.stands c.args.life.now.latest c.args.life.now.running none below)
    c.in_ok-client.client
    (is_fresh (next_life c.args.life.now.latest) c.args.life.now.home c.in_ok-client.client g.R.Machine.stands c.in_ok-client.ensures.sound who home c.in_ok-client.ensures.slots
    c.in_ok-client.ensures.lines c.in_ok-client.ensures.locks c.in_ok-client.ensures.release c.in_ok-client.ensures.heard)
    c.instance-life-inside.result (c.instance-life-inside.ensures ∙ who))
