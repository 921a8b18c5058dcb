use Rattle.std.proofs.Common.{◌<◌, IfOk, IfSome, length, slice_get, sym, ap, ◌∙◌, subst}
use Rattle.std.proofs.lemmas.Result.{on_ok_weaker}
use Rattle.rbd_client.specs.Seen.{as_is}
use Rattle.rbd_world.specs.Seen.{seen}
use Rattle.rbd_schedule.specs.Playing.{StartsIf, at_place, given_to}
use Rattle.rbd_schedule.specs.Starts.{to_start}
use Rattle.rbd_schedule.proofs.Goes.{goes_then}
use Rattle.rbd_schedule.proofs.runner.Runner.start_of.Goals as goal

pub start_at-requires-clause-keeps : goal.start_at-requires-clause-keeps
start_at-requires-clause-keeps c = c.place_of.ensures.goes.keeps c.requires

pub start_at-requires-clause-within : goal.start_at-requires-clause-within
start_at-requires-clause-within c =
    subst (λ given. c.in-Some.place < length (given c.args.session)) (sym c.place_of.ensures.goes.given)
    (subst (λ r. IfSome r (λ place. place < length (given_to c.args.self.now c.args.session))) c.in-Some.is c.place_of.ensures.within)

pub start_at-requires-clause-may : goal.start_at-requires-clause-may
start_at-requires-clause-may c =
    ap (λ given. to_start (given c.args.session) (seen c.place_of.new.self.world) c.args.session) c.place_of.ensures.goes.given
    ∙ ap (λ w. to_start (given_to c.args.self.now c.args.session) w c.args.session) c.place_of.ensures.world
    ∙ sym c.place_of.ensures.place ∙ ap (at_place (given_to c.args.self.now c.args.session)) c.in-Some.is
    ∙ ap (λ given. slice_get (given c.args.session) c.in-Some.place) (sym c.place_of.ensures.goes.given)

pub returns-in-Some-clause-starts : goal.returns-in-Some-clause-starts
returns-in-Some-clause-starts c =
    subst (λ w. IfOk c.start_at.result (λ started. StartsIf as_is (given_to c.args.self.now) c.args.session started w (seen c.start_at.new.self.world))) c.place_of.ensures.world
    (subst (λ given. IfOk c.start_at.result (λ started. StartsIf as_is given c.args.session started (seen c.place_of.new.self.world) (seen c.start_at.new.self.world))) c.place_of.ensures.goes.given c.start_at.ensures.starts)

pub returns-in-Some-clause-goes : goal.returns-in-Some-clause-goes
returns-in-Some-clause-goes c = on_ok_weaker c.start_at.result (λ goes. goes_then c.args.self.now c.place_of.new.self c.start_at.new.self c.place_of.ensures.goes goes) c.start_at.ensures.goes
