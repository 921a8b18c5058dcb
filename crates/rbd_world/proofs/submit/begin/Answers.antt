use Rattle.std.proofs.Common.{◌≡◌, false, rules}
use Rattle.std.specs.Prelude.{nat_lt}
use Rattle.rbd_world.proofs.Submitted.{begins}
use Rattle.rbd_world.proofs.submit.begin.Goals as goal

pub returns-clause-becomes : goal.returns-clause-becomes
returns-clause-becomes c =
    let room : nat_lt 64 c.args.client.now.session.lowest ≡ false = search rules in
    λ session. begins session c.args.line c.args.command.now c.in_ok-work.work c.in_ok-work.ensures c.args.is_begun c.if-is_begun.false c.args.client.now c.submit.new.self room
    c.in_ok-slot.ensures.held c.quiescing.result c.quiescing.ensures c.in_ok-slot.ensures.state c.submit.ensures.others c.submit.ensures.lines c.submit.ensures.rest
