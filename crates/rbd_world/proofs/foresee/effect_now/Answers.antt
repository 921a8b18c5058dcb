use Rattle.std.proofs.Common.{sym}
use Rattle.rbd_site.specs.Log.{records_of}
use Rattle.rbd_stands.specs.Effect.{header_of}
use Rattle.rbd_world.proofs.foresee.effect_now.Goals as goal

pub returns-then-not-may_have_effect : goal.returns-then-not-may_have_effect
returns-then-not-may_have_effect c =
    sym (c.may_have_effect.ensures c.if-not-may_have_effect.true (header_of (records_of c.args.at.now) c.args.op.now) c.args.answer.now)
