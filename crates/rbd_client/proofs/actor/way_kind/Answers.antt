use Rattle.std.proofs.Common.{sym, ap, ◌∙◌}
use Rattle.rbd_kinds.specs.declared.machine.Want.{Want}
use Rattle.rbd_kinds.specs.declared.machine.Want.TheVariants as want
use Rattle.rbd_kinds.specs.declared.id.SiteId.{SiteId}
use Rattle.rbd_kinds.specs.declared.operation_kind.OpKind.{OpKind}
use Rattle.rbd_kinds.specs.OperationKind.{kind_of}
use Rattle.rbd_machine.specs.Plan.{Return}
use Rattle.rbd_kinds.specs.declared.reply.Reply.TheVariants as reply
use Rattle.rbd_lock.specs.Acquire.{op_of}
use Rattle.rbd_lock.proofs.Standing.{way_wants}
use Rattle.rbd_client.proofs.actor.way_kind.Goals as goal

abbrev of_want : SiteId × OpKind → Want → SiteId × OpKind
of_want other (want.Op site kind) = (site, kind)
of_want other w = other

pub unreachable-requires : goal.unreachable-requires
unreachable-requires c = c.in_default.not-Op c.args.way.now.site (kind_of (op_of c.args.way.now)) (way_wants c.args.way.now.site c.args.way.now.image (Return reply.Done) c.args.way.now.stage c.wants.result (c.wants.ensures (Return reply.Done)))

pub returns : goal.returns
returns c =
    ap (of_want (c.in-Op.site, c.in-Op.kind)) (sym c.in-Op.is ∙ way_wants c.args.way.now.site c.args.way.now.image (Return reply.Done) c.args.way.now.stage c.wants.result (c.wants.ensures (Return reply.Done)))
