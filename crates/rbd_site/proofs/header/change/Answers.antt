use Rattle.std.proofs.Common.{None, sym, ap, ◌∙◌}
use Rattle.rbd_site.specs.HeaderStep.{header_after}
use Rattle.rbd_site.specs.Maps.{header_in}
use Rattle.rbd_site.proofs.OneChange.{header_put}
use Rattle.rbd_site.proofs.HeaderLemmas.{after_remove}
use Rattle.rbd_site.proofs.header.change.Goals as goal

pub returns-in-Remove-clause-ok : goal.returns-in-Remove-clause-ok
returns-in-Remove-clause-ok c = λ i.
    header_put c.args.headers.now c.remove.new.self c.args.image None
    (header_after c.args.instance (header_in c.args.headers.now c.args.image) c.args.op.now)
    c.remove.ensures.updates.0
    (sym (ap (header_after c.args.instance (header_in c.args.headers.now c.args.image)) c.in-Remove.is ∙ after_remove c.args.instance (header_in c.args.headers.now c.args.image)))
    i
