use Rattle.std.proofs.Common.{None, sym, ap}
use Rattle.rbd_site.specs.Maps.{map_in}
use Rattle.rbd_site.specs.MapStep.{map_after}
use Rattle.rbd_site.proofs.MapLemmas.{map_put}
use Rattle.rbd_site.proofs.map.change.Goals as goal

pub returns-in-Remove-clause-ok : goal.returns-in-Remove-clause-ok
returns-in-Remove-clause-ok c = λ image view.
    let there = map_in c.args.maps.now c.args.key.image c.args.key.snap in
    map_put c.args.maps.now c.remove.new.self c.args.key None (map_after there c.args.op.now) c.remove.ensures.updates.0
    (sym (ap (map_after there) c.in-Remove.is)) image view
