use Rattle.std.proofs.Common.{[], Some, ap, ◌∙◌}
use Rattle.rbd_site.specs.MapStep.{lengthened}
use Rattle.rbd_site.proofs.MapLemmas.{map_put}
use Rattle.rbd_site.proofs.map.make.Goals as goal

pub returns-clause-ok : goal.returns-clause-ok
returns-clause-ok c = λ image view.
    map_put c.args.maps.now c.insert.new.self c.args.key (Some c.resize.new.self) (Some (lengthened c.args.count []))
    c.in_ok-insert.ensures.updates.0
    (ap Some (c.in_ok-resize.ensures.ok ∙ ap (lengthened c.args.count) c.new-map.ensures))
    image view
