use Rattle.std.proofs.Common.{[], List, ℕ, Option, Some, unwrap_or, ap, ◌∙◌, rules}
use Rattle.std.proofs.lemmas.Result.{on_ok_weaker, on_err_weaker}
use Rattle.rbd_site.specs.Maps.{map_in}
use Rattle.rbd_site.specs.MapStep.{lengthened}
use Rattle.rbd_site.proofs.MapLemmas.{map_put, map_same}
use Rattle.rbd_site.proofs.map.resize.Goals as goal

pub returns-clause-ok : goal.returns-clause-ok
returns-clause-ok c =
    on_ok_weaker c.resize.result
    (λ is. map_put c.args.maps.now (c.get_mut.follows.lender c.resize.new.self) c.args.key (Some c.resize.new.self)
    (Some (lengthened c.args.count (unwrap_or (map_in c.args.maps.now c.args.key.image c.args.key.snap) [])))
    (((c.get_mut.follows.holds c.resize.new.self).3 (search rules)).0)
    (ap Some is ∙ ap (λ (o : Option (List ℕ)). Some (lengthened c.args.count (unwrap_or o []))) c.in-Some.ensures.value))
    c.resize.ensures.ok

pub returns-clause-err : goal.returns-clause-err
returns-clause-err c =
    on_err_weaker c.resize.result
    (λ is. map_same c.args.maps.now (c.get_mut.follows.lender c.resize.new.self) c.args.key (Some c.resize.new.self)
    (((c.get_mut.follows.holds c.resize.new.self).3 (search rules)).0)
    (ap Some is ∙ c.in-Some.ensures.value))
    c.resize.ensures.err
