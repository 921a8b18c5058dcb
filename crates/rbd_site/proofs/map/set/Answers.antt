use Rattle.std.proofs.Common.{List, ℕ, Some, option_map, set, ap, ◌∙◌, rules}
use Rattle.rbd_site.specs.Maps.{map_in}
use Rattle.rbd_site.proofs.MapLemmas.{map_put}
use Rattle.rbd_site.proofs.map.set.Goals as goal

pub returns : goal.returns
returns c = λ image view.
    map_put c.args.maps.now (c.get_mut.follows.lender c.set.new.self) c.args.key (Some c.set.new.self)
    (option_map (λ (states : List ℕ). set states c.args.object c.args.state) (map_in c.args.maps.now c.args.key.image c.args.key.snap))
    (((c.get_mut.follows.holds c.set.new.self).3 (search rules)).0)
    (ap Some c.set.ensures ∙ ap (option_map (λ (states : List ℕ). set states c.args.object c.args.state)) c.in-Some.ensures.value)
    image view
