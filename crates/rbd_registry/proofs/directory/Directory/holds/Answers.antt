use Rattle.std.proofs.Common.{ap, ◌∙◌}
use Rattle.rbd_registry.specs.Directory.{holds_id}
use Rattle.rbd_registry.proofs.Listings.{held_valued}
use Rattle.rbd_registry.proofs.directory.Directory.holds.Goals as goal

pub returns : goal.returns
returns c =
    c.is_value.ensures.value
    ∙ held_valued c.args.image c.self.inside.names.entries c.self.inside.drawn c.is_value.ensures.ordered
    ∙ ap (holds_id c.args.image) c.self.view_is
