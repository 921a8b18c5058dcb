use Rattle.std.proofs.Common.{sym, ap, ◌∙◌}
use Rattle.rbd_registry.specs.Directory.{Listing, id_of}
use Rattle.rbd_registry.proofs.Listings.{id_listed}
use Rattle.rbd_registry.proofs.directory.Directory.find.Goals as goal

pub returns-clause-value : goal.returns-clause-value
returns-clause-value c =
    c.copied.ensures ∙ c.get.ensures.value ∙ sym (id_listed c.self.inside.names.entries c.self.inside.drawn c.args.name.now)
    ∙ ap (λ (d : Listing). id_of d c.args.name.now) c.self.view_is
