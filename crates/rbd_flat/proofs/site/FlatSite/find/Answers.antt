use Rattle.std.proofs.Common.{sym, ap, ◌∙◌}
use Rattle.std.specs.Cmp.Lexicographic.{nat_list_cmp_total}
use Rattle.rbd_flat.specs.Flat.{Flat, id_of}
use Rattle.rbd_values.proofs.Ordered.{get_entries}
use Rattle.rbd_flat.proofs.site.FlatSite.find.Goals as goal

pub returns : goal.returns
returns c =
    c.copied.ensures ∙ c.get.ensures.value ∙ sym (get_entries nat_list_cmp_total c.self.inside.names.entries c.args.name.now)
    ∙ ap (λ (f : Flat). id_of f c.args.name.now) c.self.view_is
