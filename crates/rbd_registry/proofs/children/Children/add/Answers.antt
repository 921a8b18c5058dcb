use Rattle.std.proofs.Common.{ap, ◌∙◌}
use Rattle.std.specs.FinSet as finset
use Rattle.rbd_registry.specs.Children.{ChildEntry, entry_cmp}
use Rattle.rbd_values.proofs.Ordered.{one_added}
use Rattle.rbd_registry.proofs.Entries.{entry_total, entry_exact}
use Rattle.rbd_registry.proofs.children.Children.add.Goals as goal

pub returns-clause-ok : goal.returns-clause-ok
returns-clause-ok c =
    let entry : ChildEntry = record { parent = c.args.parent; snap = c.args.snap; child = c.args.child } in
    one_added entry_total entry_exact c.self.inside.entries.keys c.insert.new.self.keys entry c.in_ok-insert.ensures.updates.0
    ∙ ap (λ (s : finset.FinSet entry_cmp). finset.insert s entry) c.self.view_is
