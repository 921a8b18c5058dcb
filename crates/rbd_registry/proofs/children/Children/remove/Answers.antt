use Rattle.std.proofs.Common.{ap, ◌∙◌, sym}
use Rattle.std.specs.FinSet as finset
use Rattle.rbd_registry.specs.Children.{ChildEntry, entry_cmp}
use Rattle.rbd_values.proofs.Ordered.{one_dropped}
use Rattle.rbd_registry.proofs.Entries.{entry_total, entry_exact}
use Rattle.rbd_registry.proofs.children.Children.remove.Goals as goal

pub returns-clause-found : goal.returns-clause-found
returns-clause-found c =
    let entry : ChildEntry = record { parent = c.args.parent; snap = c.args.snap; child = c.args.child } in
    c.remove.ensures.test ∙ sym (finset.contains-from_list entry_total c.self.inside.entries.keys entry)
    ∙ ap (λ (s : finset.FinSet entry_cmp). finset.contains s entry) c.self.view_is

pub returns-clause-removed : goal.returns-clause-removed
returns-clause-removed c =
    let entry : ChildEntry = record { parent = c.args.parent; snap = c.args.snap; child = c.args.child } in
    one_dropped entry_total entry_exact c.self.inside.entries.keys c.remove.new.self.keys entry c.remove.ensures.updates.0
    ∙ ap (λ (s : finset.FinSet entry_cmp). finset.remove s entry) c.self.view_is
