use Rattle.std.proofs.Common.{ap, ◌∙◌, sym}
use Rattle.std.specs.FinSet as finset
use Rattle.rbd_registry.specs.Children.{ChildEntry, entry_cmp}
use Rattle.rbd_registry.proofs.Entries.{entry_total}
use Rattle.rbd_registry.proofs.children.Children.contains.Goals as goal

pub returns : goal.returns
returns c =
    let entry : ChildEntry = record { parent = c.args.parent; snap = c.args.snap; child = c.args.child } in
    c.contains.ensures ∙ sym (finset.contains-from_list entry_total c.self.inside.entries.keys entry)
    ∙ ap (λ (s : finset.FinSet entry_cmp). finset.contains s entry) c.self.view_is
