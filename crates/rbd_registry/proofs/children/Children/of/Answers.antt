use Rattle.std.proofs.Common.{◌++◌, sym, ◌∙◌, subst, rules}
use Rattle.std.specs.List.{filter}
use Rattle.rbd_registry.specs.Children.{AreChildren}
use Rattle.rbd_registry.proofs.Entries.{front, from_first, range_children}
use Rattle.rbd_registry.proofs.Ascending.{children_are}
use Rattle.rbd_registry.proofs.children.Children.of.Goals as goal

pub loop-entry-init : goal.loop-entry-init
loop-entry-init c =
    let parent = c.args.parent in
    let snap = c.args.snap in
    let keys = c.self.inside.entries.keys in
    let yielded = c.into_iter-entry-iterator.ensures.into_iter_gives ∙ c.range-entry-items.ensures.between tt in
    subst (λ ids. AreChildren c.args.self.now parent snap (ids ++ front parent snap c.into_iter-entry-iterator.result)) (sym c.new-ids.ensures)
    (subst (λ xs. AreChildren c.args.self.now parent snap (front parent snap xs)) (sym yielded)
    (subst (λ set. AreChildren set parent snap (front parent snap (filter (from_first parent snap) keys))) c.self.view_is
    (range_children parent snap keys c.range-entry-items.ensures.ordered)))

pub returns-clause-list : goal.returns-clause-list
returns-clause-list c = children_are c.args.self.now c.args.parent c.args.snap c.loop-entry.ids (search rules)
