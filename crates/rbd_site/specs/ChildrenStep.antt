-- Operations on the list of children: the answer, and the list after it.
use Rattle.std.specs.Prelude.{ℕ, if◌then◌else◌}
use Rattle.std.specs.FinSet as finset
use Rattle.rbd_kinds.specs.declared.answer.Answer.{Answer}
use Rattle.rbd_kinds.specs.declared.answer.Answer.TheVariants as answer
use Rattle.rbd_kinds.specs.declared.children_op.ChildrenOp.{ChildrenOp}
use Rattle.rbd_kinds.specs.declared.children_op.ChildrenOp.TheVariants.{Add, Remove, List as ListOf}
use Rattle.rbd_registry.specs.Children.{ChildEntry, entry_cmp, children_in}
use Rattle.rbd_site.specs.Found.{done_where}

-- the entries, each of a child with its parent's snapshot
abbrev pub Entries : Type 0
Entries = finset.FinSet entry_cmp

abbrev pub entry : (parent snap child : ℕ) → ChildEntry
entry parent snap child = record { parent = parent; snap = snap; child = child }

abbrev pub children_answer : Entries → ChildrenOp → Answer
children_answer entries (Add parent snap child) = answer.Done
children_answer entries (Remove parent snap child) = done_where (finset.contains entries (entry parent snap child))
children_answer entries (ListOf parent snap) = answer.Ids (children_in entries parent snap)

abbrev pub children_after : Entries → ChildrenOp → Entries
children_after entries (Add parent snap child) = finset.insert entries (entry parent snap child)
children_after entries (Remove parent snap child) =
    if finset.contains entries (entry parent snap child) then finset.remove entries (entry parent snap child)
    else entries
children_after entries (ListOf parent snap) = entries
