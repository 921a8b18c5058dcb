use Rattle.std.proofs.Common.{◌≡◌, ◌≤◌, ◌∷◌, [], All, arith, sym, subst, ◌∙◌}
use Rattle.rbd_layout.proofs.Bounds.{few_bytes}
use Rattle.rbd_snap.specs.Restore.{HasWholeObject}
use Rattle.rbd_snap.proofs.Restored.{begins_with, empty_where, objects_of_head}
use Rattle.rbd_snap.proofs.restore.Restore.new.Goals as goal

pub pieces-requires-clause-end : goal.pieces-requires-clause-end
pieces-requires-clause-end c =
    let h = c.args.header in
    let few : h.size ≤ 35184372088832 = few_bytes h.layout c.requires.layout h.size c.requires.objects in
    omega arith

pub returns-in_default : goal.returns-in_default
returns-in_default c = λ next.
    let a = c.args in
    let listed = c.in_ok-pieces.field-0.items in
    let none : c.from_vec-others.result.items ≡ [] = empty_where c.from_vec-others.result.items c.pop_front.new.self.items c.in_default.ensures.items c.in_default.ensures.rest in
    begins_with a.site a.image a.header a.snap c.requires.layout listed c.in_ok-pieces.ensures.pieces [] next (sym c.from_vec-others.ensures.items ∙ none)

pub invariant_of-result : goal.invariant_of-result
invariant_of-result c =
    let h = c.args.header in
    let listed = c.in_ok-pieces.field-0.items in
    (c.requires, c.in_ok-context.ensures, subst (All (HasWholeObject h)) (sym c.from_vec-others.ensures.items ∙ c.in-Some.ensures.items) (objects_of_head h listed c.requires.layout c.in_ok-pieces.ensures.pieces))

pub returns : goal.returns
returns c = λ next.
    let a = c.args in
    let listed = c.in_ok-pieces.field-0.items in
    begins_with a.site a.image a.header a.snap c.requires.layout listed c.in_ok-pieces.ensures.pieces (c.in-Some.piece ∷ c.pop_front.new.self.items) next
    (sym c.from_vec-others.ensures.items ∙ c.in-Some.ensures.items)
