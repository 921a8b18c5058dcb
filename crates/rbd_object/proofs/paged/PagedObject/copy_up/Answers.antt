use Rattle.std.proofs.Common.{◌≡◌, false, None, ◌∙◌, ap, sym, subst, rules}
use Rattle.rbd_object.specs.Paged.{Paged}
use Rattle.rbd_object.specs.Shared.{KeepsHead, bytes_of}
use Rattle.rbd_object.proofs.PagedLemmas.{filled_paged, places_filled, refused_paged}
use Rattle.std.proofs.Common.{refl}
use Rattle.rbd_object.proofs.paged.PagedObject.copy_up.Goals as goal
use Rattle.rbd_kinds.proofs.Results.{on_err_always}

pub invariant_of-self : goal.invariant_of-self
invariant_of-self c =
    let none : c.self.inside.head ≡ None = search rules in
    (refused_paged c.self.inside.sheaves c.fill.new.sheaves c.self.inside.head c.fill.new.head c.self.inside.seq c.self.inside.versions.items c.self.inside.versions.items
    (subst (λ h. KeepsHead false c.self.inside.sheaves h c.fill.new.sheaves c.fill.new.head None) (sym none) c.fill.ensures.ok)
    (ap (bytes_of c.fill.new.sheaves) c.in_err-fill.ensures.err ∙ sym (ap (bytes_of c.self.inside.sheaves) none)) refl c.self.invariant).0

pub returns-in_err-fill-clause-err : goal.returns-in_err-fill-clause-err
returns-in_err-fill-clause-err c =
    let none : c.self.inside.head ≡ None = search rules in
    on_err_always _
    ((refused_paged c.self.inside.sheaves c.fill.new.sheaves c.self.inside.head c.fill.new.head c.self.inside.seq c.self.inside.versions.items c.self.inside.versions.items
    (subst (λ h. KeepsHead false c.self.inside.sheaves h c.fill.new.sheaves c.fill.new.head None) (sym none) c.fill.ensures.ok)
    (ap (bytes_of c.fill.new.sheaves) c.in_err-fill.ensures.err ∙ sym (ap (bytes_of c.self.inside.sheaves) none)) refl c.self.invariant).1
    ∙ ap (λ (x : Paged). x.shown) c.self.view_is)

pub invariant_of-self-2 : goal.invariant_of-self-2
invariant_of-self-2 c =
    let none : c.self.inside.head ≡ None = search rules in
    (filled_paged c.self.inside.sheaves c.fill.new.sheaves c.self.inside.head c.fill.new.head c.self.inside.seq c.self.inside.versions.items c.args.bytes.now c.args.self.now.shown c.in_ok-fill.ensures.ok none c.in_ok-fill.ensures.bytes
    (ap (λ (x : Paged). x.shown) c.self.view_is) c.self.invariant).0

pub returns-clause-ok : goal.returns-clause-ok
returns-clause-ok c =
    let none : c.self.inside.head ≡ None = search rules in
    (filled_paged c.self.inside.sheaves c.fill.new.sheaves c.self.inside.head c.fill.new.head c.self.inside.seq c.self.inside.versions.items c.args.bytes.now c.args.self.now.shown c.in_ok-fill.ensures.ok none c.in_ok-fill.ensures.bytes
    (ap (λ (x : Paged). x.shown) c.self.view_is) c.self.invariant).1

pub returns-in_err-fill-clause-places : goal.returns-in_err-fill-clause-places
returns-in_err-fill-clause-places c =
    places_filled _ _ c.self.inside.sheaves c.fill.new.sheaves c.self.inside.head _ c.self.inside.seq c.self.inside.versions.items c.args.self.now
    c.self.view_is c.fill.ensures.grown

pub returns-clause-places : goal.returns-clause-places
returns-clause-places c =
    places_filled _ _ c.self.inside.sheaves c.fill.new.sheaves c.self.inside.head _ c.self.inside.seq c.self.inside.versions.items c.args.self.now
    c.self.view_is c.fill.ensures.grown
