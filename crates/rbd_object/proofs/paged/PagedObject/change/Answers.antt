use Rattle.std.proofs.Common.{◌∙◌, ap}
use Rattle.rbd_object.specs.Changes.{after}
use Rattle.rbd_object.specs.Mapped.{mapped_change}
use Rattle.rbd_object.specs.Paged.{Paged}
use Rattle.rbd_object.proofs.PagedLemmas.{pages_step, places_step, refused_paged, step_paged, wanted_is}
use Rattle.rbd_object.proofs.paged.PagedObject.change.Goals as goal
use Rattle.rbd_kinds.proofs.Results.{on_err_always}

pub invariant_of-self-in_err-kept : goal.invariant_of-self-in_err-kept
invariant_of-self-in_err-kept c = (refused_paged c.self.inside.sheaves c.change.new.sheaves c.self.inside.head c.change.new.head c.self.inside.seq c.self.inside.versions.items
    c.make_room.new.versions.items c.in_err-kept.ensures.err c.in_err-kept.ensures.same c.in_ok-make_room.ensures.same c.self.invariant).0

pub returns-in_err-kept-clause-err : goal.returns-in_err-kept-clause-err
returns-in_err-kept-clause-err c = on_err_always _ ((refused_paged c.self.inside.sheaves c.change.new.sheaves c.self.inside.head c.change.new.head c.self.inside.seq c.self.inside.versions.items
    c.make_room.new.versions.items c.in_err-kept.ensures.err c.in_err-kept.ensures.same c.in_ok-make_room.ensures.same c.self.invariant).1 ∙ ap (λ (x : Paged). x.shown) c.self.view_is)

pub returns-in_err-kept-clause-pages : goal.returns-in_err-kept-clause-pages
returns-in_err-kept-clause-pages c =
    pages_step c.self.inside.sheaves c.change.new.sheaves c.self.inside.head c.self.inside.seq c.self.inside.versions.items c.args.self.now c.args.change
    c.self.view_is c.change.ensures.used

pub invariant_of-self-2 : goal.invariant_of-self-2
invariant_of-self-2 c = (step_paged _ c.args.context.now c.args.self.now.shown c.self.inside.sheaves c.change.new.sheaves c.self.inside.head c.change.new.head c.in_ok-kept.kept
    c.self.inside.seq c.later-self-inside.result c.in_ok-snaps.snaps.items c.version_of.result c.self.inside.versions.items c.make_room.new.versions.items
    c.add.new.versions.items (ap (λ (x : Paged). x.shown) c.self.view_is) c.in_ok-snaps.ensures
    (wanted_is _ c.in_ok-snaps.snaps.items c.is_empty-wanted.result c.is_empty-wanted.ensures c.in_ok-snaps.snaps.ok.0)
    c.in_ok-kept.ensures.ok c.version_of.ensures c.in_ok-make_room.ensures.same c.add.ensures c.later-self-inside.ensures c.self.invariant).0

pub returns-clause-ok : goal.returns-clause-ok
returns-clause-ok c =
    (step_paged _ c.args.context.now c.args.self.now.shown c.self.inside.sheaves c.change.new.sheaves c.self.inside.head c.change.new.head c.in_ok-kept.kept
    c.self.inside.seq c.later-self-inside.result c.in_ok-snaps.snaps.items c.version_of.result c.self.inside.versions.items c.make_room.new.versions.items
    c.add.new.versions.items (ap (λ (x : Paged). x.shown) c.self.view_is) c.in_ok-snaps.ensures
    (wanted_is _ c.in_ok-snaps.snaps.items c.is_empty-wanted.result c.is_empty-wanted.ensures c.in_ok-snaps.snaps.ok.0)
    c.in_ok-kept.ensures.ok c.version_of.ensures c.in_ok-make_room.ensures.same c.add.ensures c.later-self-inside.ensures c.self.invariant).1
    ∙ ap (λ new. mapped_change c.args.context.now new c.args.self.now.shown)
    (c.in_ok-kept.ensures.bytes ∙ ap (λ (x : Paged). after c.args.change x.shown.head) c.self.view_is)

pub returns-clause-pages : goal.returns-clause-pages
returns-clause-pages c =
    pages_step c.self.inside.sheaves c.change.new.sheaves c.self.inside.head c.self.inside.seq c.self.inside.versions.items c.args.self.now c.args.change
    c.self.view_is c.change.ensures.used

pub returns-in_err-kept-clause-places : goal.returns-in_err-kept-clause-places
returns-in_err-kept-clause-places c =
    places_step c.self.inside.sheaves c.change.new.sheaves c.self.inside.head _ c.self.inside.seq _ c.self.inside.versions.items c.make_room.new.versions.items c.args.self.now c.args.change
    c.self.view_is c.change.ensures.grown

pub returns-clause-places : goal.returns-clause-places
returns-clause-places c =
    places_step c.self.inside.sheaves c.change.new.sheaves c.self.inside.head _ c.self.inside.seq _ c.self.inside.versions.items c.add.new.versions.items c.args.self.now c.args.change
    c.self.view_is c.change.ensures.grown
