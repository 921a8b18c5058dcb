use Rattle.std.proofs.Common.{Some, None, ◌∙◌, ap, sym, refl}
use Rattle.rbd_object.specs.Paged.{Paged}
use Rattle.rbd_object.proofs.PagedLemmas.{shown_is, shown_sound}
use Rattle.rbd_object.proofs.paged.PagedObject.read.Goals as goal

pub read-requires-clause-counted : goal.read-requires-clause-counted
read-requires-clause-counted c = (shown_sound c.self.inside.sheaves c.self.inside.head c.self.inside.seq c.self.inside.versions.items c.args.snap c.in-Some.content.now c.in-Some.ensures c.self.invariant).0

pub read-requires-clause-content : goal.read-requires-clause-content
read-requires-clause-content c = (shown_sound c.self.inside.sheaves c.self.inside.head c.self.inside.seq c.self.inside.versions.items c.args.snap c.in-Some.content.now c.in-Some.ensures c.self.invariant).1

pub returns-in-Some-clause-shown : goal.returns-in-Some-clause-shown
returns-in-Some-clause-shown c = rw (shown_is c.self.inside.sheaves c.self.inside.head c.self.inside.seq c.self.inside.versions.items c.args.snap c.args.self.now.shown (Some c.in-Some.content.now)
    (ap (λ (x : Paged). x.shown) c.self.view_is) c.in-Some.ensures) (λ t. refl, λ t. refl)

pub returns-in-Some-clause-bytes : goal.returns-in-Some-clause-bytes
returns-in-Some-clause-bytes c = rw (shown_is c.self.inside.sheaves c.self.inside.head c.self.inside.seq c.self.inside.versions.items c.args.snap c.args.self.now.shown (Some c.in-Some.content.now)
    (ap (λ (x : Paged). x.shown) c.self.view_is) c.in-Some.ensures) c.read.ensures

pub returns-in-Some-clause-absent : goal.returns-in-Some-clause-absent
returns-in-Some-clause-absent c = λ none. let clash = sym (shown_is c.self.inside.sheaves c.self.inside.head c.self.inside.seq c.self.inside.versions.items c.args.snap c.args.self.now.shown (Some c.in-Some.content.now)
    (ap (λ (x : Paged). x.shown) c.self.view_is) c.in-Some.ensures) ∙ none in cc

pub returns-in-None-clause-shown : goal.returns-in-None-clause-shown
returns-in-None-clause-shown c = rw (shown_is c.self.inside.sheaves c.self.inside.head c.self.inside.seq c.self.inside.versions.items c.args.snap c.args.self.now.shown None
    (ap (λ (x : Paged). x.shown) c.self.view_is) c.in-None.ensures) (λ t. t, λ t. t)

pub returns-in-None-clause-bytes : goal.returns-in-None-clause-bytes
returns-in-None-clause-bytes c = rw (shown_is c.self.inside.sheaves c.self.inside.head c.self.inside.seq c.self.inside.versions.items c.args.snap c.args.self.now.shown None
    (ap (λ (x : Paged). x.shown) c.self.view_is) c.in-None.ensures) tt
