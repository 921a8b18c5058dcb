use Rattle.std.proofs.Common.{Some, None, ap, refl}
use Rattle.rbd_object.specs.Paged.{Paged}
use Rattle.rbd_object.proofs.PagedLemmas.{shown_is}
use Rattle.rbd_object.proofs.paged.PagedObject.exists.Goals as goal

pub returns-in-Some-clause-shown : goal.returns-in-Some-clause-shown
returns-in-Some-clause-shown c =
    rw (shown_is c.self.inside.sheaves c.self.inside.head c.self.inside.seq c.self.inside.versions.items c.args.snap c.args.self.now.shown
    (Some c.in-Some.field-0.now) (ap (λ (x : Paged). x.shown) c.self.view_is) c.in-Some.ensures) (λ t. refl, λ t. refl)

pub returns-in-None-clause-shown : goal.returns-in-None-clause-shown
returns-in-None-clause-shown c = rw (shown_is c.self.inside.sheaves c.self.inside.head c.self.inside.seq c.self.inside.versions.items c.args.snap c.args.self.now.shown None
    (ap (λ (x : Paged). x.shown) c.self.view_is) c.in-None.ensures) (λ t. t, λ t. t)
