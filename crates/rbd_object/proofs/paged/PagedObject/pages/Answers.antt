use Rattle.std.proofs.Common.{ap, arith}
use Rattle.rbd_object.specs.Paged.{Paged}
use Rattle.rbd_object.proofs.PagedLemmas.{pages_least, pages_none}
use Rattle.rbd_object.proofs.paged.PagedObject.pages.Goals as goal

pub returns-clause-longest : goal.returns-clause-longest
returns-clause-longest c = λ snap bytes some.
    let least =
    pages_least c.self.inside.sheaves c.self.inside.head c.self.inside.seq c.self.inside.versions.items c.args.self.now.shown snap bytes
    (ap (λ (x : Paged). x.shown) c.self.view_is) c.used.ensures.stocked c.self.invariant some in
    let used = c.used.ensures.used in
    omega arith

pub returns-clause-none : goal.returns-clause-none
returns-clause-none c = λ empty.
    let none =
    pages_none c.self.inside.sheaves c.self.inside.head c.self.inside.seq c.self.inside.versions.items c.args.self.now.shown
    (ap (λ (x : Paged). x.shown) c.self.view_is) c.used.ensures.stocked c.self.invariant empty in
    let used = c.used.ensures.used in
    omega arith
