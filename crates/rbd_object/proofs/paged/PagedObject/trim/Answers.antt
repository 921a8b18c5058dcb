use Rattle.std.proofs.Common.{◌∙◌, ap, arith}
use Rattle.rbd_object.specs.Paged.{Paged}
use Rattle.rbd_object.proofs.PagedLemmas.{trimmed_paged}
use Rattle.rbd_object.proofs.paged.PagedObject.trim.Goals as goal

pub invariant_of-self : goal.invariant_of-self
invariant_of-self c = (trimmed_paged c.args.live.now c.self.inside.sheaves c.let_go.new.sheaves c.self.inside.head c.self.inside.seq c.self.inside.versions.items
    c.keep_live.new.versions.items c.args.self.now.shown c.self.invariant c.let_go.ensures.counts c.let_go.ensures.kept c.keep_live.ensures
    (ap (λ (x : Paged). x.shown) c.self.view_is)).0

pub returns-clause-shown : goal.returns-clause-shown
returns-clause-shown c = (trimmed_paged c.args.live.now c.self.inside.sheaves c.let_go.new.sheaves c.self.inside.head c.self.inside.seq c.self.inside.versions.items
    c.keep_live.new.versions.items c.args.self.now.shown c.self.invariant c.let_go.ensures.counts c.let_go.ensures.kept c.keep_live.ensures
    (ap (λ (x : Paged). x.shown) c.self.view_is)).1

pub returns-clause-page_places : goal.returns-clause-page_places
returns-clause-page_places c = c.let_go.ensures.places.page_places ∙ ap (λ (x : Paged). x.page_places) c.self.view_is

pub returns-clause-sheaf_places : goal.returns-clause-sheaf_places
returns-clause-sheaf_places c = c.let_go.ensures.places.sheaf_places ∙ ap (λ (x : Paged). x.sheaf_places) c.self.view_is

pub returns-clause-sheaves : goal.returns-clause-sheaves
returns-clause-sheaves c =
    let used = c.let_go.ensures.places.sheaves_used in
    let is = ap (λ (x : Paged). x.sheaves) c.self.view_is in
    omega arith
