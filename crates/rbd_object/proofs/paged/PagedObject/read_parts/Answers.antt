use Rattle.std.proofs.Common.{Some, None, ◌∙◌, ap, refl}
use Rattle.rbd_object.specs.Paged.{Paged}
use Rattle.rbd_object.proofs.PagedLemmas.{shown_is, shown_sound}
use Rattle.rbd_object.proofs.paged.PagedObject.read_parts.Goals as goal

pub read_parts-requires-clause-counted : goal.read_parts-requires-clause-counted
read_parts-requires-clause-counted c = (shown_sound c.self.inside.sheaves c.self.inside.head c.self.inside.seq c.self.inside.versions.items c.args.snap c.in-Some.content.now c.in-Some.ensures c.self.invariant).0

pub read_parts-requires-clause-content : goal.read_parts-requires-clause-content
read_parts-requires-clause-content c = (shown_sound c.self.inside.sheaves c.self.inside.head c.self.inside.seq c.self.inside.versions.items c.args.snap c.in-Some.content.now c.in-Some.ensures c.self.invariant).1

pub returns-in_ok-read_parts-in-Some : goal.returns-in_ok-read_parts-in-Some
returns-in_ok-read_parts-in-Some c = rw (shown_is c.self.inside.sheaves c.self.inside.head c.self.inside.seq c.self.inside.versions.items c.args.snap c.args.self.now.shown (Some c.in-Some.content.now)
    (ap (λ (x : Paged). x.shown) c.self.view_is) c.in-Some.ensures) (ap (λ xs. Some xs) (c.from_vec.ensures ∙ c.in_ok-read_parts-in-Some.ensures))

pub returns-in-None : goal.returns-in-None
returns-in-None c = rw (shown_is c.self.inside.sheaves c.self.inside.head c.self.inside.seq c.self.inside.versions.items c.args.snap c.args.self.now.shown None
    (ap (λ (x : Paged). x.shown) c.self.view_is) c.in-None.ensures) refl
