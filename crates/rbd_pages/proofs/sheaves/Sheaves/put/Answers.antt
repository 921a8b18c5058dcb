use Rattle.std.proofs.Common.{sym, subst}
use Rattle.rbd_pages.specs.Paging.{AreApart, AreCounted}
use Rattle.rbd_pages.specs.Sheaves.{Stock, pages_in}
use Rattle.rbd_pages.proofs.SheavesLemmas.{counted_pages}
use Rattle.rbd_pages.proofs.sheaves.Sheaves.put.Goals as goal

pub put-requires-clause-counted : goal.put-requires-clause-counted
put-requires-clause-counted c =
    subst (λ sheaves. AreCounted c.self.inside.arena (pages_in sheaves c.args.list.now)) (sym c.as_slice.ensures.value)
    (counted_pages (record { sheaves = c.self.inside.sheaves.items; sheets = c.self.inside.arena }) c.args.list.now c.self.invariant.0
    (subst (λ (x : Stock). AreApart (pages_in x.sheaves c.args.list.now)) (sym c.self.view_is) c.requires.apart))
