use Rattle.std.proofs.Common.{◌≡◌, ◌++◌, ◌∷◌, [], refl, sym, subst}
use Rattle.rbd_pages.specs.Paging.{Prepared}
use Rattle.rbd_pages.proofs.PagingLemmas.{prepared_add}
use Rattle.rbd_pages.proofs.GrownLemmas.{most_same}
use Rattle.rbd_pages.proofs.pages.extend.Goals as goal

pub returns-clause-prepared : goal.returns-clause-prepared
returns-clause-prepared c =
    let is : c.push_reserved.new.self.items ≡ c.args.pages.now.items ++ c.in_ok-page.page ∷ [] =
    rw (c.push_reserved.ensures.items, c.in_ok-reserve.ensures.items) refl in
    subst (Prepared c.args.arena.now c.args.pages.now.items c.add.new.self) (sym is)
    (prepared_add c.args.arena.now c.add.new.self c.args.pages.now.items c.in_ok-page.page c.requires.counted
    c.in_ok-page.ensures.free c.in_ok-page.ensures.changed c.in_ok-page.ensures.page)

pub returns-in_err-reserve-clause-places : goal.returns-in_err-reserve-clause-places
returns-in_err-reserve-clause-places c = most_same c.args.arena.now
