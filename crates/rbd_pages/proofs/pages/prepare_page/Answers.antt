use Rattle.rbd_pages.proofs.PagingLemmas.{prepared_trans}
use Rattle.rbd_pages.proofs.pages.prepare_page.Goals as goal

pub returns-clause-prepared : goal.returns-clause-prepared
returns-clause-prepared c =
    prepared_trans c.args.arena.now c.have.new.arena c.store.new.arena c.args.pages.now.items c.have.new.pages.items c.have.new.pages.items
    c.in_ok-have.ensures.prepared (rw (← c.as_slice.ensures.value) c.store.ensures.prepared)
