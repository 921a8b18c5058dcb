use Rattle.rbd_pages.proofs.PagingLemmas.{in_place, prepared_changed, stored_bytes}
use Rattle.rbd_pages.proofs.pages.store.Goals as goal

pub returns-in_ok-store-clause-prepared : goal.returns-in_ok-store-clause-prepared
returns-in_ok-store-clause-prepared c =
    let a = c.args.arena.now in
    let b = c.store.new.self in
    let done = c.in_ok-store.ensures in
    prepared_changed a b c.args.pages.now
    (in_place a b c.args.pages.now c.args.k 0 c.requires.ready done.changed done.count (λ was. done.stored) done.places)
    (λ m j. stored_bytes a b c.args.pages.now c.args.k m j c.requires.counted c.requires.ready.there c.requires.ready.alone done.changed done.bytes)
