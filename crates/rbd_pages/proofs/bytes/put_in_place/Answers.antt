use Rattle.std.proofs.Common.{◌∙◌, ◌<◌, ap, get_or, length, rules}
use Rattle.rbd_pages.specs.Sheaves.{pages_in}
use Rattle.rbd_pages.specs.Sheets.{bytes_at}
use Rattle.rbd_pages.proofs.PagingLemmas.{counted_at}
use Rattle.rbd_pages.proofs.WritingLemmas.{written_on_one}
use Rattle.rbd_pages.proofs.bytes.put_in_place.Goals as goal

pub put-requires-clause-used : goal.put-requires-clause-used
put-requires-clause-used c =
    let told = c.in-Some.ensures in
    rw told.page (counted_at c.args.arena.now (pages_in c.args.sheaves.now c.args.list.now) _ c.requires.counted (told.own 0).page.there)

pub put-requires-clause-stored : goal.put-requires-clause-stored
put-requires-clause-stored c = λ k some.
    let told = c.in-Some.ensures in
    ap (λ p. length (bytes_at c.args.arena.now p)) told.page ∙ (told.own (get_or c.args.bytes.now k 0)).page.stored some

pub returns-in-Some-clause-written : goal.returns-in-Some-clause-written
returns-in-Some-clause-written c = λ is.
    let told = c.in-Some.ensures in
    let some : 0 < length c.args.bytes.now = search rules in
    written_on_one (pages_in c.args.sheaves.now c.args.list.now) c.args.at c.args.bytes.now c.args.arena.now c.put.new.self c.in-Some.page told.page
    (λ byte. (told.own byte).page) c.requires.counted some c.if-bytes-at.false c.requires.within c.put.ensures.changed c.put.ensures.count c.put.ensures.len c.put.ensures.bytes
    c.put.ensures.places
