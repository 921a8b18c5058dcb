use Rattle.rbd_pages.specs.Sheaves.{pages_in}
use Rattle.std.proofs.Common.{◌<◌, length, rules, arith}
use Rattle.rbd_pages.proofs.WritingLemmas.{writing_begun, writing_done, writing_more_at, begins, stored_there}
use Rattle.rbd_pages.proofs.bytes.put.Goals as goal

pub loop-rest-init : goal.loop-rest-init
loop-rest-init c = writing_begun (pages_in c.args.sheaves.now c.args.list.now) c.args.at c.args.bytes.now c.args.arena.now c.requires.ready c.requires.within

pub put-requires-clause-used : goal.put-requires-clause-used
put-requires-clause-used c =
    let some : 0 < length c.loop-rest.rest.now = search rules in
    let first = begins (pages_in c.args.sheaves.now c.args.list.now) c.loop-rest.arena c.loop-rest.next _ (c.loop-rest.invariant.ready 0 some) in
    let alone = first.alone in rw c.page_at.ensures (omega arith)

pub put-requires-clause-stored : goal.put-requires-clause-stored
put-requires-clause-stored c = λ k some.
    rw c.page_at.ensures (stored_there (pages_in c.args.sheaves.now c.args.list.now) c.args.at c.args.bytes.now c.args.arena.now c.loop-rest.next c.loop-rest.rest.now c.loop-rest.arena
    c.min-count.result k c.loop-rest.invariant c.min-count.ensures (rw (← c.split_at.ensures.front) some))

pub loop-rest-preserved : goal.loop-rest-preserved
loop-rest-preserved c =
    let some : 0 < length c.loop-rest.rest.now = search rules in
    writing_more_at (pages_in c.args.sheaves.now c.args.list.now) c.args.at c.args.bytes.now c.args.arena.now c.loop-rest.next c.loop-rest.rest.now c.loop-rest.arena c.put.new.self
    c.min-count.result c.split_at.result.0.now c.split_at.result.1.now _ c.page_at.ensures c.loop-rest.invariant c.requires.counted some c.min-count.ensures
    c.split_at.ensures.front c.split_at.ensures.back c.put.ensures.changed c.put.ensures.count c.put.ensures.len c.put.ensures.bytes c.put.ensures.places

pub returns : goal.returns
returns c =
    writing_done (pages_in c.args.sheaves.now c.args.list.now) c.args.at c.args.bytes.now c.args.arena.now c.loop-rest.next c.loop-rest.rest.now c.loop-rest.arena
    c.loop-rest.invariant (search rules)

pub page_at-requires-clause-there : goal.page_at-requires-clause-there
page_at-requires-clause-there c =
    let some : 0 < length c.loop-rest.rest.now = search rules in
    (begins (pages_in c.args.sheaves.now c.args.list.now) c.loop-rest.arena c.loop-rest.next _ (c.loop-rest.invariant.ready 0 some)).there
