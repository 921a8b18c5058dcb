use Rattle.rbd_pages.specs.Sheaves.{pages_in}
use Rattle.std.proofs.Common.{arith}
use Rattle.rbd_pages.proofs.WritingLemmas.{zeroing_begun, zeroing_done, zeroing_more_at, begins}
use Rattle.rbd_pages.proofs.bytes.zero.Goals as goal

pub loop-left-init : goal.loop-left-init
loop-left-init c = zeroing_begun (pages_in c.args.sheaves.now c.args.list.now) c.args.at c.args.len c.args.arena.now c.requires.ready c.requires.within

pub clear-requires-clause-used : goal.clear-requires-clause-used
clear-requires-clause-used c =
    let first = begins (pages_in c.args.sheaves.now c.args.list.now) c.loop-left.arena c.loop-left.next 0 (c.loop-left.invariant.ready 0 c.loop-left-test.true) in
    let alone = first.alone in rw c.page_at.ensures (omega arith)

pub loop-left-preserved : goal.loop-left-preserved
loop-left-preserved c =
    zeroing_more_at (pages_in c.args.sheaves.now c.args.list.now) c.args.at c.args.len c.args.arena.now c.loop-left.next c.loop-left.left c.loop-left.arena c.clear.new.self
    c.min-count.result _ c.page_at.ensures c.loop-left.invariant c.requires.counted c.loop-left-test.true c.min-count.ensures
    c.clear.ensures.changed c.clear.ensures.count c.clear.ensures.len c.clear.ensures.bytes c.clear.ensures.places

pub returns : goal.returns
returns c =
    zeroing_done (pages_in c.args.sheaves.now c.args.list.now) c.args.at c.args.len c.args.arena.now c.loop-left.next c.loop-left.left c.loop-left.arena
    c.loop-left.invariant (omega arith)

pub page_at-requires-clause-there : goal.page_at-requires-clause-there
page_at-requires-clause-there c =
    let first = begins (pages_in c.args.sheaves.now c.args.list.now) c.loop-left.arena c.loop-left.next 0 (c.loop-left.invariant.ready 0 c.loop-left-test.true) in
    first.there
