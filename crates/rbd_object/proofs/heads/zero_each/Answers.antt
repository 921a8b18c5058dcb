use Rattle.rbd_pages.proofs.ListsLemmas.{counted_exchanged, exchanged_trans}
use Rattle.rbd_object.proofs.EachLemmas.{zeros_begun, zeros_done, zeros_grown, zeros_grown_so, zeros_more, zeros_refused}
use Rattle.rbd_object.proofs.heads.zero_each.Goals as goal

pub loop-part-init : goal.loop-part-init
loop-part-init c = zeros_begun c.args.parts.now c.args.sheaves.now c.args.head.now c.requires.content

pub zero_head-requires-clause-counted : goal.zero_head-requires-clause-counted
zero_head-requires-clause-counted c = counted_exchanged _ _ _ _ c.loop-part.invariant.exchanged c.requires.counted

pub zero_head-requires-clause-content : goal.zero_head-requires-clause-content
zero_head-requires-clause-content c = c.loop-part.invariant.is

pub returns-in_err-zero_head-clause-exchanged : goal.returns-in_err-zero_head-clause-exchanged
returns-in_err-zero_head-clause-exchanged c = exchanged_trans _ _ _ _ _ _ c.loop-part.invariant.exchanged c.in_err-zero_head.ensures.exchanged

pub returns-in_err-zero_head-clause-used : goal.returns-in_err-zero_head-clause-used
returns-in_err-zero_head-clause-used c = zeros_refused c.args.parts.now c.args.sheaves.now c.args.head.now c.loop-part.part-index c.loop-part.sheaves c.zero_head.new.sheaves c.loop-part.head c.loop-part.invariant c.loop-part-test.true c.zero_head.ensures.used

pub loop-part-preserved : goal.loop-part-preserved
loop-part-preserved c =
    zeros_more c.args.parts.now c.args.sheaves.now c.args.head.now c.loop-part.part-index c.loop-part.sheaves c.zero_head.new.sheaves c.loop-part.head c.zero_head.new.head c.loop-part.invariant c.loop-part-test.true
    c.in_ok-zero_head.ensures.exchanged c.in_ok-zero_head.ensures.content c.in_ok-zero_head.ensures.ok c.in_ok-zero_head.ensures.used c.zero_head.ensures.grown

pub returns-clause-ok : goal.returns-clause-ok
returns-clause-ok c = zeros_done c.args.parts.now c.args.sheaves.now c.args.head.now c.loop-part.part-index c.loop-part.sheaves c.loop-part.head c.loop-part.invariant c.loop-part-test.false

pub returns-in_err-zero_head-clause-grown : goal.returns-in_err-zero_head-clause-grown
returns-in_err-zero_head-clause-grown c =
    zeros_grown c.args.parts.now c.args.sheaves.now c.args.head.now c.loop-part.part-index c.loop-part.sheaves c.zero_head.new.sheaves c.loop-part.head c.loop-part.invariant c.loop-part-test.true c.zero_head.ensures.grown

pub returns-clause-grown : goal.returns-clause-grown
returns-clause-grown c = zeros_grown_so c.args.parts.now c.args.sheaves.now c.args.head.now c.loop-part.part-index c.loop-part.sheaves c.loop-part.head c.loop-part.invariant
