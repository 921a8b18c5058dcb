use Rattle.std.proofs.lemmas.Option.{slice_get-get_or}
use Rattle.std.proofs.Common.{get_or, arith}
use Rattle.rbd_pages.proofs.ListsLemmas.{counted_exchanged, exchanged_trans}
use Rattle.rbd_object.proofs.EachLemmas.{no_part, parts_begun, parts_done, parts_fit, parts_grown, parts_grown_so, parts_more, parts_refused, parts_used}
use Rattle.rbd_object.proofs.heads.write_each.Goals as goal

pub loop-part-init : goal.loop-part-init
loop-part-init c = parts_begun c.args.parts.now c.args.bytes.now c.args.sheaves.now c.args.head.now c.begin.new.head c.begin.ensures c.requires.content c.requires.long

pub split_at-requires : goal.split_at-requires
split_at-requires c = parts_fit c.args.parts.now c.args.bytes.now c.args.sheaves.now c.args.head.now c.loop-part.part-index c.loop-part.rest.now c.loop-part.sheaves c.loop-part.head c.loop-part.invariant c.loop-part-test.true

pub write_head-requires-clause-within : goal.write_head-requires-clause-within
write_head-requires-clause-within c =
    let within = c.requires.within c.loop-part.part-index (get_or c.args.parts.now c.loop-part.part-index no_part)
    (slice_get-get_or c.args.parts.now c.loop-part.part-index no_part c.loop-part-test.true) in
    let first = c.split_at.ensures.front_len in
    omega arith

pub write_head-requires-clause-counted : goal.write_head-requires-clause-counted
write_head-requires-clause-counted c = counted_exchanged _ _ _ _ c.loop-part.invariant.exchanged c.requires.counted

pub write_head-requires-clause-content : goal.write_head-requires-clause-content
write_head-requires-clause-content c = c.loop-part.invariant.is

pub returns-in_err-write_head-clause-exchanged : goal.returns-in_err-write_head-clause-exchanged
returns-in_err-write_head-clause-exchanged c = exchanged_trans _ _ _ _ _ _ c.loop-part.invariant.exchanged c.in_err-write_head.ensures.exchanged

pub returns-in_err-write_head-clause-used : goal.returns-in_err-write_head-clause-used
returns-in_err-write_head-clause-used c =
    parts_refused c.args.parts.now c.args.bytes.now c.args.sheaves.now c.args.head.now c.loop-part.part-index c.loop-part.rest.now c.loop-part.sheaves c.write_head.new.sheaves c.loop-part.head c.split_at.result.0.now c.loop-part.invariant c.loop-part-test.true
    c.split_at.ensures.front c.write_head.ensures.used

pub loop-part-preserved : goal.loop-part-preserved
loop-part-preserved c =
    parts_more c.args.parts.now c.args.bytes.now c.args.sheaves.now c.args.head.now c.loop-part.part-index c.loop-part.rest.now c.loop-part.sheaves c.write_head.new.sheaves c.loop-part.head c.write_head.new.head c.split_at.result.0.now c.split_at.result.1.now
    c.loop-part.invariant c.loop-part-test.true c.split_at.ensures.front c.split_at.ensures.back c.in_ok-write_head.ensures.exchanged
    c.in_ok-write_head.ensures.content c.in_ok-write_head.ensures.ok c.in_ok-write_head.ensures.used c.write_head.ensures.grown

pub returns-clause-exchanged : goal.returns-clause-exchanged
returns-clause-exchanged c = c.loop-part.invariant.exchanged

pub returns-clause-content : goal.returns-clause-content
returns-clause-content c = c.loop-part.invariant.is

pub returns-clause-ok : goal.returns-clause-ok
returns-clause-ok c = parts_done c.args.parts.now c.args.bytes.now c.args.sheaves.now c.args.head.now c.loop-part.part-index c.loop-part.rest.now c.loop-part.sheaves c.loop-part.head c.loop-part.invariant c.loop-part-test.false

pub returns-clause-used : goal.returns-clause-used
returns-clause-used c = parts_used c.args.parts.now c.args.bytes.now c.args.sheaves.now c.args.head.now c.loop-part.part-index c.loop-part.rest.now c.loop-part.sheaves c.loop-part.head c.loop-part.invariant

pub returns-in_err-write_head-clause-grown : goal.returns-in_err-write_head-clause-grown
returns-in_err-write_head-clause-grown c =
    parts_grown c.args.parts.now c.args.bytes.now c.args.sheaves.now c.args.head.now c.loop-part.part-index c.loop-part.rest.now c.loop-part.sheaves c.write_head.new.sheaves c.loop-part.head c.split_at.result.0.now c.loop-part.invariant c.loop-part-test.true
    c.split_at.ensures.front c.write_head.ensures.grown

pub returns-clause-grown : goal.returns-clause-grown
returns-clause-grown c = parts_grown_so c.args.parts.now c.args.bytes.now c.args.sheaves.now c.args.head.now c.loop-part.part-index c.loop-part.rest.now c.loop-part.sheaves c.loop-part.head c.loop-part.invariant
