use Rattle.std.proofs.lemmas.List.{get_or_read}
use Rattle.std.proofs.Common.{arith}
use Rattle.rbd_pages.proofs.PagingLemmas.{prepared_copy_at, counted_read, ready_alone}
use Rattle.rbd_pages.proofs.GrownLemmas.{most_same}
use Rattle.rbd_pages.proofs.pages.own.Goals as goal

pub count-requires : goal.count-requires
count-requires c = counted_read c.args.arena.now c.args.pages.now.items c.args.k _ c.index-index.ensures c.requires.counted c.requires.there

pub returns-in_ok-copy-clause-prepared : goal.returns-in_ok-copy-clause-prepared
returns-in_ok-copy-clause-prepared c =
    prepared_copy_at c.args.arena.now c.copy.new.self c.release.new.self c.args.pages.now.items c.args.k _ c.in_ok-copy.copy
    (get_or_read c.args.pages.now.items c.args.k _ c.requires.there c.index-index.ensures 0) c.requires.counted c.requires.there
    (omega arith) c.in_ok-copy.ensures.free c.in_ok-copy.ensures.changed c.in_ok-copy.ensures.page c.release.ensures.changed c.release.ensures.page

pub returns-else-count-gt1-clause-ready : goal.returns-else-count-gt1-clause-ready
returns-else-count-gt1-clause-ready c =
    ready_alone c.args.arena.now c.args.pages.now.items c.args.k _ c.index-index.ensures c.requires.counted c.requires.there (omega arith)

pub returns-else-count-gt1-clause-places : goal.returns-else-count-gt1-clause-places
returns-else-count-gt1-clause-places c = most_same c.args.arena.now
