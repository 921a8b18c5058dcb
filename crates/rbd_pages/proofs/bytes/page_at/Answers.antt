use Rattle.std.proofs.Common.{ap, length, arith}
use Rattle.rbd_pages.specs.Sheets.{Sheet}
use Rattle.rbd_pages.proofs.SheavesLemmas.{listed_there, page_at_found, place_of, sheaf_read}
use Rattle.rbd_pages.proofs.bytes.page_at.Goals as goal

pub bounds-list-k : goal.bounds-list-k
bounds-list-k c = (place_of c.args.sheaves.now c.args.list.now c.args.k c.requires.full c.requires.there).0

pub bounds-sheaves-list : goal.bounds-sheaves-list
bounds-sheaves-list c =
    listed_there c.args.sheaves.now c.args.list.now _ c.requires.counted
    (place_of c.args.sheaves.now c.args.list.now c.args.k c.requires.full c.requires.there).0

pub page-requires : goal.page-requires
page-requires c =
    let place = place_of c.args.sheaves.now c.args.list.now c.args.k c.requires.full c.requires.there in
    let below = listed_there c.args.sheaves.now c.args.list.now _ c.requires.counted place.0 in
    let long = ap (λ (s : Sheet). length s.bytes) (sheaf_read c.args.sheaves.now _ c.index-sheaves-list.result below c.index-sheaves-list.is) in
    let within = place.1 in
    omega arith

pub returns : goal.returns
returns c =
    let place = place_of c.args.sheaves.now c.args.list.now c.args.k c.requires.full c.requires.there in
    let below = listed_there c.args.sheaves.now c.args.list.now _ c.requires.counted place.0 in
    page_at_found c.args.sheaves.now c.args.list.now c.args.k c.requires.full place.0 place.1
    c.index-sheaves-list.result (sheaf_read c.args.sheaves.now _ c.index-sheaves-list.result below c.index-sheaves-list.is)
    c.page.result c.page.ensures
