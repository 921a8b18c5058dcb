use Rattle.std.proofs.Common.{◌∙◌, ap, length, sym, arith}
use Rattle.rbd_pages.specs.Sheets.{Sheet, bytes_at, count_at}
use Rattle.rbd_pages.proofs.PagingLemmas.{counted_at}
use Rattle.rbd_pages.proofs.SheavesLemmas.{listed_there, page_at_found, page_there, sheaf_read}
use Rattle.rbd_pages.proofs.bytes.own_page.Goals as goal

pub bounds-sheaves-list : goal.bounds-sheaves-list
bounds-sheaves-list c = listed_there c.args.sheaves.now c.args.list.now _ c.requires.sheaves c.if-k-list.false

pub is_own-requires : goal.is_own-requires
is_own-requires c =
    let below = listed_there c.args.sheaves.now c.args.list.now _ c.requires.sheaves c.if-k-list.false in
    let is = sheaf_read c.args.sheaves.now _ c.index-sheaves-list.result below c.index-sheaves-list.is in
    let long = c.len.ensures ∙ ap (λ (s : Sheet). length s.bytes) is in
    let within = c.if-k-len.false in
    let page = page_at_found c.args.sheaves.now c.args.list.now c.args.k c.requires.full c.if-k-list.false (omega arith)
    c.index-sheaves-list.result is c.page-page.result c.page-page.ensures in
    rw page (counted_at c.args.arena.now _ c.args.k c.requires.counted (page_there c.args.sheaves.now c.args.list.now c.args.k c.requires.full c.if-k-list.false (omega arith)))

pub returns-clause-page : goal.returns-clause-page
returns-clause-page c =
    let below = listed_there c.args.sheaves.now c.args.list.now _ c.requires.sheaves c.if-k-list.false in
    let is = sheaf_read c.args.sheaves.now _ c.index-sheaves-list.result below c.index-sheaves-list.is in
    let long = c.len.ensures ∙ ap (λ (s : Sheet). length s.bytes) is in
    let within = c.if-k-len.false in
    page_at_found c.args.sheaves.now c.args.list.now c.args.k c.requires.full c.if-k-list.false (omega arith)
    c.index-sheaves-list.result is c.page-page.result c.page-page.ensures

pub returns-clause-own : goal.returns-clause-own
returns-clause-own c = λ byte.
    let below = listed_there c.args.sheaves.now c.args.list.now _ c.requires.sheaves c.if-k-list.false in
    let is = sheaf_read c.args.sheaves.now _ c.index-sheaves-list.result below c.index-sheaves-list.is in
    let long = c.len.ensures ∙ ap (λ (s : Sheet). length s.bytes) is in
    let within = c.if-k-len.false in
    let page = page_at_found c.args.sheaves.now c.args.list.now c.args.k c.requires.full c.if-k-list.false (omega arith)
    c.index-sheaves-list.result is c.page-page.result c.page-page.ensures in
    let one = c.if-count-ne1.false in
    let count = c.count.ensures in
    let named = ap (λ (s : Sheet). s.count) is in
    let own = c.is_own.ensures in
    record {
      sheaf = omega arith;
      page = record {
        there = page_there c.args.sheaves.now c.args.list.now c.args.k c.requires.full c.if-k-list.false (omega arith);
        alone = sym (ap (count_at c.args.arena.now) page) ∙ own.alone c.if-not-is_own.false;
        stored = λ some. sym (ap (λ p. length (bytes_at c.args.arena.now p)) page) ∙ own.stored c.if-not-is_own.false;
      };
    }
