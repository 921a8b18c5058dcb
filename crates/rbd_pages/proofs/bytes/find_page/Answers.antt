use Rattle.std.proofs.Common.{◌∙◌, ap, length, arith}
use Rattle.rbd_pages.specs.Sheets.{Sheet}
use Rattle.rbd_pages.proofs.SheavesLemmas.{listed_there, page_at_found, page_there, past_list, past_sheaf, sheaf_read}
use Rattle.rbd_pages.proofs.bytes.find_page.Goals as goal

pub returns-then-k-list-clause-past : goal.returns-then-k-list-clause-past
returns-then-k-list-clause-past c = λ none. past_list c.args.sheaves.now c.args.list.now c.args.k c.requires.full c.if-k-list.true

pub bounds-sheaves-list : goal.bounds-sheaves-list
bounds-sheaves-list c = listed_there c.args.sheaves.now c.args.list.now _ c.requires.counted c.if-k-list.false

pub returns-then-k-len-clause-past : goal.returns-then-k-len-clause-past
returns-then-k-len-clause-past c = λ none.
    let below = listed_there c.args.sheaves.now c.args.list.now _ c.requires.counted c.if-k-list.false in
    let is = sheaf_read c.args.sheaves.now _ c.index-sheaves-list.result below c.index-sheaves-list.is in
    past_sheaf c.args.sheaves.now c.args.list.now c.args.k c.requires.full
    (let long = c.len.ensures ∙ ap (λ (s : Sheet). length s.bytes) is in let past = c.if-k-len.true in omega arith)

pub returns-clause-there : goal.returns-clause-there
returns-clause-there c =
    let below = listed_there c.args.sheaves.now c.args.list.now _ c.requires.counted c.if-k-list.false in
    let is = sheaf_read c.args.sheaves.now _ c.index-sheaves-list.result below c.index-sheaves-list.is in
    page_there c.args.sheaves.now c.args.list.now c.args.k c.requires.full c.if-k-list.false
    (let long = c.len.ensures ∙ ap (λ (s : Sheet). length s.bytes) is in let within = c.if-k-len.false in omega arith)

pub returns-clause-page : goal.returns-clause-page
returns-clause-page c =
    let below = listed_there c.args.sheaves.now c.args.list.now _ c.requires.counted c.if-k-list.false in
    let is = sheaf_read c.args.sheaves.now _ c.index-sheaves-list.result below c.index-sheaves-list.is in
    page_at_found c.args.sheaves.now c.args.list.now c.args.k c.requires.full c.if-k-list.false
    (let long = c.len.ensures ∙ ap (λ (s : Sheet). length s.bytes) is in let within = c.if-k-len.false in omega arith)
    c.index-sheaves-list.result is c.page.result c.page.ensures
