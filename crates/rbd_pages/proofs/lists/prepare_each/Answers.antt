use Rattle.std.proofs.Common.{◌≡◌, ◌+◌, ◌/◌, ap, get_or, refl, subst, arith}
use Rattle.rbd_pages.proofs.PagingLemmas.{past_first}
use Rattle.rbd_pages.specs.Sheets.{count_at}
use Rattle.rbd_pages.proofs.GrownLemmas.{between_next, grown_refl, page_after, pages_grown, taken_again, taken_most}
use Rattle.rbd_pages.proofs.SheavesLemmas.{flat_most}
use Rattle.rbd_pages.proofs.ListsLemmas.{counted_exchanged, list_prepared_refl, list_prepared_trans, own_more}
use Rattle.rbd_pages.proofs.lists.prepare_each.Goals as goal

pub loop-k-init : goal.loop-k-init
loop-k-init c =
    let most = flat_most c.args.sheaves.now.sheaves c.args.list.now.items c.requires.full in
    let held = c.requires.held in
    let first = c.min-first.ensures in
    record {
      prepared = list_prepared_refl c.args.sheaves.now c.args.list.now.items c.requires.apart c.requires.full;
      many = omega arith;
      long = omega arith;
      used = omega arith;
      grown = grown_refl _ _ c.args.sheaves.now;
      last = λ j from next. absurd (let f : ⊥ = omega arith in f);
      ready = λ j below early. absurd (past_first c.args.at j c.min-first.result (omega arith) early);
      from = omega arith;
      up_to = omega arith;
    }

pub prepare_page-requires-clause-counted : goal.prepare_page-requires-clause-counted
prepare_page-requires-clause-counted c = counted_exchanged _ _ _ _ c.loop-k.invariant.prepared.exchanged c.requires.counted

pub prepare_page-requires-clause-apart : goal.prepare_page-requires-clause-apart
prepare_page-requires-clause-apart c = c.loop-k.invariant.prepared.apart

pub prepare_page-requires-clause-full : goal.prepare_page-requires-clause-full
prepare_page-requires-clause-full c = c.loop-k.invariant.prepared.full

pub prepare_page-requires-clause-near : goal.prepare_page-requires-clause-near
prepare_page-requires-clause-near c = c.loop-k.invariant.long

pub returns-in_err-prepare_page-clause-prepared : goal.returns-in_err-prepare_page-clause-prepared
returns-in_err-prepare_page-clause-prepared c =
    list_prepared_trans c.args.sheaves.now c.loop-k.sheaves c.prepare_page.new.sheaves c.args.list.now.items c.loop-k.list.items c.prepare_page.new.list.items
    c.loop-k.invariant.prepared c.in_err-prepare_page.ensures.prepared

pub returns-in_err-prepare_page-clause-used : goal.returns-in_err-prepare_page-clause-used
returns-in_err-prepare_page-clause-used c =
    let before = c.loop-k.invariant.used in
    let more = c.in_err-prepare_page.ensures.used in
    let from = c.loop-k.invariant.from in
    let end = c.pages_for-end.ensures in
    let first = c.min-first.ensures in
    omega arith

pub loop-k-preserved : goal.loop-k-preserved
loop-k-preserved c =
    let was = c.loop-k.invariant in
    let done = c.in_ok-prepare_page.ensures in
    let many = was.many in
    let grown = done.len in
    let before = was.used in
    let more = done.used in
    let from = was.from in
    let long = done.long in
    record {
      prepared =
          list_prepared_trans c.args.sheaves.now c.loop-k.sheaves c.prepare_page.new.sheaves c.args.list.now.items c.loop-k.list.items c.prepare_page.new.list.items
          was.prepared done.prepared;
      many = omega arith;
      long = omega arith;
      used = omega arith;
      grown = page_after c.min-first.result c.loop-k.k _ c.args.sheaves.now c.loop-k.sheaves c.prepare_page.new.sheaves was.grown done.grown from
          (between_next c.min-first.result c.loop-k.k _ from (taken_most c.loop-k.sheaves.sheaves c.loop-k.list.items (c.loop-k.k / 128))
          (λ some inner. taken_again c.loop-k.sheaves.sheaves c.loop-k.list.items c.min-first.result c.loop-k.k (omega arith) some inner was.last));
      last = λ j below next.
          let same : c.loop-k.k / 128 ≡ j / 128 = ap (λ n. n / 128) (let is : c.loop-k.k ≡ j = omega arith in is) in
          subst (λ m. count_at c.prepare_page.new.sheaves.sheaves (get_or c.prepare_page.new.list.items m 0) ≡ 1) same
          (done.ready 0 (λ some. absurd (some refl))).sheaf;
      ready = λ j below early.
          own_more c.args.at c.loop-k.k c.args.bytes.now j c.needs_store.result c.loop-k.sheaves c.prepare_page.new.sheaves c.loop-k.list.items
          c.prepare_page.new.list.items done.prepared done.ready (c.needs_store.ensures j) (was.ready j below) early;
      from = omega arith;
      up_to = omega arith;
    }

pub returns-clause-prepared : goal.returns-clause-prepared
returns-clause-prepared c = c.loop-k.invariant.prepared

pub returns-clause-used : goal.returns-clause-used
returns-clause-used c =
    let before = c.loop-k.invariant.used in
    let up_to = c.loop-k.invariant.up_to in
    let end = c.pages_for-end.ensures in
    let first = c.min-first.ensures in
    omega arith

pub returns-clause-len : goal.returns-clause-len
returns-clause-len c =
    let most = flat_most c.args.sheaves.now.sheaves c.args.list.now.items c.requires.full in
    let held = c.requires.held in
    let many = c.loop-k.invariant.many in
    let up_to = c.loop-k.invariant.up_to in
    let end = c.pages_for-end.ensures in
    let first = c.min-first.ensures in
    omega arith

pub returns-clause-long : goal.returns-clause-long
returns-clause-long c =
    let long = c.loop-k.invariant.long in
    let end = c.pages_for-end.ensures in
    omega arith

pub returns-clause-ready : goal.returns-clause-ready
returns-clause-ready c = λ j below.
    let end = c.pages_for-end.ensures in
    let first = c.min-first.ensures in
    c.loop-k.invariant.ready j below (omega arith)

pub returns-in_err-prepare_page-clause-grown : goal.returns-in_err-prepare_page-clause-grown
returns-in_err-prepare_page-clause-grown c =
    let was = c.loop-k.invariant in
    let many = was.many in
    let long = was.long in
    let from = was.from in
    let end = c.pages_for-end.ensures in
    pages_grown c.min-first.result c.pages_for-end.result (c.loop-k.k + 1) _ _ c.args.sheaves.now c.prepare_page.new.sheaves c.min-first.ensures end (omega arith) (omega arith)
    (page_after c.min-first.result c.loop-k.k _ c.args.sheaves.now c.loop-k.sheaves c.prepare_page.new.sheaves was.grown c.in_err-prepare_page.ensures.grown from
    (between_next c.min-first.result c.loop-k.k _ from (taken_most c.loop-k.sheaves.sheaves c.loop-k.list.items (c.loop-k.k / 128))
    (λ some inner. taken_again c.loop-k.sheaves.sheaves c.loop-k.list.items c.min-first.result c.loop-k.k (omega arith) some inner was.last)))

pub returns-clause-grown : goal.returns-clause-grown
returns-clause-grown c =
    pages_grown c.min-first.result c.pages_for-end.result c.loop-k.k _ _ c.args.sheaves.now c.loop-k.sheaves c.min-first.ensures c.pages_for-end.ensures
    c.loop-k.invariant.from c.loop-k.invariant.up_to c.loop-k.invariant.grown
