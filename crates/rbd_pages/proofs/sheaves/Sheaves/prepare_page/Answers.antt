use Rattle.std.proofs.Common.{◌<◌, ap, set, subst, arith}
use Rattle.rbd_pages.specs.Paging.{Prepared}
use Rattle.rbd_pages.specs.Sheaves.{IsSame, Stock}
use Rattle.rbd_pages.specs.Sheets.{bytes_at, count_at}
use Rattle.rbd_pages.proofs.PlacesLemmas.{knows_changed}
use Rattle.rbd_pages.proofs.SheetLemmas.{changed_at, within_items, count_read}
use Rattle.rbd_pages.proofs.SheavesLemmas.{counted_read, kept_prepared, moved_read, prepared_set, stocked_set}
use Rattle.rbd_pages.proofs.sheaves.Sheaves.prepare_page.Goals as goal

pub prepare_page-requires-clause-counted : goal.prepare_page-requires-clause-counted
prepare_page-requires-clause-counted c =
    let is = ap (λ (x : Stock). x.sheaves) c.self.view_is in
    let below = within_items c.self.inside.sheaves.items c.args.self.now.sheaves c.args.index is (let alone = c.requires.alone in omega arith) in
    counted_read c.self.inside.sheaves.items c.self.inside.arena c.args.index _ c.self.invariant.0 below c.index_mut.ensures.value

pub prepare_page-requires-clause-named : goal.prepare_page-requires-clause-named
prepare_page-requires-clause-named c =
    let is = ap (λ (x : Stock). x.sheaves) c.self.view_is in
    let below = within_items c.self.inside.sheaves.items c.args.self.now.sheaves c.args.index is (let alone = c.requires.alone in omega arith) in
    let alone = ap (λ sheaves. count_at sheaves c.args.index) is in
    let one = c.requires.alone in
    let read = count_read c.self.inside.sheaves.items c.args.index _ below c.index_mut.ensures.value in
    omega arith

pub invariant_of-self : goal.invariant_of-self
invariant_of-self c =
    let is = ap (λ (x : Stock). x.sheaves) c.self.view_is in
    let below = within_items c.self.inside.sheaves.items c.args.self.now.sheaves c.args.index is (let alone = c.requires.alone in omega arith) in
    let alone = ap (λ sheaves. count_at sheaves c.args.index) is in
    let one = c.requires.alone in
    let count = c.prepare_page.ensures.count in
    let read = count_read c.self.inside.sheaves.items c.args.index _ below c.index_mut.ensures.value in
    let named : 0 < c.prepare_page.new.self.count = omega arith in (
      stocked_set c.self.inside.sheaves.items c.self.inside.arena c.prepare_page.new.arena c.args.index c.prepare_page.new.self c.self.invariant.0 below
          (moved_read c.self.inside.sheaves.items c.self.inside.arena c.prepare_page.new.arena c.args.index _ c.prepare_page.new.self below
          c.index_mut.ensures.value c.prepare_page.ensures.prepared.moved)
          (λ none. absurd (let f : ⊥ = omega arith in f)),
      knows_changed c.self.inside.sheaves.items c.self.inside.free.items _ c.args.index c.prepare_page.new.self c.self.invariant.1 below (omega arith) named,
    )

pub returns-clause-changed : goal.returns-clause-changed
returns-clause-changed c =
    let is = ap (λ (x : Stock). x.sheaves) c.self.view_is in
    let below = within_items c.self.inside.sheaves.items c.args.self.now.sheaves c.args.index is (let alone = c.requires.alone in omega arith) in
    changed_at c.self.inside.sheaves.items c.args.self.now.sheaves c.args.index c.prepare_page.new.self is below

pub returns-clause-prepared : goal.returns-clause-prepared
returns-clause-prepared c =
    let is = ap (λ (x : Stock). x.sheaves) c.self.view_is in
    let below = within_items c.self.inside.sheaves.items c.args.self.now.sheaves c.args.index is (let alone = c.requires.alone in omega arith) in
    subst (λ (x : Stock). Prepared x.sheets (bytes_at x.sheaves c.args.index) c.prepare_page.new.arena (bytes_at (set c.self.inside.sheaves.items c.args.index c.prepare_page.new.self) c.args.index)) c.self.view_is
    (prepared_set c.self.inside.sheaves.items c.self.inside.arena c.prepare_page.new.arena c.args.index _ c.prepare_page.new.self below
    c.index_mut.ensures.value c.prepare_page.ensures.prepared)

pub returns-clause-others : goal.returns-clause-others
returns-clause-others c = λ s apart.
    let is = ap (λ (x : Stock). x.sheaves) c.self.view_is in
    let below = within_items c.self.inside.sheaves.items c.args.self.now.sheaves c.args.index is (let alone = c.requires.alone in omega arith) in
    subst (λ (x : Stock). IsSame x (record { sheaves = set c.self.inside.sheaves.items c.args.index c.prepare_page.new.self; sheets = c.prepare_page.new.arena }) s) c.self.view_is
    (kept_prepared c.self.inside.sheaves.items c.self.inside.arena c.prepare_page.new.arena c.args.index _ c.prepare_page.new.self c.self.invariant.0 below
    c.index_mut.ensures.value c.prepare_page.ensures.prepared s apart)
