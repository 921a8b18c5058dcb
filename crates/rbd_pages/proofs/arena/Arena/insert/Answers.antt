use Rattle.std.proofs.Common.{ap, ◌∙◌, set, sym, subst, arith}
use Rattle.std.proofs.lemmas.List.{get_or-set_same}
use Rattle.rbd_pages.specs.Places.{KeepsMost}
use Rattle.rbd_pages.specs.Sheets.{count_at, free_sheet}
use Rattle.rbd_pages.proofs.PlacesLemmas.{knows_room, knows_taken, place_taken}
use Rattle.rbd_pages.proofs.SheetLemmas.{changed_at}
use Rattle.rbd_pages.proofs.GrownLemmas.{most_set}
use Rattle.rbd_pages.proofs.arena.Arena.insert.Goals as goal

pub index_mut-requires : goal.index_mut-requires
index_mut-requires c =
    let long = c.self.inside.pages.ok.0 in
    let place = place_taken c.self.inside.pages.items c.self.inside.free.items c.pop.new.self.items _ c.in-Some.index c.self.invariant c.in-Some.ensures.items in
    omega (arith, place.0)

pub invariant_of-self-2 : goal.invariant_of-self-2
invariant_of-self-2 c =
    knows_room _ _ _ _
    (knows_taken c.self.inside.pages.items c.self.inside.free.items c.pop.new.self.items _ c.in-Some.index c.args.page c.self.invariant c.in-Some.ensures.items c.requires)
    (let same = c.pop.ensures.capacity in omega arith)

pub returns-clause-free : goal.returns-clause-free
returns-clause-free c =
    ap (λ sheets. count_at sheets c.in-Some.index) (sym c.self.view_is)
    ∙ (place_taken c.self.inside.pages.items c.self.inside.free.items c.pop.new.self.items _ c.in-Some.index c.self.invariant c.in-Some.ensures.items).1

pub returns-clause-changed : goal.returns-clause-changed
returns-clause-changed c =
    changed_at c.self.inside.pages.items c.args.self.now c.in-Some.index c.args.page c.self.view_is
    (place_taken c.self.inside.pages.items c.self.inside.free.items c.pop.new.self.items _ c.in-Some.index c.self.invariant c.in-Some.ensures.items).0

pub returns-clause-page : goal.returns-clause-page
returns-clause-page c =
    get_or-set_same c.self.inside.pages.items c.in-Some.index c.args.page free_sheet
    (place_taken c.self.inside.pages.items c.self.inside.free.items c.pop.new.self.items _ c.in-Some.index c.self.invariant c.in-Some.ensures.items).0

pub returns-clause-most : goal.returns-clause-most
returns-clause-most c =
    subst (λ sheets. KeepsMost sheets (set c.self.inside.pages.items c.in-Some.index c.args.page)) c.self.view_is
    (most_set c.self.inside.pages.items c.in-Some.index c.args.page)
