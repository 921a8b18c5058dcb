use Rattle.std.proofs.Common.{◌≡◌, length, refl, sym, subst, arith}
use Rattle.std.specs.Vec.{vec_capacity}
use Rattle.rbd_pages.specs.Places.{KeepsMost, KnowsFree}
use Rattle.rbd_pages.specs.Sheets.{in_use}
use Rattle.rbd_pages.proofs.PlacesLemmas.{knows_more}
use Rattle.rbd_pages.proofs.SheetLemmas.{changed_grown, none_past, sheet_grown}
use Rattle.rbd_pages.proofs.GrownLemmas.{most_push, most_same}
use Rattle.rbd_pages.proofs.arena.Arena.grow.Goals as goal

pub invariant_of-self-2 : goal.invariant_of-self-2
invariant_of-self-2 c =
    let long = c.self.inside.pages.ok.0 in
    let room = c.in_ok-reserve.ensures.ok in
    let index = c.len-index.ensures in
    let few = c.if-index.false in
    subst (λ free. KnowsFree c.push_reserved.new.self.items free (vec_capacity c.reserve.new.self)) (sym c.reserve.ensures.items)
    (knows_more c.self.inside.pages.items c.push_reserved.new.self.items c.self.inside.free.items _ (vec_capacity c.reserve.new.self) c.args.page c.self.invariant
    (rw (c.push_reserved.ensures.items, c.reserve-2.ensures.items) refl) c.requires.page (omega (arith, long, index, few)) (omega (arith, long, index, room)))

pub returns-clause-free : goal.returns-clause-free
returns-clause-free c = none_past c.self.inside.pages.items c.args.self.now _ c.self.view_is (omega arith)

pub returns-clause-page : goal.returns-clause-page
returns-clause-page c =
    sheet_grown c.self.inside.pages.items c.push_reserved.new.self.items c.args.page c.len-index.result (omega arith)
    (rw (c.push_reserved.ensures.items, c.reserve-2.ensures.items) refl)

pub returns-clause-changed : goal.returns-clause-changed
returns-clause-changed c =
    changed_grown c.self.inside.pages.items c.args.self.now _ c.args.page _ c.self.view_is (omega arith)
    (rw (c.push_reserved.ensures.items, c.reserve-2.ensures.items) refl)

pub returns-then-index : goal.returns-then-index
returns-then-index c = record { free = tt; changed = tt; page = tt; err = refl; most = most_same c.args.self.now }

pub returns-clause-most : goal.returns-clause-most
returns-clause-most c =
    subst (λ sheets. KeepsMost sheets c.push_reserved.new.self.items) c.self.view_is
    (most_push c.self.inside.pages.items c.push_reserved.new.self.items c.args.page
    (rw (c.push_reserved.ensures.items, c.reserve-2.ensures.items) refl) c.requires.page
    (subst (λ sheets. in_use sheets ≡ length sheets) (sym c.self.view_is) c.requires.full))
