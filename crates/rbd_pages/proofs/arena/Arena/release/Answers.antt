use Rattle.std.proofs.Common.{◌<◌, arith, ap}
use Rattle.rbd_pages.specs.Sheets.{Sheet, count_at}
use Rattle.rbd_pages.proofs.PlacesLemmas.{knows_changed, knows_left, knows_room, room_for_one}
use Rattle.rbd_pages.proofs.SheetLemmas.{changed_at, within_items}
use Rattle.rbd_pages.proofs.arena.Arena.release.Goals as goal

pub invariant_of-self : goal.invariant_of-self
invariant_of-self c =
    let below = within_items c.self.inside.pages.items c.args.self.now c.args.index c.self.view_is c.requires in
    let named : 0 < count_at c.self.inside.pages.items c.args.index = rw c.self.view_is c.requires in
    let count = ap (λ (s : Sheet). s.count) c.set_count.ensures in
    knows_changed c.self.inside.pages.items c.self.inside.free.items _ c.args.index c.set_count.new.self c.self.invariant below named (omega arith)

pub returns-then-count-gt1-clause-changed : goal.returns-then-count-gt1-clause-changed
returns-then-count-gt1-clause-changed c =
    changed_at c.self.inside.pages.items c.args.self.now c.args.index c.set_count.new.self c.self.view_is
    (within_items c.self.inside.pages.items c.args.self.now c.args.index c.self.view_is c.requires)

pub push_reserved-requires : goal.push_reserved-requires
push_reserved-requires c =
    let long = c.self.inside.free.ok.0 in
    let room = room_for_one c.self.inside.pages.items c.self.inside.free.items _ c.args.index c.self.invariant
    (within_items c.self.inside.pages.items c.args.self.now c.args.index c.self.view_is c.requires) (rw c.self.view_is c.requires) in
    omega arith

pub invariant_of-self-2 : goal.invariant_of-self-2
invariant_of-self-2 c =
    let below = within_items c.self.inside.pages.items c.args.self.now c.args.index c.self.view_is c.requires in
    let named : 0 < count_at c.self.inside.pages.items c.args.index = rw c.self.view_is c.requires in
    let count = ap (λ (s : Sheet). s.count) c.free.ensures in
    knows_room _ _ _ _
    (knows_left c.self.inside.pages.items c.self.inside.free.items c.push_reserved.new.self.items _ c.args.index c.free.new.self c.self.invariant below named count c.push_reserved.ensures.items)
    (let same = c.push_reserved.ensures.capacity in omega arith)

pub returns-clause-changed : goal.returns-clause-changed
returns-clause-changed c =
    changed_at c.self.inside.pages.items c.args.self.now c.args.index c.free.new.self c.self.view_is
    (within_items c.self.inside.pages.items c.args.self.now c.args.index c.self.view_is c.requires)
