use Rattle.std.proofs.Common.{◌<◌, arith}
use Rattle.rbd_pages.specs.Sheets.{count_at}
use Rattle.rbd_pages.proofs.PlacesLemmas.{knows_changed}
use Rattle.rbd_pages.proofs.SheetLemmas.{changed_at, within_items, count_read}
use Rattle.rbd_pages.proofs.arena.Arena.hold.Goals as goal

pub invariant_of-self : goal.invariant_of-self
invariant_of-self c =
    let below = within_items c.self.inside.pages.items c.args.self.now c.args.index c.self.view_is c.requires in
    let named : 0 < count_at c.self.inside.pages.items c.args.index = rw c.self.view_is c.requires in
    let read = count_read c.self.inside.pages.items c.args.index _ below c.index_mut.ensures.value in
    let more = c.hold.ensures.named (omega arith) in
    knows_changed c.self.inside.pages.items c.self.inside.free.items _ c.args.index c.hold.new.self c.self.invariant below named (omega arith)

pub returns-clause-changed : goal.returns-clause-changed
returns-clause-changed c =
    changed_at c.self.inside.pages.items c.args.self.now c.args.index c.hold.new.self c.self.view_is
    (within_items c.self.inside.pages.items c.args.self.now c.args.index c.self.view_is c.requires)
