use Rattle.std.proofs.Common.{◌<◌, ap, refl, set, subst, arith}
use Rattle.rbd_pages.specs.Places.{NoneTaken}
use Rattle.rbd_pages.specs.Sheaves.{Stock}
use Rattle.rbd_pages.specs.Sheets.{count_at}
use Rattle.rbd_pages.proofs.PlacesLemmas.{knows_changed}
use Rattle.rbd_pages.proofs.SheetLemmas.{changed_at, count_read, within_items}
use Rattle.rbd_pages.proofs.SheavesLemmas.{pages_read, stocked_count}
use Rattle.rbd_pages.proofs.GrownLemmas.{none_set}
use Rattle.rbd_pages.proofs.sheaves.Sheaves.hold.Goals as goal

pub invariant_of-self : goal.invariant_of-self
invariant_of-self c =
    let is = ap (λ (x : Stock). x.sheaves) c.self.view_is in
    let below = within_items c.self.inside.sheaves.items c.args.self.now.sheaves c.args.index is c.requires in
    let named : 0 < count_at c.self.inside.sheaves.items c.args.index = rw is c.requires in
    let read = count_read c.self.inside.sheaves.items c.args.index _ below c.index_mut.ensures.value in
    let more = c.hold.ensures.named (omega arith) in (
      stocked_count c.self.inside.sheaves.items c.self.inside.arena c.args.index c.hold.new.self c.self.invariant.0 below
          (pages_read c.self.inside.sheaves.items c.args.index _ c.hold.new.self below c.index_mut.ensures.value c.hold.ensures.bytes)
          (omega arith),
      knows_changed c.self.inside.sheaves.items c.self.inside.free.items _ c.args.index c.hold.new.self c.self.invariant.1 below named (omega arith),
    )

pub returns-clause-changed : goal.returns-clause-changed
returns-clause-changed c =
    let is = ap (λ (x : Stock). x.sheaves) c.self.view_is in
    let below = within_items c.self.inside.sheaves.items c.args.self.now.sheaves c.args.index is c.requires in
    changed_at c.self.inside.sheaves.items c.args.self.now.sheaves c.args.index c.hold.new.self is below

pub returns-clause-places : goal.returns-clause-places
returns-clause-places c =
    let is = ap (λ (x : Stock). x.sheaves) c.self.view_is in
    let below = within_items c.self.inside.sheaves.items c.args.self.now.sheaves c.args.index is c.requires in
    let named : 0 < count_at c.self.inside.sheaves.items c.args.index = rw is c.requires in
    subst (λ (x : Stock). NoneTaken x (record { sheaves = set c.self.inside.sheaves.items c.args.index c.hold.new.self; sheets = c.self.inside.arena })) c.self.view_is
    (none_set c.self.inside.sheaves.items c.self.inside.arena c.self.inside.arena c.args.index c.hold.new.self below (omega arith) refl (omega arith))
