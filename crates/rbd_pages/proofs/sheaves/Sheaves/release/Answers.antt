use Rattle.std.proofs.Common.{◌<◌, ap, refl, set, sym, subst, arith}
use Rattle.rbd_pages.specs.Paging.{Moved}
use Rattle.rbd_pages.specs.Places.{NoneTaken}
use Rattle.rbd_pages.specs.Sheaves.{IsSame, Stock}
use Rattle.rbd_pages.specs.Sheets.{Sheet, count_at}
use Rattle.rbd_pages.proofs.PlacesLemmas.{knows_changed, knows_left, knows_room, room_for_one}
use Rattle.rbd_pages.proofs.SheetLemmas.{changed_at, within_items}
use Rattle.rbd_pages.proofs.SheavesLemmas.{counted_read, kept_freed, moved_read, pages_read, stocked_count, stocked_set}
use Rattle.rbd_pages.proofs.GrownLemmas.{none_set}
use Rattle.rbd_pages.proofs.sheaves.Sheaves.release.Goals as goal

pub invariant_of-self : goal.invariant_of-self
invariant_of-self c =
    let is = ap (λ (x : Stock). x.sheaves) c.self.view_is in
    let below = within_items c.self.inside.sheaves.items c.args.self.now.sheaves c.args.index is c.requires in
    let count = ap (λ (s : Sheet). s.count) c.set_count.ensures in
    let more = c.if-count-gt1.true in
    let named : 0 < count_at c.self.inside.sheaves.items c.args.index = rw is c.requires in (
      stocked_count c.self.inside.sheaves.items c.self.inside.arena c.args.index c.set_count.new.self c.self.invariant.0 below
          (pages_read c.self.inside.sheaves.items c.args.index _ c.set_count.new.self below c.index_mut-sheaf.ensures.value (ap (λ (s : Sheet). s.bytes) c.set_count.ensures))
          (omega arith),
      knows_changed c.self.inside.sheaves.items c.self.inside.free.items _ c.args.index c.set_count.new.self c.self.invariant.1 below named (omega arith),
    )

pub push_reserved-requires : goal.push_reserved-requires
push_reserved-requires c =
    let is = ap (λ (x : Stock). x.sheaves) c.self.view_is in
    let long = c.self.inside.free.ok.0 in
    let room = room_for_one c.self.inside.sheaves.items c.self.inside.free.items _ c.args.index c.self.invariant.1
    (within_items c.self.inside.sheaves.items c.args.self.now.sheaves c.args.index is c.requires) (rw is c.requires) in
    omega arith

pub returns-then-count-gt1-clause-changed : goal.returns-then-count-gt1-clause-changed
returns-then-count-gt1-clause-changed c =
    let is = ap (λ (x : Stock). x.sheaves) c.self.view_is in
    let below = within_items c.self.inside.sheaves.items c.args.self.now.sheaves c.args.index is c.requires in
    changed_at c.self.inside.sheaves.items c.args.self.now.sheaves c.args.index c.set_count.new.self is below

pub free-requires : goal.free-requires
free-requires c =
    let is = ap (λ (x : Stock). x.sheaves) c.self.view_is in
    let below = within_items c.self.inside.sheaves.items c.args.self.now.sheaves c.args.index is c.requires in
    counted_read c.self.inside.sheaves.items c.self.inside.arena c.args.index _ c.self.invariant.0 below c.index_mut-sheaf.ensures.value

pub invariant_of-self-2 : goal.invariant_of-self-2
invariant_of-self-2 c =
    let is = ap (λ (x : Stock). x.sheaves) c.self.view_is in
    let below = within_items c.self.inside.sheaves.items c.args.self.now.sheaves c.args.index is c.requires in
    let bytes = ap (λ (s : Sheet). s.bytes) c.free.ensures.sheaf in
    let named : 0 < count_at c.self.inside.sheaves.items c.args.index = rw is c.requires in (
      stocked_set c.self.inside.sheaves.items c.self.inside.arena c.free.new.arena c.args.index c.free.new.self c.self.invariant.0 below
          (moved_read c.self.inside.sheaves.items c.self.inside.arena c.free.new.arena c.args.index _ c.free.new.self below c.index_mut-sheaf.ensures.value
          (subst (Moved c.self.inside.arena _ c.free.new.arena) (sym bytes) c.free.ensures.moved)) (λ none. bytes),
      knows_room _ _ _ _
          (knows_left c.self.inside.sheaves.items c.self.inside.free.items c.push_reserved.new.self.items _ c.args.index c.free.new.self c.self.invariant.1 below named
          (ap (λ (s : Sheet). s.count) c.free.ensures.sheaf) c.push_reserved.ensures.items)
          (let same = c.push_reserved.ensures.capacity in omega arith),
    )

pub returns-clause-changed : goal.returns-clause-changed
returns-clause-changed c =
    let is = ap (λ (x : Stock). x.sheaves) c.self.view_is in
    let below = within_items c.self.inside.sheaves.items c.args.self.now.sheaves c.args.index is c.requires in
    changed_at c.self.inside.sheaves.items c.args.self.now.sheaves c.args.index c.free.new.self is below

pub returns-clause-kept : goal.returns-clause-kept
returns-clause-kept c = λ s some.
    let is = ap (λ (x : Stock). x.sheaves) c.self.view_is in
    let below = within_items c.self.inside.sheaves.items c.args.self.now.sheaves c.args.index is c.requires in
    let bytes = ap (λ (s : Sheet). s.bytes) c.free.ensures.sheaf in
    subst (λ (x : Stock). IsSame x (record { sheaves = set c.self.inside.sheaves.items c.args.index c.free.new.self; sheets = c.free.new.arena }) s) c.self.view_is
    (kept_freed c.self.inside.sheaves.items c.self.inside.arena c.free.new.arena c.args.index c.free.new.self
    (stocked_set c.self.inside.sheaves.items c.self.inside.arena c.free.new.arena c.args.index c.free.new.self c.self.invariant.0 below
    (moved_read c.self.inside.sheaves.items c.self.inside.arena c.free.new.arena c.args.index _ c.free.new.self below c.index_mut-sheaf.ensures.value
    (subst (Moved c.self.inside.arena _ c.free.new.arena) (sym bytes) c.free.ensures.moved)) (λ none. bytes)) below
    (ap (λ (t : Sheet). t.count) c.free.ensures.sheaf) c.free.ensures.kept s some)

pub returns-then-count-gt1-clause-places : goal.returns-then-count-gt1-clause-places
returns-then-count-gt1-clause-places c =
    let is = ap (λ (x : Stock). x.sheaves) c.self.view_is in
    let below = within_items c.self.inside.sheaves.items c.args.self.now.sheaves c.args.index is c.requires in
    let named : 0 < count_at c.self.inside.sheaves.items c.args.index = rw is c.requires in
    subst (λ (x : Stock). NoneTaken x (record { sheaves = set c.self.inside.sheaves.items c.args.index c.set_count.new.self; sheets = c.self.inside.arena })) c.self.view_is
    (none_set c.self.inside.sheaves.items c.self.inside.arena c.self.inside.arena c.args.index c.set_count.new.self below (omega arith) refl (omega arith))

pub returns-clause-places : goal.returns-clause-places
returns-clause-places c =
    let is = ap (λ (x : Stock). x.sheaves) c.self.view_is in
    let below = within_items c.self.inside.sheaves.items c.args.self.now.sheaves c.args.index is c.requires in
    let none = ap (λ (s : Sheet). s.count) c.free.ensures.sheaf in
    subst (λ (x : Stock). NoneTaken x (record { sheaves = set c.self.inside.sheaves.items c.args.index c.free.new.self; sheets = c.free.new.arena })) c.self.view_is
    (none_set c.self.inside.sheaves.items c.self.inside.arena c.free.new.arena c.args.index c.free.new.self below (omega arith)
    c.free.ensures.places c.free.ensures.used)
