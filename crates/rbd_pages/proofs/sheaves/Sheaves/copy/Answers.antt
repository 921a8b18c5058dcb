use Rattle.std.proofs.Common.{◌∙◌, ap}
use Rattle.rbd_pages.specs.Sheaves.{Stock}
use Rattle.rbd_pages.proofs.SheetLemmas.{within_items}
use Rattle.rbd_pages.proofs.SheavesLemmas.{counted_read}
use Rattle.rbd_pages.proofs.sheaves.Sheaves.copy.Goals as goal

pub copied-requires : goal.copied-requires
copied-requires c =
    let same = c.in_ok-make_room.ensures.items in
    let is = same ∙ ap (λ (x : Stock). x.sheaves) c.self.view_is in
    let below = within_items c.make_room.new.sheaves.items c.args.self.now.sheaves c.args.index is c.requires in
    counted_read c.make_room.new.sheaves.items c.self.inside.arena c.args.index _
    (rw same c.self.invariant.0) below c.index.ensures
