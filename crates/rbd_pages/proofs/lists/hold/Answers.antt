use Rattle.std.proofs.Common.{◌≡◌, ◌+◌, ◌++◌, ◌∷◌, [], take, ap, sym, subst, get_or, rules, arith}
use Rattle.std.proofs.lemmas.List.{take_more}
use Rattle.rbd_pages.specs.Paging.{Moved}
use Rattle.rbd_pages.specs.Sheets.{count_at, in_use}
use Rattle.rbd_pages.proofs.PagingLemmas.{moved_trans, moved_hold, counted_shared}
use Rattle.rbd_pages.proofs.GrownLemmas.{none_trans}
use Rattle.rbd_pages.proofs.SheavesLemmas.{same_trans}
use Rattle.rbd_pages.proofs.ListsLemmas.{held_same}
use Rattle.rbd_pages.proofs.lists.hold.Goals as goal

pub hold-requires : goal.hold-requires
hold-requires c =
    counted_shared c.args.sheaves.now.sheaves c.loop-k.sheaves.sheaves c.args.list.now (take c.loop-k.k c.args.list.now) c.loop-k.k
    c.loop-k.invariant.moved c.requires.counted c.loop-k-test.true

pub loop-k-preserved : goal.loop-k-preserved
loop-k-preserved c =
    let was = c.loop-k.invariant in
    let held = take c.loop-k.k c.args.list.now in
    let p = get_or c.args.list.now c.loop-k.k 0 in
    let more : count_at c.hold.new.self.sheaves p ≡ count_at c.loop-k.sheaves.sheaves p + 1 = search rules in
    record {
      moved =
          subst (Moved c.args.sheaves.now.sheaves [] c.hold.new.self.sheaves) (sym (take_more c.args.list.now c.loop-k.k 0 c.loop-k-test.true))
          (moved_trans c.args.sheaves.now.sheaves c.loop-k.sheaves.sheaves c.hold.new.self.sheaves [] held (held ++ p ∷ []) was.moved
          (moved_hold c.loop-k.sheaves.sheaves c.hold.new.self.sheaves held p c.in-Ok.ensures.changed more c.in-Ok.ensures.pages));
      all = λ s.
          same_trans c.args.sheaves.now c.loop-k.sheaves c.hold.new.self s (was.all s)
          (held_same c.loop-k.sheaves c.hold.new.self p s c.in-Ok.ensures.changed c.in-Ok.ensures.pages c.in-Ok.ensures.sheets);
      used = let before = was.used in let same = ap in_use c.in-Ok.ensures.sheets in omega arith;
      places = none_trans c.args.sheaves.now c.loop-k.sheaves c.hold.new.self was.places c.in-Ok.ensures.places;
    }
