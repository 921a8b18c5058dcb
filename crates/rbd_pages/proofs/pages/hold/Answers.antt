use Rattle.std.proofs.Common.{◌≡◌, ◌+◌, ◌++◌, ◌∷◌, ◌∙◌, [], take, sym, subst, get_or, rules, arith}
use Rattle.std.proofs.lemmas.List.{take_more}
use Rattle.rbd_pages.specs.Sheets.{count_at}
use Rattle.rbd_pages.specs.Paging.{Moved}
use Rattle.rbd_pages.proofs.PagingLemmas.{moved_trans, moved_hold, used_hold, counted_shared}
use Rattle.rbd_pages.proofs.pages.hold.Goals as goal

pub hold-requires : goal.hold-requires
hold-requires c =
    counted_shared c.args.arena.now c.loop-k.arena c.args.pages.now (take c.loop-k.k c.args.pages.now) c.loop-k.k
    c.loop-k.invariant.moved c.requires.counted c.loop-k-test.true

pub loop-k-preserved : goal.loop-k-preserved
loop-k-preserved c =
    let was = c.loop-k.invariant in
    let held = take c.loop-k.k c.args.pages.now in
    let p = get_or c.args.pages.now c.loop-k.k 0 in
    let some =
    counted_shared c.args.arena.now c.loop-k.arena c.args.pages.now held c.loop-k.k was.moved c.requires.counted c.loop-k-test.true in
    let more : count_at c.hold.new.self p ≡ count_at c.loop-k.arena p + 1 = search rules in
    let before = was.used in
    let now = used_hold c.loop-k.arena c.hold.new.self p c.in-Ok.ensures.changed some more in
    record {
      moved =
          subst (Moved c.args.arena.now [] c.hold.new.self) (sym (take_more c.args.pages.now c.loop-k.k 0 c.loop-k-test.true))
          (moved_trans c.args.arena.now c.loop-k.arena c.hold.new.self [] held (held ++ p ∷ []) was.moved
          (moved_hold c.loop-k.arena c.hold.new.self held p c.in-Ok.ensures.changed more c.in-Ok.ensures.bytes));
      used = omega arith;
      places = c.in-Ok.ensures.places ∙ was.places;
    }
