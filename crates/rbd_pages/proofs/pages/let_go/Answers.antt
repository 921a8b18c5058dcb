use Rattle.std.proofs.Common.{◌+◌, ◌∙◌, refl, drop, arith}
use Rattle.rbd_pages.proofs.PagingLemmas.{moved_refl, moved_trans, moved_first, used_pop, kept_pop, counted_moved, counted_first}
use Rattle.rbd_pages.proofs.pages.let_go.Goals as goal

pub loop-page-init : goal.loop-page-init
loop-page-init c = record { moved = moved_refl c.args.arena.now c.args.pages.now; kept = λ page some. refl; used = omega arith; places = refl }

pub release-requires : goal.release-requires
release-requires c =
    counted_first c.loop-page.arena c.args.pages.now c.loop-page.page-index c.loop-page-test.true
    (counted_moved _ _ _ _ c.loop-page.invariant.moved c.requires.counted)

pub loop-page-preserved : goal.loop-page-preserved
loop-page-preserved c =
    let was = c.loop-page.invariant in
    let i = c.loop-page.page-index in
    let counted = counted_moved _ _ _ _ was.moved c.requires.counted in
    record {
      moved =
          moved_trans c.args.arena.now c.loop-page.arena c.release.new.self c.args.pages.now (drop i c.args.pages.now) (drop (i + 1) c.args.pages.now) was.moved
          (moved_first c.loop-page.arena c.release.new.self c.args.pages.now i c.loop-page-test.true counted c.release.ensures.changed c.release.ensures.page);
      kept = λ page some.
          let step = kept_pop c.loop-page.arena c.release.new.self _ page c.release.ensures.changed c.release.ensures.page some in
          step.0 ∙ was.kept page step.1;
      used =
          let fewer = used_pop c.loop-page.arena c.release.new.self _ c.release.ensures.changed c.release.ensures.page in
          let before = was.used in omega arith;
      places = c.release.ensures.places ∙ was.places;
    }
