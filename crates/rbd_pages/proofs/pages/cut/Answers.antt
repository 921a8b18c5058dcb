use Rattle.std.proofs.Common.{◌≡◌, ◌++◌, ◌∷◌, [], ◌∙◌, ap, sym, refl, length, take, option_to_list, arith}
use Rattle.std.proofs.lemmas.List.{take_all, take-append-le, length_push}
use Rattle.rbd_pages.proofs.PagingLemmas.{moved_refl, moved_trans, moved_pop, used_pop, kept_pop, counted_moved, counted_last}
use Rattle.rbd_pages.proofs.pages.cut.Goals as goal

pub loop-pages-init : goal.loop-pages-init
loop-pages-init c = record { moved = moved_refl c.args.arena.now c.args.pages.now.items; front = refl; kept = λ page some. refl; used = omega arith; places = refl }

pub release-requires : goal.release-requires
release-requires c =
    counted_last c.loop-pages.arena c.loop-pages.pages.items c.pop.new.self.items c.unwrap-page.result
    (c.pop.ensures.items ∙ ap (λ last. c.pop.new.self.items ++ option_to_list last) c.unwrap-page.ensures)
    (counted_moved _ _ _ _ c.loop-pages.invariant.moved c.requires.counted)

pub loop-pages-preserved : goal.loop-pages-preserved
loop-pages-preserved c =
    let is : c.loop-pages.pages.items ≡ c.pop.new.self.items ++ c.unwrap-page.result ∷ [] =
    c.pop.ensures.items ∙ ap (λ last. c.pop.new.self.items ++ option_to_list last) c.unwrap-page.ensures in
    let was = c.loop-pages.invariant in
    let counted = counted_moved _ _ _ _ was.moved c.requires.counted in
    let long = ap length is ∙ length_push c.pop.new.self.items c.unwrap-page.result in
    let vec = c.loop-pages.pages.ok.0 in
    record {
      moved =
          moved_trans c.args.arena.now c.loop-pages.arena c.release.new.self c.args.pages.now.items c.loop-pages.pages.items c.pop.new.self.items was.moved
          (moved_pop c.loop-pages.arena c.release.new.self c.loop-pages.pages.items c.pop.new.self.items c.unwrap-page.result is counted
          c.release.ensures.changed c.release.ensures.page);
      front =
          sym (ap (take c.args.len) is ∙ take-append-le c.args.len c.pop.new.self.items (c.unwrap-page.result ∷ []) (omega arith)) ∙ was.front;
      kept = λ page some.
          let step = kept_pop c.loop-pages.arena c.release.new.self c.unwrap-page.result page c.release.ensures.changed c.release.ensures.page some in
          step.0 ∙ was.kept page step.1;
      used =
          let fewer = used_pop c.loop-pages.arena c.release.new.self c.unwrap-page.result c.release.ensures.changed c.release.ensures.page in
          let before = was.used in omega arith;
      places = c.release.ensures.places ∙ was.places;
    }

pub returns-clause-pages : goal.returns-clause-pages
returns-clause-pages c =
    let vec = c.loop-pages.pages.ok.0 in
    sym (take_all c.args.len c.loop-pages.pages.items (omega arith)) ∙ c.loop-pages.invariant.front

pub returns-clause-moved : goal.returns-clause-moved
returns-clause-moved c = c.loop-pages.invariant.moved

pub returns-clause-kept : goal.returns-clause-kept
returns-clause-kept c = c.loop-pages.invariant.kept

pub returns-clause-used : goal.returns-clause-used
returns-clause-used c = c.loop-pages.invariant.used

pub returns-clause-places : goal.returns-clause-places
returns-clause-places c = c.loop-pages.invariant.places
