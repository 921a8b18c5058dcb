use Rattle.std.proofs.Common.{◌≡◌, ◌++◌, ◌∷◌, [], ◌∙◌, ap, sym, refl, length, take, option_to_list, arith}
use Rattle.std.proofs.lemmas.List.{take_all, take-append-le, length_push}
use Rattle.rbd_pages.proofs.PagingLemmas.{moved_refl, moved_trans, moved_pop, kept_pop, counted_moved, counted_last}
use Rattle.rbd_pages.proofs.GrownLemmas.{none_refl, none_trans}
use Rattle.rbd_pages.proofs.SheavesLemmas.{same_refl, same_trans}
use Rattle.rbd_pages.proofs.ListsLemmas.{exchanged_kept}
use Rattle.rbd_pages.proofs.lists.cut.Goals as goal

pub loop-list-init : goal.loop-list-init
loop-list-init c = record {
  moved = moved_refl c.args.sheaves.now.sheaves c.args.list.now.items;
  front = refl;
  kept = λ s some. same_refl c.args.sheaves.now s;
  used = omega arith;
  places = none_refl c.args.sheaves.now;
}

pub release-requires : goal.release-requires
release-requires c =
    counted_last c.loop-list.sheaves.sheaves c.loop-list.list.items c.pop.new.self.items c.unwrap-sheaf.result
    (c.pop.ensures.items ∙ ap (λ last. c.pop.new.self.items ++ option_to_list last) c.unwrap-sheaf.ensures)
    (counted_moved _ _ _ _ c.loop-list.invariant.moved c.requires.counted)

pub loop-list-preserved : goal.loop-list-preserved
loop-list-preserved c =
    let is : c.loop-list.list.items ≡ c.pop.new.self.items ++ c.unwrap-sheaf.result ∷ [] =
    c.pop.ensures.items ∙ ap (λ last. c.pop.new.self.items ++ option_to_list last) c.unwrap-sheaf.ensures in
    let was = c.loop-list.invariant in
    let counted = counted_moved _ _ _ _ was.moved c.requires.counted in
    let long = ap length is ∙ length_push c.pop.new.self.items c.unwrap-sheaf.result in
    let vec = c.loop-list.list.ok.0 in
    record {
      moved =
          moved_trans c.args.sheaves.now.sheaves c.loop-list.sheaves.sheaves c.release.new.self.sheaves c.args.list.now.items c.loop-list.list.items
          c.pop.new.self.items was.moved
          (moved_pop c.loop-list.sheaves.sheaves c.release.new.self.sheaves c.loop-list.list.items c.pop.new.self.items c.unwrap-sheaf.result is counted
          c.release.ensures.changed c.release.ensures.sheaf);
      front =
          sym (ap (take c.args.len) is ∙ take-append-le c.args.len c.pop.new.self.items (c.unwrap-sheaf.result ∷ []) (omega arith)) ∙ was.front;
      kept = λ s some.
          let step =
          kept_pop c.loop-list.sheaves.sheaves c.release.new.self.sheaves c.unwrap-sheaf.result s c.release.ensures.changed c.release.ensures.sheaf some in
          same_trans c.args.sheaves.now c.loop-list.sheaves c.release.new.self s (was.kept s step.1) (c.release.ensures.kept s some);
      used = let fewer = c.release.ensures.used in let before = was.used in omega arith;
      places = none_trans c.args.sheaves.now c.loop-list.sheaves c.release.new.self was.places c.release.ensures.places;
    }

pub returns-clause-list : goal.returns-clause-list
returns-clause-list c =
    let vec = c.loop-list.list.ok.0 in
    sym (take_all c.args.len c.loop-list.list.items (omega arith)) ∙ c.loop-list.invariant.front

pub returns-clause-exchanged : goal.returns-clause-exchanged
returns-clause-exchanged c =
    exchanged_kept c.args.sheaves.now c.loop-list.sheaves c.args.list.now.items c.loop-list.list.items c.loop-list.invariant.moved c.loop-list.invariant.kept

pub returns-clause-kept : goal.returns-clause-kept
returns-clause-kept c = c.loop-list.invariant.kept

pub returns-clause-used : goal.returns-clause-used
returns-clause-used c = c.loop-list.invariant.used

pub returns-clause-places : goal.returns-clause-places
returns-clause-places c = c.loop-list.invariant.places
