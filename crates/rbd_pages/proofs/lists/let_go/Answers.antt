use Rattle.std.proofs.Common.{◌≤◌, ◌+◌, [], length, drop, subst, rules, arith}
use Rattle.std.proofs.lemmas.List.{drop_all}
use Rattle.rbd_pages.specs.Paging.{Moved}
use Rattle.rbd_pages.proofs.PagingLemmas.{moved_refl, moved_trans, moved_first, kept_pop, counted_moved, counted_first}
use Rattle.rbd_pages.proofs.GrownLemmas.{none_refl, none_trans}
use Rattle.rbd_pages.proofs.SheavesLemmas.{same_refl, same_trans}
use Rattle.rbd_pages.proofs.ListsLemmas.{exchanged_kept}
use Rattle.rbd_pages.proofs.lists.let_go.Goals as goal

pub loop-sheaf-init : goal.loop-sheaf-init
loop-sheaf-init c = record {
  moved = moved_refl c.args.sheaves.now.sheaves c.args.list.now;
  kept = λ s some. same_refl c.args.sheaves.now s;
  used = omega arith;
  places = none_refl c.args.sheaves.now;
}

pub release-requires : goal.release-requires
release-requires c =
    counted_first c.loop-sheaf.sheaves.sheaves c.args.list.now c.loop-sheaf.sheaf-index c.loop-sheaf-test.true
    (counted_moved _ _ _ _ c.loop-sheaf.invariant.moved c.requires.counted)

pub loop-sheaf-preserved : goal.loop-sheaf-preserved
loop-sheaf-preserved c =
    let was = c.loop-sheaf.invariant in
    let i = c.loop-sheaf.sheaf-index in
    let counted = counted_moved _ _ _ _ was.moved c.requires.counted in
    record {
      moved =
          moved_trans c.args.sheaves.now.sheaves c.loop-sheaf.sheaves.sheaves c.release.new.self.sheaves c.args.list.now (drop i c.args.list.now)
          (drop (i + 1) c.args.list.now) was.moved
          (moved_first c.loop-sheaf.sheaves.sheaves c.release.new.self.sheaves c.args.list.now i c.loop-sheaf-test.true counted
          c.release.ensures.changed c.release.ensures.sheaf);
      kept = λ s some.
          let step = kept_pop c.loop-sheaf.sheaves.sheaves c.release.new.self.sheaves _ s c.release.ensures.changed c.release.ensures.sheaf some in
          same_trans c.args.sheaves.now c.loop-sheaf.sheaves c.release.new.self s (was.kept s step.1) (c.release.ensures.kept s some);
      used = let fewer = c.release.ensures.used in let before = was.used in omega arith;
      places = none_trans c.args.sheaves.now c.loop-sheaf.sheaves c.release.new.self was.places c.release.ensures.places;
    }

pub returns-clause-exchanged : goal.returns-clause-exchanged
returns-clause-exchanged c =
    let past : length c.args.list.now ≤ c.loop-sheaf.sheaf-index = search rules in
    exchanged_kept c.args.sheaves.now c.loop-sheaf.sheaves c.args.list.now []
    (subst (Moved c.args.sheaves.now.sheaves c.args.list.now c.loop-sheaf.sheaves.sheaves) (drop_all c.loop-sheaf.sheaf-index c.args.list.now past)
    c.loop-sheaf.invariant.moved) c.loop-sheaf.invariant.kept

pub returns-clause-kept : goal.returns-clause-kept
returns-clause-kept c = c.loop-sheaf.invariant.kept

pub returns-clause-used : goal.returns-clause-used
returns-clause-used c = c.loop-sheaf.invariant.used

pub returns-clause-places : goal.returns-clause-places
returns-clause-places c = c.loop-sheaf.invariant.places
