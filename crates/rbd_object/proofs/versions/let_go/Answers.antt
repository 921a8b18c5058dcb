use Rattle.std.proofs.Common.{ℕ, ◌≡◌, ◌+◌, ◌<◌, ◌≤◌, length, drop, ap, sym, subst, refl, get_or, rules, arith}
use Rattle.std.proofs.lemmas.List.{get_or_read, drop_all}
use Rattle.rbd_pages.specs.Paging.{AreCounted}
use Rattle.rbd_pages.specs.Sheets.{count_at}
use Rattle.rbd_object.specs.Shared.{Stored, dead_named, dead_sheaves}
use Rattle.rbd_pages.proofs.SheavesLemmas.{same_refl, same_trans}
use Rattle.rbd_object.proofs.VersionLemmas.{counted_version, dead_next, named_more, no_version}
use Rattle.rbd_pages.proofs.GrownLemmas.{none_refl, none_trans}
use Rattle.rbd_object.proofs.versions.let_go.Goals as goal

pub loop-i-init : goal.loop-i-init
loop-i-init c = record { named = c.requires; counts = λ s. refl; kept = λ s some. same_refl c.args.sheaves.now s; used = omega arith; places = none_refl c.args.sheaves.now }

pub let_go_of-requires : goal.let_go_of-requires
let_go_of-requires c =
    let below : c.loop-i.i < length c.args.versions.now.items = search rules in
    subst (λ (v : Stored). AreCounted c.loop-i.sheaves.sheaves v.content.sheaves)
    (sym (get_or_read c.args.versions.now.items c.loop-i.i c.index.result.now below c.index.ensures no_version))
    (counted_version c.loop-i.sheaves c.args.versions.now.items c.loop-i.i below c.loop-i.invariant.named)

pub loop-i-preserved : goal.loop-i-preserved
loop-i-preserved c =
    let below : c.loop-i.i < length c.args.versions.now.items = search rules in
    let is = get_or_read c.args.versions.now.items c.loop-i.i c.index.result.now below c.index.ensures no_version in
    let was = c.loop-i.invariant in
    let counts : (s : ℕ) → count_at c.let_go_of.new.sheaves.sheaves s + dead_sheaves c.args.live.now s (get_or c.args.versions.now.items c.loop-i.i no_version)
    ≡ count_at c.loop-i.sheaves.sheaves s =
    λ s. subst (λ (v : Stored). count_at c.let_go_of.new.sheaves.sheaves s + dead_sheaves c.args.live.now s v ≡ count_at c.loop-i.sheaves.sheaves s) is (c.let_go_of.ensures.counts s) in
    record {
      named = named_more c.loop-i.sheaves c.let_go_of.new.sheaves c.args.live.now c.args.versions.now.items c.loop-i.i below was.named counts;
      counts = λ s.
          let now = counts s in
          let before = was.counts s in
          let next = dead_next c.args.live.now c.args.versions.now.items c.loop-i.i s below in
          omega arith;
      kept = λ s some.
          let now = counts s in
          same_trans c.args.sheaves.now c.loop-i.sheaves c.let_go_of.new.sheaves s (was.kept s (omega arith)) (c.let_go_of.ensures.kept s some);
      used = let now = c.let_go_of.ensures.used in let before = was.used in omega arith;
      places = none_trans c.args.sheaves.now c.loop-i.sheaves c.let_go_of.new.sheaves was.places c.let_go_of.ensures.places;
    }

pub returns-clause-counts : goal.returns-clause-counts
returns-clause-counts c = λ s.
    let past : length c.args.versions.now.items ≤ c.loop-i.i = search rules in
    let none : dead_named c.args.live.now s (drop c.loop-i.i c.args.versions.now.items) ≡ 0 =
    ap (dead_named c.args.live.now s) (drop_all c.loop-i.i c.args.versions.now.items past) in
    let all = c.loop-i.invariant.counts s in
    omega arith

pub returns-clause-kept : goal.returns-clause-kept
returns-clause-kept c = c.loop-i.invariant.kept

pub returns-clause-used : goal.returns-clause-used
returns-clause-used c = c.loop-i.invariant.used

pub returns-clause-places : goal.returns-clause-places
returns-clause-places c = c.loop-i.invariant.places
