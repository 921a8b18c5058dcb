use Rattle.std.proofs.Common.{List, ℕ, ◌++◌, map, sym, ap, ◌∙◌}
use Rattle.std.specs.Cmp.Lexicographic.{nat_list_cmp_total}
use Rattle.std.specs.FinMap as finmap
use Rattle.rbd_registry.specs.Directory.{Listing}
use Rattle.rbd_values.proofs.Ordered.{entries_in_order}
use Rattle.rbd_registry.proofs.directory.Directory.list.Goals as goal

pub loop-name-init : goal.loop-name-init
loop-name-init c =
    let es = c.self.inside.names.entries in
    ap (λ (ns : List (List ℕ)). ns ++ c.into_iter-name-iterator.result) c.new-names.ensures
    ∙ c.into_iter-name-iterator.ensures.into_iter_gives
    ∙ c.keys-name-items.ensures.rest
    ∙ sym (ap (map (λ (e : List ℕ × ℕ). e.0)) (entries_in_order nat_list_cmp_total es c.keys-name-items.ensures.ordered))
    ∙ ap (λ (d : Listing). finmap.keys d.names) c.self.view_is
