use Rattle.std.proofs.Common.{◌≡◌, ◌+◌, [], ◌∷◌, ◌++◌, map, sym, ap, ◌∙◌, arith}
use Rattle.std.specs.List.{range_with_len}
use Rattle.std.proofs.lemmas.List.FromFn.{map-range_with_len_more}
use Rattle.rbd_generate.specs.Generated.{create_line}
use Rattle.rbd_generate.proofs.script.creates.Goals as goal

pub loop-before-preserved : goal.loop-before-preserved
loop-before-preserved c =
    let before = c.loop-before.before in
    let at : 1 + before ≡ before + 1 = omega arith in
    c.in_ok-push.ensures.ok
    ∙ ap (λ xs. xs ++ c.in_ok-create_line.field-0 ∷ []) c.loop-before.invariant
    ∙ ap (λ x. map (create_line c.args.load.now) (range_with_len 1 before) ++ x ∷ []) c.in_ok-create_line.ensures
    ∙ sym (map-range_with_len_more (create_line c.args.load.now) 1 before (before + 1) at)
