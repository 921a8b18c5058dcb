use Rattle.std.proofs.Common.{◌≡◌, ◌+◌, [], ◌∷◌, ◌++◌, map, sym, ap, ◌∙◌, arith}
use Rattle.std.specs.List.{range_with_len}
use Rattle.std.proofs.lemmas.List.FromFn.{map-range_with_len_more}
use Rattle.rbd_generate.specs.Generated.{client_of}
use Rattle.rbd_generate.proofs.script.clients.Goals as goal

pub loop-before-preserved : goal.loop-before-preserved
loop-before-preserved c =
    let before = c.loop-before.before in
    let at : 1 + before ≡ before + 1 = omega arith in
    c.in_ok-push.ensures.ok
    ∙ ap (λ xs. xs ++ c.in_ok-client.field-0 ∷ []) c.loop-before.invariant
    ∙ ap (λ x. map client_of (range_with_len 1 before) ++ x ∷ []) c.in_ok-client.ensures
    ∙ sym (map-range_with_len_more client_of 1 before (before + 1) at)
