use Rattle.std.proofs.Common.{◌≡◌, ◌+◌, [], ◌∷◌, ◌++◌, append_assoc, map, sym, ap, ◌∙◌, arith}
use Rattle.std.specs.List.{range_with_len}
use Rattle.std.proofs.lemmas.List.FromFn.{map-range_with_len_more}
use Rattle.rbd_generate.specs.Generated.{command_line}
use Rattle.rbd_generate.proofs.script.push_commands.Goals as goal

pub loop-at-preserved : goal.loop-at-preserved
loop-at-preserved c =
    let at = c.loop-at.at in
    let next : 0 + at ≡ at = omega arith in
    c.in_ok-push.ensures.ok
    ∙ ap (λ xs. xs ++ c.in_ok-command_line.field-0 ∷ []) c.loop-at.invariant
    ∙ append_assoc c.args.lines.now (map (command_line c.args.load.now) (range_with_len 0 at)) (c.in_ok-command_line.field-0 ∷ [])
    ∙ ap (λ x. c.args.lines.now ++ (map (command_line c.args.load.now) (range_with_len 0 at) ++ x ∷ [])) c.in_ok-command_line.ensures
    ∙ ap (λ xs. c.args.lines.now ++ xs) (sym (map-range_with_len_more (command_line c.args.load.now) 0 at at next))
