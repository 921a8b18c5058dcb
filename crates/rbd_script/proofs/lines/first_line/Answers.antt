use Rattle.std.proofs.Common.{length, take, drop, refl, sym, ap, ◌∙◌, ◌∷◌, ◌-◌, arith}
use Rattle.rbd_script.specs.Token.{text_lines}
use Rattle.rbd_script.proofs.LineLemmas.{one_line, more_lines}
use Rattle.rbd_script.proofs.lines.first_line.Goals as goal

pub returns-in-empty-clause-none : goal.returns-in-empty-clause-none
returns-in-empty-clause-none c =
    one_line c.args.text.now c.place_of.result c.place_of.ensures.place (rw (← c.split_at.ensures.back) (omega arith))

pub returns-in-len1-up-clause-found : goal.returns-in-len1-up-clause-found
returns-in-len1-up-clause-found c =
    more_lines c.args.text.now c.split_at.result.1.now _ c.place_of.result c.place_of.ensures.place c.split_at.ensures.back (omega arith) refl
    ∙ ap (λ l. l ∷ text_lines (take (length c.split_at.result.1.now - 1) (drop 1 c.split_at.result.1.now))) (sym c.split_at.ensures.front)
