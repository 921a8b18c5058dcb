use Rattle.std.proofs.Common.{◌≤◌, ◌+◌, ◌*◌, length, Fits, w64, rules, refl, sym, ap, ◌∙◌, subst, arith}
use Rattle.std.proofs.lemmas.List.{take_all}
use Rattle.rbd_schedule.specs.Given.{commands_of}
use Rattle.rbd_schedule.proofs.Lines.{count_more, given_few}
use Rattle.rbd_schedule.proofs.script.closing_rounds.Goals as goal

pub loop-line-init : goal.loop-line-init
loop-line-init c = record { counted = refl; few = omega arith }

one_at_most : (c : goal.After-given-commands) → c.given-commands.result ≤ 1
one_at_most c = subst (λ n. n ≤ 1) (sym c.given-commands.ensures) (given_few 0 c.line-item.result.said)

pub overflow_add-commands : goal.overflow_add-commands
overflow_add-commands c =
    let within : Fits w64 (length c.args.lines.now) = search rules in
    record { fits = omega (arith, within.fits, c.loop-line.invariant.few, one_at_most c, c.loop-line-test.true) }

pub loop-line-preserved : goal.loop-line-preserved
loop-line-preserved c = record {
  counted = count_more c.args.lines.now c.loop-line.line-index c.line-item.result c.loop-line.commands c.given-commands.result c.loop-line-test.true c.line-item.is
      c.loop-line.invariant.counted c.given-commands.ensures;
  few = omega (arith, c.loop-line.invariant.few, one_at_most c);
}

pub returns : goal.returns
returns c =
    ap (λ n. 1152921504606846976 * (n + 1)) (c.loop-line.invariant.counted
    ∙ ap (λ xs. length (commands_of xs)) (take_all c.loop-line.line-index c.args.lines.now c.loop-line-test.false))
