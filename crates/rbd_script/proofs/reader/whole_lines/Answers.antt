use Rattle.std.proofs.Common.{length, ap, ◌∙◌, arith}
use Rattle.std.proofs.lemmas.Result.{err_from_is_err_and}
use Rattle.rbd_script.specs.Reading.{with_lines}
use Rattle.rbd_script.specs.Token.{text_lines, without_last}
use Rattle.rbd_script.proofs.LineLemmas.{fault_of_lines, lines_on, no_lines, whole_lines}
use Rattle.rbd_script.proofs.reader.whole_lines.Goals as goal

pub returns-in_err-take_line-clause-all_fault : goal.returns-in_err-take_line-clause-all_fault
returns-in_err-take_line-clause-all_fault c =
    let p = err_from_is_err_and c.from_residual.result c.from_residual.ensures.1 in
    rw (p.1, p.2) (fault_of_lines c.args.threads c.loop-line.number c.loop-line.script c.take_line.new.self c.in-Some.line.now (text_lines c.in-Some.behind.now) _ _
    (c.loop-line.invariant.all ∙ ap (with_lines c.args.threads c.loop-line.number c.loop-line.script) c.in-Some.ensures.found)
    c.in_err-take_line.ensures.script)

pub returns-in_err-take_line-clause-whole_fault : goal.returns-in_err-take_line-clause-whole_fault
returns-in_err-take_line-clause-whole_fault c =
    let p = err_from_is_err_and c.from_residual.result c.from_residual.ensures.1 in
    let whole = whole_lines c.in-Some.line.now c.loop-line.rest.now c.in-Some.behind.now c.in-Some.ensures.found in
    rw (p.1, p.2) (fault_of_lines c.args.threads c.loop-line.number c.loop-line.script c.take_line.new.self c.in-Some.line.now (without_last (text_lines c.in-Some.behind.now)) _ _
    (c.loop-line.invariant.whole ∙ ap (with_lines c.args.threads c.loop-line.number c.loop-line.script) whole)
    c.in_err-take_line.ensures.script)

pub loop-line-preserved : goal.loop-line-preserved
loop-line-preserved c =
    let line = c.in-Some.line.now in
    let behind = c.in-Some.behind.now in
    let all = c.in-Some.ensures.found in
    let whole = whole_lines line c.loop-line.rest.now behind all in
    let added = c.in_ok-take_line.ensures.script in
    record {
      all = c.loop-line.invariant.all ∙ ap (with_lines c.args.threads c.loop-line.number c.loop-line.script) all
          ∙ lines_on c.args.threads c.loop-line.number c.loop-line.script c.take_line.new.self line (text_lines behind) added;
      whole = c.loop-line.invariant.whole ∙ ap (with_lines c.args.threads c.loop-line.number c.loop-line.script) whole
          ∙ lines_on c.args.threads c.loop-line.number c.loop-line.script c.take_line.new.self line (without_last (text_lines behind)) added;
      number = omega (arith, c.loop-line.invariant.number, ap length whole);
      lines = omega (arith, c.in-Some.ensures.shorter);
      few = c.in_ok-take_line.ensures.few;
    }

pub returns-clause-whole : goal.returns-clause-whole
returns-clause-whole c =
    c.loop-line.invariant.whole
    ∙ ap (λ ls. with_lines c.args.threads c.loop-line.number c.loop-line.script (without_last ls)) c.in_default.ensures.none
    ∙ no_lines c.args.threads c.loop-line.number c.loop-line.script
