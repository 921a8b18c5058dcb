use Rattle.std.proofs.Common.{◌++◌, ap, ◌∙◌, arith}
use Rattle.std.proofs.lemmas.List.{take_all}
use Rattle.std.specs.List.{flat_map}
use Rattle.rbd_script.specs.declared.script.Line.{Line}
use Rattle.rbd_text.specs.Progress.{progress_at}
use Rattle.rbd_text.specs.Unanswered.{said_line, unanswered_line}
use Rattle.rbd_text.proofs.Unreplied.{said_all}
use Rattle.rbd_text.proofs.output.push_unreplied.Goals as goal

pub returns : goal.returns
returns c =
    let there = c.loop-line-test.false in
    c.loop-line.invariant
    ∙ ap (λ t. c.args.text.now.items ++ t)
    (ap (flat_map (λ (line : Line). said_line c.as_slice-sessions.result.now line.number line.said (progress_at c.in_ok-all.all line.number))) (take_all c.loop-line.line-index c.as_slice-line-items.result.now (omega (arith, there)))
    ∙ said_all c.as_slice-sessions.result.now c.args.a.now c.args.b.now c.args.history.now c.in_ok-all.all c.in_ok-all.ensures c.as_slice-line-items.result.now
    ∙ ap (λ s. flat_map (unanswered_line s c.args.a.now c.args.b.now c.args.history.now) c.as_slice-line-items.result.now) c.as_slice-sessions.ensures
    ∙ ap (flat_map (unanswered_line c.args.script.now.sessions c.args.a.now c.args.b.now c.args.history.now)) c.as_slice-line-items.ensures)
