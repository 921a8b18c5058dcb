use Rattle.std.proofs.Common.{◌≡◌, sym, ap, ◌∙◌, subst, rules}
use Rattle.rbd_edge.specs.Sink.{held_with, GainsFront}
use Rattle.rbd_lab.specs.Run.{IsToPrint}
use Rattle.rbd_lab.specs.declared.run.Status.TheVariants.{Done, Usage, BadLine, WriteFault}
use Rattle.rbd_lab.proofs.Taken.{Took, done_told, complaint_told, front_told, no_usage, no_write_fault}
use Rattle.rbd_lab.proofs.run.run_script.Goals as goal

pub returns-in-Ok-answer : goal.returns-in-Ok-answer
returns-in-Ok-answer g c = record {
  done = λ done.
      let printed = c.print.ensures.printed (λ failed. let two : Done ≡ WriteFault = sym done ∙ failed in cc) in
      let output = subst (λ st. IsToPrint c.args.mode c.as_slice.result.now st c.in-Ok-answer.text.items) (sym printed.0 ∙ done) c.in-Ok-answer.ensures in
      done_told c.args.mode (g.S.Source.left c.args.source.now) _ (g.K.Sink.held c.args.sink.now) _ c.as_slice.result.now c.in-Ok-answer.text.items
      (subst (λ v. Took v (g.S.Source.left c.args.source.now)) (sym c.as_slice.ensures.value) c.in-Ok.ensures.bytes)
      c.in-Ok.ensures.rest
      output
      (printed.1 ∙ ap (λ t. held_with t (g.K.Sink.held c.args.sink.now)) c.as_slice-in-Ok-answer.ensures.value);
  bad_line = λ bad.
      let printed = c.print.ensures.printed (λ failed. let two : BadLine ≡ WriteFault = sym bad ∙ failed in cc) in
      let complaint = subst (λ st. IsToPrint c.args.mode c.as_slice.result.now st c.in-Ok-answer.text.items) (sym printed.0 ∙ bad) c.in-Ok-answer.ensures in
      complaint_told (g.S.Source.left c.args.source.now) _ (g.K.Sink.held c.args.sink.now) _ c.as_slice.result.now c.in-Ok-answer.text.items
      (subst (λ v. Took v (g.S.Source.left c.args.source.now)) (sym c.as_slice.ensures.value) c.in-Ok.ensures.bytes)
      c.in-Ok.ensures.rest
      complaint
      (printed.1 ∙ ap (λ t. held_with t (g.K.Sink.held c.args.sink.now)) c.as_slice-in-Ok-answer.ensures.value);
  usage = λ used.
      let printed = c.print.ensures.printed (λ failed. let two : Usage ≡ WriteFault = sym used ∙ failed in cc) in
      no_usage c.args.mode c.as_slice.result.now c.in-Ok-answer.text.items c.in-Ok-answer.status c.in-Ok-answer.ensures (sym printed.0 ∙ used);
  read_fault = search rules;
  write_fault = search rules;
  taken = search rules;
  unread = search rules;
  cut = λ failed.
      let front = c.print.ensures.failed (no_write_fault c.args.mode c.as_slice.result.now c.in-Ok-answer.text.items c.in-Ok-answer.status c.in-Ok-answer.ensures) failed in
      front_told c.args.mode (g.S.Source.left c.args.source.now) (g.K.Sink.held c.args.sink.now) _ c.as_slice.result.now c.in-Ok-answer.text.items c.in-Ok-answer.status
      (subst (λ v. Took v (g.S.Source.left c.args.source.now)) (sym c.as_slice.ensures.value) c.in-Ok.ensures.bytes)
      c.in-Ok-answer.ensures
      (subst (λ t. GainsFront t (g.K.Sink.held c.args.sink.now) (g.K.Sink.held c.print.new.sink)) c.as_slice-in-Ok-answer.ensures.value front.0);
  no_memory = search rules;
}
