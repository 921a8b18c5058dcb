use Rattle.std.proofs.Common.{◌≡◌, None, false, sym, ◌∙◌, subst}
use Rattle.rbd_schedule.proofs.Ascending.{script_in_order}
use Rattle.rbd_lab.specs.Script.{unbuilt_line}
use Rattle.rbd_lab.proofs.Built.{playable}
use Rattle.rbd_lab.proofs.script.judged.Goals as goal

pub returns-in-None-clause-built : goal.returns-in-None-clause-built
returns-in-None-clause-built c =
    let order = script_in_order false c.args.bytes.now c.in_ok-script.script c.in_ok-script.ensures.script in
    playable c.in_ok-script.script order.sessions order.declared
    (subst (λ lines. unbuilt_line lines ≡ None) c.as_slice.ensures (sym c.first_unbuilt.ensures ∙ c.in-None.is))

pub returns-in-None-clause-in_order : goal.returns-in-None-clause-in_order
returns-in-None-clause-in_order c = (script_in_order false c.args.bytes.now c.in_ok-script.script c.in_ok-script.ensures.script).lines
