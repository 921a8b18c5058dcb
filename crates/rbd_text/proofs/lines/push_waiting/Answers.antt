use Rattle.std.proofs.Common.{◌++◌, append_assoc, ap, ◌∙◌}
use Rattle.rbd_text.specs.Names.{instance_text}
use Rattle.rbd_text.proofs.lines.push_waiting.Goals as goal

pub returns : goal.returns
returns c =
    rw c.in-Some.is
    (c.in_ok-push_instance.ensures ∙ ap (λ text. text ++ instance_text c.args.sessions.now c.in-Some.holder) c.in_ok-extend_from_slice-2.ensures.items
    ∙ append_assoc c.args.text.now.items _ _)
