use Rattle.std.proofs.Common.{◌++◌, append_assoc, ap, ◌∙◌}
use Rattle.rbd_text.specs.Numbers.{hexadecimal}
use Rattle.rbd_text.proofs.objects.push_header.Goals as goal

pub returns : goal.returns
returns c = c.in_ok-push_image.ensures ∙ ap (λ text. text ++ hexadecimal c.args.image) c.in_ok-extend_from_slice.ensures.items ∙ append_assoc c.args.text.now.items _ _
