use Rattle.rbd_client.specs.Seen.{as_is}
use Rattle.rbd_replies.proofs.LinesBelow.{poll_steps}
use Rattle.rbd_replies.proofs.laws.polls_are_steps_of_lines.Goals as goal

pub returns : goal.returns
returns c = λ w session slot line sound at_line. poll_steps as_is w sound session slot line at_line
