use Rattle.rbd_client.specs.Seen.{as_is}
use Rattle.rbd_replies.proofs.LinesBelow.{below_in_slot, below_open, ended_at_bound}
use Rattle.rbd_replies.proofs.laws.open_lines_stay_below_their_bounds.Goals as goal

pub returns-clause-under_way : goal.returns-clause-under_way
returns-clause-under_way c = λ w sound session slot line asked pieces at_line asks few. below_in_slot as_is w sound line asked pieces few asks session slot at_line

pub returns-clause-open : goal.returns-clause-open
returns-clause-open c = λ w sound line asked pieces asks unended few. below_open as_is w sound line asked pieces few asks unended

pub returns-clause-at_bound : goal.returns-clause-at_bound
returns-clause-at_bound c = λ w sound line asked pieces asks few reached. ended_at_bound as_is w sound line asked pieces few asks reached
