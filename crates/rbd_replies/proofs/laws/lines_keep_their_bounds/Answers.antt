use Rattle.rbd_client.specs.Seen.{as_is}
use Rattle.std.proofs.Common.{◌∷◌}
use Rattle.rbd_world.specs.Run.{Stopped}
use Rattle.rbd_replies.proofs.Led.{begun_led, ended_led, lost_led, under_way_led}
use Rattle.rbd_replies.proofs.LineBounds.{within}
use Rattle.rbd_replies.proofs.laws.lines_keep_their_bounds.Goals as goal

pub returns-clause-ended : goal.returns-clause-ended
returns-clause-ended c = λ homes run line asked pieces right asks ended few. within homes line run asked (ended_led homes line run asked right asks ended) pieces few

pub returns-clause-lost : goal.returns-clause-lost
returns-clause-lost c = λ homes run who wanted lost line asked pieces right among asks few.
    within homes line (Stopped who wanted lost ∷ run) asked (lost_led homes line who wanted lost run asked right among asks) pieces few

pub returns-clause-under_way : goal.returns-clause-under_way
returns-clause-under_way c = λ w sound session slot line asked pieces at_line asks few.
    within sound.told.homes line sound.told.run asked (under_way_led as_is w sound session slot line asked at_line asks) pieces few

pub returns-clause-begun : goal.returns-clause-begun
returns-clause-begun c = λ w sound line asked pieces asks few. within sound.told.homes line sound.told.run asked (begun_led as_is w sound line asked asks) pieces few
