use Rattle.rbd_client.specs.Seen.{as_is}
use Rattle.rbd_replies.proofs.Led.{begun_led, ended_led}
use Rattle.rbd_replies.proofs.NoEffects.{no_effects}
use Rattle.rbd_replies.proofs.laws.what_changes_no_image_has_no_effect.Goals as goal

pub returns-clause-ended : goal.returns-clause-ended
returns-clause-ended c = λ homes run line asked right asks ended none. no_effects homes line run asked right (ended_led homes line run asked right asks ended) none

pub returns-clause-begun : goal.returns-clause-begun
returns-clause-begun c = λ w sound line asked asks none.
    no_effects sound.told.homes line sound.told.run asked sound.told.right (begun_led as_is w sound line asked asks) none
