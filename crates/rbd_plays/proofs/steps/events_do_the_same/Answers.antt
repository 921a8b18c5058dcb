use Rattle.rbd_client.specs.Seen.{as_is}
use Rattle.rbd_plays.proofs.Happening.{happening_alike}
use Rattle.rbd_plays.proofs.steps.events_do_the_same.Goals as goal

pub returns : goal.returns
returns c = λ e v w twins. happening_alike as_is v w twins e
