use Rattle.rbd_words.specs.Words.{asked_for_by}
use Rattle.rbd_lab.proofs.Complete.{ends_done}
use Rattle.rbd_lab.proofs.laws.runs_end_done.Goals as goal

pub returns : goal.returns
returns S c = λ words status source source' old new is free. ends_done (asked_for_by words) status source source' old new is free
