use Rattle.rbd_lab.proofs.OneText.{summed_once, told_once}
use Rattle.rbd_lab.proofs.laws.scripts_have_one_text.Goals as goal

pub returns-clause-told : goal.returns-clause-told
returns-clause-told = λ c. told_once

pub returns-clause-summed : goal.returns-clause-summed
returns-clause-summed = λ c. summed_once
