use Rattle.rbd_words.proofs.OnlySo.{only_so}
use Rattle.rbd_words.proofs.laws.only_such_words_ask_for_loads.Goals as goal

pub returns : goal.returns
returns c = λ load words asks. only_so load words asks
