use Rattle.rbd_words.proofs.SpellingLemmas.{load_spelled}
use Rattle.rbd_words.proofs.laws.loads_are_spelled.Goals as goal

pub returns : goal.returns
returns c = λ load words is spells. load_spelled load words is spells
