use Rattle.rbd_stands.proofs.EffectLemmas.{write_effect, zero_effect, replace_effect, empty_effect, remove_effect}
use Rattle.rbd_stands.proofs.laws.effects_of_objects.Goals as goal

pub returns-clause-write : goal.returns-clause-write
returns-clause-write c = write_effect

pub returns-clause-zero : goal.returns-clause-zero
returns-clause-zero c = zero_effect

pub returns-clause-replace : goal.returns-clause-replace
returns-clause-replace c = replace_effect

pub returns-clause-empty : goal.returns-clause-empty
returns-clause-empty c = empty_effect

pub returns-clause-remove : goal.returns-clause-remove
returns-clause-remove c = remove_effect
