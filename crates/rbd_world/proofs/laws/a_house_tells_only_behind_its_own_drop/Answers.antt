use Rattle.rbd_world.proofs.Telling.{drops_none_before_it_told, tells_behind_drop}
use Rattle.rbd_world.proofs.laws.a_house_tells_only_behind_its_own_drop.Goals as goal

pub returns-clause-tells : goal.returns-clause-tells
returns-clause-tells c = λ homes o reply run image right house told. tells_behind_drop homes o reply run right house image told

pub returns-clause-drops : goal.returns-clause-drops
returns-clause-drops c = λ homes o reply run image right house drops s other dropped. drops_none_before_it_told homes o reply run right house image drops s other dropped
