use Rattle.rbd_interference.proofs.Ancestors.{known_gathered, known_true}
use Rattle.rbd_interference.proofs.laws.known_bytes_are_those_of_snapshots.Goals as goal

pub returns-clause-snapshot : goal.returns-clause-snapshot
returns-clause-snapshot c = λ site r f seen told image snap x byte s stands are_seen are_told knows is. known_true site r f stands told seen are_seen are_told image snap x byte knows s is

pub returns-clause-gathered : goal.returns-clause-gathered
returns-clause-gathered c = λ site r f seen told image number h bytes stands are_seen are_told is knows. known_gathered site r f stands told seen are_seen are_told image number h bytes is knows
