use Rattle.rbd_stands.proofs.DirectorySteps.{found_told, listed_told, held_told, missing_told, taken_told}
use Rattle.rbd_stands.proofs.laws.telling_names.Goals as goal

pub returns-clause-find : goal.returns-clause-find
returns-clause-find c = found_told

pub returns-clause-list : goal.returns-clause-list
returns-clause-list c = listed_told

pub returns-clause-held : goal.returns-clause-held
returns-clause-held c = held_told

pub returns-clause-missing : goal.returns-clause-missing
returns-clause-missing c = missing_told

pub returns-clause-taken : goal.returns-clause-taken
returns-clause-taken c = taken_told
