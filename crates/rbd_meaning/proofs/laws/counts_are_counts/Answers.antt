use Rattle.rbd_meaning.proofs.Counts.{counts, few_decides}
use Rattle.rbd_meaning.proofs.laws.counts_are_counts.Goals as goal

pub returns-clause-count : goal.returns-clause-count
returns-clause-count c = counts

pub returns-clause-few : goal.returns-clause-few
returns-clause-few c = few_decides
