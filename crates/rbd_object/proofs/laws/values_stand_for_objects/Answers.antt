use Rattle.rbd_object.proofs.MappedLemmas.{looked-mapped_blank, looked-mapped_change, looked-mapped_trim}
use Rattle.rbd_object.proofs.laws.values_stand_for_objects.Goals as goal

pub returns-clause-blank : goal.returns-clause-blank
returns-clause-blank c = looked-mapped_blank

pub returns-clause-change : goal.returns-clause-change
returns-clause-change c = looked-mapped_change

pub returns-clause-trim : goal.returns-clause-trim
returns-clause-trim c = looked-mapped_trim
