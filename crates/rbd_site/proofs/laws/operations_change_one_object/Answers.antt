use Rattle.rbd_site.proofs.StepLemmas.{other_blocklist, other_children, other_directory, other_header, other_map, other_object, other_watchers}
use Rattle.rbd_site.proofs.laws.operations_change_one_object.Goals as goal

pub returns-clause-directory : goal.returns-clause-directory
returns-clause-directory c = other_directory

pub returns-clause-children : goal.returns-clause-children
returns-clause-children c = other_children

pub returns-clause-blocklist : goal.returns-clause-blocklist
returns-clause-blocklist c = other_blocklist

pub returns-clause-header : goal.returns-clause-header
returns-clause-header c = other_header

pub returns-clause-watchers : goal.returns-clause-watchers
returns-clause-watchers c = other_watchers

pub returns-clause-map : goal.returns-clause-map
returns-clause-map c = other_map

pub returns-clause-object : goal.returns-clause-object
returns-clause-object c = other_object
