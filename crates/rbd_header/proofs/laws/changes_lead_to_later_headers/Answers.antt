use Rattle.rbd_header.proofs.Later.{later_size, later_taken, later_status, later_removed, later_detached, later_role, later_mirrored, later_synced, later_locked}
use Rattle.rbd_header.proofs.laws.changes_lead_to_later_headers.Goals as goal

pub returns-clause-size : goal.returns-clause-size
returns-clause-size c = later_size

pub returns-clause-taking : goal.returns-clause-taking
returns-clause-taking c = later_taken

pub returns-clause-status : goal.returns-clause-status
returns-clause-status c = later_status

pub returns-clause-removing : goal.returns-clause-removing
returns-clause-removing c = later_removed

pub returns-clause-detaching : goal.returns-clause-detaching
returns-clause-detaching c = later_detached

pub returns-clause-role : goal.returns-clause-role
returns-clause-role c = later_role

pub returns-clause-mirroring : goal.returns-clause-mirroring
returns-clause-mirroring c = later_mirrored

pub returns-clause-syncing : goal.returns-clause-syncing
returns-clause-syncing c = later_synced

pub returns-clause-lock : goal.returns-clause-lock
returns-clause-lock c = later_locked
