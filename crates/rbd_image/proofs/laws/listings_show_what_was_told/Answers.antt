use Rattle.rbd_kinds.specs.declared.reply.Reply.TheVariants as reply
use Rattle.rbd_meaning.specs.Listings.{shown_snaps}
use Rattle.rbd_image.proofs.Shown.{names_are_listed, header_is_shown, used_is_shown}
use Rattle.rbd_image.proofs.laws.listings_show_what_was_told.Goals as goal

pub returns-clause-names : goal.returns-clause-names
returns-clause-names c = λ site feds steps names walk. names_are_listed site names feds steps walk

pub returns-clause-info : goal.returns-clause-info
returns-clause-info c = λ site image feds steps header walk. header_is_shown site image reply.Info (reply.Info header) feds steps tt walk

pub returns-clause-snaps : goal.returns-clause-snaps
returns-clause-snaps c = λ site image feds steps snaps walk. header_is_shown site image shown_snaps (reply.Snaps snaps) feds steps tt walk

pub returns-clause-used : goal.returns-clause-used
returns-clause-used c = λ site image feds steps used of given walk. used_is_shown site image used of feds steps given walk
