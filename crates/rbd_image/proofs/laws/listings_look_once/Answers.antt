use Rattle.rbd_kinds.specs.declared.reply.Reply.TheVariants as reply
use Rattle.rbd_meaning.specs.Listings.{shown_snaps}
use Rattle.rbd_image.proofs.Bounds.{bounded_listing, bounded_show_header}
use Rattle.rbd_image.proofs.laws.listings_look_once.Goals as goal

pub returns-clause-info : goal.returns-clause-info
returns-clause-info c = λ home image. bounded_show_header home image reply.Info

pub returns-clause-snaps : goal.returns-clause-snaps
returns-clause-snaps c = λ home image. bounded_show_header home image shown_snaps

pub returns-clause-any : goal.returns-clause-any
returns-clause-any c = bounded_listing
