-- Bounds of the plans.
use Rattle.std.proofs.Common.{ℕ, List, Option, Some, None}
use Rattle.rbd_kinds.specs.declared.answer.Answer.{Answer}
use Rattle.rbd_kinds.specs.declared.answer.Answer.TheVariants as answer
use Rattle.rbd_kinds.specs.declared.id.SiteId.{SiteId}
use Rattle.rbd_machine.specs.Path.{IsBounded}
use Rattle.rbd_machine.specs.Refused.{refuses_none}
use Rattle.rbd_machine.proofs.Bounds.{bounded_on_id, bounded_on_done, bounded_change}
use Rattle.rbd_meaning.specs.Straight.{notices_of, operations_of, Straight}
use Rattle.rbd_session.specs.Close.{replies_done, unwatching, on_dropped, joining, close, quiesced, quiesce, straight, telling}

bounded_on_dropped : (site : SiteId) (image : ℕ) (a : Answer) → IsBounded (on_dropped site image a) 2
bounded_on_dropped site image answer.Done = bounded_on_done (unwatching site image) 1 (bounded_on_done replies_done 0 tt)
bounded_on_dropped site image answer.Changed = bounded_on_done replies_done 1 tt
bounded_on_dropped site image answer.Fenced = tt
bounded_on_dropped site image _ = tt

pub bounded_close : (site : SiteId) (name : List ℕ) → IsBounded (close site name) 4
bounded_close site name = bounded_on_id (joining site) 3 (bounded_on_dropped site)

pub bounded_quiesce : (site : SiteId) (name : List ℕ) → IsBounded (quiesce site name) 3
bounded_quiesce site name = bounded_change site refuses_none quiesced 0 (λ i h. tt) name _

bounded_telling : (site : SiteId) (o : Option (List ℕ)) (image : ℕ) → IsBounded (telling site o image) (notices_of o)
bounded_telling site None image = tt
bounded_telling site (Some bytes) image = bounded_on_done replies_done 0 tt

pub bounded_straight : (site : SiteId) (s : Straight) → IsBounded (straight site s) (operations_of s)
bounded_straight site s = bounded_on_id (telling site s.tells) (notices_of s.tells) (bounded_telling site s.tells)
