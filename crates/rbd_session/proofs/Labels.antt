-- The plans go to no label.
use Rattle.std.proofs.Common.{ℕ, List, Option, Some, None}
use Rattle.rbd_kinds.specs.declared.answer.Answer.{Answer}
use Rattle.rbd_kinds.specs.declared.answer.Answer.TheVariants as answer
use Rattle.rbd_commands.specs.declared.command.Command.{Command}
use Rattle.rbd_commands.specs.declared.command.Command.TheVariants as command
use Rattle.rbd_kinds.specs.declared.id.SiteId.{SiteId}
use Rattle.rbd_machine.specs.Plan.{Goto, IsClosed}
use Rattle.rbd_machine.specs.Refused.{refuses_none}
use Rattle.rbd_machine.proofs.Closed.{closed_not_there, closed_on_id, closed_on_done, closed_change}
use Rattle.rbd_meaning.specs.Straight.{Straight, straight_of}
use Rattle.rbd_session.specs.Close.{replies_done, unwatching, on_dropped, joining, quiesced, telling, straight_plan, close_plan}

closed_unwatching : (site : SiteId) (image : ℕ) → IsClosed Goto (unwatching site image)
closed_unwatching site image = closed_on_done Goto replies_done tt

closed_on_dropped : (site : SiteId) (image : ℕ) (a : Answer) → IsClosed Goto (on_dropped site image a)
closed_on_dropped site image answer.Done = closed_on_done Goto (unwatching site image) (closed_unwatching site image)
closed_on_dropped site image answer.Changed = closed_unwatching site image
closed_on_dropped site image a = closed_not_there Goto a

closed_telling : (site : SiteId) (o : Option (List ℕ)) (image : ℕ) → IsClosed Goto (telling site o image)
closed_telling site None image = tt
closed_telling site (Some bytes) image = closed_on_done Goto replies_done tt

closed_straight : (site : SiteId) (o : Option Straight) → IsClosed Goto (straight_plan site o)
closed_straight site None = tt
closed_straight site (Some s) = closed_on_id Goto (telling site s.tells) (closed_telling site s.tells)

pub closed_plan : (site : SiteId) (c : Command) → IsClosed Goto (close_plan site c)
closed_plan site (command.Close image) = closed_on_id Goto (joining site) (closed_on_dropped site)
closed_plan site (command.Quiesce image) = closed_change Goto site image _ refuses_none quiesced (λ i h. tt)
closed_plan site c = closed_straight site (straight_of c)
