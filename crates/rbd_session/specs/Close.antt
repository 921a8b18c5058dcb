-- `close`, `quiesce` and the straight commands: the plans.
use Rattle.std.specs.Prelude.{ℕ, List, Bool, true, Option, Some, None, is_some}
use Rattle.rbd_kinds.specs.declared.sharing.Sharing.TheVariants as sharing
use Rattle.rbd_session.specs.declared.request.CloseRequest.{CloseRequest}
use Rattle.rbd_session.specs.declared.request.Purpose.{Purpose}
use Rattle.rbd_session.specs.declared.request.Purpose.TheVariants as purpose
use Rattle.rbd_session.specs.declared.request.Stage.{Stage}
use Rattle.rbd_session.specs.declared.request.Stage.TheVariants as stage
use Rattle.rbd_kinds.specs.declared.answer.Answer.{Answer}
use Rattle.rbd_kinds.specs.declared.answer.Answer.TheVariants as answer
use Rattle.rbd_commands.specs.declared.command.Command.{Command}
use Rattle.rbd_commands.specs.declared.command.Command.TheVariants as command
use Rattle.rbd_kinds.specs.declared.header.HeaderView.{HeaderView}
use Rattle.rbd_kinds.specs.declared.header_op.HeaderOp.TheVariants as header
use Rattle.rbd_kinds.specs.declared.id.SiteId.{SiteId}
use Rattle.rbd_kinds.specs.declared.notice.NoticeKind.{NoticeKind}
use Rattle.rbd_kinds.specs.declared.notice.NoticeKind.TheVariants as notice
use Rattle.rbd_kinds.specs.declared.operation.Op.{Op}
use Rattle.rbd_kinds.specs.declared.operation.Op.TheVariants as op
use Rattle.rbd_commands.specs.declared.refusal.Refusal.TheVariants as refusal
use Rattle.rbd_kinds.specs.declared.reply.Reply.TheVariants as reply
use Rattle.rbd_machine.specs.Approach.{rest_of}
use Rattle.rbd_machine.specs.Plan.{Plan, Await, Return}
use Rattle.rbd_machine.specs.Refused.{refuses_none}
use Rattle.rbd_machine.specs.Steps.{own, refused, not_there, on_done, find, change_plan, EndsIt}
use Rattle.rbd_machine.specs.Wait as wait
use Rattle.rbd_meaning.specs.Straight.{Straight, straight_of}
use Rattle.rbd_lock.specs.Steps.{lock_drop, released_lock}

-- the commands that it serves
abbrev pub is_close : Command → Bool
is_close (command.Close image) = true
is_close (command.Quiesce image) = true
is_close c = is_some (straight_of c)

abbrev pub replies_done : Plan
replies_done = Return reply.Done

-- ---- operations

-- the instance doesn't watch the image any more
abbrev pub unwatch : (image : ℕ) → Op
unwatch image = op.Header image header.Unwatch

-- the watchers are told something
abbrev pub notify : (image : ℕ) → NoticeKind → Op
notify image kind = op.Header image (header.Notify kind)

-- they are told what a client has to tell
abbrev pub custom : (image : ℕ) → (bytes : List ℕ) → Op
custom image bytes = notify image (notice.Custom bytes)

-- ---- close: the lock is let go, and then the watch

abbrev pub unwatching : SiteId → (image : ℕ) → Plan
unwatching site image = own site (unwatch image) (on_done replies_done)

-- the watchers are told that the lock was let go
abbrev pub telling_of_release : SiteId → (image : ℕ) → Plan
telling_of_release site image = own site (released_lock image) (on_done (unwatching site image))

-- Only a lock that was dropped is told of. Where it was another's, or nobody's, the watch is all
-- that is left to end.
abbrev pub on_dropped : SiteId → (image : ℕ) → Answer → Plan
on_dropped site image answer.Done = telling_of_release site image
on_dropped site image answer.Changed = unwatching site image
on_dropped site image a = not_there a

abbrev pub TellsDropped : Answer → Type 0
TellsDropped answer.Done = Unit {0}
TellsDropped answer.Changed = Unit {0}
TellsDropped a = EndsIt a

abbrev pub dropping : SiteId → (image : ℕ) → Plan
dropping site image = own site (lock_drop image) (on_dropped site image)

-- alone in the image's line, once the requests before it have ended
abbrev pub holding : SiteId → (image : ℕ) → Plan
holding site image = Await (wait.Hold site image) (dropping site image)

abbrev pub joining : SiteId → (image : ℕ) → Plan
joining site image = Await (wait.Join site image sharing.Alone) (holding site image)

abbrev pub close : SiteId → (name : List ℕ) → Plan
close site name = find site name (joining site)

-- ---- quiesce: a change that ends at its look under the lock, and refuses no header

abbrev pub quiesced : (image : ℕ) → HeaderView → Plan
quiesced image h = replies_done

abbrev pub quiesce : SiteId → (name : List ℕ) → Plan
quiesce site name = change_plan site name sharing.Alone refuses_none quiesced

-- ---- straight commands: the image is found, and what there is to tell is told

abbrev pub nothing_more : (image : ℕ) → Plan
nothing_more image = replies_done

abbrev pub telling_others : SiteId → (bytes : List ℕ) → (image : ℕ) → Plan
telling_others site bytes image = own site (custom image bytes) (on_done replies_done)

abbrev pub telling : SiteId → Option (List ℕ) → (image : ℕ) → Plan
telling site None = nothing_more
telling site (Some bytes) = telling_others site bytes

abbrev pub straight : SiteId → Straight → Plan
straight site s = find site s.name (telling site s.tells)

abbrev pub straight_plan : SiteId → Option Straight → Plan
straight_plan site None = refused refusal.NoImage
straight_plan site (Some s) = straight site s

-- ---- the plan of a command

abbrev pub close_plan : SiteId → Command → Plan
close_plan site (command.Close image) = close site image
close_plan site (command.Quiesce image) = quiesce site image
close_plan site c = straight_plan site (straight_of c)

-- ---- where a request stands

-- what is done with the image that is found
abbrev pub on_image : Purpose → SiteId → (image : ℕ) → Plan
on_image purpose.Close site = joining site
on_image purpose.Nothing site = nothing_more
on_image (purpose.Tell bytes) site = telling_others site bytes

abbrev pub IsFinding : Stage → Type 0
IsFinding (stage.Finding name why) = Unit {0}
IsFinding _ = ⊥

-- it isn't on its way to a look under the lock
abbrev pub IsOnNoWay : Stage → Type 0
IsOnNoWay (stage.Quiescing way) = ⊥
IsOnNoWay _ = Unit {0}

abbrev pub rest_at : Stage → SiteId → Plan
rest_at (stage.Finding name why) site = find site name (on_image why site)
rest_at (stage.Joining image) site = joining site image
rest_at (stage.Holding image) site = holding site image
rest_at (stage.Dropping image) site = dropping site image
rest_at (stage.Releasing image) site = telling_of_release site image
rest_at (stage.Unwatching image) site = unwatching site image
rest_at (stage.Saying image bytes) site = telling_others site bytes image
rest_at (stage.Quiescing way) site = rest_of way refuses_none quiesced

-- what is left of one
abbrev pub rest_of_request : CloseRequest → Plan
rest_of_request r = rest_at r.stage r.site

-- what is left of one that finds, once its image is found
abbrev pub on_found : Stage → SiteId → (image : ℕ) → Plan
on_found (stage.Finding name why) site = on_image why site
on_found _ site = nothing_more
