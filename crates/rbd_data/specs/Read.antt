-- `read`: a pass over the objects between two looks at the header, which is made again where the
-- header changed.
use Rattle.std.specs.Prelude.{◌≡◌, ℕ, ◌==◌, List, [], Bool, true, false, if◌then◌else◌, Option, Some, None}
use Rattle.rbd_kinds.specs.declared.answer.Answer.{Answer}
use Rattle.rbd_kinds.specs.declared.answer.Answer.TheVariants as answer
use Rattle.rbd_commands.specs.declared.command.Command.{Command}
use Rattle.rbd_commands.specs.declared.command.Command.TheVariants as command
use Rattle.rbd_kinds.specs.declared.header.HeaderView.{HeaderView}
use Rattle.rbd_kinds.specs.declared.header_op.HeaderOp.TheVariants as header
use Rattle.rbd_kinds.specs.declared.id.SiteId.{SiteId}
use Rattle.rbd_kinds.specs.declared.layout.Extent.{Extent}
use Rattle.rbd_kinds.specs.declared.operation.Op.TheVariants as op
use Rattle.rbd_commands.specs.declared.refusal.Refusal.TheVariants as refusal
use Rattle.rbd_kinds.specs.declared.reply.Reply.TheVariants as reply
use Rattle.rbd_layout.specs.Pieces.{pieces_of}
use Rattle.rbd_header.specs.Header.{view_of}
use Rattle.rbd_header.specs.declared.view.View.{View}
use Rattle.rbd_machine.specs.Plan.{Plan, Return, Goto, Standing}
use Rattle.rbd_machine.specs.Label.{Label}
use Rattle.rbd_machine.specs.Label as label
use Rattle.rbd_machine.specs.Steps.{own, refused, not_there, unless, find, look}
use Rattle.rbd_meaning.specs.Range.{out_of_range}
use Rattle.rbd_pieces.specs.Gather.{gather, rest_of_gather, HasRoomForAnswer}
use Rattle.rbd_pieces.specs.declared.gather.Gather.{Gather}
use Rattle.rbd_data.specs.Seen.{Seen, seen_at, shown_bytes}
use Rattle.rbd_data.specs.declared.read.ReadRequest.{ReadRequest}
use Rattle.rbd_data.specs.declared.read.Stage.{Stage}
use Rattle.rbd_data.specs.declared.read.Stage.TheVariants as stage

-- the command that it serves
abbrev pub is_read : Command → Bool
is_read (command.Read image snap at len) = true
is_read _ = false

-- ---- the steps of a pass

-- The closing look. Where the header is still what it was, the bytes are the reply. Where it
-- changed, or is gone, the read begins again.
abbrev pub on_closing : Seen → (read : List ℕ) → Answer → Plan
on_closing seen read (answer.Header h) =
    if h.generation == seen.generation then Return (reply.Bytes (shown_bytes seen read)) else Goto label.Begin
on_closing seen read answer.Absent = Goto label.Begin
on_closing seen read a = not_there a

abbrev pub closing : SiteId → (image : ℕ) → Seen → (read : List ℕ) → Plan
closing site image seen read = own site (op.Header image header.Get) (on_closing seen read)

abbrev pub gathering : SiteId → (image : ℕ) → HeaderView → Extent → View → Plan
gathering site image h e view = gather site image view.snap (pieces_of h.layout e) [] (closing site image (seen_at h e))

abbrev pub viewing : SiteId → (image : ℕ) → HeaderView → Extent → Option View → Plan
viewing site image h e None = refused refusal.NoSnap
viewing site image h e (Some view) = unless (out_of_range e view.size) (gathering site image h e view)

abbrev pub read_by_header : SiteId → (snap : Option (List ℕ)) → Extent → (image : ℕ) → HeaderView → Plan
read_by_header site snap e image h = viewing site image h e (view_of h snap)

abbrev pub looking : SiteId → (snap : Option (List ℕ)) → Extent → (image : ℕ) → Plan
looking site snap e image = look site image (read_by_header site snap e image)

abbrev pub pass : SiteId → (name : List ℕ) → (snap : Option (List ℕ)) → Extent → Plan
pass site name snap e = find site name (looking site snap e)

-- it begins again as a whole
abbrev pub read_labels : SiteId → (name : List ℕ) → (snap : Option (List ℕ)) → Extent → Label → Plan
read_labels site name snap e = λ label. pass site name snap e

abbrev pub read_standing : SiteId → (name : List ℕ) → (snap : Option (List ℕ)) → Extent → (plan : Plan) → Standing
read_standing site name snap e plan = record { labels = read_labels site name snap e; plan = plan }

abbrev pub IsReadOf : SiteId → Command → Standing → Type 0
IsReadOf site (command.Read image snap at len) standing =
    standing ≡ read_standing site image snap (record { at = at; len = len })
    (pass site image snap (record { at = at; len = len }))
IsReadOf site _ standing = ⊥

-- ---- where it stands

abbrev pub rest_at : Stage → ReadRequest → Plan
rest_at stage.Finding r = pass r.site r.name r.snap r.extent
rest_at (stage.Looking image) r = looking r.site r.snap r.extent image
rest_at (stage.Gathering image seen g) r = rest_of_gather g (closing r.site image seen)
rest_at (stage.Closing image seen read) r = closing r.site image seen read

abbrev pub standing_of : ReadRequest → Standing
standing_of r = read_standing r.site r.name r.snap r.extent (rest_at r.stage r)

-- ---- the memory that an answer needs

-- the first look: the pieces that are read
abbrev pub IsPreparedBy : (gathers : (List ℕ → Plan) → Plan) → Option Gather → Type 0
IsPreparedBy gathers None = ⊥
IsPreparedBy gathers (Some g) = (next : List ℕ → Plan) → rest_of_gather g next ≡ gathers next

abbrev pub IsReadPrepared : ReadRequest → (image : ℕ) → HeaderView → Type 0
IsReadPrepared r image h = (view : View) → view_of h r.snap ≡ Some view → out_of_range r.extent view.size ≡ None
    → IsPreparedBy (λ next. gather r.site image view.snap (pieces_of h.layout r.extent) [] next) r.prepared

-- the closing look: the reply
abbrev pub ShowsReply : ReadRequest → Seen → (read : List ℕ) → HeaderView → Type 0
ShowsReply r seen read h = (h.generation == seen.generation) ≡ true → r.shown ≡ Some (shown_bytes seen read)

abbrev pub IsReadyAt : Stage → ReadRequest → Answer → Type 0
IsReadyAt (stage.Looking image) r (answer.Header h) = IsReadPrepared r image h
IsReadyAt (stage.Gathering image seen g) r a = HasRoomForAnswer g a
IsReadyAt (stage.Closing image seen read) r (answer.Header h) = ShowsReply r seen read h
IsReadyAt _ r _ = Unit {0}

abbrev pub IsReady : ReadRequest → Answer → Type 0
IsReady r a = IsReadyAt r.stage r a

abbrev pub IsClosing : Stage → Type 0
IsClosing (stage.Closing image seen read) = Unit {0}
IsClosing _ = ⊥
