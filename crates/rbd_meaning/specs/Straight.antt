-- The straight commands: each finds its image, tells the others that watch it something or nothing,
-- and is done. What is said of such a command, in this crate and in those above, is said of its row.
use Rattle.std.specs.Prelude.{◌≡◌, ℕ, zero, suc, List, [], ◌∷◌, Option, Some, None}
use Rattle.rbd_commands.specs.declared.command.Command.{Command}
use Rattle.rbd_commands.specs.declared.command.Command.TheVariants as command
use Rattle.rbd_kinds.specs.declared.answer.Answer.TheVariants as answer
use Rattle.rbd_kinds.specs.declared.header_op.HeaderOp.TheVariants as header
use Rattle.rbd_kinds.specs.declared.id.SiteId.{SiteId}
use Rattle.rbd_kinds.specs.declared.notice.NoticeKind.TheVariants as notice
use Rattle.rbd_kinds.specs.declared.operation.Op.TheVariants as op
use Rattle.rbd_kinds.specs.declared.reply.Reply.{Reply}
use Rattle.rbd_kinds.specs.declared.reply.Reply.TheVariants as reply
use Rattle.rbd_machine.specs.About.{look_up}
use Rattle.rbd_machine.specs.Path.{Answered, found}
use Rattle.rbd_machine.specs.Refused.{refuses_none, never, IsRefused}

pub record Straight : Type 0 where
  -- the image that it finds
  pub name : List ℕ
  -- the bytes that it tells, if any
  pub tells : Option (List ℕ)

-- the rows
abbrev pub straight_of : Command → Option Straight
straight_of (command.Resume image) = Some (record { name = image; tells = None })
straight_of (command.Tell image bytes) = Some (record { name = image; tells = Some bytes })
straight_of _ = None

-- ---- what is read off a row

abbrev pub name_of : Option Straight → Option (List ℕ)
name_of None = None
name_of (Some s) = Some s.name

-- how many notices it has posted where it is done
abbrev pub notices_of : Option (List ℕ) → ℕ
notices_of None = zero
notices_of (Some bytes) = suc zero

-- how many operations it has at most: one finds the image
abbrev pub operations_of : Straight → ℕ
operations_of s = suc (notices_of s.tells)

-- ---- what its reply means

-- the watchers were told what a client has to tell
abbrev pub bytes_told : SiteId → (image : ℕ) → (bytes : List ℕ) → Answered
bytes_told site image bytes = record {
  site = site;
  op = op.Header image (header.Notify (notice.Custom bytes));
  answer = answer.Done;
}

abbrev pub all_told : SiteId → (image : ℕ) → Option (List ℕ) → List Answered
all_told site image None = []
all_told site image (Some bytes) = bytes_told site image bytes ∷ []

pub record GoesStraight (site : SiteId) (s : Straight) (steps : List Answered) : Type 0 where
  pub image : ℕ
  pub are : steps ≡ found site s.name image ∷ all_told site image s.tells

abbrev pub StraightMeans : SiteId → Straight → List Answered → Reply → Type 0
StraightMeans site s steps reply.Done = GoesStraight site s steps
StraightMeans site s steps (reply.Refused x) = IsRefused site (look_up s.name) refuses_none never steps x
StraightMeans site s steps _ = ⊥

-- by the row of a command, and by none nothing
abbrev pub MeansStraight : SiteId → Option Straight → List Answered → Reply → Type 0
MeansStraight site None steps r = ⊥
MeansStraight site (Some s) steps r = StraightMeans site s steps r
