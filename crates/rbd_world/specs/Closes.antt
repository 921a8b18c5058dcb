-- Who drops the lock of an image by a command of its own, a `close`, stands first in the image's
-- line up to the end of the command, alone. So no other request of its session is on its way to
-- that lock meanwhile, and it doesn't own the lock where it ends its watch.
use Rattle.std.specs.Prelude.{◌≡◌, ℕ, Bool, true, false, List, Option, Some, None}
use Rattle.std.specs.List.{list_any}
use Rattle.rbd_kinds.specs.declared.answer.Answer.{Answer}
use Rattle.rbd_kinds.specs.declared.answer.Answer.TheVariants as answer
use Rattle.rbd_kinds.specs.declared.header_op.HeaderOp.TheVariants as header
use Rattle.rbd_kinds.specs.declared.id.SiteId.{SiteId}
use Rattle.rbd_kinds.specs.declared.operation.Op.{Op}
use Rattle.rbd_kinds.specs.declared.operation.Op.TheVariants as op
use Rattle.rbd_kinds.specs.Images.{is_at}
use Rattle.rbd_kinds.specs.Sharing.{is_alone}
use Rattle.rbd_queue.specs.Line.{Member, is_past, may_pass, member_of}
use Rattle.rbd_machine.specs.Path.{Answered}
use Rattle.rbd_slots.specs.declared.running.Running.{Running}
use Rattle.rbd_slots.specs.Lines.{LinesView, lines_of}
use Rattle.rbd_world.specs.Run.{Happening, steps_of}

-- ---- a lock that was dropped

-- The lock of the image was dropped, or was another's or nobody's.
abbrev pub lets_lock_go : SiteId → Op → Answer → SiteId → (image : ℕ) → Bool
lets_lock_go there (op.Header on header.LockDrop) answer.Done s image = is_at there on s image
lets_lock_go there (op.Header on header.LockDrop) answer.Changed s image = is_at there on s image
lets_lock_go there o a s image = false

-- whether one of the operations let the lock go
abbrev pub has_let_go : SiteId → (image : ℕ) → (steps : List Answered) → Bool
has_let_go s image steps = list_any (λ d. lets_lock_go d.site d.op d.answer s image) steps

-- ---- where it stands meanwhile

-- The member waits for its look under the lock, alone, and everybody ahead of it lets it pass: so
-- nobody is ahead.
pub record StandsFirst (slot : ℕ) (line : List Member) : Type 0 where
  pub member : Member
  pub found : member_of slot line ≡ Some member
  pub alone : is_alone member.sharing ≡ true
  pub waits : is_past member.stage ≡ false
  pub may : may_pass slot line ≡ true

-- a request whose line has let go of the image's lock stands first in the image's line
abbrev pub StandsFirstIf : {R : Type 0} → List Happening → (slot : ℕ) → LinesView → Option (Running R) → Type 0
StandsFirstIf run slot lines None = Unit {0}
StandsFirstIf run slot lines (Some r) = (s : SiteId) (image : ℕ) → has_let_go s image (steps_of r.line run) ≡ true
    → StandsFirst slot (lines_of lines s image)
