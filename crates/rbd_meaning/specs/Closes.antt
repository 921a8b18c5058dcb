-- `close` and `quiesce`: what has been done when one is done, and what their replies mean.
use Rattle.std.specs.Prelude.{◌≡◌, ℕ, List, [], ◌∷◌}
use Rattle.rbd_kinds.specs.declared.answer.Answer.{Answer}
use Rattle.rbd_kinds.specs.declared.answer.Answer.TheVariants as answer
use Rattle.rbd_kinds.specs.declared.header.HeaderView.{HeaderView}
use Rattle.rbd_kinds.specs.declared.header_op.HeaderOp.TheVariants as header
use Rattle.rbd_kinds.specs.declared.id.SiteId.{SiteId}
use Rattle.rbd_kinds.specs.declared.notice.NoticeKind.TheVariants as notice
use Rattle.rbd_kinds.specs.declared.operation.Op.TheVariants as op
use Rattle.rbd_commands.specs.declared.refusal.Refusal.{Refusal}
use Rattle.rbd_commands.specs.declared.refusal.Refusal.TheVariants as refusal
use Rattle.rbd_kinds.specs.declared.reply.Reply.{Reply}
use Rattle.rbd_kinds.specs.declared.reply.Reply.TheVariants as reply
use Rattle.rbd_machine.specs.About.{look_up}
use Rattle.rbd_machine.specs.Path.{Answered, found, looked_at}
use Rattle.rbd_machine.specs.Refused.{refuses_none, never, IsRefused}

-- ---- operations that were done

-- The lock was to be dropped. Done says that it was, and Changed that it is another's, or nobody's.
abbrev pub lock_dropped : SiteId → (image : ℕ) → Answer → Answered
lock_dropped site image a = record { site = site; op = op.Header image header.LockDrop; answer = a }

-- the watchers were told that the lock was let go
abbrev pub release_told : SiteId → (image : ℕ) → Answered
release_told site image = record {
  site = site;
  op = op.Header image (header.Notify notice.ReleasedLock);
  answer = answer.Done;
}

-- the instance doesn't watch the image any more
abbrev pub watch_ended : SiteId → (image : ℕ) → Answered
watch_ended site image = record { site = site; op = op.Header image header.Unwatch; answer = answer.Done }

-- ---- what has been done when they are done

-- The lock was dropped and told of, or wasn't its own; and then the watch was let go.
abbrev pub ClosesBy : SiteId → (image : ℕ) → (dropped : Answer) → (behind : List Answered) → Type 0
ClosesBy site image answer.Done behind = behind ≡ release_told site image ∷ watch_ended site image ∷ []
ClosesBy site image answer.Changed behind = behind ≡ watch_ended site image ∷ []
ClosesBy site image dropped behind = ⊥

pub record Closes (site : SiteId) (name : List ℕ) (steps : List Answered) : Type 0 where
  pub image : ℕ
  pub dropped : Answer
  pub behind : List Answered
  pub are : steps ≡ found site name image ∷ lock_dropped site image dropped ∷ behind
  pub closes : ClosesBy site image dropped behind

-- The header was looked at before the lock, and under it.
pub record LooksTwice (site : SiteId) (name : List ℕ) (steps : List Answered) : Type 0 where
  pub image : ℕ
  pub first : HeaderView
  pub own : HeaderView
  pub are : steps ≡ found site name image ∷ looked_at site image first ∷ looked_at site image own ∷ []

-- ---- what their replies mean

-- Behind its drop a close may still find the image gone, or be fenced.
abbrev pub gone_or_fenced : Refusal → Type 0
gone_or_fenced refusal.NoImage = Unit {0}
gone_or_fenced refusal.Fenced = Unit {0}
gone_or_fenced _ = ⊥

abbrev pub CloseMeans : SiteId → (image : List ℕ) → List Answered → Reply → Type 0
CloseMeans site image steps reply.Done = Closes site image steps
CloseMeans site image steps (reply.Refused x) = IsRefused site (look_up image) refuses_none gone_or_fenced steps x
CloseMeans site image steps _ = ⊥

abbrev pub QuiesceMeans : SiteId → (image : List ℕ) → List Answered → Reply → Type 0
QuiesceMeans site image steps reply.Done = LooksTwice site image steps
QuiesceMeans site image steps (reply.Refused x) = IsRefused site (look_up image) refuses_none never steps x
QuiesceMeans site image steps _ = ⊥
