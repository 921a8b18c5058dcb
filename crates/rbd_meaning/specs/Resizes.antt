-- `resize`: what refuses one, what has been done when it is done, and what its replies mean.
use Rattle.std.specs.Prelude.{◌≡◌, ◌⊎◌, ℕ, ◌^◌, nat_le, List, ◌∷◌, Bool, if◌then◌else◌, Option, Some, None}
use Rattle.rbd_kinds.specs.declared.header.HeaderView.{HeaderView}
use Rattle.rbd_kinds.specs.declared.id.SiteId.{SiteId}
use Rattle.rbd_kinds.specs.declared.layout.Layout.{Layout}
use Rattle.rbd_commands.specs.declared.refusal.Refusal.{Refusal}
use Rattle.rbd_commands.specs.declared.refusal.Refusal.TheVariants as refusal
use Rattle.rbd_kinds.specs.declared.reply.Reply.{Reply}
use Rattle.rbd_kinds.specs.declared.reply.Reply.TheVariants as reply
use Rattle.rbd_kinds.specs.Striping.{IsObjectCount, byte_at}
use Rattle.rbd_machine.specs.About.{look_up}
use Rattle.rbd_machine.specs.Path.{Answered, found, looked_at}
use Rattle.rbd_machine.specs.Refused.{by_fence, AreLooks, IsRefused}
use Rattle.rbd_machine.specs.Steps.{or_else, non_primary}
use Rattle.rbd_meaning.specs.Partly.{IsFrontOf}
use Rattle.rbd_pieces.specs.Size.{IsResized}

-- An image has at most 2^20 objects: its size ends at the first byte of the next one, or before.
abbrev pub has_few_objects : Layout → (size : ℕ) → Bool
has_few_objects layout size = nat_le size (byte_at layout (2 ^ 20) 0)

abbrev pub resize_refuses : (to : ℕ) → HeaderView → Option Refusal
resize_refuses to h = or_else (non_primary h.role) (if has_few_objects h.layout to then None else Some refusal.BadShape)

-- The request found its image and looked at the header twice, and neither look refused it. Then it
-- set the size by its look under the lock, and nothing else was done.
pub record ResizesWhole (site : SiteId) (name : List ℕ) (to : ℕ) (steps : List Answered) : Type 0 where
  pub image : ℕ
  pub first : HeaderView
  pub own : HeaderView
  pub may_wait : resize_refuses to first ≡ None
  pub may : resize_refuses to own ≡ None
  pub objects : ℕ
  pub counted : IsObjectCount own.layout to objects
  pub resized : List Answered
  pub is_resized : IsResized site image own to objects resized
  pub are : steps ≡ found site name image ∷ looked_at site image first ∷ looked_at site image own ∷ resized

-- The request was refused, and had only looked before, or done the first operations of a whole
-- resize.
pub record RefusesResize (site : SiteId) (name : List ℕ) (to : ℕ) (steps : List Answered) (x : Refusal) : Type 0 where
  pub refused : IsRefused site (look_up name) (resize_refuses to) by_fence steps x
  pub so_far : AreLooks refused.by.before ⊎ IsFrontOf (ResizesWhole site name to) refused.by.before

abbrev pub ResizeMeans : SiteId → (image : List ℕ) → (to : ℕ) → List Answered → Reply → Type 0
ResizeMeans site image to steps reply.Done = ResizesWhole site image to steps
ResizeMeans site image to steps (reply.Refused x) = RefusesResize site image to steps x
ResizeMeans site image to steps _ = ⊥
