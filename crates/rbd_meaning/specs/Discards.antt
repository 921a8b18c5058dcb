-- `discard`: what has become zeros when one is done, and what its replies mean. It is refused as a
-- write is.
use Rattle.std.specs.Prelude.{◌≡◌, ◌⊎◌, ℕ, List, ◌∷◌, None}
use Rattle.rbd_kinds.specs.declared.header.HeaderView.{HeaderView}
use Rattle.rbd_kinds.specs.declared.id.SiteId.{SiteId}
use Rattle.rbd_kinds.specs.declared.layout.Extent.{Extent}
use Rattle.rbd_commands.specs.declared.refusal.Refusal.{Refusal}
use Rattle.rbd_kinds.specs.declared.reply.Reply.{Reply}
use Rattle.rbd_kinds.specs.declared.reply.Reply.TheVariants as reply
use Rattle.rbd_layout.specs.Pieces.{pieces_of}
use Rattle.rbd_machine.specs.About.{look_up}
use Rattle.rbd_machine.specs.Path.{Answered, found, looked_at}
use Rattle.rbd_machine.specs.Refused.{by_fence, AreLooks, IsRefused}
use Rattle.rbd_meaning.specs.Partly.{IsFrontOf}
use Rattle.rbd_meaning.specs.Writes.{write_refuses}
use Rattle.rbd_pieces.specs.Size.{AreZeroed}

-- The request found its image and looked at the header twice, and neither look refused it. Then, by
-- its look under the lock, each piece of its extent became zeros, one after another, and nothing
-- else was done.
pub record DiscardsWhole (site : SiteId) (name : List ℕ) (e : Extent) (steps : List Answered) : Type 0 where
  pub image : ℕ
  pub first : HeaderView
  pub own : HeaderView
  pub may_wait : write_refuses e first ≡ None
  pub may : write_refuses e own ≡ None
  pub zeroed : List Answered
  pub are_zeroed : AreZeroed site image own (pieces_of own.layout e) zeroed
  pub are : steps ≡ found site name image ∷ looked_at site image first ∷ looked_at site image own ∷ zeroed

-- The request was refused, and had only looked before, or zeroed its first pieces.
pub record RefusesDiscard (site : SiteId) (name : List ℕ) (e : Extent) (steps : List Answered)
    (x : Refusal) : Type 0 where
  pub refused : IsRefused site (look_up name) (write_refuses e) by_fence steps x
  pub so_far : AreLooks refused.by.before ⊎ IsFrontOf (DiscardsWhole site name e) refused.by.before

abbrev pub DiscardMeans : SiteId → (image : List ℕ) → (at len : ℕ) → List Answered → Reply → Type 0
DiscardMeans site image at len steps reply.Done = DiscardsWhole site image (record { at = at; len = len }) steps
DiscardMeans site image at len steps (reply.Refused x) =
    RefusesDiscard site image (record { at = at; len = len }) steps x
DiscardMeans site image at len steps _ = ⊥
