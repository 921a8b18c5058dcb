-- The plan does what it may.
use Rattle.std.proofs.Common.{ℕ, List, [], ◌∷◌, All, None, refl}
use Rattle.std.proofs.lemmas.List.Elements.{All-head, All-tail}
use Rattle.rbd_commands.specs.declared.command.Command.{Command}
use Rattle.rbd_commands.specs.declared.command.Command.TheVariants as command
use Rattle.rbd_kinds.specs.declared.sharing.Sharing.TheVariants as sharing
use Rattle.rbd_kinds.specs.declared.header.HeaderView.{HeaderView}
use Rattle.rbd_kinds.specs.declared.id.SiteId.{SiteId}
use Rattle.rbd_kinds.specs.declared.layout.Extent.{Extent}
use Rattle.rbd_layout.specs.Pieces.{pieces_of}
use Rattle.rbd_layout.specs.declared.types.Piece.{Piece}
use Rattle.rbd_machine.specs.Knowledge.{Knowledge, nothing_known, known_after_wait}
use Rattle.rbd_machine.specs.Label.{Label}
use Rattle.rbd_machine.specs.Lawful.{IsLawful, IsLawfulRequest}
use Rattle.rbd_machine.specs.Plan.{without_labels}
use Rattle.rbd_machine.specs.Steps.{applied, non_primary}
use Rattle.rbd_machine.specs.Wait as wait
use Rattle.rbd_machine.proofs.AtLeast.{jump_lawful}
use Rattle.rbd_machine.proofs.Lawful.{lawful_change, or_else_none, own_is_found, under_lock_known}
use Rattle.rbd_meaning.specs.Range.{out_of_range}
use Rattle.rbd_meaning.specs.Writes.{write_refuses}
use Rattle.rbd_pieces.specs.Known.{OwnsByHeader, IsPieceOf, known_behind}
use Rattle.rbd_pieces.proofs.Below.{pieces_below}
use Rattle.rbd_pieces.proofs.ZerosLawful.{lawful_zero}
use Rattle.rbd_pieces.proofs.Zeroed.{zeroed_own}
use Rattle.rbd_data.proofs.Writes.{within_size}
use Rattle.rbd_data.specs.Discard.{discard, discard_plan, zero, zero_in_turns}

module _ (known_at : Label → Knowledge) where
  -- from anything known by which it owns the image
  lawful_pieces : (pieces : List Piece) (k : Knowledge) (site : SiteId) (image : ℕ) (h : HeaderView) → OwnsByHeader k site image sharing.Discard h → All (IsPieceOf h) pieces
      → IsLawful known_at k (zero_in_turns site image h pieces (applied site image))
  lawful_pieces [] k site image h owns below = tt
  lawful_pieces (p ∷ pieces) k site image h owns below =
      let turned = known_after_wait k (wait.Turn p.object) in
      lawful_zero known_at turned site image h p (zero_in_turns site image h pieces (applied site image)) (record { sharing = sharing.Discard; owns = owns; turn = refl; zeros = refl })
      (All-head (IsPieceOf h) p pieces below)
      (λ steps is.
      lawful_pieces pieces (known_behind turned steps) site image h (zeroed_own site image h h sharing.Discard p turned steps is owns)
      (All-tail (IsPieceOf h) p pieces below))

  lawful_discard : (site : SiteId) (name : List ℕ) (e : Extent) → IsLawful known_at nothing_known (discard site name e)
  lawful_discard site name e =
      lawful_change known_at site name sharing.Discard (write_refuses e) (zero site e) (λ image h form may.
      lawful_pieces (pieces_of h.layout e) (under_lock_known sharing.Discard None site image h) site image h (own_is_found sharing.Discard None site image h)
      (pieces_below h e form.layout (within_size e h.size (or_else_none (non_primary h.role) (out_of_range e h.size) may))))

  lawful_plan : (site : SiteId) (c : Command) → IsLawful known_at nothing_known (discard_plan site c)
  lawful_plan site (command.Discard image at len) = lawful_discard site image (record { at = at; len = len })
  lawful_plan site _ = tt

pub lawful_request : (site : SiteId) (c : Command) → IsLawfulRequest (without_labels (discard_plan site c))
lawful_request site c = record { known_at = λ label. nothing_known; plan = lawful_plan (λ label. nothing_known) site c; labels = jump_lawful (λ label. nothing_known) }
