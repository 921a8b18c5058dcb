-- A line that was begun stays in its slot up to its end.
use Rattle.std.proofs.Common.{◌≡◌, ◌≢◌, ◌⊎◌, inl, inr, ℕ, ◌||◌, true, List, ◌∷◌, Some, sym, ap, ◌∙◌}
use Rattle.std.proofs.lemmas.Bool.{true≢false}
use Rattle.rbd_client.specs.Client.{ClientView}
use Rattle.rbd_slots.specs.Session.{held_in, script_line}
use Rattle.rbd_world.specs.Run.{Happening, asked_by, ends}
use Rattle.rbd_world.specs.Sound.{IsInSlot, IsOpen, has_ended, held_of, line_at}
use Rattle.rbd_world.specs.Step.{AreSlotsBut}
use Rattle.rbd_world.specs.World.{LivesView, WorldView, session_of_client}
use Rattle.rbd_world.proofs.Changed.{GoesOnAs, client_was, here_or_elsewhere, line_elsewhere, line_is}
use Rattle.rbd_world.proofs.Quiet.{IsQuiet}

-- behind what isn't its own it is open only if it was
abbrev pub open_back : (line : ℕ) (h : Happening) (run : List Happening) → IsQuiet line h → IsOpen line (h ∷ run) → IsOpen line run
open_back line h run quiet begun = record {
  asked = begun.asked;
  is = sym (quiet.asked (asked_by line run)) ∙ begun.is;
  unended = sym (ap (λ b. b || has_ended line run) quiet.silent) ∙ begun.unended;
}

-- behind its end it is open no more
pub not_open : (line : ℕ) (h : Happening) (run : List Happening) → ends line h ≡ true → IsOpen line (h ∷ run) → ⊥
not_open line h run ended begun = true≢false (sym (ap (λ b. b || has_ended line run) ended) ∙ begun.unended)

-- where no slot's line changes
pub same_slots : {R : Type 0} (old new : List (LivesView R)) → ((session slot : ℕ) → line_at session slot new ≡ line_at session slot old) → (line : ℕ) → IsInSlot line old → IsInSlot line new
same_slots old new same line there = record { session = there.session; slot = there.slot; is = same there.session there.slot ∙ there.is }

-- where one slot changes, and its line is another
module _ {R : Type 0} (old new : WorldView R) (session : ℕ) (c d : ClientView R) (goes : GoesOnAs old new session c d) (slot : ℕ) (slots : AreSlotsBut slot c.session d.session) where
  pub other_slots : (line : ℕ) → (script_line (held_in slot c.session.slots) ≡ Some line → ⊥) → IsInSlot line old.lives → IsInSlot line new.lives
  other_slots line other in_slot = record {
    session = in_slot.session;
    slot = in_slot.slot;
    is = by (here_or_elsewhere session slot in_slot.session in_slot.slot);
  }
    where
      by : ((in_slot.session ≡ session) × (in_slot.slot ≡ slot)) ⊎ ((in_slot.session ≢ session) ⊎ (in_slot.slot ≢ slot)) → line_at in_slot.session in_slot.slot new.lives ≡ Some line
      by (inr where_else) = line_elsewhere old new session c d goes slot slots in_slot.session in_slot.slot where_else ∙ in_slot.is
      by (inl (same, here)) =
          absurd
          (other
          (sym (ap (λ i. line_at i in_slot.slot old.lives) same ∙ ap (λ i. line_at session i old.lives) here ∙ ap (λ o. script_line (held_of slot (session_of_client o))) (client_was old new session c d goes)) ∙ in_slot.is))

  -- the slot has the line
  pub in_this_slot : (line : ℕ) → script_line (held_in slot d.session.slots) ≡ Some line → IsInSlot line new.lives
  in_this_slot line is = record { session = session; slot = slot; is = line_is old new session c d goes slot ∙ is }
