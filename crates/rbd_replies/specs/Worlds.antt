-- What a world's history and calls say of its run.
use Rattle.std.specs.Prelude.{◌≡◌, ℕ, true, List, [], ◌∷◌, ◌++◌, Some}
use Rattle.rbd_flat.specs.declared.entry.Entry.{Entry}
use Rattle.rbd_flat.specs.declared.entry.Entry.TheVariants as entry
use Rattle.rbd_kinds.specs.declared.reply.Reply.{Reply}
use Rattle.rbd_machine.specs.Plan.{Standing}
use Rattle.rbd_world.specs.Run.{Asked, Happening, Did, Refused, asked_by, history_of, is_for}
use Rattle.rbd_world.specs.Step.{IsWorldStep}
use Rattle.rbd_world.specs.World.{WorldView}
use Rattle.rbd_world.specs.declared.event.Call.{Call}
use Rattle.rbd_replies.specs.Places.{placed_of}
use Rattle.rbd_replies.specs.Replies.{IsReplyOf}

-- The happening gives the line this reply: with an operation that was done for the line, or before
-- any.
abbrev pub GivesReply : (line : ℕ) → Reply → Happening → Type 0
GivesReply line reply (Did o (Some told)) = (is_for line o.by ≡ true) × (told ≡ reply)
GivesReply line reply (Refused site other told) = (other ≡ line) × (told ≡ reply)
GivesReply line reply h = ⊥

-- The reply's entry stands just behind these entries of the history, as the last entry of the
-- happening that gave it. It is the reply of its line's command there: by the command's operations
-- from its start up to this happening, and by none that came later.
pub record IsReplyBehind (run : List Happening) (entries : List Entry) (line : ℕ) (reply : Reply) : Type 0 where
  -- the happening, what was before it, and what came later
  pub gave : Happening
  pub before : List Happening
  pub later : List Happening
  pub are : run ≡ later ++ gave ∷ before
  pub gives : GivesReply line reply gave
  pub last : history_of (gave ∷ before) ≡ entries ++ entry.Reply line reply ∷ []
  pub asked : Asked
  pub begun : asked_by line before ≡ Some asked
  pub says : IsReplyOf asked.command reply (placed_of line (gave ∷ before))

-- so it is with each reply of a history, at its own place there
abbrev pub AreRepliesOf : List Happening → (history : List Entry) → Type 0
AreRepliesOf run history = (entries after : List Entry) (line : ℕ) (reply : Reply)
    → history ≡ entries ++ entry.Reply line reply ∷ after → IsReplyBehind run entries line reply

-- these events, one after another, each with its outcome, lead from one world to another
abbrev pub AreSteps : {R : Type 0} → (stands : R → Standing) → List Call → (old new : WorldView R) → Type 0
AreSteps stands [] old new = new ≡ old
AreSteps {R} stands (c ∷ calls) old new = (next : WorldView R) × IsWorldStep stands c.event old c.outcome next
    × AreSteps stands calls next new

-- a list begins with what was there
pub record BeginsWith {X : Type 0} (before after : List X) : Type 0 where
  pub more : List X
  pub are : after ≡ before ++ more
