-- A line that ends with an operation has its reply by its own, or is refused on its way to the
-- lock: then its reply is the one that a look under the lock would have had.
use Rattle.std.proofs.Common.{◌≡◌, ◌⊎◌, inl, inr, ℕ, ◌==◌, ◌||◌, cond, Bool, true, false, List, [], ◌∷◌, ◌++◌, Option, Some, refl, subst}
use Rattle.std.proofs.lemmas.Bool.{true≢false, eqb-true}
use Rattle.std.proofs.lemmas.List.{append-nil}
use Rattle.rbd_commands.specs.declared.refusal.Refusal.{Refusal}
use Rattle.rbd_commands.specs.declared.refusal.Refusal.TheVariants as refusal
use Rattle.rbd_kinds.specs.declared.answer.Answer.{Answer}
use Rattle.rbd_kinds.specs.declared.answer.Answer.TheVariants as answer
use Rattle.rbd_kinds.specs.declared.id.SiteId.{SiteId}
use Rattle.rbd_kinds.specs.declared.reply.Reply.{Reply}
use Rattle.rbd_kinds.specs.declared.reply.Reply.TheVariants as reply
use Rattle.rbd_machine.specs.Path.{Answered}
use Rattle.rbd_machine.specs.Plan.{Return}
use Rattle.rbd_machine.specs.Steps.{not_there}
use Rattle.rbd_meaning.specs.Undone.{ChangeNothing}
use Rattle.rbd_world.specs.Run.{Doer, Itself, OnWay, House, AfterStop, Happening, Did, Operation, is_for, is_own}
use Rattle.rbd_world.specs.Sound.{EndsItsLine, IsRefusedOnWay, IsReplyMeant}
use Rattle.rbd_replies.specs.Places.{placed_of}

-- ---- which of the two

-- who did the operation did it on the way to the line's lock
pub record EndsOnWay (homes : ℕ → SiteId) (line : ℕ) (r : Reply) (o : Operation) (run : List Happening) (doer : Doer) : Type 0 where
  pub apart : is_own line doer ≡ false
  pub is : IsRefusedOnWay homes line r o run

or_nothing : (b : Bool) → (b || false) ≡ true → b ≡ true
or_nothing true is = refl
or_nothing false is = is

module _ (homes : ℕ → SiteId) (line : ℕ) (o : Operation) (r : Reply) (run : List Happening) where
  ends_by : (doer : Doer) → is_for line doer ≡ true → EndsItsLine homes o r run doer
      → (IsReplyMeant homes line r run (Did o (Some r) ∷ run)) ⊎ (EndsOnWay homes line r o run doer)
  ends_by (Itself other) mine ends =
      inl (subst (λ l. IsReplyMeant homes l r run (Did o (Some r) ∷ run)) (eqb-true other line (or_nothing (other == line) mine)) ends)
  ends_by (OnWay other) mine ends =
      inr (record { apart = refl; is = subst (λ l. IsRefusedOnWay homes l r o run) (eqb-true other line mine) ends })
  ends_by House mine ends = absurd ends
  ends_by (AfterStop slot) mine ends = absurd ends

  pub ends_so : is_for line o.by ≡ true → EndsItsLine homes o r run o.by
      → (IsReplyMeant homes line r run (Did o (Some r) ∷ run)) ⊎ (EndsOnWay homes line r o run o.by)
  ends_so mine ends = ends_by o.by mine ends

-- ---- of a line that is refused on its way

-- the command itself did nothing more
pub places_on_way : (line : ℕ) (o : Operation) (told : Option Reply) (run : List Happening) → is_own line o.by ≡ false → placed_of line (Did o told ∷ run) ≡ placed_of line run
places_on_way line o told run apart = go (is_own line o.by) apart
  where
    go : (b : Bool) → b ≡ false → placed_of line run ++ cond b (record { before = run; done = o } ∷ []) [] ≡ placed_of line run
    go true is = absurd (true≢false is)
    go false is = append-nil (placed_of line run)

-- its reply is a refusal
pub record IsRefusal (r : Reply) : Type 0 where
  pub reason : Refusal
  pub is : r ≡ reply.Refused reason

pub refused_there : (told : Answer) (r : Reply) → not_there told ≡ Return r → IsRefusal r
refused_there answer.Fenced r is = record { reason = refusal.Fenced; is = cc }
refused_there _ r is = record { reason = refusal.NoImage; is = cc }

-- those in front of others change nothing either
pub nothing_before : (one two : List Answered) → ChangeNothing (one ++ two) → ChangeNothing one
nothing_before [] two none = tt
nothing_before (s ∷ one) two (first, none) = (first, nothing_before one two none)
