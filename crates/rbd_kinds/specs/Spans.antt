-- The spans of a journal: which of its numbers bear which tag.
use Rattle.std.specs.Prelude.{◌≡◌, ℕ, ◌+◌, ◌-◌, ◌^◌, ◌<◌, ◌≤◌, List, [], ◌∷◌, IfSome}
use Rattle.rbd_kinds.specs.declared.journal.JournalView.{JournalView}
use Rattle.rbd_kinds.specs.declared.journal.Span.{Span}

-- the spans run from number `next` on without gaps
abbrev pub RunFrom : (next : ℕ) → List Span → Type 0
RunFrom next [] = Unit {0}
RunFrom next (s ∷ spans) = (s.first ≡ next) × (s.first ≤ s.last) × RunFrom (s.last + 1) spans

-- where spans end, if they begin behind `before`
abbrev pub end_after : (before : ℕ) → List Span → ℕ
end_after before [] = before
end_after before (s ∷ spans) = end_after s.last spans

-- What a journal tells of itself: spans from 1 on without gaps, which end below the last number of
-- 64 bits, and commit positions up to their end.
pub record IsJournalInForm (j : JournalView) : Type 0 where
  pub run : RunFrom 1 j.spans
  pub end : end_after 0 j.spans < 2 ^ 64 - 1
  pub local : j.local ≤ end_after 0 j.spans
  pub mirror : IfSome j.mirror (λ seq. seq ≤ end_after 0 j.spans)
