-- Numbers in lines, each line under a key.
use Rattle.std.specs.Prelude.{◌≡◌, ℕ, zero, suc, ◌==◌, not, Bool, List, [], ◌∷◌, Option, Some, None, IsTrue, IsFalse}
use Rattle.std.specs.List.{filter, list_any}
use Rattle.rbd_guard.specs.declared.link.TicketLink.{TicketLink}
use Rattle.rbd_guard.specs.declared.link.Ends.{Ends}

-- whether a number stands in a line
abbrev pub is_in : (number : ℕ) → List ℕ → Bool
is_in number line = list_any (λ n. n == number) line

-- the others, in their order
abbrev pub without : (number : ℕ) → List ℕ → List ℕ
without number line = filter (λ n. not (n == number)) line

-- each number stands once
abbrev pub AreApart : List ℕ → Type 0
AreApart [] = Unit {0}
AreApart (n ∷ line) = IsFalse (is_in n line) × AreApart line

-- a number stands in the line of its key alone, and once
pub record IsEachInItsLine (line : (key : ℕ) → List ℕ) (key_of : (number : ℕ) → Option ℕ) : Type 0 where
  pub stands : (number key : ℕ) → IsTrue (is_in number (line key)) → key_of number ≡ Some key
  pub found : (number key : ℕ) → key_of number ≡ Some key → IsTrue (is_in number (line key))
  pub apart : (key : ℕ) → AreApart (line key)

-- nobody stands there
abbrev pub no_ends : Ends
no_ends = record { first = None; last = None; count = 0 }

abbrev pub ends_or : Option Ends → Ends
ends_or None = no_ends
ends_or (Some e) = e

abbrev pub next_after : Option TicketLink → Option ℕ
next_after None = None
next_after (Some l) = l.after

-- so many numbers, from one on, each with the one after it
abbrev pub walk : (links : ℕ → Option TicketLink) → (count : ℕ) → (from : Option ℕ) → List ℕ
walk links zero from = []
walk links (suc count) None = []
walk links (suc count) (Some n) = n ∷ walk links count (next_after (links n))

abbrev pub walked : (links : ℕ → Option TicketLink) → Ends → List ℕ
walked links e = walk links e.count e.first
