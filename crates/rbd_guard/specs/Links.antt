-- How links and ends hold lines.
use Rattle.std.specs.Prelude.{◌≡◌, ℕ, ◌==◌, ◌+◌, ◌-◌, cond, length, List, [], ◌∷◌, Option, Some, None, option_map, IsTrue}
use Rattle.rbd_guard.specs.declared.link.TicketLink.{TicketLink}
use Rattle.rbd_guard.specs.declared.link.Ends.{Ends}
use Rattle.rbd_guard.specs.Order.{is_in, AreApart, walked, no_ends}

-- the first of a line, or else what comes after it
abbrev pub front : List ℕ → Option ℕ → Option ℕ
front [] after = after
front (n ∷ line) after = Some n

-- the last of a line, or else what comes before it
abbrev pub back : Option ℕ → List ℕ → Option ℕ
back before [] = before
back before (n ∷ line) = back (Some n) line

abbrev pub link : (key : ℕ) → (before after : Option ℕ) → TicketLink
link key before after = record { key = key; before = before; after = after }

-- each number of a part of a line is linked with the one before it and the one after it
abbrev pub AreLinked : (links : ℕ → Option TicketLink) → (key : ℕ) → (before : Option ℕ) → List ℕ → (after : Option ℕ)
    → Type 0
AreLinked links key before [] after = Unit {0}
AreLinked links key before (n ∷ line) after = (links n ≡ Some (link key before (front line after)))
    × AreLinked links key (Some n) line after

-- a line stands under a key
pub record IsLine (links : ℕ → Option TicketLink) (key : ℕ) (e : Ends) (line : List ℕ) : Type 0 where
  pub first : e.first ≡ front line None
  pub last : e.last ≡ back None line
  pub count : e.count ≡ length line
  pub linked : AreLinked links key None line None
  pub apart : AreApart line

-- each key has a line, and each number that has a link stands in the line of its key
pub record AreLines (links : ℕ → Option TicketLink) (ends : ℕ → Ends) : Type 0 where
  pub lines : (key : ℕ) → IsLine links key (ends key) (walked links (ends key))
  pub stands : (n : ℕ) (l : TicketLink) → links n ≡ Some l → IsTrue (is_in n (walked links (ends l.key)))

-- the links with another one after a number, or before it
abbrev pub with_after : (links : ℕ → Option TicketLink) → (at after : Option ℕ) → ℕ → Option TicketLink
with_after links None after n = links n
with_after links (Some at) after n = cond (at == n) (option_map (λ l. link l.key l.before after) (links n)) (links n)

abbrev pub with_before : (links : ℕ → Option TicketLink) → (at before : Option ℕ) → ℕ → Option TicketLink
with_before links None before n = links n
with_before links (Some at) before n = cond (at == n) (option_map (λ l. link l.key before l.after) (links n)) (links n)

abbrev pub or_else : Option ℕ → Option ℕ → Option ℕ
or_else None other = other
or_else (Some n) other = Some n

-- the ends of a line with one more number behind it
abbrev pub longer : Ends → (number : ℕ) → Ends
longer e number = record { first = or_else e.first (Some number); last = Some number; count = e.count + 1 }

abbrev pub other_unless : Option ℕ → Option ℕ → Option ℕ → Option ℕ
other_unless None other kept = other
other_unless (Some n) other kept = kept

-- the ends of a line without the number that has a link
abbrev pub shorter : Ends → TicketLink → Ends
shorter e l = record {
  first = other_unless l.before l.after e.first;
  last = other_unless l.after l.before e.last;
  count = e.count - 1;
}

-- a line of none has no ends
abbrev pub or_none : Ends → Ends
or_none e = cond (e.count == 0) no_ends e
