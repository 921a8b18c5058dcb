-- What `clap` holds of the options of `gen`: the rows of those that were told, and the one that
-- waits.
use Rattle.std.proofs.Common.{◌≡◌, true, false, Bool, List, [], ◌∷◌, ◌++◌, Some, None, refl, ap, ◌∙◌, true≢false, append-nil}
use Rattle.std.specs.Prelude.{◌||◌, cond, find, option_and_then, slice_get}
use Rattle.std.specs.List.{list_any}
use Rattle.std.specs.Str.{bytes_eq}
use Rattle.clap.specs.Faults.{use_fault}
use Rattle.clap.specs.Kinds.{Kinds}
use Rattle.clap.specs.Simple.{filled, new_rule}
use Rattle.clap.specs.Walk.{Row, Rule, Text, at_row, first_of, has_row, more_values, reading_by, used, with_values, without}
use Rattle.clap.specs.declared.error.kind.ErrorKind.TheVariants.{ArgumentConflict}
use Rattle.clap.specs.declared.parser.matches.ValueSource.TheVariants.{CommandLine}

-- an option with a value, as it is built
abbrev pub option_rule : (name : Text) → Rule
option_rule name = filled (record (new_rule name) { long = Some name })

-- what a use of it adds
abbrev pub new_row : (name value : Text) → Row
new_row name value = record {
  id = name;
  values = value ∷ [];
  count = None;
  source = Some CommandLine;
  reading = reading_by (option_rule name);
}

-- a second use is refused
abbrev pub repeat_of : Bool → Kinds
repeat_of true = ArgumentConflict ∷ []
repeat_of false = []

pub neither : (a b : Bool) → (a || b) ≡ false → (a ≡ false) × (b ≡ false)
neither false b e = (refl, e)
neither true b e = absurd (true≢false e)

no_find : (p : Row → Bool) (rows : List Row) → list_any p rows ≡ false → find p rows ≡ None
no_find p [] none = refl
no_find p (r ∷ rs) none = let parts = neither (p r) (list_any p rs) none in rw parts.0 (no_find p rs parts.1)

at_row_none : (name : Text) (change : Row → List Row) (missing rows : List Row) → has_row name rows ≡ false → at_row name change missing rows ≡ rows ++ missing
at_row_none name change missing [] none = refl
at_row_none name change missing (r ∷ rs) none =
    let parts = neither (bytes_eq r.id name) (has_row name rs) none in
    rw parts.0 (ap (λ xs. r ∷ xs) (at_row_none name change missing rs parts.1))

find_behind : (p : Row → Bool) (rows : List Row) (row : Row) → p row ≡ false → find p (rows ++ row ∷ []) ≡ find p rows
find_behind p [] row fails = rw fails refl
find_behind p (r ∷ rs) row fails = ap (cond (p r) (Some r)) (find_behind p rs row fails)

found_behind : (p : Row → Bool) (rows : List Row) (row : Row) → list_any p rows ≡ false → p row ≡ true → find p (rows ++ row ∷ []) ≡ Some row
found_behind p [] row none passes = rw passes refl
found_behind p (r ∷ rs) row none passes =
    let parts = neither (p r) (list_any p rs) none in rw parts.0 (found_behind p rs row parts.1 passes)

any_behind : (p : Row → Bool) (rows : List Row) (row : Row) → p row ≡ false → list_any p (rows ++ row ∷ []) ≡ list_any p rows
any_behind p [] row fails = rw fails refl
any_behind p (r ∷ rs) row fails = ap (λ b. p r || b) (any_behind p rs row fails)

any_at_end : (p : Row → Bool) (rows : List Row) (row : Row) → p row ≡ true → list_any p (rows ++ row ∷ []) ≡ true
any_at_end p [] row passes = rw passes refl
any_at_end p (r ∷ rs) row passes = ap (λ b. p r || b) (any_at_end p rs row passes) ∙ or_true (p r)
  where
    or_true : (b : Bool) → (b || true) ≡ true
    or_true true = refl
    or_true false = refl

-- ---- one use

pub use_is : (name value : Text) (rows : List Row) → use_fault false (option_rule name) (value ∷ []) rows ≡ repeat_of (has_row name rows)
use_is name value rows = go (has_row name rows) refl
  where
    go : (b : Bool) → has_row name rows ≡ b → use_fault false (option_rule name) (value ∷ []) rows ≡ repeat_of b
    go true e = rw e refl
    go false e = rw e refl

pub used_is : (name value : Text) (rows : List Row) → has_row name rows ≡ false → used (option_rule name) (value ∷ []) rows ≡ rows ++ new_row name value ∷ []
used_is name value rows none =
    let same : without name rows ≡ rows = at_row_none name (λ _. []) [] rows none ∙ append-nil rows in
    ap (with_values name (reading_by (option_rule name)) CommandLine (value ∷ [])) same ∙ at_row_none name (more_values CommandLine (value ∷ [])) (new_row name value ∷ []) rows none

-- what the rows say of the option, and of another
pub told_now : (name value : Text) (rows : List Row) → has_row name rows ≡ false → bytes_eq name name ≡ true
    → (has_row name (rows ++ new_row name value ∷ []) ≡ true) × (first_of name (rows ++ new_row name value ∷ []) ≡ Some value)
told_now name value rows none same = (
  any_at_end (λ r. bytes_eq r.id name) rows (new_row name value) same,
  ap (option_and_then (λ (r : Row). slice_get r.values 0)) (found_behind (λ r. bytes_eq r.id name) rows (new_row name value) none same),
)

pub told_still : (name value other : Text) (rows : List Row) → bytes_eq name other ≡ false
    → (has_row other (rows ++ new_row name value ∷ []) ≡ has_row other rows) × (first_of other (rows ++ new_row name value ∷ []) ≡ first_of other rows)
told_still name value other rows differ = (
  any_behind (λ r. bytes_eq r.id other) rows (new_row name value) differ,
  ap (option_and_then (λ (r : Row). slice_get r.values 0)) (find_behind (λ r. bytes_eq r.id other) rows (new_row name value) differ),
)

pub untold : (name : Text) (rows : List Row) → has_row name rows ≡ false → first_of name rows ≡ None
untold name rows none = ap (option_and_then (λ (r : Row). slice_get r.values 0)) (no_find (λ r. bytes_eq r.id name) rows none)
