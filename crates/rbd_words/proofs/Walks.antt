-- What a word behind `gen` does to a walk of `clap`.
use Rattle.std.proofs.Common.{◌≡◌, ◌⊎◌, ℕ, zero, suc, true, false, Bool, List, [], ◌∷◌, codes, length, Option, Some, None, inl, inr, refl, sym, ◌∙◌, subst}
use Rattle.std.specs.Prelude.{if◌then◌else◌, is_some, option_and_then, slice_get}
use Rattle.std.specs.Str.{bytes_eq, chars}
use Rattle.std.specs.Option.{option_map_or}
use Rattle.std.proofs.lemmas.Option.{none-some}
use Rattle.clap.specs.Faults.{bundle_fault, bundle_step_fault, flag_word_fault, flags_fault, long_fault, option_fault, react_fault, settle_fault, step_fault, stray_fault, turn_fault, use_fault}
use Rattle.clap.specs.Kinds.{Kinds, or_else}
use Rattle.clap.specs.Lexer.{long_of, long_of_rest, short_of, short_of_rest, strip_byte}
use Rattle.clap.specs.Simple.{Shape, new_shape}
use Rattle.clap.specs.Walk.{Held, Names, Row, Rule, Step, Text, Waiting, Walk}
use Rattle.clap.specs.Walk.{after_flag, after_step, arg_by_id, arg_by_index, arg_by_long, arg_by_short, bundle_met, bundle_step, idle, long_or_other, option, plain, plain_word, settled_rows, short_or_plain, subcommand_met, takes_values, used, value, walked}
use Rattle.clap.specs.declared.error.kind.ErrorKind.TheVariants.{TooManyValues}
use Rattle.rbd_words.proofs.Rows.{option_rule}

-- the options of `gen`, and the command, as they are built
abbrev pub three : List Rule
three = option_rule (codes "seed") ∷ option_rule (codes "clients") ∷ option_rule (codes "commands") ∷ []

abbrev pub gen_built : Shape
gen_built = record (new_shape (codes "gen")) {
  rules = three;
  no_binary_name = true;
  disable_help_flag = true;
  disable_help_subcommand = true;
  is_built = true;
}

abbrev pub holds : List Row → Option (Text × List Text) → Held
holds rows pending = record { rows = rows; pending = pending; skip = 0 }

-- a walk that met no subcommand and no `--`, at a command without positionals
abbrev pub stands : List Row → Option (Text × List Text) → Waiting → Walk
stands rows pending waiting = record { held = holds rows pending; waiting = waiting; position = 1; is_trailing = false; stopped = None }

abbrev pub dashes : Text
dashes = 45 ∷ 45 ∷ []

-- ---- faults

abbrev pub IsFault : Kinds → Type 0
IsFault [] = ⊥
IsFault (k ∷ ks) = Unit {0}

pub first_fault : (a b : Kinds) → IsFault a → IsFault (or_else a b)
first_fault [] b f = absurd f
first_fault (k ∷ ks) b f = tt

pub second_fault : (a b : Kinds) → IsFault b → IsFault (or_else a b)
second_fault [] b f = f
second_fault (k ∷ ks) b f = tt

pub or_none : (a : Kinds) → or_else a [] ≡ a
or_none [] = refl
or_none (k ∷ ks) = refl

-- ---- a word that isn't `--` and names no subcommand

module _ (s : Shape) (names : Names) (rows : List Row) (pending : Option (Text × List Text)) (waiting : Waiting) (word : Text)
    (others : subcommand_met names waiting word ≡ None) (open_end : bytes_eq word dashes ≡ false) where
  pub turn_is : turn_fault s names (stands rows pending waiting) word
      ≡ or_else (flag_word_fault s.rules s.args_override_self (long_of word) word (holds rows pending))
      (step_fault s 1 (long_or_other s.rules waiting word (long_of word) (holds rows pending)).0 (long_or_other s.rules waiting word (long_of word) (holds rows pending)).1)
  turn_is = rw (others, open_end) refl

  pub step_is : walked s.rules names (stands rows pending waiting) word
      ≡ after_step s.rules word (stands rows pending waiting) (long_or_other s.rules waiting word (long_of word) (holds rows pending)).0 (long_or_other s.rules waiting word (long_of word) (holds rows pending)).1
  unfolding walked
  step_is = rw (others, open_end) refl

-- ---- a word that is no option of the command's

-- The command has no short options and no positionals.
pub record HasLongsAlone (s : Shape) : Type 0 where
  pub short : (x : ℕ) → arg_by_short s.rules x ≡ None
  pub index : arg_by_index s.rules 1 ≡ None
  pub stray : IsFault (stray_fault s)

-- no long option of the command's has the word's name
abbrev pub IsNoLong : Shape → Option (Text × Option Text) → Type 0
IsNoLong s None = Unit {0}
IsNoLong s (Some p) = arg_by_long s.rules p.0 ≡ None

module _ (s : Shape) (longs : HasLongsAlone s) (word : Text) (rows : List Row) (pending : Option (Text × List Text)) where
  -- the word is for a positional
  stray_is : IsFault (step_fault s 1 (holds rows pending) value)
  stray_is = rw longs.index longs.stray

  module _ (k : ℕ) (flags : Text) where
    abbrev AtFlag : Option ℕ → Type 0
    AtFlag o = IsFault (or_else
        (bundle_step_fault s.rules s.args_override_self o flags 0 (holds rows pending) (flags_fault s.rules s.args_override_self k))
        (step_fault s 1
        (after_flag s.rules idle word (bundle_step s.rules o flags 0 plain (holds rows pending) (bundle_met s.rules k)).0 (bundle_step s.rules o flags 0 plain (holds rows pending) (bundle_met s.rules k)).1).0
        (after_flag s.rules idle word (bundle_step s.rules o flags 0 plain (holds rows pending) (bundle_met s.rules k)).0 (bundle_step s.rules o flags 0 plain (holds rows pending) (bundle_met s.rules k)).1).1))

    at_flag : (o : Option ℕ) → AtFlag o
    at_flag None = stray_is
    at_flag (Some x) = rw (longs.short x) tt

  abbrev AtFlags : ℕ → (flags : Text) → Type 0
  AtFlags k flags = IsFault (or_else
      (flags_fault s.rules s.args_override_self k flags 0 (holds rows pending))
      (step_fault s 1
      (after_flag s.rules idle word (bundle_met s.rules k flags 0 plain (holds rows pending)).0 (bundle_met s.rules k flags 0 plain (holds rows pending)).1).0
      (after_flag s.rules idle word (bundle_met s.rules k flags 0 plain (holds rows pending)).0 (bundle_met s.rules k flags 0 plain (holds rows pending)).1).1))

  at_flags : (k : ℕ) (flags : Text) → AtFlags k flags
  unfolding flags_fault bundle_met
  at_flags zero flags = stray_is
  at_flags (suc k) flags = at_flag k flags (slice_get (chars flags) 0)

  abbrev AtShort : Option Text → Type 0
  AtShort o = IsFault (or_else
      (option_map_or (λ flags. bundle_fault s.rules s.args_override_self flags (holds rows pending)) o [])
      (step_fault s 1 (short_or_plain s.rules idle word o (holds rows pending)).0 (short_or_plain s.rules idle word o (holds rows pending)).1))

  at_short : (o : Option Text) → AtShort o
  at_short None = stray_is
  at_short (Some flags) = at_flags (length flags) flags

  abbrev AtLong : Option (Text × Option Text) → Type 0
  AtLong o = IsFault (or_else
      (flag_word_fault s.rules s.args_override_self o word (holds rows pending))
      (step_fault s 1 (long_or_other s.rules idle word o (holds rows pending)).0 (long_or_other s.rules idle word o (holds rows pending)).1))

  at_long : (o : Option (Text × Option Text)) → IsNoLong s o → AtLong o
  at_long None none = at_short (short_of word)
  at_long (Some p) none = rw none tt

  -- such a word is refused where no option waits
  pub no_option : (names : Names) → subcommand_met names idle word ≡ None → bytes_eq word dashes ≡ false → (o : Option (Text × Option Text)) → long_of word ≡ o → IsNoLong s o
      → IsFault (turn_fault s names (stands rows pending idle) word)
  no_option names others open_end o is none =
      subst IsFault (sym (turn_is s names rows pending idle word others open_end)) (subst AtLong (sym is) (at_long o none))

-- ---- an option of `gen`

-- It is one of the three.
pub record IsThird (name : Text) : Type 0 where
  pub long : arg_by_long three name ≡ Some (option_rule name)
  pub id : arg_by_id three name ≡ Some (option_rule name)
  pub same : bytes_eq name name ≡ true

module _ (rows : List Row) (pending : Option (Text × List Text)) (word name : Text) (third : IsThird name) (open_end : bytes_eq word dashes ≡ false) where
  -- with its value
  pub own_fault : (text : Text) → long_of word ≡ Some (name, Some text)
      → turn_fault gen_built [] (stands rows pending idle) word ≡ or_else (settle_fault three false (holds rows pending)) (use_fault false (option_rule name) (text ∷ []) (settled_rows three pending rows))
  own_fault text is = turn_is gen_built [] rows pending idle word refl open_end ∙ rw (is, third.long) (or_none _)

  pub own_step : (text : Text) → long_of word ≡ Some (name, Some text)
      → walked three [] (stands rows pending idle) word ≡ stands (used (option_rule name) (text ∷ []) (settled_rows three pending rows)) None idle
  own_step text is = step_is gen_built [] rows pending idle word refl open_end ∙ rw (is, third.long) refl

  -- without one
  pub name_fault : long_of word ≡ Some (name, None) → turn_fault gen_built [] (stands rows pending idle) word ≡ settle_fault three false (holds rows pending)
  name_fault is = turn_is gen_built [] rows pending idle word refl open_end ∙ rw (is, third.long) (or_none _)

  pub name_step : long_of word ≡ Some (name, None) → walked three [] (stands rows pending idle) word ≡ stands (settled_rows three pending rows) (Some (name, [])) (option name)
  name_step is = step_is gen_built [] rows pending idle word refl open_end ∙ rw (is, third.long) refl

-- the command has these options alone
pub longs_alone : HasLongsAlone gen_built
longs_alone = record { short = λ x. refl; index = refl; stray = tt }

-- ---- a word behind an option that waits for its value

module _ (rows : List Row) (word name : Text) (third : IsThird name) (open_end : bytes_eq word dashes ≡ false) where
  abbrev before : Walk
  before = stands rows (Some (name, [])) (option name)

  abbrev Ends : Kinds → Held × Step → Type 0
  Ends faults met = IsFault (or_else faults (step_fault gen_built 1 met.0 met.1))
      ⊎ ((or_else faults (step_fault gen_built 1 met.0 met.1) ≡ []) × (after_step three word before met.0 met.1 ≡ stands rows (Some (name, word ∷ [])) idle))

  plain_ends : Ends [] (plain_word three (option name) word before.held)
  plain_ends = inr (refl, rw (third.id, third.same) refl)

  settle_refused : IsFault (settle_fault three false before.held)
  settle_refused = rw third.id tt

  -- another option
  long_refused : (a : Option Rule) (v : Option Text) → IsFault (long_fault three false a v before.held)
  long_refused None v = tt
  long_refused (Some a) v = by (takes_values a) v
    where
      by : (takes : Bool) (v : Option Text) → IsFault (if takes then option_fault three false a v before.held else (if is_some v then TooManyValues ∷ [] else react_fault three false a [] before.held))
      by true None = settle_refused
      by true (Some t) = first_fault (settle_fault three false before.held) _ settle_refused
      by false None = first_fault (settle_fault three false before.held) _ settle_refused
      by false (Some t) = tt

  module _ (k : ℕ) (flags : Text) where
    one_flag : (o : Option ℕ) → Ends (bundle_step_fault three false o flags 0 before.held (flags_fault three false k))
        (after_flag three (option name) word (bundle_step three o flags 0 plain before.held (bundle_met three k)).0 (bundle_step three o flags 0 plain before.held (bundle_met three k)).1)
    one_flag None = plain_ends
    one_flag (Some x) = inl tt

  all_flags : (k : ℕ) (flags : Text) → Ends (flags_fault three false k flags 0 before.held)
      (after_flag three (option name) word (bundle_met three k flags 0 plain before.held).0 (bundle_met three k flags 0 plain before.held).1)
  unfolding flags_fault bundle_met
  all_flags zero flags = plain_ends
  all_flags (suc k) flags = one_flag k flags (slice_get (chars flags) 0)

  abbrev pub IsRefused : Type 0
  IsRefused = IsFault (turn_fault gen_built [] before word) × (is_some (strip_byte 45 word) ≡ true)

  abbrev pub IsTaken : Type 0
  IsTaken = (turn_fault gen_built [] before word ≡ []) × (walked three [] before word ≡ stands rows (Some (name, word ∷ [])) idle)

  told_ends : (faults : Kinds) (met : Held × Step) → turn_fault gen_built [] before word ≡ or_else faults (step_fault gen_built 1 met.0 met.1)
      → walked three [] before word ≡ after_step three word before met.0 met.1 → Ends faults met → is_some (strip_byte 45 word) ≡ true → IsRefused ⊎ IsTaken
  told_ends faults met turn step (inl f) dash = inl (subst IsFault (sym turn) f, dash)
  told_ends faults met turn step (inr p) dash = inr (turn ∙ p.0, step ∙ p.1)

  short_ends : (o : Option Text) → long_of word ≡ None → short_of word ≡ o → IsRefused ⊎ IsTaken
  short_ends None long short = inr (
    turn_is gen_built [] rows (Some (name, [])) (option name) word refl open_end ∙ rw (long, short) refl,
    step_is gen_built [] rows (Some (name, [])) (option name) word refl open_end ∙ rw (long, short) (rw (third.id, third.same) refl),
  )
  short_ends (Some flags) long short =
      told_ends (flags_fault three false (length flags) flags 0 before.held)
      (after_flag three (option name) word (bundle_met three (length flags) flags 0 plain before.held).0 (bundle_met three (length flags) flags 0 plain before.held).1)
      (turn_is gen_built [] rows (Some (name, [])) (option name) word refl open_end ∙ rw (long, short) refl)
      (step_is gen_built [] rows (Some (name, [])) (option name) word refl open_end ∙ rw (long, short) refl)
      (all_flags (length flags) flags)
      (starts (strip_byte 45 word) short)
    where
      starts : (o : Option Text) → option_and_then short_of_rest o ≡ Some flags → is_some o ≡ true
      starts None is = absurd (none-some flags is)
      starts (Some t) is = refl

  -- The word is refused, and begins with a hyphen, or it is the value.
  pub behind_name : (o : Option (Text × Option Text)) → long_of word ≡ o → IsRefused ⊎ IsTaken
  behind_name None long = short_ends (short_of word) long refl
  behind_name (Some p) long =
      let met = long_or_other three (option name) word (Some p) before.held in
      let turn : turn_fault gen_built [] before word ≡ or_else (long_fault three false (arg_by_long three p.0) p.1 before.held) (step_fault gen_built 1 met.0 met.1) =
      turn_is gen_built [] rows (Some (name, [])) (option name) word refl open_end ∙ rw long refl in
      inl (subst IsFault (sym turn) (first_fault _ _ (long_refused (arg_by_long three p.0) p.1)), starts (strip_byte 45 word) long)
    where
      starts : (o : Option Text) → option_and_then long_of_rest (option_and_then (strip_byte 45) o) ≡ Some p → is_some o ≡ true
      starts None is = absurd (none-some p is)
      starts (Some t) is = refl
