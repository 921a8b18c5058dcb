-- What the words of the command line ask for.
use Rattle.std.specs.Prelude.{ℕ, ◌==◌, ◌&&◌, Bool, if◌then◌else◌, nat_le, nat_lt, List, [], ◌∷◌, length, codes, Option, Some, None, option_and_then, option_map, Result, Ok, Err}
use Rattle.std.specs.List.{after_first, before_first, position_or_len}
use Rattle.rbd_script.specs.declared.fault.LineCause.{LineCause}
use Rattle.rbd_script.specs.Number.{number_between}
use Rattle.rbd_script.specs.Token.{is}
use Rattle.rbd_words.specs.declared.asked.Asked.{Asked}
use Rattle.rbd_words.specs.declared.asked.Asked.TheVariants.{Run, Generate}
use Rattle.rbd_words.specs.declared.asked.Mode.TheVariants.{Replies, Trace}
use Rattle.rbd_words.specs.Load.{IsLoad}
use Rattle.rbd_words.specs.declared.load.Load.{Load}
use Rattle.rbd_words.specs.declared.options.Options.{Options}

-- ---- the options of `gen`

abbrev pub no_options : Options
no_options = record { seed = None; clients = None; commands = None }

-- a number that was not told before
abbrev pub once : Option ℕ → Result ℕ LineCause → Option ℕ
once None (Ok number) = Some number
once None (Err cause) = None
once (Some before) number = None

-- a number as scripts have numbers, of 32 bits
abbrev pub number : (value : List ℕ) → Result ℕ LineCause
number value = number_between 0 4294967295 value

-- One option more: none where there is no such option, where it was told before, or where its value
-- isn't a number.
abbrev pub with_option : Options → (name value : List ℕ) → Option Options
with_option told name value =
    if is (codes "--seed") name then option_map (λ n. record told { seed = Some n }) (once told.seed (number value))
    else if is (codes "--clients") name then option_map (λ n. record told { clients = Some n })
    (once told.clients (number value))
    else if is (codes "--commands") name then option_map (λ n. record told { commands = Some n })
    (once told.commands (number value))
    else None

abbrev pub is_equals : ℕ → Bool
is_equals b = b == 61

-- `--seed=7`: the value stands in the word, behind its first `=`
abbrev pub has_value : (word : List ℕ) → Bool
has_value word = nat_lt (position_or_len is_equals word) (length word)

abbrev pub with_own_value : Options → (word : List ℕ) → Option Options
with_own_value told word =
    if has_value word then with_option told (before_first is_equals word) (after_first is_equals word) else None

-- The options that the words tell behind those that were told, each with its value: that in the
-- word, or else the next word.
unfoldable pub with_words : Options → List (List ℕ) → Option Options
with_words told [] = Some told
with_words told (word ∷ []) = with_own_value told word
with_words told (word ∷ next ∷ words) =
    if has_value word then option_and_then (λ more. with_words more (next ∷ words)) (with_own_value told word)
    else option_and_then (λ more. with_words more words) (with_option told word next)

-- all three options, where their numbers are in their ranges
abbrev pub load_by : (seed clients commands : Option ℕ) → Option Load
load_by (Some seed) (Some clients) (Some commands) =
    if nat_le 1 clients && nat_le clients 16 && nat_le commands 10000
    then Some (record { seed = seed; clients = clients; commands = commands }) else None
load_by seed clients commands = None

abbrev pub load_of : Options → Option Load
load_of told = load_by told.seed told.clients told.commands

-- ---- all words

-- behind `run`
abbrev pub run_asked : List (List ℕ) → Option Asked
run_asked [] = Some (Run Replies)
run_asked (word ∷ []) = if is (codes "--trace") word then Some (Run Trace) else None
run_asked (word ∷ next ∷ words) = None

-- behind `gen`
abbrev pub load_asked : List (List ℕ) → Option Asked
load_asked words = option_map Generate (option_and_then load_of (with_words no_options words))

-- what the words ask for, none where they are others
abbrev pub asked_for_by : List (List ℕ) → Option Asked
asked_for_by [] = None
asked_for_by (word ∷ words) = if is (codes "run") word then run_asked words else if is (codes "gen") word
    then load_asked words else None

-- what is asked for is in its range
abbrev pub IsInRange : Asked → Type 0
IsInRange (Run mode) = Unit {0}
IsInRange (Generate load) = IsLoad load
