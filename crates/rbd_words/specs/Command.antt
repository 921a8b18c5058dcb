-- The command line, as a command of `clap`.
use Rattle.std.specs.Prelude.{◌≡◌, ℕ, Bool, true, false, List, [], codes, Option, Some, None, option_map}
use Rattle.std.specs.List.{list_any}
use Rattle.clap.specs.Faults.{fault_of}
use Rattle.clap.specs.Simple.{App, new_app, new_rule, on_top, subcommand_of, subcommand_rows_of, with_rule, with_subcommand}
use Rattle.clap.specs.Walk.{Row, Rule, Text, first_of}
use Rattle.clap.specs.declared.builder.action.ArgAction.TheVariants.{SetTrue}
use Rattle.clap.specs.declared.builder.command.Command.{Command}
use Rattle.clap.specs.declared.builder.command.Command.TheViews.{out-Command}
use Rattle.clap.specs.declared.parser.matches.ArgMatches.{ArgMatches}
use Rattle.rbd_script.specs.Token.{is}
use Rattle.rbd_words.specs.declared.options.Options.{Options}
use Rattle.rbd_words.specs.Words.{number, once}

-- ---- what is built

-- the command has no option that holds for those below it
abbrev pub IsLocal : Command → Type 0
IsLocal command = (out-Command command).has_globals ≡ false

-- `--name VALUE`
abbrev pub valued : (name : Text) → Rule
valued name = record (new_rule name) { long = Some name }

-- `--name`
abbrev pub flag_rule : (name : Text) → Rule
flag_rule name = record (new_rule name) { long = Some name; action = Some SetTrue }

abbrev pub run_command : App
run_command = with_rule (new_app (codes "run")) (flag_rule (codes "trace"))

abbrev pub gen_command : App
gen_command = with_rule (with_rule (with_rule (new_app (codes "gen")) (valued (codes "seed")))
    (valued (codes "clients"))) (valued (codes "commands"))

-- the words have no program's name before them, and none asks for help
abbrev pub lab_alone : App
lab_alone = on_top (λ s. record s { no_binary_name = true; disable_help_flag = true; disable_help_subcommand = true })
    (new_app (codes "rbd_lab"))

abbrev pub lab_command : App
lab_command = with_subcommand (with_subcommand lab_alone run_command.top) gen_command.top

-- ---- what it finds

-- a word is `--`, behind which `clap` takes no options
abbrev pub has_end : (words : List Text) → Bool
has_end = list_any (is (codes "--"))

-- The words have no fault, and these are their matches.
pub record IsMatched (words : List Text) (matches : ArgMatches) : Type 0 where
  pub open_end : has_end words ≡ false
  pub passes : fault_of lab_command words ≡ []
  pub rows : subcommand_rows_of matches ≡ subcommand_of lab_command words

-- a value, where one was told: none where it isn't a number
abbrev pub read : Option Text → Option (Option ℕ)
read None = Some None
read (Some value) = option_map Some (once None (number value))

abbrev pub options_by_numbers : (seed clients commands : Option (Option ℕ)) → Option Options
options_by_numbers (Some seed) (Some clients) (Some commands) =
    Some (record { seed = seed; clients = clients; commands = commands })
options_by_numbers seed clients commands = None

abbrev pub numbers_of : (seed clients commands : Option Text) → Option Options
numbers_of seed clients commands = options_by_numbers (read seed) (read clients) (read commands)

-- the options that were told, none where a value isn't a number
abbrev pub told_options : List Row → Option Options
told_options rows = numbers_of (first_of (codes "seed") rows) (first_of (codes "clients") rows)
    (first_of (codes "commands") rows)
