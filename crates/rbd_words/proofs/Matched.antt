-- What the matches of words ask for.
use Rattle.std.proofs.Common.{◌≡◌, ℕ, true, false, List, [], ◌∷◌, codes, Option, Some, None, inl, inr, refl, sym, ap, ◌∙◌, subst, true≢false}
use Rattle.std.specs.Prelude.{Box, option_and_then, option_map}
use Rattle.std.specs.Borrow.{Bor}
use Rattle.std.specs.Box.{box_value}
use Rattle.std.specs.Str.{bytes_eq}
use Rattle.std.proofs.lemmas.Option.{none-some, same_Some}
use Rattle.clap.proofs.WalkLemmas.{first_value-rows}
use Rattle.clap.specs.Faults.{fault_of}
use Rattle.clap.specs.Kinds.{HasKind, Kinds}
use Rattle.clap.specs.Matches.{first_value, found_of, subcommand_name_of}
use Rattle.clap.specs.Simple.{subcommand_rows, subcommand_rows_of}
use Rattle.clap.specs.Values.{kind_of}
use Rattle.clap.specs.Walk.{Row, Text, first_of, one_of, rows_of}
use Rattle.clap.specs.declared.error.Error.{Error}
use Rattle.clap.specs.declared.error.kind.ErrorKind.TheVariants.{OutOfMemory}
use Rattle.clap.specs.declared.parser.matches.ArgMatches.{ArgMatches}
use Rattle.clap.specs.declared.parser.matches.ArgMatches.TheViews.{out-ArgMatches, out-SubCommand}
use Rattle.clap.specs.declared.parser.matches.Found.{Found}
use Rattle.clap.specs.declared.parser.matches.SubCommand.{SubCommand}
use Rattle.rbd_words.specs.Command.{IsMatched, has_end, lab_command, read, told_options}
use Rattle.rbd_words.specs.Words.{asked_for_by, load_of, number, once}
use Rattle.rbd_words.specs.declared.load.Load.{Load}
use Rattle.rbd_words.specs.declared.asked.Asked.TheVariants.{Generate, Run}
use Rattle.rbd_words.specs.declared.asked.Mode.{Mode}
use Rattle.rbd_words.specs.declared.asked.Mode.TheVariants.{Replies, Trace}
use Rattle.rbd_words.proofs.Commands.{IsAsked, IsWordsRead, words_read}
use Rattle.rbd_words.proofs.Ends.{no_end}
use Rattle.rbd_words.proofs.Walks.{IsFault}

-- ---- one value

module _ (found : Found) (name : Text) (text : Option (Bor Text)) (said : option_map (λ s. s.now) text ≡ first_value found name) where
  pub no_value : text ≡ None → Some None ≡ read (first_of name (rows_of found))
  no_value is = ap read (sym (ap (option_map (λ s. s.now)) is) ∙ said ∙ first_value-rows found name)

  pub one_value : (value : Bor Text) (n : Option ℕ) → text ≡ Some value → n ≡ once None (number value.now) → option_map Some n ≡ read (first_of name (rows_of found))
  one_value value n is told = ap (option_map Some) told ∙ ap read (sym (ap (option_map (λ s. s.now)) is) ∙ said ∙ first_value-rows found name)

-- ---- the command that was met

module _ {Z : Type 0} where
  rows_none : (o : Option (Box SubCommand Z)) → None ≡ option_map (λ b. (out-SubCommand (box_value b)).name.now) o → subcommand_rows o ≡ None
  rows_none None is = refl
  rows_none (Some b) is = absurd (none-some _ is)

  rows_some : (o : Option (Box SubCommand Z)) (name : Text) (rows : List Row) → Some name ≡ option_map (λ b. (out-SubCommand (box_value b)).name.now) o
      → Some rows ≡ option_map (λ p. p.1) (subcommand_rows o) → subcommand_rows o ≡ Some (name, rows)
  rows_some None name rows is are = absurd (none-some name (sym is))
  rows_some (Some b) name rows is are =
      let same_name : name ≡ (out-SubCommand (box_value b)).name.now = same_Some _ _ is in
      let same_rows : rows ≡ rows_of (found_of (out-SubCommand (box_value b)).matches) = same_Some _ _ are in
      λ i. Some (sym same_name i, sym same_rows i)

module _ (words : List Text) (m : ArgMatches) (matched : IsMatched words m) where
  by_rows : IsWordsRead words → IsAsked (subcommand_rows_of m) (asked_for_by words)
  by_rows (inl bad) = absurd (subst IsFault matched.passes bad.0)
  by_rows (inr good) = subst (λ s. IsAsked s (asked_for_by words)) (sym matched.rows) good.1

  asked_is : IsAsked (subcommand_rows_of m) (asked_for_by words)
  asked_is = by_rows (words_read words (no_end words matched.open_end))

  pub nothing_asked : None ≡ subcommand_name_of m → None ≡ asked_for_by words
  nothing_asked is = sym (subst (λ s. IsAsked s (asked_for_by words)) (rows_none (out-ArgMatches m).subcommand is) asked_is)

  module _ (name : Text) (rows : List Row) (is : Some name ≡ subcommand_name_of m) (are : Some rows ≡ option_map (λ p. p.1) (subcommand_rows (out-ArgMatches m).subcommand)) where
    met : IsAsked (Some (name, rows)) (asked_for_by words)
    met = subst (λ s. IsAsked s (asked_for_by words)) (rows_some (out-ArgMatches m).subcommand name rows is are) asked_is

    pub run_is : (mode : Mode) → true ≡ bytes_eq name (codes "run") → (one_of (codes "trace") rows ≡ Some (codes "true") → mode ≡ Trace) → (one_of (codes "trace") rows ≡ Some (codes "false") → mode ≡ Replies)
        → Some (Run mode) ≡ asked_for_by words
    run_is mode named trace replies = by met
      where
        by : IsAsked (Some (name, rows)) (asked_for_by words) → Some (Run mode) ≡ asked_for_by words
        by (inl (_, inl p)) = ap (λ x. Some (Run x)) (replies p.0) ∙ sym p.1
        by (inl (_, inr p)) = ap (λ x. Some (Run x)) (trace p.0) ∙ sym p.1
        by (inr p) = absurd (true≢false (named ∙ ap (λ n. bytes_eq n (codes "run")) p.0))

    pub load_is : (load : Option Load) → false ≡ bytes_eq name (codes "run") → load ≡ option_and_then load_of (told_options rows) → option_map Generate load ≡ asked_for_by words
    load_is load named asked = by met
      where
        by : IsAsked (Some (name, rows)) (asked_for_by words) → option_map Generate load ≡ asked_for_by words
        by (inl p) = absurd (true≢false (sym (ap (λ n. bytes_eq n (codes "run")) p.0) ∙ sym named))
        by (inr p) = ap (option_map Generate) asked ∙ sym p.1

-- ---- words that are refused

pub refused_none : (words : List Text) (e : Error) → has_end words ≡ false → HasKind (fault_of lab_command words) e → (kind_of e ≡ OutOfMemory → ⊥) → asked_for_by words ≡ None
refused_none words e open_end kinds other = by (words_read words (no_end words open_end))
  where
    not_none : (k : Kinds) → k ≡ [] → HasKind k e → ⊥
    not_none [] is (inl memory) = other memory
    not_none [] is (inr none) = absurd none
    not_none (x ∷ xs) is kinds = subst IsFault is tt

    by : IsWordsRead words → asked_for_by words ≡ None
    by (inl bad) = bad.1
    by (inr good) = absurd (not_none (fault_of lab_command words) good.0 kinds)
