-- What `clap` makes of all words is what the rule makes of them.
use Rattle.std.proofs.Common.{◌≡◌, ◌⊎◌, true, false, Bool, List, [], ◌∷◌, ◌++◌, codes, Option, Some, None, inl, inr, refl, sym, ap, ◌∙◌, subst, true≢false}
use Rattle.std.specs.Prelude.{is_some, option_and_then, option_map, fold}
use Rattle.std.specs.Str.{bytes_eq}
use Rattle.std.proofs.lemmas.Option.{none-some, same_Some}
use Rattle.std.proofs.lemmas.Slice.Eq.{bytes_eq-Decides}
use Rattle.clap.proofs.OnLiterals.{clap_on_literals}
use Rattle.clap.proofs.WalkLemmas.{walk_stopped}
use Rattle.clap.specs.Faults.{check_fault, defaults_fault, entered_fault, fault_of, is_simple_and_free, level_fault, settle_fault, turn_fault, walk_fault}
use Rattle.clap.specs.Kinds.{Kinds, or_else}
use Rattle.clap.specs.Lexer.{long_of}
use Rattle.clap.specs.Simple.{App, Shape, built, entered, filled, is_simple, names_of, new_shape, subcommand_of}
use Rattle.clap.specs.Walk.{Names, Row, Text, Walk, idle, finished, settled, used, walk, nothing_held, one_of, rows_after, walk_from, walked}
use Rattle.clap.specs.declared.error.kind.ErrorKind.TheVariants.{TooManyValues}
use Rattle.rbd_script.specs.Token.{is}
use Rattle.rbd_words.specs.Command.{flag_rule, lab_command, told_options}
use Rattle.rbd_words.specs.Words.{asked_for_by, load_asked, load_of, no_options, run_asked, with_words}
use Rattle.rbd_words.specs.declared.asked.Asked.{Asked}
use Rattle.rbd_words.specs.declared.asked.Asked.TheVariants.{Generate, Run}
use Rattle.rbd_words.specs.declared.asked.Mode.TheVariants.{Replies, Trace}
use Rattle.rbd_words.proofs.Forms.{long_form}
use Rattle.rbd_words.proofs.Reading.{HasNoEnd, is_not, load_in, load_read}
use Rattle.rbd_words.proofs.Walks.{HasLongsAlone, IsFault, IsNoLong, dashes, first_fault, gen_built, no_option, or_none, second_fault, stands, turn_is}

-- `run`, and the whole, as they are built
abbrev pub run_built : Shape
run_built = record (new_shape (codes "run")) {
  rules = filled (flag_rule (codes "trace")) ∷ [];
  no_binary_name = true;
  disable_help_flag = true;
  disable_help_subcommand = true;
  is_built = true;
}

abbrev pub lab_built : App
lab_built = record {
  top = record (new_shape (codes "rbd_lab")) {
    is_leaf = false;
    no_binary_name = true;
    disable_help_flag = true;
    disable_help_subcommand = true;
    is_built = true;
  };
  subs = run_built ∷ gen_built ∷ [];
}

built_is : built lab_command ≡ lab_built
built_is = refl

pub is_simple_command : is_simple lab_command ≡ true
is_simple_command = refl

pub is_free_command : is_simple_and_free lab_command ≡ true
is_free_command = refl

-- what the rows of `run` say is asked for
abbrev pub IsMode : List Row → Option Asked → Type 0
IsMode rows asked =
    ((one_of (codes "trace") rows ≡ Some (codes "false")) × (asked ≡ Some (Run Replies)))
    ⊎ ((one_of (codes "trace") rows ≡ Some (codes "true")) × (asked ≡ Some (Run Trace)))

-- ---- behind `run`

run_longs : HasLongsAlone run_built
run_longs = record { short = λ x. refl; index = refl; stray = tt }

top_longs : HasLongsAlone lab_built.top
top_longs = record { short = λ x. refl; index = refl; stray = tt }

abbrev trace : Text
trace = codes "--trace"

-- a word is refused behind `run`, whatever came before, or it is the flag
module _ (rows : List Row) (word : Text) (open_end : bytes_eq word dashes ≡ false) where
  abbrev IsRefusedWord : Type 0
  IsRefusedWord = IsFault (turn_fault run_built [] (stands rows None idle) word) × (is trace word ≡ false)

  named : (p : Option (Text × Option Text)) → long_of word ≡ p → (◌≡◌ {A = Option (Text × Option Text)} p (Some (codes "trace", None)) → ⊥) → is trace word ≡ false
  named p long differ = is_not trace word (λ same. differ (sym long ∙ ap long_of same))

  by_value : (name : Text) (value : Option Text) → long_of word ≡ Some (name, value) → name ≡ codes "trace" → IsRefusedWord ⊎ (word ≡ trace)
  by_value name None long same = inr (long_form word (name, None) long ∙ ap (λ n. 45 ∷ 45 ∷ n) same)
  by_value name (Some value) long same =
      let turn : turn_fault run_built [] (stands rows None idle) word ≡ TooManyValues ∷ [] = turn_is run_built [] rows None idle word refl open_end ∙ rw (long, same) refl in
      inl (
        subst IsFault (sym turn) tt,
        named (Some (name, Some value)) long (λ e. let bad : Some value ≡ None = ap (λ (p : Text × Option Text). p.1) (same_Some (name, Some value) (codes "trace", None) e) in none-some value (sym bad)),
      )

  by_name : (name : Text) (value : Option Text) → long_of word ≡ Some (name, value) → (b : Bool) → bytes_eq (codes "trace") name ≡ b → IsRefusedWord ⊎ (word ≡ trace)
  by_name name value long true is = by_value name value long (sym ((bytes_eq-Decides (codes "trace") name).0 is))
  by_name name value long false is = inl (
    no_option run_built run_longs word rows None [] refl open_end (Some (name, value)) long (rw is refl),
    named (Some (name, value)) long (λ e.
        let same : name ≡ codes "trace" = ap (λ (p : Text × Option Text). p.0) (same_Some (name, value) (codes "trace", None) e) in
        true≢false (sym (ap (bytes_eq (codes "trace")) same) ∙ is)),
  )

  by_long : (p : Option (Text × Option Text)) → long_of word ≡ p → IsRefusedWord ⊎ (word ≡ trace)
  by_long None long = inl (no_option run_built run_longs word rows None [] refl open_end None long tt, named None long (λ e. none-some _ e))
  by_long (Some p) long = by_name p.0 p.1 long (bytes_eq (codes "trace") p.0) refl

  run_word : IsRefusedWord ⊎ (word ≡ trace)
  run_word = by_long (long_of word) refl

abbrev pub run_faults : (words : List Text) → Kinds
run_faults words = level_fault run_built [] nothing_held words false []

abbrev pub run_rows : (words : List Text) → List Row
run_rows words = rows_after run_built.rules [] words

-- The words are refused, or they are none or the flag alone.
abbrev IsRunRead : (words : List Text) → Type 0
IsRunRead words =
    (IsFault (run_faults words) × (run_asked words ≡ None))
    ⊎ ((run_faults words ≡ []) × IsMode (run_rows words) (run_asked words))

no_words : IsRunRead []
unfolding clap_on_literals
no_words = inr (refl, inl (refl, refl))

flag_alone : IsRunRead (trace ∷ [])
unfolding clap_on_literals
flag_alone = inr (refl, inr (refl, refl))

-- what the flag leaves
abbrev flagged : List Row
flagged = used (filled (flag_rule (codes "trace"))) [] []

flag_step : walked run_built.rules [] (stands [] None idle) trace ≡ stands flagged None idle
unfolding clap_on_literals
flag_step = refl

second_flag : IsFault (turn_fault run_built [] (stands flagged None idle) trace)
unfolding clap_on_literals
second_flag = tt

first_refused : (word : Text) (rest : List Text) → IsFault (turn_fault run_built [] (stands [] None idle) word) → IsFault (run_faults (word ∷ rest))
unfolding walk_fault
first_refused word rest f = first_fault _ _ (first_fault (turn_fault run_built [] (stands [] None idle) word) _ f)

second_refused : (next : Text) (rest : List Text) → IsFault (turn_fault run_built [] (stands flagged None idle) next) → IsFault (run_faults (trace ∷ next ∷ rest))
unfolding walk_fault
second_refused next rest f =
    first_fault _ _ (second_fault (turn_fault run_built [] (stands [] None idle) trace) (walk_fault run_built [] (walked run_built.rules [] (stands [] None idle) trace) (next ∷ rest))
    (subst (λ w. IsFault (walk_fault run_built [] w (next ∷ rest))) (sym flag_step) (first_fault (turn_fault run_built [] (stands flagged None idle) next) _ f)))

run_read : (words : List Text) → HasNoEnd words → IsRunRead words
run_read [] ends = no_words
run_read (word ∷ []) ends = by (run_word [] word ends.0)
  where
    by : IsRefusedWord [] word ends.0 ⊎ (word ≡ trace) → IsRunRead (word ∷ [])
    by (inl bad) = inl (first_refused word [] bad.0, rw bad.1 refl)
    by (inr same) = subst (λ w. IsRunRead (w ∷ [])) (sym same) flag_alone
run_read (word ∷ next ∷ rest) ends = by (run_word [] word ends.0)
  where
    behind : IsRefusedWord flagged next ends.1.0 ⊎ (next ≡ trace) → IsFault (run_faults (trace ∷ next ∷ rest))
    behind (inl bad) = second_refused next rest bad.0
    behind (inr same) = second_refused next rest (subst (λ w. IsFault (turn_fault run_built [] (stands flagged None idle) w)) (sym same) second_flag)

    by : IsRefusedWord [] word ends.0 ⊎ (word ≡ trace) → IsRunRead (word ∷ next ∷ rest)
    by (inl bad) = inl (first_refused word (next ∷ rest) bad.0, refl)
    by (inr same) = inl (subst (λ w. IsFault (run_faults (w ∷ next ∷ rest))) (sym same) (behind (run_word flagged next ends.1.0)), refl)

-- ---- all words

abbrev top : Shape
top = lab_built.top

abbrev names : Names
names = names_of lab_built

-- what is refused, by where the walk over the first words ends
abbrev level_of : Walk → Kinds → Kinds
level_of w faults =
    or_else faults (or_else (entered_fault lab_built w.stopped) (or_else (settle_fault [] false w.held)
    (or_else (defaults_fault (settled [] w.held).rows []) (check_fault top (finished [] w.held) (is_some (entered lab_built w.stopped))))))

faults_are : (words : List Text) → fault_of lab_command words ≡ level_of (walk [] names nothing_held words) (walk_fault top names (walk_from nothing_held) words)
faults_are words = refl

-- the words behind a command are its own
module _ (name : Text) (walks : walked [] names (walk_from nothing_held) name ≡ record (walk_from nothing_held) { stopped = Some (name, []) })
    (passes : turn_fault top names (walk_from nothing_held) name ≡ []) where
  stopped_passes : (p : Text × List Text) (words : List Text) → walk_fault top names (record (walk_from nothing_held) { stopped = Some p }) words ≡ []
  unfolding walk_fault walked
  stopped_passes p [] = refl
  stopped_passes p (word ∷ words) = stopped_passes (p.0, p.1 ++ word ∷ []) words

  stops : (words : List Text) → walk [] names nothing_held (name ∷ words) ≡ record (walk_from nothing_held) { stopped = Some (name, words) }
  stops words = ap (λ (w : Walk). fold (walked [] names) w words) walks ∙ sym (walk_stopped [] names (walk_from nothing_held) name [] words)

  none_above : (words : List Text) → walk_fault top names (walk_from nothing_held) (name ∷ words) ≡ []
  unfolding walk_fault
  none_above words =
      ap (λ k. or_else k (walk_fault top names (walked [] names (walk_from nothing_held) name) words)) passes
      ∙ ap (λ (w : Walk). walk_fault top names w words) walks ∙ stopped_passes (name, []) words

  faults_below : (words : List Text) → fault_of lab_command (name ∷ words) ≡ level_of (record (walk_from nothing_held) { stopped = Some (name, words) }) []
  faults_below words = λ i. level_of (stops words i) (none_above words i)

  rows_below : (words : List Text) → subcommand_of lab_command (name ∷ words) ≡ entered lab_built (Some (name, words))
  rows_below words = ap (λ (w : Walk). entered lab_built w.stopped) (stops words)

run_walks : walked [] names (walk_from nothing_held) (codes "run") ≡ record (walk_from nothing_held) { stopped = Some (codes "run", []) }
unfolding clap_on_literals
run_walks = refl

run_passes : turn_fault top names (walk_from nothing_held) (codes "run") ≡ []
unfolding clap_on_literals
run_passes = refl

gen_walks : walked [] names (walk_from nothing_held) (codes "gen") ≡ record (walk_from nothing_held) { stopped = Some (codes "gen", []) }
unfolding clap_on_literals
gen_walks = refl

gen_passes : turn_fault top names (walk_from nothing_held) (codes "gen") ≡ []
unfolding clap_on_literals
gen_passes = refl

abbrev gen_faults : (words : List Text) → Kinds
gen_faults words = level_fault gen_built [] nothing_held words false []

run_faults_are : (words : List Text) → fault_of lab_command (codes "run" ∷ words) ≡ run_faults words
unfolding defaults_fault
run_faults_are words = faults_below (codes "run") run_walks run_passes words ∙ or_none (run_faults words)

gen_faults_are : (words : List Text) → fault_of lab_command (codes "gen" ∷ words) ≡ gen_faults words
unfolding defaults_fault
gen_faults_are words = faults_below (codes "gen") gen_walks gen_passes words ∙ or_none (gen_faults words)

-- any other first word is refused
module _ (word : Text) (rest : List Text) (open_end : bytes_eq word dashes ≡ false) (no_run : bytes_eq (codes "run") word ≡ false) (no_gen : bytes_eq (codes "gen") word ≡ false) where
  no_long : (p : Option (Text × Option Text)) → IsNoLong top p
  no_long None = tt
  no_long (Some p) = refl

  other_refused : IsFault (fault_of lab_command (word ∷ rest))
  unfolding walk_fault
  other_refused = first_fault (walk_fault top names (walk_from nothing_held) (word ∷ rest)) _
      (first_fault (turn_fault top names (walk_from nothing_held) word) _
      (no_option top top_longs word [] None names (rw (no_run, no_gen) refl) open_end (long_of word) refl (no_long (long_of word))))

  other_asked : asked_for_by (word ∷ rest) ≡ None
  other_asked = rw (
    is_not (codes "run") word (λ same. true≢false (ap (bytes_eq (codes "run")) (sym same) ∙ no_run)),
    is_not (codes "gen") word (λ same. true≢false (ap (bytes_eq (codes "gen")) (sym same) ∙ no_gen)),
  ) refl

-- what the matches of a command say is asked for
abbrev pub IsAsked : Option (Text × List Row) → Option Asked → Type 0
IsAsked None asked = asked ≡ None
IsAsked (Some p) asked =
    ((p.0 ≡ codes "run") × IsMode p.1 asked)
    ⊎ ((p.0 ≡ codes "gen") × (asked ≡ option_map Generate (option_and_then load_of (told_options p.1))))

-- The words are refused, and ask for nothing, or what they are matched with says what they ask for.
abbrev pub IsWordsRead : (words : List Text) → Type 0
IsWordsRead words =
    (IsFault (fault_of lab_command words) × (asked_for_by words ≡ None))
    ⊎ ((fault_of lab_command words ≡ []) × IsAsked (subcommand_of lab_command words) (asked_for_by words))

behind_run : (words : List Text) → IsRunRead words → IsWordsRead (codes "run" ∷ words)
behind_run words (inl bad) = inl (subst IsFault (sym (run_faults_are words)) bad.0, bad.1)
behind_run words (inr good) = inr (run_faults_are words ∙ good.0, subst (λ s. IsAsked s (run_asked words)) (sym (rows_below (codes "run") run_walks run_passes words)) (inl (refl, good.1)))

behind_gen : (words : List Text) → HasNoEnd words → (k : Kinds) → gen_faults words ≡ k → IsWordsRead (codes "gen" ∷ words)
behind_gen words ends k is = by k is (load_read words ends)
  where
    by : (k : Kinds) → gen_faults words ≡ k → load_in (gen_faults words) (rows_after gen_built.rules [] words) ≡ option_and_then load_of (with_words no_options words) → IsWordsRead (codes "gen" ∷ words)
    by [] is read = inr (
      gen_faults_are words ∙ is,
      subst (λ s. IsAsked s (load_asked words)) (sym (rows_below (codes "gen") gen_walks gen_passes words))
          (inr (refl, ap (option_map Generate) (sym read ∙ ap (λ k. load_in k (rows_after gen_built.rules [] words)) is))),
    )
    by (k ∷ ks) is read = inl (
      subst IsFault (sym (gen_faults_are words ∙ is)) tt,
      ap (option_map Generate) (sym read ∙ ap (λ k. load_in k (rows_after gen_built.rules [] words)) is),
    )

no_words_read : IsWordsRead []
unfolding clap_on_literals
no_words_read = inr (refl, refl)

pub words_read : (words : List Text) → HasNoEnd words → IsWordsRead words
words_read [] ends = no_words_read
words_read (word ∷ rest) ends = by (bytes_eq (codes "run") word) (bytes_eq (codes "gen") word) refl refl
  where
    by : (a b : Bool) → bytes_eq (codes "run") word ≡ a → bytes_eq (codes "gen") word ≡ b → IsWordsRead (word ∷ rest)
    by true b is other = subst (λ w. IsWordsRead (w ∷ rest)) ((bytes_eq-Decides (codes "run") word).0 is) (behind_run rest (run_read rest ends.1))
    by false true no_run is = subst (λ w. IsWordsRead (w ∷ rest)) ((bytes_eq-Decides (codes "gen") word).0 is) (behind_gen rest ends.1 (gen_faults rest) refl)
    by false false no_run no_gen = inl (other_refused word rest ends.0 no_run no_gen, other_asked word rest ends.0 no_run no_gen)
