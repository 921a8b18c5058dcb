-- What the rows of `clap` tell of a load, option by option.
use Rattle.std.proofs.Common.{◌≡◌, ℕ, ◌≤◌, true, false, Bool, List, [], ◌∷◌, ◌++◌, codes, Option, Some, None, Result, Ok, Err, refl, sym, ap, ◌∙◌, subst, true≢false, arith}
use Rattle.std.specs.Prelude.{◌==◌, decimal, is_some, option_and_then, option_map, if◌then◌else◌}
use Rattle.std.specs.List.{list_all}
use Rattle.std.specs.Str.{bytes_eq}
use Rattle.std.proofs.lemmas.Bool.{and_parts, eqb-true, le-leb}
use Rattle.std.proofs.lemmas.Fmt.{digits_decimal}
use Rattle.clap.specs.Faults.{use_fault}
use Rattle.clap.specs.Kinds.{Kinds}
use Rattle.clap.specs.Lexer.{strip_byte}
use Rattle.clap.specs.Walk.{Row, Text, first_of, has_row, used}
use Rattle.rbd_script.specs.declared.fault.LineCause.{LineCause}
use Rattle.rbd_script.specs.Number.{is_digit}
use Rattle.rbd_script.specs.Token.{is}
use Rattle.rbd_script.proofs.Numerals.{digits}
use Rattle.rbd_script.proofs.TokenSpelling.{number_said}
use Rattle.rbd_words.specs.declared.options.Options.{Options}
use Rattle.rbd_words.specs.Command.{options_by_numbers, numbers_of, read, told_options}
use Rattle.rbd_words.specs.Words.{number, once, with_option, with_words}
use Rattle.rbd_words.proofs.OptionLemmas.{next_value, no_value, own_value}
use Rattle.rbd_words.proofs.Rows.{new_row, option_rule, repeat_of, told_now, told_still, untold, use_is, used_is}
use Rattle.rbd_words.proofs.Walks.{IsFault, IsThird}

same_three : (a b c a' b' c' : Option Text) → a ≡ a' → b ≡ b' → c ≡ c' → numbers_of a b c ≡ numbers_of a' b' c'
same_three a b c a' b' c' p q r = λ i. numbers_of (p i) (q i) (r i)

abbrev pub told_in : Kinds → List Row → Option Options
told_in [] rows = told_options rows
told_in (k ∷ ks) rows = None

-- each row has a value
pub record IsWhole (rows : List Row) : Type 0 where
  pub seed : has_row (codes "seed") rows ≡ is_some (first_of (codes "seed") rows)
  pub clients : has_row (codes "clients") rows ≡ is_some (first_of (codes "clients") rows)
  pub commands : has_row (codes "commands") rows ≡ is_some (first_of (codes "commands") rows)

-- ---- one option more

abbrev seed_more : (r : Result ℕ LineCause) → Option Options → Option Options
seed_more r = option_and_then (λ t. option_map (λ n. record t { seed = Some n }) (once t.seed r))

abbrev clients_more : (r : Result ℕ LineCause) → Option Options → Option Options
clients_more r = option_and_then (λ t. option_map (λ n. record t { clients = Some n }) (once t.clients r))

abbrev commands_more : (r : Result ℕ LineCause) → Option Options → Option Options
commands_more r = option_and_then (λ t. option_map (λ n. record t { commands = Some n }) (once t.commands r))

seed_new : (r : Result ℕ LineCause) (b c : Option (Option ℕ)) → options_by_numbers (option_map Some (once None r)) b c ≡ seed_more r (options_by_numbers (Some None) b c)
seed_new (Ok n) (Some b) (Some c) = refl
seed_new (Ok n) (Some b) None = refl
seed_new (Ok n) None c = refl
seed_new (Err e) (Some b) (Some c) = refl
seed_new (Err e) (Some b) None = refl
seed_new (Err e) None c = refl

clients_new : (r : Result ℕ LineCause) (a c : Option (Option ℕ)) → options_by_numbers a (option_map Some (once None r)) c ≡ clients_more r (options_by_numbers a (Some None) c)
clients_new (Ok n) (Some a) (Some c) = refl
clients_new (Ok n) (Some a) None = refl
clients_new (Ok n) None c = refl
clients_new (Err e) (Some a) (Some c) = refl
clients_new (Err e) (Some a) None = refl
clients_new (Err e) None c = refl

commands_new : (r : Result ℕ LineCause) (a b : Option (Option ℕ)) → options_by_numbers a b (option_map Some (once None r)) ≡ commands_more r (options_by_numbers a b (Some None))
commands_new (Ok n) (Some a) (Some b) = refl
commands_new (Ok n) (Some a) None = refl
commands_new (Ok n) None b = refl
commands_new (Err e) (Some a) (Some b) = refl
commands_new (Err e) (Some a) None = refl
commands_new (Err e) None b = refl

seed_again : (q r : Result ℕ LineCause) (b c : Option (Option ℕ)) → None ≡ seed_more r (options_by_numbers (option_map Some (once None q)) b c)
seed_again (Ok n) r (Some b) (Some c) = refl
seed_again (Ok n) r (Some b) None = refl
seed_again (Ok n) r None c = refl
seed_again (Err e) r b c = refl

clients_again : (q r : Result ℕ LineCause) (a c : Option (Option ℕ)) → None ≡ clients_more r (options_by_numbers a (option_map Some (once None q)) c)
clients_again (Ok n) r (Some a) (Some c) = refl
clients_again (Ok n) r (Some a) None = refl
clients_again (Ok n) r None c = refl
clients_again (Err e) r (Some a) c = refl
clients_again (Err e) r None c = refl

commands_again : (q r : Result ℕ LineCause) (a b : Option (Option ℕ)) → None ≡ commands_more r (options_by_numbers a b (option_map Some (once None q)))
commands_again (Ok n) r (Some a) (Some b) = refl
commands_again (Ok n) r (Some a) None = refl
commands_again (Ok n) r None b = refl
commands_again (Err e) r (Some a) (Some b) = refl
commands_again (Err e) r (Some a) None = refl
commands_again (Err e) r None b = refl

-- ---- values that are no numbers

digit_first : (n : ℕ) → n ≤ 4294967295 → (value : Text) → value ≡ decimal n → is_some (strip_byte 45 value) ≡ true → ⊥
digit_first n small value said begins =
    let all : list_all is_digit value ≡ true = ap (list_all is_digit) said ∙ digits_decimal digits n (omega arith) in
    by value all begins
  where
    by : (value : Text) → list_all is_digit value ≡ true → is_some (strip_byte 45 value) ≡ true → ⊥
    by [] all begins = true≢false (sym begins)
    by (b ∷ bs) all begins =
        let first = and_parts _ _ all in
        at (b == 45) refl first.0 begins
      where
        at : (t : Bool) → (b == 45) ≡ t → is_digit b ≡ true → is_some (if t then Some bs else None) ≡ true → ⊥
        at true same digit begins = let sign = eqb-true b 45 same in true≢false (sym digit ∙ ap is_digit sign)
        at false same digit begins = true≢false (sym begins)

-- a word that begins with a hyphen is no number
pub no_number : (before : Option ℕ) (value : Text) → is_some (strip_byte 45 value) ≡ true → once before (number value) ≡ None
no_number (Some n) value begins = refl
no_number None value begins = go (number value) refl
  where
    go : (r : Result ℕ LineCause) → number value ≡ r → once None r ≡ None
    go (Err e) read = refl
    go (Ok n) read = let said = number_said 0 4294967295 n value (omega arith) read in absurd (digit_first n said.2 value said.0 begins)

pub no_value_told : (t : Options) (name value : Text) → is_some (strip_byte 45 value) ≡ true → with_option t name value ≡ None
no_value_told t name value begins =
    rw (no_number t.seed value begins, no_number t.clients value begins, no_number t.commands value begins) (go (is (codes "--seed") name) (is (codes "--clients") name) (is (codes "--commands") name))
  where
    go : (a b c : Bool) → ◌≡◌ {A = Option Options} (if a then None else if b then None else if c then None else None) None
    go true b c = refl
    go false true c = refl
    go false false true = refl
    go false false false = refl

-- ---- an option of the three

-- one more is told
module _ (name value : Text) (rows : List Row) (whole : has_row name rows ≡ is_some (first_of name rows)) (tells : Option Options)
    (again : (before : Text) → first_of name rows ≡ Some before → None ≡ tells)
    (new : has_row name rows ≡ false → told_options (rows ++ new_row name value ∷ []) ≡ tells) where
  tells_by : told_in (use_fault false (option_rule name) (value ∷ []) rows) (used (option_rule name) (value ∷ []) rows) ≡ tells
  tells_by = go (has_row name rows) refl
    where
      before : (o : Option Text) → first_of name rows ≡ o → has_row name rows ≡ true → None ≡ tells
      before None is has = absurd (true≢false (sym has ∙ whole ∙ ap is_some is))
      before (Some t) is has = again t is

      go : (b : Bool) → has_row name rows ≡ b → told_in (use_fault false (option_rule name) (value ∷ []) rows) (used (option_rule name) (value ∷ []) rows) ≡ tells
      go true has = ap (λ f. told_in f (used (option_rule name) (value ∷ []) rows)) (use_is name value rows ∙ ap repeat_of has) ∙ before (first_of name rows) refl has
      go false none = ap (λ f. told_in f (used (option_rule name) (value ∷ []) rows)) (use_is name value rows ∙ ap repeat_of none) ∙ ap told_options (used_is name value rows none) ∙ new none

once_only : (name value : Text) (rows : List Row) → use_fault false (option_rule name) (value ∷ []) rows ≡ [] → has_row name rows ≡ false
once_only name value rows passes = go (has_row name rows) refl
  where
    go : (b : Bool) → has_row name rows ≡ b → b ≡ false
    go false none = refl
    go true has = absurd (subst IsFault (sym (ap repeat_of has) ∙ sym (use_is name value rows) ∙ passes) tt)

pub record IsTold (name : Text) : Type 0 where
  pub third : IsThird name
  pub tells : (rows : List Row) (value : Text) → IsWhole rows
      → told_in (use_fault false (option_rule name) (value ∷ []) rows) (used (option_rule name) (value ∷ []) rows) ≡ option_and_then (λ t. with_option t (45 ∷ 45 ∷ name) value) (told_options rows)
  pub whole : (rows : List Row) (value : Text) → use_fault false (option_rule name) (value ∷ []) rows ≡ [] → IsWhole rows → IsWhole (used (option_rule name) (value ∷ []) rows)
  pub own : (t : Options) (value : Text) (rest : List Text)
      → with_words t ((45 ∷ 45 ∷ name ++ 61 ∷ value) ∷ rest) ≡ option_and_then (λ more. with_words more rest) (with_option t (45 ∷ 45 ∷ name) value)
  pub next : (t : Options) (value : Text) (rest : List Text)
      → with_words t ((45 ∷ 45 ∷ name) ∷ value ∷ rest) ≡ option_and_then (λ more. with_words more rest) (with_option t (45 ∷ 45 ∷ name) value)
  pub last : (t : Options) → with_words t ((45 ∷ 45 ∷ name) ∷ []) ≡ None

module _ (rows : List Row) where
  abbrev seed_in : Option Text
  seed_in = first_of (codes "seed") rows

  abbrev clients_in : Option Text
  clients_in = first_of (codes "clients") rows

  abbrev commands_in : Option Text
  commands_in = first_of (codes "commands") rows

  module _ (value : Text) (whole : IsWhole rows) where
    seed_tells : told_in (use_fault false (option_rule (codes "seed")) (value ∷ []) rows) (used (option_rule (codes "seed")) (value ∷ []) rows) ≡ seed_more (number value) (told_options rows)
    seed_tells = tells_by (codes "seed") value rows whole.seed (seed_more (number value) (told_options rows))
        (λ before is. seed_again (number before) (number value) (read clients_in) (read commands_in) ∙ ap (λ o. seed_more (number value) (numbers_of o clients_in commands_in)) (sym is))
        (λ none. same_three _ _ _ _ _ _ (told_now (codes "seed") value rows none refl).1 (told_still (codes "seed") value (codes "clients") rows refl).1 (told_still (codes "seed") value (codes "commands") rows refl).1
        ∙ seed_new (number value) (read clients_in) (read commands_in) ∙ ap (λ o. seed_more (number value) (numbers_of o clients_in commands_in)) (sym (untold (codes "seed") rows none)))

    clients_tells : told_in (use_fault false (option_rule (codes "clients")) (value ∷ []) rows) (used (option_rule (codes "clients")) (value ∷ []) rows) ≡ clients_more (number value) (told_options rows)
    clients_tells = tells_by (codes "clients") value rows whole.clients (clients_more (number value) (told_options rows))
        (λ before is. clients_again (number before) (number value) (read seed_in) (read commands_in) ∙ ap (λ o. clients_more (number value) (numbers_of seed_in o commands_in)) (sym is))
        (λ none. same_three _ _ _ _ _ _ (told_still (codes "clients") value (codes "seed") rows refl).1 (told_now (codes "clients") value rows none refl).1 (told_still (codes "clients") value (codes "commands") rows refl).1
        ∙ clients_new (number value) (read seed_in) (read commands_in) ∙ ap (λ o. clients_more (number value) (numbers_of seed_in o commands_in)) (sym (untold (codes "clients") rows none)))

    commands_tells : told_in (use_fault false (option_rule (codes "commands")) (value ∷ []) rows) (used (option_rule (codes "commands")) (value ∷ []) rows) ≡ commands_more (number value) (told_options rows)
    commands_tells = tells_by (codes "commands") value rows whole.commands (commands_more (number value) (told_options rows))
        (λ before is. commands_again (number before) (number value) (read seed_in) (read clients_in) ∙ ap (λ o. commands_more (number value) (numbers_of seed_in clients_in o)) (sym is))
        (λ none. same_three _ _ _ _ _ _ (told_still (codes "commands") value (codes "seed") rows refl).1 (told_still (codes "commands") value (codes "clients") rows refl).1 (told_now (codes "commands") value rows none refl).1
        ∙ commands_new (number value) (read seed_in) (read clients_in) ∙ ap (λ o. commands_more (number value) (numbers_of seed_in clients_in o)) (sym (untold (codes "commands") rows none)))

    module _ (name : Text) (none : has_row name rows ≡ false) (same : bytes_eq name name ≡ true) where
      now_whole : has_row name (rows ++ new_row name value ∷ []) ≡ is_some (first_of name (rows ++ new_row name value ∷ []))
      now_whole = let now = told_now name value rows none same in now.0 ∙ ap is_some (sym now.1)

      still_whole : (other : Text) → bytes_eq name other ≡ false → has_row other rows ≡ is_some (first_of other rows) → has_row other (rows ++ new_row name value ∷ []) ≡ is_some (first_of other (rows ++ new_row name value ∷ []))
      still_whole other differ was = let still = told_still name value other rows differ in still.0 ∙ was ∙ ap is_some (sym still.1)

    seed_whole : use_fault false (option_rule (codes "seed")) (value ∷ []) rows ≡ [] → IsWhole (used (option_rule (codes "seed")) (value ∷ []) rows)
    seed_whole passes =
        let none = once_only (codes "seed") value rows passes in
        subst IsWhole (sym (used_is (codes "seed") value rows none)) (record {
          seed = now_whole (codes "seed") none refl;
          clients = still_whole (codes "seed") none refl (codes "clients") refl whole.clients;
          commands = still_whole (codes "seed") none refl (codes "commands") refl whole.commands;
        })

    clients_whole : use_fault false (option_rule (codes "clients")) (value ∷ []) rows ≡ [] → IsWhole (used (option_rule (codes "clients")) (value ∷ []) rows)
    clients_whole passes =
        let none = once_only (codes "clients") value rows passes in
        subst IsWhole (sym (used_is (codes "clients") value rows none)) (record {
          seed = still_whole (codes "clients") none refl (codes "seed") refl whole.seed;
          clients = now_whole (codes "clients") none refl;
          commands = still_whole (codes "clients") none refl (codes "commands") refl whole.commands;
        })

    commands_whole : use_fault false (option_rule (codes "commands")) (value ∷ []) rows ≡ [] → IsWhole (used (option_rule (codes "commands")) (value ∷ []) rows)
    commands_whole passes =
        let none = once_only (codes "commands") value rows passes in
        subst IsWhole (sym (used_is (codes "commands") value rows none)) (record {
          seed = still_whole (codes "commands") none refl (codes "seed") refl whole.seed;
          clients = still_whole (codes "commands") none refl (codes "clients") refl whole.clients;
          commands = now_whole (codes "commands") none refl;
        })

pub seed_told : IsTold (codes "seed")
seed_told = record {
  third = record { long = refl; id = refl; same = refl };
  tells = seed_tells;
  whole = λ rows value passes whole. seed_whole rows value whole passes;
  own = λ t value rest. own_value t (codes "--seed" ++ 61 ∷ value) rest (le-leb _ _ (omega arith));
  next = λ t value rest. next_value t (codes "--seed") value rest refl;
  last = λ t. no_value t (codes "--seed") refl;
}

pub clients_told : IsTold (codes "clients")
clients_told = record {
  third = record { long = refl; id = refl; same = refl };
  tells = clients_tells;
  whole = λ rows value passes whole. clients_whole rows value whole passes;
  own = λ t value rest. own_value t (codes "--clients" ++ 61 ∷ value) rest (le-leb _ _ (omega arith));
  next = λ t value rest. next_value t (codes "--clients") value rest refl;
  last = λ t. no_value t (codes "--clients") refl;
}

pub commands_told : IsTold (codes "commands")
commands_told = record {
  third = record { long = refl; id = refl; same = refl };
  tells = commands_tells;
  whole = λ rows value passes whole. commands_whole rows value whole passes;
  own = λ t value rest. own_value t (codes "--commands" ++ 61 ∷ value) rest (le-leb _ _ (omega arith));
  next = λ t value rest. next_value t (codes "--commands") value rest refl;
  last = λ t. no_value t (codes "--commands") refl;
}
