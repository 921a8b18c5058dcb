-- Words that ask for a load are its three options.
use Rattle.std.proofs.Common.{◌≡◌, ◌⊎◌, ℕ, ◌<◌, ◌≤◌, true, false, Bool, List, [], ◌∷◌, ◌++◌, codes, length, Option, Some, None, Result, Ok, Err, inl, inr, refl, sym, ap, ◌∙◌, subst, arith}
use Rattle.std.proofs.Common.{append-nil}
use Rattle.std.specs.Prelude.{decimal, option_and_then, option_map, nat_le, if◌then◌else◌, ◌&&◌}
use Rattle.std.specs.Cmp.Lexicographic.{same_text}
use Rattle.std.specs.List.{after_first, before_first, position_or_len}
use Rattle.std.proofs.lemmas.Bool.{and_parts, eqb-true, leb-true, ltb-true}
use Rattle.std.proofs.lemmas.List.Sums.{passes_at_first, split_at_first}
use Rattle.std.proofs.lemmas.Option.{none-some, same_Some}
use Rattle.rbd_script.proofs.TokenSpelling.{number_said}
use Rattle.rbd_script.specs.declared.fault.LineCause.{LineCause}
use Rattle.rbd_script.specs.Token.{is}
use Rattle.rbd_words.specs.declared.asked.Asked.TheVariants.{Generate, Run}
use Rattle.rbd_words.specs.declared.asked.Mode.TheVariants.{Trace}
use Rattle.rbd_words.specs.declared.load.Load.{Load}
use Rattle.rbd_words.specs.declared.options.Options.{Options}
use Rattle.rbd_words.specs.Load.{IsLoad}
use Rattle.rbd_words.specs.Spelling.{AreInAnyOrder, AsksForLoad, IsOption, SpellsLoad}
use Rattle.rbd_words.specs.Words.{asked_for_by, has_value, is_equals, load_asked, load_by, load_of, no_options, number, once, run_asked, with_option, with_words}

-- ---- one option

-- a word that has its value is made of both
pub own_is : (word : List ℕ) → has_value word ≡ true → word ≡ before_first is_equals word ++ 61 ∷ after_first is_equals word
own_is word has =
    let short : position_or_len is_equals word < length word = ltb-true _ _ has in
    let equals = eqb-true _ 61 (passes_at_first is_equals word 0 short) in
    split_at_first is_equals word 0 short ∙ ap (λ b. before_first is_equals word ++ b ∷ after_first is_equals word) equals

once_told : (before : Option ℕ) (r : Result ℕ LineCause) (n : ℕ) → once before r ≡ Some n → (before ≡ None) × (r ≡ Ok n)
once_told None (Ok m) n told = (refl, ap Ok (same_Some m n told))
once_told None (Err cause) n told = absurd (none-some n told)
once_told (Some m) r n told = absurd (none-some n told)

-- an option that is told behind these words, and the words behind it
record IsStep (name : List ℕ) (before : Option ℕ) (after : ℕ → Options) (words : List (List ℕ)) (final : Options) : Type 0 where
  n : ℕ
  option : List (List ℕ)
  rest : List (List ℕ)
  is_option : IsOption name n option
  are : words ≡ option ++ rest
  new : before ≡ None
  small : n ≤ 4294967295
  more : with_words (after n) rest ≡ Some final

abbrev with_seed : Options → ℕ → Options
with_seed told n = record told { seed = Some n }

abbrev with_clients : Options → ℕ → Options
with_clients told n = record told { clients = Some n }

abbrev with_commands : Options → ℕ → Options
with_commands told n = record told { commands = Some n }

abbrev Steps : Options → (words : List (List ℕ)) → (final : Options) → Type 0
Steps told words final =
    IsStep (codes "--seed") told.seed (with_seed told) words final
    ⊎ (IsStep (codes "--clients") told.clients (with_clients told) words final
    ⊎ IsStep (codes "--commands") told.commands (with_commands told) words final)

-- how the name and the value stand in the words
abbrev Spells : (name value : List ℕ) → (option : List (List ℕ)) → Type 0
Spells name value option = (option ≡ name ∷ value ∷ []) ⊎ (option ≡ (name ++ 61 ∷ value) ∷ [])

spelled : (name value wanted : List ℕ) (n : ℕ) (option : List (List ℕ)) → name ≡ wanted → value ≡ decimal n → Spells name value option → IsOption wanted n option
spelled name value wanted n option is_name is_value (inl is) = inl (is ∙ ap (λ w. w ∷ value ∷ []) is_name ∙ ap (λ v. wanted ∷ v ∷ []) is_value)
spelled name value wanted n option is_name is_value (inr is) = inr (is ∙ ap (λ w. (w ++ 61 ∷ value) ∷ []) is_name ∙ ap (λ v. (wanted ++ 61 ∷ v) ∷ []) is_value)

-- one step, where the option adds to what was told
module _ (name value : List ℕ) (option rest : List (List ℕ)) (spells : Spells name value option) (words : List (List ℕ)) (are : words ≡ option ++ rest) (final : Options) where
  of_option : (wanted : List ℕ) (before : Option ℕ) (after : ℕ → Options) → is wanted name ≡ true
      → option_and_then (λ more. with_words more rest) (option_map after (once before (number value))) ≡ Some final → IsStep wanted before after words final
  of_option wanted before after named all = go (once before (number value)) refl all
    where
      go : (r : Option ℕ) → once before (number value) ≡ r → option_and_then (λ more. with_words more rest) (option_map after r) ≡ Some final → IsStep wanted before after words final
      go None told all = absurd (none-some final all)
      go (Some n) told all =
          let parts = once_told before (number value) n told in
          let said = number_said 0 4294967295 n value (omega arith) parts.1 in
          record {
            n = n;
            option = option;
            rest = rest;
            is_option = spelled name value wanted n option (same_text name wanted (sym named)) said.0 spells;
            are = are;
            new = parts.0;
            small = said.2;
            more = all;
          }

  -- what the name tells, where it isn't the first
  abbrev others : (told : Options) → (clients commands : Bool) → Option Options
  others told clients commands =
      if clients then option_map (with_clients told) (once told.clients (number value))
      else if commands then option_map (with_commands told) (once told.commands (number value))
      else None

  step_by : (told : Options) → option_and_then (λ more. with_words more rest) (with_option told name value) ≡ Some final → Steps told words final
  step_by told all = first (is (codes "--seed") name) refl all
    where
      last : (c : Bool) → is (codes "--commands") name ≡ c → option_and_then (λ more. with_words more rest) (others told false c) ≡ Some final → Steps told words final
      last true named all = inr (inr (of_option (codes "--commands") told.commands (with_commands told) named all))
      last false named all = absurd (none-some final all)

      second : (b : Bool) → is (codes "--clients") name ≡ b → option_and_then (λ more. with_words more rest) (others told b (is (codes "--commands") name)) ≡ Some final → Steps told words final
      second true named all = inr (inl (of_option (codes "--clients") told.clients (with_clients told) named all))
      second false named all = last (is (codes "--commands") name) refl all

      first : (a : Bool) → is (codes "--seed") name ≡ a
          → option_and_then (λ more. with_words more rest) (if a then option_map (with_seed told) (once told.seed (number value)) else others told (is (codes "--clients") name) (is (codes "--commands") name)) ≡ Some final
          → Steps told words final
      first true named all = inl (of_option (codes "--seed") told.seed (with_seed told) named all)
      first false named all = second (is (codes "--clients") name) refl all

-- no words more
none_more : (o : Option Options) → option_and_then (λ more. with_words more []) o ≡ o
unfolding with_words
none_more None = refl
none_more (Some told) = refl

-- ---- all options

step : (told : Options) (word : List ℕ) (words : List (List ℕ)) (final : Options) → with_words told (word ∷ words) ≡ Some final → Steps told (word ∷ words) final
unfolding with_words
step told word [] final all = go (has_value word) refl all
  where
    go : (b : Bool) → has_value word ≡ b → (if b then with_option told (before_first is_equals word) (after_first is_equals word) else None) ≡ Some final → Steps told (word ∷ []) final
    go false has all = absurd (none-some final all)
    go true has all =
        step_by (before_first is_equals word) (after_first is_equals word) (word ∷ []) [] (inr (ap (λ w. w ∷ []) (own_is word has))) (word ∷ []) refl final told
        (none_more (with_option told (before_first is_equals word) (after_first is_equals word)) ∙ all)
step told word (next ∷ words) final all = go (has_value word) refl all
  where
    go : (b : Bool) → has_value word ≡ b
        → (if b then option_and_then (λ more. with_words more (next ∷ words)) (if b then with_option told (before_first is_equals word) (after_first is_equals word) else None)
        else option_and_then (λ more. with_words more words) (with_option told word next)) ≡ Some final
        → Steps told (word ∷ next ∷ words) final
    go true has all =
        step_by (before_first is_equals word) (after_first is_equals word) (word ∷ []) (next ∷ words) (inr (ap (λ w. w ∷ []) (own_is word has))) (word ∷ next ∷ words) refl final told all
    go false has all = step_by word next (word ∷ next ∷ []) words (inl refl) (word ∷ next ∷ words) refl final told all

none : (told final : Options) → with_words told [] ≡ Some final → final ≡ told
unfolding with_words
none told final all = sym (same_Some told final all)

-- behind all three come no more words
full : (a b c : ℕ) (words : List (List ℕ)) (final : Options) → with_words (record { seed = Some a; clients = Some b; commands = Some c }) words ≡ Some final
    → (words ≡ []) × (final ≡ record { seed = Some a; clients = Some b; commands = Some c })
full a b c [] final all = (refl, none _ final all)
full a b c (word ∷ words) final all = by (step _ word words final all)
  where
    by : Steps (record { seed = Some a; clients = Some b; commands = Some c }) (word ∷ words) final
        → ((word ∷ words) ≡ []) × (final ≡ record { seed = Some a; clients = Some b; commands = Some c })
    by (inl s) = absurd (none-some a (sym s.new))
    by (inr (inl s)) = absurd (none-some b (sym s.new))
    by (inr (inr s)) = absurd (none-some c (sym s.new))

-- what a load is made of
parts_of : (a b c : ℕ) (load : Load) → load_by (Some a) (Some b) (Some c) ≡ Some load → (load ≡ record { seed = a; clients = b; commands = c }) × ((1 ≤ b) × ((b ≤ 16) × (c ≤ 10000)))
parts_of a b c load is = go (nat_le 1 b && nat_le b 16 && nat_le c 10000) refl is
  where
    go : (ok : Bool) → (nat_le 1 b && nat_le b 16 && nat_le c 10000) ≡ ok → (if ok then Some (record { seed = a; clients = b; commands = c }) else None) ≡ Some load
        → (load ≡ record { seed = a; clients = b; commands = c }) × ((1 ≤ b) × ((b ≤ 16) × (c ≤ 10000)))
    go false ok is = absurd (none-some load is)
    go true ok is =
        let both = and_parts _ _ ok in
        let first = and_parts _ _ both.0 in
        (sym (same_Some _ load is), (leb-true _ _ first.0, (leb-true _ _ first.1, leb-true _ _ both.1)))

module _ (load : Load) (options : List (List ℕ)) (final : Options) (is : load_of final ≡ Some load) where
  abbrev Found : Type 0
  Found = SpellsLoad load options × IsLoad load

  -- the three were told, in this order
  found : (a b c : ℕ) (seed clients commands : List (List ℕ)) → a ≤ 4294967295 → IsOption (codes "--seed") a seed → IsOption (codes "--clients") b clients → IsOption (codes "--commands") c commands
      → AreInAnyOrder seed clients commands options → final ≡ record { seed = Some a; clients = Some b; commands = Some c } → Found
  found a b c seed clients commands small is_seed is_clients is_commands order are =
      let parts = parts_of a b c load (sym (ap load_of are) ∙ is) in (
        record {
          seed = seed;
          clients = clients;
          commands = commands;
          is_seed = subst (λ (l : Load). IsOption (codes "--seed") l.seed seed) (sym parts.0) is_seed;
          is_clients = subst (λ (l : Load). IsOption (codes "--clients") l.clients clients) (sym parts.0) is_clients;
          is_commands = subst (λ (l : Load). IsOption (codes "--commands") l.commands commands) (sym parts.0) is_commands;
          order = order;
        },
        subst IsLoad (sym parts.0) (record { seed = small; some = parts.1.0; few = parts.1.1.0; commands = parts.1.1.1 }),
      )

  -- three options one after another are all words
  in_turn : (o p q rest more last : List (List ℕ)) → options ≡ o ++ rest → rest ≡ p ++ more → more ≡ q ++ last → last ≡ [] → options ≡ o ++ (p ++ q)
  in_turn o p q rest more last one two three ends =
      one ∙ ap (λ ws. o ++ ws) (two ∙ ap (λ ws. p ++ ws) (three ∙ ap (λ ws. q ++ ws) ends ∙ append-nil q))

  lacks : (told : Options) → load_of told ≡ None → with_words told [] ≡ Some final → ⊥
  lacks told misses all = none-some load (sym misses ∙ ap load_of (sym (none told final all)) ∙ is)

  -- the option that is told last, behind which all are told
  record IsLast (name : List ℕ) (after : ℕ → Options) (words : List (List ℕ)) : Type 0 where
    n : ℕ
    option : List (List ℕ)
    last : List (List ℕ)
    is_option : IsOption name n option
    are : words ≡ option ++ last
    ends : last ≡ []
    small : n ≤ 4294967295
    final_is : final ≡ after n

  last_seed : (b c : ℕ) (words : List (List ℕ)) → with_words (record { seed = None; clients = Some b; commands = Some c }) words ≡ Some final
      → IsLast (codes "--seed") (λ a. record { seed = Some a; clients = Some b; commands = Some c }) words
  last_seed b c [] all = absurd (lacks _ refl all)
  last_seed b c (word ∷ words) all = by (step _ word words final all)
    where
      by : Steps (record { seed = None; clients = Some b; commands = Some c }) (word ∷ words) final → IsLast (codes "--seed") (λ a. record { seed = Some a; clients = Some b; commands = Some c }) (word ∷ words)
      by (inl s) =
          let over = full s.n b c s.rest final s.more in
          record { n = s.n; option = s.option; last = s.rest; is_option = s.is_option; are = s.are; ends = over.0; small = s.small; final_is = over.1 }
      by (inr (inl s)) = absurd (none-some b (sym s.new))
      by (inr (inr s)) = absurd (none-some c (sym s.new))

  last_clients : (a c : ℕ) (words : List (List ℕ)) → with_words (record { seed = Some a; clients = None; commands = Some c }) words ≡ Some final
      → IsLast (codes "--clients") (λ b. record { seed = Some a; clients = Some b; commands = Some c }) words
  last_clients a c [] all = absurd (lacks _ refl all)
  last_clients a c (word ∷ words) all = by (step _ word words final all)
    where
      by : Steps (record { seed = Some a; clients = None; commands = Some c }) (word ∷ words) final → IsLast (codes "--clients") (λ b. record { seed = Some a; clients = Some b; commands = Some c }) (word ∷ words)
      by (inl s) = absurd (none-some a (sym s.new))
      by (inr (inl s)) =
          let over = full a s.n c s.rest final s.more in
          record { n = s.n; option = s.option; last = s.rest; is_option = s.is_option; are = s.are; ends = over.0; small = s.small; final_is = over.1 }
      by (inr (inr s)) = absurd (none-some c (sym s.new))

  last_commands : (a b : ℕ) (words : List (List ℕ)) → with_words (record { seed = Some a; clients = Some b; commands = None }) words ≡ Some final
      → IsLast (codes "--commands") (λ c. record { seed = Some a; clients = Some b; commands = Some c }) words
  last_commands a b [] all = absurd (lacks _ refl all)
  last_commands a b (word ∷ words) all = by (step _ word words final all)
    where
      by : Steps (record { seed = Some a; clients = Some b; commands = None }) (word ∷ words) final → IsLast (codes "--commands") (λ c. record { seed = Some a; clients = Some b; commands = Some c }) (word ∷ words)
      by (inl s) = absurd (none-some a (sym s.new))
      by (inr (inl s)) = absurd (none-some b (sym s.new))
      by (inr (inr s)) =
          let over = full a b s.n s.rest final s.more in
          record { n = s.n; option = s.option; last = s.rest; is_option = s.is_option; are = s.are; ends = over.0; small = s.small; final_is = over.1 }

  -- behind the first option
  behind_seed : (a : ℕ) (o words : List (List ℕ)) → options ≡ o ++ words → a ≤ 4294967295 → IsOption (codes "--seed") a o → with_words (record { seed = Some a; clients = None; commands = None }) words ≡ Some final → Found
  behind_seed a o [] are small is_o all = absurd (lacks _ refl all)
  behind_seed a o (word ∷ words) are small is_o all = by (step _ word words final all)
    where
      by : Steps (record { seed = Some a; clients = None; commands = None }) (word ∷ words) final → Found
      by (inl s) = absurd (none-some a (sym s.new))
      by (inr (inl s)) =
          let l = last_commands a s.n s.rest s.more in
          found a s.n l.n o s.option l.option small is_o s.is_option l.is_option (inl (in_turn o s.option l.option (word ∷ words) s.rest l.last are s.are l.are l.ends)) l.final_is
      by (inr (inr s)) =
          let l = last_clients a s.n s.rest s.more in
          found a l.n s.n o l.option s.option small is_o l.is_option s.is_option (inr (inl (in_turn o s.option l.option (word ∷ words) s.rest l.last are s.are l.are l.ends))) l.final_is

  behind_clients : (b : ℕ) (o words : List (List ℕ)) → options ≡ o ++ words → IsOption (codes "--clients") b o → with_words (record { seed = None; clients = Some b; commands = None }) words ≡ Some final → Found
  behind_clients b o [] are is_o all = absurd (lacks _ refl all)
  behind_clients b o (word ∷ words) are is_o all = by (step _ word words final all)
    where
      by : Steps (record { seed = None; clients = Some b; commands = None }) (word ∷ words) final → Found
      by (inl s) =
          let l = last_commands s.n b s.rest s.more in
          found s.n b l.n s.option o l.option s.small s.is_option is_o l.is_option (inr (inr (inl (in_turn o s.option l.option (word ∷ words) s.rest l.last are s.are l.are l.ends)))) l.final_is
      by (inr (inl s)) = absurd (none-some b (sym s.new))
      by (inr (inr s)) =
          let l = last_seed b s.n s.rest s.more in
          found l.n b s.n l.option o s.option l.small l.is_option is_o s.is_option (inr (inr (inr (inl (in_turn o s.option l.option (word ∷ words) s.rest l.last are s.are l.are l.ends))))) l.final_is

  behind_commands : (c : ℕ) (o words : List (List ℕ)) → options ≡ o ++ words → IsOption (codes "--commands") c o → with_words (record { seed = None; clients = None; commands = Some c }) words ≡ Some final → Found
  behind_commands c o [] are is_o all = absurd (lacks _ refl all)
  behind_commands c o (word ∷ words) are is_o all = by (step _ word words final all)
    where
      by : Steps (record { seed = None; clients = None; commands = Some c }) (word ∷ words) final → Found
      by (inl s) =
          let l = last_clients s.n c s.rest s.more in
          found s.n l.n c s.option l.option o s.small s.is_option l.is_option is_o (inr (inr (inr (inr (inl (in_turn o s.option l.option (word ∷ words) s.rest l.last are s.are l.are l.ends)))))) l.final_is
      by (inr (inl s)) =
          let l = last_seed s.n c s.rest s.more in
          found l.n s.n c l.option s.option o l.small l.is_option s.is_option is_o (inr (inr (inr (inr (inr (in_turn o s.option l.option (word ∷ words) s.rest l.last are s.are l.are l.ends)))))) l.final_is
      by (inr (inr s)) = absurd (none-some c (sym s.new))

options_found : (load : Load) (words : List (List ℕ)) (final : Options) → load_of final ≡ Some load → with_words no_options words ≡ Some final → SpellsLoad load words × IsLoad load
options_found load [] final is all = absurd (lacks load [] final is no_options refl all)
options_found load (word ∷ words) final is all = by (step no_options word words final all)
  where
    by : Steps no_options (word ∷ words) final → SpellsLoad load (word ∷ words) × IsLoad load
    by (inl s) = behind_seed load (word ∷ words) final is s.n s.option s.rest s.are s.small s.is_option s.more
    by (inr (inl s)) = behind_clients load (word ∷ words) final is s.n s.option s.rest s.are s.is_option s.more
    by (inr (inr s)) = behind_commands load (word ∷ words) final is s.n s.option s.rest s.are s.is_option s.more

-- ---- all words

load_found : (load : Load) (words : List (List ℕ)) → load_asked words ≡ Some (Generate load) → SpellsLoad load words × IsLoad load
load_found load words asks = go (with_words no_options words) refl asks
  where
    of_load : (o : Option Load) → option_map Generate o ≡ Some (Generate load) → o ≡ Some load
    of_load None other = absurd (none-some _ other)
    of_load (Some l) same = cc

    go : (r : Option Options) → with_words no_options words ≡ r → option_map Generate (option_and_then load_of r) ≡ Some (Generate load) → SpellsLoad load words × IsLoad load
    go None told other = absurd (none-some _ other)
    go (Some final) told asks = options_found load words final (of_load (load_of final) asks) told

no_run : (load : Load) (words : List (List ℕ)) → run_asked words ≡ Some (Generate load) → ⊥
no_run load [] same = cc
no_run load (word ∷ []) same = go (is (codes "--trace") word) same
  where
    go : (b : Bool) → (if b then Some (Run Trace) else None) ≡ Some (Generate load) → ⊥
    go true same = cc
    go false same = none-some _ same
no_run load (word ∷ next ∷ words) same = none-some _ same

pub only_so : (load : Load) (words : List (List ℕ)) → asked_for_by words ≡ Some (Generate load) → AsksForLoad load words × IsLoad load
only_so load [] asks = absurd (none-some _ asks)
only_so load (word ∷ words) asks = first (is (codes "run") word) asks
  where
    second : (b : Bool) → is (codes "gen") word ≡ b → (if b then load_asked words else None) ≡ Some (Generate load) → AsksForLoad load (word ∷ words) × IsLoad load
    second false named asks = absurd (none-some _ asks)
    second true named asks =
        let all = load_found load words asks in
        (record { options = words; are = ap (λ w. w ∷ words) (same_text word (codes "gen") (sym named)); spells = all.0 }, all.1)

    first : (a : Bool) → (if a then run_asked words else if is (codes "gen") word then load_asked words else None) ≡ Some (Generate load) → AsksForLoad load (word ∷ words) × IsLoad load
    first true asks = absurd (no_run load words asks)
    first false asks = second (is (codes "gen") word) refl asks
