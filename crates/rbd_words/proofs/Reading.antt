-- What `clap` makes of the words behind `gen` is what the rule makes of them.
use Rattle.std.proofs.Common.{◌≡◌, ◌⊎◌, true, false, Bool, List, [], ◌∷◌, ◌++◌, codes, Option, Some, None, inl, inr, refl, sym, ap, ◌∙◌, subst}
use Rattle.std.specs.Prelude.{option_and_then, fold}
use Rattle.std.specs.List.{after_first, before_first}
use Rattle.std.specs.Str.{bytes_eq}
use Rattle.std.proofs.lemmas.Option.{none-some}
use Rattle.std.proofs.lemmas.Slice.Eq.{bytes_eq-Decides}
use Rattle.clap.specs.Faults.{check_fault, default_fault, defaults_fault, settle_fault, turn_fault, use_fault, walk_fault}
use Rattle.clap.specs.Kinds.{Kinds, or_else}
use Rattle.clap.specs.Lexer.{long_of}
use Rattle.clap.specs.Walk.{Row, Text, Waiting, Walk, idle, option, finished, has_row, settled, settled_rows, used, walked, with_default}
use Rattle.rbd_script.specs.Token.{is}
use Rattle.rbd_words.specs.declared.load.Load.{Load}
use Rattle.rbd_words.specs.declared.options.Options.{Options}
use Rattle.rbd_words.specs.Command.{told_options}
use Rattle.rbd_words.specs.Words.{has_value, is_equals, load_of, no_options, with_option, with_words}
use Rattle.rbd_words.proofs.Forms.{long_form}
use Rattle.rbd_words.proofs.OnlySo.{own_is}
use Rattle.rbd_words.proofs.OptionLemmas.{next_value, no_value, own_value}
use Rattle.rbd_words.proofs.Rows.{option_rule}
use Rattle.rbd_words.proofs.Telling.{IsTold, IsWhole, clients_told, commands_told, no_value_told, seed_told, told_in}
use Rattle.rbd_words.proofs.Walks.{IsFault, IsNoLong, IsRefused, IsTaken, behind_name, dashes, gen_built, holds, longs_alone, name_fault, name_step, no_option, or_none, own_fault, own_step, stands, three}

-- no word is `--`
abbrev pub HasNoEnd : List Text → Type 0
HasNoEnd [] = Unit {0}
HasNoEnd (word ∷ words) = (bytes_eq word dashes ≡ false) × HasNoEnd words

-- ---- what a word is

record IsOptionWord (word : Text) : Type 0 where
  name : Text
  value : Option Text
  tells : IsTold name
  long : long_of word ≡ Some (name, value)

kind_of_word : (word : Text) → IsNoLong gen_built (long_of word) ⊎ IsOptionWord word
kind_of_word word = go (long_of word) refl
  where
    same : (name wanted : Text) (value : Option Text) → long_of word ≡ Some (name, value) → bytes_eq wanted name ≡ true → IsTold wanted → IsOptionWord word
    same name wanted value long is tells =
        record { name = wanted; value = value; tells = tells; long = long ∙ ap (λ n. Some (n, value)) (sym ((bytes_eq-Decides wanted name).0 is)) }

    by : (name : Text) (value : Option Text) → long_of word ≡ Some (name, value)
        → (a b c : Bool) → bytes_eq (codes "seed") name ≡ a → bytes_eq (codes "clients") name ≡ b → bytes_eq (codes "commands") name ≡ c → IsNoLong gen_built (Some (name, value)) ⊎ IsOptionWord word
    by name value long true b c x y z = inr (same name (codes "seed") value long x seed_told)
    by name value long false true c x y z = inr (same name (codes "clients") value long y clients_told)
    by name value long false false true x y z = inr (same name (codes "commands") value long z commands_told)
    by name value long false false false x y z = inl (rw (x, y, z) refl)

    back : (o : Option (Text × Option Text)) → long_of word ≡ o → IsNoLong gen_built o ⊎ IsOptionWord word → IsNoLong gen_built (long_of word) ⊎ IsOptionWord word
    back o long (inl none) = inl (subst (IsNoLong gen_built) (sym long) none)
    back o long (inr some) = inr some

    go : (o : Option (Text × Option Text)) → long_of word ≡ o → IsNoLong gen_built (long_of word) ⊎ IsOptionWord word
    go None long = inl (subst (IsNoLong gen_built) (sym long) tt)
    go (Some p) long = back (Some p) long (by p.0 p.1 long _ _ _ refl refl refl)

pub is_not : (other name : Text) → (name ≡ other → ⊥) → is other name ≡ false
is_not other name differ = go (is other name) refl
  where
    go : (b : Bool) → is other name ≡ b → b ≡ false
    go false named = refl
    go true named = absurd (differ ((bytes_eq-Decides name other).0 named))

unknown_option : (t : Options) (name value : Text) → (name ≡ codes "--seed" → ⊥) → (name ≡ codes "--clients" → ⊥) → (name ≡ codes "--commands" → ⊥) → with_option t name value ≡ None
unknown_option t name value a b c = rw (is_not (codes "--seed") name a, is_not (codes "--clients") name b, is_not (codes "--commands") name c) refl

-- a word that is no option of the command's is none of the rule's
pub unknown : (t : Options) (word : Text) (rest : List Text) → IsNoLong gen_built (long_of word) → with_words t (word ∷ rest) ≡ None
unknown t word rest none = go (has_value word) refl
  where
    not_so : (other : Text) (p : Text × Option Text) → word ≡ other → long_of other ≡ Some p → (IsNoLong gen_built (Some p) → ⊥) → ⊥
    not_so other p is long known = known (subst (IsNoLong gen_built) (ap long_of is ∙ long) none)

    own : (name value : Text) → word ≡ name ++ 61 ∷ value → with_option t name value ≡ None
    own name value are = unknown_option t name value
        (λ is. not_so (codes "--seed" ++ 61 ∷ value) (codes "seed", Some value) (are ∙ ap (λ n. n ++ 61 ∷ value) is) refl (λ e. none-some _ (sym e)))
        (λ is. not_so (codes "--clients" ++ 61 ∷ value) (codes "clients", Some value) (are ∙ ap (λ n. n ++ 61 ∷ value) is) refl (λ e. none-some _ (sym e)))
        (λ is. not_so (codes "--commands" ++ 61 ∷ value) (codes "commands", Some value) (are ∙ ap (λ n. n ++ 61 ∷ value) is) refl (λ e. none-some _ (sym e)))

    alone : (value : Text) → with_option t word value ≡ None
    alone value = unknown_option t word value
        (λ is. not_so (codes "--seed") (codes "seed", None) is refl (λ e. none-some _ (sym e)))
        (λ is. not_so (codes "--clients") (codes "clients", None) is refl (λ e. none-some _ (sym e)))
        (λ is. not_so (codes "--commands") (codes "commands", None) is refl (λ e. none-some _ (sym e)))

    next : (rest : List Text) → has_value word ≡ false → with_words t (word ∷ rest) ≡ None
    next [] has = no_value t word has
    next (v ∷ vs) has = next_value t word v vs has ∙ ap (option_and_then (λ more. with_words more vs)) (alone v)

    go : (b : Bool) → has_value word ≡ b → with_words t (word ∷ rest) ≡ None
    go true has = own_value t word rest has ∙ ap (option_and_then (λ more. with_words more rest)) (own (before_first is_equals word) (after_first is_equals word) (own_is word has))
    go false has = next rest has

-- ---- what is found of a load

abbrev pub load_in : Kinds → List Row → Option Load
load_in [] rows = option_and_then load_of (told_options rows)
load_in (k ∷ ks) rows = None

abbrev pub after_fault : Walk → Kinds
after_fault end =
    or_else (settle_fault three false end.held) (or_else (defaults_fault (settled three end.held).rows three) (check_fault gen_built (finished three end.held) false))

abbrev pub found : Walk → List Text → Option Load
found w words =
    load_in (or_else (walk_fault gen_built [] w words) (after_fault (fold (walked three []) w words))) (finished three (fold (walked three []) w words).held)

refuses : (a b c : Kinds) (rows : List Row) → IsFault a → load_in (or_else (or_else a b) c) rows ≡ None
refuses [] b c rows f = absurd f
refuses (k ∷ ks) b c rows f = refl

found_fault : (w : Walk) (word : Text) (rest : List Text) → IsFault (turn_fault gen_built [] w word) → found w (word ∷ rest) ≡ None
unfolding walk_fault
found_fault w word rest f = refuses (turn_fault gen_built [] w word) _ _ _ f

found_step : (w after : Walk) (word : Text) (rest : List Text) → turn_fault gen_built [] w word ≡ [] → walked three [] w word ≡ after → found w (word ∷ rest) ≡ found after rest
unfolding walk_fault
found_step w after word rest passes step =
    ap (λ f. load_in (or_else (or_else f (walk_fault gen_built [] (walked three [] w word) rest)) (after_fault (fold (walked three []) (walked three [] w word) rest))) (finished three (fold (walked three []) (walked three [] w word) rest).held)) passes
    ∙ ap (λ v. found v rest) step

-- ---- the end

no_default : (name : Text) (rows : List Row) → with_default rows (option_rule name) ≡ rows
no_default name rows = go (has_row name rows) refl
  where
    go : (b : Bool) → has_row name rows ≡ b → with_default rows (option_rule name) ≡ rows
    go true has = rw has refl
    go false has = rw has refl

finished_is : (rows : List Row) (pending : Option (Text × List Text)) → finished three (holds rows pending) ≡ settled_rows three pending rows
finished_is rows pending =
    let end = settled_rows three pending rows in
    ap (λ x. with_default (with_default x (option_rule (codes "clients"))) (option_rule (codes "commands"))) (no_default (codes "seed") end)
    ∙ ap (λ x. with_default x (option_rule (codes "commands"))) (no_default (codes "clients") end)
    ∙ no_default (codes "commands") end

no_default_fault : (name : Text) (rows : List Row) → default_fault rows (option_rule name) ≡ []
no_default_fault name rows = go (has_row name rows) refl
  where
    go : (b : Bool) → has_row name rows ≡ b → default_fault rows (option_rule name) ≡ []
    go true has = rw has refl
    go false has = rw has refl

all_none : (a b c : Kinds) → a ≡ [] → b ≡ [] → c ≡ [] → or_else a (or_else b (or_else c [])) ≡ []
all_none a b c x y z = ap (λ k. or_else k (or_else b (or_else c []))) x ∙ ap (λ k. or_else k (or_else c [])) y ∙ ap (λ k. or_else k []) z

no_defaults_fault : (rows : List Row) → defaults_fault rows three ≡ []
unfolding defaults_fault
no_defaults_fault rows = all_none _ _ _ (no_default_fault (codes "seed") rows) (no_default_fault (codes "clients") (with_default rows (option_rule (codes "seed"))))
    (no_default_fault (codes "commands") (with_default (with_default rows (option_rule (codes "seed"))) (option_rule (codes "clients"))))

-- what is left to be said at the end is whether the option that waits is refused
after_is : (rows : List Row) (pending : Option (Text × List Text)) (waiting : Waiting) → after_fault (stands rows pending waiting) ≡ settle_fault three false (holds rows pending)
after_is rows pending waiting =
    ap (λ k. or_else (settle_fault three false (holds rows pending)) (or_else k [])) (no_defaults_fault (settled_rows three pending rows))
    ∙ or_none (settle_fault three false (holds rows pending))

found_end : (rows : List Row) (pending : Option (Text × List Text)) (waiting : Waiting) → found (stands rows pending waiting) [] ≡ load_in (settle_fault three false (holds rows pending)) (settled_rows three pending rows)
unfolding walk_fault
found_end rows pending waiting = λ i. load_in (after_is rows pending waiting i) (finished_is rows pending i)

-- ---- all words

-- what the rule finds behind what was told
abbrev pub wanted : Option Options → List Text → Option Load
wanted o words = option_and_then load_of (option_and_then (λ t. with_words t words) o)

wanted_more : (o : Option Options) (words rest : List Text) (name value : Text)
    → ((t : Options) → with_words t words ≡ option_and_then (λ more. with_words more rest) (with_option t name value))
    → wanted o words ≡ wanted (option_and_then (λ t. with_option t name value) o) rest
wanted_more None words rest name value more = refl
wanted_more (Some t) words rest name value more = ap (option_and_then load_of) (more t)

wanted_none : (o : Option Options) (words : List Text) → ((t : Options) → with_words t words ≡ None) → wanted o words ≡ None
wanted_none None words none = refl
wanted_none (Some t) words none = ap (option_and_then load_of) (none t)

no_option_told : (o : Option Options) (rest : List Text) (name value : Text) → ((t : Options) → with_option t name value ≡ None) → wanted (option_and_then (λ t. with_option t name value) o) rest ≡ None
no_option_told None rest name value none = refl
no_option_told (Some t) rest name value none = ap (λ o. wanted o rest) (none t)

wanted_end : (o : Option Options) → wanted o [] ≡ option_and_then load_of o
unfolding with_words
wanted_end None = refl
wanted_end (Some t) = refl

abbrev pub settles : List Row → Option (Text × List Text) → Kinds
settles rows pending = settle_fault three false (holds rows pending)

abbrev pub standing : List Row → Option (Text × List Text) → Option Options
standing rows pending = told_in (settles rows pending) (settled_rows three pending rows)

abbrev pub StaysWhole : List Row → Option (Text × List Text) → Type 0
StaysWhole rows pending = settles rows pending ≡ [] → IsWhole (settled_rows three pending rows)

-- The rest of the words is read as it should be, from wherever the walk stands.
abbrev IsRead : List Text → Type 0
IsRead words = (rows : List Row) (pending : Option (Text × List Text)) → HasNoEnd words → StaysWhole rows pending → found (stands rows pending idle) words ≡ wanted (standing rows pending) words

found_of_kinds : (k : Kinds) (rows : List Row) → load_in k rows ≡ option_and_then load_of (told_in k rows)
found_of_kinds [] rows = refl
found_of_kinds (k ∷ ks) rows = refl

read_end : IsRead []
read_end rows pending ends whole = found_end rows pending idle ∙ found_of_kinds (settles rows pending) (settled_rows three pending rows) ∙ sym (wanted_end (standing rows pending))

-- a word that is none of the three
read_unknown : (word : Text) (rest : List Text) (rows : List Row) (pending : Option (Text × List Text)) → bytes_eq word dashes ≡ false → IsNoLong gen_built (long_of word)
    → found (stands rows pending idle) (word ∷ rest) ≡ wanted (standing rows pending) (word ∷ rest)
read_unknown word rest rows pending open_end none =
    found_fault (stands rows pending idle) word rest (no_option gen_built longs_alone word rows pending [] refl open_end (long_of word) refl none)
    ∙ sym (wanted_none (standing rows pending) (word ∷ rest) (λ t. unknown t word rest none))

-- ---- one of the three

module _ (name : Text) (tells : IsTold name) (word : Text) (open_end : bytes_eq word dashes ≡ false) (rows : List Row) (pending : Option (Text × List Text)) where
  -- how the option that waits is used, and this one behind it
  abbrev at_end : List Row
  at_end = settled_rows three pending rows

  -- with its value
  module _ (value : Text) (rest : List Text) (long : long_of word ≡ Some (name, Some value)) (more : IsRead rest) (ends : HasNoEnd rest) where
    abbrev uses : Kinds
    uses = use_fault false (option_rule name) (value ∷ []) at_end

    after_own : (k : Kinds) → uses ≡ k → turn_fault gen_built [] (stands rows pending idle) word ≡ uses → IsWhole at_end
        → found (stands rows pending idle) (word ∷ rest) ≡ wanted (told_in k (used (option_rule name) (value ∷ []) at_end)) rest
    after_own [] is turn whole =
        found_step (stands rows pending idle) (stands (used (option_rule name) (value ∷ []) at_end) None idle) word rest (turn ∙ is) (own_step rows pending word name tells.third open_end value long)
        ∙ more (used (option_rule name) (value ∷ []) at_end) None ends (λ none. tells.whole at_end value is whole)
    after_own (k ∷ ks) is turn whole = found_fault (stands rows pending idle) word rest (subst IsFault (sym (turn ∙ is)) tt)

    read_own : (k : Kinds) → settles rows pending ≡ k → StaysWhole rows pending
        → found (stands rows pending idle) (word ∷ rest) ≡ wanted (told_in k at_end) (word ∷ rest)
    read_own [] is stays =
        let turn : turn_fault gen_built [] (stands rows pending idle) word ≡ uses = own_fault rows pending word name tells.third open_end value long ∙ ap (λ k. or_else k uses) is in
        let whole = stays is in
        let form : word ≡ 45 ∷ 45 ∷ name ++ 61 ∷ value = long_form word (name, Some value) long in
        after_own uses refl turn whole
        ∙ ap (λ o. wanted o rest) (tells.tells at_end value whole)
        ∙ sym (wanted_more (told_options at_end) (word ∷ rest) rest (45 ∷ 45 ∷ name) value (λ t. ap (λ w. with_words t (w ∷ rest)) form ∙ tells.own t value rest))
    read_own (k ∷ ks) is stays =
        found_fault (stands rows pending idle) word rest (subst IsFault (sym (own_fault rows pending word name tells.third open_end value long ∙ ap (λ k. or_else k uses) is)) tt)

  -- without one
  module _ (long : long_of word ≡ Some (name, None)) where
    named : word ≡ 45 ∷ 45 ∷ name
    named = long_form word (name, None) long

    goes_on : (rest : List Text) → settles rows pending ≡ [] → found (stands rows pending idle) (word ∷ rest) ≡ found (stands at_end (Some (name, [])) (option name)) rest
    goes_on rest is = found_step (stands rows pending idle) (stands at_end (Some (name, [])) (option name)) word rest (name_fault rows pending word name tells.third open_end long ∙ is) (name_step rows pending word name tells.third open_end long)

    refused : (k : _) (ks : Kinds) (rest : List Text) → settles rows pending ≡ k ∷ ks → found (stands rows pending idle) (word ∷ rest) ≡ None
    refused k ks rest is = found_fault (stands rows pending idle) word rest (subst IsFault (sym (name_fault rows pending word name tells.third open_end long ∙ is)) tt)

    -- as the last word
    read_last : (k : Kinds) → settles rows pending ≡ k → found (stands rows pending idle) (word ∷ []) ≡ wanted (told_in k at_end) (word ∷ [])
    read_last (k ∷ ks) is = refused k ks [] is
    read_last [] is =
        goes_on [] is ∙ found_end at_end (Some (name, [])) (option name) ∙ rw tells.third.id refl
        ∙ sym (wanted_none (told_options at_end) (word ∷ []) (λ t. ap (λ w. with_words t (w ∷ [])) named ∙ tells.last t))

    module _ (next : Text) (rest : List Text) (no_end : bytes_eq next dashes ≡ false) (more : IsRead rest) (ends : HasNoEnd rest) where
      abbrev uses_next : Kinds
      uses_next = use_fault false (option_rule name) (next ∷ []) at_end

      settles_next : settles at_end (Some (name, next ∷ [])) ≡ uses_next
      settles_next = rw tells.third.id refl

      rows_next : settled_rows three (Some (name, next ∷ [])) at_end ≡ used (option_rule name) (next ∷ []) at_end
      rows_next = rw tells.third.id refl

      spelled : (t : Options) → with_words t (word ∷ next ∷ rest) ≡ option_and_then (λ more. with_words more rest) (with_option t (45 ∷ 45 ∷ name) next)
      spelled t = ap (λ w. with_words t (w ∷ next ∷ rest)) named ∙ tells.next t next rest

      by_next : IsWhole at_end → IsRefused at_end next name tells.third no_end ⊎ IsTaken at_end next name tells.third no_end
          → found (stands at_end (Some (name, [])) (option name)) (next ∷ rest) ≡ wanted (told_options at_end) (word ∷ next ∷ rest)
      by_next whole (inl bad) =
          found_fault (stands at_end (Some (name, [])) (option name)) next rest bad.0
          ∙ sym (wanted_more (told_options at_end) (word ∷ next ∷ rest) rest (45 ∷ 45 ∷ name) next spelled ∙ no_option_told (told_options at_end) rest (45 ∷ 45 ∷ name) next (λ t. no_value_told t (45 ∷ 45 ∷ name) next bad.1))
      by_next whole (inr good) =
          found_step (stands at_end (Some (name, [])) (option name)) (stands at_end (Some (name, next ∷ [])) idle) next rest good.0 good.1
          ∙ more at_end (Some (name, next ∷ [])) ends (λ passes. subst IsWhole (sym rows_next) (tells.whole at_end next (sym settles_next ∙ passes) whole))
          ∙ (λ i. wanted (told_in (settles_next i) (rows_next i)) rest)
          ∙ ap (λ o. wanted o rest) (tells.tells at_end next whole)
          ∙ sym (wanted_more (told_options at_end) (word ∷ next ∷ rest) rest (45 ∷ 45 ∷ name) next spelled)

      read_next : (k : Kinds) → settles rows pending ≡ k → StaysWhole rows pending → found (stands rows pending idle) (word ∷ next ∷ rest) ≡ wanted (told_in k at_end) (word ∷ next ∷ rest)
      read_next (k ∷ ks) is stays = refused k ks (next ∷ rest) is
      read_next [] is stays = goes_on (next ∷ rest) is ∙ by_next (stays is) (behind_name at_end next name tells.third no_end (long_of next) refl)

-- ---- all

pub all_read : (words : List Text) → IsRead words
all_read [] rows pending ends stays = read_end rows pending ends stays
all_read (word ∷ []) rows pending ends stays = by (kind_of_word word)
  where
    with_value : (name : Text) (value : Option Text) → IsTold name → long_of word ≡ Some (name, value) → found (stands rows pending idle) (word ∷ []) ≡ wanted (standing rows pending) (word ∷ [])
    with_value name None tells long = read_last name tells word ends.0 rows pending long (settles rows pending) refl
    with_value name (Some value) tells long = read_own name tells word ends.0 rows pending value [] long read_end tt (settles rows pending) refl stays

    by : IsNoLong gen_built (long_of word) ⊎ IsOptionWord word → found (stands rows pending idle) (word ∷ []) ≡ wanted (standing rows pending) (word ∷ [])
    by (inl none) = read_unknown word [] rows pending ends.0 none
    by (inr is) = with_value is.name is.value is.tells is.long
all_read (word ∷ next ∷ rest) rows pending ends stays = by (kind_of_word word) (all_read rest) (all_read (next ∷ rest))
  where
    with_value : (name : Text) (value : Option Text) → IsTold name → long_of word ≡ Some (name, value) → IsRead rest → IsRead (next ∷ rest)
        → found (stands rows pending idle) (word ∷ next ∷ rest) ≡ wanted (standing rows pending) (word ∷ next ∷ rest)
    with_value name None tells long more one_more = read_next name tells word ends.0 rows pending long next rest ends.1.0 more ends.1.1 (settles rows pending) refl stays
    with_value name (Some value) tells long more one_more = read_own name tells word ends.0 rows pending value (next ∷ rest) long one_more ends.1 (settles rows pending) refl stays

    by : IsNoLong gen_built (long_of word) ⊎ IsOptionWord word → IsRead rest → IsRead (next ∷ rest) → found (stands rows pending idle) (word ∷ next ∷ rest) ≡ wanted (standing rows pending) (word ∷ next ∷ rest)
    by (inl none) more one_more = read_unknown word (next ∷ rest) rows pending ends.0 none
    by (inr is) more one_more = with_value is.name is.value is.tells is.long more one_more

-- what `clap` finds of a load is what the words ask for
pub load_read : (words : List Text) → HasNoEnd words → found (stands [] None idle) words ≡ option_and_then load_of (with_words no_options words)
load_read words ends = all_read words [] None ends (λ none. record { seed = refl; clients = refl; commands = refl })
