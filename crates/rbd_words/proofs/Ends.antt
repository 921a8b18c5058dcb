-- Words with a `--` among them.
use Rattle.std.proofs.Common.{◌≡◌, true, false, Bool, List, [], ◌∷◌, codes, map, Option, Some, None, refl, sym, ap, ◌∙◌, true≢false}
use Rattle.std.specs.Prelude.{◌||◌, is_some, option_and_then, option_map, if◌then◌else◌}
use Rattle.std.specs.List.{after_first, before_first, list_any}
use Rattle.std.proofs.lemmas.Slice.Eq.{bytes_eq-Decides}
use Rattle.clap.specs.Lexer.{strip_byte}
use Rattle.clap.specs.Walk.{Text}
use Rattle.rbd_script.specs.Token.{is}
use Rattle.rbd_words.specs.declared.options.Options.{Options}
use Rattle.rbd_words.specs.Command.{has_end}
use Rattle.rbd_words.specs.Words.{asked_for_by, has_value, is_equals, load_asked, load_of, no_options, run_asked, with_option, with_words}
use Rattle.rbd_words.specs.declared.asked.Asked.TheVariants.{Generate}
use Rattle.rbd_words.proofs.OptionLemmas.{next_value, own_value}
use Rattle.rbd_words.proofs.Reading.{HasNoEnd, unknown}
use Rattle.rbd_words.proofs.Rows.{neither}
use Rattle.rbd_words.proofs.Telling.{no_value_told}
use Rattle.rbd_words.proofs.Walks.{dashes}

pub any_of_map : {X Y : Type 0} (p : Y → Bool) (f : X → Y) (xs : List X) → list_any (λ x. p (f x)) xs ≡ list_any p (map f xs)
any_of_map p f [] = refl
any_of_map p f (x ∷ xs) = ap (λ b. p (f x) || b) (any_of_map p f xs)

pub no_end : (words : List Text) → has_end words ≡ false → HasNoEnd words
no_end [] none = tt
no_end (word ∷ words) none = let parts = neither (is dashes word) (has_end words) none in (parts.0, no_end words parts.1)

is_dashes : (word : Text) → is dashes word ≡ true → word ≡ dashes
is_dashes word named = (bytes_eq-Decides word dashes).0 named

-- such a word tells no option
told_none : (t : Options) (words : List Text) → has_end words ≡ true → with_words t words ≡ None
told_none t [] has = absurd (true≢false (sym has))
told_none t (word ∷ []) has = go (is dashes word) refl has
  where
    go : (b : Bool) → is dashes word ≡ b → (b || false) ≡ true → with_words t (word ∷ []) ≡ None
    go true named has = ap (λ w. with_words t (w ∷ [])) (is_dashes word named) ∙ unknown t dashes [] tt
    go false named has = absurd (true≢false (sym has))
told_none t (word ∷ next ∷ rest) has = go (is dashes word) refl has (λ more ends. told_none more rest ends) (λ more ends. told_none more (next ∷ rest) ends)
  where
    go : (b : Bool) → is dashes word ≡ b → (b || has_end (next ∷ rest)) ≡ true → ((more : Options) → has_end rest ≡ true → with_words more rest ≡ None)
        → ((more : Options) → has_end (next ∷ rest) ≡ true → with_words more (next ∷ rest) ≡ None) → with_words t (word ∷ next ∷ rest) ≡ None
    go true named has rec one_more = ap (λ w. with_words t (w ∷ next ∷ rest)) (is_dashes word named) ∙ unknown t dashes (next ∷ rest) tt
    go false named has rec one_more = by (has_value word) refl
      where
        all : (words : List Text) (o : Option Options) → ((more : Options) → with_words more words ≡ None) → option_and_then (λ more. with_words more words) o ≡ None
        all words None none = refl
        all words (Some more) none = none more

        second : (b : Bool) → is dashes next ≡ b → (b || has_end rest) ≡ true → option_and_then (λ more. with_words more rest) (with_option t word next) ≡ None
        second true is_end has = ap (option_and_then (λ more. with_words more rest)) (no_value_told t word next (ap (λ w. is_some (strip_byte 45 w)) (is_dashes next is_end)))
        second false is_end has = all rest (with_option t word next) (λ more. rec more has)

        by : (b : Bool) → has_value word ≡ b → with_words t (word ∷ next ∷ rest) ≡ None
        by true value = own_value t word (next ∷ rest) value ∙ all (next ∷ rest) (with_option t (before_first is_equals word) (after_first is_equals word)) (λ more. one_more more has)
        by false value = next_value t word next rest value ∙ second (is dashes next) refl has

run_none : (words : List Text) → has_end words ≡ true → run_asked words ≡ None
run_none [] has = absurd (true≢false (sym has))
run_none (word ∷ []) has = go (is dashes word) refl has
  where
    go : (b : Bool) → is dashes word ≡ b → (b || false) ≡ true → run_asked (word ∷ []) ≡ None
    go true named has = ap (λ w. run_asked (w ∷ [])) (is_dashes word named)
    go false named has = absurd (true≢false (sym has))
run_none (word ∷ next ∷ rest) has = refl

-- and all words with one ask for nothing
pub end_none : (words : List Text) → has_end words ≡ true → asked_for_by words ≡ None
end_none [] has = refl
end_none (word ∷ rest) has = go (is dashes word) refl has
  where
    behind : has_end rest ≡ true → (a b : Bool) → (if a then run_asked rest else if b then load_asked rest else None) ≡ None
    behind has true b = run_none rest has
    behind has false true = ap (λ o. option_map Generate (option_and_then load_of o)) (told_none no_options rest has)
    behind has false false = refl

    go : (b : Bool) → is dashes word ≡ b → (b || has_end rest) ≡ true → asked_for_by (word ∷ rest) ≡ None
    go true named has = ap (λ w. asked_for_by (w ∷ rest)) (is_dashes word named)
    go false named has = behind has (is (codes "run") word) (is (codes "gen") word)
