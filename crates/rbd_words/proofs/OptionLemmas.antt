-- How words tell options, one after another.
use Rattle.std.proofs.Common.{◌≡◌, ℕ, true, false, List, [], ◌∷◌, Option, Some, None, refl, sym}
use Rattle.std.specs.Prelude.{option_and_then}
use Rattle.std.specs.List.{after_first, before_first}
use Rattle.rbd_words.specs.declared.options.Options.{Options}
use Rattle.rbd_words.specs.Words.{has_value, is_equals, with_option, with_words}

-- no words more
none_more : (o : Option Options) → option_and_then (λ more. with_words more []) o ≡ o
unfolding with_words
none_more None = refl
none_more (Some told) = refl

-- a word with its value, and then the others
pub own_value : (told : Options) (word : List ℕ) (words : List (List ℕ)) → has_value word ≡ true
    → with_words told (word ∷ words) ≡ option_and_then (λ more. with_words more words) (with_option told (before_first is_equals word) (after_first is_equals word))
unfolding with_words
own_value told word [] has = rw has (sym (none_more (with_option told (before_first is_equals word) (after_first is_equals word))))
own_value told word (next ∷ words) has = rw has refl

-- a word whose value is the next, and then the others
pub next_value : (told : Options) (word value : List ℕ) (words : List (List ℕ)) → has_value word ≡ false
    → with_words told (word ∷ value ∷ words) ≡ option_and_then (λ more. with_words more words) (with_option told word value)
unfolding with_words
next_value told word value words has = rw has refl

-- a last word that has no value
pub no_value : (told : Options) (word : List ℕ) → has_value word ≡ false → with_words told (word ∷ []) ≡ None
unfolding with_words
no_value told word has = rw has refl
