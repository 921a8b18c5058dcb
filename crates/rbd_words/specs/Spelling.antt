-- How the words of `gen` are written.
use Rattle.std.specs.Prelude.{◌≡◌, ◌⊎◌, ℕ, List, [], ◌∷◌, ◌++◌, codes, decimal}
use Rattle.rbd_words.specs.declared.load.Load.{Load}

-- `--seed 7`, or `--seed=7`
abbrev pub IsOption : (name : List ℕ) → ℕ → (words : List (List ℕ)) → Type 0
IsOption name n words = (words ≡ name ∷ decimal n ∷ []) ⊎ (words ≡ (name ++ 61 ∷ decimal n) ∷ [])

-- the three one after another, in any order
abbrev pub AreInAnyOrder : (a b c words : List (List ℕ)) → Type 0
AreInAnyOrder a b c words =
    (words ≡ a ++ (b ++ c)) ⊎ (words ≡ a ++ (c ++ b)) ⊎ (words ≡ b ++ (a ++ c)) ⊎ (words ≡ b ++ (c ++ a))
    ⊎ (words ≡ c ++ (a ++ b)) ⊎ (words ≡ c ++ (b ++ a))

-- The words are the three options of a load, behind `gen`.
pub record SpellsLoad (load : Load) (words : List (List ℕ)) : Type 0 where
  pub seed : List (List ℕ)
  pub clients : List (List ℕ)
  pub commands : List (List ℕ)
  pub is_seed : IsOption (codes "--seed") load.seed seed
  pub is_clients : IsOption (codes "--clients") load.clients clients
  pub is_commands : IsOption (codes "--commands") load.commands commands
  pub order : AreInAnyOrder seed clients commands words

-- They are `gen`, and behind it these options.
pub record AsksForLoad (load : Load) (words : List (List ℕ)) : Type 0 where
  pub options : List (List ℕ)
  pub are : words ≡ codes "gen" ∷ options
  pub spells : SpellsLoad load options
