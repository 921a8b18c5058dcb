-- Lines that began behind the end of another, as the history goes on.
use Rattle.std.proofs.Common.{◌≡◌, ℕ, ◌==◌, ◌⊎◌, inl, inr, true, false, List, [], ◌∷◌, ◌++◌, refl, sym, ap, ◌∙◌}
use Rattle.std.proofs.lemmas.Bool.{cases_eq, eq-eqb, false≢true, ne_eqb, or_left, or_right}
use Rattle.std.proofs.lemmas.List.Folds.{list_any-append}
use Rattle.rbd_flat.specs.declared.entry.Entry.{Entry}
use Rattle.rbd_flat.specs.declared.entry.Entry.TheVariants as entry
use Rattle.rbd_kinds.specs.declared.id.Instance.{Instance}
use Rattle.rbd_world.specs.Step.{is_begun, is_start_of}
use Rattle.rbd_schedule.specs.InTurn.{IsEndedBefore}
use Rattle.rbd_schedule.specs.Starts.{is_ended, is_end_of}

-- An element of two lists, one behind the other, stands in the first or in the second.
abbrev StandsIn : {X : Type 0} → (xs ys before after : List X) → X → Type 0
StandsIn {X} xs ys before after e = ((rest : List X) × (xs ≡ before ++ e ∷ rest)) ⊎ ((between : List X) × (before ≡ xs ++ between) × (ys ≡ between ++ e ∷ after))

stands_in : {X : Type 0} (xs ys before after : List X) (e : X) → xs ++ ys ≡ before ++ e ∷ after → StandsIn xs ys before after e
stands_in [] ys before after e is = inr (before, refl, is)
stands_in (x ∷ xs) ys [] after e is = let first : x ≡ e = cc in inl (xs, ap (λ y. y ∷ xs) first)
stands_in {X} (x ∷ xs) ys (y ∷ before) after e is =
    let first : x ≡ y = cc in
    let rest : xs ++ ys ≡ before ++ e ∷ after = cc in
    by first (stands_in xs ys before after e rest)
  where
    by : x ≡ y → StandsIn xs ys before after e → StandsIn (x ∷ xs) ys (y ∷ before) after e
    by first (inl at) = inl (at.0, ap (λ z. z ∷ xs) first ∙ ap (λ zs. y ∷ zs) at.1)
    by first (inr at) = inr (at.0, ap (λ z. z ∷ before) (sym first) ∙ ap (λ zs. x ∷ zs) at.1, at.2)

begun_there : (line : ℕ) (before after : List Entry) (who : Instance) → is_begun line (before ++ entry.Start line who ∷ after) ≡ true
begun_there line before after who =
    list_any-append (is_start_of line) before (entry.Start line who ∷ after)
    ∙ or_right (is_begun line before) (is_begun line (entry.Start line who ∷ after)) (or_left (line == line) (is_begun line after) (eq-eqb line line refl))

-- nothing began yet
pub nothing_before : (a b : ℕ) → IsEndedBefore a b []
nothing_before a b [] after who is = absurd (cc)
nothing_before a b (e ∷ before) after who is = absurd (cc)

-- b doesn't begin by what comes
pub stays_before : (a b : ℕ) (old more : List Entry) → is_begun b more ≡ false → IsEndedBefore a b old → IsEndedBefore a b (old ++ more)
stays_before a b old more none was before after who is = by (stands_in old more before after (entry.Start b who) is)
  where
    by : StandsIn old more before after (entry.Start b who) → is_ended a before ≡ true
    by (inl at) = was before at.0 who at.1
    by (inr at) = absurd (false≢true (sym none ∙ ap (is_begun b) at.2 ∙ begun_there b at.0 after who))

-- a ended before what comes
ended_before : (a b : ℕ) (old more : List Entry) → is_ended a old ≡ true → IsEndedBefore a b old → IsEndedBefore a b (old ++ more)
ended_before a b old more answered was before after who is = by (stands_in old more before after (entry.Start b who) is)
  where
    by : StandsIn old more before after (entry.Start b who) → is_ended a before ≡ true
    by (inl at) = was before at.0 who at.1
    by (inr at) = ap (is_ended a) at.1 ∙ list_any-append (is_end_of a) old at.0 ∙ or_left (is_ended a old) (is_ended a at.0) answered

-- Only this line begins by what comes; and where it is b, a ended before.
pub begins_in_turn : (a b line : ℕ) (old more : List Entry) → ((other : ℕ) → (line == other) ≡ false → is_begun other more ≡ false) → (line ≡ b → is_ended a old ≡ true)
    → IsEndedBefore a b old → IsEndedBefore a b (old ++ more)
begins_in_turn a b line old more others answered was = by (cases_eq line b)
  where
    by : (line ≡ b) ⊎ (line ≡ b → ⊥) → IsEndedBefore a b (old ++ more)
    by (inl same) = ended_before a b old more (answered same) was
    by (inr other) = stays_before a b old more (others b (ne_eqb line b other)) was
