-- The most places that were named at one time.
use Rattle.std.specs.Prelude.{◌≡◌, ℕ, max, List, [], ◌∷◌, length}
use Rattle.rbd_pages.specs.Places.{KeepsMost}
use Rattle.rbd_pages.specs.Sheets.{Sheet, in_use}

-- There were no pages at first, then those of these lists, the latest first, and there are these now.
-- No step from one to the next makes a place where one is free, nor more than one.
abbrev pub AreStates : (earlier : List (List Sheet)) → (now : List Sheet) → Type 0
AreStates [] now = length now ≡ 0
AreStates (before ∷ earlier) now = KeepsMost before now × AreStates earlier before

-- how many were named when the most were
abbrev pub most_named : (earlier : List (List Sheet)) → (now : List Sheet) → ℕ
most_named [] now = in_use now
most_named (before ∷ earlier) now = max (in_use now) (most_named earlier before)
