-- A walk along a line.
use Rattle.std.proofs.Common.{◌≡◌, ℕ, ◌+◌, ◌<◌, Bool, false, ◌&&◌, eqb, List, ◌∷◌, length, map, drop, get_or, sym, ap, ◌∙◌}
use Rattle.std.specs.List.{list_all}
use Rattle.std.proofs.lemmas.List.{at_drop_more}
use Rattle.std.proofs.lemmas.Bool.{cond-false}
use Rattle.rbd_kinds.specs.declared.sharing.Sharing.{Sharing}
use Rattle.rbd_queue.specs.declared.standing.LineMember.{LineMember}
use Rattle.rbd_queue.specs.Kept.{member}
use Rattle.rbd_queue.specs.Line.{lets_pass, ahead}

abbrev pub all_let : (held : ℕ → List ℕ) → (slot : ℕ) → Sharing → List LineMember → Bool
all_let held slot sharing xs = list_all (lets_pass sharing) (ahead slot (map (member held) xs))

pub one_on : (held : ℕ → List ℕ) (slot : ℕ) (sharing : Sharing) (xs : List LineMember) (i : ℕ) (x : LineMember) → i < length xs → x ≡ get_or xs i x → eqb x.slot slot ≡ false
    → all_let held slot sharing (drop i xs) ≡ lets_pass sharing (member held x) && all_let held slot sharing (drop (i + 1) xs)
one_on held slot sharing xs i x within is other =
    at_drop_more (all_let held slot sharing) xs i x within
    ∙ (ap (λ y. all_let held slot sharing (y ∷ drop (i + 1) xs)) (sym is)
    ∙ ap (list_all (lets_pass sharing)) (cond-false (eqb x.slot slot) _ _ other))
