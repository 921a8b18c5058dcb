-- Views of snapshots over whole lives.
use Rattle.std.proofs.Common.{◌≡◌, ℕ, ◌≤◌, ◌∙◌, Bool, true, false, ◌&&◌, List, [], ◌∷◌, Option, Some, refl, arith, IsTrue}
use Rattle.std.specs.List.{list_all}
use Rattle.rbd_kinds.specs.declared.header.SnapContext.{SnapContext}
use Rattle.rbd_object.specs.Kept.{is_listed}
use Rattle.rbd_object.specs.Versioned.{Versioned, IsTidy, Step, Change, CopyUp, Trim, view, change, after_step, after_steps, spares}

step_stays : (snap : ℕ) (step : Step) (o : Versioned) → snap ≤ o.seq → IsTrue (spares snap step)
    → view (after_step step o) (Some snap) ≡ view o (Some snap)
step_stays snap (Change c new) o below spared = grind arith
step_stays snap (CopyUp bytes) o below spared = grind arith
step_stays snap (Trim live) o below spared = grind arith

step_rises : (snap : ℕ) (step : Step) (o : Versioned) → snap ≤ o.seq → snap ≤ (after_step step o).seq
step_rises snap (Change c new) o below = omega arith
step_rises snap (CopyUp bytes) o below = below
step_rises snap (Trim live) o below = below

both : (a b : Bool) → IsTrue (a && b) → IsTrue a × IsTrue b
both true b h = (refl, h)
both false b h = cc

pub view-after_steps : (snap : ℕ) (steps : List Step) (o : Versioned) → snap ≤ o.seq
    → IsTrue (list_all (spares snap) steps) → view (after_steps steps o) (Some snap) ≡ view o (Some snap)
view-after_steps snap [] o below spared = refl
view-after_steps snap (step ∷ steps) o below spared =
    let spares_both = both (spares snap step) (list_all (spares snap) steps) spared in
    view-after_steps snap steps (after_step step o) (step_rises snap step o below) spares_both.1 ∙ step_stays snap step o below spares_both.0

pub view-change : (snap : ℕ) (c : SnapContext) (new : Option (List ℕ)) (o : Versioned) → IsTidy o → snap ≤ c.seq
    → IsTrue (is_listed c.snaps snap) → view (change c new o) (Some snap) ≡ view o (Some snap)
view-change snap c new o tidy up_to listed = grind (arith, tidy.above snap)

pub view-after_steps_listed : (snap : ℕ) (c : SnapContext) (new : Option (List ℕ)) (steps : List Step) (o : Versioned)
    → IsTidy o → snap ≤ c.seq → IsTrue (is_listed c.snaps snap) → IsTrue (list_all (spares snap) steps)
    → view (after_steps (Change c new ∷ steps) o) (Some snap) ≡ view o (Some snap)
view-after_steps_listed snap c new steps o tidy up_to listed spared =
    view-after_steps snap steps (change c new o) (omega arith) spared ∙ view-change snap c new o tidy up_to listed
