-- At which objects a request waits for its turn.
use Rattle.std.specs.Prelude.{◌≡◌, ℕ, List, [], ◌∷◌}
use Rattle.rbd_kinds.specs.declared.answer.Answer.{Answer}
use Rattle.rbd_kinds.specs.declared.reply.Reply.{Reply}
use Rattle.rbd_kinds.specs.declared.reply.Reply.TheVariants as reply
use Rattle.rbd_machine.specs.Label.{Label}
use Rattle.rbd_machine.specs.Plan.{Plan, Ask, Await, Note, Return, Goto}
use Rattle.rbd_machine.specs.Wait as wait

-- where it ends it has had all its turns, or is refused
abbrev pub AreHad : Reply → List ℕ → Type 0
AreHad (reply.Refused r) objects = Unit {0}
AreHad reply objects = objects ≡ []

-- It waits for its turn at these objects, one after another, and at no others. Where it goes to a
-- label, those are left that belong there.
abbrev pub AreTurns : (left : Label → List ℕ) → Plan → List ℕ → Type 0
AreTurns left (Ask site why op next) objects = (answer : Answer) → AreTurns left (next answer) objects
AreTurns left (Await (wait.Turn object) next) [] = ⊥
AreTurns left (Await (wait.Turn object) next) (first ∷ objects) = (object ≡ first) × AreTurns left next objects
AreTurns left (Await _ next) objects = AreTurns left next objects
AreTurns left (Note site image event next) objects = AreTurns left next objects
AreTurns left (Return reply) objects = AreHad reply objects
AreTurns left (Goto label) objects = objects ≡ left label
