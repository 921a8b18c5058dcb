-- A walk goes on: with an answer, and then past all that the plan waits for.
use Rattle.std.proofs.Common.{◌≡◌, List, [], ◌∷◌, ◌++◌, refl, sym, ap, ◌∙◌, subst}
use Rattle.rbd_kinds.specs.declared.answer.Answer.{Answer}
use Rattle.rbd_kinds.specs.declared.id.SiteId.{SiteId}
use Rattle.rbd_kinds.specs.declared.machine.Fed.{Fed}
use Rattle.rbd_kinds.specs.declared.machine.Fed.TheVariants as fed
use Rattle.rbd_kinds.specs.declared.operation.Op.{Op}
use Rattle.rbd_knowledge.specs.Knowing.{known_at_operation, known_behind}
use Rattle.rbd_machine.specs.Knowledge.{Knowledge, learned, known_after_wait}
use Rattle.rbd_machine.specs.Label.{Label}
use Rattle.rbd_machine.specs.Path.{Answered, IsWalk, at_operation}
use Rattle.rbd_machine.specs.Plan.{Plan, Ask, Await, Note, Return, Goto, past_label}
use Rattle.rbd_machine.specs.Refused.{AreGiven, IsGiven}
use Rattle.rbd_machine.specs.Standalone.{TellAllStandalone, TellsStandalone}
use Rattle.rbd_machine.specs.declared.reason.Reason.{Reason}
use Rattle.rbd_world.specs.Past.{known_along}

pub walk_append : (labels : Label → Plan) (feds : List Fed) (plan mid last : Plan) (more : List Fed) (steps rest : List Answered)
    → IsWalk labels plan feds steps mid → IsWalk labels mid more rest last → IsWalk labels plan (feds ++ more) (steps ++ rest) last
walk_append labels [] plan mid last more steps rest (none, same) walk =
    subst (λ xs. IsWalk labels plan more (xs ++ rest) last) (sym none) (subst (λ p. IsWalk labels p more rest last) same walk)
walk_append labels (fed.Answer a ∷ feds) (Ask s why o next) mid last more steps rest (first, walk) on = (
  record { rest = first.rest ++ rest; is = ap (λ xs. xs ++ rest) first.is },
  walk_append labels feds (past_label labels (next a)) mid last more first.rest rest walk on,
)
walk_append labels (fed.Passed ∷ feds) (Await wait next) mid last more steps rest walk on =
    walk_append labels feds (past_label labels next) mid last more steps rest walk on
walk_append labels (fed.Passed ∷ feds) (Note site image event next) mid last more steps rest walk on =
    walk_append labels feds (past_label labels next) mid last more steps rest walk on
walk_append labels (fed.Passed ∷ feds) (Ask s why o next) mid last more steps rest walk on = absurd walk
walk_append labels (fed.Answer a ∷ feds) (Await wait next) mid last more steps rest walk on = absurd walk
walk_append labels (fed.Answer a ∷ feds) (Note site image event next) mid last more steps rest walk on = absurd walk
walk_append labels (f ∷ feds) (Return reply) mid last more steps rest walk on = absurd walk
walk_append labels (f ∷ feds) (Goto label) mid last more steps rest walk on = absurd walk

-- it was led there by something
pub record IsLed (labels : Label → Plan) (plan : Plan) (steps : List Answered) (last : Plan) : Type 0 where
  pub feds : List Fed
  pub walk : IsWalk labels plan feds steps last

-- up to its next operation it has no step
pub led_to_operation : (labels : Label → Plan) (next : Plan) → IsLed labels (past_label labels next) [] (at_operation labels next)
led_to_operation labels (Ask s why o next) = record { feds = []; walk = (refl, refl) }
led_to_operation labels (Await wait next) = let led = led_to_operation labels next in record { feds = fed.Passed ∷ led.feds; walk = led.walk }
led_to_operation labels (Note site image event next) = let led = led_to_operation labels next in record { feds = fed.Passed ∷ led.feds; walk = led.walk }
led_to_operation labels (Return reply) = record { feds = []; walk = (refl, refl) }
led_to_operation labels (Goto label) = record { feds = []; walk = (refl, refl) }

-- an answer is one step
pub led_on : (labels : Label → Plan) (plan : Plan) (steps : List Answered) (s : SiteId) (why : Reason) (o : Op) (next : Answer → Plan) (a : Answer)
    → IsLed labels plan steps (Ask s why o next) → IsLed labels plan (steps ++ record { site = s; op = o; answer = a } ∷ []) (at_operation labels (next a))
led_on labels plan steps s why o next a led =
    let on = led_to_operation labels (next a) in
    record {
      feds = led.feds ++ (fed.Answer a ∷ on.feds);
      walk =
          walk_append labels led.feds plan (Ask s why o next) (at_operation labels (next a)) (fed.Answer a ∷ on.feds) steps (record { site = s; op = o; answer = a } ∷ []) led.walk
          (record { rest = []; is = refl }, on.walk);
    }

-- what is known behind a walk that goes on
along_append : (labels : Label → Plan) (feds : List Fed) (k : Knowledge) (plan mid : Plan) (more : List Fed) (steps : List Answered) → IsWalk labels plan feds steps mid
    → known_along labels k plan (feds ++ more) ≡ known_along labels (known_along labels k plan feds) mid more
along_append labels [] k plan mid more steps (none, same) = ap (λ p. known_along labels k p more) (sym same)
along_append labels (fed.Answer a ∷ feds) k (Ask s why o next) mid more steps (first, walk) = along_append labels feds (learned k s o a) (past_label labels (next a)) mid more first.rest walk
along_append labels (fed.Passed ∷ feds) k (Await wait next) mid more steps walk = along_append labels feds (known_after_wait k wait) (past_label labels next) mid more steps walk
along_append labels (fed.Passed ∷ feds) k (Note site image event next) mid more steps walk = along_append labels feds k (past_label labels next) mid more steps walk
along_append labels (fed.Passed ∷ feds) k (Ask s why o next) mid more steps walk = absurd walk
along_append labels (fed.Answer a ∷ feds) k (Await wait next) mid more steps walk = absurd walk
along_append labels (fed.Answer a ∷ feds) k (Note site image event next) mid more steps walk = absurd walk
along_append labels (f ∷ feds) k (Return reply) mid more steps walk = absurd walk
along_append labels (f ∷ feds) k (Goto label) mid more steps walk = absurd walk

along_to_operation : (labels : Label → Plan) (next : Plan) (k : Knowledge) → known_along labels k (past_label labels next) (led_to_operation labels next).feds ≡ known_at_operation k next
unfolding led_to_operation
along_to_operation labels (Ask s why o next) k = refl
along_to_operation labels (Await wait next) k = along_to_operation labels next (known_after_wait k wait)
along_to_operation labels (Note site image event next) k = along_to_operation labels next k
along_to_operation labels (Return reply) k = refl
along_to_operation labels (Goto label) k = refl

-- what an answer teaches, and the waits behind it
pub led_known : (labels : Label → Plan) (plan : Plan) (steps : List Answered) (s : SiteId) (why : Reason) (o : Op) (next : Answer → Plan) (a : Answer) (led : IsLed labels plan steps (Ask s why o next)) (k : Knowledge)
    → known_along labels k plan (led_on labels plan steps s why o next a led).feds ≡ known_behind (known_along labels k plan led.feds) (Ask s why o next) (fed.Answer a)
unfolding led_on
led_known labels plan steps s why o next a led k =
    along_append labels led.feds k plan (Ask s why o next) (fed.Answer a ∷ (led_to_operation labels (next a)).feds) steps led.walk
    ∙ along_to_operation labels (next a) (learned (known_along labels k plan led.feds) s o a)

pub given_more : (steps : List Answered) (s : SiteId) (o : Op) (a : Answer) → AreGiven steps → IsGiven o a → AreGiven (steps ++ record { site = s; op = o; answer = a } ∷ [])
given_more [] s o a given can = (can, tt)
given_more (step ∷ steps) s o a given can = (given.0, given_more steps s o a given.1 can)

pub standalone_more : (steps : List Answered) (s : SiteId) (o : Op) (a : Answer) → TellAllStandalone steps → TellsStandalone a → TellAllStandalone (steps ++ record { site = s; op = o; answer = a } ∷ [])
standalone_more [] s o a told tells = (tells, tt)
standalone_more (step ∷ steps) s o a told tells = (told.0, standalone_more steps s o a told.1 tells)
