-- What a request asks for is a path of its plan.
use Rattle.std.proofs.Common.{◌≡◌, List, [], ◌∷◌, refl, sym, subst}
use Rattle.rbd_kinds.specs.declared.machine.Fed.{Fed}
use Rattle.rbd_kinds.specs.declared.machine.Fed.TheVariants as fed
use Rattle.rbd_machine.specs.Label.{Label}
use Rattle.rbd_machine.specs.Path.{Answered, IsPath, IsWalk, IsStep, at_operation, after_answer}
use Rattle.rbd_machine.specs.Plan.{Plan, Ask, Await, Note, Return, Goto, IsAsking, past_label}

module _ (labels : Label → Plan) (asking : (label : Label) → IsAsking (labels label)) where
  at_asking : (plan : Plan) → IsAsking plan → at_operation labels plan ≡ plan
  at_asking (Ask site why op next) a = refl
  at_asking (Await wait next) a = absurd a
  at_asking (Note site image event next) a = absurd a
  at_asking (Return reply) a = absurd a
  at_asking (Goto label) a = absurd a

  -- to go to a label first changes no path
  at_settled : (plan : Plan) → at_operation labels (past_label labels plan) ≡ at_operation labels plan
  at_settled (Ask site why op next) = refl
  at_settled (Await wait next) = refl
  at_settled (Note site image event next) = refl
  at_settled (Return reply) = refl
  at_settled (Goto label) = at_asking (labels label) (asking label)

  same_path : (one other : Plan) (steps : List Answered) → at_operation labels one ≡ at_operation labels other → IsPath labels one steps → IsPath labels other steps
  same_path one other [] same path = tt
  same_path one other (step ∷ more) same path = subst (λ at. IsPathAt at) same path
    where
      IsPathAt : Plan → Type 0
      IsPathAt at = IsStep at step × IsPath labels (after_answer at step.answer) more

  pub walk_path : (feds : List Fed) (plan : Plan) (steps : List Answered) (last : Plan) → IsWalk labels plan feds steps last → IsPath labels plan steps
  walk_path [] plan steps last (none, same) = subst (IsPath labels plan) (sym none) tt
  walk_path (fed.Answer a ∷ more) (Ask site why op next) steps last (first, walk) =
      subst (IsPath labels (Ask site why op next)) (sym first.is)
      ((refl, refl), same_path (past_label labels (next a)) (next a) first.rest (at_settled (next a)) (walk_path more (past_label labels (next a)) first.rest last walk))
  walk_path (fed.Passed ∷ more) (Ask site why op next) steps last walk = absurd walk
  walk_path (fed.Passed ∷ more) (Await wait next) steps last walk =
      same_path next (Await wait next) steps refl (same_path (past_label labels next) next steps (at_settled next) (walk_path more (past_label labels next) steps last walk))
  walk_path (fed.Answer a ∷ more) (Await wait next) steps last walk = absurd walk
  walk_path (fed.Passed ∷ more) (Note site image event next) steps last walk =
      same_path next (Note site image event next) steps refl (same_path (past_label labels next) next steps (at_settled next) (walk_path more (past_label labels next) steps last walk))
  walk_path (fed.Answer a ∷ more) (Note site image event next) steps last walk = absurd walk
  walk_path (f ∷ more) (Return reply) steps last walk = absurd walk
  walk_path (f ∷ more) (Goto label) steps last walk = absurd walk
