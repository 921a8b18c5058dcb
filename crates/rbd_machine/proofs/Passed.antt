-- A walk with jumps ends in a pass, and keeps the bounds of its passes.
use Rattle.std.proofs.Common.{◌≡◌, ℕ, zero, suc, ◌+◌, ◌*◌, ◌≤◌, List, [], ◌∷◌, ◌++◌, length, refl, sym, ap, ◌∙◌, subst, append_assoc, append-nil, add-mul, arith}
use Rattle.rbd_kinds.specs.declared.machine.Fed.{Fed}
use Rattle.rbd_kinds.specs.declared.machine.Fed.TheVariants as fed
use Rattle.rbd_machine.specs.Label.{Label}
use Rattle.rbd_machine.specs.Path.{Answered, IsWalk, IsBounded}
use Rattle.rbd_machine.specs.Passes.{EndsInPass, ArePasses, steps_of_passes, jumps, jumps_at}
use Rattle.rbd_machine.specs.Plan.{Plan, Ask, Await, Note, Return, Goto, past_label}
use Rattle.rbd_machine.proofs.Settled.{settled_goto}

module _ (labels : Label → Plan) where
  -- what the rest of a walk ends in, once it has gone to a label
  begun_again : (label : Label) (f : Fed) (head rest : List Answered) (plan last : Plan) (steps : List Answered) → steps ≡ head ++ rest
      → IsWalk Goto plan (f ∷ []) head (Goto label) → EndsInPass labels (labels label) rest last → EndsInPass labels plan steps last
  begun_again label f head rest plan last steps are goes ends = record {
    passes = head ∷ ends.passes;
    left = ends.left;
    pass = ends.pass;
    feds = ends.feds;
    are = are ∙ ap (λ r. head ++ r) ends.are ∙ sym (append_assoc head (steps_of_passes ends.passes) ends.pass);
    before = (record { label = label; feds = f ∷ []; walk = goes }, ends.before);
    walk = ends.walk;
  }

  -- a step in front of what the rest of a walk ends in, where it is no jump
  unbroken : (plan next last : Plan) (f : Fed) (head rest steps : List Answered) → steps ≡ head ++ rest
      → ((feds : List Fed) (pass : List Answered) (end : Plan) → IsWalk Goto next feds pass end → IsWalk Goto plan (f ∷ feds) (head ++ pass) end)
      → EndsInPass labels next rest last → EndsInPass labels plan steps last
  unbroken plan next last f head rest steps are step ends = go ends.passes ends.are ends.before
    where
      go : (passes : List (List Answered)) → rest ≡ steps_of_passes passes ++ ends.pass → ArePasses labels next passes ends.left → EndsInPass labels plan steps last
      go [] is before = record {
        passes = [];
        left = plan;
        pass = head ++ ends.pass;
        feds = f ∷ ends.feds;
        are = are ∙ ap (λ r. head ++ r) is;
        before = refl;
        walk = step ends.feds ends.pass last (subst (λ p. IsWalk Goto p ends.feds ends.pass last) before ends.walk);
      }
      go (p ∷ passes) is (goes, before) = record {
        passes = (head ++ p) ∷ passes;
        left = ends.left;
        pass = ends.pass;
        feds = ends.feds;
        are =
            are ∙ ap (λ r. head ++ r) is ∙ sym (append_assoc head (p ++ steps_of_passes passes) ends.pass)
            ∙ ap (λ r. r ++ ends.pass) (sym (append_assoc head p (steps_of_passes passes)));
        before = (record { label = goes.label; feds = f ∷ goes.feds; walk = step goes.feds p (Goto goes.label) goes.walk }, before);
        walk = ends.walk;
      }

  stepped : (plan next last : Plan) (f : Fed) (head rest steps : List Answered) → steps ≡ head ++ rest
      → ((feds : List Fed) (pass : List Answered) (end : Plan) → IsWalk Goto next feds pass end → IsWalk Goto plan (f ∷ feds) (head ++ pass) end)
      → EndsInPass labels (past_label labels next) rest last → EndsInPass labels plan steps last
  stepped plan (Ask site why op next) last f head rest steps are step ends = unbroken plan (Ask site why op next) last f head rest steps are step ends
  stepped plan (Await wait next) last f head rest steps are step ends = unbroken plan (Await wait next) last f head rest steps are step ends
  stepped plan (Note site image event next) last f head rest steps are step ends = unbroken plan (Note site image event next) last f head rest steps are step ends
  stepped plan (Return reply) last f head rest steps are step ends = unbroken plan (Return reply) last f head rest steps are step ends
  stepped plan (Goto label) last f head rest steps are step ends =
      begun_again label f head rest plan last steps are
      (subst (λ h. IsWalk Goto plan (f ∷ []) h (Goto label)) (append-nil head) (step [] [] (Goto label) (refl, refl))) ends

  pub walk_ends : (feds : List Fed) (plan : Plan) (steps : List Answered) (last : Plan) → IsWalk labels plan feds steps last → EndsInPass labels plan steps last
  walk_ends [] plan steps last walk = record { passes = []; left = plan; pass = steps; feds = []; are = refl; before = refl; walk = walk }
  walk_ends (fed.Answer a ∷ more) (Ask site why op next) steps last (first, walk) =
      stepped (Ask site why op next) (next a) last (fed.Answer a) (record { site = site; op = op; answer = a } ∷ []) first.rest steps first.is
      (λ feds pass end w. (record { rest = pass; is = refl }, subst (λ p. IsWalk Goto p feds pass end) (sym (settled_goto (next a))) w))
      (walk_ends more (past_label labels (next a)) first.rest last walk)
  walk_ends (fed.Passed ∷ more) (Ask site why op next) steps last walk = absurd walk
  walk_ends (fed.Passed ∷ more) (Await wait next) steps last walk =
      stepped (Await wait next) next last fed.Passed [] steps steps refl
      (λ feds pass end w. subst (λ p. IsWalk Goto p feds pass end) (sym (settled_goto next)) w)
      (walk_ends more (past_label labels next) steps last walk)
  walk_ends (fed.Answer a ∷ more) (Await wait next) steps last walk = absurd walk
  walk_ends (fed.Passed ∷ more) (Note site image event next) steps last walk =
      stepped (Note site image event next) next last fed.Passed [] steps steps refl
      (λ feds pass end w. subst (λ p. IsWalk Goto p feds pass end) (sym (settled_goto next)) w)
      (walk_ends more (past_label labels next) steps last walk)
  walk_ends (fed.Answer a ∷ more) (Note site image event next) steps last walk = absurd walk
  walk_ends (f ∷ more) (Return reply) steps last walk = absurd walk
  walk_ends (f ∷ more) (Goto label) steps last walk = absurd walk

  -- ---- bounds

  module _ (n : ℕ) (each : (label : Label) → IsBounded (labels label) n) where
    record SettledBound (plan : Plan) (m : ℕ) : Type 0 where
      pub most : ℕ
      pub within : most ≤ m + jumps_at plan * n
      pub bounded : IsBounded (past_label labels plan) most

    settled_bound : (plan : Plan) (m : ℕ) → IsBounded plan m → SettledBound plan m
    settled_bound (Ask site why op next) m b = record { most = m; within = omega arith; bounded = b }
    settled_bound (Await wait next) m b = record { most = m; within = omega arith; bounded = b }
    settled_bound (Note site image event next) m b = record { most = m; within = omega arith; bounded = b }
    settled_bound (Return reply) m b = record { most = m; within = omega arith; bounded = b }
    settled_bound (Goto label) m b = record { most = n; within = omega arith; bounded = each label }

    -- what the rest keeps, with what was settled before it
    kept : (plan : Plan) (m j length : ℕ) (s : SettledBound plan m) → length ≤ s.most + j * n → length ≤ m + (jumps_at plan + j) * n
    kept plan m j length s short = let sum : (jumps_at plan + j) * n ≡ jumps_at plan * n + j * n = add-mul (jumps_at plan) j n in let within = s.within in omega arith

    pub walk_bounded : (feds : List Fed) (plan : Plan) (m : ℕ) (steps : List Answered) (last : Plan) → IsBounded plan m → IsWalk labels plan feds steps last
        → length steps ≤ m + jumps labels plan feds * n
    walk_bounded [] plan m steps last b (none, same) = let no : length steps ≡ 0 = ap length none in omega arith
    walk_bounded (fed.Answer a ∷ more) (Ask site why op next) zero steps last b (first, walk) = absurd b
    walk_bounded (fed.Answer a ∷ more) (Ask site why op next) (suc m) steps last b (first, walk) =
        let s = settled_bound (next a) m (b a) in
        let short = kept (next a) m (jumps labels (past_label labels (next a)) more) (length first.rest) s (walk_bounded more (past_label labels (next a)) s.most first.rest last s.bounded walk) in
        let one_more : length steps ≡ suc (length first.rest) = ap length first.is in
        omega arith
    walk_bounded (fed.Passed ∷ more) (Ask site why op next) m steps last b walk = absurd walk
    walk_bounded (fed.Passed ∷ more) (Await wait next) m steps last b walk =
        let s = settled_bound next m b in
        kept next m (jumps labels (past_label labels next) more) (length steps) s (walk_bounded more (past_label labels next) s.most steps last s.bounded walk)
    walk_bounded (fed.Answer a ∷ more) (Await wait next) m steps last b walk = absurd walk
    walk_bounded (fed.Passed ∷ more) (Note site image event next) m steps last b walk =
        let s = settled_bound next m b in
        kept next m (jumps labels (past_label labels next) more) (length steps) s (walk_bounded more (past_label labels next) s.most steps last s.bounded walk)
    walk_bounded (fed.Answer a ∷ more) (Note site image event next) m steps last b walk = absurd walk
    walk_bounded (f ∷ more) (Return reply) m steps last b walk = absurd walk
    walk_bounded (f ∷ more) (Goto label) m steps last b walk = absurd walk
