-- How many operations a plan has, whatever they are answered of what they can give: step by step,
-- but for looks above, and along a walk.
use Rattle.std.proofs.Common.{◌≡◌, inl, ℕ, ◌+◌, ◌*◌, ◌≤◌, zero, suc, List, [], ◌∷◌, length, Option, Some, None, ap, subst, add-mul, arith}
use Rattle.rbd_kinds.specs.declared.sharing.Sharing.{Sharing}
use Rattle.rbd_kinds.specs.declared.answer.Answer.{Answer}
use Rattle.rbd_kinds.specs.declared.answer.Answer.TheVariants as answer
use Rattle.rbd_kinds.specs.declared.header.HeaderView.{HeaderView}
use Rattle.rbd_kinds.specs.declared.header_op.HeaderOp.TheVariants as header
use Rattle.rbd_kinds.specs.declared.id.SiteId.{SiteId}
use Rattle.rbd_kinds.specs.declared.machine.Fed.{Fed}
use Rattle.rbd_kinds.specs.declared.machine.Fed.TheVariants as fed
use Rattle.rbd_kinds.specs.declared.operation.Op.TheVariants as op
use Rattle.rbd_commands.specs.declared.refusal.Refusal.{Refusal}
use Rattle.rbd_kinds.specs.Form.{IsHeaderInForm}
use Rattle.rbd_machine.specs.About.{owned_after}
use Rattle.rbd_machine.specs.Answers.{CanGive}
use Rattle.rbd_machine.specs.Knowledge.{ImagePlace}
use Rattle.rbd_machine.specs.Label.{Label}
use Rattle.rbd_machine.specs.OwnSteps.{AsksOwnAtMost}
use Rattle.rbd_machine.specs.Passes.{jumps, jumps_at}
use Rattle.rbd_machine.specs.Path.{Answered, IsBounded, IsWalk}
use Rattle.rbd_machine.specs.Plan.{Plan, Ask, Await, Note, Return, Goto, past_label}
use Rattle.rbd_machine.specs.Refused.{AreGiven, IsGiven}
use Rattle.rbd_machine.specs.Steps.{on_id, on_header, unless, change_plan, joining, looking, looked, holding, under_lock, owned}
use Rattle.rbd_catalog.specs.Touched.{AsksAtMost}

-- ---- steps

pub asks_on_id : (next : ℕ → Plan) (n : ℕ) → ((image : ℕ) → AsksAtMost (next image) n) → (a : Answer) → AsksAtMost (on_id next a) n
asks_on_id next n few (answer.Id image) = few image
asks_on_id next n few answer.Fenced = tt
asks_on_id next n few _ = tt

pub asks_on_header : (image : ℕ) (next : HeaderView → Plan) (n : ℕ) → ((h : HeaderView) → IsHeaderInForm h → AsksAtMost (next h) n)
    → (a : Answer) → CanGive (op.Header image header.Get) a → AsksAtMost (on_header next a) n
asks_on_header image next n few (answer.Header h) can = few h can.form
asks_on_header image next n few answer.Fenced can = tt
asks_on_header image next n few _ can = tt

pub asks_unless : (r : Option Refusal) (next : Plan) (n : ℕ) → AsksAtMost next n → AsksAtMost (unless r next) n
asks_unless None next n few = few
asks_unless (Some r) next n few = tt

module _ (site : SiteId) (refuses : HeaderView → Option Refusal) (act : ℕ → HeaderView → Plan) (n : ℕ) (acts : (image : ℕ) (h : HeaderView) → IsHeaderInForm h → AsksAtMost (act image h) n) where
  asks_under_lock : (image : ℕ) → AsksAtMost (under_lock site refuses act image) (suc n)
  asks_under_lock image = asks_on_header image (owned refuses act image) n (λ h form. asks_unless (refuses h) (act image h) n (acts image h form))

  asks_looking : (image : ℕ) → AsksAtMost (looking site refuses act image) (suc (suc n))
  asks_looking image = asks_on_header image (looked site refuses act image) (suc n) (λ h form. asks_unless (refuses h) (holding site refuses act image) (suc n) (asks_under_lock image))

  pub asks_change : (name : List ℕ) (sharing : Sharing) → AsksAtMost (change_plan site name sharing refuses act) (suc (suc (suc n)))
  asks_change name sharing = λ found can. asks_on_id (joining site sharing refuses act) (suc (suc n)) asks_looking found

-- ---- a bound for all answers is one for those that can be given, and so is a larger one

pub asks_within : (plan : Plan) (n m : ℕ) → n ≤ m → IsBounded plan n → AsksAtMost plan m
asks_within (Ask site why op next) zero m most bounded = absurd bounded
asks_within (Ask site why op next) (suc n) zero most bounded = absurd (let none : suc n ≤ zero = most in omega arith)
asks_within (Ask site why op next) (suc n) (suc m) most bounded = λ a can. asks_within (next a) n m (omega arith) (bounded a)
asks_within (Await wait next) n m most bounded = asks_within next n m most bounded
asks_within (Note site image event next) n m most bounded = asks_within next n m most bounded
asks_within (Return reply) n m most bounded = tt
asks_within (Goto label) n m most bounded = tt

-- ---- so many in all are so many but for looks above, whichever images are own

pub asks_own : (plan : Plan) (images : List ImagePlace) (n : ℕ) → AsksAtMost plan n → AsksOwnAtMost images plan n
asks_own (Ask site why op next) images zero few = absurd few
asks_own (Ask site why op next) images (suc n) few = inl (λ a can. asks_own (next a) (owned_after images site op a) n (few a can))
asks_own (Await wait next) images n few = asks_own next images n few
asks_own (Note site image event next) images n few = asks_own next images n few
asks_own (Return reply) images n few = tt
asks_own (Goto label) images n few = tt

-- ---- along a walk that goes to labels

module _ (labels : Label → Plan) (n : ℕ) (each : (label : Label) → AsksAtMost (labels label) n) where
  record Settled (plan : Plan) (m : ℕ) : Type 0 where
    pub most : ℕ
    pub within : most ≤ m + jumps_at plan * n
    pub few : AsksAtMost (past_label labels plan) most

  settle : (plan : Plan) (m : ℕ) → AsksAtMost plan m → Settled plan m
  settle (Ask site why op next) m few = record { most = m; within = omega arith; few = few }
  settle (Await wait next) m few = record { most = m; within = omega arith; few = few }
  settle (Note site image event next) m few = record { most = m; within = omega arith; few = few }
  settle (Return reply) m few = record { most = m; within = omega arith; few = few }
  settle (Goto label) m few = record { most = n; within = omega arith; few = each label }

  -- what the rest keeps, with what was settled before it
  kept : (plan : Plan) (m j length : ℕ) (s : Settled plan m) → length ≤ s.most + j * n → length ≤ m + (jumps_at plan + j) * n
  kept plan m j length s short = let sum : (jumps_at plan + j) * n ≡ jumps_at plan * n + j * n = add-mul (jumps_at plan) j n in let within = s.within in omega arith

  pub walk_asks : (feds : List Fed) (plan : Plan) (m : ℕ) (steps : List Answered) (last : Plan) → AsksAtMost plan m → AreGiven steps → IsWalk labels plan feds steps last
      → length steps ≤ m + jumps labels plan feds * n
  walk_asks [] plan m steps last few given (none, same) = let no : length steps ≡ 0 = ap length none in omega arith
  walk_asks (fed.Answer a ∷ more) (Ask site why op next) zero steps last few given (first, walk) = absurd few
  walk_asks (fed.Answer a ∷ more) (Ask site why op next) (suc m) steps last few given (first, walk) =
      let are : IsGiven op a × AreGiven first.rest = subst AreGiven first.is given in
      let s = settle (next a) m (few a are.0.can) in
      let short = kept (next a) m (jumps labels (past_label labels (next a)) more) (length first.rest) s (walk_asks more (past_label labels (next a)) s.most first.rest last s.few are.1 walk) in
      let one_more : length steps ≡ suc (length first.rest) = ap length first.is in
      omega arith
  walk_asks (fed.Passed ∷ more) (Ask site why op next) m steps last few given walk = absurd walk
  walk_asks (fed.Passed ∷ more) (Await wait next) m steps last few given walk =
      let s = settle next m few in
      kept next m (jumps labels (past_label labels next) more) (length steps) s (walk_asks more (past_label labels next) s.most steps last s.few given walk)
  walk_asks (fed.Answer a ∷ more) (Await wait next) m steps last few given walk = absurd walk
  walk_asks (fed.Passed ∷ more) (Note site image event next) m steps last few given walk =
      let s = settle next m few in
      kept next m (jumps labels (past_label labels next) more) (length steps) s (walk_asks more (past_label labels next) s.most steps last s.few given walk)
  walk_asks (fed.Answer a ∷ more) (Note site image event next) m steps last few given walk = absurd walk
  walk_asks (f ∷ more) (Return reply) m steps last few given walk = absurd walk
  walk_asks (f ∷ more) (Goto label) m steps last few given walk = absurd walk
