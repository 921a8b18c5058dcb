-- Bounds of plans, step by step.
use Rattle.std.proofs.Common.{ℕ, ◌≤◌, zero, suc, List, length, Option, Some, None, [], ◌∷◌, arith}
use Rattle.rbd_kinds.specs.declared.sharing.Sharing.{Sharing}
use Rattle.rbd_kinds.specs.declared.answer.Answer.{Answer}
use Rattle.rbd_kinds.specs.declared.answer.Answer.TheVariants as answer
use Rattle.rbd_kinds.specs.declared.header.HeaderView.{HeaderView}
use Rattle.rbd_kinds.specs.declared.id.SiteId.{SiteId}
use Rattle.rbd_commands.specs.declared.refusal.Refusal.{Refusal}
use Rattle.rbd_machine.specs.Plan.{Plan, Ask, Await, Note, Return, Goto}
use Rattle.rbd_machine.specs.Path.{Answered, IsPass, IsStep, IsBounded, at_operation, after_answer}
use Rattle.rbd_machine.specs.Steps.{unless, not_there, on_id, on_header, on_done, change_plan, joining, looking, looked, holding, under_lock, owned}

-- ---- paths

pub bounded_at : (plan : Plan) (n : ℕ) → IsBounded plan n → IsBounded (at_operation Goto plan) n
bounded_at (Ask site why op next) n b = b
bounded_at (Await wait next) n b = bounded_at next n b
bounded_at (Note site image event next) n b = bounded_at next n b
bounded_at (Return reply) n b = b
bounded_at (Goto label) n b = b

pub bounded_step : (at : Plan) (n : ℕ) (step : Answered) (more : List Answered) → ((plan : Plan) (m : ℕ) → IsBounded plan m → IsPass plan more → length more ≤ m)
    → IsBounded at n → IsStep at step → IsPass (after_answer at step.answer) more → suc (length more) ≤ n
bounded_step (Ask site why op next) zero step more shorter b is rest = absurd b
bounded_step (Ask site why op next) (suc n) step more shorter b is rest = let short : length more ≤ n = shorter (next step.answer) n (b step.answer) rest in omega arith
bounded_step (Await wait next) n step more shorter b is rest = absurd is
bounded_step (Note site image event next) n step more shorter b is rest = absurd is
bounded_step (Return reply) n step more shorter b is rest = absurd is
bounded_step (Goto label) n step more shorter b is rest = absurd is

pub bounded_path : (path : List Answered) (plan : Plan) (n : ℕ) → IsBounded plan n → IsPass plan path → length path ≤ n
bounded_path [] plan n b p = omega arith
bounded_path (step ∷ more) plan n b (is, rest) = bounded_step (at_operation Goto plan) n step more (bounded_path more) (bounded_at plan n b) is rest

-- ---- steps

pub bounded_not_there : (a : Answer) (n : ℕ) → IsBounded (not_there a) n
bounded_not_there answer.Fenced n = tt
bounded_not_there _ n = tt

pub bounded_on_id : (next : ℕ → Plan) (n : ℕ) → ((image : ℕ) → IsBounded (next image) n) → (a : Answer) → IsBounded (on_id next a) n
bounded_on_id next n b (answer.Id image) = b image
bounded_on_id next n b answer.Fenced = tt
bounded_on_id next n b _ = tt

pub bounded_on_header : (next : HeaderView → Plan) (n : ℕ) → ((h : HeaderView) → IsBounded (next h) n) → (a : Answer) → IsBounded (on_header next a) n
bounded_on_header next n b (answer.Header h) = b h
bounded_on_header next n b answer.Fenced = tt
bounded_on_header next n b _ = tt

pub bounded_on_done : (next : Plan) (n : ℕ) → IsBounded next n → (a : Answer) → IsBounded (on_done next a) n
bounded_on_done next n b answer.Done = b
bounded_on_done next n b answer.Fenced = tt
bounded_on_done next n b _ = tt

pub bounded_unless : (r : Option Refusal) (next : Plan) (n : ℕ) → IsBounded next n → IsBounded (unless r next) n
bounded_unless None next n b = b
bounded_unless (Some r) next n b = tt

module _ (site : SiteId) (refuses : HeaderView → Option Refusal) (act : ℕ → HeaderView → Plan) (n : ℕ) (acts : (image : ℕ) (h : HeaderView) → IsBounded (act image h) n) where
  bounded_under_lock : (image : ℕ) → IsBounded (under_lock site refuses act image) (suc n)
  bounded_under_lock image = bounded_on_header (owned refuses act image) n (λ h. bounded_unless (refuses h) (act image h) n (acts image h))

  bounded_looking : (image : ℕ) → IsBounded (looking site refuses act image) (suc (suc n))
  bounded_looking image = bounded_on_header (looked site refuses act image) (suc n) (λ h. bounded_unless (refuses h) (holding site refuses act image) (suc n) (bounded_under_lock image))

  pub bounded_change : (name : List ℕ) (sharing : Sharing) → IsBounded (change_plan site name sharing refuses act) (suc (suc (suc n)))
  bounded_change name sharing = bounded_on_id (joining site sharing refuses act) (suc (suc n)) bounded_looking

-- ---- more than enough

pub bounded_more : (plan : Plan) (n m : ℕ) → n ≤ m → IsBounded plan n → IsBounded plan m
bounded_more (Ask site why op next) zero m most b = absurd b
bounded_more (Ask site why op next) (suc n) zero most b = absurd (let none : suc n ≤ zero = most in omega arith)
bounded_more (Ask site why op next) (suc n) (suc m) most b = λ a. bounded_more (next a) n m (omega arith) (b a)
bounded_more (Await wait next) n m most b = bounded_more next n m most b
bounded_more (Note site image event next) n m most b = bounded_more next n m most b
bounded_more (Return reply) n m most b = tt
bounded_more (Goto label) n m most b = tt
