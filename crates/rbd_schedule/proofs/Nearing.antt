-- How far a way to a lock, which only asks again, is from having shown whose the lock is.
use Rattle.std.proofs.Common.{◌≡◌, ℕ, suc, ◌≤◌, ◌⊎◌, inl, inr, cond, Bool, true, false, List, [], refl, sym, ap, ◌∙◌, subst, arith}
use Rattle.std.proofs.lemmas.Bool.{false≢true}
use Rattle.rbd_client.specs.Feeding.{GoesOnItsWay}
use Rattle.rbd_kinds.specs.OperationKind.{kind_of}
use Rattle.rbd_kinds.specs.declared.answer.Answer.{Answer}
use Rattle.rbd_kinds.specs.declared.answer.Answer.TheVariants as answer
use Rattle.rbd_kinds.specs.declared.header_op.HeaderOp.TheVariants as header
use Rattle.rbd_kinds.specs.declared.id.Instance.{Instance}
use Rattle.rbd_kinds.specs.declared.id.SiteId.{SiteId}
use Rattle.rbd_kinds.specs.declared.machine.Fed.TheVariants as fed
use Rattle.rbd_kinds.specs.declared.operation.Op.{Op}
use Rattle.rbd_kinds.specs.declared.operation.Op.TheVariants as op
use Rattle.rbd_kinds.specs.declared.reply.Reply.TheVariants as reply
use Rattle.rbd_machine.specs.Label.{Label}
use Rattle.rbd_machine.specs.Plan.{Plan, Ask, Return, plan_after, past_label}
use Rattle.rbd_machine.specs.Steps.{IsGoing}
use Rattle.rbd_lock.specs.Acquire.{asking, fencing, lock_of, op_at_stage, rest_at, rest_of_acquire}
use Rattle.rbd_lock.specs.Steps.{is_instance_among}
use Rattle.rbd_lock.specs.Waiting.{asks_again}
use Rattle.rbd_lock.specs.declared.acquire.Acquire.{Acquire}
use Rattle.rbd_lock.specs.declared.acquire.Stage.{Stage}
use Rattle.rbd_lock.specs.declared.acquire.Stage.TheVariants as stage
use Rattle.rbd_site.specs.Records.{Records}
use Rattle.rbd_site.specs.Step.{answer_to}
use Rattle.rbd_schedule.specs.Ends.{IsAnothers}
use Rattle.rbd_schedule.proofs.Unchanged.{IsAsIn, IsOwnerThere, held_there, watchers_there}

-- ---- what is left of a way tells its stage

-- whom a plan fences first
abbrev fenced_by : (other : Instance) → Plan → Instance
fenced_by other (Ask site why (op.BlockAdd owner) next) = owner
fenced_by other plan = other

abbrev stage_by : (other : Instance) → Op → (Answer → Plan) → Stage
stage_by other (op.Header image header.LockTake) next = stage.Taking
stage_by other (op.Header image header.WatchersGet) next = stage.Looking (fenced_by other (next (answer.Instances [])))
stage_by other (op.Header image (header.Notify kind)) next = stage.Asking
stage_by other (op.BlockAdd owner) next = stage.Fencing owner
stage_by other (op.Header image (header.LockBreak owner)) next = stage.Breaking owner
stage_by other o next = stage.Watching

abbrev stage_of : (other : Instance) → Plan → Stage
stage_of other (Ask site why o next) = stage_by other o next
stage_of other plan = stage.Watching

stage_left : (other : Instance) (at : Stage) (site : SiteId) (image : ℕ) (next : Plan) → stage_of other (rest_at at site image next) ≡ at
stage_left other stage.Watching site image next = refl
stage_left other stage.Taking site image next = refl
stage_left other (stage.Looking owner) site image next = refl
stage_left other stage.Asking site image next = refl
stage_left other (stage.Fencing owner) site image next = refl
stage_left other (stage.Breaking owner) site image next = refl

-- ---- the next stage, behind a step that asks again

abbrev pub IsNext : Stage → Answer → Stage → Type 0
IsNext stage.Taking (answer.Held owner) s = s ≡ stage.Looking owner
IsNext (stage.Looking owner) (answer.Instances watchers) s = s ≡ cond (is_instance_among watchers owner) stage.Asking (stage.Fencing owner)
IsNext stage.Asking answer.Done s = s ≡ stage.Taking
IsNext at told s = ⊥

abbrev last : Plan
last = Return reply.Done

module _ (labels : Label → Plan) (lock : Plan) (site : SiteId) (image : ℕ) (b : Acquire) where
  goes_to : (other : Instance) (to : Plan) → IsGoing to (rest_of_acquire b last) → b.stage ≡ stage_of other to
  goes_to other to going = sym (stage_left other b.stage b.site b.image last) ∙ ap (stage_of other) going.is

  looked_up : (owner : Instance) (among : Bool) → IsGoing (past_label labels (cond among (asking site image) (fencing site image owner))) (rest_of_acquire b last) → b.stage ≡ cond among stage.Asking (stage.Fencing owner)
  looked_up owner true going = goes_to owner (asking site image) going
  looked_up owner false going = goes_to owner (fencing site image owner) going

pub goes_next : (a b : Acquire) (told : Answer) → asks_again (kind_of (op_at_stage a.stage a.image)) told ≡ true → GoesOnItsWay a (fed.Answer told) b → IsNext a.stage told b.stage
goes_next a b told again goes = by a.stage told again (goes.goes (λ l. lock_of a last) last refl)
  where
    by : (at : Stage) (told : Answer) → asks_again (kind_of (op_at_stage at a.image)) told ≡ true → IsGoing (past_label (λ l. lock_of a last) (plan_after (rest_at at a.site a.image last) (fed.Answer told))) (rest_of_acquire b last)
        → IsNext at told b.stage
    by stage.Watching told again going = absurd (false≢true again)
    by stage.Taking (answer.Held owner) again going = goes_to (λ l. lock_of a last) (lock_of a last) a.site a.image b owner _ going
    by stage.Taking _ again going = absurd (false≢true again)
    by (stage.Looking owner) (answer.Instances watchers) again going = looked_up (λ l. lock_of a last) (lock_of a last) a.site a.image b owner (is_instance_among watchers owner) going
    by (stage.Looking owner) _ again going = absurd (false≢true again)
    by stage.Asking answer.Done again going = goes_to (λ l. lock_of a last) (lock_of a last) a.site a.image b (record { session = 0; life = 0 }) (lock_of a last) going
    by stage.Asking _ again going = absurd (false≢true again)
    by (stage.Fencing owner) told again going = absurd (false≢true again)
    by (stage.Breaking owner) told again going = absurd (false≢true again)

-- ---- how many polls are left

module _ (base : Records) (me : Instance) (image : ℕ) where
  -- At most so many polls are left until it has shown. An owner that was told before may have
  -- changed since.
  abbrev pub IsNear : (left : ℕ) → Stage → Type 0
  IsNear left stage.Taking = 3 ≤ left
  IsNear left (stage.Looking owner) = (5 ≤ left) ⊎ ((2 ≤ left) × IsOwnerThere base me image owner)
  IsNear left stage.Asking = 4 ≤ left
  IsNear left at = 1 ≤ left

  -- it has, or it is near to it
  abbrev pub Nears : (left : ℕ) → Stage → Type 0
  Nears left at = IsAnothers base image me ⊎ IsNear left at

  near_more : (left : ℕ) (at : Stage) → IsNear left at → IsNear (suc left) at
  near_more left stage.Watching near = omega (arith, near)
  near_more left stage.Taking near = omega (arith, near)
  near_more left (stage.Looking owner) (inl near) = inl (omega (arith, near))
  near_more left (stage.Looking owner) (inr (near, there)) = inr (omega (arith, near), there)
  near_more left stage.Asking near = omega (arith, near)
  near_more left (stage.Fencing owner) near = omega (arith, near)
  near_more left (stage.Breaking owner) near = omega (arith, near)

  pub nears_more : (left : ℕ) (at : Stage) → Nears left at → Nears (suc left) at
  nears_more left at (inl known) = inl known
  nears_more left at (inr near) = inr (near_more left at near)

  near_first : (left : ℕ) (at : Stage) → 5 ≤ left → IsNear left at
  near_first left stage.Watching many = omega (arith, many)
  near_first left stage.Taking many = omega (arith, many)
  near_first left (stage.Looking owner) many = inl many
  near_first left stage.Asking many = omega (arith, many)
  near_first left (stage.Fencing owner) many = omega (arith, many)
  near_first left (stage.Breaking owner) many = omega (arith, many)

  -- five polls are enough
  pub nears_first : (left : ℕ) (at : Stage) → 5 ≤ left → Nears left at
  nears_first left at many = inr (near_first left at many)

  near_none : (at : Stage) → IsNear 0 at → ⊥
  near_none stage.Watching near = omega (arith, near)
  near_none stage.Taking near = omega (arith, near)
  near_none (stage.Looking owner) (inl near) = omega (arith, near)
  near_none (stage.Looking owner) (inr (near, there)) = omega (arith, near)
  near_none stage.Asking near = omega (arith, near)
  near_none (stage.Fencing owner) near = omega (arith, near)
  near_none (stage.Breaking owner) near = omega (arith, near)

  -- and behind them it has
  pub nears_none : (at : Stage) → Nears 0 at → IsAnothers base image me
  nears_none at (inl known) = known
  nears_none at (inr near) = absurd (near_none at near)

  -- ---- by a poll

  module _ (r : Records) (alike : IsAsIn base r) where
    owner_there : (owner : Instance) → answer.Held owner ≡ answer_to r me (op_at_stage stage.Taking image) → IsOwnerThere base me image owner
    owner_there owner is = let it = held_there r me image owner (sym is) in record { header = it.header; there = sym (alike.0 image) ∙ it.there; has = it.has; other = it.other }

    watching_there : (owner : Instance) (watchers : List Instance) → answer.Instances watchers ≡ answer_to r me (op_at_stage (stage.Looking owner) image) → is_instance_among watchers owner ≡ true → IsOwnerThere base me image owner
        → IsAnothers base image me
    watching_there owner watchers is among it = record {
      header = it.header;
      there = it.there;
      owner = owner;
      has = it.has;
      other = it.other;
      watches = ap (λ ws. is_instance_among ws owner) (sym (alike.1 image) ∙ watchers_there r me image watchers (sym is)) ∙ among;
    }

    looking : (left : ℕ) (owner : Instance) (watchers : List Instance) (among : Bool) → is_instance_among watchers owner ≡ among → answer.Instances watchers ≡ answer_to r me (op_at_stage (stage.Looking owner) image)
        → (5 ≤ suc left) ⊎ ((2 ≤ suc left) × IsOwnerThere base me image owner) → Nears left (cond among stage.Asking (stage.Fencing owner))
    looking left owner watchers true among is (inl five) = inr (omega (arith, five))
    looking left owner watchers true among is (inr (two, there)) = inl (watching_there owner watchers is among there)
    looking left owner watchers false among is (inl five) = inr (omega (arith, five))
    looking left owner watchers false among is (inr (two, there)) = inr (omega (arith, two))

    near_on : (left : ℕ) (at : Stage) (told : Answer) (s : Stage) → told ≡ answer_to r me (op_at_stage at image) → asks_again (kind_of (op_at_stage at image)) told ≡ true → IsNext at told s → IsNear (suc left) at → Nears left s
    near_on left stage.Watching told s is again next near = absurd (false≢true again)
    near_on left stage.Taking (answer.Held owner) s is again next near = subst (Nears left) (sym next) (inr (inr (omega (arith, near), owner_there owner is)))
    near_on left stage.Taking _ s is again next near = absurd (false≢true again)
    near_on left (stage.Looking owner) (answer.Instances watchers) s is again next near = subst (Nears left) (sym next) (looking left owner watchers (is_instance_among watchers owner) refl is near)
    near_on left (stage.Looking owner) _ s is again next near = absurd (false≢true again)
    near_on left stage.Asking answer.Done s is again next near = subst (Nears left) (sym next) (inr (omega (arith, near)))
    near_on left stage.Asking _ s is again next near = absurd (false≢true again)
    near_on left (stage.Fencing owner) told s is again next near = absurd (false≢true again)
    near_on left (stage.Breaking owner) told s is again next near = absurd (false≢true again)

    pub nears_on : (left : ℕ) (at : Stage) (s : Stage) → asks_again (kind_of (op_at_stage at image)) (answer_to r me (op_at_stage at image)) ≡ true → IsNext at (answer_to r me (op_at_stage at image)) s → Nears (suc left) at → Nears left s
    nears_on left at s again next (inl known) = inl known
    nears_on left at s again next (inr near) = near_on left at (answer_to r me (op_at_stage at image)) s refl again next near
