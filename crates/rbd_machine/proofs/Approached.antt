-- What a change on its way to its look under the lock knows.
use Rattle.std.proofs.Common.{◌≡◌, ℕ, Option, Some, refl, subst}
use Rattle.rbd_kinds.specs.declared.answer.Answer.TheVariants as answer
use Rattle.rbd_kinds.specs.declared.header.HeaderView.{HeaderView}
use Rattle.rbd_kinds.specs.declared.machine.Fed.{Fed}
use Rattle.rbd_kinds.specs.declared.machine.Fed.TheVariants as fed
use Rattle.rbd_commands.specs.declared.refusal.Refusal.{Refusal}
use Rattle.rbd_kinds.specs.Form.{IsHeaderInForm}
use Rattle.rbd_machine.specs.Answers.{CanBeFed}
use Rattle.rbd_machine.specs.Approach.{rest_between, rest_from, under_lock_at, IsAskingAt, CanBeFedAt}
use Rattle.rbd_machine.specs.Plan.{Plan, AsksBy, IsAsking, IsLive}
use Rattle.rbd_machine.specs.declared.approach.Approach.{Approach}
use Rattle.rbd_machine.specs.declared.approach.Stage.{Stage}
use Rattle.rbd_machine.specs.declared.approach.Stage.TheVariants as stage
use Rattle.rbd_machine.specs.declared.reason.Reason.TheVariants as reason

is_under_lock : (s : Stage) (image : ℕ) → under_lock_at s ≡ Some image → s ≡ stage.UnderLock image
is_under_lock stage.Finding image is = cc
is_under_lock (stage.Joining i) image is = cc
is_under_lock (stage.Looking i) image is = cc
is_under_lock (stage.Holding i) image is = cc
is_under_lock (stage.UnderLock i) image is = cc

-- the header of its look under the lock is in form
pub under_lock_form : (a : Approach) (refuses : HeaderView → Option Refusal) (between : ℕ → Plan → Plan) (act : ℕ → HeaderView → Plan) (image : ℕ) (h : HeaderView)
    → under_lock_at a.stage ≡ Some image → CanBeFed (rest_between a refuses between act) (fed.Answer (answer.Header h)) → IsHeaderInForm h
under_lock_form a refuses between act image h at can =
    (subst (λ p. CanBeFed (rest_from p a refuses between act) (fed.Answer (answer.Header h))) (is_under_lock a.stage image at) can).form

module _ (a : Approach) (refuses : HeaderView → Option Refusal) (between : ℕ → Plan → Plan) (act : ℕ → HeaderView → Plan) where
  -- what it asks for is its own
  pub approach_asks_by_itself : (s : Stage) → AsksBy (rest_from s a refuses between act) reason.Own
  approach_asks_by_itself stage.Finding = refl
  approach_asks_by_itself (stage.Joining i) = tt
  approach_asks_by_itself (stage.Looking i) = refl
  approach_asks_by_itself (stage.Holding i) = tt
  approach_asks_by_itself (stage.UnderLock i) = refl

  pub approach_asks : (s : Stage) → IsAsking (rest_from s a refuses between act) → IsAskingAt s
  approach_asks stage.Finding asks = tt
  approach_asks (stage.Joining i) asks = asks
  approach_asks (stage.Looking i) asks = tt
  approach_asks (stage.Holding i) asks = asks
  approach_asks (stage.UnderLock i) asks = tt

  pub approach_can_be_fed : (s : Stage) (f : Fed) → CanBeFed (rest_from s a refuses between act) f → CanBeFedAt s a.name f
  approach_can_be_fed stage.Finding (fed.Answer x) can = can
  approach_can_be_fed stage.Finding fed.Passed can = can
  approach_can_be_fed (stage.Joining i) (fed.Answer x) can = can
  approach_can_be_fed (stage.Joining i) fed.Passed can = can
  approach_can_be_fed (stage.Looking i) (fed.Answer x) can = can
  approach_can_be_fed (stage.Looking i) fed.Passed can = can
  approach_can_be_fed (stage.Holding i) (fed.Answer x) can = can
  approach_can_be_fed (stage.Holding i) fed.Passed can = can
  approach_can_be_fed (stage.UnderLock i) (fed.Answer x) can = can
  approach_can_be_fed (stage.UnderLock i) fed.Passed can = can

  -- it wants something as long as it is on its way
  pub approach_lives : (s : Stage) → IsLive (rest_from s a refuses between act)
  approach_lives stage.Finding = tt
  approach_lives (stage.Joining i) = tt
  approach_lives (stage.Looking i) = tt
  approach_lives (stage.Holding i) = tt
  approach_lives (stage.UnderLock i) = tt
