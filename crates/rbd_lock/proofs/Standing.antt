-- Where a way to a lock stands, and behind a step.
use Rattle.std.proofs.Common.{◌≡◌, ℕ, ap, refl, ◌∙◌}
use Rattle.rbd_kinds.specs.declared.answer.Answer.{Answer}
use Rattle.rbd_kinds.specs.declared.id.SiteId.{SiteId}
use Rattle.rbd_kinds.specs.declared.machine.Fed.TheVariants as fed
use Rattle.rbd_kinds.specs.declared.machine.Want.{Want}
use Rattle.rbd_kinds.specs.declared.machine.Want.TheVariants as want
use Rattle.rbd_kinds.specs.declared.reply.Reply.TheVariants.{Done}
use Rattle.rbd_kinds.specs.OperationKind.{kind_of}
use Rattle.rbd_machine.specs.Answers.{CanBeFed, CanGive}
use Rattle.rbd_machine.specs.Plan.{Plan, Return, Standing, AsksBy, IsAsking, IsLeft, Wants, past_label}
use Rattle.rbd_machine.specs.Steps.{IsGoing}
use Rattle.rbd_machine.specs.declared.reason.Reason.TheVariants as reason
use Rattle.rbd_lock.specs.Acquire.{lock_labels, lock_of, op_at_stage, rest_at, rest_of_acquire, standing_of}
use Rattle.rbd_lock.specs.declared.acquire.Acquire.{Acquire}
use Rattle.rbd_lock.specs.declared.acquire.Stage.{Stage}
use Rattle.rbd_lock.specs.declared.acquire.Stage.TheVariants as stage

abbrev standing : (lock plan : Plan) → Standing
standing lock plan = record { labels = λ l. lock; plan = plan }

-- its label is the same, and it went on to a plan
pub stands_there : (old new : Acquire) (to : Plan) → lock_of new (Return Done) ≡ lock_of old (Return Done)
    → IsGoing (past_label (lock_labels old.site old.image) to) (rest_of_acquire new (Return Done)) → IsLeft (lock_labels old.site old.image) to (standing_of new)
stands_there old new to same goes = record {
  live = goes.live;
  stands = ap (λ lock. standing lock (rest_of_acquire new (Return Done))) same ∙ ap (λ plan. standing (lock_of old (Return Done)) plan) goes.is;
}

-- ---- in a request, whatever comes next

module _ (site : SiteId) (image : ℕ) (next : Plan) where
  -- it always wants an operation, as a step on the way to the lock
  pub way_asks : (s : Stage) → IsAsking (rest_at s site image next)
  way_asks stage.Watching = tt
  way_asks stage.Taking = tt
  way_asks (stage.Looking owner) = tt
  way_asks stage.Asking = tt
  way_asks (stage.Fencing owner) = tt
  way_asks (stage.Breaking owner) = tt

  pub way_asks_by_acquiring : (s : Stage) → AsksBy (rest_at s site image next) reason.Acquiring
  way_asks_by_acquiring stage.Watching = refl
  way_asks_by_acquiring stage.Taking = refl
  way_asks_by_acquiring (stage.Looking owner) = refl
  way_asks_by_acquiring stage.Asking = refl
  way_asks_by_acquiring (stage.Fencing owner) = refl
  way_asks_by_acquiring (stage.Breaking owner) = refl

  -- what may be fed to the request is an answer that its operation can give
  pub way_can_be_fed : (s : Stage) (a : Answer) → CanBeFed (rest_at s site image next) (fed.Answer a) → CanGive (op_at_stage s image) a
  way_can_be_fed stage.Watching a can = can
  way_can_be_fed stage.Taking a can = can
  way_can_be_fed (stage.Looking owner) a can = can
  way_can_be_fed stage.Asking a can = can
  way_can_be_fed (stage.Fencing owner) a can = can
  way_can_be_fed (stage.Breaking owner) a can = can

  pub way_is_fed_answers : (s : Stage) → CanBeFed (rest_at s site image next) fed.Passed → ⊥
  way_is_fed_answers stage.Watching can = can
  way_is_fed_answers stage.Taking can = can
  way_is_fed_answers (stage.Looking owner) can = can
  way_is_fed_answers stage.Asking can = can
  way_is_fed_answers (stage.Fencing owner) can = can
  way_is_fed_answers (stage.Breaking owner) can = can

  -- it wants the operation of its stage
  pub way_wants : (s : Stage) (w : Want) → Wants (rest_at s site image next) w → w ≡ want.Op site (kind_of (op_at_stage s image))
  way_wants stage.Watching w is = is
  way_wants stage.Taking w is = is
  way_wants (stage.Looking owner) w is = is
  way_wants stage.Asking w is = is
  way_wants (stage.Fencing owner) w is = is
  way_wants (stage.Breaking owner) w is = is
