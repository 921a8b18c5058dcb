-- The steps of a walk up to the lock, and those behind it.
use Rattle.std.specs.Prelude.{◌≡◌, ◌⊎◌, ℕ, List, ◌++◌}
use Rattle.rbd_kinds.specs.declared.id.SiteId.{SiteId}
use Rattle.rbd_kinds.specs.declared.machine.Fed.{Fed}
use Rattle.rbd_commands.specs.declared.refusal.Refusal.{Refusal}
use Rattle.rbd_kinds.specs.declared.reply.Reply.TheVariants as reply
use Rattle.rbd_machine.specs.Label.{Label}
use Rattle.rbd_machine.specs.Path.{Answered, IsWalk}
use Rattle.rbd_machine.specs.Plan.{Plan, Return, past_label}
use Rattle.rbd_machine.specs.Steps.{refused}
use Rattle.rbd_lock.specs.Acquire.{lock_labels}

-- The way took the lock, as it does where nothing comes next, and what comes next went on from
-- there.
pub record GoesPast (labels : Label → Plan) (site : SiteId) (image : ℕ) (way : Plan → Plan) (next : Plan)
    (steps : List Answered) (last : Plan) : Type 0 where
  pub taking : List Answered
  pub rest : List Answered
  pub feds : List Fed
  pub more : List Fed
  pub are : steps ≡ taking ++ rest
  pub takes : IsWalk (lock_labels site image) (way (Return reply.Done)) feds taking (Return reply.Done)
  pub goes_on : IsWalk labels (past_label labels next) more rest last

-- The request is still on its way to the lock, or was refused there.
pub record IsStillOnWay (site : SiteId) (image : ℕ) (way : Plan → Plan) (steps : List Answered)
    (last : Plan) : Type 0 where
  pub feds : List Fed
  pub left : Plan
  pub walk : IsWalk (lock_labels site image) (way (Return reply.Done)) feds steps left
  pub untaken : left ≡ Return reply.Done → ⊥
  pub refused : (r : Refusal) → last ≡ refused r → left ≡ refused r

abbrev pub IsToldApart : (labels : Label → Plan) → SiteId → (image : ℕ) → (way : Plan → Plan) → (next : Plan)
    → List Answered → (last : Plan) → Type 0
IsToldApart labels site image way next steps last =
    GoesPast labels site image way next steps last ⊎ IsStillOnWay site image way steps last
