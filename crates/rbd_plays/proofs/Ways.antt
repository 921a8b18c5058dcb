-- A way to a lock that nobody else has: it watches, takes the lock, and that is all.
use Rattle.std.proofs.Common.{◌≡◌, ℕ, Bool, true, false, None, refl, sym, ap, ◌∙◌, subst}
use Rattle.std.proofs.lemmas.Bool.{false≢true}
use Rattle.rbd_client.specs.Feeding.{WayComesTo}
use Rattle.rbd_client.specs.declared.slot_state.Way.{Way}
use Rattle.rbd_client.specs.declared.slot_state.Way.TheVariants as way
use Rattle.rbd_kinds.specs.OperationKind.{kind_of}
use Rattle.rbd_kinds.specs.declared.answer.Answer.{Answer}
use Rattle.rbd_kinds.specs.declared.answer.Answer.TheVariants as answer
use Rattle.rbd_kinds.specs.declared.header_op.HeaderOp.TheVariants as header
use Rattle.rbd_kinds.specs.declared.id.SiteId.{SiteId}
use Rattle.rbd_kinds.specs.declared.machine.Fed.TheVariants as fed
use Rattle.rbd_kinds.specs.declared.operation.Op.{Op}
use Rattle.rbd_kinds.specs.declared.operation.Op.TheVariants as op
use Rattle.rbd_kinds.specs.declared.reply.Reply.TheVariants as reply
use Rattle.rbd_machine.specs.Label.{Label}
use Rattle.rbd_machine.specs.Plan.{Plan, Ask, IsLive, Return, plan_after, past_label}
use Rattle.rbd_machine.specs.Steps.{IsGoing}
use Rattle.rbd_lock.specs.Acquire.{first_stage, lock_of, op_at_stage, rest_at, rest_of_acquire}
use Rattle.rbd_lock.specs.Waiting.{asks_again}
use Rattle.rbd_lock.specs.declared.acquire.Acquire.{Acquire}
use Rattle.rbd_lock.specs.declared.acquire.Stage.{Stage}
use Rattle.rbd_lock.specs.declared.acquire.Stage.TheVariants as stage

-- it hasn't been told yet that somebody has the lock
abbrev pub is_early : Stage → Bool
is_early stage.Watching = true
is_early stage.Taking = true
is_early at = false

abbrev pub IsEarly : Way → Type 0
IsEarly (way.On a) = is_early a.stage ≡ true
IsEarly w = Unit {0}

-- nobody has the lock that is taken, unless it is the taker itself
abbrev pub IsFreeFor : Stage → Answer → Type 0
IsFreeFor stage.Taking (answer.Held owner) = ⊥
IsFreeFor at told = Unit {0}

pub begun_early : (watched : Bool) → is_early (first_stage watched) ≡ true
begun_early true = refl
begun_early false = refl

-- ---- what is left of it tells its stage

abbrev is_early_op : Op → Bool
is_early_op (op.Header image header.Watch) = true
is_early_op (op.Header image header.LockTake) = true
is_early_op o = false

abbrev is_early_plan : Plan → Bool
is_early_plan (Ask site why o next) = is_early_op o
is_early_plan plan = false

early_rest : (at : Stage) (site : SiteId) (image : ℕ) (next : Plan) → is_early_plan (rest_at at site image next) ≡ is_early at
early_rest stage.Watching site image next = refl
early_rest stage.Taking site image next = refl
early_rest (stage.Looking owner) site image next = refl
early_rest stage.Asking site image next = refl
early_rest (stage.Fencing owner) site image next = refl
early_rest (stage.Breaking owner) site image next = refl

-- ---- so it stays early

module _ (labels : Label → Plan) (site : SiteId) (image : ℕ) (b : Acquire) where
  abbrev last : Plan
  last = Return reply.Done

  still_early : (to : Plan) → is_early_plan to ≡ true → IsGoing to (rest_of_acquire b last) → is_early b.stage ≡ true
  still_early to early going = sym (early_rest b.stage b.site b.image last) ∙ ap is_early_plan going.is ∙ early

  ended : (r : Plan) → (IsLive r → ⊥) → IsGoing r (rest_of_acquire b last) → is_early b.stage ≡ true
  ended r over going = absurd (over (subst IsLive going.is going.live))

  stays_early : (at : Stage) (told : Answer) → is_early at ≡ true → IsFreeFor at told → IsGoing (past_label labels (plan_after (rest_at at site image last) (fed.Answer told))) (rest_of_acquire b last) → is_early b.stage ≡ true
  stays_early stage.Watching answer.Done early free going = still_early _ refl going
  stays_early stage.Watching answer.Fenced early free going = ended _ (λ live. live) going
  stays_early stage.Watching _ early free going = ended _ (λ live. live) going
  stays_early stage.Taking answer.Done early free going = ended _ (λ live. live) going
  stays_early stage.Taking (answer.Held owner) early free going = absurd free
  stays_early stage.Taking answer.Fenced early free going = ended _ (λ live. live) going
  stays_early stage.Taking _ early free going = ended _ (λ live. live) going
  stays_early (stage.Looking owner) told early free going = absurd (false≢true early)
  stays_early stage.Asking told early free going = absurd (false≢true early)
  stays_early (stage.Fencing owner) told early free going = absurd (false≢true early)
  stays_early (stage.Breaking owner) told early free going = absurd (false≢true early)

pub way_stays_early : (a : Acquire) (told : Answer) (w : Way) → is_early a.stage ≡ true → IsFreeFor a.stage told → WayComesTo a (fed.Answer told) None w → IsEarly w
way_stays_early a told (way.On b) early free comes = stays_early (λ l. lock_of a (Return reply.Done)) a.site a.image b a.stage told early free (comes.goes (λ l. lock_of a (Return reply.Done)) (Return reply.Done) refl)
way_stays_early a told (way.Taken p) early free comes = tt
way_stays_early a told way.Unbegun early free comes = tt

-- ---- and none of its steps asks again

pub early_goes_on : (at : Stage) (image : ℕ) (told : Answer) → is_early at ≡ true → IsFreeFor at told → asks_again (kind_of (op_at_stage at image)) told ≡ false
early_goes_on stage.Watching image told early free = refl
early_goes_on stage.Taking image (answer.Held owner) early free = absurd free
early_goes_on stage.Taking image _ early free = refl
early_goes_on (stage.Looking owner) image told early free = absurd (false≢true early)
early_goes_on stage.Asking image told early free = absurd (false≢true early)
early_goes_on (stage.Fencing owner) image told early free = absurd (false≢true early)
early_goes_on (stage.Breaking owner) image told early free = absurd (false≢true early)
