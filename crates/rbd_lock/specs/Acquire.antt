-- The way to an image's lock, with what comes next. The label `Lock` is where the lock is asked for
-- again.
use Rattle.std.specs.Prelude.{◌≡◌, ℕ, List, Bool, if◌then◌else◌}
use Rattle.rbd_kinds.specs.declared.answer.Answer.{Answer}
use Rattle.rbd_kinds.specs.declared.answer.Answer.TheVariants as answer
use Rattle.rbd_kinds.specs.declared.id.Instance.{Instance}
use Rattle.rbd_kinds.specs.declared.id.SiteId.{SiteId}
use Rattle.rbd_kinds.specs.declared.operation.Op.{Op}
use Rattle.rbd_kinds.specs.declared.reply.Reply.TheVariants as reply
use Rattle.rbd_kinds.specs.declared.machine.Fed.{Fed}
use Rattle.rbd_machine.specs.Label.{Label}
use Rattle.rbd_machine.specs.Label as label
use Rattle.rbd_machine.specs.Path.{Answered, IsWalk}
use Rattle.rbd_machine.specs.Plan.{Plan, Ask, Return, Goto, Standing, past_label}
use Rattle.rbd_machine.specs.Steps.{EndsIt, IsGoing, not_there, on_done, refused}
use Rattle.rbd_machine.specs.declared.progress.Progress.{Progress}
use Rattle.rbd_machine.specs.declared.progress.Progress.TheVariants as progress
use Rattle.rbd_machine.specs.declared.reason.Reason.TheVariants as reason
use Rattle.rbd_lock.specs.Steps.{watch, lock_take, lock_break, watchers_get, block_add, request_lock, is_instance_among}
use Rattle.rbd_lock.specs.declared.acquire.Acquire.{Acquire}
use Rattle.rbd_lock.specs.declared.acquire.Stage.{Stage}
use Rattle.rbd_lock.specs.declared.acquire.Stage.TheVariants as stage

-- a step on the way to the lock
abbrev pub step : SiteId → Op → (Answer → Plan) → Plan
step site op next = Ask site reason.Acquiring op next

-- the lock is asked for again
abbrev pub again : Plan
again = Goto label.Lock

-- ---- an owner that doesn't watch is fenced, and then loses the lock

-- Where the lock isn't that owner's any more, somebody else was faster.
abbrev pub on_broken : Answer → Plan
on_broken answer.Done = again
on_broken answer.Changed = again
on_broken a = not_there a

abbrev pub breaking : SiteId → (image : ℕ) → (owner : Instance) → Plan
breaking site image owner = step site (lock_break image owner) on_broken

abbrev pub fencing : SiteId → (image : ℕ) → (owner : Instance) → Plan
fencing site image owner = step site (block_add owner) (on_done (breaking site image owner))

-- ---- an owner that watches is asked

abbrev pub asking : SiteId → (image : ℕ) → Plan
asking site image = step site (request_lock image) (on_done again)

-- ---- which of both it is

abbrev pub on_watchers : SiteId → (image : ℕ) → (owner : Instance) → Answer → Plan
on_watchers site image owner (answer.Instances watchers) =
    if is_instance_among watchers owner then asking site image else fencing site image owner
on_watchers site image owner a = not_there a

abbrev pub looking : SiteId → (image : ℕ) → (owner : Instance) → Plan
looking site image owner = step site (watchers_get image) (on_watchers site image owner)

-- ---- the lock

abbrev pub on_taken : SiteId → (image : ℕ) → (next : Plan) → Answer → Plan
on_taken site image next answer.Done = next
on_taken site image next (answer.Held owner) = looking site image owner
on_taken site image next a = not_there a

abbrev pub taking : SiteId → (image : ℕ) → (next : Plan) → Plan
taking site image next = step site (lock_take image) (on_taken site image next)

abbrev pub watching : SiteId → (image : ℕ) → (next : Plan) → Plan
watching site image next = step site (watch image) (on_done (taking site image next))

-- The whole way. An instance watches an image once.
abbrev pub acquire : SiteId → (image : ℕ) → (watched : Bool) → (next : Plan) → Plan
acquire site image watched next = if watched then taking site image next else watching site image next

-- ---- where one begins, and what is left of one

abbrev pub first_stage : (watched : Bool) → Stage
first_stage watched = if watched then stage.Taking else stage.Watching

abbrev pub begun_way : SiteId → (image : ℕ) → (watched : Bool) → Acquire
begun_way site image watched = record { site = site; image = image; stage = first_stage watched }

abbrev pub rest_at : Stage → SiteId → (image : ℕ) → (next : Plan) → Plan
rest_at stage.Watching site image next = watching site image next
rest_at stage.Taking site image next = taking site image next
rest_at (stage.Looking owner) site image next = looking site image owner
rest_at stage.Asking site image next = asking site image
rest_at (stage.Fencing owner) site image next = fencing site image owner
rest_at (stage.Breaking owner) site image next = breaking site image owner

abbrev pub rest_of_acquire : Acquire → (next : Plan) → Plan
rest_of_acquire a next = rest_at a.stage a.site a.image next

-- the plan at the label of the lock
abbrev pub lock_of : Acquire → (next : Plan) → Plan
lock_of a next = taking a.site a.image next

-- the labels of a way that stands as a request of its own
abbrev pub lock_labels : SiteId → (image : ℕ) → Label → Plan
lock_labels site image = λ l. taking site image (Return reply.Done)

abbrev pub standing_of : Acquire → Standing
standing_of a = record { labels = lock_labels a.site a.image; plan = rest_of_acquire a (Return reply.Done) }

-- a walk of one alone, to its end or to where it stands
abbrev pub IsWay : SiteId → (image : ℕ) → (watched : Bool) → List Fed → (steps : List Answered) → (last : Plan) → Type 0
IsWay site image watched feds steps last =
    IsWalk (lock_labels site image) (acquire site image watched (Return reply.Done)) feds steps last

-- ---- what answers tell it

abbrev pub TellsTaken : Answer → Type 0
TellsTaken answer.Done = Unit {0}
TellsTaken (answer.Held owner) = Unit {0}
TellsTaken a = EndsIt a

abbrev pub TellsWatchers : Answer → Type 0
TellsWatchers (answer.Instances watchers) = Unit {0}
TellsWatchers a = EndsIt a

abbrev pub TellsBroken : Answer → Type 0
TellsBroken answer.Done = Unit {0}
TellsBroken answer.Changed = Unit {0}
TellsBroken a = EndsIt a

-- ---- what comes of a step

-- the operation that a way wants at a stage
abbrev pub op_at_stage : Stage → (image : ℕ) → Op
op_at_stage stage.Watching image = watch image
op_at_stage stage.Taking image = lock_take image
op_at_stage (stage.Looking owner) image = watchers_get image
op_at_stage stage.Asking image = request_lock image
op_at_stage (stage.Fencing owner) image = block_add owner
op_at_stage (stage.Breaking owner) image = lock_break image owner

abbrev pub op_of : Acquire → Op
op_of a = op_at_stage a.stage a.image

-- The way went on, also to the lock once more; or it took the lock and leaves what comes next; or
-- the request has ended.
abbrev pub Acquires : (labels : Label → Plan) → (next to : Plan) → Progress (Unit {0}) → (left : Plan) → Type 0
Acquires labels next to progress.More left = IsGoing (past_label labels to) left
Acquires labels next to (progress.Ended nothing) left = to ≡ next
Acquires labels next to (progress.Refused r) left = to ≡ refused r

-- the way ends where its `lock-take` was done, and nowhere else
abbrev pub TakesLock : Stage → Answer → Progress (Unit {0}) → Type 0
TakesLock at a (progress.Ended nothing) = (at ≡ stage.Taking) × (a ≡ answer.Done)
TakesLock at a p = Unit {0}
