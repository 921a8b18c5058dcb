-- Steps that many requests share, as plans with what comes next.
use Rattle.std.specs.Prelude.{◌≡◌, ℕ, List, Option, Some, None, Result, Ok, Err}
use Rattle.rbd_kinds.specs.declared.sharing.Sharing.{Sharing}
use Rattle.rbd_kinds.specs.declared.answer.Answer.{Answer}
use Rattle.rbd_kinds.specs.declared.answer.Answer.TheVariants as answer
use Rattle.rbd_kinds.specs.declared.directory_op.DirectoryOp.TheVariants as directory
use Rattle.rbd_kinds.specs.declared.header.HeaderView.{HeaderView}
use Rattle.rbd_kinds.specs.declared.header.Role.{Role}
use Rattle.rbd_kinds.specs.declared.header.Role.TheVariants as role
use Rattle.rbd_kinds.specs.declared.header_op.HeaderOp.TheVariants as header
use Rattle.rbd_kinds.specs.declared.id.SiteId.{SiteId}
use Rattle.rbd_kinds.specs.declared.machine.Fed.TheVariants as fed
use Rattle.rbd_kinds.specs.declared.operation.Op.{Op}
use Rattle.rbd_kinds.specs.declared.operation.Op.TheVariants as op
use Rattle.rbd_commands.specs.declared.refusal.Refusal.{Refusal}
use Rattle.rbd_commands.specs.declared.refusal.Refusal.TheVariants as refusal
use Rattle.rbd_kinds.specs.declared.reply.Reply.TheVariants as reply
use Rattle.rbd_machine.specs.Plan.{Plan, Ask, Await, Return, IsLive, plan_after}
use Rattle.rbd_machine.specs.Wait as wait
use Rattle.rbd_machine.specs.declared.progress.Progress.{Progress}
use Rattle.rbd_machine.specs.declared.progress.Progress.TheVariants as progress
use Rattle.rbd_machine.specs.declared.reason.Reason.TheVariants as reason

-- ---- ends

abbrev pub refused : Refusal → Plan
refused r = Return (reply.Refused r)

-- it ends where a refusal holds
abbrev pub unless : Option Refusal → Plan → Plan
unless None next = next
unless (Some r) next = refused r

-- an operation of the request's own
abbrev pub own : SiteId → Op → (Answer → Plan) → Plan
own site op next = Ask site reason.Own op next

-- ---- what an answer means: the fence ends a request, and what isn't there is no image

abbrev pub not_there : Answer → Plan
not_there answer.Fenced = refused refusal.Fenced
not_there _ = refused refusal.NoImage

-- It is one of these two.
abbrev pub EndsIt : Answer → Type 0
EndsIt answer.Absent = Unit {0}
EndsIt answer.Fenced = Unit {0}
EndsIt _ = ⊥

abbrev pub on_id : (ℕ → Plan) → Answer → Plan
on_id next (answer.Id image) = next image
on_id next a = not_there a

abbrev pub TellsImage : Answer → Type 0
TellsImage (answer.Id image) = Unit {0}
TellsImage a = EndsIt a

abbrev pub on_header : (HeaderView → Plan) → Answer → Plan
on_header next (answer.Header h) = next h
on_header next a = not_there a

abbrev pub TellsHeader : Answer → Type 0
TellsHeader (answer.Header h) = Unit {0}
TellsHeader a = EndsIt a

abbrev pub on_done : Plan → Answer → Plan
on_done next answer.Done = next
on_done next a = not_there a

abbrev pub TellsDone : Answer → Type 0
TellsDone answer.Done = Unit {0}
TellsDone a = EndsIt a

-- states of an object map
abbrev pub on_bits : (List ℕ → Plan) → Answer → Plan
on_bits next (answer.Bits bits) = next bits
on_bits next a = not_there a

abbrev pub TellsBits : Answer → Type 0
TellsBits (answer.Bits bits) = Unit {0}
TellsBits a = EndsIt a

-- the event of the request counts as applied, and the request is done
abbrev pub applied : SiteId → (image : ℕ) → Plan
applied site image = Await (wait.Applied site image) (Return reply.Done)

-- ---- look-ups

-- the image of a name
abbrev pub find : SiteId → (name : List ℕ) → (ℕ → Plan) → Plan
find site name next = own site (op.Directory (directory.Find name)) (on_id next)

-- the header of an image
abbrev pub look : SiteId → (image : ℕ) → (HeaderView → Plan) → Plan
look site image next = own site (op.Header image header.Get) (on_header next)

-- ---- the way of a change to its look under the lock
--
-- It finds its image and joins the line of the image's requests, looks at the header, and waits for
-- the lock. Then it looks again, since the header may have changed meanwhile, and what it sees now
-- can't change as long as the lock is its client's. Its refusals are tested at both looks. Between the
-- two it may ask for more, as an `rm` does for the watchers.

abbrev pub owned : (HeaderView → Option Refusal) → (act : ℕ → HeaderView → Plan) → (image : ℕ) → HeaderView → Plan
owned refuses act image h = unless (refuses h) (act image h)

abbrev pub under_lock : SiteId → (HeaderView → Option Refusal) → (act : ℕ → HeaderView → Plan) → (image : ℕ) → Plan
under_lock site refuses act image = look site image (owned refuses act image)

abbrev pub holding : SiteId → (HeaderView → Option Refusal) → (act : ℕ → HeaderView → Plan) → (image : ℕ) → Plan
holding site refuses act image = Await (wait.Hold site image) (under_lock site refuses act image)

-- what a request does behind its first look, before it waits for the lock: most do nothing there
abbrev pub nothing_between : (image : ℕ) → (waiting : Plan) → Plan
nothing_between image waiting = waiting

abbrev pub looked_between : SiteId → (HeaderView → Option Refusal) → (between : ℕ → Plan → Plan)
    → (act : ℕ → HeaderView → Plan) → (image : ℕ) → HeaderView → Plan
looked_between site refuses between act image h = unless (refuses h) (between image (holding site refuses act image))

abbrev pub looking_between : SiteId → (HeaderView → Option Refusal) → (between : ℕ → Plan → Plan)
    → (act : ℕ → HeaderView → Plan) → (image : ℕ) → Plan
looking_between site refuses between act image = look site image (looked_between site refuses between act image)

abbrev pub joining_between : SiteId → Sharing → (HeaderView → Option Refusal) → (between : ℕ → Plan → Plan)
    → (act : ℕ → HeaderView → Plan) → (image : ℕ) → Plan
joining_between site sharing refuses between act image =
    Await (wait.Join site image sharing) (looking_between site refuses between act image)

-- the whole way, with what comes between its two looks
abbrev pub way_between : SiteId → (name : List ℕ) → Sharing → (HeaderView → Option Refusal)
    → (between : ℕ → Plan → Plan) → (act : ℕ → HeaderView → Plan) → Plan
way_between site name sharing refuses between act =
    find site name (joining_between site sharing refuses between act)

abbrev pub looked : SiteId → (HeaderView → Option Refusal) → (act : ℕ → HeaderView → Plan) → (image : ℕ)
    → HeaderView → Plan
looked site refuses act image h = looked_between site refuses nothing_between act image h

abbrev pub looking : SiteId → (HeaderView → Option Refusal) → (act : ℕ → HeaderView → Plan) → (image : ℕ) → Plan
looking site refuses act image = looking_between site refuses nothing_between act image

abbrev pub joining : SiteId → Sharing → (HeaderView → Option Refusal) → (act : ℕ → HeaderView → Plan)
    → (image : ℕ) → Plan
joining site sharing refuses act image = joining_between site sharing refuses nothing_between act image

abbrev pub change_plan : SiteId → (name : List ℕ) → Sharing → (HeaderView → Option Refusal)
    → (act : ℕ → HeaderView → Plan) → Plan
change_plan site name sharing refuses act = way_between site name sharing refuses nothing_between act

-- ---- refusals

-- the first that holds
abbrev pub or_else : Option Refusal → Option Refusal → Option Refusal
or_else None r = r
or_else (Some r) later = Some r

-- clients don't change a secondary
abbrev pub non_primary : Role → Option Refusal
non_primary role.Secondary = Some refusal.NonPrimary
non_primary _ = None

-- ---- what is told

-- goes on with what was told, or ends refused
abbrev pub going : {T : Type 0} → (T → Plan) → Result T Refusal → Plan
going next (Ok told) = next told
going next (Err r) = refused r

-- ---- a part of a request, which goes on with what comes next

-- It stands where it was to go on, and wants something there.
pub record IsGoing (to left : Plan) : Type 0 where
  pub live : IsLive left
  pub is : left ≡ to

-- The part went on, or has ended and leaves what comes next, or ended the request.
abbrev pub Progresses : (next to : Plan) → Progress (Unit {0}) → (left : Plan) → Type 0
Progresses next to progress.More left = IsGoing to left
Progresses next to (progress.Ended nothing) left = to ≡ next
Progresses next to (progress.Refused r) left = to ≡ refused r

-- So it does after an answer, whatever comes next.
abbrev pub ProgressesBy : {P : Type 0} → (rest : P → (next : Plan) → Plan) → Answer → Progress (Unit {0})
    → (old new : P) → Type 0
ProgressesBy rest a progress old new = (next : Plan)
    → Progresses next (plan_after (rest old next) (fed.Answer a)) progress (rest new next)
