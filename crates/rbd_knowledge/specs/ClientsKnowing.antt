-- What acts for a client, and what it knows. What a request knows is told by the
-- plans of Knowing.antt; what a way to a lock and a release know, by where they stand.
use Rattle.std.specs.Prelude.{ℕ, ◌==◌, if◌then◌else◌, [], ◌∷◌, Option, Some, None}
use Rattle.rbd_client.specs.declared.actor.Actor.{Actor}
use Rattle.rbd_client.specs.declared.actor.Actor.TheVariants as actor
use Rattle.rbd_kinds.specs.declared.id.SiteId.{SiteId}
use Rattle.rbd_kinds.specs.declared.machine.Fed.{Fed}
use Rattle.rbd_kinds.specs.declared.reply.Reply.{Reply}
use Rattle.rbd_kinds.specs.declared.reply.Reply.TheVariants as reply
use Rattle.rbd_kinds.specs.declared.sharing.Sharing.TheVariants.{Alone}
use Rattle.rbd_knowledge.specs.Knowing.{knows_after, unless_ended}
use Rattle.rbd_machine.specs.Knowledge.{Knowledge, Own, nothing_known, with_fence}
use Rattle.rbd_machine.specs.Plan.{Plan, Return, Standing}
use Rattle.rbd_lock.specs.declared.acquire.Acquire.{Acquire}
use Rattle.rbd_lock.specs.declared.acquire.Stage.{Stage}
use Rattle.rbd_lock.specs.declared.acquire.Stage.TheVariants as stage
use Rattle.rbd_lock.specs.declared.release.Release.{Release}
use Rattle.rbd_lock.specs.declared.release.Stage.{Stage as ReleaseStage}
use Rattle.rbd_lock.specs.declared.release.Stage.TheVariants as releasing
use Rattle.rbd_slots.specs.declared.running.Running.{Running}

-- ---- who acts

-- a way knows that the owner whose lock it breaks next is fenced, and nothing else
abbrev pub known_at_stage : Stage → SiteId → Knowledge
known_at_stage (stage.Breaking owner) site = with_fence site owner nothing_known
known_at_stage at site = nothing_known

abbrev pub known_on_way : Acquire → Knowledge
known_on_way a = known_at_stage a.stage a.site

-- what is known by one who holds the lock of an image, alone, and hasn't looked at its header
abbrev pub unlooked : SiteId → (image : ℕ) → Own
unlooked site image = record { site = site; image = image; sharing = Alone; header = None }

-- a release knows what one knows who waited for the lock, alone, until it has dropped the lock
abbrev pub known_to_drop : ReleaseStage → SiteId → (image : ℕ) → Knowledge
known_to_drop releasing.Dropping site image = record nothing_known { owns = unlooked site image ∷ [] }
known_to_drop releasing.Telling site image = nothing_known

abbrev pub known_to_release : Release → Knowledge
known_to_release r = known_to_drop r.stage r.site r.image

-- what whoever acts goes by, where the request in its slot knows this
abbrev pub known_to : (own : Knowledge) → Actor → Knowledge
known_to own actor.Nobody = nothing_known
known_to own actor.Request = own
known_to own (actor.Way a) = known_on_way a
known_to own (actor.Release r) = known_to_release r

-- ---- behind an answer

-- the plan at which the request in a slot stands, and an end where none runs
abbrev pub plan_in_slot : {R : Type 0} → (stands : R → Standing) → Option (Running R) → Plan
plan_in_slot stands None = Return reply.Done
plan_in_slot stands (Some r) = (stands r.request).plan

-- a request that is refused on its way knows nothing any more
abbrev pub knows_on_way : (knows : (slot : ℕ) → Knowledge) → (slot : ℕ) → Option Reply → (other : ℕ) → Knowledge
knows_on_way knows slot result other = if other == slot then unless_ended result (knows other) else knows other

-- what the requests know once who acts at a slot was answered
abbrev pub knows_fed : (knows : (slot : ℕ) → Knowledge) → (slot : ℕ) → Option Reply → Plan → Fed → Actor → (other : ℕ)
    → Knowledge
knows_fed knows slot result plan f actor.Request = knows_after knows slot result plan f
knows_fed knows slot result plan f (actor.Way a) = knows_on_way knows slot result
knows_fed knows slot result plan f who = knows
