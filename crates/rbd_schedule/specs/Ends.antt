-- How a play ends.
use Rattle.std.specs.Prelude.{◌≡◌, ◌⊎◌, ℕ, Bool, true, false, List, ◌∷◌, All, Some}
use Rattle.rbd_client.specs.declared.actor.Actor.{Actor}
use Rattle.rbd_client.specs.declared.actor.Actor.TheVariants as actor
use Rattle.rbd_client.specs.Actor.{actor_at}
use Rattle.rbd_client.specs.Client.{ClientView}
use Rattle.rbd_kinds.specs.declared.header.HeaderView.{HeaderView}
use Rattle.rbd_kinds.specs.declared.id.Instance.{Instance}
use Rattle.rbd_kinds.specs.declared.image_at.ImageAt.{ImageAt}
use Rattle.rbd_kinds.specs.declared.notice.Notice.{Notice}
use Rattle.rbd_kinds.specs.declared.notice.NoticeKind.TheVariants as notice
use Rattle.rbd_kinds.specs.Instances.{same_instance}
use Rattle.rbd_queue.specs.Line.{Member, member_of}
use Rattle.rbd_lock.specs.declared.lock_state.LockState.{LockState}
use Rattle.rbd_lock.specs.Locks.{lock_state_at}
use Rattle.rbd_machine.specs.Plan.{Standing}
use Rattle.rbd_lock.specs.Steps.{is_instance_among}
use Rattle.rbd_script.specs.declared.script.Script.{Script}
use Rattle.rbd_slots.specs.declared.running.Running.{Running}
use Rattle.rbd_slots.specs.Lines.{lines_of}
use Rattle.rbd_slots.specs.Session.{SessionView, look_under_lock_at, running_at}
use Rattle.rbd_site.specs.Records.{Records}
use Rattle.rbd_watch.specs.Posting.{notice_numbered}
use Rattle.rbd_site.specs.Step.{is_fenced}
use Rattle.rbd_world.specs.Sound.{line_at}
use Rattle.rbd_world.specs.Step.{is_begun}
use Rattle.rbd_world.specs.World.{WorldView, client_in, records_in}
use Rattle.rbd_schedule.specs.declared.given.Given.{Given}
use Rattle.rbd_schedule.specs.Given.{given_in, is_lost_by}
use Rattle.rbd_schedule.specs.Notices.{runs, was_heard}
use Rattle.rbd_schedule.specs.Starts.{is_ended}

-- ---- all is over

-- Each command that was begun has its reply or is lost, and so has each command of a session that
-- runs.
pub record AreOver {R : Type 0} (script : Script) (w : WorldView R) : Type 0 where
  pub begun : (line : ℕ) → is_begun line w.history ≡ true → is_ended line w.history ≡ true
  pub given : (session : ℕ) → runs session w ≡ true
      → All (λ (c : Given). is_ended c.line w.history ≡ true) (given_in script.lines session)

-- ---- somebody is held up

-- Another instance has the lock of an image, and watches it: so it is asked for the lock, and isn't
-- taken for dead.
pub record IsAnothers (r : Records) (image : ℕ) (me : Instance) : Type 0 where
  pub header : HeaderView
  pub there : r.headers image ≡ Some header
  pub owner : Instance
  pub has : header.owner ≡ Some owner
  pub other : same_instance owner me ≡ false
  pub watches : is_instance_among (r.watchers image) owner ≡ true

-- A notice that asks an owner for the lock of an image is lost: no settle delivers it, and nobody
-- has heard it.
pub record IsRequestLost {R : Type 0} (lost : (number : ℕ) → Bool) (w : WorldView R) (p : ImageAt)
    (owner : Instance) : Type 0 where
  pub number : ℕ
  pub request : Notice
  pub posted : notice_numbered number w.sites.mail ≡ Some request
  pub to : request.to ≡ owner
  pub site_is : request.site ≡ p.site
  pub image_is : request.image ≡ p.image
  pub kind : request.kind ≡ notice.RequestLock
  pub is_lost : lost number ≡ true
  pub unheard : was_heard number w.calls ≡ false

-- An owner counts the lock as given up: it was fenced, so its drop was refused.
pub record HasGivenUp {R : Type 0} (w : WorldView R) (p : ImageAt) (owner : Instance) (s : LockState) : Type 0 where
  pub counts : s.owned ≡ false
  pub fenced : is_fenced (records_in p.site w.sites) owner ≡ true

-- Why an owner that still runs doesn't let a lock go: it has quiesced the image; or it was fenced,
-- and counts the lock as given up; or it doesn't know that it is asked, since a notice was lost.
abbrev pub KeepsLock : {R : Type 0} → (lost : (number : ℕ) → Bool) → WorldView R → ImageAt → (owner : Instance)
    → LockState → Type 0
KeepsLock lost w p owner s = (s.quiesced ≡ true) ⊎ (HasGivenUp w p owner s ⊎ IsRequestLost lost w p owner)

-- Another instance has the lock, and has been stopped, or keeps it.
pub record IsKeptFrom {R : Type 0} (lost : (number : ℕ) → Bool) (w : WorldView R) (p : ImageAt)
    (me : Instance) : Type 0 where
  pub lock : IsAnothers (records_in p.site w.sites) p.image me
  pub keeps : (c : ClientView R) → client_in lock.owner.session w.lives ≡ Some c → c.session.instance ≡ lock.owner
      → KeepsLock lost w p lock.owner (lock_state_at p.site p.image c.locks)

-- Why a request that stands at its look under the lock of an image doesn't act there: a quiesce of
-- its session holds it back; or it is on its way to the lock, which another client keeps.
abbrev pub IsLockedOut : {R : Type 0} → (lost : (number : ℕ) → Bool) → ImageAt → WorldView R → ClientView R → Actor
    → Type 0
IsLockedOut lost p w c actor.Nobody = (lock_state_at p.site p.image c.locks).quiesced ≡ true
IsLockedOut lost p w c (actor.Way a) = IsKeptFrom lost w p c.session.instance
IsLockedOut lost p w c who = ⊥

-- The request in a slot of a client is held up at a lock.
pub record IsHeldUp {R : Type 0} (stands : R → Standing) (lost : (number : ℕ) → Bool) (w : WorldView R)
    (c : ClientView R) (slot : ℕ) : Type 0 where
  pub request : Running R
  pub runs : running_at slot c.session ≡ Some request
  pub image : ImageAt
  pub look : look_under_lock_at stands slot c.session ≡ Some image
  pub out : IsLockedOut lost image w c (actor_at stands slot c)

-- The request stands in the line of an image behind the one in this slot, which is the first there.
pub record StandsBehind {R : Type 0} (s : SessionView R) (slot first : ℕ) : Type 0 where
  pub image : ImageAt
  pub member : Member
  pub there : member_of slot (lines_of s.lines image.site image.image) ≡ Some member
  pub leader : Member
  pub rest : List Member
  pub line : lines_of s.lines image.site image.image ≡ leader ∷ rest
  pub leads : leader.slot ≡ first

-- held up at a lock, or behind such a one in its line
abbrev pub IsStuckIn : {R : Type 0} → (stands : R → Standing) → (lost : (number : ℕ) → Bool) → WorldView R
    → ClientView R → (slot : ℕ) → Type 0
IsStuckIn stands lost w c slot = IsHeldUp stands lost w c slot
    ⊎ ((first : ℕ) × StandsBehind c.session slot first × IsHeldUp stands lost w c first)

-- The request of a line is in a slot of a client that runs, and stuck there. `lost` are the notices
-- that no settle delivers.
pub record IsStuck {R : Type 0} (stands : R → Standing) (lost : (number : ℕ) → Bool) (w : WorldView R)
    (line : ℕ) : Type 0 where
  pub session : ℕ
  pub client : ClientView R
  pub runs : client_in session w.lives ≡ Some client
  pub slot : ℕ
  pub holds : line_at session slot w.lives ≡ Some line
  pub stuck : IsStuckIn stands lost w client slot

-- some client's request is held up at a lock
pub record SomebodyIsHeldUp {R : Type 0} (stands : R → Standing) (lost : (number : ℕ) → Bool)
    (w : WorldView R) : Type 0 where
  pub session : ℕ
  pub client : ClientView R
  pub runs : client_in session w.lives ≡ Some client
  pub slot : ℕ
  pub held : IsHeldUp stands lost w client slot

-- ---- the end

-- Nothing goes on any more: each command that was begun has its reply, or is lost, or is stuck at a
-- lock; and either all is over, or somebody is held up.
pub record HasCalmed {R : Type 0} (stands : R → Standing) (script : Script) (w : WorldView R) : Type 0 where
  pub each : (line : ℕ) → is_begun line w.history ≡ true → (is_ended line w.history ≡ true)
      ⊎ IsStuck stands (is_lost_by script.lines) w line
  pub all : AreOver script w ⊎ SomebodyIsHeldUp stands (is_lost_by script.lines) w
