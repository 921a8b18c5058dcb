-- An operation that is to be done, and what a poll comes to.
use Rattle.std.specs.Prelude.{◌≡◌, ℕ, ◌-◌, List, length, slice_get, Option, Some, None, if◌then◌else◌}
use Rattle.rbd_client.specs.declared.actor.Actor.{Actor}
use Rattle.rbd_client.specs.Actor.{is_acquiring}
use Rattle.rbd_client.specs.Client.{ClientView}
use Rattle.rbd_flat.specs.declared.entry.Entry.{Entry}
use Rattle.rbd_kinds.specs.declared.id.SiteId.{SiteId}
use Rattle.rbd_kinds.specs.declared.operation.Op.{Op}
use Rattle.rbd_machine.specs.Plan.{Standing}
use Rattle.rbd_site.specs.declared.done.Done.{Done}
use Rattle.rbd_site.specs.declared.done.DoneOp.{DoneOp}
use Rattle.rbd_site.specs.declared.done.DoneOp.TheVariants as done
use Rattle.rbd_world.specs.declared.event.Outcome.{Outcome}
use Rattle.rbd_world.specs.declared.event.Outcome.TheVariants as outcome
use Rattle.rbd_world.specs.declared.sender.Sender.{Sender}
use Rattle.rbd_world.specs.declared.sender.Sender.TheVariants as sender
use Rattle.rbd_world.specs.declared.sites.Sites.{Sites}
use Rattle.rbd_world.specs.Operate.{IsOperatedAt}
use Rattle.rbd_world.specs.Run.{Doer, Itself, OnWay, House, AfterStop}

-- who an operation is done by
abbrev pub doer_of : Sender → Doer
doer_of (sender.Itself line) = Itself line
doer_of (sender.OnWay line) = OnWay line
doer_of sender.House = House
doer_of (sender.AfterStop slot) = AfterStop slot

-- who acts for the command of a line: the command itself, or its way to the lock
abbrev pub doer_at : (line : ℕ) → Actor → Doer
doer_at line acts = if is_acquiring acts then OnWay line else Itself line

-- ---- the operation that a site did last

abbrev pub op_done : DoneOp → Option Op
op_done (done.Op o) = Some o
op_done (done.Trim image object) = None
op_done (done.Expire image instance) = None

abbrev pub op_in : Option Done → Option Op
op_in None = None
op_in (Some d) = op_done d.op

abbrev pub latest_op : List Done → Option Op
latest_op log = op_in (slice_get log (length log - 1))

-- ---- what comes of who acts at a slot

-- The slot waits, and nothing changed.
pub record OnlyWaits {R : Type 0} (before behind : Sites) (old new : ClientView R) (earlier later : List Entry)
    (result : Outcome) : Type 0 where
  pub sites : behind ≡ before
  pub client : new ≡ old
  pub history : later ≡ earlier
  pub outcome : result ≡ outcome.Waits

module _ {R : Type 0} (stands : R → Standing) where
  -- the operation that a slot wants was done, or there is none
  abbrev pub ActsAt : (slot : ℕ) → Doer → Option (SiteId × Op) → (before behind : Sites) → (old new : ClientView R)
      → (earlier later : List Entry) → Outcome → Type 0
  ActsAt slot by None before behind old new earlier later result = OnlyWaits before behind old new earlier later result
  ActsAt slot by (Some wanted) before behind old new earlier later result =
      IsOperatedAt stands slot by wanted.0 wanted.1 before behind old new earlier later result
