-- When what a client knows, and what it counts of its locks, is true at a site.
use Rattle.std.specs.Prelude.{◌≢◌, ℕ, IsSome}
use Rattle.rbd_client.specs.declared.slot_state.Way.{Way}
use Rattle.rbd_client.specs.declared.slot_state.Way.TheVariants as way
use Rattle.rbd_client.specs.Client.{ClientView, slot_state}
use Rattle.rbd_client.specs.Sound.{IsOwned}
use Rattle.rbd_knowledge.specs.ClientsKnowing.{known_on_way}
use Rattle.rbd_kinds.specs.declared.id.Instance.{Instance}
use Rattle.rbd_kinds.specs.declared.id.SiteId.{SiteId}
use Rattle.rbd_machine.specs.Knowledge.{Knowledge}
use Rattle.rbd_interference.specs.Beside.{AreBeside}
use Rattle.rbd_interference.specs.Locks.{HasLockWhileFree}
use Rattle.rbd_interference.specs.Truth.{IsTrueAt, known_header}
use Rattle.rbd_site.specs.Records.{Records}

-- what a request's way to the lock knows is true
abbrev pub IsWayTrue : SiteId → Records → Instance → Way → Type 0
IsWayTrue site r me (way.On a) = IsTrueAt site r me (known_on_way a)
IsWayTrue site r me w = Unit {0}

-- What the requests of a client know is true of its instance, and they are beside each other; where
-- one of them knows a header the client counts the lock as its own; what its ways know is true; and
-- a lock that it counts as its own is its own, unless it is fenced.
pub record IsTrueOf {R : Type 0} (site : SiteId) (r : Records) (me : Instance) (knows : (slot : ℕ) → Knowledge)
    (c : ClientView R) : Type 0 where
  pub requests : (slot : ℕ) → IsTrueAt site r me (knows slot)
  pub beside : (slot other : ℕ) → slot ≢ other → AreBeside site r me me (knows slot) (knows other)
  pub counted : (slot image : ℕ) → IsSome (known_header (knows slot) site image) → IsOwned site image c.locks
  pub ways : (slot : ℕ) → IsWayTrue site r me (slot_state slot c.slots).way
  pub locks : (image : ℕ) → IsOwned site image c.locks → HasLockWhileFree r me image
