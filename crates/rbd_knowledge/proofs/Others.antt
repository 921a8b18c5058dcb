-- What a client knows and counts stays true, whatever others do that is permitted to them.
use Rattle.std.proofs.Common.{◌≢◌, ℕ}
use Rattle.rbd_client.specs.declared.slot_state.Way.{Way}
use Rattle.rbd_client.specs.declared.slot_state.Way.TheVariants as way
use Rattle.rbd_client.specs.Client.{ClientView, slot_state}
use Rattle.rbd_knowledge.specs.Truth.{IsTrueOf, IsWayTrue}
use Rattle.rbd_knowledge.proofs.Ways.{fences_are_true, way_stays_true}
use Rattle.rbd_kinds.specs.declared.id.Instance.{Instance}
use Rattle.rbd_kinds.specs.declared.id.SiteId.{SiteId}
use Rattle.rbd_kinds.specs.declared.operation.Op.{Op}
use Rattle.rbd_machine.specs.Knowledge.{Knowledge}
use Rattle.rbd_machine.specs.Permits.{Permits}
use Rattle.rbd_interference.specs.Beside.{AreBeside, MayAct}
use Rattle.rbd_interference.specs.Locks.{KnowsByLock}
use Rattle.rbd_interference.specs.Truth.{IsTrueAt}
use Rattle.rbd_interference.proofs.Kept.{expiries_keep, others_keep, trims_keep}
use Rattle.rbd_interference.proofs.Locks.{lock_lasts}
use Rattle.rbd_interference.proofs.Together.{beside_stays, still_beside}
use Rattle.rbd_site.specs.Log.{expired, trimmed}
use Rattle.rbd_site.specs.Records.{Records}
use Rattle.rbd_site.specs.Step.{after}

module _ {R : Type 0} (site : SiteId) (r : Records) (me : Instance) (knows : ℕ → Knowledge) (c : ClientView R) (t : IsTrueOf site r me knows c) where
  way_kept : (you : Instance) (o : Op) (w : Way) → IsWayTrue site r me w → IsWayTrue site (after r you o) me w
  way_kept you o way.Unbegun on = tt
  way_kept you o (way.On a) on = way_stays_true site r me you a o on
  way_kept you o (way.Taken p) on = tt

  pub others_leave_it_true : (you : Instance) (j : Knowledge) (o : Op) → you ≢ me → IsTrueAt site r you j → KnowsByLock site r you j → Permits j site o → ((slot : ℕ) → AreBeside site r me you (knows slot) j)
      → ((slot : ℕ) → MayAct site r you me j (knows slot) o) → IsTrueOf site (after r you o) me knows c
  others_leave_it_true you j o differ known by_lock permits beside may = record {
    requests = λ slot. others_keep site r (knows slot) j me you o (t.requests slot) known (beside slot) permits (may slot);
    counted = t.counted;
    beside = λ slot other apart. beside_stays site r you me me (knows slot) (knows other) o (t.beside slot other apart);
    ways = λ slot. way_kept you o (slot_state slot c.slots).way (t.ways slot);
    locks = λ image owned. lock_lasts site r me you j image o known by_lock permits (λ same. absurd (differ same)) (t.locks image owned);
  }

  way_trimmed : (image number : ℕ) (w : Way) → IsWayTrue site r me w → IsWayTrue site (trimmed image number r) me w
  way_trimmed image number way.Unbegun on = tt
  way_trimmed image number (way.On a) on = fences_are_true site (trimmed image number r) me a.stage a.site on.fenced
  way_trimmed image number (way.Taken p) on = tt

  pub trims_leave_it_true : (image number : ℕ) → IsTrueOf site (trimmed image number r) me knows c
  trims_leave_it_true image number = record {
    requests = λ slot. trims_keep site r me (knows slot) image number (t.requests slot);
    beside = λ slot other apart. still_beside site r (trimmed image number r) me me (knows slot) (knows other) (λ who free. free) (t.beside slot other apart);
    counted = t.counted;
    ways = λ slot. way_trimmed image number (slot_state slot c.slots).way (t.ways slot);
    locks = λ i owned free. let lock = t.locks i owned free in record { header = lock.header; there = lock.there; owner = lock.owner };
  }

  way_expired : (image : ℕ) (i : Instance) (w : Way) → IsWayTrue site r me w → IsWayTrue site (expired image i r) me w
  way_expired image i way.Unbegun on = tt
  way_expired image i (way.On a) on = fences_are_true site (expired image i r) me a.stage a.site on.fenced
  way_expired image i (way.Taken p) on = tt

  pub expiries_leave_it_true : (image : ℕ) (i : Instance) → IsTrueOf site (expired image i r) me knows c
  expiries_leave_it_true image i = record {
    requests = λ slot. expiries_keep site r me (knows slot) image i (t.requests slot);
    beside = λ slot other apart. still_beside site r (expired image i r) me me (knows slot) (knows other) (λ who free. free) (t.beside slot other apart);
    counted = t.counted;
    ways = λ slot. way_expired image i (slot_state slot c.slots).way (t.ways slot);
    locks = λ n owned free. let lock = t.locks n owned free in record { header = lock.header; there = lock.there; owner = lock.owner };
  }
