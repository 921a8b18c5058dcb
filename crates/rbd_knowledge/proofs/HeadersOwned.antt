-- Who knows a header is past its look under the lock, and has the lock.
use Rattle.std.proofs.Common.{◌≡◌, ℕ, true, Option, Some, None, refl, sym, ap, ◌∙◌, true≢false}
use Rattle.std.specs.Prelude.{IsSome, is_some}
use Rattle.rbd_client.specs.declared.actor.Actor.{Actor}
use Rattle.rbd_client.specs.declared.actor.Actor.TheVariants as actor
use Rattle.rbd_client.specs.Actor.{actor_at}
use Rattle.rbd_client.specs.Client.{ClientView}
use Rattle.rbd_client.specs.Sound.{IsSoundClient}
use Rattle.rbd_queue.proofs.Past.{found_past}
use Rattle.rbd_knowledge.specs.ClientsKnowing.{known_to}
use Rattle.rbd_knowledge.specs.Truth.{IsTrueOf}
use Rattle.rbd_knowledge.proofs.Releases.{release_knows_no_header}
use Rattle.rbd_knowledge.proofs.Ways.{way_knows_no_header}
use Rattle.rbd_kinds.specs.declared.id.Instance.{Instance}
use Rattle.rbd_kinds.specs.declared.id.SiteId.{SiteId}
use Rattle.rbd_knowledge.specs.Knowing.{AllKnow}
use Rattle.rbd_knowledge.proofs.Looking.{owner_runs, runs_who_owns}
use Rattle.rbd_queue.specs.Line.{any_past}
use Rattle.rbd_machine.specs.Knowledge.{Knowledge, Own, own_of}
use Rattle.rbd_machine.specs.Plan.{Standing}
use Rattle.rbd_interference.specs.Locks.{KnowsByLock}
use Rattle.rbd_interference.specs.Truth.{header_of_own, known_header}
use Rattle.rbd_slots.specs.Lines.{lines_of}
use Rattle.rbd_site.specs.Records.{Records}

module _ {R : Type 0} (stands : R → Standing) (c : ClientView R) (knows : ℕ → Knowledge) (sound : IsSoundClient stands c) (all : AllKnow stands knows c.session) where
  -- somebody is past its look under the lock in the line of an image whose header is known
  pub known_is_past : (slot : ℕ) (site : SiteId) (image : ℕ) → IsSome (known_header (knows slot) site image) → any_past (lines_of c.session.lines site image) ≡ true
  known_is_past slot site image some = by (own_of (knows slot).owns site image) refl some
    where
      by : (o : Option Own) → own_of (knows slot).owns site image ≡ o → IsSome (header_of_own o) → any_past (lines_of c.session.lines site image) ≡ true
      by None is some = absurd (true≢false (sym some))
      by (Some o) is some =
          let (r, runs) = runs_who_owns stands c.session knows sound.session all slot site image o is in
          let m = owner_runs stands c.session knows sound.session all slot r runs site image o is in
          found_past slot (lines_of c.session.lines site image) m.member m.found (m.past some)

-- so the lock of an image whose header is known is the client's
pub knows_by_lock : {R : Type 0} (c : ClientView R) (knows : ℕ → Knowledge) (slot : ℕ) (site : SiteId) (r : Records) (me : Instance) → IsTrueOf site r me knows c → KnowsByLock site r me (knows slot)
knows_by_lock c knows slot site r me t = λ image some. t.locks image (t.counted slot image some)

-- and so it is with whoever acts
pub acts_by_lock : {R : Type 0} (stands : R → Standing) (c : ClientView R) (knows : ℕ → Knowledge) (site : SiteId) (r : Records) (me : Instance) → IsTrueOf site r me knows c → (slot : ℕ)
    → KnowsByLock site r me (known_to (knows slot) (actor_at stands slot c))
acts_by_lock stands c knows site r me t slot = by (actor_at stands slot c)
  where
    by : (who : Actor) → KnowsByLock site r me (known_to (knows slot) who)
    by actor.Nobody image some = absurd (true≢false (sym some))
    by actor.Request image some = knows_by_lock c knows slot site r me t image some
    by (actor.Way a) image some = absurd (true≢false (sym some ∙ ap is_some (way_knows_no_header a site image)))
    by (actor.Release x) image some = absurd (true≢false (sym some ∙ ap is_some (release_knows_no_header x site image)))
