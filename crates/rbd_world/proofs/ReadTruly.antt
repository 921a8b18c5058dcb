-- What who acts has read of snapshots: what its request read, or nothing.
use Rattle.std.proofs.Common.{ℕ}
use Rattle.rbd_client.specs.declared.actor.Actor.{Actor}
use Rattle.rbd_client.specs.declared.actor.Actor.TheVariants as actor
use Rattle.rbd_knowledge.specs.ClientsKnowing.{known_at_stage, known_to, known_to_drop}
use Rattle.rbd_kinds.specs.declared.id.SiteId.{SiteId}
use Rattle.rbd_flat.specs.Flat.{Flat}
use Rattle.rbd_machine.specs.Knowledge.{Knowledge}
use Rattle.rbd_lock.specs.declared.acquire.Stage.{Stage}
use Rattle.rbd_lock.specs.declared.acquire.Stage.TheVariants as stage
use Rattle.rbd_lock.specs.declared.release.Stage.{Stage as ReleaseStage}
use Rattle.rbd_lock.specs.declared.release.Stage.TheVariants as releasing
use Rattle.rbd_interference.specs.Ancestors.{HasReadTruly}
use Rattle.rbd_interference.proofs.Nothing.{nothing_is_read}
use Rattle.rbd_site.specs.Records.{Records}

module _ (t : SiteId) (r : Records) (f : Flat) where
  -- a way and a release have read nothing
  way_reads : (at : Stage) (there : SiteId) → HasReadTruly t r f (known_at_stage at there)
  way_reads (stage.Breaking owner) there image snap number parts bytes among = absurd among
  way_reads _ there image snap number parts bytes among = absurd among

  release_reads : (at : ReleaseStage) (there : SiteId) (of : ℕ) → HasReadTruly t r f (known_to_drop at there of)
  release_reads releasing.Dropping there of image snap number parts bytes among = absurd among
  release_reads releasing.Telling there of image snap number parts bytes among = absurd among

  pub acted_reads : (k : Knowledge) (m : Actor) → HasReadTruly t r f k → HasReadTruly t r f (known_to k m)
  acted_reads k actor.Nobody was = nothing_is_read t r f
  acted_reads k actor.Request was = was
  acted_reads k (actor.Way a) was = way_reads a.stage a.site
  acted_reads k (actor.Release x) was = release_reads x.stage x.site x.image
