-- In a sound world what a slot wants may be done at its site, and so may what a stopped life may
-- still send.
use Rattle.std.proofs.Common.{◌≡◌, ℕ, length, Option, Some, None, refl}
use Rattle.rbd_client.specs.Actor.{actor_at}
use Rattle.rbd_client.specs.Client.{ClientView}
use Rattle.rbd_knowledge.specs.ClientsKnowing.{known_to}
use Rattle.rbd_knowledge.proofs.Drops.{drops_rest}
use Rattle.rbd_knowledge.proofs.Permitted.{does_what_it_may, knows_truly}
use Rattle.rbd_kinds.specs.declared.id.Instance.{Instance}
use Rattle.rbd_kinds.specs.declared.id.SiteId.{SiteId}
use Rattle.rbd_kinds.specs.declared.operation.Op.{Op}
use Rattle.rbd_machine.specs.Knowledge.{Knowledge}
use Rattle.rbd_machine.specs.Permits.{Permits}
use Rattle.rbd_machine.specs.Plan.{Standing}
use Rattle.rbd_interference.specs.Truth.{IsTrueAt}
use Rattle.rbd_interference.proofs.Done.{may_do, gives_it}
use Rattle.rbd_interference.proofs.Effects.{has_its_effect}
use Rattle.rbd_world.specs.Run.{Sent}
use Rattle.rbd_world.specs.Sound.{InSlot, IsSoundWorld, Sending, known_in}
use Rattle.rbd_world.specs.Step.{DropsWhatItMay, IsPermitted, MayCome, WantsWhatItMay}
use Rattle.rbd_world.specs.World.{WorldView, client_in, late_at, records_in, site_in}

module _ {R : Type 0} (stands : R → Standing) (w : WorldView R) (session slot : ℕ) where
  permitted : (sound : IsSoundWorld stands w) (who : Instance) (k : Knowledge) (s : SiteId) (o : Op) → IsTrueAt s (records_in s w.sites) who k → Permits k s o → IsPermitted w.sites who s o
  permitted sound who k s o known permits = record {
    may = may_do s (records_in s w.sites) who k (length (site_in s w.sites).log) (sound.form s) (sound.mapped s) known o permits;
    gives = (gives_it s (records_in s w.sites) who k (length (site_in s w.sites).log) (sound.form s) (sound.mapped s) known o permits).can;
    steps = λ f stands_for. has_its_effect s (records_in s w.sites) f k who (length (site_in s w.sites).log) stands_for (sound.form s) (sound.standalone s) (sound.mapped s) known o permits;
  }

  pub wants_what_it_may : (c : ClientView R) → IsSoundWorld stands w → client_in session w.lives ≡ Some c → WantsWhatItMay stands w.sites slot c
  wants_what_it_may c sound is s o wants =
      permitted sound c.session.instance (known_to (sound.knows (InSlot session slot)) (actor_at stands slot c)) s o
      (knows_truly stands slot c (known_in sound.knows session) s (records_in s w.sites) c.session.instance (sound.truth session c is s))
      (does_what_it_may stands slot c (known_in sound.knows session) s o (sound.clients session c is).know wants)

  pub drops_what_it_may : (c : ClientView R) → IsSoundWorld stands w → client_in session w.lives ≡ Some c → DropsWhatItMay stands slot c
  drops_what_it_may c sound is s o wants =
      let living = sound.clients session c is in
      drops_rest stands c (known_in sound.knows session) living.sound living.know slot s o wants (does_what_it_may stands slot c (known_in sound.knows session) s o living.know wants)

  pub may_come : IsSoundWorld stands w → MayCome w.sites (late_at session slot w.lives)
  may_come sound = by (late_at session slot w.lives) refl
    where
      by : (o : Option Sent) → late_at session slot w.lives ≡ o → MayCome w.sites o
      by None is = tt
      by (Some x) is = let may = (sound.sending session slot x is).1 in permitted sound x.instance (sound.knows (Sending session slot)) x.site x.op (may.truth x.site) may.permits
