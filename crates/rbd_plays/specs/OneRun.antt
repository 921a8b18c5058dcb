-- Worlds of one run.
use Rattle.std.specs.Prelude.{◌≡◌}
use Rattle.rbd_kinds.specs.declared.id.SiteId.{SiteId}
use Rattle.rbd_world.specs.World.{WorldView, site_in}

-- The same events came, with the same outcomes; the same happened, was done at each site, and was
-- posted.
pub record IsSameRun {R : Type 0} (v w : WorldView R) : Type 0 where
  pub calls : v.calls ≡ w.calls
  pub history : v.history ≡ w.history
  pub logs : (s : SiteId) → (site_in s v.sites).log ≡ (site_in s w.sites).log
  pub mail : v.sites.mail ≡ w.sites.mail
