-- Who watches, and what is only told to those who do. How a watch ends stands in `rbd_world`
-- (`ends_watch`).
use Rattle.std.specs.Prelude.{◌≡◌, ℕ, Bool, List, ◌∷◌, Option}
use Rattle.rbd_kinds.specs.declared.id.Instance.{Instance}
use Rattle.rbd_kinds.specs.declared.id.SiteId.{SiteId}
use Rattle.rbd_kinds.specs.declared.reply.Reply.{Reply}
use Rattle.rbd_watch.specs.Watching.{watches}
use Rattle.rbd_world.specs.Run.{Happening, Did, Operation, flat_after, records_after}

-- the instance watches the image at the site
abbrev pub is_watching : Instance → SiteId → (image : ℕ) → List Happening → Bool
is_watching who s image run = watches who ((records_after s run).watchers image)

-- It changes no record and no flat site, at either site: notices are all that it may add.
pub record IsAnnouncement (o : Operation) (reply : Option Reply) (before : List Happening) : Type 0 where
  pub records : (s : SiteId) → records_after s (Did o reply ∷ before) ≡ records_after s before
  pub flat : (s : SiteId) → flat_after s (Did o reply ∷ before) ≡ flat_after s before
