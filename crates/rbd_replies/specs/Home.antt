-- Where the operations of a line were done.
use Rattle.std.specs.Prelude.{◌≡◌, List, [], ◌∷◌}
use Rattle.rbd_kinds.specs.declared.id.SiteId.{SiteId}
use Rattle.rbd_replies.specs.Places.{Placed}

-- all at this site, so that `flat_at` is this site's flat site at each of them
abbrev pub AreDoneAt : SiteId → List Placed → Type 0
AreDoneAt site [] = Unit {0}
AreDoneAt site (p ∷ places) = (p.done.site ≡ site) × AreDoneAt site places
