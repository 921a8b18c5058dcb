-- Images at sites: which are the same, the key of each in a table, and their order.
use Rattle.std.specs.Prelude.{ℕ, ◌+◌, ◌*◌, ◌==◌, ◌&&◌, Bool, true, false}
use Rattle.std.specs.Ordering.{nat_cmp, ordering_then}
use Rattle.std.specs.declared.cmp.Ordering.{Ordering}
use Rattle.rbd_kinds.specs.declared.id.SiteId.{SiteId}
use Rattle.rbd_kinds.specs.declared.id.SiteId.TheVariants as site
use Rattle.rbd_kinds.specs.declared.image_at.ImageAt.{ImageAt}

abbrev pub same_site : SiteId → SiteId → Bool
same_site site.A site.A = true
same_site site.B site.B = true
same_site _ _ = false

abbrev pub is_at : SiteId → (image : ℕ) → SiteId → (other : ℕ) → Bool
is_at site image there other = same_site there site && (other == image)

abbrev pub key_of : SiteId → (image : ℕ) → ℕ
key_of site.A image = image * 2
key_of site.B image = image * 2 + 1

-- the order of images: by site, then by id
abbrev pub site_number : SiteId → ℕ
site_number site.A = 0
site_number site.B = 1

abbrev pub image_cmp : ImageAt → ImageAt → Ordering
image_cmp p q = ordering_then (nat_cmp (site_number p.site) (site_number q.site)) (nat_cmp p.image q.image)
