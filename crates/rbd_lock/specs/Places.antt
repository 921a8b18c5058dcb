-- Images at sites: whether one is among others, and which comes next.
use Rattle.std.specs.Prelude.{ℕ, Bool, true, List, Option, None, Some}
use Rattle.std.specs.List.{find, list_any}
use Rattle.std.specs.Ordering.{is_lt}
use Rattle.rbd_kinds.specs.declared.id.SiteId.{SiteId}
use Rattle.rbd_kinds.specs.declared.image_at.ImageAt.{ImageAt}
use Rattle.rbd_kinds.specs.Images.{image_cmp, is_at}

abbrev pub is_among : SiteId → (image : ℕ) → List ImageAt → Bool
is_among site image places = list_any (λ p. is_at site image p.site p.image) places

-- whether an image comes behind another one; every image comes behind none
abbrev pub is_behind : Option ImageAt → ImageAt → Bool
is_behind None p = true
is_behind (Some before) p = is_lt (image_cmp before p)

-- of images in order, the first that comes behind one
abbrev pub next_behind : Option ImageAt → List ImageAt → Option ImageAt
next_behind before places = find (is_behind before) places
