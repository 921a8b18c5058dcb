-- What a request knows goes with where it stands in its line.
use Rattle.std.specs.Prelude.{◌≡◌, ℕ, true, false, Option, Some, None, IsSome}
use Rattle.rbd_machine.specs.Course.{Course, PlaceInLine, has_just_joined}
use Rattle.rbd_kinds.specs.declared.id.SiteId.{SiteId}
use Rattle.rbd_queue.specs.Line.{is_past}
use Rattle.rbd_machine.specs.Knowledge.{Knowledge, Own, own_of, is_at}
use Rattle.rbd_interference.specs.Truth.{known_header}

-- The request is in this image's line, beside the same others as it owns the image, and waits for
-- its look under the lock or is past it. It is past that look exactly where it knows the header which
-- the look told.
pub record OwnsAt (site : SiteId) (image : ℕ) (o : Own) (p : PlaceInLine) : Type 0 where
  pub there : is_at site image p.site p.image ≡ true
  pub sharing : o.sharing ≡ p.sharing
  pub waits : has_just_joined p.stage ≡ false
  pub past : IsSome o.header → is_past p.stage ≡ true
  pub told : is_past p.stage ≡ true → IsSome o.header

abbrev pub OwnsIn : SiteId → (image : ℕ) → Own → Option PlaceInLine → Type 0
OwnsIn site image o None = ⊥
OwnsIn site image o (Some p) = OwnsAt site image o p

-- The request owns no image but that of its line, and knows beside which others it joined.
pub record IsTied (k : Knowledge) (c : Course) : Type 0 where
  pub owns : (site : SiteId) (image : ℕ) (o : Own) → own_of k.owns site image ≡ Some o → OwnsIn site image o c.place
  pub sharing : (p : PlaceInLine) → c.place ≡ Some p → k.sharing ≡ p.sharing
  -- a request that knows a header has the turn of its course
  pub turn : (site : SiteId) (image : ℕ) → IsSome (known_header k site image) → k.turn ≡ c.turn
