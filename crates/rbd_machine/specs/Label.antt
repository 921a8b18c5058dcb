-- Where a request begins a part again.
use Rattle.std.specs.Prelude.{ℕ, List}
use Rattle.rbd_kinds.specs.declared.header.HeaderView.{HeaderView}
use Rattle.rbd_kinds.specs.declared.id.SiteId.{SiteId}
use Rattle.rbd_kinds.specs.Form.{IsHeaderInForm}

-- labels, each with what its part rests on
pub data Label : Type 0 where
  -- the whole request
  Begin : Label
  -- The piece of a number, of an image whose look under the lock told a header. Where the request
  -- was told the states of the head's map, these are they, in bits.
  Piece : SiteId → (image : ℕ) → HeaderView → (bits : List ℕ) → (number : ℕ) → Label
  -- the whole copy of an image of the other site
  Sync : (image : ℕ) → Label
  -- the way to the image's lock
  Lock : Label

-- the header that a label carries is in form
abbrev pub IsFit : Label → Type 0
IsFit (Piece site image h bits number) = IsHeaderInForm h
IsFit _ = Unit {0}
