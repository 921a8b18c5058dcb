-- What a request waits for, beside operations and its event.
use Rattle.std.specs.Prelude.{ℕ}
use Rattle.rbd_kinds.specs.declared.id.SiteId.{SiteId}
use Rattle.rbd_kinds.specs.declared.machine.Want.{Want}
use Rattle.rbd_kinds.specs.declared.machine.Want.TheVariants as want
use Rattle.rbd_kinds.specs.declared.sharing.Sharing.{Sharing}

pub data Wait : Type 0 where
  -- to join the line of an image's requests, alone on the image or beside others
  Join : SiteId → (image : ℕ) → Sharing → Wait
  -- the image's lock
  Hold : SiteId → (image : ℕ) → Wait
  -- its turn at an object
  Turn : (object : ℕ) → Wait
  -- that its event counts as applied
  Applied : SiteId → (image : ℕ) → Wait
  -- to leave the image's line
  Leave : SiteId → (image : ℕ) → Wait

-- it as a want
abbrev pub want_of : Wait → Want
want_of (Join site image sharing) = want.Join site image sharing
want_of (Hold site image) = want.Hold site image
want_of (Turn object) = want.Turn object
want_of (Applied site image) = want.Applied site image
want_of (Leave site image) = want.Leave site image
