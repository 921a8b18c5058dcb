-- What a read keeps of the header that it looked at.
use Rattle.std.specs.Prelude.{ℕ, List}
use Rattle.rbd_kinds.specs.declared.header.HeaderView.{HeaderView}
use Rattle.rbd_kinds.specs.declared.layout.Extent.{Extent}
use Rattle.rbd_kinds.specs.declared.layout.Layout.{Layout}
use Rattle.rbd_meaning.specs.Arrange.{bytes_of_extent}

pub record Seen : Type 0 where
  pub layout : Layout
  pub extent : Extent
  pub generation : ℕ

abbrev pub seen_at : HeaderView → Extent → Seen
seen_at h e = record { layout = h.layout; extent = e; generation = h.generation }

-- the bytes of the extent, out of those that were read object by object
abbrev pub shown_bytes : Seen → (read : List ℕ) → List ℕ
shown_bytes seen read = bytes_of_extent seen.layout seen.extent read
