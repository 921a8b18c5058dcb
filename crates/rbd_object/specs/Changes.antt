-- What changes make of a head, and how many pages and sheaves they may take.
use Rattle.std.specs.Prelude.{◌≡◌, ℕ, ◌+◌, ◌≤◌, min, List, [], length, Option, Some, None, option_map, unwrap_or}
use Rattle.rbd_parts.specs.Contents.{overwritten, zeroed}
use Rattle.rbd_kinds.specs.Parts.{parts_len}
use Rattle.rbd_parts.specs.Parts.{parts_written, parts_zeroed, AreWithin}
use Rattle.rbd_pages.specs.Paging.{pages_for}
use Rattle.rbd_pages.specs.Listed.{sheaves_touched, touched}
use Rattle.rbd_pages.specs.Sheaves.{sheaves_for}
use Rattle.rbd_object.specs.Shared.{written_sheaves, written_touch, zeroed_sheaves, zeroed_touch}
use Rattle.rbd_parts.specs.declared.parts.TheConstants.{LARGEST_OBJECT}
use Rattle.rbd_object.specs.declared.change.ObjectChange.{ObjectChange}
use Rattle.rbd_object.specs.declared.change.ObjectChange.TheVariants.{Write, WriteParts, WriteFull, Zero, ZeroParts, Empty, Remove}

-- the head after a change
abbrev pub after : ObjectChange → Option (List ℕ) → Option (List ℕ)
after (Write at bytes) head = Some (overwritten (unwrap_or head []) at bytes.now)
after (WriteParts parts bytes) head = Some (parts_written parts.now bytes.now (unwrap_or head []))
after (WriteFull bytes) head = Some bytes.now
after (Zero at len) head = option_map (λ held. zeroed held at len) head
after (ZeroParts parts) head = option_map (parts_zeroed parts.now) head
after Empty head = Some []
after Remove head = None

-- how many pages a change of a head with `len` bytes may take
abbrev pub pages_taken : ObjectChange → (len : ℕ) → ℕ
pages_taken (Write at bytes) len = touched (min len at) (at + length bytes.now)
pages_taken (WriteParts parts bytes) len = written_touch len parts.now
pages_taken (WriteFull bytes) len = pages_for (length bytes.now)
pages_taken (Zero at count) len = touched at (at + count)
pages_taken (ZeroParts parts) len = zeroed_touch parts.now
pages_taken Empty len = 0
pages_taken Remove len = 0

-- how many sheaves it may take
abbrev pub sheaves_taken : ObjectChange → (len : ℕ) → ℕ
sheaves_taken (Write at bytes) len = sheaves_touched (min len at) (at + length bytes.now)
sheaves_taken (WriteParts parts bytes) len = written_sheaves len parts.now
sheaves_taken (WriteFull bytes) len = sheaves_for (pages_for (length bytes.now))
sheaves_taken (Zero at count) len = sheaves_touched at (at + count)
sheaves_taken (ZeroParts parts) len = zeroed_sheaves parts.now
sheaves_taken Empty len = 0
sheaves_taken Remove len = 0

-- what is written lies within the largest object
abbrev pub FitsObject : ObjectChange → Type 0
FitsObject (Write at bytes) = at + length bytes.now ≤ LARGEST_OBJECT
FitsObject (WriteParts parts bytes) = AreWithin parts.now × (length bytes.now ≡ parts_len parts.now)
FitsObject (WriteFull bytes) = length bytes.now ≤ LARGEST_OBJECT
FitsObject (Zero at count) = Unit {0}
FitsObject (ZeroParts parts) = Unit {0}
FitsObject Empty = Unit {0}
FitsObject Remove = Unit {0}
