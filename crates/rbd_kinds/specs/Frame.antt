-- The one spelling of each event of a journal: its frame. All numbers have their highest byte
-- first.
use Rattle.std.specs.Prelude.{◌≡◌, ℕ, ◌+◌, ◌^◌, ◌≤◌, List, [], ◌∷◌, ◌++◌, length}
use Rattle.std.specs.Int.{w32, w64, to_be_bytes}
use Rattle.rbd_values.specs.Name.{IsName}
use Rattle.rbd_kinds.specs.declared.journal.JournalEvent.{JournalEvent}
use Rattle.rbd_kinds.specs.declared.journal.JournalEvent.TheVariants.{Write, Discard, Resize, SnapCreate, SnapRemove, SnapRollback, Demote}

-- the kind byte: version 1 in the high half, the event in the low one
abbrev pub kind_byte : JournalEvent → ℕ
kind_byte (Write at bytes) = 0x11
kind_byte (Discard at len) = 0x12
kind_byte (Resize size) = 0x13
kind_byte (SnapCreate name) = 0x14
kind_byte (SnapRemove name) = 0x15
kind_byte (SnapRollback name) = 0x16
kind_byte Demote = 0x17

abbrev pub body_of : JournalEvent → List ℕ
body_of (Write at bytes) = to_be_bytes w64 at ++ bytes
body_of (Discard at len) = to_be_bytes w64 at ++ to_be_bytes w64 len
body_of (Resize size) = to_be_bytes w64 size
body_of (SnapCreate name) = name
body_of (SnapRemove name) = name
body_of (SnapRollback name) = name
body_of Demote = []

-- a kind byte, the body's length in four bytes, and the body
abbrev pub frame : JournalEvent → List ℕ
frame event = kind_byte event ∷ to_be_bytes w32 (length (body_of event)) ++ body_of event

-- no event reaches past this byte of an image
abbrev pub furthest : ℕ
furthest = 2 ^ 63

-- 1 to 1,048,576 bytes, up to the furthest
pub record IsWrite (at : ℕ) (bytes : List ℕ) : Type 0 where
  pub some : 1 ≤ length bytes
  pub few : length bytes ≤ 1048576
  pub end : at + length bytes ≤ furthest

-- at least 1 byte, up to the furthest
pub record IsDiscard (at len : ℕ) : Type 0 where
  pub some : 1 ≤ len
  pub end : at + len ≤ furthest

-- the events that have a frame
abbrev pub IsInRange : JournalEvent → Type 0
IsInRange (Write at bytes) = IsWrite at bytes
IsInRange (Discard at len) = IsDiscard at len
IsInRange (Resize size) = size ≤ furthest
IsInRange (SnapCreate name) = IsName name
IsInRange (SnapRemove name) = IsName name
IsInRange (SnapRollback name) = IsName name
IsInRange Demote = Unit {0}

-- the greatest size that an image may have: 2^20 objects of 32 MiB
abbrev pub greatest_size : ℕ
greatest_size = 2 ^ 45

abbrev pub AsksForASize : JournalEvent → Type 0
AsksForASize (Resize size) = size ≤ greatest_size
AsksForASize _ = Unit {0}

-- The bytes are the frame of one event, whole, and a size that it asks for is one that an image may
-- have.
pub record IsOneFrame (bytes : List ℕ) : Type 0 where
  pub event : JournalEvent
  pub spelled : bytes ≡ frame event
  pub range : IsInRange event
  pub size : AsksForASize event
