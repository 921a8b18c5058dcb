-- What is wrong at the front of some bytes: the first fault that applies, from left to right.
use Rattle.std.specs.Prelude.{◌≡◌, ℕ, ◌+◌, ◌-◌, Bool, ◌&&◌, ◌||◌, not, ◌==◌, nat_le, nat_lt, if◌then◌else◌, List, [], ◌∷◌, length, take, drop, Option, Some, None, option_map}
use Rattle.std.specs.List.{position}
use Rattle.byteorder.specs.Endian.{big_number}
use Rattle.rbd_values.specs.Name.{name_byte}
use Rattle.rbd_journal.specs.declared.fault.FrameFault.{FrameFault}
use Rattle.rbd_journal.specs.declared.fault.FrameFault.TheVariants.{Short, BadKind, BadLength, BadText, NoMemory}
use Rattle.rbd_journal.specs.declared.kind.FrameKind.{FrameKind}
use Rattle.rbd_journal.specs.declared.kind.FrameKind.TheVariants.{Write, Discard, Resize, SnapCreate, SnapRemove, SnapRollback, Demote}
use Rattle.rbd_kinds.specs.Frame.{furthest}

abbrev pub IsNoMemory : FrameFault → Type 0
IsNoMemory fault = fault ≡ NoMemory

-- the kind that a byte names, if any
abbrev pub frame_kind_at : ℕ → Option FrameKind
frame_kind_at byte =
    if byte == 0x11 then Some Write else
    if byte == 0x12 then Some Discard else
    if byte == 0x13 then Some Resize else
    if byte == 0x14 then Some SnapCreate else
    if byte == 0x15 then Some SnapRemove else
    if byte == 0x16 then Some SnapRollback else
    if byte == 0x17 then Some Demote else
    None

-- the byte that names a kind
abbrev pub frame_kind_byte : FrameKind → ℕ
frame_kind_byte Write = 0x11
frame_kind_byte Discard = 0x12
frame_kind_byte Resize = 0x13
frame_kind_byte SnapCreate = 0x14
frame_kind_byte SnapRemove = 0x15
frame_kind_byte SnapRollback = 0x16
frame_kind_byte Demote = 0x17

-- whether a body of this kind may have this length
abbrev pub allows_length : FrameKind → ℕ → Bool
allows_length Write n = nat_le 9 n && nat_le n 1048584
allows_length Discard n = n == 16
allows_length Resize n = n == 8
allows_length SnapCreate n = nat_le 1 n && nat_le n 64
allows_length SnapRemove n = nat_le 1 n && nat_le n 64
allows_length SnapRollback n = nat_le 1 n && nat_le n 64
allows_length Demote n = n == 0

-- whether `len` bytes from `at` on pass the furthest
abbrev pub ends_too_far : (at len : ℕ) → Bool
ends_too_far at len = nat_lt furthest (at + len)

abbrev pub write_fault : List ℕ → Option FrameFault
write_fault body =
    if ends_too_far (big_number 8 body) (length body - 8) then Some (BadLength (length body)) else None

abbrev pub discard_fault : List ℕ → Option FrameFault
discard_fault body =
    let len = big_number 8 (drop 8 body) in
    if len == 0 || ends_too_far (big_number 8 body) len then Some (BadLength len) else None

abbrev pub resize_fault : List ℕ → Option FrameFault
resize_fault body =
    if nat_lt furthest (big_number 8 body) then Some (BadLength (big_number 8 body)) else None

-- the place in a text of the first byte that isn't of a name
abbrev pub misplaced : List ℕ → Option ℕ
misplaced text = position (λ byte. not (name_byte byte)) text

-- the body stands behind the five bytes of kind and length
abbrev pub name_fault : List ℕ → Option FrameFault
name_fault text = option_map (λ place. BadText (5 + place)) (misplaced text)

-- the first fault of a body whose length its kind allows
abbrev pub body_fault : FrameKind → List ℕ → Option FrameFault
body_fault Write body = write_fault body
body_fault Discard body = discard_fault body
body_fault Resize body = resize_fault body
body_fault SnapCreate body = name_fault body
body_fault SnapRemove body = name_fault body
body_fault SnapRollback body = name_fault body
body_fault Demote body = None

-- the first fault of what follows the kind byte: a length in four bytes, and a body
abbrev pub fault_after : FrameKind → List ℕ → Option FrameFault
fault_after kind rest =
    let len = big_number 4 rest in
    if nat_lt (length rest) 4 then Some Short else
    if not (allows_length kind len) then Some (BadLength len) else
    if nat_lt (length rest) (4 + len) then Some Short else
    body_fault kind (take len (drop 4 rest))

abbrev pub fault_of_kind : Option FrameKind → (byte : ℕ) → List ℕ → Option FrameFault
fault_of_kind None byte rest = Some (BadKind byte)
fault_of_kind (Some kind) byte rest = fault_after kind rest

-- what is wrong at the front, if no frame stands there
abbrev pub first_fault : List ℕ → Option FrameFault
first_fault [] = Some Short
first_fault (byte ∷ rest) = fault_of_kind (frame_kind_at byte) byte rest
