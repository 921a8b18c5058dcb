-- How much of an object's parts lies below a size, where it is known how many of the object's
-- offsets do.
use Rattle.std.specs.Prelude.{◌≡◌, ℕ, ◌+◌, ◌-◌, ◌*◌, ◌%◌, ◌<◌, ◌≤◌, ◌↔◌, nat_lt, ◌==◌, if◌then◌else◌, List, [], ◌∷◌, ◌++◌, min, map, take, drop}
use Rattle.std.specs.List.{range_with_len}
use Rattle.rbd_kinds.specs.declared.layout.Extent.{Extent}
use Rattle.rbd_kinds.specs.declared.layout.Layout.{Layout}
use Rattle.rbd_kinds.specs.declared.layout.Part.{Part}
use Rattle.rbd_kinds.specs.Striping.{byte_at}
use Rattle.rbd_flat.specs.Series.{extents_in}
use Rattle.rbd_flat.specs.declared.extents.Series.{Series}
use Rattle.rbd_stands.specs.Effect.{joined_extents}

-- How many offsets of an object have their image byte below a size: they are the first ones.
-- Offsets past the object's end count too, since a part may have them.
pub record IsHeldBelow (l : Layout) (number size held : ℕ) : Type 0 where
  pub each : (offset : ℕ) → (offset < held) ↔ (byte_at l number offset < size)

-- How many bytes of the unit at a position of a stripe lie below the size, whose byte is of that
-- stripe, at another position.
abbrev pub held_in_stripe : (unit position last size : ℕ) → ℕ
held_in_stripe unit position last size = if nat_lt position last then unit
    else (if nat_lt last position then 0 else size % unit)

-- how many of a part's bytes are kept
abbrev pub kept_len : (held : ℕ) → Part → ℕ
kept_len held p = min p.len (held - p.offset)

-- How many bytes from an offset on, up to another, lie together in the image: all, where a stripe
-- has no other object, else those up to the end of the unit.
abbrev pub run_from : Layout → (offset end : ℕ) → ℕ
run_from l offset end = if l.count == 1 then end - offset else min (l.unit - offset % l.unit) (end - offset)

-- the image bytes of the offsets from one to another, as extents
abbrev pub extents_between : Layout → (number from end : ℕ) → List Extent
extents_between l number from end = joined_extents l (map (byte_at l number) (range_with_len from (end - from)))

-- The series has the first extents from an offset on, at least one, and what it leaves comes behind.
pub record IsSeriesFrom (l : Layout) (number offset end : ℕ) (s : Series) : Type 0 where
  pub some : 0 < s.first.len * s.count
  pub within : offset + s.first.len * s.count ≤ end
  pub first : extents_between l number offset end
      ≡ extents_in s ++ extents_between l number (offset + s.first.len * s.count) end

-- those of the bytes that are kept, where each part has as many as its length
abbrev pub bytes_kept : (held : ℕ) → List Part → (bytes : List ℕ) → List ℕ
bytes_kept held [] bytes = []
bytes_kept held (p ∷ parts) bytes = take (kept_len held p) bytes ++ bytes_kept held parts (drop p.len bytes)
