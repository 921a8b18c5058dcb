-- Where an image byte lies (Ceph: RBD striping).
use Rattle.std.specs.Prelude.{◌≡◌, ℕ, ◌+◌, ◌*◌, ◌/◌, ◌%◌, ◌^◌, ◌<◌, ◌≤◌}
use Rattle.rbd_kinds.specs.declared.layout.Layout.{Layout}

-- The object size is a power of two from 4,096 to 33,554,432, the stripe unit one from 512 to the
-- object size, and the stripe count is 1 to 16.
pub record IsLayout (l : Layout) : Type 0 where
  pub object : (k : ℕ) × (12 ≤ k) × (k ≤ 25) × (l.object ≡ 2 ^ k)
  pub unit : (k : ℕ) × (9 ≤ k) × (l.unit ≡ 2 ^ k)
  pub unit_within : l.unit ≤ l.object
  pub count : (1 ≤ l.count) × (l.count ≤ 16)

-- how many stripe units an object holds
abbrev pub units_per_object : Layout → ℕ
units_per_object l = l.object / l.unit

-- the stripe of byte x, and the position of its unit in the stripe
abbrev pub stripe_of : Layout → ℕ → ℕ
stripe_of l x = x / l.unit / l.count

abbrev pub position_of : Layout → ℕ → ℕ
position_of l x = x / l.unit % l.count

-- the number of the object that holds byte x, and the offset there
abbrev pub object_of : Layout → ℕ → ℕ
object_of l x = stripe_of l x / units_per_object l * l.count + position_of l x

abbrev pub offset_of : Layout → ℕ → ℕ
offset_of l x = stripe_of l x % units_per_object l * l.unit + x % l.unit

-- the image byte that lies in an object at an offset
abbrev pub byte_at : Layout → (object offset : ℕ) → ℕ
byte_at l object offset =
    ((object / l.count * units_per_object l + offset / l.unit) * l.count + object % l.count) * l.unit + offset % l.unit

-- The number of objects of a size is one more than the greatest object number of a byte below the
-- size, and 0 for size 0.
pub record IsObjectCount (l : Layout) (size count : ℕ) : Type 0 where
  pub none : size ≡ 0 → count ≡ 0
  pub each : (x : ℕ) → x < size → object_of l x < count
  pub greatest : 0 < size → (x : ℕ) × (x < size) × (object_of l x + 1 ≡ count)
