-- The lines of the images that a session's requests change, in a table by image.
use Rattle.std.specs.Prelude.{◌≡◌, ◌⊎◌, ◌≤◌, true, length, ℕ, ◌<◌, nat_eq, Bool, false, List, [], Option, Some, None, IfSome, IsFalse, IsSome}
use Rattle.std.specs.HashMap.{HashMap, get}
use Rattle.std.specs.Map.{lookup}
use Rattle.rbd_guard.specs.Order.{AreApart}
use Rattle.rbd_kinds.specs.declared.id.SiteId.{SiteId}
use Rattle.rbd_kinds.specs.declared.id.SiteId.TheVariants as site
use Rattle.rbd_kinds.specs.Images.{key_of}
use Rattle.rbd_queue.specs.Line.{LineView, Member, may_enter, none_past_behind, objects_of_slot}
use Rattle.rbd_kinds.specs.declared.image_at.ImageAt.{ImageAt}

-- what contracts see of all lines: those that are held, one for the next image, and for how many
-- more there is room
pub record LinesView : Type 0 where
  pub entries : List (ℕ × LineView)
  pub unused : Option LineView
  pub room : ℕ

-- an image without a line has no members
abbrev pub members_or : Option LineView → List Member
members_or None = []
members_or (Some v) = v.members

abbrev pub room_or : Option LineView → ℕ
room_or None = 0
room_or (Some v) = v.reserved

abbrev pub members_in : {S : Type 0} → (table : HashMap ℕ LineView S) → (key : ℕ) → List Member
members_in table key = members_or (get nat_eq table key)

-- for how many more tickets there is room in a line
abbrev pub room_in : {S : Type 0} → (table : HashMap ℕ LineView S) → (key : ℕ) → ℕ
room_in table key = room_or (get nat_eq table key)

abbrev pub members_at : (key : ℕ) → LinesView → List Member
members_at key l = members_or (lookup (nat_eq key) l.entries)

abbrev pub room_at : (key : ℕ) → LinesView → ℕ
room_at key l = room_or (lookup (nat_eq key) l.entries)

-- the line of each image
abbrev pub lines_of : LinesView → SiteId → (image : ℕ) → List Member
lines_of l site image = members_at (key_of site image) l

-- a line is held only while somebody is in it
abbrev pub IsUsed : Option LineView → Type 0
IsUsed o = IfSome o (λ (v : LineView). 0 < length v.members)

abbrev pub AreUsed : List (ℕ × LineView) → Type 0
AreUsed entries = (key : ℕ) → IsUsed (lookup (nat_eq key) entries)

-- the same of each line but one, which somebody has just left
abbrev pub AreUsedBut : (key : ℕ) → List (ℕ × LineView) → Type 0
AreUsedBut key entries = (other : ℕ) → IsFalse (nat_eq key other) → IsUsed (lookup (nat_eq other) entries)

-- the line of the image has a member
abbrev pub HasMembers : Option ImageAt → LinesView → Type 0
HasMembers None l = ⊥
HasMembers (Some p) l = IsSome (lookup (nat_eq (key_of p.site p.image)) l.entries)

abbrev pub IsEmptyLine : Option LineView → Type 0
IsEmptyLine None = ⊥
IsEmptyLine (Some v) = v.members ≡ []

-- for how many more tickets there is room in the line of a request
abbrev pub room_of : Option ImageAt → LinesView → ℕ
room_of None l = 0
room_of (Some p) l = room_at (key_of p.site p.image) l

-- whether a key is that of the line that a request is in
abbrev pub is_key : Option ImageAt → (key : ℕ) → Bool
is_key None key = false
is_key (Some p) key = nat_eq (key_of p.site p.image) key

abbrev pub members_of : Option ImageAt → LinesView → List Member
members_of None l = []
members_of (Some p) l = members_at (key_of p.site p.image) l

-- a line can be opened for one more image
abbrev pub CanOpen : LinesView → Type 0
CanOpen l = IsEmptyLine l.unused × (0 < l.room)

-- A slot may take tickets for these objects where there is room and either there are none, or it
-- goes beside others, is past its look under the lock, has no ticket yet, and nobody behind it is
-- past its look under the lock.
pub record MayEnter (slot : ℕ) (objects : List ℕ) (members : List Member) : Type 0 where
  pub member : may_enter slot members ≡ true
  pub last : none_past_behind slot members ≡ true
  pub none : objects_of_slot slot members ≡ []
  pub apart : AreApart objects

abbrev pub MayEnterAll : (slot : ℕ) → (objects : List ℕ) → List Member → (room : ℕ) → Type 0
MayEnterAll slot objects members room = ((objects ≡ []) ⊎ MayEnter slot objects members) × (length objects ≤ room)
