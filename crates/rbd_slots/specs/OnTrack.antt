-- What holds of each request on its way: it is in one line or in none, and keeps to it.
use Rattle.std.specs.Prelude.{◌≡◌, ◌≢◌, ◌⊎◌, ℕ, Bool, true, false, [], Option, Some, None}
use Rattle.rbd_machine.specs.Orderly.{IsOrderlyFrom}
use Rattle.rbd_guard.specs.Order.{AreApart}
use Rattle.rbd_kinds.specs.declared.id.SiteId.{SiteId}
use Rattle.rbd_kinds.specs.declared.layout.Extent.{Extent}
use Rattle.rbd_queue.specs.Line.{Member, member_of, may_hold_objects, none_past_behind, comes_next, IsFairLine}
use Rattle.rbd_machine.specs.Knowledge.{is_at}
use Rattle.rbd_machine.specs.Plan.{Standing}
use Rattle.rbd_kinds.specs.declared.image_at.ImageAt.{ImageAt}
use Rattle.rbd_slots.specs.Track.{Track, Lines, line_in, course_of}

-- the request is a member of the line of an image
pub record IsThere (slot : ℕ) (p : ImageAt) (m : Member) (t : Track) : Type 0 where
  pub place : t.place ≡ Some p
  pub member : member_of slot (t.lines p.site p.image) ≡ Some m

-- in no line, or in one
abbrev pub IsSomewhere : (slot : ℕ) → Track → Type 0
IsSomewhere slot t = (t.place ≡ None) ⊎ ((p : ImageAt) × (m : Member) × IsThere slot p m t)

abbrev pub is_here : Option ImageAt → SiteId → (image : ℕ) → Bool
is_here None site image = false
is_here (Some p) site image = is_at p.site p.image site image

-- the request is a member of no other line
abbrev pub IsNowhereElse : (slot : ℕ) → Option ImageAt → Lines → Type 0
IsNowhereElse slot place lines = (site : SiteId) (image : ℕ) → is_here place site image ≡ false
    → member_of slot (lines site image) ≡ None

-- The request may take its tickets: it goes beside others, has none yet, and nobody behind it is
-- past its look under the lock.
pub record MayTakeTickets (slot : ℕ) (t : Track) : Type 0 where
  pub place : ImageAt
  pub member : Member
  pub there : IsThere slot place member t
  pub shared : may_hold_objects member ≡ true
  pub none : member.objects ≡ []
  pub behind : none_past_behind slot (t.lines place.site place.image) ≡ true
  pub apart : AreApart t.due

-- the object of its turn is the first that it has a ticket for
abbrev pub HasNext : (slot : ℕ) → Track → Type 0
HasNext slot t = (object : ℕ) → t.turn ≡ Some object → comes_next slot object (line_in t.place t.lines) ≡ true

pub record IsOnTrack (slot : ℕ) (e : Option Extent) (fresh : Bool) (s : Standing) (t : Track) : Type 0 where
  pub somewhere : IsSomewhere slot t
  pub elsewhere : IsNowhereElse slot t.place t.lines
  pub orderly : IsOrderlyFrom e fresh (course_of slot t) s
  pub takes : (t.due ≡ []) ⊎ MayTakeTickets slot t
  pub turns : HasNext slot t

-- each line is fair
abbrev pub AreFair : Lines → Type 0
AreFair lines = (site : SiteId) (image : ℕ) → IsFairLine (lines site image)

-- each other slot stands in each line as it did
abbrev pub LeavesOthers : (slot : ℕ) → (old new : Lines) → Type 0
LeavesOthers slot old new = (other : ℕ) → other ≢ slot → (site : SiteId) (image : ℕ)
    → member_of other (new site image) ≡ member_of other (old site image)
