-- The line of an image in a session: its members in the order in which they joined.
use Rattle.std.specs.Prelude.{ℕ, ◌==◌, ◌≤◌, ◌&&◌, cond, not, Bool, true, false, List, [], ◌∷◌, ◌++◌, map, drop, Option, Some, None, IsTrue}
use Rattle.std.specs.List.{filter, find, list_any, list_all}
use Rattle.rbd_machine.specs.declared.stage.Stage.{Stage}
use Rattle.rbd_machine.specs.declared.stage.Stage.TheVariants as stage
use Rattle.rbd_machine.specs.Course.{held_stage}
use Rattle.rbd_guard.specs.Order.{is_in, AreApart}
use Rattle.rbd_kinds.specs.Sharing.{go_together, is_alone}
use Rattle.rbd_kinds.specs.declared.sharing.Sharing.{Sharing}
use Rattle.rbd_queue.specs.Turns.{begins_with}

-- a request in the line: its slot, beside which others it goes, how far it has come, and the
-- objects whose tickets it has, in the order in which it took them
pub record Member : Type 0 where
  pub slot : ℕ
  pub sharing : Sharing
  pub stage : Stage
  pub objects : List ℕ

-- the members in line order, and for how many more tickets there is room
pub record LineView : Type 0 where
  pub members : List Member
  pub reserved : ℕ

-- ---- who is where

abbrev pub member_of : (slot : ℕ) → List Member → Option Member
member_of slot members = find (λ m. m.slot == slot) members

abbrev pub is_member : (slot : ℕ) → List Member → Bool
is_member slot members = list_any (λ m. m.slot == slot) members

-- the members ahead of one, and those behind it
abbrev pub ahead : (slot : ℕ) → List Member → List Member
ahead slot [] = []
ahead slot (m ∷ members) = cond (m.slot == slot) [] (m ∷ ahead slot members)

abbrev pub members_behind : (slot : ℕ) → List Member → List Member
members_behind slot [] = []
members_behind slot (m ∷ members) = cond (m.slot == slot) members (members_behind slot members)

-- ---- who may pass

abbrev pub is_past : Stage → Bool
is_past stage.Past = true
is_past _ = false

-- whether a member is there and past its look under the lock
abbrev pub is_past_in : Option Member → Bool
is_past_in None = false
is_past_in (Some m) = is_past m.stage

-- whether anybody is past its look under the lock
abbrev pub any_past : List Member → Bool
any_past members = list_any (λ m. is_past m.stage) members

-- whether a member is past its look under the lock, and not alone
abbrev pub may_hold_objects : Member → Bool
may_hold_objects m = is_past m.stage && not (is_alone m.sharing)

-- whether a member lets one that is behind it pass: it is past its look under the lock, and they go
-- together
abbrev pub lets_pass : Sharing → Member → Bool
lets_pass sharing m = is_past m.stage && go_together m.sharing sharing

abbrev pub is_let_pass : Option Member → (ahead : List Member) → Bool
is_let_pass None ahead = false
is_let_pass (Some m) ahead = list_all (lets_pass m.sharing) ahead

-- whether a member may go past its look under the lock: each one ahead of it lets it
abbrev pub may_pass : (slot : ℕ) → List Member → Bool
may_pass slot members = is_let_pass (member_of slot members) (ahead slot members)

-- ---- who has its turn

abbrev pub objects_in : Option Member → List ℕ
objects_in None = []
objects_in (Some m) = m.objects

-- the objects that a slot holds: none where it isn't a member
abbrev pub objects_of_slot : (slot : ℕ) → List Member → List ℕ
objects_of_slot slot members = objects_in (member_of slot members)

abbrev pub holds_ticket : (object : ℕ) → Member → Bool
holds_ticket object m = is_in object m.objects

abbrev pub slots : List Member → List ℕ
slots members = map (λ (m : Member). m.slot) members

-- whether a slot is the first one, in line order, that holds an object
abbrev pub has_turn : (slot object : ℕ) → List Member → Bool
has_turn slot object members = begins_with slot (slots (filter (holds_ticket object) members))

-- whether an object is the one of a slot's next piece
abbrev pub comes_next : (slot object : ℕ) → List Member → Bool
comes_next slot object members = begins_with object (objects_of_slot slot members)

-- whether a slot is past its look under the lock and isn't alone, so that it takes tickets
abbrev pub may_hold_objects_in : Option Member → Bool
may_hold_objects_in None = false
may_hold_objects_in (Some m) = may_hold_objects m

abbrev pub may_enter : (slot : ℕ) → List Member → Bool
may_enter slot members = may_hold_objects_in (member_of slot members)

-- whether nobody behind a slot is past its look under the lock
abbrev pub none_past_behind : (slot : ℕ) → List Member → Bool
none_past_behind slot members = list_all (λ m. not (is_past m.stage)) (members_behind slot members)

-- ---- changes

abbrev pub new_member : (slot : ℕ) → Sharing → Member
new_member slot sharing = record { slot = slot; sharing = sharing; stage = stage.Joined; objects = [] }

-- a member that waits for its look under the lock; one that is past that look stays past it
abbrev pub held : Member → Member
held m = record m { stage = held_stage m.stage }

abbrev pub passed : Member → Member
passed m = record m { stage = stage.Past }

-- a member with one more ticket, and without its first
abbrev pub entered : (object : ℕ) → Member → Member
entered object m = record m { objects = m.objects ++ object ∷ [] }

abbrev pub next_piece : Member → Member
next_piece m = record m { objects = drop 1 m.objects }

-- the members with one of them changed, or without it
abbrev pub changed_member : (slot : ℕ) → (Member → Member) → List Member → List Member
changed_member slot f members = map (λ m. cond (m.slot == slot) (f m) m) members

abbrev pub without : (slot : ℕ) → List Member → List Member
without slot members = filter (λ m. not (m.slot == slot)) members

-- ---- what holds of each line

abbrev pub Each : (Member → Type 0) → List Member → Type 0
Each P [] = Unit {0}
Each P (m ∷ members) = P m × Each P members

-- something holds of each member and each one behind it
abbrev pub EachPair : (Member → Member → Type 0) → List Member → Type 0
EachPair P [] = Unit {0}
EachPair P (m ∷ members) = Each (P m) members × EachPair P members

-- each member that is past its look under the lock was let pass by each one ahead of it
abbrev pub LetsPass : (earlier later : Member) → Type 0
LetsPass earlier later = IsTrue (is_past later.stage) → IsTrue (lets_pass later.sharing earlier)

-- only a member that isn't alone and is past its look under the lock holds objects, each of them once
pub record IsFairMember (m : Member) : Type 0 where
  pub slot_from : 1 ≤ m.slot
  pub slot_to : m.slot ≤ 64
  pub holds_by_right : (object : ℕ) → IsTrue (holds_ticket object m) → IsTrue (may_hold_objects m)
  pub once : AreApart m.objects

pub record IsFairLine (members : List Member) : Type 0 where
  pub apart : AreApart (slots members)
  pub each : Each IsFairMember members
  pub passing : EachPair LetsPass members
