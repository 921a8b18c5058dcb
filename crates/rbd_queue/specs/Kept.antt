-- How standings and turns hold a line.
use Rattle.std.specs.Prelude.{◌≡◌, ℕ, ◌==◌, cond, List, [], IsFalse}
use Rattle.rbd_machine.specs.declared.stage.Stage.TheVariants as stage
use Rattle.rbd_machine.specs.Course.{held_stage}
use Rattle.std.specs.List.{filter}
use Rattle.rbd_queue.specs.declared.standing.LineMember.{LineMember}
use Rattle.rbd_queue.specs.Line.{Member, is_member, holds_ticket, slots, IsFairLine}

abbrev pub member : (held : ℕ → List ℕ) → LineMember → Member
member held s = record { slot = s.slot; sharing = s.sharing; stage = s.stage; objects = held s.slot }

-- the standings, of which the one at a slot waits or is past its look under the lock
abbrev pub held_at : (slot : ℕ) → LineMember → LineMember
held_at slot s = cond (s.slot == slot) (record s { stage = held_stage s.stage }) s

abbrev pub passed_at : (slot : ℕ) → LineMember → LineMember
passed_at slot s = cond (s.slot == slot) (record s { stage = stage.Past }) s

-- the line is fair, an object is held by the members that hold it, in line order, and who isn't a
-- member holds none
pub record IsKept (held holders : ℕ → List ℕ) (members : List Member) : Type 0 where
  pub fair : IsFairLine members
  pub turns : (object : ℕ) → holders object ≡ slots (filter (holds_ticket object) members)
  pub outside : (slot : ℕ) → IsFalse (is_member slot members) → held slot ≡ []
