-- Reading the pieces of a view, one after another.
use Rattle.std.specs.Prelude.{◌≡◌, ◌+◌, ◌≤◌, length, vec_len, vec_capacity, ℕ, List, [], ◌∷◌, ◌++◌, replicate, Option}
use Rattle.rbd_kinds.specs.declared.answer.Answer.{Answer}
use Rattle.rbd_kinds.specs.declared.answer.Answer.TheVariants as answer
use Rattle.rbd_kinds.specs.declared.id.SiteId.{SiteId}
use Rattle.rbd_kinds.specs.declared.layout.Part.{Part}
use Rattle.rbd_layout.specs.declared.types.Piece.{Piece}
use Rattle.rbd_kinds.specs.Parts.{parts_len}
use Rattle.rbd_machine.specs.Objects.{data_read}
use Rattle.rbd_machine.specs.Plan.{Plan}
use Rattle.rbd_machine.specs.Steps.{EndsIt, IsGoing, own, not_there, refused}
use Rattle.rbd_machine.specs.declared.progress.Progress.{Progress}
use Rattle.rbd_machine.specs.declared.progress.Progress.TheVariants as progress
use Rattle.rbd_pieces.specs.declared.gather.Gather.{Gather}

-- An object that isn't there at the view shows zeros.
abbrev pub on_bytes : List Part → (List ℕ → Plan) → Answer → Plan
on_bytes parts next (answer.Bytes bytes) = next bytes
on_bytes parts next answer.Absent = next (replicate (parts_len parts) 0)
on_bytes parts next a = not_there a

abbrev pub TellsBytes : Answer → Type 0
TellsBytes (answer.Bytes bytes) = Unit {0}
TellsBytes answer.Absent = Unit {0}
TellsBytes a = EndsIt a

-- The bytes of the pieces, one piece after another and in it one part after another, behind those
-- that were read before.
abbrev pub gather : SiteId → (image : ℕ) → (snap : Option ℕ) → List Piece → (read : List ℕ)
    → (next : List ℕ → Plan) → Plan
gather site image snap [] read next = next read
gather site image snap (p ∷ pieces) read next =
    own site (data_read image snap p) (on_bytes p.parts (λ bytes. gather site image snap pieces (read ++ bytes) next))

-- what is left of one
abbrev pub rest_of_gather : Gather → (next : List ℕ → Plan) → Plan
rest_of_gather g next = gather g.site g.image g.snap (g.piece ∷ g.pieces.items) g.bytes.items next

-- Pieces were read, and it goes on, or all were, or the request has ended.
abbrev pub Gathers : (next : List ℕ → Plan) → (to : Plan) → Progress (Unit {0}) → (new : Gather) → Type 0
Gathers next to progress.More new = IsGoing to (rest_of_gather new next)
Gathers next to (progress.Ended nothing) new = to ≡ next new.bytes.items
Gathers next to (progress.Refused r) new = to ≡ refused r

-- the memory that an answer needs, where so many bytes are held and may be held
abbrev pub IsRoomForBytes : (held may : ℕ) → List Part → Answer → Type 0
IsRoomForBytes held may parts (answer.Bytes more) = held + length more ≤ may
IsRoomForBytes held may parts answer.Absent = held + parts_len parts ≤ may
IsRoomForBytes held may parts a = Unit {0}

abbrev pub HasRoomForAnswer : Gather → Answer → Type 0
HasRoomForAnswer g a = IsRoomForBytes (vec_len g.bytes) (vec_capacity g.bytes) g.piece.parts a
