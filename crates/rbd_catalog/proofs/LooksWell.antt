-- How requests that aren't reads look at headers: the definition that all of them keep, and its
-- steps.
use Rattle.std.proofs.Common.{◌≡◌, ℕ, refl}
use Rattle.rbd_kinds.specs.declared.answer.Answer.{Answer}
use Rattle.rbd_kinds.specs.declared.answer.Answer.TheVariants as answer
use Rattle.rbd_kinds.specs.declared.header.HeaderView.{HeaderView}
use Rattle.rbd_kinds.specs.declared.header_op.HeaderOp.TheVariants as header
use Rattle.rbd_kinds.specs.declared.id.SiteId.{SiteId}
use Rattle.rbd_kinds.specs.declared.operation.Op.{Op}
use Rattle.rbd_kinds.specs.declared.operation.Op.TheVariants as op
use Rattle.rbd_machine.specs.Plan.{Plan, Ask, Await, Note, Return, Goto}
use Rattle.rbd_machine.specs.Steps.{EndsIt, not_there, on_header}
use Rattle.rbd_machine.specs.Wait.{Wait}
use Rattle.rbd_machine.specs.Wait as wait
use Rattle.rbd_catalog.specs.NoLooks.{IsNoLook}
use Rattle.rbd_catalog.specs.Looking.{LookedIf, LooksAtItFirst, LooksNoMore, LooksOnce}

-- ---- each look at a header

-- what isn't there and the fence end it
abbrev pub EndsAt : Op → (Answer → Plan) → Type 0
EndsAt (op.Header image header.Get) next = (a : Answer) → EndsIt a → next a ≡ not_there a
EndsAt _ next = Unit {0}

-- So does each look at a header, and behind it the plan waits for the lock, or waits for none any
-- more and looks at that header no more. Where it has waited for the lock of an image, it looks at
-- its header first.
abbrev pub LooksWell : Plan → Type 0
LooksWell (Ask site why o next) = EndsAt o next × ((a : Answer) → LookedIf site o (next a) × LooksWell (next a))
LooksWell (Await (wait.Hold site image) next) = LooksAtItFirst site image next × LooksWell next
LooksWell (Await w next) = LooksWell next
LooksWell (Note site image event next) = LooksWell next
LooksWell (Return r) = Unit {0}
LooksWell (Goto label) = Unit {0}

pub once_of : (p : Plan) → LooksWell p → LooksOnce p
once_of (Ask site why o next) well = λ a. ((well.1 a).0, once_of (next a) (well.1 a).1)
once_of (Await (wait.Hold site image) next) well = (well.0, once_of next well.1)
once_of (Await (wait.Join site image sharing) next) well = once_of next well
once_of (Await (wait.Turn object) next) well = once_of next well
once_of (Await (wait.Applied site image) next) well = once_of next well
once_of (Await (wait.Leave site image) next) well = once_of next well
once_of (Note site image event next) well = once_of next well
once_of (Return r) well = tt
once_of (Goto label) well = tt

-- behind a wait
pub well_behind : (w : Wait) (next : Plan) → LooksWell (Await w next) → LooksWell next
well_behind (wait.Hold site image) next well = well.1
well_behind (wait.Join site image sharing) next well = well
well_behind (wait.Turn object) next well = well
well_behind (wait.Applied site image) next well = well
well_behind (wait.Leave site image) next well = well

-- ---- who looks at none

-- another operation is no look
pub no_look_ends : (o : Op) (next : Answer → Plan) → IsNoLook o → EndsAt o next
no_look_ends (op.Header image header.Get) next no_look = absurd no_look
no_look_ends o next no_look = tt

if_none : (site : SiteId) (o : Op) (p : Plan) → IsNoLook o → LookedIf site o p
if_none site (op.Header image header.Get) p none = absurd none
if_none site (op.Header image o) p none = tt
if_none site o p none = tt

-- it looks at no other header first
none_first : (site : SiteId) (image : ℕ) (p : Plan) → LooksNoMore p → LooksAtItFirst site image p
none_first site image (Ask s why (op.Header i header.Get) next) none = absurd none.0
none_first site image (Ask s why (op.Header i o) next) none = λ a. none_first site image (next a) (none.1 a)
none_first site image (Ask s why o next) none = λ a. none_first site image (next a) (none.1 a)
none_first site image (Await w next) none = none_first site image next none
none_first site image (Note s i event next) none = none_first site image next none
none_first site image (Return r) none = tt
none_first site image (Goto label) none = absurd none

pub at_none : (p : Plan) → LooksNoMore p → LooksWell p
at_none (Ask site why o next) none = (no_look_ends o next none.0, λ a. (if_none site o (next a) none.0, at_none (next a) (none.1 a)))
at_none (Await (wait.Hold site image) next) none = (none_first site image next none, at_none next none)
at_none (Await (wait.Join site image sharing) next) none = at_none next none
at_none (Await (wait.Turn object) next) none = at_none next none
at_none (Await (wait.Applied site image) next) none = at_none next none
at_none (Await (wait.Leave site image) next) none = at_none next none
at_none (Note site image event next) none = at_none next none
at_none (Return r) none = tt
at_none (Goto label) none = absurd none

-- ---- steps

pub header_ends : (next : HeaderView → Plan) (a : Answer) → EndsIt a → on_header next a ≡ not_there a
header_ends next answer.Absent ends = refl
header_ends next answer.Fenced ends = refl
header_ends next _ ends = absurd ends
