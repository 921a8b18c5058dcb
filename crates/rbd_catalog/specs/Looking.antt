-- Where a request looks at a header: what isn't a read waits for the lock next, or for none any
-- more, and then it looks at that header no more either.
use Rattle.std.specs.Prelude.{◌≡◌, ℕ}
use Rattle.rbd_kinds.specs.declared.answer.Answer.{Answer}
use Rattle.rbd_kinds.specs.declared.header_op.HeaderOp.TheVariants as header
use Rattle.rbd_kinds.specs.declared.id.SiteId.{SiteId}
use Rattle.rbd_kinds.specs.declared.operation.Op.{Op}
use Rattle.rbd_kinds.specs.declared.operation.Op.TheVariants as op
use Rattle.rbd_machine.specs.Answers.{CanGive}
use Rattle.rbd_machine.specs.Label as label
use Rattle.rbd_machine.specs.Plan.{Plan, Ask, Await, Note, Return, Goto}
use Rattle.rbd_machine.specs.Wait as wait
pub use Rattle.rbd_data.specs.Read.{is_read}
use Rattle.rbd_catalog.specs.NoLooks.{IsNoLook}

-- Whatever it is answered, it looks at no header any more.
abbrev pub LooksNoMore : Plan → Type 0
LooksNoMore (Ask site why o next) = IsNoLook o × ((a : Answer) → LooksNoMore (next a))
LooksNoMore (Await wait next) = LooksNoMore next
LooksNoMore (Note site image event next) = LooksNoMore next
LooksNoMore (Return r) = Unit {0}
LooksNoMore (Goto label) = ⊥

-- Whatever it is answered, it waits for no lock any more: it is past its look under the lock, and
-- so is each piece that it begins again.
abbrev pub HoldsNoMore : Plan → Type 0
HoldsNoMore (Ask site why o next) = (a : Answer) → HoldsNoMore (next a)
HoldsNoMore (Await (wait.Hold site image) next) = ⊥
HoldsNoMore (Await w next) = HoldsNoMore next
HoldsNoMore (Note site image event next) = HoldsNoMore next
HoldsNoMore (Return r) = Unit {0}
HoldsNoMore (Goto (label.Piece site image h bits number)) = Unit {0}
HoldsNoMore (Goto label) = ⊥

-- The first header that it looks at is that of the image.
abbrev pub LooksAtItFirst : SiteId → (image : ℕ) → Plan → Type 0
LooksAtItFirst site image (Ask s why (op.Header i header.Get) next) = (s ≡ site) × (i ≡ image)
LooksAtItFirst site image (Ask s why o next) = (a : Answer) → LooksAtItFirst site image (next a)
LooksAtItFirst site image (Await w next) = LooksAtItFirst site image next
LooksAtItFirst site image (Note s i event next) = LooksAtItFirst site image next
LooksAtItFirst site image (Return r) = Unit {0}
LooksAtItFirst site image (Goto label) = ⊥

-- it is no look at the header of the image: what it looks at is another's
abbrev pub IsLookElsewhere : SiteId → (image : ℕ) → SiteId → Op → Type 0
IsLookElsewhere site image s (op.Header i header.Get) = s ≡ site → i ≡ image → ⊥
IsLookElsewhere site image s o = Unit {0}

-- Whatever it is answered, it looks at the header of the image no more, and neither does a piece
-- that it begins again: what it still looks at are others', those of ancestors.
abbrev pub LooksAtItNoMore : SiteId → (image : ℕ) → Plan → Type 0
LooksAtItNoMore site image (Ask s why o next) = IsLookElsewhere site image s o × ((a : Answer) → LooksAtItNoMore site image (next a))
LooksAtItNoMore site image (Await w next) = LooksAtItNoMore site image next
LooksAtItNoMore site image (Note s i event next) = LooksAtItNoMore site image next
LooksAtItNoMore site image (Return r) = Unit {0}
LooksAtItNoMore site image (Goto (label.Piece s i h bits number)) = Unit {0}
LooksAtItNoMore site image (Goto label) = ⊥

-- It waits for the lock of its image next, or behind an operation that can be answered so.
abbrev pub HoldsNext : Plan → Type 0
HoldsNext (Await (wait.Hold site image) next) = Unit {0}
HoldsNext (Ask site why o next) = (a : Answer) × (CanGive o a × HoldsNext (next a))
HoldsNext _ = ⊥

-- what comes behind a look at the header of the image
pub data Looked (site : SiteId) (image : ℕ) (p : Plan) : Type 0 where
  Holds : HoldsNext p → Looked site image p
  IsLast : HoldsNoMore p → LooksAtItNoMore site image p → Looked site image p

abbrev pub LookedIf : SiteId → Op → Plan → Type 0
LookedIf site (op.Header image header.Get) p = Looked site image p
LookedIf site o p = Unit {0}

-- Behind each look at a header it waits for the lock, or waits for none any more and looks at that
-- header no more. Where it has waited for the lock of an image, it looks at the header of that
-- image first.
abbrev pub LooksOnce : Plan → Type 0
LooksOnce (Ask site why o next) = (a : Answer) → LookedIf site o (next a) × LooksOnce (next a)
LooksOnce (Await (wait.Hold site image) next) = LooksAtItFirst site image next × LooksOnce next
LooksOnce (Await w next) = LooksOnce next
LooksOnce (Note site image event next) = LooksOnce next
LooksOnce (Return r) = Unit {0}
LooksOnce (Goto label) = Unit {0}
