-- What a request may be told, by what it knows. A header that it is told of an image is later than
-- each that it was told before; and where it waited for the image's lock, it is the one that it
-- knows.
use Rattle.std.specs.Prelude.{◌≡◌, ◌≢◌, ◌⊎◌, ℕ, List, Option, Some, None, IfSome}
use Rattle.rbd_kinds.specs.declared.answer.Answer.{Answer}
use Rattle.rbd_kinds.specs.declared.answer.Answer.TheVariants as answer
use Rattle.rbd_kinds.specs.declared.header.HeaderView.{HeaderView}
use Rattle.rbd_kinds.specs.declared.header_op.HeaderOp.TheVariants as header
use Rattle.rbd_kinds.specs.declared.id.SiteId.{SiteId}
use Rattle.rbd_kinds.specs.declared.machine.Fed.{Fed}
use Rattle.rbd_kinds.specs.declared.machine.Fed.TheVariants as fed
use Rattle.rbd_kinds.specs.declared.operation.Op.{Op}
use Rattle.rbd_kinds.specs.declared.operation.Op.TheVariants as op
use Rattle.rbd_kinds.specs.declared.sharing.Sharing.{Sharing}
use Rattle.rbd_kinds.specs.declared.sharing.Sharing.TheVariants.{Shared}
use Rattle.rbd_header.specs.Later.{IsLaterOf}
use Rattle.rbd_machine.specs.Ancestors.{HeaderSeen, IsAmong}
use Rattle.rbd_machine.specs.Knowledge.{Knowledge, Own, own_of}
use Rattle.rbd_machine.specs.Plan.{Plan, Ask}

-- The header that is there is the one that is known, but for the owner of its lock, which may have
-- changed. Of an image on which a request goes beside all that aren't alone, so beside a flatten
-- too, the parent may have gone, and with it the generation changed: but neither, as long as the
-- parent is the one that is known, be it none.
pub record IsStillAs (sharing : Sharing) (known there : HeaderView) : Type 0 where
  pub same : there ≡ record known { owner = there.owner; generation = there.generation; parent = there.parent }
  pub parent : (there.parent ≡ known.parent) ⊎ (there.parent ≡ None)
  pub exact : (sharing ≢ Shared) ⊎ (there.parent ≡ known.parent) → there ≡ record known { owner = there.owner }

-- so is one that is told, where a request waited for the lock and knows the header
abbrev pub IsOwnAgain : Option Own → HeaderView → Type 0
IsOwnAgain None h = Unit {0}
IsOwnAgain (Some own) h = IfSome own.header (λ known. IsStillAs own.sharing known h)

-- later than each header of the image that was told
abbrev pub IsLaterOfSeen : List HeaderSeen → SiteId → (image : ℕ) → HeaderView → Type 0
IsLaterOfSeen seen site image h = (was : HeaderView)
    → IsAmong (record { site = site; image = image; header = was }) seen → IsLaterOf was h

-- what an operation may be answered by a site, whatever the others did meanwhile
abbrev pub IsPossible : Knowledge → SiteId → Op → Answer → Type 0
IsPossible k site (op.Header image header.Get) (answer.Header h) = IsLaterOfSeen k.seen site image h
    × IsOwnAgain (own_of k.owns site image) h
IsPossible k site o a = Unit {0}

-- the same of what a request is fed, where its plan is
abbrev pub IsFedPossible : Knowledge → Plan → Fed → Type 0
IsFedPossible k (Ask site why o next) (fed.Answer a) = IsPossible k site o a
IsFedPossible k plan f = Unit {0}
