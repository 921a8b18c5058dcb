-- What two requests of two instances may know at the same time.
use Rattle.std.specs.Prelude.{◌≡◌, ℕ, zero, suc, true, false, None, IsSome, IsFalse}
use Rattle.rbd_kinds.specs.Sharing.{go_together}
use Rattle.rbd_kinds.specs.declared.data_op.DataOp.{DataOp}
use Rattle.rbd_kinds.specs.declared.data_op.DataOp.TheVariants as object
use Rattle.rbd_kinds.specs.declared.id.Instance.{Instance}
use Rattle.rbd_kinds.specs.declared.id.SiteId.{SiteId}
use Rattle.rbd_kinds.specs.declared.header_op.HeaderOp.TheVariants as header
use Rattle.rbd_kinds.specs.declared.map_op.MapOp.TheVariants as states
use Rattle.rbd_kinds.specs.declared.operation.Op.{Op}
use Rattle.rbd_kinds.specs.declared.operation.Op.TheVariants as op
use Rattle.rbd_machine.specs.Knowledge.{Knowledge, own_of, is_drawn, is_gone}
use Rattle.rbd_interference.specs.Ancestors.{DrewNoneOf}
use Rattle.rbd_interference.specs.Truth.{known_header, sharing_on, AreBasedElsewhere}
use Rattle.rbd_interference.specs.Turns.{KnowsAbsent, KnowsRaised, KnowsThere}
use Rattle.rbd_site.specs.Records.{Records}
use Rattle.rbd_site.specs.Step.{is_fenced}
use Rattle.rbd_stands.specs.Owned.{HasLock}

-- the two requests may be past their looks under the lock of an image at once
abbrev pub GoTogether : SiteId → (image : ℕ) → (k j : Knowledge) → Type 0
GoTogether site image k j = go_together (sharing_on k site image) (sharing_on j site image) ≡ true

-- neither instance is fenced
abbrev pub AreUnfenced : Records → (me you : Instance) → Type 0
AreUnfenced r me you = IsFalse (is_fenced r me) × IsFalse (is_fenced r you)

-- Where both requests know the header of an image, after their looks under the lock, they go
-- together on it: neither is alone, and neither is a flatten where the other is one or a discard.
-- What a fenced instance knows of headers doesn't count: it does nothing by them. No id was drawn by
-- both; none was drawn by one whose header the other removed, or was told; and no header was removed
-- by both. And no child of one is based on a snapshot of which the other, where it isn't fenced,
-- knows that it has none.
pub record AreBeside (site : SiteId) (r : Records) (me you : Instance) (k j : Knowledge) : Type 0 where
  pub shared : AreUnfenced r me you → (image : ℕ) → IsSome (known_header k site image)
      → IsSome (known_header j site image) → GoTogether site image k j
  pub apart : (image : ℕ) → is_drawn k.drawn site image ≡ true → is_drawn j.drawn site image ≡ false
  pub gone : (image : ℕ) → is_gone k.gone site image ≡ true → is_drawn j.drawn site image ≡ false
  pub gone_there : (image : ℕ) → is_gone j.gone site image ≡ true → is_drawn k.drawn site image ≡ false
  pub removed : (image : ℕ) → is_gone k.gone site image ≡ true → is_gone j.gone site image ≡ false
  pub unseen : DrewNoneOf site k.seen j
  pub unseen_there : DrewNoneOf site j.seen k
  pub unbased : IsFalse (is_fenced r you) → AreBasedElsewhere site k j
  pub unbased_there : IsFalse (is_fenced r me) → AreBasedElsewhere site j k

-- Where one request waited for the lock of an image, and the other knows its header, they go
-- together.
abbrev pub SharesLock : SiteId → (image : ℕ) → Records → (me you : Instance) → (k j : Knowledge) → Type 0
SharesLock site image r me you k j = AreUnfenced r me you → IsSome (own_of k.owns site image)
    → IsSome (known_header j site image) → GoTogether site image k j

-- What an operation on an object may make untrue that another request knows: a removal, that the
-- object is there; what writes bytes, or leaves the object without any, that it isn't there, or
-- that places of it are zeros. No other operation does anything to that.
abbrev pub Breaks : DataOp → Knowledge → SiteId → (image object : ℕ) → Type 0
Breaks (object.Read snap parts) k site image number = ⊥
Breaks (object.Zero context must parts) k site image number = ⊥
Breaks (object.Remove context) k site image number = KnowsThere k site image number
Breaks o k site image number = KnowsAbsent k site image number

-- and a state that is set in the head's map: one of 0, that the state was raised
abbrev pub Lowers : (state : ℕ) → Knowledge → SiteId → (image object : ℕ) → Type 0
Lowers zero k site image object = KnowsRaised k site image object
Lowers (suc state) k site image object = ⊥

-- Where both know the header of an image, the other one knows nothing that the one makes untrue.
abbrev pub BreaksNothing : SiteId → (image : ℕ) → Records → (me you : Instance) → (k j : Knowledge)
    → (broken : Type 0) → Type 0
BreaksNothing site image r me you k j broken = AreUnfenced r me you → IsSome (known_header k site image)
    → IsSome (known_header j site image) → broken → ⊥

-- What one request may do beside another. It may look at the header of an image whose lock it
-- waited for only where the other knows no header there, or the two go together. So it is with the
-- drop of a lock that is its own: nobody of its client may rely on a header meanwhile. It may
-- change an object, or its state, only where that breaks nothing which the other knows: it has its
-- turn there, which the other had before or waits for, or the other goes beside none that breaks
-- it. The line of a session and the lock see to all of that.
abbrev pub MayAct : SiteId → Records → (me you : Instance) → (k j : Knowledge) → Op → Type 0
MayAct site r me you k j (op.Header image header.Get) = SharesLock site image r me you k j
MayAct site r me you k j (op.Header image header.LockDrop) = HasLock image me r → SharesLock site image r me you k j
MayAct site r me you k j (op.Data image number o) = BreaksNothing site image r me you k j (Breaks o j site image number)
MayAct site r me you k j (op.Map image (states.Set None number state)) =
    BreaksNothing site image r me you k j (Lowers state j site image number)
MayAct site r me you k j o = Unit {0}
