-- What a site answers is possible by what its asker truly knows.
use Rattle.std.proofs.Common.{◌≡◌, ℕ, cond, Bool, true, false, Option, Some, None, refl, subst}
use Rattle.std.specs.Prelude.{IfSome, IsFalse}
use Rattle.rbd_kinds.specs.declared.answer.Answer.TheVariants as answer
use Rattle.rbd_kinds.specs.declared.header.HeaderView.{HeaderView}
use Rattle.rbd_kinds.specs.declared.header_op.HeaderOp.TheVariants as header
use Rattle.rbd_kinds.specs.declared.id.Instance.{Instance}
use Rattle.rbd_kinds.specs.declared.id.SiteId.{SiteId}
use Rattle.rbd_kinds.specs.declared.operation.Op.{Op}
use Rattle.rbd_kinds.specs.declared.operation.Op.TheVariants as op
use Rattle.rbd_machine.specs.Knowledge.{Knowledge, Own, own_of}
use Rattle.rbd_machine.specs.Possible.{IsOwnAgain, IsPossible, IsStillAs}
use Rattle.rbd_site.specs.HeaderStep.{header_answer}
use Rattle.rbd_site.specs.Records.{Records}
use Rattle.rbd_site.specs.Step.{answer_to, is_fenced}
use Rattle.rbd_interference.specs.Truth.{IsStill, IsStillOwn, IsTrueAt}

-- the header of an own image is told as it is there
again : (own : Option Own) (h : HeaderView) → IsStillOwn own (Some h) → IsOwnAgain own h
again None h still = tt
again (Some own) h still = by own.header still
  where
    by : (known : Option HeaderView) → IsStill own.sharing known (Some h) → IfSome known (λ was. IsStillAs own.sharing was h)
    by None still = tt
    by (Some was) still = still

module _ (site : SiteId) (r : Records) (me : Instance) (k : Knowledge) (truth : IsTrueAt site r me k) where
  look_possible : (image : ℕ) (h : HeaderView) → IsFalse (is_fenced r me) → r.headers image ≡ Some h → IsPossible k site (op.Header image header.Get) (answer.Header h)
  look_possible image h free there = (
    λ was among. (truth.seen image was among).later h there,
    again (own_of k.owns site image) h (subst (IsStillOwn (own_of k.owns site image)) there (truth.owned free image)),
  )

  -- who is fenced is told so, and only a look tells a header
  pub answer_possible : (o : Op) → IsPossible k site o (answer_to r me o)
  answer_possible (op.Header image header.Get) = by (is_fenced r me) refl (r.headers image) refl
    where
      by : (fenced : Bool) → is_fenced r me ≡ fenced → (there : Option HeaderView) → r.headers image ≡ there
          → IsPossible k site (op.Header image header.Get) (cond fenced answer.Fenced (header_answer me there (r.watchers image) header.Get))
      by true is there at = tt
      by false free None at = tt
      by false free (Some h) at = look_possible image h free at
  answer_possible _ = tt
