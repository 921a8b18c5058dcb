-- Who sets no state and removes no object owes nothing, by the row of its command.
use Rattle.std.proofs.Common.{◌≡◌, Bool, true, false, Some, None, refl, sym, subst}
use Rattle.std.proofs.lemmas.Bool.{true≢false}
use Rattle.rbd_kinds.specs.declared.answer.Answer.{Answer}
use Rattle.rbd_kinds.specs.declared.answer.Answer.TheVariants as answer
use Rattle.rbd_kinds.specs.declared.data_op.DataOp.TheVariants as object
use Rattle.rbd_kinds.specs.declared.id.SiteId.{SiteId}
use Rattle.rbd_kinds.specs.declared.map_op.MapOp.TheVariants as states
use Rattle.rbd_kinds.specs.declared.operation.Op.{Op}
use Rattle.rbd_kinds.specs.declared.operation.Op.TheVariants as op
use Rattle.rbd_kinds.specs.declared.operation_kind.OpKind.{OpKind}
use Rattle.rbd_kinds.specs.declared.operation_kind.OpKind.TheVariants as kind
use Rattle.rbd_kinds.specs.OperationKind.{kind_of}
use Rattle.rbd_machine.specs.Plan.{Plan, Ask, Await, Note, Return, Goto, Standing}
use Rattle.rbd_catalog.specs.Follows.{Follows, FollowsFrom, Outside, Noted, Progress, behind}
use Rattle.rbd_catalog.specs.Profile.{Profile, has_none_of}
use Rattle.rbd_catalog.proofs.Consequences.{is_none}
use Rattle.rbd_interference.specs.Owed.{PaysFrom, PaysItsStates, RemovesWhole, owed_by}
use Rattle.rbd_interference.proofs.PaysSteps.{Pays}

-- It sets a state, behind which an object may be owed, or removes an object.
abbrev pub is_owing : OpKind → Bool
is_owing kind.MapSet = true
is_owing kind.DataRemove = true
is_owing k = false

pub owes_none : (site : SiteId) (o : Op) (a : Answer) → is_owing (kind_of o) ≡ false → owed_by None site o a ≡ None
owes_none site (op.Map image (states.Set None object state)) a other = absurd (true≢false other)
owes_none site (op.Map image (states.Set (Some snap) object state)) a other = absurd (true≢false other)
owes_none site (op.Map image _) a other = refl
owes_none site o a other = refl

pub removes_none : (site : SiteId) (o : Op) (next : Plan) → is_owing (kind_of o) ≡ false → RemovesWhole site o next
removes_none site (op.Data image number (object.Remove context)) next other = absurd (true≢false other)
removes_none site (op.Data image number _) next other = tt
removes_none site o next other = tt

module _ (p : Profile) (none : has_none_of is_owing p ≡ true) where
  row_pays : (at : Progress) (plan : Plan) → Follows p at plan → Pays plan
  row_pays at (Ask site why o next) (may, follows) =
      let other = is_none is_owing p.kinds none (kind_of o) may.kind in (
        removes_none site o (next answer.Done) other,
        λ a given told. subst (λ owed. PaysItsStates owed (next a)) (sym (owes_none site o a other)) (row_pays at (next a) (follows a)),
      )
  row_pays at (Await wait next) (waits, follows) = row_pays (behind at wait) next follows
  row_pays at (Note site image event next) (held, notes, follows) = row_pays Noted next follows
  row_pays at (Return reply) ends = tt
  row_pays at (Goto label) begins = tt

  pub pays_by_row : (s : Standing) → FollowsFrom p s → PaysFrom None s
  pays_by_row s from = record { plan = row_pays Outside s.plan from.plan; labels = λ label. row_pays Outside (s.labels label) (from.labels label) }
