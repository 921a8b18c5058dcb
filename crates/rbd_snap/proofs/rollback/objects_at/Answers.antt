use Rattle.std.proofs.Common.{◌≡◌, sym, subst, IfOk}
use Rattle.rbd_kinds.specs.Form.{IsHeaderInForm}
use Rattle.rbd_machine.specs.Plan.{Plan}
use Rattle.rbd_snap.specs.Restore.{rest_of_some}
use Rattle.rbd_snap.specs.Rollback.{restore_all}
use Rattle.rbd_snap.proofs.Rolled.{sized_in_form}
use Rattle.rbd_snap.proofs.rollback.objects_at.Goals as goal

pub new-requires : goal.new-requires
new-requires c = subst IsHeaderInForm (sym c.in_ok-head.ensures) (sized_in_form c.args.header.now c.args.listed.now.size c.requires.form c.requires.listed.objects)

pub returns : goal.returns
returns c =
    let a = c.args in
    subst (λ head. IfOk c.new.result (λ made. (next : Plan) → rest_of_some made next ≡ restore_all a.site a.image head a.listed.now.id next)) c.in_ok-head.ensures c.new.ensures
