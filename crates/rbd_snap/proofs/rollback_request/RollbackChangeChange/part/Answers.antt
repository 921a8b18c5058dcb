use Rattle.std.proofs.Common.{◌≡◌, Some, sym}
use Rattle.std.proofs.lemmas.Result.{IfOk-weaker}
use Rattle.rbd_kinds.specs.Header.{snap_named}
use Rattle.rbd_kinds.specs.declared.journal.JournalEvent.TheVariants as event
use Rattle.rbd_machine.specs.Plan.{Plan, Note}
use Rattle.rbd_machine.specs.Steps.{applied}
use Rattle.rbd_snap.specs.Rollback.{roll_back, roll_back_to}
use Rattle.rbd_snap.specs.Rolling.{rest_of_rollback}
use Rattle.rbd_snap.specs.declared.rollback.Rollback.{Rollback}
use Rattle.rbd_snap.proofs.Rolled.{named_in_form, rolled_by}
use Rattle.rbd_snap.proofs.rollback_request.RollbackChangeChange.part.Goals as goal

pub new-requires-clause-listed : goal.new-requires-clause-listed
new-requires-clause-listed c =
    let h = c.args.header.now in
    let snap = c.args.self.now.snap in
    let named : snap_named h.snaps snap ≡ Some c.in-Some.listed.now = sym c.in-Some.ensures in
    named_in_form h.layout h.snaps snap c.in-Some.listed.now c.requires.form.snaps named

pub returns : goal.returns
returns c =
    let a = c.args in
    let h = a.header.now in
    let snap = a.self.now.snap in
    let listed = c.in-Some.listed.now in
    let named : snap_named h.snaps snap ≡ Some listed = sym c.in-Some.ensures in
    IfOk-weaker c.new.result (λ (r : Rollback). (next : Plan) → rest_of_rollback r next ≡ roll_back a.site a.image h listed next)
    (λ (r : Rollback). Note a.site a.image (event.SnapRollback snap) (rest_of_rollback r (applied a.site a.image)) ≡ roll_back_to a.site snap a.image h)
    (λ r made. rolled_by a.site a.image snap h listed (rest_of_rollback r (applied a.site a.image)) named (made (applied a.site a.image))) c.new.ensures
