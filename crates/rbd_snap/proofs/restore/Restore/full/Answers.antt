use Rattle.std.proofs.Common.{◌≡◌, subst, IfOk}
use Rattle.rbd_machine.specs.Plan.{Plan}
use Rattle.rbd_pieces.specs.Full.{full_piece, rest_of_full}
use Rattle.rbd_snap.specs.Restore.{Restoring}
use Rattle.rbd_snap.proofs.Restored.{first_object}
use Rattle.rbd_snap.proofs.restore.Restore.full.Goals as goal

pub under-requires-clause-head : goal.under-requires-clause-head
under-requires-clause-head c = (first_object c.self.inside.header c.self.inside.piece c.self.inside.others.items c.self.invariant.2).head

pub returns : goal.returns
returns c =
    let i = c.self.inside in
    subst (λ (v : Restoring). IfOk c.under.result (λ f. (next : Plan) → rest_of_full f next ≡ full_piece v.site v.image v.header v.piece c.args.bytes.now next)) c.self.view_is
    (subst (λ parts. IfOk c.under.result (λ f. (next : Plan) → rest_of_full f next ≡ full_piece i.site i.image i.header (record { object = i.piece.object; parts = parts }) c.args.bytes.now next)) c.in_ok-try_clone.ensures c.under.ensures)
