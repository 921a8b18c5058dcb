use Rattle.std.proofs.Common.{ap, ◌∙◌, Some}
use Rattle.rbd_snap.specs.Restore.{Restoring, rest_of_restore}
use Rattle.rbd_snap.proofs.Restored.{readied_apart}
use Rattle.rbd_snap.proofs.restore.Restore.ready.Goals as goal

pub returns-in_ok-full-in-Bytes-clause-rest : goal.returns-in_ok-full-in-Bytes-clause-rest
returns-in_ok-full-in-Bytes-clause-rest c = λ next.
    let i = c.self.inside in
    let old : Restoring = record { site = i.site; image = i.image; header = i.header; snap = i.snap; piece = i.piece; others = i.others.items; stage = i.stage; readied = i.readied } in
    readied_apart i.stage old (Some c.in_ok-full-in-Bytes.field-0) next ∙ ap (λ (v : Restoring). rest_of_restore v next) c.self.view_is

pub returns-in_ok-zeros-in-Absent-clause-rest : goal.returns-in_ok-zeros-in-Absent-clause-rest
returns-in_ok-zeros-in-Absent-clause-rest c = λ next.
    let i = c.self.inside in
    let old : Restoring = record { site = i.site; image = i.image; header = i.header; snap = i.snap; piece = i.piece; others = i.others.items; stage = i.stage; readied = i.readied } in
    readied_apart i.stage old (Some c.in_ok-zeros-in-Absent.field-0) next ∙ ap (λ (v : Restoring). rest_of_restore v next) c.self.view_is
