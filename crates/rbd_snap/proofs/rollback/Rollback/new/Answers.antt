use Rattle.std.proofs.Common.{ap, ◌∙◌}
use Rattle.rbd_pieces.specs.Size.{resize}
use Rattle.rbd_meaning.specs.Count.{object_count}
use Rattle.rbd_snap.specs.Restore.{rest_of_some}
use Rattle.rbd_meaning.proofs.Counts.{counts}
use Rattle.rbd_snap.proofs.rollback.Rollback.new.Goals as goal

pub returns : goal.returns
returns c = λ next.
    let a = c.args in
    let h = a.header.now in
    let listed = a.listed.now in
    let count = object_count h.layout listed.size in
    c.in_ok-size.ensures count (rest_of_some c.in_ok-objects.objects next) (counts h.layout listed.size c.requires.form.layout)
    ∙ ap (resize a.site a.image h listed.size count) (c.in_ok-objects.ensures next)
