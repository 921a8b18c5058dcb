use Rattle.std.proofs.Common.{cond, Some, None, sym, ap, ◌∙◌}
use Rattle.rbd_object.specs.Mapped.{Mapped}
use Rattle.rbd_site.specs.DataStep.{blank_answer, data_change, where_object_done, data_after}
use Rattle.rbd_site.proofs.OneChange.{object_put}
use Rattle.rbd_site.proofs.data.begin.Goals as goal

pub returns-in_ok-insert-clause-ok : goal.returns-in_ok-insert-clause-ok
returns-in_ok-insert-clause-ok c = λ image number.
    object_put c.args.objects.now c.insert.new.self c.args.key (Some c.change_of.new.object) (data_after None c.args.op.now)
    c.in_ok-insert.ensures.updates.0
    (sym (ap (λ (o : Mapped). where_object_done (blank_answer o c.args.op.now) (data_change o c.args.op.now) None) (sym c.new-object.ensures)
    ∙ c.in_ok-change_of.ensures.ok None ∙ ap (λ done. cond done (Some c.change_of.new.object) None) c.if-branch.true))
    image number
