use Rattle.std.proofs.Common.{Some, ap, ◌∙◌, rules}
use Rattle.rbd_site.specs.DataStep.{data_after}
use Rattle.rbd_site.specs.Maps.{object_in}
use Rattle.rbd_site.proofs.OneChange.{object_put, object_same, done_or_same}
use Rattle.rbd_site.proofs.data.change.Goals as goal
use Rattle.rbd_kinds.proofs.Results.{on_err_always}

pub returns-in_err-_done-clause-err : goal.returns-in_err-_done-clause-err
returns-in_err-_done-clause-err c =
    on_err_always c.from_residual.result (λ image number.
    object_same c.args.objects.now (c.get_mut.follows.lender c.change_of.new.object) c.args.key (Some c.change_of.new.object)
    (((c.get_mut.follows.holds c.change_of.new.object).3 (search rules)).0)
    (ap Some c.in_err-_done.ensures.err ∙ c.in-Some.ensures.value) image number)

pub returns-clause-ok : goal.returns-clause-ok
returns-clause-ok c = λ image number.
    object_put c.args.objects.now (c.get_mut.follows.lender c.change_of.new.object) c.args.key (Some c.change_of.new.object)
    (data_after (object_in c.args.objects.now c.args.key.image c.args.key.number) c.args.op.now)
    (((c.get_mut.follows.holds c.change_of.new.object).3 (search rules)).0)
    (done_or_same c.in_ok-_done._done c.in-Some.object.now c.change_of.new.object (data_after (Some c.in-Some.object.now) c.args.op.now)
    (c.in_ok-_done.ensures.ok (Some c.in-Some.object.now)) c.in_ok-_done.ensures.same
    ∙ ap (λ o. data_after o c.args.op.now) c.in-Some.ensures.value)
    image number
