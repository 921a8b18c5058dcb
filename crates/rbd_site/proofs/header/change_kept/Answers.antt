use Rattle.std.proofs.Common.{Some, option_map, ap, ◌∙◌, rules}
use Rattle.rbd_kinds.specs.declared.header.HeaderView.{HeaderView}
use Rattle.rbd_site.specs.HeaderStep.{header_then}
use Rattle.rbd_site.specs.Maps.{header_in}
use Rattle.rbd_site.proofs.OneChange.{header_put, header_same}
use Rattle.rbd_site.proofs.header.change_kept.Goals as goal
use Rattle.rbd_kinds.proofs.Results.{on_err_always}

pub returns-in_err-change_and_share-clause-err : goal.returns-in_err-change_and_share-clause-err
returns-in_err-change_and_share-clause-err c =
    on_err_always c.from_residual.result (λ i.
    header_same c.args.headers.now (c.get_mut.follows.lender c.change_and_share.new.header) c.args.image (Some c.change_and_share.new.header)
    (((c.get_mut.follows.holds c.change_and_share.new.header).3 (search rules)).0)
    (ap Some c.in_err-change_and_share.ensures.err ∙ c.in-Some.ensures.value) i)

pub returns-clause-ok : goal.returns-clause-ok
returns-clause-ok c = λ i.
    header_put c.args.headers.now (c.get_mut.follows.lender c.change_and_share.new.header) c.args.image (Some c.change_and_share.new.header)
    (option_map (λ (h : HeaderView). header_then c.args.instance h c.args.op.now) (header_in c.args.headers.now c.args.image))
    (((c.get_mut.follows.holds c.change_and_share.new.header).3 (search rules)).0)
    (ap Some c.in_ok-change_and_share.ensures.ok ∙ ap (option_map (λ (h : HeaderView). header_then c.args.instance h c.args.op.now)) c.in-Some.ensures.value)
    i
