use Rattle.std.proofs.Common.{Some, ap, ◌∙◌, rules}
use Rattle.rbd_site.proofs.OneChange.{header_same}
use Rattle.rbd_site.proofs.header.share_list.Goals as goal

pub returns : goal.returns
returns c = λ i.
    header_same c.args.headers.now (c.get_mut.follows.lender c.share.new.self) c.args.image (Some c.share.new.self)
    (((c.get_mut.follows.holds c.share.new.self).3 (search rules)).0)
    (ap Some c.share.ensures ∙ c.in-Some.ensures.value) i
