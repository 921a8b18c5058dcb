use Rattle.rbd_watch.proofs.Numbers.{length_notices}
use Rattle.rbd_watch.proofs.laws.one_notice_for_each.Goals as goal

pub returns : goal.returns
returns c = λ number image site from receivers kind. length_notices site image from kind number receivers
