use Rattle.rbd_replies.proofs.HeadersShown.{world_in_form}
use Rattle.rbd_replies.proofs.laws.shown_headers_are_in_form.Goals as goal

pub returns : goal.returns
returns c = world_in_form
