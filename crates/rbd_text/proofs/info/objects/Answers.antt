use Rattle.rbd_text.proofs.Counted.{counted}
use Rattle.rbd_text.proofs.info.objects.Goals as goal

pub returns : goal.returns
returns c = counted c.args.layout.now c.args.size c.objects.result c.objects.ensures.count
