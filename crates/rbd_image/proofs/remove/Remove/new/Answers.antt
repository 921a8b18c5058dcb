use Rattle.rbd_image.proofs.RemovalsMade.{outlined}
use Rattle.rbd_image.proofs.remove.Remove.new.Goals as goal

pub returns : goal.returns
returns c = λ next. outlined c.args.site c.args.image c.args.header.now c.in_ok-new.field-0 next c.in_ok-new.ensures
