use Rattle.std.proofs.Common.{subst}
use Rattle.rbd_machine.specs.Answers.{IsHeaderToldInForm}
use Rattle.rbd_data.proofs.Looks.{ends_early}
use Rattle.rbd_data.proofs.read.ReadRequest.look.Goals as goal

pub new-looked-requires-clause-end : goal.new-looked-requires-clause-end
new-looked-requires-clause-end c =
    ends_early c.in-Ok.header.now c.args.self.now.snap c.in-Ok-view._view c.args.self.now.extent
    (subst IsHeaderToldInForm c.in-Ok.ensures.told c.requires.form) c.in-Ok-view.ensures.view c.in-Ok-view.ensures.fits
