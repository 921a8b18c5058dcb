use Rattle.std.proofs.Common.{ap}
use Rattle.rbd_kinds.specs.declared.journal.JournalEvent.TheVariants as event
use Rattle.rbd_machine.specs.Plan.{Note}
use Rattle.rbd_machine.specs.Steps.{applied}
use Rattle.rbd_meaning.proofs.Counts.{counts, size_is_few}
use Rattle.rbd_meaning.specs.Count.{object_count}
use Rattle.rbd_image.proofs.resize.SizeChangeChange.part.Goals as goal

pub new-requires-clause-few : goal.new-requires-clause-few
new-requires-clause-few c = size_is_few c.args.self.now.to c.args.header.now c.requires.form.layout c.requires.may

pub returns : goal.returns
returns c =
    let a = c.args in
    let h = a.header.now in
    let to = a.self.now.to in
    ap (Note a.site a.image (event.Resize to)) (c.in_ok-new.ensures (object_count h.layout to) (applied a.site a.image) (counts h.layout to c.requires.form.layout))
