use Rattle.rbd_stands.proofs.ExtentLemmas.{is_series}
use Rattle.rbd_stands.proofs.extents.series_from.Goals as goal

pub returns : goal.returns
returns c =
    rw c.from.ensures (is_series c.args.layout.now c.requires.layout c.args.object c.args.offset c.args.end c.image_byte-at.result c.run_from-len.result c.whole_units.result
    c.requires.some c.image_byte-at.ensures c.run_from-len.ensures c.whole_units.ensures)
