use Rattle.std.proofs.Common.{◌∙◌}
use Rattle.rbd_stands.proofs.ExtentLemmas.{pushed_next}
use Rattle.rbd_stands.proofs.extents.push_between.Goals as goal

pub loop-offset-preserved : goal.loop-offset-preserved
loop-offset-preserved c =
    pushed_next c.args.layout.now c.args.object c.loop-offset.offset c.args.end c.series_from-series.result c.loop-offset.found c.push.new.self
    c.series_from-series.ensures c.in_ok-push.ensures.ok ∙ c.loop-offset.invariant
