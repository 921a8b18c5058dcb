use Rattle.std.proofs.Common.{◌∙◌, ap}
use Rattle.std.specs.List.{slice_get}
use Rattle.rbd_lock.proofs.Keys.{first_in_range, first_of_filter, told_first}
use Rattle.rbd_lock.proofs.asked.first_behind.Goals as goal

pub returns : goal.returns
returns c =
    c.copied.ensures
    ∙ told_first c.next.result c.range-behind.result c.next.new.self c.next.ensures.steps
    ∙ ap (λ ks. slice_get ks 0) (c.range-behind.ensures.between tt)
    ∙ first_of_filter _ c.args.asked.now.keys
    ∙ first_in_range c.args.before.now c.args.asked.now.keys
