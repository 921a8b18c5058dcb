use Rattle.std.proofs.Common.{◌∙◌, false, cond, sym, ap}
use Rattle.rbd_kinds.specs.Images.{is_at}
use Rattle.rbd_lock.specs.Places.{is_among}
use Rattle.rbd_lock.proofs.Keys.{updated}
use Rattle.rbd_lock.proofs.asked.keep.Goals as goal

pub returns-then-not-stays-clause-among : goal.returns-then-not-stays-clause-among
returns-then-not-stays-clause-among c = λ site image.
    let at = c.args.at.now in
    updated c.args.asked.now.keys c.remove.new.self.keys at.site at.image false c.remove.ensures.updates.0 site image
    ∙ ap (λ b. cond (is_at at.site at.image site image) b (is_among site image c.args.asked.now.keys)) (sym c.if-not-stays.true)
