use Rattle.std.proofs.Common.{◌^◌, arith}
use Rattle.rbd_layout.proofs.Places.{back_fits}
use Rattle.rbd_stands.proofs.extents.image_byte.Goals as goal

pub overflow_mul-stripe : goal.overflow_mul-stripe
overflow_mul-stripe c =
    let fits = back_fits c.args.layout.now c.requires.layout c.args.object c.args.offset (2 ^ 63) c.requires.byte in
    rw c.from-count.ensures (omega (arith, fits.0))

pub overflow_add-stripe : goal.overflow_add-stripe
overflow_add-stripe c =
    let fits = back_fits c.args.layout.now c.requires.layout c.args.object c.args.offset (2 ^ 63) c.requires.byte in
    rw c.from-count.ensures (omega (arith, fits.0))

pub overflow_mul-block : goal.overflow_mul-block
overflow_mul-block c =
    let fits = back_fits c.args.layout.now c.requires.layout c.args.object c.args.offset (2 ^ 63) c.requires.byte in
    rw c.from-count.ensures (omega (arith, fits.1))

pub overflow_add-block : goal.overflow_add-block
overflow_add-block c =
    let fits = back_fits c.args.layout.now c.requires.layout c.args.object c.args.offset (2 ^ 63) c.requires.byte in
    rw c.from-count.ensures (omega (arith, fits.1))
