use Rattle.std.proofs.Common.{◌*◌, ◌/◌, ◌%◌, ◌-◌, ◌≤◌, arith}
use Rattle.rbd_layout.proofs.Limits.{shape_of}
use Rattle.rbd_stands.proofs.HeldLemmas.{some_held, none_held, own_most, stripes_most}
use Rattle.rbd_stands.proofs.held.held_below.Goals as goal

pub returns-then-stripe-units : goal.returns-then-stripe-units
returns-then-stripe-units c = none_held c.args.layout.now c.requires.layout c.args.object c.args.size (rw c.from-count.ensures at c.if-stripe-units.true)

pub overflow_add-result : goal.overflow_add-result
overflow_add-result c =
    let l = c.args.layout.now in
    let s = shape_of l c.requires.layout in
    let own : c.held_in_stripe.result ≤ l.unit = rw c.held_in_stripe.ensures (own_most l c.requires.layout (c.args.object % c.from-count.result) (c.args.size / l.unit % c.from-count.result) c.args.size) in
    let most : (c.args.size / l.unit / c.from-count.result - c.args.object / c.from-count.result * (l.object / l.unit)) * l.unit ≤ c.args.size = stripes_most c.args.size l.unit c.from-count.result (c.args.object / c.from-count.result * (l.object / l.unit)) in
    omega (arith, s.object_most, s.unit_most)

pub returns : goal.returns
returns c = rw (c.held_in_stripe.ensures, c.from-count.ensures) (some_held c.args.layout.now c.requires.layout c.args.object c.args.size (rw c.from-count.ensures at c.if-stripe-units.false))
