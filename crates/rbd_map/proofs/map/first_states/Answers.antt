use Rattle.std.proofs.Common.{◌-◌, ◌/◌, ◌%◌, ℕ, get_or, ap, ◌∙◌}
use Rattle.rbd_map.proofs.Packing.{all_listed, last_cut}
use Rattle.rbd_map.proofs.map.first_states.Goals as goal

pub returns-then-count-eq0 : goal.returns-then-count-eq0
returns-then-count-eq0 c =
    c.in_ok-bytes.ensures.items ∙ all_listed c.args.bits.now c.args.count (λ k. (c.type_inv.bits k).fits) c.requires c.if-count-eq0.true

pub returns : goal.returns
returns c =
    let last : ℕ = get_or c.args.bits.now (c.args.count / 4) 0 in
    rw c.in_ok-bytes.ensures.items
    (last_cut c.args.bits.now c.args.count (last - last % c.weight_of.result) (λ k. (c.type_inv.bits k).fits) c.requires c.if-count-eq0.false
    (ap (λ w. last - last % w) c.weight_of.ensures))
