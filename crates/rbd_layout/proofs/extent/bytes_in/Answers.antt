use Rattle.std.proofs.Common.{◌-◌, ◌+◌, arith, sym, ap, ◌∙◌, length}
use Rattle.std.proofs.lemmas.List.FromFn.{length-map-range_with_len}
use Rattle.rbd_kinds.specs.Striping.{byte_at}
use Rattle.rbd_layout.proofs.Cover.{cover, held_mono}
use Rattle.rbd_layout.proofs.extent.bytes_in.Goals as goal

pub overflow_sub-result : goal.overflow_sub-result
overflow_sub-result c =
    held_mono c.args.layout.now c.requires.layout c.args.object c.args.extent.now.at (c.args.extent.now.at + c.args.extent.now.len) c.held-2.result c.held.result (omega arith) c.held-2.ensures.held c.held.ensures.held

pub returns : goal.returns
returns c =
    let l = c.args.layout.now in
    let e = c.args.extent.now in
    sym (ap length (cover l c.requires.layout c.args.object e.at e.len c.held-2.result c.held.result c.held-2.ensures.held c.held.ensures.held)
    ∙ length-map-range_with_len (byte_at l c.args.object) c.held-2.result (c.held.result - c.held-2.result))
