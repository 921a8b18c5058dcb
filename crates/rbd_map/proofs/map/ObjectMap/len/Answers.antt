use Rattle.std.proofs.Common.{sym, ap, length, ◌∙◌}
use Rattle.rbd_map.proofs.Packing.{length-states_of}
use Rattle.rbd_map.proofs.map.ObjectMap.len.Goals as goal

pub returns : goal.returns
returns c = sym (length-states_of c.self.inside.bytes.items c.self.inside.count) ∙ ap length c.self.view_is
