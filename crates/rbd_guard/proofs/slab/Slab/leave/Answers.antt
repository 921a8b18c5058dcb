use Rattle.std.proofs.Common.{◌+◌, Some, ap, sym, ◌∙◌, rules}
use Rattle.std.specs.Option.{is_some}
use Rattle.rbd_guard.proofs.Chained.{few_free, more_free}
use Rattle.rbd_guard.proofs.slab.Slab.leave.Goals as goal

pub overflow_add-self : goal.overflow_add-self
overflow_add-self c =
    let few = few_free c.set_free.new.places.items (Some c.args.at) (c.self.inside.count + 1)
    (more_free c.self.inside.places.items c.self.inside.free c.self.inside.count c.self.invariant c.set_free.new.places.items c.args.at
    (ap is_some (sym c.place_at.ensures ∙ c.unwrap-place.ensures)) c.set_free.ensures.free) in
    let long = c.set_free.new.places.ok.0 in
    search rules

pub invariant_of-self : goal.invariant_of-self
invariant_of-self c =
    more_free c.self.inside.places.items c.self.inside.free c.self.inside.count c.self.invariant c.set_free.new.places.items c.args.at
    (ap is_some (sym c.place_at.ensures ∙ c.unwrap-place.ensures)) c.set_free.ensures.free
