use Rattle.std.proofs.Common.{nat_eq, ◌-◌, ap, sym, subst, ◌∙◌}
use Rattle.std.specs.List.{slice_get}
use Rattle.rbd_guard.specs.Slab.{if_free, AreFree}
use Rattle.rbd_guard.proofs.Chained.{less_free, put_used_free}
use Rattle.rbd_guard.proofs.slab.Slab.enter.Goals as goal

pub invariant_of-self-2 : goal.invariant_of-self-2
invariant_of-self-2 c =
    subst (λ head. AreFree c.put.new.places.items head (c.self.inside.count - 1)) (sym c.next_free-self-inside.ensures)
    (less_free c.self.inside.places.items c.put.new.places.items c.in-Some.at c.self.inside.count
    (λ p. ap if_free (c.put.ensures.places p) ∙ put_used_free (nat_eq c.in-Some.at p) c.args.ticket (slice_get c.self.inside.places.items p) c.requires.used)
    (subst (λ head. AreFree c.self.inside.places.items head c.self.inside.count) c.in-Some.is c.self.invariant))
