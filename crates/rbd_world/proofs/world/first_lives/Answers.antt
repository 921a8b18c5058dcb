use Rattle.std.proofs.Common.{◌+◌, sym, subst, ◌∙◌, arith}
use Rattle.std.proofs.lemmas.Option.{get_or_from_slice_get}
use Rattle.rbd_kinds.specs.declared.id.SiteId.TheVariants as site
use Rattle.rbd_world.proofs.FirstClients.{AreMade, IsAt, all_at_home, all_first, none_made, one_made}
use Rattle.rbd_world.proofs.world.first_lives.Goals as goal

pub loop-number-init : goal.loop-number-init
loop-number-init g c = subst (AreMade c.args.homes.now 0) (sym c.new-lives.ensures.items) (none_made c.args.homes.now)

made_at : (g : _) (c : goal.In_ok-push-in-Ok g) → IsAt c.args.homes.now c.loop-number.number c.in-Ok.life
made_at g c = record {
  home = λ home is. c.in-Ok.ensures.home ∙ get_or_from_slice_get c.args.homes.now c.loop-number.number home site.A is;
  first = c.in-Ok.ensures.first;
}

pub loop-number-preserved : goal.loop-number-preserved
loop-number-preserved g c =
    subst (AreMade c.args.homes.now (c.loop-number.number + 1)) (sym c.in_ok-push-in-Ok.ensures.items)
    (one_made c.args.homes.now c.loop-number.number c.loop-number.lives.items c.in-Ok.life c.loop-number.invariant (made_at g c))

pub returns-clause-first : goal.returns-clause-first
returns-clause-first g c = all_first c.args.homes.now c.loop-number.number c.loop-number.lives.items c.loop-number.invariant

pub returns-clause-homes : goal.returns-clause-homes
returns-clause-homes g c =
    all_at_home c.args.homes.now c.loop-number.lives.items
    (subst (λ n. AreMade c.args.homes.now n c.loop-number.lives.items) (omega (arith, c.loop-number-test.false, c.loop-number.auto.number-end)) c.loop-number.invariant)
