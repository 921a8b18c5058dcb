use Rattle.std.proofs.Common.{refl, ◌∙◌}
use Rattle.rbd_world.proofs.FreshLives.{is_fresh}
use Rattle.rbd_world.proofs.world.first_life.Goals as goal

pub returns-clause-first : goal.returns-clause-first
returns-clause-first g c = record {
  latest = c.instance.ensures ∙ c.in_ok-client.ensures.who.0;
  client = c.in_ok-client.client;
  runs = refl;
  fresh =
      is_fresh _ _ c.in_ok-client.client g.R.Machine.stands c.in_ok-client.ensures.sound c.in_ok-client.ensures.who.0 c.in_ok-client.ensures.who.1
      c.in_ok-client.ensures.slots c.in_ok-client.ensures.lines c.in_ok-client.ensures.locks c.in_ok-client.ensures.release c.in_ok-client.ensures.heard;
  late = refl;
}
