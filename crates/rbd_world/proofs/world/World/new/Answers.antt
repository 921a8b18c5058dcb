use Rattle.std.proofs.Common.{sym, ap, ◌∙◌}
use Rattle.rbd_client.specs.Seen.{as_is}
use Rattle.rbd_catalog.specs.Session.{stands_of}
use Rattle.rbd_world.specs.Seen.{seen, seen_by}
use Rattle.rbd_world.specs.Step.{is_begun}
use Rattle.rbd_world.proofs.Beginning.{new_world_is_sound}
use Rattle.rbd_world.proofs.SeenLives.{are_first_seen, at_home_seen}
use Rattle.rbd_world.proofs.world.World.new.Goals as goal

pub returns-in-Ok-clause-new : goal.returns-in-Ok-clause-new
unfolding seen
returns-in-Ok-clause-new c = record {
  sites = c.in-Ok.ensures.logs;
  ids = c.in-Ok.ensures.ids;
  mail = c.in-Ok.ensures.mail;
  lives = are_first_seen stands_of c.in_ok-lives.lives.items c.in_ok-lives.ensures.first;
  history = c.new-in-Ok-2.ensures.items;
  calls = c.new-in-Ok-3.ensures;
}

pub returns-in-Ok-clause-clients : goal.returns-in-Ok-clause-clients
unfolding seen
returns-in-Ok-clause-clients c = at_home_seen stands_of c.args.homes.now c.in_ok-lives.lives.items c.in_ok-lives.ensures.homes

pub invariant_of-result : goal.invariant_of-result
unfolding seen
invariant_of-result c = record {
  sound = new_world_is_sound as_is (seen_by stands_of (record { sites = c.in-Ok.sites; lives = c.in_ok-lives.lives.items; history = c.new-in-Ok-2.result.items; calls = c.new-in-Ok-3.result })) (returns-in-Ok-clause-new c);
  lines = λ line. c.new-in-Ok.ensures line ∙ sym (ap (is_begun line) c.new-in-Ok-2.ensures.items);
}

pub returns-in-Ok-clause-sound : goal.returns-in-Ok-clause-sound
unfolding seen
returns-in-Ok-clause-sound c = (invariant_of-result c).sound
