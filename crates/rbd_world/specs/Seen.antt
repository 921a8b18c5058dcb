-- A world as plans tell it: in each slot stands what is left of its request, in place of the
-- machine that does it. What the world's contracts promise is said of this, so nobody who reads
-- them needs to know a machine.
use Rattle.std.specs.Prelude.{List, map}
use Rattle.std.specs.Option.{option_map}
use Rattle.rbd_client.specs.Seen as of_client
use Rattle.rbd_machine.specs.Plan.{Standing}
use Rattle.rbd_catalog.specs.declared.request.SessionRequest.{SessionRequest}
use Rattle.rbd_catalog.specs.Session.{stands_of}
use Rattle.rbd_world.specs.World.{LivesView, WorldView}

module _ {R : Type 0} (stands : R → Standing) where
  abbrev pub seen_life : LivesView R → LivesView Standing
  seen_life l = record {
    home = l.home;
    latest = l.latest;
    running = option_map (of_client.seen stands) l.running;
    late = l.late;
  }

  abbrev pub seen_lives : List (LivesView R) → List (LivesView Standing)
  seen_lives lives = map seen_life lives

  abbrev pub seen_by : WorldView R → WorldView Standing
  seen_by w = record { sites = w.sites; lives = seen_lives w.lives; history = w.history; calls = w.calls }

unfoldable pub seen : WorldView SessionRequest → WorldView Standing
seen w = seen_by stands_of w
