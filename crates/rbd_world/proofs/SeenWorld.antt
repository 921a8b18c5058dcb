-- What is asked of a world by the plans of its slots is what its machines answer.
use Rattle.std.proofs.Common.{◌≡◌, ℕ, Option, Some, None, refl}
use Rattle.std.specs.Option.{is_some, option_map}
use Rattle.rbd_client.specs.Client.{ClientView}
use Rattle.rbd_client.specs.Seen.{as_is}
use Rattle.rbd_client.specs.Seen as of_client
use Rattle.rbd_kinds.specs.declared.id.Instance.{Instance}
use Rattle.rbd_machine.specs.Plan.{Standing}
use Rattle.rbd_catalog.specs.declared.request.SessionRequest.{SessionRequest}
use Rattle.rbd_catalog.specs.Session.{stands_of}
use Rattle.rbd_world.specs.Seen.{seen}
use Rattle.rbd_world.specs.Sound.{line_at}
use Rattle.rbd_world.specs.World.{WorldView, client_in, free_in, heard_in, kind_in}
use Rattle.rbd_world.proofs.SeenLives.{free_seen, heard_seen, kind_in_seen, line_at_seen, of_client_seen}

pub kind_in_world : (session slot : ℕ) (w : WorldView SessionRequest) → kind_in as_is slot (client_in session (seen w).lives) ≡ kind_in stands_of slot (client_in session w.lives)
unfolding seen
kind_in_world session slot w = kind_in_seen stands_of session slot w.lives

pub line_in_world : (session slot : ℕ) (w : WorldView SessionRequest) → line_at session slot (seen w).lives ≡ line_at session slot w.lives
unfolding seen
line_in_world session slot w = line_at_seen stands_of session slot w.lives

pub free_in_world : (session : ℕ) (w : WorldView SessionRequest) → free_in (client_in session (seen w).lives) ≡ free_in (client_in session w.lives)
unfolding seen
free_in_world session w = of_client_seen stands_of free_in free_in (free_seen stands_of) session w.lives

pub heard_in_world : (session : ℕ) (w : WorldView SessionRequest) → heard_in (client_in session (seen w).lives) ≡ heard_in (client_in session w.lives)
unfolding seen
heard_in_world session w = of_client_seen stands_of heard_in heard_in (heard_seen stands_of) session w.lives

pub runs_in_world : (session : ℕ) (w : WorldView SessionRequest) → is_some (client_in session (seen w).lives) ≡ is_some (client_in session w.lives)
unfolding seen
runs_in_world session w = of_client_seen stands_of is_some is_some same session w.lives
  where
    same : (o : Option (ClientView SessionRequest)) → is_some (option_map (of_client.seen stands_of) o) ≡ is_some o
    same None = refl
    same (Some c) = refl

abbrev instance_of : {R : Type 0} → Option (ClientView R) → Option Instance
instance_of {R} o = option_map (λ (c : ClientView R). c.session.instance) o

pub instance_in_world : (session : ℕ) (w : WorldView SessionRequest) → option_map (λ (c : ClientView Standing). c.session.instance) (client_in session (seen w).lives) ≡ option_map (λ (c : ClientView SessionRequest). c.session.instance) (client_in session w.lives)
unfolding seen
instance_in_world session w = of_client_seen stands_of instance_of instance_of same session w.lives
  where
    same : (o : Option (ClientView SessionRequest)) → instance_of (option_map (of_client.seen stands_of) o) ≡ instance_of o
    same None = refl
    same (Some c) = refl
