use Rattle.std.proofs.Common.{refl, subst}
use Rattle.rbd_client.specs.Seen.{as_is, seen as seen_client}
use Rattle.rbd_machine.specs.Plan.{Standing}
use Rattle.rbd_catalog.specs.Session.{stands_of}
use Rattle.rbd_world.specs.Begun.{has_line}
use Rattle.rbd_world.specs.Seen.{seen, seen_by}
use Rattle.rbd_world.specs.Step.{IsWorldStep, IsUndone, MayCome}
use Rattle.rbd_world.specs.World.{WorldView, client_in}
use Rattle.rbd_world.proofs.SeenLives.{client_is_seen, drops_what_unseen, late_at_seen, sound_in_unseen, wants_unseen}
use Rattle.rbd_world.proofs.SeenParts.{leaves_seen, steps_seen}
use Rattle.rbd_world.proofs.Stepping.{clients_sound, kept_sound, sound_again, stepped, undone, undone_kept, undone_sound}
use Rattle.rbd_world.proofs.Wanted.{drops_what_it_may, may_come, wants_what_it_may}
use Rattle.rbd_world.proofs.world.World.step.Goals as goal
use Rattle.rbd_kinds.proofs.Results.{on_err_always}

pub step_parts-requires-clause-sound : goal.step_parts-requires-clause-sound
step_parts-requires-clause-sound c =
    let was : WorldView Standing = seen_by stands_of (record { sites = c.self.inside.sites; lives = c.self.inside.lives.items; history = c.self.inside.book.history.items; calls = c.self.inside.book.calls }) in
    λ session. sound_in_unseen stands_of session c.self.inside.lives.items (clients_sound as_is was c.self.invariant.sound session (client_in session was.lives) refl)

pub step_parts-requires-clause-wants : goal.step_parts-requires-clause-wants
step_parts-requires-clause-wants c =
    let was : WorldView Standing = seen_by stands_of (record { sites = c.self.inside.sites; lives = c.self.inside.lives.items; history = c.self.inside.book.history.items; calls = c.self.inside.book.calls }) in
    λ session slot client is. wants_unseen stands_of c.self.inside.sites slot client
    (wants_what_it_may as_is was session slot (seen_client stands_of client) c.self.invariant.sound (client_is_seen stands_of session c.self.inside.lives.items client is))

pub step_parts-requires-clause-rest : goal.step_parts-requires-clause-rest
step_parts-requires-clause-rest c =
    let was : WorldView Standing = seen_by stands_of (record { sites = c.self.inside.sites; lives = c.self.inside.lives.items; history = c.self.inside.book.history.items; calls = c.self.inside.book.calls }) in
    λ session slot client is. drops_what_unseen stands_of slot client
    (drops_what_it_may as_is was session slot (seen_client stands_of client) c.self.invariant.sound (client_is_seen stands_of session c.self.inside.lives.items client is))

pub step_parts-requires-clause-late : goal.step_parts-requires-clause-late
step_parts-requires-clause-late c =
    let was : WorldView Standing = seen_by stands_of (record { sites = c.self.inside.sites; lives = c.self.inside.lives.items; history = c.self.inside.book.history.items; calls = c.self.inside.book.calls }) in
    λ session slot. subst (MayCome c.self.inside.sites) (late_at_seen stands_of session slot c.self.inside.lives.items) (may_come as_is was session slot c.self.invariant.sound)

pub invariant_of-self : goal.invariant_of-self
invariant_of-self c =
    let was : WorldView Standing = seen_by stands_of (record { sites = c.self.inside.sites; lives = c.self.inside.lives.items; history = c.self.inside.book.history.items; calls = c.self.inside.book.calls }) in
    let now : WorldView Standing = seen_by stands_of (record { sites = c.step_parts.new.sites; lives = c.step_parts.new.lives.items; history = c.step_parts.new.book.history.items; calls = c.step_parts.new.book.calls }) in
    let left = c.in_err-outcome.ensures in
    let leaves = leaves_seen stands_of c.self.inside.sites c.step_parts.new.sites c.self.inside.lives.items c.step_parts.new.lives.items c.self.inside.begun c.step_parts.new.begun left.err in
    undone_kept as_is c.self.inside.begun c.step_parts.new.begun was now c.self.invariant leaves left.history
    (undone_sound as_is c.self.inside.begun c.step_parts.new.begun was now c.self.invariant leaves left.history left.calls)

pub returns-in_err-outcome-clause-err : goal.returns-in_err-outcome-clause-err
unfolding seen
returns-in_err-outcome-clause-err c =
    let was : WorldView Standing = seen_by stands_of (record { sites = c.self.inside.sites; lives = c.self.inside.lives.items; history = c.self.inside.book.history.items; calls = c.self.inside.book.calls }) in
    let now : WorldView Standing = seen_by stands_of (record { sites = c.step_parts.new.sites; lives = c.step_parts.new.lives.items; history = c.step_parts.new.book.history.items; calls = c.step_parts.new.book.calls }) in
    let left = c.in_err-outcome.ensures in
    let leaves = leaves_seen stands_of c.self.inside.sites c.step_parts.new.sites c.self.inside.lives.items c.step_parts.new.lives.items c.self.inside.begun c.step_parts.new.begun left.err in
    on_err_always c.from_residual.result
    (subst (λ w. IsUndone as_is (seen w) now) c.self.view_is (undone as_is c.self.inside.begun c.step_parts.new.begun was now leaves left.history left.calls))

pub returns-in_err-outcome-clause-sound : goal.returns-in_err-outcome-clause-sound
unfolding seen
returns-in_err-outcome-clause-sound c =
    let was : WorldView Standing = seen_by stands_of (record { sites = c.self.inside.sites; lives = c.self.inside.lives.items; history = c.self.inside.book.history.items; calls = c.self.inside.book.calls }) in
    let now : WorldView Standing = seen_by stands_of (record { sites = c.step_parts.new.sites; lives = c.step_parts.new.lives.items; history = c.step_parts.new.book.history.items; calls = c.step_parts.new.book.calls }) in
    let left = c.in_err-outcome.ensures in
    let leaves = leaves_seen stands_of c.self.inside.sites c.step_parts.new.sites c.self.inside.lives.items c.step_parts.new.lives.items c.self.inside.begun c.step_parts.new.begun left.err in
    undone_sound as_is c.self.inside.begun c.step_parts.new.begun was now c.self.invariant leaves left.history left.calls

pub invariant_of-self-2 : goal.invariant_of-self-2
invariant_of-self-2 c =
    let was : WorldView Standing = seen_by stands_of (record { sites = c.self.inside.sites; lives = c.self.inside.lives.items; history = c.self.inside.book.history.items; calls = c.self.inside.book.calls }) in
    let now : WorldView Standing = seen_by stands_of (record { sites = c.step_parts.new.sites; lives = c.step_parts.new.lives.items; history = c.step_parts.new.book.history.items; calls = c.step_parts.new.book.calls }) in
    let did = steps_seen stands_of c.args.event.now (λ line. has_line line c.self.inside.begun) c.self.inside.sites c.step_parts.new.sites c.self.inside.lives.items c.step_parts.new.lives.items c.self.inside.begun c.step_parts.new.begun
    c.self.inside.book.history.items c.step_parts.new.book.history.items c.self.inside.book.calls c.step_parts.new.book.calls c.in_ok-outcome.outcome c.in_ok-outcome.ensures.steps in
    kept_sound as_is c.args.event.now c.self.inside.begun c.step_parts.new.begun was now c.in_ok-outcome.outcome c.self.invariant did
    (sound_again as_is c.args.event.now c.self.inside.begun c.step_parts.new.begun was now c.in_ok-outcome.outcome c.self.invariant did c.requires.built)

pub returns-clause-step : goal.returns-clause-step
unfolding seen
returns-clause-step c =
    let was : WorldView Standing = seen_by stands_of (record { sites = c.self.inside.sites; lives = c.self.inside.lives.items; history = c.self.inside.book.history.items; calls = c.self.inside.book.calls }) in
    let now : WorldView Standing = seen_by stands_of (record { sites = c.step_parts.new.sites; lives = c.step_parts.new.lives.items; history = c.step_parts.new.book.history.items; calls = c.step_parts.new.book.calls }) in
    let did = steps_seen stands_of c.args.event.now (λ line. has_line line c.self.inside.begun) c.self.inside.sites c.step_parts.new.sites c.self.inside.lives.items c.step_parts.new.lives.items c.self.inside.begun c.step_parts.new.begun
    c.self.inside.book.history.items c.step_parts.new.book.history.items c.self.inside.book.calls c.step_parts.new.book.calls c.in_ok-outcome.outcome c.in_ok-outcome.ensures.steps in
    subst (λ w. IsWorldStep as_is c.args.event.now (seen w) c.in_ok-outcome.outcome now) c.self.view_is
    (stepped as_is c.args.event.now c.self.inside.begun c.step_parts.new.begun was now c.in_ok-outcome.outcome c.self.invariant did)

pub returns-clause-sound : goal.returns-clause-sound
unfolding seen
returns-clause-sound c = (invariant_of-self-2 c).sound
