use Rattle.std.proofs.Common.{List, [], ◌∷◌, ◌++◌, ◌+◌, ◌<◌, ◌^◌, length, refl, sym, ap, ◌∙◌, subst}
use Rattle.rbd_client.specs.Seen.{as_is, seen as seen_client}
use Rattle.rbd_flat.specs.declared.entry.Entry.{Entry}
use Rattle.rbd_kinds.proofs.Results.{on_err_always}
use Rattle.rbd_machine.specs.Plan.{Standing}
use Rattle.rbd_catalog.specs.Session.{stands_of}
use Rattle.rbd_world.specs.declared.event.Call.{Call}
use Rattle.rbd_world.specs.declared.event.Event.TheVariants as event
use Rattle.rbd_world.specs.Begun.{has_line}
use Rattle.rbd_world.specs.Noted.{history_with}
use Rattle.rbd_world.specs.Seen.{seen, seen_by}
use Rattle.rbd_world.specs.Step.{IsWorldStep, IsUndone, LeavesParts, StepsParts, polled}
use Rattle.rbd_world.specs.World.{WorldView, client_in}
use Rattle.rbd_world.proofs.OneLife.{leaves_all}
use Rattle.rbd_world.proofs.Parts.{poll_does}
use Rattle.rbd_world.proofs.SeenLives.{client_is_seen, drops_what_unseen, wants_unseen}
use Rattle.rbd_world.proofs.SeenParts.{leaves_seen, steps_seen}
use Rattle.rbd_world.proofs.Stepping.{kept_sound, sound_again, stepped, undone, undone_kept, undone_sound}
use Rattle.rbd_world.proofs.Told.{noted_steps}
use Rattle.rbd_world.proofs.Wanted.{drops_what_it_may, wants_what_it_may}
use Rattle.rbd_world.proofs.world.World.poll.Goals as goal

pub poll_session-requires : goal.poll_session-requires
poll_session-requires c =
    let was : WorldView Standing = seen_by stands_of (record { sites = c.self.inside.sites; lives = c.self.inside.lives.items; history = c.self.inside.book.history.items; calls = c.self.inside.book.calls }) in
    record {
      room = c.in_ok-reserve.ensures.ok.0;
      wants = λ client is. wants_unseen stands_of c.self.inside.sites c.args.slot client
          (wants_what_it_may as_is was c.args.session c.args.slot (seen_client stands_of client) c.self.invariant.sound (client_is_seen stands_of c.args.session c.self.inside.lives.items client is));
      rest = λ client is. drops_what_unseen stands_of c.args.slot client
          (drops_what_it_may as_is was c.args.session c.args.slot (seen_client stands_of client) c.self.invariant.sound (client_is_seen stands_of c.args.session c.self.inside.lives.items client is));
    }

pub keep_poll-requires : goal.keep_poll-requires
keep_poll-requires c = subst (λ (xs : List Call). length xs + 1 < 2 ^ 59) (sym c.poll_session.ensures.calls) c.in_ok-reserve.ensures.ok.1

pub invariant_of-self : goal.invariant_of-self
invariant_of-self c =
    let was : WorldView Standing = seen_by stands_of (record { sites = c.self.inside.sites; lives = c.self.inside.lives.items; history = c.self.inside.book.history.items; calls = c.self.inside.book.calls }) in
    let now : WorldView Standing = seen_by stands_of (record { sites = c.self.inside.sites; lives = c.self.inside.lives.items; history = c.reserve.new.book.history.items; calls = c.reserve.new.book.calls }) in
    let left : LeavesParts stands_of c.self.inside.sites c.self.inside.sites c.self.inside.lives.items c.self.inside.lives.items c.self.inside.begun c.self.inside.begun = record { sites = record { sites = λ s. refl; mail = refl }; lives = leaves_all stands_of c.self.inside.lives.items; begun = λ line. refl } in
    let leaves = leaves_seen stands_of c.self.inside.sites c.self.inside.sites c.self.inside.lives.items c.self.inside.lives.items c.self.inside.begun c.self.inside.begun left in
    let history = c.reserve.ensures.history in
    let calls = c.reserve.ensures.calls in
    undone_kept as_is c.self.inside.begun c.self.inside.begun was now c.self.invariant leaves history
    (undone_sound as_is c.self.inside.begun c.self.inside.begun was now c.self.invariant leaves history calls)

pub returns-in_err-reserve-clause-err : goal.returns-in_err-reserve-clause-err
unfolding seen
returns-in_err-reserve-clause-err c =
    let was : WorldView Standing = seen_by stands_of (record { sites = c.self.inside.sites; lives = c.self.inside.lives.items; history = c.self.inside.book.history.items; calls = c.self.inside.book.calls }) in
    let now : WorldView Standing = seen_by stands_of (record { sites = c.self.inside.sites; lives = c.self.inside.lives.items; history = c.reserve.new.book.history.items; calls = c.reserve.new.book.calls }) in
    let left : LeavesParts stands_of c.self.inside.sites c.self.inside.sites c.self.inside.lives.items c.self.inside.lives.items c.self.inside.begun c.self.inside.begun = record { sites = record { sites = λ s. refl; mail = refl }; lives = leaves_all stands_of c.self.inside.lives.items; begun = λ line. refl } in
    let leaves = leaves_seen stands_of c.self.inside.sites c.self.inside.sites c.self.inside.lives.items c.self.inside.lives.items c.self.inside.begun c.self.inside.begun left in
    let history = c.reserve.ensures.history in
    let calls = c.reserve.ensures.calls in
    on_err_always c.from_residual.result
    (subst (λ w. IsUndone as_is (seen w) now) c.self.view_is (undone as_is c.self.inside.begun c.self.inside.begun was now leaves history calls))

pub returns-in_err-reserve-clause-sound : goal.returns-in_err-reserve-clause-sound
unfolding seen
returns-in_err-reserve-clause-sound c = (invariant_of-self c).sound

pub invariant_of-self-in_err-outcome : goal.invariant_of-self-in_err-outcome
invariant_of-self-in_err-outcome c =
    let was : WorldView Standing = seen_by stands_of (record { sites = c.self.inside.sites; lives = c.self.inside.lives.items; history = c.self.inside.book.history.items; calls = c.self.inside.book.calls }) in
    let now : WorldView Standing = seen_by stands_of (record { sites = c.poll_session.new.sites; lives = c.poll_session.new.lives.items; history = c.poll_session.new.book.history.items; calls = c.poll_session.new.book.calls }) in
    let left : LeavesParts stands_of c.self.inside.sites c.poll_session.new.sites c.self.inside.lives.items c.poll_session.new.lives.items c.self.inside.begun c.self.inside.begun = record { sites = c.in_err-outcome.ensures.err; lives = c.in_err-outcome.ensures.alike; begun = λ line. refl } in
    let leaves = leaves_seen stands_of c.self.inside.sites c.poll_session.new.sites c.self.inside.lives.items c.poll_session.new.lives.items c.self.inside.begun c.self.inside.begun left in
    let history = c.in_err-outcome.ensures.unnoted ∙ c.reserve.ensures.history in
    let calls = c.poll_session.ensures.calls ∙ c.reserve.ensures.calls in
    undone_kept as_is c.self.inside.begun c.self.inside.begun was now c.self.invariant leaves history
    (undone_sound as_is c.self.inside.begun c.self.inside.begun was now c.self.invariant leaves history calls)

pub returns-in_err-outcome-clause-err : goal.returns-in_err-outcome-clause-err
unfolding seen
returns-in_err-outcome-clause-err c =
    let was : WorldView Standing = seen_by stands_of (record { sites = c.self.inside.sites; lives = c.self.inside.lives.items; history = c.self.inside.book.history.items; calls = c.self.inside.book.calls }) in
    let now : WorldView Standing = seen_by stands_of (record { sites = c.poll_session.new.sites; lives = c.poll_session.new.lives.items; history = c.poll_session.new.book.history.items; calls = c.poll_session.new.book.calls }) in
    let left : LeavesParts stands_of c.self.inside.sites c.poll_session.new.sites c.self.inside.lives.items c.poll_session.new.lives.items c.self.inside.begun c.self.inside.begun = record { sites = c.in_err-outcome.ensures.err; lives = c.in_err-outcome.ensures.alike; begun = λ line. refl } in
    let leaves = leaves_seen stands_of c.self.inside.sites c.poll_session.new.sites c.self.inside.lives.items c.poll_session.new.lives.items c.self.inside.begun c.self.inside.begun left in
    let history = c.in_err-outcome.ensures.unnoted ∙ c.reserve.ensures.history in
    let calls = c.poll_session.ensures.calls ∙ c.reserve.ensures.calls in
    on_err_always c.from_residual-in_err-outcome.result
    (subst (λ w. IsUndone as_is (seen w) now) c.self.view_is (undone as_is c.self.inside.begun c.self.inside.begun was now leaves history calls))

pub returns-in_err-outcome-clause-sound : goal.returns-in_err-outcome-clause-sound
unfolding seen
returns-in_err-outcome-clause-sound c = (invariant_of-self-in_err-outcome c).sound

-- the poll did what is said of it, and its call is kept
did : (c : goal.After-keep_poll) → StepsParts stands_of (event.Poll c.args.session c.args.slot) (polled stands_of c.self.inside.sites c.args.slot (client_in c.args.session c.self.inside.lives.items))
    c.self.inside.sites c.poll_session.new.sites c.self.inside.lives.items c.poll_session.new.lives.items c.self.inside.begun c.self.inside.begun
    c.self.inside.book.history.items c.keep_poll.new.book.history.items c.self.inside.book.calls c.keep_poll.new.book.calls c.in_ok-outcome.outcome
did c =
    let e = event.Poll c.args.session c.args.slot in
    let h = polled stands_of c.self.inside.sites c.args.slot (client_in c.args.session c.self.inside.lives.items) in
    noted_steps stands_of e h c.self.inside.sites c.poll_session.new.sites c.self.inside.lives.items c.poll_session.new.lives.items c.self.inside.begun c.self.inside.begun
    c.self.inside.book.history.items c.keep_poll.new.book.history.items c.self.inside.book.calls c.keep_poll.new.book.calls c.in_ok-outcome.outcome
    (poll_does stands_of c.args.session c.args.slot c.self.inside.sites c.poll_session.new.sites c.self.inside.lives.items c.poll_session.new.lives.items c.self.inside.begun
    c.in_ok-outcome.ensures.sites c.in_ok-outcome.ensures.lives)
    (ap (λ v. v.items) c.keep_poll.ensures.history ∙ c.in_ok-outcome.ensures.history ∙ ap (λ (xs : List Entry). history_with xs h) c.reserve.ensures.history)
    (c.keep_poll.ensures.calls ∙ ap (λ (xs : List Call). xs ++ record { event = e; outcome = c.in_ok-outcome.outcome } ∷ []) c.poll_session.ensures.calls
    ∙ ap (λ (xs : List Call). xs ++ record { event = e; outcome = c.in_ok-outcome.outcome } ∷ []) c.reserve.ensures.calls)
    c.in_ok-outcome.ensures.outcome

pub invariant_of-self-2 : goal.invariant_of-self-2
invariant_of-self-2 c =
    let was : WorldView Standing = seen_by stands_of (record { sites = c.self.inside.sites; lives = c.self.inside.lives.items; history = c.self.inside.book.history.items; calls = c.self.inside.book.calls }) in
    let now : WorldView Standing = seen_by stands_of (record { sites = c.poll_session.new.sites; lives = c.poll_session.new.lives.items; history = c.keep_poll.new.book.history.items; calls = c.keep_poll.new.book.calls }) in
    let steps = steps_seen stands_of (event.Poll c.args.session c.args.slot) (λ line. has_line line c.self.inside.begun) c.self.inside.sites c.poll_session.new.sites c.self.inside.lives.items c.poll_session.new.lives.items c.self.inside.begun c.self.inside.begun
    c.self.inside.book.history.items c.keep_poll.new.book.history.items c.self.inside.book.calls c.keep_poll.new.book.calls c.in_ok-outcome.outcome (did c) in
    kept_sound as_is (event.Poll c.args.session c.args.slot) c.self.inside.begun c.self.inside.begun was now c.in_ok-outcome.outcome c.self.invariant steps
    (sound_again as_is (event.Poll c.args.session c.args.slot) c.self.inside.begun c.self.inside.begun was now c.in_ok-outcome.outcome c.self.invariant steps tt)

pub returns-clause-step : goal.returns-clause-step
unfolding seen
returns-clause-step c =
    let was : WorldView Standing = seen_by stands_of (record { sites = c.self.inside.sites; lives = c.self.inside.lives.items; history = c.self.inside.book.history.items; calls = c.self.inside.book.calls }) in
    let now : WorldView Standing = seen_by stands_of (record { sites = c.poll_session.new.sites; lives = c.poll_session.new.lives.items; history = c.keep_poll.new.book.history.items; calls = c.keep_poll.new.book.calls }) in
    let steps = steps_seen stands_of (event.Poll c.args.session c.args.slot) (λ line. has_line line c.self.inside.begun) c.self.inside.sites c.poll_session.new.sites c.self.inside.lives.items c.poll_session.new.lives.items c.self.inside.begun c.self.inside.begun
    c.self.inside.book.history.items c.keep_poll.new.book.history.items c.self.inside.book.calls c.keep_poll.new.book.calls c.in_ok-outcome.outcome (did c) in
    subst (λ w. IsWorldStep as_is (event.Poll c.args.session c.args.slot) (seen w) c.in_ok-outcome.outcome now) c.self.view_is
    (stepped as_is (event.Poll c.args.session c.args.slot) c.self.inside.begun c.self.inside.begun was now c.in_ok-outcome.outcome c.self.invariant steps)

pub returns-clause-sound : goal.returns-clause-sound
unfolding seen
returns-clause-sound c = (invariant_of-self-2 c).sound
