use Rattle.std.proofs.Common.{List, [], ◌∷◌, ◌++◌, refl, sym, ap, ◌∙◌, subst}
use Rattle.rbd_client.specs.Seen.{as_is}
use Rattle.rbd_kinds.proofs.Results.{on_err_always}
use Rattle.rbd_machine.specs.Plan.{Standing}
use Rattle.rbd_watch.specs.Posting.{notice_numbered}
use Rattle.rbd_catalog.specs.Session.{stands_of}
use Rattle.rbd_world.specs.declared.event.Call.{Call}
use Rattle.rbd_world.specs.declared.event.Event.TheVariants as event
use Rattle.rbd_world.specs.Begun.{has_line}
use Rattle.rbd_world.specs.Seen.{seen, seen_by}
use Rattle.rbd_world.specs.Step.{IsWorldStep, IsUndone, LeavesLives, LeavesParts, StepsParts, delivered}
use Rattle.rbd_world.specs.World.{WorldView, client_in}
use Rattle.rbd_world.proofs.OneLife.{leaves_all}
use Rattle.rbd_world.proofs.Parts.{delivery_does, delivery_unnoted}
use Rattle.rbd_world.proofs.SeenLives.{sound_in_unseen}
use Rattle.rbd_world.proofs.SeenParts.{leaves_seen, steps_seen}
use Rattle.rbd_world.proofs.Stepping.{clients_sound, kept_sound, sound_again, stepped, undone, undone_kept, undone_sound}
use Rattle.rbd_world.proofs.Told.{noted_steps}
use Rattle.rbd_world.proofs.world.World.deliver.Goals as goal

pub deliver_notice-requires : goal.deliver_notice-requires
deliver_notice-requires c =
    let was : WorldView Standing = seen_by stands_of (record { sites = c.self.inside.sites; lives = c.self.inside.lives.items; history = c.self.inside.book.history.items; calls = c.self.inside.book.calls }) in
    λ session. sound_in_unseen stands_of session c.self.inside.lives.items (clients_sound as_is was c.self.invariant.sound session (client_in session was.lives) refl)

pub keep_delivery-requires : goal.keep_delivery-requires
keep_delivery-requires c = c.in_ok-reserve_call.ensures.ok

pub invariant_of-self : goal.invariant_of-self
invariant_of-self c =
    let was : WorldView Standing = seen_by stands_of (record { sites = c.self.inside.sites; lives = c.self.inside.lives.items; history = c.self.inside.book.history.items; calls = c.self.inside.book.calls }) in
    let now : WorldView Standing = seen_by stands_of (record { sites = c.self.inside.sites; lives = c.self.inside.lives.items; history = c.reserve_call.new.book.history.items; calls = c.reserve_call.new.book.calls }) in
    let left : LeavesParts stands_of c.self.inside.sites c.self.inside.sites c.self.inside.lives.items c.self.inside.lives.items c.self.inside.begun c.self.inside.begun = record { sites = record { sites = λ s. refl; mail = refl }; lives = leaves_all stands_of c.self.inside.lives.items; begun = λ line. refl } in
    let leaves = leaves_seen stands_of c.self.inside.sites c.self.inside.sites c.self.inside.lives.items c.self.inside.lives.items c.self.inside.begun c.self.inside.begun left in
    let history = c.reserve_call.ensures.history in
    let calls = c.reserve_call.ensures.calls in
    undone_kept as_is c.self.inside.begun c.self.inside.begun was now c.self.invariant leaves history
    (undone_sound as_is c.self.inside.begun c.self.inside.begun was now c.self.invariant leaves history calls)

pub returns-in_err-reserve_call-clause-err : goal.returns-in_err-reserve_call-clause-err
unfolding seen
returns-in_err-reserve_call-clause-err c =
    let was : WorldView Standing = seen_by stands_of (record { sites = c.self.inside.sites; lives = c.self.inside.lives.items; history = c.self.inside.book.history.items; calls = c.self.inside.book.calls }) in
    let now : WorldView Standing = seen_by stands_of (record { sites = c.self.inside.sites; lives = c.self.inside.lives.items; history = c.reserve_call.new.book.history.items; calls = c.reserve_call.new.book.calls }) in
    let left : LeavesParts stands_of c.self.inside.sites c.self.inside.sites c.self.inside.lives.items c.self.inside.lives.items c.self.inside.begun c.self.inside.begun = record { sites = record { sites = λ s. refl; mail = refl }; lives = leaves_all stands_of c.self.inside.lives.items; begun = λ line. refl } in
    let leaves = leaves_seen stands_of c.self.inside.sites c.self.inside.sites c.self.inside.lives.items c.self.inside.lives.items c.self.inside.begun c.self.inside.begun left in
    let history = c.reserve_call.ensures.history in
    let calls = c.reserve_call.ensures.calls in
    on_err_always c.from_residual.result
    (subst (λ w. IsUndone as_is (seen w) now) c.self.view_is (undone as_is c.self.inside.begun c.self.inside.begun was now leaves history calls))

pub returns-in_err-reserve_call-clause-sound : goal.returns-in_err-reserve_call-clause-sound
unfolding seen
returns-in_err-reserve_call-clause-sound c = (invariant_of-self c).sound

pub invariant_of-self-in_err-outcome : goal.invariant_of-self-in_err-outcome
invariant_of-self-in_err-outcome c =
    let was : WorldView Standing = seen_by stands_of (record { sites = c.self.inside.sites; lives = c.self.inside.lives.items; history = c.self.inside.book.history.items; calls = c.self.inside.book.calls }) in
    let now : WorldView Standing = seen_by stands_of (record { sites = c.self.inside.sites; lives = c.deliver_notice.new.lives.items; history = c.reserve_call.new.book.history.items; calls = c.reserve_call.new.book.calls }) in
    let left : LeavesParts stands_of c.self.inside.sites c.self.inside.sites c.self.inside.lives.items c.deliver_notice.new.lives.items c.self.inside.begun c.self.inside.begun = record { sites = record { sites = λ s. refl; mail = refl }; lives = subst (LeavesLives stands_of c.self.inside.lives.items) (sym c.in_err-outcome.ensures.err) (leaves_all stands_of c.self.inside.lives.items); begun = λ line. refl } in
    let leaves = leaves_seen stands_of c.self.inside.sites c.self.inside.sites c.self.inside.lives.items c.deliver_notice.new.lives.items c.self.inside.begun c.self.inside.begun left in
    let history = c.reserve_call.ensures.history in
    let calls = c.reserve_call.ensures.calls in
    undone_kept as_is c.self.inside.begun c.self.inside.begun was now c.self.invariant leaves history
    (undone_sound as_is c.self.inside.begun c.self.inside.begun was now c.self.invariant leaves history calls)

pub returns-in_err-outcome-clause-err : goal.returns-in_err-outcome-clause-err
unfolding seen
returns-in_err-outcome-clause-err c =
    let was : WorldView Standing = seen_by stands_of (record { sites = c.self.inside.sites; lives = c.self.inside.lives.items; history = c.self.inside.book.history.items; calls = c.self.inside.book.calls }) in
    let now : WorldView Standing = seen_by stands_of (record { sites = c.self.inside.sites; lives = c.deliver_notice.new.lives.items; history = c.reserve_call.new.book.history.items; calls = c.reserve_call.new.book.calls }) in
    let left : LeavesParts stands_of c.self.inside.sites c.self.inside.sites c.self.inside.lives.items c.deliver_notice.new.lives.items c.self.inside.begun c.self.inside.begun = record { sites = record { sites = λ s. refl; mail = refl }; lives = subst (LeavesLives stands_of c.self.inside.lives.items) (sym c.in_err-outcome.ensures.err) (leaves_all stands_of c.self.inside.lives.items); begun = λ line. refl } in
    let leaves = leaves_seen stands_of c.self.inside.sites c.self.inside.sites c.self.inside.lives.items c.deliver_notice.new.lives.items c.self.inside.begun c.self.inside.begun left in
    let history = c.reserve_call.ensures.history in
    let calls = c.reserve_call.ensures.calls in
    on_err_always c.from_residual-in_err-outcome.result
    (subst (λ w. IsUndone as_is (seen w) now) c.self.view_is (undone as_is c.self.inside.begun c.self.inside.begun was now leaves history calls))

pub returns-in_err-outcome-clause-sound : goal.returns-in_err-outcome-clause-sound
unfolding seen
returns-in_err-outcome-clause-sound c = (invariant_of-self-in_err-outcome c).sound

-- the delivery did what is said of it, and its call is kept
did : (c : goal.After-keep_delivery) → StepsParts stands_of (event.Deliver c.args.number) (delivered (notice_numbered c.args.number c.self.inside.sites.mail) c.self.inside.lives.items)
    c.self.inside.sites c.self.inside.sites c.self.inside.lives.items c.deliver_notice.new.lives.items c.self.inside.begun c.self.inside.begun
    c.self.inside.book.history.items c.keep_delivery.new.book.history.items c.self.inside.book.calls c.keep_delivery.new.book.calls c.in_ok-outcome.outcome
did c =
    let e = event.Deliver c.args.number in
    let h = delivered (notice_numbered c.args.number c.self.inside.sites.mail) c.self.inside.lives.items in
    noted_steps stands_of e h c.self.inside.sites c.self.inside.sites c.self.inside.lives.items c.deliver_notice.new.lives.items c.self.inside.begun c.self.inside.begun
    c.self.inside.book.history.items c.keep_delivery.new.book.history.items c.self.inside.book.calls c.keep_delivery.new.book.calls c.in_ok-outcome.outcome
    (delivery_does stands_of c.args.number c.self.inside.sites c.self.inside.lives.items c.deliver_notice.new.lives.items c.self.inside.begun c.in_ok-outcome.ensures.lives)
    (ap (λ v. v.items) c.keep_delivery.ensures.history ∙ c.reserve_call.ensures.history ∙ delivery_unnoted stands_of c.args.number c.self.inside.sites c.self.inside.lives.items c.self.inside.book.history.items)
    (c.keep_delivery.ensures.calls ∙ ap (λ (xs : List Call). xs ++ record { event = e; outcome = c.in_ok-outcome.outcome } ∷ []) c.reserve_call.ensures.calls)
    c.in_ok-outcome.ensures.outcome

pub invariant_of-self-2 : goal.invariant_of-self-2
invariant_of-self-2 c =
    let was : WorldView Standing = seen_by stands_of (record { sites = c.self.inside.sites; lives = c.self.inside.lives.items; history = c.self.inside.book.history.items; calls = c.self.inside.book.calls }) in
    let now : WorldView Standing = seen_by stands_of (record { sites = c.self.inside.sites; lives = c.deliver_notice.new.lives.items; history = c.keep_delivery.new.book.history.items; calls = c.keep_delivery.new.book.calls }) in
    let steps = steps_seen stands_of (event.Deliver c.args.number) (λ line. has_line line c.self.inside.begun) c.self.inside.sites c.self.inside.sites c.self.inside.lives.items c.deliver_notice.new.lives.items c.self.inside.begun c.self.inside.begun
    c.self.inside.book.history.items c.keep_delivery.new.book.history.items c.self.inside.book.calls c.keep_delivery.new.book.calls c.in_ok-outcome.outcome (did c) in
    kept_sound as_is (event.Deliver c.args.number) c.self.inside.begun c.self.inside.begun was now c.in_ok-outcome.outcome c.self.invariant steps
    (sound_again as_is (event.Deliver c.args.number) c.self.inside.begun c.self.inside.begun was now c.in_ok-outcome.outcome c.self.invariant steps tt)

pub returns-clause-step : goal.returns-clause-step
unfolding seen
returns-clause-step c =
    let was : WorldView Standing = seen_by stands_of (record { sites = c.self.inside.sites; lives = c.self.inside.lives.items; history = c.self.inside.book.history.items; calls = c.self.inside.book.calls }) in
    let now : WorldView Standing = seen_by stands_of (record { sites = c.self.inside.sites; lives = c.deliver_notice.new.lives.items; history = c.keep_delivery.new.book.history.items; calls = c.keep_delivery.new.book.calls }) in
    let steps = steps_seen stands_of (event.Deliver c.args.number) (λ line. has_line line c.self.inside.begun) c.self.inside.sites c.self.inside.sites c.self.inside.lives.items c.deliver_notice.new.lives.items c.self.inside.begun c.self.inside.begun
    c.self.inside.book.history.items c.keep_delivery.new.book.history.items c.self.inside.book.calls c.keep_delivery.new.book.calls c.in_ok-outcome.outcome (did c) in
    subst (λ w. IsWorldStep as_is (event.Deliver c.args.number) (seen w) c.in_ok-outcome.outcome now) c.self.view_is
    (stepped as_is (event.Deliver c.args.number) c.self.inside.begun c.self.inside.begun was now c.in_ok-outcome.outcome c.self.invariant steps)

pub returns-clause-sound : goal.returns-clause-sound
unfolding seen
returns-clause-sound c = (invariant_of-self-2 c).sound
