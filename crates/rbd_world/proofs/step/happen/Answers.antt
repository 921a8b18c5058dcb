use Rattle.std.proofs.Common.{refl, sym, subst}
use Rattle.std.specs.Prelude.{IfOk}
use Rattle.rbd_catalog.specs.Session.{stands_of}
use Rattle.rbd_world.specs.declared.event.Event.{Event}
use Rattle.rbd_world.specs.Begun.{has_line}
use Rattle.rbd_world.specs.Noted.{IsNotedStep}
use Rattle.rbd_world.specs.Step.{happens}
use Rattle.rbd_world.proofs.OneLife.{always_err}
use Rattle.rbd_world.proofs.Parts.{coming_noted, delivery_noted, expiry_noted, leaves_same, leaves_sites, poll_leaves, poll_noted, restart_noted, stop_noted, submission_noted, trim_noted}
use Rattle.rbd_world.proofs.step.happen.Goals as goal

pub poll_session-requires : goal.poll_session-requires
poll_session-requires c = record { room = c.requires.room; wants = c.requires.wants c.in-Poll.session c.in-Poll.slot; rest = c.requires.rest c.in-Poll.session c.in-Poll.slot }

pub deliver_notice-requires : goal.deliver_notice-requires
deliver_notice-requires c = c.requires.sound

pub come-requires : goal.come-requires
come-requires c = record { room = c.requires.room; may = c.requires.late c.in-Late.session c.in-Late.slot; sound = c.requires.sound c.in-Late.session }

pub restart-requires : goal.restart-requires
restart-requires c = c.requires.sound c.in-Restart.session

pub returns-in-Submit-clause-did : goal.returns-in-Submit-clause-did
returns-in-Submit-clause-did c =
    subst (λ (e : Event). IfOk c.submit.result (IsNotedStep stands_of e (happens stands_of e (λ l. has_line l c.args.begun.now) c.args.sites.now c.args.lives.now.items)
    c.args.sites.now c.args.sites.now c.args.lives.now.items c.submit.new.lives.items c.args.begun.now c.submit.new.begun c.args.book.now.history.items c.submit.new.history.items)) (sym c.in-Submit.is)
    (rw (sym c.deref.ensures)
    (submission_noted stands_of c.submit.result c.args.sites.now c.args.lives.now.items c.args.begun.now c.args.book.now.history.items c.in-Submit.session c.in-Submit.line c.deref.result.now c.submit.new.lives.items c.submit.new.begun c.submit.new.history.items c.submit.ensures.outcome c.submit.ensures.history c.submit.ensures.lives c.submit.ensures.begun))

pub returns-in-Submit-clause-err : goal.returns-in-Submit-clause-err
returns-in-Submit-clause-err c =
    leaves_sites stands_of c.submit.result c.args.sites.now c.args.sites.now c.args.lives.now.items c.submit.new.lives.items c.args.begun.now c.submit.new.begun c.submit.ensures.err c.submit.ensures.same

pub returns-in-Poll-clause-did : goal.returns-in-Poll-clause-did
returns-in-Poll-clause-did c =
    subst (λ (e : Event). IfOk c.poll_session.result (IsNotedStep stands_of e (happens stands_of e (λ l. has_line l c.args.begun.now) c.args.sites.now c.args.lives.now.items)
    c.args.sites.now c.poll_session.new.sites c.args.lives.now.items c.poll_session.new.lives.items c.args.begun.now c.args.begun.now c.args.book.now.history.items c.poll_session.new.book.history.items)) (sym c.in-Poll.is)
    (poll_noted stands_of c.poll_session.result c.args.sites.now c.args.lives.now.items c.args.begun.now c.args.book.now.history.items c.in-Poll.session c.in-Poll.slot c.poll_session.new.sites c.poll_session.new.lives.items c.poll_session.new.book.history.items c.poll_session.ensures.outcome c.poll_session.ensures.history c.poll_session.ensures.sites c.poll_session.ensures.lives)

pub returns-in-Poll-clause-err : goal.returns-in-Poll-clause-err
returns-in-Poll-clause-err c =
    poll_leaves stands_of c.poll_session.result c.args.sites.now c.poll_session.new.sites c.args.lives.now.items c.poll_session.new.lives.items c.args.begun.now c.poll_session.ensures.err c.poll_session.ensures.alike

pub returns-in-Deliver-clause-did : goal.returns-in-Deliver-clause-did
returns-in-Deliver-clause-did c =
    subst (λ (e : Event). IfOk c.deliver_notice.result (IsNotedStep stands_of e (happens stands_of e (λ l. has_line l c.args.begun.now) c.args.sites.now c.args.lives.now.items)
    c.args.sites.now c.args.sites.now c.args.lives.now.items c.deliver_notice.new.lives.items c.args.begun.now c.args.begun.now c.args.book.now.history.items c.args.book.now.history.items)) (sym c.in-Deliver.is)
    (delivery_noted stands_of c.deliver_notice.result c.args.sites.now c.args.lives.now.items c.args.begun.now c.args.book.now.history.items c.in-Deliver.number c.deliver_notice.new.lives.items c.deliver_notice.ensures.outcome c.deliver_notice.ensures.lives)

pub returns-in-Deliver-clause-err : goal.returns-in-Deliver-clause-err
returns-in-Deliver-clause-err c =
    leaves_sites stands_of c.deliver_notice.result c.args.sites.now c.args.sites.now c.args.lives.now.items c.deliver_notice.new.lives.items c.args.begun.now c.args.begun.now c.deliver_notice.ensures.err (always_err c.deliver_notice.result _ (λ l. refl))

pub returns-in-Expire-clause-did : goal.returns-in-Expire-clause-did
returns-in-Expire-clause-did c =
    subst (λ (e : Event). IfOk c.expire.result (IsNotedStep stands_of e (happens stands_of e (λ l. has_line l c.args.begun.now) c.args.sites.now c.args.lives.now.items)
    c.args.sites.now c.expire.new.sites c.args.lives.now.items c.args.lives.now.items c.args.begun.now c.args.begun.now c.args.book.now.history.items c.args.book.now.history.items)) (sym c.in-Expire.is)
    (expiry_noted stands_of c.expire.result c.args.sites.now c.args.lives.now.items c.args.begun.now c.args.book.now.history.items c.in-Expire.session c.in-Expire.image c.in-Expire.site c.expire.new.sites c.expire.ensures.outcome c.expire.ensures.sites)

pub returns-in-Expire-clause-err : goal.returns-in-Expire-clause-err
returns-in-Expire-clause-err c =
    leaves_same stands_of c.expire.result c.args.sites.now c.expire.new.sites c.args.lives.now.items c.args.lives.now.items c.args.begun.now c.expire.ensures.err (always_err c.expire.result _ refl)

pub returns-in-Stop-clause-did : goal.returns-in-Stop-clause-did
returns-in-Stop-clause-did c =
    subst (λ (e : Event). IfOk c.stop.result (IsNotedStep stands_of e (happens stands_of e (λ l. has_line l c.args.begun.now) c.args.sites.now c.args.lives.now.items)
    c.args.sites.now c.args.sites.now c.args.lives.now.items c.stop.new.lives.items c.args.begun.now c.args.begun.now c.args.book.now.history.items c.stop.new.history.items)) (sym c.in-Stop.is)
    (stop_noted stands_of c.stop.result c.args.sites.now c.args.lives.now.items c.args.begun.now c.args.book.now.history.items c.in-Stop.session c.stop.new.lives.items c.stop.new.history.items c.stop.ensures.outcome c.stop.ensures.history c.stop.ensures.lives)

pub returns-in-Stop-clause-err : goal.returns-in-Stop-clause-err
returns-in-Stop-clause-err c =
    leaves_sites stands_of c.stop.result c.args.sites.now c.args.sites.now c.args.lives.now.items c.stop.new.lives.items c.args.begun.now c.args.begun.now c.stop.ensures.err (always_err c.stop.result _ (λ l. refl))

pub returns-in-Late-clause-did : goal.returns-in-Late-clause-did
returns-in-Late-clause-did c =
    subst (λ (e : Event). IfOk c.come.result (IsNotedStep stands_of e (happens stands_of e (λ l. has_line l c.args.begun.now) c.args.sites.now c.args.lives.now.items)
    c.args.sites.now c.come.new.sites c.args.lives.now.items c.come.new.lives.items c.args.begun.now c.args.begun.now c.args.book.now.history.items c.come.new.history.items)) (sym c.in-Late.is)
    (coming_noted stands_of c.come.result c.args.sites.now c.args.lives.now.items c.args.begun.now c.args.book.now.history.items c.in-Late.session c.in-Late.slot c.come.new.sites c.come.new.lives.items c.come.new.history.items c.come.ensures.outcome c.come.ensures.history c.come.ensures.sites c.come.ensures.lives)

pub returns-in-Late-clause-err : goal.returns-in-Late-clause-err
returns-in-Late-clause-err c =
    leaves_same stands_of c.come.result c.args.sites.now c.come.new.sites c.args.lives.now.items c.come.new.lives.items c.args.begun.now c.come.ensures.err c.come.ensures.left

pub returns-in-Restart-clause-did : goal.returns-in-Restart-clause-did
returns-in-Restart-clause-did c =
    subst (λ (e : Event). IfOk c.restart.result (IsNotedStep stands_of e (happens stands_of e (λ l. has_line l c.args.begun.now) c.args.sites.now c.args.lives.now.items)
    c.args.sites.now c.args.sites.now c.args.lives.now.items c.restart.new.lives.items c.args.begun.now c.args.begun.now c.args.book.now.history.items c.args.book.now.history.items)) (sym c.in-Restart.is)
    (restart_noted stands_of c.restart.result c.args.sites.now c.args.lives.now.items c.args.begun.now c.args.book.now.history.items c.in-Restart.session c.restart.new.lives.items c.restart.ensures.outcome c.restart.ensures.lives)

pub returns-in-Restart-clause-err : goal.returns-in-Restart-clause-err
returns-in-Restart-clause-err c =
    leaves_sites stands_of c.restart.result c.args.sites.now c.args.sites.now c.args.lives.now.items c.restart.new.lives.items c.args.begun.now c.args.begun.now c.restart.ensures.err (always_err c.restart.result _ (λ l. refl))

pub returns-in-Trim-clause-did : goal.returns-in-Trim-clause-did
returns-in-Trim-clause-did c =
    subst (λ (e : Event). IfOk c.trim.result (IsNotedStep stands_of e (happens stands_of e (λ l. has_line l c.args.begun.now) c.args.sites.now c.args.lives.now.items)
    c.args.sites.now c.trim.new.sites c.args.lives.now.items c.args.lives.now.items c.args.begun.now c.args.begun.now c.args.book.now.history.items c.args.book.now.history.items)) (sym c.in-Trim.is)
    (trim_noted stands_of c.trim.result c.args.sites.now c.args.lives.now.items c.args.begun.now c.args.book.now.history.items c.in-Trim.site c.in-Trim.image c.in-Trim.object c.trim.new.sites c.trim.ensures.outcome c.trim.ensures.sites)

pub returns-in-Trim-clause-err : goal.returns-in-Trim-clause-err
returns-in-Trim-clause-err c =
    leaves_same stands_of c.trim.result c.args.sites.now c.trim.new.sites c.args.lives.now.items c.args.lives.now.items c.args.begun.now c.trim.ensures.err (always_err c.trim.result _ refl)
