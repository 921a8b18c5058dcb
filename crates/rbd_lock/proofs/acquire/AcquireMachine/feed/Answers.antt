use Rattle.std.proofs.Common.{◌≡◌, refl, sym, subst}
use Rattle.rbd_kinds.specs.declared.machine.Fed.{Fed}
use Rattle.rbd_kinds.specs.declared.reply.Reply.TheVariants.{Done}
use Rattle.rbd_kinds.specs.declared.machine.Fed.TheVariants as fed
use Rattle.rbd_machine.specs.Plan.{Return, IsLeft, plan_after}
use Rattle.rbd_machine.specs.Steps.{refused}
use Rattle.rbd_lock.specs.Acquire.{lock_labels, rest_of_acquire, standing_of}
use Rattle.rbd_lock.proofs.Standing.{stands_there}
use Rattle.rbd_lock.proofs.acquire.AcquireMachine.feed.Goals as goal

pub returns-in-More : goal.returns-in-More
returns-in-More c =
    let a = c.args.self.now in
    let label = c.in-More.ensures.label (Return Done) in
    let goes = c.in-More.ensures.goes (lock_labels a.site a.image) (Return Done) refl in
    subst (λ (f : Fed). IsLeft (lock_labels a.site a.image) (plan_after (rest_of_acquire a (Return Done)) f) (standing_of c.feed.new.self)) (sym c.in-Answer.is)
    (stands_there a c.feed.new.self (plan_after (rest_of_acquire a (Return Done)) (fed.Answer c.in-Answer.answer)) label goes)

pub returns-in-Ended : goal.returns-in-Ended
returns-in-Ended c =
    let a = c.args.self.now in
    subst (λ (f : Fed). plan_after (rest_of_acquire a (Return Done)) f ≡ Return Done) (sym c.in-Answer.is) (c.in-Ended.ensures.goes (lock_labels a.site a.image) (Return Done) refl)

pub returns-in-Refused : goal.returns-in-Refused
returns-in-Refused c =
    let a = c.args.self.now in
    subst (λ (f : Fed). plan_after (rest_of_acquire a (Return Done)) f ≡ refused c.in-Refused.refusal) (sym c.in-Answer.is) (c.in-Refused.ensures.goes (lock_labels a.site a.image) (Return Done) refl)
