use Rattle.std.proofs.Common.{◌∙◌, refl, ap}
use Rattle.rbd_machine.specs.Plan.{plan_after}
use Rattle.rbd_lock.specs.Acquire.{lock_of, rest_of_acquire}
use Rattle.rbd_client.proofs.going.go_on.Goals as goal

pub returns-in-Refused : goal.returns-in-Refused
returns-in-Refused c =
    (refl, λ next. ap (plan_after (rest_of_acquire c.args.way next)) c.in-Answer.is ∙ c.in-Refused.ensures.goes (λ l. lock_of c.args.way next) next refl)
