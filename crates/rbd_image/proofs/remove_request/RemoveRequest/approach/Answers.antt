use Rattle.std.proofs.Common.{sym, subst}
use Rattle.rbd_machine.specs.Plan.{Goto, IsLeft, plan_after, without_labels}
use Rattle.rbd_machine.specs.Ready.{IsReadyFor}
use Rattle.rbd_image.specs.RemovalRequest.{rest_at, rest_of_way, rest_with, IsReadyAt}
use Rattle.rbd_image.specs.Remove.{remove_owned, unless_watched}
use Rattle.rbd_image.proofs.RemovalStages.{goes_behind_look}
use Rattle.rbd_image.proofs.remove_request.RemoveRequest.approach.Goals as goal

pub returns-in-UnderLock : goal.returns-in-UnderLock
returns-in-UnderLock c =
    let old = c.args.self.now in
    let fed = c.args.fed.now in
    let image = c.in-UnderLock.image in
    subst (λ s. IsLeft (λ x. Goto x) (plan_after (rest_at s old) fed) (without_labels (rest_with old.removal (unless_watched old.site old.session image)))) (sym c.requires.at)
    (goes_behind_look old image fed (plan_after (rest_of_way old) fed) (subst (λ s. IsReadyFor (IsReadyAt s old) fed) c.requires.at c.requires.ready)
    (c.in-UnderLock.ensures (unless_watched old.site old.session) (remove_owned old.site old.session)))
