use Rattle.std.proofs.Common.{◌≡◌, true}
use Rattle.rbd_machine.proofs.Alone.{refused_alone}
use Rattle.rbd_machine.proofs.Refused.{own_refuses, refused_behind_another}
use Rattle.rbd_machine.proofs.laws.own_images_refuse.Goals as goal

pub returns-clause-own : goal.returns-clause-own
returns-clause-own c = λ refuses late. own_refuses refuses (λ y. late y ≡ true)

pub returns-clause-others : goal.returns-clause-others
returns-clause-others c = λ images refuses late. refused_behind_another refuses (λ y. late y ≡ true) images

pub returns-clause-alone : goal.returns-clause-alone
returns-clause-alone c = λ refuses late. refused_alone refuses (λ y. late y ≡ true)
