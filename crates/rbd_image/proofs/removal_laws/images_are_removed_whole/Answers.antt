use Rattle.rbd_kinds.specs.declared.reply.Reply.TheVariants as reply
use Rattle.rbd_machine.specs.Plan.{Return}
use Rattle.rbd_image.proofs.RemovalsWalked.{removed, removed_whole}
use Rattle.rbd_image.proofs.removal_laws.images_are_removed_whole.Goals as goal

pub returns-clause-part : goal.returns-clause-part
returns-clause-part c = λ site image h feds steps walk. (removed (Return reply.Done) tt site image h feds steps walk).1

pub returns-clause-request : goal.returns-clause-request
returns-clause-request c = λ site session name feds steps walk. (removed_whole (Return reply.Done) tt site session name feds steps walk).1
