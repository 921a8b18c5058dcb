use Rattle.rbd_machine.specs.Knowledge.{nothing_known}
use Rattle.rbd_machine.proofs.AtLeast.{jump_lawful}
use Rattle.rbd_image.proofs.Lawful.{lawful_listing}
use Rattle.rbd_image.proofs.laws.listings_are_lawful.Goals as goal

pub returns : goal.returns
returns c = λ home command. record {
  known_at = λ label. nothing_known;
  plan = lawful_listing (λ label. nothing_known) home command;
  labels = jump_lawful (λ label. nothing_known);
}
