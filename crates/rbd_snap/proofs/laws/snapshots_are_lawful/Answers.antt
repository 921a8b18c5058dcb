use Rattle.rbd_machine.specs.Knowledge.{nothing_known}
use Rattle.rbd_machine.proofs.AtLeast.{jump_lawful}
use Rattle.rbd_snap.proofs.Lawful.{lawful_snap}
use Rattle.rbd_snap.proofs.laws.snapshots_are_lawful.Goals as goal

pub returns : goal.returns
returns c = λ home command. record {
  known_at = λ label. nothing_known;
  plan = lawful_snap (λ label. nothing_known) home command;
  labels = jump_lawful (λ label. nothing_known);
}
