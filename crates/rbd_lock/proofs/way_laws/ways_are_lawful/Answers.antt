use Rattle.rbd_kinds.specs.declared.reply.Reply.TheVariants.{Done}
use Rattle.rbd_machine.specs.Knowledge.{nothing_known}
use Rattle.rbd_machine.specs.Plan.{Return}
use Rattle.rbd_machine.proofs.AtLeast.{knows_itself}
use Rattle.rbd_lock.proofs.Lawful.{lawful_acquire, lawful_taking}
use Rattle.rbd_lock.proofs.way_laws.ways_are_lawful.Goals as goal

pub returns-clause-way : goal.returns-clause-way
returns-clause-way c = λ known_at k site image watched next same lawful. lawful_acquire known_at site image k same watched next lawful

pub returns-clause-alone : goal.returns-clause-alone
returns-clause-alone c = λ site image watched. record {
  known_at = λ label. nothing_known;
  plan = lawful_acquire (λ label. nothing_known) site image nothing_known (knows_itself nothing_known) watched (Return Done) tt;
  labels = λ label fit. lawful_taking (λ label. nothing_known) site image nothing_known (knows_itself nothing_known) (Return Done) tt;
}
