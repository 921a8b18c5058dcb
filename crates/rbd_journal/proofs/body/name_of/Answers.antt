use Rattle.std.proofs.Common.{sym, subst}
use Rattle.rbd_values.specs.Name.{IsName}
use Rattle.rbd_journal.proofs.Names.{is_name}
use Rattle.rbd_journal.proofs.body.name_of.Goals as goal

pub unwrap-requires : goal.unwrap-requires
unwrap-requires c = c.parse.ensures.valid.1 (subst IsName (sym c.in_ok-text-in-None.ensures) (is_name c.args.text.now (sym c.in-None.ensures) c.requires.some c.requires.few))
