use Rattle.std.proofs.Common.{rules, sym, subst}
use Rattle.std.specs.Fmt.{DisplaysOnOk, HasWritten, ◌++?◌}
use Rattle.std.specs.Prelude.{Some, codes}
use Rattle.rbd_journal.specs.Texts.{fault_text}
use Rattle.rbd_journal.proofs.Hex.{told_hex}
use Rattle.rbd_journal.proofs.fault.FrameFaultDisplay.fmt.Goals as goal

pub returns-in-BadKind-clause-writes : goal.returns-in-BadKind-clause-writes
returns-in-BadKind-clause-writes g c = λ plain ok.
    let hex = told_hex c.in_radix.result c.laid_out.result c.in-BadKind.kind c.in_radix.ensures c.laid_out.ensures (search rules) in
    subst (λ fault. HasWritten g.W.Write.write_str_gives c.args.f.now (fault_text fault) c.write.new.self) (sym c.in-BadKind.is)
    (subst (λ o. DisplaysOnOk g.W.Write.write_str_gives c.args.f.now c.write.result (Some (codes "no kind of frame is 0x") ++? o) c.write.new.self) hex c.write.ensures.writes plain ok)
