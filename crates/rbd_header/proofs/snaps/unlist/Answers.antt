use Rattle.std.proofs.Common.{Bool, eqb, not, rules}
use Rattle.std.proofs.lemmas.Fn.{filter_same}
use Rattle.rbd_kinds.specs.declared.header.SnapView.{SnapView}
use Rattle.rbd_header.proofs.snaps.unlist.Goals as goal

pub returns : goal.returns
returns c =
    let others : SnapView → Bool = λ s. not (eqb s.id c.args.snap) in
    filter_same _ others _ (λ x b f' h. search rules) c.args.snaps.now.items c.retain.new.self.items c.retain.ensures.filtered
