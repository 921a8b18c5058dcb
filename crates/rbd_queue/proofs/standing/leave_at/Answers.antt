use Rattle.std.proofs.Common.{Bool, eqb, not, rules}
use Rattle.std.proofs.lemmas.Fn.{filter_same}
use Rattle.rbd_queue.specs.declared.standing.LineMember.{LineMember}
use Rattle.rbd_queue.proofs.standing.leave_at.Goals as goal

pub returns-clause-members : goal.returns-clause-members
returns-clause-members c =
    let others : LineMember → Bool = λ s. not (eqb s.slot c.args.slot) in
    filter_same _ others _ (λ x b f' h. search rules) c.args.members.now.items c.retain.new.self.items c.retain.ensures.filtered
