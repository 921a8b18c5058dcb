use Rattle.std.proofs.Common.{sym, subst, ap, ◌∙◌}
use Rattle.rbd_kinds.specs.declared.machine.Fed.TheVariants as fed
use Rattle.rbd_machine.specs.Plan.{Plan, plan_after}
use Rattle.rbd_machine.specs.Steps.{IsGoing, Progresses}
use Rattle.rbd_pieces.specs.Full.{rest_of_full}
use Rattle.rbd_snap.specs.Restore.{Restoring, rest_from, rest_of_others, rest_of_restore}
use Rattle.rbd_snap.proofs.restore.Restore.feed.Goals as goal

pub returns-in-Reading : goal.returns-in-Reading
returns-in-Reading c = λ next.
    let i = c.self.inside in
    let old : Restoring = record { site = i.site; image = i.image; header = i.header; snap = i.snap; piece = i.piece; others = i.others.items; stage = i.stage; readied = i.readied } in
    let f = fed.Answer c.args.answer.now in
    subst (λ (v : Restoring). Progresses next (plan_after (rest_of_restore v next) f) c.begin.result (rest_of_restore c.begin.new.self next)) c.self.view_is
    (subst (λ s. Progresses next (plan_after (rest_from s old next) f) c.begin.result (rest_of_restore c.begin.new.self next)) (sym c.in-Reading.is) (c.begin.ensures next))

pub returns-in-More : goal.returns-in-More
returns-in-More c = λ next.
    let i = c.self.inside in
    let old : Restoring = record { site = i.site; image = i.image; header = i.header; snap = i.snap; piece = i.piece; others = i.others.items; stage = i.stage; readied = i.readied } in
    let f = fed.Answer c.args.answer.now in
    let left : Plan = rest_of_full c.feed.new.self (rest_of_others old next) in
    subst (λ (v : Restoring). IsGoing (plan_after (rest_of_restore v next) f) left) c.self.view_is
    (subst (λ s. IsGoing (plan_after (rest_from s old next) f) left) (sym c.in-Replacing.is) (c.in-More.ensures (rest_of_others old next)))

pub returns-in-Ended : goal.returns-in-Ended
returns-in-Ended c = λ next.
    let i = c.self.inside in
    let old : Restoring = record { site = i.site; image = i.image; header = i.header; snap = i.snap; piece = i.piece; others = i.others.items; stage = i.stage; readied = i.readied } in
    let f = fed.Answer c.args.answer.now in
    subst (λ (v : Restoring). Progresses next (plan_after (rest_of_restore v next) f) c.go_on.result (rest_of_restore c.go_on.new.self next)) c.self.view_is
    (subst (λ to. Progresses next to c.go_on.result (rest_of_restore c.go_on.new.self next)) (sym (ap (λ s. plan_after (rest_from s old next) f) c.in-Replacing.is ∙ c.in-Ended.ensures (rest_of_others old next))) (c.go_on.ensures next))
