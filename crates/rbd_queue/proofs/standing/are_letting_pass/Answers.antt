use Rattle.std.proofs.Common.{◌+◌, ◌∙◌, ◌&&◌, drop, ap, sym}
use Rattle.rbd_queue.proofs.Walked.{one_on, all_let}
use Rattle.rbd_queue.proofs.standing.are_letting_pass.Goals as goal

pub returns-then-not-is_letting_pass : goal.returns-then-not-is_letting_pass
returns-then-not-is_letting_pass c = λ held.
    let xs = c.args.members.now in
    let i = c.loop-standing.standing-index in
    let x = c.standing-item.result in
    sym (ap (λ b. b && all_let held c.args.slot c.args.sharing (drop (i + 1) xs)) (sym (c.is_letting_pass.ensures held) ∙ c.if-not-is_letting_pass.true))
    ∙ (sym (one_on held c.args.slot c.args.sharing xs i x c.loop-standing-test.true c.standing-item.is (sym c.eq.ensures ∙ c.if-eq.false)) ∙ c.loop-standing.invariant held)

pub loop-standing-preserved : goal.loop-standing-preserved
loop-standing-preserved c = λ held.
    let xs = c.args.members.now in
    let i = c.loop-standing.standing-index in
    let x = c.standing-item.result in
    sym (ap (λ b. b && all_let held c.args.slot c.args.sharing (drop (i + 1) xs)) (sym (c.is_letting_pass.ensures held) ∙ c.if-not-is_letting_pass.false))
    ∙ (sym (one_on held c.args.slot c.args.sharing xs i x c.loop-standing-test.true c.standing-item.is (sym c.eq.ensures ∙ c.if-eq.false)) ∙ c.loop-standing.invariant held)
