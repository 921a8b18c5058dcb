use Rattle.std.proofs.Common.{◌≡◌, ◌∙◌, ap, arith, drop}
use Rattle.std.proofs.lemmas.List.{drop-drop}
use Rattle.rbd_journal.proofs.entry.drop_front.Goals as goal

pub loop-preserved : goal.loop-preserved
loop-preserved c =
    c.pop_front.ensures.rest ∙ ap (drop 1) c.loop.invariant ∙ drop-drop 1 c.loop.counter c.args.entries.now.items

pub returns : goal.returns
returns c =
    let done : c.loop.counter ≡ c.args.count = omega (arith, c.loop-test.false, c.loop.auto.counter-end) in
    c.loop.invariant ∙ ap (λ n. drop n c.args.entries.now.items) done
