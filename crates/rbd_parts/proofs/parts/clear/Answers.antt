use Rattle.std.proofs.Common.{ℕ, ◌≡◌, ◌+◌, ◌-◌, arith, ◌∙◌, ap, replicate}
use Rattle.std.proofs.lemmas.List.{places}
use Rattle.rbd_parts.proofs.ContentsLemmas.{zeroed-put}
use Rattle.rbd_parts.proofs.parts.clear.Goals as goal

there_and_back : (m n : ℕ) → m + n - m ≡ n
there_and_back m n = omega arith

pub returns : goal.returns
returns c =
    rw (there_and_back c.min-from.result c.min-count.result)
    (zeroed-put c.args.bytes.now c.args.at c.args.len c.min-from.result c.min-count.result _ c.min-from.ensures c.min-count.ensures
    (c.fill.ensures.after (λ y same. same) ∙ ap (λ n. replicate n 0) (grind (arith, places))))
