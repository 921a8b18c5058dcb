use Rattle.std.proofs.Common.{ap, ◌∙◌, drop, arith}
use Rattle.std.specs.Prelude.{nat_lt}
use Rattle.std.specs.List.{list_any}
use Rattle.rbd_pages.proofs.PagingLemmas.{value_in_part}
use Rattle.rbd_pages.proofs.lists.needs_store.Goals as goal

pub returns : goal.returns
returns c = λ j below here some.
    c.has_value.ensures
    ∙ ap (list_any (λ b. nat_lt 0 b)) (c.split_at-2.ensures.back ∙ ap (drop c.min-start.result) c.split_at.ensures.front)
    ∙ value_in_part c.args.bytes.now c.args.at c.args.k j c.min-start.result c.min-end.result (grind arith) (grind arith) below here some
