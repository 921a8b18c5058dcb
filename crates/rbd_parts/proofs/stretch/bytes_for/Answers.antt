use Rattle.std.proofs.Common.{◌≡◌, subst, rules}
use Rattle.std.specs.Prelude.{IfOk}
use Rattle.rbd_parts.proofs.StretchLemmas.{sole_part}
use Rattle.rbd_parts.proofs.stretch.bytes_for.Goals as goal

pub returns-then-ends_within : goal.returns-then-ends_within
returns-then-ends_within c =
    subst (λ bytes. IfOk c.slice.result (λ taken. taken ≡ bytes))
    (sole_part c.args.parts.now _ c.args.from c.args.bytes.now c.in-len1.len_at_least c.in-len1.len_below (search rules))
    c.slice.ensures
