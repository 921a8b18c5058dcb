use Rattle.std.proofs.Common.{rules}
use Rattle.rbd_text.specs.Numbers.{hexadecimal}
use Rattle.rbd_text.proofs.numbers.push_hexadecimal.Goals as goal

pub returns-then-number-eq0 : goal.returns-then-number-eq0
unfolding hexadecimal
returns-then-number-eq0 c = search rules

pub returns : goal.returns
unfolding hexadecimal
returns c = search rules
