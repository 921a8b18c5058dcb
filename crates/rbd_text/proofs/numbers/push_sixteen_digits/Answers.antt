use Rattle.std.proofs.Common.{rules}
use Rattle.rbd_text.specs.Numbers.{sixteen_digits}
use Rattle.rbd_text.proofs.numbers.push_sixteen_digits.Goals as goal

pub returns : goal.returns
unfolding sixteen_digits
returns c = search rules
