use Rattle.std.proofs.Common.{slice_index, arith}
use Rattle.hex.specs.Hex.{lower_digits}
use Rattle.rbd_text.proofs.Digits.{digits_printed}
use Rattle.rbd_text.proofs.numbers.+push_digits.Goals as goal

pub returns : goal.returns
returns t c =
    digits_printed (slice_index lower_digits) c.args.text.now.items c.push_digits.new.text.items c.push.new.self.items c.args.number c.digit.result (omega arith)
    c.in_ok-push_digits.ensures c.digit.ensures c.in_ok-push.ensures.items
