use Rattle.rbd_script.proofs.DigitTable.{no_digit, some_digit}
use Rattle.rbd_script.proofs.payload.digit.Goals as goal

pub returns-then-value-lt16 : goal.returns-then-value-lt16
returns-then-value-lt16 c = some_digit c.args.byte c.from.result c.from.ensures c.ranges.byte.fits c.if-value-lt16.true

pub returns-else-value-lt16 : goal.returns-else-value-lt16
returns-else-value-lt16 c = no_digit c.args.byte c.from.result c.from.ensures c.ranges.byte.fits c.if-value-lt16.false
