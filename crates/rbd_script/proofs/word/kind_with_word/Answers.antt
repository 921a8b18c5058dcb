use Rattle.std.proofs.Common.{sym, refl}
use Rattle.rbd_script.proofs.KindWords.{no_kind, some_kind}
use Rattle.rbd_script.proofs.word.kind_with_word.Goals as goal

pub returns-in-Some : goal.returns-in-Some
returns-in-Some c = sym (some_kind c.in-Some.kind c.args.token.now c.in-Some.ensures.some)

pub returns-in-None : goal.returns-in-None
returns-in-None c = sym (no_kind c.args.token.now (c.in-None.ensures.none refl))
