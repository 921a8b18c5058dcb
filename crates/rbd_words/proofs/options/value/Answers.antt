use Rattle.std.proofs.Common.{None, Some, refl, sym, ◌∙◌}
use Rattle.clap.specs.Matches.{found_of}
use Rattle.rbd_words.proofs.Matched.{no_value, one_value}
use Rattle.rbd_words.proofs.NumberLemmas.{once_read}
use Rattle.rbd_words.proofs.options.value.Goals as goal

pub returns-in_err-number-in-Some : goal.returns-in_err-number-in-Some
returns-in_err-number-in-Some c =
    c.from_residual.ensures
    ∙ one_value (found_of c.args.matches.now) c.args.name.now c.get_str.result c.get_str.ensures c.in-Some.text None c.in-Some.is
    (sym c.in_err-number-in-Some.was ∙ once_read None c.number.result c.in-Some.text.now refl c.number.ensures.found c.number.ensures.none)

pub returns-in-None : goal.returns-in-None
returns-in-None c = no_value (found_of c.args.matches.now) c.args.name.now c.get_str.result c.get_str.ensures c.in-None.is

pub returns-in_ok-number-in-Some : goal.returns-in_ok-number-in-Some
returns-in_ok-number-in-Some c =
    one_value (found_of c.args.matches.now) c.args.name.now c.get_str.result c.get_str.ensures c.in-Some.text (Some c.in_ok-number-in-Some.field-0) c.in-Some.is
    (sym c.in_ok-number-in-Some.was ∙ once_read None c.number.result c.in-Some.text.now refl c.number.ensures.found c.number.ensures.none)
