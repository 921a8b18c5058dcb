use Rattle.std.proofs.Common.{◌≡◌, ℕ, true, false, Ok, Err, sym, ap, ◌∙◌}
use Rattle.std.specs.Prelude.{decimal}
use Rattle.rbd_words.proofs.NumberLemmas.{printed_fits, printed_parses, same_text}
use Rattle.rbd_words.proofs.options.number.Goals as goal

pub returns-in_default-clause-none : goal.returns-in_default-clause-none
returns-in_default-clause-none c = λ n is small. printed_parses c.args.value.now (Err c.in_default.field-0) n is small c.in_default.ensures.value.0 (printed_fits c.args.value.now n is small)

pub returns-else-eq-clause-none : goal.returns-else-eq-clause-none
returns-else-eq-clause-none c = λ n is small.
    let read = printed_parses {E = ℕ} c.args.value.now (Ok c.in-Ok.number) n is small c.in-Ok.ensures.value.0 in
    let same : c.format.result.now ≡ c.args.value.now = c.format.ensures.text ∙ ap decimal read.1 ∙ sym is in
    let no : true ≡ false = sym (same_text c.format.result.now c.args.value.now same) ∙ sym c.eq.ensures ∙ c.if-eq.false in cc
