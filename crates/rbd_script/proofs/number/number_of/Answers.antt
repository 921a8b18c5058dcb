use Rattle.std.proofs.Common.{◌≡◌, ℕ, ◌<◌, ◌≤◌, ◌^◌, true, sym, ◌∙◌, Ok, Err, arith}
use Rattle.rbd_script.specs.Number.{is_numeral, number_after}
use Rattle.rbd_script.proofs.Numerals.{numeral_is_text, numeral_parses, numeral_parts}
use Rattle.rbd_script.proofs.number.number_of.Goals as goal

pub returns-in_default-clause-none : goal.returns-in_default-clause-none
returns-in_default-clause-none c = λ is. absurd (c.in_default.ensures.cases.0 (numeral_is_text c.args.token.now is))

pub returns-in-Ok-parse-clause-found : goal.returns-in-Ok-parse-clause-found
returns-in-Ok-parse-clause-found c =
    let numeral : is_numeral c.args.token.now ≡ true = sym c.is_numeral.ensures ∙ c.if-not-is_numeral.false in
    (numeral, (numeral_parses {E = ℕ} c.args.token.now (Ok c.in-Ok-parse.number) numeral (rw c.in-Ok.ensures.cases.0 at c.in-Ok-parse.ensures.value.0)).1)

not_below : (n : ℕ) → ¬ (n < 2 ^ 64) → 2 ^ 64 ≤ n
not_below n not = omega arith

pub returns-in-Err-clause-none : goal.returns-in-Err-clause-none
returns-in-Err-clause-none c = λ numeral.
    let refused = numeral_parses {E = ℕ} c.args.token.now (Err 0) numeral (rw c.in-Ok.ensures.cases.0 at c.in-Err.ensures.value.0) in
    not_below (number_after 0 c.args.token.now) (λ below. refused (omega (arith, (numeral_parts c.args.token.now numeral).0), below))
