use Rattle.std.proofs.Common.{Some, None, sym, ◌∙◌}
use Rattle.clap.specs.Matches.{found_of}
use Rattle.clap.specs.Walk.{rows_of}
use Rattle.rbd_words.proofs.Matched.{load_is, nothing_asked, run_is}
use Rattle.rbd_words.proofs.words.asked.Goals as goal

pub returns-in_err-name-clause-asked : goal.returns-in_err-name-clause-asked
returns-in_err-name-clause-asked c = λ words matched. c.from_residual.ensures ∙ nothing_asked words c.args.matches.now matched c.in_err-name.ensures.name

pub returns-then-eq-clause-asked : goal.returns-then-eq-clause-asked
returns-then-eq-clause-asked c = λ words matched.
    run_is words c.args.matches.now matched c.in_ok-name.name.now (rows_of (found_of c.in_ok-name.options.now)) c.in_ok-name.ensures.name c.in_ok-name.ensures.rows
    c.mode.result c.if-eq.ensures c.mode.ensures.trace c.mode.ensures.replies

pub returns-in_err-load-clause-asked : goal.returns-in_err-load-clause-asked
returns-in_err-load-clause-asked c = λ words matched.
    c.from_residual-in_err-load.ensures
    ∙ load_is words c.args.matches.now matched c.in_ok-name.name.now (rows_of (found_of c.in_ok-name.options.now)) c.in_ok-name.ensures.name c.in_ok-name.ensures.rows
    None c.if-eq.ensures (sym c.in_err-load.was ∙ c.load.ensures.asked)

pub returns-clause-asked : goal.returns-clause-asked
returns-clause-asked c = λ words matched.
    load_is words c.args.matches.now matched c.in_ok-name.name.now (rows_of (found_of c.in_ok-name.options.now)) c.in_ok-name.ensures.name c.in_ok-name.ensures.rows
    (Some c.in_ok-load.field-0) c.if-eq.ensures (sym c.in_ok-load.was ∙ c.load.ensures.asked)
