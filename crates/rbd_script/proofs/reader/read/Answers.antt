use Rattle.std.proofs.Common.{◌≡◌, ◌+◌, ◌<◌, ℕ, Bool, [], List, length, take, Err, sym, ap, ◌∙◌}
use Rattle.std.proofs.lemmas.Result.{err_from_is_err_and}
use Rattle.rbd_script.specs.declared.fault.LineCause.TheVariants.{ExtraPart}
use Rattle.rbd_script.specs.Reading.{no_script, reading, too_long, with_lines}
use Rattle.rbd_script.specs.Token.{text_lines, without_last}
use Rattle.rbd_script.proofs.LineLemmas.{at_line_weaker, fault_of_lines, lines_on, no_lines, read_beyond, read_within}
use Rattle.rbd_script.proofs.reader.read.Goals as goal

pub returns-in_err-script-clause-fault : goal.returns-in_err-script-clause-fault
returns-in_err-script-clause-fault c =
    let p = err_from_is_err_and c.from_residual.result c.from_residual.ensures.1 in
    rw (p.1, p.2) (at_line_weaker
    (λ fault. reading c.args.threads c.args.bytes.now ≡ Err fault)
    (λ fault. with_lines c.args.threads 1 no_script (text_lines c.args.bytes.now) ≡ Err fault)
    (λ fault is. read_within c.args.threads c.args.bytes.now c.if-bytes-le-SCRIPT_LIMIT.true ∙ is)
    c.in_err-script.field-0.0
    c.in_err-script.ensures.all_fault)

pub returns-in_err-take_line-clause-fault : goal.returns-in_err-take_line-clause-fault
returns-in_err-take_line-clause-fault c =
    let p = err_from_is_err_and c.from_residual-in_err-take_line.result c.from_residual-in_err-take_line.ensures.1 in
    rw (p.1, p.2) (fault_of_lines c.args.threads c.in_ok-script.number c.in_ok-script.script c.take_line.new.self c.in_ok-script.last.now [] _ _
    (read_within c.args.threads c.args.bytes.now c.if-bytes-le-SCRIPT_LIMIT.true ∙ c.in_ok-script.ensures.all)
    c.in_err-take_line.ensures.script)

pub returns-then-bytes-le-SCRIPT_LIMIT-clause-script : goal.returns-then-bytes-le-SCRIPT_LIMIT-clause-script
returns-then-bytes-le-SCRIPT_LIMIT-clause-script c =
    read_within c.args.threads c.args.bytes.now c.if-bytes-le-SCRIPT_LIMIT.true
    ∙ c.in_ok-script.ensures.all
    ∙ lines_on c.args.threads c.in_ok-script.number c.in_ok-script.script c.take_line.new.self c.in_ok-script.last.now [] c.in_ok-take_line.ensures.script
    ∙ no_lines c.args.threads (c.in_ok-script.number + 1) c.take_line.new.self

-- what is read of the bytes within the limit decides
beyond : (threads : Bool) (bytes within : List ℕ) → within ≡ take 16777216 bytes → 16777216 < length bytes
    → reading threads bytes ≡ too_long (length (without_last (text_lines within))) (with_lines threads 1 no_script (without_last (text_lines within)))
beyond threads bytes within is long = rw is (read_beyond threads bytes long)

pub returns-in_err-line-clause-fault : goal.returns-in_err-line-clause-fault
returns-in_err-line-clause-fault c =
    let p = err_from_is_err_and c.from_residual-in_err-line.result c.from_residual-in_err-line.ensures.1 in
    let within = c.split_at.result.0.now in
    rw (p.1, p.2) (at_line_weaker
    (λ fault. reading c.args.threads c.args.bytes.now ≡ Err fault)
    (λ fault. with_lines c.args.threads 1 no_script (without_last (text_lines within)) ≡ Err fault)
    (λ fault is. beyond c.args.threads c.args.bytes.now within c.split_at.ensures.front c.if-bytes-le-SCRIPT_LIMIT.false ∙ ap (too_long (length (without_last (text_lines within)))) is)
    c.in_err-line.field-0.0
    c.in_err-line.ensures.whole_fault)

pub returns-clause-fault : goal.returns-clause-fault
returns-clause-fault c =
    let within = c.split_at.result.0.now in
    beyond c.args.threads c.args.bytes.now within c.split_at.ensures.front c.if-bytes-le-SCRIPT_LIMIT.false
    ∙ ap (too_long (length (without_last (text_lines within)))) c.in_ok-line.ensures.whole
    ∙ ap (λ n. Err (record { line = n; cause = ExtraPart })) (sym c.in_ok-line.ensures.number)
