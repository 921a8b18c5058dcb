use Rattle.std.proofs.Common.{sym, ap, ◌∙◌, cond, ◌∷◌, []}
use Rattle.rbd_site.specs.Log.{trim_line}
use Rattle.rbd_world.specs.Step.{next_number, with_log_lines}
use Rattle.rbd_world.proofs.Stored.{trimmed_here}
use Rattle.rbd_world.proofs.trim.trim_at.Goals as goal

pub returns-then-branch-clause-done : goal.returns-then-branch-clause-done
returns-then-branch-clause-done c =
    let old = c.args.at.now in
    trimmed_here c.args.site old c.trim.new.self c.args.image c.args.object
    (sym c.in_ok-trim.ensures.found ∙ c.if-branch.true)
    (c.in_ok-trim.ensures.ok ∙ ap (λ b. cond b (with_log_lines (trim_line (next_number old) c.args.image c.args.object ∷ []) old) old) c.if-branch.true)
    c.in_ok-trim.ensures.records
