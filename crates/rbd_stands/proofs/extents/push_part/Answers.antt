use Rattle.std.proofs.Common.{◌++◌, sym, ap, ◌∙◌}
use Rattle.std.proofs.lemmas.List.{append-nil}
use Rattle.std.proofs.lemmas.Result.{on_ok_weaker}
use Rattle.rbd_stands.proofs.ExtentLemmas.{no_places, kept_places}
use Rattle.rbd_stands.proofs.extents.push_part.Goals as goal

pub returns-then-kept-eq0 : goal.returns-then-kept-eq0
returns-then-kept-eq0 c = λ size is.
    sym (append-nil c.args.found.now)
    ∙ ap (λ xs. c.args.found.now ++ xs) (sym (no_places c.args.layout.now c.args.object size c.args.held is c.args.part.now (sym c.kept_len-kept.ensures ∙ c.if-kept-eq0.true)))

pub returns : goal.returns
returns c =
    on_ok_weaker c.push_between.result
    (λ pushed size is. pushed ∙ ap (λ xs. c.args.found.now ++ xs) (kept_places c.args.layout.now c.args.object size c.args.held c.kept_len-kept.result is c.args.part.now c.kept_len-kept.ensures))
    c.push_between.ensures
