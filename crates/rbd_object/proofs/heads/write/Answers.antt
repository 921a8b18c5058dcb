use Rattle.std.proofs.Common.{[], Some, ◌∙◌, ap}
use Rattle.std.specs.Prelude.{unwrap_or}
use Rattle.rbd_parts.specs.Contents.{overwritten}
use Rattle.rbd_object.specs.Shared.{sheaves_of}
use Rattle.rbd_object.proofs.HeadLemmas.{head_after, kept_change, undone, untouched}
use Rattle.rbd_pages.proofs.GrownLemmas.{grown_then_none, none_grown, none_then_grown}
use Rattle.rbd_object.proofs.heads.write.Goals as goal
use Rattle.rbd_kinds.proofs.Results.{on_err_always}

pub returns-in_err-kept-clause-err : goal.returns-in_err-kept-clause-err
returns-in_err-kept-clause-err c =
    on_err_always _ (untouched c.args.sheaves.now c.share.new.sheaves c.args.head.now c.requires.counted c.requires.content c.in_err-kept.ensures.err).0

pub returns-in_err-kept-clause-same : goal.returns-in_err-kept-clause-same
returns-in_err-kept-clause-same c =
    on_err_always _ (untouched c.args.sheaves.now c.share.new.sheaves c.args.head.now c.requires.counted c.requires.content c.in_err-kept.ensures.err).1

pub write_head-requires-clause-content : goal.write_head-requires-clause-content
write_head-requires-clause-content c = (head_after c.args.sheaves.now c.share.new.sheaves c.args.head.now (sheaves_of c.in_ok-kept.kept) c.requires.counted c.requires.content c.in_ok-kept.ensures.exchanged).0

pub returns-in-Ok-clause-ok : goal.returns-in-Ok-clause-ok
returns-in-Ok-clause-ok c = (kept_change c.args.wanted c.args.sheaves.now c.share.new.sheaves c.write_head.new.sheaves c.args.head.now c.write_head.new.head c.in_ok-kept.kept c.requires.counted c.requires.content
    c.in_ok-kept.ensures.exchanged c.in_ok-kept.ensures.same c.write_head.ensures.exchanged c.write_head.ensures.content)

pub returns-in-Ok-clause-bytes : goal.returns-in-Ok-clause-bytes
returns-in-Ok-clause-bytes c = c.in-Ok.ensures.ok ∙ ap (λ held. Some (overwritten (unwrap_or held []) c.args.at c.args.bytes.now)) (head_after c.args.sheaves.now c.share.new.sheaves c.args.head.now (sheaves_of c.in_ok-kept.kept) c.requires.counted c.requires.content c.in_ok-kept.ensures.exchanged).1

pub returns-in-Err-clause-err : goal.returns-in-Err-clause-err
returns-in-Err-clause-err c =
    (undone c.args.wanted c.args.sheaves.now c.write_head.new.sheaves c.let_go.new.sheaves c.args.head.now c.write_head.new.head c.in_ok-kept.kept c.requires.counted
    (kept_change c.args.wanted c.args.sheaves.now c.share.new.sheaves c.write_head.new.sheaves c.args.head.now c.write_head.new.head c.in_ok-kept.kept c.requires.counted c.requires.content
    c.in_ok-kept.ensures.exchanged c.in_ok-kept.ensures.same c.write_head.ensures.exchanged c.write_head.ensures.content) c.let_go.ensures.exchanged).0

pub returns-in-Err-clause-same : goal.returns-in-Err-clause-same
returns-in-Err-clause-same c =
    (undone c.args.wanted c.args.sheaves.now c.write_head.new.sheaves c.let_go.new.sheaves c.args.head.now c.write_head.new.head c.in_ok-kept.kept c.requires.counted
    (kept_change c.args.wanted c.args.sheaves.now c.share.new.sheaves c.write_head.new.sheaves c.args.head.now c.write_head.new.head c.in_ok-kept.kept c.requires.counted c.requires.content
    c.in_ok-kept.ensures.exchanged c.in_ok-kept.ensures.same c.write_head.ensures.exchanged c.write_head.ensures.content) c.let_go.ensures.exchanged).1
    ∙ c.in-Err.ensures.err ∙ (head_after c.args.sheaves.now c.share.new.sheaves c.args.head.now (sheaves_of c.in_ok-kept.kept) c.requires.counted c.requires.content c.in_ok-kept.ensures.exchanged).1

pub returns-in_err-kept-clause-grown : goal.returns-in_err-kept-clause-grown
returns-in_err-kept-clause-grown c = none_grown _ _ c.args.sheaves.now c.share.new.sheaves c.share.ensures.places

pub returns-in-Ok-clause-grown : goal.returns-in-Ok-clause-grown
returns-in-Ok-clause-grown c = none_then_grown _ _ c.args.sheaves.now c.share.new.sheaves c.write_head.new.sheaves c.share.ensures.places c.write_head.ensures.grown

pub returns-in-Err-clause-grown : goal.returns-in-Err-clause-grown
returns-in-Err-clause-grown c =
    grown_then_none _ _ c.args.sheaves.now c.write_head.new.sheaves c.let_go.new.sheaves
    (none_then_grown _ _ c.args.sheaves.now c.share.new.sheaves c.write_head.new.sheaves c.share.ensures.places c.write_head.ensures.grown) c.let_go.ensures.places
