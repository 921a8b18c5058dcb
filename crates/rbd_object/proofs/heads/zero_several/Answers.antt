use Rattle.std.proofs.Common.{None, true, cond, ◌∙◌, ap}
use Rattle.std.specs.Prelude.{option_map}
use Rattle.rbd_parts.specs.Parts.{parts_zeroed}
use Rattle.rbd_object.specs.Shared.{sheaves_of}
use Rattle.rbd_object.proofs.HeadLemmas.{head_after, kept_change, kept_if, restored, untouched}
use Rattle.rbd_pages.proofs.GrownLemmas.{grown_then_none, none_grown, none_then_grown}
use Rattle.rbd_object.proofs.heads.zero_several.Goals as goal
use Rattle.rbd_kinds.proofs.Results.{on_err_always}

pub returns-in_err-before-clause-err : goal.returns-in_err-before-clause-err
returns-in_err-before-clause-err c =
    on_err_always _ (untouched c.args.sheaves.now c.share.new.sheaves c.args.head.now c.requires.counted c.requires.content c.in_err-before.ensures.err).0

pub returns-in_err-before-clause-same : goal.returns-in_err-before-clause-same
returns-in_err-before-clause-same c =
    on_err_always _ (untouched c.args.sheaves.now c.share.new.sheaves c.args.head.now c.requires.counted c.requires.content c.in_err-before.ensures.err).1

pub zero_each-requires-clause-content : goal.zero_each-requires-clause-content
zero_each-requires-clause-content c = (head_after c.args.sheaves.now c.share.new.sheaves c.args.head.now (sheaves_of c.in_ok-before.before) c.requires.counted c.requires.content c.in_ok-before.ensures.exchanged).0

pub keep_if-requires-clause-content : goal.keep_if-requires-clause-content
keep_if-requires-clause-content c = (kept_change true c.args.sheaves.now c.share.new.sheaves c.zero_each.new.sheaves c.args.head.now c.zero_each.new.head c.in_ok-before.before c.requires.counted c.requires.content
    c.in_ok-before.ensures.exchanged c.in_ok-before.ensures.same c.zero_each.ensures.exchanged c.zero_each.ensures.content).kept_is

pub returns-in-Ok-clause-ok : goal.returns-in-Ok-clause-ok
returns-in-Ok-clause-ok c = (kept_if true c.args.wanted c.args.sheaves.now c.zero_each.new.sheaves c.keep_if.new.sheaves c.args.head.now c.zero_each.new.head c.in_ok-before.before c.keep_if.result c.requires.counted
    (kept_change true c.args.sheaves.now c.share.new.sheaves c.zero_each.new.sheaves c.args.head.now c.zero_each.new.head c.in_ok-before.before c.requires.counted c.requires.content
    c.in_ok-before.ensures.exchanged c.in_ok-before.ensures.same c.zero_each.ensures.exchanged c.zero_each.ensures.content) c.keep_if.ensures.exchanged c.keep_if.ensures.content
    (c.keep_if.ensures.bytes ∙ ap (λ x. cond c.args.wanted x None) (kept_change true c.args.sheaves.now c.share.new.sheaves c.zero_each.new.sheaves c.args.head.now c.zero_each.new.head c.in_ok-before.before c.requires.counted c.requires.content
    c.in_ok-before.ensures.exchanged c.in_ok-before.ensures.same c.zero_each.ensures.exchanged c.zero_each.ensures.content).bytes)).0

pub returns-in-Ok-clause-bytes : goal.returns-in-Ok-clause-bytes
returns-in-Ok-clause-bytes c = (kept_if true c.args.wanted c.args.sheaves.now c.zero_each.new.sheaves c.keep_if.new.sheaves c.args.head.now c.zero_each.new.head c.in_ok-before.before c.keep_if.result c.requires.counted
    (kept_change true c.args.sheaves.now c.share.new.sheaves c.zero_each.new.sheaves c.args.head.now c.zero_each.new.head c.in_ok-before.before c.requires.counted c.requires.content
    c.in_ok-before.ensures.exchanged c.in_ok-before.ensures.same c.zero_each.ensures.exchanged c.zero_each.ensures.content) c.keep_if.ensures.exchanged c.keep_if.ensures.content
    (c.keep_if.ensures.bytes ∙ ap (λ x. cond c.args.wanted x None) (kept_change true c.args.sheaves.now c.share.new.sheaves c.zero_each.new.sheaves c.args.head.now c.zero_each.new.head c.in_ok-before.before c.requires.counted c.requires.content
    c.in_ok-before.ensures.exchanged c.in_ok-before.ensures.same c.zero_each.ensures.exchanged c.zero_each.ensures.content).bytes)).1 ∙ c.in-Ok.ensures.ok ∙ ap (option_map (parts_zeroed c.args.parts.now)) (head_after c.args.sheaves.now c.share.new.sheaves c.args.head.now (sheaves_of c.in_ok-before.before) c.requires.counted c.requires.content c.in_ok-before.ensures.exchanged).1

pub returns-in-Err-clause-err : goal.returns-in-Err-clause-err
returns-in-Err-clause-err c = (restored c.args.sheaves.now c.zero_each.new.sheaves c.let_go.new.sheaves c.args.head.now c.zero_each.new.head c.in_ok-before.before c.requires.counted
    (kept_change true c.args.sheaves.now c.share.new.sheaves c.zero_each.new.sheaves c.args.head.now c.zero_each.new.head c.in_ok-before.before c.requires.counted c.requires.content
    c.in_ok-before.ensures.exchanged c.in_ok-before.ensures.same c.zero_each.ensures.exchanged c.zero_each.ensures.content) c.let_go.ensures.exchanged).0

pub returns-in-Err-clause-same : goal.returns-in-Err-clause-same
returns-in-Err-clause-same c = (restored c.args.sheaves.now c.zero_each.new.sheaves c.let_go.new.sheaves c.args.head.now c.zero_each.new.head c.in_ok-before.before c.requires.counted
    (kept_change true c.args.sheaves.now c.share.new.sheaves c.zero_each.new.sheaves c.args.head.now c.zero_each.new.head c.in_ok-before.before c.requires.counted c.requires.content
    c.in_ok-before.ensures.exchanged c.in_ok-before.ensures.same c.zero_each.ensures.exchanged c.zero_each.ensures.content) c.let_go.ensures.exchanged).1

pub returns-in_err-before-clause-grown : goal.returns-in_err-before-clause-grown
returns-in_err-before-clause-grown c = none_grown _ _ c.args.sheaves.now c.share.new.sheaves c.share.ensures.places

pub returns-in-Ok-clause-grown : goal.returns-in-Ok-clause-grown
returns-in-Ok-clause-grown c =
    grown_then_none _ _ c.args.sheaves.now c.zero_each.new.sheaves c.keep_if.new.sheaves
    (none_then_grown _ _ c.args.sheaves.now c.share.new.sheaves c.zero_each.new.sheaves c.share.ensures.places c.zero_each.ensures.grown) c.keep_if.ensures.places

pub returns-in-Err-clause-grown : goal.returns-in-Err-clause-grown
returns-in-Err-clause-grown c =
    grown_then_none _ _ c.args.sheaves.now c.zero_each.new.sheaves c.let_go.new.sheaves
    (none_then_grown _ _ c.args.sheaves.now c.share.new.sheaves c.zero_each.new.sheaves c.share.ensures.places c.zero_each.ensures.grown) c.let_go.ensures.places
