use Rattle.std.proofs.Common.{◌∙◌, length}
use Rattle.rbd_object.proofs.HeadLemmas.{filled_bytes, exchanged_refused}
use Rattle.rbd_object.proofs.EachLemmas.{whole_grown}
use Rattle.rbd_object.proofs.heads.filled.Goals as goal
use Rattle.rbd_kinds.proofs.Results.{on_err_always}

pub returns-in_err-write-clause-err : goal.returns-in_err-write-clause-err
returns-in_err-write-clause-err c =
    on_err_always _ (exchanged_refused c.args.sheaves.now c.write.new.sheaves c.new-content.result c.write.new.self c.new-content.ensures
    c.in_err-write.ensures.exchanged c.in_err-write.ensures.content c.in_err-write.ensures.err)

pub returns-clause-bytes : goal.returns-clause-bytes
returns-clause-bytes c = c.in_ok-write.ensures.ok ∙ filled_bytes c.args.sheaves.now c.new-content.result c.args.bytes.now c.new-content.ensures

pub returns-in_err-write-clause-grown : goal.returns-in_err-write-clause-grown
returns-in_err-write-clause-grown c = whole_grown c.args.sheaves.now c.write.new.sheaves c.new-content.result.len (length c.args.bytes.now) c.write.ensures.grown

pub returns-clause-grown : goal.returns-clause-grown
returns-clause-grown c = whole_grown c.args.sheaves.now c.write.new.sheaves c.new-content.result.len (length c.args.bytes.now) c.write.ensures.grown
