use Rattle.std.proofs.Common.{length, sym, subst}
use Rattle.rbd_pages.specs.Sheaves.{Exchanged}
use Rattle.rbd_object.specs.Shared.{sheaves_of}
use Rattle.rbd_object.proofs.HeadLemmas.{exchanged_refused}
use Rattle.rbd_object.proofs.EachLemmas.{begun_grown}
use Rattle.rbd_object.proofs.heads.write_head.Goals as goal

pub returns-in_err-write-in-None-clause-exchanged : goal.returns-in_err-write-in-None-clause-exchanged
returns-in_err-write-in-None-clause-exchanged c =
    subst (λ h. Exchanged c.args.sheaves.now (sheaves_of h) c.write-in-None.new.sheaves (sheaves_of h)) (sym c.in-None.is)
    (exchanged_refused c.args.sheaves.now c.write-in-None.new.sheaves c.new-content.result c.write-in-None.new.self c.new-content.ensures
    c.in_err-write-in-None.ensures.exchanged c.in_err-write-in-None.ensures.content c.in_err-write-in-None.ensures.err)

pub returns-in_err-write-in-None-clause-grown : goal.returns-in_err-write-in-None-clause-grown
returns-in_err-write-in-None-clause-grown c =
    begun_grown c.args.sheaves.now c.write-in-None.new.sheaves c.args.head.now c.new-content.result c.args.at (length c.args.bytes.now) c.in-None.is c.new-content.ensures
    c.write-in-None.ensures.grown

pub returns-in_ok-write-in-None-clause-grown : goal.returns-in_ok-write-in-None-clause-grown
returns-in_ok-write-in-None-clause-grown c =
    begun_grown c.args.sheaves.now c.write-in-None.new.sheaves c.args.head.now c.new-content.result c.args.at (length c.args.bytes.now) c.in-None.is c.new-content.ensures
    c.write-in-None.ensures.grown
