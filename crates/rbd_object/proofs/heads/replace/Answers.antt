use Rattle.std.proofs.Common.{[], ◌++◌, sym, subst}
use Rattle.rbd_pages.specs.Paging.{AreCounted}
use Rattle.rbd_pages.specs.Sheaves.{Exchanged}
use Rattle.rbd_object.specs.Shared.{sheaves_of}
use Rattle.rbd_object.proofs.HeadLemmas.{beside_is, counted_first_of, let_go_beside, swapped}
use Rattle.rbd_object.proofs.heads.replace.Goals as goal

pub returns-then-wanted-clause-exchanged : goal.returns-then-wanted-clause-exchanged
returns-then-wanted-clause-exchanged c =
    subst (λ h. Exchanged c.args.sheaves.now (sheaves_of c.args.head.now ++ sheaves_of c.args.next) c.args.sheaves.now (sheaves_of c.args.next ++ sheaves_of h)) (sym c.replace-old.ensures.value)
    (swapped c.args.sheaves.now (sheaves_of c.args.head.now) (sheaves_of c.args.next))

pub let_go-requires : goal.let_go-requires
let_go-requires c = record {
  counted =
      subst (λ h. AreCounted c.args.sheaves.now.sheaves (sheaves_of h)) (sym c.replace-old.ensures.value)
      (counted_first_of c.args.sheaves.now (sheaves_of c.args.head.now) (sheaves_of c.args.next) c.requires.counted);
}

pub returns-clause-exchanged : goal.returns-clause-exchanged
returns-clause-exchanged c =
    let_go_beside c.args.sheaves.now c.let_go.new.sheaves (sheaves_of c.args.head.now) (sheaves_of c.args.next) c.requires.counted
    (subst (λ h. Exchanged c.args.sheaves.now (sheaves_of h) c.let_go.new.sheaves []) c.replace-old.ensures.value c.let_go.ensures.exchanged)

pub returns-clause-head_is : goal.returns-clause-head_is
returns-clause-head_is c =
    (beside_is c.args.sheaves.now c.let_go.new.sheaves (sheaves_of c.args.head.now) c.args.next c.requires.counted
    (subst (λ h. Exchanged c.args.sheaves.now (sheaves_of h) c.let_go.new.sheaves []) c.replace-old.ensures.value c.let_go.ensures.exchanged) c.requires.next).0

pub returns-clause-next_bytes : goal.returns-clause-next_bytes
returns-clause-next_bytes c =
    (beside_is c.args.sheaves.now c.let_go.new.sheaves (sheaves_of c.args.head.now) c.args.next c.requires.counted
    (subst (λ h. Exchanged c.args.sheaves.now (sheaves_of h) c.let_go.new.sheaves []) c.replace-old.ensures.value c.let_go.ensures.exchanged) c.requires.next).1
