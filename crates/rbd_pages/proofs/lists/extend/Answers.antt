use Rattle.std.proofs.Common.{◌≡◌, ◌++◌, ◌∷◌, [], ap, length, refl, sym, subst, ◌∙◌, arith}
use Rattle.rbd_pages.specs.Sheaves.{ArePagesPrepared, pages_in}
use Rattle.rbd_pages.proofs.ListsLemmas.{extend_prepared}
use Rattle.rbd_pages.proofs.GrownLemmas.{grown_refl, grown_same, sheaf_grown}
use Rattle.rbd_pages.specs.Sheets.{Sheet, in_use}
use Rattle.rbd_pages.proofs.lists.extend.Goals as goal

pub returns-clause-prepared : goal.returns-clause-prepared
returns-clause-prepared c =
    let is : c.push_reserved.new.self.items ≡ c.args.list.now.items ++ c.in_ok-sheaf.sheaf ∷ [] =
    rw (c.push_reserved.ensures.items, c.in_ok-reserve.ensures.items) refl in
    subst (ArePagesPrepared c.args.sheaves.now c.args.list.now.items c.add.new.self) (sym is)
    (extend_prepared c.args.sheaves.now c.add.new.self c.args.list.now.items c.in_ok-sheaf.sheaf c.requires.counted c.requires.apart
    c.requires.full c.requires.long c.in_ok-sheaf.ensures.free c.in_ok-sheaf.ensures.changed c.in_ok-sheaf.ensures.sheaf c.in_ok-sheaf.ensures.sheets).0

pub returns-clause-same : goal.returns-clause-same
returns-clause-same c =
    let is : c.push_reserved.new.self.items ≡ c.args.list.now.items ++ c.in_ok-sheaf.sheaf ∷ [] =
    rw (c.push_reserved.ensures.items, c.in_ok-reserve.ensures.items) refl in
    ap (pages_in c.add.new.self.sheaves) is
    ∙ (extend_prepared c.args.sheaves.now c.add.new.self c.args.list.now.items c.in_ok-sheaf.sheaf c.requires.counted c.requires.apart
    c.requires.full c.requires.long c.in_ok-sheaf.ensures.free c.in_ok-sheaf.ensures.changed c.in_ok-sheaf.ensures.sheaf c.in_ok-sheaf.ensures.sheets).1

pub returns-in_err-reserve-clause-grown : goal.returns-in_err-reserve-clause-grown
returns-in_err-reserve-clause-grown c = grown_refl _ _ c.args.sheaves.now

pub returns-in_err-sheaf-clause-grown : goal.returns-in_err-sheaf-clause-grown
returns-in_err-sheaf-clause-grown c = grown_same _ _ c.args.sheaves.now c.add.new.self c.in_err-sheaf.ensures.err

pub returns-clause-grown : goal.returns-clause-grown
returns-clause-grown c =
    sheaf_grown c.args.sheaves.now c.add.new.self c.in_ok-sheaf.sheaf c.in_ok-sheaf.ensures.free
    (ap (λ (s : Sheet). s.count) c.in_ok-sheaf.ensures.sheaf) c.in_ok-sheaf.ensures.changed c.in_ok-sheaf.ensures.most
    (ap length c.in_ok-sheaf.ensures.sheets) (let same = ap in_use c.in_ok-sheaf.ensures.sheets in omega arith)
