use Rattle.std.proofs.Common.{◌-◌, ◌≡◌, ◌<◌, ◌∙◌, ap, min, subst, arith}
use Rattle.rbd_pages.specs.Paging.{IsZeroed}
use Rattle.rbd_pages.specs.Listed.{Listed}
use Rattle.rbd_pages.specs.Sheaves.{pages_in}
use Rattle.rbd_pages.specs.Sheets.{in_use}
use Rattle.rbd_pages.proofs.ListedLemmas.{zeroed_none, zeroed_at, zeroed_used}
use Rattle.rbd_pages.proofs.GrownLemmas.{grown_refl, grown_then_changed, zeroed_grown}
use Rattle.rbd_pages.proofs.content.Content.zero.Goals as goal

pub returns-then-count-eq0-clause-ok : goal.returns-then-count-eq0-clause-ok
returns-then-count-eq0-clause-ok c =
    let len : c.self.inside.len ≡ c.args.self.now.len = ap (λ (x : Listed). x.len) c.self.view_is in
    zeroed_none c.args.sheaves.now c.args.self.now c.args.at c.args.len c.min-from.result c.min-count.result c.requires.content
    (c.min-from.ensures ∙ ap (min c.args.at) len) (c.min-count.ensures ∙ ap (λ n. min c.args.len (n - c.min-from.result)) len) c.if-count-eq0.true

pub returns-clause-exchanged : goal.returns-clause-exchanged
returns-clause-exchanged c =
    let len : c.self.inside.len ≡ c.args.self.now.len = ap (λ (x : Listed). x.len) c.self.view_is in
    let list = c.as_slice.ensures.value ∙ ap (λ (x : Listed). x.sheaves) c.self-2.view_is in
    (zeroed_at c.args.sheaves.now c.prepare.new.sheaves c.zero.new.self c.args.self.now c.prepare.new.self
    c.args.at c.args.len c.min-from.result c.min-count.result c.requires.content c.zero.ensures.stocked c.in_ok-prepare.ensures.prepared
    c.in_ok-prepare.ensures.held c.in_ok-prepare.ensures.ready c.zero.ensures.sheaves
    (subst (λ x. IsZeroed (pages_in c.prepare.new.sheaves.sheaves x) c.min-from.result c.min-count.result c.prepare.new.sheaves.sheets c.zero.new.self.sheets) list c.zero.ensures.zeroed)
    c.in_ok-prepare.ensures.same (c.min-from.ensures ∙ ap (min c.args.at) len)
    (c.min-count.ensures ∙ ap (λ n. min c.args.len (n - c.min-from.result)) len)).0

pub returns-clause-content : goal.returns-clause-content
returns-clause-content c =
    let len : c.self.inside.len ≡ c.args.self.now.len = ap (λ (x : Listed). x.len) c.self.view_is in
    let list = c.as_slice.ensures.value ∙ ap (λ (x : Listed). x.sheaves) c.self-2.view_is in
    (zeroed_at c.args.sheaves.now c.prepare.new.sheaves c.zero.new.self c.args.self.now c.prepare.new.self
    c.args.at c.args.len c.min-from.result c.min-count.result c.requires.content c.zero.ensures.stocked c.in_ok-prepare.ensures.prepared
    c.in_ok-prepare.ensures.held c.in_ok-prepare.ensures.ready c.zero.ensures.sheaves
    (subst (λ x. IsZeroed (pages_in c.prepare.new.sheaves.sheaves x) c.min-from.result c.min-count.result c.prepare.new.sheaves.sheets c.zero.new.self.sheets) list c.zero.ensures.zeroed)
    c.in_ok-prepare.ensures.same (c.min-from.ensures ∙ ap (min c.args.at) len)
    (c.min-count.ensures ∙ ap (λ n. min c.args.len (n - c.min-from.result)) len)).1.0

pub returns-clause-ok : goal.returns-clause-ok
returns-clause-ok c =
    let len : c.self.inside.len ≡ c.args.self.now.len = ap (λ (x : Listed). x.len) c.self.view_is in
    let list = c.as_slice.ensures.value ∙ ap (λ (x : Listed). x.sheaves) c.self-2.view_is in
    (zeroed_at c.args.sheaves.now c.prepare.new.sheaves c.zero.new.self c.args.self.now c.prepare.new.self
    c.args.at c.args.len c.min-from.result c.min-count.result c.requires.content c.zero.ensures.stocked c.in_ok-prepare.ensures.prepared
    c.in_ok-prepare.ensures.held c.in_ok-prepare.ensures.ready c.zero.ensures.sheaves
    (subst (λ x. IsZeroed (pages_in c.prepare.new.sheaves.sheaves x) c.min-from.result c.min-count.result c.prepare.new.sheaves.sheets c.zero.new.self.sheets) list c.zero.ensures.zeroed)
    c.in_ok-prepare.ensures.same (c.min-from.ensures ∙ ap (min c.args.at) len)
    (c.min-count.ensures ∙ ap (λ n. min c.args.len (n - c.min-from.result)) len)).1.1

pub returns-clause-used : goal.returns-clause-used
returns-clause-used c =
    let len : c.self.inside.len ≡ c.args.self.now.len = ap (λ (x : Listed). x.len) c.self.view_is in
    let used = c.in_ok-prepare.ensures.used in
    let same = c.zero.ensures.zeroed.changed.used in
    let some : 0 < c.min-count.result = grind (arith, c.if-count-eq0.false) in
    zeroed_used (in_use c.args.sheaves.now.sheets) (in_use c.zero.new.self.sheets) c.args.self.now.len c.args.at c.args.len c.min-from.result
    c.min-count.result (c.min-from.ensures ∙ ap (min c.args.at) len) (c.min-count.ensures ∙ ap (λ n. min c.args.len (n - c.min-from.result)) len) some (omega arith)

pub returns-then-count-eq0-clause-grown : goal.returns-then-count-eq0-clause-grown
returns-then-count-eq0-clause-grown c = grown_refl _ _ c.args.sheaves.now

pub returns-in_err-prepare-clause-grown : goal.returns-in_err-prepare-clause-grown
returns-in_err-prepare-clause-grown c =
    let len : c.self.inside.len ≡ c.args.self.now.len = ap (λ (x : Listed). x.len) c.self.view_is in
    let some : 0 < c.min-count.result = grind (arith, c.if-count-eq0.false) in
    zeroed_grown c.args.sheaves.now c.prepare.new.sheaves c.args.self.now.len c.args.at c.args.len c.min-from.result
    c.min-count.result (c.min-from.ensures ∙ ap (min c.args.at) len) (c.min-count.ensures ∙ ap (λ n. min c.args.len (n - c.min-from.result)) len) some
    c.in_err-prepare.ensures.grown

pub returns-clause-grown : goal.returns-clause-grown
returns-clause-grown c =
    let len : c.self.inside.len ≡ c.args.self.now.len = ap (λ (x : Listed). x.len) c.self.view_is in
    let some : 0 < c.min-count.result = grind (arith, c.if-count-eq0.false) in
    let changed = c.zero.ensures.zeroed.changed in
    grown_then_changed _ _ c.args.sheaves.now c.prepare.new.sheaves c.zero.new.self
    (zeroed_grown c.args.sheaves.now c.prepare.new.sheaves c.args.self.now.len c.args.at c.args.len c.min-from.result
    c.min-count.result (c.min-from.ensures ∙ ap (min c.args.at) len) (c.min-count.ensures ∙ ap (λ n. min c.args.len (n - c.min-from.result)) len) some
    c.in_ok-prepare.ensures.grown)
    c.zero.ensures.sheaves changed.places changed.used
