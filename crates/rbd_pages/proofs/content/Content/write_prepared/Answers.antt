use Rattle.std.proofs.Common.{◌+◌, ◌≡◌, ◌≤◌, ◌<◌, ◌/◌, ◌∙◌, ap, length, get_or, max, sym, subst, inl, inr, rules, arith}
use Rattle.rbd_pages.specs.Paging.{IsWritten, pages_for}
use Rattle.rbd_pages.specs.Listed.{Listed}
use Rattle.rbd_pages.specs.Sheaves.{IsOwnPage, ArePagesPrepared, pages_in}
use Rattle.rbd_pages.specs.Sheets.{in_use}
use Rattle.rbd_pages.proofs.ListedLemmas.{overwritten_none, length-bytes_in, written_at, written_used}
use Rattle.rbd_pages.proofs.content.Content.write_prepared.Goals.{else-is_empty-via-then-is_empty+else-at-self, else-is_empty-via-else-is_empty}
use Rattle.rbd_pages.proofs.GrownLemmas.{grown_refl, grown_then_changed, written_grown}
use Rattle.rbd_pages.proofs.content.Content.write_prepared.Goals as goal

pub returns-then-at-self-clause-ok : goal.returns-then-at-self-clause-ok
returns-then-at-self-clause-ok c =
    let none : length c.args.bytes.now ≡ 0 = search rules in
    let long = length-bytes_in c.args.sheaves.now c.args.self.now in
    let len : c.self.inside.len ≡ c.args.self.now.len = ap (λ (x : Listed). x.len) c.self.view_is in
    overwritten_none _ c.args.bytes.now c.args.at none (omega arith)

pub returns-clause-exchanged : goal.returns-clause-exchanged
returns-clause-exchanged c =
    let list = ap (λ (x : Listed). x.sheaves) c.self-2.view_is in
    let len = ap (λ (x : Listed). x.len) c.self-2.view_is ∙ c.in_ok-prepare.ensures.same in
    (written_at c.args.sheaves.now c.prepare.new.sheaves c.put.new.self c.args.self.now
    (record { sheaves = c.self-2.inside.list.items; len = c.max-self-inside.result }) c.args.at c.args.bytes.now c.requires.content c.put.ensures.stocked
    (subst (ArePagesPrepared c.args.sheaves.now c.args.self.now.sheaves c.prepare.new.sheaves) (sym list) c.in_ok-prepare.ensures.prepared)
    (ap length list ∙ c.in_ok-prepare.ensures.held)
    (subst (λ x. pages_for (c.args.at + length c.args.bytes.now) ≤ length (pages_in c.prepare.new.sheaves.sheaves x)) (sym list) c.in_ok-prepare.ensures.long)
    (λ j below. subst (λ x. IsOwnPage c.prepare.new.sheaves x ((c.args.at + j) / 4096) (get_or c.args.bytes.now j 0)) (sym list) (c.in_ok-prepare.ensures.ready j below))
    c.put.ensures.sheaves
    (subst (λ x. IsWritten (pages_in c.prepare.new.sheaves.sheaves x) c.args.at c.args.bytes.now c.prepare.new.sheaves.sheets c.put.new.self.sheets) c.as_slice.ensures.value c.put.ensures.written)
    (c.max-self-inside.ensures ∙ ap (λ n. max n (c.args.at + length c.args.bytes.now)) len) c.requires.within).0

pub returns-clause-content : goal.returns-clause-content
returns-clause-content c =
    let list = ap (λ (x : Listed). x.sheaves) c.self-2.view_is in
    let len = ap (λ (x : Listed). x.len) c.self-2.view_is ∙ c.in_ok-prepare.ensures.same in
    (written_at c.args.sheaves.now c.prepare.new.sheaves c.put.new.self c.args.self.now
    (record { sheaves = c.self-2.inside.list.items; len = c.max-self-inside.result }) c.args.at c.args.bytes.now c.requires.content c.put.ensures.stocked
    (subst (ArePagesPrepared c.args.sheaves.now c.args.self.now.sheaves c.prepare.new.sheaves) (sym list) c.in_ok-prepare.ensures.prepared)
    (ap length list ∙ c.in_ok-prepare.ensures.held)
    (subst (λ x. pages_for (c.args.at + length c.args.bytes.now) ≤ length (pages_in c.prepare.new.sheaves.sheaves x)) (sym list) c.in_ok-prepare.ensures.long)
    (λ j below. subst (λ x. IsOwnPage c.prepare.new.sheaves x ((c.args.at + j) / 4096) (get_or c.args.bytes.now j 0)) (sym list) (c.in_ok-prepare.ensures.ready j below))
    c.put.ensures.sheaves
    (subst (λ x. IsWritten (pages_in c.prepare.new.sheaves.sheaves x) c.args.at c.args.bytes.now c.prepare.new.sheaves.sheets c.put.new.self.sheets) c.as_slice.ensures.value c.put.ensures.written)
    (c.max-self-inside.ensures ∙ ap (λ n. max n (c.args.at + length c.args.bytes.now)) len) c.requires.within).1.0

pub returns-clause-ok : goal.returns-clause-ok
returns-clause-ok c =
    let list = ap (λ (x : Listed). x.sheaves) c.self-2.view_is in
    let len = ap (λ (x : Listed). x.len) c.self-2.view_is ∙ c.in_ok-prepare.ensures.same in
    (written_at c.args.sheaves.now c.prepare.new.sheaves c.put.new.self c.args.self.now
    (record { sheaves = c.self-2.inside.list.items; len = c.max-self-inside.result }) c.args.at c.args.bytes.now c.requires.content c.put.ensures.stocked
    (subst (ArePagesPrepared c.args.sheaves.now c.args.self.now.sheaves c.prepare.new.sheaves) (sym list) c.in_ok-prepare.ensures.prepared)
    (ap length list ∙ c.in_ok-prepare.ensures.held)
    (subst (λ x. pages_for (c.args.at + length c.args.bytes.now) ≤ length (pages_in c.prepare.new.sheaves.sheaves x)) (sym list) c.in_ok-prepare.ensures.long)
    (λ j below. subst (λ x. IsOwnPage c.prepare.new.sheaves x ((c.args.at + j) / 4096) (get_or c.args.bytes.now j 0)) (sym list) (c.in_ok-prepare.ensures.ready j below))
    c.put.ensures.sheaves
    (subst (λ x. IsWritten (pages_in c.prepare.new.sheaves.sheaves x) c.args.at c.args.bytes.now c.prepare.new.sheaves.sheets c.put.new.self.sheets) c.as_slice.ensures.value c.put.ensures.written)
    (c.max-self-inside.ensures ∙ ap (λ n. max n (c.args.at + length c.args.bytes.now)) len) c.requires.within).1.1

pub returns-clause-used : goal.returns-clause-used
returns-clause-used c =
    let len : c.self.inside.len ≡ c.args.self.now.len = ap (λ (x : Listed). x.len) c.self.view_is in
    let used = c.in_ok-prepare.ensures.used in
    let same = c.put.ensures.written.changed.used in
    written_used (in_use c.args.sheaves.now.sheets) (in_use c.put.new.self.sheets) c.args.self.now.len c.args.at (length c.args.bytes.now)
    (elim c.else-is_empty.branch [
      | else-is_empty-via-then-is_empty+else-at-self w ↦ inr (let past = w.if-at-self.false in omega arith)
      | else-is_empty-via-else-is_empty w ↦ inl (let some : 0 < length c.args.bytes.now = search rules in some)
    ])
    (omega arith)

pub returns-then-at-self-clause-grown : goal.returns-then-at-self-clause-grown
returns-then-at-self-clause-grown c = grown_refl _ _ c.args.sheaves.now

pub returns-in_err-prepare-clause-grown : goal.returns-in_err-prepare-clause-grown
returns-in_err-prepare-clause-grown c =
    let len : c.self.inside.len ≡ c.args.self.now.len = ap (λ (x : Listed). x.len) c.self.view_is in
    written_grown c.args.sheaves.now c.prepare.new.sheaves c.args.self.now.len c.args.at (length c.args.bytes.now)
    (elim c.else-is_empty.branch [
      | else-is_empty-via-then-is_empty+else-at-self w ↦ inr (let past = w.if-at-self.false in omega arith)
      | else-is_empty-via-else-is_empty w ↦ inl (let some : 0 < length c.args.bytes.now = search rules in some)
    ])
    c.in_err-prepare.ensures.grown

pub returns-clause-grown : goal.returns-clause-grown
returns-clause-grown c =
    let len : c.self.inside.len ≡ c.args.self.now.len = ap (λ (x : Listed). x.len) c.self.view_is in
    let changed = c.put.ensures.written.changed in
    grown_then_changed _ _ c.args.sheaves.now c.prepare.new.sheaves c.put.new.self
    (written_grown c.args.sheaves.now c.prepare.new.sheaves c.args.self.now.len c.args.at (length c.args.bytes.now)
    (elim c.else-is_empty.branch [
      | else-is_empty-via-then-is_empty+else-at-self w ↦ inr (let past = w.if-at-self.false in omega arith)
      | else-is_empty-via-else-is_empty w ↦ inl (let some : 0 < length c.args.bytes.now = search rules in some)
    ])
    c.in_ok-prepare.ensures.grown)
    c.put.ensures.sheaves changed.places changed.used
