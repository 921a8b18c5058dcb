use Rattle.std.proofs.Common.{◌+◌, ◌∙◌, ap, refl, sym, subst}
use Rattle.rbd_pages.specs.Paging.{AreCounted, pages_for}
use Rattle.rbd_pages.specs.Listed.{Listed, listed_bytes}
use Rattle.rbd_pages.specs.Sheaves.{Exchanged, sheaves_for}
use Rattle.rbd_pages.proofs.ListedLemmas.{refused_content}
use Rattle.rbd_pages.proofs.GrownLemmas.{grown_then_none, held_grown}
use Rattle.rbd_pages.proofs.content.Content.prepare.Goals as goal

pub returns-in-Err-clause-exchanged : goal.returns-in-Err-clause-exchanged
returns-in-Err-clause-exchanged c =
    subst (λ (x : Listed). Exchanged c.args.sheaves.now x.sheaves c.cut.new.sheaves c.cut.new.list.items) c.self.view_is
    (refused_content c.args.sheaves.now c.prepare.new.sheaves c.cut.new.sheaves (record { sheaves = c.self.inside.list.items; len = c.self.inside.len })
    (record { sheaves = c.cut.new.list.items; len = c.self.inside.len }) c.prepare.new.list.items _
    (rw c.self.view_is c.requires.content) (subst (λ (x : Listed). AreCounted c.args.sheaves.now.sheaves x.sheaves) (sym c.self.view_is) c.requires.counted)
    c.in-Err.ensures.prepared (c.sheaves_for.ensures ∙ ap sheaves_for c.pages_for-held.ensures) c.cut.ensures.list refl c.cut.ensures.exchanged c.cut.ensures.kept).0

pub returns-in-Err-clause-content : goal.returns-in-Err-clause-content
returns-in-Err-clause-content c = (refused_content c.args.sheaves.now c.prepare.new.sheaves c.cut.new.sheaves (record { sheaves = c.self.inside.list.items; len = c.self.inside.len })
    (record { sheaves = c.cut.new.list.items; len = c.self.inside.len }) c.prepare.new.list.items _
    (rw c.self.view_is c.requires.content) (subst (λ (x : Listed). AreCounted c.args.sheaves.now.sheaves x.sheaves) (sym c.self.view_is) c.requires.counted)
    c.in-Err.ensures.prepared (c.sheaves_for.ensures ∙ ap sheaves_for c.pages_for-held.ensures) c.cut.ensures.list refl c.cut.ensures.exchanged c.cut.ensures.kept).1.0

pub returns-in-Err-clause-err : goal.returns-in-Err-clause-err
returns-in-Err-clause-err c = (refused_content c.args.sheaves.now c.prepare.new.sheaves c.cut.new.sheaves (record { sheaves = c.self.inside.list.items; len = c.self.inside.len })
    (record { sheaves = c.cut.new.list.items; len = c.self.inside.len }) c.prepare.new.list.items _
    (rw c.self.view_is c.requires.content) (subst (λ (x : Listed). AreCounted c.args.sheaves.now.sheaves x.sheaves) (sym c.self.view_is) c.requires.counted)
    c.in-Err.ensures.prepared (c.sheaves_for.ensures ∙ ap sheaves_for c.pages_for-held.ensures) c.cut.ensures.list refl c.cut.ensures.exchanged c.cut.ensures.kept).1.1 ∙ ap (listed_bytes c.args.sheaves.now) c.self.view_is

pub returns-in-Ok-clause-grown : goal.returns-in-Ok-clause-grown
returns-in-Ok-clause-grown c =
    held_grown c.pages_for-held.result _ c.args.at (c.args.at + c.args.len) c.args.sheaves.now c.prepare.new.sheaves
    (c.pages_for-held.ensures ∙ ap (λ (x : Listed). pages_for x.len) c.self.view_is) c.prepare.ensures.grown

pub returns-in-Err-clause-grown : goal.returns-in-Err-clause-grown
returns-in-Err-clause-grown c =
    grown_then_none _ _ c.args.sheaves.now c.prepare.new.sheaves c.cut.new.sheaves
    (held_grown c.pages_for-held.result _ c.args.at (c.args.at + c.args.len) c.args.sheaves.now c.prepare.new.sheaves
    (c.pages_for-held.ensures ∙ ap (λ (x : Listed). pages_for x.len) c.self.view_is) c.prepare.ensures.grown)
    c.cut.ensures.places
