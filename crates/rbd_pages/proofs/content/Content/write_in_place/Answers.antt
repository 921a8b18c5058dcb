use Rattle.std.proofs.Common.{◌+◌, ◌≡◌, ◌∙◌, ap, length, max, subst}
use Rattle.rbd_pages.specs.Paging.{IsWritten}
use Rattle.rbd_pages.specs.Listed.{Listed}
use Rattle.rbd_pages.specs.Sheaves.{IsOnOwn, pages_in}
use Rattle.rbd_pages.proofs.ListedLemmas.{written_in_place}
use Rattle.rbd_pages.proofs.content.Content.write_in_place.Goals as goal

pub returns-clause-exchanged : goal.returns-clause-exchanged
returns-clause-exchanged c =
    let list : c.as_slice.result.now ≡ c.args.self.now.sheaves = c.as_slice.ensures.value ∙ ap (λ (x : Listed). x.sheaves) c.self.view_is in
    (written_in_place c.args.sheaves.now c.put_in_place.new.self c.args.self.now
    (record { sheaves = c.self.inside.list.items; len = c.max-self-inside.result }) c.args.at c.args.bytes.now c.requires.content c.put_in_place.ensures.stocked
    (subst (λ xs. IsOnOwn c.args.sheaves.now xs c.args.at (length c.args.bytes.now)) list (c.put_in_place.ensures.own c.if-not-put_in_place.false))
    c.put_in_place.ensures.sheaves
    (subst (λ xs. IsWritten (pages_in c.args.sheaves.now.sheaves xs) c.args.at c.args.bytes.now c.args.sheaves.now.sheets c.put_in_place.new.self.sheets) list
    (c.put_in_place.ensures.written c.if-not-put_in_place.false))
    (ap (λ (x : Listed). x.sheaves) c.self.view_is)
    (c.max-self-inside.ensures ∙ ap (λ n. max n (c.args.at + length c.args.bytes.now)) (ap (λ (x : Listed). x.len) c.self.view_is)) c.requires.within).0

pub returns-clause-content : goal.returns-clause-content
returns-clause-content c =
    let list : c.as_slice.result.now ≡ c.args.self.now.sheaves = c.as_slice.ensures.value ∙ ap (λ (x : Listed). x.sheaves) c.self.view_is in
    (written_in_place c.args.sheaves.now c.put_in_place.new.self c.args.self.now
    (record { sheaves = c.self.inside.list.items; len = c.max-self-inside.result }) c.args.at c.args.bytes.now c.requires.content c.put_in_place.ensures.stocked
    (subst (λ xs. IsOnOwn c.args.sheaves.now xs c.args.at (length c.args.bytes.now)) list (c.put_in_place.ensures.own c.if-not-put_in_place.false))
    c.put_in_place.ensures.sheaves
    (subst (λ xs. IsWritten (pages_in c.args.sheaves.now.sheaves xs) c.args.at c.args.bytes.now c.args.sheaves.now.sheets c.put_in_place.new.self.sheets) list
    (c.put_in_place.ensures.written c.if-not-put_in_place.false))
    (ap (λ (x : Listed). x.sheaves) c.self.view_is)
    (c.max-self-inside.ensures ∙ ap (λ n. max n (c.args.at + length c.args.bytes.now)) (ap (λ (x : Listed). x.len) c.self.view_is)) c.requires.within).1.0

pub returns-clause-done : goal.returns-clause-done
returns-clause-done c = λ is.
    let list : c.as_slice.result.now ≡ c.args.self.now.sheaves = c.as_slice.ensures.value ∙ ap (λ (x : Listed). x.sheaves) c.self.view_is in
    (written_in_place c.args.sheaves.now c.put_in_place.new.self c.args.self.now
    (record { sheaves = c.self.inside.list.items; len = c.max-self-inside.result }) c.args.at c.args.bytes.now c.requires.content c.put_in_place.ensures.stocked
    (subst (λ xs. IsOnOwn c.args.sheaves.now xs c.args.at (length c.args.bytes.now)) list (c.put_in_place.ensures.own c.if-not-put_in_place.false))
    c.put_in_place.ensures.sheaves
    (subst (λ xs. IsWritten (pages_in c.args.sheaves.now.sheaves xs) c.args.at c.args.bytes.now c.args.sheaves.now.sheets c.put_in_place.new.self.sheets) list
    (c.put_in_place.ensures.written c.if-not-put_in_place.false))
    (ap (λ (x : Listed). x.sheaves) c.self.view_is)
    (c.max-self-inside.ensures ∙ ap (λ n. max n (c.args.at + length c.args.bytes.now)) (ap (λ (x : Listed). x.len) c.self.view_is)) c.requires.within).1.1
