use Rattle.std.proofs.Common.{◌+◌, ◌≡◌, ◌∙◌, ap, length, arith}
use Rattle.rbd_pages.specs.Paging.{byte_on_pages}
use Rattle.rbd_pages.specs.Listed.{Listed}
use Rattle.rbd_pages.specs.Sheaves.{pages_in}
use Rattle.rbd_pages.proofs.ListedLemmas.{past_window, read_window}
use Rattle.rbd_pages.proofs.content.Content.read.Goals as goal

pub returns-then-at-self : goal.returns-then-at-self
returns-then-at-self c =
    let len : c.self.inside.len ≡ c.args.self.now.len = ap (λ (x : Listed). x.len) c.self.view_is in
    c.fill.ensures.after (λ y same. same) ∙ past_window c.args.sheaves.now c.args.self.now c.args.at (length c.args.into.now) (omega arith)

pub returns : goal.returns
returns c =
    let list = c.as_slice.ensures.value ∙ ap (λ (x : Listed). x.sheaves) c.self.view_is in
    read_window c.args.sheaves.now c.args.self.now c.args.at (length c.args.into.now) c.read.new.into c.requires.content c.read.ensures.len
    (λ j below. c.read.ensures.bytes j below ∙ ap (λ p. byte_on_pages c.args.sheaves.now.sheets (pages_in c.args.sheaves.now.sheaves p) (c.args.at + j)) list)
