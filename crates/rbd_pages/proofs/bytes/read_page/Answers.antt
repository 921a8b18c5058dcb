use Rattle.std.proofs.Common.{◌∙◌, ap, length, refl}
use Rattle.rbd_parts.specs.Contents.{window}
use Rattle.rbd_pages.specs.Sheaves.{pages_in}
use Rattle.rbd_pages.specs.Sheets.{bytes_at}
use Rattle.rbd_pages.proofs.PagingLemmas.{counted_at, page_read, zeros_read}
use Rattle.rbd_pages.proofs.bytes.read_page.Goals as goal

pub read-requires-clause-used : goal.read-requires-clause-used
read-requires-clause-used c =
    rw c.in-Some.ensures.page
    (counted_at c.args.arena.now (pages_in c.args.sheaves.now c.args.list.now) c.args.k c.requires.counted c.in-Some.ensures.there)

pub returns-in-Some : goal.returns-in-Some
returns-in-Some c =
    c.read.ensures
    ∙ ap (λ page. window (bytes_at c.args.arena.now page) c.args.offset (length c.args.into.now)) c.in-Some.ensures.page
    ∙ page_read c.args.arena.now (pages_in c.args.sheaves.now c.args.list.now) c.args.k c.args.offset (length c.args.into.now) c.in-Some.ensures.there

pub returns-in-None : goal.returns-in-None
returns-in-None c =
    c.fill.ensures.after (λ y same. same)
    ∙ zeros_read c.args.arena.now (pages_in c.args.sheaves.now c.args.list.now) c.args.k c.args.offset (length c.args.into.now) (c.in-None.ensures.past refl)
