use Rattle.std.proofs.Common.{◌∙◌, ap, cond, get_or}
use Rattle.rbd_parts.specs.Contents.{is_within, zeroed}
use Rattle.rbd_pages.specs.Sheets.{Sheet}
use Rattle.rbd_pages.proofs.SheetLemmas.{clear_byte}
use Rattle.rbd_pages.proofs.page.Page.clear.Goals as goal

pub returns-clause-bytes : goal.returns-clause-bytes
returns-clause-bytes c = λ k.
    clear_byte c.self.inside.bytes.items _ c.args.at c.args.len _ k
    (c.clear.ensures ∙ ap (λ old. zeroed old c.args.at c.args.len) c.as_mut_slice.ensures.value) c.self.inside.bytes.ok.0
    ∙ ap (λ (s : Sheet). cond (is_within c.args.at c.args.len k) 0 (get_or s.bytes k 0)) c.self.view_is
