use Rattle.std.proofs.Common.{◌<◌, ◌-◌, ◌∙◌, ap, cond, get_or, length, rules, arith}
use Rattle.rbd_parts.specs.Contents.{is_within, overwritten}
use Rattle.rbd_pages.specs.Sheets.{Sheet}
use Rattle.rbd_pages.proofs.SheetLemmas.{put_byte}
use Rattle.rbd_pages.proofs.page.Page.put.Goals as goal

pub returns-clause-bytes : goal.returns-clause-bytes
returns-clause-bytes c = λ k.
    let there : 0 < length c.self.inside.bytes.items = search rules in
    let full = c.self.invariant.0 there in
    let within = c.requires.within in
    put_byte c.self.inside.bytes.items _ c.args.bytes.now c.args.at _ k
    (c.copy_over.ensures ∙ ap (λ old. overwritten old c.args.at c.args.bytes.now) c.as_mut_slice.ensures.value)
    c.self.inside.bytes.ok.0 (omega arith)
    ∙ ap (λ (s : Sheet). cond (is_within c.args.at (length c.args.bytes.now) k) (get_or c.args.bytes.now (k - c.args.at) 0) (get_or s.bytes k 0)) c.self.view_is
