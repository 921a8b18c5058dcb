use Rattle.std.proofs.Common.{◌≡◌, ◌<◌, ◌+◌, ◌-◌, ◌∙◌, ap, drop, length, take, rules, arith}
use Rattle.rbd_parts.specs.Contents.{window}
use Rattle.rbd_pages.specs.Sheets.{Sheet}
use Rattle.rbd_pages.proofs.SheetLemmas.{read_none, read_whole}
use Rattle.rbd_pages.proofs.page.Page.read.Goals as goal

pub returns-then-is_empty : goal.returns-then-is_empty
returns-then-is_empty c =
    let none : length c.self.inside.bytes.items ≡ 0 = search rules in
    c.fill.ensures.after (λ y same. same)
    ∙ read_none c.self.inside.bytes.items c.args.at (length c.args.into.now) none
    ∙ ap (λ (s : Sheet). window s.bytes c.args.at (length c.args.into.now)) c.self.view_is

pub returns : goal.returns
returns c =
    let some : 0 < length c.self.inside.bytes.items = search rules in
    let full = c.self.invariant.0 some in
    let within = c.requires in
    c.copy_from_slice.ensures.after
    ∙ ap (λ bytes. take (c.args.at + length c.args.into.now - c.args.at) (drop c.args.at bytes)) c.deref.ensures.value
    ∙ read_whole c.self.inside.bytes.items c.args.at (length c.args.into.now) (c.args.at + length c.args.into.now - c.args.at) (omega arith) (omega arith)
    ∙ ap (λ (s : Sheet). window s.bytes c.args.at (length c.args.into.now)) c.self.view_is
