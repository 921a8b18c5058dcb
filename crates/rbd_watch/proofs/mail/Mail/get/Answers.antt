use Rattle.std.proofs.Common.{◌≡◌, ◌+◌, ◌-◌, ◌<◌, ◌≤◌, sym, ap, ◌∙◌, arith}
use Rattle.std.specs.Prelude.{slice_get, option_copied}
use Rattle.rbd_watch.specs.Posting.{notice_numbered}
use Rattle.rbd_watch.proofs.Numbers.{at_place, below}
use Rattle.rbd_watch.proofs.mail.Mail.get.Goals as goal

pub returns-in_err-index : goal.returns-in_err-index
returns-in_err-index c =
    let number = c.args.number in
    let none : 1 ≤ number → ⊥ = c.in_err-index.ensures in
    let least : number < 1 = omega (arith, none) in
    ap option_copied c.from_residual.ensures
    ∙ sym (below 1 number c.self.inside.notices.items c.self.invariant least)
    ∙ ap (notice_numbered number) c.self.view_is

pub returns : goal.returns
returns c =
    let number = c.args.number in
    let index = c.in_ok-index.index in
    let mail = c.self.inside.notices.items in
    let some : (1 ≤ number) × (index ≡ number - 1) = c.in_ok-index.ensures in
    let place : 1 + index ≡ number = omega (arith, some.0, some.1) in
    c.notice_at.ensures
    ∙ ap (λ ns. slice_get ns index) c.as_slice-notices.ensures.value
    ∙ sym (at_place 1 index mail c.self.invariant)
    ∙ ap (λ n. notice_numbered n mail) place
    ∙ ap (notice_numbered number) c.self.view_is
