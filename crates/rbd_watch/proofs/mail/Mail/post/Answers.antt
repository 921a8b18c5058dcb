use Rattle.std.proofs.Common.{◌≡◌, ◌+◌, length, sym, ap, subst, arith}
use Rattle.rbd_watch.specs.Posting.{AreNumberedFrom}
use Rattle.rbd_watch.proofs.Numbers.{notices_numbered, numbered_append}
use Rattle.rbd_watch.proofs.mail.Mail.post.Goals as goal

pub invariant_of-self-2 : goal.invariant_of-self-2
invariant_of-self-2 c =
    let old = c.self.inside.notices.items in
    let posted = c.in_ok-posted.posted.items in
    let after = length c.args.self.now + 1 in
    let first : after ≡ 1 + length old = omega (arith, ap length c.self.view_is) in
    let numbered = subst (λ ns. AreNumberedFrom after ns) (sym c.in_ok-posted.ensures)
    (notices_numbered c.args.site c.args.image c.args.from c.args.kind.now after c.args.to.now) in
    subst (λ ns. AreNumberedFrom 1 ns) (sym c.in_ok-append.ensures.items)
    (numbered_append 1 old posted c.self.invariant (subst (λ n. AreNumberedFrom n posted) first numbered))
