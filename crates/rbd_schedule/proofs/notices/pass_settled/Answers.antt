use Rattle.std.proofs.Common.{◌≡◌, ◌∷◌, true, length, sym, ap, ◌∙◌, subst, arith}
use Rattle.rbd_watch.specs.Posting.{notice_numbered}
use Rattle.rbd_world.specs.Seen.{seen}
use Rattle.rbd_schedule.specs.Playing.{IsWithout, has_mark, has_number, is_dealt_with}
use Rattle.rbd_schedule.proofs.Sorted.{first_popped, without_more, without_none}
use Rattle.rbd_schedule.proofs.notices.pass_settled.Goals as goal

pub loop-number-init : goal.loop-number-init
loop-number-init c = without_none _ c.args.inbox.now.items

popped : (c : goal.After-pop_front) → c.loop-number.inbox.items ≡ c.in-Some.number ∷ c.pop_front.new.self.items
popped c = first_popped c.loop-number.inbox.items c.pop_front.new.self.items c.in-Some.number (sym c.first_of.ensures ∙ c.in-Some.is) c.pop_front.ensures.rest

pub loop-number-smaller : goal.loop-number-smaller
loop-number-smaller c = let len = ap length (popped c) in omega (arith, len)

pub loop-number-preserved : goal.loop-number-preserved
loop-number-preserved c =
    without_more (λ number. is_dealt_with (λ n. has_mark n c.args.heard.now) (λ n. has_number n c.args.lost.now) c.args.who.now number (notice_numbered number (seen c.args.world.now).sites.mail) ≡ true)
    c.args.inbox.now.items c.in-Some.number c.pop_front.new.self.items
    (subst (IsWithout (λ number. is_dealt_with (λ n. has_mark n c.args.heard.now) (λ n. has_number n c.args.lost.now) c.args.who.now number (notice_numbered number (seen c.args.world.now).sites.mail) ≡ true) c.args.inbox.now.items) (popped c) c.loop-number.invariant)
    (sym c.is_settled.ensures ∙ c.if-not-is_settled.false)
