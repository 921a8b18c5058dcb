use Rattle.std.proofs.Common.{◌≡◌, ℕ, ◌+◌, ◌≤◌, true, length, sym, ap, ◌∙◌, subst, arith}
use Rattle.rbd_client.specs.Seen.{as_is}
use Rattle.rbd_world.specs.Seen.{seen}
use Rattle.rbd_world.specs.declared.event.Event.TheVariants as event
use Rattle.rbd_schedule.specs.Deeds.{Deeds}
use Rattle.rbd_schedule.specs.Notices.{is_notice_due}
use Rattle.rbd_schedule.specs.Playing.{given_to, lost_in}
use Rattle.rbd_schedule.specs.Schedule.{DeliversWhere, Happens}
use Rattle.rbd_schedule.proofs.Delivered.{due_stays, given_all, not_delivered}
use Rattle.rbd_schedule.proofs.Done.{idle_to, next_done, none_done}
use Rattle.rbd_schedule.proofs.Goes.{goes_then}
use Rattle.rbd_schedule.proofs.runner.Runner.deliver_due.Goals as goal

pub loop-number-init : goal.loop-number-init
loop-number-init c = record {
  goes = c.in_ok-sort.ensures.goes;
  notices = subst (λ w. Deeds (λ k. DeliversWhere as_is (given_to c.args.self.now) (is_notice_due (lost_in c.args.self.now) c.args.session (k + 1) (seen c.args.self.now.world)) (k + 1)) 0 (seen c.args.self.now.world) w) (sym c.in_ok-sort.ensures.world)
      (none_done (λ k. DeliversWhere as_is (given_to c.args.self.now) (is_notice_due (lost_in c.args.self.now) c.args.session (k + 1) (seen c.args.self.now.world)) (k + 1)) (seen c.args.self.now.world));
  due = λ k from. ap (is_notice_due (lost_in c.args.self.now) c.args.session (k + 1)) c.in_ok-sort.ensures.world;
  most = omega arith;
}

pub next_due-requires : goal.next_due-requires
next_due-requires c = c.loop-number.invariant.goes.keeps c.requires

pub deliver_and_start-requires : goal.deliver_and_start-requires
deliver_and_start-requires c = c.next_due.ensures.goes.keeps (c.loop-number.invariant.goes.keeps c.requires)

pub loop-number-smaller : goal.loop-number-smaller
loop-number-smaller c = omega (arith, c.in-Some.ensures.some.0, c.in-Some.ensures.some.1)

pub loop-number-preserved : goal.loop-number-preserved
loop-number-preserved c =
    let was = c.loop-number.invariant in
    let same : (k : ℕ) → c.loop-number.told ≤ k
    → is_notice_due (lost_in c.loop-number.self) c.args.session (k + 1) (seen c.loop-number.self.world) ≡ is_notice_due (lost_in c.args.self.now) c.args.session (k + 1) (seen c.args.self.now.world)
    = λ k from. ap (λ l. is_notice_due l c.args.session (k + 1) (seen c.loop-number.self.world)) was.goes.lost ∙ was.due k from in
    let happens : Happens as_is (given_to c.args.self.now) (event.Deliver c.in-Some.number) (seen c.loop-number.self.world) (seen c.deliver_and_start.new.self.world)
    = subst (λ w. Happens as_is (given_to c.args.self.now) (event.Deliver c.in-Some.number) w (seen c.deliver_and_start.new.self.world)) c.next_due.ensures.world
    (subst (λ gs. Happens as_is gs (event.Deliver c.in-Some.number) (seen c.next_due.new.self.world) (seen c.deliver_and_start.new.self.world)) (c.next_due.ensures.goes.given ∙ was.goes.given)
    c.in_ok-deliver_and_start.ensures.happens) in
    record {
      goes = goes_then c.args.self.now c.loop-number.self c.deliver_and_start.new.self was.goes
          (goes_then c.loop-number.self c.next_due.new.self c.deliver_and_start.new.self c.next_due.ensures.goes c.in_ok-deliver_and_start.ensures.goes);
      notices = next_done (λ k. DeliversWhere as_is (given_to c.args.self.now) (is_notice_due (lost_in c.args.self.now) c.args.session (k + 1) (seen c.args.self.now.world)) (k + 1))
          c.loop-number.told c.in-Some.number (seen c.args.self.now.world) (seen c.loop-number.self.world) (seen c.deliver_and_start.new.self.world) c.in-Some.ensures.some.0 was.notices
          (λ k from below. not_delivered as_is (given_to c.args.self.now) _ (k + 1) (seen c.loop-number.self.world) (sym (same k from) ∙ c.in-Some.ensures.before k from below))
          (λ k is.
          subst (λ b. DeliversWhere as_is (given_to c.args.self.now) b (k + 1) (seen c.loop-number.self.world) (seen c.deliver_and_start.new.self.world))
          (sym (sym (same k (omega (arith, is, c.in-Some.ensures.some.0)))
          ∙ subst (λ n. is_notice_due (lost_in c.loop-number.self) c.args.session n (seen c.loop-number.self.world) ≡ true) (sym is) c.in-Some.ensures.some.2))
          (subst (λ n. Happens as_is (given_to c.args.self.now) (event.Deliver n) (seen c.loop-number.self.world) (seen c.deliver_and_start.new.self.world)) (sym is) happens));
      due = λ j from.
          due_stays as_is (given_to c.args.self.now) (given_all c.args.self.now c.requires) (lost_in c.args.self.now) c.args.session (j + 1) true c.in-Some.number
          (seen c.loop-number.self.world) (seen c.deliver_and_start.new.self.world) (λ at. absurd (omega (arith, from, at))) happens
          ∙ was.due j (omega (arith, from, c.in-Some.ensures.some.0));
      most = c.in-Some.ensures.some.1;
    }

pub returns-clause-notices : goal.returns-clause-notices
returns-clause-notices c =
    let was = c.loop-number.invariant in
    let len : c.notices-all.result ≡ length (seen c.args.self.now.world).sites.mail = c.notices-all.ensures.count ∙ ap (λ w. length w.sites.mail) c.in_ok-sort.ensures.world in
    subst (λ w. Deeds (λ k. DeliversWhere as_is (given_to c.args.self.now) (is_notice_due (lost_in c.args.self.now) c.args.session (k + 1) (seen c.args.self.now.world)) (k + 1)) (length (seen c.args.self.now.world).sites.mail) (seen c.args.self.now.world) w)
    (sym c.next_due.ensures.world)
    (subst (λ n. Deeds (λ k. DeliversWhere as_is (given_to c.args.self.now) (is_notice_due (lost_in c.args.self.now) c.args.session (k + 1) (seen c.args.self.now.world)) (k + 1)) n (seen c.args.self.now.world) (seen c.loop-number.self.world)) len
    (idle_to (λ k. DeliversWhere as_is (given_to c.args.self.now) (is_notice_due (lost_in c.args.self.now) c.args.session (k + 1) (seen c.args.self.now.world)) (k + 1)) c.loop-number.told c.notices-all.result
    (seen c.args.self.now.world) (seen c.loop-number.self.world) was.most was.notices
    (λ k from below.
    not_delivered as_is (given_to c.args.self.now) _ (k + 1) (seen c.loop-number.self.world)
    (sym (ap (λ l. is_notice_due l c.args.session (k + 1) (seen c.loop-number.self.world)) was.goes.lost ∙ was.due k from) ∙ c.next_due.ensures.none c.in_default.is k from below))))

pub returns-clause-goes : goal.returns-clause-goes
returns-clause-goes c = goes_then c.args.self.now c.loop-number.self c.next_due.new.self c.loop-number.invariant.goes c.next_due.ensures.goes
