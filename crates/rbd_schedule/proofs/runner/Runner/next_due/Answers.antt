use Rattle.std.proofs.Common.{◌≡◌, ◌+◌, ◌<◌, ◌≤◌, ◌⊎◌, inl, inr, ℕ, false, sym, ap, ◌∙◌, subst, arith}
use Rattle.std.proofs.lemmas.Bool.{cases_lt}
use Rattle.rbd_world.specs.Seen.{seen}
use Rattle.rbd_schedule.specs.Notices.{is_notice_due}
use Rattle.rbd_schedule.specs.Playing.{lost_in}
use Rattle.rbd_schedule.proofs.runner.Runner.next_due.Goals as goal

pub loop-k-init : goal.loop-k-init
loop-k-init c = record {
  least = c.behind-k.ensures.least;
  none = λ k from below. c.pass-passed.ensures.none k (c.behind-k.ensures.between k from below);
}

pub is_due-requires : goal.is_due-requires
is_due-requires c = c.pass-passed.ensures.goes.keeps c.requires

pub loop-k-preserved : goal.loop-k-preserved
loop-k-preserved c = record {
  least = let least = c.loop-k.invariant.least in omega (arith, least);
  none = λ k from below. by k from below (cases_lt k c.loop-k.k);
}
  where
    by : (k : ℕ) → c.args.told ≤ k → k < c.loop-k.k + 1 → (k < c.loop-k.k) ⊎ (c.loop-k.k ≤ k) → is_notice_due (lost_in c.args.self.now) c.args.session (k + 1) (seen c.args.self.now.world) ≡ false
    by k from below (inl less) = c.loop-k.invariant.none k from less
    by k from below (inr past) =
        let same : c.loop-k.k ≡ k = omega (arith, below, past) in
        subst (λ n. is_notice_due (lost_in c.args.self.now) c.args.session (n + 1) (seen c.args.self.now.world) ≡ false) same
        (sym (ap (λ l. is_notice_due l c.args.session (c.loop-k.k + 1) (seen c.pass-passed.new.self.world)) c.pass-passed.ensures.goes.lost
        ∙ ap (is_notice_due (lost_in c.args.self.now) c.args.session (c.loop-k.k + 1)) c.pass-passed.ensures.world)
        ∙ sym c.is_due.ensures ∙ c.if-is_due.false)

pub returns-then-is_due-clause-some : goal.returns-then-is_due-clause-some
returns-then-is_due-clause-some c =
    let least = c.loop-k.invariant.least in (
      omega (arith, least),
      omega (arith, c.loop-k-test.true),
      sym (ap (λ l. is_notice_due l c.args.session (c.loop-k.k + 1) (seen c.pass-passed.new.self.world)) c.pass-passed.ensures.goes.lost
          ∙ ap (is_notice_due (lost_in c.args.self.now) c.args.session (c.loop-k.k + 1)) c.pass-passed.ensures.world)
          ∙ sym c.is_due.ensures ∙ c.if-is_due.true,
    )

pub returns-then-is_due-clause-before : goal.returns-then-is_due-clause-before
returns-then-is_due-clause-before c = λ k from below. c.loop-k.invariant.none k from (omega (arith, below))

pub returns-clause-none : goal.returns-clause-none
returns-clause-none c = λ none k from below. c.loop-k.invariant.none k from (omega (arith, below, c.loop-k-test.false))

pub returns-clause-goes : goal.returns-clause-goes
returns-clause-goes c = c.pass-passed.ensures.goes

pub returns-clause-world : goal.returns-clause-world
returns-clause-world c = c.pass-passed.ensures.world

pub returns-then-is_due-clause-goes : goal.returns-then-is_due-clause-goes
returns-then-is_due-clause-goes c = c.pass-passed.ensures.goes

pub returns-then-is_due-clause-world : goal.returns-then-is_due-clause-world
returns-then-is_due-clause-world c = c.pass-passed.ensures.world
