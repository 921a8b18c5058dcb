use Rattle.std.proofs.Common.{◌≡◌, ◌⊎◌, ◌<◌, ◌≤◌, ◌+◌, inl, inr, Some, is_some, slice_get, length-set, refl, sym, ap, ◌∙◌, subst, arith}
use Rattle.std.proofs.lemmas.Bool.{cases_lt}
use Rattle.rbd_world.specs.Seen.{seen}
use Rattle.rbd_schedule.specs.Schedule.{is_held}
use Rattle.rbd_schedule.proofs.Polled.{all_alike, one_more_set}
use Rattle.rbd_schedule.proofs.Queues.{set_other}
use Rattle.rbd_schedule.proofs.runner.Runner.held.Goals as goal

pub loop-k-init : goal.loop-k-init
loop-k-init c = record { count = refl; held = λ j below. absurd (omega (arith, below)); rest = λ j from below. all_alike _ 64 j below }

pub loop-k-preserved : goal.loop-k-preserved
loop-k-preserved c =
    let below : c.loop-k.k < 64 = omega (arith, c.loop-k-test.true, c.highest-k-end.ensures, c.requires.most) in
    record {
      count = length-set c.loop-k.held c.loop-k.k c.is_some.result ∙ c.loop-k.invariant.count;
      held = λ j before.
          one_more_set (λ j. is_held c.args.session (j + 1) (seen c.args.self.now.world)) c.loop-k.held c.loop-k.k c.is_some.result
          (subst (λ n. c.loop-k.k < n) (sym c.loop-k.invariant.count) below) (c.is_some.ensures ∙ ap is_some c.line.ensures.line) c.loop-k.invariant.held j before;
      rest = λ j from before.
          set_other c.loop-k.held c.loop-k.k j c.is_some.result (λ same. absurd (omega (arith, from, same)))
          ∙ c.loop-k.invariant.rest j (omega (arith, from)) before;
    }

pub returns : goal.returns
returns c = λ k below. by k below (cases_lt k c.loop-k.k)
  where
    by : (k : _) → k < 64 → (k < c.loop-k.k) ⊎ (c.loop-k.k ≤ k) → slice_get c.loop-k.held k ≡ Some (is_held c.args.session (k + 1) (seen c.args.self.now.world))
    by k below (inl before) = c.loop-k.invariant.held k before
    by k below (inr past) =
        c.loop-k.invariant.rest k past below
        ∙ ap Some (sym (c.requires.above c.args.session (k + 1) (omega (arith, past, c.loop-k-test.false, c.highest-k-end.ensures))))
