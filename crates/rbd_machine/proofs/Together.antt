-- Which requests go beside which.
use Rattle.std.proofs.Common.{◌≡◌, Bool, true, false, not, ◌&&◌, refl, sym, ap, true≢false}
use Rattle.rbd_kinds.specs.Sharing.{are_apart, go_together, is_alone}
use Rattle.rbd_kinds.specs.declared.sharing.Sharing.{Sharing}
use Rattle.rbd_kinds.specs.declared.sharing.Sharing.TheVariants as sharing

-- neither of two that go together is alone
pub shared_both : (one other : Sharing) → go_together one other ≡ true → (is_alone one ≡ false) × (is_alone other ≡ false)
shared_both one other together = by (is_alone one) (is_alone other) (are_apart one other) together
  where
    by : (a b c : Bool) → (not a && (not b && not c)) ≡ true → (a ≡ false) × (b ≡ false)
    by true b c h = absurd (true≢false (sym h))
    by false true c h = absurd (true≢false (sym h))
    by false false c h = (refl, refl)

pub alone_with_none : (one other : Sharing) → is_alone one ≡ true → go_together one other ≡ false
alone_with_none one other alone = ap (λ b. not b && (not (is_alone other) && not (are_apart one other))) alone

pub flips : (one other : Sharing) → go_together one other ≡ go_together other one
flips sharing.Alone sharing.Alone = refl
flips sharing.Alone sharing.Shared = refl
flips sharing.Alone sharing.Discard = refl
flips sharing.Alone sharing.Flatten = refl
flips sharing.Shared sharing.Alone = refl
flips sharing.Shared sharing.Shared = refl
flips sharing.Shared sharing.Discard = refl
flips sharing.Shared sharing.Flatten = refl
flips sharing.Discard sharing.Alone = refl
flips sharing.Discard sharing.Shared = refl
flips sharing.Discard sharing.Discard = refl
flips sharing.Discard sharing.Flatten = refl
flips sharing.Flatten sharing.Alone = refl
flips sharing.Flatten sharing.Shared = refl
flips sharing.Flatten sharing.Discard = refl
flips sharing.Flatten sharing.Flatten = refl
