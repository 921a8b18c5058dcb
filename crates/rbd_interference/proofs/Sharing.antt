-- Who goes beside whom on an image, where two go together.
use Rattle.std.proofs.Common.{◌≡◌, ◌≢◌, true, sym, ap, ◌∙◌, true≢false}
use Rattle.rbd_kinds.specs.Sharing.{go_together, is_alone}
use Rattle.rbd_kinds.specs.declared.sharing.Sharing.{Sharing}
use Rattle.rbd_kinds.specs.declared.sharing.Sharing.TheVariants.{Alone, Shared}
use Rattle.rbd_machine.proofs.Together.{flips, shared_both}

-- nobody goes beside one that is alone
pub alone_beside_none : (one other : Sharing) → other ≡ Alone → go_together one other ≡ true → ⊥
alone_beside_none one other alone together = true≢false (sym (ap is_alone alone) ∙ (shared_both one other together).1)

-- it is the same for both
pub together_turned : (one other : Sharing) → go_together one other ≡ true → go_together other one ≡ true
together_turned one other together = flips other one ∙ together

-- who is alone isn't among those that go beside all that aren't
pub alone_unshared : (one : Sharing) → one ≡ Alone → one ≢ Shared
alone_unshared one alone shared = true≢false (ap is_alone (sym alone ∙ shared))
