-- What is wanted is there.
use Rattle.std.proofs.Common.{◌≡◌, ℕ}
use Rattle.rbd_kinds.specs.declared.id.SiteId.{SiteId}
use Rattle.rbd_kinds.specs.declared.machine.Want.TheVariants as want
use Rattle.rbd_kinds.specs.declared.operation_kind.OpKind.{OpKind}
use Rattle.rbd_machine.specs.Plan.{Plan, Ask, Await, Note, Return, Goto, IsLive, IsAsking, IsNoting, Wants}
use Rattle.rbd_machine.specs.Wait.{Wait, want_of}
use Rattle.rbd_machine.specs.Wait as wait

no_operation : (w : Wait) (site : SiteId) (kind : OpKind) → want.Op site kind ≡ want_of w → ⊥
no_operation (wait.Join s i sharing) site kind is = cc
no_operation (wait.Hold s i) site kind is = cc
no_operation (wait.Turn object) site kind is = cc
no_operation (wait.Applied s i) site kind is = cc
no_operation (wait.Leave s i) site kind is = cc

no_event : (w : Wait) (site : SiteId) (image : ℕ) → want.Note site image ≡ want_of w → ⊥
no_event (wait.Join s i sharing) site image is = cc
no_event (wait.Hold s i) site image is = cc
no_event (wait.Turn object) site image is = cc
no_event (wait.Applied s i) site image is = cc
no_event (wait.Leave s i) site image is = cc

pub wants_operation : (plan : Plan) (site : SiteId) (kind : OpKind) → IsLive plan → Wants plan (want.Op site kind) → IsAsking plan
wants_operation (Ask s why op next) site kind live wants = tt
wants_operation (Await w next) site kind live wants = absurd (no_operation w site kind wants)
wants_operation (Note s i event next) site kind live wants = cc
wants_operation (Return reply) site kind live wants = absurd live
wants_operation (Goto label) site kind live wants = absurd live

pub wants_event : (plan : Plan) (site : SiteId) (image : ℕ) → IsLive plan → Wants plan (want.Note site image) → IsNoting plan
wants_event (Ask s why op next) site image live wants = cc
wants_event (Await w next) site image live wants = absurd (no_event w site image wants)
wants_event (Note s i event next) site image live wants = tt
wants_event (Return reply) site image live wants = absurd live
wants_event (Goto label) site image live wants = absurd live
