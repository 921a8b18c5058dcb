-- What a way to a lock comes to is told by what is left of its plan.
use Rattle.std.proofs.Common.{◌≡◌, ℕ, [], Option, Some, None, refl, sym, ap, ◌∙◌, subst}
use Rattle.rbd_client.specs.Feeding.{GoesOnItsWay, TakesTheLock, WayComesTo}
use Rattle.rbd_client.specs.declared.slot_state.Way.{Way}
use Rattle.rbd_client.specs.declared.slot_state.Way.TheVariants as way
use Rattle.rbd_kinds.specs.declared.answer.Answer.TheVariants as answer
use Rattle.rbd_kinds.specs.declared.header_op.HeaderOp.TheVariants as header
use Rattle.rbd_kinds.specs.declared.id.SiteId.{SiteId}
use Rattle.rbd_kinds.specs.declared.image_at.ImageAt.{ImageAt}
use Rattle.rbd_kinds.specs.declared.machine.Fed.{Fed}
use Rattle.rbd_kinds.specs.declared.operation.Op.{Op}
use Rattle.rbd_kinds.specs.declared.operation.Op.TheVariants as op
use Rattle.rbd_kinds.specs.declared.reply.Reply.{Reply}
use Rattle.rbd_kinds.specs.declared.reply.Reply.TheVariants as reply
use Rattle.rbd_machine.specs.Plan.{Plan, Ask, Return, IsLive, plan_after, past_label}
use Rattle.rbd_lock.specs.Acquire.{lock_labels, rest_at, rest_of_acquire, taking}
use Rattle.rbd_lock.specs.declared.acquire.Acquire.{Acquire}
use Rattle.rbd_lock.specs.declared.acquire.Stage.{Stage}
use Rattle.rbd_lock.specs.declared.acquire.Stage.TheVariants as stage

-- ---- the stage

-- whom a look at the watchers is about: where nobody watches it is fenced next
abbrev looks_for : Plan → Stage
looks_for (Ask site why (op.BlockAdd owner) next) = stage.Looking owner
looks_for plan = stage.Taking

abbrev stage_by : Op → (looking : Stage) → Stage
stage_by (op.Header image header.Watch) looking = stage.Watching
stage_by (op.Header image header.WatchersGet) looking = looking
stage_by (op.Header image (header.Notify kind)) looking = stage.Asking
stage_by (op.Header image (header.LockBreak owner)) looking = stage.Breaking owner
stage_by (op.BlockAdd owner) looking = stage.Fencing owner
stage_by o looking = stage.Taking

-- the stage that a plan is what is left of
abbrev stage_of : Plan → Stage
stage_of (Ask site why o next) = stage_by o (looks_for (next (answer.Instances [])))
stage_of plan = stage.Taking

told_stage : (s : Stage) (site : SiteId) (image : ℕ) (next : Plan) → stage_of (rest_at s site image next) ≡ s
told_stage stage.Watching site image next = refl
told_stage stage.Taking site image next = refl
told_stage (stage.Looking owner) site image next = refl
told_stage stage.Asking site image next = refl
told_stage (stage.Fencing owner) site image next = refl
told_stage (stage.Breaking owner) site image next = refl

-- ---- the way behind an answer

-- it goes on as a request of its own does
abbrev goes_alone : (a : Acquire) → Fed → Plan
goes_alone a f = past_label (lock_labels a.site a.image) (plan_after (rest_of_acquire a (Return reply.Done)) f)

same_acquire : (b d : Acquire) → d.site ≡ b.site → d.image ≡ b.image → d.stage ≡ b.stage → d ≡ b
same_acquire b d site image at =
    ap (λ s. record { site = s; image = d.image; stage = d.stage }) site
    ∙ ap (λ i. record { site = b.site; image = i; stage = d.stage }) image
    ∙ ap (λ s. record { site = b.site; image = b.image; stage = s }) at

one_way_on : (a : Acquire) (f : Fed) (b d : Acquire) → GoesOnItsWay a f b → GoesOnItsWay a f d → d ≡ b
one_way_on a f b d goes also =
    let left = goes.goes (lock_labels a.site a.image) (Return reply.Done) refl in
    let other = also.goes (lock_labels a.site a.image) (Return reply.Done) refl in
    same_acquire b d (also.site ∙ sym goes.site) (also.image ∙ sym goes.image)
    (sym (told_stage d.stage d.site d.image (Return reply.Done)) ∙ ap stage_of (other.is ∙ sym left.is) ∙ told_stage b.stage b.site b.image (Return reply.Done))

-- who has taken the lock has nothing left of its way
ends_there : (a : Acquire) (f : Fed) (p : ImageAt) → TakesTheLock a f p → goes_alone a f ≡ Return reply.Done
ends_there a f p takes =
    ap (λ s. past_label (lock_labels a.site a.image) (plan_after (rest_at s a.site a.image (Return reply.Done)) f)) takes.asked
    ∙ ap (λ g. past_label (lock_labels a.site a.image) (plan_after (taking a.site a.image (Return reply.Done)) g)) takes.done

goes_or_takes : (a : Acquire) (f : Fed) (b : Acquire) (p : ImageAt) → GoesOnItsWay a f b → TakesTheLock a f p → ⊥
goes_or_takes a f b p goes takes =
    let left = goes.goes (lock_labels a.site a.image) (Return reply.Done) refl in
    subst IsLive (left.is ∙ ends_there a f p takes) left.live

one_taken : (a : Acquire) (f : Fed) (p q : ImageAt) → TakesTheLock a f p → TakesTheLock a f q → q ≡ p
one_taken a f p q takes also =
    ap (λ s. record { site = s; image = q.image }) (also.site ∙ sym takes.site) ∙ ap (λ i. record { site = p.site; image = i }) (also.image ∙ sym takes.image)

pub one_way : (a : Acquire) (f : Fed) (result : Option Reply) (w x : Way) → WayComesTo a f result w → WayComesTo a f result x → x ≡ w
one_way a f None (way.On b) (way.On d) comes also = ap way.On (one_way_on a f b d comes also)
one_way a f None (way.On b) (way.Taken q) comes also = absurd (goes_or_takes a f b q comes also)
one_way a f None (way.On b) way.Unbegun comes also = absurd also
one_way a f None (way.Taken p) (way.On d) comes also = absurd (goes_or_takes a f d p also comes)
one_way a f None (way.Taken p) (way.Taken q) comes also = ap way.Taken (one_taken a f p q comes also)
one_way a f None (way.Taken p) way.Unbegun comes also = absurd also
one_way a f None way.Unbegun x comes also = absurd comes
one_way a f (Some r) w x comes also = also.0 ∙ sym comes.0
