-- Who ends its own watch of an image let go of the lock before, in the same line. From then on it
-- looks at no header, and waits for nothing.
use Rattle.std.proofs.Common.{◌≡◌, ℕ, ◌||◌, Bool, true, false, List, [], ◌∷◌, Option, refl, sym, ◌∙◌, subst}
use Rattle.std.proofs.lemmas.Bool.{true≢false}
use Rattle.std.proofs.Math.Bool.{or-false}
use Rattle.rbd_session.specs.Close.{close, joining, on_dropped, unwatching}
use Rattle.rbd_commands.specs.declared.command.Command.{Command}
use Rattle.rbd_commands.specs.declared.command.Command.TheVariants as command
use Rattle.rbd_kinds.specs.declared.answer.Answer.{Answer}
use Rattle.rbd_kinds.specs.declared.answer.Answer.TheVariants as answer
use Rattle.rbd_kinds.specs.declared.header_op.HeaderOp.TheVariants as header
use Rattle.rbd_kinds.specs.declared.id.SiteId.{SiteId}
use Rattle.rbd_kinds.specs.declared.layout.Extent.{Extent}
use Rattle.rbd_kinds.specs.declared.machine.Fed.{Fed}
use Rattle.rbd_kinds.specs.declared.machine.Fed.TheVariants as fed
use Rattle.rbd_kinds.specs.declared.operation.Op.{Op}
use Rattle.rbd_kinds.specs.declared.operation.Op.TheVariants as op
use Rattle.rbd_kinds.specs.declared.operation_kind.OpKind.{OpKind}
use Rattle.rbd_kinds.specs.declared.operation_kind.OpKind.TheVariants as kind
use Rattle.rbd_kinds.specs.Images.{is_at}
use Rattle.rbd_kinds.specs.OperationKind.{kind_of}
use Rattle.rbd_kinds.specs.declared.reply.Reply.TheVariants as reply
use Rattle.rbd_machine.specs.Label.{Label}
use Rattle.rbd_machine.specs.Path.{Answered, IsWalk}
use Rattle.rbd_machine.specs.Plan.{Plan, Ask, Await, Note, Return, Goto, Standing, past_label}
use Rattle.rbd_machine.specs.declared.seat.Seat.{Seat}
use Rattle.rbd_lock.specs.Steps.{released_lock}
use Rattle.rbd_catalog.specs.Asking.{IsNoLook}
use Rattle.rbd_catalog.specs.Follows.{Follows, FollowsFrom, Noted, Outside, Progress, behind}
use Rattle.rbd_catalog.specs.Profile.{Profile, has_none_of, profile}
use Rattle.rbd_catalog.specs.EachRequest.{same_some}
use Rattle.rbd_catalog.proofs.Consequences.{is_none}
use Rattle.rbd_catalog.proofs.FollowsAll.{command_follows}
use Rattle.rbd_catalog.specs.Plans.{IsPlanFor}
use Rattle.rbd_catalog.proofs.PlanSteps.{at_done, at_id, at_not_there}
use Rattle.rbd_slots.specs.Track.{Track, answered_by, run}
use Rattle.rbd_world.specs.Closes.{has_let_go, lets_lock_go}

-- ---- operations

-- kinds that let a lock go, or end a watch
abbrev lets_some_go : OpKind → Bool
lets_some_go kind.LockDrop = true
lets_some_go kind.Unwatch = true
lets_some_go k = false

-- who leaves locks and watches alone lets none go
leaves_lets_none : (there : SiteId) (o : Op) (a : Answer) (s : SiteId) (image : ℕ) → lets_some_go (kind_of o) ≡ false → lets_lock_go there o a s image ≡ false
leaves_lets_none there (op.Header on header.LockDrop) a s image leaves = absurd (true≢false leaves)
leaves_lets_none there (op.Header on o) a s image leaves = refl
leaves_lets_none there o a s image leaves = refl

-- and who lets one go looks at no header
pub lets_go_blind : (there : SiteId) (o : Op) (a : Answer) (s : SiteId) (image : ℕ) → lets_lock_go there o a s image ≡ true → IsNoLook o
lets_go_blind there (op.Header on header.Get) a s image lets = absurd (true≢false (sym lets))
lets_go_blind there (op.Header on o) a s image lets = tt
lets_go_blind there o a s image lets = tt

module _ (s : SiteId) (image : ℕ) where
  -- ---- a plan

  -- a watch of the image is ended only where its lock was let go
  abbrev pub UnwatchesBehind : (gone : Bool) → SiteId → Op → Type 0
  UnwatchesBehind gone there (op.Header on header.Unwatch) = is_at there on s image ≡ true → gone ≡ true
  UnwatchesBehind gone there o = Unit {0}

  abbrev pub LooksBefore : (gone : Bool) → Op → Type 0
  LooksBefore true o = IsNoLook o
  LooksBefore false o = Unit {0}

  abbrev pub LetsGoFirst : (gone : Bool) → Plan → Type 0
  LetsGoFirst gone (Ask there why o next) = (UnwatchesBehind gone there o × LooksBefore gone o) × ((a : Answer) → LetsGoFirst (lets_lock_go there o a s image || gone) (next a))
  LetsGoFirst gone (Await wait next) = (gone ≡ false) × LetsGoFirst gone next
  LetsGoFirst gone (Note site on event next) = (gone ≡ false) × LetsGoFirst gone next
  LetsGoFirst gone (Return reply) = Unit {0}
  LetsGoFirst gone (Goto label) = gone ≡ false

  -- ---- who has no drop of a lock and no end of a watch in its row

  leaves_watches : (there : SiteId) (o : Op) → lets_some_go (kind_of o) ≡ false → UnwatchesBehind false there o
  leaves_watches there (op.Header on header.Unwatch) leaves = absurd (true≢false leaves)
  leaves_watches there (op.Header on o) leaves = tt
  leaves_watches there o leaves = tt

  module _ (p : Profile) (none : has_none_of lets_some_go p ≡ true) where
    leaves_first : (at : Progress) (plan : Plan) → Follows p at plan → LetsGoFirst false plan
    leaves_first at (Ask there why o next) follows =
        let leaves = is_none lets_some_go p.kinds none (kind_of o) follows.0.kind in (
          (leaves_watches there o leaves, tt),
          λ a. subst (λ b. LetsGoFirst (b || false) (next a)) (sym (leaves_lets_none there o a s image leaves)) (leaves_first at (next a) (follows.1 a)),
        )
    leaves_first at (Await w next) follows = (refl, leaves_first (behind at w) next follows.1)
    leaves_first at (Note site on event next) follows = (refl, leaves_first Noted next follows.2)
    leaves_first at (Return reply) follows = tt
    leaves_first at (Goto label) follows = refl

  -- ---- `close`

  looks_before : (gone : Bool) (o : Op) → IsNoLook o → LooksBefore gone o
  looks_before true o none = none
  looks_before false o none = tt

  module _ (site : SiteId) (on : ℕ) where
    unwatching_first : (gone : Bool) → (is_at site on s image ≡ true → gone ≡ true) → LetsGoFirst gone (unwatching site on)
    unwatching_first gone freed = ((freed, looks_before gone (op.Header on header.Unwatch) tt), λ a. at_done (LetsGoFirst gone) (λ r. tt) (Return reply.Done) tt a)

    dropped_first : (a : Answer) → LetsGoFirst (lets_lock_go site (op.Header on header.LockDrop) a s image || false) (on_dropped site on a)
    dropped_first answer.Done =
        let gone : Bool = is_at site on s image || false in
        ((tt, looks_before gone (released_lock on) tt), λ a. at_done (LetsGoFirst gone) (λ r. tt) (unwatching site on) (unwatching_first gone (λ at. or-false (is_at site on s image) ∙ at)) a)
    dropped_first answer.Changed = unwatching_first (is_at site on s image || false) (λ at. or-false (is_at site on s image) ∙ at)
    dropped_first a = at_not_there (LetsGoFirst false) (λ r. tt) a

    joining_first : LetsGoFirst false (joining site on)
    joining_first = (refl, (refl, ((tt, tt), dropped_first)))

  close_first : (site : SiteId) (name : List ℕ) → LetsGoFirst false (close site name)
  close_first site name = ((tt, tt), λ a. at_id (LetsGoFirst false) (λ r. tt) (joining site) (joining_first site) a)

  -- ---- all commands

  record GoesFirst (st : Standing) : Type 0 where
    plan : LetsGoFirst false st.plan
    labels : (label : Label) → LetsGoFirst false (st.labels label)

  row_first : (c : Command) (st : Standing) → has_none_of lets_some_go (profile c) ≡ true → FollowsFrom (profile c) st → GoesFirst st
  row_first c st none from =
      record { plan = leaves_first (profile c) none Outside st.plan from.plan; labels = λ label. leaves_first (profile c) none Outside (st.labels label) (from.labels label) }

  command_first : (seat : Seat) (c : Command) (st : Standing) → IsPlanFor seat c st → GoesFirst st
  command_first seat (command.Close name) st plan =
      subst GoesFirst (same_some _ st plan) (record { plan = close_first seat.home name; labels = λ label. refl })
  command_first seat c st plan = row_first c st refl (command_follows seat c st plan)

  -- ---- along a walk

  module _ (labels : Label → Plan) (there : (label : Label) → LetsGoFirst false (labels label)) where
    first_settled : (gone : Bool) (plan : Plan) → LetsGoFirst gone plan → LetsGoFirst gone (past_label labels plan)
    first_settled gone (Goto label) none = subst (λ b. LetsGoFirst b (labels label)) (sym none) (there label)
    first_settled gone (Ask site why o next) first = first
    first_settled gone (Await wait next) first = first
    first_settled gone (Note site on event next) first = first
    first_settled gone (Return reply) first = first

    or_moved : (a b c : Bool) → (b || (a || c)) ≡ ((a || b) || c)
    or_moved true true c = refl
    or_moved true false c = refl
    or_moved false b c = refl

    first_along : (gone : Bool) (plan : Plan) (feds : List Fed) (steps : List Answered) (last : Plan) → LetsGoFirst gone plan → IsWalk labels plan feds steps last
        → LetsGoFirst (has_let_go s image steps || gone) last
    first_along gone plan [] steps last first walk =
        subst (λ xs. LetsGoFirst (has_let_go s image xs || gone) last) (sym walk.0) (subst (LetsGoFirst gone) (sym walk.1) first)
    first_along gone (Ask site why o next) (fed.Answer a ∷ more) steps last first walk =
        let lets = lets_lock_go site o a s image in
        subst (λ xs. LetsGoFirst (has_let_go s image xs || gone) last) (sym walk.0.is)
        (subst (λ b. LetsGoFirst b last) (or_moved lets (has_let_go s image walk.0.rest) gone)
        (first_along (lets || gone) (past_label labels (next a)) more walk.0.rest last (first_settled (lets || gone) (next a) (first.1 a)) walk.1))
    first_along gone (Ask site why o next) (fed.Passed ∷ more) steps last first walk = absurd walk
    first_along gone (Await wait next) (fed.Passed ∷ more) steps last first walk = first_along gone (past_label labels next) more steps last (first_settled gone next first.1) walk
    first_along gone (Await wait next) (fed.Answer a ∷ more) steps last first walk = absurd walk
    first_along gone (Note site on event next) (fed.Passed ∷ more) steps last first walk = first_along gone (past_label labels next) more steps last (first_settled gone next first.1) walk
    first_along gone (Note site on event next) (fed.Answer a ∷ more) steps last first walk = absurd walk
    first_along gone (Return reply) (f ∷ more) steps last first walk = absurd walk
    first_along gone (Goto label) (f ∷ more) steps last first walk = absurd walk

  pub led_first : (seat : Seat) (c : Command) (start : Standing) (feds : List Fed) (steps : List Answered) (last : Plan) → IsPlanFor seat c start → IsWalk start.labels start.plan feds steps last
      → LetsGoFirst (has_let_go s image steps) last
  led_first seat c start feds steps last plan walk =
      let goes = command_first seat c start plan in
      subst (λ b. LetsGoFirst b last) (or-false (has_let_go s image steps)) (first_along start.labels goes.labels false start.plan feds steps last goes.plan walk)

  -- ---- once it has let go

  -- it waits for nothing
  pub runs_still : (slot : ℕ) (plan : Plan) (t : Track) → LetsGoFirst true plan → run slot plan t ≡ t
  runs_still slot (Ask site why o next) t first = refl
  runs_still slot (Await wait next) t first = absurd (true≢false first.0)
  runs_still slot (Note site on event next) t first = absurd (true≢false first.0)
  runs_still slot (Return reply) t first = refl
  runs_still slot (Goto label) t first = refl

-- and no answer changes where it stands
pub blind_stays : (slot : ℕ) (e : Option Extent) (t : Track) (site : SiteId) (o : Op) (a : Answer) → IsNoLook o → answered_by slot e t site o a ≡ t
blind_stays slot e t site (op.Header on header.Get) a none = absurd none
blind_stays slot e t site (op.Header on o) a none = refl
blind_stays slot e t site o a none = refl
