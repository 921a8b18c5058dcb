-- Who wants an operation may be fed what it can give, and wants it still once all is ready.
use Rattle.std.proofs.Common.{◌≡◌, ℕ, ◌&&◌, not, cond, Bool, true, false, Option, Some, None, refl, sym, ap, ◌∙◌, subst}
use Rattle.std.proofs.lemmas.Option.{none-some}
use Rattle.rbd_client.specs.declared.actor.Actor.{Actor}
use Rattle.rbd_client.specs.declared.actor.Actor.TheVariants as actor
use Rattle.rbd_client.specs.Actor.{actor_at, any_taken, is_at_rest, op_by, op_wanted}
use Rattle.rbd_client.specs.Client.{ClientView}
use Rattle.rbd_client.specs.Feeding.{CanGet, DropsAtRest, IsAtRest, IsClientAlike}
use Rattle.rbd_kinds.specs.declared.answer.Answer.{Answer}
use Rattle.rbd_kinds.specs.declared.header_op.HeaderOp.TheVariants as header
use Rattle.rbd_kinds.specs.declared.id.SiteId.{SiteId}
use Rattle.rbd_kinds.specs.declared.machine.Fed.TheVariants as fed
use Rattle.rbd_kinds.specs.declared.operation.Op.{Op}
use Rattle.rbd_kinds.specs.declared.operation.Op.TheVariants as op
use Rattle.rbd_queue.specs.Line.{any_past}
use Rattle.rbd_machine.specs.Answers.{CanBeFed, CanGive}
use Rattle.rbd_machine.specs.Plan.{Plan, Ask, Await, Note, Return, Goto, Standing}
use Rattle.rbd_lock.specs.Acquire.{op_at_stage as way_op, rest_at as way_rest}
use Rattle.rbd_lock.specs.declared.acquire.Stage.{Stage as WayStage}
use Rattle.rbd_lock.specs.declared.acquire.Stage.TheVariants as way_stage
use Rattle.rbd_kinds.specs.declared.reply.Reply.TheVariants as reply
use Rattle.rbd_lock.specs.declared.release.Stage.{Stage as ReleaseStage}
use Rattle.rbd_lock.specs.declared.release.Stage.TheVariants as release_stage
use Rattle.rbd_lock.specs.Release.{release_op_at, rest_at as release_rest}
use Rattle.rbd_slots.specs.declared.running.Occupant.{Occupant}
use Rattle.rbd_slots.specs.declared.running.Occupant.TheVariants as occupant
use Rattle.rbd_slots.specs.declared.running.Running.{Running}
use Rattle.rbd_slots.specs.Advance.{track_of, IsSameStand}
use Rattle.rbd_slots.specs.Lines.{LinesView, lines_of}
use Rattle.rbd_slots.specs.Session.{SessionView, IsAlike, IsAlikeIn, IsAnswered, OfRunning, going_in, held_in, of_going, op_asked, op_at, running_in}
use Rattle.rbd_slots.specs.Track.{Lines}
use Rattle.rbd_slots.specs.Waits.{waits}
use Rattle.rbd_slots.proofs.Readied.{same_track}
use Rattle.rbd_client.proofs.Alike.{actor_alike}

-- ---- what it can be fed

-- the operation of what is told, and another where none is
abbrev op_in : Op → Option (SiteId × Op) → Op
op_in other None = other
op_in other (Some (site, o)) = o

plan_can : (plan : Plan) (site : SiteId) (o : Op) (a : Answer) → op_asked plan ≡ Some (site, o) → CanGive o a → CanBeFed plan (fed.Answer a)
plan_can (Ask s why wanted next) site o a is can = subst (λ o. CanGive o a) (sym (ap (op_in o) is)) can
plan_can (Await w next) site o a is can = absurd (none-some (site, o) is)
plan_can (Note s image event next) site o a is can = absurd (none-some (site, o) is)
plan_can (Return r) site o a is can = absurd (none-some (site, o) is)
plan_can (Goto label) site o a is can = absurd (none-some (site, o) is)

way_can : (s : WayStage) (site : SiteId) (image : ℕ) (a : Answer) → CanGive (way_op s image) a → CanBeFed (way_rest s site image (Return reply.Done)) (fed.Answer a)
way_can way_stage.Watching site image a can = can
way_can way_stage.Taking site image a can = can
way_can (way_stage.Looking owner) site image a can = can
way_can way_stage.Asking site image a can = can
way_can (way_stage.Fencing owner) site image a can = can
way_can (way_stage.Breaking owner) site image a can = can

release_can : (s : ReleaseStage) (site : SiteId) (image : ℕ) (a : Answer) → CanGive (release_op_at s image) a → CanBeFed (release_rest s site image) (fed.Answer a)
release_can release_stage.Dropping site image a can = can
release_can release_stage.Telling site image a can = can

module _ {R : Type 0} (stands : R → Standing) where
  running_can : (slot : ℕ) (r : Running R) (lines : LinesView) (site : SiteId) (o : Op) (a : Answer) (b : Bool) → waits slot (track_of r lines) ≡ b
      → of_going stands op_asked (cond b None (Some r)) ≡ Some (site, o) → CanGive o a → IsAnswered stands slot lines (fed.Answer a) r
  running_can slot r lines site o a true held is can = absurd (none-some (site, o) is)
  running_can slot r lines site o a false held is can = record { goes = held; can = plan_can (stands r.request).plan site o a is can }

  request_can : (slot : ℕ) (held : Option (Occupant R)) (lines : LinesView) (site : SiteId) (o : Op) (a : Answer) → of_going stands op_asked (going_in slot held lines) ≡ Some (site, o) → CanGive o a
      → OfRunning (IsAnswered stands slot lines (fed.Answer a)) held
  request_can slot None lines site o a is can = absurd (none-some (site, o) is)
  request_can slot (Some (occupant.Refused line refusal)) lines site o a is can = absurd (none-some (site, o) is)
  request_can slot (Some (occupant.Running r)) lines site o a is can = running_can slot r lines site o a (waits slot (track_of r lines)) refl is can

  actor_can : (slot : ℕ) (s : SessionView R) (site : SiteId) (o : Op) (a : Answer) (who : Actor) → op_by stands slot s who ≡ Some (site, o) → CanGive o a → CanGet stands slot s (fed.Answer a) who
  actor_can slot s site o a actor.Nobody is can = absurd (none-some (site, o) is)
  actor_can slot s site o a actor.Request is can = request_can slot (held_in slot s.slots) s.lines site o a is can
  actor_can slot s site o a (actor.Way w) is can = way_can w.stage w.site w.image a (subst (λ o. CanGive o a) (sym (ap (op_in o) is)) can)
  actor_can slot s site o a (actor.Release r) is can = release_can r.stage r.site r.image a (subst (λ o. CanGive o a) (sym (ap (op_in o) is)) can)

  pub can_get : (slot : ℕ) (c : ClientView R) (site : SiteId) (o : Op) (a : Answer) → op_wanted stands slot c ≡ Some (site, o) → CanGive o a → CanGet stands slot c.session (fed.Answer a) (actor_at stands slot c)
  can_get slot c site o a is can = actor_can slot c.session site o a (actor_at stands slot c) is can

  -- ---- once all is ready

  running_alike : (slot : ℕ) (r q : Running R) (old new : LinesView) → IsSameStand stands r q → lines_of new ≡ lines_of old
      → of_going stands op_asked (going_in slot (Some (occupant.Running q)) new) ≡ of_going stands op_asked (going_in slot (Some (occupant.Running r)) old)
  running_alike slot r q old new same lines =
      ap (λ b. of_going stands op_asked (cond b None (Some q))) (ap (waits slot) (same_track stands r q old new same lines))
      ∙ by (waits slot (track_of r old))
    where
      by : (b : Bool) → of_going stands op_asked (cond b None (Some q)) ≡ of_going stands op_asked (cond b None (Some r))
      by true = refl
      by false = ap (λ (s : Standing). op_asked s.plan) same.same

  request_alike : (slot : ℕ) (old new : SessionView R) → IsAlike stands old new → op_at stands slot new ≡ op_at stands slot old
  request_alike slot old new alike = go (held_in slot old.slots) (held_in slot new.slots) (alike.slots slot)
    where
      none_of : (o : Option (Occupant R)) → running_in o ≡ None → (lines : LinesView) → of_going stands op_asked (going_in slot o lines) ≡ None
      none_of None is lines = refl
      none_of (Some (occupant.Refused line x)) is lines = refl
      none_of (Some (occupant.Running r)) is lines = absurd (none-some r (sym is))

      go : (o n : Option (Occupant R)) → IsAlikeIn stands o n → of_going stands op_asked (going_in slot n new.lines) ≡ of_going stands op_asked (going_in slot o old.lines)
      go (Some (occupant.Running p)) (Some (occupant.Running q)) same = running_alike slot p q old.lines new.lines same alike.lines
      go (Some (occupant.Running p)) (Some (occupant.Refused line x)) same = absurd (none-some p (ap running_in same))
      go (Some (occupant.Running p)) None same = absurd (none-some p (ap running_in same))
      go (Some (occupant.Refused line x)) n same = none_of n (ap running_in same) new.lines
      go None n same = none_of n (ap running_in same) new.lines

  by_alike : (slot : ℕ) (old new : SessionView R) → IsAlike stands old new → (who : Actor) → op_by stands slot new who ≡ op_by stands slot old who
  by_alike slot old new alike actor.Nobody = refl
  by_alike slot old new alike actor.Request = request_alike slot old new alike
  by_alike slot old new alike (actor.Way w) = refl
  by_alike slot old new alike (actor.Release r) = refl

  pub wanted_alike : (slot : ℕ) (old new : ClientView R) → IsClientAlike stands old new → op_wanted stands slot new ≡ op_wanted stands slot old
  wanted_alike slot old new alike =
      ap (op_by stands slot new.session) (actor_alike stands slot old new alike) ∙ by_alike slot old.session new.session alike.session (actor_at stands slot old)

  -- ---- a drop

  rest_alike : (site : SiteId) (image : ℕ) (old new : ClientView R) → IsClientAlike stands old new → is_at_rest site image new ≡ is_at_rest site image old
  rest_alike site image old new alike =
      ap (λ (ls : Lines). not (any_past (ls site image)) && not (any_taken site image new.slots)) alike.session.lines
      ∙ ap (λ slots. not (any_past (lines_of old.session.lines site image)) && not (any_taken site image slots)) alike.slots

  drop_alike : (site : SiteId) (o : Op) (old new : ClientView R) → IsClientAlike stands old new → IsAtRest site o old → IsAtRest site o new
  drop_alike site (op.Header image header.LockDrop) old new alike rests = rest_alike site image old new alike ∙ rests
  drop_alike site (op.Header image header.Remove) old new alike rests = ap (any_taken site image) alike.slots ∙ rests
  drop_alike site _ old new alike rests = tt

  pub drops_alike : (slot : ℕ) (site : SiteId) (o : Op) (old new : ClientView R) → IsClientAlike stands old new → IsAtRest site o old → DropsAtRest (actor_at stands slot new) site o new
  drops_alike slot site o old new alike rests = by (actor_at stands slot new)
    where
      by : (who : Actor) → DropsAtRest who site o new
      by actor.Nobody = tt
      by actor.Request = drop_alike site o old new alike rests
      by (actor.Way w) = tt
      by (actor.Release r) = tt
