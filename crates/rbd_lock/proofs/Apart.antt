-- The steps of a walk up to the lock, and those behind it.
use Rattle.std.proofs.Common.{◌≡◌, inl, inr, ℕ, Bool, true, false, cond, List, [], ◌∷◌, refl, sym, ap, ◌∙◌, subst}
use Rattle.rbd_kinds.specs.declared.answer.Answer.{Answer}
use Rattle.rbd_kinds.specs.declared.answer.Answer.TheVariants as answer
use Rattle.rbd_kinds.specs.declared.id.Instance.{Instance}
use Rattle.rbd_kinds.specs.declared.id.SiteId.{SiteId}
use Rattle.rbd_kinds.specs.declared.machine.Fed.{Fed}
use Rattle.rbd_kinds.specs.declared.machine.Fed.TheVariants as fed
use Rattle.rbd_kinds.specs.declared.operation.Op.{Op}
use Rattle.rbd_commands.specs.declared.refusal.Refusal.{Refusal}
use Rattle.rbd_kinds.specs.declared.reply.Reply.{Reply}
use Rattle.rbd_kinds.specs.declared.reply.Reply.TheVariants as reply
use Rattle.rbd_machine.specs.Label.{Label}
use Rattle.rbd_machine.specs.Label as label
use Rattle.rbd_machine.specs.Path.{Answered, IsWalk}
use Rattle.rbd_machine.specs.Plan.{Plan, Return, past_label}
use Rattle.rbd_machine.specs.Steps.{not_there, on_done, refused}
use Rattle.rbd_lock.specs.Acquire.{acquire, again, asking, breaking, fencing, looking, step, taking, lock_labels, rest_at, on_taken, on_watchers, on_broken}
use Rattle.rbd_lock.specs.declared.acquire.Stage.{Stage}
use Rattle.rbd_lock.specs.declared.acquire.Stage.TheVariants as stage
use Rattle.rbd_lock.specs.Past.{IsToldApart}
use Rattle.rbd_lock.specs.Steps.{watch, lock_take, lock_break, watchers_get, block_add, request_lock, is_instance_among}

module _ (labels : Label → Plan) (site : SiteId) (image : ℕ) (next : Plan) (same : labels label.Lock ≡ taking site image next) where
  -- a plan whatever comes next
  abbrev Way : Type 0
  Way = Plan → Plan

  abbrev Apart : Way → List Answered → (last : Plan) → Type 0
  Apart way steps last = IsToldApart labels site image way next steps last

  -- the walks of a way are told apart
  abbrev AreApart : List Fed → Way → Type 0
  AreApart feds way = (steps : List Answered) (last : Plan) → IsWalk labels (way next) feds steps last → Apart way steps last

  -- where a way goes on with a step and then another way
  one_more : (why_op : Op) (on : Plan → Answer → Plan) (a : Answer) (then : Way) (rest : List Answered) (last : Plan)
      → past_label (lock_labels site image) (on (Return reply.Done) a) ≡ then (Return reply.Done)
      → Apart then rest last → Apart (λ p. step site why_op (on p)) (record { site = site; op = why_op; answer = a } ∷ rest) last
  one_more o on a then rest last goes (inl past) = inl (record {
    taking = record { site = site; op = o; answer = a } ∷ past.taking;
    rest = past.rest;
    feds = fed.Answer a ∷ past.feds;
    more = past.more;
    are = ap (λ r. record { site = site; op = o; answer = a } ∷ r) past.are;
    takes = (record { rest = past.taking; is = refl }, subst (λ p. IsWalk (lock_labels site image) p past.feds past.taking (Return reply.Done)) (sym goes) past.takes);
    goes_on = past.goes_on;
  })
  one_more o on a then rest last goes (inr under) = inr (record {
    feds = fed.Answer a ∷ under.feds;
    left = under.left;
    walk = (record { rest = rest; is = refl }, subst (λ p. IsWalk (lock_labels site image) p under.feds rest under.left) (sym goes) under.walk);
    untaken = under.untaken;
    refused = under.refused;
  })

  -- where it ends refused
  refused_apart : (a : Answer) (feds : List Fed) (rest : List Answered) (last : Plan)
      → IsWalk labels (past_label labels (not_there a)) feds rest last → (past_label (lock_labels site image) (not_there a) ≡ not_there a) × (rest ≡ []) × (last ≡ not_there a)
  refused_apart answer.Fenced [] rest last walk = (refl, walk.0, walk.1)
  refused_apart answer.Fenced (f ∷ more) rest last walk = absurd walk
  refused_apart a [] rest last walk = (refl, walk.0, walk.1)
  refused_apart a (f ∷ more) rest last walk = absurd walk

  not_done : (a : Answer) → not_there a ≡ Return reply.Done → ⊥
  not_done answer.Fenced is = cc
  not_done _ is = cc

  ends_refused : (o : Op) (on : Plan → Answer → Plan) (a : Answer) (feds : List Fed) (rest : List Answered) (last : Plan)
      → on (Return reply.Done) a ≡ not_there a → IsWalk labels (past_label labels (not_there a)) feds rest last
      → Apart (λ p. step site o (on p)) (record { site = site; op = o; answer = a } ∷ rest) last
  ends_refused o on a feds rest last is walk =
      let end = refused_apart a feds rest last walk in
      inr (record {
        feds = fed.Answer a ∷ [];
        left = last;
        walk = (
          record { rest = rest; is = refl },
          (end.1, end.2 ∙ sym end.0 ∙ ap (past_label (lock_labels site image)) (sym is)),
        );
        untaken = λ done. not_done a (sym end.2 ∙ done);
        refused = λ r is. is;
      })

  -- ---- a step of a way

  -- how a step of it may be answered
  abbrev StepApart : List Fed → Op → (on : Plan → Answer → Plan) → Type 0
  StepApart more o on = (a : Answer) (rest : List Answered) (last : Plan) → IsWalk labels (past_label labels (on next a)) more rest last
      → Apart (λ p. step site o (on p)) (record { site = site; op = o; answer = a } ∷ rest) last

  not_ended : (o : Op) (on : Answer → Plan) (r : Reply) → step site o on ≡ Return r → ⊥
  not_ended o on r is = cc

  no_refusal : (o : Op) (on : Answer → Plan) (r : Refusal) (last : Plan) → last ≡ step site o on → last ≡ refused r → ⊥
  no_refusal o on r last is other = not_ended o on (reply.Refused r) (sym is ∙ other)

  none_apart : (o : Op) (on : Plan → Answer → Plan) → AreApart [] (λ p. step site o (on p))
  none_apart o on steps last walk = inr (record {
    feds = [];
    left = step site o (on (Return reply.Done));
    walk = (walk.0, refl);
    untaken = λ done. not_ended o (on (Return reply.Done)) reply.Done done;
    refused = λ r is. absurd (no_refusal o (on next) r last walk.1 is);
  })

  step_apart : (o : Op) (on : Plan → Answer → Plan) (f : Fed) (more : List Fed) → StepApart more o on → AreApart (f ∷ more) (λ p. step site o (on p))
  step_apart o on fed.Passed more by steps last walk = absurd walk
  step_apart o on (fed.Answer a) more by steps last (first, walk) =
      subst (λ s. Apart (λ p. step site o (on p)) s last) (sym first.is) (by a first.rest last walk)

  -- ---- the stages of a way

  none_at : (s : Stage) → AreApart [] (rest_at s site image)
  none_at stage.Watching = none_apart (watch image) (λ p. on_done (taking site image p))
  none_at stage.Taking = none_apart (lock_take image) (on_taken site image)
  none_at (stage.Looking owner) = none_apart (watchers_get image) (λ p. on_watchers site image owner)
  none_at stage.Asking = none_apart (request_lock image) (λ p. on_done again)
  none_at (stage.Fencing owner) = none_apart (block_add owner) (λ p. on_done (breaking site image owner))
  none_at (stage.Breaking owner) = none_apart (lock_break image owner) (λ p. on_broken)

  module _ (f : Fed) (more : List Fed) (later : (s : Stage) → AreApart more (rest_at s site image)) where
    -- at the lock once more
    taken_again : (rest : List Answered) (last : Plan) → IsWalk labels (labels label.Lock) more rest last → Apart (taking site image) rest last
    taken_again rest last walk = later stage.Taking rest last (subst (λ p. IsWalk labels p more rest last) same walk)

    watching_apart : StepApart more (watch image) (λ p. on_done (taking site image p))
    watching_apart answer.Done rest last walk = one_more (watch image) (λ p. on_done (taking site image p)) answer.Done (taking site image) rest last refl (later stage.Taking rest last walk)
    watching_apart a rest last walk = ends_refused (watch image) (λ p. on_done (taking site image p)) a more rest last refl walk

    taking_apart : StepApart more (lock_take image) (on_taken site image)
    taking_apart answer.Done rest last walk = inl (record {
      taking = record { site = site; op = lock_take image; answer = answer.Done } ∷ [];
      rest = rest;
      feds = fed.Answer answer.Done ∷ [];
      more = more;
      are = refl;
      takes = (record { rest = []; is = refl }, (refl, refl));
      goes_on = walk;
    })
    taking_apart (answer.Held owner) rest last walk =
        one_more (lock_take image) (on_taken site image) (answer.Held owner) (λ p. looking site image owner) rest last refl (later (stage.Looking owner) rest last walk)
    taking_apart a rest last walk = ends_refused (lock_take image) (on_taken site image) a more rest last refl walk

    asking_apart : StepApart more (request_lock image) (λ p. on_done again)
    asking_apart answer.Done rest last walk = one_more (request_lock image) (λ p. on_done again) answer.Done (taking site image) rest last refl (taken_again rest last walk)
    asking_apart a rest last walk = ends_refused (request_lock image) (λ p. on_done again) a more rest last refl walk

    fencing_apart : (owner : Instance) → StepApart more (block_add owner) (λ p. on_done (breaking site image owner))
    fencing_apart owner answer.Done rest last walk =
        one_more (block_add owner) (λ p. on_done (breaking site image owner)) answer.Done (λ p. breaking site image owner) rest last refl (later (stage.Breaking owner) rest last walk)
    fencing_apart owner a rest last walk = ends_refused (block_add owner) (λ p. on_done (breaking site image owner)) a more rest last refl walk

    breaking_apart : (owner : Instance) → StepApart more (lock_break image owner) (λ p. on_broken)
    breaking_apart owner answer.Done rest last walk = one_more (lock_break image owner) (λ p. on_broken) answer.Done (taking site image) rest last refl (taken_again rest last walk)
    breaking_apart owner answer.Changed rest last walk = one_more (lock_break image owner) (λ p. on_broken) answer.Changed (taking site image) rest last refl (taken_again rest last walk)
    breaking_apart owner a rest last walk = ends_refused (lock_break image owner) (λ p. on_broken) a more rest last refl walk

    by_look : (owner : Instance) (watchers : List Instance) (rest : List Answered) (last : Plan) (b : Bool) → is_instance_among watchers owner ≡ b
        → IsWalk labels (past_label labels (cond b (asking site image) (fencing site image owner))) more rest last
        → Apart (λ p. looking site image owner) (record { site = site; op = watchers_get image; answer = answer.Instances watchers } ∷ rest) last
    by_look owner watchers rest last true told walk =
        one_more (watchers_get image) (λ p. on_watchers site image owner) (answer.Instances watchers) (λ p. asking site image) rest last
        (ap (λ b. past_label (lock_labels site image) (cond b (asking site image) (fencing site image owner))) told)
        (later stage.Asking rest last walk)
    by_look owner watchers rest last false told walk =
        one_more (watchers_get image) (λ p. on_watchers site image owner) (answer.Instances watchers) (λ p. fencing site image owner) rest last
        (ap (λ b. past_label (lock_labels site image) (cond b (asking site image) (fencing site image owner))) told)
        (later (stage.Fencing owner) rest last walk)

    looking_apart : (owner : Instance) → StepApart more (watchers_get image) (λ p. on_watchers site image owner)
    looking_apart owner (answer.Instances watchers) rest last walk = by_look owner watchers rest last (is_instance_among watchers owner) refl walk
    looking_apart owner a rest last walk = ends_refused (watchers_get image) (λ p. on_watchers site image owner) a more rest last refl walk

    some_at : (s : Stage) → AreApart (f ∷ more) (rest_at s site image)
    some_at stage.Watching = step_apart (watch image) (λ p. on_done (taking site image p)) f more watching_apart
    some_at stage.Taking = step_apart (lock_take image) (on_taken site image) f more taking_apart
    some_at (stage.Looking owner) = step_apart (watchers_get image) (λ p. on_watchers site image owner) f more (looking_apart owner)
    some_at stage.Asking = step_apart (request_lock image) (λ p. on_done again) f more asking_apart
    some_at (stage.Fencing owner) = step_apart (block_add owner) (λ p. on_done (breaking site image owner)) f more (fencing_apart owner)
    some_at (stage.Breaking owner) = step_apart (lock_break image owner) (λ p. on_broken) f more (breaking_apart owner)

  all_apart : (feds : List Fed) (s : Stage) → AreApart feds (rest_at s site image)
  all_apart [] = none_at
  all_apart (f ∷ more) = some_at f more (all_apart more)

  pub way_apart : (watched : Bool) (feds : List Fed) (steps : List Answered) (last : Plan) → IsWalk labels (acquire site image watched next) feds steps last
      → IsToldApart labels site image (acquire site image watched) next steps last
  way_apart true feds steps last walk = all_apart feds stage.Taking steps last walk
  way_apart false feds steps last walk = all_apart feds stage.Watching steps last walk
