-- Ways to a lock do each step where it may stand.
use Rattle.std.proofs.Common.{◌≡◌, ℕ, Bool, true, false, cond, List, [], ◌∷◌, refl, sym, subst}
use Rattle.rbd_kinds.specs.declared.answer.Answer.{Answer}
use Rattle.rbd_kinds.specs.declared.answer.Answer.TheVariants as answer
use Rattle.rbd_kinds.specs.declared.id.Instance.{Instance}
use Rattle.rbd_kinds.specs.declared.id.SiteId.{SiteId}
use Rattle.rbd_kinds.specs.declared.machine.Fed.{Fed}
use Rattle.rbd_kinds.specs.declared.machine.Fed.TheVariants as fed
use Rattle.rbd_kinds.specs.declared.operation.Op.{Op}
use Rattle.rbd_commands.specs.declared.refusal.Refusal.{Refusal}
use Rattle.rbd_kinds.specs.declared.reply.Reply.{Reply}
use Rattle.rbd_kinds.specs.declared.reply.Reply.TheVariants as reply
use Rattle.rbd_machine.specs.Answers.{CanGive}
use Rattle.rbd_machine.specs.Path.{Answered, IsWalk}
use Rattle.rbd_machine.specs.Plan.{Plan, Ask, Await, Note, Return, Goto, past_label}
use Rattle.rbd_machine.specs.Steps.{EndsIt, TellsDone, not_there, on_done, refused}
use Rattle.rbd_lock.specs.Acquire.{acquire, asking, breaking, fencing, looking, taking, lock_labels, on_taken, on_watchers, on_broken}
use Rattle.rbd_lock.specs.Order.{IsBehind, IsBehindLook, IsBehindWatching, MayComeBehind, MayTakeLock, AreStepsInOrder}
use Rattle.rbd_lock.specs.Steps.{watch, lock_take, lock_break, watchers_get, block_add, request_lock, is_instance_among, taken, lock_held, watched_by, fenced}
use Rattle.rbd_lock.proofs.Tells.{watch_tells, take_tells, look_tells, ask_tells, fence_tells, break_tells}

-- a step in front of those that were told
abbrev pub behind : (before steps : List Answered) → List Answered
behind before [] = before
behind before (s ∷ steps) = behind (s ∷ before) steps

pub record IsRefusedBehind (x : Refusal) (before : List Answered) : Type 0 where
  pub last : Answered
  pub latest : IsBehind last before
  pub by : not_there last.answer ≡ refused x
  pub given : CanGive last.op last.answer → EndsIt last.answer

module _ (site : SiteId) (image : ℕ) where
  -- how it may end behind these steps
  abbrev pub MayEnd : List Answered → Reply → Type 0
  MayEnd before reply.Done = IsBehind (taken site image) before
  MayEnd before (reply.Refused x) = IsRefusedBehind x before
  MayEnd before _ = ⊥

  abbrev pub IsOrdered : (before : List Answered) → Plan → Type 0
  IsOrdered before (Ask s why o next) = (s ≡ site) × MayComeBehind site image o before × ((a : Answer) → IsOrdered (record { site = s; op = o; answer = a } ∷ before) (next a))
  IsOrdered before (Await wait next) = ⊥
  IsOrdered before (Note s i event next) = ⊥
  IsOrdered before (Return r) = MayEnd before r
  IsOrdered before (Goto label) = MayTakeLock before

  -- ---- steps

  abbrev did : Op → Answer → Answered
  did o a = record { site = site; op = o; answer = a }

  ordered_not_there : (before : List Answered) (o : Op) (a : Answer) → (CanGive o a → EndsIt a) → IsOrdered (did o a ∷ before) (not_there a)
  ordered_not_there before o answer.Fenced given = record { last = did o answer.Fenced; latest = record { earlier = before; is = refl }; by = refl; given = given }
  ordered_not_there before o a given = record { last = did o a; latest = record { earlier = before; is = refl }; by = refl; given = given }

  ordered_on_done : (before : List Answered) (o : Op) (next : Plan) → ((a : Answer) → CanGive o a → TellsDone a) → IsOrdered (did o answer.Done ∷ before) next
      → (a : Answer) → IsOrdered (did o a ∷ before) (on_done next a)
  ordered_on_done before o next tells ordered answer.Done = ordered
  ordered_on_done before o next tells ordered a = ordered_not_there before o a (tells a)

  ordered_breaking : (owner : Instance) (before : List Answered) → IsOrdered (fenced site owner ∷ before) (breaking site image owner)
  ordered_breaking owner before = (refl, (refl, record { earlier = before; is = refl }), on)
    where
      on : (a : Answer) → IsOrdered (did (lock_break image owner) a ∷ fenced site owner ∷ before) (on_broken a)
      on answer.Done = tt
      on answer.Changed = tt
      on a = ordered_not_there (fenced site owner ∷ before) (lock_break image owner) a (break_tells image owner a)

  ordered_fencing : (owner : Instance) (before : List Answered) → IsBehindLook site image owner false before → IsOrdered before (fencing site image owner)
  ordered_fencing owner before look = (
    refl,
    look,
    ordered_on_done before (block_add owner) (breaking site image owner) (fence_tells image owner) (ordered_breaking owner before),
  )

  ordered_asking : (before : List Answered) → IsBehindWatching site image before → IsOrdered before (asking site image)
  ordered_asking before look = (refl, (refl, look), ordered_on_done before (request_lock image) _ (ask_tells image) tt)

  ordered_looking : (owner : Instance) (before : List Answered) → IsOrdered (lock_held site image owner ∷ before) (looking site image owner)
  ordered_looking owner before = (refl, (refl, record { owner = owner; behind = record { earlier = before; is = refl } }), on)
    where
      by_look : (watchers : List Instance) (b : Bool) → is_instance_among watchers owner ≡ b
          → IsOrdered (watched_by site image watchers ∷ lock_held site image owner ∷ before) (cond b (asking site image) (fencing site image owner))
      by_look watchers true told = ordered_asking (watched_by site image watchers ∷ lock_held site image owner ∷ before)
          (record { owner = owner; look = record { watchers = watchers; earlier = before; is = refl; told = told } })
      by_look watchers false told = ordered_fencing owner (watched_by site image watchers ∷ lock_held site image owner ∷ before)
          (record { watchers = watchers; earlier = before; is = refl; told = told })

      on : (a : Answer) → IsOrdered (did (watchers_get image) a ∷ lock_held site image owner ∷ before) (on_watchers site image owner a)
      on (answer.Instances watchers) = by_look watchers (is_instance_among watchers owner) refl
      on a = ordered_not_there (lock_held site image owner ∷ before) (watchers_get image) a (look_tells image a)

  pub ordered_taking : (before : List Answered) → MayTakeLock before → IsOrdered before (taking site image (Return reply.Done))
  ordered_taking before may = (refl, (refl, may), on)
    where
      on : (a : Answer) → IsOrdered (did (lock_take image) a ∷ before) (on_taken site image (Return reply.Done) a)
      on answer.Done = record { earlier = before; is = refl }
      on (answer.Held owner) = ordered_looking owner before
      on a = ordered_not_there before (lock_take image) a (take_tells image a)

  pub ordered_acquire : (watched : Bool) → IsOrdered [] (acquire site image watched (Return reply.Done))
  ordered_acquire true = ordered_taking [] tt
  ordered_acquire false = (
    refl,
    (refl, refl),
    ordered_on_done [] (watch image) (taking site image (Return reply.Done)) (watch_tells image) (ordered_taking (did (watch image) answer.Done ∷ []) tt),
  )

  -- ---- walks

  ordered_settled : (before : List Answered) (plan : Plan) → IsOrdered before plan → IsOrdered before (past_label (lock_labels site image) plan)
  ordered_settled before (Ask s why o next) ordered = ordered
  ordered_settled before (Await wait next) ordered = ordered
  ordered_settled before (Note s i event next) ordered = ordered
  ordered_settled before (Return r) ordered = ordered
  ordered_settled before (Goto label) may = ordered_taking before may

  pub record Ordered (before steps : List Answered) (last : Plan) : Type 0 where
    pub steps_are : AreStepsInOrder site image before steps
    pub last_is : IsOrdered (behind before steps) last

  first_ordered : (before : List Answered) (s : Answered) (rest : List Answered) (last : Plan)
      → s.site ≡ site → MayComeBehind site image s.op before → Ordered (s ∷ before) rest last → Ordered before (s ∷ rest) last
  first_ordered before s rest last at may more = record { steps_are = (at, may, more.steps_are); last_is = more.last_is }

  pub ordered_walk : (feds : List Fed) (before : List Answered) (plan : Plan) (steps : List Answered) (last : Plan)
      → IsOrdered before plan → IsWalk (lock_labels site image) plan feds steps last → Ordered before steps last
  ordered_walk [] before plan steps last ordered walk =
      subst (λ s. Ordered before s last) (sym walk.0) (record { steps_are = tt; last_is = subst (IsOrdered before) (sym walk.1) ordered })
  ordered_walk (fed.Answer a ∷ more) before (Ask s why o next) steps last (at, may, goes) (first, walk) =
      subst (λ all. Ordered before all last) (sym first.is)
      (first_ordered before (record { site = s; op = o; answer = a }) first.rest last at may
      (ordered_walk more (record { site = s; op = o; answer = a } ∷ before) (past_label (lock_labels site image) (next a)) first.rest last
      (ordered_settled (record { site = s; op = o; answer = a } ∷ before) (next a) (goes a)) walk))
  ordered_walk (fed.Passed ∷ more) before (Ask s why o next) steps last ordered walk = absurd walk
  ordered_walk (f ∷ more) before (Await wait next) steps last ordered walk = absurd ordered
  ordered_walk (f ∷ more) before (Note s i event next) steps last ordered walk = absurd ordered
  ordered_walk (f ∷ more) before (Return r) steps last ordered walk = absurd walk
  ordered_walk (f ∷ more) before (Goto label) steps last ordered walk = absurd walk
