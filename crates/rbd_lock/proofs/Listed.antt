-- An owner that was seen among the watchers is asked.
use Rattle.std.proofs.Common.{◌≡◌, ℕ, true, false, List, [], ◌∷◌, ◌++◌, refl, sym, ap, ◌∙◌, subst, append_assoc}
use Rattle.rbd_kinds.specs.declared.answer.Answer.{Answer}
use Rattle.rbd_kinds.specs.declared.answer.Answer.TheVariants as answer
use Rattle.rbd_kinds.specs.declared.header_op.HeaderOp.{HeaderOp}
use Rattle.rbd_kinds.specs.declared.header_op.HeaderOp.TheVariants as header
use Rattle.rbd_kinds.specs.declared.id.Instance.{Instance}
use Rattle.rbd_kinds.specs.declared.id.SiteId.{SiteId}
use Rattle.rbd_kinds.specs.declared.notice.NoticeKind.TheVariants as notice
use Rattle.rbd_kinds.specs.declared.operation.Op.{Op}
use Rattle.rbd_kinds.specs.declared.operation.Op.TheVariants as op
use Rattle.rbd_machine.specs.Path.{Answered}
use Rattle.rbd_lock.specs.Order.{MayComeBehind, AreStepsInOrder}
use Rattle.rbd_lock.specs.Steps.{is_instance_among, lock_held, watched_by, lock_take, watchers_get, block_add, request_lock}
use Rattle.rbd_lock.proofs.Behind.{step_in_order}
use Rattle.rbd_lock.proofs.Ordered.{behind}

-- ---- what the latest steps tell

abbrev instances_in : Answer → List Instance
instances_in (answer.Instances watchers) = watchers
instances_in a = []

abbrev owner_in : Instance → Answer → Instance
owner_in other (answer.Held owner) = owner
owner_in other a = other

abbrev watchers_told : List Answered → List Instance
watchers_told [] = []
watchers_told (s ∷ earlier) = instances_in s.answer

abbrev owner_told : Instance → List Answered → Instance
owner_told other [] = other
owner_told other (s ∷ []) = other
owner_told other (s ∷ t ∷ earlier) = owner_in other t.answer

abbrev latest_op : Op → List Answered → Op
latest_op other [] = other
latest_op other (s ∷ earlier) = s.op

module _ (site : SiteId) (image : ℕ) (owner : Instance) (watchers : List Instance) (earlier : List Answered) (listed : is_instance_among watchers owner ≡ true) where
  abbrev look : List Answered
  look = watched_by site image watchers ∷ lock_held site image owner ∷ earlier

  no_fence : (other : Instance) → MayComeBehind site image (op.BlockAdd other) look → ⊥
  no_fence other behind_look =
      let same : is_instance_among watchers owner ≡ is_instance_among behind_look.watchers other =
      ap (λ w. is_instance_among w owner) (ap watchers_told behind_look.is) ∙ ap (λ o. is_instance_among behind_look.watchers o) (ap (owner_told owner) behind_look.is) in
      let both : true ≡ false = sym listed ∙ same ∙ behind_look.told in
      cc

  asked_of_header : (i : ℕ) (o : HeaderOp) → MayComeBehind site image (op.Header i o) look → op.Header i o ≡ request_lock image
  asked_of_header i (header.Notify notice.RequestLock) may = ap (λ n. op.Header n (header.Notify notice.RequestLock)) may.0
  asked_of_header i header.Watch may = let no = may.1 in cc
  asked_of_header i header.WatchersGet may = let no : watchers_get image ≡ lock_take image = ap (latest_op (watchers_get image)) may.1.behind.is in cc
  asked_of_header i (header.LockBreak other) may = let no : watchers_get image ≡ block_add other = ap (latest_op (watchers_get image)) may.1.is in cc
  asked_of_header i header.LockTake may = absurd may.1
  asked_of_header i _ may = absurd may.1

  asked : (o : Op) → MayComeBehind site image o look → o ≡ request_lock image
  asked (op.Header i o) may = asked_of_header i o may
  asked (op.BlockAdd other) may = absurd (no_fence other may)
  asked _ may = absurd may

-- the two steps of a look, and those before
behind_look : (site : SiteId) (image : ℕ) (owner : Instance) (watchers : List Instance) (front before : List Answered)
    → behind front (before ++ lock_held site image owner ∷ watched_by site image watchers ∷ []) ≡ watched_by site image watchers ∷ lock_held site image owner ∷ behind front before
behind_look site image owner watchers front [] = refl
behind_look site image owner watchers front (b ∷ before) = behind_look site image owner watchers (b ∷ front) before

pub listed_is_asked : (site : SiteId) (image : ℕ) (owner : Instance) (watchers : List Instance) (before after : List Answered) (s : Answered) → is_instance_among watchers owner ≡ true
    → AreStepsInOrder site image [] (before ++ lock_held site image owner ∷ watched_by site image watchers ∷ s ∷ after) → s.op ≡ request_lock image
listed_is_asked site image owner watchers before after s listed are =
    let two = lock_held site image owner ∷ watched_by site image watchers ∷ [] in
    let all = step_in_order site image [] (before ++ two) s after (subst (AreStepsInOrder site image []) (sym (append_assoc before two (s ∷ after))) are) in
    asked site image owner watchers (behind [] before) listed s.op (subst (MayComeBehind site image s.op) (behind_look site image owner watchers [] before) all)
