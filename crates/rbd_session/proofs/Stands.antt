-- The steps of a close, to its end or to where it stands, and what the session counts behind them.
use Rattle.std.proofs.Common.{◌≡◌, ◌⊎◌, inl, inr, ℕ, List, [], ◌∷◌, ◌++◌, Bool, false, refl, ap, sym, ◌∙◌, subst}
use Rattle.rbd_kinds.specs.declared.sharing.Sharing.TheVariants as sharing
use Rattle.rbd_kinds.specs.declared.answer.Answer.{Answer}
use Rattle.rbd_kinds.specs.declared.answer.Answer.TheVariants as answer
use Rattle.rbd_kinds.specs.declared.id.SiteId.{SiteId}
use Rattle.rbd_kinds.specs.declared.machine.Fed.{Fed}
use Rattle.rbd_kinds.specs.declared.machine.Fed.TheVariants as fed
use Rattle.rbd_kinds.specs.declared.operation.Op.{Op}
use Rattle.rbd_kinds.specs.declared.reply.Reply.TheVariants as reply
use Rattle.rbd_lock.specs.Comings.{owns_after}
use Rattle.rbd_machine.specs.About.{look_up}
use Rattle.rbd_machine.specs.Path.{Answered, IsWalk}
use Rattle.rbd_machine.specs.Plan.{Plan, Await, Goto}
use Rattle.rbd_machine.specs.Steps.{own, on_id, on_done}
use Rattle.rbd_machine.specs.Wait.{Wait}
use Rattle.rbd_machine.specs.Wait as wait
use Rattle.rbd_machine.proofs.Settled.{settled_goto}
use Rattle.rbd_machine.proofs.Walked.{WentOn, Passed, ended, absent_ends}
use Rattle.rbd_lock.specs.Steps.{lock_drop, released_lock}
use Rattle.rbd_lock.specs.Waiting.{owned_by}
use Rattle.rbd_session.specs.Close.{replies_done, unwatch, unwatching, on_dropped, dropping, holding, joining, close}
use Rattle.rbd_session.specs.Meaning.{answered_with, IsDropBehind}

-- a step is this operation, whatever it was answered
pub record Did (site : SiteId) (o : Op) (s : Answered) : Type 0 where
  pub at : s.site ≡ site
  pub op_is : s.op ≡ o

pub same_step : (site : SiteId) (o : Op) (s : Answered) (a : Answer) → Did site o s → s.answer ≡ a → s ≡ answered_with site o a
same_step site o s a did is =
    ap (λ t. answered_with t s.op s.answer) did.at ∙ ap (λ p. answered_with site p s.answer) did.op_is ∙ ap (λ b. answered_with site o b) is

module _ (site : SiteId) where
  -- ---- what may stand behind a step

  -- the watch is let go, and that is the last
  pub record Leaves (image : ℕ) (s : Answered) (rest : List Answered) : Type 0 where
    pub did : Did site (unwatch image) s
    pub last : rest ≡ []

  abbrev pub IsLeaving : (image : ℕ) → List Answered → Type 0
  IsLeaving image [] = Unit {0}
  IsLeaving image (s ∷ rest) = Leaves image s rest

  pub record LeavesOnceTold (image : ℕ) (told : Answer) (s : Answered) (rest : List Answered) : Type 0 where
    pub was : told ≡ answer.Done
    pub leaves : Leaves image s rest

  abbrev pub BehindNotice : (image : ℕ) → (told : Answer) → List Answered → Type 0
  BehindNotice image told [] = Unit {0}
  BehindNotice image told (s ∷ rest) = LeavesOnceTold image told s rest

  pub record Tells (image : ℕ) (dropped : Answer) (s : Answered) (rest : List Answered) : Type 0 where
    pub was : dropped ≡ answer.Done
    pub did : Did site (released_lock image) s
    pub behind : BehindNotice image s.answer rest

  pub record LeavesUntold (image : ℕ) (dropped : Answer) (s : Answered) (rest : List Answered) : Type 0 where
    pub was : dropped ≡ answer.Changed
    pub leaves : Leaves image s rest

  abbrev pub BehindDrop : (image : ℕ) → (dropped : Answer) → List Answered → Type 0
  BehindDrop image dropped [] = Unit {0}
  BehindDrop image dropped (s ∷ rest) = Tells image dropped s rest ⊎ LeavesUntold image dropped s rest

  pub record Drops (told : Answer) (s : Answered) (rest : List Answered) : Type 0 where
    pub image : ℕ
    pub was : told ≡ answer.Id image
    pub did : Did site (lock_drop image) s
    pub behind : BehindDrop image s.answer rest

  abbrev pub BehindFind : (told : Answer) → List Answered → Type 0
  BehindFind told [] = Unit {0}
  BehindFind told (s ∷ rest) = Drops told s rest

  pub record Begins (name : List ℕ) (s : Answered) (rest : List Answered) : Type 0 where
    pub did : Did site (look_up name) s
    pub behind : BehindFind s.answer rest

  abbrev pub Stands : (name : List ℕ) → List Answered → Type 0
  Stands name [] = Unit {0}
  Stands name (s ∷ rest) = Begins name s rest

  -- ---- so do the steps of each walk

  -- It stands there still, or the operation was answered.
  step_of : (o : Op) (next : Answer → Plan) (feds : List Fed) (steps : List Answered) (last : Plan)
      → IsWalk Goto (own site o next) feds steps last → (steps ≡ []) ⊎ WentOn last site o next steps
  step_of o next [] steps last walk = inl walk.0
  step_of o next (fed.Passed ∷ more) steps last walk = absurd walk
  step_of o next (fed.Answer a ∷ more) steps last (first, walk) = inr (record {
    answer = a;
    more = more;
    rest = first.rest;
    are = first.is;
    walk = subst (λ p. IsWalk Goto p more first.rest last) (settled_goto (next a)) walk;
  })

  pass_of : (w : Wait) (next : Plan) (feds : List Fed) (steps : List Answered) (last : Plan)
      → IsWalk Goto (Await w next) feds steps last → (steps ≡ []) ⊎ Passed last next steps
  pass_of w next [] steps last walk = inl walk.0
  pass_of w next (fed.Answer a ∷ more) steps last walk = absurd walk
  pass_of w next (fed.Passed ∷ more) steps last walk = inr (record { more = more; walk = subst (λ p. IsWalk Goto p more steps last) (settled_goto next) walk })

  nothing_behind : (a : Answer) (feds : List Fed) (steps : List Answered) (last : Plan) → IsWalk Goto (on_done replies_done a) feds steps last → steps ≡ []
  nothing_behind answer.Done feds steps last walk = (ended reply.Done feds steps last walk).0
  nothing_behind a feds steps last walk = absent_ends a feds steps last walk

  module _ (image : ℕ) where
    is_leaving : (feds : List Fed) (steps : List Answered) (last : Plan) → IsWalk Goto (unwatching site image) feds steps last → IsLeaving image steps
    is_leaving feds steps last walk = go (step_of (unwatch image) (on_done replies_done) feds steps last walk)
      where
        go : (steps ≡ []) ⊎ WentOn last site (unwatch image) (on_done replies_done) steps → IsLeaving image steps
        go (inl none) = subst (IsLeaving image) (sym none) tt
        go (inr w) = subst (IsLeaving image) (sym w.are) (record { did = record { at = refl; op_is = refl }; last = nothing_behind w.answer w.more w.rest last w.walk })

    leaving_once_told : (steps : List Answered) → IsLeaving image steps → BehindNotice image answer.Done steps
    leaving_once_told [] leaves = tt
    leaving_once_told (s ∷ rest) leaves = record { was = refl; leaves = leaves }

    leaving_untold : (steps : List Answered) → IsLeaving image steps → BehindDrop image answer.Changed steps
    leaving_untold [] leaves = tt
    leaving_untold (s ∷ rest) leaves = inr (record { was = refl; leaves = leaves })

    behind_notice : (told : Answer) (feds : List Fed) (steps : List Answered) (last : Plan) → IsWalk Goto (on_done (unwatching site image) told) feds steps last → BehindNotice image told steps
    behind_notice answer.Done feds steps last walk = leaving_once_told steps (is_leaving feds steps last walk)
    behind_notice a feds steps last walk = subst (BehindNotice image a) (sym (absent_ends a feds steps last walk)) tt

    behind_drop : (dropped : Answer) (feds : List Fed) (steps : List Answered) (last : Plan) → IsWalk Goto (on_dropped site image dropped) feds steps last → BehindDrop image dropped steps
    behind_drop answer.Done feds steps last walk = go (step_of (released_lock image) (on_done (unwatching site image)) feds steps last walk)
      where
        go : (steps ≡ []) ⊎ WentOn last site (released_lock image) (on_done (unwatching site image)) steps → BehindDrop image answer.Done steps
        go (inl none) = subst (BehindDrop image answer.Done) (sym none) tt
        go (inr w) =
            subst (BehindDrop image answer.Done) (sym w.are)
            (inl (record { was = refl; did = record { at = refl; op_is = refl }; behind = behind_notice w.answer w.more w.rest last w.walk }))
    behind_drop answer.Changed feds steps last walk = leaving_untold steps (is_leaving feds steps last walk)
    behind_drop a feds steps last walk = subst (BehindDrop image a) (sym (absent_ends a feds steps last walk)) tt

    at_drop : (feds : List Fed) (steps : List Answered) (last : Plan) → IsWalk Goto (dropping site image) feds steps last → BehindFind (answer.Id image) steps
    at_drop feds steps last walk = go (step_of (lock_drop image) (on_dropped site image) feds steps last walk)
      where
        go : (steps ≡ []) ⊎ WentOn last site (lock_drop image) (on_dropped site image) steps → BehindFind (answer.Id image) steps
        go (inl none) = subst (BehindFind (answer.Id image)) (sym none) tt
        go (inr w) =
            subst (BehindFind (answer.Id image)) (sym w.are)
            (record { image = image; was = refl; did = record { at = refl; op_is = refl }; behind = behind_drop w.answer w.more w.rest last w.walk })

    at_hold : (feds : List Fed) (steps : List Answered) (last : Plan) → IsWalk Goto (holding site image) feds steps last → BehindFind (answer.Id image) steps
    at_hold feds steps last walk = go (pass_of (wait.Hold site image) (dropping site image) feds steps last walk)
      where
        go : (steps ≡ []) ⊎ Passed last (dropping site image) steps → BehindFind (answer.Id image) steps
        go (inl none) = subst (BehindFind (answer.Id image)) (sym none) tt
        go (inr p) = at_drop p.more steps last p.walk

    at_join : (feds : List Fed) (steps : List Answered) (last : Plan) → IsWalk Goto (joining site image) feds steps last → BehindFind (answer.Id image) steps
    at_join feds steps last walk = go (pass_of (wait.Join site image sharing.Alone) (holding site image) feds steps last walk)
      where
        go : (steps ≡ []) ⊎ Passed last (holding site image) steps → BehindFind (answer.Id image) steps
        go (inl none) = subst (BehindFind (answer.Id image)) (sym none) tt
        go (inr p) = at_hold p.more steps last p.walk

  behind_find : (told : Answer) (feds : List Fed) (steps : List Answered) (last : Plan) → IsWalk Goto (on_id (joining site) told) feds steps last → BehindFind told steps
  behind_find (answer.Id image) feds steps last walk = at_join image feds steps last walk
  behind_find a feds steps last walk = subst (BehindFind a) (sym (absent_ends a feds steps last walk)) tt

  pub stands : (name : List ℕ) (feds : List Fed) (steps : List Answered) (last : Plan) → IsWalk Goto (close site name) feds steps last → Stands name steps
  stands name feds steps last walk = go (step_of (look_up name) (on_id (joining site)) feds steps last walk)
    where
      go : (steps ≡ []) ⊎ WentOn last site (look_up name) (on_id (joining site)) steps → Stands name steps
      go (inl none) = subst (Stands name) (sym none) tt
      go (inr w) = subst (Stands name) (sym w.are) (record { did = record { at = refl; op_is = refl }; behind = behind_find w.answer w.more w.rest last w.walk })

  -- ---- what the session counts

  owned_leaving : (image : ℕ) (steps : List Answered) → IsLeaving image steps → owned_by false steps ≡ false
  owned_leaving image [] leaves = refl
  owned_leaving image (s ∷ rest) leaves =
      subst (λ o. owned_by (owns_after false o s.answer) rest ≡ false) (sym leaves.did.op_is) (subst (λ r. owned_by false r ≡ false) (sym leaves.last) refl)

  owned_behind_notice : (image : ℕ) (told : Answer) (steps : List Answered) → BehindNotice image told steps → owned_by false steps ≡ false
  owned_behind_notice image told [] behind = refl
  owned_behind_notice image told (s ∷ rest) behind = owned_leaving image (s ∷ rest) behind.leaves

  owned_behind_drop : (image : ℕ) (dropped : Answer) (steps : List Answered) → BehindDrop image dropped steps → owned_by false steps ≡ false
  owned_behind_drop image dropped [] behind = refl
  owned_behind_drop image dropped (s ∷ rest) (inl tells) =
      subst (λ o. owned_by (owns_after false o s.answer) rest ≡ false) (sym tells.did.op_is) (owned_behind_notice image s.answer rest tells.behind)
  owned_behind_drop image dropped (s ∷ rest) (inr untold) = owned_leaving image (s ∷ rest) untold.leaves

  owned_at_second : (name : List ℕ) (owned : Bool) (first second : Answered) (more : List Answered) → Stands name (first ∷ second ∷ more) → owned_by owned (first ∷ second ∷ more) ≡ false
  owned_at_second name owned first second more begins =
      subst (λ o. owned_by (owns_after (owns_after owned first.op first.answer) o second.answer) more ≡ false) (sym begins.behind.did.op_is)
      (owned_behind_drop begins.behind.image second.answer more begins.behind.behind)

  pub owned_past_drop : (name : List ℕ) (owned : Bool) (before after : List Answered) (image : ℕ) (a : Answer) → Stands name (before ++ answered_with site (lock_drop image) a ∷ after)
      → owned_by owned (before ++ answered_with site (lock_drop image) a ∷ after) ≡ false
  owned_past_drop name owned [] after image a begins = let no = begins.did.op_is in cc
  owned_past_drop name owned (first ∷ []) after image a begins = owned_at_second name owned first (answered_with site (lock_drop image) a) after begins
  owned_past_drop name owned (first ∷ second ∷ before) after image a begins = owned_at_second name owned first second (before ++ answered_with site (lock_drop image) a ∷ after) begins

  pub owned_before_drop : (name : List ℕ) (owned : Bool) (first : Answered) → Stands name (first ∷ []) → owned_by owned (first ∷ []) ≡ owned
  owned_before_drop name owned first begins = subst (λ o. owns_after owned o first.answer ≡ owned) (sym begins.did.op_is) refl

  pub drop_is_second : (name : List ℕ) (first second : Answered) (more : List Answered) → Stands name (first ∷ second ∷ more) → IsDropBehind site name first second
  drop_is_second name first second more begins = record {
    image = begins.behind.image;
    dropped = second.answer;
    finds = same_step site (look_up name) first (answer.Id begins.behind.image) begins.did begins.behind.was;
    drops = same_step site (lock_drop begins.behind.image) second second.answer begins.behind.did refl;
  }
