-- What a notice and the end of a watch stand directly behind.
use Rattle.std.proofs.Common.{◌≡◌, inl, inr, ℕ, List, [], ◌∷◌, ◌++◌, ap, ◌∙◌}
use Rattle.rbd_kinds.specs.declared.answer.Answer.{Answer}
use Rattle.rbd_kinds.specs.declared.answer.Answer.TheVariants as answer
use Rattle.rbd_kinds.specs.declared.id.SiteId.{SiteId}
use Rattle.rbd_kinds.specs.declared.notice.NoticeKind.{NoticeKind}
use Rattle.rbd_kinds.specs.declared.notice.NoticeKind.TheVariants as notice
use Rattle.rbd_machine.specs.Path.{Answered}
use Rattle.rbd_lock.specs.Order.{EndsWith}
use Rattle.rbd_lock.specs.Steps.{lock_drop, released_lock}
use Rattle.rbd_session.specs.Close.{notify, unwatch}
use Rattle.rbd_session.specs.Meaning.{answered_with, IsBehindLettingGo}
use Rattle.rbd_session.proofs.Stands.{Did, same_step, BehindNotice, BehindDrop, Stands}

not_empty : (before : List Answered) (s : Answered) (after : List Answered) → before ++ s ∷ after ≡ [] → ⊥
not_empty [] s after is = cc
not_empty (b ∷ before) s after is = cc

module _ (site : SiteId) where
  -- what a step was, of another name of its image
  ends_two : (i image : ℕ) (first second : Answered) (a : Answer) → i ≡ image → Did site (lock_drop i) second → second.answer ≡ a → EndsWith (answered_with site (lock_drop image) a) (first ∷ second ∷ [])
  ends_two i image first second a same did is = record {
    before = first ∷ [];
    are = ap (λ s. first ∷ s ∷ []) (same_step site (lock_drop i) second a did is ∙ ap (λ n. answered_with site (lock_drop n) a) same);
  }

  ends_three : (i image : ℕ) (first second third : Answered) → i ≡ image → Did site (released_lock i) third → third.answer ≡ answer.Done
      → EndsWith (answered_with site (released_lock image) answer.Done) (first ∷ second ∷ third ∷ [])
  ends_three i image first second third same did is = record {
    before = first ∷ second ∷ [];
    are = ap (λ s. first ∷ second ∷ s ∷ []) (same_step site (released_lock i) third answer.Done did is ∙ ap (λ n. answered_with site (released_lock n) answer.Done) same);
  }

  -- ---- a notice

  abbrev ToldInOrder : (image : ℕ) → NoticeKind → (before : List Answered) → Type 0
  ToldInOrder image kind before = (kind ≡ notice.ReleasedLock) × EndsWith (answered_with site (lock_drop image) answer.Done) before

  module _ (image : ℕ) (kind : NoticeKind) (a : Answer) (after : List Answered) where
    never_behind_notice : (i : ℕ) (told : Answer) (before : List Answered) → BehindNotice site i told (before ++ answered_with site (notify image kind) a ∷ after) → ⊥
    never_behind_notice i told [] behind = let no = behind.leaves.did.op_is in cc
    never_behind_notice i told (b ∷ before) behind = not_empty before (answered_with site (notify image kind) a) after behind.leaves.last

    told_third : (i : ℕ) (first second : Answered) → Did site (lock_drop i) second → BehindDrop site i second.answer (answered_with site (notify image kind) a ∷ after)
        → ToldInOrder image kind (first ∷ second ∷ [])
    told_third i first second did (inl tells) =
        let is = tells.did.op_is in
        ((let e : kind ≡ notice.ReleasedLock = cc in e), ends_two i image first second answer.Done (let e : i ≡ image = cc in e) did tells.was)
    told_third i first second did (inr untold) = let no = untold.leaves.did.op_is in cc

    never_later : (i : ℕ) (dropped : Answer) (third : Answered) (before : List Answered) → BehindDrop site i dropped (third ∷ (before ++ answered_with site (notify image kind) a ∷ after)) → ⊥
    never_later i dropped third before (inl tells) = never_behind_notice i third.answer before tells.behind
    never_later i dropped third before (inr untold) = not_empty before (answered_with site (notify image kind) a) after untold.leaves.last

    pub told_in_order : (name : List ℕ) (before : List Answered) → Stands site name (before ++ answered_with site (notify image kind) a ∷ after) → ToldInOrder image kind before
    told_in_order name [] begins = let no = begins.did.op_is in cc
    told_in_order name (first ∷ []) begins = let no = begins.behind.did.op_is in cc
    told_in_order name (first ∷ second ∷ []) begins = told_third begins.behind.image first second begins.behind.did begins.behind.behind
    told_in_order name (first ∷ second ∷ third ∷ before) begins = absurd (never_later begins.behind.image second.answer third before begins.behind.behind)

  -- ---- the end of the watch

  module _ (image : ℕ) (a : Answer) (after : List Answered) where
    left_third : (i : ℕ) (first second : Answered) → Did site (lock_drop i) second → BehindDrop site i second.answer (answered_with site (unwatch image) a ∷ after)
        → IsBehindLettingGo site image (first ∷ second ∷ [])
    left_third i first second did (inl tells) = let no = tells.did.op_is in cc
    left_third i first second did (inr untold) =
        let is = untold.leaves.did.op_is in
        inl (ends_two i image first second answer.Changed (let e : i ≡ image = cc in e) did untold.was)

    left_fourth : (i : ℕ) (first second third : Answered) → BehindDrop site i second.answer (third ∷ answered_with site (unwatch image) a ∷ after)
        → IsBehindLettingGo site image (first ∷ second ∷ third ∷ [])
    left_fourth i first second third (inl tells) =
        let is = tells.behind.leaves.did.op_is in
        inr (ends_three i image first second third (let e : i ≡ image = cc in e) tells.did tells.behind.was)
    left_fourth i first second third (inr untold) = absurd (not_empty [] (answered_with site (unwatch image) a) after untold.leaves.last)

    never_left_later : (i : ℕ) (dropped : Answer) (third fourth : Answered) (before : List Answered) → BehindDrop site i dropped (third ∷ fourth ∷ (before ++ answered_with site (unwatch image) a ∷ after)) → ⊥
    never_left_later i dropped third fourth before (inl tells) = not_empty before (answered_with site (unwatch image) a) after tells.behind.leaves.last
    never_left_later i dropped third fourth before (inr untold) = not_empty [] fourth (before ++ answered_with site (unwatch image) a ∷ after) untold.leaves.last

    pub left_in_order : (name : List ℕ) (before : List Answered) → Stands site name (before ++ answered_with site (unwatch image) a ∷ after) → IsBehindLettingGo site image before
    left_in_order name [] begins = let no = begins.did.op_is in cc
    left_in_order name (first ∷ []) begins = let no = begins.behind.did.op_is in cc
    left_in_order name (first ∷ second ∷ []) begins = left_third begins.behind.image first second begins.behind.did begins.behind.behind
    left_in_order name (first ∷ second ∷ third ∷ []) begins = left_fourth begins.behind.image first second third begins.behind.behind
    left_in_order name (first ∷ second ∷ third ∷ fourth ∷ before) begins = absurd (never_left_later begins.behind.image second.answer third fourth before begins.behind.behind)
