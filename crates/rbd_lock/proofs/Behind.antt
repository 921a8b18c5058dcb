-- Steps that are told the latest first, and what then stands right before a step.
use Rattle.std.proofs.Common.{◌≡◌, ℕ, Bool, List, [], ◌∷◌, ◌++◌, refl, sym, ap, ◌∙◌, append_assoc, append-nil}
use Rattle.rbd_kinds.specs.declared.id.Instance.{Instance}
use Rattle.rbd_kinds.specs.declared.id.SiteId.{SiteId}
use Rattle.rbd_kinds.specs.declared.reply.Reply.{Reply}
use Rattle.rbd_kinds.specs.declared.reply.Reply.TheVariants as reply
use Rattle.rbd_machine.specs.Path.{Answered}
use Rattle.rbd_lock.specs.Order.{IsBehind, IsBehindLook, IsBehindWatching, MayComeBehind, AreStepsInOrder, EndsBy, EndsWith, EndsWithLook, EndsWithWatching}
use Rattle.rbd_lock.specs.Steps.{lock_held, watched_by}
use Rattle.rbd_lock.proofs.Ordered.{behind, MayEnd}

-- what is told in front stays there
behind_behind : (before more steps : List Answered) → behind (before ++ more) steps ≡ behind before steps ++ more
behind_behind before more [] = refl
behind_behind before more (s ∷ steps) = behind_behind (s ∷ before) more steps

-- told twice the latest first, they are in their order
in_order_again : (before steps : List Answered) → behind [] (behind before steps) ≡ behind [] before ++ steps
in_order_again before [] = sym (append-nil (behind [] before))
in_order_again before (s ∷ steps) =
    in_order_again (s ∷ before) steps
    ∙ ap (λ front. front ++ steps) (behind_behind [] (s ∷ []) before)
    ∙ append_assoc (behind [] before) (s ∷ []) steps

-- steps by what they are, the latest first
from_latest : (steps latest : List Answered) → behind [] steps ≡ latest → steps ≡ behind [] latest
from_latest steps latest is = sym (in_order_again [] steps) ∙ ap (behind []) is

pub ends_with : (last : Answered) (steps : List Answered) → IsBehind last (behind [] steps) → EndsWith last steps
ends_with last steps is = record {
  before = behind [] is.earlier;
  are = from_latest steps (last ∷ is.earlier) is.is ∙ behind_behind [] (last ∷ []) is.earlier;
}

pub ends_with_look : (site : SiteId) (image : ℕ) (owner : Instance) (watches : Bool) (steps : List Answered)
    → IsBehindLook site image owner watches (behind [] steps) → EndsWithLook site image owner watches steps
ends_with_look site image owner watches steps is = record {
  before = behind [] is.earlier;
  watchers = is.watchers;
  are =
      from_latest steps (watched_by site image is.watchers ∷ lock_held site image owner ∷ is.earlier) is.is
      ∙ behind_behind [] (lock_held site image owner ∷ watched_by site image is.watchers ∷ []) is.earlier;
  told = is.told;
}

pub ends_with_watching : (site : SiteId) (image : ℕ) (steps : List Answered) → IsBehindWatching site image (behind [] steps) → EndsWithWatching site image steps
ends_with_watching site image steps is = record { owner = is.owner; look = ends_with_look site image is.owner _ steps is.look }

pub ends_by : (site : SiteId) (image : ℕ) (r : Reply) (steps : List Answered) → MayEnd site image (behind [] steps) r → EndsBy site image r steps
ends_by site image reply.Done steps is = ends_with _ steps is
ends_by site image (reply.Refused x) steps is = record { last = is.last; ends = ends_with is.last steps is.latest; by = is.by; given = is.given }
ends_by site image _ steps is = absurd is

-- a step among others stands where it may
pub step_in_order : (site : SiteId) (image : ℕ) (front : List Answered) (before : List Answered) (s : Answered) (after : List Answered)
    → AreStepsInOrder site image front (before ++ s ∷ after) → MayComeBehind site image s.op (behind front before)
step_in_order site image front [] s after are = are.1
step_in_order site image front (b ∷ before) s after are = step_in_order site image (b ∷ front) before s after are.2
