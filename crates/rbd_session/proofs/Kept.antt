-- Requests that neither take a lock nor drop one.
use Rattle.std.proofs.Common.{◌≡◌, ℕ, List, [], ◌∷◌, Bool, Option, Some, None, refl, sym, subst}
use Rattle.rbd_kinds.specs.declared.sharing.Sharing.TheVariants as sharing
use Rattle.rbd_kinds.specs.declared.answer.Answer.{Answer}
use Rattle.rbd_kinds.specs.declared.answer.Answer.TheVariants as answer
use Rattle.rbd_kinds.specs.declared.header.HeaderView.{HeaderView}
use Rattle.rbd_kinds.specs.declared.id.SiteId.{SiteId}
use Rattle.rbd_kinds.specs.declared.machine.Fed.{Fed}
use Rattle.rbd_kinds.specs.declared.machine.Fed.TheVariants as fed
use Rattle.rbd_lock.specs.Comings.{owns_after}
use Rattle.rbd_machine.specs.Path.{Answered, IsWalk}
use Rattle.rbd_machine.specs.Plan.{Plan, Ask, Await, Note, Return, Goto, past_label}
use Rattle.rbd_machine.specs.Refused.{refuses_none}
use Rattle.rbd_machine.specs.Steps.{not_there, on_id, on_header, on_done, looked, owned as looked_own, joining as change_joining}
use Rattle.rbd_machine.proofs.Settled.{settled_goto}
use Rattle.rbd_lock.specs.Waiting.{owned_by}
use Rattle.rbd_meaning.specs.Straight.{Straight}
use Rattle.rbd_session.specs.Close.{replies_done, quiesced, quiesce, straight, telling}

-- no operation changes whether the session counts the lock as its own
abbrev KeepsLock : Plan → Type 0
KeepsLock (Ask site why o next) = ((owned : Bool) (a : Answer) → owns_after owned o a ≡ owned) × ((a : Answer) → KeepsLock (next a))
KeepsLock (Await wait next) = KeepsLock next
KeepsLock (Note site image event next) = KeepsLock next
KeepsLock (Return reply) = Unit {0}
KeepsLock (Goto label) = Unit {0}

keeps_settled : (plan : Plan) → KeepsLock plan → KeepsLock (past_label Goto plan)
keeps_settled plan keeps = subst KeepsLock (sym (settled_goto plan)) keeps

keeps_walk : (feds : List Fed) (plan : Plan) (steps : List Answered) (last : Plan) (owned : Bool) → KeepsLock plan → IsWalk Goto plan feds steps last → owned_by owned steps ≡ owned
keeps_walk [] plan steps last owned keeps walk = subst (λ s. owned_by owned s ≡ owned) (sym walk.0) refl
keeps_walk (fed.Answer a ∷ more) (Ask site why o next) steps last owned (same, keeps) (first, walk) =
    subst (λ s. owned_by owned s ≡ owned) (sym first.is)
    (subst (λ b. owned_by b first.rest ≡ owned) (sym (same owned a)) (keeps_walk more (past_label Goto (next a)) first.rest last owned (keeps_settled (next a) (keeps a)) walk))
keeps_walk (fed.Passed ∷ more) (Ask site why o next) steps last owned keeps walk = absurd walk
keeps_walk (fed.Passed ∷ more) (Await wait next) steps last owned keeps walk = keeps_walk more (past_label Goto next) steps last owned (keeps_settled next keeps) walk
keeps_walk (fed.Answer a ∷ more) (Await wait next) steps last owned keeps walk = absurd walk
keeps_walk (fed.Passed ∷ more) (Note site image event next) steps last owned keeps walk = keeps_walk more (past_label Goto next) steps last owned (keeps_settled next keeps) walk
keeps_walk (fed.Answer a ∷ more) (Note site image event next) steps last owned keeps walk = absurd walk
keeps_walk (f ∷ more) (Return reply) steps last owned keeps walk = absurd walk
keeps_walk (f ∷ more) (Goto label) steps last owned keeps walk = absurd walk

-- ---- steps

keeps_not_there : (a : Answer) → KeepsLock (not_there a)
keeps_not_there answer.Fenced = tt
keeps_not_there _ = tt

keeps_on_id : (next : ℕ → Plan) → ((image : ℕ) → KeepsLock (next image)) → (a : Answer) → KeepsLock (on_id next a)
keeps_on_id next keeps (answer.Id image) = keeps image
keeps_on_id next keeps a = keeps_not_there a

keeps_on_header : (next : HeaderView → Plan) → ((h : HeaderView) → KeepsLock (next h)) → (a : Answer) → KeepsLock (on_header next a)
keeps_on_header next keeps (answer.Header h) = keeps h
keeps_on_header next keeps a = keeps_not_there a

keeps_on_done : (next : Plan) → KeepsLock next → (a : Answer) → KeepsLock (on_done next a)
keeps_on_done next keeps answer.Done = keeps
keeps_on_done next keeps a = keeps_not_there a

-- ---- the plans

keeps_quiesce : (site : SiteId) (name : List ℕ) → KeepsLock (quiesce site name)
keeps_quiesce site name = (
  λ owned a. refl,
  keeps_on_id (change_joining site sharing.Alone refuses_none quiesced) (λ image. (
    λ owned a. refl,
    keeps_on_header (looked site refuses_none quiesced image) (λ first. (λ owned a. refl, keeps_on_header (looked_own refuses_none quiesced image) (λ own. tt))),
  )),
)

keeps_telling : (site : SiteId) (o : Option (List ℕ)) (image : ℕ) → KeepsLock (telling site o image)
keeps_telling site None image = tt
keeps_telling site (Some bytes) image = (λ owned a. refl, keeps_on_done replies_done tt)

keeps_straight : (site : SiteId) (s : Straight) → KeepsLock (straight site s)
keeps_straight site s = (λ owned a. refl, keeps_on_id (telling site s.tells) (keeps_telling site s.tells))

-- ---- what the session counts

pub owned_by_quiesce : (site : SiteId) (name : List ℕ) (owned : Bool) (feds : List Fed) (steps : List Answered) (last : Plan) → IsWalk Goto (quiesce site name) feds steps last → owned_by owned steps ≡ owned
owned_by_quiesce site name owned feds steps last walk = keeps_walk feds (quiesce site name) steps last owned (keeps_quiesce site name) walk

pub owned_by_straight : (site : SiteId) (s : Straight) (owned : Bool) (feds : List Fed) (steps : List Answered) (last : Plan) → IsWalk Goto (straight site s) feds steps last → owned_by owned steps ≡ owned
owned_by_straight site s owned feds steps last walk = keeps_walk feds (straight site s) steps last owned (keeps_straight site s) walk
