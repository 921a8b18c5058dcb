-- Who has the lock of an image behind an operation, whom a site refuses, and what is in the mail.
use Rattle.std.proofs.Common.{◌≡◌, ◌⊎◌, inl, inr, ℕ, ◌+◌, ◌==◌, ◌&&◌, Bool, true, false, cond, List, [], ◌∷◌, ◌++◌, length, is_some, Option, Some, None, refl, sym, ap, ◌∙◌, subst}
use Rattle.std.proofs.lemmas.Bool.{false≢true, eqb-true}
use Rattle.std.proofs.lemmas.Option.{none-some, same_Some}
use Rattle.rbd_kinds.specs.declared.answer.Answer.{Answer}
use Rattle.rbd_kinds.specs.declared.answer.Answer.TheVariants as answer
use Rattle.rbd_kinds.specs.declared.header.HeaderView.{HeaderView}
use Rattle.rbd_kinds.specs.declared.header_op.HeaderOp.{HeaderOp}
use Rattle.rbd_kinds.specs.declared.header_op.HeaderOp.TheVariants as header
use Rattle.rbd_kinds.specs.declared.id.Instance.{Instance}
use Rattle.rbd_kinds.specs.declared.id.SiteId.{SiteId}
use Rattle.rbd_kinds.specs.declared.notice.Notice.{Notice}
use Rattle.rbd_kinds.specs.declared.notice.NoticeKind.{NoticeKind}
use Rattle.rbd_kinds.specs.declared.notice.NoticeKind.TheVariants as notice
use Rattle.rbd_kinds.specs.declared.operation.Op.{Op}
use Rattle.rbd_kinds.specs.declared.operation.Op.TheVariants as op
use Rattle.rbd_kinds.specs.Header.{snap_named}
use Rattle.rbd_kinds.specs.Instances.{same_instance}
use Rattle.rbd_kinds.proofs.Instances.{same_instance_itself}
use Rattle.rbd_header.specs.Header.{is_full, snap_in, with_snap, with_status, without_snap}
use Rattle.rbd_site.specs.HeaderStep.{header_after, header_answer, is_owner, lock_taken, where_made}
use Rattle.rbd_site.specs.Records.{Records}
use Rattle.rbd_site.specs.Step.{after, after_served, answer_served, answer_to, is_fenced, mail_after, mail_served}
use Rattle.rbd_site.specs.WatchStep.{notified, receivers}
use Rattle.rbd_watch.specs.Posting.{notices, notice_numbered}
use Rattle.rbd_catalog.specs.Follows.{TakesNoLock}

-- ---- the owner of an image's lock

abbrev pub owner_of : Option HeaderView → Option Instance
owner_of None = None
owner_of (Some h) = h.owner

abbrev pub owner_at : Records → (image : ℕ) → Option Instance
owner_at r image = owner_of (r.headers image)

-- a drop, and the removal of the header, with which the lock goes
abbrev pub ends_lock : HeaderOp → Bool
ends_lock header.LockDrop = true
ends_lock header.Remove = true
ends_lock o = false

-- the operation gives up the lock of the image, where it is the doer's own
abbrev pub gives_up : (image : ℕ) → Op → Bool
gives_up image (op.Header other o) = ends_lock o && (image == other)
gives_up image o = false

-- who has the lock had it before, and didn't give it up
pub record Keeps (me : Instance) (gives_up : Bool) (before : Option Instance) (who : Instance) : Type 0 where
  pub had : before ≡ Some who
  pub kept : gives_up ≡ true → who ≡ me → ⊥

kept : {me : Instance} {before : Option Instance} {who : Instance} → before ≡ Some who → Keeps me false before who
kept had = record { had = had; kept = λ gives. absurd (false≢true gives) }

header_keeps : (me : Instance) (h : Option HeaderView) (image : ℕ) (o : HeaderOp) (who : Instance) → TakesNoLock (op.Header image o) → owner_of (header_after me h o) ≡ Some who
    → Keeps me (ends_lock o) (owner_of h) who
header_keeps me None image (header.Create view) who may is = absurd (none-some who (sym may ∙ is))
header_keeps me None image o who may is = absurd (none-some who is)
header_keeps me (Some h) image (header.Create view) who may is = kept is
header_keeps me (Some h) image header.Get who may is = kept is
header_keeps me (Some h) image (header.SetSize size) who may is = kept is
header_keeps me (Some h) image (header.SnapAdd name) who may is = by (is_some (snap_named h.snaps name)) (is_full h) is
  where
    by : (listed full : Bool) → (where_made listed full (with_snap name h) h).owner ≡ Some who → Keeps me false h.owner who
    by true full is = kept is
    by false true is = kept is
    by false false is = kept is
header_keeps me (Some h) image (header.SnapRemove snap) who may is = by (is_some (snap_in h.snaps snap)) is
  where
    by : (b : Bool) → (cond b (without_snap snap h) h).owner ≡ Some who → Keeps me false h.owner who
    by true is = kept is
    by false is = kept is
header_keeps me (Some h) image (header.SnapStatus snap status) who may is = by (is_some (snap_in h.snaps snap)) is
  where
    by : (b : Bool) → (cond b (with_status snap status h) h).owner ≡ Some who → Keeps me false h.owner who
    by true is = kept is
    by false is = kept is
header_keeps me (Some h) image header.Detach who may is = kept is
header_keeps me (Some h) image (header.Role role) who may is = kept is
header_keeps me (Some h) image header.Mirror who may is = kept is
header_keeps me (Some h) image header.Synced who may is = kept is
header_keeps me (Some h) image header.Remove who may is = absurd (none-some who is)
header_keeps me (Some h) image header.LockTake who may is = absurd may
header_keeps me (Some h) image header.LockDrop who may is = by (is_owner me h.owner) refl is
  where
    mine : h.owner ≡ Some who → is_owner me h.owner ≡ false → who ≡ me → ⊥
    mine had not_mine same =
        false≢true (sym not_mine ∙ ap (is_owner me) had ∙ ap (same_instance who) (sym same) ∙ same_instance_itself who)

    by : (b : Bool) → is_owner me h.owner ≡ b → (cond b (record h { owner = None }) h).owner ≡ Some who → Keeps me true h.owner who
    by true at is = absurd (none-some who is)
    by false at is = record { had = is; kept = λ gives. mine is at }
header_keeps me (Some h) image (header.LockBreak owner) who may is = absurd may
header_keeps me (Some h) image header.Watch who may is = kept is
header_keeps me (Some h) image header.Unwatch who may is = kept is
header_keeps me (Some h) image header.WatchersGet who may is = kept is
header_keeps me (Some h) image (header.Notify kind) who may is = kept is

-- of any image, where the operation is on the header of one
header_keeps_at : (r : Records) (me : Instance) (on image : ℕ) (o : HeaderOp) (who : Instance) → TakesNoLock (op.Header on o) → owner_at (after_served r me (op.Header on o)) image ≡ Some who
    → Keeps me (gives_up image (op.Header on o)) (owner_at r image) who
header_keeps_at r me on image o who may is = by (image == on) refl is
  where
    here : ends_lock o && true ≡ ends_lock o
    here = go (ends_lock o)
      where
        go : (b : Bool) → (b && true) ≡ b
        go true = refl
        go false = refl

    there : (ends_lock o && false) ≡ false
    there = go (ends_lock o)
      where
        go : (b : Bool) → (b && false) ≡ false
        go true = refl
        go false = refl

    by : (b : Bool) → (image == on) ≡ b → owner_of (cond b (header_after me (r.headers on) o) (r.headers image)) ≡ Some who → Keeps me (ends_lock o && b) (owner_at r image) who
    by true at is =
        subst (λ n. Keeps me (ends_lock o && true) (owner_at r n) who) (sym (eqb-true image on at))
        (subst (λ g. Keeps me g (owner_at r on) who) (sym here) (header_keeps me (r.headers on) on o who may is))
    by false at is = subst (λ g. Keeps me g (owner_at r image) who) (sym there) (kept is)

pub served_keeps : (r : Records) (me : Instance) (o : Op) (image : ℕ) (who : Instance) → TakesNoLock o → owner_at (after_served r me o) image ≡ Some who → Keeps me (gives_up image o) (owner_at r image) who
served_keeps r me (op.Directory o) image who may is = kept is
served_keeps r me (op.Children o) image who may is = kept is
served_keeps r me (op.BlockAdd instance) image who may is = kept is
served_keeps r me (op.Header on o) image who may is = header_keeps_at r me on image o who may is
served_keeps r me (op.Data on number o) image who may is = kept is
served_keeps r me (op.Map on o) image who may is = kept is
served_keeps r me _ image who may is = kept is

-- ---- a lock that is taken

-- It was the owner's before, or it is the taker's now, who was told so.
abbrev pub IsTaken : (before : Option Instance) → (me who : Instance) → Answer → Type 0
IsTaken before me who told = (before ≡ Some who) ⊎ ((who ≡ me) × (told ≡ answer.Done))

header_taken : (me : Instance) (h : Option HeaderView) (watchers : List Instance) (who : Instance) → owner_of (header_after me h header.LockTake) ≡ Some who
    → IsTaken (owner_of h) me who (header_answer me h watchers header.LockTake)
header_taken me None watchers who is = absurd (none-some who is)
header_taken me (Some h) watchers who is = by h.owner refl is
  where
    by : (o : Option Instance) → h.owner ≡ o → cond (is_some o) o (Some me) ≡ Some who → IsTaken h.owner me who (header_answer me (Some h) watchers header.LockTake)
    by (Some owner) at is = inl (at ∙ is)
    by None at is = inr (sym (same_Some me who is), ap (λ (x : Option Instance). lock_taken me x) at)

-- of the image, and else as before
pub served_taken : (r : Records) (me : Instance) (on image : ℕ) (who : Instance) → owner_at (after_served r me (op.Header on header.LockTake)) image ≡ Some who
    → (owner_at r image ≡ Some who) ⊎ ((image ≡ on) × (who ≡ me) × (answer_served r me (op.Header on header.LockTake) ≡ answer.Done))
served_taken r me on image who is = by (image == on) refl is
  where
    by : (b : Bool) → (image == on) ≡ b → owner_of (cond b (header_after me (r.headers on) header.LockTake) (r.headers image)) ≡ Some who
        → (owner_at r image ≡ Some who) ⊎ ((image ≡ on) × (who ≡ me) × (answer_served r me (op.Header on header.LockTake) ≡ answer.Done))
    by false at is = inl is
    by true at is = go (header_taken me (r.headers on) (r.watchers on) who is)
      where
        go : IsTaken (owner_at r on) me who (header_answer me (r.headers on) (r.watchers on) header.LockTake)
            → (owner_at r image ≡ Some who) ⊎ ((image ≡ on) × (who ≡ me) × (answer_served r me (op.Header on header.LockTake) ≡ answer.Done))
        go (inl had) = inl (subst (λ n. owner_at r n ≡ Some who) (sym (eqb-true image on at)) had)
        go (inr (mine, told)) = inr (eqb-true image on at, mine, told)

-- who takes a lock is told that it is held only where another one has it
abbrev holder : Answer → Option Instance
holder (answer.Held owner) = Some owner
holder a = None

there_held : (me : Instance) (owner : Option Instance) (who : Instance) → lock_taken me owner ≡ answer.Held who → (owner ≡ Some who) × (who ≡ me → ⊥)
there_held me None who is = absurd (none-some who (ap holder is))
there_held me (Some owner) who is = by (same_instance owner me) refl is
  where
    by : (b : Bool) → same_instance owner me ≡ b → cond b answer.Done (answer.Held owner) ≡ answer.Held who → (Some owner ≡ Some who) × (who ≡ me → ⊥)
    by true at is = absurd (none-some who (ap holder is))
    by false at is =
        let same : Some owner ≡ Some who = ap holder is in
        (same, λ mine. false≢true (sym at ∙ ap (λ x. same_instance x me) (same_Some owner who same ∙ mine) ∙ same_instance_itself me))

pub held_by_another : (r : Records) (me : Instance) (on : ℕ) (who : Instance) → answer_served r me (op.Header on header.LockTake) ≡ answer.Held who → (owner_at r on ≡ Some who) × (who ≡ me → ⊥)
held_by_another r me on who is = by (r.headers on) refl is
  where
    by : (h : Option HeaderView) → r.headers on ≡ h → header_answer me h (r.watchers on) header.LockTake ≡ answer.Held who → (owner_at r on ≡ Some who) × (who ≡ me → ⊥)
    by None at is = absurd (none-some who (ap holder is))
    by (Some h) at is = let held = there_held me h.owner who is in (ap owner_of at ∙ held.0, held.1)

-- ---- where a site refuses nobody

abbrev pub RefusesNobody : Records → Type 0
RefusesNobody r = (i : Instance) → is_fenced r i ≡ false

-- what every operation but a fence leaves so
abbrev pub IsNoFence : Op → Type 0
IsNoFence (op.BlockAdd instance) = ⊥
IsNoFence o = Unit {0}

pub refuses_nobody : (r : Records) (me : Instance) (o : Op) → IsNoFence o → RefusesNobody r → RefusesNobody (after_served r me o)
refuses_nobody r me (op.Directory o) may none = none
refuses_nobody r me (op.Children o) may none = none
refuses_nobody r me (op.BlockAdd instance) may none = absurd may
refuses_nobody r me (op.Header on o) may none = none
refuses_nobody r me (op.Data on number o) may none = none
refuses_nobody r me (op.Map on o) may none = none
refuses_nobody r me _ may none = none

-- then each operation is served
pub serves : (r : Records) (me : Instance) (o : Op) → RefusesNobody r → after r me o ≡ after_served r me o
serves r me o none = ap (λ b. cond b r (after_served r me o)) (none me)

pub answers : (r : Records) (me : Instance) (o : Op) → RefusesNobody r → answer_to r me o ≡ answer_served r me o
answers r me o none = ap (λ b. cond b answer.Fenced (answer_served r me o)) (none me)

-- ---- where nobody was asked for a lock

abbrev pub asks_for_lock : NoticeKind → Bool
asks_for_lock notice.RequestLock = true
asks_for_lock k = false

abbrev pub AsksNobody : List Notice → Type 0
AsksNobody [] = Unit {0}
AsksNobody (n ∷ mail) = (asks_for_lock n.kind ≡ false) × AsksNobody mail

-- what every operation but such a notice leaves so
abbrev pub IsNoRequest : Op → Type 0
IsNoRequest (op.Header image (header.Notify notice.RequestLock)) = ⊥
IsNoRequest o = Unit {0}

both_ask : (mail more : List Notice) → AsksNobody mail → AsksNobody more → AsksNobody (mail ++ more)
both_ask [] more first second = second
both_ask (n ∷ mail) more first second = (first.0, both_ask mail more first.1 second)

posted_asks : (number : ℕ) (site : SiteId) (image : ℕ) (from : Instance) (to : List Instance) (kind : NoticeKind) → asks_for_lock kind ≡ false → AsksNobody (notices number site image from to kind)
posted_asks number site image from [] kind none = tt
posted_asks number site image from (i ∷ to) kind none = (none, posted_asks (number + 1) site image from to kind none)

notified_asks : (site : SiteId) (me : Instance) (image : ℕ) (to : List Instance) (o : HeaderOp) (mail : List Notice) → IsNoRequest (op.Header image o) → AsksNobody mail → AsksNobody (notified site me image to o mail)
notified_asks site me image to (header.Notify notice.RequestLock) mail may none = absurd may
notified_asks site me image to (header.Notify notice.ReleasedLock) mail may none = both_ask mail _ none (posted_asks (length mail + 1) site image me to notice.ReleasedLock refl)
notified_asks site me image to (header.Notify (notice.Custom bytes)) mail may none = both_ask mail _ none (posted_asks (length mail + 1) site image me to (notice.Custom bytes) refl)
notified_asks site me image to o mail may none = none

served_asks : (site : SiteId) (r : Records) (me : Instance) (o : Op) (mail : List Notice) → IsNoRequest o → AsksNobody mail → AsksNobody (mail_served site r me o mail)
served_asks site r me (op.Header on o) mail may none = notified_asks site me on (receivers me (r.headers on) (r.watchers on)) o mail may none
served_asks site r me _ mail may none = none

pub asks_nobody : (site : SiteId) (r : Records) (me : Instance) (o : Op) (mail : List Notice) → IsNoRequest o → AsksNobody mail → AsksNobody (mail_after site r me o mail)
asks_nobody site r me o mail may none = by (is_fenced r me)
  where
    by : (b : Bool) → AsksNobody (cond b mail (mail_served site r me o mail))
    by true = none
    by false = served_asks site r me o mail may none

-- a notice that is there asks for none
pub numbered_asks : (number : ℕ) (mail : List Notice) (n : Notice) → AsksNobody mail → notice_numbered number mail ≡ Some n → asks_for_lock n.kind ≡ false
numbered_asks number [] n none is = absurd (none-some n is)
numbered_asks number (x ∷ mail) n none is = by (x.number == number) (numbered_asks number mail n none.1) is
  where
    by : (b : Bool) → (notice_numbered number mail ≡ Some n → asks_for_lock n.kind ≡ false) → cond b (Some x) (notice_numbered number mail) ≡ Some n → asks_for_lock n.kind ≡ false
    by true rest is = sym (ap (λ (y : Notice). asks_for_lock y.kind) (same_Some x n is)) ∙ none.0
    by false rest is = rest is

-- ---- what a request does is both

pub no_fence : (o : Op) → TakesNoLock o → IsNoFence o
no_fence (op.BlockAdd instance) may = may
no_fence _ may = tt

pub no_request : (o : Op) → TakesNoLock o → IsNoRequest o
no_request (op.Header image (header.Notify notice.RequestLock)) may = may
no_request _ may = tt
