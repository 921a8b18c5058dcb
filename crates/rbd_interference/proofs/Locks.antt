-- A lock has one owner, and lasts under what is permitted.
use Rattle.std.proofs.Common.{◌≡◌, ◌≢◌, ◌⊎◌, inl, inr, ℕ, cond, Bool, true, false, Option, Some, None, is_some, refl, sym, ap, ◌∙◌, subst}
use Rattle.std.specs.Prelude.{IsFalse}
use Rattle.std.proofs.lemmas.Bool.{true≢false, eq-eqb}
use Rattle.std.proofs.lemmas.Option.{same_Some}
use Rattle.rbd_kinds.specs.declared.answer.Answer.TheVariants as answer
use Rattle.rbd_kinds.specs.declared.header.HeaderView.{HeaderView}
use Rattle.rbd_kinds.specs.declared.header_op.HeaderOp.{HeaderOp}
use Rattle.rbd_kinds.specs.declared.header_op.HeaderOp.TheVariants as header
use Rattle.rbd_kinds.specs.declared.id.Instance.{Instance}
use Rattle.rbd_kinds.specs.declared.id.SiteId.{SiteId}
use Rattle.rbd_kinds.specs.declared.operation.Op.{Op}
use Rattle.rbd_kinds.specs.declared.operation.Op.TheVariants as op
use Rattle.rbd_kinds.specs.Instances.{same_instance}
use Rattle.rbd_kinds.proofs.Instances.{same_instance_is}
use Rattle.rbd_machine.specs.Knowledge.{Knowledge, is_drawn, is_gone}
use Rattle.rbd_machine.specs.Permits.{Permits, PermitsOnHeader}
use Rattle.rbd_site.specs.HeaderStep.{header_after, header_answer, lock_taken}
use Rattle.rbd_site.specs.Records.{Records}
use Rattle.rbd_site.specs.Step.{is_fenced, after, after_served, answer_to}
use Rattle.rbd_stands.specs.Owned.{HasLock}
use Rattle.rbd_stands.proofs.Locks.{EndsLock, EndsIt, operation_keeps}
use Rattle.rbd_interference.specs.Ancestors.{DrewNoneOf}
use Rattle.rbd_interference.specs.Beside.{AreBeside, AreUnfenced, BreaksNothing, SharesLock}
use Rattle.rbd_interference.specs.Locks.{HasLockWhileFree, KnowsByLock, gives_up}
use Rattle.rbd_interference.specs.Truth.{AreBasedElsewhere, IsTrueAt}
use Rattle.rbd_stands.proofs.Served.{fenced_after}
use Rattle.rbd_interference.proofs.Fenced.{was_free, where_free}
use Rattle.rbd_interference.proofs.Headers.{own_known}

-- ---- one owner

-- an image has one header, and that names one owner
same_owner : (r : Records) (me you : Instance) (image : ℕ) → HasLock image me r → HasLock image you r → me ≡ you
same_owner r me you image mine yours =
    let one : mine.header ≡ yours.header = same_Some mine.header yours.header (sym mine.there ∙ yours.there) in
    same_Some me you (sym mine.owner ∙ ap (λ (h : HeaderView). h.owner) one ∙ yours.owner)

pub one_owner : (r : Records) (me you : Instance) (image : ℕ) → AreUnfenced r me you → HasLockWhileFree r me image → HasLockWhileFree r you image → me ≡ you
one_owner r me you image free mine yours = same_owner r me you image (mine free.0) (yours free.1)

pub apart_by_locks : (site : SiteId) (r : Records) (me you : Instance) (k j : Knowledge) → me ≢ you → KnowsByLock site r me k → KnowsByLock site r you j
    → ((image : ℕ) → is_drawn k.drawn site image ≡ true → is_drawn j.drawn site image ≡ false) → ((image : ℕ) → is_gone k.gone site image ≡ true → is_drawn j.drawn site image ≡ false)
    → ((image : ℕ) → is_gone j.gone site image ≡ true → is_drawn k.drawn site image ≡ false) → ((image : ℕ) → is_gone k.gone site image ≡ true → is_gone j.gone site image ≡ false)
    → DrewNoneOf site k.seen j → DrewNoneOf site j.seen k → (IsFalse (is_fenced r you) → AreBasedElsewhere site k j) → (IsFalse (is_fenced r me) → AreBasedElsewhere site j k)
    → AreBeside site r me you k j
apart_by_locks site r me you k j differ mine yours apart gone gone_there removed unseen unseen_there unbased unbased_there = record {
  shared = λ free image one other. absurd (differ (one_owner r me you image free (mine image one) (yours image other)));
  gone = gone;
  gone_there = gone_there;
  removed = removed;
  apart = apart;
  unseen = unseen;
  unseen_there = unseen_there;
  unbased = unbased;
  unbased_there = unbased_there;
}

-- who has the lock itself meets nobody else that knows the header
pub shares_by_lock : (site : SiteId) (r : Records) (me you : Instance) (k j : Knowledge) (image : ℕ) → me ≢ you → HasLockWhileFree r me image → KnowsByLock site r you j
    → SharesLock site image r me you k j
shares_by_lock site r me you k j image differ mine yours = λ free some told. absurd (differ (one_owner r me you image free mine (yours image told)))

-- nor can both know the header where one breaks something
pub breaks_by_lock : (site : SiteId) (r : Records) (me you : Instance) (k j : Knowledge) (image : ℕ) (broken : Type 0) → me ≢ you → KnowsByLock site r me k → KnowsByLock site r you j
    → BreaksNothing site image r me you k j broken
breaks_by_lock site r me you k j image broken differ mine yours = λ free known told it. absurd (differ (one_owner r me you image free (mine image known) (yours image told)))

-- ---- it is taken

-- the header names who took the lock
taken_there : (me : Instance) (owner : Option Instance) → lock_taken me owner ≡ answer.Done → cond (is_some owner) owner (Some me) ≡ Some me
taken_there me None done = refl
taken_there me (Some owner) done = ap Some (same_instance_is owner me (go (same_instance owner me) done))
  where
    held_is_not_done : (i : Instance) → answer.Held i ≡ answer.Done → ⊥
    held_is_not_done i e = cc

    go : (b : Bool) → cond b answer.Done (answer.Held owner) ≡ answer.Done → b ≡ true
    go true done = refl
    go false done = absurd (held_is_not_done owner done)

taken_in : (r : Records) (me : Instance) (image : ℕ) (there : Option HeaderView) → r.headers image ≡ there
    → header_answer me there (r.watchers image) header.LockTake ≡ answer.Done → HasLock image me (after_served r me (op.Header image header.LockTake))
taken_in r me image None is done = absurd (by done)
  where
    by : answer.Absent ≡ answer.Done → ⊥
    by e = cc
taken_in r me image (Some h) is done = record {
  header = record h { owner = cond (is_some h.owner) h.owner (Some me) };
  there = ap (λ b. cond b (header_after me (r.headers image) header.LockTake) (r.headers image)) (eq-eqb image image refl) ∙ ap (λ q. header_after me q header.LockTake) is;
  owner = taken_there me h.owner done;
}

pub lock_is_taken : (r : Records) (me : Instance) (image : ℕ) → answer_to r me (op.Header image header.LockTake) ≡ answer.Done
    → HasLockWhileFree (after r me (op.Header image header.LockTake)) me image
lock_is_taken r me image done =
    where_free (λ a s. a ≡ answer.Done → HasLockWhileFree s me image) r me (op.Header image header.LockTake) (λ e. absurd (fenced_is_not_done e))
    (λ free served not_fenced. taken_in r me image (r.headers image) refl served) done
  where
    fenced_is_not_done : answer.Fenced ≡ answer.Done → ⊥
    fenced_is_not_done e = cc

-- ---- and lasts

-- None of what ends a lock is permitted, but that its owner gives it up, or is fenced. A header is
-- removed by one that knows it, who has the lock.
ends_by : (site : SiteId) (r : Records) (me you : Instance) (j : Knowledge) (image : ℕ) (o : HeaderOp) → IsTrueAt site r you j → KnowsByLock site r you j → PermitsOnHeader j site image o
    → (you ≡ me → gives_up image (op.Header image o) ≡ false) → IsFalse (is_fenced r me) → IsFalse (is_fenced r you) → HasLock image me r → EndsLock you me o → ⊥
ends_by site r me you j image header.LockDrop u locks permits keeps free served has same = true≢false (sym (eq-eqb image image refl) ∙ keeps same)
ends_by site r me you j image (header.LockBreak owner) u locks permits keeps free served has same = true≢false (sym (u.fenced owner permits) ∙ ap (is_fenced r) same ∙ free)
ends_by site r me you j image header.Remove u locks permits keeps free served has ends =
    let theirs = locks image (ap is_some (own_known j site image _ permits)) served in
    true≢false (sym (eq-eqb image image refl) ∙ keeps (same_owner r you me image theirs has))
ends_by site r me you j image _ u locks permits keeps free served has ends = ends

pub lock_lasts : (site : SiteId) (r : Records) (me you : Instance) (j : Knowledge) (image : ℕ) (o : Op) → IsTrueAt site r you j → KnowsByLock site r you j → Permits j site o
    → (you ≡ me → gives_up image o ≡ false) → HasLockWhileFree r me image → HasLockWhileFree (after r you o) me image
lock_lasts site r me you j image o u locks permits keeps lock free = by (is_fenced r you) refl
  where
    before : IsFalse (is_fenced r me)
    before = was_free r you me o free

    ended : IsFalse (is_fenced r you) → (e : EndsIt image you me o) → ⊥
    ended served e =
        ends_by site r me you j image e.o u locks (subst (Permits j site) e.is permits) (λ same. sym (ap (gives_up image) e.is) ∙ keeps same) before served (lock before) e.ends

    go : IsFalse (is_fenced r you) → HasLock image me (after r you o) ⊎ ((answer_to r you o ≡ answer.Done) × EndsIt image you me o) → HasLock image me (after r you o)
    go served (inl kept) = kept
    go served (inr lost) = absurd (ended served lost.1)

    -- who is fenced ends none
    by : (b : Bool) → is_fenced r you ≡ b → HasLock image me (after r you o)
    by true fenced = subst (HasLock image me) (sym (fenced_after r you o fenced)) (lock before)
    by false served = go served (operation_keeps r image you me (lock before) o)
