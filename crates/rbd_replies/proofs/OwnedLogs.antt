-- The log of a run that is right is an owned one, since each of its operations is: so who lost a
-- lock let go of it, or was fenced.
use Rattle.std.proofs.Common.{◌≡◌, ◌⊎◌, ℕ, cond, Bool, true, false, List, [], ◌∷◌, ◌++◌, Some, is_some, refl, sym, ap, ◌∙◌, subst, append-nil}
use Rattle.std.specs.Prelude.{IsTrue}
use Rattle.rbd_kinds.specs.declared.id.Instance.{Instance}
use Rattle.rbd_kinds.specs.declared.id.SiteId.{SiteId}
use Rattle.rbd_kinds.proofs.Images.{same_site_is}
use Rattle.rbd_machine.specs.Knowledge.{same_site}
use Rattle.rbd_site.specs.Log.{AreAnswered, IsAnswer, after_all, after_op, expire_line, expired, log_line, trim_line, trimmed}
use Rattle.rbd_site.specs.Records.{Records, no_records}
use Rattle.rbd_site.specs.Step.{after, answer_to, is_fenced}
use Rattle.rbd_site.specs.declared.done.Done.{Done}
use Rattle.rbd_site.proofs.LogLemmas.{after_all-more, answered_more}
use Rattle.rbd_watch.specs.Watching.{oldest_of}
use Rattle.rbd_stands.specs.Owned.{AreOwned, HasLock, IsLetGo, IsOwnedLine, IsOwnedStep, SomeLine}
use Rattle.rbd_stands.proofs.LogSteps.{lock_claim, owned_more}
use Rattle.rbd_world.specs.Run.{Happening, Nothing, Waited, Began, Did, Refused, Trimmed, Expired, Heard, Stopped, Restarted, Operation, lines_at, log_of, records_after, records_behind}
use Rattle.rbd_world.specs.Sound.{HasRun, IsRightlyDone, IsDue, IsRight}
use Rattle.rbd_world.specs.World.{WorldView, site_in}
use Rattle.rbd_world.proofs.Runs.{done_of}
use Rattle.rbd_replies.specs.Logs.{IsOwnedLog}

-- ---- a log of a run

-- these records are what the log leaves, and it is owned
record Leaves (r : Records) (log : List Done) : Type 0 where
  kept : r ≡ after_all no_records log
  answered : AreAnswered no_records log
  owned : AreOwned no_records log

-- nothing was added
same_log : (r : Records) (log : List Done) → Leaves r log → Leaves r (log ++ [])
same_log r log = subst (Leaves r) (sym (append-nil log))

line_added : (r : Records) (log : List Done) (d : Done) → Leaves r log → IsAnswer r d.instance d.op d.answer → IsOwnedLine r d.instance d.op d.answer
    → Leaves (after_op r d.instance d.op) (log ++ d ∷ [])
line_added r log d leaves answered owned = record {
  kept = ap (λ old. after_op old d.instance d.op) leaves.kept ∙ sym (after_all-more no_records log d);
  answered = answered_more no_records log d leaves.answered (subst (λ old. IsAnswer old d.instance d.op d.answer) leaves.kept answered);
  owned = owned_more no_records log d leaves.owned (subst (λ old. IsOwnedLine old d.instance d.op d.answer) leaves.kept owned);
}

module _ (homes : ℕ → SiteId) (s : SiteId) (run : List Happening) where
  abbrev r : Records
  r = records_after s run

  -- an operation, at its own site
  operation_added : (o : Operation) → IsRightlyDone o run → (b : Bool) → same_site o.site s ≡ b → Leaves r (log_of s run)
      → Leaves (cond b (after r o.instance o.op) r) (log_of s run ++ cond b (log_line o.number o.instance o.op o.answer ∷ []) [])
  operation_added o is false elsewhere leaves = same_log r (log_of s run) leaves
  operation_added o is true here leaves =
      let same : o.site ≡ s = same_site_is o.site s here in
      line_added r (log_of s run) (log_line o.number o.instance o.op o.answer) leaves
      (subst (λ t. o.answer ≡ answer_to (records_after t run) o.instance o.op) same is.answer)
      (subst (λ t. IsOwnedStep (records_after t run) o.instance o.op o.answer) same is.owned)

  trim_added : (t : SiteId) (number image object : ℕ) → IsDue homes (Trimmed t number image object) run → (b : Bool) → same_site t s ≡ b → Leaves r (log_of s run)
      → Leaves (cond b (trimmed image object r) r) (log_of s run ++ cond b (trim_line number image object ∷ []) [])
  trim_added t number image object due false elsewhere leaves = same_log r (log_of s run) leaves
  trim_added t number image object due true here leaves =
      line_added r (log_of s run) (trim_line number image object) leaves
      (refl, subst (λ u. is_some ((records_after u run).objects image object) ≡ true) (same_site_is t s here) due.there, refl) tt

  expiry_added : (t : SiteId) (number image : ℕ) (who : Instance) → IsDue homes (Expired t number image who) run → (b : Bool) → same_site t s ≡ b → Leaves r (log_of s run)
      → Leaves (cond b (expired image who r) r) (log_of s run ++ cond b (expire_line number image who ∷ []) [])
  expiry_added t number image who due false elsewhere leaves = same_log r (log_of s run) leaves
  expiry_added t number image who due true here leaves =
      line_added r (log_of s run) (expire_line number image who) leaves
      (refl, subst (λ u. oldest_of who.session ((records_after u run).watchers image) ≡ Some who) (same_site_is t s here) due.oldest, refl) tt

  more_left : (h : Happening) → IsDue homes h run → Leaves r (log_of s run) → Leaves (records_behind s r h) (log_of s run ++ lines_at s h)
  more_left (Did o reply) due leaves = operation_added o (done_of homes o reply run due) (same_site o.site s) refl leaves
  more_left (Trimmed t number image object) due leaves = trim_added t number image object due (same_site t s) refl leaves
  more_left (Expired t number image who) due leaves = expiry_added t number image who due (same_site t s) refl leaves
  more_left Nothing due leaves = same_log r (log_of s run) leaves
  more_left Waited due leaves = same_log r (log_of s run) leaves
  more_left (Began asked slot) due leaves = same_log r (log_of s run) leaves
  more_left (Refused t line reply) due leaves = same_log r (log_of s run) leaves
  more_left (Heard notice) due leaves = same_log r (log_of s run) leaves
  more_left (Stopped who wanted lost) due leaves = same_log r (log_of s run) leaves
  more_left (Restarted who) due leaves = same_log r (log_of s run) leaves

all_left : (homes : ℕ → SiteId) (s : SiteId) (run : List Happening) → IsRight homes run → Leaves (records_after s run) (log_of s run)
all_left homes s [] right = record { kept = refl; answered = tt; owned = tt }
all_left homes s (h ∷ run) right = more_left homes s run h right.1 (all_left homes s run right.2)

pub log_is_owned : (homes : ℕ → SiteId) (s : SiteId) (run : List Happening) → IsRight homes run → IsOwnedLog (log_of s run)
log_is_owned homes s run right = let leaves = all_left homes s run right in record { answered = leaves.answered; owned = leaves.owned }

-- ---- who has a lock

answered_behind : (old : Records) (before since : List Done) → AreAnswered old (before ++ since) → AreAnswered (after_all old before) since
answered_behind old [] since answered = answered
answered_behind old (d ∷ before) since answered = answered_behind (after_op old d.instance d.op) before since answered.1

owned_behind : (old : Records) (before since : List Done) → AreOwned old (before ++ since) → AreOwned (after_all old before) since
owned_behind old [] since owned = owned
owned_behind old (d ∷ before) since owned = owned_behind (after_op old d.instance d.op) before since owned.1

after_both : (old : Records) (before since : List Done) → after_all (after_all old before) since ≡ after_all old (before ++ since)
after_both old [] since = refl
after_both old (d ∷ before) since = after_both (after_op old d.instance d.op) before since

pub keeps_the_lock : (before since : List Done) (image : ℕ) (me : Instance) → IsOwnedLog (before ++ since) → HasLock image me (after_all no_records before)
    → HasLock image me (after_all no_records (before ++ since)) ⊎ (SomeLine (IsLetGo image me) since ⊎ IsTrue (is_fenced (after_all no_records (before ++ since)) me))
keeps_the_lock before since image me log lock =
    subst (λ now. HasLock image me now ⊎ (SomeLine (IsLetGo image me) since ⊎ IsTrue (is_fenced now me))) (after_both no_records before since)
    (lock_claim (after_all no_records before) since image me (answered_behind no_records before since log.answered) (owned_behind no_records before since log.owned) lock)

-- ---- of a world

pub world_logs : {R : Type 0} (w : WorldView R) → HasRun w → (s : SiteId) → IsOwnedLog (site_in s w.sites).log
world_logs w told s = subst IsOwnedLog (sym (told.logs s)) (log_is_owned told.homes s told.run told.right)
