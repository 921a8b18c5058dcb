-- The log of a site: what each operation did to the records, from none on, and what it was
-- answered.
use Rattle.std.specs.Prelude.{◌≡◌, ℕ, ◌+◌, List, [], ◌∷◌, ◌++◌, length, Option, Some, None, option_map, IsSome}
use Rattle.rbd_kinds.specs.declared.answer.Answer.{Answer}
use Rattle.rbd_kinds.specs.declared.answer.Answer.TheVariants as answer
use Rattle.rbd_kinds.specs.declared.header.HeaderView.{HeaderView}
use Rattle.rbd_kinds.specs.declared.id.Instance.{Instance}
use Rattle.rbd_kinds.specs.declared.id.SiteId.{SiteId}
use Rattle.rbd_kinds.specs.declared.operation.Op.{Op}
use Rattle.rbd_header.specs.Header.{ids_of}
use Rattle.rbd_object.specs.Mapped.{mapped_trim}
use Rattle.rbd_site.specs.declared.done.Done.{Done}
use Rattle.rbd_site.specs.declared.done.DoneOp.{DoneOp}
use Rattle.rbd_site.specs.declared.done.DoneOp.TheVariants as done
use Rattle.rbd_site.specs.InForm.{AreInForm}
use Rattle.rbd_watch.specs.Watching.{oldest_of, without}
use Rattle.rbd_site.specs.Records.{Records, no_records, with_object, with_watchers}
use Rattle.rbd_site.specs.Step.{answer_to, after}

-- the ids that a header lists, none where it is gone
abbrev pub live_in : Option HeaderView → List ℕ
live_in None = []
live_in (Some h) = ids_of h.snaps

-- the store drops what an object keeps for other snapshots
abbrev pub trimmed : (image number : ℕ) → Records → Records
trimmed image number r = with_object image number
    (option_map (mapped_trim (live_in (r.headers image))) (r.objects image number)) r

-- the store lets the watch of an instance expire
abbrev pub expired : (image : ℕ) → Instance → Records → Records
expired image i r = with_watchers image (without i (r.watchers image)) r

abbrev pub expired_by : (image : ℕ) → Option Instance → Records → Records
expired_by image None r = r
expired_by image (Some i) r = expired image i r

-- the records after one operation of the log
abbrev pub after_op : Records → Option Instance → DoneOp → Records
after_op r (Some me) (done.Op op) = after r me op
after_op r None (done.Op op) = r
after_op r instance (done.Trim image number) = trimmed image number r
after_op r instance (done.Expire image i) = expired image i r

abbrev pub after_all : Records → List Done → Records
after_all r [] = r
after_all r (d ∷ log) = after_all (after_op r d.instance d.op) log

-- An operation is an instance's, and its answer is that of the records before it. A trim is the
-- store's own, of an object that is there, and is done.
abbrev pub IsAnswer : Records → Option Instance → DoneOp → Answer → Type 0
IsAnswer r (Some me) (done.Op op) a = a ≡ answer_to r me op
IsAnswer r None (done.Op op) a = ⊥
IsAnswer r instance (done.Trim image number) a = (instance ≡ None) × IsSome (r.objects image number) × (a ≡ answer.Done)
IsAnswer r instance (done.Expire image i) a = (instance ≡ None) × (oldest_of i.session (r.watchers image) ≡ Some i)
    × (a ≡ answer.Done)

abbrev pub AreAnswered : Records → List Done → Type 0
AreAnswered r [] = Unit {0}
AreAnswered r (d ∷ log) = IsAnswer r d.instance d.op d.answer × AreAnswered (after_op r d.instance d.op) log

-- the line of an operation of an instance, that of a trim, and that of a watch's end
abbrev pub log_line : (number : ℕ) → Instance → Op → Answer → Done
log_line number me op a = record { number = number; instance = Some me; op = done.Op op; answer = a }

abbrev pub trim_line : (number image object : ℕ) → Done
trim_line number image object =
    record { number = number; instance = None; op = done.Trim image object; answer = answer.Done }

abbrev pub expire_line : (number image : ℕ) → Instance → Done
expire_line number image i = record { number = number; instance = None; op = done.Expire image i; answer = answer.Done }

-- the log after an expiry, which is logged where there is a watch to end
abbrev pub log_with_expiry : (number image : ℕ) → Option Instance → List Done → List Done
log_with_expiry number image None log = log
log_with_expiry number image (Some i) log = log ++ expire_line number image i ∷ []

-- numbers from 1 on
abbrev pub AreNumbered : (next : ℕ) → List Done → Type 0
AreNumbered next [] = Unit {0}
AreNumbered next (d ∷ log) = (d.number ≡ next) × AreNumbered (next + 1) log

-- a site is its id and its log: the records are what the log leaves
pub record SiteLog : Type 0 where
  pub id : SiteId
  pub log : List Done

abbrev pub records_of : SiteLog → Records
records_of s = after_all no_records s.log

-- What holds of a site at every moment: it keeps the records that its log leaves.
pub record IsSoundLog (r : Records) (log : List Done) : Type 0 where
  pub kept : r ≡ after_all no_records log
  pub answered : AreAnswered no_records log
  pub numbered : AreNumbered 1 log
  pub form : AreInForm r (length log)
