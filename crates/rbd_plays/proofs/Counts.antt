-- What a session counts of locks where nobody asks for one, and no image is quiesced.
use Rattle.std.proofs.Common.{◌≡◌, ℕ, ◌==◌, ◌&&◌, Bool, true, false, cond, Option, None, refl, ap, ◌∙◌}
use Rattle.std.proofs.lemmas.Bool.{true≢false}
use Rattle.rbd_client.specs.Feeding.{comings_of, quiesced_by}
use Rattle.rbd_commands.specs.declared.quiescing.Quiescing.{Quiescing}
use Rattle.rbd_commands.specs.declared.quiescing.Quiescing.TheVariants as quiescing
use Rattle.rbd_kinds.specs.Images.{is_at, same_site}
use Rattle.rbd_kinds.specs.declared.answer.Answer.{Answer}
use Rattle.rbd_kinds.specs.declared.answer.Answer.TheVariants as answer
use Rattle.rbd_kinds.specs.declared.directory_op.DirectoryOp.TheVariants as directory
use Rattle.rbd_kinds.specs.declared.header_op.HeaderOp.{HeaderOp}
use Rattle.rbd_kinds.specs.declared.header_op.HeaderOp.TheVariants as header
use Rattle.rbd_kinds.specs.declared.id.SiteId.{SiteId}
use Rattle.rbd_kinds.specs.declared.image_at.ImageAt.{ImageAt}
use Rattle.rbd_kinds.specs.declared.machine.Fed.TheVariants as fed
use Rattle.rbd_kinds.specs.declared.notice.Notice.{Notice}
use Rattle.rbd_kinds.specs.declared.notice.NoticeKind.{NoticeKind}
use Rattle.rbd_kinds.specs.declared.notice.NoticeKind.TheVariants as notice
use Rattle.rbd_kinds.specs.declared.operation.Op.{Op}
use Rattle.rbd_kinds.specs.declared.operation.Op.TheVariants as op
use Rattle.rbd_kinds.proofs.Images.{at_itself}
use Rattle.rbd_lock.specs.declared.lock_state.LockState.{LockState}
use Rattle.rbd_lock.specs.Comings.{ByAnswer, ByResume, after_all, after_one}
use Rattle.rbd_lock.specs.Locks.{heard}
use Rattle.rbd_lock.specs.States.{answered, resumed, told_state}
use Rattle.rbd_lock.proofs.Lasting.{told_owned}
use Rattle.rbd_plays.proofs.Owners.{asks_for_lock, ends_lock, gives_up}

-- neither quiesced nor asked for
pub record IsFree (s : LockState) : Type 0 where
  pub quiesced : s.quiesced ≡ false
  pub asked : s.asked ≡ false

either : (P : LockState → Type 0) (b : Bool) (change : LockState → LockState) (s : LockState) → P s → (P s → P (change s)) → P (cond b (change s) s)
either P true change s is then = then is
either P false change s is then = is

-- ---- what comes of an answer

answered_free : (o : HeaderOp) (a : Answer) (s : LockState) → IsFree s → IsFree (answered o a s)
answered_free header.LockTake answer.Done s free = record { quiesced = free.quiesced; asked = refl }
answered_free header.LockTake a s free = free
answered_free header.LockDrop a s free = record { quiesced = refl; asked = refl }
answered_free header.Remove answer.Done s free = record { quiesced = refl; asked = refl }
answered_free header.Remove a s free = free
answered_free header.Watch answer.Done s free = record { quiesced = free.quiesced; asked = free.asked }
answered_free header.Watch a s free = free
answered_free header.Unwatch a s free = record { quiesced = free.quiesced; asked = free.asked }
answered_free o a s free = free

counted_free : (site : SiteId) (o : Op) (a : Answer) (there : SiteId) (image : ℕ) (s : LockState) → IsFree s → IsFree (after_one (ByAnswer site o a) there image s)
counted_free site (op.Header on o) a there image s free = either IsFree (is_at site on there image) (answered o a) s free (answered_free o a s)
counted_free site (op.Directory o) a there image s free = free
counted_free site _ a there image s free = free

-- an image isn't quiesced by it
abbrev pub IsNoQuiesce : Quiescing → Type 0
IsNoQuiesce quiescing.Begins = ⊥
IsNoQuiesce q = Unit {0}

resumed_free : (site : SiteId) (on : ℕ) (there : SiteId) (image : ℕ) (s : LockState) → IsFree s → IsFree (after_one (ByResume site on) there image s)
resumed_free site on there image s free = either IsFree (is_at site on there image) resumed s free (λ f. record { quiesced = refl; asked = f.asked })

behind_free : (q : Quiescing) (look : Option ImageAt) (site : SiteId) (o : Op) (a : Answer) (there : SiteId) (image : ℕ) (s : LockState) → IsNoQuiesce q → IsFree s
    → IsFree (after_all (quiesced_by q look site o a) there image s)
behind_free quiescing.Begins look site o a there image s may free = absurd may
behind_free quiescing.Ends look site (op.Directory (directory.Find name)) (answer.Id on) there image s may free = resumed_free site on there image s free
behind_free quiescing.Ends look site (op.Directory _) (answer.Id on) there image s may free = free
behind_free quiescing.Ends look site _ (answer.Id on) there image s may free = free
behind_free quiescing.Ends look site o _ there image s may free = free
behind_free quiescing.Leaves look site o a there image s may free = free

pub fed_free : (q : Quiescing) (look : Option ImageAt) (site : SiteId) (o : Op) (a : Answer) (there : SiteId) (image : ℕ) (s : LockState) → IsNoQuiesce q → IsFree s
    → IsFree (after_all (comings_of q look site o (fed.Answer a)) there image s)
fed_free q look site o a there image s may free = behind_free q look site o a there image (after_one (ByAnswer site o a) there image s) may (counted_free site o a there image s free)

-- ---- what comes of a notice

told_free : (k : NoticeKind) (s : LockState) → asks_for_lock k ≡ false → IsFree s → IsFree (told_state k s)
told_free notice.RequestLock s none free = absurd (true≢false none)
told_free notice.ReleasedLock s none free = free
told_free (notice.Custom bytes) s none free = free

pub heard_free : (n : Notice) (there : SiteId) (image : ℕ) (s : LockState) → asks_for_lock n.kind ≡ false → IsFree s → IsFree (heard n there image s)
heard_free n there image s none free = either IsFree (is_at n.site n.image there image) (told_state n.kind) s free (told_free n.kind s none)

pub heard_owned : (n : Notice) (there : SiteId) (image : ℕ) (s : LockState) → s.owned ≡ true → (heard n there image s).owned ≡ true
heard_owned n there image s is = either (λ x. x.owned ≡ true) (is_at n.site n.image there image) (told_state n.kind) s is (λ owned. told_owned n.kind s ∙ owned)

-- ---- a lock that counts as the session's

-- the operation gives up the lock of an image at a site
abbrev pub gives_up_at : (site : SiteId) → Op → (there : SiteId) → (image : ℕ) → Bool
gives_up_at site o there image = same_site there site && gives_up image o

answered_owned : (o : HeaderOp) (a : Answer) (s : LockState) → ends_lock o ≡ false → s.owned ≡ true → (answered o a s).owned ≡ true
answered_owned header.LockTake answer.Done s keeps is = refl
answered_owned header.LockTake a s keeps is = is
answered_owned header.LockDrop a s keeps is = absurd (true≢false keeps)
answered_owned header.Remove a s keeps is = absurd (true≢false keeps)
answered_owned header.Watch answer.Done s keeps is = is
answered_owned header.Watch a s keeps is = is
answered_owned header.Unwatch a s keeps is = is
answered_owned o a s keeps is = is

header_owned : (site : SiteId) (on : ℕ) (o : HeaderOp) (a : Answer) (there : SiteId) (image : ℕ) (s : LockState) → gives_up_at site (op.Header on o) there image ≡ false → s.owned ≡ true
    → (after_one (ByAnswer site (op.Header on o) a) there image s).owned ≡ true
header_owned site on o a there image s keeps is = by (same_site there site) (image == on) (ends_lock o) (answered_owned o a s) keeps
  where
    by : (x y d : Bool) → (d ≡ false → s.owned ≡ true → (answered o a s).owned ≡ true) → (x && (d && y)) ≡ false → (cond (x && y) (answered o a s) s).owned ≡ true
    by false y d owned keeps = is
    by true false d owned keeps = is
    by true true false owned keeps = owned refl is
    by true true true owned keeps = absurd (true≢false keeps)

counted_owned : (site : SiteId) (o : Op) (a : Answer) (there : SiteId) (image : ℕ) (s : LockState) → gives_up_at site o there image ≡ false → s.owned ≡ true
    → (after_one (ByAnswer site o a) there image s).owned ≡ true
counted_owned site (op.Header on o) a there image s keeps is = header_owned site on o a there image s keeps is
counted_owned site (op.Directory o) a there image s keeps is = is
counted_owned site _ a there image s keeps is = is

behind_owned : (q : Quiescing) (look : Option ImageAt) (site : SiteId) (o : Op) (a : Answer) (there : SiteId) (image : ℕ) (s : LockState) → IsNoQuiesce q → s.owned ≡ true
    → (after_all (quiesced_by q look site o a) there image s).owned ≡ true
behind_owned quiescing.Begins look site o a there image s may is = absurd may
behind_owned quiescing.Ends look site (op.Directory (directory.Find name)) (answer.Id on) there image s may is = either (λ x. x.owned ≡ true) (is_at site on there image) resumed s is (λ x. x)
behind_owned quiescing.Ends look site (op.Directory _) (answer.Id on) there image s may is = is
behind_owned quiescing.Ends look site _ (answer.Id on) there image s may is = is
behind_owned quiescing.Ends look site o _ there image s may is = is
behind_owned quiescing.Leaves look site o a there image s may is = is

pub fed_owned : (q : Quiescing) (look : Option ImageAt) (site : SiteId) (o : Op) (a : Answer) (there : SiteId) (image : ℕ) (s : LockState) → IsNoQuiesce q → gives_up_at site o there image ≡ false → s.owned ≡ true
    → (after_all (comings_of q look site o (fed.Answer a)) there image s).owned ≡ true
fed_owned q look site o a there image s may keeps is =
    behind_owned q look site o a there image (after_one (ByAnswer site o a) there image s) may (counted_owned site o a there image s keeps is)

-- a lock that was taken counts
pub taken_owned : (site : SiteId) (on : ℕ) (s : LockState) → (after_all (comings_of quiescing.Leaves None site (op.Header on header.LockTake) (fed.Answer answer.Done)) site on s).owned ≡ true
taken_owned site on s = ap (λ b. (cond b (answered header.LockTake answer.Done s) s).owned) (at_itself site on)
