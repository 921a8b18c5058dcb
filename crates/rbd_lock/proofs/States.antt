-- What an answer keeps of what is counted of one image.
use Rattle.std.proofs.Common.{◌≡◌, ℕ, ◌<◌, Bool, true, false, cond, not, ◌&&◌, refl, sym, subst, ap, ◌∙◌}
use Rattle.std.proofs.lemmas.Bool.{true≢false}
use Rattle.std.specs.Map.{lookup}
use Rattle.std.specs.Prelude.{nat_eq, IsTrue, IsFalse}
use Rattle.rbd_kinds.specs.declared.answer.Answer.{Answer}
use Rattle.rbd_kinds.specs.declared.answer.Answer.TheVariants as answer
use Rattle.rbd_kinds.specs.declared.header_op.HeaderOp.{HeaderOp}
use Rattle.rbd_kinds.specs.declared.header_op.HeaderOp.TheVariants as header
use Rattle.rbd_kinds.specs.declared.id.SiteId.{SiteId}
use Rattle.rbd_kinds.specs.declared.operation.Op.TheVariants as op
use Rattle.rbd_lock.specs.declared.lock_state.LockState.{LockState}
use Rattle.rbd_lock.specs.declared.noted.Noted.{Noted}
use Rattle.rbd_lock.specs.Locks.{begins, changed_at, is_blank, noted_of, noted_or, lock_state_at, with_asked, AreImagesInOrder, AreNoted, IsRoomForState, IsSoundLocks, LocksView, StaysBlank}
use Rattle.rbd_kinds.specs.Images.{is_at, key_of}
use Rattle.rbd_lock.specs.Places.{is_among}
use Rattle.rbd_lock.specs.States.{answered}
use Rattle.rbd_kinds.proofs.Images.{same_key}
use Rattle.rbd_lock.proofs.Keys.{where_same}

blank_without : (o w q : Bool) → IsTrue (not o && (not w && not q)) → IsTrue (not false && (not w && not false))
blank_without false false false is = is
blank_without true w q is = absurd (true≢false (sym is))
blank_without false true q is = absurd (true≢false (sym is))
blank_without false false true is = absurd (true≢false (sym is))

blank_unwatched : (o w q : Bool) → IsTrue (not o && (not w && not q)) → IsTrue (not o && (not false && not q))
blank_unwatched false w false is = refl
blank_unwatched true w q is = absurd (true≢false (sym is))
blank_unwatched false false true is = absurd (true≢false (sym is))
blank_unwatched false true true is = absurd (true≢false (sym is))

-- an answer that begins nothing leaves an image blank
pub stays_blank : (image : ℕ) (o : HeaderOp) (a : Answer) (s : LockState) → IsFalse (begins (op.Header image o) a) → StaysBlank s (answered o a s)
stays_blank image header.LockTake answer.Done s none = absurd (true≢false none)
stays_blank image header.Watch answer.Done s none = absurd (true≢false none)
stays_blank image header.LockDrop a s none = λ is. blank_without (s.owned) (s.watched) (s.quiesced) is
stays_blank image header.Remove answer.Done s none = λ is. blank_without (s.owned) (s.watched) (s.quiesced) is
stays_blank image header.Unwatch a s none = λ is. blank_unwatched (s.owned) (s.watched) (s.quiesced) is
stays_blank image o a s none = λ is. is

-- so what begins something has to find room, and nothing else
pub room_for : (image : ℕ) (o : HeaderOp) (a : Answer) (before after : LockState) (room : ℕ) → after ≡ answered o a before
    → (IsTrue (begins (op.Header image o) a) → 0 < room) → IsRoomForState before after room
room_for image o a before after room is begun = go (begins (op.Header image o) a) refl
  where
    go : (b : Bool) → begins (op.Header image o) a ≡ b → IsRoomForState before after room
    go true begin = λ blank some. begun begin
    go false none = λ blank some.
        absurd (true≢false (sym (stays_blank image o a before none blank) ∙ ap (λ (s : LockState). is_blank (noted_of s)) (sym is) ∙ some))

-- ---- one image changes

-- what was made of the state of an image is what is made of it at each
pub at_same : (s : SiteId) (i : ℕ) (change : LockState → LockState) (l : LocksView) (x : LockState) → x ≡ change (lock_state_at s i l)
    → (t : SiteId) (j : ℕ) → changed_at s i (λ before. x) t j (lock_state_at t j l) ≡ changed_at s i change t j (lock_state_at t j l)
at_same s i change l x is t j = go (is_at s i t j) refl
  where
    go : (b : Bool) → is_at s i t j ≡ b → cond b x (lock_state_at t j l) ≡ cond b (change (lock_state_at t j l)) (lock_state_at t j l)
    go true same = where_same (λ t j. x ≡ change (lock_state_at t j l)) s i t j same is
    go false other = refl

both : (b : Bool) (x : LockState) (asked : Bool) (n : Noted) → with_asked (cond b x.asked asked) (cond b (noted_of x) n) ≡ cond b x (with_asked asked n)
both true x asked n = refl
both false x asked n = refl

-- table and set change at one image, and so do the states
pub set_at : (s : SiteId) (i : ℕ) (x : LockState) (old new : LocksView)
    → ((k : ℕ) → noted_or (lookup (nat_eq k) new.entries) ≡ cond (nat_eq (key_of s i) k) (noted_of x) (noted_or (lookup (nat_eq k) old.entries)))
    → ((t : SiteId) (j : ℕ) → is_among t j new.asked ≡ cond (is_at s i t j) x.asked (is_among t j old.asked))
    → (t : SiteId) (j : ℕ) → lock_state_at t j new ≡ changed_at s i (λ before. x) t j (lock_state_at t j old)
set_at s i x old new noted asked t j =
    let was = noted_or (lookup (nat_eq (key_of t j)) old.entries) in
    let is = noted (key_of t j) ∙ ap (λ b. cond b (noted_of x) was) (same_key s i t j) in
    (λ k. with_asked (asked t j k) (is k)) ∙ both (is_at s i t j) x (is_among t j old.asked) was

-- an image that is asked for only where its lock is owned keeps all sound
pub stays_sound : (s : SiteId) (i : ℕ) (x : LockState) (old new : LocksView)
    → ((t : SiteId) (j : ℕ) → lock_state_at t j new ≡ changed_at s i (λ before. x) t j (lock_state_at t j old))
    → (IsTrue x.asked → IsTrue x.owned) → IsSoundLocks old → AreImagesInOrder new.asked → AreNoted new.entries → IsSoundLocks new
stays_sound s i x old new states asked sound order few = record { owned = owned; order = order; few = few }
  where
    go : (t : SiteId) (j : ℕ) (b : Bool) → IsTrue (cond b x (lock_state_at t j old)).asked → IsTrue (cond b x (lock_state_at t j old)).owned
    go t j true is = asked is
    go t j false is = sound.owned t j is

    owned : (t : SiteId) (j : ℕ) → IsTrue (is_among t j new.asked) → IsTrue (lock_state_at t j new).owned
    owned t j is =
        subst (λ (v : LockState). IsTrue v.owned) (sym (states t j))
        (go t j (is_at s i t j) (subst (λ (v : LockState). IsTrue v.asked) (states t j) is))
