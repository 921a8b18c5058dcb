-- What an answer leaves of the locks that count as owned.
use Rattle.std.proofs.Common.{◌≡◌, ℕ, zero, suc, Bool, true, false, cond, not, ◌&&◌, ◌||◌, List, [], ◌∷◌, Option, Some, None, refl, sym, ap, ◌∙◌, true≢false}
use Rattle.std.proofs.Math.Bool.{and-true}
use Rattle.rbd_client.specs.declared.slot_state.SlotState.{SlotState}
use Rattle.rbd_client.specs.declared.slot_state.Way.{Way}
use Rattle.rbd_client.specs.declared.slot_state.Way.TheVariants as way
use Rattle.rbd_client.specs.Actor.{any_taken, way_has_taken, is_at_rest}
use Rattle.rbd_client.specs.Client.{ClientView, slot_state}
use Rattle.rbd_client.specs.Feeding.{comings_of, quiesced_by, resumes, CountsAll, IsAtRest}
use Rattle.rbd_client.specs.Laws.{removes_header}
use Rattle.rbd_client.specs.Sound.{IsOwned}
use Rattle.rbd_commands.specs.declared.quiescing.Quiescing.{Quiescing}
use Rattle.rbd_commands.specs.declared.quiescing.Quiescing.TheVariants as quiescing
use Rattle.rbd_kinds.specs.declared.answer.Answer.{Answer}
use Rattle.rbd_kinds.specs.declared.answer.Answer.TheVariants as answer
use Rattle.rbd_kinds.specs.declared.directory_op.DirectoryOp.TheVariants as directory
use Rattle.rbd_kinds.specs.declared.header_op.HeaderOp.{HeaderOp}
use Rattle.rbd_kinds.specs.declared.header_op.HeaderOp.TheVariants as header
use Rattle.rbd_kinds.specs.declared.id.SiteId.{SiteId}
use Rattle.rbd_kinds.specs.declared.machine.Fed.{Fed}
use Rattle.rbd_kinds.specs.declared.machine.Fed.TheVariants as fed
use Rattle.rbd_kinds.specs.declared.operation.Op.{Op}
use Rattle.rbd_kinds.specs.declared.operation.Op.TheVariants as op
use Rattle.rbd_queue.specs.Line.{any_past}
use Rattle.rbd_kinds.specs.declared.image_at.ImageAt.{ImageAt}
use Rattle.rbd_lock.specs.declared.lock_state.LockState.{LockState}
use Rattle.rbd_lock.specs.Comings.{after_all}
use Rattle.rbd_lock.specs.Locks.{LocksView, counted, lock_state_at}
use Rattle.rbd_kinds.specs.Images.{is_at}
use Rattle.rbd_kinds.proofs.Images.{at_itself}
use Rattle.rbd_lock.specs.States.{answered, quieted, resumed}
use Rattle.rbd_lock.proofs.Keys.{where_same}
use Rattle.rbd_slots.specs.Lines.{lines_of}

-- ---- one image

abbrev pub is_end : HeaderOp → Answer → Bool
is_end header.LockDrop a = true
is_end header.Remove answer.Done = true
is_end o a = false

-- an operation ends the lock of an image by this answer
abbrev pub ends : SiteId → Op → Answer → SiteId → (image : ℕ) → Bool
ends site (op.Header on o) a there image = is_end o a && is_at site on there image
ends site o a there image = false

-- by what it is fed
abbrev pub ends_by : SiteId → Op → Fed → SiteId → (image : ℕ) → Bool
ends_by site o (fed.Answer a) there image = ends site o a there image
ends_by site o fed.Passed there image = false

owned_answered : (o : HeaderOp) (a : Answer) (s : LockState) → is_end o a ≡ false → s.owned ≡ true → (answered o a s).owned ≡ true
owned_answered header.LockTake answer.Done s stays owned = refl
owned_answered header.LockDrop a s stays owned = absurd (true≢false stays)
owned_answered header.Remove answer.Done s stays owned = absurd (true≢false stays)
owned_answered header.Watch answer.Done s stays owned = owned
owned_answered header.Unwatch a s stays owned = owned
owned_answered o a s stays owned = owned

owned_counted : (site : SiteId) (o : Op) (a : Answer) (there : SiteId) (image : ℕ) (s : LockState) → ends site o a there image ≡ false → s.owned ≡ true
    → (counted site o a there image s).owned ≡ true
owned_counted site (op.Header on o) a there image s stays owned = go (is_at site on there image) refl
  where
    go : (b : Bool) → is_at site on there image ≡ b → (cond b (answered o a s) s).owned ≡ true
    go true same = owned_answered o a s (sym (and-true (is_end o a)) ∙ ap (λ b. is_end o a && b) (sym same) ∙ stays) owned
    go false other = owned
owned_counted site o a there image s stays owned = owned

owned_by : (b : Bool) (change : LockState → LockState) (s : LockState) → (change s).owned ≡ s.owned → s.owned ≡ true → (cond b (change s) s).owned ≡ true
owned_by true change s same owned = same ∙ owned
owned_by false change s same owned = owned

owned_resumed : (site : SiteId) (o : Op) (i : ℕ) (there : SiteId) (image : ℕ) (s : LockState) → s.owned ≡ true → (after_all (resumes site o i) there image s).owned ≡ true
owned_resumed site (op.Directory (directory.Find name)) i there image s owned = owned_by (is_at site i there image) resumed s refl owned
owned_resumed site o i there image s owned = owned

owned_quiesced : (q : Quiescing) (look : Option ImageAt) (site : SiteId) (o : Op) (a : Answer) (there : SiteId) (image : ℕ) (s : LockState) → s.owned ≡ true
    → (after_all (quiesced_by q look site o a) there image s).owned ≡ true
owned_quiesced quiescing.Begins None site o (answer.Header h) there image s owned = owned
owned_quiesced quiescing.Begins (Some p) site o (answer.Header h) there image s owned = owned_by (is_at p.site p.image there image) quieted s refl owned
owned_quiesced quiescing.Ends look site o (answer.Id i) there image s owned = owned_resumed site o i there image s owned
owned_quiesced q look site o a there image s owned = owned

pub owned_behind : (q : Quiescing) (look : Option ImageAt) (site : SiteId) (o : Op) (f : Fed) (there : SiteId) (image : ℕ) (s : LockState) → ends_by site o f there image ≡ false
    → s.owned ≡ true → (after_all (comings_of q look site o f) there image s).owned ≡ true
owned_behind q look site o (fed.Answer a) there image s stays owned =
    owned_quiesced q look site o a there image (counted site o a there image s) (owned_counted site o a there image s stays owned)
owned_behind q look site o fed.Passed there image s stays owned = owned

pub keeps_owned : (q : Quiescing) (look : Option ImageAt) (site : SiteId) (o : Op) (f : Fed) (old new : LocksView) → CountsAll (comings_of q look site o f) old new
    → (there : SiteId) (image : ℕ) → ends_by site o f there image ≡ false → IsOwned there image old → IsOwned there image new
keeps_owned q look site o f old new counts there image stays owned =
    ap (λ (s : LockState). s.owned) (counts there image) ∙ owned_behind q look site o f there image (lock_state_at there image old) stays owned

-- ---- a lock on which somebody relies lasts

pub taken_at : (slot : ℕ) (slots : List SlotState) (p : ImageAt) → (slot_state slot slots).way ≡ way.Taken p → any_taken p.site p.image slots ≡ true
taken_at slot [] p is = absurd (true≢false (sym (ap is_taken is)))
  where
    is_taken : Way → Bool
    is_taken (way.Taken q) = true
    is_taken w = false
taken_at zero (s ∷ slots) p is =
    ap (λ b. b || any_taken p.site p.image slots) (ap (way_has_taken p.site p.image) is ∙ at_itself p.site p.image)
taken_at (suc slot) (s ∷ slots) p is = or_true (way_has_taken p.site p.image s.way) (taken_at slot slots p is)
  where
    or_true : (b : Bool) → any_taken p.site p.image slots ≡ true → (b || any_taken p.site p.image slots) ≡ true
    or_true true is = refl
    or_true false is = is

module _ {R : Type 0} (c : ClientView R) where
  -- somebody relies on the lock of an image
  abbrev pub relies : SiteId → (image : ℕ) → Bool
  relies site image = any_past (lines_of c.session.lines site image) || any_taken site image c.slots

  rests : (site : SiteId) (image : ℕ) → is_at_rest site image c ≡ true → relies site image ≡ false
  rests site image is = go (any_past (lines_of c.session.lines site image)) (any_taken site image c.slots) is
    where
      go : (a b : Bool) → (not a && not b) ≡ true → (a || b) ≡ false
      go true b is = absurd (true≢false (sym is))
      go false true is = absurd (true≢false (sym is))
      go false false is = refl

  not_there : (site : SiteId) (on : ℕ) (there : SiteId) (image : ℕ) (P : SiteId → (image : ℕ) → Bool) → P site on ≡ false → P there image ≡ true → is_at site on there image ≡ false
  not_there site on there image P here yonder = go (is_at site on there image) refl
    where
      go : (b : Bool) → is_at site on there image ≡ b → b ≡ false
      go true same = absurd (true≢false (sym yonder ∙ where_same (λ s i. P s i ≡ false) site on there image same here))
      go false other = refl

  pub rests_taken : (site : SiteId) (image : ℕ) → is_at_rest site image c ≡ true → any_taken site image c.slots ≡ false
  rests_taken site image is = go (any_past (lines_of c.session.lines site image)) (any_taken site image c.slots) is
    where
      go : (a b : Bool) → (not a && not b) ≡ true → b ≡ false
      go true b is = absurd (true≢false (sym is))
      go false true is = absurd (true≢false (sym is))
      go false false is = refl

  -- a lock that a request has taken itself doesn't end
  pub taken_lasts : (site : SiteId) (o : Op) (f : Fed) (there : SiteId) (image : ℕ) → IsAtRest site o c → any_taken there image c.slots ≡ true → ends_by site o f there image ≡ false
  taken_lasts site (op.Header on header.LockDrop) (fed.Answer a) there image rest taken = not_there site on there image (λ s i. any_taken s i c.slots) (rests_taken site on rest) taken
  taken_lasts site (op.Header on header.Remove) (fed.Answer answer.Done) there image rest taken = not_there site on there image (λ s i. any_taken s i c.slots) rest taken
  taken_lasts site (op.Header on o) (fed.Answer a) there image rest taken = refl
  taken_lasts site o (fed.Answer a) there image rest taken = refl
  taken_lasts site o fed.Passed there image rest taken = refl

  -- nor does one on which a request relies, unless the header is removed
  pub relied_lasts : (site : SiteId) (o : Op) (f : Fed) (there : SiteId) (image : ℕ) → IsAtRest site o c → relies there image ≡ true → removes_header site o f there image ≡ false
      → ends_by site o f there image ≡ false
  relied_lasts site (op.Header on header.LockDrop) (fed.Answer a) there image rest relied stays = not_there site on there image relies (rests site on rest) relied
  relied_lasts site (op.Header on header.Remove) (fed.Answer answer.Done) there image rest relied stays = stays
  relied_lasts site (op.Header on o) (fed.Answer a) there image rest relied stays = refl
  relied_lasts site o (fed.Answer a) there image rest relied stays = refl
  relied_lasts site o fed.Passed there image rest relied stays = refl
