-- A lock that counts as the client's behind an answer is the client's, unless it is fenced.
use Rattle.std.proofs.Common.{◌≡◌, ◌⊎◌, inl, inr, ℕ, ◌==◌, ◌&&◌, cond, Bool, true, false, Option, Some, None, refl, sym, ap, ◌∙◌, subst, true≢false}
use Rattle.std.proofs.lemmas.Bool.{eqb-true}
use Rattle.std.proofs.Math.Bool.{and-false}
use Rattle.rbd_client.specs.Feeding.{comings_of, quiesced_by, resumes, CountsAll}
use Rattle.rbd_client.specs.Sound.{IsOwned}
use Rattle.rbd_client.proofs.Owning.{ends_by, is_end}
use Rattle.rbd_commands.specs.declared.quiescing.Quiescing.{Quiescing}
use Rattle.rbd_commands.specs.declared.quiescing.Quiescing.TheVariants as quiescing
use Rattle.rbd_kinds.specs.declared.answer.Answer.{Answer}
use Rattle.rbd_kinds.specs.declared.answer.Answer.TheVariants as answer
use Rattle.rbd_kinds.specs.declared.directory_op.DirectoryOp.TheVariants as directory
use Rattle.rbd_kinds.specs.declared.header_op.HeaderOp.{HeaderOp}
use Rattle.rbd_kinds.specs.declared.header_op.HeaderOp.TheVariants as header
use Rattle.rbd_kinds.specs.declared.id.Instance.{Instance}
use Rattle.rbd_kinds.specs.declared.id.SiteId.{SiteId}
use Rattle.rbd_kinds.specs.declared.id.SiteId.TheVariants as site
use Rattle.rbd_kinds.specs.declared.machine.Fed.TheVariants as fed
use Rattle.rbd_kinds.specs.declared.operation.Op.{Op}
use Rattle.rbd_kinds.specs.declared.operation.Op.TheVariants as op
use Rattle.rbd_lock.specs.declared.lock_state.LockState.{LockState}
use Rattle.rbd_lock.specs.Comings.{owned_since, owns_after}
use Rattle.rbd_lock.specs.Locks.{LocksView, lock_state_at}
use Rattle.rbd_kinds.specs.Images.{is_at}
use Rattle.rbd_lock.proofs.Lasting.{owned_is}
use Rattle.rbd_machine.specs.Knowledge.{Knowledge, same_site}
use Rattle.rbd_machine.specs.Permits.{Permits}
use Rattle.rbd_interference.specs.Locks.{HasLockWhileFree, KnowsByLock, gives_up}
use Rattle.rbd_interference.specs.Truth.{IsTrueAt}
use Rattle.rbd_interference.proofs.Fenced.{was_free}
use Rattle.rbd_interference.proofs.Locks.{lock_is_taken, lock_lasts}
use Rattle.rbd_stands.specs.Owned.{HasLock}
use Rattle.rbd_stands.proofs.Locks.{EndsIt, operation_keeps}
use Rattle.rbd_kinds.specs.declared.image_at.ImageAt.{ImageAt}
use Rattle.rbd_site.specs.Records.{Records}
use Rattle.rbd_site.specs.Step.{after, answer_to}

-- a quiesce, and the end of one, leave who owns the lock
quiet_resume : (s t : SiteId) (o : Op) (i image : ℕ) (b : Bool) → owned_since t image b (resumes s o i) ≡ b
quiet_resume s t (op.Directory (directory.Find name)) i image b = refl
quiet_resume s t _ i image b = refl

quiet_rest : (q : Quiescing) (look : Option ImageAt) (s t : SiteId) (o : Op) (a : Answer) (image : ℕ) (b : Bool) → owned_since t image b (quiesced_by q look s o a) ≡ b
quiet_rest quiescing.Begins None s t o (answer.Header h) image b = refl
quiet_rest quiescing.Begins (Some p) s t o (answer.Header h) image b = refl
quiet_rest quiescing.Ends look s t o (answer.Id i) image b = quiet_resume s t o i image b
quiet_rest q look s t o a image b = refl

-- whether the lock counts as owned behind one answer
abbrev pub owned_then : SiteId → SiteId → (image : ℕ) → Op → Answer → Bool → Bool
owned_then s t image (op.Header on o) a b = cond (is_at s on t image) (owns_after b (op.Header on o) a) b
owned_then s t image o a b = b

pub counted_since : (q : Quiescing) (look : Option ImageAt) (s t : SiteId) (o : Op) (a : Answer) (image : ℕ) (b : Bool)
    → owned_since t image b (comings_of q look s o (fed.Answer a)) ≡ owned_then s t image o a b
counted_since q look s t (op.Header on o) a image b = quiet_rest q look s t (op.Header on o) a image (cond (is_at s on t image) (owns_after b (op.Header on o) a) b)
counted_since q look s t o a image b = quiet_rest q look s t o a image b

pub is_counted : (q : Quiescing) (look : Option ImageAt) (s t : SiteId) (o : Op) (a : Answer) (old new : LocksView) → CountsAll (comings_of q look s o (fed.Answer a)) old new
    → (image : ℕ) → IsOwned t image new → owned_then s t image o a (lock_state_at t image old).owned ≡ true
is_counted q look s t o a old new counts image owned =
    sym (ap (λ (x : LockState). x.owned) (counts t image) ∙ owned_is t image (comings_of q look s o (fed.Answer a)) (lock_state_at t image old)
    ∙ counted_since q look s t o a image (lock_state_at t image old).owned) ∙ owned

-- at one site images are told apart by their numbers
same_there : (s : SiteId) (on image : ℕ) → is_at s on s image ≡ (image == on)
same_there site.A on image = refl
same_there site.B on image = refl

never_elsewhere : (s t : SiteId) (on image : ℕ) → same_site s t ≡ false → is_at s on t image ≡ false
never_elsewhere site.A site.A on image differ = absurd (true≢false differ)
never_elsewhere site.B site.B on image differ = absurd (true≢false differ)
never_elsewhere site.A site.B on image differ = refl
never_elsewhere site.B site.A on image differ = refl

-- ---- at the other site

pub owned_elsewhere : (s t : SiteId) (image : ℕ) (o : Op) (a : Answer) (b : Bool) → same_site s t ≡ false → owned_then s t image o a b ≡ true → b ≡ true
owned_elsewhere s t image (op.Header on o) a b differ is = sym (ap (λ x. cond x (owns_after b (op.Header on o) a) b) (never_elsewhere s t on image differ)) ∙ is
owned_elsewhere s t image _ a b differ is = is

pub ends_elsewhere : (s t : SiteId) (image : ℕ) (o : Op) (a : Answer) → same_site s t ≡ false → ends_by s o (fed.Answer a) t image ≡ false
ends_elsewhere s t image (op.Header on o) a differ = ap (λ b. is_end o a && b) (never_elsewhere s t on image differ) ∙ and-false (is_end o a)
ends_elsewhere s t image _ a differ = refl

abbrev is_done : Answer → Bool
is_done answer.Done = true
is_done a = false

-- ---- at this one

module _ (s : SiteId) (r : Records) (me : Instance) (k : Knowledge) (truth : IsTrueAt s r me k) (locks : KnowsByLock s r me k) (image : ℕ) (b : Bool) (held : b ≡ true → HasLockWhileFree r me image) where
  lasts : (o : Op) → Permits k s o → gives_up image o ≡ false → b ≡ true → HasLockWhileFree (after r me o) me image
  lasts o permits keeps owned = lock_lasts s r me me k image o truth locks permits (λ same. keeps) (held owned)

  -- what wasn't done ends no lock
  undone : (o : Op) → (answer_to r me o ≡ answer.Done → ⊥) → HasLockWhileFree r me image → HasLockWhileFree (after r me o) me image
  undone o fails lock free = by (operation_keeps r image me me (lock (was_free r me me o free)) o)
    where
      by : HasLock image me (after r me o) ⊎ ((answer_to r me o ≡ answer.Done) × EndsIt image me me o) → HasLock image me (after r me o)
      by (inl kept) = kept
      by (inr lost) = absurd (fails lost.0)

  answered_here : (o : HeaderOp) (a : Answer) → a ≡ answer_to r me (op.Header image o) → Permits k s (op.Header image o) → owns_after b (op.Header image o) a ≡ true
      → HasLockWhileFree (after r me (op.Header image o)) me image
  answered_here header.LockTake answer.Done is permits owned = lock_is_taken r me image (sym is)
  answered_here header.LockTake _ is permits owned = lasts (op.Header image header.LockTake) permits refl owned
  answered_here header.LockDrop a is permits owned = absurd (true≢false (sym owned))
  answered_here header.Remove answer.Done is permits owned = absurd (true≢false (sym owned))
  answered_here header.Remove a is permits owned = undone (op.Header image header.Remove) (λ done. true≢false (sym (ap is_done (is ∙ done)))) (held owned)
  answered_here o a is permits owned = lasts (op.Header image o) permits refl owned

  pub held_behind : (o : Op) → Permits k s o → owned_then s s image o (answer_to r me o) b ≡ true → HasLockWhileFree (after r me o) me image
  held_behind (op.Header on o) permits owned = by (image == on) refl (sym (ap (λ x. cond x (owns_after b (op.Header on o) (answer_to r me (op.Header on o))) b) (same_there s on image)) ∙ owned)
    where
      gives : (h : HeaderOp) → (image == on) ≡ false → gives_up image (op.Header on h) ≡ false
      gives header.LockDrop differ = differ
      gives header.Remove differ = differ
      gives _ differ = refl

      by : (x : Bool) → (image == on) ≡ x → cond x (owns_after b (op.Header on o) (answer_to r me (op.Header on o))) b ≡ true → HasLockWhileFree (after r me (op.Header on o)) me image
      by true same owned =
          let at : on ≡ image = sym (eqb-true image on same) in
          subst (λ n. HasLockWhileFree (after r me (op.Header n o)) me image) (sym at)
          (answered_here o (answer_to r me (op.Header image o)) refl (subst (λ n. Permits k s (op.Header n o)) at permits)
          (ap (λ n. owns_after b (op.Header n o) (answer_to r me (op.Header n o))) (sym at) ∙ owned))
      by false differ owned = lasts (op.Header on o) permits (gives o differ) owned
  held_behind (op.Directory o) permits owned = lasts (op.Directory o) permits refl owned
  held_behind (op.Children o) permits owned = lasts (op.Children o) permits refl owned
  held_behind (op.BlockAdd i) permits owned = lasts (op.BlockAdd i) permits refl owned
  held_behind (op.Data i number o) permits owned = lasts (op.Data i number o) permits refl owned
  held_behind (op.Map i o) permits owned = lasts (op.Map i o) permits refl owned
  held_behind _ permits owned = elim permits [ ]
