-- Who has the lock of an image keeps it, but for three operations.
use Rattle.std.proofs.Common.{◌≡◌, ℕ, ◌==◌, ◌⊎◌, inl, inr, Bool, true, false, cond, List, Option, Some, None, is_some, refl, sym, ap, ◌∙◌}
use Rattle.std.proofs.lemmas.Bool.{eqb-true}
use Rattle.rbd_kinds.specs.declared.answer.Answer.{Answer}
use Rattle.rbd_kinds.specs.declared.answer.Answer.TheVariants as answer
use Rattle.rbd_kinds.specs.declared.header.HeaderView.{HeaderView}
use Rattle.rbd_kinds.specs.declared.header_op.HeaderOp.{HeaderOp}
use Rattle.rbd_kinds.specs.declared.header_op.HeaderOp.TheVariants as header
use Rattle.rbd_kinds.specs.declared.id.Instance.{Instance}
use Rattle.rbd_kinds.specs.declared.operation.Op.{Op}
use Rattle.rbd_kinds.specs.declared.operation.Op.TheVariants as on
use Rattle.rbd_kinds.specs.Header.{snap_named}
use Rattle.rbd_kinds.proofs.Instances.{same_instance_is}
use Rattle.rbd_header.specs.Header.{is_full, snap_in, with_snap, with_status, without_snap}
use Rattle.rbd_site.specs.declared.done.Done.{Done}
use Rattle.rbd_site.specs.declared.done.DoneOp.{DoneOp}
use Rattle.rbd_site.specs.declared.done.DoneOp.TheVariants as done
use Rattle.rbd_site.specs.HeaderStep.{header_answer, header_after, header_then, is_owner, there_after, there_answer, where_made}
use Rattle.rbd_site.specs.Log.{IsAnswer, after_op}
use Rattle.rbd_site.specs.Records.{Records}
use Rattle.rbd_site.specs.Step.{after, after_served, answer_served, answer_to}
use Rattle.rbd_stands.specs.Owned.{HasLock, IsDoneBy}
use Rattle.rbd_stands.proofs.Served.{where_either}

-- ---- instances

abbrev instance : (session life : ℕ) → Instance
instance session life = record { session = session; life = life }

-- ---- one header

-- the operations by which an instance can lose a lock
abbrev pub EndsLock : (who me : Instance) → HeaderOp → Type 0
EndsLock who me header.LockDrop = who ≡ me
EndsLock who me (header.LockBreak owner) = owner ≡ me
EndsLock who me header.Remove = Unit {0}
EndsLock who me _ = ⊥

pub record StaysOwner (who me : Instance) (h : HeaderView) (o : HeaderOp) : Type 0 where
  pub then : HeaderView
  pub is : there_after who h o ≡ Some then
  pub owner : then.owner ≡ Some me

pub record EndsHere (who me : Instance) (h : HeaderView) (watchers : List Instance) (o : HeaderOp) : Type 0 where
  pub answered : there_answer who h watchers o ≡ answer.Done
  pub ends : EndsLock who me o

made_owner : (listed full : Bool) (made old : HeaderView) → made.owner ≡ old.owner → (where_made listed full made old).owner ≡ old.owner
made_owner true full made old same = refl
made_owner false true made old same = refl
made_owner false false made old same = same

left_owner : (b : Bool) (made old : HeaderView) → made.owner ≡ old.owner → (cond b made old).owner ≡ old.owner
left_owner true made old same = same
left_owner false made old same = refl

module _ (who me : Instance) (h : HeaderView) (watchers : List Instance) (own : h.owner ≡ Some me) where
  -- the owner is cleared where it is the one that is named
  cleared : (named : Instance) (o : HeaderOp) → (named ≡ me → EndsLock who me o)
      → ((b : Bool) → is_owner named h.owner ≡ b → there_answer who h watchers o ≡ cond b answer.Done answer.Changed)
      → ((b : Bool) → is_owner named h.owner ≡ b → there_after who h o ≡ Some (cond b (record h { owner = None }) h))
      → StaysOwner who me h o ⊎ EndsHere who me h watchers o
  cleared named o ends answers leaves = go (is_owner named h.owner) refl
    where
      go : (b : Bool) → is_owner named h.owner ≡ b → StaysOwner who me h o ⊎ EndsHere who me h watchers o
      go true mine = inr (record { answered = answers true mine; ends = ends (sym (same_instance_is me named (sym (ap (is_owner named) own) ∙ mine))) })
      go false other = inl (record { then = h; is = leaves false other; owner = own })

  pub kept_or_ended : (o : HeaderOp) → StaysOwner who me h o ⊎ EndsHere who me h watchers o
  kept_or_ended header.LockDrop =
      cleared who header.LockDrop (λ same. same) (λ b is. ap (λ b. cond b answer.Done answer.Changed) is) (λ b is. ap (λ b. Some (cond b (record h { owner = None }) h)) is)
  kept_or_ended (header.LockBreak owner) =
      cleared owner (header.LockBreak owner) (λ same. same) (λ b is. ap (λ b. cond b answer.Done answer.Changed) is) (λ b is. ap (λ b. Some (cond b (record h { owner = None }) h)) is)
  kept_or_ended header.LockTake = inl (record { then = header_then who h header.LockTake; is = refl; owner = ap (λ o. cond (is_some o) o (Some who)) own })
  kept_or_ended header.Remove = inr (record { answered = refl; ends = tt })
  kept_or_ended (header.SnapAdd name) = inl (record {
    then = header_then who h (header.SnapAdd name);
    is = refl;
    owner = made_owner (is_some (snap_named h.snaps name)) (is_full h) (with_snap name h) h refl ∙ own;
  })
  kept_or_ended (header.SnapRemove snap) = inl (record {
    then = header_then who h (header.SnapRemove snap);
    is = refl;
    owner = left_owner (is_some (snap_in h.snaps snap)) (without_snap snap h) h refl ∙ own;
  })
  kept_or_ended (header.SnapStatus snap status) = inl (record {
    then = header_then who h (header.SnapStatus snap status);
    is = refl;
    owner = left_owner (is_some (snap_in h.snaps snap)) (with_status snap status h) h refl ∙ own;
  })
  kept_or_ended o = inl (record { then = header_then who h o; is = refl; owner = own })

-- ---- one operation

-- it is one that ends the lock
pub record EndsIt (image : ℕ) (who me : Instance) (op : Op) : Type 0 where
  pub o : HeaderOp
  pub is : op ≡ on.Header image o
  pub ends : EndsLock who me o

abbrev pub KeepsLock : (image : ℕ) (who me : Instance) → Op → Answer → Records → Type 0
KeepsLock image who me op a s = HasLock image me s ⊎ ((a ≡ answer.Done) × EndsIt image who me op)

module _ (r : Records) (image : ℕ) (who me : Instance) (lock : HasLock image me r) where
  header_keeps : (other : ℕ) (o : HeaderOp) (b : Bool) → (image == other) ≡ b
      → KeepsLock image who me (on.Header other o) (answer_served r who (on.Header other o)) (after_served r who (on.Header other o))
  header_keeps other o false elsewhere = inl (record {
    header = lock.header;
    there = ap (λ b. cond b (header_after who (r.headers other) o) (r.headers image)) elsewhere ∙ lock.there;
    owner = lock.owner;
  })
  header_keeps other o true here =
      let same = eqb-true image other here in
      elim (kept_or_ended who me lock.header (r.watchers image) lock.owner o) [
        | inl stays ↦ inl (record {
          header = stays.then;
          there = ap (λ b. cond b (header_after who (r.headers other) o) (r.headers image)) here
              ∙ ap (λ i. header_after who (r.headers i) o) (sym same) ∙ ap (λ h. header_after who h o) lock.there ∙ stays.is;
          owner = stays.owner;
        })
        | inr ends ↦ inr (
          ap (λ i. header_answer who (r.headers i) (r.watchers i) o) (sym same) ∙ ap (λ h. header_answer who h (r.watchers image) o) lock.there ∙ ends.answered,
          record { o = o; is = ap (λ i. on.Header i o) (sym same); ends = ends.ends },
        )
      ]

  served_keeps : (op : Op) → KeepsLock image who me op (answer_served r who op) (after_served r who op)
  served_keeps (on.Header other o) = header_keeps other o (image == other) refl
  served_keeps op = inl (record { header = lock.header; there = lock.there; owner = lock.owner })

  pub operation_keeps : (op : Op) → KeepsLock image who me op (answer_to r who op) (after r who op)
  operation_keeps op = where_either (KeepsLock image who me op) r who op (inl lock) (served_keeps op)

-- ---- one line

-- the line by which the lock is lost
pub record IsLoss (image : ℕ) (me : Instance) (d : Done) : Type 0 where
  pub who : Instance
  pub o : HeaderOp
  pub line : IsDoneBy d who (on.Header image o)
  pub ends : EndsLock who me o

pub line_keeps : (r : Records) (image : ℕ) (me : Instance) (d : Done) → IsAnswer r d.instance d.op d.answer → HasLock image me r
    → HasLock image me (after_op r d.instance d.op) ⊎ IsLoss image me d
line_keeps r image me d answered lock = go d.instance d.op refl refl answered
  where
    go : (i : Option Instance) (x : DoneOp) → d.instance ≡ i → d.op ≡ x → IsAnswer r i x d.answer → HasLock image me (after_op r i x) ⊎ IsLoss image me d
    go (Some who) (done.Op op) by what is = elim (operation_keeps r image who me lock op) [
      | inl kept ↦ inl kept
      | inr lost ↦ inr (record { who = who; o = lost.1.o; line = record { by = by; what = what ∙ ap done.Op lost.1.is; answered = is ∙ lost.0 }; ends = lost.1.ends })
    ]
    go None (done.Op op) by what is = inl lock
    go None (done.Trim i n) by what is = inl (record { header = lock.header; there = lock.there; owner = lock.owner })
    go (Some who) (done.Trim i n) by what is = inl (record { header = lock.header; there = lock.there; owner = lock.owner })
    go None (done.Expire i w) by what is = inl (record { header = lock.header; there = lock.there; owner = lock.owner })
    go (Some who) (done.Expire i w) by what is = inl (record { header = lock.header; there = lock.there; owner = lock.owner })
