-- What is permitted by true knowledge is the owner's, and breaks no lock but that of a fenced
-- owner.
use Rattle.std.proofs.Common.{◌≡◌, inl, inr, ℕ, ◌==◌, ◌&&◌, cond, Bool, true, false, Some, None, refl, sym, ap, subst}
use Rattle.std.specs.Prelude.{IsSome, IsTrue, IsFalse}
use Rattle.std.proofs.lemmas.Bool.{true≢false, and_parts, eqb-true}
use Rattle.rbd_kinds.specs.declared.answer.Answer.TheVariants as answer
use Rattle.rbd_kinds.specs.declared.data_op.DataOp.{DataOp}
use Rattle.rbd_kinds.specs.declared.data_op.DataOp.TheVariants as object
use Rattle.rbd_kinds.specs.declared.header.HeaderView.{HeaderView}
use Rattle.rbd_kinds.specs.declared.header_op.HeaderOp.{HeaderOp}
use Rattle.rbd_kinds.specs.declared.header_op.HeaderOp.TheVariants as header
use Rattle.rbd_kinds.specs.declared.id.Instance.{Instance}
use Rattle.rbd_kinds.specs.declared.id.SiteId.{SiteId}
use Rattle.rbd_kinds.specs.declared.map_op.MapOp.{MapOp}
use Rattle.rbd_kinds.specs.declared.map_op.MapOp.TheVariants as states
use Rattle.rbd_kinds.specs.declared.operation.Op.{Op}
use Rattle.rbd_kinds.specs.declared.operation.Op.TheVariants as op
use Rattle.rbd_kinds.specs.declared.sharing.Sharing.{Sharing}
use Rattle.rbd_machine.specs.Knowledge.{Knowledge}
use Rattle.rbd_machine.specs.Permits.{IsLeftOver, OwnsBy, Permits, PermitsOnHeader, PermitsOnMap, PermitsOnObject}
use Rattle.rbd_interference.specs.Locks.{KnowsByLock}
use Rattle.rbd_interference.specs.Truth.{IsTrueAt, header_of_own}
use Rattle.rbd_site.specs.Records.{Records}
use Rattle.rbd_site.specs.Step.{answer_served, answer_to, is_fenced}
use Rattle.rbd_stands.specs.Owned.{HasLock, IsOwnedStep, IsOwner, changes_data, changes_header, changes_image, changes_map, was_done}

-- who has the lock is the owner
is_owner : (r : Records) (me : Instance) (image : ℕ) → HasLock image me r → IsOwner (r.headers image) me
is_owner r me image lock = subst (λ h. IsOwner h me) (sym lock.there) lock.owner

module _ (site : SiteId) (r : Records) (me : Instance) (k : Knowledge) (t : IsTrueAt site r me k) (locks : KnowsByLock site r me k) where
  -- what was done was done by an instance that isn't fenced
  by_free : (o : Op) → IsTrue (was_done (answer_to r me o)) → IsFalse (is_fenced r me)
  by_free o = by (is_fenced r me) refl
    where
      by : (b : Bool) → is_fenced r me ≡ b → IsTrue (was_done (cond b answer.Fenced (answer_served r me o))) → IsFalse (is_fenced r me)
      by true is done = absurd (true≢false (sym done))
      by false is done = is

  owns : (image : ℕ) (condition : Sharing → HeaderView → Type 0) → OwnsBy k site image condition → IsFalse (is_fenced r me) → IsOwner (r.headers image) me
  owns image condition by free =
      is_owner r me image (locks image (subst IsSome (sym (ap header_of_own by.is)) refl) free)

  same_image : (i image : ℕ) (b : Bool) → IsTrue ((image == i) && b) → i ≡ image
  same_image i image b is = sym (eqb-true image i (and_parts (image == i) b is).0)

  of_header : (i image : ℕ) (o : HeaderOp) → PermitsOnHeader k site i o → IsTrue ((image == i) && changes_header o) → IsFalse (is_fenced r me) → IsOwner (r.headers image) me
  of_header i image (header.SnapAdd name) permits is free = subst (λ n. IsOwner (r.headers n) me) (same_image i image true is) (owns i _ permits free)
  of_header i image (header.SnapRemove snap) permits is free = subst (λ n. IsOwner (r.headers n) me) (same_image i image true is) (owns i _ permits free)
  of_header i image (header.SnapStatus snap status) permits is free = subst (λ n. IsOwner (r.headers n) me) (same_image i image true is) (owns i _ permits free)
  of_header i image (header.SetSize to) permits is free = subst (λ n. IsOwner (r.headers n) me) (same_image i image true is) (owns i _ permits free)
  of_header i image header.Remove permits is free = subst (λ n. IsOwner (r.headers n) me) (same_image i image true is) (owns i _ permits free)
  of_header i image header.Get permits is free = absurd (true≢false (sym (and_parts (image == i) false is).1))
  of_header i image (header.Create view) permits is free = absurd (true≢false (sym (and_parts (image == i) false is).1))
  of_header i image header.LockTake permits is free = absurd (true≢false (sym (and_parts (image == i) false is).1))
  of_header i image header.LockDrop permits is free = absurd (true≢false (sym (and_parts (image == i) false is).1))
  of_header i image (header.LockBreak owner) permits is free = absurd (true≢false (sym (and_parts (image == i) false is).1))
  of_header i image header.Watch permits is free = absurd (true≢false (sym (and_parts (image == i) false is).1))
  of_header i image header.Unwatch permits is free = absurd (true≢false (sym (and_parts (image == i) false is).1))
  of_header i image header.WatchersGet permits is free = absurd (true≢false (sym (and_parts (image == i) false is).1))
  of_header i image (header.Notify kind) permits is free = absurd (true≢false (sym (and_parts (image == i) false is).1))
  of_header i image _ permits is free = absurd permits

  -- An image whose header was removed has no owner.
  left_over : (i image : ℕ) → IsLeftOver k site i → IsTrue ((image == i) && true) → IsOwner (r.headers image) me
  left_over i image over is = subst (λ n. IsOwner (r.headers n) me) (same_image i image true is) (subst (λ h. IsOwner h me) (sym (t.gone i over.gone).header) tt)

  of_object : (i number image : ℕ) (o : DataOp) → PermitsOnObject k site i number o → IsTrue ((image == i) && changes_data o) → IsFalse (is_fenced r me) → IsOwner (r.headers image) me
  of_object i number image (object.Write context must parts bytes) permits is free = subst (λ n. IsOwner (r.headers n) me) (same_image i image true is) (owns i _ permits free)
  of_object i number image (object.Zero context must parts) permits is free = subst (λ n. IsOwner (r.headers n) me) (same_image i image true is) (owns i _ permits free)
  of_object i number image (object.Empty context) permits is free = subst (λ n. IsOwner (r.headers n) me) (same_image i image true is) (owns i _ permits free)
  of_object i number image (object.Remove context) (inl over) is free = left_over i image over is
  of_object i number image (object.Remove context) (inr permits) is free = subst (λ n. IsOwner (r.headers n) me) (same_image i image true is) (owns i _ permits free)
  of_object i number image (object.WriteFull context bytes) permits is free = subst (λ n. IsOwner (r.headers n) me) (same_image i image true is) (owns i _ permits free)
  of_object i number image (object.Read snap parts) permits is free = absurd (true≢false (sym (and_parts (image == i) false is).1))
  of_object i number image (object.CopyUp bytes) permits is free = absurd permits

  -- A map is made of an image that has no header yet, and so no owner.
  of_map : (i image : ℕ) (o : MapOp) → PermitsOnMap k site i o → IsTrue ((image == i) && changes_map o) → IsFalse (is_fenced r me) → IsOwner (r.headers image) me
  of_map i image (states.Resize count) (inl makes) is free =
      subst (λ n. IsOwner (r.headers n) me) (same_image i image true is) (subst (λ h. IsOwner h me) (sym (t.drawn i makes.drawn).header) tt)
  of_map i image (states.Resize count) (inr permits) is free = subst (λ n. IsOwner (r.headers n) me) (same_image i image true is) (owns i _ permits free)
  of_map i image (states.Get view) permits is free = absurd (true≢false (sym (and_parts (image == i) false is).1))
  of_map i image (states.Put (Some snap) bits) permits is free = subst (λ n. IsOwner (r.headers n) me) (same_image i image true is) (owns i _ permits free)
  of_map i image (states.Set None number state) permits is free = subst (λ n. IsOwner (r.headers n) me) (same_image i image true is) (owns i _ permits free)
  of_map i image (states.Remove None) permits is free = left_over i image permits.0 is
  of_map i image (states.Remove (Some snap)) (inl over) is free = left_over i image over is
  of_map i image (states.Remove (Some snap)) (inr permits) is free = subst (λ n. IsOwner (r.headers n) me) (same_image i image true is) (owns i _ permits free)
  of_map i image _ permits is free = absurd permits

  of_change : (image : ℕ) (o : Op) → Permits k site o → IsTrue (changes_image image o) → IsFalse (is_fenced r me) → IsOwner (r.headers image) me
  of_change image (op.Header i o) permits is free = of_header i image o permits is free
  of_change image (op.Data i number o) permits is free = of_object i number image o permits is free
  of_change image (op.Map i o) permits is free = of_map i image o permits is free
  of_change image (op.Directory o) permits is free = absurd (true≢false (sym is))
  of_change image (op.Children o) permits is free = absurd (true≢false (sym is))
  of_change image (op.BlockAdd instance) permits is free = absurd (true≢false (sym is))
  of_change image _ permits is free = absurd permits

  pub is_owned : (o : Op) → Permits k site o → IsOwnedStep r me o (answer_to r me o)
  is_owned o permits = record {
    change = λ image changes done. of_change image o permits changes (by_free o done);
    broken = λ image owner is done. t.fenced owner (subst (Permits k site) is permits);
  }
