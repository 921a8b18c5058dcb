-- Which headers a request knows behind an answer: those that it knew, without one that it removed,
-- and the one that it looked at.
use Rattle.std.proofs.Common.{◌≡◌, ◌⊎◌, inl, inr, ℕ, Bool, true, false, map, Option, Some, None, is_some, option_map, refl, sym, ap, ◌∙◌, subst, true≢false}
use Rattle.std.specs.Prelude.{IsSome}
use Rattle.rbd_kinds.specs.declared.answer.Answer.{Answer}
use Rattle.rbd_kinds.specs.declared.answer.Answer.TheVariants as answer
use Rattle.rbd_kinds.specs.declared.data_op.DataOp.{DataOp}
use Rattle.rbd_kinds.specs.declared.data_op.DataOp.TheVariants as object
use Rattle.rbd_kinds.specs.declared.directory_op.DirectoryOp.{DirectoryOp}
use Rattle.rbd_kinds.specs.declared.directory_op.DirectoryOp.TheVariants as directory
use Rattle.rbd_kinds.specs.declared.header.HeaderView.{HeaderView}
use Rattle.rbd_kinds.specs.declared.header_op.HeaderOp.{HeaderOp}
use Rattle.rbd_kinds.specs.declared.header_op.HeaderOp.TheVariants as header
use Rattle.rbd_header.specs.Header.{detached}
use Rattle.rbd_kinds.specs.declared.id.Instance.{Instance}
use Rattle.rbd_kinds.specs.declared.id.SiteId.{SiteId}
use Rattle.rbd_kinds.specs.declared.map_op.MapOp.{MapOp}
use Rattle.rbd_kinds.specs.declared.map_op.MapOp.TheVariants as states
use Rattle.rbd_kinds.specs.declared.operation.Op.{Op}
use Rattle.rbd_kinds.specs.declared.operation.Op.TheVariants as op
use Rattle.rbd_knowledge.specs.Knowing.{known_at_operation}
use Rattle.rbd_machine.specs.Knowledge.{Knowledge, Own, first_told, header_told, is_at, learned, learned_of_directory, learned_of_header, learned_of_listing, learned_of_map, learned_of_object, owns_without, looked_behind, looked_by, looked_under_lock, own_of, known_after_wait, removed_header, told_of}
use Rattle.rbd_machine.specs.Plan.{Plan, Ask, Await, Note, Return, Goto}
use Rattle.rbd_machine.proofs.Lawful.{left_here}
use Rattle.rbd_interference.specs.Truth.{header_of_own, known_header}
use Rattle.rbd_interference.proofs.Less.{left_own, place_of, waited_less, IsOwnOf}
use Rattle.rbd_interference.proofs.Told.{header_changed, told_apart, told_here, told_knew}

-- ---- behind the waits

pub own_before : (site : SiteId) (image : ℕ) (new old : Knowledge) → IsOwnOf (own_of new.owns site image) (own_of old.owns site image) → IsSome (known_header new site image) → IsSome (known_header old site image)
own_before site image new old less some = ap (λ o. is_some (header_of_own o)) (sym (less some)) ∙ some

pub known_before_waits : (site : SiteId) (image : ℕ) (plan : Plan) (k : Knowledge) → IsSome (known_header (known_at_operation k plan) site image) → IsSome (known_header k site image)
known_before_waits site image (Ask there why op next) k some = some
known_before_waits site image (Await w next) k some =
    own_before site image (known_after_wait k w) k ((waited_less site k w).owns image) (known_before_waits site image next (known_after_wait k w) some)
known_before_waits site image (Note there i event next) k some = known_before_waits site image next k some
known_before_waits site image (Return reply) k some = some
known_before_waits site image (Goto label) k some = some

-- ---- by an answer

module _ (site : SiteId) (image : ℕ) (k : Knowledge) where
  -- it looked at the header of an image whose lock it waited for
  pub record LooksAt (o : Op) : Type 0 where
    pub is : o ≡ op.Header image header.Get
    pub owns : IsSome (own_of k.owns site image)

  abbrev pub KnewOrLooks : Op → Type 0
  KnewOrLooks o = IsSome (known_header k site image) ⊎ LooksAt o

  abbrev Knows : Knowledge → Type 0
  Knows new = IsSome (known_header new site image)

  -- a look leaves what it owns
  same_owns : (on : ℕ) → (looked_behind site on k).owns ≡ k.owns
  same_owns on = by (own_of k.owns site on)
    where
      of : (h : Option HeaderView) → (looked_by h site on k).owns ≡ k.owns
      of None = refl
      of (Some h) = refl

      by : (o : Option Own) → (looked_under_lock o site on k).owns ≡ k.owns
      by None = refl
      by (Some o) = of o.header

  looked : (on : ℕ) (h : HeaderView) → Knows (header_told site on (first_told h) (looked_behind site on k)) → KnewOrLooks (op.Header on header.Get)
  looked on h some = by (is_at site image site on) refl (ap (λ owns. is_some (header_of_own (own_of (map (told_of site on (first_told h)) owns) site image))) (sym (same_owns on)) ∙ some)
    where
      held : (o : Option Own) → IsSome (header_changed (first_told h) o) → IsSome o
      held None told = told
      held (Some o) told = refl

      by : (b : Bool) → is_at site image site on ≡ b → IsSome (header_of_own (own_of (map (told_of site on (first_told h)) k.owns) site image)) → KnewOrLooks (op.Header on header.Get)
      by false other told = inl (ap (λ o. is_some (header_of_own o)) (sym (told_apart site site on image (first_told h) other k.owns)) ∙ told)
      by true here told =
          let same = (place_of site site image on here).1 in
          let at = subst (λ n. IsSome (header_of_own (own_of (map (told_of site on (first_told h)) k.owns) site n))) same told in
          inr (record {
            is = ap (λ n. op.Header n header.Get) (sym same);
            owns = subst (λ n. IsSome (own_of k.owns site n)) (sym same) (held (own_of k.owns site on) (ap is_some (sym (told_here site on (first_told h) k.owns)) ∙ at));
          })

  edited : (on : ℕ) (edit : HeaderView → HeaderView) → Knows (header_told site on (option_map edit) k) → Knows k
  edited on edit some = told_knew site site on image (option_map edit) k.owns (by (own_of k.owns site on)) some
    where
      of : (h : Option HeaderView) → IsSome (option_map edit h) → IsSome h
      of None told = told
      of (Some h) told = refl

      by : (o : Option Own) → IsSome (header_changed (option_map edit) o) → IsSome (header_of_own o)
      by None told = told
      by (Some o) told = of o.header told

  of_header : (on : ℕ) (o : HeaderOp) (a : Answer) → Knows (learned_of_header k site on o a) → KnewOrLooks (op.Header on o)
  of_header on header.Get (answer.Header h) some = looked on h some
  of_header on (header.Create view) answer.Done some = inl some
  of_header on (header.SetSize to) answer.Done some = inl (edited on _ some)
  of_header on header.Remove answer.Done some = inl (own_before site image (removed_header site on k) k (left_own site site image on k.owns) some)
  of_header on (header.SnapAdd name) (answer.Snap snap) some = inl (edited on _ some)
  of_header on (header.SnapRemove snap) answer.Done some = inl (edited on _ some)
  of_header on header.Detach answer.Done some = inl (edited on detached some)
  of_header on (header.SnapStatus snap status) answer.Done some = inl (edited on _ some)
  of_header on (header.LockBreak owner) answer.Done some = inl some
  of_header on (header.LockBreak owner) answer.Changed some = inl some
  of_header on _ _ some = inl some

  of_directory : (o : DirectoryOp) (a : Answer) → Knows (learned_of_directory k site o a) → Knows k
  of_directory (directory.Add name) (answer.Id i) some = some
  of_directory _ _ some = some

  of_listing : (i : Instance) (a : Answer) → Knows (learned_of_listing k site i a) → Knows k
  of_listing i answer.Done some = some
  of_listing i _ some = some

  of_object : (on number : ℕ) (o : DataOp) (a : Answer) → Knows (learned_of_object k site on number o a) → Knows k
  of_object on number (object.Write context must parts bytes) answer.Done some = some
  of_object on number (object.WriteFull context bytes) answer.Done some = some
  of_object on number (object.Read snap parts) a some = some
  of_object on number (object.CopyUp bytes) answer.Done some = some
  of_object on number (object.CopyUp bytes) answer.Exists some = some
  of_object on number (object.Zero context must parts) answer.Done some = some
  of_object on number (object.Empty context) answer.Done some = some
  of_object on number (object.Remove context) answer.Done some = some
  of_object on number _ _ some = some

  of_map : (on : ℕ) (o : MapOp) (a : Answer) → Knows (learned_of_map k site on o a) → Knows k
  of_map on (states.Resize count) answer.Done some = some
  of_map on (states.Get None) (answer.Bits bits) some = some
  of_map on (states.Put (Some snap) bits) answer.Done some = some
  of_map on (states.Set view number state) answer.Done some = some
  of_map on (states.Remove view) answer.Done some = some
  of_map on _ _ some = some

  pub known_by_answer : (o : Op) (a : Answer) → Knows (learned k site o a) → KnewOrLooks o
  known_by_answer (op.Header on o) a some = of_header on o a some
  known_by_answer (op.Directory o) a some = inl (of_directory o a some)
  known_by_answer (op.BlockAdd i) a some = inl (of_listing i a some)
  known_by_answer (op.Data on number o) a some = inl (of_object on number o a some)
  known_by_answer (op.Map on o) a some = inl (of_map on o a some)
  known_by_answer _ a some = inl some

  -- the one that it removed it knows no more
  pub removed_unknown : (on : ℕ) → is_at site on site image ≡ true → Knows (learned k site (op.Header on header.Remove) answer.Done) → ⊥
  removed_unknown on at some =
      let same = (place_of site site on image at).1 in
      true≢false (sym some ∙ ap (λ n. is_some (header_of_own (own_of (owns_without site on k.owns) site n))) (sym same) ∙ ap (λ o. is_some (header_of_own o)) (left_here site on k.owns))
