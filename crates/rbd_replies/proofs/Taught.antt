-- Who knows that an id is drawn drew it by a step of his own, and who knows that a header is gone
-- removed it so.
use Rattle.std.proofs.Common.{◌≡◌, ◌⊎◌, inl, inr, ℕ, cond, Bool, true, false, List, [], ◌∷◌, Option, Some, None, refl, sym, ap, ◌∙◌, subst}
use Rattle.std.proofs.lemmas.Bool.{true≢false}
use Rattle.rbd_kinds.specs.declared.answer.Answer.{Answer}
use Rattle.rbd_kinds.specs.declared.answer.Answer.TheVariants as answer
use Rattle.rbd_kinds.specs.declared.data_op.DataOp.{DataOp}
use Rattle.rbd_kinds.specs.declared.data_op.DataOp.TheVariants as object
use Rattle.rbd_kinds.specs.declared.directory_op.DirectoryOp.{DirectoryOp}
use Rattle.rbd_kinds.specs.declared.directory_op.DirectoryOp.TheVariants as directory
use Rattle.rbd_kinds.specs.declared.header.HeaderView.{HeaderView}
use Rattle.rbd_kinds.specs.declared.header_op.HeaderOp.{HeaderOp}
use Rattle.rbd_kinds.specs.declared.header_op.HeaderOp.TheVariants as header
use Rattle.rbd_kinds.specs.declared.id.Instance.{Instance}
use Rattle.rbd_kinds.specs.declared.id.SiteId.{SiteId}
use Rattle.rbd_kinds.specs.declared.machine.Fed.{Fed}
use Rattle.rbd_kinds.specs.declared.machine.Fed.TheVariants as fed
use Rattle.rbd_kinds.specs.declared.map_op.MapOp.{MapOp}
use Rattle.rbd_kinds.specs.declared.map_op.MapOp.TheVariants as states
use Rattle.rbd_kinds.specs.declared.operation.Op.{Op}
use Rattle.rbd_kinds.specs.declared.operation.Op.TheVariants as op
use Rattle.rbd_machine.specs.Knowledge.{Knowledge, Own, first_told, header_told, is_at, is_drawn, is_gone, learned, learned_of_directory, learned_of_header, learned_of_listing, learned_of_map, learned_of_object, looked_by, looked_under_lock, nothing_known, own_of, known_after_wait}
use Rattle.rbd_machine.specs.Label.{Label}
use Rattle.rbd_machine.specs.Path.{Answered, IsWalk}
use Rattle.rbd_machine.specs.Plan.{Plan, Ask, Await, Note, Return, Goto, past_label}
use Rattle.rbd_machine.specs.Wait.{Wait}
use Rattle.rbd_machine.specs.Wait as wait
use Rattle.rbd_interference.proofs.Less.{place_of}
use Rattle.rbd_world.specs.Past.{known_along}
use Rattle.rbd_world.specs.Run.{Happening, steps_of}
use Rattle.rbd_world.specs.Sound.{Recalls}
use Rattle.rbd_world.proofs.Unborn.{learned_drawn}
use Rattle.rbd_replies.specs.Fenced.{DrewId, RemovedHeader, SomeStep}

-- ---- along a walk

-- What is known holds only by a step that made it so: none of the waits does, and an answer only
-- where it is such a step.
module _ (Known : Knowledge → Type 0) (P : Answered → Type 0) (by_answer : (k : Knowledge) (s : SiteId) (o : Op) (a : Answer) → Known (learned k s o a) → Known k ⊎ P (record { site = s; op = o; answer = a }))
    (by_wait : (k : Knowledge) (w : Wait) → Known (known_after_wait k w) → Known k) (labels : Label → Plan) where
  pub taught : (feds : List Fed) (plan : Plan) (k : Knowledge) (steps : List Answered) (last : Plan) → IsWalk labels plan feds steps last → Known (known_along labels k plan feds) → Known k ⊎ SomeStep P steps
  taught [] plan k steps last walk known = inl known
  taught (fed.Answer a ∷ feds) (Ask s why o next) k steps last (first, walk) known = by (taught feds (past_label labels (next a)) (learned k s o a) first.rest last walk known)
    where
      here : SomeStep P (record { site = s; op = o; answer = a } ∷ first.rest) → SomeStep P steps
      here = subst (SomeStep P) (sym first.is)

      by : Known (learned k s o a) ⊎ SomeStep P first.rest → Known k ⊎ SomeStep P steps
      by (inl now) = now_or (by_answer k s o a now)
        where
          now_or : Known k ⊎ P (record { site = s; op = o; answer = a }) → Known k ⊎ SomeStep P steps
          now_or (inl before) = inl before
          now_or (inr step) = inr (here (inl step))
      by (inr later) = inr (here (inr later))
  taught (fed.Passed ∷ feds) (Await w next) k steps last walk known = by (taught feds (past_label labels next) (known_after_wait k w) steps last walk known)
    where
      by : Known (known_after_wait k w) ⊎ SomeStep P steps → Known k ⊎ SomeStep P steps
      by (inl now) = inl (by_wait k w now)
      by (inr step) = inr step
  taught (fed.Passed ∷ feds) (Note s image event next) k steps last walk known = taught feds (past_label labels next) k steps last walk known
  taught (fed.Passed ∷ feds) (Ask s why o next) k steps last walk known = absurd walk
  taught (fed.Answer a ∷ feds) (Await w next) k steps last walk known = absurd walk
  taught (fed.Answer a ∷ feds) (Note s image event next) k steps last walk known = absurd walk
  taught (f ∷ feds) (Return r) k steps last walk known = absurd walk
  taught (f ∷ feds) (Goto label) k steps last walk known = absurd walk

-- ---- an id that was drawn

abbrev Drawn : SiteId → (image : ℕ) → Knowledge → Type 0
Drawn t image k = is_drawn k.drawn t image ≡ true

passed_drawn : (t : SiteId) (image : ℕ) (k : Knowledge) (w : Wait) → Drawn t image (known_after_wait k w) → Drawn t image k
passed_drawn t image k (wait.Join site i sharing) drawn = drawn
passed_drawn t image k (wait.Hold site i) drawn = drawn
passed_drawn t image k (wait.Turn number) drawn = drawn
passed_drawn t image k (wait.Applied site i) drawn = drawn
passed_drawn t image k (wait.Leave site i) drawn = drawn

answer_drawn : (t : SiteId) (image : ℕ) (k : Knowledge) (s : SiteId) (o : Op) (a : Answer) → Drawn t image (learned k s o a)
    → Drawn t image k ⊎ DrewId t image (record { site = s; op = o; answer = a })
answer_drawn t image k s o a drawn = elim (learned_drawn k s t image o a drawn) [
  | inl before ↦ inl before
  | inr new ↦ inr (record { name = new.name; site = new.here; adds = new.adds; told = new.told })
]

pub drew_it : (labels : Label → Plan) (feds : List Fed) (plan last : Plan) (steps : List Answered) (t : SiteId) (image : ℕ) → IsWalk labels plan feds steps last
    → is_drawn (known_along labels nothing_known plan feds).drawn t image ≡ true → SomeStep (DrewId t image) steps
drew_it labels feds plan last steps t image walk drawn =
    elim (taught (Drawn t image) (DrewId t image) (answer_drawn t image) (passed_drawn t image) labels feds plan nothing_known steps last walk drawn) [
      | inl none ↦ absurd (true≢false (sym none))
      | inr step ↦ step
    ]

-- ---- a header that is gone

abbrev Gone : SiteId → (image : ℕ) → Knowledge → Type 0
Gone t image k = is_gone k.gone t image ≡ true

passed_gone : (t : SiteId) (image : ℕ) (k : Knowledge) (w : Wait) → Gone t image (known_after_wait k w) → Gone t image k
passed_gone t image k (wait.Join site i sharing) gone = gone
passed_gone t image k (wait.Hold site i) gone = gone
passed_gone t image k (wait.Turn number) gone = gone
passed_gone t image k (wait.Applied site i) gone = gone
passed_gone t image k (wait.Leave site i) gone = gone

module _ (t : SiteId) (image : ℕ) (k : Knowledge) (s : SiteId) where
  looked_gone : (i : ℕ) (h : HeaderView) (o : Option Own) → Gone t image (header_told s i (first_told h) (looked_under_lock o s i k)) → Gone t image k
  looked_gone i h None gone = gone
  looked_gone i h (Some o) gone = by o.header gone
    where
      by : (told : Option HeaderView) → Gone t image (header_told s i (first_told h) (looked_by told s i k)) → Gone t image k
      by None gone = gone
      by (Some v) gone = gone

  abbrev IsGoneBy : Op → Answer → Type 0
  IsGoneBy o a = Gone t image k ⊎ RemovedHeader t image (record { site = s; op = o; answer = a })

  removed_gone : (i : ℕ) (b : Bool) → is_at t image s i ≡ b → cond b true (is_gone k.gone t image) ≡ true → IsGoneBy (op.Header i header.Remove) answer.Done
  removed_gone i true at gone =
      let same = place_of t s image i at in
      inr (record { site = sym same.0; removes = ap (λ n. op.Header n header.Remove) (sym same.1); done = refl })
  removed_gone i false at gone = inl gone

  header_gone : (i : ℕ) (o : HeaderOp) (a : Answer) → Gone t image (learned_of_header k s i o a) → IsGoneBy (op.Header i o) a
  header_gone i header.Get (answer.Header h) gone = inl (looked_gone i h (own_of k.owns s i) gone)
  header_gone i (header.Create view) answer.Done gone = inl gone
  header_gone i (header.SetSize to) answer.Done gone = inl gone
  header_gone i header.Remove answer.Done gone = removed_gone i (is_at t image s i) refl gone
  header_gone i (header.SnapAdd name) (answer.Snap snap) gone = inl gone
  header_gone i (header.SnapRemove snap) answer.Done gone = inl gone
  header_gone i header.Detach answer.Done gone = inl gone
  header_gone i (header.SnapStatus snap status) answer.Done gone = inl gone
  header_gone i (header.LockBreak owner) answer.Done gone = inl gone
  header_gone i (header.LockBreak owner) answer.Changed gone = inl gone
  header_gone i header.Get _ gone = inl gone
  header_gone i (header.Create view) _ gone = inl gone
  header_gone i (header.SetSize to) _ gone = inl gone
  header_gone i header.Remove _ gone = inl gone
  header_gone i (header.SnapAdd name) _ gone = inl gone
  header_gone i (header.SnapRemove snap) _ gone = inl gone
  header_gone i header.Detach _ gone = inl gone
  header_gone i (header.SnapStatus snap status) _ gone = inl gone
  header_gone i (header.LockBreak owner) _ gone = inl gone
  header_gone i _ a gone = inl gone

  directory_gone : (o : DirectoryOp) (a : Answer) → Gone t image (learned_of_directory k s o a) → Gone t image k
  directory_gone (directory.Add name) (answer.Id i) gone = gone
  directory_gone (directory.Add name) _ gone = gone
  directory_gone _ a gone = gone

  listing_gone : (i : Instance) (a : Answer) → Gone t image (learned_of_listing k s i a) → Gone t image k
  listing_gone i answer.Done gone = gone
  listing_gone i _ gone = gone

  map_gone : (i : ℕ) (o : MapOp) (a : Answer) → Gone t image (learned_of_map k s i o a) → Gone t image k
  map_gone i (states.Resize count) answer.Done gone = gone
  map_gone i (states.Get None) (answer.Bits bits) gone = gone
  map_gone i (states.Put (Some snap) bits) answer.Done gone = gone
  map_gone i (states.Set view number state) answer.Done gone = gone
  map_gone i (states.Remove view) answer.Done gone = gone
  map_gone i _ _ gone = gone

  object_gone : (i n : ℕ) (o : DataOp) (a : Answer) → Gone t image (learned_of_object k s i n o a) → Gone t image k
  object_gone i n (object.Write context must parts bytes) answer.Done gone = gone
  object_gone i n (object.WriteFull context bytes) answer.Done gone = gone
  object_gone i n (object.Read snap parts) a gone = gone
  object_gone i n (object.CopyUp bytes) answer.Done gone = gone
  object_gone i n (object.CopyUp bytes) answer.Exists gone = gone
  object_gone i n (object.Zero context must parts) answer.Done gone = gone
  object_gone i n (object.Empty context) answer.Done gone = gone
  object_gone i n (object.Remove context) answer.Done gone = gone
  object_gone i n _ _ gone = gone

  answer_gone : (o : Op) (a : Answer) → Gone t image (learned k s o a) → IsGoneBy o a
  answer_gone (op.Directory o) a gone = inl (directory_gone o a gone)
  answer_gone (op.Header i o) a gone = header_gone i o a gone
  answer_gone (op.Data i n o) a gone = inl (object_gone i n o a gone)
  answer_gone (op.BlockAdd i) a gone = inl (listing_gone i a gone)
  answer_gone (op.Map i o) a gone = inl (map_gone i o a gone)
  answer_gone _ a gone = inl gone

pub removed_it : (labels : Label → Plan) (feds : List Fed) (plan last : Plan) (steps : List Answered) (t : SiteId) (image : ℕ) → IsWalk labels plan feds steps last
    → is_gone (known_along labels nothing_known plan feds).gone t image ≡ true → SomeStep (RemovedHeader t image) steps
removed_it labels feds plan last steps t image walk gone =
    elim (taught (Gone t image) (RemovedHeader t image) (answer_gone t image) (passed_gone t image) labels feds plan nothing_known steps last walk gone) [
      | inl none ↦ absurd (true≢false (sym none))
      | inr step ↦ step
    ]

-- ---- by what a line's command learned

module _ (line : ℕ) (s : SiteId) (o : Op) (k : Knowledge) (before : List Happening) (recalls : Recalls line s o k before) (image : ℕ) where
  pub drew_by : is_drawn k.drawn s image ≡ true → SomeStep (DrewId s image) (steps_of line before)
  drew_by drawn =
      drew_it recalls.start.labels recalls.feds recalls.start.plan _ (steps_of line before) s image recalls.walk
      (sym (ap (λ (j : Knowledge). is_drawn j.drawn s image) recalls.known) ∙ drawn)

  pub removed_by : is_gone k.gone s image ≡ true → SomeStep (RemovedHeader s image) (steps_of line before)
  removed_by gone =
      removed_it recalls.start.labels recalls.feds recalls.start.plan _ (steps_of line before) s image recalls.walk
      (sym (ap (λ (j : Knowledge). is_gone j.gone s image) recalls.known) ∙ gone)
