-- Who let go of a lock by a line of its own doesn't own it as long as the line is open. So nobody
-- ends its own watch of an image whose lock it owns.
use Rattle.std.proofs.Common.{◌≡◌, ◌⊎◌, inl, inr, ℕ, ◌==◌, ◌||◌, cond, Bool, true, false, List, [], ◌∷◌, ◌++◌, Option, Some, None, refl, sym, ap, ◌∙◌, subst}
use Rattle.std.proofs.lemmas.Bool.{true≢false, and_parts, eqb-true, eq-eqb, or_parts}
use Rattle.std.proofs.lemmas.List.{append-nil}
use Rattle.std.proofs.lemmas.List.Folds.{list_any-append}
use Rattle.std.proofs.lemmas.Option.{none-some, same_Some}
use Rattle.std.proofs.Math.Bool.{or-false}
use Rattle.rbd_session.specs.Close.{unwatch}
use Rattle.rbd_kinds.specs.declared.answer.Answer.{Answer}
use Rattle.rbd_kinds.specs.declared.answer.Answer.TheVariants as answer
use Rattle.rbd_kinds.specs.declared.header.HeaderView.{HeaderView}
use Rattle.rbd_kinds.specs.declared.header_op.HeaderOp.TheVariants as header
use Rattle.rbd_kinds.specs.declared.id.Instance.{Instance}
use Rattle.rbd_kinds.specs.declared.id.SiteId.{SiteId}
use Rattle.rbd_kinds.specs.declared.operation.Op.{Op}
use Rattle.rbd_kinds.specs.declared.operation.Op.TheVariants as op
use Rattle.rbd_kinds.specs.declared.reply.Reply.{Reply}
use Rattle.rbd_kinds.specs.declared.reply.Reply.TheVariants as reply
use Rattle.rbd_kinds.specs.Images.{same_site}
use Rattle.rbd_kinds.specs.Instances.{same_instance}
use Rattle.rbd_kinds.proofs.Images.{at_itself, same_site_is, same_site_itself}
use Rattle.rbd_kinds.proofs.Instances.{same_instance_itself}
use Rattle.rbd_machine.specs.Path.{Answered, IsWalk}
use Rattle.rbd_machine.specs.Plan.{Ask, Return}
use Rattle.rbd_lock.specs.Acquire.{acquire, lock_labels}
use Rattle.rbd_lock.specs.Release.{release_op, release_op_at}
use Rattle.rbd_lock.specs.Steps.{lock_take}
use Rattle.rbd_lock.specs.declared.release.Release.{Release}
use Rattle.rbd_lock.specs.declared.release.Stage.{Stage}
use Rattle.rbd_lock.specs.declared.release.Stage.TheVariants as stage
use Rattle.rbd_lock.proofs.Ordered.{ordered_acquire, ordered_walk}
use Rattle.rbd_site.specs.HeaderStep.{header_after, is_owner}
use Rattle.rbd_site.specs.Records.{Records}
use Rattle.rbd_site.specs.Step.{after, after_served, answer_served, answer_to, is_fenced}
use Rattle.rbd_world.specs.Closes.{has_let_go, lets_lock_go}
use Rattle.rbd_world.specs.LetGo.{release_of}
use Rattle.rbd_world.specs.Run.{Asked, Doer, Itself, OnWay, House, AfterStop, Happening, Nothing, Waited, Began, Did, Refused, Trimmed, Expired, Heard, Stopped, Restarted, Operation, asked_by, ends, is_own, or_asked, records_after, step_of, steps_of, way_of}
use Rattle.rbd_world.specs.Sound.{IsRightlyDone, IsNextOf, IsOf, IsOpen, IsRight, IsRunning, RecallsBy, has_ended}
use Rattle.rbd_world.specs.Ways.{IsNextOfRelease}
use Rattle.rbd_world.proofs.Alive.{open_is_running}
use Rattle.rbd_catalog.specs.Follows.{TakesNoLock}
use Rattle.rbd_world.proofs.LetsGoFirst.{led_first}
use Rattle.rbd_world.proofs.OwnersWatch.{Takes, none_taken, owned_before, owner_at, owner_of, takes_did}
use Rattle.rbd_world.proofs.Runs.{done_of, unheard}
use Rattle.rbd_world.proofs.Sent.{sent_rightly, sent_stopped}
use Rattle.rbd_world.proofs.TakesNone.{release_takes_none, walks_take_none}

-- ---- a lock that was let go

-- behind its drop it isn't the owner
dropped_there : (me : Instance) (there : Option HeaderView) → owner_of (header_after me there header.LockDrop) ≡ Some me → ⊥
dropped_there me None is = none-some me is
dropped_there me (Some h) is = by (is_owner me h.owner) refl is
  where
    owns : (o : Option Instance) → o ≡ Some me → is_owner me o ≡ true
    owns None is = absurd (none-some me is)
    owns (Some i) is = ap (λ x. same_instance x me) (same_Some i me is) ∙ same_instance_itself me

    by : (b : Bool) → is_owner me h.owner ≡ b → (cond b (record h { owner = None }) h).owner ≡ Some me → ⊥
    by true at is = none-some me is
    by false at is = true≢false (sym (owns h.owner is) ∙ at)

lets_go_fenced : (s : SiteId) (o : Op) (image : ℕ) → lets_lock_go s o answer.Fenced s image ≡ true → ⊥
lets_go_fenced s (op.Header on header.LockDrop) image is = true≢false (sym is)
lets_go_fenced s (op.Header on o) image is = true≢false (sym is)
lets_go_fenced s o image is = true≢false (sym is)

pub lets_go_image : (s : SiteId) (o : Op) (a : Answer) (image : ℕ) → lets_lock_go s o a s image ≡ true → o ≡ op.Header image header.LockDrop
lets_go_image s (op.Header on header.LockDrop) answer.Done image is = ap (λ i. op.Header i header.LockDrop) (sym (eqb-true image on (and_parts (same_site s s) (image == on) is).1))
lets_go_image s (op.Header on header.LockDrop) answer.Changed image is = ap (λ i. op.Header i header.LockDrop) (sym (eqb-true image on (and_parts (same_site s s) (image == on) is).1))
lets_go_image s (op.Header on header.LockDrop) a image is = absurd (true≢false (sym is))
lets_go_image s (op.Header on o) a image is = absurd (true≢false (sym is))
lets_go_image s o a image is = absurd (true≢false (sym is))

dropped_unowned : (s : SiteId) (r : Records) (me : Instance) (o : Op) (image : ℕ) → lets_lock_go s o (answer_to r me o) s image ≡ true → owner_at (after r me o) image ≡ Some me → ⊥
dropped_unowned s r me o image lets owns = by (is_fenced r me) lets owns
  where
    by : (b : Bool) → lets_lock_go s o (cond b answer.Fenced (answer_served r me o)) s image ≡ true → owner_at (cond b r (after_served r me o)) image ≡ Some me → ⊥
    by true lets owns = lets_go_fenced s o image lets
    by false lets owns =
        dropped_there me (r.headers image)
        (sym (ap (λ b. owner_of (cond b (header_after me (r.headers image) header.LockDrop) (r.headers image))) (eq-eqb image image refl))
        ∙ subst (λ x. owner_at (after_served r me x) image ≡ Some me) (lets_go_image s o (answer_served r me o) image lets) owns)

pub lets_go_there : (there : SiteId) (o : Op) (a : Answer) (s : SiteId) (image : ℕ) → lets_lock_go there o a s image ≡ true → same_site s there ≡ true
lets_go_there there (op.Header on header.LockDrop) answer.Done s image is = (and_parts (same_site s there) (image == on) is).0
lets_go_there there (op.Header on header.LockDrop) answer.Changed s image is = (and_parts (same_site s there) (image == on) is).0
lets_go_there there (op.Header on header.LockDrop) a s image is = absurd (true≢false (sym is))
lets_go_there there (op.Header on o) a s image is = absurd (true≢false (sym is))
lets_go_there there o a s image is = absurd (true≢false (sym is))

-- ---- as long as the line is open

module _ (homes : ℕ → SiteId) (line : ℕ) (s : SiteId) (image : ℕ) where
  -- nobody of its instance takes the lock
  takes_none : (run : List Happening) (o : Operation) (reply : Option Reply) → IsRight homes (Did o reply ∷ run) → (begun : IsOpen line run) → has_let_go s image (steps_of line run) ≡ true
      → o.op ≡ lock_take image → o.instance ≡ begun.asked.who → o.site ≡ s → ⊥
  takes_none run o reply right begun gone takes mine here = by o.by done.next done.recalls done.whose
    where
      done : IsRightlyDone o run
      done = done_of homes o reply run right.1

      by : (d : Doer) → IsNextOf d o.instance o.site o.op run → RecallsBy d o.site o.op done.knows run → IsOf d o.instance o.site o.op run → ⊥
      by (Itself other) next recalls whose =
          subst TakesNoLock takes (walks_take_none recalls.seat recalls.begun.asked.command recalls.start recalls.feds _ o.site recalls.why o.op recalls.next recalls.plan recalls.walk)
      by (OnWay other) next recalls whose =
          true≢false (sym gone ∙ ap (λ t. has_let_go t image (steps_of line run)) (sym here) ∙ next.2 image takes line begun (sym mine))
      by House next recalls whose = house (release_of o.instance run) next
        where
          house : (x : Option Release) → IsNextOfRelease x o.site o.op → ⊥
          house None next = subst TakesNoLock (sym next.is ∙ takes) tt
          house (Some x) next = subst TakesNoLock (sym next.1 ∙ takes) (release_takes_none x)
      by (AfterStop slot) next recalls whose =
          sent_stopped homes o.instance.session slot _ run right.2 whose (subst (λ i. IsRunning i run) (sym mine) (open_is_running homes line run right.2 begun))

  -- a drop of its own was done
  own_drop : (run : List Happening) (o : Operation) (reply : Option Reply) → IsRightlyDone o run → (begun : IsOpen line run) → is_own line o.by ≡ true → lets_lock_go o.site o.op o.answer s image ≡ true
      → owner_at (records_after s (Did o reply ∷ run)) image ≡ Some begun.asked.who → ⊥
  own_drop run o reply done begun own lets owns =
      dropped_unowned s (records_after s run) o.instance o.op image
      (subst (λ a. lets_lock_go s o.op a s image ≡ true) (done.answer ∙ ap (λ t. answer_to (records_after t run) o.instance o.op) (sym here)) (subst (λ t. lets_lock_go t o.op o.answer s image ≡ true) (sym here) lets))
      (sym (ap (λ b. owner_at (cond b (after (records_after s run) o.instance o.op) (records_after s run)) image) (ap (same_site o.site) here ∙ same_site_itself o.site))
      ∙ owns ∙ ap Some (sym (mine o.by own done.whose)))
    where
      here : s ≡ o.site
      here = same_site_is s o.site (lets_go_there o.site o.op o.answer s image lets)

      mine : (d : Doer) → is_own line d ≡ true → IsOf d o.instance o.site o.op run → o.instance ≡ begun.asked.who
      mine (Itself other) own whose = whose begun.asked (ap (λ l. asked_by l run) (eqb-true other line own) ∙ begun.is)
      mine (OnWay other) own whose = absurd (true≢false (sym own))
      mine House own whose = absurd (true≢false (sym own))
      mine (AfterStop slot) own whose = absurd (true≢false (sym own))

  abbrev before_it : (h : Happening) (run : List Happening) → ((o : Option Asked) → or_asked line h o ≡ o) → IsOpen line (h ∷ run) → IsOpen line run
  before_it h run asks begun = record {
    asked = begun.asked;
    is = sym (asks (asked_by line run)) ∙ begun.is;
    unended = (or_parts (ends line h) (has_ended line run) begun.unended).1;
  }

  pub open_unowned : (run : List Happening) → IsRight homes run → (begun : IsOpen line run) → has_let_go s image (steps_of line run) ≡ true → owner_at (records_after s run) image ≡ Some begun.asked.who → ⊥
  open_unowned [] right begun gone owns = none-some begun.asked begun.is
  open_unowned (h ∷ run) right begun gone owns = by h right begun gone owns (open_unowned run right.2)
    where
      -- what is no operation
      rest : (h : Happening) → IsRight homes (h ∷ run) → (begun : IsOpen line (h ∷ run)) → has_let_go s image (steps_of line run ++ []) ≡ true
          → owner_at (records_after s (h ∷ run)) image ≡ Some begun.asked.who → (was : IsOpen line run) → was.asked ≡ begun.asked → (Takes begun.asked.who s image h run → ⊥)
          → (has_let_go s image (steps_of line run) ≡ true → owner_at (records_after s run) image ≡ Some was.asked.who → ⊥) → ⊥
      rest h right begun gone owns was same none before = go (owned_before homes s image begun.asked.who run h right.1 owns)
        where
          go : (owner_at (records_after s run) image ≡ Some begun.asked.who) ⊎ Takes begun.asked.who s image h run → ⊥
          go (inl had) = before (ap (has_let_go s image) (sym (append-nil (steps_of line run))) ∙ gone) (had ∙ ap (λ (a : Asked). Some a.who) (sym same))
          go (inr took) = none took

      did : (o : Operation) (reply : Option Reply) → IsRight homes (Did o reply ∷ run) → (was : IsOpen line run)
          → has_let_go s image (steps_of line run ++ cond (is_own line o.by) (step_of o ∷ []) []) ≡ true
          → owner_at (records_after s (Did o reply ∷ run)) image ≡ Some was.asked.who
          → (has_let_go s image (steps_of line run) ≡ true → owner_at (records_after s run) image ≡ Some was.asked.who → ⊥) → ⊥
      did o reply right was gone owns before =
          go (has_let_go s image (steps_of line run)) refl
          (sym (list_any-append (λ (d : Answered). lets_lock_go d.site d.op d.answer s image) (steps_of line run) (cond (is_own line o.by) (step_of o ∷ []) [])) ∙ gone)
        where
          went : has_let_go s image (steps_of line run) ≡ true → (owner_at (records_after s run) image ≡ Some was.asked.who) ⊎ Takes was.asked.who s image (Did o reply) run → ⊥
          went already (inl had) = before already had
          went already (inr took) =
              let takes = takes_did was.asked.who s image o reply run took in takes_none run o reply right was already takes.0 takes.1 takes.2

          now : (b : Bool) → is_own line o.by ≡ b → has_let_go s image (cond b (step_of o ∷ []) []) ≡ true → ⊥
          now true own lets = own_drop run o reply (done_of homes o reply run right.1) was own (sym (or-false (lets_lock_go o.site o.op o.answer s image)) ∙ lets) owns
          now false own lets = true≢false (sym lets)

          go : (b : Bool) → has_let_go s image (steps_of line run) ≡ b → (b || has_let_go s image (cond (is_own line o.by) (step_of o ∷ []) [])) ≡ true → ⊥
          go true already lets = went already (owned_before homes s image was.asked.who run (Did o reply) right.1 owns)
          go false yet lets = now (is_own line o.by) refl lets

      by : (h : Happening) → IsRight homes (h ∷ run) → (begun : IsOpen line (h ∷ run)) → has_let_go s image (steps_of line (h ∷ run)) ≡ true → owner_at (records_after s (h ∷ run)) image ≡ Some begun.asked.who
          → ((was : IsOpen line run) → has_let_go s image (steps_of line run) ≡ true → owner_at (records_after s run) image ≡ Some was.asked.who → ⊥) → ⊥
      by (Did o reply) right begun gone owns before = let was = before_it (Did o reply) run (λ x. refl) begun in did o reply right was gone owns (before was)
      by (Began asked slot) right begun gone owns before = go (asked.line == line) refl begun.is
        where
          ended : has_ended line run ≡ false
          ended = (or_parts (ends line (Began asked slot)) (has_ended line run) begun.unended).1

          go : (b : Bool) → (asked.line == line) ≡ b → cond b (Some asked) (asked_by line run) ≡ Some begun.asked → ⊥
          go true own is =
              let none = (unheard homes line run right.2 (ap (λ l. asked_by l run) (sym (eqb-true asked.line line own)) ∙ right.1.new)).steps in
              true≢false (sym gone ∙ ap (λ xs. has_let_go s image (xs ++ [])) none)
          go false other is =
              let was : IsOpen line run = record { asked = begun.asked; is = is; unended = ended } in
              rest (Began asked slot) right begun gone owns was refl (none_taken (Began asked slot) refl run begun.asked.who s image) (before was)
      by Nothing right begun gone owns before = let was = before_it Nothing run (λ x. refl) begun in rest Nothing right begun gone owns was refl (none_taken Nothing refl run begun.asked.who s image) (before was)
      by Waited right begun gone owns before = let was = before_it Waited run (λ x. refl) begun in rest Waited right begun gone owns was refl (none_taken Waited refl run begun.asked.who s image) (before was)
      by (Refused t l told) right begun gone owns before =
          let was = before_it (Refused t l told) run (λ x. refl) begun in rest (Refused t l told) right begun gone owns was refl (none_taken (Refused t l told) refl run begun.asked.who s image) (before was)
      by (Trimmed t number on object) right begun gone owns before =
          let was = before_it (Trimmed t number on object) run (λ x. refl) begun in
          rest (Trimmed t number on object) right begun gone owns was refl (none_taken (Trimmed t number on object) refl run begun.asked.who s image) (before was)
      by (Expired t number on i) right begun gone owns before =
          let was = before_it (Expired t number on i) run (λ x. refl) begun in
          rest (Expired t number on i) right begun gone owns was refl (none_taken (Expired t number on i) refl run begun.asked.who s image) (before was)
      by (Heard notice) right begun gone owns before =
          let was = before_it (Heard notice) run (λ x. refl) begun in rest (Heard notice) right begun gone owns was refl (none_taken (Heard notice) refl run begun.asked.who s image) (before was)
      by (Stopped who wanted lost) right begun gone owns before =
          let was = before_it (Stopped who wanted lost) run (λ x. refl) begun in
          rest (Stopped who wanted lost) right begun gone owns was refl (none_taken (Stopped who wanted lost) refl run begun.asked.who s image) (before was)
      by (Restarted who) right begun gone owns before =
          let was = before_it (Restarted who) run (λ x. refl) begun in rest (Restarted who) right begun gone owns was refl (none_taken (Restarted who) refl run begun.asked.who s image) (before was)

-- ---- who ends its watch

-- it ends no watch
abbrev pub EndsNoWatch : Op → Type 0
EndsNoWatch (op.Header image header.Unwatch) = ⊥
EndsNoWatch o = Unit {0}

pub release_keeps_watch : (x : Release) → EndsNoWatch (release_op x)
release_keeps_watch x = by x.stage
  where
    by : (at : Stage) → EndsNoWatch (release_op_at at x.image)
    by stage.Dropping = tt
    by stage.Telling = tt

-- Nobody ends its own watch of an image whose lock it owns.
pub unwatches_unowned : (homes : ℕ → SiteId) (o : Operation) (told : Option Reply) (run : List Happening) (image : ℕ) → IsRight homes (Did o told ∷ run) → o.op ≡ unwatch image
    → owner_at (records_after o.site run) image ≡ Some o.instance → ⊥
unwatches_unowned homes o told run image right unwatches owns = by o.by done.next done.recalls done.whose
  where
    done : IsRightlyDone o run
    done = done_of homes o told run right.1

    by : (d : Doer) → IsNextOf d o.instance o.site o.op run → RecallsBy d o.site o.op done.knows run → IsOf d o.instance o.site o.op run → ⊥
    by (Itself line) next recalls whose =
        let walk = subst (λ x. IsWalk recalls.start.labels recalls.start.plan recalls.feds (steps_of line run) (Ask o.site recalls.why x recalls.next)) unwatches recalls.walk in
        let first = led_first o.site image recalls.seat recalls.begun.asked.command recalls.start recalls.feds (steps_of line run) (Ask o.site recalls.why (unwatch image) recalls.next) recalls.plan walk in
        open_unowned homes line o.site image run right.2 recalls.begun (first.0.0 (at_itself o.site image)) (owns ∙ ap Some (whose recalls.begun.asked recalls.begun.is))
    by (OnWay line) next recalls whose =
        let way = next.0.way in
        let start = acquire o.site next.0.image way.watched (Return reply.Done) in
        (ordered_walk o.site next.0.image way.feds [] start (way_of line run) (Ask o.site next.0.why (unwatch image) next.0.next) (ordered_acquire o.site next.0.image way.watched)
        (subst (λ x. IsWalk (lock_labels o.site next.0.image) start way.feds (way_of line run) (Ask o.site next.0.why x next.0.next)) unwatches way.walk)).last_is.1.1
    by House next recalls whose = house (release_of o.instance run) next
      where
        house : (x : Option Release) → IsNextOfRelease x o.site o.op → ⊥
        house None next = subst EndsNoWatch (sym next.is ∙ unwatches) tt
        house (Some x) next = subst EndsNoWatch (sym next.1 ∙ unwatches) (release_keeps_watch x)
    by (AfterStop slot) next recalls whose =
        (sent_rightly homes o.instance.session run right.2).unowned slot (record { instance = o.instance; site = o.site; op = o.op }) image whose unwatches owns
