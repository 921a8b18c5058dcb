-- An owner of a lock that isn't fenced counts it as its own; and an instance that hasn't lived yet
-- counts none.
use Rattle.std.proofs.Common.{◌≡◌, ◌⊎◌, inl, inr, ℕ, ◌≤◌, ◌==◌, cond, Bool, true, false, List, [], ◌∷◌, Option, Some, None, is_some, refl, sym, ap, ◌∙◌, subst, arith}
use Rattle.std.proofs.lemmas.Bool.{eqb-true, true≢false}
use Rattle.std.proofs.lemmas.Option.{none-some, same_Some}
use Rattle.rbd_client.specs.Client.{ClientView}
use Rattle.rbd_kinds.specs.declared.answer.Answer.{Answer}
use Rattle.rbd_kinds.specs.declared.answer.Answer.TheVariants as answer
use Rattle.rbd_kinds.specs.declared.header.HeaderView.{HeaderView}
use Rattle.rbd_kinds.specs.declared.header_op.HeaderOp.{HeaderOp}
use Rattle.rbd_kinds.specs.declared.header_op.HeaderOp.TheVariants as header
use Rattle.rbd_kinds.specs.declared.id.Instance.{Instance}
use Rattle.rbd_kinds.specs.declared.id.SiteId.{SiteId}
use Rattle.rbd_kinds.specs.declared.id.SiteId.TheVariants as site
use Rattle.rbd_kinds.specs.declared.operation.Op.{Op}
use Rattle.rbd_kinds.specs.declared.operation.Op.TheVariants as op
use Rattle.rbd_kinds.specs.declared.reply.Reply.{Reply}
use Rattle.rbd_kinds.specs.Images.{is_at, same_site}
use Rattle.rbd_kinds.specs.Instances.{same_instance}
use Rattle.rbd_kinds.proofs.Images.{same_site_is}
use Rattle.rbd_kinds.proofs.Instances.{same_instance_is, same_instance_itself}
use Rattle.rbd_lock.specs.Comings.{ByAnswer, owned_since, owns_after}
use Rattle.rbd_lock.specs.Locks.{lock_state_at}
use Rattle.rbd_machine.specs.Knowledge.{Knowledge}
use Rattle.rbd_machine.specs.Permits.{Permits}
use Rattle.rbd_machine.specs.Plan.{Standing}
use Rattle.rbd_lock.specs.Steps.{lock_take}
use Rattle.rbd_interference.proofs.Fenced.{was_free}
use Rattle.rbd_slots.specs.Session.{held_in}
use Rattle.rbd_site.specs.HeaderStep.{header_after, header_answer, is_owner, lock_left, lock_taken}
use Rattle.rbd_site.specs.Log.{expired, trimmed}
use Rattle.rbd_site.specs.Records.{Records}
use Rattle.rbd_site.specs.Step.{after, after_served, answer_served, answer_to, is_fenced}
use Rattle.rbd_world.specs.Late.{is_late}
use Rattle.rbd_world.specs.Owning.{owns_in}
use Rattle.rbd_world.specs.Run.{Doer, Itself, OnWay, House, AfterStop, Happening, Nothing, Waited, Began, Did, Refused, Trimmed, Expired, Heard, Stopped, Restarted, Life, Operation, Sent, comes_of, life_after, records_after, sent_after, sent_of}
use Rattle.rbd_world.specs.Sound.{IsRightlyDone, IsDue, IsOf, IsRestart, IsRight, IsSoundWorld}
use Rattle.rbd_world.specs.World.{WorldView, client_in, records_in}
use Rattle.rbd_world.proofs.Alive.{only_lives_that_run_act}
use Rattle.rbd_world.proofs.OwnersWatch.{HadOrTook, MakesUnowned, header_owner, makes_unowned, owner_at, owner_of, owner_then}
use Rattle.rbd_world.proofs.Runs.{done_of}

-- ---- where a site is

-- at one site images are told apart by their numbers
at_site : (s : SiteId) (on image : ℕ) → is_at s on s image ≡ (image == on)
at_site site.A on image = refl
at_site site.B on image = refl

elsewhere : (there s : SiteId) (on image : ℕ) → same_site there s ≡ false → is_at there on s image ≡ false
elsewhere site.A site.A on image differ = absurd (true≢false differ)
elsewhere site.B site.B on image differ = absurd (true≢false differ)
elsewhere site.A site.B on image differ = refl
elsewhere site.B site.A on image differ = refl

owned_elsewhere : (there s : SiteId) (o : Op) (a : Answer) (image : ℕ) (b : Bool) → same_site there s ≡ false → owned_since s image b (ByAnswer there o a ∷ []) ≡ b
owned_elsewhere there s (op.Header on o) a image b differ = ap (λ x. cond x (owns_after b (op.Header on o) a) b) (elsewhere there s on image differ)
owned_elsewhere there s o a image b differ = refl

-- ---- one operation of the owner itself

abbrev is_lock_take : HeaderOp → Bool
is_lock_take header.LockTake = true
is_lock_take o = false

module _ (who : Instance) (on : ℕ) (b : Bool) where
  taken : (owner : Option Instance) → cond (is_some owner) owner (Some who) ≡ Some who → owns_after b (op.Header on header.LockTake) (lock_taken who owner) ≡ true
  taken None is = refl
  taken (Some owner) is =
      ap (λ x. owns_after b (op.Header on header.LockTake) (cond x answer.Done (answer.Held owner)))
      (ap (λ i. same_instance i who) (same_Some owner who is) ∙ same_instance_itself who)

  -- who has the lock behind it counts it, where whoever had it before does
  header_counts : (there : Option HeaderView) (watchers : List Instance) (o : HeaderOp) → MakesUnowned o → owner_of (header_after who there o) ≡ Some who → (owner_of there ≡ Some who → b ≡ true)
      → owns_after b (op.Header on o) (header_answer who there watchers o) ≡ true
  header_counts None watchers (header.Create view) none is before = absurd (none-some who (sym none ∙ is))
  header_counts None watchers o none is before = absurd (none-some who is)
  header_counts (Some h) watchers header.LockTake none is before = taken h.owner is
  header_counts (Some h) watchers header.LockDrop none is before = by (is_owner who h.owner) refl is
    where
      by : (x : Bool) → is_owner who h.owner ≡ x → (cond x (record h { owner = None }) h).owner ≡ Some who → owns_after b (op.Header on header.LockDrop) (lock_left who h.owner) ≡ true
      by true owner is = absurd (none-some who is)
      by false other is = absurd (true≢false (sym (same_instance_itself who) ∙ sym (ap (is_owner who) is) ∙ other))
  header_counts (Some h) watchers header.Remove none is before = absurd (none-some who is)
  header_counts (Some h) watchers o none is before = by (header_owner who (Some h) o who none is)
    where
      by : HadOrTook who h.owner o who → b ≡ true
      by (inl had) = before had
      by (inr (takes, mine)) = absurd (true≢false (sym (ap is_lock_take takes)))

module _ (r : Records) (who : Instance) (k : Knowledge) (t s : SiteId) (image : ℕ) (b : Bool) (before : owner_at r image ≡ Some who → b ≡ true) where
  served_counts : (o : Op) → Permits k t o → owner_at (after_served r who o) image ≡ Some who → owned_since s image b (ByAnswer s o (answer_served r who o) ∷ []) ≡ true
  served_counts (op.Header on o) permits is = by (image == on) refl is
    where
      by : (x : Bool) → (image == on) ≡ x → owner_of (cond x (header_after who (r.headers on) o) (r.headers image)) ≡ Some who → cond (is_at s on s image) (owns_after b (op.Header on o) (header_answer who (r.headers on) (r.watchers on) o)) b ≡ true
      by false other is = ap (λ x. cond x (owns_after b (op.Header on o) (header_answer who (r.headers on) (r.watchers on) o)) b) (at_site s on image ∙ other) ∙ before is
      by true same is =
          ap (λ x. cond x (owns_after b (op.Header on o) (header_answer who (r.headers on) (r.watchers on) o)) b) (at_site s on image ∙ same)
          ∙ header_counts who on b (r.headers on) (r.watchers on) o (makes_unowned k t on o permits) is
          (λ had. before (subst (λ i. owner_at r i ≡ Some who) (sym (eqb-true image on same)) had))
  served_counts (op.Directory o) permits is = before is
  served_counts (op.Children o) permits is = before is
  served_counts (op.BlockAdd instance) permits is = before is
  served_counts (op.Data on number o) permits is = before is
  served_counts (op.Map on o) permits is = before is
  served_counts _ permits is = before is

  counts_behind : (o : Op) → Permits k t o → is_fenced r who ≡ false → owner_at (after r who o) image ≡ Some who → owned_since s image b (ByAnswer s o (answer_to r who o) ∷ []) ≡ true
  counts_behind o permits free is =
      ap (λ x. owned_since s image b (ByAnswer s o (cond x answer.Fenced (answer_served r who o)) ∷ [])) free
      ∙ served_counts o permits (sym (ap (λ x. owner_at (cond x r (after_served r who o)) image) free) ∙ is)

-- ---- along a run

module _ (homes : ℕ → SiteId) (s : SiteId) (image : ℕ) (who : Instance) where
  module _ (o : Operation) (reply : Option Reply) (run : List Happening) (done : IsRightlyDone o run)
      (before : owner_at (records_after s run) image ≡ Some who → is_fenced (records_after s run) who ≡ false → owns_in who s image run ≡ true) where
    abbrev r : Records
    r = records_after s run

    abbrev owned : Bool
    owned = owns_in who s image run

    abbrev Counts : Bool → Type 0
    Counts mine = owned_since s image owned (cond mine (ByAnswer o.site o.op o.answer ∷ []) []) ≡ true

    did_elsewhere : same_site o.site s ≡ false → owned ≡ true → (mine : Bool) → Counts mine
    did_elsewhere differ is true = owned_elsewhere o.site s o.op o.answer image owned differ ∙ is
    did_elsewhere differ is false = is

    did_itself : same_site o.site s ≡ true → o.instance ≡ who → owner_at (after r o.instance o.op) image ≡ Some who → is_fenced (after r o.instance o.op) who ≡ false → Counts true
    did_itself here mine is free =
        let was = was_free r o.instance o.instance o.op (ap (is_fenced (after r o.instance o.op)) mine ∙ free) in
        ap (λ a. owned_since s image owned (ByAnswer o.site o.op a ∷ [])) done.answer
        ∙ ap (λ t. owned_since s image owned (ByAnswer t o.op (answer_to (records_after t run) o.instance o.op) ∷ [])) (same_site_is o.site s here)
        ∙ counts_behind r o.instance done.knows o.site s image owned (λ had. before (had ∙ ap Some mine) (sym (ap (is_fenced r) mine) ∙ was)) o.op done.permits was (is ∙ ap Some (sym mine))

    did_another : same_instance o.instance who ≡ false → owner_at (after r o.instance o.op) image ≡ Some who → is_fenced (after r o.instance o.op) who ≡ false → Counts false
    did_another other is free = by (owner_then r o.instance done.knows o.site o.op image who done.permits is)
      where
        by : (owner_at r image ≡ Some who) ⊎ ((o.op ≡ lock_take image) × (o.instance ≡ who)) → owned ≡ true
        by (inl had) = before had (was_free r o.instance who o.op free)
        by (inr (takes, mine)) = absurd (true≢false (sym (ap (λ i. same_instance i who) mine ∙ same_instance_itself who) ∙ other))

    did_counts : owner_at (records_after s (Did o reply ∷ run)) image ≡ Some who → is_fenced (records_after s (Did o reply ∷ run)) who ≡ false → owns_in who s image (Did o reply ∷ run) ≡ true
    did_counts is free = by (same_site o.site s) refl is free
      where
        whose : (mine : Bool) → same_instance o.instance who ≡ mine → same_site o.site s ≡ true → owner_at (after r o.instance o.op) image ≡ Some who → is_fenced (after r o.instance o.op) who ≡ false → Counts mine
        whose true mine here is free = did_itself here (same_instance_is o.instance who mine) is free
        whose false other here is free = did_another other is free

        by : (x : Bool) → same_site o.site s ≡ x → owner_at (cond x (after r o.instance o.op) r) image ≡ Some who → is_fenced (cond x (after r o.instance o.op) r) who ≡ false → Counts (same_instance o.instance who)
        by false differ is free = did_elsewhere differ (before is free) (same_instance o.instance who)
        by true here is free = whose (same_instance o.instance who) refl here is free

  -- who has the lock counts it, unless it is fenced
  pub owner_counts : (run : List Happening) → IsRight homes run → owner_at (records_after s run) image ≡ Some who → is_fenced (records_after s run) who ≡ false → owns_in who s image run ≡ true
  owner_counts [] right is free = absurd (none-some who is)
  owner_counts (h ∷ run) (standing, due, right) is free = by h due is free (owner_counts run right)
    where
      by : (h : Happening) → IsDue homes h run → owner_at (records_after s (h ∷ run)) image ≡ Some who → is_fenced (records_after s (h ∷ run)) who ≡ false
          → (owner_at (records_after s run) image ≡ Some who → is_fenced (records_after s run) who ≡ false → owns_in who s image run ≡ true) → owns_in who s image (h ∷ run) ≡ true
      by (Did o reply) due is free before = did_counts o reply run (done_of homes o reply run due) before is free
      by (Trimmed there number on object) due is free before = go (same_site there s) is free
        where
          go : (x : Bool) → owner_at (cond x (trimmed on object (records_after s run)) (records_after s run)) image ≡ Some who
              → is_fenced (cond x (trimmed on object (records_after s run)) (records_after s run)) who ≡ false → owns_in who s image run ≡ true
          go true is free = before is free
          go false is free = before is free
      by (Expired there number on i) due is free before = go (same_site there s) is free
        where
          go : (x : Bool) → owner_at (cond x (expired on i (records_after s run)) (records_after s run)) image ≡ Some who
              → is_fenced (cond x (expired on i (records_after s run)) (records_after s run)) who ≡ false → owns_in who s image run ≡ true
          go true is free = before is free
          go false is free = before is free
      by Nothing due is free before = before is free
      by Waited due is free before = before is free
      by (Began asked slot) due is free before = before is free
      by (Refused t line told) due is free before = before is free
      by (Heard notice) due is free before = before is free
      by (Stopped other wanted lost) due is free before = before is free
      by (Restarted other) due is free before = before is free

-- ---- whoever has done anything has lived

module _ (homes : ℕ → SiteId) where
  -- the number of a session's latest life grows
  life_grows : (session : ℕ) (h : Happening) (run : List Happening) → IsDue homes h run → (life_after session run).number ≤ (life_after session (h ∷ run)).number
  life_grows session (Restarted who) run due = by (who.session == session) refl
    where
      by : (x : Bool) → (who.session == session) ≡ x → (life_after session run).number ≤ (cond x (record { number = who.life; runs = true }) (life_after session run)).number
      by false other = omega arith
      by true same =
          let next = due.next in
          let was : (life_after session run).number ≡ due.latest = ap (λ n. (life_after n run).number) (sym (eqb-true who.session session same)) ∙ ap (λ (l : Life). l.number) due.stopped in
          omega (arith, next, was)
  life_grows session (Stopped who wanted lost) run due = by (who.session == session)
    where
      by : (x : Bool) → (life_after session run).number ≤ (cond x (record { number = (life_after session run).number; runs = false }) (life_after session run)).number
      by true = omega arith
      by false = omega arith
  life_grows session h run due = omega arith

  -- what may still come is of a life that was
  module _ (session slot : ℕ) (x : Sent) where
    sent_by_it : (who : Instance) (o : Option (SiteId × Op)) → sent_of who o ≡ Some x → who ≡ x.instance
    sent_by_it who None is = absurd (none-some x is)
    sent_by_it who (Some w) is = ap (λ (y : Sent). y.instance) (same_Some _ x is)

    sent_was : (h : Happening) (run : List Happening) → IsDue homes h run → sent_after session slot (h ∷ run) ≡ Some x
        → (sent_after session slot run ≡ Some x) ⊎ (x.instance.life ≤ (life_after session run).number)
    sent_was (Stopped who wanted lost) run due is = by (who.session == session) refl is
      where
        by : (b : Bool) → (who.session == session) ≡ b → cond b (sent_of who (held_in slot wanted)) (sent_after session slot run) ≡ Some x
            → (sent_after session slot run ≡ Some x) ⊎ (x.instance.life ≤ (life_after session run).number)
        by false other is = inl is
        by true same is =
            let its : who.life ≡ x.instance.life = ap (λ (i : Instance). i.life) (sent_by_it who (held_in slot wanted) is) in
            let was : (life_after session run).number ≡ who.life = ap (λ n. (life_after n run).number) (sym (eqb-true who.session session same)) ∙ ap (λ (l : Life). l.number) due.runs in
            inr (omega (arith, its, was))
    sent_was (Did o reply) run due is = by (comes_of session slot o.instance o.by) is
      where
        by : (b : Bool) → cond b None (sent_after session slot run) ≡ Some x → (sent_after session slot run ≡ Some x) ⊎ (x.instance.life ≤ (life_after session run).number)
        by true is = absurd (none-some x is)
        by false is = inl is
    sent_was h run due is = inl is

    sent_lived : (run : List Happening) → IsRight homes run → sent_after session slot run ≡ Some x → x.instance.life ≤ (life_after session run).number
    sent_lived [] right is = absurd (none-some x is)
    sent_lived (h ∷ run) (standing, due, right) is = by (sent_was h run due is) (sent_lived run right)
      where
        by : (sent_after session slot run ≡ Some x) ⊎ (x.instance.life ≤ (life_after session run).number)
            → (sent_after session slot run ≡ Some x → x.instance.life ≤ (life_after session run).number) → x.instance.life ≤ (life_after session (h ∷ run)).number
        by (inl was) before = let lived = before was in let grows = life_grows session h run due in omega (arith, lived, grows)
        by (inr lived) before = let grows = life_grows session h run due in omega (arith, lived, grows)

  acted_lived : (o : Operation) (reply : Option Reply) (run : List Happening) → IsRight homes (Did o reply ∷ run) → o.instance.life ≤ (life_after o.instance.session run).number
  acted_lived o reply run right = by (is_late o.by) refl
    where
      late : (d : Doer) → is_late d ≡ true → IsOf d o.instance o.site o.op run → o.instance.life ≤ (life_after o.instance.session run).number
      late (AfterStop slot) is sent = sent_lived o.instance.session slot _ run right.2 sent
      late (Itself line) is sent = absurd (true≢false (sym is))
      late (OnWay line) is sent = absurd (true≢false (sym is))
      late House is sent = absurd (true≢false (sym is))

      by : (b : Bool) → is_late o.by ≡ b → o.instance.life ≤ (life_after o.instance.session run).number
      by true is = late o.by is (done_of homes o reply run right.1).whose
      by false is =
          let runs : (life_after o.instance.session run).number ≡ o.instance.life = ap (λ (l : Life). l.number) (only_lives_that_run_act homes o reply run right is) in omega (arith, runs)

  module _ (who : Instance) (s : SiteId) (image : ℕ) where
    counted_lived : (run : List Happening) → IsRight homes run → owns_in who s image run ≡ true → who.life ≤ (life_after who.session run).number
    counted_lived [] right is = absurd (true≢false (sym is))
    counted_lived (h ∷ run) right is = by h right is (counted_lived run right.2)
      where
        later : (h : Happening) → IsRight homes (h ∷ run) → who.life ≤ (life_after who.session run).number → who.life ≤ (life_after who.session (h ∷ run)).number
        later h right lived = let grows = life_grows who.session h run right.1 in omega (arith, lived, grows)

        by : (h : Happening) → IsRight homes (h ∷ run) → owns_in who s image (h ∷ run) ≡ true → (owns_in who s image run ≡ true → who.life ≤ (life_after who.session run).number)
            → who.life ≤ (life_after who.session (h ∷ run)).number
        by (Did o reply) right is before = go (same_instance o.instance who) refl is
          where
            go : (mine : Bool) → same_instance o.instance who ≡ mine → owned_since s image (owns_in who s image run) (cond mine (ByAnswer o.site o.op o.answer ∷ []) []) ≡ true
                → who.life ≤ (life_after who.session run).number
            go true mine is = subst (λ (i : Instance). i.life ≤ (life_after i.session run).number) (same_instance_is o.instance who mine) (acted_lived o reply run right)
            go false other is = before is
        by h right is before = later h right (before is)

    -- who begins its life has counted none
    pub newborn_counts_none : (run : List Happening) → IsRight homes run → IsRestart who run → owns_in who s image run ≡ false
    newborn_counts_none run right born = by (owns_in who s image run) refl
      where
        by : (b : Bool) → owns_in who s image run ≡ b → b ≡ false
        by false is = refl
        by true is =
            let lived = counted_lived run right is in
            let next = born.next in
            let was : (life_after who.session run).number ≡ born.latest = ap (λ (l : Life). l.number) born.stopped in
            absurd (omega (arith, lived, next, was))

-- ---- in a world

module _ {R : Type 0} (stands : R → Standing) (w : WorldView R) (sound : IsSoundWorld stands w) (session : ℕ) (c : ClientView R) (is : client_in session w.lives ≡ Some c) (s : SiteId) (image : ℕ) where
  -- who has the lock, and doesn't count it, is fenced
  pub owner_is_fenced : owner_at (records_in s w.sites) image ≡ Some c.session.instance → (lock_state_at s image c.locks).owned ≡ false → is_fenced (records_in s w.sites) c.session.instance ≡ true
  owner_is_fenced has none = by (is_fenced (records_in s w.sites) c.session.instance) refl
    where
      by : (b : Bool) → is_fenced (records_in s w.sites) c.session.instance ≡ b → b ≡ true
      by true fenced = refl
      by false free =
          absurd
          (true≢false (sym (sound.owns session c is s image
          ∙ owner_counts sound.told.homes s image c.session.instance sound.told.run sound.told.right (sym (ap (λ r. owner_at r image) (sound.told.records s)) ∙ has)
          (sym (ap (λ r. is_fenced r c.session.instance) (sound.told.records s)) ∙ free)) ∙ none))
