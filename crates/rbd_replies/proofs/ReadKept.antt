-- A header that is there stays until it is removed, and no other one comes in its place: its
-- generation never falls, and while it is the same, so is the header, but for the owner of its
-- lock.
use Rattle.std.proofs.Common.{◌≡◌, ◌⊎◌, inl, inr, ℕ, ◌==◌, ◌≤◌, cond, Bool, true, false, List, [], ◌∷◌, ◌++◌, Option, Some, None, refl, sym, ap, ◌∙◌, subst, append_assoc, arith}
use Rattle.std.proofs.lemmas.Bool.{eqb-true}
use Rattle.std.proofs.lemmas.Option.{none-some}
use Rattle.rbd_kinds.specs.declared.header.HeaderView.{HeaderView}
use Rattle.rbd_kinds.specs.declared.header_op.HeaderOp.{HeaderOp}
use Rattle.rbd_kinds.specs.declared.header_op.HeaderOp.TheVariants as header
use Rattle.rbd_kinds.specs.declared.id.Instance.{Instance}
use Rattle.rbd_kinds.specs.declared.id.SiteId.{SiteId}
use Rattle.rbd_kinds.specs.declared.operation.Op.{Op}
use Rattle.rbd_kinds.specs.declared.operation.Op.TheVariants as op
use Rattle.rbd_kinds.proofs.Images.{same_site_is}
use Rattle.rbd_machine.specs.Knowledge.{Knowledge, is_drawn, same_site}
use Rattle.rbd_machine.specs.Permits.{Permits, PermitsOnHeader}
use Rattle.rbd_site.specs.HeaderStep.{header_after}
use Rattle.rbd_site.specs.Laws.{is_on_lock}
use Rattle.rbd_site.specs.Log.{expired, trimmed}
use Rattle.rbd_site.specs.Records.{Records}
use Rattle.rbd_site.specs.Step.{after, after_served}
use Rattle.rbd_site.proofs.GenerationLemmas.{generation_lasts, generation_same, lock_alone}
use Rattle.rbd_site.proofs.StepLemmas.{where_fenced}
use Rattle.rbd_world.specs.Run.{Happening, Nothing, Waited, Began, Did, Refused, Trimmed, Expired, Heard, Stopped, Restarted, records_after, records_behind}
use Rattle.rbd_world.specs.Past.{HadNoHeader}
use Rattle.rbd_world.specs.Sound.{IsRightlyDone, IsDue, IsRight}
use Rattle.rbd_world.proofs.Runs.{done_of}
use Rattle.rbd_replies.proofs.ReadOrder.{GoesOn}

-- what is there later of a header
pub record IsKept (old : HeaderView) (there : Option HeaderView) : Type 0 where
  pub view : HeaderView
  pub is : there ≡ Some view
  pub lasts : old.generation ≤ view.generation
  pub same : view.generation ≡ old.generation → view ≡ record old { owner = view.owner }

-- or it isn't there any more
abbrev pub IsKeptOrGone : (old : HeaderView) (there : Option HeaderView) → Type 0
IsKeptOrGone old there = IsKept old there ⊎ (there ≡ None)

kept_as_it_is : (old : HeaderView) (there : Option HeaderView) → there ≡ Some old → IsKept old there
kept_as_it_is old there is = record { view = old; is = is; lasts = omega arith; same = λ e. refl }

-- it stays there under what is permitted, or goes
record IsHere (there : Option HeaderView) : Type 0 where
  view : HeaderView
  is : there ≡ Some view

abbrev IsHereOrGone : Option HeaderView → Type 0
IsHereOrGone there = IsHere there ⊎ (there ≡ None)

stays_here : (k : Knowledge) (s : SiteId) (me : Instance) (image : ℕ) (o : HeaderOp) → PermitsOnHeader k s image o → (v : HeaderView) → IsHereOrGone (header_after me (Some v) o)
stays_here k s me image header.Remove permits v = inr refl
stays_here k s me image header.Get permits v = inl (record { view = v; is = refl })
stays_here k s me image (header.Create view) permits v = inl (record { view = v; is = refl })
stays_here k s me image (header.SetSize to) permits v = inl (record { view = _; is = refl })
stays_here k s me image (header.SnapAdd name) permits v = inl (record { view = _; is = refl })
stays_here k s me image (header.SnapRemove snap) permits v = inl (record { view = _; is = refl })
stays_here k s me image (header.SnapStatus snap status) permits v = inl (record { view = _; is = refl })
stays_here k s me image header.LockTake permits v = inl (record { view = _; is = refl })
stays_here k s me image header.LockDrop permits v = inl (record { view = _; is = refl })
stays_here k s me image (header.LockBreak owner) permits v = inl (record { view = _; is = refl })
stays_here k s me image header.Watch permits v = inl (record { view = v; is = refl })
stays_here k s me image header.Unwatch permits v = inl (record { view = v; is = refl })
stays_here k s me image header.WatchersGet permits v = inl (record { view = v; is = refl })
stays_here k s me image (header.Notify kind) permits v = inl (record { view = v; is = refl })
stays_here k s me image _ permits v = elim permits [ ]

-- An operation on the lock changes the owner alone, and any other leaves a header whose generation
-- stays.
same_but_owner : (r : Records) (me : Instance) (o : Op) (image : ℕ) (old new : HeaderView) → r.headers image ≡ Some old → (after r me o).headers image ≡ Some new
    → new.generation ≡ old.generation → new ≡ record old { owner = new.owner }
same_but_owner r me o image old new was is generation = by (is_on_lock o) refl
  where
    by : (b : Bool) → is_on_lock o ≡ b → new ≡ record old { owner = new.owner }
    by true lock = lock_alone r me o image old new was is lock
    by false other =
        let same : new ≡ old = generation_same r me o image old new was is other generation in
        same ∙ ap (λ (h : HeaderView). record old { owner = h.owner }) (sym same)

module _ (s : SiteId) (r : Records) (k : Knowledge) (me : Instance) (o : Op) (image : ℕ) (permits : Permits k s o) where
  here_served : (what : Op) → what ≡ o → (old : HeaderView) → r.headers image ≡ Some old → IsHereOrGone ((after_served r me what).headers image)
  here_served (op.Directory d) same old is = inl (record { view = old; is = is })
  here_served (op.BlockAdd i) same old is = inl (record { view = old; is = is })
  here_served (op.Data other number d) same old is = inl (record { view = old; is = is })
  here_served (op.Map other d) same old is = inl (record { view = old; is = is })
  here_served (op.Header other d) same old is = by (image == other) refl
    where
      by : (b : Bool) → (image == other) ≡ b → IsHereOrGone (cond b (header_after me (r.headers other) d) (r.headers image))
      by true e =
          subst (λ there. IsHereOrGone (header_after me there d)) (sym is ∙ ap r.headers (eqb-true image other e))
          (stays_here k s me other d (subst (Permits k s) (sym same) permits) old)
      by false e = inl (record { view = old; is = is })
  here_served (op.Children d) same old is = inl (record { view = old; is = is })
  here_served (op.Journal other d) same old is = absurd (subst (Permits k s) (sym same) permits)

  here_after : (old : HeaderView) → r.headers image ≡ Some old → IsHereOrGone ((after r me o).headers image)
  here_after old is = where_fenced (λ then. IsHereOrGone (then.headers image)) r me o (inl (record { view = old; is = is })) (here_served o refl old is)

  kept_on : (old : HeaderView) → r.headers image ≡ Some old → IsKeptOrGone old ((after r me o).headers image)
  kept_on old is = by (here_after old is)
    where
      by : IsHereOrGone ((after r me o).headers image) → IsKeptOrGone old ((after r me o).headers image)
      by (inl there) = inl (record {
        view = there.view;
        is = there.is;
        lasts = generation_lasts r me o image old there.view is there.is;
        same = same_but_owner r me o image old there.view is there.is;
      })
      by (inr gone) = inr gone

-- ---- where there is none, one comes only by who drew the id

module _ (s : SiteId) (r : Records) (k : Knowledge) (me : Instance) (image : ℕ) (none : r.headers image ≡ None) where
  none_then : (o : HeaderOp) → (there : Option HeaderView) → there ≡ None → PermitsOnHeader k s image o → (is_drawn k.drawn s image ≡ true → ⊥) → header_after me there o ≡ None
  none_then (header.Create view) None is permits undrawn = absurd (undrawn permits.drawn)
  none_then (header.Create view) (Some h) is permits undrawn = is
  none_then header.Get None is permits undrawn = refl
  none_then (header.SetSize to) None is permits undrawn = refl
  none_then header.Remove None is permits undrawn = refl
  none_then (header.SnapAdd name) None is permits undrawn = refl
  none_then (header.SnapRemove snap) None is permits undrawn = refl
  none_then (header.SnapStatus snap status) None is permits undrawn = refl
  none_then header.LockTake None is permits undrawn = refl
  none_then header.LockDrop None is permits undrawn = refl
  none_then (header.LockBreak owner) None is permits undrawn = refl
  none_then header.Watch None is permits undrawn = refl
  none_then header.Unwatch None is permits undrawn = refl
  none_then header.WatchersGet None is permits undrawn = refl
  none_then (header.Notify kind) None is permits undrawn = refl
  none_then _ None is permits undrawn = elim permits [ ]
  none_then _ (Some h) is permits undrawn = absurd (none-some h (sym is))

  none_served : (o : Op) → Permits k s o → (is_drawn k.drawn s image ≡ true → ⊥) → (after_served r me o).headers image ≡ None
  none_served (op.Directory d) permits undrawn = none
  none_served (op.Children d) permits undrawn = none
  none_served (op.BlockAdd i) permits undrawn = none
  none_served (op.Data other number d) permits undrawn = none
  none_served (op.Map other d) permits undrawn = none
  none_served (op.Header other d) permits undrawn = by (image == other) refl
    where
      by : (b : Bool) → (image == other) ≡ b → cond b (header_after me (r.headers other) d) (r.headers image) ≡ None
      by true e =
          let here : image ≡ other = eqb-true image other e in
          none_then d (r.headers other) (ap r.headers (sym here) ∙ none) (subst (λ n. PermitsOnHeader k s n d) (sym here) permits) undrawn
      by false e = none
  none_served _ permits undrawn = elim permits [ ]

  none_on : (o : Op) → Permits k s o → (is_drawn k.drawn s image ≡ true → ⊥) → (after r me o).headers image ≡ None
  none_on o permits undrawn = where_fenced (λ then. then.headers image ≡ None) r me o none (none_served o permits undrawn)

-- a header that was there once was there at no place without one
had_none : (s : SiteId) (image : ℕ) (since run : List Happening) → HadNoHeader s image (since ++ run) → (records_after s run).headers image ≡ None
had_none s image [] [] had = refl
had_none s image [] (h ∷ run) had = had.0
had_none s image (h ∷ since) run had = had_none s image since run had.1

-- ---- from one moment to the next, and to the one behind it

kept_further : (old : HeaderView) (there then : Option HeaderView) → (first : IsKept old there) → IsKept first.view then → IsKept old then
kept_further old there then first more =
    let one = first.lasts in
    let two = more.lasts in
    record {
      view = more.view;
      is = more.is;
      lasts = omega arith;
      same = λ e.
          let here : first.view.generation ≡ old.generation = omega arith in
          let next : more.view.generation ≡ first.view.generation = omega arith in
          more.same next ∙ ap (λ (h : HeaderView). record h { owner = more.view.owner }) (first.same here);
    }

-- the header that was there, but for its owner
pub record IsSameThere (old : HeaderView) (there : Option HeaderView) : Type 0 where
  pub view : HeaderView
  pub is : there ≡ Some view
  pub same : view ≡ record old { owner = view.owner }

module _ (homes : ℕ → SiteId) (s : SiteId) (image : ℕ) where
  there_behind : (h : Happening) (run : List Happening) → IsDue homes h run → (old : HeaderView) → (records_after s run).headers image ≡ Some old
      → IsKeptOrGone old ((records_behind s (records_after s run) h).headers image)
  there_behind Nothing run due old is = inl (kept_as_it_is old _ is)
  there_behind Waited run due old is = inl (kept_as_it_is old _ is)
  there_behind (Began asked slot) run due old is = inl (kept_as_it_is old _ is)
  there_behind (Refused t line reply) run due old is = inl (kept_as_it_is old _ is)
  there_behind (Did o reply) run due old is = by (same_site o.site s)
    where
      done : IsRightlyDone o run
      done = done_of homes o reply run due

      by : (b : Bool) → IsKeptOrGone old ((cond b (after (records_after s run) o.instance o.op) (records_after s run)).headers image)
      by true = kept_on o.site (records_after s run) done.knows o.instance o.op image done.permits old is
      by false = inl (kept_as_it_is old ((records_after s run).headers image) is)
  there_behind (Trimmed t number other place) run due old is = by (same_site t s)
    where
      by : (b : Bool) → IsKeptOrGone old ((cond b (trimmed other place (records_after s run)) (records_after s run)).headers image)
      by true = inl (kept_as_it_is old ((records_after s run).headers image) is)
      by false = inl (kept_as_it_is old ((records_after s run).headers image) is)
  there_behind (Expired t number other who) run due old is = by (same_site t s)
    where
      by : (b : Bool) → IsKeptOrGone old ((cond b (expired other who (records_after s run)) (records_after s run)).headers image)
      by true = inl (kept_as_it_is old ((records_after s run).headers image) is)
      by false = inl (kept_as_it_is old ((records_after s run).headers image) is)
  there_behind (Heard notice) run due old is = inl (kept_as_it_is old _ is)
  there_behind (Stopped who wanted lost) run due old is = inl (kept_as_it_is old _ is)
  there_behind (Restarted who) run due old is = inl (kept_as_it_is old _ is)

  -- and one that is gone doesn't come back
  none_behind : (h : Happening) (since run : List Happening) → IsDue homes h (since ++ run) → (old : HeaderView) → (records_after s run).headers image ≡ Some old
      → (records_after s (since ++ run)).headers image ≡ None → (records_behind s (records_after s (since ++ run)) h).headers image ≡ None
  none_behind Nothing since run due old was none = none
  none_behind Waited since run due old was none = none
  none_behind (Began asked slot) since run due old was none = none
  none_behind (Refused t line reply) since run due old was none = none
  none_behind (Did o reply) since run due old was none = by (same_site o.site s) refl
    where
      done : IsRightlyDone o (since ++ run)
      done = done_of homes o reply (since ++ run) due

      undrawn : o.site ≡ s → is_drawn done.knows.drawn o.site image ≡ true → ⊥
      undrawn here drawn =
          none-some old
          (sym (had_none s image since run (subst (λ t. HadNoHeader t image (since ++ run)) here (done.new image drawn))) ∙ was)

      by : (b : Bool) → same_site o.site s ≡ b → (cond b (after (records_after s (since ++ run)) o.instance o.op) (records_after s (since ++ run))).headers image ≡ None
      by true here = none_on o.site (records_after s (since ++ run)) done.knows o.instance image none o.op done.permits (undrawn (same_site_is o.site s here))
      by false elsewhere = none
  none_behind (Trimmed t number other place) since run due old was none = by (same_site t s)
    where
      by : (b : Bool) → (cond b (trimmed other place (records_after s (since ++ run))) (records_after s (since ++ run))).headers image ≡ None
      by true = none
      by false = none
  none_behind (Expired t number other who) since run due old was none = by (same_site t s)
    where
      by : (b : Bool) → (cond b (expired other who (records_after s (since ++ run))) (records_after s (since ++ run))).headers image ≡ None
      by true = none
      by false = none
  none_behind (Heard notice) since run due old was none = none
  none_behind (Stopped who wanted lost) since run due old was none = none
  none_behind (Restarted who) since run due old was none = none

  kept_since : (since run : List Happening) → IsRight homes (since ++ run) → (old : HeaderView) → (records_after s run).headers image ≡ Some old
      → IsKeptOrGone old ((records_after s (since ++ run)).headers image)
  kept_since [] run right old is = inl (kept_as_it_is old _ is)
  kept_since (h ∷ since) run right old is = by (kept_since since run right.2 old is)
    where
      on : (first : IsKept old ((records_after s (since ++ run)).headers image)) → IsKeptOrGone first.view ((records_after s (h ∷ since ++ run)).headers image)
          → IsKeptOrGone old ((records_after s (h ∷ since ++ run)).headers image)
      on first (inl more) = inl (kept_further old ((records_after s (since ++ run)).headers image) ((records_after s (h ∷ since ++ run)).headers image) first more)
      on first (inr gone) = inr gone

      by : IsKeptOrGone old ((records_after s (since ++ run)).headers image) → IsKeptOrGone old ((records_after s (h ∷ since ++ run)).headers image)
      by (inl first) = on first (there_behind h (since ++ run) right.1 first.view first.is)
      by (inr gone) = inr (none_behind h since run right.1 old is gone)

  pub header_kept : (later earlier : List Happening) → GoesOn later earlier → IsRight homes later → (old : HeaderView) → (records_after s earlier).headers image ≡ Some old
      → IsKeptOrGone old ((records_after s later).headers image)
  header_kept later earlier goes right old is =
      subst (λ run. IsKeptOrGone old ((records_after s run).headers image)) (sym goes.is) (kept_since goes.since earlier (subst (IsRight homes) goes.is right) old is)

  none_since : (since middle first : List Happening) → GoesOn middle first → IsRight homes (since ++ middle) → (old : HeaderView) → (records_after s first).headers image ≡ Some old
      → (records_after s middle).headers image ≡ None → (records_after s (since ++ middle)).headers image ≡ None
  none_since [] middle first goes right old was none = none
  none_since (h ∷ since) middle first goes right old was none =
      let before = none_since since middle first goes right.2 old was none in
      let all : since ++ middle ≡ (since ++ goes.since) ++ first = ap (λ run. since ++ run) goes.is ∙ sym (append_assoc since goes.since first) in
      subst (λ run. (records_behind s (records_after s run) h).headers image ≡ None) (sym all)
      (none_behind h (since ++ goes.since) first (subst (IsDue homes h) all right.1) old was (subst (λ run. (records_after s run).headers image ≡ None) all before))

  pub none_later : (last middle first : List Happening) → GoesOn last middle → GoesOn middle first → IsRight homes last → (old : HeaderView) → (records_after s first).headers image ≡ Some old
      → (records_after s middle).headers image ≡ None → (records_after s last).headers image ≡ None
  none_later last middle first onward since right old was none =
      subst (λ run. (records_after s run).headers image ≡ None) (sym onward.is) (none_since onward.since middle first since (subst (IsRight homes) onward.is right) old was none)

  -- between two moments at which it has one generation it is one header, but for its owner
  pub header_between : (last middle first : List Happening) → GoesOn last middle → GoesOn middle first → IsRight homes last → IsRight homes middle → (old new : HeaderView)
      → (records_after s first).headers image ≡ Some old → (records_after s last).headers image ≡ Some new → new.generation ≡ old.generation
      → IsSameThere old ((records_after s middle).headers image)
  header_between last middle first onward since right_last right_middle old new was is generation = by (header_kept middle first since right_middle old was)
    where
      gone : (records_after s last).headers image ≡ None → ⊥
      gone none = none-some new (sym none ∙ is)

      at_end : (then : IsKept old ((records_after s middle).headers image)) → IsKept then.view ((records_after s last).headers image) → IsSameThere old ((records_after s middle).headers image)
      at_end then end =
          let same : end.view ≡ new = (let e = sym end.is ∙ is in cc) in
          let equal : end.view.generation ≡ new.generation = ap (λ (h : HeaderView). h.generation) same in
          let one = then.lasts in
          let two = end.lasts in
          let still : then.view.generation ≡ old.generation = omega (arith, one, two, equal, generation) in
          record { view = then.view; is = then.is; same = then.same still }

      on : (then : IsKept old ((records_after s middle).headers image)) → IsKeptOrGone then.view ((records_after s last).headers image) → IsSameThere old ((records_after s middle).headers image)
      on then (inl end) = at_end then end
      on then (inr none) = absurd (gone none)

      by : IsKeptOrGone old ((records_after s middle).headers image) → IsSameThere old ((records_after s middle).headers image)
      by (inl then) = on then (header_kept last middle onward right_last then.view then.is)
      by (inr none) = absurd (gone (none_later last middle first onward since right_last old was none))
