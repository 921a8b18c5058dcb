-- An owner of a lock keeps its watch of the image: it watches it, unless the store ended that.
use Rattle.std.proofs.Common.{◌≡◌, ◌⊎◌, inl, inr, ℕ, ◌==◌, ◌&&◌, ◌||◌, not, cond, Bool, true, false, List, [], ◌∷◌, Option, Some, None, refl, sym, ap, ◌∙◌, subst}
use Rattle.std.proofs.lemmas.Bool.{true≢false, and_parts, eqb-true}
use Rattle.std.proofs.lemmas.Option.{none-some}
use Rattle.rbd_kinds.specs.declared.answer.Answer.{Answer}
use Rattle.rbd_kinds.specs.declared.answer.Answer.TheVariants as answer
use Rattle.rbd_kinds.specs.declared.header.HeaderView.{HeaderView}
use Rattle.rbd_kinds.specs.declared.header_op.HeaderOp.{HeaderOp}
use Rattle.rbd_kinds.specs.declared.header_op.HeaderOp.TheVariants as header
use Rattle.rbd_kinds.specs.declared.id.Instance.{Instance}
use Rattle.rbd_kinds.specs.declared.id.SiteId.{SiteId}
use Rattle.rbd_kinds.specs.declared.operation.Op.{Op}
use Rattle.rbd_kinds.specs.declared.operation.Op.TheVariants as op
use Rattle.rbd_kinds.specs.declared.reply.Reply.{Reply}
use Rattle.rbd_kinds.specs.Images.{is_at, same_site}
use Rattle.rbd_kinds.specs.Instances.{same_instance}
use Rattle.rbd_kinds.proofs.Images.{same_site_is, same_site_itself}
use Rattle.rbd_machine.specs.Knowledge.{Knowledge, is_drawn}
use Rattle.rbd_machine.specs.Permits.{Permits}
use Rattle.rbd_lock.specs.Steps.{lock_take}
use Rattle.rbd_lock.specs.declared.release.Release.{Release}
use Rattle.rbd_site.specs.HeaderStep.{header_after, header_answer}
use Rattle.rbd_site.specs.Log.{expired, trimmed}
use Rattle.rbd_site.specs.Records.{Records}
use Rattle.rbd_site.specs.Step.{after, after_served, answer_served, answer_to, is_fenced}
use Rattle.rbd_watch.specs.Watching.{watches}
use Rattle.rbd_world.specs.LetGo.{release_of}
use Rattle.rbd_world.specs.Past.{HadNoHeader}
use Rattle.rbd_world.specs.Run.{Doer, Itself, OnWay, House, AfterStop, Happening, Nothing, Waited, Began, Did, Refused, Trimmed, Expired, Heard, Stopped, Restarted, Operation, records_after}
use Rattle.rbd_world.specs.Sound.{IsRightlyDone, IsDue, IsNextOf, IsOf, IsRight, RecallsBy}
use Rattle.rbd_world.specs.Watched.{TakesBehindWatch, ends_it, ends_own, ends_watch, expires, has_watched, is_watch, keeps_watch, unwatches_by, watch_expired, watches_by}
use Rattle.rbd_world.specs.Ways.{IsNextOfRelease}
use Rattle.rbd_catalog.specs.Follows.{TakesNoLock}
use Rattle.rbd_world.proofs.OwnersWatch.{Takes, owned_before, owner_at, owner_of}
use Rattle.rbd_world.proofs.Runs.{done_of}
use Rattle.rbd_world.proofs.Sent.{sent_rightly}
use Rattle.rbd_world.proofs.StillWatching.{stays_or_ends, watch_makes}
use Rattle.rbd_world.proofs.TakesNone.{none_behind_watch, release_takes_none, walks_take_none}
use Rattle.rbd_world.proofs.Unowned.{unwatches_unowned}
use Rattle.rbd_world.proofs.Watching.{ends_own_is, keeps_on}

-- ---- who takes a lock keeps its watch

pub takes_watched : (homes : ℕ → SiteId) (o : Operation) (run : List Happening) → IsRight homes run → IsRightlyDone o run → TakesBehindWatch o.instance o.site o.op run
takes_watched homes o run right done = by o.by done.next done.recalls done.whose
  where
    by : (d : Doer) → IsNextOf d o.instance o.site o.op run → RecallsBy d o.site o.op done.knows run → IsOf d o.instance o.site o.op run → TakesBehindWatch o.instance o.site o.op run
    by (Itself line) next recalls whose =
        none_behind_watch o.instance o.site o.op run
        (walks_take_none recalls.seat recalls.begun.asked.command recalls.start recalls.feds _ o.site recalls.why o.op recalls.next recalls.plan recalls.walk)
    by (OnWay line) next recalls whose = next.1
    by House next recalls whose = none_behind_watch o.instance o.site o.op run (house (release_of o.instance run) next)
      where
        house : (x : Option Release) → IsNextOfRelease x o.site o.op → TakesNoLock o.op
        house None next = subst TakesNoLock (sym next.is) tt
        house (Some x) next = subst TakesNoLock (sym next.1) (release_takes_none x)
    by (AfterStop slot) next recalls whose =
        (sent_rightly homes o.instance.session run right).takes slot (record { instance = o.instance; site = o.site; op = o.op }) whose

-- who keeps a watch has watched
pub kept_was_watched : (who : Instance) (s : SiteId) (image : ℕ) (run : List Happening) → keeps_watch who s image run ≡ true → has_watched who s image run ≡ true
kept_was_watched who s image [] keeps = absurd (true≢false (sym keeps))
kept_was_watched who s image (h ∷ run) keeps = by (watches_by who s image h) (unwatches_by who s image h) keeps (kept_was_watched who s image run)
  where
    by : (b c : Bool) → (b || (not c && keeps_watch who s image run)) ≡ true → (keeps_watch who s image run ≡ true → has_watched who s image run ≡ true) → (b || has_watched who s image run) ≡ true
    by true c keeps rest = refl
    by false false keeps rest = rest keeps
    by false true keeps rest = absurd (true≢false (sym keeps))

-- ---- an owner keeps its watch

module _ (homes : ℕ → SiteId) (s : SiteId) (image : ℕ) (who : Instance) where
  ends_none : (h : Happening) (run : List Happening) → IsRight homes (h ∷ run) → owner_at (records_after s run) image ≡ Some who → unwatches_by who s image h ≡ false
  ends_none (Did o reply) run right owns = by (ends_own who o.site o.instance o.op o.answer s image) refl
    where
      by : (b : Bool) → ends_own who o.site o.instance o.op o.answer s image ≡ b → b ≡ false
      by false is = refl
      by true is =
          let own = ends_own_is who o.site o.instance o.op o.answer s image is in
          absurd
          (unwatches_unowned homes o reply run image right own.is
          (subst (λ t. owner_at (records_after t run) image ≡ Some o.instance) (sym own.here) (owns ∙ ap Some (sym own.mine))))
  ends_none Nothing run right owns = refl
  ends_none Waited run right owns = refl
  ends_none (Began asked slot) run right owns = refl
  ends_none (Refused t line told) run right owns = refl
  ends_none (Trimmed there number on object) run right owns = refl
  ends_none (Expired there number on i) run right owns = refl
  ends_none (Heard notice) run right owns = refl
  ends_none (Stopped other wanted lost) run right owns = refl
  ends_none (Restarted other) run right owns = refl

  take_ends_none : (o : Operation) (reply : Option Reply) → o.op ≡ lock_take image → unwatches_by who s image (Did o reply) ≡ false
  take_ends_none o reply takes = ap (λ x. ends_own who o.site o.instance x o.answer s image) takes

  pub owner_keeps : (run : List Happening) → IsRight homes run → owner_at (records_after s run) image ≡ Some who → keeps_watch who s image run ≡ true
  owner_keeps [] right owns = absurd (none-some who owns)
  owner_keeps (h ∷ run) right owns = by (owned_before homes s image who run h right.1 owns) (owner_keeps run right.2)
    where
      by : (owner_at (records_after s run) image ≡ Some who) ⊎ Takes who s image h run → (owner_at (records_after s run) image ≡ Some who → keeps_watch who s image run ≡ true) → keeps_watch who s image (h ∷ run) ≡ true
      by (inl had) before = keeps_on who s image h run (ends_none h run right had) (before had)
      by (inr took) before =
          subst (λ x. keeps_watch who s image (x ∷ run) ≡ true) (sym took.is)
          (keeps_on who s image (Did took.o took.reply) run (take_ends_none took.o took.reply took.takes)
          (subst (λ i. keeps_watch i s image run ≡ true) took.mine
          (subst (λ t. keeps_watch took.o.instance t image run ≡ true) took.here (takes_watched homes took.o run right.2 took.done image took.takes))))

-- ---- a header that is there was never removed

headless : (s : SiteId) (image : ℕ) (run : List Happening) → HadNoHeader s image run → (records_after s run).headers image ≡ None
headless s image [] had = refl
headless s image (h ∷ run) had = had.0

-- an image that had no header wasn't watched
watch_of_none : (s : SiteId) (r : Records) (me : Instance) (o : Op) (image : ℕ) → r.headers image ≡ None → is_watch s o (answer_to r me o) s image ≡ true → ⊥
watch_of_none s r me o image none is = by (is_fenced r me) is
  where
    fenced : (o : Op) → is_watch s o answer.Fenced s image ≡ true → ⊥
    fenced (op.Header on header.Watch) is = true≢false (sym is)
    fenced (op.Header on o) is = true≢false (sym is)
    fenced o is = true≢false (sym is)

    at_image : (on : ℕ) (a : Answer) → is_watch s (op.Header on header.Watch) a s image ≡ true → (image == on) ≡ true
    at_image on answer.Done is = (and_parts (same_site s s) (image == on) is).1
    at_image on a is = absurd (true≢false (sym is))

    served : (o : Op) → is_watch s o (answer_served r me o) s image ≡ true → ⊥
    served (op.Header on header.Watch) is =
        let same : image ≡ on = eqb-true image on (at_image on (header_answer me (r.headers on) (r.watchers on) header.Watch) is) in
        true≢false (sym (ap (λ h. is_watch s (op.Header on header.Watch) (header_answer me h (r.watchers on) header.Watch) s image) (sym none ∙ ap (λ i. r.headers i) same) ∙ is))
    served (op.Header on o) is = true≢false (sym is)
    served (op.Directory o) is = true≢false (sym is)
    served (op.Children o) is = true≢false (sym is)
    served (op.BlockAdd instance) is = true≢false (sym is)
    served (op.Data on number o) is = true≢false (sym is)
    served (op.Map on o) is = true≢false (sym is)
    served _ is = true≢false (sym is)

    by : (b : Bool) → is_watch s o (cond b answer.Fenced (answer_served r me o)) s image ≡ true → ⊥
    by true is = fenced o is
    by false is = served o is

-- an operation that ends a watch, and isn't an own `unwatch`, leaves no header
gone_behind : (who : Instance) (s : SiteId) (r : Records) (me : Instance) (o : Op) (image : ℕ) → ends_it who s me o (answer_to r me o) s image ≡ true → ends_own who s me o (answer_to r me o) s image ≡ false
    → (after r me o).headers image ≡ None
gone_behind who s r me o image = by (is_fenced r me)
  where
    fenced : (o : Op) → ends_it who s me o answer.Fenced s image ≡ true → ⊥
    fenced (op.Header on header.Remove) ends = true≢false (sym ends)
    fenced (op.Header on header.Unwatch) ends = true≢false (sym ends)
    fenced (op.Header on o) ends = true≢false (sym ends)
    fenced o ends = true≢false (sym ends)

    at_image : (on : ℕ) (a : Answer) → ends_it who s me (op.Header on header.Remove) a s image ≡ true → (image == on) ≡ true
    at_image on answer.Done ends = (and_parts (same_site s s) (image == on) ends).1
    at_image on a ends = absurd (true≢false (sym ends))

    removed : (there : Option HeaderView) → header_after me there header.Remove ≡ None
    removed None = refl
    removed (Some h) = refl

    served : (o : Op) → ends_it who s me o (answer_served r me o) s image ≡ true → ends_own who s me o (answer_served r me o) s image ≡ false → (after_served r me o).headers image ≡ None
    served (op.Header on header.Remove) ends own =
        ap (λ b. cond b (header_after me (r.headers on) header.Remove) (r.headers image)) (at_image on (header_answer me (r.headers on) (r.watchers on) header.Remove) ends) ∙ removed (r.headers on)
    served (op.Header on header.Unwatch) ends own = absurd (true≢false (sym ends ∙ own))
    served (op.Header on o) ends own = absurd (true≢false (sym ends))
    served (op.Directory o) ends own = absurd (true≢false (sym ends))
    served (op.Children o) ends own = absurd (true≢false (sym ends))
    served (op.BlockAdd instance) ends own = absurd (true≢false (sym ends))
    served (op.Data on number o) ends own = absurd (true≢false (sym ends))
    served (op.Map on o) ends own = absurd (true≢false (sym ends))
    served _ ends own = absurd (true≢false (sym ends))

    by : (b : Bool) → ends_it who s me o (cond b answer.Fenced (answer_served r me o)) s image ≡ true → ends_own who s me o (cond b answer.Fenced (answer_served r me o)) s image ≡ false
        → (cond b r (after_served r me o)).headers image ≡ None
    by true ends own = absurd (fenced o ends)
    by false ends own = served o ends own

ends_there : (who : Instance) (me : Instance) (at : SiteId) (o : Op) (a : Answer) (s : SiteId) (image : ℕ) → ends_it who at me o a s image ≡ true → same_site s at ≡ true
ends_there who me at (op.Header on header.Remove) answer.Done s image ends = (and_parts (same_site s at) (image == on) ends).0
ends_there who me at (op.Header on header.Unwatch) answer.Done s image ends =
    (and_parts (same_site s at) (image == on) (and_parts (is_at at on s image) (same_instance me who) ends).0).0
ends_there who me at (op.Header on header.Remove) a s image ends = absurd (true≢false (sym ends))
ends_there who me at (op.Header on header.Unwatch) a s image ends = absurd (true≢false (sym ends))
ends_there who me at (op.Header on o) a s image ends = absurd (true≢false (sym ends))
ends_there who me at o a s image ends = absurd (true≢false (sym ends))

module _ (homes : ℕ → SiteId) (s : SiteId) (image : ℕ) (who : Instance) where
  never_watched : (run : List Happening) → IsRight homes run → HadNoHeader s image run → has_watched who s image run ≡ true → ⊥
  never_watched [] right had has = true≢false (sym has)
  never_watched (h ∷ run) right had has = by h right.1 has (never_watched run right.2 had.1)
    where
      by : (h : Happening) → IsDue homes h run → (watches_by who s image h || has_watched who s image run) ≡ true → (has_watched who s image run ≡ true → ⊥) → ⊥
      by (Did o reply) due has rest = go (same_instance o.instance who && is_watch o.site o.op o.answer s image) refl has
        where
          watched : is_watch o.site o.op o.answer s image ≡ true → ⊥
          watched is =
              let here : s ≡ o.site = same_site_is s o.site (is_watch_at o.site o.op o.answer is) in
              watch_of_none s (records_after s run) o.instance o.op image (headless s image run had.1)
              (subst (λ a. is_watch s o.op a s image ≡ true) ((done_of homes o reply run due).answer ∙ ap (λ t. answer_to (records_after t run) o.instance o.op) (sym here)) (subst (λ t. is_watch t o.op o.answer s image ≡ true) (sym here) is))
            where
              is_watch_at : (there : SiteId) (o : Op) (a : Answer) → is_watch there o a s image ≡ true → same_site s there ≡ true
              is_watch_at there (op.Header on header.Watch) answer.Done is = (and_parts (same_site s there) (image == on) is).0
              is_watch_at there (op.Header on header.Watch) a is = absurd (true≢false (sym is))
              is_watch_at there (op.Header on o) a is = absurd (true≢false (sym is))
              is_watch_at there o a is = absurd (true≢false (sym is))

          go : (b : Bool) → (same_instance o.instance who && is_watch o.site o.op o.answer s image) ≡ b → (b || has_watched who s image run) ≡ true → ⊥
          go true is has = watched (and_parts (same_instance o.instance who) (is_watch o.site o.op o.answer s image) is).1
          go false none has = rest has
      by Nothing due has rest = rest has
      by Waited due has rest = rest has
      by (Began asked slot) due has rest = rest has
      by (Refused t line told) due has rest = rest has
      by (Trimmed there number on object) due has rest = rest has
      by (Expired there number on i) due has rest = rest has
      by (Heard notice) due has rest = rest has
      by (Stopped other wanted lost) due has rest = rest has
      by (Restarted other) due has rest = rest has

  -- a header that wasn't there was made of an id that had none so far
  made_new : (run : List Happening) (r : Records) (me : Instance) (k : Knowledge) (t : SiteId) (o : Op) (h : HeaderView) → Permits k t o → ((i : ℕ) → is_drawn k.drawn t i ≡ true → HadNoHeader t i run)
      → r.headers image ≡ None → (after r me o).headers image ≡ Some h → HadNoHeader t image run
  made_new run r me k t o h permits new none is = by (is_fenced r me) is
    where
      on_header : (on : ℕ) (o : HeaderOp) → Permits k t (op.Header on o) → header_after me None o ≡ Some h → HadNoHeader t on run
      on_header on (header.Create view) permits is = new on permits.drawn
      on_header on o permits is = absurd (none-some h is)

      at : (on : ℕ) (o : HeaderOp) → Permits k t (op.Header on o) → (b : Bool) → (image == on) ≡ b → cond b (header_after me (r.headers on) o) (r.headers image) ≡ Some h → HadNoHeader t image run
      at on o permits false other is = absurd (none-some h (sym none ∙ is))
      at on o permits true same is =
          let e : image ≡ on = eqb-true image on same in
          subst (λ i. HadNoHeader t i run) (sym e) (on_header on o permits (ap (λ g. header_after me g o) (sym none ∙ ap (λ i. r.headers i) e) ∙ is))

      served : (o : Op) → Permits k t o → (after_served r me o).headers image ≡ Some h → HadNoHeader t image run
      served (op.Header on o) permits is = at on o permits (image == on) refl is
      served (op.Directory o) permits is = absurd (none-some h (sym none ∙ is))
      served (op.Children o) permits is = absurd (none-some h (sym none ∙ is))
      served (op.BlockAdd instance) permits is = absurd (none-some h (sym none ∙ is))
      served (op.Data on number o) permits is = absurd (none-some h (sym none ∙ is))
      served (op.Map on o) permits is = absurd (none-some h (sym none ∙ is))
      served _ permits is = absurd (none-some h (sym none ∙ is))

      by : (b : Bool) → (cond b r (after_served r me o)).headers image ≡ Some h → HadNoHeader t image run
      by true is = absurd (none-some h (sym none ∙ is))
      by false is = served o permits is

  abbrev headers_at : List Happening → Option HeaderView
  headers_at run = (records_after s run).headers image

  born : (h : Happening) (run : List Happening) (x : HeaderView) → IsDue homes h run → headers_at run ≡ None → headers_at (h ∷ run) ≡ Some x → HadNoHeader s image run
  born (Did o reply) run x due none is = go (same_site o.site s) refl is
    where
      go : (b : Bool) → same_site o.site s ≡ b → (cond b (after (records_after s run) o.instance o.op) (records_after s run)).headers image ≡ Some x → HadNoHeader s image run
      go false apart is = absurd (none-some x (sym none ∙ is))
      go true here is =
          let done = done_of homes o reply run due in
          let same = same_site_is o.site s here in
          subst (λ t. HadNoHeader t image run) same
          (made_new run (records_after s run) o.instance done.knows o.site o.op x done.permits done.new none is)
  born (Trimmed there number on object) run x due none is = go (same_site there s) is
    where
      go : (b : Bool) → (cond b (trimmed on object (records_after s run)) (records_after s run)).headers image ≡ Some x → HadNoHeader s image run
      go true is = absurd (none-some x (sym none ∙ is))
      go false is = absurd (none-some x (sym none ∙ is))
  born (Expired there number on i) run x due none is = go (same_site there s) is
    where
      go : (b : Bool) → (cond b (expired on i (records_after s run)) (records_after s run)).headers image ≡ Some x → HadNoHeader s image run
      go true is = absurd (none-some x (sym none ∙ is))
      go false is = absurd (none-some x (sym none ∙ is))
  born Nothing run x due none is = absurd (none-some x (sym none ∙ is))
  born Waited run x due none is = absurd (none-some x (sym none ∙ is))
  born (Began asked slot) run x due none is = absurd (none-some x (sym none ∙ is))
  born (Refused t line told) run x due none is = absurd (none-some x (sym none ∙ is))
  born (Heard notice) run x due none is = absurd (none-some x (sym none ∙ is))
  born (Stopped other wanted lost) run x due none is = absurd (none-some x (sym none ∙ is))
  born (Restarted other) run x due none is = absurd (none-some x (sym none ∙ is))

  -- ---- who keeps its watch watches

  -- a watch that ends while the header stays, and not by itself, is ended by the store
  store_ends : (h : Happening) (run : List Happening) (x : HeaderView) → IsDue homes h run → ends_watch who s image h ≡ true → unwatches_by who s image h ≡ false → headers_at (h ∷ run) ≡ Some x → expires who s image h ≡ true
  store_ends (Did o reply) run x due ends own is =
      let here : s ≡ o.site = same_site_is s o.site (ends_there who o.instance o.site o.op o.answer s image ends) in
      let told : o.answer ≡ answer_to (records_after s run) o.instance o.op = (done_of homes o reply run due).answer ∙ ap (λ t. answer_to (records_after t run) o.instance o.op) (sym here) in
      absurd
      (none-some x
      (sym (gone_behind who s (records_after s run) o.instance o.op image
      (subst (λ a. ends_it who s o.instance o.op a s image ≡ true) told (subst (λ t. ends_it who t o.instance o.op o.answer s image ≡ true) (sym here) ends))
      (subst (λ a. ends_own who s o.instance o.op a s image ≡ false) told (subst (λ t. ends_own who t o.instance o.op o.answer s image ≡ false) (sym here) own)))
      ∙ sym (ap (λ b. (cond b (after (records_after s run) o.instance o.op) (records_after s run)).headers image) (ap (same_site o.site) here ∙ same_site_itself o.site)) ∙ is))
  store_ends (Expired there number on i) run x due ends own is = ends
  store_ends (Trimmed there number on object) run x due ends own is = ends
  store_ends Nothing run x due ends own is = ends
  store_ends Waited run x due ends own is = ends
  store_ends (Began asked slot) run x due ends own is = ends
  store_ends (Refused t line told) run x due ends own is = ends
  store_ends (Heard notice) run x due ends own is = ends
  store_ends (Stopped other wanted lost) run x due ends own is = ends
  store_ends (Restarted other) run x due ends own is = ends

  abbrev WatchesOrExpired : List Happening → Type 0
  WatchesOrExpired run = (watches who ((records_after s run).watchers image) ≡ true) ⊎ (watch_expired who s image run ≡ true)

  or_true : (b : Bool) → (b || true) ≡ true
  or_true true = refl
  or_true false = refl

  kept_watches : (run : List Happening) → IsRight homes run → keeps_watch who s image run ≡ true → (x : HeaderView) → headers_at run ≡ Some x → WatchesOrExpired run
  kept_watches [] right keeps x is = absurd (true≢false (sym keeps))
  kept_watches (h ∷ run) right keeps x is = by (watches_by who s image h) refl (λ kept y at. kept_watches run right.2 kept y at)
    where
      further : watches_by who s image h ≡ false → unwatches_by who s image h ≡ false → WatchesOrExpired run → WatchesOrExpired (h ∷ run)
      further none own (inr ended) =
          inr (ap (λ b. cond b false (expires who s image h || watch_expired who s image run)) none ∙ ap (λ b. expires who s image h || b) ended ∙ or_true (expires who s image h))
      further none own (inl was) = go (stays_or_ends homes who s image h run right.1 was)
        where
          go : (watches who ((records_after s (h ∷ run)).watchers image) ≡ true) ⊎ (ends_watch who s image h ≡ true) → WatchesOrExpired (h ∷ run)
          go (inl still) = inl still
          go (inr ends) =
              inr (ap (λ b. cond b false (expires who s image h || watch_expired who s image run)) none ∙ ap (λ b. b || watch_expired who s image run) (store_ends h run x right.1 ends own is))

      there : (keeps_watch who s image run ≡ true → (y : HeaderView) → headers_at run ≡ Some y → WatchesOrExpired run) → keeps_watch who s image run ≡ true → (g : Option HeaderView) → headers_at run ≡ g → WatchesOrExpired run
      there before kept None none = absurd (never_watched run right.2 (born h run x right.1 none is) (kept_was_watched who s image run kept))
      there before kept (Some y) at = before kept y at

      by : (b : Bool) → watches_by who s image h ≡ b → (keeps_watch who s image run ≡ true → (y : HeaderView) → headers_at run ≡ Some y → WatchesOrExpired run) → WatchesOrExpired (h ∷ run)
      by true watched before = inl (watch_makes homes who s image h run right.1 watched)
      by false none before =
          let parts = and_parts (not (unwatches_by who s image h)) (keeps_watch who s image run) (sym (ap (λ b. b || (not (unwatches_by who s image h) && keeps_watch who s image run)) none) ∙ keeps) in
          further none (not_true (unwatches_by who s image h) parts.0) (there before parts.1 (headers_at run) refl)
        where
          not_true : (b : Bool) → not b ≡ true → b ≡ false
          not_true true is = absurd (true≢false (sym is))
          not_true false is = refl

  -- The owner of a lock watches the image, unless the store ended that since it watched last.
  pub owner_watches : (run : List Happening) → IsRight homes run → (x : HeaderView) → headers_at run ≡ Some x → x.owner ≡ Some who → WatchesOrExpired run
  owner_watches run right x is owns = kept_watches run right (owner_keeps homes s image who run right (ap owner_of is ∙ owns)) x is
