-- Who watched an image is among its watchers, unless its watch was ended since.
use Rattle.std.proofs.Common.{◌≡◌, ◌⊎◌, inl, inr, ℕ, ◌==◌, ◌&&◌, ◌||◌, cond, Bool, true, false, List, [], ◌∷◌, ◌++◌, Option, Some, None, refl, sym, ap, ◌∙◌, subst}
use Rattle.std.proofs.lemmas.Bool.{true≢false, and_parts, eqb-true}
use Rattle.std.proofs.lemmas.List.Folds.{list_any-append}
use Rattle.std.proofs.Math.Bool.{and-false, or-false}
use Rattle.rbd_kinds.specs.declared.answer.Answer.{Answer}
use Rattle.rbd_kinds.specs.declared.answer.Answer.TheVariants as answer
use Rattle.rbd_kinds.specs.declared.header.HeaderView.{HeaderView}
use Rattle.rbd_kinds.specs.declared.header_op.HeaderOp.{HeaderOp}
use Rattle.rbd_kinds.specs.declared.header_op.HeaderOp.TheVariants as header
use Rattle.rbd_kinds.specs.declared.id.Instance.{Instance}
use Rattle.rbd_kinds.specs.declared.id.SiteId.{SiteId}
use Rattle.rbd_kinds.specs.declared.operation.Op.{Op}
use Rattle.rbd_kinds.specs.declared.operation.Op.TheVariants as op
use Rattle.rbd_kinds.specs.declared.reply.Reply.{Reply}
use Rattle.rbd_kinds.specs.Images.{is_at, same_site}
use Rattle.rbd_kinds.specs.Instances.{same_instance}
use Rattle.rbd_kinds.proofs.Images.{same_site_is, same_site_itself}
use Rattle.rbd_kinds.proofs.Instances.{same_instance_is, same_instance_itself}
use Rattle.rbd_site.specs.HeaderStep.{header_answer}
use Rattle.rbd_site.specs.Log.{expired, trimmed}
use Rattle.rbd_site.specs.Records.{Records}
use Rattle.rbd_site.specs.Step.{after, after_served, answer_served, answer_to, is_fenced}
use Rattle.rbd_site.specs.WatchStep.{watchers_after}
use Rattle.rbd_watch.specs.Watching.{registered, watches, without}
use Rattle.rbd_watch.proofs.Receivers.{others_stay, sender_left_out}
use Rattle.rbd_world.specs.Run.{Happening, Nothing, Waited, Began, Did, Refused, Trimmed, Expired, Heard, Stopped, Restarted, Operation, records_after}
use Rattle.rbd_world.specs.Sound.{IsDue, IsRight}
use Rattle.rbd_world.specs.Watched.{ends_it, ends_watch, has_watched, is_watch, has_watch_ended, watches_by}
use Rattle.rbd_world.proofs.Runs.{done_of}

-- ---- one list of watchers

or_keeps : (b c : Bool) → b ≡ true → (b || c) ≡ true
or_keeps b c is = ap (λ x. x || c) is

or_gains : (b c : Bool) → c ≡ true → (b || c) ≡ true
or_gains true c is = refl
or_gains false c is = is

registered_itself : (me : Instance) (w : List Instance) → watches me (registered me w) ≡ true
registered_itself me w = by (watches me w) refl
  where
    by : (b : Bool) → watches me w ≡ b → watches me (cond b w (w ++ me ∷ [])) ≡ true
    by true is = is
    by false is =
        list_any-append (same_instance me) w (me ∷ []) ∙ or_gains (watches me w) (same_instance me me || false) (or-false (same_instance me me) ∙ same_instance_itself me)

registered_keeps : (me who : Instance) (w : List Instance) → watches who w ≡ true → watches who (registered me w) ≡ true
registered_keeps me who w is = by (watches me w)
  where
    by : (b : Bool) → watches who (cond b w (w ++ me ∷ [])) ≡ true
    by true = is
    by false = list_any-append (same_instance who) w (me ∷ []) ∙ or_keeps (watches who w) (same_instance who me || false) is

without_keeps : (me who : Instance) (w : List Instance) → same_instance me who ≡ false → watches who w ≡ true → watches who (without me w) ≡ true
without_keeps me who w other is =
    others_stay me who w (λ same. true≢false (sym (same_instance_itself who) ∙ ap (λ i. same_instance i who) same ∙ other)) ∙ is

-- ---- one operation at its site

module _ (s : SiteId) (me who : Instance) (image : ℕ) where
  -- it is a watcher behind it, or its watch was ended by it
  abbrev Stays : (now : List Instance) → Op → Answer → Type 0
  Stays now o a = (watches who now ≡ true) ⊎ (ends_it who s me o a s image ≡ true)

  at_here : (on : ℕ) → (image == on) ≡ true → is_at s on s image ≡ true
  at_here on same = ap (λ b. b && (image == on)) (same_site_itself s) ∙ same

  -- where the header is there
  there_stays : (h : HeaderView) (w : List Instance) (on : ℕ) (o : HeaderOp) → (image == on) ≡ true → watches who w ≡ true → Stays (watchers_after me (Some h) w o) (op.Header on o) (header_answer me (Some h) w o)
  there_stays h w on header.Watch same is = inl (registered_keeps me who w is)
  there_stays h w on header.Remove same is = inr (at_here on same)
  there_stays h w on header.Unwatch same is = by (same_instance me who) refl
    where
      by : (b : Bool) → same_instance me who ≡ b → Stays (without me w) (op.Header on header.Unwatch) answer.Done
      by true mine = inr (ap (λ b. b && same_instance me who) (at_here on same) ∙ mine)
      by false other = inl (without_keeps me who w other is)
  there_stays h w on _ same is = inl is

  header_stays : (there : Option HeaderView) (w : List Instance) (on : ℕ) (o : HeaderOp) → (image == on) ≡ true → watches who w ≡ true → Stays (watchers_after me there w o) (op.Header on o) (header_answer me there w o)
  header_stays None w on o same is = inl is
  header_stays (Some h) w on o same is = there_stays h w on o same is

  served_stays : (r : Records) (o : Op) → watches who (r.watchers image) ≡ true → Stays ((after_served r me o).watchers image) o (answer_served r me o)
  served_stays r (op.Header on o) is = by (image == on) refl
    where
      by : (b : Bool) → (image == on) ≡ b → Stays (cond b (watchers_after me (r.headers on) (r.watchers on) o) (r.watchers image)) (op.Header on o) (header_answer me (r.headers on) (r.watchers on) o)
      by true same = header_stays (r.headers on) (r.watchers on) on o same (subst (λ i. watches who (r.watchers i) ≡ true) (eqb-true image on same) is)
      by false other = inl is
  served_stays r (op.Directory o) is = inl is
  served_stays r (op.Children o) is = inl is
  served_stays r (op.BlockAdd instance) is = inl is
  served_stays r (op.Data on number o) is = inl is
  served_stays r (op.Map on o) is = inl is
  served_stays r _ is = inl is

  stays : (r : Records) (o : Op) → watches who (r.watchers image) ≡ true → Stays ((after r me o).watchers image) o (answer_to r me o)
  stays r o is = by (is_fenced r me)
    where
      by : (b : Bool) → Stays ((cond b r (after_served r me o)).watchers image) o (cond b answer.Fenced (answer_served r me o))
      by true = inl is
      by false = served_stays r o is

  -- a watch that is done makes it one
  header_watched : (there : Option HeaderView) (w : List Instance) (on : ℕ) (o : HeaderOp) → is_watch s (op.Header on o) (header_answer me there w o) s image ≡ true → watches me (watchers_after me there w o) ≡ true
  header_watched (Some h) w on header.Watch is = registered_itself me w
  header_watched None w on header.Watch is = absurd (true≢false (sym is))
  header_watched there w on _ is = absurd (true≢false (sym is))

  served_watched : (r : Records) (o : Op) → is_watch s o (answer_served r me o) s image ≡ true → watches me ((after_served r me o).watchers image) ≡ true
  served_watched r (op.Header on o) is = by (image == on) refl
    where
      at_image : is_watch s (op.Header on o) (header_answer me (r.headers on) (r.watchers on) o) s image ≡ true → (image == on) ≡ true
      at_image is = go o (header_answer me (r.headers on) (r.watchers on) o) is
        where
          go : (o : HeaderOp) (a : Answer) → is_watch s (op.Header on o) a s image ≡ true → (image == on) ≡ true
          go header.Watch answer.Done is = (and_parts (same_site s s) (image == on) is).1
          go header.Watch a is = absurd (true≢false (sym is))
          go o a is = absurd (true≢false (sym is))

      by : (b : Bool) → (image == on) ≡ b → watches me (cond b (watchers_after me (r.headers on) (r.watchers on) o) (r.watchers image)) ≡ true
      by true same = header_watched (r.headers on) (r.watchers on) on o is
      by false other = absurd (true≢false (sym (at_image is) ∙ other))
  served_watched r (op.Directory o) is = absurd (true≢false (sym is))
  served_watched r (op.Children o) is = absurd (true≢false (sym is))
  served_watched r (op.BlockAdd instance) is = absurd (true≢false (sym is))
  served_watched r (op.Data on number o) is = absurd (true≢false (sym is))
  served_watched r (op.Map on o) is = absurd (true≢false (sym is))
  served_watched r _ is = absurd (true≢false (sym is))

  no_watch_fenced : (o : Op) → is_watch s o answer.Fenced s image ≡ true → ⊥
  no_watch_fenced (op.Header on header.Watch) is = true≢false (sym is)
  no_watch_fenced (op.Header on o) is = true≢false (sym is)
  no_watch_fenced o is = true≢false (sym is)

  watched : (r : Records) (o : Op) → is_watch s o (answer_to r me o) s image ≡ true → watches me ((after r me o).watchers image) ≡ true
  watched r o is = by (is_fenced r me) is
    where
      by : (b : Bool) → is_watch s o (cond b answer.Fenced (answer_served r me o)) s image ≡ true → watches me ((cond b r (after_served r me o)).watchers image) ≡ true
      by true is = absurd (no_watch_fenced o is)
      by false is = served_watched r o is

-- ---- along a run

-- at another site it changes nothing, and ends no watch there
is_watch_there : (there : SiteId) (o : Op) (a : Answer) (s : SiteId) (image : ℕ) → is_watch there o a s image ≡ true → same_site s there ≡ true
is_watch_there there (op.Header on header.Watch) answer.Done s image is = (and_parts (same_site s there) (image == on) is).0
is_watch_there there (op.Header on header.Watch) a s image is = absurd (true≢false (sym is))
is_watch_there there (op.Header on o) a s image is = absurd (true≢false (sym is))
is_watch_there there o a s image is = absurd (true≢false (sym is))

module _ (homes : ℕ → SiteId) (who : Instance) (s : SiteId) (image : ℕ) where
  abbrev Watches : List Happening → Type 0
  Watches run = (watches who ((records_after s run).watchers image) ≡ true) ⊎ (has_watch_ended who s image run ≡ true)

  -- one that isn't its watch: what was so stays so, or its watch is ended
  later : (h : Happening) (run : List Happening) → watches_by who s image h ≡ false
      → (watches who ((records_after s run).watchers image) ≡ true → (watches who ((records_after s (h ∷ run)).watchers image) ≡ true) ⊎ (ends_watch who s image h ≡ true)) → Watches run → Watches (h ∷ run)
  later h run none keeps (inl was) = by (keeps was)
    where
      by : (watches who ((records_after s (h ∷ run)).watchers image) ≡ true) ⊎ (ends_watch who s image h ≡ true) → Watches (h ∷ run)
      by (inl is) = inl is
      by (inr ends) = inr (ap (λ b. cond b false (ends_watch who s image h || has_watch_ended who s image run)) none ∙ or_keeps (ends_watch who s image h) (has_watch_ended who s image run) ends)
  later h run none keeps (inr ended) =
      inr (ap (λ b. cond b false (ends_watch who s image h || has_watch_ended who s image run)) none ∙ or_gains (ends_watch who s image h) (has_watch_ended who s image run) ended)

  did_stays : (o : Operation) (reply : Option Reply) (run : List Happening) → o.answer ≡ answer_to (records_after o.site run) o.instance o.op → watches who ((records_after s run).watchers image) ≡ true
      → (watches who ((records_after s (Did o reply ∷ run)).watchers image) ≡ true) ⊎ (ends_watch who s image (Did o reply) ≡ true)
  did_stays o reply run told is = by (same_site o.site s) refl
    where
      by : (b : Bool) → same_site o.site s ≡ b
          → (watches who ((cond b (after (records_after s run) o.instance o.op) (records_after s run)).watchers image) ≡ true) ⊎ (ends_it who o.site o.instance o.op o.answer s image ≡ true)
      by false apart = inl is
      by true here =
          subst (λ t. (watches who ((after (records_after s run) o.instance o.op).watchers image) ≡ true) ⊎ (ends_it who t o.instance o.op o.answer s image ≡ true)) (sym (same_site_is o.site s here))
          (subst (λ a. (watches who ((after (records_after s run) o.instance o.op).watchers image) ≡ true) ⊎ (ends_it who s o.instance o.op a s image ≡ true))
          (sym (told ∙ ap (λ t. answer_to (records_after t run) o.instance o.op) (same_site_is o.site s here)))
          (stays s o.instance who image (records_after s run) o.op is))

  did_watch : (o : Operation) (reply : Option Reply) (run : List Happening) → o.answer ≡ answer_to (records_after o.site run) o.instance o.op → same_instance o.instance who ≡ true
      → is_watch o.site o.op o.answer s image ≡ true → watches who ((records_after s (Did o reply ∷ run)).watchers image) ≡ true
  did_watch o reply run told mine is =
      let same : s ≡ o.site = same_site_is s o.site (is_watch_there o.site o.op o.answer s image is) in
      ap (λ b. watches who ((cond b (after (records_after s run) o.instance o.op) (records_after s run)).watchers image)) (ap (same_site o.site) same ∙ same_site_itself o.site)
      ∙ subst (λ i. watches i ((after (records_after s run) o.instance o.op).watchers image) ≡ true) (same_instance_is o.instance who mine)
      (watched s o.instance who image (records_after s run) o.op
      (subst (λ a. is_watch s o.op a s image ≡ true) (told ∙ ap (λ t. answer_to (records_after t run) o.instance o.op) (sym same)) (subst (λ t. is_watch t o.op o.answer s image ≡ true) (sym same) is)))

  expired_here : (there : SiteId) (number on : ℕ) (i : Instance) (run : List Happening) → watches who ((records_after s run).watchers image) ≡ true
      → (watches who ((records_after s (Expired there number on i ∷ run)).watchers image) ≡ true) ⊎ (ends_watch who s image (Expired there number on i) ≡ true)
  expired_here there number on i run is = by (same_site there s) refl (image == on) refl
    where
      r : Records
      r = records_after s run

      by : (b : Bool) → same_site there s ≡ b → (c : Bool) → (image == on) ≡ c
          → (watches who ((cond b (expired on i r) r).watchers image) ≡ true) ⊎ (ends_watch who s image (Expired there number on i) ≡ true)
      by false apart c at = inl is
      by true here false other = inl (ap (λ x. watches who (cond x (without i (r.watchers on)) (r.watchers image))) other ∙ is)
      by true here true at = go (same_instance i who) refl
        where
          go : (b : Bool) → same_instance i who ≡ b → (watches who ((expired on i r).watchers image) ≡ true) ⊎ (ends_watch who s image (Expired there number on i) ≡ true)
          go true mine =
              inr (ap (λ t. (same_site t there && (image == on)) && same_instance i who) (sym (same_site_is there s here)) ∙ ap (λ b. (b && (image == on)) && same_instance i who) (same_site_itself there)
              ∙ ap (λ b. b && same_instance i who) at ∙ mine)
          go false another =
              inl (ap (λ x. watches who (cond x (without i (r.watchers on)) (r.watchers image))) at
              ∙ without_keeps i who (r.watchers on) another (subst (λ n. watches who (r.watchers n) ≡ true) (eqb-true image on at) is))

  trimmed_here : (there : SiteId) (number on object : ℕ) (run : List Happening) → watches who ((records_after s run).watchers image) ≡ true
      → watches who ((records_after s (Trimmed there number on object ∷ run)).watchers image) ≡ true
  trimmed_here there number on object run is = by (same_site there s)
    where
      by : (b : Bool) → watches who ((cond b (trimmed on object (records_after s run)) (records_after s run)).watchers image) ≡ true
      by true = is
      by false = is

  -- who watches does so on, unless its watch is ended
  pub stays_or_ends : (h : Happening) (run : List Happening) → IsDue homes h run → watches who ((records_after s run).watchers image) ≡ true
      → (watches who ((records_after s (h ∷ run)).watchers image) ≡ true) ⊎ (ends_watch who s image h ≡ true)
  stays_or_ends (Did o reply) run due is = did_stays o reply run (done_of homes o reply run due).answer is
  stays_or_ends (Expired there number on i) run due is = expired_here there number on i run is
  stays_or_ends (Trimmed there number on object) run due is = inl (trimmed_here there number on object run is)
  stays_or_ends Nothing run due is = inl is
  stays_or_ends Waited run due is = inl is
  stays_or_ends (Began asked slot) run due is = inl is
  stays_or_ends (Refused t line told) run due is = inl is
  stays_or_ends (Heard notice) run due is = inl is
  stays_or_ends (Stopped other wanted lost) run due is = inl is
  stays_or_ends (Restarted other) run due is = inl is

  -- and a watch that is done makes it one that watches
  pub watch_makes : (h : Happening) (run : List Happening) → IsDue homes h run → watches_by who s image h ≡ true → watches who ((records_after s (h ∷ run)).watchers image) ≡ true
  watch_makes (Did o reply) run due is =
      let parts = and_parts (same_instance o.instance who) (is_watch o.site o.op o.answer s image) is in did_watch o reply run (done_of homes o reply run due).answer parts.0 parts.1
  watch_makes (Expired there number on i) run due is = absurd (true≢false (sym is))
  watch_makes (Trimmed there number on object) run due is = absurd (true≢false (sym is))
  watch_makes Nothing run due is = absurd (true≢false (sym is))
  watch_makes Waited run due is = absurd (true≢false (sym is))
  watch_makes (Began asked slot) run due is = absurd (true≢false (sym is))
  watch_makes (Refused t line told) run due is = absurd (true≢false (sym is))
  watch_makes (Heard notice) run due is = absurd (true≢false (sym is))
  watch_makes (Stopped other wanted lost) run due is = absurd (true≢false (sym is))
  watch_makes (Restarted other) run due is = absurd (true≢false (sym is))

  -- who has watched watches, unless its watch was ended
  watches_or_ended : (run : List Happening) → IsRight homes run → has_watched who s image run ≡ true → Watches run
  watches_or_ended [] right has = absurd (true≢false (sym has))
  watches_or_ended (h ∷ run) right has = by (watches_by who s image h) refl (watches_or_ended run right.2)
    where
      by : (b : Bool) → watches_by who s image h ≡ b → (has_watched who s image run ≡ true → Watches run) → Watches (h ∷ run)
      by true is before = inl (watch_makes h run right.1 is)
      by false none before = later h run none (stays_or_ends h run right.1) (before (sym (ap (λ b. b || has_watched who s image run) none) ∙ has))

  pub watches_still : (run : List Happening) → IsRight homes run → has_watched who s image run ≡ true → has_watch_ended who s image run ≡ false → watches who ((records_after s run).watchers image) ≡ true
  watches_still run right has unended = by (watches_or_ended run right has)
    where
      by : Watches run → watches who ((records_after s run).watchers image) ≡ true
      by (inl is) = is
      by (inr ended) = absurd (true≢false (sym ended ∙ unended))

-- ---- the other way round: who watches has watched

-- who is among the watchers behind a watch is who watched, or was among them
registered_was : (me who : Instance) (w : List Instance) → watches who (registered me w) ≡ true → (same_instance me who ≡ true) ⊎ (watches who w ≡ true)
registered_was me who w = by (watches me w)
  where
    last : (b c : Bool) → (b || (c || false)) ≡ true → (c ≡ true) ⊎ (b ≡ true)
    last true c is = inr refl
    last false true is = inl refl
    last false false is = absurd (true≢false (sym is))

    by : (b : Bool) → watches who (cond b w (w ++ me ∷ [])) ≡ true → (same_instance me who ≡ true) ⊎ (watches who w ≡ true)
    by true is = inr is
    by false is = go (last (watches who w) (same_instance who me) (sym (list_any-append (same_instance who) w (me ∷ [])) ∙ is))
      where
        go : (same_instance who me ≡ true) ⊎ (watches who w ≡ true) → (same_instance me who ≡ true) ⊎ (watches who w ≡ true)
        go (inr was) = inr was
        go (inl same) = inl (ap (λ i. same_instance i who) (sym (same_instance_is who me same)) ∙ same_instance_itself who)

-- and behind an `unwatch` it is another than who did that
without_was : (me who : Instance) (w : List Instance) → watches who (without me w) ≡ true → (same_instance me who ≡ false) × (watches who w ≡ true)
without_was me who w is = by (same_instance me who) refl
  where
    by : (b : Bool) → same_instance me who ≡ b → (b ≡ false) × (watches who w ≡ true)
    by true same = absurd (true≢false (sym is ∙ ap (λ i. watches i (without me w)) (sym (same_instance_is me who same)) ∙ sender_left_out me w))
    by false other =
        (refl, sym (others_stay me who w (λ same. true≢false (sym (same_instance_itself who) ∙ ap (λ i. same_instance i who) same ∙ other))) ∙ is)

module _ (s : SiteId) (me who : Instance) (image : ℕ) where
  abbrev Came : (before : List Instance) → Op → Answer → Type 0
  Came before o a = ((same_instance me who ≡ true) × (is_watch s o a s image ≡ true)) ⊎ ((watches who before ≡ true) × (ends_it who s me o a s image ≡ false))

  there_came : (h : HeaderView) (w : List Instance) (on : ℕ) (o : HeaderOp) → (image == on) ≡ true → watches who (watchers_after me (Some h) w o) ≡ true → Came w (op.Header on o) (header_answer me (Some h) w o)
  there_came h w on header.Watch same is = by (registered_was me who w is)
    where
      by : (same_instance me who ≡ true) ⊎ (watches who w ≡ true) → Came w (op.Header on header.Watch) answer.Done
      by (inl mine) = inl (mine, at_here s me who image on same)
      by (inr was) = inr (was, refl)
  there_came h w on header.Unwatch same is =
      let was = without_was me who w is in inr (was.1, ap (λ b. b && same_instance me who) (at_here s me who image on same) ∙ was.0)
  there_came h w on header.Remove same is = absurd (true≢false (sym is))
  there_came h w on _ same is = inr (is, refl)

  none_came : (w : List Instance) (on : ℕ) (o : HeaderOp) → watches who w ≡ true → Came w (op.Header on o) (header_answer me None w o)
  none_came w on header.Unwatch is = inr (is, refl)
  none_came w on header.Remove is = inr (is, refl)
  none_came w on o is = inr (is, refl)

  header_came : (there : Option HeaderView) (w : List Instance) (on : ℕ) (o : HeaderOp) → (image == on) ≡ true → watches who (watchers_after me there w o) ≡ true → Came w (op.Header on o) (header_answer me there w o)
  header_came None w on o same is = none_came w on o is
  header_came (Some h) w on o same is = there_came h w on o same is

  -- of another image
  other_came : (w : List Instance) (on : ℕ) (o : HeaderOp) (a : Answer) → (image == on) ≡ false → watches who w ≡ true → Came w (op.Header on o) a
  other_came w on o a other is = inr (is, by o a)
    where
      away : is_at s on s image ≡ false
      away = ap (λ b. same_site s s && b) other ∙ and-false (same_site s s)

      by : (o : HeaderOp) (a : Answer) → ends_it who s me (op.Header on o) a s image ≡ false
      by header.Unwatch answer.Done = ap (λ b. b && same_instance me who) away
      by header.Remove answer.Done = away
      by header.Unwatch a = refl
      by header.Remove a = refl
      by o a = refl

  served_came : (r : Records) (o : Op) → watches who ((after_served r me o).watchers image) ≡ true → Came (r.watchers image) o (answer_served r me o)
  served_came r (op.Header on o) is = by (image == on) refl is
    where
      by : (b : Bool) → (image == on) ≡ b → watches who (cond b (watchers_after me (r.headers on) (r.watchers on) o) (r.watchers image)) ≡ true
          → Came (r.watchers image) (op.Header on o) (header_answer me (r.headers on) (r.watchers on) o)
      by true same is = subst (λ i. Came (r.watchers i) (op.Header on o) (header_answer me (r.headers on) (r.watchers on) o)) (sym (eqb-true image on same)) (header_came (r.headers on) (r.watchers on) on o same is)
      by false other is = other_came (r.watchers image) on o (header_answer me (r.headers on) (r.watchers on) o) other is
  served_came r (op.Directory o) is = inr (is, refl)
  served_came r (op.Children o) is = inr (is, refl)
  served_came r (op.BlockAdd instance) is = inr (is, refl)
  served_came r (op.Data on number o) is = inr (is, refl)
  served_came r (op.Map on o) is = inr (is, refl)
  served_came r _ is = inr (is, refl)

  fenced_ends : (o : Op) → ends_it who s me o answer.Fenced s image ≡ false
  fenced_ends (op.Header on header.Remove) = refl
  fenced_ends (op.Header on header.Unwatch) = refl
  fenced_ends (op.Header on o) = refl
  fenced_ends o = refl

  came : (r : Records) (o : Op) → watches who ((after r me o).watchers image) ≡ true → Came (r.watchers image) o (answer_to r me o)
  came r o = by (is_fenced r me)
    where
      by : (b : Bool) → watches who ((cond b r (after_served r me o)).watchers image) ≡ true → Came (r.watchers image) o (cond b answer.Fenced (answer_served r me o))
      by true is = inr (is, fenced_ends o)
      by false is = served_came r o is

-- an operation at the other site ends no watch here
elsewhere_ends : (who : Instance) (there : SiteId) (me : Instance) (o : Op) (a : Answer) (s : SiteId) (image : ℕ) → same_site s there ≡ false → ends_it who there me o a s image ≡ false
elsewhere_ends who there me (op.Header on header.Unwatch) answer.Done s image apart = ap (λ b. (b && (image == on)) && same_instance me who) apart
elsewhere_ends who there me (op.Header on header.Remove) answer.Done s image apart = ap (λ b. b && (image == on)) apart
elsewhere_ends who there me (op.Header on header.Unwatch) a s image apart = refl
elsewhere_ends who there me (op.Header on header.Remove) a s image apart = refl
elsewhere_ends who there me (op.Header on o) a s image apart = refl
elsewhere_ends who there me o a s image apart = refl

apart_flip : (a b : SiteId) → same_site a b ≡ false → same_site b a ≡ false
apart_flip a b apart = by (same_site b a) refl
  where
    by : (t : Bool) → same_site b a ≡ t → t ≡ false
    by false is = refl
    by true is = absurd (true≢false (sym (same_site_itself a) ∙ ap (same_site a) (sym (same_site_is b a is)) ∙ apart))

module _ (homes : ℕ → SiteId) (who : Instance) (s : SiteId) (image : ℕ) where
  -- it watched by the happening, or it watched before and that ends no watch of its
  abbrev CameBy : Happening → List Happening → Type 0
  CameBy h run = (watches_by who s image h ≡ true) ⊎ ((watches who ((records_after s run).watchers image) ≡ true) × (ends_watch who s image h ≡ false))

  did_came : (o : Operation) (reply : Option Reply) (run : List Happening) → o.answer ≡ answer_to (records_after o.site run) o.instance o.op → watches who ((records_after s (Did o reply ∷ run)).watchers image) ≡ true → CameBy (Did o reply) run
  did_came o reply run told is = by (same_site o.site s) refl is
    where
      by : (b : Bool) → same_site o.site s ≡ b → watches who ((cond b (after (records_after s run) o.instance o.op) (records_after s run)).watchers image) ≡ true → CameBy (Did o reply) run
      by false apart is = inr (is, elsewhere_ends who o.site o.instance o.op o.answer s image (apart_flip o.site s apart))
      by true here is =
          let same = same_site_is o.site s here in
          subst (λ t. ((same_instance o.instance who && is_watch t o.op o.answer s image) ≡ true) ⊎ ((watches who ((records_after s run).watchers image) ≡ true) × (ends_it who t o.instance o.op o.answer s image ≡ false))) (sym same)
          (subst (λ a. ((same_instance o.instance who && is_watch s o.op a s image) ≡ true) ⊎ ((watches who ((records_after s run).watchers image) ≡ true) × (ends_it who s o.instance o.op a s image ≡ false)))
          (sym (told ∙ ap (λ t. answer_to (records_after t run) o.instance o.op) same)) (both (came s o.instance who image (records_after s run) o.op is)))
        where
          both : Came s o.instance who image ((records_after s run).watchers image) o.op (answer_to (records_after s run) o.instance o.op)
              → ((same_instance o.instance who && is_watch s o.op (answer_to (records_after s run) o.instance o.op) s image) ≡ true)
              ⊎ ((watches who ((records_after s run).watchers image) ≡ true) × (ends_it who s o.instance o.op (answer_to (records_after s run) o.instance o.op) s image ≡ false))
          both (inl (mine, watch)) = inl (ap (λ b. b && is_watch s o.op (answer_to (records_after s run) o.instance o.op) s image) mine ∙ watch)
          both (inr was) = inr was

  expired_came : (there : SiteId) (number on : ℕ) (i : Instance) (run : List Happening) → watches who ((records_after s (Expired there number on i ∷ run)).watchers image) ≡ true → CameBy (Expired there number on i) run
  expired_came there number on i run is = by (same_site there s) refl (image == on) refl is
    where
      r : Records
      r = records_after s run

      by : (b : Bool) → same_site there s ≡ b → (c : Bool) → (image == on) ≡ c → watches who ((cond b (expired on i r) r).watchers image) ≡ true → CameBy (Expired there number on i) run
      by false apart c at is = inr (is, ap (λ b. (b && (image == on)) && same_instance i who) (apart_flip there s apart))
      by true here false other is =
          inr (
            sym (ap (λ x. watches who (cond x (without i (r.watchers on)) (r.watchers image))) other) ∙ is,
            ap (λ b. (same_site s there && b) && same_instance i who) other ∙ ap (λ b. b && same_instance i who) (and-false (same_site s there)),
          )
      by true here true at is =
          let was = without_was i who (r.watchers on) (sym (ap (λ x. watches who (cond x (without i (r.watchers on)) (r.watchers image))) at) ∙ is) in
          inr (subst (λ n. watches who (r.watchers n) ≡ true) (sym (eqb-true image on at)) was.1, ap (λ b. is_at there on s image && b) was.0 ∙ and-false (is_at there on s image))

  came_by : (h : Happening) (run : List Happening) → IsDue homes h run → watches who ((records_after s (h ∷ run)).watchers image) ≡ true → CameBy h run
  came_by (Did o reply) run due is = did_came o reply run (done_of homes o reply run due).answer is
  came_by (Expired there number on i) run due is = expired_came there number on i run is
  came_by (Trimmed there number on object) run due is = by (same_site there s) is
    where
      by : (b : Bool) → watches who ((cond b (trimmed on object (records_after s run)) (records_after s run)).watchers image) ≡ true → CameBy (Trimmed there number on object) run
      by true is = inr (is, refl)
      by false is = inr (is, refl)
  came_by Nothing run due is = inr (is, refl)
  came_by Waited run due is = inr (is, refl)
  came_by (Began asked slot) run due is = inr (is, refl)
  came_by (Refused t line told) run due is = inr (is, refl)
  came_by (Heard notice) run due is = inr (is, refl)
  came_by (Stopped other wanted lost) run due is = inr (is, refl)
  came_by (Restarted other) run due is = inr (is, refl)

  pub watcher_has_watched : (run : List Happening) → IsRight homes run → watches who ((records_after s run).watchers image) ≡ true → (has_watched who s image run ≡ true) × (has_watch_ended who s image run ≡ false)
  watcher_has_watched [] right is = absurd (true≢false (sym is))
  watcher_has_watched (h ∷ run) right is = by (came_by h run right.1 is) (watcher_has_watched run right.2)
    where
      unended : (b c d : Bool) → c ≡ false → d ≡ false → cond b false (c || d) ≡ false
      unended true c d one two = refl
      unended false c d one two = ap (λ x. x || d) one ∙ two

      by : CameBy h run → (watches who ((records_after s run).watchers image) ≡ true → (has_watched who s image run ≡ true) × (has_watch_ended who s image run ≡ false))
          → ((watches_by who s image h || has_watched who s image run) ≡ true) × (cond (watches_by who s image h) false (ends_watch who s image h || has_watch_ended who s image run) ≡ false)
      by (inl now) before = (ap (λ b. b || has_watched who s image run) now, ap (λ b. cond b false (ends_watch who s image h || has_watch_ended who s image run)) now)
      by (inr (was, none)) before =
          let had = before was in (or_gains (watches_by who s image h) (has_watched who s image run) had.0, unended (watches_by who s image h) (ends_watch who s image h) (has_watch_ended who s image run) none had.1)
