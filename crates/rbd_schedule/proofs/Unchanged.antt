-- What asks again for a lock changes no header and no watcher, and is told what stands there. So an
-- idle round leaves all of them as they were.
use Rattle.std.proofs.Common.{◌≡◌, ℕ, ◌==◌, inl, inr, cond, Bool, true, false, List, [], ◌∷◌, append-nil, is_some, Option, Some, None, refl, sym, ap, ◌∙◌, subst}
use Rattle.std.proofs.lemmas.Bool.{eqb-true, false≢true}
use Rattle.rbd_client.specs.Client.{ClientView}
use Rattle.rbd_kinds.specs.OperationKind.{kind_of}
use Rattle.rbd_kinds.specs.declared.answer.Answer.{Answer}
use Rattle.rbd_kinds.specs.declared.answer.Answer.TheVariants as answer
use Rattle.rbd_kinds.specs.declared.header.HeaderView.{HeaderView}
use Rattle.rbd_kinds.specs.declared.header_op.HeaderOp.TheVariants as header
use Rattle.rbd_kinds.specs.declared.id.Instance.{Instance}
use Rattle.rbd_kinds.specs.declared.id.SiteId.{SiteId}
use Rattle.rbd_kinds.specs.declared.notice.Notice.{Notice}
use Rattle.rbd_kinds.specs.declared.notice.NoticeKind.TheVariants as notice
use Rattle.rbd_kinds.specs.Instances.{same_instance}
use Rattle.rbd_kinds.proofs.Images.{same_site_is}
use Rattle.rbd_machine.specs.Knowledge.{same_site}
use Rattle.rbd_machine.specs.Plan.{Standing}
use Rattle.rbd_lock.specs.Acquire.{op_at_stage, op_of}
use Rattle.rbd_lock.specs.Steps.{lock_take, watchers_get}
use Rattle.rbd_lock.specs.Waiting.{asks_again}
use Rattle.rbd_lock.specs.declared.acquire.Stage.{Stage}
use Rattle.rbd_lock.specs.declared.acquire.Stage.TheVariants as stage
use Rattle.rbd_slots.specs.Session.{held_in}
use Rattle.rbd_site.specs.HeaderStep.{header_after, header_answer, lock_taken}
use Rattle.rbd_site.specs.Log.{SiteLog, log_line, records_of}
use Rattle.rbd_site.specs.Records.{Records, no_records, put}
use Rattle.rbd_site.specs.Step.{after, after_served, answer_served, answer_to, is_fenced}
use Rattle.rbd_site.specs.WatchStep.{watchers_after}
use Rattle.rbd_site.proofs.LogLemmas.{after_all-more}
use Rattle.rbd_watch.specs.Posting.{notice_numbered}
use Rattle.rbd_world.specs.Run.{Did, Happening, Heard, Nothing, OnWay, Operation, lines_at, outcome_of}
use Rattle.rbd_world.specs.Step.{delivered, heard_by, operation_at, polled, with_log_lines}
use Rattle.rbd_world.specs.World.{LivesView, WorldView, client_in, records_in, site_in}
use Rattle.rbd_schedule.specs.Schedule.{goes_on}
use Rattle.rbd_schedule.proofs.Idle.{Asked, AsksAgain, IsIdleBy, IsIdleStep, Told, idle_held}

-- ---- one operation

-- the same headers, and the same watchers
abbrev pub IsAsIn : (base r : Records) → Type 0
IsAsIn base r = ((image : ℕ) → r.headers image ≡ base.headers image) × ((image : ℕ) → r.watchers image ≡ base.watchers image)

pub as_itself : (r : Records) → IsAsIn r r
as_itself r = (λ image. refl, λ image. refl)

pub as_before : (a b c : Records) → IsAsIn a b → IsAsIn b c → IsAsIn a c
as_before a b c one two = (λ image. two.0 image ∙ one.0 image, λ image. two.1 image ∙ one.1 image)

put_same : {T : Type 0} (f : ℕ → T) (place : ℕ) (value : T) → value ≡ f place → (n : ℕ) → put f place value n ≡ f n
put_same {T} f place value same n = by (n == place) refl
  where
    by : (b : Bool) → (n == place) ≡ b → cond b value (f n) ≡ f n
    by true is = same ∙ ap f (sym (eqb-true n place is))
    by false is = refl

-- a lock that another has stays
taken_same : (r : Records) (me : Instance) (h : HeaderView) (o : Option Instance) → h.owner ≡ o → asks_again (kind_of (lock_take 0)) (lock_taken me o) ≡ true
    → Some (record h { owner = cond (is_some o) o (Some me) }) ≡ Some h
taken_same r me h None has is = absurd (false≢true is)
taken_same r me h (Some owner) has is = ap (λ (o : Option Instance). Some (record h { owner = o })) (sym has)

take_same : (r : Records) (me : Instance) (watchers : List Instance) (o : Option HeaderView) → asks_again (kind_of (lock_take 0)) (header_answer me o watchers header.LockTake) ≡ true → header_after me o header.LockTake ≡ o
take_same r me watchers None is = refl
take_same r me watchers (Some h) is = taken_same r me h h.owner refl is

get_same : (me : Instance) (o : Option HeaderView) → header_after me o header.WatchersGet ≡ o
get_same me None = refl
get_same me (Some h) = refl

asking_same : (me : Instance) (o : Option HeaderView) → header_after me o (header.Notify notice.RequestLock) ≡ o
asking_same me None = refl
asking_same me (Some h) = refl

take_watched : (me : Instance) (o : Option HeaderView) (watchers : List Instance) → watchers_after me o watchers header.LockTake ≡ watchers
take_watched me None watchers = refl
take_watched me (Some h) watchers = refl

get_watched : (me : Instance) (o : Option HeaderView) (watchers : List Instance) → watchers_after me o watchers header.WatchersGet ≡ watchers
get_watched me None watchers = refl
get_watched me (Some h) watchers = refl

asking_watched : (me : Instance) (o : Option HeaderView) (watchers : List Instance) → watchers_after me o watchers (header.Notify notice.RequestLock) ≡ watchers
asking_watched me None watchers = refl
asking_watched me (Some h) watchers = refl

served_same : (r : Records) (me : Instance) (at : Stage) (image : ℕ) → asks_again (kind_of (op_at_stage at image)) (answer_served r me (op_at_stage at image)) ≡ true → IsAsIn r (after_served r me (op_at_stage at image))
served_same r me stage.Watching image is = absurd (false≢true is)
served_same r me stage.Taking image is = (
  put_same r.headers image (header_after me (r.headers image) header.LockTake) (take_same r me (r.watchers image) (r.headers image) is),
  put_same r.watchers image (watchers_after me (r.headers image) (r.watchers image) header.LockTake) (take_watched me (r.headers image) (r.watchers image)),
)
served_same r me (stage.Looking owner) image is = (
  put_same r.headers image (header_after me (r.headers image) header.WatchersGet) (get_same me (r.headers image)),
  put_same r.watchers image (watchers_after me (r.headers image) (r.watchers image) header.WatchersGet) (get_watched me (r.headers image) (r.watchers image)),
)
served_same r me stage.Asking image is = (
  put_same r.headers image (header_after me (r.headers image) (header.Notify notice.RequestLock)) (asking_same me (r.headers image)),
  put_same r.watchers image (watchers_after me (r.headers image) (r.watchers image) (header.Notify notice.RequestLock)) (asking_watched me (r.headers image) (r.watchers image)),
)
served_same r me (stage.Fencing owner) image is = absurd (false≢true is)
served_same r me (stage.Breaking owner) image is = absurd (false≢true is)

pub again_same : (r : Records) (me : Instance) (at : Stage) (image : ℕ) → asks_again (kind_of (op_at_stage at image)) (answer_to r me (op_at_stage at image)) ≡ true → IsAsIn r (after r me (op_at_stage at image))
again_same r me at image is = by (is_fenced r me) is
  where
    by : (b : Bool) → asks_again (kind_of (op_at_stage at image)) (cond b answer.Fenced (answer_served r me (op_at_stage at image))) ≡ true → IsAsIn r (cond b r (after_served r me (op_at_stage at image)))
    by true is = as_itself r
    by false is = served_same r me at image is

-- ---- what it was told

abbrev is_held : Answer → Bool
is_held (answer.Held owner) = true
is_held _ = false

abbrev held_by : (other : Instance) → Answer → Instance
held_by other (answer.Held owner) = owner
held_by other _ = other

abbrev is_list : Answer → Bool
is_list (answer.Instances watchers) = true
is_list _ = false

abbrev listed_by : Answer → List Instance
listed_by (answer.Instances watchers) = watchers
listed_by _ = []

-- an instance has the lock that isn't this one
pub record IsOwnerThere (r : Records) (me : Instance) (image : ℕ) (owner : Instance) : Type 0 where
  pub header : HeaderView
  pub there : r.headers image ≡ Some header
  pub has : header.owner ≡ Some owner
  pub other : same_instance owner me ≡ false

-- who is told that the lock is held, is told who has it
pub held_there : (r : Records) (me : Instance) (image : ℕ) (owner : Instance) → answer_to r me (lock_take image) ≡ answer.Held owner → IsOwnerThere r me image owner
held_there r me image owner is = by (is_fenced r me) is
  where
    apart : (h : HeaderView) → r.headers image ≡ Some h → (other : Instance) → h.owner ≡ Some other → (b : Bool) → same_instance other me ≡ b → cond b answer.Done (answer.Held other) ≡ answer.Held owner
        → IsOwnerThere r me image owner
    apart h there other has true same is = absurd (false≢true (ap is_held is))
    apart h there other has false same is =
        let one : other ≡ owner = ap (held_by other) is in
        record { header = h; there = there; has = has ∙ ap Some one; other = subst (λ o. same_instance o me ≡ false) one same }

    had : (h : HeaderView) → r.headers image ≡ Some h → (o : Option Instance) → h.owner ≡ o → lock_taken me o ≡ answer.Held owner → IsOwnerThere r me image owner
    had h there None has is = absurd (false≢true (ap is_held is))
    had h there (Some other) has is = apart h there other has (same_instance other me) refl is

    at : (o : Option HeaderView) → r.headers image ≡ o → header_answer me o (r.watchers image) header.LockTake ≡ answer.Held owner → IsOwnerThere r me image owner
    at None there is = absurd (false≢true (ap is_held is))
    at (Some h) there is = had h there h.owner refl is

    by : (b : Bool) → cond b answer.Fenced (answer_served r me (lock_take image)) ≡ answer.Held owner → IsOwnerThere r me image owner
    by true is = absurd (false≢true (ap is_held is))
    by false is = at (r.headers image) refl is

-- and who looks up the watchers, is told them
pub watchers_there : (r : Records) (me : Instance) (image : ℕ) (watchers : List Instance) → answer_to r me (watchers_get image) ≡ answer.Instances watchers → r.watchers image ≡ watchers
watchers_there r me image watchers is = by (is_fenced r me) is
  where
    at : (o : Option HeaderView) → header_answer me o (r.watchers image) header.WatchersGet ≡ answer.Instances watchers → r.watchers image ≡ watchers
    at None is = absurd (false≢true (ap is_list is))
    at (Some h) is = ap listed_by is

    by : (b : Bool) → cond b answer.Fenced (answer_served r me (watchers_get image)) ≡ answer.Instances watchers → r.watchers image ≡ watchers
    by true is = absurd (false≢true (ap is_list is))
    by false is = at (r.headers image) is

-- ---- a site behind a step

no_lines : (s : SiteLog) → with_log_lines [] s ≡ s
no_lines s = ap (λ log. record s { log = log }) (append-nil s.log)

without_lines : (h : Happening) (s : SiteId) (old new : SiteLog) → lines_at s h ≡ [] → new ≡ with_log_lines (lines_at s h) old → records_of new ≡ records_of old
without_lines h s old new none is = ap records_of (is ∙ ap (λ lines. with_log_lines lines old) none ∙ no_lines old)

-- an operation of one instance, at one site
one_line : (s : SiteId) (o : Operation) (old new : SiteLog) → same_site o.site s ≡ true → new ≡ with_log_lines (lines_at s (Did o None)) old → records_of new ≡ after (records_of old) o.instance o.op
one_line s o old new here is =
    ap records_of (is ∙ ap (λ (b : Bool). with_log_lines (cond b (log_line o.number o.instance o.op o.answer ∷ []) []) old) here)
    ∙ after_all-more no_records old.log (log_line o.number o.instance o.op o.answer)

module _ {R : Type 0} (stands : R → Standing) where
  told_lines : (s : SiteId) (o : Option Notice) (lives : List (LivesView R)) → lines_at s (delivered o lives) ≡ []
  told_lines s None lives = refl
  told_lines s (Some n) lives = by (client_in n.to.session lives)
    where
      by : (c : Option (ClientView R)) → lines_at s (heard_by n c) ≡ []
      by None = refl
      by (Some c) = go (same_instance c.session.instance n.to)
        where
          go : (b : Bool) → lines_at s (cond b (Heard n) Nothing) ≡ []
          go true = refl
          go false = refl

  same_records : (a b : Records) → b ≡ a → IsAsIn a b
  same_records a b same = (λ image. ap (λ (r : Records). r.headers image) same, λ image. ap (λ (r : Records). r.watchers image) same)

  again_records : (old new : WorldView R) (c : ClientView R) (slot : ℕ) (h : Happening) → AsksAgain stands old.sites c slot h → (s : SiteId) → site_in s new.sites ≡ with_log_lines (lines_at s h) (site_in s old.sites)
      → IsAsIn (records_in s old.sites) (records_in s new.sites)
  again_records old new c slot h asks s is = by (same_site asks.on.site s) refl
    where
      o : Operation
      o = operation_at (site_in asks.on.site old.sites) c.session.instance (OnWay asks.line) asks.on.site (op_of asks.on)

      did : site_in s new.sites ≡ with_log_lines (lines_at s (Did o None)) (site_in s old.sites)
      did = is ∙ ap (λ x. with_log_lines (lines_at s x) (site_in s old.sites)) asks.is

      by : (b : Bool) → same_site asks.on.site s ≡ b → IsAsIn (records_in s old.sites) (records_in s new.sites)
      by false other =
          same_records (records_in s old.sites) (records_in s new.sites)
          (without_lines (Did o None) s (site_in s old.sites) (site_in s new.sites) (ap (λ (b : Bool). cond b (log_line o.number o.instance o.op o.answer ∷ []) []) other) did)
      by true here =
          as_before (records_in s old.sites) (after (records_in s old.sites) c.session.instance (op_of asks.on)) (records_in s new.sites)
          (again_same (records_in s old.sites) c.session.instance asks.on.stage asks.on.image
          (subst (λ q. asks_again (kind_of (op_of asks.on)) (answer_to (records_in q old.sites) c.session.instance (op_of asks.on)) ≡ true) (same_site_is asks.on.site s here) asks.again))
          (same_records (after (records_in s old.sites) c.session.instance (op_of asks.on)) (records_in s new.sites) (one_line s o (site_in s old.sites) (site_in s new.sites) here did))

  idle_records : (old new : WorldView R) (c : ClientView R) (slot : ℕ) (h : Happening) → IsIdleBy stands old.sites c slot h → (s : SiteId) → site_in s new.sites ≡ with_log_lines (lines_at s h) (site_in s old.sites)
      → IsAsIn (records_in s old.sites) (records_in s new.sites)
  idle_records old new c slot h (inl is) s site =
      same_records (records_in s old.sites) (records_in s new.sites) (without_lines h s (site_in s old.sites) (site_in s new.sites) (ap (lines_at s) is) site)
  idle_records old new c slot h (inr (inl is)) s site =
      same_records (records_in s old.sites) (records_in s new.sites) (without_lines h s (site_in s old.sites) (site_in s new.sites) (ap (lines_at s) is) site)
  idle_records old new c slot h (inr (inr asks)) s site = again_records old new c slot h asks s site

  pub idle_unchanged : (old new : WorldView R) → IsIdleStep stands old new → (s : SiteId) → IsAsIn (records_in s old.sites) (records_in s new.sites)
  idle_unchanged old new (Told number result step) s =
      same_records (records_in s old.sites) (records_in s new.sites)
      (without_lines (delivered (notice_numbered number old.sites.mail) old.lives) s (site_in s old.sites) (site_in s new.sites) (told_lines s (notice_numbered number old.sites.mail) old.lives) (step.1.sites s))
  idle_unchanged old new (Asked session slot result none step) s = by (client_in session old.lives) refl
    where
      by : (o : Option (ClientView R)) → client_in session old.lives ≡ o → IsAsIn (records_in s old.sites) (records_in s new.sites)
      by None at =
          same_records (records_in s old.sites) (records_in s new.sites)
          (without_lines (polled stands old.sites slot (client_in session old.lives)) s (site_in s old.sites) (site_in s new.sites) (ap (λ o. lines_at s (polled stands old.sites slot o)) at) (step.1.sites s))
      by (Some c) at =
          idle_records old new c slot (polled stands old.sites slot (Some c))
          (idle_held stands old.sites c slot (held_in slot c.session.slots) (ap (λ o. goes_on (outcome_of (polled stands old.sites slot o))) (sym at) ∙ sym (ap goes_on step.0) ∙ none)) s
          (subst (λ o. site_in s new.sites ≡ with_log_lines (lines_at s (polled stands old.sites slot o)) (site_in s old.sites)) at (step.1.sites s))
