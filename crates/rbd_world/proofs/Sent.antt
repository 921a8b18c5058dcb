-- What a stopped life may still do it may to the end: it takes a lock only behind a watch that it
-- keeps, and where it ends its watch of an image the lock isn't its own.
use Rattle.std.proofs.Common.{◌≡◌, ◌⊎◌, inl, inr, ℕ, ◌<◌, ◌≤◌, ◌==◌, cond, Bool, true, false, List, [], ◌∷◌, Option, Some, None, refl, sym, ap, ◌∙◌, subst, arith}
use Rattle.std.proofs.lemmas.Bool.{true≢false, eqb-true}
use Rattle.std.proofs.lemmas.Option.{none-some, same_Some}
use Rattle.rbd_session.specs.Close.{unwatch}
use Rattle.rbd_kinds.specs.declared.answer.Answer.TheVariants as answer
use Rattle.rbd_kinds.specs.declared.header.HeaderView.{HeaderView}
use Rattle.rbd_kinds.specs.declared.header_op.HeaderOp.TheVariants as header
use Rattle.rbd_kinds.specs.declared.id.Instance.{Instance}
use Rattle.rbd_kinds.specs.declared.id.SiteId.{SiteId}
use Rattle.rbd_kinds.specs.declared.operation.Op.{Op}
use Rattle.rbd_kinds.specs.declared.operation.Op.TheVariants as op
use Rattle.rbd_kinds.specs.declared.reply.Reply.{Reply}
use Rattle.rbd_lock.specs.Steps.{lock_take}
use Rattle.rbd_slots.specs.Session.{held_in}
use Rattle.rbd_stands.specs.Owned.{HasLock}
use Rattle.rbd_world.specs.Late.{is_late}
use Rattle.rbd_world.specs.Run.{Doer, Itself, OnWay, House, AfterStop, Happening, Nothing, Waited, Began, Did, Refused, Trimmed, Expired, Heard, Stopped, Restarted, Life, Operation, Sent, comes_of, life_after, records_after, sent_after, sent_of}
use Rattle.rbd_world.specs.Sound.{IsDue, IsOf, IsRight, IsRunning, SendsRightly}
use Rattle.rbd_world.specs.Watched.{TakesBehindWatch, keeps_watch, unwatches_by}
use Rattle.rbd_world.proofs.Alive.{only_lives_that_run_act}
use Rattle.rbd_world.proofs.OwnersWatch.{Takes, none_taken, owned_before, owner_at, owner_of, takes_did}
use Rattle.rbd_world.proofs.Runs.{done_of}
use Rattle.rbd_world.proofs.Watching.{ends_own_is, keeps_on}

-- ---- who was stopped doesn't run

abbrev IsPast : Instance → (session : ℕ) → Life → Type 0
IsPast who session l = (who.session ≡ session) × (who.life ≤ l.number) × (l.runs ≡ true → who.life < l.number)

sent_is : (who : Instance) (o : Option (SiteId × Op)) (x : Sent) → sent_of who o ≡ Some x → (who ≡ x.instance) × (o ≡ Some (x.site, x.op))
sent_is who None x is = absurd (none-some x is)
sent_is who (Some p) x is = let same = same_Some _ x is in (ap (λ (y : Sent). y.instance) same, ap (λ (y : Sent). Some (y.site, y.op)) same)

-- of a sent operation that didn't come
not_come : (b : Bool) (before : Option Sent) (x : Sent) → cond b None before ≡ Some x → before ≡ Some x
not_come true before x is = absurd (none-some x is)
not_come false before x is = is

module _ (homes : ℕ → SiteId) (session : ℕ) where
  sent_past : (slot : ℕ) (x : Sent) (run : List Happening) → IsRight homes run → sent_after session slot run ≡ Some x → IsPast x.instance session (life_after session run)
  sent_past slot x [] right is = absurd (none-some x is)
  sent_past slot x (h ∷ run) (standing, due, right) is = by h due is (sent_past slot x run right)
    where
      by : (h : Happening) → IsDue homes h run → sent_after session slot (h ∷ run) ≡ Some x → (sent_after session slot run ≡ Some x → IsPast x.instance session (life_after session run))
          → IsPast x.instance session (life_after session (h ∷ run))
      by (Stopped who wanted lost) due is before = go (who.session == session) refl is
        where
          stopped : who.session ≡ session → sent_of who (held_in slot wanted) ≡ Some x → IsPast x.instance session (record { number = (life_after session run).number; runs = false })
          stopped mine sent =
              let same = (sent_is who (held_in slot wanted) x sent).0 in
              let life : (life_after session run).number ≡ x.instance.life =
              ap (λ (l : Life). l.number) (ap (λ m. life_after m run) (sym mine) ∙ due.runs) ∙ ap (λ (i : Instance). i.life) same in
              (ap (λ (i : Instance). i.session) (sym same) ∙ mine, omega (arith, life), λ runs. absurd (true≢false (sym runs)))

          go : (b : Bool) → (who.session == session) ≡ b → cond b (sent_of who (held_in slot wanted)) (sent_after session slot run) ≡ Some x
              → IsPast x.instance session (cond b (record { number = (life_after session run).number; runs = false }) (life_after session run))
          go true mine is = stopped (eqb-true who.session session mine) is
          go false other is = before is
      by (Restarted who) due is before = go (who.session == session) refl
        where
          was : IsPast x.instance session (life_after session run)
          was = before is

          restarted : who.session ≡ session → IsPast x.instance session (record { number = who.life; runs = true })
          restarted mine =
              let number : (life_after session run).number ≡ due.latest = ap (λ (l : Life). l.number) (ap (λ m. life_after m run) (sym mine) ∙ due.stopped) in
              let most = was.1 in
              let next = due.next in
              (was.0, omega (arith, number, most, next), λ runs. omega (arith, number, most, next))

          go : (b : Bool) → (who.session == session) ≡ b → IsPast x.instance session (cond b (record { number = who.life; runs = true }) (life_after session run))
          go true mine = restarted (eqb-true who.session session mine)
          go false other = was
      by (Did o reply) due is before = before (not_come (comes_of session slot o.instance o.by) (sent_after session slot run) x is)
      by Nothing due is before = before is
      by Waited due is before = before is
      by (Began asked at) due is before = before is
      by (Refused t line told) due is before = before is
      by (Trimmed t number image object) due is before = before is
      by (Expired t number image who) due is before = before is
      by (Heard notice) due is before = before is

  pub sent_stopped : (slot : ℕ) (x : Sent) (run : List Happening) → IsRight homes run → sent_after session slot run ≡ Some x → IsRunning x.instance run → ⊥
  sent_stopped slot x run right is runs =
      let past = sent_past slot x run right is in
      let life : life_after session run ≡ record { number = x.instance.life; runs = true } = ap (λ m. life_after m run) (sym past.0) ∙ runs in
      let less = past.2 (ap (λ (l : Life). l.runs) life) in
      let number = ap (λ (l : Life). l.number) life in
      omega (arith, less, number)

  pub sent_whose : (slot : ℕ) (x : Sent) (run : List Happening) → IsRight homes run → sent_after session slot run ≡ Some x → x.instance.session ≡ session
  sent_whose slot x run right is = (sent_past slot x run right is).0

-- ---- who does something

-- an instance that was stopped does nothing but what it sent
pub late_of : (homes : ℕ → SiteId) (session slot : ℕ) (x : Sent) (o : Operation) (reply : Option Reply) (run : List Happening) → IsRight homes (Did o reply ∷ run) → sent_after session slot run ≡ Some x
    → o.instance ≡ x.instance → (at : ℕ) × (sent_after session at run ≡ Some (record { instance = o.instance; site = o.site; op = o.op }))
late_of homes session slot x o reply run right sent mine = by o.by refl (done_of homes o reply run right.1).whose
  where
    runs_not : is_late o.by ≡ false → ⊥
    runs_not itself = sent_stopped homes session slot x run right.2 sent (subst (λ i. IsRunning i run) mine (only_lives_that_run_act homes o reply run right itself))

    by : (d : Doer) → o.by ≡ d → IsOf d o.instance o.site o.op run → (at : ℕ) × (sent_after session at run ≡ Some (record { instance = o.instance; site = o.site; op = o.op }))
    by (Itself line) is whose = absurd (runs_not (ap is_late is))
    by (OnWay line) is whose = absurd (runs_not (ap is_late is))
    by House is whose = absurd (runs_not (ap is_late is))
    by (AfterStop at) is whose =
        (at, ap (λ m. sent_after m at run) (sym (ap (λ (i : Instance). i.session) mine ∙ sent_whose homes session slot x run right.2 sent)) ∙ whose)

-- ---- what it sent

module _ (homes : ℕ → SiteId) (session : ℕ) where
  pub record SentRightly (run : List Happening) : Type 0 where
    pub takes : (slot : ℕ) (x : Sent) → sent_after session slot run ≡ Some x → TakesBehindWatch x.instance x.site x.op run
    pub unowned : (slot : ℕ) (x : Sent) (image : ℕ) → sent_after session slot run ≡ Some x → x.op ≡ unwatch image → owner_at (records_after x.site run) image ≡ Some x.instance → ⊥
    pub lone : (slot there : ℕ) (x y : Sent) (image : ℕ) → sent_after session slot run ≡ Some x → sent_after session there run ≡ Some y → x.op ≡ unwatch image → y.op ≡ lock_take image → x.site ≡ y.site → ⊥

  -- what isn't an operation, and stops no life of the session, changes nothing of it
  quietly : (h : Happening) (run : List Happening) → IsDue homes h run → ((slot : ℕ) → sent_after session slot (h ∷ run) ≡ sent_after session slot run)
      → ((who : Instance) (s : SiteId) (image : ℕ) → unwatches_by who s image h ≡ false) → ((who : Instance) (s : SiteId) (image : ℕ) → Takes who s image h run → ⊥) → SentRightly run → SentRightly (h ∷ run)
  quietly h run due same none takes was = record {
    takes = λ slot x is image asks. keeps_on x.instance x.site image h run (none x.instance x.site image) (was.takes slot x (sym (same slot) ∙ is) image asks);
    unowned = λ slot x image is asks owns. go slot x image (sym (same slot) ∙ is) asks (owned_before homes x.site image x.instance run h due owns);
    lone = λ slot there x y image one other. was.lone slot there x y image (sym (same slot) ∙ one) (sym (same there) ∙ other);
  }
    where
      go : (slot : ℕ) (x : Sent) (image : ℕ) → sent_after session slot run ≡ Some x → x.op ≡ unwatch image → (owner_at (records_after x.site run) image ≡ Some x.instance) ⊎ Takes x.instance x.site image h run → ⊥
      go slot x image is asks (inl had) = was.unowned slot x image is asks had
      go slot x image is asks (inr took) = takes x.instance x.site image took

  has_lock : (r : SiteId) (run : List Happening) (image : ℕ) (who : Instance) → owner_at (records_after r run) image ≡ Some who → HasLock image who (records_after r run)
  has_lock r run image who is = by ((records_after r run).headers image) refl is
    where
      by : (o : Option HeaderView) → (records_after r run).headers image ≡ o → owner_of o ≡ Some who → HasLock image who (records_after r run)
      by None at is = absurd (none-some who is)
      by (Some h) at is = record { header = h; there = at; owner = is }

  stopped_rightly : (who : Instance) (wanted : List (Option (SiteId × Op))) (lost : List ℕ) (run : List Happening) → (who.session == session) ≡ true → SendsRightly who wanted run → SentRightly (Stopped who wanted lost ∷ run)
  stopped_rightly who wanted lost run mine sends = record {
    takes = λ slot x is image asks.
        let sent = sent slot x is in subst (λ i. keeps_watch i x.site image run ≡ true) sent.0 (sends.takes slot x.site x.op sent.1 image asks);
    unowned = λ slot x image is asks owns.
        let sent = sent slot x is in
        sends.unowned slot x.site image (sent.1 ∙ ap (λ o. Some (x.site, o)) asks) (has_lock x.site run image who (owns ∙ ap Some (sym sent.0)));
    lone = λ slot there x y image one other ends takes same.
        let sent_one = sent slot x one in
        let sent_other = sent there y other in
        sends.lone slot there x.site image (sent_one.1 ∙ ap (λ o. Some (x.site, o)) ends) (sent_other.1 ∙ ap (λ o. Some (y.site, o)) takes ∙ ap (λ t. Some (t, lock_take image)) (sym same));
  }
    where
      sent : (slot : ℕ) (x : Sent) → sent_after session slot (Stopped who wanted lost ∷ run) ≡ Some x → (who ≡ x.instance) × (held_in slot wanted ≡ Some (x.site, x.op))
      sent slot x is = sent_is who (held_in slot wanted) x (ap (λ b. cond b (sent_of who (held_in slot wanted)) (sent_after session slot run)) (sym mine) ∙ is)

  did_rightly : (o : Operation) (reply : Option Reply) (run : List Happening) → IsRight homes (Did o reply ∷ run) → SentRightly run → SentRightly (Did o reply ∷ run)
  did_rightly o reply run right was = record {
    takes = λ slot x is image asks.
        let before = not_come (comes_of session slot o.instance o.by) (sent_after session slot run) x is in
        keeps_on x.instance x.site image (Did o reply) run (ends_none slot x image before asks (unwatches_by x.instance x.site image (Did o reply)) refl) (was.takes slot x before image asks);
    unowned = λ slot x image is asks owns.
        let before = not_come (comes_of session slot o.instance o.by) (sent_after session slot run) x is in
        go slot x image before asks (owned_before homes x.site image x.instance run (Did o reply) right.1 owns);
    lone = λ slot there x y image one other.
        was.lone slot there x y image (not_come (comes_of session slot o.instance o.by) (sent_after session slot run) x one) (not_come (comes_of session there o.instance o.by) (sent_after session there run) y other);
  }
    where
      ends_none : (slot : ℕ) (x : Sent) (image : ℕ) → sent_after session slot run ≡ Some x → x.op ≡ lock_take image → (b : Bool) → unwatches_by x.instance x.site image (Did o reply) ≡ b → b ≡ false
      ends_none slot x image sent asks false is = refl
      ends_none slot x image sent asks true is =
          let own = ends_own_is x.instance o.site o.instance o.op o.answer x.site image is in
          let late = late_of homes session slot x o reply run right sent own.mine in
          absurd (was.lone late.0 slot (record { instance = o.instance; site = o.site; op = o.op }) x image late.1 sent own.is asks own.here)

      go : (slot : ℕ) (x : Sent) (image : ℕ) → sent_after session slot run ≡ Some x → x.op ≡ unwatch image → (owner_at (records_after x.site run) image ≡ Some x.instance) ⊎ Takes x.instance x.site image (Did o reply) run → ⊥
      go slot x image sent asks (inl had) = was.unowned slot x image sent asks had
      go slot x image sent asks (inr took) =
          let takes = takes_did x.instance x.site image o reply run took in
          let late = late_of homes session slot x o reply run right sent takes.1 in
          was.lone slot late.0 x (record { instance = o.instance; site = o.site; op = o.op }) image sent late.1 asks takes.0 (sym takes.2)

  pub sent_rightly : (run : List Happening) → IsRight homes run → SentRightly run
  sent_rightly [] right = record {
    takes = λ slot x is. absurd (none-some x is);
    unowned = λ slot x image is. absurd (none-some x is);
    lone = λ slot there x y image is. absurd (none-some x is);
  }
  sent_rightly (h ∷ run) right = by h right (sent_rightly run right.2)
    where
      by : (h : Happening) → IsRight homes (h ∷ run) → SentRightly run → SentRightly (h ∷ run)
      by (Did o reply) right was = did_rightly o reply run right was
      by (Stopped who wanted lost) right was = go (who.session == session) refl
        where
          go : (b : Bool) → (who.session == session) ≡ b → SentRightly (Stopped who wanted lost ∷ run)
          go true mine = stopped_rightly who wanted lost run mine right.1.sends
          go false other =
              quietly (Stopped who wanted lost) run right.1 (λ slot. ap (λ b. cond b (sent_of who (held_in slot wanted)) (sent_after session slot run)) other) (λ i s image. refl)
              (none_taken (Stopped who wanted lost) refl run) was
      by Nothing right was = quietly Nothing run right.1 (λ slot. refl) (λ i s image. refl) (none_taken Nothing refl run) was
      by Waited right was = quietly Waited run right.1 (λ slot. refl) (λ i s image. refl) (none_taken Waited refl run) was
      by (Began asked at) right was = quietly (Began asked at) run right.1 (λ slot. refl) (λ i s image. refl) (none_taken (Began asked at) refl run) was
      by (Refused t line told) right was = quietly (Refused t line told) run right.1 (λ slot. refl) (λ i s image. refl) (none_taken (Refused t line told) refl run) was
      by (Trimmed t number image object) right was = quietly (Trimmed t number image object) run right.1 (λ slot. refl) (λ i s at. refl) (none_taken (Trimmed t number image object) refl run) was
      by (Expired t number image who) right was = quietly (Expired t number image who) run right.1 (λ slot. refl) (λ i s at. refl) (none_taken (Expired t number image who) refl run) was
      by (Heard notice) right was = quietly (Heard notice) run right.1 (λ slot. refl) (λ i s image. refl) (none_taken (Heard notice) refl run) was
      by (Restarted who) right was = quietly (Restarted who) run right.1 (λ slot. refl) (λ i s image. refl) (none_taken (Restarted who) refl run) was
