-- No slot is held above the highest that was given.
use Rattle.std.proofs.Common.{◌≡◌, ℕ, ◌<◌, ◌≤◌, ◌==◌, ◌||◌, ◌⊎◌, inl, inr, cond, nat_lt, Bool, true, false, is_some, Option, Some, None, refl, sym, ap, ◌∙◌, subst, arith}
use Rattle.std.proofs.lemmas.Bool.{cases_eq, cases_lt, le-ltb, lt-ltb, ltb-false, eqb-true, or_parts, true≢false}
use Rattle.rbd_client.specs.declared.actor.Actor.{Actor}
use Rattle.rbd_client.specs.declared.actor.Actor.TheVariants as actor
use Rattle.rbd_client.specs.Actor.{actor_at}
use Rattle.rbd_client.specs.Client.{ClientView}
use Rattle.rbd_client.specs.Feeding.{IsFedBy}
use Rattle.rbd_client.specs.Sound.{IsSoundClient}
use Rattle.rbd_commands.specs.declared.command.Command.{Command}
use Rattle.rbd_kinds.specs.declared.id.SiteId.{SiteId}
use Rattle.rbd_kinds.specs.declared.machine.Fed.{Fed}
use Rattle.rbd_kinds.specs.declared.operation.Op.{Op}
use Rattle.rbd_kinds.specs.declared.reply.Reply.{Reply}
use Rattle.rbd_machine.specs.Plan.{Standing}
use Rattle.rbd_slots.specs.Session.{OfRunning, SessionView, held_in}
use Rattle.rbd_slots.specs.declared.running.Occupant.{Occupant}
use Rattle.rbd_slots.specs.declared.running.Running.{Running}
use Rattle.rbd_world.specs.declared.event.Event.{Event}
use Rattle.rbd_world.specs.declared.event.Event.TheVariants as event
use Rattle.rbd_world.specs.declared.event.Outcome.{Outcome}
use Rattle.rbd_world.specs.declared.event.Outcome.TheVariants as outcome
use Rattle.rbd_world.specs.Run.{Asked, Happening, Nothing, Waited, Began, Did, Refused, Trimmed, Expired, Heard, Stopped, Restarted, outcome_of}
use Rattle.rbd_world.specs.Sound.{IsSoundWorld, held_of}
use Rattle.rbd_world.specs.Step.{Becomes, BecomesOf, IsWorldStep, RunsOn, begins_of, happening, is_begun, submitted}
use Rattle.rbd_world.specs.World.{WorldView, client_in, running_of, session_in, session_of_client}
use Rattle.rbd_schedule.specs.Playing.{IsNoStart, highest_after}
use Rattle.rbd_schedule.specs.Schedule.{is_held}
use Rattle.rbd_schedule.proofs.Clients.{client_then, no_way}
use Rattle.rbd_schedule.proofs.Quiet.{line_held}
use Rattle.rbd_site.proofs.OneChange.{none_from_test}

module _ {R : Type 0} where
  held_tells : (session slot : ℕ) (w : WorldView R) → is_held session slot w ≡ is_some (held_of slot (session_in session w.lives))
  held_tells session slot w = line_held (held_of slot (session_in session w.lives))

  not_held : (session slot : ℕ) (w : WorldView R) → is_held session slot w ≡ false → held_of slot (session_in session w.lives) ≡ None
  not_held session slot w is = none_from_test (held_of slot (session_in session w.lives)) (sym (held_tells session slot w) ∙ is)

  is_free : (session slot : ℕ) (w : WorldView R) → held_of slot (session_in session w.lives) ≡ None → is_held session slot w ≡ false
  is_free session slot w is = held_tells session slot w ∙ ap is_some is

nobody_fed : {R : Type 0} (P : Running R → Type 0) (o : Option (Occupant R)) → o ≡ None → OfRunning P o → ⊥
nobody_fed P None is fed = fed
nobody_fed P (Some x) is fed = true≢false (ap is_some is)

-- the highest slot that was given is no lower than before
no_lower : (highest : ℕ) (result : Outcome) (other : ℕ) → highest_after highest result < other → highest < other
no_lower highest (outcome.Submitted slot) other above = by (cases_lt highest slot)
  where
    by : (highest < slot) ⊎ (slot ≤ highest) → highest < other
    by (inl less) = let is = subst (λ c. cond c slot highest < other) (lt-ltb highest slot less) above in omega (arith, is, less)
    by (inr more) = subst (λ c. cond c slot highest < other) (le-ltb highest slot more) above
no_lower highest _ other above = above

module _ {R : Type 0} (stands : R → Standing) where
  -- ---- by another event than a submission a slot that is free stays free

  fed_free : (slot : ℕ) (s : SiteId) (o : Op) (f : Fed) (result : Option Reply) (a b : ClientView R) (who : Actor) → actor_at stands slot a ≡ who → IsSoundClient stands a → held_in slot a.session.slots ≡ None
      → IsFedBy stands slot s o f result a b who → held_in slot b.session.slots ≡ None
  fed_free slot s o f result a b actor.Nobody at sound none fed = absurd fed
  fed_free slot s o f result a b actor.Request at sound none fed = absurd (nobody_fed _ (held_in slot a.session.slots) none fed.fed)
  fed_free slot s o f result a b (actor.Way x) at sound none fed = absurd (no_way stands a slot sound none x at)
  fed_free slot s o f result a b (actor.Release r) at sound none fed = ap (λ (c : SessionView R). held_in slot c.slots) fed.session ∙ none

  same_free : (a b : ClientView R) → b ≡ a → (other : ℕ) → held_in other a.session.slots ≡ None → held_in other b.session.slots ≡ None
  same_free a b same other free = ap (λ (c : ClientView R). held_in other c.session.slots) same ∙ free

  poll_free : (session slot : ℕ) (h : Happening) (a b : ClientView R) → IsSoundClient stands a → Becomes stands (event.Poll session slot) h a b → (other : ℕ) → held_in other a.session.slots ≡ None → held_in other b.session.slots ≡ None
  poll_free session slot (Did o reply) a b sound becomes other free = by (cases_eq other slot)
    where
      by : (other ≡ slot) ⊎ (other ≡ slot → ⊥) → held_in other b.session.slots ≡ None
      by (inl same) =
          subst (λ n. held_in n b.session.slots ≡ None) (sym same)
          (fed_free slot o.site o.op _ reply a b (actor_at stands slot a) refl sound (subst (λ n. held_in n a.session.slots ≡ None) same free) becomes.fed)
      by (inr is) = becomes.slots other is ∙ free
  poll_free session slot (Refused s line reply) a b sound becomes other free = by (cases_eq other slot)
    where
      by : (other ≡ slot) ⊎ (other ≡ slot → ⊥) → held_in other b.session.slots ≡ None
      by (inl same) = subst (λ n. held_in n b.session.slots ≡ None) (sym same) becomes.held
      by (inr is) = becomes.slots other is ∙ free
  poll_free session slot Nothing a b sound becomes other free = same_free a b becomes other free
  poll_free session slot Waited a b sound becomes other free = same_free a b becomes other free
  poll_free session slot (Began asked low) a b sound becomes other free = same_free a b becomes other free
  poll_free session slot (Trimmed s number image object) a b sound becomes other free = same_free a b becomes other free
  poll_free session slot (Expired s number image who) a b sound becomes other free = same_free a b becomes other free
  poll_free session slot (Heard notice) a b sound becomes other free = same_free a b becomes other free
  poll_free session slot (Stopped who wanted lost) a b sound becomes other free = same_free a b becomes other free
  poll_free session slot (Restarted who) a b sound becomes other free = same_free a b becomes other free

  deliver_free : (number : ℕ) (h : Happening) (a b : ClientView R) → Becomes stands (event.Deliver number) h a b → (other : ℕ) → held_in other a.session.slots ≡ None → held_in other b.session.slots ≡ None
  deliver_free number (Heard notice) a b becomes other free = ap (λ (c : SessionView R). held_in other c.slots) becomes.session ∙ free
  deliver_free number Nothing a b becomes other free = same_free a b becomes other free
  deliver_free number Waited a b becomes other free = same_free a b becomes other free
  deliver_free number (Began asked low) a b becomes other free = same_free a b becomes other free
  deliver_free number (Did o reply) a b becomes other free = same_free a b becomes other free
  deliver_free number (Refused s line reply) a b becomes other free = same_free a b becomes other free
  deliver_free number (Trimmed s k image object) a b becomes other free = same_free a b becomes other free
  deliver_free number (Expired s k image who) a b becomes other free = same_free a b becomes other free
  deliver_free number (Stopped who wanted lost) a b becomes other free = same_free a b becomes other free
  deliver_free number (Restarted who) a b becomes other free = same_free a b becomes other free

  stays_free : (e : Event) (h : Happening) (a b : ClientView R) → IsNoStart e → IsSoundClient stands a → Becomes stands e h a b → (other : ℕ) → held_in other a.session.slots ≡ None → held_in other b.session.slots ≡ None
  stays_free (event.Submit session line c) h a b none sound becomes other free = absurd none
  stays_free (event.Poll session slot) h a b none sound becomes other free = poll_free session slot h a b sound becomes other free
  stays_free (event.Deliver number) h a b none sound becomes other free = deliver_free number h a b becomes other free
  stays_free (event.Expire session s image) h a b none sound becomes other free = same_free a b becomes other free
  stays_free (event.Stop session) h a b none sound becomes other free = same_free a b becomes other free
  stays_free (event.Late session slot) h a b none sound becomes other free = same_free a b becomes other free
  stays_free (event.Restart session) h a b none sound becomes other free = same_free a b becomes other free
  stays_free (event.Trim s image object) h a b none sound becomes other free = same_free a b becomes other free

  abbrev pub AreSoundIf : Option (ClientView R) → Type 0
  AreSoundIf o = (c : ClientView R) → o ≡ Some c → IsSoundClient stands c

  free_of : (e : Event) (h : Happening) (old new : Option (ClientView R)) → IsNoStart e → AreSoundIf old → BecomesOf stands e h old new → (other : ℕ) → held_of other (session_of_client old) ≡ None → held_of other (session_of_client new) ≡ None
  free_of e h None new none sound becomes other free = ap (λ o. held_of other (session_of_client o)) becomes
  free_of e h (Some a) None none sound becomes other free = absurd becomes
  free_of e h (Some a) (Some b) none sound becomes other free = stays_free e h a b none (sound a refl) becomes other free

  runs_free : (e : Event) (h : Happening) (home : SiteId) (old new : Option (ClientView R)) → IsNoStart e → AreSoundIf old → RunsOn stands e h home old new
      → (other : ℕ) → held_of other (session_of_client old) ≡ None → held_of other (session_of_client new) ≡ None
  runs_free e (Stopped who wanted lost) home old new none sound runs other free = ap (λ o. held_of other (session_of_client o)) runs
  runs_free e (Restarted who) home old None none sound runs other free = refl
  runs_free e (Restarted who) home old (Some b) none sound runs other free = runs.slots other
  runs_free e Nothing home old new none sound runs other free = free_of e Nothing old new none sound runs other free
  runs_free e Waited home old new none sound runs other free = free_of e Waited old new none sound runs other free
  runs_free e (Began asked low) home old new none sound runs other free = free_of e (Began asked low) old new none sound runs other free
  runs_free e (Did o reply) home old new none sound runs other free = free_of e (Did o reply) old new none sound runs other free
  runs_free e (Refused s line reply) home old new none sound runs other free = free_of e (Refused s line reply) old new none sound runs other free
  runs_free e (Trimmed s number image object) home old new none sound runs other free = free_of e (Trimmed s number image object) old new none sound runs other free
  runs_free e (Expired s number image who) home old new none sound runs other free = free_of e (Expired s number image who) old new none sound runs other free
  runs_free e (Heard notice) home old new none sound runs other free = free_of e (Heard notice) old new none sound runs other free

  pub event_above : (e : Event) (old : WorldView R) (result : Outcome) (new : WorldView R) → IsNoStart e → IsSoundWorld stands old → IsWorldStep stands e old result new
      → (s other : ℕ) → is_held s other old ≡ false → is_held s other new ≡ false
  event_above e old result new none sound (is, does) s other free = is_free s other new (by (client_then stands e (happening stands e old) old new does s))
    where
      by : (client_in s new.lives ≡ client_in s old.lives) ⊎ ((home : SiteId) × RunsOn stands e (happening stands e old) home (client_in s old.lives) (client_in s new.lives)) → held_of other (session_in s new.lives) ≡ None
      by (inl same) = ap (λ o. held_of other (session_of_client o)) same ∙ not_held s other old free
      by (inr (home, runs)) =
          runs_free e (happening stands e old) home (client_in s old.lives) (client_in s new.lives) none (λ c at. (sound.clients s c at).sound) runs other (not_held s other old free)

  -- ---- by a submission one slot is held that wasn't

  begins_below : (session line : ℕ) (command : Command) (begun : Bool) (highest : ℕ) (a b : ClientView R) → Becomes stands (event.Submit session line command) (submitted begun line command (Some a)) a b
      → (other : ℕ) → highest_after highest (outcome_of (submitted begun line command (Some a))) < other → held_in other a.session.slots ≡ None → held_in other b.session.slots ≡ None
  begins_below session line command begun highest a b = by (begun || nat_lt 64 a.session.lowest)
    where
      asked : Asked
      asked = begins_of a.session.instance line command

      by : (n : Bool) → Becomes stands (event.Submit session line command) (cond n Nothing (Began asked a.session.lowest)) a b
          → (other : ℕ) → highest_after highest (outcome_of (cond n Nothing (Began asked a.session.lowest))) < other → held_in other a.session.slots ≡ None → held_in other b.session.slots ≡ None
      by true becomes other above free = same_free a b becomes other free
      by false becomes other above free = becomes.begins.slots other (λ same. no same (cases_lt highest a.session.lowest)) ∙ free
        where
          no : other ≡ a.session.lowest → (highest < a.session.lowest) ⊎ (a.session.lowest ≤ highest) → ⊥
          no same (inl less) = let is = subst (λ c. cond c a.session.lowest highest < other) (lt-ltb highest a.session.lowest less) above in absurd (omega (arith, is, same))
          no same (inr more) = let is = subst (λ c. cond c a.session.lowest highest < other) (le-ltb highest a.session.lowest more) above in absurd (omega (arith, is, same, more))

  begins_free : (session line : ℕ) (command : Command) (begun : Bool) (highest : ℕ) (old new : Option (ClientView R))
      → BecomesOf stands (event.Submit session line command) (submitted begun line command old) old new
      → (other : ℕ) → highest_after highest (outcome_of (submitted begun line command old)) < other → held_of other (session_of_client old) ≡ None → held_of other (session_of_client new) ≡ None
  begins_free session line command begun highest None new becomes other above free = ap (λ o. held_of other (session_of_client o)) becomes
  begins_free session line command begun highest (Some a) None becomes other above free = absurd becomes
  begins_free session line command begun highest (Some a) (Some b) becomes other above free = begins_below session line command begun highest a b becomes other above free

  runs_submitted : (session line : ℕ) (command : Command) (begun : Bool) (home : SiteId) (c old new : Option (ClientView R)) → RunsOn stands (event.Submit session line command) (submitted begun line command c) home old new
      → BecomesOf stands (event.Submit session line command) (submitted begun line command c) old new
  runs_submitted session line command begun home None old new = λ runs. runs
  runs_submitted session line command begun home (Some a) old new = by (begun || nat_lt 64 a.session.lowest)
    where
      by : (n : Bool) → RunsOn stands (event.Submit session line command) (cond n Nothing (Began (begins_of a.session.instance line command) a.session.lowest)) home old new
          → BecomesOf stands (event.Submit session line command) (cond n Nothing (Began (begins_of a.session.instance line command) a.session.lowest)) old new
      by true runs = runs
      by false runs = runs

  -- who is named by a submission goes on as it says, and who isn't stays
  pub submitted_then : (session line : ℕ) (command : Command) (old new : WorldView R) (result : Outcome) → IsWorldStep stands (event.Submit session line command) old result new → (s : ℕ)
      → (client_in s new.lives ≡ client_in s old.lives)
      ⊎ ((s ≡ session) × BecomesOf stands (event.Submit session line command) (submitted (is_begun line old.history) line command (client_in s old.lives)) (client_in s old.lives) (client_in s new.lives))
  submitted_then session line command old new result (is, does) s = by (session == s) refl (client_then stands (event.Submit session line command) _ old new does s)
    where
      by : (b : Bool) → (session == s) ≡ b
          → (client_in s new.lives ≡ client_in s old.lives)
          ⊎ ((home : SiteId) × RunsOn stands (event.Submit session line command) (submitted (is_begun line old.history) line command (client_in session old.lives)) home (client_in s old.lives) (client_in s new.lives))
          → (client_in s new.lives ≡ client_in s old.lives)
          ⊎ ((s ≡ session) × BecomesOf stands (event.Submit session line command) (submitted (is_begun line old.history) line command (client_in s old.lives)) (client_in s old.lives) (client_in s new.lives))
      by b named (inl same) = inl same
      by true named (inr (home, runs)) =
          let same : s ≡ session = sym (eqb-true session s named) in
          inr (
            same,
            runs_submitted session line command (is_begun line old.history) home (client_in s old.lives) (client_in s old.lives) (client_in s new.lives)
                (subst (λ n. RunsOn stands (event.Submit session line command) (submitted (is_begun line old.history) line command (client_in n old.lives)) home (client_in s old.lives) (client_in s new.lives)) (sym same) runs),
          )
      by false other (inr on) = inl (ap running_of (does.others s other))

  pub submit_above : (session line : ℕ) (command : Command) (old : WorldView R) (result : Outcome) (new : WorldView R) (highest : ℕ) → IsWorldStep stands (event.Submit session line command) old result new
      → ((s other : ℕ) → highest < other → is_held s other old ≡ false) → (s other : ℕ) → highest_after highest result < other → is_held s other new ≡ false
  submit_above session line command old result new highest step before s other above = is_free s other new (by (submitted_then session line command old new result step s))
    where
      free : held_of other (session_in s old.lives) ≡ None
      free = not_held s other old (before s other (no_lower highest result other above))

      by : (client_in s new.lives ≡ client_in s old.lives)
          ⊎ ((s ≡ session) × BecomesOf stands (event.Submit session line command) (submitted (is_begun line old.history) line command (client_in s old.lives)) (client_in s old.lives) (client_in s new.lives))
          → held_of other (session_in s new.lives) ≡ None
      by (inl same) = ap (λ o. held_of other (session_of_client o)) same ∙ free
      by (inr (same, becomes)) =
          begins_free session line command (is_begun line old.history) highest (client_in s old.lives) (client_in s new.lives) becomes other
          (subst (λ n. highest_after highest (outcome_of (submitted (is_begun line old.history) line command (client_in n old.lives))) < other) (sym same) (subst (λ r. highest_after highest r < other) step.0 above))
          free

  -- ---- a slot is one of 64

  most_of : (begun : Bool) (line : ℕ) (command : Command) (highest : ℕ) (c : Option (ClientView R)) → highest ≤ 64 → highest_after highest (outcome_of (submitted begun line command c)) ≤ 64
  most_of begun line command highest None few = few
  most_of begun line command highest (Some a) few = by (begun || nat_lt 64 a.session.lowest) refl
    where
      by : (n : Bool) → (begun || nat_lt 64 a.session.lowest) ≡ n → highest_after highest (outcome_of (cond n Nothing (Began (begins_of a.session.instance line command) a.session.lowest))) ≤ 64
      by true is = few
      by false is = let room = ltb-false 64 a.session.lowest (or_parts begun (nat_lt 64 a.session.lowest) is).1 in go (nat_lt highest a.session.lowest) room
        where
          go : (m : Bool) → a.session.lowest ≤ 64 → cond m a.session.lowest highest ≤ 64
          go true room = room
          go false room = few

  pub submit_most : (session line : ℕ) (command : Command) (old : WorldView R) (result : Outcome) (new : WorldView R) (highest : ℕ) → IsWorldStep stands (event.Submit session line command) old result new → highest ≤ 64
      → highest_after highest result ≤ 64
  submit_most session line command old result new highest (is, does) few =
      subst (λ r. highest_after highest r ≤ 64) (sym is) (most_of (is_begun line old.history) line command highest (client_in session old.lives) few)
