-- Where no command may start, none may behind an event by which none comes to start.
use mathlib.Core.Path.{fun_ext}
use Rattle.std.proofs.Common.{◌≡◌, ℕ, ◌<◌, ◌≤◌, ◌||◌, ◌⊎◌, inl, inr, cond, true, false, List, is_some, Option, Some, None, refl, sym, ap, ◌∙◌, subst, arith}
use Rattle.std.proofs.lemmas.Bool.{cases_eq, cases_lt, false≢true, true≢false}
use Rattle.std.proofs.lemmas.List.Folds.{list_any-append}
use Rattle.std.proofs.Math.Bool.{or-false}
use Rattle.rbd_client.specs.declared.actor.Actor.{Actor}
use Rattle.rbd_client.specs.declared.actor.Actor.TheVariants as actor
use Rattle.rbd_client.specs.Actor.{actor_at}
use Rattle.rbd_client.specs.Client.{ClientView}
use Rattle.rbd_client.specs.Feeding.{IsFedBy}
use Rattle.rbd_client.specs.Sound.{IsSoundClient}
use Rattle.rbd_flat.specs.declared.effect.Effect.{Effect}
use Rattle.rbd_flat.specs.declared.entry.Cause.{Cause}
use Rattle.rbd_kinds.specs.declared.id.Instance.{Instance}
use Rattle.rbd_kinds.specs.declared.id.SiteId.{SiteId}
use Rattle.rbd_kinds.specs.declared.machine.Fed.{Fed}
use Rattle.rbd_kinds.specs.declared.operation.Op.{Op}
use Rattle.rbd_machine.specs.Plan.{Standing}
use Rattle.rbd_slots.specs.Lines.{LinesView}
use Rattle.rbd_slots.specs.Session.{ComesToIn, IsLowest, OfRunning, SessionView, free_slot, held_in, script_line}
use Rattle.rbd_slots.specs.declared.running.Occupant.{Occupant}
use Rattle.rbd_slots.specs.declared.running.Occupant.TheVariants as occupant
use Rattle.rbd_world.specs.declared.event.Event.{Event}
use Rattle.rbd_world.specs.declared.event.Event.TheVariants as event
use Rattle.rbd_world.specs.declared.event.Outcome.{Outcome}
use Rattle.rbd_world.specs.Run.{Doer, Itself, OnWay, House, AfterStop, Happening, Nothing, Waited, Began, Did, Refused, Trimmed, Expired, Heard, Stopped, Restarted, cause_of, ending_entries, entries_of, entry_by, entry_unfenced, fence_of, outcome_of}
use Rattle.rbd_world.specs.Sound.{IsSoundWorld}
use Rattle.rbd_world.specs.Step.{Becomes, BecomesOf, Does, IsWorldStep, RunsOn, happening, is_begun}
use Rattle.rbd_world.specs.World.{WorldView, client_in, free_in}
use Rattle.rbd_schedule.specs.declared.given.Given.{Given}
use Rattle.rbd_schedule.specs.Playing.{IsNoStart, lets_start}
use Rattle.rbd_schedule.specs.Starts.{IsQuiet, earliest, is_end_of, is_ended}
use Rattle.rbd_schedule.proofs.Begins.{event_begins}
use Rattle.rbd_schedule.proofs.Clients.{client_then}

-- ---- slots that are held

pub line_held : {R : Type 0} (o : Option (Occupant R)) → is_some (script_line o) ≡ is_some o
line_held None = refl
line_held (Some (occupant.Refused line refusal)) = refl
line_held (Some (occupant.Running r)) = refl

-- where the same slots are held, the same is the lowest free one
lowest_same : {T : Type 0} (xs ys : List (Option T)) (a b : ℕ) → IsLowest a xs → IsLowest b ys → ((slot : ℕ) → is_some (held_in slot ys) ≡ is_some (held_in slot xs)) → b ≡ a
lowest_same xs ys a b one other same = by (cases_lt a b) (cases_lt b a)
  where
    by : (a < b) ⊎ (b ≤ a) → (b < a) ⊎ (a ≤ b) → b ≡ a
    by (inl less) c = absurd (false≢true (sym (same a ∙ ap is_some one.free) ∙ other.below a one.some less))
    by (inr c) (inl less) = absurd (false≢true (sym (sym (same b) ∙ ap is_some other.free) ∙ one.below b other.some less))
    by (inr most) (inr least) = omega (arith, most, least)

-- ---- an operation ends no line by itself

unfenced_ends : (line : ℕ) (c : Cause) (s : SiteId) (number : ℕ) (e : Option Effect) → is_end_of line (entry_unfenced c s number e) ≡ false
unfenced_ends line c s number None = refl
unfenced_ends line c s number (Some e) = refl

pub no_end : (line : ℕ) (c : Cause) (s : SiteId) (number : ℕ) (fence : Option Instance) (e : Option Effect) → is_end_of line (entry_by c s number fence e) ≡ false
no_end line c s number None e = unfenced_ends line c s number e
no_end line c s number (Some who) e = refl

pub endings_end : (line : ℕ) (by : Doer) → is_ended line (ending_entries by None) ≡ false
endings_end line (Itself other) = refl
endings_end line (OnWay other) = refl
endings_end line House = refl
endings_end line (AfterStop slot) = refl

-- where no command comes to start, no line has ended
pub still_open : (line : ℕ) (h : Happening) → lets_start (outcome_of h) ≡ false → is_ended line (entries_of h) ≡ false
still_open line Nothing none = refl
still_open line Waited none = refl
still_open line (Began asked slot) none = refl
still_open line (Did o None) none =
    ap (λ b. b || is_ended line (ending_entries o.by None)) (no_end line (cause_of o.instance o.by) o.site o.number (fence_of o.op o.answer) o.effect) ∙ endings_end line o.by
still_open line (Did o (Some reply)) none = absurd (true≢false none)
still_open line (Refused s other reply) none = absurd (true≢false none)
still_open line (Trimmed s number image object) none = refl
still_open line (Expired s number image who) none = refl
still_open line (Heard notice) none = refl
still_open line (Stopped who wanted lost) none = absurd (true≢false none)
still_open line (Restarted who) none = absurd (true≢false none)

module _ {R : Type 0} (stands : R → Standing) where
  -- ---- an event by which nobody has a reply

  pub begun_then : (e : Event) (h : Happening) (old new : WorldView R) → Does stands e h old new → ((line : ℕ) → is_begun line (entries_of h) ≡ false)
      → (line : ℕ) → is_begun line new.history ≡ is_begun line old.history
  begun_then e h old new does none line =
      ap (is_begun line) does.history ∙ list_any-append _ old.history (entries_of h) ∙ ap (λ b. is_begun line old.history || b) (none line) ∙ or-false (is_begun line old.history)

  pub open_then : (e : Event) (h : Happening) (old new : WorldView R) → Does stands e h old new → ((line : ℕ) → is_ended line (entries_of h) ≡ false)
      → (line : ℕ) → is_ended line new.history ≡ is_ended line old.history
  open_then e h old new does none line =
      ap (is_ended line) does.history ∙ list_any-append _ old.history (entries_of h) ∙ ap (λ b. is_ended line old.history || b) (none line) ∙ or-false (is_ended line old.history)

  -- who has no reply holds its slot
  fed_held : (slot : ℕ) (before : LinesView) (f : Fed) (after : LinesView) (o n : Option (Occupant R)) → OfRunning (λ r. ComesToIn stands slot before f None r n after) o → is_some n ≡ is_some o
  fed_held slot before f after None n fed = absurd fed
  fed_held slot before f after (Some (occupant.Refused line refusal)) n fed = absurd fed
  fed_held slot before f after (Some (occupant.Running r)) None fed = absurd (false≢true fed.0)
  fed_held slot before f after (Some (occupant.Running r)) (Some (occupant.Refused line refusal)) fed = absurd fed
  fed_held slot before f after (Some (occupant.Running r)) (Some (occupant.Running q)) fed = refl

  slot_held : (slot : ℕ) (s : SiteId) (o : Op) (f : Fed) (a b : ClientView R) (who : Actor) → IsFedBy stands slot s o f None a b who → is_some (held_in slot b.session.slots) ≡ is_some (held_in slot a.session.slots)
  slot_held slot s o f a b actor.Nobody fed = absurd fed
  slot_held slot s o f a b actor.Request fed = fed_held slot a.session.lines f b.session.lines (held_in slot a.session.slots) (held_in slot b.session.slots) fed.fed
  slot_held slot s o f a b (actor.Way x) fed = ap (λ (c : SessionView R). is_some (held_in slot c.slots)) fed.session
  slot_held slot s o f a b (actor.Release r) fed = ap (λ (c : SessionView R). is_some (held_in slot c.slots)) fed.session

  same_held : (a b : ClientView R) → b ≡ a → (other : ℕ) → is_some (held_in other b.session.slots) ≡ is_some (held_in other a.session.slots)
  same_held a b same other = ap (λ (c : ClientView R). is_some (held_in other c.session.slots)) same

  poll_held : (session slot : ℕ) (h : Happening) (a b : ClientView R) → lets_start (outcome_of h) ≡ false → Becomes stands (event.Poll session slot) h a b
      → (other : ℕ) → is_some (held_in other b.session.slots) ≡ is_some (held_in other a.session.slots)
  poll_held session slot (Did o (Some reply)) a b none becomes other = absurd (true≢false none)
  poll_held session slot (Did o None) a b none becomes other = by (cases_eq other slot)
    where
      by : (other ≡ slot) ⊎ (other ≡ slot → ⊥) → is_some (held_in other b.session.slots) ≡ is_some (held_in other a.session.slots)
      by (inl same) =
          subst (λ n. is_some (held_in n b.session.slots) ≡ is_some (held_in n a.session.slots)) (sym same) (slot_held slot o.site o.op _ a b (actor_at stands slot a) becomes.fed)
      by (inr is) = ap is_some (becomes.slots other is)
  poll_held session slot (Refused s line reply) a b none becomes other = absurd (true≢false none)
  poll_held session slot Nothing a b none becomes other = same_held a b becomes other
  poll_held session slot Waited a b none becomes other = same_held a b becomes other
  poll_held session slot (Began asked low) a b none becomes other = same_held a b becomes other
  poll_held session slot (Trimmed s number image object) a b none becomes other = same_held a b becomes other
  poll_held session slot (Expired s number image who) a b none becomes other = same_held a b becomes other
  poll_held session slot (Heard notice) a b none becomes other = same_held a b becomes other
  poll_held session slot (Stopped who wanted lost) a b none becomes other = same_held a b becomes other
  poll_held session slot (Restarted who) a b none becomes other = same_held a b becomes other

  deliver_held : (number : ℕ) (h : Happening) (a b : ClientView R) → Becomes stands (event.Deliver number) h a b → (other : ℕ) → is_some (held_in other b.session.slots) ≡ is_some (held_in other a.session.slots)
  deliver_held number (Heard notice) a b becomes other = ap (λ (c : SessionView R). is_some (held_in other c.slots)) becomes.session
  deliver_held number Nothing a b becomes other = same_held a b becomes other
  deliver_held number Waited a b becomes other = same_held a b becomes other
  deliver_held number (Began asked low) a b becomes other = same_held a b becomes other
  deliver_held number (Did o reply) a b becomes other = same_held a b becomes other
  deliver_held number (Refused s line reply) a b becomes other = same_held a b becomes other
  deliver_held number (Trimmed s k image object) a b becomes other = same_held a b becomes other
  deliver_held number (Expired s k image who) a b becomes other = same_held a b becomes other
  deliver_held number (Stopped who wanted lost) a b becomes other = same_held a b becomes other
  deliver_held number (Restarted who) a b becomes other = same_held a b becomes other

  still_held : (e : Event) (h : Happening) (a b : ClientView R) → IsNoStart e → lets_start (outcome_of h) ≡ false → Becomes stands e h a b
      → (other : ℕ) → is_some (held_in other b.session.slots) ≡ is_some (held_in other a.session.slots)
  still_held (event.Submit session line c) h a b plain none becomes other = absurd plain
  still_held (event.Poll session slot) h a b plain none becomes other = poll_held session slot h a b none becomes other
  still_held (event.Deliver number) h a b plain none becomes other = deliver_held number h a b becomes other
  still_held (event.Expire session s image) h a b plain none becomes other = same_held a b becomes other
  still_held (event.Stop session) h a b plain none becomes other = same_held a b becomes other
  still_held (event.Late session slot) h a b plain none becomes other = same_held a b becomes other
  still_held (event.Restart session) h a b plain none becomes other = same_held a b becomes other
  still_held (event.Trim s image object) h a b plain none becomes other = same_held a b becomes other

  -- so there is room where there was
  abbrev AllSound : Option (ClientView R) → Type 0
  AllSound o = (c : ClientView R) → o ≡ Some c → IsSoundClient stands c

  room_of : (e : Event) (h : Happening) (old new : Option (ClientView R)) → IsNoStart e → lets_start (outcome_of h) ≡ false → AllSound old → AllSound new → BecomesOf stands e h old new
      → is_some (free_in new) ≡ is_some (free_in old)
  room_of e h None new plain none before after becomes = ap (λ c. is_some (free_in c)) becomes
  room_of e h (Some a) None plain none before after becomes = absurd becomes
  room_of e h (Some a) (Some b) plain none before after becomes =
      ap (λ n. is_some (free_slot n))
      (lowest_same a.session.slots b.session.slots a.session.lowest b.session.lowest (before a refl).session.lowest (after b refl).session.lowest (still_held e h a b plain none becomes))

  runs_room : (e : Event) (h : Happening) (home : SiteId) (old new : Option (ClientView R)) → IsNoStart e → lets_start (outcome_of h) ≡ false → AllSound old → AllSound new → RunsOn stands e h home old new
      → is_some (free_in new) ≡ is_some (free_in old)
  runs_room e (Stopped who wanted lost) home old new plain none before after runs = absurd (true≢false none)
  runs_room e (Restarted who) home old new plain none before after runs = absurd (true≢false none)
  runs_room e Nothing home old new plain none before after runs = room_of e Nothing old new plain none before after runs
  runs_room e Waited home old new plain none before after runs = room_of e Waited old new plain none before after runs
  runs_room e (Began asked low) home old new plain none before after runs = room_of e (Began asked low) old new plain none before after runs
  runs_room e (Did o reply) home old new plain none before after runs = room_of e (Did o reply) old new plain none before after runs
  runs_room e (Refused s line reply) home old new plain none before after runs = room_of e (Refused s line reply) old new plain none before after runs
  runs_room e (Trimmed s number image object) home old new plain none before after runs = room_of e (Trimmed s number image object) old new plain none before after runs
  runs_room e (Expired s number image who) home old new plain none before after runs = room_of e (Expired s number image who) old new plain none before after runs
  runs_room e (Heard notice) home old new plain none before after runs = room_of e (Heard notice) old new plain none before after runs

  event_room : (e : Event) (old : WorldView R) (result : Outcome) (new : WorldView R) → IsNoStart e → IsWorldStep stands e old result new → IsSoundWorld stands old → IsSoundWorld stands new → lets_start result ≡ false
      → (s : ℕ) → is_some (free_in (client_in s new.lives)) ≡ is_some (free_in (client_in s old.lives))
  event_room e old result new plain (is, does) before after none s = by (client_then stands e (happening stands e old) old new does s)
    where
      by : (client_in s new.lives ≡ client_in s old.lives) ⊎ ((home : SiteId) × RunsOn stands e (happening stands e old) home (client_in s old.lives) (client_in s new.lives))
          → is_some (free_in (client_in s new.lives)) ≡ is_some (free_in (client_in s old.lives))
      by (inl same) = ap (λ c. is_some (free_in c)) same
      by (inr (home, runs)) =
          runs_room e (happening stands e old) home (client_in s old.lives) (client_in s new.lives) plain (sym (ap lets_start is) ∙ none)
          (λ c at. (before.clients s c at).sound) (λ c at. (after.clients s c at).sound) runs

-- ---- what may start

-- as what was begun and has ended tells, and where there is room
pub quiet_along : {R : Type 0} (given : (session : ℕ) → List Given) (old new : WorldView R) → ((line : ℕ) → is_begun line new.history ≡ is_begun line old.history)
    → ((line : ℕ) → is_ended line new.history ≡ is_ended line old.history)
    → ((s : ℕ) → is_some (free_in (client_in s new.lives)) ≡ is_some (free_in (client_in s old.lives))) → IsQuiet given old → IsQuiet given new
quiet_along given old new begun ended room quiet session =
    ap (λ b. cond b (earliest (λ line. is_begun line new.history) (λ line. is_ended line new.history) true (given session)) None) (room session)
    ∙ ap (λ f. cond (is_some (free_in (client_in session old.lives))) (earliest f (λ line. is_ended line new.history) true (given session)) None) (fun_ext begun)
    ∙ ap (λ f. cond (is_some (free_in (client_in session old.lives))) (earliest (λ line. is_begun line old.history) f true (given session)) None) (fun_ext ended)
    ∙ quiet session

pub quiet_event : {R : Type 0} (stands : R → Standing) (given : (session : ℕ) → List Given) (e : Event) (old : WorldView R) (result : Outcome) (new : WorldView R) → IsNoStart e → IsWorldStep stands e old result new
    → IsSoundWorld stands old → IsSoundWorld stands new → lets_start result ≡ false → IsQuiet given old → IsQuiet given new
quiet_event stands given e old result new plain step before after none quiet =
    quiet_along given old new (begun_then stands e (happening stands e old) old new step.1 (λ line. event_begins stands line e old plain))
    (open_then stands e (happening stands e old) old new step.1 (λ line. still_open line (happening stands e old) (sym (ap lets_start step.0) ∙ none)))
    (event_room stands e old result new plain step before after none) quiet
