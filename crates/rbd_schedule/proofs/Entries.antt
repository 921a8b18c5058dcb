-- What a step adds to the history, for the commands that wait.
use Rattle.std.proofs.Common.{◌≡◌, ℕ, ◌&&◌, ◌||◌, nat_lt, not, cond, Bool, true, false, List, [], ◌∷◌, length, drop, is_some, Option, Some, None, refl, sym, ap, ◌∙◌, subst}
use Rattle.std.proofs.Math.Seq.{drop-append_seam}
use Rattle.std.proofs.lemmas.Bool.{false≢true, or_left, or_right, eq-eqb}
use Rattle.std.proofs.lemmas.Option.{none-some, same_Some}
use Rattle.std.proofs.lemmas.List.Folds.{list_any-append}
use Rattle.std.proofs.Math.Bool.{or-false}
use Rattle.rbd_client.specs.Client.{ClientView}
use Rattle.rbd_commands.specs.declared.command.Command.{Command}
use Rattle.rbd_machine.specs.Plan.{Standing}
use Rattle.rbd_world.specs.declared.event.Event.{Event}
use Rattle.rbd_world.specs.declared.event.Event.TheVariants as event
use Rattle.rbd_world.specs.declared.event.Outcome.{Outcome}
use Rattle.rbd_world.specs.Run.{Happening, Nothing, Began, entries_of}
use Rattle.rbd_world.specs.Step.{Does, IsWorldStep, begins_of, is_begun, submitted}
use Rattle.rbd_world.specs.World.{WorldView, client_in, free_in}
use Rattle.rbd_schedule.specs.declared.given.Given.{Given}
use Rattle.rbd_schedule.specs.Starts.{earliest, is_ended, to_start}

-- ---- what is in the history stays in it

pub begun_stays : {R : Type 0} (stands : R → Standing) (e : Event) (h : Happening) (old new : WorldView R) → Does stands e h old new
    → (line : ℕ) → is_begun line old.history ≡ true → is_begun line new.history ≡ true
begun_stays stands e h old new does line is =
    ap (is_begun line) does.history ∙ list_any-append _ old.history (entries_of h) ∙ or_left (is_begun line old.history) (is_begun line (entries_of h)) is

pub ended_stays : {R : Type 0} (stands : R → Standing) (e : Event) (h : Happening) (old new : WorldView R) → Does stands e h old new
    → (line : ℕ) → is_ended line old.history ≡ true → is_ended line new.history ≡ true
ended_stays stands e h old new does line is =
    ap (is_ended line) does.history ∙ list_any-append _ old.history (entries_of h) ∙ or_left (is_ended line old.history) (is_ended line (entries_of h)) is

ended_then : {R : Type 0} (stands : R → Standing) (e : Event) (h : Happening) (old new : WorldView R) → Does stands e h old new
    → (line : ℕ) → is_ended line new.history ≡ (is_ended line old.history || is_ended line (entries_of h))
ended_then stands e h old new does line = ap (is_ended line) does.history ∙ list_any-append _ old.history (entries_of h)

-- the history has more at its end, in which these lines end
pub ended_by_step : {R : Type 0} (stands : R → Standing) (e : Event) (h : Happening) (old new : WorldView R) → Does stands e h old new
    → (line : ℕ) → is_ended line new.history ≡ (is_ended line old.history || is_ended line (drop (length old.history) new.history))
ended_by_step stands e h old new does line =
    ended_then stands e h old new does line
    ∙ ap (λ es. is_ended line old.history || is_ended line es) (sym (ap (drop (length old.history)) does.history ∙ drop-append_seam old.history (entries_of h)))

module _ {R : Type 0} (stands : R → Standing) where
  -- ---- a submission

  submit_ends_none : (line : ℕ) (begun : Bool) (number : ℕ) (command : Command) (c : Option (ClientView R)) → is_ended line (entries_of (submitted begun number command c)) ≡ false
  submit_ends_none line begun number command None = refl
  submit_ends_none line begun number command (Some c) = by (begun || nat_lt 64 c.session.lowest)
    where
      by : (b : Bool) → is_ended line (entries_of (cond b Nothing (Began (begins_of c.session.instance number command) c.session.lowest))) ≡ false
      by true = refl
      by false = refl

  pub submit_ends : (session number : ℕ) (command : Command) (old : WorldView R) (result : Outcome) (new : WorldView R) → IsWorldStep stands (event.Submit session number command) old result new
      → (line : ℕ) → is_ended line new.history ≡ is_ended line old.history
  submit_ends session number command old result new (is, does) line =
      ended_then stands (event.Submit session number command) _ old new does line
      ∙ ap (λ b. is_ended line old.history || b) (submit_ends_none line _ number command (client_in session old.lives)) ∙ or-false (is_ended line old.history)

-- ---- a command that may start begins

-- it wasn't begun
pub earliest_is_new : (b a : (line : ℕ) → Bool) (before : Bool) (given : List Given) (c : Given) → earliest b a before given ≡ Some c → b c.line ≡ false
earliest_is_new b a before [] c is = absurd (none-some c is)
earliest_is_new b a before (x ∷ given) c is = by (b x.line) refl (x.beside || before) (earliest_is_new b a (before && a x.line) given c) is
  where
    by : (p : Bool) → b x.line ≡ p → (q : Bool) → (earliest b a (before && a x.line) given ≡ Some c → b c.line ≡ false)
        → cond (not p && q) (Some x) (earliest b a (before && a x.line) given) ≡ Some c → b c.line ≡ false
    by true e q rest is = rest is
    by false e true rest is = subst (λ (y : Given). b y.line ≡ false) (same_Some x c is) e
    by false e false rest is = rest is

module _ {R : Type 0} where
  start_is_new : (given : List Given) (w : WorldView R) (session : ℕ) (c : Given) → to_start given w session ≡ Some c
      → (is_some (free_in (client_in session w.lives)) ≡ true) × (earliest (λ line. is_begun line w.history) (λ line. is_ended line w.history) true given ≡ Some c)
  start_is_new given w session c = by (is_some (free_in (client_in session w.lives)))
    where
      by : (b : Bool) → cond b (earliest (λ line. is_begun line w.history) (λ line. is_ended line w.history) true given) None ≡ Some c
          → (b ≡ true) × (earliest (λ line. is_begun line w.history) (λ line. is_ended line w.history) true given ≡ Some c)
      by true is = (refl, is)
      by false is = absurd (none-some c is)

  begins : (begun : Bool) (line : ℕ) (command : Command) (c : Option (ClientView R)) → begun ≡ false → is_some (free_in c) ≡ true → is_begun line (entries_of (submitted begun line command c)) ≡ true
  begins begun line command None new room = absurd (false≢true room)
  begins begun line command (Some c) new room =
      subst (λ b. is_begun line (entries_of (cond (b || nat_lt 64 c.session.lowest) Nothing (Began (begins_of c.session.instance line command) c.session.lowest))) ≡ true) (sym new) (by (nat_lt 64 c.session.lowest) room)
    where
      by : (b : Bool) → is_some (cond b None (Some c.session.lowest)) ≡ true → is_begun line (entries_of (cond b Nothing (Began (begins_of c.session.instance line command) c.session.lowest))) ≡ true
      by true room = absurd (false≢true room)
      by false room = ap (λ b. b || false) (eq-eqb line line refl)

  -- the command that was to start is begun behind its step
  pub starting_begins : (stands : R → Standing) (given : List Given) (session : ℕ) (c : Given) (command : Command) (old : WorldView R) (result : Outcome) (new : WorldView R)
      → to_start given old session ≡ Some c → IsWorldStep stands (event.Submit session c.line command) old result new
      → (is_begun c.line old.history ≡ false) × (is_begun c.line new.history ≡ true)
  starting_begins stands given session c command old result new may (is, does) =
      let found = start_is_new given old session c may in
      let was = earliest_is_new (λ line. is_begun line old.history) (λ line. is_ended line old.history) true given c found.1 in (
        was,
        ap (is_begun c.line) does.history ∙ list_any-append _ old.history _
            ∙ or_right (is_begun c.line old.history) _ (begins (is_begun c.line old.history) c.line command (client_in session old.lives) was found.0),
      )

  pub start_is_earliest : (given : List Given) (w : WorldView R) (session : ℕ) (c : Given) → to_start given w session ≡ Some c
      → earliest (λ line. is_begun line w.history) (λ line. is_ended line w.history) true given ≡ Some c
  start_is_earliest given w session c may = (start_is_new given w session c may).1
