-- A notice that is delivered leaves the others due that were.
use Rattle.std.proofs.Common.{◌≡◌, ◌≢◌, ℕ, zero, suc, ◌&&◌, ◌||◌, ◌⊎◌, inl, inr, cond, nat_lt, not, Bool, true, false, List, All, slice_get, Option, Some, None, refl, sym, ap, ◌∙◌, subst}
use Rattle.std.proofs.lemmas.Bool.{ne_eqb}
use Rattle.std.proofs.lemmas.List.Elements.{All-nil}
use Rattle.std.proofs.lemmas.Option.{none-some, same_Some}
use Rattle.std.proofs.Math.Bool.{or-false}
use Rattle.rbd_client.specs.Client.{ClientView}
use Rattle.rbd_commands.specs.declared.command.Command.{Command}
use Rattle.rbd_kinds.specs.declared.notice.Notice.{Notice}
use Rattle.rbd_kinds.specs.Instances.{same_instance}
use Rattle.rbd_machine.specs.Plan.{Standing}
use Rattle.rbd_watch.specs.Posting.{notice_numbered}
use Rattle.rbd_world.specs.declared.event.Event.TheVariants as event
use Rattle.rbd_world.specs.declared.event.Outcome.{Outcome}
use Rattle.rbd_world.specs.declared.sites.Sites.{Sites}
use Rattle.rbd_world.specs.Run.{Nothing, Began, Heard}
use Rattle.rbd_world.specs.Step.{BecomesOf, IsWorldStep, begins_of, delivered, heard_by, is_begun, mail_then, submitted}
use Rattle.rbd_world.specs.World.{LivesView, WorldView, client_in}
use Rattle.rbd_schedule.specs.declared.given.Given.{Given}
use Rattle.rbd_schedule.specs.declared.queue.Queue.{Queue}
use Rattle.rbd_schedule.specs.declared.runner.Runner.{Runner}
use Rattle.rbd_schedule.specs.Deeds.{Deeds}
use Rattle.rbd_schedule.specs.Notices.{hears, is_notice_due, is_heard, is_to, was_heard}
use Rattle.rbd_schedule.specs.Playing.{IsGivenCommand, KeepsUp, commands_in, given_to}
use Rattle.rbd_schedule.specs.Schedule.{DeliversWhere, Starts}
use Rattle.rbd_schedule.proofs.Above.{submitted_then}
use Rattle.rbd_schedule.proofs.Entries.{start_is_earliest}
use Rattle.rbd_schedule.proofs.Goes.{earliest_is_given}
use Rattle.rbd_schedule.proofs.Idle.{HearsOf, delivery_leaves}
use Rattle.rbd_schedule.proofs.Passing.{heard_then}

-- what isn't due isn't delivered
pub not_delivered : {R : Type 0} (stands : R → Standing) (given : (session : ℕ) → List Given) (due : Bool) (number : ℕ) (w : WorldView R) → due ≡ false → DeliversWhere stands given due number w w
not_delivered stands given due number w is = subst (λ b. DeliversWhere stands given b number w w) (sym is) refl

-- the same instance, or none
abbrev IsSameLife : {R : Type 0} → (old new : Option (ClientView R)) → Type 0
IsSameLife None None = Unit {0}
IsSameLife (Some a) (Some b) = b.session.instance ≡ a.session.instance
IsSameLife _ _ = ⊥

to_same : {R : Type 0} (old new : Option (ClientView R)) (o : Option Notice) → IsSameLife old new → is_to new o ≡ is_to old o
to_same None None o same = refl
to_same None (Some b) o same = absurd same
to_same (Some a) None o same = absurd same
to_same (Some a) (Some b) None same = refl
to_same (Some a) (Some b) (Some n) same = ap (λ i. same_instance i n.to) same

same_life : {R : Type 0} (old new : Option (ClientView R)) → new ≡ old → IsSameLife old new
same_life None None same = tt
same_life None (Some b) same = absurd (none-some b (sym same))
same_life (Some a) None same = absurd (none-some a same)
same_life (Some a) (Some b) same = ap (λ c. c.session.instance) (same_Some b a same)

module _ {R : Type 0} (stands : R → Standing) where
  heard_life : (old new : Option (ClientView R)) → HearsOf stands old new → IsSameLife old new
  heard_life None None hears = tt
  heard_life None (Some b) hears = absurd (none-some b (sym hears))
  heard_life (Some a) None hears = absurd hears
  heard_life (Some a) (Some b) (inl same) = ap (λ (c : ClientView R). c.session.instance) same
  heard_life (Some a) (Some b) (inr (n, hears)) = ap (λ s. s.instance) hears.session

  heard_mail : (n : Notice) (c : Option (ClientView R)) (sites : Sites) → mail_then (heard_by n c) sites ≡ sites.mail
  heard_mail n None sites = refl
  heard_mail n (Some c) sites = by (same_instance c.session.instance n.to)
    where
      by : (b : Bool) → mail_then (cond b (Heard n) Nothing) sites ≡ sites.mail
      by true = refl
      by false = refl

  delivered_mail : (o : Option Notice) (lives : List (LivesView R)) (sites : Sites) → mail_then (delivered o lives) sites ≡ sites.mail
  delivered_mail None lives sites = refl
  delivered_mail (Some n) lives sites = heard_mail n (client_in n.to.session lives) sites

  due_along : (lost : (number : ℕ) → Bool) (session number : ℕ) (old new : WorldView R) → IsSameLife (client_in session old.lives) (client_in session new.lives) → new.sites.mail ≡ old.sites.mail
      → was_heard number new.calls ≡ was_heard number old.calls → is_notice_due lost session number new ≡ is_notice_due lost session number old
  due_along lost session number old new life mail heard =
      ap (λ m. is_to (client_in session new.lives) (notice_numbered number m) && (not (was_heard number new.calls) && not (lost number))) mail
      ∙ ap (λ b. is_to (client_in session new.lives) (notice_numbered number old.sites.mail) && (not b && not (lost number))) heard
      ∙ ap (λ b. b && (not (was_heard number old.calls) && not (lost number))) (to_same (client_in session old.lives) (client_in session new.lives) (notice_numbered number old.sites.mail) life)

  due_by_delivery : (lost : (number : ℕ) → Bool) (session number other : ℕ) (old new : WorldView R) (result : Outcome) → other ≢ number → IsWorldStep stands (event.Deliver number) old result new
      → is_notice_due lost session other new ≡ is_notice_due lost session other old
  due_by_delivery lost session number other old new result away step =
      due_along lost session other old new (heard_life (client_in session old.lives) (client_in session new.lives) (delivery_leaves stands number old new result step session))
      (step.1.mail ∙ delivered_mail (notice_numbered number old.sites.mail) old.lives old.sites)
      (heard_then stands (event.Deliver number) result old new step other
      ∙ ap (λ b. was_heard other old.calls || (b && is_heard result)) (ne_eqb number other (λ same. away (sym same))) ∙ or-false (was_heard other old.calls))

  -- ---- submissions

  submitted_life : (session line : ℕ) (command : Command) (begun : Bool) (old new : Option (ClientView R)) → BecomesOf stands (event.Submit session line command) (submitted begun line command old) old new → IsSameLife old new
  submitted_life session line command begun None new becomes = same_life None new becomes
  submitted_life session line command begun (Some a) None becomes = absurd becomes
  submitted_life session line command begun (Some a) (Some b) becomes = by (begun || nat_lt 64 a.session.lowest) becomes
    where
      by : (n : Bool) → BecomesOf stands (event.Submit session line command) (cond n Nothing (Began (begins_of a.session.instance line command) a.session.lowest)) (Some a) (Some b) → b.session.instance ≡ a.session.instance
      by true becomes = ap (λ (c : ClientView R). c.session.instance) becomes
      by false becomes = becomes.begins.client.instance

  submitted_mail : (begun : Bool) (line : ℕ) (command : Command) (c : Option (ClientView R)) (sites : Sites) → mail_then (submitted begun line command c) sites ≡ sites.mail
  submitted_mail begun line command None sites = refl
  submitted_mail begun line command (Some a) sites = by (begun || nat_lt 64 a.session.lowest)
    where
      by : (n : Bool) → mail_then (cond n Nothing (Began (begins_of a.session.instance line command) a.session.lowest)) sites ≡ sites.mail
      by true = refl
      by false = refl

  due_by_submission : (lost : (number : ℕ) → Bool) (session number named line : ℕ) (command : Command) (old new : WorldView R) (result : Outcome) → IsWorldStep stands (event.Submit named line command) old result new
      → is_notice_due lost session number new ≡ is_notice_due lost session number old
  due_by_submission lost session number named line command old new result step =
      due_along lost session number old new (by (submitted_then stands named line command old new result step session))
      (step.1.mail ∙ submitted_mail (is_begun line old.history) line command (client_in named old.lives) old.sites)
      (heard_then stands (event.Submit named line command) result old new step number ∙ or-false (was_heard number old.calls))
    where
      by : (client_in session new.lives ≡ client_in session old.lives)
          ⊎ ((session ≡ named) × BecomesOf stands (event.Submit named line command) (submitted (is_begun line old.history) line command (client_in session old.lives)) (client_in session old.lives) (client_in session new.lives))
          → IsSameLife (client_in session old.lives) (client_in session new.lives)
      by (inl same) = same_life (client_in session old.lives) (client_in session new.lives) same
      by (inr (at, becomes)) = submitted_life named line command (is_begun line old.history) (client_in session old.lives) (client_in session new.lives) becomes

  module _ (given : (session : ℕ) → List Given) (all : (session : ℕ) → All (IsGivenCommand session) (given session)) (lost : (number : ℕ) → Bool) (session number : ℕ) where
    due_by_start : (old new : WorldView R) → Starts stands given old new → is_notice_due lost session number new ≡ is_notice_due lost session number old
    due_by_start old new starts =
        let c = starts.submits.command in
        let it = earliest_is_given (IsGivenCommand starts.session) _ _ true (given starts.session) c (all starts.session) (start_is_earliest (given starts.session) old starts.session c starts.submits.may) in
        due_by_submission lost session number starts.session c.line it.command old new starts.submits.result (subst (λ e. IsWorldStep stands e old starts.submits.result new) it.submission starts.submits.step)

    due_by_starts : (count : ℕ) (old new : WorldView R) → Deeds (λ k. Starts stands given) count old new → is_notice_due lost session number new ≡ is_notice_due lost session number old
    unfolding Deeds
    due_by_starts zero old new done = ap (is_notice_due lost session number) done
    due_by_starts (suc n) old new (between, before, it) = due_by_start between new it ∙ due_by_starts n old between before

    pub due_stays : (due : Bool) (told : ℕ) (old new : WorldView R) → number ≢ told → DeliversWhere stands given due told old new → is_notice_due lost session number new ≡ is_notice_due lost session number old
    due_stays true told old new away happens =
        due_by_starts happens.comes.starts.count happens.comes.between new happens.comes.starts.starts ∙ due_by_delivery lost session told number old happens.comes.between happens.result away happens.comes.step
    due_stays false told old new away same = ap (is_notice_due lost session number) same

-- the commands of a runner are such
pub given_all : (r : Runner) → KeepsUp r → (session : ℕ) → All (IsGivenCommand session) (given_to r session)
given_all r keeps session = by (slice_get r.queues.items session) refl
  where
    by : (o : Option Queue) → slice_get r.queues.items session ≡ o → All (IsGivenCommand session) (commands_in o)
    by None e = All-nil (IsGivenCommand session)
    by (Some q) e = (keeps.queues session q e).given
