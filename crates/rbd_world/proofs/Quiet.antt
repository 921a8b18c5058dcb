-- A happening says nothing of another line: what a slot holds under way stays so behind it.
use Rattle.std.proofs.Common.{◌≡◌, ℕ, ◌==◌, ◌||◌, cond, Bool, true, false, List, [], ◌∷◌, ◌++◌, Option, Some, None, refl, sym, ap, ◌∙◌, subst}
use Rattle.std.proofs.lemmas.Bool.{true≢false}
use Rattle.std.proofs.lemmas.List.{append-nil}
use Rattle.rbd_commands.specs.declared.refusal.Refusal.{Refusal}
use Rattle.rbd_kinds.specs.declared.id.Instance.{Instance}
use Rattle.rbd_kinds.specs.declared.id.SiteId.{SiteId}
use Rattle.rbd_kinds.specs.declared.notice.Notice.{Notice}
use Rattle.rbd_kinds.specs.declared.operation.Op.{Op}
use Rattle.rbd_kinds.specs.declared.reply.Reply.{Reply}
use Rattle.rbd_catalog.specs.Profile.{joins_a_line, profile}
use Rattle.rbd_machine.specs.Knowledge.{Knowledge}
use Rattle.rbd_machine.specs.Path.{IsWalk}
use Rattle.rbd_machine.specs.Plan.{Standing}
use Rattle.rbd_machine.specs.Refused.{AreGiven}
use Rattle.rbd_machine.specs.Standalone.{TellAllStandalone}
use Rattle.rbd_machine.specs.declared.seat.Seat.{Seat}
use Rattle.rbd_catalog.specs.Plans.{IsPlanFor}
use Rattle.rbd_slots.specs.declared.running.Occupant.{Occupant}
use Rattle.rbd_slots.specs.declared.running.Occupant.TheVariants as occupant
use Rattle.rbd_slots.specs.declared.running.Running.{Running}
use Rattle.rbd_slots.specs.Session.{running_in, script_line}
use Rattle.rbd_world.specs.Run.{Asked, Doer, Itself, OnWay, House, AfterStop, Happening, Nothing, Waited, Began, Did, Refused, Trimmed, Expired, Heard, Stopped, Restarted, Operation, ends, is_line_among, is_for, is_on_way, is_own, or_asked, step_of, steps_in, steps_of, way_in, way_of}
use Rattle.rbd_world.specs.Sound.{HasLearned, HasLearnedIf, IsHeldRightly, IsOpen, IsRefusedAtOnce, IsUnderWay, has_ended}

-- it is no start, no operation and no end of the line
pub record IsQuiet (line : ℕ) (h : Happening) : Type 0 where
  pub steps : steps_in line h ≡ []
  pub way : way_in line h ≡ []
  pub silent : ends line h ≡ false
  pub asked : (before : Option Asked) → or_asked line h before ≡ before

pub quiet_nothing : (line : ℕ) → IsQuiet line Nothing
quiet_nothing line = record { steps = refl; way = refl; silent = refl; asked = λ before. refl }

pub quiet_waited : (line : ℕ) → IsQuiet line Waited
quiet_waited line = record { steps = refl; way = refl; silent = refl; asked = λ before. refl }

pub quiet_trimmed : (line : ℕ) (s : SiteId) (number image object : ℕ) → IsQuiet line (Trimmed s number image object)
quiet_trimmed line s number image object = record { steps = refl; way = refl; silent = refl; asked = λ before. refl }

pub quiet_expired : (line : ℕ) (s : SiteId) (number image : ℕ) (who : Instance) → IsQuiet line (Expired s number image who)
quiet_expired line s number image who = record { steps = refl; way = refl; silent = refl; asked = λ before. refl }

pub quiet_heard : (line : ℕ) (notice : Notice) → IsQuiet line (Heard notice)
quiet_heard line notice = record { steps = refl; way = refl; silent = refl; asked = λ before. refl }

pub quiet_restarted : (line : ℕ) (who : Instance) → IsQuiet line (Restarted who)
quiet_restarted line who = record { steps = refl; way = refl; silent = refl; asked = λ before. refl }

pub quiet_stopped : (line : ℕ) (who : Instance) (wanted : List (Option (SiteId × Op))) (lost : List ℕ) → is_line_among line lost ≡ false → IsQuiet line (Stopped who wanted lost)
quiet_stopped line who wanted lost other = record { steps = refl; way = refl; silent = other; asked = λ before. refl }

pub quiet_began : (line : ℕ) (asked : Asked) (slot : ℕ) → (asked.line == line) ≡ false → IsQuiet line (Began asked slot)
quiet_began line asked slot differ = record { steps = refl; way = refl; silent = refl; asked = λ before. ap (λ b. cond b (Some asked) before) differ }

or_false : (b : Bool) → b ≡ false → (b || false) ≡ false
or_false b is = ap (λ c. c || false) is

pub quiet_refused : (line : ℕ) (s : SiteId) (other : ℕ) (reply : Reply) → (other == line) ≡ false → IsQuiet line (Refused s other reply)
quiet_refused line s other reply differ = record { steps = refl; way = refl; silent = or_false (other == line) differ; asked = λ before. refl }

-- ---- an operation for another line, or for none

pub neither : (line : ℕ) (by : Doer) → is_for line by ≡ false → (is_own line by ≡ false) × (is_on_way line by ≡ false)
neither line (Itself other) none = (by (other == line) none, refl)
  where
    by : (b : Bool) → (b || false) ≡ false → b ≡ false
    by true is = absurd (true≢false is)
    by false is = refl
neither line (OnWay other) none = (refl, none)
neither line House none = (refl, refl)
neither line (AfterStop slot) none = (refl, refl)

pub quiet_did : (line : ℕ) (o : Operation) (reply : Option Reply) → is_for line o.by ≡ false → IsQuiet line (Did o reply)
quiet_did line o reply none = by reply
  where
    own : steps_in line (Did o reply) ≡ []
    own = ap (λ b. cond b (step_of o ∷ []) []) (neither line o.by none).0

    on_way : way_in line (Did o reply) ≡ []
    on_way = ap (λ b. cond b (step_of o ∷ []) []) (neither line o.by none).1

    by : (r : Option Reply) → IsQuiet line (Did o r)
    by None = record { steps = own; way = on_way; silent = refl; asked = λ before. refl }
    by (Some told) = record { steps = own; way = on_way; silent = or_false (is_for line o.by) none; asked = λ before. refl }

-- ---- so what is held stays

abbrev pub open_on : (line : ℕ) (h : Happening) (run : List Happening) → IsQuiet line h → IsOpen line run → IsOpen line (h ∷ run)
open_on line h run quiet begun = record {
  asked = begun.asked;
  is = quiet.asked _ ∙ begun.is;
  unended = ap (λ b. b || has_ended line run) quiet.silent ∙ begun.unended;
}

pub steps_on : (line : ℕ) (h : Happening) (run : List Happening) → IsQuiet line h → steps_of line (h ∷ run) ≡ steps_of line run
steps_on line h run quiet = ap (λ xs. steps_of line run ++ xs) quiet.steps ∙ append-nil (steps_of line run)

pub way_on : (line : ℕ) (h : Happening) (run : List Happening) → IsQuiet line h → way_of line (h ∷ run) ≡ way_of line run
way_on line h run quiet = ap (λ xs. way_of line run ++ xs) quiet.way ∙ append-nil (way_of line run)

module _ {R : Type 0} (stands : R → Standing) (seat : Seat) (who : Instance) (h : Happening) (run : List Happening) where
  -- the request of a line that goes on with no step of its own
  pub underway_still : (r : Running R) (begun : IsOpen r.line (h ∷ run)) → steps_of r.line (h ∷ run) ≡ steps_of r.line run → (way : IsUnderWay stands seat who run r) → begun.asked ≡ way.begun.asked
      → IsUnderWay stands seat who (h ∷ run) r
  underway_still r begun steps way same = record {
    begun = begun;
    mine = ap (λ (a : Asked). a.who) same ∙ way.mine;
    start = way.start;
    plan = subst (λ (a : Asked). IsPlanFor seat a.command way.start) (sym same) way.plan;
    labels = way.labels;
    feds = way.feds;
    walk = subst (λ xs. IsWalk way.start.labels way.start.plan way.feds xs (stands r.request).plan) (sym steps) way.walk;
    given = subst AreGiven (sym steps) way.given;
    standalone = subst TellAllStandalone (sym steps) way.standalone;
    calm = λ looks. way.calm (sym (ap (λ (a : Asked). joins_a_line (profile a.command)) same) ∙ looks);
  }

  pub underway_on : (r : Running R) → IsQuiet r.line h → IsUnderWay stands seat who run r → IsUnderWay stands seat who (h ∷ run) r
  underway_on r quiet way = underway_still r (open_on r.line h run quiet way.begun) (steps_on r.line h run quiet) way refl

  -- what it has learned stays
  pub learned_still : (r : Running R) (k : Knowledge) (begun : IsOpen r.line (h ∷ run)) → steps_of r.line (h ∷ run) ≡ steps_of r.line run → (has : HasLearned stands run r k) → begun.asked ≡ has.begun.asked
      → HasLearned stands (h ∷ run) r k
  learned_still r k begun steps has same = record {
    begun = begun;
    seat = has.seat;
    start = has.start;
    plan = subst (λ (a : Asked). IsPlanFor has.seat a.command has.start) (sym same) has.plan;
    labels = has.labels;
    feds = has.feds;
    walk = subst (λ xs. IsWalk has.start.labels has.start.plan has.feds xs (stands r.request).plan) (sym steps) has.walk;
    known = has.known;
  }

  pub learned_on : (o : Option (Occupant R)) (k : Knowledge) → ((line : ℕ) → script_line o ≡ Some line → IsQuiet line h) → HasLearnedIf stands run (running_in o) k → HasLearnedIf stands (h ∷ run) (running_in o) k
  learned_on None k quiet has = tt
  learned_on (Some (occupant.Refused line refusal)) k quiet has = tt
  learned_on (Some (occupant.Running r)) k quiet has =
      learned_still r k (open_on r.line h run (quiet r.line refl) has.begun) (steps_on r.line h run (quiet r.line refl)) has refl

  refused_on : (line : ℕ) (refusal : Refusal) → IsQuiet line h → IsRefusedAtOnce seat who run line refusal → IsRefusedAtOnce seat who (h ∷ run) line refusal
  refused_on line refusal quiet held = record {
    begun = open_on line h run quiet held.begun;
    mine = held.mine;
    start = held.start;
    plan = held.plan;
    ends = held.ends;
    none = steps_on line h run quiet ∙ held.none;
  }

  pub held_on : (o : Option (Occupant R)) → ((line : ℕ) → script_line o ≡ Some line → IsQuiet line h)
      → IsHeldRightly stands seat who run o → IsHeldRightly stands seat who (h ∷ run) o
  held_on None quiet held = tt
  held_on (Some (occupant.Refused line refusal)) quiet held = refused_on line refusal (quiet line refl) held
  held_on (Some (occupant.Running r)) quiet held = underway_on r (quiet r.line refl) held
