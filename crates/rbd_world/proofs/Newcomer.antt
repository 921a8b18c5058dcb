-- A client begins a command whose line is new: its request stands where the command's plan begins.
use Rattle.std.proofs.Common.{◌≡◌, ◌≢◌, ◌⊎◌, inl, inr, ℕ, ◌==◌, Bool, cond, true, false, [], ◌∷◌, ◌++◌, Option, Some, None, refl, sym, ap, ◌∙◌, subst}
use Rattle.std.proofs.lemmas.Bool.{eq-eqb, eqb-true, ne_eqb, true≢false}
use Rattle.std.proofs.lemmas.Option.{none-some, same_Some}
use Rattle.rbd_client.specs.declared.slot_state.SlotState.{SlotState}
use Rattle.rbd_client.specs.declared.slot_state.Way.TheVariants as way
use Rattle.rbd_client.specs.Client.{ClientView}
use Rattle.rbd_commands.specs.declared.command.Command.{Command}
use Rattle.rbd_commands.specs.Quiescing.{quiescing_of}
use Rattle.rbd_knowledge.specs.Truth.{IsTrueOf}
use Rattle.rbd_knowledge.proofs.Calls.{submitted_is_true}
use Rattle.rbd_kinds.specs.declared.id.Instance.{Instance}
use Rattle.rbd_kinds.specs.declared.id.SiteId.{SiteId}
use Rattle.rbd_knowledge.specs.Knowing.{KnowsIn}
use Rattle.rbd_knowledge.proofs.Calmly.{look_is_calm}
use Rattle.rbd_knowledge.proofs.Newcomers.{newcomer_knows}
use Rattle.rbd_machine.specs.Knowledge.{Knowledge, nothing_known}
use Rattle.rbd_machine.specs.Plan.{Standing}
use Rattle.rbd_machine.specs.Refused.{AreGiven}
use Rattle.rbd_interference.specs.Beside.{AreBeside}
use Rattle.rbd_catalog.specs.CommandsLawful.{command_is_lawful}
use Rattle.rbd_catalog.specs.Plans.{IsPlanFor, is_built}
use Rattle.rbd_catalog.specs.Profile.{changed_extent}
use Rattle.rbd_catalog.proofs.Plans.{has_plan}
use Rattle.rbd_slots.specs.declared.running.Occupant.{Occupant}
use Rattle.rbd_slots.specs.declared.running.Occupant.TheVariants as occupant
use Rattle.rbd_slots.specs.Lines.{LinesView, lines_of}
use Rattle.rbd_queue.specs.Line.{member_of}
use Rattle.rbd_slots.specs.Advance.{track_of}
use Rattle.rbd_slots.proofs.Way.{nowhere_course}
use Rattle.rbd_world.specs.Ways.{LooksAtItsOwn}
use Rattle.rbd_slots.specs.Session.{IsNewcomer, held_in, running_at, running_in, script_line}
use Rattle.rbd_world.specs.declared.event.Event.TheVariants as event
use Rattle.rbd_world.specs.Order.{AreWritesInOrder}
use Rattle.rbd_world.specs.Run.{Asked, Happening, Began, asked_by, steps_of, way_of}
use Rattle.rbd_machine.specs.Standalone.{TellAllStandalone}
use Rattle.rbd_machine.specs.declared.seat.Seat.{Seat}
use Rattle.rbd_world.specs.Seats.{seat_at, seat_of_home}
use Rattle.rbd_world.specs.Sound.{AreLinesApart, InSlot, Sending, IsBegin, IsHeldRightly, IsInSlot, IsLiving, IsOpen, IsSoundWorld, KeepsToItsWay, has_ended, held_of, known_in, line_at, HasLearnedIf}
use Rattle.rbd_world.specs.Step.{Begins, BeginsIn, Does, DoesAtSites, IsSoundIf, begins_of, is_begun}
use Rattle.rbd_world.specs.World.{WorldView, client_in, records_in, session_of_client}
use Rattle.rbd_world.proofs.Carried.{IsCarried, whole_in}
use Rattle.rbd_world.proofs.Changed.{GoesOnAs, IsElsewhere, all_but, client_is, has_become, here_or_elsewhere, line_elsewhere, line_is, living_of, open_there}
use Rattle.rbd_world.proofs.GoesOn.{goes_carries}
use Rattle.rbd_world.proofs.OneMoreWrite.{begun_order}
use Rattle.rbd_world.proofs.OrderedWorld.{freed_order, order_beside}
use Rattle.rbd_world.proofs.Quiet.{IsQuiet, quiet_began}
use Rattle.rbd_world.proofs.Rest.{StaysTrue, same_true, still_may_come, where_standing}
use Rattle.rbd_world.proofs.Runs.{IsUnheard, begun_is_asked, unheard}
use Rattle.rbd_world.proofs.Slots.{in_this_slot, open_back, other_slots}
use Rattle.rbd_world.proofs.Watching.{counts_but, counts_on}
use Rattle.rbd_site.proofs.OneChange.{none_from_test}
use Rattle.rbd_world.specs.Closes.{StandsFirst, StandsFirstIf, has_let_go}

module _ {R : Type 0} (stands : R → Standing) (old new : WorldView R) (w : IsSoundWorld stands old) (session line : ℕ) (command : Command) (built : is_built command ≡ true)
    (c : ClientView R) (there : client_in session old.lives ≡ Some c) (fresh : is_begun line old.history ≡ false) where
  abbrev me : Instance
  me = c.session.instance

  abbrev is_asked : Asked
  is_asked = begins_of me line command

  abbrev lowest : ℕ
  lowest = c.session.lowest

  abbrev does_begin : Happening
  does_begin = Began is_asked lowest

  abbrev home : SiteId
  home = w.told.homes session

  abbrev seat : Seat
  seat = seat_at w.told.homes session

  abbrev knew : ℕ → Knowledge
  knew = known_in w.knows session

  living : IsLiving stands home session w.told.run knew c
  living = w.clients session c there

  unasked : asked_by line w.told.run ≡ None
  unasked = none_from_test (asked_by line w.told.run) (sym (begun_is_asked line w.told.run) ∙ ap (is_begun line) (sym w.told.history) ∙ fresh)

  unknown : IsUnheard line w.told.run
  unknown = unheard w.told.homes line w.told.run w.told.right unasked

  no_steps : steps_of line (does_begin ∷ w.told.run) ≡ []
  no_steps = ap (λ xs. xs ++ []) unknown.steps

  asked_now : asked_by line (does_begin ∷ w.told.run) ≡ Some is_asked
  asked_now = ap (λ b. cond b (Some is_asked) (asked_by line w.told.run)) (eq-eqb line line refl)

  knows_nothing : knew lowest ≡ nothing_known
  knows_nothing = subst (λ o. KnowsIn stands lowest (running_in o) c.session.lines (knew lowest)) living.sound.session.lowest.free (living.know lowest)

  -- another slot's line is another
  differs : (m x other : ℕ) → line_at m x old.lives ≡ Some other → line ≢ other
  differs m x other is same =
      let begun = open_there stands old w m x other is in
      none-some begun.asked (sym unasked ∙ ap (λ l. asked_by l w.told.run) same ∙ begun.is)

  -- ---- what its slot holds

  abbrev IsNew : Option (Occupant R) → Type 0
  IsNew = IsNewcomer stands IsPlanFor changed_extent seat line command

  abbrev opened : (l : ℕ) → l ≡ line → IsOpen l (does_begin ∷ w.told.run)
  opened l same = record {
    asked = is_asked;
    is = ap (λ n. asked_by n (does_begin ∷ w.told.run)) same ∙ asked_now;
    unended = ap (λ n. has_ended n w.told.run) same ∙ unknown.unended;
  }

  holds_rightly : (o : Option (Occupant R)) → IsNew o → IsHeldRightly stands seat me (does_begin ∷ w.told.run) o
  holds_rightly None is = absurd is
  holds_rightly (Some (occupant.Refused number refusal)) (same, ends) =
      let one = has_plan seat command built in
      record {
        begun = opened number same;
        mine = refl;
        start = one.standing;
        plan = one.is;
        ends = ends one.standing one.is;
        none = ap (λ l. steps_of l (does_begin ∷ w.told.run)) same ∙ no_steps;
      }
  holds_rightly (Some (occupant.Running r)) begins =
      let none = ap (λ l. steps_of l (does_begin ∷ w.told.run)) begins.is_line ∙ no_steps in
      record {
        begun = opened r.line begins.is_line;
        mine = refl;
        start = stands r.request;
        plan = begins.stands_there;
        labels = refl;
        feds = [];
        walk = (none, refl);
        given = subst AreGiven (sym none) tt;
        standalone = subst TellAllStandalone (sym none) tt;
        calm = λ looks. (look_is_calm seat command (stands r.request) looks begins.stands_there, begins.place);
      }

  -- it has learned nothing
  learned_new : (o : Option (Occupant R)) → IsNew o → HasLearnedIf stands (does_begin ∷ w.told.run) (running_in o) (knew lowest)
  learned_new None is = tt
  learned_new (Some (occupant.Refused number refusal)) is = tt
  learned_new (Some (occupant.Running r)) begins = record {
    begun = opened r.line begins.is_line;
    seat = seat;
    start = stands r.request;
    plan = begins.stands_there;
    labels = refl;
    feds = [];
    walk = (ap (λ l. steps_of l (does_begin ∷ w.told.run)) begins.is_line ∙ no_steps, refl);
    known = knows_nothing;
  }

  -- and let go of no lock
  first_new : (lines : LinesView) (o : Option (Occupant R)) → IsNew o → StandsFirstIf (does_begin ∷ w.told.run) lowest lines (running_in o)
  first_new lines None is = tt
  first_new lines (Some (occupant.Refused number refusal)) is = tt
  first_new lines (Some (occupant.Running r)) begins =
      λ s image gone. absurd (true≢false (sym gone ∙ ap (has_let_go s image) (ap (λ l. steps_of l (does_begin ∷ w.told.run)) begins.is_line ∙ no_steps)))

  -- its way isn't begun
  begins_no_way : (lines : LinesView) (o : Option (Occupant R)) → IsNew o → KeepsToItsWay stands (does_begin ∷ w.told.run) lowest lines way.Unbegun (running_in o)
  begins_no_way lines None is = tt
  begins_no_way lines (Some (occupant.Refused number refusal)) is = tt
  begins_no_way lines (Some (occupant.Running r)) begins = (
    subst (λ place. LooksAtItsOwn place (stands r.request).plan) (sym (nowhere_course lowest (track_of r lines) begins.place)) tt,
    inl (ap (λ l. way_of l (does_begin ∷ w.told.run)) begins.is_line ∙ ap (λ xs. xs ++ []) unknown.way),
  )

  knows_in : (lines : LinesView) (o : Option (Occupant R)) → IsNew o → KnowsIn stands lowest (running_in o) lines (knew lowest)
  knows_in lines None is = absurd is
  knows_in lines (Some (occupant.Refused number refusal)) is = knows_nothing
  knows_in lines (Some (occupant.Running r)) begins =
      subst (KnowsIn stands lowest (Some r) lines) (sym knows_nothing)
      (newcomer_knows stands IsPlanFor changed_extent (λ work. Unit {0}) (λ at work s served is. command_is_lawful at work s is) seat line lowest command r lines tt begins)

  line_of_new : (o : Option (Occupant R)) (other : ℕ) → IsNew o → script_line o ≡ Some other → line ≡ other
  line_of_new None other is at_line = absurd is
  line_of_new (Some (occupant.Refused number refusal)) other is at_line = sym is.0 ∙ same_Some number other at_line
  line_of_new (Some (occupant.Running r)) other begins at_line = sym begins.is_line ∙ same_Some r.line other at_line

  line_now : (o : Option (Occupant R)) → IsNew o → script_line o ≡ Some line
  line_now None is = absurd is
  line_now (Some (occupant.Refused number refusal)) is = ap Some is.0
  line_now (Some (occupant.Running r)) is = ap Some is.is_line

  -- ---- the world

  module _ (d : ClientView R) (goes : GoesOnAs old new session c d) (became : BeginsIn stands line command c d) where
    abbrev begins : Begins stands line command c.session d.session
    begins = became.begins

    is_new : IsNew (held_in lowest d.session.slots)
    is_new =
        subst (λ n. IsNewcomer stands IsPlanFor changed_extent (seat_of_home n home) line command (held_in lowest d.session.slots)) living.whose
        (subst (λ s. IsNewcomer stands IsPlanFor changed_extent (seat_of_home c.session.instance.session s) line command (held_in lowest d.session.slots)) living.at_home begins.held)

    abbrev Where : (m x : ℕ) → Type 0
    Where m x = ((m ≡ session) × (x ≡ lowest)) ⊎ IsElsewhere session lowest m x

    begun_apart : AreLinesApart new.lives
    begun_apart l m x o y one two = by (here_or_elsewhere session lowest m x) (here_or_elsewhere session lowest o y)
      where
        elsewhere : (m x : ℕ) → IsElsewhere session lowest m x → line_at m x new.lives ≡ Some l → line_at m x old.lives ≡ Some l
        elsewhere m x where_else is = sym (line_elsewhere old new session c d goes lowest begins.slots m x where_else) ∙ is

        here : (m x : ℕ) → (m ≡ session) × (x ≡ lowest) → line_at m x new.lives ≡ Some l → line ≡ l
        here m x (same, at) is =
            line_of_new (held_in lowest d.session.slots) l is_new
            (sym (line_is old new session c d goes lowest)
            ∙ sym (ap (λ i. line_at i x new.lives) same ∙ ap (λ i. line_at session i new.lives) at) ∙ is)

        by : Where m x → Where o y → (m ≡ o) × (x ≡ y)
        by (inl (one, two)) (inl (three, four)) = (one ∙ sym three, two ∙ sym four)
        by (inl at) (inr where_else) = absurd (differs o y l (elsewhere o y where_else two) (here m x at one))
        by (inr where_else) (inl at) = absurd (differs m x l (elsewhere m x where_else one) (here o y at two))
        by (inr this) (inr that) = w.apart l m x o y (elsewhere m x this one) (elsewhere o y that two)

    slots_then : (l : ℕ) → IsOpen l (does_begin ∷ w.told.run) → (b : Bool) → (line == l) ≡ b → IsInSlot l new.lives
    slots_then l now true own =
        in_this_slot old new session c d goes lowest begins.slots l (line_now (held_in lowest d.session.slots) is_new ∙ ap Some (eqb-true line l own))
    slots_then l now false other =
        other_slots old new session c d goes lowest begins.slots l (λ is. none-some l (sym (ap script_line living.sound.session.lowest.free) ∙ is))
        (w.slots l (open_back l does_begin w.told.run (quiet_began l is_asked lowest other) now))

    quiet : (x other : ℕ) → script_line (held_in x c.session.slots) ≡ Some other → IsQuiet other does_begin
    quiet x other is = quiet_began other is_asked lowest (ne_eqb line other (differs session x other (ap (λ o. script_line (held_of x (session_of_client o))) there ∙ is)))

    quiet_others : (m : ℕ) (q : ClientView R) → m ≢ session → client_in m old.lives ≡ Some q → (x other : ℕ) → script_line (held_in x q.session.slots) ≡ Some other → IsQuiet other does_begin
    quiet_others m q apart at x other is = quiet_began other is_asked lowest (ne_eqb line other (differs m x other (ap (λ o. script_line (held_of x (session_of_client o))) at ∙ is)))

    order_then : (o : Option (Occupant R)) → held_in lowest d.session.slots ≡ o → IsNew o → AreWritesInOrder stands home me (does_begin ∷ w.told.run) c.session → AreWritesInOrder stands home me (does_begin ∷ w.told.run) d.session
    order_then None at is keeps = absurd is
    order_then (Some (occupant.Refused number refusal)) at is keeps =
        freed_order stands home me (does_begin ∷ w.told.run) lowest c.session d.session begins.slots begins.lines (ap running_in at) keeps
    order_then (Some (occupant.Running r)) at is keeps =
        begun_order stands seat me lowest line command (does_begin ∷ w.told.run) c.session d.session r living.sound.session (ap running_in living.sound.session.lowest.free) (ap running_in at) is
        begins.slots begins.lines no_steps is_asked asked_now refl keeps

    begun_carries : DoesAtSites does_begin old.sites new.sites → ((m : ℕ) → IsSoundIf stands (client_in m new.lives)) → IsCarried stands old new w does_begin
    begun_carries at_sites sound =
        let stays : (s : SiteId) → StaysTrue stands old new w s (records_in s new.sites) = λ s. same_true stands old new w s (records_in s new.sites) (at_sites.records s) in
        let all = all_but stands knew lowest c.session d.session begins.slots begins.lines living.know (knows_in d.session.lines (held_in lowest d.session.slots) is_new) in
        let due : IsBegin is_asked w.told.run = record { new = unasked; runs = living.runs } in
        goes_carries stands old new w does_begin session c d goes there begins.client.instance (λ m l. refl) (λ m x o. refl) knew
        (λ g x apart s. (stays s).beside me (w.who g) (knew x) (w.knows g)
        (subst (λ i. AreBeside s (records_in s old.sites) i (w.who g) (knew x) (w.knows g)) (w.in_slots session x c there) (w.beside (InSlot session x) g apart s)))
        (λ a g apart s. (stays s).beside (w.who a) (w.who g) (w.knows a) (w.knows g) (w.beside a g apart s))
        (where_standing w.told.homes w.told.run w.told.right) due (λ s. (stays s).whole (whole_in stands old w s))
        (living_of stands home session does_begin w.told.run (λ m l. refl) knew knew lowest c d living begins.slots became.states begins.client (λ x other apart is. quiet x other is)
        (subst (IsSoundIf stands) (client_is old new session c d goes) (sound session)) all (holds_rightly (held_in lowest d.session.slots) is_new)
        (subst (λ (s : SlotState). KeepsToItsWay stands (does_begin ∷ w.told.run) lowest d.session.lines s.way (running_at lowest d.session)) (sym became.state) (begins_no_way d.session.lines (held_in lowest d.session.slots) is_new))
        (λ x differ. refl) (learned_new (held_in lowest d.session.slots) is_new) (became.house.release ∙ living.releases)
        (counts_but me (does_begin ∷ w.told.run) c d lowest became.house.locks became.states (ap (λ (s : SlotState). s.way) became.state) (counts_on me does_begin w.told.run c (λ s image. refl) living.watches))
        (first_new d.session.lines (held_in lowest d.session.slots) is_new) (λ x differ s image first. subst (λ ls. StandsFirst x (lines_of ls s image)) (sym begins.lines) first)
        (λ x differ s image. ap (λ ls. member_of x (lines_of ls s image)) begins.lines))
        quiet_others begun_apart (λ l now. slots_then l now (line == l) refl)
        (λ s. (stays s).clients d.session.instance knew d
        (subst (λ i. IsTrueOf s (records_in s old.sites) i knew d) (sym begins.client.instance)
        (submitted_is_true s (records_in s old.sites) me knew c d (w.truth session c there s) lowest (quiescing_of command) became.state became.states became.house.locks)))
        (λ m q apart is s. (stays s).clients q.session.instance (known_in w.knows m) q (w.truth m q is s))
        (λ m x y is. still_may_come stands old new w (λ s. records_in s new.sites) stays m y (w.knows (Sending m x)) ((w.sending m x y is).1))
        tt tt (λ m q apart is other writer. refl)
        (subst (λ i. AreWritesInOrder stands home i (does_begin ∷ w.told.run) d.session) (sym begins.client.instance)
        (order_then (held_in lowest d.session.slots) refl is_new
        (order_beside stands old new w does_begin due home me lowest c.session (λ x other apart is. quiet x other is) (ap running_in living.sound.session.lowest.free) (λ other writer. refl)
        (w.in_order session c there))))
        (λ x t image drawn. w.new (InSlot session x) t image drawn) (λ x. w.reads (InSlot session x)) (λ g strange. w.reads g) (λ m q apart at. (refl, λ s i. refl))

  pub began_keeps : Does stands (event.Submit session line command) does_begin old new → DoesAtSites does_begin old.sites new.sites
      → ((m : ℕ) → IsSoundIf stands (client_in m new.lives)) → IsCarried stands old new w does_begin
  began_keeps does at_sites sound =
      let become = has_become stands (event.Submit session line command) does_begin old new session c there (λ m. refl) (λ at o n is. is) (λ l. refl) (λ l. refl) does in
      begun_carries become.after become.goes become.becomes at_sites sound
