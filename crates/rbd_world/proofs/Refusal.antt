-- A poll of a request that is refused before any operation: its reply is meant, and its slot free.
use Rattle.std.proofs.Common.{◌≡◌, ◌≢◌, inl, inr, ℕ, ◌==◌, ◌||◌, Bool, true, false, [], ◌∷◌, ◌++◌, Some, refl, sym, ap, ◌∙◌, subst}
use Rattle.std.proofs.lemmas.Bool.{true≢false, eq-eqb}
use Rattle.std.proofs.lemmas.Option.{none-some, same_Some}
use Rattle.rbd_client.specs.declared.slot_state.SlotState.{SlotState}
use Rattle.rbd_client.specs.Client.{ClientView, slot_state}
use Rattle.rbd_commands.specs.declared.refusal.Refusal.{Refusal}
use Rattle.rbd_knowledge.specs.Truth.{IsTrueOf}
use Rattle.rbd_knowledge.proofs.Calls.{freed_is_true}
use Rattle.rbd_kinds.specs.declared.id.Instance.{Instance}
use Rattle.rbd_kinds.specs.declared.id.SiteId.{SiteId}
use Rattle.rbd_kinds.specs.declared.reply.Reply.TheVariants as reply
use Rattle.rbd_knowledge.specs.Knowing.{KnowsIn}
use Rattle.rbd_machine.specs.Knowledge.{Knowledge, nothing_known}
use Rattle.rbd_machine.specs.Plan.{Return, Standing}
use Rattle.rbd_meaning.specs.Meant.{IsMeantBy}
use Rattle.rbd_interference.specs.Beside.{AreBeside}
use Rattle.rbd_catalog.specs.CommandsMeant.{command_is_meant}
use Rattle.rbd_slots.specs.declared.running.Occupant.TheVariants as occupant
use Rattle.rbd_slots.specs.Session.{held_in, running_in, script_line}
use Rattle.rbd_world.specs.declared.event.Event.TheVariants as event
use Rattle.rbd_world.specs.Order.{AreWritesInOrder}
use Rattle.rbd_world.specs.Run.{Happening, Refused, steps_of}
use Rattle.rbd_world.specs.Seats.{seat_at}
use Rattle.rbd_world.specs.Sound.{InSlot, Sending, IsHeldRightly, IsInSlot, IsLedTo, IsLiving, IsOpen, IsRefusedAtOnce, IsReplyMeant, IsSoundWorld, KeepsToItsWay, held_of, known_in, HasLearnedIf}
use Rattle.rbd_world.specs.Step.{Does, DoesAtSites, IsSoundIf, Serves}
use Rattle.rbd_world.specs.World.{WorldView, client_in, records_in, session_of_client}
use Rattle.rbd_world.proofs.Carried.{IsCarried, whole_in}
use Rattle.rbd_world.proofs.Changed.{GoesOnAs, all_but, apart_of, client_is, has_become, line_apart, living_of}
use Rattle.rbd_world.proofs.GoesOn.{goes_carries}
use Rattle.rbd_world.proofs.OrderedWorld.{freed_order, order_beside}
use Rattle.rbd_world.proofs.Quiet.{IsQuiet, quiet_refused}
use Rattle.rbd_world.proofs.Rest.{StaysTrue, same_true, still_may_come, where_standing}
use Rattle.rbd_world.proofs.Slots.{not_open, open_back, other_slots}
use Rattle.rbd_world.proofs.Watching.{counts_but, counts_on}
use Rattle.rbd_world.specs.Closes.{StandsFirst, StandsFirstIf}
use Rattle.rbd_queue.specs.Line.{member_of}
use Rattle.rbd_slots.specs.Lines.{lines_of}

module _ {R : Type 0} (stands : R → Standing) (old new : WorldView R) (w : IsSoundWorld stands old) (session slot : ℕ) (c : ClientView R) (there : client_in session old.lives ≡ Some c)
    (line : ℕ) (refusal : Refusal) (holds : held_in slot c.session.slots ≡ Some (occupant.Refused line refusal)) where
  abbrev me : Instance
  me = c.session.instance

  abbrev home : SiteId
  home = w.told.homes session

  abbrev knew : ℕ → Knowledge
  knew = known_in w.knows session

  abbrev does_refuse : Happening
  does_refuse = Refused c.session.home line (reply.Refused refusal)

  living : IsLiving stands home session w.told.run knew c
  living = w.clients session c there

  refused_there : IsRefusedAtOnce (seat_at w.told.homes session) me w.told.run line refusal
  refused_there = subst (IsHeldRightly stands (seat_at w.told.homes session) me w.told.run) holds (living.held slot)

  knows_nothing : knew slot ≡ nothing_known
  knows_nothing = subst (λ o. KnowsIn stands slot (running_in o) c.session.lines (knew slot)) holds (living.know slot)

  refusal_meant : IsReplyMeant w.told.homes line (reply.Refused refusal) w.told.run (does_refuse ∷ w.told.run)
  refusal_meant = let at = refused_there in record {
    begun = at.begun;
    ended =
        subst (λ i. IsLedTo (seat_at w.told.homes i) at.begun.asked.command (steps_of line (does_refuse ∷ w.told.run)) (Return (reply.Refused refusal))) (sym (whose at.begun.asked.who at.mine))
        (subst (λ steps. IsLedTo (seat_at w.told.homes session) at.begun.asked.command steps (Return (reply.Refused refusal))) (sym (ap (λ xs. xs ++ []) at.none))
        (record { start = at.start; plan = at.plan; feds = []; walk = (refl, sym at.ends); given = tt; standalone = tt }));
    meant =
        subst (λ i. IsMeantBy (seat_at w.told.homes i) at.begun.asked.command (steps_of line (does_refuse ∷ w.told.run)) (reply.Refused refusal)) (sym (whose at.begun.asked.who at.mine))
        (subst (λ steps. IsMeantBy (seat_at w.told.homes session) at.begun.asked.command steps (reply.Refused refusal)) (sym (ap (λ xs. xs ++ []) at.none))
        (command_is_meant (seat_at w.told.homes session) at.begun.asked.command at.start [] [] (reply.Refused refusal) at.plan tt tt (refl, sym at.ends)));
  }
    where
      whose : (i : Instance) → i ≡ me → i.session ≡ session
      whose i mine = ap (λ (x : Instance). x.session) mine ∙ living.whose

  module _ (d : ClientView R) (goes : GoesOnAs old new session c d) (serves : Serves stands slot c d) where
    quiet : (x other : ℕ) → x ≢ slot → script_line (held_in x c.session.slots) ≡ Some other → IsQuiet other does_refuse
    quiet x other differ is =
        quiet_refused other c.session.home line (reply.Refused refusal)
        (line_apart old new session c d goes slot serves.slots w.apart line (ap script_line holds) session x other (inr differ) (ap (λ o. script_line (held_of x (session_of_client o))) there ∙ is))

    quiet_others : (m : ℕ) (q : ClientView R) → m ≢ session → client_in m old.lives ≡ Some q → (x other : ℕ) → script_line (held_in x q.session.slots) ≡ Some other → IsQuiet other does_refuse
    quiet_others m q differ at x other is =
        quiet_refused other c.session.home line (reply.Refused refusal)
        (line_apart old new session c d goes slot serves.slots w.apart line (ap script_line holds) m x other (inl differ) (ap (λ o. script_line (held_of x (session_of_client o))) at ∙ is))

    slots_then : (l : ℕ) → IsOpen l (does_refuse ∷ w.told.run) → (b : Bool) → (line == l) ≡ b → IsInSlot l new.lives
    slots_then l begun true own = absurd (not_open l does_refuse w.told.run (ap (λ b. b || false) own) begun)
    slots_then l begun false other =
        other_slots old new session c d goes slot serves.slots l
        (λ is. true≢false (sym (eq-eqb line l (same_Some line l (sym (ap script_line holds) ∙ is))) ∙ other))
        (w.slots l (open_back l does_refuse w.told.run (quiet_refused l c.session.home line (reply.Refused refusal) other) begun))

    serve_carries : DoesAtSites does_refuse old.sites new.sites → ((m : ℕ) → IsSoundIf stands (client_in m new.lives)) → IsCarried stands old new w does_refuse
    serve_carries at_sites sound =
        let stays : (s : SiteId) → StaysTrue stands old new w s (records_in s new.sites) = λ s. same_true stands old new w s (records_in s new.sites) (at_sites.records s) in
        let all =
        all_but stands knew slot c.session d.session serves.slots serves.lines living.know
        (subst (λ o. KnowsIn stands slot (running_in o) d.session.lines (knew slot)) (sym serves.held) knows_nothing) in
        goes_carries stands old new w does_refuse session c d goes there serves.client.instance (λ m l. refl) (λ m x o. refl) knew
        (λ g x apart s. (stays s).beside me (w.who g) (knew x) (w.knows g)
        (subst (λ i. AreBeside s (records_in s old.sites) i (w.who g) (knew x) (w.knows g)) (w.in_slots session x c there) (w.beside (InSlot session x) g apart s)))
        (λ a g apart s. (stays s).beside (w.who a) (w.who g) (w.knows a) (w.knows g) (w.beside a g apart s))
        (where_standing w.told.homes w.told.run w.told.right) refusal_meant (λ s. (stays s).whole (whole_in stands old w s))
        (living_of stands home session does_refuse w.told.run (λ m l. refl) knew knew slot c d living serves.slots serves.states serves.client quiet
        (subst (IsSoundIf stands) (client_is old new session c d goes) (sound session)) all (subst (IsHeldRightly stands (seat_at w.told.homes session) me (does_refuse ∷ w.told.run)) (sym serves.held) tt)
        (subst (λ o. KeepsToItsWay stands (does_refuse ∷ w.told.run) slot d.session.lines (slot_state slot d.slots).way (running_in o)) (sym serves.held) tt)
        (λ x differ. refl) (subst (λ o. HasLearnedIf stands (does_refuse ∷ w.told.run) (running_in o) (knew slot)) (sym serves.held) tt) (serves.house.release ∙ living.releases)
        (counts_but me (does_refuse ∷ w.told.run) c d slot serves.house.locks serves.states
        (ap (λ (s : SlotState). s.way) ((subst (IsSoundIf stands) (client_is old new session c d goes) (sound session)).free slot serves.held)) (counts_on me does_refuse w.told.run c (λ s image. refl) living.watches))
        (subst (λ o. StandsFirstIf (does_refuse ∷ w.told.run) slot d.session.lines (running_in o)) (sym serves.held) tt)
        (λ x differ s image first. subst (λ ls. StandsFirst x (lines_of ls s image)) (sym serves.lines) first) (λ x differ s image. ap (λ ls. member_of x (lines_of ls s image)) serves.lines))
        quiet_others (apart_of old new session c d goes slot serves.slots w.apart (λ l is. absurd (none-some l (sym (ap script_line serves.held) ∙ is))))
        (λ l now. slots_then l now (line == l) refl)
        (λ s. (stays s).clients d.session.instance knew d
        (subst (λ i. IsTrueOf s (records_in s old.sites) i knew d) (sym serves.client.instance)
        (freed_is_true s (records_in s old.sites) me knew c d (w.truth session c there s) stands (subst (IsSoundIf stands) (client_is old new session c d goes) (sound session)) slot serves.held serves.states serves.house.locks)))
        (λ m q apart is s. (stays s).clients q.session.instance (known_in w.knows m) q (w.truth m q is s))
        (λ m x y is. still_may_come stands old new w (λ s. records_in s new.sites) stays m y (w.knows (Sending m x)) ((w.sending m x y is).1))
        tt tt (λ m q apart is other writer. refl)
        (subst (λ i. AreWritesInOrder stands home i (does_refuse ∷ w.told.run) d.session) (sym serves.client.instance)
        (freed_order stands home me (does_refuse ∷ w.told.run) slot c.session d.session serves.slots serves.lines (ap running_in serves.held)
        (order_beside stands old new w does_refuse refusal_meant home me slot c.session quiet (ap running_in holds) (λ other writer. refl) (w.in_order session c there))))
        (λ x t image drawn. w.new (InSlot session x) t image drawn) (λ x. w.reads (InSlot session x)) (λ g strange. w.reads g) (λ m q apart is. (refl, λ s i. refl))

  pub refused_keeps : Does stands (event.Poll session slot) does_refuse old new → DoesAtSites does_refuse old.sites new.sites
      → ((m : ℕ) → IsSoundIf stands (client_in m new.lives)) → IsCarried stands old new w does_refuse
  refused_keeps does at_sites sound =
      let become = has_become stands (event.Poll session slot) does_refuse old new session c there (λ m. refl) (λ at o n is. is) (λ l. refl) (λ l. refl) does in
      serve_carries become.after become.goes become.becomes at_sites sound
