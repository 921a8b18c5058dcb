-- A poll of slot 0 that has an operation of a release done keeps a world sound.
use Rattle.std.proofs.Common.{◌≡◌, ℕ, ◌∷◌, Some, None, refl, sym, ap, ◌∙◌, subst}
use Rattle.std.proofs.lemmas.Option.{none-some}
use Rattle.rbd_client.specs.declared.actor.Actor.TheVariants as actor
use Rattle.rbd_client.specs.Actor.{actor_at, op_by, op_wanted}
use Rattle.rbd_client.specs.Client.{ClientView, slot_state}
use Rattle.rbd_client.specs.Feeding.{IsFedBy, ReleaseIsFed}
use Rattle.rbd_kinds.specs.declared.answer.Answer.{Answer}
use Rattle.rbd_kinds.specs.declared.id.Instance.{Instance}
use Rattle.rbd_kinds.specs.declared.id.SiteId.{SiteId}
use Rattle.rbd_kinds.specs.declared.machine.Fed.TheVariants as fed
use Rattle.rbd_machine.specs.Plan.{Standing}
use Rattle.rbd_lock.specs.Release.{release_op}
use Rattle.rbd_lock.specs.declared.release.Release.{Release}
use Rattle.rbd_slots.specs.Session.{SessionView, held_in, running_in, script_line}
use Rattle.rbd_site.specs.Step.{answer_to}
use Rattle.rbd_slots.specs.Lines.{lines_of}
use Rattle.rbd_world.specs.declared.event.Event.TheVariants as event
use Rattle.rbd_world.specs.Closes.{StandsFirst, StandsFirstIf}
use Rattle.rbd_world.specs.LetGo.{release_of}
use Rattle.rbd_world.specs.Run.{House, Happening, Did, Operation}
use Rattle.rbd_world.specs.Seats.{seat_at}
use Rattle.rbd_world.specs.Sound.{IsDue, IsHeldRightly, IsLiving, IsSoundWorld, KeepsToItsWay, known_in, HasLearnedIf}
use Rattle.rbd_world.specs.Step.{Does, DoesAtSites, Goes, IsSoundIf, operation_at}
use Rattle.rbd_world.specs.Ways.{IsNextOfRelease}
use Rattle.rbd_world.specs.World.{WorldView, client_in, records_in, site_in}
use Rattle.rbd_world.proofs.Acting.{all_know, beside_now, beside_of_others, done_so, knows_now, sending_now, standing, truth_now, truth_of_others, whole, new_now, others_know, others_read, reads_now}
use Rattle.rbd_world.proofs.Carried.{IsCarried}
use Rattle.rbd_world.proofs.Changed.{GoesOnAs, apart_of, client_is, has_become, living_of}
use Rattle.rbd_world.proofs.GoesOn.{goes_carries}
use Rattle.rbd_world.proofs.LetGo.{next_of_release, others_move_nothing, releases_then}
use Rattle.rbd_world.proofs.OrderedWorld.{no_turn, still_in_order}
use Rattle.rbd_world.proofs.Owes.{plain_owes, release_plain}
use Rattle.rbd_world.proofs.Quiet.{IsQuiet, quiet_did}
use Rattle.rbd_world.proofs.Slots.{open_back, other_slots}
use Rattle.rbd_world.proofs.Watching.{counts_fed, others_end_none, release_ends_none}

module _ {R : Type 0} (stands : R → Standing) (old new : WorldView R) (w : IsSoundWorld stands old) (session slot : ℕ) (c : ClientView R) (there : client_in session old.lives ≡ Some c)
    (free : held_in slot c.session.slots ≡ None) (x : Release) (acts : actor_at stands slot c ≡ actor.Release x) where
  abbrev me : Instance
  me = c.session.instance

  abbrev home : SiteId
  home = w.told.homes session

  abbrev told : Answer
  told = answer_to (records_in x.site old.sites) me (release_op x)

  abbrev operation : Operation
  operation = operation_at (site_in x.site old.sites) me House x.site (release_op x)

  abbrev does_it : Happening
  does_it = Did operation None

  wanted : op_wanted stands slot c ≡ Some (x.site, release_op x)
  wanted = ap (op_by stands slot c.session) acts

  living : IsLiving stands home session w.told.run (known_in w.knows session) c
  living = w.clients session c there

  -- it is the next of the release that is under way, or begins one
  next : IsNextOfRelease (release_of me w.told.run) x.site (release_op x)
  next = subst (λ o. IsNextOfRelease o x.site (release_op x)) living.releases (next_of_release stands slot c x acts)

  -- it is for no line
  quiet : (line : ℕ) → IsQuiet line does_it
  quiet line = quiet_did line operation None refl

  module _ (d : ClientView R) (became : Goes stands slot operation None c d) (goes_on : GoesOnAs old new session c d) (at_sites : DoesAtSites does_it old.sites new.sites)
      (sound : (m : ℕ) → IsSoundIf stands (client_in m new.lives)) where
    is_fed : ReleaseIsFed x x.site (release_op x) (fed.Answer told) None c d
    is_fed = subst (IsFedBy stands slot x.site (release_op x) (fed.Answer told) None c d) acts became.fed

    sound_then : IsSoundIf stands (Some d)
    sound_then = subst (IsSoundIf stands) (client_is old new session c d goes_on) (sound session)

    due : IsDue w.told.homes does_it w.told.run
    due = (done_so stands old new w session slot c there x.site (release_op x) wanted House None d became at_sites sound_then tt living.runs next, tt)

    still_free : held_in slot d.session.slots ≡ None
    still_free = ap (λ (s : SessionView R). held_in slot s.slots) is_fed.session ∙ free

    living_then : IsLiving stands home session (does_it ∷ w.told.run) (knows_now stands old new w session slot c there x.site (release_op x) wanted House None d became at_sites sound_then) d
    living_then =
        living_of stands home session does_it w.told.run (λ m l. refl) (known_in w.knows session)
        (knows_now stands old new w session slot c there x.site (release_op x) wanted House None d became at_sites sound_then) slot c d living became.slots became.states became.client (λ y line apart is. quiet line)
        sound_then (all_know stands old new w session slot c there x.site (release_op x) wanted House None d became at_sites sound_then)
        (subst (IsHeldRightly stands (seat_at w.told.homes session) me (does_it ∷ w.told.run)) (sym still_free) tt)
        (subst (λ o. KeepsToItsWay stands (does_it ∷ w.told.run) slot d.session.lines (slot_state slot d.slots).way (running_in o)) (sym still_free) tt)
        (others_know stands old new w session slot c there x.site (release_op x) wanted House None d became at_sites sound_then)
        (subst (λ o. HasLearnedIf stands (does_it ∷ w.told.run) (running_in o) (knows_now stands old new w session slot c there x.site (release_op x) wanted House None d became at_sites sound_then slot)) (sym still_free) tt)
        (is_fed.release ∙ sym (releases_then operation None w.told.run x refl refl refl))
        (counts_fed stands slot c me w.told.run living.watches operation None refl d became.states (λ y b on. release_ends_none x me x.site me told b.site b.image) wanted became.fed)
        (subst (λ o. StandsFirstIf (does_it ∷ w.told.run) slot d.session.lines (running_in o)) (sym still_free) tt)
        (λ y apart s image first. subst (λ (v : SessionView R). StandsFirst y (lines_of v.lines s image)) (sym is_fed.session) first) became.others

    release_carries : IsCarried stands old new w does_it
    release_carries =
        goes_carries stands old new w does_it session c d goes_on there became.client.instance (λ m l. refl) (λ m y o. refl)
        (knows_now stands old new w session slot c there x.site (release_op x) wanted House None d became at_sites sound_then)
        (beside_now stands old new w session slot c there x.site (release_op x) wanted House None d became at_sites sound_then)
        (beside_of_others stands old new w session slot c there x.site (release_op x) wanted House None d became at_sites sound_then)
        (standing stands old new w session slot c there x.site (release_op x) wanted House None d became at_sites sound_then) due
        (whole stands old new w session slot c there x.site (release_op x) wanted House None d became at_sites sound_then)
        living_then (λ m q apart at y line is. quiet line)
        (apart_of old new session c d goes_on slot became.slots w.apart (λ line is. absurd (none-some line (sym (ap script_line still_free) ∙ is))))
        (λ l now. other_slots old new session c d goes_on slot became.slots l (λ is. none-some l (sym (ap script_line free) ∙ is)) (w.slots l (open_back l does_it w.told.run (quiet l) now)))
        (truth_now stands old new w session slot c there x.site (release_op x) wanted House None d became at_sites sound_then)
        (truth_of_others stands old new w session slot c there x.site (release_op x) wanted House None d became at_sites sound_then)
        (sending_now stands old new w session slot c there x.site (release_op x) wanted House None d became at_sites sound_then)
        (λ calm. plain_owes operation None w.told.run (λ line. refl) (release_plain x)) (no_turn operation None w.told.run (λ line. refl)) (λ m q apart is other writer. refl)
        (still_in_order stands old new w does_it due session c d there is_fed.session (λ line before. refl) (λ other writer. refl))
        (new_now stands old new w session slot c there x.site (release_op x) wanted House None d became at_sites sound_then)
        (reads_now stands old new w session slot c there x.site (release_op x) wanted House None d became at_sites sound_then)
        (λ g strange. others_read stands old new w session slot c there x.site (release_op x) wanted House None d became at_sites sound_then g (strange slot))
        (λ m q apart is. (
          others_move_nothing q.session.instance operation None (λ same. apart (sym (w.clients m q is).whose ∙ sym same ∙ living.whose)),
          λ s image. others_end_none q.session.instance operation None s image (λ same. apart (sym (w.clients m q is).whose ∙ ap (λ (i : Instance). i.session) (sym same) ∙ living.whose)),
        ))

  pub release_keeps : Does stands (event.Poll session slot) does_it old new → DoesAtSites does_it old.sites new.sites → ((m : ℕ) → IsSoundIf stands (client_in m new.lives)) → IsCarried stands old new w does_it
  release_keeps does at_sites sound =
      let become = has_become stands (event.Poll session slot) does_it old new session c there (λ m. refl) (λ at o n is. is) (λ l. refl) (λ l. refl) does in
      release_carries become.after become.becomes become.goes at_sites sound
