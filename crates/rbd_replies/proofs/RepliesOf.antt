-- A reply that is meant by the operations of its line says what the flat-copy machine has at their
-- places: one line for each command.
use Rattle.std.proofs.Common.{◌≡◌, ◌⊎◌, inl, inr, ℕ, true, List, [], ◌∷◌, ◌++◌, Some, map, replicate, refl, sym, subst, ◌∙◌}
use Rattle.std.proofs.lemmas.Option.{same_Some}
use Rattle.rbd_commands.specs.declared.command.Command.{Command}
use Rattle.rbd_commands.specs.declared.command.Command.TheVariants as command
use Rattle.rbd_commands.specs.declared.refusal.Refusal.{Refusal}
use Rattle.rbd_kinds.specs.declared.id.SiteId.{SiteId}
use Rattle.rbd_kinds.specs.declared.reply.Reply.{Reply}
use Rattle.rbd_kinds.specs.declared.reply.Reply.TheVariants as reply
use Rattle.rbd_machine.specs.Path.{Answered}
use Rattle.rbd_machine.specs.Plan.{Return}
use Rattle.rbd_machine.specs.declared.seat.Seat.{Seat}
use Rattle.rbd_meaning.proofs.Meant.{meant_kind}
use Rattle.rbd_meaning.proofs.Undone.{meant_changes_nothing}
use Rattle.rbd_meaning.specs.Meant.{IsMeantBy}
use Rattle.rbd_world.specs.Run.{Asked, Happening, Did, Operation, asked_by, is_for}
use Rattle.rbd_world.specs.Seats.{seat_at}
use Rattle.rbd_world.specs.Sound.{IsRefusedOnWay, IsReplyMeant, IsRight, look_answered}
use Rattle.rbd_replies.proofs.ChangesDone.{create_creates, rename_renames, snap_create_takes, snap_remove_removes}
use Rattle.rbd_replies.proofs.HomeSteps.{meant_at_places}
use Rattle.rbd_replies.proofs.ListingsTold.{info_shows, lists_names, snaps_show, used_shows}
use Rattle.rbd_replies.proofs.NoEffects.{no_effects}
use Rattle.rbd_replies.proofs.OnWay.{EndsOnWay, ends_so, nothing_before, places_on_way, refused_there}
use Rattle.rbd_replies.proofs.PlacedRight.{ArePlacedRight, places_right}
use Rattle.rbd_replies.proofs.Places.{step_at, steps_at_places}
use Rattle.rbd_replies.proofs.ReadOrder.{AreOrdered, all_in, places_ordered}
use Rattle.rbd_replies.proofs.ReadPass.{shows_at_places}
use Rattle.rbd_replies.proofs.RefusalsNothing.{nothing_at_places}
use Rattle.rbd_replies.proofs.ChangesLike.{IsOfLine, discard_at, resize_at, rollback_at}
use Rattle.rbd_replies.proofs.InLine.{places_in_line}
use Rattle.rbd_replies.proofs.Removing.{remove_removes}
use Rattle.rbd_replies.proofs.WriteWhole.{writes_at_places}
use Rattle.rbd_replies.specs.Places.{Placed, effects_of, placed_of}
use Rattle.rbd_replies.specs.Replies.{IsReplyOf, changes_no_image}

reply_of : (homes : ℕ → SiteId) (seat : Seat) (places : List Placed) → ArePlacedRight homes places → AreOrdered places
    → (c : Command) (r : Reply) → IsMeantBy seat c (map step_at places) r → IsOfLine homes seat.home c places → (changes_no_image c ≡ true → effects_of places ≡ []) → IsReplyOf c r places
reply_of homes seat places right ordered c (reply.Refused x) meant of silent = λ early.
    nothing_at_places homes places right (meant_changes_nothing seat c (map step_at places) x meant early)
reply_of homes seat places right ordered (command.Create name size shape) reply.Done meant of silent = create_creates homes places right seat.home name size shape meant.1
reply_of homes seat places right ordered (command.Write name at bytes) reply.Done meant of silent = writes_at_places homes seat.home name at bytes places right meant
reply_of homes seat places right ordered (command.Fill name at len byte) reply.Done meant of silent = writes_at_places homes seat.home name at (replicate len byte) places right meant
reply_of homes seat places right ordered (command.Discard name at len) reply.Done meant of silent = discard_at homes seat.home name at len places right of meant
reply_of homes seat places right ordered (command.Resize name size) reply.Done meant of silent = resize_at homes seat.home name size places right of meant
reply_of homes seat places right ordered (command.SnapRollback name snap) reply.Done meant of silent = rollback_at homes seat.home name snap places right of meant
reply_of homes seat places right ordered (command.Rename from to) reply.Done meant of silent = rename_renames homes places right seat.home from to meant
reply_of homes seat places right ordered (command.Remove name) reply.Done meant of silent = remove_removes homes seat.home name seat.session places right ordered meant
reply_of homes seat places right ordered (command.Used name) (reply.Used used count) meant of silent = used_shows homes places right seat.home name used count meant
reply_of homes seat places right ordered (command.SnapCreate name snap) reply.Done meant of silent = snap_create_takes homes places right seat.home name snap meant
reply_of homes seat places right ordered (command.SnapRemove name snap) reply.Done meant of silent = snap_remove_removes homes places right seat.home name snap meant
reply_of homes seat places right ordered (command.Read name snap at len) (reply.Bytes bytes) meant of silent =
    shows_at_places homes seat.home name snap (record { at = at; len = len }) bytes places right ordered meant
reply_of homes seat places right ordered command.List (reply.Names names) meant of silent = lists_names homes places right seat.home names meant
reply_of homes seat places right ordered (command.Info name) (reply.Info h) meant of silent = info_shows homes places right seat.home name h meant
reply_of homes seat places right ordered (command.SnapList name) (reply.Snaps snaps) meant of silent = snaps_show homes places right seat.home name snaps meant
reply_of homes seat places right ordered (command.Create name size shape) _ (plain, meant) of silent = absurd meant
reply_of homes seat places right ordered c reply.Done meant of silent = (meant_kind seat c (map step_at places) reply.Done meant, silent refl)
reply_of homes seat places right ordered _ _ meant of silent = absurd meant

-- a reply that is meant behind a run that is right is the asked command's
pub reply_at_places : (homes : ℕ → SiteId) (line : ℕ) (r : Reply) (before run : List Happening) (asked : Asked) → IsRight homes run → asked_by line run ≡ asked_by line before
    → IsReplyMeant homes line r before run → asked_by line before ≡ Some asked → IsReplyOf asked.command r (placed_of line run)
reply_at_places homes line r before run asked right still is asks =
    let seat : Seat = seat_at homes is.begun.asked.who.session in
    let places : List Placed = placed_of line run in
    let meant : IsMeantBy seat is.begun.asked.command (map step_at places) r = subst (λ steps. IsMeantBy seat is.begun.asked.command steps r) (sym (steps_at_places line run)) is.meant in
    subst (λ (a : Asked). IsReplyOf a.command r places) (same_Some is.begun.asked asked (sym is.begun.is ∙ asks))
    (reply_of homes seat places (places_right homes line run right) (places_ordered line run) is.begun.asked.command r meant
    (record {
      line = line;
      run = run;
      right = right;
      asked = is.begun.asked;
      asks = still ∙ is.begun.is;
      command_is = refl;
      in_line = places_in_line line run;
      within = all_in line run;
      at_home = meant_at_places seat is.begun.asked.command places r meant;
    })
    (λ none. no_effects homes line run is.begun.asked right (record { last = Return r; led = is.ended }) none))

-- ---- a line that is refused on its way to the lock

-- it is refused as behind a look more
refused_before : (homes : ℕ → SiteId) (seat : Seat) (c : Command) (r : Reply) (x : Refusal) (more : List Answered) (places : List Placed) → ArePlacedRight homes places
    → r ≡ reply.Refused x → IsMeantBy seat c (map step_at places ++ more) r → IsReplyOf c r places
refused_before homes seat c r x more places right is meant =
    let steps : List Answered = map step_at places in
    let refused : IsMeantBy seat c (steps ++ more) (reply.Refused x) = subst (IsMeantBy seat c (steps ++ more)) is meant in
    subst (λ (told : Reply). IsReplyOf c told places) (sym is)
    (λ early. nothing_at_places homes places right (nothing_before steps more (meant_changes_nothing seat c (steps ++ more) x refused early)))

refused_on_way : (homes : ℕ → SiteId) (line : ℕ) (o : Operation) (r : Reply) (run : List Happening) (asked : Asked) → IsRight homes run
    → IsRefusedOnWay homes line r o run → asked_by line run ≡ Some asked → IsReplyOf asked.command r (placed_of line run)
refused_on_way homes line o r run asked right is asks =
    let told = refused_there o.answer r is.refuses in
    let look : List Answered = look_answered o.site is.image o.answer ∷ [] in
    subst (λ (a : Asked). IsReplyOf a.command r (placed_of line run)) (same_Some is.begun.asked asked (sym is.begun.is ∙ asks))
    (refused_before homes (seat_at homes is.begun.asked.who.session) is.begun.asked.command r told.reason look (placed_of line run) (places_right homes line run right) told.is
    (subst (λ steps. IsMeantBy (seat_at homes is.begun.asked.who.session) is.begun.asked.command (steps ++ look) r) (sym (steps_at_places line run)) is.meant))

-- ---- any that ends with an operation

pub reply_behind : (homes : ℕ → SiteId) (line : ℕ) (o : Operation) (r : Reply) (run : List Happening) (asked : Asked) → IsRight homes (Did o (Some r) ∷ run)
    → is_for line o.by ≡ true → asked_by line run ≡ Some asked → IsReplyOf asked.command r (placed_of line (Did o (Some r) ∷ run))
reply_behind homes line o r run asked right mine asks = by (ends_so homes line o r run mine right.1.1)
  where
    by : (IsReplyMeant homes line r run (Did o (Some r) ∷ run)) ⊎ (EndsOnWay homes line r o run o.by) → IsReplyOf asked.command r (placed_of line (Did o (Some r) ∷ run))
    by (inl is) = reply_at_places homes line r run (Did o (Some r) ∷ run) asked right refl is asks
    by (inr way) = subst (IsReplyOf asked.command r) (sym (places_on_way line o (Some r) run way.apart)) (refused_on_way homes line o r run asked right.2 way.is asks)
