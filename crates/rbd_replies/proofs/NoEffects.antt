-- What changes no image has no effect, wherever a walk of its plan led it; nor has a command that
-- is refused on its way to the lock.
use Rattle.std.proofs.Common.{◌≡◌, ℕ, Bool, true, false, List, [], ◌∷◌, ◌++◌, Some, refl, sym, ap, ◌∙◌, subst}
use Rattle.std.proofs.lemmas.Bool.{eqb-true}
use Rattle.rbd_commands.specs.declared.command.Command.{Command}
use Rattle.rbd_commands.specs.declared.command.Command.TheVariants as command
use Rattle.rbd_commands.specs.declared.refusal.Refusal.TheVariants as refusal
use Rattle.rbd_kinds.specs.declared.answer.Answer.TheVariants as answer
use Rattle.rbd_kinds.specs.declared.header_op.HeaderOp.TheVariants as header
use Rattle.rbd_kinds.specs.declared.id.SiteId.{SiteId}
use Rattle.rbd_kinds.specs.declared.operation.Op.TheVariants as op
use Rattle.rbd_kinds.specs.declared.reply.Reply.{Reply}
use Rattle.rbd_kinds.specs.declared.reply.Reply.TheVariants as reply
use Rattle.rbd_machine.specs.Path.{Answered, IsWalk, at_operation}
use Rattle.rbd_machine.specs.Plan.{Plan, Ask, Return}
use Rattle.rbd_machine.specs.declared.seat.Seat.{Seat}
use Rattle.rbd_meaning.proofs.Undone.{meant_unless_fenced}
use Rattle.rbd_meaning.specs.Undone.{ChangeNothing, lets_go}
use Rattle.rbd_data.specs.Read.{is_read}
use Rattle.rbd_catalog.proofs.Looks.{looks_refuse}
use Rattle.rbd_catalog.specs.CommandsMeant.{command_is_meant}
use Rattle.rbd_slots.specs.Session.{is_look_at, kind_asked}
use Rattle.rbd_world.proofs.RefusedOnWay.{looks_at}
use Rattle.rbd_world.proofs.Walks.{given_more, led_on, standalone_more}
use Rattle.rbd_world.specs.Run.{Asked, Doer, Itself, OnWay, House, AfterStop, Happening, Did, Operation, is_on_way, steps_of}
use Rattle.rbd_world.specs.Seats.{seat_at}
use Rattle.rbd_world.specs.Sound.{EndsItsLine, IsLedTo, IsRefusedOnWay, IsRight, look_answered}
use Rattle.rbd_replies.proofs.Led.{IsLed}
use Rattle.rbd_replies.proofs.OnWay.{EndsOnWay, nothing_before, places_on_way}
use Rattle.rbd_replies.proofs.PlacedRight.{places_right}
use Rattle.rbd_replies.proofs.Places.{steps_at_places}
use Rattle.rbd_replies.proofs.RefusalsNothing.{nothing_at_places}
use Rattle.rbd_replies.proofs.Silent.{AreSilent, silent_places}
use Rattle.rbd_replies.proofs.SilentKinds.{led_is_silent}
use Rattle.rbd_replies.specs.Places.{effects_of, placed_of}
use Rattle.rbd_replies.specs.Replies.{changes_no_image, only_shows}

pub no_effects : (homes : ℕ → SiteId) (line : ℕ) (run : List Happening) (asked : Asked) → IsRight homes run → IsLed homes line run asked → changes_no_image asked.command ≡ true
    → effects_of (placed_of line run) ≡ []
no_effects homes line run asked right is none =
    silent_places homes (placed_of line run) (places_right homes line run right)
    (subst AreSilent (sym (steps_at_places line run)) (led_is_silent (seat_at homes asked.who.session) asked.command _ is.last is.led none))

-- what only shows changes no image
pub showing_changes_none : (c : Command) → only_shows c ≡ true → changes_no_image c ≡ true
showing_changes_none command.List shows = refl
showing_changes_none _ shows = cc

-- ---- a line that is refused on its way to the lock

-- who changes an image is no read, and lets no lock go
changes_without_reading : (c : Command) → changes_no_image c ≡ false → is_read c ≡ false
changes_without_reading (command.Read name snap at len) changes = cc
changes_without_reading _ changes = refl

changes_and_keeps : (c : Command) → changes_no_image c ≡ false → lets_go c ≡ false
changes_and_keeps (command.Close name) changes = cc
changes_and_keeps _ changes = refl

-- Its look at a header could be told that there is none. It is refused then, and such a refusal
-- comes before a command changes anything.
nothing_before_look : (seat : Seat) (c : Command) (steps : List Answered) (last : Plan) (s : SiteId) → IsLedTo seat c steps last → changes_no_image c ≡ false
    → is_look_at s (kind_asked last) ≡ true → ChangeNothing steps
nothing_before_look seat c steps last s is changes wants =
    let look = looks_at s last wants in
    let none : Answered = look_answered s look.image answer.Absent in
    let walk : IsWalk is.start.labels is.start.plan is.feds steps (Ask s look.why (op.Header look.image header.Get) look.next) =
    subst (IsWalk is.start.labels is.start.plan is.feds steps) look.is is.walk in
    let led = led_on is.start.labels is.start.plan steps s look.why (op.Header look.image header.Get) look.next answer.Absent (record { feds = is.feds; walk = walk }) in
    let ends : at_operation is.start.labels (look.next answer.Absent) ≡ Return (reply.Refused refusal.NoImage) =
    ap (at_operation is.start.labels) (looks_refuse seat c is.start is.feds steps s look.why look.image look.next answer.Absent is.plan (changes_without_reading c changes) walk tt) in
    nothing_before steps (none ∷ [])
    (meant_unless_fenced seat c (steps ++ none ∷ []) refusal.NoImage (changes_and_keeps c changes)
    (command_is_meant seat c is.start led.feds (steps ++ none ∷ []) (reply.Refused refusal.NoImage) is.plan
    (given_more steps s (op.Header look.image header.Get) answer.Absent is.given (record { can = record { word = refl; form = tt }; finds = refl }))
    (standalone_more steps s (op.Header look.image header.Get) answer.Absent is.standalone tt)
    (subst (IsWalk is.start.labels is.start.plan led.feds (steps ++ none ∷ [])) ends led.walk))
    (λ fenced. cc))

refused_early : (homes : ℕ → SiteId) (line : ℕ) (o : Operation) (r : Reply) (run : List Happening) → IsRight homes run → (is : IsRefusedOnWay homes line r o run)
    → (none : Bool) → changes_no_image is.begun.asked.command ≡ none → effects_of (placed_of line run) ≡ []
refused_early homes line o r run right is true none = no_effects homes line run is.begun.asked right (record { last = is.plan; led = is.led }) none
refused_early homes line o r run right is false changes =
    nothing_at_places homes (placed_of line run) (places_right homes line run right)
    (subst ChangeNothing (sym (steps_at_places line run))
    (nothing_before_look (seat_at homes is.begun.asked.who.session) is.begun.asked.command (steps_of line run) is.plan o.site is.led changes is.wants))

ends_on_way : (homes : ℕ → SiteId) (line : ℕ) (o : Operation) (r : Reply) (run : List Happening) (doer : Doer) → is_on_way line doer ≡ true → EndsItsLine homes o r run doer
    → EndsOnWay homes line r o run doer
ends_on_way homes line o r run (Itself other) mine ends = cc
ends_on_way homes line o r run (OnWay other) mine ends = record { apart = refl; is = subst (λ l. IsRefusedOnWay homes l r o run) (eqb-true other line mine) ends }
ends_on_way homes line o r run House mine ends = absurd ends
ends_on_way homes line o r run (AfterStop slot) mine ends = absurd ends

pub none_on_way : (homes : ℕ → SiteId) (run : List Happening) (o : Operation) (line : ℕ) (r : Reply) → IsRight homes (Did o (Some r) ∷ run) → is_on_way line o.by ≡ true
    → effects_of (placed_of line (Did o (Some r) ∷ run)) ≡ []
none_on_way homes run o line r right mine =
    let way = ends_on_way homes line o r run o.by mine right.1.1 in
    ap effects_of (places_on_way line o (Some r) run way.apart) ∙ refused_early homes line o r run right.2 way.is (changes_no_image way.is.begun.asked.command) refl
