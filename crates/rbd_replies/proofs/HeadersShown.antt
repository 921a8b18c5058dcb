-- Each header that a reply in a world's history shows is in form: the answer was one that its look
-- can give.
use Rattle.std.proofs.Common.{◌≡◌, ℕ, ◌<◌, ◌≤◌, List, [], ◌∷◌, map, Option, Some, None, sym, subst, arith}
use Rattle.std.proofs.lemmas.List.Elements.{All-append, All-cons, All-nil}
use Rattle.rbd_flat.specs.declared.effect.Effect.{Effect}
use Rattle.rbd_flat.specs.declared.entry.Cause.{Cause}
use Rattle.rbd_flat.specs.declared.entry.Entry.TheVariants as entry
use Rattle.rbd_kinds.specs.Form.{IsHeaderInForm}
use Rattle.rbd_commands.specs.declared.command.Command.{Command}
use Rattle.rbd_commands.specs.declared.command.Command.TheVariants as command
use Rattle.rbd_kinds.specs.declared.header.HeaderView.{HeaderView}
use Rattle.rbd_kinds.specs.declared.id.Instance.{Instance}
use Rattle.rbd_kinds.specs.declared.id.SiteId.{SiteId}
use Rattle.rbd_kinds.specs.declared.reply.Reply.{Reply}
use Rattle.rbd_kinds.specs.declared.reply.Reply.TheVariants as reply
use Rattle.rbd_layout.proofs.Bounds.{few_bytes}
use Rattle.rbd_machine.specs.Path.{Answered}
use Rattle.rbd_machine.specs.Refused.{AreGiven}
use Rattle.rbd_machine.specs.declared.seat.Seat.{Seat}
use Rattle.rbd_meaning.specs.Meant.{IsMeantBy}
use Rattle.rbd_world.specs.Run.{Doer, Itself, OnWay, House, AfterStop, Happening, Nothing, Waited, Began, Did, Refused, Trimmed, Expired, Heard, Stopped, Restarted, Operation, cause_of, ending_entries, entries_of, entry_by, entry_of, entry_unfenced, fence_of, history_of, reply_entries}
use Rattle.rbd_world.specs.Seats.{seat_at}
use Rattle.rbd_world.specs.Sound.{EndsItsLine, HasRun, IsDue, IsRefusedOnWay, IsReplyMeant, IsRight}
use Rattle.rbd_world.specs.World.{WorldView}
use Rattle.rbd_replies.proofs.OnWay.{refused_there}
use Rattle.rbd_replies.specs.Shown.{AreHeadersInForm, IsEntryInForm, IsShownInForm, ShowsInForm}

-- ---- a reply

-- a size of few objects has few bytes
shown_in_form : (h : HeaderView) → IsHeaderInForm h → IsShownInForm h
shown_in_form h form =
    let few : h.size ≤ 35184372088832 = few_bytes h.layout form.layout h.size form.objects in
    let below : h.size < 9223372036854775808 = omega arith in
    record { form = form; size = below }

info_in_form : (seat : Seat) (c : Command) (steps : List Answered) (h : HeaderView) → AreGiven steps → IsMeantBy seat c steps (reply.Info h) → IsShownInForm h
info_in_form seat (command.Info name) steps h given shows =
    let same : h ≡ shows.header = let e = shows.shows in cc in
    let looks = subst AreGiven shows.are given in
    subst IsShownInForm (sym same) (shown_in_form shows.header looks.1.0.can.form)
info_in_form seat (command.Create name size shape) steps h given (plain, meant) = absurd meant
info_in_form seat _ steps h given meant = absurd meant

meant_in_form : (seat : Seat) (c : Command) (steps : List Answered) (r : Reply) → AreGiven steps → IsMeantBy seat c steps r → ShowsInForm r
meant_in_form seat c steps (reply.Info h) given meant = info_in_form seat c steps h given meant
meant_in_form seat c steps _ given meant = tt

reply_in_form : (homes : ℕ → SiteId) (line : ℕ) (r : Reply) (before run : List Happening) → IsReplyMeant homes line r before run → ShowsInForm r
reply_in_form homes line r before run is = meant_in_form (seat_at homes is.begun.asked.who.session) is.begun.asked.command _ r is.ended.given is.meant

-- on its way to a lock a line is refused
refusal_in_form : (homes : ℕ → SiteId) (line : ℕ) (r : Reply) (o : Operation) (run : List Happening) → IsRefusedOnWay homes line r o run → ShowsInForm r
refusal_in_form homes line r o run is = subst ShowsInForm (sym (refused_there o.answer r is.refuses).is) tt

-- ---- the history

unfenced_in_form : (c : Cause) (s : SiteId) (number : ℕ) (effect : Option Effect) → IsEntryInForm (entry_unfenced c s number effect)
unfenced_in_form c s number None = tt
unfenced_in_form c s number (Some e) = tt

operation_in_form : (c : Cause) (s : SiteId) (number : ℕ) (fence : Option Instance) (effect : Option Effect) → IsEntryInForm (entry_by c s number fence effect)
operation_in_form c s number None effect = unfenced_in_form c s number effect
operation_in_form c s number (Some i) effect = tt

one_in_form : (line : ℕ) (r : Reply) → ShowsInForm r → AreHeadersInForm (reply_entries line (Some r))
one_in_form line r shows = All-cons IsEntryInForm (entry.Reply line r) [] shows (All-nil IsEntryInForm)

ending_in_form : (homes : ℕ → SiteId) (o : Operation) (r : Reply) (run : List Happening) (doer : Doer) → EndsItsLine homes o r run doer → AreHeadersInForm (ending_entries doer (Some r))
ending_in_form homes o r run (Itself line) ends = one_in_form line r (reply_in_form homes line r run (Did o (Some r) ∷ run) ends)
ending_in_form homes o r run (OnWay line) ends = one_in_form line r (refusal_in_form homes line r o run ends)
ending_in_form homes o r run House ends = absurd ends
ending_in_form homes o r run (AfterStop slot) ends = absurd ends

no_ending : (doer : Doer) → AreHeadersInForm (ending_entries doer None)
no_ending (Itself line) = All-nil IsEntryInForm
no_ending (OnWay line) = All-nil IsEntryInForm
no_ending House = All-nil IsEntryInForm
no_ending (AfterStop slot) = All-nil IsEntryInForm

lost_in_form : (lost : List ℕ) → AreHeadersInForm (map entry.Lost lost)
lost_in_form [] = All-nil IsEntryInForm
lost_in_form (line ∷ lost) = All-cons IsEntryInForm (entry.Lost line) (map entry.Lost lost) tt (lost_in_form lost)

entries_in_form : (homes : ℕ → SiteId) (h : Happening) (run : List Happening) → IsDue homes h run → AreHeadersInForm (entries_of h)
entries_in_form homes (Began asked slot) run due = All-cons IsEntryInForm (entry.Start asked.line asked.who) [] tt (All-nil IsEntryInForm)
entries_in_form homes (Did o None) run due =
    All-cons IsEntryInForm (entry_of o) (ending_entries o.by None) (operation_in_form (cause_of o.instance o.by) o.site o.number (fence_of o.op o.answer) o.effect) (no_ending o.by)
entries_in_form homes (Did o (Some r)) run due =
    All-cons IsEntryInForm (entry_of o) (ending_entries o.by (Some r)) (operation_in_form (cause_of o.instance o.by) o.site o.number (fence_of o.op o.answer) o.effect)
    (ending_in_form homes o r run o.by due.1)
entries_in_form homes (Refused s line r) run due = one_in_form line r (reply_in_form homes line r run (Refused s line r ∷ run) due)
entries_in_form homes Nothing run due = All-nil IsEntryInForm
entries_in_form homes Waited run due = All-nil IsEntryInForm
entries_in_form homes (Trimmed s number image object) run due = All-nil IsEntryInForm
entries_in_form homes (Expired s number image who) run due = All-nil IsEntryInForm
entries_in_form homes (Heard notice) run due = All-nil IsEntryInForm
entries_in_form homes (Stopped who wanted lost) run due = All-cons IsEntryInForm (entry.Stop who.session) (map entry.Lost lost) tt (lost_in_form lost)
entries_in_form homes (Restarted who) run due = All-nil IsEntryInForm

run_in_form : (homes : ℕ → SiteId) (run : List Happening) → IsRight homes run → AreHeadersInForm (history_of run)
run_in_form homes [] right = All-nil IsEntryInForm
run_in_form homes (h ∷ run) right =
    All-append IsEntryInForm (history_of run) (entries_of h) (run_in_form homes run right.2) (entries_in_form homes h run right.1)

pub world_in_form : {R : Type 0} (w : WorldView R) → HasRun w → AreHeadersInForm w.history
world_in_form w told = subst AreHeadersInForm (sym told.history) (run_in_form told.homes told.run told.right)
