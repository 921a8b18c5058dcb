-- What lines owe: what their own operations left; and who owes goes on.
use Rattle.std.proofs.Common.{◌≡◌, ℕ, zero, ◌==◌, ◌&&◌, ◌||◌, cond, Bool, true, false, List, [], ◌∷◌, ◌++◌, Option, Some, None, is_some, refl, sym, ap, ◌∙◌, subst}
use Rattle.std.specs.FinSet.{contains-empty}
use Rattle.std.specs.FinSet as finset
use Rattle.std.proofs.lemmas.Bool.{and_from, eq-eqb, eqb-true, or_right, true≢false}
use Rattle.std.proofs.lemmas.List.{append-nil}
use Rattle.std.proofs.lemmas.Option.{none-some, same_Some}
use Rattle.rbd_commands.specs.declared.command.Command.{Command}
use Rattle.rbd_interference.specs.Owed.{Due, PaysItsStates, Spot, due_behind, due_by, owed_after, owed_at, owed_behind, owed_by}
use Rattle.rbd_interference.proofs.Pays.{request_pays}
use Rattle.rbd_interference.proofs.Walks.{walk_pays}
use Rattle.rbd_flat.specs.declared.effect.Effect.{Effect}
use Rattle.rbd_kinds.specs.declared.answer.Answer.{Answer}
use Rattle.rbd_kinds.specs.declared.answer.Answer.TheVariants as answer
use Rattle.rbd_kinds.specs.declared.data_op.DataOp.{DataOp}
use Rattle.rbd_kinds.specs.declared.data_op.DataOp.TheVariants as object
use Rattle.rbd_kinds.specs.declared.id.Instance.{Instance}
use Rattle.rbd_kinds.specs.declared.id.SiteId.{SiteId}
use Rattle.rbd_kinds.specs.declared.id.SiteId.TheVariants as site
use Rattle.rbd_kinds.specs.declared.map_op.MapOp.TheVariants as states
use Rattle.rbd_kinds.specs.declared.operation.Op.{Op}
use Rattle.rbd_kinds.specs.declared.operation.Op.TheVariants as op
use Rattle.rbd_kinds.specs.declared.reply.Reply.{Reply}
use Rattle.rbd_kinds.specs.OperationKind.{kind_of}
use Rattle.rbd_kinds.proofs.Images.{same_site_itself, same_site_is}
use Rattle.rbd_machine.specs.Knowledge.{same_site}
use Rattle.rbd_machine.specs.Path.{Answered}
use Rattle.rbd_machine.specs.Plan.{Plan, Ask, Await, Note, Return, Goto}
use Rattle.rbd_machine.specs.declared.seat.Seat.{Seat}
use Rattle.rbd_slots.specs.Session.{is_look_at, kind_asked}
use Rattle.rbd_site.specs.Records.{Records}
use Rattle.rbd_site.specs.Step.{after, answer_to, is_fenced}
use Rattle.rbd_site.proofs.StepLemmas.{other_blocklist}
use Rattle.rbd_world.specs.Owing.{HasNoHindrance, has_worked, is_hindrance, is_of, owed_in}
use Rattle.rbd_world.specs.Run.{Doer, Itself, OnWay, House, AfterStop, Happening, Nothing, Waited, Began, Did, Refused, Trimmed, Expired, Heard, Stopped, Restarted, Asked, Operation, asked_by, comes_of, fence_of, is_for, is_own, records_after, sent_after, step_of, steps_in, steps_of}
use Rattle.rbd_world.specs.Seats.{seat_at}
use Rattle.rbd_world.specs.Sound.{EndsItsLine, EndsNoLine, IsRightlyDone, IsDue, IsLedTo, IsOpen, IsRight}
use Rattle.rbd_world.proofs.Quiet.{IsQuiet, open_on, quiet_began, quiet_did, quiet_expired, quiet_heard, quiet_nothing, quiet_refused, quiet_restarted, quiet_trimmed, quiet_waited}
use Rattle.rbd_world.proofs.Runs.{done_of}

-- ---- what an operation leaves

last_owes : (owed : Option Spot) (steps : List Answered) (step : Answered) → owed_after owed (steps ++ step ∷ []) ≡ owed_by (owed_after owed steps) step.site step.op step.answer
last_owes owed [] step = refl
last_owes owed (one ∷ steps) step = last_owes (owed_by owed one.site one.op one.answer) steps step

-- to the line of which it is
pub own_steps : (line : ℕ) (o : Operation) (reply : Option Reply) (run : List Happening) → is_own line o.by ≡ true
    → owed_in (Did o reply ∷ run) line ≡ owed_by (owed_in run line) o.site o.op o.answer
own_steps line o reply run own = ap (λ b. owed_behind (steps_of line run ++ cond b (step_of o ∷ []) [])) own ∙ last_owes None (steps_of line run) (step_of o)

no_own_steps : (line : ℕ) (o : Operation) (reply : Option Reply) → is_own line o.by ≡ false → steps_in line (Did o reply) ≡ []
no_own_steps line o reply other = ap (λ b. cond b (step_of o ∷ []) []) other

-- and to the others
pub no_steps_owe : (line : ℕ) (h : Happening) (run : List Happening) → steps_in line h ≡ [] → owed_in (h ∷ run) line ≡ owed_in run line
no_steps_owe line h run none = ap (λ xs. owed_behind (steps_of line run ++ xs)) none ∙ ap owed_behind (append-nil (steps_of line run))

pub others_owe : (line : ℕ) (o : Operation) (reply : Option Reply) (run : List Happening) → is_own line o.by ≡ false → owed_in (Did o reply ∷ run) line ≡ owed_in run line
others_owe line o reply run other = no_steps_owe line (Did o reply) run (no_own_steps line o reply other)

-- ---- a line that owes goes on

pub led_pays : (seat : Seat) (c : Command) (steps : List Answered) (last : Plan) → IsLedTo seat c steps last → PaysItsStates (owed_behind steps) last
led_pays seat c steps last led = walk_pays led.start led.feds steps last (request_pays seat c led.start led.plan) led.given led.standalone led.walk

-- who stands at a look owes nothing
no_look : (s site : SiteId) (image number : ℕ) (o : DataOp) → is_look_at s (Some (site, kind_of (op.Data image number o))) ≡ true → ⊥
no_look s site image number (object.Read snap parts) looks = true≢false (sym looks)
no_look s site image number (object.Write context must parts bytes) looks = true≢false (sym looks)
no_look s site image number (object.WriteFull context bytes) looks = true≢false (sym looks)
no_look s site image number (object.Zero context must parts) looks = true≢false (sym looks)
no_look s site image number (object.Empty context) looks = true≢false (sym looks)
no_look s site image number (object.Remove context) looks = true≢false (sym looks)
no_look s site image number (object.CopyUp bytes) looks = true≢false (sym looks)

looks_unowing : (p : Spot) (s : SiteId) (plan : Plan) → is_look_at s (kind_asked plan) ≡ true → PaysItsStates (Some p) plan → ⊥
looks_unowing p s (Ask site why (op.Data image number o) next) looks pays = no_look s site image number o looks
looks_unowing p s (Ask site why (op.Map image (states.Set None number zero)) next) looks pays = true≢false (sym looks)
looks_unowing p s (Ask site why o next) looks pays = absurd pays.0
looks_unowing p s (Await wait next) looks pays = pays
looks_unowing p s (Note site image event next) looks pays = pays
looks_unowing p s (Return reply) looks pays = pays
looks_unowing p s (Goto label) looks pays = pays

module _ (homes : ℕ → SiteId) (line : ℕ) (p : Spot) (run : List Happening) (before : owed_in run line ≡ Some p → IsOpen line run) where
  no_steps : (h : Happening) → steps_in line h ≡ [] → owed_in (h ∷ run) line ≡ Some p → owed_in run line ≡ Some p
  no_steps h none owes = sym (no_steps_owe line h run none) ∙ owes

  open_quiet : (h : Happening) → IsQuiet line h → owed_in (h ∷ run) line ≡ Some p → IsOpen line (h ∷ run)
  open_quiet h quiet owes = open_on line h run quiet (before (no_steps h quiet.steps owes))

  -- it isn't begun anew
  open_began : (asked : Asked) (slot : ℕ) → asked_by asked.line run ≡ None → owed_in (Began asked slot ∷ run) line ≡ Some p → IsOpen line (Began asked slot ∷ run)
  open_began asked slot new owes = by (asked.line == line) refl
    where
      by : (b : Bool) → (asked.line == line) ≡ b → IsOpen line (Began asked slot ∷ run)
      by false other = open_quiet (Began asked slot) (quiet_began line asked slot other) owes
      by true same =
          let begun = before (no_steps (Began asked slot) refl owes) in
          absurd (none-some begun.asked (sym new ∙ ap (λ l. asked_by l run) (eqb-true asked.line line same) ∙ begun.is))

  -- where it goes on
  abbrev goes_on : (o : Operation) → IsOpen line run → IsOpen line (Did o None ∷ run)
  goes_on o begun = record { asked = begun.asked; is = begun.is; unended = begun.unended }

  open_did : (o : Operation) (by : Doer) → o.by ≡ by → EndsNoLine homes o by run → owed_in (Did o None ∷ run) line ≡ Some p → IsOpen line (Did o None ∷ run)
  open_did o (Itself other) is begun owes = go (other == line) refl
    where
      go : (b : Bool) → (other == line) ≡ b → IsOpen line (Did o None ∷ run)
      go true same = goes_on o (subst (λ l. IsOpen l run) (eqb-true other line same) begun)
      go false differ = goes_on o (before (no_steps (Did o None) (no_own_steps line o None (ap (is_own line) is ∙ differ)) owes))
  open_did o (OnWay other) is begun owes = goes_on o (before (no_steps (Did o None) (no_own_steps line o None (ap (is_own line) is)) owes))
  open_did o House is begun owes = goes_on o (before (no_steps (Did o None) (no_own_steps line o None (ap (is_own line) is)) owes))
  open_did o (AfterStop slot) is begun owes = goes_on o (before (no_steps (Did o None) (no_own_steps line o None (ap (is_own line) is)) owes))

  -- its reply leaves nothing owed
  ended_owes : (h : Happening) (reply : Reply) (session : ℕ) (c : Command) → IsLedTo (seat_at homes session) c (steps_of line (h ∷ run)) (Return reply) → owed_in (h ∷ run) line ≡ Some p → ⊥
  ended_owes h reply session c led owes = subst (λ owed. PaysItsStates owed (Return reply)) owes (led_pays (seat_at homes session) c (steps_of line (h ∷ run)) (Return reply) led)

  open_ended : (o : Operation) (reply : Reply) (by : Doer) → o.by ≡ by → EndsItsLine homes o reply run by → owed_in (Did o (Some reply) ∷ run) line ≡ Some p → IsOpen line (Did o (Some reply) ∷ run)
  open_ended o reply (Itself other) is ends owes = go (other == line) refl
    where
      go : (b : Bool) → (other == line) ≡ b → IsOpen line (Did o (Some reply) ∷ run)
      go true same =
          absurd
          (ended_owes (Did o (Some reply)) reply ends.begun.asked.who.session ends.begun.asked.command
          (subst (λ l. IsLedTo (seat_at homes ends.begun.asked.who.session) ends.begun.asked.command (steps_of l (Did o (Some reply) ∷ run)) (Return reply)) (eqb-true other line same) ends.ended) owes)
      go false differ = open_quiet (Did o (Some reply)) (quiet_did line o (Some reply) (ap (is_for line) is ∙ ap (λ b. b || false) differ)) owes
  open_ended o reply (OnWay other) is ends owes = go (other == line) refl
    where
      go : (b : Bool) → (other == line) ≡ b → IsOpen line (Did o (Some reply) ∷ run)
      go true same =
          absurd
          (looks_unowing p o.site ends.plan ends.wants
          (subst (λ owed. PaysItsStates owed ends.plan) (no_steps (Did o (Some reply)) (no_own_steps line o (Some reply) (ap (is_own line) is)) owes)
          (led_pays (seat_at homes ends.begun.asked.who.session) ends.begun.asked.command (steps_of line run) ends.plan
          (subst (λ l. IsLedTo (seat_at homes ends.begun.asked.who.session) ends.begun.asked.command (steps_of l run) ends.plan) (eqb-true other line same) ends.led))))
      go false differ = open_quiet (Did o (Some reply)) (quiet_did line o (Some reply) (ap (is_for line) is ∙ differ)) owes
  open_ended o reply House is ends owes = absurd ends
  open_ended o reply (AfterStop slot) is ends owes = absurd ends

  open_behind : (h : Happening) → IsDue homes h run → HasNoHindrance (h ∷ run) → owed_in (h ∷ run) line ≡ Some p → IsOpen line (h ∷ run)
  open_behind Nothing due calm owes = open_quiet Nothing (quiet_nothing line) owes
  open_behind Waited due calm owes = open_quiet Waited (quiet_waited line) owes
  open_behind (Began asked slot) due calm owes = open_began asked slot due.new owes
  open_behind (Did o None) due calm owes = open_did o o.by refl due.1 owes
  open_behind (Did o (Some reply)) due calm owes = open_ended o reply o.by refl due.1 owes
  open_behind (Refused s other reply) due calm owes = go (other == line) refl
    where
      go : (b : Bool) → (other == line) ≡ b → IsOpen line (Refused s other reply ∷ run)
      go true same =
          absurd
          (ended_owes (Refused s other reply) reply due.begun.asked.who.session due.begun.asked.command
          (subst (λ l. IsLedTo (seat_at homes due.begun.asked.who.session) due.begun.asked.command (steps_of l (Refused s other reply ∷ run)) (Return reply)) (eqb-true other line same) due.ended) owes)
      go false differ = open_quiet (Refused s other reply) (quiet_refused line s other reply differ) owes
  open_behind (Trimmed s number image object) due calm owes = open_quiet (Trimmed s number image object) (quiet_trimmed line s number image object) owes
  open_behind (Expired s number image who) due calm owes = open_quiet (Expired s number image who) (quiet_expired line s number image who) owes
  open_behind (Heard notice) due calm owes = open_quiet (Heard notice) (quiet_heard line notice) owes
  open_behind (Stopped who wanted lost) due calm owes = absurd (true≢false calm.0)
  open_behind (Restarted who) due calm owes = open_quiet (Restarted who) (quiet_restarted line who) owes

pub debt_open : (homes : ℕ → SiteId) (run : List Happening) → IsRight homes run → HasNoHindrance run → (line : ℕ) (p : Spot) → owed_in run line ≡ Some p → IsOpen line run
debt_open homes [] right calm line p owes = absurd (none-some p owes)
debt_open homes (h ∷ run) (standing, due, right) calm line p owes = open_behind homes line p run (debt_open homes run right calm.1 line p) h due calm owes

-- ---- it has worked on the image

-- what is owed is owed at the operation's image
owes_at : (s : SiteId) (image number : ℕ) (due : Option Due) (p : Spot) → owed_at s image number due ≡ Some p → (s ≡ p.site) × (image ≡ p.image)
owes_at s image number None p is = absurd (none-some p is)
owes_at s image number (Some due) p is =
    let same = same_Some (record { site = s; image = image; object = number; due = due }) p is in (ap (λ (q : Spot). q.site) same, ap (λ (q : Spot). q.image) same)

owes_there : (owed : Option Spot) (b : Doer) (i : Instance) (s : SiteId) (n : ℕ) (o : Op) (a : Answer) (e : Option Effect) (p : Spot) → owed_by owed s o a ≡ Some p
    → is_of p.site p.image (record { by = b; instance = i; site = s; number = n; op = o; answer = a; effect = e }) ≡ true
owes_there owed b i s n (op.Map image (states.Set None number state)) answer.Done e p is = here (owes_at s image number (due_by state) p is)
  where
    here : (s ≡ p.site) × (image ≡ p.image) → (same_site s p.site && (image == p.image)) ≡ true
    here same = and_from (same_site s p.site) (image == p.image) (ap (same_site s) (sym same.0) ∙ same_site_itself s) (eq-eqb image p.image same.1)
owes_there owed b i s n (op.Map image (states.Set None number state)) a e p is = absurd (none-some p is)
owes_there owed b i s n (op.Map image (states.Set (Some v) number state)) a e p is = absurd (none-some p is)
owes_there owed b i s n (op.Map image o) a e p is = absurd (none-some p is)
owes_there (Some q) b i s n (op.Data image number (object.Remove context)) answer.Done e p is = here (owes_at s image number (due_behind q.due) p is)
  where
    here : (s ≡ p.site) × (image ≡ p.image) → (same_site s p.site && (image == p.image)) ≡ true
    here same = and_from (same_site s p.site) (image == p.image) (ap (same_site s) (sym same.0) ∙ same_site_itself s) (eq-eqb image p.image same.1)
owes_there (Some q) b i s n (op.Data image number (object.Remove context)) a e p is = absurd (none-some p is)
owes_there owed b i s n (op.Data image number o) a e p is = absurd (none-some p is)
owes_there owed b i s n o a e p is = absurd (none-some p is)

pub worked : (run : List Happening) (line : ℕ) (p : Spot) → owed_in run line ≡ Some p → has_worked line p.site p.image run ≡ true
worked [] line p owes = absurd (none-some p owes)
worked (Did o reply ∷ run) line p owes = by (is_own line o.by) refl (worked run line p)
  where
    by : (b : Bool) → is_own line o.by ≡ b → (owed_in run line ≡ Some p → has_worked line p.site p.image run ≡ true)
        → ((is_own line o.by && is_of p.site p.image o) || has_worked line p.site p.image run) ≡ true
    by true own before =
        ap (λ b. (b && is_of p.site p.image o) || has_worked line p.site p.image run) own
        ∙ ap (λ b. b || has_worked line p.site p.image run)
        (owes_there (owed_in run line) o.by o.instance o.site o.number o.op o.answer o.effect p (sym (own_steps line o reply run own) ∙ owes))
    by false other before =
        or_right (is_own line o.by && is_of p.site p.image o) (has_worked line p.site p.image run)
        (before (sym (others_owe line o reply run other) ∙ owes))
worked (h ∷ run) line p owes = worked run line p (sym (ap owed_behind (append-nil (steps_of line run))) ∙ owes)

-- ---- where nobody is stopped or fenced

-- the list is as it was behind what puts nobody into it
unlisted : (r : Records) (me : Instance) (o : Op) (i : Instance) → is_fenced r me ≡ false → is_fenced r i ≡ false → is_some (fence_of o (answer_to r me o)) ≡ false → is_fenced (after r me o) i ≡ false
unlisted r me (op.BlockAdd other) i free was none = absurd (true≢false (sym (ap (λ b. is_some (fence_of (op.BlockAdd other) (cond b answer.Fenced answer.Done))) free) ∙ none))
unlisted r me o i free was none = subst (λ b. finset.contains b i ≡ false) (sym (other_blocklist r me o refl)) was

pub none_fenced : (homes : ℕ → SiteId) (run : List Happening) → IsRight homes run → HasNoHindrance run → (s : SiteId) (i : Instance) → is_fenced (records_after s run) i ≡ false
none_fenced homes [] right calm s i = contains-empty _ i
none_fenced homes (h ∷ run) (standing, due, right) calm s i = by h due calm.0 (none_fenced homes run right calm.1)
  where
    if_free : (b : Bool) (r q : Records) → is_fenced r i ≡ false → is_fenced q i ≡ false → is_fenced (cond b r q) i ≡ false
    if_free true r q one other = one
    if_free false r q one other = other

    by : (h : Happening) → IsDue homes h run → is_hindrance h ≡ false → ((t : SiteId) (j : Instance) → is_fenced (records_after t run) j ≡ false) → is_fenced (records_after s (h ∷ run)) i ≡ false
    by (Did o reply) due calm before = go (same_site o.site s) refl
      where
        done : IsRightlyDone o run
        done = done_of homes o reply run due

        there : is_fenced (after (records_after o.site run) o.instance o.op) i ≡ false
        there =
            unlisted (records_after o.site run) o.instance o.op i (before o.site o.instance) (before o.site i)
            (sym (ap (λ a. is_some (fence_of o.op a)) done.answer) ∙ calm)

        go : (b : Bool) → same_site o.site s ≡ b → is_fenced (cond b (after (records_after s run) o.instance o.op) (records_after s run)) i ≡ false
        go true same = subst (λ t. is_fenced (after (records_after t run) o.instance o.op) i ≡ false) (same_site_is o.site s same) there
        go false differ = before s i
    by (Trimmed site number image object) due calm before = if_free (same_site site s) _ _ (before s i) (before s i)
    by (Expired site number image who) due calm before = if_free (same_site site s) _ _ (before s i) (before s i)
    by h due calm before = before s i

pub none_sent : (session slot : ℕ) (run : List Happening) → HasNoHindrance run → sent_after session slot run ≡ None
none_sent session slot [] calm = refl
none_sent session slot (Did o reply ∷ run) calm = by (comes_of session slot o.instance o.by) (none_sent session slot run calm.1)
  where
    by : (b : Bool) → sent_after session slot run ≡ None → cond b None (sent_after session slot run) ≡ None
    by true before = refl
    by false before = before
none_sent session slot (Stopped who wanted lost ∷ run) calm = absurd (true≢false calm.0)
none_sent session slot (h ∷ run) calm = none_sent session slot run calm.1
