-- Who does an operation pays what it owes by it, who removes an object owes its state or has
-- removed the header of its image, and where a snapshot is taken nobody owes an object of its
-- image.
use Rattle.std.proofs.Common.{◌≡◌, ◌≢◌, ◌⊎◌, inl, inr, ℕ, zero, suc, ◌<◌, ◌==◌, ◌&&◌, Bool, true, false, List, ◌∷◌, Option, Some, None, is_some, refl, sym, ap, ◌∙◌, subst, arith}
use Rattle.std.specs.Prelude.{IsSome}
use Rattle.std.proofs.lemmas.Bool.{and_from, and_parts, eq-eqb, eqb-true, true≢false}
use Rattle.std.proofs.lemmas.Option.{none-some, same_Some}
use Rattle.rbd_client.specs.Client.{ClientView}
use Rattle.rbd_interference.specs.Exact.{AreExact, IsOwed, makes_object, removes_object, sets_state, state_of, takes_snap}
use Rattle.rbd_interference.specs.Owed.{Due, Made, Gone, Lowered, IsClearing, IsPayment, PaysItsStates, Spot, due_behind, due_by, pays_due, makes, owed_at, owed_behind, owed_by, removes}
use Rattle.rbd_interference.proofs.Exactly.{all_exact}
use Rattle.rbd_interference.proofs.Pays.{request_pays}
use Rattle.rbd_interference.proofs.Walks.{walk_pays}
use Rattle.rbd_kinds.specs.declared.answer.Answer.{Answer}
use Rattle.rbd_kinds.specs.declared.answer.Answer.TheVariants as answer
use Rattle.rbd_kinds.specs.declared.data_op.DataOp.{DataOp}
use Rattle.rbd_kinds.specs.declared.data_op.DataOp.TheVariants as object
use Rattle.rbd_kinds.specs.declared.header.HeaderView.{HeaderView}
use Rattle.rbd_kinds.specs.declared.header.SnapContext.{SnapContext}
use Rattle.rbd_kinds.specs.declared.header_op.HeaderOp.TheVariants as header
use Rattle.rbd_kinds.specs.declared.id.Instance.{Instance}
use Rattle.rbd_kinds.specs.declared.id.SiteId.{SiteId}
use Rattle.rbd_kinds.specs.declared.layout.Part.{Part}
use Rattle.rbd_kinds.specs.declared.map_op.MapOp.TheVariants as states
use Rattle.rbd_kinds.specs.declared.operation.Op.{Op}
use Rattle.rbd_kinds.specs.declared.operation.Op.TheVariants as op
use Rattle.rbd_kinds.specs.declared.reply.Reply.{Reply}
use Rattle.rbd_kinds.specs.Sharing.{is_alone}
use Rattle.rbd_kinds.proofs.Images.{same_site_itself}
use Rattle.rbd_knowledge.specs.Knowing.{KnowsBy, KnowsIn}
use Rattle.rbd_machine.specs.Knowledge.{Knowledge, is_gone, learned, same_site}
use Rattle.rbd_machine.specs.Label.{Label}
use Rattle.rbd_machine.specs.Lawful.{IsLawful}
use Rattle.rbd_machine.specs.Permits.{Permits, PermitsOnObject}
use Rattle.rbd_machine.specs.Plan.{Plan, Ask, Await, Note, Return, Goto, Standing}
use Rattle.rbd_machine.specs.Refused.{IsGiven}
use Rattle.rbd_machine.specs.declared.reason.Reason.{Reason}
use Rattle.rbd_machine.specs.declared.seat.Seat.{Seat}
use Rattle.rbd_machine.proofs.Together.{shared_both}
use Rattle.rbd_lock.specs.Acquire.{op_at_stage, op_of}
use Rattle.rbd_lock.specs.Release.{release_op, release_op_at}
use Rattle.rbd_lock.specs.declared.acquire.Acquire.{Acquire}
use Rattle.rbd_lock.specs.declared.acquire.Stage.{Stage}
use Rattle.rbd_lock.specs.declared.acquire.Stage.TheVariants as stage
use Rattle.rbd_lock.specs.declared.release.Release.{Release}
use Rattle.rbd_lock.specs.declared.release.Stage.{Stage as Part_of}
use Rattle.rbd_lock.specs.declared.release.Stage.TheVariants as part
use Rattle.rbd_interference.specs.Beside.{AreBeside}
use Rattle.rbd_interference.specs.Truth.{header_of_own, is_alone_on, is_own_alone, known_header, sharing_on}
use Rattle.rbd_interference.proofs.Headers.{unknown_while_waiting}
use Rattle.rbd_slots.specs.declared.running.Occupant.{Occupant}
use Rattle.rbd_slots.specs.declared.running.Occupant.TheVariants as occupant
use Rattle.rbd_slots.specs.declared.running.Running.{Running}
use Rattle.rbd_slots.specs.Session.{held_in, running_in, script_line}
use Rattle.rbd_site.specs.Records.{Records, object_at}
use Rattle.rbd_site.specs.Step.{answer_to, is_fenced}
use Rattle.rbd_site.proofs.FenceLemmas.{refused_is_fenced}
use Rattle.rbd_world.specs.Owing.{HasNoHindrance, has_worked, owed_in}
use Rattle.rbd_world.specs.Run.{Itself, Happening, Did, Operation, is_own, records_after, steps_of}
use Rattle.rbd_world.specs.Seats.{seat_at}
use Rattle.rbd_world.specs.Sound.{InSlot, IsHeldRightly, IsInSlot, IsOpen, IsRefusedAtOnce, IsSoundWorld, IsUnderWay, held_of}
use Rattle.rbd_world.specs.Step.{operation_at}
use Rattle.rbd_world.specs.World.{WorldView, client_in, records_in, session_of_client, site_in}
use Rattle.rbd_world.proofs.Changed.{same_or_other}
use Rattle.rbd_world.proofs.Debts.{debt_open, none_fenced, others_owe, own_steps, worked}
use Rattle.rbd_world.proofs.Exactly.{OwesAsItGoes}

-- ---- what an operation says

abbrev pub spot_at : SiteId → (image number : ℕ) → Due → Spot
spot_at site image number due = record { site = site; image = image; object = number; due = due }

same_sites : (s t : SiteId) → s ≡ t → same_site s t ≡ true
same_sites s t same = ap (same_site s) (sym same) ∙ same_site_itself s

-- it is on the object
on_object : (i image n number : ℕ) → i ≡ image → n ≡ number → ((i == image) && (n == number)) ≡ true
on_object i image n number one other = and_from (i == image) (n == number) (eq-eqb i image one) (eq-eqb n number other)

-- what it pays by what it does, and what it owes then
abbrev Does : SiteId → (image number : ℕ) → (s : SiteId) → Op → Answer → Due → Type 0
Does t image number s o a Made = (same_site s t ≡ true) × (makes_object image number o ≡ true)
Does t image number s o a Gone = owed_by (Some (spot_at t image number Gone)) s o a ≡ Some (spot_at t image number Lowered)
Does t image number s o a Lowered = (same_site s t ≡ true) × (sets_state image number 0 o ≡ true)

remove_done : (image number : ℕ) (context : SnapContext) (a : Answer) → IsGiven (op.Data image number (object.Remove context)) a → a ≢ answer.Fenced → a ≡ answer.Done
remove_done image number context answer.Done given free = refl
remove_done image number context answer.Fenced given free = absurd (free refl)
remove_done image number context _ given free = absurd (true≢false (sym given.can.word))

pays_so : (t : SiteId) (image number : ℕ) (s : SiteId) (o : Op) (a : Answer) (due : Due) → IsPayment (spot_at t image number due) s o → IsGiven o a → a ≢ answer.Fenced
    → Does t image number s o a due
pays_so t image number s (op.Data i n o) a Made pays given free =
    (same_sites s t pays.1.0, and_from (makes o) ((i == image) && (n == number)) pays.0 (on_object i image n number pays.1.1 pays.1.2))
pays_so t image number s (op.Data i n (object.Remove context)) a Gone pays given free =
    subst (λ b. owed_by (Some (spot_at t image number Gone)) s (op.Data i n (object.Remove context)) b ≡ Some (spot_at t image number Lowered)) (sym (remove_done i n context a given free))
    (ap (λ q. Some (spot_at q i n Lowered)) pays.1.0 ∙ ap (λ j. Some (spot_at t j n Lowered)) pays.1.1 ∙ ap (λ m. Some (spot_at t image m Lowered)) pays.1.2)
pays_so t image number s (op.Data i n (object.Read snap parts)) a Gone pays given free = absurd (true≢false (sym pays.0))
pays_so t image number s (op.Data i n o) a Gone pays given free = absurd (true≢false (sym pays.0))
pays_so t image number s (op.Data i n o) a Lowered pays given free = absurd (true≢false (sym pays.0))
pays_so t image number s (op.Map i (states.Set None n zero)) a Made pays given free = absurd (apart pays.0)
  where
    apart : Made ≡ Lowered → ⊥
    apart same = cc
pays_so t image number s (op.Map i (states.Set None n zero)) a Gone pays given free = absurd (apart pays.0)
  where
    apart : Gone ≡ Lowered → ⊥
    apart same = cc
pays_so t image number s (op.Map i (states.Set None n zero)) a Lowered pays given free =
    (same_sites s t pays.1.0, and_from (i == image) ((n == number) && true) (eq-eqb i image pays.1.1) (ap (λ b. b && true) (eq-eqb n number pays.1.2)))
pays_so t image number s o a due pays given free = absurd pays

-- what pays takes no snapshot
payment_takes_none : (p : Spot) (s : SiteId) (o : Op) (image : ℕ) → IsPayment p s o → takes_snap image o ≡ true → ⊥
payment_takes_none p s (op.Data i n o) image pays takes = true≢false (sym takes)
payment_takes_none p s (op.Map i (states.Set None n zero)) image pays takes = true≢false (sym takes)
payment_takes_none p s o image pays takes = absurd pays

-- who sets a state is told that it is done
set_done : (image number state : ℕ) (a : Answer) → IsGiven (op.Map image (states.Set None number state)) a → a ≢ answer.Fenced → a ≡ answer.Done
set_done image number state answer.Done given free = refl
set_done image number state answer.Absent given free = absurd (true≢false (sym given.finds))
set_done image number state answer.Fenced given free = absurd (free refl)
set_done image number state _ given free = absurd (true≢false (sym given.can.word))

-- and owes the object
record Owes (owed : Option Spot) (s : SiteId) (image number state : ℕ) : Type 0 where
  due : Due
  owes : owed ≡ Some (spot_at s image number due)
  is : state_of due ≡ state

owes_state : (s : SiteId) (image number state : ℕ) → state < 3 → state ≢ 0 → Owes (owed_at s image number (due_by state)) s image number state
owes_state s image number zero few some = absurd (some refl)
owes_state s image number (suc zero) few some = record { due = Made; owes = refl; is = refl }
owes_state s image number (suc (suc zero)) few some = record { due = Gone; owes = refl; is = refl }
owes_state s image number (suc (suc (suc n))) few some = absurd (omega (arith, few))

set_owes : (k : Knowledge) (owed : Option Spot) (s : SiteId) (o : Op) (a : Answer) (image number state : ℕ) → Permits k s o → IsGiven o a → a ≢ answer.Fenced
    → sets_state image number state o ≡ true → state ≢ 0 → Owes (owed_by owed s o a) s image number state
set_owes k owed s (op.Map i (states.Set None n to)) a image number state permits given free sets some =
    subst (λ b. Owes (owed_by owed s (op.Map i (states.Set None n to)) b) s image number state) (sym (set_done i n to a given free))
    (subst (λ j. Owes (owed_at s i n (due_by to)) s j number state) (eqb-true i image both.0)
    (subst (λ m. Owes (owed_at s i n (due_by to)) s i m state) (eqb-true n number rest.0)
    (subst (Owes (owed_at s i n (due_by to)) s i n) (eqb-true to state rest.1) (owes_state s i n to permits.meets.is_state (λ zeroed. some (sym (eqb-true to state rest.1) ∙ zeroed))))))
  where
    both : ((i == image) ≡ true) × (((n == number) && (to == state)) ≡ true)
    both = and_parts (i == image) ((n == number) && (to == state)) sets

    rest : ((n == number) ≡ true) × ((to == state) ≡ true)
    rest = and_parts (n == number) (to == state) both.1
set_owes k owed s (op.Map i (states.Set (Some v) n to)) a image number state permits given free sets some = absurd (true≢false (sym sets))
set_owes k owed s (op.Map i o) a image number state permits given free sets some = absurd (true≢false (sym sets))
set_owes k owed s o a image number state permits given free sets some = absurd (true≢false (sym sets))

-- ---- what it is permitted by

-- Who removes objects with all of their image removed its header.
clears_gone : (at : Label → Knowledge) (site : SiteId) (image : ℕ) (plan : Plan) (k : Knowledge) → IsClearing site image plan → IsLawful at k plan → is_gone k.gone site image ≡ true
clears_gone at site image (Ask s why (op.Data i n (object.Remove context)) next) k clears lawful =
    clears_gone at site image (next answer.Done) (learned k s (op.Data i n (object.Remove context)) answer.Done) clears.2 (lawful.1 answer.Done (record { word = refl; form = tt; standalone = tt; possible = tt }))
clears_gone at site image (Ask s why (op.Map i (states.Remove None)) next) k clears lawful =
    subst (λ t. is_gone k.gone t image ≡ true) clears.0 (subst (λ j. is_gone k.gone s j ≡ true) clears.1 lawful.0.0.gone)
clears_gone at site image (Ask s why o next) k clears lawful = absurd clears
clears_gone at site image (Await wait next) k clears lawful = absurd clears
clears_gone at site image (Note s i event next) k clears lawful = absurd clears
clears_gone at site image (Return reply) k clears lawful = absurd clears
clears_gone at site image (Goto label) k clears lawful = absurd clears

removes_due : (due : Due) (context : SnapContext) → pays_due due (object.Remove context) ≡ true → due ≡ Gone
removes_due Made context is = absurd (true≢false (sym is))
removes_due Gone context is = refl
removes_due Lowered context is = absurd (true≢false (sym is))

-- Who removes an object did that, or owes the object's state then.
removal_owes : (at : Label → Knowledge) (k : Knowledge) (owed : Option Spot) (s : SiteId) (why : Reason) (o : Op) (next : Answer → Plan) (a : Answer) (image number : ℕ)
    → PaysItsStates owed (Ask s why o next) → IsLawful at k (Ask s why o next) → IsGiven o a → a ≢ answer.Fenced → removes_object image number o ≡ true
    → (is_gone k.gone s image ≡ true) ⊎ (owed_by owed s o a ≡ Some (spot_at s image number Lowered))
removal_owes at k None s why (op.Data i n (object.Remove context)) next a image number pays lawful given free removes =
    let both = and_parts (i == image) (n == number) removes in
    inl
    (subst (λ j. is_gone k.gone s j ≡ true) (eqb-true i image both.0)
    (clears_gone at s i (next answer.Done) (learned k s (op.Data i n (object.Remove context)) answer.Done) pays.0 (lawful.1 answer.Done (record { word = refl; form = tt; standalone = tt; possible = tt }))))
removal_owes at k (Some p) s why (op.Data i n (object.Remove context)) next a image number pays lawful given free removes =
    let both = and_parts (i == image) (n == number) removes in
    inr
    (subst (λ b. owed_by (Some p) s (op.Data i n (object.Remove context)) b ≡ Some (spot_at s image number Lowered)) (sym (remove_done i n context a given free))
    (ap (λ due. owed_at s i n (due_behind due)) (removes_due p.due context pays.0.0) ∙ ap (λ j. Some (spot_at s j n Lowered)) (eqb-true i image both.0)
    ∙ ap (λ m. Some (spot_at s image m Lowered)) (eqb-true n number both.1)))
removal_owes at k owed s why (op.Data i n (object.Read snap parts)) next a image number pays lawful given free removes = absurd (true≢false (sym removes))
removal_owes at k owed s why (op.Data i n o) next a image number pays lawful given free removes = absurd (true≢false (sym removes))
removal_owes at k owed s why o next a image number pays lawful given free removes = absurd (true≢false (sym removes))

reads_none : (due : Due) (snap : Option ℕ) (parts : List Part) → pays_due due (object.Read snap parts) ≡ true → ⊥
reads_none Made snap parts is = true≢false (sym is)
reads_none Gone snap parts is = true≢false (sym is)
reads_none Lowered snap parts is = true≢false (sym is)

-- Who owes knows the header, or removed it.
abbrev KnowsOrGone : Knowledge → SiteId → (image : ℕ) → Type 0
KnowsOrGone k s image = IsSome (known_header k s image) ⊎ (is_gone k.gone s image ≡ true)

object_knows : (k : Knowledge) (s : SiteId) (image number : ℕ) (due : Due) (o : DataOp) → pays_due due o ≡ true → PermitsOnObject k s image number o → KnowsOrGone k s image
object_knows k s image number due (object.Read snap parts) is permits = absurd (reads_none due snap parts is)
object_knows k s image number due (object.Write context must parts bytes) is permits = inl (ap (λ o. is_some (header_of_own o)) permits.is)
object_knows k s image number due (object.WriteFull context bytes) is permits = inl (ap (λ o. is_some (header_of_own o)) permits.is)
object_knows k s image number due (object.Zero context must parts) is permits = inl (ap (λ o. is_some (header_of_own o)) permits.is)
object_knows k s image number due (object.Empty context) is permits = inl (ap (λ o. is_some (header_of_own o)) permits.is)
object_knows k s image number due (object.Remove context) is (inl left) = inr left.gone
object_knows k s image number due (object.Remove context) is (inr owns) = inl (ap (λ o. is_some (header_of_own o)) owns.is)
object_knows k s image number due _ is permits = elim permits [ ]

knows_there : (k : Knowledge) (s t : SiteId) (i image : ℕ) → s ≡ t → i ≡ image → KnowsOrGone k s i → KnowsOrGone k t image
knows_there k s t i image one other knows = subst (λ q. KnowsOrGone k q image) one (subst (KnowsOrGone k s) other knows)

payer_knows : (k : Knowledge) (at : Label → Knowledge) (p : Spot) (plan : Plan) → PaysItsStates (Some p) plan → IsLawful at k plan → KnowsOrGone k p.site p.image
payer_knows k at p (Ask s why (op.Data image number o) next) pays lawful =
    knows_there k s p.site image p.image pays.0.1.0 pays.0.1.1 (object_knows k s image number p.due o pays.0.0 lawful.0)
payer_knows k at p (Ask s why (op.Map image (states.Set None number zero)) next) pays lawful =
    knows_there k s p.site image p.image pays.0.1.0 pays.0.1.1 (inl (ap (λ o. is_some (header_of_own o)) lawful.0.is))
payer_knows k at p (Ask s why o next) pays lawful = absurd pays.0
payer_knows k at p (Await wait next) pays lawful = absurd pays
payer_knows k at p (Note s image event next) pays lawful = absurd pays
payer_knows k at p (Return reply) pays lawful = absurd pays
payer_knows k at p (Goto label) pays lawful = absurd pays

-- who takes a snapshot does, and is alone
record KnowsAlone (k : Knowledge) (s : SiteId) (image : ℕ) : Type 0 where
  alone : is_alone_on k s image ≡ true
  header : IsSome (known_header k s image)

taker_alone : (k : Knowledge) (s : SiteId) (o : Op) (image : ℕ) → Permits k s o → takes_snap image o ≡ true → KnowsAlone k s image
taker_alone k s (op.Header i (header.SnapAdd name)) image permits takes =
    subst (KnowsAlone k s) (eqb-true i image takes)
    (record { alone = ap is_own_alone permits.is ∙ ap is_alone permits.meets.0; header = ap (λ o. is_some (header_of_own o)) permits.is })
taker_alone k s (op.Header i _) image permits takes = absurd (true≢false (sym takes))
taker_alone k s _ image permits takes = absurd (true≢false (sym takes))

-- ---- who owes

-- a request under way pays what its line owes
pub way_pays : {R : Type 0} (stands : R → Standing) (seat : Seat) (who : Instance) (run : List Happening) (r : Running R) → IsUnderWay stands seat who run r
    → PaysItsStates (owed_in run r.line) (stands r.request).plan
way_pays stands seat who run r way =
    walk_pays way.start way.feds (steps_of r.line run) (stands r.request).plan (request_pays seat way.begun.asked.command way.start way.plan) way.given way.standalone way.walk

module _ {R : Type 0} (stands : R → Standing) (old : WorldView R) (w : IsSoundWorld stands old) (calm : HasNoHindrance w.told.run) where
  all_free : (s : SiteId) (i : Instance) → is_fenced (records_in s old.sites) i ≡ false
  all_free s i = ap (λ r. is_fenced r i) (w.told.records s) ∙ none_fenced w.told.homes w.told.run w.told.right calm s i

  slot_knows : (session slot : ℕ) (c : ClientView R) → client_in session old.lives ≡ Some c → (r : Running R) → held_in slot c.session.slots ≡ Some (occupant.Running r)
      → KnowsBy stands slot r c.session.lines (w.knows (InSlot session slot))
  slot_knows session slot c there r holds =
      subst (λ o. KnowsIn stands slot o c.session.lines (w.knows (InSlot session slot))) (ap running_in holds) ((w.clients session c there).know slot)

  -- the slot in which an object of an image is owed
  record IsOwing (s : SiteId) (image : ℕ) : Type 0 where
    session : ℕ
    slot : ℕ
    c : ClientView R
    there : client_in session old.lives ≡ Some c
    r : Running R
    holds : held_in slot c.session.slots ≡ Some (occupant.Running r)
    spot : Spot
    pays : PaysItsStates (Some spot) (stands r.request).plan
    knows : KnowsOrGone (w.knows (InSlot session slot)) s image

  owing : (s : SiteId) (image number state : ℕ) → IsOwed (owed_in w.told.run) s image number state → IsOwing s image
  owing s image number state is = in_slot (client_in at.session old.lives) refl at.is
    where
      spot : Spot
      spot = spot_at s image number is.due

      at : IsInSlot is.who old.lives
      at = w.slots is.who (debt_open w.told.homes w.told.run w.told.right calm is.who spot is.owes)

      holding : (c : ClientView R) → client_in at.session old.lives ≡ Some c → (o : Option (Occupant R)) → held_in at.slot c.session.slots ≡ o → script_line o ≡ Some is.who → IsOwing s image
      holding c there None held line = absurd (none-some is.who line)
      holding c there (Some (occupant.Refused other refusal)) held line = absurd (none_owes (same_Some other is.who line))
        where
          refused : IsRefusedAtOnce (seat_at w.told.homes at.session) c.session.instance w.told.run other refusal
          refused = subst (IsHeldRightly stands (seat_at w.told.homes at.session) c.session.instance w.told.run) held ((w.clients at.session c there).held at.slot)

          none_owes : other ≡ is.who → ⊥
          none_owes same = none-some spot (sym (ap owed_behind refused.none) ∙ ap (λ l. owed_in w.told.run l) same ∙ is.owes)
      holding c there (Some (occupant.Running r)) held line = record {
        session = at.session;
        slot = at.slot;
        c = c;
        there = there;
        r = r;
        holds = held;
        spot = spot;
        pays = pays;
        knows = payer_knows (w.knows (InSlot at.session at.slot)) knows.known_at spot (stands r.request).plan pays knows.lawful;
      }
        where
          knows : KnowsBy stands at.slot r c.session.lines (w.knows (InSlot at.session at.slot))
          knows = slot_knows at.session at.slot c there r held

          pays : PaysItsStates (Some spot) (stands r.request).plan
          pays =
              subst (λ owed. PaysItsStates owed (stands r.request).plan) (ap (λ l. owed_in w.told.run l) (same_Some r.line is.who line) ∙ is.owes)
              (way_pays stands (seat_at w.told.homes at.session) c.session.instance w.told.run r
              (subst (IsHeldRightly stands (seat_at w.told.homes at.session) c.session.instance w.told.run) held ((w.clients at.session c there).held at.slot)))

      in_slot : (o : Option (ClientView R)) → client_in at.session old.lives ≡ o → script_line (held_of at.slot (session_of_client o)) ≡ Some is.who → IsOwing s image
      in_slot None there line = absurd (none-some is.who line)
      in_slot (Some c) there line = holding c there (held_in at.slot c.session.slots) refl line

  -- ---- an operation of a request itself

  module _ (session slot : ℕ) (c : ClientView R) (there : client_in session old.lives ≡ Some c) (r : Running R) (holds : held_in slot c.session.slots ≡ Some (occupant.Running r))
      (s : SiteId) (why : Reason) (o : Op) (next : Answer → Plan) (asks : (stands r.request).plan ≡ Ask s why o next) (result : Option Reply) where
    abbrev me : Instance
    me = c.session.instance

    abbrev a : Answer
    a = answer_to (records_in s old.sites) me o

    abbrev operation : Operation
    operation = operation_at (site_in s old.sites) me (Itself r.line) s o

    paid : PaysItsStates (owed_in w.told.run r.line) (Ask s why o next)
    paid =
        subst (PaysItsStates (owed_in w.told.run r.line)) asks
        (way_pays stands (seat_at w.told.homes session) me w.told.run r (subst (IsHeldRightly stands (seat_at w.told.homes session) me w.told.run) holds ((w.clients session c there).held slot)))

    mine : KnowsBy stands slot r c.session.lines (w.knows (InSlot session slot))
    mine = slot_knows session slot c there r holds

    lawful : IsLawful mine.known_at (w.knows (InSlot session slot)) (Ask s why o next)
    lawful = subst (IsLawful mine.known_at (w.knows (InSlot session slot))) asks mine.lawful

    unfenced : a ≢ answer.Fenced
    unfenced fenced = true≢false (sym (refused_is_fenced (records_in s old.sites) me o fenced) ∙ all_free s me)

    abbrev run_then : List Happening
    run_then = Did operation result ∷ w.told.run

    -- what the line owes then
    owed_then : owed_in run_then r.line ≡ owed_by (owed_in w.told.run r.line) s o a
    owed_then = own_steps r.line operation result w.told.run (eq-eqb r.line r.line refl)

    owes_then : (image number state : ℕ) → Owes (owed_by (owed_in w.told.run r.line) s o a) s image number state → IsOwed (owed_in run_then) s image number state
    owes_then image number state owes = record { who = r.line; due = owes.due; owes = owed_then ∙ owes.owes; is = owes.is }

    -- what another line owes it still does
    other_owes : (t : SiteId) (image number state : ℕ) → (is : IsOwed (owed_in w.told.run) t image number state) → (r.line == is.who) ≡ false → IsOwed (owed_in run_then) t image number state
    other_owes t image number state is other = record { who = is.who; due = is.due; owes = others_owe is.who operation result w.told.run other ∙ is.owes; is = is.is }

    -- what the line owed it does
    module _ (given : IsGiven o a) (t : SiteId) (image number : ℕ) where
      own_does : (due : Due) → owed_in w.told.run r.line ≡ Some (spot_at t image number due) → Does t image number s o a due
      own_does due owes = pays_so t image number s o a due (subst (λ owed. PaysItsStates owed (Ask s why o next)) owes paid).0 given unfenced

      made : IsOwed (owed_in w.told.run) t image number 1 → IsOwed (owed_in run_then) t image number 1 ⊎ ((same_site s t ≡ true) × (makes_object image number o ≡ true))
      made is = by (r.line == is.who) refl
        where
          own : (due : Due) → state_of due ≡ 1 → owed_in w.told.run r.line ≡ Some (spot_at t image number due) → (same_site s t ≡ true) × (makes_object image number o ≡ true)
          own Made one owes = own_does Made owes
          own Gone one owes = cc
          own Lowered one owes = cc

          by : (b : Bool) → (r.line == is.who) ≡ b → IsOwed (owed_in run_then) t image number 1 ⊎ ((same_site s t ≡ true) × (makes_object image number o ≡ true))
          by false other = inl (other_owes t image number 1 is other)
          by true same = inr (own is.due is.is (ap (owed_in w.told.run) (eqb-true r.line is.who same) ∙ is.owes))

      lowered : IsOwed (owed_in w.told.run) t image number 2 → IsOwed (owed_in run_then) t image number 2 ⊎ ((same_site s t ≡ true) × (sets_state image number 0 o ≡ true))
      lowered is = by (r.line == is.who) refl
        where
          own : (due : Due) → state_of due ≡ 2 → owed_in w.told.run r.line ≡ Some (spot_at t image number due) → IsOwed (owed_in run_then) t image number 2 ⊎ ((same_site s t ≡ true) × (sets_state image number 0 o ≡ true))
          own Made two owes = cc
          own Gone two owes = inl (record { who = r.line; due = Lowered; owes = owed_then ∙ ap (λ owed. owed_by owed s o a) owes ∙ own_does Gone owes; is = refl })
          own Lowered two owes = inr (own_does Lowered owes)

          by : (b : Bool) → (r.line == is.who) ≡ b → IsOwed (owed_in run_then) t image number 2 ⊎ ((same_site s t ≡ true) × (sets_state image number 0 o ≡ true))
          by false other = inl (other_owes t image number 2 is other)
          by true same = own is.due is.is (ap (owed_in w.told.run) (eqb-true r.line is.who same) ∙ is.owes)

    -- an image that is gone has no header
    unheaded : (session slot image : ℕ) (d : ClientView R) → client_in session old.lives ≡ Some d → is_gone (w.knows (InSlot session slot)).gone s image ≡ true
        → (records_in s old.sites).headers image ≡ None
    unheaded session slot image d at gone = (((w.truth session d at s).requests slot).gone image gone).header

    -- it removes an object of an image that has none, or owes the state
    gone : IsGiven o a → (image number : ℕ) (h : HeaderView) → removes_object image number o ≡ true → (records_after s w.told.run).headers image ≡ Some h → IsOwed (owed_in run_then) s image number 2
    gone given image number h removes is = by (removal_owes mine.known_at (w.knows (InSlot session slot)) (owed_in w.told.run r.line) s why o next a image number paid lawful given unfenced removes)
      where
        by : (is_gone (w.knows (InSlot session slot)).gone s image ≡ true) ⊎ (owed_by (owed_in w.told.run r.line) s o a ≡ Some (spot_at s image number Lowered)) → IsOwed (owed_in run_then) s image number 2
        by (inl gone) = absurd (none-some h (sym (unheaded session slot image c there gone) ∙ ap (λ (q : Records). q.headers image) (w.told.records s) ∙ is))
        by (inr owes) = owes_then image number 2 (record { due = Lowered; owes = owes; is = refl })

    -- nobody owes an object of an image of which it takes a snapshot
    free : (image number state : ℕ) → takes_snap image o ≡ true → IsOwed (owed_in w.told.run) s image number state → ⊥
    free image number state takes is = by (same_or_other owes.session session) (same_or_other owes.slot slot)
      where
        owes : IsOwing s image
        owes = owing s image number state is

        alone : KnowsAlone (w.knows (InSlot session slot)) s image
        alone = taker_alone (w.knows (InSlot session slot)) s o image lawful.0 takes

        -- who removed the header of the image isn't beside who knows it
        there_still : KnowsOrGone (w.knows (InSlot owes.session owes.slot)) s image → IsSome (known_header (w.knows (InSlot owes.session owes.slot)) s image)
        there_still (inl knows) = knows
        there_still (inr gone) =
            absurd
            (unknown_while_waiting s (records_in s old.sites) me (w.knows (InSlot session slot)) image ((w.truth session c there s).requests slot) (all_free s me) alone.header
            (unheaded owes.session owes.slot image owes.c owes.there gone))

        shares : (me you : Instance) (j : Knowledge) → AreBeside s (records_in s old.sites) me you (w.knows (InSlot session slot)) j → IsSome (known_header j s image) → ⊥
        shares me you j beside knows = true≢false (sym alone.alone ∙ (shared_both (sharing_on (w.knows (InSlot session slot)) s image) (sharing_on j s image) (beside.shared (all_free s me, all_free s you) image alone.header knows)).0)

        by : (owes.session ≡ session) ⊎ (owes.session ≢ session) → (owes.slot ≡ slot) ⊎ (owes.slot ≢ slot) → ⊥
        by (inr apart) either =
            shares (w.who (InSlot session slot)) (w.who (InSlot owes.session owes.slot)) (w.knows (InSlot owes.session owes.slot))
            (w.beside (InSlot session slot) (InSlot owes.session owes.slot) (λ same. apart (sym same)) s) (there_still owes.knows)
        by (inl same) (inr apart) =
            shares me me (w.knows (InSlot session owes.slot)) ((w.truth session c there s).beside slot owes.slot (λ is. apart (sym is)))
            (subst (λ m. IsSome (known_header (w.knows (InSlot m owes.slot)) s image)) same (there_still owes.knows))
        by (inl same) (inl also) = payment_takes_none owes.spot s o image (subst (PaysItsStates (Some owes.spot)) (ap (λ q. (stands q.request).plan) one ∙ asks) owes.pays).0 takes
          where
            client : owes.c ≡ c
            client = same_Some owes.c c (sym owes.there ∙ ap (λ m. client_in m old.lives) same ∙ there)

            one : owes.r ≡ r
            one =
                same_Some owes.r r
                (ap running_in (sym owes.holds ∙ ap (λ (v : ClientView R). held_in owes.slot v.session.slots) client ∙ ap (λ x. held_in x c.session.slots) also ∙ holds))

    pub own_owes : IsGiven o a → OwesAsItGoes operation result w.told.run
    own_owes given = record {
      made = λ t image number. made given t image number;
      lowered = λ t image number. lowered given t image number;
      new = λ image number state sets some.
          owes_then image number state (set_owes (w.knows (InSlot session slot)) (owed_in w.told.run r.line) s o a image number state lawful.0 given unfenced sets some);
      gone = gone given;
      free = free;
    }

  -- ---- at rest

  pub rested_exact : (s : SiteId) (image : ℕ) (h : HeaderView) → (records_in s old.sites).headers image ≡ Some h → ((line : ℕ) → IsOpen line w.told.run → has_worked line s image w.told.run ≡ false)
      → AreExact h ((records_in s old.sites).maps image) (object_at (records_in s old.sites) image)
  rested_exact s image h is rests =
      all_exact (IsOwed (owed_in w.told.run) s image) h ((records_in s old.sites).maps image) (object_at (records_in s old.sites) image) busy
      ((w.told.exact calm s).images image h is)
    where
      busy : (number state : ℕ) → IsOwed (owed_in w.told.run) s image number state → ⊥
      busy number state owed =
          let spot = spot_at s image number owed.due in
          true≢false (sym (worked w.told.run owed.who spot owed.owes) ∙ rests owed.who (debt_open w.told.homes w.told.run w.told.right calm owed.who spot owed.owes))

-- ---- operations of others

-- it sets no state, removes no object, and takes no snapshot
pub record IsPlain (o : Op) : Type 0 where
  pub sets : (image number state : ℕ) → sets_state image number state o ≡ false
  pub removes : (image number : ℕ) → removes_object image number o ≡ false
  pub takes : (image : ℕ) → takes_snap image o ≡ false

pub plain_owes : (o : Operation) (reply : Option Reply) (run : List Happening) → ((line : ℕ) → is_own line o.by ≡ false) → IsPlain o.op → OwesAsItGoes o reply run
plain_owes o reply run others plain = record {
  made = λ t image number is. inl (still t image number 1 is);
  lowered = λ t image number is. inl (still t image number 2 is);
  new = λ image number state sets some. absurd (true≢false (sym sets ∙ plain.sets image number state));
  gone = λ image number h removes is. absurd (true≢false (sym removes ∙ plain.removes image number));
  free = λ image number state takes is. true≢false (sym takes ∙ plain.takes image);
}
  where
    still : (t : SiteId) (image number state : ℕ) → IsOwed (owed_in run) t image number state → IsOwed (owed_in (Did o reply ∷ run)) t image number state
    still t image number state is = record { who = is.who; due = is.due; owes = others_owe is.who o reply run (others is.who) ∙ is.owes; is = is.is }

plain_stage : (at : Stage) (image : ℕ) → IsPlain (op_at_stage at image)
plain_stage stage.Watching image = record { sets = λ i n to. refl; removes = λ i n. refl; takes = λ i. refl }
plain_stage stage.Taking image = record { sets = λ i n to. refl; removes = λ i n. refl; takes = λ i. refl }
plain_stage (stage.Looking owner) image = record { sets = λ i n to. refl; removes = λ i n. refl; takes = λ i. refl }
plain_stage stage.Asking image = record { sets = λ i n to. refl; removes = λ i n. refl; takes = λ i. refl }
plain_stage (stage.Fencing owner) image = record { sets = λ i n to. refl; removes = λ i n. refl; takes = λ i. refl }
plain_stage (stage.Breaking owner) image = record { sets = λ i n to. refl; removes = λ i n. refl; takes = λ i. refl }

pub way_plain : (a : Acquire) → IsPlain (op_of a)
way_plain a = plain_stage a.stage a.image

plain_part : (at : Part_of) (image : ℕ) → IsPlain (release_op_at at image)
plain_part part.Dropping image = record { sets = λ i n to. refl; removes = λ i n. refl; takes = λ i. refl }
plain_part part.Telling image = record { sets = λ i n to. refl; removes = λ i n. refl; takes = λ i. refl }

pub release_plain : (x : Release) → IsPlain (release_op x)
release_plain x = plain_part x.stage x.image
