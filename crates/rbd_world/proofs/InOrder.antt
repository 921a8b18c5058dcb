-- The writes of a session stay in order where one of its requests has an operation done.
use Rattle.std.proofs.Common.{◌≡◌, ℕ, ◌==◌, true, false, List, Option, Some, None, refl, sym, ap, ◌∙◌, subst}
use Rattle.std.proofs.lemmas.Bool.{true≢false, eqb-true, and_parts}
use Rattle.std.specs.Prelude.{IsSome}
use Rattle.std.proofs.lemmas.Option.{none-some}
use Rattle.rbd_kinds.specs.declared.sharing.Sharing.{Sharing}
use Rattle.rbd_kinds.specs.declared.answer.Answer.{Answer}
use Rattle.rbd_kinds.specs.declared.answer.Answer.TheVariants as answer
use Rattle.rbd_commands.specs.declared.refusal.Refusal.{Refusal}
use Rattle.rbd_kinds.specs.declared.header.HeaderView.{HeaderView}
use Rattle.rbd_kinds.specs.declared.data_op.DataOp.TheVariants as data_op
use Rattle.rbd_kinds.specs.declared.directory_op.DirectoryOp.TheVariants as directory
use Rattle.rbd_kinds.specs.declared.header_op.HeaderOp.TheVariants as header
use Rattle.rbd_kinds.specs.declared.id.SiteId.{SiteId}
use Rattle.rbd_kinds.specs.declared.machine.Fed.{Fed}
use Rattle.rbd_kinds.specs.declared.machine.Fed.TheVariants as fed
use Rattle.rbd_kinds.specs.declared.map_op.MapOp.TheVariants as states
use Rattle.rbd_kinds.specs.declared.operation.Op.{Op}
use Rattle.rbd_kinds.specs.declared.operation.Op.TheVariants as op
use Rattle.rbd_kinds.specs.declared.reply.Reply.{Reply}
use Rattle.rbd_machine.specs.Label.{Label}
use Rattle.rbd_machine.specs.Path.{at_operation}
use Rattle.rbd_machine.specs.Plan.{Plan, Ask, Await, Note, Return, Goto, IsAsking, Standing, plan_after}
use Rattle.rbd_machine.specs.Steps.{find, joining, looking, on_id}
use Rattle.rbd_machine.specs.declared.reason.Reason.{Reason}
use Rattle.rbd_slots.specs.declared.running.Occupant.{Occupant}
use Rattle.rbd_slots.specs.declared.running.Occupant.TheVariants as occupant
use Rattle.rbd_slots.specs.declared.running.Running.{Running}
use Rattle.rbd_slots.specs.Advance.{AdvancesTo, GoesFurther, fed_by, track_of}
use Rattle.rbd_slots.specs.Lines.{LinesView, lines_of}
use Rattle.rbd_slots.specs.Session.{SessionView, ComesToIn, held_in, running_at, running_in, script_line}
use Rattle.rbd_slots.specs.Track.{Track, answered_by, ended_by, run}
use Rattle.rbd_catalog.specs.InLine.{IsAtTurn, KeepsTo, LabelsKeepTo, ChangesInLine}
use Rattle.rbd_world.specs.Order.{tells_image, writes_object}
use Rattle.rbd_world.proofs.KeptAhead.{KeepsAhead, answer_keeps, end_keeps}

-- ---- what is fed

module _ {R : Type 0} (stands : R → Standing) where
  -- it goes further, and has no reply
  pub came_further : (slot : ℕ) (labels : Label → Plan) (plan : Plan) (t : Track) (result : Option Reply) (r q : Running R) (lines : LinesView) → result ≡ None
      → AdvancesTo stands slot labels plan t result r q lines → GoesFurther stands slot (record { labels = labels; plan = plan }) t result r q lines
  came_further slot labels (Return reply) t result r q lines none comes = absurd (none-some reply (sym none ∙ comes.reply))
  came_further slot labels (Ask s why o next) t result r q lines none comes = comes
  came_further slot labels (Await w next) t result r q lines none comes = comes
  came_further slot labels (Note s image event next) t result r q lines none comes = comes
  came_further slot labels (Goto label) t result r q lines none comes = comes

  -- it has ended, and has left its line
  came_to_end : (slot : ℕ) (labels : Label → Plan) (plan : Plan) (t : Track) (result : Option Reply) (r q : Running R) (lines : LinesView) → IsSome result
      → AdvancesTo stands slot labels plan t result r q lines → lines_of lines ≡ (ended_by slot t).lines
  came_to_end slot labels (Return reply) t result r q lines some comes = comes.left
  came_to_end slot labels (Ask s why o next) t result r q lines some comes = absurd (true≢false (sym (subst IsSome comes.none some)))
  came_to_end slot labels (Await w next) t result r q lines some comes = absurd (true≢false (sym (subst IsSome comes.none some)))
  came_to_end slot labels (Note s image event next) t result r q lines some comes = absurd (true≢false (sym (subst IsSome comes.none some)))
  came_to_end slot labels (Goto label) t result r q lines some comes = absurd (true≢false (sym (subst IsSome comes.none some)))

  -- who has no reply yet has its line in its slot
  pub line_stays : (slot : ℕ) (lines : LinesView) (f : Fed) (result : Option Reply) (r : Running R) (n : Option (Occupant R)) (after : LinesView) → ComesToIn stands slot lines f result r n after
      → result ≡ None → script_line n ≡ Some r.line
  line_stays slot lines f result r (Some (occupant.Running q)) after comes none = ap Some (came_further slot _ _ _ result r q after comes.0 comes.1).line
  line_stays slot lines f result r None after comes none = absurd (true≢false (sym (subst IsSome none comes.0)))
  line_stays slot lines f result r (Some (occupant.Refused line refusal)) after comes none = absurd comes

module _ {R : Type 0} (stands : R → Standing) (slot : ℕ) (c d : SessionView R) (r : Running R) (s : SiteId) (why : Reason) (o : Op) (next : Answer → Plan) (a : Answer) (result : Option Reply)
    (asks : (stands r.request).plan ≡ Ask s why o next) where
  abbrev pub before : Track
  before = track_of r c.lines

  abbrev pub after : Track
  after = run slot (next a) (answered_by slot r.extent before s o a)

  abbrev pub labels_of : Label → Plan
  labels_of = (stands r.request).labels

  -- the request goes on in its slot, or the slot is free
  pub data Came : Type 0 where
    Further : (q : Running R) → running_at slot d ≡ Some q → GoesFurther stands slot (record { labels = labels_of; plan = at_operation labels_of (next a) }) after result r q d.lines → Came
    Ended : running_at slot d ≡ None → lines_of d.lines ≡ (ended_by slot after).lines → Came

  pub came : (n : Option (Occupant R)) → held_in slot d.slots ≡ n → ComesToIn stands slot c.lines (fed.Answer a) result r n d.lines → Came
  came (Some (occupant.Running q)) there comes =
      Further q (ap running_in there)
      (came_further stands slot labels_of (at_operation labels_of (next a)) after result r q d.lines comes.0
      (subst (λ p. AdvancesTo stands slot labels_of (at_operation labels_of (plan_after p (fed.Answer a))) (run slot (plan_after p (fed.Answer a)) (fed_by slot r.extent before p (fed.Answer a))) result r q d.lines) asks comes.1))
  came None there comes =
      Ended (ap running_in there)
      (came_to_end stands slot labels_of (at_operation labels_of (next a)) after result r r d.lines comes.0
      (subst (λ p. AdvancesTo stands slot labels_of (at_operation labels_of (plan_after p (fed.Answer a))) (run slot (plan_after p (fed.Answer a)) (fed_by slot r.extent before p (fed.Answer a))) result r r d.lines) asks comes.1))
  came (Some (occupant.Refused line refusal)) there comes = absurd comes

  -- of two other slots the one ahead stays ahead
  pub others_ahead : Came → KeepsAhead slot (lines_of c.lines) (lines_of d.lines)
  others_ahead (Further q there goes) =
      subst (KeepsAhead slot (lines_of c.lines)) (sym (ap (λ (t : Track). t.lines) goes.track)) (answer_keeps slot r.extent before s o a (next a))
  others_ahead (Ended none left) = subst (KeepsAhead slot (lines_of c.lines)) (sym left) (end_keeps slot r.extent before s o a (next a))

-- ---- it is no look-up

pub turn_tells_none : (site : SiteId) (image : ℕ) (turn : Option ℕ) (s : SiteId) (o : Op) (a : Answer) → IsAtTurn site image turn s o → (i : ℕ) → tells_image i o a ≡ false
turn_tells_none site image turn s (op.Header j header.Get) a at i = refl
turn_tells_none site image turn s (op.Map j (states.Set None n state)) a at i = refl
turn_tells_none site image turn s (op.Data j n o) a at i = refl
turn_tells_none site image turn s o a at i = absurd at

-- it writes the object of its turn
pub record WritesAtTurn (site : SiteId) (image : ℕ) (turn : Option ℕ) (s : SiteId) (i number : ℕ) : Type 0 where
  pub site_is : s ≡ site
  pub image_is : i ≡ image
  pub turn_is : turn ≡ Some number

pub writes_at_turn : (site : SiteId) (image : ℕ) (turn : Option ℕ) (s : SiteId) (o : Op) → IsAtTurn site image turn s o → (i number : ℕ) → writes_object i number o ≡ true
    → WritesAtTurn site image turn s i number
writes_at_turn site image turn s (op.Header j header.Get) at i number is = absurd (true≢false (sym is))
writes_at_turn site image turn s (op.Map j (states.Set None n state)) at i number is = absurd (true≢false (sym is))
writes_at_turn site image turn s (op.Data j n (data_op.Read snap parts)) at i number is = absurd at
writes_at_turn site image turn s (op.Data j n o) at i number is =
    let parts = and_parts (j == i) (n == number) is in
    record { site_is = at.0; image_is = sym (eqb-true j i parts.0) ∙ at.1; turn_is = at.2 ∙ ap Some (eqb-true n number parts.1) }
writes_at_turn site image turn s o at i number is = absurd at

-- ---- it is the look-up of a write

abbrev site_asked : SiteId → Plan → SiteId
site_asked other (Ask s why o next) = s
site_asked other plan = other

abbrev operation_asked : Op → Plan → Op
operation_asked other (Ask s why o next) = o
operation_asked other plan = other

abbrev next_asked : (Answer → Plan) → Plan → Answer → Plan
next_asked other (Ask s why o next) = next
next_asked other plan = other

-- how it goes on behind the look-up
abbrev pub joins : SiteId → Sharing → (refuses : HeaderView → Option Refusal) → (act : (image : ℕ) → HeaderView → Plan) → (image : ℕ) → Plan
joins home sharing refuses act = joining home sharing refuses act

abbrev pub looks : SiteId → (refuses : HeaderView → Option Refusal) → (act : (image : ℕ) → HeaderView → Plan) → (image : ℕ) → Plan
looks home refuses act = looking home refuses act

pub record LooksUp (home s : SiteId) (o : Op) (next : Answer → Plan) (from : Label → Plan) : Type 0 where
  pub name : List ℕ
  pub sharing : Sharing
  pub refuses : HeaderView → Option Refusal
  pub act : (image : ℕ) → HeaderView → Plan
  pub site_is : s ≡ home
  pub op_is : o ≡ op.Directory (directory.Find name)
  pub next_is : next ≡ on_id (joins home sharing refuses act)
  pub turn_at : Label → Option ℕ
  pub keeps : (image : ℕ) (h : HeaderView) (turn : Option ℕ) → KeepsTo home image turn_at turn (act image h)
  pub labels : (image : ℕ) → LabelsKeepTo home image turn_at from

looks_up_so : (home s : SiteId) (why : Reason) (o : Op) (next : Answer → Plan) (st : Standing) (changes : ChangesInLine home st) → Ask s why o next ≡ find home changes.name (joins home changes.sharing changes.refuses changes.act)
    → LooksUp home s o next st.labels
looks_up_so home s why o next st changes is = record {
  name = changes.name;
  sharing = changes.sharing;
  refuses = changes.refuses;
  act = changes.act;
  site_is = ap (site_asked s) is;
  op_is = ap (operation_asked o) is;
  next_is = ap (next_asked next) is;
  turn_at = changes.turn_at;
  keeps = changes.keeps;
  labels = changes.labels;
}

pub looks_up : (home s : SiteId) (why : Reason) (o : Op) (next : Answer → Plan) (st : Standing) → st.plan ≡ Ask s why o next → ChangesInLine home st → LooksUp home s o next st.labels
looks_up home s why o next st asks changes = looks_up_so home s why o next st changes (sym asks ∙ changes.plan)

pub record Told (a : Answer) : Type 0 where
  pub image : ℕ
  pub is : a ≡ answer.Id image

-- it goes further only if it was told an image
pub told_it : (labels : Label → Plan) (next : ℕ → Plan) (a : Answer) → IsAsking (at_operation labels (on_id next a)) → Told a
told_it labels next (answer.Id image) further = record { image = image; is = refl }
told_it labels next answer.Fenced further = absurd further
told_it labels next _ further = absurd further

pub up_writes_none : (home s : SiteId) (o : Op) (next : Answer → Plan) (from : Label → Plan) → LooksUp home s o next from → (i number : ℕ) → writes_object i number o ≡ false
up_writes_none home s o next from up i number = ap (writes_object i number) up.op_is
