-- What comes of a request that is fed an answer: nobody can tell one from another.
use Rattle.std.proofs.Common.{◌≡◌, ℕ, Option, Some, None, is_some, refl, sym, ap, ◌∙◌}
use Rattle.std.specs.Prelude.{IsSome}
use Rattle.std.proofs.lemmas.Bool.{true≢false}
use Rattle.std.proofs.lemmas.Option.{none-some}
use Rattle.rbd_kinds.specs.declared.machine.Fed.{Fed}
use Rattle.rbd_kinds.specs.declared.reply.Reply.{Reply}
use Rattle.rbd_machine.specs.Label.{Label}
use Rattle.rbd_machine.specs.Path.{at_operation}
use Rattle.rbd_machine.specs.Plan.{Plan, Ask, Await, Note, Return, Goto, Standing, plan_after}
use Rattle.rbd_slots.specs.Advance.{AdvancesTo, GoesFurther, IsSameStand, fed_by, track_of}
use Rattle.rbd_slots.specs.Lines.{LinesView, lines_of}
use Rattle.rbd_slots.specs.Session.{ComesToIn, IsAlikeIn, IsFed, OfRunning, SessionView, held_in}
use Rattle.rbd_slots.specs.Track.{Track, run}
use Rattle.rbd_slots.specs.declared.running.Occupant.{Occupant}
use Rattle.rbd_slots.specs.declared.running.Occupant.TheVariants as occupant
use Rattle.rbd_slots.specs.declared.running.Running.{Running}

module _ {R : Type 0} (stands : R → Standing) (slot : ℕ) (labels : Label → Plan) (result : Option Reply) (r : Running R) (after also : LinesView) where
  -- ---- it goes on

  further_once : (to : Standing) (t : Track) (p q : Running R) → GoesFurther stands slot to t result r p after → GoesFurther stands slot to t result r q also
      → IsSameStand stands p q × (lines_of also ≡ lines_of after)
  further_once to t p q goes other =
      let same : track_of q also ≡ track_of p after = other.track ∙ sym goes.track in (
        record {
          same = other.request ∙ sym goes.request;
          line = other.line ∙ sym goes.line;
          extent = other.extent ∙ sym goes.extent;
          place = ap (λ (x : Track). x.place) same;
          turn = ap (λ (x : Track). x.turn) same;
        },
        ap (λ (x : Track). x.lines) same,
      )

  runs_once : (plan : Plan) (t : Track) (p q : Running R) → result ≡ None → AdvancesTo stands slot labels plan t result r p after → AdvancesTo stands slot labels plan t result r q also
      → IsSameStand stands p q × (lines_of also ≡ lines_of after)
  runs_once (Return reply) t p q none comes other = absurd (none-some reply (sym none ∙ comes.reply))
  runs_once (Ask site why o next) t p q none comes other = further_once (record { labels = labels; plan = Ask site why o next }) t p q comes other
  runs_once (Await w next) t p q none comes other = further_once (record { labels = labels; plan = Await w next }) t p q comes other
  runs_once (Note site image event next) t p q none comes other = further_once (record { labels = labels; plan = Note site image event next }) t p q comes other
  runs_once (Goto label) t p q none comes other = further_once (record { labels = labels; plan = Goto label }) t p q comes other

  -- ---- it has ended

  never : {P : Type 0} → IsSome result → result ≡ None → P
  never some none = absurd (true≢false (sym some ∙ ap is_some none))

  ends_once : (plan : Plan) (t : Track) → IsSome result → AdvancesTo stands slot labels plan t result r r after → AdvancesTo stands slot labels plan t result r r also → lines_of also ≡ lines_of after
  ends_once (Return reply) t some comes other = other.left ∙ sym comes.left
  ends_once (Ask site why o next) t some comes other = never some comes.none
  ends_once (Await w next) t some comes other = never some comes.none
  ends_once (Note site image event next) t some comes other = never some comes.none
  ends_once (Goto label) t some comes other = never some comes.none

-- ---- in its slot

module _ {R : Type 0} (stands : R → Standing) (slot : ℕ) (lines : LinesView) (f : Fed) (result : Option Reply) (after also : LinesView) where
  abbrev Comes : Running R → Option (Occupant R) → LinesView → Type 0
  Comes r n there = ComesToIn stands slot lines f result r n there

  comes_once : (r : Running R) (n m : Option (Occupant R)) → Comes r n after → Comes r m also → IsAlikeIn stands n m × (lines_of also ≡ lines_of after)
  comes_once r (Some (occupant.Running p)) (Some (occupant.Running q)) comes other =
      runs_once stands slot (stands r.request).labels result r after also (at_operation (stands r.request).labels (plan_after (stands r.request).plan f))
      (run slot (plan_after (stands r.request).plan f) (fed_by slot r.extent (track_of r lines) (stands r.request).plan f)) p q comes.0 comes.1 other.1
  comes_once r (Some (occupant.Running p)) None comes other = absurd (true≢false (sym other.0 ∙ ap is_some comes.0))
  comes_once r (Some (occupant.Running p)) (Some (occupant.Refused line refusal)) comes other = elim other [ ]
  comes_once r None (Some (occupant.Running q)) comes other = absurd (true≢false (sym comes.0 ∙ ap is_some other.0))
  comes_once r None None comes other = (
    refl,
    ends_once stands slot (stands r.request).labels result r after also (at_operation (stands r.request).labels (plan_after (stands r.request).plan f))
        (run slot (plan_after (stands r.request).plan f) (fed_by slot r.extent (track_of r lines) (stands r.request).plan f)) comes.0 comes.1 other.1,
  )
  comes_once r None (Some (occupant.Refused line refusal)) comes other = elim other [ ]
  comes_once r (Some (occupant.Refused line refusal)) m comes other = elim comes [ ]

  fed_of : (o n m : Option (Occupant R)) → OfRunning (λ r. Comes r n after) o → OfRunning (λ r. Comes r m also) o → IsAlikeIn stands n m × (lines_of also ≡ lines_of after)
  fed_of (Some (occupant.Running r)) n m fed other = comes_once r n m fed other
  fed_of (Some (occupant.Refused line refusal)) n m fed other = elim fed [ ]
  fed_of None n m fed other = elim fed [ ]

-- from one session, by one answer
pub fed_once : {R : Type 0} (stands : R → Standing) (slot : ℕ) (f : Fed) (result : Option Reply) (s n m : SessionView R) → IsFed stands slot f result s n → IsFed stands slot f result s m
    → IsAlikeIn stands (held_in slot n.slots) (held_in slot m.slots) × (lines_of m.lines ≡ lines_of n.lines)
fed_once stands slot f result s n m fed other =
    fed_of stands slot s.lines f result n.lines m.lines (held_in slot s.slots) (held_in slot n.slots) (held_in slot m.slots) fed other
