-- What keeps to its line keeps to it however often it begins a piece again.
use Rattle.std.proofs.Common.{◌≡◌, ℕ, false, List, [], ◌∷◌, Option, Some, None, refl, sym, subst}
use Rattle.rbd_commands.specs.declared.refusal.Refusal.{Refusal}
use Rattle.rbd_kinds.specs.declared.header.HeaderView.{HeaderView}
use Rattle.rbd_kinds.specs.declared.id.SiteId.{SiteId}
use Rattle.rbd_kinds.specs.declared.machine.Fed.{Fed}
use Rattle.rbd_kinds.specs.declared.machine.Fed.TheVariants as fed
use Rattle.rbd_kinds.specs.declared.sharing.Sharing.{Sharing}
use Rattle.rbd_kinds.specs.Sharing.{is_alone}
use Rattle.rbd_machine.specs.Label.{Label}
use Rattle.rbd_machine.specs.Label as label
use Rattle.rbd_machine.specs.Path.{Answered, IsWalk}
use Rattle.rbd_machine.specs.Plan.{Plan, Ask, Await, Note, Return, Goto, past_label}
use Rattle.rbd_machine.specs.Steps.{change_plan}
use Rattle.rbd_machine.specs.Wait as wait
use Rattle.rbd_catalog.specs.InLine.{ChangesInLine, IsLabelOf, KeepsTo, LabelsKeepTo, turn_along}

-- ---- each label of the image is that of a piece of it

module _ (home : SiteId) (labels : Label → Plan) (turn_at : Label → Option ℕ)
    (pieces : (image : ℕ) (h : HeaderView) (bits : List ℕ) (number : ℕ) → KeepsTo home image turn_at (turn_at (label.Piece home image h bits number)) (labels (label.Piece home image h bits number))) where
  label_keeps : (image : ℕ) (l : Label) → IsLabelOf home image l → KeepsTo home image turn_at (turn_at l) (labels l)
  label_keeps image (label.Piece s i h bits number) of =
      subst (λ t. KeepsTo home image turn_at (turn_at (label.Piece t i h bits number)) (labels (label.Piece t i h bits number))) (sym of.0)
      (subst (λ j. KeepsTo home image turn_at (turn_at (label.Piece home j h bits number)) (labels (label.Piece home j h bits number))) (sym of.1) (pieces image h bits number))
  label_keeps image label.Begin of = absurd of
  label_keeps image (label.Sync i) of = absurd of
  label_keeps image label.Lock of = absurd of

pub pieces_begin_again : (home : SiteId) (name : List ℕ) (sharing : Sharing) (refuses : HeaderView → Option Refusal) (act : (image : ℕ) → HeaderView → Plan) (labels : Label → Plan)
    (turn_at : Label → Option ℕ) → is_alone sharing ≡ false → ((image : ℕ) (h : HeaderView) (turn : Option ℕ) → KeepsTo home image turn_at turn (act image h))
    → ((image : ℕ) (h : HeaderView) (bits : List ℕ) (number : ℕ) → KeepsTo home image turn_at (turn_at (label.Piece home image h bits number)) (labels (label.Piece home image h bits number)))
    → ChangesInLine home (record { labels = labels; plan = change_plan home name sharing refuses act })
pieces_begin_again home name sharing refuses act labels turn_at shared keeps pieces = record {
  name = name;
  sharing = sharing;
  shared = shared;
  refuses = refuses;
  act = act;
  plan = refl;
  turn_at = turn_at;
  keeps = keeps;
  labels = label_keeps home labels turn_at pieces;
}

-- ---- along a walk

module _ (site : SiteId) (image : ℕ) (turn_at : Label → Option ℕ) (labels : Label → Plan) (from : LabelsKeepTo site image turn_at labels) where
  settled_keeps : (turn : Option ℕ) (plan : Plan) → KeepsTo site image turn_at turn plan → KeepsTo site image turn_at turn (past_label labels plan)
  settled_keeps turn (Ask s why o next) keeps = keeps
  settled_keeps turn (Await w next) keeps = keeps
  settled_keeps turn (Note s i event next) keeps = keeps
  settled_keeps turn (Return reply) keeps = keeps
  settled_keeps turn (Goto label) keeps = subst (λ t. KeepsTo site image turn_at t (labels label)) (sym keeps.1) (from label keeps.0)

  along : (feds : List Fed) (turn : Option ℕ) (plan : Plan) (steps : List Answered) (last : Plan) → KeepsTo site image turn_at turn plan → IsWalk labels plan feds steps last
      → KeepsTo site image turn_at (turn_along labels turn plan feds) last
  along [] turn plan steps last keeps (none, same) = subst (KeepsTo site image turn_at turn) (sym same) keeps
  along (fed.Answer a ∷ more) turn (Ask s why o next) steps last keeps (first, walk) =
      along more turn (past_label labels (next a)) first.rest last (settled_keeps turn (next a) (keeps.1 a)) walk
  along (fed.Passed ∷ more) turn (Ask s why o next) steps last keeps walk = absurd walk
  along (fed.Passed ∷ more) turn (Await (wait.Hold s i) next) steps last keeps walk =
      along more turn (past_label labels next) steps last (settled_keeps turn next keeps) walk
  along (fed.Passed ∷ more) turn (Await (wait.Turn number) next) steps last keeps walk =
      along more (Some number) (past_label labels next) steps last (settled_keeps (Some number) next keeps) walk
  along (fed.Passed ∷ more) turn (Await (wait.Applied s i) next) steps last keeps walk =
      along more None (past_label labels next) steps last (settled_keeps None next keeps) walk
  along (fed.Passed ∷ more) turn (Await (wait.Join s i sharing) next) steps last keeps walk = absurd keeps
  along (fed.Passed ∷ more) turn (Await (wait.Leave s i) next) steps last keeps walk = absurd keeps
  along (fed.Answer a ∷ more) turn (Await w next) steps last keeps walk = absurd walk
  along (fed.Passed ∷ more) turn (Note s i event next) steps last keeps walk =
      along more turn (past_label labels next) steps last (settled_keeps turn next keeps) walk
  along (fed.Answer a ∷ more) turn (Note s i event next) steps last keeps walk = absurd walk
  along (f ∷ more) turn (Return reply) steps last keeps walk = absurd walk
  along (f ∷ more) turn (Goto label) steps last keeps walk = absurd walk

pub walk_keeps : (site : SiteId) (image : ℕ) (turn_at : Label → Option ℕ) (labels : Label → Plan) (turn : Option ℕ) (plan : Plan) (feds : List Fed) (steps : List Answered) (last : Plan)
    → LabelsKeepTo site image turn_at labels → KeepsTo site image turn_at turn plan → IsWalk labels plan feds steps last → KeepsTo site image turn_at (turn_along labels turn plan feds) last
walk_keeps site image turn_at labels turn plan feds steps last from keeps walk = along site image turn_at labels from feds turn plan steps last keeps walk
