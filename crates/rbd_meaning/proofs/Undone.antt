-- Refusals change nothing.
use Rattle.std.proofs.Common.{◌≡◌, ◌⊎◌, inl, inr, ℕ, List, [], ◌∷◌, ◌++◌, true, false, Option, Some, None, refl, sym, subst}
use Rattle.rbd_kinds.specs.declared.answer.Answer.{Answer}
use Rattle.rbd_kinds.specs.declared.answer.Answer.TheVariants as answer
use Rattle.rbd_commands.specs.declared.command.Command.{Command}
use Rattle.rbd_commands.specs.declared.command.Command.TheVariants as command
use Rattle.rbd_kinds.specs.declared.directory_op.DirectoryOp.{DirectoryOp}
use Rattle.rbd_kinds.specs.declared.directory_op.DirectoryOp.TheVariants as directory
use Rattle.rbd_kinds.specs.declared.header.HeaderView.{HeaderView}
use Rattle.rbd_kinds.specs.declared.header_op.HeaderOp.{HeaderOp}
use Rattle.rbd_kinds.specs.declared.header_op.HeaderOp.TheVariants as header
use Rattle.rbd_kinds.specs.declared.id.SiteId.{SiteId}
use Rattle.rbd_kinds.specs.declared.layout.Extent.{Extent}
use Rattle.rbd_kinds.specs.declared.operation.Op.{Op}
use Rattle.rbd_kinds.specs.declared.operation.Op.TheVariants as op
use Rattle.rbd_commands.specs.declared.refusal.Refusal.{Refusal}
use Rattle.rbd_commands.specs.declared.refusal.Refusal.TheVariants as refusal
use Rattle.rbd_kinds.specs.declared.reply.Reply.TheVariants as reply
use Rattle.rbd_layout.specs.declared.types.Piece.{Piece}
use Rattle.rbd_machine.specs.Passes.{steps_of_passes}
use Rattle.rbd_machine.specs.Path.{Answered}
use Rattle.rbd_machine.specs.declared.seat.Seat.{Seat}
use Rattle.rbd_machine.specs.Refused.{by_fence, refusal_by, only_looks, AreLooks, IsRefusedBy}
use Rattle.rbd_meaning.specs.Meant.{IsMeantBy}
use Rattle.rbd_pieces.proofs.Pieces.{of_each_piece}
use Rattle.rbd_meaning.specs.Reads.{AreRead, IsShown, IsPassTo, SeeOthers, RefusedAtLast}
use Rattle.rbd_meaning.specs.Removals.{image_removal_refuses, removal_refusal_by, RefusesRemovalOf}
use Rattle.rbd_meaning.specs.Straight.{MeansStraight, Straight, straight_of}
use Rattle.rbd_meaning.specs.Undone.{ComesLate, lets_go, tells_undone, ChangeNothing}

-- those of two stretches
pub nothing_after : (one two : List Answered) → ChangeNothing one → ChangeNothing two → ChangeNothing (one ++ two)
nothing_after [] two none more = more
nothing_after (s ∷ one) two (first, none) more = (first, nothing_after one two none more)

looks_change_nothing : (steps : List Answered) → AreLooks steps → ChangeNothing steps
looks_change_nothing [] looks = tt
looks_change_nothing (s ∷ steps) (first, looks) = (inl first, looks_change_nothing steps looks)

-- ---- an answer that refuses

module _ (refuses : HeaderView → Option Refusal) (x : Refusal) where
  abbrev Refuses : Op → Answer → Type 0
  Refuses o a = refusal_by refuses o a ≡ Some x

  abbrev Undone : Op → Answer → Type 0
  Undone o a = (only_looks o ≡ true) ⊎ (tells_undone a ≡ true)

  directory_undone : (o : DirectoryOp) (a : Answer) → Refuses (op.Directory o) a → Undone (op.Directory o) a
  directory_undone (directory.Find name) a is = inl refl
  directory_undone directory.List a is = inl refl
  directory_undone o answer.Absent is = inr refl
  directory_undone o answer.Exists is = inr refl
  directory_undone o answer.Full is = inr refl
  directory_undone o answer.Fenced is = inr refl
  directory_undone _ _ is = cc

  header_undone : (image : ℕ) (o : HeaderOp) (a : Answer) → Refuses (op.Header image o) a → Undone (op.Header image o) a
  header_undone image header.Get a is = inl refl
  header_undone image o answer.Absent is = inr refl
  header_undone image o answer.Exists is = inr refl
  header_undone image o answer.Full is = inr refl
  header_undone image o answer.Fenced is = inr refl
  header_undone image _ _ is = cc

  undone : (o : Op) (a : Answer) → Refuses o a → Undone o a
  undone (op.Directory o) a is = directory_undone o a is
  undone (op.Header image o) a is = header_undone image o a is
  undone o answer.Absent is = inr refl
  undone o answer.Exists is = inr refl
  undone o answer.Full is = inr refl
  undone o answer.Fenced is = inr refl
  undone _ _ is = cc

refused_changes_nothing : (refuses : HeaderView → Option Refusal) (late : Refusal → Type 0) (x : Refusal) (steps : List Answered) → IsRefusedBy refuses late steps x → (late x → ⊥) → ChangeNothing steps
refused_changes_nothing refuses late x steps by not_late =
    subst ChangeNothing (sym by.are)
    (nothing_after by.before (by.last ∷ []) (looks_change_nothing by.before (by.unchanged not_late)) (undone refuses x by.last.op by.last.answer by.refused, tt))

-- ---- the passes of a read

reads_change_nothing : (pieces : List Piece) (steps : List Answered) (site : SiteId) (image : ℕ) (snap : Option ℕ) → AreRead site image snap pieces steps → ChangeNothing steps
reads_change_nothing pieces steps site image snap read =
    of_each_piece ChangeNothing tt nothing_after (IsShown site image snap) (λ p steps is. subst ChangeNothing (sym is.are) (inl refl, tt)) pieces steps read

pub pass_changes_nothing : (site : SiteId) (name : List ℕ) (snap : Option (List ℕ)) (e : Extent) (steps : List Answered) (closing : Answer) → IsPassTo site name snap e steps closing → ChangeNothing steps
pass_changes_nothing site name snap e steps closing pass =
    subst ChangeNothing (sym pass.are)
    (inl refl, (inl refl, nothing_after pass.reads (_ ∷ []) (reads_change_nothing _ pass.reads site pass.image pass.view.snap pass.read) (inl refl, tt)))

pub passes_change_nothing : (site : SiteId) (name : List ℕ) (snap : Option (List ℕ)) (e : Extent) (passes : List (List Answered)) → SeeOthers site name snap e passes → ChangeNothing (steps_of_passes passes)
passes_change_nothing site name snap e [] see = tt
passes_change_nothing site name snap e (pass ∷ passes) (sees, see) =
    nothing_after pass (steps_of_passes passes) (pass_changes_nothing site name snap e pass sees.closing sees.pass) (passes_change_nothing site name snap e passes see)

read_changes_nothing : (site : SiteId) (name : List ℕ) (snap : Option (List ℕ)) (e : Extent) (steps : List Answered) (x : Refusal) → RefusedAtLast site name snap e steps x → ChangeNothing steps
read_changes_nothing site name snap e steps x refused =
    subst ChangeNothing (sym refused.are)
    (nothing_after (steps_of_passes refused.passes) refused.pass (passes_change_nothing site name snap e refused.passes refused.before) (refused_changes_nothing _ _ x refused.pass refused.by.by (λ late. late)))

-- ---- the removal of an image

removal_undone : (session : ℕ) (x : Refusal) (o : Op) (a : Answer) → removal_refusal_by session o a ≡ Some x → (only_looks o ≡ true) ⊎ (tells_undone a ≡ true)
removal_undone session x (op.Header image header.WatchersGet) a is = inl refl
removal_undone session x (op.Directory o) a is = undone image_removal_refuses x (op.Directory o) a is
removal_undone session x (op.Header image o) a is = header_removal o a is
  where
    header_removal : (o : HeaderOp) (a : Answer) → removal_refusal_by session (op.Header image o) a ≡ Some x → (only_looks (op.Header image o) ≡ true) ⊎ (tells_undone a ≡ true)
    header_removal header.WatchersGet a is = inl refl
    header_removal header.Get a is = inl refl
    header_removal o answer.Absent is = inr refl
    header_removal o answer.Exists is = inr refl
    header_removal o answer.Full is = inr refl
    header_removal o answer.Fenced is = inr refl
    header_removal _ _ is = cc
removal_undone session x o answer.Absent is = inr refl
removal_undone session x o answer.Exists is = inr refl
removal_undone session x o answer.Full is = inr refl
removal_undone session x o answer.Fenced is = inr refl
removal_undone session x _ _ is = cc

removal_changes_nothing : (site : SiteId) (session : ℕ) (image : List ℕ) (steps : List Answered) (x : Refusal) → RefusesRemovalOf site session image steps x → (by_fence x → ⊥) → ChangeNothing steps
removal_changes_nothing site session image steps x refuses not_late =
    subst ChangeNothing (sym refuses.are)
    (nothing_after refuses.before (refuses.last ∷ []) (looks_change_nothing refuses.before (refuses.unchanged not_late)) (removal_undone session x refuses.last.op refuses.last.answer refuses.refused, tt))

-- ---- straight commands

straight_changes_nothing : (site : SiteId) (o : Option Straight) (steps : List Answered) (x : Refusal) → MeansStraight site o steps (reply.Refused x) → ChangeNothing steps
straight_changes_nothing site None steps x meant = absurd meant
straight_changes_nothing site (Some s) steps x refused = refused_changes_nothing _ _ x steps refused.by (λ late. late)

-- ---- all commands

pub meant_changes_nothing : (seat : Seat) (c : Command) (steps : List Answered) (x : Refusal) → IsMeantBy seat c steps (reply.Refused x) → (ComesLate c x → ⊥) → ChangeNothing steps
meant_changes_nothing seat (command.Create image size shape) steps x (plain, inl outside) not_late = subst ChangeNothing (sym outside.none) tt
meant_changes_nothing seat (command.Create image size shape) steps x (plain, inr unmade) not_late = refused_changes_nothing _ _ x steps unmade.by.by not_late
meant_changes_nothing seat (command.Write image at bytes) steps x refuses not_late = refused_changes_nothing _ _ x steps refuses.refused.by not_late
meant_changes_nothing seat (command.Fill image at len byte) steps x refuses not_late = refused_changes_nothing _ _ x steps refuses.refused.by not_late
meant_changes_nothing seat (command.Discard image at len) steps x refuses not_late = refused_changes_nothing _ _ x steps refuses.refused.by not_late
meant_changes_nothing seat (command.Read image snap at len) steps x refused not_late = read_changes_nothing seat.home image snap _ steps x refused
meant_changes_nothing seat (command.Resize image size) steps x refuses not_late = refused_changes_nothing _ _ x steps refuses.refused.by not_late
meant_changes_nothing seat (command.Rename from to) steps x by not_late = refused_changes_nothing _ _ x steps by.by not_late
meant_changes_nothing seat (command.Remove image) steps x refuses not_late = removal_changes_nothing seat.home seat.session image steps x refuses not_late
meant_changes_nothing seat (command.Used image) steps x by not_late = refused_changes_nothing _ _ x steps by.by not_late
meant_changes_nothing seat command.List steps x by not_late = refused_changes_nothing _ _ x steps by.by not_late
meant_changes_nothing seat (command.Info image) steps x by not_late = refused_changes_nothing _ _ x steps by.by not_late
meant_changes_nothing seat (command.SnapList image) steps x by not_late = refused_changes_nothing _ _ x steps by.by not_late
meant_changes_nothing seat (command.SnapCreate image snap) steps x by not_late = refused_changes_nothing _ _ x steps by.by not_late
meant_changes_nothing seat (command.SnapRemove image snap) steps x refuses not_late = refused_changes_nothing _ _ x steps refuses.refused.by not_late
meant_changes_nothing seat (command.SnapRollback image snap) steps x refuses not_late = refused_changes_nothing _ _ x steps refuses.refused.by not_late
meant_changes_nothing seat (command.Close image) steps x by not_late = refused_changes_nothing _ _ x steps by.by not_late
meant_changes_nothing seat (command.Quiesce image) steps x by not_late = refused_changes_nothing _ _ x steps by.by not_late
meant_changes_nothing seat c steps x meant not_late = straight_changes_nothing seat.home (straight_of c) steps x meant

-- but for the fence, whatever the command is that drops no lock
pub meant_unless_fenced : (seat : Seat) (c : Command) (steps : List Answered) (x : Refusal) → lets_go c ≡ false → IsMeantBy seat c steps (reply.Refused x) → (x ≡ refusal.Fenced → ⊥) → ChangeNothing steps
meant_unless_fenced seat c steps x keeps meant not_fenced = meant_changes_nothing seat c steps x meant (not_late c keeps)
  where
    not_late : (c : Command) → lets_go c ≡ false → ComesLate c x → ⊥
    not_late (command.Create image size shape) keeps late = not_fenced late
    not_late (command.Write image at bytes) keeps late = not_fenced late
    not_late (command.Fill image at len byte) keeps late = not_fenced late
    not_late (command.Discard image at len) keeps late = not_fenced late
    not_late (command.Resize image size) keeps late = not_fenced late
    not_late (command.Remove image) keeps late = not_fenced late
    not_late (command.SnapRemove image snap) keeps late = not_fenced late
    not_late (command.SnapRollback image snap) keeps late = not_fenced late
    not_late (command.Close image) keeps late = cc
    not_late _ keeps late = absurd late
