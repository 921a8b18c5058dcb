-- Each operation behind a reply that is meant was done at the session's home.
use Rattle.std.proofs.Common.{◌≡◌, inl, inr, ℕ, Bool, true, false, List, [], ◌∷◌, ◌++◌, Option, Some, None, map, refl, sym, ap, subst}
use Rattle.std.specs.Prelude.{nat_le}
use Rattle.rbd_commands.specs.declared.command.Command.{Command}
use Rattle.rbd_commands.specs.declared.command.Command.TheVariants as command
use Rattle.rbd_kinds.specs.declared.header.HeaderView.{HeaderView}
use Rattle.rbd_header.specs.Header.{context_of}
use Rattle.rbd_kinds.specs.declared.header.SnapContext.{SnapContext}
use Rattle.rbd_kinds.specs.declared.id.SiteId.{SiteId}
use Rattle.rbd_kinds.specs.declared.layout.Extent.{Extent}
use Rattle.rbd_kinds.specs.declared.operation.Op.{Op}
use Rattle.rbd_kinds.specs.declared.answer.Answer.{Answer}
use Rattle.rbd_kinds.specs.declared.answer.Answer.TheVariants as answer
use Rattle.rbd_kinds.specs.declared.reply.Reply.{Reply}
use Rattle.rbd_kinds.specs.declared.reply.Reply.TheVariants as reply
use Rattle.rbd_layout.specs.Pieces.{pieces_of}
use Rattle.rbd_layout.specs.declared.types.Piece.{Piece}
use Rattle.rbd_machine.specs.About.{AreOfImage, AreOwn}
use Rattle.rbd_machine.specs.Ancestors.{HeaderSeen, seen_by}
use Rattle.rbd_machine.specs.Passes.{steps_of_passes}
use Rattle.rbd_machine.specs.Path.{Answered}
use Rattle.rbd_machine.specs.declared.seat.Seat.{Seat}
use Rattle.rbd_meaning.specs.Closes.{ClosesBy}
use Rattle.rbd_meaning.specs.Meant.{IsMeantBy}
use Rattle.rbd_meaning.specs.Reads.{AreRead, IsPassTo, IsShown, SeeOthers}
use Rattle.rbd_meaning.specs.Removals.{AreRemovals, removal}
use Rattle.rbd_meaning.specs.Rollbacks.{AreRestored, IsRestored, at_size}
use Rattle.rbd_meaning.specs.Straight.{all_told, MeansStraight, Straight, straight_of}
use Rattle.rbd_meaning.specs.Writes.{AreWritten, IsWritten, WritesWhole}
use Rattle.rbd_pieces.specs.Full.{cut_bytes, replaced_by}
use Rattle.rbd_pieces.specs.Pieces.{ArePieces}
use Rattle.rbd_pieces.specs.Shrink.{pieces_from}
use Rattle.rbd_pieces.specs.Size.{AreZeroed, IsResizedBy}
use Rattle.rbd_pieces.specs.Zero.{IsZeroed, all_zeroed, head_of, is_inside, is_whole, zeroed_by}
use Rattle.rbd_pieces.proofs.Pieces.{of_each_piece}
use Rattle.rbd_replies.proofs.Places.{step_at}
use Rattle.rbd_replies.specs.Home.{AreDoneAt}
use Rattle.rbd_replies.specs.Places.{Placed}

abbrev AreAt : SiteId → List Answered → Type 0
AreAt site [] = Unit {0}
AreAt site (step ∷ steps) = (step.site ≡ site) × AreAt site steps

module _ (site : SiteId) where
  at_both : (one two : List Answered) → AreAt site one → AreAt site two → AreAt site (one ++ two)
  at_both [] two at_one at_two = at_two
  at_both (step ∷ one) two (first, at_one) at_two = (first, at_both one two at_one at_two)

  -- a request's own operations
  of_image_at : (seen : List HeaderSeen) (image : ℕ) (steps : List Answered) → AreOfImage seen site image steps → AreAt site steps
  of_image_at seen image [] are = tt
  of_image_at seen image (step ∷ steps) (first, is, are) = (first, of_image_at (seen_by seen step.site step.op step.answer) image steps are)

  own_at : (ask : Op) (steps : List Answered) → AreOwn site ask steps → AreAt site steps
  own_at ask [] own = tt
  own_at ask (first ∷ []) own = (own.0, tt)
  own_at ask (first ∷ next ∷ others) own = (ap (λ (s : Answered). s.site) own.told, of_image_at [] own.image (next ∷ others) own.are)

  -- pieces
  each_at : {P : Type 0} → (IsPiece : P → List Answered → Type 0) → ((p : P) (steps : List Answered) → IsPiece p steps → AreAt site steps)
      → (pieces : List P) (steps : List Answered) → ArePieces IsPiece pieces steps → AreAt site steps
  each_at IsPiece each pieces steps are = of_each_piece (AreAt site) tt at_both IsPiece each pieces steps are

  written_at : (image : ℕ) (h : HeaderView) (at : ℕ) (bytes : List ℕ) (pieces : List Piece) (steps : List Answered) → AreWritten site image h at bytes pieces steps → AreAt site steps
  written_at image h at bytes pieces steps are = each_at (IsWritten site image h at bytes) (λ p steps is. subst (AreAt site) (sym is) (refl, (refl, tt))) pieces steps are

  whole_at : (name : List ℕ) (at : ℕ) (bytes : List ℕ) (steps : List Answered) → WritesWhole site name at bytes steps → AreAt site steps
  whole_at name at bytes steps whole = subst (AreAt site) (sym whole.are) (refl, (refl, (refl, written_at whole.image whole.own at bytes _ whole.written whole.are_written)))

  shown_at : (image : ℕ) (snap : Option ℕ) (p : Piece) (steps : List Answered) → IsShown site image snap p steps → AreAt site steps
  shown_at image snap p steps is = subst (AreAt site) (sym is.are) (refl, tt)

  read_at : (image : ℕ) (snap : Option ℕ) (pieces : List Piece) (steps : List Answered) → AreRead site image snap pieces steps → AreAt site steps
  read_at image snap pieces steps read = each_at (IsShown site image snap) (shown_at image snap) pieces steps read

  -- the passes of a read
  module _ (name : List ℕ) (snap : Option (List ℕ)) (e : Extent) where
    pass_at : (steps : List Answered) (closing : Answer) → IsPassTo site name snap e steps closing → AreAt site steps
    pass_at steps closing pass =
        subst (AreAt site) (sym pass.are) (refl, (refl, at_both pass.reads (_ ∷ []) (read_at pass.image pass.view.snap _ pass.reads pass.read) (refl, tt)))

    passes_at : (passes : List (List Answered)) → SeeOthers site name snap e passes → AreAt site (steps_of_passes passes)
    passes_at [] see = tt
    passes_at (pass ∷ passes) (sees, see) = at_both pass (steps_of_passes passes) (pass_at pass sees.closing sees.pass) (passes_at passes see)

  -- pieces that become zeros
  all_zeroed_at : (image : ℕ) (context : SnapContext) (piece : Piece) (inside : Bool) → AreAt site (all_zeroed site image context piece inside)
  all_zeroed_at image context piece false = (refl, (refl, (refl, tt)))
  all_zeroed_at image context piece true = (refl, (refl, tt))

  zeroed_by_at : (image : ℕ) (context : SnapContext) (piece : Piece) (whole inside : Bool) → AreAt site (zeroed_by site image context piece whole inside)
  zeroed_by_at image context piece false false = (refl, tt)
  zeroed_by_at image context piece false true = (refl, (refl, tt))
  zeroed_by_at image context piece true inside = all_zeroed_at image context piece inside

  zeroed_at : (image : ℕ) (h : HeaderView) (pieces : List Piece) (steps : List Answered) → AreZeroed site image h pieces steps → AreAt site steps
  zeroed_at image h pieces steps are =
      each_at (IsZeroed site image h) (λ p steps is. subst (AreAt site) (sym is) (zeroed_by_at image (context_of h) p (is_whole h p) (is_inside h p.object))) pieces steps are

  -- a size that is set
  resized_at : (grows : Bool) (image : ℕ) (h : HeaderView) (to objects : ℕ) (steps : List Answered) → IsResizedBy grows site image h to objects steps → AreAt site steps
  resized_at true image h to objects steps are = subst (AreAt site) (sym are) (refl, (refl, tt))
  resized_at false image h to objects steps shrunk =
      subst (AreAt site) (sym shrunk.are) (refl, at_both shrunk.zeroed (_ ∷ []) (zeroed_at image h (pieces_from h to shrunk.bits) shrunk.zeroed shrunk.are_zeroed) (refl, tt))

  -- objects that become what they were
  replaced_at : (image : ℕ) (h : HeaderView) (p : Piece) (left : List ℕ) → AreAt site (replaced_by site image h p left)
  replaced_at image h p [] = all_zeroed_at image (context_of h) p (is_inside h p.object)
  replaced_at image h p (byte ∷ left) = (refl, (refl, tt))

  restoring_at : (image : ℕ) (h : HeaderView) (snap : ℕ) (p : Piece) (steps : List Answered) → IsRestored site image h snap p steps → AreAt site steps
  restoring_at image h snap p steps is =
      let read = is.read in
      subst (AreAt site) (sym is.are) (at_both is.reading is.replacing (shown_at image (Some snap) p is.reading read) (subst (AreAt site) (sym is.is_replaced) (replaced_at image h p (cut_bytes read.bytes))))

  restored_at : (image : ℕ) (h : HeaderView) (snap : ℕ) (pieces : List Piece) (steps : List Answered) → AreRestored site image h snap pieces steps → AreAt site steps
  restored_at image h snap pieces steps are =
      each_at (IsRestored site image h snap) (restoring_at image h snap) pieces steps are

  -- what is removed
  removals_at : (ops : List Op) (steps : List Answered) → AreRemovals site ops steps → AreAt site steps
  removals_at [] [] are = tt
  removals_at [] (step ∷ steps) are = absurd are
  removals_at (o ∷ ops) [] are = absurd are
  removals_at (o ∷ ops) (step ∷ steps) (first, is, gone, are) = (first, removals_at ops steps are)

  -- what a close does behind the drop of the lock
  closing_at : (image : ℕ) (dropped : Answer) (behind : List Answered) → ClosesBy site image dropped behind → AreAt site behind
  closing_at image answer.Done behind are = subst (AreAt site) (sym are) (refl, (refl, tt))
  closing_at image answer.Changed behind are = subst (AreAt site) (sym are) (refl, tt)
  closing_at image _ behind are = absurd are

  -- a straight command
  told_at : (image : ℕ) (o : Option (List ℕ)) → AreAt site (all_told site image o)
  told_at image None = tt
  told_at image (Some bytes) = (refl, tt)

  straight_at : (o : Option Straight) (steps : List Answered) (r : Reply) → MeansStraight site o steps r → AreAt site steps
  straight_at None steps r meant = absurd meant
  straight_at (Some s) steps reply.Done goes = subst (AreAt site) (sym goes.are) (refl, told_at goes.image s.tells)
  straight_at (Some s) steps (reply.Refused x) refused = own_at _ steps refused.own
  straight_at (Some s) steps _ meant = absurd meant

  front_at : (one two : List Answered) → AreAt site (one ++ two) → AreAt site one
  front_at [] two are = tt
  front_at (step ∷ one) two (first, are) = (first, front_at one two are)

  places_at : (places : List Placed) → AreAt site (map step_at places) → AreDoneAt site places
  places_at [] are = tt
  places_at (p ∷ places) (first, are) = (first, places_at places are)

-- all commands
module _ (seat : Seat) where
  meant_at : (c : Command) (steps : List Answered) (r : Reply) → IsMeantBy seat c steps r → AreAt seat.home steps
  meant_at (command.Create name size shape) steps reply.Done (plain, makes) = subst (AreAt seat.home) (sym makes.made.are) (refl, (refl, (refl, tt)))
  meant_at (command.Create name size shape) steps (reply.Refused x) (plain, inl outside) = subst (AreAt seat.home) (sym outside.none) tt
  meant_at (command.Create name size shape) steps (reply.Refused x) (plain, inr unmade) = own_at seat.home _ steps unmade.by.own
  meant_at (command.Create name size shape) steps _ (plain, meant) = absurd meant
  meant_at (command.Write name at bytes) steps reply.Done whole = whole_at seat.home name at _ steps whole
  meant_at (command.Write name at bytes) steps (reply.Refused x) refuses = own_at seat.home _ steps refuses.refused.own
  meant_at (command.Fill name at len byte) steps reply.Done whole = whole_at seat.home name at _ steps whole
  meant_at (command.Fill name at len byte) steps (reply.Refused x) refuses = own_at seat.home _ steps refuses.refused.own
  meant_at (command.Discard name at len) steps reply.Done whole =
      subst (AreAt seat.home) (sym whole.are) (refl, (refl, (refl, zeroed_at seat.home whole.image whole.own (pieces_of whole.own.layout (record { at = at; len = len })) whole.zeroed whole.are_zeroed)))
  meant_at (command.Discard name at len) steps (reply.Refused x) refuses = own_at seat.home _ steps refuses.refused.own
  meant_at (command.Resize name to) steps reply.Done whole =
      subst (AreAt seat.home) (sym whole.are)
      (refl, (refl, (refl, resized_at seat.home (nat_le whole.own.size to) whole.image whole.own to whole.objects whole.resized whole.is_resized)))
  meant_at (command.Resize name to) steps (reply.Refused x) refuses = own_at seat.home _ steps refuses.refused.own
  meant_at (command.Rename from to) steps reply.Done are = subst (AreAt seat.home) (sym are) (refl, tt)
  meant_at (command.Rename from to) steps (reply.Refused x) refused = own_at seat.home _ steps refused.own
  meant_at (command.Remove name) steps reply.Done removes =
      subst (AreAt seat.home) (sym removes.are)
      (refl, (refl, (refl, (refl, (refl, (refl, removals_at seat.home (removal removes.image removes.own removes.bits) removes.removed removes.are_removed))))))
  meant_at (command.Remove name) steps (reply.Refused x) refuses = own_at seat.home _ steps refuses.own
  meant_at (command.SnapRollback name snap) steps reply.Done rolls =
      let sized = at_size rolls.listed.size rolls.own in
      subst (AreAt seat.home) (sym rolls.are) (
        refl,
        (
          refl,
          (
            refl,
            at_both seat.home rolls.resized rolls.restored
                (resized_at seat.home (nat_le rolls.own.size rolls.listed.size) rolls.image rolls.own rolls.listed.size rolls.objects rolls.resized rolls.is_resized)
                (restored_at seat.home rolls.image sized rolls.listed.id (pieces_of rolls.own.layout (head_of sized)) rolls.restored rolls.are_restored),
          ),
        ),
      )
  meant_at (command.SnapRollback name snap) steps (reply.Refused x) refuses = own_at seat.home _ steps refuses.refused.own
  meant_at (command.Used name) steps (reply.Used used of) shows = subst (AreAt seat.home) (sym shows.are) (refl, (refl, (refl, tt)))
  meant_at (command.Used name) steps (reply.Refused x) refused = own_at seat.home _ steps refused.own
  meant_at (command.Read name snap at len) steps (reply.Bytes bytes) shows =
      subst (AreAt seat.home) (sym shows.are) (at_both seat.home (steps_of_passes shows.passes) shows.pass (passes_at seat.home name snap _ shows.passes shows.before) (pass_at seat.home name snap _ shows.pass _ shows.shows.pass))
  meant_at (command.Read name snap at len) steps (reply.Refused x) refused =
      subst (AreAt seat.home) (sym refused.are) (at_both seat.home (steps_of_passes refused.passes) refused.pass (passes_at seat.home name snap _ refused.passes refused.before) (own_at seat.home _ refused.pass refused.by.own))
  meant_at command.List steps (reply.Names names) are = subst (AreAt seat.home) (sym are) (refl, tt)
  meant_at command.List steps (reply.Refused x) refused = own_at seat.home _ steps refused.own
  meant_at (command.Info name) steps (reply.Info h) shows = subst (AreAt seat.home) (sym shows.are) (refl, (refl, tt))
  meant_at (command.Info name) steps (reply.Refused x) refused = own_at seat.home _ steps refused.own
  meant_at (command.SnapList name) steps (reply.Snaps snaps) shows = subst (AreAt seat.home) (sym shows.are) (refl, (refl, tt))
  meant_at (command.SnapList name) steps (reply.Refused x) refused = own_at seat.home _ steps refused.own
  meant_at (command.SnapCreate name snap) steps reply.Done takes = subst (AreAt seat.home) (sym takes.are) (refl, (refl, (refl, (refl, (refl, (refl, tt))))))
  meant_at (command.SnapCreate name snap) steps (reply.Refused x) refused = own_at seat.home _ steps refused.own
  meant_at (command.SnapRemove name snap) steps reply.Done removes = subst (AreAt seat.home) (sym removes.are) (refl, (refl, (refl, (refl, (refl, tt)))))
  meant_at (command.SnapRemove name snap) steps (reply.Refused x) refuses = own_at seat.home _ steps refuses.refused.own
  meant_at (command.Close name) steps reply.Done closes = subst (AreAt seat.home) (sym closes.are) (refl, (refl, closing_at seat.home closes.image closes.dropped closes.behind closes.closes))
  meant_at (command.Close name) steps (reply.Refused x) refused = own_at seat.home _ steps refused.own
  meant_at (command.Quiesce name) steps reply.Done looks = subst (AreAt seat.home) (sym looks.are) (refl, (refl, (refl, tt)))
  meant_at (command.Quiesce name) steps (reply.Refused x) refused = own_at seat.home _ steps refused.own
  meant_at c steps r meant = straight_at seat.home (straight_of c) steps r meant

  pub meant_at_places : (c : Command) (places : List Placed) (r : Reply) → IsMeantBy seat c (map step_at places) r → AreDoneAt seat.home places
  meant_at_places c places r meant = places_at seat.home places (meant_at c (map step_at places) r meant)

  -- also where it is meant by these and others behind them
  pub meant_before_places : (c : Command) (places : List Placed) (more : List Answered) (r : Reply) → IsMeantBy seat c (map step_at places ++ more) r → AreDoneAt seat.home places
  meant_before_places c places more r meant = places_at seat.home places (front_at seat.home (map step_at places) more (meant_at c (map step_at places ++ more) r meant))
