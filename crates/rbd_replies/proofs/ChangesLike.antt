-- A `discard`, a `resize` and a `snap rollback` find the header at each of their places as their
-- look under the lock told it, but for their own changes. So they did what their replies say.
use Rattle.std.proofs.Common.{◌≡◌, ℕ, Bool, true, false, List, [], ◌∷◌, ◌++◌, map, Option, Some, refl, sym, ap, ◌∙◌, subst}
use Rattle.std.specs.Prelude.{nat_le}
use Rattle.rbd_kinds.specs.declared.sharing.Sharing.TheVariants as sharing
use Rattle.rbd_commands.specs.declared.command.Command.{Command}
use Rattle.rbd_commands.specs.declared.command.Command.TheVariants as command
use Rattle.rbd_data.specs.Discard.{zero}
use Rattle.rbd_header.specs.Header.{context_of, with_size}
use Rattle.rbd_kinds.specs.Header.{snap_named}
use Rattle.rbd_kinds.specs.declared.answer.Answer.{Answer}
use Rattle.rbd_kinds.specs.declared.answer.Answer.TheVariants as answer
use Rattle.rbd_kinds.specs.declared.header.HeaderView.{HeaderView}
use Rattle.rbd_kinds.specs.declared.header.SnapContext.{SnapContext}
use Rattle.rbd_kinds.specs.declared.id.SiteId.{SiteId}
use Rattle.rbd_kinds.specs.declared.layout.Extent.{Extent}
use Rattle.rbd_kinds.specs.declared.layout.Part.{Part}
use Rattle.rbd_layout.specs.Pieces.{pieces_of}
use Rattle.rbd_layout.specs.declared.types.Piece.{Piece}
use Rattle.rbd_machine.specs.Path.{Answered, found, looked_at}
use Rattle.rbd_meaning.specs.Discards.{DiscardsWhole}
use Rattle.rbd_meaning.specs.Reads.{bytes_shown}
use Rattle.rbd_meaning.specs.Resizes.{ResizesWhole, resize_refuses}
use Rattle.rbd_meaning.specs.Rollbacks.{AreRestored, IsRestored, RollsBack, at_size, rollback_refuses}
use Rattle.rbd_meaning.specs.Writes.{write_refuses}
use Rattle.rbd_image.specs.Resize.{set_size}
use Rattle.rbd_snap.specs.Rollback.{roll_back_to}
use Rattle.rbd_stands.proofs.Served.{is_served}
use Rattle.rbd_world.specs.Run.{Asked, Happening, asked_by}
use Rattle.rbd_world.specs.Sound.{IsRight}
use Rattle.rbd_pieces.specs.Full.{cut_bytes, replaced_by}
use Rattle.rbd_pieces.specs.Operations.{header_set_size, done}
use Rattle.rbd_pieces.specs.Shrink.{pieces_from}
use Rattle.rbd_pieces.specs.Size.{AreZeroed, IsResizedBy}
use Rattle.rbd_pieces.specs.Zero.{IsZeroed, all_zeroed, is_inside, is_whole, zeroed_by}
use Rattle.rbd_replies.specs.Home.{AreDoneAt}
use Rattle.rbd_replies.specs.Places.{Placed}
use Rattle.rbd_replies.specs.RolledBack.{RollsBackTo}
use Rattle.rbd_replies.specs.Zeroed.{Discards, Resizes}
use Rattle.rbd_pieces.proofs.Pieces.{of_each_piece}
use Rattle.rbd_replies.proofs.ChangesWhole.{Goes, discard_discards, goes_at, resize_resizes, rolled_at}
use Rattle.rbd_replies.proofs.InLine.{AreInLine, in_line_behind}
use Rattle.rbd_replies.proofs.KeepsOwn.{keeps_rollback, keeps_set_size, keeps_zeroing}
use Rattle.rbd_replies.proofs.Measured.{AllLike}
use Rattle.rbd_replies.proofs.OwnHeader.{ArePlain, ArePlainBut, IsChangeBy, all_like, plain_both, plain_but, plain_then}
use Rattle.rbd_replies.proofs.OwnKnown.{sized, sized_by}
use Rattle.rbd_replies.proofs.PlacedRight.{ArePlacedRight, right_back, right_front}
use Rattle.rbd_replies.proofs.Places.{step_at}
use Rattle.rbd_replies.proofs.ReadOrder.{AreIn}
use Rattle.rbd_replies.proofs.ReadShown.{Divides, divide}

-- ---- steps that set no size

module _ (home : SiteId) (image : ℕ) where
  plain_all : (context : SnapContext) (piece : Piece) (inside : Bool) → ArePlain image (all_zeroed home image context piece inside)
  plain_all context piece false = (record { served = refl; unsized = λ k. refl }, (record { served = refl; unsized = λ k. refl }, (record { served = refl; unsized = λ k. refl }, tt)))
  plain_all context piece true = (record { served = refl; unsized = λ k. refl }, (record { served = refl; unsized = λ k. refl }, tt))

  plain_zeroed : (context : SnapContext) (piece : Piece) (whole inside : Bool) → ArePlain image (zeroed_by home image context piece whole inside)
  plain_zeroed context piece false false = (record { served = refl; unsized = λ k. refl }, tt)
  plain_zeroed context piece false true = (record { served = refl; unsized = λ k. refl }, (record { served = refl; unsized = λ k. refl }, tt))
  plain_zeroed context piece true inside = plain_all context piece inside

  plain_pieces : (h : HeaderView) (pieces : List Piece) (steps : List Answered) → AreZeroed home image h pieces steps → ArePlain image steps
  plain_pieces h pieces steps are =
      of_each_piece (ArePlain image) tt (plain_both image) (IsZeroed home image h)
      (λ p steps is. subst (ArePlain image) (sym is) (plain_zeroed (context_of h) p (is_whole h p) (is_inside h p.object))) pieces steps are

  plain_replaced : (h : HeaderView) (p : Piece) (left : List ℕ) → ArePlain image (replaced_by home image h p left)
  plain_replaced h p [] = plain_all (context_of h) p (is_inside h p.object)
  plain_replaced h p (byte ∷ left) = (record { served = refl; unsized = λ k. refl }, (record { served = refl; unsized = λ k. refl }, tt))

  shown_is_served : (parts : List Part) (a : Answer) (bytes : List ℕ) → bytes_shown parts a ≡ Some bytes → is_served a ≡ true
  shown_is_served parts (answer.Bytes told) bytes shown = refl
  shown_is_served parts answer.Absent bytes shown = refl
  shown_is_served parts _ bytes shown = cc

  plain_restoring : (h : HeaderView) (snap : ℕ) (p : Piece) (steps : List Answered) → IsRestored home image h snap p steps → ArePlain image steps
  plain_restoring h snap p steps is =
      let read = is.read in
      subst (ArePlain image) (sym is.are)
      (plain_both image is.reading is.replacing
      (subst (ArePlain image) (sym read.are) (record { served = shown_is_served p.parts read.answer read.bytes read.shown; unsized = λ k. refl }, tt))
      (subst (ArePlain image) (sym is.is_replaced) (plain_replaced h p (cut_bytes read.bytes))))

  plain_restored : (h : HeaderView) (snap : ℕ) (pieces : List Piece) (steps : List Answered) → AreRestored home image h snap pieces steps → ArePlain image steps
  plain_restored h snap pieces steps are =
      of_each_piece (ArePlain image) tt (plain_both image) (IsRestored home image h snap) (plain_restoring h snap) pieces steps are

  -- ---- a size that is set last

  sized_plain : (steps more : List Answered) (known : Option HeaderView) → ArePlain image steps → sized image (steps ++ more) known ≡ sized image more known
  sized_plain [] more known plain = refl
  sized_plain (step ∷ steps) more known plain = ap (sized image (steps ++ more)) (plain.0.unsized known) ∙ sized_plain steps more known plain.1

  record SetsLast (to : ℕ) (steps : List Answered) : Type 0 where
    but : ArePlainBut image steps
    sets : (known : Option HeaderView) → sized image steps known ≡ sized_by image (header_set_size image to) answer.Done known

  sets_last : (to : ℕ) (steps : List Answered) → ArePlain image steps → SetsLast to (steps ++ done home (header_set_size image to) ∷ [])
  sets_last to steps plain = record { but = plain_then image steps (done home (header_set_size image to)) plain refl; sets = λ known. sized_plain steps _ known plain }

  resized_last : (grows : Bool) (h : HeaderView) (to objects : ℕ) (steps : List Answered) → IsResizedBy grows home image h to objects steps → SetsLast to steps
  resized_last true h to objects steps are = subst (SetsLast to) (sym are) (sets_last to (_ ∷ []) (record { served = refl; unsized = λ k. refl }, tt))
  resized_last false h to objects steps shrunk =
      subst (SetsLast to) (sym shrunk.are) (sets_last to (_ ∷ shrunk.zeroed) (record { served = refl; unsized = λ k. refl }, plain_pieces h (pieces_from h to shrunk.bits) shrunk.zeroed shrunk.are_zeroed))

-- ---- the commands

-- the places of a line whose command was begun in a run
pub record IsOfLine (homes : ℕ → SiteId) (home : SiteId) (c : Command) (places : List Placed) : Type 0 where
  pub line : ℕ
  pub run : List Happening
  pub right : IsRight homes run
  pub asked : Asked
  pub asks : asked_by line run ≡ Some asked
  pub command_is : asked.command ≡ c
  pub in_line : AreInLine line [] places
  pub within : AreIn run places
  pub at_home : AreDoneAt home places

-- what holds of the places behind the look under the lock
record AreBehindLook (homes : ℕ → SiteId) (home : SiteId) (line : ℕ) (run : List Happening) (before : List Answered) (places : List Placed) : Type 0 where
  right : ArePlacedRight homes places
  in_line : AreInLine line before places
  within : AreIn run places
  at_home : AreDoneAt home places

in_front : (run : List Happening) (front back : List Placed) → AreIn run (front ++ back) → AreIn run front
in_front run [] back are = tt
in_front run (p ∷ front) back are = (are.0, in_front run front back are.1)

in_back : (run : List Happening) (front back : List Placed) → AreIn run (front ++ back) → AreIn run back
in_back run [] back are = are
in_back run (p ∷ front) back are = in_back run front back are.1

home_front : (home : SiteId) (front back : List Placed) → AreDoneAt home (front ++ back) → AreDoneAt home front
home_front home [] back are = tt
home_front home (p ∷ front) back are = (are.0, home_front home front back are.1)

home_back : (home : SiteId) (front back : List Placed) → AreDoneAt home (front ++ back) → AreDoneAt home back
home_back home [] back are = are
home_back home (p ∷ front) back are = home_back home front back are.1

line_front : (line : ℕ) (before : List Answered) (front back : List Placed) → AreInLine line before (front ++ back) → AreInLine line before front
line_front line before [] back are = tt
line_front line before (p ∷ front) back are = (are.0, are.1, line_front line (before ++ step_at p ∷ []) front back are.2)

-- a size is no part of what the others tell
resized_like : (image : ℕ) (to : ℕ) (h : HeaderView) (places : List Placed) → AllLike image (with_size to h) places → AllLike image (at_size to h) places
resized_like image to h [] like = tt
resized_like image to h (p ∷ places) (one, like) =
    (record { view = one.view; is = one.is; layout = one.layout; size = one.size; snaps = one.snaps }, resized_like image to h places like)

module _ (homes : ℕ → SiteId) (home : SiteId) where
  behind_look : (c : Command) (places : List Placed) → ArePlacedRight homes places → (of : IsOfLine homes home c places) → (name : List ℕ) (image : ℕ) (first own : HeaderView) (behind : List Answered)
      → map step_at places ≡ found home name image ∷ looked_at home image first ∷ looked_at home image own ∷ behind → (goes : Goes homes home name image own behind places)
      → AreBehindLook homes home of.line of.run (found home name image ∷ looked_at home image first ∷ looked_at home image own ∷ []) goes.rest
  behind_look c places right of name image first own behind are goes =
      let all = goes.found ∷ goes.first ∷ goes.look ∷ goes.rest in
      let steps : map step_at all ≡ found home name image ∷ looked_at home image first ∷ looked_at home image own ∷ behind = sym (ap (map step_at) goes.are) ∙ are in
      let way : step_at goes.found ∷ step_at goes.first ∷ step_at goes.look ∷ [] ≡ found home name image ∷ looked_at home image first ∷ looked_at home image own ∷ [] = cc in
      let line = subst (AreInLine of.line []) goes.are of.in_line in
      let within = subst (AreIn of.run) goes.are of.within in
      let at_home = subst (AreDoneAt home) goes.are of.at_home in
      record {
        right = goes.right;
        in_line = subst (λ before. AreInLine of.line before goes.rest) way line.2.2.2;
        within = within.1.1.1;
        at_home = at_home.1.1.1;
      }

  like_behind : (c : Command) (places : List Placed) → ArePlacedRight homes places → (of : IsOfLine homes home c places) → (name : List ℕ) (image : ℕ) (first own : HeaderView) (behind : List Answered)
      → map step_at places ≡ found home name image ∷ looked_at home image first ∷ looked_at home image own ∷ behind → IsChangeBy home c name image first own
      → ArePlainBut image behind → (goes : Goes homes home name image own behind places) → AllLike image own goes.rest
  like_behind c places right of name image first own behind are changes plain goes =
      let look = behind_look c places right of name image first own behind are goes in
      all_like homes home of.line of.run of.right of.asked of.asks name image first own (subst (λ d. IsChangeBy home d name image first own) (sym of.command_is) changes)
      goes.rest [] own refl look.in_line look.right look.at_home look.within (subst (ArePlainBut image) (sym goes.rest_is) plain)

  pub discard_at : (name : List ℕ) (at len : ℕ) (places : List Placed) → ArePlacedRight homes places → IsOfLine homes home (command.Discard name at len) places
      → DiscardsWhole home name (record { at = at; len = len }) (map step_at places) → Discards name (record { at = at; len = len }) places
  discard_at name at len places right of whole =
      let e : Extent = record { at = at; len = len } in
      discard_discards homes home places right name e whole
      (like_behind (command.Discard name at len) places right of name whole.image whole.first whole.own _ whole.are
      (record {
        sharing = sharing.Discard;
        refuses = write_refuses e;
        act = λ site. zero site e;
        plan = λ seat. refl;
        may_wait = whole.may_wait;
        may = whole.may;
        keeps = keeps_zeroing home e whole.image whole.own;
      })
      (plain_but whole.image _ (plain_pieces home whole.image whole.own (pieces_of whole.own.layout e) whole.zeroed whole.are_zeroed)))

  pub resize_at : (name : List ℕ) (to : ℕ) (places : List Placed) → ArePlacedRight homes places → IsOfLine homes home (command.Resize name to) places
      → ResizesWhole home name to (map step_at places) → Resizes name to places
  resize_at name to places right of whole =
      resize_resizes homes home places right name to whole
      (like_behind (command.Resize name to) places right of name whole.image whole.first whole.own whole.resized whole.are
      (record {
        sharing = sharing.Alone;
        refuses = resize_refuses to;
        act = λ site. set_size site to;
        plan = λ seat. refl;
        may_wait = whole.may_wait;
        may = whole.may;
        keeps = keeps_set_size home to whole.image whole.own;
      })
      (resized_last home whole.image (nat_le whole.own.size to) whole.own to whole.objects whole.resized whole.is_resized).but)

  module _ (name snap : List ℕ) (places : List Placed) (right : ArePlacedRight homes places) (of : IsOfLine homes home (command.SnapRollback name snap) places)
      (rolls : RollsBack home name snap (map step_at places)) where
    changes : IsChangeBy home of.asked.command name rolls.image rolls.first rolls.own
    changes =
        subst (λ d. IsChangeBy home d name rolls.image rolls.first rolls.own) (sym of.command_is)
        (record {
          sharing = sharing.Alone;
          refuses = rollback_refuses snap;
          act = λ site. roll_back_to site snap;
          plan = λ seat. refl;
          may_wait = rolls.may_wait;
          may = rolls.may;
          keeps = keeps_rollback home snap rolls.image rolls.own (snap_named rolls.own.snaps snap);
        })

    rolled_by : (goes : Goes homes home name rolls.image rolls.own (rolls.resized ++ rolls.restored) places) → (both : Divides rolls.resized rolls.restored goes.rest) → RollsBackTo name snap places
    rolled_by goes both =
        let image = rolls.image in
        let to = rolls.listed.size in
        let look = behind_look (command.SnapRollback name snap) places right of name image rolls.first rolls.own _ rolls.are goes in
        let right_both = subst (ArePlacedRight homes) both.are look.right in
        let in_both = subst (AreIn of.run) both.are look.within in
        let home_both = subst (AreDoneAt home) both.are look.at_home in
        let line_both = subst (AreInLine of.line _) both.are look.in_line in
        let last = resized_last home image (nat_le rolls.own.size to) rolls.own to rolls.objects rolls.resized rolls.is_resized in
        let all = all_like homes home of.line of.run of.right of.asked of.asks name image rolls.first rolls.own changes in
        rolled_at homes home name snap places rolls goes both
        (all both.front [] rolls.own refl (line_front of.line _ both.front both.back line_both) (right_front homes both.front both.back right_both) (home_front home both.front both.back home_both)
        (in_front of.run both.front both.back in_both) (subst (ArePlainBut image) (sym both.front_is) last.but))
        (resized_like image to rolls.own both.back
        (all both.back (map step_at both.front) (with_size to rolls.own) (ap (λ steps. sized image steps (Some rolls.own)) both.front_is ∙ last.sets (Some rolls.own))
        (in_line_behind of.line _ both.front both.back line_both) (right_back homes both.front both.back right_both) (home_back home both.front both.back home_both)
        (in_back of.run both.front both.back in_both)
        (subst (ArePlainBut image) (sym both.back_is) (plain_but image rolls.restored (plain_restored home image _ rolls.listed.id _ rolls.restored rolls.are_restored)))))

    pub rollback_at : RollsBackTo name snap places
    rollback_at =
        let goes = goes_at homes home places right name rolls.image rolls.first rolls.own (rolls.resized ++ rolls.restored) rolls.are in
        rolled_by goes (divide rolls.resized rolls.restored goes.rest goes.rest_is)
