-- What replies mean, command by command.
use Rattle.std.proofs.Common.{◌≡◌, ◌⊎◌, inl, inr, ℕ, List, [], ◌∷◌, ◌++◌, replicate, Bool, true, false, cond, eqb, Option, Some, None, refl, ap, subst}
use Rattle.rbd_kinds.specs.declared.sharing.Sharing.TheVariants as sharing
use Rattle.rbd_kinds.specs.declared.answer.Answer.{Answer}
use Rattle.rbd_kinds.specs.declared.answer.Answer.TheVariants as answer
use Rattle.rbd_commands.specs.declared.command.Command.{Command}
use Rattle.rbd_commands.specs.declared.command.Command.TheVariants as command
use Rattle.rbd_kinds.specs.declared.header.HeaderView.{HeaderView}
use Rattle.rbd_kinds.specs.declared.header.SnapContext.{SnapContext}
use Rattle.rbd_kinds.specs.declared.header_op.HeaderOp.TheVariants as header
use Rattle.rbd_kinds.specs.declared.id.SiteId.{SiteId}
use Rattle.rbd_kinds.specs.declared.layout.Extent.{Extent}
use Rattle.rbd_kinds.specs.declared.machine.Fed.{Fed}
use Rattle.rbd_kinds.specs.declared.operation.Op.TheVariants as op
use Rattle.rbd_commands.specs.declared.refusal.Refusal.{Refusal}
use Rattle.rbd_commands.specs.declared.refusal.Refusal.TheVariants as refusal
use Rattle.rbd_kinds.proofs.Results.{same_refusal}
use Rattle.rbd_kinds.specs.declared.reply.Reply.{Reply}
use Rattle.rbd_kinds.specs.declared.reply.Reply.TheVariants as reply
use Rattle.rbd_layout.specs.Pieces.{pieces_of}
use Rattle.rbd_layout.specs.declared.types.Piece.{Piece}
use Rattle.rbd_parts.specs.Parts.{bytes_for}
use Rattle.rbd_header.specs.Header.{context_of, view_of}
use Rattle.rbd_header.specs.declared.view.View.{View}
use Rattle.rbd_machine.specs.Label as label
use Rattle.rbd_machine.specs.Knowledge.{ImagePlace}
use Rattle.rbd_machine.specs.Path.{Answered, IsWalk, looked_at}
use Rattle.rbd_machine.specs.Plan.{Plan, Return, Goto, Standing, IsLive}
use Rattle.rbd_machine.specs.Passes.{steps_of_passes}
use Rattle.rbd_machine.specs.Refused.{never, by_fence, IsGiven, AreGiven, IsRefusedBy, MayRefuse}
use Rattle.rbd_machine.specs.Steps.{on_done, applied}
use Rattle.rbd_machine.proofs.Refused.{IsRefusing, Answers, EndsBy, ends_by, only_image, refusing_find, refusing_look, refusing_header, refusing_change}
use Rattle.rbd_machine.specs.Objects.{data_read, data_write, map_exists}
use Rattle.rbd_machine.specs.declared.seat.Seat.{Seat}
use Rattle.rbd_meaning.specs.Meant.{IsMeantBy}
use Rattle.rbd_meaning.specs.Range.{extent_at, out_of_range}
use Rattle.rbd_meaning.specs.Reads.{ReadMeans, RefusedAtLast, view_refuses, read_refuses}
use Rattle.rbd_meaning.specs.Writes.{WriteMeans, write_refuses}
use Rattle.rbd_pieces.specs.Gather.{gather, on_bytes}
use Rattle.rbd_pieces.specs.Write.{writing}
use Rattle.rbd_data.specs.Read.{IsReadOf, pass, read_labels, looking, read_by_header, viewing, gathering, closing, on_closing}
use Rattle.rbd_data.specs.Seen.{Seen, seen_at, shown_bytes}
use Rattle.rbd_data.specs.Write.{is_write, put_plan, write, write_pieces, write_plan}
use Rattle.rbd_data.proofs.About.{write_is_own, pass_is_own}
use Rattle.rbd_data.proofs.Early.{pass_refused_early}
use Rattle.rbd_data.proofs.Passes.{LastPass, last_pass, read_shows}
use Rattle.rbd_data.proofs.Stopped.{refuses_write, write_stops}
use Rattle.rbd_data.proofs.Whole.{write_is_whole}

-- ---- writes

abbrev IsDone : Reply → Type 0
IsDone reply.Done = Unit {0}
IsDone _ = ⊥

module _ (refuses : HeaderView → Option Refusal) (images : List ImagePlace) where
  refusing_raise : (changed : Bool) (site : SiteId) (image object : ℕ) (next : Plan) → IsRefusing refuses by_fence IsDone images changed next
      → (a : Answer) → IsGiven (map_exists image object) a → Answers refuses by_fence IsDone images changed site (map_exists image object) a (on_done next a)
  refusing_raise changed site image object next goes_on answer.Done given = inr (λ live may. refl, goes_on)
  refusing_raise changed site image object next goes_on answer.Absent given = let no = given.finds in cc
  refusing_raise changed site image object next goes_on answer.Fenced given = inl (record { why = refusal.Fenced; own = inl refl; is = refl; ends = refl; comes = λ was. refl })
  refusing_raise changed site image object next goes_on _ given = let no = given.can.word in cc

  refusing_piece : (changed : Bool) (site : SiteId) (image : ℕ) (context : SnapContext) (p : Piece) (bytes : List ℕ) (next : Plan) → IsRefusing refuses by_fence IsDone images true next
      → (a : Answer) → IsGiven (data_write image context p bytes) a
      → Answers refuses by_fence IsDone images changed site (data_write image context p bytes) a (on_done next a)
  refusing_piece changed site image context p bytes next goes_on answer.Done given = inr (λ live may. refl, goes_on)
  refusing_piece changed site image context p bytes next goes_on answer.Fenced given = inl (record { why = refusal.Fenced; own = inl refl; is = refl; ends = refl; comes = λ was. refl })
  refusing_piece changed site image context p bytes next goes_on _ given = let no = given.can.word in cc

  refusing_pieces : (pieces : List Piece) (changed : Bool) (site : SiteId) (image : ℕ) (h : HeaderView) (at : ℕ) (bytes : List ℕ)
      → IsRefusing refuses by_fence IsDone images changed (write_pieces site image h at bytes pieces (applied site image))
  refusing_pieces [] changed site image h at bytes = tt
  refusing_pieces (p ∷ pieces) changed site image h at bytes =
      let put = bytes_for p.parts at bytes in
      let next = write_pieces site image h at bytes pieces (applied site image) in
      refusing_raise changed site image p.object (writing site image (context_of h) p put next)
      (refusing_piece changed site image (context_of h) p put next (refusing_pieces pieces true site image h at bytes))

write_means : (site : SiteId) (name : List ℕ) (at : ℕ) (bytes : List ℕ) (feds : List Fed) (steps : List Answered) (r : Reply) → AreGiven steps
    → IsWalk Goto (write site name at bytes) feds steps (Return r) → WriteMeans site name at bytes steps r
write_means site name at bytes feds steps r given walk = go r (ends_by (write_refuses (extent_at at bytes)) by_fence IsDone feds [] false (write site name at bytes) steps r is given walk) walk
  where
    is : IsRefusing (write_refuses (extent_at at bytes)) by_fence IsDone [] false (write site name at bytes)
    is =
        refusing_change (write_refuses (extent_at at bytes)) by_fence IsDone site name sharing.Shared (put_plan site at bytes) (λ image h may.
        refusing_pieces (write_refuses (extent_at at bytes)) (only_image site image) (pieces_of h.layout (extent_at at bytes)) false site image h at bytes)

    go : (r : Reply) → EndsBy (write_refuses (extent_at at bytes)) by_fence IsDone [] false steps r → IsWalk Goto (write site name at bytes) feds steps (Return r) → WriteMeans site name at bytes steps r
    go reply.Done ends walk = write_is_whole site name at bytes feds steps walk
    go (reply.Refused x) (inl granted) walk = absurd granted
    go (reply.Refused x) (inr (y, same, from)) walk =
        refuses_write site name at bytes steps x (write_is_own site name at bytes feds steps (Return (reply.Refused x)) walk)
        (subst (IsRefusedBy (write_refuses (extent_at at bytes)) by_fence steps) (same_refusal x y same) from.by)
        (write_stops x site name at bytes feds steps walk)
    go _ (inl granted) walk = absurd granted
    go _ (inr (y, same, from)) walk = cc

pub write_plan_means : (seat : Seat) (c : Command) (feds : List Fed) (steps : List Answered) (r : Reply) → is_write c ≡ true → AreGiven steps
    → IsWalk Goto (write_plan seat.home c) feds steps (Return r) → IsMeantBy seat c steps r
write_plan_means seat (command.Write image at bytes) feds steps r is given walk = write_means seat.home image at bytes feds steps r given walk
write_plan_means seat (command.Fill image at len byte) feds steps r is given walk = write_means seat.home image at (replicate len byte) feds steps r given walk
write_plan_means seat _ feds steps r is given walk = cc

-- ---- reads

abbrev IsShowing : Reply → Type 0
IsShowing (reply.Bytes bytes) = Unit {0}
IsShowing _ = ⊥

module _ (refuses : HeaderView → Option Refusal) (site : SiteId) (image : ℕ) where
  refusing_read : (snap : Option ℕ) (p : Piece) (next : List ℕ → Plan) → ((bytes : List ℕ) → IsRefusing refuses never IsShowing (only_image site image) false (next bytes))
      → (a : Answer) → IsGiven (data_read image snap p) a
      → Answers refuses never IsShowing (only_image site image) false site (data_read image snap p) a (on_bytes p.parts next a)
  refusing_read snap p next goes_on (answer.Bytes bytes) can = inr (λ live may. refl, goes_on bytes)
  refusing_read snap p next goes_on answer.Absent can = inr (λ live may. refl, goes_on _)
  refusing_read snap p next goes_on answer.Fenced can = inl (record { why = refusal.Fenced; own = inl refl; is = refl; ends = refl; comes = λ was. cc })
  refusing_read snap p next goes_on _ can = let no = can.can.word in cc

  refusing_gather : (pieces : List Piece) (snap : Option ℕ) (read : List ℕ) (next : List ℕ → Plan)
      → ((bytes : List ℕ) → IsRefusing refuses never IsShowing (only_image site image) false (next bytes)) → IsRefusing refuses never IsShowing (only_image site image) false (gather site image snap pieces read next)
  refusing_gather [] snap read next goes_on = goes_on read
  refusing_gather (p ∷ pieces) snap read next goes_on =
      refusing_read snap p (λ bytes. gather site image snap pieces (read ++ bytes) next) (λ bytes. refusing_gather pieces snap (read ++ bytes) next goes_on)

  -- it is asked for no refusal but the fence
  refusing_closing : (seen : Seen) (read : List ℕ) (a : Answer) → IsGiven (op.Header image header.Get) a
      → Answers refuses never IsShowing (only_image site image) false site (op.Header image header.Get) a (on_closing seen read a)
  refusing_closing seen read (answer.Header h) can = inr (go (eqb h.generation seen.generation))
    where
      go : (b : Bool) → (IsLive (cond b (Return (reply.Bytes (shown_bytes seen read))) (Goto label.Begin)) → MayRefuse (only_image site image) (looked_at site image h) → refuses h ≡ None) × IsRefusing refuses never IsShowing (only_image site image) false (cond b (Return (reply.Bytes (shown_bytes seen read))) (Goto label.Begin))
      go true = (λ live. absurd live, tt)
      go false = (λ live. absurd live, tt)
  refusing_closing seen read answer.Absent can = inr (λ live. absurd live, tt)
  refusing_closing seen read answer.Fenced can = inl (record { why = refusal.Fenced; own = inl refl; is = refl; ends = refl; comes = λ was. cc })
  refusing_closing seen read _ can = let no = can.can.word in cc

pub given_behind : (before steps : List Answered) → AreGiven (before ++ steps) → AreGiven steps
given_behind [] steps given = given
given_behind (s ∷ before) steps given = given_behind before steps given.1

module _ (site : SiteId) (name : List ℕ) (snap : Option (List ℕ)) (e : Extent) where
  refusing_viewing : (image : ℕ) (h : HeaderView) (view : Option View) → view_of h snap ≡ view
      → Answers (read_refuses snap e) never IsShowing (only_image site image) false site (op.Header image header.Get) (answer.Header h) (viewing site image h e view)
  refusing_viewing image h None is = inl (record { why = refusal.NoSnap; own = inr (inl refl); is = ap (view_refuses e) is; ends = refl; comes = λ was. cc })
  refusing_viewing image h (Some view) is =
      refusing_header (read_refuses snap e) never IsShowing site image h (out_of_range e view.size) (gathering site image h e view) (ap (view_refuses e) is) (λ may.
      refusing_gather (read_refuses snap e) site image (pieces_of h.layout e) view.snap [] (closing site image (seen_at h e)) (refusing_closing (read_refuses snap e) site image (seen_at h e)))

  refusing_pass : IsRefusing (read_refuses snap e) never IsShowing [] false (pass site name snap e)
  refusing_pass =
      refusing_find (read_refuses snap e) never IsShowing site name (looking site snap e) (λ image.
      refusing_look (read_refuses snap e) never IsShowing site image (read_by_header site snap e image) (λ h. refusing_viewing image h (view_of h snap) refl))

  -- what it is refused by, in its last pass
  read_refused : (steps : List Answered) (x : Refusal) → AreGiven steps → LastPass site name snap e steps (Return (reply.Refused x)) → RefusedAtLast site name snap e steps x
  read_refused steps x given l =
      let given_there = given_behind (steps_of_passes l.passes) l.final (subst AreGiven l.are given) in
      record {
        passes = l.passes;
        pass = l.final;
        are = l.are;
        before = l.before;
        by = record {
          own = pass_is_own site name snap e l.feds l.final (Return (reply.Refused x)) l.walk;
          by = go (ends_by (read_refuses snap e) never IsShowing l.feds [] false (pass site name snap e) l.final (reply.Refused x) refusing_pass given_there l.walk);
        };
        early = pass_refused_early site name snap e x l.feds l.final given_there l.walk;
      }
    where
      go : EndsBy (read_refuses snap e) never IsShowing [] false l.final (reply.Refused x) → IsRefusedBy (read_refuses snap e) never l.final x
      go (inl granted) = absurd granted
      go (inr (y, same, from)) = subst (IsRefusedBy (read_refuses snap e) never l.final) (same_refusal x y same) from.by

  -- no other reply ends a pass
  other_reply : (steps : List Answered) (r : Reply) → AreGiven steps → LastPass site name snap e steps (Return r) → IsShowing r ⊎ ((x : Refusal) × (r ≡ reply.Refused x))
  other_reply steps r given l = go (ends_by (read_refuses snap e) never IsShowing l.feds [] false (pass site name snap e) l.final r refusing_pass (given_behind (steps_of_passes l.passes) l.final (subst AreGiven l.are given)) l.walk)
    where
      go : EndsBy (read_refuses snap e) never IsShowing [] false l.final r → IsShowing r ⊎ ((x : Refusal) × (r ≡ reply.Refused x))
      go (inl granted) = inl granted
      go (inr (y, same, from)) = inr (y, same)

  pub read_means : (feds : List Fed) (steps : List Answered) (r : Reply) → AreGiven steps
      → IsWalk (read_labels site name snap e) (pass site name snap e) feds steps (Return r) → ReadMeans site name snap e steps r
  read_means feds steps r given walk = go r walk (last_pass site name snap e feds steps (Return r) walk) (other_reply steps r given (last_pass site name snap e feds steps (Return r) walk))
    where
      go : (r : Reply) → IsWalk (read_labels site name snap e) (pass site name snap e) feds steps (Return r) → LastPass site name snap e steps (Return r) → IsShowing r ⊎ ((x : Refusal) × (r ≡ reply.Refused x)) → ReadMeans site name snap e steps r
      go (reply.Bytes bytes) walk l ends = read_shows site name snap e feds steps bytes walk
      go (reply.Refused x) walk l ends = read_refused steps x given l
      go _ walk l (inl granted) = absurd granted
      go _ walk l (inr (y, same)) = cc

pub read_plan_means : (seat : Seat) (c : Command) (standing : Standing) (feds : List Fed) (steps : List Answered) (r : Reply) → IsReadOf seat.home c standing → AreGiven steps
    → IsWalk standing.labels standing.plan feds steps (Return r) → IsMeantBy seat c steps r
read_plan_means seat (command.Read image snap at len) standing feds steps r is given walk =
    read_means seat.home image snap (record { at = at; len = len }) feds steps r given (subst (λ (s : Standing). IsWalk s.labels s.plan feds steps (Return r)) is walk)
read_plan_means seat _ standing feds steps r is given walk = absurd is
