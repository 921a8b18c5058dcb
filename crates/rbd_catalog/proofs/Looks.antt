-- Where a request that isn't a read looks at a header, what isn't there and the fence end it.
use Rattle.std.proofs.Common.{◌≡◌, ℕ, List, [], ◌∷◌, true, false, sym, ◌∙◌, subst}
use Rattle.rbd_commands.specs.declared.command.Command.{Command}
use Rattle.rbd_kinds.specs.declared.answer.Answer.{Answer}
use Rattle.rbd_kinds.specs.declared.header.HeaderView.{HeaderView}
use Rattle.rbd_kinds.specs.declared.header_op.HeaderOp.TheVariants as header
use Rattle.rbd_kinds.specs.declared.id.SiteId.{SiteId}
use Rattle.rbd_kinds.specs.declared.machine.Fed.{Fed}
use Rattle.rbd_kinds.specs.declared.machine.Fed.TheVariants as fed
use Rattle.rbd_kinds.specs.declared.operation.Op.TheVariants as op
use Rattle.rbd_machine.specs.Label as label
use Rattle.rbd_machine.specs.Path.{Answered, IsWalk}
use Rattle.rbd_machine.specs.Plan.{Plan, Ask, Await, Note, Return, Goto, Standing, past_label}
use Rattle.rbd_machine.specs.Steps.{EndsIt, not_there}
use Rattle.rbd_machine.specs.declared.reason.Reason.{Reason}
use Rattle.rbd_machine.specs.declared.seat.Seat.{Seat}
use Rattle.rbd_machine.proofs.Settled.{settled_goto}
use Rattle.rbd_data.specs.Read.{is_read}
use Rattle.rbd_data.specs.Write.{write_plan}
use Rattle.rbd_image.specs.Listing.{listing_plan}
use Rattle.rbd_snap.specs.Snap.{snap_plan}
use Rattle.rbd_session.specs.Close.{close_plan}
use Rattle.rbd_data.specs.Discard.{discard_plan}
use Rattle.rbd_image.specs.Remove.{remove_plan}
use Rattle.rbd_image.specs.Resize.{resize_plan}
use Rattle.rbd_snap.specs.Rollback.{rollback_plan}
use Rattle.rbd_catalog.specs.Looking.{HoldsNoMore, LooksAtItNoMore, LooksOnce}
use Rattle.rbd_catalog.proofs.LooksWell.{LooksWell, once_of, well_behind}
use Rattle.rbd_catalog.proofs.LooksOf.{at_close_plan, at_create, at_discard_plan, at_listing, at_remove_plan, at_resize_plan, at_rollback_plan, at_snap_plan, at_write_plan}
use Rattle.rbd_catalog.specs.EachRequest.{HoldsOfEach, is_one_read, of_command}
use Rattle.rbd_catalog.specs.Plans.{IsPlanFor}

-- ---- along a walk of a request without labels

at_settled : (plan : Plan) → LooksWell plan → LooksWell (past_label Goto plan)
at_settled plan well = subst LooksWell (sym (settled_goto plan)) well

at_end : (feds : List Fed) (plan : Plan) (steps : List Answered) (last : Plan) → LooksWell plan → IsWalk Goto plan feds steps last → LooksWell last
at_end [] plan steps last well walk = subst LooksWell (sym walk.1) well
at_end (fed.Answer a ∷ more) (Ask site why o next) steps last well (first, walk) = at_end more (past_label Goto (next a)) first.rest last (at_settled (next a) (well.1 a).1) walk
at_end (fed.Passed ∷ more) (Ask site why o next) steps last well walk = absurd walk
at_end (fed.Passed ∷ more) (Await wait next) steps last well walk = at_end more (past_label Goto next) steps last (at_settled next (well_behind wait next well)) walk
at_end (fed.Answer a ∷ more) (Await wait next) steps last well walk = absurd walk
at_end (fed.Passed ∷ more) (Note site image event next) steps last well walk = at_end more (past_label Goto next) steps last (at_settled next well) walk
at_end (fed.Answer a ∷ more) (Note site image event next) steps last well walk = absurd walk
at_end (f ∷ more) (Return reply) steps last well walk = absurd walk
at_end (f ∷ more) (Goto label) steps last well walk = absurd walk

-- ---- all of them

module _ (seat : Seat) (feds : List Fed) (steps : List Answered) (last : Plan) where
  abbrev LooksWellAtLast : Command → Standing → Type 0
  LooksWellAtLast c s = is_read c ≡ false → IsWalk s.labels s.plan feds steps last → LooksWell last

  each_looks_well : HoldsOfEach seat LooksWellAtLast
  each_looks_well = record {
    writes = λ c is other walk. at_end feds (write_plan seat.home c) steps last (at_write_plan seat.home c) walk;
    discards = λ c is other walk. at_end feds (discard_plan seat.home c) steps last (at_discard_plan seat.home c) walk;
    reads = λ c s is other walk. let no : false ≡ true = sym other ∙ is_one_read seat.home c s is in cc;
    creates = λ c plan is other walk. at_end feds plan steps last (at_create seat.home c plan is) walk;
    lists = λ c is other walk. at_end feds (listing_plan seat.home c) steps last (at_listing seat.home c) walk;
    snaps = λ c is other walk. at_end feds (snap_plan seat.home c) steps last (at_snap_plan seat.home c) walk;
    resizes = λ c is other walk. at_end feds (resize_plan seat.home c) steps last (at_resize_plan seat.home c) walk;
    rollbacks = λ c is other walk. at_end feds (rollback_plan seat.home c) steps last (at_rollback_plan seat.home c) walk;
    removes = λ c is other walk. at_end feds (remove_plan seat.home seat.session c) steps last (at_remove_plan seat.home seat.session c) walk;
    closes = λ c is other walk. at_end feds (close_plan seat.home c) steps last (at_close_plan seat.home c) walk;
  }

  looks_well : (c : Command) (s : Standing) → IsPlanFor seat c s → is_read c ≡ false → IsWalk s.labels s.plan feds steps last → LooksWell last
  looks_well c s is other walk = of_command seat LooksWellAtLast each_looks_well c s is other walk

-- where a request that isn't a read looks at a header, what isn't there and the fence end it
pub looks_refuse : (seat : Seat) (c : Command) (s : Standing) (feds : List Fed) (steps : List Answered) (site : SiteId) (why : Reason) (image : ℕ) (next : Answer → Plan) (a : Answer)
    → IsPlanFor seat c s → is_read c ≡ false → IsWalk s.labels s.plan feds steps (Ask site why (op.Header image header.Get) next)
    → EndsIt a → next a ≡ not_there a
looks_refuse seat c s feds steps site why image next a is other walk ends = (looks_well seat feds steps (Ask site why (op.Header image header.Get) next) c s is other walk).0 a ends

-- behind its look it waits for the lock, or waits for none any more and looks at that header no
-- more
pub looks_once : (seat : Seat) (c : Command) (s : Standing) (feds : List Fed) (steps : List Answered) (last : Plan)
    → IsPlanFor seat c s → is_read c ≡ false → IsWalk s.labels s.plan feds steps last → LooksOnce last
looks_once seat c s feds steps last is other walk = once_of last (looks_well seat feds steps last c s is other walk)

-- ---- from its labels

module _ (seat : Seat) where
  abbrev IsPastItsLook : Command → Standing → Type 0
  IsPastItsLook c s = is_read c ≡ false → (site : SiteId) (image : ℕ) (h : HeaderView) (bits : List ℕ) (number : ℕ)
      → HoldsNoMore (s.labels (label.Piece site image h bits number)) × LooksAtItNoMore site image (s.labels (label.Piece site image h bits number))

  each_is_past : HoldsOfEach seat IsPastItsLook
  each_is_past = record {
    writes = λ c is other site image h bits number. (tt, tt);
    discards = λ c is other site image h bits number. (tt, tt);
    reads = λ c s is other. let no : false ≡ true = sym other ∙ is_one_read seat.home c s is in cc;
    creates = λ c plan is other site image h bits number. (tt, tt);
    lists = λ c is other site image h bits number. (tt, tt);
    snaps = λ c is other site image h bits number. (tt, tt);
    resizes = λ c is other site image h bits number. (tt, tt);
    rollbacks = λ c is other site image h bits number. (tt, tt);
    removes = λ c is other site image h bits number. (tt, tt);
    closes = λ c is other site image h bits number. (tt, tt);
  }

-- a piece that begins again waits for no lock, and looks at the header of its image no more
pub pieces_are_past : (seat : Seat) (c : Command) (s : Standing) (site : SiteId) (image : ℕ) (h : HeaderView) (bits : List ℕ) (number : ℕ) → IsPlanFor seat c s → is_read c ≡ false
    → HoldsNoMore (s.labels (label.Piece site image h bits number)) × LooksAtItNoMore site image (s.labels (label.Piece site image h bits number))
pieces_are_past seat c s site image h bits number is other = of_command seat (IsPastItsLook seat) (each_is_past seat) c s is other site image h bits number

pub pieces_hold_no_more : (seat : Seat) (c : Command) (s : Standing) (site : SiteId) (image : ℕ) (h : HeaderView) (bits : List ℕ) (number : ℕ) → IsPlanFor seat c s → is_read c ≡ false
    → HoldsNoMore (s.labels (label.Piece site image h bits number))
pieces_hold_no_more seat c s site image h bits number is other = (pieces_are_past seat c s site image h bits number is other).0
