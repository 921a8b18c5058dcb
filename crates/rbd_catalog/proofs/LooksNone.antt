-- Steps and parts of requests that look at no header and wait for no lock.
use Rattle.std.proofs.Common.{ℕ, List, [], ◌∷◌, Bool, true, false, Option, Some, None}
use Rattle.std.specs.Prelude.{nat_le}
use Rattle.rbd_kinds.specs.declared.answer.Answer.{Answer}
use Rattle.rbd_kinds.specs.declared.header.HeaderView.{HeaderView}
use Rattle.rbd_kinds.specs.declared.header.SnapContext.{SnapContext}
use Rattle.rbd_kinds.specs.declared.header.SnapView.{SnapView}
use Rattle.rbd_kinds.specs.declared.id.SiteId.{SiteId}
use Rattle.rbd_kinds.specs.declared.header_op.HeaderOp.TheVariants as header
use Rattle.rbd_kinds.specs.declared.operation.Op.{Op}
use Rattle.rbd_kinds.specs.declared.operation.Op.TheVariants as op
use Rattle.rbd_kinds.specs.declared.reply.Reply.TheVariants as reply
use Rattle.rbd_kinds.specs.declared.reply.Reply.{Reply}
use Rattle.rbd_layout.specs.Pieces.{pieces_of}
use Rattle.rbd_layout.specs.declared.types.Piece.{Piece}
use Rattle.rbd_header.specs.Header.{context_of}
use Rattle.rbd_machine.specs.Plan.{Plan, Return, Ask, Await, Note, Goto}
use Rattle.rbd_machine.specs.Steps.{applied}
use Rattle.rbd_machine.specs.Path.{at_operation}
use Rattle.rbd_machine.specs.Label.{Label}
use Rattle.rbd_machine.specs.Label as label
use Rattle.rbd_machine.specs.Wait as wait
use Rattle.rbd_meaning.specs.Count.{object_count}
use Rattle.rbd_meaning.specs.Rollbacks.{at_size}
use Rattle.rbd_pieces.specs.Gather.{gather}
use Rattle.rbd_pieces.specs.Full.{cut_bytes, full_by, full_piece, replacing, writing_full}
use Rattle.rbd_pieces.specs.Shrink.{pieces_from}
use Rattle.rbd_pieces.specs.Size.{cutting, resize, resize_by, sizing}
use Rattle.rbd_pieces.specs.Size as of_size
use Rattle.rbd_pieces.specs.Zero.{emptying, head_of, is_inside, is_whole, removing, setting, zero_all, zero_by, zero_piece, zeroing}
use Rattle.rbd_data.specs.Discard.{zero_in_turns}
use Rattle.rbd_image.specs.Remove.{remove_each}
use Rattle.rbd_snap.specs.Rollback.{restore_all, restore_pieces, roll_back_listed}
use Rattle.rbd_catalog.specs.NoLooks.{AreNoLooks, IsNoLook}
use Rattle.rbd_catalog.specs.Looking.{HoldsNoMore, IsLast, IsLookElsewhere, Looked, LooksAtItNoMore, LooksNoMore}
use Rattle.rbd_catalog.proofs.PlanSteps.{at_done, at_bits, at_bytes, at_removed}

-- Whatever it is answered, it looks at no header any more, and waits for no lock.
abbrev pub ActsOnly : Plan → Type 0
ActsOnly (Ask site why o next) = IsNoLook o × ((a : Answer) → ActsOnly (next a))
ActsOnly (Await (wait.Hold site image) next) = ⊥
ActsOnly (Await w next) = ActsOnly next
ActsOnly (Note site image event next) = ActsOnly next
ActsOnly (Return r) = Unit {0}
ActsOnly (Goto label) = ⊥

pub looks_none : (p : Plan) → ActsOnly p → LooksNoMore p
looks_none (Ask site why o next) acts = (acts.0, λ a. looks_none (next a) (acts.1 a))
looks_none (Await (wait.Hold site image) next) acts = absurd acts
looks_none (Await (wait.Join site image sharing) next) acts = looks_none next acts
looks_none (Await (wait.Turn object) next) acts = looks_none next acts
looks_none (Await (wait.Applied site image) next) acts = looks_none next acts
looks_none (Await (wait.Leave site image) next) acts = looks_none next acts
looks_none (Note site image event next) acts = looks_none next acts
looks_none (Return r) acts = tt
looks_none (Goto label) acts = absurd acts

holds_none : (p : Plan) → ActsOnly p → HoldsNoMore p
holds_none (Ask site why o next) acts = λ a. holds_none (next a) (acts.1 a)
holds_none (Await (wait.Hold site image) next) acts = absurd acts
holds_none (Await (wait.Join site image sharing) next) acts = holds_none next acts
holds_none (Await (wait.Turn object) next) acts = holds_none next acts
holds_none (Await (wait.Applied site image) next) acts = holds_none next acts
holds_none (Await (wait.Leave site image) next) acts = holds_none next acts
holds_none (Note site image event next) acts = holds_none next acts
holds_none (Return r) acts = tt
holds_none (Goto label) acts = absurd acts

elsewhere : (site : SiteId) (image : ℕ) (s : SiteId) (o : Op) → IsNoLook o → IsLookElsewhere site image s o
elsewhere site image s (op.Header i header.Get) no_look = absurd no_look
elsewhere site image s (op.Header i o) no_look = tt
elsewhere site image s o no_look = tt

looks_at_it_no_more : (site : SiteId) (image : ℕ) (p : Plan) → LooksNoMore p → LooksAtItNoMore site image p
looks_at_it_no_more site image (Ask s why o next) none = (elsewhere site image s o none.0, λ a. looks_at_it_no_more site image (next a) (none.1 a))
looks_at_it_no_more site image (Await w next) none = looks_at_it_no_more site image next none
looks_at_it_no_more site image (Note s i event next) none = looks_at_it_no_more site image next none
looks_at_it_no_more site image (Return r) none = tt
looks_at_it_no_more site image (Goto label) none = absurd none

-- so a look that it stands behind was its last
pub looked_last : (site : SiteId) (image : ℕ) (p : Plan) → ActsOnly p → Looked site image p
looked_last site image p acts = IsLast (holds_none p acts) (looks_at_it_no_more site image p (looks_none p acts))

-- ---- steps

-- a reply is the end
pub none_ends : (r : Reply) → LooksNoMore (Return r)
none_ends r = tt

pub acts_end : (r : Reply) → ActsOnly (Return r)
acts_end r = tt

-- who waits for no lock any more waits for none from its next operation on, nor from a piece that
-- begins again
module _ (labels : Label → Plan) (pieces : (site : SiteId) (image : ℕ) (h : HeaderView) (bits : List ℕ) (number : ℕ) → HoldsNoMore (labels (label.Piece site image h bits number))) where
  pub holds_at_operation : (p : Plan) → HoldsNoMore p → HoldsNoMore (at_operation labels p)
  holds_at_operation (Ask site why o next) holds = holds
  holds_at_operation (Await (wait.Hold site image) next) holds = absurd holds
  holds_at_operation (Await (wait.Join site image sharing) next) holds = holds_at_operation next holds
  holds_at_operation (Await (wait.Turn object) next) holds = holds_at_operation next holds
  holds_at_operation (Await (wait.Applied site image) next) holds = holds_at_operation next holds
  holds_at_operation (Await (wait.Leave site image) next) holds = holds_at_operation next holds
  holds_at_operation (Note site image event next) holds = holds_at_operation next holds
  holds_at_operation (Return r) holds = tt
  holds_at_operation (Goto (label.Piece site image h bits number)) holds = pieces site image h bits number
  holds_at_operation (Goto label.Begin) holds = absurd holds
  holds_at_operation (Goto (label.Sync image)) holds = absurd holds
  holds_at_operation (Goto label.Lock) holds = absurd holds

-- ---- parts of discard, resize and rollback

module _ (site : SiteId) (image : ℕ) (context : SnapContext) (piece : Piece) (next : Plan) (none : ActsOnly next) where
  none_all : (inside : Bool) → ActsOnly (zero_all site image context piece inside next)
  none_all true = (tt, at_done ActsOnly acts_end (emptying site image context piece next) (tt, at_done ActsOnly acts_end next none))
  none_all false =
      (tt, at_done ActsOnly acts_end (removing site image context piece (setting site image context piece 0 next)) (tt, at_done ActsOnly acts_end (setting site image context piece 0 next) (tt, at_done ActsOnly acts_end next none)))

  none_by : (whole inside : Bool) → ActsOnly (zero_by site image context piece whole inside next)
  none_by true inside = none_all inside
  none_by false true = (tt, at_done ActsOnly acts_end (zeroing site image context piece true next) (tt, at_done ActsOnly acts_end next none))
  none_by false false = (tt, at_done ActsOnly acts_end next none)

  none_replacing : (bytes : List ℕ) → ActsOnly (replacing site image context piece.object bytes next)
  none_replacing bytes = (tt, at_done ActsOnly acts_end (writing_full site image context piece.object bytes next) (tt, at_done ActsOnly acts_end next none))

module _ (site : SiteId) (image : ℕ) (h : HeaderView) where
  none_zero : (piece : Piece) (next : Plan) → ActsOnly next → ActsOnly (zero_piece site image h piece next)
  none_zero piece next none = none_by site image (context_of h) piece next none (is_whole h piece) (is_inside h piece.object)

  none_full_by : (left : List ℕ) (piece : Piece) (next : Plan) → ActsOnly next → ActsOnly (full_by site image h piece left next)
  none_full_by [] piece next none = none_all site image (context_of h) piece next none (is_inside h piece.object)
  none_full_by (byte ∷ left) piece next none = none_replacing site image (context_of h) piece next none (byte ∷ left)

  none_zeros : (pieces : List Piece) (next : Plan) → ActsOnly next → ActsOnly (of_size.zero_pieces site image h pieces next)
  none_zeros [] next none = none
  none_zeros (p ∷ pieces) next none = none_zero p (of_size.zero_pieces site image h pieces next) (none_zeros pieces next none)

  none_resize_by : (grows : Bool) (to objects : ℕ) (next : Plan) → ActsOnly next → ActsOnly (resize_by grows site image h to objects next)
  none_resize_by true to objects next none = (tt, at_done ActsOnly acts_end (sizing site image to next) (tt, at_done ActsOnly acts_end next none))
  none_resize_by false to objects next none =
      (tt, at_bits ActsOnly acts_end (cutting site image h to next) (λ bits. none_zeros (pieces_from h to bits) (sizing site image to next) (tt, at_done ActsOnly acts_end next none)))

  pub none_resize : (to objects : ℕ) (next : Plan) → ActsOnly next → ActsOnly (resize site image h to objects next)
  none_resize to objects next none = none_resize_by (nat_le h.size to) to objects next none

-- ---- pieces

pub none_zeroed : (pieces : List Piece) (site : SiteId) (image : ℕ) (h : HeaderView) → ActsOnly (zero_in_turns site image h pieces (applied site image))
none_zeroed [] site image h = tt
none_zeroed (p ∷ pieces) site image h = none_zero site image h p (zero_in_turns site image h pieces (applied site image)) (none_zeroed pieces site image h)

-- ---- snap rollback

none_restored : (pieces : List Piece) (site : SiteId) (image : ℕ) (h : HeaderView) (snap : ℕ) → ActsOnly (restore_pieces site image h snap pieces (applied site image))
none_restored [] site image h snap = tt
none_restored (p ∷ pieces) site image h snap =
    let later = restore_pieces site image h snap pieces (applied site image) in (
      tt,
      at_bytes ActsOnly acts_end p.parts (λ bytes. gather site image (Some snap) [] bytes (λ read. full_piece site image h p read later)) (λ bytes.
          none_full_by site image h (cut_bytes bytes) p later (none_restored pieces site image h snap)),
    )

pub none_listed : (site : SiteId) (snap : List ℕ) (image : ℕ) (h : HeaderView) (listed : Option SnapView) → ActsOnly (roll_back_listed site snap image h listed)
none_listed site snap image h None = tt
none_listed site snap image h (Some listed) =
    let head = at_size listed.size h in
    none_resize site image h listed.size (object_count h.layout listed.size) (restore_all site image head listed.id (applied site image))
    (none_restored (pieces_of h.layout (head_of head)) site image head listed.id)

-- ---- rm

pub none_each : (site : SiteId) (ops : List Op) → AreNoLooks ops → ActsOnly (remove_each site ops (Return reply.Done))
none_each site [] are = tt
none_each site (o ∷ ops) are =
    let later = remove_each site ops (Return reply.Done) in
    (are.0, at_removed ActsOnly acts_end o later (none_each site ops are.1))
