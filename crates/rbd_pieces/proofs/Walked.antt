-- What parts have done when they end well, step by step.
use Rattle.std.proofs.Common.{◌≡◌, ℕ, Bool, true, false, List, [], ◌∷◌, ◌++◌, refl, sym, ap, ◌∙◌, append_assoc}
use Rattle.std.specs.Prelude.{nat_le}
use Rattle.std.proofs.lemmas.List.{append-nil}
use Rattle.rbd_kinds.specs.declared.answer.Answer.TheVariants as answer
use Rattle.rbd_kinds.specs.declared.header.HeaderView.{HeaderView}
use Rattle.rbd_kinds.specs.declared.header.SnapContext.{SnapContext}
use Rattle.rbd_kinds.specs.declared.id.SiteId.{SiteId}
use Rattle.rbd_kinds.specs.declared.machine.Fed.{Fed}
use Rattle.rbd_kinds.specs.declared.operation.Op.{Op}
use Rattle.rbd_kinds.specs.declared.reply.Reply.TheVariants as reply
use Rattle.rbd_layout.specs.declared.types.Piece.{Piece}
use Rattle.rbd_header.specs.Header.{context_of}
use Rattle.rbd_machine.specs.Path.{Answered, IsWalk}
use Rattle.rbd_machine.specs.Plan.{Plan, Return, Goto}
use Rattle.rbd_machine.specs.Steps.{own, on_done, on_bits}
use Rattle.rbd_machine.specs.declared.reason.Reason.TheVariants as reason
use Rattle.rbd_machine.proofs.Walked.{EndsUnrefused, ended, told_bits, told_done, went_on}
use Rattle.rbd_pieces.specs.Full.{IsReplaced, cut_bytes, full_by, full_piece, replaced, replaced_by, writing_full}
use Rattle.rbd_pieces.specs.Operations.{data_empty, data_remove, data_write_full, data_zero, done, header_set_size, map_get, map_resize, map_set}
use Rattle.rbd_pieces.specs.Shrink.{pieces_from}
use Rattle.rbd_pieces.specs.Size.{AreZeroed, IsResized, IsResizedBy, IsShrunk, cutting, growing, grown, resize, resize_by, shrinking, sizing, states_told, zero_pieces}
use Rattle.rbd_pieces.specs.Zero.{IsZeroed, all_zeroed, emptying, is_inside, is_whole, removing, setting, zero_all, zero_by, zero_piece, zeroed_steps, zeroed_by, zeroing}

-- These operations were done, each in turn, and what comes next has begun.
record Did (last next : Plan) (first steps : List Answered) : Type 0 where
  more : List Fed
  rest : List Answered
  are : steps ≡ first ++ rest
  walk : IsWalk Goto next more rest last

-- so were some that are of a kind
record DidSome (last next : Plan) (Are : List Answered → Type 0) (steps : List Answered) : Type 0 where
  first : List Answered
  are : Are first
  did : Did last next first steps

module _ (last : Plan) (kind : EndsUnrefused last) where
  -- ---- steps

  did : (site : SiteId) (o : Op) (next : Plan) (feds : List Fed) (steps : List Answered) → IsWalk Goto (own site o (on_done next)) feds steps last → Did last next (done site o ∷ []) steps
  did site o next feds steps walk =
      let w = went_on last kind site reason.Own o (on_done next) feds steps walk in
      let d = told_done last kind next w.answer w.more w.rest w.walk in
      record {
        more = w.more;
        rest = w.rest;
        are = w.are ∙ ap (λ a. record { site = site; op = o; answer = a } ∷ w.rest) d.is;
        walk = d.walk;
      }

  then_did : (between next : Plan) (first second steps : List Answered) (a : Did last between first steps) → Did last next second a.rest → Did last next (first ++ second) steps
  then_did between next first second steps a b = record {
    more = b.more;
    rest = b.rest;
    are = a.are ∙ ap (λ rest. first ++ rest) b.are ∙ sym (append_assoc first second b.rest);
    walk = b.walk;
  }

  -- ---- a piece

  module _ (site : SiteId) (image : ℕ) (context : SnapContext) (piece : Piece) (next : Plan) where
    did_all : (inside : Bool) (feds : List Fed) (steps : List Answered) → IsWalk Goto (zero_all site image context piece inside next) feds steps last → Did last next (all_zeroed site image context piece inside) steps
    did_all true feds steps walk =
        let a = did site (map_set image piece.object 1) (emptying site image context piece next) feds steps walk in
        then_did (emptying site image context piece next) next (done site (map_set image piece.object 1) ∷ []) (done site (data_empty image context piece.object) ∷ []) steps a
        (did site (data_empty image context piece.object) next a.more a.rest a.walk)
    did_all false feds steps walk =
        let lowering = setting site image context piece 0 next in
        let a = did site (map_set image piece.object 2) (removing site image context piece lowering) feds steps walk in
        let b = did site (data_remove image context piece.object) lowering a.more a.rest a.walk in
        then_did (removing site image context piece lowering) next (done site (map_set image piece.object 2) ∷ []) (done site (data_remove image context piece.object) ∷ done site (map_set image piece.object 0) ∷ []) steps a
        (then_did lowering next (done site (data_remove image context piece.object) ∷ []) (done site (map_set image piece.object 0) ∷ []) a.rest b
        (did site (map_set image piece.object 0) next b.more b.rest b.walk))

    did_by : (whole inside : Bool) (feds : List Fed) (steps : List Answered) → IsWalk Goto (zero_by site image context piece whole inside next) feds steps last → Did last next (zeroed_by site image context piece whole inside) steps
    did_by true inside feds steps walk = did_all inside feds steps walk
    did_by false true feds steps walk =
        let a = did site (map_set image piece.object 1) (zeroing site image context piece true next) feds steps walk in
        then_did (zeroing site image context piece true next) next (done site (map_set image piece.object 1) ∷ []) (done site (data_zero image context true piece) ∷ []) steps a
        (did site (data_zero image context true piece) next a.more a.rest a.walk)
    did_by false false feds steps walk = did site (data_zero image context false piece) next feds steps walk

  module _ (site : SiteId) (image : ℕ) (h : HeaderView) where
    did_zero : (piece : Piece) (next : Plan) (feds : List Fed) (steps : List Answered) → IsWalk Goto (zero_piece site image h piece next) feds steps last → Did last next (zeroed_steps site image h piece) steps
    did_zero piece next feds steps walk = did_by site image (context_of h) piece next (is_whole h piece) (is_inside h piece.object) feds steps walk

    did_full_by : (left : List ℕ) (piece : Piece) (next : Plan) (feds : List Fed) (steps : List Answered) → IsWalk Goto (full_by site image h piece left next) feds steps last → Did last next (replaced_by site image h piece left) steps
    did_full_by [] piece next feds steps walk = did_all site image (context_of h) piece next (is_inside h piece.object) feds steps walk
    did_full_by (byte ∷ left) piece next feds steps walk =
        let writing = writing_full site image (context_of h) piece.object (byte ∷ left) next in
        let o = data_write_full image (context_of h) piece.object (byte ∷ left) in
        let a = did site (map_set image piece.object 1) writing feds steps walk in
        then_did writing next (done site (map_set image piece.object 1) ∷ []) (done site o ∷ []) steps a (did site o next a.more a.rest a.walk)

    did_pieces : (pieces : List Piece) (next : Plan) (feds : List Fed) (steps : List Answered) → IsWalk Goto (zero_pieces site image h pieces next) feds steps last → DidSome last next (AreZeroed site image h pieces) steps
    did_pieces [] next feds steps walk = record { first = []; are = refl; did = record { more = feds; rest = steps; are = refl; walk = walk } }
    did_pieces (p ∷ pieces) next feds steps walk =
        let others = zero_pieces site image h pieces next in
        let a = did_zero p others feds steps walk in
        let b = did_pieces pieces next a.more a.rest a.walk in
        record {
          first = zeroed_steps site image h p ++ b.first;
          are = record { first = zeroed_steps site image h p; others = b.first; is_first = refl; are_others = b.are; are = refl };
          did = then_did others next (zeroed_steps site image h p) b.first steps a b.did;
        }

-- ---- the whole

-- nothing else was done
at_end : (first steps : List Answered) → Did (Return reply.Done) (Return reply.Done) first steps → steps ≡ first
at_end first steps a = a.are ∙ ap (λ rest. first ++ rest) (ended reply.Done a.more a.rest (Return reply.Done) a.walk).0 ∙ append-nil first

pub zero_did : (site : SiteId) (image : ℕ) (h : HeaderView) (piece : Piece) (feds : List Fed) (steps : List Answered)
    → IsWalk Goto (zero_piece site image h piece (Return reply.Done)) feds steps (Return reply.Done) → IsZeroed site image h piece steps
zero_did site image h piece feds steps walk = at_end (zeroed_steps site image h piece) steps (did_zero (Return reply.Done) tt site image h piece (Return reply.Done) feds steps walk)

pub full_did : (site : SiteId) (image : ℕ) (h : HeaderView) (piece : Piece) (bytes : List ℕ) (feds : List Fed) (steps : List Answered)
    → IsWalk Goto (full_piece site image h piece bytes (Return reply.Done)) feds steps (Return reply.Done) → IsReplaced site image h piece bytes steps
full_did site image h piece bytes feds steps walk =
    at_end (replaced site image h piece bytes) steps (did_full_by (Return reply.Done) tt site image h (cut_bytes bytes) piece (Return reply.Done) feds steps walk)

grow_did : (site : SiteId) (image to objects : ℕ) (feds : List Fed) (steps : List Answered)
    → IsWalk Goto (growing site image to objects (Return reply.Done)) feds steps (Return reply.Done) → steps ≡ grown site image to objects
grow_did site image to objects feds steps walk =
    let last = Return reply.Done in
    let set = sizing site image to last in
    let a = did last tt site (map_resize image objects) set feds steps walk in
    at_end (grown site image to objects) steps
    (then_did last tt set last (done site (map_resize image objects) ∷ []) (done site (header_set_size image to) ∷ []) steps a
    (did last tt site (header_set_size image to) last a.more a.rest a.walk))

shrink_did : (site : SiteId) (image : ℕ) (h : HeaderView) (to : ℕ) (feds : List Fed) (steps : List Answered)
    → IsWalk Goto (shrinking site image h to (Return reply.Done)) feds steps (Return reply.Done) → IsShrunk site image h to steps
shrink_did site image h to feds steps walk =
    let last = Return reply.Done in
    let set = sizing site image to last in
    let w = went_on last tt site reason.Own (map_get image) (on_bits (cutting site image h to last)) feds steps walk in
    let t = told_bits last tt (cutting site image h to last) w.answer w.more w.rest w.walk in
    let pieces = pieces_from h to t.bits in
    let a = did_pieces last tt site image h pieces set w.more w.rest t.walk in
    let size = done site (header_set_size image to) in
    let are : w.rest ≡ a.first ++ size ∷ [] =
    at_end (a.first ++ size ∷ []) w.rest (then_did last tt set last a.first (size ∷ []) w.rest a.did (did last tt site (header_set_size image to) last a.did.more a.did.rest a.did.walk)) in
    record {
      bits = t.bits;
      zeroed = a.first;
      are_zeroed = a.are;
      are =
          w.are ∙ ap (λ told. record { site = site; op = map_get image; answer = told } ∷ w.rest) t.is
          ∙ ap (λ rest. states_told site image t.bits ∷ rest) are;
    }

size_did_by : (grows : Bool) (site : SiteId) (image : ℕ) (h : HeaderView) (to objects : ℕ) (feds : List Fed) (steps : List Answered)
    → IsWalk Goto (resize_by grows site image h to objects (Return reply.Done)) feds steps (Return reply.Done) → IsResizedBy grows site image h to objects steps
size_did_by true site image h to objects feds steps walk = grow_did site image to objects feds steps walk
size_did_by false site image h to objects feds steps walk = shrink_did site image h to feds steps walk

pub size_did : (site : SiteId) (image : ℕ) (h : HeaderView) (to objects : ℕ) (feds : List Fed) (steps : List Answered)
    → IsWalk Goto (resize site image h to objects (Return reply.Done)) feds steps (Return reply.Done) → IsResized site image h to objects steps
size_did site image h to objects feds steps walk = size_did_by (nat_le h.size to) site image h to objects feds steps walk
