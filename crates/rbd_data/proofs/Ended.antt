-- What a discard has zeroed when it ends, step by step.
use Rattle.std.proofs.Common.{◌≡◌, ℕ, Bool, true, false, List, [], ◌∷◌, ◌++◌, refl, ap, sym, subst}
use Rattle.rbd_kinds.specs.declared.answer.Answer.{Answer}
use Rattle.rbd_kinds.specs.declared.answer.Answer.TheVariants as answer
use Rattle.rbd_kinds.specs.declared.header.HeaderView.{HeaderView}
use Rattle.rbd_kinds.specs.declared.header.SnapContext.{SnapContext}
use Rattle.rbd_kinds.specs.declared.id.SiteId.{SiteId}
use Rattle.rbd_kinds.specs.declared.machine.Fed.{Fed}
use Rattle.rbd_kinds.specs.declared.operation.Op.{Op}
use Rattle.rbd_kinds.specs.declared.reply.Reply.{Reply}
use Rattle.rbd_kinds.specs.declared.reply.Reply.TheVariants as reply
use Rattle.rbd_layout.specs.declared.types.Piece.{Piece}
use Rattle.rbd_header.specs.Header.{context_of}
use Rattle.rbd_machine.specs.Path.{Answered, IsWalk}
use Rattle.rbd_machine.specs.Plan.{Plan, Return, Goto}
use Rattle.rbd_machine.specs.Steps.{own, on_done, not_there, applied}
use Rattle.rbd_machine.specs.Wait as wait
use Rattle.rbd_machine.specs.declared.reason.Reason.TheVariants as reason
use Rattle.rbd_machine.proofs.Walked.{ended, absent_ends, nothing_ends_otherwise, asked_to, awaited_to}
use Rattle.rbd_pieces.specs.Operations.{data_empty, data_remove, data_zero, done, map_set}
use Rattle.rbd_pieces.specs.Size.{AreZeroed, pieces_zeroed}
use Rattle.rbd_pieces.specs.Zero.{emptying, is_inside, is_whole, removing, setting, zero_by, zero_piece, zeroed_by, zeroed_steps, zeroing}
use Rattle.rbd_pieces.proofs.Fixed.{are_zeros}
use Rattle.rbd_data.specs.Discard.{zero_in_turns}

-- It was cut off: up to a last operation, it had done the first of what it was to do.
pub record IsCutOff (Are : List Answered → Type 0) (steps : List Answered) : Type 0 where
  pub before : List Answered
  pub last : Answered
  pub left : List Answered
  pub are : steps ≡ before ++ last ∷ []
  pub whole : Are (before ++ left)

-- it did all where it is done, and was cut off where it is refused
abbrev pub Does : Reply → (Are : List Answered → Type 0) → (steps : List Answered) → Type 0
Does reply.Done Are steps = Are steps
Does (reply.Refused x) Are steps = IsCutOff Are steps
Does _ Are steps = ⊥

does_so : (r : Reply) (Are So : List Answered → Type 0) → ((steps : List Answered) → Are steps → So steps) → (steps : List Answered) → Does r Are steps → Does r So steps
does_so reply.Done Are So so steps does = so steps does
does_so (reply.Refused x) Are So so steps does = record {
  before = does.before;
  last = does.last;
  left = does.left;
  are = does.are;
  whole = so (does.before ++ does.left) does.whole;
}
does_so _ Are So so steps does = absurd does

one_more : (r : Reply) (step : Answered) (Are : List Answered → Type 0) (steps : List Answered) → Does r (λ others. Are (step ∷ others)) steps → Does r Are (step ∷ steps)
one_more reply.Done step Are steps does = does
one_more (reply.Refused x) step Are steps does = record {
  before = step ∷ does.before;
  last = does.last;
  left = does.left;
  are = ap (λ s. step ∷ s) does.are;
  whole = does.whole;
}
one_more _ step Are steps does = absurd does

-- an operation that isn't answered done is the last
cut_off : (r : Reply) (step : Answered) (Are : List Answered → Type 0) (all : List Answered) → Are all → (feds : List Fed) (rest : List Answered) → IsWalk Goto (not_there step.answer) feds rest (Return r) → Does r Are (step ∷ rest)
cut_off reply.Done step Are all whole feds rest walk = absurd (nothing_ends_otherwise (Return reply.Done) tt step.answer feds rest walk)
cut_off (reply.Refused x) step Are all whole feds rest walk = record {
  before = [];
  last = step;
  left = all;
  are = ap (λ s. step ∷ s) (absent_ends step.answer feds rest (Return (reply.Refused x)) walk);
  whole = whole;
}
cut_off r step Are all whole feds rest walk = absurd (nothing_ends_otherwise (Return r) tt step.answer feds rest walk)

-- nothing is left to do but to end
at_end : (r : Reply) (steps : List Answered) → steps ≡ [] → Return r ≡ Return reply.Done → Does r (λ all. all ≡ []) steps
at_end reply.Done steps none same = none
at_end _ steps none same = cc

module _ (r : Reply) (site : SiteId) where
  -- whatever it is fed, a plan does all of this or is cut off
  abbrev Ends : Plan → (Are : List Answered → Type 0) → Type 0
  Ends plan Are = (feds : List Fed) (steps : List Answered) → IsWalk Goto plan feds steps (Return r) → Does r Are steps

  -- with what would be left behind it
  then : (o : Op) (next : Plan) (Are : List Answered → Type 0) (left : List Answered) → Are (done site o ∷ left) → Ends next (λ others. Are (done site o ∷ others)) → Ends (own site o (on_done next)) Are
  then o next Are left whole ends feds steps walk =
      let w = asked_to r site reason.Own o (on_done next) feds steps walk in
      subst (Does r Are) (sym w.are) (go w.answer w.more w.rest w.walk)
    where
      go : (a : Answer) (more : List Fed) (rest : List Answered) → IsWalk Goto (on_done next a) more rest (Return r) → Does r Are (record { site = site; op = o; answer = a } ∷ rest)
      go answer.Done more rest walk = one_more r (done site o) Are rest (ends more rest walk)
      go a more rest walk = cut_off r (record { site = site; op = o; answer = a }) Are (done site o ∷ left) whole more rest walk

  module _ (image : ℕ) where
    piece_ends : (whole inside : Bool) (context : SnapContext) (p : Piece) (next : Plan) (Are : List Answered → Type 0) (left : List Answered) → Are (zeroed_by site image context p whole inside ++ left)
        → Ends next (λ others. Are (zeroed_by site image context p whole inside ++ others)) → Ends (zero_by site image context p whole inside next) Are
    piece_ends false false context p next Are left all ends = then (data_zero image context false p) next Are left all ends
    piece_ends false true context p next Are left all ends =
        let raised = done site (map_set image p.object 1) in
        let zeroed = done site (data_zero image context true p) in
        then (map_set image p.object 1) (zeroing site image context p true next) Are (zeroed ∷ left) all
        (then (data_zero image context true p) next (λ s. Are (raised ∷ s)) left all ends)
    piece_ends true false context p next Are left all ends =
        let lowering = setting site image context p 0 next in
        let marked = done site (map_set image p.object 2) in
        let removed = done site (data_remove image context p.object) in
        let lowered = done site (map_set image p.object 0) in
        then (map_set image p.object 2) (removing site image context p lowering) Are (removed ∷ lowered ∷ left) all
        (then (data_remove image context p.object) lowering (λ s. Are (marked ∷ s)) (lowered ∷ left) all
        (then (map_set image p.object 0) next (λ s. Are (marked ∷ removed ∷ s)) left all ends))
    piece_ends true true context p next Are left all ends =
        let raised = done site (map_set image p.object 1) in
        let emptied = done site (data_empty image context p.object) in
        then (map_set image p.object 1) (emptying site image context p next) Are (emptied ∷ left) all
        (then (data_empty image context p.object) next (λ s. Are (raised ∷ s)) left all ends)

    -- the others behind the first
    with_first : (p : Piece) (pieces : List Piece) (h : HeaderView) (others : List Answered) → AreZeroed site image h pieces others → AreZeroed site image h (p ∷ pieces) (zeroed_steps site image h p ++ others)
    with_first p pieces h others are = record { first = zeroed_steps site image h p; others = others; is_first = refl; are_others = are; are = refl }

    pub pieces_end : (pieces : List Piece) (h : HeaderView) → Ends (zero_in_turns site image h pieces (applied site image)) (AreZeroed site image h pieces)
    pieces_end [] h feds steps walk =
        let a = awaited_to r (wait.Applied site image) (Return reply.Done) feds steps walk in
        let e = ended reply.Done a.more steps (Return r) a.walk in
        at_end r steps e.0 e.1
    pieces_end (p ∷ pieces) h feds steps walk =
        let next = zero_in_turns site image h pieces (applied site image) in
        let left = pieces_zeroed site image h pieces in
        let t = awaited_to r (wait.Turn p.object) (zero_piece site image h p next) feds steps walk in
        piece_ends (is_whole h p) (is_inside h p.object) (context_of h) p next (AreZeroed site image h (p ∷ pieces)) left (with_first p pieces h left (are_zeros site image h pieces left refl))
        (λ feds steps walk. does_so r (AreZeroed site image h pieces) (λ s. AreZeroed site image h (p ∷ pieces) (zeroed_steps site image h p ++ s)) (with_first p pieces h) steps (pieces_end pieces h feds steps walk))
        t.more steps t.walk
