-- A walk of a command's plan that stands at an operation has had fewer than its row allows: with
-- this operation answered by the fence, the walk is one longer.
use Rattle.std.proofs.Common.{◌≡◌, ℕ, ◌+◌, ◌<◌, ◌≤◌, true, false, max, List, [], ◌∷◌, ◌++◌, length, Option, Some, None, is_some, refl, sym, ap, subst, arith}
use Rattle.std.specs.Prelude.{nat_lt}
use Rattle.std.proofs.lemmas.Bool.Decides.{nat_tests}
use Rattle.std.proofs.lemmas.List.{length-append}
use Rattle.rbd_commands.specs.declared.command.Command.{Command}
use Rattle.rbd_commands.specs.declared.command.Command.TheVariants as command
use Rattle.rbd_kinds.specs.declared.answer.Answer.TheVariants as answer
use Rattle.rbd_kinds.specs.declared.data_op.DataOp.TheVariants as object
use Rattle.rbd_kinds.specs.declared.header.HeaderView.{HeaderView}
use Rattle.rbd_kinds.specs.declared.header_op.HeaderOp.TheVariants as header
use Rattle.rbd_kinds.specs.declared.id.SiteId.{SiteId}
use Rattle.rbd_kinds.specs.declared.journal_op.JournalOp.TheVariants as journal
use Rattle.rbd_kinds.specs.declared.layout.Extent.{Extent}
use Rattle.rbd_kinds.specs.declared.machine.Fed.{Fed}
use Rattle.rbd_kinds.specs.declared.map_op.MapOp.TheVariants as states
use Rattle.rbd_kinds.specs.declared.operation.Op.{Op}
use Rattle.rbd_kinds.specs.declared.operation.Op.TheVariants as op
use Rattle.rbd_kinds.specs.AnswerForm.{IsInForm}
use Rattle.rbd_machine.specs.Label.{Label}
use Rattle.rbd_machine.specs.Path.{Answered, IsWalk, at_operation}
use Rattle.rbd_machine.specs.Plan.{Plan, Ask, Await, Note, Return, Goto, IsAsking, Standing}
use Rattle.rbd_machine.specs.Refused.{AreGiven, finds_image}
use Rattle.rbd_machine.specs.declared.seat.Seat.{Seat}
use Rattle.rbd_catalog.specs.Plans.{plan_of, IsPlanFor}
use Rattle.rbd_catalog.specs.Profile.{Nothing, OfMap, OfSize, OfSnap, Told, between, more_by, profile}
use Rattle.rbd_image.specs.Told.{objects_by_bits, objects_told}
use Rattle.rbd_data.proofs.Passes.{last_pass}
use Rattle.rbd_data.specs.Read.{is_read, pass, read_labels}
use Rattle.rbd_catalog.specs.Touched.{AsksAtMost, HasAtMost, by_header, most_told}
use Rattle.rbd_world.proofs.Walks.{given_more, led_on}
use Rattle.rbd_replies.proofs.PassBounds.{in_one_pass, pass_asks, passes_within, read_begins, walk_within}
use Rattle.rbd_replies.specs.Bounds.{IsInPass, StaysBelow, allowed}

-- ---- one operation more, which the fence answers

-- it may answer each
fence_form : (o : Op) → IsInForm o answer.Fenced
fence_form (op.Header image header.Get) = tt
fence_form (op.Header image o) = tt
fence_form (op.Data image number (object.Read snap parts)) = tt
fence_form (op.Data image number o) = tt
fence_form (op.Map image (states.Get snap)) = tt
fence_form (op.Map image o) = tt
fence_form (op.Journal image (journal.Read seq)) = tt
fence_form (op.Journal image o) = tt
fence_form o = tt

fence_finds : (o : Op) → finds_image o answer.Fenced ≡ true
fence_finds (op.Header image header.Get) = refl
fence_finds (op.Header image _) = refl
fence_finds (op.Map image (states.Set None object state)) = refl
fence_finds (op.Map image (states.Remove None)) = refl
fence_finds (op.Map image _) = refl
fence_finds o = refl

record GoesOn (labels : Label → Plan) (plan : Plan) (steps : List Answered) : Type 0 where
  step : Answered
  fenced : step.answer ≡ answer.Fenced
  feds : List Fed
  last : Plan
  walk : IsWalk labels plan feds (steps ++ step ∷ []) last
  given : AreGiven (steps ++ step ∷ [])

goes_on : (labels : Label → Plan) (plan : Plan) (feds : List Fed) (steps : List Answered) (last : Plan) → AreGiven steps → IsAsking last → IsWalk labels plan feds steps last → GoesOn labels plan steps
goes_on labels plan feds steps (Ask site why o next) given asks walk =
    let led = led_on labels plan steps site why o next answer.Fenced (record { feds = feds; walk = walk }) in
    record {
      step = record { site = site; op = o; answer = answer.Fenced };
      fenced = refl;
      feds = led.feds;
      last = at_operation labels (next answer.Fenced);
      walk = led.walk;
      given = given_more steps site o answer.Fenced given (record { can = record { word = refl; form = fence_form o }; finds = fence_finds o });
    }
goes_on labels plan feds steps (Await wait next) given asks walk = absurd asks
goes_on labels plan feds steps (Note site image event next) given asks walk = absurd asks
goes_on labels plan feds steps (Return reply) given asks walk = absurd asks
goes_on labels plan feds steps (Goto label) given asks walk = absurd asks

-- and tells nothing by which there would be more
most_still : (many : HeaderView → ℕ) (steps : List Answered) (s : Answered) → s.answer ≡ answer.Fenced → most_told many (steps ++ s ∷ []) ≡ most_told many steps
most_still many [] s is = ap (λ a. max (by_header many a) 0) is
most_still many (x ∷ steps) s is = ap (max (by_header many x.answer)) (most_still many steps s is)

objects_still : (steps : List Answered) (s : Answered) → s.answer ≡ answer.Fenced → objects_told (steps ++ s ∷ []) ≡ objects_told steps
objects_still [] s is = ap (λ a. objects_by_bits a + 0) is
objects_still (x ∷ steps) s is = ap (λ n. objects_by_bits x.answer + n) (objects_still steps s is)

told_still : (t : Told) (steps : List Answered) (s : Answered) → s.answer ≡ answer.Fenced → more_by t (steps ++ s ∷ []) ≡ more_by t steps
told_still Nothing steps s is = refl
told_still (OfSize to) steps s is = most_still _ steps s is
told_still (OfSnap snap) steps s is = most_still _ steps s is
told_still OfMap steps s is = objects_still steps s is

-- ---- a read, in the pass that it is in

module _ (site : SiteId) (name : List ℕ) (snap : Option (List ℕ)) (e : Extent) (pieces : ℕ) (few : HasAtMost pieces (Some e)) (most : ℕ) (is : most ≡ pieces + 3) where
  read_below : (feds : List Fed) (steps : List Answered) (last : Plan) → AsksAtMost (pass site name snap e) most → AreGiven steps → IsAsking last
      → IsWalk (read_labels site name snap e) (pass site name snap e) feds steps last → IsInPass site name snap e most steps
  read_below feds steps last asks given at walk =
      let l = last_pass site name snap e feds steps last walk in
      let within = passes_within site name snap e pieces few most is l.passes l.final (subst AreGiven l.are given) l.before in
      let on = goes_on Goto (pass site name snap e) l.feds l.final last within.1 at l.walk in
      let short : length (l.final ++ on.step ∷ []) ≤ most = walk_within on.feds (pass site name snap e) most (l.final ++ on.step ∷ []) on.last asks on.given on.walk in
      let long : length (l.final ++ on.step ∷ []) ≡ length l.final + 1 = length-append l.final (on.step ∷ []) in
      record {
        passes = l.passes;
        pass = l.final;
        are = l.are;
        before = l.before;
        each = within.0;
        fewer = omega arith;
      }

-- ---- any command

module _ (seat : Seat) (c : Command) (s : Standing) (plan : IsPlanFor seat c s) (pieces : ℕ) (few : HasAtMost pieces (profile c).extent)
    (feds : List Fed) (steps : List Answered) (last : Plan) (given : AreGiven steps) (asks : IsAsking last) (walk : IsWalk s.labels s.plan feds steps last) where
  one_pass_below : is_read c ≡ false → length steps < allowed c pieces steps
  one_pass_below other =
      let on = goes_on s.labels s.plan feds steps last given asks walk in
      let short : length (steps ++ on.step ∷ []) ≤ allowed c pieces (steps ++ on.step ∷ []) =
      in_one_pass seat c s plan pieces few on.feds (steps ++ on.step ∷ []) on.last on.given on.walk other in
      let long : length (steps ++ on.step ∷ []) ≡ length steps + 1 = length-append steps (on.step ∷ []) in
      let still : more_by (profile c).told (steps ++ on.step ∷ []) ≡ more_by (profile c).told steps = told_still (profile c).told steps on.step on.fenced in
      omega arith

pub walk_stays_below : (seat : Seat) (c : Command) (s : Standing) → IsPlanFor seat c s → (pieces : ℕ) → HasAtMost pieces (profile c).extent
    → (feds : List Fed) (steps : List Answered) (last : Plan) → AreGiven steps → IsAsking last → IsWalk s.labels s.plan feds steps last → StaysBelow seat.home c pieces steps
walk_stays_below seat (command.Read name snap at len) s plan pieces few feds steps last given asks walk =
    let same : allowed (command.Read name snap at len) pieces steps ≡ pieces + 3 = omega arith in
    read_below seat.home name snap (between at len) pieces few (allowed (command.Read name snap at len) pieces steps) same feds steps last
    (pass_asks seat name snap at len s plan pieces few (allowed (command.Read name snap at len) pieces steps) same) given asks
    (subst (λ (x : Standing). IsWalk x.labels x.plan feds steps last) (read_begins seat name snap at len s plan) walk)
walk_stays_below seat c s plan pieces few feds steps last given asks walk = one_pass_below seat c s plan pieces few feds steps last given asks walk refl

-- ---- before any operation

-- the row of a command that has a plan allows it some
allows_some : (seat : Seat) (c : Command) → is_some (plan_of seat c) ≡ true → nat_lt 0 (profile c).once ≡ true
allows_some seat command.List is = refl
allows_some seat _ is = cc

none_below : (home : SiteId) (c : Command) (pieces : ℕ) → 0 < (profile c).once → StaysBelow home c pieces []
none_below home (command.Read name snap at len) pieces some = record { passes = []; pass = []; are = refl; before = tt; each = tt; fewer = omega arith }
none_below home c pieces some = omega arith

pub begins_below : (seat : Seat) (c : Command) (s : Standing) → IsPlanFor seat c s → (pieces : ℕ) (steps : List Answered) → steps ≡ [] → StaysBelow seat.home c pieces steps
begins_below seat c s plan pieces steps none =
    let test : nat_lt 0 (profile c).once ≡ true = allows_some seat c (ap is_some plan) in
    let some : 0 < (profile c).once = grind (arith, nat_tests) in
    subst (StaysBelow seat.home c pieces) (sym none) (none_below seat.home c pieces some)
