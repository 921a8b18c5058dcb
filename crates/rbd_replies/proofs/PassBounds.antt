-- A walk of a command's plan keeps to what its row allows, whether it has ended or not.
use Rattle.std.proofs.Common.{◌≡◌, ℕ, ◌+◌, ◌*◌, ◌≤◌, suc, Bool, true, false, List, [], ◌∷◌, ◌++◌, length, Option, Some, refl, sym, ap, ◌∙◌, subst, append_assoc, arith}
use Rattle.std.proofs.lemmas.List.{length-append}
use Rattle.std.proofs.lemmas.Option.{same_Some}
use Rattle.rbd_commands.specs.declared.command.Command.{Command}
use Rattle.rbd_commands.specs.declared.command.Command.TheVariants as command
use Rattle.rbd_kinds.specs.declared.id.SiteId.{SiteId}
use Rattle.rbd_kinds.specs.declared.layout.Extent.{Extent}
use Rattle.rbd_kinds.specs.declared.machine.Fed.{Fed}
use Rattle.rbd_layout.specs.Pieces.{pieces_of}
use Rattle.rbd_layout.specs.declared.types.Piece.{Piece}
use Rattle.rbd_machine.specs.Passes.{steps_of_passes, jumps}
use Rattle.rbd_machine.specs.Path.{Answered, IsWalk}
use Rattle.rbd_machine.specs.Plan.{Plan, Goto, Standing}
use Rattle.rbd_machine.specs.Refused.{AreGiven}
use Rattle.rbd_machine.specs.declared.seat.Seat.{Seat}
use Rattle.rbd_meaning.specs.Reads.{AreRead, SeeOthers, SeesAnother}
use Rattle.rbd_catalog.specs.Plans.{read_from, IsPlanFor}
use Rattle.rbd_catalog.specs.Profile.{between, is_nothing, most_operations, profile}
use Rattle.rbd_data.proofs.Meant.{given_behind}
use Rattle.rbd_data.proofs.Passes.{last_pass}
use Rattle.rbd_data.specs.Read.{is_read, pass, read_labels}
use Rattle.rbd_catalog.proofs.Given.{walk_asks}
use Rattle.rbd_catalog.specs.Touched.{AsksAtMost, HasAtMost}
use Rattle.rbd_replies.specs.Bounds.{HaveAtMost, KeepsBound, KeepsPasses, allowed}
use Rattle.rbd_catalog.proofs.FollowsAll.{begins_once}
use Rattle.rbd_catalog.proofs.Bounded.{bounded_by_told, command_is_bounded}

-- ---- without a jump

pub walk_within : (feds : List Fed) (plan : Plan) (n : ℕ) (steps : List Answered) (last : Plan) → AsksAtMost plan n → AreGiven steps → IsWalk Goto plan feds steps last → length steps ≤ n
walk_within feds plan n steps last few given walk =
    let short : length steps ≤ n + jumps Goto plan feds * 0 = walk_asks Goto 0 (λ label. tt) feds plan n steps last few given walk in
    omega arith

-- ---- answers that were given, in front and behind

given_front : (front back : List Answered) → AreGiven (front ++ back) → AreGiven front
given_front [] back given = tt
given_front (step ∷ front) back (can, given) = (can, given_front front back given)

-- ---- a read, pass by pass

as_many : (site : SiteId) (image : ℕ) (snap : Option ℕ) (pieces : List Piece) (steps : List Answered) → AreRead site image snap pieces steps → length steps ≡ length pieces
as_many site image snap [] steps none = ap length none
as_many site image snap (p ∷ pieces) steps read =
    ap length (read.are ∙ ap (λ first. first ++ read.others) read.is_first.are) ∙ ap suc (as_many site image snap pieces read.others read.are_others)

module _ (site : SiteId) (name : List ℕ) (snap : Option (List ℕ)) (e : Extent) (pieces : ℕ) (few : HasAtMost pieces (Some e)) (most : ℕ) (is : most ≡ pieces + 3) where
  pass_within : (steps : List Answered) → AreGiven steps → SeesAnother site name snap e steps → length steps ≤ most
  pass_within steps given sees =
      let p = sees.pass in
      let can = (subst AreGiven p.are given).1.0 in
      let within : length (pieces_of p.first.layout e) ≤ pieces = few p.first can.can.form in
      let read : length p.reads ≡ length (pieces_of p.first.layout e) = as_many site p.image p.view.snap (pieces_of p.first.layout e) p.reads p.read in
      let all : length steps ≡ suc (suc (length p.reads + 1)) = ap length p.are ∙ ap (λ n. suc (suc n)) (length-append p.reads (_ ∷ [])) in
      omega arith

  pub passes_within : (passes : List (List Answered)) (rest : List Answered) → AreGiven (steps_of_passes passes ++ rest) → SeeOthers site name snap e passes → HaveAtMost most passes × AreGiven rest
  passes_within [] rest given see = (tt, given)
  passes_within (p ∷ passes) rest given (sees, see) =
      let both : AreGiven (p ++ (steps_of_passes passes ++ rest)) = subst AreGiven (append_assoc p (steps_of_passes passes) rest) given in
      let later = passes_within passes rest (given_behind p (steps_of_passes passes ++ rest) both) see in
      ((pass_within p (given_front p (steps_of_passes passes ++ rest) both) sees, later.0), later.1)

  read_within : (feds : List Fed) (steps : List Answered) (last : Plan) → AsksAtMost (pass site name snap e) most → AreGiven steps
      → IsWalk (read_labels site name snap e) (pass site name snap e) feds steps last → KeepsPasses site name snap e most steps
  read_within feds steps last asks given walk =
      let l = last_pass site name snap e feds steps last walk in
      let within = passes_within l.passes l.final (subst AreGiven l.are given) l.before in
      record {
        passes = l.passes;
        pass = l.final;
        are = l.are;
        before = l.before;
        each = within.0;
        last = walk_within l.feds (pass site name snap e) most l.final last asks within.1 l.walk;
      }

-- ---- any command

-- where a read begins, and how many operations a pass of it has
pub read_begins : (seat : Seat) (name : List ℕ) (snap : Option (List ℕ)) (at len : ℕ) (s : Standing) → IsPlanFor seat (command.Read name snap at len) s → s ≡ read_from seat.home name snap (between at len)
read_begins seat name snap at len s plan = sym (same_Some _ s plan)

pub pass_asks : (seat : Seat) (name : List ℕ) (snap : Option (List ℕ)) (at len : ℕ) (s : Standing) → IsPlanFor seat (command.Read name snap at len) s
    → (pieces : ℕ) → HasAtMost pieces (Some (between at len)) → (n : ℕ) → n ≡ pieces + 3 → AsksAtMost (pass seat.home name snap (between at len)) n
pass_asks seat name snap at len s plan pieces few n is =
    let all : most_operations (profile (command.Read name snap at len)) pieces ≡ n = let each : 1 * pieces + 3 ≡ pieces + 3 = omega arith in each ∙ sym is in
    subst (AsksAtMost (pass seat.home name snap (between at len))) all
    (subst (λ (x : Standing). AsksAtMost x.plan (most_operations (profile (command.Read name snap at len)) pieces)) (read_begins seat name snap at len s plan)
    (command_is_bounded seat (command.Read name snap at len) s pieces plan refl few))

module _ (seat : Seat) (c : Command) (s : Standing) (plan : IsPlanFor seat c s) (pieces : ℕ) (few : HasAtMost pieces (profile c).extent)
    (feds : List Fed) (steps : List Answered) (last : Plan) (given : AreGiven steps) (walk : IsWalk s.labels s.plan feds steps last) where
  -- but for a read no command goes to a label
  pub in_one_pass : is_read c ≡ false → length steps ≤ allowed c pieces steps
  in_one_pass other = by (is_nothing (profile c).told) refl
    where
      by : (b : Bool) → is_nothing (profile c).told ≡ b → length steps ≤ allowed c pieces steps
      by true nothing =
          let short : length steps ≤ most_operations (profile c) pieces =
          walk_within feds s.plan (most_operations (profile c) pieces) steps last (command_is_bounded seat c s pieces plan nothing few) given
          (subst (λ l. IsWalk l s.plan feds steps last) (ap (λ (x : Standing). x.labels) (begins_once seat c s plan other)) walk) in
          omega arith
      by false told = bounded_by_told seat s feds steps last walk c pieces told plan

pub walk_keeps_bound : (seat : Seat) (c : Command) (s : Standing) → IsPlanFor seat c s → (pieces : ℕ) → HasAtMost pieces (profile c).extent
    → (feds : List Fed) (steps : List Answered) (last : Plan) → AreGiven steps → IsWalk s.labels s.plan feds steps last → KeepsBound seat.home c pieces steps
walk_keeps_bound seat (command.Read name snap at len) s plan pieces few feds steps last given walk =
    let same : allowed (command.Read name snap at len) pieces steps ≡ pieces + 3 = omega arith in
    read_within seat.home name snap (between at len) pieces few (allowed (command.Read name snap at len) pieces steps) same feds steps last
    (pass_asks seat name snap at len s plan pieces few (allowed (command.Read name snap at len) pieces steps) same) given
    (subst (λ (x : Standing). IsWalk x.labels x.plan feds steps last) (read_begins seat name snap at len s plan) walk)
walk_keeps_bound seat c s plan pieces few feds steps last given walk = in_one_pass seat c s plan pieces few feds steps last given walk refl
