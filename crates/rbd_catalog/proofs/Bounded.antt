-- How many operations commands have.
use Rattle.std.proofs.Common.{◌≡◌, ℕ, ◌+◌, ◌*◌, ◌≤◌, suc, List, [], ◌∷◌, length, replicate, Bool, true, false, Option, Some, None, refl, sym, ap, subst, add-mul, arith}
use Rattle.std.proofs.lemmas.List.{length-replicate}
use Rattle.rbd_kinds.specs.declared.sharing.Sharing.TheVariants as sharing
use Rattle.rbd_commands.specs.declared.command.Command.{Command}
use Rattle.rbd_commands.specs.declared.command.Command.TheVariants as command
use Rattle.rbd_commands.specs.declared.quiescing.Quiescing.{Quiescing}
use Rattle.rbd_commands.specs.Quiescing.{quiescing_of}
use Rattle.rbd_kinds.specs.declared.header.HeaderView.{HeaderView}
use Rattle.rbd_kinds.specs.declared.id.SiteId.{SiteId}
use Rattle.rbd_kinds.specs.declared.layout.Extent.{Extent}
use Rattle.rbd_kinds.specs.declared.machine.Fed.{Fed}
use Rattle.rbd_kinds.specs.declared.reply.Reply.TheVariants as reply
use Rattle.rbd_layout.specs.Pieces.{pieces_of}
use Rattle.rbd_header.specs.Header.{view_of}
use Rattle.rbd_header.specs.declared.view.View.{View}
use Rattle.rbd_machine.specs.Label.{Label}
use Rattle.rbd_machine.specs.OwnSteps.{AsksOwnAtMost, own_steps, owned_at}
use Rattle.rbd_machine.specs.Passes.{jumps}
use Rattle.rbd_machine.specs.Path.{Answered, IsBounded, IsWalk}
use Rattle.rbd_machine.specs.Plan.{Plan, Goto, Standing, without_labels}
use Rattle.rbd_machine.specs.Refused.{AreGiven}
use Rattle.rbd_machine.specs.declared.seat.Seat.{Seat}
use Rattle.rbd_machine.proofs.OwnSteps.{own_are_fewer, pass_keeps_own}
use Rattle.rbd_meaning.specs.Listings.{shown_snaps}
use Rattle.rbd_meaning.specs.Range.{extent_at, out_of_range}
use Rattle.rbd_meaning.specs.Straight.{operations_of, Straight, straight_of}
use Rattle.rbd_meaning.specs.Writes.{write_refuses}
use Rattle.rbd_pieces.proofs.Bounded.{bounded_gather}
use Rattle.rbd_data.proofs.Bounded.{bounded_closing, bounded_put}
use Rattle.rbd_data.specs.Read.{pass, looking, read_by_header, viewing, gathering, closing}
use Rattle.rbd_data.specs.Seen.{seen_at}
use Rattle.rbd_data.specs.Write.{put_plan, write}
use Rattle.rbd_image.proofs.Bounds.{bounded_create, bounded_listing, bounded_names, bounded_rename, bounded_show_header}
use Rattle.rbd_snap.proofs.Bounds.{bounded_removal, bounded_snap}
use Rattle.rbd_session.proofs.Bounds.{bounded_close, bounded_quiesce, bounded_straight}
use Rattle.rbd_data.proofs.DiscardsBounded.{bounded_own}
use Rattle.rbd_data.specs.Discard.{discard, zero}
use Rattle.rbd_image.proofs.RemovalsBounded.{request_is_short}
use Rattle.rbd_image.specs.Remove.{remove_image}
use Rattle.rbd_image.specs.Resize.{size_change}
use Rattle.rbd_snap.specs.Rollback.{rollback}
use Rattle.rbd_catalog.proofs.Given.{asks_on_id, asks_on_header, asks_own, asks_unless, asks_change, asks_within, walk_asks}
use Rattle.rbd_catalog.proofs.Told.{resize_within, rollback_within}
use Rattle.rbd_catalog.specs.EachRequest.{of_create, of_plan, same_some, stands_at}
use Rattle.rbd_catalog.specs.Plans.{IsPlanFor, planned, planned_straight, read_from}
use Rattle.rbd_catalog.specs.Profile.{between, is_nothing, more_by, most_operations, profile, straight_row}
use Rattle.rbd_catalog.specs.Touched.{AsksAtMost, HasAtMost}

-- ---- write, fill

write_asks_few : (site : SiteId) (name : List ℕ) (from : ℕ) (bytes : List ℕ) (most : ℕ) → HasAtMost most (Some (extent_at from bytes)) → AsksAtMost (write site name from bytes) (2 * most + 3)
write_asks_few site name from bytes most few =
    let three_more : suc (suc (suc (2 * most))) ≡ 2 * most + 3 = omega arith in
    subst (AsksAtMost (write site name from bytes)) three_more
    (asks_change site (write_refuses (extent_at from bytes)) (put_plan site from bytes) (2 * most)
    (λ image h form.
    let pieces = few h form in
    asks_within (put_plan site from bytes image h) (2 * length (pieces_of h.layout (extent_at from bytes))) (2 * most) (omega arith) (bounded_put site from bytes image h)) name sharing.Shared)

fill_asks_few : (site : SiteId) (name : List ℕ) (from len byte : ℕ) (most : ℕ) → HasAtMost most (Some (between from len)) → AsksAtMost (write site name from (replicate len byte)) (2 * most + 3)
fill_asks_few site name from len byte most few =
    write_asks_few site name from (replicate len byte) most
    (subst (λ n. HasAtMost most (Some (record { at = from; len = n }))) (sym (length-replicate len byte)) few)

-- ---- discard

discard_asks_few : (site : SiteId) (name : List ℕ) (e : Extent) (most : ℕ) → HasAtMost most (Some e) → AsksAtMost (discard site name e) (3 * most + 3)
discard_asks_few site name e most few =
    let three_more : suc (suc (suc (3 * most))) ≡ 3 * most + 3 = omega arith in
    subst (AsksAtMost (discard site name e)) three_more
    (asks_change site (write_refuses e) (zero site e) (3 * most)
    (λ image h form.
    let pieces = few h form in
    asks_within (zero site e image h) (3 * length (pieces_of h.layout e)) (3 * most) (omega arith) (bounded_own site e image h)) name sharing.Discard)

-- ---- read

viewing_asks_few : (site : SiteId) (image : ℕ) (h : HeaderView) (e : Extent) (view : Option View) (most : ℕ) → length (pieces_of h.layout e) ≤ most → AsksAtMost (viewing site image h e view) (suc most)
viewing_asks_few site image h e None most few = tt
viewing_asks_few site image h e (Some view) most few =
    asks_unless (out_of_range e view.size) (gathering site image h e view) (suc most)
    (asks_within (gathering site image h e view) (1 + length (pieces_of h.layout e)) (suc most) (omega arith)
    (bounded_gather (pieces_of h.layout e) site image view.snap [] (closing site image (seen_at h e)) 1 (bounded_closing site image (seen_at h e))))

pass_asks_few : (site : SiteId) (name : List ℕ) (snap : Option (List ℕ)) (e : Extent) (most : ℕ) → HasAtMost most (Some e) → AsksAtMost (pass site name snap e) (1 * most + 3)
pass_asks_few site name snap e most few =
    let three_more : suc (suc (suc most)) ≡ 1 * most + 3 = omega arith in
    subst (AsksAtMost (pass site name snap e)) three_more
    (λ found can. asks_on_id (looking site snap e) (suc (suc most))
    (λ image. asks_on_header image (read_by_header site snap e image) (suc most) (λ h form. viewing_asks_few site image h e (view_of h snap) most (few h form))) found)

-- ---- all whose extent bounds them

-- as its plan, so the plan at each of its labels
abbrev AskFew : Standing → (n : ℕ) → Type 0
AskFew s n = AsksAtMost s.plan n × ((label : Label) → AsksAtMost (s.labels label) n)

by_told : (s : Standing) (plan : Plan) (n : ℕ) → planned plan ≡ Some s → AsksAtMost plan n → AskFew s n
by_told s plan n is few = of_plan (λ at. AskFew at n) plan s is (few, λ label. tt)

-- a bound for all answers, whatever pieces there are
abbrev AskOnce : (most once : ℕ) → Standing → Type 0
AskOnce most once s = AskFew s (0 * most + once)

once : (most n : ℕ) (plan : Plan) → IsBounded plan n → AskOnce most n (without_labels plan)
once most n plan bounded = (asks_within plan n (0 * most + n) (omega arith) bounded, λ label. tt)

read_asks_few : (site : SiteId) (name : List ℕ) (snap : Option (List ℕ)) (e : Extent) (most : ℕ) → HasAtMost most (Some e) → AskFew (read_from site name snap e) (1 * most + 3)
read_asks_few site name snap e most few = (pass_asks_few site name snap e most few, λ label. pass_asks_few site name snap e most few)

module _ (seat : Seat) (s : Standing) (most : ℕ) where
  by_bound : (n : ℕ) (plan : Plan) → planned plan ≡ Some s → IsBounded plan n → AskOnce most n s
  by_bound n plan is bounded = of_plan (AskOnce most n) plan s is (once most n plan bounded)

  row_asks_few : (q : Quiescing) (o : Option Straight) → planned_straight seat.home o ≡ Some s → AskFew s (most_operations (straight_row q o) most)
  row_asks_few q None is = cc
  row_asks_few q (Some row) is = by_bound (operations_of row) _ is (bounded_straight seat.home row)

  ask_few : (c : Command) → IsPlanFor seat c s → is_nothing (profile c).told ≡ true → HasAtMost most (profile c).extent → AskFew s (most_operations (profile c) most)
  ask_few (command.Write name from bytes) is bounded few = by_told s _ _ is (write_asks_few seat.home name from bytes most few)
  ask_few (command.Fill name from len byte) is bounded few = by_told s _ _ is (fill_asks_few seat.home name from len byte most few)
  ask_few (command.Discard name from len) is bounded few = by_told s _ _ is (discard_asks_few seat.home name (between from len) most few)
  ask_few (command.Read name snap from len) is bounded few =
      subst (λ at. AskFew at (1 * most + 3)) (same_some _ s is) (read_asks_few seat.home name snap (between from len) most few)
  ask_few (command.Create name size shape) is bounded few =
      of_create (AskOnce most 3) seat name size shape s (λ plan creates. once most 3 plan (bounded_create seat.home (command.Create name size shape) plan creates)) is
  ask_few command.List is bounded few = by_bound 1 _ is (bounded_names seat.home 0)
  ask_few (command.Info name) is bounded few = by_bound 2 _ is (bounded_show_header seat.home name reply.Info)
  ask_few (command.Used name) is bounded few = by_bound 3 _ is (bounded_listing seat.home (command.Used name))
  ask_few (command.Rename from to) is bounded few = by_bound 1 _ is (bounded_rename seat.home from to 0)
  ask_few (command.SnapCreate name snap) is bounded few = by_bound 6 _ is (bounded_snap seat.home (command.SnapCreate name snap))
  ask_few (command.SnapRemove name snap) is bounded few = by_bound 5 _ is (bounded_removal seat.home name snap)
  ask_few (command.SnapList name) is bounded few = by_bound 2 _ is (bounded_show_header seat.home name shown_snaps)
  ask_few (command.Close name) is bounded few = by_bound 4 _ is (bounded_close seat.home name)
  ask_few (command.Quiesce name) is bounded few = by_bound 3 _ is (bounded_quiesce seat.home name)
  ask_few (command.Resize name size) is bounded few = cc
  ask_few (command.SnapRollback name snap) is bounded few = cc
  ask_few (command.Remove name) is bounded few = cc
  ask_few c is bounded few = row_asks_few (quiescing_of c) (straight_of c) is

pub command_is_bounded : (seat : Seat) (c : Command) (s : Standing) (most : ℕ) → IsPlanFor seat c s → is_nothing (profile c).told ≡ true → HasAtMost most (profile c).extent
    → AsksAtMost s.plan (most_operations (profile c) most)
command_is_bounded seat c s most is bounded few = (ask_few seat s most c is bounded few).0

pub command_asks_own : (seat : Seat) (c : Command) (s : Standing) (most : ℕ) → IsPlanFor seat c s → is_nothing (profile c).told ≡ true → HasAtMost most (profile c).extent
    → AsksOwnAtMost [] s.plan (most_operations (profile c) most)
command_asks_own seat c s most is bounded few = asks_own s.plan [] (most_operations (profile c) most) (command_is_bounded seat c s most is bounded few)

-- ---- walks

walk_is_bounded : (seat : Seat) (c : Command) (s : Standing) (most : ℕ) (feds : List Fed) (steps : List Answered) (last : Plan)
    → IsPlanFor seat c s → is_nothing (profile c).told ≡ true → HasAtMost most (profile c).extent → AreGiven steps → IsWalk s.labels s.plan feds steps last
    → length steps ≤ (1 + jumps s.labels s.plan feds) * most_operations (profile c) most
walk_is_bounded seat c s most feds steps last is bounded few given walk =
    let n = most_operations (profile c) most in
    let are = ask_few seat s most c is bounded few in
    let again = jumps s.labels s.plan feds in
    let short : length steps ≤ n + again * n = walk_asks s.labels n are.1 feds s.plan n steps last are.0 given walk in
    let each : (1 + again) * n ≡ 1 * n + again * n = add-mul 1 again n in
    omega arith

-- one that begins nothing again
once_at_least : (again n told short : ℕ) → short ≤ n + told → short ≤ (1 + again) * n + told
once_at_least again n told short less = let each : (1 + again) * n ≡ 1 * n + again * n = add-mul 1 again n in omega arith

-- one that has none for any piece
without_pieces : (most n told short : ℕ) → short ≤ n + told → short ≤ 0 * most + n + told
without_pieces most n told short less = omega arith

module _ (seat : Seat) (s : Standing) (feds : List Fed) (steps : List Answered) (last : Plan) (walk : IsWalk s.labels s.plan feds steps last) where
  walked : (plan : Plan) → planned plan ≡ Some s → IsWalk Goto plan feds steps last
  walked plan is = subst (λ (at : Standing). IsWalk at.labels at.plan feds steps last) (stands_at plan s is) walk

  pub bounded_by_told : (c : Command) (most : ℕ) → is_nothing (profile c).told ≡ false → IsPlanFor seat c s → length steps ≤ most_operations (profile c) most + more_by (profile c).told steps
  bounded_by_told (command.Resize name size) most unbounded is =
      without_pieces most 5 _ (length steps) (resize_within seat.home name size feds steps last (walked (size_change seat.home name size) is))
  bounded_by_told (command.SnapRollback name snap) most unbounded is =
      without_pieces most 5 _ (length steps) (rollback_within seat.home name snap feds steps last (walked (rollback seat.home name snap) is))
  bounded_by_told (command.Remove name) most unbounded is =
      without_pieces most 11 _ (length steps) (request_is_short seat.home seat.session name feds steps last (walked (remove_image seat.home seat.session name) is))
  bounded_by_told _ most unbounded is = cc

pub walk_of_command_is_bounded : (seat : Seat) (c : Command) (s : Standing) (most : ℕ) (feds : List Fed) (steps : List Answered) (last : Plan)
    → IsPlanFor seat c s → HasAtMost most (profile c).extent → AreGiven steps → IsWalk s.labels s.plan feds steps last
    → length steps ≤ (1 + jumps s.labels s.plan feds) * most_operations (profile c) most + more_by (profile c).told steps
walk_of_command_is_bounded seat c s most feds steps last plan few given walk = go (is_nothing (profile c).told) refl
  where
    go : (b : Bool) → is_nothing (profile c).told ≡ b → length steps ≤ (1 + jumps s.labels s.plan feds) * most_operations (profile c) most + more_by (profile c).told steps
    go true is = let less = walk_is_bounded seat c s most feds steps last plan is few given walk in omega arith
    go false is = once_at_least (jumps s.labels s.plan feds) (most_operations (profile c) most) (more_by (profile c).told steps) (length steps) (bounded_by_told seat s feds steps last walk c most is plan)

-- ---- but for looks above, pass by pass

-- who is bounded by what it is told goes to no label
begins_nothing_again : (seat : Seat) (c : Command) (s : Standing) → is_nothing (profile c).told ≡ false → IsPlanFor seat c s → s.labels ≡ Goto
begins_nothing_again seat (command.Resize name size) s unbounded is = ap (λ (at : Standing). at.labels) (stands_at (size_change seat.home name size) s is)
begins_nothing_again seat (command.SnapRollback name snap) s unbounded is = ap (λ (at : Standing). at.labels) (stands_at (rollback seat.home name snap) s is)
begins_nothing_again seat (command.Remove name) s unbounded is = ap (λ (at : Standing). at.labels) (stands_at (remove_image seat.home seat.session name) s is)
begins_nothing_again seat _ s unbounded is = cc

stays_at_label : (label : Label) (feds : List Fed) (steps : List Answered) (last : Plan) → IsWalk Goto (Goto label) feds steps last → steps ≡ []
stays_at_label label [] steps last walk = walk.0
stays_at_label label (f ∷ more) steps last walk = absurd walk

module _ (seat : Seat) (c : Command) (s : Standing) (most : ℕ) (feds : List Fed) (steps : List Answered) (last : Plan)
    (plan : IsPlanFor seat c s) (few : HasAtMost most (profile c).extent) (given : AreGiven steps) where
  pub first_pass_is_bounded : IsWalk Goto s.plan feds steps last → length (own_steps [] steps) ≤ most_operations (profile c) most + more_by (profile c).told steps
  first_pass_is_bounded walk = go (is_nothing (profile c).told) refl
    where
      go : (b : Bool) → is_nothing (profile c).told ≡ b → length (own_steps [] steps) ≤ most_operations (profile c) most + more_by (profile c).told steps
      go true nothing =
          let own : length (own_steps [] steps) ≤ most_operations (profile c) most = pass_keeps_own feds [] s.plan (most_operations (profile c) most) steps last (command_asks_own seat c s most plan nothing few) given walk in
          omega arith
      go false told =
          let fewer : length (own_steps [] steps) ≤ length steps = own_are_fewer [] steps in
          let all : length steps ≤ most_operations (profile c) most + more_by (profile c).told steps =
          bounded_by_told seat s feds steps last (subst (λ l. IsWalk l s.plan feds steps last) (sym (begins_nothing_again seat c s told plan)) walk) c most told plan in
          omega arith

  pub later_pass_is_bounded : (label : Label) → IsWalk Goto (s.labels label) feds steps last → length (own_steps (owned_at label) steps) ≤ most_operations (profile c) most + more_by (profile c).told steps
  later_pass_is_bounded label walk = go (is_nothing (profile c).told) refl
    where
      go : (b : Bool) → is_nothing (profile c).told ≡ b → length (own_steps (owned_at label) steps) ≤ most_operations (profile c) most + more_by (profile c).told steps
      go true nothing =
          let n = most_operations (profile c) most in
          let own : length (own_steps (owned_at label) steps) ≤ most_operations (profile c) most =
          pass_keeps_own feds (owned_at label) (s.labels label) n steps last (asks_own (s.labels label) (owned_at label) n ((ask_few seat s most c plan nothing few).1 label)) given walk in
          omega arith
      go false told =
          let fewer : length (own_steps (owned_at label) steps) ≤ length steps = own_are_fewer (owned_at label) steps in
          let none : length steps ≡ 0 = ap length (stays_at_label label feds steps last (subst (λ l. IsWalk Goto (l label) feds steps last) (begins_nothing_again seat c s told plan) walk)) in
          omega arith
