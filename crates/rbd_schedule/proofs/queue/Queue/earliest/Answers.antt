use Rattle.std.proofs.Common.{◌≡◌, ◌<◌, ◌≤◌, nat_lt, true, false, All, length, take, get_or, slice_get, List, Some, sym, ap, ◌∙◌, subst}
use Rattle.std.proofs.lemmas.Bool.{ltb-false}
use Rattle.std.proofs.lemmas.Option.{slice_get_past, slice_get-get_or}
use Rattle.rbd_world.specs.Seen.{seen}
use Rattle.rbd_schedule.specs.declared.given.Given.{Given}
use Rattle.rbd_world.specs.Step.{is_begun}
use Rattle.rbd_schedule.specs.Playing.{at_place, has_line, may_start_beside, is_over}
use Rattle.rbd_schedule.specs.Starts.{earliest}
use Rattle.rbd_schedule.proofs.Earliest.{earliest_beside, earliest_front, earliest_none, earliest_open, found_there, none_beside}
use Rattle.rbd_schedule.proofs.queue.Queue.earliest.Goals as goal

pub returns-in_err-first-clause-earliest : goal.returns-in_err-first-clause-earliest
returns-in_err-first-clause-earliest c =
    let xs = c.args.self.now.commands.items in
    let past : length xs ≤ c.first_open-self.result = ltb-false c.first_open-self.result (length xs) (subst (λ ys. nat_lt c.first_open-self.result (length ys) ≡ false) c.deref.ensures.value (sym c.in_err-first.ensures.lookup.0)) in
    ap (λ r. at_place xs r) c.from_residual.ensures
    ∙ sym (earliest_none (λ line. is_begun line (seen c.args.world.now).history) (λ line. has_line line c.args.ended.now) c.first_open-self.result xs
    (subst (λ (ys : List Given). All (λ x. is_over (λ line. is_begun line (seen c.args.world.now).history) (λ line. has_line line c.args.ended.now) x ≡ true) (take c.first_open-self.result ys)) c.as_slice.ensures.value c.first_open-self.ensures.over)
    (slice_get_past xs c.first_open-self.result past))

pub returns-then-not-has_begun-clause-earliest : goal.returns-then-not-has_begun-clause-earliest
returns-then-not-has_begun-clause-earliest c =
    let xs = c.args.self.now.commands.items in
    let is : slice_get xs c.first_open-self.result ≡ Some c.in_ok-first.first.now = found_there _ xs c.first_open-self.result c.in_ok-first.first.now c.deref.ensures.value c.in_ok-first.ensures.lookup.0 c.in_ok-first.ensures.lookup.1 in
    is ∙ sym (earliest_front (λ line. is_begun line (seen c.args.world.now).history) (λ line. has_line line c.args.ended.now) c.first_open-self.result xs c.in_ok-first.first.now
    (subst (λ (ys : List Given). All (λ x. is_over (λ line. is_begun line (seen c.args.world.now).history) (λ line. has_line line c.args.ended.now) x ≡ true) (take c.first_open-self.result ys)) c.as_slice.ensures.value c.first_open-self.ensures.over) is (sym c.if-not-has_begun.ensures.begun))

-- the command at the front was begun: so only one that stands beside the others may start
beside_alone : (c : goal.Then-self-len) → earliest (λ line. is_begun line (seen c.args.world.now).history) (λ line. has_line line c.args.ended.now) true c.args.self.now.commands.items ≡ earliest (λ line. is_begun line (seen c.args.world.now).history) (λ line. has_line line c.args.ended.now) false c.args.self.now.commands.items
beside_alone c =
    let xs = c.args.self.now.commands.items in
    let is : slice_get xs c.first_open-self.result ≡ Some c.in_ok-first.first.now = found_there _ xs c.first_open-self.result c.in_ok-first.first.now c.deref.ensures.value c.in_ok-first.ensures.lookup.0 c.in_ok-first.ensures.lookup.1 in
    earliest_open (λ line. is_begun line (seen c.args.world.now).history) (λ line. has_line line c.args.ended.now) c.first_open-self.result xs c.in_ok-first.first.now
    (subst (λ (ys : List Given). All (λ x. is_over (λ line. is_begun line (seen c.args.world.now).history) (λ line. has_line line c.args.ended.now) x ≡ true) (take c.first_open-self.result ys)) c.as_slice.ensures.value c.first_open-self.ensures.over) is
    (c.first_open-self.ensures.open c.in_ok-first.first.now (subst (λ (ys : List Given). slice_get ys c.first_open-self.result ≡ Some c.in_ok-first.first.now) (sym c.as_slice.ensures.value) is))
    (sym c.if-not-has_begun.ensures.begun)

pub returns-then-self-len-clause-earliest : goal.returns-then-self-len-clause-earliest
returns-then-self-len-clause-earliest c =
    let xs = c.args.self.now.commands.items in
    let n = c.first_beside-self.result in
    let below : n < length xs = subst (λ m. n < m) (c.len.ensures ∙ sym c.as_slice-2.ensures.len ∙ ap length c.as_slice-2.ensures.value) c.if-self-len.true in
    let x : Given = get_or xs n c.in_ok-first.first.now in
    let is : slice_get xs n ≡ Some x = slice_get-get_or xs n c.in_ok-first.first.now below in
    is ∙ sym (beside_alone c ∙ earliest_beside (λ line. is_begun line (seen c.args.world.now).history) (λ line. has_line line c.args.ended.now) n xs x
    (subst (λ (ys : List Given). All (λ x. may_start_beside (λ line. is_begun line (seen c.args.world.now).history) x ≡ false) (take n ys)) c.as_slice-2.ensures.value c.first_beside-self.ensures.begun) is
    (c.first_beside-self.ensures.beside x (subst (λ (ys : List Given). slice_get ys n ≡ Some x) (sym c.as_slice-2.ensures.value) is)))

pub returns-then-self-len-clause-queue : goal.returns-then-self-len-clause-queue
returns-then-self-len-clause-queue c = record {
  front = subst (λ (ys : List Given). c.first_open-self.result ≤ length ys) c.as_slice.ensures.value c.first_open-self.ensures.end;
  over = subst (λ (ys : List Given). All (λ x. is_over (λ line. is_begun line (seen c.args.world.now).history) (λ line. has_line line c.args.ended.now) x ≡ true) (take c.first_open-self.result ys)) c.as_slice.ensures.value c.first_open-self.ensures.over;
  next = subst (λ (ys : List Given). c.first_beside-self.result ≤ length ys) c.as_slice-2.ensures.value c.first_beside-self.ensures.end;
  passed = subst (λ (ys : List Given). All (λ x. may_start_beside (λ line. is_begun line (seen c.args.world.now).history) x ≡ false) (take c.first_beside-self.result ys)) c.as_slice-2.ensures.value c.first_beside-self.ensures.begun;
}

pub returns-else-self-len-clause-earliest : goal.returns-else-self-len-clause-earliest
returns-else-self-len-clause-earliest c =
    let xs = c.args.self.now.commands.items in
    let n = c.first_beside-self.result in
    let past : length xs ≤ n = subst (λ m. m ≤ n) (c.len.ensures ∙ sym c.as_slice-2.ensures.len ∙ ap length c.as_slice-2.ensures.value) c.if-self-len.false in
    let is : slice_get xs c.first_open-self.result ≡ Some c.in_ok-first.first.now = found_there _ xs c.first_open-self.result c.in_ok-first.first.now c.deref.ensures.value c.in_ok-first.ensures.lookup.0 c.in_ok-first.ensures.lookup.1 in
    sym (earliest_open (λ line. is_begun line (seen c.args.world.now).history) (λ line. has_line line c.args.ended.now) c.first_open-self.result xs c.in_ok-first.first.now
    (subst (λ (ys : List Given). All (λ x. is_over (λ line. is_begun line (seen c.args.world.now).history) (λ line. has_line line c.args.ended.now) x ≡ true) (take c.first_open-self.result ys)) c.as_slice.ensures.value c.first_open-self.ensures.over) is
    (c.first_open-self.ensures.open c.in_ok-first.first.now (subst (λ (ys : List Given). slice_get ys c.first_open-self.result ≡ Some c.in_ok-first.first.now) (sym c.as_slice.ensures.value) is))
    (sym c.if-not-has_begun.ensures.begun)
    ∙ none_beside (λ line. is_begun line (seen c.args.world.now).history) (λ line. has_line line c.args.ended.now) n xs
    (subst (λ (ys : List Given). All (λ x. may_start_beside (λ line. is_begun line (seen c.args.world.now).history) x ≡ false) (take n ys)) c.as_slice-2.ensures.value c.first_beside-self.ensures.begun)
    (slice_get_past xs n past))

pub returns-else-self-len-clause-queue : goal.returns-else-self-len-clause-queue
returns-else-self-len-clause-queue c = record {
  front = subst (λ (ys : List Given). c.first_open-self.result ≤ length ys) c.as_slice.ensures.value c.first_open-self.ensures.end;
  over = subst (λ (ys : List Given). All (λ x. is_over (λ line. is_begun line (seen c.args.world.now).history) (λ line. has_line line c.args.ended.now) x ≡ true) (take c.first_open-self.result ys)) c.as_slice.ensures.value c.first_open-self.ensures.over;
  next = subst (λ (ys : List Given). c.first_beside-self.result ≤ length ys) c.as_slice-2.ensures.value c.first_beside-self.ensures.end;
  passed = subst (λ (ys : List Given). All (λ x. may_start_beside (λ line. is_begun line (seen c.args.world.now).history) x ≡ false) (take c.first_beside-self.result ys)) c.as_slice-2.ensures.value c.first_beside-self.ensures.begun;
}
