-- The bounds of ways to a lock.
use Rattle.std.proofs.Common.{◌≡◌, ℕ, suc, ◌+◌, ◌*◌, ◌≤◌, Bool, true, false, cond, List, refl, subst, arith}
use Rattle.std.specs.Prelude.{count_by, ◌||◌, not}
use Rattle.rbd_kinds.specs.declared.answer.Answer.{Answer}
use Rattle.rbd_kinds.specs.declared.answer.Answer.TheVariants as answer
use Rattle.rbd_kinds.specs.declared.id.Instance.{Instance}
use Rattle.rbd_kinds.specs.declared.id.SiteId.{SiteId}
use Rattle.rbd_kinds.specs.declared.machine.Fed.{Fed}
use Rattle.rbd_kinds.specs.declared.operation.Op.{Op}
use Rattle.rbd_kinds.specs.OperationKind.{kind_of}
use Rattle.rbd_machine.specs.Path.{Answered, IsBounded}
use Rattle.rbd_machine.specs.Plan.{Plan}
use Rattle.rbd_machine.proofs.Bounds.{bounded_not_there, bounded_on_done, bounded_more}
use Rattle.rbd_lock.specs.Acquire.{acquire, asking, breaking, fencing, looking, taking, watching, IsWay, on_taken, on_watchers, on_broken}
use Rattle.rbd_lock.specs.Counts.{first_watch, watches_image, is_lock_take, breaks, has_taken, has_asked, has_fenced, is_break, is_counted, is_fence, is_round, is_take_step, is_taken, is_watch}
use Rattle.rbd_lock.specs.Steps.{watch, lock_take, lock_break, watchers_get, block_add, request_lock, is_instance_among}
use Rattle.rbd_lock.specs.Waiting.{asks_again}
use Rattle.rbd_lock.proofs.Counted.{as_number, Fits, way_counted}

-- ---- what counts, and what makes room for more

abbrev all : Op → Answer → Bool
all o a = not (asks_again (kind_of o) a)

abbrev watch_of : Op → Answer → Bool
watch_of o a = watches_image o

abbrev take_of : Op → Answer → Bool
take_of o a = is_lock_take o

abbrev break_of : Op → Answer → Bool
break_of o a = breaks o

abbrev round_of : Op → Answer → Bool
round_of o a = has_asked o a || has_fenced o a

abbrev nothing : Op → Answer → Bool
nothing o a = false

-- where the operation alone tells whether a step counts, and looking, asking and fencing never do
fits_by_operation : (counts : Op → Bool) (makes : Op → Answer → Bool) (room image lock first look behind : ℕ)
    → as_number (counts (watch image)) + lock ≤ first → as_number (counts (lock_take image)) + look ≤ lock
    → counts (watchers_get image) ≡ false → counts (request_lock image) ≡ false → ((owner : Instance) → counts (block_add owner) ≡ false)
    → lock ≤ look + room * as_number (makes (request_lock image) answer.Done)
    → ((owner : Instance) → behind ≤ look + room * as_number (makes (block_add owner) answer.Done))
    → ((owner : Instance) → as_number (counts (lock_break image owner)) + lock ≤ behind)
    → Fits (λ o a. counts o) makes room image lock first look behind
fits_by_operation counts makes room image lock first look behind watched took looked asked fenced answered shut_out broken = record {
  watched = λ a. watched;
  took = λ a. omega (arith, took);
  found = λ owner. took;
  looked = λ a. rw looked (omega arith);
  told = λ watchers. rw looked refl;
  asked = λ a. rw asked (omega arith);
  answered = rw asked (omega (arith, answered));
  fenced = λ owner a. rw (fenced owner) (omega arith);
  shut_out = λ owner. rw (fenced owner) (omega (arith, shut_out owner));
  broken = λ owner a. broken owner;
}

-- one step counts one at most
at_most_one : (b : Bool) → as_number b ≤ 1
at_most_one true = omega arith
at_most_one false = omega arith

fits_all : (image : ℕ) → Fits all has_fenced 2 image 1 2 1 2
fits_all image = record {
  watched = λ a. omega (arith, at_most_one (all (watch image) a));
  took = λ a. at_most_one (all (lock_take image) a);
  found = λ owner. omega arith;
  looked = λ a. at_most_one (all (watchers_get image) a);
  told = λ watchers. refl;
  asked = λ a. omega (arith, at_most_one (all (request_lock image) a));
  answered = omega arith;
  fenced = λ owner a. omega (arith, at_most_one (all (block_add owner) a));
  shut_out = λ owner. omega arith;
  broken = λ owner a. omega (arith, at_most_one (all (lock_break image owner) a));
}

fits_watch : (image : ℕ) → Fits watch_of nothing 0 image 0 1 0 0
fits_watch image =
    fits_by_operation watches_image nothing 0 image 0 1 0 0 (omega arith) (omega arith) refl refl (λ owner. refl) (omega arith) (λ owner. omega arith) (λ owner. omega arith)

fits_break : (image : ℕ) → Fits break_of has_fenced 1 image 0 0 0 1
fits_break image =
    fits_by_operation breaks has_fenced 1 image 0 0 0 1 (omega arith) (omega arith) refl refl (λ owner. refl) (omega arith) (λ owner. omega arith) (λ owner. omega arith)

fits_taken : (image : ℕ) → Fits has_taken nothing 0 image 1 1 1 1
fits_taken image = record {
  watched = λ a. omega arith;
  took = λ a. at_most_one (has_taken (lock_take image) a);
  found = λ owner. omega arith;
  looked = λ a. omega arith;
  told = λ watchers. refl;
  asked = λ a. omega arith;
  answered = omega arith;
  fenced = λ owner a. omega arith;
  shut_out = λ owner. omega arith;
  broken = λ owner a. omega arith;
}

fits_take : (image : ℕ) → Fits take_of round_of 1 image 1 1 0 1
fits_take image =
    fits_by_operation is_lock_take round_of 1 image 1 1 0 1 (omega arith) (omega arith) refl refl (λ owner. refl) (omega arith) (λ owner. omega arith) (λ owner. omega arith)

module _ (site : SiteId) (image : ℕ) (feds : List Fed) (steps : List Answered) (last : Plan) where
  pub all_bounded : (watched : Bool) → IsWay site image watched feds steps last → count_by is_counted steps ≤ first_watch watched + 1 + 2 * count_by is_fence steps
  all_bounded true way = let most = way_counted all has_fenced 2 site image 1 2 1 2 (fits_all image) true feds steps last way in omega (arith, most)
  all_bounded false way = let most = way_counted all has_fenced 2 site image 1 2 1 2 (fits_all image) false feds steps last way in omega (arith, most)

  pub watch_bounded : (watched : Bool) → IsWay site image watched feds steps last → count_by is_watch steps ≤ first_watch watched
  watch_bounded true way = let most = way_counted watch_of nothing 0 site image 0 1 0 0 (fits_watch image) true feds steps last way in omega (arith, most)
  watch_bounded false way = let most = way_counted watch_of nothing 0 site image 0 1 0 0 (fits_watch image) false feds steps last way in omega (arith, most)

  pub break_bounded : (watched : Bool) → IsWay site image watched feds steps last → count_by is_break steps ≤ count_by is_fence steps
  break_bounded true way = let most = way_counted break_of has_fenced 1 site image 0 0 0 1 (fits_break image) true feds steps last way in omega (arith, most)
  break_bounded false way = let most = way_counted break_of has_fenced 1 site image 0 0 0 1 (fits_break image) false feds steps last way in omega (arith, most)

  pub taken_bounded : (watched : Bool) → IsWay site image watched feds steps last → count_by is_taken steps ≤ 1
  taken_bounded true way = let most = way_counted has_taken nothing 0 site image 1 1 1 1 (fits_taken image) true feds steps last way in omega (arith, most)
  taken_bounded false way = let most = way_counted has_taken nothing 0 site image 1 1 1 1 (fits_taken image) false feds steps last way in omega (arith, most)

  pub take_bounded : (watched : Bool) → IsWay site image watched feds steps last → count_by is_take_step steps ≤ 1 + count_by is_round steps
  take_bounded true way = let most = way_counted take_of round_of 1 site image 1 1 0 1 (fits_take image) true feds steps last way in omega (arith, most)
  take_bounded false way = let most = way_counted take_of round_of 1 site image 1 1 0 1 (fits_take image) false feds steps last way in omega (arith, most)

-- ---- of one round

bounded_breaking : (site : SiteId) (image : ℕ) (owner : Instance) → IsBounded (breaking site image owner) 1
bounded_breaking site image owner = on
  where
    on : (a : Answer) → IsBounded (on_broken a) 0
    on answer.Done = tt
    on answer.Changed = tt
    on a = bounded_not_there a 0

bounded_looking : (site : SiteId) (image : ℕ) (owner : Instance) (n : ℕ) → IsBounded (looking site image owner) (n + 3)
bounded_looking site image owner n = bounded_more (looking site image owner) 3 (n + 3) (omega arith) on
  where
    by_look : (b : Bool) → IsBounded (cond b (asking site image) (fencing site image owner)) 2
    by_look true = λ a. bounded_on_done _ 1 tt a
    by_look false = λ a. bounded_on_done (breaking site image owner) 1 (bounded_breaking site image owner) a

    on : (a : Answer) → IsBounded (on_watchers site image owner a) 2
    on (answer.Instances watchers) = by_look (is_instance_among watchers owner)
    on a = bounded_not_there a 2

bounded_round : (site : SiteId) (image : ℕ) (next : Plan) (n : ℕ) → IsBounded next n → IsBounded (taking site image next) (suc (n + 3))
bounded_round site image next n b = on
  where
    on : (a : Answer) → IsBounded (on_taken site image next a) (n + 3)
    on answer.Done = bounded_more next n (n + 3) (omega arith) b
    on (answer.Held owner) = bounded_looking site image owner n
    on a = bounded_not_there a (n + 3)

pub bounded_taking : (site : SiteId) (image : ℕ) (next : Plan) (n : ℕ) → IsBounded next n → IsBounded (taking site image next) (n + 4)
bounded_taking site image next n b = let four : suc (n + 3) ≡ n + 4 = omega arith in subst (IsBounded (taking site image next)) four (bounded_round site image next n b)

bounded_watching : (site : SiteId) (image : ℕ) (next : Plan) (n : ℕ) → IsBounded next n → IsBounded (watching site image next) (suc (n + 4))
bounded_watching site image next n b = bounded_on_done (taking site image next) (n + 4) (bounded_taking site image next n b)

pub bounded_acquire : (site : SiteId) (image : ℕ) (watched : Bool) (next : Plan) (n : ℕ) → IsBounded next n → IsBounded (acquire site image watched next) (n + 5)
bounded_acquire site image true next n b = bounded_more (taking site image next) (n + 4) (n + 5) (omega arith) (bounded_taking site image next n b)
bounded_acquire site image false next n b =
    let five : suc (n + 4) ≡ n + 5 = omega arith in subst (IsBounded (watching site image next)) five (bounded_watching site image next n b)
