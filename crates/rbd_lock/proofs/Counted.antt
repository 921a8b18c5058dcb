-- How many steps of a kind a way to a lock has.
use Rattle.std.proofs.Common.{◌≡◌, ℕ, ◌+◌, ◌*◌, ◌≤◌, Bool, true, false, cond, List, [], ◌∷◌, sym, ap, ◌∙◌, subst, mul-add, arith}
use Rattle.std.specs.Prelude.{count_by}
use Rattle.std.proofs.lemmas.List.Sums.{sum_by-cons}
use Rattle.rbd_kinds.specs.declared.answer.Answer.{Answer}
use Rattle.rbd_kinds.specs.declared.answer.Answer.TheVariants as answer
use Rattle.rbd_kinds.specs.declared.id.Instance.{Instance}
use Rattle.rbd_kinds.specs.declared.id.SiteId.{SiteId}
use Rattle.rbd_kinds.specs.declared.machine.Fed.{Fed}
use Rattle.rbd_kinds.specs.declared.machine.Fed.TheVariants as fed
use Rattle.rbd_kinds.specs.declared.operation.Op.{Op}
use Rattle.rbd_kinds.specs.declared.reply.Reply.TheVariants as reply
use Rattle.rbd_machine.specs.Path.{Answered, IsWalk}
use Rattle.rbd_machine.specs.Plan.{Plan, Ask, Await, Note, Return, Goto, past_label}
use Rattle.rbd_machine.specs.Steps.{not_there, on_done}
use Rattle.rbd_lock.specs.Acquire.{acquire, again, asking, breaking, fencing, looking, taking, watching, lock_labels, on_taken, on_watchers, on_broken}
use Rattle.rbd_lock.specs.Steps.{watch, lock_take, lock_break, watchers_get, block_add, request_lock, is_instance_among}

abbrev pub as_number : Bool → ℕ
as_number b = cond b 1 0

-- Steps that count, and steps each of which makes room for as many more.
module _ (counts : Op → Answer → Bool) (makes : Op → Answer → Bool) (room : ℕ) where
  abbrev counted : List Answered → ℕ
  counted steps = count_by (λ s. counts s.op s.answer) steps

  abbrev made : List Answered → ℕ
  made steps = count_by (λ s. makes s.op s.answer) steps

  -- An answer leaves room for so many.
  abbrev Leaves : (n : ℕ) → Op → Answer → (left : ℕ) → Type 0
  Leaves n o a left = as_number (counts o a) + left ≤ n + room * as_number (makes o a)

  -- No more steps count than there is room for, whatever they are answered. At a label so much room
  -- is left again.
  abbrev pub IsWithin : (at_label n : ℕ) → Plan → Type 0
  IsWithin at_label n (Ask site why o next) = (a : Answer) → (left : ℕ) × Leaves n o a left × IsWithin at_label left (next a)
  IsWithin at_label n (Await wait next) = ⊥
  IsWithin at_label n (Note s i event next) = ⊥
  IsWithin at_label n (Return r) = Unit {0}
  IsWithin at_label n (Goto label) = at_label ≤ n

  one_more : (n left : ℕ) (s : Answered) (rest : List Answered) → Leaves n s.op s.answer left → counted rest ≤ left + room * made rest
      → counted (s ∷ rest) ≤ n + room * made (s ∷ rest)
  one_more n left s rest leaves more =
      let one : counted (s ∷ rest) ≡ as_number (counts s.op s.answer) + counted rest = sum_by-cons (λ (s : Answered). as_number (counts s.op s.answer)) s rest in
      let room_made : made (s ∷ rest) ≡ as_number (makes s.op s.answer) + made rest = sum_by-cons (λ (s : Answered). as_number (makes s.op s.answer)) s rest in
      let all : room * made (s ∷ rest) ≡ room * as_number (makes s.op s.answer) + room * made rest =
      ap (λ m. room * m) room_made ∙ mul-add room (as_number (makes s.op s.answer)) (made rest) in
      omega (arith, one, all, leaves, more)

  module _ (site : SiteId) (image : ℕ) (at_label : ℕ) (label_within : IsWithin at_label at_label (taking site image (Return reply.Done))) where
    -- more room does no harm
    more_room : (n m : ℕ) (plan : Plan) → n ≤ m → IsWithin at_label n plan → IsWithin at_label m plan
    more_room n m (Ask s why o next) most within = λ a. let w = within a in let leaves = w.1 in (w.0, omega (arith, most, leaves), w.2)
    more_room n m (Await wait next) most within = within
    more_room n m (Note s i event next) most within = within
    more_room n m (Return r) most within = tt
    more_room n m (Goto label) most within = omega (arith, most, within)

    within_settled : (n : ℕ) (plan : Plan) → IsWithin at_label n plan → IsWithin at_label n (past_label (lock_labels site image) plan)
    within_settled n (Ask s why o next) within = within
    within_settled n (Await wait next) within = within
    within_settled n (Note s i event next) within = within
    within_settled n (Return r) within = within
    within_settled n (Goto label) within = more_room at_label n (taking site image (Return reply.Done)) within label_within

    pub within_walk : (feds : List Fed) (n : ℕ) (plan : Plan) (steps : List Answered) (last : Plan) → IsWithin at_label n plan → IsWalk (lock_labels site image) plan feds steps last
        → counted steps ≤ n + room * made steps
    within_walk [] n plan steps last within walk = subst (λ s. counted s ≤ n + room * made s) (sym walk.0) (omega arith)
    within_walk (fed.Answer a ∷ more) n (Ask s why o next) steps last within (first, walk) =
        let w = within a in
        subst (λ all. counted all ≤ n + room * made all) (sym first.is)
        (one_more n w.0 (record { site = s; op = o; answer = a }) first.rest w.1
        (within_walk more w.0 (past_label (lock_labels site image) (next a)) first.rest last (within_settled w.0 (next a) w.2) walk))
    within_walk (fed.Passed ∷ more) n (Ask s why o next) steps last within walk = absurd walk
    within_walk (f ∷ more) n (Await wait next) steps last within walk = absurd within
    within_walk (f ∷ more) n (Note s i event next) steps last within walk = absurd within
    within_walk (f ∷ more) n (Return r) steps last within walk = absurd walk
    within_walk (f ∷ more) n (Goto label) steps last within walk = absurd walk

  -- ---- the steps of a way

  within_not_there : (at_label n : ℕ) (a : Answer) → IsWithin at_label n (not_there a)
  within_not_there at_label n answer.Fenced = tt
  within_not_there at_label n _ = tt

  -- What each operation counts, where so much room is left at the lock, at the watch, where the
  -- lock was found to be held, and behind a fence.
  pub record Fits (image : ℕ) (lock first look behind : ℕ) : Type 0 where
    pub watched : (a : Answer) → as_number (counts (watch image) a) + lock ≤ first
    pub took : (a : Answer) → as_number (counts (lock_take image) a) ≤ lock
    pub found : (owner : Instance) → as_number (counts (lock_take image) (answer.Held owner)) + look ≤ lock
    pub looked : (a : Answer) → as_number (counts (watchers_get image) a) ≤ look
    pub told : (watchers : List Instance) → as_number (counts (watchers_get image) (answer.Instances watchers)) ≡ 0
    pub asked : (a : Answer) → as_number (counts (request_lock image) a) ≤ look + room * as_number (makes (request_lock image) a)
    pub answered : as_number (counts (request_lock image) answer.Done) + lock ≤ look + room * as_number (makes (request_lock image) answer.Done)
    pub fenced : (owner : Instance) (a : Answer) → as_number (counts (block_add owner) a) ≤ look + room * as_number (makes (block_add owner) a)
    pub shut_out : (owner : Instance) → as_number (counts (block_add owner) answer.Done) + behind ≤ look + room * as_number (makes (block_add owner) answer.Done)
    pub broken : (owner : Instance) (a : Answer) → as_number (counts (lock_break image owner) a) + lock ≤ behind

  module _ (site : SiteId) (image lock first look behind : ℕ) (fits : Fits image lock first look behind) where
    -- an answer, what it leaves, and that what comes next keeps to it
    abbrev Goes : (n : ℕ) → Op → Answer → Plan → Type 0
    Goes n o a next = (left : ℕ) × Leaves n o a left × IsWithin lock left next

    within_breaking : (owner : Instance) → IsWithin lock behind (breaking site image owner)
    within_breaking owner = on
      where
        on : (a : Answer) → Goes behind (lock_break image owner) a (on_broken a)
        on answer.Done = (lock, omega (arith, fits.broken owner answer.Done), omega arith)
        on answer.Changed = (lock, omega (arith, fits.broken owner answer.Changed), omega arith)
        on a = (0, omega (arith, fits.broken owner a), within_not_there lock 0 a)

    within_fencing : (owner : Instance) → IsWithin lock look (fencing site image owner)
    within_fencing owner = on
      where
        on : (a : Answer) → Goes look (block_add owner) a (on_done (breaking site image owner) a)
        on answer.Done = (behind, fits.shut_out owner, within_breaking owner)
        on a = (0, omega (arith, fits.fenced owner a), within_not_there lock 0 a)

    within_asking : IsWithin lock look (asking site image)
    within_asking = on
      where
        on : (a : Answer) → Goes look (request_lock image) a (on_done again a)
        on answer.Done = (lock, fits.answered, omega arith)
        on a = (0, omega (arith, fits.asked a), within_not_there lock 0 a)

    within_looking : (owner : Instance) → IsWithin lock look (looking site image owner)
    within_looking owner = on
      where
        by_look : (b : Bool) → IsWithin lock look (cond b (asking site image) (fencing site image owner))
        by_look true = within_asking
        by_look false = within_fencing owner

        on : (a : Answer) → Goes look (watchers_get image) a (on_watchers site image owner a)
        on (answer.Instances watchers) = (look, omega (arith, fits.told watchers), by_look (is_instance_among watchers owner))
        on a = (0, omega (arith, fits.looked a), within_not_there lock 0 a)

    pub within_taking : IsWithin lock lock (taking site image (Return reply.Done))
    within_taking = on
      where
        on : (a : Answer) → Goes lock (lock_take image) a (on_taken site image (Return reply.Done) a)
        on answer.Done = (0, omega (arith, fits.took answer.Done), tt)
        on (answer.Held owner) = (look, omega (arith, fits.found owner), within_looking owner)
        on a = (0, omega (arith, fits.took a), within_not_there lock 0 a)

    within_watching : IsWithin lock first (watching site image (Return reply.Done))
    within_watching = on
      where
        on : (a : Answer) → Goes first (watch image) a (on_done (taking site image (Return reply.Done)) a)
        on answer.Done = (lock, omega (arith, fits.watched answer.Done), within_taking)
        on a = (0, omega (arith, fits.watched a), within_not_there lock 0 a)

    -- so much room there is at its beginning
    abbrev pub at_first : (watched : Bool) → ℕ
    at_first true = lock
    at_first false = first

    within_acquire : (watched : Bool) → IsWithin lock (at_first watched) (acquire site image watched (Return reply.Done))
    within_acquire true = within_taking
    within_acquire false = within_watching

    pub way_counted : (watched : Bool) (feds : List Fed) (steps : List Answered) (last : Plan)
        → IsWalk (lock_labels site image) (acquire site image watched (Return reply.Done)) feds steps last → counted steps ≤ at_first watched + room * made steps
    way_counted watched feds steps last walk =
        within_walk site image lock within_taking feds (at_first watched) (acquire site image watched (Return reply.Done)) steps last (within_acquire watched) walk
