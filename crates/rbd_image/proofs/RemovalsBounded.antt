-- How many operations a removal has.
use Rattle.std.proofs.Common.{◌≡◌, ℕ, zero, suc, ◌+◌, ◌≤◌, Bool, true, false, cond, List, [], ◌∷◌, ◌++◌, length, map, Option, Some, None, refl, sym, subst, arith}
use Rattle.std.proofs.lemmas.List.{length-append, length-map}
use Rattle.rbd_commands.specs.declared.refusal.Refusal.{Refusal}
use Rattle.rbd_commands.specs.declared.refusal.Refusal.TheVariants as refusal
use Rattle.rbd_kinds.specs.declared.answer.Answer.{Answer}
use Rattle.rbd_kinds.specs.declared.answer.Answer.TheVariants as answer
use Rattle.rbd_kinds.specs.declared.header.HeaderView.{HeaderView}
use Rattle.rbd_kinds.specs.declared.header.ParentLink.{ParentLink}
use Rattle.rbd_kinds.specs.declared.header.SnapView.{SnapView}
use Rattle.rbd_kinds.specs.declared.id.SiteId.{SiteId}
use Rattle.rbd_kinds.specs.declared.machine.Fed.{Fed}
use Rattle.rbd_kinds.specs.declared.machine.Fed.TheVariants as fed
use Rattle.rbd_kinds.specs.declared.map_op.MapOp.TheVariants as states
use Rattle.rbd_kinds.specs.declared.operation.Op.{Op}
use Rattle.rbd_kinds.specs.declared.operation.Op.TheVariants as op
use Rattle.rbd_kinds.specs.declared.reply.Reply.TheVariants as reply
use Rattle.rbd_machine.specs.Path.{Answered, IsBounded, IsWalk}
use Rattle.rbd_machine.specs.Plan.{Plan, Ask, Await, Note, Return, Goto, past_label}
use Rattle.rbd_machine.specs.Steps.{non_primary, not_there, on_bits, on_header, on_id, owned, refused, unless}
use Rattle.rbd_machine.proofs.Bounds.{bounded_not_there}
use Rattle.rbd_machine.proofs.Lawful.{or_else_none}
use Rattle.rbd_machine.proofs.Settled.{settled_goto}
use Rattle.rbd_meaning.specs.Removals.{image_removal_refuses, link_of, may_be_gone, removal, removing_journal, removing_map_of, removing_object, snaps_refuse, unlinking, used_objects, watchers_refuse}
use Rattle.rbd_image.specs.Remove.{holding_it, joining_its_line, looked_at_it, on_gone, on_watchers, removal_plan, remove_each, remove_image, remove_owned, unless_watched}
use Rattle.rbd_image.specs.Told.{objects_by_bits, objects_told}

-- ---- one operation after another

bounded_on_gone : (o : Op) (next : Plan) (n : ℕ) → IsBounded next n → (a : Answer) → IsBounded (on_gone o next a) n
bounded_on_gone o next n b answer.Done = b
bounded_on_gone o next n b answer.Absent = go (may_be_gone o)
  where
    go : (gone : Bool) → IsBounded (cond gone next (refused refusal.NoImage)) n
    go true = b
    go false = tt
bounded_on_gone o next n b a = bounded_not_there a n

pub bounded_each : (site : SiteId) (ops : List Op) (next : Plan) (n : ℕ) → IsBounded next n → IsBounded (remove_each site ops next) (n + length ops)
bounded_each site [] next n b = let same : n ≡ n + 0 = omega arith in subst (IsBounded next) same b
bounded_each site (o ∷ ops) next n b =
    let same : suc (n + length ops) ≡ n + suc (length ops) = omega arith in
    subst (IsBounded (remove_each site (o ∷ ops) next)) same (bounded_on_gone o (remove_each site ops next) (n + length ops) (bounded_each site ops next n b))

-- ---- all that an image is

one_link : (image : ℕ) (link : Option ParentLink) → length (unlinking image link) ≤ 1
one_link image None = omega arith
one_link image (Some link) = omega arith

one_journal : (image : ℕ) (journal : Bool) → length (removing_journal image journal) ≤ 1
one_journal image false = omega arith
one_journal image true = omega arith

pub few_removals : (image : ℕ) (h : HeaderView) (bits : List ℕ) → length (removal image h bits) ≤ 5 + length h.snaps + length (used_objects bits)
few_removals image h bits =
    let links = unlinking image (link_of h) in
    let objects = map (removing_object image) (used_objects bits) in
    let maps = map (removing_map_of image) h.snaps in
    let journals = removing_journal image h.journal in
    let one = one_link image (link_of h) in
    let journal = one_journal image h.journal in
    let behind_head = op.Map image (states.Remove None) ∷ (maps ++ journals) in
    let all : length (removal image h bits) ≡ 2 + length (links ++ (objects ++ behind_head)) = omega arith in
    let behind = length-append links (objects ++ behind_head) in
    let then = length-append objects behind_head in
    let head : length behind_head ≡ 1 + length (maps ++ journals) = omega arith in
    let last = length-append maps journals in
    let used = length-map (used_objects bits) (removing_object image) in
    let snaps = length-map h.snaps (removing_map_of image) in
    omega (arith, all, one, journal, behind, then, head, last, used, snaps)

-- ---- by what is told

-- It has at most n operations, and one for each object in use by the bits that it is told.
abbrev IsWithin : Plan → (n : ℕ) → Type 0
IsWithin (Ask site why o next) zero = ⊥
IsWithin (Ask site why o next) (suc n) = (a : Answer) → IsWithin (next a) (n + objects_by_bits a)
IsWithin (Await wait next) n = IsWithin next n
IsWithin (Note site image event next) n = IsWithin next n
IsWithin (Return reply) n = Unit {0}
IsWithin (Goto label) n = Unit {0}

within_more : (plan : Plan) (n m : ℕ) → n ≤ m → IsWithin plan n → IsWithin plan m
within_more (Ask site why o next) zero m most within = absurd within
within_more (Ask site why o next) (suc n) zero most within = absurd (let none : suc n ≤ zero = most in omega arith)
within_more (Ask site why o next) (suc n) (suc m) most within = λ a. within_more (next a) (n + objects_by_bits a) (m + objects_by_bits a) (omega arith) (within a)
within_more (Await wait next) n m most within = within_more next n m most within
within_more (Note site image event next) n m most within = within_more next n m most within
within_more (Return reply) n m most within = tt
within_more (Goto label) n m most within = tt

within_settled : (plan : Plan) (n : ℕ) → IsWithin plan n → IsWithin (past_label Goto plan) n
within_settled plan n within = subst (λ p. IsWithin p n) (sym (settled_goto plan)) within

within_walk : (feds : List Fed) (plan : Plan) (n : ℕ) (steps : List Answered) (last : Plan) → IsWithin plan n → IsWalk Goto plan feds steps last → length steps ≤ n + objects_told steps
within_walk [] plan n steps last within walk = subst (λ s. length s ≤ n + objects_told s) (sym walk.0) (omega arith)
within_walk (fed.Answer a ∷ more) (Ask site why o next) zero steps last within walk = absurd within
within_walk (fed.Answer a ∷ more) (Ask site why o next) (suc n) steps last within (first, walk) =
    let rest = within_walk more (past_label Goto (next a)) (n + objects_by_bits a) first.rest last (within_settled (next a) (n + objects_by_bits a) (within a)) walk in
    let short : length first.rest ≤ n + objects_by_bits a + objects_told first.rest = rest in
    let all : suc (length first.rest) ≤ suc n + (objects_by_bits a + objects_told first.rest) = omega arith in
    subst (λ s. length s ≤ suc n + objects_told s) (sym first.is) all
within_walk (fed.Passed ∷ more) (Ask site why o next) n steps last within walk = absurd walk
within_walk (fed.Passed ∷ more) (Await wait next) n steps last within walk = within_walk more (past_label Goto next) n steps last (within_settled next n within) walk
within_walk (fed.Answer a ∷ more) (Await wait next) n steps last within walk = absurd walk
within_walk (fed.Passed ∷ more) (Note site image event next) n steps last within walk = within_walk more (past_label Goto next) n steps last (within_settled next n within) walk
within_walk (fed.Answer a ∷ more) (Note site image event next) n steps last within walk = absurd walk
within_walk (f ∷ more) (Return reply) n steps last within walk = absurd walk
within_walk (f ∷ more) (Goto label) n steps last within walk = absurd walk

-- ---- steps

within_not_there : (a : Answer) (n : ℕ) → IsWithin (not_there a) n
within_not_there answer.Fenced n = tt
within_not_there _ n = tt

-- whatever the answer tells more
within_told : (next : Plan) (n : ℕ) (a : Answer) → IsWithin next n → IsWithin next (n + objects_by_bits a)
within_told next n a within = within_more next n (n + objects_by_bits a) (omega arith) within

within_on_id : (next : ℕ → Plan) (n : ℕ) → ((image : ℕ) → IsWithin (next image) n) → (a : Answer) → IsWithin (on_id next a) (n + objects_by_bits a)
within_on_id next n within (answer.Id image) = within_told (next image) n (answer.Id image) (within image)
within_on_id next n within a = within_not_there a (n + objects_by_bits a)

within_on_header : (next : HeaderView → Plan) (n : ℕ) → ((h : HeaderView) → IsWithin (next h) n) → (a : Answer) → IsWithin (on_header next a) (n + objects_by_bits a)
within_on_header next n within (answer.Header h) = within_told (next h) n (answer.Header h) (within h)
within_on_header next n within a = within_not_there a (n + objects_by_bits a)

within_unless : (r : Option Refusal) (next : Plan) (n : ℕ) → (r ≡ None → IsWithin next n) → IsWithin (unless r next) n
within_unless None next n within = within refl
within_unless (Some r) next n within = tt

within_on_watchers : (session : ℕ) (next : Plan) (n : ℕ) → IsWithin next n → (a : Answer) → IsWithin (on_watchers session next a) (n + objects_by_bits a)
within_on_watchers session next n within (answer.Instances watchers) =
    within_unless (watchers_refuse session watchers) next (n + 0) (λ may. within_told next n (answer.Instances watchers) within)
within_on_watchers session next n within a = within_not_there a (n + objects_by_bits a)

within_on_gone : (o : Op) (next : Plan) (n : ℕ) → IsWithin next n → (a : Answer) → IsWithin (on_gone o next a) (n + objects_by_bits a)
within_on_gone o next n within answer.Done = within_told next n answer.Done within
within_on_gone o next n within answer.Absent = go (may_be_gone o)
  where
    go : (gone : Bool) → IsWithin (cond gone next (refused refusal.NoImage)) (n + 0)
    go true = within_told next n answer.Absent within
    go false = tt
within_on_gone o next n within a = within_not_there a (n + objects_by_bits a)

within_each : (ops : List Op) (site : SiteId) (next : Plan) (n : ℕ) → IsWithin next n → IsWithin (remove_each site ops next) (n + length ops)
within_each [] site next n within = within_more next n (n + 0) (omega arith) within
within_each (o ∷ ops) site next n within =
    let same : suc (n + length ops) ≡ n + suc (length ops) = omega arith in
    subst (IsWithin (remove_each site (o ∷ ops) next)) same (within_on_gone o (remove_each site ops next) (n + length ops) (within_each ops site next n within))

within_on_bits : (site : SiteId) (image : ℕ) (h : HeaderView) (next : Plan) (n : ℕ) → IsWithin next n → (a : Answer)
    → IsWithin (on_bits (λ bits. remove_each site (removal image h bits) next) a) (n + 5 + length h.snaps + objects_by_bits a)
within_on_bits site image h next n within (answer.Bits bits) =
    let few = few_removals image h bits in
    within_more (remove_each site (removal image h bits) next) (n + length (removal image h bits)) (n + 5 + length h.snaps + length (used_objects bits)) (omega (arith, few))
    (within_each (removal image h bits) site next n within)
within_on_bits site image h next n within a = within_not_there a (n + 5 + length h.snaps + objects_by_bits a)

within_remove : (site : SiteId) (image : ℕ) (h : HeaderView) (next : Plan) (n : ℕ) → IsWithin next n → IsWithin (removal_plan site image h next) (suc (n + 5 + length h.snaps))
within_remove site image h next n within = within_on_bits site image h next n within

pub part_is_short : (site : SiteId) (image : ℕ) (h : HeaderView) (feds : List Fed) (steps : List Answered) (last : Plan)
    → IsWalk Goto (removal_plan site image h (Return reply.Done)) feds steps last → length steps ≤ 6 + length h.snaps + objects_told steps
part_is_short site image h feds steps last walk =
    let short : length steps ≤ suc (0 + 5 + length h.snaps) + objects_told steps = within_walk feds (removal_plan site image h (Return reply.Done)) (suc (0 + 5 + length h.snaps)) steps last (within_remove site image h (Return reply.Done) 0 tt) walk in
    omega (arith, short)

-- ---- the command

no_snaps : (snaps : List SnapView) → snaps_refuse snaps ≡ None → length snaps ≤ 0
no_snaps [] none = omega arith
no_snaps (s ∷ snaps) none = cc

module _ (site : SiteId) (session : ℕ) where
  within_owned : (image : ℕ) (h : HeaderView) → image_removal_refuses h ≡ None → IsWithin (remove_owned site session image h) 7
  within_owned image h may =
      let none = no_snaps h.snaps (or_else_none (non_primary h.role) (snaps_refuse h.snaps) may) in
      let removing = removal_plan site image h (Return reply.Done) in
      within_on_watchers session removing 6 (within_more removing (suc (0 + 5 + length h.snaps)) 6 (omega (arith, none)) (within_remove site image h (Return reply.Done) 0 tt))

  within_image : (a : Answer) → IsWithin (on_id (joining_its_line site session) a) (10 + objects_by_bits a)
  within_image =
      within_on_id (joining_its_line site session) 10 (λ image.
      within_on_header (looked_at_it site session image) 9 (λ h.
      within_unless (image_removal_refuses h) (unless_watched site session image (holding_it site session image)) 9 (λ may_wait.
      within_on_watchers session (holding_it site session image) 8
      (within_on_header (owned image_removal_refuses (remove_owned site session) image) 7 (λ own.
      within_unless (image_removal_refuses own) (remove_owned site session image own) 7 (λ may. within_owned image own may))))))

  pub request_is_short : (name : List ℕ) (feds : List Fed) (steps : List Answered) (last : Plan) → IsWalk Goto (remove_image site session name) feds steps last → length steps ≤ 11 + objects_told steps
  request_is_short name feds steps last walk = within_walk feds (remove_image site session name) 11 steps last within_image walk
