-- How many operations a change has by the headers that it is told: step by step, and along a walk.
use Rattle.std.proofs.Common.{◌≡◌, ◌⊎◌, inl, inr, ℕ, ◌+◌, ◌*◌, ◌<◌, ◌≤◌, zero, suc, List, [], ◌∷◌, length, Option, Some, None, ap, sym, subst, arith}
use Rattle.std.proofs.lemmas.Bool.{cases_lt}
use Rattle.rbd_kinds.specs.declared.sharing.Sharing.TheVariants as sharing
use Rattle.rbd_kinds.specs.declared.sharing.Sharing.{Sharing}
use Rattle.rbd_commands.specs.declared.refusal.Refusal.{Refusal}
use Rattle.rbd_kinds.specs.declared.answer.Answer.{Answer}
use Rattle.rbd_kinds.specs.declared.answer.Answer.TheVariants as answer
use Rattle.rbd_kinds.specs.declared.header.HeaderView.{HeaderView}
use Rattle.rbd_kinds.specs.declared.header.SnapView.{SnapView}
use Rattle.rbd_kinds.specs.declared.id.SiteId.{SiteId}
use Rattle.rbd_kinds.specs.declared.machine.Fed.{Fed}
use Rattle.rbd_kinds.specs.declared.machine.Fed.TheVariants as fed
use Rattle.rbd_kinds.specs.Header.{snap_named}
use Rattle.rbd_layout.specs.Pieces.{pieces_of}
use Rattle.rbd_machine.specs.Path.{Answered, IsBounded, IsWalk}
use Rattle.rbd_machine.specs.Plan.{Plan, Ask, Await, Note, Return, Goto, past_label}
use Rattle.rbd_machine.specs.Steps.{applied, on_id, on_header, unless, change_plan, joining, looking, looked, holding, under_lock, owned}
use Rattle.rbd_machine.proofs.Bounds.{bounded_more}
use Rattle.rbd_machine.proofs.Settled.{settled_goto}
use Rattle.rbd_meaning.specs.Resizes.{resize_refuses}
use Rattle.rbd_meaning.specs.Rollbacks.{at_size, rollback_refuses}
use Rattle.rbd_pieces.specs.Shrink.{head_from}
use Rattle.rbd_pieces.specs.Zero.{head_of}
use Rattle.rbd_image.specs.Resize.{set_size, size_change}
use Rattle.rbd_snap.specs.Rollback.{roll_back, roll_back_listed, roll_back_to, rollback}
use Rattle.rbd_image.specs.HeadersTold.{HoldsIfTold, HoldsOfTold}
use Rattle.rbd_snap.proofs.RollbacksBounded.{bounded_back_grow, bounded_back_shrink}
use Rattle.rbd_image.proofs.ResizesBounded.{bounded_set_size_grow, bounded_set_size_shrink}
use Rattle.rbd_catalog.specs.Touched.{by_header, cut_by, most_told, restored_by, restored_to}

-- ---- steps

-- The plan has at most n operations, whatever it is answered, where this holds of each header that
-- it is told.
abbrev AsksIfTold : (holds : HeaderView → Type 0) → Plan → (n : ℕ) → Type 0
AsksIfTold holds (Ask site why op next) zero = ⊥
AsksIfTold holds (Ask site why op next) (suc n) = (a : Answer) → HoldsIfTold holds a → AsksIfTold holds (next a) n
AsksIfTold holds (Await wait next) n = AsksIfTold holds next n
AsksIfTold holds (Note site image event next) n = AsksIfTold holds next n
AsksIfTold holds (Return reply) n = Unit {0}
AsksIfTold holds (Goto label) n = Unit {0}

module _ (holds : HeaderView → Type 0) where
  from_bound : (plan : Plan) (n : ℕ) → IsBounded plan n → AsksIfTold holds plan n
  from_bound (Ask site why op next) zero bounded = absurd bounded
  from_bound (Ask site why op next) (suc n) bounded = λ a told. from_bound (next a) n (bounded a)
  from_bound (Await wait next) n bounded = from_bound next n bounded
  from_bound (Note site image event next) n bounded = from_bound next n bounded
  from_bound (Return reply) n bounded = tt
  from_bound (Goto label) n bounded = tt

  told_id : (next : ℕ → Plan) (n : ℕ) → ((image : ℕ) → AsksIfTold holds (next image) n) → (a : Answer) → AsksIfTold holds (on_id next a) n
  told_id next n few (answer.Id image) = few image
  told_id next n few answer.Fenced = tt
  told_id next n few _ = tt

  told_header : (next : HeaderView → Plan) (n : ℕ) → ((h : HeaderView) → holds h → AsksIfTold holds (next h) n) → (a : Answer) → HoldsIfTold holds a → AsksIfTold holds (on_header next a) n
  told_header next n few (answer.Header h) told = few h told
  told_header next n few answer.Fenced told = tt
  told_header next n few _ told = tt

  told_unless : (r : Option Refusal) (next : Plan) (n : ℕ) → AsksIfTold holds next n → AsksIfTold holds (unless r next) n
  told_unless None next n few = few
  told_unless (Some r) next n few = tt

  module _ (site : SiteId) (refuses : HeaderView → Option Refusal) (act : ℕ → HeaderView → Plan) (n : ℕ) (acts : (image : ℕ) (h : HeaderView) → holds h → IsBounded (act image h) n) where
    told_under_lock : (image : ℕ) → AsksIfTold holds (under_lock site refuses act image) (suc n)
    told_under_lock image = told_header (owned refuses act image) n (λ h told. told_unless (refuses h) (act image h) n (from_bound (act image h) n (acts image h told)))

    told_looking : (image : ℕ) → AsksIfTold holds (looking site refuses act image) (suc (suc n))
    told_looking image = told_header (looked site refuses act image) (suc n) (λ h told. told_unless (refuses h) (holding site refuses act image) (suc n) (told_under_lock image))

    told_change : (name : List ℕ) (sharing : Sharing) → AsksIfTold holds (change_plan site name sharing refuses act) (suc (suc (suc n)))
    told_change name sharing = λ found told. told_id (joining site sharing refuses act) (suc (suc n)) told_looking found

  -- ---- along a walk of a request without labels

  told_walk : (feds : List Fed) (plan : Plan) (n : ℕ) (steps : List Answered) (last : Plan) → AsksIfTold holds plan n → HoldsOfTold holds steps → IsWalk Goto plan feds steps last → length steps ≤ n
  told_walk [] plan n steps last few told (none, same) = let no : length steps ≡ 0 = ap length none in omega arith
  told_walk (fed.Answer a ∷ more) (Ask site why op next) zero steps last few told walk = absurd few
  told_walk (fed.Answer a ∷ more) (Ask site why op next) (suc n) steps last few told (first, walk) =
      let are : HoldsIfTold holds a × HoldsOfTold holds first.rest = subst (HoldsOfTold holds) first.is told in
      let short : length first.rest ≤ n = told_walk more (past_label Goto (next a)) n first.rest last (subst (λ p. AsksIfTold holds p n) (sym (settled_goto (next a))) (few a are.0)) are.1 walk in
      let one_more : length steps ≡ suc (length first.rest) = ap length first.is in
      omega arith
  told_walk (fed.Passed ∷ more) (Ask site why op next) n steps last few told walk = absurd walk
  told_walk (fed.Passed ∷ more) (Await wait next) n steps last few told walk =
      told_walk more (past_label Goto next) n steps last (subst (λ p. AsksIfTold holds p n) (sym (settled_goto next)) few) told walk
  told_walk (fed.Answer a ∷ more) (Await wait next) n steps last few told walk = absurd walk
  told_walk (fed.Passed ∷ more) (Note site image event next) n steps last few told walk =
      told_walk more (past_label Goto next) n steps last (subst (λ p. AsksIfTold holds p n) (sym (settled_goto next)) few) told walk
  told_walk (fed.Answer a ∷ more) (Note site image event next) n steps last few told walk = absurd walk
  told_walk (f ∷ more) (Return reply) n steps last few told walk = absurd walk
  told_walk (f ∷ more) (Goto label) n steps last few told walk = absurd walk

-- ---- no header that was told tells more than the most

module _ (many : HeaderView → ℕ) where
  abbrev IsWithin : (most : ℕ) → HeaderView → Type 0
  IsWithin most h = many h ≤ most

  if_told : (most : ℕ) (a : Answer) → by_header many a ≤ most → HoldsIfTold (IsWithin most) a
  if_told most (answer.Header h) less = less
  if_told most _ less = tt

  all_within : (most : ℕ) (steps : List Answered) → most_told many steps ≤ most → HoldsOfTold (IsWithin most) steps
  all_within most [] less = tt
  all_within most (step ∷ steps) less = (if_told most step.answer (omega arith), all_within most steps (omega arith))

  change_within : (site : SiteId) (name : List ℕ) (refuses : HeaderView → Option Refusal) (act : ℕ → HeaderView → Plan)
      → ((image : ℕ) (h : HeaderView) (most : ℕ) → many h ≤ most → IsBounded (act image h) (2 + most))
      → (feds : List Fed) (steps : List Answered) (last : Plan) → IsWalk Goto (change_plan site name sharing.Alone refuses act) feds steps last → length steps ≤ 5 + most_told many steps
  change_within site name refuses act acts feds steps last walk =
      let most = most_told many steps in
      let five : suc (suc (suc (2 + most))) ≡ 5 + most = omega arith in
      told_walk (IsWithin most) feds (change_plan site name sharing.Alone refuses act) (5 + most) steps last
      (subst (AsksIfTold (IsWithin most) (change_plan site name sharing.Alone refuses act)) five (told_change (IsWithin most) site refuses act (2 + most) (λ image h less. acts image h most less) name sharing.Alone))
      (all_within most steps (omega arith)) walk

-- ---- resize

bounded_size : (site : SiteId) (to image : ℕ) (h : HeaderView) (most : ℕ) → cut_by to h ≤ most → IsBounded (set_size site to image h) (2 + most)
bounded_size site to image h most less = go (cases_lt to h.size)
  where
    go : (to < h.size) ⊎ (h.size ≤ to) → IsBounded (set_size site to image h) (2 + most)
    go (inl shrinks) = bounded_more (set_size site to image h) (2 + cut_by to h) (2 + most) (omega arith) (bounded_set_size_shrink site to image h shrinks)
    go (inr grows) = bounded_more (set_size site to image h) 2 (2 + most) (omega arith) (bounded_set_size_grow site to image h grows)

pub resize_within : (site : SiteId) (name : List ℕ) (to : ℕ) (feds : List Fed) (steps : List Answered) (last : Plan) → IsWalk Goto (size_change site name to) feds steps last
    → length steps ≤ 5 + most_told (cut_by to) steps
resize_within site name to feds steps last walk =
    change_within (cut_by to) site name (resize_refuses to) (set_size site to) (λ image h most less. bounded_size site to image h most less) feds steps last walk

-- ---- snap rollback

bounded_back : (site : SiteId) (image : ℕ) (h : HeaderView) (s : SnapView) → IsBounded (roll_back site image h s (applied site image)) (2 + restored_to h (Some s))
bounded_back site image h s = go (cases_lt s.size h.size)
  where
    go : (s.size < h.size) ⊎ (h.size ≤ s.size) → IsBounded (roll_back site image h s (applied site image)) (2 + restored_to h (Some s))
    go (inl shrinks) =
        bounded_more (roll_back site image h s (applied site image)) (0 + 2 + 3 * length (pieces_of h.layout (head_from h s.size)) + 4 * length (pieces_of h.layout (head_of (at_size s.size h))))
        (2 + restored_to h (Some s)) (omega arith) (bounded_back_shrink site image h s (applied site image) 0 tt shrinks)
    go (inr grows) =
        bounded_more (roll_back site image h s (applied site image)) (0 + 2 + 4 * length (pieces_of h.layout (head_of (at_size s.size h)))) (2 + restored_to h (Some s)) (omega arith)
        (bounded_back_grow site image h s (applied site image) 0 tt grows)

bounded_listed : (site : SiteId) (snap : List ℕ) (image : ℕ) (h : HeaderView) (most : ℕ) (listed : Option SnapView) → restored_to h listed ≤ most
    → IsBounded (roll_back_listed site snap image h listed) (2 + most)
bounded_listed site snap image h most None less = tt
bounded_listed site snap image h most (Some s) less =
    bounded_more (roll_back site image h s (applied site image)) (2 + restored_to h (Some s)) (2 + most) (omega arith) (bounded_back site image h s)

pub rollback_within : (site : SiteId) (name snap : List ℕ) (feds : List Fed) (steps : List Answered) (last : Plan) → IsWalk Goto (rollback site name snap) feds steps last
    → length steps ≤ 5 + most_told (restored_by snap) steps
rollback_within site name snap feds steps last walk =
    change_within (restored_by snap) site name (rollback_refuses snap) (roll_back_to site snap)
    (λ image h most less. bounded_listed site snap image h most (snap_named h.snaps snap) less) feds steps last walk
