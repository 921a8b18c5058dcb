-- How many operations a rollback has.
use Rattle.std.proofs.Common.{◌≡◌, ◌⊎◌, inl, inr, ℕ, suc, ◌+◌, ◌*◌, ◌≤◌, ◌<◌, List, [], ◌∷◌, length, Option, Some, None, refl, subst, arith}
use Rattle.std.proofs.lemmas.Bool.{cases_lt}
use Rattle.rbd_kinds.specs.declared.header.HeaderView.{HeaderView}
use Rattle.rbd_kinds.specs.declared.header.SnapView.{SnapView}
use Rattle.rbd_kinds.specs.declared.id.SiteId.{SiteId}
use Rattle.rbd_kinds.specs.declared.machine.Fed.{Fed}
use Rattle.rbd_kinds.specs.declared.reply.Reply.{Reply}
use Rattle.rbd_kinds.specs.Header.{snap_named}
use Rattle.rbd_layout.specs.declared.types.Piece.{Piece}
use Rattle.rbd_layout.specs.Pieces.{pieces_of}
use Rattle.rbd_machine.specs.Path.{Answered, IsBounded, IsWalk}
use Rattle.rbd_machine.specs.Plan.{Plan, Return, Goto}
use Rattle.rbd_machine.specs.Steps.{applied}
use Rattle.rbd_machine.proofs.Bounds.{bounded_more}
use Rattle.rbd_meaning.specs.Rollbacks.{at_size, rollback_refuses}
use Rattle.rbd_pieces.proofs.Bounded.{bounded_gather}
use Rattle.rbd_pieces.specs.Full.{full_piece}
use Rattle.rbd_pieces.specs.Shrink.{head_from}
use Rattle.rbd_pieces.specs.Zero.{head_of}
use Rattle.rbd_pieces.proofs.ZerosBounded.{bounded_full, bounded_grow, bounded_shrink}
use Rattle.rbd_meaning.specs.Count.{object_count}
use Rattle.rbd_snap.specs.Rollback.{restore_all, restore_pieces, roll_back, roll_back_listed, roll_back_to, rollback}
use Rattle.rbd_snap.specs.RollbackTold.{HasFewToRestore}
use Rattle.rbd_image.specs.HeadersTold.{HoldsOfTold}
use Rattle.rbd_image.proofs.ResizesBounded.{change_few}

-- ---- a rollback

bounded_pieces : (pieces : List Piece) (site : SiteId) (image : ℕ) (h : HeaderView) (snap : ℕ) (next : Plan) (n : ℕ) → IsBounded next n → IsBounded (restore_pieces site image h snap pieces next) (n + 4 * length pieces)
bounded_pieces [] site image h snap next n b = let same : n ≡ n + 4 * 0 = omega arith in subst (IsBounded next) same b
bounded_pieces (p ∷ pieces) site image h snap next n b =
    let m = n + 4 * length pieces in
    let later = restore_pieces site image h snap pieces next in
    let same : suc (suc (suc (n + 4 * length pieces))) + 1 ≡ n + 4 * suc (length pieces) = omega arith in
    subst (IsBounded (restore_pieces site image h snap (p ∷ pieces) next)) same
    (bounded_gather (p ∷ []) site image (Some snap) [] (λ bytes. full_piece site image h p bytes later) (suc (suc (suc m))) (λ bytes. bounded_full site image h p bytes later m (bounded_pieces pieces site image h snap next n b)))

module _ (site : SiteId) (image : ℕ) (h : HeaderView) (listed : SnapView) (next : Plan) (n : ℕ) (b : IsBounded next n) where
  abbrev all : Plan
  all = restore_all site image (at_size listed.size h) listed.id next

  abbrev restored : ℕ
  restored = length (pieces_of h.layout (head_of (at_size listed.size h)))

  bounded_all : IsBounded all (n + 4 * restored)
  bounded_all = bounded_pieces (pieces_of h.layout (head_of (at_size listed.size h))) site image (at_size listed.size h) listed.id next n b

  pub bounded_back_grow : h.size ≤ listed.size → IsBounded (roll_back site image h listed next) (n + 2 + 4 * length (pieces_of h.layout (head_of (at_size listed.size h))))
  bounded_back_grow more =
      let same : suc (suc (n + 4 * restored)) ≡ n + 2 + 4 * restored = omega arith in
      subst (IsBounded (roll_back site image h listed next)) same (bounded_grow site image h listed.size all (n + 4 * restored) bounded_all (object_count h.layout listed.size) more)

  pub bounded_back_shrink : listed.size < h.size
      → IsBounded (roll_back site image h listed next) (n + 2 + 3 * length (pieces_of h.layout (head_from h listed.size)) + 4 * length (pieces_of h.layout (head_of (at_size listed.size h))))
  bounded_back_shrink less =
      let zeroed = length (pieces_of h.layout (head_from h listed.size)) in
      let same : n + 4 * restored + 2 + 3 * length (pieces_of h.layout (head_from h listed.size)) ≡ n + 2 + 3 * length (pieces_of h.layout (head_from h listed.size)) + 4 * restored = omega arith in
      subst (IsBounded (roll_back site image h listed next)) same (bounded_shrink site image h listed.size all (n + 4 * restored) bounded_all (object_count h.layout listed.size) less)

  bounded_back : IsBounded (roll_back site image h listed next) (n + 2 + 3 * length (pieces_of h.layout (head_from h listed.size)) + 4 * length (pieces_of h.layout (head_of (at_size listed.size h))))
  bounded_back = go (cases_lt listed.size h.size)
    where
      go : (listed.size < h.size) ⊎ (h.size ≤ listed.size) → IsBounded (roll_back site image h listed next) (n + 2 + 3 * length (pieces_of h.layout (head_from h listed.size)) + 4 * length (pieces_of h.layout (head_of (at_size listed.size h))))
      go (inl less) = bounded_back_shrink less
      go (inr more) =
          bounded_more (roll_back site image h listed next) (n + 2 + 4 * restored) (n + 2 + 3 * length (pieces_of h.layout (head_from h listed.size)) + 4 * restored) (omega arith) (bounded_back_grow more)

bounded_listed : (site : SiteId) (snap : List ℕ) (image : ℕ) (h : HeaderView) (most : ℕ) (listed : Option SnapView)
    → ((s : SnapView) → listed ≡ Some s → 3 * length (pieces_of h.layout (head_from h s.size)) + 4 * length (pieces_of h.layout (head_of (at_size s.size h))) ≤ most)
    → IsBounded (roll_back_listed site snap image h listed) (2 + most)
bounded_listed site snap image h most None few = tt
bounded_listed site snap image h most (Some s) few =
    let less : 3 * length (pieces_of h.layout (head_from h s.size)) + 4 * length (pieces_of h.layout (head_of (at_size s.size h))) ≤ most = few s refl in
    bounded_more (roll_back site image h s (applied site image)) (0 + 2 + 3 * length (pieces_of h.layout (head_from h s.size)) + 4 * length (pieces_of h.layout (head_of (at_size s.size h)))) (2 + most) (omega (arith, less))
    (bounded_back site image h s (applied site image) 0 tt)

-- ---- whole requests

pub rollback_few : (site : SiteId) (name snap : List ℕ) (most : ℕ) (feds : List Fed) (steps : List Answered) (r : Reply) → HoldsOfTold (HasFewToRestore snap most) steps → IsWalk Goto (rollback site name snap) feds steps (Return r)
    → length steps ≤ 5 + most
rollback_few site name snap most feds steps r told walk =
    let few : length steps ≤ 2 + most + 3 =
    change_few r site name (rollback_refuses snap) (roll_back_to site snap) (HasFewToRestore snap most) (2 + most) feds steps
    (λ image h less. bounded_listed site snap image h most (snap_named h.snaps snap) less) told walk in
    omega (arith, few)
