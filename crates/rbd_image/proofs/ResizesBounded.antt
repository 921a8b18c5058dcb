-- How many operations a resize has.
use Rattle.std.proofs.Common.{◌≡◌, ◌⊎◌, inl, inr, ℕ, suc, ◌+◌, ◌*◌, ◌≤◌, ◌<◌, List, [], ◌∷◌, ◌++◌, length, Option, ap, subst, arith}
use Rattle.std.proofs.lemmas.Bool.{cases_lt}
use Rattle.std.proofs.lemmas.List.{length-append}
use Rattle.rbd_kinds.specs.declared.sharing.Sharing.TheVariants as sharing
use Rattle.rbd_kinds.specs.declared.header.HeaderView.{HeaderView}
use Rattle.rbd_kinds.specs.declared.id.SiteId.{SiteId}
use Rattle.rbd_kinds.specs.declared.machine.Fed.{Fed}
use Rattle.rbd_kinds.specs.declared.reply.Reply.{Reply}
use Rattle.rbd_commands.specs.declared.refusal.Refusal.{Refusal}
use Rattle.rbd_layout.specs.Pieces.{pieces_of}
use Rattle.rbd_machine.specs.Passes.{jumps}
use Rattle.rbd_machine.specs.Path.{Answered, IsBounded, IsWalk}
use Rattle.rbd_machine.specs.Plan.{Plan, Return, Goto}
use Rattle.rbd_machine.specs.Steps.{applied, change_plan}
use Rattle.rbd_machine.proofs.Bounds.{bounded_more}
use Rattle.rbd_machine.proofs.Passed.{walk_bounded}
use Rattle.rbd_machine.proofs.Walked.{Changed}
use Rattle.rbd_meaning.specs.Resizes.{resize_refuses}
use Rattle.rbd_pieces.specs.Shrink.{head_from}
use Rattle.rbd_pieces.proofs.ZerosBounded.{bounded_grow, bounded_shrink}
use Rattle.rbd_meaning.specs.Count.{object_count}
use Rattle.rbd_image.specs.Resize.{set_size, size_change}
use Rattle.rbd_image.specs.HeadersTold.{HasFewToCut, HoldsOfTold}
use Rattle.rbd_meaning.proofs.ChangeEnds.{IsEarly, change_ends}

-- ---- a size

pub bounded_set_size_grow : (site : SiteId) (to image : ℕ) (h : HeaderView) → h.size ≤ to → IsBounded (set_size site to image h) 2
bounded_set_size_grow site to image h more = bounded_grow site image h to (applied site image) 0 tt (object_count h.layout to) more

pub bounded_set_size_shrink : (site : SiteId) (to image : ℕ) (h : HeaderView) → to < h.size → IsBounded (set_size site to image h) (2 + 3 * length (pieces_of h.layout (head_from h to)))
bounded_set_size_shrink site to image h less = bounded_shrink site image h to (applied site image) 0 tt (object_count h.layout to) less

bounded_set_size : (site : SiteId) (to image : ℕ) (h : HeaderView) → IsBounded (set_size site to image h) (2 + 3 * length (pieces_of h.layout (head_from h to)))
bounded_set_size site to image h = go (cases_lt to h.size)
  where
    go : (to < h.size) ⊎ (h.size ≤ to) → IsBounded (set_size site to image h) (2 + 3 * length (pieces_of h.layout (head_from h to)))
    go (inl less) = bounded_set_size_shrink site to image h less
    go (inr more) = bounded_more (set_size site to image h) 2 (2 + 3 * length (pieces_of h.layout (head_from h to))) (omega arith) (bounded_set_size_grow site to image h more)

-- ---- whole requests

walked_few : (plan : Plan) (n : ℕ) (feds : List Fed) (steps : List Answered) (last : Plan) → IsBounded plan n → IsWalk Goto plan feds steps last → length steps ≤ n
walked_few plan n feds steps last b walk =
    let few : length steps ≤ n + jumps Goto plan feds * 0 = walk_bounded Goto 0 (λ label. tt) feds plan n steps last b walk in
    omega (arith, few)

pub change_few : (r : Reply) (site : SiteId) (name : List ℕ) (refuses : HeaderView → Option Refusal) (act : ℕ → HeaderView → Plan) (holds : HeaderView → Type 0) (n : ℕ) (feds : List Fed) (steps : List Answered)
    → ((image : ℕ) (h : HeaderView) → holds h → IsBounded (act image h) n) → HoldsOfTold holds steps → IsWalk Goto (change_plan site name sharing.Alone refuses act) feds steps (Return r) → length steps ≤ n + 3
change_few r site name refuses act holds n feds steps few told walk = go (change_ends r site name sharing.Alone refuses act steps feds walk)
  where
    go : Changed (Return r) site name refuses act steps ⊎ IsEarly refuses steps r → length steps ≤ n + 3
    go (inl c) =
        let there = subst (HoldsOfTold holds) c.are told in
        let less : length c.rest ≤ n = walked_few (act c.image c.own) n c.more c.rest (Return r) (few c.image c.own there.1.1.0) c.walk in
        let long : length steps ≡ suc (suc (suc (length c.rest))) = ap length c.are in
        omega (arith, less, long)
    go (inr e) =
        let long : length steps ≡ length (e.before ++ e.last ∷ []) = ap length e.are in
        let sum : length (e.before ++ e.last ∷ []) ≡ length e.before + 1 = length-append e.before (e.last ∷ []) in
        let less : length e.before ≤ 2 = e.few in
        omega (arith, long, sum, less)

pub resize_few : (site : SiteId) (name : List ℕ) (to most : ℕ) (feds : List Fed) (steps : List Answered) (r : Reply) → HoldsOfTold (HasFewToCut to most) steps
    → IsWalk Goto (size_change site name to) feds steps (Return r) → length steps ≤ 5 + 3 * most
resize_few site name to most feds steps r told walk =
    let few : length steps ≤ 2 + 3 * most + 3 =
    change_few r site name (resize_refuses to) (set_size site to) (HasFewToCut to most) (2 + 3 * most) feds steps
    (λ image h less. bounded_more (set_size site to image h) (2 + 3 * length (pieces_of h.layout (head_from h to))) (2 + 3 * most) (omega (arith, less)) (bounded_set_size site to image h)) told walk in
    omega (arith, few)
