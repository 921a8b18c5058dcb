-- What there is to remove, as a list that is made.
use Rattle.std.proofs.Common.{◌≡◌, ℕ, ◌+◌, ◌*◌, ◌/◌, ◌%◌, Bool, true, false, cond, List, [], ◌∷◌, ◌++◌, map, Option, Some, None, refl, ap, ◌∙◌, sym, arith}
use Rattle.std.specs.Prelude.{◌==◌, not, slice_index}
use Rattle.std.specs.List.{filter, range_with_len}
use Rattle.std.proofs.Math.Nat.{zero-div}
use Rattle.std.proofs.Math.Path.{fun_ext}
use Rattle.std.proofs.lemmas.List.{append_assoc, map-append, map-id, append-nil}
use Rattle.std.proofs.lemmas.List.FromFn.{filter_of_map_range_with_len_more}
use Rattle.rbd_kinds.specs.declared.header.HeaderView.{HeaderView}
use Rattle.rbd_kinds.specs.declared.header.ParentLink.{ParentLink}
use Rattle.rbd_kinds.specs.declared.header.SnapView.{SnapView}
use Rattle.rbd_kinds.specs.declared.id.SiteId.{SiteId}
use Rattle.rbd_kinds.specs.declared.map_op.MapOp.TheVariants as states
use Rattle.rbd_kinds.specs.declared.operation.Op.{Op}
use Rattle.rbd_kinds.specs.declared.operation.Op.TheVariants as op
use Rattle.rbd_kinds.specs.States.{weight}
use Rattle.rbd_machine.specs.Plan.{Plan}
use Rattle.rbd_machine.specs.Steps.{on_bits, own}
use Rattle.rbd_meaning.specs.Removals.{link_of, removal, removing_journal, removing_map_of, removing_object, unlinking, used_objects}
use Rattle.rbd_image.specs.RemovalPart.{looking_at_map, IsOutlineOf}
use Rattle.rbd_image.specs.Remnants.{is_in_use, journal_remnants, link_remnants, map_remnant, object_remnant, removal_op, ops_of, remnants}
use Rattle.rbd_image.specs.Remove.{removal_plan, remove_each}
use Rattle.rbd_image.specs.declared.outline.Outline.{Outline}
use Rattle.rbd_image.specs.declared.remnant.Remnant.{Remnant}
use Rattle.rbd_image.specs.declared.remnant.Remnant.TheVariants as remnant

-- ---- objects, one after another

filter_more : (p : ℕ → Bool) (n : ℕ) → filter p (range_with_len 0 (n + 1)) ≡ filter p (range_with_len 0 n) ++ cond (p n) (n ∷ []) []
filter_more p n =
    ap (filter p) (sym (map-id (range_with_len 0 (n + 1))))
    ∙ filter_of_map_range_with_len_more p (λ x. x) 0 n n (omega arith)
    ∙ ap (λ xs. filter p xs ++ cond (p n) (n ∷ []) []) (map-id (range_with_len 0 n))

module _ (start : List Remnant) (bits : List ℕ) where
  abbrev pub added_up_to : (n : ℕ) → List Remnant
  added_up_to n = start ++ map object_remnant (filter (is_in_use bits) (range_with_len 0 n))

  next_added : (n : ℕ) → added_up_to n ++ map object_remnant (cond (is_in_use bits n) (n ∷ []) []) ≡ added_up_to (n + 1)
  next_added n =
      append_assoc start (map object_remnant (filter (is_in_use bits) (range_with_len 0 n))) (map object_remnant (cond (is_in_use bits n) (n ∷ []) []))
      ∙ ap (λ more. start ++ more)
      (sym (map-append object_remnant (filter (is_in_use bits) (range_with_len 0 n)) (cond (is_in_use bits n) (n ∷ []) []))
      ∙ ap (map object_remnant) (sym (filter_more (is_in_use bits) n)))

  pub object_added : (n o : ℕ) (made more : List Remnant) → made ≡ added_up_to n → cond (is_in_use bits n) (Some n) None ≡ Some o → more ≡ made ++ remnant.Object o ∷ [] → more ≡ added_up_to (n + 1)
  object_added n o made more before some are = are ∙ ap (λ m. m ++ remnant.Object o ∷ []) before ∙ ap (λ last. added_up_to n ++ last) (go (is_in_use bits n) some) ∙ next_added n
    where
      go : (b : Bool) → cond b (Some n) None ≡ Some o → remnant.Object o ∷ [] ≡ map object_remnant (cond b (n ∷ []) [])
      go true some = let same : o ≡ n = cc in ap (λ m. remnant.Object m ∷ []) same
      go false some = cc

  pub object_passed : (n : ℕ) (made : List Remnant) → made ≡ added_up_to n → cond (is_in_use bits n) (Some n) None ≡ None → made ≡ added_up_to (n + 1)
  object_passed n made before none = before ∙ sym (append-nil (added_up_to n)) ∙ ap (λ last. added_up_to n ++ last) (go (is_in_use bits n) none) ∙ next_added n
    where
      go : (b : Bool) → cond b (Some n) None ≡ None → [] ≡ map object_remnant (cond b (n ∷ []) [])
      go true none = cc
      go false none = refl

  unused : (n o : ℕ) → slice_index bits n ≡ 0 → o / 4 ≡ n → cond (is_in_use bits o) (Some o) None ≡ None
  unused n o empty at =
      ap (λ k. cond (not (slice_index bits k / weight (o % 4) % 4 == 0)) (Some o) None) at
      ∙ ap (λ byte. cond (not (byte / weight (o % 4) % 4 == 0)) (Some o) None) empty
      ∙ ap (λ state. cond (not (state % 4 == 0)) (Some o) None) (zero-div (weight (o % 4)))

  -- a byte that is zero has four objects, none of them in use
  pub byte_passed : (n : ℕ) (made : List Remnant) → made ≡ added_up_to (4 * n) → slice_index bits n ≡ 0 → made ≡ added_up_to (4 * (n + 1))
  byte_passed n made before empty =
      let one = object_passed (4 * n) made before (unused n (4 * n) empty (omega arith)) in
      let two = object_passed (4 * n + 1) made one (unused n (4 * n + 1) empty (omega arith)) in
      let three = object_passed (4 * n + 1 + 1) made two (unused n (4 * n + 1 + 1) empty (omega arith)) in
      let four = object_passed (4 * n + 1 + 1 + 1) made three (unused n (4 * n + 1 + 1 + 1) empty (omega arith)) in
      four ∙ ap added_up_to (let e : 4 * n + 1 + 1 + 1 + 1 ≡ 4 * (n + 1) = omega arith in e)

-- ---- all of them

pub with_link : (link : Option ParentLink) (l : ParentLink) (made more : List Remnant) → link ≡ Some l → more ≡ made ++ remnant.Link l ∷ [] → more ≡ made ++ link_remnants link
with_link None l made more there are = cc
with_link (Some k) l made more there are = let same : l ≡ k = cc in are ∙ ap (λ m. made ++ remnant.Link m ∷ []) same

pub without_link : (link : Option ParentLink) (made : List Remnant) → link ≡ None → made ≡ made ++ link_remnants link
without_link None made none = sym (append-nil made)
without_link (Some l) made none = cc

pub all_made : (link : Option ParentLink) (behind m0 m1 m2 m3 m4 : List Remnant) → m0 ≡ [] → m1 ≡ m0 ++ remnant.Name ∷ [] → m2 ≡ m1 ++ remnant.Header ∷ []
    → m3 ≡ m2 ++ link_remnants link → m4 ≡ m3 ++ behind → m4 ≡ remnant.Name ∷ remnant.Header ∷ (link_remnants link ++ behind)
all_made link behind m0 m1 m2 m3 m4 is0 is1 is2 is3 is4 =
    is4 ∙ ap (λ m. m ++ behind) (is3 ∙ ap (λ m. m ++ link_remnants link) (is2 ∙ ap (λ m. m ++ remnant.Header ∷ []) (is1 ∙ ap (λ m. m ++ remnant.Name ∷ []) is0)))

-- ---- their operations

module _ (image : ℕ) where
  links_unlink : (link : Option ParentLink) → ops_of image (link_remnants link) ≡ unlinking image link
  links_unlink None = refl
  links_unlink (Some link) = refl

  journals_go : (journal : Bool) → ops_of image (journal_remnants journal) ≡ removing_journal image journal
  journals_go false = refl
  journals_go true = refl

  objects_go : (objects : List ℕ) → ops_of image (map object_remnant objects) ≡ map (removing_object image) objects
  objects_go [] = refl
  objects_go (o ∷ objects) = ap (λ rest. removing_object image o ∷ rest) (objects_go objects)

  maps_go : (snaps : List SnapView) → ops_of image (map map_remnant snaps) ≡ map (removing_map_of image) snaps
  maps_go [] = refl
  maps_go (s ∷ snaps) = ap (λ rest. removing_map_of image s ∷ rest) (maps_go snaps)

  pub are_removal : (h : HeaderView) (bits : List ℕ) → ops_of image (remnants (link_of h) h.snaps h.journal bits) ≡ removal image h bits
  are_removal h bits =
      ap (λ rest. removal_op image remnant.Name ∷ removal_op image remnant.Header ∷ rest)
      (map-append (removal_op image) (link_remnants (link_of h)) (map object_remnant (used_objects bits) ++ (remnant.Map None ∷ (map map_remnant h.snaps ++ journal_remnants h.journal)))
      ∙ ap (λ links. links ++ ops_of image (map object_remnant (used_objects bits) ++ (remnant.Map None ∷ (map map_remnant h.snaps ++ journal_remnants h.journal)))) (links_unlink (link_of h))
      ∙ ap (λ rest. unlinking image (link_of h) ++ rest)
      (map-append (removal_op image) (map object_remnant (used_objects bits)) (remnant.Map None ∷ (map map_remnant h.snaps ++ journal_remnants h.journal))
      ∙ ap (λ objects. objects ++ ops_of image (remnant.Map None ∷ (map map_remnant h.snaps ++ journal_remnants h.journal))) (objects_go (used_objects bits))
      ∙ ap (λ rest. map (removing_object image) (used_objects bits) ++ (op.Map image (states.Remove None) ∷ rest))
      (map-append (removal_op image) (map map_remnant h.snaps) (journal_remnants h.journal)
      ∙ ap (λ maps. maps ++ ops_of image (journal_remnants h.journal)) (maps_go h.snaps)
      ∙ ap (λ journals. map (removing_map_of image) h.snaps ++ journals) (journals_go h.journal))))

pub outlined : (site : SiteId) (image : ℕ) (h : HeaderView) (o : Outline) (next : Plan) → IsOutlineOf h o → looking_at_map site image o next ≡ removal_plan site image h next
outlined site image h o next is =
    ap (λ (ops : List ℕ → List Op). own site (op.Map image (states.Get None)) (on_bits (λ bits. remove_each site (ops bits) next)))
    (fun_ext (λ (bits : List ℕ).
    ap (λ link. ops_of image (remnants link o.snaps o.journal bits)) is.link
    ∙ ap (λ snaps. ops_of image (remnants (link_of h) snaps o.journal bits)) is.snaps
    ∙ ap (λ journal. ops_of image (remnants (link_of h) h.snaps journal bits)) is.journal
    ∙ are_removal image h bits))
