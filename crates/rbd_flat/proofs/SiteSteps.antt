-- One step on a flat site as the code keeps it.
use Rattle.std.proofs.Common.{◌≡◌, ℕ, Bool, true, false, cond, eqb, not, List, Option, Some, None, Ordering, refl, sym, ◌∙◌, ap}
use Rattle.std.specs.List.{list_any, filter}
use Rattle.std.specs.Map.{lookup, keys_of}
use Rattle.std.specs.BTreeMap.{is_at}
use Rattle.std.specs.Ordering.{nat_cmp, eq_by_cmp, ordering_then}
use Rattle.std.specs.Cmp.{IsTotalOrder, nat_cmp_total}
use Rattle.std.proofs.lemmas.Bool.{true≢false, not-false, eqb-true}
use Rattle.std.proofs.lemmas.Bool.Decides.{Decides-eqb}
use Rattle.std.proofs.lemmas.Slice.Eq.{slice_eq-Decides}
use Rattle.std.specs.Cmp.Lexicographic.{slice_cmp, pointwise, nat_list_cmp_total}
use Rattle.std.proofs.lemmas.Cmp.{on_total, then_total}
use Rattle.std.proofs.lemmas.Map.Lookups.{CmpEqualImpliesEq, exact_pairs, exact_unsigned, exact_bytes}
use Rattle.std.specs.List.Sorted.{IsStrictlySortedBy}
use Rattle.std.specs.FinMap as finmap
use Rattle.std.specs.FinSet as finset
use Rattle.rbd_flat.specs.declared.effect.Effect.TheVariants as effect
use Rattle.rbd_flat.specs.Flat.{Flat, FlatImage, Link, link_cmp, after, id_of, image_at, snap_of, renamed, with_image, changed_image}
use Rattle.rbd_flat.specs.Site.{site_of}
use Rattle.rbd_flat.proofs.Images.{get_insert}
use Rattle.rbd_values.proofs.Ordered.{get_entries, one_given, one_taken, entries_in_order, one_added, one_dropped, taken_and_given}

abbrev name_cmp : List ℕ → List ℕ → Ordering
name_cmp = slice_cmp nat_cmp

-- ---- names

module _ (ns ms : List (List ℕ × ℕ)) (is : List (ℕ × FlatImage)) (ls : List Link) where
  pub name_added : (name : List ℕ) (image : ℕ) → ((q : List ℕ) → lookup (is_at (name_cmp q)) ms ≡ cond (is_at (name_cmp name) q) (Some image) (lookup (is_at (name_cmp q)) ns))
      → site_of ms is ls ≡ after (site_of ns is ls) (effect.Name name image)
  name_added name image h = ap (λ (m : finmap.FinMap name_cmp ℕ). record (site_of ns is ls) { names = m }) (one_given nat_list_cmp_total exact_bytes ns ms name image h)

  pub name_freed : (image : ℕ) → IsStrictlySortedBy name_cmp (keys_of ns) → ms ≡ filter (λ e. not (eqb e.1 image)) ns → site_of ms is ls ≡ after (site_of ns is ls) (effect.NameFree image)
  name_freed image sorted kept =
      let f : List (List ℕ × ℕ) → Flat = λ es. record (site_of ns is ls) { names = finmap.from_entries es } in
      ap f (kept ∙ ap (filter (λ (e : List ℕ × ℕ). not (eqb e.1 image))) (sym (entries_in_order nat_list_cmp_total ns sorted)))

link_total : IsTotalOrder link_cmp
link_total = then_total (on_total (λ (l : Link). l.parent) nat_cmp_total) (then_total (on_total (λ (l : Link). l.snap) nat_cmp_total) (on_total (λ (l : Link). l.child) nat_cmp_total))

link_exact : CmpEqualImpliesEq link_cmp
link_exact a b h =
    let pair : ℕ × ℕ → ℕ × ℕ → Ordering = λ x y. ordering_then (nat_cmp x.0 y.0) (nat_cmp x.1 y.1) in
    ap (λ (p : ℕ × (ℕ × ℕ)). record { parent = p.0; snap = p.1.0; child = p.1.1 })
    (exact_pairs nat_cmp pair exact_unsigned (exact_pairs nat_cmp nat_cmp exact_unsigned exact_unsigned) (a.parent, (a.snap, a.child)) (b.parent, (b.snap, b.child)) h)

module _ (ns : List (List ℕ × ℕ)) (is : List (ℕ × FlatImage)) (ls ks : List Link) where
  pub link_added : (l : Link) → ((q : Link) → list_any (is_at (link_cmp q)) ks ≡ cond (is_at (link_cmp l) q) true (list_any (is_at (link_cmp q)) ls))
      → site_of ns is ks ≡ after (site_of ns is ls) (effect.Link l.parent l.snap l.child)
  link_added l h = ap (λ (s : finset.FinSet link_cmp). record (site_of ns is ls) { links = s }) (one_added link_total link_exact ls ks l h)

  pub link_dropped : (l : Link) → ((q : Link) → list_any (is_at (link_cmp q)) ks ≡ cond (is_at (link_cmp l) q) false (list_any (is_at (link_cmp q)) ls))
      → site_of ns is ks ≡ after (site_of ns is ls) (effect.Unlink l.parent l.snap l.child)
  link_dropped l h = ap (λ (s : finset.FinSet link_cmp). record (site_of ns is ls) { links = s }) (one_dropped link_total link_exact ls ks l h)

-- ---- a name replaced: the new one first

hidden : {X : Type 0} (b : Bool) (x y z : X) → cond b x z ≡ cond b x (cond b y z)
hidden true x y z = refl
hidden false x y z = refl

given_again : (m : finmap.FinMap name_cmp ℕ) (name : List ℕ) (image : ℕ) → finmap.insert m name image ≡ finmap.insert (finmap.remove m name) name image
given_again m name image = finmap.same_map nat_list_cmp_total exact_bytes _ _ (λ q.
    finmap.get-insert nat_list_cmp_total m name image q
    ∙ hidden (eq_by_cmp name_cmp q name) (Some image) None (finmap.get m q)
    ∙ sym (finmap.get-insert nat_list_cmp_total (finmap.remove m name) name image q
    ∙ ap (cond (eq_by_cmp name_cmp q name) (Some image)) (finmap.get-remove nat_list_cmp_total m name q)))

module _ (ns ms : List (List ℕ × ℕ)) (is : List (ℕ × FlatImage)) (ls : List Link) where
  at_name : (from to : List ℕ) (image : ℕ) (names : finmap.FinMap name_cmp ℕ) → id_of (site_of ns is ls) from ≡ Some image → names ≡ finmap.insert (finmap.remove (finmap.from_entries ns) from) to image
      → record (site_of ns is ls) { names = names } ≡ after (site_of ns is ls) (effect.Rename from to)
  at_name from to image names found e =
      ap (λ (m : finmap.FinMap name_cmp ℕ). record (site_of ns is ls) { names = m }) e
      ∙ ap (λ (o : Option ℕ). renamed o from to (site_of ns is ls)) (sym found)

  -- to itself
  pub name_same : (from to : List ℕ) (image : ℕ) → id_of (site_of ns is ls) from ≡ Some image → from ≡ to
      → ((q : List ℕ) → lookup (is_at (name_cmp q)) ms ≡ cond (is_at (name_cmp to) q) (Some image) (lookup (is_at (name_cmp q)) ns))
      → site_of ms is ls ≡ after (site_of ns is ls) (effect.Rename from to)
  name_same from to image found same h =
      at_name from to image (finmap.from_entries ms) found
      (one_given nat_list_cmp_total exact_bytes ns ms to image h ∙ given_again (finmap.from_entries ns) to image
      ∙ ap (λ (name : List ℕ). finmap.insert (finmap.remove (finmap.from_entries {R = name_cmp} ns) name) to image) (sym same))

  -- to another name
  pub name_moved : (os : List (List ℕ × ℕ)) (from to : List ℕ) (image : ℕ) → id_of (site_of ns is ls) from ≡ Some image → (from ≡ to → ⊥)
      → ((q : List ℕ) → lookup (is_at (name_cmp q)) ms ≡ cond (is_at (name_cmp to) q) (Some image) (lookup (is_at (name_cmp q)) ns))
      → ((q : List ℕ) → lookup (is_at (name_cmp q)) os ≡ cond (is_at (name_cmp from) q) None (lookup (is_at (name_cmp q)) ms))
      → site_of os is ls ≡ after (site_of ns is ls) (effect.Rename from to)
  name_moved os from to image found ne h k =
      at_name from to image (finmap.from_entries os) found
      (one_taken nat_list_cmp_total exact_bytes ms os from k
      ∙ ap (λ (m : finmap.FinMap name_cmp ℕ). finmap.remove m from) (one_given nat_list_cmp_total exact_bytes ns ms to image h)
      ∙ taken_and_given nat_list_cmp_total exact_bytes (finmap.from_entries ns) from to image ne)

-- what `==` says of two names
pub names_differ : (a b : List ℕ) → true ≡ not (pointwise eqb a b) → a ≡ b → ⊥
names_differ a b e same = true≢false (e ∙ ap not ((slice_eq-Decides Decides-eqb a b (pointwise eqb a b) refl).1 same))

pub names_agree : (a b : List ℕ) → false ≡ not (pointwise eqb a b) → a ≡ b
names_agree a b e = (slice_eq-Decides Decides-eqb a b (pointwise eqb a b) refl).0 (not-false (pointwise eqb a b) (sym e))

-- ---- images

same_given : (o : Option FlatImage) (i : FlatImage) (b : Bool) → (b ≡ true → o ≡ Some i) → cond b (Some i) o ≡ o
same_given o i true h = sym (h refl)
same_given o i false h = refl

insert_same : (m : finmap.FinMap nat_cmp FlatImage) (k : ℕ) (i : FlatImage) → finmap.get m k ≡ Some i → finmap.insert m k i ≡ m
insert_same m k i there = finmap.same_map nat_cmp_total exact_unsigned _ _ (λ q.
    get_insert m k i q ∙ same_given (finmap.get m q) i (eqb q k) (λ e. ap (finmap.get m) (eqb-true q k e) ∙ there))

module _ (ns : List (List ℕ × ℕ)) (is js : List (ℕ × FlatImage)) (ls : List Link) where
  pub image_there : (k : ℕ) (o : Option FlatImage) → lookup (is_at (nat_cmp k)) is ≡ o → image_at (site_of ns is ls) k ≡ o
  image_there k o e = get_entries nat_cmp_total is k ∙ e

  pub image_given : (k : ℕ) (i : FlatImage) → ((q : ℕ) → lookup (is_at (nat_cmp q)) js ≡ cond (is_at (nat_cmp k) q) (Some i) (lookup (is_at (nat_cmp q)) is))
      → site_of ns js ls ≡ record (site_of ns is ls) { images = finmap.insert (finmap.from_entries is) k i }
  image_given k i h = ap (λ (m : finmap.FinMap nat_cmp FlatImage). record (site_of ns is ls) { images = m }) (one_given nat_cmp_total exact_unsigned is js k i h)

  pub image_gone : (k : ℕ) → ((q : ℕ) → lookup (is_at (nat_cmp q)) js ≡ cond (is_at (nat_cmp k) q) None (lookup (is_at (nat_cmp q)) is))
      → site_of ns js ls ≡ after (site_of ns is ls) (effect.Gone k)
  image_gone k h = ap (λ (m : finmap.FinMap nat_cmp FlatImage). record (site_of ns is ls) { images = m }) (one_taken nat_cmp_total exact_unsigned is js k h)

  -- a change written where the image was
  pub image_written : (k : ℕ) (i w : FlatImage) (change : FlatImage → FlatImage) → lookup (is_at (nat_cmp k)) is ≡ Some i → w ≡ change i
      → ((q : ℕ) → lookup (is_at (nat_cmp q)) js ≡ cond (is_at (nat_cmp k) q) (Some w) (lookup (is_at (nat_cmp q)) is))
      → (f : Flat) → site_of ns is ls ≡ f → site_of ns js ls ≡ with_image f k change
  image_written k i w change there made h f view =
      image_given k w h ∙ ap (λ (j : FlatImage). record (site_of ns is ls) { images = finmap.insert (finmap.from_entries is) k j }) made
      ∙ ap (λ (o : Option FlatImage). changed_image change k o (site_of ns is ls)) (sym (image_there k (Some i) there))
      ∙ ap (λ (g : Flat). with_image g k change) view

  -- no image, no change
  pub image_missing : (k : ℕ) (change : FlatImage → FlatImage) → lookup (is_at (nat_cmp k)) is ≡ None → js ≡ is → (f : Flat) → site_of ns is ls ≡ f → site_of ns js ls ≡ with_image f k change
  image_missing k change none same f view =
      ap (λ (es : List (ℕ × FlatImage)). site_of ns es ls) same
      ∙ ap (λ (o : Option FlatImage). changed_image change k o (site_of ns is ls)) (sym (image_there k None none))
      ∙ ap (λ (g : Flat). with_image g k change) view

  -- what is written is what was there
  pub image_kept : (k : ℕ) (i w : FlatImage) → lookup (is_at (nat_cmp k)) is ≡ Some i → w ≡ i
      → ((q : ℕ) → lookup (is_at (nat_cmp q)) js ≡ cond (is_at (nat_cmp k) q) (Some w) (lookup (is_at (nat_cmp q)) is))
      → (f : Flat) → site_of ns is ls ≡ f → site_of ns js ls ≡ f
  image_kept k i w there made h f view =
      image_given k w h ∙ ap (λ (j : FlatImage). record (site_of ns is ls) { images = finmap.insert (finmap.from_entries is) k j }) made
      ∙ ap (λ (m : finmap.FinMap nat_cmp FlatImage). record (site_of ns is ls) { images = m }) (insert_same (finmap.from_entries is) k i (image_there k (Some i) there))
      ∙ view

  -- a snapshot of an image that is there, or is not
  pub snap_there : (k t : ℕ) (o : Option FlatImage) → o ≡ lookup (is_at (nat_cmp k)) is → (f : Flat) → site_of ns is ls ≡ f → snap_of o t ≡ snap_of (image_at f k) t
  snap_there k t o there f view = ap (λ (p : Option FlatImage). snap_of p t) (sym (image_there k o (sym there)) ∙ ap (λ (g : Flat). image_at g k) view)
