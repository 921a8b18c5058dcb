-- std's maps and sets, which are lists in order, as finite maps and sets.
use Rattle.std.proofs.Common.{◌≡◌, Bool, true, false, cond, not, ◌&&◌, ◌||◌, List, [], ◌∷◌, length, Some, None, Ordering, refl, sym, ◌∙◌, ap}
use Rattle.std.specs.Map.{lookup, keys_of}
use Rattle.std.specs.BTreeMap.{is_at}
use Rattle.std.specs.Cmp.{IsTotalOrder, Equal-is, eq_by_cmp_equiv}
use Rattle.std.specs.FinMap.{FinMap, IsAntisymmetric, find, put, entries, empty, from_entries, insert, remove, get, len, get-insert, get-remove, get-from_entries, same_map, entries-insert, len-entries, len-empty}
use Rattle.std.specs.FinMap.Entries.{by_order}
use Rattle.std.proofs.lemmas.List.{nil_from_length}
use Rattle.std.specs.FinSet as finset
use Rattle.std.specs.List.{list_any}
use Rattle.std.specs.Ordering.{eq_by_cmp}
use Rattle.std.specs.List.Sorted.{IsStrictlySortedBy}

swapped : {X : Type 0} (a b : Bool) (x y z : X) → (a ≡ true → b ≡ true → ⊥) → cond a x (cond b y z) ≡ cond b y (cond a x z)
swapped true true x y z apart = absurd (apart refl refl)
swapped true false x y z apart = refl
swapped false b x y z apart = refl

module _ {K X : Type 0} {R : K → K → Ordering} (o : IsTotalOrder R) where
  find_lookup : (es : List (K × X)) (q : K) → find R q es ≡ lookup (is_at (R q)) es
  find_lookup [] q = refl
  find_lookup (e ∷ es) q = ap (cond (is_at (R q) e.0) (Some e.1)) (find_lookup es q)

  -- what the map of the entries has at a key
  pub get_entries : (es : List (K × X)) (q : K) → get (from_entries {R = R} es) q ≡ lookup (is_at (R q)) es
  get_entries es q = get-from_entries o es q ∙ find_lookup es q

  -- entries that differ at one key, which has a value
  pub one_given : IsAntisymmetric R → (es fs : List (K × X)) (k : K) (v : X) → ((q : K) → lookup (is_at (R q)) fs ≡ cond (is_at (R k) q) (Some v) (lookup (is_at (R q)) es))
      → from_entries {R = R} fs ≡ insert (from_entries es) k v
  one_given same es fs k v h = same_map o same _ _ (λ q.
      get_entries fs q ∙ h q ∙ ap (λ b. cond b (Some v) (lookup (is_at (R q)) es)) ((eq_by_cmp_equiv o).symm k q)
      ∙ sym (get-insert o (from_entries es) k v q ∙ ap (cond (is_at (R q) k) (Some v)) (get_entries es q)))

  -- entries that differ at one key, which has none
  pub one_taken : IsAntisymmetric R → (es fs : List (K × X)) (k : K) → ((q : K) → lookup (is_at (R q)) fs ≡ cond (is_at (R k) q) None (lookup (is_at (R q)) es))
      → from_entries {R = R} fs ≡ remove (from_entries es) k
  one_taken same es fs k h = same_map o same _ _ (λ q.
      get_entries fs q ∙ h q ∙ ap (λ b. cond b None (lookup (is_at (R q)) es)) ((eq_by_cmp_equiv o).symm k q)
      ∙ sym (get-remove o (from_entries es) k q ∙ ap (cond (is_at (R q) k) None) (get_entries es q)))

  -- one key taken and another given, in either order
  pub taken_and_given : IsAntisymmetric R → (m : FinMap R X) (from to : K) (v : X) → (from ≡ to → ⊥) → remove (insert m to v) from ≡ insert (remove m from) to v
  taken_and_given exact m from to v other = same_map o exact _ _ (λ q.
      get-remove o (insert m to v) from q
      ∙ ap (cond (eq_by_cmp R q from) None) (get-insert o m to v q)
      ∙ swapped (eq_by_cmp R q from) (eq_by_cmp R q to) None (Some v) (get m q) (λ e g. other (sym (exact q from ((Equal-is (R q from)).0 e)) ∙ exact q to ((Equal-is (R q to)).0 g)))
      ∙ sym (get-insert o (remove m from) to v q
      ∙ ap (cond (eq_by_cmp R q to) (Some v)) (get-remove o m from q)))

  put_first : (k : K) (v : X) (es : List (K × X)) → IsStrictlySortedBy R (k ∷ keys_of es) → put R k v es ≡ (k, v) ∷ es
  unfolding IsStrictlySortedBy
  put_first k v [] h = refl
  put_first k v (e ∷ es) h = ap (λ (r : Ordering). by_order r ((k, v) ∷ e ∷ es) ((e.0, v) ∷ es) (e ∷ put R k v es)) h.0.0

  -- entries in order are those of their map
  pub entries_in_order : (es : List (K × X)) → IsStrictlySortedBy R (keys_of es) → entries (from_entries {R = R} es) ≡ es
  unfolding IsStrictlySortedBy
  entries_in_order [] h = nil_from_length (entries (empty {X = X} {R = R})) (sym (len-entries (empty {X = X} {R = R})) ∙ len-empty R X)
  entries_in_order (e ∷ es) h = entries-insert o (from_entries es) e.0 e.1 ∙ ap (put R e.0 e.1) (entries_in_order es h.1) ∙ put_first e.0 e.1 es h

  -- as many as there are
  pub len_in_order : (es : List (K × X)) → IsStrictlySortedBy R (keys_of es) → len (from_entries {R = R} es) ≡ length es
  len_in_order es h = len-entries (from_entries es) ∙ ap length (entries_in_order es h)

module _ {K : Type 0} {R : K → K → Ordering} (o : IsTotalOrder R) where
  or_true : (b x : Bool) → cond b true x ≡ (b || x)
  or_true true x = refl
  or_true false x = refl

  and_not : (b x : Bool) → cond b false x ≡ (not b && x)
  and_not true x = refl
  and_not false x = refl

  -- keys that differ at one, which is there
  pub one_added : IsAntisymmetric R → (ks ls : List K) (k : K) → ((q : K) → list_any (is_at (R q)) ls ≡ cond (is_at (R k) q) true (list_any (is_at (R q)) ks))
      → finset.from_list {R = R} ls ≡ finset.insert (finset.from_list ks) k
  one_added same ks ls k h = finset.same_set o same _ _ (λ q.
      finset.contains-from_list o ls q ∙ h q ∙ ap (λ b. cond b true (list_any (is_at (R q)) ks)) ((eq_by_cmp_equiv o).symm k q) ∙ or_true (is_at (R q) k) (list_any (is_at (R q)) ks)
      ∙ sym (finset.contains-insert o (finset.from_list ks) k q ∙ ap (λ b. is_at (R q) k || b) (finset.contains-from_list o ks q)))

  -- keys that differ at one, which isn't there
  pub one_dropped : IsAntisymmetric R → (ks ls : List K) (k : K) → ((q : K) → list_any (is_at (R q)) ls ≡ cond (is_at (R k) q) false (list_any (is_at (R q)) ks))
      → finset.from_list {R = R} ls ≡ finset.remove (finset.from_list ks) k
  one_dropped same ks ls k h = finset.same_set o same _ _ (λ q.
      finset.contains-from_list o ls q ∙ h q ∙ ap (λ b. cond b false (list_any (is_at (R q)) ks)) ((eq_by_cmp_equiv o).symm k q) ∙ and_not (is_at (R q) k) (list_any (is_at (R q)) ks)
      ∙ sym (finset.contains-remove o (finset.from_list ks) k q ∙ ap (λ b. not (is_at (R q) k) && b) (finset.contains-from_list o ks q)))
