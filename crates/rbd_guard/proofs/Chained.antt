-- The list of free places.
use Rattle.std.proofs.Common.{◌≡◌, ℕ, zero, suc, ◌+◌, ◌-◌, ◌<◌, ◌≤◌, Bool, true, false, cond, ◌||◌, eqb, List, [], ◌∷◌, length, Option, Some, None, refl, sym, ap, subst, ◌∙◌, inl, inr, true≢false, arith}
use Rattle.std.specs.Prelude.{◌⊎◌}
use Rattle.std.specs.List.{slice_get}
use Rattle.std.specs.Option.{is_some}
use Rattle.std.proofs.lemmas.Option.{slice_get_within, none-some, same_Some}
use Rattle.std.proofs.lemmas.Bool.{or_cases, eq-eqb, ne_eqb, eqb-true, eqb-false, cond-true, cond-false, cases_Bool}
use Rattle.rbd_guard.specs.declared.link.SlabPlace.{SlabPlace}
use Rattle.rbd_guard.specs.Order.{is_in, without, AreApart}
use Rattle.rbd_guard.specs.Links.{front}
use Rattle.rbd_guard.specs.Slab.{if_used, if_free, used_at, free_at, or_end, walk_free, AreChained, IsChain, AreFree}
use Rattle.rbd_guard.proofs.Apart.{head_in, tail_in, others, out, apart_without}
use Rattle.rbd_guard.proofs.Leaving.{one_leaves}

-- ---- a chain over any places

walk_chain : (free : ℕ → Option (Option ℕ)) (chain : List ℕ) → AreChained free chain → walk_free free (length chain) (front chain None) ≡ chain
walk_chain free [] l = refl
walk_chain free (p ∷ chain) l =
    ap (λ rest. p ∷ rest) (ap (λ o. walk_free free (length chain) (or_end o)) l.0 ∙ walk_chain free chain l.1)

-- the chain is the one that is walked
walked_chain : (free : ℕ → Option (Option ℕ)) (head : Option ℕ) (size : ℕ) (chain : List ℕ) → IsChain free head size chain
    → IsChain free head size (walk_free free size head)
walked_chain free head size chain is = subst (λ c. IsChain free head size c) (sym walks) is
  where
    walks : walk_free free size head ≡ chain
    walks =
        ap (λ n. walk_free free n head) is.count ∙ ap (λ from. walk_free free (length chain) from) is.first
        ∙ walk_chain free chain is.chained

chained_frame : (free others : ℕ → Option (Option ℕ)) (chain : List ℕ) → ((m : ℕ) → is_in m chain ≡ true → others m ≡ free m)
    → AreChained free chain → AreChained others chain
chained_frame free others [] same l = tt
chained_frame free others (p ∷ chain) same l =
    (same p (head_in p chain) ∙ l.0, chained_frame free others chain (λ m h. same m (tail_in p m chain h)) l.1)

-- a place in the chain is free
record HasNext (free : ℕ → Option (Option ℕ)) (p : ℕ) : Type 0 where
  next : Option ℕ
  is : free p ≡ Some next

in_chain : (free : ℕ → Option (Option ℕ)) (chain : List ℕ) (m : ℕ) → AreChained free chain → is_in m chain ≡ true → HasNext free m
in_chain free [] m l h = absurd (true≢false (sym h))
in_chain free (p ∷ chain) m l h = by (or_cases (eqb p m) (is_in m chain) h) (λ there. in_chain free chain m l.1 there)
  where
    by : (eqb p m ≡ true) ⊎ (is_in m chain ≡ true) → (is_in m chain ≡ true → HasNext free m) → HasNext free m
    by (inl same) rest = record { next = front chain None; is = ap free (sym (eqb-true p m same)) ∙ l.0 }
    by (inr there) rest = rest there

-- who isn't free isn't in the chain
not_in_chain : (free : ℕ → Option (Option ℕ)) (chain : List ℕ) (m : ℕ) → AreChained free chain → free m ≡ None → is_in m chain ≡ false
not_in_chain free chain m l used = by (is_in m chain) refl
  where
    no : HasNext free m → ⊥
    no h = none-some h.next (sym used ∙ h.is)

    by : (b : Bool) → is_in m chain ≡ b → is_in m chain ≡ false
    by true e = absurd (no (in_chain free chain m l e))
    by false e = e

-- ---- numbers that stand once, all of them below a bound, are no more than the bound

below_count : (bound : ℕ) (xs : List ℕ) → AreApart xs → ((m : ℕ) → is_in m xs ≡ true → m < bound) → length xs ≤ bound
below_count zero [] apart below = omega arith
below_count zero (x ∷ xs) apart below = absurd (let no = below x (head_in x xs) in omega (arith, no))
below_count (suc bound) xs apart below =
    by (is_in bound xs) refl (below_count bound (without bound xs) (apart_without xs bound apart)) (below_count bound xs apart)
  where
    smaller : (m : ℕ) → is_in m xs ≡ true → (m ≡ bound → ⊥) → m < bound
    smaller m h differs = by (eqb m bound) refl
      where
        by : (b : Bool) → eqb m bound ≡ b → m < bound
        by true e = absurd (differs (eqb-true m bound e))
        by false e = (let other = eqb-false m bound e in let less = below m h in grind (arith, other, less))

    kept : (m : ℕ) → is_in m (without bound xs) ≡ true → m < bound
    kept m h = by (cases_Bool (eqb m bound))
      where
        by : (eqb m bound ≡ true) ⊎ (eqb m bound ≡ false) → m < bound
        by (inl e) = absurd (true≢false (sym h ∙ (ap (λ k. is_in k (without bound xs)) (eqb-true m bound e) ∙ out xs bound)))
        by (inr e) = smaller m (sym (others xs bound m (eqb-false m bound e)) ∙ h) (eqb-false m bound e)

    by : (b : Bool) → is_in bound xs ≡ b → (((m : ℕ) → is_in m (without bound xs) ≡ true → m < bound) → length (without bound xs) ≤ bound)
        → (((m : ℕ) → is_in m xs ≡ true → m < bound) → length xs ≤ bound) → length xs ≤ suc bound
    by true e others_are all_are = (let less = others_are kept in let one = one_leaves xs bound apart e in omega (arith, less, one))
    by false e others_are all_are =
        let less = all_are (λ m h. smaller m h (λ same. true≢false (sym h ∙ (ap (λ k. is_in k xs) same ∙ e)))) in
        omega (arith, less)

-- ---- places

free_within : (places : List SlabPlace) (p : ℕ) (next : Option ℕ) → free_at places p ≡ Some next → p < length places
free_within places p next is = by (slice_get places p) refl is
  where
    by : (o : Option SlabPlace) → slice_get places p ≡ o → if_free o ≡ Some next → p < length places
    by None e free = absurd (none-some next free)
    by (Some place) e free = slice_get_within places p place e

free_isnt_used : (o : Option SlabPlace) (next : Option ℕ) → if_free o ≡ Some next → if_used o ≡ None
free_isnt_used None next e = refl
free_isnt_used (Some p) next e = by p.used e
  where
    by : (b : Bool) → cond b None (Some p.free) ≡ Some next → cond b (Some p) None ≡ None
    by true e = absurd (none-some next e)
    by false e = refl

used_isnt_free : (o : Option SlabPlace) → is_some (if_used o) ≡ true → if_free o ≡ None
used_isnt_free None e = refl
used_isnt_free (Some p) e = by p.used e
  where
    by : (b : Bool) → is_some (cond b (Some p) None) ≡ true → cond b None (Some p.free) ≡ None
    by true e = refl
    by false e = absurd (true≢false (sym e))

module _ (places : List SlabPlace) (head : Option ℕ) (size : ℕ) (are : AreFree places head size) where
  -- no more places are free than there are
  pub few_free : size ≤ length places
  few_free =
      let few = below_count (length places) (walk_free (free_at places) size head) are.apart
      (λ m h. within m (in_chain (free_at places) (walk_free (free_at places) size head) m are.chained h)) in
      let count = are.count in
      omega (arith, few, count)
    where
      within : (m : ℕ) → HasNext (free_at places) m → m < length places
      within m h = free_within places m h.next h.is

  pub none_free : head ≡ None → size ≡ 0
  none_free none = are.count ∙ ap length (by (walk_free (free_at places) size head) (sym none ∙ are.first))
    where
      by : (chain : List ℕ) → None ≡ front chain None → chain ≡ []
      by [] e = refl
      by (p ∷ chain) e = absurd (none-some p e)

  -- where the list of free places is empty, no place is free
  pub all_used : head ≡ None → (p : ℕ) → is_some (free_at places p) ≡ true → ⊥
  all_used none p free = by (free_at places p) refl free
    where
      no : (chain : List ℕ) → None ≡ front chain None → is_in p chain ≡ true → ⊥
      no [] e h = true≢false (sym h)
      no (q ∷ chain) e h = none-some q e

      by : (o : Option (Option ℕ)) → free_at places p ≡ o → is_some o ≡ true → ⊥
      by None e some = true≢false (sym some)
      by (Some next) e some = no (walk_free (free_at places) size head) (sym none ∙ are.first) (are.all p next e)

  module _ (others : List SlabPlace) where
    pub same_free : ((p : ℕ) → free_at others p ≡ free_at places p) → AreFree others head size
    same_free same =
        walked_chain (free_at others) head size (walk_free (free_at places) size head) (record {
          first = are.first;
          count = are.count;
          chained = chained_frame (free_at places) (free_at others) (walk_free (free_at places) size head) (λ m h. same m) are.chained;
          apart = are.apart;
          all = λ p next e. are.all p next (sym (same p) ∙ e);
        })

    module _ (at : ℕ) where
      pub more_free : is_some (used_at places at) ≡ true → ((p : ℕ) → free_at others p ≡ cond (eqb at p) (Some head) (free_at places p))
          → AreFree others (Some at) (size + 1)
      more_free used changed = walked_chain (free_at others) (Some at) (size + 1) (at ∷ chain) (record {
        first = refl;
        count = (let count = are.count in omega (arith, count));
        chained = (
          changed at ∙ cond-true (eqb at at) _ _ (eq-eqb at at refl) ∙ ap (λ o. Some o) are.first,
          chained_frame (free_at places) (free_at others) chain (λ m h. changed m ∙ cond-false (eqb at m) _ _ (differs m h)) are.chained,
        );
        apart = (not_in, are.apart);
        all = λ p next e. by p next (cases_Bool (eqb at p)) e;
      })
        where
          chain : List ℕ
          chain = walk_free (free_at places) size head

          not_in : is_in at chain ≡ false
          not_in = not_in_chain (free_at places) chain at are.chained (used_isnt_free (slice_get places at) used)

          differs : (m : ℕ) → is_in m chain ≡ true → eqb at m ≡ false
          differs m h = ne_eqb at m (λ same. true≢false (sym h ∙ (ap (λ k. is_in k chain) (sym same) ∙ not_in)))

          by : (p : ℕ) (next : Option ℕ) → (eqb at p ≡ true) ⊎ (eqb at p ≡ false) → free_at others p ≡ Some next → is_in p (at ∷ chain) ≡ true
          by p next (inl e) free = ap (λ k. is_in p (k ∷ chain)) (eqb-true at p e) ∙ head_in p chain
          by p next (inr e) free = tail_in at p chain (are.all p next (sym (changed p ∙ cond-false (eqb at p) _ _ e) ∙ free))

-- the first of the free places is taken
module _ (places others : List SlabPlace) (at size : ℕ) (changed : (p : ℕ) → free_at others p ≡ cond (eqb at p) None (free_at places p)) where
  rest_free : (rest : List ℕ) → IsChain (free_at places) (Some at) size (at ∷ rest) → IsChain (free_at others) (or_end (free_at places at)) (size - 1) rest
  rest_free rest is =
      record {
        first = ap or_end is.chained.0;
        count = (let count = is.count in omega (arith, count));
        chained = chained_frame (free_at places) (free_at others) rest (λ m h. changed m ∙ cond-false (eqb at m) _ _ (other m h)) is.chained.1;
        apart = is.apart.1;
        all = λ p next e. in_rest p next (cases_Bool (eqb at p)) e;
      }
    where
      other : (p : ℕ) → is_in p rest ≡ true → eqb at p ≡ false
      other p h = ne_eqb at p (λ same. true≢false (sym h ∙ (ap (λ k. is_in k rest) (sym same) ∙ is.apart.0)))

      in_rest : (p : ℕ) (next : Option ℕ) → (eqb at p ≡ true) ⊎ (eqb at p ≡ false) → free_at others p ≡ Some next → is_in p rest ≡ true
      in_rest p next (inl e) free = absurd (none-some next (sym (changed p ∙ cond-true (eqb at p) _ _ e) ∙ free))
      in_rest p next (inr e) free =
          sym (ap (λ b. b || is_in p rest) e) ∙ is.all p next (sym (changed p ∙ cond-false (eqb at p) _ _ e) ∙ free)

  pub less_free : AreFree places (Some at) size → AreFree others (or_end (free_at places at)) (size - 1)
  less_free are = by (walk_free (free_at places) size (Some at)) are
    where
      by : (chain : List ℕ) → IsChain (free_at places) (Some at) size chain → AreFree others (or_end (free_at places at)) (size - 1)
      by [] is = absurd (none-some at (sym is.first))
      by (p ∷ rest) is =
          walked_chain (free_at others) (or_end (free_at places at)) (size - 1) rest
          (rest_free rest (subst (λ q. IsChain (free_at places) (Some at) size (q ∷ rest)) (sym (same_Some at p is.first)) is))

-- ---- one place changed

pub put_used : (b : Bool) (place : SlabPlace) (o : Option SlabPlace) → place.used ≡ true → if_used (cond b (Some place) o) ≡ cond b (Some place) (if_used o)
put_used true place o used = cond-true place.used _ _ used
put_used false place o used = refl

pub put_used_free : (b : Bool) (place : SlabPlace) (o : Option SlabPlace) → place.used ≡ true → if_free (cond b (Some place) o) ≡ cond b None (if_free o)
put_used_free true place o used = cond-true place.used _ _ used
put_used_free false place o used = refl
