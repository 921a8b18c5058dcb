-- Maps of one image that are exact but for what is owed, after a change of an object, of the header
-- or of a map.
use Rattle.std.proofs.Common.{◌≡◌, ◌≢◌, ◌⊎◌, inl, inr, ℕ, zero, suc, ◌+◌, ◌<◌, ◌≤◌, cond, eqb, Bool, true, false, List, [], set, Option, Some, None, option_map, is_some, refl, sym, ap, ◌∙◌, subst, arith}
use Rattle.std.proofs.lemmas.Bool.{cases_eq, eqb-true, lt-ltb}
use Rattle.std.proofs.lemmas.List.{get_or-set_same, get_or-set_other}
use Rattle.std.proofs.lemmas.Option.{none-some, same_Some}
use Rattle.rbd_kinds.specs.declared.header.HeaderView.{HeaderView}
use Rattle.rbd_kinds.specs.declared.header.SnapContext.{SnapContext}
use Rattle.rbd_kinds.specs.declared.header.SnapStatus.{SnapStatus}
use Rattle.rbd_kinds.specs.declared.header.SnapView.{SnapView}
use Rattle.rbd_kinds.specs.declared.id.Instance.{Instance}
use Rattle.rbd_header.specs.Header.{snap_in, snap_taken, status_marked, with_size, with_snap, with_status, without_snap}
use Rattle.rbd_header.proofs.Changed.{removed_is_unlisted}
use Rattle.rbd_object.specs.Mapped.{Mapped, versioned, mapped_blank, mapped_change}
use Rattle.rbd_object.specs.Versioned.{IsTidy, view}
use Rattle.rbd_object.proofs.MappedLemmas.{looked-mapped_change}
use Rattle.rbd_object.proofs.StepLemmas.{view-change}
use Rattle.rbd_site.specs.Records.{or_blank, put}
use Rattle.rbd_stands.specs.Condition.{IsContextOf}
use Rattle.rbd_stands.specs.Covering.{Maps, exists_at}
use Rattle.rbd_stands.proofs.Lookups.{a_value, header_left, header_marked, older_or_last}
use Rattle.rbd_stands.proofs.ObjectSteps.{put_both}
use Rattle.rbd_interference.specs.Truth.{HasNoStates, IsPutAs, map_len, map_state_in}
use Rattle.rbd_interference.proofs.MapsBehind.{with_view}
use Rattle.rbd_interference.specs.Exact.{AreExact, AreExactBut, IsExactAt, IsStateOwed}

-- ---- one object

-- the state tells whether the object is there, at a view
abbrev pub IsExactOf : (map : Option (List ℕ)) (number : ℕ) → Mapped → (v : Option ℕ) → Type 0
IsExactOf map number o v = map_state_in map number ≡ cond (is_some (view (versioned o) v)) 1 0

-- or the object is under way
abbrev pub IsExactOrOwed : (owed : ℕ → Type 0) (map : Option (List ℕ)) (number : ℕ) → Mapped → Type 0
IsExactOrOwed owed map number o = IsExactOf map number o None ⊎ IsStateOwed (map_state_in map number) owed

-- what is owed then is what was, and more
pub record AreMore (owed later : (state : ℕ) → Type 0) : Type 0 where
  pub made : owed 1 → later 1
  pub lowered : owed 2 → later 2

pub more_owed : (owed later : ℕ → Type 0) (map : Option (List ℕ)) (number : ℕ) (o : Mapped) → AreMore owed later → IsExactOrOwed owed map number o → IsExactOrOwed later map number o
more_owed owed later map number o more (inl is) = inl is
more_owed owed later map number o more (inr (inl one)) = inr (inl (one.0, more.made one.1))
more_owed owed later map number o more (inr (inr two)) = inr (inr (more.lowered two))

-- An object that is there has state 1, where its state isn't 0, or goes.
raised_one : (there : Bool) (owed later : ℕ → Type 0) (state : ℕ) → state ≢ 0 → (owed 2 → later 2) → (state ≡ cond there 1 0) ⊎ IsStateOwed state owed → (state ≡ 1) ⊎ IsStateOwed state later
raised_one true owed later state raised more (inl is) = inl is
raised_one false owed later state raised more (inl is) = absurd (raised is)
raised_one there owed later state raised more (inr (inl one)) = inl one.0
raised_one there owed later state raised more (inr (inr two)) = inr (inr (more two))

-- ---- other headers, objects and maps

pub exact_more : (owed later : ℕ → ℕ → Type 0) (h : HeaderView) (maps : Maps) (objects : ℕ → Mapped) → ((n : ℕ) → AreMore (owed n) (later n))
    → AreExactBut owed h maps objects → AreExactBut later h maps objects
exact_more owed later h maps objects more all = record {
  head = λ n. more_owed (owed n) (later n) (maps None) n (objects n) (more n) (all.head n);
  snaps = all.snaps;
}

-- what isn't owed is exact
pub exact_head : (owed : ℕ → ℕ → Type 0) (h : HeaderView) (maps : Maps) (objects : ℕ → Mapped) → ((n state : ℕ) → owed n state → ⊥)
    → AreExactBut owed h maps objects → (n : ℕ) → IsExactAt (maps None) (exists_at objects None) n
exact_head owed h maps objects free all n = by (all.head n)
  where
    by : IsExactOrOwed (owed n) (maps None) n (objects n) → IsExactAt (maps None) (exists_at objects None) n
    by (inl is) = is
    by (inr (inl one)) = absurd (free n 1 one.1)
    by (inr (inr two)) = absurd (free n 2 two)

-- so each view is exact where nothing is owed
pub all_exact : (owed : ℕ → ℕ → Type 0) (h : HeaderView) (maps : Maps) (objects : ℕ → Mapped) → ((n state : ℕ) → owed n state → ⊥) → AreExactBut owed h maps objects → AreExact h maps objects
all_exact owed h maps objects free all = record { head = exact_head owed h maps objects free all; snap = all.snaps }

module _ (owed : ℕ → ℕ → Type 0) (maps : Maps) (objects : ℕ → Mapped) where
  -- ---- a header is changed

  -- what lists no other snapshots
  pub exact_relisted : (h g : HeaderView) → ((t : ℕ) (s : SnapView) → snap_in g.snaps t ≡ Some s → snap_in h.snaps t ≡ Some s)
      → AreExactBut owed h maps objects → AreExactBut owed g maps objects
  exact_relisted h g listed all = record { head = all.head; snaps = λ t s is. all.snaps t s (listed t s is) }

  pub exact_removed : (snap : ℕ) (h : HeaderView) → AreExactBut owed h maps objects → AreExactBut owed (without_snap snap h) maps objects
  exact_removed snap h all = exact_relisted h (without_snap snap h) (λ t s is. by t s is (cases_eq t snap)) all
    where
      by : (t : ℕ) (s : SnapView) → snap_in (without_snap snap h).snaps t ≡ Some s → (t ≡ snap) ⊎ (t ≢ snap) → snap_in h.snaps t ≡ Some s
      by t s is (inl same) = absurd (none-some s (sym (removed_is_unlisted h.snaps snap) ∙ ap (snap_in (without_snap snap h).snaps) (sym same) ∙ is))
      by t s is (inr other) = sym (header_left h.snaps snap t other) ∙ is

  pub exact_added : (name : List ℕ) (h : HeaderView) → ((n : ℕ) → IsExactAt (maps (Some (h.snap_seq + 1))) (exists_at objects (Some (h.snap_seq + 1))) n)
      → AreExactBut owed h maps objects → AreExactBut owed (with_snap name h) maps objects
  exact_added name h new all = record { head = all.head; snaps = λ t s is. by t s (older_or_last h.snaps (snap_taken name h) t s is) }
    where
      by : (t : ℕ) (s : SnapView) → (snap_in h.snaps t ≡ Some s) ⊎ ((h.snap_seq + 1 ≡ t) × (snap_taken name h ≡ s)) → (n : ℕ) → IsExactAt (maps (Some t)) (exists_at objects (Some t)) n
      by t s (inl is) = all.snaps t s is
      by t s (inr is) = subst (λ m. (n : ℕ) → IsExactAt (maps (Some m)) (exists_at objects (Some m)) n) is.0 new

  pub exact_told : (f g : HeaderView) → Some f ≡ Some g → AreExactBut owed f maps objects → AreExactBut owed g maps objects
  exact_told f g same all = subst (λ h. AreExactBut owed h maps objects) (same_Some f g same) all

  pub exact_either : (b : Bool) (f g : HeaderView) → AreExactBut owed f maps objects → AreExactBut owed g maps objects → AreExactBut owed (cond b f g) maps objects
  exact_either true f g p q = p
  exact_either false f g p q = q

  -- whoever owns it
  pub exact_owned : (h : HeaderView) (owner : Option Instance) → AreExactBut owed h maps objects → AreExactBut owed (record h { owner = owner }) maps objects
  exact_owned h owner all = record { head = all.head; snaps = all.snaps }

  -- whatever the status of a snapshot
  pub exact_marked : (snap : ℕ) (status : SnapStatus) (h : HeaderView) → AreExactBut owed h maps objects → AreExactBut owed (with_status snap status h) maps objects
  exact_marked snap status h all = record {
    head = all.head;
    snaps = λ t s is. let was = a_value (status_marked snap status) (snap_in h.snaps t) s (sym (header_marked snap status h.snaps t) ∙ is) in all.snaps t was.0 was.1;
  }

  -- however long it is
  pub exact_sized : (size : ℕ) (h : HeaderView) → AreExactBut owed h maps objects → AreExactBut owed (with_size size h) maps objects
  exact_sized size h all = record { head = all.head; snaps = all.snaps }

  -- a header is made
  pub exact_made : (view : HeaderView) → view.snaps ≡ [] → ((n : ℕ) → objects n ≡ mapped_blank) → HasNoStates (maps None) → AreExactBut owed view maps objects
  exact_made made new blank zeros = record {
    head = λ n. inl (zeros n ∙ ap (λ o. cond (is_some (view (versioned o) None)) 1 0) (sym (blank n)));
    snaps = λ t s at. absurd (none-some s (ap (λ snaps. snap_in snaps t) (sym new) ∙ at));
  }

  -- ---- a map is changed

  -- the states are the same
  pub exact_again : (h : HeaderView) (now : Maps) → ((v : Option ℕ) (n : ℕ) → map_state_in (now v) n ≡ map_state_in (maps v) n) → AreExactBut owed h maps objects → AreExactBut owed h now objects
  exact_again h now same all = record {
    head = λ n. subst (λ state. (state ≡ cond (exists_at objects None n) 1 0) ⊎ IsStateOwed state (owed n)) (sym (same None n)) (all.head n);
    snaps = λ t s is n. same (Some t) n ∙ all.snaps t s is n;
  }

  -- that of a snapshot that isn't listed
  pub exact_unlisted : (h : HeaderView) (snap : ℕ) (map : Option (List ℕ)) → ((s : SnapView) → snap_in h.snaps snap ≡ Some s → ⊥)
      → AreExactBut owed h maps objects → AreExactBut owed h (with_view maps (Some snap) map) objects
  exact_unlisted h snap map unlisted all = record { head = all.head; snaps = λ t s is n. by t s is n (eqb t snap) refl }
    where
      by : (t : ℕ) (s : SnapView) → snap_in h.snaps t ≡ Some s → (n : ℕ) → (b : Bool) → eqb t snap ≡ b → map_state_in (cond b map (maps (Some t))) n ≡ cond (exists_at objects (Some t) n) 1 0
      by t s is n true same = absurd (unlisted s (ap (snap_in h.snaps) (sym (eqb-true t snap same)) ∙ is))
      by t s is n false other = all.snaps t s is n

set_same : (map : Option (List ℕ)) (object state : ℕ) → object < map_len map → map_state_in (option_map (λ states. set states object state) map) object ≡ state
set_same None object state within = absurd (omega (arith, within))
set_same (Some states) object state within = get_or-set_same states object state 0 within

set_other : (map : Option (List ℕ)) (object state n : ℕ) → n ≢ object → map_state_in (option_map (λ states. set states object state) map) n ≡ map_state_in map n
set_other None object state n other = refl
set_other (Some states) object state n other = get_or-set_other states object n state 0 other

-- the state that was set is that of an object which isn't there, or is owed from then on
exact_state : (state : ℕ) (there : Bool) (later : ℕ → Type 0) → state < 3 → (state ≡ 0 → there ≡ false) → (state ≢ 0 → later state) → (state ≡ cond there 1 0) ⊎ IsStateOwed state later
exact_state zero there later few absent owes = inl (ap (λ b. cond b 1 0) (sym (absent refl)))
exact_state (suc zero) there later few absent owes = inr (inl (refl, owes (λ is. cc)))
exact_state (suc (suc zero)) there later few absent owes = inr (inr (owes (λ is. cc)))
exact_state (suc (suc (suc n))) there later few absent owes = absurd (omega (arith, few))

pub exact_set : (owed later : ℕ → ℕ → Type 0) (h : HeaderView) (maps : Maps) (objects : ℕ → Mapped) (object state : ℕ) → object < map_len (maps None) → state < 3
    → (state ≡ 0 → exists_at objects None object ≡ false) → (state ≢ 0 → later object state) → ((n : ℕ) → n ≢ object → AreMore (owed n) (later n))
    → AreExactBut owed h maps objects → AreExactBut later h (with_view maps None (option_map (λ states. set states object state) (maps None))) objects
exact_set owed later h maps objects object state within few absent owes more all = record { head = λ n. by n (cases_eq n object); snaps = all.snaps }
  where
    now : Option (List ℕ)
    now = option_map (λ states. set states object state) (maps None)

    here : IsExactOrOwed (later object) now object (objects object)
    here =
        subst (λ is. (is ≡ cond (exists_at objects None object) 1 0) ⊎ IsStateOwed is (later object)) (sym (set_same (maps None) object state within))
        (exact_state state (exists_at objects None object) (later object) few absent owes)

    by : (n : ℕ) → (n ≡ object) ⊎ (n ≢ object) → IsExactOrOwed (later n) now n (objects n)
    by n (inl same) = subst (λ m. IsExactOrOwed (later m) now m (objects m)) (sym same) here
    by n (inr other) =
        subst (λ is. (is ≡ cond (exists_at objects None n) 1 0) ⊎ IsStateOwed is (later n)) (sym (set_other (maps None) object state n other))
        (more_owed (owed n) (later n) (maps None) n (objects n) (more n other) (all.head n))

-- ---- an object is changed

-- It is exact, or owed, and what is owed of the others stays so.
pub exact_object : (owed later : ℕ → ℕ → Type 0) (h : HeaderView) (maps : Maps) (objects : ℕ → Option Mapped) (number : ℕ) (object : Option Mapped)
    → IsExactOrOwed (later number) (maps None) number (or_blank object)
    → ((t : ℕ) (s : SnapView) → snap_in h.snaps t ≡ Some s → IsExactOf (maps (Some t)) number (or_blank object) (Some t))
    → ((n : ℕ) → n ≢ number → AreMore (owed n) (later n))
    → AreExactBut owed h maps (λ n. or_blank (objects n)) → AreExactBut later h maps (λ n. or_blank (put objects number object n))
exact_object owed later h maps objects number object head snaps more all = record {
  head = put_both (λ n o. IsExactOrOwed (later n) (maps None) n (or_blank o)) objects number object head
      (λ n other. more_owed (owed n) (later n) (maps None) n (or_blank (objects n)) (more n other) (all.head n));
  snaps = λ t s is. put_both (λ n o. IsExactOf (maps (Some t)) n (or_blank o) (Some t)) objects number object (snaps t s is) (λ n other. all.snaps t s is n);
}

-- it is there at each view where it was
pub exact_shown : (owed later : ℕ → ℕ → Type 0) (h : HeaderView) (maps : Maps) (objects : ℕ → Option Mapped) (number : ℕ) (object : Option Mapped)
    → is_some (or_blank object).head ≡ is_some (or_blank (objects number)).head
    → ((t : ℕ) (s : SnapView) → snap_in h.snaps t ≡ Some s → view (versioned (or_blank object)) (Some t) ≡ view (versioned (or_blank (objects number))) (Some t))
    → ((n : ℕ) → AreMore (owed n) (later n))
    → AreExactBut owed h maps (λ n. or_blank (objects n)) → AreExactBut later h maps (λ n. or_blank (put objects number object n))
exact_shown owed later h maps objects number object head snaps more all =
    exact_object owed later h maps objects number object
    (more_owed (owed number) (later number) (maps None) number (or_blank object) (more number)
    (subst (λ there. (map_state_in (maps None) number ≡ cond there 1 0) ⊎ IsStateOwed (map_state_in (maps None) number) (owed number)) (sym head) (all.head number)))
    (λ t s is. all.snaps t s is number ∙ ap (λ shown. cond (is_some shown) 1 0) (sym (snaps t s is)))
    (λ n other. more n) all

-- Its head becomes another under the header's context: so each listed snapshot keeps its view.
module _ (owed later : ℕ → ℕ → Type 0) (h : HeaderView) (maps : Maps) (objects : ℕ → Option Mapped) (number : ℕ) (c : SnapContext) (new : Option (List ℕ))
    (tidy : IsTidy (versioned (or_blank (objects number)))) (numbered : (t : ℕ) (s : SnapView) → snap_in h.snaps t ≡ Some s → t ≤ h.snap_seq) (context : IsContextOf h c)
    (all : AreExactBut owed h maps (λ n. or_blank (objects n))) where
  abbrev o : Mapped
  o = or_blank (objects number)

  abbrev changed : Mapped
  changed = mapped_change c new o

  kept : (t : ℕ) (s : SnapView) → snap_in h.snaps t ≡ Some s → view (versioned changed) (Some t) ≡ view (versioned o) (Some t)
  kept t s is =
      ap (λ x. view x (Some t)) (looked-mapped_change c new o)
      ∙ view-change t c new (versioned o) tidy (let below = numbered t s is in omega (arith, below, context.seq)) (context.lists t s is)

  -- it is there where it was
  pub exact_still : is_some new ≡ is_some o.head → ((n : ℕ) → AreMore (owed n) (later n)) → AreExactBut later h maps (λ n. or_blank (put objects number (Some changed) n))
  exact_still same more = exact_shown owed later h maps objects number (Some changed) same kept more all

  -- or it is owed, or exact
  pub exact_changed : IsExactOrOwed (later number) (maps None) number changed → ((n : ℕ) → n ≢ number → AreMore (owed n) (later n))
      → AreExactBut later h maps (λ n. or_blank (put objects number (Some changed) n))
  exact_changed head more =
      exact_object owed later h maps objects number (Some changed) head
      (λ t s is. all.snaps t s is number ∙ ap (λ shown. cond (is_some shown) 1 0) (sym (kept t s is)))
      more all

-- Bytes are put behind the object's state, so that its head is there.
pub exact_written : (owed later : ℕ → ℕ → Type 0) (h : HeaderView) (maps : Maps) (objects : ℕ → Option Mapped) (number : ℕ) (c : SnapContext) (bytes : List ℕ)
    → IsTidy (versioned (or_blank (objects number))) → ((t : ℕ) (s : SnapView) → snap_in h.snaps t ≡ Some s → t ≤ h.snap_seq) → IsContextOf h c → map_state_in (maps None) number ≢ 0
    → (owed number 2 → later number 2) → ((n : ℕ) → n ≢ number → AreMore (owed n) (later n))
    → AreExactBut owed h maps (λ n. or_blank (objects n))
    → AreExactBut later h maps (λ n. or_blank (put objects number (Some (mapped_change c (Some bytes) (or_blank (objects number)))) n))
exact_written owed later h maps objects number c bytes tidy numbered context raised lowered more all =
    exact_changed owed later h maps objects number c (Some bytes) tidy numbered context all
    (raised_one (is_some (or_blank (objects number)).head) (owed number) (later number) (map_state_in (maps None) number) raised lowered (all.head number)) more

-- ---- a snapshot is taken

-- the next snapshot has the head's states, and its objects are the head's
pub exact_next : (h : HeaderView) (maps : Maps) (objects : ℕ → Mapped) → ((n : ℕ) → (objects n).seq ≤ h.snap_seq) → IsPutAs (maps (Some (h.snap_seq + 1))) (maps None)
    → ((n : ℕ) → IsExactAt (maps None) (exists_at objects None) n) → (n : ℕ) → IsExactAt (maps (Some (h.snap_seq + 1))) (exists_at objects (Some (h.snap_seq + 1))) n
exact_next h maps objects seen p exact n = ap (λ map. map_state_in map n) p.is ∙ p.same n ∙ exact n ∙ ap (λ there. cond there 1 0) (sym same)
  where
    same : exists_at objects (Some (h.snap_seq + 1)) n ≡ exists_at objects None n
    same = ap (λ b. is_some (cond b (objects n).head ((versioned (objects n)).kept (h.snap_seq + 1)))) (lt-ltb (objects n).seq (h.snap_seq + 1) (let e = seen n in omega (arith, e)))
