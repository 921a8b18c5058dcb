-- Object maps that were changed at one view: in a store, and in the records of a site.
use Rattle.std.proofs.Common.{◌≡◌, ℕ, zero, suc, ◌+◌, ◌-◌, ◌*◌, ◌^◌, ◌≤◌, Bool, true, false, cond, eqb, ◌&&◌, List, [], length, map, set, Option, Some, None, refl, sym, ap, ◌∙◌, subst, arith, length-append}
use Rattle.std.specs.Option.{option_cmp, option_eq}
use Rattle.std.specs.Ordering.{nat_cmp, is_eq}
use Rattle.std.specs.BTreeMap.{BTreeMap, get, is_at}
use Rattle.std.specs.List.{list_all, range_with_len}
use Rattle.std.proofs.Math.Path.{fun_ext}
use Rattle.std.proofs.lemmas.Bool.{eqb-true}
use Rattle.std.proofs.lemmas.List.{length-replicate, length-set}
use Rattle.rbd_kinds.specs.declared.answer.Answer.TheVariants as answer
use Rattle.rbd_kinds.specs.declared.map_op.MapOp.{MapOp}
use Rattle.rbd_kinds.specs.declared.map_op.MapOp.TheVariants.{Resize, Get, Put, Set, Remove}
use Rattle.rbd_kinds.specs.States.{HoldStates, is_state, state_at}
use Rattle.rbd_map.specs.States.{AreStates, bits_of, states_of}
use Rattle.rbd_map.proofs.Packing.{are_states-padded, are_states-set, hold_states, length-bits_of, length-states_of}
use Rattle.rbd_site.specs.declared.map_key.MapKey.{MapKey}
use Rattle.rbd_site.specs.InForm.{IsMapInForm}
use Rattle.rbd_site.specs.Maps.{map_in, map_key, map_key_cmp}
use Rattle.rbd_site.specs.MapStep.{AreBits, MayDoOnMap, lengthened, map_after, states_answer}
use Rattle.rbd_site.specs.Records.{Records, put_map, with_map}
use Rattle.rbd_site.proofs.OneChange.{is_eq-nat_cmp, is_eq-then}

-- ---- views

is_eq-view : (a b : Option ℕ) → is_eq (option_cmp nat_cmp a b) ≡ option_eq eqb b a
is_eq-view None None = refl
is_eq-view None (Some b) = refl
is_eq-view (Some a) None = refl
is_eq-view (Some a) (Some b) = is_eq-nat_cmp a b

pub same_view : (v view : Option ℕ) → option_eq eqb v view ≡ true → v ≡ view
same_view None None same = refl
same_view None (Some b) same = cc
same_view (Some a) None same = cc
same_view (Some a) (Some b) same = ap Some (eqb-true a b same)

-- the key of a map is the key of one map
same_map : (k : MapKey) (i : ℕ) (v : Option ℕ) → is_at (map_key_cmp k) (map_key i v) ≡ (eqb i k.image && option_eq eqb v k.snap)
same_map k i v = is_eq-then (nat_cmp k.image i) (option_cmp nat_cmp k.snap v) ∙ (λ j. is_eq-nat_cmp k.image i j && is_eq-view k.snap v j)

-- ---- maps changed at one view

-- the map that is there is put again
pub put_map_same : {T : Type 0} (maps : (image : ℕ) (view : Option ℕ) → T) (image : ℕ) (view : Option ℕ) (value : T) → value ≡ maps image view
    → (i : ℕ) (v : Option ℕ) → put_map maps image view value i v ≡ maps i v
put_map_same {T} maps image view value is i v = go (eqb i image) refl
  where
    at_view : (s : Bool) → option_eq eqb v view ≡ s → cond s value (maps image v) ≡ maps image v
    at_view true e = is ∙ ap (maps image) (sym (same_view v view e))
    at_view false e = refl

    go : (t : Bool) → eqb i image ≡ t → cond t (λ w. cond (option_eq eqb w view) value (maps image w)) (maps i) v ≡ maps i v
    go true e = at_view (option_eq eqb v view) refl ∙ ap (λ n. maps n v) (sym (eqb-true i image e))
    go false e = refl

pub with_map_same : (image : ℕ) (view : Option ℕ) (value : Option (List ℕ)) (r : Records) → value ≡ r.maps image view → with_map image view value r ≡ r
with_map_same image view value r is =
    ap (λ (maps : ℕ → Option ℕ → Option (List ℕ)). record r { maps = maps }) (fun_ext (λ i. fun_ext (put_map_same r.maps image view value is i)))

-- of each view, where it holds of the one that changed and of the others as before
pub put_map_each : {T : Type 0} (P : (image : ℕ) (view : Option ℕ) → T → Type 0) (maps : (image : ℕ) (view : Option ℕ) → T) (image : ℕ) (view : Option ℕ) (value : T)
    → P image view value → ((i : ℕ) (v : Option ℕ) → P i v (maps i v)) → (i : ℕ) (v : Option ℕ) → P i v (put_map maps image view value i v)
put_map_each {T} P maps image view value here others i v = go (eqb i image) refl
  where
    at_view : (s : Bool) → option_eq eqb v view ≡ s → P image v (cond s value (maps image v))
    at_view true e = subst (λ w. P image w value) (sym (same_view v view e)) here
    at_view false e = others image v

    go : (t : Bool) → eqb i image ≡ t → P i v (cond t (λ w. cond (option_eq eqb w view) value (maps image w)) (maps i) v)
    go true e = subst (λ n. P n v (cond (option_eq eqb v view) value (maps image v))) (sym (eqb-true i image e)) (at_view (option_eq eqb v view) refl)
    go false e = others i v

-- another map is as before
pub put_map_other : {T : Type 0} (maps : (image : ℕ) (view : Option ℕ) → T) (image : ℕ) (view : Option ℕ) (value : T) (i : ℕ) (v : Option ℕ)
    → (eqb i image && option_eq eqb v view) ≡ false → put_map maps image view value i v ≡ maps i v
put_map_other {T} maps image view value i v other = go (eqb i image) (option_eq eqb v view) refl refl other
  where
    go : (s t : Bool) → eqb i image ≡ s → option_eq eqb v view ≡ t → s && t ≡ false → cond s (λ w. cond (option_eq eqb w view) value (maps image w)) (maps i) v ≡ maps i v
    go true true a b other = cc
    go true false a b other = ap (λ c. cond c value (maps image v)) b ∙ ap (λ n. maps n v) (sym (eqb-true i image a))
    go false t a b other = refl

-- ---- the map of a store, changed at one key

pub map_put : (old new : BTreeMap MapKey (List ℕ)) (k : MapKey) (held after : Option (List ℕ))
    → ((q : MapKey) → get map_key_cmp new q ≡ cond (is_at (map_key_cmp k) q) held (get map_key_cmp old q)) → held ≡ after
    → (i : ℕ) (v : Option ℕ) → map_in new i v ≡ put_map (map_in old) k.image k.snap after i v
map_put old new k held after at_key is i v =
    at_key (map_key i v) ∙ (λ j. cond (same_map k i v j) (is j) (map_in old i v)) ∙ go (eqb i k.image) refl
  where
    go : (t : Bool) → eqb i k.image ≡ t
        → cond (t && option_eq eqb v k.snap) after (map_in old i v) ≡ cond t (λ w. cond (option_eq eqb w k.snap) after (map_in old k.image w)) (map_in old i) v
    go true e = ap (λ image. cond (option_eq eqb v k.snap) after (map_in old image v)) (eqb-true i k.image e)
    go false e = refl

-- the value that was there was written again
pub map_same : (old new : BTreeMap MapKey (List ℕ)) (k : MapKey) (held : Option (List ℕ))
    → ((q : MapKey) → get map_key_cmp new q ≡ cond (is_at (map_key_cmp k) q) held (get map_key_cmp old q)) → held ≡ map_in old k.image k.snap
    → (i : ℕ) (v : Option ℕ) → map_in new i v ≡ map_in old i v
map_same old new k held at_key is i v =
    map_put old new k held (map_in old k.image k.snap) at_key is i v ∙ put_map_same (map_in old) k.image k.snap (map_in old k.image k.snap) refl i v

-- ---- maps in form

all_held : (bits : List ℕ) → HoldStates bits → (from n : ℕ) → list_all is_state (map (state_at bits) (range_with_len from n)) ≡ true
all_held bits hold from zero = refl
all_held bits hold from (suc n) = ap (λ b. b && list_all is_state (map (state_at bits) (range_with_len (from + 1) n))) (hold from) ∙ all_held bits hold (from + 1) n

pub held_states : (bits : List ℕ) → HoldStates bits → (count : ℕ) → AreStates (states_of bits count)
held_states bits hold count = all_held bits hold 0 count

lengthened_form : (count : ℕ) (states : List ℕ) → count ≤ 2 ^ 20 → IsMapInForm states → IsMapInForm (lengthened count states)
lengthened_form count states few form = record {
  are = are_states-padded states (count - length states) form.are;
  few = rw (length-append, length-replicate) (omega (arith, few, form.few));
}

no_states : IsMapInForm []
no_states = record { are = refl; few = omega arith }

pub map_form_after : (old : Option (List ℕ)) (o : MapOp) → ((states : List ℕ) → old ≡ Some states → IsMapInForm states) → MayDoOnMap old o
    → (states : List ℕ) → map_after old o ≡ Some states → IsMapInForm states
map_form_after None (Resize count) form may states is = subst IsMapInForm (let same : lengthened count [] ≡ states = cc in same) (lengthened_form count [] may no_states)
map_form_after (Some s) (Resize count) form may states is = subst IsMapInForm (let same : lengthened count s ≡ states = cc in same) (lengthened_form count s may (form s refl))
map_form_after old (Get snap) form may states is = form states is
map_form_after old (Put snap bits) form may states is =
    subst IsMapInForm (let same : states_of bits (4 * length bits) ≡ states = cc in same)
    (record { are = held_states bits may.states (4 * length bits); few = rw (length-states_of bits (4 * length bits)) may.long })
map_form_after None (Set snap object state) form may states is = cc
map_form_after (Some s) (Set snap object state) form may states is =
    subst IsMapInForm (let same : set s object state ≡ states = cc in same)
    (record { are = are_states-set s object state (form s refl).are may.1; few = rw length-set (form s refl).few })
map_form_after old (Remove snap) form may states is = cc

-- ---- what is told

pub told_bits : (held : Option (List ℕ)) (bits : List ℕ) → ((states : List ℕ) → held ≡ Some states → IsMapInForm states) → states_answer held ≡ answer.Bits bits → AreBits bits
told_bits None bits form is = absurd (cc)
told_bits (Some states) bits form is =
    let same : bits_of states ≡ bits = cc in
    subst AreBits same
    (record {
      states = hold_states states (form states refl).are;
      long = rw (length-bits_of states) (omega (arith, (form states refl).few));
    })
