-- A slot takes its tickets, one after another.
use Rattle.std.proofs.Common.{◌≡◌, ◌⊎◌, inl, inr, ℕ, ◌+◌, ◌<◌, ◌≤◌, ◌==◌, ◌||◌, cond, Bool, true, false, List, [], ◌∷◌, ◌++◌, suc, length, drop, slice_index_or, Option, Some, None, refl, sym, ap, ◌∙◌, subst, append_assoc, append-nil, arith}
use Rattle.std.proofs.Math.ListN.{drop_of_length-le}
use Rattle.std.proofs.Math.Seq.{drop-cons}
use Rattle.std.proofs.lemmas.Bool.{eqb-false, ne_eqb, true≢false}
use Rattle.std.specs.Option.{option_map}
use Rattle.rbd_guard.specs.Order.{is_in, AreApart}
use Rattle.rbd_queue.specs.Line.{Member, LineView, member_of, may_enter, none_past_behind, objects_of_slot, objects_in, may_hold_objects_in, changed_member, entered}
use Rattle.rbd_queue.specs.Steady.{IsSteady}
use Rattle.rbd_queue.proofs.Passing.{own_changed, entered_is_steady}
use Rattle.rbd_slots.specs.Lines.{MayEnter}
use Rattle.rbd_slots.specs.Track.{given_tickets}
use Rattle.rbd_slots.proofs.Behind.{KeepsPast, none_past_changed}

-- two changes of one slot, one after the other
pub changed_twice : (slot : ℕ) (f g : Member → Member) → IsSteady f → (members : List Member) → changed_member slot g (changed_member slot f members) ≡ changed_member slot (λ m. g (f m)) members
changed_twice slot f g keeps [] = refl
changed_twice slot f g keeps (m ∷ members) = go (m.slot == slot) refl (changed_twice slot f g keeps members)
  where
    go : (b : Bool) → (m.slot == slot) ≡ b → changed_member slot g (changed_member slot f members) ≡ changed_member slot (λ m. g (f m)) members
        → changed_member slot g (changed_member slot f (m ∷ members)) ≡ changed_member slot (λ m. g (f m)) (m ∷ members)
    go true is rest = rw is (rw (ap (λ s. s == slot) (keeps.slot m) ∙ is) (ap (λ ms. g (f m) ∷ ms) rest))
    go false is rest = rw is (rw is (ap (λ ms. m ∷ ms) rest))

pub changed_same : (slot : ℕ) (f g : Member → Member) → ((m : Member) → f m ≡ g m) → (members : List Member) → changed_member slot f members ≡ changed_member slot g members
changed_same slot f g same [] = refl
changed_same slot f g same (m ∷ members) = go (m.slot == slot) (changed_same slot f g same members)
  where
    go : (b : Bool) → changed_member slot f members ≡ changed_member slot g members → (cond b (f m) m ∷ changed_member slot f members) ≡ (cond b (g m) m ∷ changed_member slot g members)
    go true rest = ap (λ n. n ∷ changed_member slot f members) (same m) ∙ ap (λ ms. g m ∷ ms) rest
    go false rest = ap (λ ms. m ∷ ms) rest

pub changed_none : (slot : ℕ) (f : Member → Member) → ((m : Member) → f m ≡ m) → (members : List Member) → changed_member slot f members ≡ members
changed_none slot f same [] = refl
changed_none slot f same (m ∷ members) = go (m.slot == slot) (changed_none slot f same members)
  where
    go : (b : Bool) → changed_member slot f members ≡ members → (cond b (f m) m ∷ changed_member slot f members) ≡ (m ∷ members)
    go true rest = ap (λ n. n ∷ changed_member slot f members) (same m) ∙ ap (λ ms. m ∷ ms) rest
    go false rest = ap (λ ms. m ∷ ms) rest

pub given_none : (m : Member) → given_tickets [] m ≡ m
given_none m = ap (λ objects. record m { objects = objects }) (append-nil m.objects)

given_more : (object : ℕ) (rest : List ℕ) (m : Member) → given_tickets rest (entered object m) ≡ given_tickets (object ∷ rest) m
given_more object rest m = ap (λ objects. record m { objects = objects }) (append_assoc m.objects (object ∷ []) rest)

-- none of these is among the others
abbrev pub AreNew : List ℕ → (held : List ℕ) → Type 0
AreNew [] held = Unit {0}
AreNew (object ∷ rest) held = (is_in object held ≡ false) × AreNew rest held

new_to_none : (objects : List ℕ) → AreNew objects []
new_to_none [] = tt
new_to_none (object ∷ rest) = (refl, new_to_none rest)

is_in_last : (n : ℕ) (xs : List ℕ) (x : ℕ) → is_in n xs ≡ false → (x == n) ≡ false → is_in n (xs ++ x ∷ []) ≡ false
is_in_last n [] x out other = ap (λ b. b || false) other
is_in_last n (y ∷ xs) x out other = go (y == n) refl (is_in_last n xs x)
  where
    go : (b : Bool) → (y == n) ≡ b → (is_in n xs ≡ false → (x == n) ≡ false → is_in n (xs ++ x ∷ []) ≡ false) → is_in n ((y ∷ xs) ++ x ∷ []) ≡ false
    go true is rest = absurd (true≢false (sym (ap (λ b. b || is_in n xs) is) ∙ out))
    go false is rest = ap (λ b. b || is_in n (xs ++ x ∷ [])) is ∙ rest (sym (ap (λ b. b || is_in n xs) is) ∙ out) other

-- the others stay new once one was taken
still_new : (object : ℕ) (rest held : List ℕ) → is_in object rest ≡ false → AreNew rest held → AreNew rest (held ++ object ∷ [])
still_new object [] held out new = tt
still_new object (n ∷ rest) held out new = go (n == object) refl (λ others. still_new object rest held others new.1)
  where
    go : (b : Bool) → (n == object) ≡ b → (is_in object rest ≡ false → AreNew rest (held ++ object ∷ [])) → AreNew (n ∷ rest) (held ++ object ∷ [])
    go true is others = absurd (true≢false (sym (ap (λ b. b || is_in object rest) is) ∙ out))
    go false is others = (
      is_in_last n held object new.0 (ne_eqb object n (λ same. eqb-false n object is (sym same))),
      others (sym (ap (λ b. b || is_in object rest) is) ∙ out),
    )

pub record IsEntering (slot : ℕ) (final : List Member) (rest : List ℕ) (now : LineView) : Type 0 where
  pub reaches : changed_member slot (given_tickets rest) now.members ≡ final
  pub may : (rest ≡ []) ⊎ ((may_enter slot now.members ≡ true) × (none_past_behind slot now.members ≡ true))
  pub new : AreNew rest (objects_of_slot slot now.members)
  pub apart : AreApart rest
  pub room : length rest ≤ now.reserved

found_past : (slot : ℕ) (object : ℕ) (o : Option Member) → may_hold_objects_in (option_map (entered object) o) ≡ may_hold_objects_in o
found_past slot object None = refl
found_past slot object (Some m) = refl

objects_more : (object : ℕ) (o : Option Member) → may_hold_objects_in o ≡ true → objects_in (option_map (entered object) o) ≡ objects_in o ++ object ∷ []
objects_more object None may = cc
objects_more object (Some m) may = refl

entered_past : (object : ℕ) → KeepsPast (entered object)
entered_past object m = refl

pub begins : (slot : ℕ) (objects : List ℕ) (now : LineView) → (objects ≡ []) ⊎ MayEnter slot objects now.members → length objects ≤ now.reserved
    → IsEntering slot (changed_member slot (given_tickets objects) now.members) objects now
begins slot objects now (inl none) room = record {
  reaches = refl;
  may = inl none;
  new = subst (λ os. AreNew os (objects_of_slot slot now.members)) (sym none) tt;
  apart = subst AreApart (sym none) tt;
  room = room;
}
begins slot objects now (inr may) room = record {
  reaches = refl;
  may = inr (may.member, may.last);
  new = subst (AreNew objects) (sym may.none) (new_to_none objects);
  apart = may.apart;
  room = room;
}

-- what is asked for the next ticket
pub record MayTakeNext (slot object : ℕ) (now : LineView) : Type 0 where
  pub member : may_enter slot now.members ≡ true
  pub last : none_past_behind slot now.members ≡ true
  pub once : is_in object (objects_of_slot slot now.members) ≡ false
  pub room : 0 < now.reserved

pub takes_next : (slot : ℕ) (final : List Member) (object : ℕ) (rest : List ℕ) (now : LineView) → IsEntering slot final (object ∷ rest) now → MayTakeNext slot object now
takes_next slot final object rest now e = go e.may
  where
    go : ((object ∷ rest) ≡ []) ⊎ ((may_enter slot now.members ≡ true) × (none_past_behind slot now.members ≡ true)) → MayTakeNext slot object now
    go (inl none) = cc
    go (inr may) = record {
      member = may.0;
      last = may.1;
      once = e.new.0;
      room = let room = e.room in omega (arith, room);
    }

pub goes_on : (slot : ℕ) (final : List Member) (object : ℕ) (rest : List ℕ) (now new : LineView) → IsEntering slot final (object ∷ rest) now
    → new.members ≡ changed_member slot (entered object) now.members → now.reserved ≤ new.reserved + 1 → IsEntering slot final rest new
goes_on slot final object rest now new e is room =
    let may = takes_next slot final object rest now e in
    let found : member_of slot new.members ≡ option_map (entered object) (member_of slot now.members) =
    ap (member_of slot) is ∙ own_changed now.members slot (entered object) (entered_is_steady object) in
    record {
      reaches =
          ap (changed_member slot (given_tickets rest)) is ∙ changed_twice slot (entered object) (given_tickets rest) (entered_is_steady object) now.members
          ∙ changed_same slot (λ m. given_tickets rest (entered object m)) (given_tickets (object ∷ rest)) (given_more object rest) now.members ∙ e.reaches;
      may = inr (
        ap may_hold_objects_in found ∙ found_past slot object (member_of slot now.members) ∙ may.member,
        ap (none_past_behind slot) is ∙ none_past_changed (entered object) (entered_is_steady object) (entered_past object) slot now.members ∙ may.last,
      );
      new = subst (AreNew rest) (sym (ap objects_in found ∙ objects_more object (member_of slot now.members) may.member)) (still_new object rest (objects_of_slot slot now.members) e.apart.0 e.new.1);
      apart = e.apart.1;
      room = let old = e.room in omega (arith, old, room);
    }

pub ends : (slot : ℕ) (final : List Member) (now : LineView) → IsEntering slot final [] now → now.members ≡ final
ends slot final now e = sym (changed_none slot (given_tickets []) given_none now.members) ∙ e.reaches

-- the objects from one on, where there is one
pub next_of : (objects : List ℕ) (k : ℕ) → k < length objects → drop k objects ≡ slice_index_or objects k 0 ∷ drop (k + 1) objects
next_of objects k less = drop-cons objects k 0 less ∙ ap (λ n. slice_index_or objects k 0 ∷ drop n objects) one
  where
    one : suc k ≡ k + 1
    one = omega arith

pub at_next : (slot : ℕ) (objects : List ℕ) (start : List Member) (k : ℕ) (now : LineView) → k < length objects → IsEntering slot (changed_member slot (given_tickets objects) start) (drop k objects) now
    → IsEntering slot (changed_member slot (given_tickets objects) start) (slice_index_or objects k 0 ∷ drop (k + 1) objects) now
at_next slot objects start k now less e = subst (λ rest. IsEntering slot (changed_member slot (given_tickets objects) start) rest now) (next_of objects k less) e

pub at_end : (slot : ℕ) (objects : List ℕ) (start : List Member) (k : ℕ) (now : LineView) → length objects ≤ k → IsEntering slot (changed_member slot (given_tickets objects) start) (drop k objects) now
    → now.members ≡ changed_member slot (given_tickets objects) start
at_end slot objects start k now most e =
    ends slot (changed_member slot (given_tickets objects) start) now (subst (λ rest. IsEntering slot (changed_member slot (given_tickets objects) start) rest now) (drop_of_length-le objects most) e)
