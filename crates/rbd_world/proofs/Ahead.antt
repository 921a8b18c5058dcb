-- Who stands ahead of whom in a line, and who holds no ticket for an object any more.
use Rattle.std.proofs.Common.{◌≡◌, ℕ, ◌==◌, ◌||◌, cond, not, Bool, true, false, List, [], ◌∷◌, ◌++◌, Option, Some, None, refl, sym, ap, ◌∙◌, subst}
use Rattle.std.specs.Option.{option_map}
use Rattle.std.proofs.lemmas.Bool.{true≢false, eq-eqb, eqb-true}
use Rattle.std.proofs.lemmas.Option.{none-some, same_Some}
use Rattle.rbd_queue.specs.Line.{Member, member_of, is_member, ahead, holds_ticket, is_past, changed_member, without, EachPair}
use Rattle.rbd_queue.specs.Steady.{IsSteady}
use Rattle.rbd_queue.proofs.Keeping.{found_has}
use Rattle.rbd_queue.proofs.Passing.{own_changed, gone}
use Rattle.rbd_world.specs.InLine.{IsPastWithout}

-- ---- a member that changes

changed_slot : (z : ℕ) (f : Member → Member) → IsSteady f → (m : Member) → (cond (m.slot == z) (f m) m).slot ≡ m.slot
changed_slot z f steady m = by (m.slot == z)
  where
    by : (b : Bool) → (cond b (f m) m).slot ≡ m.slot
    by true = steady.slot m
    by false = refl

pub member_changed : (z : ℕ) (f : Member → Member) → IsSteady f → (x : ℕ) (ms : List Member) → is_member x (changed_member z f ms) ≡ is_member x ms
member_changed z f steady x [] = refl
member_changed z f steady x (m ∷ ms) =
    ap (λ n. (n == x) || is_member x (changed_member z f ms)) (changed_slot z f steady m) ∙ ap (λ b. (m.slot == x) || b) (member_changed z f steady x ms)

pub ahead_changed : (z : ℕ) (f : Member → Member) → IsSteady f → (x y : ℕ) (ms : List Member) → is_member x (ahead y (changed_member z f ms)) ≡ is_member x (ahead y ms)
ahead_changed z f steady x y [] = refl
ahead_changed z f steady x y (m ∷ ms) =
    ap (λ n. is_member x (cond (n == y) [] (cond (m.slot == z) (f m) m ∷ ahead y (changed_member z f ms)))) (changed_slot z f steady m) ∙ by (m.slot == y) (ahead_changed z f steady x y ms)
  where
    by : (b : Bool) → is_member x (ahead y (changed_member z f ms)) ≡ is_member x (ahead y ms)
        → is_member x (cond b [] (cond (m.slot == z) (f m) m ∷ ahead y (changed_member z f ms))) ≡ is_member x (cond b [] (m ∷ ahead y ms))
    by true rest = refl
    by false rest =
        ap (λ n. (n == x) || is_member x (ahead y (changed_member z f ms))) (changed_slot z f steady m) ∙ ap (λ b. (m.slot == x) || b) rest

-- ---- a member that leaves

pub member_left : (z x : ℕ) (ms : List Member) → is_member x (without z ms) ≡ true → is_member x ms ≡ true
member_left z x [] is = is
member_left z x (m ∷ ms) is = by (m.slot == z) (m.slot == x) refl is (member_left z x ms)
  where
    by : (b c : Bool) → (m.slot == x) ≡ c → is_member x (cond (not b) (m ∷ without z ms) (without z ms)) ≡ true → (is_member x (without z ms) ≡ true → is_member x ms ≡ true) → (c || is_member x ms) ≡ true
    by b true same is rest = refl
    by true false differ is rest = rest is
    by false false differ is rest = rest (sym (ap (λ b. b || is_member x (without z ms)) differ) ∙ is)

pub ahead_left : (z x y : ℕ) (ms : List Member) → (x ≡ z → ⊥) → (y ≡ z → ⊥) → is_member x (ahead y ms) ≡ true → is_member x (ahead y (without z ms)) ≡ true
ahead_left z x y [] x_stays y_stays is = is
ahead_left z x y (m ∷ ms) x_stays y_stays is = by (m.slot == z) refl (m.slot == y) refl (m.slot == x) refl is (ahead_left z x y ms x_stays y_stays)
  where
    by : (a : Bool) → (m.slot == z) ≡ a → (b : Bool) → (m.slot == y) ≡ b → (c : Bool) → (m.slot == x) ≡ c → is_member x (cond b [] (m ∷ ahead y ms)) ≡ true
        → (is_member x (ahead y ms) ≡ true → is_member x (ahead y (without z ms)) ≡ true) → is_member x (ahead y (cond (not a) (m ∷ without z ms) (without z ms))) ≡ true
    by a e true f c g is rest = absurd (true≢false (sym is))
    by true e false f true g is rest = absurd (x_stays (sym (eqb-true m.slot x g) ∙ eqb-true m.slot z e))
    by true e false f false g is rest = rest (sym (ap (λ b. b || is_member x (ahead y ms)) g) ∙ is)
    by false e false f true g is rest = ap (λ b. is_member x (cond b [] (m ∷ ahead y (without z ms)))) f ∙ ap (λ b. b || is_member x (ahead y (without z ms))) g
    by false e false f false g is rest =
        ap (λ b. is_member x (cond b [] (m ∷ ahead y (without z ms)))) f ∙ ap (λ b. b || is_member x (ahead y (without z ms))) g
        ∙ rest (sym (ap (λ b. b || is_member x (ahead y ms)) g) ∙ is)

-- ---- a member that joins

pub ahead_pushed : (y : ℕ) (ms : List Member) (n : Member) → is_member y ms ≡ true → ahead y (ms ++ n ∷ []) ≡ ahead y ms
ahead_pushed y [] n is = absurd (true≢false (sym is))
ahead_pushed y (m ∷ ms) n is = by (m.slot == y) is (ahead_pushed y ms n)
  where
    by : (b : Bool) → (b || is_member y ms) ≡ true → (is_member y ms ≡ true → ahead y (ms ++ n ∷ []) ≡ ahead y ms) → cond b [] (m ∷ ahead y (ms ++ n ∷ [])) ≡ cond b [] (m ∷ ahead y ms)
    by true is rest = refl
    by false is rest = ap (λ l. m ∷ l) (rest is)

pub ahead_last : (ms : List Member) (n : Member) → is_member n.slot ms ≡ false → ahead n.slot (ms ++ n ∷ []) ≡ ms
ahead_last [] n is = ap (λ b. cond b [] (n ∷ [])) (eq-eqb n.slot n.slot refl)
ahead_last (m ∷ ms) n is = by (m.slot == n.slot) is (ahead_last ms n)
  where
    by : (b : Bool) → (b || is_member n.slot ms) ≡ false → (is_member n.slot ms ≡ false → ahead n.slot (ms ++ n ∷ []) ≡ ms) → cond b [] (m ∷ ahead n.slot (ms ++ n ∷ [])) ≡ m ∷ ms
    by true is rest = absurd (true≢false is)
    by false is rest = ap (λ l. m ∷ l) (rest is)

pub member_pushed : (x : ℕ) (ms : List Member) (n : Member) → is_member x (ms ++ n ∷ []) ≡ true → (x ≡ n.slot → ⊥) → is_member x ms ≡ true
member_pushed x [] n is differ = by (n.slot == x) refl is
  where
    by : (b : Bool) → (n.slot == x) ≡ b → (b || false) ≡ true → false ≡ true
    by true same is = absurd (differ (sym (eqb-true n.slot x same)))
    by false other is = is
member_pushed x (m ∷ ms) n is differ = by (m.slot == x) is (λ there. member_pushed x ms n there differ)
  where
    by : (b : Bool) → (b || is_member x (ms ++ n ∷ [])) ≡ true → (is_member x (ms ++ n ∷ []) ≡ true → is_member x ms ≡ true) → (b || is_member x ms) ≡ true
    by true is rest = refl
    by false is rest = rest is

-- ---- a pair

pub pair_ahead : (P : Member → Member → Type 0) (x y : ℕ) (one other : Member) (ms : List Member) → EachPair P ms → member_of x ms ≡ Some one → member_of y ms ≡ Some other
    → is_member x (ahead y ms) ≡ true → P one other
pair_ahead P x y one other [] pairs here there is = absurd (none-some one here)
pair_ahead P x y one other (m ∷ ms) pairs here there is = by (m.slot == y) (m.slot == x) refl here there is (pair_ahead P x y one other ms pairs.1)
  where
    by : (b c : Bool) → (m.slot == x) ≡ c → cond c (Some m) (member_of x ms) ≡ Some one → cond b (Some m) (member_of y ms) ≡ Some other → is_member x (cond b [] (m ∷ ahead y ms)) ≡ true
        → (member_of x ms ≡ Some one → member_of y ms ≡ Some other → is_member x (ahead y ms) ≡ true → P one other) → P one other
    by true c g here there is rest = absurd (true≢false (sym is))
    by false true g here there is rest = subst (λ m. P m other) (same_Some m one here) (found_has (P m) y ms pairs.0 other there).0
    by false false g here there is rest = rest here there (sym (ap (λ b. b || is_member x (ahead y ms)) g) ∙ is)

-- ---- who holds no ticket for an object any more

-- a change after which it stays so
abbrev pub TakesNone : (object : ℕ) → (Member → Member) → Type 0
TakesNone object f = (m : Member) → is_past m.stage ≡ true → holds_ticket object m ≡ false → (is_past (f m).stage ≡ true) × (holds_ticket object (f m) ≡ false)

pub without_changed : (slot object : ℕ) (f : Member → Member) → IsSteady f → TakesNone object f → (ms : List Member) → IsPastWithout slot object ms → IsPastWithout slot object (changed_member slot f ms)
without_changed slot object f steady takes ms is m found = by (member_of slot ms) refl (sym (own_changed ms slot f steady) ∙ found)
  where
    by : (o : Option Member) → member_of slot ms ≡ o → option_map f o ≡ Some m → (is_past m.stage ≡ true) × (holds_ticket object m ≡ false)
    by None here none = absurd (none-some m none)
    by (Some n) here some =
        let was = is n here in
        subst (λ (k : Member). (is_past k.stage ≡ true) × (holds_ticket object k ≡ false)) (same_Some (f n) m some) (takes n was.0 was.1)

pub without_gone : (slot object : ℕ) (ms : List Member) → IsPastWithout slot object (without slot ms)
without_gone slot object ms m found = absurd (none-some m (sym (gone ms slot) ∙ found))
