-- The oldest instance of a session that watches.
use Rattle.std.proofs.Common.{◌≡◌, ℕ, ◌<◌, ◌≤◌, Bool, true, false, cond, ◌||◌, List, [], ◌∷◌, Option, Some, None, refl, sym, ap, subst, ◌∙◌, inl, inr, arith}
use Rattle.std.specs.Prelude.{◌==◌, ◌≢◌, ◌⊎◌, ◌↔◌, nat_le}
use Rattle.std.proofs.lemmas.Bool.{false≢true, cond-true, eq-eqb, eqb-true, leb-true, leb-false, and_from, or_left, or_right}
use Rattle.std.proofs.lemmas.Option.{none-some, same_Some, cond_some}
use Rattle.rbd_kinds.specs.declared.id.Instance.{Instance}
use Rattle.rbd_kinds.specs.Instances.{same_instance}
use Rattle.rbd_kinds.proofs.Instances.{same_instance_is}
use Rattle.rbd_watch.specs.Watching.{watches, older, oldest_of}

same_itself : (i j : Instance) → j ≡ i → same_instance i j ≡ true
same_itself i j e =
    and_from (i.session == j.session) (i.life == j.life)
    (eq-eqb i.session j.session (ap (λ k. k.session) (sym e)))
    (eq-eqb i.life j.life (ap (λ k. k.life) (sym e)))

-- an instance of the session, or none
abbrev of_session : ℕ → Instance → Option Instance
of_session session w = cond (w.session == session) (Some w) None

-- the older of two is one of them
older_is_one : (a b : Option Instance) (i : Instance) → older a b ≡ Some i → (a ≡ Some i) ⊎ (b ≡ Some i)
older_is_one None b i e = inr e
older_is_one (Some one) None i e = inl e
older_is_one (Some one) (Some other) i e = by (nat_le one.life other.life) e
  where
    by : (b : Bool) → cond b (Some one) (Some other) ≡ Some i → (Some one ≡ Some i) ⊎ (Some other ≡ Some i)
    by true h = inl h
    by false h = inr h

-- one that has at most some life is named
abbrev IsNamed : Option Instance → ℕ → Type 0
IsNamed named life = (k : Instance) × (named ≡ Some k) × (k.life ≤ life)

named_first : (one : Instance) (b : Option Instance) → IsNamed (older (Some one) b) one.life
named_first one None = (one, refl, omega arith)
named_first one (Some other) = by (nat_le one.life other.life) refl
  where
    by : (b : Bool) → nat_le one.life other.life ≡ b → (k : Instance) × (cond b (Some one) (Some other) ≡ Some k) × (k.life ≤ one.life)
    by true h = (one, refl, omega arith)
    by false h = let less : other.life < one.life = leb-false one.life other.life h in (other, refl, omega (arith, less))

named_second : (a : Option Instance) (other : Instance) → IsNamed (older a (Some other)) other.life
named_second None other = (other, refl, omega arith)
named_second (Some one) other = by (nat_le one.life other.life) refl
  where
    by : (b : Bool) → nat_le one.life other.life ≡ b → (k : Instance) × (cond b (Some one) (Some other) ≡ Some k) × (k.life ≤ other.life)
    by true h = (one, refl, leb-true one.life other.life h)
    by false h = (other, refl, omega arith)

-- each one of the session that watches has at least the life of the one that is named
named : (session : ℕ) (watchers : List Instance) (j : Instance) → watches j watchers ≡ true → j.session ≡ session → IsNamed (oldest_of session watchers) j.life
named session [] j is of = absurd (false≢true is)
named session (w ∷ watchers) j is of = by (same_instance j w) refl is (λ rest. named session watchers j rest of)
  where
    by : (b : Bool) → same_instance j w ≡ b → (b || watches j watchers) ≡ true → (watches j watchers ≡ true → IsNamed (oldest_of session watchers) j.life)
        → IsNamed (older (of_session session w) (oldest_of session watchers)) j.life
    by true e h rest =
        let that : j ≡ w = same_instance_is j w e in
        let here : of_session session w ≡ Some w = cond-true (w.session == session) (Some w) None (eq-eqb w.session session (ap (λ k. k.session) (sym that) ∙ of)) in
        subst (λ a. IsNamed (older a (oldest_of session watchers)) j.life) (sym here)
        (subst (λ life. IsNamed (older (Some w) (oldest_of session watchers)) life) (ap (λ k. k.life) (sym that)) (named_first w (oldest_of session watchers)))
    by false e h rest =
        let k = (rest h).0 in
        let m = named_second (of_session session w) k in
        let less : k.life ≤ j.life = (rest h).2 in
        let least : m.0.life ≤ k.life = m.2 in
        (m.0, ap (older (of_session session w)) (rest h).1 ∙ m.1, omega (arith, less, least))

pub oldest_watches : (session : ℕ) (watchers : List Instance) (oldest : Instance) → oldest_of session watchers ≡ Some oldest
    → (watches oldest watchers ≡ true) × (oldest.session ≡ session)
oldest_watches session [] i e = absurd (none-some i e)
oldest_watches session (w ∷ watchers) i e =
    by (older_is_one (of_session session w) (oldest_of session watchers) i e) (oldest_watches session watchers i)
  where
    by : (of_session session w ≡ Some i) ⊎ (oldest_of session watchers ≡ Some i)
        → (oldest_of session watchers ≡ Some i → (watches i watchers ≡ true) × (i.session ≡ session))
        → ((same_instance i w || watches i watchers) ≡ true) × (i.session ≡ session)
    by (inl here) rest =
        let that : ((w.session == session) ≡ true) × (w ≡ i) = cond_some (w.session == session) w i here in
        (or_left (same_instance i w) (watches i watchers) (same_itself i w that.1), ap (λ k. k.session) (sym that.1) ∙ eqb-true w.session session that.0)
    by (inr behind) rest = (or_right (same_instance i w) (watches i watchers) (rest behind).0, (rest behind).1)

pub oldest_is_least : (session : ℕ) (watchers : List Instance) (oldest other : Instance) → oldest_of session watchers ≡ Some oldest
    → watches other watchers ≡ true → other.session ≡ session → oldest.life ≤ other.life
oldest_is_least session watchers oldest other e is of =
    let k = named session watchers other is of in
    let that : oldest ≡ k.0 = same_Some oldest k.0 (sym e ∙ k.1) in
    subst (λ i. i.life ≤ other.life) (sym that) k.2

pub none_watches : (session : ℕ) (watchers : List Instance)
    → (oldest_of session watchers ≡ None) ↔ ((instance : Instance) → watches instance watchers ≡ true → instance.session ≢ session)
none_watches session watchers = (gone, by (oldest_of session watchers) refl)
  where
    gone : oldest_of session watchers ≡ None → (instance : Instance) → watches instance watchers ≡ true → instance.session ≢ session
    gone e i is of = let k = named session watchers i is of in none-some k.0 (sym e ∙ k.1)

    by : (o : Option Instance) → oldest_of session watchers ≡ o → ((instance : Instance) → watches instance watchers ≡ true → instance.session ≢ session) → o ≡ None
    by None e absent = refl
    by (Some i) e absent = let is = oldest_watches session watchers i e in absurd (absent i is.0 is.1)
