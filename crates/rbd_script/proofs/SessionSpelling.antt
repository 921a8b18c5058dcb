-- Tokens that name sessions, sites and kinds of operations, and how often a slot is polled.
use Rattle.std.proofs.Common.{◌≡◌, ◌≢◌, ◌⊎◌, inl, inr, ℕ, zero, suc, ◌+◌, ◌<◌, ◌≤◌, ◌&&◌, ◌||◌, not, cond, Bool, true, false, List, [], ◌∷◌, length, get_or, Ok, Err, refl, sym, ap, ◌∙◌, subst, arith}
use Rattle.std.specs.Prelude.{codes, decimal, nat_eq, nat_lt, position}
use Rattle.std.specs.List.{list_any, position_or_len}
use Rattle.std.specs.Cmp.Lexicographic.{other_text, pointwise, same_text}
use Rattle.std.proofs.Math.ListN.{get_or-map}
use Rattle.std.proofs.lemmas.Bool.{and_parts, false_from_ne_true, not-true}
use Rattle.std.proofs.lemmas.Bool.Decides.{nat_tests}
use Rattle.std.proofs.lemmas.Cmp.{nat_list_eq_equiv}
use Rattle.std.proofs.lemmas.List.Quantifiers.{position-Some}
use Rattle.rbd_kinds.specs.declared.id.SiteId.{SiteId}
use Rattle.rbd_kinds.specs.declared.id.SiteId.TheVariants.{A, B}
use Rattle.rbd_kinds.specs.declared.operation_kind.OpKind.{OpKind}
use Rattle.rbd_kinds.specs.Operation.{op_word}
use Rattle.rbd_script.specs.declared.fault.LineCause.TheVariants.{BadName, UnknownWord}
use Rattle.rbd_script.specs.declared.script.Declared.{Declared}
use Rattle.rbd_script.specs.EventSpelling.{IsSession, session_name, site_word}
use Rattle.rbd_script.specs.Number.{number_between}
use Rattle.rbd_script.specs.Part.{part_of}
use Rattle.rbd_script.specs.Part.Part.{Kind, NewSession, Session, Site, Times}
use Rattle.rbd_script.specs.Session.{has_session_name, is_session_name, new_session_of, session_of_token}
use Rattle.rbd_script.specs.Token.{is as same}
use Rattle.rbd_script.specs.Word.{all_kinds, kind_of_token, site_of_token, with_word}
use Rattle.rbd_script.proofs.CommandSaid.{found_word, known_ok}
use Rattle.rbd_script.proofs.KindWords.{kind_with_word}
use Rattle.rbd_script.proofs.PartSpelling.{before_ok, pair_is, place_ok}
use Rattle.rbd_script.proofs.TokenSpelling.{if_ok, number_said}

abbrev Tokens : Type 0
Tokens = List (List ℕ)

-- stands where there is no session
abbrev nobody : Declared
nobody = record { line = 0; name = []; home = A }

name_is : (sessions : List Declared) (n : ℕ) → session_name sessions n ≡ (get_or sessions n nobody).name
name_is sessions n = get_or-map (λ (d : Declared). d.name) sessions n nobody

place_is : (p : Declared → Bool) (sessions : List Declared) (n : ℕ) → n < length sessions → p (get_or sessions n nobody) ≡ true
    → ((k : ℕ) → k < n → p (get_or sessions k nobody) ≡ false) → position_or_len p sessions ≡ n
place_is p [] n within is none = absurd (omega arith)
place_is p (d ∷ sessions) zero within is none = rw is refl
place_is p (d ∷ sessions) (suc n) within is none =
    let rest = place_is p sessions n (omega arith) is (λ k below. none (suc k) (omega arith)) in
    let one : 1 + n ≡ suc n = omega arith in
    rw (none 0 (omega arith)) (ap (λ k. 1 + k) rest ∙ one)

lt_true : (n m : ℕ) → n < m → nat_lt n m ≡ true
lt_true n m lt = grind (arith, nat_tests)

pub session_read : (sessions : List Declared) (n : ℕ) → IsSession sessions n → session_of_token sessions (session_name sessions n) ≡ Ok n
unfolding session_of_token
session_read sessions n s =
    let t = session_name sessions n in
    let is : has_session_name t (get_or sessions n nobody) ≡ true = subst (λ x. pointwise nat_eq x t ≡ true) (name_is sessions n) (nat_list_eq_equiv.refl t) in
    let none : (k : ℕ) → k < n → has_session_name t (get_or sessions k nobody) ≡ false = λ k below.
    false_from_ne_true (has_session_name t (get_or sessions k nobody)) (λ told. s.first k below (name_is sessions k ∙ same_text (get_or sessions k nobody).name t (sym told))) in
    rw (place_is (has_session_name t) sessions n s.declared is none, lt_true n (length sessions) s.declared) refl

session_told : (sessions : List Declared) (t : List ℕ) (n : ℕ) → session_of_token sessions t ≡ Ok n → (t ≡ session_name sessions n) × IsSession sessions n
unfolding session_of_token
session_told sessions t n is =
    let p = position-Some (has_session_name t) sessions n nobody (known_ok (position (has_session_name t) sessions) n is) in
    let name : session_name sessions n ≡ t = name_is sessions n ∙ same_text (get_or sessions n nobody).name t (sym p.1) in (
      sym name,
      record {
        declared = p.0;
        first = λ k below equal. other_text (get_or sessions k nobody).name t (sym (p.2 k below)) (sym (name_is sessions k) ∙ equal ∙ name);
      },
    )

pub session_said : (sessions : List Declared) (ts rest : Tokens) (n : ℕ) → part_of (Session sessions) ts ≡ Ok (n, rest) → (ts ≡ session_name sessions n ∷ rest) × IsSession sessions n
unfolding part_of
session_said sessions ts rest n is =
    let p = place_ok (session_of_token sessions) ts rest n is in
    let told = session_told sessions p.0 n p.2 in
    (p.1 ∙ ap (λ x. x ∷ rest) told.0, told.1)

pub site_read : (s : SiteId) → site_of_token (site_word s) ≡ Ok s
unfolding site_of_token
site_read A = refl
site_read B = refl

site_told : (t : List ℕ) (s : SiteId) → site_of_token t ≡ Ok s → t ≡ site_word s
unfolding site_of_token
site_told t s is = first (same (codes "a") t) refl is
  where
    second : (b : Bool) → same (codes "b") t ≡ b → cond b (Ok B) (Err UnknownWord) ≡ Ok s → t ≡ site_word s
    second true told found = let one : B ≡ s = cc in same_text t (codes "b") (sym told) ∙ ap site_word one
    second false told found = cc

    first : (b : Bool) → same (codes "a") t ≡ b → cond b (Ok A) (cond (same (codes "b") t) (Ok B) (Err UnknownWord)) ≡ Ok s → t ≡ site_word s
    first true told found = let one : A ≡ s = cc in same_text t (codes "a") (sym told) ∙ ap site_word one
    first false told found = second (same (codes "b") t) refl found

pub site_said : (ts rest : Tokens) (s : SiteId) → part_of Site ts ≡ Ok (s, rest) → ts ≡ site_word s ∷ rest
unfolding part_of
site_said ts rest s is = let p = place_ok site_of_token ts rest s is in p.1 ∙ ap (λ x. x ∷ rest) (site_told p.0 s p.2)

pub kind_read : (k : OpKind) → kind_of_token (op_word k) ≡ Ok k
unfolding kind_of_token
kind_read k = rw (kind_with_word k) refl

kind_told : (t : List ℕ) (k : OpKind) → kind_of_token t ≡ Ok k → t ≡ op_word k
unfolding kind_of_token
kind_told t k is = found_word op_word all_kinds t k (known_ok (with_word op_word all_kinds t) k is)

pub kind_said : (ts rest : Tokens) (k : OpKind) → part_of Kind ts ≡ Ok (k, rest) → ts ≡ op_word k ∷ rest
unfolding part_of
kind_said ts rest k is = let p = place_ok kind_of_token ts rest k is in p.1 ∙ ap (λ x. x ∷ rest) (kind_told p.0 k p.2)

-- the last part of a poll
abbrev pub AreTimes : Tokens → ℕ → Type 0
AreTimes ts times = ((ts ≡ decimal times ∷ []) ⊎ ((ts ≡ []) × (times ≡ 1))) × (1 ≤ times) × (times ≤ 1000000)

pub times_said : (ts rest : Tokens) (times : ℕ) → part_of Times ts ≡ Ok (times, rest) → rest ≡ [] → AreTimes ts times
unfolding part_of
times_said [] rest times is end =
    let two = pair_is 1 times [] rest is in
    (inr (refl, sym two.0), subst (λ x. 1 ≤ x) two.0 (omega arith), subst (λ x. x ≤ 1000000) two.0 (omega arith))
times_said (t ∷ ts) rest times is end =
    let two = before_ok (number_between 1 1000000 t) ts rest times is in
    let n = number_said 1 1000000 times t (omega arith) two.0 in
    (inl ((λ j. n.0 j ∷ (two.1 ∙ end) j)), n.1, n.2)

-- one more session
neither : (a b : Bool) → a || b ≡ false → (a ≡ false) × (b ≡ false)
neither false false is = (refl, refl)
neither false true is = cc
neither true b is = cc

none_named : (sessions : List Declared) (t : List ℕ) → list_any (has_session_name t) sessions ≡ false → (k : ℕ) → k < length sessions → session_name sessions k ≢ t
none_named [] t none k within = absurd (omega arith)
none_named (d ∷ sessions) t none zero within = other_text d.name t (sym (neither (has_session_name t d) (list_any (has_session_name t) sessions) none).0)
none_named (d ∷ sessions) t none (suc k) within = none_named sessions t (neither (has_session_name t d) (list_any (has_session_name t) sessions) none).1 k (omega arith)

named_none : (sessions : List Declared) (t : List ℕ) → ((k : ℕ) → k < length sessions → session_name sessions k ≢ t) → list_any (has_session_name t) sessions ≡ false
named_none [] t none = refl
named_none (d ∷ sessions) t none =
    let first : has_session_name t d ≡ false = false_from_ne_true (has_session_name t d) (λ told. none 0 (omega arith) (same_text d.name t (sym told))) in
    rw first (named_none sessions t (λ k within. none (suc k) (omega arith)))

pub new_session_read : (sessions : List Declared) (t : List ℕ) → is_session_name t ≡ true → ((k : ℕ) → k < length sessions → session_name sessions k ≢ t) → length sessions < 32
    → new_session_of sessions t ≡ Ok t
unfolding new_session_of
new_session_read sessions t name is_new few = rw (name, named_none sessions t is_new, lt_true (length sessions) 32 few) refl

true_lt : (n m : ℕ) → nat_lt n m ≡ true → n < m
true_lt n m is = grind (arith, nat_tests)

-- what is told of the name of one more session
abbrev pub IsNew : List Declared → List ℕ → Type 0
IsNew sessions t = (is_session_name t ≡ true) × ((k : ℕ) → k < length sessions → session_name sessions k ≢ t) × (length sessions < 32)

new_session_told : (sessions : List Declared) (t name : List ℕ) → new_session_of sessions t ≡ Ok name → (t ≡ name) × IsNew sessions t
unfolding new_session_of
new_session_told sessions t name is =
    let any = list_any (has_session_name t) sessions in
    let told = if_ok (is_session_name t && not any && nat_lt (length sessions) 32) t name BadName is in
    let outer = and_parts (is_session_name t && not any) (nat_lt (length sessions) 32) told.0 in
    let inner = and_parts (is_session_name t) (not any) outer.0 in
    (told.1, (inner.0, none_named sessions t (not-true any inner.1), true_lt (length sessions) 32 outer.1))

pub new_session_said : (sessions : List Declared) (ts rest : Tokens) (name : List ℕ) → part_of (NewSession sessions) ts ≡ Ok (name, rest) → (ts ≡ name ∷ rest) × IsNew sessions name
unfolding part_of
new_session_said sessions ts rest name is =
    let p = place_ok (new_session_of sessions) ts rest name is in
    let told = new_session_told sessions p.0 name p.2 in
    (p.1 ∙ ap (λ x. x ∷ rest) told.0, subst (IsNew sessions) told.0 told.1)
