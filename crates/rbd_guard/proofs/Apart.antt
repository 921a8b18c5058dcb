-- Numbers that stand once.
use Rattle.std.proofs.Common.{◌≡◌, ℕ, ◌<◌, Bool, true, false, cond, not, ◌||◌, eqb, List, [], ◌∷◌, ◌++◌, length, refl, sym, ap, ◌∙◌, inl, inr, true≢false, arith}
use Rattle.std.specs.Prelude.{◌⊎◌}
use Rattle.std.proofs.lemmas.Bool.{or_left, or_right, or_parts, or_cases, or_from, eq-eqb, ne_eqb, eqb-true, eqb-false, cases_Bool}
use Rattle.rbd_guard.specs.Order.{is_in, without, AreApart}

pub head_in : (x : ℕ) (line : List ℕ) → is_in x (x ∷ line) ≡ true
head_in x line = or_left (eqb x x) (is_in x line) (eq-eqb x x refl)

pub tail_in : (x m : ℕ) (line : List ℕ) → is_in m line ≡ true → is_in m (x ∷ line) ≡ true
tail_in x m line h = or_right (eqb x m) (is_in m line) h

-- what is in and what isn't differ
pub differ : (m n : ℕ) (line : List ℕ) → is_in m line ≡ true → is_in n line ≡ false → m ≡ n → ⊥
differ m n line here gone same = true≢false (sym here ∙ ap (λ x. is_in x line) same ∙ gone)

pub in_left : (m : ℕ) (xs ys : List ℕ) → is_in m xs ≡ true → is_in m (xs ++ ys) ≡ true
in_left m [] ys h = cc
in_left m (x ∷ xs) ys h = by (or_cases (eqb x m) (is_in m xs) h) (λ there. in_left m xs ys there)
  where
    by : (eqb x m ≡ true) ⊎ (is_in m xs ≡ true) → (is_in m xs ≡ true → is_in m (xs ++ ys) ≡ true) → is_in m (x ∷ (xs ++ ys)) ≡ true
    by (inl same) rest = or_left (eqb x m) (is_in m (xs ++ ys)) same
    by (inr there) rest = or_right (eqb x m) (is_in m (xs ++ ys)) (rest there)

pub in_right : (m : ℕ) (xs ys : List ℕ) → is_in m ys ≡ true → is_in m (xs ++ ys) ≡ true
in_right m [] ys h = h
in_right m (x ∷ xs) ys h = tail_in x m (xs ++ ys) (in_right m xs ys h)

pub out_of_both : (m : ℕ) (xs ys : List ℕ) → is_in m xs ≡ false → is_in m ys ≡ false → is_in m (xs ++ ys) ≡ false
out_of_both m [] ys h l = l
out_of_both m (x ∷ xs) ys h l =
    let parts = or_parts (eqb x m) (is_in m xs) h in
    or_from (eqb x m) (is_in m (xs ++ ys)) parts.0 (out_of_both m xs ys parts.1 l)

pub apart_push : (line : List ℕ) (n : ℕ) → AreApart line → is_in n line ≡ false → AreApart (line ++ n ∷ [])
apart_push [] n apart out = (refl, tt)
apart_push (x ∷ line) n apart out =
    let parts = or_parts (eqb x n) (is_in n line) out in
    let other : eqb n x ≡ false = ne_eqb n x (λ same. eqb-false x n parts.0 (sym same)) in
    (out_of_both x line (n ∷ []) apart.0 (or_from (eqb n x) false other refl), apart_push line n apart.1 parts.1)

-- ---- leaving

pub out : (line : List ℕ) (n : ℕ) → is_in n (without n line) ≡ false
out [] n = refl
out (x ∷ line) n =
    elim (eqb x n) as (λ b. eqb x n ≡ b → is_in n (cond (not b) (x ∷ without n line) (without n line)) ≡ false) [
      | true ↦ λ h. out line n
      | false ↦ λ h. ap (λ b. b || is_in n (without n line)) h ∙ out line n
    ] refl

pub others : (line : List ℕ) (n other : ℕ) → (other ≡ n → ⊥) → is_in other (without n line) ≡ is_in other line
others [] n other h = refl
others (x ∷ line) n other h =
    elim (eqb x n) as (λ b. eqb x n ≡ b → is_in other (cond (not b) (x ∷ without n line) (without n line)) ≡ (eqb x other || is_in other line)) [
      | true ↦ λ is. others line n other h ∙ sym (ap (λ b. b || is_in other line) (ne_eqb x other (λ same. h (sym same ∙ eqb-true x n is))))
      | false ↦ λ is. ap (λ b. eqb x other || b) (others line n other h)
    ] refl

pub apart_without : (line : List ℕ) (n : ℕ) → AreApart line → AreApart (without n line)
apart_without [] n apart = tt
apart_without (x ∷ line) n apart =
    elim (eqb x n) as (λ b. eqb x n ≡ b → AreApart (cond (not b) (x ∷ without n line) (without n line))) [
      | true ↦ λ is. apart_without line n apart.1
      | false ↦ λ is. (others line n x (eqb-false x n is) ∙ apart.0, apart_without line n apart.1)
    ] refl

pub absent : (n : ℕ) (line : List ℕ) → is_in n line ≡ false → without n line ≡ line
absent n [] h = refl
absent n (x ∷ line) h =
    let parts = or_parts (eqb x n) (is_in n line) h in
    rw parts.0 (ap (λ l. x ∷ l) (absent n line parts.1))

-- ---- a number inside a line

pub record Around (n : ℕ) (line : List ℕ) : Type 0 where
  pub xs : List ℕ
  pub ys : List ℕ
  pub is : line ≡ xs ++ n ∷ ys

pub around : (n : ℕ) (line : List ℕ) → is_in n line ≡ true → Around n line
around n [] h = absurd (true≢false (sym h))
around n (x ∷ line) h = by (cases_Bool (eqb x n)) (λ there. around n line there)
  where
    further : Around n line → Around n (x ∷ line)
    further a = record { xs = x ∷ a.xs; ys = a.ys; is = ap (λ l. x ∷ l) a.is }

    by : (eqb x n ≡ true) ⊎ (eqb x n ≡ false) → (is_in n line ≡ true → Around n line) → Around n (x ∷ line)
    by (inl same) rest = record { xs = []; ys = line; is = ap (λ m. m ∷ line) (eqb-true x n same) }
    by (inr other) rest = further (rest (sym (ap (λ b. b || is_in n line) other) ∙ h))

-- what holds of a line of which each number stands once, around one of them
pub record IsAmid (xs : List ℕ) (n : ℕ) (ys : List ℕ) : Type 0 where
  pub before : is_in n xs ≡ false
  pub after : is_in n ys ≡ false
  pub left : AreApart xs
  pub right : AreApart ys
  pub sides : (m : ℕ) → is_in m xs ≡ true → is_in m ys ≡ false
  pub rest : without n (xs ++ n ∷ ys) ≡ xs ++ ys

amid_more : (x : ℕ) (xs : List ℕ) (n : ℕ) (ys : List ℕ) → is_in x (xs ++ n ∷ ys) ≡ false → AreApart xs → IsAmid xs n ys → IsAmid (x ∷ xs) n ys
amid_more x xs n ys out apart a =
    record {
      before = or_from (eqb x n) (is_in n xs) other a.before;
      after = a.after;
      left = (not_left, apart);
      right = a.right;
      sides = λ m h. by m (or_cases (eqb x m) (is_in m xs) h);
      rest = rw other (ap (λ l. x ∷ l) a.rest);
    }
  where
    not_right : is_in x ys ≡ true → ⊥
    not_right h = true≢false (sym (in_right x xs (n ∷ ys) (tail_in n x ys h)) ∙ out)

    not_left : is_in x xs ≡ false
    not_left = gone (is_in x xs) refl
      where
        gone : (b : Bool) → is_in x xs ≡ b → is_in x xs ≡ false
        gone true e = absurd (true≢false (sym (in_left x xs (n ∷ ys) e) ∙ out))
        gone false e = e

    other : eqb x n ≡ false
    other = ne_eqb x n (λ same. true≢false (sym (in_right x xs (n ∷ ys) (ap (λ k. is_in k (n ∷ ys)) same ∙ head_in n ys)) ∙ out))

    by : (m : ℕ) → (eqb x m ≡ true) ⊎ (is_in m xs ≡ true) → is_in m ys ≡ false
    by m (inl same) = gone (is_in m ys) refl
      where
        gone : (b : Bool) → is_in m ys ≡ b → is_in m ys ≡ false
        gone true e = absurd (not_right (ap (λ k. is_in k ys) (eqb-true x m same) ∙ e))
        gone false e = e
    by m (inr there) = a.sides m there

pub amid : (xs : List ℕ) (n : ℕ) (ys : List ℕ) → AreApart (xs ++ n ∷ ys) → IsAmid xs n ys
amid [] n ys apart =
    record {
      before = refl;
      after = apart.0;
      left = tt;
      right = apart.1;
      sides = λ m h. absurd (true≢false (sym h));
      rest = rw (eq-eqb n n refl) (absent n ys apart.0);
    }
amid (x ∷ xs) n ys apart = amid_more x xs n ys apart.0 (apart_front xs (n ∷ ys) apart.1) (amid xs n ys apart.1)
  where
    out_front : (m : ℕ) (ls rs : List ℕ) → is_in m (ls ++ rs) ≡ false → is_in m ls ≡ false
    out_front m [] rs h = refl
    out_front m (a ∷ ls) rs h =
        let parts = or_parts (eqb a m) (is_in m (ls ++ rs)) h in
        or_from (eqb a m) (is_in m ls) parts.0 (out_front m ls rs parts.1)

    apart_front : (ls rs : List ℕ) → AreApart (ls ++ rs) → AreApart ls
    apart_front [] rs h = tt
    apart_front (a ∷ ls) rs h = (out_front a ls rs h.0, apart_front ls rs h.1)

pub some_length : (n : ℕ) (line : List ℕ) → is_in n line ≡ true → 0 < length line
some_length n [] h = absurd (true≢false (sym h))
some_length n (x ∷ line) h = omega arith
