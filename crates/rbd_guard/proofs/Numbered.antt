-- Lines of places, read as the numbers of the tickets that stand there.
use Rattle.std.proofs.Common.{◌≡◌, ℕ, Bool, true, false, eqb, List, [], ◌∷◌, ◌++◌, length, Option, Some, None, refl, sym, ap, subst, ◌∙◌, inl, inr, true≢false}
use Rattle.std.specs.Prelude.{◌⊎◌}
use Rattle.std.specs.List.{slice_get}
use Rattle.std.specs.Option.{option_map, unwrap_or, IfSome}
use Rattle.std.proofs.lemmas.List.{length-map}
use Rattle.std.proofs.lemmas.Bool.{or_cases, or_left, or_right, eq-eqb, ne_eqb, eqb-true, eqb-false, cases_Bool}
use Rattle.std.proofs.lemmas.Option.{none-some, same_Some}
use Rattle.rbd_guard.specs.declared.link.TicketLink.{TicketLink}
use Rattle.rbd_guard.specs.declared.link.Ends.{Ends}
use Rattle.rbd_guard.specs.Order.{is_in, without, AreApart, IsEachInItsLine, walked}
use Rattle.rbd_guard.specs.Links.{front, AreLines}
use Rattle.rbd_guard.specs.Tickets.{ticket_numbers, key_at}
use Rattle.rbd_guard.specs.Slab.{number_or_none}
use Rattle.rbd_guard.proofs.Apart.{head_in, tail_in, differ}
use Rattle.rbd_guard.proofs.Linking.{HasLink, in_linked, has_link}

-- a ticket stands at a place
pub record HasNumber (number : ℕ → Option ℕ) (p : ℕ) : Type 0 where
  pub of : ℕ
  pub is : number p ≡ Some of

-- each number is found at its place
pub record AreKnown (number place : ℕ → Option ℕ) : Type 0 where
  pub found : (t p : ℕ) → place t ≡ Some p → number p ≡ Some t
  pub known : (t p : ℕ) → number p ≡ Some t → place t ≡ Some p

one_place : (number place : ℕ → Option ℕ) (p q t : ℕ) → AreKnown number place → number p ≡ Some t → number q ≡ Some t → p ≡ q
one_place number place p q t are a b = same_Some p q (sym (are.known t p a) ∙ are.known t q b)

module _ (number : ℕ → Option ℕ) where
  pub number_is : (p t : ℕ) → number p ≡ Some t → unwrap_or (number p) 0 ≡ t
  number_is p t e = ap (λ o. unwrap_or o 0) e

  -- a number that is in is one of a place
  record IsOf (t : ℕ) (xs : List ℕ) : Type 0 where
    place : ℕ
    here : is_in place xs ≡ true
    is : number place ≡ Some t

  of_place : (t : ℕ) (xs : List ℕ) → ((p : ℕ) → is_in p xs ≡ true → HasNumber number p) → is_in t (ticket_numbers number xs) ≡ true → IsOf t xs
  of_place t [] has h = absurd (true≢false (sym h))
  of_place t (x ∷ xs) has h =
      by (has x (head_in x xs)) (or_cases (eqb (unwrap_or (number x) 0) t) (is_in t (ticket_numbers number xs)) h)
      (λ there. of_place t xs (λ p here. has p (tail_in x p xs here)) there)
    where
      more : IsOf t xs → IsOf t (x ∷ xs)
      more o = record { place = o.place; here = tail_in x o.place xs o.here; is = o.is }

      by : HasNumber number x → (eqb (unwrap_or (number x) 0) t ≡ true) ⊎ (is_in t (ticket_numbers number xs) ≡ true)
          → (is_in t (ticket_numbers number xs) ≡ true → IsOf t xs) → IsOf t (x ∷ xs)
      by n (inl same) rest =
          record { place = x; here = head_in x xs; is = n.is ∙ ap (λ m. Some m) (sym (number_is x n.of n.is) ∙ eqb-true (unwrap_or (number x) 0) t same) }
      by n (inr there) rest = more (rest there)

  pub to_number : (p t : ℕ) (xs : List ℕ) → is_in p xs ≡ true → number p ≡ Some t → is_in t (ticket_numbers number xs) ≡ true
  to_number p t [] h is = absurd (true≢false (sym h))
  to_number p t (x ∷ xs) h is = by (or_cases (eqb x p) (is_in p xs) h) (λ there. to_number p t xs there is)
    where
      by : (eqb x p ≡ true) ⊎ (is_in p xs ≡ true) → (is_in p xs ≡ true → is_in t (ticket_numbers number xs) ≡ true) → is_in t (ticket_numbers number (x ∷ xs)) ≡ true
      by (inl same) rest =
          or_left (eqb (unwrap_or (number x) 0) t) (is_in t (ticket_numbers number xs))
          (eq-eqb (unwrap_or (number x) 0) t (number_is x t (ap number (eqb-true x p same) ∙ is)))
      by (inr there) rest = or_right (eqb (unwrap_or (number x) 0) t) (is_in t (ticket_numbers number xs)) (rest there)

  pub apart_numbers : (place : ℕ → Option ℕ) → AreKnown number place → (xs : List ℕ) → ((p : ℕ) → is_in p xs ≡ true → HasNumber number p)
      → AreApart xs → AreApart (ticket_numbers number xs)
  apart_numbers place are [] has apart = tt
  apart_numbers place are (x ∷ xs) has apart =
      (by (is_in (unwrap_or (number x) 0) (ticket_numbers number xs)) refl, apart_numbers place are xs (λ p h. has p (tail_in x p xs h)) apart.1)
    where
      no : HasNumber number x → IsOf (unwrap_or (number x) 0) xs → ⊥
      no n o =
          differ o.place x xs o.here apart.0
          (one_place number place o.place x n.of are (o.is ∙ ap (λ m. Some m) (number_is x n.of n.is)) n.is)

      by : (b : Bool) → is_in (unwrap_or (number x) 0) (ticket_numbers number xs) ≡ b → is_in (unwrap_or (number x) 0) (ticket_numbers number xs) ≡ false
      by true e = absurd (no (has x (head_in x xs)) (of_place (unwrap_or (number x) 0) xs (λ p h. has p (tail_in x p xs h)) e))
      by false e = e

  pub first_number : (xs : List ℕ) → ((p : ℕ) → is_in p xs ≡ true → HasNumber number p) → number_or_none number (front xs None) ≡ slice_get (ticket_numbers number xs) 0
  first_number [] has = refl
  first_number (x ∷ xs) has = by (has x (head_in x xs))
    where
      by : HasNumber number x → number x ≡ Some (unwrap_or (number x) 0)
      by n = n.is ∙ ap (λ m. Some m) (sym (number_is x n.of n.is))

-- ---- a line of places without one

pub numbers_same : (number others : ℕ → Option ℕ) (xs : List ℕ) → ((p : ℕ) → is_in p xs ≡ true → others p ≡ number p) → ticket_numbers others xs ≡ ticket_numbers number xs
numbers_same number others [] same = refl
numbers_same number others (x ∷ xs) same =
    ap (λ o. unwrap_or o 0 ∷ ticket_numbers others xs) (same x (head_in x xs))
    ∙ ap (λ ts. unwrap_or (number x) 0 ∷ ts) (numbers_same number others xs (λ p h. same p (tail_in x p xs h)))

pub numbers_push : (number : ℕ → Option ℕ) (xs : List ℕ) (p t : ℕ) → number p ≡ Some t → ticket_numbers number (xs ++ p ∷ []) ≡ ticket_numbers number xs ++ t ∷ []
numbers_push number [] p t is = ap (λ m. m ∷ []) (number_is number p t is)
numbers_push number (x ∷ xs) p t is = ap (λ ts. unwrap_or (number x) 0 ∷ ts) (numbers_push number xs p t is)

pub numbers_without : (number place : ℕ → Option ℕ) (n t : ℕ) (xs : List ℕ) → AreKnown number place → number n ≡ Some t
    → ((p : ℕ) → is_in p xs ≡ true → HasNumber number p) → ticket_numbers number (without n xs) ≡ without t (ticket_numbers number xs)
numbers_without number place n t [] are mine has = refl
numbers_without number place n t (x ∷ xs) are mine has =
    by (has x (head_in x xs)) (cases_Bool (eqb x n)) (numbers_without number place n t xs are mine (λ p h. has p (tail_in x p xs h)))
  where
    one : ℕ
    one = unwrap_or (number x) 0

    by : HasNumber number x → (eqb x n ≡ true) ⊎ (eqb x n ≡ false) → ticket_numbers number (without n xs) ≡ without t (ticket_numbers number xs)
        → ticket_numbers number (without n (x ∷ xs)) ≡ without t (one ∷ ticket_numbers number xs)
    by h (inl e) rest =
        let same : eqb one t ≡ true = eq-eqb one t (number_is number x t (ap number (eqb-true x n e) ∙ mine)) in
        rw (e, same) rest
    by h (inr e) rest =
        let other : eqb one t ≡ false = ne_eqb one t (λ is. eqb-false x n e (one_place number place x n t are (h.is ∙ ap (λ m. Some m) (sym (number_is number x h.of h.is) ∙ is)) mine)) in
        rw (e, other) (ap (λ ts. one ∷ ts) rest)

-- ---- lines under keys

-- who has a link has a number
pub HaveNumbers : (links : ℕ → Option TicketLink) (number : ℕ → Option ℕ) → Type 0
HaveNumbers links number = (p : ℕ) (l : TicketLink) → links p ≡ Some l → HasNumber number p

module _ (links : ℕ → Option TicketLink) (ends : ℕ → Ends) (number place : ℕ → Option ℕ) (lines : AreLines links ends) (are : AreKnown number place)
    (have : (p : ℕ) (l : TicketLink) → links p ≡ Some l → HasNumber number p) where
  pub in_line_has : (key p : ℕ) → is_in p (walked links (ends key)) ≡ true → HasNumber number p
  in_line_has key p h = by (in_linked links key None (walked links (ends key)) None p (lines.lines key).linked h)
    where
      by : HasLink links key p → HasNumber number p
      by l = have p l.of l.is

  pub in_order : IsEachInItsLine (λ key. ticket_numbers number (walked links (ends key))) (λ t. key_at links (place t))
  in_order =
      record {
        stands = λ t key h. stands t key (of_place number t (walked links (ends key)) (in_line_has key) h);
        found = λ t key is. found t key (place t) refl is;
        apart = λ key. apart_numbers number place are (walked links (ends key)) (in_line_has key) (lines.lines key).apart;
      }
    where
      stands : (t key : ℕ) → IsOf number t (walked links (ends key)) → key_at links (place t) ≡ Some key
      stands t key o = ap (λ p. key_at links p) (are.known t o.place o.is) ∙ by (in_linked links key None (walked links (ends key)) None o.place (lines.lines key).linked o.here)
        where
          by : HasLink links key o.place → option_map (λ (l : TicketLink). l.key) (links o.place) ≡ Some key
          by l = ap (λ o. option_map (λ (l : TicketLink). l.key) o) l.is ∙ ap (λ k. Some k) l.key_is

      found : (t key : ℕ) (o : Option ℕ) → place t ≡ o → key_at links o ≡ Some key → is_in t (ticket_numbers number (walked links (ends key))) ≡ true
      found t key None e is = absurd (none-some key is)
      found t key (Some p) e is = by (has_link links p key is)
        where
          by : HasLink links key p → is_in t (ticket_numbers number (walked links (ends key))) ≡ true
          by l = to_number number p t (walked links (ends key)) (subst (λ k. is_in p (walked links (ends k)) ≡ true) l.key_is (lines.stands p l.of l.is)) (are.found t p e)

  pub count_is : (key : ℕ) → (ends key).count ≡ length (ticket_numbers number (walked links (ends key)))
  count_is key = (lines.lines key).count ∙ sym (length-map (walked links (ends key)) (λ p. unwrap_or (number p) 0))

  pub first_is : (key : ℕ) → number_or_none number (ends key).first ≡ slice_get (ticket_numbers number (walked links (ends key))) 0
  first_is key =
      ap (λ o. number_or_none number o) (lines.lines key).first ∙ first_number number (walked links (ends key)) (in_line_has key)

-- ---- the first of a line

first_holds : (P : ℕ → Type 0) (r : Option ℕ) (xs : List ℕ) → ((n : ℕ) → is_in n xs ≡ true → P n) → r ≡ slice_get xs 0 → IfSome r P
first_holds P r [] holds is = subst (λ o. IfSome o P) (sym is) tt
first_holds P r (x ∷ xs) holds is = subst (λ o. IfSome o P) (sym is) (holds x (head_in x xs))

pub first_found : (line : ℕ → List ℕ) (key_of : ℕ → Option ℕ) (key : ℕ) (r : Option ℕ) → IsEachInItsLine line key_of
    → r ≡ slice_get (line key) 0 → IfSome r (λ n. key_of n ≡ Some key)
first_found line key_of key r order is = first_holds (λ n. key_of n ≡ Some key) r (line key) (λ n here. order.stands n key here) is
