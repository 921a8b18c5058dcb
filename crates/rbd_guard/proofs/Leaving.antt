-- Tickets that enter and leave.
use Rattle.std.proofs.Common.{◌≡◌, ℕ, suc, ◌+◌, ◌<◌, ◌≤◌, Bool, true, false, cond, not, ◌||◌, eqb, List, [], ◌∷◌, ◌++◌, length, Option, Some, None, refl, sym, ap, subst, ◌∙◌, inl, inr, true≢false, arith}
use Rattle.std.specs.Prelude.{◌⊎◌}
use Rattle.std.specs.List.{slice_get}
use Rattle.std.proofs.lemmas.Bool.{cond-true, eq-eqb, ne_eqb, eqb-true, eqb-false, cond-false, cases_Bool}
use Rattle.std.proofs.lemmas.Option.{none-some, same_Some}
use Rattle.rbd_guard.specs.Order.{is_in, without, AreApart}
use Rattle.rbd_guard.specs.Tickets.{Tickets, queue, list, ticket_object, ticket_request, without_all, is_ahead, IsSoundGuard}
use Rattle.rbd_guard.proofs.Apart.{tail_in, head_in, in_right, absent, others}

-- ---- the first of a line

-- a list that has a first
pub record Begins (n : ℕ) (xs : List ℕ) : Type 0 where
  pub rest : List ℕ
  pub is : xs ≡ n ∷ rest

pub begins : (n : ℕ) (xs : List ℕ) → Some n ≡ slice_get xs 0 → Begins n xs
begins n [] e = absurd (none-some n (sym e))
begins n (x ∷ xs) e = record { rest = xs; is = ap (λ m. m ∷ xs) (sym (same_Some n x e)) }

pub is_empty : (xs : List ℕ) → None ≡ slice_get xs 0 → xs ≡ []
is_empty [] e = refl
is_empty (x ∷ xs) e = absurd (none-some x e)

-- ---- one leaves

pub without_shorter : (n : ℕ) (xs : List ℕ) → length (without n xs) ≤ length xs
without_shorter n [] = omega arith
without_shorter n (x ∷ xs) = by (eqb x n) (without_shorter n xs)
  where
    by : (b : Bool) → length (without n xs) ≤ length xs → length (cond (not b) (x ∷ without n xs) (without n xs)) ≤ suc (length xs)
    by true rest = omega (arith, rest)
    by false rest = omega (arith, rest)

-- ---- several leave

pub all_stay : (xs : List ℕ) → without_all [] xs ≡ xs
all_stay [] = refl
all_stay (x ∷ xs) = ap (λ l. x ∷ l) (all_stay xs)

pub one_and_all : (n : ℕ) (rest xs : List ℕ) → without_all rest (without n xs) ≡ without_all (n ∷ rest) xs
one_and_all n rest [] = refl
one_and_all n rest (x ∷ xs) =
    let flipped : eqb x n ≡ eqb n x = grind arith in
    by (eqb x n) (is_in x rest) refl (one_and_all n rest xs)
    ∙ ap (λ b. cond (not (b || is_in x rest)) (x ∷ without_all (n ∷ rest) xs) (without_all (n ∷ rest) xs)) flipped
  where
    by : (a b : Bool) → is_in x rest ≡ b → without_all rest (without n xs) ≡ without_all (n ∷ rest) xs
        → without_all rest (cond (not a) (x ∷ without n xs) (without n xs)) ≡ cond (not (a || b)) (x ∷ without_all (n ∷ rest) xs) (without_all (n ∷ rest) xs)
    by true b e same = same
    by false true e same = rw e same
    by false false e same = rw e (ap (λ l. x ∷ l) same)

pub one_and_keys : (a b : Bool) (o : Option ℕ) → cond b None (cond a None o) ≡ cond (a || b) None o
one_and_keys true true o = refl
one_and_keys true false o = refl
one_and_keys false b o = refl

pub out_all : (tickets gone : List ℕ) (ticket : ℕ) → is_in ticket gone ≡ true → is_in ticket (without_all gone tickets) ≡ false
out_all [] gone ticket h = refl
out_all (x ∷ tickets) gone ticket h = by (is_in x gone) refl (out_all tickets gone ticket h)
  where
    by : (b : Bool) → is_in x gone ≡ b → is_in ticket (without_all gone tickets) ≡ false → is_in ticket (cond (not b) (x ∷ without_all gone tickets) (without_all gone tickets)) ≡ false
    by true e rest = rest
    by false e rest = ap (λ b. b || is_in ticket (without_all gone tickets)) (ne_eqb x ticket (λ same. true≢false (sym h ∙ (ap (λ t. is_in t gone) (sym same) ∙ e)))) ∙ rest

pub others_all : (tickets gone : List ℕ) (other : ℕ) → is_in other gone ≡ false → is_in other (without_all gone tickets) ≡ is_in other tickets
others_all [] gone other h = refl
others_all (x ∷ tickets) gone other h = by (is_in x gone) refl (others_all tickets gone other h)
  where
    by : (b : Bool) → is_in x gone ≡ b → is_in other (without_all gone tickets) ≡ is_in other tickets
        → is_in other (cond (not b) (x ∷ without_all gone tickets) (without_all gone tickets)) ≡ (eqb x other || is_in other tickets)
    by true e rest = rest ∙ sym (ap (λ b. b || is_in other tickets) (ne_eqb x other (λ same. true≢false (sym e ∙ (ap (λ t. is_in t gone) same ∙ h)))))
    by false e rest = ap (λ b. eqb x other || b) rest

-- ---- who stands ahead

in_before : (other : ℕ) (tickets : List ℕ) (ticket : ℕ) → (ticket ≡ other → ⊥) → is_in other (tickets ++ ticket ∷ []) ≡ is_in other tickets
in_before other [] ticket differs = ap (λ b. b || false) (ne_eqb ticket other differs)
in_before other (x ∷ tickets) ticket differs = ap (λ b. eqb x other || b) (in_before other tickets ticket differs)

pub order_entering : (tickets : List ℕ) (ticket one other : ℕ) → (ticket ≡ one → ⊥) → (ticket ≡ other → ⊥) → is_ahead one other (tickets ++ ticket ∷ []) ≡ is_ahead one other tickets
order_entering [] ticket one other no_one no_other = cond-false (eqb ticket one) false false (ne_eqb ticket one no_one)
order_entering (x ∷ tickets) ticket one other no_one no_other =
    ap (λ b. cond (eqb x one) b (is_ahead one other (tickets ++ ticket ∷ []))) (in_before other tickets ticket no_other)
    ∙ ap (λ b. cond (eqb x one) (is_in other tickets) b) (order_entering tickets ticket one other no_one no_other)

pub last_entering : (tickets : List ℕ) (ticket other : ℕ) → is_in other tickets ≡ true → is_ahead other ticket (tickets ++ ticket ∷ []) ≡ true
last_entering [] ticket other h = absurd (true≢false (sym h))
last_entering (x ∷ tickets) ticket other h = by (eqb x other) refl (λ there. last_entering tickets ticket other there)
  where
    by : (b : Bool) → eqb x other ≡ b → (is_in other tickets ≡ true → is_ahead other ticket (tickets ++ ticket ∷ []) ≡ true)
        → cond b (is_in ticket (tickets ++ ticket ∷ [])) (is_ahead other ticket (tickets ++ ticket ∷ [])) ≡ true
    by true e rest = in_right ticket tickets (ticket ∷ []) (head_in ticket [])
    by false e rest = rest (sym (ap (λ b. b || is_in other tickets) e) ∙ h)

pub order_leaving : (tickets : List ℕ) (ticket one other : ℕ) → (one ≡ ticket → ⊥) → (other ≡ ticket → ⊥) → is_ahead one other (without ticket tickets) ≡ is_ahead one other tickets
order_leaving [] ticket one other no_one no_other = refl
order_leaving (x ∷ tickets) ticket one other no_one no_other = by (eqb x ticket) refl (order_leaving tickets ticket one other no_one no_other)
  where
    by : (b : Bool) → eqb x ticket ≡ b → is_ahead one other (without ticket tickets) ≡ is_ahead one other tickets
        → is_ahead one other (cond (not b) (x ∷ without ticket tickets) (without ticket tickets)) ≡ cond (eqb x one) (is_in other tickets) (is_ahead one other tickets)
    by true e rest = rest ∙ sym (cond-false (eqb x one) _ _ (ne_eqb x one (λ same. no_one (sym same ∙ eqb-true x ticket e))))
    by false e rest =
        ap (λ b. cond (eqb x one) b (is_ahead one other (without ticket tickets))) (others tickets ticket other no_other)
        ∙ ap (λ b. cond (eqb x one) (is_in other tickets) b) rest

pub order_leaving_all : (tickets gone : List ℕ) (one other : ℕ) → is_in one gone ≡ false → is_in other gone ≡ false → is_ahead one other (without_all gone tickets) ≡ is_ahead one other tickets
order_leaving_all [] gone one other no_one no_other = refl
order_leaving_all (x ∷ tickets) gone one other no_one no_other = by (is_in x gone) refl (order_leaving_all tickets gone one other no_one no_other)
  where
    by : (b : Bool) → is_in x gone ≡ b → is_ahead one other (without_all gone tickets) ≡ is_ahead one other tickets
        → is_ahead one other (cond (not b) (x ∷ without_all gone tickets) (without_all gone tickets)) ≡ cond (eqb x one) (is_in other tickets) (is_ahead one other tickets)
    by true e rest = rest ∙ sym (cond-false (eqb x one) _ _ (ne_eqb x one (λ same. true≢false (sym e ∙ (ap (λ t. is_in t gone) same ∙ no_one)))))
    by false e rest =
        ap (λ b. cond (eqb x one) b (is_ahead one other (without_all gone tickets))) (others_all tickets gone other no_other)
        ∙ ap (λ b. cond (eqb x one) (is_in other tickets) b) rest

-- ---- one is gone

pub next_is : (tickets : List ℕ) (ticket : ℕ) → AreApart (ticket ∷ tickets) → without ticket (ticket ∷ tickets) ≡ tickets
next_is tickets ticket apart = ap (λ b. cond (not b) (ticket ∷ without ticket tickets) (without ticket tickets)) (eq-eqb ticket ticket refl) ∙ absent ticket tickets apart.0

pub one_leaves : (tickets : List ℕ) (ticket : ℕ) → AreApart tickets → is_in ticket tickets ≡ true → length (without ticket tickets) + 1 ≡ length tickets
one_leaves [] ticket apart h = absurd (true≢false (sym h))
one_leaves (x ∷ tickets) ticket apart h =
    elim (eqb x ticket) as (λ b. eqb x ticket ≡ b → (b || is_in ticket tickets) ≡ true → length (cond (not b) (x ∷ without ticket tickets) (without ticket tickets)) + 1 ≡ suc (length tickets)) [
      | true ↦ λ is _. ap (λ l. length l + 1) (absent ticket tickets (ap (λ t. is_in t tickets) (sym (eqb-true x ticket is)) ∙ apart.0)) ∙ omega arith
      | false ↦ λ is there. (let rest : length (without ticket tickets) + 1 ≡ length tickets = one_leaves tickets ticket apart.1 there in omega arith)
    ] refl h

-- ---- all tickets of a request leave, one after another

pub record AreLeaving (request : ℕ) (old now : Tickets) : Type 0 where
  pub queues : (o : ℕ) → without_all (list request now) (queue o now) ≡ without_all (list request old) (queue o old)
  pub lists : (r : ℕ) → cond (eqb request r) [] (list r now) ≡ cond (eqb request r) [] (list r old)
  pub objects : (t : ℕ) → cond (is_in t (list request now)) None (ticket_object t now) ≡ cond (is_in t (list request old)) None (ticket_object t old)
  pub requests : (t : ℕ) → cond (is_in t (list request now)) None (ticket_request t now) ≡ cond (is_in t (list request old)) None (ticket_request t old)
  pub drawn : now.drawn ≡ old.drawn
  pub reserved : old.reserved ≤ now.reserved

pub none_leaves : (request : ℕ) (g : Tickets) → AreLeaving request g g
none_leaves request g = record { queues = λ o. refl; lists = λ r. refl; objects = λ t. refl; requests = λ t. refl; drawn = refl; reserved = omega arith }

-- what one call of `leave` does
pub record IsLeft (ticket : ℕ) (old now : Tickets) : Type 0 where
  pub queue : (o : ℕ) → queue o now ≡ without ticket (queue o old)
  pub list : (r : ℕ) → list r now ≡ without ticket (list r old)
  pub object : (t : ℕ) → ticket_object t now ≡ cond (eqb ticket t) None (ticket_object t old)
  pub request : (t : ℕ) → ticket_request t now ≡ cond (eqb ticket t) None (ticket_request t old)
  pub drawn : now.drawn ≡ old.drawn
  pub reserved : old.reserved ≤ now.reserved

module _ (request ticket : ℕ) (now later : Tickets) (sound : IsSoundGuard now) (left : IsLeft ticket now later) (head : Begins ticket (list request now)) where
  pub rest_is : list request later ≡ head.rest
  rest_is =
      left.list request ∙ ap (λ l. without ticket l) head.is
      ∙ next_is head.rest ticket (subst AreApart head.is (sound.lists.apart request))

  pub rest_shorter : length (list request later) < length (list request now)
  rest_shorter = (let a = ap length rest_is in let b = ap length head.is in omega (arith, a, b))

  mine : ticket_request ticket now ≡ Some request
  mine = sound.lists.stands ticket request (ap (λ l. is_in ticket l) head.is ∙ head_in ticket head.rest)

  queue_step : (o : ℕ) → without_all (list request later) (queue o later) ≡ without_all (list request now) (queue o now)
  queue_step o =
      ap (λ l. without_all l (queue o later)) rest_is ∙ ap (λ l. without_all head.rest l) (left.queue o)
      ∙ one_and_all ticket head.rest (queue o now) ∙ ap (λ l. without_all l (queue o now)) (sym head.is)

  list_step : (r : ℕ) → cond (eqb request r) [] (list r later) ≡ cond (eqb request r) [] (list r now)
  list_step r = ap (λ l. cond (eqb request r) [] l) (left.list r) ∙ by (eqb request r) refl
    where
      another : (b : Bool) → is_in ticket (list r now) ≡ b → eqb request r ≡ false → without ticket (list r now) ≡ list r now
      another true e differs = absurd (eqb-false request r differs (same_Some request r (sym mine ∙ sound.lists.stands ticket r e)))
      another false e differs = absent ticket (list r now) e

      by : (b : Bool) → eqb request r ≡ b → cond b [] (without ticket (list r now)) ≡ cond b [] (list r now)
      by true e = refl
      by false e = another (is_in ticket (list r now)) refl e

  key_step : (t : ℕ) (new old : Option ℕ) → new ≡ cond (eqb ticket t) None old → cond (is_in t (list request later)) None new ≡ cond (is_in t (list request now)) None old
  key_step t new old is =
      ap (λ l. cond (is_in t l) None new) rest_is ∙ ap (λ o. cond (is_in t head.rest) None o) is
      ∙ one_and_keys (eqb ticket t) (is_in t head.rest) old ∙ ap (λ l. cond (is_in t l) None old) (sym head.is)

  pub one_more_left : (old : Tickets) → AreLeaving request old now → AreLeaving request old later
  one_more_left old so =
      record {
        queues = λ o. queue_step o ∙ so.queues o;
        lists = λ r. list_step r ∙ so.lists r;
        objects = λ t. key_step t (ticket_object t later) (ticket_object t now) (left.object t) ∙ so.objects t;
        requests = λ t. key_step t (ticket_request t later) (ticket_request t now) (left.request t) ∙ so.requests t;
        drawn = left.drawn ∙ so.drawn;
        reserved = omega (arith, left.reserved, so.reserved);
      }

-- where no ticket of the request is left, all have left
pub record HaveLeft (request : ℕ) (old now : Tickets) : Type 0 where
  pub queues : (o : ℕ) → queue o now ≡ without_all (list request old) (queue o old)
  pub lists : (r : ℕ) → list r now ≡ cond (eqb request r) [] (list r old)
  pub objects : (t : ℕ) → ticket_object t now ≡ cond (is_in t (list request old)) None (ticket_object t old)
  pub requests : (t : ℕ) → ticket_request t now ≡ cond (is_in t (list request old)) None (ticket_request t old)

pub have_left : (request : ℕ) (old now : Tickets) → AreLeaving request old now → list request now ≡ [] → HaveLeft request old now
have_left request old now so none =
    record {
      queues = λ o. sym (ap (λ l. without_all l (queue o now)) none ∙ all_stay (queue o now)) ∙ so.queues o;
      lists = λ r. by r (eqb request r) refl ∙ so.lists r;
      objects = λ t. sym (ap (λ l. cond (is_in t l) None (ticket_object t now)) none) ∙ so.objects t;
      requests = λ t. sym (ap (λ l. cond (is_in t l) None (ticket_request t now)) none) ∙ so.requests t;
    }
  where
    by : (r : ℕ) (b : Bool) → eqb request r ≡ b → list r now ≡ cond b [] (list r now)
    by r true e = ap (λ k. list k now) (sym (eqb-true request r e)) ∙ none
    by r false e = refl

-- ---- turns

ahead_other : (one other : ℕ) (tickets : List ℕ) → is_ahead one other tickets ≡ true → is_in other tickets ≡ true
ahead_other one other [] h = absurd (true≢false (sym h))
ahead_other one other (x ∷ tickets) h = by (eqb x one) h (λ rest. ahead_other one other tickets rest)
  where
    by : (b : Bool) → cond b (is_in other tickets) (is_ahead one other tickets) ≡ true → (is_ahead one other tickets ≡ true → is_in other tickets ≡ true) → is_in other (x ∷ tickets) ≡ true
    by true here rest = tail_in x other tickets here
    by false there rest = tail_in x other tickets (rest there)

pub first_ahead : (tickets : List ℕ) (first other : ℕ) → slice_get tickets 0 ≡ Some first → is_in other tickets ≡ true → (other ≡ first → ⊥) → is_ahead first other tickets ≡ true
first_ahead [] first other is here differs = absurd (none-some first is)
first_ahead (x ∷ tickets) first other is here differs =
    cond-true (eqb x first) _ _ (eq-eqb x first same)
    ∙ (sym (ap (λ b. b || is_in other tickets) (ne_eqb x other (λ e. differs (sym e ∙ same)))) ∙ here)
  where
    same : x ≡ first
    same = same_Some x first is

pub one_way : (tickets : List ℕ) (one other : ℕ) → AreApart tickets → is_ahead one other tickets ≡ true → is_ahead other one tickets ≡ false
one_way [] one other apart h = refl
one_way (x ∷ tickets) one other apart h = by (cases_Bool (eqb x one)) (λ there. one_way tickets one other apart.1 there)
  where
    -- who is in behind the first isn't the first
    behind : (t : ℕ) → is_in t tickets ≡ true → eqb x t ≡ false
    behind t here = ne_eqb x t (λ same. true≢false (sym here ∙ (ap (λ k. is_in k tickets) (sym same) ∙ apart.0)))

    none_behind : (b : Bool) → is_ahead other x tickets ≡ b → is_ahead other x tickets ≡ false
    none_behind true e = absurd (true≢false (sym (ahead_other other x tickets e) ∙ apart.0))
    none_behind false e = e

    by : (eqb x one ≡ true) ⊎ (eqb x one ≡ false) → (is_ahead one other tickets ≡ true → is_ahead other one tickets ≡ false) → is_ahead other one (x ∷ tickets) ≡ false
    by (inl e) rest =
        cond-false (eqb x other) _ _ (behind other (sym (cond-true (eqb x one) _ _ e) ∙ h))
        ∙ (ap (λ t. is_ahead other t tickets) (sym (eqb-true x one e)) ∙ none_behind (is_ahead other x tickets) refl)
    by (inr e) rest =
        let there : is_ahead one other tickets ≡ true = sym (cond-false (eqb x one) _ _ e) ∙ h in
        cond-false (eqb x other) _ _ (behind other (ahead_other one other tickets there)) ∙ rest there
