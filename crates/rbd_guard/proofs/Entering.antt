-- A place that goes last into a line, read as the number of its ticket.
use Rattle.std.proofs.Common.{◌≡◌, ℕ, Bool, true, false, cond, eqb, [], ◌∷◌, ◌++◌, Option, Some, None, refl, sym, ap, ◌∙◌, inl, inr}
use Rattle.std.specs.Prelude.{◌⊎◌}
use Rattle.std.specs.Option.{option_map}
use Rattle.std.proofs.lemmas.Bool.{eq-eqb, ne_eqb, eqb-true, cond-true, cond-false, cases_Bool}
use Rattle.std.proofs.lemmas.Option.{none-some, same_Some}
use Rattle.rbd_guard.specs.declared.link.TicketLink.{TicketLink}
use Rattle.rbd_guard.specs.declared.link.Ends.{Ends}
use Rattle.rbd_guard.specs.Order.{is_in, walked}
use Rattle.rbd_guard.specs.Links.{link, AreLines, with_after, with_before, longer}
use Rattle.rbd_guard.specs.Tickets.{ticket_numbers, key_at}
use Rattle.rbd_guard.proofs.Linking.{HasLink, in_linked, back_in}
use Rattle.rbd_guard.proofs.Pushed.{AreLinesOf, pushed, pushed_key}
use Rattle.rbd_guard.proofs.Numbered.{HasNumber, AreKnown, numbers_same, numbers_push, in_line_has}

pub map_cond : {A B : Type 0} (f : A → B) (b : Bool) (x y : Option A) → option_map f (cond b x y) ≡ cond b (option_map f x) (option_map f y)
map_cond f true x y = refl
map_cond f false x y = refl

pub after_same : (links others : ℕ → Option TicketLink) (at after : Option ℕ) (m : ℕ) → others m ≡ links m → with_after others at after m ≡ with_after links at after m
after_same links others None after m same = same
after_same links others (Some a) after m same = ap (λ o. cond (eqb a m) (option_map (λ (l : TicketLink). link l.key l.before after) o) o) same

-- a new link gets the place before it
pub put_before : (one links : ℕ → Option TicketLink) (key n : ℕ) (before : Option ℕ) (m : ℕ) → one m ≡ cond (eqb n m) (Some (link key None None)) (links m)
    → with_before one (Some n) before m ≡ cond (eqb n m) (Some (link key before None)) (links m)
put_before one links key n before m is =
    by (eqb n m) (one m) is
  where
    by : (b : Bool) (o : Option TicketLink) → o ≡ cond b (Some (link key None None)) (links m)
        → cond b (option_map (λ (l : TicketLink). link l.key before l.after) o) o ≡ cond b (Some (link key before None)) (links m)
    by true o e = ap (λ o. option_map (λ (l : TicketLink). link l.key before l.after) o) e
    by false o e = e

module _ (links one others : ℕ → Option TicketLink) (ends other_ends : ℕ → Ends) (number other_number place other_place : ℕ → Option ℕ) (key n t : ℕ)
    (lines : AreLines links ends) (are : AreKnown number place) (have : (p : ℕ) (l : TicketLink) → links p ≡ Some l → HasNumber number p)
    (fresh : links n ≡ None) (free : number n ≡ None)
    (put : (m : ℕ) → one m ≡ cond (eqb n m) (Some (link key (ends key).last None)) (links m))
    (linked : (m : ℕ) → others m ≡ with_after one (ends key).last (Some n) m)
    (ends_changed : (k : ℕ) → other_ends k ≡ cond (eqb key k) (longer (ends key) n) (ends k))
    (numbered : (m : ℕ) → other_number m ≡ cond (eqb n m) (Some t) (number m))
    (placed : (u : ℕ) → other_place u ≡ cond (eqb t u) (Some n) (place u)) where
  -- the last of the line is another place
  not_last : (ends key).last ≡ Some n → ⊥
  not_last last = by (in_linked links key None (walked links (ends key)) None n (lines.lines key).linked (back_in (walked links (ends key)) n (sym (lines.lines key).last ∙ last)))
    where
      by : HasLink links key n → ⊥
      by l = none-some l.of (sym fresh ∙ l.is)

  changed : (m : ℕ) → others m ≡ cond (eqb n m) (Some (link key (ends key).last None)) (with_after links (ends key).last (Some n) m)
  changed m = linked m ∙ by (ends key).last not_last (put m)
    where
      by : (last : Option ℕ) → (last ≡ Some n → ⊥) → one m ≡ cond (eqb n m) (Some (link key (ends key).last None)) (links m)
          → with_after one last (Some n) m ≡ cond (eqb n m) (Some (link key (ends key).last None)) (with_after links last (Some n) m)
      by None other is = is
      by (Some a) other is = cases (cases_Bool (eqb n m))
        where
          cases : (eqb n m ≡ true) ⊎ (eqb n m ≡ false)
              → with_after one (Some a) (Some n) m ≡ cond (eqb n m) (Some (link key (ends key).last None)) (with_after links (Some a) (Some n) m)
          cases (inl e) =
              cond-false (eqb a m) _ _ (ne_eqb a m (λ same. other (ap (λ k. Some k) (same ∙ sym (eqb-true n m e)))))
              ∙ (is ∙ cond-true (eqb n m) _ _ e) ∙ sym (cond-true (eqb n m) _ _ e)
          cases (inr e) =
              after_same links one (Some a) (Some n) m (is ∙ cond-false (eqb n m) _ _ e) ∙ sym (cond-false (eqb n m) _ _ e)

  entered_lines : AreLinesOf others other_ends (λ k. cond (eqb key k) (walked links (ends k) ++ n ∷ []) (walked links (ends k)))
  entered_lines = pushed links others ends other_ends key n lines fresh changed ends_changed

  pub entered_sound : AreLines others other_ends
  entered_sound = entered_lines.sound

  -- places in line keep their numbers
  keeps : (k p : ℕ) → is_in p (walked links (ends k)) ≡ true → other_number p ≡ number p
  keeps k p h = numbered p ∙ cond-false (eqb n p) _ _ (ne_eqb n p (λ same. by (in_line_has links ends number place lines are have k p h) same))
    where
      by : HasNumber number p → n ≡ p → ⊥
      by m same = none-some m.of (sym free ∙ (ap number same ∙ m.is))

  pub entered_line : (k : ℕ) → ticket_numbers other_number (walked others (other_ends k))
      ≡ cond (eqb key k) (ticket_numbers number (walked links (ends k)) ++ t ∷ []) (ticket_numbers number (walked links (ends k)))
  entered_line k = ap (λ xs. ticket_numbers other_number xs) (entered_lines.walks k) ∙ by (eqb key k)
    where
      same : ticket_numbers other_number (walked links (ends k)) ≡ ticket_numbers number (walked links (ends k))
      same = numbers_same number other_number (walked links (ends k)) (keeps k)

      by : (b : Bool) → ticket_numbers other_number (cond b (walked links (ends k) ++ n ∷ []) (walked links (ends k)))
          ≡ cond b (ticket_numbers number (walked links (ends k)) ++ t ∷ []) (ticket_numbers number (walked links (ends k)))
      by true =
          numbers_push other_number (walked links (ends k)) n t (numbered n ∙ cond-true (eqb n n) _ _ (eq-eqb n n refl))
          ∙ ap (λ ts. ts ++ t ∷ []) same
      by false = same

  pub entered_key : (u : ℕ) → key_at others (other_place u) ≡ cond (eqb t u) (Some key) (key_at links (place u))
  entered_key u = ap (λ o. key_at others o) (placed u) ∙ by (eqb t u) (place u) refl
    where
      moved : (m : ℕ) → option_map (λ (l : TicketLink). l.key) (others m) ≡ cond (eqb n m) (Some key) (option_map (λ (l : TicketLink). l.key) (links m))
      moved = pushed_key links others ends other_ends key n lines fresh changed ends_changed

      by : (b : Bool) (o : Option ℕ) → place u ≡ o → key_at others (cond b (Some n) o) ≡ cond b (Some key) (key_at links o)
      by true o e = moved n ∙ cond-true (eqb n n) _ _ (eq-eqb n n refl)
      by false None e = refl
      by false (Some p) e = moved p ∙ cond-false (eqb n p) _ _ (ne_eqb n p (λ same. none-some u (sym free ∙ (ap number same ∙ are.found u p e))))

-- numbers stay known, where a new one comes
module _ (number other_number place other_place : ℕ → Option ℕ) (n t : ℕ) (are : AreKnown number place)
    (free : number n ≡ None) (new : place t ≡ None)
    (numbered : (m : ℕ) → other_number m ≡ cond (eqb n m) (Some t) (number m))
    (placed : (u : ℕ) → other_place u ≡ cond (eqb t u) (Some n) (place u)) where
  pub entered_known : AreKnown other_number other_place
  entered_known =
      record {
        found = λ u p e. found u p (cases_Bool (eqb t u)) (sym (placed u) ∙ e);
        known = λ u p e. known u p (cases_Bool (eqb n p)) (sym (numbered p) ∙ e);
      }
    where
      found : (u p : ℕ) → (eqb t u ≡ true) ⊎ (eqb t u ≡ false) → cond (eqb t u) (Some n) (place u) ≡ Some p → other_number p ≡ Some u
      found u p (inl e) is =
          let same : n ≡ p = same_Some n p (sym (cond-true (eqb t u) _ _ e) ∙ is) in
          numbered p ∙ cond-true (eqb n p) _ _ (eq-eqb n p same) ∙ ap (λ k. Some k) (eqb-true t u e)
      found u p (inr e) is =
          let old : number p ≡ Some u = are.found u p (sym (cond-false (eqb t u) _ _ e) ∙ is) in
          numbered p ∙ cond-false (eqb n p) _ _ (ne_eqb n p (λ same. none-some u (sym free ∙ (ap number same ∙ old)))) ∙ old

      known : (u p : ℕ) → (eqb n p ≡ true) ⊎ (eqb n p ≡ false) → cond (eqb n p) (Some t) (number p) ≡ Some u → other_place u ≡ Some p
      known u p (inl e) is =
          let same : t ≡ u = same_Some t u (sym (cond-true (eqb n p) _ _ e) ∙ is) in
          placed u ∙ cond-true (eqb t u) _ _ (eq-eqb t u same) ∙ ap (λ k. Some k) (eqb-true n p e)
      known u p (inr e) is =
          let old : place u ≡ Some p = are.known u p (sym (cond-false (eqb n p) _ _ e) ∙ is) in
          placed u ∙ cond-false (eqb t u) _ _ (ne_eqb t u (λ same. none-some p (sym new ∙ (ap place same ∙ old)))) ∙ old
