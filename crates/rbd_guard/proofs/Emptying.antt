-- A place that goes out of its line, read as the number of its ticket.
use Rattle.std.proofs.Common.{◌≡◌, ℕ, Bool, true, false, cond, eqb, Option, Some, None, refl, sym, ap, ◌∙◌, inl, inr, true≢false}
use Rattle.std.specs.Prelude.{◌⊎◌}
use Rattle.std.specs.Option.{option_map}
use Rattle.std.proofs.lemmas.Bool.{ne_eqb, eqb-false, cond-true, cond-false, cases_Bool}
use Rattle.std.proofs.lemmas.Option.{none-some, same_Some}
use Rattle.rbd_guard.specs.declared.link.TicketLink.{TicketLink}
use Rattle.rbd_guard.specs.declared.link.Ends.{Ends}
use Rattle.rbd_guard.specs.Order.{is_in, without, walked}
use Rattle.rbd_guard.specs.Links.{AreLines, with_after, with_before, shorter, or_none}
use Rattle.rbd_guard.specs.Tickets.{ticket_numbers, key_at}
use Rattle.rbd_guard.proofs.Apart.{out}
use Rattle.rbd_guard.proofs.Pushed.{AreLinesOf}
use Rattle.rbd_guard.proofs.Removed.{removed, removed_key}
use Rattle.rbd_guard.proofs.Numbered.{HasNumber, AreKnown, numbers_same, numbers_without, in_line_has}

module _ (links one rest : ℕ → Option TicketLink) (ends other_ends : ℕ → Ends) (number other_number place other_place : ℕ → Option ℕ) (n t : ℕ) (l : TicketLink)
    (lines : AreLines links ends) (are : AreKnown number place) (have : (p : ℕ) (l : TicketLink) → links p ≡ Some l → HasNumber number p)
    (has : links n ≡ Some l) (mine : number n ≡ Some t)
    (taken : (m : ℕ) → one m ≡ cond (eqb n m) None (links m))
    (linked : (m : ℕ) → rest m ≡ with_before (with_after one l.before l.after) l.after l.before m)
    (ends_changed : (k : ℕ) → other_ends k ≡ cond (eqb l.key k) (or_none (shorter (ends l.key) l)) (ends k))
    (numbered : (m : ℕ) → other_number m ≡ cond (eqb n m) None (number m))
    (placed : (u : ℕ) → other_place u ≡ cond (eqb t u) None (place u)) where
  left_lines : AreLinesOf rest other_ends (λ k. without n (walked links (ends k)))
  left_lines = removed links one (with_after one l.before l.after) rest ends other_ends n l lines has taken (λ m. refl) linked ends_changed

  pub left_sound : AreLines rest other_ends
  left_sound = left_lines.sound

  -- who stays in line keeps the number
  keeps : (k p : ℕ) → is_in p (without n (walked links (ends k))) ≡ true → other_number p ≡ number p
  keeps k p h =
      numbered p
      ∙ cond-false (eqb n p) _ _ (ne_eqb n p (λ same. true≢false (sym h ∙ (ap (λ m. is_in m (without n (walked links (ends k)))) (sym same) ∙ out (walked links (ends k)) n))))

  pub left_line : (k : ℕ) → ticket_numbers other_number (walked rest (other_ends k)) ≡ without t (ticket_numbers number (walked links (ends k)))
  left_line k =
      ap (λ xs. ticket_numbers other_number xs) (left_lines.walks k)
      ∙ numbers_same number other_number (without n (walked links (ends k))) (keeps k)
      ∙ numbers_without number place n t (walked links (ends k)) are mine (in_line_has links ends number place lines are have k)

  pub left_key : (u : ℕ) → key_at rest (other_place u) ≡ cond (eqb t u) None (key_at links (place u))
  left_key u = ap (λ o. key_at rest o) (placed u) ∙ by (eqb t u) (place u) refl refl
    where
      moved : (m : ℕ) → option_map (λ (l : TicketLink). l.key) (rest m) ≡ cond (eqb n m) None (option_map (λ (l : TicketLink). l.key) (links m))
      moved = removed_key links one (with_after one l.before l.after) rest ends other_ends n l lines has taken (λ m. refl) linked ends_changed

      by : (b : Bool) (o : Option ℕ) → eqb t u ≡ b → place u ≡ o → key_at rest (cond b None o) ≡ cond b None (key_at links o)
      by true o other e = refl
      by false None other e = refl
      by false (Some p) other e =
          moved p
          ∙ cond-false (eqb n p) _ _ (ne_eqb n p (λ same. eqb-false t u other (same_Some t u (sym mine ∙ (ap number same ∙ are.found u p e)))))

-- numbers stay known, where one goes
module _ (number other_number place other_place : ℕ → Option ℕ) (n t : ℕ) (are : AreKnown number place) (mine : number n ≡ Some t)
    (numbered : (m : ℕ) → other_number m ≡ cond (eqb n m) None (number m))
    (placed : (u : ℕ) → other_place u ≡ cond (eqb t u) None (place u)) where
  pub left_known : AreKnown other_number other_place
  left_known =
      record {
        found = λ u p e. found u p (cases_Bool (eqb t u)) (sym (placed u) ∙ e);
        known = λ u p e. known u p (cases_Bool (eqb n p)) (sym (numbered p) ∙ e);
      }
    where
      found : (u p : ℕ) → (eqb t u ≡ true) ⊎ (eqb t u ≡ false) → cond (eqb t u) None (place u) ≡ Some p → other_number p ≡ Some u
      found u p (inl e) is = absurd (none-some p (sym (cond-true (eqb t u) _ _ e) ∙ is))
      found u p (inr e) is =
          let old : number p ≡ Some u = are.found u p (sym (cond-false (eqb t u) _ _ e) ∙ is) in
          numbered p ∙ cond-false (eqb n p) _ _ (ne_eqb n p (λ same. eqb-false t u e (same_Some t u (sym mine ∙ (ap number same ∙ old))))) ∙ old

      known : (u p : ℕ) → (eqb n p ≡ true) ⊎ (eqb n p ≡ false) → cond (eqb n p) None (number p) ≡ Some u → other_place u ≡ Some p
      known u p (inl e) is = absurd (none-some u (sym (cond-true (eqb n p) _ _ e) ∙ is))
      known u p (inr e) is =
          let mark : number p ≡ Some u = sym (cond-false (eqb n p) _ _ e) ∙ is in
          let old : place u ≡ Some p = are.known u p mark in
          let my : place t ≡ Some n = are.known t n mine in
          placed u ∙ cond-false (eqb t u) _ _ (ne_eqb t u (λ same. eqb-false n p e (same_Some n p (sym my ∙ (ap place same ∙ old))))) ∙ old
