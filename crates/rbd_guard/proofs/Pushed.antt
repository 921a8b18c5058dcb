-- A number that goes last into a line.
use Rattle.std.proofs.Common.{◌≡◌, ℕ, ◌+◌, Bool, true, false, cond, eqb, List, [], ◌∷◌, ◌++◌, Option, Some, None, refl, sym, ap, subst, ◌∙◌, inl, inr}
use Rattle.std.specs.Prelude.{◌⊎◌}
use Rattle.std.specs.Option.{option_map}
use Rattle.std.proofs.lemmas.List.{length_push}
use Rattle.std.proofs.lemmas.Bool.{eq-eqb, ne_eqb, eqb-true, eqb-false, cond-true, cond-false, cases_Bool}
use Rattle.std.proofs.lemmas.Option.{none-some, same_Some}
use Rattle.rbd_guard.specs.declared.link.TicketLink.{TicketLink}
use Rattle.rbd_guard.specs.declared.link.Ends.{Ends}
use Rattle.rbd_guard.specs.Order.{is_in, walked}
use Rattle.rbd_guard.specs.Links.{front, back, link, IsLine, AreLines, with_after, or_else, longer}
use Rattle.rbd_guard.proofs.Apart.{head_in, in_left, in_right, apart_push}
use Rattle.rbd_guard.proofs.Linking.{back_append, linked_frame, linked_join, linked_after, walked_is, HasLink, in_linked, back_in, after_other, after_keeps, has_link}

-- what the tables of lines say of other lines than the walked ones
pub record AreLinesOf (links : ℕ → Option TicketLink) (ends : ℕ → Ends) (line : ℕ → List ℕ) : Type 0 where
  pub sound : AreLines links ends
  pub walks : (key : ℕ) → walked links (ends key) ≡ line key

pub lines_of : (links : ℕ → Option TicketLink) (ends : ℕ → Ends) (line : ℕ → List ℕ)
    → ((key : ℕ) → IsLine links key (ends key) (line key)) → ((n : ℕ) (l : TicketLink) → links n ≡ Some l → is_in n (line l.key) ≡ true) → AreLinesOf links ends line
lines_of links ends line lines stands =
    record {
      sound = record {
        lines = λ key. subst (λ xs. IsLine links key (ends key) xs) (sym (walks key)) (lines key);
        stands = λ n l is. ap (λ xs. is_in n xs) (walks l.key) ∙ stands n l is;
      };
      walks = walks;
    }
  where
    walks : (key : ℕ) → walked links (ends key) ≡ line key
    walks key = walked_is links key (ends key) (line key) (lines key)

first_push : (line : List ℕ) (n : ℕ) → or_else (front line None) (Some n) ≡ front (line ++ n ∷ []) None
first_push [] n = refl
first_push (x ∷ line) n = refl

module _ (links others : ℕ → Option TicketLink) (ends other_ends : ℕ → Ends) (key n : ℕ) (sound : AreLines links ends)
    (fresh : links n ≡ None)
    (changed : (m : ℕ) → others m ≡ cond (eqb n m) (Some (link key (ends key).last None)) (with_after links (ends key).last (Some n) m))
    (ends_changed : (k : ℕ) → other_ends k ≡ cond (eqb key k) (longer (ends key) n) (ends k)) where
  abbrev pub pushed_line : ℕ → List ℕ
  pushed_line k = cond (eqb key k) (walked links (ends k) ++ n ∷ []) (walked links (ends k))

  -- a number that stands in a line is no new one
  old : (k m : ℕ) → is_in m (walked links (ends k)) ≡ true → n ≡ m → ⊥
  old k m here same = by (in_linked links k None (walked links (ends k)) None m (sound.lines k).linked here)
    where
      by : HasLink links k m → ⊥
      by h = none-some h.of (sym fresh ∙ (ap links same ∙ h.is))

  out : (k : ℕ) → is_in n (walked links (ends k)) ≡ false
  out k = by (is_in n (walked links (ends k))) refl
    where
      by : (b : Bool) → is_in n (walked links (ends k)) ≡ b → is_in n (walked links (ends k)) ≡ false
      by true e = absurd (old k n e refl)
      by false e = e

  last_is : (ends key).last ≡ back None (walked links (ends key))
  last_is = (sound.lines key).last

  -- other numbers have the link that they had, but for the last of the line
  keeps : (m : ℕ) → (n ≡ m → ⊥) → others m ≡ with_after links (back None (walked links (ends key))) (Some n) m
  keeps m differs = changed m ∙ cond-false (eqb n m) _ _ (ne_eqb n m differs) ∙ ap (λ at. with_after links at (Some n) m) last_is

  this : IsLine others key (longer (ends key) n) (walked links (ends key) ++ n ∷ [])
  this =
      record {
        first = ap (λ o. or_else o (Some n)) (sound.lines key).first ∙ first_push (walked links (ends key)) n;
        last = sym (back_append None (walked links (ends key)) (n ∷ []));
        count = ap (λ c. c + 1) (sound.lines key).count ∙ sym (length_push (walked links (ends key)) n);
        linked = linked_join others key None (walked links (ends key)) (n ∷ []) None
            (linked_frame (with_after links (back None (walked links (ends key))) (Some n)) others key None (walked links (ends key)) (Some n) (λ m here. keeps m (old key m here))
            (linked_after links key (walked links (ends key)) None (Some n) (sound.lines key).linked (sound.lines key).apart))
            (changed n ∙ cond-true (eqb n n) _ _ (eq-eqb n n refl) ∙ ap (λ before. Some (link key before None)) last_is, tt);
        apart = apart_push (walked links (ends key)) n (sound.lines key).apart (out key);
      }

  other : (k : ℕ) → (key ≡ k → ⊥) → IsLine others k (ends k) (walked links (ends k))
  other k differs =
      record {
        first = (sound.lines k).first;
        last = (sound.lines k).last;
        count = (sound.lines k).count;
        linked = linked_frame links others k None (walked links (ends k)) None (λ m here. keeps m (old k m here) ∙ after_other links _ (Some n) m (λ e. apart m here (back_in _ m e))) (sound.lines k).linked;
        apart = (sound.lines k).apart;
      }
    where
      apart : (m : ℕ) → is_in m (walked links (ends k)) ≡ true → is_in m (walked links (ends key)) ≡ true → ⊥
      apart m here there = by (in_linked links k None _ None m (sound.lines k).linked here) (in_linked links key None _ None m (sound.lines key).linked there)
        where
          by : HasLink links k m → HasLink links key m → ⊥
          by a b = differs (sym b.key_is ∙ (ap (λ (l : TicketLink). l.key) (same_Some b.of a.of (sym b.is ∙ a.is)) ∙ a.key_is))

  line_is : (k : ℕ) → IsLine others k (other_ends k) (pushed_line k)
  line_is k = by (cases_Bool (eqb key k))
    where
      here : (eqb key k ≡ true) → key ≡ k → IsLine others k (other_ends k) (pushed_line k)
      here e same =
          subst (λ es. IsLine others k es (pushed_line k)) (sym (ends_changed k ∙ cond-true (eqb key k) _ _ e))
          (subst (λ xs. IsLine others k (longer (ends key) n) xs) (sym (cond-true (eqb key k) _ _ e))
          (subst (λ j. IsLine others j (longer (ends key) n) (walked links (ends j) ++ n ∷ [])) same this))

      by : (eqb key k ≡ true) ⊎ (eqb key k ≡ false) → IsLine others k (other_ends k) (pushed_line k)
      by (inl e) = here e (eqb-true key k e)
      by (inr e) =
          subst (λ es. IsLine others k es (pushed_line k)) (sym (ends_changed k ∙ cond-false (eqb key k) _ _ e))
          (subst (λ xs. IsLine others k (ends k) xs) (sym (cond-false (eqb key k) _ _ e)) (other k (eqb-false key k e)))

  in_pushed : (k m : ℕ) → is_in m (walked links (ends k)) ≡ true → is_in m (pushed_line k) ≡ true
  in_pushed k m here = by (eqb key k)
    where
      by : (b : Bool) → is_in m (cond b (walked links (ends k) ++ n ∷ []) (walked links (ends k))) ≡ true
      by true = in_left m (walked links (ends k)) (n ∷ []) here
      by false = here

  stands : (m : ℕ) (l : TicketLink) → others m ≡ Some l → is_in m (pushed_line l.key) ≡ true
  stands m l is = by (cases_Bool (eqb n m))
    where
      new : (eqb n m ≡ true) → key ≡ l.key → is_in m (pushed_line l.key) ≡ true
      new e same =
          ap (λ xs. is_in m xs) (cond-true (eqb key l.key) _ _ (eq-eqb key l.key same))
          ∙ in_right m (walked links (ends l.key)) (n ∷ []) (ap (λ k. is_in k (n ∷ [])) (sym (eqb-true n m e)) ∙ head_in n [])

      kept : HasLink links l.key m → is_in m (pushed_line l.key) ≡ true
      kept h = in_pushed l.key m (subst (λ k. is_in m (walked links (ends k)) ≡ true) h.key_is (sound.stands m h.of h.is))

      by : (eqb n m ≡ true) ⊎ (eqb n m ≡ false) → is_in m (pushed_line l.key) ≡ true
      by (inl e) = new e (ap (λ (l : TicketLink). l.key) (same_Some _ l (sym (changed m ∙ cond-true (eqb n m) _ _ e) ∙ is)))
      by (inr e) = kept (has_link links m l.key (sym (after_keeps links (back None (walked links (ends key))) (Some n) m) ∙ ap (λ o. option_map (λ (l : TicketLink). l.key) o) (sym (keeps m (eqb-false n m e)) ∙ is)))

  pub pushed : AreLinesOf others other_ends (pushed_line)
  pushed = lines_of others other_ends pushed_line line_is stands

  pub pushed_key : (m : ℕ) → option_map (λ (l : TicketLink). l.key) (others m) ≡ cond (eqb n m) (Some key) (option_map (λ (l : TicketLink). l.key) (links m))
  pushed_key m = by (cases_Bool (eqb n m))
    where
      by : (eqb n m ≡ true) ⊎ (eqb n m ≡ false) → option_map (λ (l : TicketLink). l.key) (others m) ≡ cond (eqb n m) (Some key) (option_map (λ (l : TicketLink). l.key) (links m))
      by (inl e) = ap (λ o. option_map (λ (l : TicketLink). l.key) o) (changed m ∙ cond-true (eqb n m) _ _ e) ∙ sym (cond-true (eqb n m) _ _ e)
      by (inr e) = ap (λ o. option_map (λ (l : TicketLink). l.key) o) (keeps m (eqb-false n m e)) ∙ after_keeps links (back None (walked links (ends key))) (Some n) m ∙ sym (cond-false (eqb n m) _ _ e)
