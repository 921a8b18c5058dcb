-- A number that goes out of its line.
use Rattle.std.proofs.Common.{◌≡◌, ℕ, suc, ◌-◌, ◌<◌, Bool, true, false, cond, eqb, List, [], ◌∷◌, ◌++◌, length, Option, Some, None, refl, sym, ap, subst, ◌∙◌, inl, inr, true≢false, arith}
use Rattle.std.specs.Prelude.{◌⊎◌}
use Rattle.std.specs.Option.{option_map, is_some}
use Rattle.std.proofs.lemmas.List.{append-nil}
use Rattle.std.proofs.lemmas.Bool.{eq-eqb, ne_eqb, eqb-true, eqb-false, cond-true, cond-false, cases_Bool}
use Rattle.std.proofs.lemmas.Option.{none-some, same_Some}
use Rattle.rbd_guard.specs.declared.link.TicketLink.{TicketLink}
use Rattle.rbd_guard.specs.declared.link.Ends.{Ends}
use Rattle.rbd_guard.specs.Order.{is_in, without, AreApart, walked, no_ends, ends_or}
use Rattle.rbd_guard.specs.Links.{front, back, link, AreLinked, IsLine, AreLines, with_after, with_before, other_unless, shorter, or_none}
use Rattle.rbd_guard.proofs.Apart.{in_left, in_right, tail_in, some_length, differ, others, absent, apart_without, Around, around, IsAmid, amid}
use Rattle.rbd_guard.proofs.Linking.{back_append, linked_frame, linked_split, linked_join, linked_after, linked_before, HasLink, in_linked, back_in, front_in, after_other, before_other, after_keeps, before_keeps, has_link}
use Rattle.rbd_guard.proofs.Pushed.{AreLinesOf, lines_of}

unless_back : (x : ℕ) (line : List ℕ) (other kept : Option ℕ) → other_unless (back (Some x) line) other kept ≡ kept
unless_back x [] other kept = refl
unless_back x (y ∷ line) other kept = unless_back y line other kept

first_rest : (xs ys : List ℕ) (n : ℕ) → other_unless (back None xs) (front ys None) (front (xs ++ n ∷ ys) None) ≡ front (xs ++ ys) None
first_rest [] ys n = refl
first_rest (x ∷ xs) ys n = unless_back x xs (front ys None) (Some x)

last_rest : (xs ys : List ℕ) (n : ℕ) → other_unless (front ys None) (back None xs) (back None (xs ++ n ∷ ys)) ≡ back None (xs ++ ys)
last_rest xs [] n = ap (λ l. back None l) (sym (append-nil xs))
last_rest xs (y ∷ ys) n = back_append None xs (n ∷ y ∷ ys) ∙ sym (back_append None xs (y ∷ ys))

count_rest : (xs ys : List ℕ) (n : ℕ) → length (xs ++ n ∷ ys) - 1 ≡ length (xs ++ ys)
count_rest [] ys n = omega arith
count_rest (x ∷ xs) ys n = (let rest : length (xs ++ n ∷ ys) ≡ suc (length (xs ++ ys)) = more xs ys n in omega arith)
  where
    more : (xs ys : List ℕ) (n : ℕ) → length (xs ++ n ∷ ys) ≡ suc (length (xs ++ ys))
    more [] ys n = refl
    more (x ∷ xs) ys n = ap suc (more xs ys n)

-- a line that has no one has no ends
none_stays : (links : ℕ → Option TicketLink) (key : ℕ) (e : Ends) (line : List ℕ) → IsLine links key e line → IsLine links key (or_none e) line
none_stays links key e [] is = subst (λ es. IsLine links key es []) (sym (cond-true (eqb e.count 0) no_ends e (eq-eqb e.count 0 is.count))) (record { first = refl; last = refl; count = refl; linked = tt; apart = tt })
none_stays links key e (x ∷ line) is = subst (λ es. IsLine links key es (x ∷ line)) (sym (cond-false (eqb e.count 0) no_ends e (ne_eqb e.count 0 (λ none. omega (arith, none, is.count))))) is

none_both : (b : Bool) (f : Option TicketLink → Option TicketLink) (o : Option TicketLink) → f None ≡ None → o ≡ None → cond b (f o) o ≡ None
none_both true f o keeps e = ap f e ∙ keeps
none_both false f o keeps e = e

after_none : (links : ℕ → Option TicketLink) (at after : Option ℕ) (m : ℕ) → links m ≡ None → with_after links at after m ≡ None
after_none links None after m e = e
after_none links (Some a) after m e = none_both (eqb a m) (λ o. option_map (λ (l : TicketLink). link l.key l.before after) o) (links m) refl e

before_none : (links : ℕ → Option TicketLink) (at before : Option ℕ) (m : ℕ) → links m ≡ None → with_before links at before m ≡ None
before_none links None before m e = e
before_none links (Some a) before m e = none_both (eqb a m) (λ o. option_map (λ (l : TicketLink). link l.key before l.after) o) (links m) refl e

module _ (links one two three : ℕ → Option TicketLink) (ends other_ends : ℕ → Ends) (n : ℕ) (l : TicketLink) (sound : AreLines links ends)
    (has : links n ≡ Some l)
    (first_change : (m : ℕ) → one m ≡ cond (eqb n m) None (links m))
    (second_change : (m : ℕ) → two m ≡ with_after one l.before l.after m)
    (third_change : (m : ℕ) → three m ≡ with_before two l.after l.before m)
    (ends_changed : (k : ℕ) → other_ends k ≡ cond (eqb l.key k) (or_none (shorter (ends l.key) l)) (ends k)) where
  -- the line of the number, around it
  record IsHere (xs ys : List ℕ) : Type 0 where
    line_is : walked links (ends l.key) ≡ xs ++ n ∷ ys
    amid_is : IsAmid xs n ys
    before_is : l.before ≡ back None xs
    after_is : l.after ≡ front ys None
    left : AreLinked links l.key None xs (Some n)
    right : AreLinked links l.key (Some n) ys None

  record Here : Type 0 where
    xs : List ℕ
    ys : List ℕ
    is : IsHere xs ys

  here : Here
  here = by (around n (walked links (ends l.key)) (sound.stands n l has))
    where
      by : Around n (walked links (ends l.key)) → Here
      by a = record {
        xs = a.xs;
        ys = a.ys;
        is = record {
          line_is = a.is;
          amid_is = amid a.xs n a.ys (subst AreApart a.is (sound.lines l.key).apart);
          before_is = ap (λ (l : TicketLink). l.before) linked_so;
          after_is = ap (λ (l : TicketLink). l.after) linked_so;
          left = parts.0;
          right = parts.1.1;
        };
      }
        where
          parts : AreLinked links l.key None a.xs (Some n) × ((links n ≡ Some (link l.key (back None a.xs) (front a.ys None))) × AreLinked links l.key (Some n) a.ys None)
          parts = linked_split links l.key None a.xs (n ∷ a.ys) None (subst (λ xs. AreLinked links l.key None xs None) a.is (sound.lines l.key).linked)

          linked_so : l ≡ link l.key (back None a.xs) (front a.ys None)
          linked_so = same_Some l (link l.key (back None a.xs) (front a.ys None)) (sym has ∙ parts.1.0)

  -- a number outside the line keeps its link, and so do those that aren't next to the one that goes
  keeps : (m : ℕ) → (n ≡ m → ⊥) → (l.before ≡ Some m → ⊥) → (l.after ≡ Some m → ⊥) → three m ≡ links m
  keeps m differs not_before not_after =
      third_change m ∙ before_other two l.after l.before m not_after
      ∙ (second_change m ∙ after_other one l.before l.after m not_before)
      ∙ (first_change m ∙ cond-false (eqb n m) _ _ (ne_eqb n m differs))

  keeps_key : (m : ℕ) → (n ≡ m → ⊥) → option_map (λ (l : TicketLink). l.key) (three m) ≡ option_map (λ (l : TicketLink). l.key) (links m)
  keeps_key m differs =
      ap (λ o. option_map (λ (l : TicketLink). l.key) o) (third_change m) ∙ before_keeps two l.after l.before m
      ∙ (ap (λ o. option_map (λ (l : TicketLink). l.key) o) (second_change m) ∙ after_keeps one l.before l.after m)
      ∙ ap (λ o. option_map (λ (l : TicketLink). l.key) o) (first_change m ∙ cond-false (eqb n m) _ _ (ne_eqb n m differs))

  module _ (xs ys : List ℕ) (is : IsHere xs ys) where
    left_linked : AreLinked three l.key None xs (front ys None)
    left_linked =
        linked_frame two three l.key None xs (front ys None)
        (λ m h. third_change m ∙ before_other two l.after l.before m (λ e. true≢false (sym (front_in ys m (sym is.after_is ∙ e)) ∙ is.amid_is.sides m h)))
        (linked_frame (with_after one (back None xs) (front ys None)) two l.key None xs (front ys None)
        (λ m h. second_change m ∙ ap (λ at. with_after one at l.after m) is.before_is ∙ ap (λ a. with_after one (back None xs) a m) is.after_is)
        (linked_after one l.key xs (Some n) (front ys None)
        (linked_frame links one l.key None xs (Some n) (λ m h. first_change m ∙ cond-false (eqb n m) _ _ (ne_eqb n m (λ e. differ m n xs h is.amid_is.before (sym e)))) is.left)
        is.amid_is.left))

    right_linked : AreLinked three l.key (back None xs) ys None
    right_linked =
        linked_frame (with_before two (front ys None) (back None xs)) three l.key (back None xs) ys None
        (λ m h. third_change m ∙ ap (λ at. with_before two at l.before m) is.after_is ∙ ap (λ b. with_before two (front ys None) b m) is.before_is)
        (linked_before two l.key ys (Some n) (back None xs)
        (linked_frame links two l.key (Some n) ys None
        (λ m h. second_change m ∙ after_other one l.before l.after m (λ e. true≢false (sym h ∙ is.amid_is.sides m (back_in xs m (sym is.before_is ∙ e))))
        ∙ (first_change m ∙ cond-false (eqb n m) _ _ (ne_eqb n m (λ e. differ m n ys h is.amid_is.after (sym e)))))
        is.right)
        is.amid_is.right)

    rest_line : IsLine three l.key (shorter (ends l.key) l) (xs ++ ys)
    rest_line =
        record {
          first = ap (λ b. other_unless b l.after (ends l.key).first) is.before_is ∙ ap (λ a. other_unless (back None xs) a (ends l.key).first) is.after_is
              ∙ ap (λ f. other_unless (back None xs) (front ys None) f) ((sound.lines l.key).first ∙ ap (λ line. front line None) is.line_is) ∙ first_rest xs ys n;
          last = ap (λ a. other_unless a l.before (ends l.key).last) is.after_is ∙ ap (λ b. other_unless (front ys None) b (ends l.key).last) is.before_is
              ∙ ap (λ f. other_unless (front ys None) (back None xs) f) ((sound.lines l.key).last ∙ ap (λ line. back None line) is.line_is) ∙ last_rest xs ys n;
          count = ap (λ c. c - 1) ((sound.lines l.key).count ∙ ap length is.line_is) ∙ count_rest xs ys n;
          linked = linked_join three l.key None xs ys None left_linked right_linked;
          apart = subst AreApart is.amid_is.rest (apart_without (xs ++ n ∷ ys) n (subst AreApart is.line_is (sound.lines l.key).apart));
        }

    this : IsLine three l.key (or_none (shorter (ends l.key) l)) (without n (walked links (ends l.key)))
    this =
        subst (λ line. IsLine three l.key (or_none (shorter (ends l.key) l)) line) (sym (ap (λ line. without n line) is.line_is ∙ is.amid_is.rest))
        (none_stays three l.key (shorter (ends l.key) l) (xs ++ ys) rest_line)

    near_before : (m : ℕ) → l.before ≡ Some m → is_in m (walked links (ends l.key)) ≡ true
    near_before m e = ap (λ line. is_in m line) is.line_is ∙ in_left m xs (n ∷ ys) (back_in xs m (sym is.before_is ∙ e))

    near_after : (m : ℕ) → l.after ≡ Some m → is_in m (walked links (ends l.key)) ≡ true
    near_after m e = ap (λ line. is_in m line) is.line_is ∙ in_right m xs (n ∷ ys) (tail_in n m ys (front_in ys m (sym is.after_is ∙ e)))

    -- who stands under another key isn't in this line
    elsewhere : (k m : ℕ) → (l.key ≡ k → ⊥) → is_in m (walked links (ends k)) ≡ true → is_in m (walked links (ends l.key)) ≡ true → ⊥
    elsewhere k m differs a b = by (in_linked links k None _ None m (sound.lines k).linked a) (in_linked links l.key None _ None m (sound.lines l.key).linked b)
      where
        by : HasLink links k m → HasLink links l.key m → ⊥
        by p q = differs (sym q.key_is ∙ (ap (λ (l : TicketLink). l.key) (same_Some q.of p.of (sym q.is ∙ p.is)) ∙ p.key_is))

    out_of : (k : ℕ) → (l.key ≡ k → ⊥) → is_in n (walked links (ends k)) ≡ false
    out_of k differs = by (is_in n (walked links (ends k))) refl
      where
        by : (b : Bool) → is_in n (walked links (ends k)) ≡ b → is_in n (walked links (ends k)) ≡ false
        by true e = absurd (elsewhere k n differs e (sound.stands n l has))
        by false e = e

    other : (k : ℕ) → (l.key ≡ k → ⊥) → IsLine three k (ends k) (without n (walked links (ends k)))
    other k differs =
        subst (λ line. IsLine three k (ends k) line) (sym (absent n (walked links (ends k)) (out_of k differs)))
        (record {
          first = (sound.lines k).first;
          last = (sound.lines k).last;
          count = (sound.lines k).count;
          linked = linked_frame links three k None (walked links (ends k)) None
              (λ m h. keeps m (λ e. differ m n (walked links (ends k)) h (out_of k differs) (sym e)) (λ e. elsewhere k m differs h (near_before m e)) (λ e. elsewhere k m differs h (near_after m e)))
              (sound.lines k).linked;
          apart = (sound.lines k).apart;
        })

    line_is : (k : ℕ) → IsLine three k (other_ends k) (without n (walked links (ends k)))
    line_is k = by (cases_Bool (eqb l.key k))
      where
        by : (eqb l.key k ≡ true) ⊎ (eqb l.key k ≡ false) → IsLine three k (other_ends k) (without n (walked links (ends k)))
        by (inl e) =
            subst (λ es. IsLine three k es (without n (walked links (ends k)))) (sym (ends_changed k ∙ cond-true (eqb l.key k) _ _ e))
            (subst (λ j. IsLine three j (or_none (shorter (ends l.key) l)) (without n (walked links (ends j)))) (eqb-true l.key k e) this)
        by (inr e) =
            subst (λ es. IsLine three k es (without n (walked links (ends k)))) (sym (ends_changed k ∙ cond-false (eqb l.key k) _ _ e)) (other k (eqb-false l.key k e))

  gone : three n ≡ None
  gone = third_change n ∙ before_none two l.after l.before n (second_change n ∙ after_none one l.before l.after n (first_change n ∙ cond-true (eqb n n) _ _ (eq-eqb n n refl)))

  stands : (m : ℕ) (k : TicketLink) → three m ≡ Some k → is_in m (without n (walked links (ends k.key))) ≡ true
  stands m k is = by (cases_Bool (eqb n m))
    where
      kept : (n ≡ m → ⊥) → HasLink links k.key m → is_in m (without n (walked links (ends k.key))) ≡ true
      kept differs h = others (walked links (ends k.key)) n m (λ e. differs (sym e)) ∙ subst (λ j. is_in m (walked links (ends j)) ≡ true) h.key_is (sound.stands m h.of h.is)

      by : (eqb n m ≡ true) ⊎ (eqb n m ≡ false) → is_in m (without n (walked links (ends k.key))) ≡ true
      by (inl e) = absurd (none-some k (sym gone ∙ (ap three (eqb-true n m e) ∙ is)))
      by (inr e) = kept (eqb-false n m e) (has_link links m k.key (sym (keeps_key m (eqb-false n m e)) ∙ ap (λ o. option_map (λ (l : TicketLink). l.key) o) is))

  pub removed : AreLinesOf three other_ends (λ k. without n (walked links (ends k)))
  removed = by here
    where
      by : Here → AreLinesOf three other_ends (λ k. without n (walked links (ends k)))
      by h = lines_of three other_ends (λ k. without n (walked links (ends k))) (line_is h.xs h.ys h.is) stands

  pub removed_key : (m : ℕ) → option_map (λ (l : TicketLink). l.key) (three m) ≡ cond (eqb n m) None (option_map (λ (l : TicketLink). l.key) (links m))
  removed_key m = by (cases_Bool (eqb n m))
    where
      by : (eqb n m ≡ true) ⊎ (eqb n m ≡ false) → option_map (λ (l : TicketLink). l.key) (three m) ≡ cond (eqb n m) None (option_map (λ (l : TicketLink). l.key) (links m))
      by (inl e) = ap (λ o. option_map (λ (l : TicketLink). l.key) o) (ap three (sym (eqb-true n m e)) ∙ gone) ∙ sym (cond-true (eqb n m) _ _ e)
      by (inr e) = keeps_key m (eqb-false n m e) ∙ sym (cond-false (eqb n m) _ _ e)

-- somebody stands in the line of a number that has a link
pub some_stand : (links : ℕ → Option TicketLink) (ends : ℕ → Ends) (n : ℕ) (l : TicketLink) → AreLines links ends → links n ≡ Some l → 0 < (ends l.key).count
some_stand links ends n l sound has =
    (let count = (sound.lines l.key).count in let some = some_length n (walked links (ends l.key)) (sound.stands n l has) in omega (arith, count, some))

pub some_ends : (o : Option Ends) → 0 < (ends_or o).count → is_some o ≡ true
some_ends None less = absurd (omega (arith, less))
some_ends (Some e) less = refl
