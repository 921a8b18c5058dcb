-- Links that hold a line, and changes of one link.
use Rattle.std.proofs.Common.{◌≡◌, ℕ, Bool, true, false, cond, eqb, List, [], ◌∷◌, ◌++◌, length, Option, Some, None, refl, sym, ap, ◌∙◌, inl, inr, true≢false}
use Rattle.std.specs.Prelude.{◌⊎◌}
use Rattle.std.specs.Option.{option_map}
use Rattle.std.proofs.lemmas.Bool.{or_cases, eq-eqb, ne_eqb, eqb-true, cond-true, cond-false}
use Rattle.std.proofs.lemmas.Option.{none-some, same_Some}
use Rattle.rbd_guard.specs.declared.link.TicketLink.{TicketLink}
use Rattle.rbd_guard.specs.declared.link.Ends.{Ends}
use Rattle.rbd_guard.specs.Order.{is_in, AreApart, walk, walked, next_after}
use Rattle.rbd_guard.specs.Links.{front, back, link, AreLinked, IsLine, with_after, with_before}
use Rattle.rbd_guard.proofs.Apart.{head_in, tail_in}

-- ---- parts of a line

pub front_append : (xs ys : List ℕ) (after : Option ℕ) → front (xs ++ ys) after ≡ front xs (front ys after)
front_append [] ys after = refl
front_append (x ∷ xs) ys after = refl

pub back_append : (before : Option ℕ) (xs ys : List ℕ) → back before (xs ++ ys) ≡ back (back before xs) ys
back_append before [] ys = refl
back_append before (x ∷ xs) ys = back_append (Some x) xs ys

pub linked_frame : (links others : ℕ → Option TicketLink) (key : ℕ) (before : Option ℕ) (line : List ℕ) (after : Option ℕ)
    → ((m : ℕ) → is_in m line ≡ true → others m ≡ links m) → AreLinked links key before line after → AreLinked others key before line after
linked_frame links others key before [] after same l = tt
linked_frame links others key before (x ∷ line) after same l =
    (same x (head_in x line) ∙ l.0, linked_frame links others key (Some x) line after (λ m h. same m (tail_in x m line h)) l.1)

pub linked_split : (links : ℕ → Option TicketLink) (key : ℕ) (before : Option ℕ) (xs ys : List ℕ) (after : Option ℕ)
    → AreLinked links key before (xs ++ ys) after → AreLinked links key before xs (front ys after) × AreLinked links key (back before xs) ys after
linked_split links key before [] ys after l = (tt, l)
linked_split links key before (x ∷ xs) ys after l =
    let rest = linked_split links key (Some x) xs ys after l.1 in
    ((l.0 ∙ ap (λ a. Some (link key before a)) (front_append xs ys after), rest.0), rest.1)

pub linked_join : (links : ℕ → Option TicketLink) (key : ℕ) (before : Option ℕ) (xs ys : List ℕ) (after : Option ℕ)
    → AreLinked links key before xs (front ys after) → AreLinked links key (back before xs) ys after → AreLinked links key before (xs ++ ys) after
linked_join links key before [] ys after l r = r
linked_join links key before (x ∷ xs) ys after l r =
    (l.0 ∙ sym (ap (λ a. Some (link key before a)) (front_append xs ys after)), linked_join links key (Some x) xs ys after l.1 r)

pub walk_line : (links : ℕ → Option TicketLink) (key : ℕ) (before : Option ℕ) (line : List ℕ)
    → AreLinked links key before line None → walk links (length line) (front line None) ≡ line
walk_line links key before [] l = refl
walk_line links key before (x ∷ line) l =
    ap (λ rest. x ∷ rest) (ap (λ o. walk links (length line) (next_after o)) l.0 ∙ walk_line links key (Some x) line l.1)

pub walked_is : (links : ℕ → Option TicketLink) (key : ℕ) (e : Ends) (line : List ℕ) → IsLine links key e line → walked links e ≡ line
walked_is links key e line is =
    ap (λ n. walk links n e.first) is.count ∙ ap (λ from. walk links (length line) from) is.first ∙ walk_line links key None line is.linked

-- a number that stands in line has a link with the line's key
pub record HasLink (links : ℕ → Option TicketLink) (key number : ℕ) : Type 0 where
  pub of : TicketLink
  pub is : links number ≡ Some of
  pub key_is : of.key ≡ key

pub in_linked : (links : ℕ → Option TicketLink) (key : ℕ) (before : Option ℕ) (line : List ℕ) (after : Option ℕ) (m : ℕ)
    → AreLinked links key before line after → is_in m line ≡ true → HasLink links key m
in_linked links key before [] after m l h = absurd (true≢false (sym h))
in_linked links key before (x ∷ line) after m l h = by (or_cases (eqb x m) (is_in m line) h) (λ there. in_linked links key (Some x) line after m l.1 there)
  where
    by : (eqb x m ≡ true) ⊎ (is_in m line ≡ true) → (is_in m line ≡ true → HasLink links key m) → HasLink links key m
    by (inl same) rest = record { of = link key before (front line after); is = ap links (sym (eqb-true x m same)) ∙ l.0; key_is = refl }
    by (inr there) rest = rest there

-- ---- the last of a line, and its first

back_is_in : (x : ℕ) (line : List ℕ) (m : ℕ) → back (Some x) line ≡ Some m → is_in m (x ∷ line) ≡ true
back_is_in x [] m e = ap (λ k. is_in k (x ∷ [])) (sym (same_Some x m e)) ∙ head_in x []
back_is_in x (y ∷ line) m e = tail_in x m (y ∷ line) (back_is_in y line m e)

pub back_in : (line : List ℕ) (m : ℕ) → back None line ≡ Some m → is_in m line ≡ true
back_in [] m e = absurd (none-some m e)
back_in (x ∷ line) m e = back_is_in x line m e

pub front_in : (line : List ℕ) (m : ℕ) → front line None ≡ Some m → is_in m line ≡ true
front_in [] m e = absurd (none-some m e)
front_in (x ∷ line) m e = ap (λ k. is_in k (x ∷ line)) (sym (same_Some x m e)) ∙ head_in x line

-- ---- one link changed

pub after_other : (links : ℕ → Option TicketLink) (at after : Option ℕ) (m : ℕ) → (at ≡ Some m → ⊥) → with_after links at after m ≡ links m
after_other links None after m other = refl
after_other links (Some a) after m other = cond-false (eqb a m) _ _ (ne_eqb a m (λ same. other (ap (λ k. Some k) same)))

pub before_other : (links : ℕ → Option TicketLink) (at before : Option ℕ) (m : ℕ) → (at ≡ Some m → ⊥) → with_before links at before m ≡ links m
before_other links None before m other = refl
before_other links (Some a) before m other = cond-false (eqb a m) _ _ (ne_eqb a m (λ same. other (ap (λ k. Some k) same)))

after_at : (links : ℕ → Option TicketLink) (m : ℕ) (after : Option ℕ) (l : TicketLink) → links m ≡ Some l → with_after links (Some m) after m ≡ Some (link l.key l.before after)
after_at links m after l is = cond-true (eqb m m) _ _ (eq-eqb m m refl) ∙ ap (λ o. option_map (λ (l : TicketLink). link l.key l.before after) o) is

before_at : (links : ℕ → Option TicketLink) (m : ℕ) (before : Option ℕ) (l : TicketLink) → links m ≡ Some l → with_before links (Some m) before m ≡ Some (link l.key before l.after)
before_at links m before l is = cond-true (eqb m m) _ _ (eq-eqb m m refl) ∙ ap (λ o. option_map (λ (l : TicketLink). link l.key before l.after) o) is

-- what follows a line is what its last number says
after_last : (links : ℕ → Option TicketLink) (key : ℕ) (before : Option ℕ) (x : ℕ) (line : List ℕ) (old new : Option ℕ)
    → AreLinked links key before (x ∷ line) old → AreApart (x ∷ line) → AreLinked (with_after links (back (Some x) line) new) key before (x ∷ line) new
after_last links key before x [] old new l apart = (after_at links x new (link key before old) l.0, tt)
after_last links key before x (y ∷ line) old new l apart = (
  after_other links (back (Some y) line) new x (λ e. true≢false (sym (back_is_in y line x e) ∙ apart.0)) ∙ l.0,
  after_last links key (Some x) y line old new l.1 apart.1,
)

pub linked_after : (links : ℕ → Option TicketLink) (key : ℕ) (line : List ℕ) (old new : Option ℕ)
    → AreLinked links key None line old → AreApart line → AreLinked (with_after links (back None line) new) key None line new
linked_after links key [] old new l apart = tt
linked_after links key (x ∷ line) old new l apart = after_last links key None x line old new l apart

pub linked_before : (links : ℕ → Option TicketLink) (key : ℕ) (line : List ℕ) (old new : Option ℕ)
    → AreLinked links key old line None → AreApart line → AreLinked (with_before links (front line None) new) key new line None
linked_before links key [] old new l apart = tt
linked_before links key (x ∷ line) old new l apart = (
  before_at links x new (link key old (front line None)) l.0,
  linked_frame links (with_before links (Some x) new) key (Some x) line None
      (λ m h. before_other links (Some x) new m (λ e. true≢false (sym h ∙ (ap (λ k. is_in k line) (sym (same_Some x m e)) ∙ apart.0)))) l.1,
)

-- ---- keys stay

pub after_keeps : (links : ℕ → Option TicketLink) (at after : Option ℕ) (m : ℕ) → option_map (λ (l : TicketLink). l.key) (with_after links at after m) ≡ option_map (λ (l : TicketLink). l.key) (links m)
after_keeps links None after m = refl
after_keeps links (Some a) after m = by (eqb a m) (links m)
  where
    by : (b : Bool) (o : Option TicketLink) → option_map (λ (l : TicketLink). l.key) (cond b (option_map (λ (l : TicketLink). link l.key l.before after) o) o) ≡ option_map (λ (l : TicketLink). l.key) o
    by true None = refl
    by true (Some l) = refl
    by false o = refl

pub before_keeps : (links : ℕ → Option TicketLink) (at before : Option ℕ) (m : ℕ) → option_map (λ (l : TicketLink). l.key) (with_before links at before m) ≡ option_map (λ (l : TicketLink). l.key) (links m)
before_keeps links None before m = refl
before_keeps links (Some a) before m = by (eqb a m) (links m)
  where
    by : (b : Bool) (o : Option TicketLink) → option_map (λ (l : TicketLink). l.key) (cond b (option_map (λ (l : TicketLink). link l.key before l.after) o) o) ≡ option_map (λ (l : TicketLink). l.key) o
    by true None = refl
    by true (Some l) = refl
    by false o = refl

-- a link that has a key
pub has_link : (links : ℕ → Option TicketLink) (m key : ℕ) → option_map (λ (l : TicketLink). l.key) (links m) ≡ Some key → HasLink links key m
has_link links m key e = by (links m) refl
  where
    by : (o : Option TicketLink) → links m ≡ o → HasLink links key m
    by None is = absurd (none-some key (sym (ap (λ o. option_map (λ (l : TicketLink). l.key) o) is) ∙ e))
    by (Some l) is = record { of = l; is = is; key_is = same_Some l.key key (sym (ap (λ o. option_map (λ (l : TicketLink). l.key) o) is) ∙ e) }
