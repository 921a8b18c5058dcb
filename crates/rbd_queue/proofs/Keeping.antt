-- Turns that stay those of a line's members.
use Rattle.std.proofs.Common.{◌≡◌, ℕ, ◌≤◌, Bool, true, false, cond, not, ◌&&◌, ◌||◌, eqb, List, [], ◌∷◌, ◌++◌, map, drop, Option, Some, None, refl, sym, ap, subst, ◌∙◌, true≢false}
use Rattle.std.specs.List.{filter, list_all}
use Rattle.std.specs.Option.{is_some}
use Rattle.std.proofs.lemmas.Bool.{eqb-true, eqb-false, cond-true, cond-false}
use Rattle.std.proofs.lemmas.Option.{none-some, same_Some}
use Rattle.std.proofs.Math.Bool.{or-false}
use Rattle.rbd_guard.specs.Order.{is_in, AreApart}
use Rattle.rbd_guard.proofs.Apart.{head_in, in_right, others}
use Rattle.rbd_kinds.specs.Sharing.{is_alone}
use Rattle.rbd_kinds.specs.declared.sharing.Sharing.{Sharing}
use Rattle.rbd_kinds.proofs.Plain.{cond_same}
use Rattle.rbd_queue.specs.Kept.{IsKept}
use Rattle.rbd_queue.specs.Line.{Member, member_of, is_member, members_behind, is_past, may_hold_objects, may_pass, objects_in, objects_of_slot, holds_ticket, slots, may_hold_objects_in, may_enter, none_past_behind, has_turn, comes_next, new_member, held, passed, entered, next_piece, changed_member, without, Each, IsFairMember, IsFairLine}
use Rattle.rbd_queue.specs.Turns.{begins_with}
use Rattle.rbd_queue.proofs.Fair.{put, put_is, each_true, each_both, each_weaker, slots_in, slots_without, members_map, absent_change, rest_out, may_take, in_push, joined_fair, held_fair, passed_fair, left_fair, entered_fair, next_fair}

-- ---- members that are found

pub is_found : (slot : ℕ) (ms : List Member) → is_some (member_of slot ms) ≡ is_member slot ms
is_found slot [] = refl
is_found slot (m ∷ ms) = by (eqb m.slot slot) (is_found slot ms)
  where
    by : (b : Bool) → is_some (member_of slot ms) ≡ is_member slot ms → is_some (cond b (Some m) (member_of slot ms)) ≡ (b || is_member slot ms)
    by true rest = refl
    by false rest = rest

-- what holds of each member holds of the one that is found, which is at its slot
pub found_has : (P : Member → Type 0) (slot : ℕ) (ms : List Member) → Each P ms → (m : Member) → member_of slot ms ≡ Some m → P m × (m.slot ≡ slot)
found_has P slot [] all m is = absurd (none-some m is)
found_has P slot (x ∷ ms) all m is = by (eqb x.slot slot) refl is (λ found. found_has P slot ms all.1 m found)
  where
    by : (b : Bool) → eqb x.slot slot ≡ b → cond b (Some x) (member_of slot ms) ≡ Some m → (member_of slot ms ≡ Some m → P m × (m.slot ≡ slot)) → P m × (m.slot ≡ slot)
    by true e is rest = (subst P (same_Some x m is) all.0, ap (λ n. n.slot) (sym (same_Some x m is)) ∙ eqb-true x.slot slot e)
    by false e is rest = rest is

pub enters_as_member : (slot : ℕ) (ms : List Member) → may_enter slot ms ≡ true → is_member slot ms ≡ true
enters_as_member slot ms may = sym (is_found slot ms) ∙ by (member_of slot ms) may
  where
    by : (o : Option Member) → may_hold_objects_in o ≡ true → is_some o ≡ true
    by None h = absurd (true≢false (sym h))
    by (Some m) h = refl

-- ---- who holds an object

pub holding : (p : Member → Bool) (h : Member → Member) (ms : List Member) → Each (λ m. (p (h m) ≡ p m) × ((h m).slot ≡ m.slot)) ms → slots (filter p (map h ms)) ≡ slots (filter p ms)
holding p h [] same = refl
holding p h (m ∷ ms) same =
    ap (λ b. slots (cond b (h m ∷ filter p (map h ms)) (filter p (map h ms)))) same.0.0 ∙ by (p m) (holding p h ms same.1)
  where
    by : (b : Bool) → slots (filter p (map h ms)) ≡ slots (filter p ms)
        → slots (cond b (h m ∷ filter p (map h ms)) (filter p (map h ms))) ≡ slots (cond b (m ∷ filter p ms) (filter p ms))
    by true rest = ap (λ n. n ∷ slots (filter p (map h ms))) same.0.1 ∙ ap (λ l. m.slot ∷ l) rest
    by false rest = rest

pub filter_push : (p : Member → Bool) (ms : List Member) (m : Member) → p m ≡ false → filter p (ms ++ m ∷ []) ≡ filter p ms
filter_push p [] m out = cond-false (p m) (m ∷ []) [] out
filter_push p (x ∷ ms) m out = ap (λ l. cond (p x) (x ∷ l) l) (filter_push p ms m out)

pub member_push : (n : ℕ) (ms : List Member) (m : Member) → is_member n (ms ++ m ∷ []) ≡ false → is_member n ms ≡ false
member_push n [] m out = refl
member_push n (x ∷ ms) m out = by (eqb x.slot n) out (λ rest. member_push n ms m rest)
  where
    by : (b : Bool) → (b || is_member n (ms ++ m ∷ [])) ≡ false → (is_member n (ms ++ m ∷ []) ≡ false → is_member n ms ≡ false) → (b || is_member n ms) ≡ false
    by true out rest = absurd (true≢false out)
    by false out rest = rest out

pub joined_kept : (held_of holders : ℕ → List ℕ) (slot : ℕ) (sharing : Sharing) (ms : List Member) → IsKept held_of holders ms → 1 ≤ slot → slot ≤ 64 → is_member slot ms ≡ false
    → IsKept held_of holders (ms ++ new_member slot sharing ∷ [])
joined_kept held_of holders slot sharing ms kept from to out =
    record {
      fair = joined_fair slot sharing ms kept.fair from to out;
      turns = λ o. kept.turns o ∙ sym (ap slots (filter_push (holds_ticket o) ms (new_member slot sharing) refl));
      outside = λ n gone. kept.outside n (member_push n ms (new_member slot sharing) gone);
    }

stage_kept : (held_of holders : ℕ → List ℕ) (slot : ℕ) (f : Member → Member) (ms : List Member) → ((m : Member) → (f m).slot ≡ m.slot) → ((m : Member) → (f m).objects ≡ m.objects)
    → IsFairLine (changed_member slot f ms) → IsKept held_of holders ms → IsKept held_of holders (changed_member slot f ms)
stage_kept held_of holders slot f ms same_slot same_objects fair kept =
    record {
      fair = fair;
      turns = λ o. kept.turns o ∙ sym (holding (holds_ticket o) (put slot f) ms
          (each_true (λ m. (holds_ticket o (put slot f m) ≡ holds_ticket o m) × ((put slot f m).slot ≡ m.slot)) ms
          (λ m. (put_is (holds_ticket o) slot f m (ap (is_in o) (same_objects m)), put_is (λ n. n.slot) slot f m (same_slot m)))));
      outside = λ n gone. kept.outside n (sym (members_map (put slot f) ms n (λ m. put_is (λ k. k.slot) slot f m (same_slot m))) ∙ gone);
    }

pub held_kept : (held_of holders : ℕ → List ℕ) (slot : ℕ) (ms : List Member) → IsKept held_of holders ms → IsKept held_of holders (changed_member slot held ms)
held_kept held_of holders slot ms kept = stage_kept held_of holders slot held ms (λ m. refl) (λ m. refl) (held_fair slot ms kept.fair) kept

pub passed_kept : (held_of holders : ℕ → List ℕ) (slot : ℕ) (ms : List Member) → may_pass slot ms ≡ true → IsKept held_of holders ms → IsKept held_of holders (changed_member slot passed ms)
passed_kept held_of holders slot ms may kept = stage_kept held_of holders slot passed ms (λ m. refl) (λ m. refl) (passed_fair slot ms kept.fair may) kept

-- ---- one leaves

abbrev others_than : (slot : ℕ) → List ℕ → List ℕ
others_than slot = filter (λ n. not (eqb n slot))

one_out : (slot : ℕ) (x : Member) (ms : List Member) (c : Bool)
    → cond c (cond (not (eqb x.slot slot)) (x.slot ∷ others_than slot (slots ms)) (others_than slot (slots ms))) (others_than slot (slots ms)) ≡ others_than slot (slots (cond c (x ∷ ms) ms))
one_out slot x ms true = refl
one_out slot x ms false = refl

pub left_turns : (slot : ℕ) (p : Member → Bool) (ms : List Member) → slots (filter p (without slot ms)) ≡ others_than slot (slots (filter p ms))
left_turns slot p [] = refl
left_turns slot p (x ∷ ms) = by (eqb x.slot slot) (left_turns slot p ms) ∙ one_out slot x (filter p ms) (p x)
  where
    inner : (c : Bool) → slots (filter p (without slot ms)) ≡ others_than slot (slots (filter p ms))
        → slots (cond c (x ∷ filter p (without slot ms)) (filter p (without slot ms))) ≡ cond c (x.slot ∷ others_than slot (slots (filter p ms))) (others_than slot (slots (filter p ms)))
    inner true rest = ap (λ l. x.slot ∷ l) rest
    inner false rest = rest

    by : (b : Bool) → slots (filter p (without slot ms)) ≡ others_than slot (slots (filter p ms))
        → slots (filter p (cond (not b) (x ∷ without slot ms) (without slot ms)))
        ≡ cond (p x) (cond (not b) (x.slot ∷ others_than slot (slots (filter p ms))) (others_than slot (slots (filter p ms)))) (others_than slot (slots (filter p ms)))
    by true rest = rest ∙ sym (cond_same (p x) (others_than slot (slots (filter p ms))))
    by false rest = inner (p x) rest

pub left_kept : (old_held old_holders held_of holders : ℕ → List ℕ) (slot : ℕ) (ms : List Member) → ((o : ℕ) → holders o ≡ others_than slot (old_holders o))
    → ((n : ℕ) → held_of n ≡ cond (eqb slot n) [] (old_held n)) → IsKept old_held old_holders ms → IsKept held_of holders (without slot ms)
left_kept old_held old_holders held_of holders slot ms holders_are held_are kept =
    record {
      fair = left_fair slot ms kept.fair;
      turns = λ o. holders_are o ∙ (ap (others_than slot) (kept.turns o) ∙ sym (left_turns slot (holds_ticket o) ms));
      outside = λ n gone. held_are n ∙ by n (eqb slot n) refl gone;
    }
  where
    by : (n : ℕ) (b : Bool) → eqb slot n ≡ b → is_member n (without slot ms) ≡ false → cond b [] (old_held n) ≡ []
    by n true e gone = refl
    by n false e gone =
        kept.outside n
        (sym (slots_in n ms)
        ∙ (sym (others (slots ms) slot n (λ same. eqb-false slot n e (sym same)))
        ∙ (sym (ap (is_in n) (slots_without slot ms)) ∙ (slots_in n (without slot ms) ∙ gone))))

-- ---- one takes a ticket

pub none_holds : (object : ℕ) (ms : List Member) → list_all (λ (m : Member). not (is_past m.stage)) ms ≡ true → Each IsFairMember ms → filter (holds_ticket object) ms ≡ []
none_holds object [] none all = refl
none_holds object (m ∷ ms) none all =
    by (holds_ticket object m) refl (is_past m.stage) refl none (λ rest. none_holds object ms rest all.1)
  where
    right : (p a : Bool) → p ≡ false → (p && a) ≡ true → ⊥
    right true a e h = true≢false e
    right false a e h = true≢false (sym h)

    by : (b : Bool) → holds_ticket object m ≡ b → (p : Bool) → is_past m.stage ≡ p → (not p && list_all (λ (m : Member). not (is_past m.stage)) ms) ≡ true
        → (list_all (λ (m : Member). not (is_past m.stage)) ms ≡ true → filter (holds_ticket object) ms ≡ []) → cond b (m ∷ filter (holds_ticket object) ms) (filter (holds_ticket object) ms) ≡ []
    by b here true past none rest = absurd (true≢false (sym none))
    by true here false past none rest = absurd (right (is_past m.stage) (not (is_alone m.sharing)) past (all.0.holds_by_right object here))
    by false here false past none rest = rest none

each_behind : (P : Member → Type 0) (slot : ℕ) (ms : List Member) → Each P ms → Each P (members_behind slot ms)
each_behind P slot [] all = tt
each_behind P slot (m ∷ ms) all = by (eqb m.slot slot) (each_behind P slot ms all.1)
  where
    by : (b : Bool) → Each P (members_behind slot ms) → Each P (cond b ms (members_behind slot ms))
    by true rest = all.1
    by false rest = rest

pub entered_turns : (slot object : ℕ) (ms : List Member) → AreApart (slots ms) → is_member slot ms ≡ true
    → Each (λ m. eqb m.slot slot ≡ true → (may_hold_objects m ≡ true) × (is_in object m.objects ≡ false)) ms → filter (holds_ticket object) (members_behind slot ms) ≡ []
    → slots (filter (holds_ticket object) (changed_member slot (entered object) ms)) ≡ slots (filter (holds_ticket object) ms) ++ slot ∷ []
entered_turns slot object [] apart here at none = absurd (true≢false (sym here))
entered_turns slot object (x ∷ ms) apart here at none =
    by (eqb x.slot slot) refl here none (λ there none_there. entered_turns slot object ms apart.1 there at.1 none_there)
  where
    new : List Member
    new = changed_member slot (entered object) ms

    first : eqb x.slot slot ≡ true → filter (holds_ticket object) ms ≡ [] → slots (filter (holds_ticket object) (entered object x ∷ new)) ≡ slots (filter (holds_ticket object) (x ∷ ms)) ++ slot ∷ []
    first e none =
        ap (λ l. slots (filter (holds_ticket object) (entered object x ∷ l))) (absent_change slot (entered object) ms (rest_out slot x ms apart e))
        ∙ (ap (λ b. slots (cond b (entered object x ∷ filter (holds_ticket object) ms) (filter (holds_ticket object) ms))) (in_right object x.objects (object ∷ []) (head_in object []))
        ∙ (ap (λ l. x.slot ∷ slots l) none
        ∙ (ap (λ n. n ∷ []) (eqb-true x.slot slot e)
        ∙ (sym (ap (λ l. slots l ++ slot ∷ []) none)
        ∙ sym (ap (λ b. slots (cond b (x ∷ filter (holds_ticket object) ms) (filter (holds_ticket object) ms)) ++ slot ∷ []) (at.0 e).1)))))

    later : (b : Bool) → slots (filter (holds_ticket object) new) ≡ slots (filter (holds_ticket object) ms) ++ slot ∷ []
        → slots (cond b (x ∷ filter (holds_ticket object) new) (filter (holds_ticket object) new)) ≡ slots (cond b (x ∷ filter (holds_ticket object) ms) (filter (holds_ticket object) ms)) ++ slot ∷ []
    later true rest = ap (λ l. x.slot ∷ l) rest
    later false rest = rest

    by : (b : Bool) → eqb x.slot slot ≡ b → (b || is_member slot ms) ≡ true → filter (holds_ticket object) (cond b ms (members_behind slot ms)) ≡ []
        → (is_member slot ms ≡ true → filter (holds_ticket object) (members_behind slot ms) ≡ [] → slots (filter (holds_ticket object) new) ≡ slots (filter (holds_ticket object) ms) ++ slot ∷ [])
        → slots (filter (holds_ticket object) (cond b (entered object x) x ∷ new)) ≡ slots (filter (holds_ticket object) (x ∷ ms)) ++ slot ∷ []
    by true e here none rest = first e none
    by false e here none rest = later (holds_ticket object x) (rest here none)

pub entered_kept : (old_held old_holders held_of holders : ℕ → List ℕ) (slot object : ℕ) (ms : List Member)
    → ((o : ℕ) → holders o ≡ cond (eqb object o) (old_holders o ++ slot ∷ []) (old_holders o))
    → ((n : ℕ) → held_of n ≡ cond (eqb slot n) (old_held n ++ object ∷ []) (old_held n))
    → may_enter slot ms ≡ true → none_past_behind slot ms ≡ true → is_in object (objects_of_slot slot ms) ≡ false
    → IsKept old_held old_holders ms → IsKept held_of holders (changed_member slot (entered object) ms)
entered_kept old_held old_holders held_of holders slot object ms holders_are held_are may last once kept =
    record {
      fair = entered_fair slot object ms kept.fair may once;
      turns = λ o. holders_are o ∙ at_object o (eqb object o) refl;
      outside = λ n gone. held_are n ∙ by n (eqb slot n) refl (sym (members_map (put slot (entered object)) ms n (λ m. put_is (λ k. k.slot) slot (entered object) m refl)) ∙ gone);
    }
  where
    its_own : old_holders object ++ slot ∷ [] ≡ slots (filter (holds_ticket object) (changed_member slot (entered object) ms))
    its_own =
        ap (λ l. l ++ slot ∷ []) (kept.turns object)
        ∙ sym (entered_turns slot object ms kept.fair.apart (enters_as_member slot ms may) (may_take slot object ms kept.fair may once)
        (none_holds object (members_behind slot ms) last (each_behind IsFairMember slot ms kept.fair.each)))

    other : (o : ℕ) → eqb object o ≡ false → (m : Member) → (holds_ticket o (put slot (entered object) m) ≡ holds_ticket o m) × ((put slot (entered object) m).slot ≡ m.slot)
    other o e m = (
      put_is (holds_ticket o) slot (entered object) m (in_push o object m.objects ∙ (ap (λ b. is_in o m.objects || b) e ∙ or-false (is_in o m.objects))),
      put_is (λ k. k.slot) slot (entered object) m refl,
    )

    at_object : (o : ℕ) (b : Bool) → eqb object o ≡ b → cond b (old_holders o ++ slot ∷ []) (old_holders o) ≡ slots (filter (holds_ticket o) (changed_member slot (entered object) ms))
    at_object o true e = subst (λ n. old_holders n ++ slot ∷ [] ≡ slots (filter (holds_ticket n) (changed_member slot (entered object) ms))) (eqb-true object o e) its_own
    at_object o false e =
        kept.turns o ∙ sym (holding (holds_ticket o) (put slot (entered object)) ms
        (each_true (λ m. (holds_ticket o (put slot (entered object) m) ≡ holds_ticket o m) × ((put slot (entered object) m).slot ≡ m.slot)) ms (other o e)))

    by : (n : ℕ) (b : Bool) → eqb slot n ≡ b → is_member n ms ≡ false → cond b (old_held n ++ object ∷ []) (old_held n) ≡ []
    by n true e gone = absurd (true≢false (sym (enters_as_member slot ms may) ∙ (ap (λ k. is_member k ms) (eqb-true slot n e) ∙ gone)))
    by n false e gone = kept.outside n gone

-- ---- one has done a piece

rest_same : (o : ℕ) (xs : List ℕ) → begins_with o xs ≡ false → is_in o (drop 1 xs) ≡ is_in o xs
rest_same o [] other = refl
rest_same o (x ∷ xs) other = sym (ap (λ b. b || is_in o xs) other)

rest_without : (o : ℕ) (xs : List ℕ) → AreApart xs → begins_with o xs ≡ true → is_in o (drop 1 xs) ≡ false
rest_without o [] apart first = refl
rest_without o (x ∷ xs) apart first = ap (λ n. is_in n xs) (sym (eqb-true x o first)) ∙ apart.0

-- a change by which those at a slot are out, and the others stay
pub record Drops (slot : ℕ) (p : Member → Bool) (h : Member → Member) (m : Member) : Type 0 where
  pub out : eqb m.slot slot ≡ true → p (h m) ≡ false
  pub stay : eqb m.slot slot ≡ false → p (h m) ≡ p m
  pub same : (h m).slot ≡ m.slot

pub dropped_turns : (slot : ℕ) (p : Member → Bool) (h : Member → Member) (ms : List Member) → Each (Drops slot p h) ms → slots (filter p (map h ms)) ≡ others_than slot (slots (filter p ms))
dropped_turns slot p h [] all = refl
dropped_turns slot p h (x ∷ ms) all = by (eqb x.slot slot) refl (dropped_turns slot p h ms all.1)
  where
    inner : (c : Bool) → slots (filter p (map h ms)) ≡ others_than slot (slots (filter p ms))
        → slots (cond c (h x ∷ filter p (map h ms)) (filter p (map h ms))) ≡ cond c (x.slot ∷ others_than slot (slots (filter p ms))) (others_than slot (slots (filter p ms)))
    inner true rest = ap (λ n. n ∷ slots (filter p (map h ms))) all.0.same ∙ ap (λ l. x.slot ∷ l) rest
    inner false rest = rest

    by : (b : Bool) → eqb x.slot slot ≡ b → slots (filter p (map h ms)) ≡ others_than slot (slots (filter p ms))
        → slots (cond (p (h x)) (h x ∷ filter p (map h ms)) (filter p (map h ms))) ≡ others_than slot (slots (cond (p x) (x ∷ filter p ms) (filter p ms)))
    by true e rest =
        ap (λ c. slots (cond c (h x ∷ filter p (map h ms)) (filter p (map h ms)))) (all.0.out e)
        ∙ (rest
        ∙ (sym (cond_same (p x) (others_than slot (slots (filter p ms))))
        ∙ (sym (ap (λ b. cond (p x) (cond (not b) (x.slot ∷ others_than slot (slots (filter p ms))) (others_than slot (slots (filter p ms)))) (others_than slot (slots (filter p ms)))) e)
        ∙ one_out slot x (filter p ms) (p x))))
    by false e rest =
        ap (λ c. slots (cond c (h x ∷ filter p (map h ms)) (filter p (map h ms)))) (all.0.stay e)
        ∙ (inner (p x) rest
        ∙ (sym (ap (λ b. cond (p x) (cond (not b) (x.slot ∷ others_than slot (slots (filter p ms))) (others_than slot (slots (filter p ms)))) (others_than slot (slots (filter p ms)))) e)
        ∙ one_out slot x (filter p ms) (p x)))

module _ (old_held : ℕ → List ℕ) (slot o : ℕ) (m : Member) (fair : IsFairMember m) (objects : m.objects ≡ old_held m.slot) where
  held_here : eqb m.slot slot ≡ true → m.objects ≡ old_held slot
  held_here e = objects ∙ ap old_held (eqb-true m.slot slot e)

  pub drops : begins_with o (old_held slot) ≡ true → Drops slot (holds_ticket o) (put slot next_piece) m
  drops first =
      record {
        out = λ e. ap (holds_ticket o) (cond-true (eqb m.slot slot) (next_piece m) m e) ∙ rest_without o m.objects fair.once (ap (begins_with o) (held_here e) ∙ first);
        stay = λ e. ap (holds_ticket o) (cond-false (eqb m.slot slot) (next_piece m) m e);
        same = put_is (λ k. k.slot) slot next_piece m refl;
      }

  pub keeps_others : begins_with o (old_held slot) ≡ false → (holds_ticket o (put slot next_piece m) ≡ holds_ticket o m) × ((put slot next_piece m).slot ≡ m.slot)
  keeps_others other = (by (eqb m.slot slot) refl, put_is (λ k. k.slot) slot next_piece m refl)
    where
      by : (b : Bool) → eqb m.slot slot ≡ b → holds_ticket o (cond b (next_piece m) m) ≡ holds_ticket o m
      by true e = rest_same o m.objects (ap (begins_with o) (held_here e) ∙ other)
      by false e = refl

pub next_kept : (old_held old_holders held_of holders : ℕ → List ℕ) (slot : ℕ) (ms : List Member)
    → ((o : ℕ) → holders o ≡ cond (begins_with o (old_held slot)) (others_than slot (old_holders o)) (old_holders o))
    → ((n : ℕ) → held_of n ≡ cond (eqb slot n) (drop 1 (old_held n)) (old_held n))
    → Each (λ m. m.objects ≡ old_held m.slot) ms → IsKept old_held old_holders ms → IsKept held_of holders (changed_member slot next_piece ms)
next_kept old_held old_holders held_of holders slot ms holders_are held_are objects kept =
    record {
      fair = next_fair slot ms kept.fair;
      turns = λ o. holders_are o ∙ at_object o (begins_with o (old_held slot)) refl;
      outside = λ n gone. held_are n ∙ by n (eqb slot n) (sym (members_map (put slot next_piece) ms n (λ m. put_is (λ k. k.slot) slot next_piece m refl)) ∙ gone);
    }
  where
    both : Each (λ m. IsFairMember m × (m.objects ≡ old_held m.slot)) ms
    both = each_both IsFairMember (λ m. m.objects ≡ old_held m.slot) ms kept.fair.each objects

    at_object : (o : ℕ) (b : Bool) → begins_with o (old_held slot) ≡ b → cond b (others_than slot (old_holders o)) (old_holders o) ≡ slots (filter (holds_ticket o) (changed_member slot next_piece ms))
    at_object o true e =
        ap (others_than slot) (kept.turns o)
        ∙ sym (dropped_turns slot (holds_ticket o) (put slot next_piece) ms
        (each_weaker (λ m. IsFairMember m × (m.objects ≡ old_held m.slot)) (Drops slot (holds_ticket o) (put slot next_piece)) ms (λ m h. drops old_held slot o m h.0 h.1 e) both))
    at_object o false e =
        kept.turns o
        ∙ sym (holding (holds_ticket o) (put slot next_piece) ms
        (each_weaker (λ m. IsFairMember m × (m.objects ≡ old_held m.slot)) (λ m. (holds_ticket o (put slot next_piece m) ≡ holds_ticket o m) × ((put slot next_piece m).slot ≡ m.slot)) ms
        (λ m h. keeps_others old_held slot o m h.0 h.1 e) both))

    by : (n : ℕ) (b : Bool) → is_member n ms ≡ false → cond b (drop 1 (old_held n)) (old_held n) ≡ []
    by n true gone = ap (drop 1) (kept.outside n gone)
    by n false gone = kept.outside n gone

-- ---- what a slot holds

pub objects_held : (held_of holders : ℕ → List ℕ) (slot : ℕ) (ms : List Member) → Each (λ m. m.objects ≡ held_of m.slot) ms → IsKept held_of holders ms → objects_of_slot slot ms ≡ held_of slot
objects_held held_of holders slot ms objects kept = by (member_of slot ms) refl
  where
    by : (o : Option Member) → member_of slot ms ≡ o → objects_in o ≡ held_of slot
    by None e = sym (kept.outside slot (sym (is_found slot ms) ∙ ap is_some e))
    by (Some m) e = let found = found_has (λ m. m.objects ≡ held_of m.slot) slot ms objects m e in found.0 ∙ ap held_of found.1

pub held_once : (held_of holders : ℕ → List ℕ) (slot : ℕ) (ms : List Member) → Each (λ m. m.objects ≡ held_of m.slot) ms → IsKept held_of holders ms → AreApart (held_of slot)
held_once held_of holders slot ms objects kept = subst AreApart (objects_held held_of holders slot ms objects kept) (by (member_of slot ms) refl)
  where
    by : (o : Option Member) → member_of slot ms ≡ o → AreApart (objects_in o)
    by None e = tt
    by (Some m) e = (found_has IsFairMember slot ms kept.fair.each m e).0.once

pub turn_kept : (held_of holders : ℕ → List ℕ) (slot object : ℕ) (ms : List Member) → Each (λ m. m.objects ≡ held_of m.slot) ms → IsKept held_of holders ms
    → (begins_with object (held_of slot) && begins_with slot (holders object)) ≡ (comes_next slot object ms && has_turn slot object ms)
turn_kept held_of holders slot object ms objects kept =
    ap (λ l. begins_with object l && begins_with slot (holders object)) (sym (objects_held held_of holders slot ms objects kept))
    ∙ ap (λ l. comes_next slot object ms && begins_with slot l) (kept.turns object)
