-- Who may pass, and whose turn it is, after others changed.
use Rattle.std.proofs.Common.{◌≡◌, ℕ, ◌≤◌, Bool, true, false, cond, not, ◌&&◌, ◌||◌, eqb, List, [], ◌∷◌, ◌++◌, length, map, Option, Some, None, refl, sym, ap, subst, ◌∙◌, inl, inr, true≢false, arith, drop}
use Rattle.std.specs.Prelude.{◌⊎◌}
use Rattle.std.specs.List.{filter, list_all, list_any}
use Rattle.std.specs.Option.{is_some, option_map}
use Rattle.std.proofs.lemmas.Bool.{eq-eqb, ne_eqb, eqb-true, cond-true, cond-false, or_left, or_right, and_from}
use Rattle.std.proofs.lemmas.List.{length-map}
use Rattle.std.proofs.lemmas.Option.{none-some, same_Some}
use Rattle.std.proofs.Math.Bool.{and-false}
use Rattle.rbd_guard.specs.Order.{is_in}
use Rattle.rbd_guard.proofs.Apart.{head_in}
use Rattle.rbd_kinds.specs.Sharing.{go_together, is_alone}
use Rattle.rbd_kinds.specs.declared.sharing.Sharing.{Sharing}
use Rattle.rbd_machine.proofs.Together.{alone_with_none, flips}
use Rattle.rbd_queue.specs.Line.{Member, member_of, is_member, ahead, members_behind, is_past, lets_pass, is_let_pass, may_pass, holds_ticket, slots, none_past_behind, has_turn, new_member, held, passed, entered, next_piece, changed_member, without, Each, EachPair, LetsPass, IsFairLine, may_hold_objects, may_hold_objects_in, may_enter, objects_in, objects_of_slot, IsFairMember}
use Rattle.rbd_queue.specs.Steady.{IsSteady}
use Rattle.rbd_queue.specs.Turns.{begins_with}
use Rattle.rbd_queue.proofs.Fair.{put, put_is, put_keeps, absent_change, rest_out, in_slots, stays_past, each_true, and_left, and_right}
use Rattle.rbd_queue.proofs.Few.{few}
use Rattle.rbd_queue.proofs.Keeping.{found_has, is_found}

-- ---- two members, one ahead of the other

pub two : (P : Member → Member → Type 0) (ms : List Member) (one other : Member) → EachPair P ms → member_of one.slot ms ≡ Some one → member_of other.slot ms ≡ Some other
    → (one.slot ≡ other.slot → ⊥) → (P one other) ⊎ (P other one)
two P [] one other pairs here there differ = absurd (none-some one here)
two P (x ∷ ms) one other pairs here there differ =
    by (eqb x.slot one.slot) refl (eqb x.slot other.slot) refl here there (λ h t. two P ms one other pairs.1 h t differ)
  where
    by : (a : Bool) → eqb x.slot one.slot ≡ a → (b : Bool) → eqb x.slot other.slot ≡ b
        → cond a (Some x) (member_of one.slot ms) ≡ Some one → cond b (Some x) (member_of other.slot ms) ≡ Some other
        → (member_of one.slot ms ≡ Some one → member_of other.slot ms ≡ Some other → (P one other) ⊎ (P other one)) → (P one other) ⊎ (P other one)
    by true e true f h t rest = absurd (differ (sym (eqb-true x.slot one.slot e) ∙ eqb-true x.slot other.slot f))
    by true e false f h t rest = inl (subst (λ m. P m other) (same_Some x one h) (found_has (P x) other.slot ms pairs.0 other t).0)
    by false e true f h t rest = inr (subst (λ m. P m one) (same_Some x other t) (found_has (P x) one.slot ms pairs.0 one h).0)
    by false e false f h t rest = rest h t

pub apart_past : (ms : List Member) (one other : Member) → IsFairLine ms → member_of one.slot ms ≡ Some one → member_of other.slot ms ≡ Some other → (one.slot ≡ other.slot → ⊥)
    → go_together one.sharing other.sharing ≡ false → is_past one.stage ≡ true → is_past other.stage ≡ false
apart_past ms one other fair here there differ never past = by (is_past other.stage) refl (two LetsPass ms one other fair.passing here there differ)
  where
    by : (b : Bool) → is_past other.stage ≡ b → (LetsPass one other) ⊎ (LetsPass other one) → is_past other.stage ≡ false
    by false e pair = e
    by true e (inl lets) = absurd (true≢false (sym (and_right (is_past one.stage) (go_together one.sharing other.sharing) (lets e)) ∙ never))
    by true e (inr lets) =
        absurd (true≢false (sym (and_right (is_past other.stage) (go_together other.sharing one.sharing) (lets past)) ∙ (flips other.sharing one.sharing ∙ never)))

pub alone_past : (ms : List Member) (one other : Member) → IsFairLine ms → member_of one.slot ms ≡ Some one → member_of other.slot ms ≡ Some other → (one.slot ≡ other.slot → ⊥)
    → is_alone one.sharing ≡ true → is_past one.stage ≡ true → is_past other.stage ≡ false
alone_past ms one other fair here there differ alone past = apart_past ms one other fair here there differ (alone_with_none one.sharing other.sharing alone) past

-- ---- turns

pub ahead_first : (ms : List Member) (object other : ℕ) (one : Member) → member_of one.slot ms ≡ Some one → is_member one.slot (ahead other ms) ≡ true → holds_ticket object one ≡ true
    → has_turn other object ms ≡ false
ahead_first [] object other one here before held_it = refl
ahead_first (x ∷ ms) object other one here before held_it =
    by (eqb x.slot other) refl (holds_ticket object x) refl (eqb x.slot one.slot) refl here before (λ h b. ahead_first ms object other one h b held_it)
  where
    by : (a : Bool) → eqb x.slot other ≡ a → (b : Bool) → holds_ticket object x ≡ b → (c : Bool) → eqb x.slot one.slot ≡ c
        → cond c (Some x) (member_of one.slot ms) ≡ Some one → is_member one.slot (cond a [] (x ∷ ahead other ms)) ≡ true
        → (member_of one.slot ms ≡ Some one → is_member one.slot (ahead other ms) ≡ true → has_turn other object ms ≡ false)
        → begins_with other (slots (cond b (x ∷ filter (holds_ticket object) ms) (filter (holds_ticket object) ms))) ≡ false
    by true e b f c g h before rest = absurd (true≢false (sym before))
    by false e true f c g h before rest = e
    by false e false f true g h before rest = absurd (true≢false (sym held_it ∙ (ap (holds_ticket object) (sym (same_Some x one h)) ∙ f)))
    by false e false f false g h before rest = rest h (sym (ap (λ c. c || is_member one.slot (ahead other ms)) g) ∙ before)

pub some_turn : (object : ℕ) (ms : List Member) → list_any (holds_ticket object) ms ≡ true → list_any (λ (m : Member). holds_ticket object m && has_turn m.slot object ms) ms ≡ true
some_turn object [] some = absurd (true≢false (sym some))
some_turn object (x ∷ ms) some = by (holds_ticket object x) refl some (λ more. some_turn object ms more)
  where
    by : (b : Bool) → holds_ticket object x ≡ b → (b || list_any (holds_ticket object) ms) ≡ true
        → (list_any (holds_ticket object) ms ≡ true → list_any (λ (m : Member). holds_ticket object m && has_turn m.slot object ms) ms ≡ true)
        → list_any (λ (m : Member). holds_ticket object m && begins_with m.slot (slots (cond (holds_ticket object x) (x ∷ filter (holds_ticket object) ms) (filter (holds_ticket object) ms)))) (x ∷ ms) ≡ true
    by true e some rest =
        ap (λ b. list_any (λ (m : Member). holds_ticket object m && begins_with m.slot (slots (cond b (x ∷ filter (holds_ticket object) ms) (filter (holds_ticket object) ms)))) (x ∷ ms)) e
        ∙ or_left (holds_ticket object x && eqb x.slot x.slot)
        (list_any (λ (m : Member). holds_ticket object m && begins_with m.slot (x.slot ∷ slots (filter (holds_ticket object) ms))) ms)
        (and_from (holds_ticket object x) (eqb x.slot x.slot) e (eq-eqb x.slot x.slot refl))
    by false e some rest =
        ap (λ b. list_any (λ (m : Member). holds_ticket object m && begins_with m.slot (slots (cond b (x ∷ filter (holds_ticket object) ms) (filter (holds_ticket object) ms)))) (x ∷ ms)) e
        ∙ or_right (holds_ticket object x && has_turn x.slot object ms) (list_any (λ (m : Member). holds_ticket object m && has_turn m.slot object ms) ms) (rest some)

pub one_first : (a b : ℕ) (xs : List ℕ) → begins_with a xs ≡ true → begins_with b xs ≡ true → a ≡ b
one_first a b [] h k = absurd (true≢false (sym h))
one_first a b (x ∷ xs) h k = sym (eqb-true x a h) ∙ eqb-true x b k

-- ---- a member that changes

pub held_is_steady : IsSteady held
held_is_steady = record { slot = λ m. refl; sharing = λ m. refl; past = λ m h. stays_past m.stage ∙ h }

pub passed_is_steady : IsSteady passed
passed_is_steady = record { slot = λ m. refl; sharing = λ m. refl; past = λ m h. refl }

pub entered_is_steady : (object : ℕ) → IsSteady (entered object)
entered_is_steady object = record { slot = λ m. refl; sharing = λ m. refl; past = λ m h. h }

pub next_is_steady : IsSteady next_piece
next_is_steady = record { slot = λ m. refl; sharing = λ m. refl; past = λ m h. h }

put_steady : (slot : ℕ) (f : Member → Member) → IsSteady f → IsSteady (put slot f)
put_steady slot f steady =
    record {
      slot = λ m. put_is (λ n. n.slot) slot f m (steady.slot m);
      sharing = λ m. put_is (λ n. n.sharing) slot f m (steady.sharing m);
      past = λ m h. put_keeps (λ n. is_past n.stage ≡ true) slot f m (steady.past m) h;
    }

found_map : (h : Member → Member) (ms : List Member) (slot : ℕ) → ((m : Member) → (h m).slot ≡ m.slot) → member_of slot (map h ms) ≡ option_map h (member_of slot ms)
found_map h [] slot same = refl
found_map h (x ∷ ms) slot same = ap (λ n. cond (eqb n slot) (Some (h x)) (member_of slot (map h ms))) (same x) ∙ by (eqb x.slot slot) (found_map h ms slot same)
  where
    by : (b : Bool) → member_of slot (map h ms) ≡ option_map h (member_of slot ms) → cond b (Some (h x)) (member_of slot (map h ms)) ≡ option_map h (cond b (Some x) (member_of slot ms))
    by true rest = refl
    by false rest = rest

ahead_map : (h : Member → Member) (ms : List Member) (slot : ℕ) → ((m : Member) → (h m).slot ≡ m.slot) → ahead slot (map h ms) ≡ map h (ahead slot ms)
ahead_map h [] slot same = refl
ahead_map h (x ∷ ms) slot same = ap (λ n. cond (eqb n slot) [] (h x ∷ ahead slot (map h ms))) (same x) ∙ by (eqb x.slot slot) (ahead_map h ms slot same)
  where
    by : (b : Bool) → ahead slot (map h ms) ≡ map h (ahead slot ms) → cond b [] (h x ∷ ahead slot (map h ms)) ≡ map h (cond b [] (x ∷ ahead slot ms))
    by true rest = refl
    by false rest = ap (λ l. h x ∷ l) rest

raised : (p q a : Bool) → (p ≡ true → q ≡ true) → (p && a) ≡ true → (q && a) ≡ true
raised true q a more h = ap (λ c. c && a) (more refl) ∙ h
raised false q a more h = absurd (true≢false (sym h))

let_map : (h : Member → Member) (sharing : Sharing) (ms : List Member) → IsSteady h → list_all (lets_pass sharing) ms ≡ true → list_all (lets_pass sharing) (map h ms) ≡ true
let_map h sharing [] steady all = refl
let_map h sharing (x ∷ ms) steady all =
    and_from (lets_pass sharing (h x)) (list_all (lets_pass sharing) (map h ms))
    (ap (λ a. is_past (h x).stage && go_together a sharing) (steady.sharing x)
    ∙ raised (is_past x.stage) (is_past (h x).stage) (go_together x.sharing sharing) (steady.past x) (and_left (lets_pass sharing x) (list_all (lets_pass sharing) ms) all))
    (let_map h sharing ms steady (and_right (lets_pass sharing x) (list_all (lets_pass sharing) ms) all))

pub may_changed : (ms : List Member) (slot other : ℕ) (f : Member → Member) → IsSteady f → may_pass slot ms ≡ true → may_pass slot (changed_member other f ms) ≡ true
may_changed ms slot other f steady may =
    ap (λ o. is_let_pass o (ahead slot (changed_member other f ms))) (found_map (put other f) ms slot (put_steady other f steady).slot)
    ∙ (ap (is_let_pass (option_map (put other f) (member_of slot ms))) (ahead_map (put other f) ms slot (put_steady other f steady).slot)
    ∙ by (member_of slot ms) may)
  where
    by : (o : Option Member) → is_let_pass o (ahead slot ms) ≡ true → is_let_pass (option_map (put other f) o) (map (put other f) (ahead slot ms)) ≡ true
    by None h = h
    by (Some m) h =
        ap (λ a. list_all (lets_pass a) (map (put other f) (ahead slot ms))) ((put_steady other f steady).sharing m)
        ∙ let_map (put other f) m.sharing (ahead slot ms) (put_steady other f steady) h

pub own_changed : (ms : List Member) (slot : ℕ) (f : Member → Member) → IsSteady f → member_of slot (changed_member slot f ms) ≡ option_map f (member_of slot ms)
own_changed [] slot f steady = refl
own_changed (x ∷ ms) slot f steady =
    ap (λ n. cond (eqb n slot) (Some (put slot f x)) (member_of slot (changed_member slot f ms))) ((put_steady slot f steady).slot x)
    ∙ by (eqb x.slot slot) (own_changed ms slot f steady)
  where
    by : (b : Bool) → member_of slot (changed_member slot f ms) ≡ option_map f (member_of slot ms)
        → cond b (Some (cond b (f x) x)) (member_of slot (changed_member slot f ms)) ≡ option_map f (cond b (Some x) (member_of slot ms))
    by true rest = refl
    by false rest = rest

pub others_changed : (ms : List Member) (slot other : ℕ) (f : Member → Member) → IsSteady f → (other ≡ slot → ⊥) → member_of other (changed_member slot f ms) ≡ member_of other ms
others_changed [] slot other f steady differ = refl
others_changed (x ∷ ms) slot other f steady differ =
    ap (λ n. cond (eqb n other) (Some (put slot f x)) (member_of other (changed_member slot f ms))) ((put_steady slot f steady).slot x)
    ∙ by (eqb x.slot other) refl (eqb x.slot slot) refl (others_changed ms slot other f steady differ)
  where
    by : (a : Bool) → eqb x.slot other ≡ a → (b : Bool) → eqb x.slot slot ≡ b → member_of other (changed_member slot f ms) ≡ member_of other ms
        → cond a (Some (cond b (f x) x)) (member_of other (changed_member slot f ms)) ≡ cond a (Some x) (member_of other ms)
    by true e true g rest = absurd (differ (sym (eqb-true x.slot other e) ∙ eqb-true x.slot slot g))
    by true e false g rest = refl
    by false e b g rest = rest

behind_changed : (ms : List Member) (slot : ℕ) (f : Member → Member) → IsSteady f → IsFairLine ms → members_behind slot (changed_member slot f ms) ≡ members_behind slot ms
behind_changed [] slot f steady fair = refl
behind_changed (x ∷ ms) slot f steady fair =
    ap (λ n. cond (eqb n slot) (changed_member slot f ms) (members_behind slot (changed_member slot f ms))) ((put_steady slot f steady).slot x)
    ∙ by (eqb x.slot slot) refl (behind_changed ms slot f steady (record { apart = fair.apart.1; each = fair.each.1; passing = fair.passing.1 }))
  where
    by : (b : Bool) → eqb x.slot slot ≡ b → members_behind slot (changed_member slot f ms) ≡ members_behind slot ms → cond b (changed_member slot f ms) (members_behind slot (changed_member slot f ms)) ≡ cond b ms (members_behind slot ms)
    by true e rest = absent_change slot f ms (rest_out slot x ms fair.apart e)
    by false e rest = rest

pub none_behind_changed : (ms : List Member) (slot : ℕ) (f : Member → Member) → IsSteady f → IsFairLine ms → none_past_behind slot (changed_member slot f ms) ≡ none_past_behind slot ms
none_behind_changed ms slot f steady fair = ap (list_all (λ (m : Member). not (is_past m.stage))) (behind_changed ms slot f steady fair)

-- ---- who isn't past has nobody behind it that is

all_wait : (x : Member) (ms : List Member) → is_past x.stage ≡ false → Each (LetsPass x) ms → list_all (λ (m : Member). not (is_past m.stage)) ms ≡ true
all_wait x [] waits lets = refl
all_wait x (m ∷ ms) waits lets =
    and_from (not (is_past m.stage)) (list_all (λ (m : Member). not (is_past m.stage)) ms) (by (is_past m.stage) refl) (all_wait x ms waits lets.1)
  where
    by : (b : Bool) → is_past m.stage ≡ b → not b ≡ true
    by true e = absurd (true≢false (sym (and_left (is_past x.stage) (go_together x.sharing m.sharing) (lets.0 e)) ∙ waits))
    by false e = refl

wait_behind : (ms : List Member) (m : Member) → EachPair LetsPass ms → member_of m.slot ms ≡ Some m → is_past m.stage ≡ false → none_past_behind m.slot ms ≡ true
wait_behind [] m pairs here waits = refl
wait_behind (x ∷ ms) m pairs here waits = by (eqb x.slot m.slot) here (λ there. wait_behind ms m pairs.1 there waits)
  where
    by : (b : Bool) → cond b (Some x) (member_of m.slot ms) ≡ Some m → (member_of m.slot ms ≡ Some m → none_past_behind m.slot ms ≡ true)
        → list_all (λ (m : Member). not (is_past m.stage)) (cond b ms (members_behind m.slot ms)) ≡ true
    by true h rest = all_wait x ms (ap (λ n. is_past n.stage) (same_Some x m h) ∙ waits) pairs.0
    by false h rest = rest h

pub in_order : (ms : List Member) (m : Member) → IsFairLine ms → member_of m.slot ms ≡ Some m → is_past m.stage ≡ false → none_past_behind m.slot ms ≡ true
in_order ms m fair here waits = wait_behind ms m fair.passing here waits

-- ---- others join and leave

pub first_may : (m : Member) (ms : List Member) → may_pass m.slot (m ∷ ms) ≡ true
first_may m ms = ap (λ b. is_let_pass (cond b (Some m) (member_of m.slot ms)) (cond b [] (m ∷ ahead m.slot ms))) (eq-eqb m.slot m.slot refl)

pub others_left : (ms : List Member) (slot other : ℕ) → (other ≡ slot → ⊥) → member_of other (without slot ms) ≡ member_of other ms
others_left [] slot other differ = refl
others_left (x ∷ ms) slot other differ = by (eqb x.slot slot) refl (others_left ms slot other differ)
  where
    by : (b : Bool) → eqb x.slot slot ≡ b → member_of other (without slot ms) ≡ member_of other ms
        → member_of other (cond (not b) (x ∷ without slot ms) (without slot ms)) ≡ cond (eqb x.slot other) (Some x) (member_of other ms)
    by true e rest = rest ∙ sym (cond-false (eqb x.slot other) (Some x) (member_of other ms) (ne_eqb x.slot other (λ same. differ (sym same ∙ eqb-true x.slot slot e))))
    by false e rest = ap (λ o. cond (eqb x.slot other) (Some x) o) rest

pub gone : (ms : List Member) (slot : ℕ) → member_of slot (without slot ms) ≡ None
gone [] slot = refl
gone (x ∷ ms) slot = by (eqb x.slot slot) refl (gone ms slot)
  where
    by : (b : Bool) → eqb x.slot slot ≡ b → member_of slot (without slot ms) ≡ None → member_of slot (cond (not b) (x ∷ without slot ms) (without slot ms)) ≡ None
    by true e rest = rest
    by false e rest = cond-false (eqb x.slot slot) (Some x) (member_of slot (without slot ms)) e ∙ rest

ahead_left : (ms : List Member) (slot other : ℕ) → (other ≡ slot → ⊥) → ahead slot (without other ms) ≡ without other (ahead slot ms)
ahead_left [] slot other differ = refl
ahead_left (x ∷ ms) slot other differ = by (eqb x.slot other) refl (eqb x.slot slot) refl (ahead_left ms slot other differ)
  where
    kept : (c : Bool) → eqb x.slot other ≡ false → ahead slot (without other ms) ≡ without other (ahead slot ms)
        → cond c [] (x ∷ ahead slot (without other ms)) ≡ without other (cond c [] (x ∷ ahead slot ms))
    kept true e rest = refl
    kept false e rest =
        ap (λ l. x ∷ l) rest ∙ sym (ap (λ b. cond (not b) (x ∷ without other (ahead slot ms)) (without other (ahead slot ms))) e)

    by : (b : Bool) → eqb x.slot other ≡ b → (c : Bool) → eqb x.slot slot ≡ c → ahead slot (without other ms) ≡ without other (ahead slot ms)
        → ahead slot (cond (not b) (x ∷ without other ms) (without other ms)) ≡ without other (cond (eqb x.slot slot) [] (x ∷ ahead slot ms))
    by true e true f rest = absurd (differ (sym (eqb-true x.slot other e) ∙ eqb-true x.slot slot f))
    by true e false f rest =
        rest ∙ (sym (ap (λ b. cond (not b) (x ∷ without other (ahead slot ms)) (without other (ahead slot ms))) e)
        ∙ sym (ap (λ c. without other (cond c [] (x ∷ ahead slot ms))) f))
    by false e c f rest = kept (eqb x.slot slot) e rest

all_filter : (p q : Member → Bool) (ms : List Member) → list_all p ms ≡ true → list_all p (filter q ms) ≡ true
all_filter p q [] all = refl
all_filter p q (x ∷ ms) all = by (q x) (all_filter p q ms (and_right (p x) (list_all p ms) all))
  where
    by : (b : Bool) → list_all p (filter q ms) ≡ true → list_all p (cond b (x ∷ filter q ms) (filter q ms)) ≡ true
    by true rest = and_from (p x) (list_all p (filter q ms)) (and_left (p x) (list_all p ms) all) rest
    by false rest = rest

pub may_left : (ms : List Member) (slot other : ℕ) → (other ≡ slot → ⊥) → may_pass slot ms ≡ true → may_pass slot (without other ms) ≡ true
may_left ms slot other differ may =
    ap (λ o. is_let_pass o (ahead slot (without other ms))) (others_left ms other slot (λ same. differ (sym same)))
    ∙ (ap (is_let_pass (member_of slot ms)) (ahead_left ms slot other differ) ∙ by (member_of slot ms) may)
  where
    by : (o : Option Member) → is_let_pass o (ahead slot ms) ≡ true → is_let_pass o (without other (ahead slot ms)) ≡ true
    by None h = h
    by (Some m) h = all_filter (lets_pass m.sharing) (λ n. not (eqb n.slot other)) (ahead slot ms) h

some_push : (ms : List Member) (slot : ℕ) (n m : Member) → member_of slot ms ≡ Some m → (member_of slot (ms ++ n ∷ []) ≡ Some m) × (ahead slot (ms ++ n ∷ []) ≡ ahead slot ms)
some_push [] slot n m here = absurd (none-some m here)
some_push (x ∷ ms) slot n m here = by (eqb x.slot slot) here (λ there. some_push ms slot n m there)
  where
    by : (b : Bool) → cond b (Some x) (member_of slot ms) ≡ Some m
        → (member_of slot ms ≡ Some m → (member_of slot (ms ++ n ∷ []) ≡ Some m) × (ahead slot (ms ++ n ∷ []) ≡ ahead slot ms))
        → (cond b (Some x) (member_of slot (ms ++ n ∷ [])) ≡ Some m) × (cond b [] (x ∷ ahead slot (ms ++ n ∷ [])) ≡ cond b [] (x ∷ ahead slot ms))
    by true h rest = (h, refl)
    by false h rest = let r = rest h in (r.0, ap (λ l. x ∷ l) r.1)

pub may_joined : (ms : List Member) (slot other : ℕ) (sharing : Sharing) → may_pass slot ms ≡ true → may_pass slot (ms ++ new_member other sharing ∷ []) ≡ true
may_joined ms slot other sharing may = by (member_of slot ms) refl may
  where
    by : (o : Option Member) → member_of slot ms ≡ o → is_let_pass o (ahead slot ms) ≡ true → may_pass slot (ms ++ new_member other sharing ∷ []) ≡ true
    by None e h = absurd (true≢false (sym h))
    by (Some m) e h =
        let pushed = some_push ms slot (new_member other sharing) m e in
        ap (λ o. is_let_pass o (ahead slot (ms ++ new_member other sharing ∷ []))) pushed.0 ∙ (ap (is_let_pass (Some m)) pushed.1 ∙ h)

pub joined_found : (ms : List Member) (slot : ℕ) (sharing : Sharing) → is_member slot ms ≡ false → member_of slot (ms ++ new_member slot sharing ∷ []) ≡ Some (new_member slot sharing)
joined_found [] slot sharing out = cond-true (eqb slot slot) (Some (new_member slot sharing)) None (eq-eqb slot slot refl)
joined_found (x ∷ ms) slot sharing out = by (eqb x.slot slot) out (λ more. joined_found ms slot sharing more)
  where
    by : (b : Bool) → (b || is_member slot ms) ≡ false → (is_member slot ms ≡ false → member_of slot (ms ++ new_member slot sharing ∷ []) ≡ Some (new_member slot sharing))
        → cond b (Some x) (member_of slot (ms ++ new_member slot sharing ∷ [])) ≡ Some (new_member slot sharing)
    by true h rest = absurd (true≢false h)
    by false h rest = rest h

pub others_joined : (ms : List Member) (slot other : ℕ) (sharing : Sharing) → (other ≡ slot → ⊥) → member_of other (ms ++ new_member slot sharing ∷ []) ≡ member_of other ms
others_joined [] slot other sharing differ = cond-false (eqb slot other) (Some (new_member slot sharing)) None (ne_eqb slot other (λ same. differ (sym same)))
others_joined (x ∷ ms) slot other sharing differ = ap (λ o. cond (eqb x.slot other) (Some x) o) (others_joined ms slot other sharing differ)

pub few_members : (ms : List Member) → IsFairLine ms → length ms ≤ 64
few_members ms fair =
    let enough = few 64 (slots ms) fair.apart (λ x here. in_slots ms fair.each x here) in
    let same = length-map ms (λ (m : Member). m.slot) in
    omega (arith, enough, same)

-- ---- nobody passes one with which it doesn't go together

held_back : (ms : List Member) (one : Member) (other : ℕ) (sharing : Sharing) → member_of one.slot ms ≡ Some one → go_together one.sharing sharing ≡ false
    → is_member one.slot (ahead other ms) ≡ true → list_all (lets_pass sharing) (ahead other ms) ≡ false
held_back [] one other sharing here is before = absurd (none-some one here)
held_back (x ∷ ms) one other sharing here is before =
    by (eqb x.slot other) refl (eqb x.slot one.slot) refl here before (λ h b. held_back ms one other sharing h is b)
  where
    by : (a : Bool) → eqb x.slot other ≡ a → (c : Bool) → eqb x.slot one.slot ≡ c → cond c (Some x) (member_of one.slot ms) ≡ Some one
        → is_member one.slot (cond a [] (x ∷ ahead other ms)) ≡ true
        → (member_of one.slot ms ≡ Some one → is_member one.slot (ahead other ms) ≡ true → list_all (lets_pass sharing) (ahead other ms) ≡ false)
        → list_all (lets_pass sharing) (cond a [] (x ∷ ahead other ms)) ≡ false
    by true e c g h before rest = absurd (true≢false (sym before))
    by false e true g h before rest =
        ap (λ b. b && list_all (lets_pass sharing) (ahead other ms))
        (ap (λ b. is_past x.stage && b) (ap (λ m. go_together m.sharing sharing) (same_Some x one h) ∙ is) ∙ and-false (is_past x.stage))
    by false e false g h before rest =
        ap (λ b. lets_pass sharing x && b) (rest h (sym (ap (λ c. c || is_member one.slot (ahead other ms)) g) ∙ before)) ∙ and-false (lets_pass sharing x)

pub none_passes : (ms : List Member) (one : Member) (other : ℕ) → member_of one.slot ms ≡ Some one → is_alone one.sharing ≡ true → is_member one.slot (ahead other ms) ≡ true
    → may_pass other ms ≡ false
none_passes ms one other here is before = by (member_of other ms)
  where
    by : (o : Option Member) → is_let_pass o (ahead other ms) ≡ false
    by None = refl
    by (Some m) = held_back ms one other m.sharing here (alone_with_none one.sharing m.sharing is) before

pub apart_waits : (ms : List Member) (one other : Member) → member_of one.slot ms ≡ Some one → member_of other.slot ms ≡ Some other → go_together one.sharing other.sharing ≡ false
    → is_member one.slot (ahead other.slot ms) ≡ true → may_pass other.slot ms ≡ false
apart_waits ms one other here there never before =
    ap (λ o. is_let_pass o (ahead other.slot ms)) there ∙ held_back ms one other.slot other.sharing here never before

-- ---- tickets

pub found_at : (ms : List Member) (slot : ℕ) (m : Member) → member_of slot ms ≡ Some m → m.slot ≡ slot
found_at ms slot m is = (found_has (λ _. Unit {0}) slot ms (each_true (λ _. Unit {0}) ms (λ _. tt)) m is).1

nothing : (xs : List ℕ) (b : Bool) → b ≡ false → ((n : ℕ) → is_in n xs ≡ true → b ≡ true) → xs ≡ []
nothing [] b out right = refl
nothing (x ∷ xs) b out right = absurd (true≢false (sym (right x (head_in x xs)) ∙ out))

pub none_yet : (ms : List Member) (m : Member) → IsFairLine ms → member_of m.slot ms ≡ Some m → is_past m.stage ≡ false → m.objects ≡ []
none_yet ms m fair is waits =
    nothing m.objects (may_hold_objects m) (ap (λ p. p && not (is_alone m.sharing)) waits) (found_has IsFairMember m.slot ms fair.each m is).0.holds_by_right

pub may_after_pass : (ms : List Member) (m : Member) → member_of m.slot ms ≡ Some m → is_alone m.sharing ≡ false → may_enter m.slot (changed_member m.slot passed ms) ≡ true
may_after_pass ms m is shared =
    ap may_hold_objects_in (own_changed ms m.slot passed passed_is_steady) ∙ (ap (λ o. may_hold_objects_in (option_map passed o)) is ∙ ap not shared)

pub may_after_enter : (ms : List Member) (slot object : ℕ) → may_enter slot ms ≡ true → may_enter slot (changed_member slot (entered object) ms) ≡ true
may_after_enter ms slot object may = ap may_hold_objects_in (own_changed ms slot (entered object) (entered_is_steady object)) ∙ by (member_of slot ms) may
  where
    by : (o : Option Member) → may_hold_objects_in o ≡ true → may_hold_objects_in (option_map (entered object) o) ≡ true
    by None h = h
    by (Some m) h = h

pub objects_stay : (ms : List Member) (slot : ℕ) → objects_of_slot slot (changed_member slot passed ms) ≡ objects_of_slot slot ms
objects_stay ms slot = ap objects_in (own_changed ms slot passed passed_is_steady) ∙ by (member_of slot ms)
  where
    by : (o : Option Member) → objects_in (option_map passed o) ≡ objects_in o
    by None = refl
    by (Some m) = refl

pub one_more : (ms : List Member) (slot object : ℕ) → is_member slot ms ≡ true → objects_of_slot slot (changed_member slot (entered object) ms) ≡ objects_of_slot slot ms ++ object ∷ []
one_more ms slot object here =
    ap objects_in (own_changed ms slot (entered object) (entered_is_steady object)) ∙ by (member_of slot ms) (is_found slot ms ∙ here)
  where
    by : (o : Option Member) → is_some o ≡ true → objects_in (option_map (entered object) o) ≡ objects_in o ++ object ∷ []
    by None h = absurd (true≢false (sym h))
    by (Some m) h = refl

pub one_less : (ms : List Member) (slot : ℕ) → objects_of_slot slot (changed_member slot next_piece ms) ≡ drop 1 (objects_of_slot slot ms)
one_less ms slot = ap objects_in (own_changed ms slot next_piece next_is_steady) ∙ by (member_of slot ms)
  where
    by : (o : Option Member) → objects_in (option_map next_piece o) ≡ drop 1 (objects_in o)
    by None = refl
    by (Some m) = refl
