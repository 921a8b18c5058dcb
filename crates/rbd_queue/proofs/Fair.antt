-- Lines that stay fair.
use Rattle.std.proofs.Common.{◌≡◌, ℕ, ◌≤◌, ◌<◌, Bool, true, false, cond, not, ◌&&◌, ◌||◌, eqb, List, [], ◌∷◌, ◌++◌, length, map, drop, Option, Some, None, refl, sym, ap, subst, ◌∙◌, inl, inr, true≢false, arith}
use Rattle.std.specs.Prelude.{◌⊎◌}
use Rattle.std.specs.List.{filter, list_all}
use Rattle.std.proofs.lemmas.Bool.{eqb-true, cond-true, cond-false, or_right, or_parts, or_cases}
use Rattle.std.proofs.lemmas.List.{map-append, length-map}
use Rattle.std.proofs.lemmas.Option.{same_Some}
use Rattle.rbd_machine.specs.declared.stage.Stage.{Stage}
use Rattle.rbd_machine.specs.declared.stage.Stage.TheVariants as stage
use Rattle.rbd_machine.specs.Course.{held_stage}
use Rattle.rbd_guard.specs.Order.{is_in, AreApart}
use Rattle.rbd_guard.proofs.Apart.{apart_push, apart_without}
use Rattle.rbd_kinds.specs.Sharing.{go_together, is_alone}
use Rattle.rbd_kinds.specs.declared.sharing.Sharing.{Sharing}
use Rattle.rbd_queue.specs.Line.{Member, member_of, is_member, ahead, is_past, may_hold_objects, lets_pass, is_let_pass, may_pass, objects_in, objects_of_slot, slots, may_hold_objects_in, may_enter, new_member, held, passed, entered, next_piece, changed_member, without, Each, EachPair, LetsPass, IsFairMember, IsFairLine}
use Rattle.rbd_queue.proofs.Few.{few}

-- ---- each member

pub each_map : (P Q : Member → Type 0) (h : Member → Member) (ms : List Member) → ((m : Member) → P m → Q (h m)) → Each P ms → Each Q (map h ms)
each_map P Q h [] keeps all = tt
each_map P Q h (m ∷ ms) keeps all = (keeps m all.0, each_map P Q h ms keeps all.1)

pub each_weaker : (P Q : Member → Type 0) (ms : List Member) → ((m : Member) → P m → Q m) → Each P ms → Each Q ms
each_weaker P Q [] keeps all = tt
each_weaker P Q (m ∷ ms) keeps all = (keeps m all.0, each_weaker P Q ms keeps all.1)

pub each_both : (P Q : Member → Type 0) (ms : List Member) → Each P ms → Each Q ms → Each (λ m. P m × Q m) ms
each_both P Q [] ps qs = tt
each_both P Q (m ∷ ms) ps qs = ((ps.0, qs.0), each_both P Q ms ps.1 qs.1)

pub each_filter : (P : Member → Type 0) (p : Member → Bool) (ms : List Member) → Each P ms → Each P (filter p ms)
each_filter P p [] all = tt
each_filter P p (m ∷ ms) all = by (p m) (each_filter P p ms all.1)
  where
    by : (b : Bool) → Each P (filter p ms) → Each P (cond b (m ∷ filter p ms) (filter p ms))
    by true rest = (all.0, rest)
    by false rest = rest

pub each_push : (P : Member → Type 0) (ms : List Member) (n : Member) → Each P ms → P n → Each P (ms ++ n ∷ [])
each_push P [] n all p = (p, tt)
each_push P (m ∷ ms) n all p = (all.0, each_push P ms n all.1 p)

pub pair_map : (P Q : Member → Member → Type 0) (h : Member → Member) (ms : List Member) → ((a b : Member) → P a b → Q (h a) (h b)) → EachPair P ms → EachPair Q (map h ms)
pair_map P Q h [] keeps all = tt
pair_map P Q h (m ∷ ms) keeps all = (each_map (P m) (Q (h m)) h ms (λ b. keeps m b) all.0, pair_map P Q h ms keeps all.1)

pub pair_filter : (P : Member → Member → Type 0) (p : Member → Bool) (ms : List Member) → EachPair P ms → EachPair P (filter p ms)
pair_filter P p [] all = tt
pair_filter P p (m ∷ ms) all = by (p m) (pair_filter P p ms all.1)
  where
    by : (b : Bool) → EachPair P (filter p ms) → EachPair P (cond b (m ∷ filter p ms) (filter p ms))
    by true rest = (each_filter (P m) p ms all.0, rest)
    by false rest = rest

pub pair_push : (P : Member → Member → Type 0) (ms : List Member) (n : Member) → EachPair P ms → Each (λ m. P m n) ms → EachPair P (ms ++ n ∷ [])
pair_push P [] n all new = (tt, tt)
pair_push P (m ∷ ms) n all new = (each_push (P m) ms n all.0 new.0, pair_push P ms n all.1 new.1)

pub each_true : (P : Member → Type 0) (ms : List Member) → ((m : Member) → P m) → Each P ms
each_true P [] all = tt
each_true P (m ∷ ms) all = (all m, each_true P ms all)

-- ---- slots

pub slots_in : (n : ℕ) (ms : List Member) → is_in n (slots ms) ≡ is_member n ms
slots_in n [] = refl
slots_in n (m ∷ ms) = ap (λ b. eqb m.slot n || b) (slots_in n ms)

pub slots_push : (ms : List Member) (m : Member) → slots (ms ++ m ∷ []) ≡ slots ms ++ m.slot ∷ []
slots_push ms m = map-append (λ (m : Member). m.slot) ms (m ∷ [])

-- a member that is changed where it is at a slot
abbrev pub put : (slot : ℕ) → (Member → Member) → Member → Member
put slot f m = cond (eqb m.slot slot) (f m) m

pub put_keeps : (P : Member → Type 0) (slot : ℕ) (f : Member → Member) (m : Member) → (P m → P (f m)) → P m → P (put slot f m)
put_keeps P slot f m keeps p = by (eqb m.slot slot)
  where
    by : (b : Bool) → P (cond b (f m) m)
    by true = keeps p
    by false = p

pub put_is : {X : Type 0} (g : Member → X) (slot : ℕ) (f : Member → Member) (m : Member) → g (f m) ≡ g m → g (put slot f m) ≡ g m
put_is g slot f m same = by (eqb m.slot slot)
  where
    by : (b : Bool) → g (cond b (f m) m) ≡ g m
    by true = same
    by false = refl

pub slots_map : (h : Member → Member) (ms : List Member) → ((m : Member) → (h m).slot ≡ m.slot) → slots (map h ms) ≡ slots ms
slots_map h [] same = refl
slots_map h (m ∷ ms) same = ap (λ n. n ∷ slots (map h ms)) (same m) ∙ ap (λ l. m.slot ∷ l) (slots_map h ms same)

pub members_map : (h : Member → Member) (ms : List Member) (n : ℕ) → ((m : Member) → (h m).slot ≡ m.slot) → is_member n (map h ms) ≡ is_member n ms
members_map h ms n same = sym (slots_in n (map h ms)) ∙ (ap (is_in n) (slots_map h ms same) ∙ slots_in n ms)

pub absent_change : (slot : ℕ) (f : Member → Member) (ms : List Member) → is_in slot (slots ms) ≡ false → changed_member slot f ms ≡ ms
absent_change slot f [] out = refl
absent_change slot f (m ∷ ms) out =
    let parts = or_parts (eqb m.slot slot) (is_in slot (slots ms)) out in
    ap (λ n. n ∷ changed_member slot f ms) (cond-false (eqb m.slot slot) (f m) m parts.0) ∙ ap (λ l. m ∷ l) (absent_change slot f ms parts.1)

pub none_at : (P : Member → Type 0) (slot : ℕ) (ms : List Member) → is_in slot (slots ms) ≡ false → Each (λ m. eqb m.slot slot ≡ true → P m) ms
none_at P slot [] out = tt
none_at P slot (m ∷ ms) out =
    let parts = or_parts (eqb m.slot slot) (is_in slot (slots ms)) out in
    ((λ at. absurd (true≢false (sym at ∙ parts.0))), none_at P slot ms parts.1)

-- behind a member nobody has its slot
pub rest_out : (slot : ℕ) (m : Member) (ms : List Member) → AreApart (slots (m ∷ ms)) → eqb m.slot slot ≡ true → is_in slot (slots ms) ≡ false
rest_out slot m ms apart at = ap (λ n. is_in n (slots ms)) (sym (eqb-true m.slot slot at)) ∙ apart.0

-- what holds of the member that is found holds of each at its slot
pub at_slot : (P : Member → Type 0) (slot : ℕ) (ms : List Member) → AreApart (slots ms) → ((m : Member) → member_of slot ms ≡ Some m → P m)
    → Each (λ m. eqb m.slot slot ≡ true → P m) ms
at_slot P slot [] apart given = tt
at_slot P slot (x ∷ ms) apart given =
    by (eqb x.slot slot) refl (λ found. at_slot P slot ms apart.1 found)
  where
    by : (b : Bool) → eqb x.slot slot ≡ b → (((m : Member) → member_of slot ms ≡ Some m → P m) → Each (λ m. eqb m.slot slot ≡ true → P m) ms)
        → (eqb x.slot slot ≡ true → P x) × Each (λ m. eqb m.slot slot ≡ true → P m) ms
    by true e rest =
        ((λ at. given x (cond-true (eqb x.slot slot) (Some x) (member_of slot ms) e)), none_at P slot ms (rest_out slot x ms apart e))
    by false e rest =
        ((λ at. absurd (true≢false (sym at ∙ e))), rest (λ m is. given m (cond-false (eqb x.slot slot) (Some x) (member_of slot ms) e ∙ is)))

-- ---- who has which number

pub in_slots : (ms : List Member) → Each IsFairMember ms → (x : ℕ) → is_in x (slots ms) ≡ true → (1 ≤ x) × (x ≤ 64)
in_slots [] all x here = absurd (true≢false (sym here))
in_slots (m ∷ ms) all x here = by (or_cases (eqb m.slot x) (is_in x (slots ms)) here) (λ there. in_slots ms all.1 x there)
  where
    by : (eqb m.slot x ≡ true) ⊎ (is_in x (slots ms) ≡ true) → (is_in x (slots ms) ≡ true → (1 ≤ x) × (x ≤ 64)) → (1 ≤ x) × (x ≤ 64)
    by (inl same) rest = subst (λ n. (1 ≤ n) × (n ≤ 64)) (eqb-true m.slot x same) (all.0.slot_from, all.0.slot_to)
    by (inr there) rest = rest there

-- there is room for one more
pub room_for_one : (slot : ℕ) (ms : List Member) → IsFairLine ms → 1 ≤ slot → slot ≤ 64 → is_member slot ms ≡ false → length ms < 64
room_for_one slot ms fair from to out =
    let enough = few 64 (slot ∷ slots ms) (slots_in slot ms ∙ out, fair.apart) within in
    let same = length-map ms (λ (m : Member). m.slot) in
    omega (arith, enough, same)
  where
    by : (x : ℕ) → (eqb slot x ≡ true) ⊎ (is_in x (slots ms) ≡ true) → (1 ≤ x) × (x ≤ 64)
    by x (inl same) = subst (λ n. (1 ≤ n) × (n ≤ 64)) (eqb-true slot x same) (from, to)
    by x (inr there) = in_slots ms fair.each x there

    within : (x : ℕ) → is_in x (slot ∷ slots ms) ≡ true → (1 ≤ x) × (x ≤ 64)
    within x here = by x (or_cases (eqb slot x) (is_in x (slots ms)) here)

-- ---- one joins

pub joined_fair : (slot : ℕ) (sharing : Sharing) (ms : List Member) → IsFairLine ms → 1 ≤ slot → slot ≤ 64 → is_member slot ms ≡ false → IsFairLine (ms ++ new_member slot sharing ∷ [])
joined_fair slot sharing ms fair from to out =
    record {
      apart = subst AreApart (sym (slots_push ms (new_member slot sharing))) (apart_push (slots ms) slot fair.apart (slots_in slot ms ∙ out));
      each = each_push IsFairMember ms (new_member slot sharing) fair.each
          (record { slot_from = from; slot_to = to; holds_by_right = λ object here. absurd (true≢false (sym here)); once = tt });
      passing = pair_push LetsPass ms (new_member slot sharing) fair.passing (each_true (λ m. LetsPass m (new_member slot sharing)) ms (λ m past. absurd (true≢false (sym past))));
    }

-- ---- changes that nobody's passing depends on

pub record IsQuiet (f : Member → Member) : Type 0 where
  pub slot : (m : Member) → (f m).slot ≡ m.slot
  pub sharing : (m : Member) → (f m).sharing ≡ m.sharing
  pub past : (m : Member) → is_past (f m).stage ≡ is_past m.stage

pub quiet_put : (slot : ℕ) (f : Member → Member) → IsQuiet f → IsQuiet (put slot f)
quiet_put slot f q =
    record {
      slot = λ m. put_is (λ n. n.slot) slot f m (q.slot m);
      sharing = λ m. put_is (λ n. n.sharing) slot f m (q.sharing m);
      past = λ m. put_is (λ n. is_past n.stage) slot f m (q.past m);
    }

quiet_pair : (h : Member → Member) → IsQuiet h → (a b : Member) → LetsPass a b → LetsPass (h a) (h b)
quiet_pair h q a b lets later =
    ap (λ p. p && go_together (h a).sharing (h b).sharing) (q.past a)
    ∙ (ap (λ n. is_past a.stage && go_together n (h b).sharing) (q.sharing a)
    ∙ (ap (λ n. is_past a.stage && go_together a.sharing n) (q.sharing b)
    ∙ lets (sym (q.past b) ∙ later)))

pub quiet_fair : (slot : ℕ) (f : Member → Member) (ms : List Member) → IsQuiet f → IsFairLine ms → Each IsFairMember (changed_member slot f ms) → IsFairLine (changed_member slot f ms)
quiet_fair slot f ms q fair each =
    record {
      apart = subst AreApart (sym (slots_map (put slot f) ms (quiet_put slot f q).slot)) fair.apart;
      each = each;
      passing = pair_map LetsPass LetsPass (put slot f) ms (quiet_pair (put slot f) (quiet_put slot f q)) fair.passing;
    }

-- ---- one waits for its look under the lock

pub stays_past : (s : Stage) → is_past (held_stage s) ≡ is_past s
stays_past stage.Joined = refl
stays_past stage.Waiting = refl
stays_past stage.Past = refl

pub quiet_held : IsQuiet held
quiet_held = record { slot = λ m. refl; sharing = λ m. refl; past = λ m. stays_past m.stage }

held_member : (m : Member) → IsFairMember m → IsFairMember (held m)
held_member m fair =
    record {
      slot_from = fair.slot_from;
      slot_to = fair.slot_to;
      holds_by_right = λ object here. ap (λ p. p && not (is_alone m.sharing)) (stays_past m.stage) ∙ fair.holds_by_right object here;
      once = fair.once;
    }

pub held_fair : (slot : ℕ) (ms : List Member) → IsFairLine ms → IsFairLine (changed_member slot held ms)
held_fair slot ms fair =
    quiet_fair slot held ms quiet_held fair
    (each_map IsFairMember IsFairMember (put slot held) ms (λ m. put_keeps IsFairMember slot held m (held_member m)) fair.each)

-- ---- one goes past its look under the lock

pub and_left : (a b : Bool) → (a && b) ≡ true → a ≡ true
and_left true b h = refl
and_left false b h = h

pub and_right : (a b : Bool) → (a && b) ≡ true → b ≡ true
and_right true b h = h
and_right false b h = absurd (true≢false (sym h))

passed_member : (m : Member) → IsFairMember m → IsFairMember (passed m)
passed_member m fair =
    record {
      slot_from = fair.slot_from;
      slot_to = fair.slot_to;
      holds_by_right = λ object here. and_right (is_past m.stage) (not (is_alone m.sharing)) (fair.holds_by_right object here);
      once = fair.once;
    }

let_by : (slot : ℕ) (sharing : Sharing) (x m : Member) → lets_pass sharing x ≡ true → LetsPass x m → (eqb m.slot slot ≡ true → m.sharing ≡ sharing) → LetsPass x (put slot passed m)
let_by slot sharing x m lets before same = by (eqb m.slot slot) refl
  where
    by : (b : Bool) → eqb m.slot slot ≡ b → LetsPass x (cond b (passed m) m)
    by true e = λ past. ap (λ a. lets_pass a x) (same e) ∙ lets
    by false e = before

pub passed_pairs : (slot : ℕ) (sharing : Sharing) (ms : List Member) → AreApart (slots ms) → list_all (lets_pass sharing) (ahead slot ms) ≡ true
    → Each (λ m. eqb m.slot slot ≡ true → m.sharing ≡ sharing) ms → EachPair LetsPass ms → EachPair LetsPass (changed_member slot passed ms)
passed_pairs slot sharing [] apart lets same pairs = tt
passed_pairs slot sharing (x ∷ ms) apart lets same pairs =
    by (eqb x.slot slot) refl lets (λ more. passed_pairs slot sharing ms apart.1 more same.1 pairs.1)
  where
    first : eqb x.slot slot ≡ true → EachPair LetsPass (passed x ∷ changed_member slot passed ms)
    first e =
        subst (λ l. EachPair LetsPass (passed x ∷ l)) (sym (absent_change slot passed ms (rest_out slot x ms apart e)))
        (each_weaker (LetsPass x) (LetsPass (passed x)) ms (λ m before past. and_right (is_past x.stage) (go_together x.sharing m.sharing) (before past)) pairs.0, pairs.1)

    others_pass : lets_pass sharing x ≡ true → Each (LetsPass x) (changed_member slot passed ms)
    others_pass lets_it =
        each_map (λ m. LetsPass x m × (eqb m.slot slot ≡ true → m.sharing ≡ sharing)) (LetsPass x) (put slot passed) ms
        (λ m both. let_by slot sharing x m lets_it both.0 both.1)
        (each_both (LetsPass x) (λ m. eqb m.slot slot ≡ true → m.sharing ≡ sharing) ms pairs.0 same.1)

    by : (b : Bool) → eqb x.slot slot ≡ b → list_all (lets_pass sharing) (cond b [] (x ∷ ahead slot ms)) ≡ true
        → (list_all (lets_pass sharing) (ahead slot ms) ≡ true → EachPair LetsPass (changed_member slot passed ms))
        → EachPair LetsPass (cond b (passed x) x ∷ changed_member slot passed ms)
    by true e lets rest = first e
    by false e lets rest = (
      others_pass (and_left (lets_pass sharing x) (list_all (lets_pass sharing) (ahead slot ms)) lets),
      rest (and_right (lets_pass sharing x) (list_all (lets_pass sharing) (ahead slot ms)) lets),
    )

pub passed_fair : (slot : ℕ) (ms : List Member) → IsFairLine ms → may_pass slot ms ≡ true → IsFairLine (changed_member slot passed ms)
passed_fair slot ms fair may =
    record {
      apart = subst AreApart (sym (slots_map (put slot passed) ms (λ m. put_is (λ n. n.slot) slot passed m refl))) fair.apart;
      each = each_map IsFairMember IsFairMember (put slot passed) ms (λ m. put_keeps IsFairMember slot passed m (passed_member m)) fair.each;
      passing = by (member_of slot ms) refl may;
    }
  where
    by : (o : Option Member) → member_of slot ms ≡ o → is_let_pass o (ahead slot ms) ≡ true → EachPair LetsPass (changed_member slot passed ms)
    by None e lets = absurd (true≢false (sym lets))
    by (Some found) e lets =
        passed_pairs slot found.sharing ms fair.apart lets
        (at_slot (λ m. m.sharing ≡ found.sharing) slot ms fair.apart (λ m is. ap (λ n. n.sharing) (same_Some m found (sym is ∙ e)))) fair.passing

-- ---- one leaves

pub slots_without : (slot : ℕ) (ms : List Member) → slots (without slot ms) ≡ filter (λ n. not (eqb n slot)) (slots ms)
slots_without slot [] = refl
slots_without slot (m ∷ ms) = by (eqb m.slot slot) (slots_without slot ms)
  where
    by : (b : Bool) → slots (without slot ms) ≡ filter (λ n. not (eqb n slot)) (slots ms)
        → slots (cond (not b) (m ∷ without slot ms) (without slot ms)) ≡ cond (not b) (m.slot ∷ filter (λ n. not (eqb n slot)) (slots ms)) (filter (λ n. not (eqb n slot)) (slots ms))
    by true rest = rest
    by false rest = ap (λ l. m.slot ∷ l) rest

pub left_fair : (slot : ℕ) (ms : List Member) → IsFairLine ms → IsFairLine (without slot ms)
left_fair slot ms fair =
    record {
      apart = subst AreApart (sym (slots_without slot ms)) (apart_without (slots ms) slot fair.apart);
      each = each_filter IsFairMember (λ m. not (eqb m.slot slot)) ms fair.each;
      passing = pair_filter LetsPass (λ m. not (eqb m.slot slot)) ms fair.passing;
    }

-- ---- tickets come and go

pub quiet_entered : (object : ℕ) → IsQuiet (entered object)
quiet_entered object = record { slot = λ m. refl; sharing = λ m. refl; past = λ m. refl }

pub quiet_next : IsQuiet next_piece
quiet_next = record { slot = λ m. refl; sharing = λ m. refl; past = λ m. refl }

pub in_push : (n object : ℕ) (xs : List ℕ) → is_in n (xs ++ object ∷ []) ≡ (is_in n xs || eqb object n)
in_push n object [] = or_nothing (eqb object n)
  where
    or_nothing : (b : Bool) → (b || false) ≡ b
    or_nothing true = refl
    or_nothing false = refl
in_push n object (x ∷ xs) = ap (λ b. eqb x n || b) (in_push n object xs) ∙ grouped (eqb x n) (is_in n xs) (eqb object n)
  where
    grouped : (a b c : Bool) → (a || (b || c)) ≡ ((a || b) || c)
    grouped true b c = refl
    grouped false b c = refl

entered_member : (object : ℕ) (m : Member) → may_hold_objects m ≡ true → is_in object m.objects ≡ false → IsFairMember m → IsFairMember (entered object m)
entered_member object m right new fair =
    record {
      slot_from = fair.slot_from;
      slot_to = fair.slot_to;
      holds_by_right = λ o here. right;
      once = apart_push m.objects object fair.once new;
    }

entered_put : (slot object : ℕ) (m : Member) → IsFairMember m → (eqb m.slot slot ≡ true → (may_hold_objects m ≡ true) × (is_in object m.objects ≡ false)) → IsFairMember (put slot (entered object) m)
entered_put slot object m fair at = by (eqb m.slot slot) refl
  where
    by : (b : Bool) → eqb m.slot slot ≡ b → IsFairMember (cond b (entered object m) m)
    by true e = entered_member object m (at e).0 (at e).1 fair
    by false e = fair

-- what is asked of one that takes a ticket, of each at its slot
pub may_take : (slot object : ℕ) (ms : List Member) → IsFairLine ms → may_enter slot ms ≡ true → is_in object (objects_of_slot slot ms) ≡ false
    → Each (λ m. eqb m.slot slot ≡ true → (may_hold_objects m ≡ true) × (is_in object m.objects ≡ false)) ms
may_take slot object ms fair may new =
    at_slot (λ m. (may_hold_objects m ≡ true) × (is_in object m.objects ≡ false)) slot ms fair.apart
    (λ m is. (sym (ap may_hold_objects_in is) ∙ may, sym (ap (λ o. is_in object (objects_in o)) is) ∙ new))

pub entered_fair : (slot object : ℕ) (ms : List Member) → IsFairLine ms → may_enter slot ms ≡ true → is_in object (objects_of_slot slot ms) ≡ false → IsFairLine (changed_member slot (entered object) ms)
entered_fair slot object ms fair may new =
    quiet_fair slot (entered object) ms (quiet_entered object) fair
    (each_map (λ m. IsFairMember m × (eqb m.slot slot ≡ true → (may_hold_objects m ≡ true) × (is_in object m.objects ≡ false))) IsFairMember (put slot (entered object)) ms
    (λ m both. entered_put slot object m both.0 both.1)
    (each_both IsFairMember (λ m. eqb m.slot slot ≡ true → (may_hold_objects m ≡ true) × (is_in object m.objects ≡ false)) ms fair.each (may_take slot object ms fair may new)))

pub in_rest : (n : ℕ) (xs : List ℕ) → is_in n (drop 1 xs) ≡ true → is_in n xs ≡ true
in_rest n [] here = here
in_rest n (x ∷ xs) here = or_right (eqb x n) (is_in n xs) here

apart_rest : (xs : List ℕ) → AreApart xs → AreApart (drop 1 xs)
apart_rest [] apart = tt
apart_rest (x ∷ xs) apart = apart.1

next_member : (m : Member) → IsFairMember m → IsFairMember (next_piece m)
next_member m fair =
    record {
      slot_from = fair.slot_from;
      slot_to = fair.slot_to;
      holds_by_right = λ object here. fair.holds_by_right object (in_rest object m.objects here);
      once = apart_rest m.objects fair.once;
    }

pub next_fair : (slot : ℕ) (ms : List Member) → IsFairLine ms → IsFairLine (changed_member slot next_piece ms)
next_fair slot ms fair =
    quiet_fair slot next_piece ms quiet_next fair
    (each_map IsFairMember IsFairMember (put slot next_piece) ms (λ m. put_keeps IsFairMember slot next_piece m (next_member m)) fair.each)
