-- How the members are seen that standings and turns hold.
use Rattle.std.proofs.Common.{◌≡◌, ℕ, ◌≤◌, ◌<◌, Bool, true, false, cond, not, ◌&&◌, ◌||◌, eqb, List, [], ◌∷◌, ◌++◌, length, map, drop, refl, sym, ap, subst, ◌∙◌, arith}
use Rattle.std.specs.List.{filter, list_any}
use Rattle.std.proofs.lemmas.List.{map-append, length-map}
use Rattle.rbd_machine.specs.declared.stage.Stage.TheVariants as stage
use Rattle.rbd_guard.specs.Order.{is_in, AreApart}
use Rattle.rbd_kinds.specs.declared.sharing.Sharing.{Sharing}
use Rattle.rbd_kinds.proofs.Plain.{eqb_flip}
use Rattle.rbd_queue.specs.declared.standing.LineMember.{LineMember}
use Rattle.rbd_queue.specs.Kept.{member, held_at, passed_at, IsKept}
use Rattle.rbd_queue.specs.Line.{Member, is_member, is_past, any_past, may_pass, may_enter, none_past_behind, objects_of_slot, has_turn, comes_next, new_member, held, passed, entered, next_piece, changed_member, without, Each}
use Rattle.rbd_queue.specs.Turns.{begins_with}
use Rattle.rbd_queue.proofs.Fair.{put, room_for_one}
use Rattle.rbd_queue.proofs.Keeping.{joined_kept, held_kept, passed_kept, left_kept, entered_kept, next_kept, held_once, turn_kept}

abbrev pub members_of : (ℕ → List ℕ) → List LineMember → List Member
members_of held_of items = map (member held_of) items

pub objects_are : (held_of : ℕ → List ℕ) (items : List LineMember) → Each (λ m. m.objects ≡ held_of m.slot) (members_of held_of items)
objects_are held_of [] = tt
objects_are held_of (s ∷ items) = (refl, objects_are held_of items)

-- what standings and turns hold after a call
pub record Holds (held_of holders : ℕ → List ℕ) (items : List LineMember) (members : List Member) : Type 0 where
  pub seen : members_of held_of items ≡ members
  pub kept : IsKept held_of holders (members_of held_of items)

holds_them : (held_of holders : ℕ → List ℕ) (items : List LineMember) (members : List Member) → members_of held_of items ≡ members → IsKept held_of holders members → Holds held_of holders items members
holds_them held_of holders items members seen kept = record { seen = seen; kept = subst (IsKept held_of holders) (sym seen) kept }

-- whether anybody is past its look under the lock is told by where they stand
pub any_past_seen : (held_of : ℕ → List ℕ) (items : List LineMember) → list_any (λ (s : LineMember). is_past s.stage) items ≡ any_past (members_of held_of items)
any_past_seen held_of [] = refl
any_past_seen held_of (s ∷ items) = ap (λ b. is_past s.stage || b) (any_past_seen held_of items)

pub room : (held_of holders : ℕ → List ℕ) (items : List LineMember) (slot : ℕ) → IsKept held_of holders (members_of held_of items) → 1 ≤ slot → slot ≤ 64
    → is_member slot (members_of held_of items) ≡ false → length items < 64
room held_of holders items slot kept from to out =
    let few = room_for_one slot (members_of held_of items) kept.fair from to out in
    let same = length-map items (member held_of) in
    omega (arith, few, same)

pub after_join : (held_of holders : ℕ → List ℕ) (items : List LineMember) (slot : ℕ) (sharing : Sharing) → IsKept held_of holders (members_of held_of items) → 1 ≤ slot → slot ≤ 64
    → is_member slot (members_of held_of items) ≡ false
    → Holds held_of holders (items ++ record { slot = slot; sharing = sharing; stage = stage.Joined } ∷ []) (members_of held_of items ++ new_member slot sharing ∷ [])
after_join held_of holders items slot sharing kept from to out =
    holds_them held_of holders (items ++ record { slot = slot; sharing = sharing; stage = stage.Joined } ∷ []) (members_of held_of items ++ new_member slot sharing ∷ [])
    (map-append (member held_of) items (record { slot = slot; sharing = sharing; stage = stage.Joined } ∷ [])
    ∙ ap (λ (l : List ℕ). members_of held_of items ++ (record { slot = slot; sharing = sharing; stage = stage.Joined; objects = l }) ∷ []) (kept.outside slot out))
    (joined_kept held_of holders slot sharing (members_of held_of items) kept from to out)

seen_change : (held_of : ℕ → List ℕ) (slot : ℕ) (g : LineMember → LineMember) (f : Member → Member) (items : List LineMember) → ((s : LineMember) → member held_of (g s) ≡ put slot f (member held_of s))
    → members_of held_of (map g items) ≡ changed_member slot f (members_of held_of items)
seen_change held_of slot g f [] same = refl
seen_change held_of slot g f (s ∷ items) same =
    ap (λ m. m ∷ members_of held_of (map g items)) (same s) ∙ ap (λ l. put slot f (member held_of s) ∷ l) (seen_change held_of slot g f items same)

seen_held : (held_of : ℕ → List ℕ) (slot : ℕ) (s : LineMember) → member held_of (held_at slot s) ≡ put slot held (member held_of s)
seen_held held_of slot s = by (eqb s.slot slot)
  where
    by : (b : Bool) → member held_of (cond b (record s { stage = (held (member held_of s)).stage }) s) ≡ cond b (held (member held_of s)) (member held_of s)
    by true = refl
    by false = refl

seen_passed : (held_of : ℕ → List ℕ) (slot : ℕ) (s : LineMember) → member held_of (passed_at slot s) ≡ put slot passed (member held_of s)
seen_passed held_of slot s = by (eqb s.slot slot)
  where
    by : (b : Bool) → member held_of (cond b (record s { stage = stage.Past }) s) ≡ cond b (passed (member held_of s)) (member held_of s)
    by true = refl
    by false = refl

pub after_hold : (held_of holders : ℕ → List ℕ) (items : List LineMember) (slot : ℕ) → IsKept held_of holders (members_of held_of items)
    → Holds held_of holders (map (held_at slot) items) (changed_member slot held (members_of held_of items))
after_hold held_of holders items slot kept =
    holds_them held_of holders (map (held_at slot) items) (changed_member slot held (members_of held_of items))
    (seen_change held_of slot (held_at slot) held items (seen_held held_of slot)) (held_kept held_of holders slot (members_of held_of items) kept)

pub after_pass : (held_of holders : ℕ → List ℕ) (items : List LineMember) (slot : ℕ) → may_pass slot (members_of held_of items) ≡ true → IsKept held_of holders (members_of held_of items)
    → Holds held_of holders (map (passed_at slot) items) (changed_member slot passed (members_of held_of items))
after_pass held_of holders items slot may kept =
    holds_them held_of holders (map (passed_at slot) items) (changed_member slot passed (members_of held_of items))
    (seen_change held_of slot (passed_at slot) passed items (seen_passed held_of slot)) (passed_kept held_of holders slot (members_of held_of items) may kept)

-- ---- where the turns change

same_held : (old_held held_of : ℕ → List ℕ) (items : List LineMember) → ((n : ℕ) → held_of n ≡ old_held n) → members_of held_of items ≡ members_of old_held items
same_held old_held held_of [] same = refl
same_held old_held held_of (s ∷ items) same =
    ap (λ (l : List ℕ). (record { slot = s.slot; sharing = s.sharing; stage = s.stage; objects = l }) ∷ members_of held_of items) (same s.slot)
    ∙ ap (λ l. member old_held s ∷ l) (same_held old_held held_of items same)

pub after_reserve : (old_held old_holders held_of holders : ℕ → List ℕ) (items : List LineMember) → ((o : ℕ) → holders o ≡ old_holders o) → ((n : ℕ) → held_of n ≡ old_held n)
    → IsKept old_held old_holders (members_of old_held items) → Holds held_of holders items (members_of old_held items)
after_reserve old_held old_holders held_of holders items holders_are held_are kept =
    holds_them held_of holders items (members_of old_held items) (same_held old_held held_of items held_are)
    (record { fair = kept.fair; turns = λ o. holders_are o ∙ kept.turns o; outside = λ n out. held_are n ∙ kept.outside n out })

one_change : (slot : ℕ) (g : List ℕ → List ℕ) (s : LineMember) (old new : List ℕ) → new ≡ cond (eqb slot s.slot) (g old) old → (b : Bool) → eqb s.slot slot ≡ b
    → member (λ _. new) s ≡ cond b (record { slot = s.slot; sharing = s.sharing; stage = s.stage; objects = g old }) (member (λ _. old) s)
one_change slot g s old new is b e =
    ap (λ (l : List ℕ). member (λ _. l) s) (is ∙ ap (λ c. cond c (g old) old) (eqb_flip slot s.slot ∙ e)) ∙ by b
  where
    by : (c : Bool) → member (λ _. cond c (g old) old) s ≡ cond c (record { slot = s.slot; sharing = s.sharing; stage = s.stage; objects = g old }) (member (λ _. old) s)
    by true = refl
    by false = refl

seen_turns : (old_held held_of : ℕ → List ℕ) (slot : ℕ) (g : List ℕ → List ℕ) (items : List LineMember) → ((n : ℕ) → held_of n ≡ cond (eqb slot n) (g (old_held n)) (old_held n))
    → members_of held_of items ≡ changed_member slot (λ m. record m { objects = g m.objects }) (members_of old_held items)
seen_turns old_held held_of slot g [] is = refl
seen_turns old_held held_of slot g (s ∷ items) is =
    ap (λ m. m ∷ members_of held_of items) (one_change slot g s (old_held s.slot) (held_of s.slot) (is s.slot) (eqb s.slot slot) refl)
    ∙ ap (λ l. cond (eqb s.slot slot) (record { slot = s.slot; sharing = s.sharing; stage = s.stage; objects = g (old_held s.slot) }) (member old_held s) ∷ l)
    (seen_turns old_held held_of slot g items is)

pub after_enter : (old_held old_holders held_of holders : ℕ → List ℕ) (items : List LineMember) (slot object : ℕ)
    → ((o : ℕ) → holders o ≡ cond (eqb object o) (old_holders o ++ slot ∷ []) (old_holders o))
    → ((n : ℕ) → held_of n ≡ cond (eqb slot n) (old_held n ++ object ∷ []) (old_held n))
    → may_enter slot (members_of old_held items) ≡ true → none_past_behind slot (members_of old_held items) ≡ true → is_in object (objects_of_slot slot (members_of old_held items)) ≡ false
    → IsKept old_held old_holders (members_of old_held items) → Holds held_of holders items (changed_member slot (entered object) (members_of old_held items))
after_enter old_held old_holders held_of holders items slot object holders_are held_are may last once kept =
    holds_them held_of holders items (changed_member slot (entered object) (members_of old_held items))
    (seen_turns old_held held_of slot (λ l. l ++ object ∷ []) items held_are)
    (entered_kept old_held old_holders held_of holders slot object (members_of old_held items) holders_are held_are may last once kept)

pub after_piece : (old_held old_holders held_of holders : ℕ → List ℕ) (items : List LineMember) (slot : ℕ)
    → ((o : ℕ) → holders o ≡ cond (begins_with o (old_held slot)) (filter (λ n. not (eqb n slot)) (old_holders o)) (old_holders o))
    → ((n : ℕ) → held_of n ≡ cond (eqb slot n) (drop 1 (old_held n)) (old_held n))
    → IsKept old_held old_holders (members_of old_held items) → Holds held_of holders items (changed_member slot next_piece (members_of old_held items))
after_piece old_held old_holders held_of holders items slot holders_are held_are kept =
    holds_them held_of holders items (changed_member slot next_piece (members_of old_held items))
    (seen_turns old_held held_of slot (drop 1) items held_are)
    (next_kept old_held old_holders held_of holders slot (members_of old_held items) holders_are held_are (objects_are old_held items) kept)

seen_left : (old_held held_of : ℕ → List ℕ) (slot : ℕ) (items : List LineMember) → ((n : ℕ) → held_of n ≡ cond (eqb slot n) [] (old_held n))
    → members_of held_of (filter (λ (s : LineMember). not (eqb s.slot slot)) items) ≡ without slot (members_of old_held items)
seen_left old_held held_of slot [] is = refl
seen_left old_held held_of slot (s ∷ items) is = by (eqb s.slot slot) refl (seen_left old_held held_of slot items is)
  where
    stays : eqb s.slot slot ≡ false → held_of s.slot ≡ old_held s.slot
    stays e = is s.slot ∙ ap (λ b. cond b [] (old_held s.slot)) (eqb_flip slot s.slot ∙ e)

    by : (b : Bool) → eqb s.slot slot ≡ b → members_of held_of (filter (λ (s : LineMember). not (eqb s.slot slot)) items) ≡ without slot (members_of old_held items)
        → members_of held_of (cond (not b) (s ∷ filter (λ (s : LineMember). not (eqb s.slot slot)) items) (filter (λ (s : LineMember). not (eqb s.slot slot)) items))
        ≡ cond (not b) (member old_held s ∷ without slot (members_of old_held items)) (without slot (members_of old_held items))
    by true e rest = rest
    by false e rest =
        ap (λ (l : List ℕ). member (λ _. l) s ∷ members_of held_of (filter (λ (s : LineMember). not (eqb s.slot slot)) items)) (stays e)
        ∙ ap (λ l. member old_held s ∷ l) rest

pub after_leave : (old_held old_holders held_of holders : ℕ → List ℕ) (items : List LineMember) (slot : ℕ)
    → ((o : ℕ) → holders o ≡ filter (λ n. not (eqb n slot)) (old_holders o)) → ((n : ℕ) → held_of n ≡ cond (eqb slot n) [] (old_held n))
    → IsKept old_held old_holders (members_of old_held items)
    → Holds held_of holders (filter (λ (s : LineMember). not (eqb s.slot slot)) items) (without slot (members_of old_held items))
after_leave old_held old_holders held_of holders items slot holders_are held_are kept =
    holds_them held_of holders (filter (λ (s : LineMember). not (eqb s.slot slot)) items) (without slot (members_of old_held items))
    (seen_left old_held held_of slot items held_are)
    (left_kept old_held old_holders held_of holders slot (members_of old_held items) holders_are held_are kept)

pub once_held : (held_of holders : ℕ → List ℕ) (items : List LineMember) (slot : ℕ) → IsKept held_of holders (members_of held_of items) → AreApart (held_of slot)
once_held held_of holders items slot kept = held_once held_of holders slot (members_of held_of items) (objects_are held_of items) kept

pub turn_seen : (held_of holders : ℕ → List ℕ) (items : List LineMember) (slot object : ℕ) → IsKept held_of holders (members_of held_of items)
    → (begins_with object (held_of slot) && begins_with slot (holders object)) ≡ (comes_next slot object (members_of held_of items) && has_turn slot object (members_of held_of items))
turn_seen held_of holders items slot object kept = turn_kept held_of holders slot object (members_of held_of items) (objects_are held_of items) kept
