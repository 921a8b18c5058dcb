-- Who knows at least as much stays so, and may do as much.
use Rattle.std.proofs.Common.{◌≡◌, ◌⊎◌, inl, inr, ℕ, zero, suc, ◌==◌, eqb, cond, not, Bool, true, false, List, [], ◌∷◌, filter, length, ◌*◌, slice_set, Option, Some, None, is_some, option_map, refl, sym, ap, ◌∙◌, subst, arith}
use Rattle.std.specs.Prelude.{Any, IsSome, ◌&&◌, nat_le}
use Rattle.std.proofs.lemmas.Bool.{true≢false, and_parts, eqb-true}
use Rattle.std.proofs.lemmas.Option.{none-some, same_Some}
use Rattle.rbd_kinds.specs.declared.answer.Answer.{Answer}
use Rattle.rbd_kinds.specs.declared.answer.Answer.TheVariants as answer
use Rattle.rbd_kinds.specs.declared.children_op.ChildrenOp.{ChildrenOp}
use Rattle.rbd_kinds.specs.declared.children_op.ChildrenOp.TheVariants as child
use Rattle.rbd_kinds.specs.declared.data_op.DataOp.{DataOp}
use Rattle.rbd_kinds.specs.declared.data_op.DataOp.TheVariants as object
use Rattle.rbd_kinds.specs.declared.directory_op.DirectoryOp.{DirectoryOp}
use Rattle.rbd_kinds.specs.declared.directory_op.DirectoryOp.TheVariants as directory
use Rattle.rbd_kinds.specs.declared.header.HeaderView.{HeaderView}
use Rattle.rbd_kinds.specs.declared.header_op.HeaderOp.{HeaderOp}
use Rattle.rbd_kinds.specs.declared.header_op.HeaderOp.TheVariants as header
use Rattle.rbd_kinds.specs.declared.id.Instance.{Instance}
use Rattle.rbd_kinds.specs.declared.id.SiteId.{SiteId}
use Rattle.rbd_kinds.specs.declared.layout.Layout.{Layout}
use Rattle.rbd_kinds.specs.declared.layout.Part.{Part}
use Rattle.rbd_kinds.specs.declared.map_op.MapOp.{MapOp}
use Rattle.rbd_kinds.specs.declared.map_op.MapOp.TheVariants as states
use Rattle.rbd_kinds.specs.declared.operation.Op.{Op}
use Rattle.rbd_kinds.specs.declared.operation.Op.TheVariants as op
use Rattle.rbd_kinds.specs.declared.sharing.Sharing.{Sharing}
use Rattle.rbd_kinds.specs.declared.sharing.Sharing.TheVariants.{Alone}
use Rattle.rbd_kinds.specs.Sharing.{is_alone}
use Rattle.rbd_kinds.specs.Striping.{object_of}
use Rattle.rbd_kinds.proofs.Images.{same_site_is}
use Rattle.rbd_header.specs.Header.{snap_in}
use Rattle.rbd_map.specs.States.{states_of}
use Rattle.rbd_machine.specs.Ancestors.{ChildBase, ChildLink, HeaderSeen, IsAmong, ObjectTold, SnapPlace, is_dated, seen_by, told_by, told_when}
use Rattle.rbd_machine.specs.Children.{base_of, based_by, bases_told, childless_by, is_base, is_link, is_snap, linked_by, lists_unprotecting, protected_size, with_base, with_childless}
use Rattle.rbd_machine.specs.AtLeast.{AreMapsAtLeast, AreObjectsAtLeast, IsToldToo, KnowsAtLeast}
use Rattle.rbd_machine.specs.Knowledge.{Blank, Fence, ImageMaps, ImagePlace, Knowledge, MapsKnown, Mark, ObjectsKnown, Own, afresh, blanked, first_told, found, found_where, header_told, is_absent, is_at, is_drawn, is_fenced_by, is_mark, is_raised, is_view, keeps_object, known_after_wait, knows_head, learned, learned_of_directory, learned_of_header, learned_of_listing, learned_of_map, learned_of_object, learned_own, looked_behind, looked_by, looked_under_lock, made, maps_of, maps_told, marks_after, marks_apart, objects_known_of, only_there, own_of, owns_when_held, owns_without, removed, removed_header, same_site, shows_head, states_set, unfenced, unmapped, unmarked, with_maps, with_objects, with_objects_where, without_drawn, without_fence, without_object, without_there, header_alone}
use Rattle.rbd_machine.specs.Label.{Label, IsFit}
use Rattle.rbd_machine.specs.Lawful.{CanTell, IsLawful}
use Rattle.rbd_machine.specs.Permits.{HasTurn, IsInParts, IsLeftOver, IsMappedFor, IsZeroByChange, IsZeroByState, MayMake, MaySize, MayTakeSnap, OwnsAlone, OwnsBy, Permits, PermitsOnDirectory, PermitsOnHeader, PermitsOnMap, PermitsOnObject, MayUnlink, PermitsOnChildren}
use Rattle.rbd_machine.specs.Refused.{only_looks}
use Rattle.rbd_machine.specs.Plan.{Plan, Ask, Await, Note, Return, Goto}
use Rattle.rbd_machine.specs.Possible.{IsOwnAgain, IsPossible}
use Rattle.rbd_machine.specs.Wait.{Wait}
use Rattle.rbd_machine.specs.Wait as wait

-- ---- what was told

told_itself : {T : Type 0} (told : Option T) → IsToldToo told told
told_itself None = tt
told_itself (Some x) = refl

told_is : {T : Type 0} (more less : Option T) → IsToldToo more less → (x : T) → less ≡ Some x → more ≡ Some x
told_is more less too x is = subst (IsToldToo more) is too

told_onward : {T : Type 0} (a b c : Option T) → IsToldToo a b → IsToldToo b c → IsToldToo a c
told_onward a b None first then_less = tt
told_onward a b (Some x) first then_less = told_is a b first x then_less

told_some : {T : Type 0} (more less : Option T) → IsToldToo more less → IsSome less → IsSome more
told_some more None too some = absurd (true≢false (sym some))
told_some more (Some x) too some = ap is_some too

told_mapped : {T : Type 0} (f : T → T) (more less : Option T) → IsToldToo more less → IsToldToo (option_map f more) (option_map f less)
told_mapped f more None too = tt
told_mapped f more (Some x) too = ap (option_map f) too

-- ---- of maps

pub maps_themselves : (m : MapsKnown) → AreMapsAtLeast m m
maps_themselves m = record { raised = λ view object marked. marked; states = told_itself m.states; count = told_itself m.count; put = told_itself m.put }

maps_onward : (a b c : MapsKnown) → AreMapsAtLeast a b → AreMapsAtLeast b c → AreMapsAtLeast a c
maps_onward a b c first then_less = record {
  raised = λ view object marked. first.raised view object (then_less.raised view object marked);
  states = told_onward a.states b.states c.states first.states then_less.states;
  count = told_onward a.count b.count c.count first.count then_less.count;
  put = told_onward a.put b.put c.put first.put then_less.put;
}

-- without the marks
pub maps_unmarked : (maps : List ImageMaps) (site : SiteId) (image : ℕ) → maps_of (unmarked maps) site image ≡ record (maps_of maps site image) { raised = [] }
maps_unmarked [] site image = refl
maps_unmarked (m ∷ maps) site image = by (is_at site image m.site m.image) (maps_unmarked maps site image)
  where
    by : (b : Bool) → maps_of (unmarked maps) site image ≡ record (maps_of maps site image) { raised = [] }
        → cond b (record m.known { raised = [] }) (maps_of (unmarked maps) site image) ≡ record (cond b m.known (maps_of maps site image)) { raised = [] }
    by true rest = refl
    by false rest = rest

bare : (more less : MapsKnown) → AreMapsAtLeast more less → AreMapsAtLeast (record more { raised = [] }) (record less { raised = [] })
bare more less l = record { raised = λ view object marked. marked; states = l.states; count = l.count; put = l.put }

unmarked_more : (more less : List ImageMaps) (site : SiteId) (image : ℕ) → AreMapsAtLeast (maps_of more site image) (maps_of less site image) → AreMapsAtLeast (maps_of (unmarked more) site image) (maps_of (unmarked less) site image)
unmarked_more more less site image l =
    subst (λ m. AreMapsAtLeast m (maps_of (unmarked less) site image)) (sym (maps_unmarked more site image))
    (subst (λ m. AreMapsAtLeast (record (maps_of more site image) { raised = [] }) m) (sym (maps_unmarked less site image))
    (bare (maps_of more site image) (maps_of less site image) l))

-- one image's maps were told, of the others the same is known
maps_more : (m n : MapsKnown) (more less : List ImageMaps) (site : SiteId) (image : ℕ) (there : SiteId) (place : ℕ)
    → AreMapsAtLeast m n → AreMapsAtLeast (maps_of more there place) (maps_of less there place)
    → AreMapsAtLeast (maps_of (maps_told site image m more) there place) (maps_of (maps_told site image n less) there place)
maps_more m n more less site image there place here others = by (is_at there place site image)
  where
    by : (b : Bool) → AreMapsAtLeast (cond b m (maps_of more there place)) (cond b n (maps_of less there place))
    by true = here
    by false = others

-- ---- marks

-- a mark is of one view and one object
same_mark : (view other : Option ℕ) (object number : ℕ) (m : Mark) → is_mark view object m ≡ true → is_mark other number m ≡ is_mark other number (record { view = view; object = object })
same_mark None other object number m is = by m.view is
  where
    by : (v : Option ℕ) → is_mark None object (record { view = v; object = m.object }) ≡ true → is_mark other number (record { view = v; object = m.object }) ≡ is_mark other number (record { view = None; object = object })
    by None is = ap (λ n. is_mark other number (record { view = None; object = n })) (eqb-true m.object object is)
    by (Some t) is = absurd (true≢false (sym is))
same_mark (Some s) other object number m is = by m.view is
  where
    by : (v : Option ℕ) → is_mark (Some s) object (record { view = v; object = m.object }) ≡ true → is_mark other number (record { view = v; object = m.object }) ≡ is_mark other number (record { view = Some s; object = object })
    by None is = absurd (true≢false (sym is))
    by (Some t) is =
        let both = and_parts (eqb t s) (eqb m.object object) is in
        ap (λ v. is_mark other number (record { view = Some v; object = m.object })) (eqb-true t s both.0)
        ∙ ap (λ n. is_mark other number (record { view = Some s; object = n })) (eqb-true m.object object both.1)

-- the marks that are left once those of one view and object went
marks_left : (view other : Option ℕ) (object number : ℕ) (raised : List Mark)
    → is_raised view object (filter (λ m. not (is_mark other number m)) raised) ≡ cond (is_mark other number (record { view = view; object = object })) false (is_raised view object raised)
marks_left view other object number [] = by (is_mark other number (record { view = view; object = object }))
  where
    by : (b : Bool) → false ≡ cond b false false
    by true = refl
    by false = refl
marks_left view other object number (m ∷ raised) = by (is_mark other number m) refl (is_mark view object m) refl (marks_left view other object number raised)
  where
    rest : List Mark
    rest = filter (λ x. not (is_mark other number x)) raised

    here : Bool
    here = is_mark other number (record { view = view; object = object })

    by : (a : Bool) → is_mark other number m ≡ a → (b : Bool) → is_mark view object m ≡ b → is_raised view object rest ≡ cond here false (is_raised view object raised)
        → is_raised view object (cond (not a) (m ∷ rest) rest) ≡ cond here false (cond b true (is_raised view object raised))
    by true goes true is more =
        let it : here ≡ true = sym (same_mark view other object number m is) ∙ goes in
        more ∙ ap (λ b. cond b false (is_raised view object raised)) it ∙ sym (ap (λ b. cond b false true) it)
    by true goes false is more = more
    by false stays true is more =
        let it : here ≡ false = sym (same_mark view other object number m is) ∙ stays in
        ap (λ b. cond b true (is_raised view object rest)) is ∙ sym (ap (λ b. cond b false true) it)
    by false stays false is more = ap (λ b. cond b true (is_raised view object rest)) is ∙ more

marks_more : (other : Option ℕ) (number state : ℕ) (more less : List Mark) → ((view : Option ℕ) (object : ℕ) → is_raised view object less ≡ true → is_raised view object more ≡ true)
    → (view : Option ℕ) (object : ℕ) → is_raised view object (marks_after other number state less) ≡ true → is_raised view object (marks_after other number state more) ≡ true
marks_more other number state more less l view object = by (state == 0)
  where
    at : Mark
    at = record { view = other; object = number }

    new : (b : Bool) → cond b true (is_raised view object less) ≡ true → cond b true (is_raised view object more) ≡ true
    new true is = refl
    new false is = l view object is

    left : (b : Bool) → cond b false (is_raised view object less) ≡ true → cond b false (is_raised view object more) ≡ true
    left true is = is
    left false is = l view object is

    by : (b : Bool) → is_raised view object (cond b (filter (λ m. not (is_mark other number m)) less) (at ∷ less)) ≡ true
        → is_raised view object (cond b (filter (λ m. not (is_mark other number m)) more) (at ∷ more)) ≡ true
    by true is =
        marks_left view other object number more
        ∙ left (is_mark other number (record { view = view; object = object })) (sym (marks_left view other object number less) ∙ is)
    by false is = new (is_mark view object at) is

-- a mark is of one view
view_of_mark : (view of : Option ℕ) (object : ℕ) (m : Mark) → is_mark view object m ≡ true → is_view m.view of ≡ is_view view of
view_of_mark None of object m is = by m.view is
  where
    by : (v : Option ℕ) → is_mark None object (record { view = v; object = m.object }) ≡ true → is_view v of ≡ is_view None of
    by None is = refl
    by (Some t) is = absurd (true≢false (sym is))
view_of_mark (Some s) of object m is = by m.view is
  where
    by : (v : Option ℕ) → is_mark (Some s) object (record { view = v; object = m.object }) ≡ true → is_view v of ≡ is_view (Some s) of
    by None is = absurd (true≢false (sym is))
    by (Some t) is = ap (λ n. is_view (Some n) of) (eqb-true t s (and_parts (eqb t s) (eqb m.object object) is).0)

-- the marks that are left once those of one view went
pub marks_of_others : (view of : Option ℕ) (object : ℕ) (raised : List Mark) → is_raised view object (marks_apart of raised) ≡ cond (is_view view of) false (is_raised view object raised)
marks_of_others view of object [] = by (is_view view of)
  where
    by : (b : Bool) → false ≡ cond b false false
    by true = refl
    by false = refl
marks_of_others view of object (m ∷ raised) = by (is_view m.view of) refl (is_mark view object m) refl (marks_of_others view of object raised)
  where
    rest : List Mark
    rest = marks_apart of raised

    here : Bool
    here = is_view view of

    by : (a : Bool) → is_view m.view of ≡ a → (b : Bool) → is_mark view object m ≡ b → is_raised view object rest ≡ cond here false (is_raised view object raised)
        → is_raised view object (cond (not a) (m ∷ rest) rest) ≡ cond here false (cond b true (is_raised view object raised))
    by true goes true is more =
        let it : here ≡ true = sym (view_of_mark view of object m is) ∙ goes in
        more ∙ ap (λ b. cond b false (is_raised view object raised)) it ∙ sym (ap (λ b. cond b false true) it)
    by true goes false is more = more
    by false stays true is more =
        let it : here ≡ false = sym (view_of_mark view of object m is) ∙ stays in
        ap (λ b. cond b true (is_raised view object rest)) is ∙ sym (ap (λ b. cond b false true) it)
    by false stays false is more = ap (λ b. cond b true (is_raised view object rest)) is ∙ more

apart_more : (of : Option ℕ) (more less : List Mark) → ((view : Option ℕ) (object : ℕ) → is_raised view object less ≡ true → is_raised view object more ≡ true)
    → (view : Option ℕ) (object : ℕ) → is_raised view object (marks_apart of less) ≡ true → is_raised view object (marks_apart of more) ≡ true
apart_more of more less l view object is = marks_of_others view of object more ∙ by (is_view view of) (sym (marks_of_others view of object less) ∙ is)
  where
    by : (b : Bool) → cond b false (is_raised view object less) ≡ true → cond b false (is_raised view object more) ≡ true
    by true is = is
    by false is = l view object is

-- ---- of objects

objects_themselves : (o : ObjectsKnown) → AreObjectsAtLeast o o
objects_themselves o = record { absent = λ object gone. gone; there = λ object is. is; blank = λ object x is. is }

-- of each object something isn't there once it is forgotten
pub absent_left : (object number : ℕ) (absent : List ℕ) → is_absent object (filter (λ x. not (x == number)) absent) ≡ cond (object == number) false (is_absent object absent)
absent_left object number [] = by (object == number)
  where
    by : (b : Bool) → false ≡ cond b false false
    by true = refl
    by false = refl
absent_left object number (y ∷ absent) = by (y == number) refl (y == object) refl (absent_left object number absent)
  where
    rest : List ℕ
    rest = filter (λ x. not (x == number)) absent

    by : (a : Bool) → (y == number) ≡ a → (b : Bool) → (y == object) ≡ b → is_absent object rest ≡ cond (object == number) false (is_absent object absent)
        → is_absent object (cond (not a) (y ∷ rest) rest) ≡ cond (object == number) false (cond b true (is_absent object absent))
    by true goes true is more =
        let it : (object == number) ≡ true = sym (ap (λ n. n == number) (eqb-true y object is)) ∙ goes in
        more ∙ ap (λ b. cond b false (is_absent object absent)) it ∙ sym (ap (λ b. cond b false true) it)
    by true goes false is more = more
    by false stays true is more =
        let it : (object == number) ≡ false = sym (ap (λ n. n == number) (eqb-true y object is)) ∙ stays in
        ap (λ b. cond b true (is_absent object rest)) is ∙ sym (ap (λ b. cond b false true) it)
    by false stays false is more = ap (λ b. cond b true (is_absent object rest)) is ∙ more

pub any_cases : {X : Type 0} (P : X → Type 0) (x : X) (xs : List X) → Any P (x ∷ xs) → P x ⊎ Any P xs
any_cases P x xs (zero, y, less, is, holds) = inl (subst P (sym is) holds)
any_cases P x xs (suc k, y, less, is, holds) = inr (k, y, omega arith, is, holds)

any_there : {X : Type 0} (P : X → Type 0) (x : X) (xs : List X) → Any P xs → Any P (x ∷ xs)
any_there P x xs (k, y, less, is, holds) = (suc k, y, omega arith, is, holds)

any_here : {X : Type 0} (P : X → Type 0) (x : X) (xs : List X) → P x → Any P (x ∷ xs)
any_here P x xs holds = (0, x, omega arith, refl, holds)

-- what is left by a test, and passes it
abbrev Passing : {X : Type 0} → (X → Type 0) → (X → Bool) → X → Type 0
Passing P passes x = P x × (passes x ≡ true)

any_first : {X : Type 0} (P Q : X → Type 0) (y : X) (xs zs : List X) → (P y → Q y) → (Any P xs → Any Q zs) → P y ⊎ Any P xs → Any Q (y ∷ zs)
any_first P Q y xs zs one others (inl here) = any_here Q y zs (one here)
any_first P Q y xs zs one others (inr there) = any_there Q y zs (others there)

any_left : {X : Type 0} (P : X → Type 0) (passes : X → Bool) (xs : List X) → Any P (filter passes xs) → Any (Passing P passes) xs
any_left P passes [] (k, x, less, is, holds) = absurd (omega arith)
any_left P passes (y ∷ xs) some = by (passes y) refl (any_left P passes xs) some
  where
    by : (b : Bool) → passes y ≡ b → (Any P (filter passes xs) → Any (Passing P passes) xs) → Any P (cond b (y ∷ filter passes xs) (filter passes xs)) → Any (Passing P passes) (y ∷ xs)
    by true is later some = any_first P (Passing P passes) y (filter passes xs) xs (λ here. (here, is)) later (any_cases P y (filter passes xs) some)
    by false is later some = any_there (Passing P passes) y xs (later some)

any_stays : {X : Type 0} (P : X → Type 0) (passes : X → Bool) (xs : List X) → Any (Passing P passes) xs → Any P (filter passes xs)
any_stays P passes [] (k, x, less, is, holds) = absurd (omega arith)
any_stays P passes (y ∷ xs) some = by (passes y) refl (any_stays P passes xs) (any_cases (Passing P passes) y xs some)
  where
    by : (b : Bool) → passes y ≡ b → (Any (Passing P passes) xs → Any P (filter passes xs)) → Passing P passes y ⊎ Any (Passing P passes) xs → Any P (cond b (y ∷ filter passes xs) (filter passes xs))
    by true is later (inl here) = any_here P y (filter passes xs) here.0
    by true is later (inr there) = any_there P y (filter passes xs) (later there)
    by false is later (inl here) = absurd (true≢false (sym here.1 ∙ is))
    by false is later (inr there) = later there

any_weaker : {X : Type 0} (P Q : X → Type 0) (xs : List X) → ((x : X) → P x → Q x) → Any P xs → Any Q xs
any_weaker P Q xs weaker (k, x, less, is, holds) = (k, x, less, is, weaker x holds)

-- what is left of a list was on it
pub any_among : {X : Type 0} (P : X → Type 0) (passes : X → Bool) (xs : List X) → Any P (filter passes xs) → Any P xs
any_among P passes xs some = any_weaker (Passing P passes) P xs (λ x holds. holds.0) (any_left P passes xs some)

-- a place that is blank, of one object
abbrev BlanksAt : (object x : ℕ) → Blank → Type 0
BlanksAt object x b = (b.object ≡ object) × IsInParts b.parts x

blank_cons : (b : Blank) (more less : List Blank) (object x : ℕ) → (Any (BlanksAt object x) less → Any (BlanksAt object x) more) → Any (BlanksAt object x) (b ∷ less) → Any (BlanksAt object x) (b ∷ more)
blank_cons b more less object x l some = by (any_cases (BlanksAt object x) b less some)
  where
    by : BlanksAt object x b ⊎ Any (BlanksAt object x) less → Any (BlanksAt object x) (b ∷ more)
    by (inl here) = any_here (BlanksAt object x) b more here
    by (inr there) = any_there (BlanksAt object x) b more (l there)

blank_left : (number : ℕ) (more less : List Blank) (object x : ℕ) → (Any (BlanksAt object x) less → Any (BlanksAt object x) more)
    → Any (BlanksAt object x) (filter (λ b. not (b.object == number)) less) → Any (BlanksAt object x) (filter (λ b. not (b.object == number)) more)
blank_left number more less object x l some =
    any_stays (BlanksAt object x) (λ b. not (b.object == number)) more
    (any_weaker (BlanksAt object x) (Passing (BlanksAt object x) (λ b. not (b.object == number))) more (λ b at. (at, ap (λ n. not (n == number)) at.0 ∙ other)) (l was))
  where
    found : Any (Passing (BlanksAt object x) (λ b. not (b.object == number))) less
    found = any_left (BlanksAt object x) (λ b. not (b.object == number)) less some

    was : Any (BlanksAt object x) less
    was = any_weaker (Passing (BlanksAt object x) (λ b. not (b.object == number))) (BlanksAt object x) less (λ b at. at.0) found

    other : not (object == number) ≡ true
    other = let (k, b, less, is, holds) = found in sym (ap (λ n. not (n == number)) holds.0.0) ∙ holds.1

-- what is known of the objects that are left but for one
left_more : (number : ℕ) (more less : List ℕ) → ((object : ℕ) → is_absent object less ≡ true → is_absent object more ≡ true)
    → (object : ℕ) → is_absent object (without_object number less) ≡ true → is_absent object (without_object number more) ≡ true
left_more number more less l object left = absent_left object number more ∙ by (object == number) (sym (absent_left object number less) ∙ left)
  where
    by : (b : Bool) → cond b false (is_absent object less) ≡ true → cond b false (is_absent object more) ≡ true
    by true is = is
    by false is = l object is

-- and of one more
one_more : (number : ℕ) (more less : List ℕ) → ((object : ℕ) → is_absent object less ≡ true → is_absent object more ≡ true)
    → (object : ℕ) → is_absent object (number ∷ less) ≡ true → is_absent object (number ∷ more) ≡ true
one_more number more less l object is = by (number == object) is
  where
    by : (b : Bool) → cond b true (is_absent object less) ≡ true → cond b true (is_absent object more) ≡ true
    by true is = refl
    by false is = l object is

module _ (more less : ObjectsKnown) (l : AreObjectsAtLeast more less) (number : ℕ) where
  found_more : AreObjectsAtLeast (found number more) (found number less)
  found_more = record { absent = l.absent; there = one_more number more.there less.there l.there; blank = l.blank }

  found_where_more : (counts : Bool) → AreObjectsAtLeast (found_where counts number more) (found_where counts number less)
  found_where_more true = found_more
  found_where_more false = record { absent = l.absent; there = l.there; blank = l.blank }

  made_object_more : AreObjectsAtLeast (made number more) (made number less)
  made_object_more = record {
    absent = left_more number more.absent less.absent l.absent;
    there = one_more number more.there less.there l.there;
    blank = λ object x is. blank_left number more.blank less.blank object x (l.blank object x) is;
  }

  blanked_more : (parts : Option (List Part)) → AreObjectsAtLeast (blanked number parts more) (blanked number parts less)
  blanked_more parts = record {
    absent = l.absent;
    there = l.there;
    blank = λ object x is. blank_cons (record { object = number; parts = parts }) more.blank less.blank object x (l.blank object x) is;
  }

  removed_more : AreObjectsAtLeast (removed number more) (removed number less)
  removed_more = record {
    absent = one_more number more.absent less.absent l.absent;
    there = left_more number more.there less.there l.there;
    blank = λ object x is. blank_cons (record { object = number; parts = None }) more.blank less.blank object x (l.blank object x) is;
  }

-- where none is known to be there
without_there_more : (more less : ObjectsKnown) → AreObjectsAtLeast more less → AreObjectsAtLeast (without_there more) (without_there less)
without_there_more more less l = record { absent = l.absent; there = λ object is. is; blank = l.blank }

objects_onward : (a b c : ObjectsKnown) → AreObjectsAtLeast a b → AreObjectsAtLeast b c → AreObjectsAtLeast a c
objects_onward a b c first then_less = record {
  absent = λ object gone. first.absent object (then_less.absent object gone);
  there = λ object is. first.there object (then_less.there object is);
  blank = λ object x is. first.blank object x (then_less.blank object x is);
}

-- ---- ids

place_of : (site there : SiteId) (image place : ℕ) → is_at site image there place ≡ true → (there ≡ site) × (place ≡ image)
place_of site there image place is =
    let parts = and_parts (same_site there site) (place == image) is in
    (same_site_is there site parts.0, eqb-true place image parts.1)

-- the ids that are left once one was used
drawn_left : (s t : SiteId) (image i : ℕ) (drawn : List ImagePlace) → is_drawn (filter (λ d. not (is_at s image d.site d.image)) drawn) t i ≡ cond (is_at s image t i) false (is_drawn drawn t i)
drawn_left s t image i [] = by (is_at s image t i)
  where
    by : (b : Bool) → false ≡ cond b false false
    by true = refl
    by false = refl
drawn_left s t image i (d ∷ drawn) = by (is_at s image d.site d.image) refl (is_at t i d.site d.image) refl (drawn_left s t image i drawn)
  where
    rest : List ImagePlace
    rest = filter (λ x. not (is_at s image x.site x.image)) drawn

    same : is_at t i d.site d.image ≡ true → is_at s image d.site d.image ≡ is_at s image t i
    same is =
        let place = place_of t d.site i d.image is in
        ap (λ x. is_at s image x d.image) place.0 ∙ ap (λ x. is_at s image t x) place.1

    by : (a : Bool) → is_at s image d.site d.image ≡ a → (b : Bool) → is_at t i d.site d.image ≡ b → is_drawn rest t i ≡ cond (is_at s image t i) false (is_drawn drawn t i)
        → is_drawn (cond (not a) (d ∷ rest) rest) t i ≡ cond (is_at s image t i) false (cond b true (is_drawn drawn t i))
    by true goes true is more =
        let it : is_at s image t i ≡ true = sym (same is) ∙ goes in
        more ∙ ap (λ b. cond b false (is_drawn drawn t i)) it ∙ sym (ap (λ b. cond b false true) it)
    by true goes false is more = more
    by false stays true is more =
        let it : is_at s image t i ≡ false = sym (same is) ∙ stays in
        ap (λ b. cond b true (is_drawn rest t i)) is ∙ sym (ap (λ b. cond b false true) it)
    by false stays false is more = ap (λ b. cond b true (is_drawn rest t i)) is ∙ more

drawn_less : (s t : SiteId) (image i : ℕ) (more less : List ImagePlace) → (is_drawn less t i ≡ true → is_drawn more t i ≡ true)
    → is_drawn (filter (λ d. not (is_at s image d.site d.image)) less) t i ≡ true → is_drawn (filter (λ d. not (is_at s image d.site d.image)) more) t i ≡ true
drawn_less s t image i more less l is = drawn_left s t image i more ∙ by (is_at s image t i) (sym (drawn_left s t image i less) ∙ is)
  where
    by : (b : Bool) → cond b false (is_drawn less t i) ≡ true → cond b false (is_drawn more t i) ≡ true
    by true is = is
    by false is = l is

drawn_cons : (s t : SiteId) (image i : ℕ) (more less : List ImagePlace) → (is_drawn less t i ≡ true → is_drawn more t i ≡ true) → (b : Bool) → cond b true (is_drawn less t i) ≡ true → cond b true (is_drawn more t i) ≡ true
drawn_cons s t image i more less l true is = refl
drawn_cons s t image i more less l false is = l is

-- ---- knowledge

pub knows_itself : (k : Knowledge) → KnowsAtLeast k k
knows_itself k = record {
  sharing = refl;
  owns = refl;
  turn = refl;
  fenced = refl;
  drawn = λ site image drawn. drawn;
  maps = λ site image. maps_themselves (maps_of k.maps site image);
  objects = λ site image. objects_themselves (objects_known_of k.objects site image);
  gone = λ site image gone. gone;
  seen = λ s among. among;
  told = λ t among. among;
  linked = λ l among. among;
  based = λ b among. among;
  childless = λ p among. among;
}

pub knows_as : (k other : Knowledge) → k ≡ other → KnowsAtLeast k other
knows_as k other same = subst (KnowsAtLeast k) same (knows_itself k)

pub knows_onward : (a b c : Knowledge) → KnowsAtLeast a b → KnowsAtLeast b c → KnowsAtLeast a c
knows_onward a b c first then_less = record {
  sharing = first.sharing ∙ then_less.sharing;
  owns = first.owns ∙ then_less.owns;
  turn = first.turn ∙ then_less.turn;
  fenced = first.fenced ∙ then_less.fenced;
  drawn = λ site image drawn. first.drawn site image (then_less.drawn site image drawn);
  maps = λ site image. maps_onward (maps_of a.maps site image) (maps_of b.maps site image) (maps_of c.maps site image) (first.maps site image) (then_less.maps site image);
  objects = λ site image.
      objects_onward (objects_known_of a.objects site image) (objects_known_of b.objects site image) (objects_known_of c.objects site image) (first.objects site image) (then_less.objects site image);
  gone = λ site image gone. first.gone site image (then_less.gone site image gone);
  seen = λ s among. first.seen s (then_less.seen s among);
  told = λ t among. first.told t (then_less.told t among);
  linked = λ l among. first.linked l (then_less.linked l among);
  based = λ b among. first.based b (then_less.based b among);
  childless = λ p among. first.childless p (then_less.childless p among);
}

-- ---- what was told of any image

-- a test that the one's list meets the other's meets too
among_more : {T : Type 0} (x : T) (more less : List T) → ((y : T) → IsAmong y less → IsAmong y more) → (y : T) → IsAmong y (x ∷ less) → IsAmong y (x ∷ more)
among_more x more less l y (inl here) = inl here
among_more x more less l y (inr there) = inr (l y there)

seen_more : (more less : List HeaderSeen) → ((s : HeaderSeen) → IsAmong s less → IsAmong s more) → (site : SiteId) (o : Op) (a : Answer) (s : HeaderSeen) → IsAmong s (seen_by less site o a) → IsAmong s (seen_by more site o a)
seen_more more less l site (op.Header image header.Get) (answer.Header h) = among_more (record { site = site; image = image; header = h }) more less l
seen_more more less l site _ _ = l

-- a header by which a snapshot has its date
abbrev dates : SiteId → (image snap : ℕ) → HeaderSeen → Bool
dates site image snap s = is_at site image s.site s.image && nat_le snap s.header.snap_seq

dated_by : (seen : List HeaderSeen) (site : SiteId) (image snap : ℕ) (s : HeaderSeen) → IsAmong s seen → dates site image snap s ≡ true → is_dated seen site image snap ≡ true
dated_by [] site image snap s among is = absurd among
dated_by (x ∷ seen) site image snap s (inl here) is = ap (λ b. cond b true (is_dated seen site image snap)) (ap (dates site image snap) here ∙ is)
dated_by (x ∷ seen) site image snap s (inr there) is = by (dates site image snap x) (dated_by seen site image snap s there is)
  where
    by : (b : Bool) → is_dated seen site image snap ≡ true → cond b true (is_dated seen site image snap) ≡ true
    by true later = refl
    by false later = later

date_of : (seen : List HeaderSeen) (site : SiteId) (image snap : ℕ) → is_dated seen site image snap ≡ true → (s : HeaderSeen) × IsAmong s seen × (dates site image snap s ≡ true)
date_of [] site image snap is = absurd (true≢false (sym is))
date_of (x ∷ seen) site image snap is = by (dates site image snap x) refl is (date_of seen site image snap)
  where
    by : (b : Bool) → dates site image snap x ≡ b → cond b true (is_dated seen site image snap) ≡ true
        → (is_dated seen site image snap ≡ true → (s : HeaderSeen) × IsAmong s seen × (dates site image snap s ≡ true)) → (s : HeaderSeen) × IsAmong s (x ∷ seen) × (dates site image snap s ≡ true)
    by true at is later = (x, inl refl, at)
    by false at is later = let (s, among, dated) = later is in (s, inr among, dated)

dated_more : (more less : List HeaderSeen) → ((s : HeaderSeen) → IsAmong s less → IsAmong s more) → (site : SiteId) (image snap : ℕ) → is_dated less site image snap ≡ true → is_dated more site image snap ≡ true
dated_more more less l site image snap is = let (s, among, dated) = date_of less site image snap is in dated_by more site image snap s (l s among) dated

module _ (more less : List ObjectTold) (l : (t : ObjectTold) → IsAmong t less → IsAmong t more) (x : ObjectTold) where
  when_more : (dated before : Bool) → (before ≡ true → dated ≡ true) → (t : ObjectTold) → IsAmong t (told_when before x less) → IsAmong t (told_when dated x more)
  when_more true true goes t among = among_more x more less l t among
  when_more true false goes t among = inr (l t among)
  when_more false true goes t among = absurd (true≢false (sym (goes refl)))
  when_more false false goes t among = l t among

lists_told : (more_seen less_seen : List HeaderSeen) → ((s : HeaderSeen) → IsAmong s less_seen → IsAmong s more_seen) → (more less : List ObjectTold) → ((t : ObjectTold) → IsAmong t less → IsAmong t more)
    → (site : SiteId) (o : Op) (a : Answer) (t : ObjectTold) → IsAmong t (told_by less_seen less site o a) → IsAmong t (told_by more_seen more site o a)
lists_told more_seen less_seen seen more less l site (op.Data image number (object.Read (Some snap) parts)) (answer.Bytes bytes) =
    when_more more less l (record { site = site; image = image; snap = snap; object = number; parts = parts; bytes = Some bytes })
    (is_dated more_seen site image snap) (is_dated less_seen site image snap) (dated_more more_seen less_seen seen site image snap)
lists_told more_seen less_seen seen more less l site (op.Data image number (object.Read (Some snap) parts)) answer.Absent =
    when_more more less l (record { site = site; image = image; snap = snap; object = number; parts = parts; bytes = None })
    (is_dated more_seen site image snap) (is_dated less_seen site image snap) (dated_more more_seen less_seen seen site image snap)
lists_told more_seen less_seen seen more less l site _ _ = l

-- ---- what is known of children

-- the one list holds all of the other
abbrev AreMoreOf : {T : Type 0} → (more less : List T) → Type 0
AreMoreOf {T} more less = (x : T) → IsAmong x less → IsAmong x more

-- what is left of a list by a test was there, and passes
pub among_left : {T : Type 0} (passes : T → Bool) (x : T) (xs : List T) → IsAmong x (filter passes xs) → IsAmong x xs × (passes x ≡ true)
among_left passes x [] among = absurd among
among_left passes x (y ∷ xs) among = by (passes y) refl among (among_left passes x xs)
  where
    by : (b : Bool) → passes y ≡ b → IsAmong x (cond b (y ∷ filter passes xs) (filter passes xs)) → (IsAmong x (filter passes xs) → IsAmong x xs × (passes x ≡ true)) → ((y ≡ x) ⊎ IsAmong x xs) × (passes x ≡ true)
    by true is (inl here) later = (inl here, ap passes (sym here) ∙ is)
    by true is (inr there) later = let found = later there in (inr found.0, found.1)
    by false is there later = let found = later there in (inr found.0, found.1)

pub among_stays : {T : Type 0} (passes : T → Bool) (x : T) (xs : List T) → passes x ≡ true → IsAmong x xs → IsAmong x (filter passes xs)
among_stays passes x [] is among = absurd among
among_stays passes x (y ∷ xs) is among = by (passes y) refl among (among_stays passes x xs is)
  where
    by : (b : Bool) → passes y ≡ b → (y ≡ x) ⊎ IsAmong x xs → (IsAmong x xs → IsAmong x (filter passes xs)) → IsAmong x (cond b (y ∷ filter passes xs) (filter passes xs))
    by true at (inl here) later = inl here
    by true at (inr there) later = inr (later there)
    by false at (inl here) later = absurd (true≢false (sym is ∙ ap passes (sym here) ∙ at))
    by false at (inr there) later = later there

left_more_of : {T : Type 0} (passes : T → Bool) (more less : List T) → AreMoreOf more less → AreMoreOf (filter passes more) (filter passes less)
left_more_of passes more less l x among = let was = among_left passes x less among in among_stays passes x more was.1 (l x was.0)

linked_more : (more less : List ChildLink) → AreMoreOf more less → (site : SiteId) (o : Op) (a : Answer) → AreMoreOf (linked_by more site o a) (linked_by less site o a)
linked_more more less l site (op.Children (child.Add parent snap image)) answer.Done = among_more (record { site = site; parent = parent; snap = snap; child = image }) more less l
linked_more more less l site (op.Children (child.Remove parent snap image)) answer.Done = left_more_of (λ e. not (is_link site parent snap image e)) more less l
linked_more more less l site (op.Children (child.Remove parent snap image)) answer.Absent = left_more_of (λ e. not (is_link site parent snap image e)) more less l
linked_more more less l site (op.Header image (header.Create view)) answer.Done = left_more_of (λ e. not (is_at site image e.site e.child)) more less l
linked_more more less l site _ _ = l

-- A base that a header tells: of which link, and by which snapshot.
pub record IsNewBase (linked : List ChildLink) (site : SiteId) (image : ℕ) (h : HeaderView) (b : ChildBase) : Type 0 where
  pub link : ChildLink
  pub among : IsAmong link linked
  pub here : is_at site image link.site link.parent ≡ true
  pub size : ℕ
  pub told : protected_size (snap_in h.snaps link.snap) ≡ Some size
  pub is : base_of link size ≡ b

-- each base behind a header that was told was known before, or is one of these
pub base_was : (linked : List ChildLink) (site : SiteId) (image : ℕ) (h : HeaderView) (based : List ChildBase) (b : ChildBase) → IsAmong b (bases_told linked site image h based)
    → IsAmong b based ⊎ IsNewBase linked site image h b
base_was [] site image h based b among = inl among
base_was (l ∷ linked) site image h based b among = by (is_at site image l.site l.parent) refl (protected_size (snap_in h.snaps l.snap)) refl among (base_was linked site image h based b)
  where
    onward : IsAmong b based ⊎ IsNewBase linked site image h b → IsAmong b based ⊎ IsNewBase (l ∷ linked) site image h b
    onward (inl before) = inl before
    onward (inr new) = inr (record { link = new.link; among = inr new.among; here = new.here; size = new.size; told = new.told; is = new.is })

    by : (here : Bool) → is_at site image l.site l.parent ≡ here → (size : Option ℕ) → protected_size (snap_in h.snaps l.snap) ≡ size → IsAmong b (with_base here l size (bases_told linked site image h based))
        → (IsAmong b (bases_told linked site image h based) → IsAmong b based ⊎ IsNewBase linked site image h b) → IsAmong b based ⊎ IsNewBase (l ∷ linked) site image h b
    by true at (Some size) told (inl is) later = inr (record { link = l; among = inl refl; here = at; size = size; told = told; is = is })
    by true at (Some size) told (inr there) later = onward (later there)
    by true at None told there later = onward (later there)
    by false at (Some size) told there later = onward (later there)
    by false at None told there later = onward (later there)

-- it is that of this very link
record IsBaseOf (l : ChildLink) (b : ChildBase) (here : Bool) (size : Option ℕ) : Type 0 where
  pub at : here ≡ true
  pub of : ℕ
  pub told : size ≡ Some of
  pub is : base_of l of ≡ b

-- and each of these is known then
pub base_stays : (linked : List ChildLink) (site : SiteId) (image : ℕ) (h : HeaderView) (based : List ChildBase) (b : ChildBase) → IsAmong b based ⊎ IsNewBase linked site image h b
    → IsAmong b (bases_told linked site image h based)
base_stays [] site image h based b (inl before) = before
base_stays [] site image h based b (inr new) = absurd new.among
base_stays (l ∷ linked) site image h based b known = by (is_at site image l.site l.parent) (protected_size (snap_in h.snaps l.snap)) (earlier known) (base_stays linked site image h based b)
  where
    of_new : (new : IsNewBase (l ∷ linked) site image h b) → (l ≡ new.link) ⊎ IsAmong new.link linked
        → (IsAmong b based ⊎ IsNewBase linked site image h b) ⊎ IsBaseOf l b (is_at site image l.site l.parent) (protected_size (snap_in h.snaps l.snap))
    of_new new (inr there) = inl (inr (record { link = new.link; among = there; here = new.here; size = new.size; told = new.told; is = new.is }))
    of_new new (inl same) = inr (record {
      at = ap (λ (e : ChildLink). is_at site image e.site e.parent) same ∙ new.here;
      of = new.size;
      told = ap (λ (e : ChildLink). protected_size (snap_in h.snaps e.snap)) same ∙ new.told;
      is = ap (λ e. base_of e new.size) same ∙ new.is;
    })

    -- it is known of the others, or told of this one
    earlier : IsAmong b based ⊎ IsNewBase (l ∷ linked) site image h b
        → (IsAmong b based ⊎ IsNewBase linked site image h b) ⊎ IsBaseOf l b (is_at site image l.site l.parent) (protected_size (snap_in h.snaps l.snap))
    earlier (inl before) = inl (inl before)
    earlier (inr new) = of_new new new.among

    by : (here : Bool) (size : Option ℕ) → (IsAmong b based ⊎ IsNewBase linked site image h b) ⊎ IsBaseOf l b here size
        → (IsAmong b based ⊎ IsNewBase linked site image h b → IsAmong b (bases_told linked site image h based)) → IsAmong b (with_base here l size (bases_told linked site image h based))
    by true (Some size) (inl others) later = inr (later others)
    by true (Some size) (inr it) later = inl (ap (base_of l) (same_Some size it.of it.told) ∙ it.is)
    by true None (inl others) later = later others
    by true None (inr it) later = absurd (none-some it.of it.told)
    by false (Some size) (inl others) later = later others
    by false (Some size) (inr it) later = absurd (true≢false (sym it.at))
    by false None (inl others) later = later others
    by false None (inr it) later = absurd (true≢false (sym it.at))

bases_more : (more_linked less_linked : List ChildLink) → AreMoreOf more_linked less_linked → (more less : List ChildBase) → AreMoreOf more less → (site : SiteId) (image : ℕ) (h : HeaderView)
    → AreMoreOf (bases_told more_linked site image h more) (bases_told less_linked site image h less)
bases_more more_linked less_linked links more less l site image h b among = base_stays more_linked site image h more b (by (base_was less_linked site image h less b among))
  where
    by : IsAmong b less ⊎ IsNewBase less_linked site image h b → IsAmong b more ⊎ IsNewBase more_linked site image h b
    by (inl before) = inl (l b before)
    by (inr new) = inr (record { link = new.link; among = links new.link new.among; here = new.here; size = new.size; told = new.told; is = new.is })

based_more : (more_linked less_linked : List ChildLink) → AreMoreOf more_linked less_linked → (more less : List ChildBase) → AreMoreOf more less → (site : SiteId) (o : Op) (a : Answer)
    → AreMoreOf (based_by more_linked more site o a) (based_by less_linked less site o a)
based_more more_linked less_linked links more less l site (op.Header image header.Get) (answer.Header h) = bases_more more_linked less_linked links more less l site image h
based_more more_linked less_linked links more less l site (op.Children (child.Remove parent snap image)) answer.Done = left_more_of (λ e. not (is_base site parent snap image e)) more less l
based_more more_linked less_linked links more less l site (op.Children (child.Remove parent snap image)) answer.Absent = left_more_of (λ e. not (is_base site parent snap image e)) more less l
based_more more_linked less_linked links more less l site (op.Header image (header.Create view)) answer.Done = left_more_of (λ e. not (is_at site image e.site e.child)) more less l
based_more more_linked less_linked links more less l site _ _ = l

listed_more : (counts : Bool) (p : SnapPlace) (more less : List SnapPlace) → AreMoreOf more less → AreMoreOf (with_childless counts p more) (with_childless counts p less)
listed_more true p more less l = among_more p more less l
listed_more false p more less l = l

childless_more : (own : ℕ → Option HeaderView) (more less : List SnapPlace) → AreMoreOf more less → (site : SiteId) (o : Op) (a : Answer)
    → AreMoreOf (childless_by own more site o a) (childless_by own less site o a)
childless_more own more less l site (op.Children (child.List parent snap)) (answer.Ids []) = listed_more (lists_unprotecting (own parent) snap) (record { site = site; image = parent; snap = snap }) more less l
childless_more own more less l site (op.Header image (header.SnapStatus snap status)) answer.Done = left_more_of (λ p. not (is_snap site image snap p)) more less l
childless_more own more less l site (op.Header image header.Remove) answer.Done = left_more_of (λ p. not (is_at site image p.site p.image)) more less l
childless_more own more less l site _ _ = l

-- ---- all of these lists

-- the lists of what isn't the request's own
record Lists : Type 0 where
  pub seen : List HeaderSeen
  pub told : List ObjectTold
  pub linked : List ChildLink
  pub based : List ChildBase
  pub childless : List SnapPlace

record AreListsAtLeast (more less : Lists) : Type 0 where
  pub seen : AreMoreOf more.seen less.seen
  pub told : AreMoreOf more.told less.told
  pub linked : AreMoreOf more.linked less.linked
  pub based : AreMoreOf more.based less.based
  pub childless : AreMoreOf more.childless less.childless

abbrev with_lists : Lists → Knowledge → Knowledge
with_lists lists k = record k { seen = lists.seen; told = lists.told; linked = lists.linked; based = lists.based; childless = lists.childless }

abbrev lists_by : Knowledge → SiteId → Op → Answer → Lists
lists_by k site o a = record {
  seen = seen_by k.seen site o a;
  told = told_by k.seen k.told site o a;
  linked = linked_by k.linked site o a;
  based = based_by k.linked k.based site o a;
  childless = childless_by (λ image. header_alone (own_of k.owns site image)) k.childless site o a;
}

-- the same, with these lists
telling : (more less : Knowledge) → KnowsAtLeast more less → (a b : Lists) → AreListsAtLeast a b → KnowsAtLeast (with_lists a more) (with_lists b less)
telling more less l a b lists = record {
  sharing = l.sharing;
  owns = l.owns;
  turn = l.turn;
  fenced = l.fenced;
  drawn = l.drawn;
  maps = l.maps;
  objects = l.objects;
  gone = l.gone;
  seen = lists.seen;
  told = lists.told;
  linked = lists.linked;
  based = lists.based;
  childless = lists.childless;
}

-- ---- what it learns

module _ (more less : Knowledge) (l : KnowsAtLeast more less) (site : SiteId) where
  with_maps_more : (image : ℕ) (change : MapsKnown → MapsKnown) → ((m n : MapsKnown) → AreMapsAtLeast m n → AreMapsAtLeast (change m) (change n))
      → KnowsAtLeast (with_maps site image change more) (with_maps site image change less)
  with_maps_more image change goes = record {
    sharing = l.sharing;
    owns = l.owns;
    turn = l.turn;
    fenced = l.fenced;
    drawn = l.drawn;
    maps = λ there place.
        maps_more (change (maps_of more.maps site image)) (change (maps_of less.maps site image)) more.maps less.maps site image there place
        (goes (maps_of more.maps site image) (maps_of less.maps site image) (l.maps site image)) (l.maps there place);
    objects = l.objects;
    gone = l.gone;
    seen = l.seen;
    told = l.told;
    linked = l.linked;
    based = l.based;
    childless = l.childless;
  }

  map_more : (image : ℕ) (o : MapOp) (a : Answer) → KnowsAtLeast (learned_of_map more site image o a) (learned_of_map less site image o a)
  map_more image (states.Resize count) answer.Done =
      with_maps_more image (λ m. record { raised = m.raised; states = None; count = Some count; put = None }) (λ m n at. record { raised = at.raised; states = tt; count = refl; put = tt })
  map_more image (states.Get None) (answer.Bits bits) = with_maps_more image (λ m. record m { states = Some (states_of bits (4 * length bits)) }) (λ m n at. record { raised = at.raised; states = refl; count = at.count; put = at.put })
  map_more image (states.Put (Some snap) bits) answer.Done =
      with_maps_more image (λ m. record m { raised = marks_apart (Some snap) m.raised; put = Some snap })
      (λ m n at. record { raised = apart_more (Some snap) m.raised n.raised at.raised; states = at.states; count = at.count; put = refl })
  map_more image (states.Set view object state) answer.Done =
      with_maps_more image (λ m. record {
        raised = marks_after view object state m.raised;
        states = states_set view object state m.states;
        count = m.count;
        put = None;
      })
      (λ m n at. record { raised = marks_more view object state m.raised n.raised at.raised; states = set view m n at; count = at.count; put = tt })
    where
      set : (view : Option ℕ) (m n : MapsKnown) → AreMapsAtLeast m n → IsToldToo (states_set view object state m.states) (states_set view object state n.states)
      set None m n at = told_mapped (λ s. slice_set s object state) m.states n.states at.states
      set (Some snap) m n at = at.states
  map_more image (states.Remove view) answer.Done = with_maps_more image (λ m. unmapped) (λ m n at. maps_themselves unmapped)
  map_more image _ _ = l

  with_objects_more : (image : ℕ) (change : ObjectsKnown → ObjectsKnown) → ((o p : ObjectsKnown) → AreObjectsAtLeast o p → AreObjectsAtLeast (change o) (change p))
      → KnowsAtLeast (with_objects site image change more) (with_objects site image change less)
  with_objects_more image change goes = record {
    sharing = l.sharing;
    owns = l.owns;
    turn = l.turn;
    fenced = l.fenced;
    drawn = l.drawn;
    maps = l.maps;
    objects = λ there place. by there place (is_at there place site image);
    gone = l.gone;
    seen = l.seen;
    told = l.told;
    linked = l.linked;
    based = l.based;
    childless = l.childless;
  }
    where
      by : (there : SiteId) (place : ℕ) (b : Bool)
          → AreObjectsAtLeast (cond b (change (objects_known_of more.objects site image)) (objects_known_of more.objects there place))
          (cond b (change (objects_known_of less.objects site image)) (objects_known_of less.objects there place))
      by there place true = goes (objects_known_of more.objects site image) (objects_known_of less.objects site image) (l.objects site image)
      by there place false = l.objects there place

  object_more : (image number : ℕ) (o : DataOp) (a : Answer) → KnowsAtLeast (learned_of_object more site image number o a) (learned_of_object less site image number o a)
  object_more image number (object.Read snap parts) a =
      subst (λ counts. KnowsAtLeast (with_objects_where counts site image (found number) more) (with_objects_where (knows_head less site image number snap a) site image (found number) less))
      (sym heads) (by (knows_head less site image number snap a))
    where
      by : (counts : Bool) → KnowsAtLeast (with_objects_where counts site image (found number) more) (with_objects_where counts site image (found number) less)
      by true = with_objects_more image (found number) (λ o p at. found_more o p at number)
      by false = l

      heads : knows_head more site image number snap a ≡ knows_head less site image number snap a
      heads = ap (λ owns. shows_head a snap && keeps_object (own_of owns site image) more.turn number) l.owns
          ∙ ap (λ turn. shows_head a snap && keeps_object (own_of less.owns site image) turn number) l.turn
  object_more image number (object.Write context must parts bytes) answer.Done = with_objects_more image (made number) (λ o p at. made_object_more o p at number)
  object_more image number (object.WriteFull context bytes) answer.Done = with_objects_more image (made number) (λ o p at. made_object_more o p at number)
  object_more image number (object.CopyUp bytes) answer.Done = with_objects_more image (made number) (λ o p at. made_object_more o p at number)
  object_more image number (object.CopyUp bytes) answer.Exists = with_objects_more image (found number) (λ o p at. found_more o p at number)
  object_more image number (object.Zero context must parts) answer.Done =
      with_objects_more image (λ o. blanked number (Some parts) (found_where must number o))
      (λ o p at. blanked_more (found_where must number o) (found_where must number p) (found_where_more o p at number must) number (Some parts))
  object_more image number (object.Empty context) answer.Done =
      with_objects_more image (λ o. blanked number None (made number o)) (λ o p at. blanked_more (made number o) (made number p) (made_object_more o p at number) number None)
  object_more image number (object.Remove context) answer.Done = with_objects_more image (removed number) (λ o p at. removed_more o p at number)
  object_more image number _ _ = l

  directory_more : (o : DirectoryOp) (a : Answer) → KnowsAtLeast (learned_of_directory more site o a) (learned_of_directory less site o a)
  directory_more (directory.Add name) (answer.Id image) = record {
    sharing = l.sharing;
    owns = l.owns;
    turn = l.turn;
    fenced = l.fenced;
    drawn = λ there place. drawn_cons site there image place more.drawn less.drawn (l.drawn there place) (is_at there place site image);
    maps = λ there place. maps_more unmapped unmapped more.maps less.maps site image there place (maps_themselves unmapped) (l.maps there place);
    objects = l.objects;
    gone = l.gone;
    seen = l.seen;
    told = l.told;
    linked = l.linked;
    based = l.based;
    childless = l.childless;
  }
  directory_more _ _ = l

  listing_more : (i : Instance) (a : Answer) → KnowsAtLeast (learned_of_listing more site i a) (learned_of_listing less site i a)
  listing_more i answer.Done = record {
    sharing = l.sharing;
    owns = l.owns;
    turn = l.turn;
    fenced = ap (λ (fenced : List Fence). record { site = site; instance = i } ∷ fenced) l.fenced;
    drawn = l.drawn;
    maps = l.maps;
    objects = l.objects;
    gone = l.gone;
    seen = l.seen;
    told = l.told;
    linked = l.linked;
    based = l.based;
    childless = l.childless;
  }
  listing_more i _ = l

  -- a fence that was used
  unfenced_more : (owner : Instance) → KnowsAtLeast (without_fence site owner more) (without_fence site owner less)
  unfenced_more owner = record {
    sharing = l.sharing;
    owns = l.owns;
    turn = l.turn;
    fenced = ap (unfenced site owner) l.fenced;
    drawn = l.drawn;
    maps = l.maps;
    objects = l.objects;
    gone = l.gone;
    seen = l.seen;
    told = l.told;
    linked = l.linked;
    based = l.based;
    childless = l.childless;
  }

  told_more : (image : ℕ) (change : Option HeaderView → Option HeaderView) → KnowsAtLeast (header_told site image change more) (header_told site image change less)
  told_more image change = record {
    sharing = l.sharing;
    owns = ap (λ owns. map_told owns) l.owns;
    turn = l.turn;
    fenced = l.fenced;
    drawn = l.drawn;
    maps = l.maps;
    objects = l.objects;
    gone = l.gone;
    seen = l.seen;
    told = l.told;
    linked = l.linked;
    based = l.based;
    childless = l.childless;
  }
    where
      map_told : List Own → List Own
      map_told owns = (header_told site image change (record more { owns = owns })).owns

  made_more : (image : ℕ) → KnowsAtLeast (without_drawn site image more) (without_drawn site image less)
  made_more image = record {
    sharing = l.sharing;
    owns = l.owns;
    turn = l.turn;
    fenced = l.fenced;
    drawn = λ there place. drawn_less site there image place more.drawn less.drawn (l.drawn there place);
    maps = l.maps;
    objects = l.objects;
    gone = l.gone;
    seen = l.seen;
    told = l.told;
    linked = l.linked;
    based = l.based;
    childless = l.childless;
  }

  removed_header_more : (image : ℕ) → KnowsAtLeast (removed_header site image more) (removed_header site image less)
  removed_header_more image = record {
    sharing = l.sharing;
    owns = ap (owns_without site image) l.owns;
    turn = l.turn;
    fenced = l.fenced;
    drawn = l.drawn;
    maps = λ there place. maps_more only_there only_there more.maps less.maps site image there place (maps_themselves only_there) (l.maps there place);
    objects = l.objects;
    gone = λ there place. drawn_cons site there image place more.gone less.gone (l.gone there place) (is_at there place site image);
    seen = l.seen;
    told = l.told;
    linked = l.linked;
    based = l.based;
    childless = l.childless;
  }

  afresh_more : (image : ℕ) → KnowsAtLeast (afresh site image more) (afresh site image less)
  afresh_more image = record {
    sharing = l.sharing;
    owns = l.owns;
    turn = refl;
    fenced = l.fenced;
    drawn = l.drawn;
    maps = λ there place.
        maps_more unmapped unmapped (unmarked more.maps) (unmarked less.maps) site image there place (maps_themselves unmapped) (unmarked_more more.maps less.maps there place (l.maps there place));
    objects = λ there place. objects_themselves (objects_known_of [] there place);
    gone = l.gone;
    seen = l.seen;
    told = l.told;
    linked = l.linked;
    based = l.based;
    childless = l.childless;
  }

  looked_more : (image : ℕ) → KnowsAtLeast (looked_behind site image more) (looked_behind site image less)
  looked_more image =
      subst (λ o. KnowsAtLeast (looked_under_lock o site image more) (looked_behind site image less)) (sym (ap (λ owns. own_of owns site image) l.owns)) (by (own_of less.owns site image))
    where
      of : (header : Option HeaderView) → KnowsAtLeast (looked_by header site image more) (looked_by header site image less)
      of None = afresh_more image
      of (Some h) = l

      by : (o : Option Own) → KnowsAtLeast (looked_under_lock o site image more) (looked_under_lock o site image less)
      by None = l
      by (Some o) = of o.header

module _ (more less : Knowledge) (l : KnowsAtLeast more less) (site : SiteId) where
  header_more : (image : ℕ) (o : HeaderOp) (a : Answer) → KnowsAtLeast (learned_of_header more site image o a) (learned_of_header less site image o a)
  header_more image header.Get (answer.Header h) =
      told_more (looked_behind site image more) (looked_behind site image less) (looked_more more less l site image) site image (first_told h)
  header_more image (header.Create view) answer.Done = made_more more less l site image
  header_more image (header.SetSize to) answer.Done = told_more more less l site image _
  header_more image header.Remove answer.Done = removed_header_more more less l site image
  header_more image (header.SnapAdd name) (answer.Snap snap) = told_more more less l site image _
  header_more image (header.SnapRemove snap) answer.Done = told_more more less l site image _
  header_more image header.Detach answer.Done =
      told_more (with_objects site image without_there more) (with_objects site image without_there less) (with_objects_more more less l site image without_there without_there_more) site image _
  header_more image (header.SnapStatus snap status) answer.Done = told_more more less l site image _
  header_more image (header.LockBreak owner) answer.Done = unfenced_more more less l site owner
  header_more image (header.LockBreak owner) answer.Changed = unfenced_more more less l site owner
  header_more image _ _ = l

  own_more : (o : Op) (a : Answer) → KnowsAtLeast (learned_own more site o a) (learned_own less site o a)
  own_more (op.Directory o) a = directory_more more less l site o a
  own_more (op.Header image o) a = header_more image o a
  own_more (op.Data image number o) a = object_more more less l site image number o a
  own_more (op.BlockAdd i) a = listing_more more less l site i a
  own_more (op.Map image o) a = map_more more less l site image o a
  own_more _ a = l

  pub learned_more : (o : Op) (a : Answer) → KnowsAtLeast (learned more site o a) (learned less site o a)
  learned_more o a = telling (learned_own more site o a) (learned_own less site o a) (own_more o a) (lists_by more site o a) (lists_by less site o a) (record {
    seen = seen_more more.seen less.seen l.seen site o a;
    told = lists_told more.seen less.seen l.seen more.told less.told l.told site o a;
    linked = linked_more more.linked less.linked l.linked site o a;
    based = based_more more.linked less.linked l.linked more.based less.based l.based site o a;
    childless = subst (λ owns. AreMoreOf (childless_by (λ image. header_alone (own_of owns site image)) more.childless site o a) (childless_by (λ image. header_alone (own_of less.owns site image)) less.childless site o a)) (sym l.owns)
        (childless_more (λ image. header_alone (own_of less.owns site image)) more.childless less.childless l.childless site o a);
  })

-- ---- what it waits for

module _ (more less : Knowledge) (l : KnowsAtLeast more less) where
  held_more : (site : SiteId) (image : ℕ) → owns_when_held more site image ≡ owns_when_held less site image
  held_more site image =
      ap (λ sharing. record { site = site; image = image; sharing = sharing; header = None } ∷ owns_without site image more.owns) l.sharing
      ∙ ap (λ owns. record { site = site; image = image; sharing = less.sharing; header = None } ∷ owns_without site image owns) l.owns

  turned_more : (turn : Option ℕ) → KnowsAtLeast (record more { turn = turn; maps = unmarked more.maps; objects = [] }) (record less { turn = turn; maps = unmarked less.maps; objects = [] })
  turned_more turn = record {
    sharing = l.sharing;
    owns = l.owns;
    turn = refl;
    fenced = l.fenced;
    drawn = l.drawn;
    maps = λ site image. unmarked_more more.maps less.maps site image (l.maps site image);
    objects = λ site image. objects_themselves (objects_known_of [] site image);
    gone = l.gone;
    seen = l.seen;
    told = l.told;
    linked = l.linked;
    based = l.based;
    childless = l.childless;
  }

  pub waited_more : (w : Wait) → KnowsAtLeast (known_after_wait more w) (known_after_wait less w)
  waited_more (wait.Join site image sharing) = record {
    sharing = refl;
    owns = l.owns;
    turn = l.turn;
    fenced = l.fenced;
    drawn = l.drawn;
    maps = l.maps;
    objects = l.objects;
    gone = l.gone;
    seen = l.seen;
    told = l.told;
    linked = l.linked;
    based = l.based;
    childless = l.childless;
  }
  waited_more (wait.Hold site image) = record {
    sharing = l.sharing;
    owns = held_more site image;
    turn = l.turn;
    fenced = l.fenced;
    drawn = l.drawn;
    maps = l.maps;
    objects = λ there place. objects_themselves (objects_known_of [] there place);
    gone = l.gone;
    seen = l.seen;
    told = l.told;
    linked = l.linked;
    based = l.based;
    childless = left_more_of (λ p. not (is_at site image p.site p.image)) more.childless less.childless l.childless;
  }
  waited_more (wait.Turn object) = turned_more (Some object)
  waited_more (wait.Applied site image) = turned_more None
  waited_more (wait.Leave site image) = record {
    sharing = l.sharing;
    owns = ap (owns_without site image) l.owns;
    turn = l.turn;
    fenced = l.fenced;
    drawn = l.drawn;
    maps = l.maps;
    objects = l.objects;
    gone = l.gone;
    seen = l.seen;
    told = l.told;
    linked = l.linked;
    based = l.based;
    childless = left_more_of (λ p. not (is_at site image p.site p.image)) more.childless less.childless l.childless;
  }

-- ---- what it may do

module _ (more less : Knowledge) (l : KnowsAtLeast more less) (site : SiteId) where
  owns_more : (image : ℕ) (needs has : Sharing → HeaderView → Type 0) → ((sharing : Sharing) (h : HeaderView) → has sharing h → needs sharing h) → OwnsBy less site image has → OwnsBy more site image needs
  owns_more image needs has goes owns = record {
    sharing = owns.sharing;
    header = owns.header;
    is = ap (λ owns. own_of owns site image) l.owns ∙ owns.is;
    meets = goes owns.sharing owns.header owns.meets;
  }

  alone_more : (image : ℕ) (needs has : HeaderView → Type 0) → ((h : HeaderView) → has h → needs h) → OwnsAlone less site image has → OwnsAlone more site image needs
  alone_more image needs has goes owns =
      owns_more image (λ sharing h. (sharing ≡ Alone) × needs h) (λ sharing h. (sharing ≡ Alone) × has h) (λ sharing h may. (may.0, goes h may.1)) owns

  turn_more : (alone : Bool) (number : ℕ) → HasTurn alone less.turn number → HasTurn alone more.turn number
  turn_more alone number has = subst (λ turn. HasTurn alone turn number) (sym l.turn) has

  over_more : (image : ℕ) → IsLeftOver less site image → IsLeftOver more site image
  over_more image over = record { gone = l.gone site image over.gone; unowned = ap (λ owns. own_of owns site image) l.owns ∙ over.unowned }

  mapped_more : (image : ℕ) (layout : Layout) (size : ℕ) → IsMappedFor (maps_of less.maps site image) layout size → IsMappedFor (maps_of more.maps site image) layout size
  mapped_more image layout size mapped = record {
    count = mapped.count;
    known = told_is (maps_of more.maps site image).count (maps_of less.maps site image).count (l.maps site image).count mapped.count mapped.known;
    room = mapped.room;
  }

  size_more : (image to : ℕ) (h : HeaderView)
      → MaySize (maps_of less.maps site image) (objects_known_of less.objects site image) to h → MaySize (maps_of more.maps site image) (objects_known_of more.objects site image) to h
  size_more image to h may = record {
    few = may.few;
    mapped = λ grows. mapped_more image h.layout to (may.mapped grows);
    zeroed = λ x from within. by x (may.zeroed x from within);
  }
    where
      by : (x : ℕ) → IsZeroByState (maps_of less.maps site image) h x ⊎ IsZeroByChange (objects_known_of less.objects site image) h x
          → IsZeroByState (maps_of more.maps site image) h x ⊎ IsZeroByChange (objects_known_of more.objects site image) h x
      by x (inl none) = inl (record {
        states = none.states;
        told = told_is (maps_of more.maps site image).states (maps_of less.maps site image).states (l.maps site image).states none.states none.told;
        none = none.none;
      })
      by x (inr blank) = inr ((l.objects site image).blank (object_of h.layout x) x blank)

  make_more : (image : ℕ) (view : HeaderView) → MayMake less site image view → MayMake more site image view
  make_more image view may = record {
    drawn = l.drawn site image may.drawn;
    new = may.new;
    no_parent = may.no_parent;
    no_journal = may.no_journal;
    mapped = mapped_more image view.layout view.size may.mapped;
  }

  take_more : (image : ℕ) (name : List ℕ) (h : HeaderView) → MayTakeSnap (maps_of less.maps site image) name h → MayTakeSnap (maps_of more.maps site image) name h
  take_more image name h may = record {
    unlisted = may.unlisted;
    has_room = may.has_room;
    put = told_is (maps_of more.maps site image).put (maps_of less.maps site image).put (l.maps site image).put _ may.put;
  }

  raised_more : (image number : ℕ) → is_raised None number (maps_of less.maps site image).raised ≡ true → is_raised None number (maps_of more.maps site image).raised ≡ true
  raised_more image number raised = (l.maps site image).raised None number raised

  may_on_directory : (o : DirectoryOp) → PermitsOnDirectory less site o → PermitsOnDirectory more site o
  may_on_directory (directory.Find name) may = tt
  may_on_directory (directory.Add name) may = tt
  may_on_directory (directory.Rename from to) may = tt
  may_on_directory (directory.Remove image) may = alone_more image _ _ (λ h has. has) may
  may_on_directory directory.List may = tt

  may_unlink : (parent snap image : ℕ) → MayUnlink less site parent snap image → MayUnlink more site parent snap image
  may_unlink parent snap image (inl makes) = inl (l.drawn site image makes)
  may_unlink parent snap image (inr (inl gone)) = inr (inl (l.gone site image gone))
  may_unlink parent snap image (inr (inr owns)) = inr (inr (owns_more image _ _ (λ sharing h has. has) owns))

  may_on_children : (o : ChildrenOp) → PermitsOnChildren less site o → PermitsOnChildren more site o
  may_on_children (child.Add parent snap image) may = l.drawn site image may
  may_on_children (child.Remove parent snap image) may = may_unlink parent snap image may
  may_on_children (child.List parent snap) may = tt

  may_on_header : (image : ℕ) (o : HeaderOp) → PermitsOnHeader less site image o → PermitsOnHeader more site image o
  may_on_header image header.Get may = tt
  may_on_header image (header.Create view) may = make_more image view may
  may_on_header image (header.SetSize to) may = alone_more image _ _ (size_more image to) may
  may_on_header image header.Remove may = alone_more image _ _ (λ h has. has) may
  may_on_header image (header.SnapAdd name) may = alone_more image _ _ (take_more image name) may
  may_on_header image (header.SnapRemove snap) may = alone_more image _ _ (λ h has. has) may
  may_on_header image (header.SnapStatus snap status) may =
      alone_more image _ _ (λ h has. record { view = has.view; listed = has.listed; frees = λ free. l.childless _ (has.frees free) }) may
  may_on_header image header.LockTake may = tt
  may_on_header image header.LockDrop may = record { is = ap (λ owns. own_of owns site image) l.owns ∙ may.is }
  may_on_header image (header.LockBreak owner) may = ap (λ fenced. is_fenced_by fenced site owner) l.fenced ∙ may
  may_on_header image header.Watch may = tt
  may_on_header image header.Unwatch may = tt
  may_on_header image header.WatchersGet may = tt
  may_on_header image (header.Notify kind) may = tt
  may_on_header image _ may = elim may [ ]

  may_on_object : (image number : ℕ) (o : DataOp) → PermitsOnObject less site image number o → PermitsOnObject more site image number o
  may_on_object image number (object.Read snap parts) may = tt
  may_on_object image number (object.Write context must parts bytes) may =
      owns_more image _ _ (λ sharing h has. record {
        under = has.under;
        within = has.within;
        long = has.long;
        at_turn = turn_more (is_alone sharing) number has.at_turn;
        raised = raised_more image number has.raised;
      }) may
  may_on_object image number (object.Zero context must parts) may =
      owns_more image _ _ (λ sharing h has. record { under = has.under; within = has.within; at_turn = turn_more (is_alone sharing) number has.at_turn; zeros = has.zeros }) may
  may_on_object image number (object.Empty context) may =
      owns_more image _ _ (λ sharing h has. record {
        under = has.under;
        within = has.within;
        at_turn = turn_more (is_alone sharing) number has.at_turn;
        raised = raised_more image number has.raised;
        zeros = has.zeros;
      }) may
  may_on_object image number (object.Remove context) (inl over) = inl (over_more image over)
  may_on_object image number (object.Remove context) (inr may) =
      inr (owns_more image _ _ (λ sharing h has. record {
        under = has.under;
        within = has.within;
        at_turn = turn_more (is_alone sharing) number has.at_turn;
        zeros = has.zeros;
        outside = has.outside;
      }) may)
  may_on_object image number (object.WriteFull context bytes) may =
      owns_more image _ _ (λ sharing h has. record {
        under = has.under;
        within = has.within;
        at_turn = turn_more (is_alone sharing) number has.at_turn;
        raised = raised_more image number has.raised;
        long = has.long;
        clear = has.clear;
      }) may
  may_on_object image number (object.CopyUp bytes) may = absurd may

  may_on_map : (image : ℕ) (o : MapOp) → PermitsOnMap less site image o → PermitsOnMap more site image o
  may_on_map image (states.Resize count) (inl may) = inl (record { drawn = l.drawn site image may.drawn; few = may.few })
  may_on_map image (states.Resize count) (inr may) = inr (alone_more image _ _ (λ h has. has) may)
  may_on_map image (states.Get view) may = tt
  may_on_map image (states.Put (Some snap) bits) may =
      alone_more image _ _ (λ h has. record {
        next = has.next;
        told = told_is (maps_of more.maps site image).states (maps_of less.maps site image).states (l.maps site image).states _ has.told;
        hold = has.hold;
      }) may
  may_on_map image (states.Set None object state) may =
      owns_more image _ _ (λ sharing h has. record {
        within = has.within;
        at_turn = turn_more (is_alone sharing) object has.at_turn;
        is_state = has.is_state;
        lowers = λ zero. (l.objects site image).absent object (has.lowers zero);
        zeros = has.zeros;
      }) may
  may_on_map image (states.Remove None) may =
      (over_more image may.0, told_some (maps_of more.maps site image).count (maps_of less.maps site image).count (l.maps site image).count may.1)
  may_on_map image (states.Remove (Some snap)) (inl over) = inl (over_more image over)
  may_on_map image (states.Remove (Some snap)) (inr may) = inr (alone_more image _ _ (λ h has. has) may)
  may_on_map image _ may = elim may [ ]

  pub permits_more : (o : Op) → Permits less site o → Permits more site o
  permits_more (op.Directory o) may = may_on_directory o may
  permits_more (op.Children o) may = may_on_children o may
  permits_more (op.Header image o) may = may_on_header image o may
  permits_more (op.Data image number o) may = may_on_object image number o may
  permits_more (op.BlockAdd i) may = tt
  permits_more (op.Map image o) may = may_on_map image o may
  permits_more _ may = elim may [ ]

-- ---- what of it isn't needed

when_stays : (told : List ObjectTold) (x : ObjectTold) (dated : Bool) (t : ObjectTold) → IsAmong t told → IsAmong t (told_when dated x told)
when_stays told x true t among = inr among
when_stays told x false t among = among

seen_stays : (seen : List HeaderSeen) (site : SiteId) (o : Op) (a : Answer) (s : HeaderSeen) → IsAmong s seen → IsAmong s (seen_by seen site o a)
seen_stays seen site (op.Header image header.Get) (answer.Header h) s among = inr among
seen_stays seen site _ _ s among = among

told_stays : (seen : List HeaderSeen) (told : List ObjectTold) (site : SiteId) (o : Op) (a : Answer) (t : ObjectTold) → IsAmong t told → IsAmong t (told_by seen told site o a)
told_stays seen told site (op.Data image number (object.Read (Some snap) parts)) (answer.Bytes bytes) t among = when_stays told _ (is_dated seen site image snap) t among
told_stays seen told site (op.Data image number (object.Read (Some snap) parts)) answer.Absent t among = when_stays told _ (is_dated seen site image snap) t among
told_stays seen told site _ _ t among = among

-- what is known of the request's own is no header and no snapshot of another's, and no child
abbrev pub ToldAsBefore : Knowledge → Knowledge → Type 0
ToldAsBefore k own = (own.seen ≡ k.seen) × (own.told ≡ k.told) × (own.linked ≡ k.linked) × (own.based ≡ k.based) × (own.childless ≡ k.childless)

looked_as_before : (k : Knowledge) (site : SiteId) (image : ℕ) → ToldAsBefore k (looked_behind site image k)
looked_as_before k site image = by (own_of k.owns site image)
  where
    of : (header : Option HeaderView) → ToldAsBefore k (looked_by header site image k)
    of None = (refl, refl, refl, refl, refl)
    of (Some h) = (refl, refl, refl, refl, refl)

    by : (o : Option Own) → ToldAsBefore k (looked_under_lock o site image k)
    by None = (refl, refl, refl, refl, refl)
    by (Some o) = of o.header

map_as_before : (k : Knowledge) (site : SiteId) (image : ℕ) (o : MapOp) (a : Answer) → ToldAsBefore k (learned_of_map k site image o a)
map_as_before k site image (states.Resize count) answer.Done = (refl, refl, refl, refl, refl)
map_as_before k site image (states.Get None) (answer.Bits bits) = (refl, refl, refl, refl, refl)
map_as_before k site image (states.Put (Some snap) bits) answer.Done = (refl, refl, refl, refl, refl)
map_as_before k site image (states.Set view object state) answer.Done = (refl, refl, refl, refl, refl)
map_as_before k site image (states.Remove view) answer.Done = (refl, refl, refl, refl, refl)
map_as_before k site image _ _ = (refl, refl, refl, refl, refl)

object_as_before : (k : Knowledge) (site : SiteId) (image number : ℕ) (o : DataOp) (a : Answer) → ToldAsBefore k (learned_of_object k site image number o a)
object_as_before k site image number (object.Write context must parts bytes) answer.Done = (refl, refl, refl, refl, refl)
object_as_before k site image number (object.WriteFull context bytes) answer.Done = (refl, refl, refl, refl, refl)
object_as_before k site image number (object.Read snap parts) a = (refl, refl, refl, refl, refl)
object_as_before k site image number (object.CopyUp bytes) answer.Done = (refl, refl, refl, refl, refl)
object_as_before k site image number (object.CopyUp bytes) answer.Exists = (refl, refl, refl, refl, refl)
object_as_before k site image number (object.Zero context must parts) answer.Done = (refl, refl, refl, refl, refl)
object_as_before k site image number (object.Empty context) answer.Done = (refl, refl, refl, refl, refl)
object_as_before k site image number (object.Remove context) answer.Done = (refl, refl, refl, refl, refl)
object_as_before k site image number _ _ = (refl, refl, refl, refl, refl)

directory_as_before : (k : Knowledge) (site : SiteId) (o : DirectoryOp) (a : Answer) → ToldAsBefore k (learned_of_directory k site o a)
directory_as_before k site (directory.Add name) (answer.Id image) = (refl, refl, refl, refl, refl)
directory_as_before k site _ _ = (refl, refl, refl, refl, refl)

listing_as_before : (k : Knowledge) (site : SiteId) (i : Instance) (a : Answer) → ToldAsBefore k (learned_of_listing k site i a)
listing_as_before k site i answer.Done = (refl, refl, refl, refl, refl)
listing_as_before k site i _ = (refl, refl, refl, refl, refl)

header_as_before : (k : Knowledge) (site : SiteId) (image : ℕ) (o : HeaderOp) (a : Answer) → ToldAsBefore k (learned_of_header k site image o a)
header_as_before k site image header.Get (answer.Header h) = looked_as_before k site image
header_as_before k site image (header.Create view) answer.Done = (refl, refl, refl, refl, refl)
header_as_before k site image (header.SetSize to) answer.Done = (refl, refl, refl, refl, refl)
header_as_before k site image header.Remove answer.Done = (refl, refl, refl, refl, refl)
header_as_before k site image (header.SnapAdd name) (answer.Snap snap) = (refl, refl, refl, refl, refl)
header_as_before k site image (header.SnapRemove snap) answer.Done = (refl, refl, refl, refl, refl)
header_as_before k site image header.Detach answer.Done = (refl, refl, refl, refl, refl)
header_as_before k site image (header.SnapStatus snap status) answer.Done = (refl, refl, refl, refl, refl)
header_as_before k site image (header.LockBreak owner) answer.Done = (refl, refl, refl, refl, refl)
header_as_before k site image (header.LockBreak owner) answer.Changed = (refl, refl, refl, refl, refl)
header_as_before k site image _ _ = (refl, refl, refl, refl, refl)

-- what is its own adds nothing to what it was told of any image
pub own_as_before : (k : Knowledge) (site : SiteId) (o : Op) (a : Answer) → ToldAsBefore k (learned_own k site o a)
own_as_before k site (op.Directory o) a = directory_as_before k site o a
own_as_before k site (op.Header image o) a = header_as_before k site image o a
own_as_before k site (op.Data image number o) a = object_as_before k site image number o a
own_as_before k site (op.BlockAdd i) a = listing_as_before k site i a
own_as_before k site (op.Map image o) a = map_as_before k site image o a
own_as_before k site _ a = (refl, refl, refl, refl, refl)

-- A look takes away nothing of what is known of children.
linked_stays : (linked : List ChildLink) (site : SiteId) (o : Op) (a : Answer) → only_looks o ≡ true → AreMoreOf (linked_by linked site o a) linked
linked_stays linked site (op.Children (child.Add parent snap image)) a looks = absurd (true≢false (sym looks))
linked_stays linked site (op.Children (child.Remove parent snap image)) a looks = absurd (true≢false (sym looks))
linked_stays linked site (op.Children (child.List parent snap)) a looks = λ l among. among
linked_stays linked site (op.Header image (header.Create view)) a looks = absurd (true≢false (sym looks))
linked_stays linked site (op.Header image o) a looks = λ l among. among
linked_stays linked site o a looks = λ l among. among

based_stays : (linked : List ChildLink) (based : List ChildBase) (site : SiteId) (o : Op) (a : Answer) → only_looks o ≡ true → AreMoreOf (based_by linked based site o a) based
based_stays linked based site (op.Header image header.Get) (answer.Header h) looks = λ b among. base_stays linked site image h based b (inl among)
based_stays linked based site (op.Header image header.Get) _ looks = λ b among. among
based_stays linked based site (op.Children (child.Add parent snap image)) a looks = absurd (true≢false (sym looks))
based_stays linked based site (op.Children (child.Remove parent snap image)) a looks = absurd (true≢false (sym looks))
based_stays linked based site (op.Children (child.List parent snap)) a looks = λ b among. among
based_stays linked based site (op.Header image (header.Create view)) a looks = absurd (true≢false (sym looks))
based_stays linked based site (op.Header image o) a looks = λ b among. among
based_stays linked based site o a looks = λ b among. among

childless_stays : (own : ℕ → Option HeaderView) (childless : List SnapPlace) (site : SiteId) (o : Op) (a : Answer) → only_looks o ≡ true → AreMoreOf (childless_by own childless site o a) childless
childless_stays own childless site (op.Children (child.List parent snap)) (answer.Ids []) looks = counted (lists_unprotecting (own parent) snap)
  where
    counted : (counts : Bool) → AreMoreOf (with_childless counts (record { site = site; image = parent; snap = snap }) childless) childless
    counted true p among = inr among
    counted false p among = among
childless_stays own childless site (op.Children (child.List parent snap)) _ looks = λ p among. among
childless_stays own childless site (op.Children (child.Add parent snap image)) a looks = λ p among. among
childless_stays own childless site (op.Children (child.Remove parent snap image)) a looks = λ p among. among
childless_stays own childless site (op.Header image (header.SnapStatus snap status)) a looks = absurd (true≢false (sym looks))
childless_stays own childless site (op.Header image header.Remove) a looks = absurd (true≢false (sym looks))
childless_stays own childless site (op.Header image o) a looks = λ p among. among
childless_stays own childless site o a looks = λ p among. among

pub learned_at_least : (k : Knowledge) (site : SiteId) (o : Op) (a : Answer) → only_looks o ≡ true → KnowsAtLeast (learned k site o a) (learned_own k site o a)
learned_at_least k site o a looks =
    let own : Knowledge = learned_own k site o a in
    let before = own_as_before k site o a in
    telling own own (knows_itself own) (lists_by k site o a) (record { seen = own.seen; told = own.told; linked = own.linked; based = own.based; childless = own.childless }) (record {
      seen = λ s among. seen_stays k.seen site o a s (subst (IsAmong s) before.0 among);
      told = λ t among. told_stays k.seen k.told site o a t (subst (IsAmong t) before.1 among);
      linked = λ l among. linked_stays k.linked site o a looks l (subst (IsAmong l) before.2 among);
      based = λ b among. based_stays k.linked k.based site o a looks b (subst (IsAmong b) before.3 among);
      childless = λ p among. childless_stays (λ image. header_alone (own_of k.owns site image)) k.childless site o a looks p (subst (IsAmong p) before.4 among);
    })

-- ---- what it may be told

-- who knows less may be told all that the other may
module _ (more less : Knowledge) (l : KnowsAtLeast more less) (site : SiteId) where
  pub possible_less : (o : Op) (a : Answer) → IsPossible more site o a → IsPossible less site o a
  possible_less (op.Header image header.Get) (answer.Header h) possible = (
    λ was among. possible.0 was (l.seen (record { site = site; image = image; header = was }) among),
    subst (λ owns. IsOwnAgain (own_of owns site image) h) l.owns possible.1,
  )
  possible_less _ _ possible = tt

  can_less : (o : Op) (a : Answer) → CanTell more site o a → CanTell less site o a
  can_less o a can = record { word = can.word; form = can.form; standalone = can.standalone; possible = possible_less o a can.possible }

-- who finds that an object is there knows no less
found_itself : (number : ℕ) (o : ObjectsKnown) → AreObjectsAtLeast (found number o) o
found_itself number o = record { absent = λ object is. is; there = λ object is. by object (number == object) is; blank = λ object x is. is }
  where
    by : (object : ℕ) (b : Bool) → is_absent object o.there ≡ true → cond b true (is_absent object o.there) ≡ true
    by object true is = refl
    by object false is = is

found_at_least : (k : Knowledge) (site : SiteId) (image number : ℕ) → KnowsAtLeast (with_objects site image (found number) k) k
found_at_least k site image number = record {
  sharing = refl;
  owns = refl;
  turn = refl;
  fenced = refl;
  drawn = λ there place drawn. drawn;
  maps = λ there place. maps_themselves (maps_of k.maps there place);
  objects = λ there place. by there place (is_at there place site image) refl;
  gone = λ there place gone. gone;
  seen = λ s among. among;
  told = λ t among. among;
  linked = λ l among. among;
  based = λ b among. among;
  childless = λ p among. among;
}
  where
    known : ObjectsKnown
    known = found number (objects_known_of k.objects site image)

    same : (there : SiteId) (place : ℕ) → (site ≡ there) × (image ≡ place) → objects_known_of k.objects site image ≡ objects_known_of k.objects there place
    same there place is = ap (λ s. objects_known_of k.objects s image) is.0 ∙ ap (objects_known_of k.objects there) is.1

    by : (there : SiteId) (place : ℕ) (b : Bool) → is_at there place site image ≡ b → AreObjectsAtLeast (cond b known (objects_known_of k.objects there place)) (objects_known_of k.objects there place)
    by there place true is = subst (AreObjectsAtLeast known) (same there place (place_of there site place image is)) (found_itself number (objects_known_of k.objects site image))
    by there place false is = objects_themselves (objects_known_of k.objects there place)

-- and so whoever reads
pub read_at_least : (k : Knowledge) (site : SiteId) (image number : ℕ) (snap : Option ℕ) (parts : List Part) (a : Answer) → KnowsAtLeast (learned k site (op.Data image number (object.Read snap parts)) a) k
read_at_least k site image number snap parts a =
    let read = op.Data image number (object.Read snap parts) in
    knows_onward (learned k site read a) (learned_own k site read a) k (learned_at_least k site read a refl) (by (knows_head k site image number snap a))
  where
    by : (counts : Bool) → KnowsAtLeast (with_objects_where counts site image (found number) k) k
    by true = found_at_least k site image number
    by false = knows_itself k

-- ---- plans

pub lawful_by_more : (at : Label → Knowledge) (plan : Plan) (more less : Knowledge) → KnowsAtLeast more less → IsLawful at less plan → IsLawful at more plan
lawful_by_more at (Ask site why o next) more less l lawful = (
  permits_more more less l site o lawful.0,
  λ a can. lawful_by_more at (next a) (learned more site o a) (learned less site o a) (learned_more more less l site o a) (lawful.1 a (can_less more less l site o a can)),
)
lawful_by_more at (Await w next) more less l lawful = lawful_by_more at next (known_after_wait more w) (known_after_wait less w) (waited_more more less l w) lawful
lawful_by_more at (Note site image event next) more less l lawful = lawful_by_more at next more less l lawful
lawful_by_more at (Return reply) more less l lawful = tt
lawful_by_more at (Goto label) more less l lawful = (lawful.0, knows_onward more less (at label) l lawful.1)

-- a request that goes to a label knows there what is known there
pub jump_lawful : (at : Label → Knowledge) (label : Label) → IsFit label → IsLawful at (at label) (Goto label)
jump_lawful at label fit = (fit, knows_itself (at label))
