-- Snapshots looked up by id, in a header's list and in a flat image's.
use Rattle.std.proofs.Common.{◌≡◌, ◌≢◌, ℕ, Bool, true, false, cond, eqb, not, ◌⊎◌, inl, inr, List, [], ◌∷◌, ◌++◌, filter, map, Option, Some, None, option_map, refl, sym, ◌∙◌, ap}
use Rattle.std.proofs.lemmas.Bool.{eqb-true, eq-eqb, ne_eqb, true≢false}
use Rattle.std.proofs.lemmas.Option.{none-some, same_Some}
use Rattle.rbd_kinds.specs.declared.header.SnapView.{SnapView}
use Rattle.rbd_kinds.specs.declared.header.SnapStatus.{SnapStatus}
use Rattle.rbd_kinds.proofs.Plain.{cond_same}
use Rattle.rbd_header.specs.Header.{snap_in, status_marked}
use Rattle.rbd_header.proofs.Changed.{marked_id}
use Rattle.rbd_flat.specs.Flat.{FlatSnap}
use Rattle.rbd_flat.specs.Flat as flat
use Rattle.rbd_stands.specs.View.{shape_of_snap}
use Rattle.rbd_stands.specs.Image.{SnapLine, line_of_snap, line_of_flat}

-- ---- options and tests

pub no_value : {X Y : Type 0} (g : X → Y) (o : Option X) → option_map g o ≡ None → o ≡ None
no_value g None e = refl
no_value g (Some x) e = absurd (none-some (g x) (sym e))

pub a_value : {X Y : Type 0} (g : X → Y) (o : Option X) (y : Y) → option_map g o ≡ Some y → (x : X) × (o ≡ Some x) × (g x ≡ y)
a_value g None y e = absurd (none-some y e)
a_value g (Some x) y e = (x, refl, same_Some (g x) y e)

pub map_cond : {X Y : Type 0} (g : X → Y) (b : Bool) (x : X) (o : Option X) → option_map g (cond b (Some x) o) ≡ cond b (Some (g x)) (option_map g o)
map_cond g true x o = refl
map_cond g false x o = refl

-- what stays where another thing goes
pub unless : {X : Type 0} (b : Bool) (o : Option X) (x : X) → (b ≡ true → ⊥) → o ≡ Some x → cond b None o ≡ Some x
unless true o x not_this is = absurd (not_this refl)
unless false o x not_this is = is

-- ---- what both tell of a snapshot

line_in : List SnapLine → ℕ → Option SnapLine
line_in [] t = None
line_in (l ∷ lines) t = cond (eqb l.id t) (Some l) (line_in lines t)

header_line : (snaps : List SnapView) (t : ℕ) → option_map line_of_snap (snap_in snaps t) ≡ line_in (map line_of_snap snaps) t
unfolding line_in
header_line [] t = refl
header_line (s ∷ snaps) t = map_cond line_of_snap (eqb s.id t) s (snap_in snaps t) ∙ ap (cond (eqb s.id t) (Some (line_of_snap s))) (header_line snaps t)

flat_line : (snaps : List FlatSnap) (t : ℕ) → option_map line_of_flat (flat.snap_in snaps t) ≡ line_in (map line_of_flat snaps) t
unfolding line_in
flat_line [] t = refl
flat_line (s ∷ snaps) t = map_cond line_of_flat (eqb s.id t) s (flat.snap_in snaps t) ∙ ap (cond (eqb s.id t) (Some (line_of_flat s))) (flat_line snaps t)

pub line_at : (hs : List SnapView) (fs : List FlatSnap) → map line_of_snap hs ≡ map line_of_flat fs → (t : ℕ)
    → option_map line_of_flat (flat.snap_in fs t) ≡ option_map line_of_snap (snap_in hs t)
line_at hs fs same t = flat_line fs t ∙ ap (λ lines. line_in lines t) (sym same) ∙ sym (header_line hs t)

pub flat_there : (hs : List SnapView) (fs : List FlatSnap) → map line_of_snap hs ≡ map line_of_flat fs → (t : ℕ) (s : SnapView)
    → snap_in hs t ≡ Some s → (u : FlatSnap) × (flat.snap_in fs t ≡ Some u)
flat_there hs fs same t s is =
    let found = a_value line_of_flat (flat.snap_in fs t) (line_of_snap s) (line_at hs fs same t ∙ ap (option_map line_of_snap) is) in
    (found.0, found.1)

pub flat_missing : (hs : List SnapView) (fs : List FlatSnap) → map line_of_snap hs ≡ map line_of_flat fs → (t : ℕ)
    → snap_in hs t ≡ None → flat.snap_in fs t ≡ None
flat_missing hs fs same t none = no_value line_of_flat (flat.snap_in fs t) (line_at hs fs same t ∙ ap (option_map line_of_snap) none)

-- ---- one more at the end

or_else : {X : Type 0} → Option X → Option X → Option X
or_else None p = p
or_else (Some x) p = Some x

cond_or_else : {X : Type 0} (b : Bool) (x : X) (o p : Option X) → cond b (Some x) (or_else o p) ≡ or_else (cond b (Some x) o) p
unfolding or_else
cond_or_else true x o p = refl
cond_or_else false x o p = refl

header_push : (snaps : List SnapView) (s : SnapView) (t : ℕ) → snap_in (snaps ++ s ∷ []) t ≡ or_else (snap_in snaps t) (cond (eqb s.id t) (Some s) None)
unfolding or_else
header_push [] s t = refl
header_push (u ∷ snaps) s t = ap (cond (eqb u.id t) (Some u)) (header_push snaps s t) ∙ cond_or_else (eqb u.id t) u (snap_in snaps t) (cond (eqb s.id t) (Some s) None)

flat_push : (snaps : List FlatSnap) (s : FlatSnap) (t : ℕ) → flat.snap_in (snaps ++ s ∷ []) t ≡ or_else (flat.snap_in snaps t) (cond (eqb s.id t) (Some s) None)
unfolding or_else
flat_push [] s t = refl
flat_push (u ∷ snaps) s t = ap (cond (eqb u.id t) (Some u)) (flat_push snaps s t) ∙ cond_or_else (eqb u.id t) u (flat.snap_in snaps t) (cond (eqb s.id t) (Some s) None)

last_or_before : {X : Type 0} (o : Option X) (b : Bool) (s u : X) → or_else o (cond b (Some s) None) ≡ Some u → (o ≡ Some u) ⊎ ((o ≡ None) × (b ≡ true) × (s ≡ u))
unfolding or_else
last_or_before (Some x) b s u e = inl e
last_or_before None true s u e = inr (refl, refl, same_Some s u e)
last_or_before None false s u e = absurd (none-some u e)

-- what is found is an older one, or the last
pub older_or_last : (snaps : List SnapView) (s : SnapView) (t : ℕ) (u : SnapView) → snap_in (snaps ++ s ∷ []) t ≡ Some u
    → (snap_in snaps t ≡ Some u) ⊎ ((s.id ≡ t) × (s ≡ u))
older_or_last snaps s t u e = go (last_or_before (snap_in snaps t) (eqb s.id t) s u (sym (header_push snaps s t) ∙ e))
  where
    go : (snap_in snaps t ≡ Some u) ⊎ ((snap_in snaps t ≡ None) × (eqb s.id t ≡ true) × (s ≡ u)) → (snap_in snaps t ≡ Some u) ⊎ ((s.id ≡ t) × (s ≡ u))
    go (inl old) = inl old
    go (inr new) = inr (eqb-true s.id t new.1, new.2)

pub flat_older : (snaps : List FlatSnap) (s : FlatSnap) (t : ℕ) (u : FlatSnap) → flat.snap_in snaps t ≡ Some u → flat.snap_in (snaps ++ s ∷ []) t ≡ Some u
unfolding or_else
flat_older snaps s t u e = flat_push snaps s t ∙ ap (λ o. or_else o (cond (eqb s.id t) (Some s) None)) e

pub flat_last : (snaps : List FlatSnap) (s : FlatSnap) (t : ℕ) → flat.snap_in snaps t ≡ None → s.id ≡ t → flat.snap_in (snaps ++ s ∷ []) t ≡ Some s
unfolding or_else
flat_last snaps s t none e =
    flat_push snaps s t ∙ ap (λ o. or_else o (cond (eqb s.id t) (Some s) None)) none ∙ ap (λ b. cond b (Some s) None) (eq-eqb s.id t e)

-- ---- one taken away

filtered_first : {X Y : Type 0} (g : X → Y) (a b : Bool) (x : X) (xs : List X) (ys : List Y) → a ≡ b → map g xs ≡ ys → map g (cond a (x ∷ xs) xs) ≡ cond b (g x ∷ ys) ys
filtered_first g true true x xs ys e rest = ap (λ zs. g x ∷ zs) rest
filtered_first g true false x xs ys e rest = absurd (true≢false e)
filtered_first g false true x xs ys e rest = absurd (true≢false (sym e))
filtered_first g false false x xs ys e rest = rest

map_filter : {X Y : Type 0} (g : X → Y) (p : X → Bool) (q : Y → Bool) → ((x : X) → p x ≡ q (g x)) → (xs : List X) → map g (filter p xs) ≡ filter q (map g xs)
map_filter g p q same [] = refl
map_filter g p q same (x ∷ xs) = filtered_first g (p x) (q (g x)) x (filter p xs) (filter q (map g xs)) (same x) (map_filter g p q same xs)

pub lines_left : (snap : ℕ) (hs : List SnapView) (fs : List FlatSnap) → map line_of_snap hs ≡ map line_of_flat fs
    → map line_of_snap (filter (λ s. not (eqb s.id snap)) hs) ≡ map line_of_flat (filter (λ s. not (eqb s.id snap)) fs)
lines_left snap hs fs same =
    map_filter line_of_snap (λ s. not (eqb s.id snap)) (λ l. not (eqb l.id snap)) (λ s. refl) hs
    ∙ ap (filter (λ (l : SnapLine). not (eqb l.id snap))) same
    ∙ sym (map_filter line_of_flat (λ s. not (eqb s.id snap)) (λ l. not (eqb l.id snap)) (λ s. refl) fs)

-- a snapshot whose id is another one is found as before
kept_first : {X : Type 0} (b c : Bool) (x : X) (o p : Option X) → (b ≡ true → c ≡ false) → o ≡ p
    → cond (not c) (cond b (Some x) o) o ≡ cond b (Some x) p
kept_first true true x o p other e = absurd (true≢false (other refl))
kept_first true false x o p other e = refl
kept_first false true x o p other e = e
kept_first false false x o p other e = e

push_in : {X : Type 0} (look : List X → Option X) (b : Bool) (x : X) (xs : List X) → look (cond b (x ∷ xs) xs) ≡ cond b (look (x ∷ xs)) (look xs)
push_in look true x xs = refl
push_in look false x xs = refl

not_both : (a t snap : ℕ) → t ≢ snap → eqb a t ≡ true → eqb a snap ≡ false
not_both a t snap other e = ne_eqb a snap (λ same. other (sym (eqb-true a t e) ∙ same))

pub header_left : (snaps : List SnapView) (snap t : ℕ) → t ≢ snap → snap_in (filter (λ s. not (eqb s.id snap)) snaps) t ≡ snap_in snaps t
header_left [] snap t other = refl
header_left (s ∷ snaps) snap t other =
    push_in (λ xs. snap_in xs t) (not (eqb s.id snap)) s (filter (λ u. not (eqb u.id snap)) snaps)
    ∙ kept_first (eqb s.id t) (eqb s.id snap) s _ (snap_in snaps t) (not_both s.id t snap other) (header_left snaps snap t other)

pub flat_left : (snaps : List FlatSnap) (snap t : ℕ) → t ≢ snap → flat.snap_in (filter (λ s. not (eqb s.id snap)) snaps) t ≡ flat.snap_in snaps t
flat_left [] snap t other = refl
flat_left (s ∷ snaps) snap t other =
    push_in (λ xs. flat.snap_in xs t) (not (eqb s.id snap)) s (filter (λ u. not (eqb u.id snap)) snaps)
    ∙ kept_first (eqb s.id t) (eqb s.id snap) s _ (flat.snap_in snaps t) (not_both s.id t snap other) (flat_left snaps snap t other)

-- what was taken away isn't found
skipped_first : {X : Type 0} (b c : Bool) (x : X) (o : Option X) → (b ≡ c) → o ≡ None → cond (not c) (cond b (Some x) o) o ≡ None
skipped_first true true x o e none = none
skipped_first true false x o e none = absurd (true≢false e)
skipped_first false true x o e none = none
skipped_first false false x o e none = none

-- ---- one marked with a status

map_map : {X Y : Type 0} (g : X → Y) (p : X → X) (q : Y → Y) → ((x : X) → g (p x) ≡ q (g x)) → (xs : List X) → map g (map p xs) ≡ map q (map g xs)
map_map g p q same [] = refl
map_map g p q same (x ∷ xs) = ap (λ y. y ∷ map g (map p xs)) (same x) ∙ ap (λ ys. q (g x) ∷ ys) (map_map g p q same xs)

line_marked : ℕ → SnapStatus → SnapLine → SnapLine
line_marked t status l = cond (eqb l.id t) (record l { status = status }) l

apart : {X Y : Type 0} (g : X → Y) (b : Bool) (x y : X) → g (cond b x y) ≡ cond b (g x) (g y)
apart g true x y = refl
apart g false x y = refl

pub lines_marked : (t : ℕ) (status : SnapStatus) (hs : List SnapView) (fs : List FlatSnap) → map line_of_snap hs ≡ map line_of_flat fs
    → map line_of_snap (map (status_marked t status) hs) ≡ map line_of_flat (map (flat.with_status t status) fs)
unfolding line_marked
lines_marked t status hs fs same =
    map_map line_of_snap (status_marked t status) (line_marked t status) (λ s. apart line_of_snap (eqb s.id t) (record s { status = status }) s) hs
    ∙ ap (map (line_marked t status)) same
    ∙ sym (map_map line_of_flat (flat.with_status t status) (line_marked t status) (λ s. apart line_of_flat (eqb s.id t) (record s { status = status }) s) fs)

pub marked_shape : (t : ℕ) (status : SnapStatus) (s : SnapView) → shape_of_snap (status_marked t status s) ≡ shape_of_snap s
marked_shape t status s = apart shape_of_snap (eqb s.id t) (record s { status = status }) s ∙ cond_same (eqb s.id t) (shape_of_snap s)

flat_marked_id : (t : ℕ) (status : SnapStatus) (s : FlatSnap) → (flat.with_status t status s).id ≡ s.id
flat_marked_id t status s = apart (λ (u : FlatSnap). u.id) (eqb s.id t) (record s { status = status }) s ∙ cond_same (eqb s.id t) s.id

flat_marked_bytes : (t : ℕ) (status : SnapStatus) (s : FlatSnap) → (flat.with_status t status s).bytes ≡ s.bytes
flat_marked_bytes t status s = apart (λ (u : FlatSnap). u.bytes) (eqb s.id t) (record s { status = status }) s ∙ cond_same (eqb s.id t) s.bytes

pub header_marked : (t : ℕ) (status : SnapStatus) (snaps : List SnapView) (u : ℕ) → snap_in (map (status_marked t status) snaps) u ≡ option_map (status_marked t status) (snap_in snaps u)
header_marked t status [] u = refl
header_marked t status (s ∷ snaps) u =
    ap (λ id. cond (eqb id u) (Some (status_marked t status s)) (snap_in (map (status_marked t status) snaps) u)) (marked_id t status s)
    ∙ ap (cond (eqb s.id u) (Some (status_marked t status s))) (header_marked t status snaps u)
    ∙ sym (map_cond (status_marked t status) (eqb s.id u) s (snap_in snaps u))

flat_marked : (t : ℕ) (status : SnapStatus) (snaps : List FlatSnap) (u : ℕ) → flat.snap_in (map (flat.with_status t status) snaps) u ≡ option_map (flat.with_status t status) (flat.snap_in snaps u)
flat_marked t status [] u = refl
flat_marked t status (s ∷ snaps) u =
    ap (λ id. cond (eqb id u) (Some (flat.with_status t status s)) (flat.snap_in (map (flat.with_status t status) snaps) u)) (flat_marked_id t status s)
    ∙ ap (cond (eqb s.id u) (Some (flat.with_status t status s))) (flat_marked t status snaps u)
    ∙ sym (map_cond (flat.with_status t status) (eqb s.id u) s (flat.snap_in snaps u))

same_bytes : (t : ℕ) (status : SnapStatus) (o : Option FlatSnap)
    → option_map {T = FlatSnap} (λ s. s.bytes) (option_map (flat.with_status t status) o) ≡ option_map {T = FlatSnap} (λ s. s.bytes) o
same_bytes t status None = refl
same_bytes t status (Some s) = ap Some (flat_marked_bytes t status s)

pub flat_bytes_marked : (t : ℕ) (status : SnapStatus) (snaps : List FlatSnap) (u : ℕ)
    → option_map {T = FlatSnap} (λ s. s.bytes) (flat.snap_in (map (flat.with_status t status) snaps) u) ≡ option_map {T = FlatSnap} (λ s. s.bytes) (flat.snap_in snaps u)
flat_bytes_marked t status snaps u = ap (option_map {T = FlatSnap} (λ s. s.bytes)) (flat_marked t status snaps u) ∙ same_bytes t status (flat.snap_in snaps u)
