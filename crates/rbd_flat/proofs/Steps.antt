-- What one step leaves, from the image as a whole.
use Rattle.std.proofs.Common.{◌≡◌, ◌≢◌, ℕ, Bool, true, false, cond, eqb, ltb, leb, not, ◌&&◌, List, [], ◌∷◌, ◌++◌, length, get_or, map, replicate, Option, Some, None, is_some, refl, sym, ◌∙◌, ap, arith, inl, inr}
use Rattle.std.specs.List.{filter}
use Rattle.std.specs.Option.{option_map, option_or}
use Rattle.std.proofs.lemmas.Option.{none-some, same_Some}
use Rattle.std.proofs.lemmas.Bool.{true≢false, cases_lt, eqb-true, ne_eqb, ltb-true, ltb-false, leb-true, leb-false, le-ltb}
use Rattle.std.proofs.lemmas.List.{get_or_past, length-replicate, get_or-replicate}
use Rattle.std.proofs.lemmas.List.FromFn.{length-map-range_with_len, get_or-map-range_with_len}
use Rattle.rbd_kinds.specs.declared.header.Role.{Role}
use Rattle.rbd_kinds.specs.declared.header.Role.TheVariants.{Plain}
use Rattle.rbd_kinds.specs.declared.header.SnapStatus.{SnapStatus}
use Rattle.rbd_kinds.specs.declared.header.SnapStatus.TheVariants.{Unprotected}
use Rattle.rbd_kinds.specs.declared.layout.Extent.{Extent}
use Rattle.rbd_kinds.proofs.Plain.{eqb_flip}
use Rattle.rbd_flat.specs.declared.effect.Effect.{Effect}
use Rattle.rbd_flat.specs.declared.effect.Effect.TheVariants as effect
use Rattle.rbd_flat.specs.Flat.{Flat, FlatImage, FlatSnap, image_at, snap_of, snap_in, painted, places_of, resized, with_status, after, after_all, id_of, renamed, changed_image, cloned}
use Rattle.rbd_flat.specs.Laws.{covered, painted_at, size_in, size_at, byte_in, flat_byte, role_at, snap_at, snap_byte, snap_size, byte_after, size_after, role_after, snap_after, taken_of, image_of, is_on_names, is_on_links}
use Rattle.rbd_flat.proofs.Painted.{length_painted, painted_extents, painted_at_zeros}
use Rattle.rbd_flat.proofs.Images.{clone_of, image_after, image_law}

get_or-zeros : (n x : ℕ) → ◌≡◌ {A = ℕ} (get_or (replicate n 0) x 0) 0
get_or-zeros n x = elim (cases_lt x n) [
  | inl h ↦ get_or-replicate n x 0 0 h
  | inr h ↦ get_or_past (replicate n 0) x 0 (let e : length (replicate {A = ℕ} n 0) ≡ n = length-replicate n 0 in omega arith)
]

-- where both are zero, a test doesn't matter
zero_both : (c : Bool) (y z : ℕ) → y ≡ 0 → z ≡ 0 → y ≡ cond c 0 z
zero_both true y z h k = h
zero_both false y z h k = h ∙ sym k

-- a new size cuts, or lengthens by zeros
pub length_resized : (size : ℕ) (bytes : List ℕ) → length (resized size bytes) ≡ size
length_resized size bytes = length-map-range_with_len (λ x. get_or bytes x 0) 0 size

pub resized_byte : (size : ℕ) (bytes : List ℕ) (x : ℕ) → get_or (resized size bytes) x 0 ≡ cond (leb size x) 0 (get_or bytes x 0)
resized_byte size bytes x = go (leb size x) refl
  where
    go : (b : Bool) → leb size x ≡ b → get_or (resized size bytes) x 0 ≡ cond b 0 (get_or bytes x 0)
    go true e = get_or_past (resized size bytes) x 0 (let l = length_resized size bytes in let h = leb-true size x e in omega arith)
    go false e = get_or-map-range_with_len (λ x. get_or bytes x 0) 0 size x x 0 (leb-false size x e) (omega arith)

created_byte : (b : Bool) (size : ℕ) (role : Role) (o : Option FlatImage) (x : ℕ)
    → byte_in (cond b (Some (record { bytes = replicate size 0; snaps = []; role = role })) o) x ≡ cond b 0 (byte_in o x)
created_byte true size role o x = get_or-zeros size x
created_byte false size role o x = refl

cloned_byte : (b : Bool) (s : Option FlatSnap) (o : Option FlatImage) (x : ℕ) → byte_in (cond b (clone_of s o) o) x ≡ cond b (snap_byte s (byte_in o x) x) (byte_in o x)
cloned_byte true None o x = refl
cloned_byte true (Some s) o x = refl
cloned_byte false s o x = refl

pieced_byte : (b : Bool) (at : List Extent) (new : List ℕ) (o : Option FlatImage) (x : ℕ)
    → byte_in (cond b (option_map {T = FlatImage} (λ j. record j { bytes = painted (places_of at) new j.bytes }) o) o) x ≡ cond (b && ltb x (size_in o)) (painted_at at new (byte_in o x) x) (byte_in o x)
pieced_byte false at new o x = refl
pieced_byte true at new None x = ap (λ b. cond b (painted_at at new 0 x) 0) (sym (le-ltb x 0 (omega arith)))
pieced_byte true at new (Some j) x = go (ltb x (length j.bytes)) refl
  where
    go : (b : Bool) → ltb x (length j.bytes) ≡ b → get_or (painted (places_of at) new j.bytes) x 0 ≡ cond b (painted_at at new (get_or j.bytes x 0) x) (get_or j.bytes x 0)
    go true e = painted_extents at new j.bytes x (ltb-true _ _ e)
    go false e =
        let h = ltb-false x (length j.bytes) e in
        get_or_past (painted (places_of at) new j.bytes) x 0 (let l = length_painted (places_of at) new j.bytes in omega arith) ∙ sym (get_or_past j.bytes x 0 h)

zeroed_byte : (b : Bool) (at : List Extent) (o : Option FlatImage) (x : ℕ)
    → byte_in (cond b (option_map {T = FlatImage} (λ j. record j { bytes = painted (places_of at) [] j.bytes }) o) o) x ≡ cond (b && covered at x) 0 (byte_in o x)
zeroed_byte false at o x = refl
zeroed_byte true at None x = zero_both (covered at x) 0 0 refl refl
zeroed_byte true at (Some j) x = elim (cases_lt x (length j.bytes)) [
  | inl h ↦ painted_extents at [] j.bytes x h ∙ painted_at_zeros at (get_or j.bytes x 0) x
  | inr h ↦
      let now = painted (places_of at) [] j.bytes in
      zero_both (covered at x) (get_or now x 0) (get_or j.bytes x 0)
      (get_or_past now x 0 (let l = length_painted (places_of at) [] j.bytes in omega arith))
      (get_or_past j.bytes x 0 h)
]

sized_byte : (b : Bool) (size : ℕ) (o : Option FlatImage) (x : ℕ)
    → byte_in (cond b (option_map {T = FlatImage} (λ j. record j { bytes = resized size j.bytes }) o) o) x ≡ cond (b && leb size x) 0 (byte_in o x)
sized_byte false size o x = refl
sized_byte true size None x = zero_both (leb size x) 0 0 refl refl
sized_byte true size (Some j) x = resized_byte size j.bytes x

-- a change that keeps the bytes
kept_byte : (change : FlatImage → FlatImage) → ((j : FlatImage) → (change j).bytes ≡ j.bytes) → (b : Bool) (o : Option FlatImage) (x : ℕ) → byte_in (cond b (option_map change o) o) x ≡ byte_in o x
kept_byte change keeps false o x = refl
kept_byte change keeps true None x = refl
kept_byte change keeps true (Some j) x = ap (λ bs. get_or bs x 0) (keeps j)

gone_byte : (b : Bool) (o : Option FlatImage) (x : ℕ) → byte_in (cond b None o) x ≡ cond b 0 (byte_in o x)
gone_byte true o x = refl
gone_byte false o x = refl

byte_of_image : (e : Effect) (f : Flat) (i x : ℕ) → byte_in (image_after e f i) x ≡ byte_after e f i x
byte_of_image (effect.Name name image) f i x = refl
byte_of_image (effect.NameFree image) f i x = refl
byte_of_image (effect.Rename from to) f i x = refl
byte_of_image (effect.Create image size role) f i x = created_byte (eqb i image) size role (image_at f i) x
byte_of_image (effect.Clone image parent snap) f i x = cloned_byte (eqb i image) (snap_at f parent snap) (image_at f i) x
byte_of_image (effect.Piece image at bytes) f i x = pieced_byte (eqb i image) at bytes (image_at f i) x
byte_of_image (effect.Zero image at) f i x = zeroed_byte (eqb i image) at (image_at f i) x
byte_of_image (effect.Size image size) f i x = sized_byte (eqb i image) size (image_at f i) x
byte_of_image (effect.Snap image snap name) f i x = kept_byte _ (λ j. refl) (eqb i image) (image_at f i) x
byte_of_image (effect.Unsnap image snap) f i x = kept_byte _ (λ j. refl) (eqb i image) (image_at f i) x
byte_of_image (effect.Status image snap status) f i x = kept_byte _ (λ j. refl) (eqb i image) (image_at f i) x
byte_of_image (effect.Link parent snap child) f i x = refl
byte_of_image (effect.Unlink parent snap child) f i x = refl
byte_of_image (effect.Role image role) f i x = kept_byte _ (λ j. refl) (eqb i image) (image_at f i) x
byte_of_image (effect.Gone image) f i x = gone_byte (eqb i image) (image_at f i) x

-- which byte stands at a place
pub byte_law : (f : Flat) (e : Effect) (i x : ℕ) → flat_byte (after f e) i x ≡ byte_after e f i x
byte_law f e i x = ap (λ o. byte_in o x) (image_law f e i) ∙ byte_of_image e f i x

created_size : (b : Bool) (size : ℕ) (role : Role) (o : Option FlatImage)
    → size_in (cond b (Some (record { bytes = replicate size 0; snaps = []; role = role })) o) ≡ cond b size (size_in o)
created_size true size role o = length-replicate size 0
created_size false size role o = refl

cloned_size : (b : Bool) (s : Option FlatSnap) (o : Option FlatImage) → size_in (cond b (clone_of s o) o) ≡ cond b (snap_size s (size_in o)) (size_in o)
cloned_size true None o = refl
cloned_size true (Some s) o = refl
cloned_size false s o = refl

sized_size : (b : Bool) (size : ℕ) (o : Option FlatImage)
    → size_in (cond b (option_map {T = FlatImage} (λ j. record j { bytes = resized size j.bytes }) o) o) ≡ cond (b && is_some o) size (size_in o)
sized_size false size o = refl
sized_size true size None = refl
sized_size true size (Some j) = length_resized size j.bytes

kept_size : (change : FlatImage → FlatImage) → ((j : FlatImage) → length (change j).bytes ≡ length j.bytes) → (b : Bool) (o : Option FlatImage) → size_in (cond b (option_map change o) o) ≡ size_in o
kept_size change keeps false o = refl
kept_size change keeps true None = refl
kept_size change keeps true (Some j) = keeps j

gone_size : (b : Bool) (o : Option FlatImage) → size_in (cond b None o) ≡ cond b 0 (size_in o)
gone_size true o = refl
gone_size false o = refl

size_of_image : (e : Effect) (f : Flat) (i : ℕ) → size_in (image_after e f i) ≡ size_after e f i
size_of_image (effect.Name name image) f i = refl
size_of_image (effect.NameFree image) f i = refl
size_of_image (effect.Rename from to) f i = refl
size_of_image (effect.Create image size role) f i = created_size (eqb i image) size role (image_at f i)
size_of_image (effect.Clone image parent snap) f i = cloned_size (eqb i image) (snap_at f parent snap) (image_at f i)
size_of_image (effect.Piece image at bytes) f i = kept_size _ (λ j. length_painted (places_of at) bytes j.bytes) (eqb i image) (image_at f i)
size_of_image (effect.Zero image at) f i = kept_size _ (λ j. length_painted (places_of at) [] j.bytes) (eqb i image) (image_at f i)
size_of_image (effect.Size image size) f i = sized_size (eqb i image) size (image_at f i)
size_of_image (effect.Snap image snap name) f i = kept_size _ (λ j. refl) (eqb i image) (image_at f i)
size_of_image (effect.Unsnap image snap) f i = kept_size _ (λ j. refl) (eqb i image) (image_at f i)
size_of_image (effect.Status image snap status) f i = kept_size _ (λ j. refl) (eqb i image) (image_at f i)
size_of_image (effect.Link parent snap child) f i = refl
size_of_image (effect.Unlink parent snap child) f i = refl
size_of_image (effect.Role image role) f i = kept_size _ (λ j. refl) (eqb i image) (image_at f i)
size_of_image (effect.Gone image) f i = gone_size (eqb i image) (image_at f i)

pub size_law : (f : Flat) (e : Effect) (i : ℕ) → size_at (after f e) i ≡ size_after e f i
size_law f e i = ap size_in (image_law f e i) ∙ size_of_image e f i

abbrev role_in : Option FlatImage → Option Role
role_in o = option_map {T = FlatImage} (λ j. j.role) o

created_role : (b : Bool) (size : ℕ) (role : Role) (o : Option FlatImage)
    → role_in (cond b (Some (record { bytes = replicate size 0; snaps = []; role = role })) o) ≡ cond b (Some role) (role_in o)
created_role true size role o = refl
created_role false size role o = refl

cloned_role : (b : Bool) (s : Option FlatSnap) (o : Option FlatImage) → role_in (cond b (clone_of s o) o) ≡ cond (b && is_some s) (Some Plain) (role_in o)
cloned_role true None o = refl
cloned_role true (Some s) o = refl
cloned_role false s o = refl

given_role : (b : Bool) (role : Role) (o : Option FlatImage)
    → role_in (cond b (option_map {T = FlatImage} (λ j. record j { role = role }) o) o) ≡ cond (b && is_some o) (Some role) (role_in o)
given_role false role o = refl
given_role true role None = refl
given_role true role (Some j) = refl

kept_role : (change : FlatImage → FlatImage) → ((j : FlatImage) → (change j).role ≡ j.role) → (b : Bool) (o : Option FlatImage) → role_in (cond b (option_map change o) o) ≡ role_in o
kept_role change keeps false o = refl
kept_role change keeps true None = refl
kept_role change keeps true (Some j) = ap Some (keeps j)

gone_role : (b : Bool) (o : Option FlatImage) → role_in (cond b None o) ≡ cond b None (role_in o)
gone_role true o = refl
gone_role false o = refl

role_of_image : (e : Effect) (f : Flat) (i : ℕ) → role_in (image_after e f i) ≡ role_after e f i
role_of_image (effect.Name name image) f i = refl
role_of_image (effect.NameFree image) f i = refl
role_of_image (effect.Rename from to) f i = refl
role_of_image (effect.Create image size role) f i = created_role (eqb i image) size role (image_at f i)
role_of_image (effect.Clone image parent snap) f i = cloned_role (eqb i image) (snap_at f parent snap) (image_at f i)
role_of_image (effect.Piece image at bytes) f i = kept_role _ (λ j. refl) (eqb i image) (image_at f i)
role_of_image (effect.Zero image at) f i = kept_role _ (λ j. refl) (eqb i image) (image_at f i)
role_of_image (effect.Size image size) f i = kept_role _ (λ j. refl) (eqb i image) (image_at f i)
role_of_image (effect.Snap image snap name) f i = kept_role _ (λ j. refl) (eqb i image) (image_at f i)
role_of_image (effect.Unsnap image snap) f i = kept_role _ (λ j. refl) (eqb i image) (image_at f i)
role_of_image (effect.Status image snap status) f i = kept_role _ (λ j. refl) (eqb i image) (image_at f i)
role_of_image (effect.Link parent snap child) f i = refl
role_of_image (effect.Unlink parent snap child) f i = refl
role_of_image (effect.Role image role) f i = given_role (eqb i image) role (image_at f i)
role_of_image (effect.Gone image) f i = gone_role (eqb i image) (image_at f i)

pub role_law : (f : Flat) (e : Effect) (i : ℕ) → role_at (after f e) i ≡ role_after e f i
role_law f e i = ap role_in (image_law f e i) ∙ role_of_image e f i

-- ---- snapshots

-- two tests that both hold are of one number
eqb_shared : (a b c : ℕ) → eqb a b ≡ true → eqb a c ≡ eqb b c
eqb_shared a b c e = ap (λ x. eqb x c) (eqb-true a b e)

or_pushed : (b : Bool) (u : FlatSnap) (o p more : Option FlatSnap) → p ≡ option_or o more → cond b (Some u) p ≡ option_or (cond b (Some u) o) more
or_pushed true u o p more e = refl
or_pushed false u o p more e = e

snap_push : (snaps : List FlatSnap) (s : FlatSnap) (t : ℕ) → snap_in (snaps ++ s ∷ []) t ≡ option_or (snap_in snaps t) (cond (eqb s.id t) (Some s) None)
snap_push [] s t = refl
snap_push (u ∷ snaps) s t = or_pushed (eqb u.id t) u (snap_in snaps t) _ (cond (eqb s.id t) (Some s) None) (snap_push snaps s t)

-- a snapshot whose id is t passes or fails as t does
dropped : (snaps rest : List FlatSnap) (s : FlatSnap) (snap t : ℕ) → snap_in rest t ≡ cond (eqb t snap) None (snap_in snaps t)
    → (b c : Bool) → eqb s.id t ≡ b → eqb s.id snap ≡ c
    → snap_in (cond (not c) (s ∷ rest) rest) t ≡ cond (eqb t snap) None (cond b (Some s) (snap_in snaps t))
dropped snaps rest s snap t next true true e g =
    let same = sym (eqb_shared s.id t snap e) ∙ g in
    next ∙ ap (λ (x : Bool). cond x None (snap_in snaps t)) same ∙ sym (ap (λ (x : Bool). cond x None (Some s)) same)
dropped snaps rest s snap t next true false e g =
    let same = sym (eqb_shared s.id t snap e) ∙ g in
    ap (λ (x : Bool). cond x (Some s) (snap_in rest t)) e ∙ sym (ap (λ (x : Bool). cond x None (Some s)) same)
dropped snaps rest s snap t next false true e g = next
dropped snaps rest s snap t next false false e g = ap (λ (x : Bool). cond x (Some s) (snap_in rest t)) e ∙ next

snap_drop : (snaps : List FlatSnap) (snap t : ℕ) → snap_in (filter (λ s. not (eqb s.id snap)) snaps) t ≡ cond (eqb t snap) None (snap_in snaps t)
snap_drop [] snap t = nothing (eqb t snap)
  where
    nothing : (b : Bool) → ◌≡◌ {A = Option FlatSnap} None (cond b None None)
    nothing true = refl
    nothing false = refl
snap_drop (s ∷ snaps) snap t = dropped snaps (filter (λ s. not (eqb s.id snap)) snaps) s snap t (snap_drop snaps snap t) (eqb s.id t) (eqb s.id snap) refl refl

abbrev given : SnapStatus → FlatSnap → FlatSnap
given status s = record s { status = status }

-- the snapshots with their statuses: at s, and then at the others
marked : (snaps rest : List FlatSnap) (s : FlatSnap) (snap : ℕ) (status : SnapStatus) (t : ℕ) → snap_in rest t ≡ cond (eqb t snap) (option_map (given status) (snap_in snaps t)) (snap_in snaps t)
    → (b c : Bool) → eqb s.id t ≡ b → eqb s.id snap ≡ c
    → snap_in (cond c (given status s) s ∷ rest) t ≡ cond (eqb t snap) (option_map (given status) (cond b (Some s) (snap_in snaps t))) (cond b (Some s) (snap_in snaps t))
marked snaps rest s snap status t next true true e g =
    let same = sym (eqb_shared s.id t snap e) ∙ g in
    ap (λ (x : Bool). cond x (Some (given status s)) (snap_in rest t)) e ∙ sym (ap (λ (x : Bool). cond x (Some (given status s)) (Some s)) same)
marked snaps rest s snap status t next true false e g =
    let same = sym (eqb_shared s.id t snap e) ∙ g in
    ap (λ (x : Bool). cond x (Some s) (snap_in rest t)) e ∙ sym (ap (λ (x : Bool). cond x (Some (given status s)) (Some s)) same)
marked snaps rest s snap status t next false true e g = ap (λ (x : Bool). cond x (Some (given status s)) (snap_in rest t)) e ∙ next
marked snaps rest s snap status t next false false e g = ap (λ (x : Bool). cond x (Some s) (snap_in rest t)) e ∙ next

snap_mark : (snaps : List FlatSnap) (snap : ℕ) (status : SnapStatus) (t : ℕ) → snap_in (map (with_status snap status) snaps) t ≡ cond (eqb t snap) (option_map (given status) (snap_in snaps t)) (snap_in snaps t)
snap_mark [] snap status t = nothing (eqb t snap)
  where
    nothing : (b : Bool) → ◌≡◌ {A = Option FlatSnap} None (cond b None None)
    nothing true = refl
    nothing false = refl
snap_mark (s ∷ snaps) snap status t = marked snaps (map (with_status snap status) snaps) s snap status t (snap_mark snaps snap status t) (eqb s.id t) (eqb s.id snap) refl refl

created_snap : (b : Bool) (size : ℕ) (role : Role) (o : Option FlatImage) (t : ℕ)
    → snap_of (cond b (Some (record { bytes = replicate size 0; snaps = []; role = role })) o) t ≡ cond b None (snap_of o t)
created_snap true size role o t = refl
created_snap false size role o t = refl

cloned_snap : (b : Bool) (s : Option FlatSnap) (o : Option FlatImage) (t : ℕ) → snap_of (cond b (clone_of s o) o) t ≡ cond (b && is_some s) None (snap_of o t)
cloned_snap true None o t = refl
cloned_snap true (Some s) o t = refl
cloned_snap false s o t = refl

kept_snap : (change : FlatImage → FlatImage) → ((j : FlatImage) → (change j).snaps ≡ j.snaps) → (b : Bool) (o : Option FlatImage) (t : ℕ) → snap_of (cond b (option_map change o) o) t ≡ snap_of o t
kept_snap change keeps false o t = refl
kept_snap change keeps true None t = refl
kept_snap change keeps true (Some j) t = ap (λ snaps. snap_in snaps t) (keeps j)

gone_snap : (b : Bool) (o : Option FlatImage) (t : ℕ) → snap_of (cond b None o) t ≡ cond b None (snap_of o t)
gone_snap true o t = refl
gone_snap false o t = refl

or_none : (b : Bool) (o : Option FlatSnap) (s : FlatSnap) → option_or o (cond b (Some s) None) ≡ cond b (option_or o (Some s)) o
or_none true o s = refl
or_none false None s = refl
or_none false (Some u) s = refl

taken_snap : (b : Bool) (snap : ℕ) (name : List ℕ) (o : Option FlatImage) (t : ℕ)
    → snap_of (cond b (option_map {T = FlatImage} (λ j. record j { snaps = j.snaps ++ record { id = snap; name = name; bytes = j.bytes; status = Unprotected } ∷ [] }) o) o) t
    ≡ cond (b && eqb t snap) (option_or (snap_of o t) (taken_of o snap name)) (snap_of o t)
taken_snap false snap name o t = refl
taken_snap true snap name None t = nothing (eqb t snap)
  where
    nothing : (b : Bool) → ◌≡◌ {A = Option FlatSnap} None (cond b None None)
    nothing true = refl
    nothing false = refl
taken_snap true snap name (Some j) t =
    let s : FlatSnap = record { id = snap; name = name; bytes = j.bytes; status = Unprotected } in
    snap_push j.snaps s t ∙ or_none (eqb snap t) (snap_in j.snaps t) s ∙ ap (λ (x : Bool). cond x (option_or (snap_in j.snaps t) (Some s)) (snap_in j.snaps t)) (eqb_flip snap t)

dropped_snap : (b : Bool) (snap : ℕ) (o : Option FlatImage) (t : ℕ)
    → snap_of (cond b (option_map {T = FlatImage} (λ j. record j { snaps = filter (λ s. not (eqb s.id snap)) j.snaps }) o) o) t ≡ cond (b && eqb t snap) None (snap_of o t)
dropped_snap false snap o t = refl
dropped_snap true snap None t = snap_drop [] snap t
dropped_snap true snap (Some j) t = snap_drop j.snaps snap t

marked_snap : (b : Bool) (snap : ℕ) (status : SnapStatus) (o : Option FlatImage) (t : ℕ)
    → snap_of (cond b (option_map {T = FlatImage} (λ j. record j { snaps = map (with_status snap status) j.snaps }) o) o) t ≡ cond (b && eqb t snap) (option_map (given status) (snap_of o t)) (snap_of o t)
marked_snap false snap status o t = refl
marked_snap true snap status None t = snap_mark [] snap status t
marked_snap true snap status (Some j) t = snap_mark j.snaps snap status t

snap_of_image : (e : Effect) (f : Flat) (i t : ℕ) → snap_of (image_after e f i) t ≡ snap_after e f i t
snap_of_image (effect.Name name image) f i t = refl
snap_of_image (effect.NameFree image) f i t = refl
snap_of_image (effect.Rename from to) f i t = refl
snap_of_image (effect.Create image size role) f i t = created_snap (eqb i image) size role (image_at f i) t
snap_of_image (effect.Clone image parent snap) f i t = cloned_snap (eqb i image) (snap_at f parent snap) (image_at f i) t
snap_of_image (effect.Piece image at bytes) f i t = kept_snap _ (λ j. refl) (eqb i image) (image_at f i) t
snap_of_image (effect.Zero image at) f i t = kept_snap _ (λ j. refl) (eqb i image) (image_at f i) t
snap_of_image (effect.Size image size) f i t = kept_snap _ (λ j. refl) (eqb i image) (image_at f i) t
snap_of_image (effect.Snap image snap name) f i t = taken_snap (eqb i image) snap name (image_at f i) t
snap_of_image (effect.Unsnap image snap) f i t = dropped_snap (eqb i image) snap (image_at f i) t
snap_of_image (effect.Status image snap status) f i t = marked_snap (eqb i image) snap status (image_at f i) t
snap_of_image (effect.Link parent snap child) f i t = refl
snap_of_image (effect.Unlink parent snap child) f i t = refl
snap_of_image (effect.Role image role) f i t = kept_snap _ (λ j. refl) (eqb i image) (image_at f i) t
snap_of_image (effect.Gone image) f i t = gone_snap (eqb i image) (image_at f i) t

pub snap_law : (f : Flat) (e : Effect) (i t : ℕ) → snap_at (after f e) i t ≡ snap_after e f i t
snap_law f e i t = ap (λ o. snap_of o t) (image_law f e i) ∙ snap_of_image e f i t

-- ---- what stays

-- whatever the option has is s, but for its status
abbrev Same : FlatSnap → Option FlatSnap → Type 0
Same s o = (s' : FlatSnap) → o ≡ Some s' → (s'.bytes ≡ s.bytes) × (s'.name ≡ s.name)

same_itself : (s : FlatSnap) (o : Option FlatSnap) → o ≡ Some s → Same s o
same_itself s o is s' e =
    let same : s' ≡ s = same_Some s' s (sym e ∙ is) in
    (ap (λ (u : FlatSnap). u.bytes) same, ap (λ (u : FlatSnap). u.name) same)

same_unless : (b : Bool) (s : FlatSnap) (o : Option FlatSnap) → o ≡ Some s → Same s (cond b None o)
same_unless true s o is s' e = absurd (none-some s' e)
same_unless false s o is s' e = same_itself s o is s' e

same_taken : (b : Bool) (s : FlatSnap) (o more : Option FlatSnap) → o ≡ Some s → Same s (cond b (option_or o more) o)
same_taken true s o more is = same_itself s (option_or o more) (ap (λ p. option_or p more) is)
same_taken false s o more is = same_itself s o is

same_marked : (b : Bool) (status : SnapStatus) (s : FlatSnap) (o : Option FlatSnap) → o ≡ Some s → Same s (cond b (option_map (given status) o) o)
same_marked true status s o is s' e =
    let same : s' ≡ given status s = same_Some s' (given status s) (sym e ∙ ap (option_map (given status)) is) in
    (ap (λ (u : FlatSnap). u.bytes) same, ap (λ (u : FlatSnap). u.name) same)
same_marked false status s o is s' e = same_itself s o is s' e

same_after : (e : Effect) (f : Flat) (i t : ℕ) (s : FlatSnap) → snap_at f i t ≡ Some s → Same s (snap_after e f i t)
same_after (effect.Name name image) f i t s is = same_itself s (snap_at f i t) is
same_after (effect.NameFree image) f i t s is = same_itself s (snap_at f i t) is
same_after (effect.Rename from to) f i t s is = same_itself s (snap_at f i t) is
same_after (effect.Create image size role) f i t s is = same_unless (eqb i image) s (snap_at f i t) is
same_after (effect.Clone image parent snap) f i t s is = same_unless (eqb i image && is_some (snap_at f parent snap)) s (snap_at f i t) is
same_after (effect.Piece image at bytes) f i t s is = same_itself s (snap_at f i t) is
same_after (effect.Zero image at) f i t s is = same_itself s (snap_at f i t) is
same_after (effect.Size image size) f i t s is = same_itself s (snap_at f i t) is
same_after (effect.Snap image snap name) f i t s is = same_taken (eqb i image && eqb t snap) s (snap_at f i t) (taken_of (image_at f i) snap name) is
same_after (effect.Unsnap image snap) f i t s is = same_unless (eqb i image && eqb t snap) s (snap_at f i t) is
same_after (effect.Status image snap status) f i t s is = same_marked (eqb i image && eqb t snap) status s (snap_at f i t) is
same_after (effect.Link parent snap child) f i t s is = same_itself s (snap_at f i t) is
same_after (effect.Unlink parent snap child) f i t s is = same_itself s (snap_at f i t) is
same_after (effect.Role image role) f i t s is = same_itself s (snap_at f i t) is
same_after (effect.Gone image) f i t s is = same_unless (eqb i image) s (snap_at f i t) is

-- a snapshot that stands before and after has its bytes and its name
pub snap_keeps : (f : Flat) (e : Effect) (i t : ℕ) (s s' : FlatSnap) → snap_at f i t ≡ Some s → snap_at (after f e) i t ≡ Some s' → (s'.bytes ≡ s.bytes) × (s'.name ≡ s.name)
snap_keeps f e i t s s' is now = same_after e f i t s is s' (sym (snap_law f e i t) ∙ now)

changed_names : (change : FlatImage → FlatImage) (k : ℕ) (o : Option FlatImage) (f : Flat) → (changed_image change k o f).names ≡ f.names
changed_names change k None f = refl
changed_names change k (Some j) f = refl

cloned_names : (o : Option FlatSnap) (k : ℕ) (f : Flat) → (cloned o k f).names ≡ f.names
cloned_names None k f = refl
cloned_names (Some s) k f = refl

pub names_stay : (f : Flat) (e : Effect) → is_on_names e ≡ false → (after f e).names ≡ f.names
names_stay f (effect.Name name image) h = absurd (true≢false h)
names_stay f (effect.NameFree image) h = absurd (true≢false h)
names_stay f (effect.Rename from to) h = absurd (true≢false h)
names_stay f (effect.Create image size role) h = refl
names_stay f (effect.Clone image parent snap) h = cloned_names (snap_at f parent snap) image f
names_stay f (effect.Piece image at bytes) h = changed_names _ image (image_at f image) f
names_stay f (effect.Zero image at) h = changed_names _ image (image_at f image) f
names_stay f (effect.Size image size) h = changed_names _ image (image_at f image) f
names_stay f (effect.Snap image snap name) h = changed_names _ image (image_at f image) f
names_stay f (effect.Unsnap image snap) h = changed_names _ image (image_at f image) f
names_stay f (effect.Status image snap status) h = changed_names _ image (image_at f image) f
names_stay f (effect.Link parent snap child) h = refl
names_stay f (effect.Unlink parent snap child) h = refl
names_stay f (effect.Role image role) h = changed_names _ image (image_at f image) f
names_stay f (effect.Gone image) h = refl

changed_links : (change : FlatImage → FlatImage) (k : ℕ) (o : Option FlatImage) (f : Flat) → (changed_image change k o f).links ≡ f.links
changed_links change k None f = refl
changed_links change k (Some j) f = refl

cloned_links : (o : Option FlatSnap) (k : ℕ) (f : Flat) → (cloned o k f).links ≡ f.links
cloned_links None k f = refl
cloned_links (Some s) k f = refl

renamed_links : (o : Option ℕ) (from to : List ℕ) (f : Flat) → (renamed o from to f).links ≡ f.links
renamed_links None from to f = refl
renamed_links (Some image) from to f = refl

pub links_stay : (f : Flat) (e : Effect) → is_on_links e ≡ false → (after f e).links ≡ f.links
links_stay f (effect.Name name image) h = refl
links_stay f (effect.NameFree image) h = refl
links_stay f (effect.Rename from to) h = renamed_links (id_of f from) from to f
links_stay f (effect.Create image size role) h = refl
links_stay f (effect.Clone image parent snap) h = cloned_links (snap_at f parent snap) image f
links_stay f (effect.Piece image at bytes) h = changed_links _ image (image_at f image) f
links_stay f (effect.Zero image at) h = changed_links _ image (image_at f image) f
links_stay f (effect.Size image size) h = changed_links _ image (image_at f image) f
links_stay f (effect.Snap image snap name) h = changed_links _ image (image_at f image) f
links_stay f (effect.Unsnap image snap) h = changed_links _ image (image_at f image) f
links_stay f (effect.Status image snap status) h = changed_links _ image (image_at f image) f
links_stay f (effect.Link parent snap child) h = absurd (true≢false h)
links_stay f (effect.Unlink parent snap child) h = absurd (true≢false h)
links_stay f (effect.Role image role) h = changed_links _ image (image_at f image) f
links_stay f (effect.Gone image) h = refl

-- at another id a test chooses the old image
other_id : (i j : ℕ) → Some i ≢ Some j → eqb j i ≡ false
other_id i j ne = ne_eqb j i (λ e. ne (ap Some (sym e)))

at_other : {X : Type 0} (i j : ℕ) (x y : X) → Some i ≢ Some j → cond (eqb j i) x y ≡ y
at_other {X} i j x y ne = ap (λ (b : Bool). cond b x y) (other_id i j ne)

other_image : (e : Effect) (f : Flat) (j : ℕ) → image_of e ≢ Some j → image_after e f j ≡ image_at f j
other_image (effect.Name name image) f j ne = refl
other_image (effect.NameFree image) f j ne = refl
other_image (effect.Rename from to) f j ne = refl
other_image (effect.Create image size role) f j ne = at_other image j _ (image_at f j) ne
other_image (effect.Clone image parent snap) f j ne = at_other image j _ (image_at f j) ne
other_image (effect.Piece image at bytes) f j ne = at_other image j _ (image_at f j) ne
other_image (effect.Zero image at) f j ne = at_other image j _ (image_at f j) ne
other_image (effect.Size image size) f j ne = at_other image j _ (image_at f j) ne
other_image (effect.Snap image snap name) f j ne = at_other image j _ (image_at f j) ne
other_image (effect.Unsnap image snap) f j ne = at_other image j _ (image_at f j) ne
other_image (effect.Status image snap status) f j ne = at_other image j _ (image_at f j) ne
other_image (effect.Link parent snap child) f j ne = refl
other_image (effect.Unlink parent snap child) f j ne = refl
other_image (effect.Role image role) f j ne = at_other image j _ (image_at f j) ne
other_image (effect.Gone image) f j ne = at_other image j _ (image_at f j) ne

pub images_stay : (f : Flat) (e : Effect) (j : ℕ) → image_of e ≢ Some j → image_at (after f e) j ≡ image_at f j
images_stay f e j ne = image_law f e j ∙ other_image e f j ne

-- effects one after another
pub steps_in_turn : (f : Flat) (front rest : List Effect) → after_all f (front ++ rest) ≡ after_all (after_all f front) rest
steps_in_turn f [] rest = refl
steps_in_turn f (e ∷ front) rest = steps_in_turn (after f e) front rest
