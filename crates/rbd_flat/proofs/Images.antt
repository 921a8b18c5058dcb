-- The image with an id after one step, as a whole: the laws on bytes, sizes, roles and snapshots
-- follow.
use Rattle.std.proofs.Common.{◌≡◌, ℕ, Bool, true, false, cond, eqb, not, List, [], ◌∷◌, ◌++◌, map, replicate, Option, Some, None, refl, sym, ◌∙◌, ap, subst}
use Rattle.std.specs.List.{filter}
use Rattle.std.specs.Ordering.{nat_cmp}
use Rattle.std.specs.Option.{option_map}
use Rattle.std.specs.Cmp.{nat_cmp_total, unsigned_tied}
use Rattle.std.specs.FinMap as finmap
use Rattle.std.proofs.lemmas.Bool.{eqb-true}
use Rattle.rbd_kinds.specs.declared.header.Role.TheVariants.{Plain}
use Rattle.rbd_kinds.specs.declared.header.SnapStatus.TheVariants.{Unprotected}
use Rattle.rbd_flat.specs.declared.effect.Effect.{Effect}
use Rattle.rbd_flat.specs.declared.effect.Effect.TheVariants as effect
use Rattle.rbd_flat.specs.Flat.{Flat, FlatImage, FlatSnap, image_at, painted, places_of, resized, changed_image, with_image, cloned, renamed, with_status, after, id_of}
use Rattle.rbd_flat.specs.Laws.{snap_at}

pub get_insert : {X : Type 0} (m : finmap.FinMap nat_cmp X) (k : ℕ) (v : X) (i : ℕ) → finmap.get (finmap.insert m k v) i ≡ cond (eqb i k) (Some v) (finmap.get m i)
get_insert m k v i = finmap.get-insert nat_cmp_total m k v i ∙ ap (λ b. cond b (Some v) (finmap.get m i)) (unsigned_tied i k)

pub get_remove : {X : Type 0} (m : finmap.FinMap nat_cmp X) (k i : ℕ) → finmap.get (finmap.remove m k) i ≡ cond (eqb i k) None (finmap.get m i)
get_remove m k i = finmap.get-remove nat_cmp_total m k i ∙ ap (λ b. cond b None (finmap.get m i)) (unsigned_tied i k)

-- a clone, where the snapshot is there
abbrev pub clone_of : Option FlatSnap → (old : Option FlatImage) → Option FlatImage
clone_of None old = old
clone_of (Some s) old = Some (record { bytes = s.bytes; snaps = []; role = Plain })

-- image i after the effect
abbrev pub image_after : Effect → Flat → (i : ℕ) → Option FlatImage
image_after (effect.Create image size role) f i = cond (eqb i image) (Some (record { bytes = replicate size 0; snaps = []; role = role })) (image_at f i)
image_after (effect.Clone image parent snap) f i = cond (eqb i image) (clone_of (snap_at f parent snap) (image_at f i)) (image_at f i)
image_after (effect.Piece image at bytes) f i = cond (eqb i image) (option_map {T = FlatImage} (λ j. record j { bytes = painted (places_of at) bytes j.bytes }) (image_at f i)) (image_at f i)
image_after (effect.Zero image at) f i = cond (eqb i image) (option_map {T = FlatImage} (λ j. record j { bytes = painted (places_of at) [] j.bytes }) (image_at f i)) (image_at f i)
image_after (effect.Size image size) f i = cond (eqb i image) (option_map {T = FlatImage} (λ j. record j { bytes = resized size j.bytes }) (image_at f i)) (image_at f i)
image_after (effect.Snap image snap name) f i = cond (eqb i image) (option_map {T = FlatImage} (λ j. record j { snaps = j.snaps ++ record { id = snap; name = name; bytes = j.bytes; status = Unprotected } ∷ [] }) (image_at f i)) (image_at f i)
image_after (effect.Unsnap image snap) f i = cond (eqb i image) (option_map {T = FlatImage} (λ j. record j { snaps = filter (λ s. not (eqb s.id snap)) j.snaps }) (image_at f i)) (image_at f i)
image_after (effect.Status image snap status) f i = cond (eqb i image) (option_map {T = FlatImage} (λ j. record j { snaps = map (with_status snap status) j.snaps }) (image_at f i)) (image_at f i)
image_after (effect.Role image role) f i = cond (eqb i image) (option_map {T = FlatImage} (λ j. record j { role = role }) (image_at f i)) (image_at f i)
image_after (effect.Gone image) f i = cond (eqb i image) None (image_at f i)
image_after _ f i = image_at f i

-- at the id itself two look-ups agree
same_id : {X : Type 0} (get : ℕ → X) (i k : ℕ) (P : X → X → Type 0) → P (get k) (get k) → eqb i k ≡ true → P (get k) (get i)
same_id get i k P p e = subst (λ j. P (get k) (get j)) (sym (eqb-true i k e)) p

pub with_image_at : (f : Flat) (k : ℕ) (change : FlatImage → FlatImage) (i : ℕ) → image_at (with_image f k change) i ≡ cond (eqb i k) (option_map change (image_at f i)) (image_at f i)
with_image_at f k change i = go (image_at f k) refl (eqb i k) refl
  where
    here : eqb i k ≡ true → image_at f k ≡ image_at f i
    here e = ap (image_at f) (sym (eqb-true i k e))

    go : (o : Option FlatImage) → image_at f k ≡ o → (b : Bool) → eqb i k ≡ b → image_at (changed_image change k o f) i ≡ cond b (option_map change (image_at f i)) (image_at f i)
    go None none true e = sym (here e) ∙ none ∙ ap (option_map change) (sym none ∙ here e)
    go None none false e = refl
    go (Some j) some true e = get_insert f.images k (change j) i ∙ ap (λ b. cond b (Some (change j)) (image_at f i)) e ∙ ap (option_map change) (sym some ∙ here e)
    go (Some j) some false e = get_insert f.images k (change j) i ∙ ap (λ b. cond b (Some (change j)) (image_at f i)) e

renamed_at : (o : Option ℕ) (from to : List ℕ) (f : Flat) (i : ℕ) → image_at (renamed o from to f) i ≡ image_at f i
renamed_at None from to f i = refl
renamed_at (Some image) from to f i = refl

keeps : {X : Type 0} (b : Bool) (x : X) → x ≡ cond b x x
keeps true x = refl
keeps false x = refl

cloned_at : (o : Option FlatSnap) (k : ℕ) (f : Flat) (i : ℕ) → image_at (cloned o k f) i ≡ cond (eqb i k) (clone_of o (image_at f i)) (image_at f i)
cloned_at None k f i = keeps (eqb i k) (image_at f i)
cloned_at (Some s) k f i = get_insert f.images k _ i

pub image_law : (f : Flat) (e : Effect) (i : ℕ) → image_at (after f e) i ≡ image_after e f i
image_law f (effect.Name name image) i = refl
image_law f (effect.NameFree image) i = refl
image_law f (effect.Rename from to) i = renamed_at (id_of f from) from to f i
image_law f (effect.Create image size role) i = get_insert f.images image _ i
image_law f (effect.Clone image parent snap) i = cloned_at (snap_at f parent snap) image f i
image_law f (effect.Piece image at bytes) i = with_image_at f image _ i
image_law f (effect.Zero image at) i = with_image_at f image _ i
image_law f (effect.Size image size) i = with_image_at f image _ i
image_law f (effect.Snap image snap name) i = with_image_at f image _ i
image_law f (effect.Unsnap image snap) i = with_image_at f image _ i
image_law f (effect.Status image snap status) i = with_image_at f image _ i
image_law f (effect.Link parent snap child) i = refl
image_law f (effect.Unlink parent snap child) i = refl
image_law f (effect.Role image role) i = with_image_at f image _ i
image_law f (effect.Gone image) i = get_remove f.images image i
