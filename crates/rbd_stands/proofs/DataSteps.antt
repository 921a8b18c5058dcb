-- Changes of one object's head, at the site.
use Rattle.std.proofs.Common.{◌≡◌, ◌≢◌, ℕ, ◌<◌, ◌≤◌, Bool, true, false, cond, eqb, inl, inr, List, [], get_or, Option, Some, None, option_map, unwrap_or, refl, sym, ◌∙◌, ap, subst, arith}
use Rattle.std.specs.Prelude.{All, IsSome}
use Rattle.std.proofs.Math.Path.{fun_ext}
use Rattle.std.proofs.lemmas.Bool.{cases_lt, le-ltb, ne_eqb, true≢false}
use Rattle.std.proofs.lemmas.Option.{same_Some}
use Rattle.rbd_kinds.specs.declared.answer.Answer.TheVariants as answer
use Rattle.rbd_kinds.specs.declared.data_op.DataOp.{DataOp}
use Rattle.rbd_kinds.specs.declared.data_op.DataOp.TheVariants as data_op
use Rattle.rbd_kinds.specs.declared.header.HeaderView.{HeaderView}
use Rattle.rbd_kinds.specs.declared.header.ParentLink.{ParentLink}
use Rattle.rbd_kinds.specs.declared.header.SnapContext.{SnapContext}
use Rattle.rbd_kinds.specs.declared.id.Instance.{Instance}
use Rattle.rbd_kinds.specs.declared.layout.Part.{Part}
use Rattle.rbd_kinds.specs.declared.operation.Op.TheVariants as op
use Rattle.rbd_kinds.specs.Striping.{object_of, offset_of, byte_at}
use Rattle.rbd_layout.specs.Pieces.{IsPart}
use Rattle.rbd_layout.proofs.Places.{first_below, held_at_start}
use Rattle.rbd_layout.proofs.Derived.{parts_cover}
use Rattle.rbd_object.specs.Mapped.{Mapped, mapped_change}
use Rattle.rbd_flat.specs.declared.effect.Effect.TheVariants as effect
use Rattle.rbd_flat.specs.Flat.{Flat, FlatImage, image_at, snap_of, painted, places_of, with_image, changed_image}
use Rattle.rbd_flat.specs.Flat as flat
use Rattle.rbd_flat.specs.Laws.{snap_byte, covered, painted_at, painted_byte}
use Rattle.rbd_flat.proofs.Images.{with_image_at}
use Rattle.rbd_flat.proofs.Painted.{length_painted, painted_extents, painted_place, painted_at_zeros}
use Rattle.rbd_parts.specs.Parts.{parts_written, parts_zeroed}
use Rattle.rbd_site.specs.DataStep.{MayWriteParts, data_answer, data_after, data_change, where_object_done}
use Rattle.rbd_site.specs.Records.{Records, put, or_blank, object_at, with_object}
use Rattle.rbd_site.specs.Step.{answer_to, answer_served, after, after_served}
use Rattle.rbd_stands.specs.Shown.{Snapshots, IsInOverlap, snapshots_of, inherited, shown, Links, links_of}
use Rattle.rbd_stands.specs.Image.{ImageStands, IsInside}
use Rattle.rbd_stands.specs.Site.{StandsFor, Pending}
use Rattle.rbd_stands.specs.Condition.{IsContextOf, ArePartsBelow, IsCopiedUp, ChangesObject, AreWhole, IsZeroPast, extents_of}
use Rattle.rbd_stands.proofs.ObjectSteps.{object_changed}
use Rattle.rbd_stands.proofs.Painting.{parts_at, painted_beside, beside_elsewhere, beside_past, zeros_at, any_covered}
use Rattle.rbd_stands.proofs.Whole.{whole_places, in_whole}
use Rattle.rbd_stands.proofs.SiteSteps.{here, stands_at, keep_all, site_change, is_drawn, other_object, object_there, flat_there, links_same}
use Rattle.rbd_stands.proofs.Served.{where_served}

-- ---- what an object shows of itself

-- outside the overlap nothing is inherited
nothing_inherited : (below : Snapshots) (parent : Option ParentLink) (first x : ℕ) → first ≤ x → (IsInOverlap parent first → ⊥) → inherited below parent x ≡ 0
nothing_inherited below None first x later outside = refl
nothing_inherited below (Some link) first x later outside = elim (cases_lt first link.overlap) [
  | inl less ↦ absurd (outside less)
  | inr past ↦ ap (λ b. cond b (snap_byte (below link.image link.snap) 0 x) 0) (le-ltb x link.overlap (omega arith))
]

-- the head that was copied up where it had to be, or is absent, shows its own bytes and zeros past
-- them
pub own_bytes : (below : Snapshots) (parent : Option ParentLink) (first : ℕ) (head : Option (List ℕ)) → (IsInOverlap parent first → IsSome head) → (offset x : ℕ) → first ≤ x
    → shown below parent head offset x ≡ get_or (unwrap_or head []) offset 0
own_bytes below parent first (Some bytes) up offset x later = refl
own_bytes below parent first None up offset x later = nothing_inherited below parent first x later (λ inside. true≢false (sym (up inside)))

-- ---- a change of an object's head, and an effect on the image's bytes

pub done_after : (object : Option Mapped) (o : DataOp) → data_answer object o ≡ answer.Done → data_after object o ≡ Some (data_change (or_blank object) o)
done_after object o done = ap (λ a. where_object_done a (data_change (or_blank object) o) object) done

-- the flat site with the bytes of one image repainted
abbrev pub repainted : Flat → (image : ℕ) → (List ℕ → List ℕ) → Flat
repainted f image repaint = with_image f image (λ i. record i { bytes = repaint i.bytes })

same_snaps : (b : Bool) (repaint : List ℕ → List ℕ) (o : Option FlatImage) (t : ℕ) → snap_of (cond b (option_map {T = FlatImage} (λ i. record i { bytes = repaint i.bytes }) o) o) t ≡ snap_of o t
same_snaps true repaint None t = refl
same_snaps true repaint (Some i) t = refl
same_snaps false repaint o t = refl

snaps_stay : (f : Flat) (image : ℕ) (repaint : List ℕ → List ℕ) → snapshots_of (repainted f image repaint) ≡ snapshots_of f
snaps_stay f image repaint = fun_ext (λ i. fun_ext (λ t.
    ap (λ o. snap_of o t) (with_image_at f image (λ i. record i { bytes = repaint i.bytes }) i) ∙ same_snaps (eqb i image) repaint (image_at f i) t))

names_stay : (f : Flat) (image : ℕ) (change : FlatImage → FlatImage) → (with_image f image change).names ≡ f.names
names_stay f image change = go (image_at f image)
  where
    go : (o : Option FlatImage) → (changed_image change image o f).names ≡ f.names
    go None = refl
    go (Some i) = refl

links_stay : (f : Flat) (image : ℕ) (change : FlatImage → FlatImage) → (with_image f image change).links ≡ f.links
links_stay f image change = go (image_at f image)
  where
    go : (o : Option FlatImage) → (changed_image change image o f).links ≡ f.links
    go None = refl
    go (Some i) = refl

elsewhere : (f : Flat) (image : ℕ) (change : FlatImage → FlatImage) (j : ℕ) → j ≢ image → image_at (with_image f image change) j ≡ image_at f j
elsewhere f image change j other = with_image_at f image change j ∙ ap (λ b. cond b (option_map change (image_at f j)) (image_at f j)) (ne_eqb j image other)

pub head_stands : (pending : List Pending) (r : Records) (f : Flat) (image number : ℕ) (h : HeaderView) (context : SnapContext) (new : Option (List ℕ)) (repaint : List ℕ → List ℕ)
    → StandsFor pending r f → r.headers image ≡ Some h → IsContextOf h context
    → ((i : FlatImage) → image_at f image ≡ Some i → ImageStands (snapshots_of f) (links_of f image) h (object_at r image) i → ChangesObject (snapshots_of f) h number new i.bytes (repaint i.bytes))
    → StandsFor pending (with_object image number (Some (mapped_change context new (object_at r image number))) r) (repainted f image repaint)
head_stands pending r f image number h context new repaint stands is of isChanged =
    let g = repainted f image repaint in
    let now : Mapped = mapped_change context new (object_at r image number) in
    let s = with_object image number (Some now) r in
    let was = here (snapshots_of f) (links_of f image) (r.headers image) (object_at r image) (image_at f image) h is (stands.images image) in
    let image_now : FlatImage = record was.image { bytes = repaint was.image.bytes } in
    let stands_now : ImageStands (snapshots_of f) (links_of f image) h (put (object_at r image) number now) image_now =
    object_changed (snapshots_of f) (links_of f image) h (object_at r image) was.image was.stands context of number new (repaint was.image.bytes) (isChanged was.image was.is was.stands) in
    site_change pending image r s f g stands
    (other_object image number (Some now) r f g (names_stay f image _) (links_stay f image _) (elsewhere f image _))
    (keep_all pending r (snapshots_of f) (snapshots_of g) (λ i t u at. ap (λ (below : Snapshots). below i t) (snaps_stay f image repaint) ∙ at))
    (λ st. stands_at (snapshots_of g) (links_of g image) (r.headers image) (object_at s image) (image_at g image) h image_now is (flat_there f image _ was.image was.is)
    (subst (λ (objects : ℕ → Mapped). ImageStands (snapshots_of g) (links_of g image) h objects image_now) (sym (object_there image number now r))
    (subst (λ (below : Snapshots). ImageStands below (links_of g image) h (put (object_at r image) number now) image_now) (sym (snaps_stay f image repaint))
    (subst (λ (linked : Links). ImageStands (snapshots_of f) linked h (put (object_at r image) number now) image_now) (sym (links_same f g (links_stay f image _) image)) stands_now))))
    (is_drawn pending r f stands image h is s g)

pub any_head_stands : (pending : List Pending) (r : Records) (f : Flat) (image number : ℕ) (h : HeaderView) (context : SnapContext) (new : Option (List ℕ)) (i : FlatImage) (bytes : List ℕ)
    → StandsFor pending r f → r.headers image ≡ Some h → image_at f image ≡ Some i → IsContextOf h context
    → ChangesObject (snapshots_of f) h number new i.bytes bytes
    → StandsFor pending (with_object image number (Some (mapped_change context new (object_at r image number))) r) (repainted f image (λ old. bytes))
any_head_stands pending r f image number h context new i bytes stands is at of isChanged =
    head_stands pending r f image number h context new (λ old. bytes) stands is of
    (λ j found st. subst (λ (k : FlatImage). ChangesObject (snapshots_of f) h number new k.bytes bytes) (same_Some i j (sym at ∙ found)) isChanged)

-- the same, of an operation that was done
pub data_stands : (pending : List Pending) (r : Records) (f : Flat) (me : Instance) (image number : ℕ) (h : HeaderView) (context : SnapContext) (new : Option (List ℕ)) (repaint : List ℕ → List ℕ) (o : DataOp)
    → StandsFor pending r f → r.headers image ≡ Some h → IsContextOf h context
    → answer_served r me (op.Data image number o) ≡ answer.Done
    → data_change (object_at r image number) o ≡ mapped_change context new (object_at r image number)
    → ((i : FlatImage) → image_at f image ≡ Some i → ImageStands (snapshots_of f) (links_of f image) h (object_at r image) i → ChangesObject (snapshots_of f) h number new i.bytes (repaint i.bytes))
    → StandsFor pending (after_served r me (op.Data image number o)) (repainted f image repaint)
data_stands pending r f me image number h context new repaint o stands is of done made isChanged =
    subst (λ (object : Option Mapped). StandsFor pending (with_object image number object r) (repainted f image repaint))
    (sym (done_after (r.objects image number) o done ∙ ap Some made))
    (head_stands pending r f image number h context new repaint stands is of isChanged)

-- ---- what is painted

zero_anyway : (b : Bool) → ◌≡◌ {A = ℕ} (cond b 0 0) 0
zero_anyway true = refl
zero_anyway false = refl

module _ (below : Snapshots) (linked : Links) (h : HeaderView) (objects : ℕ → Mapped) (i : FlatImage) (stands : ImageStands below linked h objects i) (n : ℕ) (parts : List Part) where
  abbrev old_head : List ℕ
  old_head = unwrap_or (objects n).head []

  old_at : IsCopiedUp h n (objects n) → (x : ℕ) → x < h.size → object_of h.layout x ≡ n → get_or i.bytes x 0 ≡ get_or old_head (offset_of h.layout x) 0
  old_at up x within same =
      stands.bytes.head x within
      ∙ ap (λ m. shown below h.parent (objects m).head (offset_of h.layout x) x) same
      ∙ own_bytes below h.parent (byte_at h.layout n 0) (objects n).head up (offset_of h.layout x) x
      (let first = first_below h.layout stands.laid x in subst (λ m. byte_at h.layout m 0 ≤ x) same first)

  new_at : (bytes : List ℕ) (x : ℕ) → x < h.size → get_or (painted (places_of (extents_of parts)) bytes i.bytes) x 0 ≡ painted_at (extents_of parts) bytes (get_or i.bytes x 0) x
  new_at bytes x within = painted_extents (extents_of parts) bytes i.bytes x (let long = stands.long.head in omega arith)

  zeros_now : (x : ℕ) → x < h.size → get_or (painted (places_of (extents_of parts)) [] i.bytes) x 0 ≡ cond (covered (extents_of parts) x) 0 (get_or i.bytes x 0)
  zeros_now x within = new_at [] x within ∙ painted_at_zeros (extents_of parts) (get_or i.bytes x 0) x

  old_past : (x : ℕ) → h.size ≤ x → object_of h.layout x ≡ n → get_or old_head (offset_of h.layout x) 0 ≡ 0
  old_past x past same = ap (λ m. get_or (unwrap_or (objects m).head []) (offset_of h.layout x) 0) (sym same) ∙ stands.clear x past

  beside : (bytes : List ℕ) → All (IsPart h.layout n) parts → (x : ℕ) → x < h.size → object_of h.layout x ≢ n → get_or (painted (places_of (extents_of parts)) bytes i.bytes) x 0 ≡ get_or i.bytes x 0
  beside bytes lie x within other = new_at bytes x within ∙ painted_beside parts bytes (get_or i.bytes x 0) x (beside_elsewhere h.layout stands.laid n parts lie x other)

  -- ---- bytes into parts

  abbrev written : List ℕ → List ℕ
  written bytes = parts_written parts bytes old_head

  written_at : (bytes : List ℕ) → MayWriteParts parts bytes → All (IsPart h.layout n) parts → (x : ℕ) → object_of h.layout x ≡ n
      → get_or (written bytes) (offset_of h.layout x) 0 ≡ painted_at (extents_of parts) bytes (get_or old_head (offset_of h.layout x) 0) x
  written_at bytes may lie x same = parts_at h.layout stands.laid n parts lie bytes old_head may.long x same

  pub write_is_change : (bytes : List ℕ) → MayWriteParts parts bytes → ArePartsBelow h h.size n parts → IsCopiedUp h n (objects n)
      → ChangesObject below h n (Some (written bytes)) i.bytes (painted (places_of (extents_of parts)) bytes i.bytes)
  write_is_change bytes may lie up =
      let are : All (IsPart h.layout n) parts = (λ k d less. (lie k d less).part) in
      record {
        long = length_painted (places_of (extents_of parts)) bytes i.bytes;
        here = λ x within same. new_at bytes x within ∙ ap (λ old. painted_at (extents_of parts) bytes old x) (old_at up x within same) ∙ sym (written_at bytes may are x same);
        elsewhere = beside bytes are;
        clear = λ x past same. written_at bytes may are x same
            ∙ painted_beside parts bytes (get_or old_head (offset_of h.layout x) 0) x (beside_past h h.size n parts lie x past)
            ∙ old_past x past same;
        there = λ inside. refl;
      }

  -- ---- zeros into parts

  zeroed_shown : (head : Option (List ℕ)) → (IsInOverlap h.parent (byte_at h.layout n 0) → IsSome head) → All (IsPart h.layout n) parts → (x : ℕ) → object_of h.layout x ≡ n
      → shown below h.parent (option_map (parts_zeroed parts) head) (offset_of h.layout x) x ≡ cond (covered (extents_of parts) x) 0 (get_or (unwrap_or head []) (offset_of h.layout x) 0)
  zeroed_shown None up lie x same =
      own_bytes below h.parent (byte_at h.layout n 0) None up (offset_of h.layout x) x (let first = first_below h.layout stands.laid x in subst (λ m. byte_at h.layout m 0 ≤ x) same first)
      ∙ sym (zero_anyway (covered (extents_of parts) x))
  zeroed_shown (Some bytes) up lie x same = zeros_at h.layout stands.laid n parts lie bytes x same

  zeroed_past : (head : Option (List ℕ)) → All (IsPart h.layout n) parts → (x : ℕ) → object_of h.layout x ≡ n → get_or (unwrap_or head []) (offset_of h.layout x) 0 ≡ 0
      → get_or (unwrap_or (option_map (parts_zeroed parts) head) []) (offset_of h.layout x) 0 ≡ 0
  zeroed_past None lie x same none = none
  zeroed_past (Some bytes) lie x same none =
      zeros_at h.layout stands.laid n parts lie bytes x same ∙ ap (cond (covered (extents_of parts) x) 0) none ∙ zero_anyway (covered (extents_of parts) x)

  still_there : (head : Option (List ℕ)) → IsSome head → IsSome (option_map (parts_zeroed parts) head)
  still_there None some = some
  still_there (Some bytes) some = refl

  pub zero_is_change : All (IsPart h.layout n) parts → IsCopiedUp h n (objects n)
      → ChangesObject below h n (option_map (parts_zeroed parts) (objects n).head) i.bytes (painted (places_of (extents_of parts)) [] i.bytes)
  zero_is_change lie up = record {
    long = length_painted (places_of (extents_of parts)) [] i.bytes;
    here = λ x within same. zeros_now x within ∙ ap (cond (covered (extents_of parts) x) 0) (old_at up x within same) ∙ sym (zeroed_shown (objects n).head up lie x same);
    elsewhere = beside [] lie;
    clear = λ x past same. zeroed_past (objects n).head lie x same (old_past x past same);
    there = λ inside. still_there (objects n).head (up inside);
  }

  -- ---- the whole object

  whole_covered : AreWhole h n parts → (x : ℕ) → x < h.size → object_of h.layout x ≡ n → covered (extents_of parts) x ≡ true
  whole_covered are x within same =
      let place = (parts_cover h.layout (record { at = 0; len = h.size }) n parts are x).1 ((omega arith, omega arith), same) in
      any_covered parts x place.0 place.1 place.2 place.3 place.4.0 place.4.1

  cleared : AreWhole h n parts → (x : ℕ) → x < h.size → object_of h.layout x ≡ n → get_or (painted (places_of (extents_of parts)) [] i.bytes) x 0 ≡ 0
  cleared are x within same = zeros_now x within ∙ ap (λ b. cond b 0 (get_or i.bytes x 0)) (whole_covered are x within same)

  pub empty_is_change : AreWhole h n parts → ChangesObject below h n (Some []) i.bytes (painted (places_of (extents_of parts)) [] i.bytes)
  empty_is_change are = record {
    long = length_painted (places_of (extents_of parts)) [] i.bytes;
    here = cleared are;
    elsewhere = beside [] are.each;
    clear = λ x past same. refl;
    there = λ inside. refl;
  }

  pub remove_is_change : AreWhole h n parts → (IsInside h n → ⊥) → ChangesObject below h n None i.bytes (painted (places_of (extents_of parts)) [] i.bytes)
  remove_is_change are outside = record {
    long = length_painted (places_of (extents_of parts)) [] i.bytes;
    here = λ x within same. cleared are x within same
        ∙ sym (own_bytes below h.parent (byte_at h.layout n 0) None (λ inside. absurd (outside inside)) (offset_of h.layout x) x
        (let first = first_below h.layout stands.laid x in subst (λ m. byte_at h.layout m 0 ≤ x) same first));
    elsewhere = beside [] are.each;
    clear = λ x past same. refl;
    there = λ inside. absurd (outside inside);
  }

  replaced_at : (bytes : List ℕ) → AreWhole h n parts → (x : ℕ) → x < h.size → object_of h.layout x ≡ n
      → get_or (painted (places_of (extents_of parts)) bytes i.bytes) x 0 ≡ get_or bytes (offset_of h.layout x) 0
  replaced_at bytes are x within same =
      painted_place (places_of (extents_of parts)) bytes i.bytes x (let long = stands.long.head in omega arith)
      ∙ ap (λ places. painted_byte places bytes (get_or i.bytes x 0) x) (whole_places h.layout stands.laid n h.size parts are)
      ∙ in_whole h.layout stands.laid n 0 h.size 0 (held_at_start h.layout n) bytes (get_or i.bytes x 0) x same (omega arith) (omega arith)

  pub replace_is_change : (bytes : List ℕ) → AreWhole h n parts → IsZeroPast h n bytes → ChangesObject below h n (Some bytes) i.bytes (painted (places_of (extents_of parts)) bytes i.bytes)
  replace_is_change bytes are past_zero = record {
    long = length_painted (places_of (extents_of parts)) bytes i.bytes;
    here = replaced_at bytes are;
    elsewhere = beside bytes are.each;
    clear = past_zero;
    there = λ inside. refl;
  }

-- ---- each operation

write_served : (pending : List Pending) (r : Records) (f : Flat) (me : Instance) (image number : ℕ) (h : HeaderView) (context : SnapContext) (must : Bool) (parts : List Part) (bytes : List ℕ)
    → StandsFor pending r f → r.headers image ≡ Some h → IsContextOf h context → MayWriteParts parts bytes
    → ArePartsBelow h h.size number parts → IsCopiedUp h number (object_at r image number)
    → answer_served r me (op.Data image number (data_op.Write context must parts bytes)) ≡ answer.Done
    → StandsFor pending (after_served r me (op.Data image number (data_op.Write context must parts bytes))) (flat.after f (effect.Piece image (extents_of parts) bytes))
write_served pending r f me image number h context must parts bytes stands is of may lie up done =
    data_stands pending r f me image number h context _ (painted (places_of (extents_of parts)) bytes) (data_op.Write context must parts bytes) stands is of done refl
    (λ i at st. write_is_change (snapshots_of f) (links_of f image) h (object_at r image) i st number parts bytes may lie up)

pub write_stands : (pending : List Pending) (r : Records) (f : Flat) (me : Instance) (image number : ℕ) (h : HeaderView) (context : SnapContext) (must : Bool) (parts : List Part) (bytes : List ℕ)
    → StandsFor pending r f → r.headers image ≡ Some h → IsContextOf h context → MayWriteParts parts bytes
    → ArePartsBelow h h.size number parts → IsCopiedUp h number (object_at r image number)
    → answer_to r me (op.Data image number (data_op.Write context must parts bytes)) ≡ answer.Done
    → StandsFor pending (after r me (op.Data image number (data_op.Write context must parts bytes))) (flat.after f (effect.Piece image (extents_of parts) bytes))
write_stands pending r f me image number h context must parts bytes stands is of may lie up =
    where_served (λ (s : Records). StandsFor pending s (flat.after f (effect.Piece image (extents_of parts) bytes))) r me (op.Data image number (data_op.Write context must parts bytes)) answer.Done refl
    (write_served pending r f me image number h context must parts bytes stands is of may lie up)

zero_served : (pending : List Pending) (r : Records) (f : Flat) (me : Instance) (image number : ℕ) (h : HeaderView) (context : SnapContext) (must : Bool) (parts : List Part)
    → StandsFor pending r f → r.headers image ≡ Some h → IsContextOf h context
    → All (IsPart h.layout number) parts → IsCopiedUp h number (object_at r image number)
    → answer_served r me (op.Data image number (data_op.Zero context must parts)) ≡ answer.Done
    → StandsFor pending (after_served r me (op.Data image number (data_op.Zero context must parts))) (flat.after f (effect.Zero image (extents_of parts)))
zero_served pending r f me image number h context must parts stands is of lie up done =
    data_stands pending r f me image number h context _ (painted (places_of (extents_of parts)) []) (data_op.Zero context must parts) stands is of done refl
    (λ i at st. zero_is_change (snapshots_of f) (links_of f image) h (object_at r image) i st number parts lie up)

pub zero_stands : (pending : List Pending) (r : Records) (f : Flat) (me : Instance) (image number : ℕ) (h : HeaderView) (context : SnapContext) (must : Bool) (parts : List Part)
    → StandsFor pending r f → r.headers image ≡ Some h → IsContextOf h context
    → All (IsPart h.layout number) parts → IsCopiedUp h number (object_at r image number)
    → answer_to r me (op.Data image number (data_op.Zero context must parts)) ≡ answer.Done
    → StandsFor pending (after r me (op.Data image number (data_op.Zero context must parts))) (flat.after f (effect.Zero image (extents_of parts)))
zero_stands pending r f me image number h context must parts stands is of lie up =
    where_served (λ (s : Records). StandsFor pending s (flat.after f (effect.Zero image (extents_of parts)))) r me (op.Data image number (data_op.Zero context must parts)) answer.Done refl
    (zero_served pending r f me image number h context must parts stands is of lie up)

empty_served : (pending : List Pending) (r : Records) (f : Flat) (me : Instance) (image number : ℕ) (h : HeaderView) (context : SnapContext) (parts : List Part)
    → StandsFor pending r f → r.headers image ≡ Some h → IsContextOf h context → AreWhole h number parts
    → answer_served r me (op.Data image number (data_op.Empty context)) ≡ answer.Done
    → StandsFor pending (after_served r me (op.Data image number (data_op.Empty context))) (flat.after f (effect.Zero image (extents_of parts)))
empty_served pending r f me image number h context parts stands is of are done =
    data_stands pending r f me image number h context _ (painted (places_of (extents_of parts)) []) (data_op.Empty context) stands is of done refl
    (λ i at st. empty_is_change (snapshots_of f) (links_of f image) h (object_at r image) i st number parts are)

pub empty_stands : (pending : List Pending) (r : Records) (f : Flat) (me : Instance) (image number : ℕ) (h : HeaderView) (context : SnapContext) (parts : List Part)
    → StandsFor pending r f → r.headers image ≡ Some h → IsContextOf h context → AreWhole h number parts
    → answer_to r me (op.Data image number (data_op.Empty context)) ≡ answer.Done
    → StandsFor pending (after r me (op.Data image number (data_op.Empty context))) (flat.after f (effect.Zero image (extents_of parts)))
empty_stands pending r f me image number h context parts stands is of are =
    where_served (λ (s : Records). StandsFor pending s (flat.after f (effect.Zero image (extents_of parts)))) r me (op.Data image number (data_op.Empty context)) answer.Done refl
    (empty_served pending r f me image number h context parts stands is of are)

remove_served : (pending : List Pending) (r : Records) (f : Flat) (me : Instance) (image number : ℕ) (h : HeaderView) (context : SnapContext) (parts : List Part)
    → StandsFor pending r f → r.headers image ≡ Some h → IsContextOf h context → AreWhole h number parts → (IsInside h number → ⊥)
    → answer_served r me (op.Data image number (data_op.Remove context)) ≡ answer.Done
    → StandsFor pending (after_served r me (op.Data image number (data_op.Remove context))) (flat.after f (effect.Zero image (extents_of parts)))
remove_served pending r f me image number h context parts stands is of are outside done =
    data_stands pending r f me image number h context _ (painted (places_of (extents_of parts)) []) (data_op.Remove context) stands is of done refl
    (λ i at st. remove_is_change (snapshots_of f) (links_of f image) h (object_at r image) i st number parts are outside)

pub remove_stands : (pending : List Pending) (r : Records) (f : Flat) (me : Instance) (image number : ℕ) (h : HeaderView) (context : SnapContext) (parts : List Part)
    → StandsFor pending r f → r.headers image ≡ Some h → IsContextOf h context → AreWhole h number parts → (IsInside h number → ⊥)
    → answer_to r me (op.Data image number (data_op.Remove context)) ≡ answer.Done
    → StandsFor pending (after r me (op.Data image number (data_op.Remove context))) (flat.after f (effect.Zero image (extents_of parts)))
remove_stands pending r f me image number h context parts stands is of are outside =
    where_served (λ (s : Records). StandsFor pending s (flat.after f (effect.Zero image (extents_of parts)))) r me (op.Data image number (data_op.Remove context)) answer.Done refl
    (remove_served pending r f me image number h context parts stands is of are outside)

replace_served : (pending : List Pending) (r : Records) (f : Flat) (me : Instance) (image number : ℕ) (h : HeaderView) (context : SnapContext) (bytes : List ℕ) (parts : List Part)
    → StandsFor pending r f → r.headers image ≡ Some h → IsContextOf h context → AreWhole h number parts → IsZeroPast h number bytes
    → answer_served r me (op.Data image number (data_op.WriteFull context bytes)) ≡ answer.Done
    → StandsFor pending (after_served r me (op.Data image number (data_op.WriteFull context bytes))) (flat.after f (effect.Piece image (extents_of parts) bytes))
replace_served pending r f me image number h context bytes parts stands is of are past_zero done =
    data_stands pending r f me image number h context _ (painted (places_of (extents_of parts)) bytes) (data_op.WriteFull context bytes) stands is of done refl
    (λ i at st. replace_is_change (snapshots_of f) (links_of f image) h (object_at r image) i st number parts bytes are past_zero)

pub replace_stands : (pending : List Pending) (r : Records) (f : Flat) (me : Instance) (image number : ℕ) (h : HeaderView) (context : SnapContext) (bytes : List ℕ) (parts : List Part)
    → StandsFor pending r f → r.headers image ≡ Some h → IsContextOf h context → AreWhole h number parts → IsZeroPast h number bytes
    → answer_to r me (op.Data image number (data_op.WriteFull context bytes)) ≡ answer.Done
    → StandsFor pending (after r me (op.Data image number (data_op.WriteFull context bytes))) (flat.after f (effect.Piece image (extents_of parts) bytes))
replace_stands pending r f me image number h context bytes parts stands is of are past_zero =
    where_served (λ (s : Records). StandsFor pending s (flat.after f (effect.Piece image (extents_of parts) bytes))) r me (op.Data image number (data_op.WriteFull context bytes)) answer.Done refl
    (replace_served pending r f me image number h context bytes parts stands is of are past_zero)
