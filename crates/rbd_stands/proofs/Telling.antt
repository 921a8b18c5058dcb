-- What a header and the objects tell of the flat image.
use Rattle.std.proofs.Common.{◌≡◌, ◌↔◌, ℕ, ◌+◌, ◌-◌, ◌<◌, cond, inl, inr, List, [], ◌∷◌, ◌++◌, length, map, get_or, Option, Some, None, option_map, unwrap_or, refl, sym, ◌∙◌, ap, subst, arith}
use Rattle.std.specs.Prelude.{IsFalse, nat_eq}
use Rattle.std.specs.Cmp.Lexicographic.{pointwise}
use Rattle.std.proofs.lemmas.Bool.{cases_lt, le-ltb}
use Rattle.std.proofs.lemmas.Option.{same_Some}
use Rattle.std.proofs.lemmas.List.Elements.{All-head, All-tail}
use Rattle.std.proofs.lemmas.List.FromFn.{fill_by_all}
use Rattle.rbd_kinds.specs.declared.answer.Answer.{Answer}
use Rattle.rbd_kinds.specs.declared.answer.Answer.TheVariants as answer
use Rattle.rbd_kinds.specs.declared.data_op.DataOp.TheVariants as data_op
use Rattle.rbd_kinds.specs.declared.header.HeaderView.{HeaderView}
use Rattle.rbd_kinds.specs.declared.header.ParentLink.{ParentLink}
use Rattle.rbd_kinds.specs.declared.header.SnapView.{SnapView}
use Rattle.rbd_kinds.specs.declared.header_op.HeaderOp.TheVariants as header_op
use Rattle.rbd_kinds.specs.declared.id.Instance.{Instance}
use Rattle.rbd_kinds.specs.declared.layout.Part.{Part}
use Rattle.rbd_kinds.specs.declared.operation.Op.TheVariants as op
use Rattle.rbd_kinds.specs.Header.{snap_named}
use Rattle.rbd_kinds.specs.Striping.{object_of, offset_of}
use Rattle.rbd_header.specs.Header.{snap_in}
use Rattle.rbd_parts.specs.Contents.{window}
use Rattle.rbd_object.specs.Mapped.{Mapped, versioned}
use Rattle.rbd_object.specs.Versioned.{view}
use Rattle.rbd_parts.proofs.ContentsLemmas.{length-window, get_or-window}
use Rattle.rbd_flat.specs.Flat.{Flat, FlatImage, FlatSnap, image_at}
use Rattle.rbd_flat.specs.Flat as flat
use Rattle.rbd_flat.specs.Laws.{snap_byte}
use Rattle.rbd_flat.specs.Read.{image_view, view_at}
use Rattle.rbd_parts.specs.Parts.{parts_of}
use Rattle.rbd_site.specs.DataStep.{parts_read}
use Rattle.rbd_site.specs.HeaderStep.{header_answer}
use Rattle.rbd_site.specs.Records.{Records, object_at}
use Rattle.rbd_site.specs.Step.{is_fenced, answer_to, answer_served}
use Rattle.rbd_stands.specs.View.{Shape, shape_of, shape_of_head, shape_of_snap}
use Rattle.rbd_stands.specs.Shown.{Snapshots, IsInOverlap, snapshots_of, inherited, shown, Links, links_of}
use Rattle.rbd_stands.specs.Image.{ImageStands, SnapLine, line_of_snap, line_of_flat}
use Rattle.rbd_stands.specs.Site.{StandsAt, StandsFor, Pending}
use Rattle.rbd_stands.specs.Condition.{IsPartBelow, ArePartsBelow}
use Rattle.rbd_stands.specs.Reading.{IsToldBy, TellsFlatImage, IsAt, AreFlatBytes, AreInherited, flat_snap_named, bytes_at_parts}
use Rattle.rbd_stands.proofs.Lookups.{map_cond, a_value, line_at, flat_there, flat_missing}
use Rattle.rbd_stands.proofs.SiteSteps.{here}
use Rattle.rbd_stands.proofs.Served.{free_answer, where_served}

-- ---- the header

line_named : List SnapLine → List ℕ → Option SnapLine
line_named [] name = None
line_named (l ∷ lines) name = cond (pointwise nat_eq l.name name) (Some l) (line_named lines name)

header_named : (snaps : List SnapView) (name : List ℕ) → option_map line_of_snap (snap_named snaps name) ≡ line_named (map line_of_snap snaps) name
unfolding line_named
header_named [] name = refl
header_named (s ∷ snaps) name =
    map_cond line_of_snap (pointwise nat_eq s.name name) s (snap_named snaps name) ∙ ap (cond (pointwise nat_eq s.name name) (Some (line_of_snap s))) (header_named snaps name)

flat_named : (snaps : List FlatSnap) (name : List ℕ) → option_map line_of_flat (flat_snap_named snaps name) ≡ line_named (map line_of_flat snaps) name
unfolding line_named
flat_named [] name = refl
flat_named (s ∷ snaps) name =
    map_cond line_of_flat (pointwise nat_eq s.name name) s (flat_snap_named snaps name) ∙ ap (cond (pointwise nat_eq s.name name) (Some (line_of_flat s))) (flat_named snaps name)

module _ (below : Snapshots) (linked : Links) (h : HeaderView) (objects : ℕ → Mapped) (i : FlatImage) (stands : ImageStands below linked h objects i) where
  snap_size : (t : ℕ) (o : Option SnapView) → snap_in h.snaps t ≡ o → option_map (λ (s : FlatSnap). length s.bytes) (flat.snap_in i.snaps t) ≡ option_map (λ (s : SnapView). s.size) o
  snap_size t None is = ap (option_map (λ (s : FlatSnap). length s.bytes)) (flat_missing h.snaps i.snaps stands.same t is)
  snap_size t (Some s) is =
      let there = flat_there h.snaps i.snaps stands.same t s is in
      ap (option_map (λ (u : FlatSnap). length u.bytes)) there.1
      ∙ ap Some (ap length (sym (ap (λ (o : Option FlatSnap). unwrap_or (option_map {T = FlatSnap} (λ u. u.bytes) o) []) there.1)) ∙ stands.long.snap t s is)

  pub told : IsToldBy h i
  told = record {
    size = stands.long.head;
    role = sym stands.role;
    snaps = sym stands.same;
    by_name = λ name. flat_named i.snaps name ∙ ap (λ lines. line_named lines name) (sym stands.same) ∙ sym (header_named h.snaps name);
    by_id = line_at h.snaps i.snaps stands.same;
    snap_sizes = λ t. snap_size t (snap_in h.snaps t) refl;
  }

header_served : (pending : List Pending) (r : Records) (f : Flat) (me : Instance) (image : ℕ) (h : HeaderView) → StandsFor pending r f
    → answer_served r me (op.Header image header_op.Get) ≡ answer.Header h → TellsFlatImage h (image_at f image)
header_served pending r f me image h stands answered = go (r.headers image) refl
  where
    go : (header : Option HeaderView) → r.headers image ≡ header → TellsFlatImage h (image_at f image)
    go None is = absurd (let e = sym (ap (λ (p : Option HeaderView). header_answer me p (r.watchers image) header_op.Get) is) ∙ answered in cc)
    go (Some k) is =
        let e : answer.Header k ≡ answer.Header h = sym (ap (λ (p : Option HeaderView). header_answer me p (r.watchers image) header_op.Get) is) ∙ answered in
        let same : k ≡ h = cc in
        let was = here (snapshots_of f) (links_of f image) (r.headers image) (object_at r image) (image_at f image) k is (stands.images image) in
        subst (λ j. TellsFlatImage j (image_at f image)) same
        (subst (TellsFlatImage k) (sym was.is) (told (snapshots_of f) (links_of f image) k (object_at r image) was.image was.stands))

pub header_told : (pending : List Pending) (r : Records) (f : Flat) (me : Instance) (image : ℕ) (h : HeaderView) → StandsFor pending r f
    → answer_to r me (op.Header image header_op.Get) ≡ answer.Header h → TellsFlatImage h (image_at f image)
header_told pending r f me image h stands =
    where_served (λ (s : Records). TellsFlatImage h (image_at f image)) r me (op.Header image header_op.Get) (answer.Header h) refl
    (header_served pending r f me image h stands)

absence_at : (below : Snapshots) (linked : Links) (me : Instance) (header : Option HeaderView) (watchers : List Instance) (objects : ℕ → Mapped) (o : Option FlatImage) → StandsAt below linked header objects o
    → (header_answer me header watchers header_op.Get ≡ answer.Absent) ↔ (o ≡ None)
absence_at below linked me None watchers objects None stands = (λ _. refl, λ _. refl)
absence_at below linked me None watchers objects (Some i) stands = absurd stands
absence_at below linked me (Some h) watchers objects None stands = absurd stands
absence_at below linked me (Some h) watchers objects (Some i) stands = (λ e. absurd (cc), λ e. absurd (cc))

pub absence_of_header : (pending : List Pending) (r : Records) (f : Flat) (me : Instance) (image : ℕ) → StandsFor pending r f → IsFalse (is_fenced r me)
    → (answer_to r me (op.Header image header_op.Get) ≡ answer.Absent) ↔ (image_at f image ≡ None)
absence_of_header pending r f me image stands free =
    subst (λ (a : Answer). (a ≡ answer.Absent) ↔ (image_at f image ≡ None)) (free_answer r me (op.Header image header_op.Get) free)
    (absence_at (snapshots_of f) (links_of f image) me (r.headers image) (r.watchers image) (object_at r image) (image_at f image) (stands.images image))

-- ---- the objects

-- a view of the flat image, and what it shows
record Viewed (below : Snapshots) (h : HeaderView) (objects : ℕ → Mapped) (i : FlatImage) (v : Option ℕ) (shape : Shape) : Type 0 where
  pub shown_bytes : List ℕ
  pub is : image_view i v ≡ Some shown_bytes
  pub shows : (x : ℕ) → x < shape.size → get_or shown_bytes x 0 ≡ shown below shape.parent (view (versioned (objects (object_of h.layout x))) v) (offset_of h.layout x) x

viewed : (below : Snapshots) (linked : Links) (h : HeaderView) (objects : ℕ → Mapped) (i : FlatImage) (v : Option ℕ) (shape : Shape) → ImageStands below linked h objects i → shape_of h v ≡ Some shape
    → Viewed below h objects i v shape
viewed below linked h objects i None shape stands e =
    subst (Viewed below h objects i None) (same_Some (shape_of_head h) shape e)
    (record { shown_bytes = i.bytes; is = refl; shows = stands.bytes.head })
viewed below linked h objects i (Some t) shape stands e =
    let s = a_value shape_of_snap (snap_in h.snaps t) shape e in
    let there = flat_there h.snaps i.snaps stands.same t s.0 s.1 in
    let is : image_view i (Some t) ≡ Some there.0.bytes = ap (option_map {T = FlatSnap} (λ u. u.bytes)) there.1 in
    subst (Viewed below h objects i (Some t)) s.2
    (record {
      shown_bytes = there.0.bytes;
      is = is;
      shows = λ x within. ap (λ (o : Option (List ℕ)). get_or (unwrap_or o []) x 0) (sym is) ∙ stands.bytes.snap t s.0 s.1 x within;
    })

window_same : (p : Part) (content bytes : List ℕ) → ((k : ℕ) → k < p.len → get_or bytes (p.at + k) 0 ≡ get_or content (p.offset + k) 0) → window content p.offset p.len ≡ window bytes p.at p.len
window_same p content bytes same =
    fill_by_all (λ k. get_or bytes (p.at + k) 0) (window content p.offset p.len) p.len 0 (length-window content p.offset p.len)
    (λ k less. get_or-window content p.offset p.len k less ∙ sym (same k less))

parts_same : (h : HeaderView) (size n : ℕ) (content bytes : List ℕ) → ((x : ℕ) → x < size → object_of h.layout x ≡ n → get_or bytes x 0 ≡ get_or content (offset_of h.layout x) 0)
    → (parts : List Part) → ArePartsBelow h size n parts → parts_of parts content ≡ bytes_at_parts parts bytes
parts_same h size n content bytes same [] lie = refl
parts_same h size n content bytes same (p ∷ parts) lie =
    let first = All-head (IsPartBelow h size n) p parts lie in
    ap (λ xs. xs ++ parts_of parts content) (window_same p content bytes (λ k less.
    same (p.at + k) (omega (arith, less, first.below)) (first.part.lies k less).0 ∙ ap (λ m. get_or content m 0) (first.part.lies k less).1))
    ∙ ap (λ xs. window bytes p.at p.len ++ xs) (parts_same h size n content bytes same parts (All-tail (IsPartBelow h size n) p parts lie))

read_bytes : (parts : List Part) (content : Option (List ℕ)) (bytes : List ℕ) → parts_read parts content ≡ answer.Bytes bytes → (c : List ℕ) × (content ≡ Some c) × (parts_of parts c ≡ bytes)
read_bytes parts None bytes e = absurd (cc)
read_bytes parts (Some c) bytes e = (c, refl, cc)

read_none : (parts : List Part) (content : Option (List ℕ)) → parts_read parts content ≡ answer.Absent → content ≡ None
read_none parts None e = refl
read_none parts (Some c) e = absurd (cc)

bytes_served : (pending : List Pending) (r : Records) (f : Flat) (me : Instance) (image number : ℕ) (h : HeaderView) (v : Option ℕ) (shape : Shape) (parts : List Part) (bytes : List ℕ)
    → StandsFor pending r f → r.headers image ≡ Some h → shape_of h v ≡ Some shape → ArePartsBelow h shape.size number parts
    → answer_served r me (op.Data image number (data_op.Read v parts)) ≡ answer.Bytes bytes
    → AreFlatBytes f image v parts bytes
bytes_served pending r f me image number h v shape parts bytes stands is seen lie answered =
    let was = here (snapshots_of f) (links_of f image) (r.headers image) (object_at r image) (image_at f image) h is (stands.images image) in
    let at = viewed (snapshots_of f) (links_of f image) h (object_at r image) was.image v shape was.stands seen in
    let read = read_bytes parts (view (versioned (object_at r image number)) v) bytes answered in
    record {
      flat = at.shown_bytes;
      is = ap (λ o. view_at o v) was.is ∙ at.is;
      same = sym read.2 ∙ parts_same h shape.size number read.0 at.shown_bytes (λ x within same.
          at.shows x within
          ∙ ap (λ m. shown (snapshots_of f) shape.parent (view (versioned (object_at r image m)) v) (offset_of h.layout x) x) same
          ∙ ap (λ content. shown (snapshots_of f) shape.parent content (offset_of h.layout x) x) read.1) parts lie;
    }

pub bytes_told : (pending : List Pending) (r : Records) (f : Flat) (me : Instance) (image number : ℕ) (h : HeaderView) (v : Option ℕ) (shape : Shape) (parts : List Part) (bytes : List ℕ)
    → StandsFor pending r f → r.headers image ≡ Some h → shape_of h v ≡ Some shape → ArePartsBelow h shape.size number parts
    → answer_to r me (op.Data image number (data_op.Read v parts)) ≡ answer.Bytes bytes
    → AreFlatBytes f image v parts bytes
bytes_told pending r f me image number h v shape parts bytes stands is seen lie =
    where_served (λ (s : Records). AreFlatBytes f image v parts bytes) r me (op.Data image number (data_op.Read v parts)) (answer.Bytes bytes) refl
    (bytes_served pending r f me image number h v shape parts bytes stands is seen lie)

uncovered : (below : Snapshots) (parent : Option ParentLink) (x : ℕ) → (IsInOverlap parent x → ⊥) → inherited below parent x ≡ 0
uncovered below None x none = refl
uncovered below (Some link) x none = elim (cases_lt x link.overlap) [
  | inl less ↦ absurd (none less)
  | inr past ↦ ap (λ b. cond b (snap_byte (below link.image link.snap) 0 x) 0) (le-ltb x link.overlap past)
]

absence_served : (pending : List Pending) (r : Records) (f : Flat) (me : Instance) (image number : ℕ) (h : HeaderView) (v : Option ℕ) (shape : Shape) (parts : List Part)
    → StandsFor pending r f → r.headers image ≡ Some h → shape_of h v ≡ Some shape → ArePartsBelow h shape.size number parts
    → answer_served r me (op.Data image number (data_op.Read v parts)) ≡ answer.Absent
    → AreInherited f image v shape.parent parts
absence_served pending r f me image number h v shape parts stands is seen lie answered =
    let was = here (snapshots_of f) (links_of f image) (r.headers image) (object_at r image) (image_at f image) h is (stands.images image) in
    let at = viewed (snapshots_of f) (links_of f image) h (object_at r image) was.image v shape was.stands seen in
    let none = read_none parts (view (versioned (object_at r image number)) v) answered in
    let from : (x : ℕ) → IsAt parts x → get_or at.shown_bytes x 0 ≡ inherited (snapshots_of f) shape.parent x =
    λ x place.
    let p = place.1 in
    let lies : IsPartBelow h shape.size number p = subst (IsPartBelow h shape.size number) place.3 (lie place.0 p place.2) in
    let back : p.at + (x - p.at) ≡ x = (let low = place.4.0 in omega arith) in
    let same : object_of h.layout x ≡ number = ap (object_of h.layout) (sym back) ∙ (lies.part.lies (x - p.at) (let high = place.4.1 in let low = place.4.0 in omega arith)).0 in
    at.shows x (let high = place.4.1 in let b = lies.below in omega arith)
    ∙ ap (λ m. shown (snapshots_of f) shape.parent (view (versioned (object_at r image m)) v) (offset_of h.layout x) x) same
    ∙ ap (λ content. shown (snapshots_of f) shape.parent content (offset_of h.layout x) x) none in
    record {
      flat = at.shown_bytes;
      is = ap (λ o. view_at o v) was.is ∙ at.is;
      covered = λ x place covers. from x place;
      zeros = λ x place outside. from x place ∙ uncovered (snapshots_of f) shape.parent x outside;
    }

pub absence_told : (pending : List Pending) (r : Records) (f : Flat) (me : Instance) (image number : ℕ) (h : HeaderView) (v : Option ℕ) (shape : Shape) (parts : List Part)
    → StandsFor pending r f → r.headers image ≡ Some h → shape_of h v ≡ Some shape → ArePartsBelow h shape.size number parts
    → answer_to r me (op.Data image number (data_op.Read v parts)) ≡ answer.Absent
    → AreInherited f image v shape.parent parts
absence_told pending r f me image number h v shape parts stands is seen lie =
    where_served (λ (s : Records). AreInherited f image v shape.parent parts) r me (op.Data image number (data_op.Read v parts)) answer.Absent refl
    (absence_served pending r f me image number h v shape parts stands is seen lie)
