-- Size, status, role and parent of a header are set, and what it then stands for.
use Rattle.std.proofs.Common.{◌≡◌, ℕ, ◌<◌, ◌≤◌, min, cond, ltb, inl, inr, List, [], length, map, get_or, Option, Some, None, unwrap_or, refl, sym, ◌∙◌, ap, arith, true≢false, is_some}
use Rattle.std.proofs.lemmas.Bool.{cases_lt, lt-ltb, le-ltb}
use Rattle.std.proofs.lemmas.List.{get_or_past}
use Rattle.std.proofs.lemmas.List.FromFn.{length-map-range_with_len, get_or-map-range_with_len}
use Rattle.rbd_kinds.specs.declared.header.HeaderView.{HeaderView}
use Rattle.rbd_kinds.specs.declared.header.ParentLink.{ParentLink}
use Rattle.rbd_kinds.specs.declared.header.Role.{Role}
use Rattle.rbd_kinds.specs.declared.header.SnapStatus.{SnapStatus}
use Rattle.rbd_kinds.specs.Form.{IsOverlapWithin}
use Rattle.rbd_kinds.specs.Striping.{object_of, offset_of, byte_at}
use Rattle.rbd_layout.proofs.Places.{first_below}
use Rattle.rbd_header.specs.Header.{cut, with_size, with_status, with_role, detached}
use Rattle.rbd_header.proofs.Changed.{cut_within}
use Rattle.rbd_object.specs.Mapped.{Mapped}
use Rattle.rbd_flat.specs.Flat.{FlatImage, resized}
use Rattle.rbd_flat.specs.Flat as flat
use Rattle.rbd_flat.specs.Laws.{snap_byte}
use Rattle.rbd_stands.specs.View.{flat_bytes}
use Rattle.rbd_stands.specs.Shown.{Snapshots, HasParent, inherited, shown, Links, IsInOverlap}
use Rattle.rbd_stands.specs.Image.{ImageStands}
use Rattle.rbd_stands.specs.Condition.{IsCopiedUp, IsZeroedFrom}
use Rattle.rbd_stands.proofs.DataSteps.{own_bytes}
use Rattle.rbd_stands.proofs.Lookups.{lines_marked, flat_bytes_marked}
use Rattle.rbd_stands.proofs.Views.{each_marked}

-- ---- the parent is cut at the size

cut_test : (a size x : ℕ) → x < size → ltb x (min a size) ≡ ltb x a
cut_test a size x within = elim (cases_lt x a) [
  | inl less ↦ lt-ltb x (min a size) (omega arith) ∙ sym (lt-ltb x a less)
  | inr past ↦ le-ltb x (min a size) (omega arith) ∙ sym (le-ltb x a past)
]

cut_inherited : (below : Snapshots) (parent : Option ParentLink) (size x : ℕ) → x < size → inherited below (cut size parent) x ≡ inherited below parent x
cut_inherited below None size x within = refl
cut_inherited below (Some link) size x within = ap (λ b. cond b (snap_byte (below link.image link.snap) 0 x) 0) (cut_test link.overlap size x within)

cut_shown : (below : Snapshots) (parent : Option ParentLink) (size : ℕ) (content : Option (List ℕ)) (offset x : ℕ) → x < size → shown below (cut size parent) content offset x ≡ shown below parent content offset x
cut_shown below parent size None offset x within = cut_inherited below parent size x within
cut_shown below parent size (Some bytes) offset x within = refl

-- past the old size nothing is inherited
grown_inherited : (below : Snapshots) (parent : Option ParentLink) (old size x : ℕ) → IsOverlapWithin old parent → old ≤ x → inherited below (cut size parent) x ≡ 0
grown_inherited below None old size x within past = refl
grown_inherited below (Some link) old size x within past = ap (λ b. cond b (snap_byte (below link.image link.snap) 0 x) 0) (le-ltb x (min link.overlap size) (omega arith))

grown_shown : (below : Snapshots) (parent : Option ParentLink) (old size : ℕ) (content : Option (List ℕ)) (offset x : ℕ) → IsOverlapWithin old parent → old ≤ x → get_or (unwrap_or content []) offset 0 ≡ 0
    → shown below (cut size parent) content offset x ≡ 0
grown_shown below parent old size None offset x within past clear = grown_inherited below parent old size x within past
grown_shown below parent old size (Some bytes) offset x within past clear = clear

cut_parent : (below : Snapshots) (linked : Links) (parent : Option ParentLink) (size : ℕ) → HasParent below linked parent → HasParent below linked (cut size parent)
cut_parent below linked None size has = tt
cut_parent below linked (Some link) size has = record { snap = has.snap; is = has.is; long = (let l = has.long in omega arith); kept = has.kept; child = has.child }

cut_inside : (parent : Option ParentLink) (size x : ℕ) → IsInOverlap (cut size parent) x → IsInOverlap parent x
cut_inside None size x inside = inside
cut_inside (Some link) size x inside = omega arith

pub past_inherited : (below : Snapshots) (parent : Option ParentLink) (size x : ℕ) → IsOverlapWithin size parent → size ≤ x → inherited below parent x ≡ 0
past_inherited below None size x within past = refl
past_inherited below (Some link) size x within past = ap (λ b. cond b (snap_byte (below link.image link.snap) 0 x) 0) (le-ltb x link.overlap (omega arith))

module _ (below : Snapshots) (linked : Links) (h : HeaderView) (objects : ℕ → Mapped) (i : FlatImage) (stands : ImageStands below linked h objects i) where
  -- ---- a size

  resized_byte : (size x : ℕ) → x < size → get_or (resized size i.bytes) x 0 ≡ get_or i.bytes x 0
  resized_byte size x within = get_or-map-range_with_len (λ y. get_or i.bytes y 0) 0 size x x 0 within (omega arith)

  resized_shown : (size x : ℕ) → x < size → get_or (resized size i.bytes) x 0 ≡ shown below (cut size h.parent) (objects (object_of h.layout x)).head (offset_of h.layout x) x
  resized_shown size x within = elim (cases_lt x h.size) [
    | inl old ↦ resized_byte size x within ∙ stands.bytes.head x old ∙ sym (cut_shown below h.parent size (objects (object_of h.layout x)).head (offset_of h.layout x) x within)
    | inr new ↦ resized_byte size x within ∙ get_or_past i.bytes x 0 (let long = stands.long.head in omega arith)
        ∙ sym (grown_shown below h.parent h.size size (objects (object_of h.layout x)).head (offset_of h.layout x) x stands.within.head new (stands.clear x new))
  ]

  -- where an object inside the new overlap is absent, the head inherits what it did
  cut_alike : (size : ℕ) → IsZeroedFrom h size objects → (x : ℕ) → IsInOverlap (cut size h.parent) (byte_at h.layout (object_of h.layout x) 0) → (objects (object_of h.layout x)).head ≡ None
      → inherited below (cut size h.parent) x ≡ inherited below h.parent x
  cut_alike size zeroed x inside absent = elim (cases_lt x size) [
    | inl within ↦ cut_inherited below h.parent size x within
    | inr past ↦ elim (cases_lt x h.size) [
      | inl old ↦ absurd (true≢false (sym (zeroed.copied_up x past old inside) ∙ ap is_some absent))
      | inr new ↦ grown_inherited below h.parent h.size size x stands.within.head new ∙ sym (past_inherited below h.parent h.size x stands.within.head new)
    ]
  ]

  pub size_set : (size : ℕ) → IsZeroedFrom h size objects → ImageStands below linked (with_size size h) objects (record i { bytes = resized size i.bytes })
  size_set size zeroed = record {
    same = stands.same;
    role = stands.role;
    long = record { head = length-map-range_with_len (λ y. get_or i.bytes y 0) 0 size; snap = stands.long.snap };
    bytes = record { head = λ x within. resized_shown size x within; snap = stands.bytes.snap };
    parents = record { head = cut_parent below linked h.parent size stands.parents.head; snap = stands.parents.snap };
    within = record { head = cut_within size h.parent; snap = stands.within.snap };
    untouched = λ n inside absent. stands.untouched n (cut_inside h.parent size (byte_at h.layout n 0) inside) absent;
    alike = record {
      head = λ x inside absent. refl;
      snap = λ t s is x inside absent.
          stands.alike.snap t s is x (cut_inside h.parent size (byte_at h.layout (object_of h.layout x) 0) inside) absent
          ∙ sym (cut_alike size zeroed x inside absent);
    };
    clear = λ x past. elim (cases_lt x h.size) [
      | inl old ↦ zeroed.zeros x past old
      | inr new ↦ stands.clear x new
    ];
    tidy = stands.tidy;
    seen = stands.seen;
    numbered = record { head = stands.numbered.head; snap = stands.numbered.snap };
    laid = stands.laid;
  }

  -- ---- a role

  pub role_set : (role : Role) → ImageStands below linked (with_role role h) objects (record i { role = role })
  role_set role = record {
    same = stands.same;
    role = refl;
    long = record { head = stands.long.head; snap = stands.long.snap };
    bytes = record { head = stands.bytes.head; snap = stands.bytes.snap };
    parents = record { head = stands.parents.head; snap = stands.parents.snap };
    within = record { head = stands.within.head; snap = stands.within.snap };
    untouched = stands.untouched;
    alike = record { head = stands.alike.head; snap = stands.alike.snap };
    clear = stands.clear;
    tidy = stands.tidy;
    seen = stands.seen;
    numbered = record { head = stands.numbered.head; snap = stands.numbered.snap };
    laid = stands.laid;
  }

  -- ---- the status of a snapshot

  status_bytes : (t : ℕ) (status : SnapStatus) (u : ℕ) → flat_bytes (record i { snaps = map (flat.with_status t status) i.snaps }) (Some u) ≡ flat_bytes i (Some u)
  status_bytes t status u = ap (λ (o : Option (List ℕ)). unwrap_or o []) (flat_bytes_marked t status i.snaps u)

  pub status_set : (t : ℕ) (status : SnapStatus) → ImageStands below linked (with_status t status h) objects (record i { snaps = map (flat.with_status t status) i.snaps })
  status_set t status = record {
    same = lines_marked t status h.snaps i.snaps stands.same;
    role = stands.role;
    long = each_marked t status h (λ p. p) (λ u s is p. ap length (status_bytes t status u) ∙ p) stands.long;
    bytes = each_marked t status h (λ p. p) (λ u s is p x within. ap (λ bytes. get_or bytes x 0) (status_bytes t status u) ∙ p x within) stands.bytes;
    parents = each_marked t status h (λ p. p) (λ u s is p. p) stands.parents;
    within = each_marked t status h (λ p. p) (λ u s is p. p) stands.within;
    untouched = stands.untouched;
    alike = each_marked t status h (λ p. p) (λ u s is p. p) stands.alike;
    clear = stands.clear;
    tidy = stands.tidy;
    seen = stands.seen;
    numbered = each_marked t status h (λ p. p) (λ u s is p. p) stands.numbered;
    laid = stands.laid;
  }

  -- ---- the parent is taken away

  pub parent_taken : ((n : ℕ) → IsCopiedUp h n (objects n)) → ImageStands below linked (detached h) objects i
  parent_taken up = record {
    same = stands.same;
    role = stands.role;
    long = record { head = stands.long.head; snap = stands.long.snap };
    bytes = record {
      head = λ x within. stands.bytes.head x within
          ∙ own_bytes below h.parent (byte_at h.layout (object_of h.layout x) 0) (objects (object_of h.layout x)).head (up (object_of h.layout x)) (offset_of h.layout x) x (first_below h.layout stands.laid x)
          ∙ sym (own_bytes below None (byte_at h.layout (object_of h.layout x) 0) (objects (object_of h.layout x)).head (λ none. absurd none) (offset_of h.layout x) x (first_below h.layout stands.laid x));
      snap = stands.bytes.snap;
    };
    parents = record { head = tt; snap = stands.parents.snap };
    within = record { head = tt; snap = stands.within.snap };
    untouched = λ n inside absent. absurd inside;
    alike = record { head = λ x inside absent. refl; snap = λ t s is x inside absent. absurd inside };
    clear = stands.clear;
    tidy = stands.tidy;
    seen = stands.seen;
    numbered = record { head = stands.numbered.head; snap = stands.numbered.snap };
    laid = stands.laid;
  }
