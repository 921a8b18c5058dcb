-- Changes of a header, and what it then stands for.
use Rattle.std.proofs.Common.{◌≡◌, ◌≢◌, ℕ, ◌+◌, cond, eqb, List, [], ◌∷◌, ◌++◌, length, filter, not, get_or, Option, Some, None, option_map, unwrap_or, refl, sym, ◌∙◌, ap, arith}
use Rattle.std.proofs.lemmas.Bool.{lt-ltb}
use Rattle.std.proofs.lemmas.List.{map_push}
use Rattle.rbd_kinds.specs.declared.header.HeaderView.{HeaderView}
use Rattle.rbd_kinds.specs.declared.header.SnapStatus.TheVariants.{Unprotected}
use Rattle.rbd_kinds.specs.declared.header.SnapView.{SnapView}
use Rattle.rbd_kinds.specs.Striping.{object_of, offset_of}
use Rattle.rbd_header.specs.Header.{snap_in, with_snap, snap_taken, without_snap}
use Rattle.rbd_object.specs.Mapped.{Mapped, versioned}
use Rattle.rbd_object.specs.Versioned.{view}
use Rattle.rbd_flat.specs.Flat.{FlatImage, FlatSnap}
use Rattle.rbd_stands.specs.View.{flat_bytes}
use Rattle.rbd_stands.specs.Shown.{Snapshots, shown, Links}
use Rattle.rbd_stands.specs.Image.{ImageStands, line_of_snap, line_of_flat}
use Rattle.rbd_stands.proofs.Lookups.{flat_there, flat_missing, flat_older, flat_last, flat_left, lines_left}
use Rattle.rbd_stands.proofs.Views.{each_added, each_removed}

-- ---- a snapshot is taken

module _ (below : Snapshots) (linked : Links) (name : List ℕ) (h : HeaderView) (objects : ℕ → Mapped) (i : FlatImage) (stands : ImageStands below linked h objects i) where
  abbrev taken : FlatSnap
  taken = record { id = h.snap_seq + 1; name = name; bytes = i.bytes; status = Unprotected }

  abbrev pub with_flat_snap : FlatImage
  with_flat_snap = record i { snaps = i.snaps ++ taken ∷ [] }

  -- no snapshot has the next id yet
  unlisted : (o : Option SnapView) → snap_in h.snaps (h.snap_seq + 1) ≡ o → snap_in h.snaps (h.snap_seq + 1) ≡ None
  unlisted None is = is
  unlisted (Some s) is = absurd (let n = stands.numbered.snap (h.snap_seq + 1) s is in omega (arith, n.1))

  old_bytes : (t : ℕ) (s : SnapView) → snap_in h.snaps t ≡ Some s → flat_bytes with_flat_snap (Some t) ≡ flat_bytes i (Some t)
  old_bytes t s is =
      let there = flat_there h.snaps i.snaps stands.same t s is in
      ap (λ (o : Option FlatSnap). unwrap_or (option_map {T = FlatSnap} (λ u. u.bytes) o) []) (flat_older i.snaps taken t there.0 there.1 ∙ sym there.1)

  new_bytes : flat_bytes with_flat_snap (Some (h.snap_seq + 1)) ≡ i.bytes
  new_bytes =
      ap (λ (o : Option FlatSnap). unwrap_or (option_map {T = FlatSnap} (λ u. u.bytes) o) [])
      (flat_last i.snaps taken (h.snap_seq + 1) (flat_missing h.snaps i.snaps stands.same (h.snap_seq + 1) (unlisted (snap_in h.snaps (h.snap_seq + 1)) refl)) refl)

  -- the next snapshot's view of an object is the head
  new_view : (n : ℕ) → view (versioned (objects n)) (Some (h.snap_seq + 1)) ≡ (objects n).head
  new_view n = ap (λ b. cond b (objects n).head ((versioned (objects n)).kept (h.snap_seq + 1))) (lt-ltb (objects n).seq (h.snap_seq + 1) (let e = stands.seen n in omega arith))

  pub snap_added : ImageStands below linked (with_snap name h) objects with_flat_snap
  snap_added = record {
    same = map_push line_of_snap h.snaps (snap_taken name h) ∙ ap (λ lines. lines ++ line_of_flat taken ∷ []) stands.same ∙ sym (map_push line_of_flat i.snaps taken);
    role = stands.role;
    long = each_added name h (λ p. p) (λ t s is p. ap length (old_bytes t s is) ∙ p) (λ p. ap length new_bytes ∙ p) stands.long;
    bytes = each_added name h (λ p. p)
        (λ t s is p x within. ap (λ bytes. get_or bytes x 0) (old_bytes t s is) ∙ p x within)
        (λ p x within. ap (λ bytes. get_or bytes x 0) new_bytes ∙ p x within
        ∙ ap (λ content. shown below h.parent content (offset_of h.layout x) x) (sym (new_view (object_of h.layout x))))
        stands.bytes;
    parents = each_added name h (λ p. p) (λ t s is p. p) (λ p. p) stands.parents;
    within = each_added name h (λ p. p) (λ t s is p. p) (λ p. p) stands.within;
    untouched = stands.untouched;
    alike = each_added name h (λ p. p) (λ t s is p. p) (λ p x inside absent. refl) stands.alike;
    clear = stands.clear;
    tidy = stands.tidy;
    seen = λ n. let e = stands.seen n in omega arith;
    numbered = each_added name h (λ p. p) (λ t s is p. (p.0, omega (arith, p.1))) (λ p. (omega arith, omega arith)) stands.numbered;
    laid = stands.laid;
  }

-- ---- a snapshot is removed

module _ (below : Snapshots) (linked : Links) (snap : ℕ) (h : HeaderView) (objects : ℕ → Mapped) (i : FlatImage) (stands : ImageStands below linked h objects i) where
  abbrev pub without_flat_snap : FlatImage
  without_flat_snap = record i { snaps = filter (λ s. not (eqb s.id snap)) i.snaps }

  left_bytes : (t : ℕ) → t ≢ snap → flat_bytes without_flat_snap (Some t) ≡ flat_bytes i (Some t)
  left_bytes t other = ap (λ (o : Option FlatSnap). unwrap_or (option_map {T = FlatSnap} (λ u. u.bytes) o) []) (flat_left i.snaps snap t other)

  pub snap_removed : ImageStands below linked (without_snap snap h) objects without_flat_snap
  snap_removed = record {
    same = lines_left snap h.snaps i.snaps stands.same;
    role = stands.role;
    long = each_removed snap h (λ p. p) (λ t s is other p. ap length (left_bytes t other) ∙ p) stands.long;
    bytes = each_removed snap h (λ p. p) (λ t s is other p x within. ap (λ bytes. get_or bytes x 0) (left_bytes t other) ∙ p x within) stands.bytes;
    parents = each_removed snap h (λ p. p) (λ t s is other p. p) stands.parents;
    within = each_removed snap h (λ p. p) (λ t s is other p. p) stands.within;
    untouched = stands.untouched;
    alike = each_removed snap h (λ p. p) (λ t s is other p. p) stands.alike;
    clear = stands.clear;
    tidy = stands.tidy;
    seen = stands.seen;
    numbered = each_removed snap h (λ p. p) (λ t s is other p. p) stands.numbered;
    laid = stands.laid;
  }
