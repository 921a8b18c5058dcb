-- From what holds of each view of a header to what holds of each view of the header after a change.
use Rattle.std.proofs.Common.{◌≡◌, ◌≢◌, ℕ, ◌+◌, eqb, ◌⊎◌, inl, inr, List, filter, not, Option, Some, None, sym, ◌∙◌, ap, subst}
use Rattle.std.proofs.lemmas.Bool.{cases_eq}
use Rattle.std.proofs.lemmas.Option.{none-some}
use Rattle.rbd_kinds.specs.declared.header.HeaderView.{HeaderView}
use Rattle.rbd_kinds.specs.declared.header.SnapStatus.{SnapStatus}
use Rattle.rbd_kinds.specs.declared.header.SnapView.{SnapView}
use Rattle.rbd_header.specs.Header.{snap_in, with_snap, snap_taken, without_snap, with_status, status_marked}
use Rattle.rbd_header.proofs.Changed.{removed_is_unlisted}
use Rattle.rbd_stands.specs.View.{Shape, EachView, shape_of_head, shape_of_snap}
use Rattle.rbd_stands.proofs.Lookups.{a_value, older_or_last, header_left, header_marked, marked_shape}

-- a snapshot is added
pub each_added : {P Q : Option ℕ → Shape → Type 0} (name : List ℕ) (h : HeaderView)
    → (P None (shape_of_head h) → Q None (shape_of_head h))
    → ((t : ℕ) (s : SnapView) → snap_in h.snaps t ≡ Some s → P (Some t) (shape_of_snap s) → Q (Some t) (shape_of_snap s))
    → (P None (shape_of_head h) → Q (Some (h.snap_seq + 1)) (shape_of_head h))
    → EachView h P → EachView (with_snap name h) Q
each_added {P} {Q} name h head old new all = record {
  head = head all.head;
  snap = λ t s is. go t s (older_or_last h.snaps (snap_taken name h) t s is);
}
  where
    go : (t : ℕ) (s : SnapView) → (snap_in h.snaps t ≡ Some s) ⊎ ((h.snap_seq + 1 ≡ t) × (snap_taken name h ≡ s)) → Q (Some t) (shape_of_snap s)
    go t s (inl is) = old t s is (all.snap t s is)
    go t s (inr is) = subst (λ (n : ℕ). Q (Some n) (shape_of_snap s)) is.0 (subst (λ (u : SnapView). Q (Some (h.snap_seq + 1)) (shape_of_snap u)) is.1 (new all.head))

-- a snapshot is taken away
pub each_removed : {P Q : Option ℕ → Shape → Type 0} (snap : ℕ) (h : HeaderView)
    → (P None (shape_of_head h) → Q None (shape_of_head h))
    → ((t : ℕ) (s : SnapView) → snap_in h.snaps t ≡ Some s → t ≢ snap → P (Some t) (shape_of_snap s) → Q (Some t) (shape_of_snap s))
    → EachView h P → EachView (without_snap snap h) Q
each_removed {P} {Q} snap h head old all = record {
  head = head all.head;
  snap = λ t s is. go t s is (cases_eq t snap);
}
  where
    go : (t : ℕ) (s : SnapView) → snap_in (filter (λ u. not (eqb u.id snap)) h.snaps) t ≡ Some s → (t ≡ snap) ⊎ (t ≢ snap) → Q (Some t) (shape_of_snap s)
    go t s is (inl same) = absurd (none-some s (sym (removed_is_unlisted h.snaps snap) ∙ ap (snap_in (filter (λ (u : SnapView). not (eqb u.id snap)) h.snaps)) (sym same) ∙ is))
    go t s is (inr other) =
        let was : snap_in h.snaps t ≡ Some s = sym (header_left h.snaps snap t other) ∙ is in
        old t s was other (all.snap t s was)

-- a snapshot's status is set
pub each_marked : {P Q : Option ℕ → Shape → Type 0} (t : ℕ) (status : SnapStatus) (h : HeaderView)
    → (P None (shape_of_head h) → Q None (shape_of_head h))
    → ((u : ℕ) (s : SnapView) → snap_in h.snaps u ≡ Some s → P (Some u) (shape_of_snap s) → Q (Some u) (shape_of_snap s))
    → EachView h P → EachView (with_status t status h) Q
each_marked {P} {Q} t status h head old all = record {
  head = head all.head;
  snap = λ u s is.
      let was = a_value (status_marked t status) (snap_in h.snaps u) s (sym (header_marked t status h.snaps u) ∙ is) in
      subst (Q (Some u)) (sym (marked_shape t status was.0) ∙ ap shape_of_snap was.2) (old u was.0 was.1 (all.snap u was.0 was.1));
}
