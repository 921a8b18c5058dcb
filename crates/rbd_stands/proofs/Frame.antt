-- An image stands under other flat snapshots too, where those that its views name keep their bytes.
use Rattle.std.proofs.Common.{◌≡◌, ◌≢◌, ℕ, ◌≤◌, cond, ltb, List, length, get_or, Option, Some, None, refl, sym, ◌∙◌, ap, subst}
use Rattle.rbd_kinds.specs.declared.header.HeaderView.{HeaderView}
use Rattle.rbd_kinds.specs.declared.header.ParentLink.{ParentLink}
use Rattle.rbd_kinds.specs.declared.header.SnapStatus.TheVariants.{Unprotected}
use Rattle.rbd_kinds.specs.Striping.{object_of, offset_of}
use Rattle.rbd_object.specs.Mapped.{Mapped, versioned}
use Rattle.rbd_object.specs.Versioned.{view}
use Rattle.rbd_flat.specs.Flat.{FlatImage, FlatSnap}
use Rattle.rbd_flat.specs.Laws.{snap_byte}
use Rattle.rbd_stands.specs.View.{EachView}
use Rattle.rbd_stands.specs.Shown.{Snapshots, HasParent, inherited, shown, Links}
use Rattle.rbd_stands.specs.Site.{IsAwaited}
use Rattle.rbd_stands.specs.Image.{ImageStands}

-- the snapshot that a view names as its parent is there before and after, with the same bytes,
-- and it isn't unprotected where it wasn't
pub record KeepsSnapshot (below after : Snapshots) (link : ParentLink) (s : FlatSnap) : Type 0 where
  pub snap : FlatSnap
  pub is : after link.image link.snap ≡ Some snap
  pub bytes : snap.bytes ≡ s.bytes
  pub kept : s.status ≢ Unprotected → snap.status ≢ Unprotected

abbrev pub KeepsParent : (below after : Snapshots) → Option ParentLink → Type 0
KeepsParent below after None = Unit {0}
KeepsParent below after (Some link) = (s : FlatSnap) → below link.image link.snap ≡ Some s → KeepsSnapshot below after link s

parent_kept : (below after : Snapshots) (linked : Links) (parent : Option ParentLink) → KeepsParent below after parent → HasParent below linked parent → HasParent after linked parent
parent_kept below after linked None keeps has = tt
parent_kept below after linked (Some link) keeps has =
    let kept = keeps has.snap has.is in
    record { snap = kept.snap; is = kept.is; long = subst (λ (bs : List ℕ). link.overlap ≤ length bs) (sym kept.bytes) has.long; kept = kept.kept has.kept; child = has.child }

pub inherited_kept : (below after : Snapshots) (linked : Links) (parent : Option ParentLink) → KeepsParent below after parent → HasParent below linked parent → (x : ℕ) → inherited after parent x ≡ inherited below parent x
inherited_kept below after linked None keeps has x = refl
inherited_kept below after linked (Some link) keeps has x =
    let kept = keeps has.snap has.is in
    ap (λ n. cond (ltb x link.overlap) n 0)
    (ap (λ o. snap_byte o 0 x) kept.is ∙ ap (λ bs. get_or bs x 0) kept.bytes ∙ sym (ap (λ o. snap_byte o 0 x) has.is))

shown_kept : (below after : Snapshots) (linked : Links) (parent : Option ParentLink) → KeepsParent below after parent → HasParent below linked parent → (content : Option (List ℕ)) (offset x : ℕ)
    → shown after parent content offset x ≡ shown below parent content offset x
shown_kept below after linked parent keeps has None offset x = inherited_kept below after linked parent keeps has x
shown_kept below after linked parent keeps has (Some bytes) offset x = refl

pub image_kept : (below after : Snapshots) (linked : Links) (h : HeaderView) (objects : ℕ → Mapped) (i : FlatImage) → EachView h (λ v shape. KeepsParent below after shape.parent)
    → ImageStands below linked h objects i → ImageStands after linked h objects i
image_kept below after linked h objects i keeps stands = record {
  same = stands.same;
  role = stands.role;
  long = stands.long;
  within = stands.within;
  clear = stands.clear;
  untouched = stands.untouched;
  alike = record {
    head = λ x inside absent. refl;
    snap = λ t s is x inside absent.
        inherited_kept below after linked s.parent (keeps.snap t s is) (stands.parents.snap t s is) x
        ∙ stands.alike.snap t s is x inside absent
        ∙ sym (inherited_kept below after linked h.parent keeps.head stands.parents.head x);
  };
  tidy = stands.tidy;
  seen = stands.seen;
  numbered = stands.numbered;
  laid = stands.laid;
  parents = record {
    head = parent_kept below after linked h.parent keeps.head stands.parents.head;
    snap = λ t s is. parent_kept below after linked s.parent (keeps.snap t s is) (stands.parents.snap t s is);
  };
  bytes = record {
    head = λ x within. stands.bytes.head x within ∙ sym (shown_kept below after linked h.parent keeps.head stands.parents.head (view (versioned (objects (object_of h.layout x))) None) (offset_of h.layout x) x);
    snap = λ t s is x within. stands.bytes.snap t s is x within
        ∙ sym (shown_kept below after linked s.parent (keeps.snap t s is) (stands.parents.snap t s is) (view (versioned (objects (object_of h.layout x))) (Some t)) (offset_of h.layout x) x);
  };
}

-- a clone that is being made keeps its snapshot too
pub await_kept : (below after : Snapshots) (linked : Links) (link : ParentLink) → KeepsParent below after (Some link) → IsAwaited below linked link → IsAwaited after linked link
await_kept below after linked link keeps has =
    let kept = keeps has.snap has.is in
    record { snap = kept.snap; is = kept.is; long = ap length kept.bytes ∙ has.long; kept = kept.kept has.kept; child = has.child }
