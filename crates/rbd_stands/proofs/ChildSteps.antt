-- Changes of the list of children, and of the flat site's links; and clones that are being made.
use Rattle.std.proofs.Common.{◌≡◌, ℕ, true, false, cond, not, ◌&&◌, ◌||◌, List, [], ◌∷◌, Option, Some, None, Ordering, refl, sym, ◌∙◌, ap, subst, zero, suc}
use Rattle.std.specs.declared.cmp.Ordering.TheVariants.{Less, Equal, Greater}
use Rattle.std.specs.FinSet as finset
use Rattle.std.specs.List.{slice_get}
use Rattle.std.specs.Ordering.{nat_cmp, ordering_then, eq_by_cmp, is_eq}
use Rattle.std.specs.Cmp.{IsTotalOrder, nat_cmp_total}
use Rattle.std.proofs.lemmas.Bool.{or_right}
use Rattle.std.proofs.lemmas.Option.{same_Some}
use Rattle.std.proofs.lemmas.Cmp.{on_total, then_total}
use Rattle.std.proofs.lemmas.Map.Lookups.{exact_unsigned}
use Rattle.rbd_kinds.specs.declared.answer.Answer.{Answer}
use Rattle.rbd_kinds.specs.declared.answer.Answer.TheVariants as answer
use Rattle.rbd_kinds.specs.declared.children_op.ChildrenOp.TheVariants as children_op
use Rattle.rbd_kinds.specs.declared.header.HeaderView.{HeaderView}
use Rattle.rbd_kinds.specs.declared.header.ParentLink.{ParentLink}
use Rattle.rbd_kinds.specs.declared.id.Instance.{Instance}
use Rattle.rbd_kinds.specs.declared.operation.Op.TheVariants as op
use Rattle.rbd_registry.specs.Children.{entry_cmp}
use Rattle.rbd_registry.proofs.Ascending.{are_children}
use Rattle.rbd_registry.proofs.Entries.{entry_total}
use Rattle.rbd_object.specs.Mapped.{Mapped}
use Rattle.rbd_flat.specs.declared.effect.Effect.TheVariants as effect
use Rattle.rbd_flat.specs.Flat.{Flat, FlatImage, Link, link_cmp, image_at}
use Rattle.rbd_flat.specs.Flat as flat
use Rattle.rbd_site.specs.ChildrenStep.{entry}
use Rattle.rbd_site.specs.Records.{Records, object_at, with_children}
use Rattle.rbd_site.specs.Step.{answer_to, answer_served, after, after_served}
use Rattle.rbd_stands.specs.Condition.{IsFree, NamesOther}
use Rattle.rbd_stands.specs.Image.{ImageStands}
use Rattle.rbd_stands.specs.Reading.{AreLinkedTo}
use Rattle.rbd_stands.specs.Shown.{Snapshots, Links, HasParent, links_of, snapshots_of}
use Rattle.rbd_stands.specs.Site.{StandsAt, StandsFor, Pending, IsAwaited}
use Rattle.rbd_stands.specs.View.{EachView}
use Rattle.rbd_stands.proofs.Served.{was_there, where_served}

-- ---- other links, where those stay that views name

abbrev StaysLinked : (linked after : Links) → Option ParentLink → Type 0
StaysLinked linked after None = Unit {0}
StaysLinked linked after (Some link) = linked link.image link.snap ≡ true → after link.image link.snap ≡ true

has_relinked : (below : Snapshots) (linked after : Links) (parent : Option ParentLink) → StaysLinked linked after parent → HasParent below linked parent → HasParent below after parent
has_relinked below linked after None stays has = tt
has_relinked below linked after (Some link) stays has = record { snap = has.snap; is = has.is; long = has.long; kept = has.kept; child = stays has.child }

image_relinked : (below : Snapshots) (linked after : Links) (h : HeaderView) (objects : ℕ → Mapped) (i : FlatImage) → EachView h (λ v shape. StaysLinked linked after shape.parent) → ImageStands below linked h objects i
    → ImageStands below after h objects i
image_relinked below linked after h objects i stays stands = record {
  same = stands.same;
  role = stands.role;
  long = stands.long;
  bytes = stands.bytes;
  parents = record {
    head = has_relinked below linked after h.parent stays.head stands.parents.head;
    snap = λ t s is. has_relinked below linked after s.parent (stays.snap t s is) (stands.parents.snap t s is);
  };
  within = stands.within;
  clear = stands.clear;
  untouched = stands.untouched;
  alike = stands.alike;
  tidy = stands.tidy;
  seen = stands.seen;
  numbered = stands.numbered;
  laid = stands.laid;
}

at_relinked : (below : Snapshots) (linked after : Links) (header : Option HeaderView) (objects : ℕ → Mapped) (o : Option FlatImage)
    → ((h : HeaderView) → header ≡ Some h → EachView h (λ v shape. StaysLinked linked after shape.parent)) → StandsAt below linked header objects o → StandsAt below after header objects o
at_relinked below linked after None objects None stays stands = tt
at_relinked below linked after None objects (Some i) stays stands = absurd stands
at_relinked below linked after (Some h) objects None stays stands = absurd stands
at_relinked below linked after (Some h) objects (Some i) stays stands = image_relinked below linked after h objects i (stays h refl) stands

module _ (pending : List Pending) (r : Records) (f : Flat) (entries : finset.FinSet entry_cmp) (links : finset.FinSet link_cmp) (stands : StandsFor pending r f) where
  abbrev relinked : Flat
  relinked = record f { links = links }

  links_stand : ((parent snap child : ℕ) → finset.contains entries (entry parent snap child) ≡ links_of relinked child parent snap)
      → ((child : ℕ) (h : HeaderView) → r.headers child ≡ Some h → EachView h (λ v shape. StaysLinked (links_of f child) (links_of relinked child) shape.parent))
      → ((k : ℕ) (p : Pending) → slice_get pending k ≡ Some p → StaysLinked (links_of f p.child) (links_of relinked p.child) (Some p.link))
      → StandsFor pending (with_children entries r) relinked
  links_stand same views waits = record {
    names = stands.names;
    links = same;
    images = λ i. at_relinked (snapshots_of f) (links_of f i) (links_of relinked i) (r.headers i) (object_at r i) (image_at f i) (views i) (stands.images i);
    awaited = λ k p is.
        let was = stands.awaited k p is in
        record { snap = was.snap; is = was.is; long = was.long; kept = was.kept; child = waits k p is was.child };
    fresh = λ i above. let was = stands.fresh i above in record { header = was.header; flat = was.flat; blank = was.blank };
  }

-- ---- a link is added

link_total : IsTotalOrder link_cmp
link_total = then_total (on_total (λ (l : Link). l.parent) nat_cmp_total) (then_total (on_total (λ (l : Link). l.snap) nat_cmp_total) (on_total (λ (l : Link). l.child) nat_cmp_total))

abbrev link : (parent snap child : ℕ) → Link
link parent snap child = record { parent = parent; snap = snap; child = child }

link_served : (pending : List Pending) (r : Records) (f : Flat) (me : Instance) (parent snap child : ℕ) → StandsFor pending r f
    → answer_served r me (op.Children (children_op.Add parent snap child)) ≡ answer.Done
    → StandsFor pending (after_served r me (op.Children (children_op.Add parent snap child))) (flat.after f (effect.Link parent snap child))
link_served pending r f me parent snap child stands done =
    links_stand pending r f (finset.insert r.children (entry parent snap child)) (finset.insert f.links (link parent snap child)) stands
    (λ p s c.
    finset.contains-insert entry_total r.children (entry parent snap child) (entry p s c)
    ∙ ap (λ b. eq_by_cmp entry_cmp (entry p s c) (entry parent snap child) || b) (stands.links p s c)
    ∙ sym (finset.contains-insert link_total f.links (link parent snap child) (link p s c)))
    (λ c h is. record { head = stays c h.parent; snap = λ t s listed. stays c s.parent })
    (λ k p is. stays p.child (Some p.link))
  where
    stays : (c : ℕ) (o : Option ParentLink) → StaysLinked (links_of f c) (links_of (flat.after f (effect.Link parent snap child)) c) o
    stays c None = tt
    stays c (Some l) = λ e.
        finset.contains-insert link_total f.links (link parent snap child) (link l.image l.snap c)
        ∙ or_right (eq_by_cmp link_cmp (link l.image l.snap c) (link parent snap child)) (finset.contains f.links (link l.image l.snap c)) e

pub link_stands : (pending : List Pending) (r : Records) (f : Flat) (me : Instance) (parent snap child : ℕ) → StandsFor pending r f
    → answer_to r me (op.Children (children_op.Add parent snap child)) ≡ answer.Done
    → StandsFor pending (after r me (op.Children (children_op.Add parent snap child))) (flat.after f (effect.Link parent snap child))
link_stands pending r f me parent snap child stands =
    where_served (λ (s : Records). StandsFor pending s (flat.after f (effect.Link parent snap child))) r me (op.Children (children_op.Add parent snap child)) answer.Done refl
    (link_served pending r f me parent snap child stands)

-- ---- a link is taken away

-- links that differ aren't tied
apart : (p s c p' s' c' : ℕ) → (p ≡ p' → s ≡ s' → c ≡ c' → ⊥) → eq_by_cmp link_cmp (link p s c) (link p' s' c') ≡ false
apart p s c p' s' c' differ = go (nat_cmp p p') refl (nat_cmp s s') refl (nat_cmp c c') refl
  where
    go : (a : Ordering) → nat_cmp p p' ≡ a → (b : Ordering) → nat_cmp s s' ≡ b → (d : Ordering) → nat_cmp c c' ≡ d → is_eq (ordering_then a (ordering_then b d)) ≡ false
    go Less x b y d z = refl
    go Greater x b y d z = refl
    go Equal x Less y d z = refl
    go Equal x Greater y d z = refl
    go Equal x Equal y Less z = refl
    go Equal x Equal y Greater z = refl
    go Equal x Equal y Equal z = absurd (differ (exact_unsigned p p' x) (exact_unsigned s s' y) (exact_unsigned c c' z))

unlink_served : (pending : List Pending) (r : Records) (f : Flat) (me : Instance) (parent snap child : ℕ) → StandsFor pending r f → IsFree pending r parent snap child
    → answer_served r me (op.Children (children_op.Remove parent snap child)) ≡ answer.Done
    → StandsFor pending (after_served r me (op.Children (children_op.Remove parent snap child))) (flat.after f (effect.Unlink parent snap child))
unlink_served pending r f me parent snap child stands free done =
    let gone = finset.remove r.children (entry parent snap child) in
    subst (λ b. StandsFor pending (with_children (cond b gone r.children) r) (flat.after f (effect.Unlink parent snap child))) (sym (was_there (finset.contains r.children (entry parent snap child)) done))
    (links_stand pending r f gone (finset.remove f.links (link parent snap child)) stands
    (λ p s c.
    finset.contains-remove entry_total r.children (entry parent snap child) (entry p s c)
    ∙ ap (λ b. not (eq_by_cmp entry_cmp (entry p s c) (entry parent snap child)) && b) (stands.links p s c)
    ∙ sym (finset.contains-remove link_total f.links (link parent snap child) (link p s c)))
    (λ c h is. record {
      head = stays c h.parent (λ same. (free.views h (ap r.headers (sym same) ∙ is)).head);
      snap = λ t s listed. stays c s.parent (λ same. (free.views h (ap r.headers (sym same) ∙ is)).snap t s listed);
    })
    (λ k p is. stays p.child (Some p.link) (free.awaited k p is)))
  where
    stays : (c : ℕ) (o : Option ParentLink) → (c ≡ child → NamesOther parent snap o) → StaysLinked (links_of f c) (links_of (flat.after f (effect.Unlink parent snap child)) c) o
    stays c None other = tt
    stays c (Some l) other = λ e.
        finset.contains-remove link_total f.links (link parent snap child) (link l.image l.snap c)
        ∙ ap (λ b. not b && finset.contains f.links (link l.image l.snap c)) (apart l.image l.snap c parent snap child (λ p s same. other same p s))
        ∙ e

pub unlink_stands : (pending : List Pending) (r : Records) (f : Flat) (me : Instance) (parent snap child : ℕ) → StandsFor pending r f → IsFree pending r parent snap child
    → answer_to r me (op.Children (children_op.Remove parent snap child)) ≡ answer.Done
    → StandsFor pending (after r me (op.Children (children_op.Remove parent snap child))) (flat.after f (effect.Unlink parent snap child))
unlink_stands pending r f me parent snap child stands free =
    where_served (λ (s : Records). StandsFor pending s (flat.after f (effect.Unlink parent snap child))) r me (op.Children (children_op.Remove parent snap child)) answer.Done refl
    (unlink_served pending r f me parent snap child stands free)

-- ---- children are listed

abbrev told_ids : Answer → List ℕ
told_ids (answer.Ids ids) = ids
told_ids _ = []

children_served : (pending : List Pending) (r : Records) (f : Flat) (me : Instance) (parent snap : ℕ) (ids : List ℕ) → StandsFor pending r f
    → answer_served r me (op.Children (children_op.List parent snap)) ≡ answer.Ids ids → AreLinkedTo f parent snap ids
children_served pending r f me parent snap ids stands told =
    let are = are_children r.children parent snap in
    subst (AreLinkedTo f parent snap) (ap told_ids told) (record { each = λ c. are.each c ∙ stands.links parent snap c; ascending = are.ascending })

pub children_told : (pending : List Pending) (r : Records) (f : Flat) (me : Instance) (parent snap : ℕ) (ids : List ℕ) → StandsFor pending r f
    → answer_to r me (op.Children (children_op.List parent snap)) ≡ answer.Ids ids → AreLinkedTo f parent snap ids
children_told pending r f me parent snap ids stands =
    where_served (λ (s : Records). AreLinkedTo f parent snap ids) r me (op.Children (children_op.List parent snap)) (answer.Ids ids) refl
    (children_served pending r f me parent snap ids stands)

-- ---- a clone begins to be made, and ends

pub begun_stands : (pending : List Pending) (r : Records) (f : Flat) (p : Pending) → StandsFor pending r f → IsAwaited (snapshots_of f) (links_of f p.child) p.link → StandsFor (p ∷ pending) r f
begun_stands pending r f p stands waits = record {
  names = stands.names;
  links = stands.links;
  images = stands.images;
  awaited = at;
  fresh = stands.fresh;
}
  where
    at : (k : ℕ) (q : Pending) → slice_get (p ∷ pending) k ≡ Some q → IsAwaited (snapshots_of f) (links_of f q.child) q.link
    at zero q is = subst (λ (x : Pending). IsAwaited (snapshots_of f) (links_of f x.child) x.link) (same_Some p q is) waits
    at (suc k) q is = stands.awaited k q is

pub ended_stands : (pending fewer : List Pending) (r : Records) (f : Flat) → StandsFor pending r f
    → ((k : ℕ) (p : Pending) → slice_get fewer k ≡ Some p → (j : ℕ) × (slice_get pending j ≡ Some p)) → StandsFor fewer r f
ended_stands pending fewer r f stands among = record {
  names = stands.names;
  links = stands.links;
  images = stands.images;
  awaited = λ k p is. let at = among k p is in stands.awaited at.0 p at.1;
  fresh = stands.fresh;
}
