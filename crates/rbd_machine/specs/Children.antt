-- What a request knows of children of snapshots: links that it added, children that wait for their
-- header and whose parent was seen protected, and snapshots that have no child (Ceph: a clone is
-- listed among its parent's children before its header names the parent).
use Rattle.std.specs.Prelude.{ℕ, ◌==◌, ◌&&◌, Bool, true, false, not, List, [], ◌∷◌, filter, Option, Some, None}
use Rattle.rbd_kinds.specs.declared.answer.Answer.{Answer}
use Rattle.rbd_kinds.specs.declared.answer.Answer.TheVariants as answer
use Rattle.rbd_kinds.specs.declared.children_op.ChildrenOp.TheVariants as child
use Rattle.rbd_kinds.specs.declared.header.HeaderView.{HeaderView}
use Rattle.rbd_kinds.specs.declared.header.SnapStatus.{SnapStatus}
use Rattle.rbd_kinds.specs.declared.header.SnapStatus.TheVariants.{Protected, Unprotecting}
use Rattle.rbd_kinds.specs.declared.header.SnapView.{SnapView}
use Rattle.rbd_kinds.specs.declared.header_op.HeaderOp.TheVariants as header
use Rattle.rbd_kinds.specs.declared.id.SiteId.{SiteId}
use Rattle.rbd_kinds.specs.declared.operation.Op.{Op}
use Rattle.rbd_kinds.specs.declared.operation.Op.TheVariants as op
use Rattle.rbd_kinds.specs.Images.{is_at}
use Rattle.rbd_header.specs.Header.{snap_in}
use Rattle.rbd_machine.specs.Ancestors.{ChildBase, ChildLink, SnapPlace}

-- ---- links

-- the link of a child to a snapshot of its parent
abbrev pub is_link : SiteId → (parent snap child : ℕ) → ChildLink → Bool
is_link site parent snap child l = is_at site child l.site l.child && ((l.parent == parent) && (l.snap == snap))

abbrev pub links_without : SiteId → (parent snap child : ℕ) → List ChildLink → List ChildLink
links_without site parent snap child linked = filter (λ l. not (is_link site parent snap child l)) linked

-- the links of other children
abbrev pub links_of_others : SiteId → (child : ℕ) → List ChildLink → List ChildLink
links_of_others site child linked = filter (λ l. not (is_at site child l.site l.child)) linked

-- The links that the request added of children whose header isn't made yet, and didn't take away.
abbrev pub linked_by : List ChildLink → SiteId → Op → Answer → List ChildLink
linked_by linked site (op.Children (child.Add parent snap image)) answer.Done =
    record { site = site; parent = parent; snap = snap; child = image } ∷ linked
linked_by linked site (op.Children (child.Remove parent snap image)) answer.Done =
    links_without site parent snap image linked
linked_by linked site (op.Children (child.Remove parent snap image)) answer.Absent =
    links_without site parent snap image linked
linked_by linked site (op.Header image (header.Create view)) answer.Done = links_of_others site image linked
linked_by linked site o a = linked

-- ---- bases

-- the size of a snapshot that is protected
abbrev pub size_where : SnapStatus → (size : ℕ) → Option ℕ
size_where Protected size = Some size
size_where _ size = None

abbrev pub protected_size : Option SnapView → Option ℕ
protected_size None = None
protected_size (Some s) = size_where s.status s.size

-- The child of a link is based on the whole of the parent's snapshot.
abbrev pub base_of : ChildLink → (size : ℕ) → ChildBase
base_of l size = record {
  site = l.site;
  child = l.child;
  link = record { image = l.parent; snap = l.snap; overlap = size };
}

abbrev pub with_base : (here : Bool) → ChildLink → (size : Option ℕ) → List ChildBase → List ChildBase
with_base true l (Some size) based = base_of l size ∷ based
with_base here l size based = based

-- A header of the parent that tells the snapshot as protected, behind the link, tells that the
-- child may count on it: the snapshot stays until the child's header names it.
abbrev pub bases_told : List ChildLink → SiteId → (image : ℕ) → HeaderView → List ChildBase → List ChildBase
bases_told [] site image h based = based
bases_told (l ∷ linked) site image h based =
    with_base (is_at site image l.site l.parent) l (protected_size (snap_in h.snaps l.snap))
    (bases_told linked site image h based)

-- a child with its parent's snapshot
abbrev pub is_base : SiteId → (parent snap child : ℕ) → ChildBase → Bool
is_base site parent snap child b =
    is_at site child b.site b.child && ((b.link.image == parent) && (b.link.snap == snap))

abbrev pub bases_without : SiteId → (parent snap child : ℕ) → List ChildBase → List ChildBase
bases_without site parent snap child based = filter (λ b. not (is_base site parent snap child b)) based

abbrev pub bases_of_others : SiteId → (child : ℕ) → List ChildBase → List ChildBase
bases_of_others site child based = filter (λ b. not (is_at site child b.site b.child)) based

-- What children are based on goes with their link, and once they have their header.
abbrev pub based_by : List ChildLink → List ChildBase → SiteId → Op → Answer → List ChildBase
based_by linked based site (op.Header image header.Get) (answer.Header h) = bases_told linked site image h based
based_by linked based site (op.Children (child.Remove parent snap image)) answer.Done =
    bases_without site parent snap image based
based_by linked based site (op.Children (child.Remove parent snap image)) answer.Absent =
    bases_without site parent snap image based
based_by linked based site (op.Header image (header.Create view)) answer.Done = bases_of_others site image based
based_by linked based site o a = based

-- ---- snapshots without children

abbrev pub is_unprotecting : SnapStatus → Bool
is_unprotecting Unprotecting = true
is_unprotecting _ = false

abbrev pub is_view_unprotecting : Option SnapView → Bool
is_view_unprotecting None = false
is_view_unprotecting (Some s) = is_unprotecting s.status

-- whether a header is there that lists the snapshot as unprotecting
abbrev pub lists_unprotecting : Option HeaderView → (snap : ℕ) → Bool
lists_unprotecting None snap = false
lists_unprotecting (Some h) snap = is_view_unprotecting (snap_in h.snaps snap)

abbrev pub is_snap : SiteId → (image snap : ℕ) → SnapPlace → Bool
is_snap site image snap p = is_at site image p.site p.image && (p.snap == snap)

abbrev pub snaps_without : SiteId → (image snap : ℕ) → List SnapPlace → List SnapPlace
snaps_without site image snap childless = filter (λ p. not (is_snap site image snap p)) childless

-- the snapshots of other images
abbrev pub snaps_of_others : SiteId → (image : ℕ) → List SnapPlace → List SnapPlace
snaps_of_others site image childless = filter (λ p. not (is_at site image p.site p.image)) childless

abbrev pub with_childless : (counts : Bool) → SnapPlace → List SnapPlace → List SnapPlace
with_childless true p childless = p ∷ childless
with_childless false p childless = childless

-- A snapshot whose list of children is empty while the own header lists it as unprotecting has no
-- child from then on: a child counts on it only where it is protected. So it is until the request
-- sets its status, or gives the image up. The own header is that of an image on which the request
-- is alone.
abbrev pub childless_by : (own : (image : ℕ) → Option HeaderView) → List SnapPlace → SiteId → Op → Answer
    → List SnapPlace
childless_by own childless site (op.Children (child.List parent snap)) (answer.Ids []) =
    with_childless (lists_unprotecting (own parent) snap) (record { site = site; image = parent; snap = snap })
    childless
childless_by own childless site (op.Header image (header.SnapStatus snap status)) answer.Done =
    snaps_without site image snap childless
childless_by own childless site (op.Header image header.Remove) answer.Done = snaps_of_others site image childless
childless_by own childless site o a = childless
