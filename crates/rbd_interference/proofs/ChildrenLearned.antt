-- What a request learns of children of snapshots by its own operations is true.
use Rattle.std.proofs.Common.{◌≡◌, ◌≢◌, ◌⊎◌, inl, inr, ℕ, ◌+◌, ◌==◌, ◌&&◌, ◌||◌, cond, not, Bool, true, false, List, [], ◌∷◌, Option, Some, None, option_map, refl, sym, ap, ◌∙◌, subst}
use Rattle.std.specs.FinSet as finset
use Rattle.std.specs.List.{list_any}
use Rattle.std.specs.Cmp.{tied_itself}
use Rattle.std.specs.Ordering.{is_eq}
use Rattle.std.specs.Prelude.{IsFalse}
use Rattle.std.proofs.lemmas.Bool.{true≢false, eq-eqb, eqb-true}
use Rattle.std.proofs.lemmas.Option.{none-some, same_Some}
use Rattle.rbd_kinds.specs.declared.answer.Answer.{Answer}
use Rattle.rbd_kinds.specs.declared.answer.Answer.TheVariants as answer
use Rattle.rbd_kinds.specs.declared.children_op.ChildrenOp.{ChildrenOp}
use Rattle.rbd_kinds.specs.declared.children_op.ChildrenOp.TheVariants as child
use Rattle.rbd_kinds.specs.declared.data_op.DataOp.{DataOp}
use Rattle.rbd_kinds.specs.declared.data_op.DataOp.TheVariants as object
use Rattle.rbd_kinds.specs.declared.directory_op.DirectoryOp.{DirectoryOp}
use Rattle.rbd_kinds.specs.declared.directory_op.DirectoryOp.TheVariants as directory
use Rattle.rbd_kinds.specs.declared.header.HeaderView.{HeaderView}
use Rattle.rbd_kinds.specs.declared.header.ParentLink.{ParentLink}
use Rattle.rbd_kinds.specs.declared.header.SnapStatus.{SnapStatus}
use Rattle.rbd_kinds.specs.declared.header.SnapStatus.TheVariants.{Unprotected, Unprotecting, Protected}
use Rattle.rbd_kinds.specs.declared.header.SnapView.{SnapView}
use Rattle.rbd_kinds.specs.declared.header_op.HeaderOp.{HeaderOp}
use Rattle.rbd_kinds.specs.declared.header_op.HeaderOp.TheVariants as header
use Rattle.rbd_kinds.specs.declared.id.Instance.{Instance}
use Rattle.rbd_kinds.specs.declared.id.SiteId.{SiteId}
use Rattle.rbd_kinds.specs.declared.map_op.MapOp.{MapOp}
use Rattle.rbd_kinds.specs.declared.map_op.MapOp.TheVariants as states
use Rattle.rbd_kinds.specs.declared.operation.Op.{Op}
use Rattle.rbd_kinds.specs.declared.operation.Op.TheVariants as op
use Rattle.rbd_kinds.specs.Sharing.{is_alone}
use Rattle.rbd_kinds.proofs.Images.{at_itself}
use Rattle.rbd_header.specs.Header.{snap_in, snap_taken, status_marked, with_size, with_snap, with_status, without_snap}
use Rattle.rbd_registry.specs.Children.{ChildEntry, children_in}
use Rattle.rbd_registry.specs.Directory.{id_of}
use Rattle.rbd_registry.specs.Directory as listing
use Rattle.rbd_registry.proofs.Ascending.{are_children}
use Rattle.rbd_registry.proofs.Entries.{entry_total}
use Rattle.rbd_flat.specs.Flat.{Flat}
use Rattle.rbd_machine.specs.Ancestors.{ChildBase, ChildLink, IsAmong, SnapPlace}
use Rattle.rbd_machine.specs.Children.{based_by, childless_by, is_base, is_link, is_snap, is_unprotecting, is_view_unprotecting, linked_by, lists_unprotecting, protected_size, with_childless}
use Rattle.rbd_machine.specs.Knowledge.{Knowledge, Own, first_told, found, header_alone, header_told, is_at, is_drawn, knows_head, learned, learned_of_header, learned_of_map, learned_of_object, looked_behind, looked_by, looked_under_lock, own_of, same_site, with_objects_where}
use Rattle.rbd_machine.specs.Permits.{Permits, MayRemove}
use Rattle.rbd_machine.proofs.AtLeast.{IsNewBase, among_left, base_was}
use Rattle.rbd_site.specs.ChildrenStep.{entry}
use Rattle.rbd_site.specs.DirectoryStep.{name_added}
use Rattle.rbd_site.specs.Found.{done_where}
use Rattle.rbd_site.specs.HeaderStep.{header_answer}
use Rattle.rbd_site.specs.Records.{Records}
use Rattle.rbd_site.specs.Step.{is_fenced, after_served, answer_to, answer_served}
use Rattle.rbd_site.proofs.GenerationLemmas.{looked_at}
use Rattle.rbd_stands.specs.Condition.{IsUnnamed, NamesOther}
use Rattle.rbd_stands.specs.Shown.{HasParent, links_of, snapshots_of}
use Rattle.rbd_stands.specs.Site.{StandsFor}
use Rattle.rbd_stands.proofs.Lookups.{header_left, header_marked}
use Rattle.rbd_stands.proofs.SiteSteps.{parents_there}
use Rattle.rbd_interference.specs.Truth.{AreBasedElsewhere, AreChildrenTrue, HasBase, IsChildOf, IsChildless, IsTrueAt, header_of_own, is_own_alone, known_header, sharing_of_own}
use Rattle.rbd_interference.proofs.Children.{IsLessOfChildren, Unlinks, base_served, children_less, link_served, never_protected, same_children, unnamed_served}
use Rattle.rbd_interference.proofs.Drawn.{drawn_elsewhere}
use Rattle.rbd_interference.proofs.Fenced.{served_is}
use Rattle.rbd_interference.proofs.Headers.{own_known}
use Rattle.rbd_interference.proofs.Less.{left_there}
use Rattle.rbd_interference.proofs.MapsLearned.{at_no_other}
use Rattle.rbd_interference.proofs.Parents.{found_id, older_stays}
use Rattle.rbd_interference.proofs.Seen.{header_got}
use Rattle.rbd_interference.proofs.Told.{header_changed, told_apart, told_here, told_sharing}

-- ---- lists of children

-- where the list of a snapshot's children is empty it has none
none_listed : (r : Records) (parent snap : ℕ) → children_in r.children parent snap ≡ [] → (child : ℕ) → IsChildOf r parent snap child → ⊥
none_listed r parent snap empty child is =
    true≢false (sym is ∙ sym ((are_children r.children parent snap).each child) ∙ ap (λ ids. list_any (λ id. id == child) ids) empty)

-- and no view names the snapshot
unnamed_by_list : (r : Records) (f : Flat) → StandsFor [] r f → (parent snap : ℕ) → children_in r.children parent snap ≡ [] → IsUnnamed [] r parent snap
unnamed_by_list r f stands parent snap empty = record {
  views = λ child h is.
      let parents = parents_there [] r f child h stands is in
      record { head = other child h.parent parents.head; snap = λ t s listed. other child s.parent (parents.snap t s listed) };
  awaited = λ k p is. cc;
}
  where
    other : (child : ℕ) (named : Option ParentLink) → HasParent (snapshots_of f) (links_of f child) named → NamesOther parent snap named
    other child None has = tt
    other child (Some link) has = λ image snapshot.
        none_listed r parent snap empty child
        (stands.links parent snap child ∙ ap (λ i. links_of f child i snap) (sym image) ∙ ap (links_of f child link.image) (sym snapshot) ∙ has.child)

-- ---- own snapshots

-- a header on which it is alone
record IsAloneOn (o : Option Own) (snap : ℕ) : Type 0 where
  pub alone : is_own_alone o ≡ true
  pub unprotecting : lists_unprotecting (header_of_own o) snap ≡ true

alone_on : (o : Option Own) (snap : ℕ) → lists_unprotecting (header_alone o) snap ≡ true → IsAloneOn o snap
alone_on None snap is = absurd (true≢false (sym is))
alone_on (Some o) snap is = by (is_alone o.sharing) refl is
  where
    by : (b : Bool) → is_alone o.sharing ≡ b → lists_unprotecting (cond b o.header None) snap ≡ true → IsAloneOn (Some o) snap
    by true alone is = record { alone = alone; unprotecting = is }
    by false shared is = absurd (true≢false (sym is))

-- what is answered to who isn't fenced
abbrev told_ids : Answer → List ℕ
told_ids (answer.Ids ids) = ids
told_ids _ = []

-- a list that is told as empty is
empty_told : (r : Records) (me : Instance) (parent snap : ℕ) → answer_to r me (op.Children (child.List parent snap)) ≡ answer.Ids [] → children_in r.children parent snap ≡ []
empty_told r me parent snap = by (is_fenced r me)
  where
    no_list : answer.Fenced ≡ answer.Ids [] → ⊥
    no_list e = cc

    by : (b : Bool) → cond b answer.Fenced (answer.Ids (children_in r.children parent snap)) ≡ answer.Ids [] → children_in r.children parent snap ≡ []
    by true told = absurd (no_list told)
    by false told = ap told_ids told

-- ---- bases and snapshots without children, of two requests

-- the snapshot of a base that a header tells is protected there
record IsToldProtected (site : SiteId) (image : ℕ) (h : HeaderView) (link : ParentLink) : Type 0 where
  pub image_is : link.image ≡ image
  pub view : SnapView
  pub listed : snap_in h.snaps link.snap ≡ Some view
  pub protected : view.status ≡ Protected
  pub size : view.size ≡ link.overlap

protected_view : (found : Option SnapView) (size : ℕ) → protected_size found ≡ Some size → (s : SnapView) × (found ≡ Some s) × (s.status ≡ Protected) × (s.size ≡ size)
protected_view None size told = absurd (none-some size told)
protected_view (Some s) size told = by s.status refl told
  where
    by : (status : SnapStatus) → s.status ≡ status → protected_size (Some (record s { status = status })) ≡ Some size → (v : SnapView) × (Some s ≡ Some v) × (v.status ≡ Protected) × (v.size ≡ size)
    by Protected is told = (s, refl, is, same_Some s.size size told)
    by Unprotecting is told = absurd (none-some size told)
    by Unprotected is told = absurd (none-some size told)

told_protected : (linked : List ChildLink) (site : SiteId) (image : ℕ) (h : HeaderView) (child : ℕ) (link : ParentLink) (new : IsNewBase linked site image h (record { site = site; child = child; link = link }))
    → IsToldProtected site image h link
told_protected linked site image h child link new =
    let found = protected_view (snap_in h.snaps new.link.snap) new.size new.told in
    let same : record { image = new.link.parent; snap = new.link.snap; overlap = new.size } ≡ link = ap (λ (b : ChildBase). b.link) new.is in
    let at : same_site new.link.site site && (new.link.parent == image) ≡ true = new.here in
    record {
      image_is = sym (ap (λ (l : ParentLink). l.image) same) ∙ eqb-true new.link.parent image (and_right_true (same_site new.link.site site) (new.link.parent == image) at);
      view = found.0;
      listed = ap (snap_in h.snaps) (sym (ap (λ (l : ParentLink). l.snap) same)) ∙ found.1;
      protected = found.2;
      size = found.3 ∙ ap (λ (l : ParentLink). l.overlap) same;
    }
  where
    and_right_true : (a b : Bool) → (a && b) ≡ true → b ≡ true
    and_right_true true b is = is
    and_right_true false b is = absurd (true≢false (sym is))

-- No header that is told makes a child based on a snapshot that another knows to have none.
pub based_elsewhere : (site : SiteId) (r : Records) (me you : Instance) (k j : Knowledge) (o : Op) (a : Answer) → answer_to r me o ≡ a → IsTrueAt site r you j → IsFalse (is_fenced r you)
    → AreBasedElsewhere site k j → (child : ℕ) (link : ParentLink) → IsAmong (record { site = site; child = child; link = link }) (based_by k.linked k.based site o a)
    → IsAmong (record { site = site; image = link.image; snap = link.snap }) j.childless → ⊥
based_elsewhere site r me you k j (op.Header image header.Get) (answer.Header h) answered u free was child link among others =
    by (base_was k.linked site image h k.based (record { site = site; child = child; link = link }) among)
  where
    by : IsAmong (record { site = site; child = child; link = link }) k.based ⊎ IsNewBase k.linked site image h (record { site = site; child = child; link = link }) → ⊥
    by (inl before) = was child link before others
    by (inr new) =
        let it = told_protected k.linked site image h child link new in
        never_protected site r you j u free link.image link.snap others h (ap r.headers it.image_is ∙ header_got r me image h answered) it.view it.listed it.protected
based_elsewhere site r me you k j (op.Children (child.Remove parent snap image)) answer.Done answered u free was c link among others =
    was c link (among_left (λ b. not (is_base site parent snap image b)) (record { site = site; child = c; link = link }) k.based among).0 others
based_elsewhere site r me you k j (op.Children (child.Remove parent snap image)) answer.Absent answered u free was c link among others =
    was c link (among_left (λ b. not (is_base site parent snap image b)) (record { site = site; child = c; link = link }) k.based among).0 others
based_elsewhere site r me you k j (op.Header image (header.Create view)) answer.Done answered u free was c link among others =
    was c link (among_left (λ b. not (is_at site image b.site b.child)) (record { site = site; child = c; link = link }) k.based among).0 others
based_elsewhere site r me you k j _ _ answered u free was c link among others = was c link among others

-- Nor is a snapshot found to have no child while one is based on it.
pub childless_elsewhere : (site : SiteId) (r : Records) (me you : Instance) (k j : Knowledge) (o : Op) (a : Answer) → answer_to r me o ≡ a → IsTrueAt site r you j → AreBasedElsewhere site j k
    → (child : ℕ) (link : ParentLink) → IsAmong (record { site = site; child = child; link = link }) j.based
    → IsAmong (record { site = site; image = link.image; snap = link.snap }) (childless_by (λ image. header_alone (own_of k.owns site image)) k.childless site o a) → ⊥
childless_elsewhere site r me you k j (op.Children (child.List parent snap)) (answer.Ids []) answered u was c link among others =
    by (lists_unprotecting (header_alone (own_of k.owns site parent)) snap) others
  where
    by : (counts : Bool) → IsAmong (record { site = site; image = link.image; snap = link.snap }) (with_childless counts (record { site = site; image = parent; snap = snap }) k.childless) → ⊥
    by false before = was c link among before
    by true (inr before) = was c link among before
    by true (inl same) =
        let linked : IsChildOf r link.image link.snap c = (u.children.based c link among).1.linked in
        none_listed r parent snap (empty_told r me parent snap answered) c
        (subst (λ i. IsChildOf r i snap c) (sym (ap (λ (p : SnapPlace). p.image) same)) (subst (λ t. IsChildOf r link.image t c) (sym (ap (λ (p : SnapPlace). p.snap) same)) linked))
childless_elsewhere site r me you k j (op.Header image (header.SnapStatus snap status)) answer.Done answered u was c link among others =
    was c link among (among_left (λ p. not (is_snap site image snap p)) (record { site = site; image = link.image; snap = link.snap }) k.childless others).0
childless_elsewhere site r me you k j (op.Header image header.Remove) answer.Done answered u was c link among others =
    was c link among (among_left (λ p. not (is_at site image p.site p.image)) (record { site = site; image = link.image; snap = link.snap }) k.childless others).0
childless_elsewhere site r me you k j _ _ answered u was c link among others = was c link among others

-- ---- what an answer teaches

-- what its changes of objects and of maps leave
record KeepsIds (new old : Knowledge) : Type 0 where
  pub drawn : new.drawn ≡ old.drawn
  pub owns : new.owns ≡ old.owns

ids_themselves : (k : Knowledge) → KeepsIds k k
ids_themselves k = record { drawn = refl; owns = refl }

-- whether it counts as there or not
found_keeps : (k : Knowledge) (site : SiteId) (image number : ℕ) (counts : Bool) → KeepsIds (with_objects_where counts site image (found number) k) k
found_keeps k site image number true = record { drawn = refl; owns = refl }
found_keeps k site image number false = ids_themselves k

object_keeps : (k : Knowledge) (site : SiteId) (image number : ℕ) (o : DataOp) (a : Answer) → KeepsIds (learned_of_object k site image number o a) k
object_keeps k site image number (object.Write context must parts bytes) answer.Done = record { drawn = refl; owns = refl }
object_keeps k site image number (object.WriteFull context bytes) answer.Done = record { drawn = refl; owns = refl }
object_keeps k site image number (object.Read snap parts) a = found_keeps k site image number (knows_head k site image number snap a)
object_keeps k site image number (object.CopyUp bytes) answer.Done = record { drawn = refl; owns = refl }
object_keeps k site image number (object.CopyUp bytes) answer.Exists = record { drawn = refl; owns = refl }
object_keeps k site image number (object.Zero context must parts) answer.Done = record { drawn = refl; owns = refl }
object_keeps k site image number (object.Empty context) answer.Done = record { drawn = refl; owns = refl }
object_keeps k site image number (object.Remove context) answer.Done = record { drawn = refl; owns = refl }
object_keeps k site image number _ _ = ids_themselves k

map_keeps : (k : Knowledge) (site : SiteId) (image : ℕ) (o : MapOp) (a : Answer) → KeepsIds (learned_of_map k site image o a) k
map_keeps k site image (states.Resize count) answer.Done = record { drawn = refl; owns = refl }
map_keeps k site image (states.Get None) (answer.Bits bits) = record { drawn = refl; owns = refl }
map_keeps k site image (states.Put (Some snap) bits) answer.Done = record { drawn = refl; owns = refl }
map_keeps k site image (states.Set view object state) answer.Done = record { drawn = refl; owns = refl }
map_keeps k site image (states.Remove view) answer.Done = record { drawn = refl; owns = refl }
map_keeps k site image _ _ = ids_themselves k

broken_keeps : (k : Knowledge) (site : SiteId) (image : ℕ) (owner : Instance) (a : Answer) → KeepsIds (learned_of_header k site image (header.LockBreak owner) a) k
broken_keeps k site image owner answer.Done = record { drawn = refl; owns = refl }
broken_keeps k site image owner answer.Changed = record { drawn = refl; owns = refl }
broken_keeps k site image owner _ = ids_themselves k

looked_keeps : (k : Knowledge) (site : SiteId) (image : ℕ) → KeepsIds (looked_behind site image k) k
looked_keeps k site image = by (own_of k.owns site image)
  where
    of : (h : Option HeaderView) → KeepsIds (looked_by h site image k) k
    of None = record { drawn = refl; owns = refl }
    of (Some h) = ids_themselves k

    by : (o : Option Own) → KeepsIds (looked_under_lock o site image k) k
    by None = ids_themselves k
    by (Some o) = of o.header

-- of an instance that isn't fenced
module _ (site : SiteId) (r : Records) (f : Flat) (me : Instance) (k : Knowledge) (stands : StandsFor [] r f) (t : IsTrueAt site r me k) (free : IsFalse (is_fenced r me)) where
  -- what it knew stays true behind its own operation, where that takes no link away
  kept : (o : Op) → Permits k site o → ((e : ChildEntry) → Unlinks o e → ⊥) → AreChildrenTrue site (after_served r me o) me k
  kept o permits stays = record {
    linked = λ parent snap child among. let it = t.children.linked parent snap child among in (it.0, link_served r me o (entry parent snap child) (stays (entry parent snap child)) it.1);
    based = λ child link among.
        let it = t.children.based child link among in
        (it.0, base_served site r k me t free link (t.children.apart free child link among) o permits child (stays (entry link.image link.snap child)) it.1);
    childless = λ f image snap among.
        let it = t.children.childless free image snap among in
        record { unnamed = unnamed_served site r k me image snap it.unnamed o permits; alone = it.alone; unprotecting = it.unprotecting };
    apart = λ f. t.children.apart free;
  }

  kept_less : (o : Op) → Permits k site o → ((e : ChildEntry) → Unlinks o e → ⊥) → (new : Knowledge) → IsLessOfChildren site new k → AreChildrenTrue site (after_served r me o) me new
  kept_less o permits stays new less = children_less site (after_served r me o) me new k less (kept o permits stays)

  kept_as : (o : Op) → Permits k site o → ((e : ChildEntry) → Unlinks o e → ⊥) → (new : Knowledge) → KeepsIds new k → new.linked ≡ k.linked → new.based ≡ k.based → new.childless ≡ k.childless
      → AreChildrenTrue site (after_served r me o) me new
  kept_as o permits stays new ids linked based childless = kept_less o permits stays new (same_children site new k linked based childless ids.drawn ids.owns)

  -- ---- the directory

  directory_taught : (o : DirectoryOp) → Permits k site (op.Directory o) → AreChildrenTrue site (after_served r me (op.Directory o)) me (learned k site (op.Directory o) (answer_served r me (op.Directory o)))
  directory_taught (directory.Find name) permits = kept_as (op.Directory (directory.Find name)) permits (λ e same. same) _ (record { drawn = refl; owns = refl }) refl refl refl
  directory_taught directory.List permits = kept_as (op.Directory directory.List) permits (λ e same. same) _ (record { drawn = refl; owns = refl }) refl refl refl
  directory_taught (directory.Rename from to) permits = kept_as (op.Directory (directory.Rename from to)) permits (λ e same. same) _ (record { drawn = refl; owns = refl }) refl refl refl
  directory_taught (directory.Remove image) permits = kept_as (op.Directory (directory.Remove image)) permits (λ e same. same) _ (record { drawn = refl; owns = refl }) refl refl refl
  directory_taught (directory.Add name) permits = by (id_of r.directory name) (listing.is_full r.directory)
    where
      o : Op
      o = op.Directory (directory.Add name)

      -- it makes one more
      drawn_too : (b : Bool) (child : ℕ) → is_drawn k.drawn site child ≡ true → cond b true (is_drawn k.drawn site child) ≡ true
      drawn_too true child makes = refl
      drawn_too false child makes = makes

      by : (held : Option ℕ) (full : Bool) → AreChildrenTrue site (after_served r me o) me (learned k site o (name_added held full (r.directory.drawn + 1)))
      by (Some image) full = kept_as o tt (λ e same. same) _ (record { drawn = refl; owns = refl }) refl refl refl
      by None true = kept_as o tt (λ e same. same) _ (record { drawn = refl; owns = refl }) refl refl refl
      by None false = kept_less o tt (λ e same. same) _ (record {
        linked = λ parent snap child among. among;
        based = λ child link among. among;
        childless = λ image snap among. among;
        makes = λ child makes. drawn_too (is_at site child site (r.directory.drawn + 1)) child makes;
        owns = λ image snap among. refl;
      })

  -- ---- the list of children

  linked_taught : (parent snap image : ℕ) → is_drawn k.drawn site image ≡ true
      → AreChildrenTrue site (after_served r me (op.Children (child.Add parent snap image))) me (learned k site (op.Children (child.Add parent snap image)) answer.Done)
  linked_taught parent snap image makes = record { linked = linked; based = was.based; childless = was.childless; apart = was.apart }
    where
      o : Op
      o = op.Children (child.Add parent snap image)

      was : AreChildrenTrue site (after_served r me o) me k
      was = kept o makes (λ e same. same)

      there : IsChildOf (after_served r me o) parent snap image
      there = finset.contains-insert entry_total r.children (entry parent snap image) (entry parent snap image)
          ∙ ap (λ c. is_eq c || finset.contains r.children (entry parent snap image)) (tied_itself entry_total (entry parent snap image))

      linked : (p s c : ℕ) → IsAmong (record { site = site; parent = p; snap = s; child = c }) (linked_by k.linked site o answer.Done) → (is_drawn k.drawn site c ≡ true) × IsChildOf (after_served r me o) p s c
      linked p s c (inr among) = was.linked p s c among
      linked p s c (inl same) =
          subst (λ (l : ChildLink). (is_drawn k.drawn site l.child ≡ true) × IsChildOf (after_served r me o) l.parent l.snap l.child) same (makes, there)

  -- of a link that it takes away it forgets all
  unlinked_taught : (parent snap image : ℕ) → Permits k site (op.Children (child.Remove parent snap image)) → (b : Bool)
      → AreChildrenTrue site (after_served r me (op.Children (child.Remove parent snap image))) me (learned k site (op.Children (child.Remove parent snap image)) (done_where b))
  unlinked_taught parent snap image permits b = by b
    where
      o : Op
      o = op.Children (child.Remove parent snap image)

      is_it : (p s c : ℕ) → entry p s c ≡ entry parent snap image → is_at site image site c && ((p == parent) && (s == snap)) ≡ true
      is_it p s c same =
          ap (λ (e : ChildEntry). is_at site image site e.child && ((e.parent == parent) && (e.snap == snap))) same
          ∙ ap (λ x. x && ((parent == parent) && (snap == snap))) (at_itself site image)
          ∙ ap (λ x. x && (snap == snap)) (eq-eqb parent parent refl) ∙ eq-eqb snap snap refl

      others : (p s c : ℕ) → not (is_at site image site c && ((p == parent) && (s == snap))) ≡ true → entry p s c ≡ entry parent snap image → ⊥
      others p s c differs same = true≢false (sym differs ∙ ap not (is_it p s c same))

      linked : (p s c : ℕ) → IsAmong (record { site = site; parent = p; snap = s; child = c }) (linked_by k.linked site o answer.Done) → (is_drawn k.drawn site c ≡ true) × IsChildOf (after_served r me o) p s c
      linked p s c among =
          let left = among_left (λ l. not (is_link site parent snap image l)) (record { site = site; parent = p; snap = s; child = c }) k.linked among in
          let it = t.children.linked p s c left.0 in
          (it.0, link_served r me o (entry p s c) (others p s c left.1) it.1)

      based : (c : ℕ) (link : ParentLink) → IsAmong (record { site = site; child = c; link = link }) (based_by k.linked k.based site o answer.Done) → (is_drawn k.drawn site c ≡ true) × HasBase (after_served r me o) c link
      based c link among =
          let left = among_left (λ e. not (is_base site parent snap image e)) (record { site = site; child = c; link = link }) k.based among in
          let it = t.children.based c link left.0 in
          (it.0, base_served site r k me t free link (t.children.apart free c link left.0) o permits c (others link.image link.snap c left.1) it.1)

      apart : AreBasedElsewhere site (learned k site o answer.Done) k
      apart c link among = t.children.apart free c link (among_left (λ e. not (is_base site parent snap image e)) (record { site = site; child = c; link = link }) k.based among).0

      childless : (i s : ℕ) → IsAmong (record { site = site; image = i; snap = s }) k.childless → IsChildless (after_served r me o) (own_of k.owns site i) i s
      childless i s among =
          let it = t.children.childless free i s among in
          record { unnamed = unnamed_served site r k me i s it.unnamed o permits; alone = it.alone; unprotecting = it.unprotecting }

      by : (b : Bool) → AreChildrenTrue site (after_served r me o) me (learned k site o (done_where b))
      by true = record { linked = linked; based = based; childless = λ f. childless; apart = λ f. apart }
      by false = record { linked = linked; based = based; childless = λ f. childless; apart = λ f. apart }

  -- an empty list while the own snapshot is unprotecting
  listed_taught : (parent snap : ℕ) (ids : List ℕ) → children_in r.children parent snap ≡ ids
      → AreChildrenTrue site r me (learned k site (op.Children (child.List parent snap)) (answer.Ids ids))
  listed_taught parent snap (x ∷ xs) is = record { linked = t.children.linked; based = t.children.based; childless = t.children.childless; apart = t.children.apart }
  listed_taught parent snap [] empty = record { linked = t.children.linked; based = t.children.based; childless = λ f. childless; apart = λ f. apart }
    where
      o : Op
      o = op.Children (child.List parent snap)

      answered : answer_to r me o ≡ answer.Ids []
      answered = ap (λ b. cond b answer.Fenced (answer.Ids (children_in r.children parent snap))) free ∙ ap answer.Ids empty

      apart : AreBasedElsewhere site k (learned k site o (answer.Ids []))
      apart c link among others = childless_elsewhere site r me me k k o (answer.Ids []) answered t (t.children.apart free) c link among others

      childless : (i s : ℕ) → IsAmong (record { site = site; image = i; snap = s }) (learned k site o (answer.Ids [])).childless → IsChildless r (own_of k.owns site i) i s
      childless i s = by (lists_unprotecting (header_alone (own_of k.owns site parent)) snap) refl
        where
          by : (counts : Bool) → lists_unprotecting (header_alone (own_of k.owns site parent)) snap ≡ counts
              → IsAmong (record { site = site; image = i; snap = s }) (with_childless counts (record { site = site; image = parent; snap = snap }) k.childless) → IsChildless r (own_of k.owns site i) i s
          by false told before = t.children.childless free i s before
          by true told (inr before) = t.children.childless free i s before
          by true told (inl same) =
              let own = alone_on (own_of k.owns site parent) snap told in
              subst (λ (p : SnapPlace). IsChildless r (own_of k.owns site p.image) p.image p.snap) same
              (record { unnamed = unnamed_by_list r f stands parent snap empty; alone = own.alone; unprotecting = own.unprotecting })

  list_taught : (o : ChildrenOp) → Permits k site (op.Children o) → AreChildrenTrue site (after_served r me (op.Children o)) me (learned k site (op.Children o) (answer_served r me (op.Children o)))
  list_taught (child.Add parent snap image) permits = linked_taught parent snap image permits
  list_taught (child.Remove parent snap image) permits = unlinked_taught parent snap image permits (finset.contains r.children (entry parent snap image))
  list_taught (child.List parent snap) permits = listed_taught parent snap (children_in r.children parent snap) refl

  -- ---- headers

  -- what is known of a child goes once its header is made
  made_taught : (image : ℕ) (o : Op) → Permits k site o → ((e : ChildEntry) → Unlinks o e → ⊥) → (view : HeaderView) (a : Answer)
      → AreChildrenTrue site (after_served r me o) me (learned k site (op.Header image (header.Create view)) a)
  made_taught image o permits stays view answer.Done = record {
    linked = λ parent snap c among.
        let left = among_left (λ l. not (is_at site image l.site l.child)) (record { site = site; parent = parent; snap = snap; child = c }) k.linked among in
        let it = was.linked parent snap c left.0 in
        (drawn_elsewhere site image c (differs c left.1) k.drawn ∙ it.0, it.1);
    based = λ c link among.
        let left = among_left (λ b. not (is_at site image b.site b.child)) (record { site = site; child = c; link = link }) k.based among in
        let it = was.based c link left.0 in
        (drawn_elsewhere site image c (differs c left.1) k.drawn ∙ it.0, it.1);
    childless = was.childless;
    apart = λ f c link among others. was.apart f c link (among_left (λ b. not (is_at site image b.site b.child)) (record { site = site; child = c; link = link }) k.based among).0 others;
  }
    where
      was : AreChildrenTrue site (after_served r me o) me k
      was = kept o permits stays

      differs : (c : ℕ) → not (is_at site image site c) ≡ true → c ≢ image
      differs c other same = true≢false (sym other ∙ ap (λ n. not (is_at site image site n)) same ∙ ap not (at_itself site image))
  made_taught image o permits stays view _ = let was = kept o permits stays in record { linked = was.linked; based = was.based; childless = was.childless; apart = was.apart }

  -- A change of an own header keeps the snapshots that it lists as unprotecting, and that still
  -- count.
  edited_taught : (image : ℕ) (o : Op) → Permits k site o → ((e : ChildEntry) → Unlinks o e → ⊥) → (edit : HeaderView → HeaderView) (new : Knowledge)
      → new.linked ≡ k.linked → new.based ≡ k.based → new.drawn ≡ k.drawn → new.owns ≡ (header_told site image (option_map edit) k).owns
      → ((i s : ℕ) → IsAmong (record { site = site; image = i; snap = s }) new.childless → IsAmong (record { site = site; image = i; snap = s }) k.childless)
      → ((h : HeaderView) → known_header k site image ≡ Some h → (s : ℕ) → IsAmong (record { site = site; image = image; snap = s }) new.childless → lists_unprotecting (Some h) s ≡ true
      → lists_unprotecting (Some (edit h)) s ≡ true)
      → AreChildrenTrue site (after_served r me o) me new
  edited_taught image o permits stays edit new same_linked same_based same_drawn same_owns fewer still = record {
    linked = λ parent snap c among.
        let it = was.linked parent snap c (subst (IsAmong (record { site = site; parent = parent; snap = snap; child = c })) same_linked among) in
        (ap (λ ids. is_drawn ids site c) same_drawn ∙ it.0, it.1);
    based = λ c link among.
        let it = was.based c link (subst (IsAmong (record { site = site; child = c; link = link })) same_based among) in
        (ap (λ ids. is_drawn ids site c) same_drawn ∙ it.0, it.1);
    childless = λ f i s among.
        let it = was.childless f i s (fewer i s among) in
        record {
          unnamed = it.unnamed;
          alone = ap (λ owns. is_alone (sharing_of_own (own_of owns site i))) same_owns ∙ ap is_alone (told_sharing site site image i (option_map edit) k.owns) ∙ it.alone;
          unprotecting = ap (λ owns. lists_unprotecting (header_of_own (own_of owns site i)) s) same_owns ∙ listed i s among it.unprotecting;
        };
    apart = λ f c link among others. was.apart f c link (subst (IsAmong (record { site = site; child = c; link = link })) same_based among) (fewer link.image link.snap others);
  }
    where
      was : AreChildrenTrue site (after_served r me o) me k
      was = kept o permits stays

      listed : (i s : ℕ) → IsAmong (record { site = site; image = i; snap = s }) new.childless → lists_unprotecting (known_header k site i) s ≡ true
          → lists_unprotecting (header_of_own (own_of (header_told site image (option_map edit) k).owns site i)) s ≡ true
      listed i s among is = by (i == image) refl
        where
          here : (own : Option Own) → own_of k.owns site image ≡ own → IsAmong (record { site = site; image = image; snap = s }) new.childless → lists_unprotecting (header_of_own own) s ≡ true
              → lists_unprotecting (header_changed (option_map edit) own) s ≡ true
          here None at counts told = told
          here (Some own) at counts told = of own.header (ap header_of_own at) told
            where
              of : (known : Option HeaderView) → known_header k site image ≡ known → lists_unprotecting known s ≡ true → lists_unprotecting (option_map edit known) s ≡ true
              of None known told = told
              of (Some h) known told = still h known s counts told

          by : (b : Bool) → (i == image) ≡ b → lists_unprotecting (header_of_own (own_of (header_told site image (option_map edit) k).owns site i)) s ≡ true
          by true same =
              let at = eqb-true i image same in
              ap (λ n. lists_unprotecting (header_of_own (own_of (header_told site image (option_map edit) k).owns site n)) s) at
              ∙ ap (λ q. lists_unprotecting q s) (told_here site image (option_map edit) k.owns)
              ∙ here (own_of k.owns site image) refl (subst (λ n. IsAmong (record { site = site; image = n; snap = s }) new.childless) at among)
              (ap (λ n. lists_unprotecting (known_header k site n) s) (sym at) ∙ is)
          by false other =
              ap (λ q. lists_unprotecting (header_of_own q) s)
              (told_apart site site image i (option_map edit) (at_no_other site image i (λ same. true≢false (sym (eq-eqb i image same) ∙ other))) k.owns) ∙ is

  -- a snapshot more
  taken_still : (name : List ℕ) (h : HeaderView) (s : ℕ) → lists_unprotecting (Some h) s ≡ true → lists_unprotecting (Some (with_snap name h)) s ≡ true
  taken_still name h s is = by (snap_in h.snaps s) refl
    where
      by : (found : Option SnapView) → snap_in h.snaps s ≡ found → lists_unprotecting (Some (with_snap name h)) s ≡ true
      by None none = absurd (true≢false (sym is ∙ ap is_view_unprotecting none))
      by (Some v) found = ap is_view_unprotecting (older_stays h.snaps (snap_taken name h) s v found) ∙ sym (ap is_view_unprotecting found) ∙ is

  -- one that isn't unprotected stays where an unprotected one goes
  left_still : (snap : ℕ) (h : HeaderView) → MayRemove snap h → (s : ℕ) → lists_unprotecting (Some h) s ≡ true → lists_unprotecting (Some (without_snap snap h)) s ≡ true
  left_still snap h may s is = ap is_view_unprotecting (header_left h.snaps snap s other) ∙ is
    where
      other : s ≢ snap
      other same =
          true≢false (sym is ∙ ap (λ n. is_view_unprotecting (snap_in h.snaps n)) same ∙ ap is_view_unprotecting may.listed ∙ ap is_unprotecting may.unprotected)

  -- another one is marked
  marked_still : (snap : ℕ) (status : SnapStatus) (h : HeaderView) (s : ℕ) → s ≢ snap → lists_unprotecting (Some h) s ≡ true → lists_unprotecting (Some (with_status snap status h)) s ≡ true
  marked_still snap status h s other is = ap is_view_unprotecting (header_marked snap status h.snaps s) ∙ by (snap_in h.snaps s) refl
    where
      by : (found : Option SnapView) → snap_in h.snaps s ≡ found → is_view_unprotecting (option_map (status_marked snap status) found) ≡ true
      by None none = absurd (true≢false (sym is ∙ ap is_view_unprotecting none))
      by (Some v) found = of (v.id == snap) refl
        where
          of : (b : Bool) → (v.id == snap) ≡ b → is_unprotecting (cond b (record v { status = status }) v).status ≡ true
          of true same = absurd (other (sym (found_id h.snaps s v found) ∙ eqb-true v.id snap same))
          of false differs = sym (ap is_view_unprotecting found) ∙ is

  status_taught : (image snap : ℕ) (status : SnapStatus) (a : Answer) → Permits k site (op.Header image (header.SnapStatus snap status))
      → AreChildrenTrue site (after_served r me (op.Header image (header.SnapStatus snap status))) me (learned k site (op.Header image (header.SnapStatus snap status)) a)
  status_taught image snap status answer.Done permits =
      edited_taught image (op.Header image (header.SnapStatus snap status)) permits (λ e same. same) (with_status snap status) _ refl refl refl refl
      (λ i s among. (among_left (λ p. not (is_snap site image snap p)) (record { site = site; image = i; snap = s }) k.childless among).0)
      (λ h known s among is. marked_still snap status h s (differs s (among_left (λ p. not (is_snap site image snap p)) (record { site = site; image = image; snap = s }) k.childless among).1) is)
    where
      differs : (s : ℕ) → not (is_at site image site image && (s == snap)) ≡ true → s ≢ snap
      differs s other same =
          true≢false (sym other ∙ ap (λ b. not (b && (s == snap))) (at_itself site image) ∙ ap not (eq-eqb s snap same))
  status_taught image snap status _ permits = kept_as (op.Header image (header.SnapStatus snap status)) permits (λ e same. same) _ (ids_themselves k) refl refl refl

  sized_taught : (image to : ℕ) (a : Answer) → Permits k site (op.Header image (header.SetSize to))
      → AreChildrenTrue site (after_served r me (op.Header image (header.SetSize to))) me (learned k site (op.Header image (header.SetSize to)) a)
  sized_taught image to answer.Done permits =
      edited_taught image (op.Header image (header.SetSize to)) permits (λ e same. same) (with_size to) _ refl refl refl refl (λ i s among. among) (λ h known s among is. is)
  sized_taught image to _ permits = kept_as (op.Header image (header.SetSize to)) permits (λ e same. same) _ (ids_themselves k) refl refl refl

  taken_taught : (image : ℕ) (name : List ℕ) (a : Answer) → Permits k site (op.Header image (header.SnapAdd name))
      → AreChildrenTrue site (after_served r me (op.Header image (header.SnapAdd name))) me (learned k site (op.Header image (header.SnapAdd name)) a)
  taken_taught image name (answer.Snap snap) permits =
      edited_taught image (op.Header image (header.SnapAdd name)) permits (λ e same. same) (with_snap name) _ refl refl refl refl (λ i s among. among) (λ h known s among is. taken_still name h s is)
  taken_taught image name _ permits = kept_as (op.Header image (header.SnapAdd name)) permits (λ e same. same) _ (ids_themselves k) refl refl refl

  removed_taught : (image snap : ℕ) (a : Answer) → Permits k site (op.Header image (header.SnapRemove snap))
      → AreChildrenTrue site (after_served r me (op.Header image (header.SnapRemove snap))) me (learned k site (op.Header image (header.SnapRemove snap)) a)
  removed_taught image snap answer.Done permits =
      edited_taught image (op.Header image (header.SnapRemove snap)) permits (λ e same. same) (without_snap snap) _ refl refl refl refl (λ i s among. among)
      (λ h known s among is. left_still snap h (subst (MayRemove snap) (same_Some permits.header h (sym (own_known k site image _ permits) ∙ known)) permits.meets.1) s is)
  removed_taught image snap _ permits = kept_as (op.Header image (header.SnapRemove snap)) permits (λ e same. same) _ (ids_themselves k) refl refl refl

  -- an image that it removes is none of its own any more
  gone_taught : (image : ℕ) (a : Answer) → Permits k site (op.Header image header.Remove)
      → AreChildrenTrue site (after_served r me (op.Header image header.Remove)) me (learned k site (op.Header image header.Remove) a)
  gone_taught image answer.Done permits =
      kept_less (op.Header image header.Remove) permits (λ e same. same) _ (record {
        linked = λ parent snap c among. among;
        based = λ c link among. among;
        childless = λ i s among. (among_left (λ p. not (is_at site image p.site p.image)) (record { site = site; image = i; snap = s }) k.childless among).0;
        makes = λ c makes. makes;
        owns = λ i s among.
            left_there site site image i
            (at_no_other site image i (differs i (among_left (λ p. not (is_at site image p.site p.image)) (record { site = site; image = i; snap = s }) k.childless among).1)) k.owns;
      })
    where
      differs : (i : ℕ) → not (is_at site image site i) ≡ true → i ≢ image
      differs i other same = true≢false (sym other ∙ ap (λ n. not (is_at site image site n)) same ∙ ap not (at_itself site image))
  gone_taught image _ permits = kept_as (op.Header image header.Remove) permits (λ e same. same) _ (ids_themselves k) refl refl refl

  -- ---- a header that is told

  -- an own header that it knew already stays so, and its line too
  looked_childless : (image : ℕ) (h : HeaderView) (i s : ℕ) → IsAmong (record { site = site; image = i; snap = s }) k.childless
      → IsChildless r (own_of (header_told site image (first_told h) (looked_behind site image k)).owns site i) i s
  looked_childless image h i s among =
      let it = t.children.childless free i s among in
      let keeps = looked_keeps k site image in
      record {
        unnamed = it.unnamed;
        alone = ap is_alone (told_sharing site site image i (first_told h) (looked_behind site image k).owns) ∙ ap (λ owns. is_alone (sharing_of_own (own_of owns site i))) keeps.owns ∙ it.alone;
        unprotecting = by (i == image) refl it.unprotecting;
      }
    where
      looked : Knowledge
      looked = looked_behind site image k

      same : own_of looked.owns site image ≡ own_of k.owns site image
      same = ap (λ owns. own_of owns site image) (looked_keeps k site image).owns

      here : (own : Option Own) → lists_unprotecting (header_of_own own) s ≡ true → lists_unprotecting (header_changed (first_told h) own) s ≡ true
      here None told = told
      here (Some own) told = of own.header told
        where
          of : (known : Option HeaderView) → lists_unprotecting known s ≡ true → lists_unprotecting (first_told h known) s ≡ true
          of None told = absurd (true≢false (sym told))
          of (Some v) told = told

      by : (b : Bool) → (i == image) ≡ b → lists_unprotecting (known_header k site i) s ≡ true → lists_unprotecting (known_header (header_told site image (first_told h) looked) site i) s ≡ true
      by true at told =
          let one = eqb-true i image at in
          ap (λ n. lists_unprotecting (known_header (header_told site image (first_told h) looked) site n) s) one
          ∙ ap (λ q. lists_unprotecting q s) (told_here site image (first_told h) looked.owns)
          ∙ here (own_of looked.owns site image) (ap (λ o. lists_unprotecting (header_of_own o) s) same ∙ ap (λ n. lists_unprotecting (known_header k site n) s) (sym one) ∙ told)
      by false other told =
          ap (λ q. lists_unprotecting (header_of_own q) s)
          (told_apart site site image i (first_told h) (at_no_other site image i (λ e. true≢false (sym (eq-eqb i image e) ∙ other))) looked.owns
          ∙ ap (λ owns. own_of owns site i) (looked_keeps k site image).owns) ∙ told

  told_taught : (image : ℕ) (there : Option HeaderView) → r.headers image ≡ there → AreChildrenTrue site r me (learned k site (op.Header image header.Get) (header_answer me there (r.watchers image) header.Get))
  told_taught image None is = record { linked = t.children.linked; based = t.children.based; childless = t.children.childless; apart = t.children.apart }
  told_taught image (Some h) is = record {
    linked = λ parent snap c among. let it = t.children.linked parent snap c among in (makes c it.0, it.1);
    based = λ c link among. by c link (base_was k.linked site image h k.based (record { site = site; child = c; link = link }) among);
    childless = λ f i s among. looked_childless image h i s among;
    apart = λ f c link among others. based_elsewhere site r me me k k (op.Header image header.Get) (answer.Header h) answered t free (t.children.apart free) c link among others;
  }
    where
      answered : answer_to r me (op.Header image header.Get) ≡ answer.Header h
      answered =
          ap (λ b. cond b answer.Fenced (header_answer me (r.headers image) (r.watchers image) header.Get)) free
          ∙ ap (λ q. header_answer me q (r.watchers image) header.Get) is

      makes : (c : ℕ) → is_drawn k.drawn site c ≡ true → is_drawn (looked_behind site image k).drawn site c ≡ true
      makes c it = ap (λ ids. is_drawn ids site c) (looked_keeps k site image).drawn ∙ it

      by : (c : ℕ) (link : ParentLink) → IsAmong (record { site = site; child = c; link = link }) k.based ⊎ IsNewBase k.linked site image h (record { site = site; child = c; link = link })
          → (is_drawn (looked_behind site image k).drawn site c ≡ true) × HasBase r c link
      by c link (inl before) = let it = t.children.based c link before in (makes c it.0, it.1)
      by c link (inr new) =
          let told = told_protected k.linked site image h c link new in
          let of_link : record { site = new.link.site; child = new.link.child; link = record { image = new.link.parent; snap = new.link.snap; overlap = new.size } } ≡ record { site = site; child = c; link = link } = new.is in
          let it = t.children.linked link.image link.snap c
          (subst (λ (b : ChildBase). IsAmong (record { site = b.site; parent = b.link.image; snap = b.link.snap; child = b.child }) k.linked) of_link new.among) in (
            makes c it.0,
            record {
              linked = it.1;
              parent = h;
              there = ap r.headers told.image_is ∙ is;
              view = told.view;
              listed = told.listed;
              kept = λ unprotected. protected_is_not (sym told.protected ∙ unprotected);
              size = told.size;
            },
          )
        where
          protected_is_not : Protected ≡ Unprotected → ⊥
          protected_is_not e = cc

  -- ---- any of them

  header_taught : (image : ℕ) (o : HeaderOp) → Permits k site (op.Header image o) → AreChildrenTrue site (after_served r me (op.Header image o)) me (learned k site (op.Header image o) (answer_served r me (op.Header image o)))
  header_taught image header.Get permits =
      subst (λ s. AreChildrenTrue site s me (learned k site (op.Header image header.Get) (answer_served r me (op.Header image header.Get)))) (sym (sym (served_is r me (op.Header image header.Get) free) ∙ looked_at r me (op.Header image header.Get) refl))
      (told_taught image (r.headers image) refl)
  header_taught image (header.Create view) permits =
      made_taught image (op.Header image (header.Create view)) permits (λ e same. same) view (answer_served r me (op.Header image (header.Create view)))
  header_taught image (header.SetSize to) permits = sized_taught image to (answer_served r me (op.Header image (header.SetSize to))) permits
  header_taught image header.Remove permits = gone_taught image (answer_served r me (op.Header image header.Remove)) permits
  header_taught image (header.SnapAdd name) permits = taken_taught image name (answer_served r me (op.Header image (header.SnapAdd name))) permits
  header_taught image (header.SnapRemove snap) permits = removed_taught image snap (answer_served r me (op.Header image (header.SnapRemove snap))) permits
  header_taught image (header.SnapStatus snap status) permits = status_taught image snap status (answer_served r me (op.Header image (header.SnapStatus snap status))) permits
  header_taught image (header.LockBreak owner) permits =
      let a = answer_served r me (op.Header image (header.LockBreak owner)) in
      let ids = broken_keeps k site image owner a in
      kept_as (op.Header image (header.LockBreak owner)) permits (λ e same. same) (learned k site (op.Header image (header.LockBreak owner)) a) (record { drawn = ids.drawn; owns = ids.owns }) refl refl refl
  header_taught image header.LockTake permits = kept_as (op.Header image header.LockTake) permits (λ e same. same) _ (record { drawn = refl; owns = refl }) refl refl refl
  header_taught image header.LockDrop permits = kept_as (op.Header image header.LockDrop) permits (λ e same. same) _ (record { drawn = refl; owns = refl }) refl refl refl
  header_taught image header.Watch permits = kept_as (op.Header image header.Watch) permits (λ e same. same) _ (record { drawn = refl; owns = refl }) refl refl refl
  header_taught image header.Unwatch permits = kept_as (op.Header image header.Unwatch) permits (λ e same. same) _ (record { drawn = refl; owns = refl }) refl refl refl
  header_taught image header.WatchersGet permits = kept_as (op.Header image header.WatchersGet) permits (λ e same. same) _ (record { drawn = refl; owns = refl }) refl refl refl
  header_taught image (header.Notify kind) permits = kept_as (op.Header image (header.Notify kind)) permits (λ e same. same) _ (record { drawn = refl; owns = refl }) refl refl refl
  header_taught image _ permits = elim permits [ ]

  pub children_served : (o : Op) → Permits k site o → AreChildrenTrue site (after_served r me o) me (learned k site o (answer_served r me o))
  children_served (op.Directory o) permits = directory_taught o permits
  children_served (op.Children o) permits = list_taught o permits
  children_served (op.BlockAdd i) permits = kept_as (op.BlockAdd i) permits (λ e same. same) _ (record { drawn = refl; owns = refl }) refl refl refl
  children_served (op.Header image o) permits = header_taught image o permits
  children_served (op.Data image number o) permits =
      let a = answer_served r me (op.Data image number o) in
      let ids = object_keeps k site image number o a in
      kept_as (op.Data image number o) permits (λ e same. same) (learned k site (op.Data image number o) a) (record { drawn = ids.drawn; owns = ids.owns }) refl refl refl
  children_served (op.Map image o) permits =
      let a = answer_served r me (op.Map image o) in
      let ids = map_keeps k site image o a in
      kept_as (op.Map image o) permits (λ e same. same) (learned k site (op.Map image o) a) (record { drawn = ids.drawn; owns = ids.owns }) refl refl refl
  children_served _ permits = elim permits [ ]
