-- What is known of children of snapshots stays true, whoever does what is permitted to him.
use Rattle.std.proofs.Common.{◌≡◌, ◌≢◌, inl, inr, ℕ, ◌==◌, ◌&&◌, cond, not, Bool, true, false, List, [], Ordering, Option, Some, None, option_map, is_some, refl, sym, ap, ◌∙◌, subst}
use Rattle.std.specs.declared.cmp.Ordering.TheVariants.{Less, Equal, Greater}
use Rattle.std.specs.FinSet as finset
use Rattle.std.specs.Ordering.{eq_by_cmp, is_eq}
use Rattle.std.specs.Prelude.{IsFalse}
use Rattle.std.proofs.lemmas.Bool.{true≢false, eqb-true, or_right}
use Rattle.std.proofs.lemmas.Option.{none-some, same_Some}
use Rattle.rbd_kinds.specs.declared.children_op.ChildrenOp.TheVariants as child
use Rattle.rbd_kinds.specs.declared.header.HeaderView.{HeaderView}
use Rattle.rbd_kinds.specs.declared.header.ParentLink.{ParentLink}
use Rattle.rbd_kinds.specs.declared.header.SnapStatus.{SnapStatus}
use Rattle.rbd_kinds.specs.declared.header.SnapStatus.TheVariants.{Protected, Unprotected}
use Rattle.rbd_kinds.specs.declared.header.SnapView.{SnapView}
use Rattle.rbd_kinds.specs.declared.header_op.HeaderOp.{HeaderOp}
use Rattle.rbd_kinds.specs.declared.header_op.HeaderOp.TheVariants as header
use Rattle.rbd_kinds.specs.declared.id.Instance.{Instance}
use Rattle.rbd_kinds.specs.declared.id.SiteId.{SiteId}
use Rattle.rbd_kinds.specs.declared.operation.Op.{Op}
use Rattle.rbd_kinds.specs.declared.operation.Op.TheVariants as op
use Rattle.rbd_kinds.specs.declared.sharing.Sharing.{Sharing}
use Rattle.rbd_kinds.specs.Header.{snap_named}
use Rattle.rbd_header.specs.Header.{cut, is_full, snap_in, snap_taken, status_marked, with_size, with_snap, with_status, without_snap}
use Rattle.rbd_registry.specs.Children.{ChildEntry, entry_cmp}
use Rattle.rbd_registry.proofs.Entries.{entry_exact, entry_total}
use Rattle.rbd_machine.specs.Ancestors.{IsAmong}
use Rattle.rbd_machine.specs.Children.{is_unprotecting, is_view_unprotecting, lists_unprotecting}
use Rattle.rbd_machine.specs.Knowledge.{Knowledge, is_drawn, is_gone, own_of}
use Rattle.rbd_machine.specs.Permits.{Permits, PermitsOnHeader, MayMark, MayUnlink, MayRemove, NamesNone, OwnsAlone, OwnsBy}
use Rattle.rbd_site.specs.ChildrenStep.{Entries, entry}
use Rattle.rbd_site.specs.HeaderStep.{header_after, header_then, is_owner}
use Rattle.rbd_site.specs.Records.{Records}
use Rattle.rbd_site.specs.Step.{is_fenced, after, after_served}
use Rattle.rbd_site.proofs.StepLemmas.{where_fenced}
use Rattle.rbd_stands.specs.Condition.{IsUnnamed, NamesOther}
use Rattle.rbd_stands.specs.View.{EachView}
use Rattle.rbd_stands.proofs.Lookups.{header_left, header_marked}
use Rattle.rbd_interference.specs.Truth.{AreBasedElsewhere, AreChildrenTrue, HasBase, IsChildOf, IsChildless, IsStill, IsTrueAt, known_header, sharing_on}
use Rattle.rbd_interference.proofs.Fenced.{after_free, was_free}
use Rattle.rbd_interference.proofs.Headers.{not_waiting, owned_there}
use Rattle.rbd_interference.proofs.Parents.{found_id, older_stays, parents_then}

-- ---- who knows less

-- no more is known of children, and of each that is still known as much else
pub record IsLessOfChildren (site : SiteId) (new old : Knowledge) : Type 0 where
  pub linked : (parent snap child : ℕ) → IsAmong (record { site = site; parent = parent; snap = snap; child = child }) new.linked
      → IsAmong (record { site = site; parent = parent; snap = snap; child = child }) old.linked
  pub based : (child : ℕ) (link : ParentLink) → IsAmong (record { site = site; child = child; link = link }) new.based → IsAmong (record { site = site; child = child; link = link }) old.based
  pub childless : (image snap : ℕ) → IsAmong (record { site = site; image = image; snap = snap }) new.childless → IsAmong (record { site = site; image = image; snap = snap }) old.childless
  pub makes : (child : ℕ) → is_drawn old.drawn site child ≡ true → is_drawn new.drawn site child ≡ true
  pub owns : (image snap : ℕ) → IsAmong (record { site = site; image = image; snap = snap }) new.childless → own_of new.owns site image ≡ own_of old.owns site image

pub same_children : (site : SiteId) (new old : Knowledge) → new.linked ≡ old.linked → new.based ≡ old.based → new.childless ≡ old.childless → new.drawn ≡ old.drawn → new.owns ≡ old.owns
    → IsLessOfChildren site new old
same_children site new old linked based childless drawn owns = record {
  linked = λ parent snap child among. subst (IsAmong (record { site = site; parent = parent; snap = snap; child = child })) linked among;
  based = λ child link among. subst (IsAmong (record { site = site; child = child; link = link })) based among;
  childless = λ image snap among. subst (IsAmong (record { site = site; image = image; snap = snap })) childless among;
  makes = λ child makes. ap (λ ids. is_drawn ids site child) drawn ∙ makes;
  owns = λ image snap among. ap (λ os. own_of os site image) owns;
}

pub children_onward : (site : SiteId) (a b c : Knowledge) → IsLessOfChildren site a b → IsLessOfChildren site b c → IsLessOfChildren site a c
children_onward site a b c first later = record {
  linked = λ parent snap child among. later.linked parent snap child (first.linked parent snap child among);
  based = λ child link among. later.based child link (first.based child link among);
  childless = λ image snap among. later.childless image snap (first.childless image snap among);
  makes = λ child makes. first.makes child (later.makes child makes);
  owns = λ image snap among. first.owns image snap among ∙ later.owns image snap (first.childless image snap among);
}

pub children_less : (site : SiteId) (r : Records) (me : Instance) (new old : Knowledge) → IsLessOfChildren site new old → AreChildrenTrue site r me old → AreChildrenTrue site r me new
children_less site r me new old less t = record {
  linked = λ parent snap child among. let was = t.linked parent snap child (less.linked parent snap child among) in (less.makes child was.0, was.1);
  based = λ child link among. let was = t.based child link (less.based child link among) in (less.makes child was.0, was.1);
  childless = λ free image snap among.
      subst (λ own. IsChildless r own image snap) (sym (less.owns image snap among)) (t.childless free image snap (less.childless image snap among));
  apart = λ free child link based childless. t.apart free child link (less.based child link based) (less.childless link.image link.snap childless);
}

-- of bases and of snapshots without children alone
pub record IsLessOfBases (site : SiteId) (new old : Knowledge) : Type 0 where
  pub based : (child : ℕ) (link : ParentLink) → IsAmong (record { site = site; child = child; link = link }) new.based → IsAmong (record { site = site; child = child; link = link }) old.based
  pub childless : (image snap : ℕ) → IsAmong (record { site = site; image = image; snap = snap }) new.childless → IsAmong (record { site = site; image = image; snap = snap }) old.childless

pub same_bases : (site : SiteId) (new old : Knowledge) → new.based ≡ old.based → new.childless ≡ old.childless → IsLessOfBases site new old
same_bases site new old based childless = record {
  based = λ child link among. subst (IsAmong (record { site = site; child = child; link = link })) based among;
  childless = λ image snap among. subst (IsAmong (record { site = site; image = image; snap = snap })) childless among;
}

pub no_bases : (site : SiteId) (k j : Knowledge) → k.based ≡ [] → AreBasedElsewhere site k j
no_bases site k j none child link among others = subst (IsAmong (record { site = site; child = child; link = link })) none among

pub none_childless : (site : SiteId) (k j : Knowledge) → j.childless ≡ [] → AreBasedElsewhere site k j
none_childless site k j none child link among others = subst (IsAmong (record { site = site; image = link.image; snap = link.snap })) none others

-- who knows of no child
pub no_children : (site : SiteId) (r : Records) (me : Instance) (k : Knowledge) → k.linked ≡ [] → k.based ≡ [] → k.childless ≡ [] → AreChildrenTrue site r me k
no_children site r me k linked based childless = record {
  linked = λ parent snap child among. absurd (subst (IsAmong (record { site = site; parent = parent; snap = snap; child = child })) linked among);
  based = λ child link among. absurd (subst (IsAmong (record { site = site; child = child; link = link })) based among);
  childless = λ free image snap among. absurd (subst (IsAmong (record { site = site; image = image; snap = snap })) childless among);
  apart = λ free. no_bases site k k based;
}

-- ---- where nothing of it changed

-- the list of children and the headers are the same
pub record AreChildrenAlike (r new : Records) : Type 0 where
  pub children : new.children ≡ r.children
  pub headers : (image : ℕ) → new.headers image ≡ r.headers image

pub children_there : (site : SiteId) (r new : Records) (me : Instance) (k : Knowledge) → AreChildrenAlike r new → (IsFalse (is_fenced new me) → IsFalse (is_fenced r me)) → AreChildrenTrue site r me k
    → AreChildrenTrue site new me k
children_there site r new me k alike was t = record {
  linked = λ parent snap child among. let it = t.linked parent snap child among in (it.0, stays parent snap child it.1);
  based = λ child link among.
      let it = t.based child link among in
      let base = it.1 in (
        it.0,
        record {
          linked = stays link.image link.snap child base.linked;
          parent = base.parent;
          there = alike.headers link.image ∙ base.there;
          view = base.view;
          listed = base.listed;
          kept = base.kept;
          size = base.size;
        },
      );
  childless = λ free image snap among.
      let it = t.childless (was free) image snap among in
      record {
        unnamed = record { views = λ child h is. it.unnamed.views child h (sym (alike.headers child) ∙ is); awaited = it.unnamed.awaited };
        alone = it.alone;
        unprotecting = it.unprotecting;
      };
  apart = λ free. t.apart (was free);
}
  where
    stays : (parent snap child : ℕ) → IsChildOf r parent snap child → IsChildOf new parent snap child
    stays parent snap child is = ap (λ (entries : Entries). finset.contains entries (entry parent snap child)) alike.children ∙ is

-- ---- the list of children

-- the operation takes the child's link away
abbrev pub Unlinks : Op → ChildEntry → Type 0
Unlinks (op.Children (child.Remove parent snap image)) e = e ≡ entry parent snap image
Unlinks o e = ⊥

-- entries that differ aren't tied
entries_differ : (a b : ChildEntry) → (a ≡ b → ⊥) → eq_by_cmp entry_cmp a b ≡ false
entries_differ a b differ = by (entry_cmp a b) refl
  where
    by : (o : Ordering) → entry_cmp a b ≡ o → is_eq o ≡ false
    by Less is = refl
    by Greater is = refl
    by Equal is = absurd (differ (entry_exact a b is))

pub link_served : (r : Records) (you : Instance) (o : Op) (e : ChildEntry) → (Unlinks o e → ⊥) → finset.contains r.children e ≡ true → finset.contains (after_served r you o).children e ≡ true
link_served r you (op.Children (child.Add parent snap image)) e stays is =
    finset.contains-insert entry_total r.children (entry parent snap image) e ∙ or_right (eq_by_cmp entry_cmp e (entry parent snap image)) (finset.contains r.children e) is
link_served r you (op.Children (child.Remove parent snap image)) e stays is = by (finset.contains r.children (entry parent snap image))
  where
    by : (b : Bool) → finset.contains (cond b (finset.remove r.children (entry parent snap image)) r.children) e ≡ true
    by true =
        finset.contains-remove entry_total r.children (entry parent snap image) e
        ∙ ap (λ b. not b && finset.contains r.children e) (entries_differ e (entry parent snap image) stays) ∙ is
    by false = is
link_served r you (op.Children (child.List parent snap)) e stays is = is
link_served r you o e stays is = is

-- ---- a header that lists the snapshot

-- the header is there, and lists the snapshot of the link so that a child may count on it
record HasSnap (there : Option HeaderView) (link : ParentLink) : Type 0 where
  pub parent : HeaderView
  pub is : there ≡ Some parent
  pub view : SnapView
  pub listed : snap_in parent.snaps link.snap ≡ Some view
  pub kept : view.status ≢ Unprotected
  pub size : view.size ≡ link.overlap

snap_of : (r : Records) (child : ℕ) (link : ParentLink) → HasBase r child link → HasSnap (r.headers link.image) link
snap_of r child link base = record { parent = base.parent; is = base.there; view = base.view; listed = base.listed; kept = base.kept; size = base.size }

base_by : (r : Records) (child : ℕ) (link : ParentLink) → IsChildOf r link.image link.snap child → HasSnap (r.headers link.image) link → HasBase r child link
base_by r child link linked has = record { linked = linked; parent = has.parent; there = has.is; view = has.view; listed = has.listed; kept = has.kept; size = has.size }

module _ (link : ParentLink) where
  either_has : (b : Bool) (one other : HeaderView) → HasSnap (Some one) link → HasSnap (Some other) link → HasSnap (Some (cond b one other)) link
  either_has true one other p q = p
  either_has false one other p q = q

  -- another header with the same snapshots
  lists_same : (p q : HeaderView) → q.snaps ≡ p.snaps → HasSnap (Some p) link → HasSnap (Some q) link
  lists_same p q same has = record {
    parent = q;
    is = refl;
    view = has.view;
    listed = ap (λ snaps. snap_in snaps link.snap) (same ∙ ap (λ (h : HeaderView). h.snaps) (same_Some p has.parent has.is)) ∙ has.listed;
    kept = has.kept;
    size = has.size;
  }

  lists_it : (p : HeaderView) (has : HasSnap (Some p) link) → snap_in p.snaps link.snap ≡ Some has.view
  lists_it p has = ap (λ (h : HeaderView). snap_in h.snaps link.snap) (same_Some p has.parent has.is) ∙ has.listed

  added_has : (name : List ℕ) (p : HeaderView) → HasSnap (Some p) link → HasSnap (Some (with_snap name p)) link
  added_has name p has = record {
    parent = with_snap name p;
    is = refl;
    view = has.view;
    listed = older_stays p.snaps (snap_taken name p) link.snap has.view (lists_it p has);
    kept = has.kept;
    size = has.size;
  }

  left_has : (snap : ℕ) (p : HeaderView) → link.snap ≢ snap → HasSnap (Some p) link → HasSnap (Some (without_snap snap p)) link
  left_has snap p other has = record {
    parent = without_snap snap p;
    is = refl;
    view = has.view;
    listed = header_left p.snaps snap link.snap other ∙ lists_it p has;
    kept = has.kept;
    size = has.size;
  }

  -- a status that is set leaves it where it isn't unprotected, or another snapshot's
  marked_has : (snap : ℕ) (status : SnapStatus) (p : HeaderView) → (link.snap ≡ snap → status ≢ Unprotected) → HasSnap (Some p) link → HasSnap (Some (with_status snap status p)) link
  marked_has snap status p frees has = record {
    parent = with_status snap status p;
    is = refl;
    view = status_marked snap status has.view;
    listed = header_marked snap status p.snaps link.snap ∙ ap (option_map (status_marked snap status)) (lists_it p has);
    kept = kept (has.view.id == snap) refl;
    size = sized (has.view.id == snap);
  }
    where
      kept : (b : Bool) → (has.view.id == snap) ≡ b → (cond b (record has.view { status = status }) has.view).status ≢ Unprotected
      kept true is = frees (sym (found_id p.snaps link.snap has.view (lists_it p has)) ∙ eqb-true has.view.id snap is)
      kept false is = has.kept

      sized : (b : Bool) → (cond b (record has.view { status = status }) has.view).size ≡ link.overlap
      sized true = has.size
      sized false = has.size

-- ---- operations on locks and watchers

-- operations on the lock and the watchers of an image, and looks at them
abbrev pub keeps_header : HeaderOp → Bool
keeps_header header.LockTake = true
keeps_header header.LockDrop = true
keeps_header (header.LockBreak owner) = true
keeps_header header.Watch = true
keeps_header header.Unwatch = true
keeps_header header.WatchersGet = true
keeps_header (header.Notify kind) = true
keeps_header _ = false

-- where there is no header it makes none
pub none_behind : (you : Instance) (o : HeaderOp) → keeps_header o ≡ true → header_after you None o ≡ None
none_behind you (header.Create view) keeps = absurd (true≢false (sym keeps))
none_behind you o keeps = refl

-- a header behind them has the snapshots and the parent that it had
pub record IsAlike (p : HeaderView) (there : Option HeaderView) : Type 0 where
  pub now : HeaderView
  pub is : there ≡ Some now
  pub snaps : now.snaps ≡ p.snaps
  pub parent : now.parent ≡ p.parent

alike_itself : (p : HeaderView) → IsAlike p (Some p)
alike_itself p = record { now = p; is = refl; snaps = refl; parent = refl }

alike_owned : (p : HeaderView) (owner : Option Instance) → IsAlike p (Some (record p { owner = owner }))
alike_owned p owner = record { now = record p { owner = owner }; is = refl; snaps = refl; parent = refl }

alike_left : (p : HeaderView) (b : Bool) → IsAlike p (Some (cond b (record p { owner = None }) p))
alike_left p true = alike_owned p None
alike_left p false = alike_itself p

pub alike_behind : (you : Instance) (o : HeaderOp) → keeps_header o ≡ true → (p : HeaderView) → IsAlike p (header_after you (Some p) o)
alike_behind you header.LockTake keeps p = alike_owned p (cond (is_some p.owner) p.owner (Some you))
alike_behind you header.LockDrop keeps p = alike_left p (is_owner you p.owner)
alike_behind you (header.LockBreak owner) keeps p = alike_left p (is_owner owner p.owner)
alike_behind you header.Watch keeps p = alike_itself p
alike_behind you header.Unwatch keeps p = alike_itself p
alike_behind you header.WatchersGet keeps p = alike_itself p
alike_behind you (header.Notify kind) keeps p = alike_itself p
alike_behind you _ keeps p = absurd (true≢false (sym keeps))

has_alike : (link : ParentLink) (p : HeaderView) (there : Option HeaderView) → IsAlike p there → HasSnap (Some p) link → HasSnap there link
has_alike link p there alike has = subst (λ q. HasSnap q link) (sym alike.is) (lists_same link p alike.now alike.snaps has)

-- ---- the header of the parent, by what is permitted

module _ (site : SiteId) (r : Records) (j : Knowledge) (you : Instance) (u : IsTrueAt site r you j) (served : IsFalse (is_fenced r you)) (link : ParentLink)
    (elsewhere : IsAmong (record { site = site; image = link.image; snap = link.snap }) j.childless → ⊥) where
  -- the snapshots of an image that it owns
  own_snaps : (image : ℕ) (condition : Sharing → HeaderView → Type 0) (owns : OwnsBy j site image condition) (p : HeaderView) → r.headers image ≡ Some p → p.snaps ≡ owns.header.snaps
  own_snaps image condition owns p is =
      let there = owned_there site r you j image condition u served owns in
      ap (λ (h : HeaderView). h.snaps) (same_Some p there.view (sym is ∙ there.is) ∙ there.still.same)

  module _ (image : ℕ) (at : link.image ≡ image) (p : HeaderView) (is : r.headers image ≡ Some p) (has : HasSnap (Some p) link) where
    -- a snapshot that isn't unprotected is none that may go
    stays_listed : (snap : ℕ) → OwnsAlone j site image (MayRemove snap) → link.snap ≢ snap
    stays_listed snap owns same =
        let may = owns.meets.1 in
        let listed : snap_in p.snaps snap ≡ Some may.view = ap (λ snaps. snap_in snaps snap) (own_snaps image _ owns p is) ∙ may.listed in
        let one : has.view ≡ may.view = same_Some has.view may.view (sym (lists_it link p has) ∙ ap (snap_in p.snaps) same ∙ listed) in
        has.kept (ap (λ (v : SnapView). v.status) one ∙ may.unprotected)

    -- nor is it one that becomes unprotected
    stays_kept : (snap : ℕ) (status : SnapStatus) → OwnsAlone j site image (MayMark j.childless site image snap status) → link.snap ≡ snap → status ≢ Unprotected
    stays_kept snap status owns same free =
        elsewhere (subst (λ t. IsAmong (record { site = site; image = link.image; snap = t }) j.childless) (sym same)
        (subst (λ i. IsAmong (record { site = site; image = i; snap = snap }) j.childless) (sym at) (owns.meets.1.frees free)))

    -- an image that has it isn't removed
    never_removed : OwnsAlone j site image (λ h. h.snaps ≡ []) → ⊥
    never_removed owns =
        none-some has.view (sym (ap (λ snaps. snap_in snaps link.snap) (own_snaps image _ owns p is ∙ owns.meets.1)) ∙ lists_it link p has)

    snap_then : (o : HeaderOp) → PermitsOnHeader j site image o → HasSnap (header_after you (Some p) o) link
    snap_then header.Get permits = has
    snap_then (header.Create view) permits = has
    snap_then (header.SetSize to) permits = lists_same link p (with_size to p) refl has
    snap_then header.Remove permits = absurd (never_removed permits)
    snap_then (header.SnapAdd name) permits =
        either_has link (is_some (snap_named p.snaps name)) p (cond (is_full p) p (with_snap name p)) has
        (either_has link (is_full p) p (with_snap name p) has (added_has link name p has))
    snap_then (header.SnapRemove snap) permits =
        either_has link (is_some (snap_in p.snaps snap)) (without_snap snap p) p (left_has link snap p (stays_listed snap permits) has) has
    snap_then (header.SnapStatus snap status) permits =
        either_has link (is_some (snap_in p.snaps snap)) (with_status snap status p) p (marked_has link snap status p (stays_kept snap status permits) has) has
    snap_then header.LockTake permits = has_alike link p _ (alike_behind you header.LockTake refl p) has
    snap_then header.LockDrop permits = has_alike link p _ (alike_behind you header.LockDrop refl p) has
    snap_then (header.LockBreak owner) permits = has_alike link p _ (alike_behind you (header.LockBreak owner) refl p) has
    snap_then header.Watch permits = has_alike link p _ (alike_behind you header.Watch refl p) has
    snap_then header.Unwatch permits = has_alike link p _ (alike_behind you header.Unwatch refl p) has
    snap_then header.WatchersGet permits = has_alike link p _ (alike_behind you header.WatchersGet refl p) has
    snap_then (header.Notify kind) permits = has_alike link p _ (alike_behind you (header.Notify kind) refl p) has
    snap_then _ permits = elim permits [ ]

  snap_served : (o : Op) → Permits j site o → HasSnap (r.headers link.image) link → HasSnap ((after_served r you o).headers link.image) link
  snap_served (op.Header other o) permits has = by (link.image == other) refl
    where
      here : (image : ℕ) → link.image ≡ image → PermitsOnHeader j site image o → HasSnap (header_after you (r.headers image) o) link
      here image at may =
          let is : r.headers image ≡ Some has.parent = ap r.headers (sym at) ∙ has.is in
          subst (λ q. HasSnap (header_after you q o) link) (sym is) (snap_then image at has.parent is (subst (λ q. HasSnap q link) has.is has) o may)

      by : (b : Bool) → (link.image == other) ≡ b → HasSnap (cond b (header_after you (r.headers other) o) (r.headers link.image)) link
      by true same = here other (eqb-true link.image other same) permits
      by false differ = has
  snap_served o permits has = has

  -- What a child counts on stays, while its link does, and its snapshot isn't known to be without
  -- children.
  pub base_served : (o : Op) → Permits j site o → (child : ℕ) → (Unlinks o (entry link.image link.snap child) → ⊥) → HasBase r child link → HasBase (after_served r you o) child link
  base_served o permits child stays base =
      base_by (after_served r you o) child link (link_served r you o (entry link.image link.snap child) stays base.linked) (snap_served o permits (snap_of r child link base))

-- ---- views that name no snapshot

cut_other : (image snap to : ℕ) (parent : Option ParentLink) → NamesOther image snap parent → NamesOther image snap (cut to parent)
cut_other image snap to None other = tt
cut_other image snap to (Some link) other = other

-- No view comes to name a snapshot that none names, as long as no image has a parent.
module _ (site : SiteId) (r : Records) (j : Knowledge) (you : Instance) (image snap : ℕ) (unnamed : IsUnnamed [] r image snap) where
  abbrev NamesIt : HeaderView → Type 0
  NamesIt h = EachView h (λ v shape. NamesOther image snap shape.parent)

  made_other : (view : HeaderView) → view.snaps ≡ [] → view.parent ≡ None → NamesIt view
  made_other view snaps parent = record {
    head = subst (NamesOther image snap) (sym parent) tt;
    snap = λ t s listed. absurd (none-some s (sym (ap (λ us. snap_in us t) snaps) ∙ listed));
  }

  header_other : (other : ℕ) (o : HeaderOp) → PermitsOnHeader j site other o → (there : Option HeaderView) → r.headers other ≡ there → (g : HeaderView) → header_after you there o ≡ Some g → NamesIt g
  header_other other (header.Create view) permits None is g at = subst NamesIt (same_Some view g at) (made_other view permits.new.snaps permits.no_parent)
  header_other other o permits None is g at = absurd (none-some g at)
  header_other other header.Remove permits (Some h) is g at = absurd (none-some g at)
  header_other other o permits (Some h) is g at =
      subst NamesIt (same_Some (header_then you h o) g at) (parents_then (NamesOther image snap) tt (cut_other image snap) you h o (unnamed.views other h is))

  pub unnamed_served : (o : Op) → Permits j site o → IsUnnamed [] (after_served r you o) image snap
  unnamed_served (op.Header other o) permits = record { views = λ i g at. by i g (i == other) refl at; awaited = unnamed.awaited }
    where
      by : (i : ℕ) (g : HeaderView) (b : Bool) → (i == other) ≡ b → cond b (header_after you (r.headers other) o) (r.headers i) ≡ Some g → NamesIt g
      by i g true same at = header_other other o permits (r.headers other) refl g at
      by i g false differ at = unnamed.views i g at
  unnamed_served o permits = record { views = unnamed.views; awaited = unnamed.awaited }

-- ---- others

-- Nobody else takes away the link of a child whose id one drew.
others_unlink : (site : SiteId) (r : Records) (me you : Instance) (k j : Knowledge) → IsTrueAt site r me k → IsTrueAt site r you j → IsFalse (is_fenced r you)
    → ((image : ℕ) → is_drawn k.drawn site image ≡ true → is_drawn j.drawn site image ≡ false) → ((image : ℕ) → is_gone j.gone site image ≡ true → is_drawn k.drawn site image ≡ false)
    → (o : Op) → Permits j site o → (e : ChildEntry) → is_drawn k.drawn site e.child ≡ true → Unlinks o e → ⊥
others_unlink site r me you k j t u served apart gone (op.Children (child.Remove parent snap image)) permits e makes same = by permits
  where
    mine : is_drawn k.drawn site image ≡ true
    mine = ap (λ (x : ChildEntry). is_drawn k.drawn site x.child) (sym same) ∙ makes

    by : MayUnlink j site parent snap image → ⊥
    by (inl theirs) = true≢false (sym theirs ∙ apart image mine)
    by (inr (inl removed)) = true≢false (sym mine ∙ gone image removed)
    by (inr (inr owns)) = not_waiting site r you j image (λ sharing h. NamesNone parent snap h) u served owns (t.drawn image mine).header
others_unlink site r me you k j t u served apart gone _ permits e makes unlinks = unlinks

module _ (site : SiteId) (r : Records) (k j : Knowledge) (me you : Instance) (t : IsTrueAt site r me k) (u : IsTrueAt site r you j)
    (apart : (image : ℕ) → is_drawn k.drawn site image ≡ true → is_drawn j.drawn site image ≡ false) (gone : (image : ℕ) → is_gone j.gone site image ≡ true → is_drawn k.drawn site image ≡ false)
    (unbased : IsFalse (is_fenced r you) → AreBasedElsewhere site k j) (o : Op) (permits : Permits j site o) where
  pub children_kept : AreChildrenTrue site (after r you o) me k
  children_kept = record {
    linked = λ parent snap child among.
        let it = t.children.linked parent snap child among in (
          it.0,
          after_free (λ s. IsChildOf s parent snap child) r you o it.1 (λ served.
              link_served r you o (entry parent snap child) (others_unlink site r me you k j t u served apart gone o permits (entry parent snap child) it.0) it.1),
        );
    based = λ child link among.
        let it = t.children.based child link among in (
          it.0,
          after_free (λ s. HasBase s child link) r you o it.1 (λ served.
              base_served site r j you u served link (unbased served child link among) o permits child
              (others_unlink site r me you k j t u served apart gone o permits (entry link.image link.snap child) it.0) it.1),
        );
    childless = λ free image snap among.
        let it = t.children.childless (was_free r you me o free) image snap among in
        record {
          unnamed = where_fenced (λ s. IsUnnamed [] s image snap) r you o it.unnamed (unnamed_served site r j you image snap it.unnamed o permits);
          alone = it.alone;
          unprotecting = it.unprotecting;
        };
    apart = λ free. t.children.apart (was_free r you me o free);
  }

-- operations on locks and watchers, whoever does them
pub children_beside_locks : (site : SiteId) (r : Records) (me you : Instance) (k : Knowledge) (other : ℕ) (o : HeaderOp) → keeps_header o ≡ true → AreChildrenTrue site r me k
    → AreChildrenTrue site (after r you (op.Header other o)) me k
children_beside_locks site r me you k other o keeps t = record {
  linked = λ parent snap child among. let it = t.linked parent snap child among in (it.0, where_fenced (λ s. IsChildOf s parent snap child) r you (op.Header other o) it.1 it.1);
  based = λ child link among.
      let it = t.based child link among in (
        it.0,
        where_fenced (λ s. HasBase s child link) r you (op.Header other o) it.1
            (base_by (after_served r you (op.Header other o)) child link it.1.linked (snap_left link (snap_of r child link it.1))),
      );
  childless = λ free image snap among.
      let it = t.childless (was_free r you me (op.Header other o) free) image snap among in
      record {
        unnamed = where_fenced (λ s. IsUnnamed [] s image snap) r you (op.Header other o) it.unnamed (unnamed_left image snap it.unnamed);
        alone = it.alone;
        unprotecting = it.unprotecting;
      };
  apart = λ free. t.apart (was_free r you me (op.Header other o) free);
}
  where
    snap_left : (link : ParentLink) → HasSnap (r.headers link.image) link → HasSnap ((after_served r you (op.Header other o)).headers link.image) link
    snap_left link has = by (link.image == other) refl
      where
        by : (b : Bool) → (link.image == other) ≡ b → HasSnap (cond b (header_after you (r.headers other) o) (r.headers link.image)) link
        by true same =
            let is : r.headers other ≡ Some has.parent = ap r.headers (sym (eqb-true link.image other same)) ∙ has.is in
            subst (λ q. HasSnap (header_after you q o) link) (sym is) (has_alike link has.parent _ (alike_behind you o keeps has.parent) (subst (λ q. HasSnap q link) has.is has))
        by false differ = has

    unnamed_left : (image snap : ℕ) → IsUnnamed [] r image snap → IsUnnamed [] (after_served r you (op.Header other o)) image snap
    unnamed_left image snap was = record { views = λ i g at. by i g (i == other) refl at; awaited = was.awaited }
      where
        at_it : (there : Option HeaderView) → r.headers other ≡ there → (g : HeaderView) → header_after you there o ≡ Some g → EachView g (λ v shape. NamesOther image snap shape.parent)
        at_it None is g at = absurd (none-some g (sym (none_behind you o keeps) ∙ at))
        at_it (Some h) is g at =
            let alike = alike_behind you o keeps h in
            let same : alike.now ≡ g = same_Some alike.now g (sym alike.is ∙ at) in
            let all = was.views other h is in
            subst (λ v. EachView v (λ w shape. NamesOther image snap shape.parent)) same (record {
              head = subst (NamesOther image snap) (sym alike.parent) all.head;
              snap = λ t s listed. all.snap t s (ap (λ snaps. snap_in snaps t) (sym alike.snaps) ∙ listed);
            })

        by : (i : ℕ) (g : HeaderView) (b : Bool) → (i == other) ≡ b → cond b (header_after you (r.headers other) o) (r.headers i) ≡ Some g → EachView g (λ v shape. NamesOther image snap shape.parent)
        by i g true same at = at_it (r.headers other) refl g at
        by i g false differ at = was.views i g at

-- ---- what a header tells of an own snapshot

-- A snapshot that somebody knows to be without children isn't told as protected.
pub never_protected : (site : SiteId) (r : Records) (you : Instance) (j : Knowledge) → IsTrueAt site r you j → IsFalse (is_fenced r you) → (image snap : ℕ)
    → IsAmong (record { site = site; image = image; snap = snap }) j.childless → (h : HeaderView) → r.headers image ≡ Some h → (s : SnapView) → snap_in h.snaps snap ≡ Some s → s.status ≡ Protected → ⊥
never_protected site r you j u free image snap among h is s listed protected = by (known_header j site image) refl
  where
    by : (known : Option HeaderView) → known_header j site image ≡ known → ⊥
    by None at = true≢false (sym (u.children.childless free image snap among).unprotecting ∙ ap (λ q. lists_unprotecting q snap) at)
    by (Some g) at =
        let still : IsStill (sharing_on j site image) (Some g) (Some h) =
        subst (λ q. IsStill (sharing_on j site image) q (Some h)) at (subst (IsStill (sharing_on j site image) (known_header j site image)) is (u.owned free image)) in
        let snaps : h.snaps ≡ g.snaps = ap (λ (v : HeaderView). v.snaps) still.same in
        let told : is_view_unprotecting (snap_in g.snaps snap) ≡ true = sym (ap (λ q. lists_unprotecting q snap) at) ∙ (u.children.childless free image snap among).unprotecting in
        true≢false (sym told ∙ ap (λ us. is_view_unprotecting (snap_in us snap)) (sym snaps) ∙ ap is_view_unprotecting listed ∙ ap is_unprotecting protected)
