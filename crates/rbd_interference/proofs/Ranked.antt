-- A parent goes on to be less deep than its child, whatever is done.
use Rattle.std.proofs.Common.{◌≡◌, ℕ, ◌==◌, cond, Bool, true, false, [], Option, Some, None, is_some, refl, sym, ap, ◌∙◌, subst, arith}
use Rattle.std.proofs.lemmas.Option.{none-some, same_Some}
use Rattle.rbd_kinds.specs.declared.header.HeaderView.{HeaderView}
use Rattle.rbd_kinds.specs.declared.header.ParentLink.{ParentLink}
use Rattle.rbd_kinds.specs.declared.header_op.HeaderOp.{HeaderOp}
use Rattle.rbd_kinds.specs.declared.header_op.HeaderOp.TheVariants as header
use Rattle.rbd_kinds.specs.declared.id.Instance.{Instance}
use Rattle.rbd_kinds.specs.declared.id.SiteId.{SiteId}
use Rattle.rbd_kinds.specs.declared.operation.Op.{Op}
use Rattle.rbd_kinds.specs.declared.operation.Op.TheVariants as op
use Rattle.rbd_kinds.specs.Header.{snap_named}
use Rattle.rbd_header.specs.Header.{cut, is_full, snap_in, with_snap, with_status, without_snap}
use Rattle.rbd_flat.specs.Flat.{Flat}
use Rattle.rbd_machine.specs.Knowledge.{Knowledge}
use Rattle.rbd_machine.specs.Permits.{Permits, PermitsOnHeader}
use Rattle.rbd_site.specs.HeaderStep.{header_after, header_then, is_owner, where_made}
use Rattle.rbd_site.specs.Log.{expired, trimmed}
use Rattle.rbd_site.specs.Records.{Records, no_records}
use Rattle.rbd_site.specs.Step.{is_fenced, after, after_served}
use Rattle.rbd_stands.specs.Shown.{HasParent, links_of, snapshots_of}
use Rattle.rbd_stands.specs.Site.{StandsFor}
use Rattle.rbd_stands.specs.View.{EachView}
use Rattle.rbd_stands.proofs.SiteSteps.{parents_there}
use Rattle.rbd_stands.proofs.Told.{flat_listed, later_behind}
use Rattle.rbd_interference.specs.Truth.{AreRanked, IsLower}
use Rattle.rbd_interference.proofs.Parents.{parents_then}

-- ---- one header, by the records behind

abbrev IsRanked : Records → HeaderView → Type 0
IsRanked s h = EachView h (λ v shape. IsLower s h.depth shape.parent)

cut_lower : (s : Records) (depth to : ℕ) (parent : Option ParentLink) → IsLower s depth parent → IsLower s depth (cut to parent)
cut_lower s depth to None lower = tt
cut_lower s depth to (Some link) lower = lower

-- a change leaves the depth
depth_then : (me : Instance) (h : HeaderView) (o : HeaderOp) → (header_then me h o).depth ≡ h.depth
depth_then me h (header.SnapAdd name) = by (is_some (snap_named h.snaps name)) (is_full h)
  where
    by : (listed full : Bool) → (where_made listed full (with_snap name h) h).depth ≡ h.depth
    by true full = refl
    by false true = refl
    by false false = refl
depth_then me h (header.SnapRemove snap) = by (is_some (snap_in h.snaps snap))
  where
    by : (b : Bool) → (cond b (without_snap snap h) h).depth ≡ h.depth
    by true = refl
    by false = refl
depth_then me h (header.SnapStatus snap status) = by (is_some (snap_in h.snaps snap))
  where
    by : (b : Bool) → (cond b (with_status snap status h) h).depth ≡ h.depth
    by true = refl
    by false = refl
depth_then me h header.LockDrop = by (is_owner me h.owner)
  where
    by : (b : Bool) → (cond b (record h { owner = None }) h).depth ≡ h.depth
    by true = refl
    by false = refl
depth_then me h (header.LockBreak owner) = by (is_owner owner h.owner)
  where
    by : (b : Bool) → (cond b (record h { owner = None }) h).depth ≡ h.depth
    by true = refl
    by false = refl
depth_then me h o = refl

ranked_then : (s : Records) (me : Instance) (h : HeaderView) (o : HeaderOp) → IsRanked s h → IsRanked s (header_then me h o)
ranked_then s me h o ranked =
    subst (λ d. EachView (header_then me h o) (λ v shape. IsLower s d shape.parent)) (sym (depth_then me h o))
    (parents_then (IsLower s h.depth) tt (cut_lower s h.depth) me h o ranked)

-- ---- all headers

module _ (site : SiteId) (r : Records) (f : Flat) (k : Knowledge) (you : Instance) (stands : StandsFor [] r f) (ranked : AreRanked r) where
  -- a parent that is named is there, and keeps its depth
  lower_behind : (s : Records) → ((image : ℕ) (p q : HeaderView) → r.headers image ≡ Some p → s.headers image ≡ Some q → q.depth ≡ p.depth) → (image : ℕ) (depth : ℕ) (parent : Option ParentLink)
      → HasParent (snapshots_of f) (links_of f image) parent → IsLower r depth parent → IsLower s depth parent
  lower_behind s keeps image depth None has lower = tt
  lower_behind s keeps image depth (Some link) has lower = λ q is.
      let found = flat_listed [] r f link.image link.snap has.snap stands has.is in
      let was = lower found.0 found.2 in
      let same = keeps link.image found.0 q found.2 is in
      omega (arith, was, same)

  -- by its header before
  ranked_there : (s : Records) → ((image : ℕ) (p q : HeaderView) → r.headers image ≡ Some p → s.headers image ≡ Some q → q.depth ≡ p.depth) → (image : ℕ) (h : HeaderView) → r.headers image ≡ Some h
      → IsRanked s h
  ranked_there s keeps image h is =
      let parents = parents_there [] r f image h stands is in
      record {
        head = lower_behind s keeps image h.depth h.parent parents.head (ranked image h is).head;
        snap = λ t u at. lower_behind s keeps image h.depth u.parent (parents.snap t u at) ((ranked image h is).snap t u at);
      }

  depth_behind : (o : Op) (image : ℕ) (p q : HeaderView) → r.headers image ≡ Some p → (after r you o).headers image ≡ Some q → q.depth ≡ p.depth
  depth_behind o image p q was is = (later_behind r you o image p q was is).depth

  -- an image that is made has no parent
  header_ranked : (s : Records) → ((image : ℕ) (h : HeaderView) → r.headers image ≡ Some h → IsRanked s h) → (image : ℕ) (o : HeaderOp) → PermitsOnHeader k site image o
      → (there : Option HeaderView) → r.headers image ≡ there → (g : HeaderView) → header_after you there o ≡ Some g → IsRanked s g
  header_ranked s before image (header.Create view) permits None none g at =
      subst (IsRanked s) (same_Some view g at)
      (record { head = subst (IsLower s view.depth) (sym permits.no_parent) tt; snap = λ t u listed. absurd (none-some u (ap (λ us. snap_in us t) (sym permits.new.snaps) ∙ listed)) })
  header_ranked s before image o permits None none g at = absurd (none-some g at)
  header_ranked s before image header.Remove permits (Some h) is g at = absurd (none-some g at)
  header_ranked s before image o permits (Some h) is g at = subst (IsRanked s) (same_Some (header_then you h o) g at) (ranked_then s you h o (before image h is))

  served_ranked : (s : Records) → ((image : ℕ) (h : HeaderView) → r.headers image ≡ Some h → IsRanked s h) → (o : Op) → Permits k site o → (image : ℕ) (g : HeaderView)
      → (after_served r you o).headers image ≡ Some g → IsRanked s g
  served_ranked s before (op.Header other o) permits image g = by (image == other) refl
    where
      by : (b : Bool) → (image == other) ≡ b → cond b (header_after you (r.headers other) o) (r.headers image) ≡ Some g → IsRanked s g
      by true same at = header_ranked s before other o permits (r.headers other) refl g at
      by false differ at = before image g at
  served_ranked s before o permits image g = before image g

  pub ranked_behind : (o : Op) → Permits k site o → AreRanked (after r you o)
  ranked_behind o permits image g = by (is_fenced r you)
    where
      all : (image : ℕ) (h : HeaderView) → r.headers image ≡ Some h → IsRanked (after r you o) h
      all = ranked_there (after r you o) (depth_behind o)

      by : (b : Bool) → (cond b r (after_served r you o)).headers image ≡ Some g → IsRanked (after r you o) g
      by true at = all image g at
      by false at = served_ranked (after r you o) all o permits image g at

-- ---- an empty site, and the store

pub none_ranked : AreRanked no_records
none_ranked image h is = absurd (none-some h is)

-- ranks depend on headers alone
same_headers : (r s : Records) → s.headers ≡ r.headers → AreRanked r → AreRanked s
same_headers r s same ranked image h is = record { head = low h.parent was.head; snap = λ t u at. low u.parent (was.snap t u at) }
  where
    was : IsRanked r h
    was = ranked image h (ap (λ (headers : ℕ → Option HeaderView). headers image) (sym same) ∙ is)

    low : (parent : Option ParentLink) → IsLower r h.depth parent → IsLower s h.depth parent
    low None lower = tt
    low (Some link) lower = λ p at. lower p (ap (λ (headers : ℕ → Option HeaderView). headers link.image) (sym same) ∙ at)

pub ranked_trimmed : (r : Records) (image number : ℕ) → AreRanked r → AreRanked (trimmed image number r)
ranked_trimmed r image number = same_headers r (trimmed image number r) refl

pub ranked_expired : (r : Records) (image : ℕ) (i : Instance) → AreRanked r → AreRanked (expired image i r)
ranked_expired r image i = same_headers r (expired image i r) refl
