-- What each change of a header leaves is a later header.
use Rattle.std.proofs.Common.{◌≡◌, ℕ, ◌+◌, ◌≤◌, Bool, true, false, cond, eqb, not, List, [], ◌∷◌, ◌++◌, map, Option, Some, None, refl, sym, ap, ◌∙◌, subst, arith}
use Rattle.std.specs.List.{filter}
use Rattle.std.proofs.lemmas.Bool.{eqb-true}
use Rattle.std.proofs.lemmas.Option.{none-some}
use Rattle.rbd_kinds.specs.declared.header.GlobalName.{GlobalName}
use Rattle.rbd_kinds.specs.declared.header.HeaderView.{HeaderView}
use Rattle.rbd_kinds.specs.declared.header.ParentLink.{ParentLink}
use Rattle.rbd_kinds.specs.declared.header.Role.{Role}
use Rattle.rbd_kinds.specs.declared.header.SnapStatus.{SnapStatus}
use Rattle.rbd_kinds.specs.declared.header.SnapView.{SnapView}
use Rattle.rbd_kinds.specs.declared.id.Instance.{Instance}
use Rattle.rbd_header.specs.Header.{snap_in, cut, status_marked, snap_taken, with_size, with_snap, with_status, without_snap, detached, with_role, with_global, in_step}
use Rattle.rbd_header.specs.Later.{IsGlobalLater, IsLaterOf, IsParentLater, WasListed}
use Rattle.rbd_header.proofs.Changed.{marked_id, removed_is_unlisted}

-- ---- parents, names and snapshots

parent_itself : (parent : Option ParentLink) → IsParentLater parent parent
parent_itself None = tt
parent_itself (Some link) = (refl, refl, omega arith)

parent_onward : (old mid new : Option ParentLink) → IsParentLater old mid → IsParentLater mid new → IsParentLater old new
parent_onward old mid None first later = tt
parent_onward old None (Some link) first later = absurd later
parent_onward None (Some was) (Some link) first later = absurd first
parent_onward (Some old) (Some was) (Some link) first later = (
  later.0 ∙ first.0,
  later.1 ∙ first.1,
  (let a : link.overlap ≤ was.overlap = later.2 in let b : was.overlap ≤ old.overlap = first.2 in omega arith),
)

cut_later : (size : ℕ) (parent : Option ParentLink) → IsParentLater parent (cut size parent)
cut_later size None = tt
cut_later size (Some link) = (refl, refl, omega arith)

global_itself : (global : Option GlobalName) → IsGlobalLater global global
global_itself None = tt
global_itself (Some name) = refl

global_onward : (old mid new : Option GlobalName) → IsGlobalLater old mid → IsGlobalLater mid new → IsGlobalLater old new
global_onward None mid new first later = tt
global_onward (Some name) mid new first later = subst (λ global. IsGlobalLater global new) first later

as_listed : (snaps : List SnapView) (t : ℕ) (s : SnapView) → snap_in snaps t ≡ Some s → WasListed snaps t s
as_listed snaps t s is = record { was = s; listed = is; name = refl; size = refl; parent = refl }

-- an id above all that were drawn
not_drawn : (t last : ℕ) → t ≤ last → eqb (last + 1) t ≡ false
not_drawn t last below = by (eqb (last + 1) t) refl
  where
    by : (b : Bool) → eqb (last + 1) t ≡ b → b ≡ false
    by false is = refl
    by true is = absurd (let same : last + 1 ≡ t = eqb-true (last + 1) t is in omega arith)

before_taken : (snaps : List SnapView) (new : SnapView) (t : ℕ) → eqb new.id t ≡ false → snap_in (snaps ++ new ∷ []) t ≡ snap_in snaps t
before_taken [] new t other = ap (λ b. cond b (Some new) None) other
before_taken (s ∷ snaps) new t other = ap (λ later. cond (eqb s.id t) (Some s) later) (before_taken snaps new t other)

-- what a status leaves of a snapshot
marked_name : (t : ℕ) (status : SnapStatus) (s : SnapView) (b : Bool) → (cond b (record s { status = status }) s).name ≡ s.name
marked_name t status s true = refl
marked_name t status s false = refl

marked_size : (t : ℕ) (status : SnapStatus) (s : SnapView) (b : Bool) → (cond b (record s { status = status }) s).size ≡ s.size
marked_size t status s true = refl
marked_size t status s false = refl

marked_parent : (t : ℕ) (status : SnapStatus) (s : SnapView) (b : Bool) → (cond b (record s { status = status }) s).parent ≡ s.parent
marked_parent t status s true = refl
marked_parent t status s false = refl

marked_listed : (snaps : List SnapView) (t : ℕ) (status : SnapStatus) (u : ℕ) (s : SnapView) → snap_in (map (status_marked t status) snaps) u ≡ Some s → WasListed snaps u s
marked_listed [] t status u s is = absurd (none-some s is)
marked_listed (v ∷ snaps) t status u s is = go (eqb v.id u) refl (ap (λ id. cond (eqb id u) (Some marked) later) (sym (marked_id t status v)) ∙ is) (marked_listed snaps t status u s)
  where
    marked : SnapView
    marked = status_marked t status v

    later : Option SnapView
    later = snap_in (map (status_marked t status) snaps) u

    go : (b : Bool) → eqb v.id u ≡ b → cond b (Some marked) later ≡ Some s → (later ≡ Some s → WasListed snaps u s) → WasListed (v ∷ snaps) u s
    go true at found more =
        let same : s ≡ marked = cc in
        record {
          was = v;
          listed = ap (λ b. cond b (Some v) (snap_in snaps u)) at;
          name = ap (λ (x : SnapView). x.name) same ∙ marked_name t status v (eqb v.id t);
          size = ap (λ (x : SnapView). x.size) same ∙ marked_size t status v (eqb v.id t);
          parent = ap (λ (x : SnapView). x.parent) same ∙ marked_parent t status v (eqb v.id t);
        }
    go false at found more =
        let before = more found in
        record {
          was = before.was;
          listed = ap (λ b. cond b (Some v) (snap_in snaps u)) at ∙ before.listed;
          name = before.name;
          size = before.size;
          parent = before.parent;
        }

-- what is left on a list was on it
left_listed : (snaps : List SnapView) (t u : ℕ) (s : SnapView) → snap_in (filter (λ v. not (eqb v.id t)) snaps) u ≡ Some s → snap_in snaps u ≡ Some s
left_listed [] t u s is = is
left_listed (v ∷ snaps) t u s is = go (eqb v.id t) refl (eqb v.id u) refl (left_listed snaps t u s) is
  where
    left : List SnapView
    left = filter (λ x. not (eqb x.id t)) snaps

    go : (a : Bool) → eqb v.id t ≡ a → (b : Bool) → eqb v.id u ≡ b → (snap_in left u ≡ Some s → snap_in snaps u ≡ Some s) → snap_in (cond (not a) (v ∷ left) left) u ≡ Some s → snap_in (v ∷ snaps) u ≡ Some s
    go true gone true at more found =
        let same : t ≡ u = sym (eqb-true v.id t gone) ∙ eqb-true v.id u at in
        absurd (none-some s (sym (removed_is_unlisted snaps t) ∙ ap (λ x. snap_in left x) same ∙ found))
    go true gone false at more found = ap (λ b. cond b (Some v) (snap_in snaps u)) at ∙ more found
    go false stays true at more found =
        ap (λ b. cond b (Some v) (snap_in snaps u)) at ∙ sym (ap (λ b. cond b (Some v) (snap_in left u)) at) ∙ found
    go false stays false at more found =
        ap (λ b. cond b (Some v) (snap_in snaps u)) at
        ∙ more (sym (ap (λ b. cond b (Some v) (snap_in left u)) at) ∙ found)

-- ---- headers

-- a header of which nothing changed but its parent and snapshots, its size and the like
later_by : (old new : HeaderView) → new.layout ≡ old.layout → new.depth ≡ old.depth → new.born ≡ old.born → new.born_clone ≡ old.born_clone → new.journal ≡ old.journal
    → IsGlobalLater old.global new.global → (old.syncing ≡ false → new.syncing ≡ false) → old.snap_seq ≤ new.snap_seq → IsParentLater old.parent new.parent
    → ((t : ℕ) (s : SnapView) → t ≤ old.snap_seq → snap_in new.snaps t ≡ Some s → WasListed old.snaps t s) → IsLaterOf old new
later_by old new layout depth born born_clone journal global synced seq parent snaps =
    record { layout = layout; depth = depth; born = born; born_clone = born_clone; journal = journal; global = global; synced = synced; seq = seq; parent = parent; snaps = snaps }

pub later_itself : (h : HeaderView) → IsLaterOf h h
later_itself h =
    later_by h h refl refl refl refl refl (global_itself h.global) (λ was. was) (omega arith) (parent_itself h.parent) (λ t s below is. as_listed h.snaps t s is)

pub later_onward : (old mid new : HeaderView) → IsLaterOf old mid → IsLaterOf mid new → IsLaterOf old new
later_onward old mid new first later =
    later_by old new (later.layout ∙ first.layout) (later.depth ∙ first.depth) (later.born ∙ first.born) (later.born_clone ∙ first.born_clone) (later.journal ∙ first.journal)
    (global_onward old.global mid.global new.global first.global later.global)
    (λ was. later.synced (first.synced was))
    (let a = first.seq in let b = later.seq in omega arith)
    (parent_onward old.parent mid.parent new.parent first.parent later.parent)
    (λ t s below is.
    let between = later.snaps t s (let a = first.seq in omega arith) is in
    let before = first.snaps t between.was below between.listed in
    record {
      was = before.was;
      listed = before.listed;
      name = between.name ∙ before.name;
      size = between.size ∙ before.size;
      parent = between.parent ∙ before.parent;
    })

pub later_size : (size : ℕ) (h : HeaderView) → IsLaterOf h (with_size size h)
later_size size h =
    later_by h (with_size size h) refl refl refl refl refl (global_itself h.global) (λ was. was) (omega arith) (cut_later size h.parent) (λ t s below is. as_listed h.snaps t s is)

pub later_taken : (name : List ℕ) (h : HeaderView) → IsLaterOf h (with_snap name h)
later_taken name h =
    later_by h (with_snap name h) refl refl refl refl refl (global_itself h.global) (λ was. was) (omega arith) (parent_itself h.parent)
    (λ t s below is. as_listed h.snaps t s (sym (before_taken h.snaps (snap_taken name h) t (not_drawn t h.snap_seq below)) ∙ is))

pub later_status : (t : ℕ) (status : SnapStatus) (h : HeaderView) → IsLaterOf h (with_status t status h)
later_status t status h =
    later_by h (with_status t status h) refl refl refl refl refl (global_itself h.global) (λ was. was) (omega arith) (parent_itself h.parent)
    (λ u s below is. marked_listed h.snaps t status u s is)

pub later_removed : (t : ℕ) (h : HeaderView) → IsLaterOf h (without_snap t h)
later_removed t h =
    later_by h (without_snap t h) refl refl refl refl refl (global_itself h.global) (λ was. was) (omega arith) (parent_itself h.parent)
    (λ u s below is. as_listed h.snaps u s (left_listed h.snaps t u s is))

pub later_detached : (h : HeaderView) → IsLaterOf h (detached h)
later_detached h =
    later_by h (detached h) refl refl refl refl refl (global_itself h.global) (λ was. was) (omega arith) tt (λ t s below is. as_listed h.snaps t s is)

pub later_role : (role : Role) (h : HeaderView) → IsLaterOf h (with_role role h)
later_role role h =
    later_by h (with_role role h) refl refl refl refl refl (global_itself h.global) (λ was. was) (omega arith) (parent_itself h.parent) (λ t s below is. as_listed h.snaps t s is)

pub later_mirrored : (global : GlobalName) (h : HeaderView) → h.global ≡ None → IsLaterOf h (with_global global h)
later_mirrored global h none =
    later_by h (with_global global h) refl refl refl refl refl (subst (λ old. IsGlobalLater old (Some global)) (sym none) tt) (λ was. was) (omega arith) (parent_itself h.parent)
    (λ t s below is. as_listed h.snaps t s is)

pub later_synced : (h : HeaderView) → IsLaterOf h (in_step h)
later_synced h =
    later_by h (in_step h) refl refl refl refl refl (global_itself h.global) (λ was. refl) (omega arith) (parent_itself h.parent) (λ t s below is. as_listed h.snaps t s is)

pub later_locked : (owner : Option Instance) (h : HeaderView) → IsLaterOf h (record h { owner = owner })
later_locked owner h =
    later_by h (record h { owner = owner }) refl refl refl refl refl (global_itself h.global) (λ was. was) (omega arith) (parent_itself h.parent)
    (λ t s below is. as_listed h.snaps t s is)
