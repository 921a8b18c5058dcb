-- Looks change nothing, and changes of a header raise its generation.
use Rattle.std.proofs.Common.{◌≡◌, ℕ, ◌+◌, ◌≤◌, Bool, true, false, cond, eqb, List, Option, Some, None, is_some, unwrap_or, refl, sym, ap, ◌∙◌, subst, arith}
use Rattle.std.specs.Prelude.{IsFalse, IsTrue}
use Rattle.std.proofs.lemmas.Bool.{true≢false, eqb-true}
use Rattle.rbd_kinds.specs.declared.children_op.ChildrenOp.TheVariants as child
use Rattle.rbd_kinds.specs.declared.data_op.DataOp.TheVariants as data_op
use Rattle.rbd_kinds.specs.declared.directory_op.DirectoryOp.TheVariants as dir
use Rattle.rbd_kinds.specs.declared.header.HeaderView.{HeaderView}
use Rattle.rbd_kinds.specs.declared.header_op.HeaderOp.{HeaderOp}
use Rattle.rbd_kinds.specs.declared.header_op.HeaderOp.TheVariants as head
use Rattle.rbd_kinds.specs.declared.id.Instance.{Instance}
use Rattle.rbd_kinds.specs.declared.map_op.MapOp.TheVariants as states
use Rattle.rbd_kinds.specs.declared.notice.NoticeKind.{NoticeKind}
use Rattle.rbd_kinds.specs.declared.operation.Op.{Op}
use Rattle.rbd_kinds.specs.declared.operation.Op.TheVariants as on
use Rattle.rbd_kinds.specs.declared.layout.Part.{Part}
use Rattle.rbd_kinds.specs.Header.{snap_named}
use Rattle.rbd_header.specs.Header.{is_full, snap_in, with_size, with_snap, with_status, without_snap, detached, with_role, in_step}
use Rattle.rbd_object.specs.Mapped.{Mapped, versioned}
use Rattle.rbd_object.specs.Versioned.{view}
use Rattle.rbd_site.specs.DataStep.{parts_read, where_object_done}
use Rattle.rbd_site.specs.HeaderStep.{header_after, there_after, is_owner, where_made}
use Rattle.rbd_site.specs.Laws.{is_look, is_on_header, is_on_lock}
use Rattle.rbd_site.specs.Records.{Records, or_blank, with_watchers}
use Rattle.rbd_site.specs.Step.{after, after_served}
use Rattle.rbd_site.specs.WatchStep.{watchers_after}
use Rattle.rbd_site.proofs.MapLemmas.{with_map_same}
use Rattle.rbd_site.proofs.StepLemmas.{served_header, where_fenced}
use Rattle.rbd_site.proofs.TrimLemmas.{with_header_same, with_object_same, with_watchers_same}

-- ---- looks

header_got : (me : Instance) (o : Option HeaderView) → header_after me o head.Get ≡ o
header_got me None = refl
header_got me (Some h) = refl

watchers_got : (me : Instance) (o : Option HeaderView) (w : List Instance) → watchers_after me o w head.Get ≡ w
watchers_got me None w = refl
watchers_got me (Some h) w = refl

header_asked : (me : Instance) (o : Option HeaderView) → header_after me o head.WatchersGet ≡ o
header_asked me None = refl
header_asked me (Some h) = refl

watchers_asked : (me : Instance) (o : Option HeaderView) (w : List Instance) → watchers_after me o w head.WatchersGet ≡ w
watchers_asked me None w = refl
watchers_asked me (Some h) w = refl

header_told : (me : Instance) (kind : NoticeKind) (o : Option HeaderView) → header_after me o (head.Notify kind) ≡ o
header_told me kind None = refl
header_told me kind (Some h) = refl

watchers_told : (me : Instance) (kind : NoticeKind) (o : Option HeaderView) (w : List Instance) → watchers_after me o w (head.Notify kind) ≡ w
watchers_told me kind None w = refl
watchers_told me kind (Some h) w = refl

object_read : (parts : List Part) (content : Option (List ℕ)) (changed : Mapped) (old : Option Mapped) → where_object_done (parts_read parts content) changed old ≡ old
object_read parts None changed old = refl
object_read parts (Some bytes) changed old = refl

look_served : (r : Records) (me : Instance) (op : Op) → IsTrue (is_look op) → after_served r me op ≡ r
look_served r me (on.Directory (dir.Find name)) look = refl
look_served r me (on.Directory dir.List) look = refl
look_served r me (on.Children (child.List parent snap)) look = refl
look_served r me (on.Header image head.Get) look =
    let w = watchers_after me (r.headers image) (r.watchers image) head.Get in
    with_header_same image (header_after me (r.headers image) head.Get) (with_watchers image w r) (header_got me (r.headers image))
    ∙ with_watchers_same image w r (watchers_got me (r.headers image) (r.watchers image))
look_served r me (on.Header image head.WatchersGet) look =
    let w = watchers_after me (r.headers image) (r.watchers image) head.WatchersGet in
    with_header_same image (header_after me (r.headers image) head.WatchersGet) (with_watchers image w r) (header_asked me (r.headers image))
    ∙ with_watchers_same image w r (watchers_asked me (r.headers image) (r.watchers image))
look_served r me (on.Header image (head.Notify kind)) look =
    let w = watchers_after me (r.headers image) (r.watchers image) (head.Notify kind) in
    with_header_same image (header_after me (r.headers image) (head.Notify kind)) (with_watchers image w r) (header_told me kind (r.headers image))
    ∙ with_watchers_same image w r (watchers_told me kind (r.headers image) (r.watchers image))
look_served r me (on.Data image number (data_op.Read snap parts)) look =
    with_object_same image number (where_object_done (parts_read parts (view (versioned (or_blank (r.objects image number))) snap)) (or_blank (r.objects image number)) (r.objects image number)) r
    (object_read parts (view (versioned (or_blank (r.objects image number))) snap) (or_blank (r.objects image number)) (r.objects image number))
look_served r me (on.Map image (states.Get snap)) look = with_map_same image snap (r.maps image snap) r refl
look_served r me op look = absurd (true≢false (sym look))

pub looked_at : (r : Records) (me : Instance) (op : Op) → IsTrue (is_look op) → after r me op ≡ r
looked_at r me op look = where_fenced (λ s. s ≡ r) r me op refl (look_served r me op look)

-- ---- generations

-- what a change leaves of a header, where `lock` tells whether it is one of the lock
record Follows (lock : Bool) (old new : HeaderView) : Type 0 where
  lasts : old.generation ≤ new.generation
  same : lock ≡ false → new.generation ≡ old.generation → new ≡ old
  owner : lock ≡ true → new ≡ record old { owner = new.owner }

unchanged : (lock : Bool) (h : HeaderView) → Follows lock h h
unchanged lock h = record { lasts = omega arith; same = λ _ _. refl; owner = λ _. refl }

raised : (old new : HeaderView) → new.generation ≡ old.generation + 1 → Follows false old new
raised old new up = record { lasts = omega arith; same = λ _ e. absurd (omega arith); owner = λ e. absurd (true≢false (sym e)) }

locked : (old : HeaderView) (owner : Option Instance) → Follows true old (record old { owner = owner })
locked old owner = record { lasts = omega arith; same = λ e _. absurd (true≢false e); owner = λ _. refl }

either : {lock : Bool} {old : HeaderView} (b : Bool) (x y : HeaderView) → Follows lock old x → Follows lock old y → Follows lock old (cond b x y)
either true x y p q = p
either false x y p q = q

told : {lock : Bool} {old : HeaderView} (x new : HeaderView) → Some x ≡ Some new → Follows lock old x → Follows lock old new
told {lock} {old} x new e p = subst (Follows lock old) (ap (λ o. unwrap_or o x) e) p

-- whichever image it is
of_any : (image : ℕ) (old new : HeaderView) (o : HeaderOp) → Follows (is_on_lock (on.Header 0 o)) old new → Follows (is_on_lock (on.Header image o)) old new
of_any image old new head.LockTake f = f
of_any image old new head.LockDrop f = f
of_any image old new (head.LockBreak owner) f = f
of_any image old new o f = f

follows : (me : Instance) (h : HeaderView) (o : HeaderOp) (new : HeaderView) → there_after me h o ≡ Some new → Follows (is_on_lock (on.Header 0 o)) h new
follows me h (head.Create view) new e = told h new e (unchanged false h)
follows me h head.Get new e = told h new e (unchanged false h)
follows me h (head.SetSize size) new e = told (with_size size h) new e (raised h (with_size size h) refl)
follows me h (head.SnapAdd name) new e =
    told (where_made (is_some (snap_named h.snaps name)) (is_full h) (with_snap name h) h) new e
    (either (is_some (snap_named h.snaps name)) h (cond (is_full h) h (with_snap name h)) (unchanged false h)
    (either (is_full h) h (with_snap name h) (unchanged false h) (raised h (with_snap name h) refl)))
follows me h (head.SnapRemove snap) new e =
    told (cond (is_some (snap_in h.snaps snap)) (without_snap snap h) h) new e
    (either (is_some (snap_in h.snaps snap)) (without_snap snap h) h (raised h (without_snap snap h) refl) (unchanged false h))
follows me h (head.SnapStatus snap status) new e =
    told (cond (is_some (snap_in h.snaps snap)) (with_status snap status h) h) new e
    (either (is_some (snap_in h.snaps snap)) (with_status snap status h) h (raised h (with_status snap status h) refl) (unchanged false h))
follows me h head.Detach new e = told (detached h) new e (raised h (detached h) refl)
follows me h (head.Role role) new e = told (with_role role h) new e (raised h (with_role role h) refl)
follows me h head.Mirror new e = told h new e (unchanged false h)
follows me h head.Synced new e = told (in_step h) new e (raised h (in_step h) refl)
follows me h head.Remove new e = cc
follows me h head.LockTake new e = told (record h { owner = cond (is_some h.owner) h.owner (Some me) }) new e (locked h (cond (is_some h.owner) h.owner (Some me)))
follows me h head.LockDrop new e = told (cond (is_owner me h.owner) (record h { owner = None }) h) new e (either (is_owner me h.owner) (record h { owner = None }) h (locked h None) (unchanged true h))
follows me h (head.LockBreak owner) new e = told (cond (is_owner owner h.owner) (record h { owner = None }) h) new e (either (is_owner owner h.owner) (record h { owner = None }) h (locked h None) (unchanged true h))
follows me h head.Watch new e = told h new e (unchanged false h)
follows me h head.Unwatch new e = told h new e (unchanged false h)
follows me h head.WatchersGet new e = told h new e (unchanged false h)
follows me h (head.Notify kind) new e = told h new e (unchanged false h)

at_other : (lock : Bool) (r : Records) (me : Instance) (op : Op) (i : ℕ) (old new : HeaderView) → IsFalse (is_on_header i op)
    → r.headers i ≡ Some old → (after_served r me op).headers i ≡ Some new → Follows lock old new
at_other lock r me op i old new other was is = told old new (sym was ∙ sym (served_header r me op i other) ∙ is) (unchanged lock old)

follows_served : (r : Records) (me : Instance) (op : Op) (i : ℕ) (old new : HeaderView) → r.headers i ≡ Some old → (after_served r me op).headers i ≡ Some new → Follows (is_on_lock op) old new
follows_served r me (on.Header image o) i old new was is = go (eqb i image) refl
  where
    go : (b : Bool) → eqb i image ≡ b → Follows (is_on_lock (on.Header image o)) old new
    go false apart = at_other (is_on_lock (on.Header image o)) r me (on.Header image o) i old new apart was is
    go true at =
        let there : r.headers image ≡ Some old = ap r.headers (sym (eqb-true i image at)) ∙ was in
        of_any image old new o (follows me old o new (ap (λ x. header_after me x o) (sym there) ∙ sym (ap (λ b. cond b (header_after me (r.headers image) o) (r.headers i)) at) ∙ is))
follows_served r me (on.Directory o) i old new was is = at_other false r me (on.Directory o) i old new refl was is
follows_served r me (on.Children o) i old new was is = at_other false r me (on.Children o) i old new refl was is
follows_served r me (on.BlockAdd instance) i old new was is = at_other false r me (on.BlockAdd instance) i old new refl was is
follows_served r me (on.Data image number o) i old new was is = at_other false r me (on.Data image number o) i old new refl was is
follows_served r me op i old new was is = at_other (is_on_lock op) r me op i old new refl was is

followed : (r : Records) (me : Instance) (op : Op) (i : ℕ) (old new : HeaderView) → r.headers i ≡ Some old → (after r me op).headers i ≡ Some new → Follows (is_on_lock op) old new
followed r me op i old new was =
    where_fenced (λ s. s.headers i ≡ Some new → Follows (is_on_lock op) old new) r me op
    (λ is. told old new (sym was ∙ is) (unchanged (is_on_lock op) old)) (follows_served r me op i old new was)

pub generation_lasts : (r : Records) (me : Instance) (op : Op) (i : ℕ) (old new : HeaderView) → r.headers i ≡ Some old → (after r me op).headers i ≡ Some new → old.generation ≤ new.generation
generation_lasts r me op i old new was is = (followed r me op i old new was is).lasts

pub generation_same : (r : Records) (me : Instance) (op : Op) (i : ℕ) (old new : HeaderView) → r.headers i ≡ Some old → (after r me op).headers i ≡ Some new → IsFalse (is_on_lock op)
    → new.generation ≡ old.generation → new ≡ old
generation_same r me op i old new was is apart same = (followed r me op i old new was is).same apart same

pub lock_alone : (r : Records) (me : Instance) (op : Op) (i : ℕ) (old new : HeaderView) → r.headers i ≡ Some old → (after r me op).headers i ≡ Some new → IsTrue (is_on_lock op)
    → new ≡ record old { owner = new.owner }
lock_alone r me op i old new was is lock = (followed r me op i old new was is).owner lock
