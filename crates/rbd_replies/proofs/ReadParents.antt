-- No view of an image has a parent, at no place of a run that is right: neither head nor snapshot.
use Rattle.std.proofs.Common.{◌≡◌, ℕ, ◌==◌, cond, Bool, true, false, List, [], ◌∷◌, is_some, Option, Some, None, refl, sym, ap, ◌∙◌, subst}
use Rattle.std.proofs.lemmas.Option.{none-some, same_Some}
use Rattle.rbd_header.specs.Header.{cut, is_full, snap_in, with_size, with_snap, with_status, without_snap}
use Rattle.rbd_kinds.specs.declared.header.HeaderView.{HeaderView}
use Rattle.rbd_kinds.specs.declared.header_op.HeaderOp.{HeaderOp}
use Rattle.rbd_kinds.specs.declared.header_op.HeaderOp.TheVariants as header
use Rattle.rbd_kinds.specs.declared.id.Instance.{Instance}
use Rattle.rbd_kinds.specs.declared.id.SiteId.{SiteId}
use Rattle.rbd_kinds.specs.declared.operation.Op.{Op}
use Rattle.rbd_kinds.specs.declared.operation.Op.TheVariants as op
use Rattle.rbd_kinds.specs.Header.{snap_named}
use Rattle.rbd_machine.specs.Knowledge.{Knowledge, same_site}
use Rattle.rbd_machine.specs.Permits.{Permits, PermitsOnHeader}
use Rattle.rbd_site.specs.HeaderStep.{header_after, is_owner, where_made}
use Rattle.rbd_site.specs.Log.{expired, trimmed}
use Rattle.rbd_site.specs.Records.{Records}
use Rattle.rbd_site.specs.Step.{after, after_served}
use Rattle.rbd_site.proofs.StepLemmas.{where_fenced}
use Rattle.rbd_stands.specs.View.{EachView, Shape}
use Rattle.rbd_stands.proofs.Views.{each_added, each_marked, each_removed}
use Rattle.rbd_world.specs.Run.{Happening, Nothing, Waited, Began, Did, Refused, Trimmed, Expired, Heard, Stopped, Restarted, records_after, records_behind}
use Rattle.rbd_world.specs.Sound.{IsRightlyDone, IsDue, IsRight}
use Rattle.rbd_world.proofs.Runs.{done_of}

abbrev pub HasNoParent : Option ℕ → Shape → Type 0
HasNoParent v shape = shape.parent ≡ None

-- no view of a header, if there is one, has a parent
abbrev pub AreViewsAlone : Option HeaderView → Type 0
AreViewsAlone there = (h : HeaderView) → there ≡ Some h → EachView h HasNoParent

alone : (v : HeaderView) → EachView v HasNoParent → AreViewsAlone (Some v)
alone v none h is = subst (λ (x : HeaderView). EachView x HasNoParent) (same_Some v h is) none

-- whoever owns its lock
owned_alone : (v : HeaderView) (owner : Option Instance) → EachView v HasNoParent → AreViewsAlone (Some (record v { owner = owner }))
owned_alone v owner none = alone (record v { owner = owner }) (record { head = none.head; snap = none.snap })

unowned_alone : (v : HeaderView) (b : Bool) → AreViewsAlone (Some v) → AreViewsAlone (Some (cond b (record v { owner = None }) v))
unowned_alone v true was = owned_alone v None (was v refl)
unowned_alone v false was = was

module _ (k : Knowledge) (s : SiteId) (me : Instance) (image : ℕ) where
  views_then : (o : HeaderOp) → PermitsOnHeader k s image o → (there : Option HeaderView) → AreViewsAlone there → AreViewsAlone (header_after me there o)
  views_then header.Get permits None was = was
  views_then header.Get permits (Some v) was = was
  views_then (header.Create view) permits None was = alone view (record {
    head = permits.no_parent;
    snap = λ t u is. absurd (none-some u (sym (ap (λ snaps. snap_in snaps t) permits.new.snaps) ∙ is));
  })
  views_then (header.Create view) permits (Some v) was = was
  views_then (header.SetSize to) permits None was = was
  views_then (header.SetSize to) permits (Some v) was = alone (with_size to v) (record { head = ap (cut to) (was v refl).head; snap = (was v refl).snap })
  views_then header.Remove permits None was = was
  views_then header.Remove permits (Some v) was = λ h is. absurd (none-some h is)
  views_then (header.SnapAdd name) permits None was = was
  views_then (header.SnapAdd name) permits (Some v) was = by (is_some (snap_named v.snaps name)) (is_full v)
    where
      by : (listed full : Bool) → AreViewsAlone (Some (where_made listed full (with_snap name v) v))
      by true full = was
      by false true = was
      by false false = alone (with_snap name v) (each_added {P = HasNoParent} {Q = HasNoParent} name v (λ none. none) (λ t u is none. none) (λ none. none) (was v refl))
  views_then (header.SnapRemove snap) permits None was = was
  views_then (header.SnapRemove snap) permits (Some v) was = by (is_some (snap_in v.snaps snap))
    where
      by : (b : Bool) → AreViewsAlone (Some (cond b (without_snap snap v) v))
      by true = alone (without_snap snap v) (each_removed {P = HasNoParent} {Q = HasNoParent} snap v (λ none. none) (λ t u is other none. none) (was v refl))
      by false = was
  views_then (header.SnapStatus snap status) permits None was = was
  views_then (header.SnapStatus snap status) permits (Some v) was = by (is_some (snap_in v.snaps snap))
    where
      by : (b : Bool) → AreViewsAlone (Some (cond b (with_status snap status v) v))
      by true = alone (with_status snap status v) (each_marked {P = HasNoParent} {Q = HasNoParent} snap status v (λ none. none) (λ t u is none. none) (was v refl))
      by false = was
  views_then header.LockTake permits None was = was
  views_then header.LockTake permits (Some v) was = owned_alone v (cond (is_some v.owner) v.owner (Some me)) (was v refl)
  views_then header.LockDrop permits None was = was
  views_then header.LockDrop permits (Some v) was = unowned_alone v (is_owner me v.owner) was
  views_then (header.LockBreak owner) permits None was = was
  views_then (header.LockBreak owner) permits (Some v) was = unowned_alone v (is_owner owner v.owner) was
  views_then header.Watch permits None was = was
  views_then header.Watch permits (Some v) was = was
  views_then header.Unwatch permits None was = was
  views_then header.Unwatch permits (Some v) was = was
  views_then header.WatchersGet permits None was = was
  views_then header.WatchersGet permits (Some v) was = was
  views_then (header.Notify kind) permits None was = was
  views_then (header.Notify kind) permits (Some v) was = was
  views_then _ permits there was = elim permits [ ]

abbrev AreAloneIn : Records → Type 0
AreAloneIn r = (image : ℕ) → AreViewsAlone (r.headers image)

views_served : (s : SiteId) (r : Records) (k : Knowledge) (me : Instance) (o : Op) → AreAloneIn r → Permits k s o → AreAloneIn (after_served r me o)
views_served s r k me (op.Directory o) was permits = was
views_served s r k me (op.Children o) was permits = was
views_served s r k me (op.BlockAdd i) was permits = was
views_served s r k me (op.Data image number o) was permits = was
views_served s r k me (op.Map image o) was permits = was
views_served s r k me (op.Header image o) was permits = λ i. by i (i == image)
  where
    by : (i : ℕ) (b : Bool) → AreViewsAlone (cond b (header_after me (r.headers image) o) (r.headers i))
    by i true = views_then k s me image o permits (r.headers image) (was image)
    by i false = was i
views_served s r k me _ was permits = elim permits [ ]

views_on : (s : SiteId) (r : Records) (k : Knowledge) (me : Instance) (o : Op) → AreAloneIn r → Permits k s o → AreAloneIn (after r me o)
views_on s r k me o was permits = where_fenced AreAloneIn r me o was (views_served s r k me o was permits)

module _ (homes : ℕ → SiteId) (s : SiteId) where
  views_behind : (h : Happening) (run : List Happening) → IsDue homes h run → AreAloneIn (records_after s run) → AreAloneIn (records_behind s (records_after s run) h)
  views_behind Nothing run due was = was
  views_behind Waited run due was = was
  views_behind (Began asked slot) run due was = was
  views_behind (Refused t line reply) run due was = was
  views_behind (Did o reply) run due was = by (same_site o.site s)
    where
      is : IsRightlyDone o run
      is = done_of homes o reply run due

      by : (b : Bool) → AreAloneIn (cond b (after (records_after s run) o.instance o.op) (records_after s run))
      by true = views_on o.site (records_after s run) is.knows o.instance o.op was is.permits
      by false = was
  views_behind (Trimmed t number image object) run due was = by (same_site t s)
    where
      by : (b : Bool) → AreAloneIn (cond b (trimmed image object (records_after s run)) (records_after s run))
      by true = was
      by false = was
  views_behind (Expired t number image who) run due was = by (same_site t s)
    where
      by : (b : Bool) → AreAloneIn (cond b (expired image who (records_after s run)) (records_after s run))
      by true = was
      by false = was
  views_behind (Heard notice) run due was = was
  views_behind (Stopped who wanted lost) run due was = was
  views_behind (Restarted who) run due was = was

  pub views_alone : (run : List Happening) → IsRight homes run → AreAloneIn (records_after s run)
  views_alone [] right = λ image h is. absurd (none-some h is)
  views_alone (h ∷ run) right = views_behind h run right.1 (views_alone run right.2)
