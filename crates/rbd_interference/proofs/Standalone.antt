-- No image gets a parent or a journal by what is permitted.
use Rattle.std.proofs.Common.{◌≡◌, ℕ, ◌==◌, cond, Bool, true, false, Option, Some, None, is_some, refl, sym, ap, ◌∙◌, subst}
use Rattle.std.proofs.lemmas.Bool.{true≢false}
use Rattle.std.proofs.lemmas.Option.{none-some, same_Some}
use Rattle.rbd_kinds.specs.declared.answer.Answer.{Answer}
use Rattle.rbd_kinds.specs.declared.answer.Answer.TheVariants as answer
use Rattle.rbd_kinds.specs.declared.children_op.ChildrenOp.{ChildrenOp}
use Rattle.rbd_kinds.specs.declared.children_op.ChildrenOp.TheVariants as child
use Rattle.rbd_kinds.specs.declared.data_op.DataOp.{DataOp}
use Rattle.rbd_kinds.specs.declared.data_op.DataOp.TheVariants as object
use Rattle.rbd_kinds.specs.declared.directory_op.DirectoryOp.{DirectoryOp}
use Rattle.rbd_kinds.specs.declared.directory_op.DirectoryOp.TheVariants as directory
use Rattle.rbd_kinds.specs.declared.header.HeaderView.{HeaderView}
use Rattle.rbd_kinds.specs.declared.header_op.HeaderOp.{HeaderOp}
use Rattle.rbd_kinds.specs.declared.header_op.HeaderOp.TheVariants as header
use Rattle.rbd_kinds.specs.declared.id.Instance.{Instance}
use Rattle.rbd_kinds.specs.declared.id.SiteId.{SiteId}
use Rattle.rbd_kinds.specs.declared.journal_op.JournalOp.{JournalOp}
use Rattle.rbd_kinds.specs.declared.journal_op.JournalOp.TheVariants as journal
use Rattle.rbd_kinds.specs.declared.map_op.MapOp.{MapOp}
use Rattle.rbd_kinds.specs.declared.map_op.MapOp.TheVariants as states
use Rattle.rbd_kinds.specs.declared.operation.Op.{Op}
use Rattle.rbd_kinds.specs.declared.operation.Op.TheVariants as op
use Rattle.rbd_kinds.specs.Header.{snap_named}
use Rattle.rbd_header.specs.Header.{cut, is_full, snap_in, with_size, with_snap, with_status, without_snap}
use Rattle.rbd_machine.specs.Answers.{children_give, directory_gives, gives, header_gives, journal_gives, map_gives, object_gives}
use Rattle.rbd_machine.specs.Knowledge.{Knowledge}
use Rattle.rbd_machine.specs.Permits.{Permits, PermitsOnHeader}
use Rattle.rbd_machine.specs.Refused.{IsGiven}
use Rattle.rbd_machine.specs.Standalone.{IsStandalone, TellsStandalone}
use Rattle.rbd_site.specs.HeaderStep.{header_after, header_answer, is_owner, where_made}
use Rattle.rbd_site.specs.Records.{Records}
use Rattle.rbd_site.specs.Step.{after, after_served, answer_to, is_fenced}
use Rattle.rbd_site.proofs.StepLemmas.{where_fenced}
use Rattle.rbd_interference.specs.Truth.{AreStandalone}

-- it has the parent and the journal that it had
abbrev IsAlike : (was now : HeaderView) → Type 0
IsAlike was now = (now.parent ≡ was.parent) × (now.journal ≡ was.journal)

module _ (site : SiteId) (r : Records) (k : Knowledge) (you : Instance) (standalone : AreStandalone r) where
  -- of an image that has another header now
  edited : (was now : HeaderView) (image : ℕ) → r.headers image ≡ Some was → IsAlike was now → (h : HeaderView) → Some now ≡ Some h → IsStandalone h
  edited was now image is alike h at = subst IsStandalone (same_Some now h at) (record { no_parent = alike.0 ∙ (standalone image was is).no_parent; no_journal = alike.1 ∙ (standalone image was is).no_journal })

  made_alike : (listed full : Bool) (made old : HeaderView) → IsAlike old made → IsAlike old (where_made listed full made old)
  made_alike true full made old alike = (refl, refl)
  made_alike false true made old alike = (refl, refl)
  made_alike false false made old alike = alike

  left_alike : (b : Bool) (made old : HeaderView) → IsAlike old made → IsAlike old (cond b made old)
  left_alike true made old alike = alike
  left_alike false made old alike = (refl, refl)

  header_stays : (image : ℕ) (o : HeaderOp) → PermitsOnHeader k site image o → (there : Option HeaderView) → r.headers image ≡ there → (h : HeaderView) → header_after you there o ≡ Some h → IsStandalone h
  header_stays image header.Get permits None is h at = absurd (none-some h at)
  header_stays image header.Get permits (Some v) is h at = edited v v image is (refl, refl) h at
  header_stays image (header.Create view) permits None is h at = subst IsStandalone (same_Some view h at) (record { no_parent = permits.no_parent; no_journal = permits.no_journal })
  header_stays image (header.Create view) permits (Some v) is h at = edited v v image is (refl, refl) h at
  header_stays image (header.SetSize to) permits None is h at = absurd (none-some h at)
  header_stays image (header.SetSize to) permits (Some v) is h at =
      subst IsStandalone (same_Some (with_size to v) h at) (record { no_parent = ap (cut to) (standalone image v is).no_parent; no_journal = (standalone image v is).no_journal })
  header_stays image header.Remove permits None is h at = absurd (none-some h at)
  header_stays image header.Remove permits (Some v) is h at = absurd (none-some h at)
  header_stays image (header.SnapAdd name) permits None is h at = absurd (none-some h at)
  header_stays image (header.SnapAdd name) permits (Some v) is h at =
      edited v (where_made (is_some (snap_named v.snaps name)) (is_full v) (with_snap name v) v) image is
      (made_alike (is_some (snap_named v.snaps name)) (is_full v) (with_snap name v) v (refl, refl)) h at
  header_stays image (header.SnapRemove snap) permits None is h at = absurd (none-some h at)
  header_stays image (header.SnapRemove snap) permits (Some v) is h at =
      edited v (cond (is_some (snap_in v.snaps snap)) (without_snap snap v) v) image is
      (left_alike (is_some (snap_in v.snaps snap)) (without_snap snap v) v (refl, refl)) h at
  header_stays image (header.SnapStatus snap status) permits None is h at = absurd (none-some h at)
  header_stays image (header.SnapStatus snap status) permits (Some v) is h at =
      edited v (cond (is_some (snap_in v.snaps snap)) (with_status snap status v) v) image is
      (left_alike (is_some (snap_in v.snaps snap)) (with_status snap status v) v (refl, refl)) h at
  header_stays image header.LockTake permits None is h at = absurd (none-some h at)
  header_stays image header.LockTake permits (Some v) is h at = edited v (record v { owner = cond (is_some v.owner) v.owner (Some you) }) image is (refl, refl) h at
  header_stays image header.LockDrop permits None is h at = absurd (none-some h at)
  header_stays image header.LockDrop permits (Some v) is h at =
      edited v (cond (is_owner you v.owner) (record v { owner = None }) v) image is (left_alike (is_owner you v.owner) (record v { owner = None }) v (refl, refl)) h at
  header_stays image (header.LockBreak owner) permits None is h at = absurd (none-some h at)
  header_stays image (header.LockBreak owner) permits (Some v) is h at =
      edited v (cond (is_owner owner v.owner) (record v { owner = None }) v) image is (left_alike (is_owner owner v.owner) (record v { owner = None }) v (refl, refl)) h at
  header_stays image header.Watch permits None is h at = absurd (none-some h at)
  header_stays image header.Watch permits (Some v) is h at = edited v v image is (refl, refl) h at
  header_stays image header.Unwatch permits None is h at = absurd (none-some h at)
  header_stays image header.Unwatch permits (Some v) is h at = edited v v image is (refl, refl) h at
  header_stays image header.WatchersGet permits None is h at = absurd (none-some h at)
  header_stays image header.WatchersGet permits (Some v) is h at = edited v v image is (refl, refl) h at
  header_stays image (header.Notify kind) permits None is h at = absurd (none-some h at)
  header_stays image (header.Notify kind) permits (Some v) is h at = edited v v image is (refl, refl) h at
  header_stays image _ permits there is h at = elim permits [ ]

  served_stays : (o : Op) → Permits k site o → AreStandalone (after_served r you o)
  served_stays (op.Directory o) permits = standalone
  served_stays (op.Children o) permits = standalone
  served_stays (op.BlockAdd i) permits = standalone
  served_stays (op.Data image number o) permits = standalone
  served_stays (op.Map image o) permits = standalone
  served_stays (op.Header image o) permits = λ i h at. by i h (i == image) at
    where
      by : (i : ℕ) (h : HeaderView) (b : Bool) → cond b (header_after you (r.headers image) o) (r.headers i) ≡ Some h → IsStandalone h
      by i h true at = header_stays image o permits (r.headers image) refl h at
      by i h false at = standalone i h at
  served_stays _ permits = elim permits [ ]

pub standalone_stays : (site : SiteId) (r : Records) (k : Knowledge) (you : Instance) (o : Op) → AreStandalone r → Permits k site o → AreStandalone (after r you o)
standalone_stays site r k you o standalone permits = where_fenced AreStandalone r you o standalone (served_stays site r k you standalone o permits)

-- ---- what is told

-- only a look tells a header
directory_tells : (o : DirectoryOp) (h : HeaderView) → directory_gives o (answer.Header h) ≡ true → ⊥
directory_tells directory.List h is = true≢false (sym is)
directory_tells _ h is = true≢false (sym is)

children_tell : (o : ChildrenOp) (h : HeaderView) → children_give o (answer.Header h) ≡ true → ⊥
children_tell (child.List parent snap) h is = true≢false (sym is)
children_tell _ h is = true≢false (sym is)

header_tells : (o : HeaderOp) (h : HeaderView) → header_gives o (answer.Header h) ≡ true → o ≡ header.Get
header_tells header.Get h is = refl
header_tells _ h is = absurd (true≢false (sym is))

object_tells : (o : DataOp) (h : HeaderView) → object_gives o (answer.Header h) ≡ true → ⊥
object_tells (object.Write context true parts bytes) h is = true≢false (sym is)
object_tells (object.Write context false parts bytes) h is = true≢false (sym is)
object_tells (object.Zero context true parts) h is = true≢false (sym is)
object_tells (object.Zero context false parts) h is = true≢false (sym is)
object_tells _ h is = true≢false (sym is)

map_tells : (o : MapOp) (h : HeaderView) → map_gives o (answer.Header h) ≡ true → ⊥
map_tells (states.Set None number state) h is = true≢false (sym is)
map_tells (states.Set (Some snap) number state) h is = true≢false (sym is)
map_tells _ h is = true≢false (sym is)

journal_tells : (o : JournalOp) (h : HeaderView) → journal_gives o (answer.Header h) ≡ true → ⊥
journal_tells journal.Tag h is = true≢false (sym is)
journal_tells _ h is = true≢false (sym is)

only_look_tells : (o : Op) (h : HeaderView) → gives o (answer.Header h) ≡ true → (image : ℕ) × (o ≡ op.Header image header.Get)
only_look_tells (op.Directory o) h is = absurd (directory_tells o h is)
only_look_tells (op.Children o) h is = absurd (children_tell o h is)
only_look_tells (op.BlockAdd i) h is = absurd (true≢false (sym is))
only_look_tells (op.Header image o) h is = (image, ap (op.Header image) (header_tells o h is))
only_look_tells (op.Data image number o) h is = absurd (object_tells o h is)
only_look_tells (op.Map image o) h is = absurd (map_tells o h is)
only_look_tells (op.Journal image o) h is = absurd (journal_tells o h is)

abbrev told_or : HeaderView → Answer → HeaderView
told_or other (answer.Header h) = h
told_or other _ = other

module _ (r : Records) (me : Instance) (standalone : AreStandalone r) where
  looked_standalone : (image : ℕ) (h : HeaderView) → answer_to r me (op.Header image header.Get) ≡ answer.Header h → IsStandalone h
  looked_standalone image h is = by (is_fenced r me) (r.headers image) refl is
    where
      by : (fenced : Bool) (there : Option HeaderView) → r.headers image ≡ there → cond fenced answer.Fenced (header_answer me there (r.watchers image) header.Get) ≡ answer.Header h → IsStandalone h
      by true there at is = cc
      by false None at is = cc
      by false (Some v) at is = subst IsStandalone (ap (told_or v) is) (standalone image v at)

  pub told_standalone : (o : Op) → IsGiven o (answer_to r me o) → TellsStandalone (answer_to r me o)
  told_standalone o given = by (answer_to r me o) refl given.can.word
    where
      by : (a : Answer) → answer_to r me o ≡ a → gives o a ≡ true → TellsStandalone a
      by (answer.Header h) is word = let (image, look) = only_look_tells o h word in looked_standalone image h (ap (answer_to r me) (sym look) ∙ is)
      by _ is word = tt
