-- Operations without an effect.
use Rattle.std.proofs.Common.{◌≡◌, ℕ, true, false, List, Option, Some, None, refl, sym, ap, ◌∙◌}
use Rattle.std.specs.Prelude.{IsTrue, IsFalse}
use Rattle.std.proofs.lemmas.Bool.{true≢false}
use Rattle.rbd_kinds.specs.declared.answer.Answer.{Answer}
use Rattle.rbd_kinds.specs.declared.answer.Answer.TheVariants as answer
use Rattle.rbd_kinds.specs.declared.children_op.ChildrenOp.TheVariants as children_op
use Rattle.rbd_kinds.specs.declared.data_op.DataOp.{DataOp}
use Rattle.rbd_kinds.specs.declared.data_op.DataOp.TheVariants as data_op
use Rattle.rbd_kinds.specs.declared.directory_op.DirectoryOp.TheVariants as directory_op
use Rattle.rbd_kinds.specs.declared.header.HeaderView.{HeaderView}
use Rattle.rbd_kinds.specs.declared.header_op.HeaderOp.{HeaderOp}
use Rattle.rbd_kinds.specs.declared.header_op.HeaderOp.TheVariants as header_op
use Rattle.rbd_kinds.specs.declared.id.Instance.{Instance}
use Rattle.rbd_kinds.specs.declared.map_op.MapOp.{MapOp}
use Rattle.rbd_kinds.specs.declared.map_op.MapOp.TheVariants as map_op
use Rattle.rbd_kinds.specs.declared.operation.Op.{Op}
use Rattle.rbd_kinds.specs.declared.operation.Op.TheVariants as op
use Rattle.rbd_site.specs.declared.done.DoneOp.TheVariants as done
use Rattle.rbd_site.specs.Laws.{may_have_changed, is_look}
use Rattle.rbd_site.specs.Records.{Records}
use Rattle.rbd_stands.specs.Effect.{effect_of, effect_of_op, header_of}
use Rattle.rbd_stands.specs.Unseen.{is_unseen}

-- ---- looks

look_at : (header : Option HeaderView) (o : Op) (a : Answer) → is_look o ≡ true → effect_of_op header o a ≡ None
look_at header (op.Directory (directory_op.Find name)) a look = refl
look_at header (op.Directory directory_op.List) a look = refl
look_at header (op.Children (children_op.List parent snap)) a look = refl
look_at header (op.Header image header_op.Get) a look = refl
look_at header (op.Header image header_op.WatchersGet) a look = refl
look_at header (op.Header image (header_op.Notify kind)) a look = refl
look_at None (op.Data image number (data_op.Read snap parts)) a look = refl
look_at (Some h) (op.Data image number (data_op.Read snap parts)) answer.Done look = refl
look_at (Some h) (op.Data image number (data_op.Read snap parts)) a look = refl
look_at header (op.Map image (map_op.Get snap)) a look = refl
look_at header o a look = absurd (true≢false (sym look))

pub look_none : (r : Records) (o : Op) (a : Answer) → IsTrue (is_look o) → effect_of r (done.Op o) a ≡ None
look_none r o a look = look_at (header_of r o) o a look

-- ---- what wasn't done

refused_at : (header : Option HeaderView) (o : Op) (a : Answer) → may_have_changed a ≡ false → effect_of_op header o a ≡ None
refused_at header o answer.Done no_change = absurd (true≢false no_change)
refused_at header o (answer.Id image) no_change = absurd (true≢false no_change)
refused_at header o (answer.Snap snap) no_change = absurd (true≢false no_change)
refused_at header (op.Directory (directory_op.Add name)) a no_change = refl
refused_at header (op.Directory (directory_op.Remove image)) a no_change = refl
refused_at header (op.Directory (directory_op.Rename from to)) a no_change = refl
refused_at header (op.Directory (directory_op.Find name)) a no_change = refl
refused_at header (op.Directory directory_op.List) a no_change = refl
refused_at header (op.Children (children_op.Add parent snap child)) a no_change = refl
refused_at header (op.Children (children_op.Remove parent snap child)) a no_change = refl
refused_at header (op.Children (children_op.List parent snap)) a no_change = refl
refused_at header (op.Header image (header_op.Create view)) a no_change = refl
refused_at header (op.Header image (header_op.SetSize size)) a no_change = refl
refused_at header (op.Header image (header_op.SnapAdd name)) a no_change = refl
refused_at header (op.Header image (header_op.SnapRemove snap)) a no_change = refl
refused_at header (op.Header image (header_op.SnapStatus snap status)) a no_change = refl
refused_at header (op.Header image (header_op.Role role)) a no_change = refl
refused_at None (op.Header image header_op.Mirror) a no_change = refl
refused_at (Some h) (op.Header image header_op.Mirror) a no_change = refl
refused_at header (op.Header image header_op.Remove) a no_change = refl
refused_at None (op.Data image number o) a no_change = refl
refused_at (Some h) (op.Data image number o) a no_change = refl
refused_at header o a no_change = refl

pub refused_none : (r : Records) (o : Op) (a : Answer) → IsFalse (may_have_changed a) → effect_of r (done.Op o) a ≡ None
refused_none r o a no_change = refused_at (header_of r o) o a no_change

pub fenced_none : (r : Records) (o : Op) → effect_of r (done.Op o) answer.Fenced ≡ None
fenced_none r o = refused_none r o answer.Fenced refl

-- ---- what a flat site doesn't have

unseen_at : (header : Option HeaderView) (image : ℕ) (o : HeaderOp) (a : Answer) → is_unseen o ≡ true → effect_of_op header (op.Header image o) a ≡ None
unseen_at header image header_op.LockTake a e = refl
unseen_at header image header_op.LockDrop a e = refl
unseen_at header image (header_op.LockBreak owner) a e = refl
unseen_at header image header_op.Synced a e = refl
unseen_at header image header_op.Watch a e = refl
unseen_at header image header_op.Unwatch a e = refl
unseen_at header image header_op.WatchersGet a e = refl
unseen_at header image (header_op.Notify kind) a e = refl
unseen_at header image o a e = absurd (true≢false (sym e))

pub unseen_none : (r : Records) (image : ℕ) (o : HeaderOp) (a : Answer) → is_unseen o ≡ true → effect_of r (done.Op (op.Header image o)) a ≡ None
unseen_none r image o a e = unseen_at (r.headers image) image o a e

pub listed_none : (r : Records) (i : Instance) (a : Answer) → effect_of r (done.Op (op.BlockAdd i)) a ≡ None
listed_none r i a = refl

pub mapped_none : (r : Records) (image : ℕ) (o : MapOp) (a : Answer) → effect_of r (done.Op (op.Map image o)) a ≡ None
mapped_none r image o a = refl

-- ---- objects

missing_at : (image number : ℕ) (o : DataOp) (a : Answer) → effect_of_op None (op.Data image number o) a ≡ None
missing_at image number o a = refl

pub missing_none : (r : Records) (image number : ℕ) (o : DataOp) (a : Answer) → r.headers image ≡ None → effect_of r (done.Op (op.Data image number o)) a ≡ None
missing_none r image number o a none = ap (λ header. effect_of_op header (op.Data image number o) a) none ∙ missing_at image number o a

copied_at : (header : Option HeaderView) (image number : ℕ) (bytes : List ℕ) (a : Answer) → effect_of_op header (op.Data image number (data_op.CopyUp bytes)) a ≡ None
copied_at None image number bytes a = refl
copied_at (Some h) image number bytes answer.Done = refl
copied_at (Some h) image number bytes a = refl

pub copied_none : (r : Records) (image number : ℕ) (bytes : List ℕ) (a : Answer) → effect_of r (done.Op (op.Data image number (data_op.CopyUp bytes))) a ≡ None
copied_none r image number bytes a = copied_at (r.headers image) image number bytes a

-- ---- the store

pub trimmed_none : (r : Records) (image object : ℕ) (a : Answer) → effect_of r (done.Trim image object) a ≡ None
trimmed_none r image object a = refl

pub expired_none : (r : Records) (image : ℕ) (i : Instance) (a : Answer) → effect_of r (done.Expire image i) a ≡ None
expired_none r image i a = refl
