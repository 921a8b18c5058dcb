-- One operation on one object of a site: its condition, its answer, the records after it, and the
-- notices that it posts. An instance that is in the blocklist is fenced: none of its operations
-- does anything.
use Rattle.std.specs.Prelude.{Bool, if◌then◌else◌, List, IsFalse}
use Rattle.std.specs.FinSet as finset
use Rattle.rbd_kinds.specs.declared.answer.Answer.{Answer}
use Rattle.rbd_kinds.specs.declared.answer.Answer.TheVariants as answer
use Rattle.rbd_kinds.specs.declared.id.Instance.{Instance}
use Rattle.rbd_kinds.specs.declared.id.SiteId.{SiteId}
use Rattle.rbd_kinds.specs.declared.notice.Notice.{Notice}
use Rattle.rbd_kinds.specs.declared.operation.Op.{Op}
use Rattle.rbd_kinds.specs.declared.operation.Op.TheVariants as op
use Rattle.rbd_site.specs.Records.{Records, with_blocklist, with_children, with_directory, with_header, with_map, with_object, with_watchers}
use Rattle.rbd_site.specs.ChildrenStep.{children_answer, children_after}
use Rattle.rbd_site.specs.DirectoryStep.{directory_answer, directory_after}
use Rattle.rbd_site.specs.HeaderStep.{MayDoOnHeader, header_answer, header_after}
use Rattle.rbd_site.specs.DataStep.{MayDoOnData, data_answer, data_after}
use Rattle.rbd_kinds.specs.Maps.{map_snap}
use Rattle.rbd_site.specs.MapStep.{MayDoOnMap, map_answer, map_after}
use Rattle.rbd_site.specs.WatchStep.{notified, receivers, watchers_after}

-- ---- the fence

-- whether a site refuses an instance
abbrev pub is_fenced : Records → Instance → Bool
is_fenced r me = finset.contains r.blocklist me

-- ---- an operation of an instance that isn't fenced: it is served

-- the operations that are built, and their conditions
abbrev pub MayServe : Records → Op → Type 0
MayServe r (op.Directory o) = Unit {0}
MayServe r (op.Children o) = Unit {0}
MayServe r (op.BlockAdd instance) = Unit {0}
MayServe r (op.Header image o) = MayDoOnHeader (r.headers image) o
MayServe r (op.Data image number o) = MayDoOnData o
MayServe r (op.Map image o) = MayDoOnMap (r.maps image (map_snap o)) o
MayServe r _ = ⊥

abbrev pub answer_served : Records → Instance → Op → Answer
answer_served r me (op.Directory o) = directory_answer r.directory o
answer_served r me (op.Children o) = children_answer r.children o
answer_served r me (op.BlockAdd instance) = answer.Done
answer_served r me (op.Header image o) = header_answer me (r.headers image) (r.watchers image) o
answer_served r me (op.Data image number o) = data_answer (r.objects image number) o
answer_served r me (op.Map image o) = map_answer (r.maps image (map_snap o)) o
answer_served r me _ = answer.Absent

abbrev pub after_served : Records → Instance → Op → Records
after_served r me (op.Directory o) = with_directory (directory_after r.directory o) r
after_served r me (op.Children o) = with_children (children_after r.children o) r
after_served r me (op.BlockAdd instance) = with_blocklist (finset.insert r.blocklist instance) r
after_served r me (op.Header image o) =
    with_header image (header_after me (r.headers image) o)
    (with_watchers image (watchers_after me (r.headers image) (r.watchers image) o) r)
after_served r me (op.Data image number o) = with_object image number (data_after (r.objects image number) o) r
after_served r me (op.Map image o) = with_map image (map_snap o) (map_after (r.maps image (map_snap o)) o) r
after_served r me _ = r

-- the notices of both sites, where a site's operation was served
abbrev pub mail_served : SiteId → Records → Instance → Op → List Notice → List Notice
mail_served site r me (op.Header image o) mail =
    notified site me image (receivers me (r.headers image) (r.watchers image)) o mail
mail_served site r me _ mail = mail

-- ---- an operation of any instance

-- An operation of a fenced instance has no condition.
abbrev pub MayDo : Records → Instance → Op → Type 0
MayDo r me op = IsFalse (is_fenced r me) → MayServe r op

abbrev pub answer_to : Records → Instance → Op → Answer
answer_to r me op = if is_fenced r me then answer.Fenced else answer_served r me op

abbrev pub after : Records → Instance → Op → Records
after r me op = if is_fenced r me then r else after_served r me op

abbrev pub mail_after : SiteId → Records → Instance → Op → List Notice → List Notice
mail_after site r me op mail = if is_fenced r me then mail else mail_served site r me op mail
