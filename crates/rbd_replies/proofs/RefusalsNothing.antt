-- Operations that changed nothing have no effect, so a refusal that comes early did nothing.
use Rattle.std.proofs.Common.{◌≡◌, ◌⊎◌, inl, inr, ℕ, true, List, [], ◌∷◌, Option, Some, None, map, refl, ◌∙◌}
use Rattle.rbd_kinds.specs.declared.answer.Answer.{Answer}
use Rattle.rbd_kinds.specs.declared.answer.Answer.TheVariants as answer
use Rattle.rbd_kinds.specs.declared.children_op.ChildrenOp.TheVariants as child
use Rattle.rbd_kinds.specs.declared.data_op.DataOp.TheVariants as object
use Rattle.rbd_kinds.specs.declared.directory_op.DirectoryOp.TheVariants as directory
use Rattle.rbd_kinds.specs.declared.header.HeaderView.{HeaderView}
use Rattle.rbd_kinds.specs.declared.header_op.HeaderOp.TheVariants as header
use Rattle.rbd_kinds.specs.declared.id.SiteId.{SiteId}
use Rattle.rbd_kinds.specs.declared.operation.Op.{Op}
use Rattle.rbd_kinds.specs.declared.operation.Op.TheVariants as op
use Rattle.rbd_machine.specs.Refused.{only_looks}
use Rattle.rbd_meaning.specs.Undone.{ChangeNothing, tells_undone}
use Rattle.rbd_site.specs.Records.{Records}
use Rattle.rbd_site.specs.declared.done.DoneOp.TheVariants as done
use Rattle.rbd_stands.proofs.NoEffect.{refused_none}
use Rattle.rbd_stands.specs.Effect.{effect_of, effect_of_op, header_of}
use Rattle.rbd_replies.proofs.PlacedRight.{ArePlacedRight}
use Rattle.rbd_replies.proofs.Places.{step_at}
use Rattle.rbd_replies.proofs.PlacesTaken.{silent_first}
use Rattle.rbd_replies.proofs.PlacesTold.{effect_there, records_at}
use Rattle.rbd_replies.specs.Places.{Placed, effects_of}

-- what only looks has no effect
pub look_does_nothing : (known : Option HeaderView) (o : Op) (a : Answer) → only_looks o ≡ true → effect_of_op known o a ≡ None
look_does_nothing known (op.Directory (directory.Find name)) a look = refl
look_does_nothing known (op.Directory directory.List) a look = refl
look_does_nothing known (op.Children (child.List parent snap)) a look = refl
look_does_nothing known (op.Header image header.Get) a look = refl
look_does_nothing known (op.Header image header.WatchersGet) a look = refl
look_does_nothing None (op.Data image number (object.Read snap parts)) a look = refl
look_does_nothing (Some h) (op.Data image number (object.Read snap parts)) answer.Done look = refl
look_does_nothing (Some h) (op.Data image number (object.Read snap parts)) a look = refl
look_does_nothing known (op.Map image o) a look = refl
look_does_nothing known (op.Journal image o) a look = refl
look_does_nothing known o a look = cc

-- what is told as undone has none
undone_does_nothing : (r : Records) (o : Op) (a : Answer) → tells_undone a ≡ true → effect_of r (done.Op o) a ≡ None
undone_does_nothing r o answer.Absent undone = refused_none r o answer.Absent refl
undone_does_nothing r o answer.Exists undone = refused_none r o answer.Exists refl
undone_does_nothing r o answer.Full undone = refused_none r o answer.Full refl
undone_does_nothing r o answer.Fenced undone = refused_none r o answer.Fenced refl
undone_does_nothing r o a undone = cc

nothing_done : (r : Records) (o : Op) (a : Answer) → (only_looks o ≡ true) ⊎ (tells_undone a ≡ true) → effect_of r (done.Op o) a ≡ None
nothing_done r o a (inl look) = look_does_nothing (header_of r o) o a look
nothing_done r o a (inr undone) = undone_does_nothing r o a undone

pub nothing_at_places : (homes : ℕ → SiteId) (places : List Placed) → ArePlacedRight homes places → ChangeNothing (map step_at places) → effects_of places ≡ []
nothing_at_places homes [] right nothing = refl
nothing_at_places homes (p ∷ places) (here, right) (first, nothing) =
    silent_first p places (effect_there homes p here (step_at p) refl ∙ nothing_done (records_at p) p.done.op p.done.answer first)
    ∙ nothing_at_places homes places right nothing
