-- A command that only shows asks for looks alone, and a look leaves all as it was.
use Rattle.std.proofs.Common.{◌≡◌, ℕ, cond, Bool, true, false, List, ◌∷◌, Option, Some, refl, sym, ap, ◌∙◌}
use Rattle.std.proofs.lemmas.Option.{same_Some}
use Rattle.rbd_commands.specs.declared.command.Command.{Command}
use Rattle.rbd_kinds.specs.OperationKind.{kind_of}
use Rattle.rbd_kinds.specs.declared.children_op.ChildrenOp.TheVariants as child
use Rattle.rbd_kinds.specs.declared.data_op.DataOp.TheVariants as object
use Rattle.rbd_kinds.specs.declared.directory_op.DirectoryOp.TheVariants as directory
use Rattle.rbd_kinds.specs.declared.header_op.HeaderOp.TheVariants as header
use Rattle.rbd_kinds.specs.declared.id.Instance.{Instance}
use Rattle.rbd_kinds.specs.declared.id.SiteId.{SiteId}
use Rattle.rbd_kinds.specs.declared.map_op.MapOp.TheVariants as states
use Rattle.rbd_kinds.specs.declared.notice.Notice.{Notice}
use Rattle.rbd_kinds.specs.declared.operation.Op.{Op}
use Rattle.rbd_kinds.specs.declared.operation.Op.TheVariants as op
use Rattle.rbd_kinds.specs.declared.operation_kind.OpKind.{OpKind}
use Rattle.rbd_kinds.specs.declared.operation_kind.OpKind.TheVariants as kind
use Rattle.rbd_kinds.specs.declared.reply.Reply.{Reply}
use Rattle.rbd_catalog.proofs.Consequences.{asked_kind, is_none}
use Rattle.rbd_catalog.proofs.FollowsAll.{command_follows}
use Rattle.rbd_catalog.specs.Profile.{changes_anything, changes_what_is_seen, profile}
use Rattle.rbd_site.proofs.GenerationLemmas.{looked_at}
use Rattle.rbd_site.specs.Records.{Records}
use Rattle.rbd_site.specs.Step.{after, is_fenced, mail_after, mail_served}
use Rattle.rbd_stands.specs.Effect.{header_of}
use Rattle.rbd_world.proofs.Runs.{done_of}
use Rattle.rbd_world.specs.Run.{Asked, Happening, Did, Operation, asked_by, is_own, mail_of, records_after, steps_of}
use Rattle.rbd_world.specs.Sound.{IsRightlyDone, IsRight}
use Rattle.rbd_replies.proofs.Fencing.{leaves_all}
use Rattle.rbd_replies.proofs.OwnHeader.{own_line}
use Rattle.rbd_replies.proofs.SilentKinds.{unseen_has_none}
use Rattle.rbd_replies.specs.Fenced.{LeavesAll}
use Rattle.rbd_replies.specs.Replies.{only_shows}

-- ---- a look

-- it changes nothing that users see
looks_are_unseen : (k : OpKind) → changes_anything k ≡ false → changes_what_is_seen k ≡ false
looks_are_unseen kind.DirFind look = refl
looks_are_unseen _ look = cc

-- it leaves the records
leaves_records : (r : Records) (me : Instance) (o : Op) → changes_anything (kind_of o) ≡ false → after r me o ≡ r
leaves_records r me (op.Directory (directory.Find name)) look = looked_at r me (op.Directory (directory.Find name)) refl
leaves_records r me (op.Directory directory.List) look = looked_at r me (op.Directory directory.List) refl
leaves_records r me (op.Directory _) look = cc
leaves_records r me (op.Children (child.List parent snap)) look = looked_at r me (op.Children (child.List parent snap)) refl
leaves_records r me (op.Children _) look = cc
leaves_records r me (op.BlockAdd instance) look = cc
leaves_records r me (op.Header image header.Get) look = looked_at r me (op.Header image header.Get) refl
leaves_records r me (op.Header image header.WatchersGet) look = looked_at r me (op.Header image header.WatchersGet) refl
leaves_records r me (op.Header image _) look = cc
leaves_records r me (op.Data image number (object.Read snap parts)) look = looked_at r me (op.Data image number (object.Read snap parts)) refl
leaves_records r me (op.Data image number _) look = cc
leaves_records r me (op.Map image (states.Get snap)) look = looked_at r me (op.Map image (states.Get snap)) refl
leaves_records r me (op.Map image _) look = cc
leaves_records r me (op.Journal image o) look = by (is_fenced r me)
  where
    by : (b : Bool) → cond b r r ≡ r
    by true = refl
    by false = refl

-- and nobody is told anything
tells_none : (s : SiteId) (r : Records) (me : Instance) (o : Op) (mail : List Notice) → changes_anything (kind_of o) ≡ false → mail_served s r me o mail ≡ mail
tells_none s r me (op.Header image (header.Notify k)) mail look = cc
tells_none s r me (op.Header image _) mail look = refl
tells_none s r me o mail look = refl

leaves_mail : (s : SiteId) (r : Records) (me : Instance) (o : Op) (mail : List Notice) → changes_anything (kind_of o) ≡ false → mail_after s r me o mail ≡ mail
leaves_mail s r me o mail look = by (is_fenced r me)
  where
    by : (b : Bool) → cond b mail (mail_served s r me o mail) ≡ mail
    by true = refl
    by false = tells_none s r me o mail look

look_leaves : (o : Operation) (reply : Option Reply) (run : List Happening) → IsRightlyDone o run → changes_anything (kind_of o.op) ≡ false → LeavesAll o reply run
look_leaves o reply run is look =
    let r = records_after o.site run in
    leaves_all o reply run (is.effect ∙ unseen_has_none (header_of r o.op) o.op o.answer (looks_are_unseen (kind_of o.op) look)) (leaves_records r o.instance o.op look)
    (leaves_mail o.site r o.instance o.op (mail_of run) look)

-- ---- a command that only shows

pub showing_leaves_all : (homes : ℕ → SiteId) (run : List Happening) (o : Operation) (reply : Option Reply) (line : ℕ) (asked : Asked) → IsRight homes (Did o reply ∷ run)
    → is_own line o.by ≡ true → asked_by line run ≡ Some asked → only_shows asked.command ≡ true → LeavesAll o reply run
showing_leaves_all homes run o reply line asked right mine asks shows =
    let is = done_of homes o reply run right.1 in
    let own = own_line line o.by o.site o.op is.knows run mine is.recalls in
    let c : Command = own.begun.asked.command in
    let only = ap (λ (a : Asked). only_shows a.command) (same_Some own.begun.asked asked (sym own.begun.is ∙ asks)) ∙ shows in
    look_leaves o reply run is
    (is_none changes_anything (profile c).kinds only (kind_of o.op)
    (asked_kind (profile c) own.start (command_follows own.seat c own.start own.plan) own.feds (steps_of line run) o.site own.why o.op own.next own.walk))
