-- `rm`: all that an image is goes.
use Rattle.std.specs.Prelude.{ℕ, List, [], ◌∷◌, Bool, true, false, if◌then◌else◌, None}
use Rattle.rbd_commands.specs.declared.command.Command.{Command}
use Rattle.rbd_commands.specs.declared.command.Command.TheVariants as command
use Rattle.rbd_commands.specs.declared.refusal.Refusal.TheVariants as refusal
use Rattle.rbd_kinds.specs.declared.sharing.Sharing.TheVariants as sharing
use Rattle.rbd_kinds.specs.declared.answer.Answer.{Answer}
use Rattle.rbd_kinds.specs.declared.answer.Answer.TheVariants as answer
use Rattle.rbd_kinds.specs.declared.header.HeaderView.{HeaderView}
use Rattle.rbd_kinds.specs.declared.header_op.HeaderOp.TheVariants as header
use Rattle.rbd_kinds.specs.declared.id.SiteId.{SiteId}
use Rattle.rbd_kinds.specs.declared.map_op.MapOp.TheVariants as states
use Rattle.rbd_kinds.specs.declared.operation.Op.{Op}
use Rattle.rbd_kinds.specs.declared.operation.Op.TheVariants as op
use Rattle.rbd_kinds.specs.declared.reply.Reply.TheVariants as reply
use Rattle.rbd_machine.specs.Plan.{Plan, Return}
use Rattle.rbd_machine.specs.Steps.{EndsIt, holding, joining_between, looked_between, looking_between, not_there, on_bits, own, refused, unless, way_between}
use Rattle.rbd_meaning.specs.Removals.{image_removal_refuses, may_be_gone, removal, watchers_refuse}

-- the commands that it serves
abbrev pub is_remove : Command → Bool
is_remove (command.Remove image) = true
is_remove _ = false

-- ---- what goes

-- What needn't be there any more is passed over where it isn't.
abbrev pub on_gone : Op → (next : Plan) → Answer → Plan
on_gone o next answer.Done = next
on_gone o next answer.Absent = if may_be_gone o then next else refused refusal.NoImage
on_gone o next a = not_there a

-- one operation after another
abbrev pub remove_each : SiteId → List Op → (next : Plan) → Plan
remove_each site [] next = next
remove_each site (o ∷ ops) next = own site o (on_gone o (remove_each site ops next))

-- all that the image is, by a header and the states of the head's map
abbrev pub removal_plan : SiteId → (image : ℕ) → HeaderView → (next : Plan) → Plan
removal_plan site image h next =
    own site (op.Map image (states.Get None)) (on_bits (λ bits. remove_each site (removal image h bits) next))

-- ---- the command: nobody else may watch the image, before it waits for the lock and behind it

abbrev pub on_watchers : (session : ℕ) → (next : Plan) → Answer → Plan
on_watchers session next (answer.Instances watchers) = unless (watchers_refuse session watchers) next
on_watchers session next a = not_there a

abbrev pub TellsWatchers : Answer → Type 0
TellsWatchers (answer.Instances watchers) = Unit {0}
TellsWatchers a = EndsIt a

abbrev pub unless_watched : SiteId → (session : ℕ) → (image : ℕ) → (next : Plan) → Plan
unless_watched site session image next = own site (op.Header image header.WatchersGet) (on_watchers session next)

-- once it owns the image
abbrev pub remove_owned : SiteId → (session : ℕ) → (image : ℕ) → HeaderView → Plan
remove_owned site session image h = unless_watched site session image (removal_plan site image h (Return reply.Done))

abbrev pub holding_it : SiteId → (session : ℕ) → (image : ℕ) → Plan
holding_it site session image = holding site image_removal_refuses (remove_owned site session) image

-- behind its first look
abbrev pub looked_at_it : SiteId → (session : ℕ) → (image : ℕ) → HeaderView → Plan
looked_at_it site session image h =
    looked_between site image_removal_refuses (unless_watched site session) (remove_owned site session) image h

abbrev pub looking_at_it : SiteId → (session : ℕ) → (image : ℕ) → Plan
looking_at_it site session image =
    looking_between site image_removal_refuses (unless_watched site session) (remove_owned site session) image

abbrev pub joining_its_line : SiteId → (session : ℕ) → (image : ℕ) → Plan
joining_its_line site session image = joining_between site sharing.Alone image_removal_refuses
    (unless_watched site session) (remove_owned site session) image

abbrev pub remove_image : SiteId → (session : ℕ) → (name : List ℕ) → Plan
remove_image site session name = way_between site name sharing.Alone image_removal_refuses
    (unless_watched site session) (remove_owned site session)

abbrev pub remove_plan : SiteId → (session : ℕ) → Command → Plan
remove_plan site session (command.Remove image) = remove_image site session image
remove_plan site session _ = refused refusal.NoImage
