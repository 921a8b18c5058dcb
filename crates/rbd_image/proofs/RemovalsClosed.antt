-- A removal goes to no label of its own.
use Rattle.std.proofs.Common.{ℕ, Bool, true, false, cond, List, [], ◌∷◌}
use Rattle.rbd_commands.specs.declared.command.Command.{Command}
use Rattle.rbd_commands.specs.declared.command.Command.TheVariants as command
use Rattle.rbd_commands.specs.declared.refusal.Refusal.TheVariants as refusal
use Rattle.rbd_kinds.specs.declared.answer.Answer.{Answer}
use Rattle.rbd_kinds.specs.declared.answer.Answer.TheVariants as answer
use Rattle.rbd_kinds.specs.declared.header.HeaderView.{HeaderView}
use Rattle.rbd_kinds.specs.declared.id.SiteId.{SiteId}
use Rattle.rbd_kinds.specs.declared.operation.Op.{Op}
use Rattle.rbd_kinds.specs.declared.reply.Reply.TheVariants as reply
use Rattle.rbd_machine.specs.Label.{Label}
use Rattle.rbd_machine.specs.Plan.{Plan, Goto, Return, IsClosed}
use Rattle.rbd_machine.specs.Steps.{on_id, owned, refused}
use Rattle.rbd_machine.proofs.Closed.{closed_not_there, closed_on_bits, closed_on_header, closed_on_id, closed_unless}
use Rattle.rbd_meaning.specs.Removals.{image_removal_refuses, may_be_gone, removal, watchers_refuse}
use Rattle.rbd_image.specs.Remove.{holding_it, joining_its_line, looked_at_it, on_gone, on_watchers, removal_plan, remove_each, remove_owned, remove_plan, unless_watched}

module _ (labels : Label → Plan) where
  closed_on_gone : (o : Op) (next : Plan) → IsClosed labels next → (a : Answer) → IsClosed labels (on_gone o next a)
  closed_on_gone o next closed answer.Done = closed
  closed_on_gone o next closed answer.Absent = go (may_be_gone o)
    where
      go : (b : Bool) → IsClosed labels (cond b next (refused refusal.NoImage))
      go true = closed
      go false = tt
  closed_on_gone o next closed a = closed_not_there labels a

  closed_on_watchers : (session : ℕ) (next : Plan) → IsClosed labels next → (a : Answer) → IsClosed labels (on_watchers session next a)
  closed_on_watchers session next closed (answer.Instances watchers) = closed_unless labels (watchers_refuse session watchers) next closed
  closed_on_watchers session next closed a = closed_not_there labels a

  closed_each : (ops : List Op) (site : SiteId) (next : Plan) → IsClosed labels next → IsClosed labels (remove_each site ops next)
  closed_each [] site next closed = closed
  closed_each (o ∷ ops) site next closed = closed_on_gone o (remove_each site ops next) (closed_each ops site next closed)

  pub closed_remove : (site : SiteId) (image : ℕ) (h : HeaderView) (next : Plan) → IsClosed labels next → IsClosed labels (removal_plan site image h next)
  closed_remove site image h next closed =
      closed_on_bits labels (λ bits. remove_each site (removal image h bits) next) (λ bits. closed_each (removal image h bits) site next closed)

  closed_image : (site : SiteId) (session : ℕ) (a : Answer) → IsClosed labels (on_id (joining_its_line site session) a)
  closed_image site session =
      closed_on_id labels (joining_its_line site session) (λ image.
      closed_on_header labels (looked_at_it site session image) (λ h.
      closed_unless labels (image_removal_refuses h) (unless_watched site session image (holding_it site session image))
      (closed_on_watchers session (holding_it site session image)
      (closed_on_header labels (owned image_removal_refuses (remove_owned site session) image) (λ own.
      closed_unless labels (image_removal_refuses own) (remove_owned site session image own)
      (closed_on_watchers session (removal_plan site image own (Return reply.Done)) (closed_remove site image own (Return reply.Done) tt)))))))

pub closed_request : (site : SiteId) (session : ℕ) (c : Command) → IsClosed Goto (remove_plan site session c)
closed_request site session (command.Remove image) = closed_image Goto site session
closed_request site session _ = tt
