-- What holds of each end of a plan holds of the steps that requests share, where it holds of what
-- comes next.
use Rattle.std.proofs.Common.{ℕ, cond, Bool, true, false, List, replicate, Option, Some, None}
use Rattle.rbd_image.specs.Create.{on_drawn}
use Rattle.rbd_image.specs.Listing.{on_names, on_renamed}
use Rattle.rbd_snap.specs.Snap.{on_gone, on_snap}
use Rattle.rbd_commands.specs.declared.refusal.Refusal.{Refusal}
use Rattle.rbd_kinds.specs.declared.answer.Answer.{Answer}
use Rattle.rbd_kinds.specs.declared.answer.Answer.TheVariants as answer
use Rattle.rbd_kinds.specs.declared.header.HeaderView.{HeaderView}
use Rattle.rbd_kinds.specs.declared.layout.Part.{Part}
use Rattle.rbd_kinds.specs.declared.operation.Op.{Op}
use Rattle.rbd_kinds.specs.declared.reply.Reply.{Reply}
use Rattle.rbd_kinds.specs.Parts.{parts_len}
use Rattle.rbd_machine.specs.Plan.{Plan, Return}
use Rattle.rbd_machine.specs.Steps.{not_there, on_done, on_header, on_id, unless, on_bits}
use Rattle.rbd_meaning.specs.Removals.{may_be_gone, watchers_refuse}
use Rattle.rbd_pieces.specs.Gather.{on_bytes}
use Rattle.rbd_image.specs.Remove.{on_watchers, on_gone as removed_or_gone}

module _ (P : Plan → Type 0) (ends : (r : Reply) → P (Return r)) where
  pub at_not_there : (a : Answer) → P (not_there a)
  at_not_there answer.Fenced = ends _
  at_not_there _ = ends _

  pub at_id : (next : ℕ → Plan) → ((image : ℕ) → P (next image)) → (a : Answer) → P (on_id next a)
  at_id next holds (answer.Id image) = holds image
  at_id next holds a = at_not_there a

  pub at_header : (next : HeaderView → Plan) → ((h : HeaderView) → P (next h)) → (a : Answer) → P (on_header next a)
  at_header next holds (answer.Header h) = holds h
  at_header next holds a = at_not_there a

  pub at_done : (next : Plan) → P next → (a : Answer) → P (on_done next a)
  at_done next holds answer.Done = holds
  at_done next holds a = at_not_there a

  pub at_snap : (next : Plan) → P next → (a : Answer) → P (on_snap next a)
  at_snap next holds (answer.Snap snap) = holds
  at_snap next holds a = at_not_there a

  pub at_bits : (next : List ℕ → Plan) → ((bits : List ℕ) → P (next bits)) → (a : Answer) → P (on_bits next a)
  at_bits next holds (answer.Bits bits) = holds bits
  at_bits next holds a = at_not_there a

  pub at_gone : (next : Plan) → P next → (a : Answer) → P (on_gone next a)
  at_gone next holds answer.Done = holds
  at_gone next holds answer.Absent = holds
  at_gone next holds a = at_not_there a

  pub at_drawn : (next : ℕ → Plan) → ((image : ℕ) → P (next image)) → (a : Answer) → P (on_drawn next a)
  at_drawn next holds (answer.Id image) = holds image
  at_drawn next holds answer.Exists = ends _
  at_drawn next holds answer.Full = ends _
  at_drawn next holds a = at_not_there a

  pub at_names : (next : List (List ℕ) → Plan) → ((names : List (List ℕ)) → P (next names)) → (a : Answer) → P (on_names next a)
  at_names next holds (answer.Names names) = holds names
  at_names next holds a = at_not_there a

  pub at_bytes : (parts : List Part) (next : List ℕ → Plan) → ((bytes : List ℕ) → P (next bytes)) → (a : Answer) → P (on_bytes parts next a)
  at_bytes parts next holds (answer.Bytes bytes) = holds bytes
  at_bytes parts next holds answer.Absent = holds (replicate (parts_len parts) 0)
  at_bytes parts next holds a = at_not_there a

  pub at_unless : (r : Option Refusal) (next : Plan) → P next → P (unless r next)
  at_unless None next holds = holds
  at_unless (Some r) next holds = ends _

  pub at_either : (b : Bool) (one other : Plan) → P one → P other → P (cond b one other)
  at_either true one other holds also = holds
  at_either false one other holds also = also

  pub at_renamed : (a : Answer) → P (on_renamed a)
  at_renamed answer.Done = ends _
  at_renamed answer.Exists = ends _
  at_renamed a = at_not_there a

  pub at_watchers : (session : ℕ) (next : Plan) → P next → (a : Answer) → P (on_watchers session next a)
  at_watchers session next holds (answer.Instances watchers) = at_unless (watchers_refuse session watchers) next holds
  at_watchers session next holds a = at_not_there a

  pub at_removed : (o : Op) (next : Plan) → P next → (a : Answer) → P (removed_or_gone o next a)
  at_removed o next holds answer.Done = holds
  at_removed o next holds answer.Absent = at_either (may_be_gone o) next _ holds (ends _)
  at_removed o next holds a = at_not_there a
