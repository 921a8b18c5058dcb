use Rattle.std.proofs.Common.{◌≡◌, ◌++◌, take}
use Rattle.rbd_text.specs.Replies.{ids_text}
use Rattle.rbd_text.proofs.reply.push_ids.Given as goal

abbrev pub invariant-loop-id : goal.invariant-loop-id
invariant-loop-id l = l.text.items ≡ l.fn.text.items ++ ids_text (take l.id-index l.ids)
