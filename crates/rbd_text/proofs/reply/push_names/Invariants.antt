use Rattle.std.proofs.Common.{◌≡◌, ◌++◌, take}
use Rattle.rbd_text.specs.Replies.{names_text}
use Rattle.rbd_text.proofs.reply.push_names.Given as goal

abbrev pub invariant-loop-name : goal.invariant-loop-name
invariant-loop-name l = l.text.items ≡ l.fn.text.items ++ names_text (take l.name-index l.names)
