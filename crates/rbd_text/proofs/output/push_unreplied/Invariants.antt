use Rattle.std.proofs.Common.{◌≡◌, ◌++◌, take}
use Rattle.std.specs.List.{flat_map}
use Rattle.rbd_text.specs.Unanswered.{said_line}
use Rattle.rbd_text.specs.Progress.{progress_at}
use Rattle.rbd_text.proofs.output.push_unreplied.Given as goal

abbrev pub invariant-loop-line : goal.invariant-loop-line
invariant-loop-line l =
    l.text.items ≡ l.fn.text.items ++ flat_map (λ line. said_line l.sessions line.number line.said (progress_at l.all line.number)) (take l.line-index l.line-items)
