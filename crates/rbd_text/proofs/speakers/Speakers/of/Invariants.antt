use Rattle.std.proofs.Common.{take}
use Rattle.rbd_text.specs.Speakers.{AreSpeakersOf}
use Rattle.rbd_text.proofs.speakers.Speakers.of.Given as goal

abbrev pub invariant-loop-line : goal.invariant-loop-line
invariant-loop-line l = AreSpeakersOf (take l.line-index l.lines) l.speakers
