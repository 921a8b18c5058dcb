-- Readiness: only an answer needs memory.
use Rattle.rbd_kinds.specs.declared.answer.Answer.{Answer}
use Rattle.rbd_kinds.specs.declared.machine.Fed.{Fed}
use Rattle.rbd_kinds.specs.declared.machine.Fed.TheVariants as fed

abbrev pub IsReadyFor : (Answer → Type 0) → Fed → Type 0
IsReadyFor is_ready (fed.Answer a) = is_ready a
IsReadyFor is_ready fed.Passed = Unit {0}
