use Rattle.std.proofs.Common.{◌∙◌, ap}
use Rattle.std.specs.List.{list_any}
use Rattle.rbd_queue.specs.declared.standing.LineMember.{LineMember}
use Rattle.rbd_queue.specs.Line.{LineView, is_past, any_past}
use Rattle.rbd_queue.specs.Turns.{held_by}
use Rattle.rbd_queue.proofs.Views.{any_past_seen}
use Rattle.rbd_queue.proofs.line.Line.is_any_past.Goals as goal

pub returns-clause-past : goal.returns-clause-past
returns-clause-past c =
    c.is_any_past.ensures ∙ (ap (list_any (λ (s : LineMember). is_past s.stage)) c.as_slice.ensures.value
    ∙ (any_past_seen (λ slot. held_by slot c.self.inside.turns) c.self.inside.standings.items ∙ ap (λ (l : LineView). any_past l.members) c.self.view_is))
