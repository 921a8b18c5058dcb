use Rattle.std.proofs.Common.{◌∙◌, ap, subst}
use Rattle.rbd_slots.specs.Session.{SessionView, IsSoundSession, held_in, script_line}
use Rattle.rbd_slots.proofs.session.Session.line.Goals as goal

pub returns-clause-line : goal.returns-clause-line
returns-clause-line g c =
    c.line_at.ensures ∙ ap (λ xs. script_line (held_in c.args.slot xs)) c.as_slice.ensures.value
    ∙ ap (λ (v : SessionView _). script_line (held_in c.args.slot v.slots)) c.self.view_is

pub returns-clause-sound : goal.returns-clause-sound
returns-clause-sound g c = subst (IsSoundSession g.R.Machine.stands) c.self.view_is c.self.invariant
