use Rattle.std.proofs.Common.{◌∙◌, ap, subst}
use Rattle.rbd_slots.specs.Session.{SessionView, IsSoundSession, going_in, held_in, look_under_lock_in, look_under_lock_at}
use Rattle.rbd_slots.proofs.Shown.{next_there, asks_there}
use Rattle.rbd_slots.proofs.session.Session.look_under_lock.Goals as goal

pub look_under_lock-requires : goal.look_under_lock-requires
look_under_lock-requires g c =
    let s : SessionView _ = record { instance = c.self.inside.instance; home = c.self.inside.home; slots = c.self.inside.slots.items; lowest = c.self.inside.lowest; lines = c.self.inside.lines } in
    record {
      next = next_there g.R.Machine.stands s c.self.invariant c.args.slot c.as_slice.result.now c.as_slice.ensures.value;
      asks = asks_there g.R.Machine.stands s c.self.invariant c.args.slot c.as_slice.result.now c.as_slice.ensures.value;
    }

pub returns-clause-look : goal.returns-clause-look
returns-clause-look g c =
    c.look_under_lock.ensures ∙ ap (λ xs. look_under_lock_in g.R.Machine.stands c.args.slot c.self.inside.lines (going_in c.args.slot (held_in c.args.slot xs) c.self.inside.lines)) c.as_slice.ensures.value
    ∙ ap (look_under_lock_at g.R.Machine.stands c.args.slot) c.self.view_is

pub returns-clause-sound : goal.returns-clause-sound
returns-clause-sound g c = subst (IsSoundSession g.R.Machine.stands) c.self.view_is c.self.invariant
