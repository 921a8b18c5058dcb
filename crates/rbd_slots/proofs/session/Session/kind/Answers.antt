use Rattle.std.proofs.Common.{◌∙◌, ap, subst}
use Rattle.rbd_slots.specs.Session.{SessionView, IsSoundSession, kind_asked, of_going}
use Rattle.rbd_slots.proofs.Shown.{next_there, asks_there, going_there}
use Rattle.rbd_slots.proofs.session.Session.kind.Goals as goal

pub kind_in-requires : goal.kind_in-requires
kind_in-requires g c =
    let s : SessionView _ = record { instance = c.self.inside.instance; home = c.self.inside.home; slots = c.self.inside.slots.items; lowest = c.self.inside.lowest; lines = c.self.inside.lines } in
    record {
      next = next_there g.R.Machine.stands s c.self.invariant c.args.slot c.as_slice.result.now c.as_slice.ensures.value;
      asks = asks_there g.R.Machine.stands s c.self.invariant c.args.slot c.as_slice.result.now c.as_slice.ensures.value;
    }

pub returns-clause-kind : goal.returns-clause-kind
returns-clause-kind g c =
    let s : SessionView _ = record { instance = c.self.inside.instance; home = c.self.inside.home; slots = c.self.inside.slots.items; lowest = c.self.inside.lowest; lines = c.self.inside.lines } in
    c.kind_in.ensures
    ∙ ap (of_going g.R.Machine.stands kind_asked) (going_there g.R.Machine.stands s c.self.invariant c.args.slot c.as_slice.result.now c.as_slice.ensures.value c.args.self.now c.self.view_is)

pub returns-clause-sound : goal.returns-clause-sound
returns-clause-sound g c = subst (IsSoundSession g.R.Machine.stands) c.self.view_is c.self.invariant
