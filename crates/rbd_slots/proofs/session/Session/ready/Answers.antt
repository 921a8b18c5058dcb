use Rattle.std.proofs.Common.{◌≡◌, ◌∙◌, OnOk, sym, ap, subst, slice_index_or, slice_set}
use Rattle.rbd_slots.specs.Advance.{track_of}
use Rattle.rbd_slots.specs.Lines.{lines_of}
use Rattle.rbd_slots.specs.OnTrack.{IsSomewhere}
use Rattle.rbd_slots.specs.Session.{SessionView, IsSoundSession, OfRunning, IsAnswered, IsAlike, IsReadied, held_in}
use Rattle.rbd_machine.specs.Answers.{CanBeFed}
use Rattle.rbd_machine.specs.Plan.{IsAsking}
use Rattle.rbd_slots.proofs.Alike.{same_lines}
use Rattle.rbd_slots.proofs.Readied.{IsFrom, can_prepare, readied_sound, readied_alike, ready_where_ok}
use Rattle.rbd_slots.proofs.Sound.{stands_at, is_within}
use Rattle.rbd_slots.proofs.session.Session.ready.Goals as goal

answered : (g : _) (c : goal.After-prepare_in-arg-1 g) → OfRunning (IsAnswered g.R.Machine.stands c.args.slot c.self.inside.lines c.args.fed.now) (held_in c.args.slot c.self.inside.slots.items)
answered g c =
    subst (λ (v : SessionView _). OfRunning (IsAnswered g.R.Machine.stands c.args.slot v.lines c.args.fed.now) (held_in c.args.slot v.slots)) (sym c.self.view_is) c.requires

held : (g : _) (c : goal.After-prepare_in-arg-1 g) → held_in c.args.slot c.self.inside.slots.items ≡ c.index_mut.result.now
held g c =
    let s : SessionView _ = record { instance = c.self.inside.instance; home = c.self.inside.home; slots = c.self.inside.slots.items; lowest = c.self.inside.lowest; lines = c.self.inside.lines } in
    stands_at c.self.inside.slots.items c.args.slot c.index_mut.result.now
    (is_within g.R.Machine.stands s c.self.invariant c.args.slot (IsAnswered g.R.Machine.stands c.args.slot c.self.inside.lines c.args.fed.now) (answered g c))
    (c.index_mut.ensures.value ∙ ap (λ k. slice_index_or c.self.inside.slots.items k c.index_mut.result.now) c.slot.view_is)

pub prepare_in-requires : goal.prepare_in-requires
prepare_in-requires g c =
    let s : SessionView _ = record { instance = c.self.inside.instance; home = c.self.inside.home; slots = c.self.inside.slots.items; lowest = c.self.inside.lowest; lines = c.self.inside.lines } in
    subst (OfRunning (λ r. IsAsking (g.R.Machine.stands r.request).plan × CanBeFed (g.R.Machine.stands r.request).plan c.args.fed.now × IsSomewhere c.args.slot (track_of r c.self.inside.lines))) (held g c)
    (can_prepare g.R.Machine.stands s c.self.invariant c.args.slot c.args.fed.now (answered g c))

answered_then : (g : _) (c : goal.After-self-1 g) → OfRunning (IsAnswered g.R.Machine.stands c.args.slot c.self.inside.lines c.args.fed.now) (held_in c.args.slot c.self.inside.slots.items)
answered_then g c =
    subst (λ (v : SessionView _). OfRunning (IsAnswered g.R.Machine.stands c.args.slot v.lines c.args.fed.now) (held_in c.args.slot v.slots)) (sym c.self.view_is) c.requires

held_then : (g : _) (c : goal.After-self-1 g) → held_in c.args.slot c.self.inside.slots.items ≡ c.index_mut.result.now
held_then g c =
    let s : SessionView _ = record { instance = c.self.inside.instance; home = c.self.inside.home; slots = c.self.inside.slots.items; lowest = c.self.inside.lowest; lines = c.self.inside.lines } in
    stands_at c.self.inside.slots.items c.args.slot c.index_mut.result.now
    (is_within g.R.Machine.stands s c.self.invariant c.args.slot (IsAnswered g.R.Machine.stands c.args.slot c.self.inside.lines c.args.fed.now) (answered_then g c))
    (c.index_mut.ensures.value ∙ ap (λ k. slice_index_or c.self.inside.slots.items k c.index_mut.result.now) c.slot.view_is)

lines : (g : _) (c : goal.After-self-1 g) → lines_of c.prepare_in.new.lines ≡ lines_of c.self.inside.lines
lines g c = same_lines c.self.inside.lines c.prepare_in.new.lines c.prepare_in.ensures.lines

from : (g : _) (c : goal.After-self-1 g)
    → OfRunning (IsFrom g.R.Machine.stands g.R.Machine.is_ready c.args.slot c.self.inside.lines c.args.fed.now (OnOk c.prepare_in.result) c.prepare_in.new.lines c.prepare_in.new.occupant)
    (held_in c.args.slot c.self.inside.slots.items)
from g c =
    subst (OfRunning (IsFrom g.R.Machine.stands g.R.Machine.is_ready c.args.slot c.self.inside.lines c.args.fed.now (OnOk c.prepare_in.result) c.prepare_in.new.lines c.prepare_in.new.occupant))
    (sym (held_then g c)) c.prepare_in.ensures.ready

pub invariant_of-self : goal.invariant_of-self
invariant_of-self g c =
    let s : SessionView _ = record { instance = c.self.inside.instance; home = c.self.inside.home; slots = c.self.inside.slots.items; lowest = c.self.inside.lowest; lines = c.self.inside.lines } in
    subst (λ k. IsSoundSession g.R.Machine.stands (record { instance = c.self.inside.instance; home = c.self.inside.home; slots = slice_set c.self.inside.slots.items k c.prepare_in.new.occupant; lowest = c.self.inside.lowest; lines = c.prepare_in.new.lines })) (sym c.slot.view_is)
    (readied_sound g.R.Machine.stands g.R.Machine.is_ready s c.self.invariant c.args.slot c.args.fed.now (OnOk c.prepare_in.result) c.prepare_in.new.occupant c.prepare_in.new.lines (lines g c) c.prepare_in.ensures.used (from g c))

pub returns-clause-alike : goal.returns-clause-alike
returns-clause-alike g c =
    let s : SessionView _ = record { instance = c.self.inside.instance; home = c.self.inside.home; slots = c.self.inside.slots.items; lowest = c.self.inside.lowest; lines = c.self.inside.lines } in
    rw (← c.self.view_is)
    (subst (λ k. IsAlike g.R.Machine.stands s (record { instance = c.self.inside.instance; home = c.self.inside.home; slots = slice_set c.self.inside.slots.items k c.prepare_in.new.occupant; lowest = c.self.inside.lowest; lines = c.prepare_in.new.lines })) (sym c.slot.view_is)
    (readied_alike g.R.Machine.stands g.R.Machine.is_ready s c.self.invariant c.args.slot c.args.fed.now (OnOk c.prepare_in.result) c.prepare_in.new.occupant c.prepare_in.new.lines (lines g c) c.prepare_in.ensures.used (from g c)))

pub returns-clause-ready : goal.returns-clause-ready
returns-clause-ready g c =
    let s : SessionView _ = record { instance = c.self.inside.instance; home = c.self.inside.home; slots = c.self.inside.slots.items; lowest = c.self.inside.lowest; lines = c.self.inside.lines } in
    subst (λ k. OnOk c.prepare_in.result (IsReadied g.R.Machine.stands g.R.Machine.is_ready c.args.slot c.args.fed.now (record { instance = c.self.inside.instance; home = c.self.inside.home; slots = slice_set c.self.inside.slots.items k c.prepare_in.new.occupant; lowest = c.self.inside.lowest; lines = c.prepare_in.new.lines }))) (sym c.slot.view_is)
    (ready_where_ok g.R.Machine.stands c.prepare_in.result g.R.Machine.is_ready s c.self.invariant c.args.slot c.args.fed.now c.prepare_in.new.occupant c.prepare_in.new.lines (lines g c) (from g c) (answered_then g c))

pub returns-clause-sound : goal.returns-clause-sound
returns-clause-sound g c = invariant_of-self g c
