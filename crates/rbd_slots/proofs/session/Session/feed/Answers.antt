use Rattle.std.proofs.Common.{◌≡◌, ◌∙◌, ◌<◌, None, length, sym, ap, subst, slice_index_or, slice_set}
use Rattle.std.proofs.lemmas.List.{get_or-set_same}
use Rattle.rbd_queue.specs.Line.{member_of}
use Rattle.rbd_slots.specs.Advance.{IsFedWell}
use Rattle.rbd_slots.specs.Lines.{lines_of}
use Rattle.rbd_slots.specs.Session.{SessionView, IsSoundSession, OfRunning, ComesToIn, IsReadied, held_in, lowest_after}
use Rattle.rbd_slots.proofs.Sound.{fed_sound, stands_at, is_within}
use Rattle.rbd_slots.proofs.session.Session.feed.Goals as goal

within : (g : _) (c : goal.After-self-2-1 g) → c.args.slot < length c.self.inside.slots.items
within g c =
    let s : SessionView _ = record { instance = c.self.inside.instance; home = c.self.inside.home; slots = c.self.inside.slots.items; lowest = c.self.inside.lowest; lines = c.self.inside.lines } in
    is_within g.R.Machine.stands s c.self.invariant c.args.slot (λ r. IsFedWell g.R.Machine.stands g.R.Machine.is_ready c.args.slot r c.self.inside.lines c.args.fed.now)
    (subst (IsReadied g.R.Machine.stands g.R.Machine.is_ready c.args.slot c.args.fed.now) (sym c.self.view_is) c.requires)

held : (g : _) (c : goal.After-self-2-1 g) → held_in c.args.slot c.self.inside.slots.items ≡ c.index_mut.result.now
held g c =
    stands_at c.self.inside.slots.items c.args.slot c.index_mut.result.now (within g c)
    (c.index_mut.ensures.value ∙ ap (λ k. slice_index_or c.self.inside.slots.items k c.index_mut.result.now) c.slot.view_is)

comes : (g : _) (c : goal.After-self-2-1 g)
    → OfRunning (λ r. ComesToIn g.R.Machine.stands c.args.slot c.self.inside.lines c.args.fed.now c.feed_in-reply.result r c.feed_in-reply.new.occupant c.feed_in-reply.new.lines)
    (held_in c.args.slot c.self.inside.slots.items)
comes g c =
    subst (OfRunning (λ r. ComesToIn g.R.Machine.stands c.args.slot c.self.inside.lines c.args.fed.now c.feed_in-reply.result r c.feed_in-reply.new.occupant c.feed_in-reply.new.lines))
    (sym (held g c)) c.feed_in-reply.ensures.comes

pub invariant_of-self : goal.invariant_of-self
invariant_of-self g c =
    let s : SessionView _ = record { instance = c.self.inside.instance; home = c.self.inside.home; slots = c.self.inside.slots.items; lowest = c.self.inside.lowest; lines = c.self.inside.lines } in
    let sound =
    fed_sound g.R.Machine.stands s c.self.invariant c.args.slot c.args.fed.now c.feed_in-reply.result c.feed_in-reply.new.occupant c.feed_in-reply.new.lines (comes g c)
    c.feed_in-reply.ensures.keeps c.feed_in-reply.ensures.others c.feed_in-reply.ensures.fair (c.feed_in-reply.ensures.used c.self.invariant.used) in
    subst (λ k. IsSoundSession g.R.Machine.stands (record { instance = c.self.inside.instance; home = c.self.inside.home; slots = slice_set c.self.inside.slots.items k c.feed_in-reply.new.occupant; lowest = c.lowest_behind-self-inside.result; lines = c.feed_in-reply.new.lines }))
    (sym c.slot.view_is)
    (subst (λ low. IsSoundSession g.R.Machine.stands (record { instance = c.self.inside.instance; home = c.self.inside.home; slots = slice_set c.self.inside.slots.items c.args.slot c.feed_in-reply.new.occupant; lowest = low; lines = c.feed_in-reply.new.lines }))
    (sym (c.lowest_behind-self-inside.ensures ∙ ap (lowest_after c.self.inside.lowest c.args.slot) c.is_some.ensures)) sound)

pub returns-clause-fed : goal.returns-clause-fed
returns-clause-fed g c =
    rw (← c.self.view_is)
    (subst (λ o. OfRunning (λ r. ComesToIn g.R.Machine.stands c.args.slot c.self.inside.lines c.args.fed.now c.feed_in-reply.result r o c.feed_in-reply.new.lines) (held_in c.args.slot c.self.inside.slots.items))
    (sym (ap (λ k. held_in c.args.slot (slice_set c.self.inside.slots.items k c.feed_in-reply.new.occupant)) c.slot.view_is
    ∙ get_or-set_same c.self.inside.slots.items c.args.slot c.feed_in-reply.new.occupant None (within g c)))
    (comes g c))

pub returns-clause-others : goal.returns-clause-others
returns-clause-others g c = λ other differ site image.
    c.feed_in-reply.ensures.others other differ site image ∙ ap (λ (v : SessionView _). member_of other (lines_of v.lines site image)) c.self.view_is

pub returns-clause-sound : goal.returns-clause-sound
returns-clause-sound g c = invariant_of-self g c
