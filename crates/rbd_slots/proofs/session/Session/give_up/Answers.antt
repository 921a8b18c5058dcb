use Rattle.std.proofs.Common.{◌≡◌, Some, None, IsSome, refl, sym, ap, subst, ◌∙◌}
use Rattle.std.proofs.lemmas.Bool.{true≢false}
use Rattle.std.specs.Option.{option_map}
use Rattle.std.proofs.lemmas.Option.{none-some, same_Some}
use Rattle.rbd_queue.specs.Line.{member_of, without}
use Rattle.rbd_slots.specs.declared.running.Running.{Running}
use Rattle.rbd_slots.specs.Lines.{lines_of}
use Rattle.rbd_slots.specs.Session.{SessionView, IsSoundSession, held_in, running_in, running_at}
use Rattle.rbd_slots.specs.Track.{line_changed_at}
use Rattle.rbd_slots.proofs.Alike.{changes_lines}
use Rattle.rbd_slots.proofs.GivenUp.{within, leaves_others, given_up}
use Rattle.rbd_slots.proofs.Shown.{freed_in, kept_in}
use Rattle.rbd_slots.proofs.session.Session.give_up.Goals as goal

-- the session before, the request that runs there, and the lines that it left
abbrev before : (g : _) → goal.After-free_up g → SessionView g.row.R.Denot
before g c = record { instance = c.self.inside.instance; home = c.self.inside.home; slots = c.self.inside.slots.items; lowest = c.self.inside.lowest; lines = c.self.inside.lines }

runs : (g : _) (c : goal.After-free_up g) → running_at c.args.slot (before g c) ≡ Some c.in-Some.running.now
runs g c =
    ap (λ xs. running_in (held_in c.args.slot xs)) (sym c.as_slice.ensures.value) ∙ sym c.running_in.ensures
    ∙ ap (option_map (λ (r : _). r.now)) c.in-Some.is

left : (g : _) (c : goal.After-free_up g) → lines_of c.leave.new.self ≡ line_changed_at c.in-Some.running.now.place (without c.args.slot) (lines_of c.self.inside.lines)
left g c = changes_lines c.in-Some.running.now.place (without c.args.slot) c.self.inside.lines c.leave.new.self c.leave.ensures.lines

pub invariant_of-self : goal.invariant_of-self
invariant_of-self g c =
    given_up g.R.Machine.stands (before g c) c.self.invariant c.args.slot c.in-Some.running.now (runs g c) c.leave.new.self (left g c) c.leave.ensures.used c.free_up.new.slots.items c.free_up.new.lowest
    c.free_up.ensures.slots c.free_up.ensures.lowest

pub returns-clause-left : goal.returns-clause-left
returns-clause-left g c = λ r is.
    left g c
    ∙ ap (λ (q : Running _). line_changed_at q.place (without c.args.slot) (lines_of c.self.inside.lines)) (same_Some c.in-Some.running.now r (sym (runs g c) ∙ ap (running_at c.args.slot) c.self.view_is ∙ is))
    ∙ ap (λ (v : SessionView _). line_changed_at r.place (without c.args.slot) (lines_of v.lines)) c.self.view_is

pub returns-clause-lines : goal.returns-clause-lines
returns-clause-lines g c = λ other differ site image.
    leaves_others g.R.Machine.stands (before g c) c.self.invariant c.args.slot c.in-Some.running.now (runs g c) c.leave.new.self (left g c) c.leave.ensures.used other differ site image
    ∙ ap (λ (v : SessionView _). member_of other (lines_of v.lines site image)) c.self.view_is

pub returns-clause-sound : goal.returns-clause-sound
returns-clause-sound g c = invariant_of-self g c

pub free_up-requires : goal.free_up-requires
free_up-requires g c =
    let s : SessionView _ = record { instance = c.self.inside.instance; home = c.self.inside.home; slots = c.self.inside.slots.items; lowest = c.self.inside.lowest; lines = c.self.inside.lines } in
    let is : running_at c.args.slot s ≡ Some c.in-Some.running.now =
    ap (λ xs. running_in (held_in c.args.slot xs)) (sym c.as_slice.ensures.value) ∙ sym c.running_in.ensures ∙ ap (option_map (λ (r : _). r.now)) c.in-Some.is in
    let range = within g.R.Machine.stands s c.self.invariant c.args.slot c.in-Some.running.now is in
    record { from = range.0; to = range.1; length = c.self.invariant.slots; lowest = c.self.invariant.lowest }

pub returns-clause-free : goal.returns-clause-free
returns-clause-free g c = λ some. freed_in c.self.inside.slots.items c.free_up.new.slots.items c.args.slot c.free_up.ensures.slots

pub returns-clause-none : goal.returns-clause-none
returns-clause-none g c = λ none. absurd (none-some c.in-Some.running.now (sym none ∙ sym (ap (running_at c.args.slot) c.self.view_is) ∙ runs g c))

pub returns-clause-others : goal.returns-clause-others
returns-clause-others g c = λ other differ.
    kept_in c.self.inside.slots.items c.free_up.new.slots.items c.args.slot _ c.free_up.ensures.slots other differ ∙ ap (λ (v : SessionView _). held_in other v.slots) c.self.view_is

pub returns-clause-who : goal.returns-clause-who
returns-clause-who g c = (ap (λ (v : SessionView _). v.instance) c.self.view_is, ap (λ (v : SessionView _). v.home) c.self.view_is)

pub returns-in_default : goal.returns-in_default
returns-in_default g c =
    let is : running_at c.args.slot c.args.self.now ≡ None =
    sym (ap (running_at c.args.slot) c.self.view_is) ∙ ap (λ xs. running_in (held_in c.args.slot xs)) (sym c.as_slice.ensures.value) ∙ sym c.running_in.ensures
    ∙ ap (option_map (λ (r : _). r.now)) c.in_default.is in
    record {
      free = λ some. absurd (true≢false (sym (subst IsSome is some)));
      none = λ none. refl;
      others = λ other differ. refl;
      left = λ r at. absurd (none-some r (sym is ∙ at));
      lines = λ other differ site image. refl;
      who = (refl, refl);
      sound = subst (IsSoundSession g.R.Machine.stands) c.self.view_is c.self.invariant;
    }
