use Rattle.std.proofs.Common.{◌≡◌, ◌∙◌, Some, refl, sym, ap, subst}
use Rattle.std.proofs.lemmas.Bool.{true≢false}
use Rattle.rbd_slots.specs.Session.{SessionView, IsSoundSession, held_in, refusal_in, reply_of}
use Rattle.rbd_slots.proofs.Shown.{freed_in, kept_in}
use Rattle.rbd_slots.proofs.Sound.{refused_range, refused_goes}
use Rattle.rbd_slots.proofs.session.Session.refuse.Goals as goal

pub free_up-requires : goal.free_up-requires
free_up-requires g c =
    let s : SessionView _ = record { instance = c.self.inside.instance; home = c.self.inside.home; slots = c.self.inside.slots.items; lowest = c.self.inside.lowest; lines = c.self.inside.lines } in
    let is : refusal_in (held_in c.args.slot s.slots) ≡ Some c.in-Some.refusal =
    ap (λ xs. refusal_in (held_in c.args.slot xs)) (sym c.as_slice.ensures.value) ∙ sym c.refusal_at.ensures ∙ c.in-Some.is in
    let within = refused_range g.R.Machine.stands s c.self.invariant c.args.slot c.in-Some.refusal is in
    record { from = within.0; to = within.1; length = c.self.invariant.slots; lowest = c.self.invariant.lowest }

pub invariant_of-self : goal.invariant_of-self
invariant_of-self g c =
    let s : SessionView _ = record { instance = c.self.inside.instance; home = c.self.inside.home; slots = c.self.inside.slots.items; lowest = c.self.inside.lowest; lines = c.self.inside.lines } in
    let is : refusal_in (held_in c.args.slot s.slots) ≡ Some c.in-Some.refusal =
    ap (λ xs. refusal_in (held_in c.args.slot xs)) (sym c.as_slice.ensures.value) ∙ sym c.refusal_at.ensures ∙ c.in-Some.is in
    refused_goes g.R.Machine.stands s c.self.invariant c.args.slot c.in-Some.refusal is c.free_up.new.slots.items c.free_up.new.lowest c.free_up.ensures.slots c.free_up.ensures.lowest

pub returns-clause-reply : goal.returns-clause-reply
returns-clause-reply g c =
    sym (ap reply_of (ap (λ xs. refusal_in (held_in c.args.slot xs)) (sym c.as_slice.ensures.value) ∙ sym c.refusal_at.ensures ∙ c.in-Some.is))
    ∙ ap (λ (v : SessionView _). reply_of (refusal_in (held_in c.args.slot v.slots))) c.self.view_is

pub returns-clause-none : goal.returns-clause-none
returns-clause-none g c = λ none. absurd (true≢false none)

pub returns-clause-some : goal.returns-clause-some
returns-clause-some g c = λ some. freed_in c.self.inside.slots.items c.free_up.new.slots.items c.args.slot c.free_up.ensures.slots

pub returns-clause-others : goal.returns-clause-others
returns-clause-others g c = λ other differ.
    kept_in c.self.inside.slots.items c.free_up.new.slots.items c.args.slot _ c.free_up.ensures.slots other differ ∙ ap (λ (v : SessionView _). held_in other v.slots) c.self.view_is

pub returns-clause-lines : goal.returns-clause-lines
returns-clause-lines g c = ap (λ (v : SessionView _). v.lines) c.self.view_is

pub returns-clause-who : goal.returns-clause-who
returns-clause-who g c = (ap (λ (v : SessionView _). v.instance) c.self.view_is, ap (λ (v : SessionView _). v.home) c.self.view_is)

pub returns-clause-sound : goal.returns-clause-sound
returns-clause-sound g c = invariant_of-self g c

pub returns-in_default : goal.returns-in_default
returns-in_default g c = record {
  reply =
      ap reply_of (sym c.in_default.is ∙ c.refusal_at.ensures ∙ ap (λ xs. refusal_in (held_in c.args.slot xs)) c.as_slice.ensures.value)
      ∙ ap (λ (v : SessionView _). reply_of (refusal_in (held_in c.args.slot v.slots))) c.self.view_is;
  none = λ none. refl;
  some = λ some. absurd (true≢false (sym some));
  others = λ other differ. refl;
  lines = refl;
  who = (refl, refl);
  sound = subst (IsSoundSession g.R.Machine.stands) c.self.view_is c.self.invariant;
}
