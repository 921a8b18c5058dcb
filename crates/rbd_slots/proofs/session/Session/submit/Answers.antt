use Rattle.std.proofs.Common.{◌∙◌, ◌+◌, ◌<◌, ◌≤◌, ℕ, length, None, Some, IsSome, refl, sym, ap, subst, arith}
use Rattle.std.proofs.lemmas.List.{get_or-set_same, length-set}
use Rattle.rbd_slots.specs.Session.{SessionView, IsNewcomer, IsSoundSession, held_in, running_in}
use Rattle.rbd_slots.proofs.Shown.{kept_in}
use Rattle.rbd_slots.proofs.Sound.{set_sound, taken, newcomer_well}
use Rattle.rbd_slots.proofs.session.Session.submit.Goals as goal

free : (g : _) (c : goal.After-self-1 g) → c.self.inside.lowest ≤ 64
free g c = subst (λ (s : SessionView _). s.lowest ≤ 64) (sym c.self.view_is) c.requires.free

pub invariant_of-self : goal.invariant_of-self
invariant_of-self g c =
    let s : SessionView _ = record { instance = c.self.inside.instance; home = c.self.inside.home; slots = c.self.inside.slots.items; lowest = c.self.inside.lowest; lines = c.self.inside.lines } in
    let none = c.self.invariant.others c.self.inside.lowest (ap running_in c.self.invariant.lowest.free) in
    let slots = c.as_slice.ensures.value ∙ c.hold.ensures in
    subst (λ xs. IsSoundSession g.R.Machine.stands (record { instance = c.self.inside.instance; home = c.self.inside.home; slots = xs; lowest = c.next_free-self-inside.result; lines = c.self.inside.lines })) (sym c.hold.ensures)
    (set_sound g.R.Machine.stands s c.self.invariant c.self.inside.lowest c.self.invariant.lowest.some (free g c) (Some c.in-Ok.occupant) c.next_free-self-inside.result c.self.inside.lines
    (λ other differ site image. refl) c.self.invariant.fair c.self.invariant.used
    (taken c.self.inside.slots.items c.self.inside.lowest c.in-Ok.occupant c.next_free-self-inside.result c.self.invariant.lowest c.self.invariant.slots (free g c)
    c.next_free-self-inside.ensures.from c.next_free-self-inside.ensures.to
    (subst (λ xs. (slot : ℕ) → c.self.inside.lowest + 1 ≤ slot → slot < c.next_free-self-inside.result → IsSome (held_in slot xs)) slots c.next_free-self-inside.ensures.below)
    (ap (held_in c.next_free-self-inside.result) (sym slots) ∙ c.next_free-self-inside.ensures.free))
    (newcomer_well g.R.Machine.stands g.R.Request.stands_for g.R.Request.extent_for (record { session = c.self.inside.instance.session; home = c.self.inside.home }) c.args.line c.args.work c.self.inside.lowest c.in-Ok.occupant c.self.inside.lines
    (λ to there asks. g.met.R.Request.orderly (record { session = c.self.inside.instance.session; home = c.self.inside.home }) c.args.work to c.requires.serves there asks) none c.in-Ok.ensures))

pub returns-in-Ok-clause-held : goal.returns-in-Ok-clause-held
returns-in-Ok-clause-held g c =
    rw (← c.self.view_is)
    (subst (IsNewcomer g.R.Machine.stands g.R.Request.stands_for g.R.Request.extent_for (record { session = c.self.inside.instance.session; home = c.self.inside.home }) c.args.line c.args.work)
    (sym (ap (held_in c.self.inside.lowest) c.hold.ensures ∙ get_or-set_same c.self.inside.slots.items c.self.inside.lowest (Some c.in-Ok.occupant) None (let len = c.self.invariant.slots in let few = free g c in omega (arith, len, few))))
    c.in-Ok.ensures)

pub returns-in-Ok-clause-sound : goal.returns-in-Ok-clause-sound
returns-in-Ok-clause-sound g c = invariant_of-self g c

pub newcomer-requires : goal.newcomer-requires
newcomer-requires g c = c.requires.serves

pub hold-requires : goal.hold-requires
hold-requires g c = record { to = subst (λ (s : SessionView _). s.lowest ≤ 64) (sym c.self.view_is) c.requires.free; length = c.self.invariant.slots }

pub next_free-self-inside-requires : goal.next_free-self-inside-requires
next_free-self-inside-requires g c =
    let few : c.self.inside.lowest ≤ 64 = subst (λ (s : SessionView _). s.lowest ≤ 64) (sym c.self.view_is) c.requires.free in
    record {
      length =
          ap length (c.as_slice.ensures.value ∙ c.hold.ensures) ∙ length-set c.self.inside.slots.items c.self.inside.lowest (Some c.in-Ok.occupant) ∙ c.self.invariant.slots;
      from = omega (arith, few);
    }

pub returns-in-Ok-clause-slot : goal.returns-in-Ok-clause-slot
returns-in-Ok-clause-slot g c = ap (λ (v : SessionView _). v.lowest) c.self.view_is

pub returns-in-Ok-clause-others : goal.returns-in-Ok-clause-others
returns-in-Ok-clause-others g c = λ slot differ.
    kept_in c.self.inside.slots.items c.hold.new.slots.items c.self.inside.lowest _ c.hold.ensures slot (λ same. differ (same ∙ ap (λ (v : SessionView _). v.lowest) c.self.view_is))
    ∙ ap (λ (v : SessionView _). held_in slot v.slots) c.self.view_is

pub returns-in-Ok-clause-lines : goal.returns-in-Ok-clause-lines
returns-in-Ok-clause-lines g c = ap (λ (v : SessionView _). v.lines) c.self.view_is

pub returns-in-Ok-clause-who : goal.returns-in-Ok-clause-who
returns-in-Ok-clause-who g c = (ap (λ (v : SessionView _). v.instance) c.self.view_is, ap (λ (v : SessionView _). v.home) c.self.view_is)

pub returns-in-Err : goal.returns-in-Err
returns-in-Err g c = record {
  slot = tt;
  held = tt;
  others = λ slot differ. refl;
  lines = refl;
  who = (refl, refl);
  err = refl;
  sound = subst (IsSoundSession g.R.Machine.stands) c.self.view_is c.self.invariant;
}
