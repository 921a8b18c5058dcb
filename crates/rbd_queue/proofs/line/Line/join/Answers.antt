use Rattle.std.proofs.Common.{◌∙◌, ◌++◌, ◌∷◌, [], ap, sym, subst, arith}
use Rattle.rbd_queue.specs.Line.{LineView, is_member, new_member}
use Rattle.rbd_queue.specs.Turns.{holders, held_by}
use Rattle.rbd_queue.proofs.Views.{Holds, members_of, room, after_join}
use Rattle.rbd_queue.proofs.line.Line.join.Goals as goal

pub join_at-requires : goal.join_at-requires
join_at-requires c =
    let few = room (λ slot. held_by slot c.self.inside.turns) (λ object. holders object c.self.inside.turns) c.self.inside.standings.items c.args.slot c.self.invariant.1 c.requires.from c.requires.to
    (ap (λ (l : LineView). is_member c.args.slot l.members) c.self.view_is ∙ c.requires.other) in
    let fits = c.self.invariant.0 in
    let same = c.self.inside.standings.ok.0 in
    omega (arith, few, fits, same)

after : (c : goal.After-join_at)
    → Holds (λ slot. held_by slot c.self.inside.turns) (λ object. holders object c.self.inside.turns) c.join_at.new.members.items
    (members_of (λ slot. held_by slot c.self.inside.turns) c.self.inside.standings.items ++ new_member c.args.slot c.args.sharing ∷ [])
after c =
    subst
    (λ items. Holds (λ slot. held_by slot c.self.inside.turns) (λ object. holders object c.self.inside.turns) items
    (members_of (λ slot. held_by slot c.self.inside.turns) c.self.inside.standings.items ++ new_member c.args.slot c.args.sharing ∷ []))
    (sym c.join_at.ensures.members)
    (after_join (λ slot. held_by slot c.self.inside.turns) (λ object. holders object c.self.inside.turns) c.self.inside.standings.items c.args.slot c.args.sharing c.self.invariant.1 c.requires.from c.requires.to
    (ap (λ (l : LineView). is_member c.args.slot l.members) c.self.view_is ∙ c.requires.other))

pub invariant_of-self : goal.invariant_of-self
invariant_of-self c = (let more = c.join_at.ensures.room in let fits = c.self.invariant.0 in omega (arith, more, fits), (after c).kept)

pub returns-clause-members : goal.returns-clause-members
returns-clause-members c = (after c).seen ∙ ap (λ (l : LineView). l.members ++ new_member c.args.slot c.args.sharing ∷ []) c.self.view_is

pub returns-clause-sound : goal.returns-clause-sound
returns-clause-sound c = (after c).kept.fair
