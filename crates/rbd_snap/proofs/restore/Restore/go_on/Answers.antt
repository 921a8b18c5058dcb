use Rattle.std.proofs.Common.{All, ◌∷◌, subst}
use Rattle.rbd_machine.specs.Steps.{IsGoing}
use Rattle.rbd_snap.specs.Restore.{HasWholeObject, Restoring, rest_of_others, rest_of_restore}
use Rattle.rbd_snap.specs.declared.restore.Stage.TheVariants as stage
use Rattle.rbd_snap.proofs.Restored.{goes_to_next, later_objects}
use Rattle.rbd_snap.proofs.restore.Restore.go_on.Goals as goal

pub invariant_of-self-in-Some : goal.invariant_of-self-in-Some
invariant_of-self-in-Some c =
    let i = c.self.inside in
    (c.self.invariant.0, c.self.invariant.1, later_objects i.header i.piece (c.in-Some.piece ∷ c.pop_front.new.self.items) (subst (λ pieces. All (HasWholeObject i.header) (i.piece ∷ pieces)) c.in-Some.ensures.items c.self.invariant.2))

pub returns-in-Some : goal.returns-in-Some
returns-in-Some c = λ next.
    let i = c.self.inside in
    let old : Restoring = record { site = i.site; image = i.image; header = i.header; snap = i.snap; piece = i.piece; others = i.others.items; stage = i.stage; readied = i.readied } in
    let to : Restoring = record { site = i.site; image = i.image; header = i.header; snap = i.snap; piece = c.in-Some.piece; others = c.pop_front.new.self.items; stage = stage.Reading; readied = i.readied } in
    subst (λ (v : Restoring). IsGoing (rest_of_others v next) (rest_of_restore to next)) c.self.view_is
    (goes_to_next old c.in-Some.piece c.pop_front.new.self.items next c.in-Some.ensures.items)
