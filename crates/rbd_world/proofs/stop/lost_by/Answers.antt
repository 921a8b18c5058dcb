use Rattle.std.proofs.Common.{rules, ◌≡◌, ◌-◌, None, sym, ap, ◌∙◌, arith}
use Rattle.std.specs.List.{insert}
use Rattle.rbd_slots.specs.Session.{held_in, script_line}
use Rattle.rbd_world.specs.Step.{insert_line}
use Rattle.rbd_world.proofs.LostLines.{lines_from, with_line, without_line}
use Rattle.rbd_world.proofs.stop.lost_by.Goals as goal

pub loop-slot-preserved-in-Continue-branch-2 : goal.loop-slot-preserved-in-Continue-branch-2
loop-slot-preserved-in-Continue-branch-2 g c =
    let place = c.place_of-place.result in (
      omega (arith, c.loop-slot.invariant.0),
      c.in_ok-insert.ensures.items
          ∙ ap (λ xs. insert xs place c.in-Some.line) (sym c.as_slice.ensures.value) ∙ c.place_of-place.ensures.place ∙ ap (insert_line c.in-Some.line) c.as_slice.ensures.value
          ∙ with_line (λ slot. script_line (held_in slot c.args.client.now.session.slots)) c.loop-slot.lost.items c.loop-slot.slot c.in-Some.line c.loop-slot-test.true c.loop-slot.invariant.0 c.in-Some.ensures.line
          c.loop-slot.invariant.1,
    )

pub loop-slot-preserved : goal.loop-slot-preserved
loop-slot-preserved g c =
    let free : None ≡ script_line (held_in (c.loop-slot.slot - 1) c.args.client.now.session.slots) = search rules in (
      omega (arith, c.loop-slot.invariant.0),
      without_line (λ slot. script_line (held_in slot c.args.client.now.session.slots)) c.loop-slot.lost.items c.loop-slot.slot c.loop-slot-test.true c.loop-slot.invariant.0 free c.loop-slot.invariant.1,
    )

pub returns : goal.returns
returns g c =
    let first : c.loop-slot.slot ≡ 0 = omega (arith, c.loop-slot-test.false) in
    c.loop-slot.invariant.1 ∙ ap (lines_from (λ slot. script_line (held_in slot c.args.client.now.session.slots))) first
