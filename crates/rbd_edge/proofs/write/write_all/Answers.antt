use Rattle.std.proofs.Common.{◌≡◌, ℕ, List, ◌-◌, ◌≤◌, length, take, drop, length-drop, arith, subst, ◌∙◌}
use Rattle.std.proofs.lemmas.List.{take_all}
use Rattle.rbd_edge.specs.Sink.{held_with}
use Rattle.rbd_edge.proofs.Told.{held_with-more}
use Rattle.rbd_edge.proofs.write.write_all.Goals as goal

pub loop-given-preserved : goal.loop-given-preserved
loop-given-preserved g c =
    let text = c.args.text.now in
    let k = c.loop-given.given in
    let n = c.in_ok-given.field-0 in
    let so_far = c.loop-given.invariant in
    let rest : take (length text - k) (drop k text) ≡ drop k text = take_all (length text - k) (drop k text) (omega (arith, length-drop k text)) in
    let P : List ℕ → Type 0 = λ part. g.K.Sink.held c.give.new.self ≡ held_with (take n part) (g.K.Sink.held c.loop-given.sink) in
    record {
      within = omega (arith, length-drop k text, subst (λ (part : List ℕ). n ≤ length part) rest c.in_ok-given.ensures.bound);
      gained = held_with-more k n text _ _ _ so_far.gained (subst P rest c.in_ok-given.ensures.gained);
      quiet = c.in_ok-given.ensures.quiet ∙ so_far.quiet;
    }
